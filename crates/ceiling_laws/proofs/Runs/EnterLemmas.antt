-- Actions begin first: where lines show the place and the base of who acts and the ceilings, the lines of its effect keep the law
-- of ceilings.
use Rattle.ann_base.specs.declared.identities.ObjectNo.{ObjectNo}
use Rattle.ceiling_laws.proofs.Runs.BegunLines.{Begun, Each, begun-append, begun-first, begun-in_order}
use Rattle.ceiling_laws.proofs.Runs.LevelMoves.{is_apart, said_so}
use Rattle.profile_machine.specs.Lines.{event_of}
use Rattle.profile_machine.specs.Steps.{in_order, is_part_before}
use Rattle.profile_image.specs.declared.image.Image.{Image}
use Rattle.profile_machine.specs.declared.world.lines.Line.{Line}
use Rattle.profile_machine.specs.declared.world.lines.Line.TheVariants as line
use Rattle.profile_machine.specs.declared.world.lines.Part.TheVariants.{Own}
use Rattle.profile_machine.specs.declared.world.lines.Said.{Said}
use Rattle.std.proofs.Common.{Bool, List, [], ap, false, inl, inr, refl, subst, sym, true, ◌++◌, ◌∙◌, ◌∷◌, ◌≡◌, ◌⊎◌}
use Rattle.line_laws.proofs.Ticks.LineByLine.{Follow}
use Rattle.line_laws.proofs.Ticks.ReleaseLemmas.{events_of}
use Rattle.trace_text.specs.Laws.{Levels, see_levels, is_below_ceiling}
use Rattle.trace_text.specs.declared.events.Event.{Event}
use Rattle.trace_text.specs.declared.events.Event.TheVariants as written
use Rattle.trace_text.specs.declared.events.Mode.{Mode}
use Rattle.trace_text.specs.declared.events.Who.{Who}

-- ---- lines of an effect

abbrev pub is_enter : Line → Bool
is_enter (line.Enter name object mode) = true
is_enter _ = false

abbrev pub IsQuiet : Said → Type 0
IsQuiet x = is_apart x.line ≡ false

abbrev pub IsNoEnter : Said → Type 0
IsNoEnter x = is_enter x.line ≡ false

-- a line behind that of an action: it says nothing of levels, or stands in a late part
abbrev pub IsLate : Said → Type 0
IsLate x = IsNoEnter x × (IsQuiet x ⊎ (is_part_before x.part Own ≡ false))

-- the line of an action that begins rightly
pub record Begins (sight : Levels) (x : Said) : Type 0 where
  pub name : Who
  pub object : ObjectNo
  pub mode : Mode
  pub said : x ≡ said_so Own (line.Enter name object mode)
  pub below : is_below_ceiling sight (written.Enter name object mode) ≡ true

-- one such line behind lines that say nothing of levels
abbrev pub Entered : Levels → List Said → Type 0
Entered sight = Begun IsQuiet (Begins sight) IsLate

pub quiet-no_enter : (x : Line) → is_apart x ≡ false → is_enter x ≡ false
quiet-no_enter (line.Enter name object mode) e = e
quiet-no_enter _ e = refl

pub all_quiet-no_enter : (xs : List Said) → Each IsQuiet xs → Each IsNoEnter xs
all_quiet-no_enter [] q = tt
all_quiet-no_enter (x ∷ xs) q = (quiet-no_enter x.line q.0, all_quiet-no_enter xs q.1)

pub entered-append : (sight : Levels) (xs : List Said) (x : Said) → Entered sight xs → IsLate x → Entered sight (xs ++ x ∷ [])
entered-append sight xs x h late = begun-append IsQuiet (Begins sight) IsLate xs x h late

pub entered-begins : (sight : Levels) (xs : List Said) (x : Said) → Each IsQuiet xs → Begins sight x → Entered sight (xs ++ x ∷ [])
entered-begins sight xs x q b = begun-first IsQuiet (Begins sight) IsLate xs x q b

-- ---- in order

pub quiet-late : (x : Said) → is_apart x.line ≡ false → IsLate x
quiet-late x e = (quiet-no_enter x.line e, inl e)

-- what stands before the own lines says nothing of levels
early-quiet : (x : Said) → IsLate x → is_part_before x.part Own ≡ true → is_apart x.line ≡ false
early-quiet x (other, inl e) sooner = e
early-quiet x (other, inr late) sooner = absurd (let never : true ≡ false = sym sooner ∙ late in cc)

begins-own : (sight : Levels) (x : Said) → Begins sight x → x.part ≡ Own
begins-own sight x b = ap (λ (y : Said). y.part) b.said

pub entered-in_order : (sight : Levels) (xs : List Said) → Entered sight xs → Entered sight (in_order xs)
entered-in_order sight xs h = begun-in_order IsQuiet (Begins sight) IsLate (begins-own sight) quiet-late early-quiet xs h

-- ---- the law

abbrev pub Lawful : Levels → List Event → Type 0
Lawful = Follow see_levels is_below_ceiling

no_enter-lawful : (p : Image) (sight : Levels) (x : Line) → is_enter x ≡ false → is_below_ceiling sight (event_of p x) ≡ true
no_enter-lawful p sight (line.Enter name object mode) e = cc
no_enter-lawful p sight _ e = refl

pub no_enters-lawful : (p : Image) (sight : Levels) (xs : List Said) → Each IsNoEnter xs → Lawful sight (events_of p xs)
no_enters-lawful p sight [] h = tt
no_enters-lawful p sight (x ∷ xs) h = (no_enter-lawful p sight x.line h.0, no_enters-lawful p (see_levels sight (event_of p x.line)) xs h.1)

late-no_enter : (xs : List Said) → Each IsLate xs → Each IsNoEnter xs
late-no_enter [] h = tt
late-no_enter (x ∷ xs) h = (h.0.0, late-no_enter xs h.1)

quiet-sight : (p : Image) (sight : Levels) (x : Line) → is_apart x ≡ false → see_levels sight (event_of p x) ≡ sight
quiet-sight p sight (line.New what declared level) e = cc
quiet-sight p sight (line.Ready who level end deadline) e = cc
quiet-sight p sight (line.Block who waits) e = cc
quiet-sight p sight (line.Base task level) e = cc
quiet-sight p sight (line.Done task) e = cc
quiet-sight p sight (line.Enter who object mode) e = cc
quiet-sight p sight _ e = refl

pub entered-lawful : (p : Image) (sight : Levels) (xs : List Said) → Entered sight xs → Lawful sight (events_of p xs)
entered-lawful p sight [] h = absurd h
entered-lawful p sight (x ∷ xs) (inl h) = (
  no_enter-lawful p sight x.line (quiet-no_enter x.line h.0),
  subst (λ s. Lawful s (events_of p xs)) (sym (quiet-sight p sight x.line h.0)) (entered-lawful p sight xs h.1),
)
entered-lawful p sight (x ∷ xs) (inr h) = (
  ap (λ (z : Said). is_below_ceiling sight (event_of p z.line)) h.0.said ∙ h.0.below,
  no_enters-lawful p (see_levels sight (event_of p x.line)) xs (late-no_enter xs h.1),
)
