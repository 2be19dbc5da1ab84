-- A law of the lines by which somebody enters an object, or finds one held: where who acts keeps it by what is shown before its effect,
-- the lines of the effect keep it, since up to that line nothing is said of levels.
use Rattle.ceiling_laws.proofs.Runs.EnterLemmas.{IsQuiet}
use Rattle.ceiling_laws.proofs.Runs.LevelMoves.{is_apart, said_so}
use Rattle.profile_machine.specs.Lines.{event_of}
use Rattle.profile_machine.specs.Steps.{in_order, is_part_before}
use Rattle.profile_image.specs.declared.image.Image.{Image}
use Rattle.profile_machine.specs.declared.world.lines.Line.{Line}
use Rattle.profile_machine.specs.declared.world.lines.Part.TheVariants.{Own}
use Rattle.profile_machine.specs.declared.world.lines.Said.{Said}
use Rattle.std.proofs.Common.{Bool, List, [], ap, false, inl, inr, subst, sym, true, ◌++◌, ◌∙◌, ◌∷◌, ◌≡◌}
use Rattle.line_laws.proofs.Ticks.LineByLine.{Follow}
use Rattle.line_laws.proofs.Ticks.ReleaseLemmas.{events_of}
use Rattle.trace_text.specs.declared.events.Event.{Event}
use Rattle.ceiling_laws.proofs.Runs.BegunLines.{Begun, Each, begun-append, begun-first, begun-in_order}
use Rattle.blocking_laws.proofs.EnterLemmas.{IsLate, IsNoCome, is_coming, quiet-is_coming, quiet-late}

late-none_comes : (xs : List Said) → Each IsLate xs → Each IsNoCome xs
late-none_comes [] h = tt
late-none_comes (x ∷ xs) h = (h.0.0, late-none_comes xs h.1)

-- what stands before the own lines says nothing of levels
early-quiet : (x : Said) → IsLate x → is_part_before x.part Own ≡ true → IsQuiet x
early-quiet x (other, inl e) sooner = e
early-quiet x (other, inr late) sooner = absurd (let never : true ≡ false = sym sooner ∙ late in cc)

module _ {S : Type 0} (see : S → Event → S) (lawful : S → Event → Bool) where
  -- what it asks of other lines, and what is shown behind lines that say nothing of levels
  pub record OfEnters (p : Image) : Type 0 where
    pub others : (s : S) (x : Line) → is_coming x ≡ false → lawful s (event_of p x) ≡ true
    pub still : (s : S) (x : Line) → is_apart x ≡ false → see s (event_of p x) ≡ s

  -- the line by which somebody comes to an object rightly
  pub record Begins (s : S) (x : Said) : Type 0 where
    pub came : Line
    pub said : x ≡ said_so Own came
    pub right : (p : Image) → lawful s (event_of p came) ≡ true

  -- one such line behind lines that say nothing of levels
  abbrev pub Entered : S → List Said → Type 0
  Entered s = Begun IsQuiet (Begins s) IsLate

  pub entered-append : (s : S) (xs : List Said) (x : Said) → Entered s xs → IsLate x → Entered s (xs ++ x ∷ [])
  entered-append s xs x h late = begun-append IsQuiet (Begins s) IsLate xs x h late

  pub entered-begins : (s : S) (xs : List Said) (x : Said) → Each IsQuiet xs → Begins s x → Entered s (xs ++ x ∷ [])
  entered-begins s xs x q b = begun-first IsQuiet (Begins s) IsLate xs x q b

  begins-own : (s : S) (x : Said) → Begins s x → x.part ≡ Own
  begins-own s x b = ap (λ (y : Said). y.part) b.said

  pub entered-in_order : (s : S) (xs : List Said) → Entered s xs → Entered s (in_order xs)
  entered-in_order s xs h = begun-in_order IsQuiet (Begins s) IsLate (begins-own s) quiet-late early-quiet xs h

  -- ---- the law

  module _ {p : Image} (law : OfEnters p) where
    pub none_come-lawful : (s : S) (xs : List Said) → Each IsNoCome xs → Follow see lawful s (events_of p xs)
    none_come-lawful s [] h = tt
    none_come-lawful s (x ∷ xs) h = (law.others s x.line h.0, none_come-lawful (see s (event_of p x.line)) xs h.1)

    pub entered-lawful : (s : S) (xs : List Said) → Entered s xs → Follow see lawful s (events_of p xs)
    entered-lawful s [] h = absurd h
    entered-lawful s (x ∷ xs) (inl h) = (
      law.others s x.line (quiet-is_coming x.line h.0),
      subst (λ t. Follow see lawful t (events_of p xs)) (sym (law.still s x.line h.0)) (entered-lawful s xs h.1),
    )
    entered-lawful s (x ∷ xs) (inr h) =
        (ap (λ (z : Said). lawful s (event_of p z.line)) h.0.said ∙ h.0.right p, none_come-lawful (see s (event_of p x.line)) xs (late-none_comes xs h.1))
