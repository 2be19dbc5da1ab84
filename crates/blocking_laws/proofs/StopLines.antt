-- The lines of an effect by which somebody blocks stand in the last part, and those of protected actions in the own part at last: what
-- is open at a late line is open behind the effect.
use Rattle.std.proofs.Common.{◌≡◌, ◌⊎◌, inl, inr, Bool, true, false, cond, List, [], ◌∷◌, refl, sym, ap, subst, ◌∙◌}
use Rattle.std.specs.Prelude.{not}
use Rattle.std.proofs.lemmas.Bool.{false≢true}
use Rattle.trace_text.specs.declared.events.Action as shown
use Rattle.trace_text.specs.declared.events.Created.TheVariants as created
use Rattle.trace_text.specs.declared.events.Event.{Event}
use Rattle.trace_text.specs.Laws.{actions_after}
use Rattle.profile_image.specs.declared.image.Image.{Image}
use Rattle.profile_machine.specs.Lines.{event_of}
use Rattle.profile_machine.specs.Steps.{in_order, is_part_before, put_in_order}
use Rattle.profile_machine.specs.declared.world.lines.Line.{Line}
use Rattle.profile_machine.specs.declared.world.lines.Line.TheVariants as line
use Rattle.profile_machine.specs.declared.world.lines.Part.{Part}
use Rattle.profile_machine.specs.declared.world.lines.Part.TheVariants.{TheCall, TheFinish, Own, OfOther, ThePlacing, TheBlock}
use Rattle.profile_machine.specs.declared.world.lines.Said.{Said}
use Rattle.machine_laws.proofs.QueueLemmas.{by_test}
use Rattle.line_laws.proofs.Ticks.LineByLine.{Follow, seen_behind}
use Rattle.line_laws.proofs.Ticks.ReleaseLemmas.{events_of}
use Rattle.ceiling_laws.proofs.Runs.BegunLines.{Each}
use Rattle.ceiling_laws.proofs.Runs.LevelMoves.{is_apart, said_so}
use Rattle.blocking_laws.specs.FreeLines.{blocks_free}
use Rattle.blocking_laws.specs.Stretches.{has_open}
use Rattle.blocking_laws.proofs.EachLine.{OfEffects}

-- ---- parts

-- an action begins or ends, and somebody blocks
abbrev pub is_action : Line → Bool
is_action (line.Enter name object mode) = true
is_action (line.Exit name object) = true
is_action _ = false

abbrev pub is_stop : Line → Bool
is_stop (line.Block name waits) = true
is_stop _ = false

-- actions are told by own lines at last, and somebody blocks in the last part alone
abbrev pub Parted : Said → Type 0
Parted x = (is_action x.line ≡ true → is_part_before Own x.part ≡ false) × (is_stop x.line ≡ true → x.part ≡ TheBlock)

never : {P : Type 0} (b : Bool) → b ≡ false → b ≡ true → P
never b off on = absurd (false≢true (sym off ∙ on))

quiet-no_action : (x : Line) → is_apart x ≡ false → is_action x ≡ false
quiet-no_action (line.Enter name object mode) e = e
quiet-no_action (line.Exit name object) e = e
quiet-no_action _ e = refl

pub quiet-no_stop : (x : Line) → is_apart x ≡ false → is_stop x ≡ false
quiet-no_stop (line.Block name waits) e = e
quiet-no_stop _ e = refl

other_parted : (part : Part) (x : Line) → is_action x ≡ false → is_stop x ≡ false → Parted (said_so part x)
other_parted part x quiet stays = (never (is_action x) quiet, never (is_stop x) stays)

pub parted_effects : OfEffects Parted
parted_effects = record {
  others = record {
    quiet = λ part x e. other_parted part x (quiet-no_action x e) (quiet-no_stop x e);
    readies = λ part name level end deadline. other_parted part (line.Ready name level end deadline) refl refl;
    creates = λ t declared level. other_parted Own (line.New (created.Task t) declared level) refl refl;
  };
  blocks = λ name waits. (never false refl, λ e. refl);
  ends = λ part t. other_parted part (line.Done t) refl refl;
  exits = λ name o. ((λ e. refl), never false refl);
  bases = λ part t level. other_parted part (line.Base t level) refl refl;
  makes = λ o declared level. other_parted Own (line.New (created.Object o) declared level) refl refl;
}

-- ---- and in order

-- behind the own lines
abbrev pub is_late : Part → Bool
is_late part = is_part_before Own part

abbrev pub IsLate : Said → Type 0
IsLate x = is_late x.part ≡ true

-- behind a late line all are late
abbrev pub LateAtEnd : List Said → Type 0
LateAtEnd [] = Unit {0}
LateAtEnd (x ∷ xs) = (is_late x.part ≡ true → Each IsLate xs) × LateAtEnd xs

late_behind : (part : Part) → is_late part ≡ true
    → (is_part_before part TheCall ≡ false) × (is_part_before part TheFinish ≡ false) × (is_part_before part Own ≡ false)
late_behind TheCall e = absurd (false≢true e)
late_behind TheFinish e = absurd (false≢true e)
late_behind Own e = absurd (false≢true e)
late_behind (OfOther name) e = (refl, refl, refl)
late_behind ThePlacing e = (refl, refl, refl)
late_behind TheBlock e = (refl, refl, refl)

early_before : (part : Part) → is_late part ≡ true
    → (is_part_before TheCall part ≡ true) × (is_part_before TheFinish part ≡ true) × (is_part_before Own part ≡ true)
early_before TheCall e = absurd (false≢true e)
early_before TheFinish e = absurd (false≢true e)
early_before Own e = absurd (false≢true e)
early_before (OfOther name) e = (refl, refl, refl)
early_before ThePlacing e = (refl, refl, refl)
early_before TheBlock e = (refl, refl, refl)

-- what stands behind a late part is late, and so is what does not stand before one
late-sooner : (a b : Part) → is_late a ≡ true → is_part_before a b ≡ true → is_late b ≡ true
late-sooner a TheCall late sooner = never (is_part_before a TheCall) (late_behind a late).0 sooner
late-sooner a TheFinish late sooner = never (is_part_before a TheFinish) (late_behind a late).1 sooner
late-sooner a Own late sooner = never (is_part_before a Own) (late_behind a late).2 sooner
late-sooner a (OfOther name) late sooner = refl
late-sooner a ThePlacing late sooner = refl
late-sooner a TheBlock late sooner = refl

late-later : (a b : Part) → is_part_before a b ≡ false → is_late b ≡ true → is_late a ≡ true
late-later TheCall b later late = never (is_part_before TheCall b) later (early_before b late).0
late-later TheFinish b later late = never (is_part_before TheFinish b) later (early_before b late).1
late-later Own b later late = never (is_part_before Own b) later (early_before b late).2
late-later (OfOther name) b later late = refl
late-later ThePlacing b later late = refl
late-later TheBlock b later late = refl

each_late-test : (x y : Said) (ys placed : List Said) (b : Bool) → is_late x.part ≡ true → Each IsLate (y ∷ ys) → Each IsLate placed
    → Each IsLate (cond b (y ∷ placed) (x ∷ y ∷ ys))
each_late-test x y ys placed true late h k = (h.0, k)
each_late-test x y ys placed false late h k = (late, h)

each_late-put : (x : Said) (ys : List Said) → is_late x.part ≡ true → Each IsLate ys → Each IsLate (put_in_order x ys)
each_late-put x [] late h = (late, tt)
each_late-put x (y ∷ ys) late h = each_late-test x y ys (put_in_order x ys) (is_part_before y.part x.part) late h (each_late-put x ys late h.1)

late_at_end-test : (x y : Said) (ys : List Said) (b : Bool) → is_part_before y.part x.part ≡ b → LateAtEnd (y ∷ ys) → LateAtEnd (put_in_order x ys)
    → LateAtEnd (cond b (y ∷ put_in_order x ys) (x ∷ y ∷ ys))
late_at_end-test x y ys true sooner h k = ((λ late. each_late-put x ys (late-sooner y.part x.part late sooner) (h.0 late)), k)
late_at_end-test x y ys false later h k =
    ((λ late. let one : is_late y.part ≡ true = late-later y.part x.part later late in (one, h.0 one)), h)

late_at_end-put : (x : Said) (ys : List Said) → LateAtEnd ys → LateAtEnd (put_in_order x ys)
late_at_end-put x [] h = ((λ late. tt), tt)
late_at_end-put x (y ∷ ys) h = late_at_end-test x y ys (is_part_before y.part x.part) refl h (late_at_end-put x ys h.1)

pub in_order-late : (xs : List Said) → LateAtEnd (in_order xs)
in_order-late [] = tt
in_order-late (x ∷ xs) = late_at_end-put x (in_order xs) (in_order-late xs)

-- ---- the law at these lines, from what is open behind them

abbrev pub StopsFree : List shown.Action → Line → Type 0
StopsFree t (line.Block name waits) = has_open name t ≡ false
StopsFree t _ = Unit {0}

abbrev pub behind_all : List shown.Action → List Event → List shown.Action
behind_all = seen_behind actions_after blocks_free

still-event : (p : Image) (s : List shown.Action) (x : Line) → is_action x ≡ false → actions_after s (event_of p x) ≡ s
still-event p s (line.Enter name object mode) e = absurd (false≢true (sym e))
still-event p s (line.Exit name object) e = absurd (false≢true (sym e))
still-event p s _ e = refl

-- late lines say nothing of actions
late-no_action : (x : Said) → Parted x → is_late x.part ≡ true → is_action x.line ≡ false
late-no_action x h late = by_test (is_action x.line) (λ e. absurd (false≢true (sym (h.0 e) ∙ late))) (λ e. e)

pub still-late : (p : Image) (s : List shown.Action) (ys : List Said) → Each Parted ys → Each IsLate ys → behind_all s (events_of p ys) ≡ s
still-late p s [] h late = refl
still-late p s (y ∷ ys) h late =
    let same : actions_after s (event_of p y.line) ≡ s = still-event p s y.line (late-no_action y h.0 late.0) in
    ap (λ q. behind_all q (events_of p ys)) same ∙ still-late p s ys h.1 late.1

free_at : (p : Image) (s t : List shown.Action) (x : Line) → StopsFree t x → (is_stop x ≡ true → s ≡ t) → blocks_free s (event_of p x) ≡ true
free_at p s t (line.Block name waits) free same = ap not (subst (λ q. has_open name q ≡ false) (sym (same refl)) free)
free_at p s t _ free same = refl

pub follow-stops : (p : Image) (s t : List shown.Action) (ys : List Said) → Each Parted ys → LateAtEnd ys → Each (λ y. StopsFree t y.line) ys
    → behind_all s (events_of p ys) ≡ t → Follow actions_after blocks_free s (events_of p ys)
follow-stops p s t [] h late free is = tt
follow-stops p s t (y ∷ ys) h late free is = (
  free_at p s t y.line free.0
      (λ stop. let last : is_late y.part ≡ true = ap is_late (h.0.1 stop) in sym (still-late p s (y ∷ ys) h (last, late.0 last)) ∙ is),
  follow-stops p (actions_after s (event_of p y.line)) t ys h.1 late.1 free.1 is,
)

-- ---- each of the lines that were said

abbrev pub Has : Said → List Said → Type 0
Has x [] = ⊥
Has x (y ∷ ys) = (x ≡ y) ⊎ Has x ys

pub each-of : (P : Said → Type 0) (xs : List Said) → ((x : Said) → Has x xs → P x) → Each P xs
each-of P [] k = tt
each-of P (x ∷ xs) k = (k x (inl refl), each-of P xs (λ y m. k y (inr m)))

pub each-at : (P : Said → Type 0) (xs : List Said) → Each P xs → (x : Said) → Has x xs → P x
each-at P [] h x m = absurd m
each-at P (y ∷ ys) h x (inl is) = subst P (sym is) h.0
each-at P (y ∷ ys) h x (inr m) = each-at P ys h.1 x m
