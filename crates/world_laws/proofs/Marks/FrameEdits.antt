-- What edits of frames leave: of the one on top, of the outermost one, and of one at a depth.
use Rattle.std.proofs.Common.{◌≡◌, ℕ, suc, Bool, true, false, cond, not, eqb, ◌&&◌, ◌||◌, List, [], ◌∷◌, Option, Some, None, refl, sym, ap, ◌∙◌, length}
use Rattle.std.proofs.lemmas.Bool.{false≢true, or_right}
use Rattle.std.specs.Prelude.{is_none}
use Rattle.ann_base.specs.declared.identities.CallNo.{CallNo}
use Rattle.profile_machine.specs.declared.world.appointments.Registered.{Registered}
use Rattle.profile_machine.specs.declared.world.marks.Frame.{Frame}
use Rattle.profile_machine.specs.declared.world.marks.Mark.{Mark}
use Rattle.profile_machine.specs.declared.world.marks.Mark.TheVariants.{Scope, Handled, InProtected, InAccept, Abortable, InInitialize, InFinalize, InAssign}
use Rattle.profile_machine.specs.declared.world.tasks.Waiting.{Waiting}
use Rattle.profile_image.specs.Words.{same_call, is_the}
use Rattle.ann_base.specs.Lists.{is_empty}
use Rattle.world_tables.specs.Lists.{rest_of}
use Rattle.profile_machine.specs.Frames.{edit_first}
use Rattle.profile_machine.specs.Unwinding.{struck_frame, edit_last}
use Rattle.profile_machine.specs.CallEnds.{is_abortable_of, edit_depth}
use Rattle.profile_machine.specs.WellFormed.{awaits_trigger, awaits_trigger_at, is_triggered}
use Rattle.world_laws.proofs.Marks.MarkFacts.{part_in, finalized_in, nature, triggered_part, top_awaits, StruckRightly}
use Rattle.world_laws.proofs.Marks.MarkFacts.{FinalizesRightly, below_finalizes, finalizes_here, WaitsRightly}

-- ---- what a part decides

abbrev awaits_of : Option (Option CallNo × Bool) → Bool
awaits_of None = false
awaits_of (Some x) = is_none x.0 && not x.1

abbrev triggered_of : Option (Option CallNo × Bool) → Bool
triggered_of None = false
triggered_of (Some x) = x.1

abbrev is_of : CallNo → Option (Option CallNo × Bool) → Bool
is_of c None = false
is_of c (Some x) = is_the same_call x.0 c

awaits-of : (mark : Mark) → awaits_trigger mark ≡ awaits_of (part_in mark)
awaits-of (Scope m) = refl
awaits-of (Handled s) = refl
awaits-of (InProtected m) = refl
awaits-of (InAccept m) = refl
awaits-of (Abortable m) = refl
awaits-of (InInitialize l) = refl
awaits-of (InFinalize o) = refl
awaits-of (InAssign m) = refl

triggered-of : (mark : Mark) → is_triggered mark ≡ triggered_of (part_in mark)
triggered-of (Scope m) = refl
triggered-of (Handled s) = refl
triggered-of (InProtected m) = refl
triggered-of (InAccept m) = refl
triggered-of (Abortable m) = refl
triggered-of (InInitialize l) = refl
triggered-of (InFinalize o) = refl
triggered-of (InAssign m) = refl

is-of : (c : CallNo) (mark : Mark) → is_abortable_of c mark ≡ is_of c (part_in mark)
is-of c (Scope m) = refl
is-of c (Handled s) = refl
is-of c (InProtected m) = refl
is-of c (InAccept m) = refl
is-of c (Abortable m) = refl
is-of c (InInitialize l) = refl
is-of c (InFinalize o) = refl
is-of c (InAssign m) = refl

module _ (a b : Mark) (same : nature a ≡ nature b) where
  pub same-awaits : awaits_trigger a ≡ awaits_trigger b
  same-awaits = awaits-of a ∙ ap (λ n. awaits_of n.part) same ∙ sym (awaits-of b)

  pub same-triggered : is_triggered a ≡ is_triggered b
  same-triggered = triggered-of a ∙ ap (λ n. triggered_of n.part) same ∙ sym (triggered-of b)

  pub same-of_call : (c : CallNo) → is_abortable_of c a ≡ is_abortable_of c b
  same-of_call c = is-of c a ∙ ap (λ n. is_of c n.part) same ∙ sym (is-of c b)

  pub same-finalized : finalized_in a ≡ finalized_in b
  same-finalized = ap (λ n. n.finalizes) same

-- ---- the mark on top

module _ (f : Frame → Frame) (same : (x : Frame) → nature (f x).mark ≡ nature x.mark) (alike : (x : Frame) → (f x).struck ≡ x.struck) where
  pub first-struck : (abnormal : Bool) (fs : List Frame) → StruckRightly abnormal fs → StruckRightly abnormal (edit_first f fs)
  first-struck abnormal [] h = tt
  first-struck abnormal (x ∷ xs) h =
      ((λ e. ap (λ b. b || (is_empty xs && abnormal)) (same-triggered (f x).mark x.mark (same x)) ∙ h.0 (sym (alike x) ∙ e)), h.1)

  pub first-finalizes : (registered : List Registered) (drawn : ℕ) (fs : List Frame) → FinalizesRightly registered drawn fs
      → FinalizesRightly registered drawn (edit_first f fs)
  first-finalizes registered drawn [] h = tt
  first-finalizes registered drawn (x ∷ xs) h = ((λ n e. h.0 n (sym (same-finalized (f x).mark x.mark (same x)) ∙ e)), h.1)

  first-top : (fs : List Frame) → top_awaits (edit_first f fs) ≡ top_awaits fs
  first-top [] = refl
  first-top (x ∷ xs) = same-awaits (f x).mark x.mark (same x)

  first-part : (c : CallNo) (fs : List Frame) → triggered_part c (edit_first f fs) ≡ triggered_part c fs
  first-part c [] = refl
  first-part c (x ∷ xs) =
      ap (λ b. cond b (is_triggered (f x).mark) (triggered_part c xs)) (same-of_call (f x).mark x.mark (same x) c)
      ∙ ap (λ b. cond (is_abortable_of c x.mark) b (triggered_part c xs)) (same-triggered (f x).mark x.mark (same x))

  pub first-waits : (waiting : Option Waiting) (fs : List Frame) → WaitsRightly waiting fs → WaitsRightly waiting (edit_first f fs)
  first-waits waiting fs h c is = let k = h c is in (first-top fs ∙ k.0, first-part c fs ∙ k.1)

  pub first-awaits : (d : ℕ) (fs : List Frame) → awaits_trigger_at d (edit_first f fs) ≡ awaits_trigger_at d fs
  first-awaits d [] = refl
  first-awaits d (x ∷ xs) = ap (λ b. cond (eqb (length xs) d) b (awaits_trigger_at d xs)) (same-awaits (f x).mark x.mark (same x))

-- ---- a mark is opened

module _ (f : Frame) (plain : f.struck ≡ false) where
  pub pushed-struck : (abnormal : Bool) (fs : List Frame) → StruckRightly abnormal fs → StruckRightly abnormal (f ∷ fs)
  pushed-struck abnormal fs h = ((λ e. absurd (false≢true (sym plain ∙ e))), h)

pub pushed-finalizes : (f : Frame) → finalized_in f.mark ≡ None → (registered : List Registered) (drawn : ℕ) (fs : List Frame)
    → FinalizesRightly registered drawn fs → FinalizesRightly registered drawn (f ∷ fs)
pushed-finalizes f none registered drawn fs h = ((λ n e. absurd (let no : None ≡ Some n = sym none ∙ e in cc)), h)

cond-false : (b x y : Bool) → x ≡ false → y ≡ false → cond b x y ≡ false
cond-false true x y p q = p
cond-false false x y p q = q

pub pushed-waits : (f : Frame) → awaits_trigger f.mark ≡ false → is_triggered f.mark ≡ false → (waiting : Option Waiting) (fs : List Frame)
    → WaitsRightly waiting fs → WaitsRightly waiting (f ∷ fs)
pushed-waits f no_wait untriggered waiting fs h c is = (
  no_wait,
  cond-false (is_abortable_of c f.mark) (is_triggered f.mark) (triggered_part c fs) untriggered (h c is).1,
)

-- ---- and ends

pub popped-struck : (abnormal : Bool) (fs : List Frame) → StruckRightly abnormal fs → StruckRightly abnormal (rest_of fs)
popped-struck abnormal [] h = tt
popped-struck abnormal (x ∷ xs) h = h.1

pub popped-finalizes : (registered : List Registered) (drawn : ℕ) (fs : List Frame) → FinalizesRightly registered drawn fs
    → FinalizesRightly registered drawn (rest_of fs)
popped-finalizes registered drawn [] h = tt
popped-finalizes registered drawn (x ∷ xs) h = h.1

-- ---- the outermost mark of a task that is abnormal is struck

last-empty : (y : Frame) (rest : List Frame) → is_empty (edit_last struck_frame (y ∷ rest)) ≡ false
last-empty y [] = refl
last-empty y (z ∷ zs) = refl

pub last-struck : (fs : List Frame) → StruckRightly true fs → StruckRightly true (edit_last struck_frame fs)
last-struck [] h = tt
last-struck (x ∷ []) h = ((λ e. or_right (is_triggered x.mark) true refl), tt)
last-struck (x ∷ y ∷ rest) h =
    ((λ e. ap (λ b. is_triggered x.mark || (b && true)) (last-empty y rest) ∙ h.0 e), last-struck (y ∷ rest) h.1)

-- ---- frames with the same marks

abbrev pub SameMarks : List Frame → List Frame → Type 0
SameMarks [] [] = Unit {0}
SameMarks [] (g ∷ gs) = ⊥
SameMarks (f ∷ fs) [] = ⊥
SameMarks (f ∷ fs) (g ∷ gs) = (f.mark ≡ g.mark) × SameMarks fs gs

same_marks-refl : (fs : List Frame) → SameMarks fs fs
same_marks-refl [] = tt
same_marks-refl (f ∷ fs) = (refl, same_marks-refl fs)

pub last-marks : (fs : List Frame) → SameMarks (edit_last struck_frame fs) fs
last-marks [] = tt
last-marks (x ∷ []) = (refl, tt)
last-marks (x ∷ y ∷ rest) = (refl, last-marks (y ∷ rest))

depth_marks-step : (b : Bool) (x : Frame) (xs ys : List Frame) → SameMarks ys xs → SameMarks (cond b (struck_frame x ∷ xs) (x ∷ ys)) (x ∷ xs)
depth_marks-step true x xs ys h = (refl, same_marks-refl xs)
depth_marks-step false x xs ys h = (refl, h)

pub depth-marks : (d : ℕ) (fs : List Frame) → SameMarks (edit_depth d struck_frame fs) fs
depth-marks d [] = tt
depth-marks d (x ∷ xs) = depth_marks-step (eqb (length xs) d) x xs (edit_depth d struck_frame xs) (depth-marks d xs)

same_marks-length : (fs gs : List Frame) → SameMarks fs gs → length fs ≡ length gs
same_marks-length [] [] h = refl
same_marks-length [] (g ∷ gs) h = absurd h
same_marks-length (f ∷ fs) [] h = absurd h
same_marks-length (f ∷ fs) (g ∷ gs) h = ap suc (same_marks-length fs gs h.1)

pub same_marks-awaits : (d : ℕ) (fs gs : List Frame) → SameMarks fs gs → awaits_trigger_at d fs ≡ awaits_trigger_at d gs
same_marks-awaits d [] [] h = refl
same_marks-awaits d [] (g ∷ gs) h = absurd h
same_marks-awaits d (f ∷ fs) [] h = absurd h
same_marks-awaits d (f ∷ fs) (g ∷ gs) h =
    ap (λ n. cond (eqb n d) (awaits_trigger f.mark) (awaits_trigger_at d fs)) (same_marks-length fs gs h.1)
    ∙ ap (λ m. cond (eqb (length gs) d) (awaits_trigger m) (awaits_trigger_at d fs)) h.0
    ∙ ap (λ b. cond (eqb (length gs) d) (awaits_trigger g.mark) b) (same_marks-awaits d fs gs h.1)

same_marks-top : (fs gs : List Frame) → SameMarks fs gs → top_awaits fs ≡ top_awaits gs
same_marks-top [] [] h = refl
same_marks-top [] (g ∷ gs) h = absurd h
same_marks-top (f ∷ fs) [] h = absurd h
same_marks-top (f ∷ fs) (g ∷ gs) h = ap awaits_trigger h.0

same_marks-part : (c : CallNo) (fs gs : List Frame) → SameMarks fs gs → triggered_part c fs ≡ triggered_part c gs
same_marks-part c [] [] h = refl
same_marks-part c [] (g ∷ gs) h = absurd h
same_marks-part c (f ∷ fs) [] h = absurd h
same_marks-part c (f ∷ fs) (g ∷ gs) h =
    ap (λ m. cond (is_abortable_of c m) (is_triggered m) (triggered_part c fs)) h.0
    ∙ ap (λ b. cond (is_abortable_of c g.mark) (is_triggered g.mark) b) (same_marks-part c fs gs h.1)

pub same_marks-waits : (waiting : Option Waiting) (fs gs : List Frame) → SameMarks fs gs → WaitsRightly waiting gs → WaitsRightly waiting fs
same_marks-waits waiting fs gs h k c is = let r = k c is in (same_marks-top fs gs h ∙ r.0, same_marks-part c fs gs h ∙ r.1)

below-same : (registered : List Registered) (drawn n : ℕ) (fs gs : List Frame) → SameMarks fs gs
    → below_finalizes registered drawn n fs ≡ below_finalizes registered drawn n gs
below-same registered drawn n [] [] h = refl
below-same registered drawn n [] (g ∷ gs) h = absurd h
below-same registered drawn n (f ∷ fs) [] h = absurd h
below-same registered drawn n (f ∷ fs) (g ∷ gs) h = ap (finalizes_here registered drawn n) h.0

pub same_marks-finalizes : (registered : List Registered) (drawn : ℕ) (fs gs : List Frame) → SameMarks fs gs → FinalizesRightly registered drawn gs
    → FinalizesRightly registered drawn fs
same_marks-finalizes registered drawn [] [] h k = tt
same_marks-finalizes registered drawn [] (g ∷ gs) h k = absurd h
same_marks-finalizes registered drawn (f ∷ fs) [] h k = absurd h
same_marks-finalizes registered drawn (f ∷ fs) (g ∷ gs) h k =
    ((λ n e. below-same registered drawn n fs gs h.1 ∙ k.0 n (sym (ap finalized_in h.0) ∙ e)), same_marks-finalizes registered drawn fs gs h.1 k.1)
