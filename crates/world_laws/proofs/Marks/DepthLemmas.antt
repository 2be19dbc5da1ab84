-- The frame of a depth: there is one only below the number of frames, and what an edit at a depth leaves on top.
use Rattle.std.proofs.Common.{◌≡◌, ℕ, ◌<◌, Bool, true, false, cond, not, eqb, ◌&&◌, List, []}
use Rattle.std.proofs.Common.{◌∷◌, Option, Some, None, refl, sym, ap, ◌∙◌, length, arith, eq-eqb}
use Rattle.std.proofs.lemmas.Bool.{eqb-true, false≢true}
use Rattle.std.specs.Prelude.{is_none}
use Rattle.ann_base.specs.declared.identities.CallNo.{CallNo}
use Rattle.profile_machine.specs.declared.world.marks.Frame.{Frame}
use Rattle.profile_machine.specs.declared.world.marks.Mark.{Mark}
use Rattle.profile_machine.specs.declared.world.marks.Mark.TheVariants.{Scope, Handled, InProtected, InAccept, Abortable, InInitialize, InFinalize, InAssign}
use Rattle.profile_image.specs.Words.{same_call, is_the}
use Rattle.profile_machine.specs.Frames.{with_mark}
use Rattle.profile_machine.specs.CallEnds.{is_abortable_of, depth_of_abortable, edit_depth, edit_abortable, waited_mark}
use Rattle.profile_machine.specs.WellFormed.{awaits_trigger, awaits_trigger_at, is_triggered}
use Rattle.world_laws.proofs.Marks.MarkFacts.{frame_at, top_awaits}
use Rattle.machine_laws.proofs.FineMoves.{is_abortable}
use Rattle.machine_laws.proofs.QueueLemmas.{by_test}

-- ---- a depth is below the number of frames

some-number : (m n : ℕ) → Some m ≡ Some n → m ≡ n
some-number m n e = cc

frame-step : (b : Bool) (x y : Frame) (xs : List Frame) (d : ℕ) → eqb (length xs) d ≡ b → (frame_at d xs ≡ Some y → d < length xs)
    → cond b (Some x) (frame_at d xs) ≡ Some y → d < length (x ∷ xs)
frame-step true x y xs d e onward h = let same : length xs ≡ d = eqb-true (length xs) d e in omega (arith, same)
frame-step false x y xs d e onward h = let below : d < length xs = onward h in omega (arith, below)

pub frame-below : (d : ℕ) (y : Frame) (fs : List Frame) → frame_at d fs ≡ Some y → d < length fs
frame-below d y [] h = cc
frame-below d y (x ∷ xs) h = frame-step (eqb (length xs) d) x y xs d refl (λ k. frame-below d y xs k) h

awaits-step : (b : Bool) (x : Frame) (xs : List Frame) (d : ℕ) → eqb (length xs) d ≡ b → (awaits_trigger_at d xs ≡ true → d < length xs)
    → cond b (awaits_trigger x.mark) (awaits_trigger_at d xs) ≡ true → d < length (x ∷ xs)
awaits-step true x xs d e onward h = let same : length xs ≡ d = eqb-true (length xs) d e in omega (arith, same)
awaits-step false x xs d e onward h = let below : d < length xs = onward h in omega (arith, below)

pub awaits-below : (d : ℕ) (fs : List Frame) → awaits_trigger_at d fs ≡ true → d < length fs
awaits-below d [] h = cc
awaits-below d (x ∷ xs) h = awaits-step (eqb (length xs) d) x xs d refl (λ k. awaits-below d xs k) h

of_call-step : (b : Bool) (c : CallNo) (x : Frame) (xs : List Frame) (d : ℕ) → (depth_of_abortable c xs ≡ Some d → d < length xs)
    → cond b (Some (length xs)) (depth_of_abortable c xs) ≡ Some d → d < length (x ∷ xs)
of_call-step true c x xs d onward h = let same : length xs ≡ d = some-number (length xs) d h in omega (arith, same)
of_call-step false c x xs d onward h = let below : d < length xs = onward h in omega (arith, below)

pub of_call-below : (c : CallNo) (d : ℕ) (fs : List Frame) → depth_of_abortable c fs ≡ Some d → d < length fs
of_call-below c d [] h = cc
of_call-below c d (x ∷ xs) h = of_call-step (is_abortable_of c x.mark) c x xs d (λ k. of_call-below c d xs k) h

-- ---- above the frames

pub not_here : (m n : ℕ) → n < m → eqb m n ≡ false
not_here m n low = by_test (eqb m n) (λ e. absurd (let same : m ≡ n = eqb-true m n e in omega (arith, same))) (λ e. e)

-- what stands at a depth stands there below another frame
pub awaits-pushed : (d : ℕ) (f : Frame) (fs : List Frame) → awaits_trigger_at d fs ≡ true → awaits_trigger_at d (f ∷ fs) ≡ true
awaits-pushed d f fs h = ap (λ b. cond b (awaits_trigger f.mark) (awaits_trigger_at d fs)) (not_here (length fs) d (awaits-below d fs h)) ∙ h

pub awaits-top : (f : Frame) (fs : List Frame) → awaits_trigger_at (length fs) (f ∷ fs) ≡ awaits_trigger f.mark
awaits-top f fs = ap (λ b. cond b (awaits_trigger f.mark) (awaits_trigger_at (length fs) fs)) (eq-eqb (length fs) (length fs) refl)

-- ---- the frame at a depth

frame_awaits-step : (b : Bool) (x y : Frame) (rest : Option Frame) (awaits : Bool) → (rest ≡ Some y → awaits ≡ awaits_trigger y.mark)
    → cond b (Some x) rest ≡ Some y → cond b (awaits_trigger x.mark) awaits ≡ awaits_trigger y.mark
frame_awaits-step true x y rest awaits onward h = let same : x ≡ y = cc in ap (λ (f : Frame). awaits_trigger f.mark) same
frame_awaits-step false x y rest awaits onward h = onward h

pub frame-awaits : (d : ℕ) (y : Frame) (fs : List Frame) → frame_at d fs ≡ Some y → awaits_trigger_at d fs ≡ awaits_trigger y.mark
frame-awaits d y [] h = cc
frame-awaits d y (x ∷ xs) h = frame_awaits-step (eqb (length xs) d) x y (frame_at d xs) (awaits_trigger_at d xs) (λ k. frame-awaits d y xs k) h

-- one that awaits is there
pub record Found (P : Frame → Type 0) (d : ℕ) (fs : List Frame) : Type 0 where
  pub frame : Frame
  pub found : frame_at d fs ≡ Some frame
  pub has : P frame

found-below : (P : Frame → Type 0) (d : ℕ) (x : Frame) (xs : List Frame) → Found P d xs → Found P d (x ∷ xs)
found-below P d x xs f =
    record {
      frame = f.frame;
      found = ap (λ b. cond b (Some x) (frame_at d xs)) (not_here (length xs) d (frame-below d f.frame xs f.found)) ∙ f.found;
      has = f.has;
    }

awaits_found-step : (b : Bool) (d : ℕ) (x : Frame) (xs : List Frame) → eqb (length xs) d ≡ b
    → (awaits_trigger_at d xs ≡ true → Found (λ f. awaits_trigger f.mark ≡ true) d xs) → cond b (awaits_trigger x.mark) (awaits_trigger_at d xs) ≡ true
    → Found (λ f. awaits_trigger f.mark ≡ true) d (x ∷ xs)
awaits_found-step true d x xs e onward h = record { frame = x; found = ap (λ b. cond b (Some x) (frame_at d xs)) e; has = h }
awaits_found-step false d x xs e onward h = found-below (λ f. awaits_trigger f.mark ≡ true) d x xs (onward h)

pub awaits-found : (d : ℕ) (fs : List Frame) → awaits_trigger_at d fs ≡ true → Found (λ f. awaits_trigger f.mark ≡ true) d fs
awaits-found d [] h = cc
awaits-found d (x ∷ xs) h = awaits_found-step (eqb (length xs) d) d x xs refl (λ k. awaits-found d xs k) h

of_call_found-step : (b : Bool) (c : CallNo) (d : ℕ) (x : Frame) (xs : List Frame) → is_abortable_of c x.mark ≡ b
    → (depth_of_abortable c xs ≡ Some d → Found (λ f. is_abortable_of c f.mark ≡ true) d xs) → cond b (Some (length xs)) (depth_of_abortable c xs) ≡ Some d
    → Found (λ f. is_abortable_of c f.mark ≡ true) d (x ∷ xs)
of_call_found-step true c d x xs e onward h = record {
  frame = x;
  found = ap (λ b. cond b (Some x) (frame_at d xs)) (eq-eqb (length xs) d (some-number (length xs) d h));
  has = e;
}
of_call_found-step false c d x xs e onward h = found-below (λ f. is_abortable_of c f.mark ≡ true) d x xs (onward h)

pub of_call-found : (c : CallNo) (d : ℕ) (fs : List Frame) → depth_of_abortable c fs ≡ Some d → Found (λ f. is_abortable_of c f.mark ≡ true) d fs
of_call-found c d [] h = cc
of_call-found c d (x ∷ xs) h = of_call_found-step (is_abortable_of c x.mark) c d x xs refl (λ k. of_call-found c d xs k) h

-- ---- a part of a call

called_awaits : (c : CallNo) (call : Option CallNo) (triggered : Bool) → is_the same_call call c ≡ true → (is_none call && triggered) ≡ false
called_awaits c None triggered e = absurd (false≢true e)
called_awaits c (Some d) triggered e = refl

-- it awaits no trigger, whatever is edited in it
pub of_call-awaits : (c : CallNo) (mark : Mark) → is_abortable_of c mark ≡ true → awaits_trigger mark ≡ false
of_call-awaits c (Abortable m) e = called_awaits c m.call (not m.triggered) e
of_call-awaits c _ e = absurd (false≢true e)

pub of_call-part : (c : CallNo) (mark : Mark) → is_abortable_of c mark ≡ true → is_abortable mark ≡ true
of_call-part c (Abortable m) e = refl
of_call-part c _ e = absurd (false≢true e)

pub awaits-part : (mark : Mark) → awaits_trigger mark ≡ true → is_abortable mark ≡ true
awaits-part (Abortable m) e = refl
awaits-part _ e = absurd (false≢true e)

triggered_none : (call : Option CallNo) (triggered : Bool) → triggered ≡ true → (is_none call && not triggered) ≡ false
triggered_none None true e = refl
triggered_none None false e = absurd (false≢true e)
triggered_none (Some c) triggered e = refl

pub triggered-awaits : (mark : Mark) → is_triggered mark ≡ true → awaits_trigger mark ≡ false
triggered-awaits (Abortable m) e = triggered_none m.call m.triggered e
triggered-awaits _ e = absurd (false≢true e)

pub waited-of_call : (c : CallNo) (b : Bool) (mark : Mark) → is_abortable_of c (edit_abortable (waited_mark b) mark) ≡ is_abortable_of c mark
waited-of_call c b (Scope m) = refl
waited-of_call c b (Handled s) = refl
waited-of_call c b (InProtected m) = refl
waited-of_call c b (InAccept m) = refl
waited-of_call c b (Abortable m) = refl
waited-of_call c b (InInitialize l) = refl
waited-of_call c b (InFinalize o) = refl
waited-of_call c b (InAssign m) = refl

-- one that awaits is of no call
uncalled : (c : CallNo) (call : Option CallNo) (rest : Bool) → (is_none call && rest) ≡ true → is_the same_call call c ≡ false
uncalled c None rest e = refl
uncalled c (Some d) rest e = absurd (false≢true e)

pub awaits-uncalled : (c : CallNo) (mark : Mark) → awaits_trigger mark ≡ true → is_abortable_of c mark ≡ false
awaits-uncalled c (Abortable m) e = uncalled c m.call (not m.triggered) e
awaits-uncalled c _ e = absurd (false≢true e)

-- ---- the top, behind the end of a wait

abbrev waited : Bool → Frame → Frame
waited b x = with_mark (edit_abortable (waited_mark b) x.mark) x

waited_top-step : (test : Bool) (b : Bool) (c : CallNo) (d : ℕ) (x : Frame) (xs ys : List Frame) → eqb (length xs) d ≡ test
    → depth_of_abortable c (x ∷ xs) ≡ Some d → awaits_trigger x.mark ≡ false → top_awaits (cond test (waited b x ∷ xs) (x ∷ ys)) ≡ false
waited_top-step true b c d x xs ys here of_call no_wait =
    by_test (is_abortable_of c x.mark)
    (λ e. of_call-awaits c (edit_abortable (waited_mark b) x.mark) (waited-of_call c b x.mark ∙ e))
    (λ e. absurd (let deeper : depth_of_abortable c xs ≡ Some d = sym (ap (λ k. cond k (Some (length xs)) (depth_of_abortable c xs)) e) ∙ of_call in
    let low : d < length xs = of_call-below c d xs deeper in let same : length xs ≡ d = eqb-true (length xs) d here in omega (arith, same, low)))
waited_top-step false b c d x xs ys here of_call no_wait = no_wait

pub waited-top : (b : Bool) (c : CallNo) (d : ℕ) (fs : List Frame) → depth_of_abortable c fs ≡ Some d → top_awaits fs ≡ false
    → top_awaits (edit_depth d (waited b) fs) ≡ false
waited-top b c d [] of_call no_wait = refl
waited-top b c d (x ∷ xs) of_call no_wait = waited_top-step (eqb (length xs) d) b c d x xs (edit_depth d (waited b) xs) refl of_call no_wait
