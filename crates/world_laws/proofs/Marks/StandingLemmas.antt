-- A part that awaits its trigger with no task's own scope above it: what edits of marks leave, and what stands above and below.
use Rattle.std.proofs.Common.{◌≡◌, ℕ, suc, Bool, true, false, cond, not, eqb, ◌&&◌, List, [], ◌∷◌, Some, None, refl, sym, ap, subst, ◌∙◌, length, eq-eqb}
use Rattle.std.proofs.lemmas.Bool.{false≢true}
use Rattle.profile_machine.specs.declared.world.marks.AbortableMark.{AbortableMark}
use Rattle.profile_machine.specs.declared.world.marks.Frame.{Frame}
use Rattle.profile_machine.specs.declared.world.marks.Mark.{Mark}
use Rattle.profile_machine.specs.declared.world.marks.Mark.TheVariants.{Scope, Handled, InProtected, InAccept, Abortable, InInitialize, InFinalize, InAssign}
use Rattle.world_tables.specs.Lists.{first_of}
use Rattle.profile_machine.specs.Frames.{edit_first}
use Rattle.profile_machine.specs.Unwinding.{struck_frame, edit_last}
use Rattle.profile_machine.specs.CallEnds.{edit_depth, edit_abortable}
use Rattle.profile_machine.specs.Tasking.{is_task_scope}
use Rattle.profile_machine.specs.WellFormed.{awaits_trigger, awaits_trigger_at}
use Rattle.world_laws.proofs.Marks.MarkFacts.{finalized_in, is_own_scope, nature, own_scope_in, apart_in, own_scopes, is_clear_above, StandsAt}
use Rattle.world_laws.proofs.Marks.DepthLemmas.{awaits-pushed, awaits-top}
use Rattle.world_laws.proofs.Marks.DepthEdits.{edited_part}

-- ---- what is opened by others than its own changes

apart_scope : (own : Bool) → own_scope_in own ≡ None → own ≡ false
apart_scope true e = cc
apart_scope false e = refl

pub apart-own : (mark : Mark) → apart_in mark ≡ None → is_own_scope mark ≡ false
apart-own (Scope m) e = apart_scope (is_task_scope m.purpose) e
apart-own (Handled s) e = refl
apart-own (InProtected m) e = refl
apart-own (InAccept m) e = refl
apart-own (Abortable m) e = refl
apart-own (InInitialize l) e = refl
apart-own (InFinalize o) e = refl
apart-own (InAssign m) e = refl

pub apart-finalized : (mark : Mark) → apart_in mark ≡ None → finalized_in mark ≡ None
apart-finalized (Scope m) e = refl
apart-finalized (Handled s) e = refl
apart-finalized (InProtected m) e = refl
apart-finalized (InAccept m) e = refl
apart-finalized (Abortable m) e = refl
apart-finalized (InInitialize l) e = refl
apart-finalized (InFinalize o) e = cc
apart-finalized (InAssign m) e = refl

own-awaits : (mark : Mark) → is_own_scope mark ≡ true → awaits_trigger mark ≡ false
own-awaits (Scope m) e = refl
own-awaits _ e = absurd (false≢true e)

-- ---- edits that leave which marks are own scopes

pub first-own : (f : Frame → Frame) → ((x : Frame) → nature (f x).mark ≡ nature x.mark) → (fs : List Frame) → own_scopes (edit_first f fs) ≡ own_scopes fs
first-own f same [] = refl
first-own f same (x ∷ xs) = ap (λ n. n.own_scope ∷ own_scopes xs) (same x)

pub last-own : (fs : List Frame) → own_scopes (edit_last struck_frame fs) ≡ own_scopes fs
last-own [] = refl
last-own (x ∷ []) = refl
last-own (x ∷ y ∷ rest) = ap (λ bs. is_own_scope x.mark ∷ bs) (last-own (y ∷ rest))

depth_own-step : (b : Bool) (f : Frame → Frame) (x : Frame) (xs ys : List Frame) → is_own_scope (f x).mark ≡ is_own_scope x.mark → own_scopes ys ≡ own_scopes xs
    → own_scopes (cond b (f x ∷ xs) (x ∷ ys)) ≡ own_scopes (x ∷ xs)
depth_own-step true f x xs ys same onward = ap (λ b. b ∷ own_scopes xs) same
depth_own-step false f x xs ys same onward = ap (λ bs. is_own_scope x.mark ∷ bs) onward

pub depth-own : (d : ℕ) (f : Frame → Frame) → ((x : Frame) → is_own_scope (f x).mark ≡ is_own_scope x.mark) → (fs : List Frame)
    → own_scopes (edit_depth d f fs) ≡ own_scopes fs
depth-own d f same [] = refl
depth-own d f same (x ∷ xs) = depth_own-step (eqb (length xs) d) f x xs (edit_depth d f xs) (same x) (depth-own d f same xs)

part-own : (f : AbortableMark → AbortableMark) (mark : Mark) → is_own_scope (edit_abortable f mark) ≡ is_own_scope mark
part-own f (Scope m) = refl
part-own f (Handled s) = refl
part-own f (InProtected m) = refl
part-own f (InAccept m) = refl
part-own f (Abortable m) = refl
part-own f (InInitialize l) = refl
part-own f (InFinalize o) = refl
part-own f (InAssign m) = refl

pub edited_part-own : (d : ℕ) (f : AbortableMark → AbortableMark) (fs : List Frame) → own_scopes (edit_depth d (edited_part f) fs) ≡ own_scopes fs
edited_part-own d f fs = depth-own d (edited_part f) (λ x. part-own f x.mark) fs

-- what awaits as before, below the same own scopes
pub stands-same : (d : ℕ) (fs gs : List Frame) → awaits_trigger_at d gs ≡ awaits_trigger_at d fs → own_scopes gs ≡ own_scopes fs → StandsAt d fs → StandsAt d gs
stands-same d fs gs awaits own h = (awaits ∙ h.0, ap (is_clear_above d) own ∙ h.1)

-- ---- above and below

own-length : (fs : List Frame) → length (own_scopes fs) ≡ length fs
own-length [] = refl
own-length (x ∷ xs) = ap suc (own-length xs)

clear-pushed : (b own rest : Bool) → own ≡ false → rest ≡ true → cond b true (not own && rest) ≡ true
clear-pushed true own rest none h = refl
clear-pushed false own rest none h = ap (λ c. not c && rest) none ∙ h

pub stands-pushed : (d : ℕ) (f : Frame) (fs : List Frame) → is_own_scope f.mark ≡ false → StandsAt d fs → StandsAt d (f ∷ fs)
stands-pushed d f fs plain h = (
  awaits-pushed d f fs h.0,
  clear-pushed (eqb (length (own_scopes fs)) d) (is_own_scope f.mark) (is_clear_above d (own_scopes fs)) plain h.1,
)

pub stands-top : (f : Frame) (fs : List Frame) → awaits_trigger f.mark ≡ true → StandsAt (length fs) (f ∷ fs)
stands-top f fs awaits = (
  awaits-top f fs ∙ awaits,
  ap (λ b. cond b true (not (is_own_scope f.mark) && is_clear_above (length fs) (own_scopes fs)))
      (eq-eqb (length (own_scopes fs)) (length fs) (own-length fs)),
)

second-clear : (own rest : Bool) → (not own && rest) ≡ true → rest ≡ true
second-clear true rest h = absurd (false≢true h)
second-clear false rest h = h

-- what stands at another depth than the one on top is below it
pub clear-below : (d : ℕ) (x : Frame) (xs : List Frame) → eqb (length xs) d ≡ false → is_clear_above d (own_scopes (x ∷ xs)) ≡ true
    → is_clear_above d (own_scopes xs) ≡ true
clear-below d x xs apart h =
    let other : eqb (length (own_scopes xs)) d ≡ false = ap (λ n. eqb n d) (own-length xs) ∙ apart in
    second-clear (is_own_scope x.mark) (is_clear_above d (own_scopes xs))
    (sym (ap (λ b. cond b true (not (is_own_scope x.mark) && is_clear_above d (own_scopes xs))) other) ∙ h)

no_clear : (own rest : Bool) → own ≡ true → (not own && rest) ≡ false
no_clear true rest e = refl
no_clear false rest e = absurd (false≢true e)

-- nothing stands below a task's own scope on top
own_top-case : (b : Bool) (d : ℕ) (x : Frame) (xs : List Frame) → eqb (length xs) d ≡ b → is_own_scope x.mark ≡ true
    → cond b (awaits_trigger x.mark) (awaits_trigger_at d xs) ≡ true → cond b true (not (is_own_scope x.mark) && is_clear_above d (own_scopes xs)) ≡ true → ⊥
own_top-case true d x xs here own awaits clear = false≢true (sym (own-awaits x.mark own) ∙ awaits)
own_top-case false d x xs here own awaits clear = false≢true (sym (no_clear (is_own_scope x.mark) (is_clear_above d (own_scopes xs)) own) ∙ clear)

pub own_top-stands : (d : ℕ) (f : Frame) (fs : List Frame) → first_of fs ≡ Some f → is_own_scope f.mark ≡ true → StandsAt d fs → ⊥
own_top-stands d f [] top own h = false≢true h.0
own_top-stands d f (x ∷ xs) top own h =
    let same : f ≡ x = cc in
    own_top-case (eqb (length xs) d) d x xs refl (subst (λ (y : Frame). is_own_scope y.mark ≡ true) same own) h.0
    (sym (ap (λ n. cond (eqb n d) true (not (is_own_scope x.mark) && is_clear_above d (own_scopes xs))) (own-length xs)) ∙ h.1)
