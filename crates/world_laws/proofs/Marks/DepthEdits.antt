-- What edits of the frame at a depth leave: of one that is triggered, of one that is struck, and of one whose wait is over.
use Rattle.std.proofs.Common.{◌≡◌, ℕ, suc, ◌<◌, Bool, true, false, cond, eqb, ◌&&◌, ◌||◌, List, [], ◌∷◌, Some, refl, sym, ap, subst, ◌∙◌, length, arith, eq-eqb}
use Rattle.std.proofs.lemmas.Bool.{eqb-true, false≢true}
use Rattle.ann_base.specs.declared.identities.CallNo.{CallNo}
use Rattle.profile_machine.specs.declared.world.appointments.Registered.{Registered}
use Rattle.profile_machine.specs.declared.world.marks.AbortableMark.{AbortableMark}
use Rattle.profile_machine.specs.declared.world.marks.Frame.{Frame}
use Rattle.profile_machine.specs.declared.world.marks.Mark.{Mark}
use Rattle.profile_machine.specs.declared.world.marks.Mark.TheVariants.{Scope, Handled, InProtected, InAccept, Abortable, InInitialize, InFinalize, InAssign}
use Rattle.ann_base.specs.Lists.{is_empty}
use Rattle.profile_machine.specs.Frames.{with_mark}
use Rattle.profile_machine.specs.Unwinding.{struck_frame}
use Rattle.profile_machine.specs.CallEnds.{is_abortable_of, depth_of_abortable, edit_depth, edit_abortable, triggered_mark, waited_mark}
use Rattle.profile_machine.specs.WellFormed.{awaits_trigger, awaits_trigger_at, is_triggered}
use Rattle.world_laws.proofs.Marks.MarkFacts.{finalized_in, frame_at, triggered_part, top_awaits}
use Rattle.world_laws.proofs.Marks.MarkFacts.{StruckRightly, FinalizesRightly, below_finalizes, finalizes_here}
use Rattle.world_laws.proofs.Marks.DepthLemmas.{of_call-below}
use Rattle.machine_laws.proofs.FineMoves.{is_abortable}
use Rattle.machine_laws.proofs.QueueLemmas.{by_test}

-- ---- any edit at a depth

length-step : (b : Bool) (x y : Frame) (xs ys : List Frame) → length ys ≡ length xs → length (cond b (x ∷ xs) (y ∷ ys)) ≡ suc (length xs)
length-step true x y xs ys same = refl
length-step false x y xs ys same = ap suc same

pub depth-length : (d : ℕ) (f : Frame → Frame) (fs : List Frame) → length (edit_depth d f fs) ≡ length fs
depth-length d f [] = refl
depth-length d f (x ∷ xs) = length-step (eqb (length xs) d) (f x) x xs (edit_depth d f xs) (depth-length d f xs)

empty-step : (b : Bool) (x y : Frame) (xs ys : List Frame) → is_empty (cond b (x ∷ xs) (y ∷ ys)) ≡ false
empty-step true x y xs ys = refl
empty-step false x y xs ys = refl

pub depth-empty : (d : ℕ) (f : Frame → Frame) (fs : List Frame) → is_empty (edit_depth d f fs) ≡ is_empty fs
depth-empty d f [] = refl
depth-empty d f (x ∷ xs) = empty-step (eqb (length xs) d) (f x) x xs (edit_depth d f xs)

-- another depth awaits what it awaited
other_awaits-step : (b : Bool) (d e : ℕ) (f : Frame → Frame) (x : Frame) (xs : List Frame) → eqb (length xs) d ≡ b → eqb e d ≡ false
    → awaits_trigger_at e (edit_depth d f xs) ≡ awaits_trigger_at e xs
    → awaits_trigger_at e (cond b (f x ∷ xs) (x ∷ edit_depth d f xs)) ≡ awaits_trigger_at e (x ∷ xs)
other_awaits-step true d e f x xs here apart onward =
    let same : length xs ≡ d = eqb-true (length xs) d here in
    let other : eqb (length xs) e ≡ false =
    by_test (eqb (length xs) e) (λ k. absurd (false≢true (sym apart ∙ eq-eqb e d (sym (eqb-true (length xs) e k) ∙ same)))) (λ k. k) in
    ap (λ b. cond b (awaits_trigger (f x).mark) (awaits_trigger_at e xs)) other ∙ sym (ap (λ b. cond b (awaits_trigger x.mark) (awaits_trigger_at e xs)) other)
other_awaits-step false d e f x xs here apart onward =
    ap (λ n. cond (eqb n e) (awaits_trigger x.mark) (awaits_trigger_at e (edit_depth d f xs))) (depth-length d f xs)
    ∙ ap (λ b. cond (eqb (length xs) e) (awaits_trigger x.mark) b) onward

pub other-awaits : (d e : ℕ) (f : Frame → Frame) (fs : List Frame) → eqb e d ≡ false → awaits_trigger_at e (edit_depth d f fs) ≡ awaits_trigger_at e fs
other-awaits d e f [] apart = refl
other-awaits d e f (x ∷ xs) apart = other_awaits-step (eqb (length xs) d) d e f x xs refl apart (other-awaits d e f xs apart)

-- the frame at the depth is the edited one
edited_frame-step : (b : Bool) (d : ℕ) (f : Frame → Frame) (x y : Frame) (xs : List Frame) → eqb (length xs) d ≡ b
    → (frame_at d xs ≡ Some y → frame_at d (edit_depth d f xs) ≡ Some (f y)) → cond b (Some x) (frame_at d xs) ≡ Some y
    → frame_at d (cond b (f x ∷ xs) (x ∷ edit_depth d f xs)) ≡ Some (f y)
edited_frame-step true d f x y xs here onward h =
    let same : x ≡ y = cc in ap (λ b. cond b (Some (f x)) (frame_at d xs)) here ∙ ap (λ (z : Frame). Some (f z)) same
edited_frame-step false d f x y xs here onward h =
    ap (λ n. cond (eqb n d) (Some x) (frame_at d (edit_depth d f xs))) (depth-length d f xs) ∙ ap (λ b. cond b (Some x) (frame_at d (edit_depth d f xs))) here
    ∙ onward h

pub edited-frame : (d : ℕ) (f : Frame → Frame) (y : Frame) (fs : List Frame) → frame_at d fs ≡ Some y → frame_at d (edit_depth d f fs) ≡ Some (f y)
edited-frame d f y [] h = cc
edited-frame d f y (x ∷ xs) h = edited_frame-step (eqb (length xs) d) d f x y xs refl (λ k. edited-frame d f y xs k) h

-- ---- an abortable part has no Finalize, and is no place of one

same_finalized : (f : AbortableMark → AbortableMark) (mark : Mark) → finalized_in (edit_abortable f mark) ≡ finalized_in mark
same_finalized f (Scope m) = refl
same_finalized f (Handled s) = refl
same_finalized f (InProtected m) = refl
same_finalized f (InAccept m) = refl
same_finalized f (Abortable m) = refl
same_finalized f (InInitialize l) = refl
same_finalized f (InFinalize o) = refl
same_finalized f (InAssign m) = refl

same_here : (f : AbortableMark → AbortableMark) (registered : List Registered) (drawn n : ℕ) (mark : Mark)
    → finalizes_here registered drawn n (edit_abortable f mark) ≡ finalizes_here registered drawn n mark
same_here f registered drawn n (Scope m) = refl
same_here f registered drawn n (Handled s) = refl
same_here f registered drawn n (InProtected m) = refl
same_here f registered drawn n (InAccept m) = refl
same_here f registered drawn n (Abortable m) = refl
same_here f registered drawn n (InInitialize l) = refl
same_here f registered drawn n (InFinalize o) = refl
same_here f registered drawn n (InAssign m) = refl

abbrev pub edited_part : (AbortableMark → AbortableMark) → Frame → Frame
edited_part f x = with_mark (edit_abortable f x.mark) x

module _ (f : AbortableMark → AbortableMark) (registered : List Registered) (drawn : ℕ) (d : ℕ) where
  below-step : (b : Bool) (n : ℕ) (x : Frame) (xs ys : List Frame)
      → below_finalizes registered drawn n (cond b (edited_part f x ∷ xs) (x ∷ ys)) ≡ finalizes_here registered drawn n x.mark
  below-step true n x xs ys = same_here f registered drawn n x.mark
  below-step false n x xs ys = refl

  below-edited : (n : ℕ) (fs : List Frame) → below_finalizes registered drawn n (edit_depth d (edited_part f) fs) ≡ below_finalizes registered drawn n fs
  below-edited n [] = refl
  below-edited n (x ∷ xs) = below-step (eqb (length xs) d) n x xs (edit_depth d (edited_part f) xs)

  finalizes-step : (b : Bool) (x : Frame) (xs ys : List Frame) → ((n : ℕ) → below_finalizes registered drawn n ys ≡ below_finalizes registered drawn n xs)
      → FinalizesRightly registered drawn ys → FinalizesRightly registered drawn (x ∷ xs)
      → FinalizesRightly registered drawn (cond b (edited_part f x ∷ xs) (x ∷ ys))
  finalizes-step true x xs ys same onward h = ((λ n e. h.0 n (sym (same_finalized f x.mark) ∙ e)), h.1)
  finalizes-step false x xs ys same onward h = ((λ n e. same n ∙ h.0 n e), onward)

  pub depth-finalizes : (fs : List Frame) → FinalizesRightly registered drawn fs → FinalizesRightly registered drawn (edit_depth d (edited_part f) fs)
  depth-finalizes [] h = tt
  depth-finalizes (x ∷ xs) h = finalizes-step (eqb (length xs) d) x xs (edit_depth d (edited_part f) xs) (λ n. below-edited n xs) (depth-finalizes xs h.1) h

-- ---- it is triggered

triggered_more : (mark : Mark) → is_triggered mark ≡ true → is_triggered (edit_abortable triggered_mark mark) ≡ true
triggered_more (Abortable m) e = refl
triggered_more _ e = absurd (false≢true e)

pub part-triggered : (mark : Mark) → is_abortable mark ≡ true → is_triggered (edit_abortable triggered_mark mark) ≡ true
part-triggered (Abortable m) e = refl
part-triggered _ e = absurd (false≢true e)

triggered_of_call : (c : CallNo) (mark : Mark) → is_abortable_of c (edit_abortable triggered_mark mark) ≡ is_abortable_of c mark
triggered_of_call c (Scope m) = refl
triggered_of_call c (Handled s) = refl
triggered_of_call c (InProtected m) = refl
triggered_of_call c (InAccept m) = refl
triggered_of_call c (Abortable m) = refl
triggered_of_call c (InInitialize l) = refl
triggered_of_call c (InFinalize o) = refl
triggered_of_call c (InAssign m) = refl

none_false : (a : Bool) → (a && false) ≡ false
none_false true = refl
none_false false = refl

triggered_no_wait : (mark : Mark) → awaits_trigger (edit_abortable triggered_mark mark) ≡ false
triggered_no_wait (Scope m) = refl
triggered_no_wait (Handled s) = refl
triggered_no_wait (InProtected m) = refl
triggered_no_wait (InAccept m) = refl
triggered_no_wait (Abortable m) = none_false _
triggered_no_wait (InInitialize l) = refl
triggered_no_wait (InFinalize o) = refl
triggered_no_wait (InAssign m) = refl

cause-more : (a b c : Bool) → (a ≡ true → b ≡ true) → (a || c) ≡ true → (b || c) ≡ true
cause-more true b c k h = ap (λ x. x || c) (k refl)
cause-more false true c k h = refl
cause-more false false c k h = h

abbrev triggered : Frame → Frame
triggered = edited_part triggered_mark

module _ (d : ℕ) (abnormal : Bool) where
  triggered_struck-step : (b : Bool) (x : Frame) (xs ys : List Frame) → is_empty ys ≡ is_empty xs → StruckRightly abnormal ys → StruckRightly abnormal (x ∷ xs)
      → StruckRightly abnormal (cond b (triggered x ∷ xs) (x ∷ ys))
  triggered_struck-step true x xs ys same onward h = (
    (λ e. cause-more (is_triggered x.mark) (is_triggered (triggered x).mark) (is_empty xs && abnormal) (triggered_more x.mark) (h.0 e)),
    h.1,
  )
  triggered_struck-step false x xs ys same onward h = ((λ e. ap (λ b. is_triggered x.mark || (b && abnormal)) same ∙ h.0 e), onward)

  pub triggered-struck : (fs : List Frame) → StruckRightly abnormal fs → StruckRightly abnormal (edit_depth d triggered fs)
  triggered-struck [] h = tt
  triggered-struck (x ∷ xs) h =
      triggered_struck-step (eqb (length xs) d) x xs (edit_depth d triggered xs) (depth-empty d triggered xs) (triggered-struck xs h.1) h

  -- it is struck where it is triggered
  struck-step : (b : Bool) (x y : Frame) (xs ys : List Frame) → is_empty ys ≡ is_empty xs → (frame_at d xs ≡ Some y → StruckRightly abnormal ys)
      → is_triggered y.mark ≡ true → cond b (Some x) (frame_at d xs) ≡ Some y → StruckRightly abnormal (x ∷ xs)
      → StruckRightly abnormal (cond b (struck_frame x ∷ xs) (x ∷ ys))
  struck-step true x y xs ys same onward is found h =
      let one : x ≡ y = cc in ((λ e. ap (λ b. b || (is_empty xs && abnormal)) (subst (λ (z : Frame). is_triggered z.mark ≡ true) (sym one) is)), h.1)
  struck-step false x y xs ys same onward is found h = ((λ e. ap (λ b. is_triggered x.mark || (b && abnormal)) same ∙ h.0 e), onward found)

  pub depth-struck : (y : Frame) (fs : List Frame) → is_triggered y.mark ≡ true → frame_at d fs ≡ Some y → StruckRightly abnormal fs
      → StruckRightly abnormal (edit_depth d struck_frame fs)
  depth-struck y [] is found h = tt
  depth-struck y (x ∷ xs) is found h =
      struck-step (eqb (length xs) d) x y xs (edit_depth d struck_frame xs) (depth-empty d struck_frame xs) (λ k. depth-struck y xs is k h.1) is found h

triggered_top-step : (b : Bool) (x : Frame) (xs ys : List Frame) → awaits_trigger x.mark ≡ false → top_awaits (cond b (triggered x ∷ xs) (x ∷ ys)) ≡ false
triggered_top-step true x xs ys h = triggered_no_wait x.mark
triggered_top-step false x xs ys h = h

pub triggered-top : (d : ℕ) (fs : List Frame) → top_awaits fs ≡ false → top_awaits (edit_depth d triggered fs) ≡ false
triggered-top d [] h = refl
triggered-top d (x ∷ xs) h = triggered_top-step (eqb (length xs) d) x xs (edit_depth d triggered xs) h

-- the first part of another call
triggered_part-step : (b : Bool) (c : CallNo) (d : ℕ) (x y : Frame) (xs ys : List Frame) → eqb (length xs) d ≡ b
    → (frame_at d xs ≡ Some y → triggered_part c ys ≡ triggered_part c xs) → is_abortable_of c y.mark ≡ false → cond b (Some x) (frame_at d xs) ≡ Some y
    → triggered_part c (cond b (triggered x ∷ xs) (x ∷ ys)) ≡ triggered_part c (x ∷ xs)
triggered_part-step true c d x y xs ys here onward other found =
    let one : x ≡ y = cc in
    let apart : is_abortable_of c x.mark ≡ false = subst (λ (z : Frame). is_abortable_of c z.mark ≡ false) (sym one) other in
    ap (λ b. cond b (is_triggered (triggered x).mark) (triggered_part c xs)) (triggered_of_call c x.mark ∙ apart)
    ∙ sym (ap (λ b. cond b (is_triggered x.mark) (triggered_part c xs)) apart)
triggered_part-step false c d x y xs ys here onward other found = ap (λ b. cond (is_abortable_of c x.mark) (is_triggered x.mark) b) (onward found)

pub triggered-part : (c : CallNo) (d : ℕ) (y : Frame) (fs : List Frame) → is_abortable_of c y.mark ≡ false → frame_at d fs ≡ Some y
    → triggered_part c (edit_depth d triggered fs) ≡ triggered_part c fs
triggered-part c d y [] other found = refl
triggered-part c d y (x ∷ xs) other found =
    triggered_part-step (eqb (length xs) d) c d x y xs (edit_depth d triggered xs) refl (λ k. triggered-part c d y xs other k) other found

-- ---- its wait is over

abbrev waited : Bool → Frame → Frame
waited b = edited_part (waited_mark b)

cause-other : (a b c : Bool) → a ≡ false → (a || c) ≡ true → (b || c) ≡ true
cause-other true b c none h = absurd (false≢true (sym none))
cause-other false true c none h = refl
cause-other false false c none h = h

no_depth : {P : Type 0} (c : CallNo) (d : ℕ) (xs : List Frame) → eqb (length xs) d ≡ true → depth_of_abortable c xs ≡ Some d → P
no_depth c d xs here deeper =
    absurd (let low : d < length xs = of_call-below c d xs deeper in let same : length xs ≡ d = eqb-true (length xs) d here in omega (arith, same, low))

here_depth : {P : Type 0} (n d : ℕ) → eqb n d ≡ false → Some n ≡ Some d → P
here_depth n d apart e = absurd (let same : n ≡ d = cc in false≢true (sym apart ∙ eq-eqb n d same))

module _ (b : Bool) (c : CallNo) (d : ℕ) (abnormal : Bool) where
  waited-case : (here of_call : Bool) (x : Frame) (xs ys : List Frame) → eqb (length xs) d ≡ here
      → cond of_call (Some (length xs)) (depth_of_abortable c xs) ≡ Some d → cond of_call (is_triggered x.mark) (triggered_part c xs) ≡ false
      → is_empty ys ≡ is_empty xs → (depth_of_abortable c xs ≡ Some d → triggered_part c xs ≡ false → StruckRightly abnormal ys)
      → StruckRightly abnormal (x ∷ xs) → StruckRightly abnormal (cond here (waited b x ∷ xs) (x ∷ ys))
  waited-case true true x xs ys here found untriggered same onward h = (
    (λ e. cause-other (is_triggered x.mark) (is_triggered (waited b x).mark) (is_empty xs && abnormal) untriggered (h.0 e)),
    h.1,
  )
  waited-case true false x xs ys here found untriggered same onward h = no_depth c d xs here found
  waited-case false true x xs ys here found untriggered same onward h = here_depth (length xs) d here found
  waited-case false false x xs ys here found untriggered same onward h = (
    (λ e. ap (λ k. is_triggered x.mark || (k && abnormal)) same ∙ h.0 e),
    onward found untriggered,
  )

  pub waited-struck : (fs : List Frame) → depth_of_abortable c fs ≡ Some d → triggered_part c fs ≡ false → StruckRightly abnormal fs
      → StruckRightly abnormal (edit_depth d (waited b) fs)
  waited-struck [] found untriggered h = tt
  waited-struck (x ∷ xs) found untriggered h =
      waited-case (eqb (length xs) d) (is_abortable_of c x.mark) x xs (edit_depth d (waited b) xs) refl found untriggered (depth-empty d (waited b) xs)
      (λ k u. waited-struck xs k u h.1) h
