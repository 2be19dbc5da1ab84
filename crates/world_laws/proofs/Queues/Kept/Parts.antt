-- Abortable parts are triggered and end, and calls end with what it does to them (9.7.4).
use Rattle.std.proofs.Common.{suc}
use Rattle.std.proofs.Common.{◌≡◌, ◌+◌, ℕ, Bool, true, false, cond, not, ◌&&◌, ◌||◌, ◌⊎◌, inl, inr, ◌<◌, ◌≤◌, eqb}
use Rattle.std.proofs.Common.{length, List, [], ◌∷◌, Option, Some, None, refl, sym, subst, ap, ◌∙◌, arith, option_map}
use Rattle.std.specs.Prelude.{is_none}
use Rattle.std.proofs.lemmas.Bool.{and_parts, eqb-true, eq-eqb, true≢false}
use Rattle.ann_base.specs.declared.identities.CallNo.{CallNo}
use Rattle.ann_base.specs.declared.identities.TaskNo.{TaskNo}
use Rattle.trace_text.specs.declared.events.Who.{Who}
use Rattle.trace_text.specs.declared.events.Who.TheVariants as who
use Rattle.profile_machine.specs.declared.world.World.{World}
use Rattle.profile_machine.specs.declared.world.marks.AbortableMark.{AbortableMark}
use Rattle.profile_machine.specs.declared.world.marks.Frame.{Frame}
use Rattle.profile_machine.specs.declared.world.marks.Mark.{Mark}
use Rattle.profile_machine.specs.declared.world.marks.Mark.TheVariants.{Scope, Handled, InProtected, InAccept, Abortable, InInitialize, InFinalize, InAssign}
use Rattle.profile_image.specs.Words.{same_call, is_the}
use Rattle.profile_machine.specs.Tasks.{with_frames}
use Rattle.profile_machine.specs.Frames.{frames_of, with_mark}
use Rattle.profile_machine.specs.Appointments.{is_appointed, is_trigger_of}
use Rattle.profile_machine.specs.CallEnds.{is_abortable_of, depth_of_abortable, edit_depth, edit_abortable, edit_abortable_at}
use Rattle.world_laws.proofs.Queues.CallLists.{same-call}
use Rattle.world_laws.proofs.Queues.Calming.{edit_task-calm}
use Rattle.world_laws.proofs.Queues.Softening.{natures-length}
use Rattle.world_laws.proofs.Queues.Standing.{Calm, Ended, Kind, awaits_at, awaits_part, calls_part, ends_by, ends_part, has_own}
use Rattle.world_laws.proofs.Queues.Standing.{is_ending, natures, one_if, own_in, part_of, served_in, service, some_nature, top_waits}

-- ---- the mark with so many below it

-- the call of the abortable part there
abbrev pub call_at : ℕ → List Frame → Option (Option CallNo)
call_at depth [] = None
call_at depth (f ∷ fs) = cond (eqb (length fs) depth) (option_map (λ x. x.0) (part_of f.mark)) (call_at depth fs)

abortable-call : (c : CallNo) (mark : Mark) → is_abortable_of c mark ≡ true → option_map (λ x. x.0) (part_of mark) ≡ Some (Some c)
abortable-call c (Scope m) e = cc
abortable-call c (Handled s) e = cc
abortable-call c (InProtected m) e = cc
abortable-call c (InAccept m) e = cc
abortable-call c (Abortable m) e = ap Some (the-call c m.call e)
  where
    the-call : (c : CallNo) (x : Option CallNo) → is_the same_call x c ≡ true → x ≡ Some c
    the-call c None e = cc
    the-call c (Some d) e = ap Some (same-call d c e)
abortable-call c (InInitialize l) e = cc
abortable-call c (InFinalize o) e = cc
abortable-call c (InAssign m) e = cc

deeper : (c : CallNo) (depth : ℕ) (fs : List Frame) → depth_of_abortable c fs ≡ Some depth → depth < length fs
deeper c depth [] e = cc
deeper c depth (f ∷ fs) e = step (is_abortable_of c f.mark) e (λ k. deeper c depth fs k) where
  step : (b : Bool) → cond b (Some (length fs)) (depth_of_abortable c fs) ≡ Some depth → (depth_of_abortable c fs ≡ Some depth → depth < length fs)
      → depth < length (f ∷ fs)
  step true k onward = let same : length fs ≡ depth = cc in omega (arith, same)
  step false k onward = let low : depth < length fs = onward k in omega (arith, low)

apart-numbers : (b : Bool) (m n : ℕ) → eqb m n ≡ b → n < m → b ≡ false
apart-numbers true m n e h = let same : m ≡ n = eqb-true m n e in absurd (omega (arith, h, same))
apart-numbers false m n e h = refl

pub call_at-depth : (c : CallNo) (depth : ℕ) (fs : List Frame) → depth_of_abortable c fs ≡ Some depth → call_at depth fs ≡ Some (Some c)
call_at-depth c depth [] e = cc
call_at-depth c depth (f ∷ fs) e = step (is_abortable_of c f.mark) refl e (λ k. call_at-depth c depth fs k) where
  step : (b : Bool) → is_abortable_of c f.mark ≡ b → cond b (Some (length fs)) (depth_of_abortable c fs) ≡ Some depth
      → (depth_of_abortable c fs ≡ Some depth → call_at depth fs ≡ Some (Some c)) → call_at depth (f ∷ fs) ≡ Some (Some c)
  step true is k onward =
      let same : length fs ≡ depth = cc in
      ap (λ b. cond b (option_map (λ x. x.0) (part_of f.mark)) (call_at depth fs)) (eq-eqb (length fs) depth same) ∙ abortable-call c f.mark is
  step false is k onward =
      ap (λ b. cond b (option_map (λ x. x.0) (part_of f.mark)) (call_at depth fs))
      (apart-numbers (eqb (length fs) depth) (length fs) depth refl (deeper c depth fs k))
      ∙ onward k

awaiting-call : (x : Option (Option CallNo × Bool)) → awaits_part x ≡ true → option_map (λ y. y.0) x ≡ Some None
awaiting-call None e = cc
awaiting-call (Some x) e = ap Some (none-of x.0 (not x.1) e) where
  none-of : (y : Option CallNo) (b : Bool) → (is_none y && b) ≡ true → y ≡ None
  none-of None b e = refl
  none-of (Some c) b e = cc

-- one that waits for its moment has no call
pub call_at-awaits : (depth : ℕ) (fs : List Frame) → awaits_at depth (natures fs) ≡ true → call_at depth fs ≡ Some None
call_at-awaits depth [] e = cc
call_at-awaits depth (f ∷ fs) e = step (eqb (length (natures fs)) depth) refl e (λ k. call_at-awaits depth fs k) where
  step : (b : Bool) → eqb (length (natures fs)) depth ≡ b → cond b (awaits_part (part_of f.mark)) (awaits_at depth (natures fs)) ≡ true
      → (awaits_at depth (natures fs) ≡ true → call_at depth fs ≡ Some None) → call_at depth (f ∷ fs) ≡ Some None
  step true is k onward =
      ap (λ b. cond b (option_map (λ x. x.0) (part_of f.mark)) (call_at depth fs)) (ap (λ n. eqb n depth) (sym (natures-length fs)) ∙ is)
      ∙ awaiting-call (part_of f.mark) k
  step false is k onward =
      ap (λ b. cond b (option_map (λ x. x.0) (part_of f.mark)) (call_at depth fs)) (ap (λ n. eqb n depth) (sym (natures-length fs)) ∙ is) ∙ onward k

-- ---- an edit of an abortable part that leaves its call alone

module _ (g : AbortableMark → AbortableMark) (same : (m : AbortableMark) → (g m).call ≡ m.call) where
  abbrev pub part_edits : Frame → Frame
  part_edits x = with_mark (edit_abortable g x.mark) x

  edited-service : (mark : Mark) → service (edit_abortable g mark) ≡ service mark
  edited-service (Scope m) = refl
  edited-service (Handled s) = refl
  edited-service (InProtected m) = refl
  edited-service (InAccept m) = refl
  edited-service (Abortable m) = refl
  edited-service (InInitialize l) = refl
  edited-service (InFinalize o) = refl
  edited-service (InAssign m) = refl

  edited-own : (mark : Mark) → own_in (edit_abortable g mark) ≡ own_in mark
  edited-own (Scope m) = refl
  edited-own (Handled s) = refl
  edited-own (InProtected m) = refl
  edited-own (InAccept m) = refl
  edited-own (Abortable m) = refl
  edited-own (InInitialize l) = refl
  edited-own (InFinalize o) = refl
  edited-own (InAssign m) = refl

  edited-call : (mark : Mark) → option_map (λ x. x.0) (part_of (edit_abortable g mark)) ≡ option_map (λ x. x.0) (part_of mark)
  edited-call (Scope m) = refl
  edited-call (Handled s) = refl
  edited-call (InProtected m) = refl
  edited-call (InAccept m) = refl
  edited-call (Abortable m) = ap Some (same m)
  edited-call (InInitialize l) = refl
  edited-call (InFinalize o) = refl
  edited-call (InAssign m) = refl

  -- what the part is of, by its call alone
  calls-by : (c : CallNo) (x y : Option (Option CallNo × Bool)) → option_map (λ z. z.0) x ≡ option_map (λ z. z.0) y → calls_part c y ≡ true
      → calls_part c x ≡ true
  calls-by c None None e h = h
  calls-by c None (Some y) e h = cc
  calls-by c (Some x) None e h = cc
  calls-by c (Some x) (Some y) e h = let one : x.0 ≡ y.0 = cc in subst (λ z. is_the same_call z c ≡ true) (sym one) h

  ends-by-call : (c : CallNo) (x : Option (Option CallNo × Bool)) (call : Option CallNo) → option_map (λ z. z.0) x ≡ Some call → ends_part c x ≡ true
      → call ≡ Some c
  ends-by-call c None call e h = cc
  ends-by-call c (Some x) call e h =
      let one : x.0 ≡ call = cc in
      sym one ∙ the-one x.0 ((and_parts x.1 (is_the same_call x.0 c) h).1) where
        the-one : (y : Option CallNo) → is_the same_call y c ≡ true → y ≡ Some c
        the-one None k = cc
        the-one (Some d) k = ap Some (same-call d c k)

  edited-length : (depth : ℕ) (fs : List Frame) → length (natures (edit_depth depth part_edits fs)) ≡ length (natures fs)
  edited-length depth [] = refl
  edited-length depth (x ∷ xs) = step (eqb (length xs) depth) (edited-length depth xs) where
    step : (b : Bool) → length (natures (edit_depth depth part_edits xs)) ≡ length (natures xs)
        → length (natures (cond b (part_edits x ∷ xs) (x ∷ edit_depth depth part_edits xs))) ≡ length (natures (x ∷ xs))
    step true e = refl
    step false e = ap suc e

  edited-served : (c : CallNo) (depth : ℕ) (fs : List Frame) → served_in c (natures (edit_depth depth part_edits fs)) ≡ served_in c (natures fs)
  edited-served c depth [] = refl
  edited-served c depth (x ∷ xs) = step (eqb (length xs) depth) (edited-served c depth xs) where
    step : (b : Bool) → served_in c (natures (edit_depth depth part_edits xs)) ≡ served_in c (natures xs)
        → served_in c (natures (cond b (part_edits x ∷ xs) (x ∷ edit_depth depth part_edits xs))) ≡ served_in c (natures (x ∷ xs))
    step true e = ap (λ y. one_if (is_the same_call y c) + served_in c (natures xs)) (edited-service x.mark)
    step false e = ap (λ n. one_if (is_the same_call (service x.mark) c) + n) e

  edited-owns : (c : CallNo) (depth : ℕ) (fs : List Frame)
      → some_nature (has_own c) (natures (edit_depth depth part_edits fs)) ≡ some_nature (has_own c) (natures fs)
  edited-owns c depth [] = refl
  edited-owns c depth (x ∷ xs) = step (eqb (length xs) depth) (edited-owns c depth xs) where
    step : (b : Bool) → some_nature (has_own c) (natures (edit_depth depth part_edits xs)) ≡ some_nature (has_own c) (natures xs)
        → some_nature (has_own c) (natures (cond b (part_edits x ∷ xs) (x ∷ edit_depth depth part_edits xs))) ≡ some_nature (has_own c) (natures (x ∷ xs))
    step true e = ap (λ y. is_the same_call y c || some_nature (has_own c) (natures xs)) (edited-own x.mark)
    step false e = ap (λ b. is_the same_call (own_in x.mark) c || b) e

  or-parts : (a b : Bool) → (a || b) ≡ true → (a ≡ true) ⊎ (b ≡ true)
  or-parts true b e = inl refl
  or-parts false b e = inr e

  or-right : (a b : Bool) → b ≡ true → (a || b) ≡ true
  or-right true b e = refl
  or-right false b e = e

  -- what ends by a call there did so before, or the call is that of the part that is edited
  edited-ends : (c : CallNo) (call : Option CallNo) (depth : ℕ) (fs : List Frame) → call_at depth fs ≡ Some call
      → some_nature (ends_by c) (natures (edit_depth depth part_edits fs)) ≡ true → (some_nature (ends_by c) (natures fs) ≡ true) ⊎ (call ≡ Some c)
  edited-ends c call depth [] at h = inl h
  edited-ends c call depth (x ∷ xs) at h = step (eqb (length xs) depth) at h (λ k l. edited-ends c call depth xs k l) where
    later : (some_nature (ends_by c) (natures xs) ≡ true) ⊎ (call ≡ Some c) → (some_nature (ends_by c) (natures (x ∷ xs)) ≡ true) ⊎ (call ≡ Some c)
    later (inl h) = inl (or-right (ends_part c (part_of x.mark)) (some_nature (ends_by c) (natures xs)) h)
    later (inr e) = inr e

    here : (ends_part c (part_of (edit_abortable g x.mark)) ≡ true) ⊎ (some_nature (ends_by c) (natures xs) ≡ true)
        → option_map (λ y. y.0) (part_of x.mark) ≡ Some call → (some_nature (ends_by c) (natures (x ∷ xs)) ≡ true) ⊎ (call ≡ Some c)
    here (inl h) e = inr (ends-by-call c (part_of (edit_abortable g x.mark)) call (edited-call x.mark ∙ e) h)
    here (inr h) e = later (inl h)

    kept : (ends_part c (part_of x.mark) ≡ true) ⊎ (some_nature (ends_by c) (natures (edit_depth depth part_edits xs)) ≡ true)
        → (some_nature (ends_by c) (natures (edit_depth depth part_edits xs)) ≡ true → (some_nature (ends_by c) (natures xs) ≡ true) ⊎ (call ≡ Some c))
        → (some_nature (ends_by c) (natures (x ∷ xs)) ≡ true) ⊎ (call ≡ Some c)
    kept (inl h) onward = inl (ap (λ b. b || some_nature (ends_by c) (natures xs)) h)
    kept (inr h) onward = later (onward h)

    step : (b : Bool) → cond b (option_map (λ y. y.0) (part_of x.mark)) (call_at depth xs) ≡ Some call
        → some_nature (ends_by c) (natures (cond b (part_edits x ∷ xs) (x ∷ edit_depth depth part_edits xs))) ≡ true
        → (call_at depth xs ≡ Some call → some_nature (ends_by c) (natures (edit_depth depth part_edits xs)) ≡ true
        → (some_nature (ends_by c) (natures xs) ≡ true) ⊎ (call ≡ Some c))
        → (some_nature (ends_by c) (natures (x ∷ xs)) ≡ true) ⊎ (call ≡ Some c)
    step true e h onward = here (or-parts (ends_part c (part_of (edit_abortable g x.mark))) (some_nature (ends_by c) (natures xs)) h) e
    step false e h onward = kept (or-parts (ends_part c (part_of x.mark)) (some_nature (ends_by c) (natures (edit_depth depth part_edits xs))) h) (onward e)

  -- what waits for a moment elsewhere still does
  edited-awaits : (d depth : ℕ) (fs : List Frame) → (d ≡ depth → ⊥) → awaits_at d (natures fs) ≡ true
      → awaits_at d (natures (edit_depth depth part_edits fs)) ≡ true
  edited-awaits d depth [] apart h = h
  edited-awaits d depth (x ∷ xs) apart h = step (eqb (length xs) depth) refl (eqb (length (natures xs)) d) refl h (λ k. edited-awaits d depth xs apart k) where
    step : (b : Bool) → eqb (length xs) depth ≡ b → (b2 : Bool) → eqb (length (natures xs)) d ≡ b2
        → cond b2 (awaits_part (part_of x.mark)) (awaits_at d (natures xs)) ≡ true
        → (awaits_at d (natures xs) ≡ true → awaits_at d (natures (edit_depth depth part_edits xs)) ≡ true)
        → awaits_at d (natures (cond b (part_edits x ∷ xs) (x ∷ edit_depth depth part_edits xs))) ≡ true
    step true is true own h onward =
        let one : length xs ≡ depth = eqb-true (length xs) depth is in
        let two : length (natures xs) ≡ d = eqb-true (length (natures xs)) d own in
        absurd (apart (sym two ∙ natures-length xs ∙ one))
    step true is false own h onward = ap (λ b. cond b (awaits_part (part_of (edit_abortable g x.mark))) (awaits_at d (natures xs))) own ∙ h
    step false is b2 own h onward = kept b2 own h onward where
      kept : (b2 : Bool) → eqb (length (natures xs)) d ≡ b2 → cond b2 (awaits_part (part_of x.mark)) (awaits_at d (natures xs)) ≡ true
          → (awaits_at d (natures xs) ≡ true → awaits_at d (natures (edit_depth depth part_edits xs)) ≡ true)
          → awaits_at d (natures (x ∷ edit_depth depth part_edits xs)) ≡ true
      kept true own h onward =
          ap (λ n. cond (eqb n d) (awaits_part (part_of x.mark)) (awaits_at d (natures (edit_depth depth part_edits xs)))) (edited-length depth xs)
          ∙ ap (λ b. cond b (awaits_part (part_of x.mark)) (awaits_at d (natures (edit_depth depth part_edits xs)))) own ∙ h
      kept false own h onward =
          ap (λ n. cond (eqb n d) (awaits_part (part_of x.mark)) (awaits_at d (natures (edit_depth depth part_edits xs)))) (edited-length depth xs)
          ∙ ap (λ b. cond b (awaits_part (part_of x.mark)) (awaits_at d (natures (edit_depth depth part_edits xs)))) own ∙ onward h

  pub edited-ending : (c : CallNo) (depth : ℕ) (fs : List Frame) → is_ending c fs ≡ true → is_ending c (edit_depth depth part_edits fs) ≡ true
  edited-ending c depth [] h = h
  edited-ending c depth (x ∷ xs) h = step (eqb (length xs) depth) where
    both : (a b : Bool) → a ≡ true → b ≡ true → (a && b) ≡ true
    both true b e f = f
    both false b e f = cc

    step : (b : Bool) → is_ending c (cond b (part_edits x ∷ xs) (x ∷ edit_depth depth part_edits xs)) ≡ true
    step true =
        let parts = and_parts (is_none x.onward) (calls_part c (part_of x.mark)) h in
        both (is_none x.onward) (calls_part c (part_of (edit_abortable g x.mark))) parts.0
        (calls-by c (part_of (edit_abortable g x.mark)) (part_of x.mark) (edited-call x.mark) parts.1)
    step false = h

  -- no part that waits for a moment comes on top
  edited-top : (depth : ℕ) (call : Option CallNo) (fs : List Frame) → call_at depth fs ≡ Some call → (call ≡ None → ⊥) → top_waits (natures fs) ≡ false
      → top_waits (natures (edit_depth depth part_edits fs)) ≡ false
  edited-top depth call [] at some h = h
  edited-top depth call (x ∷ xs) at some h = step (eqb (length xs) depth) at where
    not-awaiting : (y : Option (Option CallNo × Bool)) → option_map (λ z. z.0) y ≡ Some call → awaits_part y ≡ false
    not-awaiting None e = cc
    not-awaiting (Some z) e = by_call z.0 refl where
      by_call : (k : Option CallNo) → z.0 ≡ k → awaits_part (Some z) ≡ false
      by_call None is = absurd (some (let one : z.0 ≡ call = cc in sym one ∙ is))
      by_call (Some c) is = ap (λ k. is_none k && not z.1) is

    step : (b : Bool) → cond b (option_map (λ y. y.0) (part_of x.mark)) (call_at depth xs) ≡ Some call
        → top_waits (natures (cond b (part_edits x ∷ xs) (x ∷ edit_depth depth part_edits xs))) ≡ false
    step true e = not-awaiting (part_of (edit_abortable g x.mark)) (edited-call x.mark ∙ e)
    step false e = h

  -- no moment is set for it, and where its call is, that has ended
  pub edit_abortable_at-calm : {E : Kind} (name : Who) (depth : ℕ) (call : Option CallNo) (w : World) → call_at depth (frames_of w name) ≡ Some call
      → ((c : CallNo) → call ≡ Some c → Ended c w)
      → ((n : TaskNo) → name ≡ who.Task n → is_appointed (is_trigger_of n depth) w ≡ true → awaits_at depth (natures (frames_of w name)) ≡ true → ⊥)
      → (E.steady name ≡ true → call ≡ None → ⊥) → Calm E w (edit_abortable_at name depth g w)
  edit_abortable_at-calm name depth call w at end unset free =
      let fs = frames_of w name in
      edit_task-calm name (λ t. with_frames (edit_depth depth part_edits t.frames) t) w (λ t. refl)
      record {
        named = refl;
        queues = λ k c h. h;
        stays = λ k c h. inl h;
        completed = refl;
        fewer = λ c. subst (λ n. n ≤ served_in c (natures fs)) (sym (edited-served c depth fs)) (omega arith);
        owns = λ c h. inl (sym (edited-owns c depth fs) ∙ h);
        ended = λ c h. ends-or c (edited-ends c call depth fs at h);
        awaits = λ n d is set h. awaits-or n d is set h (eqb d depth) refl;
        ends = λ c h. (h, λ d e i. edited-ending c depth fs i);
        tops = λ is h. edited-top depth call fs at (free is) h;
      } where
        ends-or : (c : CallNo) → (some_nature (ends_by c) (natures (frames_of w name)) ≡ true) ⊎ (call ≡ Some c)
            → (some_nature (ends_by c) (natures (frames_of w name)) ≡ true) ⊎ Ended c w
        ends-or c (inl h) = inl h
        ends-or c (inr e) = inr (end c e)

        awaits-or : (n : TaskNo) (d : ℕ) → name ≡ who.Task n → is_appointed (is_trigger_of n d) w ≡ true → awaits_at d (natures (frames_of w name)) ≡ true
            → (b : Bool) → eqb d depth ≡ b → awaits_at d (natures (edit_depth depth part_edits (frames_of w name))) ≡ true
        awaits-or n d is set h true e =
            let one : d ≡ depth = eqb-true d depth e in
            absurd
            (unset n is (subst (λ m. is_appointed (is_trigger_of n m) w ≡ true) one set) (subst (λ m. awaits_at m (natures (frames_of w name)) ≡ true) one h))
        awaits-or n d is set h false e = edited-awaits d depth (frames_of w name) (λ one. true≢false (sym (eq-eqb d depth one) ∙ e)) h
