-- What each step by which an effect changes somebody's level makes of places.
use Rattle.ann_base.specs.declared.identities.TaskNo.{TaskNo}
use Rattle.ceiling_laws.proofs.Places.EditLemmas.{edit-others, edit-state, inherit-rises}
use Rattle.ceiling_laws.proofs.Places.PartOrder.{last_put-append, by_test}
use Rattle.ceiling_laws.specs.Acting.{AreLow, BaseLeavesLow, BlockLeavesLow, EndLeavesLow, InheritanceLeavesLow}
use Rattle.ceiling_laws.specs.Acting.{LeadsLow, LossLeavesLow, MayBePlaced, PlacingLeavesLow, ReadyLeavesLow}
use Rattle.ceiling_laws.specs.PlaceLaws.{IsAtMost, level_shown}
use Rattle.ceiling_laws.specs.Puts.{last_put, place_by, puts, with_put}
use Rattle.ceiling_laws.proofs.Runs.Kept.Waking.{who-is}
use Rattle.ceiling_laws.proofs.Runs.LevelMoves.{said_so}
use Rattle.profile_machine.specs.Dispatching.{active, active_of, block, deadline_shown, grant_quantum, granted, keep_level, level_kept_by}
use Rattle.profile_machine.specs.Dispatching.{ready, says_block, says_ready, to_head, to_tail, without_kept_level, word_of}
use Rattle.profile_machine.specs.Inheritance.{falls, inherit, inherit_running, lose, lose_running, rises, same_cause}
use Rattle.profile_machine.specs.Priorities.{replace_in, says_base, set_base}
use Rattle.profile_image.specs.Program.{edf_low, is_robin_level}
use Rattle.profile_machine.specs.Steps.{is_part_before, when}
use Rattle.profile_machine.specs.Tasking.{says_done}
use Rattle.profile_machine.specs.Tasks.{edit_task, task_of, with_state}
use Rattle.profile_image.specs.Words.{same_who, without}
use Rattle.profile_image.specs.declared.image.Image.{Image}
use Rattle.profile_machine.specs.declared.world.World.{World}
use Rattle.profile_machine.specs.declared.world.lines.Line.{Line}
use Rattle.profile_machine.specs.declared.world.lines.Line.TheVariants as line
use Rattle.profile_machine.specs.declared.world.lines.Part.{Part}
use Rattle.profile_machine.specs.declared.world.lines.Part.TheVariants.{TheBlock, ThePlacing}
use Rattle.profile_machine.specs.declared.world.lines.Said.{Said}
use Rattle.profile_machine.specs.declared.world.tasks.Cause.{Cause}
use Rattle.profile_machine.specs.declared.world.tasks.State.TheVariants.{Blocked, Runnable}
use Rattle.profile_machine.specs.declared.world.tasks.Task.{Task}
use Rattle.profile_machine.specs.declared.world.tasks.Waiting.{Waiting}
use Rattle.std.proofs.Common.{Bool, List, None, Option, Some, [], ap, arith, cond, false, inl, inr, le_refl}
use Rattle.std.proofs.Common.{le_trans, ltb, refl, subst, sym, true, ℕ, ◌&&◌, ◌++◌, ◌∙◌, ◌∷◌, ◌≡◌, ◌≤◌, ◌⊎◌}
use Rattle.std.specs.Prelude.{eqb, slice_index_or}
use Rattle.trace_text.specs.Laws.{Levels}
use Rattle.trace_text.specs.declared.events.QueueEnd.{QueueEnd}
use Rattle.trace_text.specs.declared.events.QueueEnd.TheVariants.{Head, Tail}
use Rattle.trace_text.specs.declared.events.Who.{Who}
use Rattle.trace_text.specs.declared.events.Who.TheVariants as who
use Rattle.line_laws.proofs.Handlers.AgentLines.{block_last}
use Rattle.line_laws.proofs.Leaving.TaskLemmas.{same_self}

abbrev Fine : ℕ → Option ℕ → Option (Part × Option ℕ) → Type 0
Fine level shown last = MayBePlaced ThePlacing last × IsAtMost (place_by last shown) level

pub at_most-risen : (place : Option ℕ) (a b : ℕ) → a ≤ b → IsAtMost place a → IsAtMost place b
at_most-risen None a b up h = tt
at_most-risen (Some level) a b up h = le_trans h up

fine-risen : (shown : Option ℕ) (last : Option (Part × Option ℕ)) (a b : ℕ) → a ≤ b → Fine a shown last → Fine b shown last
fine-risen shown last a b up h = (h.0, at_most-risen (place_by last shown) a b up h.1)

-- ---- one line more

put-test : (b : Bool) (last : Part × Option ℕ) (part : Part) (level : ℕ) (shown : Option ℕ) → is_part_before ThePlacing part ≡ false
    → (last.1 ≡ None) ⊎ (b ≡ false) → Fine level shown (cond b (Some last) (Some (part, Some level)))
put-test true last part level shown early (inl none) = (inl none, subst (λ e. IsAtMost e level) (sym none) tt)
put-test true last part level shown early (inr e) = absurd cc
put-test false last part level shown early may = (inr early, le_refl level)

put-fine : (last : Option (Part × Option ℕ)) (part : Part) (level : ℕ) (shown : Option ℕ) → is_part_before ThePlacing part ≡ false → MayBePlaced part last
    → Fine level shown (with_put last part (Some (Some level)))
put-fine None part level shown early may = (inr early, le_refl level)
put-fine (Some last) part level shown early may = put-test (is_part_before part last.0) last part level shown early may

out-test : (b : Bool) (last : Part × Option ℕ) (level : ℕ) (shown : Option ℕ) → b ≡ false → Fine level shown (cond b (Some last) (Some (TheBlock, None)))
out-test true last level shown e = absurd cc
out-test false last level shown e = (inl refl, tt)

out-fine : (last : Option (Part × Option ℕ)) (level : ℕ) (shown : Option ℕ) → Fine level shown (with_put last TheBlock (Some None))
out-fine None level shown = (inl refl, tt)
out-fine (Some last) level shown = out-test (is_part_before TheBlock last.0) last level shown (block_last last.0)

pub with-none : (last : Option (Part × Option ℕ)) (part : Part) → with_put last part None ≡ last
with-none None part = refl
with-none (Some last) part = refl

module _ (p : Image) (s : Levels) where
  abbrev FineOf : World → List Said → Who → Type 0
  FineOf w said n = Fine (active_of p w n) (level_shown n s) (last_put n said)

  unsaid : (n : Who) (part : Part) (x : Line) (w : World) (said : List Said) → puts n x ≡ None → FineOf w said n → FineOf w (said ++ said_so part x ∷ []) n
  unsaid n part x w said e h =
      subst (Fine (active_of p w n) (level_shown n s))
      (sym (last_put-append n said (said_so part x) ∙ ap (with_put (last_put n said) part) e ∙ with-none (last_put n said) part)) h

  said-fine : (n : Who) (part : Part) (x : Line) (place : Option ℕ) (w : World) (said : List Said) → puts n x ≡ Some place
      → Fine (active_of p w n) (level_shown n s) (with_put (last_put n said) part (Some place)) → FineOf w (said ++ said_so part x ∷ []) n
  said-fine n part x place w said e h =
      subst (Fine (active_of p w n) (level_shown n s)) (sym (last_put-append n said (said_so part x) ∙ ap (with_put (last_put n said) part) e)) h

  same-fine : (a b : World) (said : List Said) (n : Who) → active_of p b n ≡ active_of p a n → FineOf a said n → FineOf b said n
  same-fine a b said n same h = subst (λ level. Fine level (level_shown n s) (last_put n said)) (sym same) h

  -- of somebody and of all others, by whose name it is
  by_name : (name : Who) (w : World) (said : List Said) → FineOf w said name → ((n : Who) → same_who n name ≡ false → FineOf w said n) → AreLow p s w said
  by_name name w said own others = λ n. by_test (same_who n name) (λ t. subst (λ k. FineOf w said k) (sym (who-is n name t)) own) (λ apart. others n apart)

  ready-low : (part : Part) (name : Who) (end : QueueEnd) (a b : World) (said : List Said) → is_part_before ThePlacing part ≡ false
      → MayBePlaced part (last_put name said) → ((n : Who) → same_who n name ≡ false → active_of p b n ≡ active_of p a n) → AreLow p s a said
      → LeadsLow p s (says_ready p part name end b said)
  unfolding says_ready
  ready-low part name end a b said early may others h =
      let x = line.Ready name (active_of p b name) end (deadline_shown p (task_of b name)) in
      by_name name b (said ++ said_so part x ∷ [])
      (said-fine name part x (Some (active_of p b name)) b said (ap (λ t. cond t (Some (Some (active_of p b name))) None) (same_self name))
      (put-fine (last_put name said) part (active_of p b name) (level_shown name s) early may))
      (λ n apart. unsaid n part x b said (ap (λ t. cond t (Some (Some (active_of p b name))) None) apart) (same-fine a b said n (others n apart) (h n)))

  head-low : (name : Who) (a b : World) (said : List Said) → ((n : Who) → same_who n name ≡ false → active_of p b n ≡ active_of p a n) → AreLow p s a said
      → LeadsLow p s (to_head p ThePlacing name b said)
  unfolding to_head
  head-low name a b said others h = ready-low ThePlacing name Head a b said refl (h name).0 others h

  granted-who : (test : Bool) (n : ℕ) (t : Task) → (cond test (record t { quantum = n }) t).who ≡ t.who
  granted-who true n t = refl
  granted-who false n t = refl

  grant-others : (name : Who) (w : World) (n : Who) → same_who n name ≡ false → active_of p (grant_quantum p name w) n ≡ active_of p w n
  grant-others name w n apart =
      edit-others p name (granted p w.quanta) w n
      (λ t. granted-who (eqb (active p t) t.base && is_robin_level p t.base) (slice_index_or w.quanta t.base 0) t) apart

  keep-others : (name : Who) (w : World) (n : Who) → same_who n name ≡ false → active_of p (keep_level p name w) n ≡ active_of p w n
  keep-others name w n apart = edit-others p name (λ t. record t { kept_level = level_kept_by p w t (edf_low p t.base) }) w n (λ t. refl) apart

  became-others : (name : Who) (w : World) (n : Who) → same_who n name ≡ false
      → active_of p (grant_quantum p name (keep_level p name (edit_task name (with_state Runnable) w))) n ≡ active_of p w n
  became-others name w n apart =
      let first = edit_task name (with_state Runnable) w in
      grant-others name (keep_level p name first) n apart ∙ keep-others name first n apart ∙ edit-others p name (with_state Runnable) w n (λ t. refl) apart

  blocked-others : (name : Who) (waiting : Waiting) (w : World) (n : Who) → same_who n name ≡ false
      → active_of p (edit_task name without_kept_level (edit_task name (with_state (Blocked waiting)) w)) n ≡ active_of p w n
  blocked-others name waiting w n apart =
      edit-others p name without_kept_level (edit_task name (with_state (Blocked waiting)) w) n (λ t. refl) apart
      ∙ edit-others p name (with_state (Blocked waiting)) w n (λ t. refl) apart

  lost-others : (name : Who) (cause : Cause) (w : World) (n : Who) → same_who n name ≡ false → active_of p (lose name cause w) n ≡ active_of p w n
  lost-others name cause w n apart =
      edit-others p name (λ t. record t { inherited = without (λ i. same_cause cause i.cause) t.inherited }) w n (λ t. refl) apart

  inherited-others : (name : Who) (cause : Cause) (level : ℕ) (w : World) (n : Who) → same_who n name ≡ false
      → active_of p (inherit name cause level w) n ≡ active_of p w n
  inherited-others name cause level w n apart =
      edit-others p name (λ t. record t { inherited = record { cause = cause; level = level } ∷ t.inherited }) w n (λ t. refl) apart

  not_less : (a b : ℕ) → ltb a b ≡ false → b ≤ a
  not_less a b e = grind arith

  risen-low : (a b : World) (said : List Said) → ((n : Who) → active_of p a n ≤ active_of p b n) → AreLow p s a said → AreLow p s b said
  risen-low a b said up h = λ n. fine-risen (level_shown n s) (last_put n said) (active_of p a n) (active_of p b n) (up n) (h n)

  raised : (name : Who) (a b : World) (said : List Said) (test : Bool) → ((n : Who) → same_who n name ≡ false → active_of p b n ≡ active_of p a n)
      → AreLow p s a said → (test ≡ false → AreLow p s b said) → LeadsLow p s (when test (to_head p ThePlacing name) b said)
  raised name a b said true others h still = head-low name a b said others h
  raised name a b said false others h still = still refl

  inheritance-low : (name : Who) (cause : Cause) (level : ℕ) (w : World) (said : List Said) → AreLow p s w said
      → LeadsLow p s (inherit_running p name cause level w said)
  unfolding inherit_running
  inheritance-low name cause level w said h =
      raised name w (inherit name cause level w) said (rises p name w (inherit name cause level w)) (inherited-others name cause level w) h
      (λ e. risen-low w (inherit name cause level w) said (inherit-rises p name cause level w) h)

  loss-low : (name : Who) (cause : Cause) (w : World) (said : List Said) → AreLow p s w said → LeadsLow p s (lose_running p name cause w said)
  unfolding lose_running
  loss-low name cause w said h =
      let b = lose name cause w in
      raised name w b said (falls p name w b) (lost-others name cause w) h
      (λ e. by_name name b said
      (fine-risen (level_shown name s) (last_put name said) (active_of p w name) (active_of p b name) (not_less (active_of p b name) (active_of p w name) e)
      (h name))
      (λ n apart. same-fine w b said n (lost-others name cause w n apart) (h n)))

  block-low : (name : Who) (waiting : Waiting) (w : World) (said : List Said) → AreLow p s w said → LeadsLow p s (block TheBlock name waiting w said)
  unfolding block says_block
  block-low name waiting w said h =
      let b = edit_task name without_kept_level (edit_task name (with_state (Blocked waiting)) w) in
      let x = line.Block name (word_of waiting) in
      by_name name b (said ++ said_so TheBlock x ∷ [])
      (said-fine name TheBlock x None b said (ap (λ t. cond t (Some None) None) (same_self name))
      (out-fine (last_put name said) (active_of p b name) (level_shown name s)))
      (λ n apart. unsaid n TheBlock x b said (ap (λ t. cond t (Some None) None) apart) (same-fine w b said n (blocked-others name waiting w n apart) (h n)))

  tail-low : (part : Part) (name : Who) (a w : World) (said : List Said) → is_part_before ThePlacing part ≡ false → MayBePlaced part (last_put name said)
      → ((n : Who) → same_who n name ≡ false → active_of p w n ≡ active_of p a n) → AreLow p s a said → LeadsLow p s (to_tail p part name w said)
  unfolding to_tail
  tail-low part name a w said early may others h =
      ready-low part name Tail a (grant_quantum p name w) said early may (λ n apart. grant-others name w n apart ∙ others n apart) h

  -- a base priority that is set
  abbrev based : Who → ℕ → World → World
  based name level w = edit_task name (λ t. record t { base = level }) w

  replaced-low : (placing : Part) (name : Who) (level : ℕ) (w : World) (said : List Said) → (task_of w name).state ≡ Runnable
      → is_part_before ThePlacing placing ≡ false → MayBePlaced placing (last_put name said) → AreLow p s w said
      → LeadsLow p s (replace_in p placing name (task_of (based name level w) name).state (based name level w) said)
  unfolding replace_in
  replaced-low placing name level w said is early may h =
      subst (λ state. LeadsLow p s (replace_in p placing name state (based name level w) said))
      (sym (edit-state name (λ t. record t { base = level }) w (λ t. refl) (λ t. refl) ∙ is))
      (tail-low placing name w (based name level w) said early may (λ n apart. edit-others p name (λ t. record t { base = level }) w n (λ t. refl) apart) h)

  base_said : (part : Part) (t : TaskNo) (level : ℕ) (n : Who) (said : List Said) → last_put n (said ++ said_so part (line.Base t level) ∷ []) ≡ last_put n said
  base_said part t level n said = last_put-append n said (said_so part (line.Base t level)) ∙ with-none (last_put n said) part

  base-low : (part placing : Part) (name : Who) (level : ℕ) (w : World) (said : List Said) → (task_of w name).state ≡ Runnable
      → is_part_before ThePlacing placing ≡ false → MayBePlaced placing (last_put name said) → AreLow p s w said
      → LeadsLow p s (set_base p part placing name level w said)
  unfolding set_base says_base
  base-low part placing (who.Task t) level w said is early may h =
      let x = line.Base t level in
      replaced-low placing (who.Task t) level w (said ++ said_so part x ∷ []) is early
      (subst (MayBePlaced placing) (sym (base_said part t level (who.Task t) said)) may)
      (λ n. unsaid n part x w said refl (h n))
  base-low part placing who.Agent level w said is early may h = replaced-low placing who.Agent level w said is early may h

  -- who has ended
  gone-test : (b : Bool) (last : Part × Option ℕ) (part : Part) (level : ℕ) (shown : Option ℕ) → Fine level shown (Some last)
      → Fine level shown (cond b (Some last) (Some (part, None)))
  gone-test true last part level shown h = h
  gone-test false last part level shown h = (inl refl, tt)

  gone-fine : (last : Option (Part × Option ℕ)) (part : Part) (level : ℕ) (shown : Option ℕ) → Fine level shown last
      → Fine level shown (with_put last part (Some None))
  gone-fine None part level shown h = (inl refl, tt)
  gone-fine (Some last) part level shown h = gone-test (is_part_before part last.0) last part level shown h

  done-low : (part : Part) (name : Who) (w : World) (said : List Said) → AreLow p s w said → LeadsLow p s (says_done part name w said)
  unfolding says_done
  done-low part (who.Task t) w said h =
      let x = line.Done t in
      by_name (who.Task t) w (said ++ said_so part x ∷ [])
      (said-fine (who.Task t) part x None w said (ap (λ b. cond b (Some None) None) (same_self (who.Task t)))
      (gone-fine (last_put (who.Task t) said) part (active_of p w (who.Task t)) (level_shown (who.Task t) s) (h (who.Task t))))
      (λ n apart. unsaid n part x w said (ap (λ b. cond b (Some None) None) apart) (h n))
  done-low part who.Agent w said h = h

pub ready_leaves_low : ReadyLeavesLow
unfolding ready to_tail
ready_leaves_low p s part name w said early may h =
    ready-low p s part name Tail w (grant_quantum p name (keep_level p name (edit_task name (with_state Runnable) w))) said early may
    (became-others p s name w) h

pub block_leaves_low : BlockLeavesLow
block_leaves_low p s name waiting w said h = block-low p s name waiting w said h

pub inheritance_leaves_low : InheritanceLeavesLow
inheritance_leaves_low p s name cause level w said h = inheritance-low p s name cause level w said h

pub loss_leaves_low : LossLeavesLow
loss_leaves_low p s name cause w said h = loss-low p s name cause w said h

pub placing_leaves_low : PlacingLeavesLow
unfolding to_head
placing_leaves_low p s part name w said early may h =
    (tail-low p s part name w w said early may (λ n apart. refl) h, ready-low p s part name Head w w said early may (λ n apart. refl) h)

pub base_leaves_low : BaseLeavesLow
base_leaves_low p s part placing name level w said is early may h = base-low p s part placing name level w said is early may h

pub done_leaves_low : EndLeavesLow
done_leaves_low p s part name w said h = done-low p s part name w said h
