-- Whose active priority or deadline is changed is placed anew.
use Rattle.std.proofs.Common.{◌≡◌, ℕ, ℤ, ◌≤◌, Bool, true, false, cond, not, ◌&&◌, eqb, ltb, slice_index_or, max, List, [], ◌∷◌}
use Rattle.std.proofs.Common.{◌++◌, map, None, refl, sym, ap, subst, ◌∙◌, arith, append_assoc, append-nil, le_refl, le_trans}
use Rattle.std.specs.Bool.{then_some}
use Rattle.std.proofs.Math.Nat.{le-max_left, le-max_right, max-le}
use Rattle.trace_text.specs.declared.events.QueueEnd.TheVariants.{Head, Tail}
use Rattle.trace_text.specs.declared.events.Who.{Who}
use Rattle.trace_text.specs.declared.events.Who.TheVariants as who
use Rattle.profile_image.specs.declared.image.Image.{Image}
use Rattle.profile_machine.specs.declared.world.World.{World}
use Rattle.profile_machine.specs.declared.world.lines.Line.TheVariants as line
use Rattle.profile_machine.specs.declared.world.lines.Part.{Part}
use Rattle.profile_machine.specs.declared.world.lines.Part.TheVariants.{ThePlacing}
use Rattle.profile_machine.specs.declared.world.lines.Said.{Said}
use Rattle.profile_machine.specs.declared.world.tasks.Task.{Task}
use Rattle.profile_machine.specs.declared.world.tasks.Cause.{Cause}
use Rattle.profile_machine.specs.declared.world.tasks.Inherited.{Inherited}
use Rattle.profile_machine.specs.declared.world.tasks.State.{State}
use Rattle.profile_machine.specs.declared.world.tasks.State.TheVariants.{Runnable}
use Rattle.profile_image.specs.Words.{greatest_of, without}
use Rattle.profile_image.specs.Program.{is_edf_level, is_robin_level, edf_low}
use Rattle.profile_machine.specs.Steps.{when}
use Rattle.profile_machine.specs.Tasks.{task_of, edit_task, with_state}
use Rattle.profile_machine.specs.Dispatching.{own_level, levels_inherited, active, active_of, deadline_shown, level_kept_by}
use Rattle.profile_machine.specs.Dispatching.{keep_level, granted, grant_quantum, says_ready, to_tail, to_head, ready}
use Rattle.profile_machine.specs.Inheritance.{same_cause, inherit, lose, rises, falls, inherit_running, lose_running}
use Rattle.profile_machine.specs.Tasking.{fall_from}
use Rattle.profile_machine.specs.Priorities.{replace_in, says_base, set_base, says_deadline, is_runnable_at_edf, set_deadline}
use Rattle.ceiling_laws.specs.CeilingLaws.{entry_in}
use Rattle.ceiling_laws.specs.FollowLaws.{ready_in, Follows, stays, placed, Followed, OthersStay, LeavesOthers}
use Rattle.ceiling_laws.specs.FollowLaws.{PlacingIsFollowed, InheritanceIsFollowed, FallIsFollowed, SettingIsFollowed}
use Rattle.ceiling_laws.proofs.Ceilings.LevelLemmas.{edit_task-seen, edit_task-related, edit_task-other, spent-who}

-- ---- somebody is placed

behind-tail : (p : Image) (part : Part) (name : Who) (before v : World) (said more lines : List Said) → lines ≡ said ++ more
    → Followed p name before said (to_tail p part name v lines)
unfolding to_tail says_ready
behind-tail p part name before v said more lines e =
    let after = grant_quantum p name v in
    let last = ready_in p after part name Tail in
    (more ++ last ∷ [], ap (λ xs. xs ++ last ∷ []) e ∙ append_assoc said more (last ∷ []), placed more after part Tail)

nothing_more : (said : List Said) → said ≡ said ++ []
nothing_more said = sym (append-nil said)

tail-followed : (p : Image) (part : Part) (name : Who) (before v : World) (said : List Said) → Followed p name before said (to_tail p part name v said)
tail-followed p part name before v said = behind-tail p part name before v said [] said (nothing_more said)

head-followed : (p : Image) (part : Part) (name : Who) (before v : World) (said : List Said) → Followed p name before said (to_head p part name v said)
unfolding to_head says_ready
head-followed p part name before v said = (ready_in p v part name Head ∷ [], refl, placed [] v part Head)

ready-followed : (p : Image) (part : Part) (name : Who) (w : World) (said : List Said) → Followed p name w said (ready p part name w said)
unfolding ready
ready-followed p part name w said = tail-followed p part name w (keep_level p name (edit_task name (with_state Runnable) w)) said

-- ---- all others stay

edit-alone : (p : Image) (name : Who) (f : Task → Task) (before w : World) → OthersStay p name before w → ((t : Task) → (f t).who ≡ t.who)
    → OthersStay p name before (edit_task name f w)
edit-alone p name f before w h named other apart =
    ap (λ (t : Task). record { who = other; level = active p t; deadline = deadline_shown p t }) (edit_task-other name f w other apart named) ∙ h other apart

still : (p : Image) (name : Who) (w : World) → OthersStay p name w w
still p name w other apart = refl

tail-alone : (p : Image) (part : Part) (name : Who) (before v : World) (lines : List Said) → OthersStay p name before v
    → LeavesOthers p name before (to_tail p part name v lines)
unfolding to_tail says_ready
tail-alone p part name before v lines h =
    edit-alone p name (granted p v.quanta) before v h (λ t. spent-who (eqb (active p t) t.base && is_robin_level p t.base) (slice_index_or v.quanta t.base 0) t)

head-alone : (p : Image) (part : Part) (name : Who) (before v : World) (lines : List Said) → OthersStay p name before v
    → LeavesOthers p name before (to_head p part name v lines)
unfolding to_head says_ready
head-alone p part name before v lines h = h

ready-alone : (p : Image) (part : Part) (name : Who) (w : World) (said : List Said) → LeavesOthers p name w (ready p part name w said)
unfolding ready
ready-alone p part name w said =
    let woken = edit_task name (with_state Runnable) w in
    let h = edit-alone p name (with_state Runnable) w w (still p name w) (λ t. refl) in
    tail-alone p part name w (keep_level p name woken) said
    (edit-alone p name (λ t. record t { kept_level = level_kept_by p woken t (edf_low p t.base) }) w woken h (λ t. refl))

pub placing_is_followed : PlacingIsFollowed
placing_is_followed p part name w said = (
  (ready-followed p part name w said, ready-alone p part name w said),
  (tail-followed p part name w w said, tail-alone p part name w w said (still p name w)),
  (head-followed p part name w w said, head-alone p part name w w said (still p name w)),
)

-- ---- entries that stay

same-entry : (p : Image) (name : Who) (a b : World) → active_of p b name ≡ active_of p a name → (task_of b name).deadline ≡ (task_of a name).deadline
    → entry_in p b name ≡ entry_in p a name
same-entry p name a b levels deadlines =
    ap (λ (n : ℕ). record { who = name; level = n; deadline = then_some (is_edf_level p n) (task_of b name).deadline }) levels
    ∙ ap (λ (d : ℤ). record { who = name; level = active_of p a name; deadline = then_some (is_edf_level p (active_of p a name)) d }) deadlines

off_deadlines : (p : Image) (name : Who) (a b : World) → active_of p b name ≡ active_of p a name → is_edf_level p (active_of p b name) ≡ false
    → entry_in p b name ≡ entry_in p a name
off_deadlines p name a b levels off =
    ap (λ (t : Bool). record { who = name; level = active_of p b name; deadline = then_some t (task_of b name).deadline }) off
    ∙ ap (λ (n : ℕ). record { who = name; level = n; deadline = None }) levels
    ∙ sym (ap (λ (t : Bool). record { who = name; level = active_of p a name; deadline = then_some t (task_of a name).deadline })
    (subst (λ n. is_edf_level p n ≡ false) levels off))

-- ---- priorities that are inherited and lost

where_changed : (p : Image) (name : Who) (before after : World) (said : List Said) (b : Bool) → (b ≡ false → entry_in p after name ≡ entry_in p before name)
    → Followed p name before said (when b (to_head p ThePlacing name) after said)
where_changed p name before after said true same = head-followed p ThePlacing name before after said
where_changed p name before after said false same = ([], nothing_more said, stays [] after refl (same refl))

equal : (a b : ℕ) → a ≤ b → ltb a b ≡ false → b ≡ a
equal a b low e = grind arith

inherited-above : (p : Image) (name : Who) (cause : Cause) (level : ℕ) (w : World) → active_of p w name ≤ active_of p (inherit name cause level w) name
inherited-above p name cause level w =
    edit_task-related (λ (b a : ℕ). a ≤ b) (λ n. le_refl n) (active p) name
    (λ t. record t { inherited = record { cause = cause; level = level } ∷ t.inherited }) w name
    (λ t. le-max_right level (greatest_of (levels_inherited t) (own_level p t))) (λ t. refl)

inherited-deadline : (name : Who) (cause : Cause) (level : ℕ) (w : World) → (task_of (inherit name cause level w) name).deadline ≡ (task_of w name).deadline
inherited-deadline name cause level w =
    edit_task-seen (λ t. t.deadline) name (λ t. record t { inherited = record { cause = cause; level = level } ∷ t.inherited }) w name (λ t. refl) (λ t. refl)

inherit-followed : (p : Image) (name : Who) (cause : Cause) (level : ℕ) (w : World) (said : List Said)
    → Followed p name w said (inherit_running p name cause level w said)
unfolding inherit_running
inherit-followed p name cause level w said =
    let after = inherit name cause level w in
    where_changed p name w after said (rises p name w after)
    (λ e. same-entry p name w after (equal (active_of p w name) (active_of p after name) (inherited-above p name cause level w) e)
    (inherited-deadline name cause level w))

left-step : (b : Bool) (x : Inherited) (left : List Inherited) (n all : ℕ) → greatest_of (map (λ i. i.level) left) n ≤ all
    → greatest_of (map (λ i. i.level) (cond b (x ∷ left) left)) n ≤ max x.level all
left-step true x left n all h = max-le (le-max_left x.level all) (le_trans h (le-max_right x.level all))
left-step false x left n all h = le_trans h (le-max_right x.level all)

left-below : (test : Inherited → Bool) (xs : List Inherited) (n : ℕ)
    → greatest_of (map (λ i. i.level) (without test xs)) n ≤ greatest_of (map (λ i. i.level) xs) n
left-below test [] n = le_refl n
left-below test (x ∷ xs) n = left-step (not (test x)) x (without test xs) n (greatest_of (map (λ i. i.level) xs) n) (left-below test xs n)

lost-below : (p : Image) (name : Who) (cause : Cause) (w : World) → active_of p (lose name cause w) name ≤ active_of p w name
lost-below p name cause w =
    edit_task-related (λ (b a : ℕ). b ≤ a) (λ n. le_refl n) (active p) name
    (λ t. record t { inherited = without (λ i. same_cause cause i.cause) t.inherited }) w name
    (λ t. left-below (λ i. same_cause cause i.cause) t.inherited (own_level p t)) (λ t. refl)

lost-deadline : (name : Who) (cause : Cause) (w : World) → (task_of (lose name cause w) name).deadline ≡ (task_of w name).deadline
lost-deadline name cause w =
    edit_task-seen (λ t. t.deadline) name (λ t. record t { inherited = without (λ i. same_cause cause i.cause) t.inherited }) w name (λ t. refl) (λ t. refl)

lose-followed : (p : Image) (name : Who) (cause : Cause) (w : World) (said : List Said) → Followed p name w said (lose_running p name cause w said)
unfolding lose_running
lose-followed p name cause w said =
    let after = lose name cause w in
    where_changed p name w after said (falls p name w after)
    (λ e. same-entry p name w after (sym (equal (active_of p after name) (active_of p w name) (lost-below p name cause w) e)) (lost-deadline name cause w))

alone_where : (p : Image) (name : Who) (before after : World) (said : List Said) (b : Bool) → OthersStay p name before after
    → LeavesOthers p name before (when b (to_head p ThePlacing name) after said)
alone_where p name before after said true h = head-alone p ThePlacing name before after said h
alone_where p name before after said false h = h

inherit-alone : (p : Image) (name : Who) (cause : Cause) (level : ℕ) (w : World) (said : List Said)
    → LeavesOthers p name w (inherit_running p name cause level w said)
unfolding inherit_running
inherit-alone p name cause level w said =
    let after = inherit name cause level w in
    alone_where p name w after said (rises p name w after)
    (edit-alone p name (λ t. record t { inherited = record { cause = cause; level = level } ∷ t.inherited }) w w (still p name w) (λ t. refl))

lose-alone : (p : Image) (name : Who) (cause : Cause) (w : World) (said : List Said) → LeavesOthers p name w (lose_running p name cause w said)
unfolding lose_running
lose-alone p name cause w said =
    let after = lose name cause w in
    alone_where p name w after said (falls p name w after)
    (edit-alone p name (λ t. record t { inherited = without (λ i. same_cause cause i.cause) t.inherited }) w w (still p name w) (λ t. refl))

pub inheritance_is_followed : InheritanceIsFollowed
inheritance_is_followed p name cause level w said =
    ((inherit-followed p name cause level w said, inherit-alone p name cause level w said), (lose-followed p name cause w said, lose-alone p name cause w said))

pub fall_is_followed : FallIsFollowed
unfolding fall_from
fall_is_followed p name before w said low deadlines =
    where_changed p name before w said (falls p name before w)
    (λ e. same-entry p name before w (sym (equal (active_of p w name) (active_of p before name) low e)) deadlines)

-- ---- a base priority that is set

replaced : (p : Image) (part : Part) (name : Who) (before v : World) (said more lines : List Said) (state : State) → state ≡ Runnable → lines ≡ said ++ more
    → Followed p name before said (replace_in p part name state v lines)
unfolding replace_in
replaced p part name before v said more lines state e is =
    subst (λ s. Followed p name before said (replace_in p part name s v lines)) (sym e) (behind-tail p part name before v said more lines is)

base-followed : (p : Image) (part placing : Part) (name : Who) (level : ℕ) (w : World) (said : List Said) → (task_of w name).state ≡ Runnable
    → Followed p name w said (set_base p part placing name level w said)
unfolding set_base says_base
base-followed p part placing (who.Task t) level w said e =
    let after = edit_task (who.Task t) (λ x. record x { base = level }) w in
    let state = edit_task-seen (λ x. x.state) (who.Task t) (λ x. record x { base = level }) w (who.Task t) (λ x. refl) (λ x. refl) in
    let told : Said = record { part = part; line = line.Base t level } in
    replaced p placing (who.Task t) w after said (told ∷ []) (said ++ told ∷ []) (task_of after (who.Task t)).state (state ∙ e) refl
base-followed p part placing who.Agent level w said e =
    let after = edit_task who.Agent (λ x. record x { base = level }) w in
    let state = edit_task-seen (λ x. x.state) who.Agent (λ x. record x { base = level }) w who.Agent (λ x. refl) (λ x. refl) in
    replaced p placing who.Agent w after said [] said (task_of after who.Agent).state (state ∙ e) (nothing_more said)

-- ---- a deadline that is set

at_edf : (p : Image) (w : World) (name : Who) (state : State) → state ≡ Runnable → is_runnable_at_edf p w name state ≡ false
    → is_edf_level p (active_of p w name) ≡ false
at_edf p w name state is e = subst (λ s. is_runnable_at_edf p w name s ≡ false) is e

where_at_edf : (p : Image) (part : Part) (name : Who) (before v : World) (said more lines : List Said) (b : Bool) → lines ≡ said ++ more
    → (b ≡ false → Follows p name before more v) → Followed p name before said (when b (to_tail p part name) v lines)
where_at_edf p part name before v said more lines true is same = behind-tail p part name before v said more lines is
where_at_edf p part name before v said more lines false is same = (more, is, same refl)

deadline-active : (p : Image) (name : Who) (d : ℤ) (w : World) → active_of p (edit_task name (λ t. record t { deadline = d }) w) name ≡ active_of p w name
deadline-active p name d w = edit_task-seen (active p) name (λ t. record t { deadline = d }) w name (λ t. refl) (λ t. refl)

deadline-followed : (p : Image) (part placing : Part) (name : Who) (d : ℤ) (w : World) (said : List Said) → (task_of w name).state ≡ Runnable
    → Followed p name w said (set_deadline p part placing name d w said)
unfolding set_deadline says_deadline
deadline-followed p part placing (who.Task t) d w said e =
    let after = edit_task (who.Task t) (λ x. record x { deadline = d }) w in
    let state = edit_task-seen (λ x. x.state) (who.Task t) (λ x. record x { deadline = d }) w (who.Task t) (λ x. refl) (λ x. refl) ∙ e in
    let told : Said = record { part = part; line = line.Deadline t d } in
    where_at_edf p placing (who.Task t) w after said (told ∷ []) (said ++ told ∷ [])
    (is_runnable_at_edf p after (who.Task t) (task_of after (who.Task t)).state) refl
    (λ f. stays (told ∷ []) after refl
    (off_deadlines p (who.Task t) w after (deadline-active p (who.Task t) d w) (at_edf p after (who.Task t) (task_of after (who.Task t)).state state f)))
deadline-followed p part placing who.Agent d w said e =
    let after = edit_task who.Agent (λ x. record x { deadline = d }) w in
    let state = edit_task-seen (λ x. x.state) who.Agent (λ x. record x { deadline = d }) w who.Agent (λ x. refl) (λ x. refl) ∙ e in
    where_at_edf p placing who.Agent w after said [] said (is_runnable_at_edf p after who.Agent (task_of after who.Agent).state) (nothing_more said)
    (λ f. stays [] after refl
    (off_deadlines p who.Agent w after (deadline-active p who.Agent d w) (at_edf p after who.Agent (task_of after who.Agent).state state f)))

-- ---- and all others stay

replaced-alone : (p : Image) (part : Part) (name : Who) (before v : World) (lines : List Said) (state : State) → state ≡ Runnable → OthersStay p name before v
    → LeavesOthers p name before (replace_in p part name state v lines)
unfolding replace_in
replaced-alone p part name before v lines state e h =
    subst (λ s. LeavesOthers p name before (replace_in p part name s v lines)) (sym e) (tail-alone p part name before v lines h)

base-alone : (p : Image) (part placing : Part) (name : Who) (level : ℕ) (w : World) (said : List Said) → (task_of w name).state ≡ Runnable
    → LeavesOthers p name w (set_base p part placing name level w said)
unfolding set_base says_base
base-alone p part placing (who.Task t) level w said e =
    let after = edit_task (who.Task t) (λ x. record x { base = level }) w in
    let state = edit_task-seen (λ x. x.state) (who.Task t) (λ x. record x { base = level }) w (who.Task t) (λ x. refl) (λ x. refl) in
    replaced-alone p placing (who.Task t) w after (said ++ record { part = part; line = line.Base t level } ∷ []) (task_of after (who.Task t)).state (state ∙ e)
    (edit-alone p (who.Task t) (λ x. record x { base = level }) w w (still p (who.Task t) w) (λ x. refl))
base-alone p part placing who.Agent level w said e =
    let after = edit_task who.Agent (λ x. record x { base = level }) w in
    let state = edit_task-seen (λ x. x.state) who.Agent (λ x. record x { base = level }) w who.Agent (λ x. refl) (λ x. refl) in
    replaced-alone p placing who.Agent w after said (task_of after who.Agent).state (state ∙ e)
    (edit-alone p who.Agent (λ x. record x { base = level }) w w (still p who.Agent w) (λ x. refl))

tail_where : (p : Image) (part : Part) (name : Who) (before v : World) (lines : List Said) (b : Bool) → OthersStay p name before v
    → LeavesOthers p name before (when b (to_tail p part name) v lines)
tail_where p part name before v lines true h = tail-alone p part name before v lines h
tail_where p part name before v lines false h = h

deadline-alone : (p : Image) (part placing : Part) (name : Who) (d : ℤ) (w : World) (said : List Said)
    → LeavesOthers p name w (set_deadline p part placing name d w said)
unfolding set_deadline says_deadline
deadline-alone p part placing (who.Task t) d w said =
    let after = edit_task (who.Task t) (λ x. record x { deadline = d }) w in
    tail_where p placing (who.Task t) w after (said ++ record { part = part; line = line.Deadline t d } ∷ [])
    (is_runnable_at_edf p after (who.Task t) (task_of after (who.Task t)).state)
    (edit-alone p (who.Task t) (λ x. record x { deadline = d }) w w (still p (who.Task t) w) (λ x. refl))
deadline-alone p part placing who.Agent d w said =
    let after = edit_task who.Agent (λ x. record x { deadline = d }) w in
    tail_where p placing who.Agent w after said (is_runnable_at_edf p after who.Agent (task_of after who.Agent).state)
    (edit-alone p who.Agent (λ x. record x { deadline = d }) w w (still p who.Agent w) (λ x. refl))

pub setting_is_followed : SettingIsFollowed
setting_is_followed p part placing name level d w said e = (
  (base-followed p part placing name level w said e, base-alone p part placing name level w said e),
  (deadline-followed p part placing name d w said e, deadline-alone p part placing name d w said),
)
