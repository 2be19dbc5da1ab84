-- Steps that change a world several times, change by change.
use Rattle.std.proofs.Common.{◌≡◌, ℕ, Bool, true, false, List, filter, map, ap, sym, ◌∙◌}
use Rattle.ann_base.specs.declared.identities.RegionNo.{RegionNo}
use Rattle.trace_text.specs.declared.events.Who.{Who}
use Rattle.profile_image.specs.declared.image.Image.{Image}
use Rattle.profile_image.specs.declared.numbers.StatementNo.{StatementNo}
use Rattle.profile_machine.specs.declared.run_data.Leaving.{Leaving}
use Rattle.profile_image.specs.declared.values.Value.{Value}
use Rattle.profile_machine.specs.declared.world.World.{World}
use Rattle.profile_machine.specs.declared.world.lines.Part.TheVariants.{OfOther}
use Rattle.profile_machine.specs.declared.world.lines.Said.{Said}
use Rattle.profile_machine.specs.declared.world.marks.Purpose.TheVariants as opened_for
use Rattle.profile_machine.specs.declared.world.marks.ScopeMark.{ScopeMark}
use Rattle.profile_machine.specs.declared.world.tasks.Cause.TheVariants as inherited_by
use Rattle.profile_machine.specs.declared.world.tasks.Task.{Task}
use Rattle.profile_machine.specs.Dispatching.{active_of, ready}
use Rattle.profile_machine.specs.Frames.{goes, pop}
use Rattle.profile_machine.specs.Inheritance.{inherit}
use Rattle.profile_image.specs.Program.{next_of}
use Rattle.profile_machine.specs.Scopes.{open_scope, plainly, end_scope, cells_of, scope_in_use}
use Rattle.profile_machine.specs.Steps.{Done, done, goes_on_with, changes, looks, for_each, ◌▷◌}
use Rattle.profile_machine.specs.Tasks.{task_of, edit_task}
use Rattle.profile_machine.specs.Tasking.{is_to_activate, top_region_of_scope, no_failure, activate_one, await_group, activate_group}
use Rattle.profile_machine.specs.Tasking.{unit_of_task, activated_task, begin_task, left_by, says_left, behind_scope, end_of_scope}
use Rattle.profile_machine.specs.Masters.{has_activating}
use Rattle.machine_tasking.specs.KeptTasks.{kept_of, tasks_kept}
use Rattle.machine_tasking.specs.declared.kept.Kept.{Kept}
use Rattle.machine_tasking.proofs.KeptLemmas.{activate_each}

module _ (p : Image) (w : World) (said : List Said) where
  -- the activation of a task begins
  pub begun : (activator : Who) (level : ℕ) (t : Task) (opened activated inheriting : World)
      → opened ≡ open_scope p t.who (unit_of_task p t).scope (plainly t.outer) opened_for.Task w
      → activated ≡ edit_task t.who (activated_task activator w.time) opened → inheriting ≡ inherit t.who inherited_by.Activation level activated
      → begin_task p activator level t w said ≡ ready p (OfOther t.who) t.who inheriting said
  unfolding begin_task
  begun activator level t opened activated inheriting o a i =
      let made_ready = λ (x : World). ready p (OfOther t.who) t.who x said in
      let edited = edit_task t.who (activated_task activator w.time) in
      ap made_ready (ap (inherit t.who inherited_by.Activation level) (ap edited (sym o) ∙ sym a) ∙ sym i)

  -- a scope has ended
  pub scope_ended : (name : Who) (m : ScopeMark) (leaving left : Leaving) (cells : List Value) (popped ended told : World) (lines : List Said)
      → cells ≡ cells_of (scope_in_use w m.within) → popped ≡ pop name w → ended ≡ end_scope m.within popped
      → says_left name m leaving ended said ≡ done told lines → left ≡ left_by m leaving
      → end_of_scope p name m leaving w said ≡ behind_scope p name m.purpose cells left told lines
  unfolding end_of_scope
  scope_ended name m leaving left cells popped ended told lines c o e s l =
      let behind = λ (xs : List Value) (x : World). (says_left name m leaving ▷ behind_scope p name m.purpose xs (left_by m leaving)) x said in
      ap (λ xs. behind xs (end_scope m.within (pop name w))) (sym c)
      ∙ (ap (behind cells) (ap (end_scope m.within) (sym o) ∙ sym e)
      ∙ (ap (goes_on_with (behind_scope p name m.purpose cells (left_by m leaving))) s
      ∙ ap (λ x. behind_scope p name m.purpose cells x told lines) (sym l)))

  -- the tasks of a declarative part are activated
  pub group_activated : (name : Who) (s : StatementNo) (part : ℕ) (region : RegionNo) (level : ℕ) (kept : List Kept) (busy failed : Bool)
      (gone unfailed activated : World) (told lines : List Said)
      → region ≡ top_region_of_scope w name
      → level ≡ active_of p w name
      → kept ≡ map kept_of (filter (is_to_activate region part) w.tasks)
      → goes name (next_of p s) w said ≡ done gone told
      → unfailed ≡ edit_task name no_failure gone
      → for_each (tasks_kept kept) (activate_one p name level) unfailed told ≡ done activated lines
      → busy ≡ has_activating activated name
      → failed ≡ (task_of activated name).group_failed
      → activate_group p name s part w said ≡ await_group name busy failed activated lines
  unfolding activate_group
  group_activated name s part region level kept busy failed gone unfailed activated told lines r l k g u a b f =
      let awaited = λ (x : Done). goes_on_with (looks (λ w'. await_group name (has_activating w' name) (task_of w' name).group_failed)) x in
      let each = λ (ts : List Task) (n : ℕ) (x : World). for_each ts (activate_one p name n) x told in
      let chosen = filter (is_to_activate (top_region_of_scope w name) part) w.tasks in
      ap (λ x. awaited (goes_on_with (changes (edit_task name no_failure) ▷ for_each chosen (activate_one p name (active_of p w name))) x)) g
      ∙ (ap awaited (ap (each chosen (active_of p w name)) (sym u)
      ∙ (ap (λ x. each (filter (is_to_activate x part) w.tasks) (active_of p w name) unfailed) (sym r)
      ∙ (ap (λ n. each (filter (is_to_activate region part) w.tasks) n unfailed) (sym l)
      ∙ (sym (activate_each p name level (filter (is_to_activate region part) w.tasks) unfailed told)
      ∙ (ap (λ ks. each (tasks_kept ks) level unfailed) (sym k) ∙ a)))))
      ∙ (ap (λ x. await_group name x (task_of activated name).group_failed activated lines) (sym b)
      ∙ ap (λ x. await_group name busy x activated lines) (sym f)))
