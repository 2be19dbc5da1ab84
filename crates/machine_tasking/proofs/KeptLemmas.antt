-- A step for each of several tasks, by what is kept of them.
use Rattle.std.proofs.Common.{◌≡◌, ℕ, Bool, true, false, cond, List, [], ◌∷◌, map, refl, ap, ◌∙◌}
use Rattle.trace_text.specs.declared.events.Who.{Who}
use Rattle.profile_image.specs.declared.image.Image.{Image}
use Rattle.profile_machine.specs.declared.world.World.{World}
use Rattle.profile_machine.specs.declared.world.lines.Said.{Said}
use Rattle.profile_machine.specs.declared.world.tasks.Task.{Task}
use Rattle.profile_machine.specs.Steps.{Step, changes, for_each, ◌▷◌}
use Rattle.profile_machine.specs.Tasks.{edit_task, is_made, is_made_state}
use Rattle.profile_machine.specs.Unwinding.{strike_outermost}
use Rattle.profile_machine.specs.Masters.{leave_by_terminate}
use Rattle.profile_machine.specs.Tasking.{activate_one, begin_task, fail_to_begin, end_made, says_abort, abnormal_task, abort_one, unwind_one, abort_all}
use Rattle.machine_tasking.specs.KeptTasks.{kept_of, state_kept, task_kept, tasks_kept}

-- a step that needs no more of a task than what is kept of it
abbrev NeedsKept : (Task → Step) → Type 0
NeedsKept f = (t : Task) → f (task_kept (kept_of t)) ≡ f t

for_each-kept : (f : Task → Step) → NeedsKept f → (ts : List Task) → for_each (tasks_kept (map kept_of ts)) f ≡ for_each ts f
for_each-kept f k [] = refl
for_each-kept f k (t ∷ ts) = ap (λ g. g ▷ for_each (tasks_kept (map kept_of ts)) f) (k t) ∙ ap (λ g. f t ▷ g) (for_each-kept f k ts)

-- ---- the steps

end_made-kept : (p : Image) (actor : Who) → NeedsKept (end_made p actor)
unfolding end_made
end_made-kept p actor t = refl

unwind_one-kept : (p : Image) (actor : Who) → NeedsKept (unwind_one p actor)
unfolding unwind_one
unwind_one-kept p actor t = refl

leave_by_terminate-kept : (p : Image) (actor : Who) → NeedsKept (leave_by_terminate p actor)
unfolding leave_by_terminate
leave_by_terminate-kept p actor t = refl

activate_one-kept : (p : Image) (activator : Who) (level : ℕ) → NeedsKept (activate_one p activator level)
unfolding activate_one begin_task fail_to_begin
activate_one-kept p activator level t = refl

is_made_kept : (b : Bool) → is_made_state (state_kept b) ≡ b
is_made_kept true = refl
is_made_kept false = refl

abort_one-kept : (p : Image) (actor : Who) → NeedsKept (abort_one p actor)
unfolding abort_one end_made
abort_one-kept p actor t = ap (λ b. says_abort actor t.who ▷ cond b (end_made p actor t) (changes (strike_outermost t.who))) (is_made_kept (is_made t))

become_abnormal-kept : NeedsKept (λ t. changes (edit_task t.who abnormal_task))
become_abnormal-kept t = refl

-- ---- for each

pub activate_each : (p : Image) (activator : Who) (level : ℕ) (ts : List Task) (w : World) (said : List Said)
    → for_each (tasks_kept (map kept_of ts)) (activate_one p activator level) w said ≡ for_each ts (activate_one p activator level) w said
activate_each p activator level ts w said = ap (λ g. g w said) (for_each-kept (activate_one p activator level) (activate_one-kept p activator level) ts)

pub end_each_made : (p : Image) (actor : Who) (ts : List Task) (w : World) (said : List Said)
    → for_each (tasks_kept (map kept_of ts)) (end_made p actor) w said ≡ for_each ts (end_made p actor) w said
end_each_made p actor ts w said = ap (λ g. g w said) (for_each-kept (end_made p actor) (end_made-kept p actor) ts)

pub leave_each : (p : Image) (actor : Who) (ts : List Task) (w : World) (said : List Said)
    → for_each (tasks_kept (map kept_of ts)) (leave_by_terminate p actor) w said ≡ for_each ts (leave_by_terminate p actor) w said
leave_each p actor ts w said = ap (λ g. g w said) (for_each-kept (leave_by_terminate p actor) (leave_by_terminate-kept p actor) ts)

pub unwind_each : (p : Image) (actor : Who) (ts : List Task) (w : World) (said : List Said)
    → for_each (tasks_kept (map kept_of ts)) (unwind_one p actor) w said ≡ for_each ts (unwind_one p actor) w said
unwind_each p actor ts w said = ap (λ g. g w said) (for_each-kept (unwind_one p actor) (unwind_one-kept p actor) ts)

abort_all-kept : (p : Image) (actor : Who) (ts : List Task) → abort_all p actor (tasks_kept (map kept_of ts)) ≡ abort_all p actor ts
unfolding abort_all
abort_all-kept p actor ts =
    ap (λ g. g ▷ for_each (tasks_kept (map kept_of ts)) (abort_one p actor) ▷ for_each (tasks_kept (map kept_of ts)) (unwind_one p actor))
    (for_each-kept _ become_abnormal-kept ts)
    ∙ (ap (λ g. for_each ts (λ t. changes (edit_task t.who abnormal_task)) ▷ g ▷ for_each (tasks_kept (map kept_of ts)) (unwind_one p actor))
    (for_each-kept (abort_one p actor) (abort_one-kept p actor) ts)
    ∙ ap (λ g. for_each ts (λ t. changes (edit_task t.who abnormal_task)) ▷ for_each ts (abort_one p actor) ▷ g)
    (for_each-kept (unwind_one p actor) (unwind_one-kept p actor) ts))

pub abort_each : (p : Image) (actor : Who) (ts : List Task) (w : World) (said : List Said)
    → abort_all p actor (tasks_kept (map kept_of ts)) w said ≡ abort_all p actor ts w said
abort_each p actor ts w said = ap (λ g. g w said) (abort_all-kept p actor ts)

pub ruleset kept_laws = (activate_each, end_each_made, leave_each, unwind_each, abort_each)
