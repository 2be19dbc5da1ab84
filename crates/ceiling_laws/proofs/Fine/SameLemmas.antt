-- Changes that touch no task's level, deadline or state and no object's ceiling.
use Rattle.ann_base.specs.declared.identities.ObjectNo.{ObjectNo}
use Rattle.ceiling_laws.proofs.Fine.Cores.{Same, core}
use Rattle.ceiling_laws.specs.Cores.{ceiling_in}
use Rattle.profile_machine.specs.Calls.{edit_object}
use Rattle.profile_machine.specs.Tasks.{edit_task, edit_task_found, is_who, task_at}
use Rattle.profile_machine.specs.Values.{is_object}
use Rattle.profile_machine.specs.declared.world.World.{World}
use Rattle.profile_machine.specs.declared.world.objects.Object.{Object}
use Rattle.profile_machine.specs.declared.world.tasks.Task.{Task}
use Rattle.std.proofs.Common.{None, Option, Some, ap, refl, sym, ◌∙◌, ◌≡◌}
use Rattle.std.specs.Prelude.{find}
use Rattle.trace_text.specs.declared.events.Who.{Who}
use Rattle.trace_text.specs.declared.events.Who.TheVariants as who
use Rattle.ceiling_laws.proofs.Runs.SameLemmas.{edit_found-seen, set_where-seen}

pub same_self : (w : World) → Same w w
same_self w = record { tasks = refl; agent = refl; objects = refl; drawn_tasks = refl; drawn_objects = refl; callers = λ c n k. k; delays = λ t e. e }

pub same_then : (a b c : World) → Same a b → Same b c → Same a c
same_then a b c h k = record {
  tasks = k.tasks ∙ h.tasks;
  agent = k.agent ∙ h.agent;
  objects = k.objects ∙ h.objects;
  drawn_tasks = k.drawn_tasks ∙ h.drawn_tasks;
  drawn_objects = k.drawn_objects ∙ h.drawn_objects;
  callers = λ c n m. k.callers c n (h.callers c n m);
  delays = λ t e. h.delays t (k.delays t e);
}

-- ---- a task that is edited, and an object

edit_found-same : (name : Who) (f : Task → Task) (w : World) (found : Option Task) → task_at w name ≡ found → ((t : Task) → core (f t) ≡ core t)
    → Same w (edit_task_found name f w found)
edit_found-same name f w None is same = same_self w
edit_found-same (who.Task n) f w (Some t) is same = record {
  tasks = set_where-seen core (is_who (who.Task n)) t (f t) w.tasks is (same t);
  agent = refl;
  objects = refl;
  drawn_tasks = refl;
  drawn_objects = refl;
  callers = λ c n k. k;
  delays = λ u e. e;
}
edit_found-same who.Agent f w (Some t) is same =
    let one : w.agent ≡ t = cc in
    record {
      tasks = refl;
      agent = same t ∙ ap core (sym one);
      objects = refl;
      drawn_tasks = refl;
      drawn_objects = refl;
      callers = λ c n k. k;
      delays = λ u e. e;
    }

pub edit_task-same : (name : Who) (f : Task → Task) (w : World) → ((t : Task) → core (f t) ≡ core t) → Same w (edit_task name f w)
edit_task-same name f w same = edit_found-same name f w (task_at w name) refl same

pub edit_object-same : (o : ObjectNo) (f : Object → Object) (w : World) → ((x : Object) → ceiling_in (f x) ≡ ceiling_in x) → Same w (edit_object o f w)
edit_object-same o f w same = record {
  tasks = refl;
  agent = refl;
  objects = edit_found-seen ceiling_in (is_object o) f w.objects (find (is_object o) w.objects) refl same;
  drawn_tasks = refl;
  drawn_objects = refl;
  callers = λ c n k. k;
  delays = λ t e. e;
}
