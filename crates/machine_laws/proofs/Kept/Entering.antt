-- Who is let into a protected object, and who finds it held.
use Rattle.std.proofs.Common.{◌≡◌, Bool, true, false, cond, Option, Some, None, refl, ap, ◌∙◌}
use Rattle.std.specs.Prelude.{find}
use Rattle.ann_base.specs.declared.identities.ObjectNo.{ObjectNo}
use Rattle.trace_text.specs.declared.events.Mode.{Mode}
use Rattle.trace_text.specs.declared.events.Who.{Who}
use Rattle.trace_text.specs.declared.events.Who.TheVariants as who
use Rattle.profile_image.specs.declared.image.Image.{Image}
use Rattle.profile_machine.specs.declared.world.World.{World}
use Rattle.profile_machine.specs.declared.world.tasks.Task.{Task}
use Rattle.profile_machine.specs.declared.world.objects.Object.{Object}
use Rattle.profile_machine.specs.declared.world.objects.Entering.{Entering}
use Rattle.profile_machine.specs.declared.world.objects.Entering.TheVariants as entering_is
use Rattle.profile_image.specs.Words.{without}
use Rattle.profile_machine.specs.Tasks.{task_at, edit_task_found, edit_task}
use Rattle.profile_machine.specs.Values.{object_of, is_object}
use Rattle.profile_machine.specs.Protected.{is_action_of, has_open, excludes, is_above_ceiling, entering_option, entering}
use Rattle.machine_laws.proofs.Moves.{LetsIn, FindsHeld}

abbrev tested : Bool → Bool → Bool → Entering
tested inside above held = cond inside entering_is.SameObject (cond above entering_is.AboveCeiling (cond held entering_is.Held entering_is.Inside))

inside-tests : (a b c : Bool) → tested a b c ≡ entering_is.Inside → (a ≡ false) × (c ≡ false)
inside-tests true b c e = absurd cc
inside-tests false true c e = absurd cc
inside-tests false false true e = absurd cc
inside-tests false false false e = (refl, refl)

held-tests : (a b c : Bool) → tested a b c ≡ entering_is.Held → c ≡ true
held-tests true b c e = absurd cc
held-tests false true c e = absurd cc
held-tests false false true e = refl
held-tests false false false e = absurd cc

inside-found : (p : Image) (w : World) (name : Who) (o : ObjectNo) (mode : Mode) (found : Option Object) → object_of w o ≡ found
    → entering_option p w name found mode ≡ entering_is.Inside → LetsIn name o mode w
inside-found p w name o mode None is e = absurd cc
inside-found p w name o mode (Some x) is e =
    let t = inside-tests (has_open name x.actions) (is_above_ceiling p w name x.ceiling) (excludes mode (without (is_action_of name) x.actions)) e in
    record { object = x; found = is; outside = t.0; free = t.1 }

held-found : (p : Image) (w : World) (name : Who) (o : ObjectNo) (mode : Mode) (found : Option Object) → object_of w o ≡ found
    → entering_option p w name found mode ≡ entering_is.Held → FindsHeld name o mode w
held-found p w name o mode None is e = absurd cc
held-found p w name o mode (Some x) is e =
    record {
      object = x;
      found = is;
      held = held-tests (has_open name x.actions) (is_above_ceiling p w name x.ceiling) (excludes mode (without (is_action_of name) x.actions)) e;
    }

pub entering-inside : (p : Image) (w : World) (name : Who) (o : ObjectNo) (mode : Mode) → entering p w name o mode ≡ entering_is.Inside → LetsIn name o mode w
entering-inside p w name o mode e = inside-found p w name o mode (object_of w o) refl e

pub entering-held : (p : Image) (w : World) (name : Who) (o : ObjectNo) (mode : Mode) → entering p w name o mode ≡ entering_is.Held → FindsHeld name o mode w
entering-held p w name o mode e = held-found p w name o mode (object_of w o) refl e

-- it does not matter what else changes
pub LetsIn-same : (name : Who) (o : ObjectNo) (mode : Mode) (w v : World) → v.objects ≡ w.objects → LetsIn name o mode w → LetsIn name o mode v
LetsIn-same name o mode w v e h = record { object = h.object; found = ap (find (is_object o)) e ∙ h.found; outside = h.outside; free = h.free }

pub edit_found-objects : (name : Who) (f : Task → Task) (w : World) (found : Option Task) → (edit_task_found name f w found).objects ≡ w.objects
edit_found-objects name f w None = refl
edit_found-objects (who.Task n) f w (Some t) = refl
edit_found-objects who.Agent f w (Some t) = refl

pub edit_task-objects : (name : Who) (f : Task → Task) (w : World) → (edit_task name f w).objects ≡ w.objects
edit_task-objects name f w = edit_found-objects name f w (task_at w name)
