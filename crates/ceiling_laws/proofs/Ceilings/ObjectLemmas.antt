-- A protected object that is made has the ceiling that its `new` line tells.
use Rattle.std.proofs.Common.{◌≡◌, ℕ, suc, Bool, cond, [], ◌∷◌, ◌++◌, Some, refl, sym, ap, eq-eqb}
use Rattle.std.specs.Prelude.{find}
use Rattle.ann_base.specs.declared.identities.ObjectNo.{ObjectNo}
use Rattle.trace_text.specs.declared.events.Created.TheVariants as created
use Rattle.profile_machine.specs.declared.world.lines.Line.TheVariants as line
use Rattle.profile_machine.specs.declared.world.lines.Part.TheVariants.{Own}
use Rattle.profile_image.specs.Program.{protected_unit_of}
use Rattle.profile_machine.specs.Steps.{done}
use Rattle.profile_machine.specs.Values.{is_object, object_of}
use Rattle.profile_machine.specs.Protected.{ceiling_of}
use Rattle.profile_machine.specs.Declarations.{new_object, with_object, says_object}
use Rattle.ceiling_laws.specs.FollowLaws.{ObjectsAreTold}

pub objects_are_told : ObjectsAreTold
unfolding says_object
objects_are_told p l u w said =
    let made = with_object p l u w in
    let n : ObjectNo = record { 0 = suc w.drawn.objects } in
    let new = new_object p l u (suc w.drawn.objects) in
    let same : ceiling_of (object_of made n) ≡ (protected_unit_of p u).ceiling =
    ap (λ (t : Bool). ceiling_of (cond t (Some new) (find (is_object n) w.objects))) (eq-eqb (suc w.drawn.objects) (suc w.drawn.objects) refl) in
    ap (λ (c : ℕ). done made (said ++ record { part = Own; line = line.New (created.Object n) (Some l.declared) c } ∷ [])) (sym same)
