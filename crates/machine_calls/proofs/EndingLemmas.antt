-- The end of the construct on top is told by how it has ended.
use Rattle.std.proofs.Common.{◌≡◌, List, [], ◌∷◌, refl}
use Rattle.trace_text.specs.declared.events.Who.{Who}
use Rattle.profile_image.specs.declared.image.Image.{Image}
use Rattle.profile_machine.specs.declared.world.World.{World}
use Rattle.profile_machine.specs.declared.world.lines.Part.{Part}
use Rattle.profile_machine.specs.declared.world.lines.Said.{Said}
use Rattle.profile_machine.specs.declared.world.marks.Frame.{Frame}
use Rattle.profile_machine.specs.declared.world.marks.Mark.{Mark}
use Rattle.profile_machine.specs.declared.world.marks.Mark.TheVariants.{Scope, Handled, InProtected, InAccept, Abortable, InInitialize, InFinalize, InAssign}
use Rattle.profile_machine.specs.Unwinding.{any_struck}
use Rattle.profile_machine.specs.CallEnds.{end_abortable, end_abortable_in, end_top_abortable}
use Rattle.machine_calls.specs.Endings.{ending_by, ending_in, ended}

ended_in : (p : Image) (part : Part) (name : Who) (f : Frame) (below : List Frame) (mark : Mark) (w : World) (said : List Said)
    → end_abortable_in p part name f below mark w said ≡ ended p part name (ending_by w f (any_struck below) mark) w said
unfolding end_abortable end_abortable_in
ended_in p part name f below (Scope m) w said = refl
ended_in p part name f below (Handled s) w said = refl
ended_in p part name f below (InProtected m) w said = refl
ended_in p part name f below (InAccept m) w said = refl
ended_in p part name f below (Abortable m) w said = refl
ended_in p part name f below (InInitialize l) w said = refl
ended_in p part name f below (InFinalize o) w said = refl
ended_in p part name f below (InAssign m) w said = refl

pub end_top_abortable-is : (p : Image) (part : Part) (name : Who) (frames : List Frame) (w : World) (said : List Said)
    → end_top_abortable p part name frames w said ≡ ended p part name (ending_in w frames) w said
unfolding end_top_abortable
end_top_abortable-is p part name [] w said = refl
end_top_abortable-is p part name (f ∷ below) w said = ended_in p part name f below f.mark w said

pub ruleset ending_laws = (end_top_abortable-is)
