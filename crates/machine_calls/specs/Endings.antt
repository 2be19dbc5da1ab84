-- How an abortable part on top has ended, in parts of the machine's own words.
use Rattle.std.specs.Prelude.{Bool, true, false, ◌||◌, List, [], ◌∷◌, Option, Some, None}
use Rattle.trace_text.specs.declared.events.Who.{Who}
use Rattle.profile_image.specs.declared.image.Image.{Image}
use Rattle.profile_machine.specs.declared.world.World.{World}
use Rattle.profile_machine.specs.declared.world.lines.Part.{Part}
use Rattle.profile_machine.specs.declared.world.marks.Frame.{Frame}
use Rattle.profile_machine.specs.declared.world.marks.Mark.{Mark}
use Rattle.profile_machine.specs.declared.world.marks.Mark.TheVariants.{Abortable}
use Rattle.profile_machine.specs.Steps.{Step, changes, nothing, ◌▷◌}
use Rattle.profile_machine.specs.Frames.{pop, pass_on, leaving_of}
use Rattle.profile_machine.specs.Unwinding.{any_struck}
use Rattle.profile_machine.specs.CallEnds.{is_end, is_own_abort, trigger_outcome, forget_trigger, behind_abortable}
use Rattle.machine_calls.specs.declared.abortable.Ending.{Ending}

-- the ending of a frame with this mark, where any outer construct is struck or none
abbrev pub ending_by : World → Frame → Bool → Mark → Option Ending
ending_by w f outer (Abortable m) =
    Some (record {
      mark = m;
      by_itself = is_end (leaving_of f)
          || is_own_abort (leaving_of f) f.struck outer;
      leaving = leaving_of f;
      outcome = trigger_outcome w m.call;
    })
ending_by w f outer _ = None

abbrev pub ending_in : World → List Frame → Option Ending
ending_in w [] = None
ending_in w (f ∷ below) = ending_by w f (any_struck below) f.mark

-- what `end_abortable` does of an ending
abbrev pub ended_so : Image → Part → Who → Ending → Step
ended_so p part name e =
    changes (pop name) ▷ changes (forget_trigger e.mark.call)
    ▷ elim e.by_itself [ true ↦ behind_abortable p part name e.mark e.outcome | false ↦ pass_on p name e.leaving ]

abbrev pub ended : Image → Part → Who → Option Ending → Step
ended p part name None = nothing
ended p part name (Some e) = ended_so p part name e
