-- The end of the top construct of somebody, in whichever way it is left.
use Rattle.std.specs.Prelude.{Option, Some, None}
use Rattle.trace_text.specs.declared.events.Who.{Who}
use Rattle.profile_image.specs.declared.image.Image.{Image}
use Rattle.profile_machine.specs.declared.world.marks.Frame.{Frame}
use Rattle.profile_machine.specs.Steps.{Step, looks, nothing}
use Rattle.profile_machine.specs.Frames.{top_of}
use Rattle.profile_machine.specs.Act.{end_mark}

abbrev pub end_of : Image → Who → Option Frame → Step
end_of p name None = nothing
end_of p name (Some f) = end_mark p name f f.mark

abbrev pub end_top_mark : Image → Who → Step
end_top_mark p name = looks (λ w. end_of p name (top_of w name))
