-- Whether struck constructs may be left, from the top on.
use Rattle.std.specs.Prelude.{Bool, cond, not, ◌&&◌, List}
use Rattle.profile_machine.specs.declared.world.marks.Frame.{Frame}
use Rattle.profile_machine.specs.Unwinding.{any_struck, is_being_left, may_leave_struck}

-- whether the last struck one may be left, where this one stands next
abbrev pub may_leave_next : Frame → Bool → Bool → Bool
may_leave_next f deferred may = cond f.struck (not deferred && not (is_being_left f.mark)) may

-- whether the outermost struck one may be left, of those that are to come or of those before
abbrev pub may_leave_from : Bool → Bool → List Frame → Bool
may_leave_from deferred may frames = cond (any_struck frames) (not deferred && may_leave_struck frames) may
