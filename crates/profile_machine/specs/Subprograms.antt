-- Calls of subprograms: parameters, results, returns (clause 6).
use Rattle.std.specs.Prelude.{ℕ, suc, ◌-◌, pos, Bool, true, false, List, [], ◌∷◌, Option}
use Rattle.std.specs.Prelude.{Some, None, Ok, length, option_and_then, slice_index_or}
use Rattle.ann_base.specs.Results.{◌>>=◌}
use Rattle.ann_base.specs.declared.exceptions.Raised.TheVariants as exception
use Rattle.ann_base.specs.declared.identities.CallNo.{CallNo}
use Rattle.trace_text.specs.declared.events.Who.{Who}
use Rattle.profile_image.specs.declared.image.Image.{Image}
use Rattle.profile_image.specs.declared.numbers.ExprNo.{ExprNo}
use Rattle.profile_image.specs.declared.numbers.StatementNo.{StatementNo}
use Rattle.profile_image.specs.declared.numbers.SubprogramNo.{SubprogramNo}
use Rattle.profile_machine.specs.declared.run_data.Leaving.{Leaving}
use Rattle.profile_machine.specs.declared.run_data.Leaving.TheVariants as how
use Rattle.profile_image.specs.declared.declarations.Formal.{Formal}
use Rattle.profile_image.specs.declared.expressions.ObjectName.TheVariants.{Declared}
use Rattle.profile_image.specs.declared.statements.Actual.{Actual}
use Rattle.profile_image.specs.declared.statements.Actual.TheVariants as actual
use Rattle.profile_image.specs.declared.statements.Destination.{Destination}
use Rattle.profile_image.specs.declared.statements.Destination.TheVariants as destination
use Rattle.profile_image.specs.declared.values.Value.{Value}
use Rattle.profile_image.specs.declared.values.Value.TheVariants.{Whole}
use Rattle.profile_machine.specs.declared.world.World.{World}
use Rattle.profile_machine.specs.declared.world.scopes.Variable.{Variable}
use Rattle.profile_machine.specs.declared.world.scopes.Located.{Located}
use Rattle.profile_machine.specs.declared.world.marks.ResultTo.{ResultTo}
use Rattle.profile_machine.specs.declared.world.marks.CopyBack.{CopyBack}
use Rattle.profile_machine.specs.declared.world.marks.Purpose.{Purpose}
use Rattle.profile_machine.specs.declared.world.marks.Frame.{Frame}
use Rattle.profile_machine.specs.declared.world.marks.Mark.{Mark}
use Rattle.profile_machine.specs.declared.world.calls.Call.{Call}
use Rattle.profile_machine.specs.declared.world.marks.Purpose.TheVariants as opened_for
use Rattle.profile_machine.specs.declared.world.marks.ResultTo.TheVariants as bound_for
use Rattle.profile_machine.specs.declared.world.marks.Mark.TheVariants.{Scope, Handled, InProtected, InAccept}
use Rattle.profile_machine.specs.declared.world.marks.Mark.TheVariants.{Abortable, InInitialize, InFinalize, InAssign}
use Rattle.profile_image.specs.Program.{next_of, scope_of, marks_of, subprogram_of}
use Rattle.profile_machine.specs.declared.world.lines.Part.TheVariants.{Own}
use Rattle.profile_machine.specs.Steps.{Step, changes, looks, nothing, ◌▷◌}
use Rattle.profile_machine.specs.Frames.{frames_of, goes, leaves, given, raise_if, with_room}
use Rattle.profile_machine.specs.declared.world.scopes.Beginning.{Beginning}
use Rattle.profile_machine.specs.declared.world.scopes.Handed.{Handed}
use Rattle.profile_machine.specs.Scopes.{home, write_cell, open_scope}
use Rattle.profile_machine.specs.Operators.{Valued, checked}
use Rattle.profile_machine.specs.Values.{Seen, value, variable, object_cell, or_misfit, read, thing, located}
use Rattle.profile_machine.specs.CallEnds.{store}
use Rattle.profile_machine.specs.Calls.{edit_call}
use Rattle.profile_machine.specs.Statements.{sees, becomes}

-- ---- parameters (6.4.1): scalars are copied in, from left to right, other objects stand for themselves

abbrev pub nothing_handed : Handed
nothing_handed = record { values = []; back = []; subject = None }

abbrev pub hand_value : Value → Handed → Valued Handed
hand_value v rest = Ok (record rest { values = v ∷ rest.values })

abbrev pub hand_back : ℕ → Variable → Value → Handed → Valued Handed
hand_back place target v rest =
    Ok (record rest { values = v ∷ rest.values; back = record { place = place; target = target } ∷ rest.back })

abbrev pub hand_thing : Value → Located → Handed → Valued Handed
hand_thing v l rest = Ok (record rest { values = v ∷ rest.values; subject = Some l })

-- one parameter, and then the others
abbrev pub hand_over : Seen → ℕ → Formal → Actual → Valued Handed → Valued Handed
hand_over q place f (actual.In e) rest = value q e >>= checked f.constraint >>= λ v. rest >>= hand_value v
hand_over q place f (actual.InOut name) rest = variable q name >>= λ x. checked f.constraint (read q.world x)
    >>= λ v. rest >>= hand_back place x v
hand_over q place f (actual.Out name) rest = variable q name >>= λ x. rest >>= hand_back place x f.initial
hand_over q place f (actual.Thing d) rest = thing q d >>= λ v. located q d >>= λ l. rest >>= hand_thing v l

abbrev pub handed : Seen → ℕ → List Formal → List Actual → Valued Handed
handed q place [] actuals = Ok nothing_handed
handed q place (f ∷ fs) [] = Ok nothing_handed
handed q place (f ∷ fs) (a ∷ as') = hand_over q place f a (handed q (suc place) fs as')

-- ---- where the result goes: the variable is found before the parameters are evaluated

abbrev pub result_to : Seen → Destination → Valued ResultTo
result_to q destination.Nowhere = Ok bound_for.Nowhere
result_to q (destination.Variable name) = variable q name >>= λ v. Ok (bound_for.Variable v)
result_to q (destination.Declaration d) = object_cell q (Declared d) >>= λ v. Ok (bound_for.Variable v)
result_to q (destination.Return f) = Ok (bound_for.Return f)

-- ---- the call of a subprogram that is no protected operation

abbrev pub beginning_of : Seen → SubprogramNo → Handed → Beginning
beginning_of q s h = record {
  outer =
      option_and_then (λ outer. home q.world outer q.within)
      (scope_of q.program (subprogram_of q.program s).scope).outer;
  object = None;
  subject = h.subject;
  values = h.values;
}

unfoldable pub begin_body : Image → Who → StatementNo → SubprogramNo → Beginning → Handed → ResultTo → Step
begin_body p name s f b h to =
    goes name (next_of p s) ▷ changes (open_scope p name (subprogram_of p f).scope b (opened_for.Subprogram h.back to))

-- a step with what a call hands over, and where its result goes
abbrev pub handing : Image → Who → SubprogramNo → List Actual → Destination → (Handed → ResultTo → Step) → Step
handing p name f actuals to step =
    sees p name (λ q. given Own name (result_to q to)
    (λ r. given Own name (handed q 0 (subprogram_of p f).formals actuals) (λ h. step h r)))

unfoldable pub call_subprogram : Image → Who → StatementNo → SubprogramNo → List Actual → Destination → Step
call_subprogram p name s f actuals to =
    with_room name (marks_of p (subprogram_of p f).scope) (scope_of p (subprogram_of p f).scope).size
    (handing p name f actuals to (λ h r. sees p name (λ q. begin_body p name s f (beginning_of q f h) h r)))

-- ---- return (6.5)

-- the last cell of a function's scope keeps its result
abbrev pub result_place : Image → SubprogramNo → ℕ
result_place p f = (scope_of p (subprogram_of p f).scope).size - 1

abbrev pub result_kept : Seen → SubprogramNo → Value → Valued World
result_kept q f v =
    or_misfit (subprogram_of q.program f).result >>= λ range. checked range v >>= λ x.
    or_misfit (home q.world (subprogram_of q.program f).scope q.within) >>= λ id.
    Ok (write_cell id (result_place q.program f) x q.world)

-- a function's result, range checked, is kept, and the marks are left to its body
unfoldable pub return_result : Image → Who → SubprogramNo → Value → Step
return_result p name f v =
    sees p name (λ q. given Own name (result_kept q f v) (λ next. changes (λ _. next) ▷ leaves name how.Return))

unfoldable pub return_value : Image → Who → SubprogramNo → ExprNo → Step
return_value p name f e = sees p name (λ q. given Own name (value q e) (return_result p name f))

-- what a return ends: a body or an accept, with the call that it serves; a block is left on the way
pub data Ended : Type 0 where
  goes_further : Ended
  serves_none : Ended
  serves_call : CallNo → Ended

abbrev pub ended_by_purpose : Purpose → Ended
ended_by_purpose (opened_for.Block s) = goes_further
ended_by_purpose (opened_for.Subprogram back to) = serves_none
ended_by_purpose (opened_for.EntryBody c) = serves_call c
ended_by_purpose opened_for.Task = serves_none

abbrev pub ended_by_mark : Mark → Ended
ended_by_mark (Scope m) = ended_by_purpose m.purpose
ended_by_mark (Handled s) = goes_further
ended_by_mark (InProtected m) = goes_further
ended_by_mark (InAccept m) = serves_call m.call
ended_by_mark (Abortable m) = goes_further
ended_by_mark (InInitialize l) = goes_further
ended_by_mark (InFinalize o) = goes_further
ended_by_mark (InAssign m) = goes_further

-- the call of the accept or entry body that a return ends
abbrev pub call_that_returns : List Frame → Option CallNo
call_that_returns [] = None
call_that_returns (f ∷ fs) =
    elim (ended_by_mark f.mark) [ goes_further ↦ call_that_returns fs | serves_none ↦ None | serves_call c ↦ Some c ]

abbrev pub without_sending : Call → Call
without_sending c = record c { sending = None }

-- a return drops a requeue that an exception has replaced
abbrev pub drop_sending : Option CallNo → World → World
drop_sending None = λ w. w
drop_sending (Some c) = edit_call c without_sending

unfoldable pub return : Who → Step
return name = looks (λ w. changes (drop_sending (call_that_returns (frames_of w name))) ▷ leaves name how.Return)

-- ---- the end of a subprogram's scope: parameters are copied back in order, then a function's value is stored

abbrev pub cell_in : List Value → ℕ → Value
cell_in cells place = slice_index_or cells place (Whole (pos 0))

-- what was copied back before one that fails stays
abbrev pub copy_parameters : Image → Who → List Value → List CopyBack → Step → Step
copy_parameters p name cells [] step = step
copy_parameters p name cells (b ∷ bs) step =
    looks (λ w. given Own name (store p b.target (cell_in cells b.place) w) (λ next. changes (λ _. next)
    ▷ copy_parameters p name cells bs step))

abbrev pub last_cell : List Value → Value
last_cell cells = cell_in cells (length cells - 1)

-- a function that falls through raises Program_Error
abbrev pub falls_through : Leaving → ResultTo → Bool
falls_through how.Return to = false
falls_through how.End bound_for.Nowhere = false
falls_through how.End (bound_for.Variable v) = true
falls_through how.End (bound_for.Return f) = true
falls_through (how.Exit loop) to = false
falls_through (how.Exception e) to = false
falls_through how.Abort to = false
falls_through how.Terminate to = false

unfoldable pub store_result : Image → Who → List Value → ResultTo → Step
store_result p name cells bound_for.Nowhere = nothing
store_result p name cells (bound_for.Variable v) = looks (λ w. becomes Own name (store p v (last_cell cells) w))
store_result p name cells (bound_for.Return f) = return_result p name f (last_cell cells)

-- `cells` are those of the scope that has ended
unfoldable pub end_subprogram : Image → Who → List Value → List CopyBack → ResultTo → Leaving → Step
end_subprogram p name cells back to leaving =
    raise_if name (falls_through leaving to) exception.Program
    (copy_parameters p name cells back (store_result p name cells to))
