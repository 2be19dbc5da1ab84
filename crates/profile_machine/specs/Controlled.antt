-- Controlled objects: Initialize, Finalize, assignment (7.6, 7.6.1).
use Rattle.std.specs.Prelude.{ℕ, suc, ◌+◌, ◌-◌, Bool, true, false, cond, not, ◌&&◌, ◌||◌}
use Rattle.std.specs.Prelude.{[], ◌∷◌, Option, Some, None, eqb, find, option_and_then}
use Rattle.std.specs.List.{list_any}
use Rattle.ann_base.specs.declared.identities.RegionNo.{RegionNo}
use Rattle.ann_base.specs.declared.exceptions.Raised.TheVariants as exception
use Rattle.profile_machine.specs.declared.world.lines.Line.TheVariants as line
use Rattle.trace_text.specs.declared.events.Who.{Who}
use Rattle.profile_image.specs.declared.limits.TheConstants.{CONTROLLED_CELLS}
use Rattle.profile_image.specs.declared.image.Image.{Image}
use Rattle.profile_image.specs.declared.numbers.DeclNo.{DeclNo}
use Rattle.profile_image.specs.declared.numbers.StatementNo.{StatementNo}
use Rattle.profile_image.specs.declared.numbers.SubprogramNo.{SubprogramNo}
use Rattle.profile_image.specs.declared.declarations.ControlledType.{ControlledType}
use Rattle.profile_image.specs.declared.declarations.DeclarationKind.{DeclarationKind}
use Rattle.profile_image.specs.declared.declarations.DeclarationKind.TheVariants as kind
use Rattle.profile_machine.specs.declared.run_data.Leaving.{Leaving}
use Rattle.profile_machine.specs.declared.run_data.Leaving.TheVariants as how
use Rattle.profile_image.specs.declared.values.Value.TheVariants.{Thing}
use Rattle.profile_machine.specs.declared.world.World.{World}
use Rattle.profile_machine.specs.declared.world.tasks.Task.{Task}
use Rattle.profile_machine.specs.declared.world.scopes.Located.{Located}
use Rattle.profile_machine.specs.declared.world.scopes.Variable.{Variable}
use Rattle.profile_machine.specs.declared.world.appointments.Registered.{Registered}
use Rattle.profile_machine.specs.declared.world.Drawn.{Drawn}
use Rattle.profile_machine.specs.declared.world.marks.Frame.{Frame}
use Rattle.profile_machine.specs.declared.world.marks.Mark.{Mark}
use Rattle.profile_machine.specs.declared.world.marks.ScopeMark.{ScopeMark}
use Rattle.profile_machine.specs.declared.world.marks.AssignMark.{AssignMark}
use Rattle.profile_machine.specs.declared.world.marks.AssignStep.{AssignStep}
use Rattle.profile_machine.specs.declared.world.marks.AssignStep.TheVariants as assigning
use Rattle.profile_machine.specs.declared.world.marks.Purpose.TheVariants as opened_for
use Rattle.profile_machine.specs.declared.world.marks.ResultTo.TheVariants as bound_for
use Rattle.profile_machine.specs.declared.world.marks.Mark.TheVariants.{Scope, Handled, InProtected, InAccept}
use Rattle.profile_machine.specs.declared.world.marks.Mark.TheVariants.{Abortable, InInitialize, InFinalize, InAssign}
use Rattle.profile_image.specs.Words.{without}
use Rattle.profile_machine.specs.ScopeNumbers.{same_id}
use Rattle.profile_image.specs.Program.{declaration_of, next_of, scope_of, marks_of}
use Rattle.profile_image.specs.Program.{subprogram_of, controlled_of, no_controlled, size_of_body}
use Rattle.profile_machine.specs.declared.world.lines.Part.TheVariants.{Own}
use Rattle.profile_machine.specs.Steps.{Step, says, changes, looks, when, nothing, ◌▷◌}
use Rattle.profile_machine.specs.Frames.{top_of, edit_top, push, pop, new_frame, goes, leaves}
use Rattle.profile_machine.specs.Frames.{raises, given, with_room, has_room, with_mark, pass_on}
use Rattle.profile_machine.specs.declared.world.scopes.Beginning.{Beginning}
use Rattle.profile_machine.specs.Scopes.{home, read_cell, write_cell, open_scope, edit_cells, innermost, put_cells}
use Rattle.profile_machine.specs.Values.{located}
use Rattle.profile_machine.specs.Cost.{of_region}
use Rattle.profile_machine.specs.Masters.{region_of_mark}
use Rattle.profile_machine.specs.Statements.{sees, cells_from}

-- ---- the operations of an object's type

abbrev pub controlled_kind : Image → DeclarationKind → ControlledType
controlled_kind p (kind.Controlled c) = controlled_of p c
controlled_kind p _ = no_controlled

abbrev pub type_of : Image → Located → ControlledType
type_of p l = controlled_kind p (declaration_of p l.declared).kind

abbrev pub first_place : Image → Located → ℕ
first_place p l = (declaration_of p l.declared).place

-- the body of an operation, with its object
abbrev pub operation_beginning : Image → World → Who → SubprogramNo → Located → Beginning
operation_beginning p w name f l = record {
  outer = option_and_then (λ outer. home w outer (innermost w name)) (scope_of p (subprogram_of p f).scope).outer;
  object = None;
  subject = Some l;
  values = read_cell w l.within (first_place p l) ∷ [];
}

unfoldable pub open_operation : Image → Who → SubprogramNo → Located → Step
open_operation p name f l =
    looks (λ w. changes (open_scope p name (subprogram_of p f).scope (operation_beginning p w name f l)
    (opened_for.Subprogram [] bound_for.Nowhere)))

abbrev pub marks_of_operation : Image → SubprogramNo → ℕ
marks_of_operation p f = marks_of p (subprogram_of p f).scope

-- ---- registration: `init`

abbrev pub controlled_drawn : Drawn → Drawn
controlled_drawn d = record d { controlled = suc d.controlled }

abbrev pub region_or_none : Option RegionNo → RegionNo
region_or_none None = record { 0 = 0 }
region_or_none (Some r) = r

abbrev pub top_region : World → Who → RegionNo
top_region w name = region_or_none (option_and_then (λ f. region_of_mark f.mark) (top_of w name))

abbrev pub registered_as : ℕ → RegionNo → Located → World → World
registered_as n r l w = record w {
  registered = record { object = n; region = r; located = l } ∷ w.registered;
  drawn = controlled_drawn w.drawn;
}

-- the object is registered in the region of the scope on top
unfoldable pub register : Image → Who → Located → Step
register p name l =
    looks (λ w.
    let n = suc w.drawn.controlled in
    changes (registered_as n (top_region w name) l) ▷ changes (write_cell l.within (first_place p l) (Thing n))
    ▷ says Own (line.Init name n (top_region w name) l.declared))

-- ---- Initialize (7.6): without an override the object is registered at once

unfoldable pub initialize_by : Image → Who → StatementNo → Located → Option SubprogramNo → Step
initialize_by p name s l None = goes name (next_of p s) ▷ register p name l
initialize_by p name s l (Some f) =
    with_room name (1 + marks_of_operation p f) (size_of_body p f)
    (goes name (next_of p s) ▷ changes (push name (new_frame (InInitialize l) None)) ▷ open_operation p name f l)

unfoldable pub initialize : Image → Who → StatementNo → DeclNo → Step
initialize p name s d =
    sees p name (λ q. given Own name (located q d) (λ l. initialize_by p name s l (type_of p l).initialize))

-- InInitialize registers the object, but not where it is left by an exception
abbrev pub registers : Leaving → Bool
registers (how.Exception e) = false
registers how.End = true
registers how.Return = true
registers (how.Exit loop) = true
registers how.Abort = true
registers how.Terminate = true

unfoldable pub end_in_initialize : Image → Who → Located → Leaving → Step
end_in_initialize p name l leaving =
    changes (pop name) ▷ cond (registers leaving) (register p name l) (pass_on p name leaving)

-- ---- Finalize of one object of a region that is being left (7.6.1): `final`

abbrev pub is_number : ℕ → Registered → Bool
is_number n r = eqb n r.object

abbrev pub edit_scope_mark : (ScopeMark → ScopeMark) → Mark → Mark
edit_scope_mark f (Scope m) = Scope (f m)
edit_scope_mark f (Handled s) = Handled s
edit_scope_mark f (InProtected m) = InProtected m
edit_scope_mark f (InAccept m) = InAccept m
edit_scope_mark f (Abortable m) = Abortable m
edit_scope_mark f (InInitialize l) = InInitialize l
edit_scope_mark f (InFinalize o) = InFinalize o
edit_scope_mark f (InAssign m) = InAssign m

abbrev pub edit_top_scope : Who → (ScopeMark → ScopeMark) → World → World
edit_top_scope name f = edit_top name (λ x. with_mark (edit_scope_mark f x.mark) x)

abbrev pub finalize_has_raised : ScopeMark → ScopeMark
finalize_has_raised m = record m { finalize_raised = true }

unfoldable pub open_finalize : Image → Who → ℕ → Located → SubprogramNo → Step
open_finalize p name n l f = changes (push name (new_frame (InFinalize n) None)) ▷ open_operation p name f l

abbrev pub has_room_to_finalize : Image → World → Who → SubprogramNo → Bool
has_room_to_finalize p w name f = has_room w name (1 + marks_of_operation p f) (size_of_body p f)

-- without room it counts as one that raised
unfoldable pub finalize_by : Image → Who → Registered → Option SubprogramNo → Step
finalize_by p name r None = nothing
finalize_by p name r (Some f) =
    looks (λ w. elim (has_room_to_finalize p w name f) [
      | true ↦ open_finalize p name r.object r.located f
      | false ↦ changes (edit_top_scope name finalize_has_raised)
    ])

abbrev pub no_longer_registered : ℕ → World → World
no_longer_registered n w = record w { registered = without (is_number n) w.registered }

unfoldable pub finalize_now : Image → Who → Registered → Step
finalize_now p name r =
    says Own (line.Final name r.object) ▷ changes (no_longer_registered r.object)
    ▷ finalize_by p name r (type_of p r.located).finalize

-- the target of an assignment that is under way stays registered: its scope is left no further before the assignment
-- has ended. No source is known whose assignments outlast the wait for dependents (own).
abbrev pub assigns_to : ℕ → Mark → Bool
assigns_to n (InAssign m) = eqb n m.target
assigns_to n (Scope m) = false
assigns_to n (Handled s) = false
assigns_to n (InProtected m) = false
assigns_to n (InAccept m) = false
assigns_to n (Abortable m) = false
assigns_to n (InInitialize l) = false
assigns_to n (InFinalize o) = false

abbrev pub is_assigning_to : ℕ → Task → Bool
is_assigning_to n t = list_any (λ f. assigns_to n f.mark) t.frames

abbrev pub is_being_assigned : World → ℕ → Bool
is_being_assigned w n = list_any (is_assigning_to n) w.tasks || is_assigning_to n w.agent

unfoldable pub finalize : Image → Who → Registered → Step
finalize p name r = looks (λ w. when (not (is_being_assigned w r.object)) (finalize_now p name r))

-- the one of the region with the greatest number
abbrev pub next_to_finalize : World → RegionNo → Option Registered
next_to_finalize w r = find (of_region r) w.registered

-- an exception of a Finalize goes on where it belongs to an assignment; else the region's other objects are finalized
abbrev pub is_assign_mark : Mark → Bool
is_assign_mark (InAssign m) = true
is_assign_mark (Scope m) = false
is_assign_mark (Handled s) = false
is_assign_mark (InProtected m) = false
is_assign_mark (InAccept m) = false
is_assign_mark (Abortable m) = false
is_assign_mark (InInitialize l) = false
is_assign_mark (InFinalize o) = false

abbrev pub is_assignment : Option Frame → Bool
is_assignment None = false
is_assignment (Some f) = is_assign_mark f.mark

unfoldable pub behind_finalize : Image → Who → Leaving → Bool → Step
behind_finalize p name (how.Exception e) true = pass_on p name (how.Exception e)
behind_finalize p name (how.Exception e) false = changes (edit_top_scope name finalize_has_raised)
behind_finalize p name how.End of_assignment = nothing
behind_finalize p name how.Return of_assignment = nothing
behind_finalize p name (how.Exit loop) of_assignment = nothing
behind_finalize p name how.Abort of_assignment = nothing
behind_finalize p name how.Terminate of_assignment = nothing

unfoldable pub end_in_finalize : Image → Who → Leaving → Step
end_in_finalize p name leaving =
    changes (pop name) ▷ looks (λ w. behind_finalize p name leaving (is_assignment (top_of w name)))

-- ---- assignment (7.6): `replace`, and then Finalize of the target, the copy and Adjust

abbrev pub same_located : Located → Located → Bool
same_located a b = same_id a.within b.within && eqb a.declared.0 b.declared.0

abbrev pub is_located : Located → Registered → Bool
is_located l r = same_located l r.located

abbrev pub registered_at : World → Located → Option Registered
registered_at w l = find (is_located l) w.registered

abbrev pub new_assign_mark : ℕ → ℕ → Mark
new_assign_mark target source = InAssign (record { target = target; source = source; step = assigning.FinalizeTarget })

unfoldable pub begin_assignment : Image → Who → StatementNo → ℕ → ℕ → Step
begin_assignment p name s target source =
    with_room name 1 0
    (goes name (next_of p s) ▷ says Own (line.Replace name target)
    ▷ changes (push name (new_frame (new_assign_mark target source) None)))

-- a target or a source that is not registered raises Program_Error (own)
unfoldable pub assign_registered : Image → Who → StatementNo → Option Registered → Option Registered → Step
assign_registered p name s (Some target) (Some source) = begin_assignment p name s target.object source.object
assign_registered p name s (Some target) None = raises Own name exception.Program
assign_registered p name s None source = raises Own name exception.Program

-- to itself it does nothing (own)
unfoldable pub assign_located : Image → Who → StatementNo → Located → Located → Step
assign_located p name s target source =
    cond (same_located target source) (goes name (next_of p s))
    (looks (λ w. assign_registered p name s (registered_at w target) (registered_at w source)))

unfoldable pub assign_controlled : Image → Who → StatementNo → DeclNo → DeclNo → Step
assign_controlled p name s target source =
    sees p name (λ q. given Own name (located q target)
    (λ t. given Own name (located q source) (λ f. assign_located p name s t f)))

-- ---- the steps of an assignment

abbrev pub at_step : AssignStep → AssignMark → AssignMark
at_step step m = record m { step = step }

abbrev pub edit_assign : (AssignMark → AssignMark) → Mark → Mark
edit_assign f (Scope m) = Scope m
edit_assign f (Handled s) = Handled s
edit_assign f (InProtected m) = InProtected m
edit_assign f (InAccept m) = InAccept m
edit_assign f (Abortable m) = Abortable m
edit_assign f (InInitialize l) = InInitialize l
edit_assign f (InFinalize o) = InFinalize o
edit_assign f (InAssign m) = InAssign (f m)

abbrev pub edit_top_assign : Who → (AssignMark → AssignMark) → World → World
edit_top_assign name f = edit_top name (λ x. with_mark (edit_assign f x.mark) x)

abbrev pub registered_object : World → ℕ → Option Registered
registered_object w n = find (is_number n) w.registered

-- without room a Finalize or Adjust counts as one that raised
unfoldable pub leave_without_room : Who → Step
leave_without_room name = leaves name (how.Exception exception.Storage)

unfoldable pub finalize_target_by : Image → Who → Registered → Option SubprogramNo → Step
finalize_target_by p name r None = nothing
finalize_target_by p name r (Some f) =
    looks (λ w. elim (has_room_to_finalize p w name f) [
      | true ↦ open_finalize p name r.object r.located f
      | false ↦
          leave_without_room name
    ])

abbrev pub has_room_to_adjust : Image → World → Who → SubprogramNo → Bool
has_room_to_adjust p w name f = has_room w name (marks_of_operation p f) (size_of_body p f)

unfoldable pub adjust_by : Image → Who → Registered → Option SubprogramNo → Step
adjust_by p name r None = nothing
adjust_by p name r (Some f) =
    looks (λ w. elim (has_room_to_adjust p w name f) [
      | true ↦ open_operation p name f r.located
      | false ↦
          leave_without_room name
    ])

-- the components alone are copied
abbrev pub components_at : Image → Located → Variable
components_at p l = record { within = l.within; place = first_place p l + CONTROLLED_CELLS; declared = l.declared }

-- how many cells the components of an object take
abbrev pub cells_of_components : Image → Located → ℕ
cells_of_components p l = (declaration_of p l.declared).cells - CONTROLLED_CELLS

abbrev pub copy_components_of : Variable → Variable → ℕ → World → World
copy_components_of target source count w =
    edit_cells target.within (put_cells target.place (cells_from w source count)) w

abbrev pub copy_object : Image → Located → Located → World → World
copy_object p target source =
    copy_components_of (components_at p target) (components_at p source) (cells_of_components p target)

abbrev pub do_step : Image → Who → AssignStep → Registered → Registered → Step
do_step p name assigning.FinalizeTarget target source =
    changes (edit_top_assign name (at_step assigning.CopyComponents))
    ▷ finalize_target_by p name target (type_of p target.located).finalize
do_step p name assigning.CopyComponents target source =
    changes (edit_top_assign name (at_step assigning.AdjustTarget))
    ▷ changes (copy_object p target.located source.located)
do_step p name assigning.AdjustTarget target source =
    changes (edit_top_assign name (at_step assigning.Assigned))
    ▷ adjust_by p name target (type_of p target.located).adjust
do_step p name assigning.Assigned target source = changes (pop name)

abbrev pub step_with : Image → Who → AssignStep → Option Registered → Option Registered → Step
step_with p name step (Some target) (Some source) = do_step p name step target source
step_with p name step (Some target) None = changes (pop name)
step_with p name step None source = changes (pop name)

-- InAssign that is left by an exception goes on with Program_Error; else its next step is done
unfoldable pub end_in_assign : Image → Who → AssignMark → Option Leaving → Step
end_in_assign p name m (Some (how.Exception e)) = changes (pop name) ▷ raises Own name exception.Program
end_in_assign p name m _ =
    looks (λ w. step_with p name m.step (registered_object w m.target) (registered_object w m.source))
