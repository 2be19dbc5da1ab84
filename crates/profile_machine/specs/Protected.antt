-- Protected actions, entry bodies and ceilings (9.5.1, 9.5.2, 9.5.3, D.3).
use Rattle.std.specs.Prelude.{ℕ, ◌+◌, Bool, true, false, cond, not, ◌&&◌, ◌||◌, List, ◌∷◌}
use Rattle.std.specs.Prelude.{Option, Some, None, ltb, filter, map, option_and_then, unwrap_or}
use Rattle.std.specs.List.{list_all}
use Rattle.ann_base.specs.declared.exceptions.Raised.TheVariants as exception
use Rattle.ann_base.specs.declared.identities.ObjectNo.{ObjectNo}
use Rattle.ann_base.specs.declared.identities.CallNo.{CallNo}
use Rattle.profile_machine.specs.declared.world.objects.Entering.{Entering}
use Rattle.profile_machine.specs.declared.world.objects.Entering.TheVariants as entering_is
use Rattle.profile_machine.specs.declared.world.lines.Line.TheVariants as line
use Rattle.profile_machine.specs.declared.world.lines.MeetingEnd.TheVariants as meeting
use Rattle.trace_text.specs.declared.events.Mode.{Mode}
use Rattle.trace_text.specs.declared.events.Mode.TheVariants.{Read, Write}
use Rattle.trace_text.specs.declared.events.Who.{Who}
use Rattle.profile_image.specs.declared.image.Image.{Image}
use Rattle.profile_image.specs.declared.numbers.DeclNo.{DeclNo}
use Rattle.profile_image.specs.declared.numbers.EntryNo.{EntryNo}
use Rattle.profile_image.specs.declared.numbers.ScopeNo.{ScopeNo}
use Rattle.profile_image.specs.declared.numbers.StatementNo.{StatementNo}
use Rattle.profile_image.specs.declared.numbers.SubprogramNo.{SubprogramNo}
use Rattle.profile_image.specs.declared.numbers.ProtectedUnitNo.{ProtectedUnitNo}
use Rattle.profile_machine.specs.declared.run_data.Leaving.TheVariants as how
use Rattle.profile_image.specs.declared.declarations.EntryBody.{EntryBody}
use Rattle.profile_image.specs.declared.declarations.Subprogram.{Subprogram}
use Rattle.profile_image.specs.declared.statements.Actual.{Actual}
use Rattle.profile_image.specs.declared.statements.Destination.{Destination}
use Rattle.profile_image.specs.declared.values.Value.{Value}
use Rattle.profile_machine.specs.declared.world.World.{World}
use Rattle.profile_machine.specs.declared.world.objects.Object.{Object}
use Rattle.profile_machine.specs.declared.world.objects.Action.{Action}
use Rattle.profile_machine.specs.declared.world.scopes.Handed.{Handed}
use Rattle.profile_machine.specs.declared.world.scopes.Located.{Located}
use Rattle.profile_machine.specs.declared.world.marks.ResultTo.{ResultTo}
use Rattle.profile_machine.specs.declared.world.scopes.ScopeId.{ScopeId}
use Rattle.profile_machine.specs.declared.world.marks.Mark.{Mark}
use Rattle.profile_machine.specs.declared.world.marks.ProtectedMark.{ProtectedMark}
use Rattle.profile_machine.specs.declared.world.calls.Call.{Call}
use Rattle.profile_machine.specs.declared.world.tasks.Cause.TheVariants as inherited_by
use Rattle.profile_machine.specs.declared.world.marks.Purpose.TheVariants as opened_for
use Rattle.profile_machine.specs.declared.world.marks.Mark.TheVariants.{Scope, Handled, InProtected, InAccept}
use Rattle.profile_machine.specs.declared.world.marks.Mark.TheVariants.{Abortable, InInitialize, InFinalize, InAssign}
use Rattle.profile_image.specs.Words.{same_who, without}
use Rattle.ann_base.specs.Lists.{is_empty}
use Rattle.profile_image.specs.Program.{next_of, scope_of, marks_of, subprogram_of}
use Rattle.profile_image.specs.Program.{protected_unit_of, entry_of, has_edf}
use Rattle.profile_machine.specs.declared.world.lines.Part.{Part}
use Rattle.profile_machine.specs.declared.world.lines.Part.TheVariants.{Own, ThePlacing}
use Rattle.profile_machine.specs.Steps.{Step, says, changes, looks, ◌▷◌}
use Rattle.profile_machine.specs.Tasks.{task_of}
use Rattle.profile_machine.specs.Dispatching.{active_of, to_tail}
use Rattle.profile_machine.specs.Frames.{edit_top, push, new_frame, goes, raises, given}
use Rattle.profile_machine.specs.Frames.{raise_if, with_room, has_room, with_mark}
use Rattle.profile_machine.specs.declared.world.scopes.Beginning.{Beginning}
use Rattle.profile_machine.specs.Scopes.{home, open_scope}
use Rattle.profile_machine.specs.Operators.{holds}
use Rattle.profile_machine.specs.Values.{Seen, condition, object_of, object_number, own_object, queue_at}
use Rattle.profile_machine.specs.Inheritance.{inherit_running}
use Rattle.profile_machine.specs.Calls.{edit_call, edit_object, unqueued, next_call, place_of_entry, parameters_of}
use Rattle.profile_machine.specs.Statements.{sees}
use Rattle.profile_machine.specs.Subprograms.{handing, begin_body}

-- ---- entering (9.5.1, D.3)

abbrev pub is_action_of : Who → Action → Bool
is_action_of name a = same_who name a.who

abbrev pub has_open : Who → List Action → Bool
has_open name actions = not (is_empty (filter (is_action_of name) actions))

abbrev pub is_read : Mode → Bool
is_read Read = true
is_read Write = false

-- functions exclude each other no more than readers do
abbrev pub excludes : Mode → List Action → Bool
excludes mode others = not (is_empty others) && not (is_read mode && list_all (λ a. is_read a.mode) others)

-- the active priority is above the ceiling; in a source with an EDF range also the base priority
abbrev pub is_above_ceiling : Image → World → Who → ℕ → Bool
is_above_ceiling p w name ceiling =
    ltb ceiling (active_of p w name) || (has_edf p && ltb ceiling (task_of w name).base)

abbrev pub entering_object : Image → World → Who → Object → Mode → Entering
entering_object p w name o mode =
    cond (has_open name o.actions) entering_is.SameObject
    (cond (is_above_ceiling p w name o.ceiling) entering_is.AboveCeiling
    (cond (excludes mode (without (is_action_of name) o.actions)) entering_is.Held entering_is.Inside))

-- an object that is not there lets nobody in
abbrev pub entering_option : Image → World → Who → Option Object → Mode → Entering
entering_option p w name None mode = entering_is.SameObject
entering_option p w name (Some o) mode = entering_object p w name o mode

abbrev pub entering : Image → World → Who → ObjectNo → Mode → Entering
entering p w name o mode = entering_option p w name (object_of w o) mode

-- who finds the object held goes to the tail of its level, and does the whole action again (own)
unfoldable pub find_held : Image → Who → ObjectNo → Mode → Step
find_held p name o mode = says Own (line.Held name o mode) ▷ to_tail p ThePlacing name

abbrev pub enter_or : Image → Who → ObjectNo → Mode → Step → Entering → Step
enter_or p name o mode step entering_is.SameObject = raises Own name exception.Program
enter_or p name o mode step entering_is.AboveCeiling = raises Own name exception.Program
enter_or p name o mode step entering_is.Held = find_held p name o mode
enter_or p name o mode step entering_is.Inside = step

abbrev pub where_let_inside : Image → Who → ObjectNo → Mode → Step → Step
where_let_inside p name o mode step = looks (λ w. enter_or p name o mode step (entering p w name o mode))

-- ---- an action begins: `enter`, and the ceiling is inherited

abbrev pub new_protected_mark : ObjectNo → Mode → Option CallNo → Option ℕ → Mark
new_protected_mark o mode call release =
    InProtected (record {
      object = o;
      mode = mode;
      own_call = call;
      serves = None;
      body_left = how.End;
      release = release;
    })

abbrev pub open_action : Who → ObjectNo → Mode → World → World
open_action name o mode = edit_object o (λ x. record x { actions = record { who = name; mode = mode } ∷ x.actions })

abbrev pub ceiling_of : Option Object → ℕ
ceiling_of None = 0
ceiling_of (Some o) = o.ceiling

unfoldable pub begin_action_on : Image → Who → ObjectNo → Mode → Option CallNo → Option ℕ → Step
begin_action_on p name o mode call release =
    says Own (line.Enter name o mode) ▷ changes (open_action name o mode)
    ▷ looks (λ w. inherit_running p name (inherited_by.Ceiling o) (ceiling_of (object_of w o)))
    ▷ changes (push name (new_frame (new_protected_mark o mode call release) None))

-- a body of an object's unit: what stands round it is found from the object
abbrev pub outer_of_body : Image → World → ScopeNo → Option Object → Option ScopeId
outer_of_body p w scope None = None
outer_of_body p w scope (Some o) =
    option_and_then (λ outer. home w outer (Some o.located.within)) (scope_of p scope).outer

abbrev pub body_of_object : Image → World → ScopeNo → ObjectNo → Option Located → List Value → Beginning
body_of_object p w scope o subject values = record {
  outer = outer_of_body p w scope (object_of w o);
  object = Some o;
  subject = subject;
  values = values;
}

-- ---- a protected procedure or function called from outside (9.5.1)

abbrev pub mode_of : Subprogram → Mode
mode_of s = elim s.result [ None ↦ Write | Some range ↦ Read ]

unfoldable pub begin_operation : Image → Who → StatementNo → SubprogramNo → ObjectNo → Handed → ResultTo → Step
begin_operation p name s f o h to =
    goes name (next_of p s) ▷ begin_action_on p name o (mode_of (subprogram_of p f)) None None
    ▷ looks (λ w. changes (open_scope p name (subprogram_of p f).scope
    (body_of_object p w (subprogram_of p f).scope o h.subject h.values) (opened_for.Subprogram h.back to)))

abbrev pub has_object_open : World → Who → ObjectNo → Bool
has_object_open w name o = elim (object_of w o) [ None ↦ false | Some x ↦ has_open name x.actions ]

-- first the object and whether it is the own one, then room, then the parameters, then the ceiling and whether it is
-- held
unfoldable pub call_operation_of : Image → Who → StatementNo → SubprogramNo → List Actual → Destination → ObjectNo
    → Step
call_operation_of p name s f actuals to o =
    looks (λ w. raise_if name (has_object_open w name o) exception.Program
    (with_room name (1 + marks_of p (subprogram_of p f).scope) (scope_of p (subprogram_of p f).scope).size
    (handing p name f actuals to (λ h r. where_let_inside p name o (mode_of (subprogram_of p f))
    (begin_operation p name s f o h r)))))

unfoldable pub call_operation : Image → Who → StatementNo → DeclNo → SubprogramNo → List Actual → Destination → Step
call_operation p name s d f actuals to =
    sees p name (λ q. given Own name (object_number q d) (call_operation_of p name s f actuals to))

-- an internal call: no action begins
unfoldable pub begin_own_operation : Image → Who → StatementNo → SubprogramNo → Option ObjectNo → Handed → ResultTo
    → Step
begin_own_operation p name s f None h to = raises Own name exception.Program
begin_own_operation p name s f (Some o) h to =
    looks (λ w. begin_body p name s f (body_of_object p w (subprogram_of p f).scope o h.subject h.values) h to)

abbrev pub unit_of_operation : Subprogram → ProtectedUnitNo
unit_of_operation s = unwrap_or s.unit (record { 0 = 0 })

unfoldable pub call_own_operation : Image → Who → StatementNo → SubprogramNo → List Actual → Destination → Step
call_own_operation p name s f actuals to =
    with_room name (marks_of p (subprogram_of p f).scope) (scope_of p (subprogram_of p f).scope).size
    (handing p name f actuals to (λ h r. sees p name
    (λ q. begin_own_operation p name s f (own_object q (unit_of_operation (subprogram_of p f))) h r)))

-- ---- barriers (9.5.2): evaluating one costs nothing and never raises (own)

abbrev pub seen_by_barrier : Image → World → Who → Object → Seen
seen_by_barrier p w name o = record {
  program = p;
  world = w;
  who = name;
  within = Some o.located.within;
  object = Some o.number;
}

abbrev pub is_open_body : Image → World → Who → Object → Option EntryBody → Bool
is_open_body p w name o None = false
is_open_body p w name o (Some body) = holds (condition (seen_by_barrier p w name o) body.barrier)

abbrev pub is_open_entry : Image → World → Who → Object → EntryNo → Bool
is_open_entry p w name o e = is_open_body p w name o (entry_of p e).body

abbrev pub is_barrier_open : Image → World → Who → ObjectNo → EntryNo → Bool
is_barrier_open p w name o e = elim (object_of w o) [ None ↦ false | Some x ↦ is_open_entry p w name x e ]

-- the queues of the entries whose barriers are open, in the order of the text
abbrev pub open_queues : Image → World → Who → Object → List EntryNo → List (List CallNo)
open_queues p w name o entries =
    map (λ e. queue_at o.queues (place_of_entry p e)) (filter (is_open_entry p w name o) entries)

abbrev pub served_next : Image → World → Who → Option Object → Option CallNo
served_next p w name None = None
served_next p w name (Some o) = next_call p w (open_queues p w name o (protected_unit_of p o.unit).entries)

-- ---- an entry body runs for a call (9.5.2, 9.5.3)

abbrev pub body_scope_of : Image → EntryNo → ScopeNo
body_scope_of p e = elim (entry_of p e).body [ None ↦ record { 0 = 0 } | Some body ↦ body.scope ]

abbrev pub edit_protected : (ProtectedMark → ProtectedMark) → Mark → Mark
edit_protected f (Scope m) = Scope m
edit_protected f (Handled s) = Handled s
edit_protected f (InProtected m) = InProtected (f m)
edit_protected f (InAccept m) = InAccept m
edit_protected f (Abortable m) = Abortable m
edit_protected f (InInitialize l) = InInitialize l
edit_protected f (InFinalize o) = InFinalize o
edit_protected f (InAssign m) = InAssign m

abbrev pub edit_top_protected : Who → (ProtectedMark → ProtectedMark) → World → World
edit_top_protected name f = edit_top name (λ x. with_mark (edit_protected f x.mark) x)

abbrev pub begun_call : Call → Call
begun_call c = record c { begun = true }

-- a call begins: it is out of its queue and loses its time-out
unfoldable pub begin_call : Image → Part → Who → Call → Step
begin_call p part name c =
    changes (unqueued p c) ▷ changes (edit_call c.number begun_call) ▷ says part (line.Start name c.number)

unfoldable pub body_opens : Image → Who → ObjectNo → Call → Step
body_opens p name o c =
    changes (edit_top_protected name (λ m. record m { serves = Some c.number }))
    ▷ looks (λ w. changes (open_scope p name (body_scope_of p c.entry)
    (body_of_object p w (body_scope_of p c.entry) o None (parameters_of p c)) (opened_for.EntryBody c.number)))

abbrev pub has_room_for_body : Image → World → Who → EntryNo → Bool
has_room_for_body p w name e = has_room w name (marks_of p (body_scope_of p e)) (scope_of p (body_scope_of p e)).size

-- the body of a served call opens; without room it starts and finishes at once with Storage_Error, and `otherwise` is
-- done
abbrev pub serve_call : Image → Part → Who → ObjectNo → Call → Step → Step → Step
serve_call p part name o c then_ otherwise =
    looks (λ w. begin_call p part name c
    ▷ elim (has_room_for_body p w name c.entry) [
      | true ↦ body_opens p name o c ▷ then_
      | false ↦ says part (line.Finish name c.number (meeting.Raised exception.Storage)) ▷ otherwise
    ])
