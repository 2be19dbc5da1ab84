-- What is found in statements without others in them, and in the heads of those with others (clauses 5, 6.5, 9, 11).
use Rattle.ada_legality.specs.Attributes.{ends_of_object, innermost_unit, is_task_object, is_type_in}
use Rattle.ada_legality.specs.Attributes.{is_variable, kind_of_identifier, object_prefix, unit_type_of_entry}
use Rattle.ada_legality.specs.CallStatements.{beyond, call_found, condition_found}
use Rattle.ada_legality.specs.CallStatements.{found_if, value_alone_found, value_found}
use Rattle.ada_legality.specs.Findings.{Found, broken_if, broken_unless}
use Rattle.ada_legality.specs.Places.{place_of, place_of_alternative, place_of_alternative_in}
use Rattle.ada_legality.specs.ReadExpressions.{component_owner, index_fits, is_declared_object, is_unclear_object}
use Rattle.ada_legality.specs.ReadExpressions.{read_expression, typed_expression, unless_denoted}
use Rattle.ada_legality.specs.Reading.{component_assigned, expected, fitted}
use Rattle.ada_legality.specs.Types.{fits, has_type, is_copied_controlled, is_limited}
use Rattle.ada_legality.specs.Types.{operand_type, same_type_if, type_of_bounds, typed_is}
use Rattle.ada_legality.specs.Values.{denoted_kind, denotes_object, denotes_value, is_denoted}
use Rattle.ada_legality.specs.Values.{is_kind, kind_of_name, stands_in_unit, typed_name}
use Rattle.ada_legality.specs.Words.{any_in_body, any_in_sequence, is_accept, sequence_around}
use Rattle.ada_legality.specs.declared.limits.TheConstants.{MOST_ALTERNATIVES}
use Rattle.ada_legality.specs.declared.parts.AlternativeKind.{AlternativeKind}
use Rattle.ada_legality.specs.declared.parts.AlternativePart.{AlternativePart}
use Rattle.ada_legality.specs.declared.reading.Read.{Read}
use Rattle.ada_legality.specs.declared.reading.Shape.{Shape}
use Rattle.ada_legality.specs.declared.reading.Typed.{Typed}
use Rattle.ada_legality.specs.declared.standing.Around.{Around}
use Rattle.ada_legality.specs.declared.standing.Known.{Known}
use Rattle.ada_legality.specs.declared.standing.LoopParameter.{LoopParameter}
use Rattle.ada_legality.specs.declared.standing.SubprogramAround.{SubprogramAround}
use Rattle.ada_regions.specs.Completions.{holds_of}
use Rattle.ada_regions.specs.Declaring.{object_number}
use Rattle.ada_regions.specs.Names.{denoted_by, entity_denoted, kind_at}
use Rattle.ada_regions.specs.Statics.{static_value}
use Rattle.ada_regions.specs.Subtypes.{range_between}
use Rattle.ada_regions.specs.Words.{and_then}
use Rattle.ann_base.specs.Lists.{is_empty}
use Rattle.ada_regions.specs.declared.entities.Denoted.{Denoted}
use Rattle.ada_regions.specs.declared.entities.EntityKind.{EntityKind}
use Rattle.ada_regions.specs.declared.predefined.Predefined.{Predefined}
use Rattle.ada_regions.specs.declared.types.AdaType.{AdaType}
use Rattle.ada_regions.specs.declared.types.Formal.{Formal}
use Rattle.ada_regions.specs.declared.types.Mode.{Mode}
use Rattle.ada_regions.specs.declared.types.Subtype.{Subtype}
use Rattle.ada_regions.specs.Regions.{is_entry}
use Rattle.ada_tree.specs.declared.expressions.Expression.{Expression}
use Rattle.ada_tree.specs.declared.names.Identifier.{Identifier}
use Rattle.ada_tree.specs.declared.names.Name.{Name}
use Rattle.ada_tree.specs.declared.selects.Alternative.{Alternative}
use Rattle.ada_tree.specs.declared.selects.Guard.{Guard}
use Rattle.ada_tree.specs.declared.selects.SelectAlternative.{SelectAlternative}
use Rattle.ada_tree.specs.declared.selects.Trigger.{Trigger}
use Rattle.ada_tree.specs.declared.statements.Assignment.{Assignment}
use Rattle.ada_tree.specs.declared.statements.Call.{Call}
use Rattle.ada_tree.specs.declared.statements.Delay.{Delay}
use Rattle.ada_tree.specs.declared.statements.Exit.{Exit}
use Rattle.ada_tree.specs.declared.statements.Iteration.{Iteration}
use Rattle.ann_base.specs.declared.places.Place.{Place}
use Rattle.profile_image.specs.declared.numbers.DeclNo.{DeclNo}
use Rattle.profile_image.specs.Words.{same_bool}
use Rattle.std.specs.List.{flat_map, list_all, list_any}
use Rattle.std.specs.Prelude.{Bool, List, None, Option, Some, [], cond, eqb, false, filter, is_some, leb}
use Rattle.std.specs.Prelude.{length, ltb, not, option_map, pos, true, unwrap_or, ℕ, ℤ, ◌&&◌, ◌++◌, ◌||◌, ◌∷◌}
use Rattle.ada_tree.specs.declared.selects.Alternative.TheVariants as alternative
use Rattle.ada_legality.specs.declared.parts.AlternativeKind.TheVariants as alternatives
use Rattle.ada_legality.specs.declared.standing.Around.TheVariants as around
use Rattle.ada_legality.specs.declared.reading.Asked.TheVariants as asking
use Rattle.profile_image.specs.declared.values.Constraint.TheVariants as constraint
use Rattle.ada_regions.specs.declared.entities.Denoted.TheVariants as denotes
use Rattle.ada_regions.specs.declared.entities.EntityKind.TheVariants as entity
use Rattle.profile_image.specs.declared.declarations.EntryUnit.TheVariants as entry_unit
use Rattle.ada_legality.specs.declared.findings.Finding.TheVariants as finding
use Rattle.ada_regions.specs.declared.predefined.Predefined.TheVariants as items
use Rattle.ada_tree.specs.declared.statements.Iteration.TheVariants as iteration
use Rattle.ada_regions.specs.declared.types.Mode.TheVariants as mode
use Rattle.ada_legality.specs.declared.rules.Rule.TheVariants as rule
use Rattle.ada_legality.specs.declared.reading.Shape.TheVariants as shapes
use Rattle.ada_tree.specs.declared.selects.Trigger.TheVariants as trigger
use Rattle.ada_regions.specs.declared.types.AdaType.TheVariants as types
use Rattle.ada_legality.specs.declared.reading.Typed.TheVariants as typing

-- ---- what is known inside a construct

abbrev pub with_around : Around → Known → Known
with_around a k = record k { around = a ∷ k.around }

-- ---- assignments (5.2)

-- an object, with an index where that may stand
abbrev pub may_be_target : Known → Bool → Denoted → Bool
may_be_target k has_index d = denotes_object k d && index_fits k has_index d

-- the type of what is assigned
unfoldable pub typed_target : Known → Name → Bool → Typed
typed_target k name has_index =
    cond (is_denoted (denotes_object k) k name) (typed_name k name has_index) typing.WithoutType

-- the type of the index of an array
unfoldable pub type_of_index_of : Known → Name → Option AdaType
type_of_index_of k name = and_then (denoted_by k.names name) (ends_of_object k)

-- an expression is the name of a declared object
abbrev pub names_declared_object : Shape → Bool
names_declared_object (shapes.Name n) = n.is_declared_object
names_declared_object shapes.Number = false
names_declared_object shapes.Other = false

-- two expressions have the same type
unfoldable pub same_types : Typed → Typed → Bool
same_types a b = unwrap_or (option_map (fits b) (operand_type a)) false

-- a side of an assignment is no declared object
unfoldable pub copies_a_parameter : Known → Name → Typed → Read → Bool
copies_a_parameter k name target r =
    not (is_kind is_declared_object k name)
    || (has_type r.typed
    && (same_types target r.typed && not (names_declared_object r.shape)))

-- what is assigned is no variable, or may not be copied so: of a Controlled object, declared
-- objects stand on both sides, no parameters
unfoldable pub is_wrong_target : Known → Name → Typed → Read → Bool
is_wrong_target k name target r =
    has_type target && (not (is_variable k name)
    || (typed_is (is_copied_controlled k.names) target && copies_a_parameter k name target r))

-- an assignment, of which the value is read; limited objects are not copied (7.5)
unfoldable pub assignment_judged : Known → Name → Typed → Read → Found
assignment_judged k name target r =
    broken_if rule.AssignedVariable (is_wrong_target k name target r) (place_of name)
    ++ (broken_if rule.LimitedObject (typed_is (is_limited k.names) target) (place_of name)
    ++ fitted asking.ForValue (operand_type target) r)

-- the target of an assignment
unfoldable pub target_judged : Known → Name → Bool → Found
target_judged k name has_index =
    unless_denoted (may_be_target k has_index) k name
    ++ component_assigned k (and_then (kind_of_name k name) component_owner)

-- an assignment
unfoldable pub assignment_found : Assignment → Known → Found
assignment_found a k =
    let r = read_expression a.value k in
    target_judged k a.target (is_some a.index)
    ++ (found_if (value_found (type_of_index_of k a.target)) a.index k
    ++ (r.1 ++ assignment_judged k a.target (typed_target k a.target (is_some a.index)) r.0))

-- ---- delays (9.6)

abbrev pub delay_type : Bool → AdaType
delay_type true = types.Time
delay_type false = types.Duration

-- a delay
unfoldable pub delay_found : Delay → Known → Found
delay_found d k =
    broken_if rule.Restriction (k.in_force.no_relative_delay && not d.until) d.place
    ++ value_found (Some (delay_type d.until)) d.value k

-- ---- exit statements (5.7): they name a loop around, or stand in one, and leave no body or accept
-- statement

abbrev pub is_loop : Around → Bool
is_loop (around.Loop label) = true
is_loop a = false

-- two entities are the same
abbrev pub same_entities : Option ℕ → Option ℕ → Bool
same_entities (Some a) (Some b) = eqb a b
same_entities a b = false

-- a loop that is open has the name
abbrev pub is_loop_named : Option ℕ → Around → Bool
is_loop_named e (around.Loop label) = same_entities e label
is_loop_named e a = false

-- the name of a loop or a block
abbrev pub is_label_kind : EntityKind → Bool
is_label_kind entity.Label = true
is_label_kind _ = false

-- an identifier that denotes nothing of the kind
abbrev pub unless_kind : (EntityKind → Bool) → Known → Identifier → Found
unless_kind test k i =
    broken_unless rule.KindOfName (holds_of test (kind_of_identifier k i)) i.place

-- an exit with the name of a loop, or without one
unfoldable pub exit_judged : Known → Place → Option Identifier → Found
exit_judged k place None =
    broken_unless rule.ExitFromLoop (any_in_sequence is_loop k.around) place
exit_judged k place (Some i) =
    broken_unless rule.ExitFromLoop
    (any_in_sequence (is_loop_named (entity_denoted k.names i.place)) k.around) place
    ++ unless_kind is_label_kind k i

-- an exit
unfoldable pub exit_found : Exit → Known → Found
exit_found e k = exit_judged k e.place e.loop_name ++ found_if condition_found e.condition k

-- ---- return statements (6.5): with a value in a function alone; a package's statements have none

-- the function whose body it is
abbrev pub function_of : Around → Option SubprogramAround
function_of (around.Subprogram s) = cond (is_some s.result) (Some s) None
function_of a = None

-- the function in whose body a statement stands; an accept and any other body have none
unfoldable pub function_around : Known → Option SubprogramAround
function_around k = and_then (sequence_around k.around) function_of

-- a library package
abbrev pub is_package_around : Around → Bool
is_package_around around.Package = true
is_package_around a = false

-- the statements of a package's body
unfoldable pub stands_in_package : Known → Bool
stands_in_package k =
    unwrap_or (option_map is_package_around (sequence_around k.around)) false

-- a return counts for its function
abbrev pub returned : Option SubprogramAround → Found
returned None = []
returned (Some f) = finding.Returned f.place ∷ []

-- a return with a value that may not stand there, or without one
unfoldable pub return_judged : Known → Place → Bool → Option SubprogramAround → Found
return_judged k place has_value f =
    broken_unless rule.ReturnStatement
    (same_bool has_value (is_some f) && not (stands_in_package k)) place
    ++ returned f

-- the type of the result of the function around
abbrev pub result_expected : Option SubprogramAround → Option AdaType
result_expected f = and_then f (λ s. and_then s.result (λ t. t))

-- a return
unfoldable pub return_found : Place → Option Expression → Known → Found
return_found place e k =
    let f = function_around k in
    return_judged k place (is_some e) f ++ found_if (value_alone_found (result_expected f)) e k

-- ---- raise and abort statements (11.3, 9.8)

abbrev pub is_handler : Around → Bool
is_handler around.Handler = true
is_handler a = false

-- an exception of the source
abbrev pub is_exception_kind : EntityKind → Bool
is_exception_kind (entity.Exception declaration) = true
is_exception_kind _ = false

-- a predefined exception
abbrev pub is_exception_item : Predefined → Bool
is_exception_item (items.Exception raised) = true
is_exception_item _ = false

-- an exception
unfoldable pub denotes_exception : Known → Denoted → Bool
denotes_exception k (denotes.Item u item) = is_exception_item item
denotes_exception k d = holds_of is_exception_kind (denoted_kind k.names d)

-- a raise without a name stands in a handler, and in no body inside it
unfoldable pub raise_found : Place → Option Name → Known → Found
raise_found place None k =
    broken_unless rule.RaiseAndHandlers (any_in_body is_handler k.around) place
raise_found place (Some name) k = unless_denoted (denotes_exception k) k name

-- a task object
abbrev pub is_task_or_unclear : Known → Denoted → Bool
is_task_or_unclear k d = is_task_object k d || is_unclear_object k d

-- task objects are aborted
unfoldable pub is_task_name : Known → Name → Bool
is_task_name k name = is_denoted (is_task_or_unclear k) k name

-- an abort
unfoldable pub abort_found : Place → List Name → Known → Found
abort_found place names k =
    broken_if rule.Restriction k.in_force.no_abort_statements place
    ++ (broken_unless rule.AbortedTask (list_all (is_task_name k) names) place
    ++ flat_map (unless_denoted (denotes_value k) k) names)

-- ---- requeue statements (9.5.4): in an accept statement to a task's entry, in an entry body to
-- one of the same object

-- the accept statement or entry body in which a statement stands
abbrev pub entry_of : Around → Option (Option ℕ)
entry_of (around.Entry e) = Some e
entry_of (around.Accept e) = Some e
entry_of a = None

-- the entity of its entry
unfoldable pub accept_or_entry : Known → Option (Option ℕ)
accept_or_entry k = and_then (sequence_around k.around) entry_of

-- the entry is of the object itself: by its own name, or behind its unit's
unfoldable pub names_unit_around : Known → Name → Bool
names_unit_around k name = unwrap_or (option_map (stands_in_unit k) (object_prefix k name)) true

-- an entry of the object in whose entry body the requeue stands
unfoldable pub is_of_same_object : Known → Name → Bool
is_of_same_object k name =
    is_type_in (and_then (kind_of_name k name) unit_type_of_entry) (innermost_unit k)
    && names_unit_around k name

-- the task unit of an entry
abbrev pub task_type_of_entry : EntityKind → Option AdaType
task_type_of_entry (entity.Entry number (entry_unit.Task u) formals) = Some (types.Task u)
task_type_of_entry _ = None

-- an entry of a task
unfoldable pub is_task_entry : Known → Name → Bool
is_task_entry k name = is_some (and_then (kind_of_name k name) task_type_of_entry)

-- an entry to which a requeue may lead
unfoldable pub is_possible_target : Known → Name → Bool
is_possible_target k name =
    cond (any_in_body is_accept k.around) (is_task_entry k name) (is_of_same_object k name)

-- without parameters, or with as many of the same modes and types
abbrev pub type_of_formal : Formal → Option AdaType
type_of_formal f = option_map (λ s. s.of_type) f.subtype

-- modes are the same
abbrev pub same_mode : Mode → Mode → Bool
same_mode mode.In mode.In = true
same_mode mode.Out mode.Out = true
same_mode mode.InOut mode.InOut = true
same_mode a b = false

-- as many formals, of the same modes and types
unfoldable pub same_formals : List Formal → List Formal → Bool
same_formals [] [] = true
same_formals [] (g ∷ gs) = false
same_formals (f ∷ fs) [] = false
same_formals (f ∷ fs) (g ∷ gs) =
    same_mode f.mode g.mode
    && (same_type_if (type_of_formal f) (type_of_formal g) && same_formals fs gs)

-- the formals of an entry
abbrev pub formals_of_entry : EntityKind → Option (List Formal)
formals_of_entry (entity.Entry number unit formals) = Some formals
formals_of_entry _ = None

-- the target has no formals, or the same
unfoldable pub formals_fit : Option (List Formal) → Option (List Formal) → Bool
formals_fit (Some target) own =
    is_empty target || unwrap_or (option_map (same_formals target) own) false
formals_fit None own = false

-- a requeue from this entry may lead there
unfoldable pub requeues_from : Known → Name → Option ℕ → Bool
requeues_from k name own =
    is_possible_target k name && formals_fit (and_then (kind_of_name k name) formals_of_entry)
    (and_then (and_then own (kind_at k.names)) formals_of_entry)

-- a requeue stands where it may, and leads where it may
unfoldable pub is_right_requeue : Known → Name → Bool
is_right_requeue k name =
    unwrap_or (option_map (requeues_from k name) (accept_or_entry k)) false

-- a requeue; a source with Max_Entry_Queue_Length has none (own)
unfoldable pub requeue_found : Place → Name → Known → Found
requeue_found place name k =
    broken_unless rule.RequeueStatement
    (is_right_requeue k name && not k.in_force.has_longest_queue) place
    ++ broken_unless rule.KindOfName (is_kind is_entry k name) (place_of name)

-- ---- loops (5.5)

-- the range between two bounds, where they are static
abbrev pub range_if_static : Known → Expression → Expression → AdaType → Subtype
range_if_static k low high t =
    record {
      of_type = t;
      range = range_between (static_value k.names low) (static_value k.names high) constraint.Free;
    }

-- a loop parameter of this type
unfoldable pub loop_parameter : Known → Identifier → Expression → Expression → AdaType
    → LoopParameter
loop_parameter k i low high t =
    record {
      entity = unwrap_or (entity_denoted k.names i.place) 0;
      subtype = Some (range_if_static k low high t);
    }

-- the type of the values between two bounds: of a loop parameter, and of the indexes of an array
unfoldable pub type_between : Known → Expression → Expression → AdaType
type_between k low high = type_of_bounds (typed_expression k low) (typed_expression k high)

-- what is known behind the head of a loop
unfoldable pub with_iteration : Iteration → Known → Known
with_iteration iteration.Forever k = k
with_iteration (iteration.While place condition) k = k
with_iteration (iteration.For place parameter reverse low high) k =
    record k {
      loops = loop_parameter k parameter low high (type_between k low high) ∷ k.loops;
    }

-- what has cells, by its number
abbrev pub number_of_kind : EntityKind → Option DeclNo
number_of_kind (entity.LoopParameter declaration) = Some declaration
number_of_kind kind = object_number kind

-- the declaration of what has cells
unfoldable pub cells_noted : Known → Identifier → Place → Found
cells_noted k i place =
    unwrap_or
    (option_map (λ d. finding.Cells d.0 place ∷ [])
    (and_then (kind_of_identifier k i) number_of_kind)) []

-- how a loop goes on
unfoldable pub iteration_found : Place → Iteration → Known → Found
iteration_found place iteration.Forever k = []
iteration_found place (iteration.While at condition) k = condition_found condition k
iteration_found place (iteration.For at parameter reverse low high) k =
    let l = read_expression low k in
    let h = read_expression high k in
    let t = type_of_bounds l.0.typed h.0.typed in
    cells_noted k parameter place
    ++ (l.1 ++ (h.1
    ++ (expected asking.ForValue (Some t) l.0 ++ expected asking.ForValue (Some t) h.0)))

-- ---- selects (9.7)

abbrev pub kind_of_delay : Bool → AlternativeKind
kind_of_delay true = alternatives.DelayUntil
kind_of_delay false = alternatives.Delay

-- the kind of an alternative
abbrev pub kind_of_alternative : {Q : Type 0} → Alternative Q → AlternativeKind
kind_of_alternative (alternative.Accept accept statements) = alternatives.Accept
kind_of_alternative (alternative.Delay delay statements) = kind_of_delay delay.until
kind_of_alternative (alternative.Terminate place) = alternatives.Terminate

-- an alternative's places and kind
abbrev pub alternative_part : {Q : Type 0} → SelectAlternative Q → AlternativePart
alternative_part a =
    record {
      place = place_of_alternative a;
      own_place = place_of_alternative_in a.alternative;
      kind = kind_of_alternative a.alternative;
    }

-- a guard
abbrev pub guard_found : Guard → Known → Found
guard_found g k = condition_found g.condition k

-- a call that has to be that of an entry
abbrev pub calls_an_entry : Known → Call → Bool
calls_an_entry k c = is_kind is_entry k c.name

-- a trigger: it calls an entry (9.7.4)
unfoldable pub trigger_found : Trigger → Known → Found
trigger_found (trigger.Call call) k =
    call_found call k
    ++ broken_unless rule.AsynchronousSelect (calls_an_entry k call) (place_of call.name)
trigger_found (trigger.Delay delay) k = delay_found delay k

-- the call of a timed or conditional call: of an entry (9.7.2, 9.7.3)
unfoldable pub entry_call_found : Call → Known → Found
entry_call_found c k =
    call_found c k
    ++ broken_unless rule.EntryCallAlternative (calls_an_entry k c) (place_of c.name)

-- ---- selective accepts (9.7.1)

abbrev pub is_accept_alternative : AlternativeKind → Bool
is_accept_alternative alternatives.Accept = true
is_accept_alternative kind = false

-- `delay`
abbrev pub is_delay_alternative : AlternativeKind → Bool
is_delay_alternative alternatives.Delay = true
is_delay_alternative kind = false

-- `delay until`
abbrev pub is_delay_until_alternative : AlternativeKind → Bool
is_delay_until_alternative alternatives.DelayUntil = true
is_delay_until_alternative kind = false

-- `terminate`
abbrev pub is_terminate_alternative : AlternativeKind → Bool
is_terminate_alternative alternatives.Terminate = true
is_terminate_alternative kind = false

-- one of the alternatives is such
abbrev pub any_is : (AlternativeKind → Bool) → List AlternativePart → Bool
any_is test parts = list_any (λ p. test p.kind) parts

-- a delay stands there
unfoldable pub has_delay : List AlternativePart → Bool
has_delay parts = any_is is_delay_alternative parts || any_is is_delay_until_alternative parts

-- both kinds of delay stand there
unfoldable pub has_mixed_delays : List AlternativePart → Bool
has_mixed_delays parts =
    any_is is_delay_alternative parts && any_is is_delay_until_alternative parts

-- how many alternatives are `terminate`
unfoldable pub terminates : List AlternativePart → ℕ
terminates parts = length (filter (λ p. is_terminate_alternative p.kind) parts)

-- no two of delay, terminate and else stand there
unfoldable pub excludes : Bool → Bool → Bool → Bool
excludes delays terminates otherwise =
    not (delays && terminates) && (not (delays && otherwise) && not (terminates && otherwise))

-- an accept stands there; delays are of one kind; terminate stands once; delay, terminate and else
-- exclude one another
unfoldable pub is_selective_accept : List AlternativePart → Bool → Bool
is_selective_accept parts otherwise =
    any_is is_accept_alternative parts
    && (not (has_mixed_delays parts) && (leb (terminates parts) 1
    && excludes (has_delay parts) (ltb 0 (terminates parts)) otherwise))

-- where terminate alternatives stand that a restriction forbids
unfoldable pub terminates_forbidden : Bool → List AlternativePart → Found
terminates_forbidden forbidden parts =
    flat_map (λ p. broken_if rule.Restriction (forbidden && is_terminate_alternative p.kind)
    p.own_place) parts

-- the item with which a list has more than a restriction allows
abbrev pub beyond_restriction : {X : Type 0} → (X → Place) → Option ℤ → List X → Found
beyond_restriction place (Some (pos most)) xs = beyond rule.Restriction place most xs
beyond_restriction place most xs = []

-- the alternatives of a selective accept (own)
unfoldable pub selective_accept_judged : Known → Place → List AlternativePart → Bool → Found
selective_accept_judged k place parts otherwise =
    broken_unless rule.SelectiveAccept (is_selective_accept parts otherwise) place
    ++ (beyond rule.Limit (λ p. p.place) MOST_ALTERNATIVES parts
    ++ (beyond_restriction (λ p. p.place) k.in_force.max_select_alternatives parts
    ++ terminates_forbidden k.in_force.no_terminate_alternatives parts))
