-- What is found in aspects (13.1.1): Priority and Interrupt_Priority (D.1, D.3), CPU (D.16), Relative_Deadline (D.2.6)
-- and Attach_Handler (C.3.1).
use Rattle.ada_image.specs.UnitsOfImage.{level_of}
use Rattle.ada_legality.specs.Findings.{Found, broken_if, broken_unless}
use Rattle.ada_legality.specs.ReadExpressions.{read_expression}
use Rattle.ada_legality.specs.Reading.{without_point}
use Rattle.ada_legality.specs.Types.{fits, has_type, is_pointed}
use Rattle.ada_legality.specs.Words.{lies_between, static_number}
use Rattle.ada_legality.specs.declared.findings.Finding.{Finding}
use Rattle.ada_legality.specs.declared.parts.AspectName.{AspectName}
use Rattle.ada_legality.specs.declared.parts.AspectOwner.{AspectOwner}
use Rattle.ada_legality.specs.declared.parts.AspectPart.{AspectPart}
use Rattle.ada_legality.specs.declared.reading.Typed.{Typed}
use Rattle.ada_legality.specs.declared.standing.Known.{Known}
use Rattle.ada_regions.specs.Statics.{static_value}
use Rattle.ada_regions.specs.Words.{and_then, entry_named}
use Rattle.ada_regions.specs.declared.table.Names.{Names}
use Rattle.ada_tree.specs.declared.declarations.Aspect.{Aspect}
use Rattle.ada_tree.specs.declared.expressions.Expression.{Expression}
use Rattle.ada_tree.specs.declared.names.Identifier.{Identifier}
use Rattle.ann_base.specs.declared.places.Place.{Place}
use Rattle.std.specs.List.{list_any}
use Rattle.std.specs.Prelude.{Bool, List, None, Option, Some, [], codes, cond, false, find, not}
use Rattle.std.specs.Prelude.{option_map, pos, suc, take, true, unwrap_or, ℕ, ℤ, ◌&&◌, ◌++◌, ◌||◌, ◌∷◌}
use Rattle.profile_image.specs.declared.limits.TheConstants.{LAST_OUTSIDE_LINE}
use Rattle.ada_legality.specs.declared.parts.AspectName.TheVariants as aspect_is
use Rattle.ada_legality.specs.declared.findings.Finding.TheVariants as finding
use Rattle.ada_legality.specs.declared.parts.AspectOwner.TheVariants as owning
use Rattle.ada_legality.specs.declared.rules.Rule.TheVariants as rule
use Rattle.ada_regions.specs.declared.types.AdaType.TheVariants as types

-- ---- aspects with their values

-- the aspects of the profile
abbrev pub aspect_names : List (List ℕ × AspectName)
aspect_names =
    (codes "priority", aspect_is.Priority)
    ∷ (codes "interrupt_priority", aspect_is.InterruptPriority)
    ∷ (codes "cpu", aspect_is.Cpu)
    ∷ (codes "relative_deadline", aspect_is.RelativeDeadline)
    ∷ (codes "attach_handler", aspect_is.AttachHandler) ∷ []

-- which aspect it is
unfoldable pub aspect_named : List ℕ → AspectName
aspect_named name = unwrap_or (entry_named name aspect_names) aspect_is.Other

-- a priority that is static
unfoldable pub static_level : Names → Expression → Option ℕ
static_level n e = and_then (static_value n e) level_of

-- an aspect with a value, of which nothing is expected but that it is no number with a point
unfoldable pub aspect_with_value : Identifier → Expression → Known → AspectPart × Found
aspect_with_value i e k =
    let r = read_expression e k in (
      record {
        place = i.place;
        name = aspect_named i.text;
        typed = Some r.0.typed;
        number = static_number k types.Integer e r.0.typed;
        level = static_level k.names e;
      },
      r.1 ++ without_point r.0,
    )

-- an aspect without a value
unfoldable pub aspect_alone : Identifier → AspectPart
aspect_alone i =
    record {
      place = i.place;
      name = aspect_named i.text;
      typed = None;
      number = None;
      level = None;
    }

-- an aspect
unfoldable pub aspect_read : Identifier → Option Expression → Known → AspectPart × Found
aspect_read i None k = (aspect_alone i, [])
aspect_read i (Some e) k = aspect_with_value i e k

-- aspects in their order
unfoldable pub aspects_read : List Aspect → Known → List AspectPart × Found
aspects_read [] k = ([], [])
aspects_read (a ∷ others) k =
    let part = aspect_read a.name a.value k in
    let rest = aspects_read others k in
    (part.0 ∷ rest.0, part.1 ++ rest.1)

-- a number with a point breaks the rule on literals alone
abbrev pub has_point : AspectPart → Bool
has_point a = unwrap_or (option_map is_pointed a.typed) false

-- an aspect that is Priority or Interrupt_Priority; CPU; Relative_Deadline; Attach_Handler
abbrev pub is_priority_name : AspectName → Bool
is_priority_name aspect_is.Priority = true
is_priority_name aspect_is.InterruptPriority = true
is_priority_name name = false

-- CPU
abbrev pub is_cpu_name : AspectName → Bool
is_cpu_name aspect_is.Cpu = true
is_cpu_name name = false

-- Relative_Deadline
abbrev pub is_deadline_name : AspectName → Bool
is_deadline_name aspect_is.RelativeDeadline = true
is_deadline_name name = false

-- Attach_Handler
abbrev pub is_attach_name : AspectName → Bool
is_attach_name aspect_is.AttachHandler = true
is_attach_name name = false

-- ---- which may stand where; Relative_Deadline and Attach_Handler have rules of their own

abbrev pub is_known_name : AspectOwner → AspectName → Bool
is_known_name owning.OnMain name = is_priority_name name || is_cpu_name name
is_known_name owning.OnTask name = is_priority_name name || is_cpu_name name
is_known_name owning.OnProtected name = is_priority_name name
is_known_name (owning.OnOperation is_parameterless completes unit) name = false
is_known_name owning.OnSubprogram name = false

-- an aspect may stand there, or has a rule of its own
unfoldable pub may_have_aspect : AspectOwner → AspectName → Bool
may_have_aspect on name = is_deadline_name name || (is_attach_name name || is_known_name on name)

-- ---- priorities (D.1, D.3): static, in their subtype, and one of them at most

-- the value of a priority's aspect is one of its subtype
unfoldable pub is_priority_value : ℕ → AspectName → Option ℤ → Bool
is_priority_value last aspect_is.Priority number = lies_between (pos 0) (pos last) number
is_priority_value last name number = lies_between (pos (suc last)) (pos (suc last)) number

-- an aspect of such a name stands before
unfoldable pub stands_before_in : (AspectName → Bool) → List AspectPart → Bool
stands_before_in test before = list_any (λ a. test a.name) before

-- a priority that is not static, not in its subtype, or the second
unfoldable pub wrong_priority : ℕ → Bool → AspectPart → Found
wrong_priority last is_second a =
    broken_if rule.PriorityAspect (is_priority_name a.name && (not (has_point a)
    && (not (is_priority_value last a.name a.number) || is_second))) a.place

-- CPU (D.16) is 0 or 1
unfoldable pub wrong_cpu : Bool → AspectPart → Found
wrong_cpu is_second a =
    broken_if rule.CpuAspect (is_cpu_name a.name && (not (has_point a)
    && (not (lies_between (pos 0) (pos 1) a.number) || is_second))) a.place

-- a Time_Span, or no type
abbrev pub is_span_or_refused : Typed → Bool
is_span_or_refused t = not (has_type t) || (is_pointed t || fits t types.TimeSpan)

-- the value of a relative deadline
abbrev pub is_deadline : AspectPart → Bool
is_deadline a = unwrap_or (option_map is_span_or_refused a.typed) false

-- a relative deadline (D.2.6) on something else than a task, of another type, or the second
unfoldable pub wrong_deadline : Bool → Bool → AspectPart → Found
wrong_deadline of_task is_second a =
    broken_if rule.RelativeDeadlineAspect
    (is_deadline_name a.name && not (of_task && (is_deadline a && not is_second))) a.place

-- an interrupt (C.3.1) that is not static or not there
unfoldable pub wrong_interrupt : AspectPart → Found
wrong_interrupt a =
    broken_if rule.AttachedInterrupt
    (is_attach_name a.name
    && (not (has_point a) && not (lies_between (pos 0) (pos LAST_OUTSIDE_LINE) a.number))) a.place

-- ---- on what an aspect stands

-- priorities are asked of the main procedure, of tasks and of protected units
abbrev pub asks_priority : AspectOwner → Bool
asks_priority owning.OnMain = true
asks_priority owning.OnTask = true
asks_priority owning.OnProtected = true
asks_priority on = false

-- CPU of the main procedure and of tasks
abbrev pub asks_cpu : AspectOwner → Bool
asks_cpu owning.OnMain = true
asks_cpu owning.OnTask = true
asks_cpu on = false

-- a task
abbrev pub is_task_owner : AspectOwner → Bool
is_task_owner owning.OnTask = true
is_task_owner on = false

-- what an interrupt may be attached to: a procedure without parameters of a protected unit
abbrev pub may_be_attached : AspectOwner → Bool
may_be_attached (owning.OnOperation is_parameterless completes unit) = is_parameterless
may_be_attached on = false

-- a body that completes such a procedure attaches nothing
abbrev pub attaches_again : AspectOwner → Bool
attaches_again (owning.OnOperation is_parameterless completes unit) =
    is_parameterless && completes
attaches_again on = false

-- the unit whose procedure is attached
abbrev pub attaches_to : AspectOwner → Option ℕ
attaches_to (owning.OnOperation is_parameterless completes unit) =
    cond (is_parameterless && not completes) (Some unit) None
attaches_to on = None

-- priorities and CPU, of what may have them
unfoldable pub priority_judged : ℕ → AspectOwner → List AspectPart → AspectPart → Found
priority_judged last on before a =
    cond (asks_priority on) (wrong_priority last (stands_before_in is_priority_name before) a) []
    ++ cond (asks_cpu on) (wrong_cpu (stands_before_in is_cpu_name before) a) []

-- an attached handler
abbrev pub attached_as : Place → AspectPart → ℕ → Finding
attached_as place a unit =
    finding.Attached (record {
      unit = unit;
      procedure = place;
      aspect = a.place;
      number = a.number;
    })

-- a handler that is attached, where it may be
unfoldable pub attachment_noted : AspectOwner → Place → AspectPart → Found
attachment_noted on place a = cond (is_attach_name a.name)
    (unwrap_or (option_map (λ unit. attached_as place a unit ∷ []) (attaches_to on)) []) []

-- an interrupt that is attached, or attached again
unfoldable pub interrupt_judged : AspectOwner → Place → AspectPart → Found
interrupt_judged on place a =
    wrong_interrupt a
    ++ (broken_if rule.AttachedInterrupt (is_attach_name a.name && attaches_again on) a.place
    ++ attachment_noted on place a)

-- an aspect, behind those before it
unfoldable pub aspect_judged : ℕ → AspectOwner → Place → List AspectPart → AspectPart → Found
aspect_judged last on place before a =
    broken_unless rule.KindOfName (may_have_aspect on a.name) a.place
    ++ (priority_judged last on before a
    ++ (wrong_deadline (is_task_owner on) (stands_before_in is_deadline_name before) a
    ++ interrupt_judged on place a))

-- all aspects, from this place on
unfoldable pub aspects_from : ℕ → AspectOwner → Place → List AspectPart → ℕ → List AspectPart
    → Found
aspects_from last on place aspects at [] = []
aspects_from last on place aspects at (a ∷ rest) =
    aspect_judged last on place (take at aspects) a
    ++ aspects_from last on place aspects (suc at) rest

-- the aspects of a construct that begins here
unfoldable pub aspects_judged : Known → AspectOwner → Place → List AspectPart → Found
aspects_judged k on place aspects =
    broken_if rule.HandlerProcedure
    (stands_before_in is_attach_name aspects && not (may_be_attached on)) place
    ++ aspects_from k.names.last_priority on place aspects 0 aspects

-- aspects that are read and judged
unfoldable pub aspects_found : AspectOwner → Place → List Aspect → Known
    → List AspectPart × Found
aspects_found on place aspects k =
    let parts = aspects_read aspects k in
    (parts.0, parts.1 ++ aspects_judged k on place parts.0)

-- ---- the priority that is stated: at its aspect

-- an aspect, where its value is one of its subtype
unfoldable pub if_priority_value : ℕ → AspectPart → Option AspectPart
if_priority_value last a = cond (is_priority_value last a.name a.number) (Some a) None

-- the aspect that gives a priority: the first of such a name, unless its value is refused
unfoldable pub priority_aspect : ℕ → List AspectPart → Option AspectPart
priority_aspect last aspects =
    and_then (find (λ a. is_priority_name a.name) aspects) (if_priority_value last)

-- the priority that aspects give
unfoldable pub stated_value : ℕ → List AspectPart → Option ℤ
stated_value last aspects = and_then (priority_aspect last aspects) (λ a. a.number)

-- where a priority is given, or its unit begins
unfoldable pub place_of_priority : ℕ → List AspectPart → Place → Place
place_of_priority last aspects place =
    unwrap_or (option_map (λ a. a.place) (priority_aspect last aspects)) place

-- a priority that is not the highest
unfoldable pub is_other_ceiling : ℕ → Option ℤ → Bool
is_other_ceiling last None = false
is_other_ceiling last (Some z) = not (lies_between (pos (suc last)) (pos (suc last)) (Some z))
