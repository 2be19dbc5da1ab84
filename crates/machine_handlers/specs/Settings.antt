-- What a setting names, as one value: the handler, and the value once there is room for a release.
use Rattle.std.specs.Prelude.{ℕ, ℤ, pos, int_le, Bool, true, false, not, ◌&&◌, Option, Ok, Err, is_some}
use Rattle.ann_base.specs.Results.{◌>>=◌}
use Rattle.ann_base.specs.declared.exceptions.Raised.{Raised}
use Rattle.ann_base.specs.declared.exceptions.Raised.TheVariants as exception
use Rattle.profile_image.specs.declared.numbers.DeclNo.{DeclNo}
use Rattle.profile_image.specs.declared.numbers.ExprNo.{ExprNo}
use Rattle.profile_image.specs.declared.statements.HandlerName.{HandlerName}
use Rattle.profile_image.specs.declared.statements.Setting.{Setting}
use Rattle.profile_image.specs.declared.expressions.VariableName.{VariableName}
use Rattle.profile_machine.specs.declared.world.appointments.HandlerOf.{HandlerOf}
use Rattle.profile_machine.specs.Operators.{Valued}
use Rattle.profile_machine.specs.Values.{Seen, number_of_thing, variable, moment}
use Rattle.profile_machine.specs.Handlers.{handler_named, set_value, has_room_for_release}
use Rattle.profile_machine.specs.Handlers.{is_interrupt_handler, clock_of_timer, named_live}
use Rattle.machine_handlers.specs.declared.members.Member.{Member}
use Rattle.machine_handlers.specs.declared.budgets.Filling.{Filling}
use Rattle.machine_handlers.specs.declared.budgets.BudgetSet.{BudgetSet}
use Rattle.machine_handlers.specs.declared.settings.Set.{Set}
use Rattle.machine_handlers.specs.declared.settings.TimerSet.{TimerSet}
use Rattle.machine_handlers.specs.declared.settings.Named.{Named}

-- the exception where the test holds
abbrev pub refuse_if : {X : Type 0} → Bool → Raised → Valued X → Valued X
refuse_if true e r = Err e
refuse_if false e r = r

-- a handler that needs room for a release has it
abbrev pub with_room_for : {X : Type 0} → Seen → Bool → Valued X → Valued X
with_room_for q needed r = refuse_if (needed && not (has_room_for_release q.world)) exception.Storage r

-- a handler's object has the ceiling of interrupts
abbrev pub of_interrupt : {X : Type 0} → Seen → Option HandlerOf → Valued X → Valued X
of_interrupt q h r = refuse_if (not (is_interrupt_handler q.program q.world h)) exception.Program r

abbrev pub set_with : Seen → ℕ → ℤ → Setting → Option HandlerName → Valued Set
set_with q n base set handler =
    handler_named q handler >>= λ h. with_room_for q (is_some h)
    (set_value q base set >>= λ v. of_interrupt q h (Ok (record { number = n; handler = h; value = v })))

abbrev pub event_setting : Seen → DeclNo → Setting → Option HandlerName → Valued Set
event_setting q d set handler = number_of_thing q d >>= λ e. set_with q e (pos q.world.time) set handler

abbrev pub timer_setting : Seen → DeclNo → Setting → Option HandlerName → Valued TimerSet
timer_setting q d set handler =
    number_of_thing q d >>= λ k. clock_of_timer q k >>= λ clock.
    set_with q k (pos clock) set handler >>= λ x. Ok (record { clock = clock; set = x })

-- a thing with the variable that gets whether it was set
abbrev pub thing_named : Seen → DeclNo → VariableName → Valued Named
thing_named q d target = number_of_thing q d >>= λ n. variable q target >>= λ v. Ok (record { number = n; target = v })

abbrev pub timer_named : Seen → DeclNo → VariableName → Valued Named
timer_named q d target =
    number_of_thing q d >>= λ k. clock_of_timer q k >>= λ clock. variable q target
    >>= λ v. Ok (record { number = k; target = v })

-- ---- members and budgets

-- a budget with a live task: who it is, and the budget of which it is a member
abbrev pub member_named : Seen → DeclNo → ExprNo → Valued Member
member_named q d e =
    number_of_thing q d >>= λ b. named_live q e >>= λ t. Ok (record { budget = b; who = t.who; member_of = t.budget })

-- a budget with a positive amount, once there is room for a release
abbrev pub amount_named : Seen → DeclNo → ExprNo → Valued Filling
amount_named q d e =
    number_of_thing q d >>= λ b. with_room_for q true (moment q e >>= λ amount.
    refuse_if (int_le amount (pos 0)) exception.GroupBudget (Ok (record { budget = b; amount = amount })))

-- a budget with its handler
abbrev pub budget_setting : Seen → DeclNo → Option HandlerName → Valued BudgetSet
budget_setting q d handler =
    number_of_thing q d >>= λ b. handler_named q handler >>= λ h. with_room_for q (is_some h)
    (of_interrupt q h (Ok (record { budget = b; handler = h })))
