-- What is done to a group budget is told by what is named.
use Rattle.std.proofs.Common.{◌≡◌, ℤ, pos, int_le, not, ◌&&◌, List, Option, refl, is_some}
use Rattle.trace_text.specs.declared.events.Who.{Who}
use Rattle.profile_image.specs.declared.image.Image.{Image}
use Rattle.profile_image.specs.declared.numbers.DeclNo.{DeclNo}
use Rattle.profile_image.specs.declared.numbers.StatementNo.{StatementNo}
use Rattle.profile_image.specs.declared.expressions.VariableName.{VariableName}
use Rattle.profile_image.specs.declared.statements.HandlerName.{HandlerName}
use Rattle.profile_image.specs.declared.numbers.ExprNo.{ExprNo}
use Rattle.profile_machine.specs.declared.world.appointments.Budget.{Budget}
use Rattle.ann_base.specs.declared.exceptions.Raised.TheVariants as exception
use Rattle.profile_machine.specs.declared.world.World.{World}
use Rattle.profile_machine.specs.declared.world.lines.Part.TheVariants.{Own}
use Rattle.profile_machine.specs.declared.world.lines.Said.{Said}
use Rattle.profile_machine.specs.Frames.{given}
use Rattle.profile_machine.specs.Values.{seen_by, number_of_thing, moment, variable}
use Rattle.profile_machine.specs.Handlers.{loaded, raised_by, with_handler, fill_budget, replenish, add_to_budget, set_budget}
use Rattle.profile_machine.specs.Handlers.{cancel_budget, handler_named, is_interrupt_handler, has_room_for_release}
use Rattle.machine_handlers.specs.declared.budgets.Filling.{Filling}
use Rattle.machine_handlers.specs.declared.budgets.BudgetSet.{BudgetSet}
use Rattle.machine_handlers.specs.Settings.{amount_named, budget_setting, thing_named}
use Rattle.machine_handlers.specs.SettingSteps.{budget_changes, budget_is_cancelled}
use Rattle.machine_handlers.proofs.GivenLemmas.{bound, refused}

filled : (p : Image) (name : Who) (s : StatementNo) (d : DeclNo) (e : ExprNo) (f : ℤ → Budget → Budget) (w : World) (said : List Said)
    → fill_budget p name s d e f w said ≡ given Own name (amount_named (seen_by p w name) d e) (λ x. budget_changes p name s x.budget (f x.amount)) w said
unfolding fill_budget
filled p name s d e f w said =
    let q = seen_by p w name in
    let then = λ (x : Filling). budget_changes p name s x.budget (f x.amount) in
    bound name w said (number_of_thing q d) _ _ then (λ b.
    refused name w said (not (has_room_for_release w)) exception.Storage _ _ then
    (bound name w said (moment q e) _ _ then (λ amount.
    refused name w said (int_le amount (pos 0)) exception.GroupBudget _ _ then refl)))

pub replenish-is : (p : Image) (name : Who) (s : StatementNo) (d : DeclNo) (e : ExprNo) (w : World) (said : List Said)
    → replenish p name s d e w said ≡ given Own name (amount_named (seen_by p w name) d e) (λ x. budget_changes p name s x.budget (loaded x.amount)) w said
unfolding replenish
replenish-is p name s d e w said = filled p name s d e loaded w said

pub add_to_budget-is : (p : Image) (name : Who) (s : StatementNo) (d : DeclNo) (e : ExprNo) (w : World) (said : List Said)
    → add_to_budget p name s d e w said
    ≡ given Own name (amount_named (seen_by p w name) d e) (λ x. budget_changes p name s x.budget (raised_by x.amount)) w said
unfolding add_to_budget
add_to_budget-is p name s d e w said = filled p name s d e raised_by w said

pub set_budget-is : (p : Image) (name : Who) (s : StatementNo) (d : DeclNo) (handler : Option HandlerName) (w : World) (said : List Said)
    → set_budget p name s d handler w said
    ≡ given Own name (budget_setting (seen_by p w name) d handler) (λ x. budget_changes p name s x.budget (with_handler x.handler)) w said
unfolding set_budget
set_budget-is p name s d handler w said =
    let q = seen_by p w name in
    let then = λ (x : BudgetSet). budget_changes p name s x.budget (with_handler x.handler) in
    bound name w said (number_of_thing q d) _ _ then (λ b.
    bound name w said (handler_named q handler) _ _ then (λ h.
    refused name w said (is_some h && not (has_room_for_release w)) exception.Storage _ _ then
    (refused name w said (not (is_interrupt_handler p w h)) exception.Program _ _ then refl)))

pub cancel_budget-is : (p : Image) (name : Who) (s : StatementNo) (d : DeclNo) (target : VariableName) (w : World) (said : List Said)
    → cancel_budget p name s d target w said ≡ given Own name (thing_named (seen_by p w name) d target) (budget_is_cancelled p name s) w said
unfolding cancel_budget
cancel_budget-is p name s d target w said =
    let q = seen_by p w name in
    bound name w said (number_of_thing q d) _ _ (budget_is_cancelled p name s) (λ b.
    bound name w said (variable q target) _ _ (budget_is_cancelled p name s) (λ v. refl))

pub ruleset budget_laws = (replenish-is, add_to_budget-is, set_budget-is, cancel_budget-is)
