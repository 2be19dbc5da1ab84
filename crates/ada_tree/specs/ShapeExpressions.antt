-- Which expressions keep precedence and nest no deeper than a number of levels.
use Rattle.std.specs.Prelude.{ℕ, zero, suc, Bool, true, false, ◌&&◌, nat_le, List, [], ◌∷◌, Option, Some, None}
use Rattle.std.specs.List.{list_all}
use Rattle.ada_tree.specs.declared.names.OneOrMore.{OneOrMore}
use Rattle.ada_tree.specs.declared.expressions.Precedence.{Precedence}
use Rattle.ada_tree.specs.declared.expressions.Precedence.TheVariants as precedence
use Rattle.ada_tree.specs.declared.expressions.Expression.{Expression}
use Rattle.ada_tree.specs.declared.expressions.Expression.TheOpen.{Expression-F}
use Rattle.ada_tree.specs.declared.expressions.Expression.TheFolds.{fold-Expression}
use Rattle.ada_tree.specs.declared.expressions.ExpressionForm.{ExpressionForm}
use Rattle.ada_tree.specs.declared.expressions.ExpressionForm.TheVariants as form
use Rattle.ada_tree.specs.declared.expressions.Operand.{Operand}
use Rattle.ada_tree.specs.declared.expressions.Addend.{Addend}
use Rattle.ada_tree.specs.declared.expressions.Multiplied.{Multiplied}
use Rattle.ada_tree.specs.declared.expressions.Argument.{Argument}

-- What opens a statement, a body or a bracket takes one of the levels that are left.
abbrev pub within : ℕ → (ℕ → Bool) → Bool
within zero fits = false
within (suc left) fits = fits left

abbrev pub all_fit : {X : Type 0} → (X → Bool) → OneOrMore X → Bool
all_fit fits xs = fits xs.first && list_all fits xs.others

abbrev pub optional_fits : {X : Type 0} → (X → Bool) → Option X → Bool
optional_fits fits None = true
optional_fits fits (Some x) = fits x

-- items in brackets, which are a level; nothing where there are none
abbrev pub enclosed_fit : {X : Type 0} → ℕ → (ℕ → X → Bool) → List X → Bool
enclosed_fit left fits [] = true
enclosed_fit left fits (x ∷ xs) = within left (λ m. fits m x && list_all (fits m) xs)

-- ---- precedence: 0 is the loosest

abbrev pub rank : Precedence → ℕ
rank precedence.Logical = 0
rank precedence.Relational = 1
rank precedence.Adding = 2
rank precedence.Signed = 3
rank precedence.Multiplying = 4
rank precedence.Highest = 5
rank precedence.Primary = 6

abbrev pub precedence_of : {E : Type 0} → ExpressionForm E → Precedence
precedence_of (form.Logical operator first others) = precedence.Logical
precedence_of (form.Relational left place operator right) = precedence.Relational
precedence_of (form.Adding first others) = precedence.Adding
precedence_of (form.Signed place sign operand) = precedence.Signed
precedence_of (form.Multiplying first others) = precedence.Multiplying
precedence_of (form.Highest place operator operand) = precedence.Highest
precedence_of (form.Number place literal) = precedence.Primary
precedence_of (form.Text place text) = precedence.Primary
precedence_of (form.Null place) = precedence.Primary
precedence_of (form.Bracketed place inner) = precedence.Primary
precedence_of (form.Named name attribute arguments) = precedence.Primary

-- Whether an expression binds at least so tightly, and nests within so many levels.
abbrev pub Fit : Type 0
Fit = Precedence → ℕ → Bool

-- ---- the forms, given that of the expressions in them

module _ {E : Type 0} (expression : E → Fit) where
  abbrev pub operand_fits : ℕ → Operand E → Bool
  operand_fits left o = expression o.relation precedence.Relational left

  abbrev pub addend_fits : ℕ → Addend E → Bool
  addend_fits left a = expression a.term precedence.Multiplying left

  abbrev pub multiplied_fits : ℕ → Multiplied E → Bool
  multiplied_fits left m = expression m.factor precedence.Highest left

  abbrev pub argument_fits : ℕ → Argument E → Bool
  argument_fits left a = expression a.value precedence.Logical left

  abbrev pub arguments_fit : ℕ → List (Argument E) → Bool
  arguments_fit left arguments = enclosed_fit left argument_fits arguments

  abbrev pub parts_fit : ExpressionForm E → ℕ → Bool
  parts_fit (form.Logical operator first others) left = expression first precedence.Relational left
      && all_fit (operand_fits left) others
  parts_fit (form.Relational first place operator second) left = expression first precedence.Adding left
      && expression second precedence.Adding left
  parts_fit (form.Adding first others) left = expression first precedence.Signed left
      && all_fit (addend_fits left) others
  parts_fit (form.Signed place sign operand) left = expression operand precedence.Multiplying left
  parts_fit (form.Multiplying first others) left = expression first precedence.Highest left
      && all_fit (multiplied_fits left) others
  parts_fit (form.Highest place operator operand) left = expression operand precedence.Primary left
  parts_fit (form.Number place literal) left = true
  parts_fit (form.Text place text) left = true
  parts_fit (form.Null place) left = true
  parts_fit (form.Bracketed place inner) left = within left (expression inner precedence.Logical)
  parts_fit (form.Named name attribute arguments) left = arguments_fit left arguments

  abbrev pub form_fits : ExpressionForm E → Fit
  form_fits f least left = nat_le (rank least) (rank (precedence_of f)) && parts_fit f left

-- ---- expressions

abbrev pub same_fit : Fit → Fit
same_fit fit = fit

abbrev pub fit_layer : Expression-F Fit → Fit
fit_layer e = form_fits same_fit e.form

abbrev pub expression_fits : Expression → Fit
expression_fits = fold-Expression Fit fit_layer
