-- Making the lists of an image: what is made is put at the end of its list and named by its number there. A statement
-- that others lead back to gets its number first, and is put there later.
use Rattle.std.specs.Prelude.{List, ℕ, [], ◌∷◌, ◌++◌, Option, Some, None, length, slice_set}
use Rattle.std.specs.List.{cons_option}
use Rattle.profile_image.specs.declared.numbers.ExprNo.{ExprNo}
use Rattle.profile_image.specs.declared.numbers.StatementNo.{StatementNo}
use Rattle.profile_image.specs.declared.numbers.SubprogramNo.{SubprogramNo}
use Rattle.profile_image.specs.declared.expressions.Expression.{Expression as Valuation}
use Rattle.profile_image.specs.declared.statements.Statement.{Statement as Action}
use Rattle.profile_image.specs.declared.statements.StatementForm.{StatementForm}
use Rattle.profile_image.specs.Program.{no_statement}
use Rattle.ada_image.specs.declared.making.Lists.{Lists}
use Rattle.ada_image.specs.declared.making.Within.{Within}

abbrev pub nothing_made : Lists
nothing_made = record { expressions = []; statements = []; firsts = [] }

abbrev pub Making : Type 0 → Type 0
Making X = Lists → Lists × X

infixl 10 ◌>>=◌
abbrev pub ◌>>=◌ : {X Y : Type 0} → Making X → (X → Making Y) → Making Y
m >>= f = λ lists. f (m lists).1 (m lists).0

infixl 10 ◌>>◌
abbrev pub ◌>>◌ : {X Y : Type 0} → Making X → Making Y → Making Y
m >> k = m >>= (λ _. k)

abbrev pub pure : {X : Type 0} → X → Making X
pure x = λ lists. (lists, x)

-- the first of some items, where it is given
abbrev pub first_given : {X : Type 0} → List (Option X) → Option X
first_given [] = None
first_given (x ∷ xs) = x

-- ---- expressions

unfoldable pub value_put : Valuation → Making ExprNo
value_put e lists =
    (record lists { expressions = lists.expressions ++ e ∷ [] }, record { 0 = length lists.expressions })

-- ---- statements

abbrev pub action : StatementForm → ℕ → Option StatementNo → Action
action form signs next = record { form = form; signs = signs; next = next }

-- an action that comes next: the answer is what leads to it
unfoldable pub action_put : StatementForm → ℕ → Option StatementNo → Making (Option StatementNo)
action_put form signs next lists = (
  record lists {
    statements = lists.statements ++ action form signs next
        ∷ [];
  },
  Some (record { 0 = length lists.statements }),
)

unfoldable pub reserved : Making StatementNo
reserved lists =
    (record lists { statements = lists.statements ++ no_statement ∷ [] }, record { 0 = length lists.statements })

unfoldable pub put_at : StatementNo → StatementForm → ℕ → Option StatementNo → Making (Option StatementNo)
put_at s form signs next lists =
    (record lists { statements = slice_set lists.statements s.0 (action form signs next) }, Some s)

unfoldable pub first_put : ℕ → Option StatementNo → Making (Unit {0})
first_put scope first lists = (record lists { firsts = record { scope = scope; action = first } ∷ lists.firsts }, tt)

-- the action that is there: a sequence has one statement at least
abbrev pub the_action : Option StatementNo → StatementNo
the_action None = record { 0 = 0 }
the_action (Some s) = s

-- ---- where a statement stands

-- in the body of a subprogram, a task or an entry
abbrev pub in_body_of : ℕ → Option SubprogramNo → Within → Within
in_body_of scope function within =
    record {
      names = within.names;
      scope = scope;
      loops = [];
      construct = None;
      handling = None;
      function = function;
      units = within.units;
    }

abbrev pub in_unit : Option ℕ → Within → Within
in_unit unit within = record within { units = cons_option unit within.units }

abbrev pub in_construct : StatementNo → Within → Within
in_construct s within = record within { construct = Some s }

abbrev pub in_loop : Option ℕ → StatementNo → Within → Within
in_loop label s within = record within { loops = record { label = label; statement = s } ∷ within.loops }

abbrev pub in_scope : ℕ → Within → Within
in_scope scope within = record within { scope = scope }

abbrev pub in_handler : Within → Within
in_handler within = record within { handling = Some within.scope }
