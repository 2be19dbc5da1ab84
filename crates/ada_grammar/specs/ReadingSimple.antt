-- Reading statements without others in them (clauses 3, 5, 6, 9, 11), where so many levels are left inside the
-- statement.
use Rattle.std.specs.Prelude.{ℕ, Bool, true, false, List, [], ◌∷◌, Option, Some, None, codes}
use Rattle.ada_tree.specs.declared.names.Identifier.{Identifier}
use Rattle.ada_tree.specs.declared.names.Name.{Name}
use Rattle.ada_tree.specs.declared.expressions.Expression.{Expression}
use Rattle.ada_tree.specs.declared.expressions.Argument.{Argument}
use Rattle.ada_tree.specs.declared.declarations.SubtypeIndication.{SubtypeIndication}
use Rattle.ada_tree.specs.declared.declarations.Constraint.{Constraint}
use Rattle.ada_tree.specs.declared.declarations.Parameter.{Parameter}
use Rattle.ada_tree.specs.declared.declarations.Constraint.TheVariants as constraints
use Rattle.ada_tree.specs.declared.statements.Statement.{Statement}
use Rattle.ada_tree.specs.declared.statements.Call.{Call}
use Rattle.ada_tree.specs.declared.statements.Delay.{Delay}
use Rattle.ada_tree.specs.declared.statements.Choice.{Choice}
use Rattle.ada_tree.specs.declared.statements.Label.{Label}
use Rattle.ada_tree.specs.declared.statements.Iteration.{Iteration}
use Rattle.ada_tree.specs.declared.statements.HandledExceptions.{HandledExceptions}
use Rattle.ada_tree.specs.declared.statements.Statement.TheVariants as statements
use Rattle.ada_tree.specs.declared.statements.Choice.TheVariants as choices
use Rattle.ada_tree.specs.declared.statements.Iteration.TheVariants as iterations
use Rattle.ada_tree.specs.declared.statements.HandledExceptions.TheVariants as exceptions
use Rattle.ada_grammar.specs.Reading.{Parser, ◌>>=◌, ◌>>◌, pure, nothing, choose, sees_word}
use Rattle.ada_grammar.specs.Reading.{sees_delimiter, sees_identifier, the_word, the_delimiter}
use Rattle.ada_grammar.specs.Reading.{an_identifier, flag_of, end_name_of, opening_of, below, items_of}
use Rattle.ada_grammar.specs.Reading.{behind_delimiter_of, identifiers_of, name_of, names_of}
use Rattle.ada_grammar.specs.ReadingExpressions.{expression_of, inner_of, arguments_of}

-- ---- subtype indications and parameters (3.2.2, 6.1)

-- "(" name "'" "Access" ")"
unfoldable pub access_of : ℕ → Parser (Option Constraint)
access_of left = do
  opening_of left
  name ← name_of
  the_delimiter (codes "'")
  the_word (codes "access")
  the_delimiter (codes ")")
  pure (Some (constraints.Access name))

-- LOW ".." HIGH
unfoldable pub bounds_of : ℕ → Parser (Expression × Expression)
bounds_of left = do
  low ← expression_of left
  the_delimiter (codes "..")
  high ← expression_of left
  pure (low, high)

unfoldable pub range_of : ℕ → Parser (Option Constraint)
range_of left = do
  the_word (codes "range")
  bounds ← bounds_of left
  pure (Some (constraints.Range bounds.0 bounds.1))

unfoldable pub constraint_of : ℕ → Parser (Option Constraint)
constraint_of left =
    choose (sees_delimiter (codes "(")) (access_of left)
    (choose (sees_word (codes "range")) (range_of left) (pure None))

unfoldable pub subtype_indication_of : ℕ → Parser SubtypeIndication
subtype_indication_of left = do
  name ← name_of
  constraint ← constraint_of left
  pure (record { name = name; constraint = constraint })

-- NAME {"," NAME} ":" ["in"] ["out"] subtype
unfoldable pub parameter_of : ℕ → Parser Parameter
parameter_of left = do
  names ← identifiers_of
  the_delimiter (codes ":")
  is_in ← flag_of (codes "in")
  is_out ← flag_of (codes "out")
  subtype ← subtype_indication_of left
  pure (record { names = names; is_in = is_in; is_out = is_out; subtype = subtype })

-- "(" parameter {";" parameter} ")"
unfoldable pub given_parameters_of : ℕ → Parser (List Parameter)
given_parameters_of left = do
  opening_of left
  first ← parameter_of (below left)
  others ← items_of (sees_delimiter (codes ";")) (behind_delimiter_of (codes ";") (parameter_of (below left)))
  the_delimiter (codes ")")
  pure (first ∷ others)

unfoldable pub parameters_of : ℕ → Parser (List Parameter)
parameters_of left = choose (sees_delimiter (codes "(")) (given_parameters_of left) (pure [])

-- ---- statements without others in them

-- the arguments of a call, or the index of an element
abbrev pub all_arguments_of : ℕ → Parser (List (Argument Expression))
all_arguments_of left = arguments_of left (inner_of left)

-- an element has one index, without a name
abbrev pub only_index_of : Option Identifier → Expression → Parser (Option Expression)
only_index_of None value = pure (Some value)
only_index_of (Some formal) value = nothing

abbrev pub index_of : List (Argument Expression) → Parser (Option Expression)
index_of [] = pure None
index_of (a ∷ []) = only_index_of a.formal a.value
index_of (a ∷ b ∷ more) = nothing

-- name ["(" expression ")"] ":=" expression ";" (5.2), from ":=" on
unfoldable pub assignment_behind_of : {Q : Type 0} → ℕ → Name → List (Argument Expression) → Parser (Statement Q)
assignment_behind_of left target arguments = do
  index ← index_of arguments
  the_delimiter (codes ":=")
  value ← expression_of left
  the_delimiter (codes ";")
  pure (statements.Assignment (record { target = target; index = index; value = value }))

unfoldable pub call_behind_of : {Q : Type 0} → Name → List (Argument Expression) → Parser (Statement Q)
call_behind_of name arguments = do
  the_delimiter (codes ";")
  pure (statements.Call (record { name = name; arguments = arguments }))

unfoldable pub simple_of : {Q : Type 0} → ℕ → Parser (Statement Q)
simple_of left = do
  name ← name_of
  arguments ← all_arguments_of left
  choose (sees_delimiter (codes ":=")) (assignment_behind_of left name arguments) (call_behind_of name arguments)

-- name ["(" argument {"," argument} ")"] ";" (6.4, 9.5.3)
unfoldable pub call_of : ℕ → Parser Call
call_of left = do
  name ← name_of
  arguments ← all_arguments_of left
  the_delimiter (codes ";")
  pure (record { name = name; arguments = arguments })

-- "delay" ["until"] expression ";" (9.6)
unfoldable pub delay_of : ℕ → Parser Delay
delay_of left = do
  place ← the_word (codes "delay")
  until ← flag_of (codes "until")
  value ← expression_of left
  the_delimiter (codes ";")
  pure (record { place = place; until = until; value = value })

-- expression [".." expression] | "others"
unfoldable pub value_choice_of : ℕ → Parser Choice
value_choice_of left = do
  low ← expression_of left
  choose (sees_delimiter (codes ".."))
      (do the_delimiter (codes ".."); high ← expression_of left; pure (choices.Range low high))
      (pure (choices.Value low))

unfoldable pub choice_of : ℕ → Parser Choice
choice_of left =
    choose (sees_word (codes "others")) (the_word (codes "others")
    >>= λ place. pure (choices.Others place)) (value_choice_of left)

-- ["while" expression | "for" NAME "in" ["reverse"] expression ".." expression] (5.5)
unfoldable pub while_of : ℕ → Parser Iteration
while_of left = do
  place ← the_word (codes "while")
  condition ← expression_of left
  pure (iterations.While place condition)

unfoldable pub for_of : ℕ → Parser Iteration
for_of left = do
  place ← the_word (codes "for")
  parameter ← an_identifier
  the_word (codes "in")
  reverse ← flag_of (codes "reverse")
  bounds ← bounds_of left
  pure (iterations.For place parameter reverse bounds.0 bounds.1)

unfoldable pub iteration_of : ℕ → Parser Iteration
iteration_of left =
    choose (sees_word (codes "while")) (while_of left)
    (choose (sees_word (codes "for")) (for_of left) (pure iterations.Forever))

-- the name of a loop or a block behind its end, where it has one
abbrev pub label_end_of : Option Identifier → Parser (Option Label)
label_end_of None = pure None
label_end_of (Some name) = end_name_of name.text >>= λ named. pure (Some (record { name = name; named_at_end = named }))

-- "exit" [NAME] ["when" expression] ";" (5.7)
unfoldable pub loop_name_of : Parser (Option Identifier)
loop_name_of = choose sees_identifier (an_identifier >>= λ name. pure (Some name)) (pure None)

unfoldable pub when_of : ℕ → Parser (Option Expression)
when_of left =
    choose (sees_word (codes "when"))
    (do the_word (codes "when"); condition ← expression_of left; pure (Some condition)) (pure None)

unfoldable pub exit_of : {Q : Type 0} → ℕ → Parser (Statement Q)
exit_of left = do
  place ← the_word (codes "exit")
  loop_name ← loop_name_of
  condition ← when_of left
  the_delimiter (codes ";")
  pure (statements.Exit (record { place = place; loop_name = loop_name; condition = condition }))

unfoldable pub null_of : {Q : Type 0} → Parser (Statement Q)
null_of = do
  place ← the_word (codes "null")
  the_delimiter (codes ";")
  pure (statements.Null place)

-- "return" [expression] ";" (6.5)
unfoldable pub result_value_of : ℕ → Parser (Option Expression)
result_value_of left =
    choose (sees_delimiter (codes ";")) (pure None) (expression_of left >>= λ value. pure (Some value))

unfoldable pub return_of : {Q : Type 0} → ℕ → Parser (Statement Q)
return_of left = do
  place ← the_word (codes "return")
  value ← result_value_of left
  the_delimiter (codes ";")
  pure (statements.Return place value)

-- "raise" [name] ";" (11.3)
unfoldable pub exception_name_of : Parser (Option Name)
exception_name_of = choose sees_identifier (name_of >>= λ name. pure (Some name)) (pure None)

unfoldable pub raise_of : {Q : Type 0} → Parser (Statement Q)
raise_of = do
  place ← the_word (codes "raise")
  exception ← exception_name_of
  the_delimiter (codes ";")
  pure (statements.Raise place exception)

-- "abort" name {"," name} ";" (9.8)
unfoldable pub abort_of : {Q : Type 0} → Parser (Statement Q)
abort_of = do
  place ← the_word (codes "abort")
  tasks ← names_of (codes ",")
  the_delimiter (codes ";")
  pure (statements.Abort place tasks)

-- "requeue" name ["with" "abort"] ";" (9.5.4)
unfoldable pub with_abort_of : Parser Bool
with_abort_of =
    choose (sees_word (codes "with")) (do the_word (codes "with"); the_word (codes "abort"); pure true) (pure false)

unfoldable pub requeue_of : {Q : Type 0} → Parser (Statement Q)
requeue_of = do
  place ← the_word (codes "requeue")
  entry ← name_of
  with_abort ← with_abort_of
  the_delimiter (codes ";")
  pure (statements.Requeue place entry with_abort)

-- name {"|" name} | "others" (11.2)
unfoldable pub exceptions_of : Parser HandledExceptions
exceptions_of =
    choose (sees_word (codes "others")) (the_word (codes "others") >>= λ place. pure (exceptions.Others place))
    (names_of (codes "|") >>= λ names. pure (exceptions.Named names))
