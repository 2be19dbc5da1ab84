-- Reading the statements that hold others (clauses 5, 9.5 to 9.7, 11), where so many levels are left inside the
-- statement.
use Rattle.std.specs.Prelude.{ℕ, zero, suc, Bool, true, false, ◌||◌, List, Option, Some, None, codes}
use Rattle.ann_base.specs.declared.places.Place.{Place}
use Rattle.ada_tree.specs.declared.names.Identifier.{Identifier}
use Rattle.ada_tree.specs.declared.names.OneOrMore.{OneOrMore}
use Rattle.ada_tree.specs.declared.statements.Statement.{Statement}
use Rattle.ada_tree.specs.declared.statements.Elsif.{Elsif}
use Rattle.ada_tree.specs.declared.statements.CaseAlternative.{CaseAlternative}
use Rattle.ada_tree.specs.declared.statements.Accept.{Accept}
use Rattle.ada_tree.specs.declared.statements.AcceptBody.{AcceptBody}
use Rattle.ada_tree.specs.declared.statements.Call.{Call}
use Rattle.ada_tree.specs.declared.statements.Delay.{Delay}
use Rattle.ada_tree.specs.declared.statements.SequenceRole.{SequenceRole}
use Rattle.ada_tree.specs.declared.statements.Statement.TheVariants as statements
use Rattle.ada_tree.specs.declared.statements.SequenceRole.TheVariants as role
use Rattle.ada_tree.specs.declared.selects.SelectForm.{SelectForm}
use Rattle.ada_tree.specs.declared.selects.SelectAlternative.{SelectAlternative}
use Rattle.ada_tree.specs.declared.selects.Guard.{Guard}
use Rattle.ada_tree.specs.declared.selects.Alternative.{Alternative}
use Rattle.ada_tree.specs.declared.selects.Trigger.{Trigger}
use Rattle.ada_tree.specs.declared.selects.SelectForm.TheVariants as select
use Rattle.ada_tree.specs.declared.selects.Alternative.TheVariants as alternative
use Rattle.ada_tree.specs.declared.selects.Trigger.TheVariants as trigger
use Rattle.ada_tree.specs.Written.{Lexeme}
use Rattle.ada_grammar.specs.Reading.{Parser, ◌>>=◌, ◌>>◌, pure, nothing, too_deep, choose, is_identifier}
use Rattle.ada_grammar.specs.Reading.{is_this_delimiter, starts_both, sees_word, sees_identifier, the_word}
use Rattle.ada_grammar.specs.Reading.{the_delimiter, an_identifier, end_name_of, items_of, separated_of}
use Rattle.ada_grammar.specs.ReadingExpressions.{expression_of}
use Rattle.ada_grammar.specs.ReadingSimple.{parameters_of, simple_of, call_of, delay_of, choice_of, iteration_of}
use Rattle.ada_grammar.specs.ReadingSimple.{label_end_of, exit_of, null_of, return_of, raise_of, abort_of, requeue_of}

-- ---- what begins a statement

abbrev pub begins_loop : List Lexeme → Bool
begins_loop ls = sees_word (codes "loop") ls || (sees_word (codes "while") ls || sees_word (codes "for") ls)

abbrev pub begins_block : List Lexeme → Bool
begins_block ls = sees_word (codes "declare") ls || sees_word (codes "begin") ls

abbrev pub begins_compound : List Lexeme → Bool
begins_compound ls =
    sees_word (codes "if") ls || (sees_word (codes "case") ls
    || (begins_loop ls || (begins_block ls || (sees_word (codes "accept") ls || sees_word (codes "select") ls))))

abbrev pub begins_simple : List Lexeme → Bool
begins_simple ls =
    sees_word (codes "null") ls || (sees_word (codes "delay") ls
    || (sees_word (codes "exit") ls || (sees_word (codes "return") ls
    || (sees_word (codes "raise") ls || (sees_word (codes "abort") ls
    || (sees_word (codes "requeue") ls || sees_identifier ls))))))

unfoldable pub begins_statement : List Lexeme → Bool
begins_statement ls = begins_compound ls || begins_simple ls

-- NAME ":"
abbrev pub sees_label : List Lexeme → Bool
sees_label ls = starts_both is_identifier (is_this_delimiter (codes ":")) ls

-- a statement inside a select takes a level of its own
abbrev pub opened : {A : Type 0} → (List Lexeme → Bool) → (ℕ → Parser A) → ℕ → Parser A
opened begins p zero = choose begins too_deep nothing
opened begins p (suc left) = p left

unfoldable pub call_opened_of : ℕ → Parser Call
call_opened_of left = opened sees_identifier call_of left

unfoldable pub delay_opened_of : ℕ → Parser Delay
delay_opened_of left = opened (sees_word (codes "delay")) delay_of left

-- ---- sequences at this level, and accept statements one level further in, are given

module _ {Q : Type 0} (left : ℕ) (sequence : SequenceRole → Parser Q) where
  -- "elsif" expression "then" statements (5.3)
  unfoldable pub elsif_of : Parser (Elsif Q)
  elsif_of = do
    place ← the_word (codes "elsif")
    condition ← expression_of left
    the_word (codes "then")
    inside ← sequence role.Statements
    pure (record { place = place; condition = condition; statements = inside })

  -- ["else" statements]
  unfoldable pub else_of : Parser (Option Q)
  else_of =
      choose (sees_word (codes "else"))
      (do the_word (codes "else"); inside ← sequence role.Statements; pure (Some inside)) (pure None)

  -- "if" expression "then" statements {elsif} ["else" statements] "end" "if" ";" (5.3)
  unfoldable pub if_of : Parser (Statement Q)
  if_of = do
    place ← the_word (codes "if")
    condition ← expression_of left
    the_word (codes "then")
    inside ← sequence role.Statements
    elsifs ← items_of (sees_word (codes "elsif")) elsif_of
    otherwise ← else_of
    the_word (codes "end")
    the_word (codes "if")
    the_delimiter (codes ";")
    pure (statements.If (record {
      place = place;
      condition = condition;
      statements = inside;
      elsifs = elsifs;
      otherwise = otherwise;
    }))

  -- "when" choice {"|" choice} "=>" statements (5.4)
  unfoldable pub case_alternative_of : Parser (CaseAlternative Q)
  case_alternative_of = do
    place ← the_word (codes "when")
    choices ← separated_of (codes "|") (choice_of left)
    the_delimiter (codes "=>")
    inside ← sequence role.Statements
    pure (record { place = place; choices = choices; statements = inside })

  unfoldable pub case_alternatives_of : Parser (OneOrMore (CaseAlternative Q))
  case_alternatives_of = do
    first ← case_alternative_of
    others ← items_of (sees_word (codes "when")) case_alternative_of
    pure (record { first = first; others = others })

  -- "case" expression "is" alternative {alternative} "end" "case" ";" (5.4)
  unfoldable pub case_of : Parser (Statement Q)
  case_of = do
    place ← the_word (codes "case")
    selector ← expression_of left
    the_word (codes "is")
    alternatives ← case_alternatives_of
    the_word (codes "end")
    the_word (codes "case")
    the_delimiter (codes ";")
    pure (statements.Case (record { place = place; selector = selector; alternatives = alternatives }))

  -- [iteration] "loop" statements "end" "loop" [NAME] ";" (5.5)
  unfoldable pub loop_of : Option Identifier → Parser (Statement Q)
  loop_of name = do
    iteration ← iteration_of left
    place ← the_word (codes "loop")
    inside ← sequence role.Statements
    the_word (codes "end")
    the_word (codes "loop")
    label ← label_end_of name
    the_delimiter (codes ";")
    pure (statements.Loop (record { label = label; iteration = iteration; place = place; statements = inside }))

  -- ["declare" {declaration}] "begin" handled sequence "end" [NAME] ";" (5.6)
  unfoldable pub block_end_of : Option Identifier → Place → Bool → Q → Parser (Statement Q)
  block_end_of name place declare inside = do
    the_word (codes "end")
    label ← label_end_of name
    the_delimiter (codes ";")
    pure (statements.Block (record { label = label; place = place; declare = declare; sequence = inside }))

  unfoldable pub declare_of : Option Identifier → Parser (Statement Q)
  declare_of name = do
    place ← the_word (codes "declare")
    inside ← sequence role.Body
    block_end_of name place true inside

  unfoldable pub begin_of : Option Identifier → Parser (Statement Q)
  begin_of name = do
    place ← the_word (codes "begin")
    inside ← sequence role.Handled
    block_end_of name place false inside

  unfoldable pub block_of : Option Identifier → Parser (Statement Q)
  block_of name = choose (sees_word (codes "declare")) (declare_of name) (begin_of name)

  -- NAME ":" (loop | block)
  unfoldable pub labelled_of : Parser (Statement Q)
  labelled_of = do
    name ← an_identifier
    the_delimiter (codes ":")
    choose begins_block (block_of (Some name)) (loop_of (Some name))

  -- ["do" handled sequence "end" [NAME]] (9.5.2)
  unfoldable pub accept_body_of : List ℕ → Parser (Option (AcceptBody Q))
  accept_body_of name =
      choose (sees_word (codes "do"))
      (do the_word (codes "do"); inside ← sequence role.Handled; the_word (codes "end"); named ← end_name_of name; pure (Some (record { sequence = inside; named_at_end = named })))
      (pure None)

  -- "accept" NAME [parameters] ["do" handled sequence "end" [NAME]] ";" (9.5.2)
  unfoldable pub accept_of : Parser (Accept Q)
  accept_of = do
    place ← the_word (codes "accept")
    entry ← an_identifier
    parameters ← parameters_of left
    body ← accept_body_of entry.text
    the_delimiter (codes ";")
    pure (record { place = place; entry = entry; parameters = parameters; body = body })

  -- statements where some stand there
  unfoldable pub optional_statements_of : Parser (Option Q)
  optional_statements_of =
      choose begins_statement (sequence role.Statements >>= λ inside. pure (Some inside)) (pure None)

-- an accept statement in a select, given the sequences inside it
abbrev pub accept_opened_of : {Q : Type 0} → ℕ → (SequenceRole → Parser Q) → Parser (Accept Q)
accept_opened_of zero deeper = choose (sees_word (codes "accept")) too_deep nothing
accept_opened_of (suc left) deeper = accept_of left deeper

-- ---- select statements (9.7)

module _ {Q : Type 0} (left : ℕ) (sequence : SequenceRole → Parser Q) (deeper : SequenceRole → Parser Q) where
  unfoldable pub accept_alternative_of : Parser (Alternative Q)
  accept_alternative_of = do
    accept ← accept_opened_of left deeper
    inside ← optional_statements_of left sequence
    pure (alternative.Accept accept inside)

  unfoldable pub delay_alternative_of : Parser (Alternative Q)
  delay_alternative_of = do
    delay ← delay_opened_of left
    inside ← optional_statements_of left sequence
    pure (alternative.Delay delay inside)

  unfoldable pub terminate_of : Parser (Alternative Q)
  terminate_of = do
    place ← the_word (codes "terminate")
    the_delimiter (codes ";")
    pure (alternative.Terminate place)

  unfoldable pub alternative_of : Parser (Alternative Q)
  alternative_of =
      choose (sees_word (codes "accept")) accept_alternative_of
      (choose (sees_word (codes "delay")) delay_alternative_of terminate_of)

  -- ["when" expression "=>"]
  unfoldable pub guard_of : Parser (Option Guard)
  guard_of =
      choose (sees_word (codes "when"))
      (do place ← the_word (codes "when"); condition ← expression_of left; the_delimiter (codes "=>"); pure (Some (record { place = place; condition = condition })))
      (pure None)

  unfoldable pub select_alternative_of : Parser (SelectAlternative Q)
  select_alternative_of = do
    guard ← guard_of
    alternative ← alternative_of
    pure (record { guard = guard; alternative = alternative })

  unfoldable pub next_alternative_of : Parser (SelectAlternative Q)
  next_alternative_of = the_word (codes "or") >> select_alternative_of

  -- {"or" alternative} ["else" statements], behind the first alternative (9.7.1)
  unfoldable pub selective_of : SelectAlternative Q → Parser (SelectForm Q)
  selective_of first = do
    others ← items_of (sees_word (codes "or")) next_alternative_of
    otherwise ← else_of left sequence
    pure (select.SelectiveAccept (record {
      alternatives = record { first = first; others = others };
      otherwise = otherwise;
    }))

  -- "then" "abort" statements, behind the triggering statement and those behind it (9.7.4)
  unfoldable pub asynchronous_of : Trigger → Option Q → Parser (SelectForm Q)
  asynchronous_of triggering inside = do
    the_word (codes "then")
    the_word (codes "abort")
    abortable ← sequence role.Statements
    pure (select.AsynchronousSelect (record { trigger = triggering; statements = inside; abortable = abortable }))

  -- "or" delay [statements] (9.7.2)
  unfoldable pub timed_of : Call → Option Q → Parser (SelectForm Q)
  timed_of call inside = do
    the_word (codes "or")
    delay ← delay_opened_of left
    behind ← optional_statements_of left sequence
    pure (select.TimedEntryCall (record { call = call; statements = inside; delay = delay; delay_statements = behind }))

  -- "else" statements (9.7.3)
  unfoldable pub conditional_of : Call → Option Q → Parser (SelectForm Q)
  conditional_of call inside = do
    the_word (codes "else")
    otherwise ← sequence role.Statements
    pure (select.ConditionalEntryCall (record { call = call; statements = inside; otherwise = otherwise }))

  unfoldable pub behind_call_of : Call → Option Q → Parser (SelectForm Q)
  behind_call_of call inside =
      choose (sees_word (codes "or")) (timed_of call inside)
      (choose (sees_word (codes "else")) (conditional_of call inside)
      (asynchronous_of (trigger.Call call) inside))

  unfoldable pub call_select_of : Parser (SelectForm Q)
  call_select_of = do
    call ← call_opened_of left
    inside ← optional_statements_of left sequence
    behind_call_of call inside

  unfoldable pub delay_select_of : Parser (SelectForm Q)
  delay_select_of = do
    delay ← delay_opened_of left
    inside ← optional_statements_of left sequence
    choose (sees_word (codes "then")) (asynchronous_of (trigger.Delay delay) inside)
        (selective_of (record { guard = None; alternative = alternative.Delay delay inside }))

  unfoldable pub select_form_of : Parser (SelectForm Q)
  select_form_of =
      choose sees_identifier call_select_of (choose (sees_word (codes "delay")) delay_select_of
      (select_alternative_of >>= λ first. selective_of first))

  -- "select" form "end" "select" ";"
  unfoldable pub select_of : Parser (Statement Q)
  select_of = do
    place ← the_word (codes "select")
    form ← select_form_of
    the_word (codes "end")
    the_word (codes "select")
    the_delimiter (codes ";")
    pure (statements.Select (record { place = place; form = form }))

  -- ---- all statements (5.1)

  unfoldable pub compound_of : Parser (Statement Q)
  compound_of =
      choose (sees_word (codes "if")) (if_of left sequence)
      (choose (sees_word (codes "case")) (case_of left sequence)
      (choose begins_loop (loop_of left sequence None)
      (choose begins_block (block_of left sequence None)
      (choose (sees_word (codes "accept")) (accept_of left sequence >>= λ accept. pure (statements.Accept accept))
      select_of))))

  unfoldable pub named_statement_of : Parser (Statement Q)
  named_statement_of = choose sees_label (labelled_of left sequence) (simple_of left)

  unfoldable pub simple_statement_of : Parser (Statement Q)
  simple_statement_of =
      choose (sees_word (codes "null")) null_of
      (choose (sees_word (codes "delay")) (delay_of left >>= λ delay. pure (statements.Delay delay))
      (choose (sees_word (codes "exit")) (exit_of left)
      (choose (sees_word (codes "return")) (return_of left)
      (choose (sees_word (codes "raise")) raise_of
      (choose (sees_word (codes "abort")) abort_of
      (choose (sees_word (codes "requeue")) requeue_of
      named_statement_of))))))

  unfoldable pub statement_inside_of : Parser (Statement Q)
  statement_inside_of = choose begins_compound compound_of simple_statement_of
