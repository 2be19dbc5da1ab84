-- What is made of statements with others in them keeps the order of operands.
use Rattle.std.proofs.Common.{ℕ, ◌+◌, Bool, false, List, [], ◌∷◌, map, Option, Some, None, option_map}
use Rattle.ann_base.specs.declared.places.Place.{Place}
use Rattle.ada_tree.specs.declared.expressions.Expression.{Expression}
use Rattle.ada_tree.specs.declared.statements.Sequence.{Sequence}
use Rattle.ada_tree.specs.declared.statements.Statement.{Statement}
use Rattle.ada_tree.specs.declared.statements.Statement.TheVariants as statement
use Rattle.ada_tree.specs.declared.statements.Call.{Call}
use Rattle.ada_tree.specs.declared.statements.Delay.{Delay}
use Rattle.ada_tree.specs.declared.statements.If.{If}
use Rattle.ada_tree.specs.declared.statements.Elsif.{Elsif}
use Rattle.ada_tree.specs.declared.statements.Case.{Case}
use Rattle.ada_tree.specs.declared.statements.CaseAlternative.{CaseAlternative}
use Rattle.ada_tree.specs.declared.statements.Loop.{Loop}
use Rattle.ada_tree.specs.declared.statements.Iteration.{Iteration}
use Rattle.ada_tree.specs.declared.statements.Iteration.TheVariants as iteration
use Rattle.ada_tree.specs.declared.statements.Block.{Block}
use Rattle.ada_tree.specs.declared.statements.Handler.{Handler}
use Rattle.ada_tree.specs.declared.statements.Accept.{Accept}
use Rattle.ada_tree.specs.declared.statements.AcceptBody.{AcceptBody}
use Rattle.ada_tree.specs.declared.selects.SelectForm.{SelectForm}
use Rattle.ada_tree.specs.declared.selects.SelectForm.TheVariants as select
use Rattle.ada_tree.specs.declared.selects.SelectiveAccept.{SelectiveAccept}
use Rattle.ada_tree.specs.declared.selects.SelectAlternative.{SelectAlternative}
use Rattle.ada_tree.specs.declared.selects.Alternative.{Alternative}
use Rattle.ada_tree.specs.declared.selects.Alternative.TheVariants as alternative
use Rattle.ada_tree.specs.declared.selects.TimedEntryCall.{TimedEntryCall}
use Rattle.ada_tree.specs.declared.selects.ConditionalEntryCall.{ConditionalEntryCall}
use Rattle.ada_tree.specs.declared.selects.AsynchronousSelect.{AsynchronousSelect}
use Rattle.ada_tree.specs.declared.selects.Trigger.{Trigger}
use Rattle.ada_tree.specs.declared.selects.Trigger.TheVariants as trigger
use Rattle.profile_image.specs.declared.numbers.DeclNo.{DeclNo}
use Rattle.profile_image.specs.declared.numbers.StatementNo.{StatementNo}
use Rattle.profile_image.specs.declared.statements.SelectKind.TheVariants as select_kind
use Rattle.profile_image.specs.declared.statements.StatementForm.TheVariants as action
use Rattle.ada_image.specs.declared.making.Within.{Within}
use Rattle.ada_image.specs.declared.making.SequencePlace.{SequencePlace}
use Rattle.ada_image.specs.declared.making.SequencePlace.TheVariants as sequence_place
use Rattle.ada_image.specs.Making.{Making, ◌>>=◌, ◌>>◌, pure, action_put, reserved, put_at, first_put, the_action, in_loop, in_construct, in_scope, in_handler}
use Rattle.ada_image.specs.Layout.{scope_no}
use Rattle.ada_image.specs.ImageOfExpressions.{expression_made, signs_in, optional_value}
use Rattle.ada_image.specs.CallStatements.{call_statement_put}
use Rattle.ada_image.specs.ImageOfStatements.{SequenceMaking, scope_at, choices_made, handled_made, entry_at, delay_put, guard_of, inside}
use Rattle.ada_image.specs.ImageOfStatements.{inside_if, branch_put, elsifs_put, if_put, alternatives_put, case_put, label_of, loop_body}
use Rattle.ada_image.specs.ImageOfStatements.{forever_put, while_put, parameter_of, for_put, iteration_put, loop_put, block_put, handlers_put}
use Rattle.ada_image.specs.ImageOfStatements.{accept_body_put, accept_put, alternative_put, select_alternative_put, select_alternatives_put}
use Rattle.ada_image.specs.ImageOfStatements.{else_put, selective_accept_put, call_before, delay_before, timed_call_put, conditional_call_put}
use Rattle.ada_image.specs.ImageOfStatements.{trigger_put, asynchronous_put, select_put, statement_put, statements_put}
use Rattle.ada_image.specs.ImageOfDeclarations.{same_making, sequence_put}
use Rattle.image_laws.proofs.Images.Layers.{elsif_of, case_of, handler_of, mapped_statement, mapped_alternative}
use Rattle.image_laws.proofs.Images.Constructs.{loop_of, block_of, accept_body_of, accept_with}
use Rattle.operand_laws.proofs.Rising.{Keeps, keeps-then, action-keeps, reserved-keeps, put-keeps, first-keeps}
use Rattle.operand_laws.proofs.Simple.{expression-keeps, condition-keeps, call-statement-keeps, assignment-keeps}
use Rattle.operand_laws.proofs.Simple.{delay-keeps, return-keeps, raise-keeps, exit-keeps, abort-keeps, requeue-keeps}

-- what is said of a sequence
abbrev pub KeepsAll : SequenceMaking → Type 0
KeepsAll make = (place : SequencePlace) (within : Within) (next : Option StatementNo) → Keeps (make place within next)

-- one layer, whose sequences are those that g gives
module _ {E : Type 0} (g : E → Sequence) (law : (e : E) → KeepsAll (sequence_put (g e))) where
  abbrev m : E → SequenceMaking
  m e = sequence_put (g e)

  inside-keeps : (e : E) (within : Within) (next : Option StatementNo) → Keeps (inside same_making (m e) within next)
  unfolding inside
  inside-keeps e within next = law e sequence_place.StatementsAlone within next

  inside_if-keeps : (x : Option E) (within : Within) (next : Option StatementNo) → Keeps (inside_if same_making (option_map m x) within next)
  unfolding inside_if
  inside_if-keeps None within next = λ l h. h
  inside_if-keeps (Some e) within next = inside-keeps e within next

  -- ---- if and case

  branch-keeps : (c : Expression) (e : E) (otherwise next : Option StatementNo) (within : Within) → Keeps (branch_put same_making within c (m e) otherwise next)
  unfolding branch_put
  branch-keeps c e otherwise next within =
      keeps-then (inside same_making (m e) within next)
      (λ first. expression_made c within >>= (λ v. action_put (action.If v (the_action first) otherwise) (signs_in within c) next))
      (inside-keeps e within next)
      (λ first. keeps-then (expression_made c within) (λ v. action_put (action.If v (the_action first) otherwise) (signs_in within c) next)
      (expression-keeps c within) (λ v. action-keeps _ _ next))

  abbrev elsifs_made : List (Elsif E) → List (Elsif SequenceMaking)
  elsifs_made es = map (elsif_of sequence_put) (map (elsif_of g) es)

  elsifs-keep : (es : List (Elsif E)) (otherwise next : Option StatementNo) (within : Within)
      → Keeps (elsifs_put same_making within (elsifs_made es) otherwise next)
  unfolding elsifs_put
  elsifs-keep [] otherwise next within = λ l h. h
  elsifs-keep (e ∷ es) otherwise next within =
      keeps-then (elsifs_put same_making within (elsifs_made es) otherwise next)
      (λ later. branch_put same_making within e.condition (m e.statements) later next)
      (elsifs-keep es otherwise next within) (λ later. branch-keeps e.condition e.statements later next within)

  if-keeps : (c : Expression) (e : E) (es : List (Elsif E)) (x : Option E) (next : Option StatementNo) (within : Within)
      → Keeps (inside_if same_making (option_map m x) within next
      >>= (λ otherwise. elsifs_put same_making within (elsifs_made es) otherwise next >>= (λ later. branch_put same_making within c (m e) later next)))
  if-keeps c e es x next within =
      keeps-then (inside_if same_making (option_map m x) within next)
      (λ otherwise. elsifs_put same_making within (elsifs_made es) otherwise next >>= (λ later. branch_put same_making within c (m e) later next))
      (inside_if-keeps x within next)
      (λ otherwise. keeps-then (elsifs_put same_making within (elsifs_made es) otherwise next) (λ later. branch_put same_making within c (m e) later next)
      (elsifs-keep es otherwise next within) (λ later. branch-keeps c e later next within))

  cases-keep : (xs : List (CaseAlternative E)) (next : Option StatementNo) (within : Within)
      → Keeps (alternatives_put same_making within (map (case_of sequence_put) (map (case_of g) xs)) next)
  unfolding alternatives_put
  cases-keep [] next within = λ l h. h
  cases-keep (a ∷ rest) next within =
      keeps-then (inside same_making (m a.statements) within next)
      (λ first. alternatives_put same_making within (map (case_of sequence_put) (map (case_of g) rest)) next
      >>= (λ others. pure (record { choices = choices_made within a.choices; first = the_action first } ∷ others)))
      (inside-keeps a.statements within next)
      (λ first. keeps-then (alternatives_put same_making within (map (case_of sequence_put) (map (case_of g) rest)) next)
      (λ others. pure (record { choices = choices_made within a.choices; first = the_action first } ∷ others))
      (cases-keep rest next within) (λ others l h. h))

  pub handlers-keep : (hs : List (Handler E)) (next : Option StatementNo) (within : Within)
      → Keeps (handlers_put same_making within (map (handler_of sequence_put) (map (handler_of g) hs)) next)
  unfolding handlers_put
  handlers-keep [] next within = λ l h. h
  handlers-keep (h ∷ hs) next within =
      keeps-then (inside same_making (m h.statements) (in_handler within) next)
      (λ first. handlers_put same_making within (map (handler_of sequence_put) (map (handler_of g) hs)) next
      >>= (λ others. pure (record { choices = handled_made within h.exceptions; first = the_action first } ∷ others)))
      (inside-keeps h.statements (in_handler within) next)
      (λ first. keeps-then (handlers_put same_making within (map (handler_of sequence_put) (map (handler_of g) hs)) next)
      (λ others. pure (record { choices = handled_made within h.exceptions; first = the_action first } ∷ others))
      (handlers-keep hs next within) (λ others l h. h))

  -- ---- loops

  abbrev loop_made : Loop E → Loop SequenceMaking
  loop_made l = loop_of sequence_put (loop_of g l)

  body-keeps : (l : Loop E) (within : Within) (s turn : StatementNo) → Keeps (loop_body same_making within (loop_made l) s turn)
  unfolding loop_body
  body-keeps l within s turn = inside-keeps l.statements (in_loop (label_of within (loop_made l)) s within) (Some turn)

  forever-keeps : (l : Loop E) (next : Option StatementNo) (within : Within) → Keeps (forever_put same_making within (loop_made l) next)
  unfolding forever_put
  forever-keeps l next within =
      keeps-then reserved
      (λ s. loop_body same_making within (loop_made l) s s >>= (λ body. put_at s (action.Loop (the_action body) within.construct) 0 next)) reserved-keeps
      (λ s. keeps-then (loop_body same_making within (loop_made l) s s) (λ body. put_at s (action.Loop (the_action body) within.construct) 0 next)
      (body-keeps l within s s) (λ body. put-keeps s _ 0 next))

  while-keeps : (l : Loop E) (c : Expression) (next : Option StatementNo) (within : Within) → Keeps (while_put same_making within (loop_made l) c next)
  unfolding while_put
  while-keeps l c next within =
      keeps-then reserved
      (λ s. loop_body same_making within (loop_made l) s s
      >>= (λ body. expression_made c within >>= (λ e. put_at s (action.While e (the_action body) within.construct) (signs_in within c) next)))
      reserved-keeps
      (λ s. keeps-then (loop_body same_making within (loop_made l) s s)
      (λ body. expression_made c within >>= (λ e. put_at s (action.While e (the_action body) within.construct) (signs_in within c) next))
      (body-keeps l within s s)
      (λ body. keeps-then (expression_made c within) (λ e. put_at s (action.While e (the_action body) within.construct) (signs_in within c) next)
      (expression-keeps c within) (λ e. put-keeps s _ _ next)))

  module _ (l : Loop E) (d : DeclNo) (reverse : Bool) (low high : Expression) (next : Option StatementNo) (within : Within) where
    abbrev ends_put : StatementNo → StatementNo → Making (Option StatementNo)
    ends_put s first =
        expression_made low within
        >>= (λ a.
        expression_made high within >>= (λ b. put_at s (action.For d reverse a b first within.construct) (signs_in within low + signs_in within high) next))

    abbrev later_put : StatementNo → StatementNo → StatementNo → Option StatementNo → Making (Option StatementNo)
    later_put s first later body = put_at later (action.LaterTurn d reverse (the_action body)) 0 next >> ends_put s first

    abbrev turns_put : StatementNo → StatementNo → StatementNo → Option StatementNo → Making (Option StatementNo)
    turns_put s first later body = put_at first (action.FirstTurn d reverse (the_action body)) 0 next >> later_put s first later body

    abbrev drawn_put : StatementNo → StatementNo → StatementNo → Making (Option StatementNo)
    drawn_put s first later = loop_body same_making within (loop_made l) s later >>= (λ body. turns_put s first later body)

    turns-keep : (s first later : StatementNo) (body : Option StatementNo) → Keeps (turns_put s first later body)
    turns-keep s first later body =
        keeps-then (put_at first (action.FirstTurn d reverse (the_action body)) 0 next) (λ x. later_put s first later body) (put-keeps first _ 0 next)
        (λ x. keeps-then (put_at later (action.LaterTurn d reverse (the_action body)) 0 next) (λ y. ends_put s first) (put-keeps later _ 0 next)
        (λ y. keeps-then (expression_made low within)
        (λ a.
        expression_made high within >>= (λ b. put_at s (action.For d reverse a b first within.construct) (signs_in within low + signs_in within high) next))
        (expression-keeps low within)
        (λ a. keeps-then (expression_made high within)
        (λ b. put_at s (action.For d reverse a b first within.construct) (signs_in within low + signs_in within high) next) (expression-keeps high within)
        (λ b. put-keeps s _ _ next))))

    for-keeps : Keeps (for_put same_making within (loop_made l) d reverse low high next)
    unfolding for_put
    for-keeps =
        keeps-then reserved (λ s. reserved >>= (λ first. reserved >>= (λ later. drawn_put s first later))) reserved-keeps
        (λ s. keeps-then reserved (λ first. reserved >>= (λ later. drawn_put s first later)) reserved-keeps
        (λ first. keeps-then reserved (λ later. drawn_put s first later) reserved-keeps
        (λ later. keeps-then (loop_body same_making within (loop_made l) s later) (λ body. turns_put s first later body) (body-keeps l within s later)
        (λ body. turns-keep s first later body))))

  iteration-keeps : (l : Loop E) (i : Iteration) (next : Option StatementNo) (within : Within) → Keeps (iteration_put same_making within (loop_made l) i next)
  unfolding iteration_put
  iteration-keeps l iteration.Forever next within = forever-keeps l next within
  iteration-keeps l (iteration.While place c) next within = while-keeps l c next within
  iteration-keeps l (iteration.For place i reverse low high) next within = for-keeps l (parameter_of within i) reverse low high next within

  loop-keeps : (l : Loop E) (next : Option StatementNo) (within : Within) → Keeps (loop_put same_making within (loop_made l) next)
  unfolding loop_put
  loop-keeps l next within = iteration-keeps l l.iteration next within

  -- ---- blocks and accepts

  block-keeps : (b : Block E) (next : Option StatementNo) (within : Within) → Keeps (block_put same_making within (block_of sequence_put (block_of g b)) next)
  unfolding block_put
  block-keeps b next within =
      let scope = scope_at within.names b.place in
      keeps-then reserved
      (λ s. m b.sequence (sequence_place.AsBody false) (in_construct s (in_scope scope within)) None
      >>= (λ first. first_put scope first >> put_at s (action.Block (scope_no scope)) 0 next)) reserved-keeps
      (λ s. keeps-then (m b.sequence (sequence_place.AsBody false) (in_construct s (in_scope scope within)) None)
      (λ first. first_put scope first >> put_at s (action.Block (scope_no scope)) 0 next)
      (law b.sequence (sequence_place.AsBody false) (in_construct s (in_scope scope within)) None)
      (λ first.
      keeps-then (first_put scope first) (λ u. put_at s (action.Block (scope_no scope)) 0 next) (first-keeps scope first) (λ u. put-keeps s _ 0 next)))

  accept-body-keeps : (x : Option (AcceptBody E)) (s : StatementNo) (scope : ℕ) (within : Within)
      → Keeps (accept_body_put same_making within s scope (option_map (λ b. accept_body_of sequence_put (accept_body_of g b)) x))
  unfolding accept_body_put
  accept-body-keeps None s scope within = λ l h. h
  accept-body-keeps (Some b) s scope within = law b.sequence (sequence_place.BehindDeclarations None) (in_construct s (in_scope scope within)) None

  accept-keeps : (a : Accept E) (x : Option (AcceptBody E)) (next : Option StatementNo) (within : Within)
      → Keeps (accept_put same_making within (accept_with a (option_map (λ b. accept_body_of sequence_put (accept_body_of g b)) x)) next)
  unfolding accept_put
  accept-keeps a x next within =
      let scope = scope_at within.names a.place in
      keeps-then reserved
      (λ s. accept_body_put same_making within s scope (option_map (λ b. accept_body_of sequence_put (accept_body_of g b)) x)
      >>= (λ first. first_put scope first >> put_at s (action.Accept (entry_at within a.entry.place) (scope_no scope)) 0 next))
      reserved-keeps
      (λ s. keeps-then (accept_body_put same_making within s scope (option_map (λ b. accept_body_of sequence_put (accept_body_of g b)) x))
      (λ first. first_put scope first >> put_at s (action.Accept (entry_at within a.entry.place) (scope_no scope)) 0 next)
      (accept-body-keeps x s scope within)
      (λ first. keeps-then (first_put scope first) (λ u. put_at s (action.Accept (entry_at within a.entry.place) (scope_no scope)) 0 next)
      (first-keeps scope first) (λ u. put-keeps s _ 0 next)))

  -- ---- selects

  abbrev put_before : (Option StatementNo → Making (Option StatementNo)) → Option E → Within → Option StatementNo → Making (Option StatementNo)
  put_before put x within next = inside_if same_making (option_map m x) within next >>= put

  before-keeps : (put : Option StatementNo → Making (Option StatementNo)) (x : Option E) (within : Within) (next : Option StatementNo)
      → ((to : Option StatementNo) → Keeps (put to)) → Keeps (put_before put x within next)
  before-keeps put x within next k = keeps-then (inside_if same_making (option_map m x) within next) put (inside_if-keeps x within next) k

  call-before-keeps : (c : Call) (x : Option E) (next : Option StatementNo) (within : Within) → Keeps (call_before same_making within c (option_map m x) next)
  unfolding call_before
  call-before-keeps c x next within =
      before-keeps (λ to. call_statement_put within c.name c.arguments to) x within next (λ to. call-statement-keeps within c.name c.arguments to)

  delay-before-keeps : (d : Delay) (x : Option E) (next : Option StatementNo) (within : Within)
      → Keeps (delay_before same_making within d (option_map m x) next)
  unfolding delay_before
  delay-before-keeps d x next within = before-keeps (λ to. delay_put within d to) x within next (λ to. delay-keeps within d to)

  abbrev accept_before : Accept E → Option (AcceptBody E) → Option E → Option StatementNo → Within → Making (Option StatementNo)
  accept_before a body x next within =
      inside_if same_making (option_map m x) within next
      >>= (λ behind. accept_put same_making within (accept_with a (option_map (λ b. accept_body_of sequence_put (accept_body_of g b)) body)) behind)

  accept-before-keeps : (a : Accept E) (body : Option (AcceptBody E)) (x : Option E) (next : Option StatementNo) (within : Within)
      → Keeps (accept_before a body x next within)
  accept-before-keeps a body x next within =
      keeps-then (inside_if same_making (option_map m x) within next)
      (λ behind. accept_put same_making within (accept_with a (option_map (λ b. accept_body_of sequence_put (accept_body_of g b)) body)) behind)
      (inside_if-keeps x within next) (λ behind. accept-keeps a body behind within)

  abbrev AlternativeKeeps : SelectAlternative E → Type 0
  AlternativeKeeps x = (next : Option StatementNo) (within : Within)
      → Keeps (alternative_put same_making within (mapped_alternative sequence_put (mapped_alternative g x)).alternative next)

  accept-alternative : (y : SelectAlternative E) (a : Accept E) (body : Option (AcceptBody E)) (x : Option E)
      → AlternativeKeeps (record y { alternative = alternative.Accept (record a { body = body }) x })
  unfolding alternative_put
  accept-alternative y a None None next within =
      keeps-then (accept_before a None None next within) (λ s. pure (select_kind.Accept (the_action s))) (accept-before-keeps a None None next within)
      (λ s l h. h)
  accept-alternative y a None (Some e) next within =
      keeps-then (accept_before a None (Some e) next within) (λ s. pure (select_kind.Accept (the_action s))) (accept-before-keeps a None (Some e) next within)
      (λ s l h. h)
  accept-alternative y a (Some q) None next within =
      keeps-then (accept_before a (Some q) None next within) (λ s. pure (select_kind.Accept (the_action s))) (accept-before-keeps a (Some q) None next within)
      (λ s l h. h)
  accept-alternative y a (Some q) (Some e) next within =
      keeps-then (accept_before a (Some q) (Some e) next within) (λ s. pure (select_kind.Accept (the_action s)))
      (accept-before-keeps a (Some q) (Some e) next within) (λ s l h. h)

  delay-alternative : (y : SelectAlternative E) (d : Delay) (x : Option E) → AlternativeKeeps (record y { alternative = alternative.Delay d x })
  unfolding alternative_put delay_before
  delay-alternative y d None next within =
      keeps-then (delay_before same_making within d None next) (λ s. pure (select_kind.Delay (the_action s))) (delay-before-keeps d None next within)
      (λ s l h. h)
  delay-alternative y d (Some e) next within =
      keeps-then (delay_before same_making within d (Some (m e)) next) (λ s. pure (select_kind.Delay (the_action s)))
      (delay-before-keeps d (Some e) next within) (λ s l h. h)

  alternative-keeps : (y : SelectAlternative E) (a : Alternative E) → AlternativeKeeps (record y { alternative = a })
  unfolding alternative_put
  alternative-keeps y (alternative.Accept a x) next within = accept-alternative y a a.body x next within
  alternative-keeps y (alternative.Delay d x) next within = delay-alternative y d x next within
  alternative-keeps y (alternative.Terminate place) next within = λ l h. h

  abbrev alternatives_made : List (SelectAlternative E) → List (SelectAlternative SequenceMaking)
  alternatives_made xs = map (mapped_alternative sequence_put) (map (mapped_alternative g) xs)

  alternatives-keep : (xs : List (SelectAlternative E)) (next : Option StatementNo) (within : Within)
      → Keeps (select_alternatives_put same_making within (alternatives_made xs) next)
  unfolding select_alternatives_put select_alternative_put
  alternatives-keep [] next within = λ l h. h
  alternatives-keep (x ∷ xs) next within =
      keeps-then (optional_value within (guard_of x.guard))
      (λ guard. alternative_put same_making within (mapped_alternative sequence_put (mapped_alternative g x)).alternative next
      >>= (λ kind.
      select_alternatives_put same_making within (alternatives_made xs) next >>= (λ others. pure (record { guard = guard; kind = kind } ∷ others))))
      (condition-keeps within (guard_of x.guard))
      (λ guard. keeps-then (alternative_put same_making within (mapped_alternative sequence_put (mapped_alternative g x)).alternative next)
      (λ kind. select_alternatives_put same_making within (alternatives_made xs) next >>= (λ others. pure (record { guard = guard; kind = kind } ∷ others)))
      (alternative-keeps x x.alternative next within)
      (λ kind. keeps-then (select_alternatives_put same_making within (alternatives_made xs) next)
      (λ others. pure (record { guard = guard; kind = kind } ∷ others)) (alternatives-keep xs next within) (λ others l h. h)))

  abbrev StatementKeeps : Statement E → Type 0
  StatementKeeps x = (next : Option StatementNo) (within : Within)
      → Keeps (statement_put same_making within (mapped_statement sequence_put (mapped_statement g x)) next)

  abbrev selecting : Place → SelectForm E → Statement E
  selecting place f = statement.Select (record { place = place; form = f })

  else-keeps : (x : Option E) (next : Option StatementNo) (within : Within) → Keeps (else_put same_making within (option_map m x) next)
  unfolding else_put
  else-keeps None next within = λ l h. h
  else-keeps (Some e) next within = inside-keeps e within next

  selective-keeps : (xs : List (SelectAlternative E)) (x : Option E) (signs : ℕ) (next : Option StatementNo) (within : Within)
      → Keeps (select_alternatives_put same_making within (alternatives_made xs) next
      >>= (λ ys. else_put same_making within (option_map m x) next >>= (λ otherwise. action_put (action.SelectiveAccept ys otherwise) signs next)))
  selective-keeps xs x signs next within =
      keeps-then (select_alternatives_put same_making within (alternatives_made xs) next)
      (λ ys. else_put same_making within (option_map m x) next >>= (λ otherwise. action_put (action.SelectiveAccept ys otherwise) signs next))
      (alternatives-keep xs next within)
      (λ ys. keeps-then (else_put same_making within (option_map m x) next) (λ otherwise. action_put (action.SelectiveAccept ys otherwise) signs next)
      (else-keeps x next within) (λ otherwise. action-keeps _ signs next))

  timed-keeps : (c : Call) (x : Option E) (d : Delay) (y : Option E) (signs : ℕ) (next : Option StatementNo) (within : Within)
      → Keeps (call_before same_making within c (option_map m x) next
      >>= (λ call.
      delay_before same_making within d (option_map m y) next >>= (λ delay. action_put (action.TimedCall (the_action call) (the_action delay)) signs next)))
  timed-keeps c x d y signs next within =
      keeps-then (call_before same_making within c (option_map m x) next)
      (λ call.
      delay_before same_making within d (option_map m y) next >>= (λ delay. action_put (action.TimedCall (the_action call) (the_action delay)) signs next))
      (call-before-keeps c x next within)
      (λ call. keeps-then (delay_before same_making within d (option_map m y) next)
      (λ delay. action_put (action.TimedCall (the_action call) (the_action delay)) signs next) (delay-before-keeps d y next within)
      (λ delay. action-keeps _ signs next))

  conditional-keeps : (c : Call) (x : Option E) (e : E) (signs : ℕ) (next : Option StatementNo) (within : Within)
      → Keeps (call_before same_making within c (option_map m x) next
      >>= (λ call.
      inside same_making (m e) within next >>= (λ otherwise. action_put (action.ConditionalCall (the_action call) (the_action otherwise)) signs next)))
  conditional-keeps c x e signs next within =
      keeps-then (call_before same_making within c (option_map m x) next)
      (λ call.
      inside same_making (m e) within next >>= (λ otherwise. action_put (action.ConditionalCall (the_action call) (the_action otherwise)) signs next))
      (call-before-keeps c x next within)
      (λ call. keeps-then (inside same_making (m e) within next)
      (λ otherwise. action_put (action.ConditionalCall (the_action call) (the_action otherwise)) signs next) (inside-keeps e within next)
      (λ otherwise. action-keeps _ signs next))

  trigger-keeps : (t : Trigger) (x : Option E) (next : Option StatementNo) (within : Within) → Keeps (trigger_put same_making within t (option_map m x) next)
  unfolding trigger_put
  trigger-keeps (trigger.Call c) x next within = call-before-keeps c x next within
  trigger-keeps (trigger.Delay d) x next within = delay-before-keeps d x next within

  asynchronous-keeps : (t : Trigger) (x : Option E) (e : E) (signs : ℕ) (next : Option StatementNo) (within : Within)
      → Keeps (reserved
      >>= (λ s. trigger_put same_making within t (option_map m x) next
      >>= (λ trigger. inside same_making (m e) (in_construct s within) None
      >>= (λ abortable. put_at s (action.AsynchronousSelect (the_action trigger) (the_action abortable)) signs next))))
  asynchronous-keeps t x e signs next within =
      keeps-then reserved
      (λ s. trigger_put same_making within t (option_map m x) next
      >>= (λ trigger. inside same_making (m e) (in_construct s within) None
      >>= (λ abortable. put_at s (action.AsynchronousSelect (the_action trigger) (the_action abortable)) signs next)))
      reserved-keeps
      (λ s. keeps-then (trigger_put same_making within t (option_map m x) next)
      (λ trigger. inside same_making (m e) (in_construct s within) None
      >>= (λ abortable. put_at s (action.AsynchronousSelect (the_action trigger) (the_action abortable)) signs next))
      (trigger-keeps t x next within)
      (λ trigger. keeps-then (inside same_making (m e) (in_construct s within) None)
      (λ abortable. put_at s (action.AsynchronousSelect (the_action trigger) (the_action abortable)) signs next)
      (inside-keeps e (in_construct s within) None) (λ abortable. put-keeps s _ signs next)))

  selective : (s : SelectiveAccept E) (x : Option E) (place : Place) → StatementKeeps (selecting place (select.SelectiveAccept (record s { otherwise = x })))
  unfolding statement_put select_put selective_accept_put
  selective s None place next within = selective-keeps (s.alternatives.first ∷ s.alternatives.others) None _ next within
  selective s (Some e) place next within = selective-keeps (s.alternatives.first ∷ s.alternatives.others) (Some e) _ next within

  timed : (t : TimedEntryCall E) (x y : Option E) (place : Place)
      → StatementKeeps (selecting place (select.TimedEntryCall (record t { statements = x; delay_statements = y })))
  unfolding statement_put select_put timed_call_put
  timed t None None place next within = timed-keeps t.call None t.delay None _ next within
  timed t None (Some f) place next within = timed-keeps t.call None t.delay (Some f) _ next within
  timed t (Some e) None place next within = timed-keeps t.call (Some e) t.delay None _ next within
  timed t (Some e) (Some f) place next within = timed-keeps t.call (Some e) t.delay (Some f) _ next within

  conditional : (c : ConditionalEntryCall E) (x : Option E) (place : Place)
      → StatementKeeps (selecting place (select.ConditionalEntryCall (record c { statements = x })))
  unfolding statement_put select_put conditional_call_put
  conditional c None place next within = conditional-keeps c.call None c.otherwise _ next within
  conditional c (Some e) place next within = conditional-keeps c.call (Some e) c.otherwise _ next within

  asynchronous : (a : AsynchronousSelect E) (x : Option E) (place : Place)
      → StatementKeeps (selecting place (select.AsynchronousSelect (record a { statements = x })))
  unfolding statement_put select_put asynchronous_put
  asynchronous a None place next within = asynchronous-keeps a.trigger None a.abortable _ next within
  asynchronous a (Some e) place next within = asynchronous-keeps a.trigger (Some e) a.abortable _ next within

  select-keeps : (s : SelectForm E) (place : Place) → StatementKeeps (selecting place s)
  select-keeps (select.SelectiveAccept s) place = selective s s.otherwise place
  select-keeps (select.TimedEntryCall t) place = timed t t.statements t.delay_statements place
  select-keeps (select.ConditionalEntryCall c) place = conditional c c.statements place
  select-keeps (select.AsynchronousSelect a) place = asynchronous a a.statements place

  -- ---- all statements

  if-statement : (i : If E) (x : Option E) → StatementKeeps (statement.If (record i { otherwise = x }))
  unfolding statement_put if_put
  if-statement i None next within = if-keeps i.condition i.statements i.elsifs None next within
  if-statement i (Some e) next within = if-keeps i.condition i.statements i.elsifs (Some e) next within

  case-statement : (c : Case E) → StatementKeeps (statement.Case c)
  unfolding statement_put case_put
  case-statement c next within =
      keeps-then (alternatives_put same_making within (map (case_of sequence_put) (map (case_of g) (c.alternatives.first ∷ c.alternatives.others))) next)
      (λ xs. expression_made c.selector within >>= (λ e. action_put (action.Case e xs) (signs_in within c.selector) next))
      (cases-keep (c.alternatives.first ∷ c.alternatives.others) next within)
      (λ xs. keeps-then (expression_made c.selector within) (λ e. action_put (action.Case e xs) (signs_in within c.selector) next)
      (expression-keeps c.selector within) (λ e. action-keeps _ _ next))

  accept-statement : (a : Accept E) (x : Option (AcceptBody E)) → StatementKeeps (statement.Accept (record a { body = x }))
  unfolding statement_put
  accept-statement a None next within = accept-keeps a None next within
  accept-statement a (Some b) next within = accept-keeps a (Some b) next within

  statement-keeps : (x : Statement E) → StatementKeeps x
  unfolding statement_put
  statement-keeps (statement.Null place) next within = action-keeps action.Null 0 next
  statement-keeps (statement.Assignment a) next within = assignment-keeps within a next
  statement-keeps (statement.Call c) next within = call-statement-keeps within c.name c.arguments next
  statement-keeps (statement.Delay d) next within = delay-keeps within d next
  statement-keeps (statement.If i) next within = if-statement i i.otherwise next within
  statement-keeps (statement.Case c) next within = case-statement c next within
  statement-keeps (statement.Loop l) next within = loop-keeps l next within
  statement-keeps (statement.Exit e) next within = exit-keeps within e next
  statement-keeps (statement.Block b) next within = block-keeps b next within
  statement-keeps (statement.Return place e) next within = return-keeps within e next
  statement-keeps (statement.Raise place exception) next within = raise-keeps within exception next
  statement-keeps (statement.Abort place tasks) next within = abort-keeps within tasks next
  statement-keeps (statement.Accept a) next within = accept-statement a a.body next within
  statement-keeps (statement.Requeue place entry with_abort) next within = requeue-keeps within entry with_abort next
  statement-keeps (statement.Select s) next within = select-keeps s.form s.place next within

  pub statements-keep : (xs : List (Statement E)) (next : Option StatementNo) (within : Within)
      → Keeps (statements_put same_making within (map (mapped_statement sequence_put) (map (mapped_statement g) xs)) next)
  unfolding statements_put
  statements-keep [] next within = λ l h. h
  statements-keep (x ∷ xs) next within =
      keeps-then (statements_put same_making within (map (mapped_statement sequence_put) (map (mapped_statement g) xs)) next)
      (λ later. statement_put same_making within (mapped_statement sequence_put (mapped_statement g x)) later)
      (statements-keep xs next within) (λ later. statement-keeps x later within)
