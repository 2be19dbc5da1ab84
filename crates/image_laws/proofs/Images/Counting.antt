-- What is made of statements has as many actions as their text.
use Rattle.std.proofs.Common.{◌≡◌, ℕ, ◌+◌, length, Bool, false, List, [], ◌∷◌, map, Option, Some, None, option_map, arith}
use Rattle.ann_base.specs.declared.places.Place.{Place}
use Rattle.ada_tree.specs.declared.expressions.Expression.{Expression}
use Rattle.ada_tree.specs.declared.statements.Sequence.{Sequence}
use Rattle.ada_tree.specs.declared.statements.Statement.{Statement}
use Rattle.ada_tree.specs.declared.statements.Statement.TheVariants as statement
use Rattle.ada_tree.specs.declared.statements.Call.{Call}
use Rattle.ada_tree.specs.declared.statements.Delay.{Delay}
use Rattle.ada_tree.specs.declared.statements.If.{If}
use Rattle.ada_tree.specs.declared.statements.Elsif.{Elsif}
use Rattle.ada_tree.specs.declared.statements.Case.{Case}
use Rattle.ada_tree.specs.declared.statements.CaseAlternative.{CaseAlternative}
use Rattle.ada_tree.specs.declared.statements.Loop.{Loop}
use Rattle.ada_tree.specs.declared.statements.Iteration.{Iteration}
use Rattle.ada_tree.specs.declared.statements.Iteration.TheVariants as iteration
use Rattle.ada_tree.specs.declared.statements.Block.{Block}
use Rattle.ada_tree.specs.declared.statements.Handler.{Handler}
use Rattle.ada_tree.specs.declared.statements.Accept.{Accept}
use Rattle.ada_tree.specs.declared.statements.AcceptBody.{AcceptBody}
use Rattle.ada_tree.specs.declared.selects.SelectForm.{SelectForm}
use Rattle.ada_tree.specs.declared.selects.SelectForm.TheVariants as select
use Rattle.ada_tree.specs.declared.selects.SelectiveAccept.{SelectiveAccept}
use Rattle.ada_tree.specs.declared.selects.SelectAlternative.{SelectAlternative}
use Rattle.ada_tree.specs.declared.selects.Alternative.{Alternative}
use Rattle.ada_tree.specs.declared.selects.Alternative.TheVariants as alternative
use Rattle.ada_tree.specs.declared.selects.TimedEntryCall.{TimedEntryCall}
use Rattle.ada_tree.specs.declared.selects.ConditionalEntryCall.{ConditionalEntryCall}
use Rattle.ada_tree.specs.declared.selects.AsynchronousSelect.{AsynchronousSelect}
use Rattle.ada_tree.specs.declared.selects.Trigger.{Trigger}
use Rattle.ada_tree.specs.declared.selects.Trigger.TheVariants as trigger
use Rattle.profile_image.specs.declared.numbers.DeclNo.{DeclNo}
use Rattle.profile_image.specs.declared.numbers.StatementNo.{StatementNo}
use Rattle.profile_image.specs.declared.statements.SelectKind.TheVariants as select_kind
use Rattle.profile_image.specs.declared.statements.StatementForm.{StatementForm}
use Rattle.profile_image.specs.declared.statements.StatementForm.TheVariants as action
use Rattle.ada_image.specs.declared.making.Lists.{Lists}
use Rattle.ada_image.specs.declared.making.Within.{Within}
use Rattle.ada_image.specs.declared.making.SequencePlace.{SequencePlace}
use Rattle.ada_image.specs.declared.making.SequencePlace.TheVariants as sequence_place
use Rattle.ada_image.specs.Making.{Making, ◌>>=◌, ◌>>◌, pure, action_put, reserved, put_at, first_put, the_action, in_loop, in_construct, in_scope, in_handler}
use Rattle.ada_image.specs.Layout.{scope_no}
use Rattle.ada_image.specs.ImageOfExpressions.{expression_made, signs_in, optional_value}
use Rattle.ada_image.specs.CallStatements.{call_statement_put}
use Rattle.ada_image.specs.ImageOfStatements.{SequenceMaking, scope_at, choices_made, handled_made, entry_at, delay_put, guard_of, inside}
use Rattle.ada_image.specs.ImageOfStatements.{inside_if, branch_put, elsifs_put, if_put, alternatives_put, case_put, label_of, loop_body}
use Rattle.ada_image.specs.ImageOfStatements.{forever_put, while_put, parameter_of, for_put, iteration_put, loop_put, block_put, handlers_put}
use Rattle.ada_image.specs.ImageOfStatements.{accept_body_put, accept_put, alternative_put, select_alternative_put, select_alternatives_put}
use Rattle.ada_image.specs.ImageOfStatements.{else_put, selective_accept_put, call_before, delay_before, timed_call_put, conditional_call_put}
use Rattle.ada_image.specs.ImageOfStatements.{trigger_put, asynchronous_put, select_put, statement_put, statements_put}
use Rattle.ada_image.specs.ImageOfDeclarations.{same_making, sequence_put}
use Rattle.image_laws.specs.ActionsOfText.{Actions, actions_if, elsifs_actions, case_actions, handlers_actions, turns_actions, accept_actions}
use Rattle.image_laws.specs.ActionsOfText.{alternative_actions, alternatives_actions, statement_actions, statements_actions, same_actions, sequence_actions}
use Rattle.image_laws.proofs.Images.Keeping.{Adds, Keeps, no-more, keeps-pure, keeps-then, action-keeps, expression-keeps}
use Rattle.image_laws.proofs.Images.Keeping.{condition-keeps, call-statement-keeps, assignment-keeps, delay-keeps}
use Rattle.image_laws.proofs.Images.Keeping.{return-keeps, raise-keeps, exit-keeps, abort-keeps, requeue-keeps}
use Rattle.image_laws.proofs.Images.Opening.{reserved-keeps, put-keeps}
use Rattle.image_laws.proofs.Images.Layers.{elsif_of, case_of, handler_of, mapped_statement, mapped_alternative}
use Rattle.image_laws.proofs.Images.Constructs.{loop_of, block_of, accept_body_of, accept_with}

-- there are so many actions more
pub record Counts {X : Type 0} (m : Making X) (k : ℕ) : Type 0 where
  pub actions : (l : Lists) → length (m l).0.statements ≡ k + length l.statements

pub counts-of : {X : Type 0} {k : ℕ} {m : Making X} → Adds m k → Counts m k
counts-of h = record { actions = h.actions }

pub counts-pure : {X : Type 0} (x : X) → Counts (pure x) 0
counts-pure x = counts-of (keeps-pure x)

pub counts-then : {X Y : Type 0} (m : Making X) (f : X → Making Y) (a b : ℕ) → Counts m a → ((x : X) → Counts (f x) b) → Counts (m >>= f) (b + a)
counts-then m f a b g h = record { actions = λ l. let c = (h (m l).1).actions (m l).0 in let d = g.actions l in omega arith }

-- a step that adds nothing, and one behind it
pub counts-behind : {X Y : Type 0} (m : Making X) (f : X → Making Y) (b : ℕ) → Counts m 0 → ((x : X) → Counts (f x) b) → Counts (m >>= f) b
counts-behind m f b g h = record { actions = λ l. let c = (h (m l).1).actions (m l).0 in let d = g.actions l in omega arith }

-- a step, and one behind it that adds nothing
pub counts-before : {X Y : Type 0} (m : Making X) (f : X → Making Y) (a : ℕ) → Counts m a → ((x : X) → Keeps (f x)) → Counts (m >>= f) a
counts-before m f a g h = record { actions = λ l. let c = (h (m l).1).actions (m l).0 in let d = g.actions l in omega arith }

pub counts-ended : {X Y : Type 0} (m : Making X) (f : X → Making Y) (a : ℕ) → Counts m a → ((x : X) → Counts (f x) 0) → Counts (m >>= f) a
counts-ended m f a g h = record { actions = λ l. let c = (h (m l).1).actions (m l).0 in let d = g.actions l in omega arith }

-- a step, and an action behind it
pub counts-acted : {X Y : Type 0} (m : Making X) (f : X → Making Y) (a : ℕ) → Counts m a → ((x : X) → Adds (f x) 1) → Counts (m >>= f) (1 + a)
counts-acted m f a g h = counts-then m f a 1 g (λ x. counts-of (h x))

-- a number that is drawn, and what is made behind it
pub counts-drawn : {Y : Type 0} (f : StatementNo → Making Y) (b : ℕ) → ((s : StatementNo) → Counts (f s) b) → Counts (reserved >>= f) (1 + b)
counts-drawn f b h = record { actions = λ l. let c = (h (reserved l).1).actions (reserved l).0 in let d = reserved-keeps.actions l in omega arith }

pub counts-first : (scope : ℕ) (first : Option StatementNo) → Counts (first_put scope first) 0
unfolding first_put
counts-first scope first = record { actions = no-more }

-- what is said of a sequence
pub record CountsLaw (make : SequenceMaking) (actions : Actions) : Type 0 where
  pub counts : (place : SequencePlace) (within : Within) (next : Option StatementNo) → Counts (make place within next) (actions place within.names)

-- a scope begins, and its action is put where its number was drawn
begun-counts : (scope : ℕ) (first : Option StatementNo) (s : StatementNo) (f : StatementForm) (next : Option StatementNo)
    → Counts (first_put scope first >> put_at s f 0 next) 0
begun-counts scope first s f next =
    counts-behind (first_put scope first) (λ u. put_at s f 0 next) 0 (counts-first scope first) (λ u. counts-of (put-keeps s f 0 next))

-- one layer, whose sequences are those that g gives
module _ {E : Type 0} (g : E → Sequence) (law : (e : E) → CountsLaw (sequence_put (g e)) (sequence_actions (g e))) where
  abbrev m : E → SequenceMaking
  m e = sequence_put (g e)

  abbrev o : E → Actions
  o e = sequence_actions (g e)

  abbrev inner : E → Within → ℕ
  inner e within = o e sequence_place.StatementsAlone within.names

  inside-counts : (e : E) (within : Within) (next : Option StatementNo) → Counts (inside same_making (m e) within next) (inner e within)
  unfolding inside
  inside-counts e within next = (law e).counts sequence_place.StatementsAlone within next

  abbrev inner_if : Option E → Within → ℕ
  inner_if x within = actions_if same_actions (option_map o x) within.names

  inside_if-counts : (x : Option E) (within : Within) (next : Option StatementNo)
      → Counts (inside_if same_making (option_map m x) within next) (inner_if x within)
  unfolding inside_if
  inside_if-counts None within next = counts-pure _
  inside_if-counts (Some e) within next = inside-counts e within next

  -- ---- if and case

  branch-counts : (c : Expression) (e : E) (otherwise next : Option StatementNo) (within : Within)
      → Counts (branch_put same_making within c (m e) otherwise next) (1 + inner e within)
  unfolding branch_put
  branch-counts c e otherwise next within =
      counts-acted (inside same_making (m e) within next)
      (λ first. expression_made c within >>= (λ v. action_put (action.If v (the_action first) otherwise) (signs_in within c) next)) (inner e within)
      (inside-counts e within next)
      (λ first. keeps-then (expression_made c within) (λ v. action_put (action.If v (the_action first) otherwise) (signs_in within c) next)
      (expression-keeps c within) (λ v. action-keeps _ _ next))

  abbrev elsifs_made : List (Elsif E) → List (Elsif SequenceMaking)
  elsifs_made es = map (elsif_of sequence_put) (map (elsif_of g) es)

  abbrev elsifs_opened : List (Elsif E) → Within → ℕ
  elsifs_opened es within = elsifs_actions same_actions (map (elsif_of sequence_actions) (map (elsif_of g) es)) within.names

  elsifs-count : (es : List (Elsif E)) (otherwise next : Option StatementNo) (within : Within)
      → Counts (elsifs_put same_making within (elsifs_made es) otherwise next) (elsifs_opened es within)
  unfolding elsifs_put
  elsifs-count [] otherwise next within = counts-pure _
  elsifs-count (e ∷ es) otherwise next within =
      counts-then (elsifs_put same_making within (elsifs_made es) otherwise next)
      (λ later. branch_put same_making within e.condition (m e.statements) later next) (elsifs_opened es within) (1 + inner e.statements within)
      (elsifs-count es otherwise next within) (λ later. branch-counts e.condition e.statements later next within)

  if-counts : (c : Expression) (e : E) (es : List (Elsif E)) (x : Option E) (next : Option StatementNo) (within : Within)
      → Counts (inside_if same_making (option_map m x) within next
      >>= (λ otherwise. elsifs_put same_making within (elsifs_made es) otherwise next >>= (λ later. branch_put same_making within c (m e) later next)))
      (1 + inner e within + elsifs_opened es within + inner_if x within)
  if-counts c e es x next within =
      counts-then (inside_if same_making (option_map m x) within next)
      (λ otherwise. elsifs_put same_making within (elsifs_made es) otherwise next >>= (λ later. branch_put same_making within c (m e) later next))
      (inner_if x within) (1 + inner e within + elsifs_opened es within) (inside_if-counts x within next)
      (λ otherwise. counts-then (elsifs_put same_making within (elsifs_made es) otherwise next) (λ later. branch_put same_making within c (m e) later next)
      (elsifs_opened es within) (1 + inner e within)
      (elsifs-count es otherwise next within) (λ later. branch-counts c e later next within))

  cases-count : (xs : List (CaseAlternative E)) (next : Option StatementNo) (within : Within)
      → Counts (alternatives_put same_making within (map (case_of sequence_put) (map (case_of g) xs)) next)
      (case_actions same_actions (map (case_of sequence_actions) (map (case_of g) xs)) within.names)
  unfolding alternatives_put
  cases-count [] next within = counts-pure _
  cases-count (a ∷ rest) next within =
      counts-then (inside same_making (m a.statements) within next)
      (λ first. alternatives_put same_making within (map (case_of sequence_put) (map (case_of g) rest)) next
      >>= (λ others. pure (record { choices = choices_made within a.choices; first = the_action first } ∷ others)))
      (inner a.statements within) (case_actions same_actions (map (case_of sequence_actions) (map (case_of g) rest)) within.names)
      (inside-counts a.statements within next)
      (λ first. counts-before (alternatives_put same_making within (map (case_of sequence_put) (map (case_of g) rest)) next)
      (λ others. pure (record { choices = choices_made within a.choices; first = the_action first } ∷ others))
      (case_actions same_actions (map (case_of sequence_actions) (map (case_of g) rest)) within.names) (cases-count rest next within) (λ others. keeps-pure _))

  pub handlers-count : (hs : List (Handler E)) (next : Option StatementNo) (within : Within)
      → Counts (handlers_put same_making within (map (handler_of sequence_put) (map (handler_of g) hs)) next)
      (handlers_actions same_actions (map (handler_of sequence_actions) (map (handler_of g) hs)) within.names)
  unfolding handlers_put
  handlers-count [] next within = counts-pure _
  handlers-count (h ∷ hs) next within =
      counts-then (inside same_making (m h.statements) (in_handler within) next)
      (λ first. handlers_put same_making within (map (handler_of sequence_put) (map (handler_of g) hs)) next
      >>= (λ others. pure (record { choices = handled_made within h.exceptions; first = the_action first } ∷ others)))
      (inner h.statements within) (handlers_actions same_actions (map (handler_of sequence_actions) (map (handler_of g) hs)) within.names)
      (inside-counts h.statements (in_handler within) next)
      (λ first. counts-before (handlers_put same_making within (map (handler_of sequence_put) (map (handler_of g) hs)) next)
      (λ others. pure (record { choices = handled_made within h.exceptions; first = the_action first } ∷ others))
      (handlers_actions same_actions (map (handler_of sequence_actions) (map (handler_of g) hs)) within.names) (handlers-count hs next within)
      (λ others. keeps-pure _))

  -- ---- loops

  abbrev loop_made : Loop E → Loop SequenceMaking
  loop_made l = loop_of sequence_put (loop_of g l)

  body-counts : (l : Loop E) (within : Within) (s turn : StatementNo) → Counts (loop_body same_making within (loop_made l) s turn) (inner l.statements within)
  unfolding loop_body
  body-counts l within s turn = inside-counts l.statements (in_loop (label_of within (loop_made l)) s within) (Some turn)

  forever-counts : (l : Loop E) (next : Option StatementNo) (within : Within)
      → Counts (forever_put same_making within (loop_made l) next) (1 + inner l.statements within)
  unfolding forever_put
  forever-counts l next within =
      counts-drawn (λ s. loop_body same_making within (loop_made l) s s >>= (λ body. put_at s (action.Loop (the_action body) within.construct) 0 next))
      (inner l.statements within)
      (λ s. counts-before (loop_body same_making within (loop_made l) s s) (λ body. put_at s (action.Loop (the_action body) within.construct) 0 next)
      (inner l.statements within) (body-counts l within s s) (λ body. put-keeps s _ 0 next))

  while-counts : (l : Loop E) (c : Expression) (next : Option StatementNo) (within : Within)
      → Counts (while_put same_making within (loop_made l) c next) (1 + inner l.statements within)
  unfolding while_put
  while-counts l c next within =
      counts-drawn (λ s. loop_body same_making within (loop_made l) s s
      >>= (λ body. expression_made c within >>= (λ e. put_at s (action.While e (the_action body) within.construct) (signs_in within c) next)))
      (inner l.statements within)
      (λ s. counts-before (loop_body same_making within (loop_made l) s s)
      (λ body. expression_made c within >>= (λ e. put_at s (action.While e (the_action body) within.construct) (signs_in within c) next))
      (inner l.statements within)
      (body-counts l within s s)
      (λ body. keeps-then (expression_made c within) (λ e. put_at s (action.While e (the_action body) within.construct) (signs_in within c) next)
      (expression-keeps c within) (λ e. put-keeps s _ _ next)))

  module _ (l : Loop E) (d : DeclNo) (reverse : Bool) (low high : Expression) (next : Option StatementNo) (within : Within) where
    abbrev ends_put : StatementNo → StatementNo → Making (Option StatementNo)
    ends_put s first =
        expression_made low within
        >>= (λ a.
        expression_made high within >>= (λ b. put_at s (action.For d reverse a b first within.construct) (signs_in within low + signs_in within high) next))

    abbrev later_put : StatementNo → StatementNo → StatementNo → Option StatementNo → Making (Option StatementNo)
    later_put s first later body = put_at later (action.LaterTurn d reverse (the_action body)) 0 next >> ends_put s first

    abbrev turns_put : StatementNo → StatementNo → StatementNo → Option StatementNo → Making (Option StatementNo)
    turns_put s first later body = put_at first (action.FirstTurn d reverse (the_action body)) 0 next >> later_put s first later body

    abbrev drawn_put : StatementNo → StatementNo → StatementNo → Making (Option StatementNo)
    drawn_put s first later = loop_body same_making within (loop_made l) s later >>= (λ body. turns_put s first later body)

    turns-keep : (s first later : StatementNo) (body : Option StatementNo) → Keeps (turns_put s first later body)
    turns-keep s first later body =
        keeps-then (put_at first (action.FirstTurn d reverse (the_action body)) 0 next) (λ x. later_put s first later body) (put-keeps first _ 0 next)
        (λ x. keeps-then (put_at later (action.LaterTurn d reverse (the_action body)) 0 next) (λ y. ends_put s first) (put-keeps later _ 0 next)
        (λ y. keeps-then (expression_made low within)
        (λ a.
        expression_made high within >>= (λ b. put_at s (action.For d reverse a b first within.construct) (signs_in within low + signs_in within high) next))
        (expression-keeps low within)
        (λ a. keeps-then (expression_made high within)
        (λ b. put_at s (action.For d reverse a b first within.construct) (signs_in within low + signs_in within high) next) (expression-keeps high within)
        (λ b. put-keeps s _ _ next))))

    drawn-counts : Counts (for_put same_making within (loop_made l) d reverse low high next) (1 + (1 + (1 + inner l.statements within)))
    unfolding for_put
    drawn-counts =
        counts-drawn (λ s. reserved >>= (λ first. reserved >>= (λ later. drawn_put s first later))) (1 + (1 + inner l.statements within))
        (λ s. counts-drawn (λ first. reserved >>= (λ later. drawn_put s first later)) (1 + inner l.statements within)
        (λ first. counts-drawn (λ later. drawn_put s first later) (inner l.statements within)
        (λ later. counts-before (loop_body same_making within (loop_made l) s later) (λ body. turns_put s first later body) (inner l.statements within)
        (body-counts l within s later) (λ body. turns-keep s first later body))))

    for-counts : Counts (for_put same_making within (loop_made l) d reverse low high next) (3 + inner l.statements within)
    for-counts = record { actions = λ k. let x = drawn-counts.actions k in omega arith }

  iteration-counts : (l : Loop E) (i : Iteration) (next : Option StatementNo) (within : Within)
      → Counts (iteration_put same_making within (loop_made l) i next) (turns_actions same_actions i + inner l.statements within)
  unfolding iteration_put
  iteration-counts l iteration.Forever next within = forever-counts l next within
  iteration-counts l (iteration.While place c) next within = while-counts l c next within
  iteration-counts l (iteration.For place i reverse low high) next within = for-counts l (parameter_of within i) reverse low high next within

  loop-counts : (l : Loop E) (next : Option StatementNo) (within : Within)
      → Counts (loop_put same_making within (loop_made l) next) (turns_actions same_actions l.iteration + inner l.statements within)
  unfolding loop_put
  loop-counts l next within = iteration-counts l l.iteration next within

  -- ---- blocks and accepts

  block-counts : (b : Block E) (next : Option StatementNo) (within : Within)
      → Counts (block_put same_making within (block_of sequence_put (block_of g b)) next) (1 + o b.sequence (sequence_place.AsBody false) within.names)
  unfolding block_put
  block-counts b next within =
      let scope = scope_at within.names b.place in
      let within_it = o b.sequence (sequence_place.AsBody false) within.names in
      counts-drawn (λ s. m b.sequence (sequence_place.AsBody false) (in_construct s (in_scope scope within)) None
      >>= (λ first. first_put scope first >> put_at s (action.Block (scope_no scope)) 0 next)) within_it
      (λ s. counts-ended (m b.sequence (sequence_place.AsBody false) (in_construct s (in_scope scope within)) None)
      (λ first. first_put scope first >> put_at s (action.Block (scope_no scope)) 0 next) within_it
      ((law b.sequence).counts (sequence_place.AsBody false) (in_construct s (in_scope scope within)) None)
      (λ first. begun-counts scope first s (action.Block (scope_no scope)) next))

  abbrev accept_opened : Option (AcceptBody E) → Within → ℕ
  accept_opened x within = accept_actions same_actions (option_map (λ b. accept_body_of sequence_actions (accept_body_of g b)) x) within.names

  accept-body-counts : (x : Option (AcceptBody E)) (s : StatementNo) (scope : ℕ) (within : Within)
      → Counts (accept_body_put same_making within s scope (option_map (λ b. accept_body_of sequence_put (accept_body_of g b)) x)) (accept_opened x within)
  unfolding accept_body_put
  accept-body-counts None s scope within = counts-pure _
  accept-body-counts (Some b) s scope within = (law b.sequence).counts (sequence_place.BehindDeclarations None) (in_construct s (in_scope scope within)) None

  accept-counts : (a : Accept E) (x : Option (AcceptBody E)) (next : Option StatementNo) (within : Within)
      → Counts (accept_put same_making within (accept_with a (option_map (λ b. accept_body_of sequence_put (accept_body_of g b)) x)) next)
      (1 + accept_opened x within)
  unfolding accept_put
  accept-counts a x next within =
      let scope = scope_at within.names a.place in
      counts-drawn (λ s. accept_body_put same_making within s scope (option_map (λ b. accept_body_of sequence_put (accept_body_of g b)) x)
      >>= (λ first. first_put scope first >> put_at s (action.Accept (entry_at within a.entry.place) (scope_no scope)) 0 next))
      (accept_opened x within)
      (λ s. counts-ended (accept_body_put same_making within s scope (option_map (λ b. accept_body_of sequence_put (accept_body_of g b)) x))
      (λ first. first_put scope first >> put_at s (action.Accept (entry_at within a.entry.place) (scope_no scope)) 0 next)
      (accept_opened x within) (accept-body-counts x s scope within)
      (λ first. begun-counts scope first s (action.Accept (entry_at within a.entry.place) (scope_no scope)) next))

  -- ---- selects

  abbrev put_before : (Option StatementNo → Making (Option StatementNo)) → Option E → Within → Option StatementNo → Making (Option StatementNo)
  put_before put x within next = inside_if same_making (option_map m x) within next >>= put

  before-counts : (put : Option StatementNo → Making (Option StatementNo)) (x : Option E) (within : Within) (next : Option StatementNo)
      → ((to : Option StatementNo) → Adds (put to) 1) → Counts (put_before put x within next) (1 + inner_if x within)
  before-counts put x within next k =
      counts-acted (inside_if same_making (option_map m x) within next) put (inner_if x within) (inside_if-counts x within next) k

  call-before-counts : (c : Call) (x : Option E) (next : Option StatementNo) (within : Within)
      → Counts (call_before same_making within c (option_map m x) next) (1 + inner_if x within)
  unfolding call_before
  call-before-counts c x next within =
      before-counts (λ to. call_statement_put within c.name c.arguments to) x within next (λ to. call-statement-keeps within c.name c.arguments to)

  delay-before-counts : (d : Delay) (x : Option E) (next : Option StatementNo) (within : Within)
      → Counts (delay_before same_making within d (option_map m x) next) (1 + inner_if x within)
  unfolding delay_before
  delay-before-counts d x next within = before-counts (λ to. delay_put within d to) x within next (λ to. delay-keeps within d to)

  abbrev accept_before : Accept E → Option (AcceptBody E) → Option E → Option StatementNo → Within → Making (Option StatementNo)
  accept_before a body x next within =
      inside_if same_making (option_map m x) within next
      >>= (λ behind. accept_put same_making within (accept_with a (option_map (λ b. accept_body_of sequence_put (accept_body_of g b)) body)) behind)

  abbrev opened_before : Accept E → Option (AcceptBody E) → Option E → Within → ℕ
  opened_before a body x within = 1 + accept_opened body within + inner_if x within

  accept-before-counts : (a : Accept E) (body : Option (AcceptBody E)) (x : Option E) (next : Option StatementNo) (within : Within)
      → Counts (accept_before a body x next within) (opened_before a body x within)
  accept-before-counts a body x next within =
      counts-then (inside_if same_making (option_map m x) within next)
      (λ behind. accept_put same_making within (accept_with a (option_map (λ b. accept_body_of sequence_put (accept_body_of g b)) body)) behind)
      (inner_if x within) (1 + accept_opened body within) (inside_if-counts x within next) (λ behind. accept-counts a body behind within)

  abbrev AlternativeCounts : SelectAlternative E → Type 0
  AlternativeCounts x = (next : Option StatementNo) (within : Within)
      → Counts (alternative_put same_making within (mapped_alternative sequence_put (mapped_alternative g x)).alternative next)
      (alternative_actions same_actions (mapped_alternative sequence_actions (mapped_alternative g x)).alternative within.names)

  accept-alternative : (y : SelectAlternative E) (a : Accept E) (body : Option (AcceptBody E)) (x : Option E)
      → AlternativeCounts (record y { alternative = alternative.Accept (record a { body = body }) x })
  unfolding alternative_put
  accept-alternative y a None None next within =
      counts-before (accept_before a None None next within) (λ s. pure (select_kind.Accept (the_action s))) (opened_before a None None within)
      (accept-before-counts a None None next within) (λ s. keeps-pure _)
  accept-alternative y a None (Some e) next within =
      counts-before (accept_before a None (Some e) next within) (λ s. pure (select_kind.Accept (the_action s))) (opened_before a None (Some e) within)
      (accept-before-counts a None (Some e) next within) (λ s. keeps-pure _)
  accept-alternative y a (Some q) None next within =
      counts-before (accept_before a (Some q) None next within) (λ s. pure (select_kind.Accept (the_action s))) (opened_before a (Some q) None within)
      (accept-before-counts a (Some q) None next within) (λ s. keeps-pure _)
  accept-alternative y a (Some q) (Some e) next within =
      counts-before (accept_before a (Some q) (Some e) next within) (λ s. pure (select_kind.Accept (the_action s))) (opened_before a (Some q) (Some e) within)
      (accept-before-counts a (Some q) (Some e) next within) (λ s. keeps-pure _)

  delay-alternative : (y : SelectAlternative E) (d : Delay) (x : Option E) → AlternativeCounts (record y { alternative = alternative.Delay d x })
  unfolding alternative_put delay_before
  delay-alternative y d None next within =
      counts-before (delay_before same_making within d None next) (λ s. pure (select_kind.Delay (the_action s))) (1 + inner_if None within)
      (delay-before-counts d None next within) (λ s. keeps-pure _)
  delay-alternative y d (Some e) next within =
      counts-before (delay_before same_making within d (Some (m e)) next) (λ s. pure (select_kind.Delay (the_action s))) (1 + inner_if (Some e) within)
      (delay-before-counts d (Some e) next within) (λ s. keeps-pure _)

  alternative-counts : (y : SelectAlternative E) (a : Alternative E) → AlternativeCounts (record y { alternative = a })
  unfolding alternative_put
  alternative-counts y (alternative.Accept a x) next within = accept-alternative y a a.body x next within
  alternative-counts y (alternative.Delay d x) next within = delay-alternative y d x next within
  alternative-counts y (alternative.Terminate place) next within = counts-pure _

  abbrev alternatives_made : List (SelectAlternative E) → List (SelectAlternative SequenceMaking)
  alternatives_made xs = map (mapped_alternative sequence_put) (map (mapped_alternative g) xs)

  abbrev alternative_opened : SelectAlternative E → Within → ℕ
  alternative_opened x within = alternative_actions same_actions (mapped_alternative sequence_actions (mapped_alternative g x)).alternative within.names

  abbrev alternatives_opened : List (SelectAlternative E) → Within → ℕ
  alternatives_opened xs within = alternatives_actions same_actions (map (mapped_alternative sequence_actions) (map (mapped_alternative g) xs)) within.names

  alternatives-count : (xs : List (SelectAlternative E)) (next : Option StatementNo) (within : Within)
      → Counts (select_alternatives_put same_making within (alternatives_made xs) next) (alternatives_opened xs within)
  unfolding select_alternatives_put select_alternative_put
  alternatives-count [] next within = counts-pure _
  alternatives-count (x ∷ xs) next within =
      counts-behind (optional_value within (guard_of x.guard))
      (λ guard. alternative_put same_making within (mapped_alternative sequence_put (mapped_alternative g x)).alternative next
      >>= (λ kind.
      select_alternatives_put same_making within (alternatives_made xs) next >>= (λ others. pure (record { guard = guard; kind = kind } ∷ others))))
      (alternatives_opened xs within + alternative_opened x within) (counts-of (condition-keeps within (guard_of x.guard)))
      (λ guard. counts-then (alternative_put same_making within (mapped_alternative sequence_put (mapped_alternative g x)).alternative next)
      (λ kind. select_alternatives_put same_making within (alternatives_made xs) next >>= (λ others. pure (record { guard = guard; kind = kind } ∷ others)))
      (alternative_opened x within) (alternatives_opened xs within) (alternative-counts x x.alternative next within)
      (λ kind. counts-before (select_alternatives_put same_making within (alternatives_made xs) next)
      (λ others. pure (record { guard = guard; kind = kind } ∷ others)) (alternatives_opened xs within) (alternatives-count xs next within)
      (λ others. keeps-pure _)))

  abbrev StatementCounts : Statement E → Type 0
  StatementCounts x = (next : Option StatementNo) (within : Within)
      → Counts (statement_put same_making within (mapped_statement sequence_put (mapped_statement g x)) next)
      (statement_actions same_actions (mapped_statement sequence_actions (mapped_statement g x)) within.names)

  abbrev selecting : Place → SelectForm E → Statement E
  selecting place f = statement.Select (record { place = place; form = f })

  else-counts : (x : Option E) (next : Option StatementNo) (within : Within) → Counts (else_put same_making within (option_map m x) next) (inner_if x within)
  unfolding else_put
  else-counts None next within = counts-pure _
  else-counts (Some e) next within = inside-counts e within next

  selective-counts : (xs : List (SelectAlternative E)) (x : Option E) (signs : ℕ) (next : Option StatementNo) (within : Within)
      → Counts (select_alternatives_put same_making within (alternatives_made xs) next
      >>= (λ ys. else_put same_making within (option_map m x) next >>= (λ otherwise. action_put (action.SelectiveAccept ys otherwise) signs next)))
      (1 + inner_if x within + alternatives_opened xs within)
  selective-counts xs x signs next within =
      counts-then (select_alternatives_put same_making within (alternatives_made xs) next)
      (λ ys. else_put same_making within (option_map m x) next >>= (λ otherwise. action_put (action.SelectiveAccept ys otherwise) signs next))
      (alternatives_opened xs within) (1 + inner_if x within) (alternatives-count xs next within)
      (λ ys. counts-acted (else_put same_making within (option_map m x) next) (λ otherwise. action_put (action.SelectiveAccept ys otherwise) signs next)
      (inner_if x within) (else-counts x next within) (λ otherwise. action-keeps _ signs next))

  timed-counts : (c : Call) (x : Option E) (d : Delay) (y : Option E) (signs : ℕ) (next : Option StatementNo) (within : Within)
      → Counts (call_before same_making within c (option_map m x) next
      >>= (λ call.
      delay_before same_making within d (option_map m y) next >>= (λ delay. action_put (action.TimedCall (the_action call) (the_action delay)) signs next)))
      (1 + (1 + inner_if y within) + (1 + inner_if x within))
  timed-counts c x d y signs next within =
      counts-then (call_before same_making within c (option_map m x) next)
      (λ call.
      delay_before same_making within d (option_map m y) next >>= (λ delay. action_put (action.TimedCall (the_action call) (the_action delay)) signs next))
      (1 + inner_if x within) (1 + (1 + inner_if y within)) (call-before-counts c x next within)
      (λ call. counts-acted (delay_before same_making within d (option_map m y) next)
      (λ delay. action_put (action.TimedCall (the_action call) (the_action delay)) signs next) (1 + inner_if y within) (delay-before-counts d y next within)
      (λ delay. action-keeps _ signs next))

  conditional-counts : (c : Call) (x : Option E) (e : E) (signs : ℕ) (next : Option StatementNo) (within : Within)
      → Counts (call_before same_making within c (option_map m x) next
      >>= (λ call.
      inside same_making (m e) within next >>= (λ otherwise. action_put (action.ConditionalCall (the_action call) (the_action otherwise)) signs next)))
      (1 + inner e within + (1 + inner_if x within))
  conditional-counts c x e signs next within =
      counts-then (call_before same_making within c (option_map m x) next)
      (λ call.
      inside same_making (m e) within next >>= (λ otherwise. action_put (action.ConditionalCall (the_action call) (the_action otherwise)) signs next))
      (1 + inner_if x within) (1 + inner e within) (call-before-counts c x next within)
      (λ call. counts-acted (inside same_making (m e) within next)
      (λ otherwise. action_put (action.ConditionalCall (the_action call) (the_action otherwise)) signs next) (inner e within) (inside-counts e within next)
      (λ otherwise. action-keeps _ signs next))

  trigger-counts : (t : Trigger) (x : Option E) (next : Option StatementNo) (within : Within)
      → Counts (trigger_put same_making within t (option_map m x) next) (1 + inner_if x within)
  unfolding trigger_put
  trigger-counts (trigger.Call c) x next within = call-before-counts c x next within
  trigger-counts (trigger.Delay d) x next within = delay-before-counts d x next within

  asynchronous-counts : (t : Trigger) (x : Option E) (e : E) (signs : ℕ) (next : Option StatementNo) (within : Within)
      → Counts (reserved
      >>= (λ s. trigger_put same_making within t (option_map m x) next
      >>= (λ trigger. inside same_making (m e) (in_construct s within) None
      >>= (λ abortable. put_at s (action.AsynchronousSelect (the_action trigger) (the_action abortable)) signs next))))
      (1 + (inner e within + (1 + inner_if x within)))
  asynchronous-counts t x e signs next within =
      counts-drawn (λ s. trigger_put same_making within t (option_map m x) next
      >>= (λ trigger. inside same_making (m e) (in_construct s within) None
      >>= (λ abortable. put_at s (action.AsynchronousSelect (the_action trigger) (the_action abortable)) signs next)))
      (inner e within + (1 + inner_if x within))
      (λ s. counts-then (trigger_put same_making within t (option_map m x) next)
      (λ trigger. inside same_making (m e) (in_construct s within) None
      >>= (λ abortable. put_at s (action.AsynchronousSelect (the_action trigger) (the_action abortable)) signs next))
      (1 + inner_if x within) (inner e within) (trigger-counts t x next within)
      (λ trigger. counts-before (inside same_making (m e) (in_construct s within) None)
      (λ abortable. put_at s (action.AsynchronousSelect (the_action trigger) (the_action abortable)) signs next) (inner e within)
      (inside-counts e (in_construct s within) None) (λ abortable. put-keeps s _ signs next)))

  selective : (s : SelectiveAccept E) (x : Option E) (place : Place) → StatementCounts (selecting place (select.SelectiveAccept (record s { otherwise = x })))
  unfolding statement_put select_put selective_accept_put
  selective s None place next within = selective-counts (s.alternatives.first ∷ s.alternatives.others) None _ next within
  selective s (Some e) place next within = selective-counts (s.alternatives.first ∷ s.alternatives.others) (Some e) _ next within

  timed : (t : TimedEntryCall E) (x y : Option E) (place : Place)
      → StatementCounts (selecting place (select.TimedEntryCall (record t { statements = x; delay_statements = y })))
  unfolding statement_put select_put timed_call_put
  timed t None None place next within = timed-counts t.call None t.delay None _ next within
  timed t None (Some f) place next within = timed-counts t.call None t.delay (Some f) _ next within
  timed t (Some e) None place next within = timed-counts t.call (Some e) t.delay None _ next within
  timed t (Some e) (Some f) place next within = timed-counts t.call (Some e) t.delay (Some f) _ next within

  conditional : (c : ConditionalEntryCall E) (x : Option E) (place : Place)
      → StatementCounts (selecting place (select.ConditionalEntryCall (record c { statements = x })))
  unfolding statement_put select_put conditional_call_put
  conditional c None place next within = conditional-counts c.call None c.otherwise _ next within
  conditional c (Some e) place next within = conditional-counts c.call (Some e) c.otherwise _ next within

  asynchronous : (a : AsynchronousSelect E) (x : Option E) (place : Place)
      → StatementCounts (selecting place (select.AsynchronousSelect (record a { statements = x })))
  unfolding statement_put select_put asynchronous_put
  asynchronous a None place next within = asynchronous-counts a.trigger None a.abortable _ next within
  asynchronous a (Some e) place next within = asynchronous-counts a.trigger (Some e) a.abortable _ next within

  select-counts : (s : SelectForm E) (place : Place) → StatementCounts (selecting place s)
  select-counts (select.SelectiveAccept s) place = selective s s.otherwise place
  select-counts (select.TimedEntryCall t) place = timed t t.statements t.delay_statements place
  select-counts (select.ConditionalEntryCall c) place = conditional c c.statements place
  select-counts (select.AsynchronousSelect a) place = asynchronous a a.statements place

  -- ---- all statements

  if-statement : (i : If E) (x : Option E) → StatementCounts (statement.If (record i { otherwise = x }))
  unfolding statement_put if_put
  if-statement i None next within = if-counts i.condition i.statements i.elsifs None next within
  if-statement i (Some e) next within = if-counts i.condition i.statements i.elsifs (Some e) next within

  case-statement : (c : Case E) → StatementCounts (statement.Case c)
  unfolding statement_put case_put
  case-statement c next within =
      counts-acted (alternatives_put same_making within (map (case_of sequence_put) (map (case_of g) (c.alternatives.first ∷ c.alternatives.others))) next)
      (λ xs. expression_made c.selector within >>= (λ e. action_put (action.Case e xs) (signs_in within c.selector) next))
      (case_actions same_actions (map (case_of sequence_actions) (map (case_of g) (c.alternatives.first ∷ c.alternatives.others))) within.names)
      (cases-count (c.alternatives.first ∷ c.alternatives.others) next within)
      (λ xs. keeps-then (expression_made c.selector within) (λ e. action_put (action.Case e xs) (signs_in within c.selector) next)
      (expression-keeps c.selector within) (λ e. action-keeps _ _ next))

  accept-statement : (a : Accept E) (x : Option (AcceptBody E)) → StatementCounts (statement.Accept (record a { body = x }))
  unfolding statement_put
  accept-statement a None next within = accept-counts a None next within
  accept-statement a (Some b) next within = accept-counts a (Some b) next within

  statement-counts : (x : Statement E) → StatementCounts x
  unfolding statement_put
  statement-counts (statement.Null place) next within = counts-of (action-keeps action.Null 0 next)
  statement-counts (statement.Assignment a) next within = counts-of (assignment-keeps within a next)
  statement-counts (statement.Call c) next within = counts-of (call-statement-keeps within c.name c.arguments next)
  statement-counts (statement.Delay d) next within = counts-of (delay-keeps within d next)
  statement-counts (statement.If i) next within = if-statement i i.otherwise next within
  statement-counts (statement.Case c) next within = case-statement c next within
  statement-counts (statement.Loop l) next within = loop-counts l next within
  statement-counts (statement.Exit e) next within = counts-of (exit-keeps within e next)
  statement-counts (statement.Block b) next within = block-counts b next within
  statement-counts (statement.Return place e) next within = counts-of (return-keeps within e next)
  statement-counts (statement.Raise place exception) next within = counts-of (raise-keeps within exception next)
  statement-counts (statement.Abort place tasks) next within = counts-of (abort-keeps within tasks next)
  statement-counts (statement.Accept a) next within = accept-statement a a.body next within
  statement-counts (statement.Requeue place entry with_abort) next within = counts-of (requeue-keeps within entry with_abort next)
  statement-counts (statement.Select s) next within = select-counts s.form s.place next within

  pub statements-count : (xs : List (Statement E)) (next : Option StatementNo) (within : Within)
      → Counts (statements_put same_making within (map (mapped_statement sequence_put) (map (mapped_statement g) xs)) next)
      (statements_actions same_actions (map (mapped_statement sequence_actions) (map (mapped_statement g) xs)) within.names)
  unfolding statements_put
  statements-count [] next within = counts-pure _
  statements-count (x ∷ xs) next within =
      counts-then (statements_put same_making within (map (mapped_statement sequence_put) (map (mapped_statement g) xs)) next)
      (λ later. statement_put same_making within (mapped_statement sequence_put (mapped_statement g x)) later)
      (statements_actions same_actions (map (mapped_statement sequence_actions) (map (mapped_statement g) xs)) within.names)
      (statement_actions same_actions (mapped_statement sequence_actions (mapped_statement g x)) within.names)
      (statements-count xs next within) (λ later. statement-counts x later within)
