-- What is made of a text begins the scopes of the text.
use Rattle.std.proofs.Common.{◌≡◌, ℕ, ◌+◌, Bool, false, List, [], ◌∷◌, ◌++◌, map, Option, Some, None, option_map, refl, sym, ap, ◌∙◌, append_assoc, arith}
use Rattle.std.proofs.lemmas.List.{length-append, length-set}
use Rattle.profile_image.specs.Program.{no_statement}
use Rattle.ann_base.specs.declared.places.Place.{Place}
use Rattle.ada_tree.specs.declared.expressions.Expression.{Expression}
use Rattle.ada_tree.specs.declared.statements.Sequence.{Sequence}
use Rattle.ada_tree.specs.declared.statements.Statement.{Statement}
use Rattle.ada_tree.specs.declared.statements.Statement.TheVariants as statement
use Rattle.ada_tree.specs.declared.statements.Call.{Call}
use Rattle.ada_tree.specs.declared.statements.Delay.{Delay}
use Rattle.ada_tree.specs.declared.statements.If.{If}
use Rattle.ada_tree.specs.declared.statements.Elsif.{Elsif}
use Rattle.ada_tree.specs.declared.statements.Case.{Case}
use Rattle.ada_tree.specs.declared.statements.CaseAlternative.{CaseAlternative}
use Rattle.ada_tree.specs.declared.statements.Loop.{Loop}
use Rattle.ada_tree.specs.declared.statements.Iteration.{Iteration}
use Rattle.ada_tree.specs.declared.statements.Iteration.TheVariants as iteration
use Rattle.ada_tree.specs.declared.statements.Block.{Block}
use Rattle.ada_tree.specs.declared.statements.Handler.{Handler}
use Rattle.ada_tree.specs.declared.statements.Accept.{Accept}
use Rattle.ada_tree.specs.declared.statements.AcceptBody.{AcceptBody}
use Rattle.ada_tree.specs.declared.selects.SelectForm.{SelectForm}
use Rattle.ada_tree.specs.declared.selects.SelectForm.TheVariants as select
use Rattle.ada_tree.specs.declared.selects.SelectiveAccept.{SelectiveAccept}
use Rattle.ada_tree.specs.declared.selects.SelectAlternative.{SelectAlternative}
use Rattle.ada_tree.specs.declared.selects.Alternative.{Alternative}
use Rattle.ada_tree.specs.declared.selects.Alternative.TheVariants as alternative
use Rattle.ada_tree.specs.declared.selects.TimedEntryCall.{TimedEntryCall}
use Rattle.ada_tree.specs.declared.selects.ConditionalEntryCall.{ConditionalEntryCall}
use Rattle.ada_tree.specs.declared.selects.AsynchronousSelect.{AsynchronousSelect}
use Rattle.ada_tree.specs.declared.selects.Trigger.{Trigger}
use Rattle.ada_tree.specs.declared.selects.Trigger.TheVariants as trigger
use Rattle.profile_image.specs.declared.numbers.DeclNo.{DeclNo}
use Rattle.profile_image.specs.declared.numbers.StatementNo.{StatementNo}
use Rattle.profile_image.specs.declared.statements.SelectKind.TheVariants as select_kind
use Rattle.profile_image.specs.declared.statements.StatementForm.{StatementForm}
use Rattle.profile_image.specs.declared.statements.StatementForm.TheVariants as action
use Rattle.ada_image.specs.declared.making.FirstAction.{FirstAction}
use Rattle.ada_image.specs.declared.making.Lists.{Lists}
use Rattle.ada_image.specs.declared.making.Within.{Within}
use Rattle.ada_image.specs.declared.making.SequencePlace.{SequencePlace}
use Rattle.ada_image.specs.declared.making.SequencePlace.TheVariants as sequence_place
use Rattle.ada_image.specs.Making.{action as action_made, Making, ◌>>=◌, ◌>>◌, pure, action_put, reserved}
use Rattle.ada_image.specs.Making.{put_at, first_put, the_action, in_loop, in_construct, in_scope, in_handler}
use Rattle.ada_image.specs.Layout.{scope_no}
use Rattle.ada_image.specs.ImageOfExpressions.{expression_made, signs_in, optional_value}
use Rattle.ada_image.specs.CallStatements.{call_statement_put}
use Rattle.ada_image.specs.ImageOfStatements.{SequenceMaking, assignment_put, return_put, raise_put, exit_put, abort_put, requeue_put, scope_at}
use Rattle.ada_image.specs.ImageOfStatements.{choices_made, handled_made, entry_at, delay_put, guard_of, inside, inside_if, branch_put, elsifs_put, if_put}
use Rattle.ada_image.specs.ImageOfStatements.{alternatives_put, case_put, label_of, loop_body, forever_put, while_put, parameter_of, for_put, iteration_put}
use Rattle.ada_image.specs.ImageOfStatements.{loop_put, block_put, handlers_put, accept_body_put, accept_put, alternative_put, select_alternative_put}
use Rattle.ada_image.specs.ImageOfStatements.{select_alternatives_put, else_put, selective_accept_put, call_before, delay_before, timed_call_put}
use Rattle.ada_image.specs.ImageOfStatements.{conditional_call_put, trigger_put, asynchronous_put, select_put, statement_put, statements_put}
use Rattle.ada_image.specs.ImageOfDeclarations.{same_making, sequence_put}
use Rattle.image_laws.specs.ScopesOfText.{Scopes, scopes_if, elsif_scopes, case_scopes, handler_scopes, accept_body_scopes, alternative_scopes}
use Rattle.image_laws.specs.ScopesOfText.{alternatives_scopes, statement_scopes, statements_scopes, same_scopes, sequence_scopes}
use Rattle.image_laws.proofs.Images.Keeping.{Adds, Keeps, no-more, keeps-pure, keeps-then, action-keeps, expression-keeps}
use Rattle.image_laws.proofs.Images.Keeping.{condition-keeps, call-statement-keeps, assignment-keeps, delay-keeps}
use Rattle.image_laws.proofs.Images.Keeping.{return-keeps, raise-keeps, exit-keeps, abort-keeps, requeue-keeps}
use Rattle.image_laws.proofs.Images.Layers.{elsif_of, case_of, handler_of, mapped_statement, mapped_alternative}
use Rattle.image_laws.proofs.Images.Constructs.{loop_of, block_of, accept_body_of, accept_with}

abbrev pub scopes_in : Lists → List ℕ
scopes_in l = map (λ f. f.scope) l.firsts

-- these scopes begin, the newest first
abbrev pub Opens : {X : Type 0} → Making X → List ℕ → Type 0
Opens m scopes = (l : Lists) → scopes_in (m l).0 ≡ scopes ++ scopes_in l

pub opens-none : {X : Type 0} {k : ℕ} (m : Making X) → Adds m k → Opens m []
opens-none m h l = ap (λ fs. map (λ (f : FirstAction). f.scope) fs) (h.firsts l)

pub opens-then : {X Y : Type 0} (m : Making X) (f : X → Making Y) (a b : List ℕ) → Opens m a → ((x : X) → Opens (f x) b) → Opens (m >>= f) (b ++ a)
opens-then m f a b g h l = h (m l).1 (m l).0 ∙ ap (λ s. b ++ s) (g l) ∙ sym (append_assoc b a (scopes_in l))

-- a step that begins none, and one behind it
pub opens-behind : {X Y : Type 0} {k : ℕ} (m : Making X) (f : X → Making Y) (b : List ℕ) → Adds m k → ((x : X) → Opens (f x) b) → Opens (m >>= f) b
opens-behind m f b k h l = h (m l).1 (m l).0 ∙ ap (λ s. b ++ s) (opens-none m k l)

-- a step, and one behind it that begins none
pub opens-before : {X Y : Type 0} {k : ℕ} (m : Making X) (f : X → Making Y) (a : List ℕ) → Opens m a → ((x : X) → Adds (f x) k) → Opens (m >>= f) a
opens-before m f a g h l = opens-none (f (m l).1) (h (m l).1) (m l).0 ∙ g l

pub reserved-keeps : Adds reserved 1
unfolding reserved
reserved-keeps = record { firsts = λ l. refl; actions = λ l. let x = length-append l.statements (no_statement ∷ []) in omega arith }

pub put-keeps : (s : StatementNo) (f : StatementForm) (signs : ℕ) (next : Option StatementNo) → Keeps (put_at s f signs next)
unfolding put_at
put-keeps s f signs next = record { firsts = λ l. refl; actions = λ l. length-set l.statements s.0 (action_made f signs next) ∙ no-more l }

pub opens-first : (scope : ℕ) (first : Option StatementNo) → Opens (first_put scope first) (scope ∷ [])
unfolding first_put
opens-first scope first l = refl

-- what is said of a sequence
pub record OpensLaw (make : SequenceMaking) (scopes : Scopes) : Type 0 where
  pub opens : (place : SequencePlace) (within : Within) (next : Option StatementNo) → Opens (make place within next) (scopes place within.names)

-- one layer, whose sequences are those that g gives
module _ {E : Type 0} (g : E → Sequence) (law : (e : E) → OpensLaw (sequence_put (g e)) (sequence_scopes (g e))) where
  abbrev m : E → SequenceMaking
  m e = sequence_put (g e)

  abbrev o : E → Scopes
  o e = sequence_scopes (g e)

  abbrev inner : E → Within → List ℕ
  inner e within = o e sequence_place.StatementsAlone within.names

  inside-opens : (e : E) (within : Within) (next : Option StatementNo) → Opens (inside same_making (m e) within next) (inner e within)
  unfolding inside
  inside-opens e within next = (law e).opens sequence_place.StatementsAlone within next

  abbrev inner_if : Option E → Within → List ℕ
  inner_if x within = scopes_if same_scopes (option_map o x) within.names

  inside_if-opens : (x : Option E) (within : Within) (next : Option StatementNo)
      → Opens (inside_if same_making (option_map m x) within next) (inner_if x within)
  unfolding inside_if
  inside_if-opens None within next = λ l. refl
  inside_if-opens (Some e) within next = inside-opens e within next

  -- ---- if and case

  branch-opens : (c : Expression) (e : E) (otherwise next : Option StatementNo) (within : Within)
      → Opens (branch_put same_making within c (m e) otherwise next) (inner e within)
  unfolding branch_put
  branch-opens c e otherwise next within =
      opens-before (inside same_making (m e) within next)
      (λ first. expression_made c within >>= (λ v. action_put (action.If v (the_action first) otherwise) (signs_in within c) next)) (inner e within)
      (inside-opens e within next)
      (λ first. keeps-then (expression_made c within) (λ v. action_put (action.If v (the_action first) otherwise) (signs_in within c) next)
      (expression-keeps c within) (λ v. action-keeps _ _ next))

  abbrev elsifs_made : List (Elsif E) → List (Elsif SequenceMaking)
  elsifs_made es = map (elsif_of sequence_put) (map (elsif_of g) es)

  abbrev elsifs_opened : List (Elsif E) → Within → List ℕ
  elsifs_opened es within = elsif_scopes same_scopes (map (elsif_of sequence_scopes) (map (elsif_of g) es)) within.names

  elsifs-open : (es : List (Elsif E)) (otherwise next : Option StatementNo) (within : Within)
      → Opens (elsifs_put same_making within (elsifs_made es) otherwise next) (elsifs_opened es within)
  unfolding elsifs_put
  elsifs-open [] otherwise next within = λ l. refl
  elsifs-open (e ∷ es) otherwise next within =
      opens-then (elsifs_put same_making within (elsifs_made es) otherwise next)
      (λ later. branch_put same_making within e.condition (m e.statements) later next) (elsifs_opened es within) (inner e.statements within)
      (elsifs-open es otherwise next within) (λ later. branch-opens e.condition e.statements later next within)

  if-opens : (c : Expression) (e : E) (es : List (Elsif E)) (x : Option E) (next : Option StatementNo) (within : Within)
      → Opens (inside_if same_making (option_map m x) within next
      >>= (λ otherwise. elsifs_put same_making within (elsifs_made es) otherwise next >>= (λ later. branch_put same_making within c (m e) later next)))
      (inner e within ++ (elsifs_opened es within ++ inner_if x within))
  if-opens c e es x next within l =
      opens-then (inside_if same_making (option_map m x) within next)
      (λ otherwise. elsifs_put same_making within (elsifs_made es) otherwise next >>= (λ later. branch_put same_making within c (m e) later next))
      (inner_if x within) (inner e within ++ elsifs_opened es within) (inside_if-opens x within next)
      (λ otherwise. opens-then (elsifs_put same_making within (elsifs_made es) otherwise next) (λ later. branch_put same_making within c (m e) later next)
      (elsifs_opened es within) (inner e within)
      (elsifs-open es otherwise next within) (λ later. branch-opens c e later next within)) l
      ∙ ap (λ s. s ++ scopes_in l) (append_assoc (inner e within) (elsifs_opened es within) (inner_if x within))

  cases-open : (xs : List (CaseAlternative E)) (next : Option StatementNo) (within : Within)
      → Opens (alternatives_put same_making within (map (case_of sequence_put) (map (case_of g) xs)) next)
      (case_scopes same_scopes (map (case_of sequence_scopes) (map (case_of g) xs)) within.names)
  unfolding alternatives_put
  cases-open [] next within = λ l. refl
  cases-open (a ∷ rest) next within =
      opens-then (inside same_making (m a.statements) within next)
      (λ first. alternatives_put same_making within (map (case_of sequence_put) (map (case_of g) rest)) next
      >>= (λ others. pure (record { choices = choices_made within a.choices; first = the_action first } ∷ others)))
      (inner a.statements within) (case_scopes same_scopes (map (case_of sequence_scopes) (map (case_of g) rest)) within.names)
      (inside-opens a.statements within next)
      (λ first. opens-before (alternatives_put same_making within (map (case_of sequence_put) (map (case_of g) rest)) next)
      (λ others. pure (record { choices = choices_made within a.choices; first = the_action first } ∷ others))
      (case_scopes same_scopes (map (case_of sequence_scopes) (map (case_of g) rest)) within.names) (cases-open rest next within) (λ others. keeps-pure _))

  pub handlers-open : (hs : List (Handler E)) (next : Option StatementNo) (within : Within)
      → Opens (handlers_put same_making within (map (handler_of sequence_put) (map (handler_of g) hs)) next)
      (handler_scopes same_scopes (map (handler_of sequence_scopes) (map (handler_of g) hs)) within.names)
  unfolding handlers_put
  handlers-open [] next within = λ l. refl
  handlers-open (h ∷ hs) next within =
      opens-then (inside same_making (m h.statements) (in_handler within) next)
      (λ first. handlers_put same_making within (map (handler_of sequence_put) (map (handler_of g) hs)) next
      >>= (λ others. pure (record { choices = handled_made within h.exceptions; first = the_action first } ∷ others)))
      (inner h.statements within) (handler_scopes same_scopes (map (handler_of sequence_scopes) (map (handler_of g) hs)) within.names)
      (inside-opens h.statements (in_handler within) next)
      (λ first. opens-before (handlers_put same_making within (map (handler_of sequence_put) (map (handler_of g) hs)) next)
      (λ others. pure (record { choices = handled_made within h.exceptions; first = the_action first } ∷ others))
      (handler_scopes same_scopes (map (handler_of sequence_scopes) (map (handler_of g) hs)) within.names) (handlers-open hs next within)
      (λ others. keeps-pure _))

  -- ---- loops

  abbrev loop_made : Loop E → Loop SequenceMaking
  loop_made l = loop_of sequence_put (loop_of g l)

  body-opens : (l : Loop E) (within : Within) (s turn : StatementNo) → Opens (loop_body same_making within (loop_made l) s turn) (inner l.statements within)
  unfolding loop_body
  body-opens l within s turn = inside-opens l.statements (in_loop (label_of within (loop_made l)) s within) (Some turn)

  forever-opens : (l : Loop E) (next : Option StatementNo) (within : Within)
      → Opens (forever_put same_making within (loop_made l) next) (inner l.statements within)
  unfolding forever_put
  forever-opens l next within =
      opens-behind reserved (λ s. loop_body same_making within (loop_made l) s s >>= (λ body. put_at s (action.Loop (the_action body) within.construct) 0 next))
      (inner l.statements within) reserved-keeps
      (λ s. opens-before (loop_body same_making within (loop_made l) s s) (λ body. put_at s (action.Loop (the_action body) within.construct) 0 next)
      (inner l.statements within) (body-opens l within s s) (λ body. put-keeps s _ 0 next))

  while-opens : (l : Loop E) (c : Expression) (next : Option StatementNo) (within : Within)
      → Opens (while_put same_making within (loop_made l) c next) (inner l.statements within)
  unfolding while_put
  while-opens l c next within =
      opens-behind reserved
      (λ s. loop_body same_making within (loop_made l) s s
      >>= (λ body. expression_made c within >>= (λ e. put_at s (action.While e (the_action body) within.construct) (signs_in within c) next)))
      (inner l.statements within) reserved-keeps
      (λ s. opens-before (loop_body same_making within (loop_made l) s s)
      (λ body. expression_made c within >>= (λ e. put_at s (action.While e (the_action body) within.construct) (signs_in within c) next))
      (inner l.statements within)
      (body-opens l within s s)
      (λ body. keeps-then (expression_made c within) (λ e. put_at s (action.While e (the_action body) within.construct) (signs_in within c) next)
      (expression-keeps c within) (λ e. put-keeps s _ _ next)))

  module _ (l : Loop E) (d : DeclNo) (reverse : Bool) (low high : Expression) (next : Option StatementNo) (within : Within) where
    abbrev ends_put : StatementNo → StatementNo → Making (Option StatementNo)
    ends_put s first =
        expression_made low within
        >>= (λ a.
        expression_made high within >>= (λ b. put_at s (action.For d reverse a b first within.construct) (signs_in within low + signs_in within high) next))

    abbrev later_put : StatementNo → StatementNo → StatementNo → Option StatementNo → Making (Option StatementNo)
    later_put s first later body = put_at later (action.LaterTurn d reverse (the_action body)) 0 next >> ends_put s first

    abbrev turns_put : StatementNo → StatementNo → StatementNo → Option StatementNo → Making (Option StatementNo)
    turns_put s first later body = put_at first (action.FirstTurn d reverse (the_action body)) 0 next >> later_put s first later body

    abbrev drawn_put : StatementNo → StatementNo → StatementNo → Making (Option StatementNo)
    drawn_put s first later = loop_body same_making within (loop_made l) s later >>= (λ body. turns_put s first later body)

    turns-keep : (s first later : StatementNo) (body : Option StatementNo) → Keeps (turns_put s first later body)
    turns-keep s first later body =
        keeps-then (put_at first (action.FirstTurn d reverse (the_action body)) 0 next) (λ x. later_put s first later body) (put-keeps first _ 0 next)
        (λ x. keeps-then (put_at later (action.LaterTurn d reverse (the_action body)) 0 next) (λ y. ends_put s first) (put-keeps later _ 0 next)
        (λ y. keeps-then (expression_made low within)
        (λ a.
        expression_made high within >>= (λ b. put_at s (action.For d reverse a b first within.construct) (signs_in within low + signs_in within high) next))
        (expression-keeps low within)
        (λ a. keeps-then (expression_made high within)
        (λ b. put_at s (action.For d reverse a b first within.construct) (signs_in within low + signs_in within high) next) (expression-keeps high within)
        (λ b. put-keeps s _ _ next))))

    for-opens : Opens (for_put same_making within (loop_made l) d reverse low high next) (inner l.statements within)
    unfolding for_put
    for-opens =
        opens-behind reserved (λ s. reserved >>= (λ first. reserved >>= (λ later. drawn_put s first later))) (inner l.statements within) reserved-keeps
        (λ s. opens-behind reserved (λ first. reserved >>= (λ later. drawn_put s first later)) (inner l.statements within) reserved-keeps
        (λ first. opens-behind reserved (λ later. drawn_put s first later) (inner l.statements within) reserved-keeps
        (λ later. opens-before (loop_body same_making within (loop_made l) s later) (λ body. turns_put s first later body) (inner l.statements within)
        (body-opens l within s later) (λ body. turns-keep s first later body))))

  iteration-opens : (l : Loop E) (i : Iteration) (next : Option StatementNo) (within : Within)
      → Opens (iteration_put same_making within (loop_made l) i next) (inner l.statements within)
  unfolding iteration_put
  iteration-opens l iteration.Forever next within = forever-opens l next within
  iteration-opens l (iteration.While place c) next within = while-opens l c next within
  iteration-opens l (iteration.For place i reverse low high) next within = for-opens l (parameter_of within i) reverse low high next within

  loop-opens : (l : Loop E) (next : Option StatementNo) (within : Within) → Opens (loop_put same_making within (loop_made l) next) (inner l.statements within)
  unfolding loop_put
  loop-opens l next within = iteration-opens l l.iteration next within

  -- ---- blocks and accepts

  block-opens : (b : Block E) (next : Option StatementNo) (within : Within)
      → Opens (block_put same_making within (block_of sequence_put (block_of g b)) next)
      (scope_at within.names b.place ∷ o b.sequence (sequence_place.AsBody false) within.names)
  unfolding block_put
  block-opens b next within =
      let scope = scope_at within.names b.place in
      let within_it = o b.sequence (sequence_place.AsBody false) within.names in
      opens-behind reserved
      (λ s. m b.sequence (sequence_place.AsBody false) (in_construct s (in_scope scope within)) None
      >>= (λ first. first_put scope first >> put_at s (action.Block (scope_no scope)) 0 next))
      (scope ∷ within_it) reserved-keeps
      (λ s. opens-then (m b.sequence (sequence_place.AsBody false) (in_construct s (in_scope scope within)) None)
      (λ first. first_put scope first >> put_at s (action.Block (scope_no scope)) 0 next) within_it (scope ∷ [])
      ((law b.sequence).opens (sequence_place.AsBody false) (in_construct s (in_scope scope within)) None)
      (λ first. opens-before (first_put scope first) (λ u. put_at s (action.Block (scope_no scope)) 0 next) (scope ∷ []) (opens-first scope first)
      (λ u. put-keeps s _ 0 next)))

  abbrev accept_opened : Option (AcceptBody E) → Within → List ℕ
  accept_opened x within = accept_body_scopes same_scopes (option_map (λ b. accept_body_of sequence_scopes (accept_body_of g b)) x) within.names

  accept-body-opens : (x : Option (AcceptBody E)) (s : StatementNo) (scope : ℕ) (within : Within)
      → Opens (accept_body_put same_making within s scope (option_map (λ b. accept_body_of sequence_put (accept_body_of g b)) x)) (accept_opened x within)
  unfolding accept_body_put
  accept-body-opens None s scope within = λ l. refl
  accept-body-opens (Some b) s scope within = (law b.sequence).opens (sequence_place.BehindDeclarations None) (in_construct s (in_scope scope within)) None

  accept-opens : (a : Accept E) (x : Option (AcceptBody E)) (next : Option StatementNo) (within : Within)
      → Opens (accept_put same_making within (accept_with a (option_map (λ b. accept_body_of sequence_put (accept_body_of g b)) x)) next)
      (scope_at within.names a.place ∷ accept_opened x within)
  unfolding accept_put
  accept-opens a x next within =
      let scope = scope_at within.names a.place in
      opens-behind reserved
      (λ s. accept_body_put same_making within s scope (option_map (λ b. accept_body_of sequence_put (accept_body_of g b)) x)
      >>= (λ first. first_put scope first >> put_at s (action.Accept (entry_at within a.entry.place) (scope_no scope)) 0 next))
      (scope ∷ accept_opened x within) reserved-keeps
      (λ s. opens-then (accept_body_put same_making within s scope (option_map (λ b. accept_body_of sequence_put (accept_body_of g b)) x))
      (λ first. first_put scope first >> put_at s (action.Accept (entry_at within a.entry.place) (scope_no scope)) 0 next)
      (accept_opened x within) (scope ∷ []) (accept-body-opens x s scope within)
      (λ first. opens-before (first_put scope first) (λ u. put_at s (action.Accept (entry_at within a.entry.place) (scope_no scope)) 0 next) (scope ∷ [])
      (opens-first scope first) (λ u. put-keeps s _ 0 next)))

  -- ---- selects

  abbrev put_before : (Option StatementNo → Making (Option StatementNo)) → Option E → Within → Option StatementNo → Making (Option StatementNo)
  put_before put x within next = inside_if same_making (option_map m x) within next >>= put

  before-opens : (put : Option StatementNo → Making (Option StatementNo)) (x : Option E) (within : Within) (next : Option StatementNo)
      → ((to : Option StatementNo) → Adds (put to) 1) → Opens (put_before put x within next) (inner_if x within)
  before-opens put x within next k = opens-before (inside_if same_making (option_map m x) within next) put (inner_if x within) (inside_if-opens x within next) k

  call-before-opens : (c : Call) (x : Option E) (next : Option StatementNo) (within : Within)
      → Opens (call_before same_making within c (option_map m x) next) (inner_if x within)
  unfolding call_before
  call-before-opens c x next within =
      before-opens (λ to. call_statement_put within c.name c.arguments to) x within next (λ to. call-statement-keeps within c.name c.arguments to)

  delay-before-opens : (d : Delay) (x : Option E) (next : Option StatementNo) (within : Within)
      → Opens (delay_before same_making within d (option_map m x) next) (inner_if x within)
  unfolding delay_before
  delay-before-opens d x next within = before-opens (λ to. delay_put within d to) x within next (λ to. delay-keeps within d to)

  abbrev accept_before : Accept E → Option (AcceptBody E) → Option E → Option StatementNo → Within → Making (Option StatementNo)
  accept_before a body x next within =
      inside_if same_making (option_map m x) within next
      >>= (λ behind. accept_put same_making within (accept_with a (option_map (λ b. accept_body_of sequence_put (accept_body_of g b)) body)) behind)

  abbrev opened_before : Accept E → Option (AcceptBody E) → Option E → Within → List ℕ
  opened_before a body x within = (scope_at within.names a.place ∷ accept_opened body within) ++ inner_if x within

  accept-before-opens : (a : Accept E) (body : Option (AcceptBody E)) (x : Option E) (next : Option StatementNo) (within : Within)
      → Opens (accept_before a body x next within) (opened_before a body x within)
  accept-before-opens a body x next within =
      opens-then (inside_if same_making (option_map m x) within next)
      (λ behind. accept_put same_making within (accept_with a (option_map (λ b. accept_body_of sequence_put (accept_body_of g b)) body)) behind)
      (inner_if x within) (scope_at within.names a.place ∷ accept_opened body within) (inside_if-opens x within next)
      (λ behind. accept-opens a body behind within)

  abbrev AlternativeOpens : SelectAlternative E → Type 0
  AlternativeOpens x = (next : Option StatementNo) (within : Within)
      → Opens (alternative_put same_making within (mapped_alternative sequence_put (mapped_alternative g x)).alternative next)
      (alternative_scopes same_scopes (mapped_alternative sequence_scopes (mapped_alternative g x)).alternative within.names)

  accept-alternative : (y : SelectAlternative E) (a : Accept E) (body : Option (AcceptBody E)) (x : Option E)
      → AlternativeOpens (record y { alternative = alternative.Accept (record a { body = body }) x })
  unfolding alternative_put
  accept-alternative y a None None next within =
      opens-before (accept_before a None None next within) (λ s. pure (select_kind.Accept (the_action s))) (opened_before a None None within)
      (accept-before-opens a None None next within) (λ s. keeps-pure _)
  accept-alternative y a None (Some e) next within =
      opens-before (accept_before a None (Some e) next within) (λ s. pure (select_kind.Accept (the_action s))) (opened_before a None (Some e) within)
      (accept-before-opens a None (Some e) next within) (λ s. keeps-pure _)
  accept-alternative y a (Some q) None next within =
      opens-before (accept_before a (Some q) None next within) (λ s. pure (select_kind.Accept (the_action s))) (opened_before a (Some q) None within)
      (accept-before-opens a (Some q) None next within) (λ s. keeps-pure _)
  accept-alternative y a (Some q) (Some e) next within =
      opens-before (accept_before a (Some q) (Some e) next within) (λ s. pure (select_kind.Accept (the_action s))) (opened_before a (Some q) (Some e) within)
      (accept-before-opens a (Some q) (Some e) next within) (λ s. keeps-pure _)

  delay-alternative : (y : SelectAlternative E) (d : Delay) (x : Option E) → AlternativeOpens (record y { alternative = alternative.Delay d x })
  unfolding alternative_put delay_before
  delay-alternative y d None next within =
      opens-before (delay_before same_making within d None next) (λ s. pure (select_kind.Delay (the_action s))) (inner_if None within)
      (delay-before-opens d None next within) (λ s. keeps-pure _)
  delay-alternative y d (Some e) next within =
      opens-before (delay_before same_making within d (Some (m e)) next) (λ s. pure (select_kind.Delay (the_action s))) (inner_if (Some e) within)
      (delay-before-opens d (Some e) next within) (λ s. keeps-pure _)

  alternative-opens : (y : SelectAlternative E) (a : Alternative E) → AlternativeOpens (record y { alternative = a })
  unfolding alternative_put
  alternative-opens y (alternative.Accept a x) next within = accept-alternative y a a.body x next within
  alternative-opens y (alternative.Delay d x) next within = delay-alternative y d x next within
  alternative-opens y (alternative.Terminate place) next within = λ l. refl

  abbrev alternatives_made : List (SelectAlternative E) → List (SelectAlternative SequenceMaking)
  alternatives_made xs = map (mapped_alternative sequence_put) (map (mapped_alternative g) xs)

  abbrev alternative_opened : SelectAlternative E → Within → List ℕ
  alternative_opened x within = alternative_scopes same_scopes (mapped_alternative sequence_scopes (mapped_alternative g x)).alternative within.names

  abbrev alternatives_opened : List (SelectAlternative E) → Within → List ℕ
  alternatives_opened xs within = alternatives_scopes same_scopes (map (mapped_alternative sequence_scopes) (map (mapped_alternative g) xs)) within.names

  alternatives-open : (xs : List (SelectAlternative E)) (next : Option StatementNo) (within : Within)
      → Opens (select_alternatives_put same_making within (alternatives_made xs) next) (alternatives_opened xs within)
  unfolding select_alternatives_put select_alternative_put
  alternatives-open [] next within = λ l. refl
  alternatives-open (x ∷ xs) next within =
      opens-behind (optional_value within (guard_of x.guard))
      (λ guard. alternative_put same_making within (mapped_alternative sequence_put (mapped_alternative g x)).alternative next
      >>= (λ kind.
      select_alternatives_put same_making within (alternatives_made xs) next >>= (λ others. pure (record { guard = guard; kind = kind } ∷ others))))
      (alternatives_opened xs within ++ alternative_opened x within) (condition-keeps within (guard_of x.guard))
      (λ guard. opens-then (alternative_put same_making within (mapped_alternative sequence_put (mapped_alternative g x)).alternative next)
      (λ kind. select_alternatives_put same_making within (alternatives_made xs) next >>= (λ others. pure (record { guard = guard; kind = kind } ∷ others)))
      (alternative_opened x within) (alternatives_opened xs within) (alternative-opens x x.alternative next within)
      (λ kind. opens-before (select_alternatives_put same_making within (alternatives_made xs) next)
      (λ others. pure (record { guard = guard; kind = kind } ∷ others)) (alternatives_opened xs within) (alternatives-open xs next within)
      (λ others. keeps-pure _)))

  abbrev StatementOpens : Statement E → Type 0
  StatementOpens x = (next : Option StatementNo) (within : Within)
      → Opens (statement_put same_making within (mapped_statement sequence_put (mapped_statement g x)) next)
      (statement_scopes same_scopes (mapped_statement sequence_scopes (mapped_statement g x)) within.names)

  abbrev selecting : Place → SelectForm E → Statement E
  selecting place f = statement.Select (record { place = place; form = f })

  else-opens : (x : Option E) (next : Option StatementNo) (within : Within) → Opens (else_put same_making within (option_map m x) next) (inner_if x within)
  unfolding else_put
  else-opens None next within = λ l. refl
  else-opens (Some e) next within = inside-opens e within next

  selective-opens : (xs : List (SelectAlternative E)) (x : Option E) (signs : ℕ) (next : Option StatementNo) (within : Within)
      → Opens (select_alternatives_put same_making within (alternatives_made xs) next
      >>= (λ ys. else_put same_making within (option_map m x) next >>= (λ otherwise. action_put (action.SelectiveAccept ys otherwise) signs next)))
      (inner_if x within ++ alternatives_opened xs within)
  selective-opens xs x signs next within =
      opens-then (select_alternatives_put same_making within (alternatives_made xs) next)
      (λ ys. else_put same_making within (option_map m x) next >>= (λ otherwise. action_put (action.SelectiveAccept ys otherwise) signs next))
      (alternatives_opened xs within) (inner_if x within) (alternatives-open xs next within)
      (λ ys. opens-before (else_put same_making within (option_map m x) next) (λ otherwise. action_put (action.SelectiveAccept ys otherwise) signs next)
      (inner_if x within) (else-opens x next within) (λ otherwise. action-keeps _ signs next))

  timed-opens : (c : Call) (x : Option E) (d : Delay) (y : Option E) (signs : ℕ) (next : Option StatementNo) (within : Within)
      → Opens (call_before same_making within c (option_map m x) next
      >>= (λ call.
      delay_before same_making within d (option_map m y) next >>= (λ delay. action_put (action.TimedCall (the_action call) (the_action delay)) signs next)))
      (inner_if y within ++ inner_if x within)
  timed-opens c x d y signs next within =
      opens-then (call_before same_making within c (option_map m x) next)
      (λ call.
      delay_before same_making within d (option_map m y) next >>= (λ delay. action_put (action.TimedCall (the_action call) (the_action delay)) signs next))
      (inner_if x within) (inner_if y within) (call-before-opens c x next within)
      (λ call. opens-before (delay_before same_making within d (option_map m y) next)
      (λ delay. action_put (action.TimedCall (the_action call) (the_action delay)) signs next) (inner_if y within) (delay-before-opens d y next within)
      (λ delay. action-keeps _ signs next))

  conditional-opens : (c : Call) (x : Option E) (e : E) (signs : ℕ) (next : Option StatementNo) (within : Within)
      → Opens (call_before same_making within c (option_map m x) next
      >>= (λ call.
      inside same_making (m e) within next >>= (λ otherwise. action_put (action.ConditionalCall (the_action call) (the_action otherwise)) signs next)))
      (inner e within ++ inner_if x within)
  conditional-opens c x e signs next within =
      opens-then (call_before same_making within c (option_map m x) next)
      (λ call.
      inside same_making (m e) within next >>= (λ otherwise. action_put (action.ConditionalCall (the_action call) (the_action otherwise)) signs next))
      (inner_if x within) (inner e within) (call-before-opens c x next within)
      (λ call. opens-before (inside same_making (m e) within next)
      (λ otherwise. action_put (action.ConditionalCall (the_action call) (the_action otherwise)) signs next) (inner e within) (inside-opens e within next)
      (λ otherwise. action-keeps _ signs next))

  trigger-opens : (t : Trigger) (x : Option E) (next : Option StatementNo) (within : Within)
      → Opens (trigger_put same_making within t (option_map m x) next) (inner_if x within)
  unfolding trigger_put
  trigger-opens (trigger.Call c) x next within = call-before-opens c x next within
  trigger-opens (trigger.Delay d) x next within = delay-before-opens d x next within

  asynchronous-opens : (t : Trigger) (x : Option E) (e : E) (signs : ℕ) (next : Option StatementNo) (within : Within)
      → Opens (reserved
      >>= (λ s. trigger_put same_making within t (option_map m x) next
      >>= (λ trigger. inside same_making (m e) (in_construct s within) None
      >>= (λ abortable. put_at s (action.AsynchronousSelect (the_action trigger) (the_action abortable)) signs next))))
      (inner e within ++ inner_if x within)
  asynchronous-opens t x e signs next within =
      opens-behind reserved
      (λ s. trigger_put same_making within t (option_map m x) next
      >>= (λ trigger. inside same_making (m e) (in_construct s within) None
      >>= (λ abortable. put_at s (action.AsynchronousSelect (the_action trigger) (the_action abortable)) signs next)))
      (inner e within ++ inner_if x within) reserved-keeps
      (λ s. opens-then (trigger_put same_making within t (option_map m x) next)
      (λ trigger. inside same_making (m e) (in_construct s within) None
      >>= (λ abortable. put_at s (action.AsynchronousSelect (the_action trigger) (the_action abortable)) signs next))
      (inner_if x within) (inner e within) (trigger-opens t x next within)
      (λ trigger. opens-before (inside same_making (m e) (in_construct s within) None)
      (λ abortable. put_at s (action.AsynchronousSelect (the_action trigger) (the_action abortable)) signs next) (inner e within)
      (inside-opens e (in_construct s within) None) (λ abortable. put-keeps s _ signs next)))

  selective : (s : SelectiveAccept E) (x : Option E) (place : Place) → StatementOpens (selecting place (select.SelectiveAccept (record s { otherwise = x })))
  unfolding statement_put select_put selective_accept_put
  selective s None place next within = selective-opens (s.alternatives.first ∷ s.alternatives.others) None _ next within
  selective s (Some e) place next within = selective-opens (s.alternatives.first ∷ s.alternatives.others) (Some e) _ next within

  timed : (t : TimedEntryCall E) (x y : Option E) (place : Place)
      → StatementOpens (selecting place (select.TimedEntryCall (record t { statements = x; delay_statements = y })))
  unfolding statement_put select_put timed_call_put
  timed t None None place next within = timed-opens t.call None t.delay None _ next within
  timed t None (Some f) place next within = timed-opens t.call None t.delay (Some f) _ next within
  timed t (Some e) None place next within = timed-opens t.call (Some e) t.delay None _ next within
  timed t (Some e) (Some f) place next within = timed-opens t.call (Some e) t.delay (Some f) _ next within

  conditional : (c : ConditionalEntryCall E) (x : Option E) (place : Place)
      → StatementOpens (selecting place (select.ConditionalEntryCall (record c { statements = x })))
  unfolding statement_put select_put conditional_call_put
  conditional c None place next within = conditional-opens c.call None c.otherwise _ next within
  conditional c (Some e) place next within = conditional-opens c.call (Some e) c.otherwise _ next within

  asynchronous : (a : AsynchronousSelect E) (x : Option E) (place : Place)
      → StatementOpens (selecting place (select.AsynchronousSelect (record a { statements = x })))
  unfolding statement_put select_put asynchronous_put
  asynchronous a None place next within = asynchronous-opens a.trigger None a.abortable _ next within
  asynchronous a (Some e) place next within = asynchronous-opens a.trigger (Some e) a.abortable _ next within

  select-opens : (s : SelectForm E) (place : Place) → StatementOpens (selecting place s)
  select-opens (select.SelectiveAccept s) place = selective s s.otherwise place
  select-opens (select.TimedEntryCall t) place = timed t t.statements t.delay_statements place
  select-opens (select.ConditionalEntryCall c) place = conditional c c.statements place
  select-opens (select.AsynchronousSelect a) place = asynchronous a a.statements place

  -- ---- all statements

  if-statement : (i : If E) (x : Option E) → StatementOpens (statement.If (record i { otherwise = x }))
  unfolding statement_put if_put
  if-statement i None next within = if-opens i.condition i.statements i.elsifs None next within
  if-statement i (Some e) next within = if-opens i.condition i.statements i.elsifs (Some e) next within

  case-statement : (c : Case E) → StatementOpens (statement.Case c)
  unfolding statement_put case_put
  case-statement c next within =
      opens-before (alternatives_put same_making within (map (case_of sequence_put) (map (case_of g) (c.alternatives.first ∷ c.alternatives.others))) next)
      (λ xs. expression_made c.selector within >>= (λ e. action_put (action.Case e xs) (signs_in within c.selector) next))
      (case_scopes same_scopes (map (case_of sequence_scopes) (map (case_of g) (c.alternatives.first ∷ c.alternatives.others))) within.names)
      (cases-open (c.alternatives.first ∷ c.alternatives.others) next within)
      (λ xs. keeps-then (expression_made c.selector within) (λ e. action_put (action.Case e xs) (signs_in within c.selector) next)
      (expression-keeps c.selector within) (λ e. action-keeps _ _ next))

  accept-statement : (a : Accept E) (x : Option (AcceptBody E)) → StatementOpens (statement.Accept (record a { body = x }))
  unfolding statement_put
  accept-statement a None next within = accept-opens a None next within
  accept-statement a (Some b) next within = accept-opens a (Some b) next within

  statement-opens : (x : Statement E) → StatementOpens x
  unfolding statement_put
  statement-opens (statement.Null place) next within = opens-none (action_put action.Null 0 next) (action-keeps action.Null 0 next)
  statement-opens (statement.Assignment a) next within = opens-none (assignment_put within a next) (assignment-keeps within a next)
  statement-opens (statement.Call c) next within =
      opens-none (call_statement_put within c.name c.arguments next) (call-statement-keeps within c.name c.arguments next)
  statement-opens (statement.Delay d) next within = opens-none (delay_put within d next) (delay-keeps within d next)
  statement-opens (statement.If i) next within = if-statement i i.otherwise next within
  statement-opens (statement.Case c) next within = case-statement c next within
  statement-opens (statement.Loop l) next within = loop-opens l next within
  statement-opens (statement.Exit e) next within = opens-none (exit_put within e next) (exit-keeps within e next)
  statement-opens (statement.Block b) next within = block-opens b next within
  statement-opens (statement.Return place e) next within = opens-none (return_put within e next) (return-keeps within e next)
  statement-opens (statement.Raise place exception) next within = opens-none (raise_put within exception next) (raise-keeps within exception next)
  statement-opens (statement.Abort place tasks) next within = opens-none (abort_put within tasks next) (abort-keeps within tasks next)
  statement-opens (statement.Accept a) next within = accept-statement a a.body next within
  statement-opens (statement.Requeue place entry with_abort) next within =
      opens-none (requeue_put within entry with_abort next) (requeue-keeps within entry with_abort next)
  statement-opens (statement.Select s) next within = select-opens s.form s.place next within

  pub statements-open : (xs : List (Statement E)) (next : Option StatementNo) (within : Within)
      → Opens (statements_put same_making within (map (mapped_statement sequence_put) (map (mapped_statement g) xs)) next)
      (statements_scopes same_scopes (map (mapped_statement sequence_scopes) (map (mapped_statement g) xs)) within.names)
  unfolding statements_put
  statements-open [] next within = λ l. refl
  statements-open (x ∷ xs) next within =
      opens-then (statements_put same_making within (map (mapped_statement sequence_put) (map (mapped_statement g) xs)) next)
      (λ later. statement_put same_making within (mapped_statement sequence_put (mapped_statement g x)) later)
      (statements_scopes same_scopes (map (mapped_statement sequence_scopes) (map (mapped_statement g) xs)) within.names)
      (statement_scopes same_scopes (mapped_statement sequence_scopes (mapped_statement g x)) within.names)
      (statements-open xs next within) (λ later. statement-opens x later within)
