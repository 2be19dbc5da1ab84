-- Loops, blocks and their names (5.5, 5.6), given that the sequences in them are read as they are written.
use Rattle.std.proofs.Common.{◌≡◌, ℕ, Bool, true, false, List, [], ◌∷◌, ◌++◌, refl, sym, subst, codes}
use Rattle.std.specs.Prelude.{Option, Some, None}
use Rattle.ann_base.specs.declared.places.Place.{Place}
use Rattle.ada_lex.specs.Reserved.{is_reserved}
use Rattle.ada_tree.specs.declared.names.Identifier.{Identifier}
use Rattle.ada_tree.specs.declared.statements.Statement.{Statement}
use Rattle.ada_tree.specs.declared.statements.Statement.TheVariants as statements
use Rattle.ada_tree.specs.declared.statements.SequenceRole.{SequenceRole}
use Rattle.ada_tree.specs.declared.statements.SequenceRole.TheVariants as role
use Rattle.ada_tree.specs.declared.statements.Sequence.{Sequence}
use Rattle.ada_tree.specs.declared.statements.Label.{Label}
use Rattle.ada_tree.specs.declared.statements.Loop.{Loop}
use Rattle.ada_tree.specs.declared.statements.Block.{Block}
use Rattle.ada_tree.specs.declared.statements.Iteration.{Iteration}
use Rattle.ada_tree.specs.declared.statements.Iteration.TheVariants as iterations
use Rattle.ada_tree.specs.Written.{Written, Lexeme, word, word_at, delimiter, flag, identifier_written, optional}
use Rattle.ada_tree.specs.Spelling.{sequence_written}
use Rattle.ada_tree.specs.SpellingExpressions.{expression_written}
use Rattle.ada_tree.specs.SpellingStatements.{semicolon, statements_written, iteration_written, label_written}
use Rattle.ada_tree.specs.SpellingStatements.{label_end_written, loop_written, block_opened, block_written, statement_written}
use Rattle.ada_tree.specs.Shape.{sequence_fits}
use Rattle.ada_tree.specs.ShapeStatements.{loop_fits, block_fits, parts_fit}
use Rattle.ada_grammar.specs.Reading.{Parser, choose, starts, sees_word, end_name_of}
use Rattle.ada_grammar.specs.ReadingSimple.{label_end_of}
use Rattle.ada_grammar.specs.ReadingStatements.{begins_statement, begins_block, loop_of, block_end_of, declare_of, begin_of, block_of, labelled_of}
use Rattle.grammar_laws.specs.Leads.{Leads}
use Rattle.grammar_laws.proofs.Reading.Exact.{Rest, Any, itself, Exact, ready, closing, first_is}
use Rattle.grammar_laws.proofs.Reading.Tokens.{always, shapeless, sees_word_at_first}
use Rattle.grammar_laws.proofs.Reading.Ends.{ends_statements, ends_sequence}
use Rattle.grammar_laws.proofs.Reading.StatementsSteps.{placed, named, worded, delimited, part, last_part, such, rewritten, through, Came, decided, Side}
use Rattle.grammar_laws.proofs.Reading.ClausesEnds.{ends_iteration}
use Rattle.grammar_laws.proofs.Reading.ClausesStatements.{iteration_exact}
use Rattle.grammar_laws.proofs.Reading.Statements.{before_semicolon, end_name_exact}

-- ---- the name behind the end

abbrev pub label_name : Option Label → Option Identifier
label_name None = None
label_name (Some label) = Some label.name

same_some : {A : Type 0} (a b : A) → Some a ≡ Some b → a ≡ b
same_some a b e = (cc)

abbrev label_of : Identifier → Bool → Label
label_of name named = record { name = name; named_at_end = named }

nothing_behind : (o : Option Label) → label_name o ≡ None → [] ≡ optional label_end_written o
nothing_behind None e = refl
nothing_behind (Some label) e = absurd (cc)

labelled_so : (name : Identifier) (o : Option Label) → label_name o ≡ Some name → Came (λ (named : Bool). Some (label_of name named)) Any o
labelled_so name None e = absurd (cc)
labelled_so name (Some label) e = record { from = label.named_at_end; known = tt; is = rw (← same_some label.name name e) refl }

no_label : (o : Option Label) → label_name o ≡ None → None ≡ o
no_label None e = refl
no_label (Some label) e = absurd (cc)

pub label_end_exact : (name : Option Identifier)
    → Rest itself (λ o. label_name o ≡ name) (optional label_end_written) shapeless before_semicolon (label_end_of name)
label_end_exact None = rewritten (ready itself (λ o. label_name o ≡ None) before_semicolon None refl no_label) nothing_behind
label_end_exact (Some name) =
    through (λ named. Some (label_of name named))
    (closing (λ named. Some (label_of name named)) Any before_semicolon itself _ shapeless (end_name_of name.text) itself (end_name_exact name.text)
    (λ named. tt) (λ named. refl) (λ named b p e. e))
    (λ named p. refl) (λ named p. refl) (λ named p. refl) (labelled_so name)

-- ---- what stands behind the name and the colon

abbrev pub loop_behind_label : Loop Sequence → List Written
loop_behind_label l =
    iteration_written l.iteration ++ word_at l.place (codes "loop") ∷ (statements_written sequence_written l.statements
    ++ word (codes "end") ∷ word (codes "loop") ∷ (optional label_end_written l.label ++ semicolon))

abbrev behind_block : Block Sequence → List Written
behind_block b = word (codes "end") ∷ (optional label_end_written b.label ++ semicolon)

abbrev pub block_behind_label : Block Sequence → List Written
block_behind_label b = block_opened sequence_written b.declare b.place b.sequence ++ behind_block b

unnamed : (o : Option Label) (ws : List Written) → label_name o ≡ None → ws ≡ optional label_written o ++ ws
unnamed None ws e = refl
unnamed (Some label) ws e = absurd (cc)

abbrev pub statement_label : Statement Sequence → Option Label
statement_label (statements.Null place) = None
statement_label (statements.Assignment a) = None
statement_label (statements.Call c) = None
statement_label (statements.Delay d) = None
statement_label (statements.If i) = None
statement_label (statements.Case c) = None
statement_label (statements.Loop l) = l.label
statement_label (statements.Exit e) = None
statement_label (statements.Block b) = b.label
statement_label (statements.Return place value) = None
statement_label (statements.Raise place exception) = None
statement_label (statements.Abort place tasks) = None
statement_label (statements.Accept a) = None
statement_label (statements.Requeue place entry with_abort) = None
statement_label (statements.Select s) = None

abbrev behind_label : Statement Sequence → List Written
behind_label (statements.Null place) = []
behind_label (statements.Assignment a) = []
behind_label (statements.Call c) = []
behind_label (statements.Delay d) = []
behind_label (statements.If i) = []
behind_label (statements.Case c) = []
behind_label (statements.Loop l) = loop_behind_label l
behind_label (statements.Exit e) = []
behind_label (statements.Block b) = block_behind_label b
behind_label (statements.Return place value) = []
behind_label (statements.Raise place exception) = []
behind_label (statements.Abort place tasks) = []
behind_label (statements.Accept a) = []
behind_label (statements.Requeue place entry with_abort) = []
behind_label (statements.Select s) = []

abbrev pub HasLabel : Identifier → Statement Sequence → Type 0
HasLabel name s = label_name (statement_label s) ≡ Some name

-- a statement with a name before it
abbrev pub IsLabelled : Statement Sequence → Type 0
IsLabelled s = (name : Identifier) × HasLabel name s

module _ (left : ℕ) (sequence : SequenceRole → Parser Sequence)
    (exact : (r : SequenceRole) → Exact (λ q. sequence_written q r) (λ q. sequence_fits q r left) (ends_sequence r) (sequence r)) where
  -- ---- loops, behind the name and the colon

  pub loop_exact : (name : Option Identifier)
      → Rest (λ (l : Loop Sequence). statements.Loop l) (λ l. label_name l.label ≡ name) loop_behind_label (loop_fits sequence_fits left) always
      (loop_of left sequence name)
  unfolding loop_of starts begins_statement is_reserved
  loop_exact name =
      part (λ l. l.iteration) (iteration_exact left) (λ i ls r p l end. first_is ends_iteration true (word_at i.place (codes "loop")) (λ l ls. refl) _ ls r l)
      (λ iteration.
      placed (λ l. l.place) (codes "loop") (λ place.
      last_part (λ l. l.statements) (exact role.Statements)
      (λ i ls r p l end.
      first_is ends_statements true (word (codes "end")) (λ l ls. refl) (word (codes "loop") ∷ (optional label_end_written i.label ++ semicolon)) ls r l)
      (λ inside.
      worded (codes "end") (worded (codes "loop") (
      such (λ o. label_name o ≡ name) (λ l. l.label) (label_end_exact name) (λ l p. p.0.0.0)
      (λ i ls r p l end. first_is before_semicolon true (delimiter (codes ";")) (λ l ls. refl) [] ls r l) (λ label known.
      delimited (codes ";") (
      ready _ _ always (record { label = label; iteration = iteration; place = place; statements = inside }) ((((known, refl), refl), refl), refl)
      (λ j p. rw (p.0.0.0.1, p.0.0.1, p.0.1, p.1) refl))))))))

  -- ---- blocks, behind the name and the colon

  abbrev Declares : Option Identifier → Bool → Block Sequence → Type 0
  Declares name declare b = (label_name b.label ≡ name) × (declare ≡ b.declare)

  block_end_exact : (name : Option Identifier) (place : Place) (declare : Bool) (inside : Sequence)
      → Rest (λ (b : Block Sequence). statements.Block b) (λ b. (Declares name declare b × (place ≡ b.place)) × (inside ≡ b.sequence)) behind_block
      (λ b. true) always (block_end_of left sequence name place declare inside)
  unfolding block_end_of starts
  block_end_exact name place declare inside =
      worded (codes "end") (
      such (λ o. label_name o ≡ name) (λ b. b.label) (label_end_exact name) (λ b p. p.0.0.0)
      (λ i ls r p l end. first_is before_semicolon true (delimiter (codes ";")) (λ l ls. refl) [] ls r l) (λ label known.
      delimited (codes ";") (
      ready _ _ always (record { label = label; place = place; declare = declare; sequence = inside }) ((((known, refl), refl), refl), refl)
      (λ j p. rw (p.0.0.0.1, p.0.0.1, p.0.1, p.1) refl))))

  declare_exact : (name : Option Identifier)
      → Rest (λ (b : Block Sequence). statements.Block b) (Declares name true)
      (λ b. word_at b.place (codes "declare") ∷ (sequence_written b.sequence role.Body ++ behind_block b))
      (λ b. sequence_fits b.sequence role.Body left) always (declare_of left sequence name)
  unfolding declare_of starts begins_statement is_reserved
  declare_exact name =
      placed (λ b. b.place) (codes "declare") (λ place.
      last_part (λ b. b.sequence) (exact role.Body)
      (λ b ls r p l end.
      first_is (ends_sequence role.Body) true (word (codes "end")) (λ l ls. refl) (optional label_end_written b.label ++ semicolon) ls r l)
      (λ inside.
      block_end_exact name place true inside))

  begin_exact : (name : Option Identifier)
      → Rest (λ (b : Block Sequence). statements.Block b) (Declares name false)
      (λ b. word_at b.place (codes "begin") ∷ (sequence_written b.sequence role.Handled ++ behind_block b))
      (λ b. sequence_fits b.sequence role.Handled left) always (begin_of left sequence name)
  unfolding begin_of starts begins_statement is_reserved
  begin_exact name =
      placed (λ b. b.place) (codes "begin") (λ place.
      last_part (λ b. b.sequence) (exact role.Handled)
      (λ b ls r p l end.
      first_is (ends_sequence role.Handled) true (word (codes "end")) (λ l ls. refl) (optional label_end_written b.label ++ semicolon) ls r l)
      (λ inside.
      block_end_exact name place false inside))

  -- which of the two words stands there
  declares_there : (name : Option Identifier) (b : Block Sequence) (declare : Bool) → declare ≡ b.declare → (ls r : List Lexeme) → label_name b.label ≡ name
      → Leads (block_opened sequence_written declare b.place b.sequence ++ behind_block b) ls r
      → Side (sees_word (codes "declare")) (Declares name true b) (Declares name false b) ls
  unfolding starts
  declares_there name b true d ls r known l = record { value = true; is = sees_word_at_first (codes "declare") b.place _ ls r l; known = (known, d) }
  declares_there name b false d ls r known l =
      record { value = false; is = first_is (sees_word (codes "declare")) false (word_at b.place (codes "begin")) (λ l ls. refl) _ ls r l; known = (known, d) }

  pub block_exact : (name : Option Identifier)
      → Rest (λ (b : Block Sequence). statements.Block b) (λ b. label_name b.label ≡ name) block_behind_label (block_fits sequence_fits left) always
      (block_of left sequence name)
  unfolding block_of
  block_exact name =
      decided (sees_word (codes "declare"))
      (through {P = Declares name true} itself (declare_exact name) (λ b p. p) (λ b p. rw (← p.1) refl) (λ b p. rw (← p.1) refl)
      (λ b p. record { from = b; known = p; is = refl }))
      (through {P = Declares name false} itself (begin_exact name) (λ b p. p) (λ b p. rw (← p.1) refl) (λ b p. rw (← p.1) refl)
      (λ b p. record { from = b; known = p; is = refl }))
      (λ b p. p.0) (λ b p. p.0)
      (λ b ls r p l end. declares_there name b b.declare refl ls r p l)

  -- ---- without a name

  pub unlabelled_loop_exact : Rest (λ (l : Loop Sequence). statements.Loop l) (λ l. label_name l.label ≡ None) (loop_written sequence_written)
      (loop_fits sequence_fits left) always (loop_of left sequence None)
  unlabelled_loop_exact = rewritten (loop_exact None) (λ l p. unnamed l.label (loop_behind_label l) p)

  pub unlabelled_block_exact : Rest (λ (b : Block Sequence). statements.Block b) (λ b. label_name b.label ≡ None) (block_written sequence_written)
      (block_fits sequence_fits left) always (block_of left sequence None)
  unlabelled_block_exact = rewritten (block_exact None) (λ b p. unnamed b.label (block_behind_label b) p)

  -- ---- with a name

  abbrev OfBlock : Identifier → Statement Sequence → Type 0
  OfBlock name = Came (λ (b : Block Sequence). statements.Block b) (λ b. label_name b.label ≡ Some name)

  abbrev OfLoop : Identifier → Statement Sequence → Type 0
  OfLoop name = Came (λ (l : Loop Sequence). statements.Loop l) (λ l. label_name l.label ≡ Some name)

  block_begins : (b : Block Sequence) (declare : Bool) (ls r : List Lexeme)
      → Leads (block_opened sequence_written declare b.place b.sequence ++ behind_block b) ls r → begins_block ls ≡ true
  unfolding starts
  block_begins b true ls r l = first_is begins_block true (word_at b.place (codes "declare")) (λ l ls. refl) _ ls r l
  block_begins b false ls r l = first_is begins_block true (word_at b.place (codes "begin")) (λ l ls. refl) _ ls r l

  loop_begins : (i : Iteration) (p : Place) (ws : List Written) (ls r : List Lexeme) → Leads (iteration_written i ++ word_at p (codes "loop") ∷ ws) ls r
      → begins_block ls ≡ false
  unfolding starts
  loop_begins iterations.Forever p ws ls r l = first_is begins_block false (word_at p (codes "loop")) (λ l ls. refl) ws ls r l
  loop_begins (iterations.While place condition) p ws ls r l = first_is begins_block false (word_at place (codes "while")) (λ l ls. refl) _ ls r l
  loop_begins (iterations.For place parameter reverse low high) p ws ls r l = first_is begins_block false (word_at place (codes "for")) (λ l ls. refl)
      (identifier_written parameter ∷ word (codes "in")
      ∷ (flag reverse (word (codes "reverse") ∷ []) ++ (expression_written low ++ delimiter (codes "..") ∷ expression_written high)
      ++ word_at p (codes "loop") ∷ ws)) ls r l

  block_or_loop : (name : Identifier) (s : Statement Sequence) (ls r : List Lexeme) → HasLabel name s → Leads (behind_label s) ls r
      → Side begins_block (OfBlock name s) (OfLoop name s) ls
  block_or_loop name (statements.Null place) ls r e l = absurd (cc)
  block_or_loop name (statements.Assignment a) ls r e l = absurd (cc)
  block_or_loop name (statements.Call c) ls r e l = absurd (cc)
  block_or_loop name (statements.Delay d) ls r e l = absurd (cc)
  block_or_loop name (statements.If i) ls r e l = absurd (cc)
  block_or_loop name (statements.Case c) ls r e l = absurd (cc)
  block_or_loop name (statements.Loop s) ls r e l = record {
    value = false;
    is = loop_begins s.iteration s.place _ ls r l;
    known = record { from = s; known = e; is = refl };
  }
  block_or_loop name (statements.Exit s) ls r e l = absurd (cc)
  block_or_loop name (statements.Block b) ls r e l = record {
    value = true;
    is = block_begins b b.declare ls r l;
    known = record { from = b; known = e; is = refl };
  }
  block_or_loop name (statements.Return place value) ls r e l = absurd (cc)
  block_or_loop name (statements.Raise place exception) ls r e l = absurd (cc)
  block_or_loop name (statements.Abort place tasks) ls r e l = absurd (cc)
  block_or_loop name (statements.Accept a) ls r e l = absurd (cc)
  block_or_loop name (statements.Requeue place entry with_abort) ls r e l = absurd (cc)
  block_or_loop name (statements.Select s) ls r e l = absurd (cc)

  behind_label_exact : (name : Identifier)
      → Rest itself (HasLabel name) behind_label (λ s. parts_fit sequence_fits s left) always
      (choose begins_block (block_of left sequence (Some name)) (loop_of left sequence (Some name)))
  behind_label_exact name =
      decided begins_block
      (through {P = OfBlock name} (λ b. statements.Block b) (block_exact (Some name)) (λ b p. record { from = b; known = p; is = refl }) (λ b p. refl)
      (λ b p. refl) (λ s p. p))
      (through {P = OfLoop name} (λ l. statements.Loop l) (loop_exact (Some name)) (λ l p. record { from = l; known = p; is = refl }) (λ l p. refl)
      (λ l p. refl) (λ s p. p))
      (λ s p. subst (HasLabel name) p.is p.known) (λ s p. subst (HasLabel name) p.is p.known)
      (λ s ls r e l end. block_or_loop name s ls r e l)

  abbrev Labelled : Type 0
  Labelled = Identifier × Statement Sequence

  named_exact : Rest (λ (x : Labelled). x.1) (λ x. HasLabel x.0 x.1) (λ x. identifier_written x.0 ∷ delimiter (codes ":") ∷ behind_label x.1)
      (λ x. parts_fit sequence_fits x.1 left) always (labelled_of left sequence)
  unfolding labelled_of
  named_exact =
      named (λ x. x.0) (λ name.
      delimited (codes ":") (
      through (λ s. (name, s)) (behind_label_exact name) (λ s p. (p, refl)) (λ s p. refl) (λ s p. refl)
      (λ x p. record { from = x.1; known = subst (λ (z : Identifier). HasLabel z x.1) (sym p.1) p.0; is = rw p.1 refl })))

  with_name : (name : Identifier) (o : Option Label) (ws : List Written) → label_name o ≡ Some name
      → identifier_written name ∷ delimiter (codes ":") ∷ ws ≡ optional label_written o ++ ws
  with_name name None ws e = absurd (cc)
  with_name name (Some label) ws e = rw (same_some label.name name e) refl

  labelled_written : (name : Identifier) (s : Statement Sequence) → HasLabel name s
      → identifier_written name ∷ delimiter (codes ":") ∷ behind_label s ≡ statement_written sequence_written s
  labelled_written name (statements.Null place) e = absurd (cc)
  labelled_written name (statements.Assignment a) e = absurd (cc)
  labelled_written name (statements.Call c) e = absurd (cc)
  labelled_written name (statements.Delay d) e = absurd (cc)
  labelled_written name (statements.If i) e = absurd (cc)
  labelled_written name (statements.Case c) e = absurd (cc)
  labelled_written name (statements.Loop s) e = with_name name s.label (loop_behind_label s) e
  labelled_written name (statements.Exit s) e = absurd (cc)
  labelled_written name (statements.Block b) e = with_name name b.label (block_behind_label b) e
  labelled_written name (statements.Return place value) e = absurd (cc)
  labelled_written name (statements.Raise place exception) e = absurd (cc)
  labelled_written name (statements.Abort place tasks) e = absurd (cc)
  labelled_written name (statements.Accept a) e = absurd (cc)
  labelled_written name (statements.Requeue place entry with_abort) e = absurd (cc)
  labelled_written name (statements.Select s) e = absurd (cc)

  pub labelled_exact : Rest itself IsLabelled (statement_written sequence_written) (λ s. parts_fit sequence_fits s left) always (labelled_of left sequence)
  labelled_exact =
      through {J = Labelled} {Q = λ x. HasLabel x.0 x.1} (λ x. x.1) named_exact (λ x p. (x.0, p)) (λ x p. labelled_written x.0 x.1 p) (λ x p. refl)
      (λ s p. record { from = (p.0, s); known = p.1; is = refl })
