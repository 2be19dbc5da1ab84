-- All statements (5.1), given that the sequences in them are read as they are written.
use Rattle.std.proofs.Common.{◌≡◌, ℕ, Bool, true, false, List, [], ◌∷◌, ◌++◌, refl, sym, ap, subst, ◌∙◌, codes}
use Rattle.std.proofs.lemmas.Bool.{and_right, false≢true}
use Rattle.std.proofs.lemmas.Slice.Eq.{bytes_eq-Decides}
use Rattle.std.specs.Prelude.{Option, Some, None, flat_map}
use Rattle.std.specs.Str.{bytes_eq}
use Rattle.ann_base.specs.declared.places.Place.{Place}
use Rattle.ada_lex.specs.Reserved.{is_reserved}
use Rattle.ada_tree.specs.declared.names.Identifier.{Identifier}
use Rattle.ada_tree.specs.declared.names.Name.{Name}
use Rattle.ada_tree.specs.declared.statements.Statement.{Statement}
use Rattle.ada_tree.specs.declared.statements.Statement.TheVariants as statements
use Rattle.ada_tree.specs.declared.statements.SequenceRole.{SequenceRole}
use Rattle.ada_tree.specs.declared.statements.Sequence.{Sequence}
use Rattle.ada_tree.specs.declared.expressions.Expression.{Expression}
use Rattle.ada_tree.specs.declared.expressions.Argument.{Argument}
use Rattle.ada_tree.specs.declared.statements.Label.{Label}
use Rattle.ada_tree.specs.declared.statements.Call.{Call}
use Rattle.ada_tree.specs.declared.statements.Assignment.{Assignment}
use Rattle.ada_tree.specs.declared.statements.Loop.{Loop}
use Rattle.ada_tree.specs.declared.statements.Block.{Block}
use Rattle.ada_tree.specs.declared.statements.Iteration.{Iteration}
use Rattle.ada_tree.specs.declared.statements.Iteration.TheVariants as iterations
use Rattle.ada_tree.specs.declared.statements.SequenceRole.TheVariants as role
use Rattle.ada_tree.specs.declared.statements.Accept.{Accept}
use Rattle.ada_tree.specs.declared.statements.Delay.{Delay}
use Rattle.ada_tree.specs.Written.{Written, Lexeme, word, word_at, delimiter, flag, separated}
use Rattle.ada_tree.specs.Written.{identifier_written, one_identifier, behind, name_written, optional}
use Rattle.ada_tree.specs.Spelling.{sequence_written}
use Rattle.ada_tree.specs.SpellingStatements.{semicolon, call_written, index_written, assignment_written, delay_written, label_written}
use Rattle.ada_tree.specs.SpellingStatements.{iteration_written, loop_written, block_opened, block_written, parameters_written}
use Rattle.ada_tree.specs.SpellingStatements.{accept_body_written, with_abort_written, accept_written, statement_written}
use Rattle.ada_tree.specs.SpellingExpressions.{expression_written, arguments_written}
use Rattle.ada_tree.specs.Shape.{sequence_fits}
use Rattle.ada_tree.specs.ShapeStatements.{delay_fits, accept_fits, parts_fit}
use Rattle.ada_grammar.specs.Reading.{Parser, ◌>>=◌, pure, starts, starts_both, is_word, is_identifier, sees_word, sees_delimiter}
use Rattle.ada_grammar.specs.ReadingSimple.{delay_of, simple_of, null_of, exit_of, return_of, raise_of, abort_of, requeue_of}
use Rattle.ada_grammar.specs.ReadingStatements.{begins_loop, begins_block, begins_compound, sees_label, if_of, case_of, loop_of, block_of, labelled_of}
use Rattle.ada_grammar.specs.ReadingStatements.{accept_of, select_of, compound_of, named_statement_of, simple_statement_of, statement_inside_of}
use Rattle.grammar_laws.specs.Leads.{Leads}
use Rattle.grammar_laws.proofs.Reading.Leading.{leads_through}
use Rattle.grammar_laws.proofs.Reading.Exact.{done, Rest, Any, itself, Exact, closing, first_is, first_optional, first_each}
use Rattle.grammar_laws.proofs.Reading.Tokens.{always}
use Rattle.grammar_laws.proofs.Reading.Choices.{chosen, passed, Sound, either}
use Rattle.grammar_laws.proofs.Reading.Ends.{ends_sequence}
use Rattle.grammar_laws.proofs.Reading.StatementsSteps.{begun_by}
use Rattle.grammar_laws.proofs.Reading.ClausesCalls.{delay_exact, simple_sound, assignment_complete, call_complete}
use Rattle.grammar_laws.proofs.Reading.ClausesStatements.{null_exact, exit_exact, return_exact, raise_exact, abort_exact, requeue_exact}
use Rattle.grammar_laws.proofs.Reading.Statements.{if_exact, case_exact, accept_exact}
use Rattle.grammar_laws.proofs.Reading.StatementsLoops.{label_name, statement_label, loop_behind_label, block_behind_label}
use Rattle.grammar_laws.proofs.Reading.StatementsLoops.{unlabelled_loop_exact, unlabelled_block_exact, labelled_exact}
use Rattle.grammar_laws.proofs.Reading.Selects.{ReadsDeeper, select_exact}

-- ---- an identifier is no reserved word

no_text : (text other : List ℕ) → is_reserved text ≡ true → is_reserved other ≡ false → (v : Bool) → bytes_eq other text ≡ v → v ≡ false
no_text text other reserved free true e = absurd (false≢true (sym free ∙ (ap is_reserved ((bytes_eq-Decides other text).0 e) ∙ reserved)))
no_text text other reserved free false e = refl

unreserved : (text : List ℕ) → is_reserved text ≡ true → (i : Identifier) (ws : List Written) (ls r : List Lexeme) → Leads (identifier_written i ∷ ws) ls r
    → sees_word text ls ≡ false
unfolding starts
unreserved text reserved i ws [] r l = absurd l
unreserved text reserved i ws (l ∷ ls) r s =
    and_right (is_word l.kind) (bytes_eq l.text text) (no_text text l.text reserved s.0.identifier (bytes_eq l.text text) refl)

-- ---- whether a name and a colon stand there

no_colon : (name : Name) (ws : List Written) → ((ls r : List Lexeme) → Leads ws ls r → sees_delimiter (codes ":") ls ≡ false) → (ls r : List Lexeme)
    → Leads (name_written name ++ ws) ls r → sees_label ls ≡ false
unfolding starts_both starts
no_colon name ws rest [] r l = absurd l
no_colon name ws rest (l ∷ ls) r s =
    and_right (is_identifier l) (sees_delimiter (codes ":") ls)
    (first_each (sees_delimiter (codes ":")) false (behind (delimiter (codes ".")) one_identifier) ws
    (λ i ls m l.
    first_is (sees_delimiter (codes ":")) false (delimiter (codes ".")) (λ l ls. refl) (one_identifier i) ls m l) rest name.parts.others ls r s.1)

call_no_label : (c : Call) (ls r : List Lexeme) → Leads (call_written c) ls r → sees_label ls ≡ false
unfolding starts
call_no_label c ls r l =
    no_colon c.name (arguments_written expression_written c.arguments ++ semicolon) (λ ls r l. arguments_or_semicolon c.arguments ls r l) ls r l
  where
    arguments_or_semicolon : (arguments : List (Argument Expression)) (ls r : List Lexeme)
        → Leads (arguments_written expression_written arguments ++ semicolon) ls r → sees_delimiter (codes ":") ls ≡ false
    arguments_or_semicolon [] ls r l = first_is (sees_delimiter (codes ":")) false (delimiter (codes ";")) (λ l ls. refl) [] ls r l
    arguments_or_semicolon (a ∷ arguments) ls r l =
        let t = leads_through (arguments_written expression_written (a ∷ arguments)) semicolon ls r l in
        first_is (sees_delimiter (codes ":")) false (delimiter (codes "(")) (λ l ls. refl) _ ls t.middle t.first

assignment_no_label : (a : Assignment) (ls r : List Lexeme) → Leads (assignment_written a) ls r → sees_label ls ≡ false
unfolding starts
assignment_no_label a ls r l =
    no_colon a.target (optional index_written a.index ++ delimiter (codes ":=") ∷ (expression_written a.value ++ semicolon))
    (λ ls r l. first_optional (sees_delimiter (codes ":")) false index_written (delimiter (codes ":=") ∷ (expression_written a.value ++ semicolon))
    (λ i ls m l. first_is (sees_delimiter (codes ":")) false (delimiter (codes "(")) (λ l ls. refl) (expression_written i ++ delimiter (codes ")") ∷ []) ls m l)
    (λ ls r l.
    first_is (sees_delimiter (codes ":")) false (delimiter (codes ":=")) (λ l ls. refl) (expression_written a.value ++ semicolon) ls r l) a.index ls r l)
    ls r l

label_there : (label : Label) (ws : List Written) (ls r : List Lexeme) → Leads (label_written label ++ ws) ls r → sees_label ls ≡ true
unfolding starts_both starts
label_there label ws [] r l = absurd l
label_there label ws (l ∷ []) r s = absurd s.1
label_there label ws (l ∷ m ∷ ls) r s = rw (← s.0.kind, s.0.identifier, ← s.1.0.kind, ← s.1.0.text) refl

-- one form of a whole
sound_form : {X I J : Type 0} {make : I → X} {w : I → List Written} {ok : I → Bool} {P : J → Type 0} {wj : J → List Written} {okj : J → Bool}
    {ends : List Lexeme → Bool} {p : Parser X}
    (form : J → I)
    → Rest (λ j. make (form j)) P wj okj ends p → ((j : J) → wj j ≡ w (form j)) → ((j : J) → okj j ≡ ok (form j)) → Sound make w ok p
sound_form form law same okay = record {
  by = λ ls x r e.
      let f = law.sound ls x r e in
      record {
        item = form f.item;
        is = f.is;
        fits = tt;
        leads = subst (λ (ws : List Written). Leads ws ls r) (same f.item) f.leads;
        shaped = sym (okay f.item) ∙ f.shaped;
      };
}

module _ (left : ℕ) (sequence : SequenceRole → Parser Sequence) (deeper : SequenceRole → Parser Sequence)
    (exact : (r : SequenceRole) → Exact (λ q. sequence_written q r) (λ q. sequence_fits q r left) (ends_sequence r) (sequence r))
    (known : ReadsDeeper left deeper) where
  accept_statement_exact : Rest (λ (a : Accept Sequence). statements.Accept a) Any (accept_written sequence_written) (accept_fits sequence_fits left) always
      (accept_of left sequence >>= λ accept. pure (statements.Accept accept))
  accept_statement_exact =
      closing (λ a. statements.Accept a) Any always itself (accept_written sequence_written) (accept_fits sequence_fits left) (accept_of left sequence) itself
      (accept_exact left sequence exact) (λ a. tt) (λ a. refl) (λ a i p e. e)

  delay_statement_exact : Rest {X = Statement Sequence} (λ (d : Delay). statements.Delay d) Any delay_written (delay_fits left) always
      (delay_of left >>= λ delay. pure (statements.Delay delay))
  delay_statement_exact =
      closing (λ d. statements.Delay d) Any always itself delay_written (delay_fits left) (delay_of left) itself (delay_exact left) (λ a. tt) (λ a. refl)
      (λ a i p e. e)

  abbrev SoundStatement : Parser (Statement Sequence) → Type 0
  SoundStatement p = Sound itself (statement_written sequence_written) (λ s. parts_fit sequence_fits s left) p

  compound_sound : SoundStatement (compound_of left sequence deeper)
  unfolding compound_of
  compound_sound =
      either (sees_word (codes "if")) (sound_form (λ i. statements.If i) (if_exact left sequence exact) (λ i. refl) (λ i. refl))
      (either (sees_word (codes "case")) (sound_form (λ c. statements.Case c) (case_exact left sequence exact) (λ c. refl) (λ c. refl))
      (either begins_loop (sound_form (λ l. statements.Loop l) (unlabelled_loop_exact left sequence exact) (λ l. refl) (λ l. refl))
      (either begins_block (sound_form (λ b. statements.Block b) (unlabelled_block_exact left sequence exact) (λ b. refl) (λ b. refl))
      (either (sees_word (codes "accept")) (sound_form (λ a. statements.Accept a) accept_statement_exact (λ a. refl) (λ a. refl))
      (sound_form (λ s. statements.Select s) (select_exact left sequence deeper exact known) (λ s. refl) (λ s. refl))))))

  named_sound : SoundStatement (named_statement_of left sequence deeper)
  unfolding named_statement_of
  named_sound =
      either sees_label (sound_form itself (labelled_exact left sequence exact) (λ s. refl) (λ s. refl)) (simple_sound sequence_written sequence_fits left)

  simple_statement_sound : SoundStatement (simple_statement_of left sequence deeper)
  unfolding simple_statement_of
  simple_statement_sound =
      either (sees_word (codes "null")) (sound_form (λ p. statements.Null p) null_exact (λ p. refl) (λ p. refl))
      (either (sees_word (codes "delay")) (sound_form (λ d. statements.Delay d) delay_statement_exact (λ d. refl) (λ d. refl))
      (either (sees_word (codes "exit")) (sound_form (λ e. statements.Exit e) (exit_exact left) (λ e. refl) (λ e. refl))
      (either (sees_word (codes "return")) (sound_form (λ x. statements.Return x.0 x.1) (return_exact left) (λ x. refl) (λ x. refl))
      (either (sees_word (codes "raise")) (sound_form (λ x. statements.Raise x.0 x.1) raise_exact (λ x. refl) (λ x. refl))
      (either (sees_word (codes "abort")) (sound_form (λ x. statements.Abort x.0 x.1) abort_exact (λ x. refl) (λ x. refl))
      (either (sees_word (codes "requeue")) (sound_form (λ x. statements.Requeue x.0 x.1.0 x.1.1) requeue_exact (λ x. refl) (λ x. refl))
      named_sound))))))

  pub statement_sound : SoundStatement (statement_inside_of left sequence deeper)
  unfolding statement_inside_of
  statement_sound = either begins_compound compound_sound simple_statement_sound

  -- ---- statements that begin with an identifier

  named_there : (i : Identifier) (ws : List Written) (ls r : List Lexeme) → Leads (identifier_written i ∷ ws) ls r
      → statement_inside_of left sequence deeper ls ≡ named_statement_of left sequence deeper ls
  unfolding statement_inside_of simple_statement_of is_reserved
  named_there i ws ls r l =
      rw (
        unreserved (codes "if") refl i ws ls r l,
        unreserved (codes "case") refl i ws ls r l,
        unreserved (codes "loop") refl i ws ls r l,
        unreserved (codes "while") refl i ws ls r l,
        unreserved (codes "for") refl i ws ls r l,
        unreserved (codes "declare") refl i ws ls r l,
        unreserved (codes "begin") refl i ws ls r l,
        unreserved (codes "accept") refl i ws ls r l,
        unreserved (codes "select") refl i ws ls r l,
        unreserved (codes "null") refl i ws ls r l,
        unreserved (codes "delay") refl i ws ls r l,
        unreserved (codes "exit") refl i ws ls r l,
        unreserved (codes "return") refl i ws ls r l,
        unreserved (codes "raise") refl i ws ls r l,
        unreserved (codes "abort") refl i ws ls r l,
        unreserved (codes "requeue") refl i ws ls r l,
      )
      refl

  labelled_complete : (label : Label) (s : Statement Sequence) → label_name (statement_label s) ≡ Some label.name → (ws : List Written) (ls r : List Lexeme)
      → parts_fit sequence_fits s left ≡ true
      → Leads (statement_written sequence_written s) ls r → Leads (label_written label ++ ws) ls r → statement_inside_of left sequence deeper ls ≡ done s r
  unfolding named_statement_of
  labelled_complete label s e ws ls r o l there =
      named_there label.name (delimiter (codes ":") ∷ ws) ls r there
      ∙ chosen sees_label (labelled_of left sequence) (simple_of left) ls (done s r) (label_there label ws ls r there)
      ((labelled_exact left sequence exact).complete s ls r (label.name, e) o l refl)

  assigned : (a : Assignment) (ls r : List Lexeme) → parts_fit sequence_fits (statements.Assignment a) left ≡ true → Leads (assignment_written a) ls r
      → statement_inside_of left sequence deeper ls ≡ done (statements.Assignment a) r
  unfolding named_statement_of
  assigned a ls r o l =
      named_there a.target.parts.first
      (flat_map (behind (delimiter (codes ".")) one_identifier) a.target.parts.others
      ++ (optional index_written a.index ++ delimiter (codes ":=") ∷ (expression_written a.value ++ semicolon))) ls r l
      ∙ passed sees_label (labelled_of left sequence) (simple_of left) ls (done (statements.Assignment a) r) (assignment_no_label a ls r l)
      (assignment_complete left a ls r o l)

  called : (c : Call) (ls r : List Lexeme) → parts_fit sequence_fits (statements.Call c) left ≡ true → Leads (call_written c) ls r
      → statement_inside_of left sequence deeper ls ≡ done (statements.Call c) r
  unfolding named_statement_of
  called c ls r o l =
      named_there c.name.parts.first
      (flat_map (behind (delimiter (codes ".")) one_identifier) c.name.parts.others
      ++ (arguments_written expression_written c.arguments ++ semicolon)) ls r l
      ∙ passed sees_label (labelled_of left sequence) (simple_of left) ls (done (statements.Call c) r) (call_no_label c ls r l) (call_complete left c ls r o l)

  -- ---- loops and blocks

  loop_there : (i : Iteration) (p : Place) (ws : List Written) (ls r : List Lexeme) → Leads (iteration_written i ++ word_at p (codes "loop") ∷ ws) ls r
      → statement_inside_of left sequence deeper ls ≡ loop_of left sequence None ls
  unfolding statement_inside_of compound_of starts
  loop_there iterations.Forever p ws ls r l =
      begun_by (word_at p (codes "loop")) (statement_inside_of left sequence deeper) (loop_of left sequence None) (λ l ls. refl) ws ls r l
  loop_there (iterations.While place condition) p ws ls r l =
      begun_by (word_at place (codes "while")) (statement_inside_of left sequence deeper) (loop_of left sequence None) (λ l ls. refl)
      (expression_written condition ++ word_at p (codes "loop") ∷ ws) ls r l
  loop_there (iterations.For place parameter reverse low high) p ws ls r l =
      begun_by (word_at place (codes "for")) (statement_inside_of left sequence deeper) (loop_of left sequence None) (λ l ls. refl)
      (identifier_written parameter ∷ word (codes "in")
      ∷ (flag reverse (word (codes "reverse") ∷ []) ++ (expression_written low ++ delimiter (codes "..") ∷ expression_written high)
      ++ word_at p (codes "loop") ∷ ws)) ls r l

  looped : (s : Loop Sequence) (label : Option Label) → label ≡ s.label → (ls r : List Lexeme) → parts_fit sequence_fits (statements.Loop s) left ≡ true
      → Leads (loop_written sequence_written s) ls r → Leads (optional label_written label ++ loop_behind_label s) ls r
      → statement_inside_of left sequence deeper ls ≡ done (statements.Loop s) r
  looped s None e ls r o l there =
      loop_there s.iteration s.place _ ls r there ∙ (unlabelled_loop_exact left sequence exact).complete s ls r (ap label_name (sym e)) o l refl
  looped s (Some label) e ls r o l there = labelled_complete label (statements.Loop s) (ap label_name (sym e)) (loop_behind_label s) ls r o l there

  block_there : (declare : Bool) (p : Place) (q : Sequence) (ws : List Written) (ls r : List Lexeme)
      → Leads (block_opened sequence_written declare p q ++ ws) ls r → statement_inside_of left sequence deeper ls ≡ block_of left sequence None ls
  unfolding statement_inside_of compound_of starts
  block_there true p q ws ls r l =
      begun_by (word_at p (codes "declare")) (statement_inside_of left sequence deeper) (block_of left sequence None) (λ l ls. refl)
      (sequence_written q role.Body ++ ws) ls r l
  block_there false p q ws ls r l =
      begun_by (word_at p (codes "begin")) (statement_inside_of left sequence deeper) (block_of left sequence None) (λ l ls. refl)
      (sequence_written q role.Handled ++ ws) ls r l

  blocked : (b : Block Sequence) (label : Option Label) → label ≡ b.label → (ls r : List Lexeme) → parts_fit sequence_fits (statements.Block b) left ≡ true
      → Leads (block_written sequence_written b) ls r → Leads (optional label_written label ++ block_behind_label b) ls r
      → statement_inside_of left sequence deeper ls ≡ done (statements.Block b) r
  blocked b None e ls r o l there =
      block_there b.declare b.place b.sequence _ ls r there ∙ (unlabelled_block_exact left sequence exact).complete b ls r (ap label_name (sym e)) o l refl
  blocked b (Some label) e ls r o l there = labelled_complete label (statements.Block b) (ap label_name (sym e)) (block_behind_label b) ls r o l there

  -- ---- all statements: their first token says which

  statement_complete : (s : Statement Sequence) (ls r : List Lexeme) → parts_fit sequence_fits s left ≡ true → Leads (statement_written sequence_written s) ls r
      → statement_inside_of left sequence deeper ls ≡ done s r
  unfolding statement_inside_of compound_of simple_statement_of starts
  statement_complete (statements.Null place) ls r o l =
      begun_by (word_at place (codes "null")) (statement_inside_of left sequence deeper) null_of (λ l ls. refl) semicolon ls r l
      ∙ null_exact.complete place ls r tt refl l refl
  statement_complete (statements.Assignment a) ls r o l = assigned a ls r o l
  statement_complete (statements.Call c) ls r o l = called c ls r o l
  statement_complete (statements.Delay d) ls r o l =
      begun_by (word_at d.place (codes "delay")) (statement_inside_of left sequence deeper) (delay_of left >>= λ delay. pure (statements.Delay delay))
      (λ l ls. refl) _ ls r l
      ∙ delay_statement_exact.complete d ls r tt o l refl
  statement_complete (statements.If i) ls r o l =
      begun_by (word_at i.place (codes "if")) (statement_inside_of left sequence deeper) (if_of left sequence) (λ l ls. refl) _ ls r l
      ∙ (if_exact left sequence exact).complete i ls r tt o l refl
  statement_complete (statements.Case c) ls r o l =
      begun_by (word_at c.place (codes "case")) (statement_inside_of left sequence deeper) (case_of left sequence) (λ l ls. refl) _ ls r l
      ∙ (case_exact left sequence exact).complete c ls r tt o l refl
  statement_complete (statements.Loop s) ls r o l = looped s s.label refl ls r o l l
  statement_complete (statements.Exit e) ls r o l =
      begun_by (word_at e.place (codes "exit")) (statement_inside_of left sequence deeper) (exit_of left) (λ l ls. refl) _ ls r l
      ∙ (exit_exact left).complete e ls r tt o l refl
  statement_complete (statements.Block b) ls r o l = blocked b b.label refl ls r o l l
  statement_complete (statements.Return place value) ls r o l =
      begun_by (word_at place (codes "return")) (statement_inside_of left sequence deeper) (return_of left) (λ l ls. refl)
      (optional expression_written value ++ semicolon) ls r l
      ∙ (return_exact left).complete (place, value) ls r tt o l refl
  statement_complete (statements.Raise place exception) ls r o l =
      begun_by (word_at place (codes "raise")) (statement_inside_of left sequence deeper) raise_of (λ l ls. refl)
      (optional name_written exception ++ semicolon) ls r l
      ∙ raise_exact.complete (place, exception) ls r tt refl l refl
  statement_complete (statements.Abort place tasks) ls r o l =
      begun_by (word_at place (codes "abort")) (statement_inside_of left sequence deeper) abort_of (λ l ls. refl)
      (separated (delimiter (codes ",")) name_written tasks ++ semicolon) ls r l
      ∙ abort_exact.complete (place, tasks) ls r tt refl l refl
  statement_complete (statements.Accept a) ls r o l =
      begun_by (word_at a.place (codes "accept")) (statement_inside_of left sequence deeper)
      (accept_of left sequence >>= λ accept. pure (statements.Accept accept)) (λ l ls. refl)
      (identifier_written a.entry ∷ (parameters_written a.parameters ++ (optional (accept_body_written sequence_written a.entry) a.body ++ semicolon))) ls r l
      ∙ accept_statement_exact.complete a ls r tt o l refl
  statement_complete (statements.Requeue place entry with_abort) ls r o l =
      begun_by (word_at place (codes "requeue")) (statement_inside_of left sequence deeper) requeue_of (λ l ls. refl)
      (name_written entry ++ (with_abort_written with_abort ++ semicolon)) ls r l
      ∙ requeue_exact.complete (place, (entry, with_abort)) ls r tt refl l refl
  statement_complete (statements.Select s) ls r o l =
      begun_by (word_at s.place (codes "select")) (statement_inside_of left sequence deeper) (select_of left sequence deeper) (λ l ls. refl) _ ls r l
      ∙ (select_exact left sequence deeper exact known).complete s ls r tt o l refl

  pub statement_exact : Exact (statement_written sequence_written) (λ s. parts_fit sequence_fits s left) always (statement_inside_of left sequence deeper)
  statement_exact = record { sound = statement_sound.by; complete = λ s ls r p o l end. statement_complete s ls r o l }
