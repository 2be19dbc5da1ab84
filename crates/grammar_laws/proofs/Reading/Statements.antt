-- Statements that hold others (clauses 5, 9.5), given that the sequences in them are read as they are written.
use Rattle.std.proofs.Common.{◌≡◌, ℕ, Bool, true, false, ◌&&◌, List, [], ◌∷◌, ◌++◌, refl, sym, subst, codes}
use Rattle.std.specs.Prelude.{Option, Some, flat_map}
use Rattle.std.specs.List.{list_all}
use Rattle.std.proofs.lemmas.Bool.{not-true}
use Rattle.ada_lex.specs.Reserved.{is_reserved}
use Rattle.ada_tree.specs.declared.names.Identifier.{Identifier}
use Rattle.ada_tree.specs.declared.statements.Statement.TheVariants as statements
use Rattle.ada_tree.specs.declared.statements.SequenceRole.{SequenceRole}
use Rattle.ada_tree.specs.declared.statements.SequenceRole.TheVariants as role
use Rattle.ada_tree.specs.declared.statements.Sequence.{Sequence}
use Rattle.ada_tree.specs.declared.statements.If.{If}
use Rattle.ada_tree.specs.declared.statements.Elsif.{Elsif}
use Rattle.ada_tree.specs.declared.statements.Case.{Case}
use Rattle.ada_tree.specs.declared.statements.CaseAlternative.{CaseAlternative}
use Rattle.ada_tree.specs.declared.statements.AcceptBody.{AcceptBody}
use Rattle.ada_tree.specs.Written.{Lexeme, word, word_at, delimiter, flag, all_written, separated, optional}
use Rattle.ada_tree.specs.Spelling.{sequence_written}
use Rattle.ada_tree.specs.SpellingStatements.{semicolon, statements_written, choice_written, elsif_written, else_written, if_written}
use Rattle.ada_tree.specs.SpellingStatements.{case_alternative_written, case_written, accept_body_written, accept_written}
use Rattle.ada_tree.specs.Shape.{sequence_fits}
use Rattle.ada_tree.specs.ShapeExpressions.{optional_fits, all_fit}
use Rattle.ada_tree.specs.ShapeStatements.{choice_fits, statements_fit, elsif_fits, if_fits, case_alternative_fits, case_fits, accept_body_fits, accept_fits}
use Rattle.ada_grammar.specs.Reading.{Parser, starts, sees_word, sees_delimiter, end_name_of, items_of, separated_of}
use Rattle.ada_grammar.specs.ReadingStatements.{begins_statement, elsif_of, else_of, if_of, case_alternative_of}
use Rattle.ada_grammar.specs.ReadingStatements.{case_alternatives_of, case_of, accept_body_of, accept_of, optional_statements_of}
use Rattle.ada_grammar.specs.ReadingSimple.{choice_of}
use Rattle.grammar_laws.specs.Leads.{Leads}
use Rattle.grammar_laws.proofs.Reading.Exact.{Rest, Any, itself, Exact, closing, ready, narrower, first_is}
use Rattle.grammar_laws.proofs.Reading.Exact.{first_optional, first_each, optionally, listed, first_true, second_true}
use Rattle.grammar_laws.proofs.Reading.Tokens.{always, shapeless, sees_word_first, sees_word_at_first, seen_word, seen_delimiter, not_word, flag_exact}
use Rattle.grammar_laws.proofs.Reading.Ends.{ends_statements, ends_sequence}
use Rattle.grammar_laws.proofs.Reading.StatementsSteps.{placed, named, worded, delimited, part, last_part, valued, rewritten}
use Rattle.grammar_laws.proofs.Reading.StatementsBegin.{statements_begin}
use Rattle.grammar_laws.proofs.Reading.ClausesSubtypes.{parameters_exact}
use Rattle.grammar_laws.proofs.Reading.ClausesEnds.{ends_choice}
use Rattle.grammar_laws.proofs.Reading.ClausesStatements.{choice_exact}
use Rattle.grammar_laws.proofs.Reading.Names.{not_delimiter, separated_exact}

-- ---- what may not stand behind parts

abbrev pub ends_elsifs : List Lexeme → Bool
ends_elsifs r = ends_statements r && not_word (codes "elsif") r

abbrev pub ends_else : List Lexeme → Bool
ends_else r = ends_statements r && not_word (codes "else") r

abbrev pub ends_choices : List Lexeme → Bool
ends_choices r = ends_choice r && not_delimiter (codes "|") r

abbrev pub ends_alternatives : List Lexeme → Bool
ends_alternatives r = ends_statements r && not_word (codes "when") r

-- a semicolon stands there
abbrev pub before_semicolon : List Lexeme → Bool
before_semicolon r = sees_delimiter (codes ";") r

pub end_name_exact : (text : List ℕ) → Exact (λ b. flag b (word text ∷ [])) shapeless before_semicolon (end_name_of text)
unfolding end_name_of starts
end_name_exact text =
    narrower itself Any _ shapeless (not_word text) before_semicolon (end_name_of text) (flag_exact text)
    (λ r e. seen_delimiter (not_word text) true (codes ";") (λ p ls. refl) r e)

module _ (left : ℕ) (sequence : SequenceRole → Parser Sequence)
    (exact : (r : SequenceRole) → Exact (λ q. sequence_written q r) (λ q. sequence_fits q r left) (ends_sequence r) (sequence r)) where
  -- "elsif" expression "then" statements (5.3)
  pub elsif_exact : Exact (elsif_written sequence_written) (elsif_fits sequence_fits left) ends_statements (elsif_of left sequence)
  unfolding elsif_of starts
  elsif_exact =
      placed (λ e. e.place) (codes "elsif") (λ place.
      valued left (λ e. e.condition) (word (codes "then")) (λ l ls. refl) (λ condition.
      worded (codes "then") (
      closing itself _ ends_statements (λ e. e.statements) (λ q. sequence_written q role.Statements) (λ q. sequence_fits q role.Statements left)
      (sequence role.Statements)
      (λ inside. record { place = place; condition = condition; statements = inside })
      (exact role.Statements) (λ inside. ((tt, refl), refl)) (λ inside. refl) (λ inside e p q. rw (p.0.1, p.1, q) refl))))

  pub elsifs_exact : Exact (flat_map (elsif_written sequence_written)) (list_all (elsif_fits sequence_fits left)) ends_elsifs
      (items_of (sees_word (codes "elsif")) (elsif_of left sequence))
  unfolding starts begins_statement is_reserved
  elsifs_exact =
      listed (sees_word (codes "elsif")) (elsif_written sequence_written) (elsif_fits sequence_fits left) ends_statements ends_elsifs (elsif_of left sequence)
      elsif_exact (λ e ls r l. sees_word_at_first (codes "elsif") e.place _ ls r l) refl
      (λ r e. seen_word ends_statements true (codes "elsif") (λ p ls. refl) r e)
      (λ r e. first_true (ends_statements r) (not_word (codes "elsif") r) e)
      (λ r e. not-true (sees_word (codes "elsif") r) (second_true (ends_statements r) (not_word (codes "elsif") r) e))

  -- ["else" statements]
  pub else_exact : Exact (optional (else_written sequence_written)) (optional_fits (statements_fit sequence_fits left)) ends_else (else_of left sequence)
  unfolding else_of
  else_exact =
      optionally (sees_word (codes "else")) (else_written sequence_written) (statements_fit sequence_fits left) ends_else _
      (worded (codes "else")
      (closing (λ q. Some q) Any ends_else itself (λ q. sequence_written q role.Statements) (λ q. sequence_fits q role.Statements left)
      (sequence role.Statements) itself
      (narrower itself Any _ _ ends_statements ends_else (sequence role.Statements) (exact role.Statements)
      (λ r e. first_true (ends_statements r) (not_word (codes "else") r) e))
      (λ q. tt) (λ q. refl) (λ q i p e. e)))
      (λ q ls r l. sees_word_first (codes "else") _ ls r l)
      (λ r e. not-true (sees_word (codes "else") r) (second_true (ends_statements r) (not_word (codes "else") r) e))

  -- ---- if (5.3)

  -- what stands behind the statements of an if statement begins none
  else_or_end : (o : Option Sequence) (ls r : List Lexeme)
      → Leads (optional (else_written sequence_written) o ++ word (codes "end") ∷ word (codes "if") ∷ semicolon) ls r → ends_elsifs ls ≡ true
  unfolding starts begins_statement is_reserved
  else_or_end o ls r l =
      first_optional ends_elsifs true (else_written sequence_written) _ (λ q ls m l. first_is ends_elsifs true (word (codes "else")) (λ l ls. refl) _ ls m l)
      (λ ls r l. first_is ends_elsifs true (word (codes "end")) (λ l ls. refl) (word (codes "if") ∷ semicolon) ls r l) o ls r l

  elsif_or_end : (es : List (Elsif Sequence)) (o : Option Sequence) (ls r : List Lexeme)
      → Leads (flat_map (elsif_written sequence_written) es
      ++ (optional (else_written sequence_written) o ++ word (codes "end") ∷ word (codes "if") ∷ semicolon)) ls r
      → ends_statements ls ≡ true
  unfolding starts begins_statement is_reserved
  elsif_or_end es o ls r l =
      first_each ends_statements true (elsif_written sequence_written) _
      (λ e ls m l. first_is ends_statements true (word_at e.place (codes "elsif")) (λ l ls. refl) _ ls m l)
      (λ ls r l. first_true (ends_statements ls) (not_word (codes "elsif") ls) (else_or_end o ls r l)) es ls r l

  pub if_exact : Rest (λ (i : If Sequence). statements.If i) Any (if_written sequence_written) (if_fits sequence_fits left) always (if_of left sequence)
  unfolding if_of starts begins_statement is_reserved
  if_exact =
      placed (λ i. i.place) (codes "if") (λ place.
      valued left (λ i. i.condition) (word (codes "then")) (λ l ls. refl) (λ condition.
      worded (codes "then") (
      part (λ i. i.statements) (exact role.Statements) (λ i ls r p l end. elsif_or_end i.elsifs i.otherwise ls r l) (λ inside.
      part (λ i. i.elsifs) elsifs_exact (λ i ls r p l end. else_or_end i.otherwise ls r l) (λ elsifs.
      last_part (λ i. i.otherwise) else_exact
      (λ i ls r p l end. first_is ends_else true (word (codes "end")) (λ l ls. refl) (word (codes "if") ∷ semicolon) ls r l) (λ otherwise.
      worded (codes "end") (worded (codes "if") (delimited (codes ";") (
      ready _ _ always (record { place = place; condition = condition; statements = inside; elsifs = elsifs; otherwise = otherwise }) (
        ((((tt, refl), refl), refl), refl),
        refl,
      )
      (λ j p. rw (p.0.0.0.0.1, p.0.0.0.1, p.0.0.1, p.0.1, p.1) refl))))))))))

  -- ---- case (5.4)

  choices_exact : Exact (separated (delimiter (codes "|")) choice_written) (all_fit (choice_fits left)) ends_choices (separated_of (codes "|") (choice_of left))
  unfolding starts
  choices_exact =
      separated_exact (codes "|") choice_written (choice_fits left) ends_choice ends_choices (choice_of left) (choice_exact left)
      (λ r e. seen_delimiter ends_choice true (codes "|") (λ p ls. refl) r e)
      (λ r e. first_true (ends_choice r) (not_delimiter (codes "|") r) e)
      (λ r e. not-true (sees_delimiter (codes "|") r) (second_true (ends_choice r) (not_delimiter (codes "|") r) e))

  pub case_alternative_exact : Exact (case_alternative_written sequence_written) (case_alternative_fits sequence_fits left) ends_statements
      (case_alternative_of left sequence)
  unfolding case_alternative_of starts
  case_alternative_exact =
      placed (λ a. a.place) (codes "when") (λ place.
      part (λ a. a.choices) choices_exact (λ a ls r p l end. first_is ends_choices true (delimiter (codes "=>")) (λ l ls. refl) _ ls r l) (λ choices.
      delimited (codes "=>") (
      closing itself _ ends_statements (λ a. a.statements) (λ q. sequence_written q role.Statements) (λ q. sequence_fits q role.Statements left)
      (sequence role.Statements)
      (λ inside. record { place = place; choices = choices; statements = inside })
      (exact role.Statements) (λ inside. ((tt, refl), refl)) (λ inside. refl) (λ inside a p q. rw (p.0.1, p.1, q) refl))))

  case_others_exact : Exact (flat_map (case_alternative_written sequence_written)) (list_all (case_alternative_fits sequence_fits left)) ends_alternatives
      (items_of (sees_word (codes "when")) (case_alternative_of left sequence))
  unfolding starts begins_statement is_reserved
  case_others_exact =
      listed (sees_word (codes "when")) (case_alternative_written sequence_written) (case_alternative_fits sequence_fits left) ends_statements ends_alternatives
      (case_alternative_of left sequence)
      case_alternative_exact (λ a ls r l. sees_word_at_first (codes "when") a.place _ ls r l) refl
      (λ r e. seen_word ends_statements true (codes "when") (λ p ls. refl) r e)
      (λ r e. first_true (ends_statements r) (not_word (codes "when") r) e)
      (λ r e. not-true (sees_word (codes "when") r) (second_true (ends_statements r) (not_word (codes "when") r) e))

  when_or_over : (xs : List (CaseAlternative Sequence)) (ls r : List Lexeme) → Leads (flat_map (case_alternative_written sequence_written) xs) ls r
      → ends_alternatives r ≡ true → ends_statements ls ≡ true
  unfolding starts begins_statement is_reserved
  when_or_over [] ls r l end = subst (λ (z : List Lexeme). ends_statements z ≡ true) (sym l) (first_true (ends_statements r) (not_word (codes "when") r) end)
  when_or_over (x ∷ xs) ls r l end = first_is ends_statements true (word_at x.place (codes "when")) (λ l ls. refl) _ ls r l

  pub case_alternatives_exact : Exact (all_written (case_alternative_written sequence_written))
      (all_fit (case_alternative_fits sequence_fits left)) ends_alternatives (case_alternatives_of left sequence)
  unfolding case_alternatives_of
  case_alternatives_exact =
      part (λ xs. xs.first) case_alternative_exact (λ xs ls r p l end. when_or_over xs.others ls r l end) (λ first.
      closing itself _ ends_alternatives (λ xs. xs.others) _ _ _ (λ others. record { first = first; others = others })
      case_others_exact (λ others. (tt, refl)) (λ others. refl) (λ others xs p e. rw (p.1, e) refl))

  pub case_exact : Rest (λ (c : Case Sequence). statements.Case c) Any (case_written sequence_written) (case_fits sequence_fits left) always
      (case_of left sequence)
  unfolding case_of starts begins_statement is_reserved
  case_exact =
      placed (λ c. c.place) (codes "case") (λ place.
      valued left (λ c. c.selector) (word (codes "is")) (λ l ls. refl) (λ selector.
      worded (codes "is") (
      last_part (λ c. c.alternatives) case_alternatives_exact
      (λ c ls r p l end. first_is ends_alternatives true (word (codes "end")) (λ l ls. refl) (word (codes "case") ∷ semicolon) ls r l) (λ alternatives.
      worded (codes "end") (worded (codes "case") (delimited (codes ";") (
      ready _ _ always (record { place = place; selector = selector; alternatives = alternatives }) (((tt, refl), refl), refl)
      (λ j p. rw (p.0.0.1, p.0.1, p.1) refl))))))))

  -- ---- accept (9.5.2)

  pub accept_body_exact : (name : Identifier)
      → Exact (optional (accept_body_written sequence_written name)) (optional_fits (accept_body_fits sequence_fits left)) before_semicolon
      (accept_body_of left sequence name.text)
  unfolding accept_body_of starts begins_statement is_reserved
  accept_body_exact name =
      optionally (sees_word (codes "do")) (accept_body_written sequence_written name) (accept_body_fits sequence_fits left) before_semicolon _
      (worded (codes "do") (
      last_part (λ b. b.sequence) (exact role.Handled)
      (λ b ls r p l end. first_is (ends_sequence role.Handled) true (word (codes "end")) (λ l ls. refl) _ ls r l) (λ inside.
      worded (codes "end") (
      closing (λ b. Some b) _ before_semicolon (λ b. b.named_at_end) _ shapeless (end_name_of name.text)
      (λ named. record { sequence = inside; named_at_end = named })
      (end_name_exact name.text) (λ named. (tt, refl)) (λ named. refl) (λ named b p e. rw (p.1, e) refl)))))
      (λ b ls r l. sees_word_first (codes "do") _ ls r l)
      (λ r e. seen_delimiter (sees_word (codes "do")) false (codes ";") (λ p ls. refl) r e)

  do_or_semicolon : (name : Identifier) (o : Option (AcceptBody Sequence)) (ls r : List Lexeme)
      → Leads (optional (accept_body_written sequence_written name) o ++ semicolon) ls r → not_delimiter (codes "(") ls ≡ true
  unfolding starts
  do_or_semicolon name o ls r l =
      first_optional (not_delimiter (codes "(")) true (accept_body_written sequence_written name) semicolon
      (λ b ls m l. first_is (not_delimiter (codes "(")) true (word (codes "do")) (λ l ls. refl) _ ls m l)
      (λ ls r l. first_is (not_delimiter (codes "(")) true (delimiter (codes ";")) (λ l ls. refl) [] ls r l) o ls r l

  pub accept_exact : Exact (accept_written sequence_written) (accept_fits sequence_fits left) always (accept_of left sequence)
  unfolding accept_of starts
  accept_exact =
      placed (λ a. a.place) (codes "accept") (λ place.
      named (λ a. a.entry) (λ entry.
      part (λ a. a.parameters) (parameters_exact left) (λ a ls r p l end. do_or_semicolon a.entry a.body ls r l) (λ parameters.
      rewritten {w = λ a. optional (accept_body_written sequence_written entry) a.body ++ semicolon} (
      last_part (λ a. a.body) (accept_body_exact entry) (λ a ls r p l end. first_is before_semicolon true (delimiter (codes ";")) (λ l ls. refl) [] ls r l)
      (λ body.
      delimited (codes ";") (
      ready _ _ always (record { place = place; entry = entry; parameters = parameters; body = body }) ((((tt, refl), refl), refl), refl)
      (λ j p. rw (p.0.0.0.1, p.0.0.1, p.0.1, p.1) refl))))
      (λ a p. rw (p.0.1) refl))))

  -- ---- statements where some stand there

  pub optional_statements_exact : Exact (optional (statements_written sequence_written)) (optional_fits (statements_fit sequence_fits left)) ends_statements
      (optional_statements_of left sequence)
  unfolding optional_statements_of
  optional_statements_exact =
      optionally begins_statement (statements_written sequence_written) (statements_fit sequence_fits left) ends_statements _
      (closing (λ q. Some q) Any ends_statements itself (λ q. sequence_written q role.Statements) (λ q. sequence_fits q role.Statements left)
      (sequence role.Statements) itself
      (exact role.Statements) (λ q. tt) (λ q. refl) (λ q i p e. e))
      statements_begin
      (λ r e. not-true (begins_statement r) e)
