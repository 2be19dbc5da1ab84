-- What begins a statement (5.1): its first token.
use Rattle.std.proofs.Common.{◌≡◌, Bool, true, false, List, [], ◌∷◌, ◌++◌, refl, subst, codes}
use Rattle.std.specs.Prelude.{Option, flat_map}
use Rattle.std.proofs.lemmas.Bool.{or_right}
use Rattle.ann_base.specs.declared.places.Place.{Place}
use Rattle.ada_tree.specs.declared.names.Name.{Name}
use Rattle.ada_tree.specs.declared.statements.Statement.{Statement}
use Rattle.ada_tree.specs.declared.statements.Statement.TheVariants as statements
use Rattle.ada_tree.specs.declared.statements.SequenceRole.TheVariants as role
use Rattle.ada_tree.specs.declared.statements.Sequence.{Sequence}
use Rattle.ada_tree.specs.declared.statements.Sequence.TheViews.{out-Sequence}
use Rattle.ada_tree.specs.declared.statements.Iteration.{Iteration}
use Rattle.ada_tree.specs.declared.statements.Iteration.TheVariants as iterations
use Rattle.ada_tree.specs.Written.{Written, Lexeme, word, word_at, delimiter, flag, identifier_written}
use Rattle.ada_tree.specs.Written.{one_identifier, behind, separated, name_written, optional}
use Rattle.ada_tree.specs.Spelling.{sequence_written}
use Rattle.ada_tree.specs.SpellingExpressions.{expression_written}
use Rattle.ada_tree.specs.SpellingStatements.{semicolon, with_abort_written, parameters_written, accept_body_written}
use Rattle.ada_tree.specs.SpellingStatements.{iteration_written, label_written, block_opened, statements_written, statement_written}
use Rattle.ada_tree.proofs.SequenceFolds.{sequence_is_written}
use Rattle.ada_grammar.specs.Reading.{starts, sees_word, sees_identifier}
use Rattle.ada_grammar.specs.ReadingStatements.{begins_compound, begins_simple, begins_statement}
use Rattle.grammar_laws.specs.Leads.{Leads}
use Rattle.grammar_laws.proofs.Reading.Leading.{leads_through}
use Rattle.grammar_laws.proofs.Reading.Exact.{first_is, first_optional}
use Rattle.grammar_laws.proofs.Reading.Tokens.{sees_identifier_first}

pub identifier_begins : (ls : List Lexeme) → sees_identifier ls ≡ true → begins_statement ls ≡ true
unfolding begins_statement
identifier_begins ls e =
    or_right (begins_compound ls) (begins_simple ls)
    (or_right (sees_word (codes "null") ls) _
    (or_right (sees_word (codes "delay") ls) _
    (or_right (sees_word (codes "exit") ls) _
    (or_right (sees_word (codes "return") ls) _
    (or_right (sees_word (codes "raise") ls) _
    (or_right (sees_word (codes "abort") ls) _
    (or_right (sees_word (codes "requeue") ls) _
    e)))))))

-- a name begins with an identifier
pub name_sees : (name : Name) (ws : List Written) (ls r : List Lexeme) → Leads (name_written name ++ ws) ls r → sees_identifier ls ≡ true
name_sees name ws ls r l = sees_identifier_first name.parts.first (flat_map (behind (delimiter (codes ".")) one_identifier) name.parts.others ++ ws) ls r l

name_begins : (name : Name) (ws : List Written) (ls r : List Lexeme) → Leads (name_written name ++ ws) ls r → begins_statement ls ≡ true
name_begins name ws ls r l = identifier_begins ls (name_sees name ws ls r l)

labelled_begins : (o : Option _) (ws : List Written) → ((ls r : List Lexeme) → Leads ws ls r → begins_statement ls ≡ true) → (ls r : List Lexeme)
    → Leads (optional label_written o ++ ws) ls r → begins_statement ls ≡ true
labelled_begins o ws rest ls r l =
    first_optional begins_statement true label_written ws
    (λ label ls m l. identifier_begins ls (sees_identifier_first label.name (delimiter (codes ":") ∷ []) ls m l)) rest o ls r l

loop_begins : (i : Iteration) (p : Place) (ws : List Written) (ls r : List Lexeme) → Leads (iteration_written i ++ word_at p (codes "loop") ∷ ws) ls r
    → begins_statement ls ≡ true
unfolding starts begins_statement
loop_begins iterations.Forever p ws ls r l = first_is begins_statement true (word_at p (codes "loop")) (λ l ls. refl) ws ls r l
loop_begins (iterations.While place condition) p ws ls r l =
    first_is begins_statement true (word_at place (codes "while")) (λ l ls. refl) (expression_written condition ++ word_at p (codes "loop") ∷ ws) ls r l
loop_begins (iterations.For place parameter reverse low high) p ws ls r l =
    first_is begins_statement true (word_at place (codes "for")) (λ l ls. refl)
    (identifier_written parameter ∷ word (codes "in")
    ∷ (flag reverse (word (codes "reverse") ∷ []) ++ (expression_written low ++ delimiter (codes "..") ∷ expression_written high)
    ++ word_at p (codes "loop") ∷ ws)) ls r l

block_begins : (declare : Bool) (p : Place) (q : Sequence) (ws : List Written) (ls r : List Lexeme)
    → Leads (block_opened sequence_written declare p q ++ ws) ls r → begins_statement ls ≡ true
unfolding starts begins_statement
block_begins true p q ws ls r l = first_is begins_statement true (word_at p (codes "declare")) (λ l ls. refl) (sequence_written q role.Body ++ ws) ls r l
block_begins false p q ws ls r l = first_is begins_statement true (word_at p (codes "begin")) (λ l ls. refl) (sequence_written q role.Handled ++ ws) ls r l

pub statement_begins : (s : Statement Sequence) (ls r : List Lexeme) → Leads (statement_written sequence_written s) ls r → begins_statement ls ≡ true
unfolding starts begins_statement
statement_begins (statements.Null place) ls r l = first_is begins_statement true (word_at place (codes "null")) (λ l ls. refl) semicolon ls r l
statement_begins (statements.Assignment a) ls r l = name_begins a.target _ ls r l
statement_begins (statements.Call c) ls r l = name_begins c.name _ ls r l
statement_begins (statements.Delay d) ls r l = first_is begins_statement true (word_at d.place (codes "delay")) (λ l ls. refl) _ ls r l
statement_begins (statements.If i) ls r l = first_is begins_statement true (word_at i.place (codes "if")) (λ l ls. refl) _ ls r l
statement_begins (statements.Case c) ls r l = first_is begins_statement true (word_at c.place (codes "case")) (λ l ls. refl) _ ls r l
statement_begins (statements.Loop s) ls r l = labelled_begins s.label _ (λ ls r l. loop_begins s.iteration s.place _ ls r l) ls r l
statement_begins (statements.Exit e) ls r l = first_is begins_statement true (word_at e.place (codes "exit")) (λ l ls. refl) _ ls r l
statement_begins (statements.Block b) ls r l = labelled_begins b.label _ (λ ls r l. block_begins b.declare b.place b.sequence _ ls r l) ls r l
statement_begins (statements.Return place value) ls r l = first_is begins_statement true (word_at place (codes "return")) (λ l ls. refl) _ ls r l
statement_begins (statements.Raise place exception) ls r l = first_is begins_statement true (word_at place (codes "raise")) (λ l ls. refl) _ ls r l
statement_begins (statements.Abort place tasks) ls r l =
    first_is begins_statement true (word_at place (codes "abort")) (λ l ls. refl) (separated (delimiter (codes ",")) name_written tasks ++ semicolon) ls r l
statement_begins (statements.Accept a) ls r l = first_is begins_statement true (word_at a.place (codes "accept")) (λ l ls. refl)
    (identifier_written a.entry ∷ (parameters_written a.parameters ++ (optional (accept_body_written sequence_written a.entry) a.body ++ semicolon))) ls r l
statement_begins (statements.Requeue place entry with_abort) ls r l =
    first_is begins_statement true (word_at place (codes "requeue")) (λ l ls. refl) (name_written entry ++ (with_abort_written with_abort ++ semicolon)) ls r l
statement_begins (statements.Select s) ls r l = first_is begins_statement true (word_at s.place (codes "select")) (λ l ls. refl) _ ls r l

-- and so does a sequence of statements alone
pub statements_begin : (q : Sequence) (ls r : List Lexeme) → Leads (statements_written sequence_written q) ls r → begins_statement ls ≡ true
statements_begin q ls r l =
    let whole = subst (λ (ws : List Written). Leads ws ls r) (sequence_is_written q role.Statements) l in
    let first = (out-Sequence q).parts.statements.first in
    let t =
    leads_through (statement_written sequence_written first)
    (flat_map (statement_written sequence_written) (out-Sequence q).parts.statements.others) ls r whole in
    statement_begins first ls t.middle t.first
