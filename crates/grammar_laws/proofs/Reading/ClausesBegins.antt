-- What statements and declarations begin with, where a test of the next tokens decides between them.
use Rattle.std.proofs.Common.{◌≡◌, Bool, true, false, List, [], ◌∷◌, ◌++◌, refl, codes}
use Rattle.std.proofs.lemmas.Bool.{not-true}
use Rattle.ada_tree.specs.declared.names.Identifier.{Identifier}
use Rattle.ada_tree.specs.declared.declarations.TaskDeclaration.{TaskDeclaration}
use Rattle.ada_tree.specs.declared.declarations.ProtectedDeclaration.{ProtectedDeclaration}
use Rattle.ada_tree.specs.Written.{Written, Lexeme, word, identifier_written, flag, optional}
use Rattle.ada_tree.specs.SpellingStatements.{semicolon}
use Rattle.ada_tree.specs.SpellingDeclarations.{aspects_written, task_definition_written}
use Rattle.ada_grammar.specs.Reading.{starts, sees_word}
use Rattle.grammar_laws.specs.Leads.{Leads}
use Rattle.grammar_laws.proofs.Reading.Exact.{first_is}
use Rattle.grammar_laws.proofs.Reading.Tokens.{sees_identifier_first}
use Rattle.grammar_laws.proofs.Reading.ClausesEnds.{identifier_no_body}
use Rattle.grammar_laws.proofs.Reading.ClausesTasks.{task_behind, protected_behind, aspects_behind}

-- ---- statements without others in them

-- ---- an assignment or a call is no label

-- ---- loops

-- ---- declarations

-- behind "task" and "protected", no body
typed_no_body : (is_type : Bool) (name : Identifier) (w : List Written) (ls r : List Lexeme)
    → Leads (flag is_type (word (codes "type") ∷ []) ++ identifier_written name ∷ w) ls r → sees_word (codes "body") ls ≡ false
unfolding starts
typed_no_body true name w ls r l = first_is (sees_word (codes "body")) false (word (codes "type")) (λ l ls. refl) (identifier_written name ∷ w) ls r l
typed_no_body false name w ls r l = not-true (sees_word (codes "body") ls) (identifier_no_body ls (sees_identifier_first name w ls r l))

pub task_no_body : (t : TaskDeclaration) (ls r : List Lexeme) → Leads (task_behind t) ls r → sees_word (codes "body") ls ≡ false
task_no_body t ls r l =
    typed_no_body t.is_type t.name (aspects_written t.aspects ++ (optional (task_definition_written t.name) t.definition ++ semicolon)) ls r l

pub protected_no_body : (p : ProtectedDeclaration) (ls r : List Lexeme) → Leads (protected_behind p) ls r → sees_word (codes "body") ls ≡ false
protected_no_body p ls r l = typed_no_body p.is_type p.name (aspects_behind p) ls r l
