-- How sequences, library units and a source are spelt (11.2, 3.11, 2.8, clause 7, 10.1).
use Rattle.std.specs.Prelude.{ℕ, Bool, true, false, List, [], ◌∷◌, ◌++◌, codes, flat_map}
use Rattle.ada_tree.specs.declared.statements.SequenceRole.{SequenceRole}
use Rattle.ada_tree.specs.declared.statements.SequenceRole.TheVariants as role
use Rattle.ada_tree.specs.declared.statements.Sequence.{Sequence}
use Rattle.ada_tree.specs.declared.statements.Sequence.TheOpen.{Sequence-F}
use Rattle.ada_tree.specs.declared.statements.Sequence.TheFolds.{fold-Sequence}
use Rattle.ada_tree.specs.declared.statements.SequenceParts.{SequenceParts}
use Rattle.ada_tree.specs.declared.statements.Handler.{Handler}
use Rattle.ada_tree.specs.declared.declarations.Declaration.{Declaration}
use Rattle.ada_tree.specs.declared.units.Unit.{Unit as Tree}
use Rattle.ada_tree.specs.declared.units.Pragma.{Pragma}
use Rattle.ada_tree.specs.declared.units.ContextClause.{ContextClause}
use Rattle.ada_tree.specs.declared.units.LibraryPackage.{LibraryPackage}
use Rattle.ada_tree.specs.declared.units.Package.{Package}
use Rattle.ada_tree.specs.declared.units.PackageDeclaration.{PackageDeclaration}
use Rattle.ada_tree.specs.declared.units.PackageBody.{PackageBody}
use Rattle.ada_tree.specs.declared.units.MainProcedure.{MainProcedure}
use Rattle.ada_tree.specs.declared.units.Package.TheVariants as packages
use Rattle.ada_tree.specs.Written.{Written, Lexeme, AllSpell, word, word_at, delimiter, identifier_written}
use Rattle.ada_tree.specs.Written.{all_written, separated, optional, name_written, end_name_written}
use Rattle.ada_tree.specs.SpellingExpressions.{expression_written, argument_written}
use Rattle.ada_tree.specs.SpellingStatements.{semicolon, statement_written, handler_written}
use Rattle.ada_tree.specs.SpellingDeclarations.{declaration_written, body_written, aspects_written}

-- ---- sequences

module _ {Q : Type 0} (sequence : Q → SequenceRole → List Written) where
  -- ["exception" handler {handler}]
  abbrev pub handlers_written : List (Handler Q) → List Written
  handlers_written [] = []
  handlers_written (h ∷ hs) = word (codes "exception")
      ∷ (handler_written sequence h ++ flat_map (handler_written sequence) hs)

  -- statement {statement} handlers
  abbrev pub handled_written : SequenceParts Q → List Written
  handled_written s = all_written (statement_written sequence) s.statements ++ handlers_written s.handlers

  abbrev pub parts_written : SequenceParts Q → SequenceRole → List Written
  parts_written s role.Statements = all_written (statement_written sequence) s.statements
  parts_written s role.Handled = handled_written s
  parts_written s role.Body = flat_map (declaration_written sequence) s.declarations ++ word (codes "begin")
      ∷ handled_written s

abbrev pub as_it_stands : (SequenceRole → List Written) → SequenceRole → List Written
as_it_stands written = written

abbrev pub sequence_layer : Sequence-F (SequenceRole → List Written) → SequenceRole → List Written
sequence_layer s = parts_written as_it_stands s.parts

abbrev pub sequence_written : Sequence → SequenceRole → List Written
sequence_written = fold-Sequence (SequenceRole → List Written) sequence_layer

-- ---- units

-- "pragma" NAME "(" argument {"," argument} ")" ";" (2.8)
abbrev pub pragma_written : Pragma → List Written
pragma_written p =
    word_at p.place (codes "pragma") ∷ identifier_written p.name ∷ delimiter (codes "(")
    ∷ (separated (delimiter (codes ",")) (argument_written expression_written) p.arguments
    ++ delimiter (codes ")") ∷ semicolon)

abbrev pub clause_text : Bool → List ℕ
clause_text true = codes "use"
clause_text false = codes "with"

-- ("with" | "use") name {"," name} ";" (10.1.2, 8.4)
abbrev pub clause_written : ContextClause → List Written
clause_written c = word_at c.place (clause_text c.is_use)
    ∷ (separated (delimiter (codes ",")) name_written c.names ++ semicolon)

abbrev pub declarations_written : List (Declaration Sequence) → List Written
declarations_written = flat_map (declaration_written sequence_written)

abbrev pub private_part_written : List (Declaration Sequence) → List Written
private_part_written declarations = word (codes "private") ∷ declarations_written declarations

-- "package" NAME "is" {declaration} ["private" {declaration}] "end" [NAME] ";" (7.1)
abbrev pub package_declaration_written : PackageDeclaration → List Written
package_declaration_written p =
    word_at p.place (codes "package") ∷ identifier_written p.name ∷ word (codes "is")
    ∷ (declarations_written p.declarations
    ++ (optional private_part_written p.private ++ word (codes "end")
    ∷ (end_name_written p.named_at_end p.name ++ semicolon)))

abbrev pub package_statements_written : Sequence → List Written
package_statements_written s = word (codes "begin") ∷ sequence_written s role.Handled

-- "package" "body" NAME "is" {declaration} ["begin" handled sequence] "end" [NAME] ";" (7.2)
abbrev pub package_body_written : PackageBody → List Written
package_body_written p =
    word_at p.place (codes "package") ∷ word (codes "body") ∷ identifier_written p.name ∷ word (codes "is")
    ∷ (declarations_written p.declarations
    ++ (optional package_statements_written p.sequence ++ word (codes "end")
    ∷ (end_name_written p.named_at_end p.name ++ semicolon)))

abbrev pub package_written : Package → List Written
package_written (packages.Declaration p) = package_declaration_written p
package_written (packages.Body p) = package_body_written p

-- {context clause} package (10.1.1)
abbrev pub library_package_written : LibraryPackage → List Written
library_package_written l = flat_map clause_written l.context ++ package_written l.package

-- "procedure" NAME [aspects] "is" body "end" [NAME] ";" (6.3)
abbrev pub main_written : MainProcedure → List Written
main_written m = word_at m.place (codes "procedure") ∷ identifier_written m.name
    ∷ (aspects_written m.aspects ++ body_written sequence_written m.name m.body)

-- {pragma} {package} {context clause} main (10.1)
abbrev pub unit_written : Tree → List Written
unit_written u = flat_map pragma_written u.pragmas
    ++ (flat_map library_package_written u.packages ++ (flat_map clause_written u.context ++ main_written u.main))

-- ---- the tokens that a tree spells

-- The tree spells these tokens, and its places are theirs.
abbrev pub SpellsTokens : Tree → List Lexeme → Type 0
SpellsTokens unit lexemes = AllSpell (unit_written unit) lexemes
