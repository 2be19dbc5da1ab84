-- Reading library units and a source (2.8, clause 7, 10.1).
use Rattle.std.specs.Prelude.{ℕ, ◌-◌, ◌++◌, length, Result, zero, suc, Bool, true, false}
use Rattle.std.specs.Prelude.{◌||◌, List, [], ◌∷◌, Option, Some, None, Ok, Err, codes}
use Rattle.ann_base.specs.declared.places.Place.{Place}
use Rattle.ada_tree.specs.declared.units.TheConstants.{MAX_NESTING}
use Rattle.ada_tree.specs.declared.statements.Sequence.{Sequence}
use Rattle.ada_tree.specs.declared.statements.SequenceRole.TheVariants as role
use Rattle.ada_tree.specs.declared.declarations.Declaration.{Declaration}
use Rattle.ada_tree.specs.declared.units.Pragma.{Pragma}
use Rattle.ada_tree.specs.declared.units.ContextClause.{ContextClause}
use Rattle.ada_tree.specs.declared.units.LibraryPackage.{LibraryPackage}
use Rattle.ada_tree.specs.declared.units.Package.{Package}
use Rattle.ada_tree.specs.declared.units.MainProcedure.{MainProcedure}
use Rattle.ada_tree.specs.declared.units.Unit.{Unit as Tree}
use Rattle.ada_tree.specs.declared.units.Package.TheVariants as packages
use Rattle.ada_tree.specs.Written.{Lexeme}
use Rattle.ada_grammar.specs.declared.stuck.Stuck.{Stuck}
use Rattle.ada_grammar.specs.declared.stuck.Stuck.TheVariants as stuck
use Rattle.ada_grammar.specs.declared.faults.ParseFault.{ParseFault}
use Rattle.ada_grammar.specs.declared.faults.ParseFault.TheVariants as faults
use Rattle.ada_grammar.specs.Reading.{Read, Parser, ◌>>=◌, ◌>>◌, pure, choose, sees_word, the_word}
use Rattle.ada_grammar.specs.Reading.{the_delimiter, an_identifier, end_name_of, opening_of}
use Rattle.ada_grammar.specs.Reading.{opening_is_of, below, items_of, separated_of, names_of}
use Rattle.ada_grammar.specs.ReadingExpressions.{inner_of, argument_of}
use Rattle.ada_grammar.specs.ReadingDeclarations.{aspects_of}
use Rattle.ada_grammar.specs.ReadingBodies.{body_of}
use Rattle.ada_grammar.specs.ReadingSequences.{declarations_of, sequence_of, inside_of}

-- declarations at a level
abbrev pub declarations_at : ℕ → Parser (List (Declaration Sequence))
declarations_at left = declarations_of left (inside_of left) (inside_of (below left))

-- "pragma" NAME "(" argument {"," argument} ")" ";" (2.8)
unfoldable pub pragma_of : ℕ → Parser Pragma
pragma_of left = do
  place ← the_word (codes "pragma")
  name ← an_identifier
  opening_of left
  arguments ← separated_of (codes ",") (argument_of left (inner_of left))
  the_delimiter (codes ")")
  the_delimiter (codes ";")
  pure (record { place = place; name = name; arguments = arguments })

-- ("with" | "use") name {"," name} ";" (10.1.2, 8.4)
unfoldable pub with_of : Parser ContextClause
with_of = do
  place ← the_word (codes "with")
  names ← names_of (codes ",")
  the_delimiter (codes ";")
  pure (record { place = place; is_use = false; names = names })

unfoldable pub use_clause_of : Parser ContextClause
use_clause_of = do
  place ← the_word (codes "use")
  names ← names_of (codes ",")
  the_delimiter (codes ";")
  pure (record { place = place; is_use = true; names = names })

unfoldable pub clause_of : Parser ContextClause
clause_of = choose (sees_word (codes "use")) use_clause_of with_of

abbrev pub begins_clause : List Lexeme → Bool
begins_clause ls = sees_word (codes "with") ls || sees_word (codes "use") ls

unfoldable pub context_of : Parser (List ContextClause)
context_of = items_of begins_clause clause_of

-- NAME "is" {declaration} ["private" {declaration}] "end" [NAME] ";", behind "package" (7.1)
unfoldable pub private_part_of : ℕ → Parser (Option (List (Declaration Sequence)))
private_part_of left =
    choose (sees_word (codes "private"))
    (do the_word (codes "private"); hidden ← declarations_at left; pure (Some hidden)) (pure None)

unfoldable pub package_declaration_of : ℕ → Place → Parser Package
package_declaration_of left place = do
  name ← an_identifier
  the_word (codes "is")
  visible ← declarations_at left
  hidden ← private_part_of left
  the_word (codes "end")
  named ← end_name_of name.text
  the_delimiter (codes ";")
  pure (packages.Declaration (record {
    place = place;
    name = name;
    declarations = visible;
    private = hidden;
    named_at_end = named;
  }))

-- "body" NAME "is" {declaration} ["begin" handled sequence] "end" [NAME] ";", behind "package" (7.2)
unfoldable pub package_statements_of : ℕ → Parser (Option Sequence)
package_statements_of left =
    choose (sees_word (codes "begin"))
    (do the_word (codes "begin"); inside ← sequence_of left role.Handled; pure (Some inside)) (pure None)

unfoldable pub package_body_of : ℕ → Place → Parser Package
package_body_of left place = do
  the_word (codes "body")
  name ← an_identifier
  opening_is_of left
  before ← declarations_at (below left)
  inside ← package_statements_of (below left)
  the_word (codes "end")
  named ← end_name_of name.text
  the_delimiter (codes ";")
  pure (packages.Body (record {
    place = place;
    name = name;
    declarations = before;
    sequence = inside;
    named_at_end = named;
  }))

unfoldable pub package_of : ℕ → Parser Package
package_of left = do
  place ← the_word (codes "package")
  choose (sees_word (codes "body")) (package_body_of left place) (package_declaration_of left place)

-- packages, each with its context, and the context that no package follows (10.1.1)
unfoldable pub packages_from : ℕ → ℕ → List LibraryPackage → Parser (List LibraryPackage × List ContextClause)
packages_from left zero found = context_of >>= λ context. pure (found, context)
packages_from left (suc fuel) found = do
  context ← context_of
  choose (sees_word (codes "package")) (package_of left
      >>= λ package_read. packages_from left fuel (found ++ record { context = context; «package» = package_read }
      ∷ [])) (pure (found, context))

unfoldable pub packages_of : ℕ → Parser (List LibraryPackage × List ContextClause)
packages_of left = λ ls. packages_from left (length ls) [] ls

-- "procedure" NAME [aspects] body (6.3)
unfoldable pub main_of : ℕ → Parser MainProcedure
main_of left = do
  place ← the_word (codes "procedure")
  name ← an_identifier
  aspects ← aspects_of left
  body ← body_of left (inside_of left) name.text
  pure (record { place = place; name = name; aspects = aspects; body = body })

-- nothing stands behind the procedure
abbrev pub finished : Tree → Parser Tree
finished unit [] = Ok (unit, [])
finished unit (l ∷ ls) = Err (stuck.At (length (l ∷ ls)))

-- {pragma} {package} main (10.1)
unfoldable pub source_of : ℕ → Parser Tree
source_of left = do
  pragmas ← items_of (sees_word (codes "pragma")) (pragma_of left)
  before ← packages_of left
  main ← main_of left
  finished (record { pragmas = pragmas; packages = before.0; context = before.1; main = main })

-- ---- the whole source

-- how many tokens were read before the fault
abbrev pub placed_fault : ℕ → Stuck → ParseFault
placed_fault count (stuck.At remaining) = faults.Unexpected (count - remaining)
placed_fault count (stuck.TooDeep remaining) = faults.TooDeep (count - remaining)

abbrev pub placed : ℕ → Read Tree → Result Tree ParseFault
placed count (Ok unit) = Ok unit.0
placed count (Err why) = Err (placed_fault count why)

unfoldable pub unit_of : List Lexeme → Result Tree ParseFault
unit_of lexemes = placed (length lexemes) (source_of MAX_NESTING lexemes)
