-- Which sequences, units and sources are those of the grammar: precedence is kept, parts stand where they may, and
-- nesting is at most 100.
use Rattle.std.specs.Prelude.{ℕ, Bool, true, false, ◌&&◌, List, [], ◌∷◌}
use Rattle.std.specs.List.{list_all}
use Rattle.ann_base.specs.Lists.{is_empty}
use Rattle.ada_tree.specs.declared.units.TheConstants.{MAX_NESTING}
use Rattle.ada_tree.specs.declared.statements.SequenceRole.{SequenceRole}
use Rattle.ada_tree.specs.declared.statements.SequenceRole.TheVariants as role
use Rattle.ada_tree.specs.declared.statements.Sequence.{Sequence}
use Rattle.ada_tree.specs.declared.statements.Sequence.TheOpen.{Sequence-F}
use Rattle.ada_tree.specs.declared.statements.Sequence.TheFolds.{fold-Sequence}
use Rattle.ada_tree.specs.declared.statements.SequenceParts.{SequenceParts}
use Rattle.ada_tree.specs.declared.declarations.Declaration.{Declaration}
use Rattle.ada_tree.specs.declared.units.Unit.{Unit as Tree}
use Rattle.ada_tree.specs.declared.units.Pragma.{Pragma}
use Rattle.ada_tree.specs.declared.units.LibraryPackage.{LibraryPackage}
use Rattle.ada_tree.specs.declared.units.Package.{Package}
use Rattle.ada_tree.specs.declared.units.PackageDeclaration.{PackageDeclaration}
use Rattle.ada_tree.specs.declared.units.PackageBody.{PackageBody}
use Rattle.ada_tree.specs.declared.units.MainProcedure.{MainProcedure}
use Rattle.ada_tree.specs.declared.units.Package.TheVariants as packages
use Rattle.ada_tree.specs.ShapeExpressions.{within, all_fit, optional_fits, expression_fits, argument_fits}
use Rattle.ada_tree.specs.ShapeStatements.{statement_fits, handler_fits}
use Rattle.ada_tree.specs.ShapeDeclarations.{declaration_fits, body_fits, aspects_fit}

-- ---- sequences

-- Whether a sequence holds what it may where it stands, and nests within so many levels.
abbrev pub SequenceFit : Type 0
SequenceFit = SequenceRole → ℕ → Bool

module _ {Q : Type 0} (sequence : Q → SequenceFit) where
  abbrev pub all_statements_fit : SequenceParts Q → ℕ → Bool
  all_statements_fit s left = all_fit (statement_fits sequence left) s.statements

  abbrev pub handled_fits : SequenceParts Q → ℕ → Bool
  handled_fits s left = all_statements_fit s left && list_all (handler_fits sequence left) s.handlers

  abbrev pub sequence_fits_by : SequenceParts Q → SequenceFit
  sequence_fits_by s role.Statements left = is_empty s.declarations
      && (is_empty s.handlers && all_statements_fit s left)
  sequence_fits_by s role.Handled left = is_empty s.declarations && handled_fits s left
  sequence_fits_by s role.Body left = list_all (declaration_fits sequence left) s.declarations && handled_fits s left

abbrev pub same_sequence_fit : SequenceFit → SequenceFit
same_sequence_fit fit = fit

abbrev pub sequence_fit_layer : Sequence-F SequenceFit → SequenceFit
sequence_fit_layer s = sequence_fits_by same_sequence_fit s.parts

abbrev pub sequence_fits : Sequence → SequenceFit
sequence_fits = fold-Sequence SequenceFit sequence_fit_layer

-- ---- units: a pragma's arguments stand in brackets

abbrev pub pragma_arguments_fit : Pragma → ℕ → Bool
pragma_arguments_fit p left = all_fit (argument_fits expression_fits left) p.arguments

abbrev pub pragma_fits : ℕ → Pragma → Bool
pragma_fits left p = within left (pragma_arguments_fit p)

abbrev pub declarations_fit : ℕ → List (Declaration Sequence) → Bool
declarations_fit left declarations = list_all (declaration_fits sequence_fits left) declarations

abbrev pub package_declaration_fits : ℕ → PackageDeclaration → Bool
package_declaration_fits left p = declarations_fit left p.declarations
    && optional_fits (declarations_fit left) p.private

abbrev pub package_statements_fit : ℕ → Sequence → Bool
package_statements_fit left s = sequence_fits s role.Handled left

-- the body of a package is a level from `is` on
abbrev pub package_parts_fit : PackageBody → ℕ → Bool
package_parts_fit p left = declarations_fit left p.declarations
    && optional_fits (package_statements_fit left) p.sequence

abbrev pub package_fits : ℕ → Package → Bool
package_fits left (packages.Declaration p) = package_declaration_fits left p
package_fits left (packages.Body p) = within left (package_parts_fit p)

abbrev pub library_package_fits : ℕ → LibraryPackage → Bool
library_package_fits left l = package_fits left l.package

abbrev pub main_fits : ℕ → MainProcedure → Bool
main_fits left m = aspects_fit left m.aspects && body_fits sequence_fits left m.body

abbrev pub unit_fits : ℕ → Tree → Bool
unit_fits left u = list_all (pragma_fits left) u.pragmas
    && (list_all (library_package_fits left) u.packages && main_fits left u.main)

unfoldable pub is_shaped : Tree → Bool
is_shaped unit = unit_fits MAX_NESTING unit
