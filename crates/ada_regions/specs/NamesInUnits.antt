-- The names in sequences, library units and a source (3.11, 7.1, 7.2, 10.1), in the order of the text.
use Rattle.std.specs.Prelude.{Bool, true, false, List, ◌∷◌, ◌++◌}
use Rattle.std.specs.List.{flat_map}
use Rattle.ada_tree.specs.declared.names.Name.{Name}
use Rattle.ada_tree.specs.declared.statements.Sequence.{Sequence}
use Rattle.ada_tree.specs.declared.statements.Sequence.TheOpen.{Sequence-F}
use Rattle.ada_tree.specs.declared.statements.Sequence.TheFolds.{fold-Sequence}
use Rattle.ada_tree.specs.declared.statements.SequenceParts.{SequenceParts}
use Rattle.ada_tree.specs.declared.declarations.Declaration.{Declaration}
use Rattle.ada_tree.specs.declared.units.Unit.{Unit as Tree}
use Rattle.ada_tree.specs.declared.units.ContextClause.{ContextClause}
use Rattle.ada_tree.specs.declared.units.LibraryPackage.{LibraryPackage}
use Rattle.ada_tree.specs.declared.units.Package.{Package}
use Rattle.ada_tree.specs.declared.units.Package.TheVariants as packages
use Rattle.ada_tree.specs.declared.units.PackageDeclaration.{PackageDeclaration}
use Rattle.ada_tree.specs.declared.units.PackageBody.{PackageBody}
use Rattle.ada_tree.specs.declared.units.MainProcedure.{MainProcedure}
use Rattle.ada_regions.specs.Occurrences.{Occurrence, Occurrences, SequenceNames, the_package, the_main_procedure}
use Rattle.ada_regions.specs.Occurrences.{the_context, the_context_of, further_context, package_region}
use Rattle.ada_regions.specs.Occurrences.{package_body, main_body, private_from_here, declares_unit, with_unit}
use Rattle.ada_regions.specs.Occurrences.{use_package, in_all, if_there, one, within_region, in_body}
use Rattle.ada_regions.specs.NamesInStatements.{names_in_statement, labels_in_statement}
use Rattle.ada_regions.specs.NamesInStatements.{names_in_handler, labels_in_handler}
use Rattle.ada_regions.specs.NamesInDeclarations.{names_in_declaration, names_in_aspects}

-- ---- sequences

module _ {Q : Type 0} (sequence : Q → SequenceNames) where
  abbrev pub names_in_parts : SequenceParts Q → SequenceNames
  names_in_parts s = record {
    declarations = flat_map (names_in_declaration sequence) s.declarations;
    labels = in_all (labels_in_statement sequence) s.statements ++ flat_map (labels_in_handler sequence) s.handlers;
    statements = in_all (names_in_statement sequence) s.statements ++ flat_map (names_in_handler sequence) s.handlers;
  }

abbrev pub same_sequence : SequenceNames → SequenceNames
same_sequence names = names

abbrev pub sequence_layer : Sequence-F SequenceNames → SequenceNames
sequence_layer s = names_in_parts same_sequence s.parts

abbrev pub names_in_sequence : Sequence → SequenceNames
names_in_sequence = fold-Sequence SequenceNames sequence_layer

-- ---- library units (10.1)

abbrev pub clause_with : Bool → Name → Occurrence
clause_with true name = use_package name
clause_with false name = with_unit name

abbrev pub names_in_clause : ContextClause → Occurrences
names_in_clause c = in_all (λ name. one (clause_with c.is_use name)) c.names

abbrev pub names_in_context : List ContextClause → Occurrences
names_in_context clauses = flat_map names_in_clause clauses

abbrev pub names_in_part : List (Declaration Sequence) → Occurrences
names_in_part declarations = flat_map (names_in_declaration names_in_sequence) declarations

abbrev pub names_in_private_part : List (Declaration Sequence) → Occurrences
names_in_private_part declarations = private_from_here ∷ names_in_part declarations

abbrev pub names_in_package_declaration : List ContextClause → PackageDeclaration → Occurrences
names_in_package_declaration context p =
    within_region the_context (names_in_context context
    ++ (declares_unit p.name the_package ∷ within_region (package_region p.name) (names_in_part p.declarations
    ++ if_there names_in_private_part p.private)))

abbrev pub names_in_package_statements : Sequence → Occurrences
names_in_package_statements s = in_body (names_in_sequence s)

-- the context of a package's declaration holds in its body too (10.1.2)
abbrev pub names_in_package_body : List ContextClause → PackageBody → Occurrences
names_in_package_body context p =
    within_region (the_context_of p.name) (within_region further_context (names_in_context context
    ++ within_region (package_body p.name) (names_in_part p.declarations
    ++ if_there names_in_package_statements p.sequence)))

abbrev pub names_in_package : List ContextClause → Package → Occurrences
names_in_package context (packages.Declaration p) = names_in_package_declaration context p
names_in_package context (packages.Body p) = names_in_package_body context p

abbrev pub names_in_library_package : LibraryPackage → Occurrences
names_in_library_package l = names_in_package l.context l.package

abbrev pub names_in_main : List ContextClause → MainProcedure → Occurrences
names_in_main context m =
    within_region the_context (names_in_context context
    ++ (names_in_aspects m.aspects ++ (declares_unit m.name the_main_procedure
    ∷ within_region (main_body m.name m.place) (in_body (names_in_sequence m.body.sequence)))))

-- ---- a source: nothing is said of the names in pragmas

abbrev pub names_in_unit : Tree → Occurrences
names_in_unit u = flat_map names_in_library_package u.packages ++ names_in_main u.context u.main
