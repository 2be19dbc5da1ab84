-- At no place stand more names of a source than identifiers of its spelling.
use Rattle.std.proofs.Common.{◌≡◌, ℕ, ◌+◌, ◌≤◌, Bool, true, false, List, [], ◌∷◌, ◌++◌, map, refl, arith}
use Rattle.std.specs.Prelude.{codes, flat_map}
use Rattle.ann_base.specs.declared.places.Place.{Place}
use Rattle.ada_tree.specs.declared.names.Identifier.{Identifier}
use Rattle.ada_tree.specs.declared.names.Name.{Name}
use Rattle.ada_tree.specs.declared.statements.Sequence.{Sequence}
use Rattle.ada_tree.specs.declared.statements.SequenceRole.TheVariants as role
use Rattle.ada_tree.specs.declared.declarations.Declaration.{Declaration}
use Rattle.ada_tree.specs.declared.units.Unit.{Unit as Tree}
use Rattle.ada_tree.specs.declared.units.ContextClause.{ContextClause}
use Rattle.ada_tree.specs.declared.units.LibraryPackage.{LibraryPackage}
use Rattle.ada_tree.specs.declared.units.Package.{Package}
use Rattle.ada_tree.specs.declared.units.Package.TheVariants as packages
use Rattle.ada_tree.specs.declared.units.PackageDeclaration.{PackageDeclaration}
use Rattle.ada_tree.specs.declared.units.PackageBody.{PackageBody}
use Rattle.ada_tree.specs.declared.units.MainProcedure.{MainProcedure}
use Rattle.ada_tree.specs.Written.{word, delimiter, name_written, end_name_written}
use Rattle.ada_tree.specs.SpellingStatements.{semicolon}
use Rattle.ada_tree.specs.SpellingDeclarations.{declaration_written}
use Rattle.ada_tree.specs.Spelling.{sequence_written, pragma_written, clause_written, declarations_written, private_part_written}
use Rattle.ada_tree.specs.Spelling.{package_statements_written, package_written, library_package_written, main_written, unit_written}
use Rattle.ada_tree.specs.ShapeDeclarations.{declaration_fits}
use Rattle.ada_tree.specs.Shape.{sequence_fits, declarations_fit, package_declaration_fits, package_statements_fit}
use Rattle.ada_tree.specs.Shape.{package_parts_fit, package_fits, library_package_fits, main_fits, unit_fits}
use Rattle.ada_regions.specs.Words.{same_place, last_from}
use Rattle.ada_regions.specs.Occurrences.{the_package, the_main_procedure, the_context, the_context_of, further_context, package_region, package_body}
use Rattle.ada_regions.specs.Occurrences.{main_body, private_from_here, declares_unit, with_unit, use_package, one, within_region, in_body}
use Rattle.ada_regions.specs.NamesInDeclarations.{names_in_declaration, names_in_aspects}
use Rattle.ada_regions.specs.NamesInUnits.{names_in_sequence, clause_with, names_in_clause, names_in_context, names_in_part}
use Rattle.ada_regions.specs.NamesInUnits.{names_in_private_part, names_in_package_declaration, names_in_package_statements}
use Rattle.ada_regions.specs.NamesInUnits.{names_in_package_body, names_in_package, names_in_library_package, names_in_main, names_in_unit}
use Rattle.grammar_laws.proofs.Reading.Exact.{first_true, second_true}
use Rattle.source_laws.specs.Places.{place_of}
use Rattle.source_laws.proofs.Sources.Counting.{Covers, one_if, count, name-counted, covers-then, covers-skip, covers-past}
use Rattle.source_laws.proofs.Sources.Counting.{covers-front, covers-quiet, covers-name, covers-mention, covers-middle, covers-region}
use Rattle.source_laws.proofs.Sources.Counting.{covers-named_region, covers-flat, covers-in_all, covers-each_plain, covers-there_plain}
use Rattle.source_laws.proofs.Sources.Parts.{covers-aspects}
use Rattle.source_laws.proofs.Sources.Statements.{opened}
use Rattle.source_laws.proofs.Sources.Sequences.{covers-declaration, covers-whole_body, covers-sequence}

-- ---- context clauses: of a with clause the last part of each name

last-counted : (p : Place) (i : Identifier) (is : List Identifier)
    → one_if (same_place p (last_from i is).place) ≤ one_if (same_place p i.place) + count p (map place_of is)
last-counted p i [] = omega arith
last-counted p i (j ∷ is) = let h = last-counted p j is in omega arith

covers-with : (name : Name) → Covers [] (one (with_unit name)) (name_written name)
covers-with name = record { at = λ p. (let h = last-counted p name.parts.first name.parts.others in let g = name-counted p name in omega arith) }

covers-clause_name : (is_use : Bool) (name : Name) → Covers [] (one (clause_with is_use name)) (name_written name)
covers-clause_name true name = covers-mention name (use_package name) refl
covers-clause_name false name = covers-with name

covers-clause : (c : ContextClause) → Covers [] (names_in_clause c) (clause_written c)
covers-clause c =
    covers-skip _
    (covers-front semicolon
    (covers-in_all (delimiter (codes ",")) (λ name. one (clause_with c.is_use name)) name_written (covers-clause_name c.is_use) c.names))

covers-context : (context : List ContextClause) → Covers [] (names_in_context context) (flat_map clause_written context)
covers-context context = covers-flat names_in_clause clause_written covers-clause context

-- ---- library units

module _ (level : ℕ) where
  covers-part : (ds : List (Declaration Sequence)) → declarations_fit level ds ≡ true → Covers [] (names_in_part ds) (declarations_written ds)
  covers-part ds e =
      covers-each_plain (names_in_declaration names_in_sequence) (declaration_written sequence_written) (declaration_fits sequence_fits level)
      (covers-declaration level (λ m less. covers-sequence m)) ds e

  covers-private_part : (ds : List (Declaration Sequence)) → declarations_fit level ds ≡ true → Covers [] (names_in_private_part ds) (private_part_written ds)
  covers-private_part ds e = covers-quiet private_from_here refl (covers-skip _ (covers-part ds e))

  covers-package_declaration : (context : List ContextClause) (p : PackageDeclaration) → package_declaration_fits level p ≡ true
      → Covers [] (names_in_package_declaration context p) (flat_map clause_written context ++ package_written (packages.Declaration p))
  covers-package_declaration context p e =
      covers-region the_context refl
      (covers-then (covers-context context)
      (covers-skip _ (covers-name p.name (declares_unit p.name the_package) refl (covers-region (package_region p.name) refl (covers-skip _
      (covers-then (covers-part p.declarations (first_true _ _ e)) (covers-front (word (codes "end") ∷ (end_name_written p.named_at_end p.name ++ semicolon))
      (covers-there_plain names_in_private_part private_part_written (declarations_fit level) covers-private_part p.private (second_true _ _ e)))))))))

covers-package_statements : (level : ℕ) (s : Sequence) → package_statements_fit level s ≡ true
    → Covers [] (names_in_package_statements s) (package_statements_written s)
covers-package_statements level s e = covers-skip _ (covers-sequence level s role.Handled e)

covers-package_body : (level : ℕ) (context : List ContextClause) (p : PackageBody) → package_parts_fit p level ≡ true
    → Covers [] (names_in_package_body context p) (flat_map clause_written context ++ package_written (packages.Body p))
covers-package_body level context p e =
    covers-region (the_context_of p.name) refl
    (covers-region further_context refl
    (covers-then (covers-context context) (covers-skip _ (covers-skip _ (covers-named_region (package_body p.name) p.name refl (covers-skip _
    (covers-then (covers-part level p.declarations (first_true _ _ e))
    (covers-front (word (codes "end") ∷ (end_name_written p.named_at_end p.name ++ semicolon))
    (covers-there_plain names_in_package_statements package_statements_written (package_statements_fit level) (covers-package_statements level) p.sequence
    (second_true _ _ e))))))))))

covers-package : (level : ℕ) (context : List ContextClause) (p : Package) → package_fits level p ≡ true
    → Covers [] (names_in_package context p) (flat_map clause_written context ++ package_written p)
covers-package level context (packages.Declaration p) e = covers-package_declaration level context p e
covers-package level context (packages.Body p) e = let inside = opened level (package_parts_fit p) e in covers-package_body inside.inner context p inside.holds

covers-library_package : (level : ℕ) (l : LibraryPackage) → library_package_fits level l ≡ true
    → Covers [] (names_in_library_package l) (library_package_written l)
covers-library_package level l e = covers-package level l.context l.package e

covers-main : (level : ℕ) (context : List ContextClause) (m : MainProcedure) → main_fits level m ≡ true
    → Covers [] (names_in_main context m) (flat_map clause_written context ++ main_written m)
covers-main level context m e =
    covers-region the_context refl (covers-then (covers-context context)
    (covers-middle (names_in_aspects m.aspects) (declares_unit m.name the_main_procedure)
    (within_region (main_body m.name m.place) (in_body (names_in_sequence m.body.sequence)))
    (covers-skip _ (covers-name m.name (declares_unit m.name the_main_procedure) refl (covers-then (covers-aspects m.aspects)
    (covers-region (main_body m.name m.place) refl (covers-whole_body level (λ k less. covers-sequence k) m.name m.body (second_true _ _ e))))))))

-- ---- a source

pub covers-unit : (level : ℕ) (unit : Tree) → unit_fits level unit ≡ true → Covers [] (names_in_unit unit) (unit_written unit)
covers-unit level unit e =
    let behind = second_true _ _ e in
    covers-past (flat_map pragma_written unit.pragmas)
    (covers-then (covers-each_plain names_in_library_package library_package_written (library_package_fits level) (covers-library_package level) unit.packages
    (first_true _ _ behind))
    (covers-main level unit.context unit.main (second_true _ _ behind)))
