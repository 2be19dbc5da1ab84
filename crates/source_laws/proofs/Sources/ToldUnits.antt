-- What legality finds in a source is worth at least what the source tells of task and protected units.
use Rattle.std.proofs.Common.{◌≡◌, ℕ, ◌+◌, Bool, true, false, List, [], ◌∷◌, ◌++◌, refl}
use Rattle.ada_tree.specs.declared.names.Name.{Name}
use Rattle.ada_tree.specs.declared.statements.Sequence.{Sequence}
use Rattle.ada_tree.specs.declared.statements.SequenceRole.TheVariants as role
use Rattle.ada_tree.specs.declared.declarations.Declaration.{Declaration}
use Rattle.ada_tree.specs.declared.units.Unit.{Unit as Tree}
use Rattle.ada_tree.specs.declared.units.ContextClause.{ContextClause}
use Rattle.ada_tree.specs.declared.units.Package.{Package}
use Rattle.ada_tree.specs.declared.units.Package.TheVariants as packages
use Rattle.ada_tree.specs.declared.units.PackageDeclaration.{PackageDeclaration}
use Rattle.ada_tree.specs.declared.units.PackageBody.{PackageBody}
use Rattle.ada_tree.specs.declared.units.MainProcedure.{MainProcedure}
use Rattle.ada_tree.specs.ShapeDeclarations.{declaration_fits}
use Rattle.ada_tree.specs.Shape.{sequence_fits, declarations_fit, package_declaration_fits, package_statements_fit}
use Rattle.ada_tree.specs.Shape.{package_parts_fit, package_fits, library_package_fits, main_fits, unit_fits}
use Rattle.ada_legality.specs.declared.standing.Known.{Known}
use Rattle.ada_legality.specs.declared.standing.Around.TheVariants as around
use Rattle.ada_legality.specs.SimpleStatements.{with_around}
use Rattle.ada_legality.specs.Declarations.{declaration_found, sequence_found}
use Rattle.ada_legality.specs.Units.{context_found, part_found, package_declaration_found, package_body_found}
use Rattle.ada_legality.specs.Units.{package_found, library_package_found, main_found, units_found}
use Rattle.ada_regions.specs.Occurrences.{the_package, the_main_procedure, the_context, the_context_of, further_context, package_region}
use Rattle.ada_regions.specs.Occurrences.{package_body, main_body, private_from_here, declares_unit, with_unit, use_package, one}
use Rattle.ada_regions.specs.NamesInDeclarations.{names_in_declaration}
use Rattle.ada_regions.specs.NamesInUnits.{names_in_sequence, clause_with, names_in_clause, names_in_context, names_in_part}
use Rattle.ada_regions.specs.NamesInUnits.{names_in_private_part, names_in_package_declaration, names_in_package_statements}
use Rattle.ada_regions.specs.NamesInUnits.{names_in_package_body, names_in_package, names_in_library_package, names_in_main, names_in_unit}
use Rattle.grammar_laws.proofs.Reading.Exact.{first_true, second_true}
use Rattle.source_laws.proofs.Sources.Statements.{opened}
use Rattle.source_laws.proofs.Sources.Quiet.{Weights, Quiet, quiet-one, quiet-in_all, quiet-flat, quiet-aspects}
use Rattle.source_laws.proofs.Sources.Told.{Tells, tells-both, tells-past, tells-quiet, tells-still, tells-region, tells-each, tells-there}
use Rattle.source_laws.proofs.Sources.ToldSequences.{tells-declaration, told-whole_body, told-sequence}

quiet-clause_name : (is_use : Bool) (name : Name) → Quiet (one (clause_with is_use name))
quiet-clause_name true name = quiet-one (use_package name) (λ w n. refl)
quiet-clause_name false name = quiet-one (with_unit name) (λ w n. refl)

quiet-context : (context : List ContextClause) → Quiet (names_in_context context)
quiet-context context = quiet-flat names_in_clause (λ c. quiet-in_all (λ name. one (clause_with c.is_use name)) (quiet-clause_name c.is_use) c.names) context

module _ (w : Weights) (level : ℕ) where
  tells-part : (k : Known) (ds : List (Declaration Sequence)) → declarations_fit level ds ≡ true → Tells w k.names (names_in_part ds) (part_found ds k)
  tells-part k ds e =
      tells-each k (names_in_declaration names_in_sequence) (declaration_found sequence_found) (declaration_fits sequence_fits level)
      (tells-declaration level (λ m less. told-sequence m) w k) ds e

  tells-private_part : (k : Known) (ds : List (Declaration Sequence)) → declarations_fit level ds ≡ true
      → Tells w k.names (names_in_private_part ds) (part_found ds k)
  tells-private_part k ds e = tells-still private_from_here (λ w n. refl) (tells-part k ds e)

  tells-package_declaration : (k : Known) (context : List ContextClause) (p : PackageDeclaration) → package_declaration_fits level p ≡ true
      → Tells w k.names (names_in_package_declaration context p) (context_found context k ++ package_declaration_found p k)
  unfolding package_declaration_found
  tells-package_declaration k context p e =
      tells-region the_context (λ w n. refl)
      (tells-quiet (quiet-context context)
      (tells-still (declares_unit p.name the_package) (λ w n. refl) (tells-region (package_region p.name) (λ w n. refl) (tells-past _
      (tells-both (tells-part (with_around around.Package k) p.declarations (first_true _ _ e))
      (tells-there (with_around around.Package k) names_in_private_part part_found (declarations_fit level)
      (tells-private_part (with_around around.Package k)) p.private (second_true _ _ e)))))))

  tells-package_body : (k : Known) (context : List ContextClause) (p : PackageBody) → package_parts_fit p level ≡ true
      → Tells w k.names (names_in_package_body context p) (context_found context k ++ package_body_found p k)
  unfolding package_body_found
  tells-package_body k context p e =
      tells-region (the_context_of p.name) (λ w n. refl)
      (tells-region further_context (λ w n. refl) (tells-quiet (quiet-context context) (tells-region (package_body p.name) (λ w n. refl) (tells-past _
      (tells-both (tells-part (with_around around.Package k) p.declarations (first_true _ _ e))
      (tells-there (with_around around.Package k) names_in_package_statements sequence_found (package_statements_fit level)
      (λ s f. (told-sequence level s role.Handled f).whole w (with_around around.Package k)) p.sequence (second_true _ _ e)))))))

  tells-main : (k : Known) (context : List ContextClause) (m : MainProcedure) → main_fits level m ≡ true
      → Tells w k.names (names_in_main context m) (context_found context k ++ main_found m k)
  unfolding main_found
  tells-main k context m e =
      tells-region the_context (λ w n. refl)
      (tells-quiet (quiet-context context) (tells-quiet (quiet-aspects m.aspects) (tells-still (declares_unit m.name the_main_procedure) (λ w n. refl)
      (tells-region (main_body m.name m.place) (λ w n. refl) (tells-past _ (tells-past _ (tells-past (_ ∷ [])
      ((told-whole_body level (λ k less. told-sequence k) m.body (second_true _ _ e)).whole w (with_around around.Main k)))))))))

tells-package : (w : Weights) (level : ℕ) (k : Known) (context : List ContextClause) (p : Package) → package_fits level p ≡ true
    → Tells w k.names (names_in_package context p) (context_found context k ++ package_found p k)
tells-package w level k context (packages.Declaration p) e = tells-package_declaration w level k context p e
tells-package w level k context (packages.Body p) e =
    let inside = opened level (package_parts_fit p) e in tells-package_body w inside.inner k context p inside.holds

pub tells-unit : (w : Weights) (level : ℕ) (k : Known) (unit : Tree) → unit_fits level unit ≡ true → Tells w k.names (names_in_unit unit) (units_found unit k)
unfolding units_found library_package_found
tells-unit w level k unit e =
    let behind = second_true _ _ e in
    tells-both (tells-each k names_in_library_package library_package_found (library_package_fits level)
    (λ l f. tells-package w level k l.context l.package f) unit.packages (first_true _ _ behind))
    (tells-main w level k unit.context unit.main (second_true _ _ behind))
