-- The scopes of a source are those of places at which no more of them stand than the text numbers, and than tokens.
use Rattle.std.proofs.Common.{◌≡◌, ℕ, true, false, List, [], ◌∷◌, ◌++◌, Option, Some, None, refl, sym, ap, subst, ◌∙◌, append_assoc, append-nil, arith}
use Rattle.std.specs.Prelude.{codes, unwrap_or}
use Rattle.std.specs.List.{flat_map, list_all}
use Rattle.ada_tree.specs.declared.statements.Sequence.{Sequence}
use Rattle.ada_tree.specs.declared.declarations.Declaration.{Declaration}
use Rattle.ada_tree.specs.declared.units.Unit.{Unit as Tree}
use Rattle.ada_tree.specs.declared.units.ContextClause.{ContextClause}
use Rattle.ada_tree.specs.declared.units.LibraryPackage.{LibraryPackage}
use Rattle.ada_tree.specs.declared.units.Package.{Package}
use Rattle.ada_tree.specs.declared.units.Package.TheVariants as packages
use Rattle.ada_tree.specs.declared.units.PackageDeclaration.{PackageDeclaration}
use Rattle.ada_tree.specs.declared.units.PackageBody.{PackageBody}
use Rattle.ada_tree.specs.declared.units.MainProcedure.{MainProcedure}
use Rattle.ada_tree.specs.Written.{optional}
use Rattle.ada_tree.specs.SpellingDeclarations.{aspects_written}
use Rattle.ada_tree.specs.Spelling.{pragma_written, clause_written, declarations_written, private_part_written}
use Rattle.ada_tree.specs.Spelling.{package_statements_written, package_written, library_package_written, main_written, unit_written}
use Rattle.ada_tree.specs.ShapeExpressions.{optional_fits}
use Rattle.ada_tree.specs.Shape.{declarations_fit, package_declaration_fits, package_statements_fit}
use Rattle.ada_tree.specs.Shape.{package_parts_fit, package_fits, library_package_fits, main_fits, unit_fits}
use Rattle.ada_regions.specs.declared.table.Names.{Names}
use Rattle.ada_regions.specs.Occurrences.{the_package, the_main_procedure, the_context, the_context_of, further_context}
use Rattle.ada_regions.specs.Occurrences.{package_region, package_body, main_body, private_from_here, declares_unit, if_there}
use Rattle.ada_regions.specs.NamesInDeclarations.{names_in_aspects}
use Rattle.ada_regions.specs.NamesInUnits.{names_in_sequence, names_in_context, names_in_part, names_in_private_part}
use Rattle.ada_regions.specs.NamesInUnits.{names_in_package_declaration, names_in_package_statements, names_in_package_body}
use Rattle.ada_regions.specs.NamesInUnits.{names_in_package, names_in_library_package, names_in_main, names_in_unit}
use Rattle.image_laws.specs.ScopesOfText.{body_scopes, declaration_scopes, declarations_scopes, sequence_scopes}
use Rattle.image_laws.specs.ScopesOfText.{package_statements_scopes, package_scopes, packages_scopes}
use Rattle.grammar_laws.proofs.Reading.Exact.{first_true, second_true}
use Rattle.source_laws.proofs.Sources.Statements.{opened}
use Rattle.source_laws.proofs.Accepted.Counting.{Begins, begins-none, begins-both, begins-turned, begins-skip, begins-past}
use Rattle.source_laws.proofs.Accepted.Counting.{begins-front, begins-quiet, begins-behind, begins-region, begins-scope}
use Rattle.source_laws.proofs.Accepted.Sequences.{begins-body, begins-declarations, begins-sequence}

module _ (n : Names) where
  -- ---- the parts of packages

  begins-part : (level : ℕ) (ds : List (Declaration Sequence)) → declarations_fit level ds ≡ true
      → Begins n (declarations_scopes sequence_scopes ds n) (names_in_part ds) (declarations_written ds)
  begins-part level ds e = begins-declarations n level (λ m less. begins-sequence n m) ds e

  begins-private : (level : ℕ) (x : Option (List (Declaration Sequence))) → optional_fits (declarations_fit level) x ≡ true
      → Begins n (declarations_scopes sequence_scopes (unwrap_or x []) n) (if_there names_in_private_part x) (optional private_part_written x)
  begins-private level None e = begins-none _ _
  begins-private level (Some ds) e = begins-quiet private_from_here (begins-skip _ (begins-part level ds e))

  begins-statements : (level : ℕ) (x : Option Sequence) → optional_fits (package_statements_fit level) x ≡ true
      → Begins n (package_statements_scopes x n) (if_there names_in_package_statements x) (optional package_statements_written x)
  begins-statements level None e = begins-none _ _
  begins-statements level (Some s) e =
      begins-skip _ (begins-behind (names_in_sequence s).declarations (begins-behind (names_in_sequence s).labels ((begins-sequence n level).handled s e)))

  scopes-append : (ds es : List (Declaration Sequence))
      → declarations_scopes sequence_scopes (ds ++ es) n ≡ declarations_scopes sequence_scopes es n ++ declarations_scopes sequence_scopes ds n
  scopes-append [] es = sym (append-nil (declarations_scopes sequence_scopes es n))
  scopes-append (d ∷ ds) es =
      ap (λ ss. ss ++ declaration_scopes sequence_scopes d n) (scopes-append ds es)
      ∙ append_assoc (declarations_scopes sequence_scopes es n) (declarations_scopes sequence_scopes ds n) (declaration_scopes sequence_scopes d n)

  -- ---- library units

  begins-package_declaration : (level : ℕ) (context : List ContextClause) (p : PackageDeclaration) → package_declaration_fits level p ≡ true
      → Begins n (package_scopes (packages.Declaration p) n) (names_in_package_declaration context p)
      (flat_map clause_written context ++ package_written (packages.Declaration p))
  begins-package_declaration level context p e =
      subst (λ scopes. Begins n scopes (names_in_package_declaration context p) (flat_map clause_written context ++ package_written (packages.Declaration p)))
      (sym (scopes-append p.declarations (unwrap_or p.private [])))
      (begins-region the_context
      (begins-behind (names_in_context context) (begins-past (flat_map clause_written context) (begins-skip _ (begins-skip _ (begins-skip _
      (begins-quiet (declares_unit p.name the_package) (begins-region (package_region p.name)
      (begins-turned (begins-part level p.declarations (first_true _ _ e)) (begins-front _ (begins-private level p.private (second_true _ _ e))))))))))))

  begins-package_body : (level : ℕ) (context : List ContextClause) (p : PackageBody) → package_parts_fit p level ≡ true
      → Begins n (package_scopes (packages.Body p) n) (names_in_package_body context p) (flat_map clause_written context ++ package_written (packages.Body p))
  begins-package_body level context p e =
      begins-region (the_context_of p.name)
      (begins-region further_context (begins-behind (names_in_context context) (begins-past (flat_map clause_written context)
      (begins-skip _ (begins-skip _ (begins-skip _ (begins-skip _ (begins-region (package_body p.name)
      (begins-turned (begins-part level p.declarations (first_true _ _ e)) (begins-front _ (begins-statements level p.sequence (second_true _ _ e))))))))))))

  begins-package : (level : ℕ) (context : List ContextClause) (p : Package) → package_fits level p ≡ true
      → Begins n (package_scopes p n) (names_in_package context p) (flat_map clause_written context ++ package_written p)
  begins-package level context (packages.Declaration p) e = begins-package_declaration level context p e
  begins-package level context (packages.Body p) e =
      let inside = opened level (package_parts_fit p) e in begins-package_body inside.inner context p inside.holds

  begins-packages : (level : ℕ) (ls : List LibraryPackage) → list_all (library_package_fits level) ls ≡ true
      → Begins n (packages_scopes ls n) (flat_map names_in_library_package ls) (flat_map library_package_written ls)
  begins-packages level [] e = begins-none _ _
  begins-packages level (l ∷ ls) e = begins-both (begins-package level l.context l.package (first_true _ _ e)) (begins-packages level ls (second_true _ _ e))

  begins-main : (level : ℕ) (context : List ContextClause) (m : MainProcedure) → main_fits level m ≡ true
      → Begins n (body_scopes sequence_scopes m.place false m.body.sequence n) (names_in_main context m) (flat_map clause_written context ++ main_written m)
  begins-main level context m e =
      begins-region the_context
      (begins-behind (names_in_context context) (begins-past (flat_map clause_written context) (begins-behind (names_in_aspects m.aspects)
      (begins-quiet (declares_unit m.name the_main_procedure)
      (begins-scope (main_body m.name m.place) m.place (codes "procedure") refl (begins-skip _ (begins-past (aspects_written m.aspects)
      (begins-body n level (λ k less. begins-sequence n k) level (omega arith) m.name false m.body (second_true _ _ e)))))))))

  -- ---- a source, without the environment

  pub begins-unit : (level : ℕ) (unit : Tree) → unit_fits level unit ≡ true
      → Begins n (packages_scopes unit.packages n ++ body_scopes sequence_scopes unit.main.place false unit.main.body.sequence n) (names_in_unit unit)
      (unit_written unit)
  begins-unit level unit e =
      let behind = second_true _ _ e in
      begins-past (flat_map pragma_written unit.pragmas)
      (begins-both (begins-packages level unit.packages (first_true _ _ behind)) (begins-main level unit.context unit.main (second_true _ _ behind)))
