-- What a source tells is a text, and contexts stand outside all regions in it.
use Rattle.std.proofs.Common.{◌≡◌, Bool, true, false, List, [], ◌∷◌, ◌++◌, refl, sym, ap, subst, ◌∙◌}
use Rattle.std.specs.List.{flat_map}
use Rattle.ada_tree.specs.declared.names.Name.{Name}
use Rattle.ada_tree.specs.declared.statements.Sequence.{Sequence}
use Rattle.ada_tree.specs.declared.declarations.Declaration.{Declaration}
use Rattle.ada_tree.specs.declared.units.Unit.{Unit as Tree}
use Rattle.ada_tree.specs.declared.units.ContextClause.{ContextClause}
use Rattle.ada_tree.specs.declared.units.Package.{Package}
use Rattle.ada_tree.specs.declared.units.Package.TheVariants as packages
use Rattle.ada_tree.specs.declared.units.PackageDeclaration.{PackageDeclaration}
use Rattle.ada_tree.specs.declared.units.PackageBody.{PackageBody}
use Rattle.ada_tree.specs.declared.units.MainProcedure.{MainProcedure}
use Rattle.ada_tree.specs.declared.units.LibraryPackage.{LibraryPackage}
use Rattle.ada_regions.specs.Occurrences.{Occurrences, Region, begins, if_there, in_body, within_region, the_package, the_main_procedure, the_context}
use Rattle.ada_regions.specs.Occurrences.{the_context_of, further_context, package_region, package_body, main_body, private_from_here, declares_unit, one}
use Rattle.ada_regions.specs.NamesInDeclarations.{names_in_declaration, names_in_aspects}
use Rattle.ada_regions.specs.NamesInUnits.{clause_with, names_in_clause, names_in_context, names_in_part, names_in_private_part}
use Rattle.ada_regions.specs.NamesInUnits.{names_in_package_declaration, names_in_package_statements, names_in_package_body}
use Rattle.ada_regions.specs.NamesInUnits.{names_in_package, names_in_library_package, names_in_main, names_in_unit, names_in_sequence}
use Rattle.source_laws.specs.Positions.{Before, around, read_on, end_of}
use Rattle.source_laws.proofs.Names.Placing.{looks, clauses_here, IsPlaced, clauses-look}
use Rattle.source_laws.proofs.Names.Texts.{IsText, Whole, read_on-append, whole-append, whole-flat, Settles, whole-one, ended-placed, whole-region}
use Rattle.source_laws.proofs.Names.Texts.{whole-declared_region, Inside, inside-append, inside-cons, inside-region, inside-flat, inside-if_there}
use Rattle.source_laws.proofs.Names.Insides.{inside-aspects}
use Rattle.source_laws.proofs.Names.Sequences.{inside-body, inside-sequence, inside-whole_declaration}

-- ---- clauses

clause-settles : (is_use : Bool) (name : Name) → Settles (clause_with is_use name)
clause-settles true name = record { behind = tt; here = λ before. tt; next = refl; stays = λ before. refl }
clause-settles false name = record { behind = tt; here = λ before. tt; next = refl; stays = λ before. refl }

whole-clauses : (is_use : Bool) (names : List Name) → Whole (flat_map (λ name. one (clause_with is_use name)) names)
whole-clauses is_use names = whole-flat (λ name. one (clause_with is_use name)) (λ name. whole-one _ (clause-settles is_use name)) names

whole-clause : (c : ContextClause) → Whole (names_in_clause c)
whole-clause c =
    whole-append (one (clause_with c.is_use c.names.first)) _ (whole-one _ (clause-settles c.is_use c.names.first)) (whole-clauses c.is_use c.names.others)

whole-context : (clauses : List ContextClause) → Whole (names_in_context clauses)
whole-context clauses = whole-flat names_in_clause whole-clause clauses

-- lists that may stand where clauses may
record Clauses (os : Occurrences) : Type 0 where
  placed : (before : Before) → IsPlaced before → clauses_here before ≡ true → IsPlaced (read_on os before) × (clauses_here (read_on os before) ≡ true)

clauses-append : (xs ys : Occurrences) → Clauses xs → Clauses ys → Clauses (xs ++ ys)
clauses-append xs ys a b = record {
  placed = λ before p l. (
      let first = a.placed before p l in
      subst (λ z. IsPlaced z × (clauses_here z ≡ true)) (sym (read_on-append xs ys before)) (b.placed (read_on xs before) first.0 first.1));
}

clauses-flat : {X : Type 0} (f : X → Occurrences) (all : (x : X) → Clauses (f x)) (xs : List X) → Clauses (flat_map f xs)
clauses-flat f all [] = record { placed = λ before p l. (p, l) }
clauses-flat f all (x ∷ xs) = clauses-append (f x) (flat_map f xs) (all x) (clauses-flat f all xs)

clauses-one : (is_use : Bool) (name : Name) → Clauses (one (clause_with is_use name))
clauses-one true name = record { placed = λ before p l. ((clauses-look before l, p), l) }
clauses-one false name = record { placed = λ before p l. ((l, p), l) }

clauses-clause : (c : ContextClause) → Clauses (names_in_clause c)
clauses-clause c = clauses-append (one (clause_with c.is_use c.names.first)) _ (clauses-one c.is_use c.names.first)
    (clauses-flat (λ name. one (clause_with c.is_use name)) (clauses-one c.is_use) c.names.others)

clauses-context : (clauses : List ContextClause) → Clauses (names_in_context clauses)
clauses-context clauses = clauses-flat names_in_clause clauses-clause clauses

-- ---- declarative parts

inside-part : (declarations : List (Declaration Sequence)) → Inside (names_in_part declarations)
inside-part declarations = inside-flat (names_in_declaration names_in_sequence) inside-whole_declaration declarations

inside-private_part : (declarations : List (Declaration Sequence)) → Inside (names_in_private_part declarations)
inside-private_part declarations = inside-cons private_from_here _ tt (inside-part declarations)

inside-package_statements : (s : Sequence) → Inside (names_in_package_statements s)
inside-package_statements s = inside-body (names_in_sequence s) (inside-sequence s)

abbrev visible_names : PackageDeclaration → Occurrences
visible_names p = names_in_part p.declarations ++ if_there names_in_private_part p.private

abbrev declared_names : PackageDeclaration → Occurrences
declared_names p = declares_unit p.name the_package ∷ within_region (package_region p.name) (visible_names p)

abbrev body_names : PackageBody → Occurrences
body_names p = within_region (package_body p.name) (names_in_part p.declarations ++ if_there names_in_package_statements p.sequence)

abbrev main_names : MainProcedure → Occurrences
main_names m =
    names_in_aspects m.aspects
    ++ (declares_unit m.name the_main_procedure ∷ within_region (main_body m.name m.place) (in_body (names_in_sequence m.body.sequence)))

inside-visible : (p : PackageDeclaration) → Inside (visible_names p)
inside-visible p = inside-append _ _ (inside-part p.declarations) (inside-if_there names_in_private_part inside-private_part p.private)

inside-completed : (p : PackageBody) → Inside (names_in_part p.declarations ++ if_there names_in_package_statements p.sequence)
inside-completed p = inside-append _ _ (inside-part p.declarations) (inside-if_there names_in_package_statements inside-package_statements p.sequence)

inside-body_region : (p : PackageBody) → Inside (body_names p)
inside-body_region p = inside-region (package_body p.name) _ tt (inside-completed p)

inside-main : (m : MainProcedure) → Inside (main_names m)
inside-main m =
    inside-append _ _ (inside-aspects m.aspects)
    (inside-cons (declares_unit m.name the_main_procedure) _ tt
    (inside-region (main_body m.name m.place) _ tt (inside-body (names_in_sequence m.body.sequence) (inside-sequence m.body.sequence))))

-- ---- library units

whole-package_declaration : (context : List ContextClause) (p : PackageDeclaration) → Whole (names_in_package_declaration context p)
whole-package_declaration context p =
    whole-region the_context _ tt (whole-append _ _ (whole-context context)
    (whole-declared_region (declares_unit p.name the_package) (package_region p.name) _ refl tt (λ before. tt) (λ before. refl) (inside-visible p).whole))

whole-package_body : (context : List ContextClause) (p : PackageBody) → Whole (names_in_package_body context p)
whole-package_body context p =
    whole-region (the_context_of p.name) _ tt (whole-region further_context _ tt (whole-append _ _ (whole-context context) (inside-body_region p).whole))

whole-package : (context : List ContextClause) (p : Package) → Whole (names_in_package context p)
whole-package context (packages.Declaration p) = whole-package_declaration context p
whole-package context (packages.Body p) = whole-package_body context p

whole-main : (context : List ContextClause) (m : MainProcedure) → Whole (names_in_main context m)
whole-main context m = whole-region the_context _ tt (whole-append _ _ (whole-context context) (inside-main m).whole)

whole-unit : (u : Tree) → Whole (names_in_unit u)
whole-unit u = whole-append _ _ (whole-flat names_in_library_package (λ l. whole-package l.context l.package) u.packages) (whole-main u.context u.main)

pub unit-text : (u : Tree) → IsText (end_of u)
unit-text u = (whole-unit u).text [] tt refl

-- ---- library units stand outside all regions

-- a context with what stands behind its clauses
context-placed : (r : Region) (context : List ContextClause) (os : Occurrences) (before : Before) → clauses_here (begins r ∷ before) ≡ true
    → IsPlaced (begins r ∷ before)
    → ((b : Before) → IsPlaced b → around b ≡ (begins r ∷ before) ∷ around before → IsPlaced (read_on os b))
    → IsPlaced (read_on (names_in_context context ++ os) (begins r ∷ before))
context-placed r context os before here p more =
    let clauses = (clauses-context context).placed (begins r ∷ before) p here in
    subst IsPlaced (sym (read_on-append (names_in_context context) os (begins r ∷ before)))
    (more (read_on (names_in_context context) (begins r ∷ before)) clauses.0 ((whole-context context).closed (begins r ∷ before)))

declaration-placed : (context : List ContextClause) (p : PackageDeclaration) (before : Before) → IsPlaced before → around before ≡ []
    → IsPlaced (read_on (names_in_package_declaration context p) before)
declaration-placed context p before placed top =
    ended-placed the_context (names_in_context context ++ declared_names p) before
    (context-placed the_context context (declared_names p) before refl (top, placed) (λ b q around-b.
    ended-placed (package_region p.name) (visible_names p) (declares_unit p.name the_package ∷ b)
    ((inside-visible p).placed (begins (package_region p.name) ∷ declares_unit p.name the_package ∷ b)
    (ap looks around-b, ((before, around-b ∙ ap (λ bs. (begins the_context ∷ before) ∷ bs) top), q)) refl)))

body-placed : (context : List ContextClause) (p : PackageBody) (before : Before) → IsPlaced before → around before ≡ []
    → IsPlaced (read_on (names_in_package_body context p) before)
body-placed context p before placed top =
    ended-placed (the_context_of p.name) (within_region further_context (names_in_context context ++ body_names p)) before
    (ended-placed further_context (names_in_context context ++ body_names p) (begins (the_context_of p.name) ∷ before)
    (context-placed further_context context (body_names p) (begins (the_context_of p.name) ∷ before) refl (refl, (top, placed))
    (λ b q around-b. (inside-body_region p).placed b q (ap looks around-b))))

package-placed : (context : List ContextClause) (p : Package) (before : Before) → IsPlaced before → around before ≡ []
    → IsPlaced (read_on (names_in_package context p) before)
package-placed context (packages.Declaration p) = declaration-placed context p
package-placed context (packages.Body p) = body-placed context p

packages-placed : (ls : List LibraryPackage) (before : Before) → IsPlaced before → around before ≡ []
    → IsPlaced (read_on (flat_map names_in_library_package ls) before)
packages-placed [] before placed top = placed
packages-placed (l ∷ ls) before placed top =
    subst IsPlaced (sym (read_on-append (names_in_package l.context l.package) (flat_map names_in_library_package ls) before))
    (packages-placed ls (read_on (names_in_package l.context l.package) before) (package-placed l.context l.package before placed top)
    ((whole-package l.context l.package).closed before ∙ top))

main-placed : (context : List ContextClause) (m : MainProcedure) (before : Before) → IsPlaced before → around before ≡ []
    → IsPlaced (read_on (names_in_main context m) before)
main-placed context m before placed top =
    ended-placed the_context (names_in_context context ++ main_names m) before
    (context-placed the_context context (main_names m) before refl (top, placed) (λ b q around-b. (inside-main m).placed b q (ap looks around-b)))

pub unit-placed : (u : Tree) → IsPlaced (end_of u)
unit-placed u =
    let packages = flat_map names_in_library_package u.packages in
    subst IsPlaced (sym (read_on-append packages (names_in_main u.context u.main) []))
    (main-placed u.context u.main (read_on packages []) (packages-placed u.packages [] tt refl)
    ((whole-flat names_in_library_package (λ l. whole-package l.context l.package) u.packages).closed []))
