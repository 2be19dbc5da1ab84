-- Packages (7.2, 10.1.4): a body follows its declaration, and only one does; a declaration that needs a body has one. A
-- source has its packages beside one another and the main procedure last, since the grammar has no other source (10.2).
use Rattle.ada_legality.specs.Findings.{Found, broken_if, broken_unless}
use Rattle.ada_legality.specs.Values.{is_entity}
use Rattle.ada_regions.specs.Completions.{holds_of}
use Rattle.ada_regions.specs.Names.{entity_denoted, kind_at}
use Rattle.ada_regions.specs.Regions.{is_package}
use Rattle.ada_regions.specs.Words.{same_place}
use Rattle.ann_base.specs.Lists.{is_empty}
use Rattle.ada_regions.specs.declared.table.Names.{Names}
use Rattle.ada_tree.specs.declared.declarations.Declaration.{Declaration}
use Rattle.ada_tree.specs.declared.names.Identifier.{Identifier}
use Rattle.ada_tree.specs.declared.statements.Sequence.{Sequence}
use Rattle.ada_tree.specs.declared.units.LibraryPackage.{LibraryPackage}
use Rattle.ada_tree.specs.declared.units.Package.{Package}
use Rattle.ada_tree.specs.declared.units.PackageBody.{PackageBody}
use Rattle.ada_tree.specs.declared.units.PackageDeclaration.{PackageDeclaration}
use Rattle.ann_base.specs.declared.places.Place.{Place}
use Rattle.std.specs.List.{flat_map, list_any}
use Rattle.std.specs.Prelude.{Bool, List, [], false, filter, not, option_map, true, unwrap_or, ℕ, ◌&&◌, ◌++◌, ◌||◌, ◌∷◌}
use Rattle.ada_tree.specs.declared.declarations.Declaration.TheVariants as declaration
use Rattle.ada_tree.specs.declared.units.Package.TheVariants as packages
use Rattle.ada_legality.specs.declared.rules.Rule.TheVariants as rule

-- the names that denote the entity, of these
unfoldable pub denote_entity : Names → ℕ → List Identifier → List Identifier
denote_entity n e names = filter (λ i. is_entity e (entity_denoted n i.place)) names

-- the name of a package's body
abbrev pub body_named_in : Package → List Identifier
body_named_in (packages.Declaration p) = []
body_named_in (packages.Body p) = p.name ∷ []

-- the names of all package bodies, in the order of the text
unfoldable pub bodies_of_packages : List LibraryPackage → List Identifier
bodies_of_packages ls = flat_map (λ l. body_named_in l.package) ls

-- an identifier is the first of these
abbrev pub is_first_of : Place → List Identifier → Bool
is_first_of place [] = false
is_first_of place (i ∷ rest) = same_place i.place place

-- a body is the first of its package
unfoldable pub completes_package : Names → List Identifier → Identifier → ℕ → Bool
completes_package n bodies i e =
    holds_of is_package (kind_at n e) && is_first_of i.place (denote_entity n e bodies)

-- a package's body without its package, or a later one
unfoldable pub body_judged : Names → List Identifier → PackageBody → Found
body_judged n bodies p =
    broken_unless rule.PackageBodies
    (unwrap_or
    (option_map (completes_package n bodies p.name) (entity_denoted n p.name.place)) false) p.place

-- what a declaration needs a body for: subprograms, tasks, protected units, unless the body stands
-- beside it

abbrev pub body_named : Declaration Sequence → List Identifier
body_named (declaration.SubprogramBody s body) = s.name ∷ []
body_named (declaration.TaskBody place name body) = name ∷ []
body_named (declaration.ProtectedBody p) = p.name ∷ []
body_named d = []

-- the body stands in the same list of declarations
unfoldable pub is_completed_here : Names → List Identifier → Identifier → Bool
is_completed_here n bodies i =
    unwrap_or
    (option_map (λ e. not (is_empty (denote_entity n e bodies))) (entity_denoted n i.place))
    true

-- a declaration that needs a body, and has none beside it
unfoldable pub needs_body : Names → List Identifier → Declaration Sequence → Bool
needs_body n bodies (declaration.Subprogram s) = not (is_completed_here n bodies s.name)
needs_body n bodies (declaration.Task t) = not (is_completed_here n bodies t.name)
needs_body n bodies (declaration.Protected p) = not (is_completed_here n bodies p.name)
needs_body n bodies d = false

-- the private declarations of a package
abbrev pub private_part : PackageDeclaration → List (Declaration Sequence)
private_part p = unwrap_or p.private []

-- the names of bodies in the declarations of a package
unfoldable pub bodies_in_package : PackageDeclaration → List Identifier
bodies_in_package p =
    flat_map body_named p.declarations ++ flat_map body_named (private_part p)

-- some declaration of the package needs a body
unfoldable pub package_needs_body : Names → PackageDeclaration → Bool
package_needs_body n p =
    let bodies = bodies_in_package p in
    list_any (needs_body n bodies) p.declarations
    || list_any (needs_body n bodies) (private_part p)

-- the package has a body in the text
unfoldable pub has_package_body : Names → List Identifier → Identifier → Bool
has_package_body n bodies i =
    unwrap_or
    (option_map (λ e. not (is_empty (denote_entity n e bodies))) (entity_denoted n i.place))
    false

-- a package that needs a body and has none
unfoldable pub declaration_judged : Names → List Identifier → PackageDeclaration → Found
declaration_judged n bodies p =
    broken_if rule.PackageBodies
    (package_needs_body n p && not (has_package_body n bodies p.name)) p.place

-- a package of a source with these bodies
abbrev pub package_judged : Names → List Identifier → Package → Found
package_judged n bodies (packages.Declaration p) = declaration_judged n bodies p
package_judged n bodies (packages.Body p) = body_judged n bodies p

-- all packages
unfoldable pub packages_judged : Names → List LibraryPackage → Found
packages_judged n ls =
    let bodies = bodies_of_packages ls in
    flat_map (λ l. package_judged n bodies l.package) ls
