-- The bodies of a package or a source, by the entities that their names denote.
use Rattle.std.specs.List.{list_any}
use Rattle.std.specs.Prelude.{Bool, List, [], ◌∷◌, None, Option, Some, cond}
use Rattle.std.specs.Prelude.{false, not, option_map, true, unwrap_or, ℕ, ◌||◌}
use Rattle.ada_legality.specs.Values.{is_entity}
use Rattle.ada_regions.specs.Names.{entity_denoted}
use Rattle.ada_regions.specs.Words.{same_place}
use Rattle.ada_regions.specs.declared.table.Names.{Names}
use Rattle.ada_tree.specs.declared.declarations.Declaration.{Declaration}
use Rattle.ada_tree.specs.declared.names.Identifier.{Identifier}
use Rattle.ada_tree.specs.declared.statements.Sequence.{Sequence}
use Rattle.ada_tree.specs.declared.units.LibraryPackage.{LibraryPackage}
use Rattle.ada_tree.specs.declared.units.Package.{Package}
use Rattle.ada_tree.specs.declared.units.PackageDeclaration.{PackageDeclaration}
use Rattle.ann_base.specs.declared.places.Place.{Place}
use Rattle.ada_legality.specs.Packages.{completes_package, private_part}
use Rattle.ada_tree.specs.declared.declarations.Declaration.TheVariants as declaration
use Rattle.ada_tree.specs.declared.units.Package.TheVariants as packages

-- what the name of a body denotes
abbrev pub denoted_in : Names → Identifier → Option ℕ
denoted_in n i = entity_denoted n i.place

-- one of these bodies is of the entity
abbrev pub has_entity : List (Option ℕ) → ℕ → Bool
has_entity bodies e = list_any (is_entity e) bodies

-- one of these bodies is of the entity that the name denotes; where it denotes none, the answer is the last argument
abbrev pub has_body_among : Names → List (Option ℕ) → Identifier → Bool → Bool
has_body_among n bodies i otherwise =
    unwrap_or (option_map (has_entity bodies) (entity_denoted n i.place)) otherwise

-- a declaration that needs a body, and has none among these
abbrev pub lacks_body : Names → List (Option ℕ) → Declaration Sequence → Bool
lacks_body n bodies (declaration.Subprogram s) = not (has_body_among n bodies s.name true)
lacks_body n bodies (declaration.Task t) = not (has_body_among n bodies t.name true)
lacks_body n bodies (declaration.Protected p) = not (has_body_among n bodies p.name true)
lacks_body n bodies d = false

-- some declaration of a package has no body among these
abbrev pub package_lacks : Names → List (Option ℕ) → PackageDeclaration → Bool
package_lacks n bodies p =
    list_any (lacks_body n bodies) p.declarations || list_any (lacks_body n bodies) (private_part p)

-- where the name of a package's body stands, where it denotes the entity
abbrev pub body_of : Names → ℕ → Package → Option Place
body_of n e (packages.Declaration p) = None
body_of n e (packages.Body p) = cond (is_entity e (denoted_in n p.name)) (Some p.name.place) None

-- a body is the first of its package, where its name denotes something
abbrev pub completes_some : Names → List Identifier → Identifier → Bool
completes_some n bodies i =
    unwrap_or (option_map (completes_package n bodies i) (entity_denoted n i.place)) false

-- whether the first body stands at a place: it is this one, or the first of the later ones
abbrev pub first_or : Place → Option Place → Bool → Bool
first_or place None later = later
first_or place (Some other) later = same_place other place

-- the same of the bodies among these packages
abbrev pub first_among : Names → ℕ → Place → List LibraryPackage → Bool
first_among n e place [] = false
first_among n e place (l ∷ rest) = first_or place (body_of n e l.package) (first_among n e place rest)
