-- Bodies by the entities that their names denote.
use Rattle.std.proofs.Common.{◌≡◌, ◌++◌, ◌∷◌, ◌∙◌, ◌||◌, [], ℕ, Bool, true, false, not, List, Option, Some, None, ap, cond, map, option_map, refl, unwrap_or}
use Rattle.std.specs.List.{list_any}
use Rattle.ada_legality.specs.Packages.{bodies_in_package, bodies_of_packages, body_named_in, denote_entity}
use Rattle.ada_legality.specs.Packages.{is_completed_here, is_first_of, needs_body, package_needs_body, private_part}
use Rattle.ada_legality.specs.Values.{is_entity}
use Rattle.ada_regions.specs.Names.{entity_denoted}
use Rattle.ann_base.specs.Lists.{is_empty}
use Rattle.ada_regions.specs.declared.table.Names.{Names}
use Rattle.ada_tree.specs.declared.declarations.Declaration.{Declaration}
use Rattle.ada_tree.specs.declared.names.Identifier.{Identifier}
use Rattle.ada_tree.specs.declared.statements.Sequence.{Sequence}
use Rattle.ada_tree.specs.declared.units.LibraryPackage.{LibraryPackage}
use Rattle.ada_tree.specs.declared.units.Package.{Package}
use Rattle.ada_tree.specs.declared.units.PackageDeclaration.{PackageDeclaration}
use Rattle.ann_base.specs.declared.places.Place.{Place}
use Rattle.ada_tree.specs.declared.declarations.Declaration.TheVariants as declaration
use Rattle.ada_tree.specs.declared.units.Package.TheVariants as packages
use Rattle.legality_beside.specs.Bodies.{body_of, denoted_in, first_among, first_or, has_body_among, has_entity, lacks_body, package_lacks}

one_more : (n : Names) (e : ℕ) (i : Identifier) (rest : List Identifier) (b : Bool)
    → not (is_empty (denote_entity n e rest)) ≡ has_entity (map (denoted_in n) rest) e
    → not (is_empty (cond b (i ∷ denote_entity n e rest) (denote_entity n e rest))) ≡ b || has_entity (map (denoted_in n) rest) e
one_more n e i rest true same = refl
one_more n e i rest false same = same

has_entity_is : (n : Names) (e : ℕ) (bodies : List Identifier) → not (is_empty (denote_entity n e bodies)) ≡ has_entity (map (denoted_in n) bodies) e
unfolding denote_entity
has_entity_is n e [] = refl
has_entity_is n e (i ∷ rest) = one_more n e i rest (is_entity e (denoted_in n i)) (has_entity_is n e rest)

among_is : (n : Names) (bodies : List Identifier) (found : Option ℕ) (otherwise : Bool)
    → unwrap_or (option_map (λ e. not (is_empty (denote_entity n e bodies))) found) otherwise
    ≡ unwrap_or (option_map (has_entity (map (denoted_in n) bodies)) found) otherwise
among_is n bodies None otherwise = refl
among_is n bodies (Some e) otherwise = has_entity_is n e bodies

-- one of the bodies is of the entity that the name denotes
pub has_body_is : (n : Names) (bodies : List Identifier) (i : Identifier) (otherwise : Bool)
    → unwrap_or (option_map (λ e. not (is_empty (denote_entity n e bodies))) (entity_denoted n i.place)) otherwise
    ≡ has_body_among n (map (denoted_in n) bodies) i otherwise
has_body_is n bodies i otherwise = among_is n bodies (entity_denoted n i.place) otherwise

here : (n : Names) (bodies : List Identifier) (i : Identifier) → not (is_completed_here n bodies i) ≡ not (has_body_among n (map (denoted_in n) bodies) i true)
unfolding is_completed_here
here n bodies i = ap not (has_body_is n bodies i true)

lacks_is : (n : Names) (bodies : List Identifier) (d : Declaration Sequence) → needs_body n bodies d ≡ lacks_body n (map (denoted_in n) bodies) d
unfolding needs_body
lacks_is n bodies (declaration.Subprogram s) = here n bodies s.name
lacks_is n bodies (declaration.Task t) = here n bodies t.name
lacks_is n bodies (declaration.Protected p) = here n bodies p.name
lacks_is n bodies (declaration.Object o) = refl
lacks_is n bodies (declaration.Type t) = refl
lacks_is n bodies (declaration.Subtype s) = refl
lacks_is n bodies (declaration.Exception names) = refl
lacks_is n bodies (declaration.SubprogramBody s body) = refl
lacks_is n bodies (declaration.TaskBody place name body) = refl
lacks_is n bodies (declaration.ProtectedBody p) = refl
lacks_is n bodies (declaration.Use place name) = refl

any_lacks : (n : Names) (bodies : List Identifier) (ds : List (Declaration Sequence))
    → list_any (needs_body n bodies) ds ≡ list_any (lacks_body n (map (denoted_in n) bodies)) ds
any_lacks n bodies [] = refl
any_lacks n bodies (d ∷ ds) =
    ap (λ b. b || list_any (needs_body n bodies) ds) (lacks_is n bodies d) ∙ ap (λ b. lacks_body n (map (denoted_in n) bodies) d || b) (any_lacks n bodies ds)

-- some declaration of a package needs a body outside it
pub package_needs_is : (n : Names) (p : PackageDeclaration) → package_needs_body n p ≡ package_lacks n (map (denoted_in n) (bodies_in_package p)) p
unfolding package_needs_body
package_needs_is n p =
    ap (λ b. b || list_any (needs_body n (bodies_in_package p)) (private_part p)) (any_lacks n (bodies_in_package p) p.declarations)
    ∙ ap (λ b. list_any (lacks_body n (map (denoted_in n) (bodies_in_package p))) p.declarations || b) (any_lacks n (bodies_in_package p) (private_part p))

first_in : (n : Names) (e : ℕ) (place : Place) (p : Package) (rest : List Identifier)
    → is_first_of place (denote_entity n e (body_named_in p ++ rest)) ≡ first_or place (body_of n e p) (is_first_of place (denote_entity n e rest))
unfolding denote_entity
first_in n e place (packages.Declaration p) rest = refl
first_in n e place (packages.Body p) rest = by (is_entity e (denoted_in n p.name))
  where
    by : (b : Bool)
        → is_first_of place (cond b (p.name ∷ denote_entity n e rest) (denote_entity n e rest))
        ≡ first_or place (cond b (Some p.name.place) None) (is_first_of place (denote_entity n e rest))
    by true = refl
    by false = refl

first_further : (n : Names) (e : ℕ) (place : Place) (l : LibraryPackage) (rest : List LibraryPackage)
    → is_first_of place (denote_entity n e (bodies_of_packages (l ∷ rest)))
    ≡ first_or place (body_of n e l.package) (is_first_of place (denote_entity n e (bodies_of_packages rest)))
unfolding bodies_of_packages
first_further n e place l rest = first_in n e place l.package (bodies_of_packages rest)

nothing_first : (n : Names) (e : ℕ) (place : Place) → is_first_of place (denote_entity n e (bodies_of_packages [])) ≡ false
unfolding bodies_of_packages denote_entity
nothing_first n e place = refl

-- the packages one by one
pub first_is : (n : Names) (e : ℕ) (place : Place) (ls : List LibraryPackage)
    → is_first_of place (denote_entity n e (bodies_of_packages ls)) ≡ first_among n e place ls
first_is n e place [] = nothing_first n e place
first_is n e place (l ∷ rest) = first_further n e place l rest ∙ ap (first_or place (body_of n e l.package)) (first_is n e place rest)
