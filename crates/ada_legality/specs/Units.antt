-- What is found in the units of a source (clauses 7, 10).
use Rattle.ada_legality.specs.Aspects.{aspects_found, place_of_priority, stated_value}
use Rattle.ada_legality.specs.CallStatements.{all_found, found_if}
use Rattle.ada_legality.specs.Declarations.{declarations_found, sequence_found, use_found}
use Rattle.ada_legality.specs.Findings.{Found, broken_if, broken_unless}
use Rattle.ada_legality.specs.Places.{place_of}
use Rattle.ada_legality.specs.SimpleStatements.{with_around, type_between}
use Rattle.ada_legality.specs.Values.{is_denoted}
use Rattle.ada_legality.specs.declared.findings.Finding.{Finding}
use Rattle.ada_legality.specs.declared.parts.AspectPart.{AspectPart}
use Rattle.ada_legality.specs.declared.standing.InForce.{InForce}
use Rattle.ada_legality.specs.declared.standing.Known.{Known}
use Rattle.ada_regions.specs.Names.{denoted_by}
use Rattle.ada_regions.specs.Occurrences.{Declared, Occurrence, Occurrences, an_array, declares}
use Rattle.ada_regions.specs.PredefinedUnits.{default_priority}
use Rattle.ada_regions.specs.Visibility.{same_denoted}
use Rattle.ada_regions.specs.Words.{all_of}
use Rattle.ada_regions.specs.declared.entities.Denoted.{Denoted}
use Rattle.ada_regions.specs.declared.table.Names.{Names}
use Rattle.ada_regions.specs.declared.types.AdaType.{AdaType}
use Rattle.ada_tree.specs.declared.declarations.Declaration.{Declaration}
use Rattle.ada_tree.specs.declared.expressions.Expression.{Expression}
use Rattle.ada_tree.specs.declared.names.Name.{Name}
use Rattle.ada_tree.specs.declared.statements.Sequence.{Sequence}
use Rattle.ada_tree.specs.declared.units.ContextClause.{ContextClause}
use Rattle.ada_tree.specs.declared.units.LibraryPackage.{LibraryPackage}
use Rattle.ada_tree.specs.declared.units.MainProcedure.{MainProcedure}
use Rattle.ada_tree.specs.declared.units.Package.{Package}
use Rattle.ada_tree.specs.declared.units.PackageBody.{PackageBody}
use Rattle.ada_tree.specs.declared.units.PackageDeclaration.{PackageDeclaration}
use Rattle.ada_tree.specs.declared.units.Unit.{Unit as Tree}
use Rattle.ann_base.specs.declared.places.Place.{Place}
use Rattle.std.specs.List.{flat_map}
use Rattle.std.specs.Prelude.{Bool, List, [], cond, is_some, pos, unwrap_or, ℕ, ◌&&◌, ◌++◌, ◌∷◌}
use Rattle.ada_legality.specs.declared.standing.Around.TheVariants as around
use Rattle.ada_regions.specs.declared.entities.Denoted.TheVariants as denotes
use Rattle.ada_legality.specs.declared.findings.Finding.TheVariants as finding
use Rattle.ada_legality.specs.declared.parts.AspectOwner.TheVariants as owning
use Rattle.ada_tree.specs.declared.units.Package.TheVariants as packages
use Rattle.ada_legality.specs.declared.rules.Rule.TheVariants as rule
use Rattle.ada_regions.specs.declared.predefined.PredefinedUnit.TheVariants as units

-- ---- contexts (10.1.2, 8.4)

-- Ada.Dynamic_Priorities
abbrev pub names_dynamic_priorities : Denoted → Bool
names_dynamic_priorities d = same_denoted d (denotes.Unit units.DynamicPriorities)

-- a unit that is named by a with clause: one of the profile, or an earlier package
unfoldable pub with_found : Name → Known → Found
with_found name k =
    broken_unless rule.LibraryUnits (is_some (denoted_by k.names name)) (place_of name)
    ++ broken_if rule.Restriction
    (k.in_force.no_dynamic_priorities && is_denoted names_dynamic_priorities k name)
    (place_of name)

-- a with or use clause
unfoldable pub clause_found : ContextClause → Known → Found
clause_found c k =
    cond c.is_use (all_found use_found (all_of c.names) k) (all_found with_found (all_of c.names) k)

-- the context of a library unit
abbrev pub context_found : List ContextClause → Known → Found
context_found clauses k = all_found clause_found clauses k

-- ---- packages (7.1, 7.2)

-- the declarations of a package
abbrev pub part_found : List (Declaration Sequence) → Known → Found
part_found ds k = declarations_found sequence_found ds k

-- a package declaration
unfoldable pub package_declaration_found : PackageDeclaration → Known → Found
package_declaration_found p k =
    part_found p.declarations (with_around around.Package k)
    ++ found_if part_found p.private (with_around around.Package k)

-- a package body
unfoldable pub package_body_found : PackageBody → Known → Found
package_body_found p k =
    part_found p.declarations (with_around around.Package k)
    ++ found_if sequence_found p.sequence (with_around around.Package k)

-- a package
abbrev pub package_found : Package → Known → Found
package_found (packages.Declaration p) k = package_declaration_found p k
package_found (packages.Body p) k = package_body_found p k

-- a package with its context
unfoldable pub library_package_found : LibraryPackage → Known → Found
library_package_found l k = context_found l.context k ++ package_found l.package k

-- ---- the main procedure (10.2)

-- its base priority (D.1)
unfoldable pub main_priority_noted : ℕ → List AspectPart → Place → Finding
main_priority_noted last aspects place =
    finding.MainPriority (unwrap_or (stated_value last aspects) (pos (default_priority last)))
    (place_of_priority last aspects place)

-- the main procedure
unfoldable pub main_found : MainProcedure → Known → Found
main_found m k =
    let aspects = aspects_found owning.OnMain m.place m.aspects k in
    aspects.1 ++ (main_priority_noted k.names.last_priority aspects.0 m.place
    ∷ sequence_found m.body.sequence (with_around around.Main k))

-- all units of a source
unfoldable pub units_found : Tree → Known → Found
units_found u k =
    all_found library_package_found u.packages k
    ++ (context_found u.context k ++ main_found u.main k)

-- ---- the types of the indexes of array types: each array type stands behind those that its bounds
-- name

abbrev pub Bounds : Type 0
Bounds = Expression × Expression

-- the bounds of an array type that is declared
abbrev pub bounds_declared : Declared → List Bounds
bounds_declared (an_array low high component) = (low, high) ∷ []
bounds_declared d = []

-- the same, in an occurrence
abbrev pub bounds_in : Occurrence → List Bounds
bounds_in (declares i what) = bounds_declared what
bounds_in o = []

-- what is known outside all constructs
abbrev pub known_with : Names → Occurrences → InForce → List AdaType → Known
known_with n occurrences r indexes = record {
  names = n;
  around = [];
  loops = [];
  indexes = indexes;
  in_force = r;
  occurrences = occurrences;
}

-- the types of the indexes, behind those before
unfoldable pub indexes_from : Known → List Bounds → List AdaType
indexes_from k [] = k.indexes
indexes_from k (b ∷ bs) =
    indexes_from (record k { indexes = k.indexes ++ type_between k b.0 b.1 ∷ [] }) bs

-- the types of the indexes of all array types
unfoldable pub indexes_of : Names → Occurrences → InForce → List AdaType
indexes_of n occurrences r =
    indexes_from (known_with n occurrences r []) (flat_map bounds_in occurrences)

-- what is known of a source
unfoldable pub known_of : Names → Occurrences → InForce → Known
known_of n occurrences r = known_with n occurrences r (indexes_of n occurrences r)
