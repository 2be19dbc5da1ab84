-- Sources whose forms are those that an image has: all that is in their packages and their main procedure is built.
use Rattle.std.specs.Prelude.{true, ◌&&◌, List, [], ◌∷◌, ◌++◌, unwrap_or}
use Rattle.std.specs.List.{list_all}
use Rattle.ada_tree.specs.declared.units.Unit.{Unit as Tree}
use Rattle.ada_tree.specs.declared.units.LibraryPackage.{LibraryPackage}
use Rattle.ada_tree.specs.declared.units.Package.{Package}
use Rattle.ada_tree.specs.declared.units.Package.TheVariants as packages
use Rattle.ada_image.specs.BuiltExpressions.{Built}
use Rattle.ada_image.specs.BuiltSequences.{sequence_if_built, declarations_built, sequence_built}

abbrev pub package_built : Package → Built
package_built (packages.Declaration x) n =
    declarations_built sequence_built (x.declarations ++ unwrap_or x.private []) n
package_built (packages.Body x) n = declarations_built sequence_built x.declarations n
    && sequence_if_built sequence_built x.sequence n

abbrev pub packages_built : List LibraryPackage → Built
packages_built ls n = list_all (λ l. package_built l.package n) ls

abbrev pub unit_built : Tree → Built
unit_built unit n = packages_built unit.packages n && sequence_built unit.main.body.sequence n
