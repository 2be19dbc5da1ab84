-- The packages of a source read one after another, and behind them the call of the main procedure.
use Rattle.std.proofs.Common.{◌≡◌, ℕ, true, false, cond, not, ◌&&◌, List, [], ◌∷◌, ◌++◌, Option, Some, None, refl, ap, ◌∙◌}
use Rattle.std.specs.Bool.{then_some}
use Rattle.std.specs.Prelude.{unwrap_or}
use Rattle.std.proofs.lemmas.Bool.{and_from, and_parts}
use Rattle.ada_tree.specs.declared.declarations.Declaration.{Declaration}
use Rattle.ada_tree.specs.declared.statements.Sequence.{Sequence}
use Rattle.ada_tree.specs.declared.units.Unit.{Unit as Tree}
use Rattle.ada_tree.specs.declared.units.LibraryPackage.{LibraryPackage}
use Rattle.ada_tree.specs.declared.units.Package.{Package}
use Rattle.ada_tree.specs.declared.units.Package.TheVariants as packages
use Rattle.ada_tree.specs.declared.units.PackageDeclaration.{PackageDeclaration}
use Rattle.ada_tree.specs.declared.units.PackageBody.{PackageBody}
use Rattle.profile_image.specs.declared.image.Image.{Image}
use Rattle.profile_image.specs.declared.numbers.StatementNo.{StatementNo}
use Rattle.profile_image.specs.declared.statements.StatementForm.TheVariants as action
use Rattle.ada_image.specs.declared.making.Within.{Within}
use Rattle.ada_image.specs.declared.making.SequencePlace.TheVariants as sequence_place
use Rattle.ada_image.specs.Making.{◌>>=◌, ◌>>◌, action_put, first_put}
use Rattle.ada_image.specs.ImageOfDeclarations.{sequence_put, inner_bodies_put, declarations_put, make_tasks, activation_put, body_put}
use Rattle.ada_image.specs.ImageOfUnits.{has_body, part_of, package_part, package_declaration_put, package_statements_put}
use Rattle.ada_image.specs.ImageOfUnits.{package_body_put, package_put, packages_put, actions_made}
use Rattle.ada_image.specs.ReadStatements.{first_of_scope, is_call_of_main}
use Rattle.ada_image.specs.NothingLost.{sequence_reads, and_behind, ends_at, reads_on, one_action, activation_read, inner_bodies_read}
use Rattle.ada_image.specs.NothingLost.{body_reads, package_statements_read, package_read, bodies_in_package, elaboration_reads}
use Rattle.ada_image.specs.BuiltSequences.{sequence_if_built, declarations_built, sequence_built}
use Rattle.ada_image.specs.BuiltUnits.{package_built, packages_built, unit_built}
use Rattle.image_laws.proofs.Images.Steps.{Step, step-pure, step-so, step-then, first-step}
use Rattle.image_laws.proofs.Images.Declarations.{package-declarations-step, activation-step, one-step}
use Rattle.image_laws.proofs.Images.Bodies.{body-step, inners-step}
use Rattle.image_laws.proofs.Images.Sequences.{sequence-law}
use Rattle.image_laws.proofs.Images.Leading.{sequence-leads}

inner-bodies : (ds : List (Declaration Sequence)) (within : Within) → declarations_built sequence_built ds within.names ≡ true
    → Step (inner_bodies_put sequence_put within ds) (λ p u. inner_bodies_read p (sequence_reads p) within ds ≡ true)
inner-bodies ds within b = inners-step sequence_put (λ p. sequence_reads p) sequence_built sequence-law ds within b

main-body : (unit : Tree) (within : Within) → sequence_built unit.main.body.sequence within.names ≡ true
    → Step (body_put sequence_put within unit.main.place None false unit.main.body.sequence)
    (λ p u. body_reads p (sequence_reads p) within unit.main.place None false unit.main.body.sequence ≡ true)
main-body unit within b = body-step sequence_put (λ p. sequence_reads p) sequence_built sequence-law unit.main.place None false unit.main.body.sequence within b

statements-step : (part : Option ℕ) (o : Option Sequence) (next : Option StatementNo) (within : Within) → sequence_if_built sequence_built o within.names ≡ true
    → Step (package_statements_put within part o next) (λ p x. package_statements_read p within part o x ≡ Some next)
unfolding package_statements_put
statements-step part None next within b = step-so (λ p x h. h.0) (activation-step part next)
statements-step part (Some s) next within b =
    step-so (λ p x h.
    ap (λ t. cond (sequence_reads p s (sequence_place.BehindDeclarations part) within x t) (Some t) None) (sequence-leads p within part s x next h.1)
    ∙ ap (λ k. cond k (Some next) None) h.1)
    ((sequence-law s).reads (sequence_place.BehindDeclarations part) within next tt b)

-- the bodies in a package read, and what comes behind it is left
abbrev PackageReads : List LibraryPackage → Within → Package → Option StatementNo → Image → Option StatementNo → Type 0
PackageReads all within x next p y = (bodies_in_package p within x ≡ true) × (package_read p all within x y ≡ Some next)

declaration-step : (all : List LibraryPackage) (x : PackageDeclaration) (next : Option StatementNo) (within : Within)
    → package_built (packages.Declaration x) within.names ≡ true
    → Step (package_declaration_put all within x next) (PackageReads all within (packages.Declaration x) next)
unfolding package_declaration_put
declaration-step all x next within b =
    let ds = x.declarations ++ unwrap_or x.private [] in
    let part = then_some (not (has_body all x.name.text) && make_tasks within ds) (part_of all x.name.text) in
    step-then (inner_bodies_put sequence_put within ds)
    (λ u. activation_put part next >>= (λ first. declarations_put within (part_of all x.name.text) ds first)) (inner-bodies ds within b)
    (λ u. step-then (activation_put part next) (λ first. declarations_put within (part_of all x.name.text) ds first) (activation-step part next)
    (λ first. step-so (λ p y h k l. (l, ap (λ z. and_behind z (activation_read p part)) h ∙ k.0))
    (package-declarations-step sequence_built (part_of all x.name.text) ds first within b)))

body-of-package : (all : List LibraryPackage) (x : PackageBody) (next : Option StatementNo) (within : Within)
    → package_built (packages.Body x) within.names ≡ true
    → Step (package_body_put all within x next) (PackageReads all within (packages.Body x) next)
unfolding package_body_put
body-of-package all x next within b =
    let parts = and_parts _ _ b in
    let part = package_part all within x in
    step-then (inner_bodies_put sequence_put within x.declarations)
    (λ u. package_statements_put within part x.sequence next >>= (λ first. declarations_put within (part_of all x.name.text) x.declarations first))
    (inner-bodies x.declarations within parts.0)
    (λ u. step-then (package_statements_put within part x.sequence next) (λ first. declarations_put within (part_of all x.name.text) x.declarations first)
    (statements-step part x.sequence next within parts.1)
    (λ first. step-so (λ p y h k l. (l, ap (λ z. and_behind z (package_statements_read p within part x.sequence)) h ∙ k))
    (package-declarations-step sequence_built (part_of all x.name.text) x.declarations first within parts.0)))

package-step : (all : List LibraryPackage) (x : Package) (next : Option StatementNo) (within : Within) → package_built x within.names ≡ true
    → Step (package_put all within x next) (PackageReads all within x next)
unfolding package_put
package-step all (packages.Declaration x) next within b = declaration-step all x next within b
package-step all (packages.Body x) next within b = body-of-package all x next within b

packages-step : (all ls : List LibraryPackage) (next : Option StatementNo) (within : Within) → packages_built ls within.names ≡ true
    → Step (packages_put all within ls next) (λ p x. ends_at None (one_action p is_call_of_main next) ≡ true → elaboration_reads p all within ls x ≡ true)
unfolding packages_put
packages-step all [] next within b = step-pure next _ (λ p h. h)
packages-step all (l ∷ ls) next within b =
    let parts = and_parts _ _ b in
    step-then (packages_put all within ls next) (λ later. package_put all within l.package later) (packages-step all ls next within parts.1)
    (λ later.
    step-so (λ p x h k m. and_from _ _ h.0 (ap (reads_on (elaboration_reads p all within ls)) h.1 ∙ k m)) (package-step all l.package later within parts.0))

-- all actions of a source
abbrev pub SourceReads : Tree → Within → Image → Type 0
SourceReads unit within p =
    (elaboration_reads p unit.packages within unit.packages (first_of_scope p 0) ≡ true)
    × (body_reads p (sequence_reads p) within unit.main.place None false unit.main.body.sequence ≡ true)

pub actions-step : (unit : Tree) (within : Within) → unit_built unit within.names ≡ true → Step (actions_made unit within) (λ p u. SourceReads unit within p)
unfolding actions_made
actions-step unit within b =
    let parts = and_parts _ _ b in
    step-then (action_put action.CallMain 0 None)
    (λ call. body_put sequence_put within unit.main.place None false unit.main.body.sequence
    >> (packages_put unit.packages within unit.packages call >>= (λ first. first_put 0 first)))
    (one-step action.CallMain is_call_of_main 0 None refl)
    (λ call. step-then (body_put sequence_put within unit.main.place None false unit.main.body.sequence)
    (λ u. packages_put unit.packages within unit.packages call >>= (λ first. first_put 0 first)) (main-body unit within parts.1)
    (λ u. step-then (packages_put unit.packages within unit.packages call) (λ first. first_put 0 first)
    (packages-step unit.packages unit.packages call within parts.0)
    (λ first. step-so (λ p v h k l m. (ap (elaboration_reads p unit.packages within unit.packages) h ∙ k (ap (ends_at None) m), l)) (first-step 0 first))))
