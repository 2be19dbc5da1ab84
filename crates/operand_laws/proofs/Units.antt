-- Sequences, packages and the actions of a whole source keep the order of operands.
use Rattle.std.proofs.Common.{ℕ, Bool, false, not, ◌&&◌, List, [], ◌∷◌, ◌++◌, Option, Some, None, sym, subst}
use Rattle.std.specs.Bool.{then_some}
use Rattle.std.specs.Prelude.{unwrap_or}
use Rattle.ada_tree.specs.declared.statements.Handler.{Handler}
use Rattle.ada_tree.specs.declared.statements.Sequence.{Sequence}
use Rattle.ada_tree.specs.declared.statements.Sequence.TheOpen.{Sequence-F}
use Rattle.ada_tree.specs.declared.statements.Sequence.TheViews.{roll-Sequence}
use Rattle.ada_tree.specs.declared.statements.Sequence.TheFolds.{ind-Sequence, map-Sequence, fold-roll-Sequence}
use Rattle.ada_tree.specs.declared.statements.SequenceParts.{SequenceParts}
use Rattle.ada_tree.specs.declared.units.Unit.{Unit as Tree}
use Rattle.ada_tree.specs.declared.units.LibraryPackage.{LibraryPackage}
use Rattle.ada_tree.specs.declared.units.Package.{Package}
use Rattle.ada_tree.specs.declared.units.Package.TheVariants as packages
use Rattle.profile_image.specs.declared.numbers.StatementNo.{StatementNo}
use Rattle.profile_image.specs.declared.statements.StatementForm.TheVariants as action
use Rattle.ada_image.specs.declared.making.Within.{Within}
use Rattle.ada_image.specs.declared.making.SequencePlace.{SequencePlace}
use Rattle.ada_image.specs.declared.making.SequencePlace.TheVariants as sequence_place
use Rattle.ada_image.specs.Making.{◌>>=◌, ◌>>◌, action_put, reserved, put_at, first_put, the_action, in_construct}
use Rattle.ada_image.specs.ImageOfStatements.{SequenceMaking, statements_put, handlers_put}
use Rattle.ada_image.specs.ImageOfDeclarations.{same_making, sequence_put, making_layer, declarations_put, make_tasks, activation_put, end_of_activation_put}
use Rattle.ada_image.specs.ImageOfDeclarations.{inner_bodies_put, body_put, unhandled_put, with_handlers_put, handled_put, whole_put, parts_put}
use Rattle.ada_image.specs.ImageOfUnits.{has_body, part_of, package_part, package_declaration_put, package_statements_put}
use Rattle.ada_image.specs.ImageOfUnits.{package_body_put, package_put, packages_put, actions_made}
use Rattle.image_laws.proofs.Images.Layers.{mapped}
use Rattle.operand_laws.proofs.Rising.{Keeps, keeps-then, action-keeps, first-keeps, reserved-keeps, put-keeps}
use Rattle.operand_laws.proofs.Simple.{declarations-keep, activation-keeps, end-keeps}
use Rattle.operand_laws.proofs.Constructs.{KeepsAll, handlers-keep, statements-keep}
use Rattle.operand_laws.proofs.Bodies.{body-keeps, inners-keep, layer-inners}

-- one layer, whose sequences are those that g gives
module _ {E : Type 0} (g : E → Sequence) (law : (e : E) → KeepsAll (sequence_put (g e))) where
  abbrev made : SequenceParts E → SequenceParts SequenceMaking
  made s = mapped sequence_put (mapped g s)

  unhandled-keeps : (s : SequenceParts E) (part : Option ℕ) (next : Option StatementNo) (within : Within)
      → Keeps (unhandled_put same_making within part (made s) next)
  unfolding unhandled_put
  unhandled-keeps s part next within =
      keeps-then (statements_put same_making within ((made s).statements.first ∷ (made s).statements.others) next) (λ first. activation_put part first)
      (statements-keep g law (s.statements.first ∷ s.statements.others) next within) (λ first. activation-keeps part first)

  guarded-keeps : (s : SequenceParts E) (part : Option ℕ) (next : Option StatementNo) (within : Within)
      → Keeps (with_handlers_put same_making within part (made s) next)
  unfolding with_handlers_put
  guarded-keeps s part next within =
      keeps-then reserved
      (λ h. unhandled_put same_making (in_construct h within) part (made s) None
      >>= (λ first. handlers_put same_making within (made s).handlers next >>= (λ handlers. put_at h (action.Handled handlers (the_action first)) 0 next)))
      reserved-keeps
      (λ h. keeps-then (unhandled_put same_making (in_construct h within) part (made s) None)
      (λ first. handlers_put same_making within (made s).handlers next >>= (λ handlers. put_at h (action.Handled handlers (the_action first)) 0 next))
      (unhandled-keeps s part None (in_construct h within))
      (λ first. keeps-then (handlers_put same_making within (made s).handlers next) (λ handlers. put_at h (action.Handled handlers (the_action first)) 0 next)
      (handlers-keep g law s.handlers next within)
      (λ handlers. put-keeps h _ 0 next)))

  abbrev with_handlers : SequenceParts E → List (Handler E) → SequenceParts E
  with_handlers s hs = record { declarations = s.declarations; statements = s.statements; handlers = hs }

  handled-keeps : (s : SequenceParts E) (hs : List (Handler E)) (part : Option ℕ) (next : Option StatementNo) (within : Within)
      → Keeps (handled_put same_making within part (made (with_handlers s hs)) (made (with_handlers s hs)).handlers next)
  unfolding handled_put
  handled-keeps s [] part next within = unhandled-keeps (with_handlers s []) part next within
  handled-keeps s (h ∷ hs) part next within = guarded-keeps (with_handlers s (h ∷ hs)) part next within

  whole-keeps : (s : SequenceParts E) (is_task_body : Bool) (within : Within) → Keeps (whole_put same_making within is_task_body (made s))
  unfolding whole_put
  whole-keeps s is_task_body within =
      let part = then_some (make_tasks within (made s).declarations) 0 in
      keeps-then (inner_bodies_put same_making within (made s).declarations)
      (λ u. handled_put same_making within part (made s) (made s).handlers None
      >>= (λ first. end_of_activation_put is_task_body first >>= (λ ended. declarations_put within 0 (made s).declarations ended)))
      (layer-inners g law s.declarations within)
      (λ u. keeps-then (handled_put same_making within part (made s) (made s).handlers None)
      (λ first. end_of_activation_put is_task_body first >>= (λ ended. declarations_put within 0 (made s).declarations ended))
      (handled-keeps s s.handlers part None within)
      (λ first. keeps-then (end_of_activation_put is_task_body first) (λ ended. declarations_put within 0 (made s).declarations ended)
      (end-keeps is_task_body first) (λ ended. declarations-keep within 0 (made s).declarations ended)))

  pub parts-keep : (s : SequenceParts E) (place : SequencePlace) (within : Within) (next : Option StatementNo)
      → Keeps (parts_put same_making (made s) place within next)
  unfolding parts_put
  parts-keep s sequence_place.StatementsAlone within next = statements-keep g law (s.statements.first ∷ s.statements.others) next within
  parts-keep s (sequence_place.BehindDeclarations part) within next = handled-keeps s s.handlers part next within
  parts-keep s (sequence_place.AsBody is_task_body) within next = whole-keeps s is_task_body within

-- ---- sequences

abbrev SequenceKeeps : Sequence → Type 0
SequenceKeeps s = KeepsAll (sequence_put s)

module _ (y : Sequence-F ((s : Sequence) × SequenceKeeps s)) where
  abbrev g_of : (s : Sequence) × SequenceKeeps s → Sequence
  g_of e = e.0

  abbrev unrolled : Sequence-F Sequence
  unrolled = map-Sequence ((s : Sequence) × SequenceKeeps s) Sequence g_of y

  rolled-keeps : SequenceKeeps (roll-Sequence unrolled)
  rolled-keeps = subst (λ make. KeepsAll make) (sym (fold-roll-Sequence SequenceMaking making_layer unrolled)) (parts-keep g_of (λ e. e.1) y.parts)

sequence-keeps : (s : Sequence) → SequenceKeeps s
sequence-keeps = ind-Sequence SequenceKeeps (λ x y is. subst (λ z. SequenceKeeps (roll-Sequence z)) is (rolled-keeps y))

-- ---- packages

statements-of-package : (part : Option ℕ) (x : Option Sequence) (next : Option StatementNo) (within : Within)
    → Keeps (package_statements_put within part x next)
unfolding package_statements_put
statements-of-package part None next within = activation-keeps part next
statements-of-package part (Some s) next within = sequence-keeps s (sequence_place.BehindDeclarations part) within next

package-keeps : (all : List LibraryPackage) (x : Package) (next : Option StatementNo) (within : Within) → Keeps (package_put all within x next)
unfolding package_put package_declaration_put package_body_put
package-keeps all (packages.Declaration x) next within =
    let ds = x.declarations ++ unwrap_or x.private [] in
    let part = then_some (not (has_body all x.name.text) && make_tasks within ds) (part_of all x.name.text) in
    keeps-then (inner_bodies_put sequence_put within ds)
    (λ u. activation_put part next >>= (λ first. declarations_put within (part_of all x.name.text) ds first))
    (inners-keep sequence_put sequence-keeps ds within)
    (λ u. keeps-then (activation_put part next) (λ first. declarations_put within (part_of all x.name.text) ds first) (activation-keeps part next)
    (λ first. declarations-keep within (part_of all x.name.text) ds first))
package-keeps all (packages.Body x) next within =
    let part = package_part all within x in
    keeps-then (inner_bodies_put sequence_put within x.declarations)
    (λ u. package_statements_put within part x.sequence next >>= (λ first. declarations_put within (part_of all x.name.text) x.declarations first))
    (inners-keep sequence_put sequence-keeps x.declarations within)
    (λ u. keeps-then (package_statements_put within part x.sequence next) (λ first. declarations_put within (part_of all x.name.text) x.declarations first)
    (statements-of-package part x.sequence next within) (λ first. declarations-keep within (part_of all x.name.text) x.declarations first))

packages-keep : (all ls : List LibraryPackage) (next : Option StatementNo) (within : Within) → Keeps (packages_put all within ls next)
unfolding packages_put
packages-keep all [] next within = λ l h. h
packages-keep all (x ∷ ls) next within =
    keeps-then (packages_put all within ls next) (λ later. package_put all within x.package later)
    (packages-keep all ls next within) (λ later. package-keeps all x.package later within)

-- ---- sources

pub actions-keep : (unit : Tree) (within : Within) → Keeps (actions_made unit within)
unfolding actions_made
actions-keep unit within =
    keeps-then (action_put action.CallMain 0 None)
    (λ call. body_put sequence_put within unit.main.place None false unit.main.body.sequence
    >> (packages_put unit.packages within unit.packages call >>= (λ first. first_put 0 first)))
    (action-keeps action.CallMain 0 None)
    (λ call. keeps-then (body_put sequence_put within unit.main.place None false unit.main.body.sequence)
    (λ u. packages_put unit.packages within unit.packages call >>= (λ first. first_put 0 first))
    (body-keeps sequence_put sequence-keeps unit.main.place None false unit.main.body.sequence within)
    (λ u. keeps-then (packages_put unit.packages within unit.packages call) (λ first. first_put 0 first) (packages-keep unit.packages unit.packages call within)
    (λ first. first-keeps 0 first)))
