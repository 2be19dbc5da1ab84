-- Sequences, packages and whole sources begin the scopes of their texts.
use Rattle.std.proofs.Common.{◌≡◌, ℕ, Bool, false, not, ◌&&◌, List, [], ◌∷◌, ◌++◌, Option, Some, None, refl, sym, ap, subst, ◌∙◌}
use Rattle.std.specs.Bool.{then_some}
use Rattle.std.specs.Prelude.{unwrap_or}
use Rattle.ada_tree.specs.declared.statements.Handler.{Handler}
use Rattle.ada_tree.specs.declared.statements.Sequence.{Sequence}
use Rattle.ada_tree.specs.declared.statements.Sequence.TheOpen.{Sequence-F}
use Rattle.ada_tree.specs.declared.statements.Sequence.TheViews.{roll-Sequence}
use Rattle.ada_tree.specs.declared.statements.Sequence.TheFolds.{ind-Sequence, map-Sequence, fold-roll-Sequence, fold_out-Sequence}
use Rattle.ada_tree.specs.declared.statements.SequenceParts.{SequenceParts}
use Rattle.ada_tree.specs.declared.units.Unit.{Unit as Tree}
use Rattle.ada_tree.specs.declared.units.LibraryPackage.{LibraryPackage}
use Rattle.ada_tree.specs.declared.units.Package.{Package}
use Rattle.ada_tree.specs.declared.units.Package.TheVariants as packages
use Rattle.profile_image.specs.declared.numbers.StatementNo.{StatementNo}
use Rattle.profile_image.specs.declared.statements.StatementForm.TheVariants as action
use Rattle.ada_regions.specs.declared.table.Names.{Names}
use Rattle.ada_image.specs.declared.making.Within.{Within}
use Rattle.ada_image.specs.declared.making.SequencePlace.{SequencePlace}
use Rattle.ada_image.specs.declared.making.SequencePlace.TheVariants as sequence_place
use Rattle.ada_image.specs.Making.{◌>>=◌, ◌>>◌, action_put, reserved, put_at, first_put, the_action, in_construct}
use Rattle.ada_image.specs.ImageOfStatements.{SequenceMaking, statements_put, handlers_put}
use Rattle.ada_image.specs.ImageOfDeclarations.{same_making, sequence_put, making_layer, declarations_put, make_tasks, activation_put, end_of_activation_put}
use Rattle.ada_image.specs.ImageOfDeclarations.{inner_bodies_put, body_put, unhandled_put, with_handlers_put, handled_put, whole_put, parts_put}
use Rattle.ada_image.specs.ImageOfUnits.{has_body, part_of, package_part, package_declaration_put, package_statements_put}
use Rattle.ada_image.specs.ImageOfUnits.{package_body_put, package_put, packages_put, actions_made}
use Rattle.image_laws.specs.ScopesOfText.{Scopes, body_scopes, declarations_scopes, handler_scopes, statements_scopes, handled_scopes, parts_scopes}
use Rattle.image_laws.specs.ScopesOfText.{same_scopes, scopes_layer, sequence_scopes, package_statements_scopes, package_scopes, packages_scopes, scopes_begun}
use Rattle.image_laws.specs.ActionsOfText.{one_if, declarations_actions, activation_actions}
use Rattle.image_laws.proofs.Images.Keeping.{adds-then, action-keeps, declarations-keep, activation-keeps, end-keeps}
use Rattle.image_laws.proofs.Images.Layers.{mapped}
use Rattle.image_laws.proofs.Images.Opening.{Opens, OpensLaw, opens-none, opens-then, opens-behind, opens-before}
use Rattle.image_laws.proofs.Images.Opening.{opens-first, reserved-keeps, put-keeps, handlers-open, statements-open}
use Rattle.image_laws.proofs.Images.OpeningBodies.{body-opens, inners-open, layer-inners}

-- one layer, whose sequences are those that g gives
module _ {E : Type 0} (g : E → Sequence) (law : (e : E) → OpensLaw (sequence_put (g e)) (sequence_scopes (g e))) where
  abbrev made : SequenceParts E → SequenceParts SequenceMaking
  made s = mapped sequence_put (mapped g s)

  abbrev opened : SequenceParts E → SequenceParts Scopes
  opened s = mapped sequence_scopes (mapped g s)

  abbrev statements_of : SequenceParts E → Within → List ℕ
  statements_of s within = statements_scopes same_scopes ((opened s).statements.first ∷ (opened s).statements.others) within.names

  abbrev handlers_of : SequenceParts E → Within → List ℕ
  handlers_of s within = handler_scopes same_scopes (opened s).handlers within.names

  unhandled-opens : (s : SequenceParts E) (part : Option ℕ) (next : Option StatementNo) (within : Within)
      → Opens (unhandled_put same_making within part (made s) next) (statements_of s within)
  unfolding unhandled_put
  unhandled-opens s part next within =
      opens-before (statements_put same_making within ((made s).statements.first ∷ (made s).statements.others) next) (λ first. activation_put part first)
      (statements_of s within)
      (statements-open g law (s.statements.first ∷ s.statements.others) next within) (λ first. activation-keeps part first)

  guarded-opens : (s : SequenceParts E) (part : Option ℕ) (next : Option StatementNo) (within : Within)
      → Opens (with_handlers_put same_making within part (made s) next) (handlers_of s within ++ statements_of s within)
  unfolding with_handlers_put
  guarded-opens s part next within =
      opens-behind reserved
      (λ h. unhandled_put same_making (in_construct h within) part (made s) None
      >>= (λ first. handlers_put same_making within (made s).handlers next >>= (λ handlers. put_at h (action.Handled handlers (the_action first)) 0 next)))
      (handlers_of s within ++ statements_of s within) reserved-keeps
      (λ h. opens-then (unhandled_put same_making (in_construct h within) part (made s) None)
      (λ first. handlers_put same_making within (made s).handlers next >>= (λ handlers. put_at h (action.Handled handlers (the_action first)) 0 next))
      (statements_of s within) (handlers_of s within) (unhandled-opens s part None (in_construct h within))
      (λ first. opens-before (handlers_put same_making within (made s).handlers next) (λ handlers. put_at h (action.Handled handlers (the_action first)) 0 next)
      (handlers_of s within) (handlers-open g law s.handlers next within)
      (λ handlers. put-keeps h _ 0 next)))

  abbrev with_handlers : SequenceParts E → List (Handler E) → SequenceParts E
  with_handlers s hs = record { declarations = s.declarations; statements = s.statements; handlers = hs }

  handled-opens : (s : SequenceParts E) (hs : List (Handler E)) (part : Option ℕ) (next : Option StatementNo) (within : Within)
      → Opens (handled_put same_making within part (made (with_handlers s hs)) (made (with_handlers s hs)).handlers next)
      (handled_scopes same_scopes (opened (with_handlers s hs)) within.names)
  unfolding handled_put
  handled-opens s [] part next within = unhandled-opens (with_handlers s []) part next within
  handled-opens s (h ∷ hs) part next within = guarded-opens (with_handlers s (h ∷ hs)) part next within

  abbrev declared : SequenceParts E → Within → List ℕ
  declared s within = declarations_scopes same_scopes (opened s).declarations within.names

  whole-opens : (s : SequenceParts E) (is_task_body : Bool) (within : Within)
      → Opens (whole_put same_making within is_task_body (made s)) (handled_scopes same_scopes (opened s) within.names ++ declared s within)
  unfolding whole_put
  whole-opens s is_task_body within =
      let part = then_some (make_tasks within (made s).declarations) 0 in
      opens-then (inner_bodies_put same_making within (made s).declarations)
      (λ u. handled_put same_making within part (made s) (made s).handlers None
      >>= (λ first. end_of_activation_put is_task_body first >>= (λ ended. declarations_put within 0 (made s).declarations ended)))
      (declared s within) (handled_scopes same_scopes (opened s) within.names) (layer-inners g law s.declarations within)
      (λ u. opens-before (handled_put same_making within part (made s) (made s).handlers None)
      (λ first. end_of_activation_put is_task_body first >>= (λ ended. declarations_put within 0 (made s).declarations ended))
      (handled_scopes same_scopes (opened s) within.names) (handled-opens s s.handlers part None within)
      (λ first. adds-then (end_of_activation_put is_task_body first) (λ ended. declarations_put within 0 (made s).declarations ended) (one_if is_task_body)
      (declarations_actions (made s).declarations within.names) (end-keeps is_task_body first)
      (λ ended. declarations-keep within 0 (made s).declarations ended)))

  parts-open : (s : SequenceParts E) (place : SequencePlace) (within : Within) (next : Option StatementNo)
      → Opens (parts_put same_making (made s) place within next) (parts_scopes same_scopes (opened s) place within.names)
  unfolding parts_put
  parts-open s sequence_place.StatementsAlone within next = statements-open g law (s.statements.first ∷ s.statements.others) next within
  parts-open s (sequence_place.BehindDeclarations part) within next = handled-opens s s.handlers part next within
  parts-open s (sequence_place.AsBody is_task_body) within next = whole-opens s is_task_body within

  pub parts-law : (s : SequenceParts E) → OpensLaw (parts_put same_making (made s)) (parts_scopes same_scopes (opened s))
  parts-law s = record { opens = parts-open s }

-- ---- sequences

abbrev Opening : Sequence → Type 0
Opening s = OpensLaw (sequence_put s) (sequence_scopes s)

module _ (y : Sequence-F ((s : Sequence) × Opening s)) where
  abbrev g_of : (s : Sequence) × Opening s → Sequence
  g_of e = e.0

  abbrev unrolled : Sequence-F Sequence
  unrolled = map-Sequence ((s : Sequence) × Opening s) Sequence g_of y

  rolled-opening : Opening (roll-Sequence unrolled)
  rolled-opening =
      subst (λ make. OpensLaw make (sequence_scopes (roll-Sequence unrolled))) (sym (fold-roll-Sequence SequenceMaking making_layer unrolled))
      (subst (λ scopes. OpensLaw (parts_put same_making (mapped sequence_put (mapped g_of y.parts))) scopes)
      (sym (fold-roll-Sequence Scopes scopes_layer unrolled)) (parts-law g_of (λ e. e.1) y.parts))

sequence-opens : (s : Sequence) → Opening s
sequence-opens = ind-Sequence Opening (λ x y is. subst (λ z. Opening (roll-Sequence z)) is (rolled-opening y))

-- ---- packages

-- which part's tasks are activated begins no scope
part-apart : (s : Sequence) (part : Option ℕ) (n : Names)
    → sequence_scopes s (sequence_place.BehindDeclarations None) n ≡ sequence_scopes s (sequence_place.BehindDeclarations part) n
part-apart s part n =
    ap (λ (q : Scopes). q (sequence_place.BehindDeclarations None) n) (fold_out-Sequence Scopes scopes_layer s)
    ∙ sym (ap (λ (q : Scopes). q (sequence_place.BehindDeclarations part) n) (fold_out-Sequence Scopes scopes_layer s))

statements-of-package : (part : Option ℕ) (x : Option Sequence) (next : Option StatementNo) (within : Within)
    → Opens (package_statements_put within part x next) (package_statements_scopes x within.names)
unfolding package_statements_put
statements-of-package part None next within = opens-none (activation_put part next) (activation-keeps part next)
statements-of-package part (Some s) next within =
    subst (λ scopes. Opens (sequence_put s (sequence_place.BehindDeclarations part) within next) scopes) (sym (part-apart s part within.names))
    ((sequence-opens s).opens (sequence_place.BehindDeclarations part) within next)

package-opens : (all : List LibraryPackage) (x : Package) (next : Option StatementNo) (within : Within)
    → Opens (package_put all within x next) (package_scopes x within.names)
unfolding package_put package_declaration_put package_body_put
package-opens all (packages.Declaration x) next within =
    let ds = x.declarations ++ unwrap_or x.private [] in
    let part = then_some (not (has_body all x.name.text) && make_tasks within ds) (part_of all x.name.text) in
    opens-before (inner_bodies_put sequence_put within ds)
    (λ u. activation_put part next >>= (λ first. declarations_put within (part_of all x.name.text) ds first))
    (declarations_scopes sequence_scopes ds within.names)
    (inners-open sequence_put sequence_scopes sequence-opens ds within)
    (λ u. adds-then (activation_put part next) (λ first. declarations_put within (part_of all x.name.text) ds first) (activation_actions part)
    (declarations_actions ds within.names) (activation-keeps part next) (λ first. declarations-keep within (part_of all x.name.text) ds first))
package-opens all (packages.Body x) next within =
    let part = package_part all within x in
    opens-then (inner_bodies_put sequence_put within x.declarations)
    (λ u. package_statements_put within part x.sequence next >>= (λ first. declarations_put within (part_of all x.name.text) x.declarations first))
    (declarations_scopes sequence_scopes x.declarations within.names) (package_statements_scopes x.sequence within.names)
    (inners-open sequence_put sequence_scopes sequence-opens x.declarations within)
    (λ u. opens-before (package_statements_put within part x.sequence next) (λ first. declarations_put within (part_of all x.name.text) x.declarations first)
    (package_statements_scopes x.sequence within.names)
    (statements-of-package part x.sequence next within) (λ first. declarations-keep within (part_of all x.name.text) x.declarations first))

packages-open : (all ls : List LibraryPackage) (next : Option StatementNo) (within : Within)
    → Opens (packages_put all within ls next) (packages_scopes ls within.names)
unfolding packages_put
packages-open all [] next within = λ l. refl
packages-open all (x ∷ ls) next within =
    opens-then (packages_put all within ls next) (λ later. package_put all within x.package later) (packages_scopes ls within.names)
    (package_scopes x.package within.names)
    (packages-open all ls next within) (λ later. package-opens all x.package later within)

-- ---- sources

pub actions-open : (unit : Tree) (within : Within) → Opens (actions_made unit within) (scopes_begun unit within.names)
unfolding actions_made
actions-open unit within =
    let main = body_scopes sequence_scopes unit.main.place false unit.main.body.sequence within.names in
    let inner = packages_scopes unit.packages within.names in
    opens-behind (action_put action.CallMain 0 None)
    (λ call. body_put sequence_put within unit.main.place None false unit.main.body.sequence
    >> (packages_put unit.packages within unit.packages call >>= (λ first. first_put 0 first)))
    (0 ∷ (inner ++ main)) (action-keeps action.CallMain 0 None)
    (λ call. opens-then (body_put sequence_put within unit.main.place None false unit.main.body.sequence)
    (λ u. packages_put unit.packages within unit.packages call >>= (λ first. first_put 0 first)) main (0 ∷ inner)
    (body-opens sequence_put sequence_scopes sequence-opens unit.main.place None false unit.main.body.sequence within)
    (λ u. opens-then (packages_put unit.packages within unit.packages call) (λ first. first_put 0 first) inner (0 ∷ [])
    (packages-open unit.packages unit.packages call within) (λ first. opens-first 0 first)))
