-- Sequences, packages and whole sources have as many actions as their texts.
use Rattle.std.proofs.Common.{◌≡◌, ℕ, ◌+◌, Bool, false, not, ◌&&◌, List, [], ◌∷◌, ◌++◌, map, Option, Some, None, refl, sym, subst, ◌∙◌}
use Rattle.std.specs.Bool.{then_some}
use Rattle.std.specs.Prelude.{unwrap_or}
use Rattle.std.specs.List.{list_any}
use Rattle.ada_tree.specs.declared.declarations.Declaration.{Declaration}
use Rattle.ada_tree.specs.declared.declarations.Declaration.TheVariants as declaration
use Rattle.ada_tree.specs.declared.statements.Handler.{Handler}
use Rattle.ada_tree.specs.declared.statements.Sequence.{Sequence}
use Rattle.ada_tree.specs.declared.statements.Sequence.TheOpen.{Sequence-F}
use Rattle.ada_tree.specs.declared.statements.Sequence.TheViews.{roll-Sequence}
use Rattle.ada_tree.specs.declared.statements.Sequence.TheFolds.{ind-Sequence, map-Sequence, fold-roll-Sequence}
use Rattle.ada_tree.specs.declared.statements.SequenceParts.{SequenceParts}
use Rattle.ada_tree.specs.declared.units.Unit.{Unit as Tree}
use Rattle.ada_tree.specs.declared.units.LibraryPackage.{LibraryPackage}
use Rattle.ada_tree.specs.declared.units.Package.{Package}
use Rattle.ada_tree.specs.declared.units.Package.TheVariants as packages
use Rattle.profile_image.specs.declared.numbers.StatementNo.{StatementNo}
use Rattle.profile_image.specs.declared.statements.StatementForm.TheVariants as action
use Rattle.ada_regions.specs.declared.table.Names.{Names}
use Rattle.ada_image.specs.declared.making.Within.{Within}
use Rattle.ada_image.specs.declared.making.SequencePlace.{SequencePlace}
use Rattle.ada_image.specs.declared.making.SequencePlace.TheVariants as sequence_place
use Rattle.ada_image.specs.Making.{◌>>=◌, ◌>>◌, action_put, put_at, first_put, the_action, in_construct}
use Rattle.ada_image.specs.ImageOfStatements.{SequenceMaking, statements_put, handlers_put}
use Rattle.ada_image.specs.ImageOfDeclarations.{same_making, sequence_put, making_layer, kind_declared, subtype_declared_as, object_makes_task}
use Rattle.ada_image.specs.ImageOfDeclarations.{makes_task, declarations_put, make_tasks, activation_put, end_of_activation_put}
use Rattle.ada_image.specs.ImageOfDeclarations.{inner_bodies_put, body_put, unhandled_put, with_handlers_put, handled_put, whole_put, parts_put}
use Rattle.ada_image.specs.ImageOfUnits.{outermost, has_body, part_of, package_part, package_declaration_put}
use Rattle.ada_image.specs.ImageOfUnits.{package_statements_put, package_body_put, package_put, packages_put, actions_made}
use Rattle.image_laws.specs.ActionsOfText.{Actions, one_if, activation_actions, declaration_actions, declarations_actions, handlers_actions}
use Rattle.image_laws.specs.ActionsOfText.{statements_actions, unhandled_actions, handled_actions, bodies_actions, parts_actions, same_actions}
use Rattle.image_laws.specs.ActionsOfText.{actions_layer, sequence_actions, package_statements_actions, package_actions, packages_actions, actions_of}
use Rattle.image_laws.proofs.Images.Keeping.{action-keeps, declarations-keep, activation-keeps, end-keeps}
use Rattle.image_laws.proofs.Images.Layers.{mapped, mapped_declaration}
use Rattle.image_laws.proofs.Images.Declarations.{tasks-same}
use Rattle.image_laws.proofs.Images.Opening.{put-keeps}
use Rattle.image_laws.proofs.Images.Counting.{Counts, CountsLaw, counts-of, counts-pure, counts-then, counts-before}
use Rattle.image_laws.proofs.Images.Counting.{counts-ended, counts-drawn, counts-first, handlers-count, statements-count}
use Rattle.image_laws.proofs.Images.CountingBodies.{body-counts, inners-count, layer-inners}

-- ---- what is told by the names alone, and does not depend on what sequences were replaced by

task-of_names : {Q : Type 0} (within : Within) (d : Declaration Q) → makes_task within d ≡ makes_task (outermost within.names) d
unfolding makes_task object_makes_task subtype_declared_as kind_declared
task-of_names within (declaration.Object o) = refl
task-of_names within (declaration.Type t) = refl
task-of_names within (declaration.Subtype s) = refl
task-of_names within (declaration.Exception names) = refl
task-of_names within (declaration.Subprogram s) = refl
task-of_names within (declaration.SubprogramBody s body) = refl
task-of_names within (declaration.Task t) = refl
task-of_names within (declaration.TaskBody place name body) = refl
task-of_names within (declaration.Protected p) = refl
task-of_names within (declaration.ProtectedBody p) = refl
task-of_names within (declaration.Use place name) = refl

any-of_names : {Q : Type 0} (within : Within) (ds : List (Declaration Q)) → list_any (makes_task within) ds ≡ list_any (makes_task (outermost within.names)) ds
any-of_names within [] = refl
any-of_names within (d ∷ ds) = rw (task-of_names within d, any-of_names within ds) refl

tasks-of_names : {Q : Type 0} (within : Within) (ds : List (Declaration Q)) → make_tasks within ds ≡ make_tasks (outermost within.names) ds
unfolding make_tasks
tasks-of_names within ds = any-of_names within ds

module _ {E A B : Type 0} (f : E → A) (h : E → B) (n : Names) where
  declaration-same : (d : Declaration E) → declaration_actions (mapped_declaration f d) n ≡ declaration_actions (mapped_declaration h d) n
  declaration-same (declaration.Object o) = refl
  declaration-same (declaration.Type t) = refl
  declaration-same (declaration.Subtype s) = refl
  declaration-same (declaration.Exception names) = refl
  declaration-same (declaration.Subprogram s) = refl
  declaration-same (declaration.SubprogramBody s body) = refl
  declaration-same (declaration.Task t) = refl
  declaration-same (declaration.TaskBody place name body) = refl
  declaration-same (declaration.Protected p) = refl
  declaration-same (declaration.ProtectedBody p) = refl
  declaration-same (declaration.Use place name) = refl

  declarations-same : (ds : List (Declaration E))
      → declarations_actions (map (mapped_declaration f) ds) n ≡ declarations_actions (map (mapped_declaration h) ds) n
  declarations-same [] = refl
  declarations-same (d ∷ ds) = rw (declaration-same d, declarations-same ds) refl

-- ---- one layer, whose sequences are those that g gives

module _ {E : Type 0} (g : E → Sequence) (law : (e : E) → CountsLaw (sequence_put (g e)) (sequence_actions (g e))) where
  abbrev made : SequenceParts E → SequenceParts SequenceMaking
  made s = mapped sequence_put (mapped g s)

  abbrev counted : SequenceParts E → SequenceParts Actions
  counted s = mapped sequence_actions (mapped g s)

  abbrev statements_of : SequenceParts E → Within → ℕ
  statements_of s within = statements_actions same_actions ((counted s).statements.first ∷ (counted s).statements.others) within.names

  abbrev unhandled_of : Option ℕ → SequenceParts E → Within → ℕ
  unhandled_of part s within = unhandled_actions same_actions part (counted s) within.names

  unhandled-counts : (s : SequenceParts E) (part : Option ℕ) (next : Option StatementNo) (within : Within)
      → Counts (unhandled_put same_making within part (made s) next) (unhandled_of part s within)
  unfolding unhandled_put
  unhandled-counts s part next within =
      counts-then (statements_put same_making within ((made s).statements.first ∷ (made s).statements.others) next) (λ first. activation_put part first)
      (statements_of s within) (activation_actions part)
      (statements-count g law (s.statements.first ∷ s.statements.others) next within) (λ first. counts-of (activation-keeps part first))

  abbrev handlers_of : SequenceParts E → Within → ℕ
  handlers_of s within = handlers_actions same_actions (counted s).handlers within.names

  guarded-counts : (s : SequenceParts E) (part : Option ℕ) (next : Option StatementNo) (within : Within)
      → Counts (with_handlers_put same_making within part (made s) next) (1 + (handlers_of s within + unhandled_of part s within))
  unfolding with_handlers_put
  guarded-counts s part next within =
      counts-drawn (λ h. unhandled_put same_making (in_construct h within) part (made s) None
      >>= (λ first. handlers_put same_making within (made s).handlers next >>= (λ handlers. put_at h (action.Handled handlers (the_action first)) 0 next)))
      (handlers_of s within + unhandled_of part s within)
      (λ h. counts-then (unhandled_put same_making (in_construct h within) part (made s) None)
      (λ first. handlers_put same_making within (made s).handlers next >>= (λ handlers. put_at h (action.Handled handlers (the_action first)) 0 next))
      (unhandled_of part s within) (handlers_of s within) (unhandled-counts s part None (in_construct h within))
      (λ first. counts-before (handlers_put same_making within (made s).handlers next)
      (λ handlers. put_at h (action.Handled handlers (the_action first)) 0 next) (handlers_of s within) (handlers-count g law s.handlers next within)
      (λ handlers. put-keeps h _ 0 next)))

  abbrev with_handlers : SequenceParts E → List (Handler E) → SequenceParts E
  with_handlers s hs = record { declarations = s.declarations; statements = s.statements; handlers = hs }

  handled-counts : (s : SequenceParts E) (hs : List (Handler E)) (part : Option ℕ) (next : Option StatementNo) (within : Within)
      → Counts (handled_put same_making within part (made (with_handlers s hs)) (made (with_handlers s hs)).handlers next)
      (handled_actions same_actions part (counted (with_handlers s hs)) (counted (with_handlers s hs)).handlers within.names)
  unfolding handled_put
  handled-counts s [] part next within = unhandled-counts (with_handlers s []) part next within
  handled-counts s (h ∷ hs) part next within = guarded-counts (with_handlers s (h ∷ hs)) part next within

  -- ---- all of a body

  abbrev handled_of : Bool → SequenceParts E → Within → ℕ
  handled_of tasks s within = handled_actions same_actions (then_some tasks 0) (counted s) (counted s).handlers within.names

  abbrev bodies_of : SequenceParts E → Within → ℕ
  bodies_of s within = bodies_actions same_actions (counted s).declarations within.names

  whole-made : (s : SequenceParts E) (is_task_body : Bool) (within : Within)
      → Counts (whole_put same_making within is_task_body (made s))
      (declarations_actions (made s).declarations within.names + one_if is_task_body + handled_of (make_tasks within (made s).declarations) s within
      + bodies_of s within)
  unfolding whole_put
  whole-made s is_task_body within =
      let part = then_some (make_tasks within (made s).declarations) 0 in
      let handled = handled_of (make_tasks within (made s).declarations) s within in
      let declared = declarations_actions (made s).declarations within.names in
      counts-then (inner_bodies_put same_making within (made s).declarations)
      (λ u. handled_put same_making within part (made s) (made s).handlers None
      >>= (λ first. end_of_activation_put is_task_body first >>= (λ ended. declarations_put within 0 (made s).declarations ended)))
      (bodies_of s within) (declared + one_if is_task_body + handled) (layer-inners g law s.declarations within)
      (λ u. counts-then (handled_put same_making within part (made s) (made s).handlers None)
      (λ first. end_of_activation_put is_task_body first >>= (λ ended. declarations_put within 0 (made s).declarations ended))
      handled (declared + one_if is_task_body) (handled-counts s s.handlers part None within)
      (λ first. counts-then (end_of_activation_put is_task_body first) (λ ended. declarations_put within 0 (made s).declarations ended)
      (one_if is_task_body) declared (counts-of (end-keeps is_task_body first))
      (λ ended. counts-of (declarations-keep within 0 (made s).declarations ended))))

  declared-same : (s : SequenceParts E) (n : Names) → declarations_actions (made s).declarations n ≡ declarations_actions (counted s).declarations n
  declared-same s n = declarations-same sequence_put sequence_actions n (map (mapped_declaration g) s.declarations)

  tasks-made : (s : SequenceParts E) (within : Within) → make_tasks within (made s).declarations ≡ make_tasks (outermost within.names) (counted s).declarations
  tasks-made s within =
      tasks-same sequence_put sequence_actions within (map (mapped_declaration g) s.declarations) ∙ tasks-of_names within (counted s).declarations

  whole-counts : (s : SequenceParts E) (is_task_body : Bool) (within : Within)
      → Counts (whole_put same_making within is_task_body (made s)) (parts_actions same_actions (counted s) (sequence_place.AsBody is_task_body) within.names)
  whole-counts s is_task_body within =
      subst (λ d. Counts (whole_put same_making within is_task_body (made s))
      (d + one_if is_task_body + handled_of (make_tasks (outermost within.names) (counted s).declarations) s within + bodies_of s within))
      (declared-same s within.names)
      (subst (λ t. Counts (whole_put same_making within is_task_body (made s))
      (declarations_actions (made s).declarations within.names + one_if is_task_body + handled_of t s within + bodies_of s within))
      (tasks-made s within)
      (whole-made s is_task_body within))

  parts-count : (s : SequenceParts E) (place : SequencePlace) (within : Within) (next : Option StatementNo)
      → Counts (parts_put same_making (made s) place within next) (parts_actions same_actions (counted s) place within.names)
  unfolding parts_put
  parts-count s sequence_place.StatementsAlone within next = statements-count g law (s.statements.first ∷ s.statements.others) next within
  parts-count s (sequence_place.BehindDeclarations part) within next = handled-counts s s.handlers part next within
  parts-count s (sequence_place.AsBody is_task_body) within next = whole-counts s is_task_body within

  pub parts-law : (s : SequenceParts E) → CountsLaw (parts_put same_making (made s)) (parts_actions same_actions (counted s))
  parts-law s = record { counts = parts-count s }

-- ---- sequences

abbrev Counted : Sequence → Type 0
Counted s = CountsLaw (sequence_put s) (sequence_actions s)

module _ (y : Sequence-F ((s : Sequence) × Counted s)) where
  abbrev g_of : (s : Sequence) × Counted s → Sequence
  g_of e = e.0

  abbrev unrolled : Sequence-F Sequence
  unrolled = map-Sequence ((s : Sequence) × Counted s) Sequence g_of y

  rolled-counted : Counted (roll-Sequence unrolled)
  rolled-counted =
      subst (λ make. CountsLaw make (sequence_actions (roll-Sequence unrolled))) (sym (fold-roll-Sequence SequenceMaking making_layer unrolled))
      (subst (λ actions. CountsLaw (parts_put same_making (mapped sequence_put (mapped g_of y.parts))) actions)
      (sym (fold-roll-Sequence Actions actions_layer unrolled)) (parts-law g_of (λ e. e.1) y.parts))

sequence-counts : (s : Sequence) → Counted s
sequence-counts = ind-Sequence Counted (λ x y is. subst (λ z. Counted (roll-Sequence z)) is (rolled-counted y))

-- ---- packages, and all actions of a source

module _ (n : Names) where
  statements-of-package : (part : Option ℕ) (x : Option Sequence) (next : Option StatementNo)
      → Counts (package_statements_put (outermost n) part x next) (package_statements_actions part x n)
  unfolding package_statements_put
  statements-of-package part None next = counts-of (activation-keeps part next)
  statements-of-package part (Some s) next = (sequence-counts s).counts (sequence_place.BehindDeclarations part) (outermost n) next

  package-counts : (all : List LibraryPackage) (x : Package) (next : Option StatementNo)
      → Counts (package_put all (outermost n) x next) (package_actions all x n)
  unfolding package_put package_declaration_put package_body_put
  package-counts all (packages.Declaration x) next =
      let ds = x.declarations ++ unwrap_or x.private [] in
      let part = then_some (not (has_body all x.name.text) && make_tasks (outermost n) ds) (part_of all x.name.text) in
      counts-then (inner_bodies_put sequence_put (outermost n) ds)
      (λ u. activation_put part next >>= (λ first. declarations_put (outermost n) (part_of all x.name.text) ds first))
      (bodies_actions sequence_actions ds n) (declarations_actions ds n + activation_actions part)
      (inners-count sequence_put sequence_actions sequence-counts ds (outermost n))
      (λ u. counts-then (activation_put part next) (λ first. declarations_put (outermost n) (part_of all x.name.text) ds first) (activation_actions part)
      (declarations_actions ds n) (counts-of (activation-keeps part next))
      (λ first. counts-of (declarations-keep (outermost n) (part_of all x.name.text) ds first)))
  package-counts all (packages.Body x) next =
      let part = package_part all (outermost n) x in
      counts-then (inner_bodies_put sequence_put (outermost n) x.declarations)
      (λ u. package_statements_put (outermost n) part x.sequence next
      >>= (λ first. declarations_put (outermost n) (part_of all x.name.text) x.declarations first))
      (bodies_actions sequence_actions x.declarations n) (declarations_actions x.declarations n + package_statements_actions part x.sequence n)
      (inners-count sequence_put sequence_actions sequence-counts x.declarations (outermost n))
      (λ u. counts-then (package_statements_put (outermost n) part x.sequence next)
      (λ first. declarations_put (outermost n) (part_of all x.name.text) x.declarations first)
      (package_statements_actions part x.sequence n) (declarations_actions x.declarations n) (statements-of-package part x.sequence next)
      (λ first. counts-of (declarations-keep (outermost n) (part_of all x.name.text) x.declarations first)))

  packages-count : (all ls : List LibraryPackage) (next : Option StatementNo) → Counts (packages_put all (outermost n) ls next) (packages_actions all ls n)
  unfolding packages_put
  packages-count all [] next = counts-pure next
  packages-count all (x ∷ ls) next =
      counts-then (packages_put all (outermost n) ls next) (λ later. package_put all (outermost n) x.package later) (packages_actions all ls n)
      (package_actions all x.package n)
      (packages-count all ls next) (λ later. package-counts all x.package later)

  pub actions-count : (unit : Tree) → Counts (actions_made unit (outermost n)) (actions_of unit n)
  unfolding actions_made
  actions-count unit =
      let main = sequence_actions unit.main.body.sequence (sequence_place.AsBody false) n in
      let inner = packages_actions unit.packages unit.packages n in
      counts-then (action_put action.CallMain 0 None)
      (λ call. body_put sequence_put (outermost n) unit.main.place None false unit.main.body.sequence
      >> (packages_put unit.packages (outermost n) unit.packages call >>= (λ first. first_put 0 first)))
      1 (inner + main) (counts-of (action-keeps action.CallMain 0 None))
      (λ call. counts-then (body_put sequence_put (outermost n) unit.main.place None false unit.main.body.sequence)
      (λ u. packages_put unit.packages (outermost n) unit.packages call >>= (λ first. first_put 0 first)) main inner
      (body-counts sequence_put sequence_actions sequence-counts unit.main.place None false unit.main.body.sequence (outermost n))
      (λ u. counts-ended (packages_put unit.packages (outermost n) unit.packages call) (λ first. first_put 0 first) inner
      (packages-count unit.packages unit.packages call) (λ first. counts-first 0 first)))
