-- Edits of somebody: what they leave sound.
use Rattle.std.proofs.Common.{◌≡◌, ℕ, Bool, true, false, cond, ◌||◌, List, [], ◌∷◌, Option, Some, None, refl, sym, ap, subst, ◌∙◌}
use Rattle.std.specs.Prelude.{find}
use Rattle.std.proofs.lemmas.Bool.{false≢true}
use Rattle.ann_base.specs.declared.identities.RegionNo.{RegionNo}
use Rattle.trace_text.specs.declared.events.Who.{Who}
use Rattle.trace_text.specs.declared.events.Who.TheVariants as who
use Rattle.profile_machine.specs.declared.world.World.{World}
use Rattle.profile_machine.specs.declared.world.Drawn.{Drawn}
use Rattle.profile_machine.specs.declared.world.tasks.Task.{Task}
use Rattle.profile_machine.specs.declared.world.calls.Call.{Call}
use Rattle.profile_machine.specs.declared.world.objects.Object.{Object}
use Rattle.profile_image.specs.Words.{same_who, same_region, is_the, set_where}
use Rattle.profile_machine.specs.Tasks.{is_who, nobody, task_at, edit_task_found, edit_task, is_runnable_state}
use Rattle.profile_machine.specs.WellFormed.{number_in}
use Rattle.machine_laws.proofs.ListLemmas.{Rises, Rises-set_where}
use Rattle.machine_laws.proofs.FineMoves.{Naming}
use Rattle.machine_laws.proofs.Kept.Masters.{some-is}
use Rattle.line_laws.proofs.Exits.TaskEdits.{one_of, same_who-path, edited_to}
use Rattle.world_laws.proofs.Actions.Natures.{natures, guards, in_region}
use Rattle.world_laws.proofs.Actions.Sound.{dependents, SureOn, SureOf, marks_of, OneOwner, task_key, EachListed, Listed, SoundOf, Sound, Free, Good}

-- ---- what an edit of somebody leaves alone

others-found : (P : Drawn → List Call → List Object → Type 0) (name : Who) (f : Task → Task) (w : World) (found : Option Task) → P w.drawn w.calls w.objects →
    let v = edit_task_found name f w found in
    P v.drawn v.calls v.objects
others-found P name f w None h = h
others-found P (who.Task n) f w (Some t) h = h
others-found P who.Agent f w (Some t) h = h

pub others-edited : (P : Drawn → List Call → List Object → Type 0) (name : Who) (f : Task → Task) (w : World) → P w.drawn w.calls w.objects →
    let v = edit_task name f w in
    P v.drawn v.calls v.objects
others-edited P name f w h = others-found P name f w (task_at w name) h

-- ---- the list of tasks: who is in it, and whose masters

set-step : (test : Task → Bool) (x y z : Task) (zs : List Task) (b : Bool) → y.who ≡ x.who → cond b (Some z) (find test zs) ≡ Some x
    → (find test zs ≡ Some x → EachListed (set_where test y zs)) → EachListed (z ∷ zs) → EachListed (cond b (y ∷ zs) (z ∷ set_where test y zs))
set-step test x y z zs true e is onward h = let one : z ≡ x = some-is z x is in ((h.0.0, e ∙ ap (λ (t : Task). t.who) (sym one) ∙ h.0.1), h.1)
set-step test x y z zs false e is onward h = (h.0, onward is)

set-listed : (test : Task → Bool) (x y : Task) (zs : List Task) → y.who ≡ x.who → find test zs ≡ Some x → EachListed zs → EachListed (set_where test y zs)
set-listed test x y [] e is h = h
set-listed test x y (z ∷ zs) e is h = set-step test x y z zs (test z) e is (λ k. set-listed test x y zs e k h.1) h

-- as often as before some task has a region as its master
master-step : (test : Task → Bool) (x y z : Task) (zs : List Task) (r : RegionNo) (b : Bool) → y.master ≡ x.master → cond b (Some z) (find test zs) ≡ Some x
    → (find test zs ≡ Some x → dependents (set_where test y zs) r ≡ dependents zs r)
    → dependents (cond b (y ∷ zs) (z ∷ set_where test y zs)) r ≡ dependents (z ∷ zs) r
master-step test x y z zs r true e is onward =
    let one : z ≡ x = some-is z x is in
    ap (λ m. is_the same_region m r || dependents zs r) (e ∙ ap (λ (t : Task). t.master) (sym one))
master-step test x y z zs r false e is onward = ap (λ b. is_the same_region z.master r || b) (onward is)

set-dependents : (test : Task → Bool) (x y : Task) (zs : List Task) (r : RegionNo) → y.master ≡ x.master → find test zs ≡ Some x
    → dependents (set_where test y zs) r ≡ dependents zs r
set-dependents test x y [] r e is = refl
set-dependents test x y (z ∷ zs) r e is = master-step test x y z zs r (test z) e is (λ k. set-dependents test x y zs r e k)

module _ (f : Task → Task) (named : (t : Task) → (f t).who ≡ t.who) (mastered : (t : Task) → (f t).master ≡ t.master) where
  pub found-tasks : (name : Who) (w : World) (drawn : ℕ) (found : Option Task) → task_at w name ≡ found → Rises task_key 0 drawn w.tasks
      → Listed w.tasks w.agent →
      let v = edit_task_found name f w found in
      Rises task_key 0 drawn v.tasks × Listed v.tasks v.agent
  found-tasks name w drawn None is a b = (a, b)
  found-tasks (who.Task n) w drawn (Some t) is a b = (
    Rises-set_where task_key (is_who (who.Task n)) t (f t) (ap number_in (named t)) 0 drawn w.tasks is a,
    (set-listed (is_who (who.Task n)) t (f t) w.tasks (named t) is b.0, b.1),
  )
  found-tasks who.Agent w drawn (Some t) is a b = let one : w.agent ≡ t = some-is w.agent t is in (a, (b.0, named t ∙ ap (λ (u : Task). u.who) (sym one) ∙ b.1))

  found-dependents : (name : Who) (w : World) (r : RegionNo) (found : Option Task) → task_at w name ≡ found
      → dependents (edit_task_found name f w found).tasks r ≡ dependents w.tasks r
  found-dependents name w r None is = refl
  found-dependents (who.Task n) w r (Some t) is = set-dependents (is_who (who.Task n)) t (f t) w.tasks r (mastered t) is
  found-dependents who.Agent w r (Some t) is = refl

  pub dependents-edited : (name : Who) (w : World) (r : RegionNo) → dependents (edit_task name f w).tasks r ≡ dependents w.tasks r
  dependents-edited name w r = found-dependents name w r (task_at w name) refl

-- ---- everybody

-- with no more regions that have dependents
pub fewer-sure : (drawn : Drawn) (calls : List Call) (objects : List Object) (tasks less : List Task) (name : Who) (t : Task)
    → ((r : RegionNo) → dependents less r ≡ true → dependents tasks r ≡ true) → SureOf drawn calls objects tasks name t → SureOf drawn calls objects less name t
fewer-sure drawn calls objects tasks less name t k h = (h.0, h.1, h.2, λ r e. h.3 r (k r e))

-- an edit of somebody after which that one is sure
module _ (name : Who) (f : Task → Task) (w : World) (named : (t : Task) → (f t).who ≡ t.who) (mastered : (t : Task) → (f t).master ≡ t.master) where
  pub edit-sound : ((n : Who) → same_who n name ≡ true → (t : Task) → t ≡ one_of w.tasks w.agent n → SureOf w.drawn w.calls w.objects w.tasks n t
      → SureOf w.drawn w.calls w.objects w.tasks n (f t))
      → (let v = edit_task name f w in OneOwner v.tasks v.agent) → Sound w → Sound (edit_task name f w)
  edit-sound sure owner h =
      let v = edit_task name f w in
      let lists = found-tasks f named mastered name w w.drawn.tasks (task_at w name) refl h.1 h.2 in
      let fewer : (r : RegionNo) → dependents v.tasks r ≡ true → dependents w.tasks r ≡ true = λ r e. sym (dependents-edited f named mastered name w r) ∙ e in
      others-edited (λ d c o. SoundOf d c o v.tasks v.agent) name f w (
        h.0,
        lists.0,
        lists.1,
        λ r e. h.3 r (fewer r e),
        owner,
        λ n. edited_to (λ t. (t ≡ one_of w.tasks w.agent n) × SureOf w.drawn w.calls w.objects w.tasks n t)
            (λ t. SureOf w.drawn w.calls w.objects v.tasks n t) n name f w named
            (λ same t g. fewer-sure w.drawn w.calls w.objects w.tasks v.tasks n (f t) fewer (sure n same t g.0 g.1))
            (λ apart t g. fewer-sure w.drawn w.calls w.objects w.tasks v.tasks n t fewer g.1)
            (λ g. fewer-sure w.drawn w.calls w.objects w.tasks v.tasks n nobody fewer g.1) (refl, h.5 n),
      )

  -- whoever is in a region was in it before
  before-in : ((t : Task) → t ≡ one_of w.tasks w.agent name → (r : RegionNo) → in_region r (natures (f t).frames) ≡ true
      → in_region r (natures t.frames) ≡ true)
      → (n : Who) (r : RegionNo)
      → (let v = edit_task name f w in in_region r (marks_of v.tasks v.agent n) ≡ true) → in_region r (marks_of w.tasks w.agent n) ≡ true
  before-in less n r =
      edited_to (λ t. t ≡ one_of w.tasks w.agent n)
      (λ t. in_region r (natures t.frames) ≡ true → in_region r (marks_of w.tasks w.agent n) ≡ true) n name f w named
      (λ same t g e. let is : n ≡ name = same_who-path n name same in
      ap (λ (u : Task). in_region r (natures u.frames)) (sym g) ∙ less t (subst (λ m. t ≡ one_of w.tasks w.agent m) is g) r e)
      (λ apart t g e. ap (λ (u : Task). in_region r (natures u.frames)) (sym g) ∙ e) (λ g e. absurd (false≢true e)) refl

  pub less-owner : ((t : Task) → t ≡ one_of w.tasks w.agent name → (r : RegionNo) → in_region r (natures (f t).frames) ≡ true
      → in_region r (natures t.frames) ≡ true)
      → OneOwner w.tasks w.agent
      → (let v = edit_task name f w in OneOwner v.tasks v.agent)
  less-owner less owner a b r x y = owner a b r (before-in less a r x) (before-in less b r y)

  pub edit-free : (F : Naming)
      → ((n : Who) → same_who n name ≡ true → F n → (t : Task) → t ≡ one_of w.tasks w.agent n → guards (natures t.frames) ≡ false
      → guards (natures (f t).frames) ≡ false)
      → ((n : Who) → F n → Free n w)
      → (n : Who)
      → F n
      → Free n (edit_task name f w)
  edit-free F less free n is =
      edited_to (λ t. (t ≡ one_of w.tasks w.agent n) × (guards (natures t.frames) ≡ false)) (λ t. guards (natures t.frames) ≡ false) n name f w named
      (λ same t g. less n same is t g.0 g.1) (λ apart t g. g.1) (λ g. g.1) (refl, free n is)

-- ---- marks stay what they are

pub same-sure : (drawn : Drawn) (calls : List Call) (objects : List Object) (tasks : List Task) (n : Who) (t u : Task) → natures u.frames ≡ natures t.frames
    → (guards (natures t.frames) ≡ true → is_runnable_state t.state ≡ true → is_runnable_state u.state ≡ true)
    → u.inherited ≡ t.inherited → SureOf drawn calls objects tasks n t → SureOf drawn calls objects tasks n u
same-sure drawn calls objects tasks n t u frames state inherited h =
    let here : SureOn drawn calls objects tasks n (natures t.frames) u.state t.inherited = (h.0, λ e. state e (h.1 e), h.2, h.3) in
    subst (λ is. SureOn drawn calls objects tasks n (natures u.frames) u.state is) (sym inherited)
    (subst (λ ns. SureOn drawn calls objects tasks n ns u.state t.inherited) (sym frames) here)

module _ (F : Naming) (name : Who) (f : Task → Task) (w : World) (named : (t : Task) → (f t).who ≡ t.who) (mastered : (t : Task) → (f t).master ≡ t.master)
    (framed : (t : Task) → natures (f t).frames ≡ natures t.frames) where
  pub steady-free : ((n : Who) → F n → Free n w) → (n : Who) → F n → Free n (edit_task name f w)
  steady-free = edit-free name f w named mastered F (λ n same is t g e. ap guards (framed t) ∙ e)

  pub steady-good : ((n : Who) → same_who n name ≡ true → (t : Task) → t ≡ one_of w.tasks w.agent n → SureOf w.drawn w.calls w.objects w.tasks n t
      → SureOf w.drawn w.calls w.objects w.tasks n (f t))
      → Good F w
      → Good F (edit_task name f w)
  steady-good sure h = (
    edit-sound name f w named mastered sure (less-owner name f w named mastered (λ t g r e. sym (ap (in_region r) (framed t)) ∙ e) h.0.4) h.0,
    steady-free h.1,
  )

  pub same-good : ((t : Task) → (f t).state ≡ t.state) → ((t : Task) → (f t).inherited ≡ t.inherited) → Good F w → Good F (edit_task name f w)
  same-good state inherited h =
      steady-good
      (λ n same t g k. same-sure w.drawn w.calls w.objects w.tasks n t (f t) (framed t) (λ e r. ap is_runnable_state (state t) ∙ r) (inherited t) k) h

  pub same-marks : (n : Who) → (let v = edit_task name f w in marks_of v.tasks v.agent n ≡ marks_of w.tasks w.agent n)
  same-marks n =
      edited_to (λ t. t ≡ one_of w.tasks w.agent n) (λ t. natures t.frames ≡ marks_of w.tasks w.agent n) n name f w named
      (λ same t g. framed t ∙ ap (λ (u : Task). natures u.frames) g) (λ apart t g. ap (λ (u : Task). natures u.frames) g)
      (λ g. ap (λ (u : Task). natures u.frames) g) refl
