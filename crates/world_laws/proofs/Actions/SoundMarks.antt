-- Marks that are no actions: opened, and ended.
use Rattle.std.proofs.Common.{◌⊎◌, inl, inr, ◌≡◌, ℕ, suc, ◌≤◌, ◌<◌, Bool, true, false, ◌||◌, List}
use Rattle.std.proofs.Common.{[], ◌∷◌, Option, Some, None, refl, sym, ap, subst, ◌∙◌, arith}
use Rattle.std.proofs.lemmas.Bool.{eqb-true, false≢true, or_right}
use Rattle.ann_base.specs.declared.identities.ObjectNo.{ObjectNo}
use Rattle.ann_base.specs.declared.identities.RegionNo.{RegionNo}
use Rattle.trace_text.specs.declared.events.Who.{Who}
use Rattle.world_tables.specs.Lists.{rest_of}
use Rattle.profile_image.specs.declared.image.Image.{Image}
use Rattle.profile_image.specs.declared.numbers.ScopeNo.{ScopeNo}
use Rattle.profile_machine.specs.declared.world.World.{World}
use Rattle.profile_machine.specs.declared.world.Drawn.{Drawn}
use Rattle.profile_machine.specs.declared.world.tasks.Task.{Task}
use Rattle.profile_machine.specs.declared.world.tasks.State.{State}
use Rattle.profile_machine.specs.declared.world.tasks.Inherited.{Inherited}
use Rattle.profile_machine.specs.declared.world.calls.Call.{Call}
use Rattle.profile_machine.specs.declared.world.objects.Object.{Object}
use Rattle.profile_machine.specs.declared.world.marks.Frame.{Frame}
use Rattle.profile_machine.specs.declared.world.marks.Purpose.{Purpose}
use Rattle.profile_machine.specs.declared.world.scopes.Beginning.{Beginning}
use Rattle.profile_image.specs.Words.{same_who, same_region, is_the}
use Rattle.profile_image.specs.Program.{scope_of}
use Rattle.profile_machine.specs.Tasks.{with_frames}
use Rattle.profile_machine.specs.Frames.{push, pop, new_frame}
use Rattle.profile_machine.specs.Scopes.{begin_scope, draw_region, region_drawn, open_scope, next_id, region_of_next, new_scope_mark}
use Rattle.profile_machine.specs.Tasking.{is_task_scope}
use Rattle.line_laws.proofs.Exits.TaskEdits.{one_of, same_who-path, edited_to}
use Rattle.world_laws.proofs.Actions.Natures.{Nature, nature, natures, guards, in_region, guards-plain, marks-plain}
use Rattle.world_laws.proofs.Actions.Sound.{RegionSound, MarksSound, Hold, EachObject, dependents, SureOn, SureOf, marks_of, Sound, Good}
use Rattle.world_laws.proofs.Actions.SoundEdits.{edit-sound, edit-free, less-owner}
use Rattle.machine_laws.proofs.QueueLemmas.{by_test}
use Rattle.machine_laws.proofs.FineMoves.{Naming}

-- no action and no region
abbrev pub bare : Bool → Nature
bare floor = record { region = None; action = None; release = None; own = None; floor = floor }

abbrev pub regional : RegionNo → Bool → Nature
regional r floor = record { region = Some r; action = None; release = None; own = None; floor = floor }

-- ---- one is opened

bare-sure : (drawn : Drawn) (calls : List Call) (objects : List Object) (tasks : List Task) (name : Who) (floor : Bool) (ns : List Nature) (state : State)
    (is : List Inherited)
    → (floor ≡ true → guards ns ≡ false)
    → SureOn drawn calls objects tasks name ns state is → SureOn drawn calls objects tasks name (bare floor ∷ ns) state is
bare-sure drawn calls objects tasks name floor ns state is low h = (((low, tt, tt, tt, tt), h.0), h.1, h.2, λ r e. (λ x. absurd (false≢true x), h.3 r e))

pushed-sure : (drawn : Drawn) (calls : List Call) (objects : List Object) (tasks : List Task) (name : Who) (f : Frame) (floor : Bool) (t : Task)
    → nature f.mark ≡ bare floor → (floor ≡ true → guards (natures t.frames) ≡ false)
    → SureOf drawn calls objects tasks name t → SureOf drawn calls objects tasks name (with_frames (f ∷ t.frames) t)
pushed-sure drawn calls objects tasks name f floor t e low h =
    subst (λ n. SureOn drawn calls objects tasks name (n ∷ natures t.frames) t.state t.inherited) (sym e)
    (bare-sure drawn calls objects tasks name floor (natures t.frames) t.state t.inherited low h)

module _ (F : Naming) (name : Who) (f : Frame) (floor : Bool) (w : World) (is : nature f.mark ≡ bare floor) where
  low-here : (floor ≡ true → F name) → Good F w → (n : Who) → same_who n name ≡ true → (t : Task) → t ≡ one_of w.tasks w.agent n → floor ≡ true
      → guards (natures t.frames) ≡ false
  low-here low h n same t g e =
      let here : n ≡ name = same_who-path n name same in
      ap (λ (u : Task). guards (natures u.frames)) g ∙ h.1 n (subst F (sym here) (low e))

  pub push-good : (floor ≡ true → F name) → Good F w → Good F (push name f w)
  push-good low h = (
    edit-sound name (λ t. with_frames (f ∷ t.frames) t) w (λ t. refl) (λ t. refl)
        (λ n same t g k. pushed-sure w.drawn w.calls w.objects w.tasks n f floor t is (low-here low h n same t g) k)
        (less-owner name (λ t. with_frames (f ∷ t.frames) t) w (λ t. refl) (λ t. refl)
        (λ t g r e. sym (ap (λ (n : Nature). in_region r (n ∷ natures t.frames)) is) ∙ e) h.0.4) h.0,
    edit-free name (λ t. with_frames (f ∷ t.frames) t) w (λ t. refl) (λ t. refl) F
        (λ n same k t g e. ap (λ (m : Nature). guards (m ∷ natures t.frames)) is ∙ e) h.1,
  )

-- ---- one is opened with the next region

later-region : (drawn : ℕ) (r : Option RegionNo) → RegionSound drawn r → RegionSound (suc drawn) r
later-region drawn None h = tt
later-region drawn (Some r) h = let within : r.0 ≤ drawn = h.1 in (h.0, omega (arith, within))

later-marks : (drawn : Drawn) (calls : List Call) (name : Who) (ns : List Nature) → MarksSound drawn calls name ns
    → MarksSound (region_drawn drawn) calls name ns
later-marks drawn calls name [] h = tt
later-marks drawn calls name (n ∷ ns) h = ((h.0.0, h.0.1, h.0.2, h.0.3, later-region drawn.regions n.region h.0.4), later-marks drawn calls name ns h.1)

drawn-sound : (w : World) → Sound w → Sound (draw_region true w)
drawn-sound w h = (
  h.0,
  h.1,
  h.2,
  λ r e. (let within : r.0 ≤ w.drawn.regions = h.3 r e in omega (arith, within)),
  h.4,
  λ n. (let k = h.5 n in (later-marks w.drawn w.calls n (marks_of w.tasks w.agent n) k.0, k.1, k.2, k.3)),
)

same_region-is : (a b : RegionNo) → same_region a b ≡ true → a.0 ≡ b.0
same_region-is a b e = eqb-true a.0 b.0 e

-- regions of marks were drawn
abbrev Within : ℕ → RegionNo → Type 0
Within drawn r = (0 < r.0) × (r.0 ≤ drawn)

in-step : (drawn : ℕ) (q : Option RegionNo) (r : RegionNo) (rest : Bool) → RegionSound drawn q → (is_the same_region q r || rest) ≡ true
    → (rest ≡ true → Within drawn r) → Within drawn r
in-step drawn None r rest h e k = k e
in-step drawn (Some q) r rest h e k = by_test (same_region q r)
    (λ same. let is : q.0 ≡ r.0 = same_region-is q r same in
    let low : 0 < q.0 = h.0 in let within : q.0 ≤ drawn = h.1 in (omega (arith, is, low), omega (arith, is, within)))
    (λ apart. k (sym (ap (λ b. b || rest) apart) ∙ e))

pub in-drawn : (drawn : Drawn) (calls : List Call) (name : Who) (r : RegionNo) (ns : List Nature) → MarksSound drawn calls name ns → in_region r ns ≡ true
    → Within drawn.regions r
in-drawn drawn calls name r [] h e = absurd (false≢true e)
in-drawn drawn calls name r (n ∷ ns) h e = in-step drawn.regions n.region r (in_region r ns) h.0.4 e (in-drawn drawn calls name r ns h.1)

regional-sure : (drawn : Drawn) (calls : List Call) (objects : List Object) (tasks : List Task) (name : Who) (q : RegionNo) (floor : Bool) (ns : List Nature)
    (state : State) (is : List Inherited)
    → (floor ≡ true → guards ns ≡ false)
    → (0 < q.0) × (q.0 ≤ drawn.regions)
    → ((r : RegionNo) → q.0 ≡ r.0 → dependents tasks r ≡ true → ⊥) → SureOn drawn calls objects tasks name ns state is
    → SureOn drawn calls objects tasks name (regional q floor ∷ ns) state is
regional-sure drawn calls objects tasks name q floor ns state is low within new h =
    (((low, tt, tt, tt, within), h.0), h.1, h.2, λ r e. (λ x. absurd (new r (same_region-is q r x) e), h.3 r e))

-- behind a region is drawn, with a mark of it
module _ (F : Naming) (name : Who) (f : Frame) (floor : Bool) (w : World) (is : nature f.mark ≡ regional (record { 0 = suc w.drawn.regions }) floor) where
  abbrev next : RegionNo
  next = record { 0 = suc w.drawn.regions }

  abbrev drawn_world : World
  drawn_world = draw_region true w

  no-dependents : Sound w → (r : RegionNo) → suc w.drawn.regions ≡ r.0 → dependents w.tasks r ≡ true → ⊥
  no-dependents h r e d = let within : r.0 ≤ w.drawn.regions = h.3 r d in omega (arith, within, e)

  region-pushed : (low : floor ≡ true → F name) → Good F w → (n : Who) → same_who n name ≡ true → (t : Task) → t ≡ one_of w.tasks w.agent n
      → SureOf drawn_world.drawn w.calls w.objects w.tasks n t → SureOf drawn_world.drawn w.calls w.objects w.tasks n (with_frames (f ∷ t.frames) t)
  region-pushed low h n same t g k =
      let here : n ≡ name = same_who-path n name same in
      let free : floor ≡ true → guards (natures t.frames) ≡ false = λ e. ap (λ (u : Task). guards (natures u.frames)) g ∙ h.1 n (subst F (sym here) (low e)) in
      subst (λ m. SureOn drawn_world.drawn w.calls w.objects w.tasks n (m ∷ natures t.frames) t.state t.inherited) (sym is)
      (regional-sure drawn_world.drawn w.calls w.objects w.tasks n next floor (natures t.frames) t.state t.inherited free (omega arith, omega arith)
      (no-dependents h.0) k)

  -- who is in a region was in it, or has the new mark of it
  now-in : (n : Who) (r : RegionNo) → (let v = push name f drawn_world in in_region r (marks_of v.tasks v.agent n) ≡ true)
      → (in_region r (marks_of w.tasks w.agent n) ≡ true) ⊎ ((n ≡ name) × (suc w.drawn.regions ≡ r.0))
  now-in n r =
      edited_to (λ t. t ≡ one_of w.tasks w.agent n)
      (λ t. in_region r (natures t.frames) ≡ true → (in_region r (marks_of w.tasks w.agent n) ≡ true) ⊎ ((n ≡ name) × (suc w.drawn.regions ≡ r.0))) n name
      (λ t. with_frames (f ∷ t.frames) t) drawn_world (λ t. refl)
      (λ same t g e.
      let top : (same_region next r || in_region r (natures t.frames)) ≡ true = sym (ap (λ (m : Nature). in_region r (m ∷ natures t.frames)) is) ∙ e in
      by_test (same_region next r) (λ alike. inr (same_who-path n name same, same_region-is next r alike))
      (λ apart. inl (ap (λ (u : Task). in_region r (natures u.frames)) (sym g) ∙ sym (ap (λ b. b || in_region r (natures t.frames)) apart) ∙ top)))
      (λ apart t g e. inl (ap (λ (u : Task). in_region r (natures u.frames)) (sym g) ∙ e)) (λ g e. absurd (false≢true e)) refl

  not-fresh : Sound w → (n : Who) (r : RegionNo) → in_region r (marks_of w.tasks w.agent n) ≡ true → suc w.drawn.regions ≡ r.0 → ⊥
  not-fresh h n r e is' =
      let within : r.0 ≤ w.drawn.regions = (in-drawn w.drawn w.calls n r (marks_of w.tasks w.agent n) (h.5 n).0 e).1 in omega (arith, within, is')

  one-owner : Sound w → (a b : Who) (r : RegionNo) → (in_region r (marks_of w.tasks w.agent a) ≡ true) ⊎ ((a ≡ name) × (suc w.drawn.regions ≡ r.0))
      → (in_region r (marks_of w.tasks w.agent b) ≡ true) ⊎ ((b ≡ name) × (suc w.drawn.regions ≡ r.0)) → a ≡ b
  one-owner h a b r (inl x) (inl y) = h.4 a b r x y
  one-owner h a b r (inl x) (inr y) = absurd (not-fresh h a r x y.1)
  one-owner h a b r (inr x) (inl y) = absurd (not-fresh h b r y x.1)
  one-owner h a b r (inr x) (inr y) = x.0 ∙ sym y.0

  pub push_region-good : (floor ≡ true → F name) → Good F w → Good F (push name f drawn_world)
  push_region-good low h = (
    edit-sound name (λ t. with_frames (f ∷ t.frames) t) drawn_world (λ t. refl) (λ t. refl) (region-pushed low h)
        (λ a b r x y. one-owner h.0 a b r (now-in a r x) (now-in b r y)) (drawn-sound w h.0),
    edit-free name (λ t. with_frames (f ∷ t.frames) t) drawn_world (λ t. refl) (λ t. refl) F
        (λ n same k t g e. ap (λ (m : Nature). guards (m ∷ natures t.frames)) is ∙ e) h.1,
  )

pub open_scope-good : (F : Naming) (p : Image) (name : Who) (scope : ScopeNo) (b : Beginning) (purpose : Purpose) (w : World)
    → (is_task_scope purpose ≡ true → F name) → Good F w → Good F (open_scope p name scope b purpose w)
open_scope-good F p name scope b purpose w low h = opens (scope_of p scope).kept
  where
    opens : (kept : Bool)
        → Good F (push name (new_frame (new_scope_mark (next_id w) (region_of_next kept w) purpose) (scope_of p scope).first)
        (draw_region kept (begin_scope p name scope b w)))
    opens true =
        push_region-good F name (new_frame (new_scope_mark (next_id w) (region_of_next true w) purpose) (scope_of p scope).first) (is_task_scope purpose)
        (begin_scope p name scope b w) refl low h
    opens false =
        push-good F name (new_frame (new_scope_mark (next_id w) (region_of_next false w) purpose) (scope_of p scope).first) (is_task_scope purpose)
        (begin_scope p name scope b w) refl low h

-- ---- one that is no action ends

abbrev pub first_action : List Nature → Option ObjectNo
first_action [] = None
first_action (n ∷ ns) = n.action

module _ (drawn : Drawn) (calls : List Call) (objects : List Object) (tasks : List Task) (name : Who) where
  each-fewer : (n : Nature) (ns : List Nature) (is : List Inherited) (xs : List Object) → n.action ≡ None → EachObject (Hold name (n ∷ ns) is) xs
      → EachObject (Hold name ns is) xs
  each-fewer n ns is [] e h = tt
  each-fewer n ns is (x ∷ xs) e h = ((h.0.0 ∙ marks-plain x.number n ns e, h.0.1), each-fewer n ns is xs e h.1)

  popped-sure : (fs : List Frame) (state : State) (is : List Inherited) → first_action (natures fs) ≡ None
      → SureOn drawn calls objects tasks name (natures fs) state is → SureOn drawn calls objects tasks name (natures (rest_of fs)) state is
  popped-sure [] state is e h = h
  popped-sure (f ∷ fs) state is e h =
      (h.0.1, λ x. h.1 (guards-plain (nature f.mark) (natures fs) e ∙ x), each-fewer (nature f.mark) (natures fs) is objects e h.2, λ r d. (h.3 r d).1)

popped-guards : (fs : List Frame) → first_action (natures fs) ≡ None → guards (natures fs) ≡ false → guards (natures (rest_of fs)) ≡ false
popped-guards [] e x = x
popped-guards (f ∷ fs) e x = sym (guards-plain (nature f.mark) (natures fs) e) ∙ x

popped-in : (r : RegionNo) (fs : List Frame) → in_region r (natures (rest_of fs)) ≡ true → in_region r (natures fs) ≡ true
popped-in r [] e = e
popped-in r (f ∷ fs) e = or_right (is_the same_region (nature f.mark).region r) (in_region r (natures fs)) e

pub pop-good : (F : Naming) (name : Who) (w : World) → first_action (marks_of w.tasks w.agent name) ≡ None → Good F w → Good F (pop name w)
pop-good F name w none h =
    let none-here : (n : Who) → same_who n name ≡ true → (t : Task) → t ≡ one_of w.tasks w.agent n → first_action (natures t.frames) ≡ None = λ n same t g.
    ap (λ (u : Task). first_action (natures u.frames)) g ∙ ap (λ m. first_action (marks_of w.tasks w.agent m)) (same_who-path n name same) ∙ none in (
      edit-sound name (λ t. with_frames (rest_of t.frames) t) w (λ t. refl) (λ t. refl)
          (λ n same t g k. popped-sure w.drawn w.calls w.objects w.tasks n t.frames t.state t.inherited (none-here n same t g) k)
          (less-owner name (λ t. with_frames (rest_of t.frames) t) w (λ t. refl) (λ t. refl) (λ t g r e. popped-in r t.frames e) h.0.4) h.0,
      edit-free name (λ t. with_frames (rest_of t.frames) t) w (λ t. refl) (λ t. refl) F
          (λ n same is t g e. popped-guards t.frames (none-here n same t g) e) h.1,
    )
