-- A task's master is older than each region of its own: so its masters, each of an owner's, have ever smaller numbers, and there
-- are no more of them than tasks.
use Rattle.std.proofs.Common.{◌≡◌, ℕ, zero, suc, ◌+◌, ◌<◌, ◌≤◌, Bool, true, false, cond, not, ◌||◌, length, List}
use Rattle.std.proofs.Common.{[], ◌∷◌, ◌++◌, Option, Some, None, option_and_then, refl, sym, ap, subst, arith, ltb}
use Rattle.std.specs.Prelude.{filter, find, unwrap_or}
use Rattle.std.specs.List.{list_any}
use Rattle.std.proofs.lemmas.Bool.{eqb-true, ltb-true, lt-ltb, le-ltb, false≢true}
use Rattle.ann_base.specs.declared.identities.RegionNo.{RegionNo}
use Rattle.ann_base.specs.declared.identities.TaskNo.{TaskNo}
use Rattle.trace_text.specs.declared.events.Who.{Who}
use Rattle.trace_text.specs.declared.events.Who.TheVariants as who
use Rattle.profile_image.specs.declared.numbers.StatementNo.{StatementNo}
use Rattle.profile_machine.specs.declared.world.World.{World}
use Rattle.profile_machine.specs.declared.world.marks.Frame.{Frame}
use Rattle.profile_machine.specs.declared.world.tasks.Task.{Task}
use Rattle.profile_machine.specs.declared.world.tasks.State.TheVariants.{Runnable, Blocked}
use Rattle.profile_image.specs.Words.{set_where, same_region, is_the}
use Rattle.world_tables.specs.Lists.{first_of, rest_of}
use Rattle.profile_machine.specs.Tasks.{nobody, task_at, task_of, is_who, found_task, edit_task_found, edit_task, with_state, with_frames}
use Rattle.profile_machine.specs.Frames.{top_of, edit_first, edit_top, push, goes_on, new_frame}
use Rattle.profile_machine.specs.Masters.{region_of_mark, has_region, owns, owner_of, masters_beyond, masters_from}
use Rattle.profile_machine.specs.Controlled.{region_or_none, top_region}
use Rattle.profile_machine.specs.Tasking.{add_task}
use Rattle.profile_image.specs.Program.{scope_of}
use Rattle.profile_machine.specs.Scopes.{begin_scope, draw_region, region_of_next, new_scope_mark, next_id}
use Rattle.machine_laws.proofs.FineMoves.{Nature, nature, natures, edit_task-drawn, each-anybody}
use Rattle.world_laws.specs.MasterLaws.{MastersEnd}
use Rattle.world_laws.proofs.Counts.KeptFacts.{KeepsFact, reached-has}

-- ---- what is kept

-- no region comes before all
abbrev age : Option RegionNo → ℕ
age None = 0
age (Some r) = suc r.0

abbrev RegionGrown : ℕ → ℕ → Option RegionNo → Type 0
RegionGrown old drawn None = Unit {0}
RegionGrown old drawn (Some r) = (old ≤ r.0) × (r.0 ≤ drawn)

abbrev MarksGrown : ℕ → ℕ → List Nature → Type 0
MarksGrown old drawn [] = Unit {0}
MarksGrown old drawn (n ∷ ns) = RegionGrown old drawn n.region × MarksGrown old drawn ns

-- a task's regions are younger than its master, and were drawn
abbrev Branches : ℕ → Option RegionNo → List Nature → Type 0
Branches drawn master marks = (age master ≤ suc drawn) × MarksGrown (age master) drawn marks

abbrev TaskBranches : ℕ → Task → Type 0
TaskBranches drawn t = Branches drawn t.master (natures t.frames)

abbrev AllBranch : ℕ → List Task → Type 0
AllBranch drawn [] = Unit {0}
AllBranch drawn (t ∷ ts) = TaskBranches drawn t × AllBranch drawn ts

abbrev Tree : World → Type 0
Tree w = TaskBranches w.drawn.regions w.agent × AllBranch w.drawn.regions w.tasks

-- ---- one more region

RegionGrown-later : (old drawn : ℕ) (r : Option RegionNo) → RegionGrown old drawn r → RegionGrown old (suc drawn) r
RegionGrown-later old drawn None h = tt
RegionGrown-later old drawn (Some r) h = let within : r.0 ≤ drawn = h.1 in (h.0, omega (arith, within))

MarksGrown-later : (old drawn : ℕ) (ns : List Nature) → MarksGrown old drawn ns → MarksGrown old (suc drawn) ns
MarksGrown-later old drawn [] h = tt
MarksGrown-later old drawn (n ∷ ns) h = (RegionGrown-later old drawn n.region h.0, MarksGrown-later old drawn ns h.1)

TaskBranches-later : (drawn : ℕ) (t : Task) → TaskBranches drawn t → TaskBranches (suc drawn) t
TaskBranches-later drawn t h =
    let within : age t.master ≤ suc drawn = h.0 in (omega (arith, within), MarksGrown-later (age t.master) drawn (natures t.frames) h.1)

AllBranch-later : (drawn : ℕ) (ts : List Task) → AllBranch drawn ts → AllBranch (suc drawn) ts
AllBranch-later drawn [] h = tt
AllBranch-later drawn (t ∷ ts) h = (TaskBranches-later drawn t h.0, AllBranch-later drawn ts h.1)

-- ---- lists of tasks

module _ (drawn : ℕ) where
  put-branch : (test : Bool) (x t : Task) (ts rest : List Task) → TaskBranches drawn x → AllBranch drawn (t ∷ ts) → AllBranch drawn rest
      → AllBranch drawn (cond test (x ∷ ts) (t ∷ rest))
  put-branch true x t ts rest a h k = (a, h.1)
  put-branch false x t ts rest a h k = (h.0, k)

  set-branch : (test : Task → Bool) (x : Task) (ts : List Task) → TaskBranches drawn x → AllBranch drawn ts → AllBranch drawn (set_where test x ts)
  set-branch test x [] a h = tt
  set-branch test x (t ∷ ts) a h = put-branch (test t) x t ts (set_where test x ts) a h (set-branch test x ts a h.1)

  some-is : (t u : Task) → Some t ≡ Some u → t ≡ u
  some-is t u e = cc

  first-branches : (test : Bool) (t : Task) (rest : Option Task) (u : Task) → TaskBranches drawn t → (rest ≡ Some u → TaskBranches drawn u)
      → cond test (Some t) rest ≡ Some u → TaskBranches drawn u
  first-branches true t rest u a k e = subst (TaskBranches drawn) (some-is t u e) a
  first-branches false t rest u a k e = k e

  found-branches : (test : Task → Bool) (ts : List Task) (u : Task) → AllBranch drawn ts → find test ts ≡ Some u → TaskBranches drawn u
  found-branches test [] u h e = cc
  found-branches test (t ∷ ts) u h e = first-branches (test t) t (find test ts) u h.0 (found-branches test ts u h.1) e

  kept-branch : (test : Bool) (t : Task) (ts : List Task) → TaskBranches drawn t → AllBranch drawn ts → AllBranch drawn (cond test (t ∷ ts) ts)
  kept-branch true t ts a h = (a, h)
  kept-branch false t ts a h = h

  filter-branch : (test : Task → Bool) (ts : List Task) → AllBranch drawn ts → AllBranch drawn (filter test ts)
  filter-branch test [] h = tt
  filter-branch test (t ∷ ts) h = kept-branch (test t) t (filter test ts) h.0 (filter-branch test ts h.1)

  append-branch : (ts : List Task) (t : Task) → AllBranch drawn ts → TaskBranches drawn t → AllBranch drawn (ts ++ t ∷ [])
  append-branch [] t h a = (a, tt)
  append-branch (x ∷ xs) t h a = (h.0, append-branch xs t h.1 a)

-- ---- edits

edited : (name : Who) (f : Task → Task) (w : World) → ((t : Task) → TaskBranches w.drawn.regions t → TaskBranches w.drawn.regions (f t)) → (found : Option Task)
    → task_at w name ≡ found → Tree w → Tree (edit_task_found name f w found)
edited name f w k None is h = h
edited (who.Task n) f w k (Some t) is h =
    (h.0, set-branch w.drawn.regions (is_who (who.Task n)) (f t) w.tasks (k t (found-branches w.drawn.regions (is_who (who.Task n)) w.tasks t h.1 is)) h.1)
edited who.Agent f w k (Some t) is h = (k t (subst (TaskBranches w.drawn.regions) (some-is w.drawn.regions w.agent t is) h.0), h.1)

tree-edited : (name : Who) (f : Task → Task) (w : World) → ((t : Task) → TaskBranches w.drawn.regions t → TaskBranches w.drawn.regions (f t)) → Tree w
    → Tree (edit_task name f w)
tree-edited name f w k h = edited name f w k (task_at w name) refl h

same-branches : (drawn : ℕ) (f : Task → Task) → ((t : Task) → (f t).frames ≡ t.frames) → ((t : Task) → (f t).master ≡ t.master) → (t : Task)
    → TaskBranches drawn t → TaskBranches drawn (f t)
same-branches drawn f same_frames same_master t h =
    subst (λ m. Branches drawn m (natures (f t).frames)) (sym (same_master t)) (subst (λ fs. Branches drawn t.master (natures fs)) (sym (same_frames t)) h)

framed-branches : (drawn : ℕ) (f : List Frame → List Frame) → ((fs : List Frame) → natures (f fs) ≡ natures fs) → (t : Task) → TaskBranches drawn t
    → TaskBranches drawn (with_frames (f t.frames) t)
framed-branches drawn f same t h = subst (Branches drawn t.master) (sym (same t.frames)) h

on-natures : (onward : Option StatementNo) (fs : List Frame) → natures (edit_first (goes_on onward) fs) ≡ natures fs
on-natures onward [] = refl
on-natures onward (f ∷ fs) = refl

-- one more mark, with no region or with the next
pushed-branches : (drawn : ℕ) (f : Frame) → (nature f.mark).region ≡ None → (t : Task) → TaskBranches drawn t
    → TaskBranches drawn (with_frames (f ∷ t.frames) t)
pushed-branches drawn f e t h = (h.0, (subst (RegionGrown (age t.master) drawn) (sym e) tt, h.1))

tree-pushed : (name : Who) (f : Frame) (w : World) → Tree w → (nature f.mark).region ≡ None → Tree (push name f w)
tree-pushed name f w h e = tree-edited name (λ t. with_frames (f ∷ t.frames) t) w (pushed-branches w.drawn.regions f e) h

popped-marks : (old drawn : ℕ) (fs : List Frame) → MarksGrown old drawn (natures fs) → MarksGrown old drawn (natures (rest_of fs))
popped-marks old drawn [] h = tt
popped-marks old drawn (f ∷ fs) h = h.1

-- the region of a scope that is opened is the next, if it has one
opened-branches : (drawn : ℕ) (f : Frame) → (nature f.mark).region ≡ Some (record { 0 = suc drawn }) → (t : Task) → TaskBranches drawn t
    → TaskBranches (suc drawn) (with_frames (f ∷ t.frames) t)
opened-branches drawn f e t h =
    let old : age t.master ≤ suc drawn = h.0 in
    let later = TaskBranches-later drawn t h in
    (later.0, (subst (RegionGrown (age t.master) (suc drawn)) (sym e) (old, omega arith), later.1))

opened-task : (n : TaskNo) (f : Frame) (w : World) → (nature f.mark).region ≡ Some (record { 0 = suc w.drawn.regions }) → (found : Option Task)
    → found_task (who.Task n) w.tasks ≡ found → Tree w → Tree (edit_task_found (who.Task n) (λ t. with_frames (f ∷ t.frames) t) (draw_region true w) found)
opened-task n f w e None is h = (TaskBranches-later w.drawn.regions w.agent h.0, AllBranch-later w.drawn.regions w.tasks h.1)
opened-task n f w e (Some t) is h = (
  TaskBranches-later w.drawn.regions w.agent h.0,
  set-branch (suc w.drawn.regions) (is_who (who.Task n)) (with_frames (f ∷ t.frames) t) w.tasks
      (opened-branches w.drawn.regions f e t (found-branches w.drawn.regions (is_who (who.Task n)) w.tasks t h.1 is))
      (AllBranch-later w.drawn.regions w.tasks h.1),
)

tree-opened : (kept : Bool) (name : Who) (f : Frame) (w : World) → (nature f.mark).region ≡ region_of_next kept w → Tree w
    → Tree (push name f (draw_region kept w))
tree-opened true (who.Task n) f w e h = opened-task n f w e (found_task (who.Task n) w.tasks) refl h
tree-opened true who.Agent f w e h = (opened-branches w.drawn.regions f e w.agent h.0, AllBranch-later w.drawn.regions w.tasks h.1)
tree-opened false name f w e h = tree-edited name (λ t. with_frames (f ∷ t.frames) t) w (pushed-branches w.drawn.regions f e) h

-- ---- a task is created in the region on top of its creator, which was drawn

top-grown : (drawn : ℕ) (r : Option RegionNo) → RegionGrown 0 drawn r → age (Some (region_or_none r)) ≤ suc drawn
top-grown drawn None h = omega arith
top-grown drawn (Some r) h = let within : r.0 ≤ drawn = h.1 in omega (arith, within)

region-within : (old drawn : ℕ) (r : Option RegionNo) → RegionGrown old drawn r → RegionGrown 0 drawn r
region-within old drawn None h = tt
region-within old drawn (Some r) h = (omega arith, h.1)

first-within : (old drawn : ℕ) (fs : List Frame) → MarksGrown old drawn (natures fs)
    → RegionGrown 0 drawn (option_and_then (λ f. region_of_mark f.mark) (first_of fs))
first-within old drawn [] h = tt
first-within old drawn (f ∷ fs) h = region-within old drawn (region_of_mark f.mark) h.0

found-within : (drawn : ℕ) (found : Option Task) → ((t : Task) → found ≡ Some t → TaskBranches drawn t)
    → RegionGrown 0 drawn (option_and_then (λ f. region_of_mark f.mark) (first_of (unwrap_or found nobody).frames))
found-within drawn None h = tt
found-within drawn (Some t) h = let branches = h t refl in first-within (age t.master) drawn t.frames branches.1

named-branches : (name : Who) (w : World) → Tree w → (t : Task) → task_at w name ≡ Some t → TaskBranches w.drawn.regions t
named-branches (who.Task n) w h t is = found-branches w.drawn.regions (is_who (who.Task n)) w.tasks t h.1 is
named-branches who.Agent w h t is = subst (TaskBranches w.drawn.regions) (some-is w.drawn.regions w.agent t is) h.0

top-within : (name : Who) (w : World) → Tree w → age (Some (top_region w name)) ≤ suc w.drawn.regions
top-within name w h =
    top-grown w.drawn.regions (option_and_then (λ f. region_of_mark f.mark) (top_of w name))
    (found-within w.drawn.regions (task_at w name) (named-branches name w h))

created-branches : (name : Who) (t : Task) (w : World) → Tree w → t.frames ≡ [] → t.master ≡ Some (top_region w name) → TaskBranches w.drawn.regions t
created-branches name t w h none master =
    subst (λ m. Branches w.drawn.regions m (natures t.frames)) (sym master)
    (subst (λ fs. Branches w.drawn.regions (Some (top_region w name)) (natures fs)) (sym none) (top-within name w h, tt))

tree-on : (name : Who) (onward : Option StatementNo) (w : World) → Tree w → Tree (edit_top name (goes_on onward) w)
tree-on name onward w h =
    tree-edited name (λ t. with_frames (edit_first (goes_on onward) t.frames) t) w
    (framed-branches w.drawn.regions (edit_first (goes_on onward)) (on-natures onward)) h

tree-added : (name : Who) (onward : Option StatementNo) (t : Task) (w : World) → Tree w → t.frames ≡ [] → t.master ≡ Some (top_region w name)
    → Tree (add_task t (edit_top name (goes_on onward) w))
tree-added name onward t w h none master =
    let gone = edit_top name (goes_on onward) w in
    let same : gone.drawn ≡ w.drawn = edit_task-drawn name (λ u. with_frames (edit_first (goes_on onward) u.frames) u) w in
    let on = tree-on name onward w h in
    (on.0, append-branch gone.drawn.regions gone.tasks t on.1 (subst (λ d. TaskBranches d.regions t) (sym same) (created-branches name t w h none master)))

-- ---- so it is kept

tree_is_kept : KeepsFact Tree
tree_is_kept = record {
  moves = record {
    behind = λ a b h. h;
    moved = λ a b h. h;
    stays = λ w h. h;
    goes_on = λ a b c p q. q;
    says = λ part line w h apart. h;
    rests = λ w h. h;
    leads_on = λ a b c p q. q;
    settles = λ p a b xs k. k;
    silently = λ a b k. k;
    other_may = λ name o. tt;
    task_other = λ n. tt;
    listed = λ w h. each-anybody w.tasks;
    awaits = λ name w h is. tt;
    edits_task = λ name f w h same_who same_frames same_state same_master. tree-edited name f w (same-branches w.drawn.regions f same_frames same_master) h;
    edits_frames = λ name f w h same. tree-edited name (λ t. with_frames (f t.frames) t) w (framed-branches w.drawn.regions f same) h;
    pushes_on = λ name onward f g w h may top region release abortable. tree-pushed name f (edit_top name (goes_on onward) w) (tree-on name onward w h) region;
    opens_abortable = λ name f w h o region release. tree-pushed name f w h region;
    pops =
        λ name f w h may top action.
        tree-edited name (λ t. with_frames (rest_of t.frames) t) w (λ t b. (b.0, popped-marks (age t.master) w.drawn.regions t.frames b.1)) h;
    readies = λ name w h o. tree-edited name (with_state Runnable) w (λ t b. b) h;
    blocks = λ name waiting w h o. tree-edited name (with_state (Blocked waiting)) w (λ t b. b) h;
    places = λ p part name end w h may. h;
    says_blocked = λ part name waiting w h o. h;
    adds_task = λ name onward t w h o same_who none master. tree-added name onward t w h none master;
    forgets_task = λ name w h. (h.0, filter-branch w.drawn.regions (λ t. not (is_who name t)) w.tasks h.1);
    sets_quantum = λ level ticks w h. h;
    ends_environment = λ leaving w h. h;
    begins_scope = λ p name scope b w h. h;
    edits_cells = λ id f w h. h;
    ends_scope = λ id w h. h;
    edits_call = λ c f w h same. h;
    adds_call = λ c w h. h;
    forgets_call = λ c w h. h;
    edits_object = λ o f w h number actions. h;
    adds_object = λ p l u w h. h;
    enters = λ name o mode w h lets. h;
    visits = λ name o mode xs w v h lets quiet k. k;
    finds_held = λ name o mode w h found. h;
    appoints = λ due moment w h later. h;
    drops_appointment = λ test w h. h;
    registers = λ r l w h. h;
    unregisters = λ n w h. h;
    draws_event = λ w h. h;
    adds_timer = λ t w h. h;
    clears_timer = λ k w h. h;
    sets_timer = λ k handler value w h. h;
    sets_timers_due = λ timers w h. h;
    adds_budget = λ w h. h;
    edits_budget = λ b f w h. h;
    sets_budget_due = λ budget w h. h;
    sets_port = λ n value w h. h;
    masks = λ n flag w h. h;
    keeps_interrupt = λ n flag w h. h;
    cuts_script = λ x rest w h is due. h;
  };
  openings = record {
    pushes = λ name f w h may region release abortable. tree-pushed name f w h region;
    opens_scope =
        λ p name scope b purpose w h may. tree-opened (scope_of p scope).kept name
        (new_frame (new_scope_mark (next_id w) (region_of_next (scope_of p scope).kept w) purpose) (scope_of p scope).first)
        (begin_scope p name scope b w) refl h;
    outside = λ name w h may is. tt;
    within_part = λ name f w h may top is. tt;
    owned = λ name f r w h may top is. tt;
    awaits_dependents = λ name r w h may owns is. tt;
  };
  exits = record {
    exits =
        λ name m w h may end.
        tree-edited name (λ t. with_frames (rest_of t.frames) t) w (λ t b. (b.0, popped-marks (age t.master) w.drawn.regions t.frames b.1)) h;
  };
  pushes = tree-pushed;
  releases = λ handler argument w h. h;
  takes_up = λ r rest w h. h;
  has_served = λ w h. h;
  ticks = λ ran w h. h;
  at_first = λ p script. ((omega arith, tt), ((omega arith, tt), tt));
}

-- ---- how many tasks are older than a region

count_below : ℕ → List Task → ℕ
count_below k [] = 0
count_below k (t ∷ ts) = cond (ltb (age t.master) k) (suc (count_below k ts)) (count_below k ts)

one-more : (x y : Bool) (m n : ℕ) → (x ≡ true → y ≡ true) → m ≤ n → cond x (suc m) m ≤ cond y (suc n) n
one-more true true m n k h = omega (arith, h)
one-more true false m n k h = absurd (false≢true (k refl))
one-more false true m n k h = omega (arith, h)
one-more false false m n k h = h

one-more-above : (x y : Bool) (m n : ℕ) → (x ≡ true → y ≡ true) → suc m ≤ n → suc (cond x (suc m) m) ≤ cond y (suc n) n
one-more-above true true m n k h = omega (arith, h)
one-more-above true false m n k h = absurd (false≢true (k refl))
one-more-above false true m n k h = omega (arith, h)
one-more-above false false m n k h = h

below-wider : (k a b : ℕ) → a ≤ b → ltb k a ≡ true → ltb k b ≡ true
below-wider k a b h e = let low : k < a = ltb-true k a e in lt-ltb k b (omega (arith, h, low))

below-rises : (a b : ℕ) (ts : List Task) → a ≤ b → count_below a ts ≤ count_below b ts
unfolding count_below
below-rises a b [] h = omega arith
below-rises a b (t ∷ ts) h =
    one-more (ltb (age t.master) a) (ltb (age t.master) b) (count_below a ts) (count_below b ts) (below-wider (age t.master) a b h) (below-rises a b ts h)

at-most-one-more : (x : Bool) (m n : ℕ) → m ≤ n → cond x (suc m) m ≤ suc n
at-most-one-more true m n h = omega (arith, h)
at-most-one-more false m n h = omega (arith, h)

below-length : (a : ℕ) (ts : List Task) → count_below a ts ≤ length ts
unfolding count_below
below-length a [] = omega arith
below-length a (t ∷ ts) = at-most-one-more (ltb (age t.master) a) (count_below a ts) (length ts) (below-length a ts)

-- one of them is not older than itself
not-below : (x y : Bool) (m n : ℕ) → x ≡ false → y ≡ true → m ≤ n → suc (cond x (suc m) m) ≤ cond y (suc n) n
not-below true y m n e k h = absurd (false≢true (sym e))
not-below false true m n e k h = omega (arith, h)
not-below false false m n e k h = absurd (false≢true k)

older-at-most : (t u : Task) (b : ℕ) → t ≡ u → age u.master < b → age t.master ≤ b
older-at-most t u b e h = let low : age t.master < b = subst (λ x. age x.master < b) (sym e) h in omega (arith, low)

first-below : (test : Task → Bool) (b : ℕ) (t : Task) (ts : List Task) (u : Task) (is : Bool) → age u.master < b → cond is (Some t) (find test ts) ≡ Some u
    → (find test ts ≡ Some u → suc (count_below (age u.master) ts) ≤ count_below b ts) → suc (count_below (age u.master) (t ∷ ts)) ≤ count_below b (t ∷ ts)
unfolding count_below
first-below test b t ts u true h e k =
    subst (λ x. suc (count_below (age x.master) (t ∷ ts)) ≤ count_below b (t ∷ ts)) (some-is 0 t u e)
    (not-below (ltb (age t.master) (age t.master)) (ltb (age t.master) b) (count_below (age t.master) ts) (count_below b ts)
    (le-ltb (age t.master) (age t.master) (omega arith))
    (lt-ltb (age t.master) b (subst (λ x. age x.master < b) (sym (some-is 0 t u e)) h))
    (below-rises (age t.master) b ts (older-at-most t u b (some-is 0 t u e) h)))
first-below test b t ts u false h e k =
    one-more-above (ltb (age t.master) (age u.master)) (ltb (age t.master) b) (count_below (age u.master) ts) (count_below b ts)
    (below-wider (age t.master) (age u.master) b (omega (arith, h))) (k e)

found-below : (test : Task → Bool) (b : ℕ) (ts : List Task) (u : Task) → find test ts ≡ Some u → age u.master < b
    → suc (count_below (age u.master) ts) ≤ count_below b ts
unfolding count_below
found-below test b [] u e h = cc
found-below test b (t ∷ ts) u e h = first-below test b t ts u (test t) h e (λ k. found-below test b ts u k h)

-- ---- the owner of a region is older than it

either-way : {P : Type 0} (a b : Bool) → (a ≡ true → P) → (b ≡ true → P) → (a || b) ≡ true → P
either-way true b h k e = h refl
either-way false b h k e = k e

region-age : (old drawn : ℕ) (region : Option RegionNo) (r : RegionNo) → RegionGrown old drawn region → is_the same_region region r ≡ true → old ≤ r.0
region-age old drawn None r h e = absurd (false≢true e)
region-age old drawn (Some q) r h e = subst (λ n. old ≤ n) (eqb-true q.0 r.0 e) h.0

owned-age : (old drawn : ℕ) (r : RegionNo) (fs : List Frame) → MarksGrown old drawn (natures fs) → list_any (has_region r) fs ≡ true → old ≤ r.0
owned-age old drawn r [] h e = absurd (false≢true e)
owned-age old drawn r (f ∷ fs) h e =
    either-way (has_region r f) (list_any (has_region r) fs) (region-age old drawn (region_of_mark f.mark) r h.0) (owned-age old drawn r fs h.1) e

first-passes : (test : Task → Bool) (t : Task) (rest : Option Task) (u : Task) (is : Bool) → test t ≡ is → (rest ≡ Some u → test u ≡ true)
    → cond is (Some t) rest ≡ Some u → test u ≡ true
first-passes test t rest u true e k h = subst (λ x. test x ≡ true) (some-is 0 t u h) e
first-passes test t rest u false e k h = k h

found-passes : (test : Task → Bool) (ts : List Task) (u : Task) → find test ts ≡ Some u → test u ≡ true
found-passes test [] u e = cc
found-passes test (t ∷ ts) u e = first-passes test t (find test ts) u (test t) refl (found-passes test ts u) e

owner-older : (w : World) (r : RegionNo) (t : Task) → Tree w → owner_of w r ≡ Some t → age t.master < suc r.0
owner-older w r t h e =
    let branches = found-branches w.drawn.regions (owns r) w.tasks t h.1 e in
    let low : age t.master ≤ r.0 = owned-age (age t.master) w.drawn.regions r t.frames branches.1 (found-passes (owns r) w.tasks t e) in
    omega (arith, low)

-- ---- so the count is enough

masters-beyond : (fuel other : ℕ) (w : World) (r : RegionNo) (found : Option Task) → Tree w → owner_of w r ≡ found → count_below (suc r.0) w.tasks < suc fuel
    → ((m : Option RegionNo) → count_below (age m) w.tasks < fuel → masters_from other w m ≡ masters_from fuel w m)
    → masters_beyond (masters_from other w) r found ≡ masters_beyond (masters_from fuel w) r found
masters-beyond fuel other w r None h is few k = refl
masters-beyond fuel other w r (Some t) h is few k =
    let fewer : suc (count_below (age t.master) w.tasks) ≤ count_below (suc r.0) w.tasks =
    found-below (owns r) (suc r.0) w.tasks t is (owner-older w r t h is) in
    ap (λ rs. r ∷ rs) (k t.master (omega (arith, fewer, few)))

masters-enough : (fuel other : ℕ) (w : World) → Tree w → fuel ≤ other → (m : Option RegionNo) → count_below (age m) w.tasks < fuel
    → masters_from other w m ≡ masters_from fuel w m
masters-enough zero other w h more m few = absurd (omega (arith, few))
masters-enough (suc fuel) zero w h more m few = absurd (omega (arith, more))
masters-enough (suc fuel) (suc other) w h more None few = refl
masters-enough (suc fuel) (suc other) w h more (Some r) few =
    masters-beyond fuel other w r (owner_of w r) h refl few (masters-enough fuel other w h (omega (arith, more)))

pub masters_end : MastersEnd
masters_end p script bound w reached n more =
    let few : count_below (age (task_of w (who.Task n)).master) w.tasks ≤ length w.tasks = below-length (age (task_of w (who.Task n)).master) w.tasks in
    masters-enough (suc (length w.tasks)) (suc (length w.tasks) + more) w (reached-has tree_is_kept p script bound w reached) (omega arith)
    (task_of w (who.Task n)).master (omega (arith, few))
