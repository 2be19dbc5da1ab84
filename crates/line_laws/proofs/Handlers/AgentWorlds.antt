-- What sets the agent apart from tasks: its state, and its regions, which are coloured. No task has one of these, nor depends
-- on it, and no release ends with a mark of a task.
use Rattle.std.proofs.Common.{◌≡◌, ℕ, suc, ◌≤◌, Bool, true, false, cond, List, [], ◌∷◌, ◌++◌, Option, Some, None, option_and_then, refl, subst, arith}
use Rattle.std.specs.Prelude.{filter, find, unwrap_or}
use Rattle.std.proofs.lemmas.Bool.{false_from_ne_true}
use Rattle.ann_base.specs.declared.identities.RegionNo.{RegionNo}
use Rattle.trace_text.specs.declared.events.Who.{Who}
use Rattle.trace_text.specs.declared.events.Who.TheVariants as who
use Rattle.profile_machine.specs.declared.world.World.{World}
use Rattle.profile_machine.specs.declared.world.marks.Frame.{Frame}
use Rattle.profile_machine.specs.declared.world.tasks.State.{State}
use Rattle.profile_machine.specs.declared.world.tasks.State.TheVariants.{Runnable, Blocked}
use Rattle.profile_machine.specs.declared.world.tasks.Task.{Task}
use Rattle.profile_machine.specs.declared.world.tasks.Waiting.TheVariants as waits_for
use Rattle.profile_image.specs.Words.{set_where}
use Rattle.world_tables.specs.Lists.{first_of}
use Rattle.profile_machine.specs.Tasks.{nobody, is_who, found_task}
use Rattle.profile_machine.specs.Frames.{frames_of, top_of}
use Rattle.profile_machine.specs.Masters.{region_of_mark}
use Rattle.profile_machine.specs.Controlled.{region_or_none, top_region}
use Rattle.machine_laws.proofs.FineMoves.{Nature, natures, EachIs}

abbrev pub IsTask : Who → Type 0
IsTask (who.Task n) = Unit {0}
IsTask who.Agent = ⊥

-- the regions of the agent
abbrev pub Colour : Type 0
Colour = ℕ → Bool

-- none of these, and one that is drawn
abbrev pub RegionFree : Colour → ℕ → Option RegionNo → Type 0
RegionFree colour drawn None = Unit {0}
RegionFree colour drawn (Some r) = (colour r.0 ≡ false) × (r.0 ≤ drawn)

abbrev pub MarksFree : Colour → ℕ → List Nature → Type 0
MarksFree colour drawn [] = Unit {0}
MarksFree colour drawn (n ∷ ns) = (n.release ≡ None) × RegionFree colour drawn n.region × MarksFree colour drawn ns

pub record TaskFree (colour : Colour) (drawn : ℕ) (t : Task) : Type 0 where
  pub named : IsTask t.who
  pub marks : MarksFree colour drawn (natures t.frames)
  pub master : RegionFree colour drawn t.master

abbrev pub TasksFree : Colour → ℕ → List Task → Type 0
TasksFree colour drawn [] = Unit {0}
TasksFree colour drawn (t ∷ ts) = TaskFree colour drawn t × TasksFree colour drawn ts

-- ---- the agent's marks and state

abbrev pub RegionOwned : Colour → Option RegionNo → Type 0
RegionOwned colour None = Unit {0}
RegionOwned colour (Some r) = colour r.0 ≡ true

abbrev pub MarksOwned : Colour → List Nature → Type 0
MarksOwned colour [] = Unit {0}
MarksOwned colour (n ∷ ns) = RegionOwned colour n.region × MarksOwned colour ns

-- it is ready, or waits for a release
abbrev pub Attends : State → Type 0
Attends Runnable = Unit {0}
Attends (Blocked waits_for.Release) = Unit {0}
Attends _ = ⊥

pub record Apart (colour : Colour) (w : World) : Type 0 where
  pub tasks : TasksFree colour w.drawn.regions w.tasks
  pub marks : MarksOwned colour (natures w.agent.frames)
  pub attends : Attends w.agent.state
  pub drawn : (k : ℕ) → colour k ≡ true → k ≤ w.drawn.regions
  pub none : colour 0 ≡ false

-- ---- one more region

RegionFree-later : (colour : Colour) (m n : ℕ) (r : Option RegionNo) → m ≤ n → RegionFree colour m r → RegionFree colour n r
RegionFree-later colour m n None a h = tt
RegionFree-later colour m n (Some r) a h = let old_bound : r.0 ≤ m = h.1 in (h.0, omega arith)

MarksFree-later : (colour : Colour) (m n : ℕ) (ns : List Nature) → m ≤ n → MarksFree colour m ns → MarksFree colour n ns
MarksFree-later colour m n [] a h = tt
MarksFree-later colour m n (x ∷ xs) a h = (h.0, RegionFree-later colour m n x.region a h.1, MarksFree-later colour m n xs a h.2)

pub TaskFree-later : (colour : Colour) (m n : ℕ) (t : Task) → m ≤ n → TaskFree colour m t → TaskFree colour n t
TaskFree-later colour m n t a h = record {
  named = h.named;
  marks = MarksFree-later colour m n (natures t.frames) a h.marks;
  master = RegionFree-later colour m n t.master a h.master;
}

pub TasksFree-later : (colour : Colour) (m n : ℕ) (ts : List Task) → m ≤ n → TasksFree colour m ts → TasksFree colour n ts
TasksFree-later colour m n [] a h = tt
TasksFree-later colour m n (t ∷ ts) a h = (TaskFree-later colour m n t a h.0, TasksFree-later colour m n ts a h.1)

-- the next region is not coloured
pub next-free : (colour : Colour) (drawn : ℕ) → ((k : ℕ) → colour k ≡ true → k ≤ drawn) → colour (suc drawn) ≡ false
next-free colour drawn h = false_from_ne_true (colour (suc drawn)) (λ e. let within : suc drawn ≤ drawn = h (suc drawn) e in omega arith)

-- ---- lists of tasks

module _ (colour : Colour) (drawn : ℕ) where
  put-free : (test : Bool) (x t : Task) (ts rest : List Task) → TaskFree colour drawn x → TasksFree colour drawn (t ∷ ts) → TasksFree colour drawn rest
      → TasksFree colour drawn (cond test (x ∷ ts) (t ∷ rest))
  put-free true x t ts rest a h k = (a, h.1)
  put-free false x t ts rest a h k = (h.0, k)

  pub set-free : (test : Task → Bool) (x : Task) (ts : List Task) → TaskFree colour drawn x → TasksFree colour drawn ts
      → TasksFree colour drawn (set_where test x ts)
  set-free test x [] a h = tt
  set-free test x (t ∷ ts) a h = put-free (test t) x t ts (set_where test x ts) a h (set-free test x ts a h.1)

  some-is : (t u : Task) → Some t ≡ Some u → t ≡ u
  some-is t u e = cc

  first-free : (test : Bool) (t : Task) (rest : Option Task) (u : Task) → TaskFree colour drawn t → (rest ≡ Some u → TaskFree colour drawn u)
      → cond test (Some t) rest ≡ Some u → TaskFree colour drawn u
  first-free true t rest u a k e = subst (TaskFree colour drawn) (some-is t u e) a
  first-free false t rest u a k e = k e

  pub found-free : (test : Task → Bool) (ts : List Task) (u : Task) → TasksFree colour drawn ts → find test ts ≡ Some u → TaskFree colour drawn u
  found-free test [] u h e = cc
  found-free test (t ∷ ts) u h e = first-free (test t) t (find test ts) u h.0 (found-free test ts u h.1) e

  kept-free : (test : Bool) (t : Task) (ts : List Task) → TaskFree colour drawn t → TasksFree colour drawn ts → TasksFree colour drawn (cond test (t ∷ ts) ts)
  kept-free true t ts a h = (a, h)
  kept-free false t ts a h = h

  pub filter-free : (test : Task → Bool) (ts : List Task) → TasksFree colour drawn ts → TasksFree colour drawn (filter test ts)
  filter-free test [] h = tt
  filter-free test (t ∷ ts) h = kept-free (test t) t (filter test ts) h.0 (filter-free test ts h.1)

  pub append-free : (ts : List Task) (t : Task) → TasksFree colour drawn ts → TaskFree colour drawn t → TasksFree colour drawn (ts ++ t ∷ [])
  append-free [] t h a = (a, tt)
  append-free (x ∷ xs) t h a = (h.0, append-free xs t h.1 a)

  pub listed-free : (ts : List Task) → TasksFree colour drawn ts → EachIs IsTask ts
  listed-free [] h = tt
  listed-free (t ∷ ts) h = (h.0.named, listed-free ts h.1)

-- ---- the marks of a task, and the region in which it creates others

found-marks : (colour : Colour) (drawn : ℕ) (found : Option Task) → ((t : Task) → found ≡ Some t → TaskFree colour drawn t)
    → MarksFree colour drawn (natures (unwrap_or found nobody).frames)
found-marks colour drawn None h = tt
found-marks colour drawn (Some t) h = (h t refl).marks

pub marks-free : (colour : Colour) (w : World) (name : Who) → IsTask name → Apart colour w → MarksFree colour w.drawn.regions (natures (frames_of w name))
marks-free colour w who.Agent is h = elim is [ ]
marks-free colour w (who.Task n) is h =
    found-marks colour w.drawn.regions (found_task (who.Task n) w.tasks) (λ t e. found-free colour w.drawn.regions (is_who (who.Task n)) w.tasks t h.tasks e)

region-found : (colour : Colour) (drawn : ℕ) (r : Option RegionNo) → colour 0 ≡ false → RegionFree colour drawn r
    → RegionFree colour drawn (Some (region_or_none r))
region-found colour drawn None none h = (none, omega arith)
region-found colour drawn (Some r) none h = h

region_of : Option Frame → Option RegionNo
region_of None = None
region_of (Some f) = region_of_mark f.mark

first-region : (colour : Colour) (drawn : ℕ) (frames : List Frame) → MarksFree colour drawn (natures frames)
    → RegionFree colour drawn (region_of (first_of frames))
unfolding region_of
first-region colour drawn [] h = tt
first-region colour drawn (f ∷ fs) h = h.1

region_of-top : (top : Option Frame) → region_or_none (region_of top) ≡ region_or_none (option_and_then (λ f. region_of_mark f.mark) top)
unfolding region_of
region_of-top None = refl
region_of-top (Some f) = refl

pub top_region-free : (colour : Colour) (w : World) (name : Who) → IsTask name → Apart colour w → RegionFree colour w.drawn.regions (Some (top_region w name))
top_region-free colour w name is h =
    subst (λ r. RegionFree colour w.drawn.regions (Some r)) (region_of-top (top_of w name))
    (region-found colour w.drawn.regions (region_of (top_of w name)) h.none
    (first-region colour w.drawn.regions (frames_of w name) (marks-free colour w name is h)))
