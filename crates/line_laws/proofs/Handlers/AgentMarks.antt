-- The agent's marks: the lowest is the protected action of its release, no other ends one, and none is an abortable part. So
-- while it has any it is inside a protected action. A region that it opens is coloured.
use Rattle.std.proofs.Common.{◌≡◌, ℕ, suc, ◌≤◌, Bool, true, false, ◌||◌, eqb, eq-eqb, List, [], ◌∷◌, Option, Some, None, is_some, refl, sym, ap, ◌∙◌, arith}
use Rattle.std.specs.List.{list_any}
use Rattle.std.proofs.lemmas.Bool.{eqb-true, false_from_ne_true, false≢true, or_from, or_left, or_right}
use Rattle.ann_base.specs.declared.identities.RegionNo.{RegionNo}
use Rattle.profile_machine.specs.declared.world.marks.Frame.{Frame}
use Rattle.profile_machine.specs.declared.world.tasks.Task.{Task}
use Rattle.profile_image.specs.Words.{is_the, same_region}
use Rattle.world_tables.specs.Lists.{first_of}
use Rattle.profile_machine.specs.Frames.{is_protected, any_protected}
use Rattle.machine_laws.proofs.FineMoves.{Nature, natures}
use Rattle.line_laws.proofs.Handlers.AgentWorlds.{Colour, RegionFree, MarksFree, TasksFree, RegionOwned, MarksOwned}

-- ---- how they stand

abbrev pub Rooted : List Nature → Type 0
Rooted [] = ⊥
Rooted (n ∷ []) = (n.action ≡ true) × (n.abortable ≡ false) × (is_some n.release ≡ true)
Rooted (n ∷ m ∷ ns) = (n.release ≡ None) × (n.abortable ≡ false) × Rooted (m ∷ ns)

-- or there are none
abbrev pub Standing : List Nature → Type 0
Standing [] = Unit {0}
Standing (n ∷ ns) = Rooted (n ∷ ns)

-- what is asked of them: one that is opened above another, and one that ends and is no action, leave it so
pub record Stacking (Stands : List Nature → Type 0) : Type 0 where
  pub opened : (n m : Nature) (ns : List Nature) → n.release ≡ None → n.abortable ≡ false → Stands (m ∷ ns) → Stands (n ∷ m ∷ ns)
  pub ended : (n : Nature) (ns : List Nature) → n.action ≡ false → Stands (n ∷ ns) → Stands ns

ended-rooted : (n : Nature) (ns : List Nature) → n.action ≡ false → Rooted (n ∷ ns) → Rooted ns
ended-rooted n [] e h = absurd (false≢true (sym e ∙ h.0))
ended-rooted n (m ∷ ns) e h = h.2

standing-rooted : (ns : List Nature) → Rooted ns → Standing ns
standing-rooted [] h = tt
standing-rooted (n ∷ ns) h = h

pub stands_rooted : (ns : List Nature) → Rooted ns → Standing ns
stands_rooted ns h = standing-rooted ns h

pub rooted : Stacking Rooted
rooted = record { opened = λ n m ns release abortable h. (release, abortable, h); ended = ended-rooted }

pub rooted-unabortable : (n : Nature) (ns : List Nature) → Rooted (n ∷ ns) → n.abortable ≡ false
rooted-unabortable n [] h = h.1
rooted-unabortable n (m ∷ ns) h = h.1

-- what ends above the lowest, and the lowest
pub above_lowest : (n : Nature) (ns : List Nature) → n.release ≡ None → Rooted (n ∷ ns) → Rooted ns
above_lowest n [] e h = absurd (false≢true (sym (ap is_some e) ∙ h.2))
above_lowest n (m ∷ ns) e h = h.2

pub lowest_alone : (n : Nature) (ns : List Nature) (k : ℕ) → n.release ≡ Some k → Rooted (n ∷ ns) → ns ≡ []
lowest_alone n [] k e h = refl
lowest_alone n (m ∷ ns) k e h = absurd (false≢true (sym (ap is_some h.0) ∙ ap is_some e))

-- ---- inside a protected action

pub rooted-inside : (fs : List Frame) → Rooted (natures fs) → any_protected fs ≡ true
rooted-inside [] h = elim h [ ]
rooted-inside (f ∷ []) h = or_left (is_protected f.mark) false h.0
rooted-inside (f ∷ g ∷ fs) h = or_right (is_protected f.mark) (any_protected (g ∷ fs)) (rooted-inside (g ∷ fs) h.2)

-- what has a top
pub has_top : (fs : List Frame) (f : Frame) → first_of fs ≡ Some f → (rest : List Frame) × (fs ≡ f ∷ rest)
has_top [] f e = cc
has_top (g ∷ fs) f e = (fs, cc)

-- ---- one more coloured region

abbrev pub with_next : ℕ → Colour → Colour
with_next drawn colour k = eqb k (suc drawn) || colour k

not_next : (k drawn : ℕ) → k ≤ drawn → eqb k (suc drawn) ≡ false
not_next k drawn a = false_from_ne_true (eqb k (suc drawn)) (λ e. let same : k ≡ suc drawn = eqb-true k (suc drawn) e in omega (arith, same, a))

module _ (colour : Colour) (drawn : ℕ) where
  region-free : (r : Option RegionNo) → RegionFree colour drawn r → RegionFree (with_next drawn colour) (suc drawn) r
  region-free None h = tt
  region-free (Some r) h = let within : r.0 ≤ drawn = h.1 in (or_from (eqb r.0 (suc drawn)) (colour r.0) (not_next r.0 drawn within) h.0, omega arith)

  marks-free : (ns : List Nature) → MarksFree colour drawn ns → MarksFree (with_next drawn colour) (suc drawn) ns
  marks-free [] h = tt
  marks-free (n ∷ ns) h = (h.0, region-free n.region h.1, marks-free ns h.2)

  pub tasks-free : (ts : List Task) → TasksFree colour drawn ts → TasksFree (with_next drawn colour) (suc drawn) ts
  tasks-free [] h = tt
  tasks-free (t ∷ ts) h = (
    record { named = h.0.named; marks = marks-free (natures t.frames) h.0.marks; master = region-free t.master h.0.master },
    tasks-free ts h.1,
  )

  pub region-owned : (r : Option RegionNo) → RegionOwned colour r → RegionOwned (with_next drawn colour) r
  region-owned None h = tt
  region-owned (Some r) h = or_right (eqb r.0 (suc drawn)) (colour r.0) h

  pub marks-owned : (ns : List Nature) → MarksOwned colour ns → MarksOwned (with_next drawn colour) ns
  marks-owned [] h = tt
  marks-owned (n ∷ ns) h = (region-owned n.region h.0, marks-owned ns h.1)

  next-drawn-test : (k : ℕ) (b : Bool) → eqb k (suc drawn) ≡ b → (b || colour k) ≡ true → ((j : ℕ) → colour j ≡ true → j ≤ drawn) → k ≤ suc drawn
  next-drawn-test k true is e within = let same : k ≡ suc drawn = eqb-true k (suc drawn) is in omega (arith, same)
  next-drawn-test k false is e within = let old_bound : k ≤ drawn = within k e in omega arith

  pub next-drawn : ((j : ℕ) → colour j ≡ true → j ≤ drawn) → (k : ℕ) → with_next drawn colour k ≡ true → k ≤ suc drawn
  next-drawn within k e = next-drawn-test k (eqb k (suc drawn)) refl e within

  pub next-none : colour 0 ≡ false → with_next drawn colour 0 ≡ false
  next-none e = or_from (eqb 0 (suc drawn)) (colour 0) (not_next 0 drawn (omega arith)) e

  pub next-owned : RegionOwned (with_next drawn colour) (Some (record { 0 = suc drawn }))
  next-owned = ap (λ q. q || colour (suc drawn)) (eq-eqb (suc drawn) (suc drawn) refl)

-- ---- no task depends on a coloured region

master-test : (colour : Colour) (drawn : ℕ) (master : Option RegionNo) (r : RegionNo) → RegionFree colour drawn master → colour r.0 ≡ true
    → is_the same_region master r ≡ false
master-test colour drawn None r h e = refl
master-test colour drawn (Some m) r h e =
    false_from_ne_true (same_region m r) (λ same. let is : m.0 ≡ r.0 = eqb-true m.0 r.0 same in false≢true (sym h.0 ∙ ap colour is ∙ e))

pub no_dependents : (colour : Colour) (drawn : ℕ) (r : RegionNo) (ts : List Task) → colour r.0 ≡ true → TasksFree colour drawn ts
    → list_any (λ t. is_the same_region t.master r) ts ≡ false
no_dependents colour drawn r [] e h = refl
no_dependents colour drawn r (t ∷ ts) e h =
    or_from (is_the same_region t.master r) (list_any (λ u. is_the same_region u.master r) ts) (master-test colour drawn t.master r h.0.master e)
    (no_dependents colour drawn r ts e h.1)

-- one more above the lowest
pub rooted-pushed : (n : Nature) (ns : List Nature) → n.release ≡ None → n.abortable ≡ false → Rooted ns → Rooted (n ∷ ns)
rooted-pushed n [] release abortable h = elim h [ ]
rooted-pushed n (m ∷ ns) release abortable h = (release, abortable, h)

-- none at all
abbrev pub Emptied : List Nature → Type 0
Emptied ns = ns ≡ []

pub emptied : Stacking Emptied
emptied = record { opened = λ n m ns release abortable h. cc; ended = λ n ns e h. cc }
