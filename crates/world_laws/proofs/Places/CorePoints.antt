-- What holds of everybody, by what of it decides where it is placed, and by what an effect has said last of its place.
use Rattle.world_laws.proofs.Places.PutLemmas.{puts-apart, unsaid}
use Rattle.world_laws.proofs.Places.PartOrder.{last_put-append}
use Rattle.world_laws.proofs.Places.SoundWorlds.{IsAbsent, Sound, sound-edit, sound-plain, sound-same}
use Rattle.world_laws.proofs.Places.Puts.{Spot, last_put, puts, with_put}
use Rattle.world_laws.proofs.Places.CoreLemmas.{core-same}
use Rattle.ceiling_laws.proofs.Runs.FoundLemmas.{set-other}
use Rattle.ceiling_laws.proofs.Fine.LevelMoves.{Silences}
use Rattle.ceiling_laws.proofs.Fine.SameLemmas.{edit_task-same}
use Rattle.ceiling_laws.proofs.Runs.Triples.{Ends, Keeps, Leads, State, changes-leads, then-leads}
use Rattle.ceiling_laws.proofs.Fine.Cores.{Core, Same, core}
use Rattle.profile_machine.specs.Dispatching.{active, deadline_shown, grant_quantum, granted, keep_level}
use Rattle.profile_machine.specs.Dispatching.{kept_level_or_base, level_kept_by, ready, says_ready, to_head, to_tail}
use Rattle.profile_image.specs.Program.{edf_low, is_edf_level, is_robin_level}
use Rattle.profile_machine.specs.Scopes.{end_scope}
use Rattle.profile_machine.specs.Steps.{changes, says}
use Rattle.profile_machine.specs.Tasks.{edit_task, edit_task_found, is_who, nobody, task_at, task_of, with_state}
use Rattle.profile_image.specs.Words.{greatest_of, same_who}
use Rattle.profile_image.specs.declared.image.Image.{Image}
use Rattle.profile_machine.specs.declared.world.World.{World}
use Rattle.profile_machine.specs.declared.world.lines.Line.{Line}
use Rattle.profile_machine.specs.declared.world.lines.Line.TheVariants as line
use Rattle.profile_machine.specs.declared.world.lines.Part.{Part}
use Rattle.profile_machine.specs.declared.world.lines.Said.{Said}
use Rattle.profile_machine.specs.declared.world.tasks.State.TheVariants.{Runnable}
use Rattle.profile_machine.specs.declared.world.tasks.Task.{Task}
use Rattle.std.proofs.Common.{[], ap, cond, inl, inr, map, refl, subst, sym, ◌&&◌, ◌++◌, ◌∙◌, ◌∷◌, ◌≡◌, ◌⊎◌}
use Rattle.std.specs.Bool.{then_some}
use Rattle.std.specs.Prelude.{Bool, List, None, Option, Some, eqb, false, find, slice_index_or, true, ℕ, ℤ, unwrap_or}
use Rattle.trace_text.specs.declared.events.QueueEnd.{QueueEnd}
use Rattle.trace_text.specs.declared.events.QueueEnd.TheVariants.{Head, Tail}
use Rattle.trace_text.specs.declared.events.Who.{Who}
use Rattle.trace_text.specs.declared.events.Who.TheVariants as who
use Rattle.ceiling_laws.proofs.Places.SoundWorlds.{is_agent}
use Rattle.ceiling_laws.proofs.Runs.Kept.Waking.{who-is}
use Rattle.ceiling_laws.proofs.Runs.LevelMoves.{said_so}
use Rattle.ceiling_laws.proofs.Runs.SameLemmas.{found_is_who, set_where-found}
use Rattle.ceiling_laws.proofs.Places.EditLemmas.{named-apart}
use Rattle.ceiling_laws.proofs.Places.CorePoints.{absent_as, edit-drawn}
use Rattle.ceiling_laws.proofs.Places.PartOrder.{by_test}
use Rattle.line_laws.proofs.Leaving.TaskLemmas.{same_self}

-- what may hold of somebody: by how many task numbers were drawn, who it is, what it is, and what was said last of it
abbrev pub Point : Type 1
Point = ℕ → Who → Core → Option (Part × Option Spot) → Type 0

-- it holds of everybody, in a world that is sound
unfoldable pub Holds : Point → State
Holds P w said = Sound w × ((name : Who) → P w.drawn.tasks name (core (task_of w name)) (last_put name said))

-- the same, and something more of one of them
abbrev pub Knowing : Point → Who → (ℕ → Core → Type 0) → Point
Knowing P name K d n c l = P d n c l × (same_who n name ≡ true → K d c)

-- one thing of one of them, and another of all others
abbrev pub Except : Point → Who → Point → Point
Except P name Q d n c l = (same_who n name ≡ false → P d n c l) × (same_who n name ≡ true → Q d n c l)

abbrev pub active_in : Image → Core → ℕ
active_in p c = greatest_of (map (λ i. i.level) c.inherited) (kept_level_or_base (edf_low p c.base) c.kept_level c.base)

abbrev pub deadline_in : Image → Core → Option ℤ
deadline_in p c = then_some (is_edf_level p (active_in p c)) c.deadline

-- where it is placed
abbrev pub spot_for : Image → Core → Spot
spot_for p c = (active_in p c, deadline_in p c)

-- it stands there, if it stands somewhere
abbrev pub StandsAt : Option Spot → Spot → Type 0
StandsAt None s = Unit {0}
StandsAt (Some x) s = (x.0 ≡ s.0) × (x.1 ≡ s.1)

abbrev pub IsAt : Image → Option Spot → Core → Type 0
IsAt p place c = StandsAt place (spot_for p c)

-- ---- somebody is edited

pub core-plain : (a b : World) (n : Who) → b.tasks ≡ a.tasks → b.agent ≡ a.agent → core (task_of b n) ≡ core (task_of a n)
core-plain a b (who.Task t) tasks agent = ap (λ ts. core (unwrap_or (find (is_who (who.Task t)) ts) nobody)) tasks
core-plain a b who.Agent tasks agent = ap core agent

other_found : (name : Who) (f : Task → Task) (w : World) (n : Who) (found : Option Task) → task_at w name ≡ found → ((t : Task) → (f t).who ≡ t.who)
    → same_who n name ≡ false → core (task_of (edit_task_found name f w found) n) ≡ core (task_of w n)
other_found name f w n None is named apart = refl
other_found (who.Task m) f w (who.Task k) (Some x) is named apart =
    ap (λ found. core (unwrap_or found nobody))
    (set-other (who.Task m) (who.Task k) (f x) w.tasks apart
    (named-apart (who.Task m) (who.Task k) x (f x) (found_is_who (who.Task m) x w.tasks is) (named x) apart))
other_found (who.Task m) f w who.Agent (Some x) is named apart = refl
other_found who.Agent f w (who.Task k) (Some x) is named apart = refl
other_found who.Agent f w who.Agent (Some x) is named apart = absurd cc

pub edit-other : (name : Who) (f : Task → Task) (w : World) (n : Who) → ((t : Task) → (f t).who ≡ t.who) → same_who n name ≡ false
    → core (task_of (edit_task name f w) n) ≡ core (task_of w n)
edit-other name f w n named apart = other_found name f w n (task_at w name) refl named apart

-- a task that is edited was found under its name
pub record Edited (name : Who) (f : Task → Task) (before behind : Core) : Type 0 where
  pub task : Task
  pub named : is_agent name ≡ false → same_who name task.who ≡ true
  pub was : before ≡ core task
  pub is : behind ≡ core (f task)

-- or it is not there
abbrev pub Missed : Who → Core → Core → Type 0
Missed name before behind = IsAbsent name before × (behind ≡ core nobody)

own_found : (name : Who) (f : Task → Task) (w : World) (found : Option Task) → task_at w name ≡ found → ((t : Task) → (f t).who ≡ t.who)
    → Edited name f (core (task_of w name)) (core (task_of (edit_task_found name f w found) name))
    ⊎ Missed name (core (task_of w name)) (core (task_of (edit_task_found name f w found) name))
own_found (who.Task t) f w None is named =
    let gone : core (task_of w (who.Task t)) ≡ core nobody = ap (λ (r : Option Task). core (unwrap_or r nobody)) is in inr ((refl, gone), gone)
own_found (who.Task t) f w (Some x) is named =
    inl (record {
      task = x;
      named = λ task. found_is_who (who.Task t) x w.tasks is;
      was = ap (λ (r : Option Task). core (unwrap_or r nobody)) is;
      is = ap (λ (r : Option Task). core (unwrap_or r nobody)) (set_where-found (who.Task t) x (f x) w.tasks is (named x));
    })
own_found who.Agent f w None is named = absurd cc
own_found who.Agent f w (Some x) is named = let one : w.agent ≡ x = cc in inl (record { task = x; named = λ task. absurd cc; was = ap core one; is = refl })

pub edit-own : (name : Who) (f : Task → Task) (w : World) → ((t : Task) → (f t).who ≡ t.who)
    → Edited name f (core (task_of w name)) (core (task_of (edit_task name f w) name))
    ⊎ Missed name (core (task_of w name)) (core (task_of (edit_task name f w) name))
edit-own name f w named = own_found name f w (task_at w name) refl named

-- who is there is not absent, whatever becomes of it
pub not-absent : {P : Type 0} (name : Who) (t : Task) (f : Task → Task) → (is_agent name ≡ false → same_who name t.who ≡ true) → (f t).who ≡ t.who
    → IsAbsent name (core (f t)) → P
not-absent name t f named same absent = absent_as name (who-is name t.who (named absent.0) ∙ sym same ∙ ap (λ (c : Core). c.who) absent.1) absent.0

state_by : (name : Who) (f : Task → Task) (before behind : Core) → ((t : Task) → (f t).state ≡ t.state)
    → Edited name f before behind ⊎ Missed name before behind → behind.state ≡ before.state
state_by name f before behind same (inl e) = ap (λ (c : Core). c.state) e.is ∙ same e.task ∙ sym (ap (λ (c : Core). c.state) e.was)
state_by name f before behind same (inr e) = ap (λ (c : Core). c.state) e.1 ∙ sym (ap (λ (c : Core). c.state) e.0.1)

-- an edit that leaves states
pub state-kept : (name : Who) (f : Task → Task) (w : World) (n : Who) → ((t : Task) → (f t).who ≡ t.who) → ((t : Task) → (f t).state ≡ t.state)
    → (task_of (edit_task name f w) n).state ≡ (task_of w n).state
state-kept name f w n named same =
    by_test (same_who n name)
    (λ is. subst (λ m. (task_of (edit_task name f w) m).state ≡ (task_of w m).state) (sym (who-is n name is))
    (state_by name f (core (task_of w name)) (core (task_of (edit_task name f w) name)) same (edit-own name f w named)))
    (λ apart. ap (λ (c : Core). c.state) (edit-other name f w n named apart))

-- ---- of all of them

pub holds-also : (P Q : Point) → ((d : ℕ) (n : Who) (c : Core) (l : Option (Part × Option Spot)) → P d n c l → Q d n c l) → (w : World) (said : List Said)
    → Holds P w said → Holds Q w said
unfolding Holds
holds-also P Q f w said h = (h.0, λ n. f w.drawn.tasks n (core (task_of w n)) (last_put n said) (h.1 n))

-- what is known of one of them in this world
pub holds-knowing : (P : Point) (name : Who) (K : ℕ → Core → Type 0) (w : World) (said : List Said) → K w.drawn.tasks (core (task_of w name)) → Holds P w said
    → Holds (Knowing P name K) w said
unfolding Holds
holds-knowing P name K w said k h = (h.0, λ n. (h.1 n, λ same. subst (λ m. K w.drawn.tasks (core (task_of w m))) (sym (who-is n name same)) k))

pub holds-sound : (P : Point) (w : World) (said : List Said) → Holds P w said → Sound w
unfolding Holds
holds-sound P w said h = h.0

pub holds-of : (P : Point) (w : World) (said : List Said) (name : Who) → Holds P w said → P w.drawn.tasks name (core (task_of w name)) (last_put name said)
unfolding Holds
holds-of P w said name h = h.1 name

pub holds-plain : (P : Point) (a b : World) (said : List Said) → b.tasks ≡ a.tasks → b.agent ≡ a.agent → b.drawn.tasks ≡ a.drawn.tasks → Sound b
    → Holds P a said → Holds P b said
unfolding Holds
holds-plain P a b said tasks agent drawn sound h = (
  sound,
  λ n. subst (λ d. P d n (core (task_of b n)) (last_put n said)) (sym drawn)
      (subst (λ c. P a.drawn.tasks n c (last_put n said)) (sym (core-plain a b n tasks agent)) (h.1 n)),
)

holds-same : (P : Point) (a b : World) (said : List Said) → Same a b → Holds P a said → Holds P b said
unfolding Holds
holds-same P a b said same h = (
  sound-same a b same h.0,
  λ n. subst (λ d. P d n (core (task_of b n)) (last_put n said)) (sym same.drawn_tasks)
      (subst (λ c. P a.drawn.tasks n c (last_put n said)) (sym (core-same a b n same)) (h.1 n)),
)

-- a line that speaks of nobody's place
pub holds-says : (P : Point) (part : Part) (x : Line) (w : World) (said : List Said) → ((n : Who) → puts n x ≡ None) → Holds P w said
    → Holds P w (said ++ said_so part x ∷ [])
unfolding Holds
holds-says P part x w said none h = (h.0, λ n. subst (P w.drawn.tasks n (core (task_of w n))) (sym (unsaid n said part x (none n))) (h.1 n))

pub keeps_says : (P : Point) (part : Part) (x : Line) → ((n : Who) → puts n x ≡ None) → Keeps (Holds P) (says part x)
unfolding Ends
keeps_says P part x none = record { runs = λ w said h. holds-says P part x w said none h }

pub holds_quiet : (P : Point) → Silences (Holds P)
holds_quiet P = record {
  silently = λ a b said same h. holds-same P a b said same h;
  says = λ part x w said other h. holds-says P part x w said (λ n. puts-apart n x other) h;
  ends_scope =
      λ id w said h. holds-plain P w (end_scope id w) said refl refl refl (sound-plain w (end_scope id w) refl refl refl refl (holds-sound P w said h)) h;
}

-- ---- one of them is edited, and a line speaks of it

-- what becomes of somebody by an edit: of a task that is there, and of who is not
pub record Turns (P Q : Point) (name : Who) (f : Task → Task) : Type 0 where
  pub others : (d : ℕ) (n : Who) (c : Core) (l : Option (Part × Option Spot)) → same_who n name ≡ false → P d n c l → Q d n c l
  pub own : (d : ℕ) (t : Task) (l : Option (Part × Option Spot)) → (is_agent name ≡ false → same_who name t.who ≡ true) → P d name (core t) l
      → Q d name (core (f t)) l
  pub missed : (d : ℕ) (l : Option (Part × Option Spot)) → is_agent name ≡ false → P d name (core nobody) l → Q d name (core nobody) l

turned : (P Q : Point) (name : Who) (f : Task → Task) (d : ℕ) (before behind : Core) (l : Option (Part × Option Spot)) → Turns P Q name f
    → Edited name f before behind ⊎ Missed name before behind → P d name before l → Q d name behind l
turned P Q name f d before behind l turns (inl e) h = subst (λ c. Q d name c l) (sym e.is) (turns.own d e.task l e.named (subst (λ c. P d name c l) e.was h))
turned P Q name f d before behind l turns (inr e) h = subst (λ c. Q d name c l) (sym e.1) (turns.missed d l e.0.0 (subst (λ c. P d name c l) e.0.1 h))

pub holds-edit : (P Q : Point) (name : Who) (f : Task → Task) (w : World) (said : List Said) → ((t : Task) → (f t).who ≡ t.who) → Sound (edit_task name f w)
    → Turns P Q name f → Holds P w said → Holds Q (edit_task name f w) said
unfolding Holds
holds-edit P Q name f w said named sound turns h = (
  sound,
  λ n. subst (λ d. Q d n (core (task_of (edit_task name f w) n)) (last_put n said)) (sym (edit-drawn name f w)) (by_test (same_who n name)
      (λ same. subst (λ m. Q w.drawn.tasks m (core (task_of (edit_task name f w) m)) (last_put m said)) (sym (who-is n name same))
      (turned P Q name f w.drawn.tasks (core (task_of w name)) (core (task_of (edit_task name f w) name)) (last_put name said) turns (edit-own name f w named)
      (h.1 name)))
      (λ apart. subst (λ c. Q w.drawn.tasks n c (last_put n said)) (sym (edit-other name f w n named apart))
      (turns.others w.drawn.tasks n (core (task_of w n)) (last_put n said) apart (h.1 n)))),
)

-- a line that places somebody, or takes it out
pub record Places (P Q : Point) (name : Who) (part : Part) (place : Core → Option Spot) : Type 0 where
  pub others : (d : ℕ) (n : Who) (c : Core) (l : Option (Part × Option Spot)) → same_who n name ≡ false → P d n c l → Q d n c l
  pub own : (d : ℕ) (c : Core) (l : Option (Part × Option Spot)) → P d name c l → Q d name c (with_put l part (Some (place c)))

pub holds-put : (P Q : Point) (name : Who) (part : Part) (place : Core → Option Spot) (x : Line) (w : World) (said : List Said)
    → puts name x ≡ Some (place (core (task_of w name))) → ((n : Who) → same_who n name ≡ false → puts n x ≡ None) → Places P Q name part place
    → Holds P w said → Holds Q w (said ++ said_so part x ∷ [])
unfolding Holds
holds-put P Q name part place x w said is none places h = (
  h.0,
  λ n. by_test (same_who n name)
      (λ same. subst (λ m. Q w.drawn.tasks m (core (task_of w m)) (last_put m (said ++ said_so part x ∷ []))) (sym (who-is n name same))
      (subst (Q w.drawn.tasks name (core (task_of w name))) (sym (last_put-append name said (said_so part x) ∙ ap (with_put (last_put name said) part) is))
      (places.own w.drawn.tasks (core (task_of w name)) (last_put name said) (h.1 name))))
      (λ apart. subst (Q w.drawn.tasks n (core (task_of w n))) (sym (unsaid n said part x (none n apart)))
      (places.others w.drawn.tasks n (core (task_of w n)) (last_put n said) apart (h.1 n))),
)

-- ---- placing

module _ (p : Image) where
  abbrev pub at_active : Core → Option Spot
  at_active c = Some (spot_for p c)

  pub says_ready-holds : (P Q : Point) (name : Who) (part : Part) (end : QueueEnd) → Places P Q name part at_active
      → Leads (Holds P) (Holds Q) (says_ready p part name end)
  unfolding says_ready Ends
  says_ready-holds P Q name part end places = record {
    runs = λ w said h.
        holds-put P Q name part at_active (line.Ready name (active p (task_of w name)) end (deadline_shown p (task_of w name))) w said
        (ap (λ b. cond b (Some (Some (active p (task_of w name), deadline_shown p (task_of w name)))) None) (same_self name))
        (λ n apart. ap (λ b. cond b (Some (Some (active p (task_of w name), deadline_shown p (task_of w name)))) None) apart) places h;
  }

  granted-core : (b : Bool) (n : ℕ) (t : Task) → core (cond b (record t { quantum = n }) t) ≡ core t
  granted-core true n t = refl
  granted-core false n t = refl

  grant-keeps : (P : Point) (name : Who) → Keeps (Holds P) (changes (grant_quantum p name))
  grant-keeps P name =
      changes-leads (grant_quantum p name) (λ w said h. holds-same P w (grant_quantum p name w) said
      (edit_task-same name (granted p w.quanta) w
      (λ t. granted-core (eqb (active p t) t.base && is_robin_level p t.base) (slice_index_or w.quanta t.base 0) t)) h)

  pub to_tail-holds : (P Q : Point) (name : Who) (part : Part) → Places P Q name part at_active → Leads (Holds P) (Holds Q) (to_tail p part name)
  unfolding to_tail
  to_tail-holds P Q name part places = then-leads (changes (grant_quantum p name)) _ (grant-keeps P name) (says_ready-holds P Q name part Tail places)

  pub to_head-holds : (P Q : Point) (name : Who) (part : Part) → Places P Q name part at_active → Leads (Holds P) (Holds Q) (to_head p part name)
  unfolding to_head
  to_head-holds P Q name part places = says_ready-holds P Q name part Head places

  -- Who becomes ready: between the change of its state and its line something holds of it.
  pub record Readies (P Q : Point) (name : Who) (part : Part) : Type 1 where
    pub between : ℕ → Core → Option (Part × Option Spot) → Type 0
    pub others : (d : ℕ) (n : Who) (c : Core) (l : Option (Part × Option Spot)) → same_who n name ≡ false → P d n c l → Q d n c l
    pub own : (d : ℕ) (t : Task) (l : Option (Part × Option Spot)) → P d name (core t) l → between d (core (with_state Runnable t)) l
    pub missed : (d : ℕ) (l : Option (Part × Option Spot)) → is_agent name ≡ false → P d name (core nobody) l → between d (core nobody) l
    pub keeps : (d : ℕ) (t : Task) (l : Option (Part × Option Spot)) (level : Option ℕ) → (is_agent name ≡ false → same_who name t.who ≡ true)
        → between d (core t) l → between d (core (record t { kept_level = level })) l
    pub places : (d : ℕ) (c : Core) (l : Option (Part × Option Spot)) → between d c l → Q d name c (with_put l part (Some (Some (spot_for p c))))

  module _ (P Q : Point) (name : Who) (part : Part) (readies : Readies P Q name part) where
    Between : Point
    Between d n c l = (same_who n name ≡ false → Q d n c l) × (same_who n name ≡ true → readies.between d c l)

    first-turn : Turns P Between name (with_state Runnable)
    unfolding Between
    first-turn = record {
      others = λ d n c l apart h. ((λ e. readies.others d n c l apart h), (λ same. absurd (let clash : false ≡ true = sym apart ∙ same in cc)));
      own = λ d t l named h. ((λ apart. absurd (let clash : true ≡ false = sym (same_self name) ∙ apart in cc)), (λ same. readies.own d t l h));
      missed = λ d l task h. ((λ apart. absurd (let clash : true ≡ false = sym (same_self name) ∙ apart in cc)), (λ same. readies.missed d l task h));
    }

    keep-turn : (level : Task → Option ℕ) → Turns Between Between name (λ t. record t { kept_level = level t })
    unfolding Between
    keep-turn level = record {
      others = λ d n c l apart h. h;
      own = λ d t l named h. (
        (λ apart. absurd (let clash : true ≡ false = sym (same_self name) ∙ apart in cc)),
        (λ same. readies.keeps d t l (level t) named (h.1 same)),
      );
      missed = λ d l task h. h;
    }

    last-place : Places Between Q name part at_active
    unfolding Between
    last-place = record {
      others = λ d n c l apart h. h.0 apart;
      own = λ d c l h. readies.places d c l (h.1 (same_self name));
    }

    pub ready-holds : Leads (Holds P) (Holds Q) (ready p part name)
    unfolding ready
    ready-holds =
        then-leads (changes (edit_task name (with_state Runnable))) _
        (changes-leads (edit_task name (with_state Runnable))
        (λ w said h. holds-edit P Between name (with_state Runnable) w said (λ t. refl)
        (sound-edit name (with_state Runnable) w (λ t. refl) (λ t k. k) (holds-sound P w said h)) first-turn h))
        (then-leads (changes (keep_level p name)) _ (changes-leads (keep_level p name) (λ w said h.
        let level : Task → Option ℕ = λ t. level_kept_by p w t (edf_low p t.base) in
        holds-edit Between Between name (λ t. record t { kept_level = level t }) w said (λ t. refl)
        (sound-edit name (λ t. record t { kept_level = level t }) w (λ t. refl) (λ t k. k) (holds-sound Between w said h)) (keep-turn level) h))
        (to_tail-holds Between Q name part last-place))
