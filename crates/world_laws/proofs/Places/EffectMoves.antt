-- What each step by which priorities and deadlines change or somebody wakes makes of places.
use Rattle.world_laws.proofs.Places.ActiveLemmas.{edit-part, active-falls, inherit-rises, lose-falls}
use Rattle.world_laws.proofs.Places.CorePoints.{Holds, IsAt, Knowing, Places, Point, Readies, Turns, active_in, at_active, core-plain}
use Rattle.world_laws.proofs.Places.CorePoints.{holds-also, holds-edit, holds-knowing, holds-of, holds-sound, holds_quiet, keeps_says}
use Rattle.world_laws.proofs.Places.CorePoints.{not-absent, ready-holds, spot_for, state-kept, to_head-holds, to_tail-holds}
use Rattle.world_laws.proofs.Places.SoundWorlds.{IsAbsent, Sound, known, sound-edit}
use Rattle.world_laws.proofs.Places.Standing.{Acting, AtLevel, Bare, Choosing, Dying, Ending, First, Fits, Gone, Good, IsCalm, IsShown}
use Rattle.world_laws.proofs.Places.Standing.{IsShownRightly, IsUnmade, Last, Later, Loose, Owes, Owing, Resting, Since, Undated, acting-placed}
use Rattle.world_laws.proofs.Places.Standing.{asleep-hidden, at-out, at-still, awake, deadline-kept, fits_limit, limit, limit-actor}
use Rattle.world_laws.proofs.Places.Standing.{nobody-runs, nobody-sleeps, place, placed-good, runs_in, shown-free, sleeps_in, woken-good}
use Rattle.world_laws.proofs.Places.Puts.{Spot, last_put, spot_in, with_put}
use Rattle.world_laws.proofs.Places.ActingMoves.{OfOthers}
use Rattle.world_laws.proofs.Places.CoreLemmas.{core-same}
use Rattle.world_laws.proofs.Places.Kept.Priorities.{reprioritize_own-keeps, says_deadline-keeps}
use Rattle.ceiling_laws.proofs.Fine.Kept.Tasks.{edit_task-alters}
use Rattle.ceiling_laws.proofs.Fine.LevelMoves.{BaseMoves}
use Rattle.ceiling_laws.proofs.Runs.Triples.{At, Keeps, Leads, State, With, branch-leads, changes-keeps, changes-leads, from-leads, from_at}
use Rattle.ceiling_laws.proofs.Runs.Triples.{looks-keeps, looks-leads, looks-with, nothing-keeps, nothing-leads, then-keeps, then-leads, when-keeps}
use Rattle.ceiling_laws.proofs.Fine.Cores.{Core, Same, core}
use Rattle.profile_machine.specs.Dispatching.{active_of, ready, to_head, to_tail}
use Rattle.profile_machine.specs.Frames.{in_protected}
use Rattle.profile_machine.specs.Inheritance.{falls, inherit, inherit_running, lose, lose_running, rises, same_cause}
use Rattle.profile_machine.specs.Masters.{part_of, waits_at_terminate}
use Rattle.profile_machine.specs.Priorities.{defer_base, defer_deadline, is_runnable_at_edf, placing_of, replace_in, reprioritize_own, says_base, says_deadline}
use Rattle.profile_machine.specs.Priorities.{set_base, set_deadline, set_deferred, set_or_defer_base, set_or_defer_deadline, take_base, take_deadline}
use Rattle.profile_image.specs.Program.{has_edf, is_edf_level}
use Rattle.profile_machine.specs.Scopes.{end_scope}
use Rattle.profile_machine.specs.Steps.{Step, changes, when}
use Rattle.profile_machine.specs.Tasking.{fall_from}
use Rattle.profile_machine.specs.Tasks.{edit_task, is_made_state, is_runnable_state, nobody, task_of, waiting_in}
use Rattle.profile_image.specs.Words.{same_who, without}
use Rattle.profile_image.specs.declared.image.Image.{Image}
use Rattle.profile_machine.specs.declared.world.World.{World}
use Rattle.profile_machine.specs.declared.world.lines.Line.TheVariants as line
use Rattle.profile_machine.specs.declared.world.lines.Part.{Part}
use Rattle.profile_machine.specs.declared.world.lines.Part.TheVariants.{ThePlacing}
use Rattle.profile_machine.specs.declared.world.lines.Said.{Said}
use Rattle.profile_machine.specs.declared.world.tasks.Cause.{Cause}
use Rattle.profile_machine.specs.declared.world.tasks.Cause.TheVariants as inherited_by
use Rattle.profile_machine.specs.declared.world.tasks.Inherited.{Inherited}
use Rattle.profile_machine.specs.declared.world.tasks.Placed.{Placed}
use Rattle.profile_machine.specs.declared.world.tasks.State as tasks
use Rattle.profile_machine.specs.declared.world.tasks.State.TheVariants.{Blocked, Made, Runnable}
use Rattle.profile_machine.specs.declared.world.tasks.Task.{Task}
use Rattle.std.proofs.Common.{ap, arith, inl, inr, le_antisymm, le_refl, le_trans, ltb, refl, subst, sym, ◌&&◌, ◌∙◌, ◌∷◌, ◌≡◌, ◌≤◌, ◌⊎◌}
use Rattle.std.specs.Bool.{then_some}
use Rattle.std.specs.Prelude.{Bool, List, None, Option, Some, false, not, true, ℕ, ℤ}
use Rattle.trace_text.specs.declared.events.Who.{Who}
use Rattle.trace_text.specs.declared.events.Who.TheVariants as who
use Rattle.ceiling_laws.proofs.Places.SoundWorlds.{Unactivated, is_agent, is_fresh, unactivated_without}
use Rattle.ceiling_laws.proofs.Runs.Kept.Waking.{who-is}
use Rattle.ceiling_laws.proofs.Runs.LevelMoves.{Fitting, is_blocked}
use Rattle.ceiling_laws.proofs.Places.EffectMoves.{Sleeping_in, clash_of}
use Rattle.ceiling_laws.proofs.Places.PartOrder.{by_test}
use Rattle.ceiling_laws.proofs.Places.Standing.{apart-sym}
use Rattle.line_laws.proofs.Leaving.TaskLemmas.{same_self}

-- by who sleeps and inherits a priority, and by who wakes
pub record Wakeful (p : Image) (Parts : Fitting) (P : Point) : Type 0 where
  pub rises : (d : ℕ) (n : Who) (t : Task) (l : Last) (i : Inherited) → (is_agent n ≡ false → same_who n t.who ≡ true) → sleeps_in (core t) ≡ true
      → P d n (core t) l → P d n (core (record t { inherited = i ∷ t.inherited })) l
  pub wakes : (part : Part) (d : ℕ) (n : Who) (c e : Core) (l : Last) → Parts part n → is_fresh d n ≡ false → sleeps_in c ≡ true → runs_in e ≡ true → P d n c l
      → P d n e (with_put l part (Some (Some (spot_for p e))))

pub made-asleep : {P : Type 0} (state : tasks.State) → is_made_state state ≡ true → is_blocked state ≡ true → P
made-asleep Made made sleeps = absurd cc
made-asleep Runnable made sleeps = absurd cc
made-asleep (Blocked waiting) made sleeps = absurd cc

module _ {p : Image} {Parts : Fitting} (P : Point) (wakeful : Wakeful p Parts P) where
  pub Dozing : Who → Point
  Dozing name = Knowing P name (λ d c. sleeps_in c ≡ true)

  pub inherit-turns : (name : Who) (cause : Cause) (level : ℕ)
      → Turns (Dozing name) P name (λ t. record t { inherited = record { cause = cause; level = level } ∷ t.inherited })
  unfolding Dozing
  inherit-turns name cause level = record {
    others = λ d n c l apart h. h.0;
    own = λ d t l named h. wakeful.rises d name t l (record { cause = cause; level = level }) named (h.1 (same_self name)) h.0;
    missed = λ d l task h. h.0;
  }

  dozing : (name : Who) (w : World) (said : List Said) → Sleeping_in w name → Holds P w said → Holds (Dozing name) w said
  unfolding Dozing
  dozing name w said sleeps h = holds-knowing P name (λ d c. sleeps_in c ≡ true) w said sleeps h

  pub inherit-sound : (name : Who) (cause : Cause) (level : ℕ) (w : World) → same_cause inherited_by.Activation cause ≡ false → Sound w
      → Sound (inherit name cause level w)
  inherit-sound name cause level w other h =
      sound-edit name (λ t. record t { inherited = record { cause = cause; level = level } ∷ t.inherited }) w (λ t. refl) (λ t k. (other, k)) h

  -- it wakes where it fits, in a world in which it is there
  pub Waking : Who → Point
  Waking name = Knowing P name (λ d c. (is_fresh d name ≡ false) × (sleeps_in c ≡ true))

  record Woken (name : Who) (d : ℕ) (c : Core) (l : Last) : Type 0 where
    before : Core
    held : P d name before l
    slept : sleeps_in before ≡ true
    drawn : is_fresh d name ≡ false
    runs : runs_in c ≡ true

  pub waking : (name : Who) (part : Part) → Parts part name → Readies p (Waking name) P name part
  unfolding Waking
  waking name part fits = record {
    between = Woken name;
    others = λ d n c l apart h. h.0;
    own = λ d t l h. record { before = core t; held = h.0; slept = (h.1 (same_self name)).1; drawn = (h.1 (same_self name)).0; runs = refl };
    missed = λ d l task h. nobody-sleeps (h.1 (same_self name)).1;
    keeps = λ d t l level named h. record { before = h.before; held = h.held; slept = h.slept; drawn = h.drawn; runs = h.runs };
    places = λ d c l h. wakeful.wakes part d name h.before c l fits h.drawn h.slept h.runs h.held;
  }

  pub known-asleep : (name : Who) (w : World) → Sleeping_in w name → IsAbsent name (core (task_of w name)) ⊎ (is_fresh w.drawn.tasks name ≡ false)
      → is_fresh w.drawn.tasks name ≡ false
  known-asleep name w sleeps (inl absent) = nobody-sleeps (subst (λ c. sleeps_in c ≡ true) absent.1 sleeps)
  known-asleep name w sleeps (inr drawn) = drawn

  pub wakes-holds : (part : Part) (name : Who) → Parts part name → Leads (With (Holds P) (λ w. Sleeping_in w name)) (Holds P) (ready p part name)
  unfolding Waking
  wakes-holds part name fits =
      from-leads (ready p part name)
      (λ w said h. holds-knowing P name (λ d c. (is_fresh d name ≡ false) × (sleeps_in c ≡ true)) w said
      (known-asleep name w h.1 (known w name (holds-sound P w said h.0)), h.1) h.0)
      (ready-holds p (Waking name) P name part (waking name part fits))

  pub sleeps-on : (a b : World) (name : Who) → Same a b → Sleeping_in a name → Sleeping_in b name
  sleeps-on a b name same h = ap (λ (c : Core). is_blocked c.state) (core-same a b name same) ∙ h

  pub sleeps-heir : (heir : Who) (cause : Cause) (level : ℕ) (w : World) (name : Who) → Sleeping_in w name → Sleeping_in (inherit heir cause level w) name
  sleeps-heir heir cause level w name h =
      ap is_blocked (state-kept heir (λ t. record t { inherited = record { cause = cause; level = level } ∷ t.inherited }) w name (λ t. refl) (λ t. refl)) ∙ h

  pub base_moves : BaseMoves p Parts Sleeping_in (Holds P)
  base_moves = record {
    quiet = holds_quiet P;
    inherits =
        λ name cause level w said other sleeps h. holds-edit (Dozing name) P name _ w said (λ t. refl)
        (inherit-sound name cause level w other (holds-sound P w said h)) (inherit-turns name cause level) (dozing name w said sleeps h);
    sleeps = λ w name e. e;
    sleeps_on = sleeps-on;
    sleeps_behind = λ id w name e. ap (λ (c : Core). is_blocked c.state) (core-plain w (end_scope id w) name refl refl) ∙ e;
    sleeps_heir = sleeps-heir;
    wakes = λ part name fits. wakes-holds part name fits;
  }

-- ---- what is known of who was found stays known of it

module _ (p : Image) (s : List Placed) (a : Who) where
  abbrev pub Named : Who → Task → Type 0
  Named n t = is_agent n ≡ false → same_who n t.who ≡ true

  pub shown-kept : (n : Who) (t : Task) (e : Core) (l : Last) → Named n t → e.state ≡ t.state → IsShownRightly p s a n (core t) l → IsShownRightly p s a n e l
  shown-kept n t e l named same (inl runs) = inl (ap is_runnable_state same ∙ runs)
  shown-kept n t e l named same (inr (inl hidden)) = inr (inl hidden)
  shown-kept n t e l named same (inr (inr absent)) = not-absent n t (λ u. u) named refl absent

  pub ready-kept : (n : Who) (c e : Core) (l : Last) → e.state ≡ c.state → (runs_in c ≡ true → IsShown p s a n l) → runs_in e ≡ true → IsShown p s a n l
  ready-kept n c e l same ready runs = ready (ap is_runnable_state (sym same) ∙ runs)

  pub calm-kept : (n : Who) (c e : Core) (l : Last) → e.state ≡ c.state → IsCalm p s a n c l → IsCalm p s a n e l
  calm-kept n c e l same calm apart = ((calm apart).0, λ sleeps. (calm apart).1 (ap is_blocked (sym same) ∙ sleeps))

  pub good-kept : (d : ℕ) (n : Who) (t : Task) (e : Core) (l : Last) → Named n t → e.state ≡ t.state → IsAt p (place p s a n l) e → Good p s a d n (core t) l
      → Good p s a d n e l
  good-kept d n t e l named same at h = record {
    late = h.late;
    at = at;
    shown = shown-kept n t e l named same h.shown;
    fresh = h.fresh;
    ready = ready-kept n (core t) e l same h.ready;
    calm = calm-kept n (core t) e l same h.calm;
  }

  pub acting-kept : (d : ℕ) (n : Who) (c e : Core) (l : Last) → e.state ≡ c.state → Acting p s a d n c l → Acting p s a d n e l
  acting-kept d n c e l same h = (h.0, ap is_runnable_state same ∙ h.1)

  pub later-kept : (d : ℕ) (n : Who) (t : Task) (e : Core) (l : Last) → Named n t → e.state ≡ t.state → IsAt p (place p s a n l) e → Later p s a d n (core t) l
      → Later p s a d n e l
  later-kept d n t e l named same at h = (good-kept d n t e l named same at h.0, λ is. acting-kept d n (core t) e l same (h.1 is))

  -- who sleeps stands nowhere, so its level may be any
  pub asleep-at : (n : Who) (c e : Core) (l : Last) → IsShownRightly p s a n c l → sleeps_in c ≡ true → IsAt p (place p s a n l) e
  asleep-at n c e l shown sleeps = at-out p (place p s a n l) e (asleep-hidden p s a n c l shown sleeps)

  -- somebody who is absent neither runs nor sleeps
  pub nobody-acts : {P : Type 0} (l : Last) → runs_in (core nobody) ≡ true → P
  nobody-acts l runs = nobody-runs runs

  -- ---- each mode is kept by who wakes

  pub good-rises : (d : ℕ) (n : Who) (t : Task) (l : Last) (i : Inherited) → Named n t → sleeps_in (core t) ≡ true → Good p s a d n (core t) l
      → Good p s a d n (core (record t { inherited = i ∷ t.inherited })) l
  good-rises d n t l i named sleeps h =
      let e : Core = core (record t { inherited = i ∷ t.inherited }) in
      good-kept d n t e l named refl (asleep-at n (core t) e l h.shown sleeps) h

  pub later-rises : (d : ℕ) (n : Who) (t : Task) (l : Last) (i : Inherited) → Named n t → sleeps_in (core t) ≡ true → Later p s a d n (core t) l
      → Later p s a d n (core (record t { inherited = i ∷ t.inherited })) l
  later-rises d n t l i named sleeps h =
      let e : Core = core (record t { inherited = i ∷ t.inherited }) in
      later-kept d n t e l named refl (asleep-at n (core t) e l h.0.shown sleeps) h

  pub good-wakes : (part : Part) (d : ℕ) (n : Who) (c e : Core) (l : Last) → Fits p s a part n → same_who n a ≡ false → is_fresh d n ≡ false
      → sleeps_in c ≡ true → runs_in e ≡ true → Good p s a d n c l → Good p s a d n e (with_put l part (Some (Some (spot_for p e))))
  good-wakes part d n c e l fits apart drawn sleeps runs h = woken-good p s a d n c e l part fits apart drawn sleeps runs h

  -- who acts runs, so who wakes is another
  other-wakes : (d : ℕ) (n : Who) (c : Core) (l : Last) → sleeps_in c ≡ true → (same_who n a ≡ true → Acting p s a d n c l) → same_who n a ≡ false
  other-wakes d n c l sleeps acting = by_test (same_who n a) (λ same. awake c (acting same).1 sleeps) (λ apart. apart)

  pub later-wakes : (part : Part) (d : ℕ) (n : Who) (c e : Core) (l : Last) → Fits p s a part n → is_fresh d n ≡ false → sleeps_in c ≡ true → runs_in e ≡ true
      → Later p s a d n c l → Later p s a d n e (with_put l part (Some (Some (spot_for p e))))
  later-wakes part d n c e l fits drawn sleeps runs h = (
    good-wakes part d n c e l fits (other-wakes d n c l sleeps h.1) drawn sleeps runs h.0,
    λ is. (drawn, runs),
  )

  pub good_wakeful : Wakeful p (OfOthers a (Fits p s a)) (Good p s a)
  good_wakeful = record {
    rises = good-rises;
    wakes = λ part d n c e l fits drawn sleeps runs h. good-wakes part d n c e l fits.0 (apart-sym a n fits.1) drawn sleeps runs h;
  }

  pub gone_wakeful : Wakeful p (Fits p s a) (Gone p s a)
  gone_wakeful = record {
    rises = λ d n t l i named sleeps h. (good-rises d n t l i named sleeps h.0, h.1);
    wakes = λ part d n c e l fits drawn sleeps runs h.
        let apart : same_who n a ≡ false = by_test (same_who n a) (λ same. clash_of (sleeps_in c) sleeps (h.1 same)) (λ other. other) in
        (good-wakes part d n c e l fits apart drawn sleeps runs h.0, λ same. clash_of (same_who n a) same apart);
  }

  pub later_wakeful : Wakeful p (Fits p s a) (Later p s a)
  later_wakeful = record { rises = later-rises; wakes = later-wakes }

  pub owing_wakeful : (before : World) → Wakeful p (Fits p s a) (Owing p s a before)
  owing_wakeful before = record {
    rises = λ d n t l i named sleeps h. ((λ apart. good-rises d n t l i named sleeps (h.0 apart)), (λ same. awake (core t) (h.1 same).acting.1 sleeps));
    wakes = λ part d n c e l fits drawn sleeps runs h. (
      (λ apart. good-wakes part d n c e l fits apart drawn sleeps runs (h.0 apart)),
      (λ same. awake c (h.1 same).acting.1 sleeps),
    );
  }

  pub since_wakeful : (v : World) (rest : List Task) → Wakeful p (Fits p s a) (Since p s a v rest)
  since_wakeful v rest = record {
    rises = λ d n t l i named sleeps h. (later-rises d n t l i named sleeps h.0, h.1, h.2, h.3);
    wakes = λ part d n c e l fits drawn sleeps runs h. (
      later-wakes part d n c e l fits drawn sleeps runs h.0,
      h.1,
      (λ slept. awake e runs slept),
      (λ among. made-asleep c.state (h.3 among) sleeps),
    );
  }

  -- who has ended does not sleep
  pub ended-apart : (v : World) (name n : Who) → is_blocked (task_of v n).state ≡ true → IsUnmade p s a v name → same_who n name ≡ false
  ended-apart v name n sleeps made =
      by_test (same_who n name)
      (λ same. absurd (let clash : false ≡ true = sym made.unblocked ∙ ap (λ m. is_blocked (task_of v m).state) (sym (who-is n name same)) ∙ sleeps in cc))
      (λ apart. apart)

  pub ending_wakeful : (v : World) (rest : List Task) (name : Who) → Wakeful p (Fits p s a) (Ending p s a v rest name)
  ending_wakeful v rest name = record {
    rises = λ d n t l i named sleeps h. ((later-rises d n t l i named sleeps h.0.0, h.0.1, h.0.2, h.0.3), h.1, h.2);
    wakes = λ part d n c e l fits drawn sleeps runs h. (
      (later-wakes part d n c e l fits drawn sleeps runs h.0.0, h.0.1, (λ slept. awake e runs slept), (λ among. made-asleep c.state (h.0.3 among) sleeps)),
      (λ same. clash_of (same_who n name) same (ended-apart v name n (h.0.2 sleeps) h.2)),
      h.2,
    );
  }

  pub dying_wakeful : Wakeful p (Fits p s a) (Dying p s a)
  dying_wakeful = record {
    rises = λ d n t l i named sleeps h. ((λ apart. good-rises d n t l i named sleeps (h.0 apart)), (λ same. awake (core t) (h.1 same).runs sleeps));
    wakes = λ part d n c e l fits drawn sleeps runs h. (
      (λ apart. good-wakes part d n c e l fits apart drawn sleeps runs (h.0 apart)),
      (λ same. awake c (h.1 same).runs sleeps),
    );
  }

  -- ---- modes that lead to others

  pub starts_later : (w : World) (said : List Said) → Holds (First p s a) w said → Holds (Later p s a) w said
  starts_later w said h = holds-also (First p s a) (Later p s a) (λ d n c l k. (k.0, λ same. ((k.1 same).0, (k.1 same).1))) w said h

  running_rests : (state : tasks.State) → is_runnable_state state ≡ true → waits_at_terminate (waiting_in state) ≡ false
  running_rests Made runs = absurd cc
  running_rests Runnable runs = refl
  running_rests (Blocked waiting) runs = absurd cc

  pub ceases_resting : (w : World) (said : List Said) → Holds (Later p s a) w said → Holds (Resting p s a) w said
  ceases_resting w said h = holds-also (Later p s a) (Resting p s a) (λ d n c l k. (k.0, λ same. running_rests c.state (k.1 same).1)) w said h

  awake_rests : (state : tasks.State) → is_blocked state ≡ false → waits_at_terminate (waiting_in state) ≡ false
  awake_rests Made idle = refl
  awake_rests Runnable idle = refl
  awake_rests (Blocked waiting) idle = absurd cc

  pub ended_resting : (w : World) (said : List Said) → Holds (Gone p s a) w said → Holds (Resting p s a) w said
  ended_resting w said h = holds-also (Gone p s a) (Resting p s a) (λ d n c l k. (k.0, λ same. awake_rests c.state (k.1 same))) w said h

  pub good-choosing : (d : ℕ) (n : Who) (c : Core) (l : Last) → (same_who n a ≡ true → waits_at_terminate (waiting_in c.state) ≡ false) → Good p s a d n c l
      → Choosing p s a d n c l
  good-choosing d n c l rests h = record {
    late = h.late;
    at = h.at;
    shown = inl h.shown;
    fresh = h.fresh;
    ready = h.ready;
    calm = h.calm;
    waits = λ same waits. clash_of (waits_at_terminate (waiting_in c.state)) waits (rests same);
  }

  pub rests_choosing : (w : World) (said : List Said) → Holds (Resting p s a) w said → Holds (Choosing p s a) w said
  rests_choosing w said h = holds-also (Resting p s a) (Choosing p s a) (λ d n c l k. good-choosing d n c l k.1 k.0) w said h

  -- ---- who is edited or placed is somebody, and others are as they were

  pub self_apart : {P : Type 0} (n : Who) → same_who n n ≡ false → P
  self_apart n apart = clash_of (same_who n n) (same_self n) apart

  pub keeps_turns : (P : Point) (name : Who) (f : Task → Task) → ((d : ℕ) (t : Task) (l : Last) → Named name t → P d name (core t) l → P d name (core (f t)) l)
      → Turns P P name f
  keeps_turns P name f own = record { others = λ d n c l apart h. h; own = own; missed = λ d l task h. h }

  -- an edit of what decides no level and no deadline
  pub later-edits : (name : Who) (f : Task → Task) → ((t : Task) → (f t).who ≡ t.who) → ((t : Task) → (f t).state ≡ t.state)
      → ((t : Task) → active_in p (core (f t)) ≡ active_in p (core t)) → ((t : Task) → (f t).deadline ≡ t.deadline)
      → ((t : Task) → (f t).inherited ≡ t.inherited) → Keeps (Holds (Later p s a)) (changes (edit_task name f))
  later-edits name f named same level deadline inherited =
      changes-leads (edit_task name f)
      (λ w said h. holds-edit (Later p s a) (Later p s a) name f w said named
      (sound-edit name f w named (λ t k. subst Unactivated (sym (inherited t)) k) (holds-sound (Later p s a) w said h))
      (keeps_turns (Later p s a) name f
      (λ d t l is k. later-kept d name t (core (f t)) l is (same t)
      (at-still p (place p s a name l) (core t) (core (f t)) (level t) (deadline-kept p (core t) (core (f t)) (level t) (deadline t)) k.0.at) k)) h)

  -- ---- who acts is placed at its active priority

  pub actor_places : Places (Loose p s a a) (Later p s a) a ThePlacing (at_active p)
  actor_places = record {
    others = λ d n c l apart h. h.0 apart;
    own =
        λ d c l h. let b = h.1 (same_self a) in
        acting-placed p s a d a c l ThePlacing (same_self a) refl b.late (b.ready (b.acting (same_self a)).1) (b.acting (same_self a));
  }

  pub later-bare : (d : ℕ) (n : Who) (c : Core) (l : Last) → Later p s a d n c l → Bare p s a d n c l
  later-bare d n c l h = record {
    late = h.0.late;
    shown = h.0.shown;
    fresh = h.0.fresh;
    absent = λ e. h.0.at;
    acting = h.1;
    ready = h.0.ready;
    calm = h.0.calm;
  }

  pub loosened : (name : Who) (w : World) (said : List Said) → Holds (Later p s a) w said → Holds (Loose p s a name) w said
  loosened name w said h = holds-also (Later p s a) (Loose p s a name) (λ d n c l k. ((λ apart. k), (λ same. later-bare d n c l k))) w said h

  pub tails_later : Keeps (Holds (Later p s a)) (to_tail p ThePlacing a)
  tails_later = from-leads (to_tail p ThePlacing a) (loosened a) (to_tail-holds p (Loose p s a a) (Later p s a) a ThePlacing actor_places)

  -- ---- a level is set or lost

  pub loose_turns : (name : Who) (f : Task → Task) → ((t : Task) → (f t).who ≡ t.who) → ((t : Task) → (f t).state ≡ t.state)
      → Turns (Later p s a) (Loose p s a name) name f
  loose_turns name f named same = record {
    others = λ d n c l apart h. ((λ e. h), (λ is. clash_of (same_who n name) is apart));
    own = λ d t l is h. (
      (λ apart. self_apart name apart),
      (λ self. record {
        late = h.0.late;
        shown = shown-kept name t (core (f t)) l is (same t) h.0.shown;
        fresh = h.0.fresh;
        absent = λ absent. not-absent name t f is (named t) absent;
        acting = λ acts. acting-kept d name (core t) (core (f t)) l (same t) (h.1 acts);
        ready = ready-kept name (core t) (core (f t)) l (same t) h.0.ready;
        calm = calm-kept name (core t) (core (f t)) l (same t) h.0.calm;
      }),
    );
    missed = λ d l task h. ((λ apart. self_apart name apart), (λ self. later-bare d name (core nobody) l h));
  }

  pub loosens : (name : Who) (f : Task → Task) (w : World) (said : List Said) → ((t : Task) → (f t).who ≡ t.who) → ((t : Task) → (f t).state ≡ t.state)
      → ((t : Task) → Unactivated t.inherited → Unactivated (f t).inherited) → Holds (Later p s a) w said → Holds (Loose p s a name) (edit_task name f w) said
  loosens name f w said named same frees h =
      holds-edit (Later p s a) (Loose p s a name) name f w said named (sound-edit name f w named frees (holds-sound (Later p s a) w said h))
      (loose_turns name f named same) h

  pub tight : (d : ℕ) (n : Who) (c : Core) (l : Last) → Bare p s a d n c l → IsAt p (place p s a n l) c → Later p s a d n c l
  tight d n c l b at = (record { late = b.late; at = at; shown = b.shown; fresh = b.fresh; ready = b.ready; calm = b.calm }, b.acting)

  pub tightened : (name : Who) (w : World) (said : List Said) → Holds (Loose p s a name) w said
      → IsAt p (place p s a name (last_put name said)) (core (task_of w name)) → Holds (Later p s a) w said
  unfolding Holds
  tightened name w said h at = (
    h.0,
    λ n. by_test (same_who n name)
        (λ same. subst (λ m. Later p s a w.drawn.tasks m (core (task_of w m)) (last_put m said)) (sym (who-is n name same))
        (tight w.drawn.tasks name (core (task_of w name)) (last_put name said) ((h.1 name).1 (same_self name)) at))
        (λ apart. (h.1 n).0 apart),
  )

  -- who is not ready is placed nowhere, so its level may be any
  pub unready-at : (d : ℕ) (n : Who) (c : Core) (l : Last) → runs_in c ≡ false → IsShownRightly p s a n c l → (IsAbsent n c → IsAt p (place p s a n l) c)
      → IsAt p (place p s a n l) c
  unready-at d n c l idle (inl runs) absent = clash_of (runs_in c) runs idle
  unready-at d n c l idle (inr (inl hidden)) absent = at-out p (place p s a n l) c hidden
  unready-at d n c l idle (inr (inr gone)) absent = absent gone

  pub unready : (name : Who) (w : World) (said : List Said) → runs_in (core (task_of w name)) ≡ false → Holds (Loose p s a name) w said
      → Holds (Later p s a) w said
  unready name w said idle h =
      let b = (holds-of (Loose p s a name) w said name h).1 (same_self name) in
      tightened name w said h (unready-at w.drawn.tasks name (core (task_of w name)) (last_put name said) idle b.shown b.absent)

  -- who is ready is placed in the last part that fits
  pub Ready : Who → Point
  Ready name = Knowing (Loose p s a name) name (λ d c. (runs_in c ≡ true) × (is_fresh d name ≡ false))

  pub ready_places : (name : Who) → Places (Ready name) (Later p s a) name (limit p s a name) (at_active p)
  unfolding Ready
  ready_places name = record {
    others = λ d n c l apart h. h.0.0 apart;
    own = λ d c l h.
        let b = h.0.1 (same_self name) in
        let k = h.1 (same_self name) in (
          placed-good p s a d name c l (limit p s a name) (fits_limit p s a name) k.1 b.late
              (shown-free (limit p s a name) l (spot_in name s) b.late (b.ready k.0)) (inl k.0) (λ apart. (b.calm apart).0),
          λ acts. (k.1, k.0),
        );
  }

  pub runs-drawn : (name : Who) (w : World) → runs_in (core (task_of w name)) ≡ true
      → IsAbsent name (core (task_of w name)) ⊎ (is_fresh w.drawn.tasks name ≡ false) → is_fresh w.drawn.tasks name ≡ false
  runs-drawn name w runs (inl absent) = nobody-runs (subst (λ c. runs_in c ≡ true) absent.1 runs)
  runs-drawn name w runs (inr drawn) = drawn

  pub is_ready : (name : Who) (w : World) (said : List Said) → runs_in (core (task_of w name)) ≡ true → Holds (Loose p s a name) w said
      → Holds (Ready name) w said
  unfolding Ready
  is_ready name w said runs h =
      holds-knowing (Loose p s a name) name (λ d c. (runs_in c ≡ true) × (is_fresh d name ≡ false)) w said
      (runs, runs-drawn name w runs (known w name (holds-sound (Loose p s a name) w said h))) h

  pub ready_tails : (name : Who)
      → Leads (With (Holds (Loose p s a name)) (λ w. runs_in (core (task_of w name)) ≡ true)) (Holds (Later p s a)) (to_tail p (limit p s a name) name)
  ready_tails name =
      from-leads (to_tail p (limit p s a name) name) (λ w said h. is_ready name w said h.1 h.0)
      (to_tail-holds p (Ready name) (Later p s a) name (limit p s a name) (ready_places name))

  pub at_state : (name : Who) (v w : World) (state : tasks.State) → (task_of v name).state ≡ state → w ≡ v → (task_of w name).state ≡ state
  at_state name v w state is same = ap (λ u. (task_of u name).state) same ∙ is

  pub replaced : (name : Who) (v : World) (state : tasks.State) → (task_of v name).state ≡ state
      → Leads (At (Holds (Loose p s a name)) v) (Holds (Later p s a)) (replace_in p (limit p s a name) name state)
  unfolding replace_in
  replaced name v Made is = nothing-leads (λ w said h. unready name w said (ap is_runnable_state (at_state name v w Made is h.1)) h.0)
  replaced name v Runnable is =
      from-leads (to_tail p (limit p s a name) name) (λ w said h. (h.0, ap is_runnable_state (at_state name v w Runnable is h.1))) (ready_tails name)
  replaced name v (Blocked waiting) is =
      from-leads (reprioritize_own p name waiting) (λ w said h. unready name w said (ap is_runnable_state (at_state name v w (Blocked waiting) is h.1)) h.0)
      (reprioritize_own-keeps (holds_quiet (Later p s a)) p name waiting)

  pub says_base-keeps : (P : Point) (part : Part) (name : Who) (level : ℕ) → Keeps (Holds P) (says_base part name level)
  unfolding says_base
  says_base-keeps P part (who.Task t) level = keeps_says P part (line.Base t level) (λ n. refl)
  says_base-keeps P part who.Agent level = nothing-keeps

  pub base_set : (part : Part) (name : Who) (level : ℕ) → Keeps (Holds (Later p s a)) (set_base p part (limit p s a name) name level)
  unfolding set_base
  base_set part name level =
      then-leads (changes (edit_task name (λ t. record t { base = level }))) _
      (changes-leads (edit_task name (λ t. record t { base = level }))
      (λ w said h. loosens name (λ t. record t { base = level }) w said (λ t. refl) (λ t. refl) (λ t k. k) h))
      (then-leads (says_base part name level) _ (says_base-keeps (Loose p s a name) part name level)
      (looks-with _ (λ v said h. replaced name v (task_of v name).state refl)))

  pub base_set_or_deferred : (name : Who) (level : ℕ) → Keeps (Holds (Later p s a)) (set_or_defer_base p a name level)
  unfolding set_or_defer_base defer_base
  base_set_or_deferred name level =
      looks-leads _
      (λ w. branch-leads (in_protected w name) (changes (edit_task name (λ t. record t { deferred_base = Some level })))
      (set_base p (part_of a name) (placing_of a name) name level)
      (later-edits name (λ t. record t { deferred_base = Some level }) (λ t. refl) (λ t. refl) (λ t. refl) (λ t. refl) (λ t. refl))
      (base_set (part_of a name) name level))

  pub when-tested : {X Y : State} (b : Bool) (step : Step) → (b ≡ true → Leads X Y step) → (b ≡ false → (w : World) (said : List Said) → X w said → Y w said)
      → Leads X Y (when b step)
  when-tested true step acts keeps = acts refl
  when-tested false step acts keeps = nothing-leads (keeps refl)

  -- its deadline is set, and where it is ready on an EDF level it is placed anew
  pub at_level : (place : Option Spot) (c e : Core) → active_in p e ≡ active_in p c → IsAt p place c → AtLevel p s a place e
  at_level None c e same h = tt
  at_level (Some x) c e same h = (h.0 ∙ sym same, λ none. h.1 ∙ ap (λ b. then_some b c.deadline) (ap (is_edf_level p) (sym same) ∙ none))

  pub level_at : (place : Option Spot) (c : Core) → is_edf_level p (active_in p c) ≡ false → AtLevel p s a place c → IsAt p place c
  level_at None c none h = tt
  level_at (Some x) c none h = (h.0, h.1 none ∙ sym (ap (λ b. then_some b c.deadline) none))

  pub dated_turns : (name : Who) (deadline : ℤ) → Turns (Later p s a) (Undated p s a name) name (λ t. record t { deadline = deadline })
  dated_turns name deadline = record {
    others = λ d n c l apart h. ((λ e. h), (λ is. clash_of (same_who n name) is apart));
    own = λ d t l is h. (
      (λ apart. self_apart name apart),
      (λ self. (
        record {
          late = h.0.late;
          shown = shown-kept name t (core (record t { deadline = deadline })) l is refl h.0.shown;
          fresh = h.0.fresh;
          absent = λ absent. not-absent name t (λ u. record u { deadline = deadline }) is refl absent;
          acting = λ acts. acting-kept d name (core t) (core (record t { deadline = deadline })) l refl (h.1 acts);
          ready = h.0.ready;
          calm = h.0.calm;
        },
        at_level (place p s a name l) (core t) (core (record t { deadline = deadline })) refl h.0.at,
      )),
    );
    missed = λ d l task h. (
      (λ apart. self_apart name apart),
      (λ self. (later-bare d name (core nobody) l h, at_level (place p s a name l) (core nobody) (core nobody) refl h.0.at)),
    );
  }

  pub dates : (name : Who) (deadline : ℤ)
      → Leads (Holds (Later p s a)) (Holds (Undated p s a name)) (changes (edit_task name (λ t. record t { deadline = deadline })))
  dates name deadline =
      changes-leads (edit_task name (λ t. record t { deadline = deadline }))
      (λ w said h. holds-edit (Later p s a) (Undated p s a name) name (λ t. record t { deadline = deadline }) w said (λ t. refl)
      (sound-edit name (λ t. record t { deadline = deadline }) w (λ t. refl) (λ t k. k) (holds-sound (Later p s a) w said h)) (dated_turns name deadline) h)

  pub undated_loose : (name : Who) (w : World) (said : List Said) → Holds (Undated p s a name) w said → Holds (Loose p s a name) w said
  undated_loose name w said h = holds-also (Undated p s a name) (Loose p s a name) (λ d n c l k. (k.0, λ same. (k.1 same).0)) w said h

  pub dated_level : (name : Who) (w : World) (said : List Said) → Holds (Undated p s a name) w said
      → AtLevel p s a (place p s a name (last_put name said)) (core (task_of w name))
  dated_level name w said h = ((holds-of (Undated p s a name) w said name h).1 (same_self name)).1

  pub dated_unready : (name : Who) (v : World) (state : tasks.State) → (task_of v name).state ≡ state → is_runnable_state state ≡ false
      → (w : World) (said : List Said) → At (Holds (Undated p s a name)) v w said → Holds (Later p s a) w said
  dated_unready name v state is idle w said h =
      unready name w said (ap is_runnable_state (at_state name v w state is h.1) ∙ idle) (undated_loose name w said h.0)

  pub replaced_dated : (name : Who) (v : World) (state : tasks.State) → (task_of v name).state ≡ state
      → Leads (At (Holds (Undated p s a name)) v) (Holds (Later p s a)) (when (is_runnable_at_edf p v name state) (to_tail p (limit p s a name) name))
  replaced_dated name v Made is = nothing-leads (dated_unready name v Made is refl)
  replaced_dated name v (Blocked waiting) is = nothing-leads (dated_unready name v (Blocked waiting) is refl)
  replaced_dated name v Runnable is =
      when-tested (is_edf_level p (active_of p v name)) (to_tail p (limit p s a name) name)
      (λ edf. from-leads (to_tail p (limit p s a name) name)
      (λ w said h. (undated_loose name w said h.0, ap is_runnable_state (at_state name v w Runnable is h.1))) (ready_tails name))
      (λ none w said h. tightened name w said (undated_loose name w said h.0)
      (level_at (place p s a name (last_put name said)) (core (task_of w name)) (ap (λ u. is_edf_level p (active_of p u name)) h.1 ∙ none)
      (dated_level name w said h.0)))

  pub deadline_set : (part : Part) (name : Who) (deadline : ℤ) → Keeps (Holds (Later p s a)) (set_deadline p part (limit p s a name) name deadline)
  unfolding set_deadline
  deadline_set part name deadline =
      then-leads (changes (edit_task name (λ t. record t { deadline = deadline }))) _ (dates name deadline)
      (then-leads (says_deadline part name deadline) _ (says_deadline-keeps (holds_quiet (Undated p s a name)) part name deadline)
      (looks-with _ (λ v said h. replaced_dated name v (task_of v name).state refl)))

  pub deadline_set_or_deferred : (name : Who) (deadline : ℤ) → Keeps (Holds (Later p s a)) (set_or_defer_deadline p a name deadline)
  unfolding set_or_defer_deadline defer_deadline
  deadline_set_or_deferred name deadline =
      looks-leads _
      (λ w. branch-leads (in_protected w name && has_edf p) (changes (edit_task name (λ t. record t { deferred_deadline = Some deadline })))
      (set_deadline p (part_of a name) (placing_of a name) name deadline)
      (changes-keeps _ (edit_task-alters (holds_quiet (Later p s a)) name (λ t. record t { deferred_deadline = Some deadline }) (λ t. refl)))
      (deadline_set (part_of a name) name deadline))

  -- what was deferred is set behind an action
  pub base_set_placing : (level : ℕ) → Keeps (Holds (Later p s a)) (set_base p ThePlacing ThePlacing a level)
  base_set_placing level =
      subst (λ part. Keeps (Holds (Later p s a)) (set_base p ThePlacing part a level)) (limit-actor p s a a (same_self a)) (base_set ThePlacing a level)

  pub deadline_set_placing : (deadline : ℤ) → Keeps (Holds (Later p s a)) (set_deadline p ThePlacing ThePlacing a deadline)
  deadline_set_placing deadline =
      subst (λ part. Keeps (Holds (Later p s a)) (set_deadline p ThePlacing part a deadline)) (limit-actor p s a a (same_self a))
      (deadline_set ThePlacing a deadline)

  pub base_taken : (deferred : Option ℕ) → Keeps (Holds (Later p s a)) (take_base p a deferred)
  unfolding take_base
  base_taken None = nothing-keeps
  base_taken (Some level) =
      then-keeps (changes (edit_task a (λ t. record t { deferred_base = None }))) _
      (later-edits a (λ t. record t { deferred_base = None }) (λ t. refl) (λ t. refl) (λ t. refl) (λ t. refl) (λ t. refl)) (base_set_placing level)

  pub deadline_taken : (deferred : Option ℤ) → Keeps (Holds (Later p s a)) (take_deadline p a deferred)
  unfolding take_deadline
  deadline_taken None = nothing-keeps
  deadline_taken (Some deadline) =
      then-keeps (changes (edit_task a (λ t. record t { deferred_deadline = None }))) _
      (changes-keeps _ (edit_task-alters (holds_quiet (Later p s a)) a (λ t. record t { deferred_deadline = None }) (λ t. refl)))
      (deadline_set_placing deadline)

  pub deferred_set : Keeps (Holds (Later p s a)) (set_deferred p a)
  unfolding set_deferred
  deferred_set =
      looks-keeps _
      (λ w. when-keeps (not (in_protected w a)) _
      (then-keeps (take_base p a (task_of w a).deferred_base) _ (base_taken (task_of w a).deferred_base) (deadline_taken (task_of w a).deferred_deadline)))

  -- ---- who acts loses a priority

  pub stays_at : (place : Option Spot) (c e : Core) → active_in p e ≤ active_in p c → active_in p c ≤ active_in p e → e.deadline ≡ c.deadline → IsAt p place c
      → IsAt p place e
  stays_at place c e down up deadline h =
      let level : active_in p e ≡ active_in p c = le_antisymm down up in
      at-still p place c e level (deadline-kept p c e level deadline) h

  pub Lost : World → Cause → State
  Lost v cause w said = Holds (Loose p s a a) w said × (w ≡ lose a cause v) × IsAt p (place p s a a (last_put a said)) (core (task_of v a))

  pub not_less : (x y : ℕ) → ltb x y ≡ false → y ≤ x
  not_less x y e = grind arith

  pub lost_first : (v : World) (cause : Cause) → Leads (At (Holds (Later p s a)) v) (Lost v cause) (changes (lose a cause))
  unfolding Lost
  lost_first v cause =
      changes-leads (lose a cause) (λ w said h. (
        loosens a (λ t. record t { inherited = without (λ i. same_cause cause i.cause) t.inherited }) w said (λ t. refl) (λ t. refl)
            (λ t k. unactivated_without (λ i. same_cause cause i.cause) t.inherited k) h.0,
        ap (lose a cause) h.1,
        subst (λ u. IsAt p (place p s a a (last_put a said)) (core (task_of u a))) h.1 (holds-of (Later p s a) w said a h.0).0.at,
      ))

  pub lost_then : (v : World) (cause : Cause) → Leads (Lost v cause) (Holds (Later p s a)) (when (falls p a v (lose a cause v)) (to_head p ThePlacing a))
  unfolding Lost
  lost_then v cause =
      when-tested (falls p a v (lose a cause v)) (to_head p ThePlacing a)
      (λ is. from-leads (to_head p ThePlacing a) (λ w said h. h.0) (to_head-holds p (Loose p s a a) (Later p s a) a ThePlacing actor_places))
      (λ is w said h. tightened a w said h.0
      (subst (λ u. IsAt p (place p s a a (last_put a said)) (core (task_of u a))) (sym h.1)
      (stays_at (place p s a a (last_put a said)) (core (task_of v a)) (core (task_of (lose a cause v) a)) (lose-falls p a cause v)
      (not_less (active_of p (lose a cause v) a) (active_of p v a) is)
      (edit-part (λ c. c.deadline) a (λ t. record t { inherited = without (λ i. same_cause cause i.cause) t.inherited }) v (λ t. refl) (λ t. refl)) h.2)))

  pub lost_later : (cause : Cause) → Keeps (Holds (Later p s a)) (lose_running p a cause)
  unfolding lose_running
  lost_later cause = looks-with _ (λ v said h. then-leads (changes (lose a cause)) _ (lost_first v cause) (lost_then v cause))

  -- ---- who acts inherits a priority

  pub Gained : World → Cause → ℕ → State
  Gained v cause level w said = Holds (Loose p s a a) w said × (w ≡ inherit a cause level v) × IsAt p (place p s a a (last_put a said)) (core (task_of v a))

  pub gained_first : (v : World) (cause : Cause) (level : ℕ) → same_cause inherited_by.Activation cause ≡ false
      → Leads (At (Holds (Later p s a)) v) (Gained v cause level) (changes (inherit a cause level))
  unfolding Gained
  gained_first v cause level other =
      changes-leads (inherit a cause level) (λ w said h. (
        loosens a (λ t. record t { inherited = record { cause = cause; level = level } ∷ t.inherited }) w said (λ t. refl) (λ t. refl) (λ t k. (other, k)) h.0,
        ap (inherit a cause level) h.1,
        subst (λ u. IsAt p (place p s a a (last_put a said)) (core (task_of u a))) h.1 (holds-of (Later p s a) w said a h.0).0.at,
      ))

  pub gained_then : (v : World) (cause : Cause) (level : ℕ)
      → Leads (Gained v cause level) (Holds (Later p s a)) (when (rises p a v (inherit a cause level v)) (to_head p ThePlacing a))
  unfolding Gained
  gained_then v cause level =
      when-tested (rises p a v (inherit a cause level v)) (to_head p ThePlacing a)
      (λ is. from-leads (to_head p ThePlacing a) (λ w said h. h.0) (to_head-holds p (Loose p s a a) (Later p s a) a ThePlacing actor_places))
      (λ is w said h. tightened a w said h.0
      (subst (λ u. IsAt p (place p s a a (last_put a said)) (core (task_of u a))) (sym h.1)
      (stays_at (place p s a a (last_put a said)) (core (task_of v a)) (core (task_of (inherit a cause level v) a))
      (not_less (active_of p v a) (active_of p (inherit a cause level v) a) is) (inherit-rises p a cause level v)
      (edit-part (λ c. c.deadline) a (λ t. record t { inherited = record { cause = cause; level = level } ∷ t.inherited }) v (λ t. refl) (λ t. refl)) h.2)))

  pub gained_later : (cause : Cause) (level : ℕ) → same_cause inherited_by.Activation cause ≡ false
      → Keeps (Holds (Later p s a)) (inherit_running p a cause level)
  unfolding inherit_running
  gained_later cause level other =
      looks-with _ (λ v said h. then-leads (changes (inherit a cause level)) _ (gained_first v cause level other) (gained_then v cause level))

  -- ---- it owes a line since a world

  pub owes_since : (w : World) (said : List Said) → Holds (Later p s a) w said → Holds (Owing p s a w) w said
  unfolding Holds
  owes_since w said h = (
    h.0,
    λ n. (
      (λ apart. (h.1 n).0),
      (λ same. record {
        late = (h.1 n).0.late;
        at = subst (λ m. IsAt p (place p s a n (last_put n said)) (core (task_of w m))) (who-is n a same) (h.1 n).0.at;
        fallen =
            subst (λ m. (active_of p w n ≤ active_of p w m) × ((task_of w n).deadline ≡ (task_of w m).deadline)) (who-is n a same) (
              le_refl (active_of p w n),
              refl,
            );
        acting = (h.1 n).1 same;
        ready = (h.1 n).0.ready ((h.1 n).1 same).1;
      }),
    ),
  )

  owed-fallen : (before : World) (t : Task) (test : Inherited → Bool)
      → (active_in p (core t) ≤ active_of p before a) × (t.deadline ≡ (task_of before a).deadline)
      → (active_in p (core (record t { inherited = without test t.inherited })) ≤ active_of p before a) × (t.deadline ≡ (task_of before a).deadline)
  owed-fallen before t test fell = (le_trans (active-falls p (core t) test) fell.0, fell.1)

  pub owed_loses : (before w : World) (said : List Said) → Holds (Owing p s a before) w said
      → Holds (Owing p s a before) (lose a inherited_by.Activation w) said
  owed_loses before w said h =
      let f : Task → Task = λ t. record t { inherited = without (λ i. same_cause inherited_by.Activation i.cause) t.inherited } in
      holds-edit (Owing p s a before) (Owing p s a before) a f w said (λ t. refl)
      (sound-edit a f w (λ t. refl) (λ t k. unactivated_without (λ i. same_cause inherited_by.Activation i.cause) t.inherited k)
      (holds-sound (Owing p s a before) w said h))
      (keeps_turns (Owing p s a before) a f (λ d t l named k. (
        (λ apart. self_apart a apart),
        (λ same. let o = k.1 same in
            record {
              late = o.late;
              at = o.at;
              fallen = owed-fallen before t (λ i. same_cause inherited_by.Activation i.cause) o.fallen;
              acting = acting-kept d a (core t) (core (f t)) l refl o.acting;
              ready = o.ready;
            }),
      ))) h

  pub paid_places : (before : World) → Places (Owing p s a before) (Later p s a) a ThePlacing (at_active p)
  paid_places before = record {
    others = λ d n c l apart h. (h.0 apart, λ same. clash_of (same_who n a) same apart);
    own = λ d c l h. let o = h.1 (same_self a) in acting-placed p s a d a c l ThePlacing (same_self a) refl o.late o.ready o.acting;
  }

  pub owed-at : (before : World) (n : Who) (c : Core) (l : Last) → active_of p before a ≤ active_in p c
      → (active_in p c ≤ active_of p before a) × (c.deadline ≡ (task_of before a).deadline) → IsAt p (place p s a n l) (core (task_of before a))
      → IsAt p (place p s a n l) c
  owed-at before n c l up fell h =
      let level : active_in p c ≡ active_of p before a = le_antisymm fell.0 up in
      at-still p (place p s a n l) (core (task_of before a)) c level (deadline-kept p (core (task_of before a)) c level fell.1) h

  pub owed-later : (before : World) (d : ℕ) (n : Who) (c : Core) (l : Last) → same_who n a ≡ true → Owes p s a before d n c l
      → active_of p before a ≤ active_in p c → Later p s a d n c l
  owed-later before d n c l is o up = (
    record {
      late = o.late;
      at = owed-at before n c l up o.fallen o.at;
      shown = inl o.acting.1;
      fresh = λ e. clash_of (is_fresh d n) e o.acting.0;
      ready = λ runs. o.ready;
      calm = λ apart. clash_of (same_who n a) is apart;
    },
    λ same. o.acting,
  )

  pub not_fallen : (before w : World) (said : List Said) → active_of p before a ≤ active_of p w a → Holds (Owing p s a before) w said
      → Holds (Later p s a) w said
  unfolding Holds
  not_fallen before w said up h = (
    h.0,
    λ n. by_test (same_who n a)
        (λ same. owed-later before w.drawn.tasks n (core (task_of w n)) (last_put n said) same ((h.1 n).1 same)
        (subst (λ m. active_of p before a ≤ active_of p w m) (sym (who-is n a same)) up))
        (λ apart. ((h.1 n).0 apart, λ same. clash_of (same_who n a) same apart)),
  )

  pub paid : (before : World) → Leads (Holds (Owing p s a before)) (Holds (Later p s a)) (fall_from p a before)
  unfolding fall_from
  paid before =
      looks-with _ (λ v said h. when-tested (falls p a before v) (to_head p ThePlacing a)
      (λ is. from_at (to_head p ThePlacing a) (to_head-holds p (Owing p s a before) (Later p s a) a ThePlacing (paid_places before)))
      (λ is w more k.
      not_fallen before w more (subst (λ u. active_of p before a ≤ active_of p u a) (sym k.1) (not_less (active_of p v a) (active_of p before a) is)) k.0))
