-- What each step of an effect makes of places: all that an effect keeps.
use Rattle.ceiling_laws.proofs.Places.ActingLemmas.{at_most-risen}
use Rattle.ceiling_laws.proofs.Places.CorePoints.{Holds, Knowing, Places, Point, Readies, Turns, active_in, at_active, core-plain}
use Rattle.ceiling_laws.proofs.Places.CorePoints.{holds-also, holds-edit, holds-knowing, holds-of, holds-sound, holds_quiet}
use Rattle.ceiling_laws.proofs.Places.CorePoints.{keeps_says, not-absent, ready-holds, state-kept, to_head-holds, to_tail-holds}
use Rattle.ceiling_laws.proofs.Places.SoundWorlds.{IsAbsent, Sound, Unactivated, is_agent, is_fresh, known, sound-edit, unactivated_without}
use Rattle.ceiling_laws.proofs.Places.Standing.{Acting, Bare, Choosing, Dying, Ending, First, Fits, Good, Hidden, IsShownRightly, IsUnmade, Last, Later}
use Rattle.ceiling_laws.proofs.Places.Standing.{Loose, Owes, Owing, Since, acting-placed, acts_early, at_most-out, awake, blocked-put, fits_limit}
use Rattle.ceiling_laws.proofs.Places.Standing.{limit, limit-actor, nobody-runs, nobody-sleeps, place, placed-good, runs_in, sleeps_in, woken-good}
use Rattle.ceiling_laws.specs.PlaceLaws.{IsAtMost}
use Rattle.ceiling_laws.specs.Puts.{last_put, with_put}
use Rattle.ceiling_laws.proofs.Runs.CoreLemmas.{core-same}
use Rattle.ceiling_laws.proofs.Runs.Kept.Priorities.{reprioritize_own-keeps, says_deadline-keeps}
use Rattle.ceiling_laws.proofs.Runs.Kept.Tasks.{edit_task-alters}
use Rattle.ceiling_laws.proofs.Runs.Kept.Waking.{who-is}
use Rattle.ceiling_laws.proofs.Runs.LevelMoves.{BaseMoves, Fitting, Sleeping, is_blocked}
use Rattle.ceiling_laws.proofs.Runs.Triples.{At, Keeps, Leads, State, With, branch-leads, changes-keeps, changes-leads, from-leads, from_at, looks-keeps}
use Rattle.ceiling_laws.proofs.Runs.Triples.{looks-leads, looks-with, nothing-keeps, nothing-leads, then-keeps, then-leads, when-keeps, when-leads}
use Rattle.ceiling_laws.proofs.Places.PartOrder.{by_test}
use Rattle.ceiling_laws.specs.Cores.{Core, Same, core}
use Rattle.profile_machine.specs.Dispatching.{active_of, ready, to_head, to_tail}
use Rattle.profile_machine.specs.Frames.{in_protected}
use Rattle.profile_machine.specs.Inheritance.{falls, inherit, lose, lose_running, same_cause}
use Rattle.profile_machine.specs.Masters.{part_of}
use Rattle.profile_machine.specs.Priorities.{defer_base, defer_deadline, is_runnable_at_edf, placing_of, replace_in, reprioritize_own, says_base, says_deadline}
use Rattle.profile_machine.specs.Priorities.{set_base, set_deadline, set_deferred, set_or_defer_base, set_or_defer_deadline, take_base, take_deadline}
use Rattle.profile_image.specs.Program.{has_edf}
use Rattle.profile_machine.specs.Scopes.{end_scope}
use Rattle.profile_machine.specs.Steps.{Step, changes, says, when}
use Rattle.profile_machine.specs.Tasking.{fall_from}
use Rattle.profile_machine.specs.Tasks.{edit_task, is_runnable_state, nobody, task_of}
use Rattle.profile_image.specs.Words.{same_who, without}
use Rattle.profile_image.specs.declared.image.Image.{Image}
use Rattle.profile_machine.specs.declared.world.World.{World}
use Rattle.profile_machine.specs.declared.world.lines.Line.TheVariants as line
use Rattle.profile_machine.specs.declared.world.lines.Part.{Part}
use Rattle.profile_machine.specs.declared.world.lines.Part.TheVariants.{Own, TheBlock, ThePlacing}
use Rattle.profile_machine.specs.declared.world.lines.Said.{Said}
use Rattle.profile_machine.specs.declared.world.tasks.Cause.{Cause}
use Rattle.profile_machine.specs.declared.world.tasks.Cause.TheVariants as inherited_by
use Rattle.profile_machine.specs.declared.world.tasks.Inherited.{Inherited}
use Rattle.profile_machine.specs.declared.world.tasks.State as tasks
use Rattle.profile_machine.specs.declared.world.tasks.State.TheVariants.{Blocked, Made, Runnable}
use Rattle.profile_machine.specs.declared.world.tasks.Task.{Task}
use Rattle.std.proofs.Common.{ap, arith, inl, inr, ltb, refl, subst, sym, ◌&&◌, ◌∙◌, ◌∷◌, ◌≡◌, ◌≤◌, ◌⊎◌}
use Rattle.std.proofs.Math.Nat.{le-max_right}
use Rattle.std.specs.Prelude.{Bool, List, None, Option, Some, false, not, true, ℕ, ℤ}
use Rattle.trace_text.specs.Laws.{Levels}
use Rattle.trace_text.specs.declared.events.Who.{Who}
use Rattle.trace_text.specs.declared.events.Who.TheVariants as who
use Rattle.line_laws.proofs.Leaving.TaskLemmas.{same_self}
use Rattle.ceiling_laws.proofs.Runs.ActingMoves.{Either, later-leads}
use Rattle.profile_machine.specs.Protected.{find_held}
use Rattle.ann_base.specs.declared.identities.ObjectNo.{ObjectNo}
use Rattle.trace_text.specs.declared.events.Mode.{Mode}

abbrev pub Sleeping_in : Sleeping
Sleeping_in w name = is_blocked (task_of w name).state ≡ true

-- by a priority that is inherited, and by who wakes
pub record Wakeful (p : Image) (Parts : Fitting) (P : Point) : Type 0 where
  pub rises : (d : ℕ) (n : Who) (t : Task) (l : Last) (i : Inherited) → (is_agent n ≡ false → same_who n t.who ≡ true) → P d n (core t) l
      → P d n (core (record t { inherited = i ∷ t.inherited })) l
  pub wakes : (part : Part) (d : ℕ) (n : Who) (c e : Core) (l : Last) → Parts part n → is_fresh d n ≡ false → sleeps_in c ≡ true → runs_in e ≡ true → P d n c l
      → P d n e (with_put l part (Some (Some (active_in p e))))

pub active-rises : (p : Image) (c : Core) (i : Inherited) → active_in p c ≤ active_in p (record c { inherited = i ∷ c.inherited })
active-rises p c i = le-max_right i.level (active_in p c)

pub clash_of : {P : Type 0} (b : Bool) → b ≡ true → b ≡ false → P
clash_of b is apart = absurd (let clash : true ≡ false = sym is ∙ apart in cc)

module _ {p : Image} {Parts : Fitting} (P : Point) (wakeful : Wakeful p Parts P) where
  pub inherit-turns : (name : Who) (cause : Cause) (level : ℕ)
      → Turns P P name (λ t. record t { inherited = record { cause = cause; level = level } ∷ t.inherited })
  inherit-turns name cause level = record {
    others = λ d n c l apart h. h;
    own = λ d t l named h. wakeful.rises d name t l (record { cause = cause; level = level }) named h;
    missed = λ d l task h. h;
  }

  pub inherit-sound : (name : Who) (cause : Cause) (level : ℕ) (w : World) → same_cause inherited_by.Activation cause ≡ false → Sound w
      → Sound (inherit name cause level w)
  inherit-sound name cause level w other h =
      sound-edit name (λ t. record t { inherited = record { cause = cause; level = level } ∷ t.inherited }) w (λ t. refl) (λ t k. (other, k)) h

  -- it wakes where it fits, in a world in which it is there
  pub Waking : Who → Point
  Waking name = Knowing P name (λ d c. (is_fresh d name ≡ false) × (sleeps_in c ≡ true))

  record Woken (name : Who) (d : ℕ) (c : Core) (l : Last) : Type 0 where
    before : Core
    held : P d name before l
    slept : sleeps_in before ≡ true
    drawn : is_fresh d name ≡ false
    runs : runs_in c ≡ true

  pub waking : (name : Who) (part : Part) → Parts part name → Readies p (Waking name) P name part
  unfolding Waking
  waking name part fits = record {
    between = Woken name;
    others = λ d n c l apart h. h.0;
    own = λ d t l h. record { before = core t; held = h.0; slept = (h.1 (same_self name)).1; drawn = (h.1 (same_self name)).0; runs = refl };
    missed = λ d l task h. nobody-sleeps (h.1 (same_self name)).1;
    keeps = λ d t l level named h. record { before = h.before; held = h.held; slept = h.slept; drawn = h.drawn; runs = h.runs };
    places = λ d c l h. wakeful.wakes part d name h.before c l fits h.drawn h.slept h.runs h.held;
  }

  pub known-asleep : (name : Who) (w : World) → Sleeping_in w name → IsAbsent name (core (task_of w name)) ⊎ (is_fresh w.drawn.tasks name ≡ false)
      → is_fresh w.drawn.tasks name ≡ false
  known-asleep name w sleeps (inl absent) = nobody-sleeps (subst (λ c. sleeps_in c ≡ true) absent.1 sleeps)
  known-asleep name w sleeps (inr drawn) = drawn

  pub wakes-holds : (part : Part) (name : Who) → Parts part name → Leads (With (Holds P) (λ w. Sleeping_in w name)) (Holds P) (ready p part name)
  unfolding Waking
  wakes-holds part name fits =
      from-leads (ready p part name)
      (λ w said h. holds-knowing P name (λ d c. (is_fresh d name ≡ false) × (sleeps_in c ≡ true)) w said
      (known-asleep name w h.1 (known w name (holds-sound P w said h.0)), h.1) h.0)
      (ready-holds p (Waking name) P name part (waking name part fits))

  pub sleeps-on : (a b : World) (name : Who) → Same a b → Sleeping_in a name → Sleeping_in b name
  sleeps-on a b name same h = ap (λ (c : Core). is_blocked c.state) (core-same a b name same) ∙ h

  pub sleeps-heir : (heir : Who) (cause : Cause) (level : ℕ) (w : World) (name : Who) → Sleeping_in w name → Sleeping_in (inherit heir cause level w) name
  sleeps-heir heir cause level w name h =
      ap is_blocked (state-kept heir (λ t. record t { inherited = record { cause = cause; level = level } ∷ t.inherited }) w name (λ t. refl) (λ t. refl)) ∙ h

  pub base_moves : BaseMoves p Parts Sleeping_in (Holds P)
  base_moves = record {
    quiet = holds_quiet P;
    inherits =
        λ name cause level w said other h.
        holds-edit P P name _ w said (λ t. refl) (inherit-sound name cause level w other (holds-sound P w said h)) (inherit-turns name cause level) h;
    sleeps = λ w name e. e;
    sleeps_on = sleeps-on;
    sleeps_behind = λ id w name e. ap (λ (c : Core). is_blocked c.state) (core-plain w (end_scope id w) name refl refl) ∙ e;
    sleeps_heir = sleeps-heir;
    wakes = λ part name fits. wakes-holds part name fits;
  }

-- ---- what is known of who was found stays known of it

module _ (p : Image) (s : Levels) (a : Who) where
  abbrev pub Named : Who → Task → Type 0
  Named n t = is_agent n ≡ false → same_who n t.who ≡ true

  pub shown-kept : (n : Who) (t : Task) (e : Core) (l : Last) → Named n t → e.state ≡ t.state → IsShownRightly p s a n (core t) l → IsShownRightly p s a n e l
  shown-kept n t e l named same (inl runs) = inl (ap is_runnable_state same ∙ runs)
  shown-kept n t e l named same (inr (inl hidden)) = inr (inl hidden)
  shown-kept n t e l named same (inr (inr absent)) = not-absent n t (λ u. u) named refl absent

  pub good-kept : (d : ℕ) (n : Who) (t : Task) (e : Core) (l : Last) → Named n t → e.state ≡ t.state → IsAtMost (place p s a n l) (active_in p e)
      → Good p s a d n (core t) l → Good p s a d n e l
  good-kept d n t e l named same low h = record { late = h.late; low = low; shown = shown-kept n t e l named same h.shown; fresh = h.fresh }

  pub runs_or_blocked : (c e : Core) (l : Last) → e.state ≡ c.state → (runs_in c ≡ true) ⊎ ((sleeps_in c ≡ true) × (l ≡ Some (TheBlock, None)))
      → (runs_in e ≡ true) ⊎ ((sleeps_in e ≡ true) × (l ≡ Some (TheBlock, None)))
  runs_or_blocked c e l same (inl runs) = inl (ap is_runnable_state same ∙ runs)
  runs_or_blocked c e l same (inr sleeps) = inr (ap is_blocked same ∙ sleeps.0, sleeps.1)

  pub acting-kept : (d : ℕ) (n : Who) (c e : Core) (l : Last) → e.state ≡ c.state → Acting p s a d n c l → Acting p s a d n e l
  acting-kept d n c e l same h = (h.0, runs_or_blocked c e l same h.1)

  pub later-kept : (d : ℕ) (n : Who) (t : Task) (e : Core) (l : Last) → Named n t → e.state ≡ t.state → IsAtMost (place p s a n l) (active_in p e)
      → Later p s a d n (core t) l → Later p s a d n e l
  later-kept d n t e l named same low h = (good-kept d n t e l named same low h.0, λ is. acting-kept d n (core t) e l same (h.1 is))

  pub risen-low : (n : Who) (t : Task) (l : Last) (i : Inherited) → IsAtMost (place p s a n l) (active_in p (core t))
      → IsAtMost (place p s a n l) (active_in p (core (record t { inherited = i ∷ t.inherited })))
  risen-low n t l i h =
      at_most-risen (place p s a n l) (active_in p (core t)) (active_in p (core (record t { inherited = i ∷ t.inherited }))) (active-rises p (core t) i) h

  -- somebody who is absent neither runs nor sleeps
  pub nobody-acts : {P : Type 0} (l : Last) → (runs_in (core nobody) ≡ true) ⊎ ((sleeps_in (core nobody) ≡ true) × (l ≡ Some (TheBlock, None))) → P
  nobody-acts l (inl runs) = nobody-runs runs
  nobody-acts l (inr sleeps) = nobody-sleeps sleeps.0

  -- ---- each mode is kept by who wakes

  pub good-rises : (d : ℕ) (n : Who) (t : Task) (l : Last) (i : Inherited) → Named n t → Good p s a d n (core t) l
      → Good p s a d n (core (record t { inherited = i ∷ t.inherited })) l
  good-rises d n t l i named h = good-kept d n t (core (record t { inherited = i ∷ t.inherited })) l named refl (risen-low n t l i h.low) h

  pub later-rises : (d : ℕ) (n : Who) (t : Task) (l : Last) (i : Inherited) → Named n t → Later p s a d n (core t) l
      → Later p s a d n (core (record t { inherited = i ∷ t.inherited })) l
  later-rises d n t l i named h = later-kept d n t (core (record t { inherited = i ∷ t.inherited })) l named refl (risen-low n t l i h.0.low) h

  pub good-wakes : (part : Part) (d : ℕ) (n : Who) (c e : Core) (l : Last) → Fits p s a part n → is_fresh d n ≡ false → sleeps_in c ≡ true → runs_in e ≡ true
      → Good p s a d n c l → Good p s a d n e (with_put l part (Some (Some (active_in p e))))
  good-wakes part d n c e l fits drawn sleeps runs h = woken-good p s a d n c e l part fits drawn sleeps runs h

  pub later-wakes : (part : Part) (d : ℕ) (n : Who) (c e : Core) (l : Last) → Fits p s a part n → is_fresh d n ≡ false → sleeps_in c ≡ true → runs_in e ≡ true
      → Later p s a d n c l → Later p s a d n e (with_put l part (Some (Some (active_in p e))))
  later-wakes part d n c e l fits drawn sleeps runs h = (good-wakes part d n c e l fits drawn sleeps runs h.0, λ is. (drawn, inl runs))

  pub good_wakeful : Wakeful p (Fits p s a) (Good p s a)
  good_wakeful = record { rises = good-rises; wakes = good-wakes }

  pub later_wakeful : Wakeful p (Fits p s a) (Later p s a)
  later_wakeful = record { rises = later-rises; wakes = later-wakes }

  pub owed-wakes : (before : World) (part : Part) (d : ℕ) (n : Who) (c e : Core) (l : Last) → Fits p s a part n → is_fresh d n ≡ false → same_who n a ≡ true
      → sleeps_in c ≡ true → runs_in e ≡ true → (runs_in c ≡ true) ⊎ ((sleeps_in c ≡ true) × (l ≡ Some (TheBlock, None))) → Owes p s a before d n c l
      → Owes p s a before d n e (with_put l part (Some (Some (active_in p e))))
  owed-wakes before part d n c e l fits drawn same sleeps runs (inl runs_before) h = awake c runs_before sleeps
  owed-wakes before part d n c e l fits drawn same sleeps runs (inr hides) h =
      let still : with_put l part (Some (Some (active_in p e))) ≡ l = blocked-put l part (Some (active_in p e)) hides.1 (acts_early p s a n part same fits) in
      subst (Owes p s a before d n e) (sym still) (record { late = h.late; low = h.low; acting = (drawn, inl runs) })

  pub owing_wakeful : (before : World) → Wakeful p (Fits p s a) (Owing p s a before)
  owing_wakeful before = record {
    rises = λ d n t l i named h. (
      (λ apart. good-rises d n t l i named (h.0 apart)),
      (λ same. let o = h.1 same in
          record { late = o.late; low = o.low; acting = acting-kept d n (core t) (core (record t { inherited = i ∷ t.inherited })) l refl o.acting }),
    );
    wakes = λ part d n c e l fits drawn sleeps runs h. (
      (λ apart. good-wakes part d n c e l fits drawn sleeps runs (h.0 apart)),
      (λ same. owed-wakes before part d n c e l fits drawn same sleeps runs (h.1 same).acting.1 (h.1 same)),
    );
  }

  pub since_wakeful : (v : World) → Wakeful p (Fits p s a) (Since p s a v)
  since_wakeful v = record {
    rises = λ d n t l i named h. (later-rises d n t l i named h.0, h.1, h.2);
    wakes = λ part d n c e l fits drawn sleeps runs h. (later-wakes part d n c e l fits drawn sleeps runs h.0, h.1, λ slept. awake e runs slept);
  }

  -- who has ended does not sleep
  pub ended-apart : (v : World) (name n : Who) → is_blocked (task_of v n).state ≡ true → IsUnmade p s a v name → same_who n name ≡ false
  ended-apart v name n sleeps made =
      by_test (same_who n name)
      (λ same. absurd (let clash : false ≡ true = sym made.unblocked ∙ ap (λ m. is_blocked (task_of v m).state) (sym (who-is n name same)) ∙ sleeps in cc))
      (λ apart. apart)

  pub ending_wakeful : (v : World) (name : Who) → Wakeful p (Fits p s a) (Ending p s a v name)
  ending_wakeful v name = record {
    rises = λ d n t l i named h. ((later-rises d n t l i named h.0.0, h.0.1, h.0.2), h.1, h.2);
    wakes = λ part d n c e l fits drawn sleeps runs h. (
      (later-wakes part d n c e l fits drawn sleeps runs h.0.0, h.0.1, λ slept. awake e runs slept),
      (λ same. clash_of (same_who n name) same (ended-apart v name n (h.0.2 sleeps) h.2)),
      h.2,
    );
  }

  pub gone-rises : (d : ℕ) (n : Who) (t : Task) (l : Last) (i : Inherited)
      → Hidden p s a n l ⊎ ((is_agent n ≡ true) × IsAtMost (place p s a n l) (active_in p (core t)))
      → Hidden p s a n l ⊎ ((is_agent n ≡ true) × IsAtMost (place p s a n l) (active_in p (core (record t { inherited = i ∷ t.inherited }))))
  gone-rises d n t l i (inl hidden) = inl hidden
  gone-rises d n t l i (inr (agent)) = inr (agent.0, risen-low n t l i agent.1)

  pub dying_wakeful : Wakeful p (Fits p s a) (Dying p s a)
  dying_wakeful = record {
    rises = λ d n t l i named h. (
      (λ apart. good-rises d n t l i named (h.0 apart)),
      (λ same. let o = h.1 same in record { late = o.late; runs = o.runs; fresh = o.fresh; gone = gone-rises d n t l i o.gone }),
    );
    wakes = λ part d n c e l fits drawn sleeps runs h. (
      (λ apart. good-wakes part d n c e l fits drawn sleeps runs (h.0 apart)),
      (λ same. awake c (h.1 same).runs sleeps),
    );
  }

  -- ---- modes that lead to others

  pub starts_later : (w : World) (said : List Said) → Holds (First p s a) w said → Holds (Later p s a) w said
  starts_later w said h = holds-also (First p s a) (Later p s a) (λ d n c l k. (k.0, λ same. ((k.1 same).0, inl (k.1 same).1))) w said h

  pub ceases_good : (w : World) (said : List Said) → Holds (Later p s a) w said → Holds (Good p s a) w said
  ceases_good w said h = holds-also (Later p s a) (Good p s a) (λ d n c l k. k.0) w said h

  pub good-choosing : (d : ℕ) (n : Who) (c : Core) (l : Last) → Good p s a d n c l → Choosing p s a d n c l
  good-choosing d n c l h = record { late = h.late; low = h.low; shown = inl h.shown; fresh = h.fresh }

  pub rests_choosing : (w : World) (said : List Said) → Holds (Good p s a) w said → Holds (Choosing p s a) w said
  rests_choosing w said h = holds-also (Good p s a) (Choosing p s a) good-choosing w said h

  -- ---- who is edited or placed is somebody, and others are as they were

  pub self_apart : {P : Type 0} (n : Who) → same_who n n ≡ false → P
  self_apart n apart = clash_of (same_who n n) (same_self n) apart

  pub keeps_turns : (P : Point) (name : Who) (f : Task → Task) → ((d : ℕ) (t : Task) (l : Last) → Named name t → P d name (core t) l → P d name (core (f t)) l)
      → Turns P P name f
  keeps_turns P name f own = record { others = λ d n c l apart h. h; own = own; missed = λ d l task h. h }

  -- an edit of what decides no level
  pub later-edits : (name : Who) (f : Task → Task) → ((t : Task) → (f t).who ≡ t.who) → ((t : Task) → (f t).state ≡ t.state)
      → ((t : Task) → active_in p (core (f t)) ≡ active_in p (core t)) → ((t : Task) → (f t).inherited ≡ t.inherited)
      → Keeps (Holds (Later p s a)) (changes (edit_task name f))
  later-edits name f named same level inherited =
      changes-leads (edit_task name f)
      (λ w said h. holds-edit (Later p s a) (Later p s a) name f w said named
      (sound-edit name f w named (λ t k. subst Unactivated (sym (inherited t)) k) (holds-sound (Later p s a) w said h))
      (keeps_turns (Later p s a) name f
      (λ d t l is k. later-kept d name t (core (f t)) l is (same t) (subst (IsAtMost (place p s a name l)) (sym (level t)) k.0.low) k)) h)

  -- ---- who acts is placed at its active priority

  pub actor_places : Places (Loose p s a a) (Later p s a) a ThePlacing (at_active p)
  actor_places = record {
    others = λ d n c l apart h. h.0 apart;
    own = λ d c l h. let b = h.1 (same_self a) in acting-placed p s a d a c l ThePlacing (same_self a) refl b.late (b.acting (same_self a));
  }

  pub later-bare : (d : ℕ) (n : Who) (c : Core) (l : Last) → Later p s a d n c l → Bare p s a d n c l
  later-bare d n c l h = record { late = h.0.late; shown = h.0.shown; fresh = h.0.fresh; absent = λ e. h.0.low; acting = h.1 }

  pub loosened : (name : Who) (w : World) (said : List Said) → Holds (Later p s a) w said → Holds (Loose p s a name) w said
  loosened name w said h = holds-also (Later p s a) (Loose p s a name) (λ d n c l k. ((λ apart. k), (λ same. later-bare d n c l k))) w said h

  pub heads_later : Keeps (Holds (Later p s a)) (to_head p ThePlacing a)
  heads_later = from-leads (to_head p ThePlacing a) (loosened a) (to_head-holds p (Loose p s a a) (Later p s a) a ThePlacing actor_places)

  pub tails_later : Keeps (Holds (Later p s a)) (to_tail p ThePlacing a)
  tails_later = from-leads (to_tail p ThePlacing a) (loosened a) (to_tail-holds p (Loose p s a a) (Later p s a) a ThePlacing actor_places)

  pub held_later : (o : ObjectNo) (mode : Mode) → Leads (Holds (First p s a)) (Either (Holds (Later p s a)) (Holds (Later p s a))) (find_held p a o mode)
  unfolding find_held
  held_later o mode =
      later-leads _ starts_later (then-keeps (says Own (line.Held a o mode)) _ (keeps_says (Later p s a) Own (line.Held a o mode) (λ n. refl)) tails_later)

  -- ---- a level is set or lost

  pub loose_turns : (name : Who) (f : Task → Task) → ((t : Task) → (f t).who ≡ t.who) → ((t : Task) → (f t).state ≡ t.state)
      → Turns (Later p s a) (Loose p s a name) name f
  loose_turns name f named same = record {
    others = λ d n c l apart h. ((λ e. h), (λ is. clash_of (same_who n name) is apart));
    own = λ d t l is h. (
      (λ apart. self_apart name apart),
      (λ self. record {
        late = h.0.late;
        shown = shown-kept name t (core (f t)) l is (same t) h.0.shown;
        fresh = h.0.fresh;
        absent = λ absent. not-absent name t f is (named t) absent;
        acting = λ acts. acting-kept d name (core t) (core (f t)) l (same t) (h.1 acts);
      }),
    );
    missed = λ d l task h. ((λ apart. self_apart name apart), (λ self. later-bare d name (core nobody) l h));
  }

  pub loosens : (name : Who) (f : Task → Task) (w : World) (said : List Said) → ((t : Task) → (f t).who ≡ t.who) → ((t : Task) → (f t).state ≡ t.state)
      → ((t : Task) → Unactivated t.inherited → Unactivated (f t).inherited) → Holds (Later p s a) w said → Holds (Loose p s a name) (edit_task name f w) said
  loosens name f w said named same frees h =
      holds-edit (Later p s a) (Loose p s a name) name f w said named (sound-edit name f w named frees (holds-sound (Later p s a) w said h))
      (loose_turns name f named same) h

  pub tight : (d : ℕ) (n : Who) (c : Core) (l : Last) → Bare p s a d n c l → IsAtMost (place p s a n l) (active_in p c) → Later p s a d n c l
  tight d n c l b low = (record { late = b.late; low = low; shown = b.shown; fresh = b.fresh }, b.acting)

  pub tightened : (name : Who) (w : World) (said : List Said) → Holds (Loose p s a name) w said
      → IsAtMost (place p s a name (last_put name said)) (active_of p w name) → Holds (Later p s a) w said
  unfolding Holds
  tightened name w said h low = (
    h.0,
    λ n. by_test (same_who n name)
        (λ same. subst (λ m. Later p s a w.drawn.tasks m (core (task_of w m)) (last_put m said)) (sym (who-is n name same))
        (tight w.drawn.tasks name (core (task_of w name)) (last_put name said) ((h.1 name).1 (same_self name)) low))
        (λ apart. (h.1 n).0 apart),
  )

  -- who is not ready is placed nowhere, so its level may be any
  pub unready-low : (d : ℕ) (n : Who) (c : Core) (l : Last) → runs_in c ≡ false → IsShownRightly p s a n c l
      → (IsAbsent n c → IsAtMost (place p s a n l) (active_in p c)) → IsAtMost (place p s a n l) (active_in p c)
  unready-low d n c l idle (inl runs) absent = clash_of (runs_in c) runs idle
  unready-low d n c l idle (inr (inl hidden)) absent = at_most-out (place p s a n l) (active_in p c) hidden
  unready-low d n c l idle (inr (inr gone)) absent = absent gone

  pub unready : (name : Who) (w : World) (said : List Said) → runs_in (core (task_of w name)) ≡ false → Holds (Loose p s a name) w said
      → Holds (Later p s a) w said
  unready name w said idle h =
      let b = (holds-of (Loose p s a name) w said name h).1 (same_self name) in
      tightened name w said h (unready-low w.drawn.tasks name (core (task_of w name)) (last_put name said) idle b.shown b.absent)

  -- who is ready is placed in the last part that fits
  pub Ready : Who → Point
  Ready name = Knowing (Loose p s a name) name (λ d c. (runs_in c ≡ true) × (is_fresh d name ≡ false))

  pub ready_places : (name : Who) → Places (Ready name) (Later p s a) name (limit p s a name) (at_active p)
  unfolding Ready
  ready_places name = record {
    others = λ d n c l apart h. h.0.0 apart;
    own = λ d c l h.
        let b = h.0.1 (same_self name) in
        let k = h.1 (same_self name) in
        (placed-good p s a d name c l (limit p s a name) (fits_limit p s a name) k.1 b.late b.late (inl k.0), λ acts. (k.1, inl k.0));
  }

  pub runs-drawn : (name : Who) (w : World) → runs_in (core (task_of w name)) ≡ true
      → IsAbsent name (core (task_of w name)) ⊎ (is_fresh w.drawn.tasks name ≡ false) → is_fresh w.drawn.tasks name ≡ false
  runs-drawn name w runs (inl absent) = nobody-runs (subst (λ c. runs_in c ≡ true) absent.1 runs)
  runs-drawn name w runs (inr drawn) = drawn

  pub is_ready : (name : Who) (w : World) (said : List Said) → runs_in (core (task_of w name)) ≡ true → Holds (Loose p s a name) w said
      → Holds (Ready name) w said
  unfolding Ready
  is_ready name w said runs h =
      holds-knowing (Loose p s a name) name (λ d c. (runs_in c ≡ true) × (is_fresh d name ≡ false)) w said
      (runs, runs-drawn name w runs (known w name (holds-sound (Loose p s a name) w said h))) h

  pub ready_tails : (name : Who)
      → Leads (With (Holds (Loose p s a name)) (λ w. runs_in (core (task_of w name)) ≡ true)) (Holds (Later p s a)) (to_tail p (limit p s a name) name)
  ready_tails name =
      from-leads (to_tail p (limit p s a name) name) (λ w said h. is_ready name w said h.1 h.0)
      (to_tail-holds p (Ready name) (Later p s a) name (limit p s a name) (ready_places name))

  pub at_state : (name : Who) (v w : World) (state : tasks.State) → (task_of v name).state ≡ state → w ≡ v → (task_of w name).state ≡ state
  at_state name v w state is same = ap (λ u. (task_of u name).state) same ∙ is

  pub replaced : (name : Who) (v : World) (state : tasks.State) → (task_of v name).state ≡ state
      → Leads (At (Holds (Loose p s a name)) v) (Holds (Later p s a)) (replace_in p (limit p s a name) name state)
  unfolding replace_in
  replaced name v Made is = nothing-leads (λ w said h. unready name w said (ap is_runnable_state (at_state name v w Made is h.1)) h.0)
  replaced name v Runnable is =
      from-leads (to_tail p (limit p s a name) name) (λ w said h. (h.0, ap is_runnable_state (at_state name v w Runnable is h.1))) (ready_tails name)
  replaced name v (Blocked waiting) is =
      from-leads (reprioritize_own p name waiting) (λ w said h. unready name w said (ap is_runnable_state (at_state name v w (Blocked waiting) is h.1)) h.0)
      (reprioritize_own-keeps (holds_quiet (Later p s a)) p name waiting)

  pub says_base-keeps : (P : Point) (part : Part) (name : Who) (level : ℕ) → Keeps (Holds P) (says_base part name level)
  unfolding says_base
  says_base-keeps P part (who.Task t) level = keeps_says P part (line.Base t level) (λ n. refl)
  says_base-keeps P part who.Agent level = nothing-keeps

  pub base_set : (part : Part) (name : Who) (level : ℕ) → Keeps (Holds (Later p s a)) (set_base p part (limit p s a name) name level)
  unfolding set_base
  base_set part name level =
      then-leads (changes (edit_task name (λ t. record t { base = level }))) _
      (changes-leads (edit_task name (λ t. record t { base = level }))
      (λ w said h. loosens name (λ t. record t { base = level }) w said (λ t. refl) (λ t. refl) (λ t k. k) h))
      (then-leads (says_base part name level) _ (says_base-keeps (Loose p s a name) part name level)
      (looks-with _ (λ v said h. replaced name v (task_of v name).state refl)))

  pub base_set_or_deferred : (name : Who) (level : ℕ) → Keeps (Holds (Later p s a)) (set_or_defer_base p a name level)
  unfolding set_or_defer_base defer_base
  base_set_or_deferred name level =
      looks-leads _
      (λ w. branch-leads (in_protected w name) (changes (edit_task name (λ t. record t { deferred_base = Some level })))
      (set_base p (part_of a name) (placing_of a name) name level)
      (later-edits name (λ t. record t { deferred_base = Some level }) (λ t. refl) (λ t. refl) (λ t. refl) (λ t. refl)) (base_set (part_of a name) name level))

  pub edf-runs : (w : World) (name : Who) (state : tasks.State) → is_runnable_at_edf p w name state ≡ true → is_runnable_state state ≡ true
  edf-runs w name Made e = absurd cc
  edf-runs w name Runnable e = refl
  edf-runs w name (Blocked waiting) e = absurd cc

  pub deadline_set : (part : Part) (name : Who) (deadline : ℤ) → Keeps (Holds (Later p s a)) (set_deadline p part (limit p s a name) name deadline)
  unfolding set_deadline
  deadline_set part name deadline =
      then-leads (changes (edit_task name (λ t. record t { deadline = deadline }))) _
      (changes-keeps _ (edit_task-alters (holds_quiet (Later p s a)) name (λ t. record t { deadline = deadline }) (λ t. refl)))
      (then-leads (says_deadline part name deadline) _ (says_deadline-keeps (holds_quiet (Later p s a)) part name deadline)
      (looks-with _ (λ v said h. when-leads (is_runnable_at_edf p v name (task_of v name).state) _
      (λ is. from-leads (to_tail p (limit p s a name) name)
      (λ w more k. (loosened name w more k.0, ap (λ u. is_runnable_state (task_of u name).state) k.1 ∙ edf-runs v name (task_of v name).state is))
      (ready_tails name))
      (λ w more k. k.0))))

  pub deadline_set_or_deferred : (name : Who) (deadline : ℤ) → Keeps (Holds (Later p s a)) (set_or_defer_deadline p a name deadline)
  unfolding set_or_defer_deadline defer_deadline
  deadline_set_or_deferred name deadline =
      looks-leads _
      (λ w. branch-leads (in_protected w name && has_edf p) (changes (edit_task name (λ t. record t { deferred_deadline = Some deadline })))
      (set_deadline p (part_of a name) (placing_of a name) name deadline)
      (changes-keeps _ (edit_task-alters (holds_quiet (Later p s a)) name (λ t. record t { deferred_deadline = Some deadline }) (λ t. refl)))
      (deadline_set (part_of a name) name deadline))

  -- what was deferred is set behind an action
  pub base_set_placing : (level : ℕ) → Keeps (Holds (Later p s a)) (set_base p ThePlacing ThePlacing a level)
  base_set_placing level =
      subst (λ part. Keeps (Holds (Later p s a)) (set_base p ThePlacing part a level)) (limit-actor p s a a (same_self a)) (base_set ThePlacing a level)

  pub deadline_set_placing : (deadline : ℤ) → Keeps (Holds (Later p s a)) (set_deadline p ThePlacing ThePlacing a deadline)
  deadline_set_placing deadline =
      subst (λ part. Keeps (Holds (Later p s a)) (set_deadline p ThePlacing part a deadline)) (limit-actor p s a a (same_self a))
      (deadline_set ThePlacing a deadline)

  pub base_taken : (deferred : Option ℕ) → Keeps (Holds (Later p s a)) (take_base p a deferred)
  unfolding take_base
  base_taken None = nothing-keeps
  base_taken (Some level) =
      then-keeps (changes (edit_task a (λ t. record t { deferred_base = None }))) _
      (later-edits a (λ t. record t { deferred_base = None }) (λ t. refl) (λ t. refl) (λ t. refl) (λ t. refl)) (base_set_placing level)

  pub deadline_taken : (deferred : Option ℤ) → Keeps (Holds (Later p s a)) (take_deadline p a deferred)
  unfolding take_deadline
  deadline_taken None = nothing-keeps
  deadline_taken (Some deadline) =
      then-keeps (changes (edit_task a (λ t. record t { deferred_deadline = None }))) _
      (changes-keeps _ (edit_task-alters (holds_quiet (Later p s a)) a (λ t. record t { deferred_deadline = None }) (λ t. refl)))
      (deadline_set_placing deadline)

  pub deferred_set : Keeps (Holds (Later p s a)) (set_deferred p a)
  unfolding set_deferred
  deferred_set =
      looks-keeps _
      (λ w. when-keeps (not (in_protected w a)) _
      (then-keeps (take_base p a (task_of w a).deferred_base) _ (base_taken (task_of w a).deferred_base) (deadline_taken (task_of w a).deferred_deadline)))

  -- ---- who acts loses a priority

  pub when-tested : {X Y : State} (b : Bool) (step : Step) → (b ≡ true → Leads X Y step) → (b ≡ false → (w : World) (said : List Said) → X w said → Y w said)
      → Leads X Y (when b step)
  when-tested true step acts keeps = acts refl
  when-tested false step acts keeps = nothing-leads (keeps refl)

  pub Lost : World → Cause → State
  Lost v cause w said = Holds (Loose p s a a) w said × (w ≡ lose a cause v) × IsAtMost (place p s a a (last_put a said)) (active_of p v a)

  pub not_less : (x y : ℕ) → ltb x y ≡ false → y ≤ x
  not_less x y e = grind arith

  pub lost_first : (v : World) (cause : Cause) → Leads (At (Holds (Later p s a)) v) (Lost v cause) (changes (lose a cause))
  unfolding Lost
  lost_first v cause =
      changes-leads (lose a cause) (λ w said h. (
        loosens a (λ t. record t { inherited = without (λ i. same_cause cause i.cause) t.inherited }) w said (λ t. refl) (λ t. refl)
            (λ t k. unactivated_without (λ i. same_cause cause i.cause) t.inherited k) h.0,
        ap (lose a cause) h.1,
        subst (λ u. IsAtMost (place p s a a (last_put a said)) (active_of p u a)) h.1 (holds-of (Later p s a) w said a h.0).0.low,
      ))

  pub lost_then : (v : World) (cause : Cause) → Leads (Lost v cause) (Holds (Later p s a)) (when (falls p a v (lose a cause v)) (to_head p ThePlacing a))
  unfolding Lost
  lost_then v cause =
      when-tested (falls p a v (lose a cause v)) (to_head p ThePlacing a)
      (λ is. from-leads (to_head p ThePlacing a) (λ w said h. h.0) (to_head-holds p (Loose p s a a) (Later p s a) a ThePlacing actor_places))
      (λ is w said h. tightened a w said h.0
      (subst (λ u. IsAtMost (place p s a a (last_put a said)) (active_of p u a)) (sym h.1)
      (at_most-risen (place p s a a (last_put a said)) (active_of p v a) (active_of p (lose a cause v) a)
      (not_less (active_of p (lose a cause v) a) (active_of p v a) is) h.2)))

  pub lost_later : (cause : Cause) → Keeps (Holds (Later p s a)) (lose_running p a cause)
  unfolding lose_running
  lost_later cause = looks-with _ (λ v said h. then-leads (changes (lose a cause)) _ (lost_first v cause) (lost_then v cause))

  -- ---- it owes a line since a world

  pub owes_since : (w : World) (said : List Said) → Holds (Later p s a) w said → Holds (Owing p s a w) w said
  unfolding Holds
  owes_since w said h = (
    h.0,
    λ n. (
      (λ apart. (h.1 n).0),
      (λ same. record {
        late = (h.1 n).0.late;
        low = subst (λ m. IsAtMost (place p s a n (last_put n said)) (active_of p w m)) (who-is n a same) (h.1 n).0.low;
        acting = (h.1 n).1 same;
      }),
    ),
  )

  pub owed_loses : (before w : World) (said : List Said) → Holds (Owing p s a before) w said
      → Holds (Owing p s a before) (lose a inherited_by.Activation w) said
  owed_loses before w said h =
      let f : Task → Task = λ t. record t { inherited = without (λ i. same_cause inherited_by.Activation i.cause) t.inherited } in
      holds-edit (Owing p s a before) (Owing p s a before) a f w said (λ t. refl)
      (sound-edit a f w (λ t. refl) (λ t k. unactivated_without (λ i. same_cause inherited_by.Activation i.cause) t.inherited k)
      (holds-sound (Owing p s a before) w said h))
      (keeps_turns (Owing p s a before) a f (λ d t l named k. (
        (λ apart. self_apart a apart),
        (λ same. let o = k.1 same in record { late = o.late; low = o.low; acting = acting-kept d a (core t) (core (f t)) l refl o.acting }),
      ))) h

  pub paid_places : (before : World) → Places (Owing p s a before) (Later p s a) a ThePlacing (at_active p)
  paid_places before = record {
    others = λ d n c l apart h. (h.0 apart, λ same. clash_of (same_who n a) same apart);
    own = λ d c l h. let o = h.1 (same_self a) in acting-placed p s a d a c l ThePlacing (same_self a) refl o.late o.acting;
  }

  pub acting-shown : (n : Who) (c : Core) (l : Last) → (runs_in c ≡ true) ⊎ ((sleeps_in c ≡ true) × (l ≡ Some (TheBlock, None))) → IsShownRightly p s a n c l
  acting-shown n c l (inl runs) = inl runs
  acting-shown n c l (inr sleeps) = inr (inl (ap (place p s a n) sleeps.1))

  pub owed-later : (before : World) (d : ℕ) (n : Who) (c : Core) (l : Last) → Owes p s a before d n c l → active_of p before a ≤ active_in p c
      → Later p s a d n c l
  owed-later before d n c l o up = (
    record {
      late = o.late;
      low = at_most-risen (place p s a n l) (active_of p before a) (active_in p c) up o.low;
      shown = acting-shown n c l o.acting.1;
      fresh = λ e. clash_of (is_fresh d n) e o.acting.0;
    },
    λ same. o.acting,
  )

  pub not_fallen : (before w : World) (said : List Said) → active_of p before a ≤ active_of p w a → Holds (Owing p s a before) w said
      → Holds (Later p s a) w said
  unfolding Holds
  not_fallen before w said up h = (
    h.0,
    λ n. by_test (same_who n a)
        (λ same. owed-later before w.drawn.tasks n (core (task_of w n)) (last_put n said) ((h.1 n).1 same)
        (subst (λ m. active_of p before a ≤ active_of p w m) (sym (who-is n a same)) up))
        (λ apart. ((h.1 n).0 apart, λ same. clash_of (same_who n a) same apart)),
  )

  pub paid : (before : World) → Leads (Holds (Owing p s a before)) (Holds (Later p s a)) (fall_from p a before)
  unfolding fall_from
  paid before =
      looks-with _ (λ v said h. when-tested (falls p a before v) (to_head p ThePlacing a)
      (λ is. from_at (to_head p ThePlacing a) (to_head-holds p (Owing p s a before) (Later p s a) a ThePlacing (paid_places before)))
      (λ is w more k.
      not_fallen before w more (subst (λ u. active_of p before a ≤ active_of p u a) (sym k.1) (not_less (active_of p v a) (active_of p before a) is)) k.0))
