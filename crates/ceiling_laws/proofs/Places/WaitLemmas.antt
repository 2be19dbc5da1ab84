-- Nobody who waits is shown in the queue, as far as what comes about beside the effect of who acts decides on it.
use Rattle.ann_base.specs.declared.identities.TaskNo.{TaskNo}
use Rattle.ceiling_laws.proofs.Places.BesideLemmas.{any_event, seen-told, unsaid, any_follow}
use Rattle.ceiling_laws.proofs.Places.EditLemmas.{edit-state, named-apart}
use Rattle.ceiling_laws.proofs.Places.PartOrder.{by_test}
use Rattle.ceiling_laws.proofs.Places.QueueLemmas.{effects_place_by_the_last}
use Rattle.ceiling_laws.proofs.Places.TockPlaces.{tock_lines-entries}
use Rattle.ceiling_laws.specs.PlaceLaws.{AreWaitersOut, OthersKeepWaitersOut, TocksKeepWaitersOut, level_in, level_shown}
use Rattle.ceiling_laws.specs.Puts.{last_put, place_by, puts}
use Rattle.ceiling_laws.proofs.Runs.CoreLemmas.{core-same}
use Rattle.ceiling_laws.proofs.Runs.FoundLemmas.{set-other}
use Rattle.ceiling_laws.proofs.Runs.FreeMoves.{any_task, any_world}
use Rattle.ceiling_laws.proofs.Runs.Kept.Instant.{OtherMoves}
use Rattle.ceiling_laws.proofs.Runs.Kept.Waking.{who-is}
use Rattle.ceiling_laws.proofs.Runs.LevelMoves.{Silences, is_apart, said_so}
use Rattle.ceiling_laws.proofs.Runs.RunLemmas.{Others, Settles, behind_onward}
use Rattle.ceiling_laws.proofs.Runs.SameLemmas.{found_is_who, set_where-found}
use Rattle.ceiling_laws.proofs.Runs.TockLemmas.{tock-same}
use Rattle.ceiling_laws.proofs.Runs.Triples.{Ends, Keeps, Leads, State, With, from-leads}
use Rattle.ceiling_laws.specs.Cores.{Core}
use Rattle.machine_laws.proofs.LineLemmas.{tocks_say_ticks}
use Rattle.machine_laws.proofs.Moves.{lines_of}
use Rattle.profile_machine.specs.Dispatching.{active, active_of, deadline_shown, grant_quantum, granted, keep_level, level_kept_by, ready, says_ready, to_tail}
use Rattle.profile_machine.specs.Inheritance.{inherit, same_cause}
use Rattle.profile_machine.specs.Instant.{budgets_due, events_due, moments_due, quantum_spent, script_items, timers_due}
use Rattle.profile_image.specs.Program.{edf_low, is_robin_level}
use Rattle.profile_machine.specs.Run.{tock}
use Rattle.profile_machine.specs.Scopes.{end_scope}
use Rattle.profile_machine.specs.Steps.{placed_by, ◌▶◌}
use Rattle.profile_machine.specs.Tasks.{edit_task, edit_task_found, is_runnable, is_runnable_state, is_who}
use Rattle.profile_machine.specs.Tasks.{nobody, task_at, task_of, waiting_in, waiting_of, with_state}
use Rattle.profile_image.specs.Words.{same_who}
use Rattle.profile_image.specs.declared.image.Image.{Image}
use Rattle.profile_machine.specs.declared.world.World.{World}
use Rattle.profile_machine.specs.declared.world.lines.Line.{Line}
use Rattle.profile_machine.specs.declared.world.lines.Line.TheVariants as line
use Rattle.profile_machine.specs.declared.world.lines.Part.{Part}
use Rattle.profile_machine.specs.declared.world.lines.Part.TheVariants.{Own}
use Rattle.profile_machine.specs.declared.world.lines.Said.{Said}
use Rattle.profile_machine.specs.declared.world.tasks.Cause.{Cause}
use Rattle.profile_machine.specs.declared.world.tasks.Cause.TheVariants as inherited_by
use Rattle.profile_machine.specs.declared.world.tasks.State as tasks
use Rattle.profile_machine.specs.declared.world.tasks.State.TheVariants.{Blocked, Made, Runnable}
use Rattle.profile_machine.specs.declared.world.tasks.Task.{Task}
use Rattle.profile_machine.specs.declared.world.tasks.Waiting.{Waiting}
use Rattle.std.proofs.Common.{Bool, List, None, Option, Some, [], ap, cond, false, refl, subst, sym, true, ℕ, ℤ, ◌&&◌, ◌++◌, ◌∙◌, ◌∷◌, ◌≡◌}
use Rattle.std.specs.Prelude.{eqb, find, slice_index_or, unwrap_or}
use Rattle.line_laws.proofs.Ticks.LineByLine.{seen_behind}
use Rattle.trace_text.specs.Laws.{Levels, see_levels}
use Rattle.trace_text.specs.Queue.{entry_of}
use Rattle.trace_text.specs.declared.events.QueueEnd.{QueueEnd}
use Rattle.trace_text.specs.declared.events.QueueEnd.TheVariants.{Tail}
use Rattle.trace_text.specs.declared.events.Who.{Who}
use Rattle.trace_text.specs.declared.events.Who.TheVariants as who

-- ---- states of tasks that are edited

other-found : (name : Who) (f : Task → Task) (w : World) (n : Who) (found : Option Task) → task_at w name ≡ found → ((t : Task) → (f t).who ≡ t.who)
    → same_who n name ≡ false → waiting_of (edit_task_found name f w found) n ≡ waiting_of w n
other-found name f w n None is named apart = refl
other-found (who.Task m) f w (who.Task k) (Some x) is named apart =
    ap (λ (r : Option Task). waiting_in (unwrap_or r nobody).state)
    (set-other (who.Task m) (who.Task k) (f x) w.tasks apart
    (named-apart (who.Task m) (who.Task k) x (f x) (found_is_who (who.Task m) x w.tasks is) (named x) apart))
other-found (who.Task m) f w who.Agent (Some x) is named apart = refl
other-found who.Agent f w (who.Task k) (Some x) is named apart = refl
other-found who.Agent f w who.Agent (Some x) is named apart = absurd cc

other-waits : (name : Who) (f : Task → Task) (w : World) (n : Who) → ((t : Task) → (f t).who ≡ t.who) → same_who n name ≡ false
    → waiting_of (edit_task name f w) n ≡ waiting_of w n
other-waits name f w n named apart = other-found name f w n (task_at w name) refl named apart

-- a change that leaves states
still-waits : (name : Who) (f : Task → Task) (w : World) (n : Who) → ((t : Task) → (f t).who ≡ t.who) → ((t : Task) → (f t).state ≡ t.state)
    → waiting_of (edit_task name f w) n ≡ waiting_of w n
still-waits name f w n named same =
    by_test (same_who n name)
    (λ t. subst (λ k. waiting_of (edit_task name f w) k ≡ waiting_of w k) (sym (who-is n name t)) (ap waiting_in (edit-state name f w named same)))
    (λ apart. other-waits name f w n named apart)

awake-found : (m : Who) (w : World) (found : Option Task) → task_at w m ≡ found → waiting_of (edit_task_found m (with_state Runnable) w found) m ≡ None
awake-found m w None is = ap (λ (r : Option Task). waiting_in (unwrap_or r nobody).state) is
awake-found (who.Task t) w (Some x) is =
    ap (λ (r : Option Task). waiting_in (unwrap_or r nobody).state) (set_where-found (who.Task t) x (with_state Runnable x) w.tasks is refl)
awake-found who.Agent w (Some x) is = refl

granted-who : (test : Bool) (n : ℕ) (t : Task) → (cond test (record t { quantum = n }) t).who ≡ t.who
granted-who true n t = refl
granted-who false n t = refl

granted-state : (test : Bool) (n : ℕ) (t : Task) → (cond test (record t { quantum = n }) t).state ≡ t.state
granted-state true n t = refl
granted-state false n t = refl

grant-waits : (p : Image) (name : Who) (w : World) (n : Who) → waiting_of (grant_quantum p name w) n ≡ waiting_of w n
grant-waits p name w n =
    still-waits name (granted p w.quanta) w n (λ t. granted-who (eqb (active p t) t.base && is_robin_level p t.base) (slice_index_or w.quanta t.base 0) t)
    (λ t. granted-state (eqb (active p t) t.base && is_robin_level p t.base) (slice_index_or w.quanta t.base 0) t)

keep-waits : (p : Image) (name : Who) (w : World) (n : Who) → waiting_of (keep_level p name w) n ≡ waiting_of w n
keep-waits p name w n = still-waits name (λ t. record t { kept_level = level_kept_by p w t (edf_low p t.base) }) w n (λ t. refl) (λ t. refl)

runnable-waits : (state : tasks.State) → is_runnable_state state ≡ true → waiting_in state ≡ None
runnable-waits Made e = absurd cc
runnable-waits Runnable e = refl
runnable-waits (Blocked waiting) e = absurd cc

-- ---- lines

unfoldable pub Out : Levels → State
Out s w said = (n : Who) (waiting : Waiting) → waiting_of w n ≡ Some waiting → place_by (last_put n said) (level_shown n s) ≡ None

puts-apart : (n : Who) (x : Line) → is_apart x ≡ false → puts n x ≡ None
puts-apart n (line.Ready name level end deadline) e = absurd cc
puts-apart n (line.Block name waits) e = absurd cc
puts-apart n (line.Done t) e = absurd cc
puts-apart n _ e = refl

waits-never : {P : Type 0} (found : Option Waiting) (waiting : Waiting) → found ≡ None → found ≡ Some waiting → P
waits-never found waiting none some = absurd (let never : None ≡ Some waiting = sym none ∙ some in cc)

module _ (p : Image) (s : Levels) where
  pub out-says : (n : Who) (part : Part) (x : Line) (said : List Said) → puts n x ≡ None → place_by (last_put n said) (level_shown n s) ≡ None
      → place_by (last_put n (said ++ said_so part x ∷ [])) (level_shown n s) ≡ None
  out-says n part x said e h = ap (λ l. place_by l (level_shown n s)) (unsaid n said part x e) ∙ h

  out-same : (a b : World) (said : List Said) → ((n : Who) → waiting_of b n ≡ waiting_of a n) → Out s a said → Out s b said
  unfolding Out
  out-same a b said same h = λ n waiting e. h n waiting (sym (same n) ∙ e)

  pub ended-waits : (w : World) (a : World) (n : Who) → a.tasks ≡ w.tasks → a.agent ≡ w.agent → waiting_of a n ≡ waiting_of w n
  ended-waits w a (who.Task t) tasks agent = ap (λ ts. waiting_in (unwrap_or (find (is_who (who.Task t)) ts) nobody).state) tasks
  ended-waits w a who.Agent tasks agent = ap (λ (t : Task). waiting_in t.state) agent

  pub out_quiet : Silences (Out s)
  unfolding Out
  out_quiet = record {
    silently = λ a b said same h. out-same a b said (λ n. ap (λ (c : Core). waiting_in c.state) (core-same a b n same)) h;
    says = λ part x w said other h n waiting e. out-says n part x said (puts-apart n x other) (h n waiting e);
    ends_scope = λ id w said h. out-same w (end_scope id w) said (λ n. ended-waits w (end_scope id w) n refl refl) h;
  }

  out-inherits : (name : Who) (cause : Cause) (level : ℕ) (w : World) (said : List Said) → same_cause inherited_by.Activation cause ≡ false → Out s w said
      → Out s (inherit name cause level w) said
  out-inherits name cause level w said other h =
      out-same w (inherit name cause level w) said
      (λ n. still-waits name (λ t. record t { inherited = record { cause = cause; level = level } ∷ t.inherited }) w n (λ t. refl) (λ t. refl)) h

  -- who is placed does not wait, and others as before
  out-line : (part : Part) (name : Who) (level : ℕ) (end : QueueEnd) (deadline : Option ℤ) (a b : World) (said : List Said) → waiting_of b name ≡ None
      → ((n : Who) → same_who n name ≡ false → waiting_of b n ≡ waiting_of a n) → Out s a said
      → Out s b (said ++ said_so part (line.Ready name level end deadline) ∷ [])
  unfolding Out
  out-line part name level end deadline a b said awake others h = λ n waiting e.
      by_test (same_who n name)
      (λ t. waits-never (waiting_of b n) waiting (ap (waiting_of b) (who-is n name t) ∙ awake) e)
      (λ apart.
      out-says n part (line.Ready name level end deadline) said (ap (λ t. cond t (Some (Some level)) None) apart) (h n waiting (sym (others n apart) ∙ e)))

  pub tail-out : (part : Part) (name : Who) (a w : World) (said : List Said) → waiting_of w name ≡ None
      → ((n : Who) → same_who n name ≡ false → waiting_of w n ≡ waiting_of a n) → Out s a said → Ends (Out s) (to_tail p part name w said)
  unfolding to_tail says_ready Ends
  tail-out part name a w said awake others h =
      let b = grant_quantum p name w in
      out-line part name (active_of p b name) Tail (deadline_shown p (task_of b name)) a b said (grant-waits p name w name ∙ awake)
      (λ n apart. grant-waits p name w n ∙ others n apart) h

  out_readies : (part : Part) (name : Who) → Keeps (Out s) (ready p part name)
  unfolding ready
  out_readies part name = record {
    runs = λ w said h.
        let first = edit_task name (with_state Runnable) w in
        tail-out part name w (keep_level p name first) said (keep-waits p name first name ∙ awake-found name w (task_at w name) refl)
        (λ n apart. keep-waits p name first n ∙ other-waits name (with_state Runnable) w n (λ t. refl) apart) h;
  }

  out_tails : (t : TaskNo) → Leads (With (Out s) (λ w. is_runnable (task_of w (who.Task t)) ≡ true)) (Out s) (to_tail p Own (who.Task t))
  out_tails t = record { runs = λ w said h. tail-out Own (who.Task t) w w said (runnable-waits (task_of w (who.Task t)).state h.1) (λ n apart. refl) h.0 }

  out_others : OtherMoves p any_world any_task (Out s)
  out_others = record {
    base = record {
      quiet = out_quiet;
      inherits = out-inherits;
      sleeps = λ w name is. tt;
      sleeps_on = λ a b name same k. tt;
      sleeps_behind = λ id w name k. tt;
      sleeps_heir = λ heir cause level w name k. tt;
      wakes = λ part name is. from-leads (ready p part name) (λ w said h. h.0) (out_readies part name);
    };
    drawn = λ v said t h e. tt;
    drawn_on = λ a b t same k. tt;
    readies = λ t. from-leads (ready p Own (who.Task t)) (λ w said h. h.0) (out_readies Own (who.Task t));
    tails = out_tails;
  }

  out-starts : (w : World) → AreWaitersOut s w → Out s w []
  unfolding Out
  out-starts w h = h

module _ (p : Image) where
  out-over : (sight : Levels) (v : World) (xs : List Said) → Out sight v xs
      → AreWaitersOut (seen_behind see_levels any_event sight (lines_of p xs)) (placed_by (lines_of p xs) v)
  unfolding Out
  out-over sight v xs h = λ n waiting e.
      ap (level_shown n) (seen-told sight (lines_of p xs)) ∙ effects_place_by_the_last p v xs sight n
      ∙ h n waiting (sym (ended-waits p sight v (placed_by (lines_of p xs) v) n refl refl) ∙ e)

  pub out_settles : (sight : Levels) → Settles see_levels any_event AreWaitersOut p sight (Out sight)
  out_settles sight v xs h = record { follow = any_follow sight (lines_of p xs); shows = out-over sight v xs h }

  out_beside : Others see_levels any_event AreWaitersOut p
  out_beside sight = (Out sight, any_world, any_task, out_others p sight, out-starts p sight, out_settles sight)

pub others_keep_waiters_out : OthersKeepWaitersOut
others_keep_waiters_out p w sight h =
    let behind = (script_items p ▶ events_due p ▶ moments_due p ▶ timers_due p ▶ budgets_due p ▶ quantum_spent p) w in
    subst (λ s. AreWaitersOut s behind.0) (seen-told sight behind.1) (behind_onward see_levels any_event AreWaitersOut (out_beside p) sight w h).shows

pub tocks_keep_waiters_out : TocksKeepWaitersOut
tocks_keep_waiters_out p w sight h = λ n waiting e.
    ap (λ queue. level_in (entry_of n queue)) (tock_lines-entries sight (tock p w).1 (tocks_say_ticks p w))
    ∙ h n waiting (sym (ap (λ (c : Core). waiting_in c.state) (core-same w (tock p w).0 n (tock-same p w))) ∙ e)
