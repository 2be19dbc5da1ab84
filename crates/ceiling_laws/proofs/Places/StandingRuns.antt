-- Before each instant of every run, and behind it, everybody who is shown stands at or below its active priority, and who is not
-- ready is not shown.
use Rattle.ann_base.specs.declared.identities.TaskNo.{TaskNo}
use Rattle.ceiling_laws.proofs.Places.BesideLemmas.{OwnPut, any_event, seen-told, any_follow}
use Rattle.ceiling_laws.proofs.Places.CorePoints.{Holds, Knowing, Places, Point, Readies, active_in, at_active, core-plain, holds-also}
use Rattle.ceiling_laws.proofs.Places.CorePoints.{holds-knowing, holds-sound, holds_quiet, keeps_says, not-absent, ready-holds, to_tail-holds}
use Rattle.ceiling_laws.proofs.Places.EffectKeeps.{begun_runs, effect_moves}
use Rattle.ceiling_laws.proofs.Places.EffectMoves.{Sleeping_in, Wakeful, base_moves, ceases_good, clash_of, good-rises, good-wakes, runs-drawn}
use Rattle.ceiling_laws.proofs.Places.QueueLemmas.{effects_place_by_the_last}
use Rattle.ceiling_laws.proofs.Places.SoundWorlds.{IsAbsent, Sound, is_fresh, known, sound-plain, sound-same}
use Rattle.ceiling_laws.proofs.Places.Standing.{First, Fits, Good, Last, Later, fits_own, limit, place, placed-good, runs_in}
use Rattle.ceiling_laws.proofs.Places.TockPlaces.{levels-append, tock_lines-entries}
use Rattle.ceiling_laws.specs.Acting.{MayBePlaced}
use Rattle.ceiling_laws.specs.PlaceLaws.{IsAtMost, RunsKeepCeilings, RunsPlaceAtMostActive, RunsShowWhoIsReady, level_in, level_shown}
use Rattle.ceiling_laws.specs.Puts.{last_put, with_put}
use Rattle.ceiling_laws.proofs.Runs.ActingMoves.{Either}
use Rattle.ceiling_laws.proofs.Runs.CoreLemmas.{core-same}
use Rattle.ceiling_laws.proofs.Runs.Kept.Act.{effect-leads}
use Rattle.ceiling_laws.proofs.Fine.Kept.Frames.{open_sequence-keeps}
use Rattle.ceiling_laws.proofs.Runs.Kept.Instant.{Appointing, OtherMoves}
use Rattle.ceiling_laws.proofs.Fine.Kept.Scopes.{open_scope-alters}
use Rattle.ceiling_laws.proofs.Runs.Kept.Waking.{who-is}
use Rattle.ceiling_laws.proofs.Runs.RunLemmas.{Others, Settles, behind_onward, settles_onward}
use Rattle.ceiling_laws.proofs.Runs.SameLemmas.{found_is_who}
use Rattle.ceiling_laws.proofs.Runs.ShownPlaces.{who_acts_is_shown}
use Rattle.ceiling_laws.proofs.Runs.TockLemmas.{tock-same}
use Rattle.ceiling_laws.proofs.Runs.Triples.{Leads, With, changes-keeps, from-leads, then-leads}
use Rattle.ceiling_laws.proofs.Runs.WholeRuns.{places_keep_ceilings}
use Rattle.ceiling_laws.proofs.Places.PartOrder.{by_test}
use Rattle.ceiling_laws.specs.Cores.{Core, core}
use Rattle.ceiling_laws.specs.RunLaws.{Tells, levels_told, told_first, told_on}
use Rattle.ceiling_laws.proofs.Runs.Finer.{fine}
use Rattle.machine_laws.proofs.LineLemmas.{tocks_say_ticks}
use Rattle.machine_laws.proofs.Moves.{lines_of}
use Rattle.profile_machine.specs.Dispatching.{active_of, ready, to_tail}
use Rattle.profile_machine.specs.Instant.{budgets_due, effect, effect_of_runner, events_due, finish_action}
use Rattle.profile_machine.specs.Instant.{instant, is_over, moments_due, quantum_spent, script_items, timers_due}
use Rattle.profile_machine.specs.Run.{blank_world, environment, opening, opens, tock}
use Rattle.profile_machine.specs.Scopes.{open_scope, plainly}
use Rattle.profile_machine.specs.Steps.{Move, changes, is_part_before, placed_by, rests, says, settles, ◌▶◌}
use Rattle.profile_machine.specs.Tasks.{is_runnable, nobody, task_at, task_of}
use Rattle.profile_image.specs.declared.image.Image.{Image}
use Rattle.profile_image.specs.declared.script_items.Item.{Item}
use Rattle.profile_machine.specs.declared.world.World.{World}
use Rattle.profile_machine.specs.declared.world.lines.Line.TheVariants as line
use Rattle.profile_machine.specs.declared.world.lines.Part.{Part}
use Rattle.profile_machine.specs.declared.world.lines.Part.TheVariants.{Own}
use Rattle.profile_machine.specs.declared.world.lines.Said.{Said}
use Rattle.profile_machine.specs.declared.world.marks.Purpose.TheVariants as opened_for
use Rattle.profile_machine.specs.declared.world.tasks.Task.{Task}
use Rattle.std.proofs.Common.{ap, cond, inl, inr, le_refl, refl, subst, sym, ◌++◌, ◌∙◌, ◌≡◌, ◌≤◌, ◌⊎◌}
use Rattle.std.specs.Prelude.{Bool, List, None, Option, Some, [], false, true, ℕ, ℤ, unwrap_or}
use Rattle.line_laws.proofs.Leaving.TaskLemmas.{same_self}
use Rattle.trace_text.specs.Laws.{Levels, no_levels, see_levels}
use Rattle.trace_text.specs.Queue.{entry_of}
use Rattle.trace_text.specs.declared.events.Created.TheVariants as created
use Rattle.trace_text.specs.declared.events.Entry.{Entry}
use Rattle.trace_text.specs.declared.events.Event.{Event}
use Rattle.trace_text.specs.declared.events.Who.{Who}
use Rattle.trace_text.specs.declared.events.Who.TheVariants as who

-- ---- what the lines of a run show of somebody

pub record Stands (p : Image) (sight : Levels) (d : ℕ) (n : Who) (c : Core) : Type 0 where
  pub low : IsAtMost (level_shown n sight) (active_in p c)
  pub shown : (runs_in c ≡ true) ⊎ ((level_shown n sight ≡ None) ⊎ IsAbsent n c)
  pub fresh : is_fresh d n ≡ true → level_shown n sight ≡ None

abbrev pub AllStand : Image → Levels → World → Type 0
AllStand p sight w = Sound w × ((n : Who) → Stands p sight w.drawn.tasks n (core (task_of w n)))

module _ (p : Image) where
  stands_as : (sight : Levels) (d : ℕ) (n : Who) (c : Core) (l : Last) (a : Who) (behind : Levels) → level_shown n behind ≡ place p sight a n l
      → Good p sight a d n c l → Stands p behind d n c
  stands_as sight d n c l a behind is h = record {
    low = subst (λ q. IsAtMost q (active_in p c)) (sym is) h.low;
    shown = subst (λ q. (runs_in c ≡ true) ⊎ ((q ≡ None) ⊎ IsAbsent n c)) (sym is) h.shown;
    fresh = λ e. is ∙ h.fresh e;
  }

  -- an effect is over
  stands_behind : (sight : Levels) (a : Who) (v : World) (xs : List Said) → Holds (Good p sight a) v xs
      → AllStand p (levels_told sight (lines_of p xs)) (placed_by (lines_of p xs) v)
  unfolding Holds
  stands_behind sight a v xs h = (
    sound-plain v (placed_by (lines_of p xs) v) refl refl refl refl h.0,
    λ n. subst (Stands p (levels_told sight (lines_of p xs)) v.drawn.tasks n) (sym (core-plain v (placed_by (lines_of p xs) v) n refl refl))
        (stands_as sight v.drawn.tasks n (core (task_of v n)) (last_put n xs) a (levels_told sight (lines_of p xs)) (effects_place_by_the_last p v xs sight n)
        (h.1 n)),
  )

  over : (sight : Levels) (a : Who) → Settles see_levels any_event (AllStand p) p sight (Holds (Good p sight a))
  over sight a v xs h = record {
    follow = any_follow sight (lines_of p xs);
    shows = subst (λ s. AllStand p s (placed_by (lines_of p xs) v)) (sym (seen-told sight (lines_of p xs))) (stands_behind sight a v xs h);
  }

  -- ---- the effect of who acts

  good-first : (sight : Levels) (a n : Who) (d : ℕ) (c : Core) → Stands p sight d n c → Good p sight a d n c None
  good-first sight a n d c h = record { late = tt; low = h.low; shown = h.shown; fresh = h.fresh }

  acts_first : (sight : Levels) (a : Who) (w : World) → is_fresh w.drawn.tasks a ≡ false → runs_in (core (task_of w a)) ≡ true → AllStand p sight w
      → Holds (First p sight a) w []
  unfolding Holds
  acts_first sight a w drawn runs h = (
    h.0,
    λ n. (
      good-first sight a n w.drawn.tasks (core (task_of w n)) (h.1 n),
      λ same. (ap (is_fresh w.drawn.tasks) (who-is n a same) ∙ drawn, ap (λ m. runs_in (core (task_of w m))) (who-is n a same) ∙ runs, refl),
    ),
  )

  either_over : (sight : Levels) (a : Who) → Settles see_levels any_event (AllStand p) p sight (Either (Holds (Good p sight a)) (Holds (Later p sight a)))
  either_over sight a v xs (inl h) = over sight a v xs h
  either_over sight a v xs (inr h) = over sight a v xs (ceases_good p sight a v xs h)

  effect-stands : (sight : Levels) (a : Who) (w : World) → is_fresh w.drawn.tasks a ≡ false → runs_in (core (task_of w a)) ≡ true → AllStand p sight w →
      let behind = settles p (effect p a) w in
      AllStand p (levels_told sight behind.1) behind.0
  effect-stands sight a w drawn runs h =
      subst (λ s. AllStand p s (settles p (effect p a) w).0) (seen-told sight (settles p (effect p a) w).1)
      (settles_onward see_levels any_event (AllStand p) p sight (Holds (First p sight a)) (Either (Holds (Good p sight a)) (Holds (Later p sight a)))
      (effect p a) w (either_over sight a) (effect-leads (effect_moves p sight a)) (acts_first sight a w drawn runs h)).shows

  -- who acts is shown, so it is ready
  shown-drawn : (sight : Levels) (n : Who) (d : ℕ) (entry : Entry) (c : Core) → entry_of n sight.entries ≡ Some entry → Stands p sight d n c
      → is_fresh d n ≡ false
  shown-drawn sight n d entry c found h =
      by_test (is_fresh d n) (λ fresh. absurd (let clash : Some entry.level ≡ None = sym (ap level_in found) ∙ h.fresh fresh in cc)) (λ apart. apart)

  there-apart : {P : Type 0} (n : Who) (w : World) (found : Option Task) → task_at w n ≡ found → is_over (unwrap_or found nobody).ticks_left ≡ true
      → IsAbsent n (core (unwrap_or found nobody)) → P
  there-apart n w None is acts absent = absurd cc
  there-apart (who.Task t) w (Some x) is acts absent = not-absent (who.Task t) x (λ u. u) (λ task. found_is_who (who.Task t) x w.tasks is) refl absent
  there-apart who.Agent w (Some x) is acts absent = absurd (let clash : true ≡ false = absent.0 in cc)

  shown-runs : (sight : Levels) (n : Who) (w : World) (entry : Entry) → entry_of n sight.entries ≡ Some entry → is_over (task_of w n).ticks_left ≡ true
      → (runs_in (core (task_of w n)) ≡ true) ⊎ ((level_shown n sight ≡ None) ⊎ IsAbsent n (core (task_of w n))) → runs_in (core (task_of w n)) ≡ true
  shown-runs sight n w entry found acts (inl runs) = runs
  shown-runs sight n w entry found acts (inr (inl hidden)) = absurd (let clash : Some entry.level ≡ None = sym (ap level_in found) ∙ hidden in cc)
  shown-runs sight n w entry found acts (inr (inr absent)) = there-apart n w (task_at w n) refl acts absent

  -- ---- what comes about beside it

  Beside : Levels → Point
  Beside sight d n c l = Good p sight who.Agent d n c l × OwnPut l

  own-may : (l : Last) → OwnPut l → MayBePlaced Own l
  own-may None own = tt
  own-may (Some last) own = inr (ap (is_part_before Own) own)

  own_if : (b : Bool) (last : Part × Option ℕ) (q : Option ℕ) → last.0 ≡ Own → OwnPut (cond b (Some last) (Some (Own, q)))
  own_if true last q own = own
  own_if false last q own = refl

  own-put : (l : Last) (part : Part) (q : Option ℕ) → part ≡ Own → OwnPut l → OwnPut (with_put l part (Some q))
  own-put None part q is own = is
  own-put (Some last) part q is own = subst (λ r. OwnPut (with_put (Some last) r (Some q))) (sym is) (own_if (is_part_before Own last.0) last q own)

  beside_fits : (sight : Levels) (part : Part) (n : Who) → part ≡ Own → Fits p sight who.Agent part n
  beside_fits sight part n is = subst (λ q. is_part_before (limit p sight who.Agent n) q ≡ false) (sym is) (fits_own p sight who.Agent n)

  beside_wakeful : (sight : Levels) → Wakeful p (λ part name. part ≡ Own) (Beside sight)
  unfolding Beside
  beside_wakeful sight = record {
    rises = λ d n t l i named h. (good-rises p sight who.Agent d n t l i named h.0, h.1);
    wakes = λ part d n c e l is drawn sleeps runs h. (
      good-wakes p sight who.Agent part d n c e l (beside_fits sight part n is) drawn sleeps runs h.0,
      own-put l part (Some (active_in p e)) is h.1,
    );
  }

  IsDrawn : Appointing
  IsDrawn w t = is_fresh w.drawn.tasks (who.Task t) ≡ false

  record Coming (sight : Levels) (n : Who) (d : ℕ) (c : Core) (l : Last) : Type 0 where
    late : MayBePlaced (limit p sight who.Agent n) l
    own : OwnPut l
    drawn : is_fresh d n ≡ false
    runs : (runs_in c ≡ true) ⊎ IsAbsent n c

  -- a task for which a moment was appointed
  Awaited : Levels → Who → Point
  Awaited sight n = Knowing (Beside sight) n (λ d c. is_fresh d n ≡ false)

  coming : (sight : Levels) (n : Who) → Readies p (Awaited sight n) (Beside sight) n Own
  unfolding Awaited Beside
  coming sight n = record {
    between = Coming sight n;
    others = λ d m c l apart h. h.0;
    own = λ d t l h. record { late = h.0.0.late; own = h.0.1; drawn = h.1 (same_self n); runs = inl refl };
    missed = λ d l task h. record { late = h.0.0.late; own = h.0.1; drawn = h.1 (same_self n); runs = inr (task, refl) };
    keeps = λ d t l level named h. record { late = h.late; own = h.own; drawn = h.drawn; runs = begun_runs p sight who.Agent n t level named h.runs };
    places = λ d c l h. (
      placed-good p sight who.Agent d n c l Own (fits_own p sight who.Agent n) h.drawn h.late (own-may l h.own) h.runs,
      own-put l Own (Some (active_in p c)) refl h.own,
    );
  }

  awaited_readies : (sight : Levels) (t : TaskNo) → Leads (With (Holds (Beside sight)) (λ w. IsDrawn w t)) (Holds (Beside sight)) (ready p Own (who.Task t))
  unfolding Awaited IsDrawn
  awaited_readies sight t =
      from-leads (ready p Own (who.Task t)) (λ w said h. holds-knowing (Beside sight) (who.Task t) (λ d c. is_fresh d (who.Task t) ≡ false) w said h.1 h.0)
      (ready-holds p (Awaited sight (who.Task t)) (Beside sight) (who.Task t) Own (coming sight (who.Task t)))

  -- a task that runs goes to the tail
  Running : Levels → Who → Point
  Running sight n = Knowing (Beside sight) n (λ d c. (runs_in c ≡ true) × (is_fresh d n ≡ false))

  running_places : (sight : Levels) (n : Who) → Places (Running sight n) (Beside sight) n Own (at_active p)
  unfolding Running Beside
  running_places sight n = record {
    others = λ d m c l apart h. h.0;
    own = λ d c l h.
        let k = h.1 (same_self n) in (
          placed-good p sight who.Agent d n c l Own (fits_own p sight who.Agent n) k.1 h.0.0.late (own-may l h.0.1) (inl k.0),
          own-put l Own (Some (active_in p c)) refl h.0.1,
        );
  }

  is_running : (sight : Levels) (n : Who) (w : World) (said : List Said) → runs_in (core (task_of w n)) ≡ true → Holds (Beside sight) w said
      → Holds (Running sight n) w said
  unfolding Running
  is_running sight n w said runs h =
      holds-knowing (Beside sight) n (λ d c. (runs_in c ≡ true) × (is_fresh d n ≡ false)) w said
      (runs, runs-drawn p sight who.Agent n w runs (known w n (holds-sound (Beside sight) w said h))) h

  running_tails : (sight : Levels) (n : Who)
      → Leads (With (Holds (Beside sight)) (λ w. is_runnable (task_of w n) ≡ true)) (Holds (Beside sight)) (to_tail p Own n)
  running_tails sight n =
      from-leads (to_tail p Own n) (λ w said h. is_running sight n w said h.1 h.0)
      (to_tail-holds p (Running sight n) (Beside sight) n Own (running_places sight n))

  beside_others : (sight : Levels) → OtherMoves p Sleeping_in IsDrawn (Holds (Beside sight))
  unfolding IsDrawn
  beside_others sight = record {
    base = base_moves (Beside sight) (beside_wakeful sight);
    drawn = λ v said t h e. (holds-sound (Beside sight) v said h).delays t e;
    drawn_on = λ a b t same k. ap (λ d. is_fresh d (who.Task t)) same.drawn_tasks ∙ k;
    readies = awaited_readies sight;
    tails = λ t. running_tails sight (who.Task t);
  }

  beside_starts : (sight : Levels) (w : World) → AllStand p sight w → Holds (Beside sight) w []
  unfolding Holds Beside
  beside_starts sight w h = (h.0, λ n. (good-first sight who.Agent n w.drawn.tasks (core (task_of w n)) (h.1 n), tt))

  beside_good : (sight : Levels) (w : World) (said : List Said) → Holds (Beside sight) w said → Holds (Good p sight who.Agent) w said
  unfolding Beside
  beside_good sight w said h = holds-also (Beside sight) (Good p sight who.Agent) (λ d n c l k. k.0) w said h

  beside : Others see_levels any_event (AllStand p) p
  beside sight = (
    Holds (Beside sight),
    Sleeping_in,
    IsDrawn,
    beside_others sight,
    beside_starts sight,
    (λ v xs h. over sight who.Agent v xs (beside_good sight v xs h)),
  )

  -- ---- the opening

  blank-sound : (script : List (ℤ × Item)) → Sound (blank_world p script)
  blank-sound script = record { names = (le_refl 0, le_refl 1); agent = tt; delays = λ t e. absurd cc }

  nobody-shown : (script : List (ℤ × Item)) → Holds (Beside no_levels) (blank_world p script) []
  unfolding Holds Beside
  nobody-shown script = (blank-sound script, λ n. (record { late = tt; low = tt; shown = inr (inl refl); fresh = λ e. refl }, tt))

  opening_starts : (script : List (ℤ × Item)) → Holds (Running no_levels environment) (blank_world p script) []
  opening_starts script = is_running no_levels environment (blank_world p script) [] refl (nobody-shown script)

  opens-stands : Leads (Holds (Running no_levels environment)) (Holds (Beside no_levels)) (opens p)
  unfolding opens
  opens-stands =
      then-leads (changes (open_scope p environment p.environment (plainly None) opened_for.Task)) _
      (changes-keeps _ (open_scope-alters (fine (holds_quiet (Running no_levels environment))) p environment p.environment (plainly None) opened_for.Task))
      (then-leads (says Own (line.New (created.Task (record { 0 = 0 })) None p.main.priority)) _
      (keeps_says (Running no_levels environment) Own (line.New (created.Task (record { 0 = 0 })) None p.main.priority) (λ n. refl))
      (then-leads (to_tail p Own environment) _
      (to_tail-holds p (Running no_levels environment) (Beside no_levels) environment Own (running_places no_levels environment))
      (open_sequence-keeps (fine (holds_quiet (Beside no_levels))) p Own environment)))

  opening-stands : (script : List (ℤ × Item)) → AllStand p (levels_told no_levels (opening p script).1) (opening p script).0
  opening-stands script =
      subst (λ s. AllStand p s (opening p script).0) (seen-told no_levels (opening p script).1)
      (settles_onward see_levels any_event (AllStand p) p no_levels (Holds (Running no_levels environment)) (Holds (Beside no_levels)) (opens p)
      (blank_world p script)
      (λ v xs h. over no_levels who.Agent v xs (beside_good no_levels v xs h)) opens-stands (opening_starts script)).shows

  -- ---- a tock

  stands_on : (sight behind : Levels) (d e : ℕ) (n : Who) (b c : Core) → level_shown n behind ≡ level_shown n sight → e ≡ d → c ≡ b → Stands p sight d n b
      → Stands p behind e n c
  stands_on sight behind d e n b c shown drawn same h = record {
    low = subst (λ q. IsAtMost q (active_in p c)) (sym shown) (subst (λ x. IsAtMost (level_shown n sight) (active_in p x)) (sym same) h.low);
    shown =
        subst (λ q. (runs_in c ≡ true) ⊎ ((q ≡ None) ⊎ IsAbsent n c)) (sym shown)
        (subst (λ x. (runs_in x ≡ true) ⊎ ((level_shown n sight ≡ None) ⊎ IsAbsent n x)) (sym same) h.shown);
    fresh = λ f. shown ∙ h.fresh (ap (λ x. is_fresh x n) (sym drawn) ∙ f);
  }

  tock-stands : (sight : Levels) (w : World) → AllStand p sight w → AllStand p (levels_told sight (tock p w).1) (tock p w).0
  tock-stands sight w h =
      let behind = (tock p w).0 in
      let same = tock-same p w in (
        sound-same w behind same h.0,
        λ n. stands_on sight (levels_told sight (tock p w).1) w.drawn.tasks behind.drawn.tasks n (core (task_of w n)) (core (task_of behind n))
            (ap (λ queue. level_in (entry_of n queue)) (tock_lines-entries sight (tock p w).1 (tocks_say_ticks p w))) same.drawn_tasks
            (core-same w behind n same) (h.1 n),
      )

  -- ---- an instant

  abbrev Behind : Levels → World × List Event → Type 0
  Behind sight behind = AllStand p (levels_told sight behind.1) behind.0

  effect_if-stands : (sight : Levels) (w : World) (name : Who) (test : Bool) → AllStand p sight w → (test ≡ true → Behind sight (settles p (effect p name) w))
      → Behind sight ((elim test as (λ _. Move) [ true ↦ settles p (effect p name) | false ↦ rests ]) w)
  effect_if-stands sight w name true h acts = acts refl
  effect_if-stands sight w name false h acts = h

  effect_of-stands : (sight : Levels) (w : World) (ran : Option Who) → w.ran ≡ ran → AllStand p sight w
      → ((name : Who) → w.ran ≡ Some name → (entry : Entry) × (entry_of name sight.entries ≡ Some entry)) → Behind sight (effect_of_runner p ran w)
  effect_of-stands sight w None is h acts = h
  effect_of-stands sight w (Some name) is h acts =
      effect_if-stands sight w name (is_over (task_of w name).ticks_left) h (λ ends.
      let entry = acts name is in
      effect-stands sight name w (shown-drawn sight name w.drawn.tasks entry.0 (core (task_of w name)) entry.1 (h.1 name))
      (shown-runs sight name w entry.0 entry.1 ends (h.1 name).shown) h)

  instant-stands : (sight : Levels) (w : World) → AllStand p sight w
      → ((name : Who) → w.ran ≡ Some name → (entry : Entry) × (entry_of name sight.entries ≡ Some entry)) → Behind sight (instant p w)
  instant-stands sight w h acts =
      let first = finish_action p w in
      let later = (script_items p ▶ events_due p ▶ moments_due p ▶ timers_due p ▶ budgets_due p ▶ quantum_spent p) first.0 in
      subst (λ s. AllStand p s later.0) (seen-told (levels_told sight first.1) later.1 ∙ sym (levels-append sight first.1 later.1))
      (behind_onward see_levels any_event (AllStand p) beside (levels_told sight first.1) first.0 (effect_of-stands sight w w.ran refl h acts)).shows

-- ---- a run

told-stands : (p : Image) (script : List (ℤ × Item)) (bound : ℕ) (lines : List Event) (w : World) → Tells p script bound lines w
    → AllStand p (levels_told no_levels lines) w
told-stands p script bound _ _ told_first = opening-stands p script
told-stands p script bound _ _ (told_on lines w told going) =
    let i = instant p w in
    let behind = instant-stands p (levels_told no_levels lines) w (told-stands p script bound lines w told) (who_acts_is_shown p script bound lines w told) in
    subst (λ s. AllStand p s (tock p i.0).0)
    (ap (λ s. levels_told s (tock p i.0).1) (sym (levels-append no_levels lines i.1)) ∙ sym (levels-append no_levels (lines ++ i.1) (tock p i.0).1))
    (tock-stands p (levels_told (levels_told no_levels lines) i.1) i.0 behind)

pub runs_place_at_most_active : RunsPlaceAtMostActive
runs_place_at_most_active p script bound lines w told = λ n. ((told-stands p script bound lines w told).1 n).low

-- who is there is not absent
shown-ready : (sight : Levels) (n : Who) (w : World) (found : Option Task) (x : Task) → task_at w n ≡ found → found ≡ Some x → is_runnable x ≡ false
    → (runs_in (core (unwrap_or found nobody)) ≡ true) ⊎ ((level_shown n sight ≡ None) ⊎ IsAbsent n (core (unwrap_or found nobody)))
    → level_shown n sight ≡ None
shown-ready sight n w None x is e idle h = absurd cc
shown-ready sight n w (Some y) x is e idle (inl runs) = clash_of (is_runnable y) runs (let one : y ≡ x = cc in ap (λ (t : Task). is_runnable t) one ∙ idle)
shown-ready sight n w (Some y) x is e idle (inr (inl hidden)) = hidden
shown-ready sight (who.Task t) w (Some y) x is e idle (inr (inr absent)) =
    not-absent (who.Task t) y (λ u. u) (λ task. found_is_who (who.Task t) y w.tasks is) refl absent
shown-ready sight who.Agent w (Some y) x is e idle (inr (inr absent)) = absurd (let clash : true ≡ false = absent.0 in cc)

pub runs_show_who_is_ready : RunsShowWhoIsReady
runs_show_who_is_ready p script bound lines w told =
    let sight = levels_told no_levels lines in
    let h = told-stands p script bound lines w told in (
      λ n x found idle. shown-ready sight n w (task_at w n) x refl found idle (h.1 n).shown,
      λ n ran ends. let shown = who_acts_is_shown p script bound lines w told n ran in shown-runs p sight n w shown.0 shown.1 ends (h.1 n).shown,
    )

entry-low : (found : Option Entry) (entry : Entry) (level : ℕ) → found ≡ Some entry → IsAtMost (level_in found) level → entry.level ≤ level
entry-low found entry level is h = subst (λ (e : Option Entry). IsAtMost (level_in e) level) is h

pub runs_keep_ceilings : RunsKeepCeilings
runs_keep_ceilings p low script bound =
    places_keep_ceilings p script bound low (λ lines w told name ran ends entry found.
    entry-low (entry_of name (levels_told no_levels lines).entries) entry (active_of p w name) found
    (runs_place_at_most_active p script bound lines w told name))
