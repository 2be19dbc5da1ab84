-- Before each instant of every run, and behind it, whoever is ready is in the ready queues, at its active priority and with its
-- deadline, and nobody else is there.
use Rattle.ann_base.specs.declared.identities.TaskNo.{TaskNo}
use Rattle.world_laws.proofs.Places.CorePoints.{Except, Holds, IsAt, Knowing, Places, Point, Readies, at_active, core-plain, holds-also}
use Rattle.world_laws.proofs.Places.CorePoints.{holds-knowing, holds-sound, holds_quiet, keeps_says, not-absent, ready-holds, spot_for, to_tail-holds}
use Rattle.world_laws.proofs.Places.EffectKeeps.{begun_runs, effect_moves}
use Rattle.world_laws.proofs.Places.EffectMoves.{Wakeful, base_moves, good-rises, runs-drawn}
use Rattle.world_laws.proofs.Places.SoundWorlds.{IsAbsent, Sound, known, sound-plain, sound-same}
use Rattle.world_laws.proofs.Places.Standing.{First, Fits, FreeFor, Good, Last, fits_own, limit, nobody-runs, none-free, place, placed-good, runs_in}
use Rattle.world_laws.proofs.Places.Puts.{MayBePlaced, Spot, last_put, spot_in, with_put}
use Rattle.world_laws.proofs.Places.SpotLemmas.{spot-in_order}
use Rattle.world_laws.proofs.Places.CoreLemmas.{core-same}
use Rattle.ann_base.specs.declared.identities.CallNo.{CallNo}
use Rattle.world_laws.proofs.Appointments.DelayRuns.{reached-good}
use Rattle.world_laws.proofs.Appointments.Delays as own
use Rattle.world_laws.proofs.Appointments.Delays.{OwnIn}
use Rattle.ceiling_laws.proofs.Fine.Cores.{CallerIn, Core, core}
use Rattle.line_laws.proofs.Handlers.AgentMarks.{Standing, has_top, rooted-inside}
use Rattle.line_laws.proofs.Handlers.AgentWorlds.{MarksFree, marks-free}
use Rattle.line_laws.proofs.Handlers.Attending.{Attending, Marked}
use Rattle.line_laws.proofs.Handlers.AgentInstants.{instant-attended, opening-attended}
use Rattle.line_laws.proofs.Handlers.AgentTocks.{tock-ticked}
use Rattle.machine_laws.proofs.FineMoves.{natures, release_in}
use Rattle.world_laws.proofs.Places.Kept.Act.{AgentInside, InsideOrNone, MayAct, effect-leads}
use Rattle.ceiling_laws.proofs.Fine.Kept.Frames.{open_sequence-keeps}
use Rattle.world_laws.proofs.Places.Kept.Instant.{OtherMoves}
use Rattle.ceiling_laws.proofs.Fine.Kept.Scopes.{open_scope-alters}
use Rattle.world_laws.proofs.Places.RunLemmas.{Others, Settles, behind_onward, settles_onward}
use Rattle.world_laws.proofs.Places.TockLemmas.{tock-same}
use Rattle.ceiling_laws.proofs.Runs.Triples.{Leads, With, changes-keeps, from-leads, then-leads}
use Rattle.machine_laws.proofs.Kept.Run.{tock-parts}
use Rattle.machine_laws.proofs.Moves.{lines_of}
use Rattle.machine_laws.proofs.PlaceLemmas.{instants_place_by_lines, openings_place_by_lines, tocks_place_nobody}
use Rattle.machine_laws.proofs.TimeLemmas.{opening-runner}
use Rattle.machine_laws.specs.Reached.{Comes, before, opened, ticked}
use Rattle.profile_machine.specs.Dispatching.{head_of, ready, to_tail}
use Rattle.profile_machine.specs.Instant.{budgets_due, effect, effect_of_runner, events_due, finish_action}
use Rattle.profile_machine.specs.Instant.{instant, is_over, moments_due, quantum_spent, script_items, timers_due}
use Rattle.profile_machine.specs.Run.{blank_world, environment, environment_task, opening, opens, tock}
use Rattle.profile_machine.specs.Scopes.{open_scope, plainly}
use Rattle.profile_machine.specs.Steps.{Move, changes, is_part_before, placed_by, places_after, places_after_all, rests, says, settles, ◌▶◌}
use Rattle.profile_machine.specs.Tasks.{is_runnable, nobody, task_at, task_of}
use Rattle.profile_machine.specs.Frames.{frames_of}
use Rattle.profile_image.specs.Words.{same_who}
use Rattle.world_tables.specs.Lists.{first_of}
use Rattle.profile_image.specs.declared.image.Image.{Image}
use Rattle.profile_image.specs.declared.script_items.Item.{Item}
use Rattle.profile_machine.specs.declared.world.World.{World}
use Rattle.profile_machine.specs.declared.world.lines.Line.TheVariants as line
use Rattle.profile_machine.specs.declared.world.lines.Part.{Part}
use Rattle.profile_machine.specs.declared.world.lines.Part.TheVariants.{Own}
use Rattle.profile_machine.specs.declared.world.lines.Said.{Said}
use Rattle.profile_machine.specs.declared.world.marks.Purpose.TheVariants as opened_for
use Rattle.profile_machine.specs.declared.world.appointments.Release.{Release}
use Rattle.profile_machine.specs.declared.world.calls.Call.{Call}
use Rattle.profile_machine.specs.declared.world.marks.Frame.{Frame}
use Rattle.profile_machine.specs.declared.world.marks.Mark.TheVariants.{InProtected}
use Rattle.profile_machine.specs.declared.world.marks.ProtectedMark.{ProtectedMark}
use Rattle.profile_machine.specs.declared.world.tasks.Placed.{Placed}
use Rattle.profile_machine.specs.declared.world.tasks.Task.{Task}
use Rattle.std.proofs.Common.{ap, cond, inl, inr, le_refl, refl, subst, sym, ◌∙◌, ◌∷◌, ◌≡◌, ◌⊎◌}
use Rattle.std.specs.Prelude.{Bool, List, None, Option, Some, [], false, is_some, true, ℕ, ℤ, unwrap_or}
use Rattle.line_laws.proofs.Ticks.LineByLine.{Follow, seen_behind}
use Rattle.line_laws.proofs.Leaving.TaskLemmas.{same_self}
use Rattle.trace_text.specs.declared.events.Created.TheVariants as created
use Rattle.trace_text.specs.declared.events.Event.{Event}
use Rattle.trace_text.specs.declared.events.Who.{Who}
use Rattle.trace_text.specs.declared.events.Who.TheVariants as who
use Rattle.ceiling_laws.proofs.Places.SoundWorlds.{is_fresh}
use Rattle.ceiling_laws.proofs.Runs.Kept.Waking.{who-is}
use Rattle.ceiling_laws.proofs.Runs.SameLemmas.{found_is_who}
use Rattle.ceiling_laws.proofs.Places.EffectMoves.{Sleeping_in}
use Rattle.ceiling_laws.proofs.Places.PartOrder.{by_test}
use Rattle.ceiling_laws.proofs.Runs.Kept.Instant.{Appointing}
use Rattle.ceiling_laws.proofs.Runs.ShownPlaces.{places-append}

-- ---- where the ready queues have somebody

pub record Stands (p : Image) (places : List Placed) (d : ℕ) (n : Who) (c : Core) : Type 0 where
  pub at : IsAt p (spot_in n places) c
  pub shown : (runs_in c ≡ true) ⊎ ((spot_in n places ≡ None) ⊎ IsAbsent n c)
  pub fresh : is_fresh d n ≡ true → spot_in n places ≡ None
  pub ready : runs_in c ≡ true → is_some (spot_in n places) ≡ true

abbrev pub AllStand : Image → List Placed → World → Type 0
AllStand p places w = Sound w × ((n : Who) → Stands p places w.drawn.tasks n (core (task_of w n)))

abbrev placed_behind : List Placed → Event → List Placed
placed_behind places event = places_after event places

abbrev any_event : List Placed → Event → Bool
any_event places event = true

any_follow : (places : List Placed) (lines : List Event) → Follow placed_behind any_event places lines
any_follow places [] = tt
any_follow places (x ∷ xs) = (refl, any_follow (places_after x places) xs)

seen-placed : (places : List Placed) (lines : List Event) → seen_behind placed_behind any_event places lines ≡ places_after_all lines places
seen-placed places [] = refl
seen-placed places (x ∷ xs) = seen-placed (places_after x places) xs

-- what was said last of somebody is of the own part
abbrev OwnPut : Last → Type 0
OwnPut None = Unit {0}
OwnPut (Some r) = r.0 ≡ Own

module _ (p : Image) where
  stands_as : (sight : List Placed) (d : ℕ) (n : Who) (c : Core) (l : Last) (a : Who) (behind : List Placed) → spot_in n behind ≡ place p sight a n l
      → Good p sight a d n c l → Stands p behind d n c
  stands_as sight d n c l a behind is h = record {
    at = subst (λ q. IsAt p q c) (sym is) h.at;
    shown = subst (λ q. (runs_in c ≡ true) ⊎ ((q ≡ None) ⊎ IsAbsent n c)) (sym is) h.shown;
    fresh = λ e. is ∙ h.fresh e;
    ready = λ runs. ap is_some is ∙ h.ready runs;
  }

  -- an effect is over
  stands_behind : (sight : List Placed) (a : Who) (v : World) (xs : List Said) → Holds (Good p sight a) v xs
      → AllStand p (places_after_all (lines_of p xs) sight) (placed_by (lines_of p xs) v)
  unfolding Holds
  stands_behind sight a v xs h = (
    sound-plain v (placed_by (lines_of p xs) v) refl refl refl refl h.0,
    λ n. subst (Stands p (places_after_all (lines_of p xs) sight) v.drawn.tasks n) (sym (core-plain v (placed_by (lines_of p xs) v) n refl refl))
        (stands_as sight v.drawn.tasks n (core (task_of v n)) (last_put n xs) a (places_after_all (lines_of p xs) sight) (spot-in_order p n sight xs) (h.1 n)),
  )

  over : (sight : List Placed) (a : Who) → Settles placed_behind any_event (AllStand p) p sight (Holds (Good p sight a))
  over sight a v xs h = record {
    follow = any_follow sight (lines_of p xs);
    shows = subst (λ s. AllStand p s (placed_by (lines_of p xs) v)) (sym (seen-placed sight (lines_of p xs))) (stands_behind sight a v xs h);
  }

  -- ---- the effect of who acts

  good-first : (sight : List Placed) (a n : Who) (d : ℕ) (c : Core) → Stands p sight d n c → Good p sight a d n c None
  good-first sight a n d c h = record { late = tt; at = h.at; shown = h.shown; fresh = h.fresh; ready = h.ready; calm = λ apart. (tt, λ sleeps. refl) }

  acts_first : (sight : List Placed) (a : Who) (w : World) → is_fresh w.drawn.tasks a ≡ false → runs_in (core (task_of w a)) ≡ true → AllStand p sight w
      → Holds (First p sight a) w []
  unfolding Holds
  acts_first sight a w drawn runs h = (
    h.0,
    λ n. (
      good-first sight a n w.drawn.tasks (core (task_of w n)) (h.1 n),
      λ same. (ap (is_fresh w.drawn.tasks) (who-is n a same) ∙ drawn, ap (λ m. runs_in (core (task_of w m))) (who-is n a same) ∙ runs, refl),
    ),
  )

  effect-stands : (sight : List Placed) (a : Who) (w : World) → MayAct a w → is_fresh w.drawn.tasks a ≡ false → runs_in (core (task_of w a)) ≡ true
      → AllStand p sight w →
      let behind = settles p (effect p a) w in
      AllStand p (places_after_all behind.1 sight) behind.0
  effect-stands sight a w may drawn runs h =
      subst (λ s. AllStand p s (settles p (effect p a) w).0) (seen-placed sight (settles p (effect p a) w).1)
      (settles_onward placed_behind any_event (AllStand p) p sight (With (Holds (First p sight a)) (MayAct a)) (Holds (Good p sight a)) (effect p a) w
      (over sight a) (effect-leads (effect_moves p sight a)) (acts_first sight a w drawn runs h, may)).shows

  -- who acts stands there, so it is ready
  shown-drawn : (sight : List Placed) (n : Who) (d : ℕ) (spot : Spot) (c : Core) → spot_in n sight ≡ Some spot → Stands p sight d n c → is_fresh d n ≡ false
  shown-drawn sight n d spot c found h =
      by_test (is_fresh d n) (λ fresh. absurd (let clash : Some spot ≡ None = sym found ∙ h.fresh fresh in cc)) (λ apart. apart)

  there-apart : {P : Type 0} (n : Who) (w : World) (found : Option Task) → task_at w n ≡ found → is_over (unwrap_or found nobody).ticks_left ≡ true
      → IsAbsent n (core (unwrap_or found nobody)) → P
  there-apart n w None is acts absent = absurd cc
  there-apart (who.Task t) w (Some x) is acts absent = not-absent (who.Task t) x (λ u. u) (λ task. found_is_who (who.Task t) x w.tasks is) refl absent
  there-apart who.Agent w (Some x) is acts absent = absurd (let clash : true ≡ false = absent.0 in cc)

  shown-runs : (sight : List Placed) (n : Who) (w : World) (spot : Spot) → spot_in n sight ≡ Some spot → is_over (task_of w n).ticks_left ≡ true
      → (runs_in (core (task_of w n)) ≡ true) ⊎ ((spot_in n sight ≡ None) ⊎ IsAbsent n (core (task_of w n))) → runs_in (core (task_of w n)) ≡ true
  shown-runs sight n w spot found acts (inl runs) = runs
  shown-runs sight n w spot found acts (inr (inl hidden)) = absurd (let clash : Some spot ≡ None = sym found ∙ hidden in cc)
  shown-runs sight n w spot found acts (inr (inr absent)) = there-apart n w (task_at w n) refl acts absent

  -- ---- what comes about beside it

  Beside : List Placed → Point
  Beside sight d n c l = Good p sight who.Agent d n c l × OwnPut l

  own-free : (l : Last) → OwnPut l → FreeFor Own l
  own-free None own = tt
  own-free (Some last) own = ap (is_part_before Own) own

  own_if : (b : Bool) (last : Part × Option Spot) (q : Option Spot) → last.0 ≡ Own → OwnPut (cond b (Some last) (Some (Own, q)))
  own_if true last q own = own
  own_if false last q own = refl

  own-put : (l : Last) (part : Part) (q : Option Spot) → part ≡ Own → OwnPut l → OwnPut (with_put l part (Some q))
  own-put None part q is own = is
  own-put (Some last) part q is own = subst (λ r. OwnPut (with_put (Some last) r (Some q))) (sym is) (own_if (is_part_before Own last.0) last q own)

  beside_fits : (sight : List Placed) (part : Part) (n : Who) → part ≡ Own → Fits p sight who.Agent part n
  beside_fits sight part n is = subst (λ q. is_part_before (limit p sight who.Agent n) q ≡ false) (sym is) (fits_own p sight who.Agent n)

  beside_wakeful : (sight : List Placed) → Wakeful p (λ part name. part ≡ Own) (Beside sight)
  unfolding Beside
  beside_wakeful sight = record {
    rises = λ d n t l i named sleeps h. (good-rises p sight who.Agent d n t l i named sleeps h.0, h.1);
    wakes = λ part d n c e l is drawn sleeps runs h. (
      placed-good p sight who.Agent d n e l part (beside_fits sight part n is) drawn h.0.late (subst (λ q. FreeFor q l) (sym is) (own-free l h.1)) (inl runs)
          (λ apart. (h.0.calm apart).0),
      own-put l part (Some (spot_for p e)) is h.1,
    );
  }

  IsDrawn : Appointing
  IsDrawn w t = is_fresh w.drawn.tasks (who.Task t) ≡ false

  record Coming (sight : List Placed) (n : Who) (d : ℕ) (c : Core) (l : Last) : Type 0 where
    late : MayBePlaced (limit p sight who.Agent n) l
    own : OwnPut l
    free : same_who n who.Agent ≡ false → FreeFor (limit p sight who.Agent n) l
    drawn : is_fresh d n ≡ false
    runs : (runs_in c ≡ true) ⊎ IsAbsent n c

  -- a task for which a moment was appointed
  Awaited : List Placed → Who → Point
  Awaited sight n = Knowing (Beside sight) n (λ d c. is_fresh d n ≡ false)

  coming : (sight : List Placed) (n : Who) → Readies p (Awaited sight n) (Beside sight) n Own
  unfolding Awaited Beside
  coming sight n = record {
    between = Coming sight n;
    others = λ d m c l apart h. h.0;
    own = λ d t l h. record { late = h.0.0.late; own = h.0.1; free = λ apart. (h.0.0.calm apart).0; drawn = h.1 (same_self n); runs = inl refl };
    missed = λ d l task h. record { late = h.0.0.late; own = h.0.1; free = λ apart. (h.0.0.calm apart).0; drawn = h.1 (same_self n); runs = inr (task, refl) };
    keeps = λ d t l level named h. record {
      late = h.late;
      own = h.own;
      free = h.free;
      drawn = h.drawn;
      runs = begun_runs p sight who.Agent n t level named h.runs;
    };
    places = λ d c l h. (
      placed-good p sight who.Agent d n c l Own (fits_own p sight who.Agent n) h.drawn h.late (own-free l h.own) h.runs h.free,
      own-put l Own (Some (spot_for p c)) refl h.own,
    );
  }

  awaited_readies : (sight : List Placed) (t : TaskNo)
      → Leads (With (Holds (Beside sight)) (λ w. IsDrawn w t)) (Holds (Beside sight)) (ready p Own (who.Task t))
  unfolding Awaited IsDrawn
  awaited_readies sight t =
      from-leads (ready p Own (who.Task t)) (λ w said h. holds-knowing (Beside sight) (who.Task t) (λ d c. is_fresh d (who.Task t) ≡ false) w said h.1 h.0)
      (ready-holds p (Awaited sight (who.Task t)) (Beside sight) (who.Task t) Own (coming sight (who.Task t)))

  -- a task that runs goes to the tail
  Running : List Placed → Who → Point
  Running sight n = Knowing (Beside sight) n (λ d c. (runs_in c ≡ true) × (is_fresh d n ≡ false))

  running_places : (sight : List Placed) (n : Who) → Places (Running sight n) (Beside sight) n Own (at_active p)
  unfolding Running Beside
  running_places sight n = record {
    others = λ d m c l apart h. h.0;
    own = λ d c l h.
        let k = h.1 (same_self n) in (
          placed-good p sight who.Agent d n c l Own (fits_own p sight who.Agent n) k.1 h.0.0.late (own-free l h.0.1) (inl k.0) (λ apart. (h.0.0.calm apart).0),
          own-put l Own (Some (spot_for p c)) refl h.0.1,
        );
  }

  is_running : (sight : List Placed) (n : Who) (w : World) (said : List Said) → runs_in (core (task_of w n)) ≡ true → Holds (Beside sight) w said
      → Holds (Running sight n) w said
  unfolding Running
  is_running sight n w said runs h =
      holds-knowing (Beside sight) n (λ d c. (runs_in c ≡ true) × (is_fresh d n ≡ false)) w said
      (runs, runs-drawn p sight who.Agent n w runs (known w n (holds-sound (Beside sight) w said h))) h

  running_tails : (sight : List Placed) (n : Who)
      → Leads (With (Holds (Beside sight)) (λ w. is_runnable (task_of w n) ≡ true)) (Holds (Beside sight)) (to_tail p Own n)
  running_tails sight n =
      from-leads (to_tail p Own n) (λ w said h. is_running sight n w said h.1 h.0)
      (to_tail-holds p (Running sight n) (Beside sight) n Own (running_places sight n))

  beside_others : (sight : List Placed) → OtherMoves p Sleeping_in IsDrawn (Holds (Beside sight))
  unfolding IsDrawn
  beside_others sight = record {
    base = base_moves (Beside sight) (beside_wakeful sight);
    drawn = λ v said t h e. (holds-sound (Beside sight) v said h).delays t e;
    drawn_on = λ a b t same k. ap (λ d. is_fresh d (who.Task t)) same.drawn_tasks ∙ k;
    readies = awaited_readies sight;
    tails = λ t. running_tails sight (who.Task t);
  }

  beside_starts : (sight : List Placed) (w : World) → AllStand p sight w → Holds (Beside sight) w []
  unfolding Holds Beside
  beside_starts sight w h = (h.0, λ n. (good-first sight who.Agent n w.drawn.tasks (core (task_of w n)) (h.1 n), tt))

  beside_good : (sight : List Placed) (w : World) (said : List Said) → Holds (Beside sight) w said → Holds (Good p sight who.Agent) w said
  unfolding Beside
  beside_good sight w said h = holds-also (Beside sight) (Good p sight who.Agent) (λ d n c l k. k.0) w said h

  beside : Others placed_behind any_event (AllStand p) p
  beside sight = (
    Holds (Beside sight),
    Sleeping_in,
    IsDrawn,
    beside_others sight,
    beside_starts sight,
    (λ v xs h. over sight who.Agent v xs (beside_good sight v xs h)),
  )

  -- ---- the opening

  blank-sound : (script : List (ℤ × Item)) → Sound (blank_world p script)
  blank-sound script = record { names = (le_refl 0, le_refl 1); named = refl; agent = tt; delays = λ t e. absurd cc }

  -- nobody stands anywhere, and only the environment task runs
  Opening : Point
  Opening = Except (Beside []) environment (λ d n c l. (l ≡ None) × (runs_in c ≡ true) × (is_fresh d environment ≡ false))

  blank-idle : {P : Type 0} (script : List (ℤ × Item)) (n : Who) → same_who n environment ≡ false → runs_in (core (task_of (blank_world p script) n)) ≡ true → P
  blank-idle script (who.Task k) apart runs =
      nobody-runs (sym (ap (λ b. runs_in (core (unwrap_or (cond b (Some (environment_task p)) None) nobody))) apart) ∙ runs)
  blank-idle script who.Agent apart runs = absurd (let clash : false ≡ true = runs in cc)

  opening_starts : (script : List (ℤ × Item)) → Holds Opening (blank_world p script) []
  unfolding Holds Opening Beside
  opening_starts script = (
    blank-sound script,
    λ n. (
      (λ apart. (
        record {
          late = tt;
          at = tt;
          shown = inr (inl refl);
          fresh = λ e. refl;
          ready = λ runs. blank-idle script n apart runs;
          calm = λ other. (tt, λ sleeps. refl);
        },
        tt,
      )),
      (λ same. (refl, ap (λ m. runs_in (core (task_of (blank_world p script) m))) (who-is n environment same), refl)),
    ),
  )

  opening_places : Places Opening (Beside []) environment Own (at_active p)
  unfolding Opening Beside
  opening_places = record {
    others = λ d n c l apart h. h.0 apart;
    own = λ d c l h.
        let k = h.1 (same_self environment) in (
          placed-good p [] who.Agent d environment c l Own (fits_own p [] who.Agent environment) k.2
              (subst (MayBePlaced (limit p [] who.Agent environment)) (sym k.0) tt) (none-free Own l k.0) (inl k.1)
              (λ apart. none-free (limit p [] who.Agent environment) l k.0),
          own-put l Own (Some (spot_for p c)) refl (subst OwnPut (sym k.0) tt),
        );
  }

  opens-stands : Leads (Holds Opening) (Holds (Beside [])) (opens p)
  unfolding opens
  opens-stands =
      then-leads (changes (open_scope p environment p.environment (plainly None) opened_for.Task)) _
      (changes-keeps _ (open_scope-alters (holds_quiet Opening) p environment p.environment (plainly None) opened_for.Task))
      (then-leads (says Own (line.New (created.Task (record { 0 = 0 })) None p.main.priority)) _
      (keeps_says Opening Own (line.New (created.Task (record { 0 = 0 })) None p.main.priority) (λ n. refl))
      (then-leads (to_tail p Own environment) _ (to_tail-holds p Opening (Beside []) environment Own opening_places)
      (open_sequence-keeps (holds_quiet (Beside [])) p Own environment)))

  opening-stands : (script : List (ℤ × Item)) → AllStand p (places_after_all (opening p script).1 []) (opening p script).0
  opening-stands script =
      subst (λ s. AllStand p s (opening p script).0) (seen-placed [] (opening p script).1)
      (settles_onward placed_behind any_event (AllStand p) p [] (Holds Opening) (Holds (Beside [])) (opens p) (blank_world p script)
      (λ v xs h. over [] who.Agent v xs (beside_good [] v xs h)) opens-stands (opening_starts script)).shows

  -- ---- a tock

  stands_on : (sight behind : List Placed) (d e : ℕ) (n : Who) (b c : Core) → spot_in n behind ≡ spot_in n sight → e ≡ d → c ≡ b → Stands p sight d n b
      → Stands p behind e n c
  stands_on sight behind d e n b c shown drawn same h = record {
    at = subst (λ q. IsAt p q c) (sym shown) (subst (IsAt p (spot_in n sight)) (sym same) h.at);
    shown =
        subst (λ q. (runs_in c ≡ true) ⊎ ((q ≡ None) ⊎ IsAbsent n c)) (sym shown)
        (subst (λ x. (runs_in x ≡ true) ⊎ ((spot_in n sight ≡ None) ⊎ IsAbsent n x)) (sym same) h.shown);
    fresh = λ f. shown ∙ h.fresh (ap (λ x. is_fresh x n) (sym drawn) ∙ f);
    ready = λ runs. ap is_some shown ∙ h.ready (ap runs_in (sym same) ∙ runs);
  }

  tock-stands : (w : World) → AllStand p w.places w → AllStand p (tock p w).0.places (tock p w).0
  tock-stands w h =
      let behind = (tock p w).0 in
      let same = tock-same p w in (
        sound-same w behind same h.0,
        λ n. stands_on w.places behind.places w.drawn.tasks behind.drawn.tasks n (core (task_of w n)) (core (task_of behind n))
            (ap (spot_in n) (tocks_place_nobody p w)) same.drawn_tasks (core-same w behind n same) (h.1 n),
      )

  -- ---- an instant

  abbrev Behind : List Placed → World × List Event → Type 0
  Behind sight behind = AllStand p (places_after_all behind.1 sight) behind.0

  effect_if-stands : (sight : List Placed) (w : World) (name : Who) (test : Bool) → AllStand p sight w
      → (test ≡ true → Behind sight (settles p (effect p name) w))
      → Behind sight ((elim test as (λ _. Move) [ true ↦ settles p (effect p name) | false ↦ rests ]) w)
  effect_if-stands sight w name true h acts = acts refl
  effect_if-stands sight w name false h acts = h

  effect_of-stands : (sight : List Placed) (w : World) (ran : Option Who) → ((name : Who) → MayAct name w) → w.ran ≡ ran → AllStand p sight w
      → ((name : Who) → w.ran ≡ Some name → (spot : Spot) × (spot_in name sight ≡ Some spot)) → Behind sight (effect_of_runner p ran w)
  effect_of-stands sight w None may is h acts = h
  effect_of-stands sight w (Some name) may is h acts =
      effect_if-stands sight w name (is_over (task_of w name).ticks_left) h (λ ends.
      let stands = acts name is in
      effect-stands sight name w (may name) (shown-drawn sight name w.drawn.tasks stands.0 (core (task_of w name)) stands.1 (h.1 name))
      (shown-runs sight name w stands.0 stands.1 ends (h.1 name).shown) h)

  instant-stands : (sight : List Placed) (w : World) → ((name : Who) → MayAct name w) → AllStand p sight w
      → ((name : Who) → w.ran ≡ Some name → (spot : Spot) × (spot_in name sight ≡ Some spot)) → Behind sight (instant p w)
  instant-stands sight w may h acts =
      let first = finish_action p w in
      let later = (script_items p ▶ events_due p ▶ moments_due p ▶ timers_due p ▶ budgets_due p ▶ quantum_spent p) first.0 in
      subst (λ s. AllStand p s later.0) (seen-placed (places_after_all first.1 sight) later.1 ∙ sym (places-append sight first.1 later.1))
      (behind_onward placed_behind any_event (AllStand p) beside (places_after_all first.1 sight) first.0
      (effect_of-stands sight w w.ran may refl h acts)).shows

-- ---- a run

runner-first : (p : Image) (script : List (ℤ × Item)) (bound : ℕ) (w : World) (name : Who) → Comes p script bound w → w.ran ≡ Some name
    → head_of w.places ≡ Some name
runner-first p script bound _ name opened e = absurd (let none : None ≡ Some name = sym (opening-runner p script) ∙ e in cc)
runner-first p script bound _ name (ticked w comes going) e =
    let behind = (instant p w).0 in
    ap head_of (tocks_place_nobody p behind) ∙ sym (ap (λ a. a.0.ran) (tock-parts p behind)) ∙ e

head-spot : (name : Who) (places : List Placed) → head_of places ≡ Some name → (spot : Spot) × (spot_in name places ≡ Some spot)
head-spot name [] e = absurd cc
head-spot name (x ∷ xs) e =
    let one : x.who ≡ name = cc in
    ((x.level, x.deadline), ap (λ b. cond b (Some (x.level, x.deadline)) (spot_in name xs)) (ap (same_who name) one ∙ same_self name))

-- the agent acts where it attends to a release, so inside a protected action
comes-attends : (p : Image) (script : List (ℤ × Item)) (bound : ℕ) (w : World) → Comes p script bound w → Attending w
comes-attends p script bound _ opened = (opening-attended p script).attending
comes-attends p script bound _ (ticked w comes going) =
    (tock-ticked p (instant p w).0 (instant-attended p w (comes-attends p script bound w comes)).attending).attending

standing-inside : (frames : List Frame) → Standing (natures frames) → InsideOrNone frames
standing-inside [] h = inl refl
standing-inside (f ∷ fs) h = inr (rooted-inside (f ∷ fs) h)

no-marks : (frames : List Frame) → natures frames ≡ [] → InsideOrNone frames
no-marks [] e = inl refl
no-marks (f ∷ fs) e = absurd cc

marked-inside : (serving : Option Release) (frames : List Frame) → Marked serving (natures frames) → InsideOrNone frames
marked-inside None frames h = no-marks frames h
marked-inside (Some r) frames h = standing-inside frames h

comes-inside : (p : Image) (script : List (ℤ × Item)) (bound : ℕ) (w : World) → Comes p script bound w → AgentInside w
comes-inside p script bound w comes = marked-inside w.serving w.agent.frames (comes-attends p script bound w comes).marks

-- who entered with a call of its own made it, and no release ends with an action of a task
own_top : (calls : List Call) (last : ℕ) (name : Who) (frames : List Frame) (f : Frame) (m : ProtectedMark) (c : CallNo) → first_of frames ≡ Some f
    → f.mark ≡ InProtected m → m.own_call ≡ Some c → OwnIn calls last name (own.natures frames) → CallerIn calls last c name
own_top calls last name frames f m c top mark e h =
    let found = has_top frames f top in
    (subst (λ fs. OwnIn calls last name (own.natures fs)) found.1 h).0 c (ap own.nature mark ∙ e)

no_release : (w : World) (name : Who) (f : Frame) (m : ProtectedMark) (r : ℕ) → Attending w → first_of (frames_of w name) ≡ Some f → f.mark ≡ InProtected m
    → m.release ≡ Some r → who.Agent ≡ name
no_release w who.Agent f m r h top mark e = refl
no_release w (who.Task n) f m r h top mark e =
    let found = has_top (frames_of w (who.Task n)) f top in
    let free : MarksFree h.colour w.drawn.regions (natures (f ∷ found.0)) =
    subst (λ fs. MarksFree h.colour w.drawn.regions (natures fs)) found.1 (marks-free h.colour w (who.Task n) tt h.apart) in
    absurd (let clash : None ≡ Some r = sym free.0 ∙ ap release_in mark ∙ e in cc)

comes-may : (p : Image) (script : List (ℤ × Item)) (bound : ℕ) (w : World) → Comes p script bound w → (name : Who) → MayAct name w
comes-may p script bound w comes name = record {
  inside = comes-inside p script bound w comes;
  tops = λ f m top mark. (
    (λ c e. own_top w.calls w.drawn.calls name (frames_of w name) f m c top mark e ((reached-good p script bound w (before w comes)).owned name)),
    (λ r e. no_release w name f m r (comes-attends p script bound w comes) top mark e),
  );
}

pub instant-places : (p : Image) (script : List (ℤ × Item)) (bound : ℕ) (w : World) → Comes p script bound w → AllStand p w.places w
    → AllStand p (instant p w).0.places (instant p w).0
instant-places p script bound w comes h =
    subst (λ places. AllStand p places (instant p w).0) (sym (instants_place_by_lines p w))
    (instant-stands p w.places w (comes-may p script bound w comes) h (λ name ran. head-spot name w.places (runner-first p script bound w name comes ran)))

pub comes-stands : (p : Image) (script : List (ℤ × Item)) (bound : ℕ) (w : World) → Comes p script bound w → AllStand p w.places w
comes-stands p script bound _ opened =
    subst (λ places. AllStand p places (opening p script).0) (sym (openings_place_by_lines p script)) (opening-stands p script)
comes-stands p script bound _ (ticked w comes going) =
    tock-stands p (instant p w).0 (instant-places p script bound w comes (comes-stands p script bound w comes))
