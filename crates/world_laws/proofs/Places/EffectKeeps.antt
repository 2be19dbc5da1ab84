-- Effects leave whoever is ready at its active priority and with its deadline, and who is not ready nowhere.
use Rattle.ann_base.specs.declared.exceptions.Raised.TheVariants as exception
use Rattle.ann_base.specs.declared.identities.TaskNo.{TaskNo}
use Rattle.world_laws.proofs.Places.CorePoints.{Except, Holds, IsAt, Knowing, Places, Point, Readies, Turns, holds-also, holds-edit, holds-knowing, holds-of}
use Rattle.world_laws.proofs.Places.CorePoints.{holds-plain, holds-sound, holds_quiet, keeps_says, not-absent, ready-holds, spot_for, to_tail-holds}
use Rattle.world_laws.proofs.Places.EditPoints.{holds-forget, AddedAs, add-found, nowhere, done-holds, block-holds}
use Rattle.world_laws.proofs.Places.EffectMoves.{Wakeful, actor_places, base_moves, base_set_or_deferred, ceases_resting, dates, deadline_set_or_deferred}
use Rattle.world_laws.proofs.Places.EffectMoves.{deferred_set, gained_later, dying_wakeful, ended_resting, ending_wakeful, gone_wakeful, good-choosing, good_wakeful}
use Rattle.world_laws.proofs.Places.EffectMoves.{keeps_turns, later-kept, later-rises, later-wakes, later_wakeful, lost_later, nobody-acts, owed_loses, owes_since}
use Rattle.world_laws.proofs.Places.EffectMoves.{owing_wakeful, made-asleep, paid, rests_choosing, self_apart, since_wakeful, starts_later, tails_later, undated_loose}
use Rattle.world_laws.proofs.Places.SoundWorlds.{IsAbsent, Sound, all-apart, all_there, known, sound-add, sound-appoint, sound-edit, sound-plain, sound-task}
use Rattle.world_laws.proofs.Places.Standing.{Choosing, ChoosingSince, Dying, Ending, First, Fits, FreeFor, Gone, Good, IsShownRightly, IsUnmade, Last, Later, Loose, Owing}
use Rattle.world_laws.proofs.Places.Standing.{Resting, Since, Undated, at-out, awake, begun_awake, block-put, blocked-good, fits_finish, fits_other, fits_own, free-may, is_among}
use Rattle.world_laws.proofs.Places.Standing.{limit, limit-other, nobody-runs, nobody-sleeps, none-free, place, placed-good, put-free, put-late, put-out, runs_in, sleeps_in}
use Rattle.world_laws.proofs.Places.Puts.{MayBePlaced, last_put, spot_in, with_put}
use Rattle.world_laws.proofs.Places.ActingMoves.{ActingMoves, IsNew, LaterMoves, SelectMoves}
use Rattle.ceiling_laws.proofs.Runs.FreeMoves.{anywhere}
use Rattle.ceiling_laws.proofs.Fine.Kept.CallEnds.{deliver-keeps}
use Rattle.ceiling_laws.proofs.Fine.Kept.Declarations.{set_thing-same}
use Rattle.ceiling_laws.proofs.Fine.Kept.Frames.{raises-keeps}
use Rattle.world_laws.proofs.Places.Kept.Rendezvous.{begin_accept-keeps, finish_without_room-keeps}
use Rattle.ceiling_laws.proofs.Fine.Kept.Tasks.{same-alters}
use Rattle.ceiling_laws.proofs.Fine.SameLemmas.{edit_task-same}
use Rattle.ceiling_laws.proofs.Runs.Triples.{Alters, Keeps, Leads, State, With, changes-keeps, changes-leads, for_some-keeps, from-leads, looks-keeps, nothing-leads, then-keeps, then-leads}
use Rattle.ceiling_laws.proofs.Fine.Cores.{Core, Same, core}
use Rattle.profile_machine.specs.Appointments.{appoint}
use Rattle.profile_machine.specs.CallEnds.{deliver}
use Rattle.profile_machine.specs.Declarations.{says_object, set_thing, with_object}
use Rattle.profile_machine.specs.Dispatching.{block, ready, says_block, to_tail, without_kept_level, word_of}
use Rattle.profile_machine.specs.Frames.{edit_first, edit_top, goes, goes_on}
use Rattle.profile_machine.specs.Inheritance.{inherit, lose, same_cause}
use Rattle.profile_machine.specs.Masters.{forget_task, waits_at_terminate}
use Rattle.profile_machine.specs.Priorities.{set_or_defer_base, set_or_defer_deadline}
use Rattle.profile_image.specs.Program.{next_of, protected_unit_of}
use Rattle.profile_machine.specs.Rendezvous.{begin_accept, finish_without_room, meet_without_room}
use Rattle.profile_machine.specs.Steps.{changes, for_some, is_part_before, looks, says, ◌▷◌}
use Rattle.profile_machine.specs.Tasking.{activated_task, add_task, create_task, says_created, says_done}
use Rattle.profile_machine.specs.Tasks.{edit_task, is_made, is_made_state, is_runnable_state, nobody, task_of, waiting_in, waiting_of, with_frames, with_state}
use Rattle.profile_image.specs.Words.{same_who, without}
use Rattle.profile_image.specs.declared.image.Image.{Image}
use Rattle.profile_image.specs.declared.numbers.DeclNo.{DeclNo}
use Rattle.profile_image.specs.declared.numbers.ProtectedUnitNo.{ProtectedUnitNo}
use Rattle.profile_image.specs.declared.numbers.StatementNo.{StatementNo}
use Rattle.profile_image.specs.declared.values.Value.TheVariants as value_of
use Rattle.profile_machine.specs.declared.world.World.{World}
use Rattle.profile_machine.specs.declared.world.appointments.Due.TheVariants as due_for
use Rattle.profile_machine.specs.declared.world.calls.Call.{Call}
use Rattle.profile_machine.specs.declared.world.calls.Outcome.TheVariants as call_ended
use Rattle.profile_machine.specs.declared.world.lines.Line.TheVariants as line
use Rattle.profile_machine.specs.declared.world.lines.Part.{Part}
use Rattle.profile_machine.specs.declared.world.lines.Part.TheVariants.{OfOther, Own, TheBlock, TheFinish, ThePlacing}
use Rattle.profile_machine.specs.declared.world.lines.Said.{Said}
use Rattle.profile_machine.specs.declared.world.scopes.Located.{Located}
use Rattle.profile_machine.specs.declared.world.scopes.ScopeId.{ScopeId}
use Rattle.profile_machine.specs.declared.world.tasks.Cause.TheVariants as inherited_by
use Rattle.profile_machine.specs.declared.world.tasks.Placed.{Placed}
use Rattle.profile_machine.specs.declared.world.tasks.State as tasks
use Rattle.profile_machine.specs.declared.world.tasks.State.TheVariants.{Blocked, Made, Runnable}
use Rattle.profile_machine.specs.declared.world.tasks.Task.{Task}
use Rattle.profile_machine.specs.declared.world.tasks.Waiting.{Waiting}
use Rattle.profile_machine.specs.declared.world.tasks.Waiting.TheVariants as waits_for
use Rattle.std.proofs.Common.{ap, inl, inr, refl, subst, sym, ◌∙◌, ◌∷◌, ◌≡◌, ◌⊎◌}
use Rattle.std.specs.Prelude.{List, None, Option, Some, [], false, suc, true, ℕ, ℤ, ◌-◌, ◌||◌}
use Rattle.std.proofs.lemmas.Bool.{or_right}
use Rattle.trace_text.specs.declared.events.Created.TheVariants as created
use Rattle.trace_text.specs.declared.events.Who.{Who}
use Rattle.trace_text.specs.declared.events.Who.TheVariants as who
use Rattle.ceiling_laws.proofs.Places.EffectKeeps.{drawn-more, fresh-less, fresh-next, made-apart, made-unblocked}
use Rattle.ceiling_laws.proofs.Places.SoundWorlds.{IsThere, Unactivated, each-on, is_agent, is_fresh, unactivated-loses, unactivated_without}
use Rattle.ceiling_laws.proofs.Runs.Kept.Waking.{waiting-blocked, who-is}
use Rattle.ceiling_laws.proofs.Runs.LevelMoves.{EachTask, Fitting, is_blocked}
use Rattle.ceiling_laws.proofs.Places.EffectMoves.{Sleeping_in, clash_of}
use Rattle.ceiling_laws.proofs.Places.PartOrder.{by_test}
use Rattle.ceiling_laws.proofs.Places.Standing.{apart-sym}
use Rattle.line_laws.proofs.Leaving.TaskLemmas.{same_self}

running-awake : (state : tasks.State) → is_runnable_state state ≡ true → is_blocked state ≡ false
running-awake Made runs = absurd cc
running-awake Runnable runs = refl
running-awake (Blocked waiting) runs = absurd cc

-- who is among these has only been made
among_made : (p : Image) (s : List Placed) (a : Who) (v : World) (n : Who) (rest : List Task) → EachTask (λ t. IsUnmade p s a v t.who) rest → is_among n rest ≡ true
    → is_made_state (task_of v n).state ≡ true
among_made p s a v n [] each among = absurd cc
among_made p s a v n (t ∷ rest) each among =
    by_test (same_who n t.who)
    (λ same. ap (λ m. is_made_state (task_of v m).state) (who-is n t.who same) ∙ each.0.made)
    (λ apart. among_made p s a v n rest each.1 (ap (λ b. b || is_among n rest) (sym apart) ∙ among))

module _ (p : Image) (s : List Placed) (a : Who) where
  abbrev Held : Point → State
  Held P = Holds P

  abbrev Whole : Point
  Whole = Later p s a

  abbrev Rested : Point
  Rested = Resting p s a

  -- ---- somebody blocks

  -- before the line: who acts is there and sleeps, and not at an open terminate alternative
  Blocking : Point
  Blocking = Except Whole a (λ d n c l. (is_fresh d a ≡ false) × (sleeps_in c ≡ true) × (waits_at_terminate (waiting_in c.state) ≡ false))

  block_turns : (waiting : Waiting) → waits_at_terminate (Some waiting) ≡ false → Turns Whole Blocking a (with_state (Blocked waiting))
  unfolding Blocking
  block_turns waiting rests = record {
    others = λ d n c l apart h. ((λ e. h), (λ same. clash_of (same_who n a) same apart));
    own = λ d t l is h. ((λ apart. self_apart p s a a apart), (λ self. ((h.1 self).0, refl, rests)));
    missed = λ d l task h. ((λ apart. self_apart p s a a apart), (λ self. nobody-acts p s a l (h.1 self).1));
  }

  unkept_turns : Turns Blocking Blocking a without_kept_level
  unfolding Blocking
  unkept_turns = keeps_turns p s a Blocking a without_kept_level (λ d t l is h. ((λ apart. self_apart p s a a apart), (λ self. h.1 self)))

  block_places : Places Blocking Rested a TheBlock nowhere
  unfolding Blocking nowhere
  block_places = record {
    others = λ d n c l apart h. ((h.0 apart).0, λ same. clash_of (same_who n a) same apart);
    own = λ d c l h.
        let k = h.1 (same_self a) in
        let out = block-put l in
        (subst (Good p s a d a c) (sym out) (blocked-good p s a d a c (Some (TheBlock, None)) (same_self a) k.1 refl), λ same. k.2);
  }

  blocks_from : (P : Point) (waiting : Waiting) → Turns P Blocking a (with_state (Blocked waiting)) → Leads (Held P) (Held Rested) (block TheBlock a waiting)
  unfolding block says_block
  blocks_from P waiting turns =
      then-leads (changes (edit_task a (with_state (Blocked waiting)))) _
      (changes-leads (edit_task a (with_state (Blocked waiting)))
      (λ w said h.
      holds-edit P Blocking a (with_state (Blocked waiting)) w said (λ t. refl) (sound-edit a (with_state (Blocked waiting)) w (λ t. refl) (λ t k. k) (holds-sound P w said h)) turns h))
      (then-leads (changes (edit_task a without_kept_level)) _
      (changes-leads (edit_task a without_kept_level)
      (λ w said h. holds-edit Blocking Blocking a without_kept_level w said (λ t. refl) (sound-edit a without_kept_level w (λ t. refl) (λ t k. k) (holds-sound Blocking w said h)) unkept_turns h))
      (block-holds Blocking Rested a (word_of waiting) block_places))

  blocks_later : (waiting : Waiting) → waits_at_terminate (Some waiting) ≡ false → Leads (Held Whole) (Held Rested) (block TheBlock a waiting)
  blocks_later waiting rests = blocks_from Whole waiting (block_turns waiting rests)

  -- who acts has been given a deadline
  dated_block_turns : (waiting : Waiting) → waits_at_terminate (Some waiting) ≡ false → Turns (Undated p s a a) Blocking a (with_state (Blocked waiting))
  unfolding Blocking
  dated_block_turns waiting rests = record {
    others = λ d n c l apart h. ((λ e. h.0 e), (λ same. clash_of (same_who n a) same apart));
    own = λ d t l is h. ((λ apart. self_apart p s a a apart), (λ self. (((h.1 self).0.acting self).0, refl, rests)));
    missed = λ d l task h. ((λ apart. self_apart p s a a apart), (λ self. nobody-acts p s a l ((h.1 self).0.acting self).1));
  }

  dated_acts : (d : ℕ) (c : Core) (l : Last) → Undated p s a a d a c l → is_fresh d a ≡ false
  dated_acts d c l h = ((h.1 (same_self a)).0.acting (same_self a)).0

  dated_tail : Leads (Held (Undated p s a a)) (Held Whole) (to_tail p ThePlacing a)
  dated_tail = from-leads (to_tail p ThePlacing a) (undated_loose p s a a) (to_tail-holds p (Loose p s a a) Whole a ThePlacing (actor_places p s a))

  -- ---- another becomes ready

  -- between the change of its state and its line
  record Begun (drawn : ℕ) (name : Who) (d : ℕ) (c : Core) (l : Last) : Type 0 where
    late : FreeFor (limit p s a name) l
    runs : (runs_in c ≡ true) ⊎ IsAbsent name c
    size : d ≡ drawn

  pub begun_runs : (name : Who) (t : Task) (level : Option ℕ) → (is_agent name ≡ false → same_who name t.who ≡ true) → (runs_in (core t) ≡ true) ⊎ IsAbsent name (core t)
      → (runs_in (core (record t { kept_level = level })) ≡ true) ⊎ IsAbsent name (core (record t { kept_level = level }))
  begun_runs name t level named (inl runs) = inl runs
  begun_runs name t level named (inr absent) = not-absent name t (λ u. u) named refl absent

  begun_readies : (P Q : Point) (drawn : ℕ) (name : Who) → same_who name a ≡ false → is_fresh drawn name ≡ false
      → ((d : ℕ) (n : Who) (c : Core) (l : Last) → same_who n name ≡ false → P d n c l → Q d n c l) → ((d : ℕ) (c : Core) (l : Last) → P d name c l → FreeFor (limit p s a name) l × (d ≡ drawn))
      → ((d : ℕ) (c : Core) (l : Last) → (runs_in c ≡ true) ⊎ IsAbsent name c → d ≡ drawn → Good p s a d name c l → Q d name c l) → Readies p P Q name (OfOther name)
  begun_readies P Q drawn name apart is_drawn others held stands = record {
    between = Begun drawn name;
    others = others;
    own = λ d t l h. record { late = (held d (core t) l h).0; runs = inl refl; size = (held d (core t) l h).1 };
    missed = λ d l task h. record { late = (held d (core nobody) l h).0; runs = inr (task, refl); size = (held d (core nobody) l h).1 };
    keeps = λ d t l level named h. record { late = h.late; runs = begun_runs name t level named h.runs; size = h.size };
    places = λ d c l h.
        stands d c (with_put l (OfOther name) (Some (Some (spot_for p c)))) h.runs h.size
        (placed-good p s a d name c l (OfOther name) (fits_other p s a name) (ap (λ m. is_fresh m name) h.size ∙ is_drawn) (free-may (limit p s a name) l h.late)
        (subst (λ q. FreeFor q l) (limit-other p s a name apart) h.late) h.runs (λ other. h.late));
  }

  later_begun : (v : World) (t : Task) (rest : List Task) → IsUnmade p s a v t.who → is_among t.who rest ≡ false → Readies p (Since p s a v (t ∷ rest)) (Since p s a v rest) t.who (OfOther t.who)
  later_begun v t rest made differs =
      begun_readies (Since p s a v (t ∷ rest)) (Since p s a v rest) v.drawn.tasks t.who made.other made.drawn
      (λ d n c l apart h. (h.0, h.1, h.2, λ among. h.3 (or_right (same_who n t.who) (is_among n rest) among))) (λ d c l h. ((h.0.0.calm made.other).0, h.1))
      (λ d c l runs size good. (
        (good, λ same. clash_of (same_who t.who a) same made.other),
        size,
        (λ sleeps. begun_awake p s a t.who c runs sleeps),
        (λ among. clash_of (is_among t.who rest) among differs),
      ))

  activates_since : (v : World) (t : Task) (rest : List Task) → IsUnmade p s a v t.who → is_among t.who rest ≡ false
      → Leads (Held (Since p s a v (t ∷ rest))) (Held (Since p s a v rest)) (ready p (OfOther t.who) t.who)
  activates_since v t rest made differs = ready-holds p (Since p s a v (t ∷ rest)) (Since p s a v rest) t.who (OfOther t.who) (later_begun v t rest made differs)

  -- ---- at a select

  pub IsListed : World → Who → Type 0
  IsListed v name = is_fresh v.drawn.tasks name ≡ false

  listed_each : (v : World) → Sound v → EachTask (λ t. IsListed v t.who) v.tasks
  unfolding IsListed
  listed_each v sound = each-on (IsThere v) (λ t. is_fresh v.drawn.tasks t.who ≡ false) v.tasks (λ t there. there.drawn) (all_there v sound)

  looks_choosing : (v : World) (said : List Said) → Holds (Choosing p s a) v said → Holds (ChoosingSince p s a v) v said
  unfolding Holds
  looks_choosing v said h = (h.0, λ n. (h.1 n, refl, λ same waits. (h.1 n).waits same (ap (λ m. waits_at_terminate (waiting_of v m)) (who-is n a same) ∙ waits)))

  looked_choosing : (v w : World) (said : List Said) → Holds (ChoosingSince p s a v) w said → Holds (Choosing p s a) w said
  looked_choosing v w said h = holds-also (ChoosingSince p s a v) (Choosing p s a) (λ d n c l k. k.0) w said h

  choosing_begun : (v : World) (name : Who) → same_who name a ≡ false → is_fresh v.drawn.tasks name ≡ false → Readies p (ChoosingSince p s a v) (ChoosingSince p s a v) name (OfOther name)
  choosing_begun v name apart is_drawn =
      begun_readies (ChoosingSince p s a v) (ChoosingSince p s a v) v.drawn.tasks name apart is_drawn (λ d n c l e h. h) (λ d c l h. ((h.0.calm apart).0, h.1))
      (λ d c l runs size good. (good-choosing p s a d name c l (λ same. clash_of (same_who name a) same apart) good, size, λ same. clash_of (same_who name a) same apart))

  edits-holds : (P Q : Point) (name : Who) (f : Task → Task) → ((t : Task) → (f t).who ≡ t.who) → ((t : Task) → Unactivated t.inherited → Unactivated (f t).inherited) → Turns P Q name f
      → Leads (Holds P) (Holds Q) (changes (edit_task name f))
  edits-holds P Q name f named frees turns = changes-leads (edit_task name f) (λ w said h. holds-edit P Q name f w said named (sound-edit name f w named frees (holds-sound P w said h)) turns h)

  runs_on_choosing : (v : World) → waits_at_terminate (waiting_of v a) ≡ true → Keeps (Held (ChoosingSince p s a v)) (changes (edit_task a (with_state Runnable)))
  runs_on_choosing v waits =
      edits-holds (ChoosingSince p s a v) (ChoosingSince p s a v) a (with_state Runnable) (λ t. refl) (λ t k. k)
      (keeps_turns p s a (ChoosingSince p s a v) a (with_state Runnable) (λ d t l is h. (
        record {
          late = h.0.late;
          at = h.0.at;
          shown = inl (inl refl);
          fresh = h.0.fresh;
          ready = λ runs. h.2 (same_self a) waits;
          calm = λ apart. self_apart p s a a apart;
          waits = λ same none. absurd (let clash : false ≡ true = none in cc);
        },
        h.1,
        h.2,
      )))

  -- who acts says that it blocks
  shown_but : (n : Who) (c : Core) (l : Last) → same_who n a ≡ false → IsShownRightly p s a n c l ⊎ ((same_who n a ≡ true) × (waits_at_terminate (waiting_in c.state) ≡ true))
      → IsShownRightly p s a n c l
  shown_but n c l apart (inl h) = h
  shown_but n c l apart (inr h) = clash_of (same_who n a) h.0 apart

  choosing-good : (d : ℕ) (n : Who) (c : Core) (l : Last) → same_who n a ≡ false → Choosing p s a d n c l → Good p s a d n c l
  choosing-good d n c l apart h = record { late = h.late; at = h.at; shown = shown_but n c l apart h.shown; fresh = h.fresh; ready = h.ready; calm = h.calm }

  Unsaid : Point
  Unsaid = Except (Good p s a) a (λ d n c l. sleeps_in c ≡ true)

  -- who waits at an open terminate alternative sleeps
  AtTerminate : Point
  AtTerminate = Knowing (Choosing p s a) a (λ d c. waits_at_terminate (waiting_in c.state) ≡ true)

  unsaid_turns : Turns AtTerminate Unsaid a without_kept_level
  unfolding Unsaid AtTerminate
  unsaid_turns = record {
    others = λ d n c l apart h. ((λ e. choosing-good d n c l apart h.0), (λ same. clash_of (same_who n a) same apart));
    own = λ d t l is h. ((λ apart. self_apart p s a a apart), (λ same. waiting-blocked waits_at_terminate refl t.state (h.1 same)));
    missed = λ d l task h. ((λ apart. self_apart p s a a apart), (λ same. absurd (let clash : false ≡ true = h.1 same in cc)));
  }

  unsaid_places : Places Unsaid (Good p s a) a TheBlock nowhere
  unfolding Unsaid nowhere
  unsaid_places = record {
    others = λ d n c l apart h. h.0 apart;
    own = λ d c l h. subst (Good p s a d a c) (sym (block-put l)) (blocked-good p s a d a c (Some (TheBlock, None)) (same_self a) (h.1 (same_self a)) refl);
  }

  says_blocked_choosing : (waiting : Waiting) → Leads (With (Held (Choosing p s a)) (λ w. waits_at_terminate (waiting_of w a) ≡ true)) (Held (Good p s a)) (says_block TheBlock a waiting)
  unfolding says_block AtTerminate
  says_blocked_choosing waiting =
      from-leads _ (λ w said h. holds-knowing (Choosing p s a) a (λ d c. waits_at_terminate (waiting_in c.state) ≡ true) w said h.1 h.0)
      (then-leads (changes (edit_task a without_kept_level)) _ (edits-holds AtTerminate Unsaid a without_kept_level (λ t. refl) (λ t k. k) unsaid_turns)
      (block-holds Unsaid (Good p s a) a (word_of waiting) unsaid_places))

  -- or it does not wait there
  shown_unless : (n : Who) (c : Core) (l : Last) → (same_who n a ≡ true → waits_at_terminate (waiting_in c.state) ≡ false)
      → IsShownRightly p s a n c l ⊎ ((same_who n a ≡ true) × (waits_at_terminate (waiting_in c.state) ≡ true)) → IsShownRightly p s a n c l
  shown_unless n c l leaves (inl h) = h
  shown_unless n c l leaves (inr h) = clash_of (waits_at_terminate (waiting_in c.state)) h.1 (leaves h.0)

  settles_choosing : (w : World) (said : List Said) → waits_at_terminate (waiting_of w a) ≡ false → Holds (Choosing p s a) w said → Holds (Good p s a) w said
  unfolding Holds
  settles_choosing w said leaves h = (
    h.0,
    λ n. let k = h.1 n in record {
      late = k.late;
      at = k.at;
      shown = shown_unless n (core (task_of w n)) (last_put n said) (λ same. ap (λ m. waits_at_terminate (waiting_of w m)) (who-is n a same) ∙ leaves) k.shown;
      fresh = k.fresh;
      ready = k.ready;
      calm = k.calm;
    },
  )

  waits_each : (v : World) (said : List Said) → Holds (Choosing p s a) v said
      → EachTask (λ t. same_who a t.who ≡ true → waits_at_terminate (waiting_in t.state) ≡ true → waits_at_terminate (waiting_of v a) ≡ true) v.tasks
  waits_each v said h =
      each-on (IsThere v) (λ t. same_who a t.who ≡ true → waits_at_terminate (waiting_in t.state) ≡ true → waits_at_terminate (waiting_of v a) ≡ true) v.tasks
      (λ t there same waits. ap (λ m. waits_at_terminate (waiting_of v m)) (who-is a t.who same) ∙ ap (λ u. waits_at_terminate (waiting_in u.state)) there.found ∙ waits)
      (all_there v (holds-sound (Choosing p s a) v said h))

  choosing_moves : SelectMoves p a IsListed (Held (Choosing p s a)) (Held (Good p s a)) (λ v. Held (ChoosingSince p s a v))
  unfolding IsListed
  choosing_moves = record {
    quiet = holds_quiet (Choosing p s a);
    listed = λ v said h. listed_each v (holds-sound (Choosing p s a) v said h);
    looks_at = looks_choosing;
    looked = looked_choosing;
    looking = λ v. holds_quiet (ChoosingSince p s a v);
    begins = λ v name apart listed. ready-holds p (ChoosingSince p s a v) (ChoosingSince p s a v) name (OfOther name) (choosing_begun v name (apart-sym a name apart) listed);
    waits = waits_each;
    runs_on = runs_on_choosing;
    says_blocked = says_blocked_choosing;
    settles = settles_choosing;
  }

  -- who acts comes to its select
  select_turns : (waiting : Waiting) → waits_at_terminate (Some waiting) ≡ true → Turns (First p s a) (Choosing p s a) a (with_state (Blocked waiting))
  select_turns waiting waits = record {
    others = λ d n c l apart h. good-choosing p s a d n c l (λ same. clash_of (same_who n a) same apart) h.0;
    own = λ d t l is h. record {
      late = h.0.late;
      at = h.0.at;
      shown = inr (same_self a, waits);
      fresh = h.0.fresh;
      ready = λ runs. absurd (let clash : false ≡ true = runs in cc);
      calm = λ apart. self_apart p s a a apart;
      waits = λ same at_select. h.0.ready (h.1 (same_self a)).1;
    };
    missed = λ d l task h. nobody-runs (h.1 (same_self a)).1;
  }

  selects : (waiting : Waiting) → waits_at_terminate (Some waiting) ≡ true → Leads (Held (First p s a)) (Held (Choosing p s a)) (changes (edit_task a (with_state (Blocked waiting))))
  selects waiting waits = edits-holds (First p s a) (Choosing p s a) a (with_state (Blocked waiting)) (λ t. refl) (λ t k. k) (select_turns waiting waits)

  -- a moment is appointed for it
  appoints-holds : (P : Point) → ((d : ℕ) (c : Core) (l : Last) → P d a c l → is_fresh d a ≡ false) → (t : TaskNo) (moment : ℤ) → who.Task t ≡ a → Alters (Holds P) (appoint (due_for.Delay t) moment)
  appoints-holds P acts t moment is = record {
    turns = λ w said h.
        holds-plain P w (appoint (due_for.Delay t) moment w) said refl refl refl
        (sound-appoint t moment w (ap (is_fresh w.drawn.tasks) is ∙ acts w.drawn.tasks (core (task_of w a)) (last_put a said) (holds-of P w said a h)) (holds-sound P w said h)) h;
  }

  -- ---- tasks that were made end

  since_now : (v : World) (rest : List Task) (said : List Said) → EachTask (λ t. IsUnmade p s a v t.who) rest → Holds Whole v said → Holds (Since p s a v rest) v said
  unfolding Holds
  since_now v rest said unmade h = (h.0, λ n. (h.1 n, refl, (λ sleeps. sleeps), (λ among. among_made p s a v n rest unmade among)))

  since_then : (v w : World) (rest : List Task) (said : List Said) → Holds (Since p s a v rest) w said → Holds Whole w said
  since_then v w rest said h = holds-also (Since p s a v rest) Whole (λ d n c l k. k.0) w said h

  since_less : (v w : World) (t : Task) (rest : List Task) (said : List Said) → Holds (Since p s a v (t ∷ rest)) w said → Holds (Since p s a v rest) w said
  since_less v w t rest said h = holds-also (Since p s a v (t ∷ rest)) (Since p s a v rest) (λ d n c l k. (k.0, k.1, k.2, λ among. k.3 (or_right (same_who n t.who) (is_among n rest) among))) w said h

  unmade_state : {P : Type 0} (v : World) (t : Task) → IsThere v t → is_made t ≡ true → runs_in (core (task_of v t.who)) ≡ true → P
  unmade_state v t there made runs = made-apart t.state made (ap (λ u. is_runnable_state u.state) (sym there.found) ∙ runs)

  unmade_as : (v : World) (t : Task) → IsThere v t → is_made t ≡ true → (same_who t.who a ≡ true → runs_in (core (task_of v t.who)) ≡ true) → IsUnmade p s a v t.who
  unmade_as v t there made acts = record {
    other = by_test (same_who t.who a) (λ same. unmade_state v t there made (acts same)) (λ apart. apart);
    unblocked = ap (λ u. is_blocked u.state) there.found ∙ made-unblocked t.state made;
    made = ap (λ u. is_made_state u.state) there.found ∙ made;
    drawn = there.drawn;
    task = there.no_agent;
  }

  made_each : (v : World) (said : List Said) → Holds Whole v said → EachTask (λ t. is_made t ≡ true → IsUnmade p s a v t.who) v.tasks
  made_each v said h =
      each-on (IsThere v) (λ t. is_made t ≡ true → IsUnmade p s a v t.who) v.tasks
      (λ t there made. unmade_as v t there made (λ same. ((holds-of Whole v said t.who h).1 same).1)) (all_there v (holds-sound Whole v said h))

  asleep_each : (P : Point) (w : World) (said : List Said) → Holds P w said → EachTask (λ t. is_blocked t.state ≡ true → Sleeping_in w t.who) w.tasks
  asleep_each P w said h =
      each-on (IsThere w) (λ t. is_blocked t.state ≡ true → Sleeping_in w t.who) w.tasks (λ t there sleeps. ap (λ u. is_blocked u.state) there.found ∙ sleeps) (all_there w (holds-sound P w said h))

  -- who has only been made stands nowhere, so what it is placed by may change
  made-at : (n : Who) (u : Task) (e : Core) (l : Last) → (is_agent n ≡ false → same_who n u.who ≡ true) → is_made_state u.state ≡ true → IsShownRightly p s a n (core u) l → IsAt p (place p s a n l) e
  made-at n u e l named made (inl runs) = made-apart u.state made runs
  made-at n u e l named made (inr (inl hidden)) = at-out p (place p s a n l) e hidden
  made-at n u e l named made (inr (inr absent)) = not-absent n u (λ x. x) named refl absent

  made-alters : (v : World) (rest : List Task) (name : Who) (f : Task → Task) → IsUnmade p s a v name → is_among name rest ≡ true → ((t : Task) → (f t).who ≡ t.who)
      → ((t : Task) → (f t).state ≡ t.state) → Alters (Held (Since p s a v rest)) (edit_task name f)
  made-alters v rest (who.Task n) f made among named same = record {
    turns = λ w said h.
        holds-edit (Since p s a v rest) (Since p s a v rest) (who.Task n) f w said named (sound-task n f w named (holds-sound (Since p s a v rest) w said h))
        (keeps_turns p s a (Since p s a v rest) (who.Task n) f (λ d t l is k. (
          later-kept p s a d (who.Task n) t (core (f t)) l is (same t) (made-at (who.Task n) t (core (f t)) l is (k.3 among) k.0.0.shown) k.0,
          k.1,
          (λ sleeps. k.2 (ap is_blocked (sym (same t)) ∙ sleeps)),
          (λ is_listed. ap is_made_state (same t) ∙ k.3 is_listed),
        ))) h;
  }
  made-alters v rest who.Agent f made among named same = clash_of (is_agent who.Agent) refl made.task

  first-among : (t : Task) (rest : List Task) → is_among t.who (t ∷ rest) ≡ true
  first-among t rest = ap (λ b. b || is_among t.who rest) (same_self t.who)

  activation-alters : (v : World) (t : Task) (rest : List Task) (level : ℕ) → IsUnmade p s a v t.who → Alters (Held (Since p s a v (t ∷ rest))) (inherit t.who inherited_by.Activation level)
  activation-alters v t rest level made =
      made-alters v (t ∷ rest) t.who (λ u. record u { inherited = record { cause = inherited_by.Activation; level = level } ∷ u.inherited }) made (first-among t rest) (λ u. refl) (λ u. refl)

  dated-alters : (v : World) (t : Task) (rest : List Task) (activator : Who) (now_at : ℕ) → IsUnmade p s a v t.who
      → Alters (Held (Since p s a v (t ∷ rest))) (edit_task t.who (activated_task activator now_at))
  dated-alters v t rest activator now_at made = made-alters v (t ∷ rest) t.who (activated_task activator now_at) made (first-among t rest) (λ u. refl) (λ u. refl)

  made_places : (v : World) (rest : List Task) (name : Who) → IsUnmade p s a v name → is_among name rest ≡ true → Places (Since p s a v rest) (Ending p s a v rest name) name (OfOther name) nowhere
  unfolding nowhere
  made_places v rest name made among = record {
    others = λ d n c l apart h. (h, (λ same. clash_of (same_who n name) same apart), made);
    own = λ d c l h.
        let out = put-out (OfOther name) l (spot_in name s) (subst (λ q. MayBePlaced q l) (limit-other p s a name made.other) h.0.0.late) in (
          (
            (
              record {
                late = put-late (limit p s a name) (OfOther name) l None (fits_other p s a name) h.0.0.late;
                at = at-out p (place p s a name (with_put l (OfOther name) (Some None))) c out;
                shown = inr (inl out);
                fresh = λ e. out;
                ready = λ runs. made-apart c.state (h.3 among) runs;
                calm = λ apart. (put-free (limit p s a name) (OfOther name) l None (fits_other p s a name) (h.0.0.calm apart).0, λ sleeps. made-asleep c.state (h.3 among) sleeps);
              },
              λ same. clash_of (same_who name a) same made.other,
            ),
            h.1,
            h.2,
            h.3,
          ),
          (λ same. out),
          made,
        );
  }

  ends_made : (v : World) (rest : List Task) (name : Who) → IsUnmade p s a v name → is_among name rest ≡ true
      → Leads (Held (Since p s a v rest)) (Held (Ending p s a v rest name)) (says_done (OfOther name) name)
  ends_made v rest (who.Task t) made among = done-holds (Since p s a v rest) (Ending p s a v rest (who.Task t)) (OfOther (who.Task t)) t (made_places v rest (who.Task t) made among)
  ends_made v rest who.Agent made among = clash_of (is_agent who.Agent) refl made.task

  abbrev less : Task → Task
  less t = record t { inherited = without (λ i. same_cause inherited_by.Activation i.cause) t.inherited }

  ended_loses : (v : World) (rest : List Task) (name : Who) (w : World) (said : List Said) → Holds (Ending p s a v rest name) w said
      → Holds (Ending p s a v rest name) (lose name inherited_by.Activation w) said
  ended_loses v rest name w said h =
      holds-edit (Ending p s a v rest name) (Ending p s a v rest name) name less w said (λ t. refl)
      (sound-edit name less w (λ t. refl) (λ t k. unactivated_without (λ i. same_cause inherited_by.Activation i.cause) t.inherited k) (holds-sound (Ending p s a v rest name) w said h))
      (keeps_turns p s a (Ending p s a v rest name) name less (λ d t l is k. (
        (later-kept p s a d name t (core (less t)) l is refl (at-out p (place p s a name l) (core (less t)) (k.1 (same_self name))) k.0.0, k.0.1, k.0.2, k.0.3),
        k.1,
        k.2,
      ))) h

  forgets_made : (v : World) (rest : List Task) (name : Who) → Leads (Held (Ending p s a v rest name)) (Held (Since p s a v rest)) (changes (forget_task name))
  forgets_made v rest name =
      holds-forget (Ending p s a v rest name) (Since p s a v rest) name (record {
        others = λ d n c l apart h. h.0;
        task = λ d c l task h.
            let hidden = h.1 (same_self name) in (
              (
                record {
                  late = h.0.0.0.late;
                  at = at-out p (place p s a name l) (core nobody) hidden;
                  shown = inr (inl hidden);
                  fresh = λ e. hidden;
                  ready = λ runs. nobody-runs runs;
                  calm = λ apart. ((h.0.0.0.calm apart).0, λ sleeps. nobody-sleeps sleeps);
                },
                λ same. clash_of (same_who name a) same h.2.other,
              ),
              h.0.1,
              (λ sleeps. nobody-sleeps sleeps),
              (λ among. refl),
            );
        agent = λ d c l agent h. clash_of (is_agent name) agent h.2.task;
      })

  -- ---- who acts ends

  last_places : (t : TaskNo) → who.Task t ≡ a → Places (First p s a) (Dying p s a) (who.Task t) Own nowhere
  unfolding nowhere
  last_places t is = record {
    others = λ d n c l apart h. ((λ e. h.0), (λ same. clash_of (same_who n a) same (ap (same_who n) (sym is) ∙ apart)));
    own = λ d c l h.
        let acts = h.1 (ap (same_who (who.Task t)) (sym is) ∙ same_self (who.Task t)) in (
          (λ apart. clash_of (same_who (who.Task t) a) (ap (same_who (who.Task t)) (sym is) ∙ same_self (who.Task t)) apart),
          (λ same. record {
            late = put-late (limit p s a (who.Task t)) Own l None (fits_own p s a (who.Task t)) h.0.late;
            runs = acts.1;
            fresh = acts.0;
            task = λ task. put-out Own l (spot_in (who.Task t) s) (subst (MayBePlaced Own) (sym acts.2) tt);
            agent = λ agent. absurd (let clash : false ≡ true = agent in cc);
          }),
        );
  }

  first-dying : (d : ℕ) (n : Who) (c : Core) (l : Last) → who.Agent ≡ a → First p s a d n c l → Dying p s a d n c l
  first-dying d n c l is h = (
    (λ apart. h.0),
    (λ same. record {
      late = h.0.late;
      runs = (h.1 same).1;
      fresh = (h.1 same).0;
      task = λ task. clash_of (is_agent n) (ap (same_who n) is ∙ same) task;
      agent = λ agent. (h.0.at, h.0.ready (h.1 same).1);
    }),
  )

  ends_as : (name : Who) → name ≡ a → Leads (Held (First p s a)) (Held (Dying p s a)) (says_done Own name)
  unfolding says_done
  ends_as (who.Task t) is = done-holds (First p s a) (Dying p s a) Own t (last_places t is)
  ends_as who.Agent is = nothing-leads (λ w said h. holds-also (First p s a) (Dying p s a) (λ d n c l k. first-dying d n c l is k) w said h)

  dying_loses : (name : Who) → name ≡ a → (w : World) (said : List Said) → Holds (Dying p s a) w said → Holds (Dying p s a) (lose name inherited_by.Activation w) said
  dying_loses (who.Task n) is w said h =
      holds-edit (Dying p s a) (Dying p s a) (who.Task n) less w said (λ t. refl) (sound-task n less w (λ t. refl) (holds-sound (Dying p s a) w said h))
      (keeps_turns p s a (Dying p s a) (who.Task n) less (λ d t l named k. (
        (λ apart. clash_of (same_who (who.Task n) a) (ap (same_who (who.Task n)) (sym is) ∙ same_self (who.Task n)) apart),
        (λ same. let o = k.1 same in record { late = o.late; runs = o.runs; fresh = o.fresh; task = o.task; agent = λ agent. absurd (let clash : false ≡ true = agent in cc) }),
      ))) h
  dying_loses who.Agent is w said h =
      (holds_quiet (Dying p s a)).silently w (lose who.Agent inherited_by.Activation w) said
      (record {
        tasks = refl;
        agent = ap (λ inherited. core (record w.agent { inherited = inherited })) (unactivated-loses w.agent.inherited (holds-sound (Dying p s a) w said h).agent);
        objects = refl;
        drawn_tasks = refl;
        drawn_objects = refl;
        callers = λ c n k. k;
        delays = λ t e. e;
      }) h

  forgets_dead : Leads (Held (Dying p s a)) (Held (Gone p s a)) (changes (forget_task a))
  forgets_dead =
      holds-forget (Dying p s a) (Gone p s a) a (record {
        others = λ d n c l apart h. (h.0 apart, λ same. clash_of (same_who n a) same apart);
        task = λ d c l task h.
            let o = h.1 (same_self a) in
            let hidden = o.task task in (
              record {
                late = o.late;
                at = at-out p (place p s a a l) (core nobody) hidden;
                shown = inr (inl hidden);
                fresh = λ e. hidden;
                ready = λ runs. nobody-runs runs;
                calm = λ apart. self_apart p s a a apart;
              },
              λ same. refl,
            );
        agent = λ d c l agent h.
            let o = h.1 (same_self a) in (
              record {
                late = o.late;
                at = (o.agent agent).0;
                shown = inl o.runs;
                fresh = λ e. clash_of (is_fresh d a) e o.fresh;
                ready = λ runs. (o.agent agent).1;
                calm = λ apart. self_apart p s a a apart;
              },
              λ same. running-awake c.state o.runs,
            );
      })

  -- ---- a task is created

  new-same : (t : Task) (u w : World) → Same u w → IsNew p t u → IsNew p t w
  new-same t u w same new = record { numbered = new.numbered ∙ ap (λ n. who.Task (record { 0 = n })) (sym same.drawn_tasks); made = new.made; undeferred = new.undeferred }

  goes_new : (onward : Option StatementNo) (t : Task) → Keeps (With (Held (First p s a)) (IsNew p t)) (goes a onward)
  unfolding goes
  goes_new onward t =
      changes-leads (edit_top a (goes_on onward)) (λ w said h.
      let same = edit_task-same a (λ u. with_frames (edit_first (goes_on onward) u.frames) u) w (λ u. refl) in
      ((holds_quiet (First p s a)).silently w (edit_top a (goes_on onward) w) said same h.0, new-same t w (edit_top a (goes_on onward) w) same h.1))

  added-was : (d : ℕ) (n : Who) (c : Core) (l : Last) → First p s a d n c l → Later p s a (suc d) n c l
  added-was d n c l h = (
    record { late = h.0.late; at = h.0.at; shown = h.0.shown; fresh = λ e. h.0.fresh (fresh-less d n e); ready = h.0.ready; calm = h.0.calm },
    λ same. (drawn-more d n (h.1 same).0, (h.1 same).1),
  )

  added-is : (d : ℕ) (n : Who) (t : Task) (before : Core) (l : Last) → t.who ≡ who.Task (record { 0 = d }) → is_made t ≡ true → same_who n t.who ≡ true → before ≡ core nobody
      → First p s a d n before l → Later p s a (suc d) n (core t) l
  added-is d n t before l numbered made named was h =
      let hidden = h.0.fresh (ap (is_fresh d) (who-is n t.who named ∙ numbered) ∙ fresh-next d) in (
        record {
          late = h.0.late;
          at = at-out p (place p s a n l) (core t) hidden;
          shown = inr (inl hidden);
          fresh = λ e. hidden;
          ready = λ runs. made-apart t.state made runs;
          calm = λ apart. ((h.0.calm apart).0, λ sleeps. made-asleep t.state made sleeps);
        },
        λ same. nobody-runs (subst (λ c. runs_in c ≡ true) was (h.1 same).1),
      )

  added_as : (d : ℕ) (n : Who) (t : Task) (before behind : Core) (l : Last) → t.who ≡ who.Task (record { 0 = d }) → is_made t ≡ true → (behind ≡ before) ⊎ AddedAs t n before behind
      → First p s a d n before l → Later p s a (suc d) n behind l
  added_as d n t before behind l numbered made (inl same) h = subst (λ c. Later p s a (suc d) n c l) (sym same) (added-was d n before l h)
  added_as d n t before behind l numbered made (inr one) h = subst (λ c. Later p s a (suc d) n c l) (sym one.is) (added-is d n t before l numbered made one.named one.was h)

  adds : (t : Task) → Leads (With (Held (First p s a)) (IsNew p t)) (Held Whole) (changes (add_task t))
  unfolding Holds
  adds t =
      changes-leads (add_task t) (λ w said h. (
        sound-add t w h.1.numbered h.0.0,
        λ n. added_as w.drawn.tasks n t (core (task_of w n)) (core (task_of (add_task t w) n)) (last_put n said) h.1.numbered h.1.made (add-found t w n) (h.0.1 n),
      ))

  thing_set : (id : Option ScopeId) (d : DeclNo)
      → Keeps (Held Whole) (for_some id (λ within. looks (λ w. changes (set_thing p (record { within = within; declared = d }) (value_of.Task (Some (record { 0 = w.drawn.tasks - 1 })))))))
  thing_set id d =
      for_some-keeps id _
      (λ within.
      looks-keeps _ (λ w. changes-keeps _ (same-alters (holds_quiet Whole) _ (set_thing-same p (record { within = within; declared = d }) (value_of.Task (Some (record { 0 = w.drawn.tasks - 1 })))))))

  creates_later : (st : StatementNo) (d : DeclNo) (id : Option ScopeId) (t : Task) → Leads (With (Held (First p s a)) (IsNew p t)) (Held Whole) (create_task p a st d id t)
  unfolding create_task says_created
  creates_later st d id t =
      then-leads (goes a (next_of p st)) _ (goes_new (next_of p st) t)
      (then-leads (changes (add_task t)) _ (adds t)
      (then-leads (for_some id _) _ (thing_set id d) (looks-keeps _ (λ w. keeps_says Whole Own (line.New (created.Task (record { 0 = w.drawn.tasks - 1 })) (Some d) t.base) (λ n. refl)))))

  -- ---- a call that is sent on ends before the acceptor becomes ready

  Meeting : TaskNo → Point
  Meeting t d n c l = Whole d n c l × (same_who n (who.Task t) ≡ true → FreeFor TheFinish l × (is_fresh d n ≡ false))

  OfFinish : Fitting
  OfFinish part name = part ≡ TheFinish

  finish_fits : (part : Part) (n : Who) → part ≡ TheFinish → Fits p s a part n
  finish_fits part n is = subst (λ q. is_part_before (limit p s a n) q ≡ false) (sym is) (fits_finish p s a n)

  meeting_wakeful : (t : TaskNo) → Wakeful p OfFinish (Meeting t)
  unfolding Meeting OfFinish
  meeting_wakeful t = record {
    rises = λ d n u l i named sleeps h. (later-rises p s a d n u l i named sleeps h.0, h.1);
    wakes = λ part d n c e l is drawn sleeps runs h. (
      later-wakes p s a part d n c e l (finish_fits part n is) drawn sleeps runs h.0,
      λ same. (put-free TheFinish part l (Some (spot_for p e)) (ap (is_part_before TheFinish) is) (h.1 same).0, drawn),
    );
  }

  asleep-drawn : (n : Who) (w : World) → sleeps_in (core (task_of w n)) ≡ true → IsAbsent n (core (task_of w n)) ⊎ (is_fresh w.drawn.tasks n ≡ false) → is_fresh w.drawn.tasks n ≡ false
  asleep-drawn n w sleeps (inl absent) = nobody-sleeps (subst (λ c. sleeps_in c ≡ true) absent.1 sleeps)
  asleep-drawn n w sleeps (inr drawn) = drawn

  asleep-other : (d : ℕ) (n : Who) (c : Core) (l : Last) → sleeps_in c ≡ true → Whole d n c l → same_who n a ≡ false
  asleep-other d n c l sleeps h = by_test (same_who n a) (λ same. awake c (h.1 same).1 sleeps) (λ apart. apart)

  meeting_starts : (t : TaskNo) (w : World) (said : List Said) → Holds Whole w said → Sleeping_in w (who.Task t) → Holds (Meeting t) w said
  unfolding Holds Meeting
  meeting_starts t w said h sleeps = (
    h.0,
    λ n. (
      h.1 n,
      λ same. let asleep : sleeps_in (core (task_of w n)) ≡ true = ap (λ m. is_blocked (task_of w m).state) (who-is n (who.Task t) same) ∙ sleeps in (
        none-free TheFinish (last_put n said) (((h.1 n).0.calm (asleep-other w.drawn.tasks n (core (task_of w n)) (last_put n said) asleep (h.1 n))).1 asleep),
        asleep-drawn n w asleep (known w n h.0),
      ),
    ),
  )

  record Met (name : Who) (d : ℕ) (c : Core) (l : Last) : Type 0 where
    late : MayBePlaced (limit p s a name) l
    may : FreeFor TheFinish l
    free : same_who name a ≡ false → FreeFor (limit p s a name) l
    drawn : is_fresh d name ≡ false
    runs : (runs_in c ≡ true) ⊎ IsAbsent name c
    acts : same_who name a ≡ true → runs_in c ≡ true

  met : (t : TaskNo) → Readies p (Meeting t) Whole (who.Task t) TheFinish
  unfolding Meeting
  met t = record {
    between = Met (who.Task t);
    others = λ d n c l apart h. h.0;
    own = λ d u l h. let k = h.1 (same_self (who.Task t)) in record { late = h.0.0.late; may = k.0; free = λ apart. (h.0.0.calm apart).0; drawn = k.1; runs = inl refl; acts = λ same. refl };
    missed =
        λ d l task h. let k = h.1 (same_self (who.Task t)) in
        record { late = h.0.0.late; may = k.0; free = λ apart. (h.0.0.calm apart).0; drawn = k.1; runs = inr (task, refl); acts = λ same. nobody-acts p s a l (h.0.1 same).1 };
    keeps = λ d u l level named h. record { late = h.late; may = h.may; free = h.free; drawn = h.drawn; runs = begun_runs (who.Task t) u level named h.runs; acts = h.acts };
    places = λ d c l h. (placed-good p s a d (who.Task t) c l TheFinish (fits_finish p s a (who.Task t)) h.drawn h.late h.may h.runs h.free, λ same. (h.drawn, h.acts same));
  }

  meets_later : (t : TaskNo) (st : StatementNo) (c : Call)
      → Leads (With (Held Whole) (λ w. Sleeping_in w (who.Task t))) (Held Whole) (meet_without_room p TheFinish (who.Task t) st c (deliver p TheFinish c.number (call_ended.ToRaise exception.Storage)))
  unfolding OfFinish
  meets_later t st c =
      from-leads _ (λ w said h. meeting_starts t w said h.0 h.1)
      (then-leads (begin_accept p TheFinish (who.Task t) st c) _ (begin_accept-keeps (holds_quiet (Meeting t)) p TheFinish (who.Task t) st c)
      (then-leads (finish_without_room TheFinish (who.Task t) c) _ (finish_without_room-keeps (holds_quiet (Meeting t)) TheFinish (who.Task t) c)
      (then-leads (deliver p TheFinish c.number (call_ended.ToRaise exception.Storage)) _
      (deliver-keeps (base_moves (Meeting t) (meeting_wakeful t)) TheFinish c.number (call_ended.ToRaise exception.Storage) (λ name. refl))
      (then-leads (ready p TheFinish (who.Task t)) _ (ready-holds p (Meeting t) Whole (who.Task t) TheFinish (met t)) (raises-keeps (holds_quiet Whole) TheFinish (who.Task t) exception.Storage)))))

  -- ---- protected objects

  made_object : (l : Located) (u : ProtectedUnitNo) → Keeps (Held Whole) (changes (with_object p l u) ▷ says_object p l u)
  unfolding says_object
  made_object l u =
      then-keeps (changes (with_object p l u)) _
      (changes-leads (with_object p l u)
      (λ w said h. holds-plain Whole w (with_object p l u w) said refl refl refl (sound-plain w (with_object p l u w) refl refl refl refl (holds-sound Whole w said h)) h))
      (looks-keeps _ (λ w. keeps_says Whole Own (line.New (created.Object (record { 0 = w.drawn.objects })) (Some l.declared) (protected_unit_of p u).ceiling) (λ n. refl)))

  -- ---- all of an effect

  later_moves : LaterMoves p a (Fits p s a) Sleeping_in (Held Whole)
  later_moves = record {
    base = base_moves Whole (later_wakeful p s a);
    fits_own = fits_own p s a;
    fits_other = fits_other p s a;
    inherits_running = gained_later p s a;
  }

  pub effect_moves : ActingMoves p a (Fits p s a) Sleeping_in anywhere IsListed (IsUnmade p s a) (Held (First p s a)) (Held Whole) (Held (Undated p s a a)) (Held (Choosing p s a)) (Held Rested)
      (Held (Good p s a)) (Held (Dying p s a)) (Held (Gone p s a)) (λ before. Held (Owing p s a before)) (λ v. Held (ChoosingSince p s a v))
      (λ v rest. Held (Since p s a v rest)) (λ v rest name. Held (Ending p s a v rest name))
  effect_moves = record {
    fresh = holds_quiet (First p s a);
    later = later_moves;
    over = base_moves (Good p s a) (good_wakeful p s a);
    gone = base_moves (Gone p s a) (gone_wakeful p s a);
    owing = λ before. base_moves (Owing p s a before) (owing_wakeful p s a before);
    since = λ v rest. base_moves (Since p s a v rest) (since_wakeful p s a v rest);
    ending = λ v rest name. base_moves (Ending p s a v rest name) (ending_wakeful p s a v rest name);
    dying = base_moves (Dying p s a) (dying_wakeful p s a);
    choosing = choosing_moves;
    starts = starts_later p s a;
    ceases = ceases_resting p s a;
    rests = rests_choosing p s a;
    fits_finish = fits_finish p s a;
    blocks = blocks_later;
    tails = tails_later p s a;
    waits_at_select = λ accepts delay. selects (waits_for.Select accepts delay true) refl;
    appoints_first = λ t moment is. appoints-holds (First p s a) (λ d c l h. (h.1 (same_self a)).0) t moment is;
    appoints = λ t moment is. appoints-holds Whole (λ d c l h. (h.1 (same_self a)).0) t moment is;
    loses = lost_later p s a;
    sets_deferred = deferred_set p s a;
    sets_base = λ t level. from-leads (set_or_defer_base p a (who.Task t) level) (starts_later p s a) (base_set_or_deferred p s a (who.Task t) level);
    sets_deadline = λ name deadline. from-leads (set_or_defer_deadline p a name deadline) (starts_later p s a) (deadline_set_or_deferred p s a name deadline);
    dating = holds_quiet (Undated p s a a);
    dates = λ deadline. dates p s a a deadline;
    dated_appoints = λ t moment is. appoints-holds (Undated p s a a) dated_acts t moment is;
    dated_blocks = λ waiting rests. blocks_from (Undated p s a a) waiting (dated_block_turns waiting rests);
    dated_tails = dated_tail;
    owes = owes_since p s a;
    loses_owed = owed_loses p s a;
    pays = paid p s a;
    since_now = since_now;
    since_then = since_then;
    since_less = since_less;
    apart = λ v said h. all-apart v (holds-sound Whole v said h);
    dates_activation = dated-alters;
    made_differ = made_each;
    inherits_activation = activation-alters;
    activates = activates_since;
    ends_other = ends_made;
    loses_ended = ended_loses;
    forgets = forgets_made;
    found_since = λ v w rest said h. asleep_each (Since p s a v rest) w said h;
    ends = ends_as a refl;
    loses_last = dying_loses a refl;
    forgets_actor = forgets_dead;
    found_asleep = asleep_each (Gone p s a);
    ended = ended_resting p s a;
    creates = creates_later;
    meets_late = meets_later;
    makes = made_object;
    may = λ w o mode e. tt;
    may_on = λ u w o same m. tt;
    exits = λ name o. keeps_says Whole Own (line.Exit name o) (λ n. refl);
    enters = λ o mode. from-leads (says Own (line.Enter a o mode)) (λ w said h. starts_later p s a w said h.0) (keeps_says Whole Own (line.Enter a o mode) (λ n. refl));
    says_held = λ o mode. keeps_says Whole Own (line.Held a o mode) (λ n. refl);
  }
