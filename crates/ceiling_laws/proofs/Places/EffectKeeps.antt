-- Effects leave everybody at or below its active priority, and who is not ready nowhere.
use Rattle.ann_base.specs.declared.exceptions.Raised.TheVariants as exception
use Rattle.ann_base.specs.declared.identities.TaskNo.{TaskNo}
use Rattle.ceiling_laws.proofs.Places.CorePoints.{Except, Holds, Places, Point, Readies, Turns, active_in, holds-also, holds-edit, holds-of}
use Rattle.ceiling_laws.proofs.Places.CorePoints.{holds-plain, holds-put, holds-sound, holds_quiet, keeps_says, not-absent, ready-holds}
use Rattle.ceiling_laws.proofs.Places.EffectMoves.{Sleeping_in, Wakeful, base_moves, base_set_or_deferred, ceases_good, clash_of, deadline_set_or_deferred, deferred_set, dying_wakeful}
use Rattle.ceiling_laws.proofs.Places.EffectMoves.{ending_wakeful, good-choosing, good_wakeful, heads_later, held_later, keeps_turns, later-kept, later-rises, later-wakes, later_wakeful, lost_later}
use Rattle.ceiling_laws.proofs.Places.EffectMoves.{nobody-acts, owed_loses, owes_since, owing_wakeful, paid, rests_choosing, self_apart, since_wakeful, starts_later, tails_later}
use Rattle.ceiling_laws.proofs.Places.SoundWorlds.{IsAbsent, IsThere, Sound, Unactivated, all_there, each-on, is_agent, is_fresh, known, sound-add}
use Rattle.ceiling_laws.proofs.Places.SoundWorlds.{sound-appoint, sound-edit, sound-forget, sound-plain, sound-task, unactivated-loses, unactivated_without}
use Rattle.ceiling_laws.proofs.Places.Standing.{Choosing, Dying, Ending, First, Fits, Good, Hidden, IsShownRightly, IsUnmade, Last, Later, Owing, Since, Sized}
use Rattle.ceiling_laws.proofs.Places.Standing.{apart-sym, asleep-hidden, at_most-out, awake, block-put, blocked-good, fits_finish, fits_other, fits_own, limit}
use Rattle.ceiling_laws.proofs.Places.Standing.{limit-other, nobody-runs, nobody-sleeps, out-late, place, placed-good, put-late, put-out, runs_in, sleeps_in}
use Rattle.ceiling_laws.specs.Acting.{MayBePlaced}
use Rattle.ceiling_laws.specs.PlaceLaws.{IsAtMost, level_shown}
use Rattle.ceiling_laws.specs.Puts.{last_put, puts, with_put}
use Rattle.ceiling_laws.proofs.Runs.ActingMoves.{ActingMoves, IsNew, LaterMoves, SelectMoves}
use Rattle.ceiling_laws.proofs.Runs.FoundLemmas.{kept-others, none-left}
use Rattle.ceiling_laws.proofs.Runs.FreeMoves.{anywhere}
use Rattle.ceiling_laws.proofs.Fine.Kept.CallEnds.{deliver-keeps}
use Rattle.ceiling_laws.proofs.Fine.Kept.Declarations.{set_thing-same}
use Rattle.ceiling_laws.proofs.Fine.Kept.Frames.{raises-keeps}
use Rattle.ceiling_laws.proofs.Runs.Kept.Rendezvous.{begin_accept-keeps, finish_without_room-keeps}
use Rattle.ceiling_laws.proofs.Runs.Kept.Tasks.{same-alters}
use Rattle.ceiling_laws.proofs.Runs.Kept.Waking.{who-is}
use Rattle.ceiling_laws.proofs.Runs.LevelMoves.{EachTask, Fitting, is_blocked}
use Rattle.ceiling_laws.proofs.Runs.SameLemmas.{edit_task-same}
use Rattle.ceiling_laws.proofs.Runs.Triples.{Alters, Ends, Keeps, Leads, State, With, changes-keeps, changes-leads, for_some-keeps, from-leads, looks-keeps, nothing-leads, then-keeps, then-leads, to-leads}
use Rattle.ceiling_laws.proofs.Places.PartOrder.{by_test}
use Rattle.ceiling_laws.specs.Cores.{Core, Same, core}
use Rattle.ceiling_laws.proofs.Runs.Finer.{fine, fine_base, fine_same}
use Rattle.profile_machine.specs.Appointments.{appoint}
use Rattle.profile_machine.specs.CallEnds.{deliver}
use Rattle.profile_machine.specs.Declarations.{says_object, set_thing, with_object}
use Rattle.profile_machine.specs.Dispatching.{block, ready, says_block, without_kept_level, word_of}
use Rattle.profile_machine.specs.Frames.{edit_first, edit_top, goes, goes_on}
use Rattle.profile_machine.specs.Inheritance.{inherit, lose, same_cause}
use Rattle.profile_machine.specs.Masters.{forget_task, waits_at_terminate}
use Rattle.profile_machine.specs.Priorities.{set_or_defer_base, set_or_defer_deadline}
use Rattle.profile_image.specs.Program.{next_of, protected_unit_of}
use Rattle.profile_machine.specs.Protected.{find_held}
use Rattle.profile_machine.specs.Rendezvous.{begin_accept, finish_without_room, meet_without_room}
use Rattle.profile_machine.specs.Steps.{changes, for_some, is_part_before, looks, says, ◌▷◌}
use Rattle.profile_machine.specs.Tasking.{add_task, create_task, says_created, says_done}
use Rattle.profile_machine.specs.Tasks.{edit_task, is_made, is_made_state, is_runnable_state, is_who, nobody, task_of, waiting_in, waiting_of, with_frames, with_state}
use Rattle.profile_image.specs.Words.{same_who, without}
use Rattle.profile_image.specs.declared.image.Image.{Image}
use Rattle.profile_image.specs.declared.numbers.DeclNo.{DeclNo}
use Rattle.profile_image.specs.declared.numbers.ProtectedUnitNo.{ProtectedUnitNo}
use Rattle.profile_image.specs.declared.numbers.StatementNo.{StatementNo}
use Rattle.profile_image.specs.declared.values.Value.TheVariants as value_of
use Rattle.profile_machine.specs.declared.world.World.{World}
use Rattle.profile_machine.specs.declared.world.appointments.Due.TheVariants as due_for
use Rattle.profile_machine.specs.declared.world.calls.Call.{Call}
use Rattle.profile_machine.specs.declared.world.calls.Outcome.TheVariants as call_ended
use Rattle.profile_machine.specs.declared.world.lines.Line.TheVariants as line
use Rattle.profile_machine.specs.declared.world.lines.Part.{Part}
use Rattle.profile_machine.specs.declared.world.lines.Part.TheVariants.{OfOther, Own, TheBlock, TheFinish}
use Rattle.profile_machine.specs.declared.world.lines.Said.{Said}
use Rattle.profile_machine.specs.declared.world.scopes.Located.{Located}
use Rattle.profile_machine.specs.declared.world.scopes.ScopeId.{ScopeId}
use Rattle.profile_machine.specs.declared.world.tasks.Cause.TheVariants as inherited_by
use Rattle.profile_machine.specs.declared.world.tasks.State as tasks
use Rattle.profile_machine.specs.declared.world.tasks.State.TheVariants.{Blocked, Made, Runnable}
use Rattle.profile_machine.specs.declared.world.tasks.Task.{Task}
use Rattle.profile_machine.specs.declared.world.tasks.Waiting.{Waiting}
use Rattle.profile_machine.specs.declared.world.tasks.Waiting.TheVariants as waits_for
use Rattle.std.proofs.Common.{ap, arith, cond, inl, inr, le_refl, refl, subst, sym, ◌++◌, ◌∙◌, ◌∷◌, ◌≡◌, ◌⊎◌}
use Rattle.std.proofs.lemmas.Bool.{le-leb}
use Rattle.std.specs.Prelude.{Bool, List, None, Option, Some, [], false, find, leb, suc, true, ℕ, ℤ, ◌-◌, unwrap_or}
use Rattle.trace_text.specs.Laws.{Levels}
use Rattle.trace_text.specs.declared.events.Created.TheVariants as created
use Rattle.trace_text.specs.declared.events.Waits.{Waits}
use Rattle.trace_text.specs.declared.events.Who.{Who}
use Rattle.trace_text.specs.declared.events.Who.TheVariants as who
use Rattle.line_laws.proofs.Leaving.TaskLemmas.{same_self}

pub made-apart : {P : Type 0} (state : tasks.State) → is_made_state state ≡ true → is_runnable_state state ≡ true → P
made-apart Made made runs = absurd cc
made-apart Runnable made runs = absurd cc
made-apart (Blocked waiting) made runs = absurd cc

pub made-unblocked : (state : tasks.State) → is_made_state state ≡ true → is_blocked state ≡ false
made-unblocked Made made = refl
made-unblocked Runnable made = absurd cc
made-unblocked (Blocked waiting) made = absurd cc

-- ---- somebody is no longer there

forget-other : (name : Who) (w : World) (n : Who) → same_who n name ≡ false → core (task_of (forget_task name w) n) ≡ core (task_of w n)
forget-other name w (who.Task k) apart = ap (λ (r : Option Task). core (unwrap_or r nobody)) (kept-others name (who.Task k) w.tasks apart)
forget-other name w who.Agent apart = refl

forget-task : (name : Who) (w : World) → is_agent name ≡ false → core (task_of (forget_task name w) name) ≡ core nobody
forget-task (who.Task k) w task = ap (λ (r : Option Task). core (unwrap_or r nobody)) (none-left (who.Task k) w.tasks)
forget-task who.Agent w task = absurd cc

forget-agent : (name : Who) (w : World) → is_agent name ≡ true → core (task_of (forget_task name w) name) ≡ core (task_of w name)
forget-agent (who.Task k) w agent = absurd cc
forget-agent who.Agent w agent = refl

record Forgets (P Q : Point) (name : Who) : Type 0 where
  others : (d : ℕ) (n : Who) (c : Core) (l : Last) → same_who n name ≡ false → P d n c l → Q d n c l
  task : (d : ℕ) (c : Core) (l : Last) → is_agent name ≡ false → P d name c l → Q d name (core nobody) l
  agent : (d : ℕ) (c : Core) (l : Last) → is_agent name ≡ true → P d name c l → Q d name c l

holds-forget : (P Q : Point) (name : Who) → Forgets P Q name → Leads (Holds P) (Holds Q) (changes (forget_task name))
unfolding Holds
holds-forget P Q name forgets =
    changes-leads (forget_task name) (λ w said h. (
      sound-forget name w h.0,
      λ n. by_test (same_who n name)
          (λ same. subst (λ m. Q w.drawn.tasks m (core (task_of (forget_task name w) m)) (last_put m said)) (sym (who-is n name same))
          (by_test (is_agent name)
          (λ agent. subst (λ c. Q w.drawn.tasks name c (last_put name said)) (sym (forget-agent name w agent)) (forgets.agent w.drawn.tasks (core (task_of w name)) (last_put name said) agent (h.1 name)))
          (λ task. subst (λ c. Q w.drawn.tasks name c (last_put name said)) (sym (forget-task name w task)) (forgets.task w.drawn.tasks (core (task_of w name)) (last_put name said) task (h.1 name)))))
          (λ apart. subst (λ c. Q w.drawn.tasks n c (last_put n said)) (sym (forget-other name w n apart)) (forgets.others w.drawn.tasks n (core (task_of w n)) (last_put n said) apart (h.1 n))),
    ))

-- ---- a task is added

record AddedAs (t : Task) (n : Who) (before behind : Core) : Type 0 where
  named : same_who n t.who ≡ true
  was : before ≡ core nobody
  is : behind ≡ core t

unfoldable pub or_found : Option Task → Option Task → Option Task
or_found None other = other
or_found (Some x) other = Some x

pub behind_if : (b : Bool) (x : Task) (found behind other : Option Task) → behind ≡ or_found found other → cond b (Some x) behind ≡ or_found (cond b (Some x) found) other
unfolding or_found
behind_if true x found behind other e = refl
behind_if false x found behind other e = e

pub find-behind : (test : Task → Bool) (t : Task) (xs : List Task) → find test (xs ++ t ∷ []) ≡ or_found (find test xs) (cond (test t) (Some t) None)
unfolding or_found
find-behind test t [] = refl
find-behind test t (x ∷ xs) = behind_if (test x) x (find test xs) (find test (xs ++ t ∷ [])) (cond (test t) (Some t) None) (find-behind test t xs)

added_by : (t : Task) (n : Who) (found behind : Option Task) (b : Bool) → same_who n t.who ≡ b → behind ≡ or_found found (cond b (Some t) None)
    → (core (unwrap_or behind nobody) ≡ core (unwrap_or found nobody)) ⊎ AddedAs t n (core (unwrap_or found nobody)) (core (unwrap_or behind nobody))
unfolding or_found
added_by t n (Some x) behind b is e = inl (ap (λ (r : Option Task). core (unwrap_or r nobody)) e)
added_by t n None behind true is e = inr (record { named = is; was = refl; is = ap (λ (r : Option Task). core (unwrap_or r nobody)) e })
added_by t n None behind false is e = inl (ap (λ (r : Option Task). core (unwrap_or r nobody)) e)

add-found : (t : Task) (w : World) (n : Who) → (core (task_of (add_task t w) n) ≡ core (task_of w n)) ⊎ AddedAs t n (core (task_of w n)) (core (task_of (add_task t w) n))
add-found t w (who.Task k) = added_by t (who.Task k) (find (is_who (who.Task k)) w.tasks) (find (is_who (who.Task k)) (w.tasks ++ t ∷ [])) (is_who (who.Task k) t) refl (find-behind (is_who (who.Task k)) t w.tasks)
add-found t w who.Agent = inl refl

less_number : (d k : ℕ) → leb (suc d) k ≡ true → leb d k ≡ true
less_number d k e = grind arith

pub fresh-less : (d : ℕ) (n : Who) → is_fresh (suc d) n ≡ true → is_fresh d n ≡ true
fresh-less d (who.Task t) e = less_number d t.0 e
fresh-less d who.Agent e = e

pub drawn-more : (d : ℕ) (n : Who) → is_fresh d n ≡ false → is_fresh (suc d) n ≡ false
drawn-more d n e = by_test (is_fresh (suc d) n) (λ fresh. absurd (let clash : false ≡ true = sym e ∙ fresh-less d n fresh in cc)) (λ apart. apart)

pub fresh-next : (d : ℕ) → is_fresh d (who.Task (record { 0 = d })) ≡ true
fresh-next d = le-leb d d (le_refl d)

-- ---- lines that take somebody out

done_puts : (n : Who) (t : TaskNo) → same_who n (who.Task t) ≡ false → puts n (line.Done t) ≡ None
done_puts n t apart = ap (λ b. cond b (Some None) None) apart

nowhere : Core → Option ℕ
nowhere c = None

done-holds : (P Q : Point) (part : Part) (t : TaskNo) → Places P Q (who.Task t) part nowhere → Leads (Holds P) (Holds Q) (says_done part (who.Task t))
unfolding says_done Ends nowhere
done-holds P Q part t places = record {
  runs = λ w said h. holds-put P Q (who.Task t) part nowhere (line.Done t) w said (ap (λ b. cond b (Some None) None) (same_self (who.Task t))) (λ n apart. done_puts n t apart) places h;
}

block-holds : (P Q : Point) (name : Who) (waits : Waits) → Places P Q name TheBlock nowhere → Leads (Holds P) (Holds Q) (says TheBlock (line.Block name waits))
unfolding Ends nowhere
block-holds P Q name waits places = record {
  runs = λ w said h. holds-put P Q name TheBlock nowhere (line.Block name waits) w said (ap (λ b. cond b (Some None) None) (same_self name)) (λ n apart. ap (λ b. cond b (Some None) None) apart) places h;
}

module _ (p : Image) (s : Levels) (a : Who) where
  abbrev Held : Point → State
  Held P = Holds P

  abbrev Whole : Point
  Whole = Later p s a

  -- ---- somebody blocks

  -- before the line: who acts is there and sleeps
  Blocking : Who → Point
  Blocking name = Except Whole name (λ d n c l. same_who name a ≡ true → (is_fresh d name ≡ false) × (sleeps_in c ≡ true))

  block_turns : (name : Who) (waiting : Waiting) → Turns Whole (Blocking name) name (with_state (Blocked waiting))
  unfolding Blocking
  block_turns name waiting = record {
    others = λ d n c l apart h. ((λ e. h), (λ same. clash_of (same_who n name) same apart));
    own = λ d t l is h. ((λ apart. self_apart p s a name apart), (λ self acts. ((h.1 acts).0, refl)));
    missed = λ d l task h. ((λ apart. self_apart p s a name apart), (λ self acts. nobody-acts p s a l (h.1 acts).1));
  }

  unkept_turns : (name : Who) → Turns (Blocking name) (Blocking name) name without_kept_level
  unfolding Blocking
  unkept_turns name = keeps_turns p s a (Blocking name) name without_kept_level (λ d t l is h. ((λ apart. self_apart p s a name apart), (λ self acts. h.1 self acts)))

  block_places : (name : Who) → Places (Blocking name) Whole name TheBlock nowhere
  unfolding Blocking nowhere
  block_places name = record {
    others = λ d n c l apart h. h.0 apart;
    own = λ d c l h.
        let out = block-put l in
        (subst (Good p s a d name c) (sym out) (blocked-good p s a d name c (Some (TheBlock, None)) refl), λ acts. let k = h.1 (same_self name) acts in (k.0, inr (k.1, out)));
  }

  blocks_later : (name : Who) (waiting : Waiting) → Keeps (Held Whole) (block TheBlock name waiting)
  unfolding block says_block
  blocks_later name waiting = then-leads (changes (edit_task name (with_state (Blocked waiting)))) _
      (changes-leads (edit_task name (with_state (Blocked waiting)))
      (λ w said h. holds-edit Whole (Blocking name) name (with_state (Blocked waiting)) w said (λ t. refl) (sound-edit name (with_state (Blocked waiting)) w (λ t. refl) (λ t k. k) (holds-sound Whole w said h))
      (block_turns name waiting) h))
      (then-leads (changes (edit_task name without_kept_level)) _
      (changes-leads (edit_task name without_kept_level)
      (λ w said h. holds-edit (Blocking name) (Blocking name) name without_kept_level w said (λ t. refl) (sound-edit name without_kept_level w (λ t. refl) (λ t k. k) (holds-sound (Blocking name) w said h))
      (unkept_turns name) h))
      (block-holds (Blocking name) Whole name (word_of waiting) (block_places name)))

  -- ---- another becomes ready

  -- between the change of its state and its line
  record Begun (drawn : ℕ) (name : Who) (d : ℕ) (c : Core) (l : Last) : Type 0 where
    late : MayBePlaced (limit p s a name) l
    runs : (runs_in c ≡ true) ⊎ IsAbsent name c
    size : d ≡ drawn

  pub begun_runs : (name : Who) (t : Task) (level : Option ℕ) → (is_agent name ≡ false → same_who name t.who ≡ true) → (runs_in (core t) ≡ true) ⊎ IsAbsent name (core t)
      → (runs_in (core (record t { kept_level = level })) ≡ true) ⊎ IsAbsent name (core (record t { kept_level = level }))
  begun_runs name t level named (inl runs) = inl runs
  begun_runs name t level named (inr absent) = not-absent name t (λ u. u) named refl absent

  begun_readies : (P Q : Point) (drawn : ℕ) (name : Who) → same_who name a ≡ false → is_fresh drawn name ≡ false
      → ((d : ℕ) (n : Who) (c : Core) (l : Last) → same_who n name ≡ false → P d n c l → Q d n c l) → ((d : ℕ) (c : Core) (l : Last) → P d name c l → MayBePlaced (limit p s a name) l × (d ≡ drawn))
      → ((d : ℕ) (c : Core) (l : Last) → (runs_in c ≡ true) ⊎ IsAbsent name c → d ≡ drawn → Good p s a d name c l → Q d name c l) → Readies p P Q name (OfOther name)
  begun_readies P Q drawn name apart is_drawn others held stands = record {
    between = Begun drawn name;
    others = others;
    own = λ d t l h. record { late = (held d (core t) l h).0; runs = inl refl; size = (held d (core t) l h).1 };
    missed = λ d l task h. record { late = (held d (core nobody) l h).0; runs = inr (task, refl); size = (held d (core nobody) l h).1 };
    keeps = λ d t l level named h. record { late = h.late; runs = begun_runs name t level named h.runs; size = h.size };
    places = λ d c l h.
        stands d c (with_put l (OfOther name) (Some (Some (active_in p c)))) h.runs h.size
        (placed-good p s a d name c l (OfOther name) (fits_other p s a name) (ap (λ m. is_fresh m name) h.size ∙ is_drawn) h.late (subst (λ q. MayBePlaced q l) (limit-other p s a name apart) h.late) h.runs);
  }

  begun_awake : {P : Type 0} (name : Who) (c : Core) → (runs_in c ≡ true) ⊎ IsAbsent name c → sleeps_in c ≡ true → P
  begun_awake name c (inl runs) sleeps = awake c runs sleeps
  begun_awake name c (inr absent) sleeps = nobody-sleeps (subst (λ e. sleeps_in e ≡ true) absent.1 sleeps)

  later_begun : (v : World) (name : Who) → IsUnmade p s a v name → Readies p (Since p s a v) (Since p s a v) name (OfOther name)
  later_begun v name made =
      begun_readies (Since p s a v) (Since p s a v) v.drawn.tasks name made.other made.drawn (λ d n c l apart h. h) (λ d c l h. (h.0.0.late, h.1))
      (λ d c l runs size good. ((good, λ same. clash_of (same_who name a) same made.other), size, λ sleeps. begun_awake name c runs sleeps))

  activates_since : (v : World) (name : Who) → IsUnmade p s a v name → Keeps (Held (Since p s a v)) (ready p (OfOther name) name)
  activates_since v name made = ready-holds p (Since p s a v) (Since p s a v) name (OfOther name) (later_begun v name made)

  -- ---- at a select

  pub IsListed : World → Who → Type 0
  IsListed v name = is_fresh v.drawn.tasks name ≡ false

  listed_each : (v : World) → Sound v → EachTask (λ t. IsListed v t.who) v.tasks
  unfolding IsListed
  listed_each v sound = each-on (IsThere v) (λ t. is_fresh v.drawn.tasks t.who ≡ false) v.tasks (λ t there. there.drawn) (all_there v sound)

  sized : (P : Point) (w : World) (said : List Said) → Holds P w said → Holds (Sized p s a w.drawn.tasks P) w said
  unfolding Holds
  sized P w said h = (h.0, λ n. (h.1 n, refl))

  unsized : (P : Point) (drawn : ℕ) (w : World) (said : List Said) → Holds (Sized p s a drawn P) w said → Holds P w said
  unsized P drawn w said h = holds-also (Sized p s a drawn P) P (λ d n c l k. k.0) w said h

  choosing_begun : (drawn : ℕ) (name : Who) → same_who name a ≡ false → is_fresh drawn name ≡ false → Readies p (Sized p s a drawn (Choosing p s a)) (Sized p s a drawn (Choosing p s a)) name (OfOther name)
  choosing_begun drawn name apart is_drawn =
      begun_readies (Sized p s a drawn (Choosing p s a)) (Sized p s a drawn (Choosing p s a)) drawn name apart is_drawn (λ d n c l e h. h) (λ d c l h. (h.0.late, h.1))
      (λ d c l runs size good. (good-choosing p s a d name c l good, size))

  inside_begun : (drawn : ℕ) (name : Who) → same_who name a ≡ false → is_fresh drawn name ≡ false → Readies p (Sized p s a drawn Whole) (Sized p s a drawn Whole) name (OfOther name)
  inside_begun drawn name apart is_drawn =
      begun_readies (Sized p s a drawn Whole) (Sized p s a drawn Whole) drawn name apart is_drawn (λ d n c l e h. h) (λ d c l h. (h.0.0.late, h.1))
      (λ d c l runs size good. ((good, λ same. clash_of (same_who name a) same apart), size))

  edits-holds : (P Q : Point) (name : Who) (f : Task → Task) → ((t : Task) → (f t).who ≡ t.who) → ((t : Task) → Unactivated t.inherited → Unactivated (f t).inherited) → Turns P Q name f
      → Leads (Holds P) (Holds Q) (changes (edit_task name f))
  edits-holds P Q name f named frees turns = changes-leads (edit_task name f) (λ w said h. holds-edit P Q name f w said named (sound-edit name f w named frees (holds-sound P w said h)) turns h)

  runs_on_choosing : (drawn : ℕ) → Keeps (Held (Sized p s a drawn (Choosing p s a))) (changes (edit_task a (with_state Runnable)))
  runs_on_choosing drawn =
      edits-holds (Sized p s a drawn (Choosing p s a)) (Sized p s a drawn (Choosing p s a)) a (with_state Runnable) (λ t. refl) (λ t k. k)
      (keeps_turns p s a (Sized p s a drawn (Choosing p s a)) a (with_state Runnable) (λ d t l is h. (record { late = h.0.late; low = h.0.low; shown = inl (inl refl); fresh = h.0.fresh }, h.1)))

  runs_on_inside : (drawn : ℕ) → Keeps (Held (Sized p s a drawn Whole)) (changes (edit_task a (with_state Runnable)))
  runs_on_inside drawn = edits-holds (Sized p s a drawn Whole) (Sized p s a drawn Whole) a (with_state Runnable) (λ t. refl) (λ t k. k)
      (keeps_turns p s a (Sized p s a drawn Whole) a (with_state Runnable)
      (λ d t l is h. ((record { late = h.0.0.late; low = h.0.0.low; shown = inl refl; fresh = h.0.0.fresh }, λ same. ((h.0.1 same).0, inl refl)), h.1)))

  -- who acts says that it blocks
  shown_but : (n : Who) (c : Core) (l : Last) → same_who n a ≡ false → IsShownRightly p s a n c l ⊎ ((same_who n a ≡ true) × (waits_at_terminate (waiting_in c.state) ≡ true)) → IsShownRightly p s a n c l
  shown_but n c l apart (inl h) = h
  shown_but n c l apart (inr h) = clash_of (same_who n a) h.0 apart

  choosing-good : (d : ℕ) (n : Who) (c : Core) (l : Last) → same_who n a ≡ false → Choosing p s a d n c l → Good p s a d n c l
  choosing-good d n c l apart h = record { late = h.late; low = h.low; shown = shown_but n c l apart h.shown; fresh = h.fresh }

  Unsaid : Point
  Unsaid = Except (Good p s a) a (λ d n c l. Unit {0})

  unsaid_turns : Turns (Choosing p s a) Unsaid a without_kept_level
  unfolding Unsaid
  unsaid_turns = record {
    others = λ d n c l apart h. ((λ e. choosing-good d n c l apart h), (λ same. tt));
    own = λ d t l is h. ((λ apart. self_apart p s a a apart), (λ same. tt));
    missed = λ d l task h. ((λ apart. self_apart p s a a apart), (λ same. tt));
  }

  unsaid_places : Places Unsaid (Good p s a) a TheBlock nowhere
  unfolding Unsaid nowhere
  unsaid_places = record {
    others = λ d n c l apart h. h.0 apart;
    own = λ d c l h. subst (Good p s a d a c) (sym (block-put l)) (blocked-good p s a d a c (Some (TheBlock, None)) refl);
  }

  says_blocked_choosing : (waiting : Waiting) → Leads (Held (Choosing p s a)) (Held (Good p s a)) (says_block TheBlock a waiting)
  unfolding says_block
  says_blocked_choosing waiting =
      then-leads (changes (edit_task a without_kept_level)) _ (edits-holds (Choosing p s a) Unsaid a without_kept_level (λ t. refl) (λ t k. k) unsaid_turns)
      (block-holds Unsaid (Good p s a) a (word_of waiting) unsaid_places)

  Spoken : Point
  Spoken = Except Whole a (λ d n c l. (is_fresh d a ≡ false) × ((runs_in c ≡ true) ⊎ (sleeps_in c ≡ true)))

  either_state : (c : Core) (l : Last) → (runs_in c ≡ true) ⊎ ((sleeps_in c ≡ true) × (l ≡ Some (TheBlock, None))) → (runs_in c ≡ true) ⊎ (sleeps_in c ≡ true)
  either_state c l (inl runs) = inl runs
  either_state c l (inr sleeps) = inr sleeps.0

  out_state : (c : Core) (l : Last) → (runs_in c ≡ true) ⊎ (sleeps_in c ≡ true) → (runs_in c ≡ true) ⊎ ((sleeps_in c ≡ true) × (with_put l TheBlock (Some None) ≡ Some (TheBlock, None)))
  out_state c l (inl runs) = inl runs
  out_state c l (inr sleeps) = inr (sleeps, block-put l)

  spoken_turns : Turns Whole Spoken a without_kept_level
  unfolding Spoken
  spoken_turns = record {
    others = λ d n c l apart h. ((λ e. h), (λ same. clash_of (same_who n a) same apart));
    own = λ d t l is h. ((λ apart. self_apart p s a a apart), (λ same. ((h.1 same).0, either_state (core t) l (h.1 same).1)));
    missed = λ d l task h. ((λ apart. self_apart p s a a apart), (λ same. ((h.1 same).0, either_state (core nobody) l (h.1 same).1)));
  }

  spoken_places : Places Spoken Whole a TheBlock nowhere
  unfolding Spoken nowhere
  spoken_places = record {
    others = λ d n c l apart h. h.0 apart;
    own = λ d c l h.
        let k = h.1 (same_self a) in
        (subst (Good p s a d a c) (sym (block-put l)) (blocked-good p s a d a c (Some (TheBlock, None)) refl), λ acts. (k.0, out_state c l k.1));
  }

  says_blocked_inside : (waiting : Waiting) → Keeps (Held Whole) (says_block TheBlock a waiting)
  unfolding says_block
  says_blocked_inside waiting =
      then-leads (changes (edit_task a without_kept_level)) _ (edits-holds Whole Spoken a without_kept_level (λ t. refl) (λ t k. k) spoken_turns) (block-holds Spoken Whole a (word_of waiting) spoken_places)

  -- or it does not wait there
  shown_unless : (n : Who) (c : Core) (l : Last) → (same_who n a ≡ true → waits_at_terminate (waiting_in c.state) ≡ false)
      → IsShownRightly p s a n c l ⊎ ((same_who n a ≡ true) × (waits_at_terminate (waiting_in c.state) ≡ true)) → IsShownRightly p s a n c l
  shown_unless n c l leaves (inl h) = h
  shown_unless n c l leaves (inr h) = clash_of (waits_at_terminate (waiting_in c.state)) h.1 (leaves h.0)

  settles_choosing : (w : World) (said : List Said) → waits_at_terminate (waiting_of w a) ≡ false → Holds (Choosing p s a) w said → Holds (Good p s a) w said
  unfolding Holds
  settles_choosing w said leaves h = (
    h.0,
    λ n. let k = h.1 n in record {
      late = k.late;
      low = k.low;
      shown = shown_unless n (core (task_of w n)) (last_put n said) (λ same. ap (λ m. waits_at_terminate (waiting_of w m)) (who-is n a same) ∙ leaves) k.shown;
      fresh = k.fresh;
    },
  )

  choosing_moves : SelectMoves p a IsListed (Held (Choosing p s a)) (Held (Good p s a)) (λ v. Held (Sized p s a v.drawn.tasks (Choosing p s a)))
  unfolding IsListed
  choosing_moves = record {
    quiet = holds_quiet (Choosing p s a);
    listed = λ v said h. listed_each v (holds-sound (Choosing p s a) v said h);
    looks_at = λ v said h. sized (Choosing p s a) v said h;
    looked = λ v w said h. unsized (Choosing p s a) v.drawn.tasks w said h;
    looking = λ v. holds_quiet (Sized p s a v.drawn.tasks (Choosing p s a));
    begins =
        λ v name apart listed.
        ready-holds p (Sized p s a v.drawn.tasks (Choosing p s a)) (Sized p s a v.drawn.tasks (Choosing p s a)) name (OfOther name) (choosing_begun v.drawn.tasks name (apart-sym a name apart) listed);
    runs_on = λ v. runs_on_choosing v.drawn.tasks;
    says_blocked = says_blocked_choosing;
    settles = settles_choosing;
  }

  inside_moves : SelectMoves p a IsListed (Held Whole) (Held Whole) (λ v. Held (Sized p s a v.drawn.tasks Whole))
  unfolding IsListed
  inside_moves = record {
    quiet = holds_quiet Whole;
    listed = λ v said h. listed_each v (holds-sound Whole v said h);
    looks_at = λ v said h. sized Whole v said h;
    looked = λ v w said h. unsized Whole v.drawn.tasks w said h;
    looking = λ v. holds_quiet (Sized p s a v.drawn.tasks Whole);
    begins = λ v name apart listed. ready-holds p (Sized p s a v.drawn.tasks Whole) (Sized p s a v.drawn.tasks Whole) name (OfOther name) (inside_begun v.drawn.tasks name (apart-sym a name apart) listed);
    runs_on = λ v. runs_on_inside v.drawn.tasks;
    says_blocked = says_blocked_inside;
    settles = λ w said waits h. h;
  }

  -- who acts comes to its select
  select_turns : (waiting : Waiting) → waits_at_terminate (Some waiting) ≡ true → Turns (First p s a) (Choosing p s a) a (with_state (Blocked waiting))
  select_turns waiting waits = record {
    others = λ d n c l apart h. good-choosing p s a d n c l h.0;
    own = λ d t l is h. record { late = h.0.late; low = h.0.low; shown = inr (same_self a, waits); fresh = h.0.fresh };
    missed = λ d l task h. nobody-runs (h.1 (same_self a)).1;
  }

  selects : (waiting : Waiting) → waits_at_terminate (Some waiting) ≡ true → Leads (Held (First p s a)) (Held (Choosing p s a)) (changes (edit_task a (with_state (Blocked waiting))))
  selects waiting waits = edits-holds (First p s a) (Choosing p s a) a (with_state (Blocked waiting)) (λ t. refl) (λ t k. k) (select_turns waiting waits)

  -- a moment is appointed for it
  appoints-holds : (P : Point) → ((d : ℕ) (c : Core) (l : Last) → P d a c l → is_fresh d a ≡ false) → (t : TaskNo) (moment : ℤ) → who.Task t ≡ a → Alters (Holds P) (appoint (due_for.Delay t) moment)
  appoints-holds P acts t moment is = record {
    turns = λ w said h.
        holds-plain P w (appoint (due_for.Delay t) moment w) said refl refl refl
        (sound-appoint t moment w (ap (is_fresh w.drawn.tasks) is ∙ acts w.drawn.tasks (core (task_of w a)) (last_put a said) (holds-of P w said a h)) (holds-sound P w said h)) h;
  }

  -- ---- tasks that were made end

  since_now : (v : World) (said : List Said) → Holds Whole v said → Holds (Since p s a v) v said
  unfolding Holds
  since_now v said h = (h.0, λ n. (h.1 n, refl, λ sleeps. sleeps))

  since_then : (v w : World) (said : List Said) → Holds (Since p s a v) w said → Holds Whole w said
  since_then v w said h = holds-also (Since p s a v) Whole (λ d n c l k. k.0) w said h

  unmade_state : {P : Type 0} (v : World) (t : Task) → IsThere v t → is_made t ≡ true → (runs_in (core (task_of v t.who)) ≡ true) ⊎ (sleeps_in (core (task_of v t.who)) ≡ true) → P
  unmade_state v t there made (inl runs) = made-apart t.state made (ap (λ u. is_runnable_state u.state) (sym there.found) ∙ runs)
  unmade_state v t there made (inr sleeps) = clash_of (is_blocked t.state) (ap (λ u. is_blocked u.state) (sym there.found) ∙ sleeps) (made-unblocked t.state made)

  unmade_as : (v : World) (t : Task) → IsThere v t → is_made t ≡ true → (same_who t.who a ≡ true → (runs_in (core (task_of v t.who)) ≡ true) ⊎ (sleeps_in (core (task_of v t.who)) ≡ true)) → IsUnmade p s a v t.who
  unmade_as v t there made acts = record {
    other = by_test (same_who t.who a) (λ same. unmade_state v t there made (acts same)) (λ apart. apart);
    unblocked = ap (λ u. is_blocked u.state) there.found ∙ made-unblocked t.state made;
    drawn = there.drawn;
    task = there.no_agent;
  }

  made_each : (v : World) (said : List Said) → Holds Whole v said → EachTask (λ t. is_made t ≡ true → IsUnmade p s a v t.who) v.tasks
  made_each v said h = each-on (IsThere v) (λ t. is_made t ≡ true → IsUnmade p s a v t.who) v.tasks
      (λ t there made. unmade_as v t there made (λ same. let k = (holds-of Whole v said t.who h).1 same in either_state (core (task_of v t.who)) (last_put t.who said) k.1)) (all_there v (holds-sound Whole v said h))

  asleep_each : (P : Point) (w : World) (said : List Said) → Holds P w said → EachTask (λ t. is_blocked t.state ≡ true → Sleeping_in w t.who) w.tasks
  asleep_each P w said h =
      each-on (IsThere w) (λ t. is_blocked t.state ≡ true → Sleeping_in w t.who) w.tasks (λ t there sleeps. ap (λ u. is_blocked u.state) there.found ∙ sleeps) (all_there w (holds-sound P w said h))

  activation-alters : (v : World) (name : Who) (level : ℕ) → IsUnmade p s a v name → Alters (Held (Since p s a v)) (inherit name inherited_by.Activation level)
  activation-alters v (who.Task n) level made = record {
    turns = λ w said h.
        let f : Task → Task = λ t. record t { inherited = record { cause = inherited_by.Activation; level = level } ∷ t.inherited } in
        holds-edit (Since p s a v) (Since p s a v) (who.Task n) f w said (λ t. refl) (sound-task n f w (λ t. refl) (holds-sound (Since p s a v) w said h))
        (keeps_turns p s a (Since p s a v) (who.Task n) f (λ d t l is k. (since_wakeful p s a v).rises d (who.Task n) t l (record { cause = inherited_by.Activation; level = level }) is k)) h;
  }
  activation-alters v who.Agent level made = clash_of (is_agent who.Agent) refl made.task

  made_places : (v : World) (name : Who) → IsUnmade p s a v name → Places (Since p s a v) (Ending p s a v name) name (OfOther name) nowhere
  unfolding nowhere
  made_places v name made = record {
    others = λ d n c l apart h. (h, (λ same. clash_of (same_who n name) same apart), made);
    own = λ d c l h.
        let out = put-out (OfOther name) l (level_shown name s) (subst (λ q. MayBePlaced q l) (limit-other p s a name made.other) h.0.0.late) in (
          (
            (
              record {
                late = put-late (limit p s a name) (OfOther name) l None (fits_other p s a name) h.0.0.late;
                low = at_most-out (place p s a name (with_put l (OfOther name) (Some None))) (active_in p c) out;
                shown = inr (inl out);
                fresh = λ e. out;
              },
              λ same. clash_of (same_who name a) same made.other,
            ),
            h.1,
            h.2,
          ),
          (λ same. out),
          made,
        );
  }

  ends_made : (v : World) (name : Who) → IsUnmade p s a v name → Leads (Held (Since p s a v)) (Held (Ending p s a v name)) (says_done (OfOther name) name)
  ends_made v (who.Task t) made = done-holds (Since p s a v) (Ending p s a v (who.Task t)) (OfOther (who.Task t)) t (made_places v (who.Task t) made)
  ends_made v who.Agent made = clash_of (is_agent who.Agent) refl made.task

  abbrev less : Task → Task
  less t = record t { inherited = without (λ i. same_cause inherited_by.Activation i.cause) t.inherited }

  ended_loses : (v : World) (name : Who) (w : World) (said : List Said) → Holds (Ending p s a v name) w said → Holds (Ending p s a v name) (lose name inherited_by.Activation w) said
  ended_loses v name w said h = holds-edit (Ending p s a v name) (Ending p s a v name) name less w said (λ t. refl)
      (sound-edit name less w (λ t. refl) (λ t k. unactivated_without (λ i. same_cause inherited_by.Activation i.cause) t.inherited k) (holds-sound (Ending p s a v name) w said h))
      (keeps_turns p s a (Ending p s a v name) name less (λ d t l is k. (
        (later-kept p s a d name t (core (less t)) l is refl (at_most-out (place p s a name l) (active_in p (core (less t))) (k.1 (same_self name))) k.0.0, k.0.1, k.0.2),
        k.1,
        k.2,
      ))) h

  forgets_made : (v : World) (name : Who) → Leads (Held (Ending p s a v name)) (Held (Since p s a v)) (changes (forget_task name))
  forgets_made v name =
      holds-forget (Ending p s a v name) (Since p s a v) name (record {
        others = λ d n c l apart h. h.0;
        task = λ d c l task h.
            let hidden = h.1 (same_self name) in (
              (
                record { late = h.0.0.0.late; low = at_most-out (place p s a name l) (active_in p (core nobody)) hidden; shown = inr (inl hidden); fresh = λ e. hidden },
                λ same. clash_of (same_who name a) same h.2.other,
              ),
              h.0.1,
              λ sleeps. nobody-sleeps sleeps,
            );
        agent = λ d c l agent h. clash_of (is_agent name) agent h.2.task;
      })

  -- ---- who acts ends

  last_places : (t : TaskNo) → who.Task t ≡ a → Places (First p s a) (Dying p s a) (who.Task t) Own nowhere
  unfolding nowhere
  last_places t is = record {
    others = λ d n c l apart h. ((λ e. h.0), (λ same. clash_of (same_who n a) same (ap (same_who n) (sym is) ∙ apart)));
    own = λ d c l h.
        let acts = h.1 (ap (same_who (who.Task t)) (sym is) ∙ same_self (who.Task t)) in (
          (λ apart. clash_of (same_who (who.Task t) a) (ap (same_who (who.Task t)) (sym is) ∙ same_self (who.Task t)) apart),
          (λ same. record {
            late = put-late (limit p s a (who.Task t)) Own l None (fits_own p s a (who.Task t)) h.0.late;
            runs = acts.1;
            fresh = acts.0;
            gone = inl (put-out Own l (level_shown (who.Task t) s) (subst (MayBePlaced Own) (sym acts.2) tt));
          }),
        );
  }

  first-dying : (d : ℕ) (n : Who) (c : Core) (l : Last) → who.Agent ≡ a → First p s a d n c l → Dying p s a d n c l
  first-dying d n c l is h = (
    (λ apart. h.0),
    (λ same. record { late = h.0.late; runs = (h.1 same).1; fresh = (h.1 same).0; gone = inr (ap (same_who n) is ∙ same, h.0.low) }),
  )

  ends_as : (name : Who) → name ≡ a → Leads (Held (First p s a)) (Held (Dying p s a)) (says_done Own name)
  unfolding says_done
  ends_as (who.Task t) is = done-holds (First p s a) (Dying p s a) Own t (last_places t is)
  ends_as who.Agent is = nothing-leads (λ w said h. holds-also (First p s a) (Dying p s a) (λ d n c l k. first-dying d n c l is k) w said h)

  gone-loses : (t : Task) (n : Who) (l : Last) → is_agent n ≡ false → Hidden p s a n l ⊎ ((is_agent n ≡ true) × IsAtMost (place p s a n l) (active_in p (core t)))
      → Hidden p s a n l ⊎ ((is_agent n ≡ true) × IsAtMost (place p s a n l) (active_in p (core (less t))))
  gone-loses t n l task (inl hidden) = inl hidden
  gone-loses t n l task (inr agent) = clash_of (is_agent n) agent.0 task

  dying_loses : (name : Who) → name ≡ a → (w : World) (said : List Said) → Holds (Dying p s a) w said → Holds (Dying p s a) (lose name inherited_by.Activation w) said
  dying_loses (who.Task n) is w said h =
      holds-edit (Dying p s a) (Dying p s a) (who.Task n) less w said (λ t. refl) (sound-task n less w (λ t. refl) (holds-sound (Dying p s a) w said h))
      (keeps_turns p s a (Dying p s a) (who.Task n) less (λ d t l named k. (
        (λ apart. clash_of (same_who (who.Task n) a) (ap (same_who (who.Task n)) (sym is) ∙ same_self (who.Task n)) apart),
        (λ same. let o = k.1 same in record { late = o.late; runs = o.runs; fresh = o.fresh; gone = gone-loses t (who.Task n) l refl o.gone }),
      ))) h
  dying_loses who.Agent is w said h =
      (holds_quiet (Dying p s a)).silently w (lose who.Agent inherited_by.Activation w) said
      (record {
        tasks = refl;
        agent = ap (λ inherited. core (record w.agent { inherited = inherited })) (unactivated-loses w.agent.inherited (holds-sound (Dying p s a) w said h).agent);
        objects = refl;
        drawn_tasks = refl;
        drawn_objects = refl;
        delays = λ t e. e;
      }) h

  gone-low : (n : Who) (c : Core) (l : Last) → Hidden p s a n l ⊎ ((is_agent n ≡ true) × IsAtMost (place p s a n l) (active_in p c)) → IsAtMost (place p s a n l) (active_in p c)
  gone-low n c l (inl hidden) = at_most-out (place p s a n l) (active_in p c) hidden
  gone-low n c l (inr agent) = agent.1

  gone-hidden : (n : Who) (c : Core) (l : Last) → is_agent n ≡ false → Hidden p s a n l ⊎ ((is_agent n ≡ true) × IsAtMost (place p s a n l) (active_in p c)) → Hidden p s a n l
  gone-hidden n c l task (inl hidden) = hidden
  gone-hidden n c l task (inr agent) = clash_of (is_agent n) agent.0 task

  forgets_dead : Leads (Held (Dying p s a)) (Held (Good p s a)) (changes (forget_task a))
  forgets_dead =
      holds-forget (Dying p s a) (Good p s a) a (record {
        others = λ d n c l apart h. h.0 apart;
        task = λ d c l task h.
            let o = h.1 (same_self a) in
            let hidden = gone-hidden a c l task o.gone in
            record { late = o.late; low = at_most-out (place p s a a l) (active_in p (core nobody)) hidden; shown = inr (inl hidden); fresh = λ e. hidden };
        agent = λ d c l agent h.
            let o = h.1 (same_self a) in
            record { late = o.late; low = gone-low a c l o.gone; shown = inl o.runs; fresh = λ e. clash_of (is_fresh d a) e o.fresh };
      })

  -- ---- a task is created

  new-same : (t : Task) (u w : World) → Same u w → IsNew p t u → IsNew p t w
  new-same t u w same new = record { numbered = new.numbered ∙ ap (λ n. who.Task (record { 0 = n })) (sym same.drawn_tasks); made = new.made; undeferred = new.undeferred }

  goes_new : (onward : Option StatementNo) (t : Task) → Keeps (With (Held (First p s a)) (IsNew p t)) (goes a onward)
  unfolding goes
  goes_new onward t =
      changes-leads (edit_top a (goes_on onward)) (λ w said h.
      let same = edit_task-same a (λ u. with_frames (edit_first (goes_on onward) u.frames) u) w (λ u. refl) in
      ((holds_quiet (First p s a)).silently w (edit_top a (goes_on onward) w) said same h.0, new-same t w (edit_top a (goes_on onward) w) same h.1))

  added-was : (d : ℕ) (n : Who) (c : Core) (l : Last) → First p s a d n c l → Later p s a (suc d) n c l
  added-was d n c l h = (record { late = h.0.late; low = h.0.low; shown = h.0.shown; fresh = λ e. h.0.fresh (fresh-less d n e) }, λ same. (drawn-more d n (h.1 same).0, inl (h.1 same).1))

  added-is : (d : ℕ) (n : Who) (t : Task) (before : Core) (l : Last) → t.who ≡ who.Task (record { 0 = d }) → same_who n t.who ≡ true → before ≡ core nobody → First p s a d n before l
      → Later p s a (suc d) n (core t) l
  added-is d n t before l numbered named was h =
      let hidden = h.0.fresh (ap (is_fresh d) (who-is n t.who named ∙ numbered) ∙ fresh-next d) in (
        record { late = h.0.late; low = at_most-out (place p s a n l) (active_in p (core t)) hidden; shown = inr (inl hidden); fresh = λ e. hidden },
        λ same. nobody-runs (subst (λ c. runs_in c ≡ true) was (h.1 same).1),
      )

  added_as : (d : ℕ) (n : Who) (t : Task) (before behind : Core) (l : Last) → t.who ≡ who.Task (record { 0 = d }) → (behind ≡ before) ⊎ AddedAs t n before behind → First p s a d n before l
      → Later p s a (suc d) n behind l
  added_as d n t before behind l numbered (inl same) h = subst (λ c. Later p s a (suc d) n c l) (sym same) (added-was d n before l h)
  added_as d n t before behind l numbered (inr one) h = subst (λ c. Later p s a (suc d) n c l) (sym one.is) (added-is d n t before l numbered one.named one.was h)

  adds : (t : Task) → Leads (With (Held (First p s a)) (IsNew p t)) (Held Whole) (changes (add_task t))
  unfolding Holds
  adds t =
      changes-leads (add_task t) (λ w said h. (
        sound-add t w h.1.numbered h.0.0,
        λ n. added_as w.drawn.tasks n t (core (task_of w n)) (core (task_of (add_task t w) n)) (last_put n said) h.1.numbered (add-found t w n) (h.0.1 n),
      ))

  thing_set : (id : Option ScopeId) (d : DeclNo)
      → Keeps (Held Whole) (for_some id (λ within. looks (λ w. changes (set_thing p (record { within = within; declared = d }) (value_of.Task (Some (record { 0 = w.drawn.tasks - 1 })))))))
  thing_set id d =
      for_some-keeps id _
      (λ within. looks-keeps _
      (λ w. changes-keeps _ (same-alters (holds_quiet Whole) _ (λ u. fine_same u _ (set_thing-same p (record { within = within; declared = d }) (value_of.Task (Some (record { 0 = w.drawn.tasks - 1 }))) u)))))

  creates_later : (st : StatementNo) (d : DeclNo) (id : Option ScopeId) (t : Task) → Leads (With (Held (First p s a)) (IsNew p t)) (Held Whole) (create_task p a st d id t)
  unfolding create_task says_created
  creates_later st d id t =
      then-leads (goes a (next_of p st)) _ (goes_new (next_of p st) t)
      (then-leads (changes (add_task t)) _ (adds t)
      (then-leads (for_some id _) _ (thing_set id d) (looks-keeps _ (λ w. keeps_says Whole Own (line.New (created.Task (record { 0 = w.drawn.tasks - 1 })) (Some d) t.base) (λ n. refl)))))

  -- ---- a call that is sent on ends before the acceptor becomes ready

  Meeting : TaskNo → Point
  Meeting t d n c l = Whole d n c l × (same_who n (who.Task t) ≡ true → MayBePlaced TheFinish l × (is_fresh d n ≡ false))

  OfFinish : Fitting
  OfFinish part name = part ≡ TheFinish

  finish_fits : (part : Part) (n : Who) → part ≡ TheFinish → Fits p s a part n
  finish_fits part n is = subst (λ q. is_part_before (limit p s a n) q ≡ false) (sym is) (fits_finish p s a n)

  meeting_wakeful : (t : TaskNo) → Wakeful p OfFinish (Meeting t)
  unfolding Meeting OfFinish
  meeting_wakeful t = record {
    rises = λ d n u l i named h. (later-rises p s a d n u l i named h.0, h.1);
    wakes = λ part d n c e l is drawn sleeps runs h. (
      later-wakes p s a part d n c e l (finish_fits part n is) drawn sleeps runs h.0,
      λ same. (put-late TheFinish part l (Some (active_in p e)) (ap (is_part_before TheFinish) is) (h.1 same).0, drawn),
    );
  }

  asleep-drawn : (n : Who) (w : World) → sleeps_in (core (task_of w n)) ≡ true → IsAbsent n (core (task_of w n)) ⊎ (is_fresh w.drawn.tasks n ≡ false) → is_fresh w.drawn.tasks n ≡ false
  asleep-drawn n w sleeps (inl absent) = nobody-sleeps (subst (λ c. sleeps_in c ≡ true) absent.1 sleeps)
  asleep-drawn n w sleeps (inr drawn) = drawn

  meeting_starts : (t : TaskNo) (w : World) (said : List Said) → Holds Whole w said → Sleeping_in w (who.Task t) → Holds (Meeting t) w said
  unfolding Holds Meeting
  meeting_starts t w said h sleeps = (
    h.0,
    λ n. (
      h.1 n,
      λ same. let asleep : sleeps_in (core (task_of w n)) ≡ true = ap (λ m. is_blocked (task_of w m).state) (who-is n (who.Task t) same) ∙ sleeps in (
        out-late TheFinish (last_put n said) (level_shown n s) (asleep-hidden p s a n (core (task_of w n)) (last_put n said) (h.1 n).0.shown asleep),
        asleep-drawn n w asleep (known w n h.0),
      ),
    ),
  )

  record Met (name : Who) (d : ℕ) (c : Core) (l : Last) : Type 0 where
    late : MayBePlaced (limit p s a name) l
    may : MayBePlaced TheFinish l
    drawn : is_fresh d name ≡ false
    runs : (runs_in c ≡ true) ⊎ IsAbsent name c
    acts : same_who name a ≡ true → runs_in c ≡ true

  met : (t : TaskNo) → Readies p (Meeting t) Whole (who.Task t) TheFinish
  unfolding Meeting
  met t = record {
    between = Met (who.Task t);
    others = λ d n c l apart h. h.0;
    own = λ d u l h. let k = h.1 (same_self (who.Task t)) in record { late = h.0.0.late; may = k.0; drawn = k.1; runs = inl refl; acts = λ same. refl };
    missed = λ d l task h. let k = h.1 (same_self (who.Task t)) in record { late = h.0.0.late; may = k.0; drawn = k.1; runs = inr (task, refl); acts = λ same. nobody-acts p s a l (h.0.1 same).1 };
    keeps = λ d u l level named h. record { late = h.late; may = h.may; drawn = h.drawn; runs = begun_runs (who.Task t) u level named h.runs; acts = h.acts };
    places = λ d c l h. (placed-good p s a d (who.Task t) c l TheFinish (fits_finish p s a (who.Task t)) h.drawn h.late h.may h.runs, λ same. (h.drawn, inl (h.acts same)));
  }

  meets_later : (t : TaskNo) (st : StatementNo) (c : Call)
      → Leads (With (Held Whole) (λ w. Sleeping_in w (who.Task t))) (Held Whole) (meet_without_room p TheFinish (who.Task t) st c (deliver p TheFinish c.number (call_ended.ToRaise exception.Storage)))
  unfolding OfFinish
  meets_later t st c =
      from-leads _ (λ w said h. meeting_starts t w said h.0 h.1)
      (then-leads (begin_accept p TheFinish (who.Task t) st c) _ (begin_accept-keeps (holds_quiet (Meeting t)) p TheFinish (who.Task t) st c)
      (then-leads (finish_without_room TheFinish (who.Task t) c) _ (finish_without_room-keeps (holds_quiet (Meeting t)) TheFinish (who.Task t) c)
      (then-leads (deliver p TheFinish c.number (call_ended.ToRaise exception.Storage)) _
      (deliver-keeps (fine_base (base_moves (Meeting t) (meeting_wakeful t))) TheFinish c.number (call_ended.ToRaise exception.Storage) (λ name. refl))
      (then-leads (ready p TheFinish (who.Task t)) _ (ready-holds p (Meeting t) Whole (who.Task t) TheFinish (met t)) (raises-keeps (fine (holds_quiet Whole)) TheFinish (who.Task t) exception.Storage)))))

  -- ---- protected objects

  made_object : (l : Located) (u : ProtectedUnitNo) → Keeps (Held Whole) (changes (with_object p l u) ▷ says_object p l u)
  unfolding says_object
  made_object l u =
      then-keeps (changes (with_object p l u)) _
      (changes-leads (with_object p l u) (λ w said h. holds-plain Whole w (with_object p l u w) said refl refl refl (sound-plain w (with_object p l u w) refl refl refl refl (holds-sound Whole w said h)) h))
      (looks-keeps _ (λ w. keeps_says Whole Own (line.New (created.Object (record { 0 = w.drawn.objects })) (Some l.declared) (protected_unit_of p u).ceiling) (λ n. refl)))

  -- ---- all of an effect

  later_moves : LaterMoves p a (Fits p s a) Sleeping_in (Held Whole)
  later_moves = record {
    base = base_moves Whole (later_wakeful p s a);
    fits_own = fits_own p s a;
    fits_other = fits_other p s a;
    heads = heads_later p s a;
    blocks = blocks_later;
  }

  pub effect_moves : ActingMoves p a (Fits p s a) (Fits p s a) Sleeping_in anywhere IsListed (IsUnmade p s a) (Held (First p s a)) (Held Whole) (Held Whole) (Held (Choosing p s a)) (Held (Good p s a))
      (Held (Dying p s a)) (λ before. Held (Owing p s a before)) (λ v. Held (Since p s a v))
      (λ v. Held (Sized p s a v.drawn.tasks (Choosing p s a))) (λ v. Held (Sized p s a v.drawn.tasks Whole)) (λ v name. Held (Ending p s a v name))
  effect_moves = record {
    fresh = holds_quiet (First p s a);
    later = later_moves;
    entered = later_moves;
    over = base_moves (Good p s a) (good_wakeful p s a);
    owing = λ before. base_moves (Owing p s a before) (owing_wakeful p s a before);
    since = λ v. base_moves (Since p s a v) (since_wakeful p s a v);
    ending = λ v name. base_moves (Ending p s a v name) (ending_wakeful p s a v name);
    dying = base_moves (Dying p s a) (dying_wakeful p s a);
    choosing = choosing_moves;
    inside = inside_moves;
    starts = starts_later p s a;
    ceases = ceases_good p s a;
    rests = rests_choosing p s a;
    fits_finish = fits_finish p s a;
    tails = tails_later p s a;
    waits_at_select = λ accepts delay. selects (waits_for.Select accepts delay true) refl;
    appoints_first = λ t moment is. appoints-holds (First p s a) (λ d c l h. (h.1 (same_self a)).0) t moment is;
    appoints = λ t moment is. appoints-holds Whole (λ d c l h. (h.1 (same_self a)).0) t moment is;
    loses = lost_later p s a;
    sets_deferred = deferred_set p s a;
    sets_base =
        λ t level. from-leads (set_or_defer_base p a (who.Task t) level) (λ w said h. starts_later p s a w said h.0) (base_set_or_deferred p s a (who.Task t) level);
    sets_deadline = λ name deadline. from-leads (set_or_defer_deadline p a name deadline) (starts_later p s a) (deadline_set_or_deferred p s a name deadline);
    owes = owes_since p s a;
    loses_owed = owed_loses p s a;
    pays = paid p s a;
    since_now = since_now;
    since_then = since_then;
    made_differ = made_each;
    inherits_activation = activation-alters;
    activates = activates_since;
    ends_other = ends_made;
    loses_ended = ended_loses;
    forgets = forgets_made;
    found_since = λ v w said h. asleep_each (Since p s a v) w said h;
    ends = ends_as a refl;
    loses_last = dying_loses a refl;
    forgets_actor = forgets_dead;
    found_asleep = asleep_each (Good p s a);
    creates = λ st d id t. to-leads (create_task p a st d id t) (creates_later st d id t) (λ w said h. inl h);
    meets_late = meets_later;
    makes = made_object;
    may = λ w o mode e. tt;
    may_held = λ w o mode e. tt;
    may_on = λ u w o same m. tt;
    enters = λ o mode. from-leads (says Own (line.Enter a o mode)) (λ w said h. starts_later p s a w said h.0) (keeps_says Whole Own (line.Enter a o mode) (λ n. refl));
    exits = λ name o. keeps_says Whole Own (line.Exit name o) (λ n. refl);
    exits_entered = λ name o. keeps_says Whole Own (line.Exit name o) (λ n. refl);
    finds_held = λ o mode. from-leads (find_held p a o mode) (λ w said h. h.0) (held_later p s a o mode);
  }
