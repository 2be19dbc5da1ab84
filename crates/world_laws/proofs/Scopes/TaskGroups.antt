-- Groups of tasks: those that are activated begin, each with its own scope, or are gone; and those that were only made are gone.
use Rattle.std.proofs.Common.{◌≡◌, ℕ, ◌<◌, Bool, true, false, cond, eqb, ◌&&◌, List, [], ◌∷◌, refl, sym, ap, subst, ◌∙◌}
use Rattle.std.proofs.lemmas.Bool.{and_parts, false≢true}
use Rattle.std.specs.Prelude.{filter, ◌||◌}
use Rattle.ann_base.specs.declared.exceptions.Raised.TheVariants as exception
use Rattle.ann_base.specs.declared.identities.RegionNo.{RegionNo}
use Rattle.ann_base.specs.declared.identities.TaskNo.{TaskNo}
use Rattle.trace_text.specs.declared.events.Who.{Who}
use Rattle.profile_image.specs.declared.image.Image.{Image}
use Rattle.profile_image.specs.declared.numbers.DeclNo.{DeclNo}
use Rattle.profile_image.specs.declared.numbers.StatementNo.{StatementNo}
use Rattle.profile_machine.specs.declared.run_data.Leaving.{Leaving}
use Rattle.profile_machine.specs.declared.world.World.{World}
use Rattle.profile_machine.specs.declared.world.lines.Line.TheVariants as line
use Rattle.profile_machine.specs.declared.world.lines.Part.TheVariants.{Own, OfOther}
use Rattle.profile_machine.specs.declared.world.marks.Purpose.TheVariants as opened_for
use Rattle.profile_machine.specs.declared.world.marks.ScopeMark.{ScopeMark}
use Rattle.profile_machine.specs.declared.world.tasks.Cause.TheVariants as inherited_by
use Rattle.profile_machine.specs.declared.world.tasks.State.TheVariants.{Runnable}
use Rattle.profile_machine.specs.declared.world.tasks.Task.{Task}
use Rattle.profile_image.specs.Words.{is_the, same_region, same_who}
use Rattle.profile_machine.specs.Steps.{Step, changes, for_each, for_some, looks, says, ◌▷◌}
use Rattle.profile_machine.specs.Tasks.{edit_task, is_made, task_of, with_state}
use Rattle.profile_machine.specs.Dispatching.{active_of, keep_level, ready, to_tail}
use Rattle.profile_machine.specs.Frames.{goes, has_room, in_protected, is_deferred}
use Rattle.profile_machine.specs.Inheritance.{inherit}
use Rattle.profile_image.specs.Program.{next_of, scope_of}
use Rattle.profile_machine.specs.Appointments.{drop_delay}
use Rattle.profile_machine.specs.Masters.{complete, forget_task, has_activating, terminate, wake_master}
use Rattle.profile_machine.specs.Scopes.{open_scope, plainly}
use Rattle.profile_machine.specs.Unwinding.{strike_outermost}
use Rattle.profile_machine.specs.Tasking.{abnormal_task, abort_all, abort_one, abort_statement, activate, activate_group, activate_one}
use Rattle.profile_machine.specs.Tasking.{activated_task, await_group, begin_task, being_left_mark, end_made, fail_to_begin}
use Rattle.profile_machine.specs.Tasking.{group_fails, is_made_in, is_to_abort, is_to_activate, leave_region, leaves_as, left_so_frame}
use Rattle.profile_machine.specs.Tasking.{named_tasks, no_failure, says_abort, says_done, top_region_of_scope, unit_of_task, unwind_one}
use Rattle.world_laws.proofs.Scopes.FineMoves.{FineMoves, Live, chains, says-keeps}
use Rattle.world_laws.proofs.Scopes.ScopeKeys.{scope_keys}
use Rattle.world_laws.proofs.Scopes.TaskMarks.{marks_of}
use Rattle.world_laws.proofs.Scopes.Likeness.{Same, same-then, edited-same}
use Rattle.world_laws.proofs.Scopes.QuietMoves.{quiet, like-edit, like-state}
use Rattle.world_laws.proofs.Scopes.TaskPuts.{put-edit, edited-rest, same_who-self}
use Rattle.world_laws.proofs.Scopes.TaskLists.{named-other, gone-other}
use Rattle.world_laws.proofs.Scopes.GoodWorlds.{Good, GoodWorld, nobody_free, same-good, freed-good, weakened}
use Rattle.world_laws.proofs.Scopes.ScopeSteps.{there-is, opens-good, opens-live, opens-put}
use Rattle.world_laws.proofs.Scopes.ActingMoves.{ActingWorld, Led, NoScopes, acting, gone-good, gone-live, same-live, same-none}
use Rattle.world_laws.proofs.Scopes.MadeTasks.{Distinct, Each, Idle, MadeIs, Present, distinct-filter, each-filter}
use Rattle.world_laws.proofs.Scopes.MadeTasks.{each-on, listed-made, present-there, same-present, single-distinct}
use Rattle.world_laws.proofs.Scopes.Lifting.{Lifts, MoveOf, StepOf, lifted, joined-from, quietly-from, quietly_then-from, weaker-from}
use Rattle.world_laws.proofs.Scopes.Kept.Combinators.{four_then-from}
use Rattle.world_laws.proofs.Scopes.Kept.Tasks.{edit_task-alters}
use Rattle.world_laws.proofs.Scopes.Kept.Dispatching.{keep_level-alters, to_tail-keeps}
use Rattle.world_laws.proofs.Scopes.Kept.Frames.{edit_top-alters, goes-keeps, plain_steps}
use Rattle.world_laws.proofs.Scopes.Kept.Appointments.{drop_delay-alters}
use Rattle.world_laws.proofs.Scopes.Kept.Masters.{complete-keeps, wake_master-keeps}
use Rattle.world_laws.proofs.Scopes.Kept.Unwinding.{strike_outermost-alters}
use Rattle.world_laws.proofs.Scopes.Kept.Controlled.{edit_top_scope-alters}
use Rattle.world_laws.proofs.Scopes.Kept.Tasking.{await_group-keeps, complete_if_task-keeps, says_abort-keeps}
use Rattle.world_laws.proofs.Scopes.Kept.Tasking.{says_done-keeps, unwind_one-keeps, wait_for_dependents-keeps}
use Rattle.world_laws.proofs.Scopes.Kept.Act.{Groups}
use Rattle.machine_laws.proofs.FineMoves.{Anybody}
use Rattle.machine_laws.proofs.QueueLemmas.{by_test}
use Rattle.line_laws.proofs.Exits.TaskEdits.{one_of-is, same_who-path}
use Rattle.machine_laws.proofs.Kept.Combinators.{From, Keeps, changes-keeps, changes_then-from, either-from, for_each-keeps, for_some-keeps}
use Rattle.machine_laws.proofs.Kept.Combinators.{keeps-from, looks-from, looks-keeps, looks_at-from, nothing-keeps, sees-keeps, then-from, then-keeps}
use Rattle.machine_laws.proofs.Plain.Frames.{given-keeps, raise_if-keeps}

-- ---- what is done with one task of some that were only made in a first world

pub record Stepped (me : Who) (first : World) (but : Who) (w v : World) : Type 0 where
  pub good : GoodWorld v
  pub live : Live me v
  pub still : (n : Who) → Live n first → Live n w → Live n v
  pub none : (n : Who) → same_who n but ≡ false → NoScopes n w → NoScopes n v
  pub present : (n : Who) → same_who n but ≡ false → Present n w → Present n v

stepped-lifts : (me : Who) (first : World) (but : Who) → Lifts (ActingWorld me) (Stepped me first but)
stepped-lifts me first but = record {
  behind = λ a b h. (h.good, h.live);
  goes_on = λ a b c p q. record {
    good = q.good;
    live = q.live;
    still = λ n k h. q.still n k (p.still n k h);
    none = λ n apart h. q.none n apart (p.none n apart h);
    present = λ n apart h. q.present n apart (p.present n apart h);
  };
  lift = λ w v g s. record {
    good = same-good nobody_free w v s g.0;
    live = same-live w v s me g.1;
    still = λ n k h. same-live w v s n h;
    none = λ n apart h. same-none w v s n h;
    present = λ n apart h. same-present w v s n h;
  };
}

stepped : (me : Who) (first : World) (but : Who) → FineMoves (ActingWorld me) Anybody Anybody (StepOf (Stepped me first but)) (MoveOf (Stepped me first but))
stepped me first but = lifted (stepped-lifts me first but)

-- and with all of them
pub record Turned (me : Who) (first w v : World) : Type 0 where
  pub good : GoodWorld v
  pub live : Live me v
  pub still : (n : Who) → Live n first → Live n w → Live n v

turned-lifts : (me : Who) (first : World) → Lifts (ActingWorld me) (Turned me first)
turned-lifts me first = record {
  behind = λ a b h. (h.good, h.live);
  goes_on = λ a b c p q. record { good = q.good; live = q.live; still = λ n k h. q.still n k (p.still n k h) };
  lift = λ w v g s. record { good = same-good nobody_free w v s g.0; live = same-live w v s me g.1; still = λ n k h. same-live w v s n h };
}

turned : (me : Who) (first : World) → FineMoves (ActingWorld me) Anybody Anybody (StepOf (Turned me first)) (MoveOf (Turned me first))
turned me first = lifted (turned-lifts me first)

-- ---- one is gone

abbrev IsMadeAt : World → Who → Type 0
IsMadeAt first n = is_made (task_of first n) ≡ true

other-live : (first : World) (n name : Who) → IsMadeAt first name → Live n first → same_who n name ≡ false
other-live first n name made live =
    by_test (same_who n name)
    (λ e. let same : n ≡ name = same_who-path n name e in absurd (false≢true (sym (subst (λ x. Live x first) same live) ∙ made)))
    (λ e. e)

gone-none : (name : Who) (w : World) (n : Who) → same_who n name ≡ false → NoScopes n w → NoScopes n (forget_task name w)
gone-none name w n apart h =
    subst (λ (x : Task). marks_of x ≡ []) (one_of-is (forget_task name w) n)
    (gone-other (λ x. marks_of x ≡ []) n name w.tasks w.agent apart (subst (λ (x : Task). marks_of x ≡ []) (sym (one_of-is w n)) h))

forgotten : (me : Who) (first : World) (name : Who) (w : World) → ActingWorld me w → IsMadeAt first name → NoScopes name w → same_who me name ≡ false
    → Stepped me first name w (forget_task name w)
forgotten me first name w g made none apart = record {
  good = gone-good name w g.0 none;
  live = gone-live name w me apart g.1;
  still = λ n k h. gone-live name w n (other-live first n name made k) h;
  none = λ n other h. gone-none name w n other h;
  present = λ n other h. subst (λ m. 0 < m) (sym (named-other n name w.tasks other)) h;
}

terminate-from : (p : Image) (me actor : Who) (first : World) (name : Who) (w : World) → ActingWorld me w → IsMadeAt first name → NoScopes name w
    → same_who me name ≡ false → From (StepOf (Stepped me first name)) w (terminate p actor name)
unfolding terminate
terminate-from p me actor first name w g made none apart =
    let lifts = stepped-lifts me first name in
    let moves = stepped me first name in
    looks_at-from (chains moves)
    (λ v. complete p actor name ▷ changes (drop_delay name) ▷ changes (forget_task name) ▷ for_some (task_of v name).master (wake_master p actor)) w
    (quietly_then-from lifts (complete p actor name) _ w g (complete-keeps quiet p actor name) (λ v same g_v.
    quietly_then-from lifts (changes (drop_delay name)) _ v g_v (changes-keeps (chains quiet) _ (drop_delay-alters quiet name)) (λ u same_u g_u.
    let out = forgotten me first name u g_u made (same-none v u same_u name (same-none w v same name none)) apart in
    changes_then-from (chains moves) (forget_task name) _ u out
    (keeps-from (chains moves) _ (forget_task name u) (out.good, out.live)
    (for_some-keeps (chains moves) (task_of w name).master _ (λ r. wake_master-keeps moves p actor r))))))

end_made-from : (p : Image) (me actor : Who) (first : World) (t : Task) (w : World) → ActingWorld me w → IsMadeAt first t.who → Idle me t.who w
    → From (StepOf (Stepped me first t.who)) w (end_made p actor t)
unfolding end_made
end_made-from p me actor first t w g made idle =
    quietly_then-from (stepped-lifts me first t.who) (says_done (OfOther t.who) t.who) _ w g (says_done-keeps quiet (OfOther t.who) t.who) (λ v same g_v.
    terminate-from p me actor first t.who v g_v made (same-none w v same t.who idle.none) idle.other)

fail_to_begin-from : (p : Image) (me activator : Who) (first : World) (t : Task) (w : World) → ActingWorld me w → IsMadeAt first t.who → Idle me t.who w
    → From (StepOf (Stepped me first t.who)) w (fail_to_begin p activator t)
unfolding fail_to_begin
fail_to_begin-from p me activator first t w g made idle =
    let lifts = stepped-lifts me first t.who in
    quietly_then-from lifts (says (OfOther t.who) (line.Raise t.who exception.Storage)) _ w g
    (says-keeps quiet (OfOther t.who) (line.Raise t.who exception.Storage)) (λ v same g_v.
    quietly_then-from lifts (says_done (OfOther t.who) t.who) _ v g_v (says_done-keeps quiet (OfOther t.who) t.who) (λ u same_u g_u.
    quietly_then-from lifts (changes (edit_task activator group_fails)) _ u g_u
    (changes-keeps (chains quiet) _ (edit_task-alters quiet activator group_fails (λ x. refl) (λ x. refl) (λ x. refl) (λ x. refl))) (λ x same_x g_x.
    terminate-from p me activator first t.who x g_x made
    (same-none u x same_x t.who (same-none v u same_u t.who (same-none w v same t.who idle.none))) idle.other)))

-- ---- one begins

-- the world in which it is ready
abbrev begun_world : Image → Who → ℕ → Task → World → World
begun_world p activator level t w =
    let n = t.who in
    edit_task n (with_state Runnable)
    (inherit n inherited_by.Activation level
    (edit_task n (activated_task activator w.time) (open_scope p n (unit_of_task p t).scope (plainly t.outer) opened_for.Task w)))

begun-stepped : (p : Image) (me activator : Who) (first : World) (level : ℕ) (t : Task) (w : World) → ActingWorld me w → Idle me t.who w
    → Stepped me first t.who w (begun_world p activator level t w)
begun-stepped p me activator first level t w g idle =
    let n = t.who in
    let there = present-there n w idle.present in
    let free = λ (m : Who). same_who m n in
    let opened = open_scope p n (unit_of_task p t).scope (plainly t.outer) opened_for.Task w in
    let edited = edit_task n (activated_task activator w.time) opened in
    let inherits = inherit n inherited_by.Activation level edited in
    let z = edit_task n (with_state Runnable) inherits in
    let alone : marks_of there.task ≡ [] = subst (λ (x : Task). marks_of x ≡ []) (there-is n w there) idle.none in
    let put = opens-put p n (unit_of_task p t).scope (plainly t.outer) opened_for.Task w there in
    let good_opened =
    opens-good free p n (unit_of_task p t).scope (plainly t.outer) opened_for.Task w there
    (weakened free w.tasks w.agent (scope_keys w.scopes) w.drawn.tasks w.drawn.scopes g.0) (λ e. alone)
    (λ known. absurd (false≢true (sym known ∙ same_who-self n))) in
    let first_same : Same opened edited =
    edited-same n (activated_task activator w.time) opened (λ u. like-edit u (activated_task activator w.time u) refl refl refl) in
    let second_same : Same edited inherits = quiet.edits_task n _ edited tt (λ u. refl) (λ u. refl) (λ u. refl) (λ u. refl) in
    let same = same-then opened edited inherits first_same second_same in
    let good_inherits = same-good free opened inherits same good_opened in
    let present_opened : Present n opened = subst (λ m. 0 < m) (sym (put.names n)) idle.present in
    let there_then = present-there n inherits (same-present opened inherits same n present_opened) in
    let u = there_then.task in
    let put_then = put-edit n (with_state Runnable) inherits u there_then.found refl (λ h. refl) in
    let freed =
    freed-good n u (with_state Runnable u) inherits.tasks inherits.agent z.tasks z.agent
    (scope_keys inherits.scopes) inherits.drawn.tasks inherits.drawn.scopes put_then good_inherits (like-state u Runnable refl) refl in
    let rest = edited-rest n (with_state Runnable) inherits in
    let good : GoodWorld z =
    subst (λ d. Good nobody_free z.tasks z.agent (scope_keys z.scopes) d.tasks d.scopes) (sym rest.1)
    (subst (λ ss. Good nobody_free z.tasks z.agent (scope_keys ss) inherits.drawn.tasks inherits.drawn.scopes) (sym rest.0) freed) in
    let last : Same inherits z = quiet.readies n inherits tt tt in
    let whole = same-then opened inherits z same last in
    let lives =
    λ (m : Who) (h : Live m w). same-live opened z whole m (opens-live p n (unit_of_task p t).scope (plainly t.outer) opened_for.Task w there m h) in
    record {
      good = good;
      live = lives me g.1;
      still = λ m k h. lives m h;
      none = λ m other h. same-none opened z whole m
          (subst (λ (x : Task). marks_of x ≡ []) (one_of-is opened m)
          (subst (λ (x : Task). marks_of x ≡ []) (sym (put.other m other)) (subst (λ (x : Task). marks_of x ≡ []) (sym (one_of-is w m)) h)));
      present = λ m other h. same-present opened z whole m (subst (λ k. 0 < k) (sym (put.names m)) h);
    }

begin_task-from : (p : Image) (me activator : Who) (first : World) (level : ℕ) (t : Task) (w : World) → ActingWorld me w → Idle me t.who w
    → From (StepOf (Stepped me first t.who)) w (begin_task p activator level t)
unfolding begin_task ready
begin_task-from p me activator first level t w g idle =
    let n = t.who in
    let moves = stepped me first n in
    let z = begun_world p activator level t w in
    let out = begun-stepped p me activator first level t w g idle in
    looks_at-from (chains moves)
    (λ v. changes (open_scope p n (unit_of_task p t).scope (plainly t.outer) opened_for.Task) ▷ changes (edit_task n (activated_task activator v.time))
    ▷ changes (inherit n inherited_by.Activation level) ▷ ready p (OfOther n) n) w
    (four_then-from moves (open_scope p n (unit_of_task p t).scope (plainly t.outer) opened_for.Task) (edit_task n (activated_task activator w.time))
    (inherit n inherited_by.Activation level) (edit_task n (with_state Runnable)) (changes (keep_level p n) ▷ to_tail p (OfOther n) n) w out
    (keeps-from (chains moves) _ z (out.good, out.live)
    (then-keeps (chains moves) _ _ (changes-keeps (chains moves) _ (keep_level-alters moves p n)) (to_tail-keeps moves p (OfOther n) n tt))))

activate_one-from : (p : Image) (me activator : Who) (first : World) (level : ℕ) (t : Task) (w : World) → ActingWorld me w → IsMadeAt first t.who
    → Idle me t.who w → From (StepOf (Stepped me first t.who)) w (activate_one p activator level t)
unfolding activate_one
activate_one-from p me activator first level t w g made idle =
    let moves = stepped me first t.who in
    looks_at-from (chains moves)
    (λ v. elim (has_room v t.who 1 (scope_of p (unit_of_task p t).scope).size) as (λ _. Step) [
      | true ↦ begin_task p activator level t
      | false ↦ fail_to_begin p activator t
    ]) w
    (either-from (chains moves) (has_room w t.who 1 (scope_of p (unit_of_task p t).scope).size) (begin_task p activator level t) (fail_to_begin p activator t) w
    (begin_task-from p me activator first level t w g idle) (fail_to_begin-from p me activator first t w g made idle))

-- ---- one after the other

-- what is needed of a task before its turn
abbrev Ready : Who → World → World → Task → Type 0
Ready me first w t = is_made t ≡ true → IsMadeAt first t.who × Idle me t.who w

ready-on : (me : Who) (first : World) (but : Who) (w v : World) → Stepped me first but w v → (t : Task) → same_who t.who but ≡ false → Ready me first w t
    → Ready me first v t
ready-on me first but w v s t apart h made =
    let k = h made in let idle = k.1 in (k.0, record { none = s.none t.who apart idle.none; present = s.present t.who apart idle.present; other = idle.other })

each-ready : (me : Who) (first : World) (but : Who) (w v : World) (ts : List Task) → Stepped me first but w v → Each (λ u. same_who u.who but ≡ false) ts
    → Each (Ready me first w) ts → Each (Ready me first v) ts
each-ready me first but w v [] s apart h = tt
each-ready me first but w v (t ∷ ts) s apart h = (ready-on me first but w v s t apart.0 h.0, each-ready me first but w v ts s apart.1 h.1)

joined-turn : (me : Who) (first : World) (but : Who) (a b c : World) → Stepped me first but a b → Turned me first b c → Turned me first a c
joined-turn me first but a b c p q = record { good = q.good; live = q.live; still = λ n k h. q.still n k (p.still n k h) }

turns-from : (me : Who) (first : World) (P : Task → Type 0) (f : Task → Step) (ts : List Task) (w : World)
    → ((t : Task) (v : World) → P t → ActingWorld me v → Ready me first v t → From (StepOf (Stepped me first t.who)) v (f t))
    → ActingWorld me w → Distinct ts → Each P ts → Each (Ready me first w) ts → From (StepOf (Turned me first)) w (for_each ts f)
turns-from me first P f [] w each g apart ps h = keeps-from (chains (turned me first)) _ w g (nothing-keeps (chains (turned me first)))
turns-from me first P f (t ∷ ts) w each g apart ps h =
    joined-from (Stepped me first t.who) (Turned me first) (Turned me first) (joined-turn me first t.who) (f t) (for_each ts f) w (each t w ps.0 g h.0) (λ v s.
    turns-from me first P f ts v each (s.good, s.live) apart.1 ps.1 (each-ready me first t.who w v ts s apart.0 h.1))

-- those of a world, by a test
ready-first : (me : Who) (w : World) (t : Task) → MadeIs me w t → Ready me w w t
ready-first me w t h made = (ap is_made h.is ∙ made, h.idle made)

ready-listed : (me : Who) (w : World) (test : Task → Bool) → ActingWorld me w → Each (Ready me w w) (filter test w.tasks)
ready-listed me w test g =
    each-on (λ t. (test t ≡ true) × MadeIs me w t) (Ready me w w) (filter test w.tasks) (λ t k. ready-first me w t k.1)
    (each-filter (MadeIs me w) test w.tasks (listed-made me w g))

distinct-listed : (me : Who) (w : World) (test : Task → Bool) → ActingWorld me w → Distinct (filter test w.tasks)
distinct-listed me w test g = let rules = g.0 in distinct-filter test w.tasks (single-distinct w.tasks rules.single)

-- the worlds between are alike
ready-same : (me : Who) (first w v : World) → Same w v → (t : Task) → Ready me first w t → Ready me first v t
ready-same me first w v s t h made =
    let k = h made in
    let idle = k.1 in (k.0, record { none = same-none w v s t.who idle.none; present = same-present w v s t.who idle.present; other = idle.other })

listed-same : (me : Who) (w v : World) (test : Task → Bool) → ActingWorld me w → Same w v → Each (Ready me w v) (filter test w.tasks)
listed-same me w v test g s = each-on (Ready me w w) (Ready me w v) (filter test w.tasks) (λ t h. ready-same me w w v s t h) (ready-listed me w test g)

-- those of which the test says that they are only made
made-listed : (me : Who) (w : World) (test : Task → Bool) → ((t : Task) → test t ≡ true → is_made t ≡ true) → ActingWorld me w
    → Each (λ t. is_made t ≡ true) (filter test w.tasks)
made-listed me w test k g =
    each-on (λ t. (test t ≡ true) × MadeIs me w t) (λ t. is_made t ≡ true) (filter test w.tasks) (λ t h. k t h.0)
    (each-filter (MadeIs me w) test w.tasks (listed-made me w g))

any-listed : (ts : List Task) → Each (λ t. Unit {0}) ts
any-listed [] = tt
any-listed (t ∷ ts) = (tt, any-listed ts)

led-whole : (me : Who) (w v : World) → Turned me w w v → Led me w v
led-whole me w v h = record { good = h.good; live = h.live; still = λ n k. h.still n k k }

first_of_three : (a b c : Bool) → (a && b && c) ≡ true → a ≡ true
first_of_three true b c e = refl
first_of_three false true c e = e
first_of_three false false c e = e

-- ---- activation

module _ (p : Image) (me : Who) where
  group-from : (s : StatementNo) (part : ℕ) (w : World) → ActingWorld me w
      → From (StepOf (Turned me w)) w
      (goes me (next_of p s) ▷ changes (edit_task me no_failure)
      ▷ for_each (filter (is_to_activate (top_region_of_scope w me) part) w.tasks) (activate_one p me (active_of p w me)))
  group-from s part w g =
      let test = is_to_activate (top_region_of_scope w me) part in
      let level = active_of p w me in
      let lifts = turned-lifts me w in
      quietly_then-from lifts (goes me (next_of p s)) _ w g (goes-keeps quiet me (next_of p s)) (λ v same g_v.
      quietly_then-from lifts (changes (edit_task me no_failure)) _ v g_v
      (changes-keeps (chains quiet) _ (edit_task-alters quiet me no_failure (λ x. refl) (λ x. refl) (λ x. refl) (λ x. refl))) (λ u same_u g_u.
      turns-from me w (λ t. is_made t ≡ true) (activate_one p me level) (filter test w.tasks) u
      (λ t x made g_x need. let k = need made in activate_one-from p me me w level t x g_x k.0 k.1)
      g_u (distinct-listed me w test g)
      (made-listed me w test (λ t e. first_of_three (is_made t) (is_the same_region t.master (top_region_of_scope w me)) (eqb t.declarative_part part) e) g)
      (listed-same me w u test g (same-then w v u same same_u))))

  activate_group-keeps : (s : StatementNo) (part : ℕ) → Keeps (ActingWorld me) (StepOf (Led me)) (activate_group p me s part)
  unfolding activate_group
  activate_group-keeps s part =
      then-keeps (chains (acting me)) _ (looks (λ w. await_group me (has_activating w me) (task_of w me).group_failed))
      (looks-from (chains (acting me)) _ (λ w g. weaker-from (Turned me w) (Led me) w _ (λ v t. led-whole me w v t) (group-from s part w g)))
      (looks-keeps (chains (acting me)) _ (λ w. await_group-keeps (acting me) me (has_activating w me) (task_of w me).group_failed tt))

  activate-keeps : (s : StatementNo) (part : ℕ) → Keeps (ActingWorld me) (StepOf (Led me)) (activate p me s part)
  unfolding activate
  activate-keeps s part =
      looks-keeps (chains (acting me)) _
      (λ w. raise_if-keeps (plain_steps (acting me)) me (in_protected w me || is_deferred w me) exception.Program (activate_group p me s part)
      (activate_group-keeps s part))

  -- ---- abort

  abort_cond-from : (first : World) (t : Task) (b : Bool) (w : World) → is_made t ≡ b → ActingWorld me w → Ready me first w t
      → From (StepOf (Stepped me first t.who)) w (cond b (end_made p me t) (changes (strike_outermost t.who)))
  abort_cond-from first t true w is g need = let k = need is in end_made-from p me me first t w g k.0 k.1
  abort_cond-from first t false w is g need =
      quietly-from (stepped-lifts me first t.who) (changes (strike_outermost t.who)) w g (changes-keeps (chains quiet) _ (strike_outermost-alters quiet t.who))

  abort_one-from : (first : World) (t : Task) (w : World) → ActingWorld me w → Ready me first w t → From (StepOf (Stepped me first t.who)) w (abort_one p me t)
  unfolding abort_one
  abort_one-from first t w g need =
      quietly_then-from (stepped-lifts me first t.who) (says_abort me t.who) _ w g (says_abort-keeps quiet me t.who) (λ v same g_v.
      abort_cond-from first t (is_made t) v refl g_v (ready-same me first w v same t need))

  abort_all-from : (test : Task → Bool) (w : World) → ActingWorld me w → From (StepOf (Turned me w)) w (abort_all p me (filter test w.tasks))
  unfolding abort_all
  abort_all-from test w g =
      let ts = filter test w.tasks in
      quietly_then-from (turned-lifts me w) (for_each ts (λ t. changes (edit_task t.who abnormal_task))) _ w g
      (for_each-keeps (chains quiet) ts _
      (λ t. changes-keeps (chains quiet) _ (edit_task-alters quiet t.who abnormal_task (λ x. refl) (λ x. refl) (λ x. refl) (λ x. refl))))
      (λ v same g_v.
      then-from (chains (turned me w)) (for_each ts (abort_one p me)) (for_each ts (unwind_one p me)) v
      (turns-from me w (λ t. Unit {0}) (abort_one p me) ts v (λ t x u g_x need. abort_one-from w t x g_x need) g_v (distinct-listed me w test g) (any-listed ts)
      (listed-same me w v test g same))
      (for_each-keeps (chains (turned me w)) ts _ (λ t. unwind_one-keeps (turned me w) p me t tt)))

  abort_named-keeps : (aborted : List TaskNo) → Keeps (ActingWorld me) (StepOf (Led me)) (looks (λ w. abort_all p me (filter (is_to_abort w aborted) w.tasks)))
  abort_named-keeps aborted =
      looks-from (chains (acting me)) _ (λ w g. weaker-from (Turned me w) (Led me) w _ (λ v t. led-whole me w v t) (abort_all-from (is_to_abort w aborted) w g))

  abort_statement-keeps : (s : StatementNo) (tasks : List DeclNo) → Keeps (ActingWorld me) (StepOf (Led me)) (abort_statement p me s tasks)
  unfolding abort_statement
  abort_statement-keeps s tasks =
      sees-keeps (chains (acting me)) p me _ (λ q. raise_if-keeps (plain_steps (acting me)) me (in_protected q.world me) exception.Program _
      (given-keeps (plain_steps (acting me)) Own me (named_tasks q tasks) _
      (λ aborted. then-keeps (chains (acting me)) (goes me (next_of p s)) _ (goes-keeps (acting me) me (next_of p s)) (abort_named-keeps aborted))))

  -- ---- a region begins to be left: tasks that were made there and not activated are gone

  made_in-keeps : (r : RegionNo) → Keeps (ActingWorld me) (StepOf (Led me)) (looks (λ w. for_each (filter (is_made_in r) w.tasks) (end_made p me)))
  made_in-keeps r =
      looks-from (chains (acting me)) _ (λ w g. weaker-from (Turned me w) (Led me) w _ (λ v t. led-whole me w v t)
      (turns-from me w (λ t. is_made t ≡ true) (end_made p me) (filter (is_made_in r) w.tasks) w
      (λ t x made g_x need. let k = need made in end_made-from p me me w t x g_x k.0 k.1)
      g (distinct-listed me w (is_made_in r) g) (made-listed me w (is_made_in r) (λ t e. (and_parts (is_made t) _ e).0) g)
      (ready-listed me w (is_made_in r) g)))

  pub leave_region-keeps : (m : ScopeMark) (leaving : Leaving) (r : RegionNo) → Keeps (ActingWorld me) (StepOf (Led me)) (leave_region p me m leaving r)
  unfolding leave_region
  leave_region-keeps m leaving r =
      then-keeps (chains (acting me)) _ _ (changes-keeps (chains (acting me)) _ (edit_top_scope-alters (acting me) me being_left_mark (λ x. refl)))
      (then-keeps (chains (acting me)) _ _ (changes-keeps (chains (acting me)) _ (edit_top-alters (acting me) me (left_so_frame leaving) (λ x. refl)))
      (then-keeps (chains (acting me)) _ _ (says-keeps (acting me) Own (line.Leave me r (leaves_as leaving)))
      (then-keeps (chains (acting me)) _ _ (made_in-keeps r)
      (then-keeps (chains (acting me)) _ _ (complete_if_task-keeps (acting me) p me m.purpose tt) (wait_for_dependents-keeps (acting me) me r tt)))))

-- the groups of who acts
pub groups : (me : Who) → Groups (ActingWorld me) (λ name. name ≡ me) (StepOf (Led me))
groups me = record {
  activates = λ p name s part acts. subst (λ n. Keeps (ActingWorld me) (StepOf (Led me)) (activate p n s part)) (sym acts) (activate-keeps p me s part);
  aborts =
      λ p name s tasks acts.
      subst (λ n. Keeps (ActingWorld me) (StepOf (Led me)) (abort_statement p n s tasks)) (sym acts) (abort_statement-keeps p me s tasks);
}
