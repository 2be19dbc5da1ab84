-- Placing and blocking, marks that are opened and left, scopes and inherited priorities: all of it is calm.
use Rattle.std.proofs.Common.{◌≡◌, ℕ, ℤ, Bool, inl, true, false, cond, ◌&&◌, List, [], ◌∷◌, Option, Some, None, refl, sym, subst, ap, ◌∙◌}
use Rattle.std.specs.Prelude.{Ok, Err, Result, eqb, slice_index_or, is_none}
use Rattle.ann_base.specs.declared.exceptions.Raised.{Raised}
use Rattle.ann_base.specs.declared.exceptions.Raised.TheVariants as exception
use Rattle.ann_base.specs.declared.identities.CallNo.{CallNo}
use Rattle.trace_text.specs.declared.events.QueueEnd.{QueueEnd}
use Rattle.trace_text.specs.declared.events.QueueEnd.TheVariants.{Tail}
use Rattle.trace_text.specs.declared.events.Who.{Who}
use Rattle.trace_text.specs.declared.events.Who.TheVariants as who
use Rattle.profile_image.specs.declared.image.Image.{Image}
use Rattle.profile_image.specs.declared.numbers.StatementNo.{StatementNo}
use Rattle.profile_image.specs.declared.numbers.ScopeNo.{ScopeNo}
use Rattle.profile_machine.specs.declared.run_data.Leaving.{Leaving}
use Rattle.profile_machine.specs.declared.run_data.Leaving.TheVariants as how
use Rattle.profile_image.specs.declared.statements.StatementForm.{StatementForm}
use Rattle.profile_image.specs.declared.statements.StatementForm.TheVariants as form
use Rattle.profile_image.specs.declared.values.Value.{Value}
use Rattle.profile_machine.specs.declared.world.World.{World}
use Rattle.profile_machine.specs.declared.world.lines.Line.TheVariants as line
use Rattle.profile_machine.specs.declared.world.lines.Part.{Part}
use Rattle.profile_machine.specs.declared.world.lines.Part.TheVariants.{Own, ThePlacing}
use Rattle.profile_machine.specs.declared.world.appointments.Due.{Due}
use Rattle.profile_machine.specs.declared.world.marks.Frame.{Frame}
use Rattle.profile_machine.specs.declared.world.marks.Purpose.{Purpose}
use Rattle.profile_machine.specs.declared.world.marks.Mark.TheVariants.{Handled}
use Rattle.profile_machine.specs.declared.world.scopes.Beginning.{Beginning}
use Rattle.profile_machine.specs.declared.world.scopes.ScopeId.{ScopeId}
use Rattle.profile_machine.specs.declared.world.tasks.Cause.{Cause}
use Rattle.profile_machine.specs.declared.world.tasks.State.TheVariants.{Runnable, Blocked}
use Rattle.profile_machine.specs.declared.world.tasks.Task.{Task}
use Rattle.profile_machine.specs.declared.world.tasks.Waiting.{Waiting}
use Rattle.profile_machine.specs.declared.world.tasks.Waiting.TheVariants as waits_for
use Rattle.profile_image.specs.Words.{same_call, is_the}
use Rattle.world_tables.specs.Lists.{first_of}
use Rattle.profile_image.specs.Program.{form_of, next_of, declaration_of, edf_low, is_robin_level, scope_of}
use Rattle.profile_machine.specs.Steps.{Step, changes, ◌▷◌}
use Rattle.profile_machine.specs.Tasks.{task_of, edit_task, with_state}
use Rattle.profile_machine.specs.Dispatching.{active, deadline_shown, level_kept_by, keep_level, granted, grant_quantum}
use Rattle.profile_machine.specs.Dispatching.{says_ready, to_tail, to_head, ready, says_block, without_kept_level, word_of, block}
use Rattle.profile_machine.specs.Frames.{frames_of, top_of, pop, edit_first, edit_top, new_frame, push, goes_on, goes, left_so, leaves, raises, has_room}
use Rattle.profile_machine.specs.Frames.{open_handled, open_at, onward_of, open_sequence, stands_in, exit_loop, pass_on, given, raise_if, with_room}
use Rattle.profile_machine.specs.Scopes.{edit_cells, write_cell, begin_scope, draw_region, open_scope, next_id, region_of_next, new_scope_mark}
use Rattle.profile_machine.specs.Inheritance.{inherit, lose, inherit_running, lose_running, rises, falls}
use Rattle.profile_machine.specs.Appointments.{appoint, drop_appointment, drop_delay, is_timeout_of, is_trigger_of}
use Rattle.profile_machine.specs.Operators.{Valued, checked}
use Rattle.profile_machine.specs.declared.world.appointments.Due.TheVariants as due_for
use Rattle.profile_machine.specs.declared.world.scopes.Variable.{Variable}
use Rattle.profile_machine.specs.declared.world.calls.Call.{Call}
use Rattle.ann_base.specs.declared.identities.TaskNo.{TaskNo}
use Rattle.profile_machine.specs.CallEnds.{store}
use Rattle.profile_machine.specs.Calls.{edit_call}
use Rattle.world_laws.proofs.Queues.CallChanges.{appoint-calm, drop_appointment-calm, edit_call-calm}
use Rattle.world_laws.proofs.Queues.Calming.{same-calm}
use Rattle.world_laws.proofs.Queues.Kept.Combinators.{Alters, Calms, From, Gives, Keeps, Quiets, any-keeps, bind-gives, branch-keeps, calms-from}
use Rattle.world_laws.proofs.Queues.Kept.Combinators.{changes-calms, changes-from, changes-keeps, looks-calms, looks-keeps, nothing-keeps, ok-gives}
use Rattle.world_laws.proofs.Queues.Kept.Combinators.{quiets-alters, says-calms, stays-calm, then-calms, then-from, then-keeps, unchanged-quiets, when-calms}
use Rattle.world_laws.proofs.Queues.Softening.{Unset, awake-calm, marks-calm, plain-calm, pop-calm, push-calm, state-calm}
use Rattle.world_laws.proofs.Queues.Standing.{Awake, Calm, Kind, Nature, awaits_part, calls_part, calm-awake, calm-then}
use Rattle.world_laws.proofs.Queues.Standing.{ends_by, has_own, is_ending, nature, natures, part_of, waits_end}
use Rattle.machine_laws.proofs.Kept.Dispatching.{full_quantum-who, full_quantum-frames, full_quantum-state}

-- ---- tasks

pub edit_task-quiets : {E : Kind} (name : Who) (f : Task → Task) → ((t : Task) → (f t).who ≡ t.who) → ((t : Task) → (f t).frames ≡ t.frames)
    → ((t : Task) → (f t).state ≡ t.state) → ((t : Task) → (f t).queues ≡ t.queues) → ((t : Task) → (f t).completed ≡ t.completed) → Quiets E (edit_task name f)
edit_task-quiets name f named frames state queues completed = record { at = λ w. plain-calm name f w named frames state queues completed }

pub edit_task-alters : {E : Kind} {name : Who} (someone : Who) (f : Task → Task) → ((t : Task) → (f t).who ≡ t.who) → ((t : Task) → (f t).frames ≡ t.frames)
    → ((t : Task) → (f t).state ≡ t.state) → ((t : Task) → (f t).queues ≡ t.queues) → ((t : Task) → (f t).completed ≡ t.completed)
    → Alters E name (edit_task someone f)
edit_task-alters someone f named frames state queues completed =
    quiets-alters (edit_task someone f) (edit_task-quiets someone f named frames state queues completed)

-- ---- placing

full_quantum-completed : (b : Bool) (n : ℕ) (t : Task) → (cond b (record t { quantum = n }) t).completed ≡ t.completed
full_quantum-completed true n t = refl
full_quantum-completed false n t = refl

full_quantum-queues : (b : Bool) (n : ℕ) (t : Task) → (cond b (record t { quantum = n }) t).queues ≡ t.queues
full_quantum-queues true n t = refl
full_quantum-queues false n t = refl

pub keep_level-quiets : {E : Kind} (p : Image) (name : Who) → Quiets E (keep_level p name)
keep_level-quiets p name = record {
  at =
      λ w.
      plain-calm name (λ t. record t { kept_level = level_kept_by p w t (edf_low p t.base) }) w (λ t. refl) (λ t. refl) (λ t. refl) (λ t. refl) (λ t. refl);
}

pub grant_quantum-quiets : {E : Kind} (p : Image) (name : Who) → Quiets E (grant_quantum p name)
grant_quantum-quiets p name =
    record {
      at = λ w.
          plain-calm name (granted p w.quanta) w
          (λ t. full_quantum-who (eqb (active p t) t.base && is_robin_level p t.base) (slice_index_or w.quanta t.base 0) t)
          (λ t. full_quantum-frames (eqb (active p t) t.base && is_robin_level p t.base) (slice_index_or w.quanta t.base 0) t)
          (λ t. full_quantum-state (eqb (active p t) t.base && is_robin_level p t.base) (slice_index_or w.quanta t.base 0) t)
          (λ t. full_quantum-queues (eqb (active p t) t.base && is_robin_level p t.base) (slice_index_or w.quanta t.base 0) t)
          (λ t. full_quantum-completed (eqb (active p t) t.base && is_robin_level p t.base) (slice_index_or w.quanta t.base 0) t);
    }

pub says_ready-calms : {E : Kind} (p : Image) (part : Part) (name : Who) (end : QueueEnd) → Calms E (says_ready p part name end)
unfolding says_ready
says_ready-calms p part name end = looks-calms _ (λ v. says-calms part (line.Ready name (active p (task_of v name)) end (deadline_shown p (task_of v name))))

pub to_tail-calms : {E : Kind} (p : Image) (part : Part) (name : Who) → Calms E (to_tail p part name)
unfolding to_tail
to_tail-calms p part name = then-calms _ _ (changes-calms _ (grant_quantum-quiets p name)) (says_ready-calms p part name Tail)

pub to_head-calms : {E : Kind} (p : Image) (part : Part) (name : Who) → Calms E (to_head p part name)
unfolding to_head
to_head-calms p part name = says_ready-calms p part name _

-- ---- states: somebody becomes ready, or blocks, but not for the end of a call

pub runnable-quiets : {E : Kind} (name : Who) → Quiets E (edit_task name (with_state Runnable))
runnable-quiets name = record { at = λ w. state-calm name Runnable w (λ c e. cc) }

abbrev pub for_end : Waiting → Bool
for_end waits_for.Activation = false
for_end waits_for.Moment = false
for_end (waits_for.Call c) = false
for_end (waits_for.EndOfCall c) = true
for_end (waits_for.Accept s) = false
for_end (waits_for.Select accepts delay terminate) = false
for_end (waits_for.Dependents r) = false
for_end waits_for.Release = false

some-same : (a b : Waiting) → Some a ≡ Some b → a ≡ b
some-same a b e = cc

not-end : (waiting : Waiting) (c : CallNo) → for_end waiting ≡ false → Some waiting ≡ waits_end c → ⊥
not-end waiting c is e = let wrong : true ≡ false = ap for_end (sym (some-same waiting (waits_for.EndOfCall c) e)) ∙ is in cc

pub blocked-quiets : {E : Kind} (name : Who) (waiting : Waiting) → for_end waiting ≡ false → Quiets E (edit_task name (with_state (Blocked waiting)))
blocked-quiets name waiting is = record { at = λ w. state-calm name (Blocked waiting) w (λ c e. not-end waiting c is e) }

pub ready-calms : {E : Kind} (p : Image) (part : Part) (name : Who) → Calms E (ready p part name)
unfolding ready
ready-calms p part name =
    then-calms _ _ (changes-calms _ (runnable-quiets name)) (then-calms _ _ (changes-calms _ (keep_level-quiets p name)) (to_tail-calms p part name))

pub says_block-calms : {E : Kind} (part : Part) (name : Who) (waiting : Waiting) → Calms E (says_block part name waiting)
unfolding says_block
says_block-calms part name waiting =
    then-calms _ _ (changes-calms _ (edit_task-quiets name without_kept_level (λ t. refl) (λ t. refl) (λ t. refl) (λ t. refl) (λ t. refl)))
    (says-calms part (line.Block name (word_of waiting)))

pub block-calms : {E : Kind} (part : Part) (name : Who) (waiting : Waiting) → for_end waiting ≡ false → Calms E (block part name waiting)
unfolding block
block-calms part name waiting is = then-calms _ _ (changes-calms _ (blocked-quiets name waiting is)) (says_block-calms part name waiting)

-- ---- marks

pub first-natures : (f : Frame → Frame) (fs : List Frame) → ((x : Frame) → nature (f x).mark ≡ nature x.mark) → natures (edit_first f fs) ≡ natures fs
first-natures f [] same = refl
first-natures f (x ∷ xs) same = ap (λ n. n ∷ natures xs) (same x)

pub edit_top-alters : {E : Kind} (name : Who) (f : Frame → Frame) → ((x : Frame) → nature (f x).mark ≡ nature x.mark) → Alters E name (edit_top name f)
edit_top-alters name f same = record { at = λ w good. awake-calm name (edit_first f) w (λ fs. first-natures f fs same) good }

-- an edit after which whoever has come to its end is still at its end
pub rests-natures : (c : CallNo) (f : Frame → Frame) → ((x : Frame) → nature (f x).mark ≡ nature x.mark)
    → ((x : Frame) → is_none x.onward ≡ true → is_none (f x).onward ≡ true) → (fs : List Frame) → is_ending c fs ≡ true → is_ending c (edit_first f fs) ≡ true
rests-natures c f same rests [] h = h
rests-natures c f same rests (x ∷ xs) h =
    step (is_none x.onward) (is_none (f x).onward) (calls_part c (part_of x.mark)) (calls_part c (part_of (f x).mark)) h (rests x)
    (λ e. ap (λ (n : Nature). calls_part c n.part) (same x) ∙ e) where
      step : (a b d e : Bool) → (a && d) ≡ true → (a ≡ true → b ≡ true) → (d ≡ true → e ≡ true) → (b && e) ≡ true
      step true b d e h k l = subst (λ x. (x && e) ≡ true) (sym (k refl)) (l h)
      step false b d e h k l = cc

pub edit_top-quiets : {E : Kind} (name : Who) (f : Frame → Frame) → ((x : Frame) → nature (f x).mark ≡ nature x.mark)
    → ((x : Frame) → is_none x.onward ≡ true → is_none (f x).onward ≡ true) → Quiets E (edit_top name f)
edit_top-quiets name f same rests = record {
  at = λ w. marks-calm name (edit_first f) w (λ fs. first-natures f fs same) (λ c fs h. rests-natures c f same rests fs h);
}

pub goes-keeps : {E : Kind} (name : Who) (onward : Option StatementNo) → Keeps E name (goes name onward)
unfolding goes
goes-keeps name onward = changes-keeps _ (edit_top-alters name (goes_on onward) (λ x. refl))

pub leaves-calms : {E : Kind} (name : Who) (leaving : Leaving) → Calms E (leaves name leaving)
unfolding leaves
leaves-calms name leaving = changes-calms _ (edit_top-quiets name (left_so leaving) (λ x. refl) (λ x h. refl))

pub leaves-keeps : {E : Kind} {name : Who} (someone : Who) (leaving : Leaving) → Keeps E name (leaves someone leaving)
leaves-keeps someone leaving = any-keeps _ (leaves-calms someone leaving)

pub raises-calms : {E : Kind} (part : Part) (name : Who) (e : Raised) → Calms E (raises part name e)
unfolding raises
raises-calms part name e = then-calms _ _ (says-calms part (line.Raise name e)) (leaves-calms name (how.Exception e))

pub raises-keeps : {E : Kind} {name : Who} (part : Part) (someone : Who) (e : Raised) → Keeps E name (raises part someone e)
raises-keeps part someone e = any-keeps _ (raises-calms part someone e)

pub push-alters : {E : Kind} (name : Who) (f : Frame) → ((c : CallNo) → is_the same_call (nature f.mark).service c ≡ false)
    → ((c : CallNo) → has_own c (nature f.mark) ≡ false) → ((c : CallNo) → ends_by c (nature f.mark) ≡ false) → awaits_part (nature f.mark).part ≡ false
    → Alters E name (push name f)
push-alters name f serves own begun top =
    record {
      at = λ w good.
          push-calm name f w
          record { serves = serves; own = λ c h. absurd (let wrong : false ≡ true = sym (own c) ∙ h in cc); begun = begun; tops = λ is. top } good;
    }

open_handled-keeps : {E : Kind} (p : Image) (part : Part) (name : Who) (s : StatementNo) (form : StatementForm) → Keeps E name (open_handled p part name s form)
unfolding open_handled
open_handled-keeps p part name s (form.Handled handlers first) =
    looks-keeps _
    (λ v. branch-keeps (has_room v name 1 0) (goes name (next_of p s) ▷ changes (push name (new_frame (Handled s) (Some first))))
    (raises part name exception.Storage)
    (then-keeps _ _ (goes-keeps name (next_of p s))
    (changes-keeps _ (push-alters name (new_frame (Handled s) (Some first)) (λ c. refl) (λ c. refl) (λ c. refl) refl)))
    (raises-keeps part name exception.Storage))
open_handled-keeps p part name s _ = nothing-keeps

open_at-keeps : {E : Kind} (p : Image) (part : Part) (name : Who) (next : Option StatementNo) → Keeps E name (open_at p part name next)
unfolding open_at
open_at-keeps p part name None = nothing-keeps
open_at-keeps p part name (Some s) = open_handled-keeps p part name s (form_of p s)

pub open_sequence-keeps : {E : Kind} (p : Image) (part : Part) (name : Who) → Keeps E name (open_sequence p part name)
unfolding open_sequence
open_sequence-keeps p part name = looks-keeps _ (λ w. open_at-keeps p part name (onward_of w name))

pub exit_loop-keeps : {E : Kind} (p : Image) (name : Who) (loop : StatementNo) → Keeps E name (exit_loop p name loop)
unfolding exit_loop
exit_loop-keeps p name loop =
    looks-keeps _
    (λ w. branch-keeps (stands_in p loop (top_of w name)) (goes name (next_of p loop)) (leaves name (how.Exit loop)) (goes-keeps name (next_of p loop))
    (leaves-keeps name (how.Exit loop)))

pub pass_on-keeps : {E : Kind} (p : Image) (name : Who) (leaving : Leaving) → Keeps E name (pass_on p name leaving)
unfolding pass_on
pass_on-keeps p name how.End = nothing-keeps
pass_on-keeps p name how.Return = leaves-keeps name how.Return
pass_on-keeps p name (how.Exit loop) = exit_loop-keeps p name loop
pass_on-keeps p name (how.Exception e) = leaves-keeps name (how.Exception e)
pass_on-keeps p name how.Abort = leaves-keeps name how.Abort
pass_on-keeps p name how.Terminate = leaves-keeps name how.Terminate

pub given-keeps : {E : Kind} {name : Who} {X : Type 0} (part : Part) (someone : Who) (result : Result X Raised) (f : X → Step) → ((x : X) → Keeps E name (f x))
    → Keeps E name (given part someone result f)
given-keeps part someone (Ok x) f k = k x
given-keeps part someone (Err e) f k = raises-keeps part someone e

pub raise_if-keeps : {E : Kind} {name : Who} (someone : Who) (test : Bool) (e : Raised) (step : Step) → Keeps E name step
    → Keeps E name (raise_if someone test e step)
raise_if-keeps someone true e step kept = raises-keeps Own someone e
raise_if-keeps someone false e step kept = kept

pub with_room-keeps : {E : Kind} {name : Who} (someone : Who) (marks cells : ℕ) (step : Step) → Keeps E name step
    → Keeps E name (with_room someone marks cells step)
with_room-keeps someone marks cells step kept =
    looks-keeps _
    (λ w. branch-keeps (has_room w someone marks cells) step (raises Own someone exception.Storage) kept (raises-keeps Own someone exception.Storage))

-- the world that a value gives becomes the world
pub given_world-from : {E : Kind} {name : Who} (part : Part) (someone : Who) (result : Valued World) (f : World → Step) (w : World) → Awake name w
    → Gives E w result → ((next : World) → Keeps E name (f next)) → From E w (given part someone result (λ next. changes (λ _. next) ▷ f next))
given_world-from part someone (Ok next) f w good a k = then-from (changes (λ _. next)) (f next) w good (changes-from (λ _. next) w a.world) (k next)
given_world-from part someone (Err e) f w good a k = calms-from _ w (raises-calms part someone e)

pub becomes-from : {E : Kind} (part : Part) (name : Who) (result : Valued World) (w : World) → Gives E w result
    → From E w (given part name result (λ next. changes (λ _. next)))
becomes-from part name (Ok next) w a = changes-from (λ _. next) w a.world
becomes-from part name (Err e) w a = calms-from _ w (raises-calms part name e)

-- ---- scopes

pub edit_cells-quiets : {E : Kind} (id : ScopeId) (f : List Value → List Value) → Quiets E (edit_cells id f)
edit_cells-quiets id f = record { at = λ w. same-calm w (edit_cells id f w) refl refl refl refl refl refl refl refl }

pub write_cell-quiets : {E : Kind} (id : ScopeId) (place : ℕ) (value : Value) → Quiets E (write_cell id place value)
write_cell-quiets id place value = edit_cells-quiets id _

pub begin_scope-quiets : {E : Kind} (p : Image) (name : Who) (scope : ScopeNo) (b : Beginning) → Quiets E (begin_scope p name scope b)
begin_scope-quiets p name scope b = record { at = λ w. same-calm w (begin_scope p name scope b w) refl refl refl refl refl refl refl refl }

region-calm : {E : Kind} (kept : Bool) (w : World) → Calm E w (draw_region kept w)
region-calm true w = same-calm w (draw_region true w) refl refl refl refl refl refl refl refl
region-calm false w = stays-calm w

pub open_scope-alters : {E : Kind} (p : Image) (name : Who) (scope : ScopeNo) (b : Beginning) (purpose : Purpose)
    → Alters E name (open_scope p name scope b purpose)
open_scope-alters p name scope b purpose =
    record {
      at = λ w good.
          let begun = begin_scope p name scope b w in
          let drawn = draw_region (scope_of p scope).kept begun in
          let f = new_frame (new_scope_mark (next_id w) (region_of_next (scope_of p scope).kept w) purpose) (scope_of p scope).first in
          let first = calm-then w begun drawn ((begin_scope-quiets p name scope b).at w) (region-calm (scope_of p scope).kept begun) in
          calm-then w drawn (push name f drawn) first
          ((push-alters name f (λ c. refl) (λ c. refl) (λ c. refl) refl).at drawn (calm-awake w drawn first name good));
    }

pub appointment-quiets : {E : Kind} (test : Due → Bool) → Quiets E (drop_appointment test)
appointment-quiets test = record { at = λ w. drop_appointment-calm test w }

pub drop_delay-quiets : {E : Kind} (name : Who) → Quiets E (drop_delay name)
drop_delay-quiets (who.Task t) = appointment-quiets _
drop_delay-quiets who.Agent = unchanged-quiets

-- ---- inherited priorities

pub inherit-quiets : {E : Kind} (name : Who) (cause : Cause) (level : ℕ) → Quiets E (inherit name cause level)
inherit-quiets name cause level = edit_task-quiets name _ (λ t. refl) (λ t. refl) (λ t. refl) (λ t. refl) (λ t. refl)

pub lose-quiets : {E : Kind} (name : Who) (cause : Cause) → Quiets E (lose name cause)
lose-quiets name cause = edit_task-quiets name _ (λ t. refl) (λ t. refl) (λ t. refl) (λ t. refl) (λ t. refl)

pub inherit_running-calms : {E : Kind} (p : Image) (name : Who) (cause : Cause) (level : ℕ) → Calms E (inherit_running p name cause level)
unfolding inherit_running
inherit_running-calms p name cause level =
    looks-calms _
    (λ w. then-calms _ _ (changes-calms _ (inherit-quiets name cause level))
    (when-calms (rises p name w (inherit name cause level w)) (to_head p ThePlacing name) (to_head-calms p ThePlacing name)))

pub lose_running-calms : {E : Kind} (p : Image) (name : Who) (cause : Cause) → Calms E (lose_running p name cause)
unfolding lose_running
lose_running-calms p name cause =
    looks-calms _
    (λ w. then-calms _ _ (changes-calms _ (lose-quiets name cause))
    (when-calms (falls p name w (lose name cause w)) (to_head p ThePlacing name) (to_head-calms p ThePlacing name)))

-- ---- the same of who is awake

pub block-keeps : {E : Kind} {name : Who} (part : Part) (someone : Who) (waiting : Waiting) → for_end waiting ≡ false
    → Keeps E name (block part someone waiting)
block-keeps part someone waiting is = any-keeps _ (block-calms part someone waiting is)

pub to_tail-keeps : {E : Kind} {name : Who} (p : Image) (part : Part) (someone : Who) → Keeps E name (to_tail p part someone)
to_tail-keeps p part someone = any-keeps _ (to_tail-calms p part someone)

pub write_cell-alters : {E : Kind} {name : Who} (id : ScopeId) (place : ℕ) (value : Value) → Alters E name (write_cell id place value)
write_cell-alters id place value = quiets-alters _ (write_cell-quiets id place value)

pub drop_appointment-alters : {E : Kind} {name : Who} (test : Due → Bool) → Alters E name (drop_appointment test)
drop_appointment-alters test = quiets-alters _ (appointment-quiets test)

-- an appointment that is neither a time-out nor a trigger's
abbrev pub is_plain : Due → Bool
is_plain (due_for.Event n h) = true
is_plain (due_for.Delay t) = true
is_plain (due_for.Timeout c) = false
is_plain (due_for.Trigger t depth) = false

plain-timeout : (due : Due) (c : CallNo) → is_plain due ≡ true → is_timeout_of c due ≡ true → ⊥
plain-timeout (due_for.Event n h) c is e = cc
plain-timeout (due_for.Delay t) c is e = cc
plain-timeout (due_for.Timeout d) c is e = cc
plain-timeout (due_for.Trigger t depth) c is e = cc

plain-trigger : (due : Due) (n : TaskNo) (depth : ℕ) → is_plain due ≡ true → is_trigger_of n depth due ≡ true → ⊥
plain-trigger (due_for.Event k h) n depth is e = cc
plain-trigger (due_for.Delay t) n depth is e = cc
plain-trigger (due_for.Timeout d) n depth is e = cc
plain-trigger (due_for.Trigger t d) n depth is e = cc

pub appoint-quiets : {E : Kind} (due : Due) (moment : ℤ) → is_plain due ≡ true → Quiets E (appoint due moment)
appoint-quiets due moment is = record {
  at = λ w. appoint-calm due moment w (λ c e. absurd (plain-timeout due c is e)) (λ n depth e. absurd (plain-trigger due n depth is e));
}

pub appoint-keeps : {E : Kind} {name : Who} (due : Due) (moment : ℤ) → is_plain due ≡ true → Keeps E name (changes (appoint due moment))
appoint-keeps due moment is = any-keeps _ (changes-calms _ (appoint-quiets due moment is))

-- ---- values are stored

pub store-gives : {E : Kind} (p : Image) (v : Variable) (value : Value) (w : World) → Gives E w (store p v value w)
store-gives p v value w =
    bind-gives (checked (declaration_of p v.declared).constraint value) (λ x. Ok (write_cell v.within v.place x w)) w
    (λ x. ok-gives w (write_cell v.within v.place x w) ((write_cell-quiets v.within v.place x).at w))

-- ---- calls that are edited in what is no matter here

pub record Same (f : Call → Call) : Type 0 where
  pub number : (d : Call) → (f d).number ≡ d.number
  pub owner : (d : Call) → (f d).owner ≡ d.owner
  pub entry : (d : Call) → (f d).entry ≡ d.entry
  pub caller : (d : Call) → (f d).caller ≡ d.caller
  pub begun : (d : Call) → (f d).begun ≡ d.begun
  pub outcome : (d : Call) → (f d).outcome ≡ d.outcome
  pub firm : (d : Call) → (f d).firm ≡ d.firm

pub edit_call-quiets : {E : Kind} (c : CallNo) (f : Call → Call) → Same f → Quiets E (edit_call c f)
edit_call-quiets c f same =
    record {
      at =
          λ w. edit_call-calm c f w same.number
          (λ x. record {
            directed = inl (same.owner x, same.entry x);
            firm = inl (same.firm x);
            caller = same.caller x;
            outcome = λ h. ap is_none (same.outcome x) ∙ h;
            steady = inl (same.begun x, same.outcome x);
          });
    }

-- ---- a mark that is no abortable part ends

unset-of : (name : Who) (w : World) (f : Frame) (fs : List Frame) → first_of fs ≡ Some f → part_of f.mark ≡ None → Unset name w fs
unset-of name w f [] top free = tt
unset-of name w f (x ∷ xs) top free = λ n is set awaits. let one : x ≡ f = cc in
    let none : awaits_part (part_of x.mark) ≡ false = ap (λ (y : Frame). awaits_part (part_of y.mark)) one ∙ ap awaits_part free in
    let wrong : true ≡ false = sym awaits ∙ none in cc

pub popped : {E : Kind} (name : Who) (f : Frame) (w : World) → E.steady name ≡ false → Awake name w → top_of w name ≡ Some f → part_of f.mark ≡ None
    → Calm E w (pop name w)
unfolding Awake
popped name f w steady good top free = pop-calm name w steady (unset-of name w f (frames_of w name) top free) (λ c d is e i. good c d is e)

-- ---- from one world

pub given-from : {E : Kind} {X : Type 0} (part : Part) (name : Who) (result : Result X Raised) (f : X → Step) (w : World) → ((x : X) → From E w (f x))
    → From E w (given part name result f)
given-from part name (Ok x) f w k = k x
given-from part name (Err e) f w k = calms-from _ w (raises-calms part name e)

pub raise_if-from : {E : Kind} (name : Who) (test : Bool) (e : Raised) (step : Step) (w : World) → (test ≡ false → From E w step)
    → From E w (raise_if name test e step)
raise_if-from name true e step w k = calms-from _ w (raises-calms Own name e)
raise_if-from name false e step w k = k refl
