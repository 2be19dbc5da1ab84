-- Each statement that sets or cancels a timer does what it asks for.
use Rattle.std.proofs.Common.{◌≡◌, ℕ, ℤ, Bool, true, false, cond, ◌&&◌, List, [], ◌∷◌, ◌++◌, ◌≤◌, Option, Some, None, refl, sym, ap, subst, ◌∙◌, append-nil}
use Rattle.std.specs.Prelude.{int_lt, pos, Ok, Err}
use Rattle.std.proofs.lemmas.Bool.{and_right, false≢true}
use Rattle.ann_base.specs.Results.{◌>>=◌}
use Rattle.ann_base.specs.declared.identities.TaskNo.{TaskNo}
use Rattle.ann_base.specs.declared.exceptions.Raised.TheVariants as exception
use Rattle.trace_text.specs.declared.events.Who.{Who}
use Rattle.trace_text.specs.declared.events.Who.TheVariants as who
use Rattle.profile_image.specs.declared.image.Image.{Image}
use Rattle.profile_image.specs.declared.numbers.DeclNo.{DeclNo}
use Rattle.profile_image.specs.declared.numbers.StatementNo.{StatementNo}
use Rattle.profile_image.specs.declared.expressions.VariableName.{VariableName}
use Rattle.profile_image.specs.declared.statements.HandlerName.{HandlerName}
use Rattle.profile_image.specs.declared.statements.Setting.{Setting}
use Rattle.profile_image.specs.declared.statements.StatementForm.TheVariants as form
use Rattle.profile_machine.specs.declared.world.World.{World}
use Rattle.profile_machine.specs.declared.world.appointments.HandlerOf.{HandlerOf}
use Rattle.profile_machine.specs.declared.world.lines.Part.TheVariants.{Own}
use Rattle.profile_machine.specs.declared.world.tasks.Task.{Task}
use Rattle.profile_image.specs.Program.{next_of}
use Rattle.profile_machine.specs.Steps.{changes, ◌▷◌}
use Rattle.profile_machine.specs.Tasks.{found_task}
use Rattle.profile_machine.specs.Frames.{goes, given}
use Rattle.profile_machine.specs.Operators.{Valued}
use Rattle.profile_machine.specs.Values.{seen_by, number_of_thing, variable, timer_of}
use Rattle.profile_machine.specs.Handlers.{without_number, setting_of, clear_timer, with_timer_set, timer_set_beyond}
use Rattle.profile_machine.specs.Handlers.{timer_set_to, clock_of_timer, set_timer, cancel_timer, is_set_timer, release, answer}
use Rattle.machine_laws.proofs.Kept.Combinators.{Kept, From}
use Rattle.release_laws.specs.Asked.{OfTimer, request_of, or_nothing}
use Rattle.release_laws.specs.ReleaseLaws.{TimerSet, but_timer, timers_asked, is_number_of, clock_of}
use Rattle.release_laws.proofs.ClockLemmas.{clock_in, shown}
use Rattle.release_laws.proofs.EventLists.{events_of, Rises}
use Rattle.release_laws.proofs.TimerLists.{timers_in, timer_in, cleared-timers, set-timers}
use Rattle.release_laws.proofs.Tellings.{Tells, tells_none}
use Rattle.release_laws.proofs.Untouched.{Sight, sight_of, budget_in}
use Rattle.release_laws.proofs.Release.{Released, release-from}
use Rattle.release_laws.proofs.Effects.{Effect, Does, Alike, alike-clocks, alike-outside, effect-then, kept-weaker, given-does, setting_of-does, gone-does}
use Rattle.release_laws.proofs.Settings.{Onward, sees-does, started, answered-from}

module _ (n : ℕ) (h : Option HandlerOf) (value : ℤ) (w v : World) (k : Alike w v) where
  -- only timers have changed since
  timers-effect : (u : World) → sight_of u ≡ record (sight_of v) { timers = u.timers; timers_set = u.timers_set; timers_due = without_number n v.timers_due }
      → timers_in u.timers u.timers_set ≡ timers_asked w (OfTimer n (timer_of w n).task h value) (timers_in w.timers w.timers_set)
      → Effect (OfTimer n (timer_of w n).task h value) w u
  timers-effect u e timers =
      let outside = alike-outside w v k in
      let clocks = alike-clocks w v k in
      let appointments : u.appointments ≡ w.appointments = ap (λ (s : Sight). s.appointments) e ∙ ap (λ (s : Sight). s.appointments) k.sights in
      record {
        events = λ r. ap events_of appointments;
        rises = λ r. subst Rises (sym appointments) r;
        timers = timers;
        timers_due = ap (λ (s : Sight). s.timers_due) e ∙ ap (λ (s : Sight). without_number n s.timers_due) k.sights;
        handlers = λ i. ap (λ (s : Sight). (budget_in s.budgets i).handler) e ∙ ap (λ (s : Sight). (budget_in s.budgets i).handler) k.sights;
        budget_due = ap (λ (s : Sight). s.budget_due) e ∙ ap (λ (s : Sight). s.budget_due) k.sights;
        outside = record {
          same_script = ap (λ (s : Sight). s.script) e ∙ outside.same_script;
          same_masked = ap (λ (s : Sight). s.masked) e ∙ outside.same_masked;
          same_kept = ap (λ (s : Sight). s.kept_interrupts) e ∙ outside.same_kept;
        };
        clocks = record {
          same_time = ap (λ (s : Sight). s.time) e ∙ clocks.same_time;
          low = λ t. subst (λ (s : Sight). clock_in s.tasks t ≤ clock_in w.tasks t) (sym e) (clocks.low t);
        };
      }

  cleared : timers_in (clear_timer n v).timers (clear_timer n v).timers_set ≡ but_timer n (timers_in w.timers w.timers_set)
  cleared = cleared-timers n v.timers v.timers_set ∙ ap (λ (s : Sight). but_timer n (timers_in s.timers s.timers_set)) k.sights

timer_cleared : (n : ℕ) (value : ℤ) (w v : World) → Alike w v → Effect (OfTimer n (timer_of w n).task None value) w (clear_timer n v)
timer_cleared n value w v k = timers-effect n None value w v k (clear_timer n v) refl (cleared n None value w v k)

and_true : (a b : Bool) → b ≡ true → (a && b) ≡ a
and_true true b e = e
and_true false b e = refl

module _ (p : Image) (n : ℕ) (h : HandlerOf) (value : ℤ) (w v : World) (k : Alike w v) where
  abbrev the_task : TaskNo
  the_task = (timer_of w n).task

  abbrev others : List TimerSet
  others = but_timer n (timers_in w.timers w.timers_set)

  abbrev new : TimerSet
  new = record { timer = n; task = the_task; handler = h; value = value }

  set-effect : int_lt (pos (clock_of w the_task)) value ≡ true → Effect (OfTimer n the_task (Some h) value) w (with_timer_set n h value (clear_timer n v))
  set-effect is =
      timers-effect n (Some h) value w v k (with_timer_set n h value (clear_timer n v)) refl
      (set-timers n v.timers (record { value = value; handler = h }) v.timers_set
      ∙ ap (λ (s : Sight). cond (is_number_of s.timers n)
      (but_timer n (timers_in s.timers s.timers_set) ++ record { timer = n; task = (timer_in s.timers n).task; handler = h; value = value } ∷ [])
      (but_timer n (timers_in s.timers s.timers_set))) k.sights
      ∙ sym (ap (λ b. cond b (others ++ new ∷ []) others) (and_true (is_number_of w.timers n) (int_lt (pos (clock_of w the_task)) value) is)))

  now-effect : int_lt (pos (clock_of w the_task)) value ≡ false → Effect (OfTimer n the_task (Some h) value) w (clear_timer n v)
  now-effect is =
      timers-effect n (Some h) value w v k (clear_timer n v) refl
      (cleared n (Some h) value w v k
      ∙ sym (ap (λ b. cond b (others ++ new ∷ []) others) (and_right (is_number_of w.timers n) (int_lt (pos (clock_of w the_task)) value) is)))

  beyond-from : (b : Bool) → int_lt (pos (clock_of w the_task)) value ≡ b
      → From (Onward (OfTimer n the_task (Some h) value) w) (clear_timer n v) (timer_set_beyond p n h value b)
  unfolding From Kept timer_set_beyond
  beyond-from true is said = ([], sym (append-nil said), (set-effect is, subst (λ b. Tells (cond b [] (h ∷ [])) []) (sym is) tells_none))
  beyond-from false is said =
      kept-weaker (Released h) (Onward (OfTimer n the_task (Some h) value) w) (clear_timer n v) said (release p Own h (Some n) (clear_timer n v) said)
      (λ u xs x. (
        effect-then (OfTimer n the_task (Some h) value) w (clear_timer n v) u (now-effect is) x.others,
        subst (λ b. Tells (cond b [] (h ∷ [])) xs) (sym is) x.tells,
      ))
      (release-from p h (Some n) (clear_timer n v) said)

timer_set-from : (p : Image) (n clock : ℕ) (h : Option HandlerOf) (value : ℤ) (w v : World) → Alike w v → clock ≡ clock_of w (timer_of w n).task
    → From (Onward (OfTimer n (timer_of w n).task h value) w) v (changes (clear_timer n) ▷ timer_set_to p n clock h value)
unfolding From Kept timer_set_to
timer_set-from p n clock None value w v k e said = ([], sym (append-nil said), (timer_cleared n value w v k, tells_none))
timer_set-from p n clock (Some h) value w v k e said =
    started (OfTimer n (timer_of w n).task (Some h) value) w v (clear_timer n v) said
    (timer_set_beyond p n h value (int_lt (pos clock) value) (clear_timer n v) said)
    (beyond-from p n h value w v k (int_lt (pos clock) value) (ap (λ c. int_lt (pos c) value) (sym e)) said)

-- the clock of a live task
abbrev is_ok_of : {X : Type 0} → X → Valued X → X
is_ok_of x (Ok y) = y
is_ok_of x (Err e) = x

abbrev is_ok : {X : Type 0} → Valued X → Bool
is_ok (Ok y) = true
is_ok (Err e) = false

found-clock : (found : Option Task) (clock : ℕ)
    → ((elim found as (λ _. Valued Task) [ None ↦ Err exception.Tasking | Some t ↦ Ok t ]) >>= λ t. Ok t.cpu_ticks) ≡ Ok clock → clock ≡ shown found
found-clock None clock e = absurd (false≢true (ap is_ok e))
found-clock (Some t) clock e = sym (ap (is_ok_of 0) e)

pub set_timer-does : (p : Image) (name : Who) (s : StatementNo) (d : DeclNo) (set : Setting) (handler : Option HandlerName) (w : World)
    → Does (or_nothing (request_of p (seen_by p w name) (form.SetTimer d set handler))) w (set_timer p name s d set handler)
unfolding set_timer
set_timer-does p name s d set handler w =
    sees-does _ p name
    (λ q. given Own name (number_of_thing q d)
    (λ n. given Own name (clock_of_timer q n)
    (λ clock. setting_of p name q (pos clock) set handler (λ h v. goes name (next_of p s) ▷ changes (clear_timer n) ▷ timer_set_to p n clock h v)))) w
    (given-does name w (number_of_thing (seen_by p w name) d) _ _ (λ n e.
    given-does name w (clock_of_timer (seen_by p w name) n) _ _ (λ clock f.
    setting_of-does p name w (pos clock) set handler (OfTimer n (timer_of w n).task) _ (λ h value.
    gone-does (OfTimer n (timer_of w n).task h value) name (next_of p s) w (changes (clear_timer n) ▷ timer_set_to p n clock h value)
    (λ v k. timer_set-from p n clock h value w v k (found-clock (found_task (who.Task (timer_of w n).task) w.tasks) clock f))))))

pub cancel_timer-does : (p : Image) (name : Who) (s : StatementNo) (d : DeclNo) (target : VariableName) (w : World)
    → Does (or_nothing (request_of p (seen_by p w name) (form.CancelTimer d target))) w (cancel_timer p name s d target)
unfolding cancel_timer
cancel_timer-does p name s d target w =
    sees-does _ p name
    (λ q. given Own name (number_of_thing q d)
    (λ n. given Own name (clock_of_timer q n)
    (λ clock. given Own name (variable q target) (λ x. goes name (next_of p s) ▷ changes (clear_timer n) ▷ answer p name x (is_set_timer q.world n))))) w
    (given-does name w (number_of_thing (seen_by p w name) d) _ _ (λ n e.
    given-does name w (clock_of_timer (seen_by p w name) n) _ _ (λ clock f.
    given-does name w (variable (seen_by p w name) target) _ _ (λ x g.
    gone-does (OfTimer n (timer_of w n).task None (pos 0)) name (next_of p s) w (changes (clear_timer n) ▷ answer p name x (is_set_timer w n))
    (λ v k. answered-from p name x (is_set_timer w n) (OfTimer n (timer_of w n).task None (pos 0)) w v (clear_timer n) (timer_cleared n (pos 0) w v k) refl)))))
