-- Each statement that sets or cancels an event, a timer or a budget's handler does what it asks for.
use Rattle.std.proofs.Common.{◌≡◌, ℕ, ℤ, Bool, true, false, cond, List, [], ◌∷◌, ◌≤◌, Option, Some, None, refl, sym, ap, subst, ◌∙◌, append-nil}
use Rattle.std.specs.Prelude.{int_lt, pos}
use Rattle.trace_text.specs.declared.events.Who.{Who}
use Rattle.profile_image.specs.declared.image.Image.{Image}
use Rattle.profile_image.specs.declared.numbers.DeclNo.{DeclNo}
use Rattle.profile_image.specs.declared.numbers.StatementNo.{StatementNo}
use Rattle.profile_image.specs.declared.expressions.VariableName.{VariableName}
use Rattle.profile_image.specs.declared.statements.HandlerName.{HandlerName}
use Rattle.profile_image.specs.declared.statements.Setting.{Setting}
use Rattle.profile_image.specs.declared.statements.StatementForm.TheVariants as form
use Rattle.profile_machine.specs.declared.world.World.{World}
use Rattle.profile_machine.specs.declared.world.appointments.Due.TheVariants as due_for
use Rattle.profile_machine.specs.declared.world.appointments.HandlerOf.{HandlerOf}
use Rattle.profile_machine.specs.declared.world.lines.Said.{Said}
use Rattle.profile_machine.specs.declared.world.lines.Part.TheVariants.{Own}
use Rattle.profile_machine.specs.declared.world.scopes.Variable.{Variable}
use Rattle.profile_image.specs.Program.{next_of}
use Rattle.profile_machine.specs.Steps.{Step, Done, done, changes, ◌▷◌}
use Rattle.profile_machine.specs.Frames.{goes, given}
use Rattle.profile_machine.specs.Values.{Seen, seen_by, number_of_thing, variable, is_event}
use Rattle.profile_machine.specs.Statements.{sees}
use Rattle.profile_machine.specs.Appointments.{appoint, is_appointed}
use Rattle.profile_machine.specs.Handlers.{setting_of, cancel_event_setting, appoint_event, event_set_to, set_event, cancel_event, release, answer}
use Rattle.machine_laws.proofs.Kept.Combinators.{Keeps, Kept, From}
use Rattle.release_laws.specs.Asked.{Request, OfEvent, request_of, or_nothing}
use Rattle.release_laws.specs.ReleaseLaws.{but_event, put_event, events_asked}
use Rattle.release_laws.proofs.ClockLemmas.{clock_in}
use Rattle.release_laws.proofs.EventLists.{events_of, Rises, put-rises, without-rises, put-events, dropped-events}
use Rattle.release_laws.proofs.TimerLists.{timers_in}
use Rattle.release_laws.proofs.Tellings.{Tells, tells_none}
use Rattle.release_laws.proofs.Untouched.{Sight, sight_of, budget_in, Calmly, calm}
use Rattle.release_laws.proofs.Release.{Released, release-from}
use Rattle.release_laws.proofs.Effects.{Effect, Does, Alike, alike-clocks, alike-outside, at_once}
use Rattle.release_laws.proofs.Effects.{effect-then, kept-weaker, given-does, setting_of-does, gone-does}
use Rattle.machine_laws.proofs.Kept.Handlers.{answer-keeps}

-- from a world that is alike, whatever is said of that before it
abbrev pub Onward : Request → World → World → List Said → World → Type 0
Onward r w before said after = Effect r w after × Tells (at_once w r) said

-- the world from which a step is kept does not matter here
pub started : (r : Request) (w v u : World) (said : List Said) (d : Done) → Kept (Onward r w) u said d → Kept (Onward r w) v said d
unfolding Kept
started r w v u said (done x ys) k = k

pub sees-does : (r : Request) (p : Image) (name : Who) (f : Seen → Step) (w : World) → Does r w (f (seen_by p w name)) → Does r w (sees p name f)
unfolding From
sees-does r p name f w k said = k said

-- a change, and an answer
pub answered-from : (p : Image) (name : Who) (x : Variable) (b : Bool) (r : Request) (w v : World) (f : World → World) → Effect r w (f v) → at_once w r ≡ []
    → From (Onward r w) v (changes f ▷ answer p name x b)
unfolding From Keeps
answered-from p name x b r w v f k none said =
    started r w v (f v) said (answer p name x b (f v) said)
    (kept-weaker Calmly (λ before xs after. Onward r w before xs after) (f v) said (answer p name x b (f v) said)
    (λ u xs c. (effect-then r w (f v) u k c.0, subst (λ hs. Tells hs xs) (sym none) c.1)) (answer-keeps calm p name x b (f v) tt said))

-- ---- events

module _ (n : ℕ) (h : Option HandlerOf) (m : ℤ) (w v : World) (k : Alike w v) where
  same_appointments : v.appointments ≡ w.appointments
  same_appointments = ap (λ (s : Sight). s.appointments) k.sights

  -- only appointments have changed since
  events-effect : (u : World) → sight_of u ≡ record (sight_of v) { appointments = u.appointments }
      → (Rises w.appointments → events_of u.appointments ≡ events_asked w.time (OfEvent n h m) (events_of w.appointments))
      → (Rises w.appointments → Rises u.appointments) → Effect (OfEvent n h m) w u
  events-effect u e events rises =
      let outside = alike-outside w v k in
      let clocks = alike-clocks w v k in
      record {
        events = events;
        rises = rises;
        timers = ap (λ (s : Sight). timers_in s.timers s.timers_set) e ∙ ap (λ (s : Sight). timers_in s.timers s.timers_set) k.sights;
        timers_due = ap (λ (s : Sight). s.timers_due) e ∙ ap (λ (s : Sight). s.timers_due) k.sights;
        handlers = λ i. ap (λ (s : Sight). (budget_in s.budgets i).handler) e ∙ ap (λ (s : Sight). (budget_in s.budgets i).handler) k.sights;
        budget_due = ap (λ (s : Sight). s.budget_due) e ∙ ap (λ (s : Sight). s.budget_due) k.sights;
        outside = record {
          same_script = ap (λ (s : Sight). s.script) e ∙ outside.same_script;
          same_masked = ap (λ (s : Sight). s.masked) e ∙ outside.same_masked;
          same_kept = ap (λ (s : Sight). s.kept_interrupts) e ∙ outside.same_kept;
        };
        clocks = record {
          same_time = ap (λ (s : Sight). s.time) e ∙ clocks.same_time;
          low = λ t. subst (λ (s : Sight). clock_in s.tasks t ≤ clock_in w.tasks t) (sym e) (clocks.low t);
        };
      }

  cancelled-events : events_of (cancel_event_setting n v).appointments ≡ but_event n (events_of w.appointments)
  cancelled-events = dropped-events n v.appointments ∙ ap (λ xs. but_event n (events_of xs)) same_appointments

  cancelled-rises : Rises w.appointments → Rises (cancel_event_setting n v).appointments
  cancelled-rises r = without-rises (λ a. is_event n a.due) v.appointments (subst Rises (sym same_appointments) r)

event_cleared : (n : ℕ) (m : ℤ) (w v : World) → Alike w v → Effect (OfEvent n None m) w (cancel_event_setting n v)
event_cleared n m w v k = events-effect n None m w v k (cancel_event_setting n v) refl (λ r. cancelled-events n None m w v k) (cancelled-rises n None m w v k)

module _ (p : Image) (n : ℕ) (h : HandlerOf) (m : ℤ) (w v : World) (k : Alike w v) where
  abbrev set_later : World
  set_later = appoint (due_for.Event n h) m (cancel_event_setting n v)

  later-effect : int_lt (pos w.time) m ≡ true → Effect (OfEvent n (Some h) m) w set_later
  later-effect is =
      events-effect n (Some h) m w v k set_later refl
      (λ r. put-events (record { event = n; handler = h; moment = m }) (cancel_event_setting n v).appointments (cancelled-rises n (Some h) m w v k r)
      ∙ ap (put_event (record { event = n; handler = h; moment = m })) (cancelled-events n (Some h) m w v k)
      ∙ sym (ap (λ b. cond b (put_event (record { event = n; handler = h; moment = m }) (but_event n (events_of w.appointments)))
      (but_event n (events_of w.appointments))) is))
      (λ r. put-rises (record { due = due_for.Event n h; moment = m }) (cancel_event_setting n v).appointments (cancelled-rises n (Some h) m w v k r))

  now-effect : int_lt (pos w.time) m ≡ false → Effect (OfEvent n (Some h) m) w (cancel_event_setting n v)
  now-effect is =
      events-effect n (Some h) m w v k (cancel_event_setting n v) refl
      (λ r. cancelled-events n (Some h) m w v k
      ∙ sym (ap (λ b. cond b (put_event (record { event = n; handler = h; moment = m }) (but_event n (events_of w.appointments)))
      (but_event n (events_of w.appointments))) is))
      (cancelled-rises n (Some h) m w v k)

  set_where-from : (b : Bool) → int_lt (pos w.time) m ≡ b → From (Onward (OfEvent n (Some h) m) w) (cancel_event_setting n v) (appoint_event p n h m b)
  unfolding From Kept appoint_event
  set_where-from true is said = ([], sym (append-nil said), (later-effect is, subst (λ b. Tells (cond b [] (h ∷ [])) []) (sym is) tells_none))
  set_where-from false is said =
      kept-weaker (Released h) (Onward (OfEvent n (Some h) m) w) (cancel_event_setting n v) said (release p Own h (Some n) (cancel_event_setting n v) said)
      (λ u xs x. (
        effect-then (OfEvent n (Some h) m) w (cancel_event_setting n v) u (now-effect is) x.others,
        subst (λ b. Tells (cond b [] (h ∷ [])) xs) (sym is) x.tells,
      ))
      (release-from p h (Some n) (cancel_event_setting n v) said)

  same_time : v.time ≡ w.time
  same_time = ap (λ (s : Sight). s.time) k.sights

  set_event-from : From (Onward (OfEvent n (Some h) m) w) v (changes (cancel_event_setting n) ▷ event_set_to p n (Some h) m)
  unfolding From event_set_to
  set_event-from said =
      started (OfEvent n (Some h) m) w v (cancel_event_setting n v) said (appoint_event p n h m (int_lt (pos v.time) m) (cancel_event_setting n v) said)
      (set_where-from (int_lt (pos v.time) m) (ap (λ t. int_lt (pos t) m) (sym same_time)) said)

event_set-from : (p : Image) (n : ℕ) (h : Option HandlerOf) (m : ℤ) (w v : World) → Alike w v
    → From (Onward (OfEvent n h m) w) v (changes (cancel_event_setting n) ▷ event_set_to p n h m)
unfolding From Kept event_set_to
event_set-from p n None m w v k said = ([], sym (append-nil said), (event_cleared n m w v k, tells_none))
event_set-from p n (Some h) m w v k said = set_event-from p n h m w v k said

pub set_event-does : (p : Image) (name : Who) (s : StatementNo) (d : DeclNo) (set : Setting) (handler : Option HandlerName) (w : World)
    → Does (or_nothing (request_of p (seen_by p w name) (form.SetEvent d set handler))) w (set_event p name s d set handler)
unfolding set_event
set_event-does p name s d set handler w =
    sees-does _ p name
    (λ q. given Own name (number_of_thing q d)
    (λ n. setting_of p name q (pos q.world.time) set handler (λ h m. goes name (next_of p s) ▷ changes (cancel_event_setting n) ▷ event_set_to p n h m))) w
    (given-does name w (number_of_thing (seen_by p w name) d) _ _ (λ n e.
    setting_of-does p name w (pos w.time) set handler (OfEvent n) _ (λ h m.
    gone-does (OfEvent n h m) name (next_of p s) w (changes (cancel_event_setting n) ▷ event_set_to p n h m) (λ v k. event_set-from p n h m w v k))))

pub cancel_event-does : (p : Image) (name : Who) (s : StatementNo) (d : DeclNo) (target : VariableName) (w : World)
    → Does (or_nothing (request_of p (seen_by p w name) (form.CancelEvent d target))) w (cancel_event p name s d target)
unfolding cancel_event
cancel_event-does p name s d target w =
    sees-does _ p name
    (λ q. given Own name (number_of_thing q d)
    (λ n. given Own name (variable q target)
    (λ x. goes name (next_of p s) ▷ changes (cancel_event_setting n) ▷ answer p name x (is_appointed (is_event n) q.world)))) w
    (given-does name w (number_of_thing (seen_by p w name) d) _ _ (λ n e.
    given-does name w (variable (seen_by p w name) target) _ _ (λ x f.
    gone-does (OfEvent n None (pos 0)) name (next_of p s) w (changes (cancel_event_setting n) ▷ answer p name x (is_appointed (is_event n) w))
    (λ v k. answered-from p name x (is_appointed (is_event n) w) (OfEvent n None (pos 0)) w v (cancel_event_setting n) (event_cleared n (pos 0) w v k) refl))))
