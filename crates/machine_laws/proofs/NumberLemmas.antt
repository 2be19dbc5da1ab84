-- The lists of a world that are numbered or in order stay so: tasks, calls, registered controlled objects, scopes in
-- use, protected objects, releases and appointments.
use Rattle.std.proofs.Common.{◌≡◌, ℕ, ℤ, suc, Option, Some, None, List, [], ◌∷◌, true, ltb, leb, ◌&&◌, refl, ap, subst, sym, ◌∙◌, arith}
use Rattle.std.specs.List.{list_all}
use Rattle.std.proofs.lemmas.Bool.{and_from}
use Rattle.trace_text.specs.declared.events.Who.{Who}
use Rattle.trace_text.specs.declared.events.Who.TheVariants as who
use Rattle.profile_image.specs.declared.image.Image.{Image}
use Rattle.profile_image.specs.declared.script_items.Item.{Item}
use Rattle.profile_machine.specs.declared.world.World.{World}
use Rattle.profile_machine.specs.declared.world.tasks.Task.{Task}
use Rattle.profile_machine.specs.declared.world.calls.Call.{Call}
use Rattle.profile_machine.specs.declared.world.appointments.Registered.{Registered}
use Rattle.profile_machine.specs.declared.world.scopes.ScopeInUse.{ScopeInUse}
use Rattle.profile_machine.specs.declared.world.scopes.ScopeId.{ScopeId}
use Rattle.profile_machine.specs.declared.world.objects.Object.{Object}
use Rattle.profile_machine.specs.declared.world.appointments.Release.{Release}
use Rattle.profile_machine.specs.Tasks.{is_who, task_at, edit_task_found, edit_task}
use Rattle.profile_machine.specs.Scopes.{goes_with, is_id, with_cells}
use Rattle.profile_machine.specs.Calls.{is_call}
use Rattle.profile_image.specs.Words.{without}
use Rattle.profile_machine.specs.Protected.{is_action_of}
use Rattle.profile_machine.specs.Values.{is_object}
use Rattle.profile_machine.specs.Controlled.{is_number}
use Rattle.profile_machine.specs.Dispatching.{choose}
use Rattle.profile_machine.specs.Run.{opens, blank_world}
use Rattle.profile_machine.specs.WellFormed.{all_adjacent, number_in, is_older, tasks_are_numbered, registered_are_numbered, releases_are_numbered}
use Rattle.machine_laws.specs.NumberLaws.{calls_fall, scopes_fall, objects_fall, appointments_rise}
use Rattle.machine_laws.specs.Reached.{Reached}
use Rattle.machine_laws.proofs.FinestMoves.{all_of, tocks_of, effect-leads}
use Rattle.machine_laws.proofs.ListLemmas.{Falls, Falls-without, Falls-edit_where, Falls-adjacent, Falls-all, Rises, Rises-without}
use Rattle.machine_laws.proofs.ListLemmas.{Rises-set_where, Rises-behind, Rises-adjacent, Rises-all, Follows, Follows-behind, Follows-adjacent}
use Rattle.machine_laws.proofs.AppointmentLemmas.{InOrder, InOrder-put, InOrder-without, InOrder-adjacent}
use Rattle.machine_laws.proofs.ReachedLemmas.{Lasts, reached-lasts}
use Rattle.machine_laws.proofs.Moves.{Moves, TockMoves}
use Rattle.machine_laws.proofs.Kept.Instant.{instant-leads}
use Rattle.machine_laws.proofs.Kept.Run.{tock-parts, before_tick-leads, opens-keeps}
use Rattle.machine_laws.proofs.Kept.Combinators.{Leads}

-- ---- the numbers

abbrev pub task_number : Task → ℕ
task_number t = number_in t.who

abbrev pub call_number : Call → ℕ
call_number c = c.number.0

abbrev registered_number : Registered → ℕ
registered_number r = r.object

abbrev number_of_id : ScopeId → ℕ
number_of_id id = id.0

abbrev scope_number : ScopeInUse → ℕ
scope_number s = number_of_id s.id

abbrev object_number : Object → ℕ
object_number o = o.number.0

abbrev release_number : Release → ℕ
release_number r = r.number

-- releases that are pending follow one that has been taken up, up to the last that was drawn
abbrev ReleasesFollow : World → Type 0
ReleasesFollow w = (from : ℕ) × Follows release_number from w.drawn.releases w.releases

abbrev Numbered : World → Type 0
Numbered w =
    Rises task_number 0 w.drawn.tasks w.tasks
    × Falls call_number (suc w.drawn.calls) w.calls
    × Falls registered_number (suc w.drawn.controlled) w.registered
    × Falls scope_number w.drawn.scopes w.scopes
    × Falls object_number (suc w.drawn.objects) w.objects
    × ReleasesFollow w
    × InOrder w.appointments

-- ---- each change keeps them

-- both worlds are numbered, if the first is
abbrev StaysNumbered : {X : Type 0} → World → List X → World → Type 0
StaysNumbered before lines after = Numbered before → Numbered after

edit_found-numbered : (name : Who) (f : Task → Task) (w : World) → ((t : Task) → (f t).who ≡ t.who) → (found : Option Task) → task_at w name ≡ found
    → Numbered w → Numbered (edit_task_found name f w found)
edit_found-numbered name f w k None is h = h
edit_found-numbered (who.Task n) f w k (Some t) is h =
    (Rises-set_where task_number (is_who (who.Task n)) t (f t) (ap number_in (k t)) 0 w.drawn.tasks w.tasks is h.0, h.1, h.2, h.3, h.4, h.5, h.6)
edit_found-numbered who.Agent f w k (Some t) is h = h

edit_task-numbered : (name : Who) (f : Task → Task) (w : World) → ((t : Task) → (f t).who ≡ t.who) → Numbered w → Numbered (edit_task name f w)
edit_task-numbered name f w k h = edit_found-numbered name f w k (task_at w name) refl h

stays_numbered : Moves StaysNumbered StaysNumbered
stays_numbered = record {
  stays = λ w h. h;
  goes_on = λ a b c p q h. q (p h);
  says = λ part line w no_put h. h;
  rests = λ w h. h;
  leads_on = λ a b c p q h. q (p h);
  settles = λ p a b xs k h. k h;
  silently = λ a b k h. k h;
  edits_task = edit_task-numbered;
  adds_task = λ t w k h. (Rises-behind task_number 0 w.drawn.tasks w.tasks t (ap number_in k) h.0, h.1, h.2, h.3, h.4, h.5, h.6);
  forgets_task = λ name w h. (Rises-without task_number (is_who name) 0 w.drawn.tasks w.tasks h.0, h.1, h.2, h.3, h.4, h.5, h.6);
  sets_quantum = λ level ticks w h. h;
  ends_environment = λ leaving w h. h;
  begins_scope = λ p name scope b w h. (h.0, h.1, h.2, (omega arith, h.3), h.4, h.5, h.6);
  draws_region = λ w h. h;
  edits_cells = λ id f w h. (h.0, h.1, h.2, Falls-edit_where scope_number (is_id id) (with_cells f) (λ s. refl) w.drawn.scopes w.scopes h.3, h.4, h.5, h.6);
  ends_scope = λ id w h. (
    h.0,
    h.1,
    h.2,
    Falls-without scope_number (is_id id) w.drawn.scopes w.scopes h.3,
    Falls-without object_number (goes_with id) (suc w.drawn.objects) w.objects h.4,
    h.5,
    h.6,
  );
  edits_call = λ c f w k h. (
    h.0,
    Falls-edit_where call_number (is_call c) f (λ d. ap (λ n. n.0) (k d)) (suc w.drawn.calls) w.calls h.1,
    h.2,
    h.3,
    h.4,
    h.5,
    h.6,
  );
  adds_call = λ c w h. (h.0, (omega arith, h.1), h.2, h.3, h.4, h.5, h.6);
  forgets_call = λ c w h. (h.0, Falls-without call_number (is_call c) (suc w.drawn.calls) w.calls h.1, h.2, h.3, h.4, h.5, h.6);
  edits_object = λ o f w k a h. (
    h.0,
    h.1,
    h.2,
    h.3,
    Falls-edit_where object_number (is_object o) f (λ x. ap (λ n. n.0) (k x)) (suc w.drawn.objects) w.objects h.4,
    h.5,
    h.6,
  );
  adds_object = λ p l u w h. (h.0, h.1, h.2, h.3, (omega arith, h.4), h.5, h.6);
  enters = λ name o mode w lets h. (
    h.0,
    h.1,
    h.2,
    h.3,
    Falls-edit_where object_number (is_object o) (λ x. record x { actions = record { who = name; mode = mode } ∷ x.actions }) (λ x. refl)
        (suc w.drawn.objects) w.objects h.4,
    h.5,
    h.6,
  );
  exits = λ name o w h. (
    h.0,
    h.1,
    h.2,
    h.3,
    Falls-edit_where object_number (is_object o) (λ x. record x { actions = without (is_action_of name) x.actions }) (λ x. refl)
        (suc w.drawn.objects) w.objects h.4,
    h.5,
    h.6,
  );
  visits = λ name o mode xs w v lets others k h. k h;
  finds_held = λ name o mode w found h. h;
  appoints = λ due moment w later h. (h.0, h.1, h.2, h.3, h.4, h.5, InOrder-put (record { due = due; moment = moment }) w.appointments h.6);
  drops_appointment = λ test w h. (h.0, h.1, h.2, h.3, h.4, h.5, InOrder-without (λ a. test a.due) w.appointments h.6);
  registers = λ r l w h. (h.0, h.1, (omega arith, h.2), h.3, h.4, h.5, h.6);
  unregisters = λ n w h. (h.0, h.1, Falls-without registered_number (is_number n) (suc w.drawn.controlled) w.registered h.2, h.3, h.4, h.5, h.6);
  draws_event = λ w h. h;
  adds_timer = λ t w h. h;
  clears_timer = λ k w h. h;
  sets_timer = λ k h value w g. g;
  sets_timers_due = λ timers w h. h;
  adds_budget = λ w h. h;
  edits_budget = λ b f w h. h;
  sets_budget_due = λ budget w h. h;
  releases = λ h argument w g. (
    g.0,
    g.1,
    g.2,
    g.3,
    g.4,
    (
      g.5.0,
      Follows-behind release_number g.5.0 w.drawn.releases w.releases (record { number = suc w.drawn.releases; handler = h; argument = argument }) refl g.5.1,
    ),
    g.6,
  );
  has_served = λ r w is h. h;
  sets_port = λ n value w h. h;
  masks = λ n flag w h. h;
  keeps_interrupt = λ n flag w h. h;
  cuts_script = λ x rest w is due h. h;
}

-- the first release that is pending is taken up
served-follows : (r : Release) (rest releases : List Release) (from last : ℕ) → releases ≡ r ∷ rest → Follows release_number from last releases
    → Follows release_number r.number last rest
served-follows r rest releases from last k h = (subst (λ xs. Follows release_number from last xs) k h).1

tocks_stay_numbered : TockMoves StaysNumbered
tocks_stay_numbered = record {
  tells = λ event w k h. h;
  serves = λ r rest w k h. (h.0, h.1, h.2, h.3, h.4, (r.number, served-follows r rest w.releases h.5.0 w.drawn.releases k h.5.1), h.6);
}

blank-numbered : (p : Image) (script : List (ℤ × Item)) → Numbered (blank_world p script)
blank-numbered p script = ((omega arith, omega arith), tt, tt, tt, tt, (0, refl), tt)

numbered-lasts : Lasts Numbered
unfolding Leads
numbered-lasts = record {
  at_opening =
      λ p script.
      effect-leads (all_of stays_numbered).fine p (opens p) (opens-keeps (all_of stays_numbered) p) (blank_world p script) tt (blank-numbered p script);
  at_instant = λ p w h. instant-leads (all_of stays_numbered) p (record { puts = λ name s pieces text v w good is e k. k }) w tt h;
  at_tock =
      λ p w h. subst (λ a. Numbered a.0) (sym (tock-parts p w)) (before_tick-leads (all_of stays_numbered) (tocks_of tocks_stay_numbered) p (choose w) w tt h);
}

-- ---- as the tests have it

older-test : (a b : ScopeId) → is_older a b ≡ ltb (number_of_id a) (number_of_id b)
older-test a b = refl

older-is : (xs : List ScopeInUse) → all_adjacent (λ a b. ltb (scope_number b) (scope_number a)) xs ≡ all_adjacent (λ a b. is_older b.id a.id) xs
older-is [] = refl
older-is (x ∷ []) = refl
older-is (x ∷ y ∷ rest) = rw (older-test y.id x.id) (ap (λ b. ltb (scope_number y) (scope_number x) && b) (older-is (y ∷ rest)))

pub reached_tasks : (p : Image) (script : List (ℤ × Item)) (bound : ℕ) (w : World) → Reached p script bound w → tasks_are_numbered w ≡ true
reached_tasks p script bound w r =
    let h : Numbered w = reached-lasts numbered-lasts p script bound w r in
    and_from (all_adjacent (λ a b. ltb (task_number a) (task_number b)) w.tasks) (list_all (λ t. ltb (task_number t) w.drawn.tasks) w.tasks)
    (Rises-adjacent task_number 0 w.drawn.tasks w.tasks h.0) (Rises-all task_number 0 w.drawn.tasks w.tasks h.0)

pub reached_calls : (p : Image) (script : List (ℤ × Item)) (bound : ℕ) (w : World) → Reached p script bound w → calls_fall w ≡ true
reached_calls p script bound w r =
    let h : Numbered w = reached-lasts numbered-lasts p script bound w r in Falls-adjacent call_number (suc w.drawn.calls) w.calls h.1

pub reached_registered : (p : Image) (script : List (ℤ × Item)) (bound : ℕ) (w : World) → Reached p script bound w → registered_are_numbered w ≡ true
reached_registered p script bound w r =
    let h : Numbered w = reached-lasts numbered-lasts p script bound w r in
    and_from (all_adjacent (λ a b. ltb (registered_number b) (registered_number a)) w.registered)
    (list_all (λ r. leb (registered_number r) w.drawn.controlled) w.registered) (Falls-adjacent registered_number (suc w.drawn.controlled) w.registered h.2)
    (Falls-all registered_number (suc w.drawn.controlled) w.drawn.controlled w.registered (omega arith) h.2)

pub reached_scopes : (p : Image) (script : List (ℤ × Item)) (bound : ℕ) (w : World) → Reached p script bound w → scopes_fall w ≡ true
reached_scopes p script bound w r =
    let h : Numbered w = reached-lasts numbered-lasts p script bound w r in sym (older-is w.scopes) ∙ Falls-adjacent scope_number w.drawn.scopes w.scopes h.3

pub reached_objects : (p : Image) (script : List (ℤ × Item)) (bound : ℕ) (w : World) → Reached p script bound w → objects_fall w ≡ true
reached_objects p script bound w r =
    let h : Numbered w = reached-lasts numbered-lasts p script bound w r in Falls-adjacent object_number (suc w.drawn.objects) w.objects h.4

pub reached_releases : (p : Image) (script : List (ℤ × Item)) (bound : ℕ) (w : World) → Reached p script bound w → releases_are_numbered w ≡ true
reached_releases p script bound w r =
    let h : Numbered w = reached-lasts numbered-lasts p script bound w r in Follows-adjacent release_number h.5.0 w.drawn.releases w.releases h.5.1

pub reached_appointments : (p : Image) (script : List (ℤ × Item)) (bound : ℕ) (w : World) → Reached p script bound w → appointments_rise w ≡ true
reached_appointments p script bound w r = let h : Numbered w = reached-lasts numbered-lasts p script bound w r in InOrder-adjacent w.appointments h.6
