-- In every run whoever enters an object, or finds one held, stands first in the ready queues.
use Rattle.machine_laws.specs.LineKinds.{is_of_tock}
use Rattle.machine_laws.proofs.LineLemmas.{tocks_say_ticks}
use Rattle.profile_machine.specs.Run.{run_of}
use Rattle.line_laws.proofs.Ticks.LineByLine.{Follow, seen_behind, seen_behind-append}
use Rattle.machine_laws.proofs.DispatchLemmas.{tock-ran}
use Rattle.machine_laws.proofs.TimeLemmas.{opening-runner}
use Rattle.profile_machine.specs.Dispatching.{active, choose, deadline_shown, says_ready}
use Rattle.profile_machine.specs.Instant.{effect}
use Rattle.profile_machine.specs.Instant.{instant}
use Rattle.profile_machine.specs.Run.{opening, tock}
use Rattle.profile_machine.specs.Steps.{settles}
use Rattle.profile_image.specs.declared.image.Image.{Image}
use Rattle.profile_image.specs.declared.script_items.Item.{Item}
use Rattle.profile_machine.specs.declared.world.World.{World}
use Rattle.profile_machine.specs.declared.world.lines.Line.{Line}
use Rattle.profile_machine.specs.declared.world.lines.Line.TheVariants as line
use Rattle.std.proofs.Common.{ap, refl, sym, ◌∙◌, ◌≡◌}
use Rattle.std.specs.Prelude.{List, None, Some, [], false, true, ℕ, ℤ, ◌++◌, ◌∷◌}
use Rattle.trace_text.proofs.LawsFollowed.{is_somebody}
use Rattle.trace_text.specs.declared.events.Event.{Event}
use Rattle.trace_text.specs.declared.events.Event.TheVariants as written
use Rattle.trace_text.specs.declared.events.Who.{Who}
use Rattle.ceiling_laws.specs.RunLaws.{Tells, told_first, told_on}
use Rattle.machine_laws.proofs.PlaceLemmas.{instants_place_by_lines, openings_place_by_lines, tock_lines-places, tocks_place_nobody}
use Rattle.machine_laws.proofs.QueueLemmas.{lined, lined-after, lined-head}
use Rattle.profile_machine.specs.Dispatching as dispatching
use Rattle.profile_machine.specs.Steps.{places_after_all}
use Rattle.trace_text.proofs.LawsFollowed.{lines_hold}
use Rattle.trace_text.specs.Queue.{head_of, queue_after, somebody_eq, who_of}
use Rattle.trace_text.specs.declared.events.Entry.{Entry}
use Rattle.profile_machine.specs.Lines.{event_of}
use Rattle.blocking_laws.specs.OwnLines.{RunsEnterFirst, is_first_entry}
use Rattle.blocking_laws.proofs.EnterLaws.{OfEnters}
use Rattle.blocking_laws.proofs.EnterLemmas.{is_coming}
use Rattle.blocking_laws.proofs.EnterRuns.{OfActor, OfRun, effect-lawful, run_enters}
use Rattle.ceiling_laws.proofs.Runs.FreeMoves.{anywhere}
use Rattle.ceiling_laws.proofs.Runs.LevelMoves.{is_apart}

-- ---- the law

coming-lawful : (p : Image) (queue : List Entry) (x : Line) → is_coming x ≡ false → is_first_entry queue (event_of p x) ≡ true
coming-lawful p queue (line.Enter name object mode) e = cc
coming-lawful p queue (line.Held name object mode) e = cc
coming-lawful p queue _ e = refl

quiet-queue : (p : Image) (queue : List Entry) (x : Line) → is_apart x ≡ false → queue_after queue (event_of p x) ≡ queue
quiet-queue p queue (line.New what declared level) e = cc
quiet-queue p queue (line.Ready who level end deadline) e = cc
quiet-queue p queue (line.Block who waits) e = cc
quiet-queue p queue (line.Base task level) e = cc
quiet-queue p queue (line.Done task) e = cc
quiet-queue p queue (line.Enter who object mode) e = cc
quiet-queue p queue (line.Held who object mode) e = cc
quiet-queue p queue _ e = refl

first_enters : (p : Image) → OfEnters queue_after is_first_entry p
first_enters p = record { others = coming-lawful p; still = quiet-queue p }

-- of who acts it is known that it stands first, and nothing of the world
AnyWorld : World → Type 0
AnyWorld w = Unit {0}

stands_first : (name : Who) (queue : List Entry) → who_of (head_of queue) ≡ Some name → somebody_eq (who_of (head_of queue)) (Some name) ≡ true
stands_first name queue first = is_somebody (who_of (head_of queue)) (Some name) first

first_actor : (p : Image) (name : Who) (queue : List Entry) → who_of (head_of queue) ≡ Some name
    → OfActor queue_after is_first_entry p name queue anywhere AnyWorld
unfolding AnyWorld
first_actor p name queue first = record {
  silently = λ a b same h. tt;
  ends_scope = λ id w h. tt;
  appoints = λ t moment w h. tt;
  may = λ w o mode e. tt;
  may_held = λ w o mode e. tt;
  may_on = λ a b o same m. tt;
  right = λ w o mode known may. stands_first name queue first;
  right_held = λ w o mode known may. stands_first name queue first;
}

effect-first : (p : Image) (w : World) (name : Who) (queue : List Entry) → who_of (head_of queue) ≡ Some name
    → Follow queue_after is_first_entry queue (settles p (effect p name) w).1
unfolding AnyWorld
effect-first p w name queue first =
    effect-lawful queue_after is_first_entry (first_enters p) w name queue anywhere AnyWorld (first_actor p name queue first) tt

tock-event : (queue : List Entry) (event : Event) → is_of_tock event ≡ true → is_first_entry queue event ≡ true
tock-event queue (written.Enter name object mode) e = cc
tock-event queue (written.Held name object mode) e = cc
tock-event queue _ e = refl

-- ---- before an instant

queue-behind : (queue : List Entry) (lines : List Event) → lined (seen_behind queue_after is_first_entry queue lines) ≡ places_after_all lines (lined queue)
queue-behind queue [] = refl
queue-behind queue (x ∷ xs) = queue-behind (queue_after queue x) xs ∙ ap (places_after_all xs) (lined-after queue x)

told-lined : (p : Image) (script : List (ℤ × Item)) (bound : ℕ) (lines : List Event) (w : World) → Tells p script bound lines w
    → w.places ≡ lined (seen_behind queue_after is_first_entry [] lines)
told-lined p script bound _ _ told_first = openings_place_by_lines p script ∙ sym (queue-behind [] (opening p script).1)
told-lined p script bound _ _ (told_on lines w told going) =
    let i = instant p w in
    let t = tock p i.0 in
    let queue = seen_behind queue_after is_first_entry [] lines in
    tocks_place_nobody p i.0 ∙ instants_place_by_lines p w ∙ ap (places_after_all i.1) (told-lined p script bound lines w told)
    ∙ sym (queue-behind queue i.1)
    ∙ sym (tock_lines-places t.1 (lined (seen_behind queue_after is_first_entry queue i.1)) (tocks_say_ticks p i.0))
    ∙ sym (queue-behind (seen_behind queue_after is_first_entry queue i.1) t.1)
    ∙ ap (λ q. lined (seen_behind queue_after is_first_entry q t.1)) (sym (seen_behind-append queue_after is_first_entry [] lines i.1))
    ∙ ap lined (sym (seen_behind-append queue_after is_first_entry [] (lines ++ i.1) t.1))

told-chosen : (p : Image) (script : List (ℤ × Item)) (bound : ℕ) (lines : List Event) (w : World) (name : Who) → Tells p script bound lines w
    → w.ran ≡ Some name → dispatching.head_of w.places ≡ Some name
told-chosen p script bound _ _ name told_first e = absurd (let none : None ≡ Some name = sym (opening-runner p script) ∙ e in cc)
told-chosen p script bound _ _ name (told_on lines w told going) e =
    ap dispatching.head_of (tocks_place_nobody p (instant p w).0) ∙ sym (tock-ran p (instant p w).0) ∙ e

told-head : (p : Image) (script : List (ℤ × Item)) (bound : ℕ) (lines : List Event) (w : World) → Tells p script bound lines w → (name : Who)
    → w.ran ≡ Some name → who_of (head_of (seen_behind queue_after is_first_entry [] lines)) ≡ Some name
told-head p script bound lines w told name e =
    sym (lined-head (seen_behind queue_after is_first_entry [] lines)) ∙ ap dispatching.head_of (sym (told-lined p script bound lines w told))
    ∙ told-chosen p script bound lines w name told e

first_run : (p : Image) (script : List (ℤ × Item)) (bound : ℕ) → OfRun queue_after is_first_entry p script bound []
first_run p script bound = record {
  law = first_enters p;
  acts = λ lines w told name ran over.
      effect-first p w name (seen_behind queue_after is_first_entry [] lines) (told-head p script bound lines w told name ran);
  tocks = tock-event;
  ends = λ queue reason. refl;
}

pub runs_enter_first : RunsEnterFirst
runs_enter_first p script bound =
    lines_hold queue_after is_first_entry [] (run_of p script bound) (run_enters queue_after is_first_entry (first_run p script bound))
