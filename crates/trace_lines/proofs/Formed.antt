-- Whether a formed list stays formed with one line more shows in the facts that are kept.
use Rattle.std.proofs.Common.{◌≡◌, ℕ, Bool, true, false, not, ◌&&◌, ◌||◌, eqb, leb, List, [], ◌∷◌, ◌++◌, refl, ap, sym, ◌∙◌, inl, inr}
use Rattle.std.specs.Map.{keys_of}
use Rattle.std.proofs.lemmas.Bool.Decides.{eqb_tells}
use Rattle.std.proofs.lemmas.Bool.{and_parts}
use Rattle.trace_text.specs.declared.lines.TheConstants.{LAST_TICK}
use Rattle.trace_text.specs.declared.events.Who.{Who}
use Rattle.trace_text.specs.declared.events.Who.TheVariants as subject
use Rattle.trace_text.specs.declared.events.Created.TheVariants as created
use Rattle.trace_text.specs.declared.events.Event.{Event}
use Rattle.trace_text.specs.declared.events.Event.TheVariants.{New, Ready, Block, Run, Idle, Base, Deadline, Quantum, Done, Raise, Put, Call}
use Rattle.trace_text.specs.declared.events.Event.TheVariants.{Start, Finish, Cancel, Gone, Enter, Exit, Held, Abort, Trigger, Leave, Init, Final}
use Rattle.trace_text.specs.declared.events.Event.TheVariants.{Left, Replace, Release, Serve, Served, Interrupt, Port, Mask, Unmask, Masked, End}
use Rattle.trace_text.specs.Queue.{TraceLine, seen_from, last_from, follows_lines, queue_after}
use Rattle.trace_text.specs.Laws.{Shape, no_shape, see_shape, has, is_known, is_ready_formed, is_subject_formed, is_formed_next, follows_order, follows_form}
use Rattle.trace_lines.specs.Seen.{Seen, nothing_kept, see_line, seen_after, seen_of, with_line, shape_of, is_formed_after, kept_bases}
use Rattle.trace_lines.proofs.Facts.{tick_kept}
use Rattle.trace_lines.proofs.LevelLookups.{has-insert_entry}

-- two shapes from which the same lines go on
pub record Same (s t : Shape) : Type 0 where
  pub queue : s.queue ≡ t.queue
  pub tasks : (number : ℕ) → has number s.tasks ≡ has number t.tasks
  pub objects : (number : ℕ) → has number s.objects ≡ has number t.objects
  pub is_ended : s.is_ended ≡ t.is_ended

known_same : (s t : Shape) → Same s t → (who : Who) → is_known s who ≡ is_known t who
known_same s t h (subject.Task task) = h.tasks task.0
known_same s t h subject.Agent = refl

formed_same : (s t : Shape) → Same s t → (event : Event) → is_subject_formed s event ≡ is_subject_formed t event
formed_same s t h (New (created.Task task) name level) = ap not (h.tasks task.0)
formed_same s t h (New (created.Object object) name level) = ap not (h.objects object.0)
formed_same s t h (Ready who level end deadline) = ap (λ b. b && is_ready_formed who deadline) (known_same s t h who)
formed_same s t h (Block who why) = known_same s t h who
formed_same s t h (Run who) = known_same s t h who
formed_same s t h Idle = refl
formed_same s t h (Base task level) = h.tasks task.0
formed_same s t h (Deadline task deadline) = h.tasks task.0
formed_same s t h (Quantum task) = h.tasks task.0
formed_same s t h (Done task) = h.tasks task.0
formed_same s t h (Raise who name) = known_same s t h who
formed_same s t h (Put who text) = known_same s t h who
formed_same s t h (Call task call entry priority) = h.tasks task.0
formed_same s t h (Start who call) = known_same s t h who
formed_same s t h (Finish who call how) = known_same s t h who
formed_same s t h (Cancel task call) = h.tasks task.0
formed_same s t h (Gone task call) = h.tasks task.0
formed_same s t h (Enter who object m) = rw (known_same s t h who, h.objects object.0, h.queue) refl
formed_same s t h (Exit who object) = rw (known_same s t h who, h.objects object.0) refl
formed_same s t h (Held who object m) = rw (known_same s t h who, h.objects object.0) refl
formed_same s t h (Abort task victim) = h.tasks task.0
formed_same s t h (Trigger task) = h.tasks task.0
formed_same s t h (Leave who region how) = known_same s t h who
formed_same s t h (Init who object region name) = known_same s t h who
formed_same s t h (Final who object) = known_same s t h who
formed_same s t h (Left who region) = known_same s t h who
formed_same s t h (Replace who object) = known_same s t h who
formed_same s t h (Release release object handler) = refl
formed_same s t h (Serve release) = refl
formed_same s t h (Served release) = refl
formed_same s t h (Interrupt number) = refl
formed_same s t h (Port number value) = refl
formed_same s t h (Mask number) = refl
formed_same s t h (Unmask number) = refl
formed_same s t h (Masked number) = refl
formed_same s t h (End why) = refl

next_same : (s t : Shape) → Same s t → (event : Event) → is_formed_next s event ≡ is_formed_next t event
next_same s t h event = rw (h.is_ended, formed_same s t h event) refl

set_here : (number key : ℕ) (levels : List (ℕ × ℕ)) → has key (keys_of levels) ≡ true
    → (eqb number key || has number (keys_of levels)) ≡ has number (keys_of levels)
set_here number key levels h = elim (eqb_tells number key) [
  | inl here ↦ rw (here.0, ap (λ n. has n (keys_of levels)) here.1, h) refl
  | inr apart ↦ rw apart.0 refl
]

-- a base that is set again changes no name
set_again : (number key level : ℕ) (levels : List (ℕ × ℕ)) → has key (keys_of levels) ≡ true
    → has number (keys_of (kept_bases levels (Base (record { 0 = key }) level))) ≡ has number (keys_of levels)
set_again number key level levels h = has-insert_entry number levels key level ∙ set_here number key levels h

stays_same : (s : Shape) (seen : Seen) (tick : ℕ) (event : Event) → Same s (shape_of seen) → is_subject_formed s event ≡ true
    → Same (see_shape s event) (shape_of (see_line seen (tick, event)))
stays_same s seen tick (New (created.Task task) name level) h formed = record {
  queue = h.queue;
  tasks = λ number. ap (λ b. eqb number task.0 || b) (h.tasks number) ∙ sym (has-insert_entry number seen.bases task.0 level);
  objects = h.objects;
  is_ended = h.is_ended;
}
stays_same s seen tick (New (created.Object object) name level) h formed = record {
  queue = h.queue;
  tasks = h.tasks;
  objects = λ number. ap (λ b. eqb number object.0 || b) (h.objects number) ∙ sym (has-insert_entry number seen.ceilings object.0 level);
  is_ended = h.is_ended;
}
stays_same s seen tick (Base task level) h formed = record {
  queue = h.queue;
  tasks = λ number. h.tasks number ∙ sym (set_again number task.0 level seen.bases (sym (h.tasks task.0) ∙ formed));
  objects = h.objects;
  is_ended = h.is_ended;
}
stays_same s seen tick (End why) h formed = record { queue = h.queue; tasks = h.tasks; objects = h.objects; is_ended = refl }
stays_same s seen tick event h formed = record { queue = ap (λ q. queue_after q event) h.queue; tasks = h.tasks; objects = h.objects; is_ended = h.is_ended }

and_true : (a : Bool) → (a && true) ≡ a
and_true true = refl
and_true false = refl

and_and : (a b c : Bool) → (a && (b && c)) ≡ ((a && b) && c)
and_and true b c = refl
and_and false b c = refl

pub same_kept : (s : Shape) (seen : Seen) (lines : List TraceLine) → Same s (shape_of seen) → follows_lines see_shape is_formed_next s lines ≡ true
    → Same (seen_from see_shape s lines) (shape_of (seen_after seen lines))
same_kept s seen [] h e = h
same_kept s seen (line ∷ lines) h e =
    let parts = and_parts (is_formed_next s line.1) (follows_lines see_shape is_formed_next (see_shape s line.1) lines) e in
    same_kept (see_shape s line.1) (see_line seen line) lines
    (stays_same s seen line.0 line.1 h (and_parts (not s.is_ended) (is_subject_formed s line.1) parts.0).1) parts.1

pub follows_lines-append : {S : Type 0} (see : S → Event → S) (lawful : S → Event → Bool) (s : S) (lines : List TraceLine) (line : TraceLine)
    → follows_lines see lawful s (lines ++ line ∷ []) ≡ (follows_lines see lawful s lines && lawful (seen_from see s lines) line.1)
follows_lines-append see lawful s [] line = and_true (lawful s line.1)
follows_lines-append see lawful s (first ∷ lines) line =
    ap (λ b. lawful s first.1 && b) (follows_lines-append see lawful (see s first.1) lines line)
    ∙ and_and (lawful s first.1) (follows_lines see lawful (see s first.1) lines) (lawful (seen_from see (see s first.1) lines) line.1)

pub follows_order-append : (tick : ℕ) (lines : List TraceLine) (line : TraceLine)
    → follows_order tick (lines ++ line ∷ []) ≡ (follows_order tick lines && (leb (last_from tick lines) line.0 && leb line.0 LAST_TICK))
follows_order-append tick [] line = and_true (leb tick line.0 && leb line.0 LAST_TICK)
follows_order-append tick (first ∷ lines) line =
    ap (λ b. leb tick first.0 && leb first.0 LAST_TICK && b) (follows_order-append first.0 lines line)
    ∙ and_and (leb tick first.0 && leb first.0 LAST_TICK) (follows_order first.0 lines) (leb (last_from first.0 lines) line.0 && leb line.0 LAST_TICK)

nothing_same : Same no_shape (shape_of nothing_kept)
nothing_same = record { queue = refl; tasks = λ number. refl; objects = λ number. refl; is_ended = refl }

pub form_shows : (lines : List TraceLine) (tick : ℕ) (event : Event) → follows_form lines ≡ true
    → is_formed_after (seen_of lines) tick event ≡ follows_form (with_line lines tick event)
form_shows lines tick event e =
    let parts = and_parts (follows_order 0 lines) (follows_lines see_shape is_formed_next no_shape lines) e in
    let order : follows_order 0 (with_line lines tick event) ≡ (leb (last_from 0 lines) tick && leb tick LAST_TICK) =
    follows_order-append 0 lines (tick, event) ∙ ap (λ b. b && (leb (last_from 0 lines) tick && leb tick LAST_TICK)) parts.0 in
    let shapes : follows_lines see_shape is_formed_next no_shape (with_line lines tick event) ≡ is_formed_next (seen_from see_shape no_shape lines) event =
    follows_lines-append see_shape is_formed_next no_shape lines (tick, event)
    ∙ ap (λ b. b && is_formed_next (seen_from see_shape no_shape lines) event) parts.1 in
    let next : is_formed_next (seen_from see_shape no_shape lines) event ≡ is_formed_next (shape_of (seen_of lines)) event =
    next_same (seen_from see_shape no_shape lines) (shape_of (seen_of lines)) (same_kept no_shape nothing_kept lines nothing_same parts.1) event in
    rw (tick_kept nothing_kept lines, order, shapes, next) refl
