-- Whether the agent is in the ready queues, of the world and of what lines show: the last of its `ready` and `block` lines tells.
use Rattle.std.proofs.Common.{◌≡◌, Bool, true, false, cond, not, ◌||◌, List, [], ◌∷◌, ◌++◌, Option, Some, refl, sym, ap, ◌∙◌}
use Rattle.std.specs.Prelude.{is_some}
use Rattle.ann_base.specs.declared.identities.TaskNo.{TaskNo}
use Rattle.trace_text.specs.declared.events.Entry.{Entry}
use Rattle.trace_text.specs.declared.events.Event.{Event}
use Rattle.trace_text.specs.declared.events.Event.TheVariants as line
use Rattle.trace_text.specs.declared.events.QueueEnd.{QueueEnd}
use Rattle.trace_text.specs.declared.events.QueueEnd.TheVariants.{Head, Tail}
use Rattle.trace_text.specs.declared.events.Who.{Who}
use Rattle.trace_text.specs.declared.events.Who.TheVariants as who
use Rattle.trace_text.specs.Queue as shown
use Rattle.trace_text.specs.Queue.{who_eq, entry_of, queue_after}
use Rattle.profile_machine.specs.declared.world.tasks.Placed.{Placed}
use Rattle.profile_image.specs.Words.{same_who}
use Rattle.profile_machine.specs.Steps.{is_above, put_at_tail, put_at_head, put_at, take_out, places_after, places_after_all}
use Rattle.profile_machine.specs.Dispatching.{head_of}
use Rattle.machine_laws.specs.LineKinds.{is_of_tock, AllAre}
use Rattle.line_laws.proofs.Handlers.AgentLines.{placed_after, placed_behind, or-swap}

abbrev pub is_agent : Who → Bool
is_agent (who.Task n) = false
is_agent who.Agent = true

-- ---- in the world

abbrev pub placed_in : List Placed → Bool
placed_in [] = false
placed_in (x ∷ xs) = is_agent x.who || placed_in xs

put-test : (x y : Placed) (xs put : List Placed) (test : Bool) → placed_in put ≡ (is_agent x.who || placed_in xs)
    → placed_in (cond test (x ∷ y ∷ xs) (y ∷ put)) ≡ (is_agent x.who || placed_in (y ∷ xs))
put-test x y xs put true e = refl
put-test x y xs put false e = ap (λ q. is_agent y.who || q) e ∙ or-swap (is_agent y.who) (is_agent x.who) (placed_in xs)

tail-placed : (x : Placed) (xs : List Placed) → placed_in (put_at_tail x xs) ≡ (is_agent x.who || placed_in xs)
tail-placed x [] = refl
tail-placed x (y ∷ xs) = put-test x y xs (put_at_tail x xs) (is_above x y) (tail-placed x xs)

head-test : (x y : Placed) (xs put : List Placed) (test : Bool) → placed_in put ≡ (is_agent x.who || placed_in xs)
    → placed_in (cond test (y ∷ put) (x ∷ y ∷ xs)) ≡ (is_agent x.who || placed_in (y ∷ xs))
head-test x y xs put true e = ap (λ q. is_agent y.who || q) e ∙ or-swap (is_agent y.who) (is_agent x.who) (placed_in xs)
head-test x y xs put false e = refl

head-placed : (x : Placed) (xs : List Placed) → placed_in (put_at_head x xs) ≡ (is_agent x.who || placed_in xs)
head-placed x [] = refl
head-placed x (y ∷ xs) = head-test x y xs (put_at_head x xs) (is_above y x) (head-placed x xs)

put-placed : (end : QueueEnd) (x : Placed) (xs : List Placed) → placed_in (put_at end x xs) ≡ (is_agent x.who || placed_in xs)
put-placed Tail x xs = tail-placed x xs
put-placed Head x xs = head-placed x xs

agent-out-test : (x : Placed) (name : Who) (ys : List Placed) → x.who ≡ name → placed_in ys ≡ false
    → placed_in (cond (not (same_who who.Agent x.who)) (x ∷ ys) ys) ≡ false
agent-out-test x who.Agent ys is e = ap (λ q. placed_in (cond (not (same_who who.Agent q)) (x ∷ ys) ys)) is ∙ e
agent-out-test x (who.Task n) ys is e = ap (λ q. placed_in (cond (not (same_who who.Agent q)) (x ∷ ys) ys)) is ∙ ap (λ q. is_agent q || placed_in ys) is ∙ e

agent-out : (xs : List Placed) → placed_in (take_out who.Agent xs) ≡ false
agent-out [] = refl
agent-out (x ∷ xs) = agent-out-test x x.who (take_out who.Agent xs) refl (agent-out xs)

kept-placed : (b : Bool) (x : Placed) (ys : List Placed) → is_agent x.who ≡ false → placed_in (cond b (x ∷ ys) ys) ≡ placed_in ys
kept-placed true x ys e = ap (λ q. q || placed_in ys) e
kept-placed false x ys e = refl

task-out-test : (t : TaskNo) (x : Placed) (name : Who) (ys xs : List Placed) → x.who ≡ name → placed_in ys ≡ placed_in xs
    → placed_in (cond (not (same_who (who.Task t) x.who)) (x ∷ ys) ys) ≡ (is_agent x.who || placed_in xs)
task-out-test t x who.Agent ys xs is e = ap (λ q. placed_in (cond (not (same_who (who.Task t) q)) (x ∷ ys) ys)) is ∙ ap (λ q. is_agent x.who || q) e
task-out-test t x (who.Task n) ys xs is e =
    kept-placed (not (same_who (who.Task t) x.who)) x ys (ap is_agent is) ∙ e ∙ sym (ap (λ q. is_agent q || placed_in xs) is)

task-out : (t : TaskNo) (xs : List Placed) → placed_in (take_out (who.Task t) xs) ≡ placed_in xs
task-out t [] = refl
task-out t (x ∷ xs) = task-out-test t x x.who (take_out (who.Task t) xs) xs refl (task-out t xs)

places-after : (event : Event) (places : List Placed) → placed_in (places_after event places) ≡ placed_after (placed_in places) event
places-after (line.Ready who.Agent level end deadline) places =
    put-placed end (record { who = who.Agent; level = level; deadline = deadline }) (take_out who.Agent places)
places-after (line.Ready (who.Task t) level end deadline) places =
    put-placed end (record { who = who.Task t; level = level; deadline = deadline }) (take_out (who.Task t) places) ∙ task-out t places
places-after (line.Block who.Agent why) places = agent-out places
places-after (line.Block (who.Task t) why) places = task-out t places
places-after (line.Done t) places = task-out t places
places-after _ places = refl

pub places-behind : (lines : List Event) (places : List Placed) → placed_in (places_after_all lines places) ≡ placed_behind (placed_in places) lines
places-behind [] places = refl
places-behind (x ∷ xs) places = places-behind xs (places_after x places) ∙ ap (λ q. placed_behind q xs) (places-after x places)

-- who is chosen is placed
pub chosen-placed : (places : List Placed) → head_of places ≡ Some who.Agent → placed_in places ≡ true
chosen-placed [] e = cc
chosen-placed (x ∷ xs) e = ap (λ q. is_agent q || placed_in xs) (let is : x.who ≡ who.Agent = cc in is)

-- ---- in what lines show

present : List Entry → Bool
present [] = false
present (e ∷ queue) = is_agent e.who || present queue

found-test : (e : Entry) (name : Who) (rest : Option Entry) (b : Bool) → e.who ≡ name → is_some rest ≡ b
    → is_some (cond (who_eq who.Agent e.who) (Some e) rest) ≡ (is_agent e.who || b)
found-test e who.Agent rest b is k = ap (λ q. is_some (cond (who_eq who.Agent q) (Some e) rest)) is ∙ sym (ap (λ q. is_agent q || b) is)
found-test e (who.Task n) rest b is k = ap (λ q. is_some (cond (who_eq who.Agent q) (Some e) rest)) is ∙ k ∙ sym (ap (λ q. is_agent q || b) is)

entry-present : (queue : List Entry) → is_some (entry_of who.Agent queue) ≡ present queue
unfolding present
entry-present [] = refl
entry-present (e ∷ queue) = found-test e e.who (entry_of who.Agent queue) (present queue) refl (entry-present queue)

agent-gone-test : (e : Entry) (name : Who) (rest : List Entry) → e.who ≡ name → present rest ≡ false
    → present (cond (who_eq who.Agent e.who) rest (e ∷ rest)) ≡ false
unfolding present
agent-gone-test e who.Agent rest is k = ap (λ q. present (cond (who_eq who.Agent q) rest (e ∷ rest))) is ∙ k
agent-gone-test e (who.Task n) rest is k = ap (λ q. present (cond (who_eq who.Agent q) rest (e ∷ rest))) is ∙ ap (λ q. is_agent q || present rest) is ∙ k

agent-gone : (queue : List Entry) → present (shown.without who.Agent queue) ≡ false
unfolding present
agent-gone [] = refl
agent-gone (e ∷ queue) = agent-gone-test e e.who (shown.without who.Agent queue) refl (agent-gone queue)

kept-present : (b : Bool) (e : Entry) (rest : List Entry) → is_agent e.who ≡ false → present (cond b rest (e ∷ rest)) ≡ present rest
unfolding present
kept-present true e rest k = refl
kept-present false e rest k = ap (λ q. q || present rest) k

task-gone-test : (t : TaskNo) (e : Entry) (name : Who) (rest queue : List Entry) → e.who ≡ name → present rest ≡ present queue
    → present (cond (who_eq (who.Task t) e.who) rest (e ∷ rest)) ≡ (is_agent e.who || present queue)
unfolding present
task-gone-test t e who.Agent rest queue is k = ap (λ q. present (cond (who_eq (who.Task t) q) rest (e ∷ rest))) is ∙ ap (λ q. is_agent e.who || q) k
task-gone-test t e (who.Task n) rest queue is k =
    kept-present (who_eq (who.Task t) e.who) e rest (ap is_agent is) ∙ k ∙ sym (ap (λ q. is_agent q || present queue) is)

task-gone : (t : TaskNo) (queue : List Entry) → present (shown.without (who.Task t) queue) ≡ present queue
unfolding present
task-gone t [] = refl
task-gone t (e ∷ queue) = task-gone-test t e e.who (shown.without (who.Task t) queue) queue refl (task-gone t queue)

present-behind : (queue : List Entry) (e : Entry) → present (queue ++ e ∷ []) ≡ (is_agent e.who || present queue)
unfolding present
present-behind [] e = refl
present-behind (x ∷ queue) e = ap (λ q. is_agent x.who || q) (present-behind queue e) ∙ or-swap (is_agent x.who) (is_agent e.who) (present queue)

put-present : (end : QueueEnd) (e : Entry) (queue : List Entry) → present (shown.placed end e queue) ≡ (is_agent e.who || present (shown.without e.who queue))
unfolding present
put-present Head e queue = refl
put-present Tail e queue = present-behind (shown.without e.who queue) e

present-after : (event : Event) (queue : List Entry) → present (queue_after queue event) ≡ placed_after (present queue) event
present-after (line.Ready who.Agent level end deadline) queue = put-present end (record { who = who.Agent; level = level; deadline = deadline }) queue
present-after (line.Ready (who.Task t) level end deadline) queue =
    put-present end (record { who = who.Task t; level = level; deadline = deadline }) queue ∙ task-gone t queue
present-after (line.Block who.Agent why) queue = agent-gone queue
present-after (line.Block (who.Task t) why) queue = task-gone t queue
present-after (line.Done t) queue = task-gone t queue
present-after _ queue = refl

abbrev pub queue_behind : List Entry → List Event → List Entry
queue_behind queue [] = queue
queue_behind queue (x ∷ xs) = queue_behind (queue_after queue x) xs

present-all : (lines : List Event) (queue : List Entry) → present (queue_behind queue lines) ≡ placed_behind (present queue) lines
present-all [] queue = refl
present-all (x ∷ xs) queue = present-all xs (queue_after queue x) ∙ ap (λ q. placed_behind q xs) (present-after x queue)

pub seen-behind : (lines : List Event) (queue : List Entry)
    → is_some (entry_of who.Agent (queue_behind queue lines)) ≡ placed_behind (is_some (entry_of who.Agent queue)) lines
seen-behind lines queue =
    entry-present (queue_behind queue lines) ∙ present-all lines queue ∙ ap (λ q. placed_behind q lines) (sym (entry-present queue))

-- lines of a tock leave it
tock_line : (placed : Bool) (event : Event) → is_of_tock event ≡ true → placed_after placed event ≡ placed
tock_line placed (line.Ready name level end deadline) e = cc
tock_line placed (line.Block name why) e = cc
tock_line placed _ e = refl

pub tock_lines : (placed : Bool) (lines : List Event) → AllAre is_of_tock lines → placed_behind placed lines ≡ placed
tock_lines placed [] a = refl
tock_lines placed (x ∷ xs) a = ap (λ q. placed_behind q xs) (tock_line placed x a.0) ∙ tock_lines placed xs a.1
