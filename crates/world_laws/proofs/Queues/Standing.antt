-- Which calls stand in the entry queues of a world, which are served by marks, and how they are directed.
use Rattle.std.proofs.Common.{◌≡◌, ℕ, zero, suc, ◌+◌, ◌≤◌, ◌<◌, Bool, true, false, cond, not, ◌&&◌, ◌||◌, ◌⊎◌, inl}
use Rattle.std.proofs.Common.{inr, eqb, length, List, [], ◌∷◌, Option, Some, None, refl, sym, ap, subst, ◌∙◌, arith}
use Rattle.std.specs.Prelude.{is_some, is_none}
use Rattle.std.specs.List.{list_all}
use Rattle.ann_base.specs.declared.identities.CallNo.{CallNo}
use Rattle.ann_base.specs.declared.identities.TaskNo.{TaskNo}
use Rattle.trace_text.specs.declared.events.Who.{Who}
use Rattle.trace_text.specs.declared.events.Who.TheVariants as who
use Rattle.profile_image.specs.declared.image.Image.{Image}
use Rattle.profile_machine.specs.declared.world.World.{World}
use Rattle.profile_machine.specs.declared.world.calls.Call.{Call}
use Rattle.profile_machine.specs.declared.world.calls.Owner.{Owner}
use Rattle.profile_machine.specs.declared.world.calls.Owner.TheVariants as owned_by
use Rattle.profile_machine.specs.declared.world.marks.Frame.{Frame}
use Rattle.profile_machine.specs.declared.world.marks.Mark.{Mark}
use Rattle.profile_machine.specs.declared.world.marks.Mark.TheVariants.{Scope, Handled, InProtected, InAccept, Abortable, InInitialize, InFinalize, InAssign}
use Rattle.profile_machine.specs.declared.world.tasks.Task.{Task}
use Rattle.profile_machine.specs.declared.world.tasks.Waiting.{Waiting}
use Rattle.profile_machine.specs.declared.world.tasks.Waiting.TheVariants as waits_for
use Rattle.profile_image.specs.Words.{same_call, has, is_the}
use Rattle.profile_machine.specs.Tasks.{task_of, waiting_of}
use Rattle.profile_machine.specs.Frames.{frames_of}
use Rattle.profile_machine.specs.Appointments.{is_appointed, is_timeout_of, is_trigger_of}
use Rattle.profile_machine.specs.Values.{queue_at}
use Rattle.profile_machine.specs.Calls.{call_of, queue_of, place_of_entry}
use Rattle.profile_machine.specs.Priorities.{is_queued}
use Rattle.profile_machine.specs.WellFormed.{same_owner}
use Rattle.profile_machine.specs.declared.world.objects.Object.{Object}
use Rattle.profile_machine.specs.Notation.{entry, p, t}
use Rattle.profile_machine.specs.WellFormed.{number_in}
use Rattle.machine_laws.proofs.ListLemmas.{Falls, Rises}

-- ---- in queues

abbrev pub Stands : World → Owner → ℕ → CallNo → Type 0
Stands w o k c = has same_call (queue_of w o k) c ≡ true

-- the call stands in no queue
abbrev pub Out : CallNo → World → Type 0
Out c w = (o : Owner) (k : ℕ) → Stands w o k c → ⊥

-- ---- what a mark is, whatever is edited in it: the call that it serves, the call of its own with which it was entered, and, of
-- an abortable part, the call that triggers it and whether it was triggered

abbrev pub service : Mark → Option CallNo
service (Scope m) = None
service (Handled s) = None
service (InProtected m) = m.serves
service (InAccept m) = Some m.call
service (Abortable m) = None
service (InInitialize l) = None
service (InFinalize o) = None
service (InAssign m) = None

abbrev pub own_in : Mark → Option CallNo
own_in (Scope m) = None
own_in (Handled s) = None
own_in (InProtected m) = m.own_call
own_in (InAccept m) = None
own_in (Abortable m) = None
own_in (InInitialize l) = None
own_in (InFinalize o) = None
own_in (InAssign m) = None

abbrev pub part_of : Mark → Option (Option CallNo × Bool)
part_of (Scope m) = None
part_of (Handled s) = None
part_of (InProtected m) = None
part_of (InAccept m) = None
part_of (Abortable m) = Some (m.call, m.triggered)
part_of (InInitialize l) = None
part_of (InFinalize o) = None
part_of (InAssign m) = None

pub record Nature : Type 0 where
  pub service : Option CallNo
  pub own : Option CallNo
  pub part : Option (Option CallNo × Bool)

abbrev pub nature : Mark → Nature
nature mark = record { service = service mark; own = own_in mark; part = part_of mark }

abbrev pub natures : List Frame → List Nature
natures [] = []
natures (f ∷ fs) = nature f.mark ∷ natures fs

abbrev pub natures_of : World → Who → List Nature
natures_of w name = natures (frames_of w name)

abbrev pub some_nature : (Nature → Bool) → List Nature → Bool
some_nature test [] = false
some_nature test (n ∷ ns) = test n || some_nature test ns

-- ---- calls that may time out

-- an object serves the calls in its queues, and so does a task that is not completed
abbrev pub Open : World → Owner → Type 0
Open w (owned_by.Task t) = (task_of w (who.Task t)).completed ≡ false
Open w (owned_by.Object o) = Unit {0}

-- the call, where it is there, may be cancelled
abbrev pub Unfirm : CallNo → World → Type 0
Unfirm c w = (d : Call) → call_of w c ≡ Some d → d.firm ≡ false

-- the call stands in a queue that is served, and may be cancelled
pub record Awaited (c : CallNo) (w : World) : Type 0 where
  pub owner : Owner
  pub place : ℕ
  pub stands : Stands w owner place c
  pub opens : Open w owner
  pub unfirm : Unfirm c w

-- no call keeps a time-out that it is to lose
abbrev pub none_late : CallNo → Bool
none_late c = false

-- ---- calls that are served

abbrev pub one_if : Bool → ℕ
one_if true = 1
one_if false = 0

abbrev pub served_in : CallNo → List Nature → ℕ
served_in c [] = 0
served_in c (n ∷ ns) = one_if (is_the same_call n.service c) + served_in c ns

-- how often a call is served by somebody
abbrev pub served : CallNo → World → Who → ℕ
served c w name = served_in c (natures_of w name)

-- nobody serves the call
abbrev pub Idle : CallNo → World → Type 0
Idle c w = (name : Who) → served c w name ≡ 0

-- ---- calls with which somebody entered, and triggers that have completed

abbrev pub has_own : CallNo → Nature → Bool
has_own c n = is_the same_call n.own c

abbrev pub ends_part : CallNo → Option (Option CallNo × Bool) → Bool
ends_part c None = false
ends_part c (Some x) = x.1 && is_the same_call x.0 c

abbrev pub ends_by : CallNo → Nature → Bool
ends_by c n = ends_part c n.part

-- the call was made by this one
abbrev pub Own : Who → CallNo → World → Type 0
Own name c w = (c.0 ≤ w.drawn.calls) × ((d : Call) → call_of w c ≡ Some d → who.Task d.caller ≡ name)

-- the call has an outcome, if it is there
abbrev pub Ended : CallNo → World → Type 0
Ended c w = (c.0 ≤ w.drawn.calls) × ((d : Call) → call_of w c ≡ Some d → is_none d.outcome ≡ false)

-- ---- abortable parts that wait for a moment

abbrev pub awaits_part : Option (Option CallNo × Bool) → Bool
awaits_part None = false
awaits_part (Some x) = is_none x.0 && not x.1

-- the mark with so many below it waits for its moment
abbrev pub awaits_at : ℕ → List Nature → Bool
awaits_at depth [] = false
awaits_at depth (n ∷ ns) = cond (eqb (length ns) depth) (awaits_part n.part) (awaits_at depth ns)

abbrev pub is_task : Who → Bool
is_task (who.Task n) = true
is_task who.Agent = false

-- a task that is there, and nobody else, is named as one
abbrev pub is_named : Task → Bool
is_named t = is_task t.who

abbrev pub Waited_in : ℕ → Task → Type 0
Waited_in depth t = (awaits_at depth (natures t.frames) ≡ true) ⊎ (is_named t ≡ false)

-- the task waits for the moment there, or is there no more
abbrev pub Waited : TaskNo → ℕ → World → Type 0
Waited t depth w = Waited_in depth (task_of w (who.Task t))

-- ---- who waits for the end of its trigger

abbrev pub calls_part : CallNo → Option (Option CallNo × Bool) → Bool
calls_part c None = false
calls_part c (Some x) = is_the same_call x.0 c

-- the abortable part of the call is on top, and has come to its end
abbrev pub is_ending : CallNo → List Frame → Bool
is_ending c [] = false
is_ending c (f ∷ fs) = is_none f.onward && calls_part c (part_of f.mark)

abbrev pub waits_end : CallNo → Option Waiting
waits_end c = Some (waits_for.EndOfCall c)

-- somebody waits for the end of no call that is there
unfoldable pub Awake : Who → World → Type 0
Awake name w = (c : CallNo) (d : Call) → waiting_of w name ≡ waits_end c → call_of w c ≡ Some d → ⊥

-- ---- objects fall in number, below the next that is drawn

abbrev pub object_key : Object → ℕ
object_key x = x.number.0

abbrev pub task_number : Task → ℕ
task_number t = number_in t.who

-- and tasks rise
abbrev pub Fall : World → Type 0
Fall w = Falls object_key (suc w.drawn.objects) w.objects × Rises task_number 0 w.drawn.tasks w.tasks

-- ---- which calls may end in a change, of whom no abortable part that waits for a moment comes on top, and which calls stay there

pub record Kind : Type 0 where
  pub may : CallNo → Bool
  pub steady : Who → Bool
  pub stay : CallNo → Bool

abbrev pub quiet_kind : Kind
quiet_kind = record { may = λ c. false; steady = λ a. false; stay = λ c. false }

abbrev pub any_kind : Kind
any_kind = record { may = λ c. true; steady = λ a. false; stay = λ c. false }

abbrev pub top_waits : List Nature → Bool
top_waits [] = false
top_waits (n ∷ ns) = awaits_part n.part

-- ---- what holds between the changes of a run

-- it is queued, and directed there
abbrev pub rightly : Image → Owner → ℕ → Call → Bool
rightly p o k d = is_queued d && same_owner o d.owner && eqb (place_of_entry p d.entry) k

-- but for the time-outs of some calls, which are to be dropped
pub record GoodBut (p : Image) (late : CallNo → Bool) (w : World) : Type 0 where
  -- a number that stands in a queue is that of a call that is there and is queued there
  pub known : (c : CallNo) (d : Call) → call_of w c ≡ Some d → c.0 ≤ w.drawn.calls
  pub within : (o : Owner) (k : ℕ) (c : CallNo) → Stands w o k c → c.0 ≤ w.drawn.calls
  pub there : (o : Owner) (k : ℕ) (c : CallNo) → Stands w o k c → is_some (call_of w c) ≡ true
  pub right : (o : Owner) (k : ℕ) (c : CallNo) (d : Call) → Stands w o k c → call_of w c ≡ Some d → rightly p o k d ≡ true
  pub agent : (k : ℕ) (c : CallNo) → has same_call (queue_at (task_of w who.Agent).queues k) c ≡ true → ⊥
  -- who serves a call serves it alone; it has begun and has no outcome, and no time-out is set for it
  pub serving : (a : Who) (c : CallNo) → 0 < served c w a → c.0 ≤ w.drawn.calls
  pub begun : (a : Who) (c : CallNo) (d : Call) → 0 < served c w a → call_of w c ≡ Some d → (d.begun ≡ true) × (is_none d.outcome ≡ true)
  pub once : (a : Who) (c : CallNo) → served c w a ≤ 1
  pub alone : (a b : Who) (c : CallNo) → 0 < served c w a → 0 < served c w b → a ≡ b
  pub timed : (c : CallNo) → is_appointed (is_timeout_of c) w ≡ true → Idle c w
  -- a time-out is set for a call that may time out
  pub awaited : (c : CallNo) → is_appointed (is_timeout_of c) w ≡ true → Awaited c w ⊎ (late c ≡ true)
  -- objects fall in number; tasks have the names of tasks, which were drawn
  pub objects : Fall w
  pub named : list_all is_named w.tasks ≡ true
  pub present : (t : TaskNo) → is_named (task_of w (who.Task t)) ≡ true → t.0 < w.drawn.tasks
  -- a call of one's own, and a trigger that has completed
  pub owns : (a : Who) (c : CallNo) → some_nature (has_own c) (natures_of w a) ≡ true → Own a c w
  pub ended : (a : Who) (c : CallNo) → some_nature (ends_by c) (natures_of w a) ≡ true → Ended c w
  -- a moment that is set for a trigger is that of an abortable part which waits for it
  pub triggers : (t : TaskNo) (depth : ℕ) → is_appointed (is_trigger_of t depth) w ≡ true → (t.0 < w.drawn.tasks) × Waited t depth w
  -- who waits for the end of a call has come to the end of its abortable part
  pub waits : (a : Who) (c : CallNo) → waiting_of w a ≡ waits_end c → c.0 ≤ w.drawn.calls
  pub ends : (a : Who) (c : CallNo) (d : Call) → waiting_of w a ≡ waits_end c → call_of w c ≡ Some d → is_ending c (frames_of w a) ≡ true

abbrev pub Good : Image → World → Type 0
Good p w = GoodBut p none_late w

-- A call that is there was there before, and is directed as it was. Only of those that may end, begins or ends one; and none that
-- stands in a queue, or is served.
pub record Came (E : Kind) (w v : World) (c : CallNo) (y : Call) : Type 0 where
  pub before : Call
  pub found : call_of w c ≡ Some before
  pub directed : (o : Owner) (k : ℕ) → Stands v o k c → (y.owner ≡ before.owner) × (y.entry ≡ before.entry)
  pub caller : y.caller ≡ before.caller
  pub outcome : is_none before.outcome ≡ false → is_none y.outcome ≡ false
  pub steady : E.may c ≡ false → (y.begun ≡ before.begun) × (y.outcome ≡ before.outcome)
  pub queued : (o : Owner) (k : ℕ) → Stands v o k c → (y.begun ≡ before.begun) × (y.outcome ≡ before.outcome)
  pub served : (a : Who) → 0 < served c v a → (y.begun ≡ before.begun) × (y.outcome ≡ before.outcome)

-- no call is made, none comes into a queue, and none is served that was not
pub record Calm (E : Kind) (w v : World) : Type 0 where
  pub drawn : v.drawn.calls ≡ w.drawn.calls
  pub tasks : w.drawn.tasks ≤ v.drawn.tasks
  pub queues : (o : Owner) (k : ℕ) (c : CallNo) → Stands v o k c → Stands w o k c
  pub there : (o : Owner) (k : ℕ) (c : CallNo) → Stands v o k c → is_some (call_of w c) ≡ true → is_some (call_of v c) ≡ true
  pub agent : (k : ℕ) (c : CallNo) → has same_call (queue_at (task_of v who.Agent).queues k) c ≡ true
      → has same_call (queue_at (task_of w who.Agent).queues k) c ≡ true
  pub calls : (c : CallNo) (y : Call) → call_of v c ≡ Some y → Came E w v c y
  pub fewer : (a : Who) (c : CallNo) → served c v a ≤ served c w a
  pub timed : (c : CallNo) → is_appointed (is_timeout_of c) v ≡ true → (is_appointed (is_timeout_of c) w ≡ true) ⊎ Idle c v
  pub timeouts : Fall w → (c : CallNo) → is_appointed (is_timeout_of c) v ≡ true
      → ((is_appointed (is_timeout_of c) w ≡ true) × (Awaited c w → Awaited c v)) ⊎ Awaited c v
  pub opened : (o : Owner) (k : ℕ) (c : CallNo) → Stands v o k c → Open v o → Open w o
  pub objects : Fall w → Fall v
  pub named : list_all is_named w.tasks ≡ true → list_all is_named v.tasks ≡ true
  pub present : (t : TaskNo) → is_named (task_of v (who.Task t)) ≡ true → (is_named (task_of w (who.Task t)) ≡ true) ⊎ (t.0 < v.drawn.tasks)
  pub owns : (a : Who) (c : CallNo) → some_nature (has_own c) (natures_of v a) ≡ true → (some_nature (has_own c) (natures_of w a) ≡ true) ⊎ Own a c v
  pub ended : (a : Who) (c : CallNo) → some_nature (ends_by c) (natures_of v a) ≡ true → (some_nature (ends_by c) (natures_of w a) ≡ true) ⊎ Ended c v
  pub triggers : (t : TaskNo) (depth : ℕ) → is_appointed (is_trigger_of t depth) v ≡ true
      → ((is_appointed (is_trigger_of t depth) w ≡ true) × (t.0 < w.drawn.tasks → Waited t depth w → Waited t depth v))
      ⊎ ((t.0 < v.drawn.tasks) × Waited t depth v)
  pub ends : (a : Who) (c : CallNo) → waiting_of v a ≡ waits_end c
      → (waiting_of w a ≡ waits_end c) × ((d : Call) → call_of v c ≡ Some d → is_ending c (frames_of w a) ≡ true → is_ending c (frames_of v a) ≡ true)
  pub kept : (c : CallNo) → E.stay c ≡ true → is_some (call_of w c) ≡ true → is_some (call_of v c) ≡ true
  pub tops : (a : Who) → E.steady a ≡ true → top_waits (natures_of w a) ≡ false → top_waits (natures_of v a) ≡ false

-- ---- what calm changes keep

module _ {E : Kind} (w v : World) (calm : Calm E w v) where
  pub calm-owns : (a : Who) (c : CallNo) → Own a c w → Own a c v
  calm-owns a c own = (subst (λ n. c.0 ≤ n) (sym calm.drawn) own.0, λ d e. let x = calm.calls c d e in ap who.Task x.caller ∙ own.1 x.before x.found)

  pub calm-ended : (c : CallNo) → Ended c w → Ended c v
  calm-ended c end = (subst (λ n. c.0 ≤ n) (sym calm.drawn) end.0, λ d e. let x = calm.calls c d e in x.outcome (end.1 x.before x.found))

  -- what is out of every queue, and what nobody serves, stays so
  pub calm-out : (c : CallNo) → Out c w → Out c v
  calm-out c out o k h = out o k (calm.queues o k c h)

  pub calm-idle : (c : CallNo) → Idle c w → Idle c v
  calm-idle c idle a = let few : served c v a ≤ served c w a = calm.fewer a c in let none : served c w a ≡ 0 = idle a in omega (arith, few, none)

  pub calm-awake : (a : Who) → Awake a w → Awake a v
  unfolding Awake
  calm-awake a awake c d is e = let x = calm.calls c d e in awake c x.before (calm.ends a c is).0 x.found

more : {E : Kind} (w v : World) → Calm E w v → (a : Who) (c : CallNo) → 0 < served c v a → 0 < served c w a
more w v calm a c h = let few : served c v a ≤ served c w a = calm.fewer a c in omega (arith, few, h)

-- the ways in which a fact of the world behind has come about
pub either : {A B C : Type 0} → A ⊎ B → (A → C) → (B → C) → C
either (inl a) f g = f a
either (inr b) f g = g b

rightly-same : (p : Image) (o : Owner) (k : ℕ) (x y : Call) → y.owner ≡ x.owner → y.entry ≡ x.entry → y.begun ≡ x.begun → y.outcome ≡ x.outcome
    → rightly p o k x ≡ true → rightly p o k y ≡ true
rightly-same p o k x y owner entry begun outcome h =
    subst (λ b. (not b && is_none y.outcome && same_owner o y.owner && eqb (place_of_entry p y.entry) k) ≡ true) (sym begun)
    (subst (λ r. (not x.begun && is_none r && same_owner o y.owner && eqb (place_of_entry p y.entry) k) ≡ true) (sym outcome)
    (subst (λ q. (not x.begun && is_none x.outcome && same_owner o q && eqb (place_of_entry p y.entry) k) ≡ true) (sym owner)
    (subst (λ e. (not x.begun && is_none x.outcome && same_owner o x.owner && eqb (place_of_entry p e) k) ≡ true) (sym entry) h)))

-- ---- one calm change after another, and what is good before one is good behind it

pub calm-then : {E : Kind} (a b c : World) → Calm E a b → Calm E b c → Calm E a c
calm-then a b c f g = record {
  drawn = g.drawn ∙ f.drawn;
  tasks = let one : a.drawn.tasks ≤ b.drawn.tasks = f.tasks in let two : b.drawn.tasks ≤ c.drawn.tasks = g.tasks in omega (arith, one, two);
  queues = λ o k x h. f.queues o k x (g.queues o k x h);
  there = λ o k x h e. g.there o k x h (f.there o k x (g.queues o k x h) e);
  agent = λ k x h. f.agent k x (g.agent k x h);
  calls = λ x y e.
      let later = g.calls x y e in
      let first = f.calls x later.before later.found in
      record {
        before = first.before;
        found = first.found;
        directed =
            λ o k h. let i = g.queues o k x h in ((later.directed o k h).0 ∙ (first.directed o k i).0, (later.directed o k h).1 ∙ (first.directed o k i).1);
        caller = later.caller ∙ first.caller;
        outcome = λ h. later.outcome (first.outcome h);
        steady = λ h. ((later.steady h).0 ∙ (first.steady h).0, (later.steady h).1 ∙ (first.steady h).1);
        queued = λ o k h. let i = g.queues o k x h in ((later.queued o k h).0 ∙ (first.queued o k i).0, (later.queued o k h).1 ∙ (first.queued o k i).1);
        served = λ n h. let i = more b c g n x h in ((later.served n h).0 ∙ (first.served n i).0, (later.served n h).1 ∙ (first.served n i).1);
      };
  fewer = λ n x. let one : served x b n ≤ served x a n = f.fewer n x in let two : served x c n ≤ served x b n = g.fewer n x in omega (arith, one, two);
  timed = λ x h. either (g.timed x h) (λ i. either (f.timed x i) inl (λ idle. inr (calm-idle b c g x idle))) inr;
  timeouts =
      λ fall x h. either (g.timeouts (f.objects fall) x h)
      (λ later. either (f.timeouts fall x later.0) (λ first. inl (first.0, λ a. later.1 (first.1 a))) (λ a. inr (later.1 a))) inr;
  opened = λ o k x h i. f.opened o k x (g.queues o k x h) (g.opened o k x h i);
  objects = λ h. g.objects (f.objects h);
  named = λ h. g.named (f.named h);
  present =
      λ t h.
      either (g.present t h) (λ i. either (f.present t i) inl (λ low. inr (let two : b.drawn.tasks ≤ c.drawn.tasks = g.tasks in omega (arith, low, two)))) inr;
  owns = λ n x h. either (g.owns n x h) (λ i. either (f.owns n x i) inl (λ own. inr (calm-owns b c g n x own))) inr;
  ended = λ n x h. either (g.ended n x h) (λ i. either (f.ended n x i) inl (λ end. inr (calm-ended b c g x end))) inr;
  triggers = λ t depth h.
      either (g.triggers t depth h)
      (λ later. either (f.triggers t depth later.0)
      (λ first. inl (first.0, λ low waited. later.1 (let one : a.drawn.tasks ≤ b.drawn.tasks = f.tasks in omega (arith, low, one)) (first.1 low waited)))
      (λ made.
      inr (let two : b.drawn.tasks ≤ c.drawn.tasks = g.tasks in let low : t.0 < b.drawn.tasks = made.0 in omega (arith, low, two), later.1 made.0 made.1)))
      inr;
  ends = λ n x h.
      let later = g.ends n x h in
      let first = f.ends n x later.0 in
      (first.0, λ d e i. later.1 d e (let y = g.calls x d e in first.1 y.before y.found i));
  kept = λ x is h. g.kept x is (f.kept x is h);
  tops = λ n is h. g.tops n is (f.tops n is h);
}

pub calm-good : {E : Kind} {late : CallNo → Bool} (p : Image) (w v : World) → GoodBut p late w → Calm E w v → GoodBut p late v
calm-good p w v g calm = record {
  known = λ c d e. let x = calm.calls c d e in subst (λ n. c.0 ≤ n) (sym calm.drawn) (g.known c x.before x.found);
  within = λ o k c h. subst (λ n. c.0 ≤ n) (sym calm.drawn) (g.within o k c (calm.queues o k c h));
  there = λ o k c h. calm.there o k c h (g.there o k c (calm.queues o k c h));
  right =
      λ o k c d h e. let x = calm.calls c d e in
      rightly-same p o k x.before d (x.directed o k h).0 (x.directed o k h).1 (x.queued o k h).0 (x.queued o k h).1
      (g.right o k c x.before (calm.queues o k c h) x.found);
  agent = λ k c h. g.agent k c (calm.agent k c h);
  serving = λ a c h. subst (λ n. c.0 ≤ n) (sym calm.drawn) (g.serving a c (more w v calm a c h));
  begun = λ a c d h e.
      let x = calm.calls c d e in
      let was = g.begun a c x.before (more w v calm a c h) x.found in
      ((x.served a h).0 ∙ was.0, ap is_none (x.served a h).1 ∙ was.1);
  once = λ a c. let few : served c v a ≤ served c w a = calm.fewer a c in let one : served c w a ≤ 1 = g.once a c in omega (arith, few, one);
  alone = λ a b c h i. g.alone a b c (more w v calm a c h) (more w v calm b c i);
  timed = λ c h. either (calm.timed c h) (λ i. calm-idle w v calm c (g.timed c i)) (λ idle. idle);
  awaited = λ c h. either (calm.timeouts g.objects c h) (λ was. either (g.awaited c was.0) (λ a. inl (was.1 a)) inr) inl;
  objects = calm.objects g.objects;
  named = calm.named g.named;
  present =
      λ t h. either (calm.present t h)
      (λ i. let low : t.0 < w.drawn.tasks = g.present t i in let grown : w.drawn.tasks ≤ v.drawn.tasks = calm.tasks in omega (arith, low, grown)) (λ low. low);
  owns = λ a c h. either (calm.owns a c h) (λ i. calm-owns w v calm a c (g.owns a c i)) (λ own. own);
  ended = λ a c h. either (calm.ended a c h) (λ i. calm-ended w v calm c (g.ended a c i)) (λ end. end);
  triggers = λ t depth h.
      either (calm.triggers t depth h)
      (λ first. let set = g.triggers t depth first.0 in
      (let low : t.0 < w.drawn.tasks = set.0 in let grown : w.drawn.tasks ≤ v.drawn.tasks = calm.tasks in omega (arith, low, grown), first.1 set.0 set.1))
      (λ made. made);
  waits = λ a c h. subst (λ n. c.0 ≤ n) (sym calm.drawn) (g.waits a c (calm.ends a c h).0);
  ends = λ a c d h e. let first = calm.ends a c h in let x = calm.calls c d e in first.1 d e (g.ends a c x.before first.0 x.found);
}

-- fewer time-outs are to be dropped
pub fewer-late : {late then_late : CallNo → Bool} (p : Image) (w : World) → GoodBut p late w
    → ((c : CallNo) → is_appointed (is_timeout_of c) w ≡ true → late c ≡ true → then_late c ≡ true) → GoodBut p then_late w
fewer-late p w g fewer = record {
  known = g.known;
  within = g.within;
  there = g.there;
  right = g.right;
  agent = g.agent;
  serving = g.serving;
  begun = g.begun;
  once = g.once;
  alone = g.alone;
  timed = g.timed;
  awaited = λ c h. either (g.awaited c h) inl (λ e. inr (fewer c h e));
  objects = g.objects;
  named = g.named;
  present = g.present;
  owns = g.owns;
  ended = g.ended;
  triggers = g.triggers;
  waits = g.waits;
  ends = g.ends;
}

-- ---- what is known of a call in a good world

rightly-queued : (a b c : Bool) → (a && b && c) ≡ true → a ≡ false → ⊥
rightly-queued true b c e f = cc
rightly-queued false b c e f = cc

-- a call that is queued no more stands in no queue
pub unqueued-out : {late : CallNo → Bool} (p : Image) (w : World) (c : CallNo) (d : Call) → GoodBut p late w → call_of w c ≡ Some d → is_queued d ≡ false
    → Out c w
unqueued-out p w c d g e f o k h = rightly-queued (is_queued d) (same_owner o d.owner) (eqb (place_of_entry p d.entry) k) (g.right o k c d h e) f

positive : (n : ℕ) → (0 < n → ⊥) → n ≡ 0
positive zero h = refl
positive (suc n) h = absurd (h (omega arith))

begun-queued : (a b : Bool) → a ≡ true → (not a && b) ≡ true → ⊥
begun-queued true b e f = cc
begun-queued false b e f = cc

-- a call that is queued is served by nobody
pub queued-idle : {late : CallNo → Bool} (p : Image) (w : World) (c : CallNo) (d : Call) → GoodBut p late w → call_of w c ≡ Some d → is_queued d ≡ true
    → Idle c w
queued-idle p w c d g e f a = positive (served c w a) (λ h. begun-queued d.begun (is_none d.outcome) (g.begun a c d h e).0 f)

-- a number that was not drawn stands in no queue, and nobody serves it
pub fresh-out : {late : CallNo → Bool} (p : Image) (w : World) (c : CallNo) → GoodBut p late w → w.drawn.calls < c.0 → Out c w
fresh-out p w c g h o k s = let low : c.0 ≤ w.drawn.calls = g.within o k c s in omega (arith, low, h)

pub fresh-idle : {late : CallNo → Bool} (p : Image) (w : World) (c : CallNo) → GoodBut p late w → w.drawn.calls < c.0 → Idle c w
fresh-idle p w c g h a = positive (served c w a) (λ s. let low : c.0 ≤ w.drawn.calls = g.serving a c s in omega (arith, low, h))

-- a call that has ended stands in no queue
ended-queued : (a b : Bool) → b ≡ false → (not a && b) ≡ false
ended-queued true b e = refl
ended-queued false b e = e

pub ended-out : {late : CallNo → Bool} (p : Image) (w : World) (c : CallNo) → GoodBut p late w → Ended c w → Out c w
ended-out p w c g end o k h = by_call (call_of w c) refl (g.there o k c h) where
  by_call : (found : Option Call) → call_of w c ≡ found → is_some found ≡ true → ⊥
  by_call None e f = cc
  by_call (Some d) e f = unqueued-out p w c d g e (ended-queued d.begun (is_none d.outcome) (end.1 d e)) o k h
