-- Edits of somebody that are calm: of what is no queue, mark or state, of a state, and of marks.
use Rattle.std.proofs.Common.{◌≡◌, ℕ, suc, ◌+◌, ◌≤◌, ◌<◌, Bool, true, false, cond, ◌||◌, ◌⊎◌, inl}
use Rattle.std.proofs.Common.{inr, eqb, length, List, [], ◌∷◌, Some, refl, sym, ap, subst, ◌∙◌, arith}
use Rattle.std.proofs.lemmas.Bool.{eqb-true, or_cases, or_right, true≢false}
use Rattle.ann_base.specs.declared.identities.CallNo.{CallNo}
use Rattle.ann_base.specs.declared.identities.TaskNo.{TaskNo}
use Rattle.trace_text.specs.declared.events.Who.{Who}
use Rattle.world_tables.specs.Lists.{rest_of}
use Rattle.trace_text.specs.declared.events.Who.TheVariants as who
use Rattle.profile_machine.specs.declared.world.World.{World}
use Rattle.profile_machine.specs.declared.world.calls.Call.{Call}
use Rattle.profile_machine.specs.declared.world.marks.Frame.{Frame}
use Rattle.profile_machine.specs.declared.world.tasks.State.{State}
use Rattle.profile_machine.specs.declared.world.tasks.Task.{Task}
use Rattle.profile_image.specs.Words.{same_call, has, is_the}
use Rattle.profile_machine.specs.Tasks.{task_of, edit_task, waiting_in, with_state, with_frames}
use Rattle.profile_machine.specs.Frames.{frames_of}
use Rattle.profile_machine.specs.Appointments.{is_appointed, is_trigger_of}
use Rattle.profile_machine.specs.Calls.{call_of}
use Rattle.profile_machine.specs.Values.{queue_at}
use Rattle.world_laws.proofs.Queues.Calming.{Softens, edit_task-calm}
use Rattle.world_laws.proofs.Queues.Standing.{Awake, Calm, Kind, Nature, Own, awaits_at, awaits_part, ends_by, has_own}
use Rattle.world_laws.proofs.Queues.Standing.{is_ending, nature, natures, one_if, served_in, some_nature, top_waits, waits_end}

-- ---- neither marks nor state

pub softens-plain : {E : Kind} {late : CallNo → Bool} (me : Who) (w : World) (t u : Task) → u.who ≡ t.who → u.frames ≡ t.frames → u.state ≡ t.state
    → ((k : ℕ) (c : CallNo) → has same_call (queue_at u.queues k) c ≡ true → has same_call (queue_at t.queues k) c ≡ true)
    → ((k : ℕ) (c : CallNo) → has same_call (queue_at t.queues k) c ≡ true → (has same_call (queue_at u.queues k) c ≡ true) ⊎ (late c ≡ true))
    → u.completed ≡ t.completed → Softens E late me w t u
softens-plain me w t u named frames state queues stays completed = record {
  named = named;
  queues = queues;
  stays = stays;
  completed = completed;
  fewer = λ c. subst (λ fs. served_in c (natures fs) ≤ served_in c (natures t.frames)) (sym frames) (omega arith);
  owns = λ c h. inl (subst (λ fs. some_nature (has_own c) (natures fs) ≡ true) frames h);
  ended = λ c h. inl (subst (λ fs. some_nature (ends_by c) (natures fs) ≡ true) frames h);
  awaits = λ n depth is set h. subst (λ fs. awaits_at depth (natures fs) ≡ true) (sym frames) h;
  ends = λ c h. (ap waiting_in (sym state) ∙ h, λ d e i. subst (λ fs. is_ending c fs ≡ true) (sym frames) i);
  tops = λ is h. subst (λ fs. top_waits (natures fs) ≡ false) (sym frames) h;
}

pub plain-calm : {E : Kind} (name : Who) (f : Task → Task) (w : World) → ((t : Task) → (f t).who ≡ t.who) → ((t : Task) → (f t).frames ≡ t.frames)
    → ((t : Task) → (f t).state ≡ t.state) → ((t : Task) → (f t).queues ≡ t.queues) → ((t : Task) → (f t).completed ≡ t.completed)
    → Calm E w (edit_task name f w)
plain-calm name f w named frames state queues completed =
    let t = task_of w name in
    edit_task-calm name f w named
    (softens-plain name w t (f t) (named t) (frames t) (state t) (λ k c h. subst (λ qs. has same_call (queue_at qs k) c ≡ true) (queues t) h)
    (λ k c h. inl (subst (λ qs. has same_call (queue_at qs k) c ≡ true) (sym (queues t)) h)) (completed t))

-- ---- a state in which nobody waits for the end of a call

pub state-calm : {E : Kind} (name : Who) (state : State) (w : World) → ((c : CallNo) → waiting_in state ≡ waits_end c → ⊥)
    → Calm E w (edit_task name (with_state state) w)
state-calm name state w none =
    edit_task-calm name (with_state state) w (λ t. refl)
    record {
      named = refl;
      queues = λ k c h. h;
      stays = λ k c h. inl h;
      completed = refl;
      fewer = λ c. omega arith;
      owns = λ c h. inl h;
      ended = λ c h. inl h;
      awaits = λ n depth is set h. h;
      ends = λ c h. absurd (none c h);
      tops = λ is h. h;
    }

-- ---- marks: of the same natures, where the one that has come to its end is still on top and at its end

pub marks-calm : {E : Kind} (name : Who) (f : List Frame → List Frame) (w : World) → ((fs : List Frame) → natures (f fs) ≡ natures fs)
    → ((c : CallNo) (fs : List Frame) → is_ending c fs ≡ true → is_ending c (f fs) ≡ true) → Calm E w (edit_task name (λ t. with_frames (f t.frames) t) w)
marks-calm name f w same ending =
    let fs = frames_of w name in
    edit_task-calm name (λ t. with_frames (f t.frames) t) w (λ t. refl)
    record {
      named = refl;
      queues = λ k c h. h;
      stays = λ k c h. inl h;
      completed = refl;
      fewer = λ c. subst (λ ns. served_in c ns ≤ served_in c (natures fs)) (sym (same fs)) (omega arith);
      owns = λ c h. inl (subst (λ ns. some_nature (has_own c) ns ≡ true) (same fs) h);
      ended = λ c h. inl (subst (λ ns. some_nature (ends_by c) ns ≡ true) (same fs) h);
      awaits = λ n depth is set h. subst (λ ns. awaits_at depth ns ≡ true) (sym (same fs)) h;
      ends = λ c h. (h, λ d e i. ending c fs i);
      tops = λ is h. subst (λ ns. top_waits ns ≡ false) (sym (same fs)) h;
    }

-- the same of who is awake, whatever is on top
pub awake-calm : {E : Kind} (name : Who) (f : List Frame → List Frame) (w : World) → ((fs : List Frame) → natures (f fs) ≡ natures fs) → Awake name w
    → Calm E w (edit_task name (λ t. with_frames (f t.frames) t) w)
unfolding Awake
awake-calm name f w same awake =
    let fs = frames_of w name in
    edit_task-calm name (λ t. with_frames (f t.frames) t) w (λ t. refl)
    record {
      named = refl;
      queues = λ k c h. h;
      stays = λ k c h. inl h;
      completed = refl;
      fewer = λ c. subst (λ ns. served_in c ns ≤ served_in c (natures fs)) (sym (same fs)) (omega arith);
      owns = λ c h. inl (subst (λ ns. some_nature (has_own c) ns ≡ true) (same fs) h);
      ended = λ c h. inl (subst (λ ns. some_nature (ends_by c) ns ≡ true) (same fs) h);
      awaits = λ n depth is set h. subst (λ ns. awaits_at depth ns ≡ true) (sym (same fs)) h;
      ends = λ c h. (h, λ d e i. absurd (awake c d h e));
      tops = λ is h. subst (λ ns. top_waits ns ≡ false) (sym (same fs)) h;
    }

-- ---- a mark is opened: it serves no call, and is not triggered

none-before : (b : Bool) (n : ℕ) → b ≡ false → one_if b + n ≤ n
none-before true n e = cc
none-before false n e = omega arith

-- what waits has so many marks above it
at-below : (depth : ℕ) (ns : List Nature) → awaits_at depth ns ≡ true → depth < length ns
at-below depth [] h = cc
at-below depth (n ∷ ns) h = step (eqb (length ns) depth) refl (λ k. at-below depth ns k) h where
  step : (b : Bool) → eqb (length ns) depth ≡ b → (awaits_at depth ns ≡ true → depth < length ns) → cond b (awaits_part n.part) (awaits_at depth ns) ≡ true
      → depth < suc (length ns)
  step true e onward k = let same : length ns ≡ depth = eqb-true (length ns) depth e in omega (arith, same)
  step false e onward k = let low : depth < length ns = onward k in omega (arith, low)

not-same : (b : Bool) (m n : ℕ) → eqb m n ≡ b → n < m → b ≡ false
not-same true m n e h = let same : m ≡ n = eqb-true m n e in absurd (omega (arith, h, same))
not-same false m n e h = refl

pub awaits-more : (depth : ℕ) (n : Nature) (ns : List Nature) → awaits_at depth ns ≡ true → awaits_at depth (n ∷ ns) ≡ true
awaits-more depth n ns h =
    ap (λ b. cond b (awaits_part n.part) (awaits_at depth ns)) (not-same (eqb (length ns) depth) (length ns) depth refl (at-below depth ns h)) ∙ h

pub record Opens (E : Kind) (name : Who) (w : World) (n : Nature) : Type 0 where
  pub serves : (c : CallNo) → is_the same_call n.service c ≡ false
  pub own : (c : CallNo) → has_own c n ≡ true → Own name c w
  pub begun : (c : CallNo) → ends_by c n ≡ false
  pub tops : E.steady name ≡ true → awaits_part n.part ≡ false

pub push-calm : {E : Kind} (name : Who) (f : Frame) (w : World) → Opens E name w (nature f.mark) → Awake name w
    → Calm E w (edit_task name (λ t. with_frames (f ∷ t.frames) t) w)
unfolding Awake
push-calm name f w opens awake =
    let fs = frames_of w name in
    edit_task-calm name (λ t. with_frames (f ∷ t.frames) t) w (λ t. refl)
    record {
      named = refl;
      queues = λ k c h. h;
      stays = λ k c h. inl h;
      completed = refl;
      fewer = λ c. none-before (is_the same_call (nature f.mark).service c) (served_in c (natures fs)) (opens.serves c);
      owns = λ c h. own_or c (or_cases (has_own c (nature f.mark)) (some_nature (has_own c) (natures fs)) h);
      ended = λ c h. inl (rest-true (ends_by c (nature f.mark)) (some_nature (ends_by c) (natures fs)) (opens.begun c) h);
      awaits = λ n depth is set h. awaits-more depth (nature f.mark) (natures fs) h;
      ends = λ c h. (h, λ d e i. absurd (awake c d h e));
      tops = λ is h. opens.tops is;
    } where
      own_or : (c : CallNo) → (has_own c (nature f.mark) ≡ true) ⊎ (some_nature (has_own c) (natures (frames_of w name)) ≡ true)
          → (some_nature (has_own c) (natures (frames_of w name)) ≡ true) ⊎ Own name c w
      own_or c (inl h) = inr (opens.own c h)
      own_or c (inr h) = inl h

      rest-true : (a b : Bool) → a ≡ false → (a || b) ≡ true → b ≡ true
      rest-true true b e h = cc
      rest-true false b e h = h

-- ---- the mark on top ends

fewer-below : (b : Bool) (n : ℕ) → n ≤ one_if b + n
fewer-below true n = omega arith
fewer-below false n = omega arith

pub natures-length : (fs : List Frame) → length (natures fs) ≡ length fs
natures-length [] = refl
natures-length (f ∷ fs) = ap suc (natures-length fs)

-- no moment is set for the mark on top
abbrev pub Unset : Who → World → List Frame → Type 0
Unset name w [] = Unit {0}
Unset name w (f ∷ fs) = (n : TaskNo) → name ≡ who.Task n → is_appointed (is_trigger_of n (length fs)) w ≡ true → awaits_part (nature f.mark).part ≡ true → ⊥

served-below : (c : CallNo) (fs : List Frame) → served_in c (natures (rest_of fs)) ≤ served_in c (natures fs)
served-below c [] = omega arith
served-below c (f ∷ fs) = fewer-below (is_the same_call (nature f.mark).service c) (served_in c (natures fs))

some-below : (test : Nature → Bool) (fs : List Frame) → some_nature test (natures (rest_of fs)) ≡ true → some_nature test (natures fs) ≡ true
some-below test [] h = h
some-below test (f ∷ fs) h = or_right (test (nature f.mark)) (some_nature test (natures fs)) h

awaits-below : (name : Who) (w : World) (n : TaskNo) (depth : ℕ) (fs : List Frame) → Unset name w fs → name ≡ who.Task n
    → is_appointed (is_trigger_of n depth) w ≡ true → awaits_at depth (natures fs) ≡ true → awaits_at depth (natures (rest_of fs)) ≡ true
awaits-below name w n depth [] unset is set h = h
awaits-below name w n depth (f ∷ fs) unset is set h = step (eqb (length (natures fs)) depth) refl h where
  step : (b : Bool) → eqb (length (natures fs)) depth ≡ b → cond b (awaits_part (nature f.mark).part) (awaits_at depth (natures fs)) ≡ true
      → awaits_at depth (natures fs) ≡ true
  step true e k =
      let same : length fs ≡ depth = sym (natures-length fs) ∙ eqb-true (length (natures fs)) depth e in
      absurd (unset n is (subst (λ d. is_appointed (is_trigger_of n d) w ≡ true) (sym same) set) k)
  step false e k = k

pub pop-calm : {E : Kind} (name : Who) (w : World) → E.steady name ≡ false → Unset name w (frames_of w name)
    → ((c : CallNo) (d : Call) → waiting_in (task_of w name).state ≡ waits_end c → call_of w c ≡ Some d → is_ending c (frames_of w name) ≡ true → ⊥)
    → Calm E w (edit_task name (λ t. with_frames (rest_of t.frames) t) w)
pop-calm name w free unset none =
    let fs = frames_of w name in
    edit_task-calm name (λ t. with_frames (rest_of t.frames) t) w (λ t. refl)
    record {
      named = refl;
      queues = λ k c h. h;
      stays = λ k c h. inl h;
      completed = refl;
      fewer = λ c. served-below c fs;
      owns = λ c h. inl (some-below (has_own c) fs h);
      ended = λ c h. inl (some-below (ends_by c) fs h);
      awaits = λ n depth is set h. awaits-below name w n depth fs unset is set h;
      ends = λ c h. (h, λ d e i. absurd (none c d h e i));
      tops = λ is h. absurd (true≢false (sym is ∙ free));
    }
