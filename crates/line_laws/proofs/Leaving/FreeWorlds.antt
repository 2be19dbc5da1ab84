-- What every world keeps of its marks: what is being left does not go on, above it stands only what lets nothing below go on, and
-- who waits for a meeting is free; and a call of its own is its own.
use Rattle.std.proofs.Common.{◌≡◌, ℕ, ◌≤◌, Bool, true, false, cond, List, [], ◌∷◌, ◌++◌, Option, Some, None, is_some, refl, sym, ap, subst, ◌∙◌}
use Rattle.std.specs.Prelude.{find, filter, unwrap_or}
use Rattle.ann_base.specs.declared.identities.CallNo.{CallNo}
use Rattle.trace_text.specs.declared.events.Who.{Who}
use Rattle.trace_text.specs.declared.events.Who.TheVariants as who
use Rattle.profile_machine.specs.declared.world.World.{World}
use Rattle.profile_machine.specs.declared.world.calls.Call.{Call}
use Rattle.profile_machine.specs.declared.world.tasks.Task.{Task}
use Rattle.profile_machine.specs.declared.world.tasks.State.{State}
use Rattle.profile_machine.specs.declared.world.marks.Frame.{Frame}
use Rattle.profile_machine.specs.declared.world.marks.Mark.{Mark}
use Rattle.profile_image.specs.declared.numbers.StatementNo.{StatementNo}
use Rattle.profile_image.specs.Words.{set_where}
use Rattle.world_tables.specs.Lists.{first_of, rest_of}
use Rattle.profile_machine.specs.Tasks.{task_at, task_of, edit_task_found, edit_task, is_who, waiting_in, nobody}
use Rattle.profile_machine.specs.Frames.{edit_first, goes_on}
use Rattle.profile_machine.specs.Calls.{is_call}
use Rattle.line_laws.proofs.Leaving.FineMoves.{Alike, nature, is_special, own_call_of, top_leaving, waits, MakesCalls}
use Rattle.line_laws.proofs.Leaving.TaskLemmas.{found-holds, who_path}
use Rattle.machine_laws.proofs.FinestMoves.{being_left_in}

-- ---- one task

abbrev pub Below : Mark → List Frame → Type 0
Below mark [] = Unit {0}
Below mark (g ∷ gs) = is_special mark ≡ false → being_left_in g.mark ≡ false

abbrev pub Sound : List Frame → Type 0
Sound [] = Unit {0}
Sound (f ∷ fs) = (being_left_in f.mark ≡ true → is_some f.onward ≡ false) × Below f.mark fs × Sound fs

abbrev pub CallerIn : List Call → ℕ → CallNo → Who → Type 0
CallerIn calls drawn c name = (c.0 ≤ drawn) × ((d : Call) → find (is_call c) calls ≡ Some d → who.Task d.caller ≡ name) × MakesCalls name

abbrev pub OwnCalls : List Call → ℕ → Who → List Frame → Type 0
OwnCalls calls drawn name [] = Unit {0}
OwnCalls calls drawn name (f ∷ fs) = ((c : CallNo) → own_call_of f.mark ≡ Some c → CallerIn calls drawn c name) × OwnCalls calls drawn name fs

abbrev pub waits_as : Who → State → Bool
waits_as (who.Task n) state = waits (waiting_in state)
waits_as who.Agent state = false

pub record Good (calls : List Call) (drawn : ℕ) (name : Who) (frames : List Frame) (state : State) : Type 0 where
  pub sound : Sound frames
  pub free : waits_as name state ≡ true → top_leaving (first_of frames) ≡ false
  pub own : OwnCalls calls drawn name frames

-- ---- all of them

abbrev pub AllGood : List Call → ℕ → List Task → Type 0
AllGood calls drawn [] = Unit {0}
AllGood calls drawn (t ∷ ts) = Good calls drawn t.who t.frames t.state × AllGood calls drawn ts

abbrev pub GoodTasks : List Call → ℕ → List Task → Task → Type 0
GoodTasks calls drawn tasks agent = AllGood calls drawn tasks × Good calls drawn who.Agent agent.frames agent.state

abbrev pub Inv : World → Type 0
Inv w = GoodTasks w.calls w.drawn.calls w.tasks w.agent

good-found : (calls : List Call) (drawn : ℕ) (test : Task → Bool) (ts : List Task) (t : Task) → AllGood calls drawn ts → find test ts ≡ Some t
    → Good calls drawn t.who t.frames t.state
good-found calls drawn test [] t h e = absurd cc
good-found calls drawn test (z ∷ zs) t h e = step (test z) h.0 e (λ k. good-found calls drawn test zs t h.1 k) where
  step : (b : Bool) → Good calls drawn z.who z.frames z.state → cond b (Some z) (find test zs) ≡ Some t
      → (find test zs ≡ Some t → Good calls drawn t.who t.frames t.state) → Good calls drawn t.who t.frames t.state
  step true g e k = let same : z ≡ t = cc in subst (λ (x : Task). Good calls drawn x.who x.frames x.state) same g
  step false g e k = k e

good-set : (calls : List Call) (drawn : ℕ) (test : Task → Bool) (u : Task) (ts : List Task) → Good calls drawn u.who u.frames u.state → AllGood calls drawn ts
    → AllGood calls drawn (set_where test u ts)
good-set calls drawn test u [] g h = tt
good-set calls drawn test u (z ∷ zs) g h = step (test z) (good-set calls drawn test u zs g h.1) where
  step : (b : Bool) → AllGood calls drawn (set_where test u zs) → AllGood calls drawn (cond b (u ∷ zs) (z ∷ set_where test u zs))
  step true k = (g, h.1)
  step false k = (h.0, k)

-- of somebody who is there
pub good-of : (name : Who) (w : World) (t : Task) → Inv w → task_at w name ≡ Some t → Good w.calls w.drawn.calls name t.frames t.state
good-of who.Agent w t h e = let same : w.agent ≡ t = cc in subst (λ (x : Task). Good w.calls w.drawn.calls who.Agent x.frames x.state) same h.1
good-of (who.Task n) w t h e =
    let named : who.Task n ≡ t.who = who_path (who.Task n) t.who (found-holds (is_who (who.Task n)) w.tasks t e) in
    subst (λ k. Good w.calls w.drawn.calls k t.frames t.state) (sym named) (good-found w.calls w.drawn.calls (is_who (who.Task n)) w.tasks t h.0 e)

-- or of nobody
pub good-nobody : (calls : List Call) (drawn : ℕ) (name : Who) → Good calls drawn name [] nobody.state
good-nobody calls drawn (who.Task n) = record { sound = tt; free = λ e. absurd cc; own = tt }
good-nobody calls drawn who.Agent = record { sound = tt; free = λ e. absurd cc; own = tt }

good-option : (name : Who) (w : World) (found : Option Task) → Inv w → task_at w name ≡ found →
    let t = unwrap_or found nobody in
    Good w.calls w.drawn.calls name t.frames t.state
good-option name w None h e = good-nobody w.calls w.drawn.calls name
good-option name w (Some t) h e = good-of name w t h e

pub good-task : (name : Who) (w : World) → Inv w → let t = task_of w name in Good w.calls w.drawn.calls name t.frames t.state
good-task name w h = good-option name w (task_at w name) h refl

-- an edit of somebody who is good before
edited-found : (name : Who) (f : Task → Task) (w : World) (found : Option Task) → task_at w name ≡ found → ((t : Task) → (f t).who ≡ t.who)
    → ((t : Task) → task_of w name ≡ t → Good w.calls w.drawn.calls name t.frames t.state → Good w.calls w.drawn.calls name (f t).frames (f t).state) → Inv w
    → Inv (edit_task_found name f w found)
edited-found name f w None e same k h = h
edited-found who.Agent f w (Some t) e same k h = (h.0, k t (ap (λ o. unwrap_or o nobody) e) (good-of who.Agent w t h e))
edited-found (who.Task n) f w (Some t) e same k h =
    let named : who.Task n ≡ t.who = who_path (who.Task n) t.who (found-holds (is_who (who.Task n)) w.tasks t e) in
    let made = k t (ap (λ o. unwrap_or o nobody) e) (good-of (who.Task n) w t h e) in (
      good-set w.calls w.drawn.calls (is_who (who.Task n)) (f t) w.tasks
          (subst (λ m. Good w.calls w.drawn.calls m (f t).frames (f t).state) (named ∙ sym (same t)) made) h.0,
      h.1,
    )

pub edited-inv : (name : Who) (f : Task → Task) (w : World) → ((t : Task) → (f t).who ≡ t.who)
    → ((t : Task) → task_of w name ≡ t → Good w.calls w.drawn.calls name t.frames t.state → Good w.calls w.drawn.calls name (f t).frames (f t).state) → Inv w
    → Inv (edit_task name f w)
edited-inv name f w same k h = edited-found name f w (task_at w name) refl same k h

pub good-same : (calls : List Call) (drawn : ℕ) (name : Who) (frames more : List Frame) (state next : State) → more ≡ frames → next ≡ state
    → Good calls drawn name frames state → Good calls drawn name more next
good-same calls drawn name frames more state next a b h =
    subst (λ fs. Good calls drawn name fs next) (sym a) (subst (λ s. Good calls drawn name frames s) (sym b) h)

-- ---- marks that are edited

alike-below : (mark other : Mark) (gs fs : List Frame) → nature other ≡ nature mark → Alike gs fs → Below mark fs → Below other gs
alike-below mark other [] [] e a h = tt
alike-below mark other [] (f ∷ fs) e a h = absurd a
alike-below mark other (g ∷ gs) [] e a h = absurd a
alike-below mark other (g ∷ gs) (f ∷ fs) e a h = λ plain. ap (λ n. n.leaving) a.0 ∙ h (sym (ap (λ n. n.special) e) ∙ plain)

pub alike-sound : (gs fs : List Frame) → Alike gs fs → Sound fs → Sound gs
alike-sound [] [] a h = tt
alike-sound [] (f ∷ fs) a h = absurd a
alike-sound (g ∷ gs) [] a h = absurd a
alike-sound (g ∷ gs) (f ∷ fs) a h = (
  (λ e. a.1 (h.0 (sym (ap (λ n. n.leaving) a.0) ∙ e))),
  alike-below f.mark g.mark gs fs a.0 a.2 h.1,
  alike-sound gs fs a.2 h.2,
)

pub alike-top : (gs fs : List Frame) → Alike gs fs → top_leaving (first_of gs) ≡ top_leaving (first_of fs)
alike-top [] [] a = refl
alike-top [] (f ∷ fs) a = absurd a
alike-top (g ∷ gs) [] a = absurd a
alike-top (g ∷ gs) (f ∷ fs) a = ap (λ n. n.leaving) a.0

pub alike-own : (calls : List Call) (drawn : ℕ) (name : Who) (gs fs : List Frame) → Alike gs fs → OwnCalls calls drawn name fs → OwnCalls calls drawn name gs
alike-own calls drawn name [] [] a h = tt
alike-own calls drawn name [] (f ∷ fs) a h = absurd a
alike-own calls drawn name (g ∷ gs) [] a h = absurd a
alike-own calls drawn name (g ∷ gs) (f ∷ fs) a h = ((λ c e. h.0 c (sym (ap (λ n. n.own_call) a.0) ∙ e)), alike-own calls drawn name gs fs a.2 h.1)

pub alike-good : (calls : List Call) (drawn : ℕ) (name : Who) (gs fs : List Frame) (state : State) → Alike gs fs → Good calls drawn name fs state
    → Good calls drawn name gs state
alike-good calls drawn name gs fs state a h = record {
  sound = alike-sound gs fs a h.sound;
  free = λ e. alike-top gs fs a ∙ h.free e;
  own = alike-own calls drawn name gs fs a h.own;
}

-- who is free goes on
gone-sound : (onward : Option StatementNo) (fs : List Frame) → top_leaving (first_of fs) ≡ false → Sound fs → Sound (edit_first (goes_on onward) fs)
gone-sound onward [] free h = tt
gone-sound onward (f ∷ fs) free h = ((λ e. absurd (let never : true ≡ false = sym e ∙ free in cc)), h.1, h.2)

pub gone-top : (onward : Option StatementNo) (fs : List Frame) → top_leaving (first_of (edit_first (goes_on onward) fs)) ≡ top_leaving (first_of fs)
gone-top onward [] = refl
gone-top onward (f ∷ fs) = refl

gone-own : (calls : List Call) (drawn : ℕ) (name : Who) (onward : Option StatementNo) (fs : List Frame) → OwnCalls calls drawn name fs
    → OwnCalls calls drawn name (edit_first (goes_on onward) fs)
gone-own calls drawn name onward [] h = tt
gone-own calls drawn name onward (f ∷ fs) h = h

pub gone-good : (calls : List Call) (drawn : ℕ) (name : Who) (onward : Option StatementNo) (fs : List Frame) (state : State) → top_leaving (first_of fs) ≡ false
    → Good calls drawn name fs state → Good calls drawn name (edit_first (goes_on onward) fs) state
gone-good calls drawn name onward fs state free h = record {
  sound = gone-sound onward fs free h.sound;
  free = λ e. gone-top onward fs ∙ free;
  own = gone-own calls drawn name onward fs h.own;
}

-- a mark is opened above what is free, or is special
below-free : (mark : Mark) (fs : List Frame) → top_leaving (first_of fs) ≡ false → Below mark fs
below-free mark [] free = tt
below-free mark (g ∷ gs) free = λ e. free

below-special : (mark : Mark) (fs : List Frame) → is_special mark ≡ true → Below mark fs
below-special mark [] special = tt
below-special mark (g ∷ gs) special = λ e. absurd (let never : true ≡ false = sym special ∙ e in cc)

abbrev pub Opens : List Call → ℕ → Who → Frame → List Frame → Type 0
Opens calls drawn name f fs = Below f.mark fs × (being_left_in f.mark ≡ false) × ((c : CallNo) → own_call_of f.mark ≡ Some c → CallerIn calls drawn c name)

pub opened-good : (calls : List Call) (drawn : ℕ) (name : Who) (f : Frame) (fs : List Frame) (state : State) → Opens calls drawn name f fs
    → Good calls drawn name fs state → Good calls drawn name (f ∷ fs) state
opened-good calls drawn name f fs state o h = record {
  sound = ((λ e. absurd (let never : true ≡ false = sym e ∙ o.1 in cc)), o.0, h.sound);
  free = λ e. o.1;
  own = (o.2, h.own);
}

pub free-opens : (mark : Mark) (fs : List Frame) → top_leaving (first_of fs) ≡ false → Below mark fs
free-opens mark fs free = below-free mark fs free

pub special-opens : (mark : Mark) (fs : List Frame) → is_special mark ≡ true → Below mark fs
special-opens mark fs special = below-special mark fs special

-- a mark ends, of who does not wait
pub popped-good : (calls : List Call) (drawn : ℕ) (name : Who) (fs : List Frame) (state : State) → waits_as name state ≡ false → Good calls drawn name fs state
    → Good calls drawn name (rest_of fs) state
popped-good calls drawn name [] state awake h = h
popped-good calls drawn name (f ∷ fs) state awake h = record {
  sound = h.sound.2;
  free = λ e. absurd (let never : true ≡ false = sym e ∙ awake in cc);
  own = h.own.1;
}

pub below-top : (f : Frame) (fs : List Frame) → is_special f.mark ≡ false → Sound (f ∷ fs) → top_leaving (first_of fs) ≡ false
below-top f [] plain h = refl
below-top f (g ∷ gs) plain h = h.1 plain

-- what is being left has nothing to go on with
pub going-free : (f : Frame) (fs : List Frame) (s : StatementNo) → f.onward ≡ Some s → Sound (f ∷ fs) → being_left_in f.mark ≡ false
going-free f fs s e h = by (being_left_in f.mark) refl where
  by : (b : Bool) → being_left_in f.mark ≡ b → b ≡ false
  by false is = refl
  by true is =
      absurd
      (let none : is_some f.onward ≡ false = h.0 is in let some : is_some f.onward ≡ true = ap is_some e in let never : true ≡ false = sym some ∙ none in cc)

-- who waits, or does not
pub state-good : (calls : List Call) (drawn : ℕ) (name : Who) (fs : List Frame) (state next : State)
    → (waits_as name next ≡ true → top_leaving (first_of fs) ≡ false) → Good calls drawn name fs state → Good calls drawn name fs next
state-good calls drawn name fs state next k h = record { sound = h.sound; free = k; own = h.own }

-- ---- calls

own-calls : (calls more : List Call) (drawn later : ℕ) (name : Who) (fs : List Frame)
    → ((c : CallNo) → CallerIn calls drawn c name → CallerIn more later c name) → OwnCalls calls drawn name fs → OwnCalls more later name fs
own-calls calls more drawn later name [] k h = tt
own-calls calls more drawn later name (f ∷ fs) k h = ((λ c e. k c (h.0 c e)), own-calls calls more drawn later name fs k h.1)

good-calls : (calls more : List Call) (drawn later : ℕ) (name : Who) (fs : List Frame) (state : State)
    → ((c : CallNo) → CallerIn calls drawn c name → CallerIn more later c name) → Good calls drawn name fs state → Good more later name fs state
good-calls calls more drawn later name fs state k h = record { sound = h.sound; free = h.free; own = own-calls calls more drawn later name fs k h.own }

all-calls : (calls more : List Call) (drawn later : ℕ) (ts : List Task) → ((name : Who) (c : CallNo) → CallerIn calls drawn c name → CallerIn more later c name)
    → AllGood calls drawn ts → AllGood more later ts
all-calls calls more drawn later [] k h = tt
all-calls calls more drawn later (t ∷ ts) k h = (
  good-calls calls more drawn later t.who t.frames t.state (k t.who) h.0,
  all-calls calls more drawn later ts k h.1,
)

pub calls-inv : (calls more : List Call) (drawn later : ℕ) (tasks : List Task) (agent : Task)
    → ((name : Who) (c : CallNo) → CallerIn calls drawn c name → CallerIn more later c name) → GoodTasks calls drawn tasks agent
    → GoodTasks more later tasks agent
calls-inv calls more drawn later tasks agent k h = (
  all-calls calls more drawn later tasks k h.0,
  good-calls calls more drawn later who.Agent agent.frames agent.state (k who.Agent) h.1,
)

-- ---- tasks that are new or gone

pub added-good : (calls : List Call) (drawn : ℕ) (t : Task) (ts : List Task) → Good calls drawn t.who t.frames t.state → AllGood calls drawn ts
    → AllGood calls drawn (ts ++ t ∷ [])
added-good calls drawn t [] g h = (g, tt)
added-good calls drawn t (z ∷ zs) g h = (h.0, added-good calls drawn t zs g h.1)

pub filtered-good : (calls : List Call) (drawn : ℕ) (test : Task → Bool) (ts : List Task) → AllGood calls drawn ts → AllGood calls drawn (filter test ts)
filtered-good calls drawn test [] h = tt
filtered-good calls drawn test (z ∷ zs) h = step (test z) (filtered-good calls drawn test zs h.1) where
  step : (b : Bool) → AllGood calls drawn (filter test zs) → AllGood calls drawn (cond b (z ∷ filter test zs) (filter test zs))
  step true k = (h.0, k)
  step false k = k
