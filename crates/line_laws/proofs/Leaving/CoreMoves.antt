-- What an action does step by step: it tells of regions what it does to them, and keeps what every world keeps of its marks; whom it
-- lets wait for a meeting it takes out of the ready queues; and nobody who is free gets a mark on top that is being left.
use Rattle.std.proofs.Common.{◌≡◌, Bool, true, false, cond, ◌&&◌, List, [], ◌∷◌, ◌++◌, Option, Some, None, option_and_then, refl, sym, ap, subst, ◌∙◌}
use Rattle.std.proofs.lemmas.Bool.{and_right}
use Rattle.ann_base.specs.declared.identities.CallNo.{CallNo}
use Rattle.ann_base.specs.declared.identities.RegionNo.{RegionNo}
use Rattle.ann_base.specs.declared.identities.TaskNo.{TaskNo}
use Rattle.trace_text.specs.declared.events.QueueEnd.TheVariants.{Tail}
use Rattle.trace_text.specs.declared.events.Who.{Who}
use Rattle.trace_text.specs.declared.events.Who.TheVariants as who
use Rattle.profile_image.specs.declared.image.Image.{Image}
use Rattle.profile_image.specs.declared.numbers.StatementNo.{StatementNo}
use Rattle.profile_machine.specs.declared.world.World.{World}
use Rattle.profile_machine.specs.declared.world.tasks.Task.{Task}
use Rattle.profile_machine.specs.declared.world.tasks.State.{State}
use Rattle.profile_machine.specs.declared.world.tasks.State.TheVariants.{Runnable, Blocked}
use Rattle.profile_machine.specs.declared.world.tasks.Waiting.{Waiting}
use Rattle.profile_machine.specs.declared.world.tasks.Waiting.TheVariants as waits_for
use Rattle.profile_machine.specs.declared.world.marks.Frame.{Frame}
use Rattle.profile_machine.specs.declared.world.lines.Line.{Line}
use Rattle.profile_machine.specs.declared.world.lines.Line.TheVariants as said
use Rattle.profile_machine.specs.declared.world.lines.Part.{Part}
use Rattle.profile_machine.specs.declared.world.lines.Said.{Said}
use Rattle.profile_image.specs.Words.{same_who}
use Rattle.world_tables.specs.Lists.{first_of, rest_of}
use Rattle.profile_machine.specs.Tasks.{task_at, task_of, edit_task_found, edit_task, with_state, with_frames, waiting_in, waiting_of}
use Rattle.profile_machine.specs.Dispatching.{keep_level, without_kept_level, level_kept_by, granted}
use Rattle.profile_machine.specs.Frames.{top_of, push, pop, edit_first, goes_on}
use Rattle.profile_image.specs.Program.{edf_low}
use Rattle.profile_machine.specs.Masters.{region_of_mark, waits_at_terminate}
use Rattle.profile_machine.specs.Controlled.{top_region, region_or_none}
use Rattle.line_laws.proofs.Leaving.FineMoves.{Alike, Free, Awake, waits, waiting_now, Caller, is_special, own_call_of}
use Rattle.line_laws.proofs.Leaving.FineMoves.{top_leaving, ready_world, blocked_world, block_line, is_apart, AreQuiet}
use Rattle.line_laws.proofs.Leaving.TaskLemmas.{of_edited, of_own, of_other, of_self, who_path, free-edited}
use Rattle.line_laws.proofs.Leaving.FreeWorlds.{Inv, Good, Sound, waits_as, Below, CallerIn, good-of, good-task, edited-inv, good-same, alike-good, alike-top}
use Rattle.line_laws.proofs.Leaving.FreeWorlds.{gone-good, gone-top, opened-good, free-opens, special-opens, popped-good, below-top, going-free, state-good}
use Rattle.line_laws.proofs.Leaving.PlacingLines.{is_last_part, readies, taken, taken_from, taken_from-append}
use Rattle.line_laws.proofs.Leaving.PlacingLines.{still-taken, more-taken, Quiet, Early, Quiet-append, Early-append}
use Rattle.line_laws.proofs.Leaving.RegionLines.{Told, NotLeaving, leaving}
use Rattle.line_laws.proofs.Leaving.RegionTies.{Tied, topped, top-alone}
use Rattle.line_laws.proofs.Leaving.Telling.{Tells, then-tells, moved}
use Rattle.line_laws.proofs.Leaving.Kept.Dispatching.{ready-awake, granted-who, granted-state}
use Rattle.machine_laws.proofs.FinestMoves.{being_left_in}
use Rattle.machine_laws.proofs.FineMoves.{ready_line, gone_on}
use Rattle.machine_laws.proofs.QueueLemmas.{by_test}

-- ---- what is said of who waits

abbrev pub state_in : World → TaskNo → State
state_in w t = (task_of w (who.Task t)).state

-- a task that waits for a meeting and is not taken out waited as it does, and was not placed, unless it acts
abbrev pub Claim : (Who → Bool) → Bool → TaskNo → World → List Said → World → Type 0
Claim acts loose t w xs v =
    waits (waiting_in (state_in v t)) ≡ true → taken (who.Task t) xs ≡ false
    → ((loose && acts (who.Task t)) ≡ true → waits_at_terminate (waiting_in (state_in v t)) ≡ false)
    → (state_in v t ≡ state_in w t) × Early (who.Task t) xs × (acts (who.Task t) ≡ false → Quiet (who.Task t) xs)

pub claim-same : (acts : Who → Bool) (loose : Bool) (t : TaskNo) (w v : World) → state_in v t ≡ state_in w t → Claim acts loose t w [] v
claim-same acts loose t w v e a b c = (e, tt, λ k. tt)

-- of a task that does not wait behind it
pub claim-awake : (acts : Who → Bool) (loose : Bool) (t : TaskNo) (w : World) (xs : List Said) (v : World) → waits (waiting_in (state_in v t)) ≡ false
    → Claim acts loose t w xs v
claim-awake acts loose t w xs v e a b c = absurd (let never : true ≡ false = sym a ∙ e in cc)

pub claim-then : (acts : Who → Bool) (loose : Bool) (t : TaskNo) (a b c : World) (xs ys : List Said) → Claim acts loose t a xs b → Claim acts loose t b ys c
    → Claim acts loose t a (xs ++ ys) c
claim-then acts loose t a b c xs ys p q waiting out silent =
    let n = who.Task t in
    let whole : taken_from n (taken n xs) ys ≡ false = sym (taken_from-append n false xs ys) ∙ out in
    let later : taken n ys ≡ false = by_test (taken n ys)
    (λ e. absurd (let again : taken_from n (taken n xs) ys ≡ true = from_either (taken n xs) e (more-taken n ys e) in
    let never : true ≡ false = sym again ∙ whole in cc))
    (λ f. f) in
    let second = q waiting later silent in
    let before : taken n xs ≡ false = by_test (taken n xs)
    (λ e. absurd (let again : taken_from n (taken n xs) ys ≡ true = ap (λ k. taken_from n k ys) e ∙ still-taken n ys second.1 in
    let never : true ≡ false = sym again ∙ whole in cc))
    (λ f. f) in
    let first =
    p (ap (λ s. waits (waiting_in s)) (sym second.0) ∙ waiting) before (λ e. ap (λ s. waits_at_terminate (waiting_in s)) (sym second.0) ∙ silent e) in
    (second.0 ∙ first.0, Early-append n xs ys first.1 second.1, λ k. Quiet-append n xs ys (first.2 k) (second.2 k)) where
      from_either : (k : Bool) → taken_from (who.Task t) false ys ≡ true → taken_from (who.Task t) true ys ≡ true → taken_from (who.Task t) k ys ≡ true
      from_either true e f = f
      from_either false e f = e

-- lines that place nobody
pub apart-readies : (n : Who) (line : Line) → is_apart line ≡ false → readies n line ≡ false
apart-readies n (said.Ready name level end deadline) e = absurd cc
apart-readies n _ e = refl

pub quiet-early : (n : Who) (xs : List Said) → Quiet n xs → Early n xs
quiet-early n [] h = tt
quiet-early n (x ∷ xs) h = (and_right (is_last_part x.part) (readies n x.line) h.0, quiet-early n xs h.1)

pub quiet-lines : (n : Who) (xs : List Said) → AreQuiet xs → Quiet n xs
quiet-lines n [] h = tt
quiet-lines n (x ∷ xs) h = (apart-readies n x.line h.0, quiet-lines n xs h.1)

pub claim-quiet : (acts : Who → Bool) (loose : Bool) (t : TaskNo) (w : World) (xs : List Said) (v : World) → state_in v t ≡ state_in w t → Quiet (who.Task t) xs
    → Claim acts loose t w xs v
claim-quiet acts loose t w xs v e quiet a b c = (e, quiet-early (who.Task t) xs quiet, λ k. quiet)

-- ---- what is kept

pub record Base (acts : Who → Bool) (loose : Bool) (w : World) (xs : List Said) (v : World) : Type 0 where
  pub tells : Tells NotLeaving w xs v
  pub called : (name : Who) (c : CallNo) → Caller c name w → Caller c name v
  pub claims : (t : TaskNo) → Claim acts loose t w xs v
  pub inv : Inv v

pub record Core (acts : Who → Bool) (loose : Bool) (w : World) (xs : List Said) (v : World) : Type 0 where
  pub base : Base acts loose w xs v
  pub free : (n : Who) → Free n w → Free n v

pub base-then : (acts : Who → Bool) (loose : Bool) (a b c : World) (xs ys : List Said) → Base acts loose a xs b → Base acts loose b ys c
    → Base acts loose a (xs ++ ys) c
base-then acts loose a b c xs ys p q = record {
  tells = then-tells NotLeaving a b c xs ys p.tells q.tells;
  called = λ name k h. q.called name k (p.called name k h);
  claims = λ t. claim-then acts loose t a b c xs ys (p.claims t) (q.claims t);
  inv = q.inv;
}

pub core-then : (acts : Who → Bool) (loose : Bool) (a b c : World) (xs ys : List Said) → Core acts loose a xs b → Core acts loose b ys c
    → Core acts loose a (xs ++ ys) c
core-then acts loose a b c xs ys p q = record { base = base-then acts loose a b c xs ys p.base q.base; free = λ n h. q.free n (p.free n h) }

-- ---- edits of tasks

edit_found-calls : (name : Who) (f : Task → Task) (w : World) (found : Option Task)
    → ((edit_task_found name f w found).calls ≡ w.calls) × ((edit_task_found name f w found).drawn ≡ w.drawn)
edit_found-calls name f w None = (refl, refl)
edit_found-calls (who.Task n) f w (Some t) = (refl, refl)
edit_found-calls who.Agent f w (Some t) = (refl, refl)

pub edited-called : (name : Who) (f : Task → Task) (w : World) (n : Who) (c : CallNo) → Caller c n w → Caller c n (edit_task name f w)
edited-called name f w n c h =
    let same = edit_found-calls name f w (task_at w name) in
    let v = edit_task name f w in
    subst (λ cs. CallerIn cs v.drawn.calls c n) (sym same.0) (subst (λ d. CallerIn w.calls d.calls c n) (sym same.1) h)

pub edited-state : (name : Who) (f : Task → Task) (w : World) (t : TaskNo) → ((u : Task) → (f u).who ≡ u.who) → ((u : Task) → (f u).state ≡ u.state)
    → state_in (edit_task name f w) t ≡ state_in w t
edited-state name f w t same state = of_edited (λ u. u.state ≡ state_in w t) (who.Task t) name f w same (λ u e. state u ∙ e) refl

pub alike-free : (name : Who) (f : Task → Task) (w : World) (n : Who) → ((u : Task) → (f u).who ≡ u.who) → ((u : Task) → Alike (f u).frames u.frames) → Free n w
    → Free n (edit_task name f w)
alike-free name f w n same frames h = free-edited n name f w same (λ u e. alike-top (f u).frames u.frames (frames u) ∙ e) h

-- marks that are alike, and states that are the same
pub alike-core : (acts : Who → Bool) (loose : Bool) (name : Who) (f : Task → Task) (w : World) → Inv w → ((u : Task) → (f u).who ≡ u.who)
    → ((u : Task) → Alike (f u).frames u.frames) → ((u : Task) → (f u).state ≡ u.state)
    → ((s : List Told) → Tied s w → Tied s (edit_task name f w)) → Core acts loose w [] (edit_task name f w)
alike-core acts loose name f w inv same frames state tied = record {
  base = record {
    tells = moved NotLeaving w (edit_task name f w) tied;
    called = λ n c h. edited-called name f w n c h;
    claims = λ t. claim-same acts loose t w (edit_task name f w) (edited-state name f w t same state);
    inv =
        edited-inv name f w same
        (λ u e h. good-same w.calls w.drawn.calls name (f u).frames (f u).frames u.state (f u).state refl (state u)
        (alike-good w.calls w.drawn.calls name (f u).frames u.frames u.state (frames u) h)) inv;
  };
  free = λ n h. alike-free name f w n same frames h;
}

-- marks that change, and states that are the same
pub marks-base : (acts : Who → Bool) (loose : Bool) (name : Who) (g : List Frame → List Frame) (w : World) → Inv w
    → (((t : Task) → task_of w name ≡ t → Good w.calls w.drawn.calls name t.frames t.state → Good w.calls w.drawn.calls name (g t.frames) t.state))
    → ((s : List Told) → Tied s w → Tied s (edit_task name (λ t. with_frames (g t.frames) t) w))
    → Base acts loose w [] (edit_task name (λ t. with_frames (g t.frames) t) w)
marks-base acts loose name g w inv good tied = record {
  tells = moved NotLeaving w (edit_task name (λ t. with_frames (g t.frames) t) w) tied;
  called = λ n c h. edited-called name (λ t. with_frames (g t.frames) t) w n c h;
  claims =
      λ t. claim-same acts loose t w (edit_task name (λ u. with_frames (g u.frames) u) w)
      (edited-state name (λ u. with_frames (g u.frames) u) w t (λ u. refl) (λ u. refl));
  inv = edited-inv name (λ t. with_frames (g t.frames) t) w (λ t. refl) good inv;
}

top-frames : (name : Who) (w : World) (t : Task) → task_of w name ≡ t → Free name w → top_leaving (first_of t.frames) ≡ false
top-frames name w t e free = subst (λ (x : Task). top_leaving (first_of x.frames) ≡ false) e free

-- who is free goes on
pub goes-core : (acts : Who → Bool) (loose : Bool) (name : Who) (onward : Option StatementNo) (w : World) → Inv w → Free name w
    → ((s : List Told) → Tied s w → Tied s (gone_on name onward w)) → Core acts loose w [] (gone_on name onward w)
goes-core acts loose name onward w inv free tied = record {
  base =
      marks-base acts loose name (edit_first (goes_on onward)) w inv
      (λ t e h. gone-good w.calls w.drawn.calls name onward t.frames t.state (top-frames name w t e free) h) tied;
  free = λ n h. free-edited n name (λ t. with_frames (edit_first (goes_on onward) t.frames) t) w (λ t. refl) (λ t k. gone-top onward t.frames ∙ k) h;
}

-- a mark is opened
pub push-core : (acts : Who → Bool) (loose : Bool) (name : Who) (f : Frame) (w : World) → Inv w → ((t : Task) → task_of w name ≡ t → Below f.mark t.frames)
    → being_left_in f.mark ≡ false → ((c : CallNo) → own_call_of f.mark ≡ Some c → Caller c name w)
    → ((s : List Told) → Tied s w → Tied s (push name f w)) → Core acts loose w [] (push name f w)
push-core acts loose name f w inv below not_left called tied = record {
  base =
      marks-base acts loose name (λ fs. f ∷ fs) w inv (λ t e h. opened-good w.calls w.drawn.calls name f t.frames t.state (below t e, not_left, called) h) tied;
  free = λ n h. free-edited n name (λ t. with_frames (f ∷ t.frames) t) w (λ t. refl) (λ t k. not_left) h;
}

pub free-below : (name : Who) (f : Frame) (w : World) → Free name w → (t : Task) → task_of w name ≡ t → Below f.mark t.frames
free-below name f w free t e = free-opens f.mark t.frames (top-frames name w t e free)

pub special-below : (f : Frame) → is_special f.mark ≡ true → (t : Task) → Below f.mark t.frames
special-below f special t = special-opens f.mark t.frames special

-- a mark ends, of who does not wait
pub awake-as : (name : Who) (w : World) (t : Task) → task_of w name ≡ t → Awake name w → waits_as name t.state ≡ false
awake-as (who.Task n) w t e awake = subst (λ (x : Task). waits (waiting_in x.state) ≡ false) e awake
awake-as who.Agent w t e awake = refl

pub pop-base : (acts : Who → Bool) (loose : Bool) (name : Who) (w : World) → Inv w → Awake name w → ((s : List Told) → Tied s w → Tied s (pop name w))
    → Base acts loose w [] (pop name w)
pop-base acts loose name w inv awake tied =
    marks-base acts loose name rest_of w inv (λ t e h. popped-good w.calls w.drawn.calls name t.frames t.state (awake-as name w t e awake) h) tied

-- below a mark that is not special somebody is free
pub popped-free : (name : Who) (f : Frame) (w : World) → Inv w → top_of w name ≡ Some f → is_special f.mark ≡ false → Free name (pop name w)
popped-free name f w inv top plain =
    let q = topped name w f top in
    let good = good-of name w q.task inv q.found in
    let sound : Sound (f ∷ q.below) = subst Sound q.shape good.sound in
    let is = of_self name (λ t. with_frames (rest_of t.frames) t) w q.task q.found (λ u. refl) in
    subst (λ (x : Task). top_leaving (first_of x.frames) ≡ false) (sym is)
    (subst (λ fs. top_leaving (first_of (rest_of fs)) ≡ false) (sym q.shape) (below-top f q.below plain sound))

pub pop-free : (name : Who) (f : Frame) (w : World) (n : Who) → Inv w → top_of w name ≡ Some f → is_special f.mark ≡ false → Free n w → Free n (pop name w)
pop-free name f w n inv top plain h =
    by_test (same_who n name)
    (λ e. subst (λ k. Free k (pop name w)) (sym (who_path n name e)) (popped-free name f w inv top plain))
    (λ e. subst (λ (x : Task). top_leaving (first_of x.frames) ≡ false) (sym (of_other n name (λ t. with_frames (rest_of t.frames) t) w (λ u. refl) e)) h)

-- who has something to go on with is free
pub onward-free : (name : Who) (f : Frame) (s : StatementNo) (w : World) → Inv w → top_of w name ≡ Some f → f.onward ≡ Some s → Free name w
onward-free name f s w inv top e =
    let q = topped name w f top in
    let good = good-of name w q.task inv q.found in
    let sound : Sound (f ∷ q.below) = subst Sound q.shape good.sound in
    ap top_leaving top ∙ going-free f q.below s e sound

-- who waits is free
pub waiting-free : (name : Who) (w : World) → Inv w → waiting_now name w ≡ true → Free name w
waiting-free (who.Task n) w inv e = (good-task (who.Task n) w inv).free e
waiting-free who.Agent w inv e = absurd cc

-- ---- states

state-base : (acts : Who → Bool) (loose : Bool) (name : Who) (state : State) (xs : List Said) (w : World) → Inv w → (waits_as name state ≡ true → Free name w)
    → ((t : TaskNo) → Claim acts loose t w xs (edit_task name (with_state state) w)) → Tells NotLeaving w xs (edit_task name (with_state state) w)
    → Base acts loose w xs (edit_task name (with_state state) w)
state-base acts loose name state xs w inv free claims tells = record {
  tells = tells;
  called = λ n c h. edited-called name (with_state state) w n c h;
  claims = claims;
  inv =
      edited-inv name (with_state state) w (λ u. refl)
      (λ t e h. state-good w.calls w.drawn.calls name t.frames t.state state (λ k. top-frames name w t e (free k)) h) inv;
}

pub state-free : (name : Who) (state : State) (w : World) (n : Who) → Free n w → Free n (edit_task name (with_state state) w)
state-free name state w n h = free-edited n name (with_state state) w (λ u. refl) (λ t k. k) h

-- of another it stays
other-state : (name : Who) (f : Task → Task) (w : World) (t : TaskNo) → ((u : Task) → (f u).who ≡ u.who) → same_who (who.Task t) name ≡ false
    → state_in (edit_task name f w) t ≡ state_in w t
other-state name f w t same e = ap (λ (x : Task). x.state) (of_other (who.Task t) name f w same e)

-- somebody becomes ready
woken-claim : (acts : Who → Bool) (loose : Bool) (name : Who) (w : World) (t : TaskNo) → Claim acts loose t w [] (edit_task name (with_state Runnable) w)
woken-claim acts loose name w t =
    by_test (same_who (who.Task t) name)
    (λ e. claim-awake acts loose t w [] (edit_task name (with_state Runnable) w)
    (subst (λ n. waits (waiting_of (edit_task n (with_state Runnable) w) (who.Task t)) ≡ false) (who_path (who.Task t) name e)
    (of_own (λ u. waits (waiting_in u.state) ≡ false) (who.Task t) (with_state Runnable) w (λ u. refl) (λ u. refl) refl)))
    (λ e. claim-same acts loose t w (edit_task name (with_state Runnable) w) (other-state name (with_state Runnable) w t (λ u. refl) e))

pub no_wait : (name : Who) → waits_as name Runnable ≡ true → {P : Type 0} → P
no_wait (who.Task n) e = absurd cc
no_wait who.Agent e = absurd cc

pub wakes-core : (acts : Who → Bool) (loose : Bool) (name : Who) (w : World) → Inv w
    → ((s : List Told) → Tied s w → Tied s (edit_task name (with_state Runnable) w)) → Core acts loose w [] (edit_task name (with_state Runnable) w)
wakes-core acts loose name w inv tied = record {
  base =
      state-base acts loose name Runnable [] w inv (λ k. no_wait name k) (woken-claim acts loose name w)
      (moved NotLeaving w (edit_task name (with_state Runnable) w) tied);
  free = λ n h. state-free name Runnable w n h;
}

-- and is placed: the world behind is good with more lines
pub ready-claim : (acts : Who → Bool) (loose : Bool) (p : Image) (part : Part) (name : Who) (w : World) (t : TaskNo)
    → Claim acts loose t w (ready_line p part name Tail (ready_world p name w) ∷ []) (ready_world p name w)
ready-claim acts loose p part name w t =
    let v = ready_world p name w in
    let line = ready_line p part name Tail v in
    by_test (same_who (who.Task t) name)
    (λ e. claim-awake acts loose t w (line ∷ []) v
    (subst (λ n. waits (waiting_of (ready_world p n w) (who.Task t)) ≡ false) (who_path (who.Task t) name e) (ready-awake p (who.Task t) w)))
    (λ e.
    let woken = edit_task name (with_state Runnable) w in
    let kept = keep_level p name woken in
    let same =
    edited-state name (granted p kept.quanta) kept t (granted-who p kept.quanta) (granted-state p kept.quanta)
    ∙ edited-state name (λ u. record u { kept_level = level_kept_by p woken u (edf_low p u.base) }) woken t (λ u. refl) (λ u. refl)
    ∙ other-state name (with_state Runnable) w t (λ u. refl) e in
    claim-quiet acts loose t w (line ∷ []) v same (e, tt))

-- who blocks is taken out
pub blocked-claim : (acts : Who → Bool) (loose : Bool) (name : Who) (waiting : Waiting) (w : World) (t : TaskNo)
    → Claim acts loose t w (block_line name waiting ∷ []) (blocked_world name waiting w)
blocked-claim acts loose name waiting w t =
    by_test (same_who (who.Task t) name)
    (λ e. taken_out e)
    (λ e.
    let blocked = edit_task name (with_state (Blocked waiting)) w in
    let same = edited-state name without_kept_level blocked t (λ u. refl) (λ u. refl) ∙ other-state name (with_state (Blocked waiting)) w t (λ u. refl) e in
    claim-quiet acts loose t w (block_line name waiting ∷ []) (blocked_world name waiting w) same (refl, tt)) where
      taken_out : same_who (who.Task t) name ≡ true → Claim acts loose t w (block_line name waiting ∷ []) (blocked_world name waiting w)
      taken_out e a out c =
          absurd
          (let is : taken (who.Task t) (block_line name waiting ∷ []) ≡ true = ap (λ k. cond k true false) e in let never : true ≡ false = sym is ∙ out in cc)

-- a line that places somebody who does not wait, or acts
pub placed-claim : (acts : Who → Bool) (loose : Bool) (t : TaskNo) (w : World) (line : Said) (name : Who) → ((n : Who) → readies n line.line ≡ same_who n name)
    → Awake name w → Claim acts loose t w (line ∷ []) w
placed-claim acts loose t w line name places awake =
    by_test (same_who (who.Task t) name)
    (λ e. claim-awake acts loose t w (line ∷ []) w (subst (λ n. Awake n w) (sym (who_path (who.Task t) name e)) awake))
    (λ e. claim-quiet acts loose t w (line ∷ []) w refl (places (who.Task t) ∙ e, tt))

pub acting-claim : (acts : Who → Bool) (loose : Bool) (t : TaskNo) (w : World) (line : Said) (name : Who) → ((n : Who) → readies n line.line ≡ same_who n name)
    → is_last_part line.part ≡ false → acts name ≡ true → Claim acts loose t w (line ∷ []) w
acting-claim acts loose t w line name places part acting a b c = (
  refl,
  (ap (λ l. l && readies (who.Task t) line.line) part, tt),
  λ k. (
    places (who.Task t)
        ∙ by_test (same_who (who.Task t) name)
        (λ e. absurd
        (let yes_acts : acts (who.Task t) ≡ true = ap acts (who_path (who.Task t) name e) ∙ acting in let never : true ≡ false = sym yes_acts ∙ k in cc))
        (λ f. f),
    tt,
  ),
)

-- who acts comes to an open terminate alternative, and says it later
silent-claim : (acts : Who → Bool) (loose : Bool) (name : Who) (accepts : List StatementNo) (delay : Option StatementNo) (w : World) (t : TaskNo)
    → (loose && acts name) ≡ true →
    let v = edit_task name (with_state (Blocked (waits_for.Select accepts delay true))) w in
    Claim acts loose t w [] v
silent-claim acts loose name accepts delay w t may =
    let f = with_state (Blocked (waits_for.Select accepts delay true)) in
    let v = edit_task name f w in
    by_test (same_who (who.Task t) name)
    (λ e. silent e)
    (λ e. claim-same acts loose t w v (other-state name f w t (λ u. refl) e)) where
      silent : same_who (who.Task t) name ≡ true → Claim acts loose t w [] (edit_task name (with_state (Blocked (waits_for.Select accepts delay true))) w)
      silent e a out c =
          let n = who.Task t in
          let is : n ≡ name = who_path n name e in
          let says : waits (waiting_of (edit_task name (with_state (Blocked (waits_for.Select accepts delay true))) w) n) ≡ true
          → waits_at_terminate (waiting_of (edit_task name (with_state (Blocked (waits_for.Select accepts delay true))) w) n) ≡ true =
          subst (λ m. waits (waiting_of (edit_task m (with_state (Blocked (waits_for.Select accepts delay true))) w) n) ≡ true
          → waits_at_terminate (waiting_of (edit_task m (with_state (Blocked (waits_for.Select accepts delay true))) w) n) ≡ true) is
          (of_own (λ u. waits (waiting_in u.state) ≡ true → waits_at_terminate (waiting_in u.state) ≡ true) n
          (with_state (Blocked (waits_for.Select accepts delay true))) w (λ u. refl) (λ u k. refl) (λ k. absurd cc)) in
          absurd (let no_silent = c (ap (λ m. loose && acts m) is ∙ may) in let never : true ≡ false = sym (says a) ∙ no_silent in cc)

pub silent-core : (acts : Who → Bool) (loose : Bool) (name : Who) (accepts : List StatementNo) (delay : Option StatementNo) (w : World) → Inv w → Free name w
    → (loose && acts name) ≡ true →
    let v = edit_task name (with_state (Blocked (waits_for.Select accepts delay true))) w in
    ((s : List Told) → Tied s w → Tied s v) → Core acts loose w [] v
silent-core acts loose name accepts delay w inv free may tied = record {
  base =
      state-base acts loose name (Blocked (waits_for.Select accepts delay true)) [] w inv (λ k. free) (λ t. silent-claim acts loose name accepts delay w t may)
      (moved NotLeaving w (edit_task name (with_state (Blocked (waits_for.Select accepts delay true))) w) tied);
  free = λ n h. state-free name (Blocked (waits_for.Select accepts delay true)) w n h;
}

pub blocks-core : (acts : Who → Bool) (loose : Bool) (name : Who) (waiting : Waiting) (w : World) → Inv w
    → (waits_as name (Blocked waiting) ≡ true → Free name w) → Tells NotLeaving w (block_line name waiting ∷ []) (blocked_world name waiting w)
    → Core acts loose w (block_line name waiting ∷ []) (blocked_world name waiting w)
blocks-core acts loose name waiting w inv free tells =
    let blocked = edit_task name (with_state (Blocked waiting)) w in
    record {
      base = record {
        tells = tells;
        called = λ n c h. edited-called name without_kept_level blocked n c (edited-called name (with_state (Blocked waiting)) w n c h);
        claims = blocked-claim acts loose name waiting w;
        inv = edited-inv name without_kept_level blocked (λ u. refl) (λ t e h. h)
            (edited-inv name (with_state (Blocked waiting)) w (λ u. refl)
            (λ t e h. state-good w.calls w.drawn.calls name t.frames t.state (Blocked waiting) (λ k. top-frames name w t e (free k)) h) inv);
      };
      free = λ n h. free-edited n name without_kept_level blocked (λ u. refl) (λ t k. k) (state-free name (Blocked waiting) w n h);
    }

-- ---- what an object is initialized in is not being left

early-in : (s : List Told) (name : Who) (w : World) (f : Frame) (region : Option RegionNo) → Tied s w → top_of w name ≡ Some f → region_of_mark f.mark ≡ region
    → being_left_in f.mark ≡ false → leaving (region_or_none region).0 s ≡ false
early-in s name w f None h top is not_left = h.rest.none
early-in s name w f (Some r) h top is not_left =
    let q = topped name w f top in
    (top-alone s name w r false
    (record { task = q.task; below = q.below; first = f; found = q.found; shape = q.shape; region = is; leaving = not_left }) h).holds.0

early-top : (s : List Told) (name : Who) (w : World) (top : Option Frame) → Tied s w → top_of w name ≡ top → top_leaving top ≡ false
    → leaving (region_or_none (option_and_then (λ f. region_of_mark f.mark) top)).0 s ≡ false
early-top s name w None h is free = h.rest.none
early-top s name w (Some f) h is free = early-in s name w f (region_of_mark f.mark) h is refl free

pub early : (name : Who) (w : World) → Free name w → (s : List Told) → Tied s w → NotLeaving s (top_region w name).0
early name w free s h = early-top s name w (top_of w name) h refl free
