-- All changes that steps are made of, for who acts in some way: Extra is what is known of who acts beside what every world keeps.
use Rattle.std.specs.Prelude.{slice_index_or}
use Rattle.std.proofs.Common.{◌≡◌, ℕ, suc, eqb, cond, Bool, true, false, ◌&&◌, List, [], ◌∷◌, ◌++◌, Option, Some, None, refl, sym, ap, subst, ◌∙◌}
use Rattle.ann_base.specs.declared.identities.CallNo.{CallNo}
use Rattle.ann_base.specs.declared.identities.TaskNo.{TaskNo}
use Rattle.trace_text.specs.declared.events.Event.{Event}
use Rattle.trace_text.specs.declared.events.Who.{Who}
use Rattle.trace_text.specs.declared.events.Who.TheVariants as who
use Rattle.profile_image.specs.declared.image.Image.{Image}
use Rattle.profile_image.specs.declared.numbers.ScopeNo.{ScopeNo}
use Rattle.profile_image.specs.declared.numbers.StatementNo.{StatementNo}
use Rattle.profile_machine.specs.declared.world.World.{World}
use Rattle.profile_machine.specs.declared.world.tasks.Task.{Task}
use Rattle.profile_machine.specs.declared.world.tasks.State.TheVariants.{Runnable, Blocked}
use Rattle.profile_machine.specs.declared.world.tasks.Waiting.{Waiting}
use Rattle.profile_machine.specs.declared.world.tasks.Waiting.TheVariants as waits_for
use Rattle.profile_machine.specs.declared.world.marks.Frame.{Frame}
use Rattle.profile_machine.specs.declared.world.marks.Purpose.{Purpose}
use Rattle.profile_machine.specs.declared.world.marks.Purpose.TheVariants as opened_for
use Rattle.profile_machine.specs.declared.world.scopes.Beginning.{Beginning}
use Rattle.profile_machine.specs.declared.world.lines.Line.TheVariants as said
use Rattle.profile_machine.specs.declared.world.lines.Part.TheVariants.{Own, ThePlacing, TheBlock}
use Rattle.profile_machine.specs.declared.world.lines.Said.{Said}
use Rattle.profile_machine.specs.Steps.{placed_by}
use Rattle.trace_text.specs.declared.events.QueueEnd.TheVariants.{Tail}
use Rattle.profile_machine.specs.declared.world.calls.Call.{Call}
use Rattle.world_tables.specs.Lists.{first_of, rest_of}
use Rattle.profile_machine.specs.Tasks.{task_of, edit_task, with_state, with_frames, waiting_in}
use Rattle.profile_machine.specs.Dispatching.{active, deadline_shown, word_of, keep_level, level_kept_by, granted, without_kept_level}
use Rattle.profile_image.specs.Program.{scope_of, edf_low, is_robin_level}
use Rattle.profile_machine.specs.Frames.{top_of, push, pop, edit_first, goes_on, new_frame}
use Rattle.profile_machine.specs.Scopes.{begin_scope, draw_region, open_scope, next_id, region_of_next, new_scope_mark}
use Rattle.profile_machine.specs.Masters.{forget_task, region_of_mark}
use Rattle.profile_machine.specs.Controlled.{top_region, registered_as, no_longer_registered}
use Rattle.profile_machine.specs.Tasking.{add_task}
use Rattle.profile_machine.specs.Protected.{open_action}
use Rattle.profile_machine.specs.Serving.{close_action, serves_nothing}
use Rattle.profile_machine.specs.Handlers.{add_release}
use Rattle.machine_laws.proofs.Moves.{MoveRelation, own, is_told_apart, lines_of}
use Rattle.line_laws.proofs.Leaving.FineMoves.{FineMoves, Alike, Free, Awake, waits, waiting_now, is_special}
use Rattle.line_laws.proofs.Leaving.FineMoves.{own_call_of, top_leaving, ready_world, blocked_world, is_of_region}
use Rattle.line_laws.proofs.Leaving.TaskLemmas.{free-edited, of_added, of_forgotten, of_same, FreeTask}
use Rattle.line_laws.proofs.Leaving.FreeWorlds.{waits_as, Good, opened-good, edited-inv, Inv, Below, CallerIn, good-same, calls-inv, added-good, filtered-good}
use Rattle.line_laws.proofs.Leaving.CallLemmas.{edited-caller, added-caller, gone-caller}
use Rattle.line_laws.proofs.Leaving.PlacingLines.{Quiet, readies}
use Rattle.line_laws.proofs.Leaving.RegionLines.{Told, NotLeaving}
use Rattle.line_laws.proofs.Leaving.RegionTies.{Tied, same-tied, pushed-tied, popped-tied, forgotten-tied, added-tied, first-same}
use Rattle.line_laws.proofs.Leaving.Telling.{Tells, moved, unmoved, other-tells, line-tells, round-tells, or-parts}
use Rattle.line_laws.proofs.Leaving.Telling.{has_left-tells, registers-tells, finalizes-tells, replaces-tells, opens-tied}
use Rattle.line_laws.proofs.Leaving.Kept.Frames.{alike}
use Rattle.line_laws.proofs.Leaving.Kept.Dispatching.{granted-who, granted-state}
use Rattle.line_laws.proofs.Leaving.CoreMoves.{quiet-early, edited-state, Core, Claim, core-then, claim-same, claim-quiet, apart-readies}
use Rattle.line_laws.proofs.Leaving.CoreMoves.{quiet-lines, alike-core, goes-core, push-core, pop-base, pop-free, popped-free}
use Rattle.line_laws.proofs.Leaving.CoreMoves.{free-below, special-below, onward-free, waiting-free, wakes-core, ready-claim}
use Rattle.line_laws.proofs.Leaving.CoreMoves.{placed-claim, acting-claim, silent-core, blocks-core, early, edited-called, state_in}
use Rattle.line_laws.proofs.Leaving.LeftMoves.{natures-of}
use Rattle.machine_laws.proofs.FineMoves.{Naming, is_placing, ready_line, gone_on}
use Rattle.machine_laws.proofs.FinestMoves.{being_left_in}

-- ---- small facts

granted-frames : (b : Bool) (n : ℕ) (t : Task) → (cond b (record t { quantum = n }) t).frames ≡ t.frames
granted-frames true n t = refl
granted-frames false n t = refl

granted-alike : (p : Image) (quanta : List ℕ) (t : Task) → Alike (granted p quanta t).frames t.frames
granted-alike p quanta t =
    subst (λ fs. Alike fs t.frames) (sym (granted-frames (eqb (active p t) t.base && is_robin_level p t.base) (slice_index_or quanta t.base 0) t))
    (alike t.frames)

pushed-state : (name : Who) (f : Frame) (w : World) (t : TaskNo) → state_in (push name f w) t ≡ state_in w t
pushed-state name f w t = edited-state name (λ u. with_frames (f ∷ u.frames) u) w t (λ u. refl) (λ u. refl)

popped-state : (name : Who) (w : World) (t : TaskNo) → state_in (pop name w) t ≡ state_in w t
popped-state name w t = edited-state name (λ u. with_frames (rest_of u.frames) u) w t (λ u. refl) (λ u. refl)

pushed-inv : (name : Who) (f : Frame) (w : World) → Inv w → ((t : Task) → task_of w name ≡ t → Below f.mark t.frames) → being_left_in f.mark ≡ false
    → own_call_of f.mark ≡ None → Inv (push name f w)
pushed-inv name f w inv below not_left none =
    edited-inv name (λ t. with_frames (f ∷ t.frames) t) w (λ u. refl)
    (λ t e h.
    opened-good w.calls w.drawn.calls name f t.frames t.state (below t e, not_left, λ c k. absurd (let one : None ≡ Some c = sym none ∙ k in cc)) h) inv

pushed-still : (name : Who) (f : Frame) (w : World) (n : Who) → being_left_in f.mark ≡ false → Free n w → Free n (push name f w)
pushed-still name f w n not_left h = free-edited n name (λ t. with_frames (f ∷ t.frames) t) w (λ u. refl) (λ t k. not_left) h

waits-apart : {P : Type 0} (name : Who) (waiting : Waiting) → waits (Some waiting) ≡ false → waits_as name (Blocked waiting) ≡ true → P
waits-apart (who.Task n) waiting a b = absurd (let never : true ≡ false = sym b ∙ a in cc)
waits-apart who.Agent waiting a b = absurd cc

new-good : (calls : List Call) (drawn : ℕ) (t : Task) → t.frames ≡ [] → waiting_in t.state ≡ None → Good calls drawn t.who t.frames t.state
new-good calls drawn t none still = good-same calls drawn t.who [] t.frames t.state t.state none refl (record { sound = tt; free = λ e. refl; own = tt })

new-free : (t : Task) → t.frames ≡ [] → FreeTask t
new-free t none = ap (λ fs. top_leaving (first_of fs)) none

Quiet-end : (n : Who) (xs : List Said) (x : Said) → Quiet n xs → readies n x.line ≡ false → Quiet n (xs ++ x ∷ [])
Quiet-end n [] x h e = (e, tt)
Quiet-end n (y ∷ ys) x h e = (h.0, Quiet-end n ys x h.1 e)

pub record Extra (May Pushes : Naming) (Stops : Type 0) (X : World → Type 0) : Type 0 where
  pub same : (w v : World) → v.tasks ≡ w.tasks → v.agent ≡ w.agent → X w → X v
  pub edits : (name : Who) (f : Task → Task) (w : World) → ((u : Task) → (f u).who ≡ u.who) → ((u : Task) → Alike (f u).frames u.frames)
      → ((u : Task) → (f u).state ≡ u.state) → X w → X (edit_task name f w)
  pub goes : (name : Who) (onward : Option StatementNo) (w : World) → Free name w → X w → X (gone_on name onward w)
  pub pushes : (name : Who) (f : Frame) (w : World) → Pushes name → being_left_in f.mark ≡ false → X w → X (push name f w)
  pub pops : (name : Who) (f : Frame) (w : World) → Pushes name → Inv w → top_of w name ≡ Some f → is_special f.mark ≡ false → X w → X (pop name w)
  pub readies : (name : Who) (w : World) → X w → X (edit_task name (with_state Runnable) w)
  pub blocks : (name : Who) (waiting : Waiting) (w : World) → May name → X w → X (edit_task name (with_state (Blocked waiting)) w)
  pub blocks_apart : (name : Who) (waiting : Waiting) (w : World) → Stops → waits (Some waiting) ≡ false → X w
      → X (edit_task name (with_state (Blocked waiting)) w)
  pub adds : (t : Task) (w : World) → t.frames ≡ [] → waiting_in t.state ≡ None → X w → X (add_task t w)
  pub forgets : (name : Who) (w : World) → Stops → X w → X (forget_task name w)

-- what is known of names
pub record Known_of (acts : Who → Bool) (loose : Bool) (May Pushes : Naming) (Stops : Type 0) (X : World → Type 0) : Type 0 where
  pub agent : acts who.Agent ≡ true
  pub may_acts : (name : Who) → May name → acts name ≡ true
  pub may_loose : (name : Who) → May name → (loose && acts name) ≡ true
  pub may_pushes : (name : Who) → May name → Pushes name
  pub may_free : (name : Who) (w : World) → X w → May name → Free name w
  pub stops_pushes : Stops → (name : Who) → Pushes name
  pub waiting_pushes : (name : Who) (w : World) → X w → waiting_now name w ≡ true → Pushes name

pub record Moved (acts : Who → Bool) (loose : Bool) (X : World → Type 0) (w : World) (xs : List Said) (v : World) : Type 0 where
  pub core : Core acts loose w xs v
  pub extra : X v

abbrev pub GoodAs : (World → Type 0) → World → Type 0
GoodAs X w = Inv w × X w

-- what is kept of whole effects
pub record Ends (acts : Who → Bool) (loose : Bool) (X : World → Type 0) (Q : MoveRelation) : Type 0 where
  pub moved : (a b : World) {xs : List Event} → Q a xs b → GoodAs X b
  pub rests : (w : World) → GoodAs X w → Q w [] w
  pub leads_on : (a b c : World) {xs ys : List Event} → Q a xs b → Q b ys c → Q a (xs ++ ys) c
  pub settles : (p : Image) (a b : World) (xs : List Said) → Moved acts loose X a xs b → Q a (lines_of p xs) (placed_by (lines_of p xs) b)
  pub silently : (a b : World) → Moved acts loose X a [] b → Q a [] b

module _ (acts : Who → Bool) (loose : Bool) {May Pushes : Naming} {Stops : Type 0} {X : World → Type 0} {Q : MoveRelation} (extra : Extra May Pushes Stops X)
    (known : Known_of acts loose May Pushes Stops X) (ends : Ends acts loose X Q) where
  -- a change that touches neither tasks nor calls
  untouched : (w v : World) → Tells NotLeaving w [] v → v.tasks ≡ w.tasks → v.agent ≡ w.agent → Inv v
      → ((name : Who) (c : CallNo) → CallerIn w.calls w.drawn.calls c name → CallerIn v.calls v.drawn.calls c name) → X w → Moved acts loose X w [] v
  untouched w v tells tasks agent inv called x = record {
    core = record {
      base = record {
        tells = tells;
        called = called;
        claims = λ t. claim-same acts loose t w v (ap (λ (u : Task). u.state) (of_same (who.Task t) w v tasks agent));
        inv = inv;
      };
      free = λ n h. subst FreeTask (sym (of_same n w v tasks agent)) h;
    };
    extra = extra.same w v tasks agent x;
  }

  -- the same with lines that place nobody
  told : (w v : World) (xs : List Said) → Tells NotLeaving w xs v → v.tasks ≡ w.tasks → v.agent ≡ w.agent → Inv v
      → ((name : Who) (c : CallNo) → CallerIn w.calls w.drawn.calls c name → CallerIn v.calls v.drawn.calls c name) → ((t : TaskNo) → Quiet (who.Task t) xs)
      → X w → Moved acts loose X w xs v
  told w v xs tells tasks agent inv called quiet x = record {
    core = record {
      base = record {
        tells = tells;
        called = called;
        claims = λ t. claim-quiet acts loose t w xs v (ap (λ (u : Task). u.state) (of_same (who.Task t) w v tasks agent)) (quiet t);
        inv = inv;
      };
      free = λ n h. subst FreeTask (sym (of_same n w v tasks agent)) h;
    };
    extra = extra.same w v tasks agent x;
  }

  moved-then : (a b c : World) (xs ys : List Said) → Moved acts loose X a xs b → Moved acts loose X b ys c → Moved acts loose X a (xs ++ ys) c
  moved-then a b c xs ys p q = record { core = core-then acts loose a b c xs ys p.core q.core; extra = q.extra }

  gone-tied : (s : List Told) (name : Who) (onward : Option StatementNo) (w : World) → Tied s w → Tied s (gone_on name onward w)
  gone-tied s name onward w h =
      same-tied s name (λ t. with_frames (edit_first (goes_on onward) t.frames) t) w (λ t. first-same (goes_on onward) t.frames (λ x. refl)) h

  edited : (name : Who) (f : Task → Task) (w : World) → GoodAs X w → ((u : Task) → (f u).who ≡ u.who) → ((u : Task) → Alike (f u).frames u.frames)
      → ((u : Task) → (f u).state ≡ u.state) → Moved acts loose X w [] (edit_task name f w)
  edited name f w g same frames state = record {
    core = alike-core acts loose name f w g.0 same frames state (λ s h. same-tied s name f w (λ u. natures-of (f u).frames u.frames (frames u)) h);
    extra = extra.edits name f w same frames state g.1;
  }

  frames-alike : (f : Task → Task) → ((u : Task) → (f u).frames ≡ u.frames) → (u : Task) → Alike (f u).frames u.frames
  frames-alike f same u = subst (λ fs. Alike fs u.frames) (sym (same u)) (alike u.frames)

  pushed : (name : Who) (f : Frame) (w : World) → GoodAs X w → Pushes name → ((t : Task) → task_of w name ≡ t → Below f.mark t.frames)
      → region_of_mark f.mark ≡ None → being_left_in f.mark ≡ false → ((c : CallNo) → own_call_of f.mark ≡ Some c → CallerIn w.calls w.drawn.calls c name)
      → Moved acts loose X w [] (push name f w)
  pushed name f w g pushes below none not_left called = record {
    core = push-core acts loose name f w g.0 below not_left called (λ s h. pushed-tied s name f w none h);
    extra = extra.pushes name f w pushes not_left g.1;
  }

  -- a scope is opened, with a region or without
  drawn-push : (p : Image) (name : Who) (scope : ScopeNo) (b : Beginning) (f : Frame) (w v : World) → v.tasks ≡ w.tasks → v.agent ≡ w.agent → Inv v
      → ((n : Who) (c : CallNo) → CallerIn w.calls w.drawn.calls c n → CallerIn v.calls v.drawn.calls c n) → GoodAs X w → Pushes name
      → ((t : Task) → task_of v name ≡ t → Below f.mark t.frames)
      → being_left_in f.mark ≡ false → own_call_of f.mark ≡ None → Tells NotLeaving w [] (push name f v) → Moved acts loose X w [] (push name f v)
  drawn-push p name scope b f w v tasks agent inv called g pushes below not_left none tells =
      let pushed_core = push-core acts loose name f v inv below not_left (λ c e. absurd (let one : None ≡ Some c = sym none ∙ e in cc)) in
      record {
        core = record {
          base = record {
            tells = tells;
            called = λ n c h. edited-called name (λ t. with_frames (f ∷ t.frames) t) v n c (called n c h);
            claims =
                λ t. claim-same acts loose t w (push name f v) (pushed-state name f v t ∙ ap (λ (u : Task). u.state) (of_same (who.Task t) w v tasks agent));
            inv = pushed-inv name f v inv below not_left none;
          };
          free = λ n h. pushed-still name f v n not_left (subst FreeTask (sym (of_same n w v tasks agent)) h);
        };
        extra = extra.pushes name f v pushes not_left (extra.same w v tasks agent g.1);
      }

  opens : (p : Image) (name : Who) (scope : ScopeNo) (b : Beginning) (purpose : Purpose) (kept : Bool) (w : World) → GoodAs X w → Pushes name
      → ((t : Task) → task_of w name ≡ t → (f : Frame) → f.mark ≡ new_scope_mark (next_id w) (region_of_next kept w) purpose → Below f.mark t.frames)
      →
      let f = new_frame (new_scope_mark (next_id w) (region_of_next kept w) purpose) (scope_of p scope).first in
      let v = draw_region kept (begin_scope p name scope b w) in Tells NotLeaving w [] (push name f v) → Moved acts loose X w [] (push name f v)
  opens p name scope b purpose true w g pushes below tells =
      let f = new_frame (new_scope_mark (next_id w) (region_of_next true w) purpose) (scope_of p scope).first in
      drawn-push p name scope b f w (draw_region true (begin_scope p name scope b w)) refl refl g.0 (λ n c h. h) g pushes
      (λ t e. below t (sym (of_same name w (draw_region true (begin_scope p name scope b w)) refl refl) ∙ e) f refl) refl refl tells
  opens p name scope b purpose false w g pushes below tells =
      let f = new_frame (new_scope_mark (next_id w) (region_of_next false w) purpose) (scope_of p scope).first in
      drawn-push p name scope b f w (draw_region false (begin_scope p name scope b w)) refl refl g.0 (λ n c h. h) g pushes
      (λ t e. below t (sym (of_same name w (draw_region false (begin_scope p name scope b w)) refl refl) ∙ e) f refl) refl refl tells

  opened : (p : Image) (name : Who) (scope : ScopeNo) (b : Beginning) (purpose : Purpose) (w : World) → GoodAs X w → Pushes name
      → ((t : Task) → task_of w name ≡ t → (f : Frame) → f.mark ≡ new_scope_mark (next_id w) (region_of_next (scope_of p scope).kept w) purpose
      → Below f.mark t.frames)
      → Moved acts loose X w [] (open_scope p name scope b purpose w)
  opened p name scope b purpose w g pushes below =
      opens p name scope b purpose (scope_of p scope).kept w g pushes below
      (moved NotLeaving w (open_scope p name scope b purpose w) (λ s h. opens-tied NotLeaving p name scope b purpose w s h))

  -- a mark that is not special ends
  popped : (name : Who) (f : Frame) (w : World) (xs : List Said) → GoodAs X w → Pushes name → Awake name w → top_of w name ≡ Some f → is_special f.mark ≡ false
      → ((t : TaskNo) → Quiet (who.Task t) xs) → Tells NotLeaving w xs (pop name w) → Moved acts loose X w xs (pop name w)
  popped name f w xs g pushes awake top plain quiet tells =
      let base = pop-base acts loose name w g.0 awake (λ s h. popped-tied s name w h) in
      record {
        core = record {
          base = record {
            tells = tells;
            called = base.called;
            claims = λ t. claim-quiet acts loose t w xs (pop name w) (popped-state name w t) (quiet t);
            inv = base.inv;
          };
          free = λ n h. pop-free name f w n g.0 top plain h;
        };
        extra = extra.pops name f w pushes g.0 top plain g.1;
      }

  blocked-extra : (name : Who) (waiting : Waiting) (w : World) → X (edit_task name (with_state (Blocked waiting)) w) → X (blocked_world name waiting w)
  blocked-extra name waiting w x =
      extra.edits name without_kept_level (edit_task name (with_state (Blocked waiting)) w) (λ u. refl) (λ u. alike u.frames) (λ u. refl) x

  blocked-tied : (name : Who) (waiting : Waiting) (w : World) (s : List Told) → Tied s w → Tied s (blocked_world name waiting w)
  blocked-tied name waiting w s h =
      same-tied s name without_kept_level (edit_task name (with_state (Blocked waiting)) w) (λ u. refl)
      (same-tied s name (with_state (Blocked waiting)) w (λ u. refl) h)

  -- somebody becomes ready
  readied : (p : Image) (part_line : Said) (name : Who) (w : World) → GoodAs X w → Tells NotLeaving w (part_line ∷ []) (ready_world p name w)
      → ((t : TaskNo) → Claim acts loose t w (part_line ∷ []) (ready_world p name w)) → Moved acts loose X w (part_line ∷ []) (ready_world p name w)
  readied p x name w g tells claims =
      let woken = edit_task name (with_state Runnable) w in
      let kept = keep_level p name woken in
      let f = λ (u : Task). record u { kept_level = level_kept_by p woken u (edf_low p u.base) } in
      let first = wakes-core acts loose name w g.0 (λ s h. same-tied s name (with_state Runnable) w (λ u. refl) h) in
      let second = edited name f woken (first.base.inv, extra.readies name w g.1) (λ u. refl) (λ u. alike u.frames) (λ u. refl) in
      let third =
      edited name (granted p kept.quanta) kept (second.core.base.inv, second.extra) (granted-who p kept.quanta) (λ u. granted-alike p kept.quanta u)
      (granted-state p kept.quanta) in
      let all =
      core-then acts loose w woken (ready_world p name w) [] [] first
      (core-then acts loose woken kept (ready_world p name w) [] [] second.core third.core) in
      record {
        core = record { base = record { tells = tells; called = all.base.called; claims = claims; inv = all.base.inv }; free = all.free };
        extra = third.extra;
      }

  ready-tied : (p : Image) (name : Who) (w : World) (s : List Told) → Tied s w → Tied s (ready_world p name w)
  ready-tied p name w s h =
      let woken = edit_task name (with_state Runnable) w in
      let kept = keep_level p name woken in
      same-tied s name (granted p kept.quanta) kept (λ u. natures-of (granted p kept.quanta u).frames u.frames (granted-alike p kept.quanta u))
      (same-tied s name (λ u. record u { kept_level = level_kept_by p woken u (edf_low p u.base) }) woken (λ u. refl)
      (same-tied s name (with_state Runnable) w (λ u. refl) h))

  -- tasks that are new or gone
  added-claim : (t : Task) (w : World) (k : TaskNo) → waiting_in t.state ≡ None → Claim acts loose k w [] (add_task t w)
  added-claim t w k still a b c =
      let kept : waits (waiting_in (state_in (add_task t w) k)) ≡ true → state_in (add_task t w) k ≡ state_in w k =
      of_added (λ u. waits (waiting_in u.state) ≡ true → u.state ≡ state_in w k) (who.Task k) t w
      (λ e. absurd (let never : false ≡ true = sym (ap waits still) ∙ e in cc)) (λ e. refl) in
      (kept a, tt, λ j. tt)

  forgotten-claim : (name : Who) (w : World) (k : TaskNo) → Claim acts loose k w [] (forget_task name w)
  forgotten-claim name w k a b c =
      let kept : waits (waiting_in (state_in (forget_task name w) k)) ≡ true → state_in (forget_task name w) k ≡ state_in w k =
      of_forgotten (λ u. waits (waiting_in u.state) ≡ true → u.state ≡ state_in w k) (who.Task k) name w (λ e. absurd cc) (λ e. refl) in
      (kept a, tt, λ j. tt)

  -- lines round a change
  round-claim : (t : TaskNo) (w v : World) (xs : List Said) → Claim acts loose t w [] v → Quiet (who.Task t) xs → Claim acts loose t w xs v
  round-claim t w v xs k quiet a b c = let h = k a refl c in (h.0, quiet-early (who.Task t) xs quiet, λ j. quiet)

  -- somebody is placed
  placed-as : (w : World) (x : Said) → GoodAs X w → Tells NotLeaving w (x ∷ []) w → ((t : TaskNo) → Claim acts loose t w (x ∷ []) w)
      → Moved acts loose X w (x ∷ []) w
  placed-as w x g tells claims = record {
    core = record { base = record { tells = tells; called = λ n c h. h; claims = claims; inv = g.0 }; free = λ n h. h };
    extra = g.1;
  }

  pub fine : FineMoves (GoodAs X) May (λ name. acts name ≡ true) Pushes Stops (Moved acts loose X) Q
  fine = record {
    behind = λ a b h. (h.core.base.inv, h.extra);
    moved = λ a b h. ends.moved a b h;
    stays = λ w g. untouched w w (unmoved NotLeaving w) refl refl g.0 (λ n c h. h) g.1;
    goes_on = λ a b c {xs} {ys} p q. moved-then a b c xs ys p q;
    says =
        λ part line w g apart. told w w (record { part = part; line = line } ∷ [])
        (other-tells NotLeaving part line w (or-parts (is_told_apart line) (is_placing line) (is_of_region line) apart)) refl refl g.0 (λ n c h. h)
        (λ t. (apart-readies (who.Task t) line apart, tt)) g.1;
    rests = λ w g. ends.rests w g;
    leads_on = λ a b c p q. ends.leads_on a b c p q;
    settles = λ p a b xs h. ends.settles p a b xs h;
    silently = λ a b h. ends.silently a b h;
    may_acts = known.may_acts;
    may_pushes = known.may_pushes;
    may_free = λ name w g may. known.may_free name w g.1 may;
    agent_acts = known.agent;
    stops_pushes = known.stops_pushes;
    waiting_free = λ name w g e. waiting-free name w g.0 e;
    waiting_pushes = λ name w g e. known.waiting_pushes name w g.1 e;
    onward_free = λ name f s w g top e. onward-free name f s w g.0 top e;
    popped_free = λ name f w g top plain. popped-free name f w g.0 top plain;
    still_free = λ name a b h free. h.core.free name free;
    still_called = λ c name a b h k. h.core.base.called name c k;
    edits_task = λ name f w g same frames state. edited name f w g same (frames-alike f frames) state;
    edits_frames = λ name f w g alike_so. edited name (λ t. with_frames (f t.frames) t) w g (λ u. refl) (λ u. alike_so u.frames) (λ u. refl);
    goes = λ name onward w g free. record {
      core = goes-core acts loose name onward w g.0 free (λ s h. gone-tied s name onward w h);
      extra = extra.goes name onward w free g.1;
    };
    pushes = λ name f w g pushes free none not_left called. pushed name f w g pushes (free-below name f w free) none not_left called;
    pushes_special =
        λ name f w g pushes special none not_left uncalled.
        pushed name f w g pushes (λ t e. special-below f special t) none not_left (λ c e. absurd (let one : None ≡ Some c = sym uncalled ∙ e in cc));
    opens_scope = λ p name scope b purpose w g pushes free. opened p name scope b purpose w g pushes (λ t e f is. free-below name f w free t e);
    opens_task = λ p name scope b w g pushes. opened p name scope b opened_for.Task w g pushes (λ t e f is. special-below f (ap is_special is) t);
    pops =
        λ name f w g pushes awake top plain.
        popped name f w [] g pushes awake top plain (λ t. tt) (moved NotLeaving w (pop name w) (λ s h. popped-tied s name w h));
    has_left =
        λ name f m r w g pushes awake top plain is region left next. popped name f w (own (said.Left name r) ∷ []) g pushes awake top plain (λ t. (refl, tt))
        (has_left-tells NotLeaving name f m r w top is region left next);
    becomes_ready = λ p part name w g. readied p (ready_line p part name Tail (ready_world p name w)) name w g
        (line-tells NotLeaving part
        (said.Ready name (active p (task_of (ready_world p name w) name)) Tail (deadline_shown p (task_of (ready_world p name w) name))) w
        (ready_world p name w) refl (ready-tied p name w))
        (λ t. ready-claim acts loose p part name w t);
    wakes = λ name w g. record {
      core = wakes-core acts loose name w g.0 (λ s h. same-tied s name (with_state Runnable) w (λ u. refl) h);
      extra = extra.readies name w g.1;
    };
    blocks = λ name waiting w g may. record {
      core =
          blocks-core acts loose name waiting w g.0 (λ k. known.may_free name w g.1 may)
          (line-tells NotLeaving TheBlock (said.Block name (word_of waiting)) w (blocked_world name waiting w) refl (blocked-tied name waiting w));
      extra = blocked-extra name waiting w (extra.blocks name waiting w may g.1);
    };
    blocks_apart = λ name waiting w g stops apart. record {
      core =
          blocks-core acts loose name waiting w g.0 (λ k. waits-apart name waiting apart k)
          (line-tells NotLeaving TheBlock (said.Block name (word_of waiting)) w (blocked_world name waiting w) refl (blocked-tied name waiting w));
      extra = blocked-extra name waiting w (extra.blocks_apart name waiting w stops apart g.1);
    };
    waits_silently = λ name accepts delay w g may. record {
      core =
          silent-core acts loose name accepts delay w g.0 (known.may_free name w g.1 may) (known.may_loose name may)
          (λ s h. same-tied s name (with_state (Blocked (waits_for.Select accepts delay true))) w (λ u. refl) h);
      extra = extra.blocks name (waits_for.Select accepts delay true) w may g.1;
    };
    places_awake =
        λ p part name end w g awake. placed-as w (ready_line p part name end w) g
        (other-tells NotLeaving part (said.Ready name (active p (task_of w name)) end (deadline_shown p (task_of w name))) w refl)
        (λ t. placed-claim acts loose t w (ready_line p part name end w) name (λ n. refl) awake);
    places_acting =
        λ p name end w g acting. placed-as w (ready_line p ThePlacing name end w) g
        (other-tells NotLeaving ThePlacing (said.Ready name (active p (task_of w name)) end (deadline_shown p (task_of w name))) w refl)
        (λ t. acting-claim acts loose t w (ready_line p ThePlacing name end w) name (λ n. refl) refl acting);
    adds_task = λ t w g named none still. record {
      core = record {
        base = record {
          tells = moved NotLeaving w (add_task t w) (λ s h. added-tied s t w none h);
          called = λ n c h. h;
          claims = λ k. added-claim t w k still;
          inv = (added-good w.calls w.drawn.calls t w.tasks (new-good w.calls w.drawn.calls t none still) g.0.0, g.0.1);
        };
        free = λ n h. of_added FreeTask n t w (new-free t none) h;
      };
      extra = extra.adds t w none still g.1;
    };
    forgets_task = λ name w g stops. record {
      core = record {
        base = record {
          tells = moved NotLeaving w (forget_task name w) (λ s h. forgotten-tied s name w h);
          called = λ n c h. h;
          claims = λ k. forgotten-claim name w k;
          inv = (filtered-good w.calls w.drawn.calls _ w.tasks g.0.0, g.0.1);
        };
        free = λ n h. of_forgotten FreeTask n name w refl h;
      };
      extra = extra.forgets name w stops g.1;
    };
    sets_quantum = λ level ticks w g. untouched w _ (unmoved NotLeaving w) refl refl g.0 (λ n c h. h) g.1;
    ends_environment = λ leaving w g. untouched w _ (unmoved NotLeaving w) refl refl g.0 (λ n c h. h) g.1;
    begins_scope = λ p name scope b w g. untouched w (begin_scope p name scope b w) (unmoved NotLeaving w) refl refl g.0 (λ n c h. h) g.1;
    edits_cells = λ id f w g. untouched w _ (unmoved NotLeaving w) refl refl g.0 (λ n c h. h) g.1;
    ends_scope = λ id w g. untouched w _ (unmoved NotLeaving w) refl refl g.0 (λ n c h. h) g.1;
    edits_call =
        λ c f w g number caller. untouched w _ (unmoved NotLeaving w) refl refl
        (calls-inv w.calls _ w.drawn.calls w.drawn.calls w.tasks w.agent (λ n k h. edited-caller c f w.calls w.drawn.calls number caller n k h) g.0)
        (λ n k h. edited-caller c f w.calls w.drawn.calls number caller n k h) g.1;
    adds_call =
        λ c w g. untouched w _ (unmoved NotLeaving w) refl refl
        (calls-inv w.calls _ w.drawn.calls (suc w.drawn.calls) w.tasks w.agent (λ n k h. added-caller c w.calls w.drawn.calls n k h) g.0)
        (λ n k h. added-caller c w.calls w.drawn.calls n k h) g.1;
    forgets_call =
        λ c w g. untouched w _ (unmoved NotLeaving w) refl refl
        (calls-inv w.calls _ w.drawn.calls w.drawn.calls w.tasks w.agent (λ n k h. gone-caller c w.calls w.drawn.calls n k h) g.0)
        (λ n k h. gone-caller c w.calls w.drawn.calls n k h) g.1;
    edits_object = λ o f w g number actions. untouched w _ (unmoved NotLeaving w) refl refl g.0 (λ n c h. h) g.1;
    adds_object = λ p l u w g. untouched w _ (unmoved NotLeaving w) refl refl g.0 (λ n c h. h) g.1;
    enters =
        λ name o mode w g h. told w (open_action name o mode w) (own (said.Enter name o mode) ∷ [])
        (line-tells NotLeaving Own (said.Enter name o mode) w (open_action name o mode w) refl (λ s k. k)) refl refl g.0 (λ n c k. k) (λ t. (refl, tt)) g.1;
    closes =
        λ name o w g. told w (close_action name o w) (own (said.Exit name o) ∷ [])
        (line-tells NotLeaving Own (said.Exit name o) w (close_action name o w) refl (λ s k. k)) refl refl g.0 (λ n c k. k) (λ t. (refl, tt)) g.1;
    visits = λ name o mode xs w v g h quiet k. record {
      core = record {
        base = record {
          tells = round-tells NotLeaving name (said.Enter name o mode) (said.Exit name o) xs w v refl refl quiet k.core.base.tells;
          called = k.core.base.called;
          claims =
              λ t. round-claim t w v (own (said.Enter name o mode) ∷ xs ++ own (said.Exit name o) ∷ []) (k.core.base.claims t) (
                refl,
                Quiet-end (who.Task t) xs (own (said.Exit name o)) (quiet-lines (who.Task t) xs quiet) refl,
              );
          inv = k.core.base.inv;
        };
        free = k.core.free;
      };
      extra = k.extra;
    };
    finds_held =
        λ name o mode w g h. told w w (own (said.Held name o mode) ∷ []) (other-tells NotLeaving Own (said.Held name o mode) w refl) refl refl g.0 (λ n c k. k)
        (λ t. (refl, tt)) g.1;
    appoints = λ due moment w g. untouched w _ (unmoved NotLeaving w) refl refl g.0 (λ n c h. h) g.1;
    drops_appointment = λ test w g. untouched w _ (unmoved NotLeaving w) refl refl g.0 (λ n c h. h) g.1;
    registers =
        λ name l w g free. told w (registered_as (suc w.drawn.controlled) (top_region w name) l w) _
        (registers-tells NotLeaving name l w (λ s h. early name w free s h)) refl refl g.0 (λ n c k. k) (λ t. (refl, tt)) g.1;
    finalizes =
        λ name f m r x w g top is region left next. told w (no_longer_registered x.object w) _
        (finalizes-tells NotLeaving name f m r x w top is region left next) refl refl g.0 (λ n c k. k) (λ t. (refl, tt)) g.1;
    replaces = λ name l x w g found. told w w _ (replaces-tells NotLeaving name l x w found) refl refl g.0 (λ n c k. k) (λ t. (refl, tt)) g.1;
    draws_event = λ w g. untouched w _ (unmoved NotLeaving w) refl refl g.0 (λ n c h. h) g.1;
    adds_timer = λ t w g. untouched w _ (unmoved NotLeaving w) refl refl g.0 (λ n c h. h) g.1;
    clears_timer = λ k w g. untouched w _ (unmoved NotLeaving w) refl refl g.0 (λ n c h. h) g.1;
    sets_timer = λ k h value w g. untouched w _ (unmoved NotLeaving w) refl refl g.0 (λ n c j. j) g.1;
    sets_timers_due = λ timers w g. untouched w _ (unmoved NotLeaving w) refl refl g.0 (λ n c h. h) g.1;
    adds_budget = λ w g. untouched w _ (unmoved NotLeaving w) refl refl g.0 (λ n c h. h) g.1;
    edits_budget = λ b f w g. untouched w _ (unmoved NotLeaving w) refl refl g.0 (λ n c h. h) g.1;
    sets_budget_due = λ budget w g. untouched w _ (unmoved NotLeaving w) refl refl g.0 (λ n c h. h) g.1;
    releases =
        λ h argument w g. told w (add_release h argument w) (own (said.Release (suc w.drawn.releases) h) ∷ [])
        (line-tells NotLeaving Own (said.Release (suc w.drawn.releases) h) w (add_release h argument w) refl (λ s k. k)) refl refl g.0 (λ n c k. k)
        (λ t. (refl, tt)) g.1;
    has_served =
        λ r w g is. told w (serves_nothing w) (own (said.Served r.number) ∷ [])
        (line-tells NotLeaving Own (said.Served r.number) w (serves_nothing w) refl (λ s k. k)) refl refl g.0 (λ n c k. k) (λ t. (refl, tt)) g.1;
    sets_port = λ n value w g. untouched w _ (unmoved NotLeaving w) refl refl g.0 (λ m c h. h) g.1;
    masks = λ n flag w g. untouched w _ (unmoved NotLeaving w) refl refl g.0 (λ m c h. h) g.1;
    keeps_interrupt = λ n flag w g. untouched w _ (unmoved NotLeaving w) refl refl g.0 (λ m c h. h) g.1;
    cuts_script = λ x rest w g is due. untouched w _ (unmoved NotLeaving w) refl refl g.0 (λ m c h. h) g.1;
  }
