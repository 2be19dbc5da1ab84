-- A scope begins together with the mark that has it, and ends together with it: a good world stays good.
use Rattle.std.proofs.Common.{◌≡◌, suc, Bool, true, false, List, [], ◌∷◌, Option, Some, None, refl, sym, ap, subst, ◌∙◌, unwrap_or}
use Rattle.std.proofs.lemmas.Bool.{false≢true}
use Rattle.trace_text.specs.declared.events.Who.{Who}
use Rattle.trace_text.specs.declared.events.Who.TheVariants as who
use Rattle.profile_image.specs.declared.image.Image.{Image}
use Rattle.profile_image.specs.declared.numbers.ScopeNo.{ScopeNo}
use Rattle.profile_image.specs.declared.numbers.StatementNo.{StatementNo}
use Rattle.profile_machine.specs.declared.world.World.{World}
use Rattle.profile_machine.specs.declared.world.calls.Call.{Call}
use Rattle.profile_machine.specs.declared.world.marks.Frame.{Frame}
use Rattle.profile_machine.specs.declared.world.marks.Mark.TheVariants.{InAccept}
use Rattle.profile_machine.specs.declared.world.marks.Purpose.{Purpose}
use Rattle.profile_machine.specs.declared.world.scopes.Beginning.{Beginning}
use Rattle.profile_machine.specs.declared.world.scopes.ScopeId.{ScopeId}
use Rattle.profile_machine.specs.declared.world.tasks.Task.{Task}
use Rattle.profile_image.specs.Words.{same_who}
use Rattle.world_tables.specs.Lists.{first_of, rest_of}
use Rattle.profile_image.specs.Program.{form_of, scope_of}
use Rattle.profile_machine.specs.Calls.{parameters_of}
use Rattle.profile_machine.specs.Tasks.{found_task, is_who, is_made, nobody, task_at, task_of, with_frames}
use Rattle.profile_machine.specs.Frames.{new_frame, pop, push, top_of}
use Rattle.profile_machine.specs.Scopes.{begin_scope, draw_region, end_scope, id_in, innermost, new_scope_mark, next_id, open_scope, plainly, region_of_next}
use Rattle.profile_machine.specs.Rendezvous.{accept_scope, open_accept}
use Rattle.profile_machine.specs.Tasking.{is_task_scope}
use Rattle.world_laws.proofs.Scopes.FineMoves.{Live, is_task_mark, natures}
use Rattle.world_laws.proofs.Scopes.ScopeKeys.{drop_number, scope_keys, scope_keys-without}
use Rattle.world_laws.proofs.Scopes.TaskMarks.{bottomed, marks_of, owns_in, with_own-some, ended-owns}
use Rattle.world_laws.proofs.Scopes.TaskPuts.{Put, put-edit, edited-rest}
use Rattle.world_laws.proofs.Scopes.GoodWorlds.{Good, GoodBut, begins-good, ends-good, own-alone}
use Rattle.line_laws.proofs.Exits.TaskEdits.{one_of, one_of-is, same_who-path}
use Rattle.line_laws.proofs.Leaving.TaskLemmas.{found-holds}
use Rattle.machine_laws.proofs.QueueLemmas.{by_test}

-- ---- who is there

pub record There (name : Who) (w : World) : Type 0 where
  pub task : Task
  pub found : task_at w name ≡ Some task

live-found : (found : Option Task) → is_made (unwrap_or found nobody) ≡ false → (t : Task) × (found ≡ Some t)
live-found None e = absurd cc
live-found (Some t) e = (t, refl)

pub live-there : (name : Who) (w : World) → Live name w → There name w
live-there name w e = let h = live-found (task_at w name) e in record { task = h.0; found = h.1 }

top-found : (f : Frame) (found : Option Task) → first_of (unwrap_or found nobody).frames ≡ Some f → (t : Task) × (found ≡ Some t)
top-found f None e = absurd cc
top-found f (Some t) e = (t, refl)

pub top-there : (name : Who) (f : Frame) (w : World) → top_of w name ≡ Some f → There name w
top-there name f w e = let h = top-found f (task_at w name) e in record { task = h.0; found = h.1 }

pub there-is : (name : Who) (w : World) (there : There name w) → task_of w name ≡ there.task
there-is name w there = ap (λ found. unwrap_or found nobody) there.found

pub there-named : (free : Who → Bool) (name : Who) (w : World) (there : There name w) → GoodBut free w → there.task.who ≡ name
there-named free (who.Task k) w there g = sym (same_who-path (who.Task k) there.task.who (found-holds (is_who (who.Task k)) w.tasks there.task there.found))
there-named free who.Agent w there g = let found = there.found in let is : w.agent ≡ there.task = cc in ap (λ (x : Task). x.who) (sym is) ∙ g.agent_named

-- what an edit leaves of who is not only made
pub put-live : (name : Who) (t u : Task) (tasks : List Task) (agent : Task) (tasks_behind : List Task) (agent_behind : Task)
    → Put name t u tasks agent tasks_behind agent_behind → (is_made t ≡ false → is_made u ≡ false)
    → (n : Who) → is_made (one_of tasks agent n) ≡ false → is_made (one_of tasks_behind agent_behind n) ≡ false
put-live name t u tasks agent tasks_behind agent_behind put keeps n e =
    by_test (same_who n name)
    (λ same. let is : n ≡ name = same_who-path n name same in
    let own : is_made t ≡ false = subst (λ (x : Task). is_made x ≡ false) put.own (subst (λ x. is_made (one_of tasks agent x) ≡ false) is e) in
    subst (λ x. is_made (one_of tasks_behind agent_behind x) ≡ false) (sym is) (subst (λ (x : Task). is_made x ≡ false) (sym put.is) (keeps own)))
    (λ apart. subst (λ (x : Task). is_made x ≡ false) (sym (put.other n apart)) e)

-- ---- a scope begins

-- a scope of somebody has begun, and nothing else is changed of scopes and tasks
pub record Begun (name : Who) (w v : World) : Type 0 where
  pub tasks : v.tasks ≡ w.tasks
  pub agent : v.agent ≡ w.agent
  pub keys : scope_keys v.scopes ≡ (name, w.drawn.scopes) ∷ scope_keys w.scopes
  pub drawn_tasks : v.drawn.tasks ≡ w.drawn.tasks
  pub drawn_scopes : v.drawn.scopes ≡ suc w.drawn.scopes

begun-at : (n name : Who) (w v : World) → Begun name w v → task_at v n ≡ task_at w n
begun-at (who.Task k) name w v b = ap (λ ts. found_task (who.Task k) ts) b.tasks
begun-at who.Agent name w v b = ap (λ t. Some t) b.agent

-- it is pushed onto somebody who is there
pub begun-put : (name : Who) (f : Frame) (w v : World) (there : There name w) → Begun name w v
    → Put name there.task (with_frames (f ∷ there.task.frames) there.task) w.tasks w.agent (push name f v).tasks (push name f v).agent
begun-put name f w v there b =
    let t = there.task in
    let p = put-edit name (λ u. with_frames (f ∷ u.frames) u) v t (begun-at name name w v b ∙ there.found) refl (λ h. h) in
    subst (λ ts. Put name t (with_frames (f ∷ t.frames) t) ts w.agent (push name f v).tasks (push name f v).agent) b.tasks
    (subst (λ a. Put name t (with_frames (f ∷ t.frames) t) v.tasks a (push name f v).tasks (push name f v).agent) b.agent p)

pub begun-good : (free : Who → Bool) (name : Who) (f : Frame) (w v : World) (there : There name w) → GoodBut free w → Begun name w v
    → id_in f.mark ≡ Some (next_id w) → (is_task_mark f.mark ≡ true → marks_of there.task ≡ [])
    → (free name ≡ false → is_made there.task ≡ false) → GoodBut free (push name f v)
begun-good free name f w v there g b id alone live =
    let t = there.task in
    let u = with_frames (f ∷ t.frames) t in
    let z = push name f v in
    let named = there-named free name w there g in
    let marks = with_own-some (id_in f.mark) (next_id w) (is_task_mark f.mark) (marks_of t) id in
    let h =
    begins-good (begun-put name f w v there b) named named free (scope_keys w.scopes) w.drawn.tasks w.drawn.scopes
    (is_task_mark f.mark) g marks alone live in
    let rest = edited-rest name (λ x. with_frames (f ∷ x.frames) x) v in
    let keys : scope_keys z.scopes ≡ (name, w.drawn.scopes) ∷ scope_keys w.scopes = ap scope_keys rest.0 ∙ b.keys in
    let drawn_tasks : z.drawn.tasks ≡ w.drawn.tasks = ap (λ d. d.tasks) rest.1 ∙ b.drawn_tasks in
    let drawn_scopes : z.drawn.scopes ≡ suc w.drawn.scopes = ap (λ d. d.scopes) rest.1 ∙ b.drawn_scopes in
    subst (λ k. Good free z.tasks z.agent (scope_keys z.scopes) z.drawn.tasks k) (sym drawn_scopes)
    (subst (λ k. Good free z.tasks z.agent (scope_keys z.scopes) k (suc w.drawn.scopes)) (sym drawn_tasks)
    (subst (λ ks. Good free z.tasks z.agent ks w.drawn.tasks (suc w.drawn.scopes)) (sym keys) h))

pub begun-live : (name : Who) (f : Frame) (w v : World) (there : There name w) → Begun name w v → (n : Who) → Live n w → Live n (push name f v)
begun-live name f w v there b n e =
    let z = push name f v in
    subst (λ (x : Task). is_made x ≡ false) (one_of-is z n)
    (put-live name there.task (with_frames (f ∷ there.task.frames) there.task) w.tasks w.agent z.tasks z.agent (begun-put name f w v there b) (λ h. h) n
    (subst (λ (x : Task). is_made x ≡ false) (sym (one_of-is w n)) e))

scope-begun : (p : Image) (name : Who) (scope : ScopeNo) (b : Beginning) (w : World) → Begun name w (begin_scope p name scope b w)
scope-begun p name scope b w = record { tasks = refl; agent = refl; keys = refl; drawn_tasks = refl; drawn_scopes = refl }

region-begun : (kept : Bool) (p : Image) (name : Who) (scope : ScopeNo) (b : Beginning) (w : World)
    → Begun name w (draw_region kept (begin_scope p name scope b w))
region-begun true p name scope b w = record { tasks = refl; agent = refl; keys = refl; drawn_tasks = refl; drawn_scopes = refl }
region-begun false p name scope b w = scope-begun p name scope b w

-- the mark of a scope that is opened, and of an accept
abbrev scope_frame : Image → ScopeNo → Purpose → World → Frame
scope_frame p scope purpose w = new_frame (new_scope_mark (next_id w) (region_of_next (scope_of p scope).kept w) purpose) (scope_of p scope).first

pub opens-good : (free : Who → Bool) (p : Image) (name : Who) (scope : ScopeNo) (b : Beginning) (purpose : Purpose) (w : World) (there : There name w)
    → GoodBut free w → (is_task_scope purpose ≡ true → marks_of there.task ≡ [])
    → (free name ≡ false → is_made there.task ≡ false) → GoodBut free (open_scope p name scope b purpose w)
opens-good free p name scope b purpose w there g alone live =
    begun-good free name (scope_frame p scope purpose w) w (draw_region (scope_of p scope).kept (begin_scope p name scope b w)) there g
    (region-begun (scope_of p scope).kept p name scope b w) refl alone live

pub opens-live : (p : Image) (name : Who) (scope : ScopeNo) (b : Beginning) (purpose : Purpose) (w : World) → There name w → (n : Who) → Live n w
    → Live n (open_scope p name scope b purpose w)
opens-live p name scope b purpose w there =
    begun-live name (scope_frame p scope purpose w) w (draw_region (scope_of p scope).kept (begin_scope p name scope b w)) there
    (region-begun (scope_of p scope).kept p name scope b w)

pub opens-put : (p : Image) (name : Who) (scope : ScopeNo) (b : Beginning) (purpose : Purpose) (w : World) (there : There name w)
    →
    let v = open_scope p name scope b purpose w in
    let f = scope_frame p scope purpose w in Put name there.task (with_frames (f ∷ there.task.frames) there.task) w.tasks w.agent v.tasks v.agent
opens-put p name scope b purpose w there =
    begun-put name (scope_frame p scope purpose w) w (draw_region (scope_of p scope).kept (begin_scope p name scope b w)) there
    (region-begun (scope_of p scope).kept p name scope b w)

abbrev accept_frame : Image → StatementNo → Call → World → Frame
accept_frame p s c w =
    new_frame (InAccept (record { call = c.number; accept = s; within = next_id w; handles = None })) (scope_of p (accept_scope (form_of p s))).first

abbrev accept_beginning : Image → Who → Call → World → Beginning
accept_beginning p name c w = record (plainly (innermost w name)) { values = parameters_of p c }

pub accepts-good : (free : Who → Bool) (p : Image) (name : Who) (s : StatementNo) (c : Call) (w : World) (there : There name w) → GoodBut free w
    → (free name ≡ false → is_made there.task ≡ false) → GoodBut free (open_accept p name s c w)
accepts-good free p name s c w there g live =
    begun-good free name (accept_frame p s c w) w (begin_scope p name (accept_scope (form_of p s)) (accept_beginning p name c w) w) there g
    (scope-begun p name (accept_scope (form_of p s)) (accept_beginning p name c w) w) refl (λ e. absurd (false≢true e)) live

pub accepts-live : (p : Image) (name : Who) (s : StatementNo) (c : Call) (w : World) → There name w → (n : Who) → Live n w → Live n (open_accept p name s c w)
accepts-live p name s c w there =
    begun-live name (accept_frame p s c w) w (begin_scope p name (accept_scope (form_of p s)) (accept_beginning p name c w) w) there
    (scope-begun p name (accept_scope (form_of p s)) (accept_beginning p name c w) w)

-- ---- a scope ends

pub popped-put : (name : Who) (w : World) (there : There name w) →
    let v = pop name w in
    Put name there.task (with_frames (rest_of there.task.frames) there.task) w.tasks w.agent v.tasks v.agent
popped-put name w there = put-edit name (λ u. with_frames (rest_of u.frames) u) w there.task there.found refl (λ h. h)

there-top : (name : Who) (f : Frame) (w : World) (there : There name w) → top_of w name ≡ Some f → first_of there.task.frames ≡ Some f
there-top name f w there top = subst (λ (x : Task). first_of x.frames ≡ Some f) (there-is name w there) top

pub scope_ends-good : (free : Who → Bool) (name : Who) (f : Frame) (id : ScopeId) (w : World) → GoodBut free w → top_of w name ≡ Some f → id_in f.mark ≡ Some id
    → GoodBut free (end_scope id (pop name w))
scope_ends-good free name f id w g top is =
    let there = top-there name f w top in
    let t = there.task in
    let v = pop name w in
    let named = there-named free name w there g in
    let marks = ended-owns f id t.frames (there-top name f w there top) is in
    let h =
    ends-good (popped-put name w there) named named free (scope_keys w.scopes) w.drawn.tasks w.drawn.scopes id.0 (is_task_mark f.mark) g marks (λ e. e) in
    let rest = edited-rest name (λ u. with_frames (rest_of u.frames) u) w in
    let keys : scope_keys (end_scope id v).scopes ≡ drop_number id.0 (scope_keys w.scopes) =
    scope_keys-without id v.scopes ∙ ap (λ ss. drop_number id.0 (scope_keys ss)) rest.0 in
    let drawn_tasks : v.drawn.tasks ≡ w.drawn.tasks = ap (λ d. d.tasks) rest.1 in
    let drawn_scopes : v.drawn.scopes ≡ w.drawn.scopes = ap (λ d. d.scopes) rest.1 in
    subst (λ k. Good free v.tasks v.agent (scope_keys (end_scope id v).scopes) v.drawn.tasks k) (sym drawn_scopes)
    (subst (λ k. Good free v.tasks v.agent (scope_keys (end_scope id v).scopes) k w.drawn.scopes) (sym drawn_tasks)
    (subst (λ ks. Good free v.tasks v.agent ks w.drawn.tasks w.drawn.scopes) (sym keys) h))

pub scope_ends-live : (name : Who) (f : Frame) (id : ScopeId) (w : World) → top_of w name ≡ Some f → (n : Who) → Live n w → Live n (end_scope id (pop name w))
scope_ends-live name f id w top n e =
    let there = top-there name f w top in
    let v = pop name w in
    subst (λ (x : Task). is_made x ≡ false) (one_of-is (end_scope id v) n)
    (put-live name there.task (with_frames (rest_of there.task.frames) there.task) w.tasks w.agent v.tasks v.agent (popped-put name w there) (λ h. h) n
    (subst (λ (x : Task). is_made x ≡ false) (sym (one_of-is w n)) e))

-- below a task's own scope it has none
pub own_ends-alone : (free : Who → Bool) (name : Who) (f : Frame) (id : ScopeId) (w : World) → GoodBut free w → top_of w name ≡ Some f → id_in f.mark ≡ Some id
    → is_task_mark f.mark ≡ true → marks_of (task_of (end_scope id (pop name w)) name) ≡ []
own_ends-alone free name f id w g top is own =
    let there = top-there name f w top in
    let t = there.task in
    let put = popped-put name w there in
    let marks = ended-owns f id t.frames (there-top name f w there top) is in
    let whole = subst (λ (x : Task). bottomed (marks_of x) ≡ true) (put.own) (g.bottom name) in
    let none = own-alone id.0 (is_task_mark f.mark) (owns_in (natures (rest_of t.frames))) own (subst (λ ms. bottomed ms ≡ true) marks whole) in
    subst (λ (x : Task). marks_of x ≡ []) (one_of-is (end_scope id (pop name w)) name) (subst (λ (x : Task). marks_of x ≡ []) (sym put.is) none)
