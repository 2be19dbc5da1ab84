-- Worlds with the same scopes: each task is who it was, with the scopes of its marks, and is only made at most where it was; and the
-- scopes in use are the same, and as many scopes and tasks are drawn.
use Rattle.std.proofs.Common.{◌≡◌, ℕ, ◌+◌, Bool, true, false, cond, List, [], ◌∷◌, ◌++◌, Option, Some, None, refl, sym, ap, subst, ◌∙◌}
use Rattle.std.specs.Prelude.{find, unwrap_or}
use Rattle.trace_text.specs.declared.events.Who.{Who}
use Rattle.trace_text.specs.declared.events.Who.TheVariants as who
use Rattle.profile_machine.specs.declared.world.World.{World}
use Rattle.profile_machine.specs.declared.world.tasks.Task.{Task}
use Rattle.profile_machine.specs.declared.world.marks.Frame.{Frame}
use Rattle.profile_image.specs.Words.{same_who, set_where}
use Rattle.world_tables.specs.Lists.{first_of, rest_of}
use Rattle.profile_machine.specs.Tasks.{is_who, is_made, nobody, task_at, task_of, edit_task_found, edit_task, with_frames}
use Rattle.profile_machine.specs.Frames.{push, pop, top_of, is_protected}
use Rattle.profile_machine.specs.Scopes.{id_in}
use Rattle.world_laws.proofs.Scopes.FineMoves.{nature, natures}
use Rattle.world_laws.proofs.Scopes.ScopeKeys.{Key, scope_keys}
use Rattle.world_laws.proofs.Scopes.TaskMarks.{owns_in, marks_of, keys_by, task_keys, shielded, opened-owns, opened-shielded, popped-owns, popped-shielded}
use Rattle.line_laws.proofs.Exits.OpenCounts.{bit}

-- ---- a task

pub record Like (t u : Task) : Type 0 where
  pub who : u.who ≡ t.who
  pub marks : marks_of u ≡ marks_of t
  pub shield : shielded (natures t.frames) ≡ true → shielded (natures u.frames) ≡ true
  pub made : is_made u ≡ true → is_made t ≡ true

pub like-self : (t : Task) → Like t t
like-self t = record { who = refl; marks = refl; shield = λ e. e; made = λ e. e }

like-then : (t u v : Task) → Like t u → Like u v → Like t v
like-then t u v a b = record { who = b.who ∙ a.who; marks = b.marks ∙ a.marks; shield = λ e. b.shield (a.shield e); made = λ e. a.made (b.made e) }

pub like-keys : (t u : Task) → Like t u → task_keys u ≡ task_keys t
like-keys t u a = ap (λ n. keys_by n (marks_of u)) a.who ∙ ap (λ ms. keys_by t.who ms) a.marks

-- marks that are alike, and states that are the same
pub like-frames : (t : Task) (fs : List Frame) → natures fs ≡ natures t.frames → Like t (with_frames fs t)
like-frames t fs e = record { who = refl; marks = ap owns_in e; shield = λ h. ap shielded e ∙ h; made = λ h. h }

pub like-opened : (t : Task) (f : Frame) → (nature f.mark).id ≡ None → Like t (with_frames (f ∷ t.frames) t)
like-opened t f none = record { who = refl; marks = opened-owns f t.frames none; shield = λ h. opened-shielded f t.frames none h; made = λ h. h }

pub like-popped : (t : Task) (f : Frame) → first_of t.frames ≡ Some f → is_protected f.mark ≡ false → id_in f.mark ≡ None
    → Like t (with_frames (rest_of t.frames) t)
like-popped t f top plain none = record {
  who = refl;
  marks = popped-owns f t.frames top none;
  shield = λ h. popped-shielded f t.frames top plain none h;
  made = λ h. h;
}

-- ---- lists of tasks

abbrev pub AllLike : List Task → List Task → Type 0
AllLike [] [] = Unit {0}
AllLike [] (u ∷ us) = ⊥
AllLike (t ∷ ts) [] = ⊥
AllLike (t ∷ ts) (u ∷ us) = Like t u × AllLike ts us

pub all-self : (ts : List Task) → AllLike ts ts
all-self [] = tt
all-self (t ∷ ts) = (like-self t, all-self ts)

pub all-then : (ts us vs : List Task) → AllLike ts us → AllLike us vs → AllLike ts vs
all-then [] [] vs a b = b
all-then [] (u ∷ us) vs a b = absurd a
all-then (t ∷ ts) [] vs a b = absurd a
all-then (t ∷ ts) (u ∷ us) [] a b = b
all-then (t ∷ ts) (u ∷ us) (v ∷ vs) a b = (like-then t u v a.0 b.0, all-then ts us vs a.1 b.1)

set-step : (test : Task → Bool) (z t u : Task) (zs : List Task) (b : Bool) → cond b (Some z) (find test zs) ≡ Some t → Like t u
    → (find test zs ≡ Some t → AllLike zs (set_where test u zs)) → AllLike (z ∷ zs) (cond b (u ∷ zs) (z ∷ set_where test u zs))
set-step test z t u zs true e like onward = let is : z ≡ t = cc in (subst (λ x. Like x u) (sym is) like, all-self zs)
set-step test z t u zs false e like onward = (like-self z, onward e)

pub all-set : (test : Task → Bool) (t u : Task) (ts : List Task) → find test ts ≡ Some t → Like t u → AllLike ts (set_where test u ts)
all-set test t u [] e like = absurd cc
all-set test t u (z ∷ zs) e like = set-step test z t u zs (test z) e like (λ k. all-set test t u zs k like)

-- their keys, their names, and who is found by a name
abbrev pub keys_of : List Task → List Key
keys_of [] = []
keys_of (t ∷ ts) = task_keys t ++ keys_of ts

abbrev pub named : Who → List Task → ℕ
named n [] = 0
named n (t ∷ ts) = bit (is_who n t) + named n ts

pub all-keys : (ts us : List Task) → AllLike ts us → keys_of us ≡ keys_of ts
all-keys [] [] a = refl
all-keys [] (u ∷ us) a = absurd a
all-keys (t ∷ ts) [] a = absurd a
all-keys (t ∷ ts) (u ∷ us) a = ap (λ ks. ks ++ keys_of us) (like-keys t u a.0) ∙ ap (λ ks. task_keys t ++ ks) (all-keys ts us a.1)

pub all-named : (n : Who) (ts us : List Task) → AllLike ts us → named n us ≡ named n ts
all-named n [] [] a = refl
all-named n [] (u ∷ us) a = absurd a
all-named n (t ∷ ts) [] a = absurd a
all-named n (t ∷ ts) (u ∷ us) a = ap (λ k. bit (same_who n k) + named n us) a.0.who ∙ ap (λ m. bit (is_who n t) + m) (all-named n ts us a.1)

found-step : (b : Bool) (t u : Task) (x y : Option Task) → Like t u → Like (unwrap_or x nobody) (unwrap_or y nobody)
    → Like (unwrap_or (cond b (Some t) x) nobody) (unwrap_or (cond b (Some u) y) nobody)
found-step true t u x y a b = a
found-step false t u x y a b = b

pub all-found : (n : Who) (ts us : List Task) → AllLike ts us → Like (unwrap_or (find (is_who n) ts) nobody) (unwrap_or (find (is_who n) us) nobody)
all-found n [] [] a = like-self nobody
all-found n [] (u ∷ us) a = absurd a
all-found n (t ∷ ts) [] a = absurd a
all-found n (t ∷ ts) (u ∷ us) a =
    subst (λ k. Like (unwrap_or (find (is_who n) (t ∷ ts)) nobody) (unwrap_or (cond (same_who n k) (Some u) (find (is_who n) us)) nobody)) (sym a.0.who)
    (found-step (is_who n t) t u (find (is_who n) ts) (find (is_who n) us) a.0 (all-found n ts us a.1))

-- ---- worlds

-- the keys of everybody
abbrev pub everybody_keys : List Task → Task → List Key
everybody_keys tasks agent = keys_of tasks ++ task_keys agent

pub record Same (w v : World) : Type 0 where
  pub tasks : AllLike w.tasks v.tasks
  pub agent : Like w.agent v.agent
  pub scopes : scope_keys v.scopes ≡ scope_keys w.scopes
  pub drawn_scopes : v.drawn.scopes ≡ w.drawn.scopes
  pub drawn_tasks : v.drawn.tasks ≡ w.drawn.tasks

pub same-then : (a b c : World) → Same a b → Same b c → Same a c
same-then a b c p q = record {
  tasks = all-then a.tasks b.tasks c.tasks p.tasks q.tasks;
  agent = like-then a.agent b.agent c.agent p.agent q.agent;
  scopes = q.scopes ∙ p.scopes;
  drawn_scopes = q.drawn_scopes ∙ p.drawn_scopes;
  drawn_tasks = q.drawn_tasks ∙ p.drawn_tasks;
}

pub like_at : (w v : World) (n : Who) → Same w v → Like (task_of w n) (task_of v n)
like_at w v (who.Task n) a = all-found (who.Task n) w.tasks v.tasks a.tasks
like_at w v who.Agent a = a.agent

edited-found : (name : Who) (f : Task → Task) (w : World) (found : Option Task) → task_at w name ≡ found → ((t : Task) → found ≡ Some t → Like t (f t))
    → Same w (edit_task_found name f w found)
edited-found name f w None e like = record { tasks = all-self w.tasks; agent = like-self w.agent; scopes = refl; drawn_scopes = refl; drawn_tasks = refl }
edited-found (who.Task n) f w (Some t) e like = record {
  tasks = all-set (is_who (who.Task n)) t (f t) w.tasks e (like t refl);
  agent = like-self w.agent;
  scopes = refl;
  drawn_scopes = refl;
  drawn_tasks = refl;
}
edited-found who.Agent f w (Some t) e like = record {
  tasks = all-self w.tasks;
  agent = subst (λ x. Like x (f t)) (let is : t ≡ w.agent = cc in is) (like t refl);
  scopes = refl;
  drawn_scopes = refl;
  drawn_tasks = refl;
}

pub edited-same : (name : Who) (f : Task → Task) (w : World) → ((t : Task) → Like t (f t)) → Same w (edit_task name f w)
edited-same name f w like = edited-found name f w (task_at w name) refl (λ t e. like t)

-- somebody whose mark on top is known
found-top : (w : World) (name : Who) (f : Frame) (t : Task) → task_at w name ≡ Some t → top_of w name ≡ Some f → first_of t.frames ≡ Some f
found-top w name f t e top = subst (λ found. first_of (unwrap_or found nobody).frames ≡ Some f) e top

pub popped-same : (name : Who) (f : Frame) (w : World) → top_of w name ≡ Some f → is_protected f.mark ≡ false → id_in f.mark ≡ None → Same w (pop name w)
popped-same name f w top plain none =
    edited-found name (λ t. with_frames (rest_of t.frames) t) w (task_at w name) refl (λ t e. like-popped t f (found-top w name f t e top) plain none)

pub opened-same : (name : Who) (f : Frame) (w : World) → (nature f.mark).id ≡ None → Same w (push name f w)
opened-same name f w none = edited-same name (λ t. with_frames (f ∷ t.frames) t) w (λ t. like-opened t f none)
