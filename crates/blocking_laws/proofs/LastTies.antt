-- What ties lines to a world: the actions of somebody that its marks have open are the last ones that the lines show of it.
use Rattle.std.proofs.Common.{◌≡◌, ℕ, suc, ◌<◌, ◌≤◌, Bool, true, false, cond, ◌||◌, List, [], ◌∷◌, ◌++◌}
use Rattle.std.proofs.Common.{Option, Some, None, refl, sym, ap, subst, ◌∙◌, eq-eqb, arith}
use Rattle.std.specs.Prelude.{find}
use Rattle.std.proofs.lemmas.Bool.{eqb-true, false≢true}
use Rattle.ann_base.specs.declared.identities.CallNo.{CallNo}
use Rattle.ann_base.specs.declared.identities.ObjectNo.{ObjectNo}
use Rattle.ann_base.specs.declared.identities.TaskNo.{TaskNo}
use Rattle.trace_text.specs.declared.events.Action as shown
use Rattle.trace_text.specs.declared.events.Event.{Event}
use Rattle.trace_text.specs.declared.events.Event.TheVariants as written
use Rattle.trace_text.specs.declared.events.Mode.{Mode}
use Rattle.trace_text.specs.declared.events.Who.{Who}
use Rattle.trace_text.specs.declared.events.Who.TheVariants as who
use Rattle.trace_text.specs.Queue.{who_eq}
use Rattle.trace_text.specs.Laws.{actions_after, closed}
use Rattle.world_tables.specs.Lists.{first_of, rest_of}
use Rattle.profile_image.specs.declared.image.Image.{Image}
use Rattle.profile_image.specs.declared.numbers.ScopeNo.{ScopeNo}
use Rattle.profile_machine.specs.declared.world.Drawn.{Drawn}
use Rattle.profile_machine.specs.declared.world.World.{World}
use Rattle.profile_machine.specs.declared.world.tasks.Task.{Task}
use Rattle.profile_machine.specs.declared.world.marks.Frame.{Frame}
use Rattle.profile_machine.specs.declared.world.marks.Mark.{Mark}
use Rattle.profile_machine.specs.declared.world.marks.Mark.TheVariants.{Scope, Handled, InProtected, InAccept, Abortable, InInitialize, InFinalize, InAssign}
use Rattle.profile_machine.specs.declared.world.marks.Purpose.{Purpose}
use Rattle.profile_machine.specs.declared.world.marks.ProtectedMark.{ProtectedMark}
use Rattle.profile_machine.specs.declared.world.scopes.Beginning.{Beginning}
use Rattle.profile_machine.specs.declared.world.lines.Line.{Line}
use Rattle.profile_machine.specs.declared.world.lines.Line.TheVariants as said
use Rattle.profile_machine.specs.declared.world.lines.Part.{Part}
use Rattle.profile_machine.specs.declared.world.lines.Said.{Said}
use Rattle.profile_image.specs.Words.{same_who}
use Rattle.profile_machine.specs.Lines.{event_of}
use Rattle.profile_image.specs.Program.{scope_of}
use Rattle.profile_machine.specs.Steps.{in_order, placed_by}
use Rattle.profile_machine.specs.Tasks.{nobody, edit_task, edit_task_found, task_at, task_of, with_frames}
use Rattle.profile_machine.specs.Frames.{frames_of, is_protected, new_frame, pop, push, top_of}
use Rattle.profile_machine.specs.Scopes.{begin_scope, draw_region, open_scope, next_id, region_of_next, new_scope_mark}
use Rattle.profile_machine.specs.Masters.{forget_task}
use Rattle.profile_machine.specs.Tasking.{add_task}
use Rattle.profile_machine.specs.Protected.{open_action, new_protected_mark}
use Rattle.profile_machine.specs.Serving.{close_action}
use Rattle.machine_laws.proofs.Moves.{is_told_apart, own, lines_of}
use Rattle.line_laws.proofs.Ticks.LineByLine.{seen_behind, Follow}
use Rattle.line_laws.proofs.Exclusion.OwnLines.{told, Told, Told-append, Told-in_order}
use Rattle.line_laws.proofs.Exclusion.ActionLists.{closed-new, who_eq-self}
use Rattle.line_laws.proofs.Exclusion.ExclusionLemmas.{new_action}
use Rattle.line_laws.proofs.Exits.ExitTies.{action_event}
use Rattle.line_laws.proofs.Exits.TaskEdits.{one_of, one_of-is, same_who-path, edited_to, added, gone, some-none, some-same}
use Rattle.line_laws.proofs.Ticks.ReleaseLemmas.{events_of}
use Rattle.machine_laws.proofs.FineMoves.{edit_task-drawn, is_placing}
use Rattle.machine_laws.proofs.FinestMoves.{ArePlacings, AreQuiet, action_first, action_in, is_apart, is_of_region, nature, natures, top_action}
use Rattle.blocking_laws.specs.MovingLaws.{is_on}
use Rattle.blocking_laws.specs.LastExits.{is_last_exit}
use Rattle.blocking_laws.proofs.LastActions.{Starts, closed-others, closed-own, cons-rest, last-on, marked}
use Rattle.blocking_laws.proofs.LastActions.{marked-plain, marked-rest, marked-top, own_of, starts-first}

-- ---- what an effect says of actions

abbrev Right : List shown.Action → Event → Type 0
Right actions event = is_last_exit actions event ≡ true

abbrev ToldOf : List Said → List shown.Action → List shown.Action → Type 0
ToldOf = Told action_event Right actions_after

abbrev told_of : Part → Option Event → List shown.Action → (List shown.Action → Type 0) → Type 0
told_of = told action_event Right actions_after

abbrev pub RightOf : List shown.Action → List Event → Type 0
RightOf = Follow actions_after is_last_exit

abbrev pub actions_behind : List shown.Action → List Event → List shown.Action
actions_behind = seen_behind actions_after is_last_exit

abbrev Next : Image → Line → List shown.Action → (List shown.Action → Type 0) → Type 0
Next p x s f = (t : List shown.Action) × (is_last_exit s (event_of p x) ≡ true) × (actions_after s (event_of p x) ≡ t) × f t

event-told : (p : Image) (x : Line) (part : Part) (s : List shown.Action) (f : List shown.Action → Type 0) → told_of part (action_event x) s f → Next p x s f
event-told p (said.Enter name object mode) part s f h = (actions_after s (written.Enter name object mode), h.1, refl, h.2)
event-told p (said.Exit name object) part s f h = (actions_after s (written.Exit name object), h.1, refl, h.2)
event-told p _ part s f h = (s, refl, refl, h)

told-follow : (p : Image) (xs : List Said) (s t : List shown.Action) → ToldOf xs s t → RightOf s (events_of p xs) × (actions_behind s (events_of p xs) ≡ t)
told-follow p [] s t h = (tt, h)
told-follow p (x ∷ xs) s t h =
    let e = event-told p x.line x.part s (λ q. ToldOf xs q t) h in
    let rest = told-follow p xs e.0 t e.3 in
    ((e.1, subst (λ q. RightOf q (events_of p xs)) (sym e.2) rest.0), ap (λ q. actions_behind q (events_of p xs)) e.2 ∙ rest.1)

-- lines that are not told apart say nothing of them
told-other : (part : Part) (x : Line) (s : List shown.Action) (f : List shown.Action → Type 0) → is_told_apart x ≡ false → f s
    → told_of part (action_event x) s f
told-other part (said.Enter name object mode) s f e h = absurd (false≢true (sym e))
told-other part (said.Exit name object) s f e h = absurd (false≢true (sym e))
told-other part _ s f e h = h

first_of_three : (a b c : Bool) → ((a || b) || c) ≡ false → a ≡ false
first_of_three true b c e = e
first_of_three false b c e = refl

told-quiet : (xs ys : List Said) (s t : List shown.Action) → AreQuiet xs → ToldOf ys s t → ToldOf (xs ++ ys) s t
told-quiet [] ys s t a h = h
told-quiet (x ∷ xs) ys s t a h =
    told-other x.part x.line s (λ q. ToldOf (xs ++ ys) q t) (first_of_three (is_told_apart x.line) (is_placing x.line) (is_of_region x.line) a.0)
    (told-quiet xs ys s t a.1 h)

-- neither do lines that place somebody
placing-tells : (x : Line) → is_placing x ≡ true → action_event x ≡ None
placing-tells (said.Enter name object mode) e = absurd (false≢true e)
placing-tells (said.Exit name object) e = absurd (false≢true e)
placing-tells _ e = refl

placings-told : (xs : List Said) (s : List shown.Action) → ArePlacings xs → ToldOf xs s s
placings-told [] s placed = refl
placings-told (x ∷ xs) s placed = subst (λ e. told_of x.part e s (λ q. ToldOf xs q s)) (sym (placing-tells x.line placed.0)) (placings-told xs s placed.1)

placings-same : (xs : List Said) (s t : List shown.Action) → ArePlacings xs → ToldOf xs s t → s ≡ t
placings-same [] s t placed h = h
placings-same (x ∷ xs) s t placed h = placings-same xs s t placed.1 (subst (λ e. told_of x.part e s (λ q. ToldOf xs q t)) (placing-tells x.line placed.0) h)

-- ---- the tie

-- a task with this name is there; the agent always is
abbrev pub IsThere : Who → Task → Type 0
IsThere (who.Task n) t = same_who (who.Task n) t.who ≡ true
IsThere who.Agent t = Unit {0}

-- it is a task with a number below this one, or the agent
abbrev pub IsBelow : ℕ → Who → Type 0
IsBelow d (who.Task n) = n.0 < d
IsBelow d who.Agent = Unit {0}

-- the marks have the last of them open; those of a task with such a number have all, as long as it is there
abbrev pub InLines : ℕ → List shown.Action → Who → Task → Type 0
InLines d s name t = Starts (marked (natures t.frames)) (own_of name s) × (IsBelow d name → IsThere name t → own_of name s ≡ marked (natures t.frames))

abbrev pub Tied : ℕ → List shown.Action → World → Type 0
Tied d s w = (d ≤ w.drawn.tasks) × ((name : Who) → InLines d s name (one_of w.tasks w.agent name))

abbrev pub Tells : World → List Said → World → Type 0
Tells before lines after = (d : ℕ) (s : List shown.Action) → Tied d s before → (t : List shown.Action) × ToldOf lines s t × Tied d t after

abbrev pub Shown : World → List Event → World → Type 0
Shown before lines after = (d : ℕ) (s : List shown.Action) → Tied d s before → RightOf s lines × Tied d (actions_behind s lines) after

-- ---- where somebody is edited

there-named : (n : Who) (t u : Task) → u.who ≡ t.who → IsThere n u → IsThere n t
there-named (who.Task n) t u same there = subst (λ i. same_who (who.Task n) i ≡ true) same there
there-named who.Agent t u same there = tt

-- of nobody the marks have none open
nobody-in : (d : ℕ) (s : List shown.Action) (n : TaskNo) → InLines d s (who.Task n) nobody
nobody-in d s n = (tt, λ below there. absurd (false≢true there))

agent-found : (P R : Task → Type 0) (name : Who) (f : Task → Task) (w : World) → (same_who who.Agent name ≡ true → (u : Task) → P u → R (f u))
    → (same_who who.Agent name ≡ false → (u : Task) → P u → R u) → (found : Option Task) → task_at w name ≡ found → P w.agent
    → R (edit_task_found name f w found).agent
agent-found P R (who.Task k) f w same apart None e h = apart refl w.agent h
agent-found P R (who.Task k) f w same apart (Some x) e h = apart refl w.agent h
agent-found P R who.Agent f w same apart None e h = absurd (some-none w.agent (sym e))
agent-found P R who.Agent f w same apart (Some x) e h = same refl x (subst P (some-same w.agent x e) h)

-- of who is edited something more is known
edits-tied : (T : Task → Type 0) (d : ℕ) (s t : List shown.Action) (name : Who) (f : Task → Task) (w : World) → ((u : Task) → (f u).who ≡ u.who)
    → T (task_of w name) → ((n : Who) → same_who n name ≡ true → (u : Task) → T u → InLines d s n u → InLines d t n (f u))
    → ((n : Who) → same_who n name ≡ false → (u : Task) → InLines d s n u → InLines d t n u) → Tied d s w → Tied d t (edit_task name f w)
edits-tied T d s t name f w named known same apart h = (subst (λ (x : Drawn). d ≤ x.tasks) (sym (edit_task-drawn name f w)) h.0, by_name)
  where
    here : (n : Who) → same_who n name ≡ true → T (one_of w.tasks w.agent n)
    here n own = subst T (sym (one_of-is w n ∙ ap (task_of w) (same_who-path n name own))) known

    by_name : (n : Who) → (let v = edit_task name f w in InLines d t n (one_of v.tasks v.agent n))
    by_name (who.Task n) =
        edited_to (λ u. InLines d s (who.Task n) u × (same_who (who.Task n) name ≡ true → T u)) (InLines d t (who.Task n)) (who.Task n) name f w named
        (λ own u g. same (who.Task n) own u (g.1 own) g.0) (λ other u g. apart (who.Task n) other u g.0) (λ g. nobody-in d t n)
        (h.1 (who.Task n), here (who.Task n))
    by_name who.Agent =
        agent-found (λ u. InLines d s who.Agent u × (same_who who.Agent name ≡ true → T u)) (InLines d t who.Agent) name f w
        (λ own u g. same who.Agent own u (g.1 own) g.0) (λ other u g. apart who.Agent other u g.0) (task_at w name) refl (h.1 who.Agent, here who.Agent)

-- ---- changes that say nothing

pub unmoved : (w : World) → Tells w [] w
unmoved w d s h = (s, refl, h)

pub moved : (w v : World) → ((d : ℕ) (s : List shown.Action) → Tied d s w → Tied d s v) → Tells w [] v
moved w v k d s h = (s, refl, k d s h)

-- the marks have the same open
alike-in : (d : ℕ) (s : List shown.Action) (n : Who) (t u : Task) → u.who ≡ t.who → marked (natures u.frames) ≡ marked (natures t.frames) → InLines d s n t
    → InLines d s n u
alike-in d s n t u named same g =
    (subst (λ os. Starts os (own_of n s)) (sym same) g.0, λ below there. g.1 below (there-named n t u named there) ∙ sym same)

pub edited-tied : (name : Who) (f : Task → Task) (w : World) → ((t : Task) → (f t).who ≡ t.who)
    → ((t : Task) → marked (natures (f t).frames) ≡ marked (natures t.frames)) → (d : ℕ) (s : List shown.Action) → Tied d s w → Tied d s (edit_task name f w)
edited-tied name f w named same d s h =
    edits-tied (λ u. Unit {0}) d s s name f w named tt (λ n own u known g. alike-in d s n u (f u) (named u) (same u) g) (λ n other u g. g) h

pub same-tied : (name : Who) (f : Task → Task) (w : World) → ((t : Task) → (f t).who ≡ t.who) → ((t : Task) → natures (f t).frames ≡ natures t.frames)
    → (d : ℕ) (s : List shown.Action) → Tied d s w → Tied d s (edit_task name f w)
same-tied name f w named same = edited-tied name f w named (λ t. ap marked (same t))

pub pushed-tied : (name : Who) (f : Frame) (w : World) → (nature f.mark).action ≡ None → (d : ℕ) (s : List shown.Action) → Tied d s w
    → Tied d s (push name f w)
pushed-tied name f w none = edited-tied name (λ t. with_frames (f ∷ t.frames) t) w (λ t. refl) (λ t. marked-plain f t.frames none)

-- a mark ends that is no action
pub popped-tied : (name : Who) (w : World) → top_action w name ≡ None → (d : ℕ) (s : List shown.Action) → Tied d s w → Tied d s (pop name w)
popped-tied name w none d s h =
    edits-tied (λ u. action_first (natures u.frames) ≡ None) d s s name (λ u. with_frames (rest_of u.frames) u) w (λ u. refl) none
    (λ n own u first g. alike-in d s n u (with_frames (rest_of u.frames) u) refl (marked-rest u.frames first) g) (λ n other u g. g) h

on-top : (frames : List Frame) (f : Frame) → first_of frames ≡ Some f → action_first (natures frames) ≡ action_in f.mark
on-top [] f e = absurd cc
on-top (g ∷ gs) f e = let is : g ≡ f = cc in ap (λ (x : Frame). action_in x.mark) is

no-action : (mark : Mark) → is_protected mark ≡ false → action_in mark ≡ None
no-action (Scope m) e = refl
no-action (Handled s) e = refl
no-action (InProtected m) e = absurd (false≢true (sym e))
no-action (InAccept m) e = refl
no-action (Abortable m) e = refl
no-action (InInitialize l) e = refl
no-action (InFinalize o) e = refl
no-action (InAssign m) e = refl

pub no-action_on_top : (name : Who) (f : Frame) (w : World) → top_of w name ≡ Some f → is_protected f.mark ≡ false → top_action w name ≡ None
no-action_on_top name f w top plain = on-top (frames_of w name) f top ∙ no-action f.mark plain

-- a task that is added has the next number
pub added-tied : (t : Task) (w : World) → t.who ≡ who.Task (record { 0 = w.drawn.tasks }) → t.frames ≡ [] → (d : ℕ) (s : List shown.Action) → Tied d s w
    → Tied d s (add_task t w)
added-tied t w named none d s h = (low, by_name)
  where
    low : d ≤ suc w.drawn.tasks
    low = let before : d ≤ w.drawn.tasks = h.0 in omega (arith, before)

    never : (n : TaskNo) → n.0 < d → same_who (who.Task n) t.who ≡ true → ⊥
    never n below there =
        let is : n.0 ≡ w.drawn.tasks = eqb-true n.0 w.drawn.tasks (subst (λ i. same_who (who.Task n) i ≡ true) named there) in
        let before : d ≤ w.drawn.tasks = h.0 in
        omega (arith, below, is, before)

    newcomer : (n : TaskNo) → InLines d s (who.Task n) t
    newcomer n = (subst (λ fs. Starts (marked (natures fs)) (own_of (who.Task n) s)) (sym none) tt, λ below there. absurd (never n below there))

    by_name : (n : Who) → (let v = add_task t w in InLines d s n (one_of v.tasks v.agent n))
    by_name (who.Task n) = added (InLines d s (who.Task n)) (who.Task n) t w.tasks w.agent (newcomer n) (nobody-in d s n) (h.1 (who.Task n))
    by_name who.Agent = h.1 who.Agent

pub forgotten-tied : (name : Who) (w : World) (d : ℕ) (s : List shown.Action) → Tied d s w → Tied d s (forget_task name w)
forgotten-tied name w d s h = (h.0, by_name)
  where
    by_name : (n : Who) → (let v = forget_task name w in InLines d s n (one_of v.tasks v.agent n))
    by_name (who.Task n) = gone (InLines d s (who.Task n)) (who.Task n) name w.tasks w.agent (nobody-in d s n) (h.1 (who.Task n))
    by_name who.Agent = h.1 who.Agent

drawn-tied : (kept : Bool) (w : World) (d : ℕ) (s : List shown.Action) → Tied d s w → Tied d s (draw_region kept w)
drawn-tied true w d s h = h
drawn-tied false w d s h = h

pub opens-tied : (p : Image) (name : Who) (scope : ScopeNo) (b : Beginning) (purpose : Purpose) (w : World) (d : ℕ) (s : List shown.Action) → Tied d s w
    → Tied d s (open_scope p name scope b purpose w)
opens-tied p name scope b purpose w d s h =
    let text = scope_of p scope in
    let begun = begin_scope p name scope b w in
    pushed-tied name (new_frame (new_scope_mark (next_id w) (region_of_next text.kept w) purpose) text.first) (draw_region text.kept begun) refl d s
    (drawn-tied text.kept begun d s h)

-- ---- an action begins

same_who-eq : (a b : Who) → same_who a b ≡ who_eq a b
same_who-eq (who.Task a) (who.Task b) = refl
same_who-eq (who.Task a) who.Agent = refl
same_who-eq who.Agent (who.Task b) = refl
same_who-eq who.Agent who.Agent = refl

begun-tied : (name : Who) (o : ObjectNo) (mode : Mode) (call : Option CallNo) (release : Option ℕ) (v : World) (d : ℕ) (s : List shown.Action) → Tied d s v
    → Tied d (new_action o name mode ∷ s) (push name (new_frame (new_protected_mark o mode call release) None) v)
begun-tied name o mode call release v d s h =
    let f : Frame = new_frame (new_protected_mark o mode call release) None in
    let t = new_action o name mode ∷ s in
    edits-tied (λ u. Unit {0}) d s t name (λ u. with_frames (f ∷ u.frames) u) v (λ u. refl) tt
    (λ n own u known g.
    let e : own_of n t ≡ o.0 ∷ own_of n s = ap (λ b. cond b (o.0 ∷ own_of n s) (own_of n s)) (sym (same_who-eq n name) ∙ own) in (
      subst (Starts (o.0 ∷ marked (natures u.frames))) (sym e) (refl, g.0),
      λ below there. e ∙ ap (λ os. o.0 ∷ os) (g.1 below (there-named n u (with_frames (f ∷ u.frames) u) refl there)),
    ))
    (λ n other u g.
    let e : own_of n t ≡ own_of n s = ap (λ b. cond b (o.0 ∷ own_of n s) (own_of n s)) (sym (same_who-eq n name) ∙ other) in
    (subst (Starts (marked (natures u.frames))) (sym e) g.0, λ below there. e ∙ g.1 below there)) h

-- between `enter` and its mark no action begins or ends
pub begins-tells : (name : Who) (o : ObjectNo) (mode : Mode) (call : Option CallNo) (release : Option ℕ) (w v : World) (xs : List Said) → ArePlacings xs
    → Tells (open_action name o mode w) xs v
    → Tells w (own (said.Enter name o mode) ∷ xs) (push name (new_frame (new_protected_mark o mode call release) None) v)
begins-tells name o mode call release w v xs placed k d s h =
    let f = k d s h in
    let t = new_action o name mode ∷ s in (
      t,
      (refl, refl, placings-told xs t placed),
      begun-tied name o mode call release v d s (subst (λ q. Tied d q v) (sym (placings-same xs s f.0 placed f.1)) f.2),
    )

-- ---- an action ends: it is the last that began, for its mark is on top

ended-tied : (name : Who) (m : ProtectedMark) (w : World) (d : ℕ) (s : List shown.Action) → Tied d s w → top_action w name ≡ Some m.object
    → Tied d (closed m.object.0 name s) (close_action name m.object (pop name w))
ended-tied name m w d s h top =
    let o = m.object.0 in
    let t = closed o name s in
    edits-tied (λ u. action_first (natures u.frames) ≡ Some m.object) d s t name (λ u. with_frames (rest_of u.frames) u) w (λ u. refl) top
    (λ n own u first g.
    let left_open = marked (natures (rest_of u.frames)) in
    let top_is = marked-top m.object u.frames first in
    let f = starts-first o left_open (own_of n s) (subst (λ os. Starts os (own_of n s)) top_is g.0) in
    let is : n ≡ name = same_who-path n name own in
    let left : own_of n t ≡ f.0 = subst (λ i. own_of i s ≡ o ∷ f.0 → own_of i t ≡ f.0) (sym is) (closed-own name o f.0 s) f.1 in (
      subst (Starts left_open) (sym left) f.2,
      λ below there.
          left ∙ cons-rest o o f.0 left_open (sym f.1 ∙ g.1 below (there-named n u (with_frames (rest_of u.frames) u) refl there) ∙ top_is),
    ))
    (λ n other u g.
    let e : own_of n t ≡ own_of n s = closed-others n name o s (sym (same_who-eq n name) ∙ other) in
    (subst (Starts (marked (natures u.frames))) (sym e) g.0, λ below there. e ∙ g.1 below there)) h

ends-last : (name : Who) (m : ProtectedMark) (w : World) (d : ℕ) (s : List shown.Action) → Tied d s w → top_action w name ≡ Some m.object
    → is_on m.object.0 (find (λ a. who_eq name a.who) s) ≡ true
ends-last name m w d s h top =
    let fs = (one_of w.tasks w.agent name).frames in
    let first = marked-top m.object fs (ap (λ (u : Task). action_first (natures u.frames)) (one_of-is w name) ∙ top) in
    let f = starts-first m.object.0 (marked (natures (rest_of fs))) (own_of name s) (subst (λ os. Starts os (own_of name s)) first (h.1 name).0) in
    last-on name m.object.0 f.0 s f.1

pub ends-tells : (name : Who) (m : ProtectedMark) (w : World) → top_action w name ≡ Some m.object
    → Tells w (own (said.Exit name m.object) ∷ []) (close_action name m.object (pop name w))
ends-tells name m w top d s h = (closed m.object.0 name s, (refl, ends-last name m w d s h top, refl), ended-tied name m w d s h top)

-- one begins and ends at once
visited-last : (name : Who) (o : ObjectNo) (mode : Mode) (s : List shown.Action)
    → is_on o.0 (find (λ a. who_eq name a.who) (new_action o name mode ∷ s)) ≡ true
visited-last name o mode s =
    ap (λ b. is_on o.0 (cond b (Some (new_action o name mode)) (find (λ a. who_eq name a.who) s))) (who_eq-self name) ∙ eq-eqb o.0 o.0 refl

pub visits-tells : (name : Who) (o : ObjectNo) (mode : Mode) (xs : List Said) (w v : World) → AreQuiet xs → Tells w [] v
    → Tells w (own (said.Enter name o mode) ∷ xs ++ own (said.Exit name o) ∷ []) v
visits-tells name o mode xs w v quiet k d s h =
    let f = k d s h in
    let t = new_action o name mode ∷ s in (
      s,
      (refl, refl, told-quiet xs (own (said.Exit name o) ∷ []) t s quiet (refl, visited-last name o mode s, closed-new o.0 name mode s)),
      subst (λ q. Tied d q v) (sym f.1) f.2,
    )

-- ---- an effect is over

pub settled-tells : (p : Image) (a b : World) (xs : List Said) → Tells a xs b → Shown a (lines_of p xs) (placed_by (lines_of p xs) b)
settled-tells p a b xs k d s h =
    let f = k d s h in
    let lines = told-follow p (in_order xs) s f.0 (Told-in_order action_event Right actions_after xs s f.0 f.1) in
    (lines.0, subst (λ t. Tied d t b) (sym lines.1) f.2)

pub then-tells : (a b c : World) (xs ys : List Said) → Tells a xs b → Tells b ys c → Tells a (xs ++ ys) c
then-tells a b c xs ys k l d s h =
    let f = k d s h in
    let g = l d f.0 f.2 in
    (g.0, Told-append action_event Right actions_after xs ys s f.0 g.0 f.1 g.1, g.2)

pub other-tells : (part : Part) (line : Line) (w : World) → is_apart line ≡ false → Tells w (record { part = part; line = line } ∷ []) w
other-tells part line w apart d s h = (
  s,
  told-other part line s (λ q. q ≡ s) (first_of_three (is_told_apart line) (is_placing line) (is_of_region line) apart) refl,
  h,
)
