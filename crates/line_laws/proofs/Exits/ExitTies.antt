-- What ties lines to a world: the lines have an action of somebody on an object open at least as often as its marks do. A credit
-- is what they have open beside: between `enter` and the mark of its action.
use Rattle.std.proofs.Common.{◌≡◌, ℕ, ◌+◌, ◌≤◌, ◌<◌, Bool, true, false, eqb, ◌&&◌, ◌||◌, List, []}
use Rattle.std.proofs.Common.{◌∷◌, ◌++◌, Option, Some, None, refl, sym, ap, subst, ◌∙◌, eq-eqb, arith}
use Rattle.std.proofs.lemmas.Bool.{false≢true}
use Rattle.ann_base.specs.declared.identities.CallNo.{CallNo}
use Rattle.ann_base.specs.declared.identities.ObjectNo.{ObjectNo}
use Rattle.trace_text.specs.declared.events.Action as shown
use Rattle.trace_text.specs.declared.events.Event.{Event}
use Rattle.trace_text.specs.declared.events.Event.TheVariants as written
use Rattle.trace_text.specs.declared.events.Mode.{Mode}
use Rattle.trace_text.specs.declared.events.Who.{Who}
use Rattle.trace_text.specs.declared.events.Who.TheVariants as who
use Rattle.trace_text.specs.Queue.{who_eq}
use Rattle.trace_text.specs.Laws.{actions_after, closed}
use Rattle.world_tables.specs.Lists.{rest_of}
use Rattle.profile_image.specs.declared.image.Image.{Image}
use Rattle.profile_image.specs.declared.numbers.ScopeNo.{ScopeNo}
use Rattle.profile_machine.specs.declared.world.World.{World}
use Rattle.profile_machine.specs.declared.world.tasks.Task.{Task}
use Rattle.profile_machine.specs.declared.world.marks.Frame.{Frame}
use Rattle.profile_machine.specs.declared.world.marks.Purpose.{Purpose}
use Rattle.profile_machine.specs.declared.world.marks.ProtectedMark.{ProtectedMark}
use Rattle.profile_machine.specs.declared.world.scopes.Beginning.{Beginning}
use Rattle.profile_machine.specs.declared.world.lines.Line.{Line}
use Rattle.profile_machine.specs.declared.world.lines.Line.TheVariants as said
use Rattle.profile_machine.specs.declared.world.lines.Part.{Part}
use Rattle.profile_machine.specs.declared.world.lines.Said.{Said}
use Rattle.profile_image.specs.Words.{same_who}
use Rattle.profile_machine.specs.Lines.{event_of}
use Rattle.profile_image.specs.Program.{scope_of}
use Rattle.profile_machine.specs.Steps.{in_order, placed_by}
use Rattle.profile_machine.specs.Tasks.{nobody, edit_task, with_frames}
use Rattle.profile_machine.specs.Frames.{push, pop, new_frame}
use Rattle.profile_machine.specs.Scopes.{begin_scope, draw_region, open_scope, next_id, region_of_next, new_scope_mark}
use Rattle.profile_machine.specs.Masters.{forget_task}
use Rattle.profile_machine.specs.Tasking.{add_task}
use Rattle.profile_machine.specs.Protected.{open_action, new_protected_mark}
use Rattle.profile_machine.specs.Serving.{close_action}
use Rattle.machine_laws.proofs.Moves.{is_told_apart, own, lines_of}
use Rattle.line_laws.proofs.Ticks.LineByLine.{seen_behind, Follow}
use Rattle.line_laws.proofs.Exclusion.OwnLines.{told, Told, Told-append, Told-in_order}
use Rattle.line_laws.proofs.Exclusion.ActionLists.{closed-new, who_eq-self}
use Rattle.line_laws.specs.ExitLaws.{exits_rightly}
use Rattle.machine_laws.proofs.FineMoves.{is_placing}
use Rattle.machine_laws.proofs.FinestMoves.{natures, nature, action_first, top_action, is_of_region, is_apart, AreQuiet}
use Rattle.machine_laws.proofs.QueueLemmas.{by_test}
use Rattle.line_laws.proofs.Exits.TaskEdits.{one_of, one_of-is, same_who-path, edited, edited_to, added, gone}
use Rattle.line_laws.proofs.Exits.OpenCounts.{bit, is_own, opened, is_same, opened-any, closed-least, is_on, count, count-pop, count-top}
use Rattle.line_laws.proofs.Ticks.ReleaseLemmas.{events_of}
use Rattle.line_laws.proofs.Exclusion.ExclusionLemmas.{new_action}

-- ---- what an effect says of actions

abbrev pub action_event : Line → Option Event
action_event (said.Enter name object mode) = Some (written.Enter name object mode)
action_event (said.Exit name object) = Some (written.Exit name object)
action_event _ = None

abbrev pub Right : List shown.Action → Event → Type 0
Right s event = exits_rightly s event ≡ true

abbrev pub ToldOf : List Said → List shown.Action → List shown.Action → Type 0
ToldOf = Told action_event Right actions_after

abbrev told_of : Part → Option Event → List shown.Action → (List shown.Action → Type 0) → Type 0
told_of = told action_event Right actions_after

abbrev pub RightOf : List shown.Action → List Event → Type 0
RightOf = Follow actions_after exits_rightly

abbrev pub actions_behind : List shown.Action → List Event → List shown.Action
actions_behind = seen_behind actions_after exits_rightly

abbrev Next : Image → Line → List shown.Action → (List shown.Action → Type 0) → Type 0
Next p x s f = (t : List shown.Action) × (exits_rightly s (event_of p x) ≡ true) × (actions_after s (event_of p x) ≡ t) × f t

event-told : (p : Image) (x : Line) (part : Part) (s : List shown.Action) (f : List shown.Action → Type 0) → told_of part (action_event x) s f → Next p x s f
event-told p (said.Enter name object mode) part s f h = (actions_after s (written.Enter name object mode), h.1, refl, h.2)
event-told p (said.Exit name object) part s f h = (actions_after s (written.Exit name object), h.1, refl, h.2)
event-told p _ part s f h = (s, refl, refl, h)

told-follow : (p : Image) (xs : List Said) (s t : List shown.Action) → ToldOf xs s t → RightOf s (events_of p xs) × (actions_behind s (events_of p xs) ≡ t)
told-follow p [] s t h = (tt, h)
told-follow p (x ∷ xs) s t h =
    let e = event-told p x.line x.part s (λ q. ToldOf xs q t) h in
    let rest = told-follow p xs e.0 t e.3 in
    ((e.1, subst (λ q. RightOf q (events_of p xs)) (sym e.2) rest.0), ap (λ q. actions_behind q (events_of p xs)) e.2 ∙ rest.1)

-- lines that are not told apart say nothing of them
told-other : (part : Part) (x : Line) (s : List shown.Action) (f : List shown.Action → Type 0) → is_told_apart x ≡ false → f s
    → told_of part (action_event x) s f
told-other part (said.Enter name object mode) s f e h = absurd (false≢true (sym e))
told-other part (said.Exit name object) s f e h = absurd (false≢true (sym e))
told-other part _ s f e h = h

first_of_three : (a b c : Bool) → ((a || b) || c) ≡ false → a ≡ false
first_of_three true b c e = e
first_of_three false b c e = refl

told-quiet : (xs ys : List Said) (s t : List shown.Action) → AreQuiet xs → ToldOf ys s t → ToldOf (xs ++ ys) s t
told-quiet [] ys s t a h = h
told-quiet (x ∷ xs) ys s t a h =
    told-other x.part x.line s (λ q. ToldOf (xs ++ ys) q t) (first_of_three (is_told_apart x.line) (is_placing x.line) (is_of_region x.line) a.0)
    (told-quiet xs ys s t a.1 h)

-- ---- the tie

abbrev pub Credit : Type 0
Credit = Who → ℕ → ℕ

abbrev pub no_credit : Credit
no_credit name o = 0

abbrev InLines : List shown.Action → Credit → Who → ℕ → Task → Type 0
InLines s c name o t = count o (natures t.frames) + c name o ≤ opened name o s

abbrev pub Tied : List shown.Action → Credit → World → Type 0
Tied s c w = (name : Who) (o : ℕ) → InLines s c name o (one_of w.tasks w.agent name)

abbrev pub Tells : World → List Said → World → Type 0
Tells before lines after = (c : Credit) (s : List shown.Action) → Tied s c before → (t : List shown.Action) × ToldOf lines s t × Tied t c after

abbrev pub Shown : World → List Event → World → Type 0
Shown before lines after = (c : Credit) (s : List shown.Action) → Tied s c before → RightOf s lines × Tied (actions_behind s lines) c after

-- ---- changes that say nothing

pub unmoved : (w : World) → Tells w [] w
unmoved w c s h = (s, refl, h)

pub moved : (w v : World) → ((c : Credit) (s : List shown.Action) → Tied s c w → Tied s c v) → Tells w [] v
moved w v k c s h = (s, refl, k c s h)

-- of marks none is added but such as are no actions
pub edited-tied : (name : Who) (f : Task → Task) (w : World) → ((t : Task) → (f t).who ≡ t.who)
    → ((t : Task) (o : ℕ) → count o (natures (f t).frames) ≤ count o (natures t.frames)) → (c : Credit) (s : List shown.Action) → Tied s c w
    → Tied s c (edit_task name f w)
edited-tied name f w named low c s h n o =
    edited (InLines s c n o) n name f w named
    (λ same t g. let g' : count o (natures t.frames) + c n o ≤ opened n o s = g in let less = low t o in omega (arith, g', less)) (h n o)

pub same-tied : (name : Who) (f : Task → Task) (w : World) → ((t : Task) → (f t).who ≡ t.who) → ((t : Task) → natures (f t).frames ≡ natures t.frames)
    → (c : Credit) (s : List shown.Action) → Tied s c w → Tied s c (edit_task name f w)
same-tied name f w named same = edited-tied name f w named (λ t o. let e = ap (count o) (same t) in omega (arith, e))

pub pushed-tied : (name : Who) (f : Frame) (w : World) → (nature f.mark).action ≡ None → (c : Credit) (s : List shown.Action) → Tied s c w
    → Tied s c (push name f w)
pushed-tied name f w none =
    edited-tied name (λ t. with_frames (f ∷ t.frames) t) w (λ t. refl)
    (λ t o. let e : bit (is_on o (nature f.mark).action) + count o (natures t.frames) ≡ 0 + count o (natures t.frames) =
    ap (λ a. bit (is_on o a) + count o (natures t.frames)) none in
    omega (arith, e))

pub popped-tied : (name : Who) (w : World) (c : Credit) (s : List shown.Action) → Tied s c w → Tied s c (pop name w)
popped-tied name w = edited-tied name (λ t. with_frames (rest_of t.frames) t) w (λ t. refl) (λ t o. count-pop o t.frames)

blank-in : (s : List shown.Action) (c : Credit) (name : Who) (o : ℕ) (t : Task) → InLines s c name o t → InLines s c name o nobody
blank-in s c name o t h =
    let g : count o (natures t.frames) + c name o ≤ opened name o s = h in let goal : 0 + c name o ≤ opened name o s = omega (arith, g) in goal

pub added-tied : (t : Task) (w : World) → t.frames ≡ [] → (c : Credit) (s : List shown.Action) → Tied s c w → Tied s c (add_task t w)
added-tied t w none c s h n o =
    let blank = blank-in s c n o (one_of w.tasks w.agent n) (h n o) in
    added (InLines s c n o) n t w.tasks w.agent (subst (λ fs. count o (natures fs) + c n o ≤ opened n o s) (sym none) blank) blank (h n o)

pub forgotten-tied : (name : Who) (w : World) (c : Credit) (s : List shown.Action) → Tied s c w → Tied s c (forget_task name w)
forgotten-tied name w c s h n o = gone (InLines s c n o) n name w.tasks w.agent (blank-in s c n o (one_of w.tasks w.agent n) (h n o)) (h n o)

drawn-tied : (kept : Bool) (w : World) (c : Credit) (s : List shown.Action) → Tied s c w → Tied s c (draw_region kept w)
drawn-tied true w c s h = h
drawn-tied false w c s h = h

pub opens-tied : (p : Image) (name : Who) (scope : ScopeNo) (b : Beginning) (purpose : Purpose) (w : World) (c : Credit) (s : List shown.Action) → Tied s c w
    → Tied s c (open_scope p name scope b purpose w)
opens-tied p name scope b purpose w c s h =
    let text = scope_of p scope in
    let begun = begin_scope p name scope b w in
    pushed-tied name (new_frame (new_scope_mark (next_id w) (region_of_next text.kept w) purpose) text.first) (draw_region text.kept begun) refl c s
    (drawn-tied text.kept begun c s h)

-- ---- an action begins: what is done between `enter` and its mark goes on with one more open than there are marks

same_who-eq : (a b : Who) → same_who a b ≡ who_eq a b
same_who-eq (who.Task a) (who.Task b) = refl
same_who-eq (who.Task a) who.Agent = refl
same_who-eq who.Agent (who.Task b) = refl
same_who-eq who.Agent who.Agent = refl

right-one : (b : Bool) → bit (b && true) ≡ bit b
right-one true = refl
right-one false = refl

right-none : (b : Bool) → bit (b && false) ≡ 0
right-none true = refl
right-none false = refl

-- by whether it is the same one
bit-same : (o k : ℕ) (b : Bool) → b ≡ true → bit (eqb o k && b) ≡ bit (eqb o k)
bit-same o k b e = ap (λ x. bit (eqb o k && x)) e ∙ right-one (eqb o k)

bit-apart : (o k : ℕ) (b : Bool) → b ≡ false → bit (eqb o k && b) ≡ 0
bit-apart o k b e = ap (λ x. bit (eqb o k && x)) e ∙ right-none (eqb o k)

begun-tied : (name : Who) (o : ObjectNo) (mode : Mode) (call : Option CallNo) (release : Option ℕ) (v : World) (c : Credit) (t : List shown.Action)
    → Tied t (λ n k. c n k + bit (is_same n k name o.0)) v
    → Tied t c (push name (new_frame (new_protected_mark o mode call release) None) v)
begun-tied name o mode call release v c t h n k =
    let f : Frame = new_frame (new_protected_mark o mode call release) None in
    edited_to (λ u. count k (natures u.frames) + (c n k + bit (is_same n k name o.0)) ≤ opened n k t) (InLines t c n k) n name
    (λ u. with_frames (f ∷ u.frames) u) v (λ u. refl)
    (λ same u g.
    let g' : count k (natures u.frames) + (c n k + bit (is_same n k name o.0)) ≤ opened n k t = g in
    let e = bit-same k o.0 (who_eq n name) (sym (same_who-eq n name) ∙ same) in
    let goal : (bit (eqb k o.0) + count k (natures u.frames)) + c n k ≤ opened n k t = omega (arith, g', e) in goal)
    (λ apart u g. let g' : count k (natures u.frames) + (c n k + bit (is_same n k name o.0)) ≤ opened n k t = g in
    let goal : count k (natures u.frames) + c n k ≤ opened n k t = omega (arith, g') in goal)
    (λ g. let g' : 0 + (c n k + bit (is_same n k name o.0)) ≤ opened n k t = g in let goal : 0 + c n k ≤ opened n k t = omega (arith, g') in goal)
    (h n k)

entered-tied : (name : Who) (o : ObjectNo) (mode : Mode) (w : World) (c : Credit) (s : List shown.Action) → Tied s c w
    → Tied (new_action o name mode ∷ s) (λ n k. c n k + bit (is_same n k name o.0)) (open_action name o mode w)
entered-tied name o mode w c s h n k =
    let g : count k (natures (one_of w.tasks w.agent n).frames) + c n k ≤ opened n k s = h n k in
    let goal : count k (natures (one_of w.tasks w.agent n).frames) + (c n k + bit (is_same n k name o.0)) ≤ bit (is_same n k name o.0) + opened n k s =
    omega (arith, g) in
    goal

pub begins-tells : (name : Who) (o : ObjectNo) (mode : Mode) (call : Option CallNo) (release : Option ℕ) (w v : World) (xs : List Said)
    → Tells (open_action name o mode w) xs v
    → Tells w (own (said.Enter name o mode) ∷ xs) (push name (new_frame (new_protected_mark o mode call release) None) v)
begins-tells name o mode call release w v xs k c s h =
    let f = k (λ n x. c n x + bit (is_same n x name o.0)) (new_action o name mode ∷ s) (entered-tied name o mode w c s h) in
    (f.0, (refl, refl, f.1), begun-tied name o mode call release v c f.0 f.2)

never-some : (o : ObjectNo) → None ≡ Some o → ⊥
never-some o e = cc

-- ---- an action ends: it is open, for its mark is on top

is-open : (name : Who) (m : ProtectedMark) (w : World) (c : Credit) (s : List shown.Action) → Tied s c w → top_action w name ≡ Some m.object
    → 0 < opened name m.object.0 s
is-open name m w c s h top =
    let fs = (one_of w.tasks w.agent name).frames in
    let k = m.object.0 in
    let on_top = ap (λ (t : Task). action_first (natures t.frames)) (one_of-is w name) ∙ top in
    let e = count-top k m.object fs on_top in
    let one = ap bit (eq-eqb k k refl) in
    let one' : bit (eqb k k) ≡ 1 = one in
    let g : count k (natures fs) + c name k ≤ opened name k s = h name k in
    omega (arith, e, one', g)

ended-tied : (name : Who) (m : ProtectedMark) (w : World) (c : Credit) (s : List shown.Action) → Tied s c w → top_action w name ≡ Some m.object
    → Tied (closed m.object.0 name s) c (close_action name m.object (pop name w))
ended-tied name m w c s h top n k =
    let x = m.object.0 in
    let t = closed x name s in
    let least = closed-least n name k x s in
    edited_to (λ u. (count k (natures u.frames) + c n k ≤ opened n k s) × (same_who n name ≡ true → action_first (natures u.frames) ≡ Some m.object))
    (InLines t c n k) n name (λ u. with_frames (rest_of u.frames) u) w (λ u. refl)
    (λ same u g.
    let g' : count k (natures u.frames) + c n k ≤ opened n k s = g.0 in
    let e = count-top k m.object u.frames (g.1 same) in
    let b = bit-same k x (who_eq n name) (sym (same_who-eq n name) ∙ same) in
    let l : opened n k s ≤ opened n k t + bit (eqb k x && who_eq n name) = least in
    let goal : count k (natures (rest_of u.frames)) + c n k ≤ opened n k t = omega (arith, g', e, b, l) in goal)
    (λ apart u g.
    let g' : count k (natures u.frames) + c n k ≤ opened n k s = g.0 in
    let b = bit-apart k x (who_eq n name) (sym (same_who-eq n name) ∙ apart) in
    let l : opened n k s ≤ opened n k t + bit (eqb k x && who_eq n name) = least in
    let goal : count k (natures u.frames) + c n k ≤ opened n k t = omega (arith, g', b, l) in goal)
    (λ g. by_test (same_who n name)
    (λ same. let e : None ≡ Some m.object = g.1 same in absurd (never-some m.object e))
    (λ apart.
    let g' : 0 + c n k ≤ opened n k s = g.0 in
    let b = bit-apart k x (who_eq n name) (sym (same_who-eq n name) ∙ apart) in
    let l : opened n k s ≤ opened n k t + bit (eqb k x && who_eq n name) = least in
    let goal : 0 + c n k ≤ opened n k t = omega (arith, g', b, l) in goal)) (
      h n k,
      λ same. let is : n ≡ name = same_who-path n name same in ap (λ (u : Task). action_first (natures u.frames)) (one_of-is w n) ∙ ap (top_action w) is ∙ top,
    )

pub ends-tells : (name : Who) (m : ProtectedMark) (w : World) → top_action w name ≡ Some m.object
    → Tells w (own (said.Exit name m.object) ∷ []) (close_action name m.object (pop name w))
ends-tells name m w top c s h = (
  closed m.object.0 name s,
  (refl, opened-any name m.object.0 s (is-open name m w c s h top), refl),
  ended-tied name m w c s h top,
)

-- one begins and ends at once
new-own : (o : ℕ) (name : Who) → (eqb o o && who_eq name name) ≡ true
new-own o name = ap (λ b. b && who_eq name name) (eq-eqb o o refl) ∙ who_eq-self name

pub visits-tells : (name : Who) (o : ObjectNo) (mode : Mode) (xs : List Said) (w v : World) → AreQuiet xs → Tells w [] v
    → Tells w (own (said.Enter name o mode) ∷ xs ++ own (said.Exit name o) ∷ []) v
visits-tells name o mode xs w v quiet k c s h =
    let f = k c s h in
    let t = new_action o name mode ∷ s in
    let once = ap bit (new-own o.0 name) in
    let once' : bit (is_own name o.0 (new_action o name mode)) ≡ 1 = once in
    let more : 0 < bit (is_own name o.0 (new_action o name mode)) + opened name o.0 s = omega (arith, once') in (
      s,
      (refl, refl, told-quiet xs (own (said.Exit name o) ∷ []) t s quiet (refl, opened-any name o.0 t more, closed-new o.0 name mode s)),
      subst (λ q. Tied q c v) (sym f.1) f.2,
    )

-- ---- an effect is over

pub settled-tells : (p : Image) (a b : World) (xs : List Said) → Tells a xs b → Shown a (lines_of p xs) (placed_by (lines_of p xs) b)
settled-tells p a b xs k c s h =
    let f = k c s h in
    let lines = told-follow p (in_order xs) s f.0 (Told-in_order action_event Right actions_after xs s f.0 f.1) in
    (lines.0, subst (λ t. Tied t c b) (sym lines.1) f.2)

pub then-tells : (a b d : World) (xs ys : List Said) → Tells a xs b → Tells b ys d → Tells a (xs ++ ys) d
then-tells a b d xs ys k l c s h = let f = k c s h in let g = l c f.0 f.2 in (g.0, Told-append action_event Right actions_after xs ys s f.0 g.0 f.1 g.1, g.2)

pub other-tells : (part : Part) (line : Line) (w : World) → is_apart line ≡ false → Tells w (record { part = part; line = line } ∷ []) w
other-tells part line w apart c s h = (
  s,
  told-other part line s (λ q. q ≡ s) (first_of_three (is_told_apart line) (is_placing line) (is_of_region line) apart) refl,
  h,
)
