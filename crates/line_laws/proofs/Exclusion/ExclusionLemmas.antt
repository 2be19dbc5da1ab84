-- Every run keeps exclusion: the actions that lines show on an object of the world are those that the world has, and
-- somebody is let in only where these allow it.
use Rattle.std.proofs.Common.{◌≡◌, ℕ, ℤ, suc, ◌<◌, Bool, true, false, cond, not, eqb, ◌&&◌, ◌||◌, List}
use Rattle.std.proofs.Common.{[], ◌∷◌, ◌++◌, Option, Some, None, refl, sym, ap, subst, ◌∙◌, eq-eqb, arith}
use Rattle.std.specs.Prelude.{find}
use Rattle.std.specs.List.{list_all, list_any}
use Rattle.ann_base.specs.declared.identities.ObjectNo.{ObjectNo}
use Rattle.trace_text.specs.declared.events.Action as shown
use Rattle.trace_text.specs.declared.events.Event.{Event}
use Rattle.trace_text.specs.declared.events.Event.TheVariants as written
use Rattle.trace_text.specs.declared.events.Mode.{Mode}
use Rattle.trace_text.specs.declared.events.Who.{Who}
use Rattle.trace_text.specs.declared.events.Who.TheVariants as who
use Rattle.trace_text.specs.Laws.{is_write, actions_after, closed}
use Rattle.trace_text.specs.Queue.{who_eq}
use Rattle.std.proofs.lemmas.Bool.{eqb-true}
use Rattle.profile_image.specs.declared.image.Image.{Image}
use Rattle.profile_image.specs.declared.script_items.Item.{Item}
use Rattle.profile_machine.specs.declared.world.World.{World}
use Rattle.profile_machine.specs.declared.world.tasks.Task.{Task}
use Rattle.profile_machine.specs.declared.world.objects.Action.{Action}
use Rattle.profile_machine.specs.declared.world.objects.Object.{Object}
use Rattle.profile_machine.specs.declared.world.lines.Line.{Line}
use Rattle.profile_machine.specs.declared.world.lines.Line.TheVariants as said
use Rattle.profile_machine.specs.declared.world.lines.Part.{Part}
use Rattle.profile_machine.specs.declared.world.lines.Said.{Said}
use Rattle.profile_image.specs.Words.{without}
use Rattle.profile_machine.specs.Lines.{event_of}
use Rattle.profile_machine.specs.Steps.{in_order}
use Rattle.profile_machine.specs.Tasks.{task_at, edit_task_found, edit_task}
use Rattle.profile_machine.specs.Values.{is_object}
use Rattle.profile_machine.specs.Scopes.{goes_with, end_scope}
use Rattle.profile_machine.specs.Declarations.{new_object, object_drawn}
use Rattle.profile_machine.specs.Dispatching.{choose}
use Rattle.profile_machine.specs.Protected.{is_action_of, has_open, excludes, open_action}
use Rattle.profile_machine.specs.Serving.{close_action}
use Rattle.profile_machine.specs.Calls.{edit_object}
use Rattle.profile_machine.specs.Instant.{instant}
use Rattle.profile_machine.specs.Run.{opens, opening, blank_world, tock, run_of}
use Rattle.machine_laws.specs.LineKinds.{is_of_tock}
use Rattle.machine_laws.proofs.FinestMoves.{all_of, tocks_of, effect-leads}
use Rattle.machine_laws.proofs.ListLemmas.{Falls, Falls-without, Falls-edit_where}
use Rattle.machine_laws.proofs.Moves.{Moves, TockMoves, LetsIn, FindsHeld, AreOthers, is_told_apart, own}
use Rattle.machine_laws.proofs.Kept.Instant.{instant-leads}
use Rattle.machine_laws.proofs.Kept.Run.{tock-parts, before_tick-leads, opens-keeps}
use Rattle.line_laws.proofs.Ticks.LineByLine.{seen_behind, seen_behind-append, Follow, Follow-append, Leads_on, OfRuns, run-at_each_line}
use Rattle.line_laws.specs.ExclusionLaws.{enters_rightly, EntersOk}
use Rattle.line_laws.proofs.Exclusion.OwnLines.{told, Told, Told-append, Told-in_order}
use Rattle.line_laws.proofs.Exclusion.ObjectLists.{object_number, changed, found-below, left-found}
use Rattle.line_laws.proofs.Exclusion.ActionLists.{on, Once, closed-other, closed-only, closed-new, none-without, Once-without}
use Rattle.line_laws.proofs.Exclusion.ActionLists.{free-beside, all-beside, held-by_other, other_excludes, shown-any}
use Rattle.line_laws.proofs.Ticks.ReleaseLemmas.{events_of}
use Rattle.machine_laws.proofs.Kept.Combinators.{Leads}

-- ---- what an effect says of actions

abbrev action_event : Line → Option Event
action_event (said.Enter name object mode) = Some (written.Enter name object mode)
action_event (said.Exit name object) = Some (written.Exit name object)
action_event (said.Held name object mode) = Some (written.Held name object mode)
action_event _ = None

abbrev Right : List shown.Action → Event → Type 0
Right s event = enters_rightly s event ≡ true

abbrev ToldOf : List Said → List shown.Action → List shown.Action → Type 0
ToldOf = Told action_event Right actions_after

abbrev told_of : Part → Option Event → List shown.Action → (List shown.Action → Type 0) → Type 0
told_of = told action_event Right actions_after

abbrev RightOf : List shown.Action → List Event → Type 0
RightOf = Follow actions_after enters_rightly

abbrev actions_behind : List shown.Action → List Event → List shown.Action
actions_behind = seen_behind actions_after enters_rightly

abbrev Next : Image → Line → List shown.Action → (List shown.Action → Type 0) → Type 0
Next p x s f = (t : List shown.Action) × (enters_rightly s (event_of p x) ≡ true) × (actions_after s (event_of p x) ≡ t) × f t

event-told : (p : Image) (x : Line) (part : Part) (s : List shown.Action) (f : List shown.Action → Type 0) → told_of part (action_event x) s f → Next p x s f
event-told p (said.Enter name object mode) part s f h = (actions_after s (written.Enter name object mode), h.1, refl, h.2)
event-told p (said.Exit name object) part s f h = (actions_after s (written.Exit name object), h.1, refl, h.2)
event-told p (said.Held name object mode) part s f h = (s, h.1, refl, h.2)
event-told p _ part s f h = (s, refl, refl, h)

told-follow : (p : Image) (xs : List Said) (s t : List shown.Action) → ToldOf xs s t → RightOf s (events_of p xs) × (actions_behind s (events_of p xs) ≡ t)
told-follow p [] s t h = (tt, h)
told-follow p (x ∷ xs) s t h =
    let e = event-told p x.line x.part s (λ q. ToldOf xs q t) h in
    let rest = told-follow p xs e.0 t e.3 in
    ((e.1, subst (λ q. RightOf q (events_of p xs)) (sym e.2) rest.0), ap (λ q. actions_behind q (events_of p xs)) e.2 ∙ rest.1)

-- lines that are not told apart say nothing of them
told-other : (part : Part) (x : Line) (s : List shown.Action) (f : List shown.Action → Type 0) → is_told_apart x ≡ false → f s
    → told_of part (action_event x) s f
told-other part (said.Enter name object mode) s f e h = cc
told-other part (said.Exit name object) s f e h = cc
told-other part (said.Held name object mode) s f e h = cc
told-other part _ s f e h = h

told-others : (xs ys : List Said) (s t : List shown.Action) → AreOthers xs → ToldOf ys s t → ToldOf (xs ++ ys) s t
told-others [] ys s t a h = h
told-others (x ∷ xs) ys s t a h = told-other x.part x.line s (λ q. ToldOf (xs ++ ys) q t) a.0 (told-others xs ys s t a.1 h)

-- ---- what lines and worlds have in common

-- the actions on each object that is there, and none on one that was not drawn yet
abbrev ShowsActions : List shown.Action → World → Type 0
ShowsActions s w =
    ((o : ObjectNo) (x : Object) → find (is_object o) w.objects ≡ Some x → (on o.0 s ≡ x.actions) × Once x.actions)
    × ((n : ℕ) → w.drawn.objects < n → on n s ≡ [])
    × Falls object_number (suc w.drawn.objects) w.objects

abbrev Tells : World → List Said → World → Type 0
Tells before lines after = (s : List shown.Action) → ShowsActions s before → (t : List shown.Action) × ToldOf lines s t × ShowsActions t after

abbrev Shown : World → List Event → World → Type 0
Shown before lines after = (s : List shown.Action) → ShowsActions s before → RightOf s lines × ShowsActions (actions_behind s lines) after

unmoved : (w : World) → Tells w [] w
unmoved w s h = (s, refl, h)

edit_found-unmoved : (name : Who) (f : Task → Task) (w : World) (found : Option Task) → Tells w [] (edit_task_found name f w found)
edit_found-unmoved name f w None = unmoved w
edit_found-unmoved (who.Task n) f w (Some t) = unmoved w
edit_found-unmoved who.Agent f w (Some t) = unmoved w

edit_task-unmoved : (name : Who) (f : Task → Task) (w : World) → Tells w [] (edit_task name f w)
edit_task-unmoved name f w = edit_found-unmoved name f w (task_at w name)

-- ---- objects that are edited, made and gone

same_drawn : (o : ObjectNo) (f : Object → Object) (w : World) → ((x : Object) → (f x).number ≡ x.number) → Falls object_number (suc w.drawn.objects) w.objects
    → Falls object_number (suc w.drawn.objects) (edit_object o f w).objects
same_drawn o f w k h = Falls-edit_where object_number (is_object o) f (λ x. ap (λ n. n.0) (k x)) (suc w.drawn.objects) w.objects h

edited-tells : (o : ObjectNo) (f : Object → Object) (w : World) → ((x : Object) → (f x).number ≡ x.number) → ((x : Object) → (f x).actions ≡ x.actions)
    → Tells w [] (edit_object o f w)
edited-tells o f w k a s h = (
  s,
  refl,
  (
    λ n y e. changed n o f w.objects y k e
        (λ is x found made.
        let before = h.0 o x found in
        let actions : y.actions ≡ x.actions = ap (λ z. z.actions) made ∙ a x in
        (ap (λ m. on m.0 s) is ∙ before.0 ∙ sym actions, subst Once (sym actions) before.1))
        (λ differs found. h.0 n y found),
    h.1,
    same_drawn o f w k h.2,
  ),
)

new-step : (b : Bool) (n d : ℕ) (s : List shown.Action) (new y : Object) (rest : Option Object) → eqb n d ≡ b → new.actions ≡ [] → on d s ≡ []
    → cond b (Some new) rest ≡ Some y → (rest ≡ Some y → (on n s ≡ y.actions) × Once y.actions) → (on n s ≡ y.actions) × Once y.actions
new-step true n d s new y rest is none empty e onward =
    let same : new ≡ y = cc in
    let nothing : [] ≡ y.actions = sym none ∙ ap (λ z. z.actions) same in
    (ap (λ m. on m s) (eqb-true n d is) ∙ empty ∙ nothing, subst Once nothing tt)
new-step false n d s new y rest is none empty e onward = onward e

added-tells : (new : Object) (w v : World) → new.number.0 ≡ suc w.drawn.objects → new.actions ≡ [] → v.objects ≡ new ∷ w.objects
    → v.drawn.objects ≡ suc w.drawn.objects → Tells w [] v
added-tells new w v number none objects drawn s h = (
  s,
  refl,
  (
    λ n y e. new-step (is_object n new) n.0 new.number.0 s new y (find (is_object n) w.objects) refl none
        (ap (λ m. on m s) number ∙ h.1 (suc w.drawn.objects) (omega arith)) (sym (ap (find (is_object n)) objects) ∙ e) (h.0 n y),
    λ n high. h.1 n (omega (arith, high, drawn)),
    subst (λ xs. Falls object_number (suc v.drawn.objects) xs) (sym objects) (
      omega (arith, number, drawn),
      subst (λ m. Falls object_number m w.objects) (sym number) h.2,
    ),
  ),
)

left-tells : (test : Object → Bool) (w v : World) → v.objects ≡ without test w.objects → v.drawn.objects ≡ w.drawn.objects → Tells w [] v
left-tells test w v objects drawn s h = (
  s,
  refl,
  (
    λ n y e. h.0 n y (left-found n (λ x. not (test x)) (suc w.drawn.objects) w.objects y h.2 (sym (ap (find (is_object n)) objects) ∙ e)),
    λ n high. h.1 n (omega (arith, high, drawn)),
    subst (λ xs. Falls object_number (suc v.drawn.objects) xs) (sym objects)
        (subst (λ m. Falls object_number (suc m) (without test w.objects)) (sym drawn) (Falls-without object_number test (suc w.drawn.objects) w.objects h.2)),
  ),
)

-- ---- actions that begin and end

abbrev pub new_action : ObjectNo → Who → Mode → shown.Action
new_action o name mode = record { object = o.0; who = name; mode = mode }

on-new : (n o : ObjectNo) (name : Who) (mode : Mode) (s : List shown.Action) → eqb n.0 o.0 ≡ false → on n.0 (new_action o name mode ∷ s) ≡ on n.0 s
on-new n o name mode s e = ap (λ t. cond t (record { who = name; mode = mode } ∷ on n.0 s) (on n.0 s)) e

on-same : (o : ObjectNo) (name : Who) (mode : Mode) (s : List shown.Action)
    → on o.0 (new_action o name mode ∷ s) ≡ record { who = name; mode = mode } ∷ on o.0 s
on-same o name mode s = ap (λ t. cond t (record { who = name; mode = mode } ∷ on o.0 s) (on o.0 s)) (eq-eqb o.0 o.0 refl)

let_in-right : (name : Who) (o : ObjectNo) (mode : Mode) (w : World) (s : List shown.Action) → LetsIn name o mode w → ShowsActions s w
    → enters_rightly s (written.Enter name o mode) ≡ true
let_in-right name o mode w s lets h =
    let before = h.0 o lets.object lets.found in
    let others : without (is_action_of name) lets.object.actions ≡ lets.object.actions = none-without name lets.object.actions lets.outside in
    let free : excludes mode lets.object.actions ≡ false = subst (λ xs. excludes mode xs ≡ false) others lets.free in
    all-beside o.0 mode s
    (subst (λ xs. list_all (λ (a : Action). not (is_write mode || is_write a.mode)) xs ≡ true) (sym before.0) (free-beside mode lets.object.actions free))

higher : (n o d : ℕ) → o < suc d → d < n → eqb n o ≡ false
higher n o d a b = grind arith

some_same : (x y : Object) → Some x ≡ Some y → x ≡ y
some_same x y e = cc

enters-tells : (name : Who) (o : ObjectNo) (mode : Mode) (w : World) → LetsIn name o mode w
    → Tells w (own (said.Enter name o mode) ∷ []) (open_action name o mode w)
enters-tells name o mode w lets s h =
    let f : Object → Object = λ x. record x { actions = record { who = name; mode = mode } ∷ x.actions } in
    let low : o.0 < suc w.drawn.objects = found-below o (suc w.drawn.objects) w.objects lets.object h.2 lets.found in (
      new_action o name mode ∷ s,
      (refl, let_in-right name o mode w s lets h, refl),
      (
        λ n y e. changed n o f w.objects y (λ x. refl) e
            (λ is x found made.
            let before = h.0 o x found in
            let same : lets.object ≡ x = some_same lets.object x (sym lets.found ∙ found) in
            let actions : y.actions ≡ record { who = name; mode = mode } ∷ x.actions = ap (λ z. z.actions) made in
            let outside : has_open name x.actions ≡ false = subst (λ z. has_open name z.actions ≡ false) same lets.outside in (
              ap (λ m. on m.0 (new_action o name mode ∷ s)) is ∙ on-same o name mode s ∙ ap (λ xs. record { who = name; mode = mode } ∷ xs) before.0
                  ∙ sym actions,
              subst Once (sym actions) (outside, before.1),
            ))
            (λ differs found. let before = h.0 n y found in (on-new n o name mode s differs ∙ before.0, before.1)),
        λ n high. ap (λ t. cond t (record { who = name; mode = mode } ∷ on n s) (on n s)) (higher n o.0 w.drawn.objects low high) ∙ h.1 n high,
        same_drawn o f w (λ x. refl) h.2,
      ),
    )

none-step : (n o : ℕ) (a : shown.Action) (actions left : List shown.Action) (b : Bool) → on n (a ∷ actions) ≡ [] → (on n actions ≡ [] → on n left ≡ [])
    → (test : Bool) → eqb n a.object ≡ test → on n (cond b actions (a ∷ left)) ≡ []
none-step n o a actions left b e onward true is =
    absurd (let some : record { who = a.who; mode = a.mode } ∷ on n actions ≡ [] =
    sym (ap (λ t. cond t (record { who = a.who; mode = a.mode } ∷ on n actions) (on n actions)) is) ∙ e in
    cc)
none-step n o a actions left true e onward false is = sym (ap (λ t. cond t (record { who = a.who; mode = a.mode } ∷ on n actions) (on n actions)) is) ∙ e
none-step n o a actions left false e onward false is =
    ap (λ t. cond t (record { who = a.who; mode = a.mode } ∷ on n left) (on n left)) is
    ∙ onward (sym (ap (λ t. cond t (record { who = a.who; mode = a.mode } ∷ on n actions) (on n actions)) is) ∙ e)

none-closed : (n o : ℕ) (name : Who) (s : List shown.Action) → on n s ≡ [] → on n (closed o name s) ≡ []
none-closed n o name [] e = refl
none-closed n o name (a ∷ actions) e =
    none-step n o a actions (closed o name actions) (eqb o a.object && who_eq name a.who) e (λ k. none-closed n o name actions k) (eqb n a.object) refl

exits-shown : (name : Who) (o : ObjectNo) (w : World) (s : List shown.Action) → ShowsActions s w → ShowsActions (closed o.0 name s) (close_action name o w)
exits-shown name o w s h =
    let f : Object → Object = λ x. record x { actions = without (is_action_of name) x.actions } in (
      λ n y e. changed n o f w.objects y (λ x. refl) e
          (λ is x found made.
          let before = h.0 o x found in
          let actions : y.actions ≡ without (is_action_of name) x.actions = ap (λ z. z.actions) made in (
            ap (λ m. on m.0 (closed o.0 name s)) is ∙ closed-only o.0 name s x.actions before.0 before.1 ∙ sym actions,
            subst Once (sym actions) (Once-without name x.actions before.1),
          ))
          (λ differs found. let before = h.0 n y found in (closed-other n.0 o.0 name s differs ∙ before.0, before.1)),
      λ n high. none-closed n o.0 name s (h.1 n high),
      same_drawn o f w (λ x. refl) h.2,
    )

visits-tells : (name : Who) (o : ObjectNo) (mode : Mode) (xs : List Said) (w v : World) → LetsIn name o mode w → AreOthers xs → Tells w [] v
    → Tells w (own (said.Enter name o mode) ∷ xs ++ own (said.Exit name o) ∷ []) v
visits-tells name o mode xs w v lets others k s h =
    let behind = k s h in (
      s,
      (
        refl,
        let_in-right name o mode w s lets h,
        told-others xs (own (said.Exit name o) ∷ []) (new_action o name mode ∷ s) s others (refl, refl, closed-new o.0 name mode s),
      ),
      subst (λ t. ShowsActions t v) (sym behind.1) behind.2,
    )

held-tells : (name : Who) (o : ObjectNo) (mode : Mode) (w : World) → FindsHeld name o mode w → Tells w (own (said.Held name o mode) ∷ []) w
held-tells name o mode w finds s h =
    let before = h.0 o finds.object finds.found in (
      s,
      (
        refl,
        shown-any o.0 name mode s
            (subst (λ xs. list_any (other_excludes name mode) xs ≡ true) (sym before.0) (held-by_other name mode finds.object.actions finds.held)),
        refl,
      ),
      h,
    )

-- ---- the moves

tells : Moves Tells Shown
tells = record {
  stays = λ w. unmoved w;
  goes_on = λ a b c {xs} {ys} p q s h. let f = p s h in let g = q f.0 f.2 in (g.0, Told-append action_event Right actions_after xs ys s f.0 g.0 f.1 g.1, g.2);
  says = λ part line w other s h. (s, told-other part line s (λ q. q ≡ s) other refl, h);
  rests = λ w s h. (tt, h);
  leads_on = λ a b c {xs} {ys} p q s h.
      let f = p s h in
      let g = q (actions_behind s xs) f.1 in (
        Follow-append actions_after enters_rightly s xs ys f.0 g.0,
        subst (λ t. ShowsActions t c) (sym (seen_behind-append actions_after enters_rightly s xs ys)) g.1,
      );
  settles = λ p a b xs k s h.
      let f = k s h in
      let lines = told-follow p (in_order xs) s f.0 (Told-in_order action_event Right actions_after xs s f.0 f.1) in
      (lines.0, subst (λ t. ShowsActions t b) (sym lines.1) f.2);
  silently = λ a b k s h. let f = k s h in (tt, subst (λ t. ShowsActions t b) (sym f.1) f.2);
  edits_task = λ name f w k. edit_task-unmoved name f w;
  adds_task = λ t w k. unmoved w;
  forgets_task = λ name w. unmoved w;
  sets_quantum = λ level ticks w. unmoved w;
  ends_environment = λ leaving w. unmoved w;
  begins_scope = λ p name scope b w. unmoved w;
  draws_region = λ w. unmoved w;
  edits_cells = λ id f w. unmoved w;
  ends_scope = λ id w. left-tells (goes_with id) w (end_scope id w) refl refl;
  edits_call = λ c f w k. unmoved w;
  adds_call = λ c w. unmoved w;
  forgets_call = λ c w. unmoved w;
  edits_object = λ o f w k a. edited-tells o f w k a;
  adds_object =
      λ p l u w. added-tells (new_object p l u (suc w.drawn.objects)) w
      (record w { objects = new_object p l u (suc w.drawn.objects) ∷ w.objects; drawn = object_drawn w.drawn }) refl refl refl refl;
  enters = enters-tells;
  exits = λ name o w s h. (closed o.0 name s, (refl, refl, refl), exits-shown name o w s h);
  visits = visits-tells;
  finds_held = held-tells;
  appoints = λ due moment w later. unmoved w;
  drops_appointment = λ test w. unmoved w;
  registers = λ r l w. unmoved w;
  unregisters = λ n w. unmoved w;
  draws_event = λ w. unmoved w;
  adds_timer = λ t w. unmoved w;
  clears_timer = λ k w. unmoved w;
  sets_timer = λ k handler value w. unmoved w;
  sets_timers_due = λ timers w. unmoved w;
  adds_budget = λ w. unmoved w;
  edits_budget = λ b f w. unmoved w;
  sets_budget_due = λ budget w. unmoved w;
  releases = λ handler argument w s h. (s, refl, h);
  has_served = λ r w is. unmoved w;
  sets_port = λ n value w. unmoved w;
  masks = λ n flag w. unmoved w;
  keeps_interrupt = λ n flag w. unmoved w;
  cuts_script = λ x rest w is due. unmoved w;
}

tock-right : (s : List shown.Action) (event : Event) → is_of_tock event ≡ true → (enters_rightly s event ≡ true) × (actions_after s event ≡ s)
tock-right s (written.Enter name object mode) e = absurd cc
tock-right s (written.Exit name object) e = absurd cc
tock-right s (written.Held name object mode) e = absurd cc
tock-right s _ e = (refl, refl)

tocks : TockMoves Shown
tocks = record {
  tells = λ event w e s h. let r = tock-right s event e in ((r.0, tt), subst (λ t. ShowsActions t w) (sym r.1) h);
  serves = λ r rest w e s h. (tt, h);
}

-- ---- every run

OpenActions : List shown.Action → World → Type 0
OpenActions s w = ShowsActions s w

openings-lead_on : (p : Image) (script : List (ℤ × Item)) → Leads_on actions_after enters_rightly OpenActions [] (opening p script).1 (opening p script).0
unfolding Leads OpenActions
openings-lead_on p script =
    let h = effect-leads (all_of tells).fine p (opens p) (opens-keeps (all_of tells) p) (blank_world p script) tt [] (λ o x e. absurd cc, λ n high. refl, tt) in
    record { follow = h.0; shows = h.1 }

instants-lead_on : (p : Image) (s : List shown.Action) (w : World) → OpenActions s w
    → Leads_on actions_after enters_rightly OpenActions s (instant p w).1 (instant p w).0
unfolding Leads OpenActions
instants-lead_on p s w a =
    let h = instant-leads (all_of tells) p (record { puts = λ name number pieces text v x good is e q g. (q, refl, g) }) w tt s a in
    record { follow = h.0; shows = h.1 }

tocks-lead_on : (p : Image) (s : List shown.Action) (w : World) → OpenActions s w
    → Leads_on actions_after enters_rightly OpenActions s (tock p w).1 (tock p w).0
unfolding Leads OpenActions
tocks-lead_on p s w a =
    let h = before_tick-leads (all_of tells) (tocks_of tocks) p (choose w) w tt s a in
    subst (λ (t : World × List Event). Leads_on actions_after enters_rightly OpenActions s t.1 t.0) (sym (tock-parts p w))
    (record { follow = h.0; shows = h.1 })

exclusion : OfRuns actions_after enters_rightly OpenActions []
exclusion = record {
  openings = openings-lead_on;
  instants = instants-lead_on;
  tocks = tocks-lead_on;
  ends = λ p bound s w reason shown e. refl;
  bound = λ s. refl;
}

pub runs_exclude : (p : Image) (script : List (ℤ × Item)) (bound : ℕ) → EntersOk (run_of p script bound)
runs_exclude p script bound = run-at_each_line actions_after enters_rightly exclusion p script bound
