-- The end of a scope: its region begins to be left, one of its objects is finalized, or it has been left.
use Rattle.std.proofs.Common.{◌≡◌, ℕ, Bool, true, false, List, [], ◌∷◌, Option, Some, None, is_some, refl, sym, ap, subst, ◌∙◌}
use Rattle.std.specs.Prelude.{filter}
use Rattle.ann_base.specs.declared.identities.RegionNo.{RegionNo}
use Rattle.ann_base.specs.declared.exceptions.Raised.TheVariants as exception
use Rattle.trace_text.specs.declared.events.Who.{Who}
use Rattle.profile_image.specs.declared.image.Image.{Image}
use Rattle.profile_machine.specs.declared.run_data.Leaving.{Leaving}
use Rattle.profile_image.specs.declared.values.Value.{Value}
use Rattle.profile_machine.specs.declared.world.World.{World}
use Rattle.profile_machine.specs.declared.world.appointments.Registered.{Registered}
use Rattle.profile_machine.specs.declared.world.calls.Call.{Call}
use Rattle.profile_machine.specs.declared.world.lines.Line.TheVariants as line
use Rattle.profile_machine.specs.declared.world.lines.Part.TheVariants.{Own}
use Rattle.profile_machine.specs.declared.world.lines.Said.{Said}
use Rattle.profile_machine.specs.declared.world.marks.Frame.{Frame}
use Rattle.profile_machine.specs.declared.world.marks.Mark.{Mark}
use Rattle.profile_machine.specs.declared.world.marks.Mark.TheVariants.{Scope, Handled, InProtected, InAccept, Abortable, InInitialize, InFinalize, InAssign}
use Rattle.profile_machine.specs.declared.world.marks.Purpose.{Purpose}
use Rattle.profile_machine.specs.declared.world.marks.Purpose.TheVariants as opened_for
use Rattle.profile_machine.specs.declared.world.marks.ScopeMark.{ScopeMark}
use Rattle.profile_machine.specs.declared.world.scopes.ScopeId.{ScopeId}
use Rattle.profile_machine.specs.declared.world.tasks.Task.{Task}
use Rattle.profile_machine.specs.Steps.{Step, changes, says, looks, when, for_some, for_each, ◌▷◌}
use Rattle.world_tables.specs.Lists.{first_of, rest_of}
use Rattle.profile_machine.specs.Tasks.{with_frames}
use Rattle.profile_machine.specs.Frames.{top_of, pop, edit_top, edit_first}
use Rattle.profile_machine.specs.Scopes.{end_scope, cells_of, scope_in_use}
use Rattle.profile_machine.specs.Controlled.{next_to_finalize, finalize, edit_top_scope}
use Rattle.profile_machine.specs.Tasking.{leaves_as, being_left_mark, left_so_frame, is_made_in, end_made, complete_if_task}
use Rattle.profile_machine.specs.Tasking.{wait_for_dependents, leave_region, is_task_scope, behind_scope, raises_behind}
use Rattle.profile_machine.specs.Tasking.{left_by, says_left, end_of_scope, go_on_leaving, end_scope_mark_of, end_scope_mark}
use Rattle.machine_laws.proofs.Moves.{own}
use Rattle.line_laws.proofs.Leaving.FineMoves.{Alike, Free, Awake, is_special, own_call_of, chains}
use Rattle.line_laws.proofs.Leaving.FreeWorlds.{Inv, Good, edited-inv}
use Rattle.line_laws.proofs.Leaving.RegionLines.{NotLeaving}
use Rattle.line_laws.proofs.Leaving.RegionTies.{popped-tied}
use Rattle.line_laws.proofs.Leaving.Telling.{begins_leaving-tells, has_left-tells}
use Rattle.line_laws.proofs.Leaving.CoreMoves.{pop-base, popped-free, claim-quiet, edited-called, edited-state}
use Rattle.line_laws.proofs.Leaving.Moving.{Moved, GoodAs}
use Rattle.line_laws.proofs.Leaving.Modes.{acting, acting-self, Known, none, going}
use Rattle.line_laws.proofs.Leaving.Kept.Scopes.{end_scope-alters}
use Rattle.line_laws.proofs.Leaving.Kept.Controlled.{finalize-from}
use Rattle.line_laws.proofs.Leaving.Kept.Tasking.{behind_scope-keeps, behind_task-keeps, raised_behind-keeps, leaves_on-keeps}
use Rattle.line_laws.proofs.Leaving.ActSteps.{Does, weak, told-from, silent-from}
use Rattle.line_laws.proofs.Leaving.FreeWorlds.{Below, waits_as, alike-good}
use Rattle.line_laws.proofs.Leaving.CoreMoves.{awake-as}
use Rattle.line_laws.proofs.Leaving.Kept.Frames.{alike}
use Rattle.profile_machine.specs.Frames.{with_mark}
use Rattle.profile_machine.specs.Controlled.{edit_scope_mark}
use Rattle.profile_machine.specs.declared.world.tasks.State.{State}
use Rattle.machine_laws.proofs.Kept.Combinators.{From, Keeps, Kept, changes-keeps, keeps-from, then-keeps}

-- ---- a region begins to be left

begun_mark : (mark : Mark)
    → (is_special (edit_scope_mark being_left_mark mark) ≡ is_special mark) × (own_call_of (edit_scope_mark being_left_mark mark) ≡ own_call_of mark)
begun_mark (Scope m) = (refl, refl)
begun_mark (Handled s) = (refl, refl)
begun_mark (InProtected m) = (refl, refl)
begun_mark (InAccept m) = (refl, refl)
begun_mark (Abortable m) = (refl, refl)
begun_mark (InInitialize l) = (refl, refl)
begun_mark (InFinalize o) = (refl, refl)
begun_mark (InAssign m) = (refl, refl)

begun-below : (mark : Mark) (fs : List Frame) → Below mark fs → Below (edit_scope_mark being_left_mark mark) fs
begun-below mark [] h = tt
begun-below mark (g ∷ gs) h = λ e. h (sym (begun_mark mark).0 ∙ e)

abbrev begun_frame : Frame → Frame
begun_frame x = with_mark (edit_scope_mark being_left_mark x.mark) x

begun-good : (calls : List Call) (drawn : ℕ) (name : Who) (f : Frame) (fs : List Frame) (state : State) → first_of fs ≡ Some f → f.onward ≡ None
    → waits_as name state ≡ false → Good calls drawn name fs state → Good calls drawn name (edit_first begun_frame fs) state
begun-good calls drawn name f [] state first stops awake h = absurd cc
begun-good calls drawn name f (g ∷ gs) state first stops awake h =
    let same : g ≡ f = cc in
    let none : is_some g.onward ≡ false = ap (λ (x : Frame). is_some x.onward) same ∙ ap is_some stops in
    record {
      sound = ((λ e. none), begun-below g.mark gs h.sound.1, h.sound.2);
      free = λ e. absurd (let never : true ≡ false = sym e ∙ awake in cc);
      own = ((λ c e. h.own.0 c (sym (begun_mark g.mark).1 ∙ e)), h.own.1);
    }

left_so-alike : (leaving : Leaving) (fs : List Frame) → Alike (edit_first (left_so_frame leaving) fs) fs
left_so-alike leaving [] = tt
left_so-alike leaving (f ∷ fs) = (refl, (λ e. e), alike fs)

begun-base : (a : Who) (f : Frame) (m : ScopeMark) (r : RegionNo) (leaving : Leaving) (w : World) → Inv w → Awake a w → top_of w a ≡ Some f → f.onward ≡ None
    → f.mark ≡ Scope m → m.region ≡ Some r → m.being_left ≡ false
    → Does a w (own (line.Leave a r (leaves_as leaving)) ∷ []) (edit_top a (left_so_frame leaving) (edit_top_scope a being_left_mark w))
begun-base a f m r leaving w inv awake top stops is region left =
    let first = edit_top_scope a being_left_mark w in
    let g = λ (t : Task). with_frames (edit_first begun_frame t.frames) t in
    let h = λ (t : Task). with_frames (edit_first (left_so_frame leaving) t.frames) t in
    record {
      tells = begins_leaving-tells NotLeaving a f m r leaving w top is region left;
      called = λ n c k. edited-called a h first n c (edited-called a g w n c k);
      claims =
          λ t. claim-quiet (acting a) true t w (own (line.Leave a r (leaves_as leaving)) ∷ []) (edit_top a (left_so_frame leaving) first)
          (edited-state a h first t (λ u. refl) (λ u. refl) ∙ edited-state a g w t (λ u. refl) (λ u. refl)) (refl, tt);
      inv =
          edited-inv a h first (λ u. refl)
          (λ t e k.
          alike-good first.calls first.drawn.calls a (edit_first (left_so_frame leaving) t.frames) t.frames t.state (left_so-alike leaving t.frames) k)
          (edited-inv a g w (λ u. refl)
          (λ t e k. begun-good w.calls w.drawn.calls a f t.frames t.state (subst (λ (x : Task). first_of x.frames ≡ Some f) e top) stops
          (awake-as a w t e awake) k) inv);
    }

pub leave_region-from : (p : Image) (a : Who) (f : Frame) (m : ScopeMark) (leaving : Leaving) (r : RegionNo) (w : World) → Inv w → Awake a w
    → top_of w a ≡ Some f → f.onward ≡ None → f.mark ≡ Scope m → m.region ≡ Some r → m.being_left ≡ false → From (Does a) w (leave_region p a m leaving r)
unfolding leave_region From
leave_region-from p a f m leaving r w inv awake top stops is region left said =
    let first = begun-base a f m r leaving w inv awake top stops is region left in
    let v = edit_top a (left_so_frame leaving) (edit_top_scope a being_left_mark w) in
    let rest = looks (λ x. for_each (filter (is_made_in r) x.tasks) (end_made p a)) ▷ complete_if_task p a m.purpose ▷ wait_for_dependents a r in
    told-from a (own (line.Leave a r (leaves_as leaving)) ∷ []) w v rest first
    (weak a Known v rest (keeps-from (chains (none a true)) rest v (first.inv, tt) (leaves_on-keeps (none a true) p a m r (acting-self a) tt))) said

-- ---- a scope ends

abbrev Ending : Image → Who → ScopeId → Bool → Purpose → List Value → Leaving → Step
Ending p a id test purpose cells leaving =
    changes (end_scope id) ▷ when test (says Own (line.Raise a exception.Program)) ▷ behind_scope p a purpose cells leaving

behind_going : (p : Image) (a : Who) (id : ScopeId) (test : Bool) (purpose : Purpose) (cells : List Value) (leaving : Leaving) → is_task_scope purpose ≡ false
    → Keeps (GoodAs (Free a)) (Moved (acting a) true (Free a)) (Ending p a id test purpose cells leaving)
behind_going p a id test purpose cells leaving other =
    let G = going a in
    then-keeps (chains G) (changes (end_scope id)) _ (changes-keeps (chains G) _ (end_scope-alters G id))
    (then-keeps (chains G) (when test (says Own (line.Raise a exception.Program))) (behind_scope p a purpose cells leaving) (raised_behind-keeps G a test)
    (behind_scope-keeps G p a purpose cells leaving refl other))

behind_ended : (p : Image) (a : Who) (id : ScopeId) (test : Bool) (cells : List Value) (leaving : Leaving)
    → Keeps (GoodAs Known) (Moved (acting a) true Known) (Ending p a id test opened_for.Task cells leaving)
behind_ended p a id test cells leaving =
    let G = none a true in
    then-keeps (chains G) (changes (end_scope id)) _ (changes-keeps (chains G) _ (end_scope-alters G id))
    (then-keeps (chains G) (when test (says Own (line.Raise a exception.Program))) (behind_scope p a opened_for.Task cells leaving)
    (raised_behind-keeps G a test) (behind_task-keeps G p a cells leaving tt))

behind_popped : (p : Image) (a : Who) (id : ScopeId) (test : Bool) (purpose : Purpose) (cells : List Value) (leaving : Leaving) (f : Frame) (w : World) → Inv w
    → Awake a w → top_of w a ≡ Some f → is_special f.mark ≡ is_task_scope purpose → From (Does a) (pop a w) (Ending p a id test purpose cells leaving)
behind_popped p a id test opened_for.Task cells leaving f w inv awake top special =
    let out = pop-base (acting a) true a w inv awake (λ s h. popped-tied s a w h) in
    weak a Known (pop a w) _ (keeps-from (chains (none a true)) _ (pop a w) (out.inv, tt) (behind_ended p a id test cells leaving))
behind_popped p a id test (opened_for.Block s) cells leaving f w inv awake top special =
    let out = pop-base (acting a) true a w inv awake (λ s h. popped-tied s a w h) in
    weak a (Free a) (pop a w) _
    (keeps-from (chains (going a)) _ (pop a w) (out.inv, popped-free a f w inv top special)
    (behind_going p a id test (opened_for.Block s) cells leaving refl))
behind_popped p a id test (opened_for.Subprogram back to) cells leaving f w inv awake top special =
    let out = pop-base (acting a) true a w inv awake (λ s h. popped-tied s a w h) in
    weak a (Free a) (pop a w) _
    (keeps-from (chains (going a)) _ (pop a w) (out.inv, popped-free a f w inv top special)
    (behind_going p a id test (opened_for.Subprogram back to) cells leaving refl))
behind_popped p a id test (opened_for.EntryBody c) cells leaving f w inv awake top special =
    let out = pop-base (acting a) true a w inv awake (λ s h. popped-tied s a w h) in
    weak a (Free a) (pop a w) _
    (keeps-from (chains (going a)) _ (pop a w) (out.inv, popped-free a f w inv top special)
    (behind_going p a id test (opened_for.EntryBody c) cells leaving refl))

-- what is told of the region
abbrev left_lines : Who → Option RegionNo → List Said
left_lines a None = []
left_lines a (Some r) = own (line.Left a r) ∷ []

left-base : (a : Who) (f : Frame) (m : ScopeMark) (region : Option RegionNo) (w : World) → Inv w → Awake a w → top_of w a ≡ Some f → f.mark ≡ Scope m
    → m.region ≡ region → ((r : RegionNo) → region ≡ Some r → (m.being_left ≡ true) × (next_to_finalize w r ≡ None)) → Does a w (left_lines a region) (pop a w)
left-base a f m None w inv awake top is region ended = pop-base (acting a) true a w inv awake (λ s h. popped-tied s a w h)
left-base a f m (Some r) w inv awake top is region ended =
    let out = pop-base (acting a) true a w inv awake (λ s h. popped-tied s a w h) in
    let e = ended r refl in
    record {
      tells = has_left-tells NotLeaving a f m r w top is region e.0 e.1;
      called = out.called;
      claims =
          λ t. claim-quiet (acting a) true t w (own (line.Left a r) ∷ []) (pop a w)
          (edited-state a (λ u. with_frames (rest_of u.frames) u) w t (λ u. refl) (λ u. refl)) (refl, tt);
      inv = out.inv;
    }

ended-kept : (p : Image) (a : Who) (id : ScopeId) (test : Bool) (purpose : Purpose) (cells : List Value) (leaving : Leaving) (f : Frame)
    (region : Option RegionNo) (w : World)
    → Inv w
    → Awake a w
    → top_of w a ≡ Some f
    → is_special f.mark ≡ is_task_scope purpose
    → Does a w (left_lines a region) (pop a w)
    → (said : List Said)
    → Kept (Does a) w said
    ((changes (pop a) ▷ changes (end_scope id) ▷ (for_some region (λ r. says Own (line.Left a r)) ▷ when test (says Own (line.Raise a exception.Program)))
    ▷ behind_scope p a purpose cells leaving) w said)
ended-kept p a id test purpose cells leaving f None w inv awake top special out said =
    silent-from a w (pop a w) (Ending p a id test purpose cells leaving) out (behind_popped p a id test purpose cells leaving f w inv awake top special) said
ended-kept p a id test purpose cells leaving f (Some r) w inv awake top special out said =
    told-from a (own (line.Left a r) ∷ []) w (pop a w) (Ending p a id test purpose cells leaving) out
    (behind_popped p a id test purpose cells leaving f w inv awake top special) said

pub end_of_scope-from : (p : Image) (a : Who) (m : ScopeMark) (leaving : Leaving) (f : Frame) (w : World) → Inv w → Awake a w → top_of w a ≡ Some f
    → f.mark ≡ Scope m → ((r : RegionNo) → m.region ≡ Some r → (m.being_left ≡ true) × (next_to_finalize w r ≡ None))
    → From (Does a) w (end_of_scope p a m leaving)
unfolding end_of_scope From says_left
end_of_scope-from p a m leaving f w inv awake top is ended said =
    ended-kept p a m.within (raises_behind m leaving) m.purpose (cells_of (scope_in_use w m.within)) (left_by m leaving) f m.region w inv awake top
    (ap is_special is) (left-base a f m m.region w inv awake top is refl ended) said

-- ---- a kept scope is left

finalizing-from : (p : Image) (a : Who) (m : ScopeMark) (leaving : Leaving) (r : RegionNo) (f : Frame) (next : Option Registered) (w : World) → Inv w
    → Awake a w → top_of w a ≡ Some f → f.mark ≡ Scope m → m.region ≡ Some r → m.being_left ≡ true → next_to_finalize w r ≡ next
    → From (Does a) w (elim next as (λ _. Step) [ None ↦ end_of_scope p a m leaving | Some x ↦ finalize p a x ])
finalizing-from p a m leaving r f None w inv awake top is region left e =
    end_of_scope-from p a m leaving f w inv awake top is
    (λ s k. (left, let same : r ≡ s = (let both : Some r ≡ Some s = sym region ∙ k in cc) in subst (λ x. next_to_finalize w x ≡ None) same e))
finalizing-from p a m leaving r f (Some x) w inv awake top is region left e =
    weak a Known w _ (finalize-from (none a true) p a f m r x w (inv, tt) tt top is region left e)

on_leaving-from : (p : Image) (a : Who) (m : ScopeMark) (leaving : Leaving) (r : RegionNo) (f : Frame) (left : Bool) (w : World) → Inv w → Awake a w
    → top_of w a ≡ Some f → f.onward ≡ None → f.mark ≡ Scope m → m.region ≡ Some r → m.being_left ≡ left → From (Does a) w (go_on_leaving p a m leaving r left)
unfolding go_on_leaving From
on_leaving-from p a m leaving r f false w inv awake top stops is region left said =
    leave_region-from p a f m leaving r w inv awake top stops is region left said
on_leaving-from p a m leaving r f true w inv awake top stops is region left said =
    finalizing-from p a m leaving r f (next_to_finalize w r) w inv awake top is region left refl said

scope_mark-from : (p : Image) (a : Who) (m : ScopeMark) (leaving : Leaving) (f : Frame) (region : Option RegionNo) (w : World) → Inv w → Awake a w
    → top_of w a ≡ Some f → f.onward ≡ None → f.mark ≡ Scope m → m.region ≡ region → From (Does a) w (end_scope_mark_of p a m leaving region)
unfolding end_scope_mark_of
scope_mark-from p a m leaving f None w inv awake top stops is region =
    end_of_scope-from p a m leaving f w inv awake top is (λ r e. absurd (let never : None ≡ Some r = sym region ∙ e in cc))
scope_mark-from p a m leaving f (Some r) w inv awake top stops is region = on_leaving-from p a m leaving r f m.being_left w inv awake top stops is region refl

pub end_scope_mark-from : (p : Image) (a : Who) (m : ScopeMark) (leaving : Leaving) (f : Frame) (w : World) → Inv w → Awake a w → top_of w a ≡ Some f
    → f.onward ≡ None → f.mark ≡ Scope m → From (Does a) w (end_scope_mark p a m leaving)
unfolding end_scope_mark
end_scope_mark-from p a m leaving f w inv awake top stops is = scope_mark-from p a m leaving f m.region w inv awake top stops is refl
