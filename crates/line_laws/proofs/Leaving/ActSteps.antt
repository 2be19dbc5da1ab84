-- The effect of an action of somebody who does not wait: first it does what only such may do with the mark on top, and then it goes
-- on from there.
use Rattle.std.proofs.Common.{◌≡◌, Bool, true, false, cond, List, [], ◌++◌, Option, Some, None, refl, sym, ap, subst, ◌∙◌, append_assoc, append-nil}
use Rattle.ann_base.specs.declared.identities.CallNo.{CallNo}
use Rattle.ann_base.specs.declared.exceptions.Raised.TheVariants as exception
use Rattle.trace_text.specs.declared.events.Who.{Who}
use Rattle.profile_image.specs.declared.image.Image.{Image}
use Rattle.profile_image.specs.declared.numbers.StatementNo.{StatementNo}
use Rattle.profile_machine.specs.declared.run_data.Leaving.{Leaving}
use Rattle.profile_machine.specs.declared.run_data.Leaving.TheVariants as how
use Rattle.profile_machine.specs.declared.world.World.{World}
use Rattle.profile_machine.specs.declared.world.appointments.Registered.{Registered}
use Rattle.profile_machine.specs.declared.world.calls.Call.{Call}
use Rattle.profile_machine.specs.declared.world.lines.Part.TheVariants.{Own}
use Rattle.profile_machine.specs.declared.world.lines.Said.{Said}
use Rattle.profile_machine.specs.declared.world.marks.AbortableMark.{AbortableMark}
use Rattle.profile_machine.specs.declared.world.marks.AcceptMark.{AcceptMark}
use Rattle.profile_machine.specs.declared.world.marks.AssignMark.{AssignMark}
use Rattle.profile_machine.specs.declared.world.marks.AssignStep.{AssignStep}
use Rattle.profile_machine.specs.declared.world.marks.AssignStep.TheVariants as assigning
use Rattle.profile_machine.specs.declared.world.marks.Frame.{Frame}
use Rattle.profile_machine.specs.declared.world.scopes.Located.{Located}
use Rattle.profile_machine.specs.declared.world.tasks.Cause.TheVariants as inherited_by
use Rattle.profile_machine.specs.Steps.{Step, Done, done, goes_on_with, nothing, changes, looks, for_some, ◌▷◌}
use Rattle.profile_machine.specs.Frames.{frames_of, top_of, pop, pass_on, raises}
use Rattle.profile_machine.specs.Scopes.{end_scope, cells_of, scope_in_use}
use Rattle.profile_machine.specs.Calls.{call_of, with_call, edit_call, attempt_on, attempt_with, is_cancellable}
use Rattle.profile_machine.specs.Inheritance.{lose_running}
use Rattle.profile_machine.specs.Serving.{not_left}
use Rattle.profile_machine.specs.Rendezvous.{finish_rendezvous, behind_accept, finished_call, end_in_accept}
use Rattle.profile_machine.specs.Controlled.{register, registers, end_in_initialize, behind_finalize, is_assignment}
use Rattle.profile_machine.specs.Controlled.{end_in_finalize, do_step, step_with, end_in_assign, registered_object}
use Rattle.profile_machine.specs.Act.{behind_handled, end_handled, end_top, wait_for_trigger, drop_trigger, below, end_abortable_by, end_in_abortable}
use Rattle.machine_laws.proofs.Moves.{StepRelation}
use Rattle.line_laws.proofs.Leaving.FineMoves.{Nature, nature, Free, Awake, top_leaving, is_special, chains}
use Rattle.line_laws.proofs.Leaving.FreeWorlds.{Inv}
use Rattle.line_laws.proofs.Leaving.RegionTies.{popped-tied}
use Rattle.line_laws.proofs.Leaving.CoreMoves.{Base, base-then, pop-base, popped-free}
use Rattle.line_laws.proofs.Leaving.Moving.{Moved, GoodAs}
use Rattle.line_laws.proofs.Leaving.Modes.{acting, acting-self, Known, Steady, none, going, steady}
use Rattle.line_laws.proofs.Leaving.Kept.Scopes.{end_scope-alters}
use Rattle.line_laws.proofs.Leaving.Kept.CallEnds.{end_found_abortable-from}
use Rattle.line_laws.proofs.Leaving.Kept.Inheritance.{lose_running-keeps}
use Rattle.line_laws.proofs.Leaving.Kept.Rendezvous.{finish_rendezvous-keeps, behind_accept-keeps}
use Rattle.machine_laws.proofs.Plain.Results.{finished_call-number, finished_call-caller}
use Rattle.line_laws.proofs.Leaving.Kept.Controlled.{register-keeps, behind_finalize-keeps, do_step-keeps}
use Rattle.line_laws.proofs.Leaving.Kept.Act.{behind_handled-keeps, wait_for_trigger-keeps, drop_trigger-alters}
use Rattle.machine_laws.proofs.FinestMoves.{being_left_in}
use Rattle.machine_laws.proofs.Kept.Combinators.{From, Keeps, Kept, changes-keeps, cond-keeps, keeps-from, looks-keeps, nothing-keeps, then-keeps}
use Rattle.machine_laws.proofs.Plain.Frames.{raises-keeps, pass_on-keeps}
use Rattle.machine_laws.proofs.Plain.Calls.{edit_call-alters, with_call-keeps, attempt_on-keeps}
use Rattle.line_laws.proofs.Leaving.Kept.Frames.{plain_steps}

-- ---- steps that are put together, whatever each of them knows

abbrev pub Does : Who → StepRelation
Does a = Base (acting a) true

pub weak-kept : (a : Who) (X : World → Type 0) (w : World) (said : List Said) (d : Done) → Kept (Moved (acting a) true X) w said d → Kept (Does a) w said d
unfolding Kept
weak-kept a X w said (done v ys) k = (k.0, k.1, k.2.core.base)

pub weak : (a : Who) (X : World → Type 0) (w : World) (f : Step) → From (Moved (acting a) true X) w f → From (Does a) w f
unfolding From
weak a X w f k said = weak-kept a X w said (f w said) (k said)

joined-kept : (a : Who) (R : StepRelation) (g : Step) (w : World) (said : List Said) (d : Done) → ((v : World) (xs : List Said) → R w xs v → Does a w xs v)
    → Kept R w said d → ((v : World) (xs : List Said) → R w xs v → From (Does a) v g) → Kept (Does a) w said (goes_on_with g d)
unfolding Kept From
joined-kept a R g w said (done v ys) base k next = onward (g v ys) (next v k.0 k.2 ys) where
  onward : (d : Done) → Kept (Does a) v ys d → Kept (Does a) w said d
  onward (done u zs) h = (k.0 ++ h.0, h.1 ∙ ap (λ xs. xs ++ h.0) k.1 ∙ append_assoc said k.0 h.0, base-then (acting a) true w v u k.0 h.0 (base v k.0 k.2) h.2)

-- a step of which more is known, and one behind it
pub joined : (a : Who) (R : StepRelation) (f g : Step) (w : World) → ((v : World) (xs : List Said) → R w xs v → Does a w xs v) → From R w f
    → ((v : World) (xs : List Said) → R w xs v → From (Does a) v g) → From (Does a) w (f ▷ g)
unfolding From
joined a R f g w base k next said = joined-kept a R g w said (f w said) base (k said) next

-- a change, with what tells it, and a step behind
pub told-from : (a : Who) (xs : List Said) (w v : World) (g : Step) → Does a w xs v → From (Does a) v g → (said : List Said)
    → Kept (Does a) w said (g v (said ++ xs))
unfolding From Kept
told-from a xs w v g first next said = onward (g v (said ++ xs)) (next (said ++ xs)) where
  onward : (d : Done) → Kept (Does a) v (said ++ xs) d → Kept (Does a) w said d
  onward (done u zs) h = (xs ++ h.0, h.1 ∙ append_assoc said xs h.0, base-then (acting a) true w v u xs h.0 first h.2)

pub silent-from : (a : Who) (w v : World) (g : Step) → Does a w [] v → From (Does a) v g → (said : List Said) → Kept (Does a) w said (g v said)
silent-from a w v g first next said = subst (λ xs. Kept (Does a) w said (g v xs)) (append-nil said) (told-from a [] w v g first next said)

-- ---- the mark on top ends

-- it is not special: somebody who acts is free below it
pub plainly-from : (a : Who) (f : Frame) (g : Step) (w : World) → Inv w → Awake a w → top_of w a ≡ Some f → is_special f.mark ≡ false
    → Keeps (GoodAs (Free a)) (Moved (acting a) true (Free a)) g → From (Does a) w (changes (pop a) ▷ g)
unfolding From
plainly-from a f g w inv awake top plain kept said =
    let out = (none a true).pops a f w (inv, tt) tt awake top plain in
    silent-from a w (pop a w) g out.core.base
    (weak a (Free a) (pop a w) g (keeps-from (chains (going a)) g (pop a w) (out.core.base.inv, popped-free a f w inv top plain) kept)) said

pub handled-from : (p : Image) (a : Who) (s : StatementNo) (leaving : Leaving) (f : Frame) (w : World) → Inv w → Awake a w → top_of w a ≡ Some f
    → is_special f.mark ≡ false → From (Does a) w (end_handled p a s leaving)
unfolding end_handled
handled-from p a s leaving f w inv awake top plain =
    plainly-from a f (behind_handled p a s leaving) w inv awake top plain (behind_handled-keeps (going a) p a s leaving refl)

pub initialized-from : (p : Image) (a : Who) (l : Located) (leaving : Leaving) (f : Frame) (w : World) → Inv w → Awake a w → top_of w a ≡ Some f
    → is_special f.mark ≡ false → From (Does a) w (end_in_initialize p a l leaving)
unfolding end_in_initialize
initialized-from p a l leaving f w inv awake top plain =
    plainly-from a f (cond (registers leaving) (register p a l) (pass_on p a leaving)) w inv awake top plain
    (cond-keeps (chains (going a)) (registers leaving) (register p a l) (pass_on p a leaving) (register-keeps (going a) p a l refl)
    (pass_on-keeps (plain_steps (going a)) p a leaving refl))

pub finalized-from : (p : Image) (a : Who) (leaving : Leaving) (w : World) → Inv w → Awake a w → From (Does a) w (end_in_finalize p a leaving)
unfolding end_in_finalize From
finalized-from p a leaving w inv awake said =
    let out = pop-base (acting a) true a w inv awake (λ s h. popped-tied s a w h) in
    let g = looks (λ v. behind_finalize p a leaving (is_assignment (top_of v a))) in
    silent-from a w (pop a w) g out
    (weak a Known (pop a w) g
    (keeps-from (chains (none a true)) g (pop a w) (out.inv, tt)
    (looks-keeps (chains (none a true)) _ (λ v. behind_finalize-keeps (none a true) p a leaving (is_assignment (top_of v a)))))) said

popped-alone : (a : Who) (f : Frame) (w : World) → Inv w → Awake a w → From (Does a) w (changes (pop a))
unfolding From Kept
popped-alone a f w inv awake said = ([], sym (append-nil said), pop-base (acting a) true a w inv awake (λ s h. popped-tied s a w h))

free-top : (a : Who) (f : Frame) (w : World) → top_of w a ≡ Some f → being_left_in f.mark ≡ false → Free a w
free-top a f w top not_left = ap top_leaving top ∙ not_left

do_step-from : (p : Image) (a : Who) (step : AssignStep) (target source : Registered) (f : Frame) (w : World) → Inv w → Awake a w → Free a w
    → From (Does a) w (do_step p a step target source)
do_step-from p a assigning.FinalizeTarget target source f w inv awake free =
    weak a (Free a) w _ (keeps-from (chains (going a)) _ w (inv, free) (do_step-keeps (going a) p a assigning.FinalizeTarget target source refl (λ e. cc)))
do_step-from p a assigning.CopyComponents target source f w inv awake free =
    weak a (Free a) w _ (keeps-from (chains (going a)) _ w (inv, free) (do_step-keeps (going a) p a assigning.CopyComponents target source refl (λ e. cc)))
do_step-from p a assigning.AdjustTarget target source f w inv awake free =
    weak a (Free a) w _ (keeps-from (chains (going a)) _ w (inv, free) (do_step-keeps (going a) p a assigning.AdjustTarget target source refl (λ e. cc)))
do_step-from p a assigning.Assigned target source f w inv awake free = popped-alone a f w inv awake

step_with-from : (p : Image) (a : Who) (step : AssignStep) (target source : Option Registered) (f : Frame) (w : World) → Inv w → Awake a w → Free a w
    → From (Does a) w (step_with p a step target source)
step_with-from p a step (Some target) (Some source) f w inv awake free = do_step-from p a step target source f w inv awake free
step_with-from p a step (Some target) None f w inv awake free = popped-alone a f w inv awake
step_with-from p a step None source f w inv awake free = popped-alone a f w inv awake

pub assigned-from : (p : Image) (a : Who) (m : AssignMark) (leaving : Option Leaving) (f : Frame) (w : World) → Inv w → Awake a w → top_of w a ≡ Some f
    → is_special f.mark ≡ false → being_left_in f.mark ≡ false → From (Does a) w (end_in_assign p a m leaving)
unfolding end_in_assign From
assigned-from p a m (Some (how.Exception e)) f w inv awake top plain not_left said =
    plainly-from a f (raises Own a exception.Program) w inv awake top plain (raises-keeps (plain_steps (going a)) Own a exception.Program) said
assigned-from p a m _ f w inv awake top plain not_left said =
    step_with-from p a m.step (registered_object w m.target) (registered_object w m.source) f w inv awake (free-top a f w top not_left) said

-- ---- an abortable part

pub top_steady : (a : Who) (f : Frame) (w : World) → Awake a w → top_of w a ≡ Some f → Steady a (nature f.mark) w
top_steady a f w awake top = record { awake = awake; top = record { frame = f; first = top; is = refl } }

pub steady-then : (a : Who) (n : Nature) (f g : Step) (w : World) → Inv w → Steady a n w → Keeps (GoodAs (Steady a n)) (Moved (acting a) true (Steady a n)) f
    → ((v : World) (xs : List Said) → Does a w xs v → Inv v → Steady a n v → From (Does a) v g) → From (Does a) w (f ▷ g)
steady-then a n f g w inv stays kept next =
    joined a (Moved (acting a) true (Steady a n)) f g w (λ v xs h. h.core.base) (keeps-from (chains (steady a n)) f w (inv, stays) kept)
    (λ v xs h. next v xs h.core.base h.core.base.inv h.extra)

end_top-from : (p : Image) (a : Who) (w : World) → Inv w → Awake a w → From (Does a) w (end_top p a)
unfolding end_top
end_top-from p a w inv awake = weak a Known w _ (end_found_abortable-from (none a true) p Own a w (inv, tt) tt awake)

pub steady-free : (a : Who) (n : Nature) (w : World) → n.leaving ≡ false → Steady a n w → Free a w
steady-free a n w not_left s = ap top_leaving s.top.first ∙ ap (λ k. k.leaving) s.top.is ∙ not_left

attempted-from : (p : Image) (a : Who) (leaving : Leaving) (n : Nature) (d : Call) (test : Bool) (w : World) → Inv w → Steady a n w → n.leaving ≡ false
    → From (Does a) w (elim test as (λ _. Step) [ true ↦ end_top p a | false ↦ wait_for_trigger a d leaving ])
attempted-from p a leaving n d true w inv stays not_left = end_top-from p a w inv stays.awake
attempted-from p a leaving n d false w inv stays not_left =
    weak a (Free a) w _ (keeps-from (chains (going a)) _ w (inv, steady-free a n w not_left stays) (wait_for_trigger-keeps (going a) a d leaving refl))

by_call-from : (p : Image) (a : Who) (leaving : Leaving) (n : Nature) (found : Option Call) (w : World) → Inv w → Steady a n w → n.leaving ≡ false
    → From (Does a) w (for_some found (λ d. attempt_with p Own d (end_top p a) (wait_for_trigger a d leaving)))
by_call-from p a leaving n None w inv stays not_left =
    weak a Known w nothing (keeps-from (chains (none a true)) nothing w (inv, tt) (nothing-keeps (chains (none a true))))
by_call-from p a leaving n (Some d) w inv stays not_left =
    steady-then a n (attempt_on p Own d) (elim (is_cancellable d) as (λ _. Step) [ true ↦ end_top p a | false ↦ wait_for_trigger a d leaving ]) w inv stays
    (attempt_on-keeps (plain_steps (steady a n)) p Own d)
    (λ v xs h inv_v stays_v. attempted-from p a leaving n d (is_cancellable d) v inv_v stays_v not_left)

by_own-from : (p : Image) (a : Who) (m : AbortableMark) (leaving : Leaving) (n : Nature) (call : Option CallNo) (w : World) → Inv w → Steady a n w
    → n.leaving ≡ false
    → From (Does a) w
    (elim call as (λ _. Step) [
      | None ↦ looks (λ v. changes (drop_trigger a (below (frames_of v a)))) ▷ end_top p a
      | Some c ↦ with_call c (λ d. attempt_with p Own d (end_top p a) (wait_for_trigger a d leaving))
    ])
unfolding From
by_own-from p a m leaving n None w inv stays not_left said =
    steady-then a n (looks (λ v. changes (drop_trigger a (below (frames_of v a))))) (end_top p a) w inv stays
    (looks-keeps (chains (steady a n)) _ (λ v. changes-keeps (chains (steady a n)) _ (drop_trigger-alters (steady a n) a (below (frames_of v a)))))
    (λ v xs h inv_v stays_v. end_top-from p a v inv_v stays_v.awake) said
by_own-from p a m leaving n (Some c) w inv stays not_left said = by_call-from p a leaving n (call_of w c) w inv stays not_left said

abortable-from : (p : Image) (a : Who) (m : AbortableMark) (leaving : Leaving) (f : Frame) (triggered : Bool) (w : World) → Inv w → Awake a w
    → top_of w a ≡ Some f → being_left_in f.mark ≡ false → From (Does a) w (cond triggered (end_top p a) (end_abortable_by p a m leaving))
unfolding end_abortable_by
abortable-from p a m leaving f true w inv awake top not_left = end_top-from p a w inv awake
abortable-from p a m leaving f false w inv awake top not_left = by_own-from p a m leaving (nature f.mark) m.call w inv (top_steady a f w awake top) not_left

pub end_abortable-from : (p : Image) (a : Who) (m : AbortableMark) (leaving : Leaving) (f : Frame) (w : World) → Inv w → Awake a w → top_of w a ≡ Some f
    → being_left_in f.mark ≡ false → From (Does a) w (end_in_abortable p a m leaving)
unfolding end_in_abortable
end_abortable-from p a m leaving f w inv awake top not_left = abortable-from p a m leaving f m.triggered w inv awake top not_left

-- ---- an accept

pub accepted-from : (p : Image) (a : Who) (m : AcceptMark) (leaving : Leaving) (f : Frame) (w : World) → Inv w → Awake a w → top_of w a ≡ Some f
    → is_special f.mark ≡ false → From (Does a) w (end_in_accept p a m leaving)
unfolding end_in_accept From
accepted-from p a m leaving f w inv awake top plain said =
    let G = going a in
    let g =
    changes (end_scope m.within) ▷ changes (edit_call m.call (finished_call p (cells_of (scope_in_use w m.within)) leaving))
    ▷ with_call m.call (λ c. finish_rendezvous p a c leaving) in
    let rest = lose_running p a (inherited_by.Rendezvous m.call) ▷ behind_accept p a leaving in
    plainly-from a f (g ▷ rest) w inv awake top plain
    (then-keeps (chains G) g rest
    (then-keeps (chains G) (changes (end_scope m.within)) _ (changes-keeps (chains G) _ (end_scope-alters G m.within))
    (then-keeps (chains G) (changes (edit_call m.call (finished_call p (cells_of (scope_in_use w m.within)) leaving))) _
    (changes-keeps (chains G) _
    (edit_call-alters (plain_steps G) m.call (finished_call p (cells_of (scope_in_use w m.within)) leaving)
    (finished_call-number p (cells_of (scope_in_use w m.within)) leaving) (finished_call-caller p (cells_of (scope_in_use w m.within)) leaving)))
    (with_call-keeps (plain_steps G) m.call _ (λ c. finish_rendezvous-keeps G p a c leaving))))
    (then-keeps (chains G) (lose_running p a (inherited_by.Rendezvous m.call)) (behind_accept p a leaving)
    (lose_running-keeps G p a (inherited_by.Rendezvous m.call) (acting-self a)) (behind_accept-keeps G p a leaving refl))) said
