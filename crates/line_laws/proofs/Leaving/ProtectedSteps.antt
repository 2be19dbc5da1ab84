-- The end of a body in a protected action: the next call is served, or the object is released.
use Rattle.std.proofs.Common.{◌≡◌, ℕ, zero, suc, Bool, true, false, List, [], ◌∷◌, Option, Some, None, is_some, length, refl, sym, ap, subst, ◌∙◌}
use Rattle.ann_base.specs.declared.identities.CallNo.{CallNo}
use Rattle.ann_base.specs.declared.exceptions.Raised.{Raised}
use Rattle.ann_base.specs.declared.exceptions.Raised.TheVariants as exception
use Rattle.trace_text.specs.declared.events.Mode.{Mode}
use Rattle.trace_text.specs.declared.events.Mode.TheVariants.{Read, Write}
use Rattle.trace_text.specs.declared.events.Who.{Who}
use Rattle.profile_image.specs.declared.image.Image.{Image}
use Rattle.profile_machine.specs.declared.run_data.Leaving.{Leaving}
use Rattle.profile_machine.specs.declared.run_data.Leaving.TheVariants as how
use Rattle.profile_machine.specs.declared.world.World.{World}
use Rattle.profile_machine.specs.declared.world.calls.Call.{Call}
use Rattle.profile_machine.specs.declared.world.calls.Outcome.TheVariants as call_ended
use Rattle.profile_machine.specs.declared.world.calls.Sending.{Sending}
use Rattle.profile_machine.specs.declared.world.lines.Line.TheVariants as line
use Rattle.profile_machine.specs.declared.world.lines.MeetingEnd.TheVariants as meeting
use Rattle.profile_machine.specs.declared.world.lines.Part.{Part}
use Rattle.profile_machine.specs.declared.world.lines.Part.TheVariants.{Own, TheFinish}
use Rattle.profile_machine.specs.declared.world.marks.Frame.{Frame}
use Rattle.profile_machine.specs.declared.world.marks.Mark.TheVariants.{InProtected}
use Rattle.profile_machine.specs.declared.world.marks.ProtectedMark.{ProtectedMark}
use Rattle.profile_machine.specs.declared.world.tasks.Cause.TheVariants as inherited_by
use Rattle.profile_machine.specs.Steps.{Step, nothing, changes, says, for_some, ◌▷◌}
use Rattle.world_tables.specs.Lists.{first_of}
use Rattle.profile_machine.specs.Values.{object_of}
use Rattle.profile_machine.specs.Tasks.{task_of}
use Rattle.profile_machine.specs.Frames.{top_of, pop, edit_top}
use Rattle.profile_machine.specs.Calls.{call_of, with_call, enqueue}
use Rattle.profile_machine.specs.CallEnds.{deliver}
use Rattle.profile_machine.specs.Inheritance.{lose_running}
use Rattle.profile_machine.specs.Priorities.{set_deferred}
use Rattle.ann_base.specs.declared.identities.ObjectNo.{ObjectNo}
use Rattle.profile_machine.specs.Protected.{served_next, edit_top_protected, serve_call, begin_call, body_opens, has_room_for_body}
use Rattle.profile_machine.specs.Sending.{send_on}
use Rattle.profile_machine.specs.Serving.{close_action, behind_action, release_object, settle_sent, begins_part, chosen_is_sent, part_of_start, serve_chosen}
use Rattle.profile_machine.specs.Serving.{serve_next, serve_calls, go_on_by_mode, with_body_left, not_left, end_operation, outcome_by, is_own_call}
use Rattle.profile_machine.specs.Serving.{finish_raised, finish_well, finish_call, no_longer_serves, end_entry_body, end_in_protected_by, end_in_protected}
use Rattle.machine_laws.proofs.Moves.{own}
use Rattle.line_laws.proofs.Leaving.FineMoves.{nature, Free, Awake, Caller, is_special, own_call_of, says-keeps, chains}
use Rattle.line_laws.proofs.Leaving.FreeWorlds.{Inv, good-task}
use Rattle.line_laws.proofs.Leaving.RegionTies.{popped-tied}
use Rattle.line_laws.proofs.Leaving.CoreMoves.{pop-base, popped-free}
use Rattle.line_laws.proofs.Leaving.Moving.{Moved, GoodAs}
use Rattle.line_laws.proofs.Leaving.Modes.{acting, acting-self, Known, Steady, none, going, steady}
use Rattle.line_laws.proofs.Leaving.Kept.Frames.{edit_top-alters, plain_steps}
use Rattle.line_laws.proofs.Leaving.Kept.CallEnds.{deliver-keeps}
use Rattle.line_laws.proofs.Leaving.Kept.Inheritance.{lose_running-keeps}
use Rattle.line_laws.proofs.Leaving.Kept.Priorities.{set_deferred-keeps}
use Rattle.line_laws.proofs.Leaving.Kept.Protected.{edit_top_protected-alters, begin_call-keeps, body_opens-keeps}
use Rattle.line_laws.proofs.Leaving.Kept.Sending.{send_on-keeps}
use Rattle.line_laws.proofs.Leaving.Kept.Serving.{end_release-keeps, behind_action-from, settle_sent-keeps, begins_part-keeps}
use Rattle.line_laws.proofs.Leaving.ActSteps.{Does, weak, joined, told-from, silent-from, steady-then, top_steady, steady-free}
use Rattle.line_laws.proofs.Leaving.FreeWorlds.{OwnCalls, CallerIn}
use Rattle.machine_laws.proofs.Kept.Combinators.{From, Keeps, changes-keeps, keeps-from, nothing-keeps, then-keeps}
use Rattle.machine_laws.proofs.Plain.Calls.{enqueue-keeps}

-- ---- the object is released

own_on_top : (calls : List Call) (drawn : ℕ) (name : Who) (fs : List Frame) (f : Frame) (c : CallNo) → first_of fs ≡ Some f → OwnCalls calls drawn name fs
    → own_call_of f.mark ≡ Some c → CallerIn calls drawn c name
own_on_top calls drawn name [] f c first h e = absurd cc
own_on_top calls drawn name (g ∷ gs) f c first h e = let same : g ≡ f = cc in h.0 c (ap (λ (x : Frame). own_call_of x.mark) same ∙ e)

abbrev Entered : Who → ProtectedMark → World → Type 0
Entered a m w = Steady a (nature (InProtected m)) w

abbrev Releasing : Image → Who → ProtectedMark → Option ℕ → Step
Releasing p a m rel = lose_running p a (inherited_by.Ceiling m.object) ▷ set_deferred p a ▷ behind_action p a m rel m.own_call

releasing-plainly : (p : Image) (a : Who) (m : ProtectedMark) (w : World) → Inv w → Free a w → ((c : CallNo) → m.own_call ≡ Some c → Caller c a w)
    → From (Does a) w (Releasing p a m None)
releasing-plainly p a m w inv free called =
    let G = going a in
    let R = Moved (acting a) true (Free a) in
    joined a R (lose_running p a (inherited_by.Ceiling m.object)) (set_deferred p a ▷ behind_action p a m None m.own_call) w (λ v xs h. h.core.base)
    (keeps-from (chains G) _ w (inv, free) (lose_running-keeps G p a (inherited_by.Ceiling m.object) (acting-self a)))
    (λ v xs h. joined a R (set_deferred p a) (behind_action p a m None m.own_call) v (λ u ys k. k.core.base)
    (keeps-from (chains G) _ v (h.core.base.inv, h.extra) (set_deferred-keeps G p a))
    (λ u ys k. weak a (Free a) u _
    (behind_action-from G p a m m.own_call u (k.core.base.inv, k.extra) refl
    (λ c e d found. let still : Caller c a u = k.core.base.called a c (h.core.base.called a c (called c e)) in still.1 d found))))

released-keeps : (p : Image) (a : Who) (m : ProtectedMark) (n : ℕ) (call : Option CallNo)
    → Keeps (GoodAs Known) (Moved (acting a) true Known) (behind_action p a m (Some n) call)
unfolding behind_action
released-keeps p a m n call = end_release-keeps (none a true) n tt

releasing-specially : (p : Image) (a : Who) (m : ProtectedMark) (n : ℕ) (w : World) → Inv w → From (Does a) w (Releasing p a m (Some n))
releasing-specially p a m n w inv =
    let G = none a true in
    weak a Known w _ (keeps-from (chains G) _ w (inv, tt)
    (then-keeps (chains G) (lose_running p a (inherited_by.Ceiling m.object)) _ (lose_running-keeps G p a (inherited_by.Ceiling m.object) (acting-self a))
    (then-keeps (chains G) (set_deferred p a) _ (set_deferred-keeps G p a) (released-keeps p a m n m.own_call))))

closed-base : (a : Who) (o : ObjectNo) (w : World) → Inv w → Does a w (own (line.Exit a o) ∷ []) (close_action a o w)
closed-base a o w inv = ((none a true).closes a o w (inv, tt)).core.base

closing-from : (a : Who) (o : ObjectNo) (rest : Step) (w : World) → Inv w → From (Does a) (close_action a o w) rest
    → From (Does a) w (says Own (line.Exit a o) ▷ changes (close_action a o) ▷ rest)
unfolding From
closing-from a o rest w inv next said = told-from a (own (line.Exit a o) ∷ []) w (close_action a o w) rest (closed-base a o w inv) next said

popping-from : (a : Who) (o : ObjectNo) (rest : Step) (w : World) → Inv w → Awake a w → (Inv (pop a w) → From (Does a) (close_action a o (pop a w)) rest)
    → From (Does a) w (says Own (line.Exit a o) ▷ changes (pop a) ▷ changes (close_action a o) ▷ rest)
unfolding From
popping-from a o rest w inv awake next said =
    let out = pop-base (acting a) true a w inv awake (λ s h. popped-tied s a w h) in
    silent-from a w (pop a w) (says Own (line.Exit a o) ▷ changes (close_action a o) ▷ rest) out (closing-from a o rest (pop a w) out.inv (next out.inv)) said

closed-called : (a : Who) (o : ObjectNo) (w : World) (c : CallNo) → Inv w → Awake a w → Caller c a w → Caller c a (close_action a o (pop a w))
closed-called a o w c inv awake h =
    let out = pop-base (acting a) true a w inv awake (λ s k. popped-tied s a w k) in
    (closed-base a o (pop a w) out.inv).called a c (out.called a c h)

release-by : (p : Image) (a : Who) (m : ProtectedMark) (rel : Option ℕ) (w : World) → Inv w → (stays : Entered a m w) → is_some rel ≡ is_some m.release
    → From (Does a) w (says Own (line.Exit a m.object) ▷ changes (pop a) ▷ changes (close_action a m.object) ▷ Releasing p a m rel)
release-by p a m None w inv stays e =
    let f = stays.top.frame in
    let plain : is_special f.mark ≡ false = ap (λ n. n.special) stays.top.is ∙ sym e in
    popping-from a m.object (Releasing p a m None) w inv stays.awake (λ inv_popped.
    let closed = (going a).closes a m.object (pop a w) (inv_popped, popped-free a f w inv stays.top.first plain) in
    releasing-plainly p a m (close_action a m.object (pop a w)) closed.core.base.inv closed.extra
    (λ c k. closed-called a m.object w c inv stays.awake
    (own_on_top w.calls w.drawn.calls a (task_of w a).frames f c stays.top.first (good-task a w inv).own (ap (λ n. n.own_call) stays.top.is ∙ k))))
release-by p a m (Some n) w inv stays e =
    popping-from a m.object (Releasing p a m (Some n)) w inv stays.awake
    (λ inv_popped. releasing-specially p a m n (close_action a m.object (pop a w)) (closed-base a m.object (pop a w) inv_popped).inv)

release-from : (p : Image) (a : Who) (m : ProtectedMark) (w : World) → Inv w → Entered a m w → From (Does a) w (release_object p a m)
unfolding release_object
release-from p a m w inv stays = release-by p a m m.release w inv stays refl

-- ---- the next call is served

abbrev With_room : Image → Part → Who → ProtectedMark → Call → Bool → CallNo → Step → Bool → Step
With_room p part a m d test c again room = elim room [
  | true ↦ body_opens p a m.object d ▷ begins_part p test c
  | false ↦ says part (line.Finish a d.number (meeting.Raised exception.Storage)) ▷ deliver p part c (call_ended.ToRaise exception.Storage) ▷ again
]

with_room-from : (p : Image) (a : Who) (m : ProtectedMark) (part : Part) (test : Bool) (d : Call) (c : CallNo) (again : Step) (room : Bool) (v : World) → Inv v
    → Entered a m v → ((x : World) → Inv x → Entered a m x → From (Does a) x again)
    → From (Does a) v (With_room p part a m d test c again room)
with_room-from p a m part test d c again true v inv_v stays_v next =
    weak a (Free a) v _
    (keeps-from (chains (going a)) _ v (inv_v, steady-free a (nature (InProtected m)) v refl stays_v)
    (then-keeps (chains (going a)) (body_opens p a m.object d) (begins_part p test c) (body_opens-keeps (going a) p a m.object d refl)
    (begins_part-keeps (going a) p test c)))
with_room-from p a m part test d c again false v inv_v stays_v next =
    let n = nature (InProtected m) in
    steady-then a n (says part (line.Finish a d.number (meeting.Raised exception.Storage)))
    (deliver p part c (call_ended.ToRaise exception.Storage) ▷ again) v inv_v stays_v
    (says-keeps (steady a n) part (line.Finish a d.number (meeting.Raised exception.Storage)) refl)
    (λ u xs h inv_u stays_u. steady-then a n (deliver p part c (call_ended.ToRaise exception.Storage)) again u inv_u stays_u
    (deliver-keeps (steady a n) p part c (call_ended.ToRaise exception.Storage)) (λ x ys k inv_x stays_x. next x inv_x stays_x))

served_call-from : (p : Image) (a : Who) (m : ProtectedMark) (part : Part) (test : Bool) (d : Call) (c : CallNo) (again : Step) (w : World) → Inv w
    → Entered a m w → ((v : World) → Inv v → Entered a m v → From (Does a) v again)
    → From (Does a) w (serve_call p part a m.object d (begins_part p test c) (deliver p part c (call_ended.ToRaise exception.Storage) ▷ again))
unfolding From
served_call-from p a m part test d c again w inv stays next said =
    steady-then a (nature (InProtected m)) (begin_call p part a d) (With_room p part a m d test c again (has_room_for_body p w a d.entry)) w inv stays
    (begin_call-keeps (steady a (nature (InProtected m))) p part a d)
    (λ v xs h inv_v stays_v. with_room-from p a m part test d c again (has_room_for_body p w a d.entry) v inv_v stays_v next) said

with_found-from : (p : Image) (a : Who) (m : ProtectedMark) (part : Part) (test : Bool) (c : CallNo) (again : Step) (found : Option Call) (w : World) → Inv w
    → Entered a m w → ((v : World) → Inv v → Entered a m v → From (Does a) v again)
    → From (Does a) w
    (for_some found (λ d. serve_call p part a m.object d (begins_part p test c) (deliver p part c (call_ended.ToRaise exception.Storage) ▷ again)))
with_found-from p a m part test c again None w inv stays next =
    weak a Known w nothing (keeps-from (chains (none a true)) nothing w (inv, tt) (nothing-keeps (chains (none a true))))
with_found-from p a m part test c again (Some d) w inv stays next = served_call-from p a m part test d c again w inv stays next

chosen-from : (p : Image) (a : Who) (m : ProtectedMark) (is_sent : Bool) (again : Step) (chosen : Option CallNo) (w : World) → Inv w → Entered a m w
    → ((v : World) → Inv v → Entered a m v → From (Does a) v again) → From (Does a) w (serve_chosen p a m is_sent again chosen)
unfolding From
chosen-from p a m is_sent again None w inv stays next said = release-from p a m w inv stays said
chosen-from p a m is_sent again (Some c) w inv stays next said =
    with_found-from p a m (part_of_start is_sent) is_sent c again (call_of w c) w inv stays next said

serve_next-from : (fuel : ℕ) (p : Image) (a : Who) (m : ProtectedMark) (sent : Option CallNo) (w : World) → Inv w → Entered a m w
    → From (Does a) w (serve_next fuel p a m sent)
unfolding serve_next From
serve_next-from zero p a m sent w inv stays said = release-from p a m w inv stays said
serve_next-from (suc fuel) p a m sent w inv stays said =
    let chosen = served_next p w a (object_of w m.object) in
    steady-then a (nature (InProtected m)) (settle_sent p sent (chosen_is_sent sent chosen))
    (serve_chosen p a m (chosen_is_sent sent chosen) (serve_next fuel p a m None) chosen) w inv stays
    (settle_sent-keeps (steady a (nature (InProtected m))) p sent (chosen_is_sent sent chosen))
    (λ v xs h inv_v stays_v. chosen-from p a m (chosen_is_sent sent chosen) (serve_next fuel p a m None) chosen v inv_v stays_v
    (λ u inv_u stays_u. serve_next-from fuel p a m None u inv_u stays_u)) said

serve_calls-from : (p : Image) (a : Who) (m : ProtectedMark) (sent : Option CallNo) (w : World) → Inv w → Entered a m w
    → From (Does a) w (serve_calls p a m sent)
unfolding serve_calls From
serve_calls-from p a m sent w inv stays said = serve_next-from (suc (length w.calls)) p a m sent w inv stays said

-- ---- a body in the action has ended

by_mode-from : (p : Image) (a : Who) (m : ProtectedMark) (mode : Mode) (w : World) → Inv w → Entered a m w → From (Does a) w (go_on_by_mode p a m mode)
unfolding go_on_by_mode
by_mode-from p a m Read w inv stays = release-from p a m w inv stays
by_mode-from p a m Write w inv stays = serve_calls-from p a m None w inv stays

-- what was served is no more
cleared-from : (a : Who) (m : ProtectedMark) (f : ProtectedMark → ProtectedMark) (g : Step) (w : World)
    → ((x : ProtectedMark) → nature (InProtected (f x)) ≡ nature (InProtected x)) → Inv w → Entered a m w
    → ((v : World) → Inv v → Entered a m v → From (Does a) v g) → From (Does a) w (changes (edit_top_protected a f) ▷ changes (edit_top a not_left) ▷ g)
cleared-from a m f g w same inv stays next =
    let n = nature (InProtected m) in
    steady-then a n (changes (edit_top_protected a f)) (changes (edit_top a not_left) ▷ g) w inv stays
    (changes-keeps (chains (steady a n)) _ (edit_top_protected-alters (steady a n) a f same))
    (λ v xs h inv_v stays_v. steady-then a n (changes (edit_top a not_left)) g v inv_v stays_v
    (changes-keeps (chains (steady a n)) _ (edit_top-alters (steady a n) a not_left (λ x. refl) (λ x. refl)))
    (λ u ys k inv_u stays_u. next u inv_u stays_u))

operation-from : (p : Image) (a : Who) (m : ProtectedMark) (leaving : Leaving) (w : World) → Inv w → Entered a m w
    → From (Does a) w (end_operation p a m leaving)
unfolding end_operation
operation-from p a m leaving w inv stays =
    cleared-from a m (with_body_left leaving) (go_on_by_mode p a (with_body_left leaving m) m.mode) w (λ x. refl) inv stays
    (λ v inv_v stays_v. by_mode-from p a (with_body_left leaving m) m.mode v inv_v stays_v)

finish_raised-from : (p : Image) (a : Who) (m : ProtectedMark) (c : Call) (e : Raised) (w : World) → Inv w → Entered a m w
    → From (Does a) w (finish_raised p a m c e)
unfolding finish_raised
finish_raised-from p a m c e w inv stays =
    let n = nature (InProtected m) in
    steady-then a n (says TheFinish (line.Finish a c.number (meeting.Raised e)))
    (deliver p TheFinish c.number (outcome_by (is_own_call a m.own_call c) e) ▷ serve_calls p a m None) w inv stays
    (says-keeps (steady a n) TheFinish (line.Finish a c.number (meeting.Raised e)) refl)
    (λ v xs h inv_v stays_v. steady-then a n (deliver p TheFinish c.number (outcome_by (is_own_call a m.own_call c) e)) (serve_calls p a m None) v inv_v stays_v
    (deliver-keeps (steady a n) p TheFinish c.number (outcome_by (is_own_call a m.own_call c) e))
    (λ u ys k inv_u stays_u. serve_calls-from p a m None u inv_u stays_u))

finish_well-from : (p : Image) (a : Who) (m : ProtectedMark) (c : Call) (sending : Option Sending) (w : World) → Inv w → Entered a m w
    → From (Does a) w (finish_well p a m c sending)
unfolding finish_well
finish_well-from p a m c None w inv stays =
    let n = nature (InProtected m) in
    steady-then a n (says TheFinish (line.Finish a c.number meeting.Ok)) (deliver p TheFinish c.number call_ended.Finished ▷ serve_calls p a m None) w inv stays
    (says-keeps (steady a n) TheFinish (line.Finish a c.number meeting.Ok) refl)
    (λ v xs h inv_v stays_v. steady-then a n (deliver p TheFinish c.number call_ended.Finished) (serve_calls p a m None) v inv_v stays_v
    (deliver-keeps (steady a n) p TheFinish c.number call_ended.Finished)
    (λ u ys k inv_u stays_u. serve_calls-from p a m None u inv_u stays_u))
finish_well-from p a m c (Some s) w inv stays =
    let n = nature (InProtected m) in
    steady-then a n (says TheFinish (line.Finish a c.number meeting.Requeue))
    (send_on c.number s ▷ enqueue p c.number ▷ serve_calls p a m (Some c.number)) w inv stays
    (says-keeps (steady a n) TheFinish (line.Finish a c.number meeting.Requeue) refl)
    (λ v xs h inv_v stays_v.
    steady-then a n (send_on c.number s) (enqueue p c.number ▷ serve_calls p a m (Some c.number)) v inv_v stays_v (send_on-keeps (steady a n) c.number s)
    (λ u ys k inv_u stays_u.
    steady-then a n (enqueue p c.number) (serve_calls p a m (Some c.number)) u inv_u stays_u (enqueue-keeps (plain_steps (steady a n)) p c.number)
    (λ x zs l inv_x stays_x. serve_calls-from p a m (Some c.number) x inv_x stays_x)))

finish_call-from : (p : Image) (a : Who) (m : ProtectedMark) (leaving : Leaving) (c : Call) (w : World) → Inv w → Entered a m w
    → From (Does a) w (finish_call p a m leaving c)
unfolding finish_call
finish_call-from p a m (how.Exception e) c w inv stays = finish_raised-from p a m c e w inv stays
finish_call-from p a m how.End c w inv stays = finish_well-from p a m c c.sending w inv stays
finish_call-from p a m how.Return c w inv stays = finish_well-from p a m c c.sending w inv stays
finish_call-from p a m (how.Exit loop) c w inv stays = finish_well-from p a m c c.sending w inv stays
finish_call-from p a m how.Abort c w inv stays = finish_well-from p a m c c.sending w inv stays
finish_call-from p a m how.Terminate c w inv stays = finish_well-from p a m c c.sending w inv stays

found_body-from : (p : Image) (a : Who) (m : ProtectedMark) (leaving : Leaving) (found : Option Call) (w : World) → Inv w → Entered a m w
    → From (Does a) w (for_some found (finish_call p a m leaving))
found_body-from p a m leaving None w inv stays =
    weak a Known w nothing (keeps-from (chains (none a true)) nothing w (inv, tt) (nothing-keeps (chains (none a true))))
found_body-from p a m leaving (Some c) w inv stays = finish_call-from p a m leaving c w inv stays

body_of_call-from : (p : Image) (a : Who) (m : ProtectedMark) (leaving : Leaving) (c : CallNo) (w : World) → Inv w → Entered a m w
    → From (Does a) w (with_call c (finish_call p a m leaving))
unfolding From
body_of_call-from p a m leaving c w inv stays said = found_body-from p a m leaving (call_of w c) w inv stays said

entry_body-from : (p : Image) (a : Who) (m : ProtectedMark) (leaving : Leaving) (c : CallNo) (w : World) → Inv w → Entered a m w
    → From (Does a) w (end_entry_body p a m leaving c)
unfolding end_entry_body
entry_body-from p a m leaving c w inv stays =
    cleared-from a m no_longer_serves (with_call c (finish_call p a (no_longer_serves m) leaving)) w (λ x. refl) inv stays
    (λ v inv_v stays_v. body_of_call-from p a (no_longer_serves m) leaving c v inv_v stays_v)

by_served-from : (p : Image) (a : Who) (m : ProtectedMark) (leaving : Leaving) (serves : Option CallNo) (w : World) → Inv w → Entered a m w
    → From (Does a) w (end_in_protected_by p a m leaving serves)
unfolding end_in_protected_by
by_served-from p a m leaving None w inv stays = operation-from p a m leaving w inv stays
by_served-from p a m leaving (Some c) w inv stays = entry_body-from p a m leaving c w inv stays

pub end_in_protected-from : (p : Image) (a : Who) (m : ProtectedMark) (leaving : Leaving) (f : Frame) (w : World) → Inv w → Awake a w → top_of w a ≡ Some f
    → f.mark ≡ InProtected m → From (Does a) w (end_in_protected p a m leaving)
unfolding end_in_protected
end_in_protected-from p a m leaving f w inv awake top is =
    by_served-from p a m leaving m.serves w inv (subst (λ n. Steady a n w) (ap nature is) (top_steady a f w awake top))
