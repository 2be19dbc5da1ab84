-- The actions that let the end of a delay be appointed: delays and selects.
use Rattle.std.proofs.Common.{◌≡◌, Bool, true, false, List, [], ◌∷◌, Option, Some, None, refl, sym, ap, subst, ◌∙◌, append-nil}
use Rattle.std.proofs.lemmas.Bool.{true≢false}
use Rattle.std.specs.Prelude.{ℤ, int_lt, int_le, pos, ◌+ℤ◌, unwrap_or}
use Rattle.ann_base.specs.declared.exceptions.Raised.TheVariants as exception
use Rattle.ann_base.specs.declared.identities.CallNo.{CallNo}
use Rattle.trace_text.specs.declared.events.Who.{Who}
use Rattle.trace_text.specs.declared.events.Who.TheVariants as who
use Rattle.profile_image.specs.declared.image.Image.{Image}
use Rattle.profile_image.specs.declared.numbers.ExprNo.{ExprNo}
use Rattle.profile_image.specs.declared.numbers.StatementNo.{StatementNo}
use Rattle.profile_image.specs.declared.statements.SelectAlternative.{SelectAlternative}
use Rattle.profile_image.specs.declared.statements.SelectKind.{SelectKind}
use Rattle.profile_image.specs.declared.statements.StatementForm.{StatementForm}
use Rattle.profile_image.specs.declared.statements.StatementForm.TheVariants as form
use Rattle.profile_machine.specs.declared.world.World.{World}
use Rattle.profile_machine.specs.declared.world.calls.DelayMoment.{DelayMoment}
use Rattle.profile_machine.specs.declared.world.lines.Line.{Line}
use Rattle.profile_machine.specs.declared.world.lines.Line.TheVariants as said
use Rattle.profile_machine.specs.declared.world.lines.Part.{Part}
use Rattle.profile_machine.specs.declared.world.lines.Part.TheVariants.{ThePlacing, Own}
use Rattle.profile_machine.specs.declared.world.marks.Frame.{Frame}
use Rattle.profile_machine.specs.declared.world.tasks.Task.{Task}
use Rattle.profile_machine.specs.Act.{end_mark, act_without, act_top, act_statement, act_frame, act}
use Rattle.profile_machine.specs.Calls.{next_call}
use Rattle.profile_machine.specs.Dispatching.{to_tail}
use Rattle.profile_machine.specs.Frames.{top_of, raise_if, in_protected, goes_on, goes, given, frames_of, edit_first}
use Rattle.profile_machine.specs.Operators.{held_moment, Valued}
use Rattle.profile_machine.specs.Priorities.{says_deadline, delay_with_deadline, delay_and_set_deadline}
use Rattle.profile_image.specs.Program.{next_of, form_of}
use Rattle.profile_machine.specs.Rendezvous.{wait_at_select, selective_accept, select_wait, select_otherwise, select_open}
use Rattle.profile_machine.specs.Rendezvous.{select_delay, select_by_call, queues_of_accepts, open_delays, open_alternatives}
use Rattle.profile_machine.specs.Rendezvous.{open_accepts, least_delay, is_closed, has_terminate, appoint_delay}
use Rattle.profile_machine.specs.Statements.{wait_until, relative_moment, delay_until, delay_to}
use Rattle.profile_machine.specs.Steps.{changes, ◌▷◌, says, nothing, Step}
use Rattle.profile_machine.specs.Tasks.{with_frames, task_at, nobody, edit_task}
use Rattle.profile_machine.specs.Values.{moment, seen_by}
use Rattle.world_tables.specs.Lists.{first_of}
use Rattle.machine_laws.proofs.Moves.{StepRelation}
use Rattle.world_laws.proofs.Appointments.ActingEnds.{wait_until-ends, select_waits-ends, raise_if-ends, present-edited, plain}
use Rattle.world_laws.proofs.Appointments.ActingEnds.{looks_at-ends, given-ends, excused, acting, Present, IsActor, Ends, Acting}
use Rattle.world_laws.proofs.Appointments.DelayMoves.{nobody_excused, follows_then, fine, MovedOn, Moved, Lasting, GoodAs}
use Rattle.world_laws.proofs.Appointments.Delays.{natures, nature, idle-later, OwnIn, Idle, Good}
use Rattle.ceiling_laws.proofs.Fine.Cores.{CallerIn, Caller}
use Rattle.world_laws.proofs.Appointments.FineMoves.{is_apart, FineMoves, chains}
use Rattle.world_laws.proofs.Appointments.Kept.Act.{is_delay_form, end_mark-keeps, act_without-keeps, act_plain-keeps}
use Rattle.world_laws.proofs.Appointments.Kept.Dispatching.{to_tail-keeps}
use Rattle.world_laws.proofs.Appointments.Kept.Frames.{goes-keeps, edit_top-alters}
use Rattle.world_laws.proofs.Appointments.Kept.Rendezvous.{wait_at_select-keeps, accept_chosen-keeps}
use Rattle.world_laws.proofs.Appointments.Led.{to-from, then_to-from, moved-from, Led}
use Rattle.machine_laws.proofs.FineMoves.{GoodWorld}
use Rattle.machine_laws.proofs.Kept.Combinators.{Alters, From, Kept, changes-keeps, nothing-keeps, then-keeps, unchanged-alters}

module _ (a : Who) where
  -- who acts is there still, and none is appointed for it
  abbrev pub Here : StepRelation
  Here w xs v = Moved nobody_excused (Idle a) w xs v × Present a v

  here_then : (f g : Step) (w : World) → From Here w f → ((v : World) → Acting a v → Present a v → Ends a v g) → Ends a w (f ▷ g)
  here_then f g w k next =
      then_to-from (Here) (Led nobody_excused (excused a)) (Led nobody_excused (excused a)) f g w k (λ v xs h. next v (h.0.good, h.0.extra) h.1)
      (λ v u xs zs h n. record { good = n.good; follows = follows_then nobody_excused nobody_excused (excused a) w v u xs zs h.0.follows n.follows })

  edit-here : (f : Task → Task) (w : World) → ((t : Task) → (f t).who ≡ t.who) → Present a w → Moved nobody_excused (Idle a) w [] (edit_task a f w)
      → From Here w (changes (edit_task a f))
  unfolding From Kept
  edit-here f w same here k said_before = ([], sym (append-nil said_before), (k, present-edited a f w same here))

  goes-here : (onward : Option StatementNo) (w : World) → Acting a w → Present a w → From Here w (goes a onward)
  unfolding goes Alters
  goes-here onward w good here =
      edit-here (λ t. with_frames (edit_first (goes_on onward) t.frames) t) w (λ t. refl) here
      (edit_top-alters (acting a) a (goes_on onward) (λ x. refl) w good)

  goes_then : (onward : Option StatementNo) (g : Step) (w : World) → Acting a w → Present a w → ((v : World) → Acting a v → Present a v → Ends a v g)
      → Ends a w (goes a onward ▷ g)
  goes_then onward g w good here k = here_then (goes a onward) g w (goes-here onward w good here) k

  deadline-here : (d : ℤ) (w : World) → Acting a w → Present a w → From Here w (changes (edit_task a (λ t. record t { deadline = d })))
  deadline-here d w good here =
      edit-here (λ t. record t { deadline = d }) w (λ t. refl) here
      ((acting a).edits_task a (λ t. record t { deadline = d }) w good (λ t. refl) (λ t. refl) (λ t. refl))

  says-here : (part : Part) (line : Line) (w : World) → is_apart line ≡ false → Acting a w → Present a w → From Here w (says part line)
  unfolding From Kept
  says-here part line w other good here said_before = (record { part = part; line = line } ∷ [], refl, ((acting a).says part line w good other, here))

  silent-here : (w : World) → Acting a w → Present a w → From Here w nothing
  unfolding From Kept
  silent-here w good here said_before = ([], sym (append-nil said_before), ((acting a).stays w good, here))

-- ---- delays

says_deadline-here : (a : Who) (part : Part) (d : ℤ) (w : World) → Acting a w → Present a w → From (Here a) w (says_deadline part a d)
unfolding says_deadline
says_deadline-here (who.Task t) part d w good here = says-here (who.Task t) part (said.Deadline t d) w refl good here
says_deadline-here who.Agent part d w good here = silent-here who.Agent w good here

wait-ends : (p : Image) (a : Who) (until : ℤ) (test : Bool) (w : World) → Acting a w → Present a w → Ends a w (wait_until p a until test)
unfolding wait_until
wait-ends p (who.Task t) until true w good here = wait_until-ends t until w good.0 here
wait-ends p (who.Task t) until false w good here =
    plain (who.Task t) (to_tail p ThePlacing (who.Task t)) w good (to_tail-keeps (acting (who.Task t)) p ThePlacing (who.Task t) refl)
wait-ends p who.Agent until test w good here = plain who.Agent nothing w good (nothing-keeps (chains (acting who.Agent)))

module _ (p : Image) (a : Who) where
  delay_to-ends : (until : ℤ) (w : World) → Acting a w → Present a w → Ends a w (delay_to p a until)
  unfolding delay_to
  delay_to-ends until w good here =
      looks_at-ends a (λ v. wait_until p a until (int_lt (pos v.time) until)) w (wait-ends p a until (int_lt (pos w.time) until) w good here)

  delay_until-ends : (s : StatementNo) (until : Valued ℤ) (w : World) → Acting a w → Present a w → Ends a w (delay_until p a s until)
  unfolding delay_until
  delay_until-ends s until w good here =
      looks_at-ends a (λ v. raise_if a (in_protected v a) exception.Program (given Own a until (λ m. goes a (next_of p s) ▷ delay_to p a m))) w
      (raise_if-ends a (in_protected w a) exception.Program _ w good
      (given-ends a until _ w good (λ m. goes_then a (next_of p s) (delay_to p a m) w good here (λ v good_v here_v. delay_to-ends m v good_v here_v))))

  delay_with_deadline-ends : (s : StatementNo) (until offset : ℤ) (w : World) → Acting a w → Present a w → Ends a w (delay_with_deadline p a s until offset)
  unfolding delay_with_deadline
  delay_with_deadline-ends s until offset w good here =
      let d = held_moment (until +ℤ offset) in
      goes_then a (next_of p s) _ w good here (λ v good_v here_v.
      here_then a (changes (edit_task a (λ t. record t { deadline = d }))) _ v (deadline-here a d v good_v here_v) (λ u good_u here_u.
      here_then a (says_deadline Own a d) (delay_to p a until) u (says_deadline-here a Own d u good_u here_u)
      (λ x good_x here_x. delay_to-ends until x good_x here_x)))

  delay_and_set_deadline-ends : (s : StatementNo) (until offset : ExprNo) (w : World) → Acting a w → Present a w
      → Ends a w (delay_and_set_deadline p a s until offset)
  unfolding delay_and_set_deadline
  delay_and_set_deadline-ends s until offset w good here =
      looks_at-ends a
      (λ v. raise_if a (in_protected v a) exception.Program
      (given Own a (moment (seen_by p v a) until) (λ m. given Own a (moment (seen_by p v a) offset) (λ o. delay_with_deadline p a s m o)))) w
      (raise_if-ends a (in_protected w a) exception.Program _ w good
      (given-ends a (moment (seen_by p w a) until) _ w good
      (λ m. given-ends a (moment (seen_by p w a) offset) _ w good (λ o. delay_with_deadline-ends s m o w good here))))

-- ---- selects

waits_for-ends : (a : Who) (m : ℤ) (accepts : List StatementNo) (delay : StatementNo) (terminate : Bool) (w : World) → Acting a w → Present a w
    → Ends a w (changes (appoint_delay a m) ▷ wait_at_select a accepts (Some delay) terminate)
waits_for-ends (who.Task t) m accepts delay terminate w good here = select_waits-ends t m accepts delay terminate w good.0 here
waits_for-ends who.Agent m accepts delay terminate w good here =
    plain who.Agent _ w good
    (then-keeps (chains (acting who.Agent)) (changes (λ v. v)) _
    (changes-keeps (chains (acting who.Agent)) (λ v. v) (unchanged-alters (chains (acting who.Agent))))
    (wait_at_select-keeps (acting who.Agent) who.Agent accepts (Some delay) terminate refl))

module _ (p : Image) (a : Who) where
  select_delay-ends : (s : StatementNo) (accepts : List StatementNo) (m : DelayMoment) (terminate test : Bool) (w : World) → Acting a w → Present a w
      → Ends a w (select_delay p a s accepts m terminate test)
  unfolding select_delay
  select_delay-ends s accepts m terminate true w good here = plain a (goes a (next_of p m.delay)) w good (goes-keeps (acting a) a (next_of p m.delay))
  select_delay-ends s accepts m terminate false w good here =
      goes_then a (next_of p s) _ w good here (λ v good_v here_v. waits_for-ends a m.at accepts m.delay terminate v good_v here_v)

  select_wait-ends : (s : StatementNo) (accepts : List StatementNo) (terminate : Bool) (moment : Option DelayMoment) (w : World) → Acting a w → Present a w
      → Ends a w (select_wait p a s accepts terminate moment)
  unfolding select_wait
  select_wait-ends s accepts terminate None w good here =
      plain a _ w good
      (then-keeps (chains (acting a)) (goes a (next_of p s)) _ (goes-keeps (acting a) a (next_of p s))
      (wait_at_select-keeps (acting a) a accepts None terminate refl))
  select_wait-ends s accepts terminate (Some m) w good here =
      looks_at-ends a (λ v. select_delay p a s accepts m terminate (int_le m.at (pos v.time))) w
      (select_delay-ends s accepts m terminate (int_le m.at (pos w.time)) w good here)

  select_otherwise-ends : (s : StatementNo) (kinds : List SelectKind) (m : Option DelayMoment) (next : Option StatementNo) (w : World) → Acting a w
      → Present a w → Ends a w (select_otherwise p a s kinds m next)
  unfolding select_otherwise
  select_otherwise-ends s kinds m (Some otherwise) w good here = plain a (goes a (Some otherwise)) w good (goes-keeps (acting a) a (Some otherwise))
  select_otherwise-ends s kinds m None w good here = select_wait-ends s (open_accepts kinds) (has_terminate kinds) m w good here

  select_by_call-ends : (s : StatementNo) (kinds : List SelectKind) (m : Option DelayMoment) (otherwise : Option StatementNo) (c : Option CallNo) (w : World)
      → Acting a w → Present a w → Ends a w (select_by_call p a s kinds m otherwise c)
  unfolding select_by_call
  select_by_call-ends s kinds m otherwise (Some c) w good here = plain a _ w good (accept_chosen-keeps (acting a) p a (open_accepts kinds) c refl)
  select_by_call-ends s kinds m otherwise None w good here = select_otherwise-ends s kinds m otherwise w good here

  select_open-ends : (s : StatementNo) (otherwise : Option StatementNo) (kinds : List SelectKind) (moments : List DelayMoment) (w : World) → Acting a w
      → Present a w → Ends a w (select_open p a s otherwise kinds moments)
  unfolding select_open
  select_open-ends s otherwise kinds moments w good here =
      raise_if-ends a (is_closed kinds otherwise) exception.Program _ w good
      (looks_at-ends a (λ v. select_by_call p a s kinds (least_delay moments) otherwise (next_call p v (queues_of_accepts p v a (open_accepts kinds)))) w
      (select_by_call-ends s kinds (least_delay moments) otherwise (next_call p w (queues_of_accepts p w a (open_accepts kinds))) w good here))

  selective_accept-ends : (s : StatementNo) (alternatives : List SelectAlternative) (otherwise : Option StatementNo) (w : World) → Acting a w → Present a w
      → Ends a w (selective_accept p a s alternatives otherwise)
  unfolding selective_accept
  selective_accept-ends s alternatives otherwise w good here =
      looks_at-ends a
      (λ v. raise_if a (in_protected v a) exception.Program
      (given Own a (open_alternatives (seen_by p v a) alternatives)
      (λ kinds. given Own a (open_delays (seen_by p v a) kinds) (select_open p a s otherwise kinds)))) w
      (raise_if-ends a (in_protected w a) exception.Program _ w good
      (given-ends a (open_alternatives (seen_by p w a) alternatives) _ w good
      (λ kinds. given-ends a (open_delays (seen_by p w a) kinds) _ w good (λ moments. select_open-ends s otherwise kinds moments w good here))))

  -- ---- an action

  delay_form-ends : (s : StatementNo) (form : StatementForm) (w : World) → is_delay_form form ≡ true → Acting a w → Present a w
      → Ends a w (act_statement p a s form)
  unfolding act_statement
  delay_form-ends s (form.Delay e) w is good here =
      looks_at-ends a (λ v. delay_until p a s (relative_moment (seen_by p v a) e)) w (delay_until-ends p a s (relative_moment (seen_by p w a) e) w good here)
  delay_form-ends s (form.DelayUntil e) w is good here =
      looks_at-ends a (λ v. delay_until p a s (moment (seen_by p v a) e)) w (delay_until-ends p a s (moment (seen_by p w a) e) w good here)
  delay_form-ends s (form.SelectiveAccept alternatives otherwise) w is good here = selective_accept-ends s alternatives otherwise w good here
  delay_form-ends s (form.DelayUntilAndSetDeadline until offset) w is good here = delay_and_set_deadline-ends p a s until offset w good here
  delay_form-ends s _ w is good here = absurd (true≢false (sym is))

  statement-ends : (s : StatementNo) (form : StatementForm) (test : Bool) (w : World) → is_delay_form form ≡ test → Acting a w → Present a w
      → Ends a w (act_statement p a s form)
  statement-ends s form true w is good here = delay_form-ends s form w is good here
  statement-ends s form false w is good here = plain a _ w good (act_plain-keeps (acting a) p a s form refl is)

  -- the frame on top of who is there
  found-frames : (found : Option Task) (f : Frame) → first_of (unwrap_or found nobody).frames ≡ Some f → (u : Task) × (found ≡ Some u)
  found-frames None f e = absurd (let never : None ≡ Some f = e in cc)
  found-frames (Some u) f e = (u, refl)

  top-present : (w : World) (f : Frame) → top_of w a ≡ Some f → Present a w
  top-present w f e = found-frames (task_at w a) f e

  top-owned : (w : World) (f : Frame) → Good w → top_of w a ≡ Some f → (c : CallNo) → nature f.mark ≡ Some c → Caller c a w
  top-owned w f good e c is = first_owned (frames_of w a) f (good.owned a) e c is where
    first_owned : (fs : List Frame) (g : Frame) → OwnIn w.calls w.drawn.calls a (natures fs) → first_of fs ≡ Some g → (k : CallNo) → nature g.mark ≡ Some k
        → CallerIn w.calls w.drawn.calls k a
    first_owned [] g h e k is = absurd cc
    first_owned (x ∷ fs) g h e k is = let same : x ≡ g = cc in h.0 k (ap (λ (y : Frame). nature y.mark) same ∙ is)

  -- the end of a mark, with what is known of its own call
  abbrev Knows : Frame → GoodWorld
  Knows f w = Idle a w × ((c : CallNo) → nature f.mark ≡ Some c → Caller c a w)

  knows-lasting : (f : Frame) → Lasting (Knows f)
  knows-lasting f w v later h = (idle-later a w v later h.0, λ c e. later.callers c a (h.1 c e))

  knowing : (f : Frame) → FineMoves (GoodAs (Knows f)) (IsActor a) (Moved nobody_excused (Knows f)) (MovedOn nobody_excused (Knows f))
  knowing f = fine nobody_excused {E = Knows f} (knows-lasting f) (IsActor a) (λ name w h is. subst (λ n. Idle n w) (sym is) h.0)

  mark-ends : (f : Frame) (w : World) → Acting a w → top_of w a ≡ Some f → Ends a w (end_mark p a f f.mark)
  mark-ends f w good top =
      to-from (Moved nobody_excused (Knows f)) (Led nobody_excused (excused a)) (end_mark p a f f.mark) w
      (moved-from nobody_excused (Knows f) (end_mark p a f f.mark) w (good.0, (good.1, top-owned w f good.0 top))
      (end_mark-keeps (knowing f) p a f f.mark refl (λ v h c e. h.1.1 c e)))
      (λ v xs k. record { good = k.good; follows = λ t d x. k.follows t d refl })

  frame-ends : (f : Frame) (next : Option StatementNo) (w : World) → Acting a w → top_of w a ≡ Some f → Ends a w (act_frame p a f next)
  unfolding act_frame
  frame-ends f (Some s) w good top = statement-ends s (form_of p s) (is_delay_form (form_of p s)) w refl good (top-present w f top)
  frame-ends f None w good top = mark-ends f w good top

  top-ends : (found : Option Frame) (w : World) → Acting a w → top_of w a ≡ found → Ends a w (act_top p a found)
  unfolding act_top
  top-ends None w good is = looks_at-ends a (λ v. act_without p a v.serving) w (plain a _ w good (act_without-keeps (acting a) p a w.serving refl))
  top-ends (Some f) w good is = frame-ends f f.onward w good is

  pub act-ends : (w : World) → Acting a w → Ends a w (act p a)
  unfolding act
  act-ends w good = looks_at-ends a (λ v. act_top p a (top_of v a)) w (top-ends (top_of w a) w good refl)
