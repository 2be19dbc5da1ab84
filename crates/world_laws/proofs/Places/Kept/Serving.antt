-- Queued calls that are served, and objects that are released: each step keeps what its parts keep.
use Rattle.ann_base.specs.declared.exceptions.Raised.{Raised}
use Rattle.ann_base.specs.declared.exceptions.Raised.TheVariants as exception
use Rattle.ann_base.specs.declared.identities.CallNo.{CallNo}
use Rattle.ann_base.specs.declared.identities.ObjectNo.{ObjectNo}
use Rattle.ceiling_laws.proofs.Fine.Cores.{Caller}
use Rattle.world_laws.proofs.Places.ActingMoves.{ActingMoves, Lasting, LastingOf}
use Rattle.ceiling_laws.proofs.Fine.Kept.CallEnds.{deliver-keeps, resume-keeps}
use Rattle.profile_machine.specs.CallEnds.{deliver}
use Rattle.ceiling_laws.proofs.Fine.Kept.Calls.{attempt_with-leads, edit_call-alters, enqueue-keeps, forget_call-alters}
use Rattle.ceiling_laws.proofs.Fine.Kept.Calls.{keeps_sending-caller, keeps_sending-number, with_call-keeps}
use Rattle.ceiling_laws.proofs.Fine.Kept.Frames.{edit_top-alters, leaves-keeps, pass_on-keeps, pop-alters}
use Rattle.world_laws.proofs.Places.Kept.Protected.{edit_top_protected-alters, serve_call-leads}
use Rattle.world_laws.proofs.Places.Kept.Sending.{begin_abortable-keeps, open_abortable-alters, send_on-keeps, sent_not_begun-keeps, wait_for_call-leads}
use Rattle.ceiling_laws.proofs.Fine.Kept.Tasks.{edit_object-alters, plain-alters, says-keeps}
use Rattle.ceiling_laws.proofs.Fine.LevelMoves.{BaseMoves, Silences}
use Rattle.world_laws.proofs.Places.Owning.{OwnCall, calling_deferred, calling_loses, calling_says, own_moves, owning}
use Rattle.ceiling_laws.proofs.Runs.Triples.{Alters, At, Keeps, Leads, State, With, changes-keeps, for_some-leads, from-leads, from_at}
use Rattle.ceiling_laws.proofs.Runs.Triples.{looks-leads, looks-with, nothing-keeps, nothing-leads, then-keeps, then-leads, to-leads, when-leads}
use Rattle.profile_machine.specs.Act.{call}
use Rattle.profile_machine.specs.Calls.{call_of, forget_call, formals_count, with_call}
use Rattle.profile_machine.specs.Dispatching.{block}
use Rattle.profile_machine.specs.Frames.{frames_of, leaves}
use Rattle.profile_machine.specs.Handlers.{release}
use Rattle.profile_machine.specs.Inheritance.{lose_running}
use Rattle.profile_machine.specs.Priorities.{set_deferred}
use Rattle.profile_machine.specs.Protected.{is_action_of, serve_call, served_next}
use Rattle.profile_machine.specs.Sending.{wait_for_call}
use Rattle.profile_machine.specs.Serving.{begins_part, behind_action, chosen_is_sent, close_action, end_body_of_entry, end_entry_body}
use Rattle.profile_machine.specs.Serving.{end_in_protected, end_in_protected_by, end_operation, end_release, finish_call, finish_raised, finish_well}
use Rattle.profile_machine.specs.Serving.{go_on_by_mode, is_own_call, is_served_now, keep_values, keeps_sending, may_open_abortable, no_longer_serves}
use Rattle.profile_machine.specs.Serving.{not_left, outcome_by, part_of_start, release_object, resume_own, serve_calls, serve_chosen, serve_ends}
use Rattle.profile_machine.specs.Serving.{serve_next, serves_nothing, settle_sent, wait_for_own, wait_or_unwind, with_body_left, with_values}
use Rattle.profile_machine.specs.Steps.{Step, changes, for_some, nothing, says, ◌▷◌}
use Rattle.profile_machine.specs.Unwinding.{may_unwind}
use Rattle.profile_machine.specs.Values.{object_of}
use Rattle.profile_image.specs.Words.{without}
use Rattle.ann_base.specs.Lists.{is_empty}
use Rattle.profile_image.specs.declared.image.Image.{Image}
use Rattle.profile_machine.specs.declared.run_data.Leaving.{Leaving}
use Rattle.profile_machine.specs.declared.run_data.Leaving.TheVariants as how
use Rattle.profile_image.specs.declared.values.Value.{Value}
use Rattle.profile_machine.specs.declared.world.World.{World}
use Rattle.profile_machine.specs.declared.world.calls.Call.{Call}
use Rattle.profile_machine.specs.declared.world.calls.Outcome.{Outcome}
use Rattle.profile_machine.specs.declared.world.calls.Outcome.TheVariants as call_ended
use Rattle.profile_machine.specs.declared.world.calls.Sending.{Sending}
use Rattle.profile_machine.specs.declared.world.lines.Line.TheVariants as line
use Rattle.profile_machine.specs.declared.world.lines.Said.{Said}
use Rattle.profile_machine.specs.declared.world.lines.MeetingEnd.TheVariants as meeting
use Rattle.profile_machine.specs.declared.world.lines.Part.TheVariants.{Own, TheBlock, TheFinish}
use Rattle.profile_machine.specs.declared.world.marks.ProtectedMark.{ProtectedMark}
use Rattle.profile_machine.specs.declared.world.tasks.Cause.TheVariants as inherited_by
use Rattle.profile_machine.specs.declared.world.tasks.Waiting.TheVariants as waits_for
use Rattle.std.proofs.Common.{refl, subst, sym, ◌≡◌}
use Rattle.std.specs.Prelude.{Bool, List, None, Option, Some, false, length, suc, true, zero, ℕ}
use Rattle.trace_text.specs.declared.events.Mode.{Mode}
use Rattle.trace_text.specs.declared.events.Mode.TheVariants.{Read, Write}
use Rattle.trace_text.specs.declared.events.Who.{Who}
use Rattle.trace_text.specs.declared.events.Who.TheVariants as who
use Rattle.ceiling_laws.proofs.Runs.LevelMoves.{FitsAll, Fitting, Sleeping}
use Rattle.ceiling_laws.proofs.Runs.ActingMoves.{Admitting}
use Rattle.machine_laws.proofs.FineMoves.{Naming}

module _ {X : State} (quiet : Silences X) where
  pub keep_values-keeps : (p : Image) (c : CallNo) (cells : List Value) → Keeps X (keep_values p c cells)
  unfolding keep_values
  keep_values-keeps p c cells =
      with_call-keeps quiet c _ (λ d. changes-keeps _ (edit_call-alters quiet c (with_values cells (formals_count p d)) (λ d. refl) (λ d. refl)))

  pub end_body_of_entry-keeps : (p : Image) (c : CallNo) (cells : List Value) (leaving : Leaving) → Keeps X (end_body_of_entry p c cells leaving)
  unfolding end_body_of_entry
  end_body_of_entry-keeps p c cells leaving =
      then-keeps _ _ (changes-keeps _ (edit_call-alters quiet c (keeps_sending leaving) (keeps_sending-number leaving) (keeps_sending-caller leaving)))
      (keep_values-keeps p c cells)

  pub close_action-alters : (name : Who) (o : ObjectNo) → Alters X (close_action name o)
  close_action-alters name o = edit_object-alters quiet o (λ x. record x { actions = without (is_action_of name) x.actions }) (λ x. refl)

  serves_nothing-alters : Alters X serves_nothing
  serves_nothing-alters = plain-alters quiet serves_nothing (λ w. refl) (λ w. refl) (λ w. refl) (λ w. refl) (λ w. refl) (λ w t e. e)

module _ {p : Image} {actor : Who} {Fits : Fitting} {Sleeps : Sleeping} {May : Admitting} {Listed Unmade : World → Naming} {F I L W Y B D Z : State}
    {O V : World → State} {N : Lasting} {E : LastingOf}
    (acting : ActingMoves p actor Fits Sleeps May Listed Unmade F I L W Y B D Z O V N E) where
  -- ---- the agent has served a release

  serve_ends-leads : (n : ℕ) → who.Agent ≡ actor → Leads I Y (serve_ends n)
  unfolding serve_ends
  serve_ends-leads n is =
      then-leads _ _ (says-keeps acting.later.base.quiet Own (line.Served n) refl)
      (then-leads _ _ (changes-keeps _ (serves_nothing-alters acting.later.base.quiet))
      (looks-leads _
      (λ w. when-leads (is_empty w.releases) _
      (λ none. subst (λ name. Leads I Y (block TheBlock name waits_for.Release)) (sym is) (acting.blocks waits_for.Release refl)) acting.ceases)))

  pub end_release-leads : (n : ℕ) → who.Agent ≡ actor → Leads I Y (end_release n)
  unfolding end_release
  end_release-leads n is = looks-leads _ (λ w. when-leads (is_served_now n w.serving) _ (λ served. serve_ends-leads n is) acting.ceases)

  -- ---- an action ends: the call with which it began was made by who acts, and a release ends with one of the agent

  abbrev pub Entered : ProtectedMark → State
  Entered m = With I (OwnCall m.own_call actor)

  abbrev pub OwnRelease : ProtectedMark → Type 0
  OwnRelease m = (r : ℕ) → m.release ≡ Some r → who.Agent ≡ actor

  entered_moves : (m : ProtectedMark) → BaseMoves p Fits Sleeps (Entered m)
  entered_moves m = own_moves m.own_call actor acting.later.base

  entered_on : (m : ProtectedMark) (w : World) (said : List Said) → Entered m w said → I w said
  entered_on m w said h = h.0

  wait_or_unwind-leads : (c : Call) (test : Bool) → who.Task c.caller ≡ actor → Leads I Y (wait_or_unwind p actor c test)
  unfolding wait_or_unwind
  wait_or_unwind-leads c true is =
      attempt_with-leads acting.later.base.quiet p Own c (changes (forget_call c.number) ▷ leaves actor how.Abort) (wait_for_call c)
      (to-leads _ (then-keeps (changes (forget_call c.number)) _ (changes-keeps _ (forget_call-alters acting.later.base.quiet c.number))
      (leaves-keeps acting.later.base.quiet actor how.Abort)) acting.ceases)
      (wait_for_call-leads acting c is)
  wait_or_unwind-leads c false is = wait_for_call-leads acting c is

  wait_for_own-leads : (c : Call) (test : Bool) → who.Task c.caller ≡ actor → Leads I Y (wait_for_own p actor c test)
  unfolding wait_for_own
  wait_for_own-leads c true is =
      to-leads _ (changes-keeps _ (open_abortable-alters acting.later.base.quiet p (who.Task c.caller) c.statement (Some c.number))) acting.ceases
  wait_for_own-leads c false is = looks-leads _ (λ w. wait_or_unwind-leads c (may_unwind (frames_of w actor)) is)

  resume_own-leads : (c : Call) (outcome : Option Outcome) → who.Task c.caller ≡ actor → Leads I Y (resume_own p actor c outcome)
  unfolding resume_own
  resume_own-leads c (Some outcome) is = to-leads _ (resume-keeps acting.later.base.quiet p TheBlock c outcome) acting.ceases
  resume_own-leads c None is = looks-leads _ (λ w. wait_for_own-leads c (may_open_abortable w actor c) is)

  own_found-leads : (v : World) (c : CallNo) (found : Option Call) → call_of v c ≡ found → Caller c actor v
      → Leads (At I v) Y (for_some found (λ d. resume_own p actor d d.outcome))
  own_found-leads v c None is own = from_at nothing (nothing-leads acting.ceases)
  own_found-leads v c (Some d) is own = from_at _ (resume_own-leads d d.outcome (own.1 d is))

  own_call-leads : (m : ProtectedMark) (c : CallNo) → m.own_call ≡ Some c → Leads (Entered m) Y (with_call c (λ d. resume_own p actor d d.outcome))
  own_call-leads m c e = looks-with _ (λ v said h. from-leads _ (λ w more k. (k.0.0, k.1)) (own_found-leads v c (call_of v c) refl (h.1 c e)))

  behind_action-leads : (m : ProtectedMark) (n : Option ℕ) (c : Option CallNo) → m.release ≡ n → m.own_call ≡ c → OwnRelease m
      → Leads (Entered m) Y (behind_action p actor m n c)
  unfolding behind_action
  behind_action-leads m (Some release) call r e own = from-leads _ (entered_on m) (end_release-leads release (own release r))
  behind_action-leads m None None r e own = from-leads _ (entered_on m) (to-leads _ (pass_on-keeps acting.later.base.quiet p actor m.body_left) acting.ceases)
  behind_action-leads m None (Some c) r e own = own_call-leads m c e

  pub release_object-leads : (m : ProtectedMark) → OwnRelease m → Leads (Entered m) Y (release_object p actor m)
  unfolding release_object
  release_object-leads m own =
      let quiet = (entered_moves m).quiet in
      then-leads _ _
      (owning m.own_call actor (says Own (line.Exit actor m.object)) (acting.exits actor m.object)
      (calling_says m.own_call actor Own (line.Exit actor m.object)))
      (then-leads _ _ (changes-keeps _ (pop-alters quiet actor))
      (then-leads _ _ (changes-keeps _ (close_action-alters quiet actor m.object))
      (then-leads _ _
      (owning m.own_call actor (lose_running p actor (inherited_by.Ceiling m.object)) (acting.loses (inherited_by.Ceiling m.object))
      (calling_loses m.own_call actor p actor (inherited_by.Ceiling m.object)))
      (then-leads _ _ (owning m.own_call actor (set_deferred p actor) acting.sets_deferred (calling_deferred m.own_call actor p actor))
      (behind_action-leads m m.release m.own_call refl refl own)))))

  settle_sent-keeps : (m : ProtectedMark) (c : Option CallNo) (test : Bool) → Keeps (Entered m) (settle_sent p c test)
  unfolding settle_sent
  settle_sent-keeps m None is_served = nothing-keeps
  settle_sent-keeps m (Some c) true = nothing-keeps
  settle_sent-keeps m (Some c) false = sent_not_begun-keeps (entered_moves m) acting.fits_finish c

  begins_part-keeps : (m : ProtectedMark) (test : Bool) (c : CallNo) → Keeps (Entered m) (begins_part p test c)
  unfolding begins_part
  begins_part-keeps m true c = begin_abortable-keeps (entered_moves m) acting.fits_finish c
  begins_part-keeps m false c = nothing-keeps

  fits_start : (is_sent : Bool) → FitsAll Fits (part_of_start is_sent)
  fits_start true = acting.fits_finish
  fits_start false = acting.later.fits_own

  serve_found-leads : (m : ProtectedMark) (is_sent : Bool) (again : Step) (c : CallNo) (d : Call) → Leads (Entered m) Y again
      → Leads (Entered m) Y
      (serve_call p (part_of_start is_sent) actor m.object d (begins_part p is_sent c)
      (deliver p (part_of_start is_sent) c (call_ended.ToRaise exception.Storage) ▷ again))
  serve_found-leads m is_sent again c d kept =
      serve_call-leads (entered_moves m).quiet p (part_of_start is_sent) actor m.object d (begins_part p is_sent c) _
      (to-leads _ (begins_part-keeps m is_sent c) (λ w said h. acting.ceases w said h.0))
      (then-leads _ again (deliver-keeps (entered_moves m) (part_of_start is_sent) c (call_ended.ToRaise exception.Storage) (fits_start is_sent)) kept)

  serve_chosen-leads : (m : ProtectedMark) (is_sent : Bool) (again : Step) (c : Option CallNo) → OwnRelease m → Leads (Entered m) Y again
      → Leads (Entered m) Y (serve_chosen p actor m is_sent again c)
  serve_chosen-leads m is_sent again None own kept = release_object-leads m own
  serve_chosen-leads m is_sent again (Some c) own kept =
      looks-leads _ (λ w. for_some-leads (call_of w c) _ (λ v said h. acting.ceases v said h.0) (λ d. serve_found-leads m is_sent again c d kept))

  serve_next-leads : (fuel : ℕ) (m : ProtectedMark) (sent : Option CallNo) → OwnRelease m → Leads (Entered m) Y (serve_next fuel p actor m sent)
  unfolding serve_next
  serve_next-leads zero m sent own = release_object-leads m own
  serve_next-leads (suc fuel) m sent own =
      looks-leads _ (λ w. let chosen = served_next p w actor (object_of w m.object) in
      then-leads _ _ (settle_sent-keeps m sent (chosen_is_sent sent chosen))
      (serve_chosen-leads m (chosen_is_sent sent chosen) (serve_next fuel p actor m None) chosen own (serve_next-leads fuel m None own)))

  pub serve_calls-leads : (m : ProtectedMark) (sent : Option CallNo) → OwnRelease m → Leads (Entered m) Y (serve_calls p actor m sent)
  unfolding serve_calls
  serve_calls-leads m sent own = looks-leads _ (λ w. serve_next-leads (suc (length w.calls)) m sent own)

  go_on_by_mode-leads : (m : ProtectedMark) (mode : Mode) → OwnRelease m → Leads (Entered m) Y (go_on_by_mode p actor m mode)
  unfolding go_on_by_mode
  go_on_by_mode-leads m Read own = release_object-leads m own
  go_on_by_mode-leads m Write own = serve_calls-leads m None own

  end_operation-leads : (m : ProtectedMark) (leaving : Leaving) → OwnRelease m → Leads (Entered m) Y (end_operation p actor m leaving)
  unfolding end_operation
  end_operation-leads m leaving own =
      let quiet = (entered_moves m).quiet in
      then-leads _ _ (changes-keeps _ (edit_top_protected-alters quiet actor (with_body_left leaving)))
      (then-leads _ _ (changes-keeps _ (edit_top-alters quiet actor not_left)) (go_on_by_mode-leads (with_body_left leaving m) m.mode own))

  finish_raised-leads : (m : ProtectedMark) (c : Call) (e : Raised) → OwnRelease m → Leads (Entered m) Y (finish_raised p actor m c e)
  unfolding finish_raised
  finish_raised-leads m c e own =
      then-leads _ _ (says-keeps (entered_moves m).quiet TheFinish (line.Finish actor c.number (meeting.Raised e)) refl)
      (then-leads _ _ (deliver-keeps (entered_moves m) TheFinish c.number (outcome_by (is_own_call actor m.own_call c) e) acting.fits_finish)
      (serve_calls-leads m None own))

  finish_well-leads : (m : ProtectedMark) (c : Call) (sending : Option Sending) → OwnRelease m → Leads (Entered m) Y (finish_well p actor m c sending)
  unfolding finish_well
  finish_well-leads m c None own =
      then-leads _ _ (says-keeps (entered_moves m).quiet TheFinish (line.Finish actor c.number meeting.Ok) refl)
      (then-leads _ _ (deliver-keeps (entered_moves m) TheFinish c.number call_ended.Finished acting.fits_finish) (serve_calls-leads m None own))
  finish_well-leads m c (Some s) own =
      then-leads _ _ (says-keeps (entered_moves m).quiet TheFinish (line.Finish actor c.number meeting.Requeue) refl)
      (then-leads _ _ (send_on-keeps (entered_moves m).quiet c.number s)
      (then-leads _ _ (enqueue-keeps (entered_moves m).quiet p c.number) (serve_calls-leads m (Some c.number) own)))

  finish_call-leads : (m : ProtectedMark) (leaving : Leaving) (c : Call) → OwnRelease m → Leads (Entered m) Y (finish_call p actor m leaving c)
  unfolding finish_call
  finish_call-leads m (how.Exception e) c own = finish_raised-leads m c e own
  finish_call-leads m how.End c own = finish_well-leads m c c.sending own
  finish_call-leads m how.Return c own = finish_well-leads m c c.sending own
  finish_call-leads m (how.Exit loop) c own = finish_well-leads m c c.sending own
  finish_call-leads m how.Abort c own = finish_well-leads m c c.sending own
  finish_call-leads m how.Terminate c own = finish_well-leads m c c.sending own

  end_entry_body-leads : (m : ProtectedMark) (leaving : Leaving) (c : CallNo) → OwnRelease m → Leads (Entered m) Y (end_entry_body p actor m leaving c)
  unfolding end_entry_body
  end_entry_body-leads m leaving c own =
      let quiet = (entered_moves m).quiet in
      then-leads _ _ (changes-keeps _ (edit_top_protected-alters quiet actor no_longer_serves))
      (then-leads _ _ (changes-keeps _ (edit_top-alters quiet actor not_left))
      (looks-leads _ (λ w. for_some-leads (call_of w c) _ (λ v said h. acting.ceases v said h.0) (λ d. finish_call-leads (no_longer_serves m) leaving d own))))

  end_in_protected_by-leads : (m : ProtectedMark) (leaving : Leaving) (c : Option CallNo) → OwnRelease m
      → Leads (Entered m) Y (end_in_protected_by p actor m leaving c)
  unfolding end_in_protected_by
  end_in_protected_by-leads m leaving None own = end_operation-leads m leaving own
  end_in_protected_by-leads m leaving (Some c) own = end_entry_body-leads m leaving c own

  pub end_in_protected-leads : (m : ProtectedMark) (leaving : Leaving) → OwnRelease m → Leads (Entered m) Y (end_in_protected p actor m leaving)
  unfolding end_in_protected
  end_in_protected-leads m leaving own = end_in_protected_by-leads m leaving m.serves own
