-- Calls, and the queues in which they stand: each step keeps what its parts keep.
use Rattle.ann_base.specs.declared.identities.CallNo.{CallNo}
use Rattle.ceiling_laws.proofs.Fine.CallLemmas.{edited-caller, gone-caller}
use Rattle.ceiling_laws.proofs.Fine.Kept.Scopes.{drop_appointment-alters}
use Rattle.ceiling_laws.proofs.Fine.Kept.Tasks.{same-alters, says-keeps}
use Rattle.ceiling_laws.proofs.Fine.LevelMoves.{Silences}
use Rattle.ceiling_laws.proofs.Fine.SameLemmas.{edit_object-same, edit_task-same}
use Rattle.ceiling_laws.proofs.Runs.Triples.{Alters, Keeps, Leads, State, branch-keeps, branch-leads}
use Rattle.ceiling_laws.proofs.Runs.Triples.{changes-keeps, for_some-keeps, looks-keeps, then-keeps, then-leads}
use Rattle.ceiling_laws.proofs.Fine.Cores.{Same}
use Rattle.profile_machine.specs.Appointments.{is_timeout_of}
use Rattle.profile_machine.specs.Calls.{attempt_on, attempt_with, call_of, edit_call, edit_queue, enqueue, enqueued, forget_call}
use Rattle.profile_machine.specs.Calls.{is_cancellable, place_of_entry, put_call, says_call, take_call, unqueued, with_call}
use Rattle.profile_machine.specs.Releases.{stays}
use Rattle.profile_machine.specs.Serving.{keeps_sending}
use Rattle.profile_machine.specs.Steps.{Step, changes, says, ◌▷◌}
use Rattle.profile_image.specs.Words.{edit_at}
use Rattle.profile_image.specs.declared.image.Image.{Image}
use Rattle.profile_machine.specs.declared.run_data.Leaving.{Leaving}
use Rattle.profile_machine.specs.declared.run_data.Leaving.TheVariants as how
use Rattle.profile_machine.specs.declared.world.World.{World}
use Rattle.profile_machine.specs.declared.world.calls.Call.{Call}
use Rattle.profile_machine.specs.declared.world.calls.Owner.{Owner}
use Rattle.profile_machine.specs.declared.world.calls.Owner.TheVariants as owned_by
use Rattle.profile_machine.specs.declared.world.lines.Line.TheVariants as line
use Rattle.profile_machine.specs.declared.world.lines.Part.{Part}
use Rattle.std.proofs.Common.{refl, ◌≡◌}
use Rattle.std.specs.Prelude.{List, false, true, ℕ}
use Rattle.trace_text.specs.declared.events.Who.TheVariants as who

pub edit_queue-same : (owner : Owner) (place : ℕ) (f : List CallNo → List CallNo) (w : World) → Same w (edit_queue owner place f w)
edit_queue-same (owned_by.Task t) place f w = edit_task-same (who.Task t) (λ u. record u { queues = edit_at place f u.queues }) w (λ u. refl)
edit_queue-same (owned_by.Object o) place f w = edit_object-same o (λ u. record u { queues = edit_at place f u.queues }) w (λ u. refl)

-- a call whose sending is kept or dropped is the same one
pub keeps_sending-number : (leaving : Leaving) (d : Call) → (keeps_sending leaving d).number ≡ d.number
keeps_sending-number how.End d = refl
keeps_sending-number how.Return d = refl
keeps_sending-number (how.Exit loop) d = refl
keeps_sending-number (how.Exception e) d = refl
keeps_sending-number how.Abort d = refl
keeps_sending-number how.Terminate d = refl

pub keeps_sending-caller : (leaving : Leaving) (d : Call) → (keeps_sending leaving d).caller ≡ d.caller
keeps_sending-caller how.End d = refl
keeps_sending-caller how.Return d = refl
keeps_sending-caller (how.Exit loop) d = refl
keeps_sending-caller (how.Exception e) d = refl
keeps_sending-caller how.Abort d = refl
keeps_sending-caller how.Terminate d = refl

module _ {X : State} (quiet : Silences X) where
  pub edit_call-alters : (c : CallNo) (f : Call → Call) → ((d : Call) → (f d).number ≡ d.number) → ((d : Call) → (f d).caller ≡ d.caller)
      → Alters X (edit_call c f)
  edit_call-alters c f number caller =
      same-alters quiet (edit_call c f)
      (λ w. record {
        tasks = refl;
        agent = refl;
        objects = refl;
        drawn_tasks = refl;
        drawn_objects = refl;
        callers = λ k n m. edited-caller c f w.calls w.drawn.calls number caller n k m;
        delays = λ t e. e;
      })

  pub forget_call-alters : (c : CallNo) → Alters X (forget_call c)
  forget_call-alters c =
      same-alters quiet (forget_call c)
      (λ w. record {
        tasks = refl;
        agent = refl;
        objects = refl;
        drawn_tasks = refl;
        drawn_objects = refl;
        callers = λ k n m. gone-caller c w.calls w.drawn.calls n k m;
        delays = λ t e. e;
      })

  pub with_call-keeps : (c : CallNo) (f : Call → Step) → ((x : Call) → Keeps X (f x)) → Keeps X (with_call c f)
  with_call-keeps c f kept = looks-keeps _ (λ w. for_some-keeps (call_of w c) f kept)

  pub says_call-keeps : (part : Part) (c : Call) → Keeps X (says_call part c)
  unfolding says_call
  says_call-keeps part c = search (says-keeps)

  pub edit_queue-alters : (owner : Owner) (place : ℕ) (f : List CallNo → List CallNo) → Alters X (edit_queue owner place f)
  edit_queue-alters owner place f = same-alters quiet (edit_queue owner place f) (edit_queue-same owner place f)

  pub enqueued-alters : (p : Image) (c : Call) → Alters X (enqueued p c)
  enqueued-alters p c = record {
    turns = λ w said h.
        let unbegun = edit_call c.number (λ d. record d { begun = false }) w in
        (edit_queue-alters c.owner (place_of_entry p c.entry) (put_call p.policies.queuing w c.number c.priority)).turns unbegun said
        ((edit_call-alters c.number (λ d. record d { begun = false }) (λ d. refl) (λ d. refl)).turns w said h);
  }

  pub enqueue-keeps : (p : Image) (c : CallNo) → Keeps X (enqueue p c)
  unfolding enqueue
  enqueue-keeps p c = with_call-keeps c _ (λ d. changes-keeps (enqueued p d) (enqueued-alters p d))

  pub unqueued-alters : (p : Image) (c : Call) → Alters X (unqueued p c)
  unqueued-alters p c = record {
    turns = λ w said h.
        let taken = edit_queue c.owner (place_of_entry p c.entry) (take_call c.number) w in
        (drop_appointment-alters quiet (is_timeout_of c.number)).turns taken said
        ((edit_queue-alters c.owner (place_of_entry p c.entry) (take_call c.number)).turns w said h);
  }

  pub attempt_on-keeps : (p : Image) (part : Part) (c : Call) → Keeps X (attempt_on p part c)
  unfolding attempt_on
  attempt_on-keeps p part c =
      branch-keeps (is_cancellable c) (changes (unqueued p c) ▷ says part (line.Cancel c.caller c.number))
      (changes (edit_call c.number (λ d. record d { attempted = true })))
      (then-keeps _ _ (changes-keeps _ (unqueued-alters p c)) (says-keeps quiet part (line.Cancel c.caller c.number) refl))
      (changes-keeps _ (edit_call-alters c.number (λ d. record d { attempted = true }) (λ d. refl) (λ d. refl)))

  pub attempt_with-leads : {Y : State} (p : Image) (part : Part) (c : Call) (cancels stays : Step) → Leads X Y cancels → Leads X Y stays
      → Leads X Y (attempt_with p part c cancels stays)
  attempt_with-leads p part c cancels stays kept also_kept =
      then-leads (attempt_on p part c) _ (attempt_on-keeps p part c) (branch-leads (is_cancellable c) cancels stays kept also_kept)

  pub attempt_with-keeps : (p : Image) (part : Part) (c : Call) (cancels stays : Step) → Keeps X cancels → Keeps X stays
      → Keeps X (attempt_with p part c cancels stays)
  attempt_with-keeps p part c cancels stays kept also_kept = attempt_with-leads p part c cancels stays kept also_kept
