-- The action of somebody for whom no end of a delay is appointed: it blocks for each that it lets be appointed, and says so, but at
-- a select with a terminate alternative, where it does so later.
use Rattle.std.proofs.Common.{cond, ◌≡◌, inl, inr, Bool, true, false, List, [], ◌∷◌, Option, Some, None, refl, sym, ap, subst, ◌∙◌, append-nil}
use Rattle.std.specs.Prelude.{◌&&◌, ℤ, Result, Ok, Err}
use Rattle.std.proofs.lemmas.Bool.{and_from}
use Rattle.ann_base.specs.declared.exceptions.Raised.{Raised}
use Rattle.ann_base.specs.declared.identities.TaskNo.{TaskNo}
use Rattle.trace_text.specs.declared.events.Who.{Who}
use Rattle.trace_text.specs.declared.events.Who.TheVariants as who
use Rattle.profile_image.specs.declared.numbers.StatementNo.{StatementNo}
use Rattle.profile_machine.specs.declared.world.World.{World}
use Rattle.profile_machine.specs.declared.world.appointments.Due.TheVariants as due_for
use Rattle.profile_machine.specs.declared.world.lines.Line.TheVariants as said
use Rattle.profile_machine.specs.declared.world.lines.Part.TheVariants.{TheBlock, Own}
use Rattle.profile_machine.specs.declared.world.tasks.State.TheVariants.{Blocked}
use Rattle.profile_machine.specs.declared.world.tasks.Task.{Task}
use Rattle.profile_machine.specs.declared.world.tasks.Waiting.{Waiting}
use Rattle.profile_machine.specs.declared.world.tasks.Waiting.TheVariants as waits_for
use Rattle.profile_machine.specs.Appointments.{is_delay_of, appoint}
use Rattle.profile_machine.specs.Dispatching.{word_of, without_kept_level, says_block, block}
use Rattle.profile_machine.specs.Frames.{raises, raise_if, given}
use Rattle.profile_machine.specs.Masters.{waits_at_terminate}
use Rattle.profile_machine.specs.Rendezvous.{wait_at_select}
use Rattle.profile_machine.specs.Steps.{◌▷◌, looks, changes, Step}
use Rattle.profile_machine.specs.Tasks.{with_state, waiting_of, waiting_in, task_at, is_who, edit_task_found, edit_task}
use Rattle.profile_machine.specs.WellFormed.{waits_for_delay}
use Rattle.profile_image.specs.Words.{same_who}
use Rattle.world_laws.proofs.Appointments.DelayEdits.{put-any, plain-owned, edited-numbered, edited-delayed}
use Rattle.world_laws.proofs.Appointments.DelayMoves.{nobody_excused, fine, MovedOn, Moved, Lasting, GoodAs, Excuse}
use Rattle.world_laws.proofs.Appointments.Delays.{idle-later, delayed, Idle, Good, Awaited}
use Rattle.world_laws.proofs.Appointments.FineMoves.{FineMoves}
use Rattle.world_laws.proofs.Appointments.Led.{to-from, moved-from, looks_to-from, Led}
use Rattle.world_laws.proofs.Sequences.FineMoves.{Nobody}
use Rattle.machine_laws.proofs.Kept.Combinators.{From, Kept, Keeps}
use Rattle.machine_laws.proofs.QueueLemmas.{by_test}
use Rattle.machine_laws.proofs.FineMoves.{GoodWorld, Naming, AnyWorld}
use Rattle.line_laws.proofs.Leaving.TaskLemmas.{found-holds, of_other, of_self, own-list, who_path}
use Rattle.machine_laws.proofs.Plain.Frames.{raises-keeps}
use Rattle.world_laws.proofs.Appointments.Kept.Frames.{plain_steps}

-- ---- of nobody in particular

pub any_lasting : Lasting AnyWorld
any_lasting w v later h = tt

-- nobody acts

module _ (a : Who) where
  -- who waits at an open terminate alternative has not said yet that it blocks
  abbrev pub excused : Excuse
  excused t waiting = same_who (who.Task t) a && waits_at_terminate waiting

  acts_lasting : Lasting (Idle a)
  acts_lasting w v later idle = idle-later a w v later idle

  abbrev pub IsActor : Naming
  IsActor name = name ≡ a

  pub acting : FineMoves (GoodAs (Idle a)) IsActor (Moved nobody_excused (Idle a)) (MovedOn nobody_excused (Idle a))
  acting = fine nobody_excused {E = Idle a} acts_lasting IsActor (λ name w idle is. subst (λ n. Idle n w) (sym is) idle)

  abbrev pub Acting : GoodWorld
  Acting = GoodAs (Idle a)

  abbrev pub Ends : World → Step → Type 0
  Ends w step = From (Led nobody_excused excused) w step

  -- what is kept is more
  pub plain : (step : Step) (w : World) → Acting w → Keeps Acting (Moved nobody_excused (Idle a)) step → Ends w step
  plain step w good kept =
      to-from (Moved nobody_excused (Idle a)) (Led nobody_excused excused) step w (moved-from nobody_excused (Idle a) step w good kept)
      (λ v xs k. record { good = k.good; follows = λ t d x. k.follows t d refl })

  pub looks_at-ends : (f : World → Step) (w : World) → Ends w (f w) → Ends w (looks f)
  looks_at-ends f w k = looks_to-from (Led nobody_excused excused) f w k

  pub given-ends : {X : Type 0} (result : Result X Raised) (f : X → Step) (w : World) → Acting w → ((x : X) → Ends w (f x)) → Ends w (given Own a result f)
  given-ends (Ok x) f w good k = k x
  given-ends (Err e) f w good k = plain (raises Own a e) w good (raises-keeps (plain_steps acting) Own a e)

  pub raise_if-ends : (test : Bool) (e : Raised) (step : Step) (w : World) → Acting w → Ends w step → Ends w (raise_if a test e step)
  raise_if-ends true e step w good k = plain (raises Own a e) w good (raises-keeps (plain_steps acting) Own a e)
  raise_if-ends false e step w good k = k

-- ---- who is there stays there when it is edited

abbrev pub Present : Who → World → Type 0
Present name w = (u : Task) × (task_at w name ≡ Some u)

edited-present : (name : Who) (f : Task → Task) (w : World) (found : Option Task) → task_at w name ≡ found → ((t : Task) → (f t).who ≡ t.who)
    → ((u : Task) → found ≡ Some u → Present name (edit_task_found name f w found))
edited-present name f w None is same u e = absurd (let never : None ≡ Some u = e in cc)
edited-present who.Agent f w (Some t) is same u e = (f t, refl)
edited-present (who.Task n) f w (Some t) is same u e =
    (f t, own-list (is_who (who.Task n)) w.tasks t (f t) is (ap (same_who (who.Task n)) (same t) ∙ found-holds (is_who (who.Task n)) w.tasks t is))

pub present-edited : (name : Who) (f : Task → Task) (w : World) → ((t : Task) → (f t).who ≡ t.who) → Present name w → Present name (edit_task name f w)
present-edited name f w same h = edited-present name f w (task_at w name) refl same h.0 h.1

-- ---- the end of a delay is appointed, and the task blocks for it

module _ (t : TaskNo) (m : ℤ) (waiting : Waiting) (w : World) (good : Good w) (here : Present (who.Task t) w)
    (waits : waits_for_delay (Some waiting) ≡ true) where
  own_state : waiting_of (edit_task (who.Task t) (with_state (Blocked waiting)) (appoint (due_for.Delay t) m w)) (who.Task t) ≡ Some waiting
  own_state =
      ap (λ (u : Task). waiting_in u.state) (of_self (who.Task t) (with_state (Blocked waiting)) (appoint (due_for.Delay t) m w) here.0 here.1 (λ u. refl))

  other_delay : (k : TaskNo) → same_who (who.Task k) (who.Task t) ≡ false
      → delayed k (edit_task (who.Task t) (with_state (Blocked waiting)) (appoint (due_for.Delay t) m w)) ≡ true → delayed k w ≡ true
  other_delay k apart d =
      sym (put-any (λ x. is_delay_of k x.due) (record { due = due_for.Delay t; moment = m }) w.appointments apart)
      ∙ sym (edited-delayed (who.Task t) (with_state (Blocked waiting)) (appoint (due_for.Delay t) m w) k) ∙ d

  other_state : (k : TaskNo) → same_who (who.Task k) (who.Task t) ≡ false
      → waiting_of (edit_task (who.Task t) (with_state (Blocked waiting)) (appoint (due_for.Delay t) m w)) (who.Task k) ≡ waiting_of w (who.Task k)
  other_state k apart =
      ap (λ (u : Task). waiting_in u.state)
      (of_other (who.Task k) (who.Task t) (with_state (Blocked waiting)) (appoint (due_for.Delay t) m w) (λ u. refl) apart)

  same_number : (k : TaskNo) → same_who (who.Task k) (who.Task t) ≡ true → k ≡ t
  same_number k e = let one : who.Task k ≡ who.Task t = who_path (who.Task k) (who.Task t) e in cc

  blocked_awaited : Awaited (edit_task (who.Task t) (with_state (Blocked waiting)) (appoint (due_for.Delay t) m w))
  blocked_awaited k d =
      by_test (same_who (who.Task k) (who.Task t))
      (λ e. subst
      (λ n. waits_for_delay (waiting_of (edit_task (who.Task t) (with_state (Blocked waiting)) (appoint (due_for.Delay t) m w)) (who.Task n)) ≡ true)
      (sym (same_number k e)) (ap waits_for_delay own_state ∙ waits))
      (λ e. ap waits_for_delay (other_state k e) ∙ good.awaited k (other_delay k e d))

  blocked_good : Good (edit_task (who.Task t) (with_state (Blocked waiting)) (appoint (due_for.Delay t) m w))
  blocked_good = record {
    awaited = blocked_awaited;
    numbered = edited-numbered (who.Task t) (with_state (Blocked waiting)) (appoint (due_for.Delay t) m w) (λ u. refl) good.numbered;
    owned = plain-owned (who.Task t) (with_state (Blocked waiting)) (appoint (due_for.Delay t) m w) (λ u. refl) (λ u. refl) good.owned;
  }

  -- without a word, where that is excused
  silent_led : waits_at_terminate (Some waiting) ≡ true
      → Led nobody_excused (excused (who.Task t)) w [] (edit_task (who.Task t) (with_state (Blocked waiting)) (appoint (due_for.Delay t) m w))
  silent_led terminates = record {
    good = blocked_good;
    follows = λ k d x.
        by_test (same_who (who.Task k) (who.Task t))
        (λ e.
        absurd (let state : waiting_of (edit_task (who.Task t) (with_state (Blocked waiting)) (appoint (due_for.Delay t) m w)) (who.Task k) ≡ Some waiting =
        subst (λ n. waiting_of (edit_task (who.Task t) (with_state (Blocked waiting)) (appoint (due_for.Delay t) m w)) (who.Task n) ≡ Some waiting)
        (sym (same_number k e)) own_state in
        let excuse : (same_who (who.Task k) (who.Task t)
        && waits_at_terminate (waiting_of (edit_task (who.Task t) (with_state (Blocked waiting)) (appoint (due_for.Delay t) m w)) (who.Task k)))
        ≡ true =
        and_from (same_who (who.Task k) (who.Task t))
        (waits_at_terminate (waiting_of (edit_task (who.Task t) (with_state (Blocked waiting)) (appoint (due_for.Delay t) m w)) (who.Task k))) e
        (ap waits_at_terminate state ∙ terminates) in
        let never : true ≡ false = sym excuse ∙ x in cc))
        (λ e. inl (other_delay k e d, refl, tt));
  }

  -- and with its line
  told_led : Led nobody_excused (excused (who.Task t)) w (record { part = TheBlock; line = said.Block (who.Task t) (word_of waiting) } ∷ [])
      (edit_task (who.Task t) without_kept_level (edit_task (who.Task t) (with_state (Blocked waiting)) (appoint (due_for.Delay t) m w)))
  told_led =
      let v = edit_task (who.Task t) (with_state (Blocked waiting)) (appoint (due_for.Delay t) m w) in
      let k =
      (fine nobody_excused {E = AnyWorld} any_lasting Nobody (λ name u e may. absurd may)).edits_task (who.Task t) without_kept_level v (blocked_good, tt)
      (λ u. refl) (λ u. refl) (λ u. refl) in
      record {
        good = k.good;
        follows = λ n d x.
            by_test (same_who (who.Task n) (who.Task t))
            (λ e. inr (ap (λ b. cond b true false) e))
            (λ e. inl (other_delay n e (k.later.delays n d), refl, (refl, tt)));
      }

pub wait_until-ends : (t : TaskNo) (m : ℤ) (w : World) → Good w → Present (who.Task t) w
    → Ends (who.Task t) w (changes (appoint (due_for.Delay t) m) ▷ block TheBlock (who.Task t) waits_for.Moment)
unfolding From Kept block says_block
wait_until-ends t m w good here said_before = (
  record { part = TheBlock; line = said.Block (who.Task t) (word_of waits_for.Moment) } ∷ [],
  refl,
  told_led t m waits_for.Moment w good here refl,
)

pub select_waits-ends : (t : TaskNo) (m : ℤ) (accepts : List StatementNo) (delay : StatementNo) (terminate : Bool) (w : World) → Good w → Present (who.Task t) w
    → Ends (who.Task t) w (changes (appoint (due_for.Delay t) m) ▷ wait_at_select (who.Task t) accepts (Some delay) terminate)
unfolding From Kept block says_block wait_at_select
select_waits-ends t m accepts delay true w good here said_before = (
  [],
  sym (append-nil said_before),
  silent_led t m (waits_for.Select accepts (Some delay) true) w good here refl refl,
)
select_waits-ends t m accepts delay false w good here said_before = (
  record { part = TheBlock; line = said.Block (who.Task t) (word_of (waits_for.Select accepts (Some delay) false)) } ∷ [],
  refl,
  told_led t m (waits_for.Select accepts (Some delay) false) w good here refl,
)
