-- The asynchronous select by a delay, which alone sets a trigger: it leads to a good world, as does what stands round it.
use Rattle.std.proofs.Common.{◌≡◌, refl, sym, ap, subst, ◌∙◌, append_assoc, append-nil}
use Rattle.std.specs.Prelude.{ℕ, ℤ, pos, int_lt, Bool, true, false, List, [], ◌∷◌, ◌++◌, Option, Some, None, Result, Ok, Err, length}
use Rattle.ann_base.specs.declared.exceptions.Raised.{Raised}
use Rattle.ann_base.specs.declared.exceptions.Raised.TheVariants as exception
use Rattle.ann_base.specs.declared.identities.RegionNo.{RegionNo}
use Rattle.trace_text.specs.declared.events.Who.{Who}
use Rattle.trace_text.specs.declared.events.Who.TheVariants as who
use Rattle.profile_image.specs.declared.image.Image.{Image}
use Rattle.profile_image.specs.declared.numbers.StatementNo.{StatementNo}
use Rattle.profile_image.specs.declared.statements.StatementForm.{StatementForm}
use Rattle.profile_image.specs.declared.statements.StatementForm.TheVariants as form
use Rattle.profile_machine.specs.declared.world.World.{World}
use Rattle.profile_machine.specs.declared.world.calls.CallKind.TheVariants as call_kind
use Rattle.profile_machine.specs.declared.world.lines.Part.{Part}
use Rattle.profile_machine.specs.declared.world.lines.Part.TheVariants.{Own}
use Rattle.profile_machine.specs.declared.world.lines.Said.{Said}
use Rattle.profile_machine.specs.declared.world.marks.Frame.{Frame}
use Rattle.profile_machine.specs.declared.world.tasks.Task.{Task}
use Rattle.profile_image.specs.Program.{next_of, form_of}
use Rattle.profile_machine.specs.Steps.{Step, Done, done, goes_on_with, changes, looks, settles, settled, ◌▷◌}
use Rattle.profile_machine.specs.Tasks.{with_frames}
use Rattle.profile_machine.specs.Frames.{top_of, new_frame, frames_of, edit_first, edit_top, goes_on, goes, raises, raise_if, given, has_room, with_room}
use Rattle.profile_machine.specs.Sending.{open_abortable, new_abortable_mark, abortable_in}
use Rattle.profile_machine.specs.EntryCalls.{appoint_trigger, trigger_delay, async_delay, async_by_trigger, asynchronous_select, is_forbidden}
use Rattle.profile_machine.specs.Rendezvous.{delay_moment}
use Rattle.profile_machine.specs.Values.{seen_by}
use Rattle.machine_laws.proofs.Moves.{StepRelation, MoveRelation}
use Rattle.world_laws.proofs.Marks.MarkFacts.{Calm, Begun, StandsAt}
use Rattle.world_laws.proofs.Marks.TopLemmas.{frames_pushed, top_edited, calm_edited, begun_edited}
use Rattle.world_laws.proofs.Marks.StandingLemmas.{stands-top}
use Rattle.world_laws.proofs.Marks.FineMoves.{FineMoves, Openings, Arming, chains}
use Rattle.world_laws.proofs.Marks.Kept.Frames.{goes-keeps, plain_steps}
use Rattle.world_laws.proofs.Marks.Kept.Tasks.{edit_top-alters}
use Rattle.world_laws.proofs.Marks.Kept.EntryCalls.{entry_call-keeps}
use Rattle.machine_laws.proofs.FineMoves.{GoodWorld, Naming}
use Rattle.machine_laws.proofs.Kept.Combinators.{Alters, From, Keeps, Kept, keeps-from}
use Rattle.machine_laws.proofs.Plain.Frames.{raises-keeps}

-- a good world is behind, whatever was done
abbrev pub Led : GoodWorld → StepRelation
Led G w xs v = G v

module _ {G : GoodWorld} {May Other : Naming} {R : StepRelation} {Q : MoveRelation} (moves : FineMoves G May Other R Q) where
  led-kept : (w : World) (said : List Said) (d : Done) → Kept R w said d → Kept (Led G) w said d
  unfolding Kept
  led-kept w said (done v ys) a = (a.0, a.1, moves.behind w v a.2)

  pub led-from : (f : Step) (w : World) → From R w f → From (Led G) w f
  unfolding From
  led-from f w a said = led-kept w said (f w said) (a said)

  led-joined : (w v : World) (said ys : List Said) (d : Done) → Kept (Led G) w said (done v ys) → Kept R v ys d → Kept (Led G) w said d
  unfolding Kept
  led-joined w v said ys (done u zs) a b = (a.0 ++ b.0, b.1 ∙ ap (λ xs. xs ++ b.0) a.1 ∙ append_assoc said a.0 b.0, moves.behind v u b.2)

  led-good : (w v : World) (said ys : List Said) → Kept (Led G) w said (done v ys) → G v
  unfolding Kept
  led-good w v said ys a = a.2

  led-onward : (g : Step) (w : World) (said : List Said) (d : Done) → Kept (Led G) w said d → Keeps G R g → Kept (Led G) w said (goes_on_with g d)
  unfolding Keeps
  led-onward g w said (done v ys) a b = led-joined w v said ys (g v ys) a (b v (led-good w v said ys a) ys)

  -- a step behind
  pub led_then-from : (f g : Step) (w : World) → From (Led G) w f → Keeps G R g → From (Led G) w (f ▷ g)
  unfolding From
  led_then-from f g w a b said = led-onward g w said (f w said) (a said) b

  -- whatever was before
  led-any : (w v : World) (said : List Said) (d : Done) → Kept (Led G) v said d → Kept (Led G) w said d
  unfolding Kept
  led-any w v said (done u ys) a = a

  pub led_changes_then-from : (f : World → World) (g : Step) (w : World) → From (Led G) (f w) g → From (Led G) w (changes f ▷ g)
  unfolding From
  led_changes_then-from f g w a said = led-any w (f w) said (g (f w) said) (a said)

  led_changes-from : (f : World → World) (w : World) → G (f w) → From (Led G) w (changes f)
  unfolding From Kept
  led_changes-from f w good said = ([], sym (append-nil said), good)

  pub led_looks-from : (f : World → Step) (w : World) → From (Led G) w (f w) → From (Led G) w (looks f)
  unfolding From
  led_looks-from f w a said = a said

  led_raise_if-from : (name : Who) (test : Bool) (e : Raised) (step : Step) (w : World) → G w → (test ≡ false → From (Led G) w step)
      → From (Led G) w (raise_if name test e step)
  led_raise_if-from name true e step w good k =
      led-from (raises Own name e) w (keeps-from (chains moves) (raises Own name e) w good (raises-keeps (plain_steps moves) Own name e))
  led_raise_if-from name false e step w good k = k refl

  led_given-from : {X : Type 0} (part : Part) (name : Who) (result : Result X Raised) (f : X → Step) (w : World) → G w → ((x : X) → From (Led G) w (f x))
      → From (Led G) w (given part name result f)
  led_given-from part name (Ok x) f w good k = k x
  led_given-from part name (Err e) f w good k =
      led-from (raises part name e) w (keeps-from (chains moves) (raises part name e) w good (raises-keeps (plain_steps moves) part name e))

  led_branch-from : (name : Who) (test : Bool) (e : Raised) (step : Step) (w : World) → G w → From (Led G) w step
      → From (Led G) w (elim test as (λ _. Step) [ true ↦ step | false ↦ raises Own name e ])
  led_branch-from name true e step w good k = k
  led_branch-from name false e step w good k =
      led-from (raises Own name e) w (keeps-from (chains moves) (raises Own name e) w good (raises-keeps (plain_steps moves) Own name e))

  led_with_room-from : (name : Who) (marks cells : ℕ) (step : Step) (w : World) → G w → From (Led G) w step → From (Led G) w (with_room name marks cells step)
  led_with_room-from name marks cells step w good k =
      led_looks-from (λ v. elim (has_room v name marks cells) as (λ _. Step) [ true ↦ step | false ↦ raises Own name exception.Storage ]) w
      (led_branch-from name (has_room w name marks cells) exception.Storage step w good k)

  led_goes_then-from : (name : Who) (onward : Option StatementNo) (g : Step) (w : World) → G w
      → (G (edit_top name (goes_on onward) w) → From (Led G) (edit_top name (goes_on onward) w) g) → From (Led G) w (goes name onward ▷ g)
  unfolding goes Alters
  led_goes_then-from name onward g w good k =
      let gone = edit_top-alters moves name (goes_on onward) (λ x. refl) (λ x. refl) w good in
      led_changes_then-from (edit_top name (goes_on onward)) g w (k (moves.behind w (edit_top name (goes_on onward) w) gone))

  -- ---- a trigger is set

  module _ (arming : Arming G Q) where
    settled-led : (p : Image) (w : World) (d : Done) → Kept (Led G) w [] d → Q w (settled p d).1 (settled p d).0
    unfolding Kept
    settled-led p w (done v ys) a = arming.settles_good p w v ys a.2

    pub settles_led-from : (p : Image) (step : Step) (w : World) → From (Led G) w step → Q w (settles p step w).1 (settles p step w).0
    unfolding From
    settles_led-from p step w a = settled-led p w (step w []) (a [])

    -- the abortable part opens above the mark on top, and the moment is set for it
    appoint_trigger-from : (p : Image) (name : Who) (s : StatementNo) (g : Frame) (m : ℤ) (w : World) → G (open_abortable p name s None w) → Begun name w
        → top_of w name ≡ Some g → From (Led G) (open_abortable p name s None w) (changes (appoint_trigger name (length (frames_of w name)) m))
    appoint_trigger-from p (who.Task t) s g m w good begun top =
        let v = open_abortable p (who.Task t) s None w in
        let f = new_frame (new_abortable_mark s None) (abortable_in (form_of p s)) in
        led_changes-from (appoint_trigger (who.Task t) (length (frames_of w (who.Task t))) m) v
        (arming.appoints_trigger t (length (frames_of w (who.Task t))) m v good
        (subst (StandsAt (length (frames_of w (who.Task t)))) (sym (frames_pushed (who.Task t) f g w top)) (stands-top f (frames_of w (who.Task t)) refl))
        (begun_edited (who.Task t) (λ u. with_frames (f ∷ u.frames) u) w (λ u. refl) (λ u. refl) begun))
    appoint_trigger-from p who.Agent s g m w good begun top = led_changes-from (λ v. v) (open_abortable p who.Agent s None w) good

    opens_until : (p : Image) (name : Who) (s : StatementNo) (m : ℤ) (g : Frame) (w : World) → G w → Calm name w → Begun name w → top_of w name ≡ Some g
        → From (Led G) w (looks (λ v. changes (open_abortable p name s None) ▷ changes (appoint_trigger name (length (frames_of v name)) m)))
    opens_until p name s m g w good calm begun top =
        let opened = moves.opens_part name (new_frame (new_abortable_mark s None) (abortable_in (form_of p s))) w good calm refl refl refl in
        led_looks-from (λ v. changes (open_abortable p name s None) ▷ changes (appoint_trigger name (length (frames_of v name)) m)) w
        (led_changes_then-from (open_abortable p name s None) _ w
        (appoint_trigger-from p name s g m w (moves.behind w (open_abortable p name s None w) opened) begun top))

    trigger_delay-from : (p : Image) (name : Who) (s trigger : StatementNo) (m : ℤ) (test : Bool) (g : Frame) (w : World) → G w → Calm name w → Begun name w
        → top_of w name ≡ Some g → From (Led G) w (trigger_delay p name s trigger m test)
    unfolding trigger_delay
    trigger_delay-from p name s trigger m false g w good calm begun top =
        led-from _ w (keeps-from (chains moves) _ w good (goes-keeps moves name (next_of p trigger)))
    trigger_delay-from p name s trigger m true g w good calm begun top =
        let onward = λ (t : Task). with_frames (edit_first (goes_on (next_of p s)) t.frames) t in
        led_with_room-from name 1 0 _ w good
        (led_goes_then-from name (next_of p s) _ w good (λ good_onward.
        opens_until p name s m (goes_on (next_of p s) g) (edit_top name (goes_on (next_of p s)) w) good_onward
        (calm_edited name onward w (λ t. refl) (λ t. refl) calm) (begun_edited name onward w (λ t. refl) (λ t. refl) begun)
        (top_edited name (goes_on (next_of p s)) g w top)))

    async_delay-from : (p : Image) (name : Who) (s trigger : StatementNo) (g : Frame) (w : World) → G w → Calm name w → Begun name w → top_of w name ≡ Some g
        → From (Led G) w (async_delay p name s trigger)
    unfolding async_delay
    async_delay-from p name s trigger g w good calm begun top =
        led_looks-from
        (λ v. raise_if name (is_forbidden v name call_kind.Triggering) exception.Program
        (given Own name (delay_moment (seen_by p v name) trigger) (λ m. trigger_delay p name s trigger m (int_lt (pos v.time) m)))) w
        (led_raise_if-from name (is_forbidden w name call_kind.Triggering) exception.Program _ w good (λ allowed.
        led_given-from Own name (delay_moment (seen_by p w name) trigger) _ w good (λ m.
        trigger_delay-from p name s trigger m (int_lt (pos w.time) m) g w good calm begun top)))

    module _ {Owns : Who → RegionNo → Type 0} (openings : Openings G May Other Owns R) where
      async_by_trigger-from : (p : Image) (name : Who) (s trigger : StatementNo) (form : StatementForm) (g : Frame) (w : World) → G w → Calm name w
          → Begun name w → top_of w name ≡ Some g → From (Led G) w (async_by_trigger p name s trigger form)
      unfolding async_by_trigger
      async_by_trigger-from p name s trigger (form.EntryCall entry owner actuals) g w good calm begun top =
          led-from _ w (keeps-from (chains moves) _ w good (entry_call-keeps moves openings p name call_kind.Triggering s))
      async_by_trigger-from p name s trigger _ g w good calm begun top = async_delay-from p name s trigger g w good calm begun top

      pub asynchronous_select-from : (p : Image) (name : Who) (s trigger : StatementNo) (g : Frame) (w : World) → G w → Calm name w → Begun name w
          → top_of w name ≡ Some g → From (Led G) w (asynchronous_select p name s trigger)
      unfolding asynchronous_select
      asynchronous_select-from p name s trigger g w good calm begun top = async_by_trigger-from p name s trigger (form_of p trigger) g w good calm begun top
