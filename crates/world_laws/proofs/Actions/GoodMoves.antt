-- Every change leaves a world good; and of whom it is known that no action is open.
use Rattle.std.proofs.Common.{◌≡◌, ◌≤◌, eq-eqb, Bool, true, false, List, [], ◌∷◌, Option, Some, None, refl, sym, ap, subst, ◌∙◌}
use Rattle.std.proofs.lemmas.Bool.{false≢true}
use Rattle.ann_base.specs.declared.identities.RegionNo.{RegionNo}
use Rattle.trace_text.specs.declared.events.Who.{Who}
use Rattle.trace_text.specs.declared.events.Who.TheVariants as who
use Rattle.profile_machine.specs.declared.world.World.{World}
use Rattle.profile_machine.specs.declared.world.marks.Frame.{Frame}
use Rattle.profile_machine.specs.declared.world.tasks.Task.{Task}
use Rattle.profile_machine.specs.declared.world.tasks.Waiting.{Waiting}
use Rattle.profile_machine.specs.declared.world.tasks.State.{State}
use Rattle.profile_machine.specs.declared.world.tasks.State.TheVariants.{Made, Runnable, Blocked}
use Rattle.profile_image.specs.Words.{same_region, is_the}
use Rattle.world_tables.specs.Lists.{first_of}
use Rattle.profile_machine.specs.Tasks.{edit_task, with_state, with_frames, task_of, is_runnable_state, waiting_in, waiting_of}
use Rattle.profile_machine.specs.Frames.{top_of, in_protected, edit_first, goes_on, is_protected}
use Rattle.profile_machine.specs.Masters.{has_dependents}
use Rattle.profile_machine.specs.Controlled.{top_region}
use Rattle.profile_machine.specs.Tasking.{add_task}
use Rattle.profile_image.specs.declared.numbers.StatementNo.{StatementNo}
use Rattle.line_laws.proofs.Exits.TaskEdits.{one_of, one_of-is, same_who-path, edited}
use Rattle.world_laws.proofs.Actions.Natures.{Nature, nature, natures, guards, any_protected-is, no_action, guards-plain}
use Rattle.world_laws.proofs.Actions.Sound.{Clean, MarksSound, marks_of, Sound, Free, Good}
use Rattle.world_laws.proofs.Actions.SoundEdits.{others-edited, steady-good, same-good, same-sure, same-marks}
use Rattle.world_laws.proofs.Actions.SoundMarks.{push-good, open_scope-good, first_action, pop-good}
use Rattle.world_laws.proofs.Actions.SoundWorlds.{top-clean, add_task-good, forget_task-good, end_scope-good, edit_object-good}
use Rattle.world_laws.proofs.Actions.SoundWorlds.{add_object-good, edit_call-good, forget_call-good, add_call-good}
use Rattle.world_laws.proofs.Actions.SoundActions.{inherit-good, lose-good}
use Rattle.world_laws.proofs.Actions.FineMoves.{FineMoves}
use Rattle.machine_laws.proofs.FineMoves.{Naming, gone_on}

pub first-natures : (f : Frame → Frame) (fs : List Frame) → ((x : Frame) → nature (f x).mark ≡ nature x.mark) → natures (edit_first f fs) ≡ natures fs
first-natures f [] same = refl
first-natures f (x ∷ xs) same = ap (λ n. n ∷ natures xs) (same x)

-- ---- of whom it is known that no action is open

pub free-by_test : (name : Who) (w : World) → in_protected w name ≡ false → Free name w
free-by_test name w e = ap (λ (t : Task). guards (natures t.frames)) (one_of-is w name) ∙ sym (any_protected-is (task_of w name).frames) ∙ e

by_guards : (ns : List Nature) (b : Bool) → guards ns ≡ b → (guards ns ≡ true → ⊥) → guards ns ≡ false
by_guards ns false is never = is
by_guards ns true is never = absurd (never is)

-- who is not ready
pub free-asleep : (name : Who) (w : World) → Sound w → is_runnable_state (task_of w name).state ≡ false → Free name w
free-asleep name w h e =
    by_guards (marks_of w.tasks w.agent name) (guards (marks_of w.tasks w.agent name)) refl
    (λ k. false≢true (sym e ∙ ap (λ (t : Task). is_runnable_state t.state) (sym (one_of-is w name)) ∙ (h.5 name).1 k))

waits-asleep : (state : State) (waiting : Waiting) → waiting_in state ≡ Some waiting → is_runnable_state state ≡ false
waits-asleep Made waiting e = refl
waits-asleep Runnable waiting e = absurd cc
waits-asleep (Blocked x) waiting e = refl

pub free-waiting : (name : Who) (waiting : Waiting) (w : World) → Sound w → waiting_of w name ≡ Some waiting → Free name w
free-waiting name waiting w h e = free-asleep name w h (waits-asleep (task_of w name).state waiting e)

-- who is ready
abbrev pub Awake : Who → World → Type 0
Awake name w = is_runnable_state (one_of w.tasks w.agent name).state ≡ true

pub awake-edited : (name n : Who) (f : Task → Task) (w : World) → ((t : Task) → (f t).who ≡ t.who) → ((t : Task) → (f t).state ≡ t.state) → Awake name w
    → Awake name (edit_task n f w)
awake-edited name n f w named state h = edited (λ t. is_runnable_state t.state ≡ true) name n f w named (λ same t g. ap is_runnable_state (state t) ∙ g) h

-- who has such a mark on top
low-top : (f : Frame) (ns fs : List Nature) → (nature f.mark).action ≡ None → guards fs ≡ false → ns ≡ nature f.mark ∷ fs → guards ns ≡ false
low-top f ns fs none low e = ap guards e ∙ guards-plain (nature f.mark) fs none ∙ low

top-frames : (fs : List Frame) (f : Frame) → first_of fs ≡ Some f → (rest : List Frame) × (fs ≡ f ∷ rest)
top-frames [] f e = absurd cc
top-frames (g ∷ gs) f e = let same : g ≡ f = cc in (gs, ap (λ x. x ∷ gs) same)

module _ (name : Who) (f : Frame) (w : World) (h : Sound w) (top : top_of w name ≡ Some f) (plain : is_protected f.mark ≡ false) where
  abbrev parts : (rest : List Frame) × ((task_of w name).frames ≡ f ∷ rest)
  parts = top-frames (task_of w name).frames f top

  marks-here : marks_of w.tasks w.agent name ≡ nature f.mark ∷ natures parts.0
  marks-here = ap (λ (t : Task). natures t.frames) (one_of-is w name) ∙ ap natures parts.1

  pub free-floor : (nature f.mark).floor ≡ true → Free name w
  free-floor floor =
      let sound : MarksSound w.drawn w.calls name (nature f.mark ∷ natures parts.0) = subst (MarksSound w.drawn w.calls name) marks-here (h.5 name).0 in
      low-top f (marks_of w.tasks w.agent name) (natures parts.0) (no_action f.mark plain) (sound.0.0 floor) marks-here

  pub free-region : (r : RegionNo) → (nature f.mark).region ≡ Some r → has_dependents w r ≡ true → Free name w
  free-region r region d =
      let clean = subst (Clean r) marks-here ((h.5 name).3 r d) in
      low-top f (marks_of w.tasks w.agent name) (natures parts.0) (no_action f.mark plain)
      (clean.0 (ap (λ q. is_the same_region q r) region ∙ eq-eqb r.0 r.0 refl)) marks-here

  pub no-action-on_top : first_action (marks_of w.tasks w.agent name) ≡ None
  no-action-on_top = ap first_action marks-here ∙ no_action f.mark plain

-- of nobody

-- ---- a task that is added has the next number and the region of its creator, who goes on first and has no action open

pub add_task-made : (F : Naming) (name : Who) (onward : Option StatementNo) (t : Task) (w : World) → Good F w → Free name w
    → t.who ≡ who.Task (record { 0 = w.drawn.tasks }) → t.frames ≡ [] → t.master ≡ Some (top_region w name) → Good F (add_task t (gone_on name onward w))
add_task-made F name onward t w good free named none master =
    let f = λ (u : Task). with_frames (edit_first (goes_on onward) u.frames) u in
    let framed : (u : Task) → natures (f u).frames ≡ natures u.frames = λ u. first-natures (goes_on onward) u.frames (λ x. refl) in
    let gone = same-good F name f w (λ u. refl) (λ u. refl) framed (λ u. refl) (λ u. refl) good in
    let clean = top-clean w name good.0 free in
    let same = same-marks F name f w (λ u. refl) (λ u. refl) framed in
    add_task-good t (gone_on name onward w) (top_region w name)
    (others-edited (λ d c o. t.who ≡ who.Task (record { 0 = d.tasks })) name f w named) none master F
    (others-edited (λ d c o. (top_region w name).0 ≤ d.regions) name f w clean.0) (λ n. subst (Clean (top_region w name)) (sym (same n)) (clean.1 n)) gone

-- ---- the changes

pub good_moves : (F : Naming) → FineMoves (Good F) F
good_moves F = record {
  edits_task = λ name f w good named framed state master inherited. same-good F name f w named master (λ t. ap natures (framed t)) state inherited good;
  edits_frames =
      λ name f w good same. same-good F name (λ t. with_frames (f t.frames) t) w (λ t. refl) (λ t. refl) (λ t. same t.frames) (λ t. refl) (λ t. refl) good;
  inherits = λ name cause level w good. inherit-good F name cause level w good;
  loses = λ name cause w good other. lose-good F name cause w other good;
  pushes = λ name f w good is. push-good F name f false w is (λ e. absurd (false≢true e)) good;
  opens_abortable = λ name f w good free is. push-good F name f true w is (λ e. free) good;
  opens_scope = λ p name scope b purpose w good free. open_scope-good F p name scope b purpose w free good;
  pops = λ name f w good top plain. pop-good F name w (no-action-on_top name f w good.0 top plain) good;
  readies =
      λ name w good. steady-good F name (with_state Runnable) w (λ t. refl) (λ t. refl) (λ t. refl)
      (λ n same t g k. same-sure w.drawn w.calls w.objects w.tasks n t (with_state Runnable t) refl (λ e r. refl) refl k) good;
  blocks = λ name waiting w good free. steady-good F name (with_state (Blocked waiting)) w (λ t. refl) (λ t. refl) (λ t. refl)
      (λ n same t g k. same-sure w.drawn w.calls w.objects w.tasks n t (with_state (Blocked waiting) t) refl
      (λ e r. absurd
      (false≢true
      (sym (ap (λ (u : Task). guards (natures u.frames)) g ∙ ap (λ i. guards (marks_of w.tasks w.agent i)) (same_who-path n name same) ∙ good.1 name free)
      ∙ e))) refl k) good;
  forgets_task = λ name w good free. forget_task-good F name w free good;
  sets_quantum = λ level ticks w good. good;
  ends_environment = λ leaving w good. good;
  begins_scope = λ p name scope b w good. good;
  edits_cells = λ id f w good. good;
  ends_scope = λ id w good. end_scope-good F id w good;
  edits_call = λ c f w good number caller. edit_call-good F c f w number caller good;
  adds_call = λ c w good. add_call-good F c w good;
  forgets_call = λ c w good. forget_call-good F c w good;
  edits_object = λ o f w good number actions ceiling. edit_object-good F o f w number actions ceiling good;
  adds_object = λ p l u w good. add_object-good F p l u w good;
  appoints = λ due moment w good. good;
  drops_appointment = λ test w good. good;
  releases = λ h argument w good. good;
  has_served = λ w good. good;
  registers = λ n r l w good. good;
  unregisters = λ n w good. good;
  draws_event = λ w good. good;
  adds_timer = λ t w good. good;
  clears_timer = λ k w good. good;
  sets_timer = λ k h value w good. good;
  sets_timers_due = λ timers w good. good;
  adds_budget = λ w good. good;
  edits_budget = λ b f w good. good;
  sets_budget_due = λ budget w good. good;
  sets_port = λ n value w good. good;
  masks = λ n flag w good. good;
  keeps_interrupt = λ n flag w good. good;
  cuts_script = λ rest w good. good;
}
