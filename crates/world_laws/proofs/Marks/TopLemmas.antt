-- The marks and the state of somebody behind an edit of the same one.
use Rattle.std.proofs.Common.{◌≡◌, ◌&&◌, eqb, List, [], ◌∷◌, Some, None, refl, sym, ap, subst, ◌∙◌}
use Rattle.std.proofs.lemmas.Bool.{false≢true}
use Rattle.std.specs.Prelude.{slice_index_or, option_map}
use Rattle.trace_text.specs.declared.events.Who.{Who}
use Rattle.trace_text.specs.declared.events.Who.TheVariants as who
use Rattle.profile_image.specs.declared.image.Image.{Image}
use Rattle.profile_machine.specs.declared.world.World.{World}
use Rattle.profile_machine.specs.declared.world.marks.Frame.{Frame}
use Rattle.profile_machine.specs.declared.world.tasks.Task.{Task}
use Rattle.profile_machine.specs.declared.world.tasks.State.TheVariants.{Runnable}
use Rattle.profile_image.specs.Words.{same_who}
use Rattle.world_tables.specs.Lists.{first_of}
use Rattle.profile_image.specs.Program.{is_robin_level, edf_low}
use Rattle.profile_machine.specs.Tasks.{nobody, is_made_state, task_of, edit_task, with_state, with_frames}
use Rattle.profile_machine.specs.Dispatching.{active, level_kept_by, keep_level, granted}
use Rattle.profile_machine.specs.Frames.{frames_of, top_of, edit_first, edit_top, push}
use Rattle.line_laws.proofs.Exits.TaskEdits.{one_of-is, edited_to}
use Rattle.line_laws.proofs.Exits.Steady.{FreeIn}
use Rattle.line_laws.proofs.Leaving.FineMoves.{ready_world}
use Rattle.line_laws.proofs.Leaving.WakingRuns.{same_self}
use Rattle.machine_laws.proofs.Kept.Dispatching.{full_quantum-who, full_quantum-frames, full_quantum-state}
use Rattle.world_laws.proofs.Marks.MarkFacts.{Calm, HasBegun, Begun}

-- from P of somebody before to R of the same one behind
pub at_same : (P R : Task → Type 0) (name : Who) (f : Task → Task) (w : World) → ((t : Task) → (f t).who ≡ t.who) → ((t : Task) → P t → R (f t))
    → (P nobody → R nobody) → P (task_of w name) → R (task_of (edit_task name f w) name)
at_same P R name f w named edit blank h =
    let v = edit_task name f w in
    subst R (one_of-is v name)
    (edited_to P R name name f w named (λ same t g. edit t g) (λ apart. absurd (false≢true (sym apart ∙ same_self name))) blank
    (subst P (sym (one_of-is w name)) h))

-- ---- marks

first-edited : (f : Frame → Frame) (x : Frame) (fs : List Frame) → first_of fs ≡ Some x → first_of (edit_first f fs) ≡ Some (f x)
first-edited f x [] e = cc
first-edited f x (y ∷ ys) e = ap (option_map f) e

none-first : (f : Frame → Frame) (x : Frame) → None ≡ Some x → None ≡ Some (f x)
none-first f x e = cc

pub top_edited : (name : Who) (f : Frame → Frame) (x : Frame) (w : World) → top_of w name ≡ Some x → top_of (edit_top name f w) name ≡ Some (f x)
top_edited name f x w e =
    at_same (λ t. first_of t.frames ≡ Some x) (λ t. first_of t.frames ≡ Some (f x)) name (λ t. with_frames (edit_first f t.frames) t) w (λ t. refl)
    (λ t h. first-edited f x t.frames h) (λ h. none-first f x h) e

pub frames_same : (name : Who) (f : Task → Task) (w : World) → ((t : Task) → (f t).who ≡ t.who) → ((t : Task) → (f t).frames ≡ t.frames)
    → frames_of (edit_task name f w) name ≡ frames_of w name
frames_same name f w named same =
    at_same (λ t. t.frames ≡ frames_of w name) (λ t. t.frames ≡ frames_of w name) name f w named (λ t h. same t ∙ h) (λ h. h) refl

nothing_first : {P : Type 0} (fs : List Frame) (g : Frame) → [] ≡ fs → first_of fs ≡ Some g → P
nothing_first fs g e h = absurd (let none : None ≡ Some g = ap first_of e ∙ h in cc)

-- who has a mark is there, so a mark that is opened stands above it
pub frames_pushed : (name : Who) (f g : Frame) (w : World) → top_of w name ≡ Some g → frames_of (push name f w) name ≡ f ∷ frames_of w name
frames_pushed name f g w top =
    at_same (λ t. t.frames ≡ frames_of w name) (λ t. t.frames ≡ f ∷ frames_of w name) name (λ t. with_frames (f ∷ t.frames) t) w (λ t. refl)
    (λ t h. ap (λ fs. f ∷ fs) h) (λ h. nothing_first (frames_of w name) g h top) refl

-- ---- states

pub free-runnable : (name : Who) → FreeIn name Runnable
free-runnable (who.Task n) = refl
free-runnable who.Agent = tt

pub free-nobody : (name : Who) → FreeIn name nobody.state
free-nobody (who.Task n) = refl
free-nobody who.Agent = tt

pub calm_edited : (name : Who) (f : Task → Task) (w : World) → ((t : Task) → (f t).who ≡ t.who) → ((t : Task) → (f t).state ≡ t.state) → Calm name w
    → Calm name (edit_task name f w)
calm_edited name f w named same h =
    at_same (λ t. FreeIn name t.state) (λ t. FreeIn name t.state) name f w named (λ t g. subst (FreeIn name) (sym (same t)) g) (λ g. g) h

-- who is there has begun, as before
pub begun_edited : (name : Who) (f : Task → Task) (w : World) → ((t : Task) → (f t).who ≡ t.who) → ((t : Task) → (f t).state ≡ t.state) → Begun name w
    → Begun name (edit_task name f w)
begun_edited name f w named same h =
    at_same (HasBegun name) (HasBegun name) name f w named (λ t g is. ap is_made_state (same t) ∙ g (sym (ap (same_who name) (named t)) ∙ is)) (λ g. g) h

pub calm_runnable : (name : Who) (w : World) → Calm name (edit_task name (with_state Runnable) w)
calm_runnable name w =
    at_same (λ t. Unit {0}) (λ t. FreeIn name t.state) name (with_state Runnable) w (λ t. refl) (λ t u. free-runnable name) (λ u. free-nobody name) tt

-- ---- who has become ready

module _ (p : Image) (name : Who) (w : World) where
  granted-who : (v : World) (t : Task) → (granted p v.quanta t).who ≡ t.who
  granted-who v t = full_quantum-who (eqb (active p t) t.base && is_robin_level p t.base) (slice_index_or v.quanta t.base 0) t

  granted-frames : (v : World) (t : Task) → (granted p v.quanta t).frames ≡ t.frames
  granted-frames v t = full_quantum-frames (eqb (active p t) t.base && is_robin_level p t.base) (slice_index_or v.quanta t.base 0) t

  granted-state : (v : World) (t : Task) → (granted p v.quanta t).state ≡ t.state
  granted-state v t = full_quantum-state (eqb (active p t) t.base && is_robin_level p t.base) (slice_index_or v.quanta t.base 0) t

  abbrev runnable : World
  runnable = edit_task name (with_state Runnable) w

  abbrev kept : World
  kept = keep_level p name runnable

  pub ready-frames : frames_of (ready_world p name w) name ≡ frames_of w name
  ready-frames =
      frames_same name (granted p kept.quanta) kept (λ t. granted-who kept t) (λ t. granted-frames kept t)
      ∙ frames_same name (λ t. record t { kept_level = level_kept_by p runnable t (edf_low p t.base) }) runnable (λ t. refl) (λ t. refl)
      ∙ frames_same name (with_state Runnable) w (λ t. refl) (λ t. refl)

  pub ready-calm : Calm name (ready_world p name w)
  ready-calm =
      calm_edited name (granted p kept.quanta) kept (λ t. granted-who kept t) (λ t. granted-state kept t)
      (calm_edited name (λ t. record t { kept_level = level_kept_by p runnable t (edf_low p t.base) }) runnable (λ t. refl) (λ t. refl) (calm_runnable name w))
