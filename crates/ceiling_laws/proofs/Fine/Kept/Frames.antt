-- Opening constructs, leaving them, and going on: each step keeps what its parts keep.
use Rattle.ann_base.specs.Results.{◌>>=◌}
use Rattle.ann_base.specs.declared.exceptions.Raised.{Raised}
use Rattle.ann_base.specs.declared.exceptions.Raised.TheVariants as exception
use Rattle.ceiling_laws.proofs.Fine.Kept.Tasks.{edit_task-alters, says-keeps}
use Rattle.ceiling_laws.proofs.Fine.LevelMoves.{Silences}
use Rattle.ceiling_laws.proofs.Fine.SameLemmas.{same_then}
use Rattle.ceiling_laws.proofs.Runs.Triples.{Alters, At, Keeps, Leads, State, branch-keeps, branch-leads, changes-keeps, changes-leads, from-leads}
use Rattle.ceiling_laws.proofs.Runs.Triples.{from_at, looks-keeps, looks-leads, nothing-keeps, then-keeps, then-leads, to-leads, when-keeps}
use Rattle.ceiling_laws.proofs.Fine.Cores.{Same}
use Rattle.profile_machine.specs.Frames.{edit_first, edit_top, exit_loop, given, goes, goes_on, has_room, leaves, left_so, new_frame, onward_of, open_at}
use Rattle.profile_machine.specs.Frames.{open_handled, open_if_ready, open_sequence, pass_on, pop, push, raise_if, raises, stands_in, top_of, with_room}
use Rattle.profile_machine.specs.Operators.{Valued}
use Rattle.profile_image.specs.Program.{form_of, next_of}
use Rattle.profile_machine.specs.Steps.{Step, changes, ◌▷◌}
use Rattle.profile_machine.specs.Tasks.{edit_task, is_runnable, task_of, with_frames}
use Rattle.profile_image.specs.declared.image.Image.{Image}
use Rattle.profile_image.specs.declared.numbers.StatementNo.{StatementNo}
use Rattle.profile_machine.specs.declared.run_data.Leaving.{Leaving}
use Rattle.profile_machine.specs.declared.run_data.Leaving.TheVariants as how
use Rattle.profile_image.specs.declared.statements.StatementForm.{StatementForm}
use Rattle.profile_image.specs.declared.statements.StatementForm.TheVariants as form
use Rattle.profile_machine.specs.declared.world.World.{World}
use Rattle.profile_machine.specs.declared.world.lines.Part.{Part}
use Rattle.profile_machine.specs.declared.world.lines.Part.TheVariants.{Own}
use Rattle.profile_machine.specs.declared.world.lines.Said.{Said}
use Rattle.profile_machine.specs.declared.world.marks.Frame.{Frame}
use Rattle.profile_machine.specs.declared.world.marks.Mark.TheVariants.{Handled}
use Rattle.std.proofs.Common.{refl, subst, sym}
use Rattle.std.specs.Prelude.{Bool, Err, List, None, Ok, Option, Result, Some, false, true, ℕ, ◌∷◌}
use Rattle.trace_text.specs.declared.events.Who.{Who}
use Rattle.world_tables.specs.Lists.{rest_of}

-- a value is a world that has the levels and objects of this one
unfoldable pub Gives : World → Valued World → Type 0
Gives w (Ok next) = Same w next
Gives w (Err e) = Unit {0}

module _ {X : State} (quiet : Silences X) where
  pub edit_frames-alters : (name : Who) (f : List Frame → List Frame) → Alters X (edit_task name (λ t. with_frames (f t.frames) t))
  edit_frames-alters name f = edit_task-alters quiet name (λ t. with_frames (f t.frames) t) (λ t. refl)

  pub edit_top-alters : (name : Who) (f : Frame → Frame) → Alters X (edit_top name f)
  edit_top-alters name f = edit_frames-alters name (edit_first f)

  pub push-alters : (name : Who) (f : Frame) → Alters X (push name f)
  push-alters name f = edit_frames-alters name (λ fs. f ∷ fs)

  pub pop-alters : (name : Who) → Alters X (pop name)
  pop-alters name = edit_frames-alters name rest_of

  pub goes-keeps : (name : Who) (onward : Option StatementNo) → Keeps X (goes name onward)
  unfolding goes
  goes-keeps name onward = changes-keeps (edit_top name (goes_on onward)) (edit_top-alters name (goes_on onward))

  pub leaves-keeps : (name : Who) (leaving : Leaving) → Keeps X (leaves name leaving)
  unfolding leaves
  leaves-keeps name leaving = changes-keeps (edit_top name (left_so leaving)) (edit_top-alters name (left_so leaving))

  pub raises-keeps : (part : Part) (name : Who) (e : Raised) → Keeps X (raises part name e)
  unfolding raises
  raises-keeps part name e = search (says-keeps, then-keeps, leaves-keeps)

  pub exit_loop-keeps : (p : Image) (name : Who) (loop : StatementNo) → Keeps X (exit_loop p name loop)
  unfolding exit_loop
  exit_loop-keeps p name loop =
      looks-keeps _
      (λ w. branch-keeps (stands_in p loop (top_of w name)) (goes name (next_of p loop)) (leaves name (how.Exit loop)) (goes-keeps name (next_of p loop))
      (leaves-keeps name (how.Exit loop)))

  pub pass_on-keeps : (p : Image) (name : Who) (leaving : Leaving) → Keeps X (pass_on p name leaving)
  unfolding pass_on
  pass_on-keeps p name how.End = nothing-keeps
  pass_on-keeps p name how.Return = leaves-keeps name how.Return
  pass_on-keeps p name (how.Exit loop) = exit_loop-keeps p name loop
  pass_on-keeps p name (how.Exception e) = leaves-keeps name (how.Exception e)
  pass_on-keeps p name how.Abort = leaves-keeps name how.Abort
  pass_on-keeps p name how.Terminate = leaves-keeps name how.Terminate

  -- ---- sequences with handlers

  pub open_handled-keeps : (p : Image) (part : Part) (name : Who) (s : StatementNo) (form : StatementForm) → Keeps X (open_handled p part name s form)
  unfolding open_handled
  open_handled-keeps p part name s (form.Handled handlers first) =
      looks-keeps _
      (λ w. branch-keeps (has_room w name 1 0) (goes name (next_of p s) ▷ changes (push name (new_frame (Handled s) (Some first))))
      (raises part name exception.Storage)
      (then-keeps _ _ (goes-keeps name (next_of p s)) (changes-keeps _ (push-alters name (new_frame (Handled s) (Some first)))))
      (raises-keeps part name exception.Storage))
  open_handled-keeps p part name s _ = nothing-keeps

  pub open_at-keeps : (p : Image) (part : Part) (name : Who) (next : Option StatementNo) → Keeps X (open_at p part name next)
  unfolding open_at
  open_at-keeps p part name None = nothing-keeps
  open_at-keeps p part name (Some s) = open_handled-keeps p part name s (form_of p s)

  pub open_sequence-keeps : (p : Image) (part : Part) (name : Who) → Keeps X (open_sequence p part name)
  unfolding open_sequence
  open_sequence-keeps p part name = looks-keeps _ (λ w. open_at-keeps p part name (onward_of w name))

  pub open_if_ready-keeps : (p : Image) (name : Who) → Keeps X (open_if_ready p name)
  unfolding open_if_ready
  open_if_ready-keeps p name = looks-keeps _ (λ w. when-keeps (is_runnable (task_of w name)) _ (open_sequence-keeps p Own name))

  -- ---- steps that may raise

  pub given-keeps : {A : Type 0} (part : Part) (name : Who) (result : Result A Raised) (f : A → Step) → ((x : A) → Keeps X (f x))
      → Keeps X (given part name result f)
  given-keeps part name (Ok x) f k = k x
  given-keeps part name (Err e) f k = raises-keeps part name e

  pub raise_if-keeps : (name : Who) (test : Bool) (e : Raised) (step : Step) → Keeps X step → Keeps X (raise_if name test e step)
  raise_if-keeps name true e step kept = raises-keeps Own name e
  raise_if-keeps name false e step kept = kept

  pub with_room-keeps : (name : Who) (marks cells : ℕ) (step : Step) → Keeps X step → Keeps X (with_room name marks cells step)
  with_room-keeps name marks cells step kept =
      looks-keeps _ (λ w. branch-keeps (has_room w name marks cells) step (raises Own name exception.Storage) kept (raises-keeps Own name exception.Storage))

  -- the world that a value gives becomes the world
  pub given_world-keeps : (part : Part) (name : Who) (v : World) (result : Valued World) (f : World → Step) → Gives v result
      → ((next : World) → Keeps X (f next)) → Leads (At X v) X (given part name result (λ next. changes (λ _. next) ▷ f next))
  unfolding Gives
  given_world-keeps part name v (Ok next) f a k =
      then-leads (changes (λ _. next)) (f next) (changes-leads (λ _. next) (λ w said h. quiet.silently w next said (subst (λ u. Same u next) (sym h.1) a) h.0))
      (k next)
  given_world-keeps part name v (Err e) f a k = from_at (raises part name e) (raises-keeps part name e)

  pub becomes-keeps : (part : Part) (name : Who) (v : World) (result : Valued World) → Gives v result
      → Leads (At X v) X (given part name result (λ next. changes (λ _. next)))
  unfolding Gives
  becomes-keeps part name v (Ok next) a = changes-leads (λ _. next) (λ w said h. quiet.silently w next said (subst (λ u. Same u next) (sym h.1) a) h.0)
  becomes-keeps part name v (Err e) a = from_at (raises part name e) (raises-keeps part name e)

  -- the same of a value in one world
  pub given-leads_at : {A : Type 0} (part : Part) (name : Who) (v : World) (result : Result A Raised) (f : A → Step) → ((x : A) → Leads (At X v) X (f x))
      → Leads (At X v) X (given part name result f)
  given-leads_at part name v (Ok x) f k = k x
  given-leads_at part name v (Err e) f k = from_at (raises part name e) (raises-keeps part name e)

  -- ---- from what is stronger, and to what is weaker

  pub weakly : {Y : State} (weak : (w : World) (said : List Said) → X w said → Y w said) (step : Step) → Keeps X step → Leads X Y step
  weakly weak step a = to-leads step a weak

  module _ {Y Z : State} (narrow : (w : World) (said : List Said) → Z w said → X w said) (weak : (w : World) (said : List Said) → X w said → Y w said) where
    pub raises-through : (part : Part) (name : Who) (e : Raised) → Leads Z Y (raises part name e)
    raises-through part name e = from-leads (raises part name e) narrow (to-leads (raises part name e) (raises-keeps part name e) weak)

    pub given-through : {A : Type 0} (part : Part) (name : Who) (result : Result A Raised) (f : A → Step) → ((x : A) → Leads Z Y (f x))
        → Leads Z Y (given part name result f)
    given-through part name (Ok x) f k = k x
    given-through part name (Err e) f k = raises-through part name e

    pub raise_if-through : (name : Who) (test : Bool) (e : Raised) (step : Step) → Leads Z Y step → Leads Z Y (raise_if name test e step)
    raise_if-through name true e step kept = raises-through Own name e
    raise_if-through name false e step kept = kept

    pub with_room-through : (name : Who) (marks cells : ℕ) (step : Step) → Leads Z Y step → Leads Z Y (with_room name marks cells step)
    with_room-through name marks cells step kept =
        looks-leads _
        (λ w. branch-leads (has_room w name marks cells) step (raises Own name exception.Storage) kept (raises-through Own name exception.Storage))

-- ---- worlds that may be exceptions

pub ok-gives : (w next : World) → Same w next → Gives w (Ok next)
unfolding Gives
ok-gives w next a = a

pub bind-gives : {A : Type 0} (x : Valued A) (f : A → Valued World) (w : World) → ((y : A) → Gives w (f y)) → Gives w (x >>= f)
unfolding Gives
bind-gives (Ok x) f w a = a x
bind-gives (Err e) f w a = tt

gives-on : (x : Valued World) (a b : World) → Same a b → Gives b x → Gives a x
unfolding Gives
gives-on (Ok c) a b h k = same_then a b c h k
gives-on (Err e) a b h k = tt

gives-then : (x : Valued World) (f : World → Valued World) (w : World) → Gives w x → ((v : World) → Gives v (f v)) → Gives w (x >>= f)
unfolding Gives
gives-then (Ok v) f w a b = gives-on (f v) w v a (b v)
gives-then (Err e) f w a b = tt

pub next-gives : (x : Valued World) (f : World → Valued World) (w : World) → Gives w x → ((v : World) → Gives v (f v)) → Gives w (x >>= f)
next-gives x f w a b = gives-then x f w a b
