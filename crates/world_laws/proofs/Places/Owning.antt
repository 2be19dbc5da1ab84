-- The call with which somebody entered a protected object stays its own, whatever a step does.
use Rattle.ann_base.specs.declared.identities.CallNo.{CallNo}
use Rattle.ceiling_laws.proofs.Fine.Cores.{Caller, CallerIn}
use Rattle.ceiling_laws.proofs.Runs.Triples.{Ends, Keeps, Leads, State, With, changes-leads, looks-keeps, nothing-keeps, then-keeps, when-keeps}
use Rattle.world_laws.proofs.Places.Kept.Priorities.{reprioritize_own-keeps, says_deadline-keeps}
use Rattle.ceiling_laws.proofs.Fine.Kept.Tasks.{calls_in}
use Rattle.ceiling_laws.proofs.Fine.LevelMoves.{BaseMoves, Silences}
use Rattle.profile_machine.specs.Dispatching.{grant_quantum, granted, keep_level, level_kept_by, ready, says_ready, to_head, to_tail}
use Rattle.profile_machine.specs.Frames.{in_protected}
use Rattle.profile_machine.specs.Inheritance.{falls, inherit, lose, lose_running, same_cause}
use Rattle.profile_machine.specs.Priorities.{is_runnable_at_edf, replace_in, says_base, says_deadline}
use Rattle.profile_machine.specs.Priorities.{set_base, set_deadline, set_deferred, take_base, take_deadline}
use Rattle.profile_image.specs.Program.{edf_low}
use Rattle.profile_machine.specs.Steps.{Done, Step, changes, done, says}
use Rattle.profile_machine.specs.Tasks.{edit_task, edit_task_found, task_at, task_of, with_state}
use Rattle.profile_image.specs.Words.{without}
use Rattle.profile_image.specs.declared.image.Image.{Image}
use Rattle.profile_machine.specs.declared.world.World.{World}
use Rattle.profile_machine.specs.declared.world.lines.Line.{Line}
use Rattle.profile_machine.specs.declared.world.lines.Part.{Part}
use Rattle.profile_machine.specs.declared.world.lines.Part.TheVariants.{ThePlacing}
use Rattle.profile_machine.specs.declared.world.tasks.Cause.{Cause}
use Rattle.profile_machine.specs.declared.world.tasks.State as tasks
use Rattle.profile_machine.specs.declared.world.tasks.State.TheVariants.{Blocked, Made, Runnable}
use Rattle.profile_machine.specs.declared.world.tasks.Task.{Task}
use Rattle.std.proofs.Common.{refl, subst, sym, ◌∷◌, ◌≡◌}
use Rattle.std.specs.Prelude.{None, Option, Some, not, ℕ, ℤ}
use Rattle.trace_text.specs.declared.events.QueueEnd.{QueueEnd}
use Rattle.trace_text.specs.declared.events.Who.{Who}
use Rattle.trace_text.specs.declared.events.Who.TheVariants as who
use Rattle.ceiling_laws.proofs.Runs.LevelMoves.{Fitting, Sleeping}

-- ---- who is edited makes no calls

calls_found : (name : Who) (f : Task → Task) (w : World) (found : Option Task) → calls_in (edit_task_found name f w found) ≡ calls_in w
calls_found name f w None = refl
calls_found (who.Task n) f w (Some t) = refl
calls_found who.Agent f w (Some t) = refl

pub edit-calls : (name : Who) (f : Task → Task) (w : World) → calls_in (edit_task name f w) ≡ calls_in w
edit-calls name f w = calls_found name f w (task_at w name)

both-ends : (X : State) (P : World → Type 0) (d : Done) → Ends X d → Ends (λ w said. P w) d → Ends (With X P) d
unfolding Ends
both-ends X P (done w said) a b = (a, b)

module _ (call : Option CallNo) (name : Who) where
  -- who has this name made the call, if it is one and still there
  abbrev pub OwnCall : World → Type 0
  OwnCall w = (c : CallNo) → call ≡ Some c → Caller c name w

  abbrev pub Calling : State
  Calling w said = OwnCall w

  -- what leads on from one to another, and leaves calls to their callers
  pub owning : {X Y : State} (f : Step) → Leads X Y f → Keeps Calling f → Leads (With X OwnCall) (With Y OwnCall) f
  owning {X} {Y} f a b = record { runs = λ w said h. both-ends Y OwnCall (f w said) (a.runs w said h.0) (b.runs w said h.1) }

  own-on : (a b : World) → calls_in b ≡ calls_in a → OwnCall a → OwnCall b
  own-on a b same h c e = subst (λ q. CallerIn q.0 q.1 c name) (sym same) (h c e)

  pub calling_quiet : Silences Calling
  calling_quiet = record {
    silently = λ a b said same h c e. same.callers c name (h c e);
    says = λ part line w said other h. h;
    ends_scope = λ id w said h. h;
  }

  calling_edits : (someone : Who) (f : World → Task → Task) → Keeps Calling (changes (λ w. edit_task someone (f w) w))
  calling_edits someone f = changes-leads (λ w. edit_task someone (f w) w) (λ w said h. own-on w (edit_task someone (f w) w) (edit-calls someone (f w) w) h)

  pub calling_says : (part : Part) (line : Line) → Keeps Calling (says part line)
  unfolding Ends
  calling_says part line = record { runs = λ w said h. h }

  calling_shows : (p : Image) (part : Part) (someone : Who) (end : QueueEnd) → Keeps Calling (says_ready p part someone end)
  unfolding says_ready
  calling_shows p part someone end = looks-keeps _ (λ w. calling_says part _)

  calling_tails : (p : Image) (part : Part) (someone : Who) → Keeps Calling (to_tail p part someone)
  unfolding to_tail
  calling_tails p part someone =
      then-keeps (changes (grant_quantum p someone)) _ (calling_edits someone (λ w. granted p w.quanta)) (calling_shows p part someone _)

  calling_heads : (p : Image) (part : Part) (someone : Who) → Keeps Calling (to_head p part someone)
  unfolding to_head
  calling_heads p part someone = calling_shows p part someone _

  pub calling_readies : (p : Image) (part : Part) (someone : Who) → Keeps Calling (ready p part someone)
  unfolding ready
  calling_readies p part someone =
      then-keeps (changes (edit_task someone (with_state Runnable))) _ (calling_edits someone (λ w. with_state Runnable))
      (then-keeps (changes (keep_level p someone)) _ (calling_edits someone (λ w t. record t { kept_level = level_kept_by p w t (edf_low p t.base) }))
      (calling_tails p part someone))

  pub calling_loses : (p : Image) (someone : Who) (cause : Cause) → Keeps Calling (lose_running p someone cause)
  unfolding lose_running
  calling_loses p someone cause =
      looks-keeps _
      (λ w. then-keeps (changes (lose someone cause)) _
      (calling_edits someone (λ v t. record t { inherited = without (λ i. same_cause cause i.cause) t.inherited }))
      (when-keeps (falls p someone w (lose someone cause w)) _ (calling_heads p ThePlacing someone)))

  -- ---- what was deferred is set

  calling_base_says : (part : Part) (someone : Who) (level : ℕ) → Keeps Calling (says_base part someone level)
  unfolding says_base
  calling_base_says part (who.Task t) level = calling_says part _
  calling_base_says part who.Agent level = nothing-keeps

  calling_replaces : (p : Image) (placing : Part) (someone : Who) (state : tasks.State) → Keeps Calling (replace_in p placing someone state)
  unfolding replace_in
  calling_replaces p placing someone Made = nothing-keeps
  calling_replaces p placing someone Runnable = calling_tails p placing someone
  calling_replaces p placing someone (Blocked waiting) = reprioritize_own-keeps calling_quiet p someone waiting

  calling_base_set : (p : Image) (part placing : Part) (someone : Who) (level : ℕ) → Keeps Calling (set_base p part placing someone level)
  unfolding set_base
  calling_base_set p part placing someone level =
      then-keeps (changes (edit_task someone (λ t. record t { base = level }))) _ (calling_edits someone (λ w t. record t { base = level }))
      (then-keeps (says_base part someone level) _ (calling_base_says part someone level)
      (looks-keeps _ (λ w. calling_replaces p placing someone (task_of w someone).state)))

  calling_deadline_set : (p : Image) (part placing : Part) (someone : Who) (deadline : ℤ) → Keeps Calling (set_deadline p part placing someone deadline)
  unfolding set_deadline
  calling_deadline_set p part placing someone deadline =
      then-keeps (changes (edit_task someone (λ t. record t { deadline = deadline }))) _ (calling_edits someone (λ w t. record t { deadline = deadline }))
      (then-keeps (says_deadline part someone deadline) _ (says_deadline-keeps calling_quiet part someone deadline)
      (looks-keeps _ (λ w. when-keeps (is_runnable_at_edf p w someone (task_of w someone).state) _ (calling_tails p placing someone))))

  calling_base_taken : (p : Image) (someone : Who) (deferred : Option ℕ) → Keeps Calling (take_base p someone deferred)
  unfolding take_base
  calling_base_taken p someone None = nothing-keeps
  calling_base_taken p someone (Some level) =
      then-keeps (changes (edit_task someone (λ t. record t { deferred_base = None }))) _ (calling_edits someone (λ w t. record t { deferred_base = None }))
      (calling_base_set p ThePlacing ThePlacing someone level)

  calling_deadline_taken : (p : Image) (someone : Who) (deferred : Option ℤ) → Keeps Calling (take_deadline p someone deferred)
  unfolding take_deadline
  calling_deadline_taken p someone None = nothing-keeps
  calling_deadline_taken p someone (Some deadline) =
      then-keeps (changes (edit_task someone (λ t. record t { deferred_deadline = None }))) _
      (calling_edits someone (λ w t. record t { deferred_deadline = None })) (calling_deadline_set p ThePlacing ThePlacing someone deadline)

  pub calling_deferred : (p : Image) (someone : Who) → Keeps Calling (set_deferred p someone)
  unfolding set_deferred
  calling_deferred p someone =
      looks-keeps _
      (λ w. when-keeps (not (in_protected w someone)) _
      (then-keeps (take_base p someone (task_of w someone).deferred_base) _ (calling_base_taken p someone (task_of w someone).deferred_base)
      (calling_deadline_taken p someone (task_of w someone).deferred_deadline)))

  -- ---- by who wakes

  pub own_quiet : {X : State} → Silences X → Silences (With X OwnCall)
  own_quiet quiet = record {
    silently = λ a b said same h. (quiet.silently a b said same h.0, λ c e. same.callers c name (h.1 c e));
    says = λ part line w said other h. (quiet.says part line w said other h.0, h.1);
    ends_scope = λ id w said h. (quiet.ends_scope id w said h.0, h.1);
  }

  pub own_moves : {p : Image} {Fits : Fitting} {Sleeps : Sleeping} {X : State} → BaseMoves p Fits Sleeps X → BaseMoves p Fits Sleeps (With X OwnCall)
  own_moves {p} {Fits} {Sleeps} {X} moves = record {
    quiet = own_quiet moves.quiet;
    inherits = λ heir cause level w said other sleeps h. (
      moves.inherits heir cause level w said other sleeps h.0,
      own-on w (inherit heir cause level w) (edit-calls heir (λ t. record t { inherited = record { cause = cause; level = level } ∷ t.inherited }) w) h.1,
    );
    sleeps = moves.sleeps;
    sleeps_on = moves.sleeps_on;
    sleeps_behind = moves.sleeps_behind;
    sleeps_heir = moves.sleeps_heir;
    wakes = λ part someone fits. record {
      runs = λ w said h. (owning (ready p part someone) (moves.wakes part someone fits) (calling_readies p part someone)).runs w said ((h.0.0, h.1), h.0.1);
    };
  }
