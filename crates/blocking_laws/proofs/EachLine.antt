-- What is known of each line that an effect says all its steps keep, whatever they change: once for laws that ask something of lines
-- alone.
use Rattle.ann_base.specs.declared.identities.ObjectNo.{ObjectNo}
use Rattle.ann_base.specs.declared.identities.TaskNo.{TaskNo}
use Rattle.ceiling_laws.proofs.Fine.Kept.Frames.{goes-keeps, open_sequence-keeps}
use Rattle.ceiling_laws.proofs.Runs.BegunLines.{Each, each-append}
use Rattle.ceiling_laws.proofs.Runs.Finer.{fine}
use Rattle.ceiling_laws.proofs.Runs.FreeMoves.{EveryPart, FreeBase, FreeMoves, LatePart, any_task, any_world, anywhere}
use Rattle.ceiling_laws.proofs.Runs.FreeMoves.{late_base, ready_by_line, replace_in-free}
use Rattle.ceiling_laws.proofs.Runs.Kept.Instant.{OtherMoves}
use Rattle.ceiling_laws.proofs.Runs.LevelMoves.{Silences, is_apart, said_so}
use Rattle.ceiling_laws.proofs.Runs.Triples.{Alters, Ends, Keeps, Leads, State, With, changes-keeps, for_some-keeps}
use Rattle.ceiling_laws.proofs.Runs.Triples.{from-leads, from_at, looks-keeps, nothing-keeps, then-keeps, to-leads}
use Rattle.profile_machine.specs.Declarations.{says_object, set_thing, with_object}
use Rattle.profile_machine.specs.Dispatching.{grant_quantum, keep_level, ready, says_ready, to_tail}
use Rattle.profile_machine.specs.Inheritance.{inherit}
use Rattle.profile_machine.specs.Masters.{part_of}
use Rattle.profile_machine.specs.Priorities.{says_base, set_base}
use Rattle.profile_machine.specs.Run.{environment, opens}
use Rattle.profile_machine.specs.Scopes.{open_scope, plainly}
use Rattle.profile_machine.specs.Steps.{changes, says, ◌▷◌}
use Rattle.profile_machine.specs.Tasking.{add_task, create_task, says_created}
use Rattle.profile_machine.specs.Tasks.{edit_task, task_of, with_state}
use Rattle.profile_image.specs.Program.{next_of, protected_unit_of}
use Rattle.profile_image.specs.declared.image.Image.{Image}
use Rattle.profile_image.specs.declared.numbers.DeclNo.{DeclNo}
use Rattle.profile_image.specs.declared.numbers.ProtectedUnitNo.{ProtectedUnitNo}
use Rattle.profile_image.specs.declared.numbers.StatementNo.{StatementNo}
use Rattle.profile_image.specs.declared.values.Value.TheVariants as value_of
use Rattle.profile_machine.specs.declared.world.World.{World}
use Rattle.profile_machine.specs.declared.world.lines.Line.{Line}
use Rattle.profile_machine.specs.declared.world.lines.Line.TheVariants as line
use Rattle.profile_machine.specs.declared.world.lines.Part.{Part}
use Rattle.profile_machine.specs.declared.world.lines.Part.TheVariants.{Own, TheBlock, ThePlacing}
use Rattle.profile_machine.specs.declared.world.lines.Said.{Said}
use Rattle.profile_machine.specs.declared.world.marks.Purpose.TheVariants as opened_for
use Rattle.profile_machine.specs.declared.world.scopes.Located.{Located}
use Rattle.profile_machine.specs.declared.world.scopes.ScopeId.{ScopeId}
use Rattle.profile_machine.specs.declared.world.tasks.State.TheVariants.{Runnable}
use Rattle.profile_machine.specs.declared.world.tasks.Task.{Task}
use Rattle.std.proofs.Common.{inr, ◌≡◌}
use Rattle.std.specs.Prelude.{None, Option, Some, false, ℕ, ℤ, ◌-◌}
use Rattle.trace_text.specs.declared.events.Created.TheVariants as created
use Rattle.trace_text.specs.declared.events.Mode.{Mode}
use Rattle.trace_text.specs.declared.events.QueueEnd.{QueueEnd}
use Rattle.trace_text.specs.declared.events.Waits.{Waits}
use Rattle.trace_text.specs.declared.events.Who.{Who}
use Rattle.trace_text.specs.declared.events.Who.TheVariants as who

module _ (Is : Said → Type 0) where
  unfoldable pub EachSaid : State
  EachSaid w said = Each Is said

  -- what is said beside an effect, and when a run is opened
  pub record OfOthers : Type 0 where
    pub quiet : (part : Part) (x : Line) → is_apart x ≡ false → Is (said_so part x)
    pub readies : (part : Part) (name : Who) (level : ℕ) (end : QueueEnd) (deadline : Option ℤ) → Is (said_so part (line.Ready name level end deadline))
    pub creates : (t : TaskNo) (declared : Option DeclNo) (level : ℕ) → Is (said_so Own (line.New (created.Task t) declared level))

  -- what is said in an effect besides, but that somebody comes to an object
  pub record OfEffects : Type 0 where
    pub others : OfOthers
    pub blocks : (name : Who) (waits : Waits) → Is (said_so TheBlock (line.Block name waits))
    pub ends : (part : Part) (t : TaskNo) → Is (said_so part (line.Done t))
    pub exits : (name : Who) (o : ObjectNo) → Is (said_so Own (line.Exit name o))
    pub bases : (part : Part) (t : TaskNo) (level : ℕ) → Is (said_so part (line.Base t level))
    pub makes : (o : ObjectNo) (declared : Option DeclNo) (level : ℕ) → Is (said_so Own (line.New (created.Object o) declared level))

  pub each_alters : (f : World → World) → Alters EachSaid f
  unfolding EachSaid
  each_alters f = record { turns = λ w said h. h }

  pub each_says : (part : Part) (x : Line) → Is (said_so part x) → Keeps EachSaid (says part x)
  unfolding EachSaid Ends
  each_says part x is = record { runs = λ w said h. each-append Is said (said_so part x) h is }

  module _ (of : OfOthers) where
    pub each_quiet : Silences EachSaid
    unfolding EachSaid
    each_quiet = record {
      silently = λ a b said same h. h;
      says = λ part x w said other h. each-append Is said (said_so part x) h (of.quiet part x other);
      ends_scope = λ id w said h. h;
    }

    each_readies : (p : Image) (part : Part) (name : Who) (end : QueueEnd) → Keeps EachSaid (says_ready p part name end)
    each_readies p part name end =
        ready_by_line p part name end (λ level deadline. each_says part (line.Ready name level end deadline) (of.readies part name level end deadline))

    each_tail : (p : Image) (part : Part) (name : Who) → Keeps EachSaid (to_tail p part name)
    unfolding to_tail
    each_tail p part name = then-keeps _ _ (changes-keeps _ (each_alters (grant_quantum p name))) (each_readies p part name _)

    each_ready : (p : Image) (part : Part) (name : Who) → Keeps EachSaid (ready p part name)
    unfolding ready
    each_ready p part name =
        then-keeps _ _ (changes-keeps _ (each_alters (edit_task name (with_state Runnable))))
        (then-keeps _ _ (changes-keeps _ (each_alters (keep_level p name))) (each_tail p part name))

    -- what comes about beside an effect, and the opening
    pub each_others : (p : Image) → OtherMoves p any_world any_task EachSaid
    each_others p = record {
      base = record {
        quiet = each_quiet;
        inherits = λ name cause level w said other h. (each_alters (inherit name cause level)).turns w said h;
        sleeps = λ w name is. tt;
        sleeps_on = λ a b name same s. tt;
        sleeps_behind = λ id w name s. tt;
        sleeps_heir = λ heir cause level w name s. tt;
        wakes = λ part name f. from-leads (ready p part name) (λ w said h. h.0) (each_ready p part name);
      };
      drawn = λ v said t h e. tt;
      drawn_on = λ a b t same k. tt;
      readies = λ t. from-leads (ready p Own (who.Task t)) (λ w said h. h.0) (each_ready p Own (who.Task t));
      tails = λ t. from-leads (to_tail p Own (who.Task t)) (λ w said h. h.0) (each_tail p Own (who.Task t));
    }

    pub each_opens : (p : Image) → Keeps EachSaid (opens p)
    unfolding opens
    each_opens p =
        then-keeps _ _ (changes-keeps _ (each_alters (open_scope p environment p.environment (plainly None) opened_for.Task)))
        (then-keeps _ _ (each_says Own (line.New (created.Task (record { 0 = 0 })) None p.main.priority) (of.creates (record { 0 = 0 }) None p.main.priority))
        (then-keeps _ _ (each_tail p Own environment) (open_sequence-keeps (fine each_quiet) p Own environment)))

    pub each_created : (p : Image) (name : Who) (s : StatementNo) (d : DeclNo) (id : Option ScopeId) (t : Task) → Keeps EachSaid (create_task p name s d id t)
    unfolding create_task says_created
    each_created p name s d id t =
        then-keeps _ _ (goes-keeps (fine each_quiet) name (next_of p s)) (then-keeps _ _ (changes-keeps _ (each_alters (add_task t)))
        (then-keeps _ _
        (for_some-keeps id _
        (λ within. looks-keeps _
        (λ w.
        changes-keeps _ (each_alters (set_thing p (record { within = within; declared = d }) (value_of.Task (Some (record { 0 = w.drawn.tasks - 1 }))))))))
        (looks-keeps _
        (λ w.
        each_says Own (line.New (created.Task (record { 0 = w.drawn.tasks - 1 })) (Some d) t.base)
        (of.creates (record { 0 = w.drawn.tasks - 1 }) (Some d) t.base)))))

  module _ (of : OfEffects) (p : Image) where
    each_base : FreeBase p EveryPart EachSaid
    each_base = record {
      quiet = each_quiet of.others;
      edits = λ name f same_who same_base same_deferred. each_alters (edit_task name f);
      readies = λ part name end fits. each_readies of.others p part name end;
      blocks = λ name waits. each_says TheBlock (line.Block name waits) (of.blocks name waits);
      ends = λ part t fits. each_says part (line.Done t) (of.ends part t);
      exits = λ name o. each_says Own (line.Exit name o) (of.exits name o);
      appoints = λ t moment. each_alters _;
      forgets = λ name. each_alters _;
    }

    each_made : (l : Located) (u : ProtectedUnitNo) → Keeps EachSaid (changes (with_object p l u) ▷ says_object p l u)
    unfolding says_object
    each_made l u =
        then-keeps _ _ (changes-keeps _ (each_alters (with_object p l u)))
        (looks-keeps _
        (λ w.
        each_says Own (line.New (created.Object (record { 0 = w.drawn.objects })) (Some l.declared) (protected_unit_of p u).ceiling)
        (of.makes (record { 0 = w.drawn.objects }) (Some l.declared) (protected_unit_of p u).ceiling)))

    each_taken : (level : ℕ)
        → Keeps EachSaid (changes (edit_task who.Agent (λ u. record u { deferred_base = None })) ▷ set_base p ThePlacing ThePlacing who.Agent level)
    unfolding set_base says_base
    each_taken level =
        then-keeps _ _ (changes-keeps _ (each_alters (edit_task who.Agent (λ u. record u { deferred_base = None }))))
        (then-keeps _ _ (changes-keeps _ (each_alters (edit_task who.Agent (λ u. record u { base = level }))))
        (then-keeps _ _ nothing-keeps (looks-keeps _ (λ w. replace_in-free each_base ThePlacing who.Agent (task_of w who.Agent).state tt))))

    each_bases : (part : Part) (t : TaskNo) (level : ℕ)
        → Keeps EachSaid (changes (edit_task (who.Task t) (λ u. record u { base = level })) ▷ says part (line.Base t level))
    each_bases part t level =
        then-keeps _ _ (changes-keeps _ (each_alters (edit_task (who.Task t) (λ u. record u { base = level }))))
        (each_says part (line.Base t level) (of.bases part t level))

    -- an effect, in which something else is known once who acts comes to an object
    pub each_until : (actor : Who) (J : State) → FreeBase p LatePart J
        → ((o : ObjectNo) (mode : Mode) → Leads (With EachSaid (λ w. anywhere w o)) J (says Own (line.Enter actor o mode)))
        → ((o : ObjectNo) (mode : Mode) → Leads (With EachSaid (λ w. anywhere w o)) J (says Own (line.Held actor o mode)))
        → FreeMoves p actor anywhere EachSaid EachSaid J
    each_until actor J entered enters finds = record {
      fresh = each_quiet of.others;
      appoints_first = λ t moment. each_alters _;
      later = each_base;
      entered = entered;
      starts = λ w said h. h;
      may = λ w o mode e. tt;
      may_held = λ w o mode e. tt;
      may_on = λ a b o same m. tt;
      enters = enters;
      finds_held = λ o mode. to-leads (says Own (line.Held actor o mode)) (finds o mode) (λ w said h. inr h);
      bases_first = λ t level. each_bases (part_of actor (who.Task t)) t level;
      bases = λ t level. each_bases ThePlacing t level;
      defers = λ t deferred. each_alters _;
      takes = λ v level is. from_at _ (each_taken level);
      creates = λ s d id t. from-leads (create_task p actor s d id t) (λ w said h. h.0) (each_created of.others p actor s d id t);
      makes = each_made;
    }

    -- an effect
    pub each_free : (actor : Who) → ((o : ObjectNo) (mode : Mode) → Is (said_so Own (line.Enter actor o mode)))
        → ((o : ObjectNo) (mode : Mode) → Is (said_so Own (line.Held actor o mode))) → FreeMoves p actor anywhere EachSaid EachSaid EachSaid
    each_free actor enters finds =
        each_until actor EachSaid (late_base each_base)
        (λ o mode. from-leads (says Own (line.Enter actor o mode)) (λ w said h. h.0) (each_says Own (line.Enter actor o mode) (enters o mode)))
        (λ o mode. from-leads (says Own (line.Held actor o mode)) (λ w said h. h.0) (each_says Own (line.Held actor o mode) (finds o mode)))

-- nothing is known
pub Whatever : State
Whatever w said = Unit {0}

pub whatever_leads : {X : State} (p : Image) (part : Part) (x : Line) → Leads X Whatever (says part x)
unfolding Whatever Ends
whatever_leads p part x = record { runs = λ w said h. tt }

whatever_alters : (f : World → World) → Alters Whatever f
unfolding Whatever
whatever_alters f = record { turns = λ w said h. tt }

pub whatever_base : (p : Image) → FreeBase p LatePart Whatever
unfolding Whatever
whatever_base p = record {
  quiet = record { silently = λ a b said same h. tt; says = λ part x w said other h. tt; ends_scope = λ id w said h. tt };
  edits = λ name f same_who same_base same_deferred. whatever_alters (edit_task name f);
  readies = λ part name end fits. ready_by_line p part name end (λ level deadline. whatever_leads p part (line.Ready name level end deadline));
  blocks = λ name waits. whatever_leads p TheBlock (line.Block name waits);
  ends = λ part t fits. whatever_leads p part (line.Done t);
  exits = λ name o. whatever_leads p Own (line.Exit name o);
  appoints = λ t moment. whatever_alters _;
  forgets = λ name. whatever_alters _;
}
