-- Changes of tasks and lines that tell nothing of levels: each step keeps what its parts keep.
use Rattle.ann_base.specs.declared.identities.ObjectNo.{ObjectNo}
use Rattle.ann_base.specs.declared.identities.TaskNo.{TaskNo}
use Rattle.ceiling_laws.proofs.Fine.Cores.{CallerIn, Same, core}
use Rattle.ceiling_laws.specs.Cores.{ceiling_in, is_delayed}
use Rattle.ceiling_laws.proofs.Fine.LevelMoves.{Silences}
use Rattle.ceiling_laws.proofs.Fine.SameLemmas.{edit_object-same, edit_task-same}
use Rattle.ceiling_laws.proofs.Runs.Triples.{Alters, Ends, Keeps, State}
use Rattle.profile_machine.specs.Calls.{edit_object}
use Rattle.profile_machine.specs.Notation.{agent}
use Rattle.profile_machine.specs.Steps.{says}
use Rattle.profile_machine.specs.Tasks.{edit_task}
use Rattle.profile_machine.specs.declared.world.World.{World}
use Rattle.profile_machine.specs.declared.world.calls.Call.{Call}
use Rattle.profile_machine.specs.declared.world.lines.Line.{Line}
use Rattle.profile_machine.specs.declared.world.lines.Part.{Part}
use Rattle.profile_machine.specs.declared.world.objects.Object.{Object}
use Rattle.profile_machine.specs.declared.world.tasks.Task.{Task}
use Rattle.std.proofs.Common.{ap, map, subst, sym, ◌≡◌}
use Rattle.std.specs.Prelude.{List, false, true, ℕ}
use Rattle.trace_text.specs.declared.events.Who.{Who}
use Rattle.ceiling_laws.proofs.Runs.LevelMoves.{is_apart}

-- the calls of a world, and the number of the last one
abbrev pub calls_in : World → List Call × ℕ
calls_in w = (w.calls, w.drawn.calls)

-- the numbers of the last task and of the last object
abbrev pub drawn_in : World → ℕ × ℕ
drawn_in w = (w.drawn.tasks, w.drawn.objects)

module _ {X : State} (quiet : Silences X) where
  pub same-alters : (f : World → World) → ((w : World) → Same w (f w)) → Alters X f
  same-alters f same = record { turns = λ w said h. quiet.silently w (f w) said (same w) h }

  -- the change touches none of these lists
  pub plain-alters : (f : World → World) → ((w : World) → (f w).tasks ≡ w.tasks) → ((w : World) → (f w).agent ≡ w.agent)
      → ((w : World) → (f w).objects ≡ w.objects) → ((w : World) → drawn_in (f w) ≡ drawn_in w) → ((w : World) → calls_in (f w) ≡ calls_in w)
      → ((w : World) (t : TaskNo) → is_delayed t (f w) ≡ true → is_delayed t w ≡ true) → Alters X f
  plain-alters f tasks agent objects drawn calls delays =
      same-alters f
      (λ w. record {
        tasks = ap (map core) (tasks w);
        agent = ap core (agent w);
        objects = ap (map ceiling_in) (objects w);
        drawn_tasks = ap (λ d. d.0) (drawn w);
        drawn_objects = ap (λ d. d.1) (drawn w);
        callers = λ c n k. subst (λ q. CallerIn q.0 q.1 c n) (sym (calls w)) k;
        delays = delays w;
      })

  pub edit_task-alters : (name : Who) (f : Task → Task) → ((t : Task) → core (f t) ≡ core t) → Alters X (edit_task name f)
  edit_task-alters name f same = same-alters (edit_task name f) (λ w. edit_task-same name f w same)

  pub edit_object-alters : (o : ObjectNo) (f : Object → Object) → ((x : Object) → ceiling_in (f x) ≡ ceiling_in x) → Alters X (edit_object o f)
  edit_object-alters o f same = same-alters (edit_object o f) (λ w. edit_object-same o f w same)

  pub says-keeps : (part : Part) (line : Line) → is_apart line ≡ false → Keeps X (says part line)
  unfolding Ends
  says-keeps part line other = record { runs = λ w said h. quiet.says part line w said other h }
