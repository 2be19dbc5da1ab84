-- A task is edited, and other facts hold behind the edit than before.
use Rattle.world_laws.proofs.Sequences.FineMoves.{Fitting}
use Rattle.world_laws.proofs.Sequences.UnitFits.{edited-fitting}
use Rattle.std.proofs.Common.{◌≡◌, ℕ, Bool, false, List, refl, sym, ap, subst, ◌⊎◌, inl, inr}
use Rattle.trace_text.specs.declared.events.Who.{Who}
use Rattle.trace_text.specs.declared.events.Who.TheVariants as who
use Rattle.profile_image.specs.declared.image.Image.{Image}
use Rattle.profile_machine.specs.declared.world.World.{World}
use Rattle.profile_machine.specs.declared.world.calls.Call.{Call}
use Rattle.profile_machine.specs.declared.world.tasks.Task.{Task}
use Rattle.profile_machine.specs.declared.world.tasks.State.{State}
use Rattle.profile_image.specs.Words.{same_who}
use Rattle.profile_machine.specs.Tasks.{nobody, task_of, task_at, edit_task}
use Rattle.profile_machine.specs.WellFormed.{begins_sequence}
use Rattle.machine_laws.proofs.FineMoves.{natures, edit_task-drawn}
use Rattle.world_laws.proofs.Sequences.FineMoves.{onward_in}
use Rattle.world_laws.proofs.Sequences.TaskEdits.{by_bool, who-same, edited-own, edited-other}
use Rattle.world_laws.proofs.Sequences.TaskNames.{names, AllApart, AllBelow, edited-names}
use Rattle.world_laws.proofs.Sequences.Points.{Point, Marking, Calling, Fine, begins, edited_found-calls, edited_found-agent, agent-edited}

turned_agent : (A B : Marking) (name : Who) (f : Task → Task) (w : World) → ((t : Task) → (f t).who ≡ t.who)
    → (name ≡ who.Agent → A (natures w.agent.frames) → B (natures (f w.agent).frames))
    → (same_who name who.Agent ≡ false → A (natures w.agent.frames) → B (natures w.agent.frames)) → A (natures w.agent.frames)
    → B (natures (edit_task name f w).agent.frames)
turned_agent A B name f w same turns still h =
    by_bool (same_who name who.Agent)
    (λ is. let agent = who-same name who.Agent is in subst (λ n. B (natures (edit_task n f w).agent.frames)) (sym agent) (turns agent h))
    (λ apart. subst (λ (t : Task). B (natures t.frames)) (sym (edited-other name who.Agent f w same apart)) (still apart h))

turned_point : (p : Image) (P Q : Point) (name : Who) (f : Task → Task) (w v : World)
    → (task_of v name ≡ f (task_of w name)) ⊎ ((v ≡ w) × (task_of w name ≡ nobody))
    → (P name (task_of w name).state (begins p w name) → Q name (f (task_of w name)).state (begins_sequence p (onward_in (f (task_of w name)).frames)))
    → (task_of w name ≡ nobody → P name (task_of w name).state (begins p w name) → Q name (task_of w name).state (begins p w name))
    → P name (task_of w name).state (begins p w name) → Q name (task_of v name).state (begins p v name)
turned_point p P Q name f w v (inl is) point gone h = subst (λ (t : Task). Q name t.state (begins_sequence p (onward_in t.frames))) (sym is) (point h)
turned_point p P Q name f w v (inr none) point gone h = subst (λ (u : World). Q name (task_of u name).state (begins p u name)) (sym none.0) (gone none.1 h)

-- what the edit turns, of who is edited; the others stay as they are
pub fine-turned : {p : Image} {P Q : Point} {A B : Marking} {C D : Calling} (name : Who) (f : Task → Task) (w : World)
    → ((n : ℕ) (cs : List Call) → C n cs → D n cs) → ((t : Task) → (f t).who ≡ t.who) → ((t : Task) → Fitting p t → Fitting p (f t))
    → (name ≡ who.Agent → A (natures w.agent.frames) → B (natures (f w.agent).frames))
    → (same_who name who.Agent ≡ false → A (natures w.agent.frames) → B (natures w.agent.frames))
    → (P name (task_of w name).state (begins p w name) → Q name (f (task_of w name)).state (begins_sequence p (onward_in (f (task_of w name)).frames)))
    → (task_of w name ≡ nobody → P name (task_of w name).state (begins p w name) → Q name (task_of w name).state (begins p w name))
    → ((b : Who) (s : State) (g : Bool) → same_who name b ≡ false → P b s g → Q b s g) → Fine p P A C w → Fine p Q B D (edit_task name f w)
fine-turned {p} {P} {Q} {A} {B} {C} {D} name f w known same fitted turns still point gone others h = record {
  agent = agent-edited name w.agent (edit_task name f w).agent f (edited_found-agent name f w (task_at w name) refl) same h.agent;
  apart = subst AllApart (sym (edited-names name f w same)) h.apart;
  below =
      subst (λ d. AllBelow d (names (edit_task name f w).tasks)) (sym (ap (λ d. d.tasks) (edit_task-drawn name f w)))
      (subst (AllBelow w.drawn.tasks) (sym (edited-names name f w same)) h.below);
  units = edited-fitting p name f w fitted h.units;
  calls =
      subst (λ n. D n (edit_task name f w).calls) (sym (ap (λ d. d.calls) (edit_task-drawn name f w)))
      (subst (D w.drawn.calls) (sym (edited_found-calls name f w (task_at w name))) (known w.drawn.calls w.calls h.calls));
  marks = turned_agent A B name f w same turns still h.marks;
  points = λ b. by_bool (same_who name b)
      (λ is. subst (λ n. Q n (task_of (edit_task name f w) n).state (begins p (edit_task name f w) n)) (who-same name b is)
      (turned_point p P Q name f w (edit_task name f w) (edited-own name f w same) point gone (h.points name)))
      (λ apart. subst (λ (t : Task). Q b t.state (begins_sequence p (onward_in t.frames))) (sym (edited-other name b f w same apart))
      (others b (task_of w b).state (begins p w b) apart (h.points b)));
}
