-- Steps that go on with a value that is given.
use Rattle.std.proofs.Common.{◌≡◌, ℕ, true, ◌||◌, Option, Some, None, Ok, List, ap, sym, ◌∙◌}
use Rattle.ann_base.specs.declared.exceptions.Raised.TheVariants as exception
use Rattle.trace_text.specs.declared.events.Who.{Who}
use Rattle.profile_image.specs.declared.image.Image.{Image}
use Rattle.profile_image.specs.declared.numbers.ExprNo.{ExprNo}
use Rattle.profile_image.specs.declared.numbers.StatementNo.{StatementNo}
use Rattle.profile_image.specs.declared.values.Value.{Value}
use Rattle.profile_machine.specs.declared.world.World.{World}
use Rattle.profile_machine.specs.declared.world.lines.Part.TheVariants.{Own}
use Rattle.profile_machine.specs.declared.world.lines.Said.{Said}
use Rattle.profile_machine.specs.declared.world.tasks.Task.{Task}
use Rattle.profile_machine.specs.Frames.{goes, given, raises, raise_if}
use Rattle.profile_machine.specs.Operators.{Valued}
use Rattle.profile_image.specs.Program.{next_of}
use Rattle.profile_machine.specs.Steps.{◌▷◌}
use Rattle.profile_machine.specs.Values.{Seen, seen_by, value, moment, whole_in}
use Rattle.profile_machine.specs.Priorities.{priority_in_range, is_edf_base, set_base_of, set_or_defer_base}
use Rattle.profile_machine.specs.Priorities.{set_or_defer_deadline, set_deadline_of, set_quantum}
use Rattle.machine_priorities.specs.Continued.{target_given, deadline_given, quantum_given, ticks_given}

module _ (p : Image) (w : World) (said : List Said) (name : Who) (s : StatementNo) where
  pub target_is_given : (e : ExprNo) (task : Option ExprNo) (q : Seen) (t : Task) → q ≡ seen_by p w name → target_given q task ≡ Ok t
      → set_deadline_of p name s e task w said ≡ deadline_given p name s e t.who w said
  unfolding set_deadline_of
  target_is_given e task q t i h =
      let continued =
      λ (r : Valued Task).
      given Own name r (λ x. given Own name (moment (seen_by p w name) e) (λ d. goes name (next_of p s) ▷ set_or_defer_deadline p name x.who d)) w said in
      ap continued (ap (λ x. target_given x task) (sym i) ∙ h)

  pub level_is_given : (level quantum : ExprNo) (q : Seen) (v : Value) → q ≡ seen_by p w name → value q level ≡ Ok v
      → set_quantum p name s level quantum w said ≡ quantum_given p name s quantum v w said
  unfolding set_quantum
  level_is_given level quantum q v i h =
      let continued =
      λ (r : Valued Value). given Own name r
      (λ x. given Own name (moment (seen_by p w name) quantum)
      (λ n. given Own name (priority_in_range p.policies.last_priority (whole_in x)) (ticks_given p name s n))) w said in
      ap continued (ap (λ x. value x level) (sym i) ∙ h)

  module _ (level : ℕ) (found : Option Task) where
    pub no_task_is_set : found ≡ None → set_base_of p name s level found w said ≡ goes name (next_of p s) w said
    unfolding set_base_of
    no_task_is_set h = ap (λ o. set_base_of p name s level o w said) h

    pub edf_is_barred : (t : Task) → found ≡ Some t → (is_edf_base p t.base || is_edf_base p level) ≡ true
        → set_base_of p name s level found w said ≡ raises Own name exception.Program w said
    unfolding set_base_of
    edf_is_barred t h k =
        ap (λ o. set_base_of p name s level o w said) h
        ∙ ap (λ b. raise_if name b exception.Program (goes name (next_of p s) ▷ set_or_defer_base p name t.who level) w said) k
