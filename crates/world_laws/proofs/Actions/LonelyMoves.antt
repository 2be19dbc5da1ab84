-- Every change leaves a world good, and a region that has no dependents without any.
use Rattle.std.proofs.Common.{◌≡◌, refl, sym, true, false, Bool, ◌∙◌}
use Rattle.std.proofs.lemmas.Bool.{false≢true}
use Rattle.ann_base.specs.declared.identities.RegionNo.{RegionNo}
use Rattle.trace_text.specs.declared.events.Who.{Who}
use Rattle.profile_machine.specs.declared.world.World.{World}
use Rattle.profile_machine.specs.declared.world.tasks.Task.{Task}
use Rattle.profile_machine.specs.Tasks.{edit_task}
use Rattle.profile_machine.specs.Masters.{forget_task}
use Rattle.profile_image.specs.Program.{scope_of}
use Rattle.profile_machine.specs.Scopes.{draw_region, begin_scope}
use Rattle.world_laws.proofs.Actions.Sound.{Good, dependents}
use Rattle.world_laws.proofs.Actions.SoundEdits.{dependents-edited}
use Rattle.world_laws.proofs.Actions.SoundWorlds.{dependents-without}
use Rattle.world_laws.proofs.Actions.FineMoves.{FineMoves}
use Rattle.world_laws.proofs.Actions.GoodMoves.{good_moves}
use Rattle.machine_laws.proofs.QueueLemmas.{by_test}
use Rattle.machine_laws.proofs.FineMoves.{GoodWorld, Naming}

abbrev pub Lonely : RegionNo → GoodWorld
Lonely r w = dependents w.tasks r ≡ false

abbrev pub GoodLonely : Naming → RegionNo → GoodWorld
GoodLonely F r w = Good F w × Lonely r w

module _ (r : RegionNo) where
  lonely-edited : (n : Who) (f : Task → Task) (w : World) → ((t : Task) → (f t).who ≡ t.who) → ((t : Task) → (f t).master ≡ t.master) → Lonely r w
      → Lonely r (edit_task n f w)
  lonely-edited n f w named mastered k = dependents-edited f named mastered n w r ∙ k

  lonely-drawn : (kept : Bool) (w : World) → Lonely r w → Lonely r (draw_region kept w)
  lonely-drawn true w k = k
  lonely-drawn false w k = k

  pub lonely_moves : (F : Naming) → FineMoves (GoodLonely F r) F
  lonely_moves F = let m = good_moves F in record {
    edits_task = λ n f w g named framed state master inherited. (
      m.edits_task n f w g.0 named framed state master inherited,
      lonely-edited n f w named master g.1,
    );
    edits_frames = λ n f w g same. (m.edits_frames n f w g.0 same, lonely-edited n _ w (λ t. refl) (λ t. refl) g.1);
    inherits = λ n cause level w g. (m.inherits n cause level w g.0, lonely-edited n _ w (λ t. refl) (λ t. refl) g.1);
    loses = λ n cause w g is. (m.loses n cause w g.0 is, lonely-edited n _ w (λ t. refl) (λ t. refl) g.1);
    pushes = λ n f w g is. (m.pushes n f w g.0 is, lonely-edited n _ w (λ t. refl) (λ t. refl) g.1);
    opens_abortable = λ n f w g free is. (m.opens_abortable n f w g.0 free is, lonely-edited n _ w (λ t. refl) (λ t. refl) g.1);
    opens_scope = λ p n scope b purpose w g free. (
      m.opens_scope p n scope b purpose w g.0 free,
      lonely-edited n _ (draw_region (scope_of p scope).kept (begin_scope p n scope b w)) (λ t. refl) (λ t. refl)
          (lonely-drawn (scope_of p scope).kept (begin_scope p n scope b w) g.1),
    );
    pops = λ n f w g top is. (m.pops n f w g.0 top is, lonely-edited n _ w (λ t. refl) (λ t. refl) g.1);
    readies = λ n w g. (m.readies n w g.0, lonely-edited n _ w (λ t. refl) (λ t. refl) g.1);
    blocks = λ n waiting w g free. (m.blocks n waiting w g.0 free, lonely-edited n _ w (λ t. refl) (λ t. refl) g.1);
    forgets_task = λ n w g free. (
      m.forgets_task n w g.0 free,
      by_test (dependents (forget_task n w).tasks r) (λ e. absurd (false≢true (sym g.1 ∙ dependents-without n r w.tasks e))) (λ e. e),
    );
    sets_quantum = λ level ticks w g. g;
    ends_environment = λ leaving w g. g;
    begins_scope = λ p n scope b w g. g;
    edits_cells = λ id f w g. g;
    ends_scope = λ id w g. (m.ends_scope id w g.0, g.1);
    edits_call = λ d f w g number caller. (m.edits_call d f w g.0 number caller, g.1);
    adds_call = λ d w g. (m.adds_call d w g.0, g.1);
    forgets_call = λ d w g. (m.forgets_call d w g.0, g.1);
    edits_object = λ o f w g number actions ceiling. (m.edits_object o f w g.0 number actions ceiling, g.1);
    adds_object = λ p l u w g. (m.adds_object p l u w g.0, g.1);
    appoints = λ due moment w g. g;
    drops_appointment = λ test w g. g;
    releases = λ h argument w g. g;
    has_served = λ w g. g;
    registers = λ n r l w g. g;
    unregisters = λ n w g. g;
    draws_event = λ w g. g;
    adds_timer = λ t w g. g;
    clears_timer = λ k w g. g;
    sets_timer = λ k h value w g. g;
    sets_timers_due = λ timers w g. g;
    adds_budget = λ w g. g;
    edits_budget = λ b f w g. g;
    sets_budget_due = λ budget w g. g;
    sets_port = λ n value w g. g;
    masks = λ n flag w g. g;
    keeps_interrupt = λ n flag w g. g;
    cuts_script = λ rest w g. g;
  }
