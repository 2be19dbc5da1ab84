-- Every change leaves a world good, and a call of one's own one's own.
use Rattle.std.proofs.Common.{true, false, Bool}
use Rattle.ann_base.specs.declared.identities.CallNo.{CallNo}
use Rattle.trace_text.specs.declared.events.Who.{Who}
use Rattle.profile_machine.specs.declared.world.World.{World}
use Rattle.profile_machine.specs.declared.world.tasks.Task.{Task}
use Rattle.profile_image.specs.Program.{scope_of}
use Rattle.profile_machine.specs.Scopes.{draw_region, begin_scope}
use Rattle.line_laws.proofs.Leaving.FreeWorlds.{CallerIn}
use Rattle.line_laws.proofs.Leaving.CallLemmas.{edited-caller, added-caller, gone-caller}
use Rattle.world_laws.proofs.Actions.Sound.{Good}
use Rattle.world_laws.proofs.Actions.SoundEdits.{others-edited}
use Rattle.world_laws.proofs.Actions.FineMoves.{FineMoves}
use Rattle.world_laws.proofs.Actions.GoodMoves.{good_moves}
use Rattle.profile_machine.specs.Tasks.{edit_task}
use Rattle.machine_laws.proofs.FineMoves.{GoodWorld, Naming}

abbrev pub Known : Who → CallNo → GoodWorld
Known name c w = CallerIn w.calls w.drawn.calls c name

abbrev pub GoodKnown : Naming → Who → CallNo → GoodWorld
GoodKnown F name c w = Good F w × Known name c w

module _ (name : Who) (c : CallNo) where
  pub known-edited : (n : Who) (f : Task → Task) (w : World) → Known name c w → Known name c (edit_task n f w)
  known-edited n f w k = others-edited (λ d cs o. CallerIn cs d.calls c name) n f w k

  known-drawn : (kept : Bool) (w : World) → Known name c w → Known name c (draw_region kept w)
  known-drawn true w k = k
  known-drawn false w k = k

  pub known_moves : (F : Naming) → FineMoves (GoodKnown F name c) F
  known_moves F = let m = good_moves F in record {
    edits_task = λ n f w g named framed state master inherited. (m.edits_task n f w g.0 named framed state master inherited, known-edited n f w g.1);
    edits_frames = λ n f w g same. (m.edits_frames n f w g.0 same, known-edited n _ w g.1);
    inherits = λ n cause level w g. (m.inherits n cause level w g.0, known-edited n _ w g.1);
    loses = λ n cause w g is. (m.loses n cause w g.0 is, known-edited n _ w g.1);
    pushes = λ n f w g is. (m.pushes n f w g.0 is, known-edited n _ w g.1);
    opens_abortable = λ n f w g free is. (m.opens_abortable n f w g.0 free is, known-edited n _ w g.1);
    opens_scope = λ p n scope b purpose w g free. (
      m.opens_scope p n scope b purpose w g.0 free,
      known-edited n _ (draw_region (scope_of p scope).kept (begin_scope p n scope b w)) (known-drawn (scope_of p scope).kept (begin_scope p n scope b w) g.1),
    );
    pops = λ n f w g top is. (m.pops n f w g.0 top is, known-edited n _ w g.1);
    readies = λ n w g. (m.readies n w g.0, known-edited n _ w g.1);
    blocks = λ n waiting w g free. (m.blocks n waiting w g.0 free, known-edited n _ w g.1);
    forgets_task = λ n w g free. (m.forgets_task n w g.0 free, g.1);
    sets_quantum = λ level ticks w g. g;
    ends_environment = λ leaving w g. g;
    begins_scope = λ p n scope b w g. g;
    edits_cells = λ id f w g. g;
    ends_scope = λ id w g. (m.ends_scope id w g.0, g.1);
    edits_call = λ d f w g number caller. (m.edits_call d f w g.0 number caller, edited-caller d f w.calls w.drawn.calls number caller name c g.1);
    adds_call = λ d w g. (m.adds_call d w g.0, added-caller d w.calls w.drawn.calls name c g.1);
    forgets_call = λ d w g. (m.forgets_call d w g.0, gone-caller d w.calls w.drawn.calls name c g.1);
    edits_object = λ o f w g number actions ceiling. (m.edits_object o f w g.0 number actions ceiling, g.1);
    adds_object = λ p l u w g. (m.adds_object p l u w g.0, g.1);
    appoints = λ due moment w g. g;
    drops_appointment = λ test w g. g;
    releases = λ h argument w g. g;
    has_served = λ w g. g;
    registers = λ n r l w g. g;
    unregisters = λ n w g. g;
    draws_event = λ w g. g;
    adds_timer = λ t w g. g;
    clears_timer = λ k w g. g;
    sets_timer = λ k h value w g. g;
    sets_timers_due = λ timers w g. g;
    adds_budget = λ w g. g;
    edits_budget = λ b f w g. g;
    sets_budget_due = λ budget w g. g;
    sets_port = λ n value w g. g;
    masks = λ n flag w g. g;
    keeps_interrupt = λ n flag w g. g;
    cuts_script = λ rest w g. g;
  }
