-- A relation that stands between good worlds wherever they are alike keeps all changes that leave a world alike: so do the relations
-- of what one task does.
use Rattle.std.proofs.Common.{List, [], ◌++◌, ap, ◌∙◌, append_assoc}
use Rattle.trace_text.specs.declared.events.Event.{Event}
use Rattle.profile_machine.specs.declared.world.World.{World}
use Rattle.profile_machine.specs.declared.world.lines.Said.{Said}
use Rattle.profile_machine.specs.Steps.{Step, Done, done, goes_on_with, placed_by, ◌▷◌}
use Rattle.machine_laws.proofs.Moves.{StepRelation, MoveRelation}
use Rattle.world_laws.proofs.Scopes.FineMoves.{FineMoves, chains}
use Rattle.world_laws.proofs.Scopes.Likeness.{Same}
use Rattle.world_laws.proofs.Scopes.QuietMoves.{SameStep, quiet, same-self}
use Rattle.machine_laws.proofs.FineMoves.{AnyWorld, Anybody, GoodWorld, each-anybody}
use Rattle.machine_laws.proofs.Kept.Combinators.{From, Keeps, Kept, then-kept}

-- a relation of worlds, of steps and of moves, whatever they say
abbrev pub WorldRelation : Type 1
WorldRelation = World → World → Type 0

abbrev pub StepOf : WorldRelation → StepRelation
StepOf M w xs v = M w v

abbrev pub MoveOf : WorldRelation → MoveRelation
MoveOf M w xs v = M w v

-- what a relation needs: it leads to good worlds, may be put together, and stands between good worlds that are alike
pub record Lifts (G : GoodWorld) (M : WorldRelation) : Type 0 where
  pub behind : (a b : World) → M a b → G b
  pub goes_on : (a b c : World) → M a b → M b c → M a c
  pub lift : (w v : World) → G w → Same w v → M w v

module _ {G : GoodWorld} {M : WorldRelation} (lifts : Lifts G M) where
  placed : (lines : List Event) (a b : World) → M a b → M a (placed_by lines b)
  placed lines a b h =
      lifts.goes_on a b (placed_by lines b) h (lifts.lift b (placed_by lines b) (lifts.behind a b h) (quiet.settles b b [] lines (same-self b)))

  pub lifted : FineMoves G Anybody Anybody (StepOf M) (MoveOf M)
  lifted = record {
    behind = λ a b {xs} h. lifts.behind a b h;
    moved = λ a b {xs} h. lifts.behind a b h;
    goes_on = λ a b c {xs} {ys} p q. lifts.goes_on a b c p q;
    leads_on = λ a b c {xs} {ys} p q. lifts.goes_on a b c p q;
    settles = λ a b xs lines h. placed lines a b h;
    silently = λ a b h. h;
    rests = λ w g. lifts.lift w w g (same-self w);
    other_may = λ name o. tt;
    task_other = λ n. tt;
    listed = λ w g. each-anybody w.tasks;
    awaits = λ name w g is. tt;
    stays = λ w g. lifts.lift w _ g (quiet.stays w tt);
    says = λ part line w g. lifts.lift w _ g (quiet.says part line w tt);
    edits_task =
        λ name f w g same_who same_frames same_state same_master. lifts.lift w _ g (quiet.edits_task name f w tt same_who same_frames same_state same_master);
    edits_frames = λ name f w g same. lifts.lift w _ g (quiet.edits_frames name f w tt same);
    pushes_on = λ name onward f g w good may top none. lifts.lift w _ good (quiet.pushes_on name onward f g w tt may top none);
    opens_abortable = λ name f w g o none. lifts.lift w _ g (quiet.opens_abortable name f w tt o none);
    pops = λ name f w g may top plain none. lifts.lift w _ g (quiet.pops name f w tt may top plain none);
    readies = λ name w g o. lifts.lift w _ g (quiet.readies name w tt o);
    blocks = λ name waiting w g o. lifts.lift w _ g (quiet.blocks name waiting w tt o);
    places = λ p part name end w g may. lifts.lift w _ g (quiet.places p part name end w tt may);
    says_blocked = λ part name waiting w g o. lifts.lift w _ g (quiet.says_blocked part name waiting w tt o);
    sets_quantum = λ level ticks w g. lifts.lift w _ g (quiet.sets_quantum level ticks w tt);
    ends_environment = λ leaving w g. lifts.lift w _ g (quiet.ends_environment leaving w tt);
    edits_cells = λ id f w g. lifts.lift w _ g (quiet.edits_cells id f w tt);
    edits_call = λ c f w g same. lifts.lift w _ g (quiet.edits_call c f w tt same);
    adds_call = λ c w g. lifts.lift w _ g (quiet.adds_call c w tt);
    forgets_call = λ c w g. lifts.lift w _ g (quiet.forgets_call c w tt);
    edits_object = λ o f w g number actions. lifts.lift w _ g (quiet.edits_object o f w tt number actions);
    adds_object = λ p l u w g. lifts.lift w _ g (quiet.adds_object p l u w tt);
    enters = λ name o mode w g. lifts.lift w _ g (quiet.enters name o mode w tt);
    closes = λ name o w g. lifts.lift w _ g (quiet.closes name o w tt);
    appoints = λ due moment w g. lifts.lift w _ g (quiet.appoints due moment w tt);
    drops_appointment = λ test w g. lifts.lift w _ g (quiet.drops_appointment test w tt);
    registers = λ r l w g. lifts.lift w _ g (quiet.registers r l w tt);
    unregisters = λ n w g. lifts.lift w _ g (quiet.unregisters n w tt);
    releases = λ h argument w g. lifts.lift w _ g (quiet.releases h argument w tt);
    has_served = λ w g. lifts.lift w _ g (quiet.has_served w tt);
    draws_event = λ w g. lifts.lift w _ g (quiet.draws_event w tt);
    adds_timer = λ t w g. lifts.lift w _ g (quiet.adds_timer t w tt);
    clears_timer = λ k w g. lifts.lift w _ g (quiet.clears_timer k w tt);
    sets_timer = λ k h value w g. lifts.lift w _ g (quiet.sets_timer k h value w tt);
    sets_timers_due = λ timers w g. lifts.lift w _ g (quiet.sets_timers_due timers w tt);
    adds_budget = λ w g. lifts.lift w _ g (quiet.adds_budget w tt);
    edits_budget = λ b f w g. lifts.lift w _ g (quiet.edits_budget b f w tt);
    sets_budget_due = λ budget w g. lifts.lift w _ g (quiet.sets_budget_due budget w tt);
    sets_port = λ n value w g. lifts.lift w _ g (quiet.sets_port n value w tt);
    masks = λ n flag w g. lifts.lift w _ g (quiet.masks n flag w tt);
    keeps_interrupt = λ n flag w g. lifts.lift w _ g (quiet.keeps_interrupt n flag w tt);
    cuts_script = λ x rest w g is due. lifts.lift w _ g (quiet.cuts_script x rest w tt is due);
  }

  -- a step that leaves a world alike, and a step from the world to which it has led
  quiet-kept : (w : World) (said : List Said) (d : Done) → G w → Kept SameStep w said d → Kept (StepOf M) w said d
  unfolding Kept
  quiet-kept w said (done v ys) good k = (k.0, k.1, lifts.lift w v good k.2)

  kept-same : (w v : World) (said ys : List Said) → Kept SameStep w said (done v ys) → Same w v
  unfolding Kept
  kept-same w v said ys k = k.2

  quietly-kept : (g : Step) (w : World) (said : List Said) (d : Done) → G w → Kept SameStep w said d → ((v : World) → Same w v → G v → From (StepOf M) v g)
      → Kept (StepOf M) w said (goes_on_with g d)
  unfolding From
  quietly-kept g w said (done v ys) good k next =
      let same = kept-same w v said ys k in
      then-kept (chains lifted) w v said ys (g v ys) (quiet-kept w said (done v ys) good k) (next v same (lifts.behind w v (lifts.lift w v good same)) ys)

  pub quietly_then-from : (f g : Step) (w : World) → G w → Keeps AnyWorld SameStep f → ((v : World) → Same w v → G v → From (StepOf M) v g)
      → From (StepOf M) w (f ▷ g)
  unfolding Keeps From
  quietly_then-from f g w good a next said = quietly-kept g w said (f w said) good (a w tt said) next

  pub quietly-from : (f : Step) (w : World) → G w → Keeps AnyWorld SameStep f → From (StepOf M) w f
  unfolding Keeps From
  quietly-from f w good a said = quiet-kept w said (f w said) good (a w tt said)

-- steps that are put together, each of its own relation
module _ (M N L : WorldRelation) (joins : (a b c : World) → M a b → N b c → L a c) where
  joined-kept : (g : Step) (w : World) (said : List Said) (d : Done) → Kept (StepOf M) w said d → ((v : World) → M w v → From (StepOf N) v g)
      → Kept (StepOf L) w said (goes_on_with g d)
  unfolding Kept From
  joined-kept g w said (done v ys) k next = both (g v ys) (next v k.2 ys) where
    both : (d : Done) → Kept (StepOf N) v ys d → Kept (StepOf L) w said d
    both (done u zs) h = (k.0 ++ h.0, h.1 ∙ ap (λ xs. xs ++ h.0) k.1 ∙ append_assoc said k.0 h.0, joins w v u k.2 h.2)

  pub joined-from : (f g : Step) (w : World) → From (StepOf M) w f → ((v : World) → M w v → From (StepOf N) v g) → From (StepOf L) w (f ▷ g)
  unfolding From
  joined-from f g w a next said = joined-kept g w said (f w said) (a said) next

-- what one relation says, another says
weaker-kept : (M N : WorldRelation) (w : World) (said : List Said) (d : Done) → ((v : World) → M w v → N w v) → Kept (StepOf M) w said d
    → Kept (StepOf N) w said d
unfolding Kept
weaker-kept M N w said (done v ys) k h = (h.0, h.1, k v h.2)

pub weaker-from : (M N : WorldRelation) (w : World) (step : Step) → ((v : World) → M w v → N w v) → From (StepOf M) w step → From (StepOf N) w step
unfolding From
weaker-from M N w step k a said = weaker-kept M N w said (step w said) k (a said)
