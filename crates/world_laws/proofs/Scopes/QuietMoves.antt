-- All changes but those by which scopes begin and end, and tasks come and go, leave a world alike.
use Rattle.std.proofs.Common.{◌≡◌, false, Option, refl, sym, ap, subst, ◌∙◌}
use Rattle.std.proofs.lemmas.Bool.{false≢true}
use Rattle.trace_text.specs.declared.events.Who.{Who}
use Rattle.profile_image.specs.declared.numbers.StatementNo.{StatementNo}
use Rattle.profile_machine.specs.declared.world.World.{World}
use Rattle.profile_machine.specs.declared.world.tasks.State.{State}
use Rattle.profile_machine.specs.declared.world.tasks.State.TheVariants.{Runnable, Blocked}
use Rattle.profile_machine.specs.declared.world.tasks.Task.{Task}
use Rattle.profile_machine.specs.Frames.{edit_first, goes_on, push}
use Rattle.profile_machine.specs.Tasks.{is_made_state, with_frames, with_state}
use Rattle.machine_laws.proofs.Moves.{StepRelation, MoveRelation}
use Rattle.world_laws.proofs.Scopes.FineMoves.{FineMoves, natures}
use Rattle.world_laws.proofs.Scopes.Kept.Frames.{first-natures}
use Rattle.world_laws.proofs.Scopes.ScopeKeys.{scope_keys, scope_keys-edited}
use Rattle.world_laws.proofs.Scopes.TaskMarks.{owns_in, shielded}
use Rattle.world_laws.proofs.Scopes.Likeness.{Like, AllLike, like-self, like-frames, all-self, Same, same-then, edited-same, opened-same, popped-same}
use Rattle.machine_laws.proofs.FineMoves.{AnyWorld, Anybody, each-anybody, gone_on}

abbrev pub SameStep : StepRelation
SameStep w xs v = Same w v

abbrev pub SameMove : MoveRelation
SameMove w xs v = Same w v

-- the same tasks, and scopes with the same keys
pub same-lists : (w v : World) → v.tasks ≡ w.tasks → v.agent ≡ w.agent → scope_keys v.scopes ≡ scope_keys w.scopes → v.drawn.scopes ≡ w.drawn.scopes
    → v.drawn.tasks ≡ w.drawn.tasks → Same w v
same-lists w v tasks agent scopes drawn_scopes drawn_tasks = record {
  tasks = subst (λ ts. AllLike w.tasks ts) (sym tasks) (all-self w.tasks);
  agent = subst (λ t. Like w.agent t) (sym agent) (like-self w.agent);
  scopes = scopes;
  drawn_scopes = drawn_scopes;
  drawn_tasks = drawn_tasks;
}

pub same-self : (w : World) → Same w w
same-self w = same-lists w w refl refl refl refl refl

-- an edit that leaves alone who it is, its marks and its state
pub like-edit : (t u : Task) → u.who ≡ t.who → u.frames ≡ t.frames → u.state ≡ t.state → Like t u
like-edit t u same_who frames state = record {
  who = same_who;
  marks = ap (λ fs. owns_in (natures fs)) frames;
  shield = λ e. ap (λ fs. shielded (natures fs)) frames ∙ e;
  made = λ e. ap is_made_state (sym state) ∙ e;
}

-- a state that is not that of a task that is only made
pub like-state : (t : Task) (state : State) → is_made_state state ≡ false → Like t (with_state state t)
like-state t state other = record { who = refl; marks = refl; shield = λ e. e; made = λ e. absurd (false≢true (sym other ∙ e)) }

pub gone-same : (name : Who) (onward : Option StatementNo) (w : World) → Same w (gone_on name onward w)
gone-same name onward w =
    edited-same name (λ t. with_frames (edit_first (goes_on onward) t.frames) t) w
    (λ t. like-frames t (edit_first (goes_on onward) t.frames) (first-natures (goes_on onward) t.frames (λ x. refl)))

pub quiet : FineMoves AnyWorld Anybody Anybody SameStep SameMove
quiet = record {
  behind = λ a b h. tt;
  moved = λ a b h. tt;
  stays = λ w g. same-self w;
  goes_on = λ a b c {xs} {ys} p q. same-then a b c p q;
  says = λ part line w g. same-self w;
  rests = λ w g. same-self w;
  leads_on = λ a b c {xs} {ys} p q. same-then a b c p q;
  settles = λ a b xs lines p. record { tasks = p.tasks; agent = p.agent; scopes = p.scopes; drawn_scopes = p.drawn_scopes; drawn_tasks = p.drawn_tasks };
  silently = λ a b p. p;
  other_may = λ name o. tt;
  task_other = λ n. tt;
  listed = λ w g. each-anybody w.tasks;
  awaits = λ name w g is. tt;
  edits_task =
      λ name f w g same_who same_frames same_state same_master. edited-same name f w (λ t. like-edit t (f t) (same_who t) (same_frames t) (same_state t));
  edits_frames = λ name f w g same. edited-same name (λ t. with_frames (f t.frames) t) w (λ t. like-frames t (f t.frames) (same t.frames));
  pushes_on =
      λ name onward f g w good may top none.
      same-then w (gone_on name onward w) (push name f (gone_on name onward w)) (gone-same name onward w) (opened-same name f (gone_on name onward w) none);
  opens_abortable = λ name f w g o none. opened-same name f w none;
  pops = λ name f w g may top plain none. popped-same name f w top plain none;
  readies = λ name w g o. edited-same name (with_state Runnable) w (λ t. like-state t Runnable refl);
  blocks = λ name waiting w g o. edited-same name (with_state (Blocked waiting)) w (λ t. like-state t (Blocked waiting) refl);
  places = λ p part name end w g may. same-self w;
  says_blocked = λ part name waiting w g o. same-self w;
  sets_quantum = λ level ticks w g. same-lists w _ refl refl refl refl refl;
  ends_environment = λ leaving w g. same-lists w _ refl refl refl refl refl;
  edits_cells = λ id f w g. same-lists w _ refl refl (scope_keys-edited f id w.scopes) refl refl;
  edits_call = λ c f w g same. same-lists w _ refl refl refl refl refl;
  adds_call = λ c w g. same-lists w _ refl refl refl refl refl;
  forgets_call = λ c w g. same-lists w _ refl refl refl refl refl;
  edits_object = λ o f w g number actions. same-lists w _ refl refl refl refl refl;
  adds_object = λ p l u w g. same-lists w _ refl refl refl refl refl;
  enters = λ name o mode w g. same-lists w _ refl refl refl refl refl;
  closes = λ name o w g. same-lists w _ refl refl refl refl refl;
  appoints = λ due moment w g. same-lists w _ refl refl refl refl refl;
  drops_appointment = λ test w g. same-lists w _ refl refl refl refl refl;
  registers = λ r l w g. same-lists w _ refl refl refl refl refl;
  unregisters = λ n w g. same-lists w _ refl refl refl refl refl;
  releases = λ h argument w g. same-lists w _ refl refl refl refl refl;
  has_served = λ w g. same-lists w _ refl refl refl refl refl;
  draws_event = λ w g. same-lists w _ refl refl refl refl refl;
  adds_timer = λ t w g. same-lists w _ refl refl refl refl refl;
  clears_timer = λ k w g. same-lists w _ refl refl refl refl refl;
  sets_timer = λ k h value w g. same-lists w _ refl refl refl refl refl;
  sets_timers_due = λ timers w g. same-lists w _ refl refl refl refl refl;
  adds_budget = λ w g. same-lists w _ refl refl refl refl refl;
  edits_budget = λ b f w g. same-lists w _ refl refl refl refl refl;
  sets_budget_due = λ budget w g. same-lists w _ refl refl refl refl refl;
  sets_port = λ n value w g. same-lists w _ refl refl refl refl refl;
  masks = λ n flag w g. same-lists w _ refl refl refl refl refl;
  keeps_interrupt = λ n flag w g. same-lists w _ refl refl refl refl refl;
  cuts_script = λ x rest w g is due. same-lists w _ refl refl refl refl refl;
}
