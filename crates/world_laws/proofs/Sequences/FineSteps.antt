-- The facts of Points are kept by each change: what the skeleton of steps asks.
use Rattle.profile_machine.specs.declared.world.tasks.State.{State}
use Rattle.std.proofs.lemmas.Bool.{false≢true}
use Rattle.world_laws.proofs.Sequences.TaskNames.{names, AllBelow, is_below, Listed, listed-found, find-listed}
use Rattle.world_laws.proofs.Sequences.FineMoves.{FineMoves, Fits, onward_in}
use Rattle.world_laws.proofs.Sequences.UnitFits.{fitting-alone}
use Rattle.world_laws.proofs.Sequences.Points.{Point, Marking, IsTask, Fine, Points, Free, Stacks, begins, fine-plain, fine-edited, fine-added, fine-forgotten}
use Rattle.world_laws.proofs.Sequences.Points.{fine-call_edited, fine-call_added, fine-call_forgotten, fine-frames, waits-so, rises_as, Callings, Calling}
use Rattle.std.proofs.Common.{◌≡◌, ℕ, suc, Bool, true, false, List, [], ◌∷◌, Option, Some, None, find, refl, sym, ap, ◌∙◌, subst, inl, inr, unwrap_or}
use Rattle.ann_base.specs.declared.identities.RegionNo.{RegionNo}
use Rattle.trace_text.specs.declared.events.Who.{Who}
use Rattle.trace_text.specs.declared.events.Who.TheVariants as who
use Rattle.profile_image.specs.declared.image.Image.{Image}
use Rattle.profile_image.specs.declared.numbers.ScopeNo.{ScopeNo}
use Rattle.profile_image.specs.declared.numbers.StatementNo.{StatementNo}
use Rattle.profile_machine.specs.declared.world.World.{World}
use Rattle.profile_machine.specs.declared.world.marks.Frame.{Frame}
use Rattle.profile_machine.specs.declared.world.marks.Purpose.{Purpose}
use Rattle.profile_machine.specs.declared.world.tasks.Task.{Task}
use Rattle.profile_machine.specs.declared.world.tasks.State.TheVariants.{Made, Runnable}
use Rattle.profile_machine.specs.declared.world.scopes.Beginning.{Beginning}
use Rattle.profile_image.specs.Words.{edit_at}
use Rattle.world_tables.specs.Lists.{first_of, rest_of}
use Rattle.profile_machine.specs.Steps.{placed_by}
use Rattle.profile_machine.specs.Tasks.{task_of, edit_task, with_state, with_frames, waiting_of, is_who, nobody}
use Rattle.profile_image.specs.Program.{scope_of}
use Rattle.profile_machine.specs.Frames.{top_of, edit_first, new_frame, push, pop, goes_on, is_protected}
use Rattle.profile_machine.specs.Scopes.{edit_cells, begin_scope, draw_region, open_scope, end_scope, next_id, region_of_next, new_scope_mark, region_drawn}
use Rattle.profile_machine.specs.Appointments.{appoint, drop_appointment}
use Rattle.profile_machine.specs.Calls.{edit_object}
use Rattle.profile_machine.specs.Masters.{waits_for_activation, waits_for_dependents}
use Rattle.profile_machine.specs.Protected.{open_action}
use Rattle.profile_machine.specs.Controlled.{registered_as, no_longer_registered}
use Rattle.profile_machine.specs.Declarations.{new_object, object_drawn, event_drawn, with_budget, with_timer}
use Rattle.profile_machine.specs.Tasking.{end_environment}
use Rattle.profile_machine.specs.Handlers.{add_release, clear_timer, with_timer_set, edit_budget}
use Rattle.profile_machine.specs.Instant.{with_port, with_masked, with_kept_interrupt, with_script}
use Rattle.machine_laws.proofs.Moves.{lines_of}
use Rattle.profile_machine.specs.declared.world.marks.Purpose.TheVariants as opened_for
use Rattle.profile_machine.specs.WellFormed.{begins_sequence}
use Rattle.machine_laws.proofs.FineMoves.{Naming, nature, natures, EachIs, gone_on}

-- ---- single changes

alone_point : (p : Image) (P : Point) (name : Who) (t u : Task) → u.state ≡ t.state → u.frames ≡ t.frames
    → P name t.state (begins_sequence p (onward_in t.frames)) → P name u.state (begins_sequence p (onward_in u.frames))
alone_point p P name t u state frames h =
    subst (λ s. P name s (begins_sequence p (onward_in u.frames))) (sym state) (subst (λ fs. P name t.state (begins_sequence p (onward_in fs))) (sym frames) h)

plain_point : (p : Image) (P : Point) → Points P → (name : Who) (s : State) (next : Option StatementNo) (g : Bool) → begins_sequence p next ≡ false → P name s g
    → P name s (begins_sequence p next)
plain_point p P points name s next g plain h = subst (P name s) (sym plain) (points.tight name s g h)

gone-plain : (p : Image) (onward : Option StatementNo) (fs : List Frame) → begins_sequence p onward ≡ false
    → begins_sequence p (onward_in (edit_first (goes_on onward) fs)) ≡ false
gone-plain p onward [] plain = refl
gone-plain p onward (f ∷ fs) plain = plain

gone_plainly : (p : Image) (P : Point) → Points P → (name : Who) (t : Task) (onward : Option StatementNo) → begins_sequence p onward ≡ false
    → P name t.state (begins_sequence p (onward_in t.frames)) → P name t.state (begins_sequence p (onward_in (edit_first (goes_on onward) t.frames)))
gone_plainly p P points name t onward plain h =
    plain_point p P points name t.state (onward_in (edit_first (goes_on onward) t.frames)) (begins_sequence p (onward_in t.frames))
    (gone-plain p onward t.frames plain) h

gone-natures : (onward : Option StatementNo) (fs : List Frame) → natures (edit_first (goes_on onward) fs) ≡ natures fs
gone-natures onward [] = refl
gone-natures onward (f ∷ fs) = refl

first-is : (x f : Frame) (xs : List Frame) → first_of (x ∷ xs) ≡ Some f → x ≡ f
first-is x f xs e = cc

popped-marks : (A : Marking) (May : Naming) → Stacks A May → May who.Agent → (fs : List Frame) (f : Frame) → first_of fs ≡ Some f → is_protected f.mark ≡ false
    → A (natures fs) → A (natures (rest_of fs))
popped-marks A May stacks may [] f e free h = absurd (let never : None ≡ Some f = e in cc)
popped-marks A May stacks may (x ∷ xs) f e free h = stacks.popped may (nature x.mark) (natures xs) (ap (λ g. is_protected g.mark) (first-is x f xs e) ∙ free) h

below-task : (d : ℕ) (n : Who) → is_below d n ≡ true → IsTask n
below-task d (who.Task n) h = tt
below-task d who.Agent h = absurd (false≢true h)

listed-tasks : (ts : List Task) (d : ℕ) → AllBelow d (names ts) → EachIs IsTask ts
listed-tasks [] d h = tt
listed-tasks (t ∷ ts) d h = (below-task d t.who h.0, listed-tasks ts d h.1)

below-listed : (d : ℕ) (u : Task) (ts : List Task) → Listed u ts → AllBelow d (names ts) → is_below d u.who ≡ true
below-listed d u [] l h = absurd l
below-listed d u (t ∷ ts) (inl is) h = subst (λ k. is_below d k.who ≡ true) (sym is) h.0
below-listed d u (t ∷ ts) (inr l) h = below-listed d u ts l h.1

module _ {p : Image} {P : Point} {A : Marking} {C : Calling} where
  pub listed_is : (w : World) (t : Task) → Listed t w.tasks → Fine p P A C w → (n : Who) → n ≡ t.who → task_of w n ≡ t
  listed_is w t l g (who.Task n) is = ap (λ o. unwrap_or o nobody) (subst (λ k. find (is_who k) w.tasks ≡ Some t) (sym is) (listed-found t w.tasks l g.apart))
  listed_is w t l g who.Agent is = absurd (subst IsTask (sym is) (below-task w.drawn.tasks t.who (below-listed w.drawn.tasks t w.tasks l g.below)))

  fine-gone : (name : Who) (onward : Option StatementNo) (w : World)
      → (P name (task_of w name).state (begins p w name)
      → P name (task_of w name).state (begins_sequence p (onward_in (edit_first (goes_on onward) (task_of w name).frames))))
      → Fine p P A C w
      → Fine p P A C (gone_on name onward w)
  fine-gone name onward w point g =
      fine-edited name (λ t. with_frames (edit_first (goes_on onward) t.frames) t) w (λ t. refl) (λ t fit. fit)
      (λ is a. subst A (sym (gone-natures onward w.agent.frames)) a) point g

  fine-pushed : (name : Who) (f : Frame) (w : World) → (name ≡ who.Agent → A (natures w.agent.frames) → A (nature f.mark ∷ natures w.agent.frames))
      → (P name (task_of w name).state (begins p w name) → P name (task_of w name).state (begins_sequence p f.onward)) → Fine p P A C w
      → Fine p P A C (push name f w)
  fine-pushed name f w marks point g = fine-edited name (λ t. with_frames (f ∷ t.frames) t) w (λ t. refl) (λ t fit. fit) marks point g

  pub fine-stated : (name : Who) (s : State) (w : World) → (s ≡ Made → ⊥) → (P name (task_of w name).state (begins p w name) → P name s (begins p w name))
      → Fine p P A C w → Fine p P A C (edit_task name (with_state s) w)
  fine-stated name s w begun point g = fine-edited name (with_state s) w (λ t. refl) (λ t fit e. absurd (begun e)) (λ is a. a) point g

  drawn-fine : (kept : Bool) (w : World) → Fine p P A C w → Fine p P A C (draw_region kept w)
  drawn-fine true w g = fine-plain w (record w { drawn = region_drawn w.drawn }) refl refl refl refl refl g
  drawn-fine false w g = g

  pub begun-fine : (name : Who) (scope : ScopeNo) (b : Beginning) (w : World) → Fine p P A C w
      → Fine p P A C (draw_region (scope_of p scope).kept (begin_scope p name scope b w))
  begun-fine name scope b w g =
      drawn-fine (scope_of p scope).kept (begin_scope p name scope b w) (fine-plain w (begin_scope p name scope b w) refl refl refl refl refl g)

  opened_task-fine : Points P → (name : Who) (scope : ScopeNo) (b : Beginning) (purpose : Purpose) (w : World) → Fine p P A C w → IsTask name
      → begins_sequence p (scope_of p scope).first ≡ false → Fine p P A C (open_scope p name scope b purpose w)
  opened_task-fine points name scope b purpose w g other plain =
      let v = draw_region (scope_of p scope).kept (begin_scope p name scope b w) in
      fine-pushed name (new_frame (new_scope_mark (next_id w) (region_of_next (scope_of p scope).kept w) purpose) (scope_of p scope).first) v
      (λ is a. absurd (subst IsTask is other))
      (λ h. plain_point p P points name (task_of v name).state (scope_of p scope).first (begins p v name) plain h) (begun-fine name scope b w g)

  master_point : Points P → (r : RegionNo) (t : Task) (w : World) → Fine p P A C w → find (waits_for_dependents r) w.tasks ≡ Some t
      → P t.who (task_of w t.who).state (begins p w t.who) → P t.who Runnable (begins p w t.who)
  master_point points r t w g found h =
      let l = find-listed (waits_for_dependents r) w.tasks t found in
      let q = waits-so r t.state l.1 in
      rises_as P points t.who (task_of w t.who).state q.0 (begins p w t.who) (ap (λ u. u.state) (listed_is w t l.0 g t.who refl) ∙ q.1) h

  awaits-task : Points P → (name : Who) (w : World) → Fine p P A C w → waits_for_activation (waiting_of w name) ≡ true → IsTask name
  awaits-task points (who.Task n) w g is = tt
  awaits-task points who.Agent w g is = absurd (false≢true (sym (points.agent_waits w.agent.state (begins p w who.Agent) (g.points who.Agent)) ∙ is))

  module _ (fits : Fits p) (callings : Callings C) (points : Points P) {May : Naming} (free : Free P May) (stacks : Stacks A May) where
    fine-freely : (name : Who) (w : World) (g : Bool) → May name → P name (task_of w name).state (begins p w name) → P name (task_of w name).state g
    fine-freely name w g may h = free.freely name (task_of w name).state g may (points.tight name (task_of w name).state (begins p w name) h)

    fine-popped : (name : Who) (f : Frame) (w : World) → May name → top_of w name ≡ Some f → is_protected f.mark ≡ false → Fine p P A C w
        → Fine p P A C (pop name w)
    fine-popped name f w may top free_mark g =
        fine-edited name (λ t. with_frames (rest_of t.frames) t) w (λ t. refl) (λ t fit. fit)
        (λ is a. popped-marks A May stacks (subst May is may) w.agent.frames f (subst (λ n. top_of w n ≡ Some f) is top) free_mark a)
        (λ h. fine-freely name w (begins_sequence p (onward_in (rest_of (task_of w name).frames))) may h) g

    pub fine_moves : FineMoves p (Fine p P A C) May IsTask
    fine_moves = record {
      fits = fits;
      behind = λ a b g. g;
      moved = λ a b g. g;
      stays = λ w g. g;
      goes_on = λ a b c g h. h;
      says = λ part line w g h1. g;
      rests = λ w g. g;
      leads_on = λ a b c g h. h;
      settles = λ a b xs g. fine-plain b (placed_by (lines_of p xs) b) refl refl refl refl refl g;
      silently = λ a b g. g;
      task_other = λ n. tt;
      listed = λ w g. listed-tasks w.tasks w.drawn.tasks g.below;
      fitting = λ w g. g.units;
      awaits = λ name w g is. awaits-task points name w g is;
      edits_task =
          λ name f w g same_who same_frames same_state same_unit. fine-edited name f w same_who
          (λ t fit. fitting-alone p t (f t) (same_state t) (same_unit t) fit) (λ is a. subst (λ fs. A (natures fs)) (sym (same_frames w.agent)) a)
          (λ h. alone_point p P name (task_of w name) (f (task_of w name)) (same_state (task_of w name)) (same_frames (task_of w name)) h) g;
      edits_frames = λ name f w g same stays. fine-frames points name f w same stays g;
      goes = λ name onward w g may. fine-gone name onward w (λ h. fine-freely name w _ may h) g;
      pushes =
          λ name f w g may release abortable. fine-pushed name f w
          (λ is a. stacks.pushed (subst May is may) (nature f.mark) (natures w.agent.frames) release abortable a)
          (λ h. fine-freely name w (begins_sequence p f.onward) may h) g;
      pushes_other =
          λ name f w g may other. fine-pushed name f w (λ is a. absurd (subst IsTask is other)) (λ h. fine-freely name w (begins_sequence p f.onward) may h) g;
      opens_abortable =
          λ name f w g other plain. fine-pushed name f w (λ is a. absurd (subst IsTask is other))
          (λ h. plain_point p P points name (task_of w name).state f.onward (begins p w name) plain h) g;
      opens_task = λ name scope b w g other plain. opened_task-fine points name scope b opened_for.Task w g other plain;
      goes_plainly = λ name onward w g plain. fine-gone name onward w (λ h. gone_plainly p P points name (task_of w name) onward plain h) g;
      pops = λ name f w g may top free_mark. fine-popped name f w may top free_mark g;
      readies = λ name w g may. fine-stated name Runnable w (λ e. cc) (λ h. free.runs name (task_of w name).state (begins p w name) may h) g;
      readies_plainly = λ name w g plain. fine-stated name Runnable w (λ e. cc) (λ h. subst (P name Runnable) (sym plain) (points.wakes name)) g;
      readies_agent = λ w g. fine-stated who.Agent Runnable w (λ e. cc) (λ h. points.agent_rises w.agent.state (begins p w who.Agent) h) g;
      readies_master = λ r t w g found. fine-stated t.who Runnable w (λ e. cc) (λ h. master_point points r t w g found h) g;
      places = λ part name end w g. g;
      says_blocked = λ part name waiting w g. g;
      adds_task = λ t w g is none made fit. fine-added points t w is none made fit g;
      forgets_task = λ name w g. fine-forgotten points name w g;
      sets_quantum = λ level ticks w g. fine-plain w (record w { quanta = edit_at level (λ _. ticks) w.quanta }) refl refl refl refl refl g;
      ends_environment = λ leaving w g. fine-plain w (end_environment leaving w) refl refl refl refl refl g;
      begins_scope = λ name scope b w g. fine-plain w (begin_scope p name scope b w) refl refl refl refl refl g;
      edits_cells = λ id f w g. fine-plain w (edit_cells id f w) refl refl refl refl refl g;
      ends_scope = λ id w g. fine-plain w (end_scope id w) refl refl refl refl refl g;
      edits_call = λ c f w g number caller. fine-call_edited callings c f w number caller g;
      adds_call = λ c w g. fine-call_added callings c w g;
      forgets_call = λ c w g. fine-call_forgotten callings c w g;
      edits_object = λ o f w g h1 h2. fine-plain w (edit_object o f w) refl refl refl refl refl g;
      edits_any_object = λ o f w g. fine-plain w (edit_object o f w) refl refl refl refl refl g;
      adds_object =
          λ r l u w g.
          fine-plain w (record w { objects = new_object r l u (suc w.drawn.objects) ∷ w.objects; drawn = object_drawn w.drawn }) refl refl refl refl refl g;
      enters = λ name o mode w g. fine-plain w (open_action name o mode w) refl refl refl refl refl g;
      visits = λ name o mode xs w v g h. h;
      finds_held = λ name o mode w g. g;
      appoints = λ due moment w g. fine-plain w (appoint due moment w) refl refl refl refl refl g;
      drops_appointment = λ test w g. fine-plain w (drop_appointment test w) refl refl refl refl refl g;
      registers = λ r l w g. fine-plain w (registered_as (suc w.drawn.controlled) r l w) refl refl refl refl refl g;
      unregisters = λ n w g. fine-plain w (no_longer_registered n w) refl refl refl refl refl g;
      draws_event = λ w g. fine-plain w (record w { drawn = event_drawn w.drawn }) refl refl refl refl refl g;
      adds_timer = λ t w g. fine-plain w (with_timer t w) refl refl refl refl refl g;
      clears_timer = λ k w g. fine-plain w (clear_timer k w) refl refl refl refl refl g;
      sets_timer = λ k h value w g. fine-plain w (with_timer_set k h value w) refl refl refl refl refl g;
      sets_timers_due = λ timers w g. fine-plain w (record w { timers_due = timers }) refl refl refl refl refl g;
      adds_budget = λ w g. fine-plain w (with_budget w) refl refl refl refl refl g;
      edits_budget = λ b f w g. fine-plain w (edit_budget b f w) refl refl refl refl refl g;
      sets_budget_due = λ budget w g. fine-plain w (record w { budget_due = budget }) refl refl refl refl refl g;
      adds_release = λ h argument w g. fine-plain w (add_release h argument w) refl refl refl refl refl g;
      sets_port = λ n value w g. fine-plain w (with_port n value w) refl refl refl refl refl g;
      masks = λ n flag w g. fine-plain w (with_masked n flag w) refl refl refl refl refl g;
      keeps_interrupt = λ n flag w g. fine-plain w (with_kept_interrupt n flag w) refl refl refl refl refl g;
      cuts_script = λ x rest w g. fine-plain w (with_script rest w) refl refl refl refl refl g;
    }

    pub fine_pushes : (name : Who) (f : Frame) (w : World) → Fine p P A C w → May name → (nature f.mark).release ≡ None → (nature f.mark).abortable ≡ false
        → Fine p P A C (push name f w)
    fine_pushes name f w g may release abortable = fine_moves.pushes name f w g may release abortable

    pub fine_opens : (name : Who) (scope : ScopeNo) (b : Beginning) (purpose : Purpose) (w : World) → Fine p P A C w → May name
        → Fine p P A C (open_scope p name scope b purpose w)
    fine_opens name scope b purpose w g may =
        fine_moves.pushes name (new_frame (new_scope_mark (next_id w) (region_of_next (scope_of p scope).kept w) purpose) (scope_of p scope).first)
        (draw_region (scope_of p scope).kept (begin_scope p name scope b w)) (begun-fine name scope b w g) may refl refl
