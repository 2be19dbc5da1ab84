-- What is done while the agent serves a release leaves it ready and its marks as they are to stand. Of the colours of regions it
-- is only said that there are some, and that one region is coloured.
use Rattle.std.proofs.Common.{◌≡◌, suc, Bool, true, false, ◌||◌, List, [], ◌∷◌, Option, Some, None, is_some, refl, sym, ap, subst, ◌∙◌}
use Rattle.std.proofs.lemmas.Bool.{false≢true}
use Rattle.ann_base.specs.declared.identities.RegionNo.{RegionNo}
use Rattle.trace_text.specs.declared.events.Event.{Event}
use Rattle.trace_text.specs.declared.events.QueueEnd.{QueueEnd}
use Rattle.trace_text.specs.declared.events.Who.{Who}
use Rattle.world_tables.specs.Lists.{rest_of}
use Rattle.trace_text.specs.declared.events.Who.TheVariants as who
use Rattle.profile_image.specs.declared.image.Image.{Image}
use Rattle.profile_image.specs.declared.numbers.ScopeNo.{ScopeNo}
use Rattle.profile_image.specs.declared.numbers.StatementNo.{StatementNo}
use Rattle.profile_machine.specs.declared.world.World.{World}
use Rattle.profile_machine.specs.declared.world.marks.Frame.{Frame}
use Rattle.profile_machine.specs.declared.world.marks.Purpose.{Purpose}
use Rattle.profile_machine.specs.declared.world.scopes.Beginning.{Beginning}
use Rattle.profile_machine.specs.declared.world.lines.Part.{Part}
use Rattle.profile_machine.specs.declared.world.lines.Said.{Said}
use Rattle.profile_image.specs.Program.{scope_of}
use Rattle.profile_machine.specs.Tasks.{with_frames}
use Rattle.profile_machine.specs.Frames.{edit_first, goes_on, push, pop, new_frame, top_of, is_protected, in_protected}
use Rattle.profile_machine.specs.Scopes.{begin_scope, draw_region, region_of_next, open_scope, next_id, new_scope_mark}
use Rattle.profile_machine.specs.Protected.{new_protected_mark}
use Rattle.machine_laws.proofs.FineMoves.{FineMoves, Anybody, Nature, nature, natures, is_abortable, ready_line, gone_on}
use Rattle.machine_laws.proofs.FinestMoves.{FinestMoves, SettingMoves, setting_moves, MarkOpenings, finest, begun}
use Rattle.line_laws.proofs.Handlers.AgentLines.{placed_behind, placed_behind-append, are_calls, NoneBlocks, NoneBlocks-append, lines-call}
use Rattle.line_laws.proofs.Handlers.AgentWorlds.{IsTask, Colour, RegionOwned, MarksOwned, Apart}
use Rattle.line_laws.proofs.Handlers.AgentMarks.{Rooted, Stacking, rooted, rooted-unabortable, rooted-inside, has_top, rooted-pushed}
use Rattle.line_laws.proofs.Handlers.AgentMarks.{with_next, tasks-free, region-owned, marks-owned, next-drawn, next-none, next-owned}
use Rattle.line_laws.proofs.Handlers.SparedMoves.{visit-calm, agent_runs, Spared, coarse_spares, coarse_openings}

-- the agent serves, and its marks stand
pub record Busy (Stands : List Nature → Type 0) (held : Option RegionNo) (w : World) : Type 0 where
  pub colour : Colour
  pub apart : Apart colour w
  pub held_owned : RegionOwned colour held
  pub marks : Stands (natures w.agent.frames)
  pub runs : agent_runs w ≡ true
  pub serves : is_some w.serving ≡ true

pub record BusyStep (Stands : List Nature → Type 0) (held : Option RegionNo) (before : World) (lines : List Said) (after : World) : Type 0 where
  pub busy : Busy Stands held after
  pub calm : NoneBlocks lines

pub record BusyMove (Stands : List Nature → Type 0) (held : Option RegionNo) (before : World) (lines : List Event) (after : World) : Type 0 where
  pub busy : Busy Stands held after
  pub placed : placed_behind true lines ≡ true

natures-pushed : (Stands : List Nature → Type 0) → Stacking Stands → (n : Nature) (fs : List Frame) (f : Frame) (rest : List Frame) → fs ≡ f ∷ rest
    → n.release ≡ None → n.abortable ≡ false → Stands (natures fs) → Stands (n ∷ natures fs)
natures-pushed Stands stacking n fs f rest e release abortable h =
    subst (λ q. Stands (n ∷ natures q)) (sym e) (stacking.opened n (nature f.mark) (natures rest) release abortable (subst (λ q. Stands (natures q)) e h))

natures-popped : (Stands : List Nature → Type 0) → Stacking Stands → (fs : List Frame) (f : Frame) (rest : List Frame) → fs ≡ f ∷ rest
    → is_protected f.mark ≡ false → Stands (natures fs) → Stands (natures (rest_of fs))
natures-popped Stands stacking fs f rest e action h =
    subst (λ q. Stands (natures (rest_of q))) (sym e) (stacking.ended (nature f.mark) (natures rest) action (subst (λ q. Stands (natures q)) e h))

pub owned-popped : (colour : Colour) (fs : List Frame) → MarksOwned colour (natures fs) → MarksOwned colour (natures (rest_of fs))
owned-popped colour [] h = tt
owned-popped colour (f ∷ fs) h = h.1

no_region-owned : (colour : Colour) (r : Option RegionNo) → r ≡ None → RegionOwned colour r
no_region-owned colour r e = subst (RegionOwned colour) (sym e) tt

first-same : (onward : Option StatementNo) (fs : List Frame) → natures (edit_first (goes_on onward) fs) ≡ natures fs
first-same onward [] = refl
first-same onward (f ∷ fs) = refl

-- the marks of the agent are others
pub agent_marked : (colour : Colour) (w : World) (fs : List Frame) → Apart colour w → MarksOwned colour (natures fs)
    → Apart colour (record w { agent = with_frames fs w.agent })
agent_marked colour w fs a owned = record { tasks = a.tasks; marks = owned; attends = a.attends; drawn = a.drawn; none = a.none }

module _ {Stands : List Nature → Type 0} (stacking : Stacking Stands) (held : Option RegionNo) where
  abbrev G : World → Type 0
  G = Busy Stands held

  abbrev R : World → List Said → World → Type 0
  R = BusyStep Stands held

  -- what spares the agent
  pub spared : (a b : World) {lines : List Said} → (good : G a) → Spared good.colour true a lines b → R a lines b
  spared a b {lines} good s = record {
    busy = record {
      colour = good.colour;
      apart = s.apart;
      held_owned = good.held_owned;
      marks = subst Stands (sym s.marks_same) good.marks;
      runs = s.called ∙ ap (λ q. q || are_calls lines) good.runs;
      serves = ap is_some s.serving_same ∙ good.serves;
    };
    calm = s.calm;
  }

  -- marks of the agent
  pub own_pushed : (f : Frame) (w : World) → (good : G w) → Stands (nature f.mark ∷ natures w.agent.frames) → RegionOwned good.colour (nature f.mark).region
      → R w [] (push who.Agent f w)
  own_pushed f w good stands region = record {
    busy = record {
      colour = good.colour;
      apart = agent_marked good.colour w (f ∷ w.agent.frames) good.apart (region, good.apart.marks);
      held_owned = good.held_owned;
      marks = stands;
      runs = good.runs;
      serves = good.serves;
    };
    calm = tt;
  }

  own_pushed_on : (onward : Option StatementNo) (f g : Frame) (w : World) → G w → top_of w who.Agent ≡ Some g → (nature f.mark).region ≡ None
      → (nature f.mark).release ≡ None → (nature f.mark).abortable ≡ false → R w [] (push who.Agent f (gone_on who.Agent onward w))
  own_pushed_on onward f g w good top region release abortable =
      let found = has_top w.agent.frames g top in
      let stands : Stands (nature f.mark ∷ natures w.agent.frames) =
      natures-pushed Stands stacking (nature f.mark) w.agent.frames g found.0 found.1 release abortable good.marks in
      let same : natures (edit_first (goes_on onward) w.agent.frames) ≡ natures w.agent.frames = first-same onward w.agent.frames in
      record {
        busy = record {
          colour = good.colour;
          apart =
              agent_marked good.colour w (f ∷ edit_first (goes_on onward) w.agent.frames) good.apart (
                no_region-owned good.colour (nature f.mark).region region,
                subst (MarksOwned good.colour) (sym same) good.apart.marks,
              );
          held_owned = good.held_owned;
          marks = subst (λ ns. Stands (nature f.mark ∷ ns)) (sym same) stands;
          runs = good.runs;
          serves = good.serves;
        };
        calm = tt;
      }

  own_popped : (f : Frame) (w : World) → G w → top_of w who.Agent ≡ Some f → is_protected f.mark ≡ false → R w [] (pop who.Agent w)
  own_popped f w good top action =
      let found = has_top w.agent.frames f top in
      record {
        busy = record {
          colour = good.colour;
          apart = agent_marked good.colour w (rest_of w.agent.frames) good.apart (owned-popped good.colour w.agent.frames good.apart.marks);
          held_owned = good.held_owned;
          marks = natures-popped Stands stacking w.agent.frames f found.0 found.1 action good.marks;
          runs = good.runs;
          serves = good.serves;
        };
        calm = tt;
      }

  pushed_on : (name : Who) (onward : Option StatementNo) (f g : Frame) (w : World) → G w → top_of w name ≡ Some g → (nature f.mark).region ≡ None
      → (nature f.mark).release ≡ None → (nature f.mark).abortable ≡ false → R w [] (push name f (gone_on name onward w))
  pushed_on (who.Task n) onward f g w good top region release abortable =
      spared w _ good ((coarse_spares good.colour true).pushes_on (who.Task n) onward f g w good.apart tt top region release abortable)
  pushed_on who.Agent onward f g w good top region release abortable = own_pushed_on onward f g w good top region release abortable

  popped : (name : Who) (f : Frame) (w : World) → G w → top_of w name ≡ Some f → is_protected f.mark ≡ false → R w [] (pop name w)
  popped (who.Task n) f w good top action = spared w _ good ((coarse_spares good.colour true).pops (who.Task n) f w good.apart tt top action)
  popped who.Agent f w good top action = own_popped f w good top action

  placed : (p : Image) (part : Part) (name : Who) (end : QueueEnd) (w : World) → G w → R w (ready_line p part name end w ∷ []) w
  placed p part (who.Task n) end w good = record { busy = good; calm = (refl, tt) }
  placed p part who.Agent end w good = record { busy = good; calm = (refl, tt) }

  pub coarse_busies : FineMoves (Busy Stands held) Anybody IsTask (BusyStep Stands held) (BusyMove Stands held)
  coarse_busies = record {
    behind = λ a b h. h.busy;
    moved = λ a b h. h.busy;
    stays = λ w g. record { busy = g; calm = tt };
    goes_on = λ a b c {xs} {ys} h k. record { busy = k.busy; calm = NoneBlocks-append xs ys h.calm k.calm };
    says = λ part line w g apart. spared w w g ((coarse_spares g.colour true).says part line w g.apart apart);
    rests = λ w g. record { busy = g; placed = refl };
    leads_on = λ a b c {xs} {ys} h k. record { busy = k.busy; placed = placed_behind-append true xs ys ∙ ap (λ q. placed_behind q ys) h.placed ∙ k.placed };
    settles = λ p a b xs h. record {
      busy = record {
        colour = h.busy.colour;
        apart = record {
          tasks = h.busy.apart.tasks;
          marks = h.busy.apart.marks;
          attends = h.busy.apart.attends;
          drawn = h.busy.apart.drawn;
          none = h.busy.apart.none;
        };
        held_owned = h.busy.held_owned;
        marks = h.busy.marks;
        runs = h.busy.runs;
        serves = h.busy.serves;
      };
      placed = lines-call p true xs h.calm;
    };
    silently = λ a b h. record { busy = h.busy; placed = refl };
    other_may = λ name o. tt;
    task_other = λ n. tt;
    listed = λ w g. (coarse_spares g.colour true).listed w g.apart;
    awaits = λ name w g is. (coarse_spares g.colour true).awaits name w g.apart is;
    edits_task =
        λ name f w g same_who same_frames same_state same_master.
        spared w _ g ((coarse_spares g.colour true).edits_task name f w g.apart same_who same_frames same_state same_master);
    edits_frames = λ name f w g same. spared w _ g ((coarse_spares g.colour true).edits_frames name f w g.apart same);
    pushes_on = λ name onward f h w g may top region release abortable. pushed_on name onward f h w g top region release abortable;
    opens_abortable = λ name f w g o region release. spared w _ g ((coarse_spares g.colour true).opens_abortable name f w g.apart o region release);
    pops = λ name f w g may top action. popped name f w g top action;
    readies = λ name w g o. spared w _ g ((coarse_spares g.colour true).readies name w g.apart o);
    blocks = λ name waiting w g o. spared w _ g ((coarse_spares g.colour true).blocks name waiting w g.apart o);
    places = λ p part name end w g may. placed p part name end w g;
    says_blocked = λ part name waiting w g o. spared w w g ((coarse_spares g.colour true).says_blocked part name waiting w g.apart o);
    adds_task =
        λ name onward t w g o same_who none master. spared w _ g ((coarse_spares g.colour true).adds_task name onward t w g.apart o same_who none master);
    forgets_task = λ name w g. spared w _ g ((coarse_spares g.colour true).forgets_task name w g.apart);
    sets_quantum = λ level ticks w g. spared w _ g ((coarse_spares g.colour true).sets_quantum level ticks w g.apart);
    ends_environment = λ leaving w g. spared w _ g ((coarse_spares g.colour true).ends_environment leaving w g.apart);
    begins_scope = λ p name scope b w g. spared w _ g ((coarse_spares g.colour true).begins_scope p name scope b w g.apart);
    edits_cells = λ id f w g. spared w _ g ((coarse_spares g.colour true).edits_cells id f w g.apart);
    ends_scope = λ id w g. spared w _ g ((coarse_spares g.colour true).ends_scope id w g.apart);
    edits_call = λ c f w g same. spared w _ g ((coarse_spares g.colour true).edits_call c f w g.apart same);
    adds_call = λ c w g. spared w _ g ((coarse_spares g.colour true).adds_call c w g.apart);
    forgets_call = λ c w g. spared w _ g ((coarse_spares g.colour true).forgets_call c w g.apart);
    edits_object = λ o f w g number actions. spared w _ g ((coarse_spares g.colour true).edits_object o f w g.apart number actions);
    adds_object = λ p l u w g. spared w _ g ((coarse_spares g.colour true).adds_object p l u w g.apart);
    enters = λ name o mode w g h. spared w _ g ((coarse_spares g.colour true).enters name o mode w g.apart h);
    visits = λ name o mode xs w v g h quiet k. record { busy = k.busy; calm = visit-calm name o mode xs quiet };
    finds_held = λ name o mode w g h. spared w w g ((coarse_spares g.colour true).finds_held name o mode w g.apart h);
    appoints = λ due moment w g later. spared w _ g ((coarse_spares g.colour true).appoints due moment w g.apart later);
    drops_appointment = λ test w g. spared w _ g ((coarse_spares g.colour true).drops_appointment test w g.apart);
    registers = λ r l w g. spared w _ g ((coarse_spares g.colour true).registers r l w g.apart);
    unregisters = λ n w g. spared w _ g ((coarse_spares g.colour true).unregisters n w g.apart);
    draws_event = λ w g. spared w _ g ((coarse_spares g.colour true).draws_event w g.apart);
    adds_timer = λ t w g. spared w _ g ((coarse_spares g.colour true).adds_timer t w g.apart);
    clears_timer = λ k w g. spared w _ g ((coarse_spares g.colour true).clears_timer k w g.apart);
    sets_timer = λ k h value w g. spared w _ g ((coarse_spares g.colour true).sets_timer k h value w g.apart);
    sets_timers_due = λ timers w g. spared w _ g ((coarse_spares g.colour true).sets_timers_due timers w g.apart);
    adds_budget = λ w g. spared w _ g ((coarse_spares g.colour true).adds_budget w g.apart);
    edits_budget = λ b f w g. spared w _ g ((coarse_spares g.colour true).edits_budget b f w g.apart);
    sets_budget_due = λ budget w g. spared w _ g ((coarse_spares g.colour true).sets_budget_due budget w g.apart);
    sets_port = λ n value w g. spared w _ g ((coarse_spares g.colour true).sets_port n value w g.apart);
    masks = λ n flag w g. spared w _ g ((coarse_spares g.colour true).masks n flag w g.apart);
    keeps_interrupt = λ n flag w g. spared w _ g ((coarse_spares g.colour true).keeps_interrupt n flag w g.apart);
    cuts_script = λ x rest w g is due. spared w _ g ((coarse_spares g.colour true).cuts_script x rest w g.apart is due);
  }

  pub busies : FinestMoves (Busy Stands held) Anybody IsTask (BusyStep Stands held) (BusyMove Stands held)
  busies = finest coarse_busies

  pub busy_settings : SettingMoves (Busy Stands held) (BusyStep Stands held)
  busy_settings = setting_moves coarse_busies

-- ---- the agent opens marks above its action

module _ (held : Option RegionNo) where
  own_above : (f : Frame) (w : World) → Busy Rooted held w → (nature f.mark).region ≡ None → (nature f.mark).release ≡ None → (nature f.mark).abortable ≡ false
      → BusyStep Rooted held w [] (push who.Agent f w)
  own_above f w good region release abortable =
      own_pushed rooted held f w good (rooted-pushed (nature f.mark) (natures w.agent.frames) release abortable good.marks)
      (no_region-owned good.colour (nature f.mark).region region)

  pushed_above : (name : Who) (f : Frame) (w : World) → Busy Rooted held w → (nature f.mark).region ≡ None → (nature f.mark).release ≡ None
      → (nature f.mark).abortable ≡ false → BusyStep Rooted held w [] (push name f w)
  pushed_above (who.Task n) f w good region release abortable =
      spared rooted held w _ good ((coarse_openings good.colour true).pushes (who.Task n) f w good.apart tt region release abortable)
  pushed_above who.Agent f w good region release abortable = own_above f w good region release abortable

  -- a scope of the agent draws a coloured region
  own_drawn : (f : Frame) (w : World) → Busy Rooted held w → (nature f.mark).region ≡ Some (record { 0 = suc w.drawn.regions }) → (nature f.mark).release ≡ None
      → (nature f.mark).abortable ≡ false → BusyStep Rooted held w [] (push who.Agent f (draw_region true w))
  own_drawn f w good region release abortable =
      let drawn = w.drawn.regions in
      let coloured = with_next drawn good.colour in
      record {
        busy = record {
          colour = coloured;
          apart = record {
            tasks = tasks-free good.colour drawn w.tasks good.apart.tasks;
            marks = (
              subst (RegionOwned coloured) (sym region) (next-owned good.colour drawn),
              marks-owned good.colour drawn (natures w.agent.frames) good.apart.marks,
            );
            attends = good.apart.attends;
            drawn = next-drawn good.colour drawn good.apart.drawn;
            none = next-none good.colour drawn good.apart.none;
          };
          held_owned = region-owned good.colour drawn held good.held_owned;
          marks = rooted-pushed (nature f.mark) (natures w.agent.frames) release abortable good.marks;
          runs = good.runs;
          serves = good.serves;
        };
        calm = tt;
      }

  -- whatever was before
  from_before : (v w : World) {lines : List Said} (u : World) → BusyStep Rooted held v lines u → BusyStep Rooted held w lines u
  from_before v w u s = record { busy = s.busy; calm = s.calm }

  own_opened : (kept : Bool) (purpose : Purpose) (first : Option StatementNo) (w v : World) → Busy Rooted held v → v.drawn.regions ≡ w.drawn.regions
      → BusyStep Rooted held w [] (push who.Agent (new_frame (new_scope_mark (next_id w) (region_of_next kept w) purpose) first) (draw_region kept v))
  own_opened false purpose first w v good e =
      let f = new_frame (new_scope_mark (next_id w) None purpose) first in
      from_before v w (push who.Agent f v) (own_above f v good refl refl refl)
  own_opened true purpose first w v good e =
      let f = new_frame (new_scope_mark (next_id w) (region_of_next true w) purpose) first in
      from_before v w (push who.Agent f (draw_region true v)) (own_drawn f v good (ap (λ n. Some (record { 0 = suc n })) (sym e)) refl refl)

  scope_opened : (p : Image) (name : Who) (scope : ScopeNo) (b : Beginning) (purpose : Purpose) (w : World) → Busy Rooted held w
      → BusyStep Rooted held w [] (open_scope p name scope b purpose w)
  scope_opened p (who.Task n) scope b purpose w good =
      spared rooted held w _ good ((coarse_openings good.colour true).opens_scope p (who.Task n) scope b purpose w good.apart tt)
  scope_opened p who.Agent scope b purpose w good =
      own_opened (scope_of p scope).kept purpose (scope_of p scope).first w (begin_scope p who.Agent scope b w)
      ((busies rooted held).begins_scope p who.Agent scope b w good).busy refl

  pub busy-inside : (w : World) → Busy Rooted held w → in_protected w who.Agent ≡ true
  busy-inside w good = rooted-inside w.agent.frames good.marks

  outside_task : (name : Who) (w : World) → Busy Rooted held w → in_protected w name ≡ false → IsTask name
  outside_task (who.Task n) w good e = tt
  outside_task who.Agent w good e = absurd (false≢true (sym e ∙ busy-inside w good))

  pub no_part : (f : Frame) (w : World) → Busy Rooted held w → top_of w who.Agent ≡ Some f → is_abortable f.mark ≡ false
  no_part f w good top =
      let found = has_top w.agent.frames f top in
      rooted-unabortable (nature f.mark) (natures found.0) (subst (λ fs. Rooted (natures fs)) found.1 good.marks)

  part_of_task : (name : Who) (f : Frame) (w : World) → Busy Rooted held w → top_of w name ≡ Some f → is_abortable f.mark ≡ true → IsTask name
  part_of_task (who.Task n) f w good top e = tt
  part_of_task who.Agent f w good top e = absurd (false≢true (sym (no_part f w good top) ∙ e))

  pub busy_openings : MarkOpenings (Busy Rooted held) Anybody IsTask (BusyStep Rooted held)
  busy_openings = record {
    pushes = λ name f w g may region release action abortable. pushed_above name f w g region release abortable;
    begins =
        λ name o mode call may w v xs g lets placed k. begun (coarse_busies rooted held) name o mode call None
        (λ u good. pushed_above name (new_frame (new_protected_mark o mode call None) None) u good refl refl refl) w v xs g lets placed k;
    opens_scope = λ p name scope b purpose w g may. scope_opened p name scope b purpose w g;
    outside = λ name w g may e. outside_task name w g e;
    within_part = λ name f w g may top e. part_of_task name f w g top e;
  }
