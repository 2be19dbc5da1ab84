-- The effect of an action of the agent: behind it the agent is ready exactly where it serves a release or one is pending.
use Rattle.std.proofs.Common.{◌≡◌, ℕ, ◌+◌, Bool, true, false, not, ◌||◌, List, [], ◌∷◌, ◌++◌, Option, Some, None}
use Rattle.std.proofs.Common.{is_some, refl, sym, ap, subst, ◌∙◌, option_and_then, append_assoc, append-nil}
use Rattle.std.proofs.lemmas.Bool.{false≢true}
use Rattle.ann_base.specs.declared.identities.ObjectNo.{ObjectNo}
use Rattle.trace_text.specs.declared.events.Mode.TheVariants.{Write}
use Rattle.trace_text.specs.declared.events.Who.TheVariants as who
use Rattle.profile_image.specs.declared.image.Image.{Image}
use Rattle.profile_image.specs.declared.numbers.StatementNo.{StatementNo}
use Rattle.profile_machine.specs.declared.world.World.{World}
use Rattle.profile_machine.specs.declared.world.appointments.Release.{Release}
use Rattle.profile_machine.specs.declared.world.marks.Frame.{Frame}
use Rattle.profile_machine.specs.declared.world.marks.Mark.{Mark}
use Rattle.profile_machine.specs.declared.world.marks.Mark.TheVariants.{Scope, Handled, InProtected, InAccept, Abortable, InInitialize, InFinalize, InAssign}
use Rattle.profile_machine.specs.declared.world.marks.Purpose.TheVariants as opened_for
use Rattle.profile_machine.specs.declared.world.marks.ResultTo.TheVariants as bound_for
use Rattle.profile_machine.specs.declared.world.objects.Entering.{Entering}
use Rattle.profile_machine.specs.declared.world.objects.Entering.TheVariants as entering_is
use Rattle.profile_machine.specs.declared.world.tasks.Cause.TheVariants as inherited_by
use Rattle.profile_machine.specs.declared.world.tasks.State.{State}
use Rattle.profile_machine.specs.declared.world.tasks.State.TheVariants.{Made, Runnable, Blocked}
use Rattle.profile_machine.specs.declared.world.tasks.Waiting.{Waiting}
use Rattle.profile_machine.specs.declared.world.tasks.Waiting.TheVariants as waits_for
use Rattle.profile_machine.specs.declared.world.lines.Line.TheVariants as said
use Rattle.profile_machine.specs.declared.world.lines.Part.TheVariants.{Own}
use Rattle.profile_machine.specs.declared.world.lines.Said.{Said}
use Rattle.world_tables.specs.Lists.{first_of}
use Rattle.ann_base.specs.Lists.{is_empty}
use Rattle.profile_image.specs.Program.{form_of, marks_of, subprogram_of, size_of_body}
use Rattle.profile_machine.specs.Steps.{Step, says, changes, looks, when, ◌▷◌}
use Rattle.profile_machine.specs.Tasks.{edit_task, with_ticks, waiting_in, waiting_of, is_runnable}
use Rattle.profile_machine.specs.Frames.{top_of, push, new_frame, has_room, is_protected, leaving_of, open_at, onward_of, open_sequence, open_if_ready}
use Rattle.profile_machine.specs.Scopes.{open_scope}
use Rattle.profile_machine.specs.Inheritance.{inherit_running}
use Rattle.profile_machine.specs.Values.{object_of}
use Rattle.profile_machine.specs.Protected.{entering, new_protected_mark, open_action, begin_action_on, ceiling_of, find_held, body_of_object}
use Rattle.profile_machine.specs.Serving.{end_release}
use Rattle.profile_machine.specs.Masters.{waits_at_terminate}
use Rattle.profile_machine.specs.Tasking.{block_at_terminate, take_terminates, unwind_all}
use Rattle.profile_machine.specs.Handlers.{argument_values, begin_handler, begin_handler_if_room, enter_handler, call_handler, release}
use Rattle.profile_machine.specs.Act.{end_mark, act_frame, act_without, act_top, act}
use Rattle.profile_machine.specs.Instant.{effect}
use Rattle.machine_laws.proofs.Moves.{LetsIn, Puts, own}
use Rattle.machine_laws.proofs.FineMoves.{Nature, nature, natures}
use Rattle.machine_laws.proofs.Kept.Frames.{open_sequence-keeps}
use Rattle.machine_laws.proofs.Kept.Inheritance.{inherit_running-keeps}
use Rattle.machine_laws.proofs.Kept.Entering.{entering-inside, entering-held}
use Rattle.machine_laws.proofs.Kept.Protected.{find_held-from}
use Rattle.machine_laws.proofs.Kept.Tasking.{all_terminate-keeps, unwind_all-keeps}
use Rattle.machine_laws.proofs.Kept.Handlers.{Releasing}
use Rattle.line_laws.proofs.Handlers.AgentLines.{are_calls, NoneBlocks, NoneBlocks-append}
use Rattle.line_laws.proofs.Handlers.AgentWorlds.{Colour, RegionOwned, Attends, Apart}
use Rattle.line_laws.proofs.Handlers.AgentMarks.{Rooted, Standing, Emptied, rooted, emptied, stands_rooted}
use Rattle.line_laws.proofs.Handlers.SparedMoves.{agent_runs, Spared, spares, spared_puts}
use Rattle.line_laws.proofs.Handlers.SparedReleases.{release-from}
use Rattle.line_laws.proofs.Handlers.OwnMoves.{Busy, BusyStep, coarse_busies, busies, busy_settings, busy_openings, spared}
use Rattle.machine_laws.proofs.Kept.Act.{act_statement-keeps}
use Rattle.line_laws.proofs.Handlers.Mixed.{from_by, keeps_at, then_by, looks_by, when_by, either_by, nothing_by, changes_by, changes_then}
use Rattle.line_laws.proofs.Handlers.Attending.{Marked, Attending, Placing, calm_so, closes_so, called-append, or_false}
use Rattle.line_laws.proofs.Handlers.Attending.{Acted, busy-attends, busy-acted, attending-spared, then_spared}
use Rattle.line_laws.proofs.Handlers.AgentEnds.{own_end-from}
use Rattle.line_laws.proofs.Handlers.AgentServes.{emptied-stands, end_release-from, action_end-from}
use Rattle.machine_laws.proofs.FinestMoves.{chains}
use Rattle.machine_laws.proofs.Kept.Combinators.{From, Keeps, Kept, keeps-from, looks-keeps, then-keeps}

-- ---- the handler of the release is called

busy_on : (Stands Last : List Nature → Type 0) (a b c : World) (xs ys : List Said) → BusyStep Stands None a xs b → BusyStep Last None b ys c
    → BusyStep Last None a (xs ++ ys) c
busy_on Stands Last a b c xs ys h k = record { busy = k.busy; calm = NoneBlocks-append xs ys h.calm k.calm }

-- the mark of its action
first_mark : (mark : Mark) (w : World) → (good : Busy Emptied None w) → (nature mark).action ≡ true → (nature mark).abortable ≡ false
    → is_some (nature mark).release ≡ true → (nature mark).region ≡ None → BusyStep Rooted None w [] (push who.Agent (new_frame mark None) w)
first_mark mark w good action abortable release region = record {
  busy = record {
    colour = good.colour;
    apart = record {
      tasks = good.apart.tasks;
      marks = (subst (λ r. RegionOwned good.colour r) (sym region) tt, good.apart.marks);
      attends = good.apart.attends;
      drawn = good.apart.drawn;
      none = good.apart.none;
    };
    held_owned = tt;
    marks = subst (λ ns. Rooted (nature mark ∷ ns)) (sym good.marks) (action, abortable, release);
    runs = good.runs;
    serves = good.serves;
  };
  calm = tt;
}

told-from : (o : ObjectNo) (w : World) → Busy Emptied None w → LetsIn who.Agent o Write w
    → From (BusyStep Emptied None) w (says Own (said.Enter who.Agent o Write) ▷ changes (open_action who.Agent o Write))
unfolding From Kept
told-from o w good h before = (own (said.Enter who.Agent o Write) ∷ [], refl, (coarse_busies emptied None).enters who.Agent o Write w good h)

action-from : (p : Image) (o : ObjectNo) (n : ℕ) (w : World) → Busy Emptied None w → LetsIn who.Agent o Write w
    → From (BusyStep Rooted None) w (begin_action_on p who.Agent o Write None (Some n))
unfolding begin_action_on
action-from p o n w good h =
    let mark = new_protected_mark o Write None (Some n) in
    let inherits = looks (λ v. inherit_running p who.Agent (inherited_by.Ceiling o) (ceiling_of (object_of v o))) in
    then_by (BusyStep Emptied None) (BusyStep Rooted None) (BusyStep Rooted None)
    (says Own (said.Enter who.Agent o Write) ▷ changes (open_action who.Agent o Write)) (inherits ▷ changes (push who.Agent (new_frame mark None))) w
    (λ v u xs zs s k. busy_on Emptied Rooted w v u xs zs s k)
    (told-from o w good h)
    (λ v xs s. then_by (BusyStep Emptied None) (BusyStep Rooted None) (BusyStep Rooted None) inherits (changes (push who.Agent (new_frame mark None))) v
    (λ u t ys zs k l. busy_on Emptied Rooted v u t ys zs k l)
    (keeps-from (chains (busies emptied None)) inherits v s.busy
    (looks-keeps (chains (busies emptied None)) (λ u. inherit_running p who.Agent (inherited_by.Ceiling o) (ceiling_of (object_of u o)))
    (λ u. inherit_running-keeps (busies emptied None) p who.Agent (inherited_by.Ceiling o) (ceiling_of (object_of u o)) tt)))
    (λ u ys k. changes_by (BusyStep Rooted None) (push who.Agent (new_frame mark None)) u (first_mark mark u k.busy refl refl refl refl)))

handler-from : (p : Image) (r : Release) (w : World) → Busy Emptied None w → LetsIn who.Agent r.handler.object Write w → From Acted w (begin_handler p r)
unfolding begin_handler
handler-from p r w good h =
    let scope = (subprogram_of p r.handler.procedure).scope in
    let body = λ (v : World). body_of_object p v scope r.handler.object None (argument_values r.argument) in
    let opens = λ (v : World). changes (open_scope p who.Agent scope (body v) (opened_for.Subprogram [] bound_for.Nowhere)) in
    from_by (BusyStep Rooted None) Acted (begin_action_on p who.Agent r.handler.object Write None (Some r.number) ▷ looks opens) w
    (λ v xs s. busy-acted Rooted stands_rooted None w xs v good.runs s)
    (then_by (BusyStep Rooted None) (BusyStep Rooted None) (BusyStep Rooted None) (begin_action_on p who.Agent r.handler.object Write None (Some r.number))
    (looks opens) w
    (λ v u xs zs s k. busy_on Rooted Rooted w v u xs zs s k)
    (action-from p r.handler.object r.number w good h)
    (λ v xs s. looks_by (BusyStep Rooted None) opens v
    (changes_by (BusyStep Rooted None) (open_scope p who.Agent scope (body v) (opened_for.Subprogram [] bound_for.Nowhere)) v
    ((busy_openings None).opens_scope p who.Agent scope (body v) (opened_for.Subprogram [] bound_for.Nowhere) v s.busy tt))))

if_room-from : (p : Image) (r : Release) (w : World) → Busy Emptied None w → LetsIn who.Agent r.handler.object Write w
    → From Acted w (begin_handler_if_room p r)
unfolding begin_handler_if_room
if_room-from p r w good h =
    let room = λ (v : World). has_room v who.Agent (1 + marks_of p (subprogram_of p r.handler.procedure).scope) (size_of_body p r.handler.procedure) in
    looks_by Acted (λ v. elim (room v) as (λ _. Step) [ true ↦ begin_handler p r | false ↦ end_release r.number ]) w
    (either_by Acted (room w) (begin_handler p r) (end_release r.number) w (handler-from p r w good h) (end_release-from r.number w good))

enters-from : (p : Image) (r : Release) (is : Entering) (w : World) → Busy Emptied None w → entering p w who.Agent r.handler.object Write ≡ is
    → From Acted w (enter_handler p r is)
unfolding enter_handler
enters-from p r entering_is.SameObject w good e = end_release-from r.number w good
enters-from p r entering_is.AboveCeiling w good e = end_release-from r.number w good
enters-from p r entering_is.Held w good e =
    from_by (BusyStep Emptied None) Acted (find_held p who.Agent r.handler.object Write) w (λ v xs s. busy-acted Emptied emptied-stands None w xs v good.runs s)
    (find_held-from (busies emptied None) p who.Agent r.handler.object Write w good tt (entering-held p w who.Agent r.handler.object Write e))
enters-from p r entering_is.Inside w good e = if_room-from p r w good (entering-inside p w who.Agent r.handler.object Write e)

call_handler-from : (p : Image) (r : Release) (w : World) → Busy Emptied None w → From Acted w (call_handler p r)
unfolding call_handler
call_handler-from p r w good =
    looks_by Acted (λ v. enter_handler p r (entering p v who.Agent r.handler.object Write)) w
    (enters-from p r (entering p w who.Agent r.handler.object Write) w good refl)

-- ---- the first item of its rest

busy_releasing : Releasing (Busy Rooted None) (BusyStep Rooted None)
unfolding Keeps From
busy_releasing = record {
  releases =
      λ p h argument w good. from_by (Spared good.colour true) (BusyStep Rooted None) (release p Own h argument) w (λ v xs s. spared rooted None w v good s)
      (release-from good.colour p h argument w good.apart);
}

busy_puts : (p : Image) → Puts (Busy Rooted None) (BusyStep Rooted None) p
busy_puts p = record {
  puts = λ name s pieces text v w good form is. spared rooted None w w good ((spared_puts good.colour true p).puts name s pieces text v w good.apart form is);
}

statement-from : (p : Image) (f : Frame) (s : StatementNo) (w : World) → Busy Rooted None w → From Acted w (act_frame p who.Agent f (Some s))
unfolding act_frame
statement-from p f s w good =
    from_by (BusyStep Rooted None) Acted _ w (λ v xs k. busy-acted Rooted stands_rooted None w xs v good.runs k)
    (keeps-from (chains (busies rooted None)) _ w good
    (act_statement-keeps (busies rooted None) (busy_openings None) (busy_settings rooted None) busy_releasing p (busy_puts p) who.Agent s
    (form_of p s) tt refl))

-- the end of a mark on top
unaction-from : (p : Image) (f : Frame) (mark : Mark) (w : World) → Busy Rooted None w → top_of w who.Agent ≡ Some f → f.mark ≡ mark → is_protected mark ≡ false
    → From Acted w (end_mark p who.Agent f mark)
unaction-from p f mark w good top is free =
    from_by (BusyStep Rooted None) Acted (end_mark p who.Agent f mark) w (λ v xs s. busy-acted Rooted stands_rooted None w xs v good.runs s)
    (own_end-from p f mark w good top is free)

end-from : (p : Image) (f : Frame) (mark : Mark) (w : World) → Busy Rooted None w → top_of w who.Agent ≡ Some f → f.mark ≡ mark
    → From Acted w (end_mark p who.Agent f mark)
unfolding end_mark
end-from p f (InProtected m) w good top is = action_end-from p m (leaving_of f) f w good top is
end-from p f (Scope m) w good top is = unaction-from p f (Scope m) w good top is refl
end-from p f (Handled s) w good top is = unaction-from p f (Handled s) w good top is refl
end-from p f (InAccept m) w good top is = unaction-from p f (InAccept m) w good top is refl
end-from p f (Abortable m) w good top is = unaction-from p f (Abortable m) w good top is refl
end-from p f (InInitialize l) w good top is = unaction-from p f (InInitialize l) w good top is refl
end-from p f (InFinalize o) w good top is = unaction-from p f (InFinalize o) w good top is refl
end-from p f (InAssign m) w good top is = unaction-from p f (InAssign m) w good top is refl

act_frame-from : (p : Image) (f : Frame) (next : Option StatementNo) (w : World) → Busy Rooted None w → top_of w who.Agent ≡ Some f
    → From Acted w (act_frame p who.Agent f next)
unfolding act_frame
act_frame-from p f (Some s) w good top = statement-from p f s w good
act_frame-from p f None w good top = end-from p f f.mark w good top refl

-- ---- an action of the agent

busy_of : (Stands : List Nature → Type 0) (w : World) (r : Release) → (h : Attending w) → w.serving ≡ Some r → Stands (natures w.agent.frames)
    → Busy Stands None w
busy_of Stands w r h e stands = record {
  colour = h.colour;
  apart = h.apart;
  held_owned = tt;
  marks = stands;
  runs = h.attends ∙ ap (λ q. is_some q || not (is_empty w.releases)) e;
  serves = ap is_some e;
}

acts_stay : (w : World) → Attending w → Acted w [] w
acts_stay w h = record { attending = h; placing = calm_so tt (sym (or_false (agent_runs w))) }

without-from : (p : Image) (serving : Option Release) (w : World) → w.serving ≡ serving → natures w.agent.frames ≡ [] → Attending w
    → From Acted w (act_without p who.Agent serving)
unfolding act_without
without-from p None w e none h = nothing_by Acted w (acts_stay w h)
without-from p (Some r) w e none h = call_handler-from p r w (busy_of Emptied w r h e none)

-- its marks stand, and it serves
marked-rooted : (serving : Option Release) (n : Nature) (ns : List Nature) → Marked serving (n ∷ ns) → (r : Release) × (serving ≡ Some r) × Rooted (n ∷ ns)
marked-rooted None n ns h = absurd cc
marked-rooted (Some r) n ns h = (r, refl, h)

top-from : (p : Image) (fs : List Frame) (w : World) → w.agent.frames ≡ fs → Attending w → From Acted w (act_top p who.Agent (first_of fs))
unfolding act_top
top-from p [] w e h = looks_by Acted (λ v. act_without p who.Agent v.serving) w (without-from p w.serving w refl (ap natures e) h)
top-from p (f ∷ fs) w e h =
    let found = marked-rooted w.serving (nature f.mark) (natures fs) (subst (λ q. Marked w.serving (natures q)) e h.marks) in
    let busy = busy_of Rooted w found.0 h found.1 (subst (λ q. Rooted (natures q)) (sym e) found.2) in
    act_frame-from p f f.onward w busy (ap first_of e)

pub act-from : (p : Image) (w : World) → Attending w → From Acted w (act p who.Agent)
unfolding act
act-from p w h = looks_by Acted (λ v. act_top p who.Agent (top_of v who.Agent)) w (top-from p w.agent.frames w refl h)

-- ---- what stands behind it in its effect

-- it goes on with the sequence to which it has come, where it is ready
data Opened (before : World) (lines : List Said) (after : World) : Type 0 where
  closed : agent_runs before ≡ false → lines ≡ [] → after ≡ before → Opened before lines after
  opened : agent_runs before ≡ true → NoneBlocks lines → agent_runs after ≡ true → Attending after → Opened before lines after

busy-opened : (Stands : List Nature → Type 0) → ((ns : List Nature) → Stands ns → Standing ns) → (a b : World) (xs : List Said) → agent_runs a ≡ true
    → BusyStep Stands None a xs b → Opened a xs b
busy-opened Stands stand a b xs runs s = opened runs s.calm s.busy.runs (busy-attends Stands stand None b s.busy)

opens_at-none : (p : Image) (w : World) → agent_runs w ≡ true → Attending w → natures w.agent.frames ≡ [] → (next : Option StatementNo) → next ≡ None
    → From Opened w (open_at p Own who.Agent next)
unfolding open_at
opens_at-none p w runs h none None e = nothing_by Opened w (opened runs tt runs h)
opens_at-none p w runs h none (Some s) e = cc

opening-from : (p : Image) (w : World) → Busy Rooted None w → From (BusyStep Rooted None) w (looks (λ v. open_at p Own who.Agent (onward_of v who.Agent)))
unfolding open_sequence
opening-from p w good =
    keeps-from (chains (busies rooted None)) (open_sequence p Own who.Agent) w good (open_sequence-keeps (busies rooted None) p Own who.Agent tt)

-- with marks it opens what stands above them
sequence_above-from : (p : Image) (w : World) → Busy Rooted None w → From Opened w (looks (λ v. open_at p Own who.Agent (onward_of v who.Agent)))
sequence_above-from p w good =
    from_by (BusyStep Rooted None) Opened _ w (λ v xs s. busy-opened Rooted stands_rooted w v xs good.runs s) (opening-from p w good)

sequence-from : (p : Image) (fs : List Frame) (serving : Option Release) (w : World) → w.agent.frames ≡ fs → w.serving ≡ serving → agent_runs w ≡ true
    → Attending w → From Opened w (open_sequence p Own who.Agent)
unfolding open_sequence
sequence-from p [] serving w e is runs h =
    looks_by Opened (λ v. open_at p Own who.Agent (onward_of v who.Agent)) w
    (opens_at-none p w runs h (ap natures e) (onward_of w who.Agent) (ap (λ q. option_and_then (λ f. f.onward) (first_of q)) e))
sequence-from p (f ∷ fs) serving w e is runs h =
    let found = marked-rooted w.serving (nature f.mark) (natures fs) (subst (λ q. Marked w.serving (natures q)) e h.marks) in
    let busy = busy_of Rooted w found.0 h found.1 (subst (λ q. Rooted (natures q)) (sym e) found.2) in
    sequence_above-from p w busy

sequence_if-from : (p : Image) (w : World) → Attending w → From Opened w (open_if_ready p who.Agent)
unfolding open_if_ready
sequence_if-from p w h =
    looks_by Opened (λ v. when (is_runnable v.agent) (open_sequence p Own who.Agent)) w
    (when_by Opened (is_runnable w.agent) (open_sequence p Own who.Agent) w (λ runs. sequence-from p w.agent.frames w.serving w refl refl runs h)
    (λ rests. nothing_by Opened w (closed rests refl refl)))

opened-placing : (before between after : Bool) (xs ys : List Said) → Placing before xs between → between ≡ true → NoneBlocks ys → after ≡ true
    → Placing before (xs ++ ys) after
opened-placing before between after xs ys (calm_so calm e) runs more still =
    calm_so (NoneBlocks-append xs ys calm more) (called-append before between after xs ys e (still ∙ sym (ap (λ q. q || are_calls ys) runs)))
opened-placing before between after xs ys (closes_so last e) runs more still = absurd (false≢true (sym e ∙ runs))

acted_opened : (a b c : World) (xs ys : List Said) → Acted a xs b → Opened b ys c → Acted a (xs ++ ys) c
acted_opened a b c xs ys h (closed rests none same) =
    subst (λ zs. Acted a (xs ++ zs) c) (sym none) (subst (λ zs. Acted a zs c) (sym (append-nil xs)) (subst (λ u. Acted a xs u) (sym same) h))
acted_opened a b c xs ys h (opened runs calm still attending) = record {
  attending = attending;
  placing = opened-placing (agent_runs a) (agent_runs b) (agent_runs c) xs ys h.placing runs calm still;
}

-- it waits at no terminate alternative
waits_at_none : (state : State) → Attends state → waits_at_terminate (waiting_in state) ≡ false
waits_at_none Runnable h = refl
waits_at_none (Blocked waits_for.Release) h = refl
waits_at_none (Blocked waits_for.Activation) h = elim h [ ]
waits_at_none (Blocked waits_for.Moment) h = elim h [ ]
waits_at_none (Blocked (waits_for.Call c)) h = elim h [ ]
waits_at_none (Blocked (waits_for.EndOfCall c)) h = elim h [ ]
waits_at_none (Blocked (waits_for.Accept s)) h = elim h [ ]
waits_at_none (Blocked (waits_for.Select accepts delay terminate)) h = elim h [ ]
waits_at_none (Blocked (waits_for.Dependents r)) h = elim h [ ]
waits_at_none Made h = elim h [ ]

module _ (colour : Colour) where
  no_block-from : (waiting : Option Waiting) (w : World) → Apart colour w → waits_at_terminate waiting ≡ false
      → From (Spared colour false) w (block_at_terminate who.Agent waiting)
  unfolding block_at_terminate
  no_block-from None w good e = nothing_by (Spared colour false) w ((spares colour false).stays w good)
  no_block-from (Some waiting) w good e =
      when_by (Spared colour false) (waits_at_terminate (Some waiting)) _ w (λ is. absurd (false≢true (sym e ∙ is)))
      (λ no_wait. nothing_by (Spared colour false) w ((spares colour false).stays w good))

  no_block-keeps : Keeps (Apart colour) (Spared colour false) (looks (λ w. block_at_terminate who.Agent (waiting_of w who.Agent)))
  unfolding Keeps From
  no_block-keeps w good =
      looks_by (Spared colour false) (λ v. block_at_terminate who.Agent (waiting_of v who.Agent)) w
      (no_block-from (waiting_of w who.Agent) w good (waits_at_none w.agent.state good.attends))

  behind-keeps : (p : Image) → Keeps (Apart colour) (Spared colour false) (take_terminates p who.Agent ▷ unwind_all p who.Agent)
  unfolding take_terminates
  behind-keeps p =
      let moves = spares colour false in
      then-keeps (chains moves) _ (unwind_all p who.Agent)
      (then-keeps (chains moves) _ (looks (λ w. block_at_terminate who.Agent (waiting_of w who.Agent)))
      (all_terminate-keeps moves p who.Agent) no_block-keeps)
      (unwind_all-keeps moves p who.Agent)

-- ---- the effect

Quiet : World → List Said → World → Type 0
Quiet before lines after = (colour : Colour) × Spared colour false before lines after

-- the sequence is opened, and then nothing concerns the agent
data Tail (before : World) (lines : List Said) (after : World) : Type 0 where
  tail : (between : World) (xs ys : List Said) (colour : Colour) → Opened before xs between → Spared colour false between ys after → lines ≡ xs ++ ys
      → Tail before lines after

acted_tail : (a b c : World) (xs zs : List Said) → Acted a xs b → Tail b zs c → Acted a (xs ++ zs) c
acted_tail a b c xs zs h (tail between ys last colour opens quiet e) =
    subst (λ q. Acted a q c) (append_assoc xs ys last ∙ ap (λ q. xs ++ q) (sym e))
    (then_spared colour a between c (xs ++ ys) last (acted_opened a b between xs ys h opens) quiet)

opened-attends : (a b : World) (xs : List Said) → Attending a → Opened a xs b → Attending b
opened-attends a b xs h (closed rests none same) = subst Attending (sym same) h
opened-attends a b xs h (opened runs calm still attending) = attending

tail-from : (p : Image) (w : World) → Attending w → From Tail w (open_if_ready p who.Agent ▷ take_terminates p who.Agent ▷ unwind_all p who.Agent)
unfolding Quiet
tail-from p w h =
    then_by Opened Quiet Tail (open_if_ready p who.Agent) (take_terminates p who.Agent ▷ unwind_all p who.Agent) w
    (λ v u xs zs opens quiet. tail v xs zs quiet.0 opens quiet.1 refl)
    (sequence_if-from p w h)
    (λ v xs opens. let attending = opened-attends w v xs h opens in
    from_by (Spared attending.colour false) Quiet (take_terminates p who.Agent ▷ unwind_all p who.Agent) v (λ u zs s. (attending.colour, s))
    (keeps_at (Apart attending.colour) (Spared attending.colour false) (take_terminates p who.Agent ▷ unwind_all p who.Agent) v attending.apart
    (behind-keeps attending.colour p)))

pub agent_effect-from : (p : Image) (w : World) → Attending w → From Acted w (effect p who.Agent)
unfolding effect
agent_effect-from p w h =
    let begun = edit_task who.Agent (with_ticks None) w in
    let first : Spared h.colour true w [] begun =
    (spares h.colour true).edits_task who.Agent (with_ticks None) w h.apart (λ t. refl) (λ t. refl) (λ t. refl) (λ t. refl) (λ t. refl) in
    let attending : Attending begun = attending-spared h.colour true w begun h first in
    changes_then Acted Acted (edit_task who.Agent (with_ticks None))
    (act p who.Agent ▷ open_if_ready p who.Agent ▷ take_terminates p who.Agent ▷ unwind_all p who.Agent) w
    (λ u zs k. record { attending = k.attending; placing = k.placing })
    (then_by Acted Tail Acted (act p who.Agent) (open_if_ready p who.Agent ▷ take_terminates p who.Agent ▷ unwind_all p who.Agent) begun
    (λ v u xs zs k t. acted_tail begun v u xs zs k t)
    (act-from p begun attending)
    (λ v xs k. tail-from p v k.attending))
