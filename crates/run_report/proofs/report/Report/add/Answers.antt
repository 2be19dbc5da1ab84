-- What is made ready says the same, and what it makes of the line is the report with the line.
use Rattle.std.proofs.Common.{◌≤◌, ◌+◌, vec_len, ap, subst, ◌∙◌, arith}
use Rattle.std.specs.Ordering.{nat_cmp}
use Rattle.std.specs.BTreeMap.{get}
use Rattle.run_report.specs.declared.tallies.TheConstants.{ROOM}
use Rattle.run_report.specs.declared.report.TheConstants.{MOST_TRACED_TASKS}
use Rattle.run_report.specs.Kept.{ticks_if}
use Rattle.run_report.specs.Clocks.{IsSame}
use Rattle.run_report.proofs.Lines.{rises_tick, shown_more, report_stays, all_within, added_line, added_kept, few_more}
use Rattle.run_report.proofs.report.Report.add.Goals as goal
use Rattle.trace_text.specs.declared.lines.TheConstants.{LAST_TICK}

pub invariant_of-self : goal.invariant_of-self
invariant_of-self c =
    let old = c.self.inside in
    let same =
    subst (λ n. IsSame n old.items.items old.clocks.items c.prepare.new.items.items c.prepare.new.clocks.items
    (get nat_cmp c.prepare.new.places)) c.last-last.ensures c.prepare.ensures.same in
    report_stays old.lines old.most old.agent_run old.idle (vec_len old.items)
    (vec_len c.prepare.new.items) old.items.items c.prepare.new.items.items old.clocks.items c.prepare.new.clocks.items (get nat_cmp old.places)
    (get nat_cmp c.prepare.new.places) c.self.invariant same c.prepare.ensures.len

pub invariant_of-self-in_err-add : goal.invariant_of-self-in_err-add
invariant_of-self-in_err-add c =
    let old = c.self.inside in
    let same =
    subst (λ n. IsSame n old.items.items old.clocks.items c.prepare.new.items.items c.prepare.new.clocks.items
    (get nat_cmp c.prepare.new.places)) c.last-last.ensures c.prepare.ensures.same in
    rw c.in_err-add.ensures.unchanged
    (report_stays old.lines old.most old.agent_run old.idle (vec_len old.items)
    (vec_len c.prepare.new.items) old.items.items c.prepare.new.items.items old.clocks.items c.prepare.new.clocks.items (get nat_cmp old.places)
    (get nat_cmp c.prepare.new.places) c.self.invariant same c.prepare.ensures.len)

pub advance-requires-clause-within : goal.advance-requires-clause-within
advance-requires-clause-within c =
    let old = c.self.inside in
    let room : old.most ≤ ROOM = omega arith in
    c.prepare.ensures.same.within ROOM (all_within old.most ROOM old.items.items room c.self.invariant.kept.within)

pub advance-requires-clause-shown : goal.advance-requires-clause-shown
advance-requires-clause-shown c =
    let old = c.self.inside in
    let same =
    subst (λ n. IsSame n old.items.items old.clocks.items c.prepare.new.items.items c.prepare.new.clocks.items
    (get nat_cmp c.prepare.new.places)) c.last-last.ensures c.prepare.ensures.same in
    shown_more old.lines.tick LAST_TICK c.prepare.new.clocks.items c.self.invariant.tick (same.shown c.self.invariant.kept.shown)

pub invariant_of-self-2 : goal.invariant_of-self-2
invariant_of-self-2 c =
    let old = c.self.inside in
    let formed = rw (← c.self.view_is) at c.requires.formed in
    let late = (rises_tick old.lines c.args.now c.args.event.now formed).1 in
    let count : vec_len c.advance.new.items ≤ MOST_TRACED_TASKS = omega (arith, c.advance.ensures.len, c.prepare.ensures.len) in
    added_kept old.lines c.add.new.self c.args.now c.args.event.now old.most old.agent_run old.idle (old.agent_run + c.ticks_if-agent_ticks.result)
    (old.idle + c.ticks_if-idle_ticks.result) c.last-last.result (vec_len old.items) (vec_len c.advance.new.items) c.passing_in-passing.result
    old.items.items c.prepare.new.items.items c.advance.new.items.items old.clocks.items c.prepare.new.clocks.items c.advance.new.clocks.items
    (get nat_cmp old.places) (get nat_cmp c.prepare.new.places) formed
    c.in_ok-add.ensures.added c.last-last.ensures c.passing_in-passing.ensures.passing c.advance.ensures.items c.advance.ensures.clocks c.self.invariant
    c.prepare.ensures.same c.in_ok-prepare.ensures.ready count
    (few_more old.most old.agent_run c.ticks_if-agent_ticks.result c.passing_in-passing.result.elapsed c.args.now c.self.invariant.most_agent
    c.ticks_if-agent_ticks.ensures.most c.passing_in-passing.ensures.most late)
    (few_more old.most old.idle c.ticks_if-idle_ticks.result c.passing_in-passing.result.elapsed c.args.now c.self.invariant.most_idle
    c.ticks_if-idle_ticks.ensures.most c.passing_in-passing.ensures.most late)

pub returns-clause-added : goal.returns-clause-added
returns-clause-added c =
    let old = c.self.inside in
    let formed = rw (← c.self.view_is) at c.requires.formed in
    rw (← c.self.view_is)
    (added_line old.lines c.add.new.self c.args.now c.args.event.now old.agent_run old.idle c.ticks_if-agent_ticks.result c.ticks_if-idle_ticks.result
    c.last-last.result c.passing_in-passing.result
    old.items.items c.prepare.new.items.items c.advance.new.items.items old.clocks.items c.prepare.new.clocks.items c.advance.new.clocks.items
    (get nat_cmp c.prepare.new.places) formed
    c.in_ok-add.ensures.added c.last-last.ensures c.passing_in-passing.ensures.passing c.advance.ensures.items c.advance.ensures.clocks
    (c.ticks_if-agent_ticks.ensures.ticks ∙ ap (λ b. ticks_if b c.passing_in-passing.result.elapsed) c.is_agent.ensures)
    (c.ticks_if-idle_ticks.ensures.ticks ∙ ap (λ b. ticks_if b c.passing_in-passing.result.elapsed) c.is_nobody.ensures)
    c.prepare.ensures.same c.in_ok-prepare.ensures.ready)
