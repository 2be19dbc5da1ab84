-- What is told stays the same, and all is ready.
use Rattle.std.proofs.Common.{◌≡◌, ◌∙◌, ap, length, arith}
use Rattle.std.specs.List.{list_all}
use Rattle.std.specs.Ordering.{nat_cmp}
use Rattle.std.specs.BTreeMap.{get}
use Rattle.run_report.specs.Clocks.{created_number, level_given, with_clock, goes_on, noted, IsFit}
use Rattle.run_report.proofs.Fits.{fit_with}
use Rattle.run_report.proofs.Places.{known_noted}
use Rattle.run_report.proofs.Lines.{all_with, same_with, same_quiet, ready_quiet}
use Rattle.run_report.proofs.report.prepare.Goals as goal

pub returns-in_err-note_place-clause-same : goal.returns-in_err-note_place-clause-same
returns-in_err-note_place-clause-same c =
    rw (c.reserve.ensures.items, c.in_ok-add_clock.ensures.added)
    (same_with c.args.last c.args.items.now.items c.args.clocks.now.items (get nat_cmp c.note_place.new.places) (level_given c.args.event.now) c.requires.fit
    (λ number place e. c.in_err-note_place.ensures.unchanged number ∙ c.requires.known number place e))

pub make_quiet-requires-clause-fit : goal.make_quiet-requires-clause-fit
make_quiet-requires-clause-fit c =
    let clocks = c.args.clocks.now.items in
    let given = level_given c.args.event.now in
    rw (c.deref.ensures.value, c.in_ok-add_clock.ensures.added, c.reserve.ensures.items)
    (all_with (IsFit clocks c.args.last) (IsFit (with_clock given clocks) c.args.last) c.args.items.now.items
    (λ one fit. fit_with given clocks c.args.last one fit) c.requires.fit)

pub returns-clause-same : goal.returns-clause-same
returns-clause-same c =
    let clocks = c.args.clocks.now.items in
    let given = level_given c.args.event.now in
    rw (c.make_quiet.ensures.items, c.deref.ensures.value, c.in_ok-add_clock.ensures.added, c.reserve.ensures.items)
    (same_quiet (list_all (goes_on c.args.passing.now) (with_clock given clocks)) c.args.last c.args.items.now.items clocks
    (get nat_cmp c.note_place.new.places) given c.requires.fit
    (known_noted c.args.items.now.items (get nat_cmp c.args.places.now) (get nat_cmp c.note_place.new.places)
    (created_number c.args.event.now) c.len.result c.requires.known c.requires.created c.in_ok-note_place.ensures.noted))

pub returns-clause-ready : goal.returns-clause-ready
returns-clause-ready c =
    let clocks = c.args.clocks.now.items in
    let given = level_given c.args.event.now in
    let here : c.len.result ≡ length c.args.items.now.items = omega (arith, c.args.items.now.ok.0) in
    rw (c.make_quiet.ensures.items, c.deref.ensures.value, c.in_ok-add_clock.ensures.added, c.reserve.ensures.items)
    (ready_quiet c.args.event.now c.args.passing.now c.args.last c.args.items.now.items clocks (get nat_cmp c.args.places.now)
    (get nat_cmp c.note_place.new.places) c.requires.fit
    (λ number. c.in_ok-note_place.ensures.noted number
    ∙ ap (λ place. noted (created_number c.args.event.now) place number (get nat_cmp c.args.places.now number)) here))
