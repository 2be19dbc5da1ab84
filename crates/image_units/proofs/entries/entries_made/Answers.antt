use Rattle.std.proofs.Common.{◌≡◌, ◌∷◌, [], drop, arith, sym, ◌∙◌}
use Rattle.std.proofs.lemmas.Grind.{common_steps}
use Rattle.std.specs.VecDeque.Iter.{deque_iter_rest}
use Rattle.ada_image.specs.UnitsOfImage.{entries_made}
use Rattle.image_units.proofs.Before.{left_behind}
use Rattle.image_units.proofs.OneByOne.{entry_more}
use Rattle.image_units.proofs.entries.entries_made.Goals as goal

pub loop-entry-preserved : goal.loop-entry-preserved
loop-entry-preserved c =
    let cut : deque_iter_rest c.loop-entry.entry-iterator ≡ c.in-Some.entry.now ∷ deque_iter_rest c.next.new.self = grind (arith, common_steps) in
    let here : drop c.loop-entry.before c.args.within.now.names.entries ≡ c.in-Some.entry.now ∷ deque_iter_rest c.next.new.self =
    sym c.loop-entry.invariant.rest ∙ cut in
    let behind = left_behind c.args.within.now.names.entries c.loop-entry.before c.in-Some.entry.now (deque_iter_rest c.next.new.self) here in
    let step =
    entry_more c.args.within.now c.args.within.now.names.entries c.loop-entry.before c.in-Some.entry.now (deque_iter_rest c.loop-entry.entry-iterator)
    (deque_iter_rest c.next.new.self)
    c.loop-entry.lists c.entry_made.new.lists c.in_ok-one.one c.loop-entry.made c.push.new.self
    (entries_made c.args.within.now [] c.args.within.now.names.entries c.args.lists.now)
    c.in_ok-one.ensures here cut c.in_ok-push.ensures.ok c.loop-entry.invariant.lists c.loop-entry.invariant.made in
    record { rest = sym behind; lists = step.0; made = step.1 }
