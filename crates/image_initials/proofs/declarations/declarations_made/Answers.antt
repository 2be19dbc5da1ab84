use Rattle.std.proofs.Common.{◌≡◌, ◌∷◌, [], drop, arith, sym, ◌∙◌}
use Rattle.std.proofs.lemmas.Grind.{common_steps}
use Rattle.std.specs.VecDeque.Iter.{deque_iter_rest}
use Rattle.ada_image.specs.ImageOfUnits.{declarations_made}
use Rattle.image_initials.proofs.Before.{left_behind}
use Rattle.image_initials.proofs.OneByOne.{declaration_more}
use Rattle.image_initials.proofs.declarations.declarations_made.Goals as goal

pub loop-declaration-preserved : goal.loop-declaration-preserved
loop-declaration-preserved c =
    let cut : deque_iter_rest c.loop-declaration.declaration-iterator ≡ c.in-Some.declaration.now ∷ deque_iter_rest c.next.new.self =
    grind (arith, common_steps) in
    let here : drop c.loop-declaration.before c.args.within.now.names.declarations ≡ c.in-Some.declaration.now ∷ deque_iter_rest c.next.new.self =
    sym c.loop-declaration.invariant.rest ∙ cut in
    let behind = left_behind c.args.within.now.names.declarations c.loop-declaration.before c.in-Some.declaration.now (deque_iter_rest c.next.new.self) here in
    let step =
    declaration_more c.args.within.now c.args.within.now.names.declarations c.loop-declaration.before c.in-Some.declaration.now
    (deque_iter_rest c.loop-declaration.declaration-iterator) (deque_iter_rest c.next.new.self)
    c.loop-declaration.lists c.declaration_made.new.lists c.in_ok-one.one c.loop-declaration.made c.push.new.self
    (declarations_made c.args.within.now [] c.args.within.now.names.declarations c.args.lists.now)
    c.in_ok-one.ensures here cut c.in_ok-push.ensures.ok c.loop-declaration.invariant.lists c.loop-declaration.invariant.made in
    record { rest = sym behind; lists = step.0; made = step.1 }
