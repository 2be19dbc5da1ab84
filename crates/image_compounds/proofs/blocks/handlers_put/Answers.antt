use Rattle.std.proofs.Common.{refl}
use Rattle.ada_image.specs.ImageOfStatements.{handlers_put}
use Rattle.image_compounds.proofs.OneByOne.{further, handler_is_made, handler_made, handlers_in_order}
use Rattle.image_compounds.proofs.blocks.handlers_put.Goals as goal

pub loop-handler-preserved : goal.loop-handler-preserved
loop-handler-preserved g c =
    let made =
    handler_is_made g.Q.MakeSequence.making c.args.within.now c.args.next c.handler-item.result c.in_handler-inner.result c.loop-handler.lists
    c.inside.new.lists c.in_ok-choices.choices c.in_ok-first.first c.the_action.result c.in_ok-choices.ensures c.in_handler-inner.ensures
    c.in_ok-first.ensures c.the_action.ensures in
    let step =
    further (handler_made g.Q.MakeSequence.making c.args.within.now c.args.next)
    (λ all. handlers_put g.Q.MakeSequence.making c.args.within.now all c.args.next)
    (handlers_in_order g.Q.MakeSequence.making c.args.within.now c.args.next)
    c.handler-item.result c.args.handlers.now c.args.handlers.now c.loop-handler.handler-index
    c.loop-handler.lists c.inside.new.lists _ c.loop-handler.made c.push.new.self
    (handlers_put g.Q.MakeSequence.making c.args.within.now c.args.handlers.now c.args.next c.args.lists.now)
    refl c.loop-handler-test.true c.handler-item.is made c.in_ok-push.ensures.ok
    c.loop-handler.invariant.lists c.loop-handler.invariant.made in
    record { lists = step.0; made = step.1 }
