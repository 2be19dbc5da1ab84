use Rattle.std.proofs.Common.{◌∷◌}
use Rattle.ada_image.specs.ImageOfStatements.{select_alternative_put, select_alternatives_put}
use Rattle.image_compounds.proofs.OneByOne.{begun, further, select_alternatives_in_order}
use Rattle.image_compounds.proofs.selects.select_alternatives_put.Goals as goal

pub loop-alternative-init : goal.loop-alternative-init
loop-alternative-init g c =
    let step =
    begun (λ a. select_alternative_put g.Q.MakeSequence.making c.args.within.now a c.args.next)
    (λ all. select_alternatives_put g.Q.MakeSequence.making c.args.within.now all c.args.next)
    (select_alternatives_in_order g.Q.MakeSequence.making c.args.within.now c.args.next)
    c.args.alternatives.now.first c.args.alternatives.now.others c.args.lists.now c.select_alternative_put.new.lists
    c.in_ok-first.first c.new-made.result c.push.new.self c.new-made.ensures c.in_ok-first.ensures c.in_ok-push.ensures.ok in
    record { lists = step.0; made = step.1 }

pub loop-alternative-preserved : goal.loop-alternative-preserved
loop-alternative-preserved g c =
    let step =
    further (λ a. select_alternative_put g.Q.MakeSequence.making c.args.within.now a c.args.next)
    (λ all. select_alternatives_put g.Q.MakeSequence.making c.args.within.now all c.args.next)
    (select_alternatives_in_order g.Q.MakeSequence.making c.args.within.now c.args.next)
    c.alternative-item.result c.args.alternatives.now.others c.as_slice-alternative-items.result.now c.loop-alternative.alternative-index
    c.loop-alternative.lists c.select_alternative_put-in-loop-alternative.new.lists c.in_ok-one.one c.loop-alternative.made c.push-in-loop-alternative.new.self
    (select_alternatives_put g.Q.MakeSequence.making c.args.within.now
    (c.args.alternatives.now.first ∷ c.args.alternatives.now.others) c.args.next c.args.lists.now)
    c.as_slice-alternative-items.ensures c.loop-alternative-test.true c.alternative-item.is c.in_ok-one.ensures c.in_ok-push-2.ensures.ok
    c.loop-alternative.invariant.lists c.loop-alternative.invariant.made in
    record { lists = step.0; made = step.1 }
