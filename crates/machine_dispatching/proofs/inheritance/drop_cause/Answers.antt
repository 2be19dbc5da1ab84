use Rattle.std.proofs.Common.{length, sym, ap, ◌∙◌, arith}
use Rattle.profile_machine.specs.Inheritance.{same_cause}
use Rattle.profile_image.specs.Words.{without}
use Rattle.rosters.proofs.PlaceLemmas.{remove-lt, without-found, without-none}
use Rattle.machine_dispatching.proofs.inheritance.drop_cause.Goals as goal

pub loop-place-smaller : goal.loop-place-smaller
loop-place-smaller c =
    let less = remove-lt (λ i. same_cause c.args.cause i.cause) c.loop-place.inherited c.in-Some.place (sym c.in-Some.ensures) in
    let is = ap length c.remove.ensures.rest in
    omega arith

pub loop-place-preserved : goal.loop-place-preserved
loop-place-preserved c =
    ap (without (λ i. same_cause c.args.cause i.cause)) c.remove.ensures.rest
    ∙ (without-found (λ i. same_cause c.args.cause i.cause) c.loop-place.inherited c.in-Some.place (sym c.in-Some.ensures) ∙ c.loop-place.invariant)

pub returns : goal.returns
returns c = sym (without-none (λ i. same_cause c.args.cause i.cause) c.loop-place.inherited (sym c.in_default.ensures)) ∙ c.loop-place.invariant
