use Rattle.std.proofs.Common.{◌≡◌, Some, option_map, rules, arith}
use Rattle.profile_machine.specs.Appointments.{first_due}
use Rattle.machine_expiries.proofs.FuelLemmas.{all_due-taken}
use Rattle.machine_expiries.proofs.appointments.+all_due.Goals as goal

pub returns-in_ok-come_due-in-Some : goal.returns-in_ok-come_due-in-Some
returns-in_ok-come_due-in-Some t c =
    let i = c.in-Some.is in
    let f = c.due_now.ensures in
    let e : Some c.in-Some.due ≡ option_map (λ x. x.due) (first_due c.args.events c.args.effect.now.world.time c.args.effect.now.world.appointments) =
    search rules in
    rw (all_due-taken c.args.fuel c.args.p.now c.args.events c.in-Some.due c.of.result c.args.effect.now.world c.drop_appointment.new.world
    c.come_due.new.effect.world c.args.effect.now.said c.come_due.new.effect.said
    (omega (arith, c.if-fuel-eq0.false)) e c.of.ensures c.drop_appointment.ensures c.in_ok-come_due-in-Some.ensures) c.all_due.ensures
