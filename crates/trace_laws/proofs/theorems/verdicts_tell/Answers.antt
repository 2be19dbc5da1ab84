-- By induction on the texts behind the lines so far, and on those before.
use Rattle.std.proofs.Common.{refl, [], arith}
use Rattle.trace_laws.specs.Verdicts.{texts_in}
use Rattle.trace_laws.proofs.VerdictsSay.{verdict_says}
use Rattle.trace_laws.proofs.VerdictsOnly.{verdict_only}
use Rattle.trace_laws.proofs.theorems.verdicts_tell.Goals as goal

pub returns-clause-says : goal.returns-clause-says
returns-clause-says c = λ bytes.
    let formed = (c.tests_tell.ensures.formed []).0 refl in
    verdict_says c.answers_tell.ensures.lawful 0 [] [] (texts_in bytes) refl
    (record { read = tt; formed = formed; lawful = c.tests_tell.ensures.laws [] formed.rises refl; within = omega arith })

pub returns-clause-only : goal.returns-clause-only
returns-clause-only c = λ bytes verdict says.
    let tests = c.tests_tell.ensures in
    verdict_only
    (λ lines formed keeps. record {
      form = (tests.formed lines).1 formed;
      dispatch = (tests.dispatch lines formed.rises).1 keeps.dispatch;
      ceilings = (tests.ceilings lines).1 keeps.ceilings;
      exclusion = (tests.exclusion lines).1 keeps.exclusion;
      handlers = (tests.handlers lines formed.rises).1 keeps.handlers;
      leaving = (tests.leaving lines).1 keeps.leaving;
    }) (texts_in bytes) verdict says
