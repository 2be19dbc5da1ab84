-- The text is the bytes, which are digits; digits are text.
use Rattle.std.proofs.Common.{subst}
use Rattle.std.specs.Str.Parse.{ParsesUnsigned}
use Rattle.trace_fields.proofs.Numbers.{digits_parsed, digits_spelt, IsUtf8-number}
use Rattle.trace_fields.proofs.fields.number_from_digits.Goals as goal

pub returns-in-Ok : goal.returns-in-Ok
returns-in-Ok c =
    let parsed : ParsesUnsigned 64 10 c.args.bytes.now c.parse.result =
    subst (λ text. ParsesUnsigned 64 10 text c.parse.result) c.in-Ok.ensures.cases.0 c.parse.ensures.value.0 in
    record {
      read = rw c.ok.ensures.value (digits_parsed c.args.bytes.now c.parse.result parsed c.requires);
      spelt = rw c.ok.ensures.value (digits_spelt c.args.bytes.now c.parse.result parsed c.requires);
    }

pub returns-in-Err : goal.returns-in-Err
returns-in-Err c = absurd (c.in-Err.ensures.cases.0 (IsUtf8-number c.args.bytes.now c.requires))
