-- what is left goes on as the whole does
use Rattle.std.proofs.Common.{◌≡◌, false, drop}
use Rattle.trace_text.specs.Text.{is_name_from}
use Rattle.trace_fields.proofs.fields.is_name.Given as goal

abbrev pub invariant-loop-byte : goal.invariant-loop-byte
invariant-loop-byte l = is_name_from l.begun (drop l.byte-index l.bytes) ≡ is_name_from false l.bytes
