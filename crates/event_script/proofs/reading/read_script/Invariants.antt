use Rattle.std.proofs.Common.{◌≡◌, ◌≤◌, ◌-◌, ◌+◌, length, drop, Ok}
use Rattle.std.specs.List.{fold}
use Rattle.event_script.specs.declared.faults.TheConstants.{SCRIPT_BYTES}
use Rattle.text_lines.specs.Lines.{parts_at, lines_from, lines_of}
use Rattle.event_script.specs.Items.{IsScript}
use Rattle.event_script.specs.Script.{read_line, nothing_read}
use Rattle.event_script.proofs.reading.read_script.Given as goal

abbrev pub invariant-loop-start : goal.invariant-loop-start
invariant-loop-start l = record {
  script : IsScript l.reading.items;
  within : l.start ≤ length l.bytes;
  short : l.start ≤ SCRIPT_BYTES;
  lines : l.number ≤ l.start;
  rest : fold read_line (Ok l.reading) (lines_from (l.number + 1) l.start (parts_at 10 (drop l.start l.bytes)))
      ≡ fold read_line (Ok nothing_read) (lines_of l.bytes);
}

abbrev pub decreases-loop-start : goal.decreases-loop-start
decreases-loop-start l = length l.bytes - l.start
