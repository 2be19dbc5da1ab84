use Rattle.std.proofs.Common.{◌≡◌, ◌≤◌, ◌-◌, ◌+◌, length, drop, [], Ok}
use Rattle.std.specs.List.{fold}
use Rattle.sched_tests.specs.declared.duties.TheConstants.{TABLE_BYTES}
use Rattle.text_lines.specs.Lines.{parts_at, lines_from, lines_of}
use Rattle.sched_tests.specs.Reading.{read_line}
use Rattle.sched_tests.specs.Tables.{IsTable}
use Rattle.sched_tests.proofs.reading.read_table.Given as goal

abbrev pub invariant-loop-start : goal.invariant-loop-start
invariant-loop-start l = record {
  table : IsTable l.duties.items;
  within : l.start ≤ length l.bytes;
  short : l.start ≤ TABLE_BYTES;
  lines : l.number ≤ l.start;
  rest : fold read_line (Ok l.duties.items) (lines_from (l.number + 1) l.start (parts_at 10 (drop l.start l.bytes)))
      ≡ fold read_line (Ok []) (lines_of l.bytes);
}

abbrev pub decreases-loop-start : goal.decreases-loop-start
decreases-loop-start l = length l.bytes - l.start
