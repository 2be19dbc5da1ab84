-- The numbers of tasks, objects, calls and regions, for lists of lines. Written by tools/trace_data.py.
use Rattle.std.specs.Prelude.{ℕ}
use Rattle.ann_base.specs.declared.identities.TaskNo.{TaskNo}
use Rattle.ann_base.specs.declared.identities.ObjectNo.{ObjectNo}
use Rattle.ann_base.specs.declared.identities.CallNo.{CallNo}
use Rattle.ann_base.specs.declared.identities.RegionNo.{RegionNo}
use Rattle.trace_text.specs.declared.events.Who.{Who}
use Rattle.trace_text.specs.declared.events.Who.TheVariants as subject

abbrev pub task : ℕ → TaskNo
task number = record { 0 = number }

abbrev pub object : ℕ → ObjectNo
object number = record { 0 = number }

abbrev pub call : ℕ → CallNo
call number = record { 0 = number }

abbrev pub region : ℕ → RegionNo
region number = record { 0 = number }

abbrev pub who : ℕ → Who
who number = subject.Task (task number)
