-- Tables of more bytes than a table may have.
use Rattle.std.proofs.Common.{◌≡◌, ◌<◌, ℕ, List, [], Result, Ok, Err, refl, ap}
use Rattle.std.specs.List.{fold}
use Rattle.std.proofs.lemmas.Bool.{lt-ltb}
use Rattle.std.proofs.lemmas.List.Folds.{fold_stays}
use Rattle.text_lines.specs.Lines.{NumberedLine}
use Rattle.text_lines.proofs.LongTexts.{cut_texts_are_read_alike}
use Rattle.sched_tests.specs.declared.duties.TheConstants.{TABLE_BYTES}
use Rattle.sched_tests.specs.declared.duties.Duty.{Duty}
use Rattle.sched_tests.specs.declared.duties.TableFault.{TableFault}
use Rattle.sched_tests.specs.declared.duties.TableFaultKind.TheVariants.{TooMany}
use Rattle.sched_tests.specs.Reading.{read_line, not_empty, CutTablesAreReadAlike}

-- what was read so far, behind a line that ends too late
abbrev stopped : Result (List Duty) TableFault → ℕ → Result (List Duty) TableFault
stopped (Err fault) number = Err fault
stopped (Ok duties) number = Err (record { line = number; kind = TooMany })

late : (r : Result (List Duty) TableFault) (line : NumberedLine) → TABLE_BYTES < line.stop → read_line r line ≡ stopped r line.number
late (Err fault) line long = refl
late (Ok duties) line long = rw (lt-ltb TABLE_BYTES line.stop long) refl

stays : (r : Result (List Duty) TableFault) (number : ℕ) (lines : List NumberedLine) → fold read_line (stopped r number) lines ≡ stopped r number
stays (Err fault) number lines = fold_stays read_line (Err fault) (λ line. refl) lines
stays (Ok duties) number lines = fold_stays read_line (Err (record { line = number; kind = TooMany })) (λ line. refl) lines

pub cut_tables_are_read_alike : CutTablesAreReadAlike
cut_tables_are_read_alike bytes = ap not_empty (cut_texts_are_read_alike TABLE_BYTES read_line stopped late stays (Ok []) bytes)
