-- Scripts of more bytes than a script may have.
use Rattle.std.proofs.Common.{◌≡◌, ◌<◌, ℕ, List, Result, Ok, Err, refl, ap}
use Rattle.std.specs.List.{fold}
use Rattle.std.proofs.lemmas.Bool.{lt-ltb}
use Rattle.std.proofs.lemmas.List.Folds.{fold_stays}
use Rattle.text_lines.specs.Lines.{NumberedLine}
use Rattle.text_lines.proofs.LongTexts.{cut_texts_are_read_alike}
use Rattle.event_script.specs.declared.faults.TheConstants.{SCRIPT_BYTES}
use Rattle.event_script.specs.declared.faults.ScriptFault.{ScriptFault}
use Rattle.event_script.specs.declared.faults.ScriptFaultKind.TheVariants.{TooMany}
use Rattle.event_script.specs.declared.reading.Reading.{Reading}
use Rattle.event_script.specs.Script.{read_line, items_of, nothing_read, CutScriptsAreReadAlike}

-- what was read so far, behind a line that ends too late
abbrev stopped : Result Reading ScriptFault → ℕ → Result Reading ScriptFault
stopped (Err fault) number = Err fault
stopped (Ok reading) number = Err (record { line = number; kind = TooMany })

late : (r : Result Reading ScriptFault) (line : NumberedLine) → SCRIPT_BYTES < line.stop → read_line r line ≡ stopped r line.number
late (Err fault) line long = refl
late (Ok reading) line long = rw (lt-ltb SCRIPT_BYTES line.stop long) refl

stays : (r : Result Reading ScriptFault) (number : ℕ) (lines : List NumberedLine) → fold read_line (stopped r number) lines ≡ stopped r number
stays (Err fault) number lines = fold_stays read_line (Err fault) (λ line. refl) lines
stays (Ok reading) number lines = fold_stays read_line (Err (record { line = number; kind = TooMany })) (λ line. refl) lines

pub cut_scripts_are_read_alike : CutScriptsAreReadAlike
cut_scripts_are_read_alike bytes = ap items_of (cut_texts_are_read_alike SCRIPT_BYTES read_line stopped late stays (Ok nothing_read) bytes)
