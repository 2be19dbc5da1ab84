-- A line that is refused decides what the table is.
use Rattle.std.proofs.Common.{◌≡◌, ℕ, List, [], ◌∷◌, Ok, Err, refl, ap, sym, ◌∙◌}
use Rattle.std.specs.List.{fold}
use Rattle.std.proofs.lemmas.List.Folds.{fold_stays}
use Rattle.ann_base.specs.Answers.{Answers, AnswersAs}
use Rattle.ann_base.specs.declared.faults.OrMemory.{OrMemory}
use Rattle.ann_base.specs.declared.faults.OrMemory.TheVariants as answer
use Rattle.sched_tests.specs.declared.duties.Duty.{Duty}
use Rattle.sched_tests.specs.declared.duties.TableFault.{TableFault}
use Rattle.text_lines.specs.Lines.{NumberedLine, lines_of}
use Rattle.sched_tests.specs.Reading.{read_line, not_empty, table_of}

pub refused : (bytes : List ℕ) (duties after : List Duty) (line : NumberedLine) (lines : List NumberedLine) (fault : OrMemory TableFault)
    → fold read_line (Ok duties) (line ∷ lines) ≡ fold read_line (Ok []) (lines_of bytes)
    → AnswersAs (λ (unit : Unit {0}). after) (Err fault) (read_line (Ok duties) line) → Answers {X = List Duty} (Err fault) (table_of bytes)
refused bytes duties after line lines answer.Memory rest read = tt
refused bytes duties after line lines (answer.Fault fault) rest read =
    ap not_empty (sym rest ∙ ap (λ state. fold read_line state lines) read ∙ fold_stays read_line (Err fault) (λ line. refl) lines)
