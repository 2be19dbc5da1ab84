-- A line that is refused decides what the script is.
use Rattle.std.proofs.Common.{◌≡◌, ℕ, ℤ, List, ◌∷◌, Ok, Err, ap, sym, ◌∙◌, refl}
use Rattle.std.specs.List.{fold}
use Rattle.std.proofs.lemmas.List.Folds.{fold_stays}
use Rattle.ann_base.specs.Answers.{Answers, AnswersAs}
use Rattle.ann_base.specs.declared.faults.OrMemory.{OrMemory}
use Rattle.ann_base.specs.declared.faults.OrMemory.TheVariants as answer
use Rattle.profile_image.specs.declared.script_items.Item.{Item}
use Rattle.text_lines.specs.Lines.{NumberedLine, lines_of}
use Rattle.event_script.specs.declared.faults.ScriptFault.{ScriptFault}
use Rattle.event_script.specs.declared.reading.Reading.{Reading}
use Rattle.event_script.specs.Script.{read_line, items_of, nothing_read, script_of}

pub refused : (bytes : List ℕ) (reading after : Reading) (line : NumberedLine) (lines : List NumberedLine) (fault : OrMemory ScriptFault)
    → fold read_line (Ok reading) (line ∷ lines) ≡ fold read_line (Ok nothing_read) (lines_of bytes)
    → AnswersAs (λ (unit : Unit {0}). after) (Err fault) (read_line (Ok reading) line) → Answers {X = List (ℤ × Item)} (Err fault) (script_of bytes)
refused bytes reading after line lines answer.Memory rest read = tt
refused bytes reading after line lines (answer.Fault fault) rest read =
    ap items_of (sym rest ∙ ap (λ state. fold read_line state lines) read ∙ fold_stays read_line (Err fault) (λ line. refl) lines)
