-- The lines of a run that were told are printable, and what is to come is the rest.
use Rattle.std.proofs.Common.{◌≡◌, List, [], ◌∷◌, ◌++◌, sym, ap, ◌∙◌, subst, append_assoc, append-nil}
use Rattle.trace_text.specs.Queue.{TraceLine}
use Rattle.trace_text.specs.Text.{ArePrintable}

abbrev pub PrintableUpTo : List TraceLine → List TraceLine → Type 0
PrintableUpTo whole to_come = (told : List TraceLine) × ArePrintable told × (told ++ to_come ≡ whole)

printable-append : (lines more : List TraceLine) → ArePrintable lines → ArePrintable more → ArePrintable (lines ++ more)
printable-append [] more h k = k
printable-append (line ∷ lines) more h k = (h.0, printable-append lines more h.1 k)

-- the line that is told is printable too
pub one_more_printable : (lines to_come later whole : List TraceLine) → PrintableUpTo whole to_come → lines ++ later ≡ to_come → ArePrintable lines
    → PrintableUpTo whole later
one_more_printable lines to_come later whole so_far told printable = (
  so_far.0 ++ lines,
  printable-append so_far.0 lines so_far.1 printable,
  append_assoc so_far.0 lines later ∙ ap (λ xs. so_far.0 ++ xs) told ∙ so_far.2,
)

-- where nothing is to come, all are printable
pub all_printable : (to_come whole : List TraceLine) → PrintableUpTo whole to_come → to_come ≡ [] → ArePrintable whole
all_printable to_come whole so_far none = subst ArePrintable (sym (append-nil so_far.0) ∙ ap (λ xs. so_far.0 ++ xs) (sym none) ∙ so_far.2) so_far.1
