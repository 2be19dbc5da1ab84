-- The lines of a run that were told are tallied, and what is to come is the rest.
use Rattle.std.proofs.Common.{◌≡◌, ◌≤◌, ℕ, List, [], ◌∷◌, ◌++◌, Option, Result, Ok, Err, OnErr}
use Rattle.std.proofs.Common.{length, refl, sym, ap, ◌∙◌, subst, append_assoc, append-nil, arith}
use Rattle.outside_bytes.specs.Pieces.{HoldsPrefix}
use Rattle.trace_text.specs.Queue.{TraceLine}
use Rattle.trace_text.specs.Text.{ArePrintable, line_text, text_of}
use Rattle.trace_text.specs.declared.events.Ended.{Ended}
use Rattle.machine_kernel.specs.Future.{first_line, written_of}
use Rattle.machine_kernel.specs.Next.{IfEnded}
use Rattle.machine_kernel.specs.declared.kernel.Next.{Next}
use Rattle.machine_kernel.specs.declared.kernel.Next.TheVariants as did
use Rattle.load_runs.specs.declared.tally.Tally.{Tally}
use Rattle.load_runs.specs.Tallies.{Tallies}

abbrev pub TalliedUpTo : Tally → List TraceLine → List TraceLine → Type 0
TalliedUpTo tally whole to_come = (told : List TraceLine) × Tallies tally told × (told ++ to_come ≡ whole)

first_line-short : (owed : List TraceLine) → length (first_line owed) ≤ 1
first_line-short [] = omega arith
first_line-short (line ∷ owed) = omega arith

first_line-text : (owed : List TraceLine) → written_of owed ≡ text_of (first_line owed)
first_line-text [] = refl
first_line-text (line ∷ owed) = sym (append-nil (line_text line.0 line.1))

-- the line that is told is tallied
pub one_more_tallied : (owed : List TraceLine) (before after : Tally) (piece : List ℕ) (to_come later whole : List TraceLine) → TalliedUpTo before whole to_come
    → first_line owed ++ later ≡ to_come → ArePrintable (first_line owed) → piece ≡ written_of owed →
    ((told lines : List TraceLine) → Tallies before told → length lines ≤ 1 → ArePrintable lines → piece ≡ text_of lines → Tallies after (told ++ lines))
    → TalliedUpTo after whole later
one_more_tallied owed before after piece to_come later whole so_far told printable text counts = (
  so_far.0 ++ first_line owed,
  counts so_far.0 (first_line owed) so_far.1 (first_line-short owed) printable (text ∙ first_line-text owed),
  append_assoc so_far.0 (first_line owed) later ∙ ap (λ xs. so_far.0 ++ xs) told ∙ so_far.2,
)

-- where nothing is to come, all is tallied
pub all_tallied : (tally : Tally) (to_come whole : List TraceLine) → TalliedUpTo tally whole to_come → to_come ≡ [] → Tallies tally whole
all_tallied tally to_come whole so_far none = subst (Tallies tally) (sym (append-nil so_far.0) ∙ ap (λ xs. so_far.0 ++ xs) (sym none) ∙ so_far.2) so_far.1

-- where the run has ended, nothing is to come
pub none_to_come : (next : Next) (P : Type 0) (to_come : List TraceLine) → next ≡ did.Ended → IfEnded ((to_come ≡ []) × P) next → to_come ≡ []
none_to_come next P to_come is ended = (subst (IfEnded ((to_come ≡ []) × P)) is ended).0

-- a prefix of an equal text
pub cut_text : {X E : Type 0} (r : Result X E) (old new : Option (List ℕ)) (line text : List ℕ) → line ≡ text → HoldsPrefix old new line
    → OnErr r (HoldsPrefix old new text)
cut_text (Ok x) old new line text same part = tt
cut_text (Err e) old new line text same part = subst (λ xs. HoldsPrefix old new xs) same part
