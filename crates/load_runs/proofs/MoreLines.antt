-- A tally with one line more.
use Rattle.std.proofs.Common.{◌≡◌, ◌≤◌, ◌+◌, ℕ, Bool, true, false, cond, List, [], ◌∷◌, ◌++◌, Result, Ok, Err}
use Rattle.std.proofs.Common.{OnOk, eqb, length, map, drop, refl, sym, ap, ◌∙◌, subst, append-nil, arith, decimal}
use Rattle.std.proofs.lemmas.List.{drop_all}
use Rattle.std.proofs.lemmas.Bool.Decides.{nat_tests}
use Rattle.std.proofs.lemmas.List.Sums.{sum_by_push}
use Rattle.std.specs.List.{flat_map}
use Rattle.std.specs.Str.{bytes_eq}
use Rattle.trace_text.specs.declared.events.Event.{Event}
use Rattle.trace_text.specs.declared.words.Word.{Word}
use Rattle.trace_text.specs.Queue.{TraceLine}
use Rattle.trace_text.specs.Text.{ArePrintable, IsPrintableLine, spaced, words_of, line_text, text_of}
use Rattle.trace_text.specs.Words.{word_text, all_words}
use Rattle.trace_text.specs.Summary.{word_of, count_of, count_lines, last_line, summary_of}
use Rattle.trace_reading.specs.declared.read.BadLine.{BadLine}
use Rattle.load_runs.specs.declared.tally.Count.{Count}
use Rattle.load_runs.specs.declared.tally.Tally.{Tally}
use Rattle.load_runs.specs.Tallies.{Tallies, counted, count_in, count_text}

abbrev count_as : Word → ℕ → Count
count_as w n = record { word = w; count = n }

counted-by : (w : Word) (before after : ℕ) (has : Bool) → after ≡ before + cond has 1 0
    → cond has (count_as w (before + 1)) (count_as w before) ≡ count_as w after
counted-by w before after true e = ap (count_as w) (let m : before + 1 ≡ after = omega (arith, e) in m)
counted-by w before after false e = ap (count_as w) (let m : before ≡ after = omega (arith, e) in m)

-- a word is counted once more where the line has it
counted-in : (lines : List TraceLine) (line : TraceLine) (w : Word) → counted (word_of line.1) (count_in lines w) ≡ count_in (lines ++ line ∷ []) w
counted-in lines line w =
    counted-by w (count_of w lines) (count_of w (lines ++ line ∷ [])) (bytes_eq (word_text (word_of line.1)) (word_text w))
    (sum_by_push (λ (l : TraceLine). cond (bytes_eq (word_text (word_of l.1)) (word_text w)) 1 0) lines line)

counted-all : (lines : List TraceLine) (line : TraceLine) (words : List Word)
    → map (counted (word_of line.1)) (map (count_in lines) words) ≡ map (count_in (lines ++ line ∷ [])) words
counted-all lines line [] = refl
counted-all lines line (w ∷ words) =
    ap (λ c. c ∷ map (counted (word_of line.1)) (map (count_in lines) words)) (counted-in lines line w)
    ∙ ap (λ cs. count_in (lines ++ line ∷ []) w ∷ cs) (counted-all lines line words)

last_line-last : (lines : List TraceLine) (line : TraceLine) → last_line (lines ++ line ∷ []) ≡ line_text line.0 line.1
last_line-last [] line = refl
last_line-last (one ∷ []) line = refl
last_line-last (one ∷ next ∷ lines) line = last_line-last (next ∷ lines) line

-- a text that ends with a line feed is not empty
not-empty : (front middle : List ℕ) → [] ≡ front ++ (middle ++ 10 ∷ []) → ⊥
not-empty [] [] e = cc
not-empty [] (byte ∷ middle) e = cc
not-empty (byte ∷ front) middle e = cc

-- a line is counted, and its text is the last
tallied : (old now : Tally) (piece : List ℕ) (word : Word) (line : TraceLine) → word ≡ word_of line.1 → piece ≡ line_text line.0 line.1
    → now.counts.items ≡ map (counted word) old.counts.items → now.last.items ≡ piece →
    (before : List TraceLine) → Tallies old before → Tallies now (before ++ line ∷ [])
tallied old now piece word line w p counts last before is = record {
  counts = counts ∙ ap (λ v. map (counted v) old.counts.items) w ∙ ap (map (counted (word_of line.1))) is.counts ∙ counted-all before line all_words;
  last = last ∙ p ∙ sym (last_line-last before line);
}

-- the line that was read is the one that the piece is the text of
same-line : (a b : TraceLine) (r : Result TraceLine BadLine) → r ≡ Ok a → r ≡ Ok b → a ≡ b
same-line a b r e f = cc

not-both : (r : Result TraceLine BadLine) (bad : BadLine) (line : TraceLine) → r ≡ Err bad → r ≡ Ok line → ⊥
not-both r bad line e f = cc

tallied-read : (old now : Tally) (piece : List ℕ) (word : Word) (read : TraceLine) (r : Result TraceLine BadLine) → r ≡ Ok read
    → ((tick : ℕ) (event : Event) → IsPrintableLine tick event → piece ≡ line_text tick event → r ≡ Ok (tick, event)) →
    piece ≡ line_text read.0 read.1 → word ≡ word_of read.1 → now.counts.items ≡ map (counted word) old.counts.items → now.last.items ≡ piece →
    (before lines : List TraceLine) → Tallies old before → length lines ≤ 1 → ArePrintable lines → piece ≡ text_of lines → Tallies now (before ++ lines)
tallied-read old now piece word read r is only text w counts last before [] t one printable e =
    absurd (not-empty (decimal read.0) (spaced (words_of read.1)) (sym e ∙ text))
tallied-read old now piece word read r is only text w counts last before (line ∷ []) t one printable e =
    let p : piece ≡ line_text line.0 line.1 = e ∙ append-nil (line_text line.0 line.1) in
    let same : read ≡ line = same-line read line r is (only line.0 line.1 printable.0 p) in
    tallied old now piece word line (w ∙ ap (λ (l : TraceLine). word_of l.1) same) p counts last before t
tallied-read old now piece word read r is only text w counts last before (line ∷ next ∷ lines) t one printable e = absurd (omega (arith, one))

-- the same of a call that may fail
pub read-tallied : {X E : Type 0} (done : Result X E) (old now : Tally) (piece : List ℕ) (word : Word) (read : TraceLine) (r : Result TraceLine BadLine)
    → r ≡ Ok read → ((tick : ℕ) (event : Event) → IsPrintableLine tick event → piece ≡ line_text tick event → r ≡ Ok (tick, event)) →
    piece ≡ line_text read.0 read.1 → word ≡ word_of read.1 → OnOk done (now.counts.items ≡ map (counted word) old.counts.items)
    → OnOk done (now.last.items ≡ piece) →
    OnOk done
    ((before lines : List TraceLine) → Tallies old before → length lines ≤ 1 → ArePrintable lines → piece ≡ text_of lines → Tallies now (before ++ lines))
read-tallied (Ok x) old now piece word read r is only text w counts last = tallied-read old now piece word read r is only text w counts last
read-tallied (Err e) old now piece word read r is only text w counts last = tt

-- what is no line is empty
pub tallied-none : (tally : Tally) (piece : List ℕ) (r : Result TraceLine BadLine) (bad : BadLine) → r ≡ Err bad
    → ((tick : ℕ) (event : Event) → IsPrintableLine tick event → piece ≡ line_text tick event → r ≡ Ok (tick, event)) →
    (before lines : List TraceLine) → Tallies tally before → length lines ≤ 1 → ArePrintable lines → piece ≡ text_of lines → Tallies tally (before ++ lines)
tallied-none tally piece r bad is only before [] t one printable e = subst (Tallies tally) (sym (append-nil before)) t
tallied-none tally piece r bad is only before (line ∷ []) t one printable e =
    absurd (not-both r bad (line.0, line.1) is (only line.0 line.1 printable.0 (e ∙ append-nil (line_text line.0 line.1))))
tallied-none tally piece r bad is only before (line ∷ next ∷ lines) t one printable e = absurd (omega (arith, one))

-- an empty piece is no line
empty : (piece : List ℕ) → eqb (length piece) 0 ≡ true → piece ≡ []
empty [] e = refl
empty (byte ∷ piece) e = absurd (grind (arith, nat_tests, e))

pub tallied-empty : (tally : Tally) (piece : List ℕ) → eqb (length piece) 0 ≡ true
    → (before lines : List TraceLine) → Tallies tally before → length lines ≤ 1 → ArePrintable lines → piece ≡ text_of lines → Tallies tally (before ++ lines)
tallied-empty tally piece is before [] t one printable e = subst (Tallies tally) (sym (append-nil before)) t
tallied-empty tally piece is before (line ∷ []) t one printable e =
    absurd (not-empty (decimal line.0) (spaced (words_of line.1)) (sym (empty piece is) ∙ (e ∙ append-nil (line_text line.0 line.1))))
tallied-empty tally piece is before (line ∷ next ∷ lines) t one printable e = absurd (omega (arith, one))

-- the lines of the words
texts-counted : (lines : List TraceLine) (words : List Word) → flat_map count_text (map (count_in lines) words) ≡ count_lines words lines
texts-counted lines [] = refl
texts-counted lines (w ∷ words) = ap (λ text. count_text (count_in lines w) ++ text) (texts-counted lines words)

-- the texts of all counts, and the last line, are the summary
pub summary-told : (tally : Tally) (items : List Count) (i : ℕ) (text last all : List ℕ) → items ≡ tally.counts.items → length items ≤ i
    → text ++ flat_map count_text (drop i tally.counts.items) ≡ flat_map count_text tally.counts.items → last ≡ tally.last.items → all ≡ text ++ last →
    (lines : List TraceLine) → Tallies tally lines → all ≡ summary_of lines
summary-told tally items i text last all same end counts l e lines t =
    let none : drop i tally.counts.items ≡ [] = drop_all i tally.counts.items (subst (λ (xs : List Count). length xs ≤ i) same end) in
    let whole : text ≡ flat_map count_text tally.counts.items =
    sym (append-nil text) ∙ ap (λ (xs : List Count). text ++ flat_map count_text xs) (sym none) ∙ counts in
    e ∙ ap (λ (xs : List ℕ). text ++ xs) (l ∙ t.last)
    ∙ ap (λ (xs : List ℕ). xs ++ last_line lines) (whole ∙ ap (flat_map count_text) t.counts ∙ texts-counted lines all_words)
