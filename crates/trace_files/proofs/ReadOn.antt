-- How a trace goes on, from the bytes that were read of its next text.
use Rattle.std.proofs.Common.{◌≡◌, ◌≤◌, ◌<◌, ◌⊎◌, inl, inr, ◌+◌, ◌-◌, ℕ, true, List, ◌∷◌, Option, Some, None, length, take, drop, ap, sym, subst, ◌∙◌, arith}
use Rattle.std.proofs.lemmas.List.{take_all, length-take, drop-take}
use Rattle.trace_text.specs.declared.lines.TheConstants.{LINE_BYTES}
use Rattle.trace_reading.specs.Lines.{line_in}
use Rattle.trace_laws.specs.declared.verdicts.TheConstants.{TRACE_BYTES}
use Rattle.trace_laws.specs.Verdicts.{texts_in}
use Rattle.outside_bytes.specs.Bytes.{first_line}
use Rattle.outside_bytes.specs.Lines.{to_come, HandsOn}
use Rattle.trace_files.specs.declared.texts.TraceFile.{TraceFile}
use Rattle.trace_files.specs.declared.texts.Next.{Next}
use Rattle.trace_files.specs.declared.texts.Next.TheVariants as next
use Rattle.trace_files.specs.Texts.{IsLeft, GoesOn, IsBad, Takes}
use Rattle.trace_files.proofs.FirstTexts.{first_text, first_line-take, some_of_cut}

-- they are the whole of it where they are no more than a line has, and within the bytes of a trace
whole_text : (before : ℕ) (text line : List ℕ) → text ≡ take (LINE_BYTES + 1) (take (TRACE_BYTES + 1 - before) line) → length text ≤ LINE_BYTES
    → before + length text ≤ TRACE_BYTES → text ≡ line
whole_text before text line is short within =
    let size = ap length is ∙ length-take (LINE_BYTES + 1) (take (TRACE_BYTES + 1 - before) line) in
    let inner = length-take (TRACE_BYTES + 1 - before) line in
    is ∙ take_all (LINE_BYTES + 1) (take (TRACE_BYTES + 1 - before) line) (omega (arith, size, short))
    ∙ take_all (TRACE_BYTES + 1 - before) line (omega (arith, size, inner, short, within))

no_longer : (before : ℕ) (text line : List ℕ) → text ≡ take (LINE_BYTES + 1) (take (TRACE_BYTES + 1 - before) line) → length text ≤ length line
no_longer before text line is =
    omega (arith, ap length is, length-take (LINE_BYTES + 1) (take (TRACE_BYTES + 1 - before) line), length-take (TRACE_BYTES + 1 - before) line)

-- what is to come behind the whole text
behind_text : (before size : ℕ) (rest : List ℕ) → before + size ≤ TRACE_BYTES
    → drop size (take (TRACE_BYTES + 1 - before) rest) ≡ take (TRACE_BYTES + 1 - (before + size)) (drop size rest)
behind_text before size rest within =
    let split : TRACE_BYTES + 1 - before ≡ size + (TRACE_BYTES + 1 - (before + size)) = omega (arith, within) in
    ap (λ n. drop size (take n rest)) split ∙ drop-take size (TRACE_BYTES + 1 - (before + size)) rest

bad_text : ((text : List ℕ) → LINE_BYTES < length text → line_in text ≡ None) → (before : ℕ) (text line : List ℕ)
    → text ≡ take (LINE_BYTES + 1) (take (TRACE_BYTES + 1 - before) line) → IsBad before text →
    (TRACE_BYTES < before + length line) ⊎ (line_in line ≡ None)
bad_text long before text line is (inl more) = inr (long line (omega (arith, more, no_longer before text line is)))
bad_text long before text line is (inr (inl more)) = inl (omega (arith, more, no_longer before text line is))
bad_text long before text line is (inr (inr (short, within, none))) = inr (subst (λ xs. line_in xs ≡ None) (whole_text before text line is short within) none)

-- a text was read and taken
pub text_taken : ((text : List ℕ) → LINE_BYTES < length text → line_in text ≡ None)
    → (old between new : TraceFile) (answer : Next) (before after : Option (List ℕ)) (rest : List ℕ) →
    between.before ≡ old.before → IsLeft old before rest
    → HandsOn (LINE_BYTES + 1) (to_come old.lines before) (to_come between.lines after) between.text.items true → Takes between new answer →
    GoesOn old.before rest answer new after
text_taken long old between new (next.Line tick event) before after rest same left handed taken =
    let h = subst (λ come. HandsOn (LINE_BYTES + 1) come (to_come between.lines after) between.text.items true) left handed in
    let some = some_of_cut (TRACE_BYTES + 1 - old.before) rest (sym h.2) in
    let cut : between.text.items ≡ take (LINE_BYTES + 1) (take (TRACE_BYTES + 1 - old.before) (first_line rest)) =
    h.0 ∙ ap (take (LINE_BYTES + 1)) (first_line-take (TRACE_BYTES + 1 - old.before) rest) in
    let within : old.before + length between.text.items ≤ TRACE_BYTES = omega (arith, taken.within, same) in
    let whole = whole_text old.before between.text.items (first_line rest) cut taken.short within in
    let before_is : new.before ≡ old.before + length between.text.items = taken.before_is ∙ ap (λ n. n + length between.text.items) same in
    record {
      text = between.text.items;
      behind = drop (length between.text.items) rest;
      texts = first_text rest some ∙ ap (λ xs. xs ∷ texts_in (drop (length xs) rest)) (sym whole);
      line = taken.line;
      within = within;
      before_is = before_is;
      left_is = ap (λ lines. to_come lines after) taken.lines ∙ h.1 ∙ ap Some (behind_text old.before (length between.text.items) rest within)
          ∙ sym (ap (λ n. Some (take (TRACE_BYTES + 1 - n) (drop (length between.text.items) rest))) before_is);
    }
text_taken long old between new next.Refused before after rest same left handed taken =
    let h = subst (λ come. HandsOn (LINE_BYTES + 1) come (to_come between.lines after) between.text.items true) left handed in
    let some = some_of_cut (TRACE_BYTES + 1 - old.before) rest (sym h.2) in
    let cut : between.text.items ≡ take (LINE_BYTES + 1) (take (TRACE_BYTES + 1 - old.before) (first_line rest)) =
    h.0 ∙ ap (take (LINE_BYTES + 1)) (first_line-take (TRACE_BYTES + 1 - old.before) rest) in
    record {
      text = first_line rest;
      behind = texts_in (drop (length (first_line rest)) rest);
      texts = first_text rest some;
      bad = bad_text long old.before between.text.items (first_line rest) cut (subst (λ n. IsBad n between.text.items) same taken);
    }
text_taken long old between new next.End before after rest same left handed taken = absurd taken
