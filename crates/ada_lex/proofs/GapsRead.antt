-- Gaps of what is lexed are read as gaps.
use Rattle.std.proofs.Common.{◌≡◌, ℕ, suc, ◌<◌, Bool, true, false, cond, not, eqb, ◌&&◌, ◌⊎◌, List, [], ◌∷◌, ◌++◌, length}
use Rattle.std.proofs.Common.{take, drop, Option, Some, None, Result, Ok, Err, refl, sym, ap, ◌∙◌, subst, arith, inl, inr}
use Rattle.std.proofs.lemmas.Bool.{false≢true, eqb-true}
use Rattle.std.proofs.lemmas.List.{append-nil}
use Rattle.ada_lex.specs.declared.scan.Run.TheVariants.{Line}
use Rattle.ada_lex.specs.declared.scan.Spot.{Spot}
use Rattle.ada_lex.specs.declared.tokens.Token.{Token}
use Rattle.ada_lex.specs.declared.tokens.LexFault.{LexFault}
use Rattle.ada_lex.specs.Shapes.{is_separator, gap_length, run_length}
use Rattle.ada_lex.specs.Reading.{behind, behind_all, piece_at, with_front, tokens_from}
use Rattle.ada_lex.specs.Lexed.{gap_state}
use Rattle.ada_lex.proofs.Loops.{piece_is, skipped}

abbrev no_tokens : List Token
no_tokens = []

with_none : (read : Result (List Token) LexFault) → with_front no_tokens read ≡ read
with_none (Ok tokens) = refl
with_none (Err f) = refl

gap_read : (bytes : List ℕ) (m : ℕ) (spot : Spot) → gap_length bytes ≡ suc m → (0 < length bytes) × (piece_at spot bytes ≡ Ok (no_tokens, suc m))
unfolding piece_at
gap_read [] m spot e = absurd (omega (arith, e))
gap_read (b ∷ rest) m spot e = (omega arith, rw e refl)

gap_step : (bytes : List ℕ) (m : ℕ) (spot : Spot) → gap_length bytes ≡ suc m
    → tokens_from bytes 0 spot ≡ tokens_from (drop (suc m) bytes) 0 (behind_all (take (suc m) bytes) spot)
gap_step bytes m spot e =
    let p = gap_read bytes m spot e in
    piece_is bytes spot no_tokens (suc m) p.0 (omega arith) p.1 ∙ with_none (tokens_from (drop (suc m) bytes) 0 (behind_all (take (suc m) bytes) spot))

separator_gap : (b : ℕ) (more : List ℕ) → is_separator b ≡ true → gap_length (b ∷ more) ≡ 1
separator_gap b [] e = rw e refl
separator_gap b (c ∷ more) e = rw e refl

separator_step : (b : ℕ) (more : List ℕ) (spot : Spot) → is_separator b ≡ true → tokens_from (b ∷ more) 0 spot ≡ tokens_from more 0 (behind spot b)
unfolding behind_all
separator_step b more spot e = gap_step (b ∷ more) 0 spot (separator_gap b more e)

comment_gap : (more : List ℕ) → gap_length (45 ∷ 45 ∷ more) ≡ suc (suc (run_length Line more))
unfolding run_length
comment_gap more = refl

comment_step : (more : List ℕ) (spot : Spot) → tokens_from (45 ∷ 45 ∷ more) 0 spot ≡ tokens_from more (run_length Line more) (behind (behind spot 45) 45)
unfolding behind_all
comment_step more spot =
    gap_step (45 ∷ 45 ∷ more) (suc (run_length Line more)) spot (comment_gap more) ∙ sym (skipped more (run_length Line more) (behind (behind spot 45) 45))

is_line : (b : ℕ) (v : Bool) → eqb b 10 ≡ v → v ≡ true → is_separator b ≡ true
is_line b true p q = rw (eqb-true b 10 p) refl
is_line b false p q = absurd (false≢true q)

-- A gap is skipped. Where it leaves a comment open, nothing stands behind it.
pub gap_skipped : (inside : Bool) (gap more : List ℕ) (z : Bool) (spot : Spot) → gap_state inside gap ≡ Some z → ((z ≡ false) ⊎ (more ≡ []))
    → tokens_from (gap ++ more) (cond inside (run_length Line (gap ++ more)) 0) spot ≡ tokens_from more 0 (behind_all gap spot)
unfolding gap_state run_length tokens_from behind_all
gap_skipped false [] more z spot e h = refl
gap_skipped true [] more z spot e (inl f) = let t : true ≡ z = cc in absurd (false≢true (sym (t ∙ f)))
gap_skipped true [] more z spot e (inr f) = subst (λ (x : List ℕ). tokens_from x (run_length Line x) spot ≡ tokens_from x 0 spot) (sym f) refl
gap_skipped true (b ∷ gap) more z spot e h =
    by_test (eqb b 10) refl e (λ k. gap_skipped true gap more z (behind spot b) k h) (λ k. gap_skipped false gap more z (behind spot b) k h)
  where
    by_test : (v : Bool) → eqb b 10 ≡ v → gap_state (not v) gap ≡ Some z
        → (gap_state true gap ≡ Some z
        → tokens_from (gap ++ more) (run_length Line (gap ++ more)) (behind spot b) ≡ tokens_from more 0 (behind_all gap (behind spot b)))
        → (gap_state false gap ≡ Some z → tokens_from (gap ++ more) 0 (behind spot b) ≡ tokens_from more 0 (behind_all gap (behind spot b)))
        → tokens_from (b ∷ (gap ++ more)) (cond (not v) (suc (run_length Line (gap ++ more))) 0) spot ≡ tokens_from more 0 (behind_all gap (behind spot b))
    by_test false p q opened closed = opened q
    by_test true p q opened closed = separator_step b (gap ++ more) spot (is_line b (eqb b 10) refl p) ∙ closed q
gap_skipped false (b ∷ []) more z spot e h = by_test (is_separator b) refl e
  where
    by_test : (v : Bool) → is_separator b ≡ v → cond {A = Option Bool} v (Some false) None ≡ Some z
        → tokens_from (b ∷ more) 0 spot ≡ tokens_from more 0 (behind spot b)
    by_test true p q = separator_step b more spot p
    by_test false p q = absurd cc
gap_skipped false (b ∷ c ∷ gap) more z spot e h =
    by_tests (is_separator b) (eqb b 45) (eqb c 45) refl refl refl e (λ k. gap_skipped false (c ∷ gap) more z (behind spot b) k h)
    (λ s k. gap_skipped true gap more z s k h)
  where
    by_tests : (s v w : Bool) → is_separator b ≡ s → eqb b 45 ≡ v → eqb c 45 ≡ w
        → cond {A = Option Bool} s (gap_state false (c ∷ gap)) (cond {A = Option Bool} (v && w) (gap_state true gap) None) ≡ Some z
        → (gap_state false (c ∷ gap) ≡ Some z → tokens_from (c ∷ (gap ++ more)) 0 (behind spot b) ≡ tokens_from more 0 (behind_all (c ∷ gap) (behind spot b)))
        → ((s : Spot) → gap_state true gap ≡ Some z → tokens_from (gap ++ more) (run_length Line (gap ++ more)) s ≡ tokens_from more 0 (behind_all gap s))
        → tokens_from (b ∷ c ∷ (gap ++ more)) 0 spot ≡ tokens_from more 0 (behind_all gap (behind (behind spot b) c))
    by_tests true v w p q r e closed opened = separator_step b (c ∷ (gap ++ more)) spot p ∙ closed e
    by_tests false false w p q r e closed opened = absurd cc
    by_tests false true false p q r e closed opened = absurd cc
    by_tests false true true p q r e closed opened =
        let minus : b ≡ 45 = eqb-true b 45 q in
        let second : c ≡ 45 = eqb-true c 45 r in
        let there = comment_step (gap ++ more) spot ∙ opened (behind (behind spot 45) 45) e in
        subst (λ (k : ℕ). tokens_from (k ∷ c ∷ (gap ++ more)) 0 spot ≡ tokens_from more 0 (behind_all gap (behind (behind spot k) c))) (sym minus)
        (subst (λ (k : ℕ). tokens_from (45 ∷ k ∷ (gap ++ more)) 0 spot ≡ tokens_from more 0 (behind_all gap (behind (behind spot 45) k))) (sym second) there)

-- a gap at the end of a source
pub last_gap : (bytes : List ℕ) (z : Bool) (spot : Spot) → gap_state false bytes ≡ Some z → tokens_from bytes 0 spot ≡ Ok no_tokens
unfolding tokens_from
last_gap bytes z spot e = ap (λ (x : List ℕ). tokens_from x 0 spot) (sym (append-nil bytes)) ∙ gap_skipped false bytes [] z spot e (inr refl)
