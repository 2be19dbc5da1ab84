-- A run that is read is a run, and the longest one.
use Rattle.std.proofs.Common.{◌≡◌, ℕ, zero, suc, ◌<◌, ◌≤◌, Bool, true, false, cond, eqb, ◌&&◌, ◌||◌, List, [], ◌∷◌, length, take, drop, refl, arith}
use Rattle.std.proofs.lemmas.Bool.{and_from, and_parts, false≢true, or_left}
use Rattle.std.specs.Char.{is_ascii_digit, is_ascii_alphanumeric}
use Rattle.ada_lex.specs.declared.scan.Run.{Run}
use Rattle.ada_lex.specs.declared.scan.Run.TheVariants.{Letters, Whole, Decimals, Line}
use Rattle.ada_lex.specs.Shapes.{goes_on, joins, begins_with, run_length}
use Rattle.ada_lex.specs.Lexed.{is_run}

-- tests on bools

-- what goes on within a front goes on in the whole
begins_more : (test : ℕ → Bool) (k : ℕ) (bytes : List ℕ) → begins_with test (take k bytes) ≡ true → begins_with test bytes ≡ true
begins_more test zero bytes e = absurd (false≢true e)
begins_more test (suc k) [] e = e
begins_more test (suc k) (b ∷ rest) e = e

or_more : (p q r : Bool) → (q ≡ true → r ≡ true) → (p || q) ≡ true → (p || r) ≡ true
or_more true q r h e = refl
or_more false q r h e = h e

and_more : (p q r : Bool) → (q ≡ true → r ≡ true) → (p && q) ≡ true → (p && r) ≡ true
and_more true q r h e = h e
and_more false q r h e = e

joins_more : (test : ℕ → Bool) (k b : ℕ) (rest : List ℕ) → joins test (b ∷ take k rest) ≡ true → joins test (b ∷ rest) ≡ true
joins_more test k b rest e =
    or_more (test b) (eqb b 95 && begins_with test (take k rest)) (eqb b 95 && begins_with test rest)
    (λ h. and_more (eqb b 95) (begins_with test (take k rest)) (begins_with test rest) (begins_more test k rest) h) e

goes_more : (run : Run) (k b : ℕ) (rest : List ℕ) → goes_on run (b ∷ take k rest) ≡ true → goes_on run (b ∷ rest) ≡ true
goes_more Letters k b rest e = joins_more is_ascii_alphanumeric k b rest e
goes_more Whole k b rest e = joins_more is_ascii_digit k b rest e
goes_more Decimals k b rest e = e
goes_more Line k b rest e = e

-- no front that is a run is longer
pub run_longest : (run : Run) (k : ℕ) (bytes : List ℕ) → k ≤ length bytes → is_run run (take k bytes) ≡ true → k ≤ run_length run bytes
unfolding is_run run_length
run_longest run zero bytes le e = omega arith
run_longest run (suc k) [] le e = absurd (omega arith)
run_longest run (suc k) (b ∷ rest) le e =
    let p = and_parts (goes_on run (b ∷ take k rest)) (is_run run (take k rest)) e in
    let here : goes_on run (b ∷ rest) ≡ true = goes_more run k b rest p.0 in
    let there : k ≤ run_length run rest = run_longest run k rest (omega arith) p.1 in
    rw here (omega arith)

begins_kept : (test : ℕ → Bool) (n : ℕ) (rest : List ℕ) → 0 < n → begins_with test rest ≡ true → begins_with test (take n rest) ≡ true
begins_kept test zero rest lt e = absurd (omega arith)
begins_kept test (suc n) [] lt e = e
begins_kept test (suc n) (c ∷ rest) lt e = e

joins_kept : (test : ℕ → Bool) (n b : ℕ) (rest : List ℕ) → (begins_with test rest ≡ true → 0 < n) → joins test (b ∷ rest) ≡ true
    → joins test (b ∷ take n rest) ≡ true
joins_kept test n b rest some e =
    or_more (test b) (eqb b 95 && begins_with test rest) (eqb b 95 && begins_with test (take n rest))
    (λ h. and_more (eqb b 95) (begins_with test rest) (begins_with test (take n rest)) (λ f. begins_kept test n rest (some f) f) h) e

joins_some : (test : ℕ → Bool) (rest : List ℕ) → begins_with test rest ≡ true → joins test rest ≡ true
joins_some test [] e = e
joins_some test (c ∷ rest) e = or_left (test c) (eqb c 95 && begins_with test rest) e

some_of : (run : Run) (rest : List ℕ) → goes_on run rest ≡ true → 0 < run_length run rest
unfolding run_length
some_of Letters [] e = absurd (false≢true e)
some_of Whole [] e = absurd (false≢true e)
some_of Decimals [] e = absurd (false≢true e)
some_of Line [] e = absurd (false≢true e)
some_of run (b ∷ rest) e = rw e (omega arith)

goes_kept : (run : Run) (b : ℕ) (rest : List ℕ) → goes_on run (b ∷ rest) ≡ true → goes_on run (b ∷ take (run_length run rest) rest) ≡ true
goes_kept Letters b rest e =
    joins_kept is_ascii_alphanumeric (run_length Letters rest) b rest (λ h. some_of Letters rest (joins_some is_ascii_alphanumeric rest h)) e
goes_kept Whole b rest e = joins_kept is_ascii_digit (run_length Whole rest) b rest (λ h. some_of Whole rest (joins_some is_ascii_digit rest h)) e
goes_kept Decimals b rest e = e
goes_kept Line b rest e = e

-- what is read is a run
pub run_is : (run : Run) (bytes : List ℕ) → is_run run (take (run_length run bytes) bytes) ≡ true
unfolding is_run run_length
run_is run [] = refl
run_is run (b ∷ rest) = from_test (goes_on run (b ∷ rest)) refl (run_is run rest)
  where
    from_test : (v : Bool) → goes_on run (b ∷ rest) ≡ v → is_run run (take (run_length run rest) rest) ≡ true
        → is_run run (take (cond v (suc (run_length run rest)) 0) (b ∷ rest)) ≡ true
    from_test true e more =
        and_from (goes_on run (b ∷ take (run_length run rest) rest)) (is_run run (take (run_length run rest) rest)) (goes_kept run b rest e) more
    from_test false e more = refl

-- a run ends where a byte does not go on
pub run_stop : (run : Run) (k : ℕ) (bytes : List ℕ) → goes_on run (drop k bytes) ≡ false → run_length run bytes ≤ k
unfolding run_length
run_stop run zero [] e = omega arith
run_stop run zero (b ∷ rest) e = rw e (omega arith)
run_stop run (suc k) [] e = omega arith
run_stop run (suc k) (b ∷ rest) e = elim (goes_on run (b ∷ rest)) as (λ v. cond v (suc (run_length run rest)) 0 ≤ suc k) [
  | true ↦ omega (arith, run_stop run k rest e)
  | false ↦ omega arith
]

pub begins_in_front : (test : ℕ → Bool) (n : ℕ) (rest : List ℕ) → 0 < n → begins_with test rest ≡ true → begins_with test (take n rest) ≡ true
begins_in_front test n rest lt e = begins_kept test n rest lt e

pub begins_in_whole : (test : ℕ → Bool) (k : ℕ) (bytes : List ℕ) → begins_with test (take k bytes) ≡ true → begins_with test bytes ≡ true
begins_in_whole test k bytes e = begins_more test k bytes e
