-- Each token that is read has its shape, is the longest one there, and keeps the limits.
use Rattle.std.proofs.Common.{◌≡◌, ℕ, zero, suc, ◌+◌, ◌-◌, ◌^◌, ◌<◌, ◌≤◌, min, Bool, true, false, cond, eqb, leb, ltb, ◌&&◌}
use Rattle.std.proofs.Common.{◌||◌, ◌⊎◌, List, [], ◌∷◌, length, take, drop, Option, Some, None, Ok, refl, sym, ap, ◌∙◌, subst}
use Rattle.std.proofs.Common.{arith, inl, inr, length-drop, length-take-le, take-add, ltb-false, leb-false, eqb-true, sub-one}
use Rattle.std.specs.Prelude.{position}
use Rattle.std.proofs.lemmas.Bool.{and_from, and_parts, cases_lt, false≢true, or_parts}
use Rattle.std.proofs.lemmas.Grind.{common_steps}
use Rattle.std.proofs.lemmas.List.{drop-take}
use Rattle.std.specs.Prelude.{option_map}
use Rattle.std.specs.Char.{is_ascii_digit, is_ascii_alphabetic}
use Rattle.ann_base.specs.declared.places.Place.{Place}
use Rattle.ada_lex.specs.declared.scan.Run.TheVariants.{Letters, Whole, Decimals, Line}
use Rattle.ada_lex.specs.declared.tokens.Kind.{Kind}
use Rattle.ada_lex.specs.declared.tokens.Kind.TheVariants as kinds
use Rattle.ada_lex.specs.Shapes.{goes_on, begins_with, run_length, value_of, text_length, is_no_text}
use Rattle.ada_lex.specs.Shapes.{delimiter_length, is_delimiter, is_double_delimiter, gap_length}
use Rattle.ada_lex.specs.Reading.{fault_in_word, word_at, number_at, fraction_length, spoils_number, text_at, closed_text, delimiter_unless, token_at}
use Rattle.ada_lex.specs.Meaning.{whole_of}
use Rattle.ada_lex.specs.Lexed.{is_run, is_fraction, IsNumber, IsToken, IsWithin, IsLongest, IsApart}
use Rattle.ada_lex.proofs.Loops.{run_in_list}
use Rattle.ada_lex.proofs.Pieces.{unless_bad_ok, number_ok, delimiter_some}
use Rattle.ada_lex.proofs.Runs.{run_longest, run_is, run_stop, begins_in_front, begins_in_whole}
use Rattle.ada_lex.specs.declared.scan.TheConstants.{MAX_WORD}

-- what is known of a token of n bytes at the front
pub record IsRead (kind : Kind) (n : ℕ) (bytes : List ℕ) : Type 0 where
  pub fits : n ≤ length bytes
  pub shaped : IsToken kind (take n bytes)
  pub within : IsWithin kind (take n bytes)
  pub longest : IsLongest kind (take n bytes) (drop n bytes)
  pub apart : IsApart kind (take n bytes) (drop n bytes)

-- a front that is a token is no longer than n bytes
longest_by : (kind : Kind) (n : ℕ) (bytes : List ℕ) → n ≤ length bytes → ((j : ℕ) → j ≤ length bytes → IsToken kind (take j bytes) → j ≤ n)
    → IsLongest kind (take n bytes) (drop n bytes)
longest_by kind n bytes le bound =
    λ k some fits token.
    let all : n + k ≤ length bytes = omega (arith, length-drop n bytes) in
    let whole : IsToken kind (take (n + k) bytes) = subst (IsToken kind) (sym (take-add n k bytes)) token in
    let at_most = bound (n + k) all whole in
    omega (arith, some, at_most)

-- words
word_fine : (m : ℕ) (rest : List ℕ) → fault_in_word m rest ≡ None → (m ≤ MAX_WORD) × (begins_with (λ b. eqb b 95) rest ≡ false)
word_fine m [] e = (
  elim (ltb MAX_WORD m) as (λ v. ltb MAX_WORD m ≡ v → cond {A = Option ℕ} v (Some MAX_WORD) None ≡ None → m ≤ MAX_WORD) [
    | true ↦ λ t f. absurd cc
    | false ↦ λ t f. ltb-false MAX_WORD m t
  ] refl e,
  refl,
)
word_fine m (b ∷ rest) e = from_test (ltb MAX_WORD m) (eqb b 95) refl refl e
  where
    from_test : (v w : Bool) → ltb MAX_WORD m ≡ v → eqb b 95 ≡ w
        → cond {A = Option ℕ} v (Some MAX_WORD) (cond {A = Option ℕ} w (Some (min MAX_WORD (cond (begins_with (λ c. eqb c 95) rest) (m + 1) m))) None) ≡ None
        → (m ≤ MAX_WORD) × (eqb b 95 ≡ false)
    from_test true w t u f = absurd cc
    from_test false true t u f = absurd cc
    from_test false false t u f = (ltb-false MAX_WORD m t, u)

pub word_read : (place : Place) (bytes : List ℕ) (n : ℕ) → begins_with is_ascii_alphabetic bytes ≡ true → 0 < n → word_at place bytes ≡ Ok n
    → IsRead kinds.Word n bytes
unfolding word_at
word_read place bytes n letter some e =
    let is = unless_bad_ok (fault_in_word (run_length Letters bytes) (drop (run_length Letters bytes) bytes)) place (run_length Letters bytes) n e in
    let fine = word_fine (run_length Letters bytes) (drop (run_length Letters bytes) bytes) is.0 in
    let length_is : run_length Letters bytes ≡ n = is.1 in
    let le : n ≤ length bytes = omega (arith, run_in_list Letters bytes, length_is) in
    let run : is_run Letters (take n bytes) ≡ true = subst (λ (k : ℕ). is_run Letters (take k bytes) ≡ true) length_is (run_is Letters bytes) in
    record {
      fits = le;
      shaped = and_from _ _ (begins_in_front is_ascii_alphabetic n bytes some letter) run;
      within = omega (arith, fine.0, length_is, length-take-le n bytes le);
      longest = longest_by kinds.Word n bytes le (λ j fits token. omega (arith, run_longest Letters j bytes fits (and_parts _ _ token).1, length_is));
      apart = subst (λ (k : ℕ). begins_with (λ b. eqb b 95) (drop k bytes) ≡ false) length_is fine.1;
    }

-- numbers
pub behind_front : (w f : ℕ) (bytes : List ℕ) → drop w (take (w + f) bytes) ≡ take f (drop w bytes)
behind_front w f bytes = drop-take w f bytes

pub fraction_fits : (bytes : List ℕ) → fraction_length bytes ≤ length bytes
fraction_fits [] = omega arith
fraction_fits (b ∷ rest) = elim (eqb b 46 && begins_with is_ascii_digit rest) as (λ v. cond v (suc (run_length Decimals rest)) 0 ≤ suc (length rest)) [
  | true ↦ omega (arith, run_in_list Decimals rest)
  | false ↦ omega arith
]

digits_some : (rest : List ℕ) → begins_with is_ascii_digit rest ≡ true → 0 < run_length Decimals rest
unfolding run_length
digits_some [] e = absurd (false≢true e)
digits_some (b ∷ rest) e = rw e (omega arith)

pub fraction_is : (bytes : List ℕ) → is_fraction (take (fraction_length bytes) bytes) ≡ true
fraction_is [] = refl
fraction_is (b ∷ rest) = from_test (eqb b 46 && begins_with is_ascii_digit rest) refl
  where
    from_test : (v : Bool) → (eqb b 46 && begins_with is_ascii_digit rest) ≡ v
        → is_fraction (take (cond v (suc (run_length Decimals rest)) 0) (b ∷ rest)) ≡ true
    from_test false e = refl
    from_test true e =
        let p = and_parts (eqb b 46) (begins_with is_ascii_digit rest) e in
        and_from _ _ (and_from _ _ p.0 (begins_in_front is_ascii_digit (run_length Decimals rest) rest (digits_some rest p.1) p.1)) (run_is Decimals rest)

point_stops : (b : ℕ) (rest : List ℕ) → eqb b 46 ≡ true → goes_on Whole (b ∷ rest) ≡ false
point_stops b rest e = rw (eqb-true b 46 e) refl

-- a front of the rest behind k bytes that is a fraction
fraction_longest : (k i : ℕ) (bytes : List ℕ) → 0 < i → i + k ≤ length bytes → is_fraction (take i (drop k bytes)) ≡ true → k ≤ run_length Whole bytes
    → i + k ≤ run_length Whole bytes + fraction_length (drop (run_length Whole bytes) bytes)
fraction_longest k i bytes some fits e le = behind (drop k bytes) refl
  where
    behind : (x : List ℕ) → drop k bytes ≡ x → i + k ≤ run_length Whole bytes + fraction_length (drop (run_length Whole bytes) bytes)
    behind [] is = absurd (omega (arith, length-drop k bytes, ap length is))
    behind (b ∷ rest) is =
        let j : i ≡ suc (i - 1) = omega arith in
        let read : is_fraction (b ∷ take (i - 1) rest) ≡ true =
        subst (λ (m : ℕ). is_fraction (take m (b ∷ rest)) ≡ true) j (subst (λ (x : List ℕ). is_fraction (take i x) ≡ true) is e) in
        let p = and_parts _ _ read in
        let q = and_parts _ _ p.0 in
        let stops : goes_on Whole (drop k bytes) ≡ false = ap (goes_on Whole) is ∙ point_stops b rest q.0 in
        let whole : run_length Whole bytes ≡ k = omega (arith, le, run_stop Whole k bytes stops) in
        let more : begins_with is_ascii_digit rest ≡ true = begins_in_whole is_ascii_digit (i - 1) rest q.1 in
        let behind_k : fraction_length (drop (run_length Whole bytes) bytes) ≡ suc (run_length Decimals rest) =
        ap (λ (m : ℕ). fraction_length (drop m bytes)) whole ∙ ap fraction_length is ∙ rw (and_from _ _ q.0 more) refl in
        let rest_fits : i - 1 ≤ length rest = omega (arith, length-drop k bytes, ap length is) in
        let there : i - 1 ≤ run_length Decimals rest = run_longest Decimals (i - 1) rest rest_fits p.1 in
        omega (arith, behind_k, whole, there)

pub number_longest : (j : ℕ) (bytes : List ℕ) → j ≤ length bytes → IsNumber (take j bytes)
    → j ≤ run_length Whole bytes + fraction_length (drop (run_length Whole bytes) bytes)
number_longest j bytes fits number = split (cases_lt number.0 j)
  where
    split : ((number.0 < j) ⊎ (j ≤ number.0)) → j ≤ run_length Whole bytes + fraction_length (drop (run_length Whole bytes) bytes)
    split (inr le) =
        let all : take number.0 (take j bytes) ≡ take j bytes = grind (arith, common_steps) in
        let run : is_run Whole (take j bytes) ≡ true = sym (ap (is_run Whole) all) ∙ number.2 in
        omega (arith, run_longest Whole j bytes fits run)
    split (inl lt) =
        let front : take number.0 (take j bytes) ≡ take number.0 bytes = grind (arith, common_steps) in
        let run : is_run Whole (take number.0 bytes) ≡ true = sym (ap (is_run Whole) front) ∙ number.2 in
        let le : number.0 ≤ run_length Whole bytes = run_longest Whole number.0 bytes (omega arith) run in
        let rest : drop number.0 (take j bytes) ≡ take (j - number.0) (drop number.0 bytes) =
        subst (λ (k : ℕ). drop number.0 (take k bytes) ≡ take (j - number.0) (drop number.0 bytes)) (omega arith)
        (behind_front number.0 (j - number.0) bytes) in
        let read : is_fraction (take (j - number.0) (drop number.0 bytes)) ≡ true = sym (ap is_fraction rest) ∙ number.3 in
        omega (arith, fraction_longest number.0 (j - number.0) bytes (omega arith) (omega arith) read le)

pub whole_in_front : (n : ℕ) (bytes : List ℕ) → n ≤ length bytes → run_length Whole bytes ≤ n → run_length Whole (take n bytes) ≡ run_length Whole bytes
whole_in_front n bytes fits le =
    let w = run_length Whole bytes in
    let front : take (run_length Whole bytes) (take n bytes) ≡ take (run_length Whole bytes) bytes = grind (arith, common_steps) in
    let length_is : length (take n bytes) ≡ n = length-take-le n bytes fits in
    let at_least : run_length Whole bytes ≤ run_length Whole (take n bytes) =
    run_longest Whole (run_length Whole bytes) (take n bytes) (omega (arith, length_is)) (ap (is_run Whole) front ∙ run_is Whole bytes) in
    let within : run_length Whole (take n bytes) ≤ n = omega (arith, run_in_list Whole (take n bytes), length_is) in
    let back : take (run_length Whole (take n bytes)) (take n bytes) ≡ take (run_length Whole (take n bytes)) bytes = grind (arith, common_steps) in
    let at_most : run_length Whole (take n bytes) ≤ run_length Whole bytes =
    run_longest Whole (run_length Whole (take n bytes)) bytes (omega arith) (sym (ap (is_run Whole) back) ∙ run_is Whole (take n bytes)) in
    omega (arith, at_least, at_most)

pub number_read : (place : Place) (bytes : List ℕ) (n : ℕ) → begins_with is_ascii_digit bytes ≡ true → 0 < n → number_at place bytes ≡ Ok n
    → IsRead kinds.Number n bytes
unfolding number_at
number_read place bytes n digit some e =
    let w = run_length Whole bytes in
    let m = run_length Whole bytes + fraction_length (drop (run_length Whole bytes) bytes) in
    let is = number_ok (begins_with spoils_number (drop m bytes) || leb (2 ^ 128) (value_of (take w bytes))) place m n e in
    let no = or_parts _ _ is.0 in
    let length_is : run_length Whole bytes + fraction_length (drop (run_length Whole bytes) bytes) ≡ n = is.1 in
    let le : n ≤ length bytes =
    omega (arith, run_in_list Whole bytes, fraction_fits (drop (run_length Whole bytes) bytes), length-drop (run_length Whole bytes) bytes, length_is) in
    let first : take (run_length Whole bytes) (take n bytes) ≡ take (run_length Whole bytes) bytes = grind (arith, common_steps) in
    let second : drop (run_length Whole bytes) (take n bytes)
    ≡ take (fraction_length (drop (run_length Whole bytes) bytes)) (drop (run_length Whole bytes) bytes) =
    subst (λ (k : ℕ). drop (run_length Whole bytes) (take k bytes)
    ≡ take (fraction_length (drop (run_length Whole bytes) bytes)) (drop (run_length Whole bytes) bytes)) length_is
    (behind_front (run_length Whole bytes) (fraction_length (drop (run_length Whole bytes) bytes)) bytes) in
    let value : whole_of (take n bytes) ≡ value_of (take (run_length Whole bytes) bytes) =
    ap (λ (k : ℕ). value_of (take k (take n bytes))) (whole_in_front n bytes le (omega arith)) ∙ ap value_of first in
    record {
      fits = le;
      shaped = (
        run_length Whole bytes,
        begins_in_front is_ascii_digit n bytes some digit,
        ap (is_run Whole) first ∙ run_is Whole bytes,
        ap is_fraction second ∙ fraction_is (drop (run_length Whole bytes) bytes),
      );
      within = subst (λ (v : ℕ). v < 2 ^ 128) (sym value) (leb-false (2 ^ 128) (value_of (take (run_length Whole bytes) bytes)) no.1);
      longest = longest_by kinds.Number n bytes le (λ j fits token. omega (arith, number_longest j bytes fits token, length_is));
      apart = subst (λ (k : ℕ). begins_with spoils_number (drop k bytes) ≡ false) length_is no.0;
    }

-- texts
pub map_some : (o : Option ℕ) (k m : ℕ) → option_map (λ n. n + k) o ≡ Some m → (i : ℕ) × (o ≡ Some i) × (i + k ≡ m)
map_some None k m e = absurd cc
map_some (Some i) k m e = (i, refl, cc)

pub plus_two : (k : ℕ) → k + 2 ≡ suc (suc k)
plus_two k = omega arith

pub plus_one : (k : ℕ) → k + 1 ≡ suc k
plus_one k = omega arith

abbrev pub IsFirst : List ℕ → ℕ → Type 0
IsFirst bytes m = (0 < m) × (m ≤ length bytes) × (text_length (take m bytes) ≡ Some m)

abbrev pub two_or : ℕ → List ℕ → Bool → Bool → Bool → Option ℕ
two_or c rest mark double line =
    cond mark (cond double (option_map (λ n. n + 2) (text_length rest)) (Some 1)) (cond line None (option_map (λ n. n + 1) (text_length (c ∷ rest))))

text_first_two : (b c : ℕ) (rest : List ℕ) (m : ℕ) (mark double line : Bool) → eqb b 34 ≡ mark → eqb c 34 ≡ double → eqb b 10 ≡ line
    → ((k : ℕ) → text_length rest ≡ Some k → IsFirst rest k) → ((k : ℕ) → text_length (c ∷ rest) ≡ Some k → IsFirst (c ∷ rest) k)
    → two_or c rest mark double line ≡ Some m → IsFirst (b ∷ c ∷ rest) m
unfolding text_length
text_first_two b c rest m true true line e f g ih1 ih2 h =
    let p = map_some (text_length rest) 2 m h in
    let q = ih1 p.0 p.1 in
    let is : m ≡ suc (suc p.0) = sym p.2 ∙ plus_two p.0 in
    (omega (arith, is), omega (arith, is, q.1), rw is (rw (e, f, q.2) (ap (λ (i : ℕ). Some i) (plus_two p.0))))
text_first_two b c rest m true false line e f g ih1 ih2 h =
    let is : 1 ≡ m = cc in
    subst (IsFirst (b ∷ c ∷ rest)) is (omega arith, omega arith, rw e refl)
text_first_two b c rest m false double true e f g ih1 ih2 h = absurd cc
text_first_two b c rest m false double false e f g ih1 ih2 h =
    let p = map_some (text_length (c ∷ rest)) 1 m h in
    let q = ih2 p.0 p.1 in
    let is : m ≡ suc p.0 = sym p.2 ∙ plus_one p.0 in
    let inner : p.0 ≡ suc (p.0 - 1) = omega (arith, q.0) in
    let read : text_length (c ∷ take (p.0 - 1) rest) ≡ Some p.0 = subst (λ (k : ℕ). text_length (take k (c ∷ rest)) ≡ Some p.0) inner q.2 in
    let whole : text_length (b ∷ c ∷ take (p.0 - 1) rest) ≡ Some m = rw (e, g, read) (ap (λ (i : ℕ). Some i) p.2) in
    (omega (arith, is), omega (arith, is, q.1), subst (λ (k : ℕ). text_length (take k (b ∷ c ∷ rest)) ≡ Some m) (sym (is ∙ ap (λ (k : ℕ). suc k) inner)) whole)

pub text_first : (bytes : List ℕ) (m : ℕ) → text_length bytes ≡ Some m → IsFirst bytes m
unfolding text_length
text_first [] m h = absurd cc
text_first (b ∷ []) m h = from_test (eqb b 34) refl h
  where
    from_test : (v : Bool) → eqb b 34 ≡ v → cond {A = Option ℕ} v (Some 1) None ≡ Some m → IsFirst (b ∷ []) m
    from_test true e f = let is : 1 ≡ m = cc in subst (IsFirst (b ∷ [])) is (omega arith, omega arith, rw e refl)
    from_test false e f = absurd cc
text_first (b ∷ c ∷ rest) m h =
    text_first_two b c rest m (eqb b 34) (eqb c 34) (eqb b 10) refl refl refl (λ k. text_first rest k) (λ k. text_first (c ∷ rest) k) h

text_longest_two : (b c : ℕ) (rest : List ℕ) (i m : ℕ) (mark double line : Bool) → eqb b 34 ≡ mark → eqb c 34 ≡ double → eqb b 10 ≡ line
    → ((j k : ℕ) → text_length (take j rest) ≡ Some j → text_length rest ≡ Some k → j ≤ k)
    → ((j k : ℕ) → text_length (take j (c ∷ rest)) ≡ Some j → text_length (c ∷ rest) ≡ Some k → j ≤ k)
    → two_or c (take i rest) mark double line ≡ Some (suc (suc i)) → two_or c rest mark double line ≡ Some m → suc (suc i) ≤ m
text_longest_two b c rest i m true true line e f g ih1 ih2 h l =
    let p = map_some (text_length (take i rest)) 2 (suc (suc i)) h in
    let q = map_some (text_length rest) 2 m l in
    let here : p.0 ≡ i = omega (arith, p.2) in
    let le : i ≤ q.0 = ih1 i q.0 (p.1 ∙ ap (λ (k : ℕ). Some k) here) q.1 in
    omega (arith, le, q.2)
text_longest_two b c rest i m true false line e f g ih1 ih2 h l = let no : 1 ≡ suc (suc i) = cc in absurd (omega (arith, no))
text_longest_two b c rest i m false double true e f g ih1 ih2 h l = absurd cc
text_longest_two b c rest i m false double false e f g ih1 ih2 h l =
    let p = map_some (text_length (c ∷ take i rest)) 1 (suc (suc i)) h in
    let q = map_some (text_length (c ∷ rest)) 1 m l in
    let here : p.0 ≡ suc i = omega (arith, p.2) in
    let le : suc i ≤ q.0 = ih2 (suc i) q.0 (p.1 ∙ ap (λ (k : ℕ). Some k) here) q.1 in
    omega (arith, le, q.2)

pub text_longest : (bytes : List ℕ) (j m : ℕ) → text_length (take j bytes) ≡ Some j → text_length bytes ≡ Some m → j ≤ m
unfolding text_length
text_longest bytes zero m h l = omega arith
text_longest [] (suc j) m h l = absurd cc
text_longest (b ∷ rest) (suc zero) m h l = omega (arith, (text_first (b ∷ rest) m l).0)
text_longest (b ∷ []) (suc (suc i)) m h l = one (eqb b 34) h
  where
    one : (v : Bool) → cond {A = Option ℕ} v (Some 1) None ≡ Some (suc (suc i)) → suc (suc i) ≤ m
    one true e = let no : 1 ≡ suc (suc i) = cc in absurd (omega (arith, no))
    one false e = absurd cc
text_longest (b ∷ c ∷ rest) (suc (suc i)) m h l =
    text_longest_two b c rest i m (eqb b 34) (eqb c 34) (eqb b 10) refl refl refl (λ j k. text_longest rest j k) (λ j k. text_longest (c ∷ rest) j k) h l

-- no mark follows the one that ends a text
abbrev IsEnded : List ℕ → ℕ → Type 0
IsEnded bytes m = begins_with (λ b. eqb b 34) (drop m bytes) ≡ false

text_ended_two : (b c : ℕ) (rest : List ℕ) (m : ℕ) (mark double line : Bool) → eqb c 34 ≡ double
    → ((k : ℕ) → text_length rest ≡ Some k → IsEnded rest k) → ((k : ℕ) → text_length (c ∷ rest) ≡ Some k → IsEnded (c ∷ rest) k)
    → two_or c rest mark double line ≡ Some m → IsEnded (b ∷ c ∷ rest) m
text_ended_two b c rest m true true line f ih1 ih2 h =
    let p = map_some (text_length rest) 2 m h in
    subst (IsEnded (b ∷ c ∷ rest)) (sym (plus_two p.0) ∙ p.2) (ih1 p.0 p.1)
text_ended_two b c rest m true false line f ih1 ih2 h = let is : 1 ≡ m = cc in subst (IsEnded (b ∷ c ∷ rest)) is f
text_ended_two b c rest m false double true f ih1 ih2 h = absurd cc
text_ended_two b c rest m false double false f ih1 ih2 h =
    let p = map_some (text_length (c ∷ rest)) 1 m h in
    subst (IsEnded (b ∷ c ∷ rest)) (sym (plus_one p.0) ∙ p.2) (ih2 p.0 p.1)

text_ended : (bytes : List ℕ) (m : ℕ) → text_length bytes ≡ Some m → IsEnded bytes m
unfolding text_length
text_ended [] m h = absurd cc
text_ended (b ∷ []) m h = from_test (eqb b 34) h
  where
    from_test : (v : Bool) → cond {A = Option ℕ} v (Some 1) None ≡ Some m → IsEnded (b ∷ []) m
    from_test true f = let is : 1 ≡ m = cc in subst (IsEnded (b ∷ [])) is refl
    from_test false f = absurd cc
text_ended (b ∷ c ∷ rest) m h = text_ended_two b c rest m (eqb b 34) (eqb c 34) (eqb b 10) refl (λ k. text_ended rest k) (λ k. text_ended (c ∷ rest) k) h

closed_ok : (o : Option ℕ) (place : Place) (bytes : List ℕ) (n : ℕ) → closed_text o place bytes ≡ Ok n
    → (m : ℕ) × (o ≡ Some m) × (m + 1 ≡ n) × (position is_no_text (take (m + 1) bytes) ≡ None)
closed_ok None place bytes n e = absurd cc
closed_ok (Some m) place bytes n e = let is = unless_bad_ok (position is_no_text (take (m + 1) bytes)) place (m + 1) n e in (m, refl, is.1, is.0)

text_bound : (b : ℕ) (rest : List ℕ) (m n j : ℕ) → text_length rest ≡ Some m → n ≡ suc m → j ≤ length (b ∷ rest) → IsToken kinds.Text (take j (b ∷ rest))
    → j ≤ n
text_bound b rest m n zero l is fits token = omega arith
text_bound b rest m n (suc j) l is fits token =
    let length_is : length (take j rest) ≡ j = length-take-le j rest (omega arith) in
    let read : text_length (take j rest) ≡ Some j = token.1 ∙ ap (λ (k : ℕ). Some k) (omega (arith, length_is)) in
    omega (arith, text_longest rest j m read l, is)

pub text_read : (place : Place) (b : ℕ) (rest : List ℕ) (n : ℕ) → eqb b 34 ≡ true → text_at place (b ∷ rest) ≡ Ok n → IsRead kinds.Text n (b ∷ rest)
unfolding text_at
text_read place b rest n mark e =
    let p = closed_ok (text_length (drop 1 (b ∷ rest))) place (b ∷ rest) n e in
    let first = text_first rest p.0 p.1 in
    let is : n ≡ suc p.0 = sym p.2 ∙ plus_one p.0 in
    let le : n ≤ length (b ∷ rest) = omega (arith, is, first.1) in
    let length_is : length (take n (b ∷ rest)) ≡ n = length-take-le n (b ∷ rest) le in
    record {
      fits = le;
      shaped = (rw is mark, rw (length_is, is, sub-one) first.2);
      within = subst (λ (k : ℕ). position is_no_text (take k (b ∷ rest)) ≡ None) p.2 p.3;
      longest = longest_by kinds.Text n (b ∷ rest) le (λ j fits token. text_bound b rest p.0 n j p.1 is fits token);
      apart = subst (λ (k : ℕ). begins_with (λ b. eqb b 34) (drop k (b ∷ rest)) ≡ false) (sym is) (text_ended rest p.0 p.1);
    }

-- delimiters
abbrev pub delimiter_of : Bool → Bool → ℕ
delimiter_of double single = cond double 2 (cond single 1 0)

pub delimiter_fits : (bytes : List ℕ) → delimiter_length bytes ≤ length bytes
delimiter_fits [] = omega arith
delimiter_fits (a ∷ []) = elim (is_delimiter a) as (λ v. cond v 1 0 ≤ 1) [ true ↦ omega arith | false ↦ omega arith ]
delimiter_fits (a ∷ b ∷ rest) = by_tests (is_double_delimiter a b) (is_delimiter a)
  where
    by_tests : (v w : Bool) → delimiter_of v w ≤ suc (suc (length rest))
    by_tests true w = omega arith
    by_tests false true = omega arith
    by_tests false false = omega arith

pub delimiter_first : (bytes : List ℕ) → delimiter_length (take (delimiter_length bytes) bytes) ≡ delimiter_length bytes
delimiter_first [] = refl
delimiter_first (a ∷ []) = by_test (is_delimiter a) refl
  where
    by_test : (v : Bool) → is_delimiter a ≡ v → delimiter_length (take (cond v 1 0) (a ∷ [])) ≡ cond v 1 0
    by_test true e = rw e refl
    by_test false e = refl
delimiter_first (a ∷ b ∷ rest) = by_tests (is_double_delimiter a b) (is_delimiter a) refl refl
  where
    by_tests : (v w : Bool) → is_double_delimiter a b ≡ v → is_delimiter a ≡ w → delimiter_length (take (delimiter_of v w) (a ∷ b ∷ rest)) ≡ delimiter_of v w
    by_tests true w e f = rw e refl
    by_tests false true e f = rw f refl
    by_tests false false e f = refl

pub delimiter_longest : (bytes : List ℕ) (j : ℕ) → j ≤ length bytes → delimiter_length (take j bytes) ≡ length (take j bytes) → j ≤ delimiter_length bytes
delimiter_longest bytes zero fits e = omega arith
delimiter_longest [] (suc j) fits e = absurd (omega arith)
delimiter_longest (a ∷ []) (suc zero) fits e = omega (arith, e)
delimiter_longest (a ∷ []) (suc (suc j)) fits e = absurd (omega arith)
delimiter_longest (a ∷ b ∷ rest) (suc zero) fits e = by_tests (is_double_delimiter a b) (is_delimiter a) e
  where
    by_tests : (v w : Bool) → cond {A = ℕ} w 1 0 ≡ 1 → 1 ≤ delimiter_of v w
    by_tests true w e = omega arith
    by_tests false true e = omega arith
    by_tests false false e = absurd (omega (arith, e))
delimiter_longest (a ∷ b ∷ rest) (suc (suc i)) fits e = omega (arith, e, length-take-le i rest (omega arith))

no_comment : (rest : List ℕ) → gap_length (45 ∷ rest) ≡ 0 → begins_with (λ b. eqb b 45) rest ≡ false
unfolding run_length
no_comment [] e = refl
no_comment (c ∷ rest) e = by_test (eqb c 45) refl e
  where
    by_test : (v : Bool) → eqb c 45 ≡ v → cond v (run_length Line (45 ∷ c ∷ rest)) 0 ≡ 0 → eqb c 45 ≡ false
    by_test false f g = f
    by_test true f g = absurd (omega (arith, g))

minus_apart : (b : ℕ) (rest : List ℕ) (n : ℕ) → gap_length (b ∷ rest) ≡ 0 → 0 < n → n ≤ length (b ∷ rest) → take n (b ∷ rest) ≡ 45 ∷ []
    → begins_with (λ b. eqb b 45) (drop n (b ∷ rest)) ≡ false
minus_apart b rest zero gap pos fits e = absurd (omega arith)
minus_apart b rest (suc zero) gap pos fits e =
    let is : b ≡ 45 = cc in
    no_comment rest (subst (λ (k : ℕ). gap_length (k ∷ rest) ≡ 0) is gap)
minus_apart b rest (suc (suc n)) gap pos fits e =
    let short : length (take (suc (suc n)) (b ∷ rest)) ≡ 1 = ap length e in
    absurd (omega (arith, short, length-take-le (suc (suc n)) (b ∷ rest) fits))

pub delimiter_read : (place : Place) (b : ℕ) (rest : List ℕ) (n : ℕ) → gap_length (b ∷ rest) ≡ 0 → delimiter_unless (delimiter_length (b ∷ rest)) place ≡ Ok n
    → IsRead kinds.Delimiter n (b ∷ rest)
delimiter_read place b rest n gap e =
    let p = delimiter_some (delimiter_length (b ∷ rest)) place n e in
    let le : n ≤ length (b ∷ rest) = omega (arith, delimiter_fits (b ∷ rest), p.0) in
    let length_is : length (take n (b ∷ rest)) ≡ n = length-take-le n (b ∷ rest) le in
    let first : delimiter_length (take n (b ∷ rest)) ≡ n = subst (λ (k : ℕ). delimiter_length (take k (b ∷ rest)) ≡ k) p.0 (delimiter_first (b ∷ rest)) in
    record {
      fits = le;
      shaped = (omega (arith, length_is, p.1), first ∙ sym length_is);
      within = tt;
      longest = longest_by kinds.Delimiter n (b ∷ rest) le (λ j fits token. omega (arith, delimiter_longest (b ∷ rest) j fits token.1, p.0));
      apart = minus_apart b rest n gap p.1 le;
    }

-- whatever the kind
pub token_read : (letter digit mark : Bool) (place : Place) (b : ℕ) (rest : List ℕ) (n : ℕ) → is_ascii_alphabetic b ≡ letter → is_ascii_digit b ≡ digit
    → eqb b 34 ≡ mark → gap_length (b ∷ rest) ≡ 0 → 0 < n
    → token_at (cond letter kinds.Word (cond digit kinds.Number (cond mark kinds.Text kinds.Delimiter))) place (b ∷ rest) ≡ Ok n
    → IsRead (cond letter kinds.Word (cond digit kinds.Number (cond mark kinds.Text kinds.Delimiter))) n (b ∷ rest)
token_read true digit mark place b rest n l d m gap some e = word_read place (b ∷ rest) n l some e
token_read false true mark place b rest n l d m gap some e = number_read place (b ∷ rest) n d some e
token_read false false true place b rest n l d m gap some e = text_read place b rest n m e
token_read false false false place b rest n l d m gap some e = delimiter_read place b rest n gap e
