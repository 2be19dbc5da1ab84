-- What is lexed is what reading gives.
use Rattle.std.proofs.Common.{◌≡◌, ℕ, zero, suc, ◌+◌, ◌-◌, ◌<◌, ◌≤◌, Bool, true, false, cond, eqb, leb, ◌&&◌, ◌||◌, ◌⊎◌, List, [], ◌∷◌, ◌++◌}
use Rattle.std.proofs.Common.{length, take, drop, Result, Ok, refl, sym, ap, ◌∙◌, subst, arith, inl, inr, length-append, take-add, take_at, drop_at}
use Rattle.std.proofs.lemmas.Bool.{and_parts, cases_lt, eqb-true, false≢true, leb-true, lt-leb, or_cases}
use Rattle.std.specs.Char.{is_ascii_digit, is_ascii_alphabetic}
use Rattle.ann_base.specs.declared.faults.OrMemory.{OrMemory}
use Rattle.ann_base.specs.Answers.{AnswersAs}
use Rattle.ann_base.specs.declared.faults.OrMemory.TheVariants as answer
use Rattle.ada_lex.specs.declared.scan.Spot.{Spot}
use Rattle.ada_lex.specs.declared.tokens.Kind.{Kind}
use Rattle.ada_lex.specs.declared.tokens.Kind.TheVariants as kinds
use Rattle.ada_lex.specs.declared.tokens.Token.{Token}
use Rattle.ada_lex.specs.declared.tokens.LexFault.{LexFault}
use Rattle.ada_lex.specs.Shapes.{begins_with, is_separator, is_delimiter, is_double_delimiter, gap_length, delimiter_length, run_length}
use Rattle.ada_lex.specs.Reading.{behind_all, made, kind_of, token_at, piece_at, with_front, tokens_from, start}
use Rattle.ada_lex.specs.Lexed.{IsToken, IsWithin, IsApart, StandsThere, LexedFrom, Lexed}
use Rattle.ada_lex.proofs.Loops.{piece_is}
use Rattle.ada_lex.proofs.Found.{behind_append}
use Rattle.ada_lex.proofs.GapsRead.{gap_skipped, last_gap}
use Rattle.ada_lex.proofs.Complete.{Stands, word_stands, number_stands, text_stands, delimiter_stands}

-- a byte that passes a test is none that does not
differs : (test : ℕ → Bool) (k b : ℕ) → test k ≡ false → test b ≡ true → eqb b k ≡ false
differs test k b fails passes = by_test (eqb b k) refl
  where
    by_test : (v : Bool) → eqb b k ≡ v → v ≡ false
    by_test false e = refl
    by_test true e = absurd (false≢true (sym fails ∙ ap test (sym (eqb-true b k e)) ∙ passes))

no_separator : (test : ℕ → Bool) (b : ℕ) → test 32 ≡ false → test 9 ≡ false → test 12 ≡ false → test 13 ≡ false → test 10 ≡ false → test b ≡ true
    → is_separator b ≡ false
no_separator test b p q r s t passes =
    rw (differs test 32 b p passes, differs test 9 b q passes, differs test 12 b r passes, differs test 13 b s passes, differs test 10 b t passes) refl

gap_none : (b : ℕ) (more : List ℕ) → is_separator b ≡ false → ((eqb b 45 ≡ false) ⊎ (begins_with (λ c. eqb c 45) more ≡ false)) → gap_length (b ∷ more) ≡ 0
gap_none b [] sep h = rw sep refl
gap_none b (c ∷ more) sep (inl e) = rw (sep, e) refl
gap_none b (c ∷ more) sep (inr e) = rw (sep, e) (by_test (eqb b 45))
  where
    by_test : (v : Bool) → cond {A = ℕ} (v && false) (run_length Rattle.ada_lex.specs.declared.scan.Run.TheVariants.Line (b ∷ c ∷ more)) 0 ≡ 0
    by_test true = refl
    by_test false = refl

-- what the first byte says
abbrev Begins : Kind → ℕ → List ℕ → Type 0
Begins kind b more = (gap_length (b ∷ more) ≡ 0) × (kind_of b ≡ kind)

not_letter : (b : ℕ) → b < 65 → is_ascii_alphabetic b ≡ false
not_letter b lt = rw (lt-leb 65 b lt, lt-leb 97 b (omega arith)) refl

word_begins : (b : ℕ) (more : List ℕ) → is_ascii_alphabetic b ≡ true → Begins kinds.Word b more
word_begins b more e = (
  gap_none b more (no_separator is_ascii_alphabetic b refl refl refl refl refl e) (inl (differs is_ascii_alphabetic 45 b refl e)),
  rw e refl,
)

number_begins : (b : ℕ) (more : List ℕ) → is_ascii_digit b ≡ true → Begins kinds.Number b more
number_begins b more e =
    let p = and_parts _ _ e in
    let low : b < 65 = omega (arith, leb-true b 57 p.1) in
    (gap_none b more (no_separator is_ascii_digit b refl refl refl refl refl e) (inl (differs is_ascii_digit 45 b refl e)), rw (not_letter b low, e) refl)

text_begins : (b : ℕ) (more : List ℕ) → eqb b 34 ≡ true → Begins kinds.Text b more
text_begins b more e = (
  gap_none b more (no_separator (λ c. eqb c 34) b refl refl refl refl refl e) (inl (differs (λ c. eqb c 34) 45 b refl e)),
  subst (λ (k : ℕ). kind_of k ≡ kinds.Text) (sym (eqb-true b 34 e)) refl,
)

double_single : (a b : ℕ) → is_double_delimiter a b ≡ true → is_delimiter a ≡ true
double_single a b e =
    elim (or_cases (((eqb a 61) && (eqb b 62)) || ((eqb a 46) && (eqb b 46))) ((eqb b 61) && (((eqb a 58) || (eqb a 47) || (eqb a 62)) || (eqb a 60))) e) as (λ _.
    is_delimiter a ≡ true) [
      | inl p ↦
          elim (or_cases ((eqb a 61) && (eqb b 62)) ((eqb a 46) && (eqb b 46)) p) as (λ _. is_delimiter a ≡ true) [
            | inl q ↦ at 61 refl (and_parts (eqb a 61) (eqb b 62) q).0
            | inr q ↦ at 46 refl (and_parts (eqb a 46) (eqb b 46) q).0
          ]
      | inr p ↦
          elim (or_cases ((eqb a 58) || (eqb a 47) || (eqb a 62)) (eqb a 60)
          (and_parts (eqb b 61) (((eqb a 58) || (eqb a 47) || (eqb a 62)) || (eqb a 60)) p).1) as (λ _. is_delimiter a ≡ true) [
            | inl q ↦
                elim (or_cases ((eqb a 58) || (eqb a 47)) (eqb a 62) q) as (λ _. is_delimiter a ≡ true) [
                  | inl r ↦ elim (or_cases (eqb a 58) (eqb a 47) r) as (λ _. is_delimiter a ≡ true) [ inl s ↦ at 58 refl s | inr s ↦ at 47 refl s ]
                  | inr r ↦ at 62 refl r
                ]
            | inr q ↦ at 60 refl q
          ]
    ]
  where
    at : (k : ℕ) → is_delimiter k ≡ true → eqb a k ≡ true → is_delimiter a ≡ true
    at k m e = ap is_delimiter (eqb-true a k e) ∙ m

not_digit : (b : ℕ) → (b < 48) ⊎ (57 < b) → is_ascii_digit b ≡ false
not_digit b (inl lt) = rw (lt-leb 48 b lt) refl
not_digit b (inr lt) = rw (lt-leb b 57 lt) (by_test (leb 48 b))
  where
    by_test : (v : Bool) → (v && false) ≡ false
    by_test true = refl
    by_test false = refl

delimiter_plain : (b : ℕ) → is_delimiter b ≡ true → (is_ascii_alphabetic b ≡ false) × (is_ascii_digit b ≡ false)
delimiter_plain b e =
    elim (or_cases ((leb 38 b && leb b 47) || (leb 58 b && leb b 62)) (eqb b 124) e) as (λ _. (is_ascii_alphabetic b ≡ false) × (is_ascii_digit b ≡ false)) [
      | inl p ↦
          elim (or_cases (leb 38 b && leb b 47) (leb 58 b && leb b 62) p) as (λ _. (is_ascii_alphabetic b ≡ false) × (is_ascii_digit b ≡ false)) [
            | inl q ↦ let le : b ≤ 47 = leb-true b 47 (and_parts (leb 38 b) (leb b 47) q).1 in (not_letter b (omega arith), not_digit b (inl (omega arith)))
            | inr q ↦ let low : 58 ≤ b =
                leb-true 58 b (and_parts (leb 58 b) (leb b 62) q).0 in
                let le : b ≤ 62 = leb-true b 62 (and_parts (leb 58 b) (leb b 62) q).1 in
                (not_letter b (omega arith), not_digit b (inr (omega arith)))
          ]
      | inr p ↦ subst (λ (k : ℕ). (is_ascii_alphabetic k ≡ false) × (is_ascii_digit k ≡ false)) (sym (eqb-true b 124 p)) (refl, refl)
    ]

first_is_mark : (b : ℕ) (more : List ℕ) → 0 < delimiter_length (b ∷ more) → is_delimiter b ≡ true
first_is_mark b [] lt = by_test (is_delimiter b) lt
  where
    by_test : (v : Bool) → 0 < cond {A = ℕ} v 1 0 → v ≡ true
    by_test true lt = refl
    by_test false lt = absurd (omega (arith, lt))
first_is_mark b (c ∷ more) lt = by_tests (is_double_delimiter b c) (is_delimiter b) refl refl lt
  where
    by_tests : (v w : Bool) → is_double_delimiter b c ≡ v → is_delimiter b ≡ w → 0 < cond {A = ℕ} v 2 (cond {A = ℕ} w 1 0) → w ≡ true
    by_tests true w p q lt = sym q ∙ double_single b c p
    by_tests false true p q lt = refl
    by_tests false false p q lt = absurd (omega (arith, lt))

minus_alone : (more : List ℕ) → delimiter_length (45 ∷ more) ≡ 1
minus_alone [] = refl
minus_alone (c ∷ more) = by_test (eqb c 61)
  where
    by_test : (v : Bool) → cond {A = ℕ} (v && false) 2 1 ≡ 1
    by_test true = refl
    by_test false = refl

delimiter_begins : (b n : ℕ) (more : List ℕ) → delimiter_length (b ∷ more) ≡ n → 0 < n → IsApart kinds.Delimiter (take n (b ∷ more)) (drop n (b ∷ more))
    → Begins kinds.Delimiter b more
delimiter_begins b n more is some apart =
    let mark : is_delimiter b ≡ true = first_is_mark b more (omega (arith, is, some)) in
    let plain = delimiter_plain b mark in (
      gap_none b more (no_separator is_delimiter b refl refl refl refl refl mark) (minus (eqb b 45) refl),
      rw (plain.0, plain.1, differs is_delimiter 34 b refl mark) refl,
    )
  where
    minus : (v : Bool) → eqb b 45 ≡ v → (v ≡ false) ⊎ (begins_with (λ c. eqb c 45) more ≡ false)
    minus false e = inl refl
    minus true e =
        let first : b ≡ 45 = eqb-true b 45 e in
        let one : n ≡ 1 = sym is ∙ ap (λ (k : ℕ). delimiter_length (k ∷ more)) first ∙ minus_alone more in
        let spelt : take n (b ∷ more) ≡ 45 ∷ [] = ap (λ (k : ℕ). take k (b ∷ more)) one ∙ ap (λ (k : ℕ). k ∷ []) first in
        inr (subst (λ (k : ℕ). begins_with (λ c. eqb c 45) (drop k (b ∷ more)) ≡ false) one (apart spelt))

first_passes : (test : ℕ → Bool) (n b : ℕ) (more : List ℕ) → begins_with test (take n (b ∷ more)) ≡ true → test b ≡ true
first_passes test zero b more e = absurd (false≢true e)
first_passes test (suc n) b more e = e

pub begins : (kind : Kind) (n b : ℕ) (more : List ℕ) (spot : Spot) → Stands kind n (b ∷ more)
    → Begins kind b more × (token_at kind spot.place (b ∷ more) ≡ Ok n)
begins kinds.Word n b more spot s = (
  word_begins b more (first_passes is_ascii_alphabetic n b more (and_parts _ _ s.shaped).0),
  word_stands spot.place n (b ∷ more) s,
)
begins kinds.Number n b more spot s = (number_begins b more (first_passes is_ascii_digit n b more s.shaped.1), number_stands spot.place n (b ∷ more) s)
begins kinds.Text n b more spot s = (text_begins b more (first_passes (λ c. eqb c 34) n b more s.shaped.0), text_stands spot.place n b more s)
begins kinds.Delimiter n b more spot s = let p = delimiter_stands spot.place n (b ∷ more) s in (delimiter_begins b n more p.0 p.2 s.apart, p.1)

piece_there : (kind : Kind) (n b : ℕ) (more : List ℕ) (spot : Spot) → Stands kind n (b ∷ more) → piece_at spot (b ∷ more) ≡ Ok (made kind spot n ∷ [], n)
unfolding piece_at
piece_there kind n b more spot s = let p = begins kind n b more spot s in rw (p.0.0, p.0.1, p.1) refl

no_token : (kind : Kind) → IsToken kind [] → ⊥
no_token kinds.Word e = false≢true e
no_token kinds.Number e = false≢true e.1
no_token kinds.Text e = false≢true e.0
no_token kinds.Delimiter e = omega (arith, e.0)

stands_of : (spot : Spot) (bytes : List ℕ) (token : Token) (gap text rest : List ℕ) → StandsThere spot bytes token gap text rest
    → Stands token.kind (length text) (text ++ rest)
stands_of spot bytes token gap text rest s =
    let front : take (length text) (text ++ rest) ≡ text = take_at text rest (length text) refl in
    let back : drop (length text) (text ++ rest) ≡ rest = drop_at text rest (length text) refl in
    record {
      fits = omega (arith, length-append text rest);
      shaped = subst (IsToken token.kind) (sym front) s.shaped;
      within = subst (IsWithin token.kind) (sym front) s.within;
      longest = λ j le whole.
          elim (cases_lt (length text) j) as (λ _. j ≤ length text) [
            | inl lt ↦
                let sum : j ≡ length text + (j - length text) = omega arith in
                let parts : take j (text ++ rest) ≡ text ++ take (j - length text) rest =
                ap (λ (k : ℕ). take k (text ++ rest)) sum ∙ take-add (length text) (j - length text) (text ++ rest)
                ∙ ap (λ (x : List ℕ). x ++ take (j - length text) (drop (length text) (text ++ rest))) front
                ∙ ap (λ (x : List ℕ). text ++ take (j - length text) x) back in
                absurd (s.longest (j - length text) (omega arith) (omega (arith, length-append text rest)) (subst (IsToken token.kind) parts whole))
            | inr le2 ↦ le2
          ];
      apart = subst (λ (x : List ℕ). IsApart token.kind x (drop (length text) (text ++ rest))) (sym front) (subst (IsApart token.kind text) (sym back) s.apart);
    }

token_step : (kind : Kind) (text rest : List ℕ) (spot : Spot) → IsToken kind text → Stands kind (length text) (text ++ rest)
    → tokens_from (text ++ rest) 0 spot ≡ with_front (made kind spot (length text) ∷ []) (tokens_from rest 0 (behind_all text spot))
token_step kind [] rest spot token s = absurd (no_token kind token)
token_step kind (b ∷ text) rest spot token s =
    let n : ℕ = length (b ∷ text) in
    let front : take (length (b ∷ text)) ((b ∷ text) ++ rest) ≡ b ∷ text = take_at (b ∷ text) rest (length (b ∷ text)) refl in
    let back : drop (length (b ∷ text)) ((b ∷ text) ++ rest) ≡ rest = drop_at (b ∷ text) rest (length (b ∷ text)) refl in
    piece_is ((b ∷ text) ++ rest) spot (made kind spot (length (b ∷ text)) ∷ []) (length (b ∷ text)) (omega arith) (omega arith)
    (piece_there kind (length (b ∷ text)) b (text ++ rest) spot s)
    ∙ ap (λ (x : List ℕ).
    with_front (made kind spot (length (b ∷ text)) ∷ []) (tokens_from x 0 (behind_all (take (length (b ∷ text)) ((b ∷ text) ++ rest)) spot))) back
    ∙ ap (λ (x : List ℕ). with_front (made kind spot (length (b ∷ text)) ∷ []) (tokens_from rest 0 (behind_all x spot))) front

complete : (tokens : List Token) (bytes : List ℕ) (spot : Spot) → LexedFrom tokens spot bytes → tokens_from bytes 0 spot ≡ Ok tokens
complete [] bytes spot (z, state) = last_gap bytes z spot state
complete (token ∷ tokens) bytes spot (gap, text, rest, s, lexed) =
    let stands = stands_of spot bytes token gap text rest s in
    let skipped = gap_skipped false gap (text ++ rest) false spot s.separated (inl refl) in
    let step = token_step token.kind text rest (behind_all gap spot) s.shaped stands in
    let others : tokens_from rest 0 (behind_all text (behind_all gap spot)) ≡ Ok tokens =
    subst (λ (k : Spot). tokens_from rest 0 k ≡ Ok tokens) (behind_append gap text spot) (complete tokens rest (behind_all (gap ++ text) spot) lexed) in
    ap (λ (x : List ℕ). tokens_from x 0 spot) s.parts ∙ skipped ∙ step ∙ ap (with_front (made token.kind (behind_all gap spot) (length text) ∷ [])) others
    ∙ ap (λ (t : Token). Ok (t ∷ tokens)) (sym s.placed)

-- a function that reads a source answers what is lexed
pub only_by : {V : Type 0} (view : V → List Token) (answer : Result V (OrMemory LexFault)) (source : List ℕ)
    → AnswersAs view answer (tokens_from source 0 start) → (tokens : List Token) → Lexed source tokens → AnswersAs view answer (Ok tokens)
only_by view answer source e tokens (short, lexed) = subst (AnswersAs view answer) (complete tokens source start lexed) e
