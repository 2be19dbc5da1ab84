-- What is read is lexed.
use Rattle.std.proofs.Common.{◌≡◌, ℕ, zero, suc, ◌-◌, ◌<◌, ◌≤◌, Bool, true, false, cond, not, eqb, ◌&&◌, ◌⊎◌, List, []}
use Rattle.std.proofs.Common.{◌∷◌, ◌++◌, length, take, drop, Option, Some, Result, Ok, Err, refl, sym, ap, ◌∙◌, subst}
use Rattle.std.proofs.Common.{arith, inl, inr, length-drop, take-append-drop, append_assoc, length-take-le, ltb, ltb-false}
use Rattle.std.proofs.lemmas.Bool.{and_parts, eqb-true, false≢true}
use Rattle.std.specs.Prelude.{IfOk}
use Rattle.std.specs.Char.{is_ascii_digit, is_ascii_alphabetic}
use Rattle.ann_base.specs.Results.{◌>>=◌}
use Rattle.ann_base.specs.declared.faults.OrMemory.{OrMemory}
use Rattle.ann_base.specs.Answers.{AnswersAs}
use Rattle.ada_lex.specs.declared.scan.Run.TheVariants.{Line}
use Rattle.ada_lex.specs.declared.scan.Spot.{Spot}
use Rattle.ada_lex.specs.declared.tokens.Kind.{Kind}
use Rattle.ada_lex.specs.declared.tokens.Kind.TheVariants as kinds
use Rattle.ada_lex.specs.declared.tokens.Token.{Token}
use Rattle.ada_lex.specs.declared.tokens.LexFault.{LexFault}
use Rattle.ada_lex.specs.declared.tokens.LexFault.TheVariants as faults
use Rattle.ada_lex.specs.Shapes.{begins_with, is_separator, gap_length, run_length, delimiter_length}
use Rattle.ada_lex.specs.Reading.{behind, behind_all, made, kind_of, token_at, piece_at, piece_unless, with_front, tokens_from, tokens_of, start}
use Rattle.ada_lex.specs.Lexed.{gap_state, IsToken, LexedFrom, Lexed}
use Rattle.ada_lex.proofs.Loops.{piece_is}
use Rattle.ada_lex.proofs.Pieces.{token_some}
use Rattle.ada_lex.proofs.Longest.{IsRead, token_read}

-- a separator before a gap
separator_first : (b : ℕ) (bytes : List ℕ) → is_separator b ≡ true → gap_state false (b ∷ bytes) ≡ gap_state false bytes
unfolding gap_state
separator_first b [] e = rw e refl
separator_first b (c ∷ rest) e = rw e refl

-- the bytes of a comment leave it open
comment_open : (bytes more : List ℕ) → gap_state true (take (run_length Line bytes) bytes ++ more) ≡ gap_state true more
unfolding gap_state run_length
comment_open [] more = refl
comment_open (b ∷ rest) more = by_test (not (eqb b 10)) refl (comment_open rest more)
  where
    by_test : (v : Bool) → not (eqb b 10) ≡ v → gap_state true (take (run_length Line rest) rest ++ more) ≡ gap_state true more
        → gap_state true (take (cond v (suc (run_length Line rest)) 0) (b ∷ rest) ++ more) ≡ gap_state true more
    by_test true e ih = subst (λ (v : Bool). gap_state v (take (run_length Line rest) rest ++ more) ≡ gap_state true more) (sym e) ih
    by_test false e ih = refl

line_over : (bytes : List ℕ) → begins_with (λ b. not (eqb b 10)) (drop (run_length Line bytes) bytes) ≡ false
unfolding run_length
line_over [] = refl
line_over (b ∷ rest) = by_test (not (eqb b 10)) refl (line_over rest)
  where
    by_test : (v : Bool) → not (eqb b 10) ≡ v → begins_with (λ b. not (eqb b 10)) (drop (run_length Line rest) rest) ≡ false
        → begins_with (λ b. not (eqb b 10)) (drop (cond v (suc (run_length Line rest)) 0) (b ∷ rest)) ≡ false
    by_test true e ih = ih
    by_test false e ih = e

-- a gap that is read, before more bytes: as without it, or the comment is open and its line is over
pub record Joins (n : ℕ) (bytes more : List ℕ) (state : Option Bool) : Type 0 where
  pub how : (gap_state false (take n bytes ++ more) ≡ state)
      ⊎ ((gap_state false (take n bytes ++ more) ≡ gap_state true more) × (begins_with (λ b. not (eqb b 10)) (drop n bytes) ≡ false))

one_is : (n : ℕ) → 1 ≡ suc n → 0 ≡ n
one_is n e = omega arith

gap_joins : (bytes more : List ℕ) (n : ℕ) → gap_length bytes ≡ suc n → Joins (suc n) bytes more (gap_state false more)
unfolding gap_state run_length
gap_joins [] more n e = absurd cc
gap_joins (a ∷ []) more n e = by_test (is_separator a) refl e
  where
    by_test : (v : Bool) → is_separator a ≡ v → cond v 1 0 ≡ suc n → Joins (suc n) (a ∷ []) more (gap_state false more)
    by_test false s e = absurd (omega (arith, e))
    by_test true s e = record {
      how = inl (subst (λ (k : ℕ). gap_state false (take (suc k) (a ∷ []) ++ more) ≡ gap_state false more) (one_is n e) (separator_first a more s));
    }
gap_joins (a ∷ b ∷ rest) more n e = by_tests (is_separator a) (eqb a 45) (eqb b 45) refl refl refl e
  where
    by_tests : (s v w : Bool) → is_separator a ≡ s → eqb a 45 ≡ v → eqb b 45 ≡ w → cond s 1 (cond (v && w) (run_length Line (a ∷ b ∷ rest)) 0) ≡ suc n
        → Joins (suc n) (a ∷ b ∷ rest) more (gap_state false more)
    by_tests true v w p q r e =
        record {
          how = inl (subst (λ (k : ℕ). gap_state false (take (suc k) (a ∷ b ∷ rest) ++ more) ≡ gap_state false more) (one_is n e) (separator_first a more p));
        }
    by_tests false false w p q r e = absurd (omega (arith, e))
    by_tests false true false p q r e = absurd (omega (arith, e))
    by_tests false true true p q r e =
        let minus : a ≡ 45 = eqb-true a 45 q in
        let second : b ≡ 45 = eqb-true b 45 r in
        let long : suc (suc (run_length Line rest)) ≡ suc n = sym (rw (minus, second) refl) ∙ e in
        let opens : gap_state false (take (suc (suc (run_length Line rest))) (a ∷ b ∷ rest) ++ more) ≡ gap_state true more =
        rw (p, q, r) (comment_open rest more) in
        record {
          how =
              inr (
                subst (λ (k : ℕ). gap_state false (take k (a ∷ b ∷ rest) ++ more) ≡ gap_state true more) long opens,
                subst (λ (k : ℕ). begins_with (λ b. not (eqb b 10)) (drop k (a ∷ b ∷ rest)) ≡ false) long (line_over rest),
              );
        }

-- where a line is over, an open comment ends
line_ends : (bytes : List ℕ) → begins_with (λ b. not (eqb b 10)) bytes ≡ false
    → (gap_state true bytes ≡ Some true) ⊎ (gap_state true bytes ≡ gap_state false bytes)
unfolding gap_state
line_ends [] e = inl refl
line_ends (b ∷ rest) e = by_test (eqb b 10) refl e
  where
    by_test : (v : Bool) → eqb b 10 ≡ v → not v ≡ false → (gap_state true (b ∷ rest) ≡ Some true) ⊎ (gap_state true (b ∷ rest) ≡ gap_state false (b ∷ rest))
    by_test false p q = absurd (false≢true (sym q))
    by_test true p q =
        let is : b ≡ 10 = eqb-true b 10 p in
        inr (rw p (sym (separator_first b rest (rw is refl))))

-- a token does not begin with a line feed
not_ten : (test : ℕ → Bool) (bytes more : List ℕ) → test 10 ≡ false → begins_with test bytes ≡ true → begins_with (λ b. not (eqb b 10)) (bytes ++ more) ≡ true
not_ten test [] more ten e = absurd (false≢true e)
not_ten test (b ∷ rest) more ten e = by_test (eqb b 10) refl
  where
    by_test : (v : Bool) → eqb b 10 ≡ v → not v ≡ true
    by_test false p = refl
    by_test true p = absurd (false≢true (sym ten ∙ ap test (sym (eqb-true b 10 p)) ∙ e))

delimiter_begins : (bytes more : List ℕ) → 0 < length bytes → delimiter_length bytes ≡ length bytes → begins_with (λ b. not (eqb b 10)) (bytes ++ more) ≡ true
delimiter_begins [] more some e = absurd (omega arith)
delimiter_begins (b ∷ rest) more some e = by_test (eqb b 10) refl
  where
    ten_is_none : (x : List ℕ) → delimiter_length (10 ∷ x) ≡ 0
    ten_is_none [] = refl
    ten_is_none (c ∷ x) = by_bool (eqb c 61)
      where
        by_bool : (v : Bool) → cond {A = ℕ} (v && false) 2 0 ≡ 0
        by_bool true = refl
        by_bool false = refl

    by_test : (v : Bool) → eqb b 10 ≡ v → not v ≡ true
    by_test false p = refl
    by_test true p =
        let none : delimiter_length (b ∷ rest) ≡ 0 = ap (λ (k : ℕ). delimiter_length (k ∷ rest)) (eqb-true b 10 p) ∙ ten_is_none rest in
        absurd (omega (arith, none, e))

token_begins : (kind : Kind) (bytes more : List ℕ) → IsToken kind bytes → begins_with (λ b. not (eqb b 10)) (bytes ++ more) ≡ true
token_begins kinds.Word bytes more token = not_ten is_ascii_alphabetic bytes more refl (and_parts _ _ token).0
token_begins kinds.Number bytes more token = not_ten is_ascii_digit bytes more refl token.1
token_begins kinds.Text bytes more token = not_ten (λ b. eqb b 34) bytes more refl token.0
token_begins kinds.Delimiter bytes more token = delimiter_begins bytes more token.0 token.1

is_line : (b : ℕ) (v : Bool) → eqb b 10 ≡ v → not v ≡ false → is_separator b ≡ true
is_line b true p q = rw (eqb-true b 10 p) refl
is_line b false p q = absurd (false≢true (sym q))

-- a gap before what is lexed
open_before : (rest gap text more : List ℕ) (kind : Kind) → rest ≡ gap ++ (text ++ more) → IsToken kind text → gap_state false gap ≡ Some false
    → begins_with (λ b. not (eqb b 10)) rest ≡ false → gap_state true gap ≡ Some false
unfolding gap_state
open_before rest [] text more kind parts token state over =
    absurd (false≢true (sym over ∙ ap (begins_with (λ b. not (eqb b 10))) parts ∙ token_begins kind text more token))
open_before rest (b ∷ gap) text more kind parts token state over =
    elim (line_ends (b ∷ gap) (sym (ap (begins_with (λ b. not (eqb b 10))) parts) ∙ over)) [
      | inl ends ↦ from_test (eqb b 10) refl (sym (ap (begins_with (λ b. not (eqb b 10))) parts) ∙ over)
      | inr same ↦ same ∙ state
    ]
  where
    from_test : (v : Bool) → eqb b 10 ≡ v → not (eqb b 10) ≡ false → gap_state (not (eqb b 10)) gap ≡ Some false
    from_test v p q = subst (λ (w : Bool). gap_state w gap ≡ Some false) (sym q) (sym (separator_first b gap (is_line b (eqb b 10) refl q)) ∙ state)

pub behind_append : (a b : List ℕ) (spot : Spot) → behind_all (a ++ b) spot ≡ behind_all b (behind_all a spot)
unfolding behind_all
behind_append [] b spot = refl
behind_append (x ∷ a) b spot = behind_append a b (behind spot x)

gap_before : (n : ℕ) (bytes : List ℕ) (spot : Spot) (tokens : List Token) → gap_length bytes ≡ suc n
    → LexedFrom tokens (behind_all (take (suc n) bytes) spot) (drop (suc n) bytes) → LexedFrom tokens spot bytes
gap_before n bytes spot [] gap (inside, state) =
    let parts : take (suc n) bytes ++ drop (suc n) bytes ≡ bytes = take-append-drop (suc n) bytes in
    elim (gap_joins bytes (drop (suc n) bytes) n gap).how as (λ _. LexedFrom [] spot bytes) [
      | inl same ↦ (inside, sym (ap (gap_state false) parts) ∙ same ∙ state)
      | inr opens ↦
          elim (line_ends (drop (suc n) bytes) opens.1) as (λ _. LexedFrom [] spot bytes) [
            | inl ends ↦ (true, sym (ap (gap_state false) parts) ∙ opens.0 ∙ ends)
            | inr same ↦ (inside, sym (ap (gap_state false) parts) ∙ opens.0 ∙ same ∙ state)
          ]
    ]
gap_before n bytes spot (token ∷ tokens) gap (before, text, more, stands, lexed) =
    let front : List ℕ = take (suc n) bytes in
    let whole : take (suc n) bytes ++ drop (suc n) bytes ≡ bytes = take-append-drop (suc n) bytes in
    let parts : bytes ≡ (take (suc n) bytes ++ before) ++ (text ++ more) =
    sym whole ∙ ap (λ (x : List ℕ). take (suc n) bytes ++ x) stands.parts ∙ sym (append_assoc (take (suc n) bytes) before (text ++ more)) in
    let state : gap_state false (take (suc n) bytes ++ before) ≡ Some false =
    elim (gap_joins bytes before n gap).how as (λ _. gap_state false (take (suc n) bytes ++ before) ≡ Some false) [
      | inl same ↦ same ∙ stands.separated
      | inr opens ↦ opens.0 ∙ open_before (drop (suc n) bytes) before text more token.kind stands.parts stands.shaped stands.separated opens.1
    ]
    in
    let place : behind_all before (behind_all (take (suc n) bytes) spot) ≡ behind_all (take (suc n) bytes ++ before) spot =
    sym (behind_append (take (suc n) bytes) before spot) in
    let next : behind_all (before ++ text) (behind_all (take (suc n) bytes) spot) ≡ behind_all ((take (suc n) bytes ++ before) ++ text) spot =
    sym (behind_append (take (suc n) bytes) (before ++ text) spot)
    ∙ ap (λ (x : List ℕ). behind_all x spot) (sym (append_assoc (take (suc n) bytes) before text)) in (
      take (suc n) bytes ++ before,
      text,
      more,
      record {
        parts = parts;
        separated = state;
        shaped = stands.shaped;
        within = stands.within;
        longest = stands.longest;
        apart = stands.apart;
        placed = stands.placed ∙ ap (λ (s : Spot). made token.kind s (length text)) place;
      },
      subst (λ (s : Spot). LexedFrom tokens s more) next lexed,
    )

token_before : (n : ℕ) (bytes : List ℕ) (spot : Spot) (kind : Kind) (tokens : List Token) → IsRead kind n bytes
    → LexedFrom tokens (behind_all (take n bytes) spot) (drop n bytes) → LexedFrom (made kind spot n ∷ tokens) spot bytes
unfolding gap_state behind_all
token_before n bytes spot kind tokens read lexed = (
  [],
  take n bytes,
  drop n bytes,
  record {
    parts = sym (take-append-drop n bytes);
    separated = refl;
    shaped = read.shaped;
    within = read.within;
    longest = read.longest;
    apart = read.apart;
    placed = ap (λ (k : ℕ). made kind spot k) (sym (length-take-le n bytes read.fits));
  },
  lexed,
)

abbrev no_tokens : List Token
no_tokens = []

front_ok : (found : List Token) (read : Result (List Token) LexFault) (tokens : List Token) → with_front found read ≡ Ok tokens
    → (us : List Token) × (read ≡ Ok us) × (found ++ us ≡ tokens)
front_ok found (Ok us) tokens e = (us, refl, cc)
front_ok found (Err f) tokens e = absurd cc

abbrev Pieces : ℕ → Kind → Spot → List ℕ → List Token → ℕ → Type 0
Pieces gap kind spot bytes found n =
    ((m : ℕ) × (gap ≡ suc m) × (found ≡ []) × (n ≡ suc m)) ⊎ ((gap ≡ 0) × (found ≡ made kind spot n ∷ []) × (token_at kind spot.place bytes ≡ Ok n))

piece_cases : (gap : ℕ) (kind : Kind) (spot : Spot) (bytes : List ℕ) (found : List Token) (n : ℕ) → piece_unless gap kind spot bytes ≡ Ok (found, n)
    → Pieces gap kind spot bytes found n
piece_cases (suc m) kind spot bytes found n e =
    let pair : (no_tokens, suc m) ≡ (found, n) = cc in
    inl (m, refl, sym (ap (λ (p : List Token × ℕ). p.0) pair), sym (ap (λ (p : List Token × ℕ). p.1) pair))
piece_cases zero kind spot bytes found n e = by_result (token_at kind spot.place bytes) refl e
  where
    by_result : (r : Result ℕ LexFault) → token_at kind spot.place bytes ≡ r
        → (◌>>=◌ {Y = List Token × ℕ} r (λ k. Ok (made kind spot k ∷ [], k))) ≡ Ok (found, n) → Pieces 0 kind spot bytes found n
    by_result (Err f) p q = absurd cc
    by_result (Ok k) p q =
        let pair : (made kind spot k ∷ [], k) ≡ (found, n) = cc in
        let same : k ≡ n = ap (λ (x : List Token × ℕ). x.1) pair in
        inr (refl, subst (λ (i : ℕ). found ≡ made kind spot i ∷ []) same (sym (ap (λ (x : List Token × ℕ). x.0) pair)), p ∙ ap (λ (i : ℕ). Ok i) same)

step : (b : ℕ) (rest : List ℕ) (spot : Spot) (tokens found : List Token) (n : ℕ) → piece_at spot (b ∷ rest) ≡ Ok (found, n)
    → tokens_from (b ∷ rest) 0 spot ≡ Ok tokens
    → ((x : List ℕ) (s : Spot) (us : List Token) → length x < length (b ∷ rest) → tokens_from x 0 s ≡ Ok us → LexedFrom us s x)
    → LexedFrom tokens spot (b ∷ rest)
unfolding piece_at
step b rest spot tokens found n piece read ih =
    elim (piece_cases (gap_length (b ∷ rest)) (kind_of b) spot (b ∷ rest) found n piece) as (λ _. LexedFrom tokens spot (b ∷ rest)) [
      | inl (m, gap, none, is) ↦
          let some : 0 < n = omega (arith, is) in
          let shorter : length (drop n (b ∷ rest)) < length (b ∷ rest) = omega (arith, length-drop n (b ∷ rest), some) in
          let p =
          front_ok found (tokens_from (drop n (b ∷ rest)) 0 (behind_all (take n (b ∷ rest)) spot)) tokens
          (sym (piece_is (b ∷ rest) spot found n (omega arith) some piece) ∙ read) in
          let lexed = ih (drop n (b ∷ rest)) (behind_all (take n (b ∷ rest)) spot) p.0 shorter p.1 in
          let moved : LexedFrom p.0 (behind_all (take (suc m) (b ∷ rest)) spot) (drop (suc m) (b ∷ rest)) =
          subst (λ (k : ℕ). LexedFrom p.0 (behind_all (take k (b ∷ rest)) spot) (drop k (b ∷ rest))) is lexed in
          let same : p.0 ≡ tokens = sym (ap (λ (l : List Token). l ++ p.0) none) ∙ p.2 in
          subst (λ (l : List Token). LexedFrom l spot (b ∷ rest)) same (gap_before m (b ∷ rest) spot p.0 gap moved)
      | inr (gap, one, token) ↦
          let some : 0 < n = token_some spot.place (kind_of b) (b ∷ rest) n (omega arith) refl token in
          let shorter : length (drop n (b ∷ rest)) < length (b ∷ rest) = omega (arith, length-drop n (b ∷ rest), some) in
          let p =
          front_ok found (tokens_from (drop n (b ∷ rest)) 0 (behind_all (take n (b ∷ rest)) spot)) tokens
          (sym (piece_is (b ∷ rest) spot found n (omega arith) some piece) ∙ read) in
          let lexed = ih (drop n (b ∷ rest)) (behind_all (take n (b ∷ rest)) spot) p.0 shorter p.1 in
          let reads = token_read (is_ascii_alphabetic b) (is_ascii_digit b) (eqb b 34) spot.place b rest n refl refl refl gap some token in
          let same : made (kind_of b) spot n ∷ p.0 ≡ tokens = sym (ap (λ (l : List Token). l ++ p.0) one) ∙ p.2 in
          subst (λ (l : List Token). LexedFrom l spot (b ∷ rest)) same (token_before n (b ∷ rest) spot (kind_of b) p.0 reads lexed)
    ]

fault_no : (b : ℕ) (rest : List ℕ) (spot : Spot) (tokens : List Token) (r : Result (List Token × ℕ) LexFault) (f : LexFault) → r ≡ Err f
    → (r >>= λ piece. with_front piece.0 (tokens_from rest (piece.1 - 1) (behind spot b))) ≡ Ok tokens → ⊥
fault_no b rest spot tokens (Ok x) f p q = cc
fault_no b rest spot tokens (Err g) f p q = cc

lexed_from : (fuel : ℕ) (bytes : List ℕ) (spot : Spot) (tokens : List Token) → length bytes ≤ fuel → tokens_from bytes 0 spot ≡ Ok tokens
    → LexedFrom tokens spot bytes
unfolding tokens_from gap_state
lexed_from fuel [] spot tokens le e = let none : no_tokens ≡ tokens = cc in subst (λ (l : List Token). LexedFrom l spot []) none (false, refl)
lexed_from zero (b ∷ rest) spot tokens le e = absurd (omega arith)
lexed_from (suc fuel) (b ∷ rest) spot tokens le e = by_piece (piece_at spot (b ∷ rest)) refl (λ x s us lt r. lexed_from fuel x s us (omega arith) r)
  where
    by_piece : (r : Result (List Token × ℕ) LexFault) → piece_at spot (b ∷ rest) ≡ r
        → ((x : List ℕ) (s : Spot) (us : List Token) → length x < length (b ∷ rest) → tokens_from x 0 s ≡ Ok us → LexedFrom us s x)
        → LexedFrom tokens spot (b ∷ rest)
    by_piece (Ok (found, n)) p ih = step b rest spot tokens found n p e ih
    by_piece (Err f) p ih = absurd (fault_no b rest spot tokens (piece_at spot (b ∷ rest)) f p e)

-- what reading a source gives is lexed
pub lexed : (source : List ℕ) (tokens : List Token) → tokens_of source ≡ Ok tokens → Lexed source tokens
unfolding tokens_of
lexed source tokens e = by_test (ltb 262144 (length source)) refl e
  where
    by_test : (v : Bool) → ltb 262144 (length source) ≡ v → cond v (Err faults.TooLong) (tokens_from source 0 start) ≡ Ok tokens → Lexed source tokens
    by_test true p q = absurd cc
    by_test false p q = (ltb-false 262144 (length source) p, lexed_from (length source) source start tokens (omega arith) q)

-- what a function that reads a source answers is lexed
pub found_by : {V : Type 0} (view : V → List Token) (answer : Result V (OrMemory LexFault)) (source : List ℕ) → length source ≤ 262144
    → AnswersAs view answer (tokens_from source 0 start) → IfOk answer (λ v. Lexed source (view v))
found_by view (Ok v) source le e = (le, lexed_from (length source) source start (view v) (omega arith) e)
found_by view (Err f) source le e = tt
