-- The steps of the scanning loops, over lists alone.
use Rattle.std.proofs.Common.{◌≡◌, ℕ, zero, suc, ◌+◌, ◌-◌, ◌*◌, ◌<◌, ◌≤◌, true, false, cond, eqb, List, [], ◌∷◌, ◌++◌, length, get_or}
use Rattle.std.proofs.Common.{take, drop, Option, Some, None, Result, Ok, Err, refl, sym, ap, ◌∙◌, arith, drop-cons, add-one, append_assoc}
use Rattle.std.specs.Prelude.{option_map}
use Rattle.std.proofs.Common.{length-drop, drop-drop, sub-one}
use Rattle.std.proofs.lemmas.Grind.{common_steps}
use Rattle.std.proofs.lemmas.List.{append-nil, get_or-drop}
use Rattle.std.proofs.lemmas.Bool.{eqb-true}
use Rattle.ada_lex.specs.declared.scan.Run.{Run}
use Rattle.ada_lex.specs.declared.scan.Spot.{Spot}
use Rattle.ada_lex.specs.declared.tokens.Token.{Token}
use Rattle.ada_lex.specs.declared.tokens.LexFault.{LexFault}
use Rattle.ada_lex.specs.Shapes.{goes_on, run_length, value_behind, text_length}
use Rattle.ada_lex.specs.Meaning.{undoubled}
use Rattle.ada_lex.specs.Reading.{behind, behind_all, with_front, piece_at, tokens_from}

-- a run ends where it does not go on
pub run_ends : (run : Run) (bytes : List ℕ) → goes_on run bytes ≡ false → run_length run bytes ≡ 0
unfolding run_length
run_ends run [] stops = refl
run_ends run (b ∷ rest) stops = rw stops refl

run_goes : (run : Run) (bytes : List ℕ) → 0 < length bytes → goes_on run bytes ≡ true → run_length run bytes ≡ suc (run_length run (drop 1 bytes))
unfolding run_length
run_goes run [] some goes = absurd (omega arith)
run_goes run (b ∷ rest) some goes = rw goes refl

pub run_in_list : (run : Run) (bytes : List ℕ) → run_length run bytes ≤ length bytes
unfolding run_length
run_in_list run [] = omega arith
run_in_list run (b ∷ rest) = elim (goes_on run (b ∷ rest)) as (λ v. cond v (suc (run_length run rest)) 0 ≤ suc (length rest)) [
  | true ↦ omega (arith, run_in_list run rest)
  | false ↦ omega arith
]

-- one more byte of a run
pub run_more : (run : Run) (bytes : List ℕ) (n total : ℕ) → n < length bytes → goes_on run (drop n bytes) ≡ true → n + run_length run (drop n bytes) ≡ total
    → n + 1 + run_length run (drop (n + 1) bytes) ≡ total
run_more run bytes n total lt goes so_far =
    let some : 0 < length (drop n bytes) = grind (arith, common_steps) in
    let one = run_goes run (drop n bytes) some goes in
    let rest : drop 1 (drop n bytes) ≡ drop (n + 1) bytes = drop-drop 1 n bytes in
    let e : run_length run (drop n bytes) ≡ suc (run_length run (drop (n + 1) bytes)) = one ∙ ap (λ (x : List ℕ). suc (run_length run x)) rest in
    omega (arith, e, so_far)

pub run_done : (run : Run) (bytes : List ℕ) (n total : ℕ) → goes_on run (drop n bytes) ≡ false → n + run_length run (drop n bytes) ≡ total → n ≡ total
run_done run bytes n total stops so_far = omega (arith, run_ends run (drop n bytes) stops, so_far)

pub run_all : (run : Run) (bytes : List ℕ) (n total : ℕ) → length bytes ≤ n → n + run_length run (drop n bytes) ≡ total → n ≡ total
run_all run bytes n total le so_far =
    let e : length (drop n bytes) ≤ 0 = grind (arith, common_steps) in
    omega (arith, run_in_list run (drop n bytes), so_far, e)

-- a text, byte by byte
plus_plus : (o : Option ℕ) (n k m : ℕ) → m ≡ n + k → option_map (λ (i : ℕ). i + n) (option_map (λ (i : ℕ). i + k) o) ≡ option_map (λ (i : ℕ). i + m) o
plus_plus None n k m e = refl
plus_plus (Some i) n k m e = ap (λ (j : ℕ). Some j) (omega arith)

text_doubled : (bytes : List ℕ) → 1 < length bytes → get_or bytes 0 0 ≡ 34 → get_or bytes 1 0 ≡ 34
    → text_length bytes ≡ option_map (λ n. n + 2) (text_length (drop 2 bytes))
unfolding text_length
text_doubled [] lt one two = absurd (omega arith)
text_doubled (b ∷ []) lt one two = absurd (omega arith)
text_doubled (b ∷ c ∷ rest) lt one two = rw (one, two) refl

text_closed : (bytes : List ℕ) → get_or bytes 0 0 ≡ 34 → (1 < length bytes → get_or bytes 1 0 ≡ 34 → ⊥) → text_length bytes ≡ Some 1
unfolding text_length
text_closed [] one two = absurd (omega arith)
text_closed (b ∷ []) one two = rw one refl
text_closed (b ∷ c ∷ rest) one two =
    rw one (elim (eqb c 34) as (λ v. eqb c 34 ≡ v → cond v (option_map (λ n. n + 2) (text_length rest)) (Some 1) ≡ Some 1) [
      | true ↦ λ e. absurd (two (omega arith) (eqb-true c 34 e))
      | false ↦ λ e. refl
    ] refl)

text_open : (bytes : List ℕ) → get_or bytes 0 0 ≡ 10 → text_length bytes ≡ None
unfolding text_length
text_open [] one = absurd (omega arith)
text_open (b ∷ []) one = rw one refl
text_open (b ∷ c ∷ rest) one = rw one refl

text_goes : (bytes : List ℕ) → 0 < length bytes → eqb (get_or bytes 0 0) 34 ≡ false → eqb (get_or bytes 0 0) 10 ≡ false
    → text_length bytes ≡ option_map (λ n. n + 1) (text_length (drop 1 bytes))
unfolding text_length
text_goes [] lt one two = absurd (omega arith)
text_goes (b ∷ []) lt one two = rw one refl
text_goes (b ∷ c ∷ rest) lt one two = rw (one, two) refl

front_byte : (bytes : List ℕ) (n i : ℕ) → get_or (drop n bytes) i 0 ≡ get_or bytes (n + i) 0
front_byte bytes n i = get_or-drop n bytes i 0

-- from the byte at n on, in the terms of the loop
pub text_doubled_at : (bytes : List ℕ) (n : ℕ) (total : Option ℕ) → n + 1 < length bytes → get_or bytes n 0 ≡ 34 → get_or bytes (n + 1) 0 ≡ 34
    → option_map (λ k. k + n) (text_length (drop n bytes)) ≡ total → option_map (λ k. k + (n + 2)) (text_length (drop (n + 2) bytes)) ≡ total
text_doubled_at bytes n total lt one two so_far =
    let len : length (drop n bytes) ≡ length bytes - n = length-drop n bytes in
    let first : get_or (drop n bytes) 0 0 ≡ 34 = front_byte bytes n 0 ∙ ap (λ (i : ℕ). get_or bytes i 0) (omega arith) ∙ one in
    let second : get_or (drop n bytes) 1 0 ≡ 34 = front_byte bytes n 1 ∙ two in
    let e = text_doubled (drop n bytes) (omega arith) first second in
    let rest : drop 2 (drop n bytes) ≡ drop (n + 2) bytes = drop-drop 2 n bytes in
    sym (plus_plus (text_length (drop (n + 2) bytes)) n 2 (n + 2) refl)
    ∙ ap (λ (x : List ℕ). option_map (λ k. k + n) (option_map (λ k. k + 2) (text_length x))) (sym rest)
    ∙ ap (λ (o : Option ℕ). option_map (λ k. k + n) o) (sym e) ∙ so_far

pub text_goes_at : (bytes : List ℕ) (n : ℕ) (total : Option ℕ) → n < length bytes → eqb (get_or bytes n 0) 34 ≡ false → eqb (get_or bytes n 0) 10 ≡ false
    → option_map (λ k. k + n) (text_length (drop n bytes)) ≡ total → option_map (λ k. k + (n + 1)) (text_length (drop (n + 1) bytes)) ≡ total
text_goes_at bytes n total lt one two so_far =
    let len : length (drop n bytes) ≡ length bytes - n = length-drop n bytes in
    let byte : get_or (drop n bytes) 0 0 ≡ get_or bytes n 0 = front_byte bytes n 0 ∙ ap (λ (i : ℕ). get_or bytes i 0) (omega arith) in
    let e = text_goes (drop n bytes) (omega arith) (ap (λ (b : ℕ). eqb b 34) byte ∙ one) (ap (λ (b : ℕ). eqb b 10) byte ∙ two) in
    let rest : drop 1 (drop n bytes) ≡ drop (n + 1) bytes = drop-drop 1 n bytes in
    sym (plus_plus (text_length (drop (n + 1) bytes)) n 1 (n + 1) refl)
    ∙ ap (λ (x : List ℕ). option_map (λ k. k + n) (option_map (λ k. k + 1) (text_length x))) (sym rest)
    ∙ ap (λ (o : Option ℕ). option_map (λ k. k + n) o) (sym e) ∙ so_far

pub text_closed_at : (bytes : List ℕ) (n : ℕ) (total : Option ℕ) → n < length bytes → get_or bytes n 0 ≡ 34
    → (n + 1 < length bytes → get_or bytes (n + 1) 0 ≡ 34 → ⊥) → option_map (λ k. k + n) (text_length (drop n bytes)) ≡ total → Some (n + 1) ≡ total
text_closed_at bytes n total lt one two so_far =
    let len : length (drop n bytes) ≡ length bytes - n = length-drop n bytes in
    let first : get_or (drop n bytes) 0 0 ≡ 34 = front_byte bytes n 0 ∙ ap (λ (i : ℕ). get_or bytes i 0) (omega arith) ∙ one in
    let e = text_closed (drop n bytes) first (λ lt2 q. two (omega arith) (sym (front_byte bytes n 1) ∙ q)) in
    ap (λ (k : ℕ). Some k) (omega arith) ∙ ap (λ (o : Option ℕ). option_map (λ k. k + n) o) (sym e) ∙ so_far

pub text_open_at : (bytes : List ℕ) (n : ℕ) (total : Option ℕ) → get_or bytes n 0 ≡ 10 → option_map (λ k. k + n) (text_length (drop n bytes)) ≡ total
    → None ≡ total
text_open_at bytes n total one so_far =
    let first : get_or (drop n bytes) 0 0 ≡ 10 = front_byte bytes n 0 ∙ ap (λ (i : ℕ). get_or bytes i 0) (omega arith) ∙ one in
    let e = text_open (drop n bytes) first in
    ap (λ (o : Option ℕ). option_map (λ k. k + n) o) (sym e) ∙ so_far

pub text_out : (bytes : List ℕ) (n : ℕ) (total : Option ℕ) → length bytes ≤ n → option_map (λ k. k + n) (text_length (drop n bytes)) ≡ total → None ≡ total
unfolding text_length
text_out bytes n total le so_far =
    let e : drop n bytes ≡ [] = grind (arith, common_steps) in
    ap (λ (x : List ℕ). option_map (λ k. k + n) (text_length x)) (sym e) ∙ so_far

-- what stands behind more digits is no less
grows : (digits : List ℕ) (value : ℕ) → value ≤ value_behind digits value
unfolding value_behind
grows [] value = omega arith
grows (b ∷ rest) value = elim (eqb b 95) as (λ v. value ≤ cond v (value_behind rest value) (value_behind rest (value * 10 + (b - 48)))) [
  | true ↦ grows rest value
  | false ↦ omega (arith, grows rest (value * 10 + (b - 48)))
]

pub digit_more : (digits : List ℕ) (i value total : ℕ) → i < length digits → eqb (get_or digits i 0) 95 ≡ false → value_behind (drop i digits) value ≡ total
    → value_behind (drop (i + 1) digits) (value * 10 + (get_or digits i 0 - 48)) ≡ total
unfolding value_behind
digit_more digits i value total lt plain so_far =
    let e : drop i digits ≡ get_or digits i 0 ∷ drop (suc i) digits = drop-cons digits i 0 lt in
    rw add-one (sym (rw plain refl) ∙ ap (λ (x : List ℕ). value_behind x value) (sym e) ∙ so_far)

pub underscore_more : (digits : List ℕ) (i value total : ℕ) → i < length digits → eqb (get_or digits i 0) 95 ≡ true → value_behind (drop i digits) value ≡ total
    → value_behind (drop (i + 1) digits) value ≡ total
unfolding value_behind
underscore_more digits i value total lt under so_far =
    let e : drop i digits ≡ get_or digits i 0 ∷ drop (suc i) digits = drop-cons digits i 0 lt in
    rw add-one (sym (rw under refl) ∙ ap (λ (x : List ℕ). value_behind x value) (sym e) ∙ so_far)

pub digit_grows : (digits : List ℕ) (i value total : ℕ) → i < length digits → eqb (get_or digits i 0) 95 ≡ false → value_behind (drop i digits) value ≡ total
    → value * 10 + (get_or digits i 0 - 48) ≤ total
digit_grows digits i value total lt plain so_far =
    omega (arith, digit_more digits i value total lt plain so_far, grows (drop (i + 1) digits) (value * 10 + (get_or digits i 0 - 48)))

-- places
pub behind_more : (bytes : List ℕ) (i : ℕ) (spot total : Spot) → i < length bytes → behind_all (drop i bytes) spot ≡ total
    → behind_all (drop (i + 1) bytes) (behind spot (get_or bytes i 0)) ≡ total
unfolding behind_all
behind_more bytes i spot total lt so_far =
    let e : drop i bytes ≡ get_or bytes i 0 ∷ drop (suc i) bytes = drop-cons bytes i 0 lt in
    rw add-one (ap (λ (x : List ℕ). behind_all x spot) (sym e) ∙ so_far)

pub behind_done : (bytes : List ℕ) (i : ℕ) (spot total : Spot) → length bytes ≤ i → behind_all (drop i bytes) spot ≡ total → spot ≡ total
unfolding behind_all
behind_done bytes i spot total le so_far =
    let e : drop i bytes ≡ [] = grind (arith, common_steps) in
    ap (λ (x : List ℕ). behind_all x spot) (sym e) ∙ so_far

-- bytes that belong to a piece are skipped
pub skipped : (bytes : List ℕ) (k : ℕ) (spot : Spot) → tokens_from bytes k spot ≡ tokens_from (drop k bytes) 0 (behind_all (take k bytes) spot)
unfolding tokens_from behind_all
skipped [] zero spot = refl
skipped [] (suc k) spot = refl
skipped (b ∷ rest) zero spot = refl
skipped (b ∷ rest) (suc k) spot = skipped rest k (behind spot b)

front_of_front : (a b : List Token) (read : Result (List Token) LexFault) → with_front a (with_front b read) ≡ with_front (a ++ b) read
front_of_front a b (Ok x) = ap (λ (l : List Token). Ok l) (sym (append_assoc a b x))
front_of_front a b (Err f) = refl

-- a piece joins what has been read
pub piece_is : (bytes : List ℕ) (spot : Spot) (found : List Token) (n : ℕ) → 0 < length bytes → 0 < n → piece_at spot bytes ≡ Ok (found, n)
    → tokens_from bytes 0 spot ≡ with_front found (tokens_from (drop n bytes) 0 (behind_all (take n bytes) spot))
unfolding tokens_from behind_all
piece_is [] spot found n some lt e = absurd (omega arith)
piece_is (b ∷ rest) spot found zero some lt e = absurd (omega arith)
piece_is (b ∷ rest) spot found (suc n) some lt e =
    rw (e, sub-one) (ap (λ (r : Result (List Token) LexFault). with_front found r) (skipped rest n (behind spot b)))

pub piece_more : (bytes : List ℕ) (spot : Spot) (front found : List Token) (n : ℕ) (total : Result (List Token) LexFault) → 0 < length bytes → 0 < n
    → piece_at spot bytes ≡ Ok (found, n)
    → with_front front (tokens_from bytes 0 spot) ≡ total → with_front (front ++ found) (tokens_from (drop n bytes) 0 (behind_all (take n bytes) spot)) ≡ total
piece_more bytes spot front found n total some lt e so_far =
    sym (front_of_front front found (tokens_from (drop n bytes) 0 (behind_all (take n bytes) spot)))
    ∙ ap (λ (r : Result (List Token) LexFault). with_front front r) (sym (piece_is bytes spot found n some lt e)) ∙ so_far

-- a fault is that of the whole
piece_fault : (bytes : List ℕ) (spot : Spot) (front : List Token) (f : LexFault) → 0 < length bytes → piece_at spot bytes ≡ Err f
    → with_front front (tokens_from bytes 0 spot) ≡ Err f
unfolding tokens_from
piece_fault [] spot front f some e = absurd (omega arith)
piece_fault (b ∷ rest) spot front f some e = rw e refl

pub piece_fails : (bytes : List ℕ) (spot : Spot) (front : List Token) (f : LexFault) (total : Result (List Token) LexFault) → 0 < length bytes
    → piece_at spot bytes ≡ Err f → with_front front (tokens_from bytes 0 spot) ≡ total → total ≡ Err f
piece_fails bytes spot front f total some h so_far = sym so_far ∙ piece_fault bytes spot front f some h

pub all_pieces : (bytes : List ℕ) (spot : Spot) (front : List Token) (total : Result (List Token) LexFault) → length bytes ≡ 0
    → with_front front (tokens_from bytes 0 spot) ≡ total → total ≡ Ok front
unfolding tokens_from
all_pieces [] spot front total none so_far = sym so_far ∙ ap (λ (l : List Token). Ok l) (append-nil front)
all_pieces (b ∷ rest) spot front total none so_far = absurd (omega arith)

pub digits_done : (digits : List ℕ) (i value total : ℕ) → length digits ≤ i → value_behind (drop i digits) value ≡ total → value ≡ total
unfolding value_behind
digits_done digits i value total le so_far =
    let e : drop i digits ≡ [] = grind (arith, common_steps) in
    ap (λ (x : List ℕ). value_behind x value) (sym e) ∙ so_far

-- what a text holds
undoubled_mark : (bytes : List ℕ) → 1 < length bytes → eqb (get_or bytes 0 0) 34 ≡ true → undoubled bytes ≡ get_or bytes 0 0 ∷ undoubled (drop 2 bytes)
unfolding undoubled
undoubled_mark [] lt e = absurd (omega arith)
undoubled_mark (b ∷ []) lt e = absurd (omega arith)
undoubled_mark (b ∷ c ∷ rest) lt e = rw e refl

undoubled_other : (bytes : List ℕ) → 1 < length bytes → eqb (get_or bytes 0 0) 34 ≡ false → undoubled bytes ≡ get_or bytes 0 0 ∷ undoubled (drop 1 bytes)
unfolding undoubled
undoubled_other [] lt e = absurd (omega arith)
undoubled_other (b ∷ []) lt e = absurd (omega arith)
undoubled_other (b ∷ c ∷ rest) lt e = rw e refl

undoubled_short : (bytes : List ℕ) → length bytes ≤ 1 → undoubled bytes ≡ []
unfolding undoubled
undoubled_short [] le = refl
undoubled_short (b ∷ []) le = refl
undoubled_short (b ∷ c ∷ rest) le = absurd (omega arith)

pub undoubled_mark_at : (text : List ℕ) (n : ℕ) (value total : List ℕ) → n + 1 < length text → eqb (get_or text n 0) 34 ≡ true
    → value ++ undoubled (drop n text) ≡ total → (value ++ get_or text n 0 ∷ []) ++ undoubled (drop (n + 2) text) ≡ total
undoubled_mark_at text n value total lt e so_far =
    let byte : get_or (drop n text) 0 0 ≡ get_or text n 0 = front_byte text n 0 ∙ ap (λ (i : ℕ). get_or text i 0) (omega arith) in
    let one = undoubled_mark (drop n text) (omega (arith, length-drop n text)) (ap (λ (b : ℕ). eqb b 34) byte ∙ e) in
    let rest : drop 2 (drop n text) ≡ drop (n + 2) text = drop-drop 2 n text in
    append_assoc value (get_or text n 0 ∷ []) (undoubled (drop (n + 2) text))
    ∙ ap (λ (x : List ℕ). value ++ x)
    (ap (λ (x : List ℕ). get_or text n 0 ∷ undoubled x) (sym rest) ∙ ap (λ (b : ℕ). b ∷ undoubled (drop 2 (drop n text))) (sym byte) ∙ sym one)
    ∙ so_far

pub undoubled_other_at : (text : List ℕ) (n : ℕ) (value total : List ℕ) → n + 1 < length text → eqb (get_or text n 0) 34 ≡ false
    → value ++ undoubled (drop n text) ≡ total → (value ++ get_or text n 0 ∷ []) ++ undoubled (drop (n + 1) text) ≡ total
undoubled_other_at text n value total lt e so_far =
    let byte : get_or (drop n text) 0 0 ≡ get_or text n 0 = front_byte text n 0 ∙ ap (λ (i : ℕ). get_or text i 0) (omega arith) in
    let one = undoubled_other (drop n text) (omega (arith, length-drop n text)) (ap (λ (b : ℕ). eqb b 34) byte ∙ e) in
    let rest : drop 1 (drop n text) ≡ drop (n + 1) text = drop-drop 1 n text in
    append_assoc value (get_or text n 0 ∷ []) (undoubled (drop (n + 1) text))
    ∙ ap (λ (x : List ℕ). value ++ x)
    (ap (λ (x : List ℕ). get_or text n 0 ∷ undoubled x) (sym rest) ∙ ap (λ (b : ℕ). b ∷ undoubled (drop 1 (drop n text))) (sym byte) ∙ sym one)
    ∙ so_far

pub undoubled_all : (text : List ℕ) (n : ℕ) (value total : List ℕ) → length text ≤ n + 1 → value ++ undoubled (drop n text) ≡ total → value ≡ total
undoubled_all text n value total le so_far =
    sym (append-nil value) ∙ ap (λ (x : List ℕ). value ++ x) (sym (undoubled_short (drop n text) (omega (arith, length-drop n text)))) ∙ so_far
