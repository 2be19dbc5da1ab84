-- The tokens of a source lie inside it, and what lies there are tokens.
use Rattle.std.proofs.Common.{◌≡◌, ℕ, ◌+◌, ◌<◌, ◌≤◌, true, false, ◌&&◌, List, [], ◌∷◌, ◌++◌, length, take, drop}
use Rattle.std.proofs.Common.{Result, Ok, Err, refl, sym, ap, ◌∙◌, subst, arith, length-append, append_assoc}
use Rattle.std.proofs.lemmas.Bool.{and_parts, false≢true}
use Rattle.std.proofs.Math.Seq.{take-append_seam, drop-append_seam}
use Rattle.std.specs.Prelude.{Bool, IfOk}
use Rattle.ann_base.specs.declared.faults.OrMemory.{OrMemory}
use Rattle.ada_lex.specs.declared.scan.Spot.{Spot}
use Rattle.ada_lex.specs.declared.tokens.Kind.{Kind}
use Rattle.ada_lex.specs.declared.tokens.Kind.TheVariants as kinds
use Rattle.ada_lex.specs.declared.tokens.Token.{Token}
use Rattle.ada_lex.specs.declared.tokens.LexFault.{LexFault}
use Rattle.ada_lex.specs.Shapes.{begins_with}
use Rattle.ada_lex.specs.Meaning.{spelling_of}
use Rattle.ada_lex.specs.Reading.{behind, behind_all, made, start}
use Rattle.ada_lex.specs.Lexed.{IsToken, IsWithin, IsProper, IsTokenOf, AreTokensOf, LexedFrom, Lexed}

offset-behind : (b : ℕ) (spot : Spot) → (behind spot b).offset ≡ spot.offset + 1
offset-behind b spot = grind arith

-- as many bytes further
offset-behind_all : (bytes : List ℕ) (spot : Spot) → (behind_all bytes spot).offset ≡ spot.offset + length bytes
unfolding behind_all
offset-behind_all [] spot = omega arith
offset-behind_all (b ∷ rest) spot = omega (arith, offset-behind_all rest (behind spot b), offset-behind b spot)

begun : (test : ℕ → Bool) (bytes : List ℕ) → begins_with test bytes ≡ true → 0 < length bytes
begun test [] e = absurd (false≢true e)
begun test (b ∷ rest) e = omega arith

token_has_bytes : (kind : Kind) (bytes : List ℕ) → IsToken kind bytes → 0 < length bytes
token_has_bytes kinds.Word bytes is = begun _ bytes ((and_parts _ _ is).0)
token_has_bytes kinds.Number bytes is = begun _ bytes is.1
token_has_bytes kinds.Text bytes is = begun _ bytes is.0
token_has_bytes kinds.Delimiter bytes is = is.0

-- what lies between what stands before and what stands behind
between : (front text rest : List ℕ) (a b : ℕ) → a ≡ length front → b ≡ length text → take b (drop a (front ++ (text ++ rest))) ≡ text
between front text rest a b p q = rw (p, q, drop-append_seam front (text ++ rest), take-append_seam text rest) refl

token_inside : (front gap text rest : List ℕ) (kind : Kind) (spot : Spot) (source : List ℕ) → spot.offset ≡ length front
    → source ≡ front ++ (gap ++ (text ++ rest)) → IsToken kind text → IsWithin kind text → IsTokenOf source (made kind (behind_all gap spot) (length text))
token_inside front gap text rest kind spot source at parts shaped within =
    let some : 0 < length text = token_has_bytes kind text shaped in
    let first : (behind_all gap spot).offset ≡ length (front ++ gap) = omega (arith, offset-behind_all gap spot, length-append front gap) in
    let whole : source ≡ (front ++ gap) ++ (text ++ rest) = parts ∙ sym (append_assoc front gap (text ++ rest)) in
    let bytes : length source ≡ length (front ++ gap) + (length text + length rest) =
    ap length whole ∙ omega (arith, length-append (front ++ gap) (text ++ rest), length-append text rest) in
    let spelt : spelling_of source (made kind (behind_all gap spot) (length text)) ≡ text =
    subst (λ (s : List ℕ). spelling_of s (made kind (behind_all gap spot) (length text)) ≡ text) (sym whole)
    (between (front ++ gap) text rest _ _ first (omega arith)) in
    record {
      inside = record { some = omega arith; inside = omega arith };
      proper = subst (λ (t : List ℕ). IsProper kind t) (sym spelt) (record { shaped = shaped; within = within });
    }

tokens_inside : (tokens : List Token) (front bytes : List ℕ) (spot : Spot) (source : List ℕ) → spot.offset ≡ length front → source ≡ front ++ bytes
    → LexedFrom tokens spot bytes → AreTokensOf source tokens
tokens_inside [] front bytes spot source at parts lexed = tt
tokens_inside (token ∷ tokens) front bytes spot source at parts (gap, text, rest, stands, lexed) =
    let whole : source ≡ front ++ (gap ++ (text ++ rest)) = parts ∙ ap (λ (x : List ℕ). front ++ x) stands.parts in
    let further : source ≡ (front ++ (gap ++ text)) ++ rest =
    whole ∙ ap (λ (x : List ℕ). front ++ x) (sym (append_assoc gap text rest)) ∙ sym (append_assoc front (gap ++ text) rest) in
    let reached : (behind_all (gap ++ text) spot).offset ≡ length (front ++ (gap ++ text)) =
    omega (arith, offset-behind_all (gap ++ text) spot, length-append front (gap ++ text)) in (
      subst (λ (t : Token). IsTokenOf source t) (sym stands.placed)
          (token_inside front gap text rest token.kind spot source at whole stands.shaped stands.within),
      tokens_inside tokens (front ++ (gap ++ text)) rest (behind_all (gap ++ text) spot) source reached further lexed,
    )

tokens_few : (tokens : List Token) (bytes : List ℕ) (spot : Spot) → LexedFrom tokens spot bytes → length tokens ≤ length bytes
tokens_few [] bytes spot lexed = omega arith
tokens_few (token ∷ tokens) bytes spot (gap, text, rest, stands, lexed) =
    omega (
      arith,
      token_has_bytes token.kind text stands.shaped,
      tokens_few tokens rest (behind_all (gap ++ text) spot) lexed,
      ap length stands.parts,
      length-append gap (text ++ rest),
      length-append text rest,
    )

pub inside_by : {V : Type 0} (view : V → List Token) (answer : Result V (OrMemory LexFault)) (source : List ℕ) → IfOk answer (λ v. Lexed source (view v))
    → IfOk answer (λ v. AreTokensOf source (view v))
inside_by view (Ok v) source lexed = tokens_inside (view v) [] source start source refl refl lexed.1
inside_by view (Err e) source lexed = tt

pub few_by : {V : Type 0} (view : V → List Token) (answer : Result V (OrMemory LexFault)) (source : List ℕ) → IfOk answer (λ v. Lexed source (view v))
    → IfOk answer (λ v. length (view v) ≤ length source)
few_by view (Ok v) source lexed = tokens_few (view v) source start lexed.1
few_by view (Err e) source lexed = tt
