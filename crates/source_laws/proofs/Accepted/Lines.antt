-- The tokens of a source stand on lines from one on.
use Rattle.std.proofs.Common.{◌≡◌, ℕ, zero, suc, ◌+◌, ◌-◌, ◌≤◌, Bool, true, false, cond, List, []}
use Rattle.std.proofs.Common.{◌∷◌, ◌++◌, length, map, Result, Ok, Err, refl, ap, subst, arith}
use Rattle.std.specs.Prelude.{nat_lt, ◌==◌}
use Rattle.ann_base.specs.Results.{◌>>=◌}
use Rattle.ann_base.specs.declared.places.Place.{Place}
use Rattle.ada_lex.specs.declared.tokens.Token.{Token}
use Rattle.ada_lex.specs.declared.tokens.Kind.{Kind}
use Rattle.ada_lex.specs.declared.tokens.LexFault.{LexFault}
use Rattle.ada_lex.specs.declared.lexing.TheConstants.{MAX_SOURCE}
use Rattle.ada_lex.specs.declared.tokens.LexFault.TheVariants as faults
use Rattle.ada_lex.specs.Shapes.{gap_length}
use Rattle.ada_lex.specs.Reading.{behind, made, start, kind_of, token_at, piece_unless, piece_at, with_front, tokens_from, tokens_of}
use Rattle.ada_regions.specs.Words.{same_place}
use Rattle.source_laws.proofs.Names.Denoting.{same_place-path}
use Rattle.source_laws.proofs.Sources.Counting.{one_if, count}

-- where one stands in a source is of a type that ada_lex keeps to itself
abbrev pub type_of : {A : Type 0} → A → Type 0
type_of {A} a = A

abbrev pub Spot : Type 0
Spot = type_of start

abbrev OnLine : Place → Type 0
OnLine p = 1 ≤ p.line

abbrev AllOnLines : List Token → Type 0
AllOnLines [] = Unit {0}
AllOnLines (t ∷ ts) = OnLine t.place × AllOnLines ts

abbrev Answered : Result (List Token) LexFault → Type 0
Answered (Ok tokens) = AllOnLines tokens
Answered (Err fault) = Unit {0}

abbrev PieceOn : Result (List Token × ℕ) LexFault → Type 0
PieceOn (Ok piece) = AllOnLines piece.0
PieceOn (Err fault) = Unit {0}

line-behind : (spot : Spot) (b : ℕ) → OnLine spot.place → OnLine (behind spot b).place
line-behind spot b on = go (b == 10)
  where
    go : (t : Bool)
        → OnLine (cond {A = Spot} t (record { offset = spot.offset + 1; place = record { line = spot.place.line + 1; column = 1 } })
        (record { offset = spot.offset + 1; place = record { line = spot.place.line; column = spot.place.column + 1 } })).place
    go true = omega arith
    go false = on

one-piece : (token : ℕ → Token) → ((n : ℕ) → OnLine (token n).place) → (r : Result ℕ LexFault) → PieceOn (r >>= (λ n. Ok (token n ∷ [], n)))
one-piece token on (Ok n) = (on n, tt)
one-piece token on (Err fault) = tt

piece-unless : (gap : ℕ) (kind : Kind) (spot : Spot) (bytes : List ℕ) → OnLine spot.place → PieceOn (piece_unless gap kind spot bytes)
piece-unless zero kind spot bytes on = one-piece (made kind spot) (λ n. on) (token_at kind spot.place bytes)
piece-unless (suc n) kind spot bytes on = tt

piece-on : (spot : Spot) (b : ℕ) (rest : List ℕ) → OnLine spot.place → PieceOn (piece_at spot (b ∷ rest))
unfolding piece_at
piece-on spot b rest on = piece-unless (gap_length (b ∷ rest)) (kind_of b) spot (b ∷ rest) on

both-on : (ts us : List Token) → AllOnLines ts → AllOnLines us → AllOnLines (ts ++ us)
both-on [] us on all = all
both-on (t ∷ ts) us on all = (on.0, both-on ts us on.1 all)

with-found : (found : List Token) → AllOnLines found → (r : Result (List Token) LexFault) → Answered r → Answered (with_front found r)
with-found found on (Ok ts) all = both-on found ts on all
with-found found on (Err fault) all = tt

piece-found : (piece : Result (List Token × ℕ) LexFault) → PieceOn piece → (next : ℕ → Result (List Token) LexFault) → ((k : ℕ) → Answered (next k))
    → Answered (piece >>= (λ found. with_front found.0 (next (found.1 - 1))))
piece-found (Ok piece) on next all = with-found piece.0 on (next (piece.1 - 1)) (all (piece.1 - 1))
piece-found (Err fault) on next all = tt

read-on_lines : (bytes : List ℕ) (skip : ℕ) (spot : Spot) → OnLine spot.place → Answered (tokens_from bytes skip spot)
unfolding tokens_from
read-on_lines [] skip spot on = tt
read-on_lines (b ∷ rest) zero spot on =
    piece-found (piece_at spot (b ∷ rest)) (piece-on spot b rest on) (λ k. tokens_from rest k (behind spot b))
    (λ k. read-on_lines rest k (behind spot b) (line-behind spot b on))
read-on_lines (b ∷ rest) (suc skip) spot on = read-on_lines rest skip (behind spot b) (line-behind spot b on)

tokens-on_lines : (source : List ℕ) (tokens : List Token) → tokens_of source ≡ Ok tokens → AllOnLines tokens
unfolding tokens_of
tokens-on_lines source tokens e = go (nat_lt MAX_SOURCE (length source)) e
  where
    go : (t : Bool) → cond t (Err faults.TooLong) (tokens_from source 0 start) ≡ Ok tokens → AllOnLines tokens
    go true q = cc
    go false q = subst Answered q (read-on_lines source 0 start (omega arith))

-- none stands on a line before

none-before : (p : Place) → p.line ≤ 0 → (ts : List Token) → AllOnLines ts → count p (map (λ t. t.place) ts) ≡ 0
none-before p low [] on = refl
none-before p low (t ∷ ts) on = go (same_place p t.place) refl (none-before p low ts on.1)
  where
    go : (b : Bool) → same_place p t.place ≡ b → count p (map (λ x. x.place) ts) ≡ 0 → one_if b + count p (map (λ x. x.place) ts) ≡ 0
    go true e rest = let h : p.line ≡ t.place.line = ap (λ q. q.line) (same_place-path p t.place e) in let g = on.0 in absurd (omega arith)
    go false e rest = omega arith

pub none-on_no_line : (source : List ℕ) (tokens : List Token) → tokens_of source ≡ Ok tokens → (p : Place) → p.line ≤ 0
    → count p (map (λ t. t.place) tokens) ≡ 0
none-on_no_line source tokens e p low = none-before p low tokens (tokens-on_lines source tokens e)
