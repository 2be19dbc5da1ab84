-- The tokens of a source stand at places that rise, so each stands at a place of its own.
use Rattle.std.proofs.Common.{◌≡◌, ◌⊎◌, inl, inr, ℕ, zero, suc, ◌+◌, ◌-◌, ◌≤◌, ◌<◌, Bool, true, false, cond}
use Rattle.std.proofs.Common.{List, [], ◌∷◌, length, Result, Ok, Err, refl, sym, ap, subst, ◌∙◌, arith}
use Rattle.std.specs.Prelude.{map, nat_lt, ◌==◌}
use Rattle.ann_base.specs.Results.{◌>>=◌}
use Rattle.ann_base.specs.declared.places.Place.{Place}
use Rattle.ada_lex.specs.declared.tokens.Token.{Token}
use Rattle.ada_lex.specs.declared.tokens.Kind.{Kind}
use Rattle.ada_lex.specs.declared.tokens.LexFault.{LexFault}
use Rattle.ada_lex.specs.declared.lexing.TheConstants.{MAX_SOURCE}
use Rattle.ada_lex.specs.declared.tokens.LexFault.TheVariants as faults
use Rattle.ada_lex.specs.Shapes.{gap_length}
use Rattle.ada_lex.specs.Reading.{behind, made, start, kind_of, token_at, piece_unless, piece_at, with_front, tokens_from, tokens_of}
use Rattle.ada_regions.specs.Words.{same_place}
use Rattle.source_laws.proofs.Names.Denoting.{same_place-path}
use Rattle.source_laws.proofs.Sources.Counting.{one_if, count}
use Rattle.source_laws.proofs.Accepted.Lines.{Spot}

-- where one stands in a source is of a type that ada_lex keeps to itself

-- ---- places by line and column

abbrev pub Before : Place → Place → Type 0
Before a b = (a.line < b.line) ⊎ ((a.line ≡ b.line) × (a.column < b.column))

before-through : (a b c : Place) → Before a b → Before b c → Before a c
before-through a b c (inl x) (inl y) = inl (omega arith)
before-through a b c (inl x) (inr y) = inl (let h = y.0 in omega arith)
before-through a b c (inr x) (inl y) = inl (let h = x.0 in omega arith)
before-through a b c (inr x) (inr y) = inr (x.0 ∙ y.0, (let g = x.1 in let h = y.1 in omega arith))

before-apart : (a b : Place) → Before a b → same_place a b ≡ true → ⊥
before-apart a b (inl x) e = let h : a.line ≡ b.line = ap (λ p. p.line) (same_place-path a b e) in omega arith
before-apart a b (inr x) e = let h : a.column ≡ b.column = ap (λ p. p.column) (same_place-path a b e) in let g = x.1 in omega arith

behind-byte : (spot : Spot) (b : ℕ) → Before spot.place (behind spot b).place
behind-byte spot b = go (b == 10)
  where
    go : (t : Bool)
        → Before spot.place
        (cond {A = Spot} t (record { offset = spot.offset + 1; place = record { line = spot.place.line + 1; column = 1 } })
        (record { offset = spot.offset + 1; place = record { line = spot.place.line; column = spot.place.column + 1 } })).place
    go true = inl (omega arith)
    go false = inr (refl, omega arith)

-- ---- tokens behind a place

abbrev pub AllBehind : Place → List Token → Type 0
AllBehind p [] = Unit {0}
AllBehind p (t ∷ ts) = Before p t.place × AllBehind p ts

abbrev pub Rising : List Token → Type 0
Rising [] = Unit {0}
Rising (t ∷ ts) = AllBehind t.place ts × Rising ts

all-further : (p q : Place) → Before p q → (ts : List Token) → AllBehind q ts → AllBehind p ts
all-further p q less [] all = tt
all-further p q less (t ∷ ts) all = (before-through p q t.place less all.0, all-further p q less ts all.1)

-- ---- what a source reads as

abbrev Answered : (List Token → Type 0) → Result (List Token) LexFault → Type 0
Answered P (Ok tokens) = P tokens
Answered P (Err fault) = Unit {0}

abbrev Found : Place → List Token → Type 0
Found p [] = Unit {0}
Found p (t ∷ []) = t.place ≡ p
Found p (t ∷ u ∷ ts) = ⊥

-- a piece that stands at a place: no token, or one
abbrev PieceAt : Place → Result (List Token × ℕ) LexFault → Type 0
PieceAt p (Ok piece) = Found p piece.0
PieceAt p (Err fault) = Unit {0}

one-piece : (p : Place) (token : ℕ → Token) → ((n : ℕ) → (token n).place ≡ p) → (r : Result ℕ LexFault) → PieceAt p (r >>= (λ n. Ok (token n ∷ [], n)))
one-piece p token stands (Ok n) = stands n
one-piece p token stands (Err fault) = tt

piece-unless : (gap : ℕ) (kind : Kind) (spot : Spot) (bytes : List ℕ) → PieceAt spot.place (piece_unless gap kind spot bytes)
piece-unless zero kind spot bytes = one-piece spot.place (made kind spot) (λ n. refl) (token_at kind spot.place bytes)
piece-unless (suc n) kind spot bytes = tt

piece-stands : (spot : Spot) (b : ℕ) (rest : List ℕ) → PieceAt spot.place (piece_at spot (b ∷ rest))
unfolding piece_at
piece-stands spot b rest = piece-unless (gap_length (b ∷ rest)) (kind_of b) spot (b ∷ rest)

-- the tokens rise, and stand at this place or behind it
abbrev From : Place → List Token → Type 0
From p [] = Unit {0}
From p (t ∷ ts) = ((t.place ≡ p) ⊎ Before p t.place) × AllBehind t.place ts × Rising ts

from-behind : (p q : Place) → Before p q → (ts : List Token) → From q ts → AllBehind p ts × Rising ts
from-behind p q less [] from = (tt, tt)
from-behind p q less (t ∷ ts) from = let here = at from.0 in ((here, all-further p t.place here ts from.1), (from.1, from.2))
  where
    at : ((t.place ≡ q) ⊎ Before q t.place) → Before p t.place
    at (inl same) = subst (λ x. Before p x) (sym same) less
    at (inr later) = before-through p q t.place less later

from-further : (p q : Place) → Before p q → (ts : List Token) → From q ts → From p ts
from-further p q less [] from = tt
from-further p q less (t ∷ ts) from = let all = from-behind p q less (t ∷ ts) from in (inr all.0.0, from.1, from.2)

with-found : (p q : Place) → Before p q → (found : List Token) → Found p found → (r : Result (List Token) LexFault) → Answered (From q) r
    → Answered (From p) (with_front found r)
with-found p q less found here (Err fault) from = tt
with-found p q less [] here (Ok ts) from = from-further p q less ts from
with-found p q less (t ∷ []) here (Ok ts) from = let all = from-behind p q less ts from in (inl here, subst (λ x. AllBehind x ts) (sym here) all.0, all.1)
with-found p q less (t ∷ u ∷ us) here (Ok ts) from = absurd here

piece-found : (p q : Place) → Before p q → (piece : Result (List Token × ℕ) LexFault) → PieceAt p piece → (next : ℕ → Result (List Token) LexFault)
    → ((k : ℕ) → Answered (From q) (next k))
    → Answered (From p) (piece >>= (λ found. with_front found.0 (next (found.1 - 1))))
piece-found p q less (Ok piece) here next from = with-found p q less piece.0 here (next (piece.1 - 1)) (from (piece.1 - 1))
piece-found p q less (Err fault) here next from = tt

further : (p q : Place) → Before p q → (r : Result (List Token) LexFault) → Answered (From q) r → Answered (From p) r
further p q less (Ok ts) from = from-further p q less ts from
further p q less (Err fault) from = tt

read-from : (bytes : List ℕ) (skip : ℕ) (spot : Spot) → Answered (From spot.place) (tokens_from bytes skip spot)
unfolding tokens_from
read-from [] skip spot = tt
read-from (b ∷ rest) zero spot =
    piece-found spot.place (behind spot b).place (behind-byte spot b) (piece_at spot (b ∷ rest)) (piece-stands spot b rest)
    (λ k. tokens_from rest k (behind spot b)) (λ k. read-from rest k (behind spot b))
read-from (b ∷ rest) (suc skip) spot =
    further spot.place (behind spot b).place (behind-byte spot b) (tokens_from rest skip (behind spot b)) (read-from rest skip (behind spot b))

from-rises : (p : Place) (ts : List Token) → From p ts → Rising ts
from-rises p [] from = tt
from-rises p (t ∷ ts) from = (from.1, from.2)

pub tokens-rise : (source : List ℕ) (tokens : List Token) → tokens_of source ≡ Ok tokens → Rising tokens
unfolding tokens_of
tokens-rise source tokens e = go (nat_lt MAX_SOURCE (length source)) e
  where
    go : (t : Bool) → cond t (Err faults.TooLong) (tokens_from source 0 start) ≡ Ok tokens → Rising tokens
    go true q = cc
    go false q = from-rises start.place tokens (subst (λ (r : Result (List Token) LexFault). Answered (From start.place) r) q (read-from source 0 start))

-- ---- so each stands at a place of its own

pub count-behind : (p q : Place) → same_place p q ≡ true → (ts : List Token) → AllBehind q ts → count p (map (λ t. t.place) ts) ≡ 0
count-behind p q same [] all = refl
count-behind p q same (t ∷ ts) all = go (same_place p t.place) refl (count-behind p q same ts all.1)
  where
    go : (b : Bool) → same_place p t.place ≡ b → count p (map (λ x. x.place) ts) ≡ 0 → one_if b + count p (map (λ x. x.place) ts) ≡ 0
    go true e rest = absurd (before-apart q t.place all.0 (ap (λ x. same_place x t.place) (sym (same_place-path p q same)) ∙ e))
    go false e rest = omega arith

pub rising-apart : (p : Place) (ts : List Token) → Rising ts → count p (map (λ t. t.place) ts) ≤ 1
rising-apart p [] rising = omega arith
rising-apart p (t ∷ ts) rising = go (same_place p t.place) refl (rising-apart p ts rising.1)
  where
    go : (b : Bool) → same_place p t.place ≡ b → count p (map (λ x. x.place) ts) ≤ 1 → one_if b + count p (map (λ x. x.place) ts) ≤ 1
    go true e rest = let h = count-behind p t.place e ts rising.0 in omega arith
    go false e rest = omega arith
