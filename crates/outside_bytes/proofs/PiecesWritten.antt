-- Pieces that are written one after another.
use Rattle.std.proofs.Common.{◌≡◌, ℕ, List, [], ◌++◌, Option, Some, None, Result, Ok, Err, OnOk}
use Rattle.std.proofs.Common.{OnErr, refl, sym, ap, subst, ◌∙◌, append_assoc, append-nil, take, drop}
use Rattle.std.proofs.lemmas.List.{take-append-drop}
use Rattle.ann_base.specs.Outside.{extended}
use Rattle.outside_bytes.specs.Pieces.{HoldsPrefix}

pub extended-append : (held : Option (List ℕ)) (a b : List ℕ) → extended (extended held a) b ≡ extended held (a ++ b)
extended-append None a b = refl
extended-append (Some held) a b = ap Some (append_assoc held a b)

pub extended-nil : (held : Option (List ℕ)) → extended held [] ≡ held
extended-nil None = refl
extended-nil (Some held) = ap Some (append-nil held)

-- one more piece is written
pub one_more_piece : (first before behind : Option (List ℕ)) (piece prefix rest left : List ℕ) (count : ℕ) → piece ≡ prefix ++ rest
    → before ≡ extended first prefix → behind ≡ extended before (take count rest) → left ≡ drop count rest →
    (written : List ℕ) × (piece ≡ written ++ left) × (behind ≡ extended first written)
one_more_piece first before behind piece prefix rest left count whole so_far written tail = (
  prefix ++ take count rest,
  whole ∙ ap (λ xs. prefix ++ xs) (sym (take-append-drop count rest)) ∙ sym (append_assoc prefix (take count rest) (drop count rest))
      ∙ ap (λ xs. (prefix ++ take count rest) ++ xs) (sym tail),
  written ∙ ap (λ held. extended held (take count rest)) so_far ∙ extended-append first prefix (take count rest),
)

-- ---- prefixes of two pieces

-- a prefix of the first piece is one of both
pub prefix-first : (old new : Option (List ℕ)) (a b : List ℕ) → HoldsPrefix old new a → HoldsPrefix old new (a ++ b)
prefix-first old new a b h = (h.0, h.1 ++ b, ap (λ xs. xs ++ b) h.2 ∙ append_assoc h.0 h.1 b, h.3)

-- the first piece and a prefix of the second are a prefix of both
pub prefix-second : (old between new : Option (List ℕ)) (a b : List ℕ) → between ≡ extended old a → HoldsPrefix between new b → HoldsPrefix old new (a ++ b)
prefix-second old between new a b whole h = (
  a ++ h.0,
  h.1,
  ap (λ xs. a ++ xs) h.2 ∙ sym (append_assoc a h.0 h.1),
  h.3 ∙ ap (λ held. extended held h.0) whole ∙ extended-append old a h.0,
)

-- nothing is a prefix of every text
pub prefix-none : (old new : Option (List ℕ)) (a : List ℕ) → new ≡ old → HoldsPrefix old new a
prefix-none old new a same = ([], a, refl, same ∙ sym (extended-nil old))

-- the same of calls that may fail
pub err-first : {X E : Type 0} (r : Result X E) (old new : Option (List ℕ)) (a b : List ℕ) → HoldsPrefix old new a → OnErr r (HoldsPrefix old new (a ++ b))
err-first (Ok x) old new a b h = tt
err-first (Err e) old new a b h = prefix-first old new a b h

pub err-second : {X E : Type 0} (r : Result X E) (old between new : Option (List ℕ)) (a b : List ℕ) → between ≡ extended old a
    → OnErr r (HoldsPrefix between new b) → OnErr r (HoldsPrefix old new (a ++ b))
err-second (Ok x) old between new a b whole h = tt
err-second (Err e) old between new a b whole h = prefix-second old between new a b whole h

pub ok-second : {X E : Type 0} (r : Result X E) (old between new : Option (List ℕ)) (a b : List ℕ) → between ≡ extended old a
    → OnOk r (new ≡ extended between b) → OnOk r (new ≡ extended old (a ++ b))
ok-second (Ok x) old between new a b whole h = h ∙ ap (λ held. extended held b) whole ∙ extended-append old a b
ok-second (Err e) old between new a b whole h = tt

pub err-none : {X E : Type 0} (r : Result X E) (old : Option (List ℕ)) (a : List ℕ) → OnErr r (HoldsPrefix old old a)
err-none (Ok x) old a = tt
err-none (Err e) old a = prefix-none old old a refl

-- ---- a run that is written line by line: what is written, and what is to come

abbrev pub Written : Option (List ℕ) → Option (List ℕ) → List ℕ → List ℕ → Type 0
Written first held whole to_come = (prefix : List ℕ) × (whole ≡ prefix ++ to_come) × (held ≡ extended first prefix)

-- one more line is written
pub one_more_line : (first before behind : Option (List ℕ)) (line to_come later whole : List ℕ) → Written first before whole to_come → line ++ later ≡ to_come
    → behind ≡ extended before line → Written first behind whole later
one_more_line first before behind line to_come later whole so_far told written = (
  so_far.0 ++ line,
  so_far.1 ∙ ap (λ xs. so_far.0 ++ xs) (sym told) ∙ sym (append_assoc so_far.0 line later),
  written ∙ ap (λ held. extended held line) so_far.2 ∙ extended-append first so_far.0 line,
)

-- a line is written in part
pub cut_line : {X E : Type 0} (r : Result X E) (first before behind : Option (List ℕ)) (line to_come later whole : List ℕ) → Written first before whole to_come
    → line ++ later ≡ to_come → HoldsPrefix before behind line → OnErr r (HoldsPrefix first behind whole)
cut_line (Ok x) first before behind line to_come later whole so_far told part = tt
cut_line (Err e) first before behind line to_come later whole so_far told part =
    subst (λ xs. HoldsPrefix first behind xs) (sym (so_far.1 ∙ ap (λ xs. so_far.0 ++ xs) (sym told)))
    (prefix-second first before behind so_far.0 (line ++ later) so_far.2 (prefix-first before behind line later part))
