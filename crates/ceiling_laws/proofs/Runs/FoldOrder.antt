-- What lines of an effect lead to, in order and as they came about: it is the same where those that matter came about in the
-- order of their parts.
use Rattle.std.proofs.Common.{◌≡◌, Bool, true, false, cond, List, [], ◌∷◌, ◌++◌, refl, sym, ap, ◌∙◌}
use Rattle.profile_machine.specs.declared.world.lines.Line.{Line}
use Rattle.profile_machine.specs.declared.world.lines.Part.{Part}
use Rattle.profile_machine.specs.declared.world.lines.Said.{Said}
use Rattle.profile_machine.specs.Steps.{is_part_before, put_in_order, in_order}

module _ {S : Type 0} (next : S → Line → S) (test : Line → Bool) where
  abbrev pub fold : S → List Said → S
  fold s [] = s
  fold s (x ∷ xs) = fold (next s x.line) xs

  pub fold-append : (s : S) (xs ys : List Said) → fold s (xs ++ ys) ≡ fold (fold s xs) ys
  fold-append s [] ys = refl
  fold-append s (x ∷ xs) ys = fold-append (next s x.line) xs ys

  -- the lines that matter stand in parts that are not before this one
  abbrev Later : Part → List Said → Type 0
  Later part [] = Unit {0}
  Later part (y ∷ ys) = (test y.line ≡ true → is_part_before y.part part ≡ false) × Later part ys

  -- and this one is not before theirs
  abbrev pub Sooner : Part → List Said → Type 0
  Sooner part [] = Unit {0}
  Sooner part (y ∷ ys) = (test y.line ≡ true → is_part_before part y.part ≡ false) × Sooner part ys

  abbrev pub Ordered : List Said → Type 0
  Ordered [] = Unit {0}
  Ordered (x ∷ xs) = (test x.line ≡ true → Later x.part xs) × Ordered xs

  later-append : (part : Part) (xs : List Said) (x : Said) → Later part xs → (test x.line ≡ true → is_part_before x.part part ≡ false)
      → Later part (xs ++ x ∷ [])
  later-append part [] x h a = (a, tt)
  later-append part (y ∷ ys) x h a = (h.0, later-append part ys x h.1 a)

  pub sooner-append : (part : Part) (xs : List Said) (x : Said) → Sooner part xs → (test x.line ≡ true → is_part_before part x.part ≡ false)
      → Sooner part (xs ++ x ∷ [])
  sooner-append part [] x h a = (a, tt)
  sooner-append part (y ∷ ys) x h a = (h.0, sooner-append part ys x h.1 a)

  pub ordered-append : (xs : List Said) (x : Said) → Ordered xs → (test x.line ≡ true → Sooner x.part xs) → Ordered (xs ++ x ∷ [])
  ordered-append [] x o a = ((λ t. tt), tt)
  ordered-append (y ∷ ys) x o a = ((λ t. later-append y.part ys x (o.0 t) (λ u. (a u).0 t)), ordered-append ys x o.1 (λ u. (a u).1))

  later-test : (part : Part) (x y : Said) (ys placed : List Said) (b : Bool) → Later part (x ∷ y ∷ ys) → Later part placed
      → Later part (cond b (y ∷ placed) (x ∷ y ∷ ys))
  later-test part x y ys placed true h k = (h.1.0, k)
  later-test part x y ys placed false h k = h

  later-put : (part : Part) (x : Said) (ys : List Said) → Later part (x ∷ ys) → Later part (put_in_order x ys)
  later-put part x [] h = h
  later-put part x (y ∷ ys) h = later-test part x y ys (put_in_order x ys) (is_part_before y.part x.part) h (later-put part x ys (h.0, h.1.1))

  later-in_order : (part : Part) (xs : List Said) → Later part xs → Later part (in_order xs)
  later-in_order part [] h = h
  later-in_order part (x ∷ xs) h = later-put part x (in_order xs) (h.0, later-in_order part xs h.1)

  module _ (still : (s : S) (x : Line) → test x ≡ false → next s x ≡ s) where
    by_test : {P : Type 0} (b : Bool) → (b ≡ true → P) → (b ≡ false → P) → P
    by_test true f g = f refl
    by_test false f g = g refl

    swapped : (s : S) (x y : Said) → is_part_before y.part x.part ≡ true → (test x.line ≡ true → test y.line ≡ true → is_part_before y.part x.part ≡ false)
        → next (next s y.line) x.line ≡ next (next s x.line) y.line
    swapped s x y before apart =
        by_test (test x.line)
        (λ t. by_test (test y.line)
        (λ u. absurd (let never : true ≡ false = sym before ∙ apart t u in cc))
        (λ u. ap (λ q. next q x.line) (still s y.line u) ∙ sym (still (next s x.line) y.line u)))
        (λ t. still (next s y.line) x.line t ∙ sym (ap (λ q. next q y.line) (still s x.line t)))

    put-test : (s : S) (x y : Said) (ys : List Said) (b : Bool) → is_part_before y.part x.part ≡ b → (test x.line ≡ true → Later x.part (y ∷ ys))
        → fold (next s y.line) (put_in_order x ys) ≡ fold (next s y.line) (x ∷ ys)
        → fold s (cond b (y ∷ put_in_order x ys) (x ∷ y ∷ ys)) ≡ fold s (x ∷ y ∷ ys)
    put-test s x y ys true is a onward = onward ∙ ap (λ q. fold q ys) (swapped s x y is (λ t u. (a t).0 u))
    put-test s x y ys false is a onward = refl

    fold-put : (s : S) (x : Said) (ys : List Said) → (test x.line ≡ true → Later x.part ys) → fold s (put_in_order x ys) ≡ fold s (x ∷ ys)
    fold-put s x [] a = refl
    fold-put s x (y ∷ ys) a = put-test s x y ys (is_part_before y.part x.part) refl a (fold-put (next s y.line) x ys (λ t. (a t).1))

    pub fold-in_order : (s : S) (xs : List Said) → Ordered xs → fold s (in_order xs) ≡ fold s xs
    fold-in_order s [] o = refl
    fold-in_order s (x ∷ xs) o = fold-put s x (in_order xs) (λ t. later-in_order x.part xs (o.0 t)) ∙ fold-in_order (next s x.line) xs o.1
