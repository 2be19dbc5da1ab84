-- Lines of an effect of which one stands in the own part: what comes about before it and behind it does so in order too.
use Rattle.profile_machine.specs.Steps.{in_order, is_part_before, put_in_order}
use Rattle.profile_machine.specs.declared.world.lines.Part.TheVariants.{Own}
use Rattle.profile_machine.specs.declared.world.lines.Said.{Said}
use Rattle.std.proofs.Common.{Bool, List, [], ap, cond, false, inl, inr, sym, true, ◌++◌, ◌∷◌, ◌≡◌, ◌⊎◌}

module _ (Is : Said → Type 0) where
  abbrev pub Each : List Said → Type 0
  Each [] = Unit {0}
  Each (x ∷ xs) = Is x × Each xs

  pub each-append : (xs : List Said) (x : Said) → Each xs → Is x → Each (xs ++ x ∷ [])
  each-append [] x h is = (is, tt)
  each-append (y ∷ ys) x h is = (h.0, each-append ys x h.1 is)

  each-test : (x y : Said) (ys placed : List Said) (b : Bool) → Each (x ∷ y ∷ ys) → Each placed → Each (cond b (y ∷ placed) (x ∷ y ∷ ys))
  each-test x y ys placed true h k = (h.1.0, k)
  each-test x y ys placed false h k = h

  pub each-put : (x : Said) (ys : List Said) → Each (x ∷ ys) → Each (put_in_order x ys)
  each-put x [] h = h
  each-put x (y ∷ ys) h = each-test x y ys (put_in_order x ys) (is_part_before y.part x.part) h (each-put x ys (h.0, h.1.1))

  pub each-in_order : (xs : List Said) → Each xs → Each (in_order xs)
  each-in_order [] h = h
  each-in_order (x ∷ xs) h = each-put x (in_order xs) (h.0, each-in_order xs h.1)

module _ (Before First Behind : Said → Type 0) where
  abbrev pub Begun : List Said → Type 0
  Begun [] = ⊥
  Begun (x ∷ xs) = (Before x × Begun xs) ⊎ (First x × Each Behind xs)

  pub begun-append : (xs : List Said) (x : Said) → Begun xs → Behind x → Begun (xs ++ x ∷ [])
  begun-append [] x h is = absurd h
  begun-append (y ∷ ys) x (inl h) is = inl (h.0, begun-append ys x h.1 is)
  begun-append (y ∷ ys) x (inr h) is = inr (h.0, each-append Behind ys x h.1 is)

  pub begun-first : (xs : List Said) (x : Said) → Each Before xs → First x → Begun (xs ++ x ∷ [])
  begun-first [] x h is = inr (is, tt)
  begun-first (y ∷ ys) x h is = inl (h.0, begun-first ys x h.1 is)

  module _ (own : (x : Said) → First x → x.part ≡ Own) (weaker : (x : Said) → Before x → Behind x)
      (early : (x : Said) → Behind x → is_part_before x.part Own ≡ true → Before x) where
    before-test : (x y : Said) (ys : List Said) (b : Bool) → Before x → Begun (y ∷ ys) → (Begun ys → Begun (put_in_order x ys))
        → Begun (cond b (y ∷ put_in_order x ys) (x ∷ y ∷ ys))
    before-test x y ys false is h onward = inl (is, h)
    before-test x y ys true is (inl h) onward = inl (h.0, onward h.1)
    before-test x y ys true is (inr h) onward = inr (h.0, each-put Behind x ys (weaker x is, h.1))

    before-put : (x : Said) (ys : List Said) → Before x → Begun ys → Begun (put_in_order x ys)
    before-put x [] is h = absurd h
    before-put x (y ∷ ys) is h = before-test x y ys (is_part_before y.part x.part) is h (before-put x ys is)

    first-test : (x y : Said) (ys : List Said) (b : Bool) → is_part_before y.part Own ≡ b → First x → Each Behind (y ∷ ys) → Begun (put_in_order x ys)
        → Begun (cond b (y ∷ put_in_order x ys) (x ∷ y ∷ ys))
    first-test x y ys true sooner is h onward = inl (early y h.0 sooner, onward)
    first-test x y ys false sooner is h onward = inr (is, h)

    first-put : (x : Said) (ys : List Said) → First x → Each Behind ys → Begun (put_in_order x ys)
    first-put x [] is h = inr (is, tt)
    first-put x (y ∷ ys) is h =
        first-test x y ys (is_part_before y.part x.part) (sym (ap (is_part_before y.part) (own x is))) is h (first-put x ys is h.1)

    pub begun-in_order : (xs : List Said) → Begun xs → Begun (in_order xs)
    begun-in_order [] h = h
    begun-in_order (x ∷ xs) (inl h) = before-put x (in_order xs) h.0 (begun-in_order xs h.1)
    begun-in_order (x ∷ xs) (inr h) = first-put x (in_order xs) h.0 (each-in_order Behind xs h.1)
