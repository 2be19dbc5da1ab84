-- Lines of an effect that are all of its own part keep their order when its lines are put in order.
use Rattle.std.proofs.Common.{◌≡◌, Bool, true, false, cond, List, [], ◌∷◌, ◌++◌, Option, Some, None, refl, sym, subst}
use Rattle.std.proofs.lemmas.Bool.{false≢true}
use Rattle.profile_machine.specs.declared.world.lines.Line.{Line}
use Rattle.profile_machine.specs.declared.world.lines.Part.{Part}
use Rattle.profile_machine.specs.declared.world.lines.Part.TheVariants.{Own}
use Rattle.profile_machine.specs.declared.world.lines.Said.{Said}
use Rattle.profile_machine.specs.Steps.{is_part_before, put_in_order, in_order}

both_own : (p q : Part) → p ≡ Own → q ≡ Own → is_part_before q p ≡ true → ⊥
both_own p q e f h =
    let own : is_part_before Own p ≡ true = subst (λ x. is_part_before x p ≡ true) f h in
    false≢true (subst (λ x. is_part_before Own x ≡ true) e own)

-- some lines tell something, which is right where it is told, and leads on
module _ {S E : Type 0} (one : Line → Option E) (right : S → E → Type 0) (next : S → E → S) where
  abbrev pub told : Part → Option E → S → (S → Type 0) → Type 0
  told part (Some e) s onward = (part ≡ Own) × right s e × onward (next s e)
  told part None s onward = onward s

  abbrev pub Told : List Said → S → S → Type 0
  Told [] s t = s ≡ t
  Told (x ∷ xs) s t = told x.part (one x.line) s (λ q. Told xs q t)

  told-also : (part : Part) (e : Option E) (s : S) (f g : S → Type 0) → ((q : S) → f q → g q) → told part e s f → told part e s g
  told-also part (Some e) s f g k h = (h.0, h.1, k (next s e) h.2)
  told-also part None s f g k h = k s h

  pub Told-append : (xs ys : List Said) (a b c : S) → Told xs a b → Told ys b c → Told (xs ++ ys) a c
  Told-append [] ys a b c h k = subst (λ q. Told ys q c) (sym h) k
  Told-append (x ∷ xs) ys a b c h k = told-also x.part (one x.line) a (λ q. Told xs q b) (λ q. Told (xs ++ ys) q c) (λ q g. Told-append xs ys q b c g k) h

  -- two lines change places where the second is of an earlier part: one of both tells nothing
  told-swap : (p q : Part) (m n : Option E) (s : S) (f : S → Type 0) → is_part_before q p ≡ true → told p m s (λ k. told q n k f)
      → told q n s (λ k. told p m k f)
  told-swap p q None n s f before h = h
  told-swap p q (Some m) None s f before h = h
  told-swap p q (Some m) (Some n) s f before h = absurd (both_own p q h.0 h.2.0 before)

  put-test : (x y : Said) (ys placed : List Said) (a c : S) (test : Bool) → is_part_before y.part x.part ≡ test
      → ((q : S) → Told (x ∷ ys) q c → Told placed q c) → Told (x ∷ y ∷ ys) a c → Told (cond test (y ∷ placed) (x ∷ y ∷ ys)) a c
  put-test x y ys placed a c false is onward h = h
  put-test x y ys placed a c true is onward h =
      told-also y.part (one y.line) a (λ q. Told (x ∷ ys) q c) (λ q. Told placed q c) onward
      (told-swap x.part y.part (one x.line) (one y.line) a (λ q. Told ys q c) is h)

  Told-put : (x : Said) (ys : List Said) (a c : S) → Told (x ∷ ys) a c → Told (put_in_order x ys) a c
  Told-put x [] a c h = h
  Told-put x (y ∷ ys) a c h = put-test x y ys (put_in_order x ys) a c (is_part_before y.part x.part) refl (λ q g. Told-put x ys q c g) h

  pub Told-in_order : (xs : List Said) (a c : S) → Told xs a c → Told (in_order xs) a c
  Told-in_order [] a c h = h
  Told-in_order (x ∷ xs) a c h =
      Told-put x (in_order xs) a c (told-also x.part (one x.line) a (λ q. Told xs q c) (λ q. Told (in_order xs) q c) (λ q g. Told-in_order xs q c g) h)
