-- Lists in which each item has a number of its own: taking the first that passes a test, again and again, takes all that pass it.
use Rattle.std.proofs.Common.{◌≡◌, ℕ, Bool, true, false, cond, not, eqb, find, filter, List, []}
use Rattle.std.proofs.Common.{◌∷◌, ◌++◌, Some, None, refl, sym, ap, subst, ◌∙◌, eq-eqb, arith}
use Rattle.std.proofs.lemmas.Bool.{false≢true}
use Rattle.profile_image.specs.Words.{without}
use Rattle.machine_laws.proofs.Kept.Instant.{is_there, or_that}

pub other_way : (a b : ℕ) → eqb a b ≡ false → eqb b a ≡ false
other_way a b h = grind arith

module _ {X : Type 0} (key : X → ℕ) where
  abbrev pub but : ℕ → List X → List X
  but n = without (λ x. eqb n (key x))

  abbrev pub Lacks : ℕ → List X → Type 0
  Lacks n [] = Unit {0}
  Lacks n (x ∷ xs) = (eqb n (key x) ≡ false) × Lacks n xs

  abbrev pub Differ : List X → Type 0
  Differ [] = Unit {0}
  Differ (x ∷ xs) = Lacks (key x) xs × Differ xs

  lacks-where : (n : ℕ) (b : Bool) (x : X) (xs : List X) → eqb n (key x) ≡ false → Lacks n xs → Lacks n (cond b (x ∷ xs) xs)
  lacks-where n true x xs e l = (e, l)
  lacks-where n false x xs e l = l

  pub without-lacks : (n : ℕ) (test : X → Bool) (xs : List X) → Lacks n xs → Lacks n (without test xs)
  without-lacks n test [] l = tt
  without-lacks n test (x ∷ xs) l = lacks-where n (not (test x)) x (without test xs) l.0 (without-lacks n test xs l.1)

  differ-where : (b : Bool) (x : X) (xs : List X) → Lacks (key x) xs → Differ xs → Differ (cond b (x ∷ xs) xs)
  differ-where true x xs l d = (l, d)
  differ-where false x xs l d = d

  pub without-differ : (test : X → Bool) (xs : List X) → Differ xs → Differ (without test xs)
  without-differ test [] d = tt
  without-differ test (x ∷ xs) d = differ-where (not (test x)) x (without test xs) (without-lacks (key x) test xs d.0) (without-differ test xs d.1)

  own-where : (n : ℕ) (b : Bool) (x : X) (xs : List X) → eqb n (key x) ≡ b → Lacks n xs → Lacks n (cond (not b) (x ∷ xs) xs)
  own-where n true x xs e l = l
  own-where n false x xs e l = (e, l)

  pub but-lacks : (n : ℕ) (xs : List X) → Lacks n (but n xs)
  but-lacks n [] = tt
  but-lacks n (x ∷ xs) = own-where n (eqb n (key x)) x (but n xs) refl (but-lacks n xs)

  pub lacks-but : (n : ℕ) (xs : List X) → Lacks n xs → but n xs ≡ xs
  lacks-but n [] l = refl
  lacks-but n (x ∷ xs) l = ap (λ b. cond (not b) (x ∷ but n xs) (but n xs)) l.0 ∙ ap (λ ys. x ∷ ys) (lacks-but n xs l.1)

  -- ---- behind all others

  pub last-lacks : (n : ℕ) (x : X) (xs : List X) → eqb n (key x) ≡ false → Lacks n xs → Lacks n (xs ++ x ∷ [])
  last-lacks n x [] e l = (e, tt)
  last-lacks n x (y ∷ ys) e l = (l.0, last-lacks n x ys e l.1)

  pub last-differ : (x : X) (xs : List X) → Lacks (key x) xs → Differ xs → Differ (xs ++ x ∷ [])
  last-differ x [] l d = (tt, tt)
  last-differ x (y ∷ ys) l d = (last-lacks (key y) x ys (other_way (key x) (key y) l.0) d.0, last-differ x ys l.1 d.1)

  -- ---- those that pass a test

  module _ (test : X → Bool) where
    found-where : (n : ℕ) (x : X) (xs : List X) (s : X) (b : Bool) → eqb n (key x) ≡ false → cond b (Some x) (find test xs) ≡ Some s
        → (find test xs ≡ Some s → eqb n (key s) ≡ false) → eqb n (key s) ≡ false
    found-where n x xs s true f e k = subst (λ y. eqb n (key y) ≡ false) (ap (or_that x) e) f
    found-where n x xs s false f e k = k e

    lacks-found : (n : ℕ) (xs : List X) (s : X) → Lacks n xs → find test xs ≡ Some s → eqb n (key s) ≡ false
    lacks-found n [] s l e = absurd (false≢true (ap is_there e))
    lacks-found n (x ∷ xs) s l e = found-where n x xs s (test x) l.0 e (lacks-found n xs s l.1)

    -- what is taken is the first, and the others stay
    abbrev Takes : List X → X → Type 0
    Takes xs s = (filter test xs ≡ s ∷ filter test (but (key s) xs)) × (without test xs ≡ without test (but (key s) xs))

    takes-first : (x s : X) (xs : List X) → Lacks (key x) xs → x ≡ s → test x ≡ true → Takes (x ∷ xs) s
    takes-first x s xs l e is =
        subst (λ y. Takes (x ∷ xs) y) e
        (let gone : but (key x) (x ∷ xs) ≡ xs =
        ap (λ b. cond (not b) (x ∷ but (key x) xs) (but (key x) xs)) (eq-eqb (key x) (key x) refl) ∙ lacks-but (key x) xs l in (
          ap (λ b. cond b (x ∷ filter test xs) (filter test xs)) is ∙ ap (λ ys. x ∷ filter test ys) (sym gone),
          ap (λ b. cond (not b) (x ∷ without test xs) (without test xs)) is ∙ ap (without test) (sym gone),
        ))

    takes-later : (x s : X) (xs : List X) → eqb (key s) (key x) ≡ false → test x ≡ false → Takes xs s → Takes (x ∷ xs) s
    takes-later x s xs e is k =
        let kept : but (key s) (x ∷ xs) ≡ x ∷ but (key s) xs = ap (λ b. cond (not b) (x ∷ but (key s) xs) (but (key s) xs)) e in (
          ap (λ b. cond b (x ∷ filter test xs) (filter test xs)) is ∙ k.0
              ∙ ap (λ ys. s ∷ ys) (sym (ap (λ b. cond b (x ∷ filter test (but (key s) xs)) (filter test (but (key s) xs))) is))
              ∙ ap (λ ys. s ∷ filter test ys) (sym kept),
          ap (λ b. cond (not b) (x ∷ without test xs) (without test xs)) is ∙ ap (λ ys. x ∷ ys) k.1
              ∙ sym (ap (λ b. cond (not b) (x ∷ without test (but (key s) xs)) (without test (but (key s) xs))) is) ∙ ap (without test) (sym kept),
        )

    takes-where : (x s : X) (xs : List X) (b : Bool) → test x ≡ b → Lacks (key x) xs → cond b (Some x) (find test xs) ≡ Some s
        → (find test xs ≡ Some s → Takes xs s) → Takes (x ∷ xs) s
    takes-where x s xs true is l e k = takes-first x s xs l (ap (or_that x) e) is
    takes-where x s xs false is l e k = takes-later x s xs (other_way (key x) (key s) (lacks-found (key x) xs s l e)) is (k e)

    pub takes-found : (xs : List X) (s : X) → Differ xs → find test xs ≡ Some s → Takes xs s
    takes-found [] s d e = absurd (false≢true (ap is_there e))
    takes-found (x ∷ xs) s d e = takes-where x s xs (test x) refl d.0 e (takes-found xs s d.1)

    none-where : (x : X) (xs : List X) (b : Bool) → test x ≡ b → cond b (Some x) (find test xs) ≡ None
        → (find test xs ≡ None → (filter test xs ≡ []) × (without test xs ≡ xs)) → (filter test (x ∷ xs) ≡ []) × (without test (x ∷ xs) ≡ x ∷ xs)
    none-where x xs true is e k = absurd (false≢true (sym (ap is_there e)))
    none-where x xs false is e k =
        let rest = k e in (
          ap (λ b. cond b (x ∷ filter test xs) (filter test xs)) is ∙ rest.0,
          ap (λ b. cond (not b) (x ∷ without test xs) (without test xs)) is ∙ ap (λ ys. x ∷ ys) rest.1,
        )

    pub none-found : (xs : List X) → find test xs ≡ None → (filter test xs ≡ []) × (without test xs ≡ xs)
    none-found [] e = (refl, refl)
    none-found (x ∷ xs) e = none-where x xs (test x) refl e (none-found xs)
