-- Who comes back to a scope goes on from it as before, and finds nothing new: so what is found at all is found on a way that meets
-- each scope in use once.
use Rattle.std.proofs.Common.{◌≡◌, ℕ, zero, suc, ◌+◌, ◌≤◌, ◌<◌, ◌⊎◌, inl, inr, Bool, true, false, eqb}
use Rattle.std.proofs.Common.{length, List, [], ◌∷◌, Option, Some, None, refl, sym, ap, subst, ◌∙◌, arith}
use Rattle.std.specs.Prelude.{find}
use Rattle.std.proofs.lemmas.Bool.{eqb-true}
use Rattle.profile_machine.specs.declared.world.scopes.ScopeId.{ScopeId}
use Rattle.profile_machine.specs.declared.world.scopes.ScopeInUse.{ScopeInUse}
use Rattle.profile_image.specs.Words.{without}
use Rattle.profile_machine.specs.Scopes.{is_id, seek, outwards}
use Rattle.world_laws.specs.ScopeLaws.{OutwardsEnd}
use Rattle.world_laws.proofs.Counts.NumberedLists.{left-found, other-found, fewer-without}

abbrev Seeking : Type 0
Seeking = Option ScopeId → Option ScopeInUse

abbrev scope_key : ScopeInUse → ℕ
scope_key s = s.id.0

-- where the test holds, and where it fails
sought-here : (again : Seeking) (test : ScopeInUse → Bool) (s : ScopeInUse) → test s ≡ true → seek again test (Some s) ≡ Some s
sought-here again test s e = ap (λ b. elim b as (λ _. Option ScopeInUse) [ true ↦ Some s | false ↦ again s.outer ]) e

sought-on : (again : Seeking) (test : ScopeInUse → Bool) (s : ScopeInUse) → test s ≡ false → seek again test (Some s) ≡ again s.outer
sought-on again test s e = ap (λ b. elim b as (λ _. Option ScopeInUse) [ true ↦ Some s | false ↦ again s.outer ]) e

module _ (test : ScopeInUse → Bool) (r : ScopeInUse) where
  -- what is found by a seeking is found by one that finds no less
  seek-by : (again other : Seeking) (s : ScopeInUse) (b : Bool) → test s ≡ b → ((id : Option ScopeId) → again id ≡ Some r → other id ≡ Some r)
      → seek again test (Some s) ≡ Some r → seek other test (Some s) ≡ Some r
  seek-by again other s true is h e = sought-here other test s is ∙ sym (sought-here again test s is) ∙ e
  seek-by again other s false is h e = sought-on other test s is ∙ h s.outer (sym (sought-on again test s is) ∙ e)

  seek-among : (again other : Seeking) (fewer found : Option ScopeInUse) → ((s : ScopeInUse) → fewer ≡ Some s → found ≡ Some s)
      → ((id : Option ScopeId) → again id ≡ Some r → other id ≡ Some r) → seek again test fewer ≡ Some r → seek other test found ≡ Some r
  seek-among again other None found same h e = absurd cc
  seek-among again other (Some s) found same h e = subst (λ x. seek other test x ≡ Some r) (sym (same s refl)) (seek-by again other s (test s) refl h e)

  -- counted from more, what was found is found
  more-found : (n other : ℕ) (scopes : List ScopeInUse) → n ≤ other → (id : Option ScopeId) → outwards n scopes test id ≡ Some r
      → outwards other scopes test id ≡ Some r
  more-found zero other scopes within id e = absurd cc
  more-found (suc n) zero scopes within id e = absurd (omega (arith, within))
  more-found (suc n) (suc other) scopes within None e = absurd cc
  more-found (suc n) (suc other) scopes within (Some id) e =
      seek-among (outwards n scopes test) (outwards other scopes test) (find (is_id id) scopes) (find (is_id id) scopes) (λ s h. h)
      (more-found n other scopes (omega (arith, within))) e

  -- and so it is among more scopes, which have the same first one of each number
  among-found : (n : ℕ) (gone : ScopeId) (scopes : List ScopeInUse) (id : Option ScopeId) → outwards n (without (is_id gone) scopes) test id ≡ Some r
      → outwards n scopes test id ≡ Some r
  among-found zero gone scopes id e = absurd cc
  among-found (suc n) gone scopes None e = absurd cc
  among-found (suc n) gone scopes (Some id) e =
      seek-among (outwards n (without (is_id gone) scopes) test) (outwards n scopes test) (find (is_id id) (without (is_id gone) scopes))
      (find (is_id id) scopes)
      (λ s h. left-found scope_key id.0 gone.0 scopes s h) (among-found n gone scopes) e

  -- ---- a way from behind a scope that fails the test need not meet it

  module _ (gone : ScopeId) (s : ScopeInUse) (scopes : List ScopeInUse) (is : find (is_id gone) scopes ≡ Some s) (fails : test s ≡ false) where
    abbrev left : List ScopeInUse
    left = without (is_id gone) scopes

    -- it is found by less from behind the scope
    abbrev Back : ℕ → Type 0
    Back n = (m : ℕ) × (m < n) × (outwards m scopes test s.outer ≡ Some r)

    back-later : (n : ℕ) → Back n → Back (suc n)
    back-later n k = let less : k.0 < n = k.1 in (k.0, omega (arith, less), k.2)

    on-or-back : (n : ℕ) (x : ScopeInUse) → test x ≡ false → (outwards n left test x.outer ≡ Some r) ⊎ Back n
        → (seek (outwards n left test) test (Some x) ≡ Some r) ⊎ Back (suc n)
    on-or-back n x e (inl k) = inl (sought-on (outwards n left test) test x e ∙ k)
    on-or-back n x e (inr k) = inr (back-later n k)

    seek-without : (n : ℕ) (x : ScopeInUse) (b : Bool) → test x ≡ b → seek (outwards n scopes test) test (Some x) ≡ Some r
        → (outwards n scopes test x.outer ≡ Some r → (outwards n left test x.outer ≡ Some r) ⊎ Back n)
        → (seek (outwards n left test) test (Some x) ≡ Some r) ⊎ Back (suc n)
    seek-without n x true e h onward = inl (sought-here (outwards n left test) test x e ∙ sym (sought-here (outwards n scopes test) test x e) ∙ h)
    seek-without n x false e h onward = on-or-back n x e (onward (sym (sought-on (outwards n scopes test) test x e) ∙ h))

    found-without : (n : ℕ) (found : Option ScopeInUse) → seek (outwards n scopes test) test found ≡ Some r
        → ((x : ScopeInUse) → outwards n scopes test x.outer ≡ Some r → (outwards n left test x.outer ≡ Some r) ⊎ Back n)
        → (seek (outwards n left test) test found ≡ Some r) ⊎ Back (suc n)
    found-without n None h onward = absurd cc
    found-without n (Some x) h onward = seek-without n x (test x) refl h (onward x)

    at-id : (n : ℕ) (id : ScopeId) (b : Bool) → eqb id.0 gone.0 ≡ b → seek (outwards n scopes test) test (find (is_id id) scopes) ≡ Some r
        → ((x : ScopeInUse) → outwards n scopes test x.outer ≡ Some r → (outwards n left test x.outer ≡ Some r) ⊎ Back n)
        → (seek (outwards n left test) test (find (is_id id) left) ≡ Some r) ⊎ Back (suc n)
    at-id n id true e h onward =
        let one : find (is_id id) scopes ≡ Some s = ap (λ (k : ℕ). find (λ x. eqb k (scope_key x)) scopes) (eqb-true id.0 gone.0 e) ∙ is in
        inr (n, omega arith, sym (sought-on (outwards n scopes test) test s fails) ∙ subst (λ x. seek (outwards n scopes test) test x ≡ Some r) one h)
    at-id n id false e h onward =
        subst (λ x. (seek (outwards n left test) test x ≡ Some r) ⊎ Back (suc n)) (sym (other-found scope_key id.0 gone.0 scopes e))
        (found-without n (find (is_id id) scopes) h onward)

    way-without : (n : ℕ) (id : Option ScopeId) → outwards n scopes test id ≡ Some r → (outwards n left test id ≡ Some r) ⊎ Back n
    way-without zero id e = absurd cc
    way-without (suc n) None e = absurd cc
    way-without (suc n) (Some id) e = at-id n id (eqb id.0 gone.0) refl e (λ x h. way-without n x.outer h)

    -- so in the end it is found without the scope
    abbrev Straight : Type 0
    Straight = (m : ℕ) × (outwards m left test s.outer ≡ Some r)

    straight-or : (fuel n : ℕ) → (outwards n left test s.outer ≡ Some r) ⊎ Back n → ((m : ℕ) → m < n → outwards m scopes test s.outer ≡ Some r → Straight)
        → Straight
    straight-or fuel n (inl k) again = (n, k)
    straight-or fuel n (inr k) again = again k.0 k.1 k.2

    straight : (most n : ℕ) → n < most → outwards n scopes test s.outer ≡ Some r → Straight
    straight zero n few e = absurd (omega (arith, few))
    straight (suc most) n few e = straight-or most n (way-without n s.outer e) (λ m less h. straight most m (omega (arith, few, less)) h)

  -- ---- as many turns are enough as there are scopes

  abbrev Enough : ℕ → Type 0
  Enough most =
      (n : ℕ) (scopes : List ScopeInUse) (id : Option ScopeId) → length scopes ≤ most → outwards n scopes test id ≡ Some r
      → outwards (suc most) scopes test id ≡ Some r

  enough-by : (most n : ℕ) (scopes : List ScopeInUse) (id : ScopeId) (s : ScopeInUse) (b : Bool) → find (is_id id) scopes ≡ Some s → test s ≡ b
      → length scopes ≤ suc most → Enough most → seek (outwards n scopes test) test (Some s) ≡ Some r
      → seek (outwards (suc most) scopes test) test (Some s) ≡ Some r
  enough-by most n scopes id s true is e few again h =
      sought-here (outwards (suc most) scopes test) test s e ∙ sym (sought-here (outwards n scopes test) test s e) ∙ h
  enough-by most n scopes id s false is e few again h =
      let way = straight id s scopes is e (suc n) n (omega arith) (sym (sought-on (outwards n scopes test) test s e) ∙ h) in
      let fewer : length (without (is_id id) scopes) < length scopes = fewer-without scope_key id.0 scopes s is in
      sought-on (outwards (suc most) scopes test) test s e
      ∙ among-found (suc most) id scopes s.outer (again way.0 (without (is_id id) scopes) s.outer (omega (arith, few, fewer)) way.1)

  enough-from : (most n : ℕ) (scopes : List ScopeInUse) (id : ScopeId) (found : Option ScopeInUse) → find (is_id id) scopes ≡ found → length scopes ≤ suc most
      → Enough most → seek (outwards n scopes test) test found ≡ Some r
      → seek (outwards (suc most) scopes test) test found ≡ Some r
  enough-from most n scopes id None is few again h = absurd cc
  enough-from most n scopes id (Some s) is few again h = enough-by most n scopes id s (test s) is refl few again h

  enough : (most : ℕ) → Enough most
  enough most zero scopes id few e = absurd cc
  enough most (suc n) scopes None few e = absurd cc
  enough zero (suc n) [] (Some id) few e = absurd cc
  enough zero (suc n) (s ∷ scopes) (Some id) few e = absurd (omega (arith, few))
  enough (suc most) (suc n) scopes (Some id) few e = enough-from most n scopes id (find (is_id id) scopes) refl few (enough most) e

-- two results of which each is the other if it is one
same-results : (a b : Option ScopeInUse) → ((r : ScopeInUse) → a ≡ Some r → b ≡ Some r) → ((r : ScopeInUse) → b ≡ Some r → a ≡ Some r) → a ≡ b
same-results None None h k = refl
same-results None (Some r) h k = k r refl
same-results (Some r) b h k = sym (h r refl)

pub outwards_end : OutwardsEnd
outwards_end w test id more =
    same-results (outwards (suc (length w.scopes) + more) w.scopes test id) (outwards (suc (length w.scopes)) w.scopes test id)
    (λ r h. enough test r (length w.scopes) (suc (length w.scopes) + more) w.scopes id (omega arith) h)
    (λ r h. more-found test r (suc (length w.scopes)) (suc (length w.scopes) + more) w.scopes (omega arith) id h)
