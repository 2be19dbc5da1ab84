-- Reading and writing agree, production by production: what is read is what is written, and what is written is read.
use Rattle.std.proofs.Common.{◌≡◌, ℕ, zero, suc, ◌<◌, ◌≤◌, Bool, true, false, cond, ◌&&◌, ◌||◌, not}
use Rattle.std.proofs.Common.{List, [], ◌∷◌, ◌++◌, length, Ok, Err, refl, sym, ap, subst, ◌∙◌, arith}
use Rattle.std.specs.Prelude.{Option, Some, None, flat_map}
use Rattle.std.specs.List.{list_all}
use Rattle.std.proofs.Common.{append_assoc}
use Rattle.ada_tree.specs.Written.{Written, Lexeme, Spells, optional}
use Rattle.ada_tree.specs.ShapeExpressions.{optional_fits}
use Rattle.ada_grammar.specs.Reading.{Read, Parser, and_then, ◌>>=◌, pure, choose, items_from, items_of}
use Rattle.grammar_laws.specs.Leads.{Leads}
use Rattle.grammar_laws.proofs.Reading.Leading.{leads_both, leads_through, leads_length, as_written, spelt_is}

append_nil : {A : Type 0} (xs : List A) → xs ++ [] ≡ xs
append_nil [] = refl
append_nil (x ∷ xs) = ap (λ z. x ∷ z) (append_nil xs)

-- ---- what an answer says

abbrev pub done : {A : Type 0} → A → List Lexeme → Read A
done a r = Ok (a, r)

abbrev read_in : {A : Type 0} → A × List Lexeme → Read A → A × List Lexeme
read_in other (Ok p) = p
read_in other (Err why) = other

pub pair_of : {A : Type 0} (x y : A) (m r : List Lexeme) → done x m ≡ done y r → (x ≡ y) × (m ≡ r)
pair_of x y m r e = (ap (λ z. (read_in (x, m) z).0) e, ap (λ z. (read_in (x, m) z).1) e)

-- a part that was read, and what was read behind it
pub record Parts {A B : Type 0} (first : Read A) (f : A → Parser B) (whole : Read B) : Type 0 where
  pub value : A
  pub rest : List Lexeme
  pub is : first ≡ done value rest
  pub then : f value rest ≡ whole

pub parts : {A B : Type 0} (first : Read A) (f : A → Parser B) (x : B) (r : List Lexeme) → and_then first f ≡ done x r → Parts first f (done x r)
parts (Ok p) f x r e = record { value = p.0; rest = p.1; is = refl; then = e }
parts (Err why) f x r e = absurd cc

-- ---- a production, or what is left of one behind parts that were read: the items that it may still make (P), the
-- tokens that they are still written as (w), whether those parts are shaped (ok), and what may not stand behind (ends)

pub record Found {X I : Type 0} (make : I → X) (P : I → Type 0) (w : I → List Written) (ok : I → Bool) (x : X) (ls r : List Lexeme) : Type 0 where
  pub item : I
  pub is : make item ≡ x
  pub fits : P item
  pub leads : Leads (w item) ls r
  pub shaped : ok item ≡ true

pub record Rest {X I : Type 0} (make : I → X) (P : I → Type 0) (w : I → List Written) (ok : I → Bool) (ends : List Lexeme → Bool) (p : Parser X) : Type 0 where
  pub sound : (ls : List Lexeme) (x : X) (r : List Lexeme) → p ls ≡ done x r → Found make P w ok x ls r
  pub complete : (i : I) (ls r : List Lexeme) → P i → ok i ≡ true → Leads (w i) ls r → ends r ≡ true → p ls ≡ done (make i) r

-- a whole production
abbrev pub Any : {X : Type 0} → X → Type 0
Any x = Unit {0}

abbrev pub itself : {X : Type 0} → X → X
itself x = x

abbrev pub Exact : {X : Type 0} → (X → List Written) → (X → Bool) → (List Lexeme → Bool) → Parser X → Type 0
Exact w ok ends p = Rest itself Any w ok ends p

-- ---- the steps

pub both : {p q : Bool} → p ≡ true → q ≡ true → (p && q) ≡ true
both e f = rw (e, f) refl

pub first_true : (p q : Bool) → (p && q) ≡ true → p ≡ true
first_true true q e = refl
first_true false q e = e

pub second_true : (p q : Bool) → (p && q) ≡ true → q ≡ true
second_true true q e = e
second_true false q e = absurd cc

-- nothing is left
pub ready : {X I : Type 0} (make : I → X) (P : I → Type 0) (ends : List Lexeme → Bool) (i : I) → P i → ((j : I) → P j → i ≡ j)
    → Rest make P (λ j. []) (λ j. true) ends (pure (make i))
ready {X} {I} make P ends i p only = record {
  sound = λ ls x r e.
      let is = pair_of (make i) x ls r e in
      record { item = i; is = is.0; fits = p; leads = is.1; shaped = refl };
  complete = λ j ls r q o l end. rw (ap make (sym (only j q)), sym l) refl;
}

-- a part of which the item keeps the value
pub field : {X I A : Type 0} (make : I → X) (P : I → Type 0) (w : I → List Written) (ok : I → Bool) (ends : List Lexeme → Bool)
    (get : I → A) (wa : A → List Written) (oka : A → Bool) (endsa : List Lexeme → Bool) (pa : Parser A) (k : A → Parser X)
    → Exact wa oka endsa pa
    → ((i : I) (ls r : List Lexeme) → P i → Leads (w i) ls r → ends r ≡ true → endsa ls ≡ true)
    → ((a : A) → Rest make (λ i. P i × (a ≡ get i)) w ok ends (k a))
    → Rest make P (λ i. wa (get i) ++ w i) (λ i. oka (get i) && ok i) ends (pa >>= k)
field {X} {I} {A} make P w ok ends get wa oka endsa pa k one stop more = record {
  sound = λ ls x r e.
      let s = parts (pa ls) k x r e in
      let a = one.sound ls s.value s.rest s.is in
      let m = (more s.value).sound s.rest x r s.then in
      let is : s.value ≡ get m.item = m.fits.1 in
      record {
        item = m.item;
        is = m.is;
        fits = m.fits.0;
        leads = leads_both (wa (get m.item)) (w m.item) ls s.rest r (subst (λ (z : A). Leads (wa z) ls s.rest) (a.is ∙ is) a.leads) m.leads;
        shaped = both (subst (λ (z : A). oka z ≡ true) (a.is ∙ is) a.shaped) m.shaped;
      };
  complete = λ i ls r p o l end.
      let t = leads_through (wa (get i)) (w i) ls r l in
      let a = one.complete (get i) ls t.middle tt (first_true (oka (get i)) (ok i) o) t.first (stop i t.middle r p t.second end) in
      let b = (more (get i)).complete i t.middle r (p, refl) (second_true (oka (get i)) (ok i) o) t.second end in
      rw a b;
}

-- a token of which the item keeps nothing
pub fixed : {X I A : Type 0} (make : I → X) (P : I → Type 0) (w : I → List Written) (ok : I → Bool) (ends : List Lexeme → Bool)
    (token : Written) (pa : Parser A) (k : Parser X)
    → ((ls : List Lexeme) (a : A) (r : List Lexeme) → pa ls ≡ done a r → Leads (token ∷ []) ls r)
    → ((l : Lexeme) (ls : List Lexeme) → Spells token l → (a : A) × (pa (l ∷ ls) ≡ done a ls))
    → Rest make P w ok ends k
    → Rest make P (λ i. token ∷ w i) ok ends (pa >>= (λ a. k))
fixed {X} {I} {A} make P w ok ends token pa k sound complete more = record {
  sound = λ ls x r e.
      let s = parts (pa ls) (λ a. k) x r e in
      let m = more.sound s.rest x r s.then in
      record {
        item = m.item;
        is = m.is;
        fits = m.fits;
        leads = leads_both (token ∷ []) (w m.item) ls s.rest r (sound ls s.value s.rest s.is) m.leads;
        shaped = m.shaped;
      };
  complete = λ i ls r p o l end. from i ls r p o l end;
}
  where
    from : (i : I) (ls r : List Lexeme) → P i → ok i ≡ true → Leads (token ∷ w i) ls r → ends r ≡ true → and_then (pa ls) (λ a. k) ≡ done (make i) r
    from i [] r p o l end = absurd l
    from i (l ∷ ls) r p o s end = rw (complete l ls s.0).1 (more.complete i ls r p o s.1 end)

-- a part that is not asked for its shape
pub plain : {X I A : Type 0} (make : I → X) (P : I → Type 0) (w : I → List Written) (ok : I → Bool) (ends : List Lexeme → Bool)
    (get : I → A) (wa : A → List Written) (oka : A → Bool) (endsa : List Lexeme → Bool) (pa : Parser A) (k : A → Parser X)
    → Exact wa oka endsa pa
    → ((a : A) → oka a ≡ true)
    → ((i : I) (ls r : List Lexeme) → P i → Leads (w i) ls r → ends r ≡ true → endsa ls ≡ true)
    → ((a : A) → Rest make (λ i. P i × (a ≡ get i)) w ok ends (k a))
    → Rest make P (λ i. wa (get i) ++ w i) ok ends (pa >>= k)
plain {X} {I} {A} make P w ok ends get wa oka endsa pa k one always stop more = record {
  sound = λ ls x r e.
      let s = parts (pa ls) k x r e in
      let a = one.sound ls s.value s.rest s.is in
      let m = (more s.value).sound s.rest x r s.then in
      record {
        item = m.item;
        is = m.is;
        fits = m.fits.0;
        leads = leads_both (wa (get m.item)) (w m.item) ls s.rest r (subst (λ (z : A). Leads (wa z) ls s.rest) (a.is ∙ m.fits.1) a.leads) m.leads;
        shaped = m.shaped;
      };
  complete = λ i ls r p o l end.
      let t = leads_through (wa (get i)) (w i) ls r l in
      let a = one.complete (get i) ls t.middle tt (always (get i)) t.first (stop i t.middle r p t.second end) in
      let b = (more (get i)).complete i t.middle r (p, refl) o t.second end in
      rw a b;
}

-- the same, where what stands behind it is known to be shaped
pub plain_before : {X I A : Type 0} (make : I → X) (P : I → Type 0) (w : I → List Written) (ok : I → Bool) (ends : List Lexeme → Bool)
    (get : I → A) (wa : A → List Written) (oka : A → Bool) (endsa : List Lexeme → Bool) (pa : Parser A) (k : A → Parser X)
    → Exact wa oka endsa pa
    → ((a : A) → oka a ≡ true)
    → ((i : I) (ls r : List Lexeme) → P i → ok i ≡ true → Leads (w i) ls r → ends r ≡ true → endsa ls ≡ true)
    → ((a : A) → Rest make (λ i. P i × (a ≡ get i)) w ok ends (k a))
    → Rest make P (λ i. wa (get i) ++ w i) ok ends (pa >>= k)
plain_before {X} {I} {A} make P w ok ends get wa oka endsa pa k one always stop more = record {
  sound = λ ls x r e.
      let s = parts (pa ls) k x r e in
      let a = one.sound ls s.value s.rest s.is in
      let m = (more s.value).sound s.rest x r s.then in
      record {
        item = m.item;
        is = m.is;
        fits = m.fits.0;
        leads = leads_both (wa (get m.item)) (w m.item) ls s.rest r (subst (λ (z : A). Leads (wa z) ls s.rest) (a.is ∙ m.fits.1) a.leads) m.leads;
        shaped = m.shaped;
      };
  complete = λ i ls r p o l end.
      let t = leads_through (wa (get i)) (w i) ls r l in
      let a = one.complete (get i) ls t.middle tt (always (get i)) t.first (stop i t.middle r p o t.second end) in
      let b = (more (get i)).complete i t.middle r (p, refl) o t.second end in
      rw a b;
}

-- the last part that is asked for its shape
pub last : {X I A : Type 0} (make : I → X) (P : I → Type 0) (w : I → List Written) (ends : List Lexeme → Bool)
    (get : I → A) (wa : A → List Written) (oka : A → Bool) (endsa : List Lexeme → Bool) (pa : Parser A) (k : A → Parser X)
    → Exact wa oka endsa pa
    → ((i : I) (ls r : List Lexeme) → P i → Leads (w i) ls r → ends r ≡ true → endsa ls ≡ true)
    → ((a : A) → Rest make (λ i. P i × (a ≡ get i)) w (λ i. true) ends (k a))
    → Rest make P (λ i. wa (get i) ++ w i) (λ i. oka (get i)) ends (pa >>= k)
last {X} {I} {A} make P w ends get wa oka endsa pa k one stop more = record {
  sound = λ ls x r e.
      let s = parts (pa ls) k x r e in
      let a = one.sound ls s.value s.rest s.is in
      let m = (more s.value).sound s.rest x r s.then in
      record {
        item = m.item;
        is = m.is;
        fits = m.fits.0;
        leads = leads_both (wa (get m.item)) (w m.item) ls s.rest r (subst (λ (z : A). Leads (wa z) ls s.rest) (a.is ∙ m.fits.1) a.leads) m.leads;
        shaped = subst (λ (z : A). oka z ≡ true) (a.is ∙ m.fits.1) a.shaped;
      };
  complete = λ i ls r p o l end.
      let t = leads_through (wa (get i)) (w i) ls r l in
      let a = one.complete (get i) ls t.middle tt o t.first (stop i t.middle r p t.second end) in
      let b = (more (get i)).complete i t.middle r (p, refl) refl t.second end in
      rw a b;
}

-- a production behind which less may stand
pub narrower : {X I : Type 0} (make : I → X) (P : I → Type 0) (w : I → List Written) (ok : I → Bool) (ends ends' : List Lexeme → Bool) (p : Parser X)
    → Rest make P w ok ends p → ((r : List Lexeme) → ends' r ≡ true → ends r ≡ true) → Rest make P w ok ends' p
narrower make P w ok ends ends' p law less = record { sound = law.sound; complete = λ i ls r q o l end. law.complete i ls r q o l (less r end) }

-- the same production, its writing put otherwise
pub respelt : {X I : Type 0} (make : I → X) (P : I → Type 0) (w w' : I → List Written) (ok : I → Bool) (ends : List Lexeme → Bool) (p : Parser X)
    → Rest make P w ok ends p → ((i : I) → w i ≡ w' i) → Rest make P w' ok ends p
respelt make P w w' ok ends p law same = record {
  sound =
      λ ls x r e. let f = law.sound ls x r e in
      record { item = f.item; is = f.is; fits = f.fits; leads = subst (λ (ws : List Written). Leads ws ls r) (same f.item) f.leads; shaped = f.shaped };
  complete = λ i ls r q o l end. law.complete i ls r q o (subst (λ (ws : List Written). Leads ws ls r) (sym (same i)) l) end;
}

-- the same production, its shape put otherwise
pub reshaped : {X I : Type 0} (make : I → X) (P : I → Type 0) (w : I → List Written) (ok ok' : I → Bool) (ends : List Lexeme → Bool) (p : Parser X)
    → Rest make P w ok ends p → ((i : I) → ok i ≡ ok' i) → Rest make P w ok' ends p
reshaped make P w ok ok' ends p law same = record {
  sound = λ ls x r e. let f = law.sound ls x r e in record { item = f.item; is = f.is; fits = f.fits; leads = f.leads; shaped = sym (same f.item) ∙ f.shaped };
  complete = λ i ls r q o l end. law.complete i ls r q (same i ∙ o) l end;
}

-- the same, as far as it is known which items there may be
pub respelt_where : {X I : Type 0} (make : I → X) (P : I → Type 0) (w w' : I → List Written) (ok : I → Bool) (ends : List Lexeme → Bool) (p : Parser X)
    → Rest make P w ok ends p → ((i : I) → P i → w i ≡ w' i) → Rest make P w' ok ends p
respelt_where make P w w' ok ends p law same = record {
  sound =
      λ ls x r e. let f = law.sound ls x r e in
      record { item = f.item; is = f.is; fits = f.fits; leads = subst (λ (ws : List Written). Leads ws ls r) (same f.item f.fits) f.leads; shaped = f.shaped };
  complete = λ i ls r q o l end. law.complete i ls r q o (subst (λ (ws : List Written). Leads ws ls r) (sym (same i q)) l) end;
}

-- the last part, with nothing behind it
pub closing : {X I A : Type 0} (make : I → X) (P : I → Type 0) (ends : List Lexeme → Bool)
    (get : I → A) (wa : A → List Written) (oka : A → Bool) (pa : Parser A) (k : A → I)
    → Exact wa oka ends pa → ((a : A) → P (k a)) → ((a : A) → a ≡ get (k a)) → ((a : A) (i : I) → P i → a ≡ get i → k a ≡ i)
    → Rest make P (λ i. wa (get i)) (λ i. oka (get i)) ends (pa >>= (λ a. pure (make (k a))))
closing make P ends get wa oka pa k one fits is only =
    respelt make P (λ i. wa (get i) ++ []) (λ i. wa (get i)) (λ i. oka (get i)) ends (pa >>= (λ a. pure (make (k a))))
    (last make P (λ i. []) ends get wa oka ends pa (λ a. pure (make (k a))) one (λ i ls r p l end. subst (λ (z : List Lexeme). ends z ≡ true) (sym l) end)
    (λ a. ready make (λ i. P i × (a ≡ get i)) ends (k a) (fits a, is a) (λ j p. only a j p.0 p.1)))
    (λ i. append_nil (wa (get i)))

-- ---- what stands there first

-- the next token is this one, so a test of it computes
pub first_is : (test : List Lexeme → Bool) (v : Bool) (token : Written) → ((l : Lexeme) (ls : List Lexeme) → test (as_written token l ∷ ls) ≡ v)
    → (ws : List Written) (ls r : List Lexeme) → Leads (token ∷ ws) ls r → test ls ≡ v
first_is test v token on ws [] r l = absurd l
first_is test v token on ws (l ∷ ls) r s = subst (λ (z : Lexeme). test (z ∷ ls) ≡ v) (spelt_is token l s.0) (on l ls)

-- a part may stand there before the rest
pub first_optional : {A : Type 0} (test : List Lexeme → Bool) (v : Bool) (wa : A → List Written) (w : List Written)
    → ((a : A) (ls m : List Lexeme) → Leads (wa a) ls m → test ls ≡ v) → ((ls r : List Lexeme) → Leads w ls r → test ls ≡ v)
    → (o : Option A) (ls r : List Lexeme) → Leads (optional wa o ++ w) ls r → test ls ≡ v
first_optional test v wa w one rest None ls r l = rest ls r l
first_optional test v wa w one rest (Some a) ls r l = let t = leads_through (wa a) w ls r l in one a ls t.middle t.first

pub first_each : {A : Type 0} (test : List Lexeme → Bool) (v : Bool) (wa : A → List Written) (w : List Written)
    → ((a : A) (ls m : List Lexeme) → Leads (wa a) ls m → test ls ≡ v) → ((ls r : List Lexeme) → Leads w ls r → test ls ≡ v)
    → (xs : List A) (ls r : List Lexeme) → Leads (flat_map wa xs ++ w) ls r → test ls ≡ v
first_each test v wa w one rest [] ls r l = rest ls r l
first_each test v wa w one rest (x ∷ xs) ls r l =
    let t = leads_through (wa x ++ flat_map wa xs) w ls r l in
    let u = leads_through (wa x) (flat_map wa xs) ls t.middle t.first in
    one x ls u.middle u.first

-- what a list of tokens may not begin with, as several tests
pub neither : (p q : Bool) → not (p || q) ≡ true → (p ≡ false) × (q ≡ false)
neither true q e = absurd cc
neither false true e = absurd cc
neither false false e = (refl, refl)

-- ---- a part that may be missing

pub optionally : {A : Type 0} (begins : List Lexeme → Bool) (wa : A → List Written) (oka : A → Bool) (ends : List Lexeme → Bool) (p : Parser (Option A))
    → Rest (λ (a : A). Some a) Any wa oka ends p
    → ((a : A) (ls r : List Lexeme) → Leads (wa a) ls r → begins ls ≡ true)
    → ((r : List Lexeme) → ends r ≡ true → begins r ≡ false)
    → Exact (optional wa) (optional_fits oka) ends (choose begins p (pure None))
optionally {A} begins wa oka ends p one begun other = record {
  sound = λ ls x r e. from ls x r (begins ls) e;
  complete = λ o ls r q okay l end. to o ls r okay l end;
}
  where
    from : (ls : List Lexeme) (x : Option A) (r : List Lexeme) (v : Bool) → cond {A = Read (Option A)} v (p ls) (done None ls) ≡ done x r
        → Found itself Any (optional wa) (optional_fits oka) x ls r
    from ls x r true e = let f = one.sound ls x r e in record { item = Some f.item; is = f.is; fits = tt; leads = f.leads; shaped = f.shaped }
    from ls x r false e = let is = pair_of None x ls r e in record { item = None; is = is.0; fits = tt; leads = is.1; shaped = refl }

    to : (o : Option A) (ls r : List Lexeme) → optional_fits oka o ≡ true → Leads (optional wa o) ls r → ends r ≡ true
        → choose begins p (pure None) ls ≡ done o r
    to None ls r okay l end = rw (l, other r end) refl
    to (Some a) ls r okay l end = rw (begun a ls r l) (one.complete a ls r tt okay l end)

-- ---- lists of items

module _ {A : Type 0} (begins : List Lexeme → Bool) (w : A → List Written) (ok : A → Bool) (ends_item ends : List Lexeme → Bool) (item : Parser A)
    (one : Exact w ok ends_item item)
    (begun : (a : A) (ls r : List Lexeme) → Leads (w a) ls r → begins ls ≡ true)
    (needs : begins [] ≡ false)
    (apart : (r : List Lexeme) → begins r ≡ true → ends_item r ≡ true)
    (closed : (r : List Lexeme) → ends r ≡ true → ends_item r ≡ true)
    (over : (r : List Lexeme) → ends r ≡ true → begins r ≡ false) where
  record More (found xs : List A) (ls r : List Lexeme) : Type 0 where
    items : List A
    is : found ++ items ≡ xs
    leads : Leads (flat_map w items) ls r
    shaped : list_all ok items ≡ true

  none_more : (found xs : List A) (ls r : List Lexeme) → done found ls ≡ done xs r → More found xs ls r
  none_more found xs ls r e = let is = pair_of found xs ls r e in record { items = []; is = append_nil found ∙ is.0; leads = is.1; shaped = refl }

  items_sound : (fuel : ℕ) (found : List A) (ls : List Lexeme) (xs : List A) (r : List Lexeme) → items_from begins item fuel found ls ≡ done xs r
      → More found xs ls r
  unfolding items_from
  items_sound zero found ls xs r e = none_more found xs ls r e
  items_sound (suc fuel) found ls xs r e = by_test (begins ls) e (λ y m q. items_sound fuel (found ++ y ∷ []) m xs r q)
    where
      by_test : (v : Bool) → cond {A = Read (List A)} v (and_then (item ls) (λ x. items_from begins item fuel (found ++ x ∷ []))) (done found ls) ≡ done xs r
          → ((y : A) (m : List Lexeme) → items_from begins item fuel (found ++ y ∷ []) m ≡ done xs r → More (found ++ y ∷ []) xs m r) → More found xs ls r
      by_test false e more = none_more found xs ls r e
      by_test true e more =
          let s = parts (item ls) (λ x. items_from begins item fuel (found ++ x ∷ [])) xs r e in
          let a = one.sound ls s.value s.rest s.is in
          let b = more s.value s.rest s.then in
          record {
            items = s.value ∷ b.items;
            is = sym (append_assoc found (s.value ∷ []) b.items) ∙ b.is;
            leads = leads_both (w s.value) (flat_map w b.items) ls s.rest r (subst (λ (z : A). Leads (w z) ls s.rest) a.is a.leads) b.leads;
            shaped = both (subst (λ (z : A). ok z ≡ true) a.is a.shaped) b.shaped;
          }

  no_item : (a : A) → w a ≡ [] → ⊥
  no_item a e = absurd (false_true (begun a [] [] (subst (λ (z : List Written). Leads z [] []) (sym e) refl)))
    where
      false_true : begins [] ≡ true → ⊥
      false_true t = absurd cc

  some_written : (a : A) (ws : List Written) → w a ≡ ws → 1 ≤ length ws
  some_written a [] e = absurd (no_item a e)
  some_written a (x ∷ ws) e = omega arith

  shorter : (a : A) (ls m : List Lexeme) → Leads (w a) ls m → length m < length ls
  shorter a ls m l = omega (arith, leads_length (w a) ls m l, some_written a (w a) refl)

  all_over : (fuel : ℕ) (found : List A) (r : List Lexeme) → begins r ≡ false → items_from begins item fuel found r ≡ done found r
  unfolding items_from
  all_over zero found r e = refl
  all_over (suc fuel) found r e = rw e refl

  -- what stands behind an item
  behind_item : (xs : List A) (m r : List Lexeme) → Leads (flat_map w xs) m r → ends r ≡ true → ends_item m ≡ true
  behind_item [] m r l end = subst (λ (z : List Lexeme). ends_item z ≡ true) (sym l) (closed r end)
  behind_item (x ∷ xs) m r l end = let t = leads_through (w x) (flat_map w xs) m r l in apart m (begun x m t.middle t.first)

  items_complete : (xs : List A) (fuel : ℕ) (found : List A) (ls r : List Lexeme) → length ls ≤ fuel → list_all ok xs ≡ true → Leads (flat_map w xs) ls r
      → ends r ≡ true
      → items_from begins item fuel found ls ≡ done (found ++ xs) r
  unfolding items_from
  items_complete [] fuel found ls r enough okay l end = rw (l, append_nil found) (all_over fuel found r (over r end))
  items_complete (x ∷ xs) zero found ls r enough okay l end =
      let t = leads_through (w x) (flat_map w xs) ls r l in
      absurd (omega (arith, shorter x ls t.middle t.first))
  items_complete (x ∷ xs) (suc fuel) found ls r enough okay l end =
      let t = leads_through (w x) (flat_map w xs) ls r l in
      let now : item ls ≡ done x t.middle =
      one.complete x ls t.middle tt (first_true (ok x) (list_all ok xs) okay) t.first (behind_item xs t.middle r t.second end) in
      rw (begun x ls t.middle t.first, now, sym (append_assoc found (x ∷ []) xs))
      (items_complete xs fuel (found ++ x ∷ []) t.middle r (omega (arith, shorter x ls t.middle t.first))
      (second_true (ok x) (list_all ok xs) okay) t.second end)

  pub listed : Exact (flat_map w) (list_all ok) ends (items_of begins item)
  unfolding items_of
  listed = record {
    sound = λ ls xs r e. let m = items_sound (length ls) [] ls xs r e in record { item = m.items; is = m.is; fits = tt; leads = m.leads; shaped = m.shaped };
    complete = λ xs ls r q o l end. items_complete xs (length ls) [] ls r (omega arith) o l end;
  }
