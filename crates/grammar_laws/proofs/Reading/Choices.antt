-- Choices, brackets, and forms of which one is read.
use Rattle.std.proofs.Common.{◌≡◌, ℕ, zero, suc, Bool, true, false, cond, List, [], ◌∷◌, refl, sym, subst, ◌∙◌, codes}
use Rattle.ann_base.specs.declared.places.Place.{Place}
use Rattle.ada_tree.specs.declared.names.OneOrMore.{OneOrMore}
use Rattle.ada_tree.specs.Written.{Written, Lexeme, delimiter, delimiter_at, enclosed}
use Rattle.ada_tree.specs.ShapeExpressions.{within}
use Rattle.ada_grammar.specs.Reading.{Read, Parser, and_then, ◌>>=◌, pure, choose, nothing, too_deep, sees_delimiter, the_delimiter, opening_of}
use Rattle.grammar_laws.specs.Leads.{Leads}
use Rattle.grammar_laws.proofs.Reading.Exact.{done, Found, Rest, Any, itself, Exact, ready, plain}
use Rattle.grammar_laws.proofs.Reading.Tokens.{always, shapeless, delimiter_exact, delimiter_then}

-- ---- a choice by the next tokens

pub chosen : {A : Type 0} (test : List Lexeme → Bool) (p q : Parser A) (ls : List Lexeme) (answer : Read A) → test ls ≡ true → p ls ≡ answer
    → choose test p q ls ≡ answer
chosen test p q ls answer e is = rw e is

pub passed : {A : Type 0} (test : List Lexeme → Bool) (p q : Parser A) (ls : List Lexeme) (answer : Read A) → test ls ≡ false → q ls ≡ answer
    → choose test p q ls ≡ answer
passed test p q ls answer e is = rw e is

-- ---- of several forms, one

pub record Sound {X I : Type 0} (make : I → X) (w : I → List Written) (ok : I → Bool) (p : Parser X) : Type 0 where
  pub by : (ls : List Lexeme) (x : X) (r : List Lexeme) → p ls ≡ done x r → Found make Any w ok x ls r

pub either : {X I : Type 0} {make : I → X} {w : I → List Written} {ok : I → Bool} {p q : Parser X} (test : List Lexeme → Bool)
    → Sound make w ok p → Sound make w ok q → Sound make w ok (choose test p q)
either {X} {I} {make} {w} {ok} {p} {q} test first second = record { by = λ ls x r e. by_test ls x r (test ls) e }
  where
    by_test : (ls : List Lexeme) (x : X) (r : List Lexeme) (v : Bool) → cond {A = Read X} v (p ls) (q ls) ≡ done x r → Found make Any w ok x ls r
    by_test ls x r true e = first.by ls x r e
    by_test ls x r false e = second.by ls x r e

-- one form of a whole
pub one_form : {X I J : Type 0} {make : I → X} {w : I → List Written} {ok : I → Bool} {wj : J → List Written} {okj : J → Bool} {ends : List Lexeme → Bool}
    {p : Parser X}
    (form : J → I)
    → Rest (λ j. make (form j)) Any wj okj ends p → ((j : J) → wj j ≡ w (form j)) → ((j : J) → okj j ≡ ok (form j)) → Sound make w ok p
one_form form law same okay = record {
  by = λ ls x r e.
      let f = law.sound ls x r e in
      record {
        item = form f.item;
        is = f.is;
        fits = tt;
        leads = subst (λ (ws : List Written). Leads ws ls r) (same f.item) f.leads;
        shaped = sym (okay f.item) ∙ f.shaped;
      };
}

-- ---- brackets: where no level is left, none is opened

never_opened : {X : Type 0} (F : Type 0) (ls : List Lexeme) (k : Place → Parser X) (x : X) (r : List Lexeme) → and_then (opening_of zero ls) k ≡ done x r → F
unfolding opening_of
never_opened {X} F ls k x r e = by_test (sees_delimiter (codes "(") ls) e
  where
    by_test : (v : Bool) → and_then (cond {A = Read Place} v (too_deep ls) (nothing ls)) k ≡ done x r → F
    by_test true e = absurd cc
    by_test false e = absurd cc

pub opened : {X I : Type 0} (left : ℕ) (make : I → X) (P : I → Type 0) (w : I → List Written) (fits : I → ℕ → Bool) (ends : List Lexeme → Bool)
    (get : I → Place) (k : Place → Parser X)
    → ((m : ℕ) → left ≡ suc m → (a : Place) → Rest make (λ i. P i × (a ≡ get i)) w (λ i. fits i m) ends (k a))
    → Rest make P (λ i. delimiter_at (get i) (codes "(") ∷ w i) (λ i. within left (fits i)) ends (opening_of left >>= k)
unfolding opening_of
opened zero make P w fits ends get k more = record {
  sound = λ ls x r e. never_opened _ ls k x r e;
  complete = λ i ls r p o l end. absurd cc;
}
opened (suc m) make P w fits ends get k more =
    plain make P w (λ i. fits i m) ends get (λ p. delimiter_at p (codes "(") ∷ []) shapeless always (the_delimiter (codes "(")) k (delimiter_exact (codes "("))
    (λ a. refl) (λ i ls r p l end. refl) (more m refl)

pub opened_plain : {X I : Type 0} (left : ℕ) (make : I → X) (P : I → Type 0) (w : I → List Written) (fits : I → ℕ → Bool) (ends : List Lexeme → Bool)
    (k : Parser X)
    → ((m : ℕ) → left ≡ suc m → Rest make P w (λ i. fits i m) ends k)
    → Rest make P (λ i. delimiter (codes "(") ∷ w i) (λ i. within left (fits i)) ends (opening_of left >>= (λ a. k))
unfolding opening_of
opened_plain zero make P w fits ends k more = record {
  sound = λ ls x r e. never_opened _ ls (λ a. k) x r e;
  complete = λ i ls r p o l end. absurd cc;
}
opened_plain (suc m) make P w fits ends k more = delimiter_then make P w (λ i. fits i m) ends (codes "(") k (more m refl)

-- ---- items in brackets, or nothing

abbrev no_items : {A : Type 0} → Unit {0} → List A
no_items u = []

nothing_there : {A : Type 0} (ends : List Lexeme → Bool) → Rest (λ (u : Unit {0}). no_items {A = A} u) Any (λ u. []) shapeless ends (pure [])
nothing_there {A} ends = ready (λ (u : Unit {0}). no_items {A = A} u) Any ends tt tt (λ u p. refl)

pub enclosed_exact : {A : Type 0} (begins : List Lexeme → Bool) (opening separator : Written) (closing : List Written) (w : A → List Written)
    (ok : List A → Bool) (ends : List Lexeme → Bool) (p : Parser (List A))
    → Rest (λ (xs : OneOrMore A). xs.first ∷ xs.others) Any (λ xs. enclosed opening separator closing w (xs.first ∷ xs.others))
    (λ xs. ok (xs.first ∷ xs.others)) ends p
    → ok [] ≡ true
    → ((ws : List Written) (ls r : List Lexeme) → Leads (opening ∷ ws) ls r → begins ls ≡ true)
    → ((r : List Lexeme) → ends r ≡ true → begins r ≡ false)
    → Exact (enclosed opening separator closing w) ok ends (choose begins p (pure []))
enclosed_exact {A} begins opening separator closing w ok ends p law fine begun other = record {
  sound = λ ls x r e.
      (either {make = itself} {w = enclosed opening separator closing w} {ok = ok} begins
      (one_form (λ (xs : OneOrMore A). xs.first ∷ xs.others) law (λ xs. refl) (λ xs. refl))
      (one_form (λ (u : Unit {0}). no_items {A = A} u) (nothing_there ends) (λ u. refl) (λ u. sym fine))).by ls x r e;
  complete = λ xs ls r q o l end. to xs ls r o l end;
}
  where
    to : (xs : List A) (ls r : List Lexeme) → ok xs ≡ true → Leads (enclosed opening separator closing w xs) ls r → ends r ≡ true
        → choose begins p (pure []) ls ≡ done xs r
    to [] ls r o l end = rw (l, other r end) refl
    to (x ∷ xs) ls r o l end =
        chosen begins p (pure []) ls (done (x ∷ xs) r) (begun _ ls r l) (law.complete (record { first = x; others = xs }) ls r tt o l end)
