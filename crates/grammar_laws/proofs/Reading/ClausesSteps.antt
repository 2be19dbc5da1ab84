-- Steps for clauses: how productions end, parts before a fixed token, lists that may be empty.
use Rattle.std.proofs.Common.{◌≡◌, ℕ, Bool, true, false, cond, ◌&&◌, List, [], ◌∷◌, ◌++◌, refl, sym, ap, subst}
use Rattle.std.specs.Prelude.{Option, Some, None, flat_map}
use Rattle.std.specs.List.{list_all}
use Rattle.std.proofs.lemmas.Bool.{not-true}
use Rattle.ann_base.specs.declared.places.Place.{Place}
use Rattle.ada_tree.specs.declared.names.Identifier.{Identifier}
use Rattle.ada_tree.specs.Written.{Written, Lexeme, word, word_at, delimiter, identifier_written, behind, enclosed, end_name_written}
use Rattle.ada_tree.specs.ShapeExpressions.{optional_fits}
use Rattle.ada_grammar.specs.Reading.{Read, Parser, ◌>>=◌, ◌>>◌, pure, choose, starts, sees_delimiter, the_word}
use Rattle.ada_grammar.specs.Reading.{the_delimiter, an_identifier, end_name_of, items_of, behind_delimiter_of}
use Rattle.grammar_laws.specs.Leads.{Leads}
use Rattle.grammar_laws.proofs.Reading.Leading.{as_written}
use Rattle.grammar_laws.proofs.Reading.Exact.{done, pair_of, parts, Found, Rest, Any, itself, Exact, first_true}
use Rattle.grammar_laws.proofs.Reading.Exact.{second_true, ready, field, plain, last, listed, first_is}
use Rattle.grammar_laws.proofs.Reading.Tokens.{always, shapeless, not_word, word_then, delimiter_then}
use Rattle.grammar_laws.proofs.Reading.Tokens.{word_exact, identifier_exact, flag_exact, sees_delimiter_first}
use Rattle.grammar_laws.proofs.Reading.Names.{not_delimiter}
use Rattle.grammar_laws.proofs.Reading.Choices.{Sound}

pub nothing_behind : {A : Type 0} (xs : List A) → xs ++ [] ≡ xs
nothing_behind [] = refl
nothing_behind (x ∷ xs) = ap (λ z. x ∷ z) (nothing_behind xs)

pub optional_shapeless : {A : Type 0} (o : Option A) → optional_fits shapeless o ≡ true
optional_shapeless None = refl
optional_shapeless (Some a) = refl

-- ---- a token that ends a production

pub delimiter_ends : {X I : Type 0} (make : I → X) (P : I → Type 0) (text : List ℕ) (i : I) → P i → ((j : I) → P j → i ≡ j)
    → Rest make P (λ j. delimiter text ∷ []) (λ j. true) always (the_delimiter text >>= (λ a. pure (make i)))
delimiter_ends make P text i p only = delimiter_then make P (λ j. []) (λ j. true) always text (pure (make i)) (ready make P always i p only)

pub word_ends : {X I : Type 0} (make : I → X) (P : I → Type 0) (text : List ℕ) (i : I) → P i → ((j : I) → P j → i ≡ j)
    → Rest make P (λ j. word text ∷ []) (λ j. true) always (the_word text >>= (λ a. pure (make i)))
word_ends make P text i p only = word_then make P (λ j. []) (λ j. true) always text (pure (make i)) (ready make P always i p only)

-- ---- a part before a token that may stand behind it

module _ {X I A : Type 0} (make : I → X) (P : I → Type 0) (token : Written) (w : I → List Written) (ends : List Lexeme → Bool)
    (get : I → A) (wa : A → List Written) (oka : A → Bool) (endsa : List Lexeme → Bool) (pa : Parser A) (k : A → Parser X) (one : Exact wa oka endsa pa)
    (on : (l : Lexeme) (ls : List Lexeme) → endsa (as_written token l ∷ ls) ≡ true) where
  stop_token : (i : I) (ls r : List Lexeme) → P i → Leads (token ∷ w i) ls r → ends r ≡ true → endsa ls ≡ true
  stop_token i ls r p l end = first_is endsa true token on (w i) ls r l

  pub field_before : (ok : I → Bool) → ((a : A) → Rest make (λ i. P i × (a ≡ get i)) (λ i. token ∷ w i) ok ends (k a))
      → Rest make P (λ i. wa (get i) ++ token ∷ w i) (λ i. oka (get i) && ok i) ends (pa >>= k)
  field_before ok more = field make P (λ i. token ∷ w i) ok ends get wa oka endsa pa k one stop_token more

  pub last_before : ((a : A) → Rest make (λ i. P i × (a ≡ get i)) (λ i. token ∷ w i) (λ i. true) ends (k a))
      → Rest make P (λ i. wa (get i) ++ token ∷ w i) (λ i. oka (get i)) ends (pa >>= k)
  last_before more = last make P (λ i. token ∷ w i) ends get wa oka endsa pa k one stop_token more

  pub plain_before : (ok : I → Bool) → ((a : A) → oka a ≡ true) → ((a : A) → Rest make (λ i. P i × (a ≡ get i)) (λ i. token ∷ w i) ok ends (k a))
      → Rest make P (λ i. wa (get i) ++ token ∷ w i) ok ends (pa >>= k)
  plain_before ok any more = plain make P (λ i. token ∷ w i) ok ends get wa oka endsa pa k one any stop_token more

-- ---- lists

-- {separator item}
abbrev pub ends_list : List ℕ → (List Lexeme → Bool) → List Lexeme → Bool
ends_list separator ends_item r = ends_item r && not_delimiter separator r

pub items_behind : {A : Type 0} (separator : List ℕ) (w : A → List Written) (ok : A → Bool) (ends_item : List Lexeme → Bool) (item : Parser A)
    → Exact w ok ends_item item → ((r : List Lexeme) → sees_delimiter separator r ≡ true → ends_item r ≡ true)
    → Exact (flat_map (behind (delimiter separator) w)) (list_all ok) (ends_list separator ends_item)
    (items_of (sees_delimiter separator) (behind_delimiter_of separator item))
unfolding behind_delimiter_of starts
items_behind separator w ok ends_item item one apart =
    listed (sees_delimiter separator) (behind (delimiter separator) w) ok ends_item (ends_list separator ends_item) (the_delimiter separator >> item)
    (delimiter_then itself Any w ok ends_item separator item one) (λ a ls r l. sees_delimiter_first separator (w a) ls r l) refl apart
    (λ r e. first_true (ends_item r) (not_delimiter separator r) e)
    (λ r e. not-true (sees_delimiter separator r) (second_true (ends_item r) (not_delimiter separator r) e))

-- one item, and more
abbrev pub first_and : {A : Type 0} → A × List A → List A
first_and x = x.0 ∷ x.1

-- a list with what opens and closes it, or nothing
pub enclosed_exact : {A : Type 0} (begins : List Lexeme → Bool) (opening separator : Written) (closing : List Written) (w : A → List Written)
    (fits : List A → Bool) (ends : List Lexeme → Bool) (p : Parser (List A))
    → Rest first_and Any (λ (x : A × List A). enclosed opening separator closing w (x.0 ∷ x.1)) (λ x. fits (x.0 ∷ x.1)) ends p
    → fits [] ≡ true
    → ((ws : List Written) (ls r : List Lexeme) → Leads (opening ∷ ws) ls r → begins ls ≡ true)
    → ((r : List Lexeme) → ends r ≡ true → begins r ≡ false)
    → Exact (enclosed opening separator closing w) fits ends (choose begins p (pure []))
enclosed_exact {A} begins opening separator closing w fits ends p one empty begun other = record {
  sound = λ ls x r e. from ls x r (begins ls) e;
  complete = λ o ls r q okay l end. to o ls r okay l end;
}
  where
    from : (ls : List Lexeme) (x : List A) (r : List Lexeme) (v : Bool) → cond {A = Read (List A)} v (p ls) (done [] ls) ≡ done x r
        → Found itself Any (enclosed opening separator closing w) fits x ls r
    from ls x r true e = let f = one.sound ls x r e in record { item = f.item.0 ∷ f.item.1; is = f.is; fits = tt; leads = f.leads; shaped = f.shaped }
    from ls x r false e = let is = pair_of [] x ls r e in record { item = []; is = is.0; fits = tt; leads = is.1; shaped = empty }

    to : (xs : List A) (ls r : List Lexeme) → fits xs ≡ true → Leads (enclosed opening separator closing w xs) ls r → ends r ≡ true
        → choose begins p (pure []) ls ≡ done xs r
    to [] ls r okay l end = rw (l, other r end) refl
    to (x ∷ xs) ls r okay l end = rw (begun (w x ++ (flat_map (behind separator w) xs ++ closing)) ls r l) (one.complete (x, xs) ls r tt okay l end)

-- ---- a word with its place, an identifier, the name behind an end

pub word_kept : {X I : Type 0} (make : I → X) (P : I → Type 0) (w : I → List Written) (ok : I → Bool) (ends : List Lexeme → Bool) (get : I → Place)
    (text : List ℕ) (k : Place → Parser X)
    → ((p : Place) → Rest make (λ i. P i × (p ≡ get i)) w ok ends (k p))
    → Rest make P (λ i. word_at (get i) text ∷ w i) ok ends (the_word text >>= k)
word_kept make P w ok ends get text k more =
    plain make P w ok ends get (λ p. word_at p text ∷ []) shapeless always (the_word text) k (word_exact text) (λ p. refl) (λ i ls r p l end. refl) more

pub identifier_kept : {X I : Type 0} (make : I → X) (P : I → Type 0) (w : I → List Written) (ok : I → Bool) (ends : List Lexeme → Bool) (get : I → Identifier)
    (k : Identifier → Parser X)
    → ((n : Identifier) → Rest make (λ i. P i × (n ≡ get i)) w ok ends (k n))
    → Rest make P (λ i. identifier_written (get i) ∷ w i) ok ends (an_identifier >>= k)
identifier_kept make P w ok ends get k more =
    plain make P w ok ends get (λ n. identifier_written n ∷ []) shapeless always an_identifier k identifier_exact (λ n. refl) (λ i ls r p l end. refl) more

pub end_name_exact : (name : Identifier) → Exact (λ b. end_name_written b name) shapeless (not_word name.text) (end_name_of name.text)
unfolding end_name_of
end_name_exact name = flag_exact name.text

-- ---- what is known of the item, put otherwise

pub known : {X I : Type 0} (make : I → X) (P P' : I → Type 0) (w : I → List Written) (ok : I → Bool) (ends : List Lexeme → Bool) (p : Parser X)
    → Rest make P w ok ends p → ((i : I) → P i → P' i) → ((i : I) → P' i → P i) → Rest make P' w ok ends p
known make P P' w ok ends p law to from = record {
  sound = λ ls x r e. let f = law.sound ls x r e in record { item = f.item; is = f.is; fits = to f.item f.fits; leads = f.leads; shaped = f.shaped };
  complete = λ i ls r q o l end. law.complete i ls r (from i q) o l end;
}

-- the writing put otherwise, by what is known of the item
pub respelt_by : {X I : Type 0} (make : I → X) (P : I → Type 0) (w w' : I → List Written) (ok : I → Bool) (ends : List Lexeme → Bool) (p : Parser X)
    → Rest make P w ok ends p → ((i : I) → P i → w i ≡ w' i) → Rest make P w' ok ends p
respelt_by make P w w' ok ends p law same = record {
  sound =
      λ ls x r e. let f = law.sound ls x r e in
      record { item = f.item; is = f.is; fits = f.fits; leads = subst (λ (ws : List Written). Leads ws ls r) (same f.item f.fits) f.leads; shaped = f.shaped };
  complete = λ i ls r q o l end. law.complete i ls r q o (subst (λ (ws : List Written). Leads ws ls r) (sym (same i q)) l) end;
}

-- no item is made
pub no_item : {X I : Type 0} (make : I → X) (P : I → Type 0) (w : I → List Written) (ok : I → Bool) (ends : List Lexeme → Bool) (p : Parser X)
    → ((ls : List Lexeme) (x : X) (r : List Lexeme) → p ls ≡ done x r → ⊥) → ((i : I) → P i → ⊥) → Rest make P w ok ends p
no_item make P w ok ends p fails none = record { sound = λ ls x r e. absurd (fails ls x r e); complete = λ i ls r q o l end. absurd (none i q) }

-- ---- forms that begin alike

pub carried : {A B : Type 0} (pa : Parser A) (f g : A → Parser B) (ls : List Lexeme) (x : B) (r : List Lexeme)
    → ((a : A) (m : List Lexeme) → f a m ≡ done x r → g a m ≡ done x r) → (pa >>= f) ls ≡ done x r → (pa >>= g) ls ≡ done x r
carried pa f g ls x r more e = let s = parts (pa ls) f x r e in rw s.is (more s.value s.rest s.then)

pub chosen_by : {X : Type 0} (test : List Lexeme → Bool) (p q : Parser X) (ls : List Lexeme) (x : X) (r : List Lexeme) → (p ls ≡ done x r → test ls ≡ true)
    → p ls ≡ done x r → choose test p q ls ≡ done x r
chosen_by test p q ls x r on e = rw (on e) e

pub passed_by : {X : Type 0} (test : List Lexeme → Bool) (p q : Parser X) (ls : List Lexeme) (x : X) (r : List Lexeme) → (q ls ≡ done x r → test ls ≡ false)
    → q ls ≡ done x r → choose test p q ls ≡ done x r
passed_by test p q ls x r on e = rw (on e) e

pub forked : {X I A : Type 0} {make : I → X} {w : I → List Written} {ok : I → Bool} (pa : Parser A) (test : List Lexeme → Bool) (f g : A → Parser X)
    → Sound make w ok (pa >>= f) → Sound make w ok (pa >>= g) → Sound make w ok (pa >>= λ a. choose test (f a) (g a))
forked {X} {I} {A} {make} {w} {ok} pa test f g first second = record {
  by = λ ls x r e. let s = parts (pa ls) (λ a. choose test (f a) (g a)) x r e in by_test ls x r s.value s.rest s.is (test s.rest) s.then;
}
  where
    by_test : (ls : List Lexeme) (x : X) (r : List Lexeme) (a : A) (m : List Lexeme) → pa ls ≡ done a m → (v : Bool)
        → cond {A = Read X} v (f a m) (g a m) ≡ done x r → Found make Any w ok x ls r
    by_test ls x r a m is true e = first.by ls x r (rw is e)
    by_test ls x r a m is false e = second.by ls x r (rw is e)

pub forked_behind : {X I A B : Type 0} {make : I → X} {w : I → List Written} {ok : I → Bool} (pa : Parser A) (pb : Parser B) (test : List Lexeme → Bool)
    (f g : A → B → Parser X)
    → Sound make w ok (pa >>= λ a. pb >>= f a) → Sound make w ok (pa >>= λ a. pb >>= g a)
    → Sound make w ok (pa >>= λ a. pb >>= λ b. choose test (f a b) (g a b))
forked_behind {X} {I} {A} {B} {make} {w} {ok} pa pb test f g first second = record {
  by = λ ls x r e.
      let s = parts (pa ls) (λ a. pb >>= λ b. choose test (f a b) (g a b)) x r e in
      let t = parts (pb s.rest) (λ b. choose test (f s.value b) (g s.value b)) x r s.then in
      by_test ls x r s.value s.rest s.is t.value t.rest t.is (test t.rest) t.then;
}
  where
    by_test : (ls : List Lexeme) (x : X) (r : List Lexeme) (a : A) (m : List Lexeme) → pa ls ≡ done a m → (b : B) (n : List Lexeme) → pb m ≡ done b n
        → (v : Bool) → cond {A = Read X} v (f a b n) (g a b n) ≡ done x r → Found make Any w ok x ls r
    by_test ls x r a m is b n also true e = first.by ls x r (rw (is, also) e)
    by_test ls x r a m is b n also false e = second.by ls x r (rw (is, also) e)
