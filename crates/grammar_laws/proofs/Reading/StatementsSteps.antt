-- The steps that statements are read by.
use Rattle.std.proofs.Common.{◌≡◌, ℕ, Bool, true, false, cond, ◌&&◌, List, [], ◌∷◌, ◌++◌, refl, sym, ap, subst, ◌∙◌}
use Rattle.ann_base.specs.declared.places.Place.{Place}
use Rattle.ada_tree.specs.declared.names.Identifier.{Identifier}
use Rattle.ada_tree.specs.declared.expressions.Expression.{Expression}
use Rattle.ada_tree.specs.Written.{Written, Lexeme, word, word_at, delimiter, identifier_written, one_identifier}
use Rattle.ada_tree.specs.SpellingExpressions.{expression_written}
use Rattle.ada_tree.specs.ShapeStatements.{value_fits}
use Rattle.ada_grammar.specs.Reading.{Read, Parser, ◌>>=◌, choose, the_word, the_delimiter, an_identifier}
use Rattle.ada_grammar.specs.ReadingExpressions.{expression_of}
use Rattle.grammar_laws.specs.Leads.{Leads}
use Rattle.grammar_laws.proofs.Reading.Leading.{leads_both, leads_through, as_written, spelt_is}
use Rattle.grammar_laws.proofs.Reading.Exact.{done, parts, Found, Rest, itself, Exact, field, plain, last, first_is}
use Rattle.grammar_laws.proofs.Reading.Tokens.{always, shapeless, word_exact, identifier_exact, word_then, delimiter_then}
use Rattle.grammar_laws.proofs.Reading.Ends.{ends_expression}
use Rattle.grammar_laws.proofs.Reading.Expressions.{expression_exact}

-- what makes an item of some form
pub record Came {I J : Type 0} (to : J → I) (Q : J → Type 0) (i : I) : Type 0 where
  pub from : J
  pub known : Q from
  pub is : to from ≡ i

-- the last part that is asked for its shape
pub last_part : {X I A : Type 0} {make : I → X} {P : I → Type 0} {w : I → List Written} {ends : List Lexeme → Bool}
    (get : I → A) {wa : A → List Written} {oka : A → Bool} {endsa : List Lexeme → Bool} {pa : Parser A} {k : A → Parser X}
    → Exact wa oka endsa pa
    → ((i : I) (ls r : List Lexeme) → P i → Leads (w i) ls r → ends r ≡ true → endsa ls ≡ true)
    → ((a : A) → Rest make (λ i. P i × (a ≡ get i)) w (λ i. true) ends (k a))
    → Rest make P (λ i. wa (get i) ++ w i) (λ i. oka (get i)) ends (pa >>= k)
last_part {X} {I} {A} {make} {P} {w} {ends} get {wa} {oka} {endsa} {pa} {k} one stop more = last make P w ends get wa oka endsa pa k one stop more

module _ {X I : Type 0} {make : I → X} {P : I → Type 0} {w : I → List Written} {ok : I → Bool} {ends : List Lexeme → Bool} where
  -- a word of which the item keeps the place
  pub placed : (get : I → Place) (text : List ℕ) {k : Place → Parser X} → ((a : Place) → Rest make (λ i. P i × (a ≡ get i)) w ok ends (k a))
      → Rest make P (λ i. word_at (get i) text ∷ w i) ok ends (the_word text >>= k)
  placed get text {k} more =
      plain make P w ok ends get (λ p. word_at p text ∷ []) shapeless always (the_word text) k (word_exact text) (λ p. refl) (λ i ls r p l end. refl) more

  pub named : (get : I → Identifier) {k : Identifier → Parser X} → ((a : Identifier) → Rest make (λ i. P i × (a ≡ get i)) w ok ends (k a))
      → Rest make P (λ i. identifier_written (get i) ∷ w i) ok ends (an_identifier >>= k)
  named get {k} more =
      plain make P w ok ends get one_identifier shapeless always an_identifier k identifier_exact (λ i. refl) (λ i ls r p l end. refl) more

  pub worded : (text : List ℕ) {k : Parser X} → Rest make P w ok ends k → Rest make P (λ i. word text ∷ w i) ok ends (the_word text >>= (λ a. k))
  worded text {k} more = word_then make P w ok ends text k more

  pub delimited : (text : List ℕ) {k : Parser X} → Rest make P w ok ends k → Rest make P (λ i. delimiter text ∷ w i) ok ends (the_delimiter text >>= (λ a. k))
  delimited text {k} more = delimiter_then make P w ok ends text k more

  -- a part
  pub part : {A : Type 0} (get : I → A) {wa : A → List Written} {oka : A → Bool} {endsa : List Lexeme → Bool} {pa : Parser A} {k : A → Parser X}
      → Exact wa oka endsa pa
      → ((i : I) (ls r : List Lexeme) → P i → Leads (w i) ls r → ends r ≡ true → endsa ls ≡ true)
      → ((a : A) → Rest make (λ i. P i × (a ≡ get i)) w ok ends (k a))
      → Rest make P (λ i. wa (get i) ++ w i) (λ i. oka (get i) && ok i) ends (pa >>= k)
  part get {wa} {oka} {endsa} {pa} {k} one stop more = field make P w ok ends get wa oka endsa pa k one stop more

  -- an expression, behind which a word or a delimiter stands
  pub valued : (left : ℕ) (get : I → Expression) (token : Written) {k : Expression → Parser X}
      → ((l : Lexeme) (ls : List Lexeme) → ends_expression (as_written token l ∷ ls) ≡ true)
      → ((a : Expression) → Rest make (λ i. P i × (a ≡ get i)) (λ i. token ∷ w i) ok ends (k a))
      → Rest make P (λ i. expression_written (get i) ++ token ∷ w i) (λ i. value_fits left (get i) && ok i) ends (expression_of left >>= k)
  valued left get token {k} stops more =
      field make P (λ i. token ∷ w i) ok ends get expression_written (value_fits left) ends_expression (expression_of left) k (expression_exact left)
      (λ i ls r p l end. first_is ends_expression true token stops (w i) ls r l) more

  -- a part of which something is known before it is read, and that is not asked for its shape
  pub such : {A : Type 0} (Q : A → Type 0) (get : I → A) {wa : A → List Written} {endsa : List Lexeme → Bool} {pa : Parser A} {k : A → Parser X}
      → Rest itself Q wa shapeless endsa pa
      → ((i : I) → P i → Q (get i))
      → ((i : I) (ls r : List Lexeme) → P i → Leads (w i) ls r → ends r ≡ true → endsa ls ≡ true)
      → ((a : A) → Q a → Rest make (λ i. P i × (a ≡ get i)) w ok ends (k a))
      → Rest make P (λ i. wa (get i) ++ w i) ok ends (pa >>= k)
  such {A} Q get {wa} {endsa} {pa} {k} one known stop more = record {
    sound = λ ls x r e.
        let s = parts (pa ls) k x r e in
        let a = one.sound ls s.value s.rest s.is in
        let m = (more s.value (subst Q a.is a.fits)).sound s.rest x r s.then in
        record {
          item = m.item;
          is = m.is;
          fits = m.fits.0;
          leads = leads_both (wa (get m.item)) (w m.item) ls s.rest r (subst (λ (z : A). Leads (wa z) ls s.rest) (a.is ∙ m.fits.1) a.leads) m.leads;
          shaped = m.shaped;
        };
    complete = λ i ls r p o l end.
        let t = leads_through (wa (get i)) (w i) ls r l in
        let a = one.complete (get i) ls t.middle (known i p) refl t.first (stop i t.middle r p t.second end) in
        let b = (more (get i) (known i p)).complete i t.middle r (p, refl) o t.second end in
        rw a b;
  }

  -- the same production, its writing put otherwise where something is known of the item
  pub rewritten : {w' : I → List Written} {p : Parser X} → Rest make P w ok ends p → ((i : I) → P i → w i ≡ w' i) → Rest make P w' ok ends p
  rewritten {w'} {p} law same = record {
    sound =
        λ ls x r e. let f = law.sound ls x r e in
        record {
          item = f.item;
          is = f.is;
          fits = f.fits;
          leads = subst (λ (ws : List Written). Leads ws ls r) (same f.item f.fits) f.leads;
          shaped = f.shaped;
        };
    complete = λ i ls r q o l end. law.complete i ls r q o (subst (λ (ws : List Written). Leads ws ls r) (sym (same i q)) l) end;
  }

  -- the same production, read as items of some form
  pub through : {J : Type 0} {Q : J → Type 0} {wj : J → List Written} {okj : J → Bool} {p : Parser X} (to : J → I)
      → Rest (λ j. make (to j)) Q wj okj ends p
      → ((j : J) → Q j → P (to j)) → ((j : J) → Q j → wj j ≡ w (to j)) → ((j : J) → Q j → okj j ≡ ok (to j)) → ((i : I) → P i → Came to Q i)
      → Rest make P w ok ends p
  through {J} {Q} {wj} {okj} {p} to law fits same okay back = record {
    sound = λ ls x r e.
        let f = law.sound ls x r e in
        record {
          item = to f.item;
          is = f.is;
          fits = fits f.item f.fits;
          leads = subst (λ (ws : List Written). Leads ws ls r) (same f.item f.fits) f.leads;
          shaped = sym (okay f.item f.fits) ∙ f.shaped;
        };
    complete = λ i ls r q o l end.
        let b = back i q in
        ap (λ z. p ls) b.is
        ∙ (law.complete b.from ls r b.known
        (okay b.from b.known ∙ (ap ok b.is ∙ o))
        (subst (λ (ws : List Written). Leads ws ls r) (sym (same b.from b.known ∙ ap w b.is)) l) end
        ∙ ap (λ z. done (make z) r) b.is);
  }

-- ---- a choice between two, each of which reads some of the items

abbrev pub Which : Bool → Type 0 → Type 0 → Type 0
Which true A B = A
Which false A B = B

pub record Side (test : List Lexeme → Bool) (A B : Type 0) (ls : List Lexeme) : Type 0 where
  pub value : Bool
  pub is : test ls ≡ value
  pub known : Which value A B

module _ {X I : Type 0} {make : I → X} {P : I → Type 0} {w : I → List Written} {ok : I → Bool} {ends : List Lexeme → Bool} {P1 P2 : I → Type 0}
    {p q : Parser X} where
  pub decided : (test : List Lexeme → Bool) → Rest make P1 w ok ends p → Rest make P2 w ok ends q → ((i : I) → P1 i → P i) → ((i : I) → P2 i → P i)
      → ((i : I) (ls r : List Lexeme) → P i → Leads (w i) ls r → ends r ≡ true → Side test (P1 i) (P2 i) ls) → Rest make P w ok ends (choose test p q)
  decided test first second fits1 fits2 side = record {
    sound = λ ls x r e. by_test ls x r (test ls) e;
    complete = λ i ls r known o l end. let s = side i ls r known l end in to i ls r o l end s.value s.is s.known;
  }
    where
      by_test : (ls : List Lexeme) (x : X) (r : List Lexeme) (v : Bool) → cond {A = Read X} v (p ls) (q ls) ≡ done x r → Found make P w ok x ls r
      by_test ls x r true e =
          let f = first.sound ls x r e in record { item = f.item; is = f.is; fits = fits1 f.item f.fits; leads = f.leads; shaped = f.shaped }
      by_test ls x r false e =
          let f = second.sound ls x r e in record { item = f.item; is = f.is; fits = fits2 f.item f.fits; leads = f.leads; shaped = f.shaped }

      to : (i : I) (ls r : List Lexeme) → ok i ≡ true → Leads (w i) ls r → ends r ≡ true → (v : Bool) → test ls ≡ v → Which v (P1 i) (P2 i)
          → choose test p q ls ≡ done (make i) r
      to i ls r o l end true e known = rw e (first.complete i ls r known o l end)
      to i ls r o l end false e known = rw e (second.complete i ls r known o l end)

-- what its first token makes of a reader
pub begun_by : {X : Type 0} (token : Written) (p q : Parser X) → ((l : Lexeme) (ls : List Lexeme) → p (as_written token l ∷ ls) ≡ q (as_written token l ∷ ls))
    → (ws : List Written) (ls r : List Lexeme) → Leads (token ∷ ws) ls r → p ls ≡ q ls
begun_by token p q same ws [] r l = absurd l
begun_by token p q same ws (l ∷ ls) r s = subst (λ (z : Lexeme). p (z ∷ ls) ≡ q (z ∷ ls)) (spelt_is token l s.0) (same l ls)
