-- Factors and terms (4.4).
use Rattle.std.proofs.Common.{◌≡◌, ℕ, Bool, true, false, not, ◌||◌, List, [], ◌∷◌, ◌++◌, refl, sym, subst, codes, arith}
use Rattle.std.proofs.lemmas.Bool.{false≢true, not-true}
use Rattle.std.proofs.lemmas.Bool.Decides.{nat_tests}
use Rattle.std.specs.Prelude.{nat_le, flat_map}
use Rattle.std.specs.List.{list_all}
use Rattle.ann_base.specs.declared.places.Place.{Place}
use Rattle.ada_tree.specs.declared.names.Identifier.{Identifier}
use Rattle.ada_tree.specs.declared.names.OneOrMore.{OneOrMore}
use Rattle.ada_tree.specs.declared.operators.MultiplyingOperator.{MultiplyingOperator}
use Rattle.ada_tree.specs.declared.operators.MultiplyingOperator.TheVariants as multiplying
use Rattle.ada_tree.specs.declared.operators.HighestOperator.{HighestOperator}
use Rattle.ada_tree.specs.declared.operators.HighestOperator.TheVariants as highest
use Rattle.ada_tree.specs.declared.expressions.Precedence.{Precedence}
use Rattle.ada_tree.specs.declared.expressions.Precedence.TheVariants as precedence
use Rattle.ada_tree.specs.declared.expressions.Expression.{Expression}
use Rattle.ada_tree.specs.declared.expressions.ExpressionForm.{ExpressionForm}
use Rattle.ada_tree.specs.declared.expressions.ExpressionForm.TheVariants as form
use Rattle.ada_tree.specs.declared.expressions.Multiplied.{Multiplied}
use Rattle.ada_tree.specs.Written.{Written, Lexeme, word_at, delimiter, delimiter_at, number_at}
use Rattle.ada_tree.specs.Written.{text_at, identifier_written, one_identifier, all_written, behind}
use Rattle.ada_tree.specs.SpellingExpressions.{multiplying_written, highest_text, multiplied_written, form_written, expression_written}
use Rattle.ada_tree.specs.ShapeExpressions.{all_fit, rank, precedence_of, parts_fit, multiplied_fits, form_fits, expression_fits}
use Rattle.ada_grammar.specs.Reading.{Parser, starts, sees_word, sees_delimiter, the_word, the_delimiter, items_of}
use Rattle.ada_grammar.specs.ReadingExpressions.{formed, multiplies, multiplying_delimiter_of, multiplying_word_of, multiplication_of}
use Rattle.ada_grammar.specs.ReadingExpressions.{primary_of, highest_of, factor_of, multiplied_of, product_of, term_of}
use Rattle.grammar_laws.specs.Leads.{Leads}
use Rattle.grammar_laws.proofs.Reading.Leading.{leads_through, as_written}
use Rattle.grammar_laws.proofs.Reading.Exact.{done, Rest, Any, itself, Exact, first_true, second_true, both, field, plain, closing, first_is, listed}
use Rattle.grammar_laws.proofs.Reading.Tokens.{always, shapeless, word_exact, delimiter_exact, sees_delimiter_at_first}
use Rattle.grammar_laws.proofs.Reading.Tokens.{sees_word_at_first, identifier_no_word, seen_delimiter, seen_word}
use Rattle.grammar_laws.proofs.Reading.ReservedWords.{reserved_abs, reserved_not}
use Rattle.grammar_laws.proofs.Reading.Choices.{Sound, either, one_form}
use Rattle.grammar_laws.proofs.Reading.Ends.{ends_designated, ends_term}
use Rattle.grammar_laws.proofs.Reading.Primaries.{ReadsInside}
use Rattle.grammar_laws.proofs.Reading.PrimaryForms.{by_forms, primary_sound, primary_complete, primary_exact}
use Rattle.grammar_laws.proofs.Reading.Levels.{Level, level_exact}
use Rattle.grammar_laws.proofs.Reading.Levels.Level.{This, Tighter}

-- ---- binding more tightly than is asked

le_trans : (a b c : ℕ) → nat_le a b ≡ true → nat_le b c ≡ true → nat_le a c ≡ true
le_trans a b c p q = grind (arith, nat_tests)

pub looser : (upper lower : Precedence) (left : ℕ) (f : ExpressionForm Expression) → nat_le (rank upper) (rank lower) ≡ true
    → form_fits expression_fits f lower left ≡ true → form_fits expression_fits f upper left ≡ true
looser upper lower left f less o =
    both (le_trans (rank upper) (rank lower) (rank (precedence_of f)) less
    (first_true (nat_le (rank lower) (rank (precedence_of f))) (parts_fit expression_fits f left) o))
    (second_true (nat_le (rank lower) (rank (precedence_of f))) (parts_fit expression_fits f left) o)

pub loosened : {X I : Type 0} {make : I → X} {w : I → List Written} {ok ok' : I → Bool} {p : Parser X} → Sound make w ok p
    → ((i : I) → ok i ≡ true → ok' i ≡ true) → Sound make w ok' p
loosened sound less = record {
  by = λ ls x r e. let f = sound.by ls x r e in record { item = f.item; is = f.is; fits = tt; leads = f.leads; shaped = less f.item f.shaped };
}

-- one of two tests
pub either_true : (F : Type 0) (p q : Bool) → (p || q) ≡ true → (p ≡ true → F) → (q ≡ true → F) → F
either_true F true q e one other = one refl
either_true F false q e one other = other e

-- ---- the first token of a primary and of a factor

pub record Firsts (test : List Lexeme → Bool) (v : Bool) : Type 0 where
  pub number : (p : Place) (t : List ℕ) (k : Lexeme) (ks : List Lexeme) → test (as_written (number_at p t) k ∷ ks) ≡ v
  pub text : (p : Place) (t : List ℕ) (k : Lexeme) (ks : List Lexeme) → test (as_written (text_at p t) k ∷ ks) ≡ v
  pub null : (p : Place) (k : Lexeme) (ks : List Lexeme) → test (as_written (word_at p (codes "null")) k ∷ ks) ≡ v
  pub bracket : (p : Place) (k : Lexeme) (ks : List Lexeme) → test (as_written (delimiter_at p (codes "(")) k ∷ ks) ≡ v
  pub name : (i : Identifier) (ws : List Written) (ls r : List Lexeme) → Leads (identifier_written i ∷ ws) ls r → test ls ≡ v

pub primary_first : (test : List Lexeme → Bool) (v : Bool) → Firsts test v → (left : ℕ) (f : ExpressionForm Expression) (ls r : List Lexeme)
    → form_fits expression_fits f precedence.Primary left ≡ true
    → Leads (form_written expression_written f) ls r → test ls ≡ v
primary_first test v on left (form.Logical operator first others) ls r o l = absurd (false≢true o)
primary_first test v on left (form.Relational a place operator b) ls r o l = absurd (false≢true o)
primary_first test v on left (form.Adding first others) ls r o l = absurd (false≢true o)
primary_first test v on left (form.Signed place sign operand) ls r o l = absurd (false≢true o)
primary_first test v on left (form.Multiplying first others) ls r o l = absurd (false≢true o)
primary_first test v on left (form.Highest place operator operand) ls r o l = absurd (false≢true o)
primary_first test v on left (form.Number place literal) ls r o l = first_is test v (number_at place literal) (on.number place literal) [] ls r l
primary_first test v on left (form.Text place text) ls r o l = first_is test v (text_at place text) (on.text place text) [] ls r l
primary_first test v on left (form.Null place) ls r o l = first_is test v (word_at place (codes "null")) (on.null place) [] ls r l
primary_first test v on left (form.Bracketed place e) ls r o l =
    first_is test v (delimiter_at place (codes "(")) (on.bracket place) (expression_written e ++ delimiter (codes ")") ∷ []) ls r l
primary_first test v on left (form.Named name attribute arguments) ls r o l =
    named (flat_map (behind (delimiter (codes ".")) one_identifier) name.parts.others) _ ls r l
  where
    named : (others rest : List Written) (ls r : List Lexeme) → Leads ((identifier_written name.parts.first ∷ others) ++ rest) ls r → test ls ≡ v
    named others rest ls r l = on.name name.parts.first (others ++ rest) ls r l

abs_first : Firsts (sees_word (codes "abs")) false
unfolding starts
abs_first = record {
  number = λ p t k ks. refl;
  text = λ p t k ks. refl;
  null = λ p k ks. refl;
  bracket = λ p k ks. refl;
  name = identifier_no_word (codes "abs") reserved_abs;
}

not_first : Firsts (sees_word (codes "not")) false
unfolding starts
not_first = record {
  number = λ p t k ks. refl;
  text = λ p t k ks. refl;
  null = λ p k ks. refl;
  bracket = λ p k ks. refl;
  name = identifier_no_word (codes "not") reserved_not;
}

-- a factor may begin with an operator
pub factor_first : (test : List Lexeme → Bool) (v : Bool) → Firsts test v
    → ((p : Place) (operator : HighestOperator) (k : Lexeme) (ks : List Lexeme) → test (as_written (word_at p (highest_text operator)) k ∷ ks) ≡ v)
    → (left : ℕ) (f : ExpressionForm Expression) (ls r : List Lexeme) → form_fits expression_fits f precedence.Highest left ≡ true
    → Leads (form_written expression_written f) ls r → test ls ≡ v
factor_first test v on operated left (form.Highest place operator operand) ls r o l =
    first_is test v (word_at place (highest_text operator)) (operated place operator) (expression_written operand) ls r l
factor_first test v on operated left (form.Logical operator first others) ls r o l = absurd (false≢true o)
factor_first test v on operated left (form.Relational a place operator b) ls r o l = absurd (false≢true o)
factor_first test v on operated left (form.Adding first others) ls r o l = absurd (false≢true o)
factor_first test v on operated left (form.Signed place sign operand) ls r o l = absurd (false≢true o)
factor_first test v on operated left (form.Multiplying first others) ls r o l = absurd (false≢true o)
factor_first test v on operated left (form.Number place literal) ls r o l = primary_first test v on left (form.Number place literal) ls r o l
factor_first test v on operated left (form.Text place text) ls r o l = primary_first test v on left (form.Text place text) ls r o l
factor_first test v on operated left (form.Null place) ls r o l = primary_first test v on left (form.Null place) ls r o l
factor_first test v on operated left (form.Bracketed place e) ls r o l = primary_first test v on left (form.Bracketed place e) ls r o l
factor_first test v on operated left (form.Named name attribute arguments) ls r o l =
    primary_first test v on left (form.Named name attribute arguments) ls r o l

-- ---- multiplying operators (4.5.5)

abbrev pub MultiplyingDelimiter : Type 0
MultiplyingDelimiter = Place × MultiplyingOperator

abbrev pub multiplying_delimiter : MultiplyingDelimiter → List Written
multiplying_delimiter x = multiplying_written x.1 x.0 ∷ []

by_delimiter : (text : List ℕ) (operator : MultiplyingOperator)
    → Rest (λ (p : Place). (p, operator)) Any (λ p. delimiter_at p text ∷ []) shapeless always (multiplying_delimiter_of text operator)
unfolding multiplying_delimiter_of
by_delimiter text operator =
    closing (λ (p : Place). (p, operator)) Any always itself (λ p. delimiter_at p text ∷ []) shapeless (the_delimiter text) itself (delimiter_exact text)
    (λ a. tt) (λ a. refl) (λ a x p e. e)

by_word : (text : List ℕ) (operator : MultiplyingOperator)
    → Rest (λ (p : Place). (p, operator)) Any (λ p. word_at p text ∷ []) shapeless always (multiplying_word_of text operator)
unfolding multiplying_word_of
by_word text operator =
    closing (λ (p : Place). (p, operator)) Any always itself (λ p. word_at p text ∷ []) shapeless (the_word text) itself (word_exact text) (λ a. tt) (λ a. refl)
    (λ a x p e. e)

multiplication_sound : Sound itself multiplying_delimiter shapeless multiplication_of
unfolding multiplication_of
multiplication_sound =
    either (sees_delimiter (codes "*")) (one_form (λ p. (p, multiplying.Times)) (by_delimiter (codes "*") multiplying.Times) (λ p. refl) (λ p. refl))
    (either (sees_delimiter (codes "/")) (one_form (λ p. (p, multiplying.Divide)) (by_delimiter (codes "/") multiplying.Divide) (λ p. refl) (λ p. refl))
    (either (sees_word (codes "mod")) (one_form (λ p. (p, multiplying.Modulus)) (by_word (codes "mod") multiplying.Modulus) (λ p. refl) (λ p. refl))
    (one_form (λ p. (p, multiplying.Remainder)) (by_word (codes "rem") multiplying.Remainder) (λ p. refl) (λ p. refl))))

multiplication_complete : (operator : MultiplyingOperator) (p : Place) (ls r : List Lexeme) → Leads (multiplying_written operator p ∷ []) ls r
    → multiplication_of ls ≡ done (p, operator) r
unfolding multiplication_of starts
multiplication_complete multiplying.Times p ls r l =
    rw (sees_delimiter_at_first (codes "*") p [] ls r l) ((by_delimiter (codes "*") multiplying.Times).complete p ls r tt refl l refl)
multiplication_complete multiplying.Divide p ls r l =
    rw (first_is (sees_delimiter (codes "*")) false (delimiter_at p (codes "/")) (λ k ks. refl) [] ls r l, sees_delimiter_at_first (codes "/") p [] ls r l)
    ((by_delimiter (codes "/") multiplying.Divide).complete p ls r tt refl l refl)
multiplication_complete multiplying.Modulus p ls r l =
    rw (
      first_is (sees_delimiter (codes "*")) false (word_at p (codes "mod")) (λ k ks. refl) [] ls r l,
      first_is (sees_delimiter (codes "/")) false (word_at p (codes "mod")) (λ k ks. refl) [] ls r l,
      sees_word_at_first (codes "mod") p [] ls r l,
    ) ((by_word (codes "mod") multiplying.Modulus).complete p ls r tt refl l refl)
multiplication_complete multiplying.Remainder p ls r l =
    rw (
      first_is (sees_delimiter (codes "*")) false (word_at p (codes "rem")) (λ k ks. refl) [] ls r l,
      first_is (sees_delimiter (codes "/")) false (word_at p (codes "rem")) (λ k ks. refl) [] ls r l,
      first_is (sees_word (codes "mod")) false (word_at p (codes "rem")) (λ k ks. refl) [] ls r l,
    ) ((by_word (codes "rem") multiplying.Remainder).complete p ls r tt refl l refl)

multiplication_exact : Exact multiplying_delimiter shapeless always multiplication_of
multiplication_exact = record { sound = multiplication_sound.by; complete = λ x ls r q o l end. multiplication_complete x.1 x.0 ls r l }

multiplying_first : (test : List Lexeme → Bool) (v : Bool)
    → ((p : Place) (k : Lexeme) (ks : List Lexeme) → test (as_written (delimiter_at p (codes "*")) k ∷ ks) ≡ v)
    → ((p : Place) (k : Lexeme) (ks : List Lexeme) → test (as_written (delimiter_at p (codes "/")) k ∷ ks) ≡ v)
    → ((p : Place) (k : Lexeme) (ks : List Lexeme) → test (as_written (word_at p (codes "mod")) k ∷ ks) ≡ v)
    → ((p : Place) (k : Lexeme) (ks : List Lexeme) → test (as_written (word_at p (codes "rem")) k ∷ ks) ≡ v)
    → (operator : MultiplyingOperator) (p : Place) (ws : List Written) (ls r : List Lexeme) → Leads (multiplying_written operator p ∷ ws) ls r → test ls ≡ v
multiplying_first test v a b c d multiplying.Times p ws ls r l = first_is test v (delimiter_at p (codes "*")) (a p) ws ls r l
multiplying_first test v a b c d multiplying.Divide p ws ls r l = first_is test v (delimiter_at p (codes "/")) (b p) ws ls r l
multiplying_first test v a b c d multiplying.Modulus p ws ls r l = first_is test v (word_at p (codes "mod")) (c p) ws ls r l
multiplying_first test v a b c d multiplying.Remainder p ws ls r l = first_is test v (word_at p (codes "rem")) (d p) ws ls r l

begins_multiplied : (m : Multiplied Expression) (ls r : List Lexeme) → Leads (multiplied_written expression_written m) ls r → multiplies ls ≡ true
unfolding starts
begins_multiplied m ls r l =
    multiplying_first multiplies true (λ p k ks. refl) (λ p k ks. refl) (λ p k ks. refl) (λ p k ks. refl) m.operator m.place
    (expression_written m.factor) ls r l

-- a token that was seen to multiply ends what stands before it
multiplies_ends : (r : List Lexeme) → multiplies r ≡ true → ends_designated r ≡ true
unfolding starts
multiplies_ends r e =
    let F = ends_designated r ≡ true in
    either_true F (sees_delimiter (codes "*") r) _ e (λ e. seen_delimiter ends_designated true (codes "*") (λ p ls. refl) r e) (λ e.
    either_true F (sees_delimiter (codes "/") r) _ e (λ e. seen_delimiter ends_designated true (codes "/") (λ p ls. refl) r e) (λ e.
    either_true F (sees_word (codes "mod") r) _ e (λ e. seen_word ends_designated true (codes "mod") (λ p ls. refl) r e)
    (λ e. seen_word ends_designated true (codes "rem") (λ p ls. refl) r e)))

module _ (left : ℕ) (inner : Parser Expression) (inside : ReadsInside left inner) where
  -- ("abs" | "not") primary
  highest_exact : (operator : HighestOperator)
      → Rest (λ (x : Place × Expression). formed (form.Highest x.0 operator x.1)) Any (λ x. word_at x.0 (highest_text operator) ∷ expression_written x.1)
      (λ x. expression_fits x.1 precedence.Primary left) ends_designated (highest_of left inner operator)
  unfolding highest_of
  highest_exact operator =
      let make : Place × Expression → Expression = λ x. formed (form.Highest x.0 operator x.1) in
      plain make Any (λ x. expression_written x.1) (λ x. expression_fits x.1 precedence.Primary left) ends_designated (λ x. x.0)
      (λ p. word_at p (highest_text operator) ∷ []) shapeless always (the_word (highest_text operator)) _
      (word_exact (highest_text operator)) (λ p. refl) (λ x ls r p l end. refl)
      (λ place. closing make (λ x. Any x × (place ≡ x.0)) ends_designated (λ x. x.1) expression_written (λ e. expression_fits e precedence.Primary left)
      (primary_of left inner) (λ e. (place, e))
      (primary_exact left inner inside) (λ e. (tt, refl)) (λ e. refl) (λ e x p q. rw (p.1, q) refl))

  abbrev fits_factor : ExpressionForm Expression → Bool
  fits_factor f = form_fits expression_fits f precedence.Highest left

  factor_sound : Sound formed (form_written expression_written) fits_factor (factor_of left inner)
  unfolding factor_of
  factor_sound =
      either (sees_word (codes "abs"))
      (one_form (λ (x : Place × Expression). form.Highest x.0 highest.Absolute x.1) (highest_exact highest.Absolute) (λ x. refl) (λ x. refl))
      (either (sees_word (codes "not"))
      (one_form (λ (x : Place × Expression). form.Highest x.0 highest.Not x.1) (highest_exact highest.Not) (λ x. refl) (λ x. refl))
      (loosened (primary_sound left inner inside) (λ f o. looser precedence.Highest precedence.Primary left f refl o)))

  no_operator : (f : ExpressionForm Expression) (ls r : List Lexeme) → form_fits expression_fits f precedence.Primary left ≡ true
      → Leads (form_written expression_written f) ls r → ends_designated r ≡ true
      → factor_of left inner ls ≡ done (formed f) r
  unfolding factor_of
  no_operator f ls r o l end =
      rw (primary_first (sees_word (codes "abs")) false abs_first left f ls r o l, primary_first (sees_word (codes "not")) false not_first left f ls r o l)
      (primary_complete left inner inside f ls r o l end)

  factor_complete : (f : ExpressionForm Expression) (ls r : List Lexeme) → fits_factor f ≡ true → Leads (form_written expression_written f) ls r
      → ends_designated r ≡ true → factor_of left inner ls ≡ done (formed f) r
  unfolding factor_of starts
  factor_complete (form.Logical operator first others) ls r o l end = absurd (false≢true o)
  factor_complete (form.Relational a place operator b) ls r o l end = absurd (false≢true o)
  factor_complete (form.Adding first others) ls r o l end = absurd (false≢true o)
  factor_complete (form.Signed place sign operand) ls r o l end = absurd (false≢true o)
  factor_complete (form.Multiplying first others) ls r o l end = absurd (false≢true o)
  factor_complete (form.Highest place highest.Absolute operand) ls r o l end =
      rw (sees_word_at_first (codes "abs") place (expression_written operand) ls r l)
      ((highest_exact highest.Absolute).complete (place, operand) ls r tt o l end)
  factor_complete (form.Highest place highest.Not operand) ls r o l end =
      rw (
        first_is (sees_word (codes "abs")) false (word_at place (codes "not")) (λ k ks. refl) (expression_written operand) ls r l,
        sees_word_at_first (codes "not") place (expression_written operand) ls r l,
      )
      ((highest_exact highest.Not).complete (place, operand) ls r tt o l end)
  factor_complete (form.Number place literal) ls r o l end = no_operator (form.Number place literal) ls r o l end
  factor_complete (form.Text place text) ls r o l end = no_operator (form.Text place text) ls r o l end
  factor_complete (form.Null place) ls r o l end = no_operator (form.Null place) ls r o l end
  factor_complete (form.Bracketed place e) ls r o l end = no_operator (form.Bracketed place e) ls r o l end
  factor_complete (form.Named name attribute arguments) ls r o l end = no_operator (form.Named name attribute arguments) ls r o l end

  factor_exact : Exact expression_written (λ e. expression_fits e precedence.Highest left) ends_designated (factor_of left inner)
  factor_exact = by_forms precedence.Highest left ends_designated (factor_of left inner) (record { sound = factor_sound; complete = factor_complete })

  -- ("*" | "/" | "mod" | "rem") factor
  multiplied_exact : Exact (multiplied_written expression_written) (multiplied_fits expression_fits left) ends_designated (multiplied_of left inner)
  unfolding multiplied_of
  multiplied_exact =
      plain itself Any (λ m. expression_written m.factor) (multiplied_fits expression_fits left) ends_designated
      (λ m. (m.place, m.operator)) multiplying_delimiter shapeless always multiplication_of _
      multiplication_exact (λ x. refl) (λ m ls r p l end. refl)
      (λ x. closing itself (λ m. Any m × (x ≡ (m.place, m.operator))) ends_designated (λ m. m.factor) expression_written
      (λ e. expression_fits e precedence.Highest left) (factor_of left inner)
      (λ e. record { place = x.0; operator = x.1; factor = e }) factor_exact (λ e. (tt, refl)) (λ e. refl) (λ e m p q. rw (p.1, q) refl))

  abbrev Products : Type 0
  Products = OneOrMore (Multiplied Expression)

  ends_factor : (r : List Lexeme) → ends_term r ≡ true → ends_designated r ≡ true
  ends_factor r end = first_true (ends_designated r) (not (multiplies r)) end

  no_product : (r : List Lexeme) → ends_term r ≡ true → multiplies r ≡ false
  no_product r end = not-true (multiplies r) (second_true (ends_designated r) (not (multiplies r)) end)

  behind_product : (others : List (Multiplied Expression)) (ls r : List Lexeme) → Leads (flat_map (multiplied_written expression_written) others) ls r
      → ends_term r ≡ true → ends_designated ls ≡ true
  behind_product [] ls r l end = subst (λ (z : List Lexeme). ends_designated z ≡ true) (sym l) (ends_factor r end)
  behind_product (m ∷ others) ls r l end =
      let t = leads_through (multiplied_written expression_written m) (flat_map (multiplied_written expression_written) others) ls r l in
      multiplies_ends ls (begins_multiplied m ls t.middle t.first)

  product_exact : (first : Expression)
      → Rest (λ (xs : Products). formed (form.Multiplying first xs)) Any (all_written (multiplied_written expression_written))
      (all_fit (multiplied_fits expression_fits left)) ends_term (product_of left inner first)
  unfolding product_of starts
  product_exact first =
      let make : Products → Expression = λ xs. formed (form.Multiplying first xs) in
      field make Any (λ xs. flat_map (multiplied_written expression_written) xs.others)
      (λ xs. list_all (multiplied_fits expression_fits left) xs.others) ends_term
      (λ xs. xs.first) (multiplied_written expression_written) (multiplied_fits expression_fits left) ends_designated
      (multiplied_of left inner) _ multiplied_exact
      (λ xs ls r p l end. behind_product xs.others ls r l end)
      (λ second. closing make (λ xs. Any xs × (second ≡ xs.first)) ends_term (λ xs. xs.others) (flat_map (multiplied_written expression_written))
      (list_all (multiplied_fits expression_fits left))
      (items_of multiplies (multiplied_of left inner)) (λ others. record { first = second; others = others })
      (listed multiplies (multiplied_written expression_written) (multiplied_fits expression_fits left) ends_designated ends_term
      (multiplied_of left inner) multiplied_exact begins_multiplied refl multiplies_ends ends_factor no_product)
      (λ others. (tt, refl)) (λ others. refl) (λ others xs p e. rw (p.1, e) refl))

  term_level : (f : ExpressionForm Expression) → form_fits expression_fits f precedence.Multiplying left ≡ true
      → Level Products (λ first xs. form.Multiplying first xs) precedence.Highest left f
  term_level (form.Multiplying first others) o = This first others refl
  term_level (form.Logical operator first others) o = absurd (false≢true o)
  term_level (form.Relational a place operator b) o = absurd (false≢true o)
  term_level (form.Adding first others) o = absurd (false≢true o)
  term_level (form.Signed place sign operand) o = absurd (false≢true o)
  term_level (form.Highest place operator operand) o = Tighter o
  term_level (form.Number place literal) o = Tighter o
  term_level (form.Text place text) o = Tighter o
  term_level (form.Null place) o = Tighter o
  term_level (form.Bracketed place e) o = Tighter o
  term_level (form.Named name attribute arguments) o = Tighter o

  begins_products : (xs : Products) (ls r : List Lexeme) → Leads (all_written (multiplied_written expression_written) xs) ls r → multiplies ls ≡ true
  begins_products xs ls r l =
      let t = leads_through (multiplied_written expression_written xs.first) (flat_map (multiplied_written expression_written) xs.others) ls r l in
      begins_multiplied xs.first ls t.middle t.first

  pub term_exact : Exact expression_written (λ e. expression_fits e precedence.Multiplying left) ends_term (term_of left inner)
  unfolding term_of
  term_exact =
      level_exact left precedence.Multiplying precedence.Highest (λ first xs. form.Multiplying first xs) (all_written (multiplied_written expression_written))
      (all_fit (multiplied_fits expression_fits left))
      ends_designated ends_term multiplies (factor_of left inner) (product_of left inner) factor_exact product_exact (λ first xs. refl)
      (λ first xs. refl) term_level
      (λ f o. looser precedence.Multiplying precedence.Highest left f refl o) begins_products multiplies_ends ends_factor no_product
