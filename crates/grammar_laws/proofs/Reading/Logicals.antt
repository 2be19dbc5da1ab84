-- Expressions (4.4): what is read is what is written.
use Rattle.std.proofs.Common.{cond, append_assoc, ◌≡◌, ℕ, Bool, true, false, not, ◌&&◌, ◌||◌, List, [], ◌∷◌, ◌++◌, refl, sym, ap, subst, ◌∙◌, codes}
use Rattle.std.specs.Prelude.{flat_map}
use Rattle.std.proofs.lemmas.Bool.{false≢true, not-true, or_right}
use Rattle.std.specs.List.{list_all}
use Rattle.ann_base.specs.declared.places.Place.{Place}
use Rattle.ada_tree.specs.declared.names.OneOrMore.{OneOrMore}
use Rattle.ada_tree.specs.declared.operators.LogicalOperator.{LogicalOperator}
use Rattle.ada_tree.specs.declared.operators.LogicalOperator.TheVariants as logical
use Rattle.ada_tree.specs.declared.operators.Sign.{Sign}
use Rattle.ada_tree.specs.declared.operators.HighestOperator.{HighestOperator}
use Rattle.ada_tree.specs.declared.operators.HighestOperator.TheVariants as highest
use Rattle.ada_tree.specs.declared.expressions.Precedence.{Precedence}
use Rattle.ada_tree.specs.declared.expressions.Precedence.TheVariants as precedence
use Rattle.ada_tree.specs.declared.expressions.Expression.{Expression}
use Rattle.ada_tree.specs.declared.expressions.Expression.TheViews.{out-Expression}
use Rattle.ada_tree.specs.declared.expressions.ExpressionForm.{ExpressionForm}
use Rattle.ada_tree.specs.declared.expressions.ExpressionForm.TheVariants as form
use Rattle.ada_tree.specs.declared.expressions.Operand.{Operand}
use Rattle.ada_tree.specs.Written.{Written, Lexeme, word, word_at, delimiter_at, all_written}
use Rattle.ada_tree.specs.SpellingExpressions.{logical_written, relational_text, sign_text, highest_text}
use Rattle.ada_tree.specs.SpellingExpressions.{operand_written, addend_written, form_written, expression_written}
use Rattle.ada_tree.specs.ShapeExpressions.{all_fit, operand_fits, addend_fits, form_fits, expression_fits}
use Rattle.ada_grammar.specs.Reading.{Read, Parser, and_then, ◌>>=◌, ◌>>◌, pure, choose, starts, sees_word, the_word, items_of}
use Rattle.ada_grammar.specs.ReadingExpressions.{formed, joins, relation_of, again_of, both_words_of, logical_text, conjunction_of}
use Rattle.ada_grammar.specs.ReadingExpressions.{disjunction_of, exclusive_of, logical_operator_of, operand_of, joined_of, logical_of}
use Rattle.grammar_laws.specs.Leads.{Leads}
use Rattle.grammar_laws.proofs.Reading.Leading.{leads_through, as_written}
use Rattle.grammar_laws.proofs.Reading.Exact.{done, Found, Rest, Any, itself, Exact, first_true, second_true, both, parts, ready}
use Rattle.grammar_laws.proofs.Reading.Exact.{field, plain, plain_before, respelt, respelt_where, closing, neither, first_is, listed}
use Rattle.grammar_laws.proofs.Reading.Tokens.{always, shapeless, word_exact, word_then, sees_word_first}
use Rattle.grammar_laws.proofs.Reading.Tokens.{sees_word_at_first, identifier_no_word, not_word, seen_word}
use Rattle.grammar_laws.proofs.Reading.ReservedWords.{reserved_then, reserved_else}
use Rattle.grammar_laws.proofs.Reading.Choices.{Sound, either, one_form}
use Rattle.grammar_laws.proofs.Reading.Ends.{ends_relation, ends_expression}
use Rattle.grammar_laws.proofs.Reading.Primaries.{ReadsInside, formed_is_written, formed_is_fit, formed_again}
use Rattle.grammar_laws.proofs.Reading.Levels.{Level, level_exact}
use Rattle.grammar_laws.proofs.Reading.Levels.Level.{This, Tighter}
use Rattle.grammar_laws.proofs.Reading.Terms.{Firsts, looser, either_true}
use Rattle.grammar_laws.proofs.Reading.Sums.{term_first, relation_exact}

-- ---- the first token of a relation

then_first : Firsts (sees_word (codes "then")) false
unfolding starts
then_first = record {
  number = λ p t k ks. refl;
  text = λ p t k ks. refl;
  null = λ p k ks. refl;
  bracket = λ p k ks. refl;
  name = identifier_no_word (codes "then") reserved_then;
}

else_first : Firsts (sees_word (codes "else")) false
unfolding starts
else_first = record {
  number = λ p t k ks. refl;
  text = λ p t k ks. refl;
  null = λ p k ks. refl;
  bracket = λ p k ks. refl;
  name = identifier_no_word (codes "else") reserved_else;
}

operator_no_then : (p : Place) (operator : HighestOperator) (k : Lexeme) (ks : List Lexeme)
    → sees_word (codes "then") (as_written (word_at p (highest_text operator)) k ∷ ks) ≡ false
unfolding starts
operator_no_then p highest.Absolute k ks = refl
operator_no_then p highest.Not k ks = refl

operator_no_else : (p : Place) (operator : HighestOperator) (k : Lexeme) (ks : List Lexeme)
    → sees_word (codes "else") (as_written (word_at p (highest_text operator)) k ∷ ks) ≡ false
unfolding starts
operator_no_else p highest.Absolute k ks = refl
operator_no_else p highest.Not k ks = refl

module _ (test : List Lexeme → Bool) (v : Bool) (on : Firsts test v)
    (operated : (p : Place) (operator : HighestOperator) (k : Lexeme) (ks : List Lexeme) → test (as_written (word_at p (highest_text operator)) k ∷ ks) ≡ v)
    (signed : (p : Place) (sign : Sign) (k : Lexeme) (ks : List Lexeme) → test (as_written (delimiter_at p (sign_text sign)) k ∷ ks) ≡ v) (left : ℕ) where
  shape_of : (e : Expression) (least : Precedence) → expression_fits e least left ≡ true → form_fits expression_fits (out-Expression e).form least left ≡ true
  shape_of e least o = sym (formed_is_fit (out-Expression e).form least left) ∙ (ap (λ z. expression_fits z least left) (formed_again e) ∙ o)

  leads_of : (e : Expression) (ls r : List Lexeme) → Leads (expression_written e) ls r → Leads (form_written expression_written (out-Expression e).form) ls r
  leads_of e ls r l = subst (λ (ws : List Written). Leads ws ls r) (sym (ap expression_written (formed_again e)) ∙ formed_is_written (out-Expression e).form) l

  signed_first : (f : ExpressionForm Expression) (ls r : List Lexeme) → form_fits expression_fits f precedence.Signed left ≡ true
      → Leads (form_written expression_written f) ls r → test ls ≡ v
  signed_first (form.Signed place sign operand) ls r o l =
      first_is test v (delimiter_at place (sign_text sign)) (signed place sign) (expression_written operand) ls r l
  signed_first (form.Logical operator first others) ls r o l = absurd (false≢true o)
  signed_first (form.Relational a place operator b) ls r o l = absurd (false≢true o)
  signed_first (form.Adding first others) ls r o l = absurd (false≢true o)
  signed_first (form.Multiplying first others) ls r o l = term_first test v on operated left (form.Multiplying first others) ls r o l
  signed_first (form.Highest place operator operand) ls r o l = term_first test v on operated left (form.Highest place operator operand) ls r o l
  signed_first (form.Number place literal) ls r o l = term_first test v on operated left (form.Number place literal) ls r o l
  signed_first (form.Text place text) ls r o l = term_first test v on operated left (form.Text place text) ls r o l
  signed_first (form.Null place) ls r o l = term_first test v on operated left (form.Null place) ls r o l
  signed_first (form.Bracketed place e) ls r o l = term_first test v on operated left (form.Bracketed place e) ls r o l
  signed_first (form.Named name attribute arguments) ls r o l = term_first test v on operated left (form.Named name attribute arguments) ls r o l

  sum_first : (f : ExpressionForm Expression) (ls r : List Lexeme) → form_fits expression_fits f precedence.Adding left ≡ true
      → Leads (form_written expression_written f) ls r → test ls ≡ v
  sum_first (form.Adding first others) ls r o l =
      let t = leads_through (expression_written first) (all_written (addend_written expression_written) others) ls r l in
      signed_first (out-Expression first).form ls t.middle
      (shape_of first precedence.Signed (first_true (expression_fits first precedence.Signed left) (all_fit (addend_fits expression_fits left) others) o))
      (leads_of first ls t.middle t.first)
  sum_first (form.Logical operator first others) ls r o l = absurd (false≢true o)
  sum_first (form.Relational a place operator b) ls r o l = absurd (false≢true o)
  sum_first (form.Signed place sign operand) ls r o l = signed_first (form.Signed place sign operand) ls r o l
  sum_first (form.Multiplying first others) ls r o l = signed_first (form.Multiplying first others) ls r o l
  sum_first (form.Highest place operator operand) ls r o l = signed_first (form.Highest place operator operand) ls r o l
  sum_first (form.Number place literal) ls r o l = signed_first (form.Number place literal) ls r o l
  sum_first (form.Text place text) ls r o l = signed_first (form.Text place text) ls r o l
  sum_first (form.Null place) ls r o l = signed_first (form.Null place) ls r o l
  sum_first (form.Bracketed place e) ls r o l = signed_first (form.Bracketed place e) ls r o l
  sum_first (form.Named name attribute arguments) ls r o l = signed_first (form.Named name attribute arguments) ls r o l

  relation_first : (f : ExpressionForm Expression) (ls r : List Lexeme) → form_fits expression_fits f precedence.Relational left ≡ true
      → Leads (form_written expression_written f) ls r → test ls ≡ v
  relation_first (form.Relational a place operator b) ls r o l =
      let t = leads_through (expression_written a) (delimiter_at place (relational_text operator) ∷ expression_written b) ls r l in
      sum_first (out-Expression a).form ls t.middle
      (shape_of a precedence.Adding (first_true (expression_fits a precedence.Adding left) (expression_fits b precedence.Adding left) o))
      (leads_of a ls t.middle t.first)
  relation_first (form.Logical operator first others) ls r o l = absurd (false≢true o)
  relation_first (form.Adding first others) ls r o l = sum_first (form.Adding first others) ls r o l
  relation_first (form.Signed place sign operand) ls r o l = sum_first (form.Signed place sign operand) ls r o l
  relation_first (form.Multiplying first others) ls r o l = sum_first (form.Multiplying first others) ls r o l
  relation_first (form.Highest place operator operand) ls r o l = sum_first (form.Highest place operator operand) ls r o l
  relation_first (form.Number place literal) ls r o l = sum_first (form.Number place literal) ls r o l
  relation_first (form.Text place text) ls r o l = sum_first (form.Text place text) ls r o l
  relation_first (form.Null place) ls r o l = sum_first (form.Null place) ls r o l
  relation_first (form.Bracketed place e) ls r o l = sum_first (form.Bracketed place e) ls r o l
  relation_first (form.Named name attribute arguments) ls r o l = sum_first (form.Named name attribute arguments) ls r o l

  pub by_relation : (e : Expression) (ls r : List Lexeme) → expression_fits e precedence.Relational left ≡ true → Leads (expression_written e) ls r
      → test ls ≡ v
  by_relation e ls r o l = relation_first (out-Expression e).form ls r (shape_of e precedence.Relational o) (leads_of e ls r l)

sign_no_then : (p : Place) (sign : Sign) (k : Lexeme) (ks : List Lexeme)
    → sees_word (codes "then") (as_written (delimiter_at p (sign_text sign)) k ∷ ks) ≡ false
unfolding starts
sign_no_then p sign k ks = refl

sign_no_else : (p : Place) (sign : Sign) (k : Lexeme) (ks : List Lexeme)
    → sees_word (codes "else") (as_written (delimiter_at p (sign_text sign)) k ∷ ks) ≡ false
unfolding starts
sign_no_else p sign k ks = refl

-- ---- logical operators (4.5.1)

abbrev pub Delimited : Type 0
Delimited = Place × LogicalOperator

abbrev pub logical_delimiter : Delimited → List Written
logical_delimiter x = logical_written x.1 x.0

abbrev pub ends_operator : List Lexeme → Bool
ends_operator r = not_word (codes "then") r && not_word (codes "else") r

-- one word, or two
module _ (first second : List ℕ) (single double : LogicalOperator) where
  abbrev either_words : Parser Delimited
  either_words = the_word first >>= (λ place. choose (sees_word second) (the_word second >> pure (place, double)) (pure (place, single)))

  one_word : Rest {X = Delimited} (λ (p : Place). (p, single)) Any (λ p. word_at p first ∷ []) shapeless always
      (the_word first >>= (λ place. pure (place, single)))
  one_word =
      closing {X = Delimited} (λ (p : Place). (p, single)) Any always itself (λ p. word_at p first ∷ []) shapeless (the_word first) itself (word_exact first)
      (λ a. tt) (λ a. refl) (λ a x p e. e)

  two_words : Rest {X = Delimited} (λ (p : Place). (p, double)) Any (λ p. word_at p first ∷ word second ∷ []) shapeless always
      (the_word first >>= (λ place. the_word second >>= (λ other. pure (place, double))))
  two_words =
      let make : Place → Delimited = λ p. (p, double) in
      plain make Any (λ p. word second ∷ []) shapeless always itself (λ p. word_at p first ∷ []) shapeless always (the_word first) _ (word_exact first)
      (λ a. refl) (λ x ls r p l end. refl)
      (λ place. word_then make (λ x. Any x × (place ≡ x)) (λ p. []) shapeless always second _
      (ready make (λ x. Any x × (place ≡ x)) always place (tt, refl) (λ x p. p.1)))

  words_sound : (w : Delimited → List Written) → ((p : Place) → (word_at p first ∷ []) ≡ w (p, single))
      → ((p : Place) → (word_at p first ∷ word second ∷ []) ≡ w (p, double)) → Sound itself w shapeless either_words
  words_sound w is_single is_double = record { by = by_place }
    where
      by_place : (ls : List Lexeme) (x : Delimited) (r : List Lexeme) → either_words ls ≡ done x r → Found itself Any w shapeless x ls r
      by_place ls x r e =
          let s = parts (the_word first ls) (λ place. choose (sees_word second) (the_word second >> pure (place, double)) (pure (place, single))) x r e in
          by_test ls x r s.value s.rest s.is (sees_word second s.rest) s.then
        where
          by_test : (ls : List Lexeme) (x : Delimited) (r : List Lexeme) (p : Place) (m : List Lexeme) → the_word first ls ≡ done p m → (v : Bool)
              → cond {A = Read Delimited} v (and_then (the_word second m) (λ other. pure (p, double))) (done (p, single) m) ≡ done x r
              → Found itself Any w shapeless x ls r
          by_test ls x r p m is true e = (one_form (λ (p : Place). (p, double)) two_words is_double (λ p. refl)).by ls x r (rw is e)
          by_test ls x r p m is false e = (one_form (λ (p : Place). (p, single)) one_word is_single (λ p. refl)).by ls x r (rw is e)

  single_complete : (p : Place) (ls r : List Lexeme) → Leads (word_at p first ∷ []) ls r → sees_word second r ≡ false → either_words ls ≡ done (p, single) r
  single_complete p ls r l other = rw ((word_exact first).complete p ls r tt refl l refl, other) refl

  double_complete : (p : Place) (ls r : List Lexeme) → Leads (word_at p first ∷ word second ∷ []) ls r → either_words ls ≡ done (p, double) r
  double_complete p ls r l =
      let t = leads_through (word_at p first ∷ []) (word second ∷ []) ls r l in
      let whole = two_words.complete p ls r tt refl l refl in
      rw ((word_exact first).complete p ls t.middle tt refl t.first refl, sees_word_first second [] t.middle r t.second)
      (rw ((word_exact first).complete p ls t.middle tt refl t.first refl) at whole)

exclusive_exact : Rest {X = Delimited} (λ (p : Place). (p, logical.Xor)) Any (λ p. word_at p (codes "xor") ∷ []) shapeless always exclusive_of
unfolding exclusive_of
exclusive_exact = one_word (codes "xor") (codes "xor") logical.Xor logical.Xor

operator_sound : Sound itself logical_delimiter shapeless logical_operator_of
unfolding logical_operator_of conjunction_of disjunction_of
operator_sound =
    either (sees_word (codes "and")) (words_sound (codes "and") (codes "then") logical.And logical.AndThen logical_delimiter (λ p. refl) (λ p. refl))
    (either (sees_word (codes "or")) (words_sound (codes "or") (codes "else") logical.Or logical.OrElse logical_delimiter (λ p. refl) (λ p. refl))
    (one_form (λ (p : Place). (p, logical.Xor)) exclusive_exact (λ p. refl) (λ p. refl)))

operator_complete : (operator : LogicalOperator) (p : Place) (ls r : List Lexeme) → Leads (logical_written operator p) ls r → ends_operator r ≡ true
    → logical_operator_of ls ≡ done (p, operator) r
unfolding logical_operator_of conjunction_of disjunction_of starts
operator_complete logical.And p ls r l end =
    rw (sees_word_at_first (codes "and") p [] ls r l)
    (single_complete (codes "and") (codes "then") logical.And logical.AndThen p ls r l
    (not-true (sees_word (codes "then") r) (first_true (not_word (codes "then") r) (not_word (codes "else") r) end)))
operator_complete logical.AndThen p ls r l end =
    rw (sees_word_at_first (codes "and") p (word (codes "then") ∷ []) ls r l)
    (double_complete (codes "and") (codes "then") logical.And logical.AndThen p ls r l)
operator_complete logical.Or p ls r l end =
    rw (first_is (sees_word (codes "and")) false (word_at p (codes "or")) (λ k ks. refl) [] ls r l, sees_word_at_first (codes "or") p [] ls r l)
    (single_complete (codes "or") (codes "else") logical.Or logical.OrElse p ls r l
    (not-true (sees_word (codes "else") r) (second_true (not_word (codes "then") r) (not_word (codes "else") r) end)))
operator_complete logical.OrElse p ls r l end =
    rw (
      first_is (sees_word (codes "and")) false (word_at p (codes "or")) (λ k ks. refl) (word (codes "else") ∷ []) ls r l,
      sees_word_at_first (codes "or") p (word (codes "else") ∷ []) ls r l,
    )
    (double_complete (codes "or") (codes "else") logical.Or logical.OrElse p ls r l)
operator_complete logical.Xor p ls r l end =
    rw (
      first_is (sees_word (codes "and")) false (word_at p (codes "xor")) (λ k ks. refl) [] ls r l,
      first_is (sees_word (codes "or")) false (word_at p (codes "xor")) (λ k ks. refl) [] ls r l,
    )
    (exclusive_exact.complete p ls r tt refl l refl)

pub operator_exact : Exact logical_delimiter shapeless ends_operator logical_operator_of
operator_exact = record { sound = operator_sound.by; complete = λ x ls r q o l end. operator_complete x.1 x.0 ls r l end }

-- the same operator again
both_again : (first second : List ℕ) → Exact (λ p. word_at p first ∷ word second ∷ []) shapeless always (both_words_of first second)
unfolding both_words_of
both_again first second =
    plain itself Any (λ p. word second ∷ []) shapeless always itself (λ p. word_at p first ∷ []) shapeless always (the_word first) _ (word_exact first)
    (λ a. refl) (λ x ls r p l end. refl)
    (λ place. word_then itself (λ x. Any x × (place ≡ x)) (λ p. []) shapeless always second _
    (ready itself (λ x. Any x × (place ≡ x)) always place (tt, refl) (λ x p. p.1)))

again_exact : (operator : LogicalOperator) → Exact (logical_written operator) shapeless always (again_of operator)
again_exact logical.And = word_exact (codes "and")
again_exact logical.Or = word_exact (codes "or")
again_exact logical.Xor = word_exact (codes "xor")
again_exact logical.AndThen = both_again (codes "and") (codes "then")
again_exact logical.OrElse = both_again (codes "or") (codes "else")

begins_operand : (operator : LogicalOperator) (o : Operand Expression) (ls r : List Lexeme) → Leads (operand_written expression_written operator o) ls r
    → sees_word (logical_text operator) ls ≡ true
begins_operand logical.And o ls r l = sees_word_at_first (codes "and") o.place _ ls r l
begins_operand logical.Or o ls r l = sees_word_at_first (codes "or") o.place _ ls r l
begins_operand logical.Xor o ls r l = sees_word_at_first (codes "xor") o.place _ ls r l
begins_operand logical.AndThen o ls r l = sees_word_at_first (codes "and") o.place (word (codes "then") ∷ expression_written o.relation) ls r l
begins_operand logical.OrElse o ls r l = sees_word_at_first (codes "or") o.place (word (codes "else") ∷ expression_written o.relation) ls r l

operand_apart : (operator : LogicalOperator) (r : List Lexeme) → sees_word (logical_text operator) r ≡ true → ends_relation r ≡ true
unfolding starts
operand_apart logical.And r e = seen_word ends_relation true (codes "and") (λ p ls. refl) r e
operand_apart logical.Or r e = seen_word ends_relation true (codes "or") (λ p ls. refl) r e
operand_apart logical.Xor r e = seen_word ends_relation true (codes "xor") (λ p ls. refl) r e
operand_apart logical.AndThen r e = seen_word ends_relation true (codes "and") (λ p ls. refl) r e
operand_apart logical.OrElse r e = seen_word ends_relation true (codes "or") (λ p ls. refl) r e

joins_apart : (r : List Lexeme) → joins r ≡ true → ends_relation r ≡ true
unfolding starts
joins_apart r e =
    let F = ends_relation r ≡ true in
    either_true F (sees_word (codes "and") r) _ e (λ e. seen_word ends_relation true (codes "and") (λ p ls. refl) r e) (λ e.
    either_true F (sees_word (codes "or") r) _ e (λ e. seen_word ends_relation true (codes "or") (λ p ls. refl) r e)
    (λ e. seen_word ends_relation true (codes "xor") (λ p ls. refl) r e))

no_operand : (operator : LogicalOperator) (r : List Lexeme) → ends_expression r ≡ true → sees_word (logical_text operator) r ≡ false
no_operand operator r end =
    let none =
    neither (sees_word (codes "and") r) (sees_word (codes "or") r || sees_word (codes "xor") r) (second_true (ends_relation r) (not (joins r)) end) in
    by_operator operator none.0 (others (sees_word (codes "or") r) (sees_word (codes "xor") r) none.1)
  where
    others : (p q : Bool) → (p || q) ≡ false → (p ≡ false) × (q ≡ false)
    others true q e = absurd cc
    others false q e = (refl, e)

    by_operator : (operator : LogicalOperator) → sees_word (codes "and") r ≡ false → (sees_word (codes "or") r ≡ false) × (sees_word (codes "xor") r ≡ false)
        → sees_word (logical_text operator) r ≡ false
    by_operator logical.And a b = a
    by_operator logical.Or a b = b.0
    by_operator logical.Xor a b = b.1
    by_operator logical.AndThen a b = a
    by_operator logical.OrElse a b = b.0

module _ (left : ℕ) (inner : Parser Expression) (inside : ReadsInside left inner) where
  ends_operand : (r : List Lexeme) → ends_expression r ≡ true → ends_relation r ≡ true
  ends_operand r end = first_true (ends_relation r) (not (joins r)) end

  no_joined : (r : List Lexeme) → ends_expression r ≡ true → joins r ≡ false
  no_joined r end = not-true (joins r) (second_true (ends_relation r) (not (joins r)) end)

  operand_exact : (operator : LogicalOperator)
      → Exact (operand_written expression_written operator) (operand_fits expression_fits left) ends_relation (operand_of left inner operator)
  unfolding operand_of
  operand_exact operator =
      plain itself Any (λ o. expression_written o.relation) (operand_fits expression_fits left) ends_relation (λ o. o.place)
      (logical_written operator) shapeless always (again_of operator) _
      (again_exact operator) (λ p. refl) (λ o ls r p l end. refl)
      (λ place. closing itself (λ o. Any o × (place ≡ o.place)) ends_relation (λ o. o.relation) expression_written
      (λ e. expression_fits e precedence.Relational left) (relation_of left inner)
      (λ e. record { place = place; relation = e }) (relation_exact left inner inside) (λ e. (tt, refl)) (λ e. refl) (λ e o p q. rw (p.1, q) refl))

  abbrev Operands : Type 0
  Operands = LogicalOperator × OneOrMore (Operand Expression)

  abbrev operands_written : Operands → List Written
  operands_written x = all_written (operand_written expression_written x.0) x.1

  abbrev operands_fit : Operands → Bool
  operands_fit x = all_fit (operand_fits expression_fits left) x.1

  behind_operand : (operator : LogicalOperator) (others : List (Operand Expression)) (ls r : List Lexeme)
      → Leads (flat_map (operand_written expression_written operator) others) ls r → ends_expression r ≡ true → ends_relation ls ≡ true
  behind_operand operator [] ls r l end = subst (λ (z : List Lexeme). ends_relation z ≡ true) (sym l) (ends_operand r end)
  behind_operand operator (o ∷ others) ls r l end =
      let t = leads_through (operand_written expression_written operator o) (flat_map (operand_written expression_written operator) others) ls r l in
      operand_apart operator ls (begins_operand operator o ls t.middle t.first)

  -- a relation does not begin with a second word of an operator
  pub no_second : (e : Expression) (ls m : List Lexeme) → expression_fits e precedence.Relational left ≡ true → Leads (expression_written e) ls m
      → ends_operator ls ≡ true
  no_second e ls m o l =
      both (ap not (by_relation (sees_word (codes "then")) false then_first operator_no_then sign_no_then left e ls m o l))
      (ap not (by_relation (sees_word (codes "else")) false else_first operator_no_else sign_no_else left e ls m o l))

  pub joined_exact : (first : Expression)
      → Rest (λ (x : Operands). formed (form.Logical x.0 first x.1)) Any operands_written operands_fit ends_expression (joined_of left inner first)
  unfolding joined_of starts
  joined_exact first =
      let make : Operands → Expression = λ x. formed (form.Logical x.0 first x.1) in
      let others_written : Operands → List Written = λ x. flat_map (operand_written expression_written x.0) x.1.others in
      let others_fit : Operands → Bool = λ x. list_all (operand_fits expression_fits left) x.1.others in
      respelt make Any
      (λ x.
      logical_written x.0 x.1.first.place ++ (expression_written x.1.first.relation ++ others_written x)) operands_written operands_fit ends_expression
      (joined_of left inner first)
      (plain_before make Any (λ x. expression_written x.1.first.relation ++ others_written x) operands_fit ends_expression
      (λ x. (x.1.first.place, x.0)) logical_delimiter shapeless ends_operator logical_operator_of _
      operator_exact (λ x. refl)
      (λ x ls r p o l end.
      let t = leads_through (expression_written x.1.first.relation) (others_written x) ls r l in
      no_second x.1.first.relation ls t.middle (first_true (expression_fits x.1.first.relation precedence.Relational left) (others_fit x) o) t.first)
      (λ operator. field make (λ x. Any x × (operator ≡ (x.1.first.place, x.0))) others_written others_fit ends_expression
      (λ x. x.1.first.relation) expression_written (λ e. expression_fits e precedence.Relational left) ends_relation
      (relation_of left inner) _ (relation_exact left inner inside)
      (λ x ls r p l end. behind_operand x.0 x.1.others ls r l end)
      (λ second. more operator second first)))
      (λ x. sym (append_assoc (logical_written x.0 x.1.first.place) (expression_written x.1.first.relation) (others_written x)))
    where
      more : (operator : Delimited) (second first : Expression)
          → Rest (λ (x : Operands). formed (form.Logical x.0 first x.1)) (λ x. (Any x × (operator ≡ (x.1.first.place, x.0))) × (second ≡ x.1.first.relation))
          (λ x. flat_map (operand_written expression_written x.0) x.1.others)
          (λ x. list_all (operand_fits expression_fits left) x.1.others) ends_expression
          (items_of (sees_word (logical_text operator.1)) (operand_of left inner operator.1)
          >>= (λ others.
          pure (formed (form.Logical operator.1 first (record { first = record { place = operator.0; relation = second }; others = others })))))
      more operator second first =
          let P : Operands → Type 0 = λ x. (Any x × (operator ≡ (x.1.first.place, x.0))) × (second ≡ x.1.first.relation) in
          respelt_where (λ (x : Operands). formed (form.Logical x.0 first x.1)) P (λ x. flat_map (operand_written expression_written operator.1) x.1.others)
          (λ x. flat_map (operand_written expression_written x.0) x.1.others)
          (λ x. list_all (operand_fits expression_fits left) x.1.others) ends_expression _
          (closing (λ (x : Operands). formed (form.Logical x.0 first x.1)) P ends_expression (λ x. x.1.others)
          (flat_map (operand_written expression_written operator.1)) (list_all (operand_fits expression_fits left))
          (items_of (sees_word (logical_text operator.1)) (operand_of left inner operator.1))
          (λ others. (operator.1, record { first = record { place = operator.0; relation = second }; others = others }))
          (listed (sees_word (logical_text operator.1)) (operand_written expression_written operator.1)
          (operand_fits expression_fits left) ends_relation ends_expression (operand_of left inner operator.1)
          (operand_exact operator.1) (begins_operand operator.1) refl (operand_apart operator.1) ends_operand (no_operand operator.1))
          (λ others. ((tt, refl), refl)) (λ others. refl) (λ others x p e. rw (p.0.1, p.1, e) refl))
          (λ x p. ap (λ (z : Delimited). flat_map (operand_written expression_written z.1) x.1.others) p.0.1)

  logical_level : (f : ExpressionForm Expression) → form_fits expression_fits f precedence.Logical left ≡ true
      → Level Operands (λ first x. form.Logical x.0 first x.1) precedence.Relational left f
  logical_level (form.Logical operator first others) o = This first (operator, others) refl
  logical_level (form.Relational a place operator b) o = Tighter o
  logical_level (form.Adding first others) o = Tighter o
  logical_level (form.Signed place sign operand) o = Tighter o
  logical_level (form.Multiplying first others) o = Tighter o
  logical_level (form.Highest place operator operand) o = Tighter o
  logical_level (form.Number place literal) o = Tighter o
  logical_level (form.Text place text) o = Tighter o
  logical_level (form.Null place) o = Tighter o
  logical_level (form.Bracketed place e) o = Tighter o
  logical_level (form.Named name attribute arguments) o = Tighter o

  begins_joined : (x : Operands) (ls r : List Lexeme) → Leads (operands_written x) ls r → joins ls ≡ true
  begins_joined x ls r l =
      let t = leads_through (operand_written expression_written x.0 x.1.first) (flat_map (operand_written expression_written x.0) x.1.others) ls r l in
      by_text x.0 ls (begins_operand x.0 x.1.first ls t.middle t.first)
    where
      by_text : (operator : LogicalOperator) (ls : List Lexeme) → sees_word (logical_text operator) ls ≡ true → joins ls ≡ true
      by_text logical.And ls e = rw e refl
      by_text logical.Or ls e = or_right (sees_word (codes "and") ls) (sees_word (codes "or") ls || sees_word (codes "xor") ls) (rw e refl)
      by_text logical.Xor ls e =
          or_right (sees_word (codes "and") ls) (sees_word (codes "or") ls || sees_word (codes "xor") ls)
          (or_right (sees_word (codes "or") ls) (sees_word (codes "xor") ls) e)
      by_text logical.AndThen ls e = rw e refl
      by_text logical.OrElse ls e = or_right (sees_word (codes "and") ls) (sees_word (codes "or") ls || sees_word (codes "xor") ls) (rw e refl)

  pub logical_exact : Exact expression_written (λ e. expression_fits e precedence.Logical left) ends_expression (logical_of left inner)
  unfolding logical_of
  logical_exact =
      level_exact left precedence.Logical precedence.Relational (λ first x. form.Logical x.0 first x.1) operands_written operands_fit
      ends_relation ends_expression joins (relation_of left inner) (joined_of left inner) (relation_exact left inner inside) joined_exact (λ first x. refl)
      (λ first x. refl) logical_level
      (λ f o. looser precedence.Logical precedence.Relational left f refl o) begins_joined joins_apart ends_operand no_joined
