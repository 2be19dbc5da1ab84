-- Sums and relations (4.4).
use Rattle.std.proofs.Common.{◌≡◌, ℕ, Bool, true, false, not, List, [], ◌∷◌, refl, sym, ap, subst, ◌∙◌, codes}
use Rattle.std.specs.Prelude.{flat_map}
use Rattle.std.proofs.lemmas.Bool.{false≢true, not-true}
use Rattle.std.specs.List.{list_all}
use Rattle.ann_base.specs.declared.places.Place.{Place}
use Rattle.ada_tree.specs.declared.names.OneOrMore.{OneOrMore}
use Rattle.ada_tree.specs.declared.operators.RelationalOperator.{RelationalOperator}
use Rattle.ada_tree.specs.declared.operators.RelationalOperator.TheVariants as relational
use Rattle.ada_tree.specs.declared.operators.AddingOperator.{AddingOperator}
use Rattle.ada_tree.specs.declared.operators.AddingOperator.TheVariants as adding
use Rattle.ada_tree.specs.declared.operators.Sign.{Sign}
use Rattle.ada_tree.specs.declared.operators.Sign.TheVariants as signs
use Rattle.ada_tree.specs.declared.operators.HighestOperator.{HighestOperator}
use Rattle.ada_tree.specs.declared.expressions.Precedence.TheVariants as precedence
use Rattle.ada_tree.specs.declared.expressions.Expression.{Expression}
use Rattle.ada_tree.specs.declared.expressions.Expression.TheViews.{out-Expression}
use Rattle.ada_tree.specs.declared.expressions.ExpressionForm.{ExpressionForm}
use Rattle.ada_tree.specs.declared.expressions.ExpressionForm.TheVariants as form
use Rattle.ada_tree.specs.declared.expressions.Addend.{Addend}
use Rattle.ada_tree.specs.Written.{Written, Lexeme, word_at, delimiter_at, identifier_written, all_written}
use Rattle.ada_tree.specs.SpellingExpressions.{relational_text, adding_text, sign_text, highest_text}
use Rattle.ada_tree.specs.SpellingExpressions.{addend_written, multiplied_written, form_written, expression_written}
use Rattle.ada_tree.specs.ShapeExpressions.{all_fit, addend_fits, multiplied_fits, form_fits, expression_fits}
use Rattle.ada_grammar.specs.Reading.{Parser, starts, sees_delimiter, the_delimiter, items_of}
use Rattle.ada_grammar.specs.ReadingExpressions.{formed, compares, adds, relational_of, comparison_of, adding_of, addition_of, term_of}
use Rattle.ada_grammar.specs.ReadingExpressions.{signed_of, first_term_of, addend_of, addition_behind_of, sum_of, compared_of, relation_of}
use Rattle.grammar_laws.specs.Leads.{Leads}
use Rattle.grammar_laws.proofs.Reading.Leading.{leads_through, as_written}
use Rattle.grammar_laws.proofs.Reading.Exact.{done, Found, Rest, Any, itself, Exact, first_true, second_true, field, plain, narrower, closing, first_is, listed}
use Rattle.grammar_laws.proofs.Reading.Tokens.{always, shapeless, delimiter_exact, sees_delimiter_at_first, seen_delimiter}
use Rattle.grammar_laws.proofs.Reading.Choices.{Sound, either, one_form}
use Rattle.grammar_laws.proofs.Reading.Ends.{ends_term, ends_sum, ends_relation}
use Rattle.grammar_laws.proofs.Reading.Primaries.{ReadsInside, formed_is_written, formed_is_fit, formed_again}
use Rattle.grammar_laws.proofs.Reading.PrimaryForms.{by_forms, by_expression}
use Rattle.grammar_laws.proofs.Reading.Levels.{Level, level_exact}
use Rattle.grammar_laws.proofs.Reading.Levels.Level.{This, Tighter}
use Rattle.grammar_laws.proofs.Reading.Terms.{Firsts, factor_first, looser, loosened, either_true, term_exact}

-- ---- the first token of a term is no sign

plus_first : Firsts (sees_delimiter (codes "+")) false
unfolding starts
plus_first = record {
  number = λ p t k ks. refl;
  text = λ p t k ks. refl;
  null = λ p k ks. refl;
  bracket = λ p k ks. refl;
  name = λ i ws ls r l. first_is (sees_delimiter (codes "+")) false (identifier_written i) (λ k ks. refl) ws ls r l;
}

minus_first : Firsts (sees_delimiter (codes "-")) false
unfolding starts
minus_first = record {
  number = λ p t k ks. refl;
  text = λ p t k ks. refl;
  null = λ p k ks. refl;
  bracket = λ p k ks. refl;
  name = λ i ws ls r l. first_is (sees_delimiter (codes "-")) false (identifier_written i) (λ k ks. refl) ws ls r l;
}

operator_no_plus : (p : Place) (operator : HighestOperator) (k : Lexeme) (ks : List Lexeme)
    → sees_delimiter (codes "+") (as_written (word_at p (highest_text operator)) k ∷ ks) ≡ false
unfolding starts
operator_no_plus p operator k ks = refl

operator_no_minus : (p : Place) (operator : HighestOperator) (k : Lexeme) (ks : List Lexeme)
    → sees_delimiter (codes "-") (as_written (word_at p (highest_text operator)) k ∷ ks) ≡ false
unfolding starts
operator_no_minus p operator k ks = refl

module _ (test : List Lexeme → Bool) (v : Bool) (on : Firsts test v)
    (operated : (p : Place) (operator : HighestOperator) (k : Lexeme) (ks : List Lexeme) → test (as_written (word_at p (highest_text operator)) k ∷ ks) ≡ v)
    (left : ℕ) where
  by_factor : (e : Expression) (ls r : List Lexeme) → expression_fits e precedence.Highest left ≡ true → Leads (expression_written e) ls r → test ls ≡ v
  by_factor e ls r o l =
      let f = (out-Expression e).form in
      factor_first test v on operated left f ls r
      (sym (formed_is_fit f precedence.Highest left) ∙ (ap (λ z. expression_fits z precedence.Highest left) (formed_again e) ∙ o))
      (subst (λ (ws : List Written). Leads ws ls r) (sym (ap expression_written (formed_again e)) ∙ formed_is_written f) l)

  pub term_first : (f : ExpressionForm Expression) (ls r : List Lexeme) → form_fits expression_fits f precedence.Multiplying left ≡ true
      → Leads (form_written expression_written f) ls r → test ls ≡ v
  term_first (form.Multiplying first others) ls r o l =
      let t = leads_through (expression_written first) (all_written (multiplied_written expression_written) others) ls r l in
      by_factor first ls t.middle (first_true (expression_fits first precedence.Highest left) (all_fit (multiplied_fits expression_fits left) others) o) t.first
  term_first (form.Logical operator first others) ls r o l = absurd (false≢true o)
  term_first (form.Relational a place operator b) ls r o l = absurd (false≢true o)
  term_first (form.Adding first others) ls r o l = absurd (false≢true o)
  term_first (form.Signed place sign operand) ls r o l = absurd (false≢true o)
  term_first (form.Highest place operator operand) ls r o l = factor_first test v on operated left (form.Highest place operator operand) ls r o l
  term_first (form.Number place literal) ls r o l = factor_first test v on operated left (form.Number place literal) ls r o l
  term_first (form.Text place text) ls r o l = factor_first test v on operated left (form.Text place text) ls r o l
  term_first (form.Null place) ls r o l = factor_first test v on operated left (form.Null place) ls r o l
  term_first (form.Bracketed place e) ls r o l = factor_first test v on operated left (form.Bracketed place e) ls r o l
  term_first (form.Named name attribute arguments) ls r o l = factor_first test v on operated left (form.Named name attribute arguments) ls r o l

-- ---- adding operators (4.5.3)

abbrev pub adding_delimiter : Place × AddingOperator → List Written
adding_delimiter x = delimiter_at x.0 (adding_text x.1) ∷ []

this_adding : (operator : AddingOperator)
    → Rest (λ (p : Place). (p, operator)) Any (λ p. delimiter_at p (adding_text operator) ∷ []) shapeless always (adding_of operator)
unfolding adding_of
this_adding operator =
    closing (λ (p : Place). (p, operator)) Any always itself (λ p. delimiter_at p (adding_text operator) ∷ []) shapeless
    (the_delimiter (adding_text operator)) itself (delimiter_exact (adding_text operator)) (λ a. tt) (λ a. refl) (λ a x p e. e)

addition_sound : Sound itself adding_delimiter shapeless addition_of
unfolding addition_of
addition_sound =
    either (sees_delimiter (codes "+")) (one_form (λ p. (p, adding.Plus)) (this_adding adding.Plus) (λ p. refl) (λ p. refl))
    (either (sees_delimiter (codes "-")) (one_form (λ p. (p, adding.Minus)) (this_adding adding.Minus) (λ p. refl) (λ p. refl))
    (one_form (λ p. (p, adding.Concatenation)) (this_adding adding.Concatenation) (λ p. refl) (λ p. refl)))

addition_complete : (operator : AddingOperator) (p : Place) (ls r : List Lexeme) → Leads (delimiter_at p (adding_text operator) ∷ []) ls r
    → addition_of ls ≡ done (p, operator) r
unfolding addition_of starts
addition_complete adding.Plus p ls r l = rw (sees_delimiter_at_first (codes "+") p [] ls r l) ((this_adding adding.Plus).complete p ls r tt refl l refl)
addition_complete adding.Minus p ls r l =
    rw (first_is (sees_delimiter (codes "+")) false (delimiter_at p (codes "-")) (λ k ks. refl) [] ls r l, sees_delimiter_at_first (codes "-") p [] ls r l)
    ((this_adding adding.Minus).complete p ls r tt refl l refl)
addition_complete adding.Concatenation p ls r l =
    rw (
      first_is (sees_delimiter (codes "+")) false (delimiter_at p (codes "&")) (λ k ks. refl) [] ls r l,
      first_is (sees_delimiter (codes "-")) false (delimiter_at p (codes "&")) (λ k ks. refl) [] ls r l,
    )
    ((this_adding adding.Concatenation).complete p ls r tt refl l refl)

addition_exact : Exact adding_delimiter shapeless always addition_of
addition_exact = record { sound = addition_sound.by; complete = λ x ls r q o l end. addition_complete x.1 x.0 ls r l }

begins_adding : (operator : AddingOperator) (p : Place) (ws : List Written) (ls r : List Lexeme) → Leads (delimiter_at p (adding_text operator) ∷ ws) ls r
    → adds ls ≡ true
unfolding starts
begins_adding adding.Plus p ws ls r l = first_is adds true (delimiter_at p (codes "+")) (λ k ks. refl) ws ls r l
begins_adding adding.Minus p ws ls r l = first_is adds true (delimiter_at p (codes "-")) (λ k ks. refl) ws ls r l
begins_adding adding.Concatenation p ws ls r l = first_is adds true (delimiter_at p (codes "&")) (λ k ks. refl) ws ls r l

begins_addend : (a : Addend Expression) (ls r : List Lexeme) → Leads (addend_written expression_written a) ls r → adds ls ≡ true
begins_addend a ls r l = begins_adding a.operator a.place (expression_written a.term) ls r l

adds_ends : (r : List Lexeme) → adds r ≡ true → ends_term r ≡ true
unfolding starts
adds_ends r e =
    let F = ends_term r ≡ true in
    either_true F (sees_delimiter (codes "+") r) _ e (λ e. seen_delimiter ends_term true (codes "+") (λ p ls. refl) r e) (λ e.
    either_true F (sees_delimiter (codes "-") r) _ e (λ e. seen_delimiter ends_term true (codes "-") (λ p ls. refl) r e)
    (λ e. seen_delimiter ends_term true (codes "&") (λ p ls. refl) r e))

-- ---- relational operators (4.5.2)

abbrev pub relational_delimiter : Place × RelationalOperator → List Written
relational_delimiter x = delimiter_at x.0 (relational_text x.1) ∷ []

this_relational : (operator : RelationalOperator)
    → Rest (λ (p : Place). (p, operator)) Any (λ p. delimiter_at p (relational_text operator) ∷ []) shapeless always (relational_of operator)
unfolding relational_of
this_relational operator =
    closing (λ (p : Place). (p, operator)) Any always itself (λ p. delimiter_at p (relational_text operator) ∷ []) shapeless
    (the_delimiter (relational_text operator)) itself (delimiter_exact (relational_text operator)) (λ a. tt) (λ a. refl) (λ a x p e. e)

comparison_sound : Sound itself relational_delimiter shapeless comparison_of
unfolding comparison_of
comparison_sound =
    either (sees_delimiter (codes "=")) (one_form (λ p. (p, relational.Equal)) (this_relational relational.Equal) (λ p. refl) (λ p. refl))
    (either (sees_delimiter (codes "/=")) (one_form (λ p. (p, relational.NotEqual)) (this_relational relational.NotEqual) (λ p. refl) (λ p. refl))
    (either (sees_delimiter (codes "<")) (one_form (λ p. (p, relational.Less)) (this_relational relational.Less) (λ p. refl) (λ p. refl))
    (either (sees_delimiter (codes "<=")) (one_form (λ p. (p, relational.LessOrEqual)) (this_relational relational.LessOrEqual) (λ p. refl) (λ p. refl))
    (either (sees_delimiter (codes ">")) (one_form (λ p. (p, relational.Greater)) (this_relational relational.Greater) (λ p. refl) (λ p. refl))
    (one_form (λ p. (p, relational.GreaterOrEqual)) (this_relational relational.GreaterOrEqual) (λ p. refl) (λ p. refl))))))

comparison_complete : (operator : RelationalOperator) (p : Place) (ls r : List Lexeme) → Leads (delimiter_at p (relational_text operator) ∷ []) ls r
    → comparison_of ls ≡ done (p, operator) r
unfolding comparison_of starts
comparison_complete relational.Equal p ls r l =
    rw (sees_delimiter_at_first (codes "=") p [] ls r l) ((this_relational relational.Equal).complete p ls r tt refl l refl)
comparison_complete relational.NotEqual p ls r l =
    rw (first_is (sees_delimiter (codes "=")) false (delimiter_at p (codes "/=")) (λ k ks. refl) [] ls r l, sees_delimiter_at_first (codes "/=") p [] ls r l)
    ((this_relational relational.NotEqual).complete p ls r tt refl l refl)
comparison_complete relational.Less p ls r l =
    rw (
      first_is (sees_delimiter (codes "=")) false (delimiter_at p (codes "<")) (λ k ks. refl) [] ls r l,
      first_is (sees_delimiter (codes "/=")) false (delimiter_at p (codes "<")) (λ k ks. refl) [] ls r l,
      sees_delimiter_at_first (codes "<") p [] ls r l,
    )
    ((this_relational relational.Less).complete p ls r tt refl l refl)
comparison_complete relational.LessOrEqual p ls r l =
    rw (
      first_is (sees_delimiter (codes "=")) false (delimiter_at p (codes "<=")) (λ k ks. refl) [] ls r l,
      first_is (sees_delimiter (codes "/=")) false (delimiter_at p (codes "<=")) (λ k ks. refl) [] ls r l,
      first_is (sees_delimiter (codes "<")) false (delimiter_at p (codes "<=")) (λ k ks. refl) [] ls r l,
      sees_delimiter_at_first (codes "<=") p [] ls r l,
    )
    ((this_relational relational.LessOrEqual).complete p ls r tt refl l refl)
comparison_complete relational.Greater p ls r l =
    rw (
      first_is (sees_delimiter (codes "=")) false (delimiter_at p (codes ">")) (λ k ks. refl) [] ls r l,
      first_is (sees_delimiter (codes "/=")) false (delimiter_at p (codes ">")) (λ k ks. refl) [] ls r l,
      first_is (sees_delimiter (codes "<")) false (delimiter_at p (codes ">")) (λ k ks. refl) [] ls r l,
      first_is (sees_delimiter (codes "<=")) false (delimiter_at p (codes ">")) (λ k ks. refl) [] ls r l,
      sees_delimiter_at_first (codes ">") p [] ls r l,
    )
    ((this_relational relational.Greater).complete p ls r tt refl l refl)
comparison_complete relational.GreaterOrEqual p ls r l =
    rw (
      first_is (sees_delimiter (codes "=")) false (delimiter_at p (codes ">=")) (λ k ks. refl) [] ls r l,
      first_is (sees_delimiter (codes "/=")) false (delimiter_at p (codes ">=")) (λ k ks. refl) [] ls r l,
      first_is (sees_delimiter (codes "<")) false (delimiter_at p (codes ">=")) (λ k ks. refl) [] ls r l,
      first_is (sees_delimiter (codes "<=")) false (delimiter_at p (codes ">=")) (λ k ks. refl) [] ls r l,
      first_is (sees_delimiter (codes ">")) false (delimiter_at p (codes ">=")) (λ k ks. refl) [] ls r l,
    )
    ((this_relational relational.GreaterOrEqual).complete p ls r tt refl l refl)

comparison_exact : Exact relational_delimiter shapeless always comparison_of
comparison_exact = record { sound = comparison_sound.by; complete = λ x ls r q o l end. comparison_complete x.1 x.0 ls r l }

begins_comparison : (operator : RelationalOperator) (p : Place) (ws : List Written) (ls r : List Lexeme)
    → Leads (delimiter_at p (relational_text operator) ∷ ws) ls r → compares ls ≡ true
unfolding starts
begins_comparison relational.Equal p ws ls r l = first_is compares true (delimiter_at p (codes "=")) (λ k ks. refl) ws ls r l
begins_comparison relational.NotEqual p ws ls r l = first_is compares true (delimiter_at p (codes "/=")) (λ k ks. refl) ws ls r l
begins_comparison relational.Less p ws ls r l = first_is compares true (delimiter_at p (codes "<")) (λ k ks. refl) ws ls r l
begins_comparison relational.LessOrEqual p ws ls r l = first_is compares true (delimiter_at p (codes "<=")) (λ k ks. refl) ws ls r l
begins_comparison relational.Greater p ws ls r l = first_is compares true (delimiter_at p (codes ">")) (λ k ks. refl) ws ls r l
begins_comparison relational.GreaterOrEqual p ws ls r l = first_is compares true (delimiter_at p (codes ">=")) (λ k ks. refl) ws ls r l

compares_ends : (r : List Lexeme) → compares r ≡ true → ends_sum r ≡ true
unfolding starts
compares_ends r e =
    let F = ends_sum r ≡ true in
    either_true F (sees_delimiter (codes "=") r) _ e (λ e. seen_delimiter ends_sum true (codes "=") (λ p ls. refl) r e) (λ e.
    either_true F (sees_delimiter (codes "/=") r) _ e (λ e. seen_delimiter ends_sum true (codes "/=") (λ p ls. refl) r e) (λ e.
    either_true F (sees_delimiter (codes "<") r) _ e (λ e. seen_delimiter ends_sum true (codes "<") (λ p ls. refl) r e) (λ e.
    either_true F (sees_delimiter (codes "<=") r) _ e (λ e. seen_delimiter ends_sum true (codes "<=") (λ p ls. refl) r e) (λ e.
    either_true F (sees_delimiter (codes ">") r) _ e (λ e. seen_delimiter ends_sum true (codes ">") (λ p ls. refl) r e)
    (λ e. seen_delimiter ends_sum true (codes ">=") (λ p ls. refl) r e)))))

module _ (left : ℕ) (inner : Parser Expression) (inside : ReadsInside left inner) where
  -- ("+" | "-") term
  signed_exact : (sign : Sign)
      → Rest (λ (x : Place × Expression). formed (form.Signed x.0 sign x.1)) Any (λ x. delimiter_at x.0 (sign_text sign) ∷ expression_written x.1)
      (λ x. expression_fits x.1 precedence.Multiplying left) ends_term (signed_of left inner sign)
  unfolding signed_of
  signed_exact sign =
      let make : Place × Expression → Expression = λ x. formed (form.Signed x.0 sign x.1) in
      plain make Any (λ x. expression_written x.1) (λ x. expression_fits x.1 precedence.Multiplying left) ends_term (λ x. x.0)
      (λ p. delimiter_at p (sign_text sign) ∷ []) shapeless always (the_delimiter (sign_text sign)) _
      (delimiter_exact (sign_text sign)) (λ p. refl) (λ x ls r p l end. refl)
      (λ place. closing make (λ x. Any x × (place ≡ x.0)) ends_term (λ x. x.1) expression_written (λ e. expression_fits e precedence.Multiplying left)
      (term_of left inner) (λ e. (place, e))
      (term_exact left inner inside) (λ e. (tt, refl)) (λ e. refl) (λ e x p q. rw (p.1, q) refl))

  abbrev fits_signed : ExpressionForm Expression → Bool
  fits_signed f = form_fits expression_fits f precedence.Signed left

  term_sound : Sound formed (form_written expression_written) (λ f. form_fits expression_fits f precedence.Multiplying left) (term_of left inner)
  term_sound = record { by = by_term }
    where
      by_term : (ls : List Lexeme) (x : Expression) (r : List Lexeme) → term_of left inner ls ≡ done x r
          → Found formed Any (form_written expression_written) (λ f. form_fits expression_fits f precedence.Multiplying left) x ls r
      by_term ls x r e =
          let a = (term_exact left inner inside).sound ls x r e in
          let f = (out-Expression a.item).form in
          record {
            item = f;
            is = formed_again a.item ∙ a.is;
            fits = tt;
            leads = subst (λ (ws : List Written). Leads ws ls r) (sym (ap expression_written (formed_again a.item)) ∙ formed_is_written f) a.leads;
            shaped =
                sym (formed_is_fit f precedence.Multiplying left) ∙ (ap (λ z. expression_fits z precedence.Multiplying left) (formed_again a.item) ∙ a.shaped);
          }

  first_term_sound : Sound formed (form_written expression_written) fits_signed (first_term_of left inner)
  unfolding first_term_of
  first_term_sound =
      either (sees_delimiter (codes "+"))
      (one_form (λ (x : Place × Expression). form.Signed x.0 signs.Plus x.1) (signed_exact signs.Plus) (λ x. refl) (λ x. refl))
      (either (sees_delimiter (codes "-"))
      (one_form (λ (x : Place × Expression). form.Signed x.0 signs.Minus x.1) (signed_exact signs.Minus) (λ x. refl) (λ x. refl))
      (loosened term_sound (λ f o. looser precedence.Signed precedence.Multiplying left f refl o)))

  no_sign : (f : ExpressionForm Expression) (ls r : List Lexeme) → form_fits expression_fits f precedence.Multiplying left ≡ true
      → Leads (form_written expression_written f) ls r → ends_term r ≡ true
      → first_term_of left inner ls ≡ done (formed f) r
  unfolding first_term_of
  no_sign f ls r o l end =
      rw (
        term_first (sees_delimiter (codes "+")) false plus_first operator_no_plus left f ls r o l,
        term_first (sees_delimiter (codes "-")) false minus_first operator_no_minus left f ls r o l,
      )
      (by_expression precedence.Multiplying left ends_term (term_of left inner) (term_exact left inner inside) f ls r o l end)

  first_term_complete : (f : ExpressionForm Expression) (ls r : List Lexeme) → fits_signed f ≡ true → Leads (form_written expression_written f) ls r
      → ends_term r ≡ true → first_term_of left inner ls ≡ done (formed f) r
  unfolding first_term_of starts
  first_term_complete (form.Logical operator first others) ls r o l end = absurd (false≢true o)
  first_term_complete (form.Relational a place operator b) ls r o l end = absurd (false≢true o)
  first_term_complete (form.Adding first others) ls r o l end = absurd (false≢true o)
  first_term_complete (form.Signed place signs.Plus operand) ls r o l end =
      rw (sees_delimiter_at_first (codes "+") place (expression_written operand) ls r l) ((signed_exact signs.Plus).complete (place, operand) ls r tt o l end)
  first_term_complete (form.Signed place signs.Minus operand) ls r o l end =
      rw (
        first_is (sees_delimiter (codes "+")) false (delimiter_at place (codes "-")) (λ k ks. refl) (expression_written operand) ls r l,
        sees_delimiter_at_first (codes "-") place (expression_written operand) ls r l,
      )
      ((signed_exact signs.Minus).complete (place, operand) ls r tt o l end)
  first_term_complete (form.Multiplying first others) ls r o l end = no_sign (form.Multiplying first others) ls r o l end
  first_term_complete (form.Highest place operator operand) ls r o l end = no_sign (form.Highest place operator operand) ls r o l end
  first_term_complete (form.Number place literal) ls r o l end = no_sign (form.Number place literal) ls r o l end
  first_term_complete (form.Text place text) ls r o l end = no_sign (form.Text place text) ls r o l end
  first_term_complete (form.Null place) ls r o l end = no_sign (form.Null place) ls r o l end
  first_term_complete (form.Bracketed place e) ls r o l end = no_sign (form.Bracketed place e) ls r o l end
  first_term_complete (form.Named name attribute arguments) ls r o l end = no_sign (form.Named name attribute arguments) ls r o l end

  first_term_exact : Exact expression_written (λ e. expression_fits e precedence.Signed left) ends_term (first_term_of left inner)
  first_term_exact = by_forms precedence.Signed left ends_term (first_term_of left inner) (record { sound = first_term_sound; complete = first_term_complete })

  -- ("+" | "-" | "&") term
  addend_exact : Exact (addend_written expression_written) (addend_fits expression_fits left) ends_term (addend_of left inner)
  unfolding addend_of
  addend_exact =
      plain itself Any (λ m. expression_written m.term) (addend_fits expression_fits left) ends_term
      (λ m. (m.place, m.operator)) adding_delimiter shapeless always addition_of _
      addition_exact (λ x. refl) (λ m ls r p l end. refl)
      (λ x. closing itself (λ m. Any m × (x ≡ (m.place, m.operator))) ends_term (λ m. m.term) expression_written
      (λ e. expression_fits e precedence.Multiplying left) (term_of left inner)
      (λ e. record { place = x.0; operator = x.1; term = e }) (term_exact left inner inside) (λ e. (tt, refl)) (λ e. refl) (λ e m p q. rw (p.1, q) refl))

  abbrev Addends : Type 0
  Addends = OneOrMore (Addend Expression)

  ends_addend : (r : List Lexeme) → ends_sum r ≡ true → ends_term r ≡ true
  ends_addend r end = first_true (ends_term r) (not (adds r)) end

  no_addend : (r : List Lexeme) → ends_sum r ≡ true → adds r ≡ false
  no_addend r end = not-true (adds r) (second_true (ends_term r) (not (adds r)) end)

  behind_addend : (others : List (Addend Expression)) (ls r : List Lexeme) → Leads (flat_map (addend_written expression_written) others) ls r
      → ends_sum r ≡ true → ends_term ls ≡ true
  behind_addend [] ls r l end = subst (λ (z : List Lexeme). ends_term z ≡ true) (sym l) (ends_addend r end)
  behind_addend (m ∷ others) ls r l end =
      let t = leads_through (addend_written expression_written m) (flat_map (addend_written expression_written) others) ls r l in
      adds_ends ls (begins_addend m ls t.middle t.first)

  addition_behind : (first : Expression)
      → Rest (λ (xs : Addends). formed (form.Adding first xs)) Any (all_written (addend_written expression_written))
      (all_fit (addend_fits expression_fits left)) ends_sum (addition_behind_of left inner first)
  unfolding addition_behind_of starts
  addition_behind first =
      let make : Addends → Expression = λ xs. formed (form.Adding first xs) in
      field make Any (λ xs. flat_map (addend_written expression_written) xs.others) (λ xs. list_all (addend_fits expression_fits left) xs.others) ends_sum
      (λ xs. xs.first) (addend_written expression_written) (addend_fits expression_fits left) ends_term (addend_of left inner) _ addend_exact
      (λ xs ls r p l end. behind_addend xs.others ls r l end)
      (λ second. closing make (λ xs. Any xs × (second ≡ xs.first)) ends_sum (λ xs. xs.others) (flat_map (addend_written expression_written))
      (list_all (addend_fits expression_fits left))
      (items_of adds (addend_of left inner)) (λ others. record { first = second; others = others })
      (listed adds (addend_written expression_written) (addend_fits expression_fits left) ends_term ends_sum
      (addend_of left inner) addend_exact begins_addend refl adds_ends ends_addend no_addend)
      (λ others. (tt, refl)) (λ others. refl) (λ others xs p e. rw (p.1, e) refl))

  sum_level : (f : ExpressionForm Expression) → form_fits expression_fits f precedence.Adding left ≡ true
      → Level Addends (λ first xs. form.Adding first xs) precedence.Signed left f
  sum_level (form.Adding first others) o = This first others refl
  sum_level (form.Logical operator first others) o = absurd (false≢true o)
  sum_level (form.Relational a place operator b) o = absurd (false≢true o)
  sum_level (form.Signed place sign operand) o = Tighter o
  sum_level (form.Multiplying first others) o = Tighter o
  sum_level (form.Highest place operator operand) o = Tighter o
  sum_level (form.Number place literal) o = Tighter o
  sum_level (form.Text place text) o = Tighter o
  sum_level (form.Null place) o = Tighter o
  sum_level (form.Bracketed place e) o = Tighter o
  sum_level (form.Named name attribute arguments) o = Tighter o

  begins_addends : (xs : Addends) (ls r : List Lexeme) → Leads (all_written (addend_written expression_written) xs) ls r → adds ls ≡ true
  begins_addends xs ls r l =
      let t = leads_through (addend_written expression_written xs.first) (flat_map (addend_written expression_written) xs.others) ls r l in
      begins_addend xs.first ls t.middle t.first

  pub sum_exact : Exact expression_written (λ e. expression_fits e precedence.Adding left) ends_sum (sum_of left inner)
  unfolding sum_of
  sum_exact =
      level_exact left precedence.Adding precedence.Signed (λ first xs. form.Adding first xs) (all_written (addend_written expression_written))
      (all_fit (addend_fits expression_fits left))
      ends_term ends_sum adds (first_term_of left inner) (addition_behind_of left inner) first_term_exact addition_behind (λ first xs. refl)
      (λ first xs. refl) sum_level
      (λ f o. looser precedence.Adding precedence.Signed left f refl o) begins_addends adds_ends ends_addend no_addend

  -- ---- sum [operator sum]

  abbrev Compared : Type 0
  Compared = (Place × RelationalOperator) × Expression

  abbrev compared_written : Compared → List Written
  compared_written x = delimiter_at x.0.0 (relational_text x.0.1) ∷ expression_written x.1

  ends_compared : (r : List Lexeme) → ends_relation r ≡ true → ends_sum r ≡ true
  ends_compared r end = first_true (ends_sum r) (not (compares r)) end

  no_comparison : (r : List Lexeme) → ends_relation r ≡ true → compares r ≡ false
  no_comparison r end = not-true (compares r) (second_true (ends_sum r) (not (compares r)) end)

  compared_exact : (first : Expression)
      → Rest (λ (x : Compared). formed (form.Relational first x.0.0 x.0.1 x.1)) Any compared_written
      (λ x. expression_fits x.1 precedence.Adding left) ends_relation (compared_of left inner first)
  unfolding compared_of
  compared_exact first =
      let make : Compared → Expression = λ x. formed (form.Relational first x.0.0 x.0.1 x.1) in
      plain make Any (λ x. expression_written x.1) (λ x. expression_fits x.1 precedence.Adding left) ends_relation
      (λ x. x.0) relational_delimiter shapeless always comparison_of _
      comparison_exact (λ x. refl) (λ x ls r p l end. refl)
      (λ operator. closing make (λ x. Any x × (operator ≡ x.0)) ends_relation (λ x. x.1) expression_written (λ e. expression_fits e precedence.Adding left)
      (sum_of left inner) (λ e. (operator, e))
      (narrower itself Any expression_written (λ e. expression_fits e precedence.Adding left) ends_sum ends_relation
      (sum_of left inner) sum_exact ends_compared)
      (λ e. (tt, refl)) (λ e. refl) (λ e x p q. rw (p.1, q) refl))

  relation_level : (f : ExpressionForm Expression) → form_fits expression_fits f precedence.Relational left ≡ true
      → Level Compared (λ first x. form.Relational first x.0.0 x.0.1 x.1) precedence.Adding left f
  relation_level (form.Relational a place operator b) o = This a ((place, operator), b) refl
  relation_level (form.Logical operator first others) o = absurd (false≢true o)
  relation_level (form.Adding first others) o = Tighter o
  relation_level (form.Signed place sign operand) o = Tighter o
  relation_level (form.Multiplying first others) o = Tighter o
  relation_level (form.Highest place operator operand) o = Tighter o
  relation_level (form.Number place literal) o = Tighter o
  relation_level (form.Text place text) o = Tighter o
  relation_level (form.Null place) o = Tighter o
  relation_level (form.Bracketed place e) o = Tighter o
  relation_level (form.Named name attribute arguments) o = Tighter o

  pub relation_exact : Exact expression_written (λ e. expression_fits e precedence.Relational left) ends_relation (relation_of left inner)
  unfolding relation_of
  relation_exact =
      level_exact left precedence.Relational precedence.Adding (λ first x. form.Relational first x.0.0 x.0.1 x.1) compared_written
      (λ x. expression_fits x.1 precedence.Adding left)
      ends_sum ends_relation compares (sum_of left inner) (compared_of left inner) sum_exact compared_exact (λ first x. refl) (λ first x. refl) relation_level
      (λ f o. looser precedence.Relational precedence.Adding left f refl o)
      (λ x ls r l. begins_comparison x.0.1 x.0.0 (expression_written x.1) ls r l) compares_ends ends_compared no_comparison
