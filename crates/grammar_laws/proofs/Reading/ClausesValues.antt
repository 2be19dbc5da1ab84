-- What an expression begins with (4.4).
use Rattle.std.proofs.Common.{◌≡◌, ℕ, zero, suc, ◌+◌, ◌<◌, ◌≤◌, Bool, true, List, [], ◌∷◌, ◌++◌, length, refl, subst, arith, codes}
use Rattle.std.specs.Prelude.{flat_map}
use Rattle.ann_base.specs.declared.places.Place.{Place}
use Rattle.ada_lex.specs.declared.tokens.Kind.TheVariants as kinds
use Rattle.ada_lex.specs.Reserved.{is_reserved}
use Rattle.ada_tree.specs.declared.operators.LogicalOperator.{LogicalOperator}
use Rattle.ada_tree.specs.declared.operators.LogicalOperator.TheVariants as logical
use Rattle.ada_tree.specs.declared.operators.Sign.{Sign}
use Rattle.ada_tree.specs.declared.operators.Sign.TheVariants as sign
use Rattle.ada_tree.specs.declared.operators.HighestOperator.{HighestOperator}
use Rattle.ada_tree.specs.declared.operators.HighestOperator.TheVariants as highest
use Rattle.ada_tree.specs.declared.expressions.Expression.{Expression}
use Rattle.ada_tree.specs.declared.expressions.Expression.TheViews.{out-Expression}
use Rattle.ada_tree.specs.declared.expressions.ExpressionForm.{ExpressionForm}
use Rattle.ada_tree.specs.declared.expressions.ExpressionForm.TheVariants as form
use Rattle.ada_tree.specs.Written.{Written, Lexeme, word_at, delimiter, delimiter_at, number_at, text_at, all_written, behind, optional, one_identifier}
use Rattle.ada_tree.specs.SpellingExpressions.{logical_written, relational_text, sign_text, highest_text, designator_written, arguments_written}
use Rattle.ada_tree.specs.SpellingExpressions.{operand_written, addend_written, multiplied_written, form_written, expression_written}
use Rattle.ada_tree.proofs.ExpressionFolds.{expression_is_written}
use Rattle.ada_grammar.specs.Reading.{sees_identifier, starts}
use Rattle.grammar_laws.specs.Leads.{Leads}
use Rattle.grammar_laws.proofs.Reading.Leading.{leads_through, leads_length}
use Rattle.grammar_laws.proofs.Reading.Exact.{first_is}
use Rattle.grammar_laws.proofs.Reading.Tokens.{not_word, sees_identifier_first}
use Rattle.grammar_laws.proofs.Reading.Names.{not_delimiter}
use Rattle.grammar_laws.proofs.Reading.ClausesEnds.{identifier_no_word, identifier_no_delimiter}

logical_takes : (o : LogicalOperator) (p : Place) (a b : List Written) → 1 ≤ length ((logical_written o p ++ a) ++ b)
logical_takes logical.And p a b = omega arith
logical_takes logical.Or p a b = omega arith
logical_takes logical.Xor p a b = omega arith
logical_takes logical.AndThen p a b = omega arith
logical_takes logical.OrElse p a b = omega arith

-- A test of the next tokens that has the same answer for each token that may begin one has it for every expression.
module _ (test : List Lexeme → Bool) (v : Bool)
    (identifiers : (ls : List Lexeme) → sees_identifier ls ≡ true → test ls ≡ v)
    (numbers : (text : List ℕ) (p : Place) (ls : List Lexeme) → test (record { kind = kinds.Number; text = text; place = p } ∷ ls) ≡ v)
    (texts : (text : List ℕ) (p : Place) (ls : List Lexeme) → test (record { kind = kinds.Text; text = text; place = p } ∷ ls) ≡ v)
    (nulls : (p : Place) (ls : List Lexeme) → test (record { kind = kinds.Word; text = codes "null"; place = p } ∷ ls) ≡ v)
    (brackets : (p : Place) (ls : List Lexeme) → test (record { kind = kinds.Delimiter; text = codes "("; place = p } ∷ ls) ≡ v)
    (signs : (s : Sign) (p : Place) (ls : List Lexeme) → test (record { kind = kinds.Delimiter; text = sign_text s; place = p } ∷ ls) ≡ v)
    (operators : (o : HighestOperator) (p : Place) (ls : List Lexeme) → test (record { kind = kinds.Word; text = highest_text o; place = p } ∷ ls) ≡ v) where
  abbrev OfAll : ℕ → Type 0
  OfAll fuel = (e : Expression) (ls m : List Lexeme) → length ls < fuel + length m → Leads (expression_written e) ls m → test ls ≡ v

  -- the first part is shorter
  by_first : (fuel : ℕ) → OfAll fuel → (e : Expression) (w : List Written) (ls m : List Lexeme) → 1 ≤ length w → length ls < suc fuel + length m
      → Leads (expression_written e ++ w) ls m → test ls ≡ v
  by_first fuel all e w ls m some enough l =
      let t = leads_through (expression_written e) w ls m l in
      all e ls t.middle (omega (arith, enough, some, leads_length w t.middle m t.second)) t.first

  by_form : (fuel : ℕ) → OfAll fuel → (f : ExpressionForm Expression) (ls m : List Lexeme) → length ls < suc fuel + length m
      → Leads (form_written expression_written f) ls m → test ls ≡ v
  by_form fuel all (form.Logical operator first others) ls m enough l =
      by_first fuel all first (all_written (operand_written expression_written operator) others) ls m
      (logical_takes operator others.first.place (expression_written others.first.relation)
      (flat_map (operand_written expression_written operator) others.others)) enough l
  by_form fuel all (form.Relational first place operator second) ls m enough l =
      by_first fuel all first (delimiter_at place (relational_text operator) ∷ expression_written second) ls m (omega arith) enough l
  by_form fuel all (form.Adding first others) ls m enough l =
      by_first fuel all first (all_written (addend_written expression_written) others) ls m (omega arith) enough l
  by_form fuel all (form.Signed place s operand) ls m enough l =
      first_is test v (delimiter_at place (sign_text s)) (λ l ls. signs s l.place ls) (expression_written operand) ls m l
  by_form fuel all (form.Multiplying first others) ls m enough l =
      by_first fuel all first (all_written (multiplied_written expression_written) others) ls m (omega arith) enough l
  by_form fuel all (form.Highest place o operand) ls m enough l =
      first_is test v (word_at place (highest_text o)) (λ l ls. operators o l.place ls) (expression_written operand) ls m l
  by_form fuel all (form.Number place literal) ls m enough l = first_is test v (number_at place literal) (λ l ls. numbers literal l.place ls) [] ls m l
  by_form fuel all (form.Text place text) ls m enough l = first_is test v (text_at place text) (λ l ls. texts text l.place ls) [] ls m l
  by_form fuel all (form.Null place) ls m enough l = first_is test v (word_at place (codes "null")) (λ l ls. nulls l.place ls) [] ls m l
  by_form fuel all (form.Bracketed place inner) ls m enough l =
      first_is test v (delimiter_at place (codes "(")) (λ l ls. brackets l.place ls) (expression_written inner ++ delimiter (codes ")") ∷ []) ls m l
  by_form fuel all (form.Named name attribute arguments) ls m enough l =
      identifiers ls
      (sees_identifier_first name.parts.first
      (flat_map (behind (delimiter (codes ".")) one_identifier) name.parts.others
      ++ (optional designator_written attribute ++ arguments_written expression_written arguments)) ls m l)

  of_all : (fuel : ℕ) → OfAll fuel
  of_all zero e ls m enough l = absurd (omega (arith, enough, leads_length (expression_written e) ls m l))
  of_all (suc fuel) e ls m enough l =
      by_form fuel (of_all fuel) (out-Expression e).form ls m enough (subst (λ (ws : List Written). Leads ws ls m) (expression_is_written e) l)

  pub value_begins : (e : Expression) (ls m : List Lexeme) → Leads (expression_written e) ls m → test ls ≡ v
  value_begins e ls m l = of_all (suc (length ls)) e ls m (omega arith) l

-- ---- some tests

-- no word that begins an expression, and no delimiter

pub value_is_no_until : (e : Expression) (ls r : List Lexeme) → Leads (expression_written e) ls r → not_word (codes "until") ls ≡ true
unfolding starts is_reserved
value_is_no_until e ls r l =
    value_begins (not_word (codes "until")) true (λ ls e. identifier_no_word (codes "until") (λ p ls. refl) ls e) (λ t p ls. refl) (λ t p ls. refl)
    (λ p ls. refl) (λ p ls. refl) (λ s p ls. refl) no_operator e ls r l
  where
    no_operator : (o : HighestOperator) (p : Place) (ls : List Lexeme)
        → not_word (codes "until") (record { kind = kinds.Word; text = highest_text o; place = p } ∷ ls) ≡ true
    no_operator highest.Absolute p ls = refl
    no_operator highest.Not p ls = refl

pub value_is_no_reverse : (e : Expression) (ls r : List Lexeme) → Leads (expression_written e) ls r → not_word (codes "reverse") ls ≡ true
unfolding starts is_reserved
value_is_no_reverse e ls r l =
    value_begins (not_word (codes "reverse")) true (λ ls e. identifier_no_word (codes "reverse") (λ p ls. refl) ls e) (λ t p ls. refl) (λ t p ls. refl)
    (λ p ls. refl) (λ p ls. refl) (λ s p ls. refl) no_operator e ls r l
  where
    no_operator : (o : HighestOperator) (p : Place) (ls : List Lexeme)
        → not_word (codes "reverse") (record { kind = kinds.Word; text = highest_text o; place = p } ∷ ls) ≡ true
    no_operator highest.Absolute p ls = refl
    no_operator highest.Not p ls = refl

pub value_is_no_others : (e : Expression) (ls r : List Lexeme) → Leads (expression_written e) ls r → not_word (codes "others") ls ≡ true
unfolding starts is_reserved
value_is_no_others e ls r l =
    value_begins (not_word (codes "others")) true (λ ls e. identifier_no_word (codes "others") (λ p ls. refl) ls e) (λ t p ls. refl) (λ t p ls. refl)
    (λ p ls. refl) (λ p ls. refl) (λ s p ls. refl) no_operator e ls r l
  where
    no_operator : (o : HighestOperator) (p : Place) (ls : List Lexeme)
        → not_word (codes "others") (record { kind = kinds.Word; text = highest_text o; place = p } ∷ ls) ≡ true
    no_operator highest.Absolute p ls = refl
    no_operator highest.Not p ls = refl

pub value_is_no_semicolon : (e : Expression) (ls r : List Lexeme) → Leads (expression_written e) ls r → not_delimiter (codes ";") ls ≡ true
unfolding starts
value_is_no_semicolon e ls r l =
    value_begins (not_delimiter (codes ";")) true (λ ls e. identifier_no_delimiter (codes ";") ls e) (λ t p ls. refl) (λ t p ls. refl) (λ p ls. refl)
    (λ p ls. refl) no_sign (λ o p ls. refl) e ls r l
  where
    no_sign : (s : Sign) (p : Place) (ls : List Lexeme)
        → not_delimiter (codes ";") (record { kind = kinds.Delimiter; text = sign_text s; place = p } ∷ ls) ≡ true
    no_sign sign.Plus p ls = refl
    no_sign sign.Minus p ls = refl

-- before the rest
value_before : (test : List Lexeme → Bool) (e : Expression) → ((ls r : List Lexeme) → Leads (expression_written e) ls r → test ls ≡ true)
    → (w : List Written) (ls r : List Lexeme) → Leads (expression_written e ++ w) ls r → test ls ≡ true
value_before test e one w ls r l = let t = leads_through (expression_written e) w ls r l in one ls t.middle t.first

pub value_no_until : (e : Expression) (w : List Written) (ls r : List Lexeme) → Leads (expression_written e ++ w) ls r → not_word (codes "until") ls ≡ true
value_no_until e w ls r l = value_before (not_word (codes "until")) e (value_is_no_until e) w ls r l

pub value_no_reverse : (e : Expression) (w : List Written) (ls r : List Lexeme) → Leads (expression_written e ++ w) ls r → not_word (codes "reverse") ls ≡ true
value_no_reverse e w ls r l = value_before (not_word (codes "reverse")) e (value_is_no_reverse e) w ls r l

pub value_no_others : (e : Expression) (w : List Written) (ls r : List Lexeme) → Leads (expression_written e ++ w) ls r → not_word (codes "others") ls ≡ true
value_no_others e w ls r l = value_before (not_word (codes "others")) e (value_is_no_others e) w ls r l
