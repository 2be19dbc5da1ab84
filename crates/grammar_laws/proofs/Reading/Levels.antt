-- The levels of precedence, one on top of another.
use Rattle.std.proofs.Common.{◌≡◌, ℕ, Bool, true, false, cond, ◌&&◌, List, ◌++◌, refl, sym, ap, subst, ◌∙◌}
use Rattle.ada_tree.specs.declared.expressions.Precedence.{Precedence}
use Rattle.ada_tree.specs.declared.expressions.Expression.{Expression}
use Rattle.ada_tree.specs.declared.expressions.Expression.TheViews.{out-Expression}
use Rattle.ada_tree.specs.declared.expressions.ExpressionForm.{ExpressionForm}
use Rattle.ada_tree.specs.Written.{Written, Lexeme}
use Rattle.ada_tree.specs.SpellingExpressions.{form_written, expression_written}
use Rattle.ada_tree.specs.ShapeExpressions.{form_fits, expression_fits}
use Rattle.ada_grammar.specs.Reading.{Read, Parser, ◌>>=◌, pure, choose}
use Rattle.ada_grammar.specs.ReadingExpressions.{formed}
use Rattle.grammar_laws.specs.Leads.{Leads}
use Rattle.grammar_laws.proofs.Reading.Leading.{leads_both, leads_through}
use Rattle.grammar_laws.proofs.Reading.Exact.{done, pair_of, parts, Found, Rest, Any, Exact, first_true, second_true, both}
use Rattle.grammar_laws.proofs.Reading.Primaries.{formed_is_written, formed_is_fit, formed_again}
use Rattle.grammar_laws.proofs.Reading.PrimaryForms.{by_forms, by_expression}

-- a form of this level, by its first operand and what stands behind it, or one that binds more tightly
pub data Level (J : Type 0) (make : Expression → J → ExpressionForm Expression) (lower : Precedence) (left : ℕ) (f : ExpressionForm Expression) : Type 0 where
  This : (first : Expression) (others : J) → make first others ≡ f → Level J make lower left f
  Tighter : form_fits expression_fits f lower left ≡ true → Level J make lower left f

module _ {J : Type 0} (left : ℕ) (upper lower : Precedence) (make : Expression → J → ExpressionForm Expression)
    (w : J → List Written) (ok : J → Bool) (ends_lower ends : List Lexeme → Bool) (more : List Lexeme → Bool) (p : Parser Expression)
    (rest : Expression → Parser Expression)
    (one : Exact expression_written (λ e. expression_fits e lower left) ends_lower p)
    (behind : (first : Expression) → Rest (λ j. formed (make first j)) Any w ok ends (rest first))
    (written : (first : Expression) (j : J) → form_written expression_written (make first j) ≡ expression_written first ++ w j)
    (shape : (first : Expression) (j : J) → form_fits expression_fits (make first j) upper left ≡ (expression_fits first lower left && ok j))
    (level : (f : ExpressionForm Expression) → form_fits expression_fits f upper left ≡ true → Level J make lower left f)
    (loosen : (f : ExpressionForm Expression) → form_fits expression_fits f lower left ≡ true → form_fits expression_fits f upper left ≡ true)
    (begun : (j : J) (ls r : List Lexeme) → Leads (w j) ls r → more ls ≡ true)
    (apart : (r : List Lexeme) → more r ≡ true → ends_lower r ≡ true)
    (closed : (r : List Lexeme) → ends r ≡ true → ends_lower r ≡ true)
    (over : (r : List Lexeme) → ends r ≡ true → more r ≡ false) where
  abbrev whole : Parser Expression
  whole = p >>= (λ first. choose more (rest first) (pure first))

  abbrev fits : ExpressionForm Expression → Bool
  fits f = form_fits expression_fits f upper left

  alone : (first : Expression) (ls m : List Lexeme) (x : Expression) (r : List Lexeme) → Leads (expression_written first) ls m
      → expression_fits first lower left ≡ true → done first m ≡ done x r
      → Found formed Any (form_written expression_written) fits x ls r
  alone first ls m x r l o e =
      let is = pair_of first x m r e in
      let f = (out-Expression first).form in
      let again = formed_again first in
      record {
        item = f;
        is = again ∙ is.0;
        fits = tt;
        leads =
            subst (λ (ws : List Written). Leads ws ls r) (sym (ap expression_written again) ∙ formed_is_written f)
            (subst (λ (z : List Lexeme). Leads (expression_written first) ls z) is.1 l);
        shaped = loosen f (sym (formed_is_fit f lower left) ∙ (ap (λ z. expression_fits z lower left) again ∙ o));
      }

  level_sound : (ls : List Lexeme) (x : Expression) (r : List Lexeme) → whole ls ≡ done x r → Found formed Any (form_written expression_written) fits x ls r
  level_sound ls x r e =
      let s = parts (p ls) (λ first. choose more (rest first) (pure first)) x r e in
      let a = one.sound ls s.value s.rest s.is in
      by_test ls x r s.value s.rest (more s.rest) (subst (λ (z : Expression). Leads (expression_written z) ls s.rest) a.is a.leads)
      (subst (λ (z : Expression). expression_fits z lower left ≡ true) a.is a.shaped) s.then
    where
      by_test : (ls : List Lexeme) (x : Expression) (r : List Lexeme) (first : Expression) (m : List Lexeme) (v : Bool) → Leads (expression_written first) ls m
          → expression_fits first lower left ≡ true
          → cond {A = Read Expression} v (rest first m) (done first m) ≡ done x r → Found formed Any (form_written expression_written) fits x ls r
      by_test ls x r first m true l o e =
          let f = (behind first).sound m x r e in
          record {
            item = make first f.item;
            is = f.is;
            fits = tt;
            leads =
                subst (λ (ws : List Written). Leads ws ls r) (sym (written first f.item)) (leads_both (expression_written first) (w f.item) ls m r l f.leads);
            shaped = shape first f.item ∙ both o f.shaped;
          }
      by_test ls x r first m false l o e = alone first ls m x r l o e

  level_complete : (f : ExpressionForm Expression) (ls r : List Lexeme) → fits f ≡ true → Leads (form_written expression_written f) ls r → ends r ≡ true
      → whole ls ≡ done (formed f) r
  level_complete f ls r o l end = by_level f ls r (level f o) o l end
    where
      by_level : (f : ExpressionForm Expression) (ls r : List Lexeme) → Level J make lower left f → fits f ≡ true
          → Leads (form_written expression_written f) ls r → ends r ≡ true → whole ls ≡ done (formed f) r
      by_level f ls r (This first j is) o l end =
          let o' : (expression_fits first lower left && ok j) ≡ true = sym (shape first j) ∙ (ap fits is ∙ o) in
          let l' : Leads (expression_written first ++ w j) ls r =
          subst (λ (ws : List Written). Leads ws ls r) (sym (ap (form_written expression_written) is) ∙ written first j) l in
          let t = leads_through (expression_written first) (w j) ls r l' in
          let a =
          one.complete first ls t.middle tt (first_true (expression_fits first lower left) (ok j) o') t.first
          (apart t.middle (begun j t.middle r t.second)) in
          let b = (behind first).complete j t.middle r tt (second_true (expression_fits first lower left) (ok j) o') t.second end in
          rw (a, begun j t.middle r t.second) (b ∙ ap (λ z. done (formed z) r) is)
      by_level f ls r (Tighter o') o l end = rw (by_expression lower left ends_lower p one f ls r o' l (closed r end), over r end) refl

  pub level_exact : Exact expression_written (λ e. expression_fits e upper left) ends whole
  level_exact = by_forms upper left ends whole (record { sound = record { by = level_sound }; complete = level_complete })
