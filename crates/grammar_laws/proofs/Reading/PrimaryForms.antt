-- Primaries (4.4): what is read is what is written.
use Rattle.std.proofs.Common.{◌≡◌, ℕ, zero, suc, Bool, true, false, ◌&&◌, List, [], ◌∷◌, ◌++◌, refl, sym, subst, ◌∙◌, codes, arith}
use Rattle.std.proofs.lemmas.Bool.{false≢true}
use Rattle.std.specs.Prelude.{Option, Some, None, flat_map}
use Rattle.ann_base.specs.declared.places.Place.{Place}
use Rattle.ada_tree.specs.declared.names.Name.{Name}
use Rattle.ada_tree.specs.declared.expressions.Precedence.{Precedence}
use Rattle.ada_tree.specs.declared.expressions.Precedence.TheVariants as precedence
use Rattle.ada_tree.specs.declared.expressions.Expression.{Expression}
use Rattle.ada_tree.specs.declared.expressions.Expression.TheViews.{out-Expression}
use Rattle.ada_tree.specs.declared.expressions.ExpressionForm.{ExpressionForm}
use Rattle.ada_tree.specs.declared.expressions.ExpressionForm.TheVariants as form
use Rattle.ada_tree.specs.declared.expressions.AttributeDesignator.{AttributeDesignator}
use Rattle.ada_tree.specs.declared.expressions.Argument.{Argument}
use Rattle.ada_tree.specs.Written.{Written, Lexeme, word_at, delimiter, delimiter_at, number_at, text_at}
use Rattle.ada_tree.specs.Written.{identifier_written, one_identifier, behind, optional, name_written}
use Rattle.ada_tree.specs.SpellingExpressions.{attribute_text, designator_written, arguments_written, form_written, expression_written}
use Rattle.ada_tree.specs.ShapeExpressions.{within, optional_fits, arguments_fit, form_fits, expression_fits}
use Rattle.ada_grammar.specs.Reading.{Parser, ◌>>=◌, pure, starts, is_numeral, is_string, sees_word, sees_delimiter, the_word, a_number, a_text, name_of}
use Rattle.ada_grammar.specs.ReadingExpressions.{formed, designator_of, arguments_of, named_of, bracketed_of, primary_of}
use Rattle.grammar_laws.specs.Leads.{Leads}
use Rattle.grammar_laws.proofs.Reading.Leading.{as_written}
use Rattle.grammar_laws.proofs.Reading.Exact.{done, Rest, Any, itself, Exact, first_true, second_true, ready, last, plain, narrower, closing, first_is}
use Rattle.grammar_laws.proofs.Reading.Tokens.{always, shapeless, word_exact, number_exact, text_exact}
use Rattle.grammar_laws.proofs.Reading.Tokens.{delimiter_then, sees_delimiter_at_first, identifier_no_word}
use Rattle.grammar_laws.proofs.Reading.ReservedWords.{reserved_null}
use Rattle.grammar_laws.proofs.Reading.Names.{not_delimiter, name_exact}
use Rattle.grammar_laws.proofs.Reading.Choices.{Sound, either, one_form, opened}
use Rattle.grammar_laws.proofs.Reading.Ends.{ends_designated, ends_expression, ends_arguments}
use Rattle.grammar_laws.proofs.Reading.Primaries.{ReadsInside, formed_is_written, formed_is_fit, formed_again, designator_exact, arguments_read}

abbrev pub Inside : ℕ → Parser Expression → Type 0
Inside m inner = Exact expression_written (λ e. expression_fits e precedence.Logical m) ends_expression inner

pub one_level : (n m : ℕ) → suc n ≡ suc m → n ≡ m
one_level n m e = omega (arith, e)

inside_at : (left : ℕ) (inner : Parser Expression) → ReadsInside left inner → (m : ℕ) → left ≡ suc m → Inside m inner
inside_at zero inner inside m e = absurd cc
inside_at (suc n) inner inside m e = subst (λ (k : ℕ). Inside k inner) (one_level n m e) inside

-- ---- an expression as its form

pub record AsForm (fits : ExpressionForm Expression → Bool) (ends : List Lexeme → Bool) (p : Parser Expression) : Type 0 where
  pub sound : Sound formed (form_written expression_written) fits p
  pub complete : (f : ExpressionForm Expression) (ls r : List Lexeme) → fits f ≡ true → Leads (form_written expression_written f) ls r → ends r ≡ true
      → p ls ≡ done (formed f) r

-- what is known of forms is known of expressions
pub by_forms : (least : Precedence) (left : ℕ) (ends : List Lexeme → Bool) (p : Parser Expression) → AsForm (λ f. form_fits expression_fits f least left) ends p
    → Exact expression_written (λ e. expression_fits e least left) ends p
by_forms least left ends p law = record {
  sound = λ ls x r e.
      let f = law.sound.by ls x r e in
      record {
        item = x;
        is = refl;
        fits = tt;
        leads =
            subst (λ (y : Expression). Leads (expression_written y) ls r) f.is
            (subst (λ (ws : List Written). Leads ws ls r) (sym (formed_is_written f.item)) f.leads);
        shaped = subst (λ (y : Expression). expression_fits y least left ≡ true) f.is (formed_is_fit f.item least left ∙ f.shaped);
      };
  complete = λ e ls r q o l end. by_form (out-Expression e).form e ls r (formed_again e) o l end;
}
  where
    by_form : (f : ExpressionForm Expression) (e : Expression) (ls r : List Lexeme) → formed f ≡ e → expression_fits e least left ≡ true
        → Leads (expression_written e) ls r → ends r ≡ true → p ls ≡ done e r
    by_form f e ls r is o l end =
        subst (λ (y : Expression). p ls ≡ done y r) is
        (law.complete f ls r
        (sym (formed_is_fit f least left) ∙ subst (λ (y : Expression). expression_fits y least left ≡ true) (sym is) o)
        (subst (λ (ws : List Written). Leads ws ls r) (formed_is_written f) (subst (λ (y : Expression). Leads (expression_written y) ls r) (sym is) l)) end)

pub by_expression : (least : Precedence) (left : ℕ) (ends : List Lexeme → Bool) (p : Parser Expression)
    → Exact expression_written (λ e. expression_fits e least left) ends p
    → (f : ExpressionForm Expression) (ls r : List Lexeme) → form_fits expression_fits f least left ≡ true → Leads (form_written expression_written f) ls r
    → ends r ≡ true → p ls ≡ done (formed f) r
by_expression least left ends p law f ls r o l end =
    law.complete (formed f) ls r tt (formed_is_fit f least left ∙ o) (subst (λ (ws : List Written). Leads ws ls r) (sym (formed_is_written f)) l) end

module _ (left : ℕ) (inner : Parser Expression) (inside : ReadsInside left inner) where
  -- "(" expression ")"
  bracketed_exact : Rest (λ (x : Place × Expression). formed (form.Bracketed x.0 x.1)) Any
      (λ x. delimiter_at x.0 (codes "(") ∷ (expression_written x.1 ++ delimiter (codes ")") ∷ []))
      (λ x. within left (expression_fits x.1 precedence.Logical)) always (bracketed_of left inner)
  unfolding bracketed_of starts
  bracketed_exact =
      let make : Place × Expression → Expression = λ x. formed (form.Bracketed x.0 x.1) in
      opened left make Any (λ x. expression_written x.1 ++ delimiter (codes ")") ∷ []) (λ x n. expression_fits x.1 precedence.Logical n) always (λ x. x.0) _
      (λ m e a. last make (λ x. Any x × (a ≡ x.0)) (λ x. delimiter (codes ")") ∷ []) always (λ x. x.1) expression_written
      (λ y. expression_fits y precedence.Logical m) ends_expression inner _
      (inside_at left inner inside m e)
      (λ x ls r p l end. first_is ends_expression true (delimiter (codes ")")) (λ k ks. refl) [] ls r l)
      (λ y. delimiter_then make (λ x. (Any x × (a ≡ x.0)) × (y ≡ x.1)) (λ x. []) (λ x. true) always (codes ")") _
      (ready make (λ x. (Any x × (a ≡ x.0)) × (y ≡ x.1)) always (a, y) ((tt, refl), refl) (λ x p. rw (p.0.1, p.1) refl))))

  -- name ["'" ATTRIBUTE] ["(" argument {"," argument} ")"]
  abbrev Parts' : Type 0
  Parts' = Name × (Option AttributeDesignator × List (Argument Expression))

  abbrev behind_name : Parts' → List Written
  behind_name x = optional designator_written x.1.0 ++ arguments_written expression_written x.1.1

  no_point : (test : List Lexeme → Bool)
      → ((k : Lexeme) (ks : List Lexeme) → test (as_written (delimiter (codes "'")) k ∷ ks) ≡ true)
      → ((k : Lexeme) (ks : List Lexeme) → test (as_written (delimiter (codes "(")) k ∷ ks) ≡ true)
      → (d : Option AttributeDesignator) (a : List (Argument Expression)) (ls r : List Lexeme)
      → Leads (optional designator_written d ++ arguments_written expression_written a) ls r → test r ≡ true → test ls ≡ true
  no_point test tick bracket (Some d) a ls r l end =
      first_is test true (delimiter (codes "'")) tick (word_at d.place (attribute_text d.attribute) ∷ arguments_written expression_written a) ls r l
  no_point test tick bracket None [] ls r l end = subst (λ (z : List Lexeme). test z ≡ true) (sym l) end
  no_point test tick bracket None (x ∷ a) ls r l end = first_is test true (delimiter (codes "(")) bracket _ ls r l

  no_tick : (a : List (Argument Expression)) (ls r : List Lexeme) → Leads (arguments_written expression_written a) ls r → not_delimiter (codes "'") r ≡ true
      → not_delimiter (codes "'") ls ≡ true
  unfolding starts
  no_tick [] ls r l end = subst (λ (z : List Lexeme). not_delimiter (codes "'") z ≡ true) (sym l) end
  no_tick (x ∷ a) ls r l end = first_is (not_delimiter (codes "'")) true (delimiter (codes "(")) (λ k ks. refl) _ ls r l

  ends_name : (r : List Lexeme) → ends_designated r ≡ true → not_delimiter (codes ".") r ≡ true
  ends_name r end = first_true (not_delimiter (codes ".") r) (not_delimiter (codes "'") r && not_delimiter (codes "(") r) end

  ends_tick : (r : List Lexeme) → ends_designated r ≡ true → not_delimiter (codes "'") r ≡ true
  ends_tick r end =
      first_true (not_delimiter (codes "'") r) (not_delimiter (codes "(") r)
      (second_true (not_delimiter (codes ".") r) (not_delimiter (codes "'") r && not_delimiter (codes "(") r) end)

  ends_bracket : (r : List Lexeme) → ends_designated r ≡ true → ends_arguments r ≡ true
  ends_bracket r end =
      second_true (not_delimiter (codes "'") r) (not_delimiter (codes "(") r)
      (second_true (not_delimiter (codes ".") r) (not_delimiter (codes "'") r && not_delimiter (codes "(") r) end)

  named_exact : Rest (λ (x : Parts'). formed (form.Named x.0 x.1.0 x.1.1)) Any (λ x. name_written x.0 ++ behind_name x)
      (λ x. arguments_fit expression_fits left x.1.1) ends_designated (named_of left inner)
  unfolding named_of starts
  named_exact =
      let make : Parts' → Expression = λ x. formed (form.Named x.0 x.1.0 x.1.1) in
      plain make Any behind_name (λ x. arguments_fit expression_fits left x.1.1) ends_designated (λ x. x.0) name_written shapeless
      (not_delimiter (codes ".")) name_of _ name_exact (λ n. refl)
      (λ x ls r p l end. no_point (not_delimiter (codes ".")) (λ k ks. refl) (λ k ks. refl) x.1.0 x.1.1 ls r l (ends_name r end))
      (λ name. plain make (λ x. Any x × (name ≡ x.0)) (λ x. arguments_written expression_written x.1.1)
      (λ x. arguments_fit expression_fits left x.1.1) ends_designated
      (λ x. x.1.0) (optional designator_written) (optional_fits shapeless) (not_delimiter (codes "'")) designator_of _ designator_exact
      (λ d. optional_shapeless d)
      (λ x ls r p l end. no_tick x.1.1 ls r l (ends_tick r end))
      (λ d. closing make (λ x. (Any x × (name ≡ x.0)) × (d ≡ x.1.0)) ends_designated (λ x. x.1.1) (arguments_written expression_written)
      (arguments_fit expression_fits left) (arguments_of left inner)
      (λ a. (name, (d, a)))
      (narrower itself Any (arguments_written expression_written) (arguments_fit expression_fits left) ends_arguments ends_designated (arguments_of left inner)
      (arguments_read left inner inside) ends_bracket)
      (λ a. ((tt, refl), refl)) (λ a. refl) (λ a x p e. rw (p.0.1, p.1, e) refl)))
    where
      optional_shapeless : (d : Option AttributeDesignator) → optional_fits shapeless d ≡ true
      optional_shapeless None = refl
      optional_shapeless (Some d) = refl

  number_form : Rest (λ (x : Place × List ℕ). formed (form.Number x.0 x.1)) Any (λ x. number_at x.0 x.1 ∷ []) shapeless always
      (a_number >>= (λ number. pure (formed (form.Number number.0 number.1))))
  number_form =
      closing (λ (x : Place × List ℕ). formed (form.Number x.0 x.1)) Any always itself (λ x. number_at x.0 x.1 ∷ []) shapeless a_number itself number_exact
      (λ a. tt) (λ a. refl) (λ a x p e. e)

  text_form : Rest (λ (x : Place × List ℕ). formed (form.Text x.0 x.1)) Any (λ x. text_at x.0 x.1 ∷ []) shapeless always
      (a_text >>= (λ text. pure (formed (form.Text text.0 text.1))))
  text_form =
      closing (λ (x : Place × List ℕ). formed (form.Text x.0 x.1)) Any always itself (λ x. text_at x.0 x.1 ∷ []) shapeless a_text itself text_exact (λ a. tt)
      (λ a. refl) (λ a x p e. e)

  null_form : Rest (λ (p : Place). formed (form.Null p)) Any (λ p. word_at p (codes "null") ∷ []) shapeless always
      (the_word (codes "null") >>= (λ place. pure (formed (form.Null place))))
  null_form =
      closing (λ (p : Place). formed (form.Null p)) Any always itself (λ p. word_at p (codes "null") ∷ []) shapeless (the_word (codes "null")) itself
      (word_exact (codes "null")) (λ a. tt) (λ a. refl) (λ a x p e. e)

  abbrev pub fits_primary : ExpressionForm Expression → Bool
  fits_primary f = form_fits expression_fits f precedence.Primary left

  pub primary_sound : Sound formed (form_written expression_written) fits_primary (primary_of left inner)
  unfolding primary_of
  primary_sound =
      either (starts is_numeral) (one_form (λ (x : Place × List ℕ). form.Number x.0 x.1) number_form (λ x. refl) (λ x. refl))
      (either (starts is_string) (one_form (λ (x : Place × List ℕ). form.Text x.0 x.1) text_form (λ x. refl) (λ x. refl))
      (either (sees_word (codes "null")) (one_form (λ (p : Place). form.Null p) null_form (λ p. refl) (λ p. refl))
      (either (sees_delimiter (codes "(")) (one_form (λ (x : Place × Expression). form.Bracketed x.0 x.1) bracketed_exact (λ x. refl) (λ x. refl))
      (one_form (λ (x : Parts'). form.Named x.0 x.1.0 x.1.1) named_exact (λ x. refl) (λ x. refl)))))

  pub primary_complete : (f : ExpressionForm Expression) (ls r : List Lexeme) → fits_primary f ≡ true → Leads (form_written expression_written f) ls r
      → ends_designated r ≡ true → primary_of left inner ls ≡ done (formed f) r
  unfolding primary_of starts
  primary_complete (form.Logical operator first others) ls r o l end = absurd (false≢true o)
  primary_complete (form.Relational a place operator b) ls r o l end = absurd (false≢true o)
  primary_complete (form.Adding first others) ls r o l end = absurd (false≢true o)
  primary_complete (form.Signed place sign operand) ls r o l end = absurd (false≢true o)
  primary_complete (form.Multiplying first others) ls r o l end = absurd (false≢true o)
  primary_complete (form.Highest place operator operand) ls r o l end = absurd (false≢true o)
  primary_complete (form.Number place literal) [] r o l end = absurd l
  primary_complete (form.Number place literal) (l ∷ ls) r o s end =
      rw (first_is (starts is_numeral) true (number_at place literal) (λ k ks. refl) [] (l ∷ ls) r s)
      (number_form.complete (place, literal) (l ∷ ls) r tt refl s refl)
  primary_complete (form.Text place text) [] r o l end = absurd l
  primary_complete (form.Text place text) (l ∷ ls) r o s end =
      rw (
        first_is (starts is_numeral) false (text_at place text) (λ k ks. refl) [] (l ∷ ls) r s,
        first_is (starts is_string) true (text_at place text) (λ k ks. refl) [] (l ∷ ls) r s,
      )
      (text_form.complete (place, text) (l ∷ ls) r tt refl s refl)
  primary_complete (form.Null place) ls r o l end =
      rw (
        first_is (starts is_numeral) false (word_at place (codes "null")) (λ k ks. refl) [] ls r l,
        first_is (starts is_string) false (word_at place (codes "null")) (λ k ks. refl) [] ls r l,
        first_is (sees_word (codes "null")) true (word_at place (codes "null")) (λ k ks. refl) [] ls r l,
      )
      (null_form.complete place ls r tt refl l refl)
  primary_complete (form.Bracketed place e) ls r o l end =
      rw (
        first_is (starts is_numeral) false (delimiter_at place (codes "(")) (λ k ks. refl) _ ls r l,
        first_is (starts is_string) false (delimiter_at place (codes "(")) (λ k ks. refl) _ ls r l,
        first_is (sees_word (codes "null")) false (delimiter_at place (codes "(")) (λ k ks. refl) _ ls r l,
        sees_delimiter_at_first (codes "(") place _ ls r l,
      )
      (bracketed_exact.complete (place, e) ls r tt o l refl)
  primary_complete (form.Named name attribute arguments) ls r o l end =
      let ws = flat_map (behind (delimiter (codes ".")) one_identifier) name.parts.others ++ behind_name (name, (attribute, arguments)) in
      rw (
        first_is (starts is_numeral) false (identifier_written name.parts.first) (λ k ks. refl) ws ls r l,
        first_is (starts is_string) false (identifier_written name.parts.first) (λ k ks. refl) ws ls r l,
        identifier_no_word (codes "null") reserved_null name.parts.first ws ls r l,
        first_is (sees_delimiter (codes "(")) false (identifier_written name.parts.first) (λ k ks. refl) ws ls r l,
      )
      (named_exact.complete (name, (attribute, arguments)) ls r tt o l end)

  pub primary_exact : Exact expression_written (λ e. expression_fits e precedence.Primary left) ends_designated (primary_of left inner)
  primary_exact = by_forms precedence.Primary left ends_designated (primary_of left inner) (record { sound = primary_sound; complete = primary_complete })
