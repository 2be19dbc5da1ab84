-- Primaries (4.4): attributes, arguments, brackets.
use Rattle.std.proofs.Common.{◌≡◌, ℕ, zero, suc, Bool, true, false, ◌&&◌, List, [], ◌∷◌, ◌++◌, refl, sym, ap, subst, ◌∙◌, codes, arith}
use Rattle.std.proofs.lemmas.Bool.{false≢true, not-true}
use Rattle.std.specs.Prelude.{Option, Some, None, flat_map}
use Rattle.std.specs.List.{list_all}
use Rattle.ann_base.specs.declared.places.Place.{Place}
use Rattle.ada_tree.specs.declared.names.Identifier.{Identifier}
use Rattle.ada_tree.specs.declared.names.OneOrMore.{OneOrMore}
use Rattle.ada_tree.specs.declared.operators.Attribute.{Attribute}
use Rattle.ada_tree.specs.declared.operators.Attribute.TheVariants as attributes
use Rattle.ada_tree.specs.declared.expressions.Precedence.TheVariants as precedence
use Rattle.ada_tree.specs.declared.expressions.Expression.{Expression}
use Rattle.ada_tree.specs.declared.expressions.Expression.TheViews.{out-Expression, out-roll-Expression, roll-out-Expression}
use Rattle.ada_tree.specs.declared.expressions.ExpressionForm.{ExpressionForm}
use Rattle.ada_tree.specs.declared.expressions.ExpressionForm.TheVariants as form
use Rattle.ada_tree.specs.declared.expressions.AttributeDesignator.{AttributeDesignator}
use Rattle.ada_tree.specs.declared.expressions.Argument.{Argument}
use Rattle.ada_tree.specs.Written.{Written, Lexeme, word_at, delimiter, identifier_written, behind, optional}
use Rattle.ada_tree.specs.SpellingExpressions.{attribute_text, designator_written, argument_written, arguments_written, form_written, expression_written}
use Rattle.ada_tree.specs.ShapeExpressions.{optional_fits, argument_fits, arguments_fit, form_fits, expression_fits}
use Rattle.ada_tree.proofs.ExpressionFolds.{expression_is_written, expression_is_fit}
use Rattle.ada_grammar.specs.Reading.{Parser, ◌>>=◌, ◌>>◌, pure, starts, starts_both, is_identifier, is_this_delimiter, sees_word}
use Rattle.ada_grammar.specs.Reading.{sees_delimiter, the_word, the_delimiter, an_identifier, items_of, behind_delimiter_of}
use Rattle.ada_grammar.specs.ReadingExpressions.{formed, this_attribute_of, attribute_word_of, designator_of, names_formal}
use Rattle.ada_grammar.specs.ReadingExpressions.{named_argument_of, argument_of, given_arguments_of, arguments_of}
use Rattle.grammar_laws.specs.Leads.{Leads}
use Rattle.grammar_laws.proofs.Reading.Leading.{spelt_is}
use Rattle.grammar_laws.proofs.Reading.Exact.{done, pair_of, Rest, Any, itself, Exact, first_true, second_true, both}
use Rattle.grammar_laws.proofs.Reading.Exact.{ready, field, last, plain, narrower, closing, optionally, listed}
use Rattle.grammar_laws.proofs.Reading.Tokens.{always, shapeless, word_exact, delimiter_then, identifier_exact, identifier_spelt}
use Rattle.grammar_laws.proofs.Reading.Tokens.{identifier_seen, delimiter_seen, sees_delimiter_first, seen_delimiter}
use Rattle.grammar_laws.proofs.Reading.Names.{not_delimiter}
use Rattle.grammar_laws.proofs.Reading.Choices.{Sound, either, one_form, opened_plain, enclosed_exact}
use Rattle.grammar_laws.proofs.Reading.Ends.{ends_expression, ends_arguments}

and_false : (p : Bool) → (p && false) ≡ false
and_false true = refl
and_false false = refl

-- ---- expressions by their forms

pub formed_is_written : (f : ExpressionForm Expression) → expression_written (formed f) ≡ form_written expression_written f
formed_is_written f = expression_is_written (formed f) ∙ ap (λ x. form_written expression_written x.form) (out-roll-Expression (record { form = f }))

pub formed_is_fit : (f : ExpressionForm Expression) (least : _) (left : ℕ) → expression_fits (formed f) least left ≡ form_fits expression_fits f least left
formed_is_fit f least left =
    expression_is_fit (formed f) least left ∙ ap (λ x. form_fits expression_fits x.form least left) (out-roll-Expression (record { form = f }))

pub formed_again : (e : Expression) → formed (out-Expression e).form ≡ e
formed_again e = roll-out-Expression e

-- ---- attributes

abbrev word_written : AttributeDesignator → List Written
word_written d = word_at d.place (attribute_text d.attribute) ∷ []

pub this_exact : (a : Attribute)
    → Rest (λ (p : Place). record { place = p; attribute = a }) Any (λ p. word_at p (attribute_text a) ∷ []) shapeless always (this_attribute_of a)
unfolding this_attribute_of
this_exact a =
    closing (λ (p : Place). record { place = p; attribute = a }) Any always itself (λ p. word_at p (attribute_text a) ∷ []) shapeless
    (the_word (attribute_text a)) itself
    (word_exact (attribute_text a)) (λ p. tt) (λ p. refl) (λ p i q e. e)

attribute_is : (a : Attribute) → Sound itself word_written shapeless (this_attribute_of a)
attribute_is a = one_form (λ p. record { place = p; attribute = a }) (this_exact a) (λ p. refl) (λ p. refl)

attribute_sound : Sound itself word_written shapeless attribute_word_of
unfolding attribute_word_of
attribute_sound =
    either (sees_word (codes "first")) (attribute_is attributes.First)
    (either (sees_word (codes "last")) (attribute_is attributes.Last)
    (either (sees_word (codes "image")) (attribute_is attributes.Image)
    (either (sees_word (codes "count")) (attribute_is attributes.Count)
    (either (sees_word (codes "identity")) (attribute_is attributes.Identity)
    (attribute_is attributes.Access)))))

attribute_complete : (a : Attribute) (p : Place) (ls r : List Lexeme) → Leads (word_at p (attribute_text a) ∷ []) ls r
    → attribute_word_of ls ≡ done (record { place = p; attribute = a }) r
unfolding attribute_word_of starts
attribute_complete attributes.First p [] r l = absurd l
attribute_complete attributes.First p (l ∷ ls) r s =
    subst (λ (z : Lexeme). attribute_word_of (z ∷ ls) ≡ done (record { place = p; attribute = attributes.First }) r)
    (spelt_is (word_at p (codes "first")) l s.0)
    ((this_exact attributes.First).complete p _ r tt refl (record { kind = refl; text = refl; identifier = tt; place = s.0.place }, s.1) refl)
attribute_complete attributes.Last p [] r l = absurd l
attribute_complete attributes.Last p (l ∷ ls) r s =
    subst (λ (z : Lexeme). attribute_word_of (z ∷ ls) ≡ done (record { place = p; attribute = attributes.Last }) r) (spelt_is (word_at p (codes "last")) l s.0)
    ((this_exact attributes.Last).complete p _ r tt refl (record { kind = refl; text = refl; identifier = tt; place = s.0.place }, s.1) refl)
attribute_complete attributes.Image p [] r l = absurd l
attribute_complete attributes.Image p (l ∷ ls) r s =
    subst (λ (z : Lexeme). attribute_word_of (z ∷ ls) ≡ done (record { place = p; attribute = attributes.Image }) r)
    (spelt_is (word_at p (codes "image")) l s.0)
    ((this_exact attributes.Image).complete p _ r tt refl (record { kind = refl; text = refl; identifier = tt; place = s.0.place }, s.1) refl)
attribute_complete attributes.Count p [] r l = absurd l
attribute_complete attributes.Count p (l ∷ ls) r s =
    subst (λ (z : Lexeme). attribute_word_of (z ∷ ls) ≡ done (record { place = p; attribute = attributes.Count }) r)
    (spelt_is (word_at p (codes "count")) l s.0)
    ((this_exact attributes.Count).complete p _ r tt refl (record { kind = refl; text = refl; identifier = tt; place = s.0.place }, s.1) refl)
attribute_complete attributes.Identity p [] r l = absurd l
attribute_complete attributes.Identity p (l ∷ ls) r s =
    subst (λ (z : Lexeme). attribute_word_of (z ∷ ls) ≡ done (record { place = p; attribute = attributes.Identity }) r)
    (spelt_is (word_at p (codes "identity")) l s.0)
    ((this_exact attributes.Identity).complete p _ r tt refl (record { kind = refl; text = refl; identifier = tt; place = s.0.place }, s.1) refl)
attribute_complete attributes.Access p [] r l = absurd l
attribute_complete attributes.Access p (l ∷ ls) r s =
    subst (λ (z : Lexeme). attribute_word_of (z ∷ ls) ≡ done (record { place = p; attribute = attributes.Access }) r)
    (spelt_is (word_at p (codes "access")) l s.0)
    ((this_exact attributes.Access).complete p _ r tt refl (record { kind = refl; text = refl; identifier = tt; place = s.0.place }, s.1) refl)

attribute_exact : Exact word_written shapeless always attribute_word_of
attribute_exact = record { sound = attribute_sound.by; complete = λ d ls r q o l end. attribute_complete d.attribute d.place ls r l }

-- ["'" ATTRIBUTE]
pub designator_exact : Exact (optional designator_written) (optional_fits shapeless) (not_delimiter (codes "'")) designator_of
unfolding designator_of
designator_exact =
    optionally (sees_delimiter (codes "'")) designator_written shapeless (not_delimiter (codes "'")) _
    (delimiter_then (λ (d : AttributeDesignator). Some d) Any word_written shapeless (not_delimiter (codes "'")) (codes "'") _
    (closing (λ (d : AttributeDesignator). Some d) Any (not_delimiter (codes "'")) itself word_written shapeless attribute_word_of itself
    (narrower itself Any word_written shapeless always (not_delimiter (codes "'")) attribute_word_of attribute_exact (λ r e. refl)) (λ d. tt) (λ d. refl)
    (λ d i q e. e)))
    (λ d ls r l. sees_delimiter_first (codes "'") (word_written d) ls r l)
    (λ r e. not-true (sees_delimiter (codes "'") r) e)

-- ---- arguments, given that the expressions in brackets are read as they are written

-- What is known of the reader one level further in.
abbrev pub ReadsInside : ℕ → Parser Expression → Type 0
ReadsInside zero inner = Unit {0}
ReadsInside (suc m) inner = Exact expression_written (λ e. expression_fits e precedence.Logical m) ends_expression inner

-- what may not stand behind an argument: more of its expression, or an arrow
abbrev pub ends_argument : List Lexeme → Bool
ends_argument r = ends_expression r && not_delimiter (codes "=>") r

module _ (m : ℕ) (inner : Parser Expression) (inside : Exact expression_written (λ e. expression_fits e precedence.Logical m) ends_expression inner) where
  pub named_exact : Rest (λ (x : Identifier × Expression). record { formal = Some x.0; value = x.1 }) Any
      (λ x. identifier_written x.0 ∷ delimiter (codes "=>") ∷ expression_written x.1)
      (λ x. expression_fits x.1 precedence.Logical m) ends_expression (named_argument_of (suc m) inner)
  unfolding named_argument_of
  named_exact =
      let make : Identifier × Expression → Argument Expression = λ x. record { formal = Some x.0; value = x.1 } in
      plain make Any (λ x. delimiter (codes "=>") ∷ expression_written x.1) (λ x. expression_fits x.1 precedence.Logical m) ends_expression (λ x. x.0)
      (λ i. identifier_written i ∷ []) shapeless always an_identifier _
      identifier_exact (λ i. refl) (λ x ls r p l end. refl)
      (λ formal. delimiter_then make (λ x. Any x × (formal ≡ x.0)) (λ x. expression_written x.1) (λ x. expression_fits x.1 precedence.Logical m) ends_expression
      (codes "=>") _
      (closing make (λ x. Any x × (formal ≡ x.0)) ends_expression (λ x. x.1) expression_written (λ e. expression_fits e precedence.Logical m) inner
      (λ value. (formal, value))
      inside (λ value. (tt, refl)) (λ value. refl) (λ value x p e. rw (p.1, e) refl)))

  unnamed_exact : Rest {X = Argument Expression} (λ (e : Expression). record { formal = None; value = e }) Any expression_written
      (λ e. expression_fits e precedence.Logical m) ends_expression
      (inner >>= (λ value. pure (record { formal = None; value = value })))
  unnamed_exact =
      closing {X = Argument Expression} (λ (e : Expression). record { formal = None; value = e }) Any ends_expression itself expression_written
      (λ e. expression_fits e precedence.Logical m) inner itself
      inside (λ e. tt) (λ e. refl) (λ e i p q. q)

  argument_sound : Sound itself (argument_written expression_written) (argument_fits expression_fits m) (argument_of (suc m) inner)
  unfolding argument_of
  argument_sound =
      either names_formal
      (one_form (λ (x : Identifier × Expression). record { formal = Some x.0; value = x.1 }) named_exact (λ x. refl) (λ x. refl))
      (one_form (λ (e : Expression). record { formal = None; value = e }) unnamed_exact (λ e. refl) (λ e. refl))

  -- an expression does not begin with a name and an arrow, unless the arrow stands behind it
  pub named_first : Lexeme → Expression
  named_first l = formed (form.Named (record { parts = record { first = record { place = l.place; text = l.text }; others = [] } }) None [])

  pub read_up_to_arrow : (l k : Lexeme) (ls : List Lexeme) → is_identifier l ≡ true → is_this_delimiter (codes "=>") k ≡ true
      → inner (l ∷ k ∷ ls) ≡ done (named_first l) (k ∷ ls)
  unfolding named_first starts
  read_up_to_arrow l k ls e f =
      inside.complete (named_first l) (l ∷ k ∷ ls) (k ∷ ls) tt
      (formed_is_fit _ precedence.Logical m)
      (subst (λ (ws : List Written). Leads ws (l ∷ k ∷ ls) (k ∷ ls)) (sym (formed_is_written _)) (identifier_spelt l e, refl))
      (seen_delimiter ends_expression true (codes "=>") (λ p ls. refl) (k ∷ ls) f)

  no_arrow : (value : Expression) (ls r : List Lexeme) → expression_fits value precedence.Logical m ≡ true → Leads (expression_written value) ls r
      → ends_argument r ≡ true → names_formal ls ≡ false
  unfolding starts_both starts
  no_arrow value [] r o l end = refl
  no_arrow value (l ∷ []) r o s end = and_false (is_identifier l)
  no_arrow value (l ∷ k ∷ ls) r o s end = by_test (is_identifier l) (is_this_delimiter (codes "=>") k) refl refl
    where
      by_test : (v w : Bool) → is_identifier l ≡ v → is_this_delimiter (codes "=>") k ≡ w → (is_identifier l && is_this_delimiter (codes "=>") k) ≡ false
      by_test false w e f = rw e refl
      by_test true false e f = rw (e, f) refl
      by_test true true e f =
          let whole = inside.complete value (l ∷ k ∷ ls) r tt o s (first_true (ends_expression r) (not_delimiter (codes "=>") r) end) in
          let is = pair_of (named_first l) value (k ∷ ls) r (sym (read_up_to_arrow l k ls e f) ∙ whole) in
          let none : not_delimiter (codes "=>") r ≡ true = second_true (ends_expression r) (not_delimiter (codes "=>") r) end in
          absurd (false≢true
          (sym (not-true (is_this_delimiter (codes "=>") k) (subst (λ (z : List Lexeme). not_delimiter (codes "=>") z ≡ true) (sym is.1) none)) ∙ f))

  arrow_first : (name : Identifier) (ws : List Written) (ls r : List Lexeme) → Leads (identifier_written name ∷ delimiter (codes "=>") ∷ ws) ls r
      → names_formal ls ≡ true
  unfolding starts_both starts
  arrow_first name ws [] r l = absurd l
  arrow_first name ws (l ∷ []) r s = absurd s.1
  arrow_first name ws (l ∷ k ∷ ls) r s = both (identifier_seen name l s.0) (delimiter_seen (codes "=>") k s.1.0)

  argument_complete : (formal : Option Identifier) (value : Expression) (ls r : List Lexeme) → expression_fits value precedence.Logical m ≡ true
      → Leads (argument_written expression_written (record { formal = formal; value = value })) ls r → ends_argument r ≡ true
      → argument_of (suc m) inner ls ≡ done (record { formal = formal; value = value }) r
  unfolding argument_of
  argument_complete (Some name) value ls r o l end =
      rw (arrow_first name (expression_written value) ls r l)
      (named_exact.complete (name, value) ls r tt o l (first_true (ends_expression r) (not_delimiter (codes "=>") r) end))
  argument_complete None value ls r o l end =
      rw (no_arrow value ls r o l end) (unnamed_exact.complete value ls r tt o l (first_true (ends_expression r) (not_delimiter (codes "=>") r) end))

  pub argument_exact : Exact (argument_written expression_written) (argument_fits expression_fits m) ends_argument (argument_of (suc m) inner)
  argument_exact = record { sound = argument_sound.by; complete = λ a ls r q o l end. argument_complete a.formal a.value ls r o l end }

  -- ---- "(" argument {"," argument} ")"

  closes : (r : List Lexeme) → sees_delimiter (codes ")") r ≡ true → ends_argument r ≡ true
  unfolding starts
  closes r e = seen_delimiter ends_argument true (codes ")") (λ p ls. refl) r e

  goes_on : (r : List Lexeme) → sees_delimiter (codes ",") r ≡ true → ends_argument r ≡ true
  unfolding starts
  goes_on r e = seen_delimiter ends_argument true (codes ",") (λ p ls. refl) r e

  no_comma : (r : List Lexeme) → sees_delimiter (codes ")") r ≡ true → sees_delimiter (codes ",") r ≡ false
  unfolding starts
  no_comma r e = seen_delimiter (sees_delimiter (codes ",")) false (codes ")") (λ p ls. refl) r e

  more_exact : Exact (flat_map (behind (delimiter (codes ",")) (argument_written expression_written))) (list_all (argument_fits expression_fits m))
      (sees_delimiter (codes ")"))
      (items_of (sees_delimiter (codes ",")) (behind_delimiter_of (codes ",") (argument_of (suc m) inner)))
  unfolding behind_delimiter_of starts
  more_exact =
      listed (sees_delimiter (codes ",")) (behind (delimiter (codes ",")) (argument_written expression_written)) (argument_fits expression_fits m) ends_argument
      (sees_delimiter (codes ")"))
      (the_delimiter (codes ",") >> argument_of (suc m) inner)
      (delimiter_then itself Any (argument_written expression_written) (argument_fits expression_fits m) ends_argument (codes ",")
      (argument_of (suc m) inner) argument_exact)
      (λ a ls r l. sees_delimiter_first (codes ",") (argument_written expression_written a) ls r l) refl goes_on closes no_comma

  abbrev closed : List Written
  closed = delimiter (codes ")") ∷ []

  behind_first : (others : List (Argument Expression)) (ls r : List Lexeme)
      → Leads (flat_map (behind (delimiter (codes ",")) (argument_written expression_written)) others ++ closed) ls r → ends_argument ls ≡ true
  behind_first [] ls r l = closes ls (sees_delimiter_first (codes ")") [] ls r l)
  behind_first (x ∷ others) ls r l = goes_on ls (sees_delimiter_first (codes ",") _ ls r l)

  bracketed_arguments : Rest (λ (xs : OneOrMore (Argument Expression)). xs.first ∷ xs.others) Any
      (λ xs.
      argument_written expression_written xs.first ++ (flat_map (behind (delimiter (codes ",")) (argument_written expression_written)) xs.others ++ closed))
      (λ xs. argument_fits expression_fits m xs.first && list_all (argument_fits expression_fits m) xs.others) always
      (argument_of (suc m) inner
      >>= (λ first. items_of (sees_delimiter (codes ",")) (behind_delimiter_of (codes ",") (argument_of (suc m) inner))
      >>= (λ others. the_delimiter (codes ")") >>= (λ p. pure (first ∷ others)))))
  bracketed_arguments =
      let make : OneOrMore (Argument Expression) → List (Argument Expression) = λ xs. xs.first ∷ xs.others in
      let more : OneOrMore (Argument Expression) → List Written =
      λ xs. flat_map (behind (delimiter (codes ",")) (argument_written expression_written)) xs.others in
      field make Any (λ xs. more xs ++ closed) (λ xs. list_all (argument_fits expression_fits m) xs.others) always
      (λ xs. xs.first) (argument_written expression_written) (argument_fits expression_fits m) ends_argument (argument_of (suc m) inner) _ argument_exact
      (λ xs ls r p l end. behind_first xs.others ls r l)
      (λ first. last make (λ xs. Any xs × (first ≡ xs.first)) (λ xs. closed) always (λ xs. xs.others)
      (flat_map (behind (delimiter (codes ",")) (argument_written expression_written)))
      (list_all (argument_fits expression_fits m)) (sees_delimiter (codes ")")) _ _ more_exact
      (λ xs ls r p l end. sees_delimiter_first (codes ")") [] ls r l)
      (λ others. delimiter_then make (λ xs. (Any xs × (first ≡ xs.first)) × (others ≡ xs.others)) (λ xs. []) (λ xs. true) always (codes ")") _
      (ready make (λ xs. (Any xs × (first ≡ xs.first)) × (others ≡ xs.others)) always (record { first = first; others = others }) ((tt, refl), refl)
      (λ xs p. rw (p.0.1, p.1) refl))))

one_less : (n m : ℕ) → suc n ≡ suc m → n ≡ m
one_less n m e = omega (arith, e)

-- ["(" argument {"," argument} ")"]
given_exact : (left : ℕ) (inner : Parser Expression) → ReadsInside left inner
    → Rest (λ (xs : OneOrMore (Argument Expression)). xs.first ∷ xs.others) Any (λ xs. arguments_written expression_written (xs.first ∷ xs.others))
    (λ xs. arguments_fit expression_fits left (xs.first ∷ xs.others)) always (given_arguments_of left inner)
unfolding given_arguments_of
given_exact left inner inside =
    opened_plain left (λ (xs : OneOrMore (Argument Expression)). xs.first ∷ xs.others) Any _
    (λ xs n. argument_fits expression_fits n xs.first && list_all (argument_fits expression_fits n) xs.others) always _
    (λ m e. at left inner inside m e)
  where
    at : (left : ℕ) (inner : Parser Expression) → ReadsInside left inner → (m : ℕ) → left ≡ suc m
        → Rest (λ (xs : OneOrMore (Argument Expression)). xs.first ∷ xs.others) Any
        (λ xs. argument_written expression_written xs.first
        ++ (flat_map (behind (delimiter (codes ",")) (argument_written expression_written)) xs.others ++ delimiter (codes ")") ∷ []))
        (λ xs. argument_fits expression_fits m xs.first && list_all (argument_fits expression_fits m) xs.others) always
        (argument_of left inner
        >>= (λ first. items_of (sees_delimiter (codes ",")) (behind_delimiter_of (codes ",") (argument_of left inner))
        >>= (λ others. the_delimiter (codes ")") >>= (λ p. pure (first ∷ others)))))
    at zero inner inside m e = absurd cc
    at (suc n) inner inside m e =
        subst (λ (k : ℕ). Rest (λ (xs : OneOrMore (Argument Expression)). xs.first ∷ xs.others) Any
        (λ xs. argument_written expression_written xs.first
        ++ (flat_map (behind (delimiter (codes ",")) (argument_written expression_written)) xs.others ++ delimiter (codes ")") ∷ []))
        (λ xs. argument_fits expression_fits k xs.first && list_all (argument_fits expression_fits k) xs.others) always
        (argument_of (suc n) inner
        >>= (λ first. items_of (sees_delimiter (codes ",")) (behind_delimiter_of (codes ",") (argument_of (suc n) inner))
        >>= (λ others. the_delimiter (codes ")") >>= (λ p. pure (first ∷ others))))))
        (one_less n m e) (bracketed_arguments n inner inside)

pub arguments_read : (left : ℕ) (inner : Parser Expression) → ReadsInside left inner
    → Exact (arguments_written expression_written) (arguments_fit expression_fits left) ends_arguments (arguments_of left inner)
unfolding arguments_of
arguments_read left inner inside =
    enclosed_exact (sees_delimiter (codes "(")) (delimiter (codes "(")) (delimiter (codes ",")) (delimiter (codes ")") ∷ [])
    (argument_written expression_written) (arguments_fit expression_fits left) ends_arguments (given_arguments_of left inner)
    (narrower (λ (xs : OneOrMore (Argument Expression)). xs.first ∷ xs.others) Any (λ xs. arguments_written expression_written (xs.first ∷ xs.others))
    (λ xs. arguments_fit expression_fits left (xs.first ∷ xs.others)) always ends_arguments (given_arguments_of left inner)
    (given_exact left inner inside) (λ r e. refl))
    refl (λ ws ls r l. sees_delimiter_first (codes "(") ws ls r l) (λ r e. not-true (sees_delimiter (codes "(") r) e)
