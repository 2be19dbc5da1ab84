-- Subtype indications and parameters (3.2.2, 6.1).
use Rattle.std.proofs.Common.{◌≡◌, ℕ, Bool, true, false, ◌&&◌, List, [], ◌∷◌, ◌++◌, refl, sym, subst, codes}
use Rattle.std.specs.Prelude.{Option, Some, None, flat_map}
use Rattle.std.specs.List.{list_all}
use Rattle.std.proofs.lemmas.Bool.{not-true}
use Rattle.ada_tree.specs.declared.names.Identifier.{Identifier}
use Rattle.ada_tree.specs.declared.names.Name.{Name}
use Rattle.ada_tree.specs.declared.names.OneOrMore.{OneOrMore}
use Rattle.ada_tree.specs.declared.expressions.Expression.{Expression}
use Rattle.ada_tree.specs.declared.declarations.SubtypeIndication.{SubtypeIndication}
use Rattle.ada_tree.specs.declared.declarations.Constraint.{Constraint}
use Rattle.ada_tree.specs.declared.declarations.Constraint.TheVariants as constraints
use Rattle.ada_tree.specs.declared.declarations.Parameter.{Parameter}
use Rattle.ada_tree.specs.Written.{Written, Lexeme, word, delimiter, flag, optional, behind, one_identifier, name_written, identifiers_written}
use Rattle.ada_tree.specs.SpellingExpressions.{expression_written}
use Rattle.ada_tree.specs.SpellingStatements.{constraint_written, indication_written, parameter_written, parameters_written}
use Rattle.ada_tree.specs.ShapeExpressions.{within, optional_fits}
use Rattle.ada_tree.specs.ShapeStatements.{value_fits, nothing_in_it, constraint_fits, indication_fits, parameter_fits, parameters_fit}
use Rattle.ada_grammar.specs.Reading.{Parser, ◌>>=◌, pure, starts, sees_delimiter, sees_word, sees_identifier}
use Rattle.ada_grammar.specs.Reading.{the_delimiter, flag_of, below, items_of, behind_delimiter_of, name_of, identifiers_of}
use Rattle.ada_grammar.specs.ReadingExpressions.{expression_of}
use Rattle.ada_grammar.specs.ReadingSimple.{access_of, bounds_of, range_of, constraint_of, subtype_indication_of}
use Rattle.ada_grammar.specs.ReadingSimple.{parameter_of, given_parameters_of, parameters_of}
use Rattle.grammar_laws.specs.Leads.{Leads}
use Rattle.grammar_laws.proofs.Reading.Leading.{leads_through}
use Rattle.grammar_laws.proofs.Reading.Exact.{done, Rest, Any, itself, Exact, ready, field, plain, narrower, closing, first_is, first_each}
use Rattle.grammar_laws.proofs.Reading.Tokens.{always, shapeless, not_word, word_then, delimiter_then, flag_exact}
use Rattle.grammar_laws.proofs.Reading.Tokens.{sees_delimiter_first, sees_word_first, sees_identifier_first, seen_delimiter}
use Rattle.grammar_laws.proofs.Reading.Names.{not_delimiter, name_exact, identifiers_exact}
use Rattle.grammar_laws.proofs.Reading.Choices.{Sound, either, one_form, opened_plain}
use Rattle.grammar_laws.proofs.Reading.Ends.{ends_expression}
use Rattle.grammar_laws.proofs.Reading.Expressions.{expression_exact}
use Rattle.grammar_laws.proofs.Reading.ClausesEnds.{ends_subtype, expression_no_point, expression_no_bracket, subtype_expression}
use Rattle.grammar_laws.proofs.Reading.ClausesEnds.{subtype_no_range, stop_optional, stop_flag, identifier_no_in, identifier_no_out}
use Rattle.grammar_laws.proofs.Reading.ClausesSteps.{delimiter_ends, field_before, last_before, plain_before}
use Rattle.grammar_laws.proofs.Reading.ClausesSteps.{ends_list, items_behind, first_and, enclosed_exact}

-- "(" name "'" "Access" ")"
abbrev access : Name → Option Constraint
access name = Some (constraints.Access name)

pub access_exact : (left : ℕ) → Rest access Any (λ n. constraint_written (constraints.Access n)) (λ n. within left nothing_in_it) always (access_of left)
unfolding access_of starts
access_exact left =
    opened_plain left access Any _ (λ n. nothing_in_it) always _ (λ m e.
    plain_before access Any (delimiter (codes "'")) _ always itself name_written shapeless (not_delimiter (codes ".")) name_of _ name_exact (λ l ls. refl) _
    (λ a. refl)
    (λ name. delimiter_then access _ _ _ always (codes "'") _
    (word_then access _ _ _ always (codes "access") _
    (delimiter_ends access _ (codes ")") name (tt, refl) (λ j p. p.1)))))

-- LOW ".." HIGH
abbrev pub bounds_written : Expression × Expression → List Written
bounds_written b = expression_written b.0 ++ delimiter (codes "..") ∷ expression_written b.1

abbrev pub both_fit : ℕ → Expression × Expression → Bool
both_fit left b = value_fits left b.0 && value_fits left b.1

pub bounds_exact : (left : ℕ) → Exact bounds_written (both_fit left) ends_expression (bounds_of left)
unfolding bounds_of starts
bounds_exact left =
    field_before itself Any (delimiter (codes "..")) _ ends_expression (λ b. b.0) expression_written (value_fits left) ends_expression (expression_of left) _
    (expression_exact left) (λ l ls. refl) (λ b. value_fits left b.1)
    (λ low. delimiter_then itself _ _ _ ends_expression (codes "..") _
    (closing itself _ ends_expression (λ b. b.1) expression_written (value_fits left) (expression_of left) (λ high. (low, high)) (expression_exact left)
    (λ high. (tt, refl)) (λ high. refl) (λ high b p e. rw (p.1, e) refl)))

abbrev range : Expression × Expression → Option Constraint
range b = Some (constraints.Range b.0 b.1)

pub range_exact : (left : ℕ) → Rest range Any (λ b. constraint_written (constraints.Range b.0 b.1)) (both_fit left) ends_expression (range_of left)
unfolding range_of
range_exact left =
    word_then range Any bounds_written (both_fit left) ends_expression (codes "range") _
    (closing range Any ends_expression itself bounds_written (both_fit left) (bounds_of left) itself (bounds_exact left) (λ b. tt) (λ b. refl) (λ b i p e. e))

-- ["(" name "'" "Access" ")" | "range" expression ".." expression]
abbrev unconstrained : Unit {0} → Option Constraint
unconstrained u = None

unconstrained_exact : Rest unconstrained Any (λ u. []) shapeless ends_subtype (pure None)
unconstrained_exact = ready unconstrained Any ends_subtype tt tt (λ u p. refl)

constraint_sound : (left : ℕ) → Sound itself (optional constraint_written) (optional_fits (constraint_fits left)) (constraint_of left)
unfolding constraint_of
constraint_sound left =
    either (sees_delimiter (codes "(")) (one_form access (access_exact left) (λ n. refl) (λ n. refl))
    (either (sees_word (codes "range")) (one_form range (range_exact left) (λ b. refl) (λ b. refl))
    (one_form unconstrained unconstrained_exact (λ u. refl) (λ u. refl)))

constraint_complete : (left : ℕ) (o : Option Constraint) (ls r : List Lexeme) → optional_fits (constraint_fits left) o ≡ true
    → Leads (optional constraint_written o) ls r → ends_subtype r ≡ true
    → constraint_of left ls ≡ done o r
unfolding constraint_of starts
constraint_complete left None ls r okay l end =
    rw (
      l,
      not-true (sees_delimiter (codes "(") r) (expression_no_bracket r (subtype_expression r end)),
      not-true (sees_word (codes "range") r) (subtype_no_range r end),
    ) refl
constraint_complete left (Some (constraints.Access n)) ls r okay l end =
    rw (sees_delimiter_first (codes "(") (name_written n ++ delimiter (codes "'") ∷ word (codes "access") ∷ delimiter (codes ")") ∷ []) ls r l)
    ((access_exact left).complete n ls r tt okay l refl)
constraint_complete left (Some (constraints.Range low high)) ls r okay l end =
    rw (
      first_is (sees_delimiter (codes "(")) false (word (codes "range")) (λ l ls. refl) (bounds_written (low, high)) ls r l,
      sees_word_first (codes "range") (bounds_written (low, high)) ls r l,
    )
    ((range_exact left).complete (low, high) ls r tt okay l (subtype_expression r end))

pub constraint_exact : (left : ℕ) → Exact (optional constraint_written) (optional_fits (constraint_fits left)) ends_subtype (constraint_of left)
constraint_exact left = record { sound = (constraint_sound left).by; complete = λ o ls r q okay l end. constraint_complete left o ls r okay l end }

-- ---- subtype indications

constraint_no_point : (c : Constraint) (ls r : List Lexeme) → Leads (constraint_written c) ls r → not_delimiter (codes ".") ls ≡ true
unfolding starts
constraint_no_point (constraints.Access n) ls r l =
    first_is (not_delimiter (codes ".")) true (delimiter (codes "(")) (λ l ls. refl)
    (name_written n ++ delimiter (codes "'") ∷ word (codes "access") ∷ delimiter (codes ")") ∷ []) ls r l
constraint_no_point (constraints.Range low high) ls r l =
    first_is (not_delimiter (codes ".")) true (word (codes "range")) (λ l ls. refl) (bounds_written (low, high)) ls r l

pub subtype_indication_exact : (left : ℕ) → Exact indication_written (indication_fits left) ends_subtype (subtype_indication_of left)
unfolding subtype_indication_of
subtype_indication_exact left =
    plain itself Any (λ m. optional constraint_written m.constraint) (indication_fits left) ends_subtype (λ m. m.name) name_written shapeless
    (not_delimiter (codes ".")) name_of _ name_exact (λ a. refl)
    (λ m ls r p l end.
    stop_optional (not_delimiter (codes ".")) constraint_written constraint_no_point m.constraint ls r l (expression_no_point r (subtype_expression r end)))
    (λ name. closing itself _ ends_subtype (λ m. m.constraint) (optional constraint_written) (optional_fits (constraint_fits left)) (constraint_of left)
    (λ c. record { name = name; constraint = c }) (constraint_exact left) (λ c. (tt, refl)) (λ c. refl) (λ c m p e. rw (p.1, e) refl))

-- a subtype mark begins with an identifier
pub name_begins : (n : Name) (w : List Written) (ls r : List Lexeme) → Leads (name_written n ++ w) ls r → sees_identifier ls ≡ true
name_begins n w ls r l = sees_identifier_first n.parts.first (flat_map (behind (delimiter (codes ".")) one_identifier) n.parts.others ++ w) ls r l

pub indication_begins : (m : SubtypeIndication) (w : List Written) (ls r : List Lexeme) → Leads (indication_written m ++ w) ls r → sees_identifier ls ≡ true
indication_begins m w ls r l =
    let t = leads_through (indication_written m) w ls r l in
    name_begins m.name (optional constraint_written m.constraint) ls t.middle t.first

pub identifiers_begin : (names : OneOrMore Identifier) (w : List Written) (ls r : List Lexeme) → Leads (identifiers_written names ++ w) ls r
    → sees_identifier ls ≡ true
identifiers_begin names w ls r l = sees_identifier_first names.first (flat_map (behind (delimiter (codes ",")) one_identifier) names.others ++ w) ls r l

-- ---- parameters

parameter_in : (p : Parameter) (ls r : List Lexeme) → Leads (flag p.is_out (word (codes "out") ∷ []) ++ indication_written p.subtype) ls r
    → not_word (codes "in") ls ≡ true
unfolding starts
parameter_in p ls r l =
    stop_flag (not_word (codes "in")) p.is_out (word (codes "out") ∷ []) (indication_written p.subtype)
    (λ ls r l. first_is (not_word (codes "in")) true (word (codes "out")) (λ l ls. refl) (indication_written p.subtype) ls r l)
    (λ ls r l. identifier_no_in ls (name_begins p.subtype.name (optional constraint_written p.subtype.constraint) ls r l)) ls r l

parameter_out : (p : Parameter) (ls r : List Lexeme) → Leads (indication_written p.subtype) ls r → not_word (codes "out") ls ≡ true
unfolding starts
parameter_out p ls r l = identifier_no_out ls (name_begins p.subtype.name (optional constraint_written p.subtype.constraint) ls r l)

pub parameter_exact : (left : ℕ) → Exact parameter_written (parameter_fits left) ends_subtype (parameter_of left)
unfolding parameter_of starts
parameter_exact left =
    plain_before itself Any (delimiter (codes ":")) _ ends_subtype (λ p. p.names) identifiers_written shapeless
    (not_delimiter (codes ",")) identifiers_of _ identifiers_exact (λ l ls. refl) _ (λ a. refl)
    (λ names. delimiter_then itself _ _ _ ends_subtype (codes ":") _
    (plain itself _ (λ p. flag p.is_out (word (codes "out") ∷ []) ++ indication_written p.subtype) _ ends_subtype (λ p. p.is_in)
    (λ b. flag b (word (codes "in") ∷ [])) shapeless (not_word (codes "in")) (flag_of (codes "in")) _ (flag_exact (codes "in")) (λ a. refl)
    (λ p ls r q l end. parameter_in p ls r l)
    (λ is_in. plain itself _ (λ p. indication_written p.subtype) _ ends_subtype (λ p. p.is_out) (λ b. flag b (word (codes "out") ∷ [])) shapeless
    (not_word (codes "out")) (flag_of (codes "out")) _ (flag_exact (codes "out")) (λ a. refl)
    (λ p ls r q l end. parameter_out p ls r l)
    (λ is_out. closing itself _ ends_subtype (λ p. p.subtype) indication_written (indication_fits left) (subtype_indication_of left)
    (λ m. record { names = names; is_in = is_in; is_out = is_out; subtype = m })
    (subtype_indication_exact left) (λ m. (((tt, refl), refl), refl)) (λ m. refl) (λ m p q e. rw (q.0.0.1, q.0.1, q.1, e) refl)))))

-- "(" parameter {";" parameter} ")"
abbrev parameters_inside : ℕ → Parser (List Parameter)
parameters_inside m =
    parameter_of m >>= λ first. items_of (sees_delimiter (codes ";")) (behind_delimiter_of (codes ";") (parameter_of m)) >>= λ others.
    the_delimiter (codes ")") >>= λ a. pure (first ∷ others)

abbrev others_written : Parameter × List Parameter → List Written
others_written x = flat_map (behind (delimiter (codes ";")) parameter_written) x.1 ++ delimiter (codes ")") ∷ []

inside_exact : (m : ℕ)
    → Rest first_and Any (λ (x : Parameter × List Parameter). parameter_written x.0 ++ others_written x)
    (λ x. parameter_fits m x.0 && list_all (parameter_fits m) x.1) always (parameters_inside m)
unfolding starts
inside_exact m =
    field first_and Any others_written (λ x. list_all (parameter_fits m) x.1) always (λ x. x.0) parameter_written (parameter_fits m) ends_subtype
    (parameter_of m) _ (parameter_exact m)
    (λ x ls r p l end. first_each ends_subtype true (behind (delimiter (codes ";")) parameter_written) (delimiter (codes ")") ∷ [])
    (λ a ls m l. first_is ends_subtype true (delimiter (codes ";")) (λ l ls. refl) (parameter_written a) ls m l)
    (λ ls r l. first_is ends_subtype true (delimiter (codes ")")) (λ l ls. refl) [] ls r l) x.1 ls r l)
    (λ first. last_before first_and _ (delimiter (codes ")")) _ always (λ x. x.1) (flat_map (behind (delimiter (codes ";")) parameter_written))
    (list_all (parameter_fits m)) (ends_list (codes ";") ends_subtype)
    (items_of (sees_delimiter (codes ";")) (behind_delimiter_of (codes ";") (parameter_of m))) _
    (items_behind (codes ";") parameter_written (parameter_fits m) ends_subtype (parameter_of m) (parameter_exact m)
    (λ r e. seen_delimiter ends_subtype true (codes ";") (λ p ls. refl) r e))
    (λ l ls. refl)
    (λ others. delimiter_ends first_and _ (codes ")") (first, others) ((tt, refl), refl) (λ j p. rw (p.0.1, p.1) refl)))

given_exact : (left : ℕ)
    → Rest first_and Any (λ (x : Parameter × List Parameter). parameters_written (x.0 ∷ x.1)) (λ x. parameters_fit left (x.0 ∷ x.1)) always
    (given_parameters_of left)
unfolding given_parameters_of
given_exact left =
    opened_plain left first_and Any (λ x. parameter_written x.0 ++ others_written x) (λ x m. parameter_fits m x.0 && list_all (parameter_fits m) x.1) always
    (parameters_inside (below left))
    (λ m e. subst
    (λ (z : ℕ). Rest first_and Any (λ (x : Parameter × List Parameter). parameter_written x.0 ++ others_written x)
    (λ x. parameter_fits m x.0 && list_all (parameter_fits m) x.1) always (parameters_inside (below z)))
    (sym e)
    (inside_exact m))

-- what may not stand behind parameters: an opening bracket
pub parameters_exact : (left : ℕ) → Exact parameters_written (parameters_fit left) (not_delimiter (codes "(")) (parameters_of left)
unfolding parameters_of
parameters_exact left =
    enclosed_exact (sees_delimiter (codes "(")) (delimiter (codes "(")) (delimiter (codes ";")) (delimiter (codes ")") ∷ []) parameter_written
    (parameters_fit left) (not_delimiter (codes "(")) (given_parameters_of left)
    (narrower first_and Any _ _ always (not_delimiter (codes "(")) (given_parameters_of left) (given_exact left) (λ r e. refl)) refl
    (λ ws ls r l. sees_delimiter_first (codes "(") ws ls r l) (λ r e. not-true (sees_delimiter (codes "(") r) e)
