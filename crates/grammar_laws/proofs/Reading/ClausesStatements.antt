-- Statements without others in them, choices, iterations, handled exceptions (clauses 5, 6.5, 9.5.4, 9.8, 11).
use Rattle.std.proofs.Common.{◌≡◌, ℕ, Bool, true, false, ◌&&◌, List, [], ◌∷◌, ◌++◌, refl, sym, subst, codes}
use Rattle.std.specs.Prelude.{Option, Some, None, flat_map}
use Rattle.std.proofs.lemmas.Bool.{not-true}
use Rattle.ann_base.specs.declared.places.Place.{Place}
use Rattle.ada_lex.specs.Reserved.{is_reserved}
use Rattle.ada_tree.specs.declared.names.Identifier.{Identifier}
use Rattle.ada_tree.specs.declared.names.Name.{Name}
use Rattle.ada_tree.specs.declared.names.OneOrMore.{OneOrMore}
use Rattle.ada_tree.specs.declared.expressions.Expression.{Expression}
use Rattle.ada_tree.specs.declared.statements.Statement.{Statement}
use Rattle.ada_tree.specs.declared.statements.Statement.TheVariants as statements
use Rattle.ada_tree.specs.declared.statements.Sequence.{Sequence}
use Rattle.ada_tree.specs.declared.statements.Choice.{Choice}
use Rattle.ada_tree.specs.declared.statements.Choice.TheVariants as choices
use Rattle.ada_tree.specs.declared.statements.Iteration.{Iteration}
use Rattle.ada_tree.specs.declared.statements.Iteration.TheVariants as iterations
use Rattle.ada_tree.specs.declared.statements.HandledExceptions.{HandledExceptions}
use Rattle.ada_tree.specs.declared.statements.HandledExceptions.TheVariants as exceptions
use Rattle.ada_tree.specs.declared.statements.Exit.{Exit}
use Rattle.ada_tree.specs.Written.{Written, Lexeme, word, word_at, delimiter, identifier_written}
use Rattle.ada_tree.specs.Written.{flag, optional, behind, separated, one_identifier, name_written}
use Rattle.ada_tree.specs.SpellingExpressions.{expression_written}
use Rattle.ada_tree.specs.SpellingStatements.{semicolon, choice_written, iteration_written, when_written, exit_written, exceptions_written, with_abort_written}
use Rattle.ada_tree.specs.ShapeExpressions.{optional_fits}
use Rattle.ada_tree.specs.ShapeStatements.{value_fits, choice_fits, iteration_fits, exit_fits}
use Rattle.ada_grammar.specs.Reading.{Parser, ◌>>=◌, ◌>>◌, pure, starts, sees_delimiter, sees_word, sees_identifier}
use Rattle.ada_grammar.specs.Reading.{the_word, the_delimiter, an_identifier, flag_of, name_of, names_of}
use Rattle.ada_grammar.specs.ReadingExpressions.{expression_of}
use Rattle.ada_grammar.specs.ReadingSimple.{bounds_of, value_choice_of, choice_of, while_of, for_of, iteration_of, loop_name_of, when_of, exit_of, null_of}
use Rattle.ada_grammar.specs.ReadingSimple.{result_value_of, return_of, exception_name_of, raise_of, abort_of, with_abort_of, requeue_of, exceptions_of}
use Rattle.grammar_laws.specs.Leads.{Leads}
use Rattle.grammar_laws.proofs.Reading.Exact.{done, pair_of, Rest, Any, itself, Exact, first_true, second_true}
use Rattle.grammar_laws.proofs.Reading.Exact.{ready, plain, narrower, closing, first_is, first_optional, optionally}
use Rattle.grammar_laws.proofs.Reading.Tokens.{always, shapeless, not_word, word_then, delimiter_then, word_exact, identifier_exact, flag_exact}
use Rattle.grammar_laws.proofs.Reading.Tokens.{sees_delimiter_first, sees_word_first, sees_word_at_first, sees_identifier_first, seen_delimiter}
use Rattle.grammar_laws.proofs.Reading.Names.{not_delimiter, name_exact, names_exact, ends_names}
use Rattle.grammar_laws.proofs.Reading.Choices.{Sound, either, one_form}
use Rattle.grammar_laws.proofs.Reading.Ends.{ends_expression}
use Rattle.grammar_laws.proofs.Reading.Expressions.{expression_exact}
use Rattle.grammar_laws.proofs.Reading.ClausesEnds.{ends_exceptions, ends_result, ends_choice, ends_iteration}
use Rattle.grammar_laws.proofs.Reading.ClausesEnds.{not_identifier, ends_name, ends_when, stop_flag, identifier_no_others}
use Rattle.grammar_laws.proofs.Reading.ClausesSteps.{optional_shapeless, delimiter_ends, word_ends, field_before, last_before}
use Rattle.grammar_laws.proofs.Reading.ClausesSteps.{plain_before, word_kept, identifier_kept, carried, chosen_by, passed_by, forked}
use Rattle.grammar_laws.proofs.Reading.ClausesValues.{value_is_no_others, value_no_others, value_no_reverse, value_is_no_semicolon}
use Rattle.grammar_laws.proofs.Reading.ClausesSubtypes.{bounds_written, both_fit, bounds_exact, name_begins}

-- ---- choices (3.8.1): expression [".." expression] | "others"

abbrev value_choice : Expression → Choice
value_choice e = choices.Value e

abbrev range_choice : Expression × Expression → Choice
range_choice b = choices.Range b.0 b.1

abbrev others_choice : Place → Choice
others_choice p = choices.Others p

abbrev high_of : ℕ → Expression → Parser Choice
high_of left low = do
  the_delimiter (codes "..")
  high ← expression_of left
  pure (choices.Range low high)

abbrev low_alone : Expression → Parser Choice
low_alone low = pure (choices.Value low)

range_behind : (left : ℕ) (low : Expression)
    → Rest range_choice (λ b. Any b × (low ≡ b.0)) (λ b. delimiter (codes "..") ∷ expression_written b.1) (λ b. value_fits left b.1) ends_expression
    (high_of left low)
range_behind left low =
    delimiter_then range_choice (λ b. Any b × (low ≡ b.0)) _ _ ends_expression (codes "..") _
    (closing range_choice _ ends_expression (λ b. b.1) expression_written (value_fits left) (expression_of left) (λ high. (low, high)) (expression_exact left)
    (λ high. (tt, refl)) (λ high. refl) (λ high b p e. rw (p.1, e) refl))

range_choice_exact : (left : ℕ) → Rest range_choice Any bounds_written (both_fit left) ends_expression (expression_of left >>= high_of left)
unfolding starts
range_choice_exact left =
    field_before range_choice Any (delimiter (codes "..")) _ ends_expression (λ b. b.0) expression_written (value_fits left) ends_expression
    (expression_of left) _ (expression_exact left) (λ l ls. refl) (λ b. value_fits left b.1)
    (range_behind left)

value_choice_exact : (left : ℕ) → Rest value_choice Any expression_written (value_fits left) ends_expression (expression_of left >>= low_alone)
value_choice_exact left =
    closing value_choice Any ends_expression itself expression_written (value_fits left) (expression_of left) itself (expression_exact left) (λ e. tt)
    (λ e. refl) (λ e i p q. q)

others_choice_exact : Rest others_choice Any (λ p. word_at p (codes "others") ∷ []) shapeless always
    (the_word (codes "others") >>= λ place. pure (choices.Others place))
others_choice_exact =
    closing others_choice Any always itself (λ p. word_at p (codes "others") ∷ []) shapeless (the_word (codes "others")) itself (word_exact (codes "others"))
    (λ p. tt) (λ p. refl) (λ p i q e. e)

choice_sound : (left : ℕ) → Sound itself choice_written (choice_fits left) (choice_of left)
unfolding choice_of value_choice_of
choice_sound left =
    either (sees_word (codes "others")) (one_form others_choice others_choice_exact (λ p. refl) (λ p. refl))
    (forked (expression_of left) (sees_delimiter (codes "..")) (high_of left) low_alone
    (one_form range_choice (range_choice_exact left) (λ b. refl) (λ b. refl))
    (one_form value_choice (value_choice_exact left) (λ e. refl) (λ e. refl)))

dots_seen : (left : ℕ) (low : Expression) (m : List Lexeme) (x : Choice) (r : List Lexeme) → high_of left low m ≡ done x r
    → sees_delimiter (codes "..") m ≡ true
dots_seen left low m x r e = let f = (range_behind left low).sound m x r e in sees_delimiter_first (codes "..") (expression_written f.item.1) m r f.leads

no_dots : (low : Expression) (m : List Lexeme) (x : Choice) (r : List Lexeme) → sees_delimiter (codes "..") r ≡ false → low_alone low m ≡ done x r
    → sees_delimiter (codes "..") m ≡ false
no_dots low m x r end e = subst (λ (z : List Lexeme). sees_delimiter (codes "..") z ≡ false) (sym (pair_of (choices.Value low) x m r e).1) end

choice_complete : (left : ℕ) (c : Choice) (ls r : List Lexeme) → choice_fits left c ≡ true → Leads (choice_written c) ls r → ends_choice r ≡ true
    → choice_of left ls ≡ done c r
unfolding choice_of value_choice_of
choice_complete left (choices.Value e) ls r okay l end =
    rw (not-true (sees_word (codes "others") ls) (value_is_no_others e ls r l))
    (carried (expression_of left) low_alone _ ls (choices.Value e) r
    (λ low m q. passed_by (sees_delimiter (codes "..")) (high_of left low) (low_alone low) m (choices.Value e) r
    (no_dots low m (choices.Value e) r (not-true (sees_delimiter (codes "..") r) (second_true (ends_expression r) (not_delimiter (codes "..") r) end))) q)
    ((value_choice_exact left).complete e ls r tt okay l (first_true (ends_expression r) (not_delimiter (codes "..") r) end)))
choice_complete left (choices.Range low high) ls r okay l end =
    rw (not-true (sees_word (codes "others") ls) (value_no_others low (delimiter (codes "..") ∷ expression_written high) ls r l))
    (carried (expression_of left) (high_of left) _ ls (choices.Range low high) r
    (λ first m q. chosen_by (sees_delimiter (codes "..")) (high_of left first) (low_alone first) m (choices.Range low high) r
    (dots_seen left first m (choices.Range low high) r) q)
    ((range_choice_exact left).complete (low, high) ls r tt okay l (first_true (ends_expression r) (not_delimiter (codes "..") r) end)))
choice_complete left (choices.Others p) ls r okay l end =
    rw (sees_word_at_first (codes "others") p [] ls r l) (others_choice_exact.complete p ls r tt refl l refl)

pub choice_exact : (left : ℕ) → Exact choice_written (choice_fits left) ends_choice (choice_of left)
choice_exact left = record { sound = (choice_sound left).by; complete = λ c ls r q okay l end. choice_complete left c ls r okay l end }

-- ---- iterations (5.5)

abbrev while_made : Place × Expression → Iteration
while_made x = iterations.While x.0 x.1

abbrev Counted : Type 0
Counted = Place × (Identifier × (Bool × (Expression × Expression)))

abbrev for_made : Counted → Iteration
for_made x = iterations.For x.0 x.1.0 x.1.1.0 x.1.1.1.0 x.1.1.1.1

abbrev forever : Unit {0} → Iteration
forever u = iterations.Forever

while_exact : (left : ℕ)
    → Rest while_made Any (λ x. word_at x.0 (codes "while") ∷ expression_written x.1) (λ x. value_fits left x.1) ends_expression (while_of left)
unfolding while_of
while_exact left =
    word_kept while_made Any _ _ ends_expression (λ x. x.0) (codes "while") _
    (λ place.
    closing while_made _ ends_expression (λ x. x.1) expression_written (value_fits left) (expression_of left) (λ e. (place, e)) (expression_exact left)
    (λ e. (tt, refl)) (λ e. refl) (λ e x p q. rw (p.1, q) refl))

abbrev for_written : Counted → List Written
for_written x =
    word_at x.0 (codes "for") ∷ identifier_written x.1.0 ∷ word (codes "in") ∷ (flag x.1.1.0 (word (codes "reverse") ∷ []) ++ bounds_written x.1.1.1)

for_exact : (left : ℕ) → Rest for_made Any for_written (λ x. both_fit left x.1.1.1) ends_expression (for_of left)
unfolding for_of
for_exact left =
    word_kept for_made Any _ _ ends_expression (λ x. x.0) (codes "for") _
    (λ place. identifier_kept for_made _ _ _ ends_expression (λ x. x.1.0) _
    (λ parameter. word_then for_made _ _ _ ends_expression (codes "in") _
    (plain for_made _ (λ x. bounds_written x.1.1.1) _ ends_expression (λ x. x.1.1.0) (λ b. flag b (word (codes "reverse") ∷ [])) shapeless
    (not_word (codes "reverse")) (flag_of (codes "reverse")) _ (flag_exact (codes "reverse")) (λ a. refl)
    (λ x ls r p l end. value_no_reverse x.1.1.1.0 (delimiter (codes "..") ∷ expression_written x.1.1.1.1) ls r l)
    (λ reverse. closing for_made _ ends_expression (λ x. x.1.1.1) bounds_written (both_fit left) (bounds_of left) (λ b. (place, (parameter, (reverse, b))))
    (bounds_exact left)
    (λ b. (((tt, refl), refl), refl)) (λ b. refl) (λ b x p e. rw (p.0.0.1, p.0.1, p.1, e) refl)))))

forever_exact : Rest forever Any (λ u. []) shapeless ends_iteration (pure iterations.Forever)
forever_exact = ready forever Any ends_iteration tt tt (λ u p. refl)

iteration_sound : (left : ℕ) → Sound itself iteration_written (iteration_fits left) (iteration_of left)
unfolding iteration_of
iteration_sound left =
    either (sees_word (codes "while")) (one_form while_made (while_exact left) (λ x. refl) (λ x. refl))
    (either (sees_word (codes "for")) (one_form for_made (for_exact left) (λ x. refl) (λ x. refl))
    (one_form forever forever_exact (λ u. refl) (λ u. refl)))

abbrev no_loop : List Lexeme → Bool
no_loop r = not_word (codes "while") r && not_word (codes "for") r

iteration_complete : (left : ℕ) (i : Iteration) (ls r : List Lexeme) → iteration_fits left i ≡ true → Leads (iteration_written i) ls r → ends_iteration r ≡ true
    → iteration_of left ls ≡ done i r
unfolding iteration_of starts
iteration_complete left iterations.Forever ls r okay l end =
    rw (
      l,
      not-true (sees_word (codes "while") r)
          (first_true (not_word (codes "while") r) (not_word (codes "for") r) (second_true (ends_expression r) (no_loop r) end)),
      not-true (sees_word (codes "for") r)
          (second_true (not_word (codes "while") r) (not_word (codes "for") r) (second_true (ends_expression r) (no_loop r) end)),
    ) refl
iteration_complete left (iterations.While place condition) ls r okay l end =
    rw (sees_word_at_first (codes "while") place (expression_written condition) ls r l)
    ((while_exact left).complete (place, condition) ls r tt okay l (first_true (ends_expression r) (no_loop r) end))
iteration_complete left (iterations.For place parameter reverse low high) ls r okay l end =
    let behind_for : List Written =
    identifier_written parameter ∷ word (codes "in") ∷ (flag reverse (word (codes "reverse") ∷ []) ++ bounds_written (low, high)) in
    rw (
      first_is (sees_word (codes "while")) false (word_at place (codes "for")) (λ l ls. refl) behind_for ls r l,
      sees_word_at_first (codes "for") place behind_for ls r l,
    )
    ((for_exact left).complete (place, (parameter, (reverse, (low, high)))) ls r tt okay l (first_true (ends_expression r) (no_loop r) end))

pub iteration_exact : (left : ℕ) → Exact iteration_written (iteration_fits left) ends_iteration (iteration_of left)
iteration_exact left = record { sound = (iteration_sound left).by; complete = λ i ls r q okay l end. iteration_complete left i ls r okay l end }

-- ---- handled exceptions (11.2): name {"|" name} | "others"

abbrev named_exceptions : OneOrMore Name → HandledExceptions
named_exceptions names = exceptions.Named names

abbrev other_exceptions : Place → HandledExceptions
other_exceptions p = exceptions.Others p

named_exceptions_exact : Rest named_exceptions Any (separated (delimiter (codes "|")) name_written) shapeless ends_exceptions
    (names_of (codes "|") >>= λ names. pure (exceptions.Named names))
unfolding starts
named_exceptions_exact =
    closing named_exceptions Any ends_exceptions itself (separated (delimiter (codes "|")) name_written) shapeless (names_of (codes "|")) itself
    (names_exact (codes "|") (λ r e. seen_delimiter (not_delimiter (codes ".")) true (codes "|") (λ p ls. refl) r e)) (λ n. tt) (λ n. refl) (λ n i q e. e)

other_exceptions_exact : Rest other_exceptions Any (λ p. word_at p (codes "others") ∷ []) shapeless always
    (the_word (codes "others") >>= λ place. pure (exceptions.Others place))
other_exceptions_exact =
    closing other_exceptions Any always itself (λ p. word_at p (codes "others") ∷ []) shapeless (the_word (codes "others")) itself (word_exact (codes "others"))
    (λ p. tt) (λ p. refl) (λ p i q e. e)

exceptions_sound : Sound itself exceptions_written shapeless exceptions_of
unfolding exceptions_of
exceptions_sound =
    either (sees_word (codes "others")) (one_form other_exceptions other_exceptions_exact (λ p. refl) (λ p. refl))
    (one_form named_exceptions named_exceptions_exact (λ n. refl) (λ n. refl))

exceptions_complete : (x : HandledExceptions) (ls r : List Lexeme) → Leads (exceptions_written x) ls r → ends_exceptions r ≡ true → exceptions_of ls ≡ done x r
unfolding exceptions_of
exceptions_complete (exceptions.Named names) ls r l end =
    rw (not-true (sees_word (codes "others") ls)
    (identifier_no_others ls (name_begins names.first (flat_map (behind (delimiter (codes "|")) name_written) names.others) ls r l)))
    (named_exceptions_exact.complete names ls r tt refl l end)
exceptions_complete (exceptions.Others p) ls r l end =
    rw (sees_word_at_first (codes "others") p [] ls r l) (other_exceptions_exact.complete p ls r tt refl l refl)

pub exceptions_exact : Exact exceptions_written shapeless ends_exceptions exceptions_of
exceptions_exact = record { sound = exceptions_sound.by; complete = λ x ls r q okay l end. exceptions_complete x ls r l end }

-- ---- exits (5.7)

pub loop_name_exact : Exact (optional one_identifier) (optional_fits shapeless) not_identifier loop_name_of
unfolding loop_name_of
loop_name_exact =
    optionally sees_identifier one_identifier shapeless not_identifier _
    (closing (λ (n : Identifier). Some n) Any not_identifier itself one_identifier shapeless an_identifier itself
    (narrower itself Any one_identifier shapeless always not_identifier an_identifier identifier_exact (λ r e. refl)) (λ n. tt) (λ n. refl) (λ n i p e. e))
    (λ n ls r l. sees_identifier_first n [] ls r l) (λ r e. not-true (sees_identifier r) e)

pub when_exact : (left : ℕ) → Exact (optional when_written) (optional_fits (value_fits left)) ends_when (when_of left)
unfolding when_of
when_exact left =
    optionally (sees_word (codes "when")) when_written (value_fits left) ends_when _
    (word_then (λ (e : Expression). Some e) Any expression_written (value_fits left) ends_when (codes "when") _
    (closing (λ (e : Expression). Some e) Any ends_when itself expression_written (value_fits left) (expression_of left) itself
    (narrower itself Any expression_written (value_fits left) ends_expression ends_when (expression_of left) (expression_exact left)
    (λ r e. first_true (ends_expression r) (not_word (codes "when") r) e))
    (λ e. tt) (λ e. refl) (λ e i p q. q)))
    (λ e ls r l. sees_word_first (codes "when") (expression_written e) ls r l)
    (λ r e. not-true (sees_word (codes "when") r) (second_true (ends_expression r) (not_word (codes "when") r) e))

no_loop_name : (condition : Option Expression) (ls r : List Lexeme) → Leads (optional when_written condition ++ semicolon) ls r → not_identifier ls ≡ true
unfolding starts is_reserved
no_loop_name condition ls r l =
    first_optional not_identifier true when_written semicolon
    (λ e ls m l. first_is not_identifier true (word (codes "when")) (λ l ls. refl) (expression_written e) ls m l)
    (λ ls r l. first_is not_identifier true (delimiter (codes ";")) (λ l ls. refl) [] ls r l) condition ls r l

pub exit_exact : (left : ℕ) → Rest {X = Statement Sequence} (λ (e : Exit). statements.Exit e) Any exit_written (exit_fits left) always (exit_of left)
unfolding exit_of starts
exit_exact left =
    let make : Exit → Statement Sequence = λ e. statements.Exit e in
    word_kept make Any _ _ always (λ e. e.place) (codes "exit") _
    (λ place. plain make _ (λ e. optional when_written e.condition ++ semicolon) _ always (λ e. e.loop_name) (optional one_identifier)
    (optional_fits shapeless) not_identifier loop_name_of _ loop_name_exact optional_shapeless
    (λ e ls r p l end. no_loop_name e.condition ls r l)
    (λ loop_name. last_before make _ (delimiter (codes ";")) _ always (λ e. e.condition) (optional when_written) (optional_fits (value_fits left)) ends_when
    (when_of left) _ (when_exact left) (λ l ls. refl)
    (λ condition. delimiter_ends make _ (codes ";") (record { place = place; loop_name = loop_name; condition = condition }) (((tt, refl), refl), refl)
    (λ j p. rw (p.0.0.1, p.0.1, p.1) refl))))

-- ---- null, return, raise, abort, requeue

pub null_exact : Rest {X = Statement Sequence} (λ (p : Place). statements.Null p) Any (λ p. word_at p (codes "null") ∷ semicolon) shapeless always null_of
unfolding null_of
null_exact =
    let make : Place → Statement Sequence = λ p. statements.Null p in
    word_kept make Any _ _ always itself (codes "null") _ (λ place. delimiter_ends make _ (codes ";") place (tt, refl) (λ j p. p.1))

-- a result's value, or none
abbrev no_result : Unit {0} → Option Expression
no_result u = None

abbrev a_result : Expression → Option Expression
a_result e = Some e

result_exact : (left : ℕ) → Rest a_result Any expression_written (value_fits left) ends_expression (expression_of left >>= λ value. pure (Some value))
result_exact left =
    closing a_result Any ends_expression itself expression_written (value_fits left) (expression_of left) itself (expression_exact left) (λ e. tt) (λ e. refl)
    (λ e i p q. q)

no_result_exact : Rest no_result Any (λ u. []) shapeless always (pure None)
no_result_exact = ready no_result Any always tt tt (λ u p. refl)

result_sound : (left : ℕ) → Sound itself (optional expression_written) (optional_fits (value_fits left)) (result_value_of left)
unfolding result_value_of
result_sound left =
    either (sees_delimiter (codes ";")) (one_form no_result no_result_exact (λ u. refl) (λ u. refl))
    (one_form a_result (result_exact left) (λ e. refl) (λ e. refl))

result_complete : (left : ℕ) (o : Option Expression) (ls r : List Lexeme) → optional_fits (value_fits left) o ≡ true
    → Leads (optional expression_written o) ls r → ends_result r ≡ true → result_value_of left ls ≡ done o r
unfolding result_value_of starts
result_complete left None ls r okay l end = rw (l, end) refl
result_complete left (Some e) ls r okay l end =
    rw (not-true (sees_delimiter (codes ";") ls) (value_is_no_semicolon e ls r l))
    ((result_exact left).complete e ls r tt okay l (seen_delimiter ends_expression true (codes ";") (λ p ls. refl) r end))

pub result_value_exact : (left : ℕ) → Exact (optional expression_written) (optional_fits (value_fits left)) ends_result (result_value_of left)
result_value_exact left = record { sound = (result_sound left).by; complete = λ o ls r q okay l end. result_complete left o ls r okay l end }

pub return_exact : (left : ℕ)
    → Rest {X = Statement Sequence} (λ (x : Place × Option Expression). statements.Return x.0 x.1) Any
    (λ x. word_at x.0 (codes "return") ∷ (optional expression_written x.1 ++ semicolon)) (λ x. optional_fits (value_fits left) x.1) always (return_of left)
unfolding return_of starts
return_exact left =
    let make : Place × Option Expression → Statement Sequence = λ x. statements.Return x.0 x.1 in
    word_kept make Any _ _ always (λ x. x.0) (codes "return") _
    (λ place. last_before make _ (delimiter (codes ";")) _ always (λ x. x.1) (optional expression_written) (optional_fits (value_fits left)) ends_result
    (result_value_of left) _ (result_value_exact left) (λ l ls. refl)
    (λ value. delimiter_ends make _ (codes ";") (place, value) ((tt, refl), refl) (λ j p. rw (p.0.1, p.1) refl)))

pub exception_name_exact : Exact (optional name_written) (optional_fits shapeless) ends_name exception_name_of
unfolding exception_name_of
exception_name_exact =
    optionally sees_identifier name_written shapeless ends_name _
    (closing (λ (n : Name). Some n) Any ends_name itself name_written shapeless name_of itself
    (narrower itself Any name_written shapeless (not_delimiter (codes ".")) ends_name name_of name_exact
    (λ r e. first_true (not_delimiter (codes ".") r) (not_identifier r) e))
    (λ n. tt) (λ n. refl) (λ n i p q. q))
    (λ n ls r l. sees_identifier_first n.parts.first (flat_map (behind (delimiter (codes ".")) one_identifier) n.parts.others) ls r l)
    (λ r e. not-true (sees_identifier r) (second_true (not_delimiter (codes ".") r) (not_identifier r) e))

pub raise_exact : Rest {X = Statement Sequence} (λ (x : Place × Option Name). statements.Raise x.0 x.1) Any
    (λ x. word_at x.0 (codes "raise") ∷ (optional name_written x.1 ++ semicolon)) shapeless always raise_of
unfolding raise_of starts
raise_exact =
    let make : Place × Option Name → Statement Sequence = λ x. statements.Raise x.0 x.1 in
    word_kept make Any _ _ always (λ x. x.0) (codes "raise") _
    (λ place. plain_before make _ (delimiter (codes ";")) _ always (λ x. x.1) (optional name_written)
    (optional_fits shapeless) ends_name exception_name_of _ exception_name_exact (λ l ls. refl) _ optional_shapeless
    (λ exception. delimiter_ends make _ (codes ";") (place, exception) ((tt, refl), refl) (λ j p. rw (p.0.1, p.1) refl)))

pub abort_exact : Rest {X = Statement Sequence} (λ (x : Place × OneOrMore Name). statements.Abort x.0 x.1) Any
    (λ x. word_at x.0 (codes "abort") ∷ (separated (delimiter (codes ",")) name_written x.1 ++ semicolon)) shapeless always abort_of
unfolding abort_of starts
abort_exact =
    let make : Place × OneOrMore Name → Statement Sequence = λ x. statements.Abort x.0 x.1 in
    word_kept make Any _ _ always (λ x. x.0) (codes "abort") _
    (λ place. plain_before make _ (delimiter (codes ";")) _ always (λ x. x.1) (separated (delimiter (codes ",")) name_written) shapeless
    (ends_names (codes ",")) (names_of (codes ",")) _
    (names_exact (codes ",") (λ r e. seen_delimiter (not_delimiter (codes ".")) true (codes ",") (λ p ls. refl) r e)) (λ l ls. refl) _ (λ a. refl)
    (λ tasks. delimiter_ends make _ (codes ";") (place, tasks) ((tt, refl), refl) (λ j p. rw (p.0.1, p.1) refl)))

-- ["with" "abort"]
abbrev with_it : Unit {0} → Bool
with_it u = true

abbrev without_it : Unit {0} → Bool
without_it u = false

with_exact : Rest with_it Any (λ u. word (codes "with") ∷ word (codes "abort") ∷ []) shapeless always
    (the_word (codes "with") >> (the_word (codes "abort") >> pure true))
with_exact = word_then with_it Any _ _ always (codes "with") _ (word_ends with_it Any (codes "abort") tt tt (λ u p. refl))

without_exact : Rest without_it Any (λ u. []) shapeless always (pure false)
without_exact = ready without_it Any always tt tt (λ u p. refl)

with_abort_sound : Sound itself with_abort_written shapeless with_abort_of
unfolding with_abort_of
with_abort_sound =
    either (sees_word (codes "with")) (one_form with_it with_exact (λ u. refl) (λ u. refl)) (one_form without_it without_exact (λ u. refl) (λ u. refl))

with_abort_complete : (b : Bool) (ls r : List Lexeme) → Leads (with_abort_written b) ls r → not_word (codes "with") r ≡ true → with_abort_of ls ≡ done b r
unfolding with_abort_of
with_abort_complete true ls r l end = rw (sees_word_first (codes "with") (word (codes "abort") ∷ []) ls r l) (with_exact.complete tt ls r tt refl l refl)
with_abort_complete false ls r l end = rw (l, not-true (sees_word (codes "with") r) end) refl

pub with_abort_exact : Exact with_abort_written shapeless (not_word (codes "with")) with_abort_of
with_abort_exact = record { sound = with_abort_sound.by; complete = λ b ls r q okay l end. with_abort_complete b ls r l end }

pub requeue_exact : Rest {X = Statement Sequence} (λ (x : Place × (Name × Bool)). statements.Requeue x.0 x.1.0 x.1.1) Any
    (λ x. word_at x.0 (codes "requeue") ∷ (name_written x.1.0 ++ (with_abort_written x.1.1 ++ semicolon))) shapeless always requeue_of
unfolding requeue_of starts
requeue_exact =
    let make : Place × (Name × Bool) → Statement Sequence = λ x. statements.Requeue x.0 x.1.0 x.1.1 in
    word_kept make Any _ _ always (λ x. x.0) (codes "requeue") _
    (λ place. plain make _ (λ x. with_abort_written x.1.1 ++ semicolon) _ always (λ x. x.1.0) name_written shapeless
    (not_delimiter (codes ".")) name_of _ name_exact (λ a. refl)
    (λ x ls r p l end. stop_flag (not_delimiter (codes ".")) x.1.1 (word (codes "with") ∷ word (codes "abort") ∷ []) semicolon
    (λ ls r l. first_is (not_delimiter (codes ".")) true (word (codes "with")) (λ l ls. refl) (word (codes "abort") ∷ semicolon) ls r l)
    (λ ls r l. first_is (not_delimiter (codes ".")) true (delimiter (codes ";")) (λ l ls. refl) [] ls r l) ls r l)
    (λ entry. plain_before make _ (delimiter (codes ";")) _ always (λ x. x.1.1) with_abort_written shapeless
    (not_word (codes "with")) with_abort_of _ with_abort_exact (λ l ls. refl) _ (λ a. refl)
    (λ with_abort. delimiter_ends make _ (codes ";") (place, (entry, with_abort)) (((tt, refl), refl), refl) (λ j p. rw (p.0.0.1, p.0.1, p.1) refl))))

-- ---- the name of a loop or a block behind its end
