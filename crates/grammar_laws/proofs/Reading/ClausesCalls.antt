-- Assignments, calls and delays (5.2, 6.4, 9.5.3, 9.6).
use Rattle.std.proofs.Common.{◌≡◌, ℕ, zero, suc, Bool, true, false, ◌&&◌, List, [], ◌∷◌, ◌++◌, refl, ap, codes}
use Rattle.std.specs.Prelude.{Option, Some, None}
use Rattle.ada_tree.specs.declared.names.Identifier.{Identifier}
use Rattle.ada_tree.specs.declared.names.Name.{Name}
use Rattle.ada_tree.specs.declared.expressions.Expression.{Expression}
use Rattle.ada_tree.specs.declared.expressions.Argument.{Argument}
use Rattle.ada_tree.specs.declared.statements.Statement.{Statement}
use Rattle.ada_tree.specs.declared.statements.Statement.TheVariants as statements
use Rattle.ada_tree.specs.declared.statements.SequenceRole.{SequenceRole}
use Rattle.ada_tree.specs.declared.statements.Sequence.{Sequence}
use Rattle.ada_tree.specs.declared.statements.Assignment.{Assignment}
use Rattle.ada_tree.specs.declared.statements.Call.{Call}
use Rattle.ada_tree.specs.Written.{Written, Lexeme, word, delimiter, flag, optional, name_written}
use Rattle.ada_tree.specs.SpellingExpressions.{expression_written, argument_written, arguments_written}
use Rattle.ada_tree.specs.SpellingStatements.{semicolon, index_written, assignment_written, call_written, delay_written, statement_written}
use Rattle.ada_tree.specs.ShapeExpressions.{optional_fits, expression_fits, arguments_fit}
use Rattle.ada_tree.specs.ShapeStatements.{value_fits, index_fits, assignment_fits, call_fits, delay_fits, parts_fit}
use Rattle.ada_grammar.specs.Reading.{Parser, ◌>>=◌, ◌>>◌, pure, starts, sees_delimiter, the_delimiter, flag_of, name_of}
use Rattle.ada_grammar.specs.ReadingExpressions.{expression_of}
use Rattle.ada_grammar.specs.ReadingSimple.{all_arguments_of, only_index_of, index_of, assignment_behind_of, call_behind_of, simple_of, call_of, delay_of}
use Rattle.grammar_laws.specs.Leads.{Leads}
use Rattle.grammar_laws.proofs.Reading.Leading.{as_written}
use Rattle.grammar_laws.proofs.Reading.Exact.{done, Rest, Any, itself, Exact, plain, respelt, reshaped, first_is}
use Rattle.grammar_laws.proofs.Reading.Tokens.{always, shapeless, not_word, delimiter_then, flag_exact, sees_delimiter_first}
use Rattle.grammar_laws.proofs.Reading.Names.{not_delimiter, name_exact}
use Rattle.grammar_laws.proofs.Reading.Choices.{Sound, one_form}
use Rattle.grammar_laws.proofs.Reading.Ends.{ends_expression, ends_arguments}
use Rattle.grammar_laws.proofs.Reading.Expressions.{expression_exact, arguments_exact}
use Rattle.grammar_laws.proofs.Reading.ClausesEnds.{stop_enclosed}
use Rattle.grammar_laws.proofs.Reading.ClausesSteps.{delimiter_ends, field_before, last_before, word_kept, known}
use Rattle.grammar_laws.proofs.Reading.ClausesSteps.{no_item, carried, chosen_by, passed_by, forked_behind}
use Rattle.grammar_laws.proofs.Reading.ClausesValues.{value_no_until}

-- ---- calls

abbrev actuals_written : List (Argument Expression) → List Written
actuals_written arguments = arguments_written expression_written arguments

-- behind a name: no point, but arguments or what may stand there without them
no_point : (token : Written) (w : List Written) → ((l : Lexeme) (ls : List Lexeme) → not_delimiter (codes ".") (as_written token l ∷ ls) ≡ true)
    → (arguments : List (Argument Expression)) (ls r : List Lexeme) → Leads (actuals_written arguments ++ token ∷ w) ls r → not_delimiter (codes ".") ls ≡ true
unfolding starts
no_point token w on arguments ls r l =
    stop_enclosed (not_delimiter (codes ".")) true (delimiter (codes "(")) (delimiter (codes ",")) (delimiter (codes ")") ∷ [])
    (argument_written expression_written) (token ∷ w)
    (λ l ls. refl) (λ ls r l. first_is (not_delimiter (codes ".")) true token on w ls r l) arguments ls r l

pub call_exact : (left : ℕ) → Exact call_written (call_fits left) always (call_of left)
unfolding call_of starts
call_exact left =
    plain itself Any (λ c. actuals_written c.arguments ++ semicolon) (call_fits left) always (λ c. c.name) name_written shapeless
    (not_delimiter (codes ".")) name_of _ name_exact (λ a. refl)
    (λ c ls r p l end. no_point (delimiter (codes ";")) [] (λ l ls. refl) c.arguments ls r l)
    (λ name. last_before itself _ (delimiter (codes ";")) _ always (λ c. c.arguments) actuals_written (arguments_fit expression_fits left) ends_arguments
    (all_arguments_of left) _ (arguments_exact left) (λ l ls. refl)
    (λ arguments. delimiter_ends itself _ (codes ";") (record { name = name; arguments = arguments }) ((tt, refl), refl) (λ j p. rw (p.0.1, p.1) refl)))

-- "delay" ["until"] expression ";"
pub delay_exact : (left : ℕ) → Exact delay_written (delay_fits left) always (delay_of left)
unfolding delay_of starts
delay_exact left =
    word_kept itself Any _ _ always (λ d. d.place) (codes "delay") _
    (λ place. plain itself _ (λ d. expression_written d.value ++ semicolon) _ always (λ d. d.until) (λ b. flag b (word (codes "until") ∷ [])) shapeless
    (not_word (codes "until")) (flag_of (codes "until")) _ (flag_exact (codes "until")) (λ a. refl)
    (λ d ls r p l end. value_no_until d.value semicolon ls r l)
    (λ until. last_before itself _ (delimiter (codes ";")) _ always (λ d. d.value) expression_written (value_fits left) ends_expression (expression_of left) _
    (expression_exact left) (λ l ls. refl)
    (λ value. delimiter_ends itself _ (codes ";") (record { place = place; until = until; value = value }) (((tt, refl), refl), refl)
    (λ j p. rw (p.0.0.1, p.0.1, p.1) refl))))

-- ---- an assignment or a call: the same until the arguments are read

-- the call, by a parser of its own
abbrev call_whole_of : ℕ → Parser (Statement Sequence)
call_whole_of left = name_of >>= λ name. all_arguments_of left >>= λ arguments. call_behind_of name arguments

pub call_statement_exact : (left : ℕ) → Rest (λ (c : Call). statements.Call c) Any call_written (call_fits left) always (call_whole_of left)
unfolding call_behind_of starts
call_statement_exact left =
    let make : Call → Statement Sequence = λ c. statements.Call c in
    plain make Any (λ c. actuals_written c.arguments ++ semicolon) (call_fits left) always (λ c. c.name) name_written shapeless
    (not_delimiter (codes ".")) name_of _ name_exact (λ a. refl)
    (λ c ls r p l end. no_point (delimiter (codes ";")) [] (λ l ls. refl) c.arguments ls r l)
    (λ name. last_before make _ (delimiter (codes ";")) _ always (λ c. c.arguments) actuals_written (arguments_fit expression_fits left) ends_arguments
    (all_arguments_of left) _ (arguments_exact left) (λ l ls. refl)
    (λ arguments. delimiter_ends make _ (codes ";") (record { name = name; arguments = arguments }) ((tt, refl), refl) (λ j p. rw (p.0.1, p.1) refl)))

-- what the index of an element is among arguments
abbrev only_index : Expression → List (Argument Expression)
only_index value = record { formal = None; value = value } ∷ []

abbrev index_given : Option Expression → List (Argument Expression)
index_given None = []
index_given (Some value) = only_index value

index_spelt : (o : Option Expression) → actuals_written (index_given o) ≡ optional index_written o
index_spelt None = refl
index_spelt (Some value) = refl

and_true : (b : Bool) → (b && true) ≡ b
and_true true = refl
and_true false = refl

index_shaped : (left : ℕ) (o : Option Expression) → arguments_fit expression_fits left (index_given o) ≡ optional_fits (index_fits left) o
index_shaped left None = refl
index_shaped zero (Some value) = refl
index_shaped (suc m) (Some value) = and_true (value_fits m value)

-- from ":=" on
abbrev becomes_of : ℕ → Name → Option Expression → Parser (Statement Sequence)
becomes_of left target index = do
  the_delimiter (codes ":=")
  value ← expression_of left
  the_delimiter (codes ";")
  pure (statements.Assignment (record { target = target; index = index; value = value }))

abbrev assigns : Assignment → Statement Sequence
assigns a = statements.Assignment a

abbrev value_behind : Assignment → List Written
value_behind a = delimiter (codes ":=") ∷ (expression_written a.value ++ semicolon)

abbrev Aimed : Name → Assignment → Type 0
Aimed target a = Any a × (target ≡ a.target)

becomes_exact : (left : ℕ) (target : Name) (index : Option Expression)
    → Rest assigns (λ a. Aimed target a × (index ≡ a.index)) value_behind (λ a. value_fits left a.value) always (becomes_of left target index)
unfolding starts
becomes_exact left target index =
    delimiter_then assigns (λ a. Aimed target a × (index ≡ a.index)) _ _ always (codes ":=") _
    (last_before assigns _ (delimiter (codes ";")) _ always (λ a. a.value) expression_written (value_fits left) ends_expression (expression_of left) _
    (expression_exact left) (λ l ls. refl)
    (λ value. delimiter_ends assigns _ (codes ";") (record { target = target; index = index; value = value }) (((tt, refl), refl), refl)
    (λ j p. rw (p.0.0.1, p.0.1, p.1) refl)))

not_given : (o : Option Expression) → [] ≡ index_given o → None ≡ o
not_given None e = refl
not_given (Some value) e = absurd cc

abbrev first_value : Expression → List (Argument Expression) → Expression
first_value other [] = other
first_value other (a ∷ more) = a.value

given_once : (value : Expression) (o : Option Expression) → only_index value ≡ index_given o → Some value ≡ o
given_once value None e = absurd cc
given_once value (Some other) e = ap (λ (xs : List (Argument Expression)). Some (first_value value xs)) e

abbrev first_formal : List (Argument Expression) → Option Identifier
first_formal [] = None
first_formal (a ∷ more) = a.formal

some_none : (formal : Identifier) → Some formal ≡ None → ⊥
some_none formal e = absurd cc

never_named : (formal : Identifier) (value : Expression) (o : Option Expression) → record { formal = Some formal; value = value } ∷ [] ≡ index_given o → ⊥
never_named formal value None e = absurd cc
never_named formal value (Some other) e = some_none formal (ap first_formal e)

never_more : (a b : Argument Expression) (more : List (Argument Expression)) (o : Option Expression) → a ∷ b ∷ more ≡ index_given o → ⊥
never_more a b more None e = absurd cc
never_more a b more (Some other) e = absurd cc

abbrev Given : Name → List (Argument Expression) → Assignment → Type 0
Given target arguments a = Aimed target a × (arguments ≡ index_given a.index)

one_given : (left : ℕ) (target : Name) (formal : Option Identifier) (value : Expression)
    → Rest assigns (Given target (record { formal = formal; value = value } ∷ [])) value_behind (λ a. value_fits left a.value) always
    (only_index_of formal value >>= becomes_of left target)
one_given left target None value =
    known assigns (λ a. Aimed target a × (Some value ≡ a.index)) (Given target (only_index value)) value_behind (λ a. value_fits left a.value) always
    (becomes_of left target (Some value))
    (becomes_exact left target (Some value)) (λ a p. (p.0, ap index_given p.1)) (λ a p. (p.0, given_once value a.index p.1))
one_given left target (Some formal) value =
    no_item assigns (Given target (record { formal = Some formal; value = value } ∷ [])) value_behind (λ a. value_fits left a.value) always
    (only_index_of (Some formal) value >>= becomes_of left target)
    (λ ls x r e. absurd cc) (λ a p. never_named formal value a.index p.1)

assignment_behind_exact : (left : ℕ) (target : Name) (arguments : List (Argument Expression))
    → Rest assigns (Given target arguments) value_behind (λ a. value_fits left a.value) always (assignment_behind_of left target arguments)
unfolding assignment_behind_of
assignment_behind_exact left target [] =
    known assigns (λ a. Aimed target a × (None ≡ a.index)) (Given target []) value_behind (λ a. value_fits left a.value) always (becomes_of left target None)
    (becomes_exact left target None) (λ a p. (p.0, ap index_given p.1)) (λ a p. (p.0, not_given a.index p.1))
assignment_behind_exact left target (a ∷ []) = one_given left target a.formal a.value
assignment_behind_exact left target (a ∷ b ∷ more) =
    no_item assigns (Given target (a ∷ b ∷ more)) value_behind (λ a. value_fits left a.value) always (index_of (a ∷ b ∷ more) >>= becomes_of left target)
    (λ ls x r e. absurd cc) (λ i p. never_more a b more i.index p.1)

-- the assignment, by a parser of its own
abbrev assignment_whole_of : ℕ → Parser (Statement Sequence)
assignment_whole_of left = name_of >>= λ name. all_arguments_of left >>= λ arguments. assignment_behind_of left name arguments

abbrev assignment_respelt : Assignment → List Written
assignment_respelt a = name_written a.target ++ (actuals_written (index_given a.index) ++ value_behind a)

assignment_same : (a : Assignment) → assignment_respelt a ≡ assignment_written a
assignment_same a = rw (index_spelt a.index) refl

abbrev assignment_refit : ℕ → Assignment → Bool
assignment_refit left a = arguments_fit expression_fits left (index_given a.index) && value_fits left a.value

assignment_refits : (left : ℕ) (a : Assignment) → assignment_refit left a ≡ assignment_fits left a
assignment_refits left a = rw (index_shaped left a.index) refl

pub assignment_statement_exact : (left : ℕ) → Rest assigns Any assignment_written (assignment_fits left) always (assignment_whole_of left)
unfolding starts
assignment_statement_exact left =
    reshaped assigns Any assignment_written (assignment_refit left) (assignment_fits left) always (assignment_whole_of left)
    (respelt assigns Any assignment_respelt assignment_written (assignment_refit left) always (assignment_whole_of left)
    (plain assigns Any (λ a. actuals_written (index_given a.index) ++ value_behind a) (assignment_refit left) always (λ a. a.target) name_written shapeless
    (not_delimiter (codes ".")) name_of _ name_exact (λ a. refl)
    (λ a ls r p l end. no_point (delimiter (codes ":=")) (expression_written a.value ++ semicolon) (λ l ls. refl) (index_given a.index) ls r l)
    (λ name. field_before assigns (Aimed name) (delimiter (codes ":=")) (λ a. expression_written a.value ++ semicolon) always
    (λ a. index_given a.index) actuals_written (arguments_fit expression_fits left) ends_arguments (all_arguments_of left) _ (arguments_exact left)
    (λ l ls. refl) (λ a. value_fits left a.value)
    (λ arguments. assignment_behind_exact left name arguments)))
    assignment_same) (assignment_refits left)

-- ---- both

module _ (sequence : Sequence → SequenceRole → List Written) (fits : Sequence → SequenceRole → ℕ → Bool) where
  pub simple_sound : (left : ℕ) → Sound itself (statement_written sequence) (λ s. parts_fit fits s left) (simple_of left)
  unfolding simple_of
  simple_sound left =
      forked_behind name_of (all_arguments_of left) (sees_delimiter (codes ":=")) (assignment_behind_of left) call_behind_of
      (one_form assigns (assignment_statement_exact left) (λ a. refl) (λ a. refl))
      (one_form (λ (c : Call). statements.Call c) (call_statement_exact left) (λ c. refl) (λ c. refl))

becomes_seen : (left : ℕ) (target : Name) (arguments : List (Argument Expression)) (m : List Lexeme) (x : Statement Sequence) (r : List Lexeme)
    → assignment_behind_of left target arguments m ≡ done x r → sees_delimiter (codes ":=") m ≡ true
becomes_seen left target arguments m x r e =
    let f = (assignment_behind_exact left target arguments).sound m x r e in
    sees_delimiter_first (codes ":=") (expression_written f.item.value ++ semicolon) m r f.leads

call_behind_exact : (name : Name) (arguments : List (Argument Expression))
    → Rest {X = Statement Sequence} (λ (u : Unit {0}). statements.Call (record { name = name; arguments = arguments })) Any (λ u. semicolon) shapeless always
    (call_behind_of name arguments)
unfolding call_behind_of
call_behind_exact name arguments =
    delimiter_ends (λ (u : Unit {0}). statements.Call (record { name = name; arguments = arguments })) Any (codes ";") tt tt (λ u p. refl)

semicolon_seen : (name : Name) (arguments : List (Argument Expression)) (m : List Lexeme) (x : Statement Sequence) (r : List Lexeme)
    → call_behind_of name arguments m ≡ done x r → sees_delimiter (codes ":=") m ≡ false
unfolding starts
semicolon_seen name arguments m x r e =
    let f = (call_behind_exact name arguments).sound m x r e in
    first_is (sees_delimiter (codes ":=")) false (delimiter (codes ";")) (λ l ls. refl) [] m r f.leads

pub assignment_complete : (left : ℕ) (a : Assignment) (ls r : List Lexeme) → assignment_fits left a ≡ true → Leads (assignment_written a) ls r
    → simple_of {Q = Sequence} left ls ≡ done (statements.Assignment a) r
unfolding simple_of
assignment_complete left a ls r okay l =
    carried name_of (λ name. all_arguments_of left >>= λ arguments. assignment_behind_of left name arguments) _ ls (statements.Assignment a) r
    (λ name m e. carried (all_arguments_of left) (assignment_behind_of left name) _ m (statements.Assignment a) r
    (λ arguments n e. chosen_by (sees_delimiter (codes ":=")) (assignment_behind_of left name arguments) (call_behind_of name arguments) n
    (statements.Assignment a) r (becomes_seen left name arguments n (statements.Assignment a) r) e) e)
    ((assignment_statement_exact left).complete a ls r tt okay l refl)

pub call_complete : (left : ℕ) (c : Call) (ls r : List Lexeme) → call_fits left c ≡ true → Leads (call_written c) ls r
    → simple_of {Q = Sequence} left ls ≡ done (statements.Call c) r
unfolding simple_of
call_complete left c ls r okay l =
    carried name_of (λ name. all_arguments_of left >>= λ arguments. call_behind_of name arguments) _ ls (statements.Call c) r
    (λ name m e. carried (all_arguments_of left) (call_behind_of name) _ m (statements.Call c) r
    (λ arguments n e. passed_by (sees_delimiter (codes ":=")) (assignment_behind_of left name arguments) (call_behind_of name arguments) n (statements.Call c) r
    (semicolon_seen name arguments n (statements.Call c) r) e) e)
    ((call_statement_exact left).complete c ls r tt okay l refl)

-- ---- what they begin with
