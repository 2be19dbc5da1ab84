-- Objects, components, exceptions and uses (3.3.1, 3.8, 11.1, 8.4).
use Rattle.std.proofs.Common.{◌≡◌, ℕ, Bool, true, false, List, [], ◌∷◌, ◌++◌, refl, codes}
use Rattle.std.specs.Prelude.{Option, Some}
use Rattle.std.proofs.lemmas.Bool.{not-true}
use Rattle.ann_base.specs.declared.places.Place.{Place}
use Rattle.ada_tree.specs.declared.names.Identifier.{Identifier}
use Rattle.ada_tree.specs.declared.names.Name.{Name}
use Rattle.ada_tree.specs.declared.names.OneOrMore.{OneOrMore}
use Rattle.ada_tree.specs.declared.expressions.Expression.{Expression}
use Rattle.ada_tree.specs.declared.statements.Sequence.{Sequence}
use Rattle.ada_tree.specs.declared.statements.SequenceRole.{SequenceRole}
use Rattle.ada_tree.specs.declared.declarations.Declaration.{Declaration}
use Rattle.ada_tree.specs.declared.declarations.Declaration.TheVariants as declarations
use Rattle.ada_tree.specs.declared.declarations.ObjectDeclaration.{ObjectDeclaration}
use Rattle.ada_tree.specs.declared.declarations.Component.{Component}
use Rattle.ada_tree.specs.Written.{Written, Lexeme, word, word_at, delimiter, flag, optional, name_written, identifiers_written}
use Rattle.ada_tree.specs.SpellingExpressions.{expression_written}
use Rattle.ada_tree.specs.SpellingStatements.{semicolon, indication_written}
use Rattle.ada_tree.specs.SpellingDeclarations.{becomes_written, object_written, component_written, declaration_written}
use Rattle.ada_tree.specs.ShapeExpressions.{optional_fits}
use Rattle.ada_tree.specs.ShapeStatements.{value_fits, indication_fits}
use Rattle.ada_tree.specs.ShapeDeclarations.{object_fits, component_fits, declaration_fits}
use Rattle.ada_grammar.specs.Reading.{Parser, ◌>>=◌, starts, sees_delimiter, sees_word, sees_identifier, the_delimiter, flag_of, identifiers_of, name_of}
use Rattle.ada_grammar.specs.ReadingExpressions.{expression_of}
use Rattle.ada_grammar.specs.ReadingSimple.{subtype_indication_of}
use Rattle.ada_grammar.specs.ReadingDeclarations.{initial_of, object_of, exception_of, named_declaration_of, component_of, use_of}
use Rattle.grammar_laws.specs.Leads.{Leads}
use Rattle.grammar_laws.proofs.Reading.Exact.{done, Rest, Any, itself, Exact, first_true, second_true, field}
use Rattle.grammar_laws.proofs.Reading.Exact.{plain, narrower, closing, first_is, first_optional, optionally}
use Rattle.grammar_laws.proofs.Reading.Tokens.{always, shapeless, not_word, word_then, delimiter_then, flag_exact, sees_delimiter_first, sees_word_first}
use Rattle.grammar_laws.proofs.Reading.Names.{not_delimiter, name_exact, identifiers_exact}
use Rattle.grammar_laws.proofs.Reading.Choices.{Sound, one_form}
use Rattle.grammar_laws.proofs.Reading.Ends.{ends_expression}
use Rattle.grammar_laws.proofs.Reading.Expressions.{expression_exact}
use Rattle.grammar_laws.proofs.Reading.ClausesEnds.{ends_subtype, ends_initial, stop_flag, identifier_no_aliased}
use Rattle.grammar_laws.proofs.Reading.ClausesEnds.{identifier_no_constant, identifier_no_exception}
use Rattle.grammar_laws.proofs.Reading.ClausesSteps.{delimiter_ends, last_before, plain_before, word_kept, carried, chosen_by, passed_by, forked_behind}
use Rattle.grammar_laws.proofs.Reading.ClausesSubtypes.{subtype_indication_exact, indication_begins, identifiers_begin}

-- [":=" expression]
pub initial_exact : (left : ℕ) → Exact (optional becomes_written) (optional_fits (value_fits left)) ends_initial (initial_of left)
unfolding initial_of
initial_exact left =
    optionally (sees_delimiter (codes ":=")) becomes_written (value_fits left) ends_initial _
    (delimiter_then (λ (e : Expression). Some e) Any expression_written (value_fits left) ends_initial (codes ":=") _
    (closing (λ (e : Expression). Some e) Any ends_initial itself expression_written (value_fits left) (expression_of left) itself
    (narrower itself Any expression_written (value_fits left) ends_expression ends_initial (expression_of left) (expression_exact left)
    (λ r e. first_true (ends_expression r) (not_delimiter (codes ":=") r) e))
    (λ e. tt) (λ e. refl) (λ e i p q. q)))
    (λ e ls r l. sees_delimiter_first (codes ":=") (expression_written e) ls r l)
    (λ r e. not-true (sees_delimiter (codes ":=") r) (second_true (ends_expression r) (not_delimiter (codes ":=") r) e))

abbrev initial_written : Option Expression → List Written
initial_written initial = optional becomes_written initial ++ semicolon

behind_subtype : (initial : Option Expression) (ls r : List Lexeme) → Leads (initial_written initial) ls r → ends_subtype ls ≡ true
unfolding starts
behind_subtype initial ls r l =
    first_optional ends_subtype true becomes_written semicolon
    (λ e ls m l. first_is ends_subtype true (delimiter (codes ":=")) (λ l ls. refl) (expression_written e) ls m l)
    (λ ls r l. first_is ends_subtype true (delimiter (codes ";")) (λ l ls. refl) [] ls r l) initial ls r l

-- ---- objects

abbrev object_made : ObjectDeclaration → Declaration Sequence
object_made o = declarations.Object o

abbrev indication_behind : ObjectDeclaration → List Written
indication_behind o = indication_written o.subtype ++ initial_written o.initial

abbrev constant_behind : ObjectDeclaration → List Written
constant_behind o = flag o.constant (word (codes "constant") ∷ []) ++ indication_behind o

-- behind the names and the colon
abbrev pub object_behind : ObjectDeclaration → List Written
object_behind o = flag o.aliased (word (codes "aliased") ∷ []) ++ constant_behind o

not_aliased : (o : ObjectDeclaration) (ls r : List Lexeme) → Leads (constant_behind o) ls r → not_word (codes "aliased") ls ≡ true
unfolding starts
not_aliased o ls r l =
    stop_flag (not_word (codes "aliased")) o.constant (word (codes "constant") ∷ []) (indication_behind o)
    (λ ls r l. first_is (not_word (codes "aliased")) true (word (codes "constant")) (λ l ls. refl) (indication_behind o) ls r l)
    (λ ls r l. identifier_no_aliased ls (indication_begins o.subtype (initial_written o.initial) ls r l)) ls r l

not_exception : (o : ObjectDeclaration) (ls r : List Lexeme) → Leads (object_behind o) ls r → not_word (codes "exception") ls ≡ true
unfolding starts
not_exception o ls r l =
    stop_flag (not_word (codes "exception")) o.aliased (word (codes "aliased") ∷ []) (constant_behind o)
    (λ ls r l. first_is (not_word (codes "exception")) true (word (codes "aliased")) (λ l ls. refl) (constant_behind o) ls r l)
    (λ ls r l. stop_flag (not_word (codes "exception")) o.constant (word (codes "constant") ∷ []) (indication_behind o)
    (λ ls r l. first_is (not_word (codes "exception")) true (word (codes "constant")) (λ l ls. refl) (indication_behind o) ls r l)
    (λ ls r l. identifier_no_exception ls (indication_begins o.subtype (initial_written o.initial) ls r l)) ls r l) ls r l

pub object_exact : (left : ℕ) (names : OneOrMore Identifier)
    → Rest {X = Declaration Sequence} (λ (o : ObjectDeclaration). declarations.Object o) (λ o. Any o × (names ≡ o.names)) object_behind
    (object_fits left) always (object_of left names)
unfolding object_of starts
object_exact left names =
    plain object_made (λ o. Any o × (names ≡ o.names)) constant_behind _ always (λ o. o.aliased) (λ b. flag b (word (codes "aliased") ∷ [])) shapeless
    (not_word (codes "aliased")) (flag_of (codes "aliased")) _ (flag_exact (codes "aliased")) (λ a. refl)
    (λ o ls r p l end. not_aliased o ls r l)
    (λ aliased. plain object_made _ indication_behind _ always (λ o. o.constant) (λ b. flag b (word (codes "constant") ∷ [])) shapeless
    (not_word (codes "constant")) (flag_of (codes "constant")) _ (flag_exact (codes "constant")) (λ a. refl)
    (λ o ls r p l end. identifier_no_constant ls (indication_begins o.subtype (initial_written o.initial) ls r l))
    (λ constant. field object_made _ (λ o. initial_written o.initial) (λ o. optional_fits (value_fits left) o.initial) always
    (λ o. o.subtype) indication_written (indication_fits left) ends_subtype (subtype_indication_of left) _ (subtype_indication_exact left)
    (λ o ls r p l end. behind_subtype o.initial ls r l)
    (λ subtype. last_before object_made _ (delimiter (codes ";")) _ always (λ o. o.initial) (optional becomes_written)
    (optional_fits (value_fits left)) ends_initial (initial_of left) _ (initial_exact left) (λ l ls. refl)
    (λ initial. delimiter_ends object_made _ (codes ";")
    (record { names = names; aliased = aliased; constant = constant; subtype = subtype; initial = initial }) (((((tt, refl), refl), refl), refl), refl)
    (λ j p. rw (p.0.0.0.0.1, p.0.0.0.1, p.0.0.1, p.0.1, p.1) refl)))))

-- ---- exceptions

abbrev exception_made : OneOrMore Identifier → Declaration Sequence
exception_made names = declarations.Exception names

pub exception_exact : (names : OneOrMore Identifier)
    → Rest {X = Declaration Sequence} (λ (n : OneOrMore Identifier). declarations.Exception n) (λ n. Any n × (names ≡ n))
    (λ n. word (codes "exception") ∷ semicolon) shapeless always (exception_of names)
unfolding exception_of
exception_exact names =
    word_then exception_made (λ n. Any n × (names ≡ n)) _ _ always (codes "exception") _
    (delimiter_ends exception_made _ (codes ";") names (tt, refl) (λ j p. p.1))

-- ---- both begin with names

abbrev object_whole_of : ℕ → Parser (Declaration Sequence)
object_whole_of left = identifiers_of >>= λ names. the_delimiter (codes ":") >>= λ colon. object_of left names

abbrev exception_whole_of : Parser (Declaration Sequence)
exception_whole_of = identifiers_of >>= λ names. the_delimiter (codes ":") >>= λ colon. exception_of names

pub object_whole_exact : (left : ℕ)
    → Rest (λ (o : ObjectDeclaration). declarations.Object o) Any object_written (object_fits left) always (object_whole_of left)
unfolding starts
object_whole_exact left =
    plain_before object_made Any (delimiter (codes ":")) object_behind always (λ o. o.names) identifiers_written shapeless
    (not_delimiter (codes ",")) identifiers_of _ identifiers_exact (λ l ls. refl) _ (λ a. refl)
    (λ names. delimiter_then object_made _ object_behind _ always (codes ":") _ (object_exact left names))

pub exception_whole_exact : Rest (λ (n : OneOrMore Identifier). declarations.Exception n) Any
    (λ n. identifiers_written n ++ delimiter (codes ":") ∷ word (codes "exception") ∷ semicolon) shapeless always exception_whole_of
unfolding starts
exception_whole_exact =
    plain_before exception_made Any (delimiter (codes ":")) (λ n. word (codes "exception") ∷ semicolon) always itself identifiers_written shapeless
    (not_delimiter (codes ",")) identifiers_of _ identifiers_exact (λ l ls. refl) _ (λ a. refl)
    (λ names. delimiter_then exception_made _ (λ n. word (codes "exception") ∷ semicolon) _ always (codes ":") _ (exception_exact names))

module _ (sequence : Sequence → SequenceRole → List Written) (fits : Sequence → SequenceRole → ℕ → Bool) where
  pub named_declaration_sound : (left : ℕ) → Sound itself (declaration_written sequence) (declaration_fits fits left) (named_declaration_of left)
  unfolding named_declaration_of
  named_declaration_sound left =
      forked_behind identifiers_of (the_delimiter (codes ":")) (sees_word (codes "exception")) (λ names colon. exception_of names)
      (λ names colon. object_of left names)
      (one_form exception_made exception_whole_exact (λ n. refl) (λ n. refl))
      (one_form object_made (object_whole_exact left) (λ o. refl) (λ o. refl))

exception_seen : (names : OneOrMore Identifier) (m : List Lexeme) (x : Declaration Sequence) (r : List Lexeme) → exception_of names m ≡ done x r
    → sees_word (codes "exception") m ≡ true
exception_seen names m x r e = let f = (exception_exact names).sound m x r e in sees_word_first (codes "exception") semicolon m r f.leads

object_seen : (left : ℕ) (names : OneOrMore Identifier) (m : List Lexeme) (x : Declaration Sequence) (r : List Lexeme) → object_of left names m ≡ done x r
    → sees_word (codes "exception") m ≡ false
object_seen left names m x r e =
    let f = (object_exact left names).sound m x r e in not-true (sees_word (codes "exception") m) (not_exception f.item m r f.leads)

pub exception_complete : (left : ℕ) (names : OneOrMore Identifier) (ls r : List Lexeme)
    → Leads (identifiers_written names ++ delimiter (codes ":") ∷ word (codes "exception") ∷ semicolon) ls r
    → named_declaration_of {Q = Sequence} left ls ≡ done (declarations.Exception names) r
unfolding named_declaration_of
exception_complete left names ls r l =
    carried identifiers_of (λ names. the_delimiter (codes ":") >>= λ colon. exception_of names) _ ls (declarations.Exception names) r
    (λ found m e. carried (the_delimiter (codes ":")) (λ colon. exception_of found) _ m (declarations.Exception names) r
    (λ colon n e. chosen_by (sees_word (codes "exception")) (exception_of found) (object_of left found) n (declarations.Exception names) r
    (exception_seen found n (declarations.Exception names) r) e) e)
    (exception_whole_exact.complete names ls r tt refl l refl)

pub object_complete : (left : ℕ) (o : ObjectDeclaration) (ls r : List Lexeme) → object_fits left o ≡ true → Leads (object_written o) ls r
    → named_declaration_of {Q = Sequence} left ls ≡ done (declarations.Object o) r
unfolding named_declaration_of
object_complete left o ls r okay l =
    carried identifiers_of (λ names. the_delimiter (codes ":") >>= λ colon. object_of left names) _ ls (declarations.Object o) r
    (λ found m e. carried (the_delimiter (codes ":")) (λ colon. object_of left found) _ m (declarations.Object o) r
    (λ colon n e. passed_by (sees_word (codes "exception")) (exception_of found) (object_of left found) n (declarations.Object o) r
    (object_seen left found n (declarations.Object o) r) e) e)
    ((object_whole_exact left).complete o ls r tt okay l refl)

pub object_begins : (o : ObjectDeclaration) (ls r : List Lexeme) → Leads (object_written o) ls r → sees_identifier ls ≡ true
object_begins o ls r l = identifiers_begin o.names (delimiter (codes ":") ∷ object_behind o) ls r l

pub exception_begins : (names : OneOrMore Identifier) (ls r : List Lexeme)
    → Leads (identifiers_written names ++ delimiter (codes ":") ∷ word (codes "exception") ∷ semicolon) ls r → sees_identifier ls ≡ true
exception_begins names ls r l = identifiers_begin names (delimiter (codes ":") ∷ word (codes "exception") ∷ semicolon) ls r l

-- ---- components

pub component_exact : (left : ℕ) → Exact component_written (component_fits left) always (component_of left)
unfolding component_of starts
component_exact left =
    plain_before itself Any (delimiter (codes ":")) _ always (λ c. c.names) identifiers_written shapeless
    (not_delimiter (codes ",")) identifiers_of _ identifiers_exact (λ l ls. refl) _ (λ a. refl)
    (λ names. delimiter_then itself _ _ _ always (codes ":") _
    (field itself _ (λ c. initial_written c.initial) (λ c. optional_fits (value_fits left) c.initial) always (λ c. c.subtype) indication_written
    (indication_fits left) ends_subtype (subtype_indication_of left) _ (subtype_indication_exact left)
    (λ c ls r p l end. behind_subtype c.initial ls r l)
    (λ subtype. last_before itself _ (delimiter (codes ";")) _ always (λ c. c.initial) (optional becomes_written) (optional_fits (value_fits left)) ends_initial
    (initial_of left) _ (initial_exact left) (λ l ls. refl)
    (λ initial. delimiter_ends itself _ (codes ";") (record { names = names; subtype = subtype; initial = initial }) (((tt, refl), refl), refl)
    (λ j p. rw (p.0.0.1, p.0.1, p.1) refl)))))

pub component_begins : (c : Component) (ls r : List Lexeme) → Leads (component_written c) ls r → sees_identifier ls ≡ true
component_begins c ls r l = identifiers_begin c.names (delimiter (codes ":") ∷ (indication_written c.subtype ++ initial_written c.initial)) ls r l

-- ---- uses

pub use_exact : Rest {X = Declaration Sequence} (λ (x : Place × Name). declarations.Use x.0 x.1) Any
    (λ x. word_at x.0 (codes "use") ∷ (name_written x.1 ++ semicolon)) shapeless always use_of
unfolding use_of starts
use_exact =
    let make : Place × Name → Declaration Sequence = λ x. declarations.Use x.0 x.1 in
    word_kept make Any _ _ always (λ x. x.0) (codes "use") _
    (λ place. plain_before make _ (delimiter (codes ";")) _ always (λ x. x.1) name_written shapeless (not_delimiter (codes ".")) name_of _ name_exact
    (λ l ls. refl) _ (λ a. refl)
    (λ name. delimiter_ends make _ (codes ";") (place, name) ((tt, refl), refl) (λ j p. rw (p.0.1, p.1) refl)))
