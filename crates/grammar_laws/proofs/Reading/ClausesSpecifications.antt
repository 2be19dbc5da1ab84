-- Aspects and specifications of subprograms and entries (6.1, 8.3.1, 9.5.2, 13.1.1).
use Rattle.std.proofs.Common.{◌≡◌, ℕ, Bool, true, false, ◌&&◌, List, [], ◌∷◌, ◌++◌, refl, sym, subst, codes}
use Rattle.std.specs.Prelude.{Option, Some, None, flat_map}
use Rattle.std.specs.List.{list_all}
use Rattle.std.proofs.lemmas.Bool.{not-true}
use Rattle.ann_base.specs.declared.places.Place.{Place}
use Rattle.ada_tree.specs.declared.names.Identifier.{Identifier}
use Rattle.ada_tree.specs.declared.expressions.Expression.{Expression}
use Rattle.ada_tree.specs.declared.declarations.SubtypeIndication.{SubtypeIndication}
use Rattle.ada_tree.specs.declared.declarations.Parameter.{Parameter}
use Rattle.ada_tree.specs.declared.declarations.Aspect.{Aspect}
use Rattle.ada_tree.specs.declared.declarations.SubprogramSpecification.{SubprogramSpecification}
use Rattle.ada_tree.specs.declared.declarations.EntryDeclaration.{EntryDeclaration}
use Rattle.ada_tree.specs.declared.declarations.EntryHead.{EntryHead}
use Rattle.ada_tree.specs.Written.{Written, Lexeme, word, word_at, delimiter, identifier_written, behind, optional}
use Rattle.ada_tree.specs.SpellingExpressions.{expression_written}
use Rattle.ada_tree.specs.SpellingStatements.{semicolon, indication_written, parameters_written}
use Rattle.ada_tree.specs.SpellingDeclarations.{aspect_value_written, aspect_written, aspects_written, overriding_written}
use Rattle.ada_tree.specs.SpellingDeclarations.{subprogram_word, result_written, specification_written, entry_written, entry_head_written}
use Rattle.ada_tree.specs.ShapeExpressions.{optional_fits}
use Rattle.ada_tree.specs.ShapeStatements.{value_fits, indication_fits, parameters_fit}
use Rattle.ada_tree.specs.ShapeDeclarations.{aspect_fits, aspects_fit, specification_fits, entry_fits, entry_head_fits}
use Rattle.ada_grammar.specs.Reading.{◌>>=◌, starts, sees_delimiter, sees_word, the_word, items_of, behind_delimiter_of}
use Rattle.ada_grammar.specs.ReadingExpressions.{expression_of}
use Rattle.ada_grammar.specs.ReadingSimple.{subtype_indication_of, parameters_of}
use Rattle.ada_grammar.specs.ReadingDeclarations.{aspect_value_of, aspect_of, given_aspects_of, aspects_of, overriding_of}
use Rattle.ada_grammar.specs.ReadingDeclarations.{procedure_of, function_of, specification_of, entry_of, entry_head_of}
use Rattle.grammar_laws.specs.Leads.{Leads}
use Rattle.grammar_laws.proofs.Reading.Leading.{as_written}
use Rattle.grammar_laws.proofs.Reading.Exact.{done, Rest, Any, itself, Exact, first_true, second_true, field}
use Rattle.grammar_laws.proofs.Reading.Exact.{plain, narrower, respelt, closing, first_is, optionally}
use Rattle.grammar_laws.proofs.Reading.Tokens.{always, shapeless, not_word, word_then, delimiter_then, word_exact}
use Rattle.grammar_laws.proofs.Reading.Tokens.{sees_delimiter_first, sees_word_first, sees_word_at_first, seen_delimiter}
use Rattle.grammar_laws.proofs.Reading.Names.{not_delimiter}
use Rattle.grammar_laws.proofs.Reading.Choices.{Sound, one_form}
use Rattle.grammar_laws.proofs.Reading.Ends.{ends_expression}
use Rattle.grammar_laws.proofs.Reading.Expressions.{expression_exact}
use Rattle.grammar_laws.proofs.Reading.ClausesEnds.{ends_subtype, ends_aspect, ends_aspects, ends_specification, stop_each, expression_no_bracket, aspects_list}
use Rattle.grammar_laws.proofs.Reading.ClausesEnds.{aspects_aspect, aspects_no_with, aspects_expression, specification_aspects, specification_subtype}
use Rattle.grammar_laws.proofs.Reading.ClausesSteps.{optional_shapeless, nothing_behind, delimiter_ends, field_before, last_before, word_kept, identifier_kept}
use Rattle.grammar_laws.proofs.Reading.ClausesSteps.{ends_list, items_behind, first_and, enclosed_exact, carried, chosen_by, passed_by, forked}
use Rattle.grammar_laws.proofs.Reading.ClausesSubtypes.{subtype_indication_exact, parameters_exact}

-- ---- aspects

pub aspect_value_exact : (left : ℕ) → Exact (optional aspect_value_written) (optional_fits (value_fits left)) ends_aspect (aspect_value_of left)
unfolding aspect_value_of
aspect_value_exact left =
    optionally (sees_delimiter (codes "=>")) aspect_value_written (value_fits left) ends_aspect _
    (delimiter_then (λ (e : Expression). Some e) Any expression_written (value_fits left) ends_aspect (codes "=>") _
    (closing (λ (e : Expression). Some e) Any ends_aspect itself expression_written (value_fits left) (expression_of left) itself
    (narrower itself Any expression_written (value_fits left) ends_expression ends_aspect (expression_of left) (expression_exact left)
    (λ r e. first_true (ends_expression r) (not_delimiter (codes "=>") r) e))
    (λ e. tt) (λ e. refl) (λ e i p q. q)))
    (λ e ls r l. sees_delimiter_first (codes "=>") (expression_written e) ls r l)
    (λ r e. not-true (sees_delimiter (codes "=>") r) (second_true (ends_expression r) (not_delimiter (codes "=>") r) e))

pub aspect_exact : (left : ℕ) → Exact aspect_written (aspect_fits left) ends_aspect (aspect_of left)
unfolding aspect_of
aspect_exact left =
    identifier_kept itself Any _ _ ends_aspect (λ a. a.name) _
    (λ name. closing itself _ ends_aspect (λ a. a.value) (optional aspect_value_written) (optional_fits (value_fits left)) (aspect_value_of left)
    (λ value. record { name = name; value = value }) (aspect_value_exact left)
    (λ v. (tt, refl)) (λ v. refl) (λ v a p e. rw (p.1, e) refl))

abbrev others_written : List Aspect → List Written
others_written others = flat_map (behind (delimiter (codes ",")) aspect_written) others

others_exact : (left : ℕ)
    → Exact others_written (list_all (aspect_fits left)) (ends_list (codes ",") ends_aspect)
    (items_of (sees_delimiter (codes ",")) (behind_delimiter_of (codes ",") (aspect_of left)))
unfolding starts
others_exact left =
    items_behind (codes ",") aspect_written (aspect_fits left) ends_aspect (aspect_of left) (aspect_exact left)
    (λ r e. seen_delimiter ends_aspect true (codes ",") (λ p ls. refl) r e)

behind_aspect : (others : List Aspect) (ls r : List Lexeme) → Leads (others_written others) ls r → ends_aspects r ≡ true → ends_aspect ls ≡ true
unfolding starts
behind_aspect others ls r l end =
    stop_each ends_aspect (behind (delimiter (codes ",")) aspect_written)
    (λ a ls m l. first_is ends_aspect true (delimiter (codes ",")) (λ l ls. refl) (aspect_written a) ls m l) others ls r l (aspects_aspect r end)

abbrev given_respelt : Aspect × List Aspect → List Written
given_respelt x = word (codes "with") ∷ (aspect_written x.0 ++ others_written x.1)

given_same : (x : Aspect × List Aspect) → given_respelt x ≡ aspects_written (x.0 ∷ x.1)
given_same x = rw (nothing_behind (others_written x.1)) refl

given_exact : (left : ℕ)
    → Rest first_and Any (λ (x : Aspect × List Aspect). aspects_written (x.0 ∷ x.1)) (λ x. aspects_fit left (x.0 ∷ x.1)) ends_aspects (given_aspects_of left)
unfolding given_aspects_of
given_exact left =
    respelt first_and Any given_respelt (λ x. aspects_written (x.0 ∷ x.1)) (λ x. aspects_fit left (x.0 ∷ x.1)) ends_aspects _
    (word_then first_and Any _ _ ends_aspects (codes "with") _
    (field first_and Any (λ x. others_written x.1) (λ x. list_all (aspect_fits left) x.1) ends_aspects (λ x. x.0) aspect_written (aspect_fits left) ends_aspect
    (aspect_of left) _ (aspect_exact left)
    (λ x ls r p l end. behind_aspect x.1 ls r l end)
    (λ first. closing first_and _ ends_aspects (λ x. x.1) others_written (list_all (aspect_fits left))
    (items_of (sees_delimiter (codes ",")) (behind_delimiter_of (codes ",") (aspect_of left))) (λ others. (first, others))
    (narrower itself Any others_written (list_all (aspect_fits left)) (ends_list (codes ",") ends_aspect) ends_aspects
    (items_of (sees_delimiter (codes ",")) (behind_delimiter_of (codes ",") (aspect_of left))) (others_exact left) (λ r e. aspects_list r e))
    (λ o. (tt, refl)) (λ o. refl) (λ o x p e. rw (p.1, e) refl))))
    given_same

pub aspects_exact : (left : ℕ) → Exact aspects_written (aspects_fit left) ends_aspects (aspects_of left)
unfolding aspects_of
aspects_exact left =
    enclosed_exact (sees_word (codes "with")) (word (codes "with")) (delimiter (codes ",")) [] aspect_written (aspects_fit left) ends_aspects
    (given_aspects_of left) (given_exact left) refl
    (λ ws ls r l. sees_word_first (codes "with") ws ls r l) (λ r e. not-true (sees_word (codes "with") r) (aspects_no_with r e))

-- aspects, and what stands behind
pub stop_aspects : (test : List Lexeme → Bool) → ((l : Lexeme) (ls : List Lexeme) → test (as_written (word (codes "with")) l ∷ ls) ≡ true)
    → (aspects : List Aspect) (ls r : List Lexeme) → Leads (aspects_written aspects) ls r → test r ≡ true → test ls ≡ true
stop_aspects test on [] ls r l end = subst (λ (z : List Lexeme). test z ≡ true) (sym l) end
stop_aspects test on (a ∷ aspects) ls r l end = first_is test true (word (codes "with")) on (aspect_written a ++ (others_written aspects ++ [])) ls r l

-- ---- subprograms

pub overriding_exact : Exact (optional overriding_written) (optional_fits shapeless) (not_word (codes "overriding")) overriding_of
unfolding overriding_of
overriding_exact =
    optionally (sees_word (codes "overriding")) overriding_written shapeless (not_word (codes "overriding")) _
    (closing (λ (p : Place). Some p) Any (not_word (codes "overriding")) itself overriding_written shapeless (the_word (codes "overriding")) itself
    (narrower itself Any overriding_written shapeless always (not_word (codes "overriding")) (the_word (codes "overriding")) (word_exact (codes "overriding"))
    (λ r e. refl))
    (λ p. tt)
    (λ p. refl)
    (λ p i q e. e))
    (λ p ls r l. sees_word_at_first (codes "overriding") p [] ls r l) (λ r e. not-true (sees_word (codes "overriding") r) e)

abbrev pub Procedure : Type 0
Procedure = Option Place × (Place × (Identifier × (List Parameter × List Aspect)))

abbrev pub procedure_made : Procedure → SubprogramSpecification
procedure_made x = record { overriding = x.0; place = x.1.0; name = x.1.1.0; parameters = x.1.1.1.0; result = None; aspects = x.1.1.1.1 }

abbrev pub Function : Type 0
Function = Option Place × (Place × (Identifier × (List Parameter × (SubtypeIndication × List Aspect))))

abbrev pub function_made : Function → SubprogramSpecification
function_made x = record { overriding = x.0; place = x.1.0; name = x.1.1.0; parameters = x.1.1.1.0; result = Some x.1.1.1.1.0; aspects = x.1.1.1.1.1 }

abbrev pub procedure_behind : Procedure → List Written
procedure_behind x = word_at x.1.0 (codes "procedure") ∷ identifier_written x.1.1.0 ∷ (parameters_written x.1.1.1.0 ++ aspects_written x.1.1.1.1)

abbrev pub function_behind : Function → List Written
function_behind x =
    word_at x.1.0 (codes "function") ∷ identifier_written x.1.1.0
    ∷ (parameters_written x.1.1.1.0 ++ word (codes "return") ∷ (indication_written x.1.1.1.1.0 ++ aspects_written x.1.1.1.1.1))

pub procedure_exact : (left : ℕ) (overriding : Option Place)
    → Rest procedure_made (λ x. Any x × (overriding ≡ x.0)) procedure_behind (λ x. parameters_fit left x.1.1.1.0 && aspects_fit left x.1.1.1.1) ends_aspects
    (procedure_of left overriding)
unfolding procedure_of starts
procedure_exact left overriding =
    word_kept procedure_made (λ x. Any x × (overriding ≡ x.0)) _ _ ends_aspects (λ x. x.1.0) (codes "procedure") _
    (λ place. identifier_kept procedure_made _ _ _ ends_aspects (λ x. x.1.1.0) _
    (λ name. field procedure_made _ (λ x. aspects_written x.1.1.1.1) (λ x. aspects_fit left x.1.1.1.1) ends_aspects (λ x. x.1.1.1.0) parameters_written
    (parameters_fit left) (not_delimiter (codes "(")) (parameters_of left) _ (parameters_exact left)
    (λ x ls r p l end. stop_aspects (not_delimiter (codes "(")) (λ l ls. refl) x.1.1.1.1 ls r l (expression_no_bracket r (aspects_expression r end)))
    (λ parameters. closing procedure_made _ ends_aspects (λ x. x.1.1.1.1) aspects_written (aspects_fit left) (aspects_of left)
    (λ aspects. (overriding, (place, (name, (parameters, aspects))))) (aspects_exact left)
    (λ a. ((((tt, refl), refl), refl), refl)) (λ a. refl) (λ a x p e. rw (p.0.0.0.1, p.0.0.1, p.0.1, p.1, e) refl))))

pub function_exact : (left : ℕ) (overriding : Option Place)
    → Rest function_made (λ x. Any x × (overriding ≡ x.0)) function_behind
    (λ x. parameters_fit left x.1.1.1.0 && (indication_fits left x.1.1.1.1.0 && aspects_fit left x.1.1.1.1.1)) ends_specification
    (function_of left overriding)
unfolding function_of starts
function_exact left overriding =
    word_kept function_made (λ x. Any x × (overriding ≡ x.0)) _ _ ends_specification (λ x. x.1.0) (codes "function") _
    (λ place. identifier_kept function_made _ _ _ ends_specification (λ x. x.1.1.0) _
    (λ name. field_before function_made _ (word (codes "return")) _ ends_specification (λ x. x.1.1.1.0) parameters_written (parameters_fit left)
    (not_delimiter (codes "(")) (parameters_of left) _ (parameters_exact left) (λ l ls. refl)
    (λ x. indication_fits left x.1.1.1.1.0 && aspects_fit left x.1.1.1.1.1)
    (λ parameters. word_then function_made _ _ _ ends_specification (codes "return") _
    (field function_made _ (λ x. aspects_written x.1.1.1.1.1) (λ x. aspects_fit left x.1.1.1.1.1) ends_specification (λ x. x.1.1.1.1.0) indication_written
    (indication_fits left) ends_subtype (subtype_indication_of left) _ (subtype_indication_exact left)
    (λ x ls r p l end. stop_aspects ends_subtype (λ l ls. refl) x.1.1.1.1.1 ls r l (specification_subtype r end))
    (λ result. closing function_made _ ends_specification (λ x. x.1.1.1.1.1) aspects_written (aspects_fit left) (aspects_of left)
    (λ aspects. (overriding, (place, (name, (parameters, (result, aspects))))))
    (narrower itself Any aspects_written (aspects_fit left) ends_aspects ends_specification (aspects_of left) (aspects_exact left)
    (λ r e. specification_aspects r e))
    (λ a. (((((tt, refl), refl), refl), refl), refl)) (λ a. refl) (λ a x p e. rw (p.0.0.0.0.1, p.0.0.0.1, p.0.0.1, p.0.1, p.1, e) refl))))))

-- ["overriding"] before either
procedure_whole_exact : (left : ℕ)
    → Rest procedure_made Any (λ x. specification_written (procedure_made x)) (λ x. specification_fits left (procedure_made x)) ends_aspects
    (overriding_of >>= procedure_of left)
unfolding starts
procedure_whole_exact left =
    plain procedure_made Any procedure_behind (λ x. parameters_fit left x.1.1.1.0 && aspects_fit left x.1.1.1.1) ends_aspects (λ x. x.0)
    (optional overriding_written) (optional_fits shapeless) (not_word (codes "overriding")) overriding_of
    (procedure_of left) overriding_exact optional_shapeless
    (λ x ls r p l end. first_is (not_word (codes "overriding")) true (word_at x.1.0 (codes "procedure")) (λ l ls. refl)
    (identifier_written x.1.1.0 ∷ (parameters_written x.1.1.1.0 ++ aspects_written x.1.1.1.1)) ls r l)
    (procedure_exact left)

function_whole_exact : (left : ℕ)
    → Rest function_made Any (λ x. specification_written (function_made x)) (λ x. specification_fits left (function_made x)) ends_specification
    (overriding_of >>= function_of left)
unfolding starts
function_whole_exact left =
    plain function_made Any function_behind
    (λ x. parameters_fit left x.1.1.1.0 && (indication_fits left x.1.1.1.1.0 && aspects_fit left x.1.1.1.1.1)) ends_specification (λ x. x.0)
    (optional overriding_written) (optional_fits shapeless) (not_word (codes "overriding")) overriding_of
    (function_of left) overriding_exact optional_shapeless
    (λ x ls r p l end. first_is (not_word (codes "overriding")) true (word_at x.1.0 (codes "function")) (λ l ls. refl)
    (identifier_written x.1.1.0
    ∷ (parameters_written x.1.1.1.0 ++ word (codes "return") ∷ (indication_written x.1.1.1.1.0 ++ aspects_written x.1.1.1.1.1))) ls r l)
    (function_exact left)

specification_sound : (left : ℕ) → Sound itself specification_written (specification_fits left) (specification_of left)
unfolding specification_of
specification_sound left =
    forked overriding_of (sees_word (codes "function")) (function_of left) (procedure_of left)
    (one_form function_made (function_whole_exact left) (λ x. refl) (λ x. refl))
    (one_form procedure_made (procedure_whole_exact left) (λ x. refl) (λ x. refl))

function_seen : (left : ℕ) (overriding : Option Place) (m : List Lexeme) (x : SubprogramSpecification) (r : List Lexeme)
    → function_of left overriding m ≡ done x r → sees_word (codes "function") m ≡ true
function_seen left overriding m x r e =
    let f = (function_exact left overriding).sound m x r e in
    sees_word_at_first (codes "function") f.item.1.0
    (identifier_written f.item.1.1.0
    ∷ (parameters_written f.item.1.1.1.0 ++ word (codes "return") ∷ (indication_written f.item.1.1.1.1.0 ++ aspects_written f.item.1.1.1.1.1))) m r f.leads

procedure_seen : (left : ℕ) (overriding : Option Place) (m : List Lexeme) (x : SubprogramSpecification) (r : List Lexeme)
    → procedure_of left overriding m ≡ done x r → sees_word (codes "function") m ≡ false
unfolding starts
procedure_seen left overriding m x r e =
    let f = (procedure_exact left overriding).sound m x r e in
    first_is (sees_word (codes "function")) false (word_at f.item.1.0 (codes "procedure")) (λ l ls. refl)
    (identifier_written f.item.1.1.0 ∷ (parameters_written f.item.1.1.1.0 ++ aspects_written f.item.1.1.1.1)) m r f.leads

procedure_complete : (left : ℕ) (x : Procedure) (ls r : List Lexeme) → specification_fits left (procedure_made x) ≡ true
    → Leads (specification_written (procedure_made x)) ls r → ends_specification r ≡ true
    → specification_of left ls ≡ done (procedure_made x) r
unfolding specification_of
procedure_complete left x ls r okay l end =
    carried overriding_of (procedure_of left) _ ls (procedure_made x) r
    (λ overriding m e. passed_by (sees_word (codes "function")) (function_of left overriding) (procedure_of left overriding) m (procedure_made x) r
    (procedure_seen left overriding m (procedure_made x) r) e)
    ((procedure_whole_exact left).complete x ls r tt okay l (specification_aspects r end))

function_complete : (left : ℕ) (x : Function) (ls r : List Lexeme) → specification_fits left (function_made x) ≡ true
    → Leads (specification_written (function_made x)) ls r → ends_specification r ≡ true
    → specification_of left ls ≡ done (function_made x) r
unfolding specification_of
function_complete left x ls r okay l end =
    carried overriding_of (function_of left) _ ls (function_made x) r
    (λ overriding m e. chosen_by (sees_word (codes "function")) (function_of left overriding) (procedure_of left overriding) m (function_made x) r
    (function_seen left overriding m (function_made x) r) e)
    ((function_whole_exact left).complete x ls r tt okay l end)

abbrev specified : Option Place → Place → Identifier → List Parameter → Option SubtypeIndication → List Aspect → SubprogramSpecification
specified overriding place name parameters result aspects = record {
  overriding = overriding;
  place = place;
  name = name;
  parameters = parameters;
  result = result;
  aspects = aspects;
}

by_result : (left : ℕ) (overriding : Option Place) (place : Place) (name : Identifier) (parameters : List Parameter) (result : Option SubtypeIndication)
    (aspects : List Aspect) (ls r : List Lexeme)
    → specification_fits left (specified overriding place name parameters result aspects) ≡ true
    → Leads (specification_written (specified overriding place name parameters result aspects)) ls r → ends_specification r ≡ true
    → specification_of left ls ≡ done (specified overriding place name parameters result aspects) r
by_result left overriding place name parameters None aspects ls r okay l end =
    procedure_complete left (overriding, (place, (name, (parameters, aspects)))) ls r okay l end
by_result left overriding place name parameters (Some result) aspects ls r okay l end =
    function_complete left (overriding, (place, (name, (parameters, (result, aspects))))) ls r okay l end

pub specification_exact : (left : ℕ) → Exact specification_written (specification_fits left) ends_specification (specification_of left)
specification_exact left = record {
  sound = (specification_sound left).by;
  complete = λ s ls r q okay l end. by_result left s.overriding s.place s.name s.parameters s.result s.aspects ls r okay l end;
}

-- ---- what a specification begins with

by_word : (test : List Lexeme → Bool) (v : Bool)
    → ((p : Place) (l : Lexeme) (ls : List Lexeme) → test (as_written (word_at p (codes "overriding")) l ∷ ls) ≡ v)
    → ((p : Place) (l : Lexeme) (ls : List Lexeme) → test (as_written (word_at p (codes "procedure")) l ∷ ls) ≡ v)
    → ((p : Place) (l : Lexeme) (ls : List Lexeme) → test (as_written (word_at p (codes "function")) l ∷ ls) ≡ v)
    → (overriding : Option Place) (place : Place) (result : Option SubtypeIndication) (w : List Written) (ls r : List Lexeme)
    → Leads (optional overriding_written overriding ++ word_at place (subprogram_word result) ∷ w) ls r → test ls ≡ v
by_word test v on_overriding on_procedure on_function (Some p) place result w ls r l =
    first_is test v (word_at p (codes "overriding")) (on_overriding p) (word_at place (subprogram_word result) ∷ w) ls r l
by_word test v on_overriding on_procedure on_function None place None w ls r l =
    first_is test v (word_at place (codes "procedure")) (on_procedure place) w ls r l
by_word test v on_overriding on_procedure on_function None place (Some result) w ls r l =
    first_is test v (word_at place (codes "function")) (on_function place) w ls r l

pub specification_first : (test : List Lexeme → Bool) (v : Bool)
    → ((p : Place) (l : Lexeme) (ls : List Lexeme) → test (as_written (word_at p (codes "overriding")) l ∷ ls) ≡ v)
    → ((p : Place) (l : Lexeme) (ls : List Lexeme) → test (as_written (word_at p (codes "procedure")) l ∷ ls) ≡ v)
    → ((p : Place) (l : Lexeme) (ls : List Lexeme) → test (as_written (word_at p (codes "function")) l ∷ ls) ≡ v)
    → (s : SubprogramSpecification) (ls r : List Lexeme) → Leads (specification_written s) ls r → test ls ≡ v
specification_first test v on_overriding on_procedure on_function s ls r l =
    by_word test v on_overriding on_procedure on_function s.overriding s.place s.result
    (identifier_written s.name ∷ (parameters_written s.parameters ++ (optional result_written s.result ++ aspects_written s.aspects))) ls r l

-- ---- entries

pub entry_exact : (left : ℕ) → Exact entry_written (entry_fits left) always (entry_of left)
unfolding entry_of starts
entry_exact left =
    word_kept itself Any _ _ always (λ e. e.place) (codes "entry") _
    (λ place. identifier_kept itself _ _ _ always (λ e. e.name) _
    (λ name. last_before itself _ (delimiter (codes ";")) _ always (λ e. e.parameters) parameters_written (parameters_fit left) (not_delimiter (codes "("))
    (parameters_of left) _ (parameters_exact left) (λ l ls. refl)
    (λ parameters. delimiter_ends itself _ (codes ";") (record { place = place; name = name; parameters = parameters }) (((tt, refl), refl), refl)
    (λ j p. rw (p.0.0.1, p.0.1, p.1) refl))))

pub entry_begins : (e : EntryDeclaration) (ls r : List Lexeme) → Leads (entry_written e) ls r → sees_word (codes "entry") ls ≡ true
entry_begins e ls r l = sees_word_at_first (codes "entry") e.place (identifier_written e.name ∷ (parameters_written e.parameters ++ semicolon)) ls r l

pub entry_head_exact : (left : ℕ) → Exact entry_head_written (entry_head_fits left) ends_expression (entry_head_of left)
unfolding entry_head_of starts
entry_head_exact left =
    word_kept itself Any _ _ ends_expression (λ h. h.place) (codes "entry") _
    (λ place. identifier_kept itself _ _ _ ends_expression (λ h. h.name) _
    (λ name. field_before itself _ (word (codes "when")) _ ends_expression (λ h. h.parameters) parameters_written (parameters_fit left)
    (not_delimiter (codes "(")) (parameters_of left) _ (parameters_exact left) (λ l ls. refl) (λ h. value_fits left h.barrier)
    (λ parameters. word_then itself _ _ _ ends_expression (codes "when") _
    (closing itself _ ends_expression (λ h. h.barrier) expression_written (value_fits left) (expression_of left)
    (λ barrier. record { place = place; name = name; parameters = parameters; barrier = barrier }) (expression_exact left)
    (λ b. (((tt, refl), refl), refl)) (λ b. refl) (λ b h p e. rw (p.0.0.1, p.0.1, p.1, e) refl)))))

pub entry_head_begins : (h : EntryHead) (ls r : List Lexeme) → Leads (entry_head_written h) ls r → sees_word (codes "entry") ls ≡ true
entry_head_begins h ls r l =
    sees_word_at_first (codes "entry") h.place
    (identifier_written h.name ∷ (parameters_written h.parameters ++ word (codes "when") ∷ expression_written h.barrier)) ls r l
