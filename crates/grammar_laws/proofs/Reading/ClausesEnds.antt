-- What may not stand behind a clause: it would go on.
use Rattle.std.proofs.Common.{◌≡◌, ℕ, Bool, true, false, not, ◌&&◌, List, [], ◌∷◌, ◌++◌, refl, sym, subst, ◌∙◌, codes}
use Rattle.std.proofs.lemmas.Bool.{false≢true}
use Rattle.ann_base.specs.declared.places.Place.{Place}
use Rattle.ada_lex.specs.declared.tokens.Kind.TheVariants as kinds
use Rattle.std.specs.Prelude.{Option, Some, None, flat_map}
use Rattle.ada_lex.specs.Reserved.{is_reserved}
use Rattle.ada_tree.specs.declared.names.Identifier.{Identifier}
use Rattle.ada_tree.specs.Written.{Written, Lexeme, flag, optional, behind, enclosed}
use Rattle.ada_grammar.specs.Reading.{sees_delimiter, sees_word, sees_identifier, starts}
use Rattle.ada_grammar.specs.ReadingExpressions.{compares, adds, multiplies, joins}
use Rattle.ada_grammar.specs.ReadingDeclarations.{begins_operation}
use Rattle.grammar_laws.specs.Leads.{Leads}
use Rattle.grammar_laws.proofs.Reading.Leading.{leads_through, as_written}
use Rattle.grammar_laws.proofs.Reading.Exact.{first_true, second_true, both, first_is}
use Rattle.grammar_laws.proofs.Reading.Tokens.{not_word, seen_delimiter, seen_word}
use Rattle.grammar_laws.proofs.Reading.Names.{not_delimiter, ends_names}
use Rattle.grammar_laws.proofs.Reading.Ends.{ends_designated, ends_term, ends_sum, ends_relation, ends_expression}

-- ---- a subtype mark: more of its name or of its bounds, a bracket, a range

abbrev pub ends_subtype : List Lexeme → Bool
ends_subtype r = ends_expression r && not_word (codes "range") r

-- ---- a choice: more of its expression, or two dots

abbrev pub ends_choice : List Lexeme → Bool
ends_choice r = ends_expression r && not_delimiter (codes "..") r

-- ---- how a loop goes on: more of its expression, or what says it

abbrev pub ends_iteration : List Lexeme → Bool
ends_iteration r = ends_expression r && (not_word (codes "while") r && not_word (codes "for") r)

-- ---- an identifier, or a name, that may be missing

abbrev pub not_identifier : List Lexeme → Bool
not_identifier r = not (sees_identifier r)

abbrev pub ends_name : List Lexeme → Bool
ends_name r = not_delimiter (codes ".") r && not_identifier r

-- ---- a condition that may be missing

abbrev pub ends_when : List Lexeme → Bool
ends_when r = ends_expression r && not_word (codes "when") r

-- ---- handled exceptions: more of a name, or one more

abbrev pub ends_exceptions : List Lexeme → Bool
ends_exceptions r = ends_names (codes "|") r

-- ---- the value of a result: it ends at a semicolon, or is none where one stands

abbrev pub ends_result : List Lexeme → Bool
ends_result r = sees_delimiter (codes ";") r

-- ---- the operations of a protected unit: one more

abbrev pub ends_operations : List Lexeme → Bool
ends_operations r = not (begins_operation r)

-- ---- an initial value that may be missing

abbrev pub ends_initial : List Lexeme → Bool
ends_initial r = ends_expression r && not_delimiter (codes ":=") r

-- ---- aspects, and specifications that end with them

abbrev pub ends_aspect : List Lexeme → Bool
ends_aspect r = ends_expression r && not_delimiter (codes "=>") r

abbrev pub ends_aspects : List Lexeme → Bool
ends_aspects r = (ends_aspect r && not_delimiter (codes ",") r) && not_word (codes "with") r

abbrev pub ends_specification : List Lexeme → Bool
ends_specification r = ends_aspects r && not_word (codes "range") r

-- ---- the definition of a task, and the components of a protected unit

abbrev pub ends_task_definition : Identifier → List Lexeme → Bool
ends_task_definition name r = not_word (codes "is") r && not_word name.text r

abbrev pub ends_private : List Lexeme → Bool
ends_private r = not_word (codes "private") r && not_identifier r

-- ---- the name behind an end, where there is one

-- ---- what these say

pub expression_designated : (r : List Lexeme) → ends_expression r ≡ true → ends_designated r ≡ true
expression_designated r e =
    first_true (ends_designated r) (not (multiplies r)) (first_true (ends_term r) (not (adds r))
    (first_true (ends_sum r) (not (compares r)) (first_true (ends_relation r) (not (joins r)) e)))

pub expression_no_point : (r : List Lexeme) → ends_expression r ≡ true → not_delimiter (codes ".") r ≡ true
expression_no_point r e = first_true (not_delimiter (codes ".") r) (not_delimiter (codes "'") r && not_delimiter (codes "(") r) (expression_designated r e)

pub expression_no_bracket : (r : List Lexeme) → ends_expression r ≡ true → not_delimiter (codes "(") r ≡ true
expression_no_bracket r e =
    second_true (not_delimiter (codes "'") r) (not_delimiter (codes "(") r)
    (second_true (not_delimiter (codes ".") r) (not_delimiter (codes "'") r && not_delimiter (codes "(") r) (expression_designated r e))

pub subtype_expression : (r : List Lexeme) → ends_subtype r ≡ true → ends_expression r ≡ true
subtype_expression r e = first_true (ends_expression r) (not_word (codes "range") r) e

pub subtype_no_range : (r : List Lexeme) → ends_subtype r ≡ true → not_word (codes "range") r ≡ true
subtype_no_range r e = second_true (ends_expression r) (not_word (codes "range") r) e

-- ---- what stands there first, where parts may be missing

-- a part that may be missing, and what stands behind
pub stop_optional : {A : Type 0} (test : List Lexeme → Bool) (wa : A → List Written) → ((a : A) (ls m : List Lexeme) → Leads (wa a) ls m → test ls ≡ true)
    → (o : Option A) (ls r : List Lexeme) → Leads (optional wa o) ls r → test r ≡ true → test ls ≡ true
stop_optional test wa one None ls r l end = subst (λ (z : List Lexeme). test z ≡ true) (sym l) end
stop_optional test wa one (Some a) ls r l end = one a ls r l

-- a word that may be missing before the rest
pub stop_flag : (test : List Lexeme → Bool) (b : Bool) (ws w : List Written) → ((ls r : List Lexeme) → Leads (ws ++ w) ls r → test ls ≡ true)
    → ((ls r : List Lexeme) → Leads w ls r → test ls ≡ true)
    → (ls r : List Lexeme) → Leads (flag b ws ++ w) ls r → test ls ≡ true
stop_flag test true ws w one rest ls r l = one ls r l
stop_flag test false ws w one rest ls r l = rest ls r l

-- ---- an identifier is no reserved word and no delimiter

pub identifier_no_word : (text : List ℕ)
    → ((p : Place) (ls : List Lexeme) → sees_identifier (record { kind = kinds.Word; text = text; place = p } ∷ ls) ≡ false)
    → (ls : List Lexeme) → sees_identifier ls ≡ true → not_word text ls ≡ true
identifier_no_word text reserved ls e = by_test (sees_word text ls) refl
  where
    by_test : (v : Bool) → sees_word text ls ≡ v → not v ≡ true
    by_test false s = refl
    by_test true s = absurd (false≢true (sym (seen_word sees_identifier false text reserved ls s) ∙ e))

pub identifier_no_delimiter : (text : List ℕ) (ls : List Lexeme) → sees_identifier ls ≡ true → not_delimiter text ls ≡ true
unfolding starts
identifier_no_delimiter text ls e = by_test (sees_delimiter text ls) refl
  where
    by_test : (v : Bool) → sees_delimiter text ls ≡ v → not v ≡ true
    by_test false s = refl
    by_test true s = absurd (false≢true (sym (seen_delimiter sees_identifier false text (λ p ls. refl) ls s) ∙ e))

pub identifier_no_in : (ls : List Lexeme) → sees_identifier ls ≡ true → not_word (codes "in") ls ≡ true
unfolding starts is_reserved
identifier_no_in ls e = identifier_no_word (codes "in") (λ p ls. refl) ls e

pub identifier_no_out : (ls : List Lexeme) → sees_identifier ls ≡ true → not_word (codes "out") ls ≡ true
unfolding starts is_reserved
identifier_no_out ls e = identifier_no_word (codes "out") (λ p ls. refl) ls e

pub identifier_no_aliased : (ls : List Lexeme) → sees_identifier ls ≡ true → not_word (codes "aliased") ls ≡ true
unfolding starts is_reserved
identifier_no_aliased ls e = identifier_no_word (codes "aliased") (λ p ls. refl) ls e

pub identifier_no_constant : (ls : List Lexeme) → sees_identifier ls ≡ true → not_word (codes "constant") ls ≡ true
unfolding starts is_reserved
identifier_no_constant ls e = identifier_no_word (codes "constant") (λ p ls. refl) ls e

pub identifier_no_type : (ls : List Lexeme) → sees_identifier ls ≡ true → not_word (codes "type") ls ≡ true
unfolding starts is_reserved
identifier_no_type ls e = identifier_no_word (codes "type") (λ p ls. refl) ls e

pub identifier_no_others : (ls : List Lexeme) → sees_identifier ls ≡ true → not_word (codes "others") ls ≡ true
unfolding starts is_reserved
identifier_no_others ls e = identifier_no_word (codes "others") (λ p ls. refl) ls e

pub identifier_no_body : (ls : List Lexeme) → sees_identifier ls ≡ true → not_word (codes "body") ls ≡ true
unfolding starts is_reserved
identifier_no_body ls e = identifier_no_word (codes "body") (λ p ls. refl) ls e

pub identifier_no_exception : (ls : List Lexeme) → sees_identifier ls ≡ true → not_word (codes "exception") ls ≡ true
unfolding starts is_reserved
identifier_no_exception ls e = identifier_no_word (codes "exception") (λ p ls. refl) ls e

-- a list with what opens and closes it, or nothing, before the rest
pub stop_enclosed : {A : Type 0} (test : List Lexeme → Bool) (v : Bool) (opening separator : Written) (closing : List Written) (wa : A → List Written)
    (w : List Written)
    → ((l : Lexeme) (ls : List Lexeme) → test (as_written opening l ∷ ls) ≡ v) → ((ls r : List Lexeme) → Leads w ls r → test ls ≡ v)
    → (xs : List A) (ls r : List Lexeme) → Leads (enclosed opening separator closing wa xs ++ w) ls r → test ls ≡ v
stop_enclosed test v opening separator closing wa w on rest [] ls r l = rest ls r l
stop_enclosed test v opening separator closing wa w on rest (x ∷ xs) ls r l =
    first_is test v opening on ((wa x ++ (flat_map (behind separator wa) xs ++ closing)) ++ w) ls r l

-- a list that may be empty, and what stands behind
pub stop_each : {A : Type 0} (test : List Lexeme → Bool) (wa : A → List Written) → ((a : A) (ls m : List Lexeme) → Leads (wa a) ls m → test ls ≡ true)
    → (xs : List A) (ls r : List Lexeme) → Leads (flat_map wa xs) ls r → test r ≡ true → test ls ≡ true
stop_each test wa one [] ls r l end = subst (λ (z : List Lexeme). test z ≡ true) (sym l) end
stop_each test wa one (x ∷ xs) ls r l end = let t = leads_through (wa x) (flat_map wa xs) ls r l in one x ls t.middle t.first

-- ---- what specifications end with says

pub aspects_list : (r : List Lexeme) → ends_aspects r ≡ true → (ends_aspect r && not_delimiter (codes ",") r) ≡ true
aspects_list r e = first_true (ends_aspect r && not_delimiter (codes ",") r) (not_word (codes "with") r) e

pub aspects_aspect : (r : List Lexeme) → ends_aspects r ≡ true → ends_aspect r ≡ true
aspects_aspect r e = first_true (ends_aspect r) (not_delimiter (codes ",") r) (aspects_list r e)

pub aspects_no_with : (r : List Lexeme) → ends_aspects r ≡ true → not_word (codes "with") r ≡ true
aspects_no_with r e = second_true (ends_aspect r && not_delimiter (codes ",") r) (not_word (codes "with") r) e

pub aspects_expression : (r : List Lexeme) → ends_aspects r ≡ true → ends_expression r ≡ true
aspects_expression r e = first_true (ends_expression r) (not_delimiter (codes "=>") r) (aspects_aspect r e)

pub specification_aspects : (r : List Lexeme) → ends_specification r ≡ true → ends_aspects r ≡ true
specification_aspects r e = first_true (ends_aspects r) (not_word (codes "range") r) e

pub specification_subtype : (r : List Lexeme) → ends_specification r ≡ true → ends_subtype r ≡ true
specification_subtype r e = both (aspects_expression r (specification_aspects r e)) (second_true (ends_aspects r) (not_word (codes "range") r) e)
