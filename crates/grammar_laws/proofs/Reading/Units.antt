-- Library units and a source (2.8, clause 7, 10.1).
use Rattle.std.proofs.Common.{◌≡◌, ℕ, zero, suc, ◌<◌, ◌≤◌, Bool, true, false, cond, not, ◌&&◌, ◌||◌, List}
use Rattle.std.proofs.Common.{[], ◌∷◌, ◌++◌, length, refl, sym, ap, subst, ◌∙◌, codes, arith, append_assoc}
use Rattle.std.specs.Prelude.{Some, flat_map}
use Rattle.std.specs.List.{list_all}
use Rattle.std.proofs.lemmas.Bool.{not-true}
use Rattle.ann_base.specs.declared.places.Place.{Place}
use Rattle.ada_lex.specs.Reserved.{is_reserved}
use Rattle.ada_tree.specs.declared.names.Identifier.{Identifier}
use Rattle.ada_tree.specs.declared.names.Name.{Name}
use Rattle.ada_tree.specs.declared.names.OneOrMore.{OneOrMore}
use Rattle.ada_tree.specs.declared.expressions.Expression.{Expression}
use Rattle.ada_tree.specs.declared.expressions.Argument.{Argument}
use Rattle.ada_tree.specs.declared.statements.Sequence.{Sequence}
use Rattle.ada_tree.specs.declared.statements.SequenceRole.TheVariants as role
use Rattle.ada_tree.specs.declared.declarations.Declaration.{Declaration}
use Rattle.ada_tree.specs.declared.units.Pragma.{Pragma}
use Rattle.ada_tree.specs.declared.units.ContextClause.{ContextClause}
use Rattle.ada_tree.specs.declared.units.LibraryPackage.{LibraryPackage}
use Rattle.ada_tree.specs.declared.units.Package.{Package}
use Rattle.ada_tree.specs.declared.units.Package.TheVariants as packages
use Rattle.ada_tree.specs.declared.units.PackageDeclaration.{PackageDeclaration}
use Rattle.ada_tree.specs.declared.units.PackageBody.{PackageBody}
use Rattle.ada_tree.specs.declared.units.MainProcedure.{MainProcedure}
use Rattle.ada_tree.specs.declared.units.Unit.{Unit as Tree}
use Rattle.ada_tree.specs.Written.{Written, Lexeme, word, word_at, delimiter, identifier_written, separated, optional, name_written, end_name_written}
use Rattle.ada_tree.specs.SpellingExpressions.{expression_written, argument_written}
use Rattle.ada_tree.specs.SpellingStatements.{semicolon}
use Rattle.ada_tree.specs.SpellingDeclarations.{body_written, aspects_written}
use Rattle.ada_tree.specs.Spelling.{sequence_written, pragma_written, clause_text, clause_written, declarations_written}
use Rattle.ada_tree.specs.Spelling.{private_part_written, package_declaration_written, package_statements_written}
use Rattle.ada_tree.specs.Spelling.{package_body_written, package_written, library_package_written, main_written, unit_written}
use Rattle.ada_tree.specs.ShapeExpressions.{within, all_fit, optional_fits, argument_fits, expression_fits}
use Rattle.ada_tree.specs.ShapeDeclarations.{aspects_fit, body_fits}
use Rattle.ada_tree.specs.Shape.{sequence_fits, pragma_fits, declarations_fit, package_declaration_fits, package_statements_fit}
use Rattle.ada_tree.specs.Shape.{package_parts_fit, package_fits, library_package_fits, main_fits, unit_fits}
use Rattle.ada_grammar.specs.Reading.{Read, and_then, ◌>>=◌, pure, choose, starts, sees_word, sees_delimiter}
use Rattle.ada_grammar.specs.Reading.{the_word, the_delimiter, below, items_of, separated_of, names_of, end_name_of}
use Rattle.ada_grammar.specs.ReadingExpressions.{inner_of, argument_of}
use Rattle.ada_grammar.specs.ReadingStatements.{begins_statement}
use Rattle.ada_grammar.specs.ReadingDeclarations.{aspects_of}
use Rattle.ada_grammar.specs.ReadingBodies.{begins_declaration, body_of}
use Rattle.ada_grammar.specs.ReadingSequences.{sequence_of, inside_of}
use Rattle.ada_grammar.specs.ReadingUnits.{declarations_at, pragma_of, with_of, use_clause_of, clause_of, begins_clause}
use Rattle.ada_grammar.specs.ReadingUnits.{context_of, private_part_of, package_declaration_of, package_statements_of}
use Rattle.ada_grammar.specs.ReadingUnits.{package_body_of, package_of, packages_from, packages_of, main_of, finished, source_of}
use Rattle.grammar_laws.specs.Leads.{Leads}
use Rattle.grammar_laws.proofs.Reading.Leading.{leads_both, leads_through, leads_length}
use Rattle.grammar_laws.proofs.Reading.Exact.{done, pair_of, parts, Rest, Any, itself, Exact, first_true, second_true, both, ready, field, plain, last}
use Rattle.grammar_laws.proofs.Reading.Exact.{narrower, reshaped, respelt_where, closing, first_is, first_optional, first_each, optionally, listed}
use Rattle.grammar_laws.proofs.Reading.Tokens.{always, shapeless, all_shapeless, not_word, word_exact, word_then, sees_delimiter_first}
use Rattle.grammar_laws.proofs.Reading.Tokens.{sees_word_first, sees_word_at_first, identifier_no_word, seen_delimiter, seen_word}
use Rattle.grammar_laws.proofs.Reading.ReservedWords.{reserved_body}
use Rattle.grammar_laws.proofs.Reading.Names.{not_delimiter, separated_exact, names_exact, ends_names}
use Rattle.grammar_laws.proofs.Reading.Choices.{Sound, either, one_form, opened_plain}
use Rattle.grammar_laws.proofs.Reading.Ends.{ends_sequence}
use Rattle.grammar_laws.proofs.Reading.Primaries.{ends_argument}
use Rattle.grammar_laws.proofs.Reading.Expressions.{argument_exact_at}
use Rattle.grammar_laws.proofs.Reading.ClausesEnds.{ends_aspects}
use Rattle.grammar_laws.proofs.Reading.ClausesSteps.{end_name_exact, forked}
use Rattle.grammar_laws.proofs.Reading.ClausesSpecifications.{aspects_exact}
use Rattle.grammar_laws.proofs.Reading.StatementsSteps.{placed, named, worded, delimited}
use Rattle.grammar_laws.proofs.Reading.Bodies.{opened_is, body_exact}
use Rattle.grammar_laws.proofs.Reading.Sequences.{ends_declarations, declarations_exact, sequence_exact, inside_exact}
use Rattle.grammar_laws.proofs.Faults.Units.{Packages}
use Rattle.grammar_laws.proofs.Reading.PrimaryForms.{one_level}

-- ---- pragmas (2.8)

closes_arguments : (r : List Lexeme) → sees_delimiter (codes ")") r ≡ true → ends_argument r ≡ true
unfolding starts
closes_arguments r e = seen_delimiter ends_argument true (codes ")") (λ p ls. refl) r e

more_arguments : (r : List Lexeme) → sees_delimiter (codes ",") r ≡ true → ends_argument r ≡ true
unfolding starts
more_arguments r e = seen_delimiter ends_argument true (codes ",") (λ p ls. refl) r e

no_more : (r : List Lexeme) → sees_delimiter (codes ")") r ≡ true → sees_delimiter (codes ",") r ≡ false
unfolding starts
no_more r e = seen_delimiter (sees_delimiter (codes ",")) false (codes ")") (λ p ls. refl) r e

abbrev argument_w : Argument Expression → List Written
argument_w a = argument_written expression_written a

abbrev argument_f : ℕ → Argument Expression → Bool
argument_f m a = argument_fits expression_fits m a

arguments_at : (left m : ℕ) → left ≡ suc m
    → Exact (separated (delimiter (codes ",")) argument_w) (all_fit (argument_f m)) (sees_delimiter (codes ")"))
    (separated_of (codes ",") (argument_of left (inner_of left)))
arguments_at zero m e = absurd cc
arguments_at (suc n) m e =
    subst (λ (k : ℕ). Exact (separated (delimiter (codes ",")) argument_w) (all_fit (argument_f k)) (sees_delimiter (codes ")"))
    (separated_of (codes ",") (argument_of (suc n) (inner_of (suc n)))))
    (one_level n m e)
    (separated_exact (codes ",") argument_w (argument_f n) ends_argument (sees_delimiter (codes ")")) (argument_of (suc n) (inner_of (suc n)))
    (argument_exact_at n) more_arguments closes_arguments no_more)

pragma_exact : (left : ℕ) → Exact pragma_written (pragma_fits left) always (pragma_of left)
unfolding pragma_of
pragma_exact left =
    placed (λ p. p.place) (codes "pragma") (λ place. named (λ p. p.name) (λ name.
    opened_plain left itself (λ p. (Any p × (place ≡ p.place)) × (name ≡ p.name))
    (λ p. separated (delimiter (codes ",")) argument_w p.arguments ++ delimiter (codes ")") ∷ semicolon)
    (λ p n. all_fit (argument_f n) p.arguments) always _
    (λ m e. last itself (λ p. (Any p × (place ≡ p.place)) × (name ≡ p.name)) (λ p. delimiter (codes ")") ∷ semicolon) always (λ p. p.arguments)
    (separated (delimiter (codes ",")) argument_w) (all_fit (argument_f m)) (sees_delimiter (codes ")"))
    (separated_of (codes ",") (argument_of left (inner_of left))) _ (arguments_at left m e)
    (λ p ls r known l end. sees_delimiter_first (codes ")") semicolon ls r l)
    (λ arguments. delimited (codes ")") (delimited (codes ";")
    (ready itself (λ p. ((Any p × (place ≡ p.place)) × (name ≡ p.name)) × (arguments ≡ p.arguments)) always
    (record { place = place; name = name; arguments = arguments }) (((tt, refl), refl), refl) (λ p k. rw (k.0.0.1, k.0.1, k.1) refl)))))))

pragma_begins : (p : Pragma) (ls r : List Lexeme) → Leads (pragma_written p) ls r → sees_word (codes "pragma") ls ≡ true
pragma_begins p ls r l =
    sees_word_at_first (codes "pragma") p.place
    (identifier_written p.name ∷ delimiter (codes "(") ∷ (separated (delimiter (codes ",")) argument_w p.arguments ++ delimiter (codes ")") ∷ semicolon)) ls r l

pub pragmas_exact : (left : ℕ)
    → Exact (flat_map pragma_written) (list_all (pragma_fits left)) (not_word (codes "pragma")) (items_of (sees_word (codes "pragma")) (pragma_of left))
unfolding starts
pragmas_exact left =
    listed (sees_word (codes "pragma")) pragma_written (pragma_fits left) always (not_word (codes "pragma")) (pragma_of left)
    (pragma_exact left) pragma_begins refl (λ r e. refl) (λ r e. refl)
    (λ r e. not-true (sees_word (codes "pragma") r) e)

-- ---- context clauses (10.1.2, 8.4)

comma_ends : (r : List Lexeme) → sees_delimiter (codes ",") r ≡ true → not_delimiter (codes ".") r ≡ true
unfolding starts
comma_ends r e = seen_delimiter (not_delimiter (codes ".")) true (codes ",") (λ p ls. refl) r e

semicolon_ends : (ls r : List Lexeme) → Leads semicolon ls r → ends_names (codes ",") ls ≡ true
unfolding starts
semicolon_ends ls r l = first_is (ends_names (codes ",")) true (delimiter (codes ";")) (λ k ks. refl) [] ls r l

abbrev Clause : Type 0
Clause = Place × OneOrMore Name

use_form : Rest (λ (x : Clause). record { place = x.0; is_use = true; names = x.1 }) Any
    (λ x. word_at x.0 (codes "use") ∷ (separated (delimiter (codes ",")) name_written x.1 ++ semicolon)) shapeless always use_clause_of
unfolding use_clause_of
use_form =
    let make : Clause → ContextClause = λ x. record { place = x.0; is_use = true; names = x.1 } in
    placed (λ x. x.0) (codes "use") (λ place.
    plain make (λ x. Any x × (place ≡ x.0)) (λ x. semicolon) shapeless always (λ x. x.1) (separated (delimiter (codes ",")) name_written) shapeless
    (ends_names (codes ",")) (names_of (codes ",")) _ (names_exact (codes ",") comma_ends) (λ a. refl)
    (λ x ls r p l end. semicolon_ends ls r l)
    (λ names. delimited (codes ";")
    (ready make (λ x. (Any x × (place ≡ x.0)) × (names ≡ x.1)) always (place, names) ((tt, refl), refl) (λ x p. rw (p.0.1, p.1) refl))))

with_form : Rest (λ (x : Clause). record { place = x.0; is_use = false; names = x.1 }) Any
    (λ x. word_at x.0 (codes "with") ∷ (separated (delimiter (codes ",")) name_written x.1 ++ semicolon)) shapeless always with_of
unfolding with_of
with_form =
    let make : Clause → ContextClause = λ x. record { place = x.0; is_use = false; names = x.1 } in
    placed (λ x. x.0) (codes "with") (λ place.
    plain make (λ x. Any x × (place ≡ x.0)) (λ x. semicolon) shapeless always (λ x. x.1) (separated (delimiter (codes ",")) name_written) shapeless
    (ends_names (codes ",")) (names_of (codes ",")) _ (names_exact (codes ",") comma_ends) (λ a. refl)
    (λ x ls r p l end. semicolon_ends ls r l)
    (λ names. delimited (codes ";")
    (ready make (λ x. (Any x × (place ≡ x.0)) × (names ≡ x.1)) always (place, names) ((tt, refl), refl) (λ x p. rw (p.0.1, p.1) refl))))

clause_complete : (is_use : Bool) (place : Place) (names : OneOrMore Name) (ls r : List Lexeme)
    → Leads (clause_written (record { place = place; is_use = is_use; names = names })) ls r
    → clause_of ls ≡ done (record { place = place; is_use = is_use; names = names }) r
unfolding clause_of starts
clause_complete true place names ls r l =
    rw (sees_word_at_first (codes "use") place (separated (delimiter (codes ",")) name_written names ++ semicolon) ls r l)
    (use_form.complete (place, names) ls r tt refl l refl)
clause_complete false place names ls r l =
    rw (first_is (sees_word (codes "use")) false (word_at place (codes "with")) (λ k ks. refl)
    (separated (delimiter (codes ",")) name_written names ++ semicolon) ls r l)
    (with_form.complete (place, names) ls r tt refl l refl)

clause_sound : Sound itself clause_written shapeless clause_of
unfolding clause_of
clause_sound =
    either (sees_word (codes "use")) (one_form (λ (x : Clause). record { place = x.0; is_use = true; names = x.1 }) use_form (λ x. refl) (λ x. refl))
    (one_form (λ (x : Clause). record { place = x.0; is_use = false; names = x.1 }) with_form (λ x. refl) (λ x. refl))

clause_exact : Exact clause_written shapeless always clause_of
clause_exact = record { sound = clause_sound.by; complete = λ c ls r q o l end. clause_complete c.is_use c.place c.names ls r l }

clause_begins : (c : ContextClause) (ls r : List Lexeme) → Leads (clause_written c) ls r → begins_clause ls ≡ true
clause_begins c ls r l = by_use c.is_use c.place (separated (delimiter (codes ",")) name_written c.names ++ semicolon) ls r l
  where
    or_true : (p q : Bool) → q ≡ true → (p || q) ≡ true
    or_true true q e = refl
    or_true false q e = e

    by_use : (is_use : Bool) (place : Place) (ws : List Written) (ls r : List Lexeme) → Leads (word_at place (clause_text is_use) ∷ ws) ls r
        → begins_clause ls ≡ true
    by_use true place ws ls r l = or_true (sees_word (codes "with") ls) (sees_word (codes "use") ls) (sees_word_at_first (codes "use") place ws ls r l)
    by_use false place ws ls r l = rw (sees_word_at_first (codes "with") place ws ls r l) refl

abbrev ends_context : List Lexeme → Bool
ends_context r = not (begins_clause r)

pub context_exact : Exact (flat_map clause_written) shapeless ends_context context_of
unfolding context_of starts
context_exact =
    reshaped itself Any (flat_map clause_written) (list_all shapeless) shapeless ends_context context_of
    (listed begins_clause clause_written shapeless always ends_context clause_of clause_exact clause_begins refl (λ r e. refl) (λ r e. refl)
    (λ r e. not-true (begins_clause r) e))
    all_shapeless

-- ---- declarations at a level

pub declarations_at_exact : (left : ℕ) → Exact declarations_written (declarations_fit left) ends_declarations (declarations_at left)
declarations_at_exact left = declarations_exact left (inside_of left) (inside_of (below left)) (inside_exact left) (inside_exact (below left))

-- ---- packages (7.1, 7.2)

end_declares_nothing : (ws : List Written) (ls r : List Lexeme) → Leads (word (codes "end") ∷ ws) ls r → ends_declarations ls ≡ true
unfolding starts begins_declaration is_reserved
end_declares_nothing ws ls r l = first_is ends_declarations true (word (codes "end")) (λ k ks. refl) ws ls r l

private_declares_nothing : (ws : List Written) (ls r : List Lexeme) → Leads (word (codes "private") ∷ ws) ls r → ends_declarations ls ≡ true
unfolding starts begins_declaration is_reserved
private_declares_nothing ws ls r l = first_is ends_declarations true (word (codes "private")) (λ k ks. refl) ws ls r l

begin_declares_nothing : (ws : List Written) (ls r : List Lexeme) → Leads (word (codes "begin") ∷ ws) ls r → ends_declarations ls ≡ true
unfolding starts begins_declaration is_reserved
begin_declares_nothing ws ls r l = first_is ends_declarations true (word (codes "begin")) (λ k ks. refl) ws ls r l

-- the end of a package
abbrev ended : Bool → Identifier → List Written
ended named name = word (codes "end") ∷ (end_name_written named name ++ semicolon)

semicolon_no_name : (name : Identifier) (ls r : List Lexeme) → Leads semicolon ls r → not_word name.text ls ≡ true
unfolding starts
semicolon_no_name name ls r l = first_is (not_word name.text) true (delimiter (codes ";")) (λ k ks. refl) [] ls r l

abbrev ends_private : List Lexeme → Bool
ends_private r = ends_declarations r && not_word (codes "private") r

private_part_exact : (left : ℕ) → Exact (optional private_part_written) (optional_fits (declarations_fit left)) ends_private (private_part_of left)
unfolding private_part_of
private_part_exact left =
    optionally (sees_word (codes "private")) private_part_written (declarations_fit left) ends_private _
    (word_then (λ (d : List (Declaration Sequence)). Some d) Any declarations_written (declarations_fit left) ends_private (codes "private") _
    (closing (λ (d : List (Declaration Sequence)). Some d) Any ends_private itself declarations_written (declarations_fit left) (declarations_at left) itself
    (narrower itself Any declarations_written (declarations_fit left) ends_declarations ends_private (declarations_at left) (declarations_at_exact left)
    (λ r e. first_true (ends_declarations r) (not_word (codes "private") r) e))
    (λ d. tt) (λ d. refl) (λ d i p e. e)))
    (λ d ls r l. sees_word_first (codes "private") (declarations_written d) ls r l)
    (λ r e. not-true (sees_word (codes "private") r) (second_true (ends_declarations r) (not_word (codes "private") r) e))

end_no_private : (ws : List Written) (ls r : List Lexeme) → Leads (word (codes "end") ∷ ws) ls r → ends_private ls ≡ true
unfolding starts begins_declaration is_reserved
end_no_private ws ls r l = first_is ends_private true (word (codes "end")) (λ k ks. refl) ws ls r l

-- "end" [NAME] ";", where the name is one that was read before
ended_by : {X I : Type 0} (make : I → X) (P : I → Type 0) (name_of : I → Identifier) (again_of : I → Bool) (name : Identifier) (k : Bool → I)
    → ((i : I) → P i → name ≡ name_of i) → ((b : Bool) → P (k b)) → ((b : Bool) → b ≡ again_of (k b)) → ((b : Bool) (i : I) → P i → b ≡ again_of i → k b ≡ i)
    → Rest make P (λ i. ended (again_of i) (name_of i)) (λ i. true) always
    (the_word (codes "end") >>= (λ e. end_name_of name.text >>= (λ b. the_delimiter (codes ";") >>= (λ m. pure (make (k b))))))
ended_by {X} {I} make P name_of again_of name k same fits is only =
    respelt_where make P (λ i. ended (again_of i) name) (λ i. ended (again_of i) (name_of i)) (λ i. true) always _
    (worded (codes "end")
    (plain make P (λ i. semicolon) (λ i. true) always again_of (λ b. end_name_written b name) shapeless (not_word name.text) (end_name_of name.text) _
    (end_name_exact name) (λ b. refl)
    (λ i ls r p l end. semicolon_no_name name ls r l)
    (λ b. delimited (codes ";") (ready make (λ i. P i × (b ≡ again_of i)) always (k b) (fits b, is b) (λ i p. only b i p.0 p.1)))))
    (λ i p. ap (λ (n : Identifier). ended (again_of i) n) (same i p))

abbrev pub declaration_behind : PackageDeclaration → List Written
declaration_behind p =
    identifier_written p.name ∷ word (codes "is")
    ∷ (declarations_written p.declarations ++ (optional private_part_written p.private ++ ended p.named_at_end p.name))

pub package_declaration_exact : (left : ℕ) (place : Place)
    → Rest (λ (p : PackageDeclaration). packages.Declaration p) (λ p. place ≡ p.place) declaration_behind (package_declaration_fits left) always
    (package_declaration_of left place)
unfolding package_declaration_of
package_declaration_exact left place =
    let make : PackageDeclaration → Package = λ p. packages.Declaration p in
    named (λ p. p.name) (λ name. worded (codes "is")
    (field make (λ p. (place ≡ p.place) × (name ≡ p.name)) (λ p. optional private_part_written p.private ++ ended p.named_at_end p.name)
    (λ p. optional_fits (declarations_fit left) p.private) always
    (λ p. p.declarations) declarations_written (declarations_fit left) ends_declarations (declarations_at left) _ (declarations_at_exact left)
    (λ p ls r k l end. first_optional ends_declarations true private_part_written (ended p.named_at_end p.name)
    (λ d ls m l. private_declares_nothing (declarations_written d) ls m l)
    (λ ls r l. end_declares_nothing (end_name_written p.named_at_end p.name ++ semicolon) ls r l) p.private ls r l)
    (λ visible. last make (λ p. ((place ≡ p.place) × (name ≡ p.name)) × (visible ≡ p.declarations)) (λ p. ended p.named_at_end p.name) always
    (λ p. p.private) (optional private_part_written) (optional_fits (declarations_fit left)) ends_private (private_part_of left) _ (private_part_exact left)
    (λ p ls r k l end. end_no_private (end_name_written p.named_at_end p.name ++ semicolon) ls r l)
    (λ hidden. ended_by make (λ p. (((place ≡ p.place) × (name ≡ p.name)) × (visible ≡ p.declarations)) × (hidden ≡ p.private)) (λ p. p.name)
    (λ p. p.named_at_end) name
    (λ again. record { place = place; name = name; declarations = visible; private = hidden; named_at_end = again })
    (λ p k. k.0.0.1) (λ b. (((refl, refl), refl), refl)) (λ b. refl) (λ b p k e. rw (k.0.0.0, k.0.0.1, k.0.1, k.1, e) refl)))))

-- ---- package bodies

abbrev ends_begin : List Lexeme → Bool
ends_begin r = ends_sequence role.Handled r && not_word (codes "begin") r

package_statements_exact : (left : ℕ)
    → Exact (optional package_statements_written) (optional_fits (package_statements_fit left)) ends_begin (package_statements_of left)
unfolding package_statements_of
package_statements_exact left =
    optionally (sees_word (codes "begin")) package_statements_written (package_statements_fit left) ends_begin _
    (word_then (λ (s : Sequence). Some s) Any (λ s. sequence_written s role.Handled) (package_statements_fit left) ends_begin (codes "begin") _
    (closing (λ (s : Sequence). Some s) Any ends_begin itself (λ s. sequence_written s role.Handled) (package_statements_fit left)
    (sequence_of left role.Handled) itself
    (narrower itself Any (λ s. sequence_written s role.Handled) (package_statements_fit left) (ends_sequence role.Handled) ends_begin
    (sequence_of left role.Handled) (sequence_exact left role.Handled)
    (λ r e. first_true (ends_sequence role.Handled r) (not_word (codes "begin") r) e))
    (λ s. tt) (λ s. refl) (λ s i p e. e)))
    (λ s ls r l. sees_word_first (codes "begin") (sequence_written s role.Handled) ls r l)
    (λ r e. not-true (sees_word (codes "begin") r) (second_true (ends_sequence role.Handled r) (not_word (codes "begin") r) e))

end_no_begin : (ws : List Written) (ls r : List Lexeme) → Leads (word (codes "end") ∷ ws) ls r → ends_begin ls ≡ true
unfolding starts begins_statement is_reserved
end_no_begin ws ls r l = first_is ends_begin true (word (codes "end")) (λ k ks. refl) ws ls r l

abbrev pub body_behind : PackageBody → List Written
body_behind p =
    word (codes "body") ∷ identifier_written p.name ∷ word (codes "is")
    ∷ (declarations_written p.declarations ++ (optional package_statements_written p.sequence ++ ended p.named_at_end p.name))

below_is : (left m : ℕ) → left ≡ suc m → below left ≡ m
below_is zero m e = absurd cc
below_is (suc n) m e = one_level n m e

pub package_body_exact : (left : ℕ) (place : Place)
    → Rest (λ (p : PackageBody). packages.Body p) (λ p. place ≡ p.place) body_behind (λ p. within left (package_parts_fit p)) always
    (package_body_of left place)
unfolding package_body_of
package_body_exact left place =
    let make : PackageBody → Package = λ p. packages.Body p in
    worded (codes "body") (named (λ p. p.name) (λ name.
    opened_is left make (λ p. (place ≡ p.place) × (name ≡ p.name))
    (λ p. declarations_written p.declarations ++ (optional package_statements_written p.sequence ++ ended p.named_at_end p.name)) package_parts_fit always _
    (λ m e. reshaped make (λ p. (place ≡ p.place) × (name ≡ p.name))
    (λ p. declarations_written p.declarations ++ (optional package_statements_written p.sequence ++ ended p.named_at_end p.name))
    (λ p. package_parts_fit p (below left)) (λ p. package_parts_fit p m) always _
    (field make (λ p. (place ≡ p.place) × (name ≡ p.name)) (λ p. optional package_statements_written p.sequence ++ ended p.named_at_end p.name)
    (λ p. optional_fits (package_statements_fit (below left)) p.sequence) always
    (λ p. p.declarations) declarations_written (declarations_fit (below left)) ends_declarations (declarations_at (below left)) _
    (declarations_at_exact (below left))
    (λ p ls r k l end. first_optional ends_declarations true package_statements_written (ended p.named_at_end p.name)
    (λ d ls m l. begin_declares_nothing (sequence_written d role.Handled) ls m l)
    (λ ls r l. end_declares_nothing (end_name_written p.named_at_end p.name ++ semicolon) ls r l) p.sequence ls r l)
    (λ before. last make (λ p. ((place ≡ p.place) × (name ≡ p.name)) × (before ≡ p.declarations)) (λ p. ended p.named_at_end p.name) always
    (λ p. p.sequence) (optional package_statements_written) (optional_fits (package_statements_fit (below left))) ends_begin
    (package_statements_of (below left)) _ (package_statements_exact (below left))
    (λ p ls r k l end. end_no_begin (end_name_written p.named_at_end p.name ++ semicolon) ls r l)
    (λ inside. ended_by make (λ p. (((place ≡ p.place) × (name ≡ p.name)) × (before ≡ p.declarations)) × (inside ≡ p.sequence)) (λ p. p.name)
    (λ p. p.named_at_end) name
    (λ again. record { place = place; name = name; declarations = before; sequence = inside; named_at_end = again })
    (λ p k. k.0.0.1) (λ b. (((refl, refl), refl), refl)) (λ b. refl) (λ b p k e. rw (k.0.0.0, k.0.0.1, k.0.1, k.1, e) refl))))
    (λ p. ap (package_parts_fit p) (below_is left m e)))))

-- ---- a package

declaration_form : (left : ℕ)
    → Rest (λ (p : PackageDeclaration). packages.Declaration p) Any package_declaration_written (package_declaration_fits left) always
    (the_word (codes "package") >>= package_declaration_of left)
declaration_form left =
    plain (λ (p : PackageDeclaration). packages.Declaration p) Any declaration_behind (package_declaration_fits left) always (λ p. p.place)
    (λ p. word_at p (codes "package") ∷ []) shapeless always (the_word (codes "package")) (package_declaration_of left)
    (word_exact (codes "package")) (λ p. refl) (λ p ls r k l end. refl)
    (λ place. record {
      sound =
          λ ls x r e. let f = (package_declaration_exact left place).sound ls x r e in
          record { item = f.item; is = f.is; fits = (tt, f.fits); leads = f.leads; shaped = f.shaped };
      complete = λ p ls r k o l end. (package_declaration_exact left place).complete p ls r k.1 o l end;
    })

body_form : (left : ℕ)
    → Rest (λ (p : PackageBody). packages.Body p) Any package_body_written (λ p. within left (package_parts_fit p)) always
    (the_word (codes "package") >>= package_body_of left)
body_form left =
    plain (λ (p : PackageBody). packages.Body p) Any body_behind (λ p. within left (package_parts_fit p)) always (λ p. p.place)
    (λ p. word_at p (codes "package") ∷ []) shapeless always (the_word (codes "package")) (package_body_of left)
    (word_exact (codes "package")) (λ p. refl) (λ p ls r k l end. refl)
    (λ place. record {
      sound =
          λ ls x r e. let f = (package_body_exact left place).sound ls x r e in
          record { item = f.item; is = f.is; fits = (tt, f.fits); leads = f.leads; shaped = f.shaped };
      complete = λ p ls r k o l end. (package_body_exact left place).complete p ls r k.1 o l end;
    })

package_sound : (left : ℕ) → Sound itself package_written (package_fits left) (package_of left)
unfolding package_of
package_sound left =
    forked (the_word (codes "package")) (sees_word (codes "body")) (package_body_of left) (package_declaration_of left)
    (one_form (λ (p : PackageBody). packages.Body p) (body_form left) (λ p. refl) (λ p. refl))
    (one_form (λ (p : PackageDeclaration). packages.Declaration p) (declaration_form left) (λ p. refl) (λ p. refl))

package_complete : (left : ℕ) (p : Package) (ls r : List Lexeme) → package_fits left p ≡ true → Leads (package_written p) ls r → package_of left ls ≡ done p r
unfolding package_of
package_complete left (packages.Declaration p) ls r o l =
    let t = leads_through (word_at p.place (codes "package") ∷ []) (declaration_behind p) ls r l in
    let ws = word (codes "is") ∷ (declarations_written p.declarations ++ (optional private_part_written p.private ++ ended p.named_at_end p.name)) in
    rw (
      (word_exact (codes "package")).complete p.place ls t.middle tt refl t.first refl,
      identifier_no_word (codes "body") reserved_body p.name ws t.middle r t.second,
    )
    ((package_declaration_exact left p.place).complete p t.middle r refl o t.second refl)
package_complete left (packages.Body p) ls r o l =
    let t = leads_through (word_at p.place (codes "package") ∷ []) (body_behind p) ls r l in
    let ws =
    identifier_written p.name ∷ word (codes "is")
    ∷ (declarations_written p.declarations ++ (optional package_statements_written p.sequence ++ ended p.named_at_end p.name)) in
    rw ((word_exact (codes "package")).complete p.place ls t.middle tt refl t.first refl, sees_word_first (codes "body") ws t.middle r t.second)
    ((package_body_exact left p.place).complete p t.middle r refl o t.second refl)

pub package_exact : (left : ℕ) → Exact package_written (package_fits left) always (package_of left)
package_exact left = record { sound = (package_sound left).by; complete = λ p ls r q o l end. package_complete left p ls r o l }

package_begins : (p : Package) (ls r : List Lexeme) → Leads (package_written p) ls r → sees_word (codes "package") ls ≡ true
package_begins (packages.Declaration p) ls r l = sees_word_at_first (codes "package") p.place (declaration_behind p) ls r l
package_begins (packages.Body p) ls r l = sees_word_at_first (codes "package") p.place (body_behind p) ls r l

-- ---- packages, each with its context (10.1.1)

abbrev pub packages_written : Packages → List Written
packages_written x = flat_map library_package_written x.0 ++ flat_map clause_written x.1

abbrev pub ends_packages : List Lexeme → Bool
ends_packages r = ends_context r && not_word (codes "package") r

package_ends_context : (r : List Lexeme) → sees_word (codes "package") r ≡ true → ends_context r ≡ true
unfolding starts
package_ends_context r e = seen_word ends_context true (codes "package") (λ p ls. refl) r e

module _ (left : ℕ) where
  abbrev pub wl : LibraryPackage → List Written
  wl p = library_package_written p

  abbrev pub fl : LibraryPackage → Bool
  fl p = library_package_fits left p

  record MorePackages (found : List LibraryPackage) (x : Packages) (ls r : List Lexeme) : Type 0 where
    items : List LibraryPackage
    is : found ++ items ≡ x.0
    leads : Leads (flat_map wl items ++ flat_map clause_written x.1) ls r
    shaped : list_all fl items ≡ true

  nothing_behind : {A : Type 0} (xs : List A) → xs ++ [] ≡ xs
  nothing_behind [] = refl
  nothing_behind (x ∷ xs) = ap (λ z. x ∷ z) (nothing_behind xs)

  last_context : (found : List LibraryPackage) (x : Packages) (context : List ContextClause) (ls m r : List Lexeme)
      → Leads (flat_map clause_written context) ls m → done (found, context) m ≡ done x r → MorePackages found x ls r
  last_context found x context ls m r l e =
      let is = pair_of (found, context) x m r e in
      record {
        items = [];
        is = nothing_behind found ∙ ap (λ (z : Packages). z.0) is.0;
        leads =
            subst (λ (z : List ContextClause). Leads (flat_map clause_written z) ls r) (ap (λ (z : Packages). z.1) is.0)
            (subst (λ (z : List Lexeme). Leads (flat_map clause_written context) ls z) is.1 l);
        shaped = refl;
      }

  context_was : (ls : List Lexeme) (context : List ContextClause) (m : List Lexeme) → context_of ls ≡ done context m
      → Leads (flat_map clause_written context) ls m
  context_was ls context m e =
      let f = context_exact.sound ls context m e in subst (λ (z : List ContextClause). Leads (flat_map clause_written z) ls m) f.is f.leads

  packages_sound : (fuel : ℕ) (found : List LibraryPackage) (ls : List Lexeme) (x : Packages) (r : List Lexeme) → packages_from left fuel found ls ≡ done x r
      → MorePackages found x ls r
  unfolding packages_from
  packages_sound zero found ls x r e =
      let s = parts (context_of ls) (λ context. pure (found, context)) x r e in
      last_context found x s.value ls s.rest r (context_was ls s.value s.rest s.is) s.then
  packages_sound (suc fuel) found ls x r e =
      let s =
      parts (context_of ls)
      (λ context. choose (sees_word (codes "package"))
      (package_of left >>= λ p. packages_from left fuel (found ++ record { context = context; «package» = p } ∷ [])) (pure (found, context))) x r e in
      by_test (sees_word (codes "package") s.rest) x ls s.value s.rest r (context_was ls s.value s.rest s.is) s.then
      (λ more m q. packages_sound fuel more m x r q)
    where
      by_test : (v : Bool) (x : Packages) (ls : List Lexeme) (context : List ContextClause) (m r : List Lexeme) → Leads (flat_map clause_written context) ls m
          → cond {A = Read Packages} v (and_then (package_of left m) (λ p. packages_from left fuel (found ++ record { context = context; «package» = p } ∷ [])))
          (done (found, context) m)
          ≡ done x r
          → ((more : List LibraryPackage) (k : List Lexeme) → packages_from left fuel more k ≡ done x r → MorePackages more x k r) → MorePackages found x ls r
      by_test false x ls context m r l e more = last_context found x context ls m r l e
      by_test true x ls context m r l e more =
          let s = parts (package_of left m) (λ p. packages_from left fuel (found ++ record { context = context; «package» = p } ∷ [])) x r e in
          let a = (package_exact left).sound m s.value s.rest s.is in
          let one : LibraryPackage = record { context = context; «package» = s.value } in
          let b = more (found ++ one ∷ []) s.rest s.then in
          let here : Leads (package_written s.value) m s.rest = subst (λ (z : Package). Leads (package_written z) m s.rest) a.is a.leads in
          record {
            items = one ∷ b.items;
            is = sym (append_assoc found (one ∷ []) b.items) ∙ b.is;
            leads = subst (λ (ws : List Written). Leads ws ls r) (sym (append_assoc (wl one) (flat_map wl b.items) (flat_map clause_written x.1)))
                (leads_both (wl one) (flat_map wl b.items ++ flat_map clause_written x.1) ls s.rest r
                (leads_both (flat_map clause_written context) (package_written s.value) ls m s.rest l here) b.leads);
            shaped = both (subst (λ (z : Package). package_fits left z ≡ true) a.is a.shaped) b.shaped;
          }

  -- a package has tokens
  package_some : (p : LibraryPackage) (ls m : List Lexeme) → Leads (wl p) ls m → length m < length ls
  package_some p ls m l =
      let t = leads_through (flat_map clause_written p.context) (package_written p.«package») ls m l in
      omega (
        arith,
        leads_length (flat_map clause_written p.context) ls t.middle t.first,
        leads_length (package_written p.«package») t.middle m t.second,
        some p.«package»,
      )
    where
      some : (p : Package) → 1 ≤ length (package_written p)
      some (packages.Declaration p) = omega arith
      some (packages.Body p) = omega arith

  ends_no_context : (r : List Lexeme) → ends_packages r ≡ true → ends_context r ≡ true
  ends_no_context r end = first_true (ends_context r) (not_word (codes "package") r) end

  no_package : (r : List Lexeme) → ends_packages r ≡ true → sees_word (codes "package") r ≡ false
  no_package r end = not-true (sees_word (codes "package") r) (second_true (ends_context r) (not_word (codes "package") r) end)

  packages_complete : (ps : List LibraryPackage) (cs : List ContextClause) (fuel : ℕ) (found : List LibraryPackage) (ls r : List Lexeme) → length ls ≤ fuel
      → list_all fl ps ≡ true
      → Leads (flat_map wl ps ++ flat_map clause_written cs) ls r → ends_packages r ≡ true → packages_from left fuel found ls ≡ done (found ++ ps, cs) r
  unfolding packages_from
  packages_complete [] cs zero found ls r enough o l end =
      rw (context_exact.complete cs ls r tt refl l (ends_no_context r end), nothing_behind found) refl
  packages_complete [] cs (suc fuel) found ls r enough o l end =
      rw (context_exact.complete cs ls r tt refl l (ends_no_context r end), no_package r end, nothing_behind found) refl
  packages_complete (p ∷ ps) cs zero found ls r enough o l end =
      let t =
      leads_through (wl p) (flat_map wl ps ++ flat_map clause_written cs) ls r
      (subst (λ (ws : List Written). Leads ws ls r) (append_assoc (wl p) (flat_map wl ps) (flat_map clause_written cs)) l) in
      absurd (omega (arith, package_some p ls t.middle t.first))
  packages_complete (p ∷ ps) cs (suc fuel) found ls r enough o l end =
      let t =
      leads_through (wl p) (flat_map wl ps ++ flat_map clause_written cs) ls r
      (subst (λ (ws : List Written). Leads ws ls r) (append_assoc (wl p) (flat_map wl ps) (flat_map clause_written cs)) l) in
      let u = leads_through (flat_map clause_written p.context) (package_written p.«package») ls t.middle t.first in
      let seen = package_begins p.«package» u.middle t.middle u.second in
      rw (
        context_exact.complete p.context ls u.middle tt refl u.first (package_ends_context u.middle seen),
        seen,
        (package_exact left).complete p.«package» u.middle t.middle tt (first_true (fl p) (list_all fl ps) o) u.second refl,
        sym (append_assoc found (p ∷ []) ps),
      )
      (packages_complete ps cs fuel (found ++ p ∷ []) t.middle r (omega (arith, package_some p ls t.middle t.first))
      (second_true (fl p) (list_all fl ps) o) t.second end)

  pub packages_exact : Exact packages_written (λ x. list_all fl x.0) ends_packages (packages_of left)
  unfolding packages_of
  packages_exact = record {
    sound = λ ls x r e.
        let m = packages_sound (length ls) [] ls x r e in
        record {
          item = x;
          is = refl;
          fits = tt;
          leads = subst (λ (z : List LibraryPackage). Leads (flat_map wl z ++ flat_map clause_written x.1) ls r) m.is m.leads;
          shaped = subst (λ (z : List LibraryPackage). list_all fl z ≡ true) m.is m.shaped;
        };
    complete = λ x ls r q o l end. packages_complete x.0 x.1 (length ls) [] ls r (omega arith) o l end;
  }

  -- ---- the main procedure (6.3)

  is_ends_aspects : (ws : List Written) (ls r : List Lexeme) → Leads (word (codes "is") ∷ ws) ls r → ends_aspects ls ≡ true
  unfolding starts
  is_ends_aspects ws ls r l = first_is ends_aspects true (word (codes "is")) (λ k ks. refl) ws ls r l

  pub main_exact : Exact main_written (main_fits left) always (main_of left)
  unfolding main_of
  main_exact =
      placed (λ m. m.place) (codes "procedure") (λ place. named (λ m. m.name) (λ name.
      field itself (λ m. (Any m × (place ≡ m.place)) × (name ≡ m.name)) (λ m. body_written sequence_written m.name m.body)
      (λ m. body_fits sequence_fits left m.body) always (λ m. m.aspects) aspects_written (aspects_fit left) ends_aspects (aspects_of left) _
      (aspects_exact left)
      (λ m ls r k l end. is_ends_aspects (sequence_written m.body.sequence role.Body ++ ended m.body.named_at_end m.name) ls r l)
      (λ aspects. respelt_where itself (λ m. ((Any m × (place ≡ m.place)) × (name ≡ m.name)) × (aspects ≡ m.aspects))
      (λ m. body_written sequence_written name m.body) (λ m. body_written sequence_written m.name m.body)
      (λ m. body_fits sequence_fits left m.body) always _
      (closing itself (λ m. ((Any m × (place ≡ m.place)) × (name ≡ m.name)) × (aspects ≡ m.aspects)) always (λ m. m.body) (body_written sequence_written name)
      (body_fits sequence_fits left) (body_of left (inside_of left) name.text)
      (λ body. record { place = place; name = name; aspects = aspects; body = body }) (body_exact left (inside_of left) (inside_exact left) name)
      (λ b. (((tt, refl), refl), refl)) (λ b. refl) (λ b m k e. rw (k.0.0.1, k.0.1, k.1, e) refl))
      (λ m k. ap (λ (n : Identifier). body_written sequence_written n m.body) k.0.1))))

  -- ---- the source (10.1)

  nothing_more : (unit other : Tree) (ls r : List Lexeme) → finished unit ls ≡ done other r → (unit ≡ other) × ((ls ≡ []) × (r ≡ []))
  nothing_more unit other [] r e = let is = pair_of unit other [] r e in (is.0, (refl, sym is.1))
  nothing_more unit other (l ∷ ls) r e = absurd cc

  procedure_ends : (ws : List Written) (p : Place) (ls r : List Lexeme) → Leads (word_at p (codes "procedure") ∷ ws) ls r → ends_packages ls ≡ true
  unfolding starts
  procedure_ends ws p ls r l = first_is ends_packages true (word_at p (codes "procedure")) (λ k ks. refl) ws ls r l

  abbrev no_pragma : List Lexeme → Bool
  no_pragma r = not_word (codes "pragma") r

  clause_no_pragma : (c : ContextClause) (ls m : List Lexeme) → Leads (clause_written c) ls m → no_pragma ls ≡ true
  unfolding starts
  clause_no_pragma c ls m l = by_use c.is_use c.place (separated (delimiter (codes ",")) name_written c.names ++ semicolon) ls m l
    where
      by_use : (is_use : Bool) (place : Place) (ws : List Written) (ls r : List Lexeme) → Leads (word_at place (clause_text is_use) ∷ ws) ls r
          → no_pragma ls ≡ true
      by_use true place ws ls r l = first_is no_pragma true (word_at place (codes "use")) (λ k ks. refl) ws ls r l
      by_use false place ws ls r l = first_is no_pragma true (word_at place (codes "with")) (λ k ks. refl) ws ls r l

  package_no_pragma : (p : Package) (ls m : List Lexeme) → Leads (package_written p) ls m → no_pragma ls ≡ true
  unfolding starts
  package_no_pragma (packages.Declaration p) ls m l = first_is no_pragma true (word_at p.place (codes "package")) (λ k ks. refl) (declaration_behind p) ls m l
  package_no_pragma (packages.Body p) ls m l = first_is no_pragma true (word_at p.place (codes "package")) (λ k ks. refl) (body_behind p) ls m l

  library_no_pragma : (p : LibraryPackage) (ls m : List Lexeme) → Leads (wl p) ls m → no_pragma ls ≡ true
  library_no_pragma p ls m l =
      first_each no_pragma true clause_written (package_written p.«package») clause_no_pragma (package_no_pragma p.«package») p.context ls m l

  main_no_pragma : (m : MainProcedure) (ls r : List Lexeme) → Leads (main_written m) ls r → no_pragma ls ≡ true
  unfolding starts
  main_no_pragma m ls r l =
      first_is no_pragma true (word_at m.place (codes "procedure")) (λ k ks. refl)
      (identifier_written m.name ∷ (aspects_written m.aspects ++ body_written sequence_written m.name m.body)) ls r l

  behind_pragmas : (ps : List LibraryPackage) (cs : List ContextClause) (m : MainProcedure) (ls r : List Lexeme)
      → Leads (flat_map wl ps ++ (flat_map clause_written cs ++ main_written m)) ls r → no_pragma ls ≡ true
  behind_pragmas ps cs m ls r l =
      first_each no_pragma true wl (flat_map clause_written cs ++ main_written m) library_no_pragma
      (λ ls r l. first_each no_pragma true clause_written (main_written m) clause_no_pragma (main_no_pragma m) cs ls r l) ps ls r l

  -- a source that was read to its end
  pub record Source (unit : Tree) (ls r : List Lexeme) : Type 0 where
    pub leads : Leads (unit_written unit) ls []
    pub shaped : unit_fits left unit ≡ true
    pub over : r ≡ []

  pub source_sound : (ls : List Lexeme) (unit : Tree) (r : List Lexeme) → source_of left ls ≡ done unit r → Source unit ls r
  unfolding source_of
  source_sound ls unit r e =
      let a = parts (items_of (sees_word (codes "pragma")) (pragma_of left) ls) _ unit r e in
      let b = parts (packages_of left a.rest) _ unit r a.then in
      let c = parts (main_of left b.rest) _ unit r b.then in
      let made : Tree = record { pragmas = a.value; packages = b.value.0; context = b.value.1; main = c.value } in
      let n = nothing_more made unit c.rest r c.then in
      let f = (pragmas_exact left).sound ls a.value a.rest a.is in
      let g = packages_exact.sound a.rest b.value b.rest b.is in
      let h = main_exact.sound b.rest c.value c.rest c.is in
      let pragmas_lead : Leads (flat_map pragma_written a.value) ls a.rest =
      subst (λ (z : List Pragma). Leads (flat_map pragma_written z) ls a.rest) f.is f.leads in
      let packages_lead : Leads (packages_written b.value) a.rest b.rest = subst (λ (z : Packages). Leads (packages_written z) a.rest b.rest) g.is g.leads in
      let main_leads : Leads (main_written c.value) b.rest [] =
      subst (λ (z : List Lexeme). Leads (main_written c.value) b.rest z) n.1.0
      (subst (λ (z : MainProcedure). Leads (main_written z) b.rest c.rest) h.is h.leads) in
      let rest : Leads (flat_map wl b.value.0 ++ (flat_map clause_written b.value.1 ++ main_written c.value)) a.rest [] =
      subst (λ (ws : List Written). Leads ws a.rest []) (append_assoc (flat_map wl b.value.0) (flat_map clause_written b.value.1) (main_written c.value))
      (leads_both (packages_written b.value) (main_written c.value) a.rest b.rest [] packages_lead main_leads) in
      let okay : unit_fits left made ≡ true =
      both (subst (λ (z : List Pragma). list_all (pragma_fits left) z ≡ true) f.is f.shaped)
      (both (subst (λ (z : Packages). list_all fl z.0 ≡ true) g.is g.shaped) (subst (λ (z : MainProcedure). main_fits left z ≡ true) h.is h.shaped)) in
      record {
        leads = subst (λ (z : Tree). Leads (unit_written z) ls []) n.0 (leads_both (flat_map pragma_written a.value) _ ls a.rest [] pragmas_lead rest);
        shaped = subst (λ (z : Tree). unit_fits left z ≡ true) n.0 okay;
        over = n.1.1;
      }

  pub source_complete : (unit : Tree) (ls : List Lexeme) → unit_fits left unit ≡ true → Leads (unit_written unit) ls [] → source_of left ls ≡ done unit []
  unfolding source_of
  source_complete unit ls o l =
      let behind : List Written = flat_map wl unit.packages ++ (flat_map clause_written unit.context ++ main_written unit.main) in
      let t = leads_through (flat_map pragma_written unit.pragmas) behind ls [] l in
      let u = leads_through (packages_written (unit.packages, unit.context)) (main_written unit.main) t.middle []
      (subst (λ (ws : List Written). Leads ws t.middle [])
      (sym (append_assoc (flat_map wl unit.packages) (flat_map clause_written unit.context) (main_written unit.main))) t.second) in
      let rest_okay = second_true (list_all (pragma_fits left) unit.pragmas) (list_all fl unit.packages && main_fits left unit.main) o in
      rw (
        (pragmas_exact left).complete unit.pragmas ls t.middle tt
            (first_true (list_all (pragma_fits left) unit.pragmas) (list_all fl unit.packages && main_fits left unit.main) o) t.first
            (behind_pragmas unit.packages unit.context unit.main t.middle [] t.second),
        packages_exact.complete (unit.packages, unit.context) t.middle u.middle tt
            (first_true (list_all fl unit.packages) (main_fits left unit.main) rest_okay) u.first
            (procedure_ends
            (identifier_written unit.main.name
            ∷ (aspects_written unit.main.aspects ++ body_written sequence_written unit.main.name unit.main.body)) unit.main.place u.middle [] u.second),
        main_exact.complete unit.main u.middle [] tt (second_true (list_all fl unit.packages) (main_fits left unit.main) rest_okay) u.second refl,
      )
      refl
