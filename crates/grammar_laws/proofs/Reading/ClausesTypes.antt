-- Types and subtypes (3.2.1, 3.2.2, 3.5.1, 3.6, 3.9.1).
use Rattle.std.proofs.Common.{◌≡◌, ℕ, zero, suc, Bool, true, false, ◌&&◌, List, [], ◌∷◌, ◌++◌, refl, sym, ap, subst, codes, append_assoc}
use Rattle.std.specs.Prelude.{Option, Some, None, flat_map}
use Rattle.std.specs.List.{list_all}
use Rattle.std.proofs.lemmas.Bool.{not-true}
use Rattle.ada_lex.specs.Reserved.{is_reserved}
use Rattle.ada_tree.specs.declared.names.Identifier.{Identifier}
use Rattle.ada_tree.specs.declared.names.Name.{Name}
use Rattle.ada_tree.specs.declared.names.OneOrMore.{OneOrMore}
use Rattle.ada_tree.specs.declared.expressions.Expression.{Expression}
use Rattle.ada_tree.specs.declared.statements.Sequence.{Sequence}
use Rattle.ada_tree.specs.declared.declarations.Declaration.{Declaration}
use Rattle.ada_tree.specs.declared.declarations.Declaration.TheVariants as declarations
use Rattle.ada_tree.specs.declared.declarations.SubtypeIndication.{SubtypeIndication}
use Rattle.ada_tree.specs.declared.declarations.Component.{Component}
use Rattle.ada_tree.specs.declared.declarations.TypeDeclaration.{TypeDeclaration}
use Rattle.ada_tree.specs.declared.declarations.TypeDefinition.{TypeDefinition}
use Rattle.ada_tree.specs.declared.declarations.TypeDefinition.TheVariants as definitions
use Rattle.ada_tree.specs.declared.declarations.SubtypeDeclaration.{SubtypeDeclaration}
use Rattle.ada_tree.specs.Written.{Written, Lexeme, word, delimiter, all_written, name_written, identifiers_written}
use Rattle.ada_tree.specs.SpellingExpressions.{expression_written}
use Rattle.ada_tree.specs.SpellingStatements.{indication_written}
use Rattle.ada_tree.specs.SpellingDeclarations.{component_written, extension_written, definition_written, type_written, subtype_written}
use Rattle.ada_tree.specs.ShapeExpressions.{within, optional_fits}
use Rattle.ada_tree.specs.ShapeStatements.{nothing_in_it, indication_fits}
use Rattle.ada_tree.specs.ShapeDeclarations.{component_fits, components_fit, bounds_fit, definition_fits}
use Rattle.ada_grammar.specs.Reading.{Parser, pure, starts, sees_delimiter, sees_word, sees_identifier, the_word}
use Rattle.ada_grammar.specs.Reading.{the_delimiter, below, items_of, identifiers_of, name_of, ◌>>=◌, ◌>>◌}
use Rattle.ada_grammar.specs.ReadingSimple.{bounds_of, subtype_indication_of}
use Rattle.ada_grammar.specs.ReadingDeclarations.{component_of, enumeration_of, array_of, null_record_of, components_record_of}
use Rattle.ada_grammar.specs.ReadingDeclarations.{extension_of, derived_of, definition_of, type_of, subtype_of}
use Rattle.grammar_laws.specs.Leads.{Leads}
use Rattle.grammar_laws.proofs.Reading.Exact.{done, Rest, Any, itself, Exact, field, respelt, reshaped, closing, first_is, listed}
use Rattle.grammar_laws.proofs.Reading.Tokens.{always, shapeless, word_then, delimiter_then, sees_delimiter_first, sees_word_first}
use Rattle.grammar_laws.proofs.Reading.Names.{not_delimiter, name_exact, identifiers_exact}
use Rattle.grammar_laws.proofs.Reading.Choices.{Sound, either, one_form, opened_plain}
use Rattle.grammar_laws.proofs.Reading.Ends.{ends_expression}
use Rattle.grammar_laws.proofs.Reading.ClausesEnds.{ends_subtype, not_identifier}
use Rattle.grammar_laws.proofs.Reading.ClausesSteps.{delimiter_ends, word_ends, field_before, last_before, plain_before, word_kept, identifier_kept}
use Rattle.grammar_laws.proofs.Reading.ClausesSubtypes.{bounds_written, both_fit, bounds_exact, subtype_indication_exact}
use Rattle.grammar_laws.proofs.Reading.ClausesObjects.{component_exact, component_begins}

-- ---- enumerations: "(" NAME {"," NAME} ")"

abbrev enumeration : OneOrMore Identifier → TypeDefinition
enumeration literals = definitions.Enumeration literals

pub enumeration_exact : (left : ℕ)
    → Rest (λ (n : OneOrMore Identifier). definitions.Enumeration n) Any (λ n. definition_written (definitions.Enumeration n))
    (λ n. within left nothing_in_it) always (enumeration_of left)
unfolding enumeration_of starts
enumeration_exact left =
    opened_plain left enumeration Any _ (λ n. nothing_in_it) always _ (λ m e.
    plain_before enumeration Any (delimiter (codes ")")) _ always itself identifiers_written shapeless
    (not_delimiter (codes ",")) identifiers_of _ identifiers_exact (λ l ls. refl) _ (λ a. refl)
    (λ literals. delimiter_ends enumeration _ (codes ")") literals (tt, refl) (λ j p. p.1)))

-- ---- arrays: "array" "(" expression ".." expression ")" "of" subtype

abbrev Arrayed : Type 0
Arrayed = (Expression × Expression) × SubtypeIndication

abbrev array : Arrayed → TypeDefinition
array x = definitions.Array x.0.0 x.0.1 x.1

abbrev array_written : Arrayed → List Written
array_written x = bounds_written x.0 ++ delimiter (codes ")") ∷ word (codes "of") ∷ indication_written x.1

-- behind the opening bracket, behind which so many levels are left
abbrev array_inside : ℕ → ℕ → Parser TypeDefinition
array_inside left inside = do
  bounds ← bounds_of inside
  the_delimiter (codes ")")
  the_word (codes "of")
  component ← subtype_indication_of left
  pure (definitions.Array bounds.0 bounds.1 component)

inside_exact : (left m : ℕ) → Rest array Any array_written (λ x. both_fit m x.0 && indication_fits left x.1) ends_subtype (array_inside left m)
unfolding starts
inside_exact left m =
    field_before array Any (delimiter (codes ")")) _ ends_subtype (λ x. x.0) bounds_written (both_fit m) ends_expression (bounds_of m) _ (bounds_exact m)
    (λ l ls. refl) (λ x. indication_fits left x.1)
    (λ bounds. delimiter_then array _ _ _ ends_subtype (codes ")") _
    (word_then array _ _ _ ends_subtype (codes "of") _
    (closing array _ ends_subtype (λ x. x.1) indication_written (indication_fits left) (subtype_indication_of left) (λ component. (bounds, component))
    (subtype_indication_exact left)
    (λ c. (tt, refl)) (λ c. refl) (λ c x p e. rw (p.1, e) refl))))

within_and : (left : ℕ) (fits : ℕ → Bool) (b : Bool) → within left (λ m. fits m && b) ≡ (within left fits && b)
within_and zero fits b = refl
within_and (suc m) fits b = refl

abbrev array_respelt : Arrayed → List Written
array_respelt x = word (codes "array") ∷ delimiter (codes "(") ∷ array_written x

array_same : (x : Arrayed) → array_respelt x ≡ definition_written (array x)
array_same x =
    rw (append_assoc (expression_written x.0.0) (delimiter (codes "..") ∷ expression_written x.0.1)
    (delimiter (codes ")") ∷ word (codes "of") ∷ indication_written x.1)) refl

pub array_exact : (left : ℕ)
    → Rest (λ (x : (Expression × Expression) × SubtypeIndication). definitions.Array x.0.0 x.0.1 x.1) Any
    (λ x. definition_written (definitions.Array x.0.0 x.0.1 x.1)) (λ x. within left (bounds_fit x.0.0 x.0.1) && indication_fits left x.1) ends_subtype
    (array_of left)
unfolding array_of
array_exact left =
    respelt array Any array_respelt (λ x. definition_written (array x)) (λ x. within left (bounds_fit x.0.0 x.0.1) && indication_fits left x.1) ends_subtype _
    (reshaped array Any array_respelt (λ x. within left (λ m. both_fit m x.0 && indication_fits left x.1))
    (λ x. within left (bounds_fit x.0.0 x.0.1) && indication_fits left x.1) ends_subtype _
    (word_then array Any (λ x. delimiter (codes "(") ∷ array_written x) _ ends_subtype (codes "array") _
    (opened_plain left array Any array_written (λ x m. both_fit m x.0 && indication_fits left x.1) ends_subtype (array_inside left (below left))
    (λ m e. subst (λ (z : ℕ). Rest array Any array_written (λ x. both_fit m x.0 && indication_fits left x.1) ends_subtype (array_inside left (below z))) (sym e)
    (inside_exact left m))))
    (λ x. within_and left (bounds_fit x.0.0 x.0.1) (indication_fits left x.1)))
    array_same

-- ---- derived types: "new" name "with" extension

abbrev no_components : Unit {0} → Option (OneOrMore Component)
no_components u = None

null_record_exact : Rest no_components Any (λ u. word (codes "null") ∷ word (codes "record") ∷ []) shapeless always null_record_of
unfolding null_record_of
null_record_exact = word_then no_components Any _ _ always (codes "null") _ (word_ends no_components Any (codes "record") tt tt (λ u p. refl))

abbrev some_components : OneOrMore Component → Option (OneOrMore Component)
some_components xs = Some xs

pub components_exact : (left : ℕ)
    → Exact (flat_map component_written) (list_all (component_fits left)) not_identifier (items_of sees_identifier (component_of left))
unfolding starts
components_exact left =
    listed sees_identifier component_written (component_fits left) always not_identifier (component_of left) (component_exact left) component_begins refl
    (λ r e. refl) (λ r e. refl) (λ r e. not-true (sees_identifier r) e)

abbrev record_end : List Written
record_end = word (codes "end") ∷ word (codes "record") ∷ []

abbrev others_behind : OneOrMore Component → List Written
others_behind xs = flat_map component_written xs.others ++ record_end

abbrev record_respelt : OneOrMore Component → List Written
record_respelt xs = word (codes "record") ∷ (component_written xs.first ++ others_behind xs)

record_same : (xs : OneOrMore Component) → record_respelt xs ≡ extension_written (Some xs)
record_same xs =
    ap (λ (ws : List Written). word (codes "record") ∷ ws) (sym (append_assoc (component_written xs.first) (flat_map component_written xs.others) record_end))

components_record_exact : (left : ℕ) → Rest some_components Any (λ xs. extension_written (Some xs)) (components_fit left) always (components_record_of left)
unfolding components_record_of starts is_reserved
components_record_exact left =
    respelt some_components Any record_respelt (λ xs. extension_written (Some xs)) (components_fit left) always _
    (word_then some_components Any _ _ always (codes "record") _
    (field some_components Any others_behind (λ xs. list_all (component_fits left) xs.others) always (λ xs. xs.first) component_written
    (component_fits left) always (component_of left) _ (component_exact left) (λ i ls r p l end. refl)
    (λ first. last_before some_components _ (word (codes "end")) _ always (λ xs. xs.others) (flat_map component_written)
    (list_all (component_fits left)) not_identifier (items_of sees_identifier (component_of left)) _ (components_exact left) (λ l ls. refl)
    (λ others. word_then some_components _ _ _ always (codes "end") _
    (word_ends some_components _ (codes "record") (record { first = first; others = others }) ((tt, refl), refl) (λ j p. rw (p.0.1, p.1) refl))))))
    record_same

extension_sound : (left : ℕ) → Sound itself extension_written (optional_fits (components_fit left)) (extension_of left)
unfolding extension_of
extension_sound left =
    either (sees_word (codes "null")) (one_form no_components null_record_exact (λ u. refl) (λ u. refl))
    (one_form some_components (components_record_exact left) (λ xs. refl) (λ xs. refl))

extension_complete : (left : ℕ) (o : Option (OneOrMore Component)) (ls r : List Lexeme) → optional_fits (components_fit left) o ≡ true
    → Leads (extension_written o) ls r → extension_of left ls ≡ done o r
unfolding extension_of starts
extension_complete left None ls r okay l =
    rw (sees_word_first (codes "null") (word (codes "record") ∷ []) ls r l) (null_record_exact.complete tt ls r tt refl l refl)
extension_complete left (Some xs) ls r okay l =
    rw (first_is (sees_word (codes "null")) false (word (codes "record")) (λ l ls. refl) (all_written component_written xs ++ record_end) ls r l)
    ((components_record_exact left).complete xs ls r tt okay l refl)

pub extension_exact : (left : ℕ) → Exact extension_written (optional_fits (components_fit left)) always (extension_of left)
extension_exact left = record { sound = (extension_sound left).by; complete = λ o ls r q okay l end. extension_complete left o ls r okay l }

abbrev derived : Name × Option (OneOrMore Component) → TypeDefinition
derived x = definitions.Derived x.0 x.1

pub derived_exact : (left : ℕ)
    → Rest (λ (x : Name × Option (OneOrMore Component)). definitions.Derived x.0 x.1) Any (λ x. definition_written (definitions.Derived x.0 x.1))
    (λ x. optional_fits (components_fit left) x.1) always (derived_of left)
unfolding derived_of starts
derived_exact left =
    word_then derived Any _ _ always (codes "new") _
    (plain_before derived Any (word (codes "with")) _ always (λ x. x.0) name_written shapeless (not_delimiter (codes ".")) name_of _ name_exact (λ l ls. refl) _
    (λ a. refl)
    (λ parent. word_then derived _ _ _ always (codes "with") _
    (closing derived _ always (λ x. x.1) extension_written (optional_fits (components_fit left)) (extension_of left) (λ components. (parent, components))
    (extension_exact left)
    (λ c. (tt, refl)) (λ c. refl) (λ c x p e. rw (p.1, e) refl))))

-- ---- definitions

definition_sound : (left : ℕ) → Sound itself definition_written (definition_fits left) (definition_of left)
unfolding definition_of
definition_sound left =
    either (sees_delimiter (codes "(")) (one_form enumeration (enumeration_exact left) (λ n. refl) (λ n. refl))
    (either (sees_word (codes "array")) (one_form array (array_exact left) (λ x. refl) (λ x. refl))
    (one_form derived (derived_exact left) (λ x. refl) (λ x. refl)))

definition_complete : (left : ℕ) (d : TypeDefinition) (ls r : List Lexeme) → definition_fits left d ≡ true → Leads (definition_written d) ls r
    → ends_subtype r ≡ true → definition_of left ls ≡ done d r
unfolding definition_of starts
definition_complete left (definitions.Enumeration literals) ls r okay l end =
    rw (sees_delimiter_first (codes "(") (identifiers_written literals ++ delimiter (codes ")") ∷ []) ls r l)
    ((enumeration_exact left).complete literals ls r tt okay l refl)
definition_complete left (definitions.Array low high component) ls r okay l end =
    let inside : List Written =
    delimiter (codes "(")
    ∷ (expression_written low ++ delimiter (codes "..")
    ∷ (expression_written high ++ delimiter (codes ")") ∷ word (codes "of") ∷ indication_written component)) in
    rw (first_is (sees_delimiter (codes "(")) false (word (codes "array")) (λ l ls. refl) inside ls r l, sees_word_first (codes "array") inside ls r l)
    ((array_exact left).complete ((low, high), component) ls r tt okay l end)
definition_complete left (definitions.Derived parent components) ls r okay l end =
    let behind_new : List Written = name_written parent ++ word (codes "with") ∷ extension_written components in
    rw (
      first_is (sees_delimiter (codes "(")) false (word (codes "new")) (λ l ls. refl) behind_new ls r l,
      first_is (sees_word (codes "array")) false (word (codes "new")) (λ l ls. refl) behind_new ls r l,
    )
    ((derived_exact left).complete (parent, components) ls r tt okay l refl)

pub definition_exact : (left : ℕ) → Exact definition_written (definition_fits left) ends_subtype (definition_of left)
definition_exact left = record { sound = (definition_sound left).by; complete = λ d ls r q okay l end. definition_complete left d ls r okay l end }

-- ---- types and subtypes

pub type_exact : (left : ℕ)
    → Rest {X = Declaration Sequence} (λ (t : TypeDeclaration). declarations.Type t) Any type_written (λ t. definition_fits left t.definition) always
    (type_of left)
unfolding type_of starts
type_exact left =
    let make : TypeDeclaration → Declaration Sequence = λ t. declarations.Type t in
    word_kept make Any _ _ always (λ t. t.place) (codes "type") _
    (λ place. identifier_kept make _ _ _ always (λ t. t.name) _
    (λ name. word_then make _ _ _ always (codes "is") _
    (last_before make _ (delimiter (codes ";")) _ always (λ t. t.definition) definition_written (definition_fits left) ends_subtype (definition_of left) _
    (definition_exact left) (λ l ls. refl)
    (λ definition. delimiter_ends make _ (codes ";") (record { place = place; name = name; definition = definition }) (((tt, refl), refl), refl)
    (λ j p. rw (p.0.0.1, p.0.1, p.1) refl)))))

pub subtype_exact : (left : ℕ)
    → Rest {X = Declaration Sequence} (λ (s : SubtypeDeclaration). declarations.Subtype s) Any subtype_written (λ s. indication_fits left s.subtype) always
    (subtype_of left)
unfolding subtype_of starts
subtype_exact left =
    let make : SubtypeDeclaration → Declaration Sequence = λ s. declarations.Subtype s in
    word_kept make Any _ _ always (λ s. s.place) (codes "subtype") _
    (λ place. identifier_kept make _ _ _ always (λ s. s.name) _
    (λ name. word_then make _ _ _ always (codes "is") _
    (last_before make _ (delimiter (codes ";")) _ always (λ s. s.subtype) indication_written (indication_fits left) ends_subtype (subtype_indication_of left) _
    (subtype_indication_exact left) (λ l ls. refl)
    (λ subtype. delimiter_ends make _ (codes ";") (record { place = place; name = name; subtype = subtype }) (((tt, refl), refl), refl)
    (λ j p. rw (p.0.0.1, p.0.1, p.1) refl)))))
