-- Names (4.1).
use Rattle.std.proofs.Common.{◌≡◌, ℕ, Bool, true, false, not, ◌&&◌, List, [], ◌∷◌, ◌++◌, refl, sym, subst, codes}
use Rattle.std.specs.Prelude.{flat_map}
use Rattle.std.specs.List.{list_all}
use Rattle.std.proofs.lemmas.Bool.{not-true}
use Rattle.ada_tree.specs.Written.{Written, Lexeme, delimiter, behind, separated, one_identifier, identifiers_written, name_written}
use Rattle.ada_tree.specs.ShapeExpressions.{all_fit}
use Rattle.ada_grammar.specs.Reading.{Parser, ◌>>◌, starts, the_delimiter, sees_delimiter, an_identifier, items_of}
use Rattle.ada_grammar.specs.Reading.{behind_delimiter_of, separated_of, identifiers_of, name_of, names_of}
use Rattle.grammar_laws.specs.Leads.{Leads}
use Rattle.grammar_laws.proofs.Reading.Exact.{Any, itself, Exact, field, closing, reshaped, first_true, second_true, listed}
use Rattle.grammar_laws.proofs.Reading.Tokens.{always, shapeless, delimiter_then, identifier_exact, all_shapeless, sees_delimiter_first}

-- what may not stand behind a list with this delimiter between its items
abbrev pub not_delimiter : List ℕ → List Lexeme → Bool
not_delimiter text r = not (sees_delimiter text r)

-- ---- one {separator one}

pub separated_exact : {A : Type 0} (separator : List ℕ) (w : A → List Written) (ok : A → Bool) (ends_item ends : List Lexeme → Bool) (item : Parser A)
    → Exact w ok ends_item item
    → ((r : List Lexeme) → sees_delimiter separator r ≡ true → ends_item r ≡ true)
    → ((r : List Lexeme) → ends r ≡ true → ends_item r ≡ true)
    → ((r : List Lexeme) → ends r ≡ true → sees_delimiter separator r ≡ false)
    → Exact (separated (delimiter separator) w) (all_fit ok) ends (separated_of separator item)
unfolding separated_of behind_delimiter_of starts
separated_exact {A} separator w ok ends_item ends item one apart closed over =
    field itself Any (λ xs. flat_map (behind (delimiter separator) w) xs.others) (λ xs. list_all ok xs.others) ends
    (λ xs. xs.first) w ok ends_item item _ one
    (λ xs ls r p l end. behind_first xs.others ls r l end)
    (λ first. closing itself (λ xs. Any xs × (first ≡ xs.first)) ends (λ xs. xs.others) (flat_map (behind (delimiter separator) w)) (list_all ok)
    (items_of (sees_delimiter separator) (the_delimiter separator >> item)) (λ others. record { first = first; others = others })
    (listed (sees_delimiter separator) (behind (delimiter separator) w) ok ends_item ends (the_delimiter separator >> item)
    (delimiter_then itself Any w ok ends_item separator item one) (λ a ls r l. sees_delimiter_first separator (w a) ls r l) refl apart closed over)
    (λ others. (tt, refl)) (λ others. refl) (λ others xs p e. rw (p.1, e) refl))
  where
    behind_first : (others : List A) (ls r : List Lexeme) → Leads (flat_map (behind (delimiter separator) w) others) ls r → ends r ≡ true → ends_item ls ≡ true
    behind_first [] ls r l end = subst (λ (z : List Lexeme). ends_item z ≡ true) (sym l) (closed r end)
    behind_first (x ∷ others) ls r l end = apart ls (sees_delimiter_first separator (w x ++ flat_map (behind (delimiter separator) w) others) ls r l)

-- without a shape of its own
pub separated_plain : {A : Type 0} (separator : List ℕ) (w : A → List Written) (ends_item ends : List Lexeme → Bool) (item : Parser A)
    → Exact w shapeless ends_item item
    → ((r : List Lexeme) → sees_delimiter separator r ≡ true → ends_item r ≡ true)
    → ((r : List Lexeme) → ends r ≡ true → ends_item r ≡ true)
    → ((r : List Lexeme) → ends r ≡ true → sees_delimiter separator r ≡ false)
    → Exact (separated (delimiter separator) w) shapeless ends (separated_of separator item)
separated_plain separator w ends_item ends item one apart closed over =
    reshaped itself Any (separated (delimiter separator) w) (all_fit shapeless) shapeless ends (separated_of separator item)
    (separated_exact separator w shapeless ends_item ends item one apart closed over) (λ xs. all_shapeless xs.others)

-- NAME {"," NAME}
pub identifiers_exact : Exact identifiers_written shapeless (not_delimiter (codes ",")) identifiers_of
unfolding identifiers_of
identifiers_exact =
    separated_plain (codes ",") one_identifier always (not_delimiter (codes ",")) an_identifier identifier_exact (λ r e. refl) (λ r e. refl)
    (λ r e. not-true (sees_delimiter (codes ",") r) e)

-- NAME {"." NAME}
pub name_exact : Exact name_written shapeless (not_delimiter (codes ".")) name_of
unfolding name_of
name_exact =
    closing itself Any (not_delimiter (codes ".")) (λ name. name.parts) (separated (delimiter (codes ".")) one_identifier) shapeless
    (separated_of (codes ".") an_identifier)
    (λ parts. record { parts = parts })
    (separated_plain (codes ".") one_identifier always (not_delimiter (codes ".")) an_identifier identifier_exact (λ r e. refl) (λ r e. refl)
    (λ r e. not-true (sees_delimiter (codes ".") r) e))
    (λ parts. tt) (λ parts. refl) (λ parts name p e. rw e refl)

-- name {separator name}
abbrev pub ends_names : List ℕ → List Lexeme → Bool
ends_names separator r = not_delimiter (codes ".") r && not_delimiter separator r

pub names_exact : (separator : List ℕ) → ((r : List Lexeme) → sees_delimiter separator r ≡ true → not_delimiter (codes ".") r ≡ true)
    → Exact (separated (delimiter separator) name_written) shapeless (ends_names separator) (names_of separator)
unfolding names_of
names_exact separator apart =
    separated_plain separator name_written (not_delimiter (codes ".")) (ends_names separator) name_of name_exact apart
    (λ r e. first_true (not_delimiter (codes ".") r) (not_delimiter separator r) e)
    (λ r e. not-true (sees_delimiter separator r) (second_true (not_delimiter (codes ".") r) (not_delimiter separator r) e))
