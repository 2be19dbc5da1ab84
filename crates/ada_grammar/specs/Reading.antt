-- Reading the tokens of a source from left to right: the steps that every production is made of.
use Rattle.std.specs.Prelude.{ℕ, zero, suc, Bool, true, false, not, ◌&&◌, if◌then◌else◌}
use Rattle.std.specs.Prelude.{List, [], ◌∷◌, ◌++◌, length, Result, Ok, Err, codes}
use Rattle.std.specs.Str.{bytes_eq}
use Rattle.ann_base.specs.declared.places.Place.{Place}
use Rattle.ada_lex.specs.declared.tokens.Kind.{Kind}
use Rattle.ada_lex.specs.declared.tokens.Kind.TheVariants as kinds
use Rattle.ada_lex.specs.Reserved.{is_reserved}
use Rattle.ada_tree.specs.declared.names.Identifier.{Identifier}
use Rattle.ada_tree.specs.declared.names.Name.{Name}
use Rattle.ada_tree.specs.declared.names.OneOrMore.{OneOrMore}
use Rattle.ada_tree.specs.Written.{Lexeme}
use Rattle.ada_grammar.specs.declared.stuck.Stuck.{Stuck}
use Rattle.ada_grammar.specs.declared.stuck.Stuck.TheVariants as stuck

-- What reading gives: a part and the tokens that are left behind it, or why it cannot go on.
abbrev pub Read : Type 0 → Type 0
Read A = Result (A × List Lexeme) Stuck

abbrev pub Parser : Type 0 → Type 0
Parser A = List Lexeme → Read A

abbrev pub and_then : {A B : Type 0} → Read A → (A → Parser B) → Read B
and_then (Ok p) f = f p.0 p.1
and_then (Err why) f = Err why

infixl 10 ◌>>=◌
abbrev pub ◌>>=◌ : {A B : Type 0} → Parser A → (A → Parser B) → Parser B
p >>= f = λ ls. and_then (p ls) f

infixl 10 ◌>>◌
abbrev pub ◌>>◌ : {A B : Type 0} → Parser A → Parser B → Parser B
p >> q = p >>= (λ _. q)

abbrev pub pure : {A : Type 0} → A → Parser A
pure a = λ ls. Ok (a, ls)

-- the next token cannot stand there
abbrev pub nothing : {A : Type 0} → Parser A
nothing = λ ls. Err (stuck.At (length ls))

-- the next token would open a level that is not left
abbrev pub too_deep : {A : Type 0} → Parser A
too_deep = λ ls. Err (stuck.TooDeep (length ls))

abbrev pub choose : {A : Type 0} → (List Lexeme → Bool) → Parser A → Parser A → Parser A
choose test p q = λ ls. if test ls then p ls else q ls

-- ---- one token

abbrev pub is_word : Kind → Bool
is_word kinds.Word = true
is_word kinds.Number = false
is_word kinds.Text = false
is_word kinds.Delimiter = false

abbrev pub is_number : Kind → Bool
is_number kinds.Word = false
is_number kinds.Number = true
is_number kinds.Text = false
is_number kinds.Delimiter = false

abbrev pub is_text : Kind → Bool
is_text kinds.Word = false
is_text kinds.Number = false
is_text kinds.Text = true
is_text kinds.Delimiter = false

abbrev pub is_delimiter : Kind → Bool
is_delimiter kinds.Word = false
is_delimiter kinds.Number = false
is_delimiter kinds.Text = false
is_delimiter kinds.Delimiter = true

-- this word, this delimiter, an identifier (any word that is not reserved, 2.3), a number, a text
abbrev pub is_this_word : List ℕ → Lexeme → Bool
is_this_word text l = is_word l.kind && bytes_eq l.text text

abbrev pub is_this_delimiter : List ℕ → Lexeme → Bool
is_this_delimiter text l = is_delimiter l.kind && bytes_eq l.text text

abbrev pub is_identifier : Lexeme → Bool
is_identifier l = is_word l.kind && not (is_reserved l.text)

abbrev pub is_numeral : Lexeme → Bool
is_numeral l = is_number l.kind

abbrev pub is_string : Lexeme → Bool
is_string l = is_text l.kind

-- whether the next token is such a one
unfoldable pub starts : (Lexeme → Bool) → List Lexeme → Bool
starts test [] = false
starts test (l ∷ ls) = test l

-- whether the next two tokens are such ones
unfoldable pub starts_both : (Lexeme → Bool) → (Lexeme → Bool) → List Lexeme → Bool
starts_both first second [] = false
starts_both first second (l ∷ ls) = first l && starts second ls

abbrev pub sees_word : List ℕ → List Lexeme → Bool
sees_word text ls = starts (is_this_word text) ls

abbrev pub sees_delimiter : List ℕ → List Lexeme → Bool
sees_delimiter text ls = starts (is_this_delimiter text) ls

abbrev pub sees_identifier : List Lexeme → Bool
sees_identifier ls = starts is_identifier ls

-- the next token, which is to be such a one
unfoldable pub token : (Lexeme → Bool) → Parser Lexeme
token test [] = Err (stuck.At 0)
token test (l ∷ ls) = if test l then Ok (l, ls) else Err (stuck.At (length (l ∷ ls)))

unfoldable pub the_word : List ℕ → Parser Place
the_word text = token (is_this_word text) >>= λ l. pure l.place

unfoldable pub the_delimiter : List ℕ → Parser Place
the_delimiter text = token (is_this_delimiter text) >>= λ l. pure l.place

unfoldable pub an_identifier : Parser Identifier
an_identifier = token is_identifier >>= λ l. pure (record { place = l.place; text = l.text })

-- a number or a text: where it stands and what it says
unfoldable pub a_number : Parser (Place × List ℕ)
a_number = token is_numeral >>= λ l. pure (l.place, l.text)

unfoldable pub a_text : Parser (Place × List ℕ)
a_text = token is_string >>= λ l. pure (l.place, l.text)

-- whether this word stands there
unfoldable pub flag_of : List ℕ → Parser Bool
flag_of text = choose (sees_word text) (the_word text >> pure true) (pure false)

-- the name of a construct behind its `end`, or none
unfoldable pub end_name_of : List ℕ → Parser Bool
end_name_of name = flag_of name

-- an opening bracket, or the `is` of a body, where so many levels are left
unfoldable pub opening_of : ℕ → Parser Place
opening_of zero = choose (sees_delimiter (codes "(")) too_deep nothing
opening_of (suc left) = the_delimiter (codes "(")

unfoldable pub opening_is_of : ℕ → Parser Place
opening_is_of zero = choose (sees_word (codes "is")) too_deep nothing
opening_is_of (suc left) = the_word (codes "is")

-- the levels that are left behind it
abbrev pub below : ℕ → ℕ
below zero = zero
below (suc left) = left

-- ---- lists

-- items as long as one begins; each has a token at least, so the fuel is enough where it is the number of tokens
unfoldable pub items_from : {A : Type 0} → (List Lexeme → Bool) → Parser A → ℕ → List A → Parser (List A)
items_from begins item zero found = pure found
items_from begins item (suc fuel) found =
    choose begins (item >>= λ x. items_from begins item fuel (found ++ x ∷ [])) (pure found)

unfoldable pub items_of : {A : Type 0} → (List Lexeme → Bool) → Parser A → Parser (List A)
items_of begins item = λ ls. items_from begins item (length ls) [] ls

-- an item behind a separator
unfoldable pub behind_delimiter_of : {A : Type 0} → List ℕ → Parser A → Parser A
behind_delimiter_of separator item = the_delimiter separator >> item

-- one {separator one}
unfoldable pub separated_of : {A : Type 0} → List ℕ → Parser A → Parser (OneOrMore A)
separated_of separator item = do
  first ← item
  others ← items_of (sees_delimiter separator) (behind_delimiter_of separator item)
  pure (record { first = first; others = others })

-- NAME {"," NAME}
unfoldable pub identifiers_of : Parser (OneOrMore Identifier)
identifiers_of = separated_of (codes ",") an_identifier

-- NAME {"." NAME}
unfoldable pub name_of : Parser Name
name_of = separated_of (codes ".") an_identifier >>= λ parts. pure (record { parts = parts })

-- name {separator name}
unfoldable pub names_of : List ℕ → Parser (OneOrMore Name)
names_of separator = separated_of separator name_of
