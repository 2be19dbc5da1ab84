-- Tokens: as a tree writes them, and as a source has them.
use Rattle.std.specs.Prelude.{◌≡◌, ℕ, Bool, true, false, List, [], ◌∷◌, ◌++◌, Option, Some, None, map, codes, flat_map}
use Rattle.ann_base.specs.declared.places.Place.{Place}
use Rattle.ada_lex.specs.declared.tokens.Kind.{Kind}
use Rattle.ada_lex.specs.declared.tokens.Kind.TheVariants as kinds
use Rattle.ada_lex.specs.declared.tokens.Token.{Token}
use Rattle.ada_lex.specs.Meaning.{spelling_of, meaning_of}
use Rattle.ada_lex.specs.Reserved.{is_reserved}
use Rattle.ada_tree.specs.declared.names.Identifier.{Identifier}
use Rattle.ada_tree.specs.declared.names.Name.{Name}
use Rattle.ada_tree.specs.declared.names.OneOrMore.{OneOrMore}

-- a token of a tree: what it says, whether it is an identifier, and its place where the tree keeps one
pub record Written : Type 0 where
  pub kind : Kind
  pub text : List ℕ
  pub identifier : Bool
  pub place : Option Place

-- a token of a source: what it says, and its place
pub record Lexeme : Type 0 where
  pub kind : Kind
  pub text : List ℕ
  pub place : Place

abbrev pub lexeme_of : List ℕ → Token → Lexeme
lexeme_of source token = record {
  kind = token.kind;
  text = meaning_of token.kind (spelling_of source token);
  place = token.place;
}

abbrev pub lexemes_of : List ℕ → List Token → List Lexeme
lexemes_of source tokens = map (lexeme_of source) tokens

-- ---- single tokens: a reserved word or one that an attribute is, with its place or without; a delimiter; an
-- identifier

abbrev pub word : List ℕ → Written
word text = record { kind = kinds.Word; text = text; identifier = false; place = None }

abbrev pub word_at : Place → List ℕ → Written
word_at place text = record { kind = kinds.Word; text = text; identifier = false; place = Some place }

abbrev pub delimiter : List ℕ → Written
delimiter text = record { kind = kinds.Delimiter; text = text; identifier = false; place = None }

abbrev pub delimiter_at : Place → List ℕ → Written
delimiter_at place text = record { kind = kinds.Delimiter; text = text; identifier = false; place = Some place }

abbrev pub number_at : Place → List ℕ → Written
number_at place text = record { kind = kinds.Number; text = text; identifier = false; place = Some place }

abbrev pub text_at : Place → List ℕ → Written
text_at place text = record { kind = kinds.Text; text = text; identifier = false; place = Some place }

abbrev pub identifier_written : Identifier → Written
identifier_written i = record { kind = kinds.Word; text = i.text; identifier = true; place = Some i.place }

-- ---- lists

-- each with a separator before it
abbrev pub behind : {X : Type 0} → Written → (X → List Written) → X → List Written
behind separator w x = separator ∷ w x

-- {one {separator one}}
abbrev pub separated : {X : Type 0} → Written → (X → List Written) → OneOrMore X → List Written
separated separator w xs = w xs.first ++ flat_map (behind separator w) xs.others

-- one {one}
abbrev pub all_written : {X : Type 0} → (X → List Written) → OneOrMore X → List Written
all_written w xs = w xs.first ++ flat_map w xs.others

abbrev pub optional : {X : Type 0} → (X → List Written) → Option X → List Written
optional w None = []
optional w (Some x) = w x

abbrev pub flag : Bool → List Written → List Written
flag true ws = ws
flag false ws = []

-- an opening word or delimiter, items with commas or semicolons between them, and what closes; nothing where there are
-- none
abbrev pub enclosed : {X : Type 0} → Written → Written → List Written → (X → List Written) → List X → List Written
enclosed opening separator closing w [] = []
enclosed opening separator closing w (x ∷ xs) = opening ∷ (w x ++ (flat_map (behind separator w) xs ++ closing))

-- ---- names (4.1)

abbrev pub one_identifier : Identifier → List Written
one_identifier i = identifier_written i ∷ []

-- NAME {"." NAME}
abbrev pub name_written : Name → List Written
name_written name = separated (delimiter (codes ".")) one_identifier name.parts

-- NAME {"," NAME}
abbrev pub identifiers_written : OneOrMore Identifier → List Written
identifiers_written names = separated (delimiter (codes ",")) one_identifier names

-- the name behind `end` is the construct's own, or none: a flag says which
abbrev pub end_name_written : Bool → Identifier → List Written
end_name_written named name = flag named (word name.text ∷ [])

-- ---- a tree spells tokens

abbrev pub StandsAt : Option Place → Place → Type 0
StandsAt None place = Unit {0}
StandsAt (Some at) place = at ≡ place

-- an identifier is no reserved word (2.3, 2.9)
abbrev pub MayStand : Bool → List ℕ → Type 0
MayStand true text = is_reserved text ≡ false
MayStand false text = Unit {0}

pub record Spells (written : Written) (lexeme : Lexeme) : Type 0 where
  pub kind : written.kind ≡ lexeme.kind
  pub text : written.text ≡ lexeme.text
  pub identifier : MayStand written.identifier lexeme.text
  pub place : StandsAt written.place lexeme.place

abbrev pub AllSpell : List Written → List Lexeme → Type 0
AllSpell [] [] = Unit {0}
AllSpell [] (l ∷ ls) = ⊥
AllSpell (w ∷ ws) [] = ⊥
AllSpell (w ∷ ws) (l ∷ ls) = Spells w l × AllSpell ws ls
