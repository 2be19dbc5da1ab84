-- What tokens mean (2.3, 2.4.1, 2.6).
use Rattle.std.specs.Prelude.{ℕ, ◌+◌, ◌-◌, ◌<◌, ◌≤◌, ◌==◌, if◌then◌else◌, List, [], ◌∷◌, length, take, drop, map}
use Rattle.std.specs.Char.{to_ascii_lowercase}
use Rattle.ada_lex.specs.declared.tokens.Kind.{Kind}
use Rattle.ada_lex.specs.declared.tokens.Kind.TheVariants as kinds
use Rattle.ada_lex.specs.declared.scan.Run.TheVariants.{Whole}
use Rattle.ada_lex.specs.declared.tokens.Token.{Token}
use Rattle.ada_lex.specs.Shapes.{run_length, value_of}

-- a token lies inside a source
pub record IsInside (source : List ℕ) (token : Token) : Type 0 where
  pub some : token.first < token.end
  pub inside : token.end ≤ length source

abbrev pub spelling_of : List ℕ → Token → List ℕ
spelling_of source token = take (token.end - token.first) (drop token.first source)

-- the whole part of a number, and the digits behind its point
abbrev pub whole_of : List ℕ → ℕ
whole_of number = value_of (take (run_length Whole number) number)

abbrev pub decimals_of : List ℕ → List ℕ
decimals_of number = drop (run_length Whole number + 1) number

-- what a text holds, from behind its first mark on: its last byte is the mark that ends it
unfoldable pub undoubled : List ℕ → List ℕ
undoubled [] = []
undoubled (b ∷ []) = []
undoubled (b ∷ c ∷ rest) = b ∷ (if b == 34 then undoubled rest else undoubled (c ∷ rest))

-- what a token says, apart from where it stands: words in any case are one, and a text has no marks round it
abbrev pub meaning_of : Kind → List ℕ → List ℕ
meaning_of kinds.Word bytes = map to_ascii_lowercase bytes
meaning_of kinds.Number bytes = bytes
meaning_of kinds.Text bytes = undoubled (drop 1 bytes)
meaning_of kinds.Delimiter bytes = bytes
