-- Which words are reserved, in any case (2.9).
use Rattle.std.specs.Prelude.{ℕ, Bool, List, map}
use Rattle.std.specs.List.{list_any}
use Rattle.std.specs.Str.{bytes_eq}
use Rattle.std.specs.Char.{to_ascii_lowercase}
use Rattle.ada_lex.specs.declared.words.TheConstants.{ALL}
use Rattle.ada_lex.specs.ReservedLetters.{word_letters}

unfoldable pub is_reserved : List ℕ → Bool
is_reserved word = list_any (λ entry. bytes_eq (word_letters entry) (map to_ascii_lowercase word)) ALL
