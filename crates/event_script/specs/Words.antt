-- The words of a line of a script. One space stands between two of them, and none of them is empty.
use Rattle.std.specs.Prelude.{ℕ, Bool, ◌==◌, if◌then◌else◌, List, [], ◌∷◌, length, Option, Some, None, codes}
use Rattle.std.specs.Str.{bytes_eq}
use Rattle.event_script.specs.declared.words.Keyword.{Keyword}
use Rattle.event_script.specs.declared.words.Keyword.TheVariants as keyword

-- the second word of a line, in a script of the second version alone
abbrev pub keyword_of_second_version : List ℕ → Option Keyword
keyword_of_second_version word =
    if bytes_eq word (codes "every") then Some keyword.Every
    else (if bytes_eq word (codes "mask") then Some keyword.Mask
    else (if bytes_eq word (codes "unmask") then Some keyword.Unmask else None))

-- the second word of a line, in a script of the second version or of the first
abbrev pub keyword_of : Bool → List ℕ → Option Keyword
keyword_of is_second word =
    if bytes_eq word (codes "interrupt") then Some keyword.Interrupt
    else (if bytes_eq word (codes "port") then Some keyword.Port
    else (if is_second then keyword_of_second_version word else None))

-- one word and no other
abbrev pub one_word : List (List ℕ) → Option (List ℕ)
one_word [] = None
one_word (word ∷ []) = if length word == 0 then None else Some word
one_word (word ∷ next ∷ words) = None

abbrev pub first_and : List ℕ → Option (List ℕ) → Option (List ℕ × List ℕ)
first_and first None = None
first_and first (Some second) = if length first == 0 then None else Some (first, second)

-- two words and no other
abbrev pub two_words : List (List ℕ) → Option (List ℕ × List ℕ)
two_words [] = None
two_words (first ∷ words) = first_and first (one_word words)
