-- Each entry stands in the table.
use Rattle.std.proofs.Common.{◌≡◌, ℕ, refl, get_or, ◌<◌, lit<, List, Option, Some, None, ap, ◌∙◌}
use Rattle.std.specs.Prelude.{IfNone}
use Rattle.ada_lex.specs.declared.delimiters.Delimiter.{Delimiter}
use Rattle.ada_lex.specs.declared.delimiters.Delimiter.TheVariants.{Arrow, Dots, Becomes, NotEqual, AtLeast, AtMost, Ampersand}
use Rattle.ada_lex.specs.declared.delimiters.Delimiter.TheVariants.{Apostrophe, OpenBracket, CloseBracket, Asterisk, Plus, Comma}
use Rattle.ada_lex.specs.declared.delimiters.Delimiter.TheVariants.{Minus, Point, Solidus, Colon, Semicolon, Less, Equal, Greater, Bar}
use Rattle.ada_lex.specs.declared.delimiters.TheConstants.{ALL}
use Rattle.ada_lex.specs.DelimiterLetters.{delimiter_letters}

abbrev pub place_of : Delimiter → ℕ
place_of Arrow = 0
place_of Dots = 1
place_of Becomes = 2
place_of NotEqual = 3
place_of AtLeast = 4
place_of AtMost = 5
place_of Ampersand = 6
place_of Apostrophe = 7
place_of OpenBracket = 8
place_of CloseBracket = 9
place_of Asterisk = 10
place_of Plus = 11
place_of Comma = 12
place_of Minus = 13
place_of Point = 14
place_of Solidus = 15
place_of Colon = 16
place_of Semicolon = 17
place_of Less = 18
place_of Equal = 19
place_of Greater = 20
place_of Bar = 21

pub place_in : (entry : Delimiter) → place_of entry < 22
place_in Arrow = lit< tt
place_in Dots = lit< tt
place_in Becomes = lit< tt
place_in NotEqual = lit< tt
place_in AtLeast = lit< tt
place_in AtMost = lit< tt
place_in Ampersand = lit< tt
place_in Apostrophe = lit< tt
place_in OpenBracket = lit< tt
place_in CloseBracket = lit< tt
place_in Asterisk = lit< tt
place_in Plus = lit< tt
place_in Comma = lit< tt
place_in Minus = lit< tt
place_in Point = lit< tt
place_in Solidus = lit< tt
place_in Colon = lit< tt
place_in Semicolon = lit< tt
place_in Less = lit< tt
place_in Equal = lit< tt
place_in Greater = lit< tt
place_in Bar = lit< tt

pub at_place : (entry : Delimiter) → get_or ALL (place_of entry) Arrow ≡ entry
at_place Arrow = refl
at_place Dots = refl
at_place Becomes = refl
at_place NotEqual = refl
at_place AtLeast = refl
at_place AtMost = refl
at_place Ampersand = refl
at_place Apostrophe = refl
at_place OpenBracket = refl
at_place CloseBracket = refl
at_place Asterisk = refl
at_place Plus = refl
at_place Comma = refl
at_place Minus = refl
at_place Point = refl
at_place Solidus = refl
at_place Colon = refl
at_place Semicolon = refl
at_place Less = refl
at_place Equal = refl
at_place Greater = refl
at_place Bar = refl

pub none_of : (o : Option Delimiter) (low : List ℕ) → IfNone o ((k : ℕ) → k < 22 → delimiter_letters (get_or ALL k Arrow) ≡ low → ⊥)
    → IfNone o ((entry : Delimiter) → delimiter_letters entry ≡ low → ⊥)
none_of None low h = λ entry same. h (place_of entry) (place_in entry) (ap delimiter_letters (at_place entry) ∙ same)
none_of (Some e) low h = tt
