-- The bytes of a delimiter (2.2).
use Rattle.std.specs.Prelude.{ℕ, List, codes}
use Rattle.ada_lex.specs.declared.delimiters.Delimiter.{Delimiter}
use Rattle.ada_lex.specs.declared.delimiters.Delimiter.TheVariants.{Arrow, Dots, Becomes, NotEqual, AtLeast, AtMost}
use Rattle.ada_lex.specs.declared.delimiters.Delimiter.TheVariants.{Ampersand, Apostrophe, OpenBracket, CloseBracket}
use Rattle.ada_lex.specs.declared.delimiters.Delimiter.TheVariants.{Asterisk, Plus, Comma, Minus, Point, Solidus}
use Rattle.ada_lex.specs.declared.delimiters.Delimiter.TheVariants.{Colon, Semicolon, Less, Equal, Greater, Bar}

abbrev pub delimiter_letters : Delimiter → List ℕ
delimiter_letters Arrow = codes "=>"
delimiter_letters Dots = codes ".."
delimiter_letters Becomes = codes ":="
delimiter_letters NotEqual = codes "/="
delimiter_letters AtLeast = codes ">="
delimiter_letters AtMost = codes "<="
delimiter_letters Ampersand = codes "&"
delimiter_letters Apostrophe = codes "'"
delimiter_letters OpenBracket = codes "("
delimiter_letters CloseBracket = codes ")"
delimiter_letters Asterisk = codes "*"
delimiter_letters Plus = codes "+"
delimiter_letters Comma = codes ","
delimiter_letters Minus = codes "-"
delimiter_letters Point = codes "."
delimiter_letters Solidus = codes "/"
delimiter_letters Colon = codes ":"
delimiter_letters Semicolon = codes ";"
delimiter_letters Less = codes "<"
delimiter_letters Equal = codes "="
delimiter_letters Greater = codes ">"
delimiter_letters Bar = codes "|"
