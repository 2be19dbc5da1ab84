-- Laws of the places of faults: no tree goes on with the token of the fault.
use Rattle.std.specs.Prelude.{◌≡◌, ◌<◌, ℕ, suc, true, List, Err, length, take}
use Rattle.ada_tree.specs.declared.units.Unit.{Unit as Tree}
use Rattle.ada_tree.specs.Written.{Lexeme}
use Rattle.ada_tree.specs.Spelling.{SpellsTokens}
use Rattle.ada_tree.specs.Shape.{is_shaped}
use Rattle.ada_grammar.specs.declared.faults.ParseFault.{ParseFault}
use Rattle.ada_grammar.specs.declared.faults.ParseFault.TheVariants as faults
use Rattle.ada_grammar.specs.ReadingUnits.{unit_of}

-- no shaped tree spells tokens of which these come first
abbrev pub NoneBeginsWith : List Lexeme → Type 0
NoneBeginsWith front = (others : List Lexeme) (unit : Tree) → take (length front) others ≡ front
    → SpellsTokens unit others → is_shaped unit ≡ true → ⊥

-- Where reading stops at a token, no tree begins with the tokens up to it, itself counted.
abbrev pub NoTreeGoesOn : Type 0
NoTreeGoesOn = (lexemes : List Lexeme) (token : ℕ) → unit_of lexemes ≡ Err (faults.Unexpected token)
    → token < length lexemes → NoneBeginsWith (take (suc token) lexemes)

-- The same where a token opens level 101.
abbrev pub NoTreeGoesDeeper : Type 0
NoTreeGoesDeeper = (lexemes : List Lexeme) (token : ℕ) → unit_of lexemes ≡ Err (faults.TooDeep token)
    → token < length lexemes → NoneBeginsWith (take (suc token) lexemes)

-- What a fault says of the trees: where its token stands, none begins with the tokens up to it, itself counted.
abbrev pub NoneGoesOn : List Lexeme → ParseFault → Type 0
NoneGoesOn lexemes (faults.Unexpected token) = token < length lexemes → NoneBeginsWith (take (suc token) lexemes)
NoneGoesOn lexemes (faults.TooDeep token) = token < length lexemes → NoneBeginsWith (take (suc token) lexemes)
