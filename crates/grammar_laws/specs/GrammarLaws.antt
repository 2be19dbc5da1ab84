-- Laws of the grammar: what is read is what is written, and what is written is read.
use Rattle.std.specs.Prelude.{◌≡◌, ℕ, true, List, Ok}
use Rattle.ada_tree.specs.declared.expressions.Precedence.TheVariants as precedence
use Rattle.ada_tree.specs.declared.expressions.Expression.{Expression}
use Rattle.ada_tree.specs.declared.units.Unit.{Unit as Tree}
use Rattle.ada_tree.specs.Written.{Lexeme}
use Rattle.ada_tree.specs.SpellingExpressions.{expression_written}
use Rattle.ada_tree.specs.Spelling.{SpellsTokens}
use Rattle.ada_tree.specs.ShapeExpressions.{expression_fits}
use Rattle.ada_tree.specs.Shape.{is_shaped}
use Rattle.ada_grammar.specs.ReadingExpressions.{expression_of}
use Rattle.ada_grammar.specs.ReadingUnits.{unit_of}
use Rattle.grammar_laws.specs.Leads.{Leads}

-- the tree that is read of tokens spells them, and is shaped
abbrev pub ReadIsSpelt : Type 0
ReadIsSpelt = (lexemes : List Lexeme) (unit : Tree) → unit_of lexemes ≡ Ok unit
    → SpellsTokens unit lexemes × (is_shaped unit ≡ true)

-- a shaped tree that spells tokens is the one that is read of them
abbrev pub SpeltIsRead : Type 0
SpeltIsRead = (unit : Tree) (lexemes : List Lexeme) → SpellsTokens unit lexemes → is_shaped unit ≡ true
    → unit_of lexemes ≡ Ok unit

-- of the shaped trees one at most spells given tokens
abbrev pub OneTreeSpells : Type 0
OneTreeSpells = (a b : Tree) (lexemes : List Lexeme) → SpellsTokens a lexemes → SpellsTokens b lexemes
    → is_shaped a ≡ true → is_shaped b ≡ true → a ≡ b

-- an expression that is read leads from the tokens to those that are left, and keeps precedence and nesting
abbrev pub ExpressionIsSpelt : Type 0
ExpressionIsSpelt = (left : ℕ) (ls : List Lexeme) (e : Expression) (r : List Lexeme)
    → expression_of left ls ≡ Ok (e, r) → Leads (expression_written e) ls r
    × (expression_fits e precedence.Logical left ≡ true)
