-- The laws, whole.
use Rattle.std.proofs.Common.{◌≡◌, ℕ, true, List, length, Result, Ok, Err, refl, sym, ap, subst, ◌∙◌}
use Rattle.ada_tree.specs.declared.expressions.Precedence.TheVariants as precedence
use Rattle.ada_tree.specs.declared.expressions.Expression.{Expression}
use Rattle.ada_tree.specs.declared.units.Unit.{Unit as Tree}
use Rattle.ada_tree.specs.Written.{Lexeme}
use Rattle.ada_tree.specs.SpellingExpressions.{expression_written}
use Rattle.ada_tree.specs.Spelling.{unit_written}
use Rattle.ada_tree.specs.ShapeExpressions.{expression_fits}
use Rattle.ada_tree.specs.Shape.{is_shaped}
use Rattle.ada_grammar.specs.declared.faults.ParseFault.{ParseFault}
use Rattle.ada_grammar.specs.Reading.{Read}
use Rattle.ada_grammar.specs.ReadingUnits.{placed, source_of, unit_of}
use Rattle.grammar_laws.specs.Leads.{Leads}
use Rattle.grammar_laws.specs.GrammarLaws.{ReadIsSpelt, SpeltIsRead, OneTreeSpells, ExpressionIsSpelt}
use Rattle.grammar_laws.proofs.Reading.Leading.{all_spell, spell_leads}
use Rattle.grammar_laws.proofs.Reading.Exact.{done}
use Rattle.grammar_laws.proofs.Reading.Expressions.{expression_exact}
use Rattle.grammar_laws.proofs.Reading.Units.{source_sound, source_complete}

pub expression_is_spelt : ExpressionIsSpelt
expression_is_spelt left ls e r is =
    let f = (expression_exact left).sound ls e r is in (
      subst (λ (x : Expression). Leads (expression_written x) ls r) f.is f.leads,
      subst (λ (x : Expression). expression_fits x precedence.Logical left ≡ true) f.is f.shaped,
    )

-- what a source gives that is read
record Given (read : Read Tree) (unit : Tree) : Type 0 where
  rest : List Lexeme
  is : read ≡ done unit rest

tree_in : Tree → Result Tree ParseFault → Tree
tree_in other (Ok unit) = unit
tree_in other (Err fault) = other

given : (read : Read Tree) (count : ℕ) (unit : Tree) → placed count read ≡ Ok unit → Given read unit
unfolding tree_in
given (Ok p) count unit e = record { rest = p.1; is = ap (λ z. done z p.1) (ap (tree_in p.0) e) }
given (Err why) count unit e = absurd cc

pub read_is_spelt : ReadIsSpelt
unfolding unit_of is_shaped
read_is_spelt lexemes unit e =
    let g = given (source_of 100 lexemes) (length lexemes) unit e in
    let s = source_sound 100 lexemes unit g.rest g.is in
    (all_spell (unit_written unit) lexemes s.leads, s.shaped)

pub spelt_is_read : SpeltIsRead
unfolding unit_of is_shaped
spelt_is_read unit lexemes spells shaped = rw (source_complete 100 unit lexemes shaped (spell_leads (unit_written unit) lexemes spells)) refl

pub one_tree_spells : OneTreeSpells
unfolding tree_in
one_tree_spells a b lexemes spells_a spells_b shaped_a shaped_b =
    ap (tree_in a) (sym (spelt_is_read a lexemes spells_a shaped_a) ∙ spelt_is_read b lexemes spells_b shaped_b)
