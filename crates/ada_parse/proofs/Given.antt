-- What an answer says, by the laws of the grammar.
use Rattle.std.proofs.Common.{◌≡◌, true, List, Result, Ok, Err, subst}
use Rattle.std.specs.Prelude.{IfErr, IfOk}
use Rattle.ann_base.specs.Answers.{Answers, OfFault}
use Rattle.ann_base.specs.declared.faults.OrMemory.{OrMemory}
use Rattle.ann_base.specs.declared.faults.OrMemory.TheVariants as answer
use Rattle.ada_tree.specs.declared.units.Unit.{Unit as Tree}
use Rattle.ada_tree.specs.Written.{Lexeme}
use Rattle.ada_tree.specs.Spelling.{SpellsTokens}
use Rattle.ada_tree.specs.Shape.{is_shaped}
use Rattle.ada_grammar.specs.declared.faults.ParseFault.{ParseFault}
use Rattle.ada_grammar.specs.declared.faults.ParseFault.TheVariants as faults
use Rattle.ada_grammar.specs.ReadingUnits.{unit_of}
use Rattle.grammar_laws.specs.GrammarLaws.{ReadIsSpelt, SpeltIsRead}
use Rattle.grammar_laws.specs.FaultLaws.{NoneGoesOn, NoTreeGoesDeeper, NoTreeGoesOn}

pub spells : (result : Result Tree (OrMemory ParseFault)) (ls : List Lexeme) → ReadIsSpelt → Answers result (unit_of ls)
    → IfOk result (λ unit. SpellsTokens unit ls)
spells (Ok unit) ls law gives = (law ls unit gives).0
spells (Err fault) ls law gives = tt

pub shaped : (result : Result Tree (OrMemory ParseFault)) (ls : List Lexeme) → ReadIsSpelt → Answers result (unit_of ls)
    → IfOk result (λ unit. is_shaped unit ≡ true)
shaped (Ok unit) ls law gives = (law ls unit gives).1
shaped (Err fault) ls law gives = tt

pub only : (result : Result Tree (OrMemory ParseFault)) (ls : List Lexeme) → SpeltIsRead → Answers result (unit_of ls) → (unit : Tree) → SpellsTokens unit ls
    → is_shaped unit ≡ true → Answers result (Ok unit)
only result ls law gives unit spelt fits = subst (λ (read : Result Tree ParseFault). Answers result read) (law unit ls spelt fits) gives

pub place : (result : Result Tree (OrMemory ParseFault)) (ls : List Lexeme) → NoTreeGoesOn → NoTreeGoesDeeper → Answers result (unit_of ls)
    → IfErr result (OfFault (NoneGoesOn ls))
place (Ok unit) ls on deeper gives = tt
place (Err answer.Memory) ls on deeper gives = tt
place (Err (answer.Fault (faults.Unexpected token))) ls on deeper gives = on ls token gives
place (Err (answer.Fault (faults.TooDeep token))) ls on deeper gives = deeper ls token gives
