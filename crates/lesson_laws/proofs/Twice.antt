-- F8: what the stages of the front end give of this source.
use Rattle.std.proofs.Common.{◌≡◌, [], ◌∷◌, codes, Some, None, false, Err, refl}
use Rattle.ada_lex.specs.Reading.{tokens_of}
use Rattle.ada_tree.specs.declared.statements.Sequence.{Sequence, roll-Sequence}
use Rattle.ada_tree.specs.declared.statements.Sequence.TheOpen.{Sequence-F}
use Rattle.ada_tree.specs.declared.statements.Sequence.TheFolds.{fold-Sequence, fold-roll-Sequence}
use Rattle.ada_tree.specs.declared.statements.Statement.TheVariants as statement
use Rattle.ada_tree.specs.declared.declarations.Declaration.TheVariants as declaration
use Rattle.ada_verdicts.specs.declared.refusals.Code.TheVariants as code
use Rattle.ada_verdicts.specs.Accepted.{judged}
use Rattle.ada_verdicts.specs.Refusals.{refused_at}
use Rattle.lesson_laws.proofs.FrontEnd.{lexing, reading, naming, building}
use Rattle.lesson_laws.proofs.FromFolds.{whole, tree_read, said, names, judged_names_refused}
use Rattle.lesson_laws.specs.RefusedSources.{at}
use Rattle.lesson_laws.proofs.Trees.{identifier}
use Rattle.ada_regions.specs.declared.faults.NameFault.TheVariants as fault
use Rattle.lesson_laws.specs.RefusedSources.{twice_source}

-- the sequence of its body, by what is made of each sequence
abbrev body_by : (A : Type 0) → (Sequence-F A → A) → A
body_by A step =
    step (record {
      parts = record {
        declarations =
            declaration.Task (record { place = at 2 4; is_type = false; name = identifier 2 9 (codes "worker"); aspects = []; definition = None })
            ∷ declaration.Task (record { place = at 3 4; is_type = false; name = identifier 3 9 (codes "worker"); aspects = []; definition = None }) ∷ [];
        statements = record { first = statement.Null (at 5 4); others = [] };
        handlers = [];
      };
    })

unfoldable body : Sequence
body = body_by Sequence roll-Sequence

fold_is : (A : Type 0) (step : Sequence-F A → A) → fold-Sequence A step body ≡ body_by A step
unfolding body
fold_is A step = simp fold-roll-Sequence

is_read : tree_read twice_source (tokens_of twice_source) ≡ Some (whole [] [] (at 1 1) (identifier 1 11 (codes "main")) body_by body fold_is)
unfolding lexing reading body twice_source
is_read = refl

has_fault : (names [] [] (at 1 1) (identifier 1 11 (codes "main")) body_by body fold_is).fault ≡ Some (fault.Twice (at 3 9))
unfolding names said naming building
has_fault = refl

pub twice_is_refused : judged twice_source ≡ Err (refused_at (at 3 9) code.Twice)
twice_is_refused = judged_names_refused [] [] (at 1 1) (identifier 1 11 (codes "main")) body_by body fold_is twice_source _ is_read has_fault
