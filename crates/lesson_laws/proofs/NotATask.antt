-- L23: what the stages of the front end give of this source.
use Rattle.std.proofs.Common.{◌≡◌, List, [], ◌∷◌, codes, Some, None, Err, refl}
use Rattle.ada_lex.specs.Reading.{tokens_of}
use Rattle.ada_tree.specs.declared.statements.Sequence.{Sequence, roll-Sequence}
use Rattle.ada_tree.specs.declared.statements.Sequence.TheOpen.{Sequence-F}
use Rattle.ada_tree.specs.declared.statements.Sequence.TheFolds.{fold-Sequence, fold-roll-Sequence}
use Rattle.ada_tree.specs.declared.statements.Statement.TheVariants as statement
use Rattle.ada_verdicts.specs.declared.refusals.Code.TheVariants as code
use Rattle.ada_verdicts.specs.Accepted.{judged}
use Rattle.ada_verdicts.specs.Refusals.{refused_at}
use Rattle.lesson_laws.proofs.FrontEnd.{lexing, reading, naming, building, judging}
use Rattle.lesson_laws.proofs.FromFolds.{whole, tree_read, said, names, rules_broken, faults_around, walk_around}
use Rattle.lesson_laws.proofs.FromFolds.{judged_rules_refused}
use Rattle.lesson_laws.specs.RefusedSources.{at}
use Rattle.lesson_laws.proofs.Trees.{identifier, simple}
use Rattle.ada_legality.specs.declared.faults.Fault.{Fault}
use Rattle.ada_legality.specs.declared.rules.Rule.TheVariants as rule
use Rattle.lesson_laws.specs.RefusedSources.{not_a_task_source}

-- the sequence of its body, by what is made of each sequence
abbrev body_by : (A : Type 0) → (Sequence-F A → A) → A
body_by A step =
    step (record {
      parts = record {
        declarations = [];
        statements = record { first = statement.Abort (at 3 4) (record { first = simple (identifier 3 10 (codes "main")); others = [] }); others = [] };
        handlers = [];
      };
    })

unfoldable body : Sequence
body = body_by Sequence roll-Sequence

fold_is : (A : Type 0) (step : Sequence-F A → A) → fold-Sequence A step body ≡ body_by A step
unfolding body
fold_is A step = simp fold-roll-Sequence

is_read : tree_read not_a_task_source (tokens_of not_a_task_source) ≡ Some (whole [] [] (at 1 1) (identifier 1 11 (codes "main")) body_by body fold_is)
unfolding lexing reading body not_a_task_source
is_read = refl

names_found : (names [] [] (at 1 1) (identifier 1 11 (codes "main")) body_by body fold_is).fault ≡ None
unfolding names said naming building
names_found = refl

-- the name is of another kind than is wanted there too
abbrev others : List Fault
others = record { place = at 3 10; rule = rule.KindOfName } ∷ []

breaks_rule : rules_broken [] [] (at 1 1) (identifier 1 11 (codes "main")) body_by body fold_is ≡ record { place = at 3 4; rule = rule.AbortedTask } ∷ others
unfolding rules_broken faults_around walk_around names said naming judging building
breaks_rule = refl

pub not_a_task_is_refused : judged not_a_task_source ≡ Err (refused_at (at 3 4) (code.Rule 23))
not_a_task_is_refused =
    judged_rules_refused [] [] (at 1 1) (identifier 1 11 (codes "main")) body_by body fold_is not_a_task_source _ others is_read names_found breaks_rule
