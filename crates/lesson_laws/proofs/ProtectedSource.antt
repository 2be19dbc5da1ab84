-- A call of a protected procedure. What each stage of the front end gives of it, and its run.
use Rattle.std.proofs.Common.{◌≡◌, [], ◌∷◌, codes, Some, None, true, false, Ok, refl}
use Rattle.ada_lex.specs.Reading.{tokens_of}
use Rattle.ada_tree.specs.declared.statements.Sequence.{Sequence, roll-Sequence}
use Rattle.ada_tree.specs.declared.statements.Sequence.TheOpen.{Sequence-F}
use Rattle.ada_tree.specs.declared.statements.Sequence.TheFolds.{fold-Sequence, fold-roll-Sequence}
use Rattle.ada_tree.specs.declared.statements.Statement.TheVariants as statement
use Rattle.ada_tree.specs.declared.declarations.Declaration.TheVariants as declaration
use Rattle.ada_tree.specs.declared.declarations.ProtectedOperation.TheVariants as operation
use Rattle.ada_tree.specs.declared.declarations.OperationBody.TheVariants as operation_body
use Rattle.ada_verdicts.specs.Accepted.{judged}
use Rattle.trace_text.specs.Text.{text_of}
use Rattle.profile_machine.specs.Computing.{computing}
use Rattle.profile_machine.specs.Run.{lines_of_run}
use Rattle.std.specs.Fmt.{digits}
use Rattle.lesson_laws.proofs.FrontEnd.{lexing, reading, naming, building, judging}
use Rattle.lesson_laws.proofs.FromFolds.{whole, tree_read, said, names, rules_broken, forms_built, program}
use Rattle.lesson_laws.proofs.FromFolds.{faults_around, walk_around, program_around, all_around, actions_around}
use Rattle.lesson_laws.proofs.FromFolds.{judged_is_image}
use Rattle.lesson_laws.specs.RefusedSources.{at}
use Rattle.lesson_laws.proofs.Trees.{identifier, selected}
use Rattle.lesson_laws.specs.ProtectedSource.{protected_source, protected_image, protected_trace}

-- the sequence of its body, by what is made of each sequence
abbrev body_by : (A : Type 0) → (Sequence-F A → A) → A
body_by A step =
    step (record {
      parts = record {
        declarations =
            declaration.Protected
            (record {
              place = at 2 4;
              is_type = false;
              name = identifier 2 14 (codes "gate");
              aspects = [];
              operations =
                  operation.Subprogram
                  (record { overriding = None; place = at 3 7; name = identifier 3 17 (codes "open"); parameters = []; result = None; aspects = [] })
                  ∷ [];
              components = None;
              named_at_end = true;
            })
            ∷ declaration.ProtectedBody
            (record {
              place = at 5 4;
              name = identifier 5 19 (codes "gate");
              operations =
                  operation_body.Subprogram
                  (record { overriding = None; place = at 6 7; name = identifier 6 17 (codes "open"); parameters = []; result = None; aspects = [] })
                  (record {
                    sequence =
                        step (record {
                          parts = record { declarations = []; statements = record { first = statement.Null (at 8 10); others = [] }; handlers = [] };
                        });
                    named_at_end = true;
                  })
                  ∷ [];
              named_at_end = true;
            })
            ∷ [];
        statements = record {
          first = statement.Call (record { name = selected (identifier 12 4 (codes "gate")) (identifier 12 9 (codes "open")); arguments = [] });
          others = [];
        };
        handlers = [];
      };
    })

unfoldable body : Sequence
body = body_by Sequence roll-Sequence

fold_is : (A : Type 0) (step : Sequence-F A → A) → fold-Sequence A step body ≡ body_by A step
unfolding body
fold_is A step = simp fold-roll-Sequence

is_read : tree_read protected_source (tokens_of protected_source) ≡ Some (whole [] [] (at 1 1) (identifier 1 11 (codes "main")) body_by body fold_is)
unfolding lexing reading body protected_source
is_read = refl

names_found : (names [] [] (at 1 1) (identifier 1 11 (codes "main")) body_by body fold_is).fault ≡ None
unfolding names said naming building
names_found = refl

no_rule_broken : rules_broken [] [] (at 1 1) (identifier 1 11 (codes "main")) body_by body fold_is ≡ []
unfolding rules_broken faults_around walk_around names said naming judging building
no_rule_broken = refl

all_built : forms_built [] [] (at 1 1) (identifier 1 11 (codes "main")) body_by body fold_is ≡ true
unfolding forms_built names said naming building
all_built = refl

image_made : program [] [] (at 1 1) (identifier 1 11 (codes "main")) body_by body fold_is ≡ protected_image
unfolding protected_image program program_around all_around actions_around names said naming building
image_made = refl

pub protected_is_judged : judged protected_source ≡ Ok protected_image
protected_is_judged =
    judged_is_image [] [] (at 1 1)
    (identifier 1 11 (codes "main")) body_by body fold_is protected_source protected_image is_read names_found no_rule_broken all_built image_made

pub protected_runs : text_of (lines_of_run protected_image [] 100) ≡ protected_trace
unfolding protected_image protected_trace lines_of_run computing digits
protected_runs = refl
