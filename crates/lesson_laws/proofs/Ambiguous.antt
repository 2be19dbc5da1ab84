-- F9: what the stages of the front end give of this source.
use Rattle.std.proofs.Common.{◌≡◌, List, [], ◌∷◌, codes, Some, None, true, false, Err, refl}
use Rattle.ada_lex.specs.Reading.{tokens_of}
use Rattle.ada_tree.specs.declared.statements.Sequence.{Sequence, roll-Sequence}
use Rattle.ada_tree.specs.declared.statements.Sequence.TheOpen.{Sequence-F}
use Rattle.ada_tree.specs.declared.statements.Sequence.TheFolds.{fold-Sequence, fold-roll-Sequence}
use Rattle.ada_tree.specs.declared.statements.Statement.TheVariants as statement
use Rattle.ada_tree.specs.declared.declarations.Declaration.TheVariants as declaration
use Rattle.ada_tree.specs.declared.units.ContextClause.{ContextClause}
use Rattle.ada_tree.specs.declared.units.LibraryPackage.{LibraryPackage}
use Rattle.ada_tree.specs.declared.units.Package.TheVariants as library
use Rattle.ada_verdicts.specs.declared.refusals.Code.TheVariants as code
use Rattle.ada_verdicts.specs.Accepted.{judged}
use Rattle.ada_verdicts.specs.Refusals.{refused_at}
use Rattle.lesson_laws.proofs.FrontEnd.{lexing, reading, naming, building}
use Rattle.lesson_laws.proofs.FromFolds.{whole, tree_read, said, names, judged_names_refused}
use Rattle.lesson_laws.specs.RefusedSources.{at}
use Rattle.lesson_laws.proofs.Trees.{identifier, simple}
use Rattle.ada_regions.specs.declared.faults.NameFault.TheVariants as fault
use Rattle.lesson_laws.specs.RefusedSources.{ambiguous_source}

abbrev packages : List LibraryPackage
packages =
    record {
      context = [];
      «package» =
          library.Declaration
          (record {
            place = at 1 1;
            name = identifier 1 9 (codes "first");
            declarations = declaration.Exception (record { first = identifier 2 4 (codes "failure"); others = [] }) ∷ [];
            private = None;
            named_at_end = true;
          });
    }
    ∷ record {
      context = [];
      «package» =
          library.Declaration
          (record {
            place = at 4 1;
            name = identifier 4 9 (codes "second");
            declarations = declaration.Exception (record { first = identifier 5 4 (codes "failure"); others = [] }) ∷ [];
            private = None;
            named_at_end = true;
          });
    }
    ∷ []

abbrev context : List ContextClause
context =
    record { place = at 7 1; is_use = false; names = record { first = simple (identifier 7 6 (codes "first")); others = [] } }
    ∷ record { place = at 7 13; is_use = true; names = record { first = simple (identifier 7 17 (codes "first")); others = [] } }
    ∷ record { place = at 8 1; is_use = false; names = record { first = simple (identifier 8 6 (codes "second")); others = [] } }
    ∷ record { place = at 8 14; is_use = true; names = record { first = simple (identifier 8 18 (codes "second")); others = [] } } ∷ []

-- the sequence of its body, by what is made of each sequence
abbrev body_by : (A : Type 0) → (Sequence-F A → A) → A
body_by A step =
    step (record {
      parts = record {
        declarations = [];
        statements = record { first = statement.Raise (at 11 4) (Some (simple (identifier 11 10 (codes "failure")))); others = [] };
        handlers = [];
      };
    })

unfoldable body : Sequence
body = body_by Sequence roll-Sequence

fold_is : (A : Type 0) (step : Sequence-F A → A) → fold-Sequence A step body ≡ body_by A step
unfolding body
fold_is A step = simp fold-roll-Sequence

is_read : tree_read ambiguous_source (tokens_of ambiguous_source) ≡ Some (whole packages context (at 9 1) (identifier 9 11 (codes "main")) body_by body fold_is)
unfolding lexing reading body ambiguous_source
is_read = refl

has_fault : (names packages context (at 9 1) (identifier 9 11 (codes "main")) body_by body fold_is).fault ≡ Some (fault.Ambiguous (at 11 10))
unfolding names said naming building
has_fault = refl

pub ambiguous_is_refused : judged ambiguous_source ≡ Err (refused_at (at 11 10) code.Ambiguous)
ambiguous_is_refused = judged_names_refused packages context (at 9 1) (identifier 9 11 (codes "main")) body_by body fold_is ambiguous_source _ is_read has_fault
