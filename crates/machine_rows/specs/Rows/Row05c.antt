use Rattle.std.specs.Prelude.{◌≡◌, ℕ, ℤ, List, [], ◌∷◌, Some, None, true, false, codes, refl}
use Rattle.trace_text.specs.declared.events.Event.{Event}
use Rattle.trace_text.specs.declared.events.Event.TheVariants as line
use Rattle.trace_text.specs.declared.events.Created.TheVariants as created
use Rattle.trace_text.specs.declared.events.Ended.TheVariants as end
use Rattle.trace_text.specs.declared.events.Mode.TheVariants.{Write}
use Rattle.trace_text.specs.declared.events.QueueEnd.TheVariants.{Tail}
use Rattle.profile_image.specs.declared.script_items.Item.{Item}
use Rattle.profile_image.specs.declared.image.Image.{Image}
use Rattle.profile_image.specs.declared.image.Queuing.TheVariants as queuing
use Rattle.profile_image.specs.declared.values.Constraint.TheVariants.{Free}
use Rattle.profile_image.specs.declared.declarations.DeclarationKind.TheVariants as kind
use Rattle.profile_image.specs.declared.statements.StatementForm.TheVariants as form
use Rattle.profile_image.specs.declared.statements.Callee.TheVariants as callee
use Rattle.profile_image.specs.declared.statements.Destination.TheVariants as destination
use Rattle.profile_machine.specs.Notation.{decl, stmt, scope, subprogram, protected_unit, task, p, t, declaration, statement, scope_text, subprogram_text, protected_unit_text, policies, main_procedure}
use Rattle.profile_machine.specs.Run.{run_of}
use Rattle.profile_machine.specs.Computing.{computing}
use Rattle.std.specs.Fmt.{digits}
use Rattle.std.specs.Prelude.{Bool}
use Rattle.profile_machine.specs.WellFormed.{run_is_well_formed}
use Rattle.profile_machine.specs.Releases.{releases_ok}

-- Row 05c: its run stops before tick 11, so every greater bound gives the same trace.
abbrev pub row_05c_program : Image
row_05c_program =
    record {
      declarations =
          declaration (codes "p") (codes "main.p") (kind.Protected (protected_unit 0)) (scope 1) 0 16 Free None
          ∷ [];
      expressions = [];
      statements =
          statement (form.CallMain) 0 None
          ∷ statement (form.Null) 0 None
          ∷ statement (form.Call (callee.Operation (decl 0) (subprogram 0)) [] destination.Nowhere) 0 None
          ∷ statement (form.Declare (decl 0)) 0 (Some (stmt 2))
          ∷ [];
      scopes =
          scope_text None 0 [] false (Some (stmt 0))
          ∷ scope_text (Some (scope 0)) 16 [] false (Some (stmt 3))
          ∷ scope_text (Some (scope 1)) 0 [] false (Some (stmt 1))
          ∷ [];
      subprograms =
          subprogram_text (codes "go") (scope 2) [] None (Some (protected_unit 0))
          ∷ [];
      task_units = [];
      protected_units =
          protected_unit_text 15 [] [] []
          ∷ [];
      entries = [];
      controlled_types = [];
      enumerations = [];
      policies = (policies [] queuing.Fifo None 30);
      environment = (scope 0);
      main = (main_procedure (codes "main") 15 (scope 1));
    }

abbrev pub row_05c_script : List (ℤ × Item)
row_05c_script = []

-- the lines of its run up to tick 11
unfoldable pub row_05c_lines : List (ℕ × Event)
row_05c_lines = run_of row_05c_program row_05c_script 11

unfoldable pub row_05c_trace : List (ℕ × Event)
row_05c_trace =
    (0, line.New (created.Task (task 0)) (codes "main") 15)
    ∷ (0, line.Ready (t 0) 15 Tail None)
    ∷ (0, line.Run (t 0))
    ∷ (3, line.New (created.Object (p 1)) (codes "main.p") 15)
    ∷ (5, line.Enter (t 0) (p 1) Write)
    ∷ (8, line.Exit (t 0) (p 1))
    ∷ (10, line.Done (task 0))
    ∷ (10, line.End end.Completed)
    ∷ []

pub row_05c_runs : row_05c_lines ≡ row_05c_trace
unfolding row_05c_lines row_05c_trace digits computing
row_05c_runs = refl

-- whether every world of its run is well formed
unfoldable pub row_05c_worlds : Bool
row_05c_worlds = run_is_well_formed row_05c_program row_05c_script 11

pub row_05c_keeps : row_05c_worlds ≡ true
unfolding row_05c_worlds computing
row_05c_keeps = refl

-- whether each handler is released at its tick
unfoldable pub row_05c_handlers : Bool
row_05c_handlers = releases_ok row_05c_program row_05c_script 11

pub row_05c_releases : row_05c_handlers ≡ true
unfolding row_05c_handlers computing
row_05c_releases = refl
