use Rattle.std.specs.Prelude.{◌≡◌, ℕ, ℤ, pos, List, [], ◌∷◌, Some, None, true, false, codes, refl}
use Rattle.ann_base.specs.declared.exceptions.Raised.TheVariants as exception
use Rattle.trace_text.specs.declared.events.Event.{Event}
use Rattle.trace_text.specs.declared.events.Event.TheVariants as line
use Rattle.trace_text.specs.declared.events.Created.TheVariants as created
use Rattle.trace_text.specs.declared.events.Ended.TheVariants as end
use Rattle.trace_text.specs.declared.events.Leaves.TheVariants as leaves
use Rattle.trace_text.specs.declared.events.QueueEnd.TheVariants.{Tail}
use Rattle.profile_image.specs.declared.script_items.Item.{Item}
use Rattle.profile_image.specs.declared.image.Image.{Image}
use Rattle.profile_image.specs.declared.image.Queuing.TheVariants as queuing
use Rattle.profile_image.specs.declared.values.Value.TheVariants.{Whole}
use Rattle.profile_image.specs.declared.values.Constraint.TheVariants.{Free, Whole}
use Rattle.profile_image.specs.declared.declarations.DeclarationKind.TheVariants as kind
use Rattle.profile_image.specs.declared.statements.StatementForm.TheVariants as form
use Rattle.profile_machine.specs.Notation.{decl, stmt, scope, subprogram, controlled_type, task, region, t, declaration, statement, scope_text, formal, subprogram_text, controlled_text, policies, main_procedure}
use Rattle.profile_machine.specs.Run.{run_of}
use Rattle.profile_machine.specs.Computing.{computing}
use Rattle.std.specs.Fmt.{digits}
use Rattle.std.specs.Prelude.{Bool}
use Rattle.profile_machine.specs.WellFormed.{run_is_well_formed}
use Rattle.profile_machine.specs.Releases.{releases_ok}

-- Row controlled.1: its run stops before tick 23, so every greater bound gives the same trace.
abbrev pub row_controlled_1_program : Image
row_controlled_1_program =
    record {
      declarations =
          declaration (codes "o") (codes "pk.o") kind.Parameter (scope 1) 0 1 Free None
          ∷ declaration (codes "a") (codes "main.a") (kind.Controlled (controlled_type 0)) (scope 2) 0 1 Free None
          ∷ declaration (codes "b") (codes "main.b") (kind.Controlled (controlled_type 0)) (scope 2) 1 1 Free None
          ∷ [];
      expressions = [];
      statements =
          statement (form.CallMain) 0 None
          ∷ statement (form.Null) 0 None
          ∷ statement (form.Initialize (decl 2)) 0 (Some (stmt 1))
          ∷ statement (form.Declare (decl 2)) 0 (Some (stmt 2))
          ∷ statement (form.Initialize (decl 1)) 0 (Some (stmt 3))
          ∷ statement (form.Declare (decl 1)) 0 (Some (stmt 4))
          ∷ statement (form.Raise exception.Constraint) 0 None
          ∷ [];
      scopes =
          scope_text None 0 [] false (Some (stmt 0))
          ∷ scope_text (Some (scope 0)) 1 [] false (Some (stmt 6))
          ∷ scope_text (Some (scope 0)) 2 [] true (Some (stmt 5))
          ∷ [];
      subprograms =
          subprogram_text (codes "finalize") (scope 1) (formal Free (Whole (pos 0)) ∷ []) None None
          ∷ [];
      task_units = [];
      protected_units = [];
      entries = [];
      controlled_types =
          controlled_text [] None (Some (subprogram 0)) None
          ∷ [];
      enumerations = [];
      policies = (policies [] queuing.Fifo None 30);
      environment = (scope 0);
      main = (main_procedure (codes "main") 15 (scope 2));
    }

abbrev pub row_controlled_1_script : List (ℤ × Item)
row_controlled_1_script = []

-- the lines of its run up to tick 23
unfoldable pub row_controlled_1_lines : List (ℕ × Event)
row_controlled_1_lines = run_of row_controlled_1_program row_controlled_1_script 23

unfoldable pub row_controlled_1_trace : List (ℕ × Event)
row_controlled_1_trace =
    (0, line.New (created.Task (task 0)) (codes "main") 15)
    ∷ (0, line.Ready (t 0) 15 Tail None)
    ∷ (0, line.Run (t 0))
    ∷ (5, line.Init (t 0) 1 (region 1) (codes "a"))
    ∷ (8, line.Init (t 0) 2 (region 1) (codes "b"))
    ∷ (10, line.Leave (t 0) (region 1) leaves.End)
    ∷ (12, line.Final (t 0) 2)
    ∷ (13, line.Raise (t 0) (codes "constraint_error"))
    ∷ (17, line.Final (t 0) 1)
    ∷ (18, line.Raise (t 0) (codes "constraint_error"))
    ∷ (21, line.Left (t 0) (region 1))
    ∷ (21, line.Raise (t 0) (codes "program_error"))
    ∷ (22, line.Done (task 0))
    ∷ (22, line.End (end.Exception (codes "program_error")))
    ∷ []

pub row_controlled_1_runs : row_controlled_1_lines ≡ row_controlled_1_trace
unfolding row_controlled_1_lines row_controlled_1_trace digits computing
row_controlled_1_runs = refl

-- whether every world of its run is well formed
unfoldable pub row_controlled_1_worlds : Bool
row_controlled_1_worlds = run_is_well_formed row_controlled_1_program row_controlled_1_script 23

pub row_controlled_1_keeps : row_controlled_1_worlds ≡ true
unfolding row_controlled_1_worlds computing
row_controlled_1_keeps = refl

-- whether each handler is released at its tick
unfoldable pub row_controlled_1_handlers : Bool
row_controlled_1_handlers = releases_ok row_controlled_1_program row_controlled_1_script 23

pub row_controlled_1_releases : row_controlled_1_handlers ≡ true
unfolding row_controlled_1_handlers computing
row_controlled_1_releases = refl
