use Rattle.std.specs.Prelude.{◌≡◌, ℕ, ℤ, pos, negsuc, List, [], ◌∷◌, Some, None, true, false, codes, refl}
use Rattle.ann_base.specs.declared.exceptions.Raised.TheVariants as exception
use Rattle.trace_text.specs.declared.events.Event.{Event}
use Rattle.trace_text.specs.declared.events.Event.TheVariants as line
use Rattle.trace_text.specs.declared.events.Created.TheVariants as created
use Rattle.trace_text.specs.declared.events.Ended.TheVariants as end
use Rattle.trace_text.specs.declared.events.Leaves.TheVariants as leaves
use Rattle.trace_text.specs.declared.events.QueueEnd.TheVariants.{Tail}
use Rattle.profile_image.specs.declared.script_items.Item.{Item}
use Rattle.profile_image.specs.declared.image.Image.{Image}
use Rattle.profile_image.specs.declared.image.Queuing.TheVariants as queuing
use Rattle.profile_image.specs.declared.values.Value.TheVariants.{Whole}
use Rattle.profile_image.specs.declared.values.Constraint.TheVariants.{Free, Whole}
use Rattle.profile_image.specs.declared.expressions.Expression.TheVariants.{Known, Variable, Binary}
use Rattle.profile_image.specs.declared.expressions.ObjectName.TheVariants.{Declared}
use Rattle.profile_image.specs.declared.expressions.BinaryOperator.TheVariants as binary
use Rattle.profile_image.specs.declared.declarations.DeclarationKind.TheVariants as kind
use Rattle.profile_image.specs.declared.declarations.Initial.TheVariants as initial
use Rattle.profile_image.specs.declared.declarations.ExceptionChoice.TheVariants as exception_choice
use Rattle.profile_image.specs.declared.statements.StatementForm.TheVariants as form
use Rattle.profile_machine.specs.Notation.{decl, expr, stmt, scope, subprogram, controlled_type, task, region, t, declaration, variable, statement, handler, scope_text, formal, subprogram_text, controlled_text, policies, main_procedure}
use Rattle.profile_machine.specs.Run.{run_of}
use Rattle.profile_machine.specs.Computing.{computing}
use Rattle.std.specs.Fmt.{digits}
use Rattle.std.specs.Prelude.{Bool}
use Rattle.profile_machine.specs.WellFormed.{run_is_well_formed}
use Rattle.profile_machine.specs.Releases.{releases_ok}

-- Row controlled.initialize: its run stops before tick 31, so every greater bound gives the same trace.
abbrev pub row_controlled_initialize_program : Image
row_controlled_initialize_program =
    record {
      declarations =
          declaration (codes "n") (codes "pk.r.n") (kind.Object initial.Default) (scope 0) 0 1 (Whole (negsuc 2147483647) (pos 2147483647)) None
          ∷ declaration (codes "k") (codes "pk.k") (kind.Object (initial.Scalar (expr 6))) (scope 0) 0 1 (Whole (negsuc 2147483647) (pos 2147483647)) None
          ∷ declaration (codes "t") (codes "pk.t") (kind.Controlled (controlled_type 0)) (scope 0) 1 2 Free None
          ∷ declaration (codes "s") (codes "pk.s") (kind.Controlled (controlled_type 0)) (scope 0) 3 2 Free None
          ∷ declaration (codes "o") (codes "pk.o") kind.Parameter (scope 1) 0 2 Free None
          ∷ declaration (codes "o") (codes "pk.o") kind.Parameter (scope 2) 0 2 Free None
          ∷ [];
      expressions =
          Variable (variable (Declared (decl 1)) None)
          ∷ Known (Whole (pos 2))
          ∷ Binary binary.Equal (expr 0) (expr 1)
          ∷ Variable (variable (Declared (decl 1)) None)
          ∷ Known (Whole (pos 1))
          ∷ Binary binary.Plus (expr 3) (expr 4)
          ∷ Known (Whole (pos 0))
          ∷ [];
      statements =
          statement (form.CallMain) 0 None
          ∷ statement (form.Null) 0 None
          ∷ statement (form.Handled (handler (exception_choice.Named exception.Program ∷ []) (stmt 6) ∷ []) (stmt 5)) 0 None
          ∷ statement (form.AssignControlled (decl 2) (decl 3)) 0 None
          ∷ statement (form.If (expr 2) (stmt 3) None) 1 None
          ∷ statement (form.Assign (variable (Declared (decl 1)) None) (expr 5)) 1 (Some (stmt 4))
          ∷ statement (form.AssignControlled (decl 3) (decl 2)) 0 None
          ∷ statement (form.Null) 0 None
          ∷ statement (form.Initialize (decl 3)) 0 (Some (stmt 0))
          ∷ statement (form.Declare (decl 3)) 0 (Some (stmt 8))
          ∷ statement (form.Initialize (decl 2)) 0 (Some (stmt 9))
          ∷ statement (form.Declare (decl 2)) 0 (Some (stmt 10))
          ∷ statement (form.Declare (decl 1)) 0 (Some (stmt 11))
          ∷ [];
      scopes =
          scope_text None 5 [] true (Some (stmt 12))
          ∷ scope_text (Some (scope 0)) 2 [] false (Some (stmt 2))
          ∷ scope_text (Some (scope 0)) 2 [] false (Some (stmt 7))
          ∷ scope_text (Some (scope 0)) 0 [] false (Some (stmt 1))
          ∷ [];
      subprograms =
          subprogram_text (codes "initialize") (scope 1) (formal Free (Whole (pos 0)) ∷ []) None None
          ∷ subprogram_text (codes "finalize") (scope 2) (formal Free (Whole (pos 0)) ∷ []) None None
          ∷ [];
      task_units = [];
      protected_units = [];
      entries = [];
      controlled_types =
          controlled_text ((decl 0) ∷ []) (Some (subprogram 0)) (Some (subprogram 1)) None
          ∷ [];
      enumerations = [];
      policies = (policies [] queuing.Fifo None 30);
      environment = (scope 0);
      main = (main_procedure (codes "main") 15 (scope 3));
    }

abbrev pub row_controlled_initialize_script : List (ℤ × Item)
row_controlled_initialize_script = []

-- the lines of its run up to tick 31
unfoldable pub row_controlled_initialize_lines : List (ℕ × Event)
row_controlled_initialize_lines = run_of row_controlled_initialize_program row_controlled_initialize_script 31

unfoldable pub row_controlled_initialize_trace : List (ℕ × Event)
row_controlled_initialize_trace =
    (0, line.New (created.Task (task 0)) (codes "main") 15)
    ∷ (0, line.Ready (t 0) 15 Tail None)
    ∷ (0, line.Run (t 0))
    ∷ (11, line.Init (t 0) 1 (region 1) (codes "t"))
    ∷ (19, line.Raise (t 0) (codes "program_error"))
    ∷ (21, line.Raise (t 0) (codes "program_error"))
    ∷ (24, line.Leave (t 0) (region 1) leaves.Exception)
    ∷ (26, line.Final (t 0) 1)
    ∷ (30, line.Left (t 0) (region 1))
    ∷ (30, line.Done (task 0))
    ∷ (30, line.End (end.Exception (codes "program_error")))
    ∷ []

pub row_controlled_initialize_runs : row_controlled_initialize_lines ≡ row_controlled_initialize_trace
unfolding row_controlled_initialize_lines row_controlled_initialize_trace digits computing
row_controlled_initialize_runs = refl

-- whether every world of its run is well formed
unfoldable pub row_controlled_initialize_worlds : Bool
row_controlled_initialize_worlds = run_is_well_formed row_controlled_initialize_program row_controlled_initialize_script 31

pub row_controlled_initialize_keeps : row_controlled_initialize_worlds ≡ true
unfolding row_controlled_initialize_worlds computing
row_controlled_initialize_keeps = refl

-- whether each handler is released at its tick
unfoldable pub row_controlled_initialize_handlers : Bool
row_controlled_initialize_handlers = releases_ok row_controlled_initialize_program row_controlled_initialize_script 31

pub row_controlled_initialize_releases : row_controlled_initialize_handlers ≡ true
unfolding row_controlled_initialize_handlers computing
row_controlled_initialize_releases = refl
