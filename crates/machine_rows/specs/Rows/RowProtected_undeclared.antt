use Rattle.std.specs.Prelude.{◌≡◌, ℕ, ℤ, pos, negsuc, List, [], ◌∷◌, Some, None, true, false, codes, refl}
use Rattle.ann_base.specs.declared.exceptions.Raised.TheVariants as exception
use Rattle.trace_text.specs.declared.events.Event.{Event}
use Rattle.trace_text.specs.declared.events.Event.TheVariants as line
use Rattle.trace_text.specs.declared.events.Created.TheVariants as created
use Rattle.trace_text.specs.declared.events.Ended.TheVariants as end
use Rattle.trace_text.specs.declared.events.Mode.TheVariants.{Write}
use Rattle.trace_text.specs.declared.events.QueueEnd.TheVariants.{Head, Tail}
use Rattle.profile_image.specs.declared.script_items.Item.{Item}
use Rattle.profile_image.specs.declared.image.Image.{Image}
use Rattle.profile_image.specs.declared.image.Queuing.TheVariants as queuing
use Rattle.profile_image.specs.declared.values.Value.TheVariants.{Whole, Ticks}
use Rattle.profile_image.specs.declared.values.Constraint.TheVariants.{Free, Whole, Ticks}
use Rattle.profile_image.specs.declared.expressions.Expression.TheVariants.{Known}
use Rattle.profile_image.specs.declared.declarations.DeclarationKind.TheVariants as kind
use Rattle.profile_image.specs.declared.declarations.Initial.TheVariants as initial
use Rattle.profile_image.specs.declared.declarations.ExceptionChoice.TheVariants as exception_choice
use Rattle.profile_image.specs.declared.statements.StatementForm.TheVariants as form
use Rattle.profile_image.specs.declared.statements.Callee.TheVariants as callee
use Rattle.profile_image.specs.declared.statements.Destination.TheVariants as destination
use Rattle.profile_machine.specs.Notation.{decl, expr, stmt, scope, subprogram, protected_unit, task, p, t, declaration, statement, handler, scope_text, subprogram_text, protected_unit_text, policies, main_procedure}
use Rattle.profile_machine.specs.Run.{run_of}
use Rattle.profile_machine.specs.Computing.{computing}
use Rattle.std.specs.Fmt.{digits}
use Rattle.std.specs.Prelude.{Bool}
use Rattle.profile_machine.specs.WellFormed.{run_is_well_formed}
use Rattle.profile_machine.specs.Releases.{releases_ok}

-- Row protected.undeclared: its run stops before tick 21, so every greater bound gives the same trace.
abbrev pub row_protected_undeclared_program : Image
row_protected_undeclared_program =
    record {
      declarations =
          declaration (codes "x") (codes "main.x") (kind.Object initial.Default) (scope 1) 0 1 (Whole (negsuc 2147483647) (pos 2147483647)) None
          ∷ declaration (codes "p") (codes "main.p") (kind.Protected (protected_unit 0)) (scope 1) 1 16 Free None
          ∷ [];
      expressions =
          Known (Ticks (pos 0))
          ∷ Known (Whole (pos 1))
          ∷ Known (Whole (pos 2))
          ∷ [];
      statements =
          statement (form.CallMain) 0 None
          ∷ statement (form.Delay (expr 0)) 0 None
          ∷ statement (form.Handled (handler (exception_choice.Named exception.Program ∷ []) (stmt 5) ∷ []) (stmt 4)) 0 None
          ∷ statement (form.ReturnValue (subprogram 0) (expr 1)) 0 None
          ∷ statement (form.Call (callee.Operation (decl 1) (subprogram 1)) [] destination.Nowhere) 0 (Some (stmt 3))
          ∷ statement (form.ReturnValue (subprogram 0) (expr 2)) 0 None
          ∷ statement (form.Handled (handler (exception_choice.Named exception.Program ∷ []) (stmt 8) ∷ []) (stmt 7)) 0 None
          ∷ statement (form.Call (callee.Operation (decl 1) (subprogram 1)) [] destination.Nowhere) 0 None
          ∷ statement (form.Null) 0 None
          ∷ statement (form.Declare (decl 1)) 0 (Some (stmt 6))
          ∷ statement (form.Call (callee.Subprogram (subprogram 0)) [] (destination.Declaration (decl 0))) 0 (Some (stmt 9))
          ∷ [];
      scopes =
          scope_text None 0 [] false (Some (stmt 0))
          ∷ scope_text (Some (scope 0)) 17 [] false (Some (stmt 10))
          ∷ scope_text (Some (scope 1)) 0 [] false (Some (stmt 1))
          ∷ scope_text (Some (scope 1)) 1 [] false (Some (stmt 2))
          ∷ [];
      subprograms =
          subprogram_text (codes "f") (scope 3) [] (Some (Whole (negsuc 2147483647) (pos 2147483647))) None
          ∷ subprogram_text (codes "go") (scope 2) [] None (Some (protected_unit 0))
          ∷ [];
      task_units = [];
      protected_units =
          protected_unit_text 30 [] [] []
          ∷ [];
      entries = [];
      controlled_types = [];
      enumerations = [];
      policies = (policies [] queuing.Fifo None 30);
      environment = (scope 0);
      main = (main_procedure (codes "main") 15 (scope 1));
    }

abbrev pub row_protected_undeclared_script : List (ℤ × Item)
row_protected_undeclared_script = []

-- the lines of its run up to tick 21
unfoldable pub row_protected_undeclared_lines : List (ℕ × Event)
row_protected_undeclared_lines = run_of row_protected_undeclared_program row_protected_undeclared_script 21

unfoldable pub row_protected_undeclared_trace : List (ℕ × Event)
row_protected_undeclared_trace =
    (0, line.New (created.Task (task 0)) (codes "main") 15)
    ∷ (0, line.Ready (t 0) 15 Tail None)
    ∷ (0, line.Run (t 0))
    ∷ (6, line.Raise (t 0) (codes "program_error"))
    ∷ (10, line.New (created.Object (p 1)) (codes "main.p") 30)
    ∷ (12, line.Enter (t 0) (p 1) Write)
    ∷ (12, line.Ready (t 0) 30 Head None)
    ∷ (14, line.Raise (t 0) (codes "program_error"))
    ∷ (16, line.Exit (t 0) (p 1))
    ∷ (16, line.Ready (t 0) 15 Head None)
    ∷ (20, line.Done (task 0))
    ∷ (20, line.End end.Completed)
    ∷ []

pub row_protected_undeclared_runs : row_protected_undeclared_lines ≡ row_protected_undeclared_trace
unfolding row_protected_undeclared_lines row_protected_undeclared_trace digits computing
row_protected_undeclared_runs = refl

-- whether every world of its run is well formed
unfoldable pub row_protected_undeclared_worlds : Bool
row_protected_undeclared_worlds = run_is_well_formed row_protected_undeclared_program row_protected_undeclared_script 21

pub row_protected_undeclared_keeps : row_protected_undeclared_worlds ≡ true
unfolding row_protected_undeclared_worlds computing
row_protected_undeclared_keeps = refl

-- whether each handler is released at its tick
unfoldable pub row_protected_undeclared_handlers : Bool
row_protected_undeclared_handlers = releases_ok row_protected_undeclared_program row_protected_undeclared_script 21

pub row_protected_undeclared_releases : row_protected_undeclared_handlers ≡ true
unfolding row_protected_undeclared_handlers computing
row_protected_undeclared_releases = refl
