use Rattle.std.specs.Prelude.{◌≡◌, ℕ, ℤ, pos, List, [], ◌∷◌, Some, None, true, false, codes, refl}
use Rattle.ann_base.specs.declared.exceptions.Raised.TheVariants as exception
use Rattle.trace_text.specs.declared.events.Event.{Event}
use Rattle.trace_text.specs.declared.events.Event.TheVariants as line
use Rattle.trace_text.specs.declared.events.Created.TheVariants as created
use Rattle.trace_text.specs.declared.events.Ended.TheVariants as end
use Rattle.trace_text.specs.declared.events.Mode.TheVariants.{Write}
use Rattle.trace_text.specs.declared.events.QueueEnd.TheVariants.{Tail}
use Rattle.trace_text.specs.declared.events.Waits.TheVariants as waits
use Rattle.profile_image.specs.declared.script_items.Item.{Item}
use Rattle.profile_image.specs.declared.image.Image.{Image}
use Rattle.profile_image.specs.declared.image.Queuing.TheVariants as queuing
use Rattle.profile_image.specs.declared.values.Value.TheVariants.{Whole, Truth}
use Rattle.profile_image.specs.declared.values.Constraint.TheVariants.{Free, Whole, Truth}
use Rattle.profile_image.specs.declared.expressions.Expression.TheVariants.{Known, Variable, Span, CurrentTask, BudgetHasExpired}
use Rattle.profile_image.specs.declared.expressions.ObjectName.TheVariants.{Declared}
use Rattle.profile_image.specs.declared.declarations.DeclarationKind.TheVariants as kind
use Rattle.profile_image.specs.declared.declarations.Initial.TheVariants as initial
use Rattle.profile_image.specs.declared.declarations.ExceptionChoice.TheVariants as exception_choice
use Rattle.profile_image.specs.declared.statements.StatementForm.TheVariants as form
use Rattle.profile_image.specs.declared.statements.Piece.TheVariants as piece
use Rattle.profile_machine.specs.Notation.{decl, expr, stmt, scope, subprogram, protected_unit, task, p, t, agent, declaration, variable, statement, handler, handler_name, cell_run, scope_text, formal, subprogram_text, protected_unit_text, policies, main_procedure}
use Rattle.profile_machine.specs.Run.{run_of}
use Rattle.profile_machine.specs.Computing.{computing}
use Rattle.std.specs.Fmt.{digits}
use Rattle.std.specs.Prelude.{Bool}
use Rattle.profile_machine.specs.WellFormed.{run_is_well_formed}
use Rattle.profile_machine.specs.Releases.{releases_ok}

-- Row budgets.group: its run stops before tick 53, so every greater bound gives the same trace.
abbrev pub row_budgets_group_program : Image
row_budgets_group_program =
    record {
      declarations =
          declaration (codes "b") (codes "pk.b") kind.Budget (scope 0) 0 1 Free None
          ∷ declaration (codes "h") (codes "pk.h") (kind.Protected (protected_unit 0)) (scope 0) 1 16 Free None
          ∷ declaration (codes "l") (codes "pk.l") (kind.Protected (protected_unit 1)) (scope 0) 17 16 Free None
          ∷ declaration (codes "g") (codes "pk.h.g") kind.Parameter (scope 1) 0 1 Free None
          ∷ declaration (codes "g") (codes "pk.l.g") kind.Parameter (scope 2) 0 1 Free None
          ∷ declaration (codes "c") (codes "main.c") (kind.Object initial.Default) (scope 3) 0 1 (Truth false true) None
          ∷ [];
      expressions =
          CurrentTask
          ∷ Known (Whole (pos 1))
          ∷ Span (pos 1) (expr 1)
          ∷ CurrentTask
          ∷ Variable (variable (Declared (decl 5)) None)
          ∷ Known (Whole (pos 3))
          ∷ Span (pos 1) (expr 5)
          ∷ BudgetHasExpired (decl 0)
          ∷ Known (Whole (pos 4))
          ∷ Span (pos 1) (expr 8)
          ∷ CurrentTask
          ∷ [];
      statements =
          statement (form.CallMain) 0 None
          ∷ statement (form.Handled (handler (exception_choice.Named exception.GroupBudget ∷ []) (stmt 17) ∷ []) (stmt 16)) 0 None
          ∷ statement (form.RemoveTask (decl 0) (expr 0)) 1 None
          ∷ statement (form.Null) 0 (Some (stmt 2))
          ∷ statement (form.Replenish (decl 0) (expr 2)) 1 (Some (stmt 3))
          ∷ statement (form.RemoveTask (decl 0) (expr 3)) 1 (Some (stmt 4))
          ∷ statement (form.PutLine (piece.Truth (expr 4) ∷ [])) 0 (Some (stmt 5))
          ∷ statement (form.Null) 0 (Some (stmt 6))
          ∷ statement (form.CancelBudget (decl 0) (variable (Declared (decl 5)) None)) 0 (Some (stmt 7))
          ∷ statement (form.AddToBudget (decl 0) (expr 6)) 1 (Some (stmt 8))
          ∷ statement (form.PutLine (piece.Text (codes "spent") ∷ [])) 0 (Some (stmt 9))
          ∷ statement (form.If (expr 7) (stmt 10) (Some (stmt 9))) 1 (Some (stmt 9))
          ∷ statement (form.Null) 0 (Some (stmt 11))
          ∷ statement (form.Null) 0 (Some (stmt 12))
          ∷ statement (form.SetBudget (decl 0) (Some (handler_name (decl 1) (subprogram 0)))) 0 (Some (stmt 13))
          ∷ statement (form.Replenish (decl 0) (expr 9)) 1 (Some (stmt 14))
          ∷ statement (form.AddTask (decl 0) (expr 10)) 1 (Some (stmt 15))
          ∷ statement (form.SetBudget (decl 0) (Some (handler_name (decl 2) (subprogram 1)))) 0 None
          ∷ statement (form.Declare (decl 5)) 0 (Some (stmt 1))
          ∷ statement (form.Null) 0 None
          ∷ statement (form.Null) 0 None
          ∷ statement (form.Declare (decl 2)) 0 (Some (stmt 0))
          ∷ statement (form.Declare (decl 1)) 0 (Some (stmt 21))
          ∷ statement (form.Declare (decl 0)) 0 (Some (stmt 22))
          ∷ [];
      scopes =
          scope_text None 33 [] false (Some (stmt 23))
          ∷ scope_text (Some (scope 0)) 1 [] false (Some (stmt 19))
          ∷ scope_text (Some (scope 0)) 1 [] false (Some (stmt 20))
          ∷ scope_text (Some (scope 0)) 1 (cell_run 0 1 (Truth false) ∷ []) false (Some (stmt 18))
          ∷ [];
      subprograms =
          subprogram_text (codes "spent") (scope 1) (formal Free (Whole (pos 0)) ∷ []) None (Some (protected_unit 0))
          ∷ subprogram_text (codes "spent") (scope 2) (formal Free (Whole (pos 0)) ∷ []) None (Some (protected_unit 1))
          ∷ [];
      task_units = [];
      protected_units =
          protected_unit_text 31 [] [] []
          ∷ protected_unit_text 20 [] [] []
          ∷ [];
      entries = [];
      controlled_types = [];
      enumerations = [];
      policies = (policies [] queuing.Fifo None 30);
      environment = (scope 0);
      main = (main_procedure (codes "main") 15 (scope 3));
    }

abbrev pub row_budgets_group_script : List (ℤ × Item)
row_budgets_group_script = []

-- the lines of its run up to tick 53
unfoldable pub row_budgets_group_lines : List (ℕ × Event)
row_budgets_group_lines = run_of row_budgets_group_program row_budgets_group_script 53

unfoldable pub row_budgets_group_trace : List (ℕ × Event)
row_budgets_group_trace =
    (0, line.New (created.Task (task 0)) (codes "main") 15)
    ∷ (0, line.Ready (t 0) 15 Tail None)
    ∷ (0, line.Run (t 0))
    ∷ (2, line.New (created.Object (p 1)) (codes "pk.h") 31)
    ∷ (3, line.New (created.Object (p 2)) (codes "pk.l") 20)
    ∷ (16, line.Release 1 (p 1) (codes "spent"))
    ∷ (16, line.Ready agent 31 Tail None)
    ∷ (16, line.Run agent)
    ∷ (16, line.Serve 1)
    ∷ (18, line.Enter agent (p 1) Write)
    ∷ (21, line.Exit agent (p 1))
    ∷ (21, line.Served 1)
    ∷ (21, line.Block agent waits.Release)
    ∷ (21, line.Run (t 0))
    ∷ (27, line.Put (t 0) (codes "spent"))
    ∷ (37, line.Put (t 0) (codes "TRUE"))
    ∷ (47, line.Raise (t 0) (codes "group_budget_error"))
    ∷ (50, line.Raise (t 0) (codes "program_error"))
    ∷ (52, line.Done (task 0))
    ∷ (52, line.End (end.Exception (codes "program_error")))
    ∷ []

pub row_budgets_group_runs : row_budgets_group_lines ≡ row_budgets_group_trace
unfolding row_budgets_group_lines row_budgets_group_trace digits computing
row_budgets_group_runs = refl

-- whether every world of its run is well formed
unfoldable pub row_budgets_group_worlds : Bool
row_budgets_group_worlds = run_is_well_formed row_budgets_group_program row_budgets_group_script 53

pub row_budgets_group_keeps : row_budgets_group_worlds ≡ true
unfolding row_budgets_group_worlds computing
row_budgets_group_keeps = refl

-- whether each handler is released at its tick
unfoldable pub row_budgets_group_handlers : Bool
row_budgets_group_handlers = releases_ok row_budgets_group_program row_budgets_group_script 53

pub row_budgets_group_releases : row_budgets_group_handlers ≡ true
unfolding row_budgets_group_handlers computing
row_budgets_group_releases = refl
