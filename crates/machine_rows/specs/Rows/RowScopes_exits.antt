use Rattle.std.specs.Prelude.{◌≡◌, ℕ, ℤ, pos, negsuc, List, [], ◌∷◌, Some, None, true, false, codes, refl}
use Rattle.ann_base.specs.declared.exceptions.Raised.TheVariants as exception
use Rattle.trace_text.specs.declared.events.Event.{Event}
use Rattle.trace_text.specs.declared.events.Event.TheVariants as line
use Rattle.trace_text.specs.declared.events.Created.TheVariants as created
use Rattle.trace_text.specs.declared.events.Ended.TheVariants as end
use Rattle.trace_text.specs.declared.events.Finished.TheVariants as finished
use Rattle.trace_text.specs.declared.events.Leaves.TheVariants as leaves
use Rattle.trace_text.specs.declared.events.QueueEnd.TheVariants.{Tail}
use Rattle.trace_text.specs.declared.events.Waits.TheVariants as waits
use Rattle.profile_image.specs.declared.script_items.Item.{Item}
use Rattle.profile_image.specs.declared.image.Image.{Image}
use Rattle.profile_image.specs.declared.image.Queuing.TheVariants as queuing
use Rattle.profile_image.specs.declared.values.Value.TheVariants.{Whole}
use Rattle.profile_image.specs.declared.values.Constraint.TheVariants.{Free, Whole}
use Rattle.profile_image.specs.declared.expressions.Expression.TheVariants.{Known, Variable, Binary}
use Rattle.profile_image.specs.declared.expressions.ObjectName.TheVariants.{Declared, Component}
use Rattle.profile_image.specs.declared.expressions.BinaryOperator.TheVariants as binary
use Rattle.profile_image.specs.declared.declarations.DeclarationKind.TheVariants as kind
use Rattle.profile_image.specs.declared.declarations.Initial.TheVariants as initial
use Rattle.profile_image.specs.declared.declarations.EntryUnit.TheVariants as unit
use Rattle.profile_image.specs.declared.declarations.ExceptionChoice.TheVariants as exception_choice
use Rattle.profile_image.specs.declared.statements.StatementForm.TheVariants as form
use Rattle.profile_image.specs.declared.statements.Actual.TheVariants as actual
use Rattle.profile_image.specs.declared.statements.EntryOwner.TheVariants as owner
use Rattle.profile_image.specs.declared.statements.Piece.TheVariants as piece
use Rattle.profile_machine.specs.Notation.{decl, expr, stmt, scope, subprogram, task_unit, entry, controlled_type, task, call, region, t, of_task, declaration, variable, statement, handler, scope_text, formal, subprogram_text, task_unit_text, entry_text, controlled_text, policies, main_procedure}
use Rattle.profile_machine.specs.Run.{run_of}
use Rattle.profile_machine.specs.Computing.{computing}
use Rattle.std.specs.Fmt.{digits}
use Rattle.std.specs.Prelude.{Bool}
use Rattle.profile_machine.specs.WellFormed.{run_is_well_formed}
use Rattle.profile_machine.specs.Releases.{releases_ok}

-- Row scopes.exits: its run stops before tick 94, so every greater bound gives the same trace.
abbrev pub row_scopes_exits_program : Image
row_scopes_exits_program =
    record {
      declarations =
          declaration (codes "n") (codes "pk.r.n") (kind.Object (initial.Scalar (expr 19))) (scope 0) 0 1 (Whole (negsuc 2147483647) (pos 2147483647)) None
          ∷ declaration (codes "o") (codes "pk.o") kind.Parameter (scope 1) 0 2 Free None
          ∷ declaration (codes "t") (codes "main.t") (kind.Task (task_unit 0)) (scope 2) 0 1 Free None
          ∷ declaration (codes "y") (codes "main.y") (kind.Object (initial.Scalar (expr 20))) (scope 2) 1 1 (Whole (negsuc 2147483647) (pos 2147483647)) None
          ∷ declaration (codes "k") (codes "main.t.k") kind.Parameter (scope 3) 0 2 Free None
          ∷ declaration (codes "a") (codes "main.t.a") (kind.Controlled (controlled_type 0)) (scope 4) 0 2 Free None
          ∷ declaration (codes "x") (codes "main.t.x") kind.Parameter (scope 6) 0 1 (Whole (negsuc 2147483647) (pos 2147483647)) None
          ∷ declaration (codes "j") (codes "main.t.j") kind.Parameter (scope 3) 2 2 Free None
          ∷ [];
      expressions =
          Variable (variable (Declared (decl 7)) None)
          ∷ Known (Whole (pos 2))
          ∷ Binary binary.Equal (expr 0) (expr 1)
          ∷ Variable (variable (Declared (decl 6)) None)
          ∷ Variable (variable (Declared (decl 7)) None)
          ∷ Binary binary.Plus (expr 3) (expr 4)
          ∷ Known (Whole (pos 1))
          ∷ Known (Whole (pos 3))
          ∷ Variable (variable (Declared (decl 4)) None)
          ∷ Known (Whole (pos 2))
          ∷ Binary binary.Equal (expr 8) (expr 9)
          ∷ Variable (variable (Declared (decl 4)) None)
          ∷ Known (Whole (pos 5))
          ∷ Binary binary.Equal (expr 11) (expr 12)
          ∷ Variable (variable (Declared (decl 4)) None)
          ∷ Known (Whole (pos 1))
          ∷ Known (Whole (pos 3))
          ∷ Variable (variable (Declared (decl 3)) None)
          ∷ Variable (variable (Component (decl 1) (decl 0)) None)
          ∷ Known (Whole (pos 3))
          ∷ Known (Whole (pos 1))
          ∷ [];
      statements =
          statement (form.CallMain) 0 None
          ∷ statement (form.Accept (entry 0) (scope 6)) 0 None
          ∷ statement (form.Return) 0 None
          ∷ statement (form.Block (scope 7)) 0 (Some (stmt 2))
          ∷ statement (form.Loop (stmt 5) (Some (stmt 3))) 0 None
          ∷ statement (form.Block (scope 8)) 0 (Some (stmt 4))
          ∷ statement (form.Handled (handler (exception_choice.Others ∷ []) (stmt 8) ∷ []) (stmt 7)) 0 None
          ∷ statement (form.Raise exception.Program) 0 None
          ∷ statement (form.Exit None (stmt 4)) 0 None
          ∷ statement (form.For (decl 7) true (expr 6) (expr 7) (stmt 10) (Some (stmt 1))) 0 (Some (stmt 3))
          ∷ statement (form.FirstTurn (decl 7) true (stmt 13)) 0 (Some (stmt 3))
          ∷ statement (form.LaterTurn (decl 7) true (stmt 13)) 0 (Some (stmt 3))
          ∷ statement (form.Exit (Some (expr 2)) (stmt 9)) 1 (Some (stmt 11))
          ∷ statement (form.Assign (variable (Declared (decl 6)) None) (expr 5)) 1 (Some (stmt 12))
          ∷ statement (form.Loop (stmt 15) None) 0 (Some (stmt 1))
          ∷ statement (form.For (decl 4) false (expr 15) (expr 16) (stmt 16) None) 0 (Some (stmt 14))
          ∷ statement (form.FirstTurn (decl 4) false (stmt 18)) 0 (Some (stmt 14))
          ∷ statement (form.LaterTurn (decl 4) false (stmt 18)) 0 (Some (stmt 14))
          ∷ statement (form.Block (scope 4)) 0 (Some (stmt 17))
          ∷ statement (form.Block (scope 5)) 0 None
          ∷ statement (form.Handled (handler (exception_choice.Named exception.Constraint ∷ []) (stmt 25) ∷ []) (stmt 23)) 0 None
          ∷ statement (form.Raise exception.Constraint) 0 None
          ∷ statement (form.Exit None (stmt 14)) 0 (Some (stmt 21))
          ∷ statement (form.If (expr 10) (stmt 22) (Some (stmt 21))) 1 (Some (stmt 21))
          ∷ statement (form.Exit (Some (expr 13)) (stmt 15)) 1 None
          ∷ statement (form.PutLine (piece.Text (codes "ce") ∷ [])) 0 (Some (stmt 24))
          ∷ statement (form.Assign (variable (Component (decl 5) (decl 0)) None) (expr 14)) 0 (Some (stmt 19))
          ∷ statement (form.Initialize (decl 5)) 0 (Some (stmt 26))
          ∷ statement (form.Declare (decl 5)) 0 (Some (stmt 27))
          ∷ statement (form.EndActivation) 0 (Some (stmt 14))
          ∷ statement (form.PutLine (piece.Whole (expr 17) ∷ [])) 0 None
          ∷ statement (form.EntryCall (entry 0) (owner.Object (decl 2)) (actual.InOut (variable (Declared (decl 3)) None) ∷ [])) 0 (Some (stmt 30))
          ∷ statement (form.Activate 0) 0 (Some (stmt 31))
          ∷ statement (form.Declare (decl 3)) 0 (Some (stmt 32))
          ∷ statement (form.CreateTask (decl 2) 0) 0 (Some (stmt 33))
          ∷ statement (form.PutLine (piece.Whole (expr 18) ∷ [])) 0 None
          ∷ [];
      scopes =
          scope_text None 0 [] false (Some (stmt 0))
          ∷ scope_text (Some (scope 0)) 2 [] false (Some (stmt 35))
          ∷ scope_text (Some (scope 0)) 2 [] true (Some (stmt 34))
          ∷ scope_text (Some (scope 2)) 4 [] false (Some (stmt 29))
          ∷ scope_text (Some (scope 3)) 2 [] true (Some (stmt 28))
          ∷ scope_text (Some (scope 4)) 0 [] false (Some (stmt 20))
          ∷ scope_text (Some (scope 3)) 1 [] false (Some (stmt 9))
          ∷ scope_text (Some (scope 6)) 0 [] false (Some (stmt 4))
          ∷ scope_text (Some (scope 7)) 0 [] false (Some (stmt 6))
          ∷ [];
      subprograms =
          subprogram_text (codes "finalize") (scope 1) (formal Free (Whole (pos 0)) ∷ []) None None
          ∷ [];
      task_units =
          task_unit_text (scope 3) None None ((entry 0) ∷ [])
          ∷ [];
      protected_units = [];
      entries =
          entry_text (codes "e") (unit.Task (task_unit 0)) 0 (formal (Whole (negsuc 2147483647) (pos 2147483647)) (Whole (pos 0)) ∷ []) None
          ∷ [];
      controlled_types =
          controlled_text ((decl 0) ∷ []) None (Some (subprogram 0)) None
          ∷ [];
      enumerations = [];
      policies = (policies [] queuing.Fifo None 30);
      environment = (scope 0);
      main = (main_procedure (codes "main") 15 (scope 2));
    }

abbrev pub row_scopes_exits_script : List (ℤ × Item)
row_scopes_exits_script = []

-- the lines of its run up to tick 94
unfoldable pub row_scopes_exits_lines : List (ℕ × Event)
row_scopes_exits_lines = run_of row_scopes_exits_program row_scopes_exits_script 94

unfoldable pub row_scopes_exits_trace : List (ℕ × Event)
row_scopes_exits_trace =
    (0, line.New (created.Task (task 0)) (codes "main") 15)
    ∷ (0, line.Ready (t 0) 15 Tail None)
    ∷ (0, line.Run (t 0))
    ∷ (4, line.New (created.Task (task 1)) (codes "main.t") 15)
    ∷ (7, line.Ready (t 1) 15 Tail None)
    ∷ (7, line.Block (t 0) waits.Activation)
    ∷ (7, line.Run (t 1))
    ∷ (8, line.Ready (t 0) 15 Tail None)
    ∷ (15, line.Init (t 1) 1 (region 2) (codes "a"))
    ∷ (20, line.Raise (t 1) (codes "constraint_error"))
    ∷ (25, line.Put (t 1) (codes "ce"))
    ∷ (29, line.Leave (t 1) (region 2) leaves.End)
    ∷ (31, line.Final (t 1) 1)
    ∷ (35, line.Put (t 1) (codes " 1"))
    ∷ (38, line.Left (t 1) (region 2))
    ∷ (43, line.Init (t 1) 2 (region 3) (codes "a"))
    ∷ (51, line.Leave (t 1) (region 3) leaves.Exit)
    ∷ (53, line.Final (t 1) 2)
    ∷ (57, line.Put (t 1) (codes " 2"))
    ∷ (60, line.Left (t 1) (region 3))
    ∷ (62, line.Block (t 1) waits.Accept)
    ∷ (62, line.Run (t 0))
    ∷ (64, line.Call (task 0) (call 1) (of_task 1 (codes "e")) 15)
    ∷ (64, line.Start (t 1) (call 1))
    ∷ (64, line.Ready (t 1) 15 Tail None)
    ∷ (64, line.Block (t 0) waits.Entry)
    ∷ (64, line.Run (t 1))
    ∷ (79, line.Raise (t 1) (codes "program_error"))
    ∷ (85, line.Finish (t 1) (call 1) finished.Ok)
    ∷ (85, line.Ready (t 0) 15 Tail None)
    ∷ (86, line.Done (task 1))
    ∷ (86, line.Run (t 0))
    ∷ (90, line.Put (t 0) (codes " 6"))
    ∷ (91, line.Leave (t 0) (region 1) leaves.End)
    ∷ (92, line.Left (t 0) (region 1))
    ∷ (93, line.Done (task 0))
    ∷ (93, line.End end.Completed)
    ∷ []

pub row_scopes_exits_runs : row_scopes_exits_lines ≡ row_scopes_exits_trace
unfolding row_scopes_exits_lines row_scopes_exits_trace digits computing
row_scopes_exits_runs = refl

-- whether every world of its run is well formed
unfoldable pub row_scopes_exits_worlds : Bool
row_scopes_exits_worlds = run_is_well_formed row_scopes_exits_program row_scopes_exits_script 94

pub row_scopes_exits_keeps : row_scopes_exits_worlds ≡ true
unfolding row_scopes_exits_worlds computing
row_scopes_exits_keeps = refl

-- whether each handler is released at its tick
unfoldable pub row_scopes_exits_handlers : Bool
row_scopes_exits_handlers = releases_ok row_scopes_exits_program row_scopes_exits_script 94

pub row_scopes_exits_releases : row_scopes_exits_handlers ≡ true
unfolding row_scopes_exits_handlers computing
row_scopes_exits_releases = refl
