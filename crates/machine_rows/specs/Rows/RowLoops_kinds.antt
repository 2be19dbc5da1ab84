use Rattle.std.specs.Prelude.{◌≡◌, ℕ, ℤ, pos, negsuc, List, [], ◌∷◌, Some, None, true, false, codes, refl}
use Rattle.trace_text.specs.declared.events.Event.{Event}
use Rattle.trace_text.specs.declared.events.Event.TheVariants as line
use Rattle.trace_text.specs.declared.events.Created.TheVariants as created
use Rattle.trace_text.specs.declared.events.Ended.TheVariants as end
use Rattle.trace_text.specs.declared.events.QueueEnd.TheVariants.{Tail}
use Rattle.profile_image.specs.declared.script_items.Item.{Item}
use Rattle.profile_image.specs.declared.image.Image.{Image}
use Rattle.profile_image.specs.declared.image.Queuing.TheVariants as queuing
use Rattle.profile_image.specs.declared.values.Value.TheVariants.{Whole, Truth, Literal}
use Rattle.profile_image.specs.declared.values.Constraint.TheVariants.{Free, Whole, Truth, Literal}
use Rattle.profile_image.specs.declared.expressions.Expression.TheVariants.{Known, Variable, Unary, Binary}
use Rattle.profile_image.specs.declared.expressions.ObjectName.TheVariants.{Declared}
use Rattle.profile_image.specs.declared.expressions.UnaryOperator.TheVariants as unary
use Rattle.profile_image.specs.declared.expressions.BinaryOperator.TheVariants as binary
use Rattle.profile_image.specs.declared.declarations.DeclarationKind.TheVariants as kind
use Rattle.profile_image.specs.declared.declarations.Initial.TheVariants as initial
use Rattle.profile_image.specs.declared.declarations.ExceptionChoice.TheVariants as exception_choice
use Rattle.profile_image.specs.declared.statements.StatementForm.TheVariants as form
use Rattle.profile_machine.specs.Notation.{decl, expr, stmt, scope, task, t, declaration, variable, statement, handler, cell_run, scope_text, enumeration_text, policies, main_procedure}
use Rattle.profile_machine.specs.Run.{run_of}
use Rattle.profile_machine.specs.Computing.{computing}
use Rattle.std.specs.Fmt.{digits}
use Rattle.std.specs.Prelude.{Bool}
use Rattle.profile_machine.specs.WellFormed.{run_is_well_formed}
use Rattle.profile_machine.specs.Releases.{releases_ok}

-- Row loops.kinds: its run stops before tick 53, so every greater bound gives the same trace.
abbrev pub row_loops_kinds_program : Image
row_loops_kinds_program =
    record {
      declarations =
          declaration (codes "s") (codes "main.s") (kind.Object initial.Default) (scope 1) 0 3 (Truth false true) (Some (Literal 0 2))
          ∷ declaration (codes "r") (codes "main.r") (kind.Object initial.Default) (scope 1) 3 3 (Truth false true) (Some (Literal 0 2))
          ∷ declaration (codes "h") (codes "main.h") (kind.Object initial.Default) (scope 1) 6 2 (Whole (negsuc 2147483647) (pos 2147483647)) (Some (Truth false true))
          ∷ declaration (codes "n") (codes "main.n") (kind.Object (initial.Scalar (expr 32))) (scope 1) 8 1 (Whole (negsuc 2147483647) (pos 2147483647)) None
          ∷ declaration (codes "k") (codes "main.k") kind.Parameter (scope 1) 9 2 Free None
          ∷ declaration (codes "k") (codes "main.k") kind.Parameter (scope 1) 11 2 Free None
          ∷ declaration (codes "k") (codes "main.k") kind.Parameter (scope 1) 13 2 Free None
          ∷ declaration (codes "q") (codes "main.q") (kind.Object (initial.Array (Declared (decl 0)))) (scope 2) 0 3 (Truth false true) (Some (Literal 0 2))
          ∷ [];
      expressions =
          Known (Truth true)
          ∷ Variable (variable (Declared (decl 2)) (Some (expr 0)))
          ∷ Known (Whole (pos 2))
          ∷ Binary binary.Equal (expr 1) (expr 2)
          ∷ Known (Truth true)
          ∷ Known (Literal 0)
          ∷ Variable (variable (Declared (decl 1)) (Some (expr 5)))
          ∷ Known (Literal 1)
          ∷ Variable (variable (Declared (decl 1)) (Some (expr 7)))
          ∷ Unary unary.Not (expr 8)
          ∷ Binary binary.And (expr 6) (expr 9)
          ∷ Variable (variable (Declared (decl 3)) None)
          ∷ Known (Whole (pos 1))
          ∷ Binary binary.Plus (expr 11) (expr 12)
          ∷ Variable (variable (Declared (decl 6)) None)
          ∷ Variable (variable (Declared (decl 3)) None)
          ∷ Known (Truth false)
          ∷ Known (Truth true)
          ∷ Variable (variable (Declared (decl 5)) None)
          ∷ Known (Truth false)
          ∷ Known (Literal 1)
          ∷ Known (Literal 2)
          ∷ Variable (variable (Declared (decl 4)) None)
          ∷ Known (Truth true)
          ∷ Known (Literal 0)
          ∷ Known (Literal 2)
          ∷ Variable (variable (Declared (decl 3)) None)
          ∷ Known (Whole (pos 1))
          ∷ Binary binary.Plus (expr 26) (expr 27)
          ∷ Variable (variable (Declared (decl 3)) None)
          ∷ Known (Whole (pos 1))
          ∷ Binary binary.Less (expr 29) (expr 30)
          ∷ Known (Whole (pos 0))
          ∷ [];
      statements =
          statement (form.CallMain) 0 None
          ∷ statement (form.While (expr 4) (stmt 2) None) 0 None
          ∷ statement (form.Block (scope 3)) 0 (Some (stmt 1))
          ∷ statement (form.Handled (handler (exception_choice.Others ∷ []) (stmt 5) ∷ []) (stmt 4)) 0 None
          ∷ statement (form.Exit (Some (expr 3)) (stmt 1)) 1 None
          ∷ statement (form.Null) 0 None
          ∷ statement (form.Null) 0 (Some (stmt 1))
          ∷ statement (form.If (expr 10) (stmt 6) (Some (stmt 1))) 2 (Some (stmt 1))
          ∷ statement (form.Block (scope 2)) 0 (Some (stmt 7))
          ∷ statement (form.AssignArray (Declared (decl 1)) (Declared (decl 7))) 0 None
          ∷ statement (form.Declare (decl 7)) 0 (Some (stmt 9))
          ∷ statement (form.For (decl 6) false (expr 16) (expr 17) (stmt 12) None) 0 (Some (stmt 8))
          ∷ statement (form.FirstTurn (decl 6) false (stmt 15)) 0 (Some (stmt 8))
          ∷ statement (form.LaterTurn (decl 6) false (stmt 15)) 0 (Some (stmt 8))
          ∷ statement (form.Assign (variable (Declared (decl 3)) None) (expr 13)) 1 (Some (stmt 13))
          ∷ statement (form.Assign (variable (Declared (decl 2)) (Some (expr 14))) (expr 15)) 0 (Some (stmt 14))
          ∷ statement (form.For (decl 5) true (expr 20) (expr 21) (stmt 17) None) 0 (Some (stmt 11))
          ∷ statement (form.FirstTurn (decl 5) true (stmt 19)) 0 (Some (stmt 11))
          ∷ statement (form.LaterTurn (decl 5) true (stmt 19)) 0 (Some (stmt 11))
          ∷ statement (form.Assign (variable (Declared (decl 0)) (Some (expr 18))) (expr 19)) 0 (Some (stmt 18))
          ∷ statement (form.For (decl 4) false (expr 24) (expr 25) (stmt 21) None) 0 (Some (stmt 16))
          ∷ statement (form.FirstTurn (decl 4) false (stmt 23)) 0 (Some (stmt 16))
          ∷ statement (form.LaterTurn (decl 4) false (stmt 23)) 0 (Some (stmt 16))
          ∷ statement (form.Assign (variable (Declared (decl 0)) (Some (expr 22))) (expr 23)) 0 (Some (stmt 22))
          ∷ statement (form.While (expr 31) (stmt 25) None) 1 (Some (stmt 20))
          ∷ statement (form.Assign (variable (Declared (decl 3)) None) (expr 28)) 1 (Some (stmt 24))
          ∷ statement (form.Declare (decl 3)) 0 (Some (stmt 24))
          ∷ statement (form.Declare (decl 2)) 0 (Some (stmt 26))
          ∷ statement (form.Declare (decl 1)) 0 (Some (stmt 27))
          ∷ statement (form.Declare (decl 0)) 0 (Some (stmt 28))
          ∷ [];
      scopes =
          scope_text None 0 [] false (Some (stmt 0))
          ∷ scope_text (Some (scope 0)) 15 (cell_run 0 3 (Truth false) ∷ cell_run 3 3 (Truth false) ∷ []) false (Some (stmt 29))
          ∷ scope_text (Some (scope 1)) 3 (cell_run 0 3 (Truth false) ∷ []) false (Some (stmt 10))
          ∷ scope_text (Some (scope 1)) 0 [] false (Some (stmt 3))
          ∷ [];
      subprograms = [];
      task_units = [];
      protected_units = [];
      entries = [];
      controlled_types = [];
      enumerations =
          enumeration_text ((codes "RED") ∷ (codes "GREEN") ∷ (codes "BLUE") ∷ [])
          ∷ [];
      policies = (policies [] queuing.Fifo None 30);
      environment = (scope 0);
      main = (main_procedure (codes "main") 15 (scope 1));
    }

abbrev pub row_loops_kinds_script : List (ℤ × Item)
row_loops_kinds_script = []

-- the lines of its run up to tick 53
unfoldable pub row_loops_kinds_lines : List (ℕ × Event)
row_loops_kinds_lines = run_of row_loops_kinds_program row_loops_kinds_script 53

unfoldable pub row_loops_kinds_trace : List (ℕ × Event)
row_loops_kinds_trace =
    (0, line.New (created.Task (task 0)) (codes "main") 15)
    ∷ (0, line.Ready (t 0) 15 Tail None)
    ∷ (0, line.Run (t 0))
    ∷ (52, line.Done (task 0))
    ∷ (52, line.End end.Completed)
    ∷ []

pub row_loops_kinds_runs : row_loops_kinds_lines ≡ row_loops_kinds_trace
unfolding row_loops_kinds_lines row_loops_kinds_trace digits computing
row_loops_kinds_runs = refl

-- whether every world of its run is well formed
unfoldable pub row_loops_kinds_worlds : Bool
row_loops_kinds_worlds = run_is_well_formed row_loops_kinds_program row_loops_kinds_script 53

pub row_loops_kinds_keeps : row_loops_kinds_worlds ≡ true
unfolding row_loops_kinds_worlds computing
row_loops_kinds_keeps = refl

-- whether each handler is released at its tick
unfoldable pub row_loops_kinds_handlers : Bool
row_loops_kinds_handlers = releases_ok row_loops_kinds_program row_loops_kinds_script 53

pub row_loops_kinds_releases : row_loops_kinds_handlers ≡ true
unfolding row_loops_kinds_handlers computing
row_loops_kinds_releases = refl
