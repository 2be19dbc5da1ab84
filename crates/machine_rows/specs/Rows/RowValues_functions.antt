use Rattle.std.specs.Prelude.{◌≡◌, ℕ, ℤ, pos, negsuc, List, [], ◌∷◌, Some, None, true, false, codes, refl}
use Rattle.ann_base.specs.declared.exceptions.Raised.TheVariants as exception
use Rattle.trace_text.specs.declared.events.Event.{Event}
use Rattle.trace_text.specs.declared.events.Event.TheVariants as line
use Rattle.trace_text.specs.declared.events.Created.TheVariants as created
use Rattle.trace_text.specs.declared.events.Ended.TheVariants as end
use Rattle.trace_text.specs.declared.events.Finished.TheVariants as finished
use Rattle.trace_text.specs.declared.events.Mode.TheVariants.{Read, Write}
use Rattle.trace_text.specs.declared.events.QueueEnd.TheVariants.{Head, Tail}
use Rattle.profile_image.specs.declared.script_items.Item.{Item}
use Rattle.profile_image.specs.declared.image.Image.{Image}
use Rattle.profile_image.specs.declared.image.Queuing.TheVariants as queuing
use Rattle.profile_image.specs.declared.values.Value.TheVariants.{Whole, Truth, Literal}
use Rattle.profile_image.specs.declared.values.Constraint.TheVariants.{Free, Whole, Truth, Literal}
use Rattle.profile_image.specs.declared.expressions.Expression.TheVariants.{Known, Variable, Binary}
use Rattle.profile_image.specs.declared.expressions.ObjectName.TheVariants.{Declared, OwnComponent}
use Rattle.profile_image.specs.declared.expressions.BinaryOperator.TheVariants as binary
use Rattle.profile_image.specs.declared.declarations.DeclarationKind.TheVariants as kind
use Rattle.profile_image.specs.declared.declarations.Initial.TheVariants as initial
use Rattle.profile_image.specs.declared.declarations.EntryUnit.TheVariants as unit
use Rattle.profile_image.specs.declared.declarations.ExceptionChoice.TheVariants as exception_choice
use Rattle.profile_image.specs.declared.statements.StatementForm.TheVariants as form
use Rattle.profile_image.specs.declared.statements.Choice.TheVariants as choice
use Rattle.profile_image.specs.declared.statements.Actual.TheVariants as actual
use Rattle.profile_image.specs.declared.statements.Callee.TheVariants as callee
use Rattle.profile_image.specs.declared.statements.Destination.TheVariants as destination
use Rattle.profile_image.specs.declared.statements.EntryOwner.TheVariants as owner
use Rattle.profile_image.specs.declared.statements.Piece.TheVariants as piece
use Rattle.profile_machine.specs.Notation.{decl, expr, stmt, scope, subprogram, protected_unit, entry, enumeration, task, call, p, t, of_object, declaration, variable, statement, alternative, handler, cell_run, scope_text, formal, subprogram_text, protected_unit_text, entry_body, entry_text, enumeration_text, policies, main_procedure}
use Rattle.profile_machine.specs.Run.{run_of}
use Rattle.profile_machine.specs.Computing.{computing}
use Rattle.std.specs.Fmt.{digits}
use Rattle.std.specs.Prelude.{Bool}
use Rattle.profile_machine.specs.WellFormed.{run_is_well_formed}
use Rattle.profile_machine.specs.Releases.{releases_ok}

-- Row values.functions: its run stops before tick 243, so every greater bound gives the same trace.
abbrev pub row_values_functions_program : Image
row_values_functions_program =
    record {
      declarations =
          declaration (codes "x30") (codes "main.x30") kind.Other (scope 0) 0 0 Free None
          ∷ declaration (codes "p") (codes "main.p") (kind.Protected (protected_unit 0)) (scope 1) 0 18 Free None
          ∷ declaration (codes "n") (codes "main.p.n") (kind.Object (initial.Scalar (expr 59))) (scope 0) 0 1 (Whole (negsuc 2147483647) (pos 2147483647)) None
          ∷ declaration (codes "open") (codes "main.p.open") (kind.Object (initial.Scalar (expr 60))) (scope 0) 1 1 (Truth false true) None
          ∷ declaration (codes "v") (codes "main.v") (kind.Object (initial.Scalar (expr 61))) (scope 1) 18 1 (Whole (negsuc 2147483647) (pos 2147483647)) None
          ∷ declaration (codes "s") (codes "main.s") (kind.Object (initial.Scalar (expr 62))) (scope 1) 19 1 (Whole (pos 1) (pos 5)) None
          ∷ declaration (codes "b") (codes "main.b") (kind.Object initial.Default) (scope 1) 20 3 (Whole (negsuc 2147483647) (pos 2147483647)) (Some (Whole (pos 1) (pos 3)))
          ∷ declaration (codes "c") (codes "main.c") (kind.Object initial.Default) (scope 1) 23 3 (Whole (negsuc 2147483647) (pos 2147483647)) (Some (Whole (pos 1) (pos 3)))
          ∷ declaration (codes "d") (codes "main.d") (kind.Object (initial.Scalar (expr 63))) (scope 1) 26 1 (Literal 0 2) None
          ∷ declaration (codes "x") (codes "main.p.x") kind.Parameter (scope 2) 0 1 (Whole (negsuc 2147483647) (pos 2147483647)) None
          ∷ declaration (codes "a") (codes "main.a") kind.Parameter (scope 5) 0 1 (Whole (negsuc 2147483647) (pos 2147483647)) None
          ∷ declaration (codes "bx") (codes "main.bx") kind.Parameter (scope 5) 1 1 (Whole (negsuc 2147483647) (pos 2147483647)) None
          ∷ declaration (codes "cx") (codes "main.cx") kind.Parameter (scope 5) 2 1 (Whole (negsuc 2147483647) (pos 2147483647)) None
          ∷ declaration (codes "n") (codes "main.n") kind.Parameter (scope 6) 0 1 (Whole (negsuc 2147483647) (pos 2147483647)) None
          ∷ declaration (codes "a") (codes "main.fib.a") (kind.Object initial.Default) (scope 6) 1 1 (Whole (negsuc 2147483647) (pos 2147483647)) None
          ∷ declaration (codes "bb") (codes "main.fib.bb") (kind.Object initial.Default) (scope 6) 2 1 (Whole (negsuc 2147483647) (pos 2147483647)) None
          ∷ [];
      expressions =
          Variable (variable (OwnComponent (protected_unit 0) (decl 2)) None)
          ∷ Known (Whole (pos 2))
          ∷ Binary binary.Equal (expr 0) (expr 1)
          ∷ Variable (variable (OwnComponent (protected_unit 0) (decl 2)) None)
          ∷ Known (Whole (pos 1))
          ∷ Binary binary.Plus (expr 3) (expr 4)
          ∷ Variable (variable (Declared (decl 9)) None)
          ∷ Known (Whole (pos 3))
          ∷ Binary binary.Times (expr 6) (expr 7)
          ∷ Known (Truth true)
          ∷ Variable (variable (OwnComponent (protected_unit 0) (decl 2)) None)
          ∷ Known (Whole (pos 7))
          ∷ Binary binary.Plus (expr 10) (expr 11)
          ∷ Variable (variable (Declared (decl 12)) None)
          ∷ Variable (variable (Declared (decl 10)) None)
          ∷ Binary binary.Minus (expr 13) (expr 14)
          ∷ Variable (variable (Declared (decl 10)) None)
          ∷ Known (Whole (pos 2))
          ∷ Binary binary.Divide (expr 16) (expr 17)
          ∷ Variable (variable (Declared (decl 14)) None)
          ∷ Variable (variable (Declared (decl 15)) None)
          ∷ Binary binary.Plus (expr 19) (expr 20)
          ∷ Variable (variable (Declared (decl 13)) None)
          ∷ Known (Whole (pos 2))
          ∷ Binary binary.Minus (expr 22) (expr 23)
          ∷ Variable (variable (Declared (decl 13)) None)
          ∷ Known (Whole (pos 1))
          ∷ Binary binary.Minus (expr 25) (expr 26)
          ∷ Variable (variable (Declared (decl 13)) None)
          ∷ Variable (variable (Declared (decl 13)) None)
          ∷ Known (Whole (pos 2))
          ∷ Binary binary.Less (expr 29) (expr 30)
          ∷ Known (Whole (pos 1))
          ∷ Variable (variable (Declared (decl 6)) (Some (expr 32)))
          ∷ Known (Whole (pos 3))
          ∷ Variable (variable (Declared (decl 7)) (Some (expr 34)))
          ∷ Variable (variable (Declared (decl 8)) None)
          ∷ Variable (variable (Declared (decl 8)) None)
          ∷ Known (Literal 2)
          ∷ Binary binary.Less (expr 37) (expr 38)
          ∷ Known (Whole (pos 7))
          ∷ Known (Whole (pos 1))
          ∷ Known (Whole (pos 3))
          ∷ Known (Whole (pos 1))
          ∷ Known (Whole (pos 2))
          ∷ Variable (variable (Declared (decl 7)) (Some (expr 44)))
          ∷ Known (Whole (pos 4))
          ∷ Binary binary.Mod (expr 45) (expr 46)
          ∷ Known (Whole (pos 2))
          ∷ Known (Whole (pos 9))
          ∷ Variable (variable (Declared (decl 4)) None)
          ∷ Variable (variable (Declared (decl 8)) None)
          ∷ Variable (variable (Declared (decl 4)) None)
          ∷ Known (Whole (pos 5))
          ∷ Variable (variable (OwnComponent (protected_unit 0) (decl 3)) None)
          ∷ Variable (variable (OwnComponent (protected_unit 0) (decl 2)) None)
          ∷ Known (Whole (pos 0))
          ∷ Binary binary.Equal (expr 55) (expr 56)
          ∷ Binary binary.Or (expr 54) (expr 57)
          ∷ Known (Whole (pos 0))
          ∷ Known (Truth false)
          ∷ Known (Whole (pos 4))
          ∷ Known (Whole (pos 2))
          ∷ Known (Literal 1)
          ∷ [];
      statements =
          statement (form.CallMain) 0 None
          ∷ statement (form.Raise (exception.User 0)) 0 None
          ∷ statement (form.If (expr 2) (stmt 1) None) 1 None
          ∷ statement (form.Assign (variable (OwnComponent (protected_unit 0) (decl 2)) None) (expr 5)) 1 (Some (stmt 2))
          ∷ statement (form.Assign (variable (Declared (decl 9)) None) (expr 8)) 1 (Some (stmt 3))
          ∷ statement (form.Assign (variable (OwnComponent (protected_unit 0) (decl 3)) None) (expr 9)) 0 None
          ∷ statement (form.ReturnValue (subprogram 1) (expr 12)) 1 None
          ∷ statement (form.Assign (variable (Declared (decl 12)) None) (expr 15)) 1 None
          ∷ statement (form.Assign (variable (Declared (decl 11)) None) (expr 18)) 1 (Some (stmt 7))
          ∷ statement (form.ReturnValue (subprogram 3) (expr 21)) 1 None
          ∷ statement (form.Call (callee.Subprogram (subprogram 3)) (actual.In (expr 24) ∷ []) (destination.Variable (variable (Declared (decl 15)) None))) 1 (Some (stmt 9))
          ∷ statement (form.Call (callee.Subprogram (subprogram 3)) (actual.In (expr 27) ∷ []) (destination.Variable (variable (Declared (decl 14)) None))) 1 (Some (stmt 10))
          ∷ statement (form.ReturnValue (subprogram 3) (expr 28)) 0 (Some (stmt 11))
          ∷ statement (form.If (expr 31) (stmt 12) (Some (stmt 11))) 1 (Some (stmt 11))
          ∷ statement (form.Declare (decl 15)) 0 (Some (stmt 13))
          ∷ statement (form.Declare (decl 14)) 0 (Some (stmt 14))
          ∷ statement (form.Handled (handler (exception_choice.Named exception.Constraint ∷ []) (stmt 43) ∷ []) (stmt 29)) 0 None
          ∷ statement (form.Call (callee.Operation (decl 1) (subprogram 1)) [] (destination.Variable (variable (Declared (decl 5)) None))) 0 None
          ∷ statement (form.PutLine (piece.Whole (expr 33) ∷ piece.Whole (expr 35) ∷ piece.Literal (expr 36) (enumeration 0) ∷ piece.Truth (expr 39) ∷ [])) 4 (Some (stmt 17))
          ∷ statement (form.Call (callee.Subprogram (subprogram 2)) (actual.In (expr 40) ∷ actual.Out (variable (Declared (decl 6)) (Some (expr 41))) ∷ actual.InOut (variable (Declared (decl 7)) (Some (expr 42))) ∷ []) destination.Nowhere) 0 (Some (stmt 18))
          ∷ statement (form.Assign (variable (Declared (decl 7)) (Some (expr 43))) (expr 47)) 1 (Some (stmt 19))
          ∷ statement (form.AssignArray (Declared (decl 7)) (Declared (decl 6))) 0 (Some (stmt 20))
          ∷ statement (form.Assign (variable (Declared (decl 6)) (Some (expr 48))) (expr 49)) 0 (Some (stmt 21))
          ∷ statement (form.Block (scope 7)) 0 (Some (stmt 22))
          ∷ statement (form.Handled (handler (exception_choice.Named (exception.User 0) ∷ []) (stmt 26) ∷ []) (stmt 25)) 0 None
          ∷ statement (form.EntryCall (entry 0) (owner.Object (decl 1)) (actual.InOut (variable (Declared (decl 4)) None) ∷ [])) 0 None
          ∷ statement (form.PutLine (piece.Text (codes "x30") ∷ [])) 0 None
          ∷ statement (form.Call (callee.Operation (decl 1) (subprogram 0)) [] destination.Nowhere) 0 (Some (stmt 23))
          ∷ statement (form.PutLine (piece.Whole (expr 50) ∷ [])) 0 (Some (stmt 27))
          ∷ statement (form.EntryCall (entry 0) (owner.Object (decl 1)) (actual.InOut (variable (Declared (decl 4)) None) ∷ [])) 0 (Some (stmt 28))
          ∷ statement (form.RaiseAgain (scope 1)) 0 None
          ∷ statement (form.Block (scope 8)) 0 (Some (stmt 30))
          ∷ statement (form.Handled (handler (exception_choice.Others ∷ []) (stmt 34) ∷ []) (stmt 33)) 0 None
          ∷ statement (form.Call (callee.Operation (decl 1) (subprogram 1)) [] (destination.Variable (variable (Declared (decl 5)) None))) 0 None
          ∷ statement (form.Block (scope 9)) 0 None
          ∷ statement (form.Handled (handler (exception_choice.Named exception.Constraint ∷ []) (stmt 38) ∷ []) (stmt 37)) 0 None
          ∷ statement (form.RaiseAgain (scope 8)) 0 None
          ∷ statement (form.Null) 0 (Some (stmt 36))
          ∷ statement (form.PutLine (piece.Text (codes "again") ∷ [])) 0 None
          ∷ statement (form.Null) 0 (Some (stmt 31))
          ∷ statement (form.PutLine (piece.Text (codes "g") ∷ [])) 0 (Some (stmt 31))
          ∷ statement (form.Case (expr 51) (alternative (choice.Single (Literal 0) ∷ choice.Single (Literal 2) ∷ []) (stmt 39) ∷ alternative (choice.Single (Literal 1) ∷ []) (stmt 40) ∷ [])) 0 (Some (stmt 31))
          ∷ statement (form.PutLine (piece.Whole (expr 52) ∷ [])) 0 (Some (stmt 41))
          ∷ statement (form.Call (callee.Subprogram (subprogram 3)) (actual.In (expr 53) ∷ []) (destination.Variable (variable (Declared (decl 4)) None))) 0 (Some (stmt 42))
          ∷ statement (form.Declare (decl 8)) 0 (Some (stmt 16))
          ∷ statement (form.Declare (decl 7)) 0 (Some (stmt 44))
          ∷ statement (form.Declare (decl 6)) 0 (Some (stmt 45))
          ∷ statement (form.Declare (decl 5)) 0 (Some (stmt 46))
          ∷ statement (form.Declare (decl 4)) 0 (Some (stmt 47))
          ∷ statement (form.Declare (decl 1)) 0 (Some (stmt 48))
          ∷ [];
      scopes =
          scope_text None 0 [] false (Some (stmt 0))
          ∷ scope_text (Some (scope 0)) 27 (cell_run 17 1 (Truth false) ∷ cell_run 19 1 (Whole (pos 1)) ∷ cell_run 26 1 (Literal 0) ∷ []) false (Some (stmt 49))
          ∷ scope_text (Some (scope 1)) 1 [] false (Some (stmt 4))
          ∷ scope_text (Some (scope 1)) 0 [] false (Some (stmt 5))
          ∷ scope_text (Some (scope 1)) 1 [] false (Some (stmt 6))
          ∷ scope_text (Some (scope 1)) 3 [] false (Some (stmt 8))
          ∷ scope_text (Some (scope 1)) 4 [] false (Some (stmt 15))
          ∷ scope_text (Some (scope 1)) 0 [] false (Some (stmt 24))
          ∷ scope_text (Some (scope 1)) 0 [] false (Some (stmt 32))
          ∷ scope_text (Some (scope 8)) 0 [] false (Some (stmt 35))
          ∷ [];
      subprograms =
          subprogram_text (codes "q") (scope 3) [] None (Some (protected_unit 0))
          ∷ subprogram_text (codes "g") (scope 4) [] (Some (Whole (negsuc 2147483647) (pos 2147483647))) (Some (protected_unit 0))
          ∷ subprogram_text (codes "r") (scope 5) (formal (Whole (negsuc 2147483647) (pos 2147483647)) (Whole (pos 0)) ∷ formal (Whole (negsuc 2147483647) (pos 2147483647)) (Whole (pos 0)) ∷ formal (Whole (negsuc 2147483647) (pos 2147483647)) (Whole (pos 0)) ∷ []) None None
          ∷ subprogram_text (codes "fib") (scope 6) (formal (Whole (negsuc 2147483647) (pos 2147483647)) (Whole (pos 0)) ∷ []) (Some (Whole (negsuc 2147483647) (pos 2147483647))) None
          ∷ [];
      task_units = [];
      protected_units =
          protected_unit_text 30 ((entry 0) ∷ []) ((decl 2) ∷ (decl 3) ∷ []) []
          ∷ [];
      entries =
          entry_text (codes "a") (unit.Protected (protected_unit 0)) 0 (formal (Whole (negsuc 2147483647) (pos 2147483647)) (Whole (pos 0)) ∷ []) (Some (entry_body (expr 58) (scope 2)))
          ∷ [];
      controlled_types = [];
      enumerations =
          enumeration_text ((codes "RED") ∷ (codes "GREEN") ∷ (codes "BLUE") ∷ [])
          ∷ [];
      policies = (policies [] queuing.Fifo None 30);
      environment = (scope 0);
      main = (main_procedure (codes "main") 15 (scope 1));
    }

abbrev pub row_values_functions_script : List (ℤ × Item)
row_values_functions_script = []

-- the lines of its run up to tick 243
unfoldable pub row_values_functions_lines : List (ℕ × Event)
row_values_functions_lines = run_of row_values_functions_program row_values_functions_script 243

unfoldable pub row_values_functions_trace : List (ℕ × Event)
row_values_functions_trace =
    (0, line.New (created.Task (task 0)) (codes "main") 15)
    ∷ (0, line.Ready (t 0) 15 Tail None)
    ∷ (0, line.Run (t 0))
    ∷ (3, line.New (created.Object (p 1)) (codes "main.p") 30)
    ∷ (10, line.Call (task 0) (call 1) (of_object 1 (codes "a")) 15)
    ∷ (10, line.Enter (t 0) (p 1) Write)
    ∷ (10, line.Start (t 0) (call 1))
    ∷ (10, line.Ready (t 0) 30 Head None)
    ∷ (18, line.Finish (t 0) (call 1) finished.Ok)
    ∷ (18, line.Exit (t 0) (p 1))
    ∷ (18, line.Ready (t 0) 15 Head None)
    ∷ (22, line.Put (t 0) (codes " 12"))
    ∷ (24, line.Enter (t 0) (p 1) Write)
    ∷ (24, line.Ready (t 0) 30 Head None)
    ∷ (27, line.Exit (t 0) (p 1))
    ∷ (27, line.Ready (t 0) 15 Head None)
    ∷ (30, line.Call (task 0) (call 2) (of_object 1 (codes "a")) 15)
    ∷ (30, line.Enter (t 0) (p 1) Write)
    ∷ (30, line.Start (t 0) (call 2))
    ∷ (30, line.Ready (t 0) 30 Head None)
    ∷ (37, line.Raise (t 0) (codes "main.x30"))
    ∷ (39, line.Finish (t 0) (call 2) (finished.Raised (codes "main.x30")))
    ∷ (39, line.Exit (t 0) (p 1))
    ∷ (39, line.Ready (t 0) 15 Head None)
    ∷ (44, line.Put (t 0) (codes "x30"))
    ∷ (64, line.Put (t 0) (codes " 3-7GREENTRUE"))
    ∷ (66, line.Enter (t 0) (p 1) Read)
    ∷ (66, line.Ready (t 0) 30 Head None)
    ∷ (69, line.Raise (t 0) (codes "constraint_error"))
    ∷ (70, line.Exit (t 0) (p 1))
    ∷ (70, line.Ready (t 0) 15 Head None)
    ∷ (216, line.Put (t 0) (codes " 5"))
    ∷ (221, line.Put (t 0) (codes "g"))
    ∷ (224, line.Enter (t 0) (p 1) Read)
    ∷ (224, line.Ready (t 0) 30 Head None)
    ∷ (227, line.Raise (t 0) (codes "constraint_error"))
    ∷ (228, line.Exit (t 0) (p 1))
    ∷ (228, line.Ready (t 0) 15 Head None)
    ∷ (232, line.Raise (t 0) (codes "constraint_error"))
    ∷ (237, line.Put (t 0) (codes "again"))
    ∷ (240, line.Raise (t 0) (codes "constraint_error"))
    ∷ (242, line.Done (task 0))
    ∷ (242, line.End (end.Exception (codes "constraint_error")))
    ∷ []

pub row_values_functions_runs : row_values_functions_lines ≡ row_values_functions_trace
unfolding row_values_functions_lines row_values_functions_trace digits computing
row_values_functions_runs = refl

-- whether every world of its run is well formed
unfoldable pub row_values_functions_worlds : Bool
row_values_functions_worlds = run_is_well_formed row_values_functions_program row_values_functions_script 243

pub row_values_functions_keeps : row_values_functions_worlds ≡ true
unfolding row_values_functions_worlds computing
row_values_functions_keeps = refl

-- whether each handler is released at its tick
unfoldable pub row_values_functions_handlers : Bool
row_values_functions_handlers = releases_ok row_values_functions_program row_values_functions_script 243

pub row_values_functions_releases : row_values_functions_handlers ≡ true
unfolding row_values_functions_handlers computing
row_values_functions_releases = refl
