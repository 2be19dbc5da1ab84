use Rattle.std.specs.Prelude.{◌≡◌, ℕ, ℤ, pos, negsuc, List, [], ◌∷◌, Some, None, true, false, codes, refl}
use Rattle.trace_text.specs.declared.events.Event.{Event}
use Rattle.trace_text.specs.declared.events.Event.TheVariants as line
use Rattle.trace_text.specs.declared.events.Created.TheVariants as created
use Rattle.trace_text.specs.declared.events.Ended.TheVariants as end
use Rattle.trace_text.specs.declared.events.Mode.TheVariants.{Read, Write}
use Rattle.trace_text.specs.declared.events.QueueEnd.TheVariants.{Head, Tail}
use Rattle.profile_image.specs.declared.script_items.Item.{Item}
use Rattle.profile_image.specs.declared.image.Image.{Image}
use Rattle.profile_image.specs.declared.image.Queuing.TheVariants as queuing
use Rattle.profile_image.specs.declared.values.Value.TheVariants.{Whole}
use Rattle.profile_image.specs.declared.values.Constraint.TheVariants.{Free, Whole}
use Rattle.profile_image.specs.declared.expressions.Expression.TheVariants.{Known, Variable, Binary}
use Rattle.profile_image.specs.declared.expressions.ObjectName.TheVariants.{Declared, OwnComponent}
use Rattle.profile_image.specs.declared.expressions.BinaryOperator.TheVariants as binary
use Rattle.profile_image.specs.declared.declarations.DeclarationKind.TheVariants as kind
use Rattle.profile_image.specs.declared.declarations.Initial.TheVariants as initial
use Rattle.profile_image.specs.declared.statements.StatementForm.TheVariants as form
use Rattle.profile_image.specs.declared.statements.Actual.TheVariants as actual
use Rattle.profile_image.specs.declared.statements.Callee.TheVariants as callee
use Rattle.profile_image.specs.declared.statements.Destination.TheVariants as destination
use Rattle.profile_machine.specs.Notation.{decl, expr, stmt, scope, subprogram, protected_unit, task, p, t, declaration, variable, statement, scope_text, formal, subprogram_text, protected_unit_text, policies, main_procedure}
use Rattle.profile_machine.specs.Run.{run_of}
use Rattle.profile_machine.specs.Computing.{computing}
use Rattle.std.specs.Fmt.{digits}
use Rattle.std.specs.Prelude.{Bool}
use Rattle.profile_machine.specs.WellFormed.{run_is_well_formed}
use Rattle.profile_machine.specs.Releases.{releases_ok}

-- Row protected.internal: its run stops before tick 39, so every greater bound gives the same trace.
abbrev pub row_protected_internal_program : Image
row_protected_internal_program =
    record {
      declarations =
          declaration (codes "o") (codes "main.o") (kind.Protected (protected_unit 0)) (scope 1) 0 17 Free None
          ∷ declaration (codes "n") (codes "main.o.n") (kind.Object (initial.Scalar (expr 12))) (scope 0) 0 1 (Whole (negsuc 2147483647) (pos 2147483647)) None
          ∷ declaration (codes "x") (codes "main.o.x") kind.Parameter (scope 2) 0 1 (Whole (negsuc 2147483647) (pos 2147483647)) None
          ∷ declaration (codes "x") (codes "main.o.x") kind.Parameter (scope 3) 0 1 (Whole (negsuc 2147483647) (pos 2147483647)) None
          ∷ declaration (codes "a") (codes "main.a") (kind.Object (initial.Scalar (expr 13))) (scope 1) 17 1 (Whole (negsuc 2147483647) (pos 2147483647)) None
          ∷ [];
      expressions =
          Known (Whole (pos 9))
          ∷ Variable (variable (Declared (decl 2)) None)
          ∷ Known (Whole (pos 3))
          ∷ Binary binary.Less (expr 1) (expr 2)
          ∷ Variable (variable (Declared (decl 2)) None)
          ∷ Known (Whole (pos 1))
          ∷ Binary binary.Plus (expr 4) (expr 5)
          ∷ Variable (variable (Declared (decl 3)) None)
          ∷ Variable (variable (OwnComponent (protected_unit 0) (decl 1)) None)
          ∷ Variable (variable (Declared (decl 4)) None)
          ∷ Known (Whole (pos 9))
          ∷ Binary binary.Equal (expr 9) (expr 10)
          ∷ Known (Whole (pos 4))
          ∷ Known (Whole (pos 1))
          ∷ [];
      statements =
          statement (form.CallMain) 0 None
          ∷ statement (form.Assign (variable (Declared (decl 2)) None) (expr 0)) 0 None
          ∷ statement (form.Return) 0 (Some (stmt 1))
          ∷ statement (form.If (expr 3) (stmt 2) (Some (stmt 1))) 1 (Some (stmt 1))
          ∷ statement (form.Assign (variable (Declared (decl 2)) None) (expr 6)) 1 (Some (stmt 3))
          ∷ statement (form.Call (callee.OwnOperation (subprogram 0)) (actual.InOut (variable (OwnComponent (protected_unit 0) (decl 1)) None) ∷ []) destination.Nowhere) 0 None
          ∷ statement (form.Assign (variable (OwnComponent (protected_unit 0) (decl 1)) None) (expr 7)) 0 (Some (stmt 5))
          ∷ statement (form.Call (callee.OwnOperation (subprogram 0)) (actual.InOut (variable (Declared (decl 3)) None) ∷ []) destination.Nowhere) 0 (Some (stmt 6))
          ∷ statement (form.ReturnValue (subprogram 3) (expr 8)) 0 None
          ∷ statement (form.Call (callee.OwnOperation (subprogram 3)) [] (destination.Return (subprogram 2))) 0 None
          ∷ statement (form.Null) 0 None
          ∷ statement (form.If (expr 11) (stmt 10) None) 1 None
          ∷ statement (form.Call (callee.Operation (decl 0) (subprogram 2)) [] (destination.Variable (variable (Declared (decl 4)) None))) 0 (Some (stmt 11))
          ∷ statement (form.Call (callee.Operation (decl 0) (subprogram 1)) (actual.InOut (variable (Declared (decl 4)) None) ∷ []) destination.Nowhere) 0 (Some (stmt 12))
          ∷ statement (form.Declare (decl 4)) 0 (Some (stmt 13))
          ∷ statement (form.Declare (decl 0)) 0 (Some (stmt 14))
          ∷ [];
      scopes =
          scope_text None 0 [] false (Some (stmt 0))
          ∷ scope_text (Some (scope 0)) 18 [] false (Some (stmt 15))
          ∷ scope_text (Some (scope 1)) 1 [] false (Some (stmt 4))
          ∷ scope_text (Some (scope 1)) 1 [] false (Some (stmt 7))
          ∷ scope_text (Some (scope 1)) 1 [] false (Some (stmt 8))
          ∷ scope_text (Some (scope 1)) 1 [] false (Some (stmt 9))
          ∷ [];
      subprograms =
          subprogram_text (codes "p") (scope 2) (formal (Whole (negsuc 2147483647) (pos 2147483647)) (Whole (pos 0)) ∷ []) None (Some (protected_unit 0))
          ∷ subprogram_text (codes "q") (scope 3) (formal (Whole (negsuc 2147483647) (pos 2147483647)) (Whole (pos 0)) ∷ []) None (Some (protected_unit 0))
          ∷ subprogram_text (codes "f") (scope 5) [] (Some (Whole (negsuc 2147483647) (pos 2147483647))) (Some (protected_unit 0))
          ∷ subprogram_text (codes "g") (scope 4) [] (Some (Whole (negsuc 2147483647) (pos 2147483647))) (Some (protected_unit 0))
          ∷ [];
      task_units = [];
      protected_units =
          protected_unit_text 30 [] ((decl 1) ∷ []) []
          ∷ [];
      entries = [];
      controlled_types = [];
      enumerations = [];
      policies = (policies [] queuing.Fifo None 30);
      environment = (scope 0);
      main = (main_procedure (codes "main") 15 (scope 1));
    }

abbrev pub row_protected_internal_script : List (ℤ × Item)
row_protected_internal_script = []

-- the lines of its run up to tick 39
unfoldable pub row_protected_internal_lines : List (ℕ × Event)
row_protected_internal_lines = run_of row_protected_internal_program row_protected_internal_script 39

unfoldable pub row_protected_internal_trace : List (ℕ × Event)
row_protected_internal_trace =
    (0, line.New (created.Task (task 0)) (codes "main") 15)
    ∷ (0, line.Ready (t 0) 15 Tail None)
    ∷ (0, line.Run (t 0))
    ∷ (3, line.New (created.Object (p 1)) (codes "main.o") 30)
    ∷ (6, line.Enter (t 0) (p 1) Write)
    ∷ (6, line.Ready (t 0) 30 Head None)
    ∷ (25, line.Exit (t 0) (p 1))
    ∷ (25, line.Ready (t 0) 15 Head None)
    ∷ (27, line.Enter (t 0) (p 1) Read)
    ∷ (27, line.Ready (t 0) 30 Head None)
    ∷ (33, line.Exit (t 0) (p 1))
    ∷ (33, line.Ready (t 0) 15 Head None)
    ∷ (38, line.Done (task 0))
    ∷ (38, line.End end.Completed)
    ∷ []

pub row_protected_internal_runs : row_protected_internal_lines ≡ row_protected_internal_trace
unfolding row_protected_internal_lines row_protected_internal_trace digits computing
row_protected_internal_runs = refl

-- whether every world of its run is well formed
unfoldable pub row_protected_internal_worlds : Bool
row_protected_internal_worlds = run_is_well_formed row_protected_internal_program row_protected_internal_script 39

pub row_protected_internal_keeps : row_protected_internal_worlds ≡ true
unfolding row_protected_internal_worlds computing
row_protected_internal_keeps = refl

-- whether each handler is released at its tick
unfoldable pub row_protected_internal_handlers : Bool
row_protected_internal_handlers = releases_ok row_protected_internal_program row_protected_internal_script 39

pub row_protected_internal_releases : row_protected_internal_handlers ≡ true
unfolding row_protected_internal_handlers computing
row_protected_internal_releases = refl
