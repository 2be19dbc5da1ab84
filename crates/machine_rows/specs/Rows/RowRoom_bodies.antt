use Rattle.std.specs.Prelude.{◌≡◌, ℕ, ℤ, pos, negsuc, List, [], ◌∷◌, Some, None, true, false, codes, refl}
use Rattle.ann_base.specs.declared.exceptions.Raised.TheVariants as exception
use Rattle.trace_text.specs.declared.events.Event.{Event}
use Rattle.trace_text.specs.declared.events.Event.TheVariants as line
use Rattle.trace_text.specs.declared.events.Created.TheVariants as created
use Rattle.trace_text.specs.declared.events.Ended.TheVariants as end
use Rattle.trace_text.specs.declared.events.Finished.TheVariants as finished
use Rattle.trace_text.specs.declared.events.Leaves.TheVariants as leaves
use Rattle.trace_text.specs.declared.events.Mode.TheVariants.{Write}
use Rattle.trace_text.specs.declared.events.QueueEnd.TheVariants.{Head, Tail}
use Rattle.trace_text.specs.declared.events.Waits.TheVariants as waits
use Rattle.profile_image.specs.declared.script_items.Item.{Item}
use Rattle.profile_image.specs.declared.image.Image.{Image}
use Rattle.profile_image.specs.declared.image.Queuing.TheVariants as queuing
use Rattle.profile_image.specs.declared.values.Value.TheVariants.{Whole, Truth}
use Rattle.profile_image.specs.declared.values.Constraint.TheVariants.{Free, Whole, Truth}
use Rattle.profile_image.specs.declared.expressions.Expression.TheVariants.{Known, Variable}
use Rattle.profile_image.specs.declared.expressions.ObjectName.TheVariants.{OwnComponent}
use Rattle.profile_image.specs.declared.declarations.DeclarationKind.TheVariants as kind
use Rattle.profile_image.specs.declared.declarations.Initial.TheVariants as initial
use Rattle.profile_image.specs.declared.declarations.EntryUnit.TheVariants as unit
use Rattle.profile_image.specs.declared.declarations.ExceptionChoice.TheVariants as exception_choice
use Rattle.profile_image.specs.declared.statements.StatementForm.TheVariants as form
use Rattle.profile_image.specs.declared.statements.Callee.TheVariants as callee
use Rattle.profile_image.specs.declared.statements.Destination.TheVariants as destination
use Rattle.profile_image.specs.declared.statements.EntryOwner.TheVariants as owner
use Rattle.profile_machine.specs.Notation.{decl, expr, stmt, scope, subprogram, task_unit, protected_unit, entry, task, call, p, region, t, of_object, declaration, variable, statement, handler, cell_run, scope_text, subprogram_text, task_unit_text, protected_unit_text, entry_body, entry_text, policies, main_procedure}
use Rattle.profile_machine.specs.Run.{run_of}
use Rattle.profile_machine.specs.Computing.{computing}
use Rattle.std.specs.Fmt.{digits}
use Rattle.std.specs.Prelude.{Bool}
use Rattle.profile_machine.specs.WellFormed.{run_is_well_formed}
use Rattle.profile_machine.specs.Releases.{releases_ok}

-- Row room.bodies: its run stops before tick 32, so every greater bound gives the same trace.
abbrev pub row_room_bodies_program : Image
row_room_bodies_program =
    record {
      declarations =
          declaration (codes "o") (codes "main.o") (kind.Protected (protected_unit 0)) (scope 1) 0 17 Free None
          ∷ declaration (codes "b") (codes "main.o.b") (kind.Object (initial.Scalar (expr 2))) (scope 0) 0 1 (Truth false true) None
          ∷ declaration (codes "t") (codes "main.t") (kind.Task (task_unit 0)) (scope 1) 17 1 Free None
          ∷ declaration (codes "a") (codes "main.o.e.a") (kind.Object initial.Default) (scope 2) 0 4096 (Whole (negsuc 2147483647) (pos 2147483647)) (Some (Whole (pos 1) (pos 4096)))
          ∷ declaration (codes "b") (codes "main.o.e.b") (kind.Object initial.Default) (scope 2) 4096 4096 (Whole (negsuc 2147483647) (pos 2147483647)) (Some (Whole (pos 1) (pos 4096)))
          ∷ declaration (codes "c") (codes "main.o.e.c") (kind.Object initial.Default) (scope 2) 8192 4096 (Whole (negsuc 2147483647) (pos 2147483647)) (Some (Whole (pos 1) (pos 4096)))
          ∷ declaration (codes "d") (codes "main.o.e.d") (kind.Object initial.Default) (scope 2) 12288 4096 (Whole (negsuc 2147483647) (pos 2147483647)) (Some (Whole (pos 1) (pos 4096)))
          ∷ declaration (codes "e") (codes "main.o.e.e") (kind.Object initial.Default) (scope 2) 16384 4096 (Whole (negsuc 2147483647) (pos 2147483647)) (Some (Whole (pos 1) (pos 4096)))
          ∷ declaration (codes "f") (codes "main.o.e.f") (kind.Object initial.Default) (scope 2) 20480 4096 (Whole (negsuc 2147483647) (pos 2147483647)) (Some (Whole (pos 1) (pos 4096)))
          ∷ declaration (codes "g") (codes "main.o.e.g") (kind.Object initial.Default) (scope 2) 24576 4096 (Whole (negsuc 2147483647) (pos 2147483647)) (Some (Whole (pos 1) (pos 4096)))
          ∷ declaration (codes "h") (codes "main.o.e.h") (kind.Object initial.Default) (scope 2) 28672 4096 (Whole (negsuc 2147483647) (pos 2147483647)) (Some (Whole (pos 1) (pos 4096)))
          ∷ declaration (codes "i") (codes "main.o.e.i") (kind.Object initial.Default) (scope 2) 32768 4096 (Whole (negsuc 2147483647) (pos 2147483647)) (Some (Whole (pos 1) (pos 4096)))
          ∷ declaration (codes "j") (codes "main.o.e.j") (kind.Object initial.Default) (scope 2) 36864 4096 (Whole (negsuc 2147483647) (pos 2147483647)) (Some (Whole (pos 1) (pos 4096)))
          ∷ declaration (codes "k") (codes "main.o.e.k") (kind.Object initial.Default) (scope 2) 40960 4096 (Whole (negsuc 2147483647) (pos 2147483647)) (Some (Whole (pos 1) (pos 4096)))
          ∷ declaration (codes "l") (codes "main.o.e.l") (kind.Object initial.Default) (scope 2) 45056 4096 (Whole (negsuc 2147483647) (pos 2147483647)) (Some (Whole (pos 1) (pos 4096)))
          ∷ declaration (codes "m") (codes "main.o.e.m") (kind.Object initial.Default) (scope 2) 49152 4096 (Whole (negsuc 2147483647) (pos 2147483647)) (Some (Whole (pos 1) (pos 4096)))
          ∷ declaration (codes "n") (codes "main.o.e.n") (kind.Object initial.Default) (scope 2) 53248 4096 (Whole (negsuc 2147483647) (pos 2147483647)) (Some (Whole (pos 1) (pos 4096)))
          ∷ declaration (codes "o") (codes "main.o.e.o") (kind.Object initial.Default) (scope 2) 57344 4096 (Whole (negsuc 2147483647) (pos 2147483647)) (Some (Whole (pos 1) (pos 4096)))
          ∷ declaration (codes "p") (codes "main.o.e.p") (kind.Object initial.Default) (scope 2) 61440 4096 (Whole (negsuc 2147483647) (pos 2147483647)) (Some (Whole (pos 1) (pos 4096)))
          ∷ declaration (codes "a") (codes "main.s.a") (kind.Object initial.Default) (scope 5) 0 4096 (Whole (negsuc 2147483647) (pos 2147483647)) (Some (Whole (pos 1) (pos 4096)))
          ∷ declaration (codes "b") (codes "main.s.b") (kind.Object initial.Default) (scope 5) 4096 4096 (Whole (negsuc 2147483647) (pos 2147483647)) (Some (Whole (pos 1) (pos 4096)))
          ∷ declaration (codes "c") (codes "main.s.c") (kind.Object initial.Default) (scope 5) 8192 4096 (Whole (negsuc 2147483647) (pos 2147483647)) (Some (Whole (pos 1) (pos 4096)))
          ∷ declaration (codes "d") (codes "main.s.d") (kind.Object initial.Default) (scope 5) 12288 4096 (Whole (negsuc 2147483647) (pos 2147483647)) (Some (Whole (pos 1) (pos 4096)))
          ∷ declaration (codes "e") (codes "main.s.e") (kind.Object initial.Default) (scope 5) 16384 4096 (Whole (negsuc 2147483647) (pos 2147483647)) (Some (Whole (pos 1) (pos 4096)))
          ∷ declaration (codes "f") (codes "main.s.f") (kind.Object initial.Default) (scope 5) 20480 4096 (Whole (negsuc 2147483647) (pos 2147483647)) (Some (Whole (pos 1) (pos 4096)))
          ∷ declaration (codes "g") (codes "main.s.g") (kind.Object initial.Default) (scope 5) 24576 4096 (Whole (negsuc 2147483647) (pos 2147483647)) (Some (Whole (pos 1) (pos 4096)))
          ∷ declaration (codes "h") (codes "main.s.h") (kind.Object initial.Default) (scope 5) 28672 4096 (Whole (negsuc 2147483647) (pos 2147483647)) (Some (Whole (pos 1) (pos 4096)))
          ∷ declaration (codes "i") (codes "main.s.i") (kind.Object initial.Default) (scope 5) 32768 4096 (Whole (negsuc 2147483647) (pos 2147483647)) (Some (Whole (pos 1) (pos 4096)))
          ∷ declaration (codes "j") (codes "main.s.j") (kind.Object initial.Default) (scope 5) 36864 4096 (Whole (negsuc 2147483647) (pos 2147483647)) (Some (Whole (pos 1) (pos 4096)))
          ∷ declaration (codes "k") (codes "main.s.k") (kind.Object initial.Default) (scope 5) 40960 4096 (Whole (negsuc 2147483647) (pos 2147483647)) (Some (Whole (pos 1) (pos 4096)))
          ∷ declaration (codes "l") (codes "main.s.l") (kind.Object initial.Default) (scope 5) 45056 4096 (Whole (negsuc 2147483647) (pos 2147483647)) (Some (Whole (pos 1) (pos 4096)))
          ∷ declaration (codes "m") (codes "main.s.m") (kind.Object initial.Default) (scope 5) 49152 4096 (Whole (negsuc 2147483647) (pos 2147483647)) (Some (Whole (pos 1) (pos 4096)))
          ∷ declaration (codes "n") (codes "main.s.n") (kind.Object initial.Default) (scope 5) 53248 4096 (Whole (negsuc 2147483647) (pos 2147483647)) (Some (Whole (pos 1) (pos 4096)))
          ∷ declaration (codes "o") (codes "main.s.o") (kind.Object initial.Default) (scope 5) 57344 4096 (Whole (negsuc 2147483647) (pos 2147483647)) (Some (Whole (pos 1) (pos 4096)))
          ∷ declaration (codes "p") (codes "main.s.p") (kind.Object initial.Default) (scope 5) 61440 4096 (Whole (negsuc 2147483647) (pos 2147483647)) (Some (Whole (pos 1) (pos 4096)))
          ∷ [];
      expressions =
          Known (Truth true)
          ∷ Variable (variable (OwnComponent (protected_unit 0) (decl 1)) None)
          ∷ Known (Truth false)
          ∷ [];
      statements =
          statement (form.CallMain) 0 None
          ∷ statement (form.Null) 0 None
          ∷ statement (form.Declare (decl 18)) 0 (Some (stmt 1))
          ∷ statement (form.Declare (decl 17)) 0 (Some (stmt 2))
          ∷ statement (form.Declare (decl 16)) 0 (Some (stmt 3))
          ∷ statement (form.Declare (decl 15)) 0 (Some (stmt 4))
          ∷ statement (form.Declare (decl 14)) 0 (Some (stmt 5))
          ∷ statement (form.Declare (decl 13)) 0 (Some (stmt 6))
          ∷ statement (form.Declare (decl 12)) 0 (Some (stmt 7))
          ∷ statement (form.Declare (decl 11)) 0 (Some (stmt 8))
          ∷ statement (form.Declare (decl 10)) 0 (Some (stmt 9))
          ∷ statement (form.Declare (decl 9)) 0 (Some (stmt 10))
          ∷ statement (form.Declare (decl 8)) 0 (Some (stmt 11))
          ∷ statement (form.Declare (decl 7)) 0 (Some (stmt 12))
          ∷ statement (form.Declare (decl 6)) 0 (Some (stmt 13))
          ∷ statement (form.Declare (decl 5)) 0 (Some (stmt 14))
          ∷ statement (form.Declare (decl 4)) 0 (Some (stmt 15))
          ∷ statement (form.Declare (decl 3)) 0 (Some (stmt 16))
          ∷ statement (form.Assign (variable (OwnComponent (protected_unit 0) (decl 1)) None) (expr 0)) 0 None
          ∷ statement (form.Handled (handler (exception_choice.Named exception.Storage ∷ []) (stmt 21) ∷ []) (stmt 20)) 0 None
          ∷ statement (form.EntryCall (entry 0) (owner.Object (decl 0)) []) 0 None
          ∷ statement (form.Null) 0 None
          ∷ statement (form.EndActivation) 0 (Some (stmt 19))
          ∷ statement (form.Null) 0 None
          ∷ statement (form.Declare (decl 34)) 0 (Some (stmt 23))
          ∷ statement (form.Declare (decl 33)) 0 (Some (stmt 24))
          ∷ statement (form.Declare (decl 32)) 0 (Some (stmt 25))
          ∷ statement (form.Declare (decl 31)) 0 (Some (stmt 26))
          ∷ statement (form.Declare (decl 30)) 0 (Some (stmt 27))
          ∷ statement (form.Declare (decl 29)) 0 (Some (stmt 28))
          ∷ statement (form.Declare (decl 28)) 0 (Some (stmt 29))
          ∷ statement (form.Declare (decl 27)) 0 (Some (stmt 30))
          ∷ statement (form.Declare (decl 26)) 0 (Some (stmt 31))
          ∷ statement (form.Declare (decl 25)) 0 (Some (stmt 32))
          ∷ statement (form.Declare (decl 24)) 0 (Some (stmt 33))
          ∷ statement (form.Declare (decl 23)) 0 (Some (stmt 34))
          ∷ statement (form.Declare (decl 22)) 0 (Some (stmt 35))
          ∷ statement (form.Declare (decl 21)) 0 (Some (stmt 36))
          ∷ statement (form.Declare (decl 20)) 0 (Some (stmt 37))
          ∷ statement (form.Declare (decl 19)) 0 (Some (stmt 38))
          ∷ statement (form.Handled (handler (exception_choice.Named exception.Storage ∷ []) (stmt 48) ∷ []) (stmt 47)) 0 None
          ∷ statement (form.EntryCall (entry 0) (owner.Object (decl 0)) []) 0 None
          ∷ statement (form.Call (callee.Operation (decl 0) (subprogram 0)) [] destination.Nowhere) 0 (Some (stmt 41))
          ∷ statement (form.Block (scope 6)) 0 (Some (stmt 42))
          ∷ statement (form.Handled (handler (exception_choice.Named exception.Storage ∷ []) (stmt 46) ∷ []) (stmt 45)) 0 None
          ∷ statement (form.Call (callee.Subprogram (subprogram 1)) [] destination.Nowhere) 0 None
          ∷ statement (form.Null) 0 None
          ∷ statement (form.Activate 0) 0 (Some (stmt 43))
          ∷ statement (form.Null) 0 None
          ∷ statement (form.CreateTask (decl 2) 0) 0 (Some (stmt 40))
          ∷ statement (form.Declare (decl 0)) 0 (Some (stmt 49))
          ∷ [];
      scopes =
          scope_text None 0 [] false (Some (stmt 0))
          ∷ scope_text (Some (scope 0)) 18 (cell_run 16 1 (Truth false) ∷ []) true (Some (stmt 50))
          ∷ scope_text (Some (scope 1)) 65536 [] false (Some (stmt 17))
          ∷ scope_text (Some (scope 1)) 0 [] false (Some (stmt 18))
          ∷ scope_text (Some (scope 1)) 0 [] false (Some (stmt 22))
          ∷ scope_text (Some (scope 1)) 65536 [] false (Some (stmt 39))
          ∷ scope_text (Some (scope 1)) 0 [] false (Some (stmt 44))
          ∷ [];
      subprograms =
          subprogram_text (codes "open") (scope 3) [] None (Some (protected_unit 0))
          ∷ subprogram_text (codes "s") (scope 5) [] None None
          ∷ [];
      task_units =
          task_unit_text (scope 4) (Some 20) None []
          ∷ [];
      protected_units =
          protected_unit_text 30 ((entry 0) ∷ []) ((decl 1) ∷ []) []
          ∷ [];
      entries =
          entry_text (codes "e") (unit.Protected (protected_unit 0)) 0 [] (Some (entry_body (expr 1) (scope 2)))
          ∷ [];
      controlled_types = [];
      enumerations = [];
      policies = (policies [] queuing.Fifo None 30);
      environment = (scope 0);
      main = (main_procedure (codes "main") 15 (scope 1));
    }

abbrev pub row_room_bodies_script : List (ℤ × Item)
row_room_bodies_script = []

-- the lines of its run up to tick 32
unfoldable pub row_room_bodies_lines : List (ℕ × Event)
row_room_bodies_lines = run_of row_room_bodies_program row_room_bodies_script 32

unfoldable pub row_room_bodies_trace : List (ℕ × Event)
row_room_bodies_trace =
    (0, line.New (created.Task (task 0)) (codes "main") 15)
    ∷ (0, line.Ready (t 0) 15 Tail None)
    ∷ (0, line.Run (t 0))
    ∷ (3, line.New (created.Object (p 1)) (codes "main.o") 30)
    ∷ (5, line.New (created.Task (task 1)) (codes "main.t") 20)
    ∷ (7, line.Ready (t 1) 20 Tail None)
    ∷ (7, line.Block (t 0) waits.Activation)
    ∷ (7, line.Run (t 1))
    ∷ (8, line.Ready (t 0) 15 Tail None)
    ∷ (10, line.Call (task 1) (call 1) (of_object 1 (codes "e")) 20)
    ∷ (10, line.Enter (t 1) (p 1) Write)
    ∷ (10, line.Exit (t 1) (p 1))
    ∷ (10, line.Block (t 1) waits.Entry)
    ∷ (10, line.Run (t 0))
    ∷ (13, line.Raise (t 0) (codes "storage_error"))
    ∷ (18, line.Enter (t 0) (p 1) Write)
    ∷ (18, line.Ready (t 0) 30 Head None)
    ∷ (21, line.Start (t 0) (call 1))
    ∷ (21, line.Finish (t 0) (call 1) (finished.Raised (codes "storage_error")))
    ∷ (21, line.Ready (t 1) 20 Tail None)
    ∷ (21, line.Raise (t 1) (codes "storage_error"))
    ∷ (21, line.Exit (t 0) (p 1))
    ∷ (21, line.Ready (t 0) 15 Head None)
    ∷ (21, line.Run (t 1))
    ∷ (24, line.Done (task 1))
    ∷ (24, line.Run (t 0))
    ∷ (26, line.Call (task 0) (call 2) (of_object 1 (codes "e")) 15)
    ∷ (26, line.Enter (t 0) (p 1) Write)
    ∷ (26, line.Start (t 0) (call 2))
    ∷ (26, line.Finish (t 0) (call 2) (finished.Raised (codes "storage_error")))
    ∷ (26, line.Exit (t 0) (p 1))
    ∷ (26, line.Raise (t 0) (codes "storage_error"))
    ∷ (29, line.Leave (t 0) (region 1) leaves.End)
    ∷ (30, line.Left (t 0) (region 1))
    ∷ (31, line.Done (task 0))
    ∷ (31, line.End end.Completed)
    ∷ []

pub row_room_bodies_runs : row_room_bodies_lines ≡ row_room_bodies_trace
unfolding row_room_bodies_lines row_room_bodies_trace digits computing
row_room_bodies_runs = refl

-- whether every world of its run is well formed
unfoldable pub row_room_bodies_worlds : Bool
row_room_bodies_worlds = run_is_well_formed row_room_bodies_program row_room_bodies_script 32

pub row_room_bodies_keeps : row_room_bodies_worlds ≡ true
unfolding row_room_bodies_worlds computing
row_room_bodies_keeps = refl

-- whether each handler is released at its tick
unfoldable pub row_room_bodies_handlers : Bool
row_room_bodies_handlers = releases_ok row_room_bodies_program row_room_bodies_script 32

pub row_room_bodies_releases : row_room_bodies_handlers ≡ true
unfolding row_room_bodies_handlers computing
row_room_bodies_releases = refl
