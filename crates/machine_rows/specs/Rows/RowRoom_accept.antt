use Rattle.std.specs.Prelude.{◌≡◌, ℕ, ℤ, pos, negsuc, List, [], ◌∷◌, Some, None, true, false, codes, refl}
use Rattle.ann_base.specs.declared.exceptions.Raised.TheVariants as exception
use Rattle.trace_text.specs.declared.events.Event.{Event}
use Rattle.trace_text.specs.declared.events.Event.TheVariants as line
use Rattle.trace_text.specs.declared.events.Created.TheVariants as created
use Rattle.trace_text.specs.declared.events.Ended.TheVariants as end
use Rattle.trace_text.specs.declared.events.Finished.TheVariants as finished
use Rattle.trace_text.specs.declared.events.Leaves.TheVariants as leaves
use Rattle.trace_text.specs.declared.events.QueueEnd.TheVariants.{Tail}
use Rattle.trace_text.specs.declared.events.Waits.TheVariants as waits
use Rattle.profile_image.specs.declared.script_items.Item.{Item}
use Rattle.profile_image.specs.declared.image.Image.{Image}
use Rattle.profile_image.specs.declared.image.Queuing.TheVariants as queuing
use Rattle.profile_image.specs.declared.values.Value.TheVariants.{Whole}
use Rattle.profile_image.specs.declared.values.Constraint.TheVariants.{Free, Whole}
use Rattle.profile_image.specs.declared.expressions.Expression.TheVariants.{Known}
use Rattle.profile_image.specs.declared.declarations.DeclarationKind.TheVariants as kind
use Rattle.profile_image.specs.declared.declarations.Initial.TheVariants as initial
use Rattle.profile_image.specs.declared.declarations.EntryUnit.TheVariants as unit
use Rattle.profile_image.specs.declared.declarations.ExceptionChoice.TheVariants as exception_choice
use Rattle.profile_image.specs.declared.statements.StatementForm.TheVariants as form
use Rattle.profile_image.specs.declared.statements.Actual.TheVariants as actual
use Rattle.profile_image.specs.declared.statements.Callee.TheVariants as callee
use Rattle.profile_image.specs.declared.statements.Destination.TheVariants as destination
use Rattle.profile_image.specs.declared.statements.EntryOwner.TheVariants as owner
use Rattle.profile_machine.specs.Notation.{decl, expr, stmt, scope, subprogram, task_unit, entry, task, call, region, t, of_task, declaration, statement, handler, scope_text, formal, subprogram_text, task_unit_text, entry_text, policies, main_procedure}
use Rattle.profile_machine.specs.Run.{run_of}
use Rattle.profile_machine.specs.Computing.{computing}
use Rattle.std.specs.Fmt.{digits}
use Rattle.std.specs.Prelude.{Bool}
use Rattle.profile_machine.specs.WellFormed.{run_is_well_formed}
use Rattle.profile_machine.specs.Releases.{releases_ok}

-- Row room.accept: its run stops before tick 37, so every greater bound gives the same trace.
abbrev pub row_room_accept_program : Image
row_room_accept_program =
    record {
      declarations =
          declaration (codes "t") (codes "main.t") (kind.Task (task_unit 0)) (scope 1) 0 1 Free None
          ∷ declaration (codes "k") (codes "main.t.k") kind.Parameter (scope 4) 0 1 (Whole (negsuc 2147483647) (pos 2147483647)) None
          ∷ declaration (codes "k") (codes "main.t.k") kind.Parameter (scope 5) 0 1 (Whole (negsuc 2147483647) (pos 2147483647)) None
          ∷ declaration (codes "n") (codes "main.n") (kind.Object initial.Default) (scope 7) 0 1 (Whole (negsuc 2147483647) (pos 2147483647)) None
          ∷ declaration (codes "a") (codes "main.a") (kind.Object initial.Default) (scope 7) 1 4096 (Whole (negsuc 2147483647) (pos 2147483647)) (Some (Whole (pos 1) (pos 4096)))
          ∷ declaration (codes "b") (codes "main.b") (kind.Object initial.Default) (scope 7) 4097 4096 (Whole (negsuc 2147483647) (pos 2147483647)) (Some (Whole (pos 1) (pos 4096)))
          ∷ declaration (codes "c") (codes "main.c") (kind.Object initial.Default) (scope 7) 8193 4096 (Whole (negsuc 2147483647) (pos 2147483647)) (Some (Whole (pos 1) (pos 4096)))
          ∷ declaration (codes "d") (codes "main.d") (kind.Object initial.Default) (scope 7) 12289 4096 (Whole (negsuc 2147483647) (pos 2147483647)) (Some (Whole (pos 1) (pos 4096)))
          ∷ declaration (codes "e") (codes "main.e") (kind.Object initial.Default) (scope 7) 16385 4096 (Whole (negsuc 2147483647) (pos 2147483647)) (Some (Whole (pos 1) (pos 4096)))
          ∷ declaration (codes "f") (codes "main.f") (kind.Object initial.Default) (scope 7) 20481 4096 (Whole (negsuc 2147483647) (pos 2147483647)) (Some (Whole (pos 1) (pos 4096)))
          ∷ declaration (codes "g") (codes "main.g") (kind.Object initial.Default) (scope 7) 24577 4096 (Whole (negsuc 2147483647) (pos 2147483647)) (Some (Whole (pos 1) (pos 4096)))
          ∷ declaration (codes "h") (codes "main.h") (kind.Object initial.Default) (scope 7) 28673 4096 (Whole (negsuc 2147483647) (pos 2147483647)) (Some (Whole (pos 1) (pos 4096)))
          ∷ declaration (codes "i") (codes "main.i") (kind.Object initial.Default) (scope 7) 32769 4096 (Whole (negsuc 2147483647) (pos 2147483647)) (Some (Whole (pos 1) (pos 4096)))
          ∷ declaration (codes "j") (codes "main.j") (kind.Object initial.Default) (scope 7) 36865 4096 (Whole (negsuc 2147483647) (pos 2147483647)) (Some (Whole (pos 1) (pos 4096)))
          ∷ declaration (codes "k") (codes "main.k") (kind.Object initial.Default) (scope 7) 40961 4096 (Whole (negsuc 2147483647) (pos 2147483647)) (Some (Whole (pos 1) (pos 4096)))
          ∷ declaration (codes "l") (codes "main.l") (kind.Object initial.Default) (scope 7) 45057 4096 (Whole (negsuc 2147483647) (pos 2147483647)) (Some (Whole (pos 1) (pos 4096)))
          ∷ declaration (codes "m") (codes "main.m") (kind.Object initial.Default) (scope 7) 49153 4096 (Whole (negsuc 2147483647) (pos 2147483647)) (Some (Whole (pos 1) (pos 4096)))
          ∷ declaration (codes "o") (codes "main.o") (kind.Object initial.Default) (scope 7) 53249 4096 (Whole (negsuc 2147483647) (pos 2147483647)) (Some (Whole (pos 1) (pos 4096)))
          ∷ declaration (codes "p") (codes "main.p") (kind.Object initial.Default) (scope 7) 57345 4096 (Whole (negsuc 2147483647) (pos 2147483647)) (Some (Whole (pos 1) (pos 4096)))
          ∷ declaration (codes "r") (codes "main.r") (kind.Object initial.Default) (scope 7) 61441 4093 (Whole (negsuc 2147483647) (pos 2147483647)) (Some (Whole (pos 1) (pos 4093)))
          ∷ declaration (codes "n") (codes "main.n") (kind.Object initial.Default) (scope 8) 0 1 (Whole (negsuc 2147483647) (pos 2147483647)) None
          ∷ declaration (codes "a") (codes "main.a") (kind.Object initial.Default) (scope 8) 1 4096 (Whole (negsuc 2147483647) (pos 2147483647)) (Some (Whole (pos 1) (pos 4096)))
          ∷ declaration (codes "b") (codes "main.b") (kind.Object initial.Default) (scope 8) 4097 4096 (Whole (negsuc 2147483647) (pos 2147483647)) (Some (Whole (pos 1) (pos 4096)))
          ∷ declaration (codes "c") (codes "main.c") (kind.Object initial.Default) (scope 8) 8193 4096 (Whole (negsuc 2147483647) (pos 2147483647)) (Some (Whole (pos 1) (pos 4096)))
          ∷ declaration (codes "d") (codes "main.d") (kind.Object initial.Default) (scope 8) 12289 4096 (Whole (negsuc 2147483647) (pos 2147483647)) (Some (Whole (pos 1) (pos 4096)))
          ∷ declaration (codes "e") (codes "main.e") (kind.Object initial.Default) (scope 8) 16385 4096 (Whole (negsuc 2147483647) (pos 2147483647)) (Some (Whole (pos 1) (pos 4096)))
          ∷ declaration (codes "f") (codes "main.f") (kind.Object initial.Default) (scope 8) 20481 4096 (Whole (negsuc 2147483647) (pos 2147483647)) (Some (Whole (pos 1) (pos 4096)))
          ∷ declaration (codes "g") (codes "main.g") (kind.Object initial.Default) (scope 8) 24577 4096 (Whole (negsuc 2147483647) (pos 2147483647)) (Some (Whole (pos 1) (pos 4096)))
          ∷ declaration (codes "h") (codes "main.h") (kind.Object initial.Default) (scope 8) 28673 4096 (Whole (negsuc 2147483647) (pos 2147483647)) (Some (Whole (pos 1) (pos 4096)))
          ∷ declaration (codes "i") (codes "main.i") (kind.Object initial.Default) (scope 8) 32769 4096 (Whole (negsuc 2147483647) (pos 2147483647)) (Some (Whole (pos 1) (pos 4096)))
          ∷ declaration (codes "j") (codes "main.j") (kind.Object initial.Default) (scope 8) 36865 4096 (Whole (negsuc 2147483647) (pos 2147483647)) (Some (Whole (pos 1) (pos 4096)))
          ∷ declaration (codes "k") (codes "main.k") (kind.Object initial.Default) (scope 8) 40961 4096 (Whole (negsuc 2147483647) (pos 2147483647)) (Some (Whole (pos 1) (pos 4096)))
          ∷ declaration (codes "l") (codes "main.l") (kind.Object initial.Default) (scope 8) 45057 4096 (Whole (negsuc 2147483647) (pos 2147483647)) (Some (Whole (pos 1) (pos 4096)))
          ∷ declaration (codes "m") (codes "main.m") (kind.Object initial.Default) (scope 8) 49153 4096 (Whole (negsuc 2147483647) (pos 2147483647)) (Some (Whole (pos 1) (pos 4096)))
          ∷ declaration (codes "o") (codes "main.o") (kind.Object initial.Default) (scope 8) 53249 4096 (Whole (negsuc 2147483647) (pos 2147483647)) (Some (Whole (pos 1) (pos 4096)))
          ∷ declaration (codes "p") (codes "main.p") (kind.Object initial.Default) (scope 8) 57345 4096 (Whole (negsuc 2147483647) (pos 2147483647)) (Some (Whole (pos 1) (pos 4096)))
          ∷ declaration (codes "r") (codes "main.r") (kind.Object initial.Default) (scope 8) 61441 4093 (Whole (negsuc 2147483647) (pos 2147483647)) (Some (Whole (pos 1) (pos 4093)))
          ∷ [];
      expressions =
          Known (Whole (pos 1))
          ∷ Known (Whole (pos 1))
          ∷ [];
      statements =
          statement (form.CallMain) 0 None
          ∷ statement (form.Handled (handler (exception_choice.Named exception.Storage ∷ []) (stmt 7) ∷ []) (stmt 3)) 0 None
          ∷ statement (form.Accept (entry 0) (scope 5)) 0 None
          ∷ statement (form.Block (scope 3)) 0 (Some (stmt 2))
          ∷ statement (form.Handled (handler (exception_choice.Named exception.Storage ∷ []) (stmt 6) ∷ []) (stmt 5)) 0 None
          ∷ statement (form.Accept (entry 0) (scope 4)) 0 None
          ∷ statement (form.Null) 0 None
          ∷ statement (form.Null) 0 None
          ∷ statement (form.EndActivation) 0 (Some (stmt 1))
          ∷ statement (form.ReturnValue (subprogram 0) (expr 0)) 0 None
          ∷ statement (form.EntryCall (entry 0) (owner.Object (decl 0)) (actual.In (expr 1) ∷ [])) 0 (Some (stmt 9))
          ∷ statement (form.Handled (handler (exception_choice.Named exception.Storage ∷ []) (stmt 32) ∷ []) (stmt 31)) 0 None
          ∷ statement (form.Block (scope 7)) 0 None
          ∷ statement (form.Null) 0 None
          ∷ statement (form.Declare (decl 19)) 0 (Some (stmt 13))
          ∷ statement (form.Declare (decl 18)) 0 (Some (stmt 14))
          ∷ statement (form.Declare (decl 17)) 0 (Some (stmt 15))
          ∷ statement (form.Declare (decl 16)) 0 (Some (stmt 16))
          ∷ statement (form.Declare (decl 15)) 0 (Some (stmt 17))
          ∷ statement (form.Declare (decl 14)) 0 (Some (stmt 18))
          ∷ statement (form.Declare (decl 13)) 0 (Some (stmt 19))
          ∷ statement (form.Declare (decl 12)) 0 (Some (stmt 20))
          ∷ statement (form.Declare (decl 11)) 0 (Some (stmt 21))
          ∷ statement (form.Declare (decl 10)) 0 (Some (stmt 22))
          ∷ statement (form.Declare (decl 9)) 0 (Some (stmt 23))
          ∷ statement (form.Declare (decl 8)) 0 (Some (stmt 24))
          ∷ statement (form.Declare (decl 7)) 0 (Some (stmt 25))
          ∷ statement (form.Declare (decl 6)) 0 (Some (stmt 26))
          ∷ statement (form.Declare (decl 5)) 0 (Some (stmt 27))
          ∷ statement (form.Declare (decl 4)) 0 (Some (stmt 28))
          ∷ statement (form.Call (callee.Subprogram (subprogram 0)) [] (destination.Declaration (decl 3))) 0 (Some (stmt 29))
          ∷ statement (form.Activate 0) 0 (Some (stmt 12))
          ∷ statement (form.Block (scope 8)) 0 None
          ∷ statement (form.Null) 0 None
          ∷ statement (form.Declare (decl 36)) 0 (Some (stmt 33))
          ∷ statement (form.Declare (decl 35)) 0 (Some (stmt 34))
          ∷ statement (form.Declare (decl 34)) 0 (Some (stmt 35))
          ∷ statement (form.Declare (decl 33)) 0 (Some (stmt 36))
          ∷ statement (form.Declare (decl 32)) 0 (Some (stmt 37))
          ∷ statement (form.Declare (decl 31)) 0 (Some (stmt 38))
          ∷ statement (form.Declare (decl 30)) 0 (Some (stmt 39))
          ∷ statement (form.Declare (decl 29)) 0 (Some (stmt 40))
          ∷ statement (form.Declare (decl 28)) 0 (Some (stmt 41))
          ∷ statement (form.Declare (decl 27)) 0 (Some (stmt 42))
          ∷ statement (form.Declare (decl 26)) 0 (Some (stmt 43))
          ∷ statement (form.Declare (decl 25)) 0 (Some (stmt 44))
          ∷ statement (form.Declare (decl 24)) 0 (Some (stmt 45))
          ∷ statement (form.Declare (decl 23)) 0 (Some (stmt 46))
          ∷ statement (form.Declare (decl 22)) 0 (Some (stmt 47))
          ∷ statement (form.Declare (decl 21)) 0 (Some (stmt 48))
          ∷ statement (form.Call (callee.Subprogram (subprogram 0)) [] (destination.Declaration (decl 20))) 0 (Some (stmt 49))
          ∷ statement (form.CreateTask (decl 0) 0) 0 (Some (stmt 11))
          ∷ [];
      scopes =
          scope_text None 0 [] false (Some (stmt 0))
          ∷ scope_text (Some (scope 0)) 1 [] true (Some (stmt 51))
          ∷ scope_text (Some (scope 1)) 0 [] false (Some (stmt 8))
          ∷ scope_text (Some (scope 2)) 0 [] false (Some (stmt 4))
          ∷ scope_text (Some (scope 3)) 1 [] false None
          ∷ scope_text (Some (scope 2)) 1 [] false None
          ∷ scope_text (Some (scope 1)) 1 [] false (Some (stmt 10))
          ∷ scope_text (Some (scope 1)) 65534 [] false (Some (stmt 30))
          ∷ scope_text (Some (scope 1)) 65534 [] false (Some (stmt 50))
          ∷ [];
      subprograms =
          subprogram_text (codes "call") (scope 6) [] (Some (Whole (negsuc 2147483647) (pos 2147483647))) None
          ∷ [];
      task_units =
          task_unit_text (scope 2) None None ((entry 0) ∷ [])
          ∷ [];
      protected_units = [];
      entries =
          entry_text (codes "e") (unit.Task (task_unit 0)) 0 (formal (Whole (negsuc 2147483647) (pos 2147483647)) (Whole (pos 0)) ∷ []) None
          ∷ [];
      controlled_types = [];
      enumerations = [];
      policies = (policies [] queuing.Fifo None 30);
      environment = (scope 0);
      main = (main_procedure (codes "main") 15 (scope 1));
    }

abbrev pub row_room_accept_script : List (ℤ × Item)
row_room_accept_script = []

-- the lines of its run up to tick 37
unfoldable pub row_room_accept_lines : List (ℕ × Event)
row_room_accept_lines = run_of row_room_accept_program row_room_accept_script 37

unfoldable pub row_room_accept_trace : List (ℕ × Event)
row_room_accept_trace =
    (0, line.New (created.Task (task 0)) (codes "main") 15)
    ∷ (0, line.Ready (t 0) 15 Tail None)
    ∷ (0, line.Run (t 0))
    ∷ (4, line.New (created.Task (task 1)) (codes "main.t") 15)
    ∷ (6, line.Ready (t 1) 15 Tail None)
    ∷ (6, line.Block (t 0) waits.Activation)
    ∷ (6, line.Run (t 1))
    ∷ (7, line.Ready (t 0) 15 Tail None)
    ∷ (10, line.Block (t 1) waits.Accept)
    ∷ (10, line.Run (t 0))
    ∷ (15, line.Call (task 0) (call 1) (of_task 1 (codes "e")) 15)
    ∷ (15, line.Start (t 1) (call 1))
    ∷ (15, line.Finish (t 1) (call 1) (finished.Raised (codes "storage_error")))
    ∷ (15, line.Raise (t 0) (codes "storage_error"))
    ∷ (15, line.Ready (t 1) 15 Tail None)
    ∷ (15, line.Raise (t 1) (codes "storage_error"))
    ∷ (23, line.Call (task 0) (call 2) (of_task 1 (codes "e")) 15)
    ∷ (23, line.Block (t 0) waits.Entry)
    ∷ (23, line.Run (t 1))
    ∷ (28, line.Start (t 1) (call 2))
    ∷ (28, line.Finish (t 1) (call 2) (finished.Raised (codes "storage_error")))
    ∷ (28, line.Ready (t 0) 15 Tail None)
    ∷ (28, line.Raise (t 0) (codes "storage_error"))
    ∷ (28, line.Raise (t 1) (codes "storage_error"))
    ∷ (31, line.Done (task 1))
    ∷ (31, line.Run (t 0))
    ∷ (34, line.Leave (t 0) (region 1) leaves.Exception)
    ∷ (35, line.Left (t 0) (region 1))
    ∷ (36, line.Done (task 0))
    ∷ (36, line.End (end.Exception (codes "storage_error")))
    ∷ []

pub row_room_accept_runs : row_room_accept_lines ≡ row_room_accept_trace
unfolding row_room_accept_lines row_room_accept_trace digits computing
row_room_accept_runs = refl

-- whether every world of its run is well formed
unfoldable pub row_room_accept_worlds : Bool
row_room_accept_worlds = run_is_well_formed row_room_accept_program row_room_accept_script 37

pub row_room_accept_keeps : row_room_accept_worlds ≡ true
unfolding row_room_accept_worlds computing
row_room_accept_keeps = refl

-- whether each handler is released at its tick
unfoldable pub row_room_accept_handlers : Bool
row_room_accept_handlers = releases_ok row_room_accept_program row_room_accept_script 37

pub row_room_accept_releases : row_room_accept_handlers ≡ true
unfolding row_room_accept_handlers computing
row_room_accept_releases = refl
