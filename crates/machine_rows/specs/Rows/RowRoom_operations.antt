use Rattle.std.specs.Prelude.{◌≡◌, ℕ, ℤ, pos, negsuc, List, [], ◌∷◌, Some, None, true, false, codes, refl}
use Rattle.ann_base.specs.declared.exceptions.Raised.TheVariants as exception
use Rattle.trace_text.specs.declared.events.Event.{Event}
use Rattle.trace_text.specs.declared.events.Event.TheVariants as line
use Rattle.trace_text.specs.declared.events.Created.TheVariants as created
use Rattle.trace_text.specs.declared.events.Ended.TheVariants as end
use Rattle.trace_text.specs.declared.events.Leaves.TheVariants as leaves
use Rattle.trace_text.specs.declared.events.QueueEnd.TheVariants.{Tail}
use Rattle.trace_text.specs.declared.events.Waits.TheVariants as waits
use Rattle.profile_image.specs.declared.script_items.Item.{Item}
use Rattle.profile_image.specs.declared.image.Image.{Image}
use Rattle.profile_image.specs.declared.image.Queuing.TheVariants as queuing
use Rattle.profile_image.specs.declared.values.Value.TheVariants.{Whole}
use Rattle.profile_image.specs.declared.values.Constraint.TheVariants.{Free, Whole}
use Rattle.profile_image.specs.declared.expressions.Expression.TheVariants.{Known, Span}
use Rattle.profile_image.specs.declared.declarations.DeclarationKind.TheVariants as kind
use Rattle.profile_image.specs.declared.declarations.Initial.TheVariants as initial
use Rattle.profile_image.specs.declared.declarations.ExceptionChoice.TheVariants as exception_choice
use Rattle.profile_image.specs.declared.statements.StatementForm.TheVariants as form
use Rattle.profile_image.specs.declared.statements.Setting.TheVariants as setting
use Rattle.profile_machine.specs.Notation.{decl, expr, stmt, scope, subprogram, protected_unit, controlled_type, task, p, region, t, agent, declaration, statement, handler, handler_name, scope_text, formal, subprogram_text, protected_unit_text, controlled_text, policies, main_procedure}
use Rattle.profile_machine.specs.Run.{run_of}
use Rattle.profile_machine.specs.Computing.{computing}
use Rattle.std.specs.Fmt.{digits}
use Rattle.std.specs.Prelude.{Bool}
use Rattle.profile_machine.specs.WellFormed.{run_is_well_formed}
use Rattle.profile_machine.specs.Releases.{releases_ok}

-- Row room.operations: its run stops before tick 33, so every greater bound gives the same trace.
abbrev pub row_room_operations_program : Image
row_room_operations_program =
    record {
      declarations =
          declaration (codes "e") (codes "pk.e") kind.Event (scope 0) 0 1 Free None
          ∷ declaration (codes "n") (codes "pk.r.n") (kind.Object initial.Default) (scope 0) 0 1 (Whole (negsuc 2147483647) (pos 2147483647)) None
          ∷ declaration (codes "h") (codes "pk.h") (kind.Protected (protected_unit 0)) (scope 0) 1 16 Free None
          ∷ declaration (codes "o") (codes "pk.o") kind.Parameter (scope 1) 0 2 Free None
          ∷ declaration (codes "a") (codes "pk.finalize.a") (kind.Object initial.Default) (scope 1) 2 4096 (Whole (negsuc 2147483647) (pos 2147483647)) (Some (Whole (pos 1) (pos 4096)))
          ∷ declaration (codes "b") (codes "pk.finalize.b") (kind.Object initial.Default) (scope 1) 4098 4096 (Whole (negsuc 2147483647) (pos 2147483647)) (Some (Whole (pos 1) (pos 4096)))
          ∷ declaration (codes "c") (codes "pk.finalize.c") (kind.Object initial.Default) (scope 1) 8194 4096 (Whole (negsuc 2147483647) (pos 2147483647)) (Some (Whole (pos 1) (pos 4096)))
          ∷ declaration (codes "d") (codes "pk.finalize.d") (kind.Object initial.Default) (scope 1) 12290 4096 (Whole (negsuc 2147483647) (pos 2147483647)) (Some (Whole (pos 1) (pos 4096)))
          ∷ declaration (codes "e") (codes "pk.finalize.e") (kind.Object initial.Default) (scope 1) 16386 4096 (Whole (negsuc 2147483647) (pos 2147483647)) (Some (Whole (pos 1) (pos 4096)))
          ∷ declaration (codes "f") (codes "pk.finalize.f") (kind.Object initial.Default) (scope 1) 20482 4096 (Whole (negsuc 2147483647) (pos 2147483647)) (Some (Whole (pos 1) (pos 4096)))
          ∷ declaration (codes "g") (codes "pk.finalize.g") (kind.Object initial.Default) (scope 1) 24578 4096 (Whole (negsuc 2147483647) (pos 2147483647)) (Some (Whole (pos 1) (pos 4096)))
          ∷ declaration (codes "h") (codes "pk.finalize.h") (kind.Object initial.Default) (scope 1) 28674 4096 (Whole (negsuc 2147483647) (pos 2147483647)) (Some (Whole (pos 1) (pos 4096)))
          ∷ declaration (codes "i") (codes "pk.finalize.i") (kind.Object initial.Default) (scope 1) 32770 4096 (Whole (negsuc 2147483647) (pos 2147483647)) (Some (Whole (pos 1) (pos 4096)))
          ∷ declaration (codes "j") (codes "pk.finalize.j") (kind.Object initial.Default) (scope 1) 36866 4096 (Whole (negsuc 2147483647) (pos 2147483647)) (Some (Whole (pos 1) (pos 4096)))
          ∷ declaration (codes "k") (codes "pk.finalize.k") (kind.Object initial.Default) (scope 1) 40962 4096 (Whole (negsuc 2147483647) (pos 2147483647)) (Some (Whole (pos 1) (pos 4096)))
          ∷ declaration (codes "l") (codes "pk.finalize.l") (kind.Object initial.Default) (scope 1) 45058 4096 (Whole (negsuc 2147483647) (pos 2147483647)) (Some (Whole (pos 1) (pos 4096)))
          ∷ declaration (codes "m") (codes "pk.finalize.m") (kind.Object initial.Default) (scope 1) 49154 4096 (Whole (negsuc 2147483647) (pos 2147483647)) (Some (Whole (pos 1) (pos 4096)))
          ∷ declaration (codes "n") (codes "pk.finalize.n") (kind.Object initial.Default) (scope 1) 53250 4096 (Whole (negsuc 2147483647) (pos 2147483647)) (Some (Whole (pos 1) (pos 4096)))
          ∷ declaration (codes "q") (codes "pk.finalize.q") (kind.Object initial.Default) (scope 1) 57346 4096 (Whole (negsuc 2147483647) (pos 2147483647)) (Some (Whole (pos 1) (pos 4096)))
          ∷ declaration (codes "p") (codes "pk.finalize.p") (kind.Object initial.Default) (scope 1) 61442 4096 (Whole (negsuc 2147483647) (pos 2147483647)) (Some (Whole (pos 1) (pos 4096)))
          ∷ declaration (codes "o") (codes "pk.o") kind.Parameter (scope 2) 0 2 Free None
          ∷ declaration (codes "e") (codes "pk.h.e") kind.Parameter (scope 3) 0 1 Free None
          ∷ declaration (codes "a") (codes "pk.h.fire.a") (kind.Object initial.Default) (scope 3) 1 4096 (Whole (negsuc 2147483647) (pos 2147483647)) (Some (Whole (pos 1) (pos 4096)))
          ∷ declaration (codes "b") (codes "pk.h.fire.b") (kind.Object initial.Default) (scope 3) 4097 4096 (Whole (negsuc 2147483647) (pos 2147483647)) (Some (Whole (pos 1) (pos 4096)))
          ∷ declaration (codes "c") (codes "pk.h.fire.c") (kind.Object initial.Default) (scope 3) 8193 4096 (Whole (negsuc 2147483647) (pos 2147483647)) (Some (Whole (pos 1) (pos 4096)))
          ∷ declaration (codes "d") (codes "pk.h.fire.d") (kind.Object initial.Default) (scope 3) 12289 4096 (Whole (negsuc 2147483647) (pos 2147483647)) (Some (Whole (pos 1) (pos 4096)))
          ∷ declaration (codes "f") (codes "pk.h.fire.f") (kind.Object initial.Default) (scope 3) 16385 4096 (Whole (negsuc 2147483647) (pos 2147483647)) (Some (Whole (pos 1) (pos 4096)))
          ∷ declaration (codes "g") (codes "pk.h.fire.g") (kind.Object initial.Default) (scope 3) 20481 4096 (Whole (negsuc 2147483647) (pos 2147483647)) (Some (Whole (pos 1) (pos 4096)))
          ∷ declaration (codes "h") (codes "pk.h.fire.h") (kind.Object initial.Default) (scope 3) 24577 4096 (Whole (negsuc 2147483647) (pos 2147483647)) (Some (Whole (pos 1) (pos 4096)))
          ∷ declaration (codes "i") (codes "pk.h.fire.i") (kind.Object initial.Default) (scope 3) 28673 4096 (Whole (negsuc 2147483647) (pos 2147483647)) (Some (Whole (pos 1) (pos 4096)))
          ∷ declaration (codes "j") (codes "pk.h.fire.j") (kind.Object initial.Default) (scope 3) 32769 4096 (Whole (negsuc 2147483647) (pos 2147483647)) (Some (Whole (pos 1) (pos 4096)))
          ∷ declaration (codes "k") (codes "pk.h.fire.k") (kind.Object initial.Default) (scope 3) 36865 4096 (Whole (negsuc 2147483647) (pos 2147483647)) (Some (Whole (pos 1) (pos 4096)))
          ∷ declaration (codes "l") (codes "pk.h.fire.l") (kind.Object initial.Default) (scope 3) 40961 4096 (Whole (negsuc 2147483647) (pos 2147483647)) (Some (Whole (pos 1) (pos 4096)))
          ∷ declaration (codes "m") (codes "pk.h.fire.m") (kind.Object initial.Default) (scope 3) 45057 4096 (Whole (negsuc 2147483647) (pos 2147483647)) (Some (Whole (pos 1) (pos 4096)))
          ∷ declaration (codes "n") (codes "pk.h.fire.n") (kind.Object initial.Default) (scope 3) 49153 4096 (Whole (negsuc 2147483647) (pos 2147483647)) (Some (Whole (pos 1) (pos 4096)))
          ∷ declaration (codes "o") (codes "pk.h.fire.o") (kind.Object initial.Default) (scope 3) 53249 4096 (Whole (negsuc 2147483647) (pos 2147483647)) (Some (Whole (pos 1) (pos 4096)))
          ∷ declaration (codes "q") (codes "pk.h.fire.q") (kind.Object initial.Default) (scope 3) 57345 4096 (Whole (negsuc 2147483647) (pos 2147483647)) (Some (Whole (pos 1) (pos 4096)))
          ∷ declaration (codes "p") (codes "pk.h.fire.p") (kind.Object initial.Default) (scope 3) 61441 4096 (Whole (negsuc 2147483647) (pos 2147483647)) (Some (Whole (pos 1) (pos 4096)))
          ∷ declaration (codes "a") (codes "main.a") (kind.Controlled (controlled_type 0)) (scope 5) 0 2 Free None
          ∷ declaration (codes "b") (codes "main.b") (kind.Controlled (controlled_type 0)) (scope 5) 2 2 Free None
          ∷ [];
      expressions =
          Known (Whole (pos 0))
          ∷ Span (pos 1) (expr 0)
          ∷ [];
      statements =
          statement (form.CallMain) 0 None
          ∷ statement (form.Handled (handler (exception_choice.Named exception.Program ∷ []) (stmt 11) ∷ []) (stmt 10)) 0 None
          ∷ statement (form.Block (scope 5)) 0 None
          ∷ statement (form.Handled (handler (exception_choice.Named exception.Program ∷ []) (stmt 5) ∷ []) (stmt 4)) 0 None
          ∷ statement (form.AssignControlled (decl 38) (decl 39)) 0 None
          ∷ statement (form.Null) 0 None
          ∷ statement (form.Initialize (decl 39)) 0 (Some (stmt 3))
          ∷ statement (form.Declare (decl 39)) 0 (Some (stmt 6))
          ∷ statement (form.Initialize (decl 38)) 0 (Some (stmt 7))
          ∷ statement (form.Declare (decl 38)) 0 (Some (stmt 8))
          ∷ statement (form.SetEvent (decl 0) (setting.In (expr 1)) (Some (handler_name (decl 2) (subprogram 2)))) 1 (Some (stmt 2))
          ∷ statement (form.Null) 0 None
          ∷ statement (form.Null) 0 None
          ∷ statement (form.Declare (decl 19)) 0 (Some (stmt 12))
          ∷ statement (form.Declare (decl 18)) 0 (Some (stmt 13))
          ∷ statement (form.Declare (decl 17)) 0 (Some (stmt 14))
          ∷ statement (form.Declare (decl 16)) 0 (Some (stmt 15))
          ∷ statement (form.Declare (decl 15)) 0 (Some (stmt 16))
          ∷ statement (form.Declare (decl 14)) 0 (Some (stmt 17))
          ∷ statement (form.Declare (decl 13)) 0 (Some (stmt 18))
          ∷ statement (form.Declare (decl 12)) 0 (Some (stmt 19))
          ∷ statement (form.Declare (decl 11)) 0 (Some (stmt 20))
          ∷ statement (form.Declare (decl 10)) 0 (Some (stmt 21))
          ∷ statement (form.Declare (decl 9)) 0 (Some (stmt 22))
          ∷ statement (form.Declare (decl 8)) 0 (Some (stmt 23))
          ∷ statement (form.Declare (decl 7)) 0 (Some (stmt 24))
          ∷ statement (form.Declare (decl 6)) 0 (Some (stmt 25))
          ∷ statement (form.Declare (decl 5)) 0 (Some (stmt 26))
          ∷ statement (form.Declare (decl 4)) 0 (Some (stmt 27))
          ∷ statement (form.Null) 0 None
          ∷ statement (form.Null) 0 None
          ∷ statement (form.Declare (decl 37)) 0 (Some (stmt 30))
          ∷ statement (form.Declare (decl 36)) 0 (Some (stmt 31))
          ∷ statement (form.Declare (decl 35)) 0 (Some (stmt 32))
          ∷ statement (form.Declare (decl 34)) 0 (Some (stmt 33))
          ∷ statement (form.Declare (decl 33)) 0 (Some (stmt 34))
          ∷ statement (form.Declare (decl 32)) 0 (Some (stmt 35))
          ∷ statement (form.Declare (decl 31)) 0 (Some (stmt 36))
          ∷ statement (form.Declare (decl 30)) 0 (Some (stmt 37))
          ∷ statement (form.Declare (decl 29)) 0 (Some (stmt 38))
          ∷ statement (form.Declare (decl 28)) 0 (Some (stmt 39))
          ∷ statement (form.Declare (decl 27)) 0 (Some (stmt 40))
          ∷ statement (form.Declare (decl 26)) 0 (Some (stmt 41))
          ∷ statement (form.Declare (decl 25)) 0 (Some (stmt 42))
          ∷ statement (form.Declare (decl 24)) 0 (Some (stmt 43))
          ∷ statement (form.Declare (decl 23)) 0 (Some (stmt 44))
          ∷ statement (form.Declare (decl 22)) 0 (Some (stmt 45))
          ∷ statement (form.Declare (decl 2)) 0 (Some (stmt 0))
          ∷ statement (form.Declare (decl 0)) 0 (Some (stmt 47))
          ∷ [];
      scopes =
          scope_text None 17 [] false (Some (stmt 48))
          ∷ scope_text (Some (scope 0)) 65538 [] false (Some (stmt 28))
          ∷ scope_text (Some (scope 0)) 2 [] false (Some (stmt 29))
          ∷ scope_text (Some (scope 0)) 65537 [] false (Some (stmt 46))
          ∷ scope_text (Some (scope 0)) 0 [] false (Some (stmt 1))
          ∷ scope_text (Some (scope 4)) 4 [] true (Some (stmt 9))
          ∷ [];
      subprograms =
          subprogram_text (codes "finalize") (scope 1) (formal Free (Whole (pos 0)) ∷ []) None None
          ∷ subprogram_text (codes "adjust") (scope 2) (formal Free (Whole (pos 0)) ∷ []) None None
          ∷ subprogram_text (codes "fire") (scope 3) (formal Free (Whole (pos 0)) ∷ []) None (Some (protected_unit 0))
          ∷ [];
      task_units = [];
      protected_units =
          protected_unit_text 31 [] [] []
          ∷ [];
      entries = [];
      controlled_types =
          controlled_text ((decl 1) ∷ []) None (Some (subprogram 0)) (Some (subprogram 1))
          ∷ [];
      enumerations = [];
      policies = (policies [] queuing.Fifo None 30);
      environment = (scope 0);
      main = (main_procedure (codes "main") 15 (scope 4));
    }

abbrev pub row_room_operations_script : List (ℤ × Item)
row_room_operations_script = []

-- the lines of its run up to tick 33
unfoldable pub row_room_operations_lines : List (ℕ × Event)
row_room_operations_lines = run_of row_room_operations_program row_room_operations_script 33

unfoldable pub row_room_operations_trace : List (ℕ × Event)
row_room_operations_trace =
    (0, line.New (created.Task (task 0)) (codes "main") 15)
    ∷ (0, line.Ready (t 0) 15 Tail None)
    ∷ (0, line.Run (t 0))
    ∷ (2, line.New (created.Object (p 1)) (codes "pk.h") 31)
    ∷ (7, line.Release 1 (p 1) (codes "fire"))
    ∷ (7, line.Ready agent 31 Tail None)
    ∷ (7, line.Run agent)
    ∷ (7, line.Serve 1)
    ∷ (9, line.Served 1)
    ∷ (9, line.Block agent waits.Release)
    ∷ (9, line.Run (t 0))
    ∷ (13, line.Init (t 0) 1 (region 1) (codes "a"))
    ∷ (16, line.Init (t 0) 2 (region 1) (codes "b"))
    ∷ (17, line.Replace (t 0) 1)
    ∷ (20, line.Raise (t 0) (codes "program_error"))
    ∷ (23, line.Leave (t 0) (region 1) leaves.End)
    ∷ (25, line.Final (t 0) 2)
    ∷ (27, line.Final (t 0) 1)
    ∷ (28, line.Left (t 0) (region 1))
    ∷ (28, line.Raise (t 0) (codes "program_error"))
    ∷ (32, line.Done (task 0))
    ∷ (32, line.End end.Completed)
    ∷ []

pub row_room_operations_runs : row_room_operations_lines ≡ row_room_operations_trace
unfolding row_room_operations_lines row_room_operations_trace digits computing
row_room_operations_runs = refl

-- whether every world of its run is well formed
unfoldable pub row_room_operations_worlds : Bool
row_room_operations_worlds = run_is_well_formed row_room_operations_program row_room_operations_script 33

pub row_room_operations_keeps : row_room_operations_worlds ≡ true
unfolding row_room_operations_worlds computing
row_room_operations_keeps = refl

-- whether each handler is released at its tick
unfoldable pub row_room_operations_handlers : Bool
row_room_operations_handlers = releases_ok row_room_operations_program row_room_operations_script 33

pub row_room_operations_releases : row_room_operations_handlers ≡ true
unfolding row_room_operations_handlers computing
row_room_operations_releases = refl
