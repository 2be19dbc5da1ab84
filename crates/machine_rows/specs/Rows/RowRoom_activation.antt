use Rattle.std.specs.Prelude.{◌≡◌, ℕ, ℤ, pos, negsuc, List, [], ◌∷◌, Some, None, true, false, codes, refl}
use Rattle.ann_base.specs.declared.exceptions.Raised.TheVariants as exception
use Rattle.trace_text.specs.declared.events.Event.{Event}
use Rattle.trace_text.specs.declared.events.Event.TheVariants as line
use Rattle.trace_text.specs.declared.events.Created.TheVariants as created
use Rattle.trace_text.specs.declared.events.Ended.TheVariants as end
use Rattle.trace_text.specs.declared.events.Leaves.TheVariants as leaves
use Rattle.trace_text.specs.declared.events.QueueEnd.TheVariants.{Tail}
use Rattle.profile_image.specs.declared.script_items.Item.{Item}
use Rattle.profile_image.specs.declared.image.Image.{Image}
use Rattle.profile_image.specs.declared.image.Queuing.TheVariants as queuing
use Rattle.profile_image.specs.declared.values.Value.TheVariants.{Whole}
use Rattle.profile_image.specs.declared.values.Constraint.TheVariants.{Free, Whole}
use Rattle.profile_image.specs.declared.declarations.DeclarationKind.TheVariants as kind
use Rattle.profile_image.specs.declared.declarations.Initial.TheVariants as initial
use Rattle.profile_image.specs.declared.declarations.ExceptionChoice.TheVariants as exception_choice
use Rattle.profile_image.specs.declared.statements.StatementForm.TheVariants as form
use Rattle.profile_machine.specs.Notation.{decl, stmt, scope, task_unit, task, region, t, declaration, statement, handler, scope_text, task_unit_text, policies, main_procedure}
use Rattle.profile_machine.specs.Run.{run_of}
use Rattle.profile_machine.specs.Computing.{computing}
use Rattle.std.specs.Fmt.{digits}
use Rattle.std.specs.Prelude.{Bool}
use Rattle.profile_machine.specs.WellFormed.{run_is_well_formed}
use Rattle.profile_machine.specs.Releases.{releases_ok}

-- Row room.activation: its run stops before tick 12, so every greater bound gives the same trace.
abbrev pub row_room_activation_program : Image
row_room_activation_program =
    record {
      declarations =
          declaration (codes "t") (codes "main.t") (kind.Task (task_unit 0)) (scope 1) 0 1 Free None
          ∷ declaration (codes "a") (codes "main.t.a") (kind.Object initial.Default) (scope 2) 0 4096 (Whole (negsuc 2147483647) (pos 2147483647)) (Some (Whole (pos 1) (pos 4096)))
          ∷ declaration (codes "b") (codes "main.t.b") (kind.Object initial.Default) (scope 2) 4096 4096 (Whole (negsuc 2147483647) (pos 2147483647)) (Some (Whole (pos 1) (pos 4096)))
          ∷ declaration (codes "c") (codes "main.t.c") (kind.Object initial.Default) (scope 2) 8192 4096 (Whole (negsuc 2147483647) (pos 2147483647)) (Some (Whole (pos 1) (pos 4096)))
          ∷ declaration (codes "d") (codes "main.t.d") (kind.Object initial.Default) (scope 2) 12288 4096 (Whole (negsuc 2147483647) (pos 2147483647)) (Some (Whole (pos 1) (pos 4096)))
          ∷ declaration (codes "e") (codes "main.t.e") (kind.Object initial.Default) (scope 2) 16384 4096 (Whole (negsuc 2147483647) (pos 2147483647)) (Some (Whole (pos 1) (pos 4096)))
          ∷ declaration (codes "f") (codes "main.t.f") (kind.Object initial.Default) (scope 2) 20480 4096 (Whole (negsuc 2147483647) (pos 2147483647)) (Some (Whole (pos 1) (pos 4096)))
          ∷ declaration (codes "g") (codes "main.t.g") (kind.Object initial.Default) (scope 2) 24576 4096 (Whole (negsuc 2147483647) (pos 2147483647)) (Some (Whole (pos 1) (pos 4096)))
          ∷ declaration (codes "h") (codes "main.t.h") (kind.Object initial.Default) (scope 2) 28672 4096 (Whole (negsuc 2147483647) (pos 2147483647)) (Some (Whole (pos 1) (pos 4096)))
          ∷ declaration (codes "i") (codes "main.t.i") (kind.Object initial.Default) (scope 2) 32768 4096 (Whole (negsuc 2147483647) (pos 2147483647)) (Some (Whole (pos 1) (pos 4096)))
          ∷ declaration (codes "j") (codes "main.t.j") (kind.Object initial.Default) (scope 2) 36864 4096 (Whole (negsuc 2147483647) (pos 2147483647)) (Some (Whole (pos 1) (pos 4096)))
          ∷ declaration (codes "k") (codes "main.t.k") (kind.Object initial.Default) (scope 2) 40960 4096 (Whole (negsuc 2147483647) (pos 2147483647)) (Some (Whole (pos 1) (pos 4096)))
          ∷ declaration (codes "l") (codes "main.t.l") (kind.Object initial.Default) (scope 2) 45056 4096 (Whole (negsuc 2147483647) (pos 2147483647)) (Some (Whole (pos 1) (pos 4096)))
          ∷ declaration (codes "m") (codes "main.t.m") (kind.Object initial.Default) (scope 2) 49152 4096 (Whole (negsuc 2147483647) (pos 2147483647)) (Some (Whole (pos 1) (pos 4096)))
          ∷ declaration (codes "n") (codes "main.t.n") (kind.Object initial.Default) (scope 2) 53248 4096 (Whole (negsuc 2147483647) (pos 2147483647)) (Some (Whole (pos 1) (pos 4096)))
          ∷ declaration (codes "o") (codes "main.t.o") (kind.Object initial.Default) (scope 2) 57344 4096 (Whole (negsuc 2147483647) (pos 2147483647)) (Some (Whole (pos 1) (pos 4096)))
          ∷ declaration (codes "p") (codes "main.t.p") (kind.Object initial.Default) (scope 2) 61440 4096 (Whole (negsuc 2147483647) (pos 2147483647)) (Some (Whole (pos 1) (pos 4096)))
          ∷ [];
      expressions = [];
      statements =
          statement (form.CallMain) 0 None
          ∷ statement (form.Null) 0 None
          ∷ statement (form.EndActivation) 0 (Some (stmt 1))
          ∷ statement (form.Declare (decl 16)) 0 (Some (stmt 2))
          ∷ statement (form.Declare (decl 15)) 0 (Some (stmt 3))
          ∷ statement (form.Declare (decl 14)) 0 (Some (stmt 4))
          ∷ statement (form.Declare (decl 13)) 0 (Some (stmt 5))
          ∷ statement (form.Declare (decl 12)) 0 (Some (stmt 6))
          ∷ statement (form.Declare (decl 11)) 0 (Some (stmt 7))
          ∷ statement (form.Declare (decl 10)) 0 (Some (stmt 8))
          ∷ statement (form.Declare (decl 9)) 0 (Some (stmt 9))
          ∷ statement (form.Declare (decl 8)) 0 (Some (stmt 10))
          ∷ statement (form.Declare (decl 7)) 0 (Some (stmt 11))
          ∷ statement (form.Declare (decl 6)) 0 (Some (stmt 12))
          ∷ statement (form.Declare (decl 5)) 0 (Some (stmt 13))
          ∷ statement (form.Declare (decl 4)) 0 (Some (stmt 14))
          ∷ statement (form.Declare (decl 3)) 0 (Some (stmt 15))
          ∷ statement (form.Declare (decl 2)) 0 (Some (stmt 16))
          ∷ statement (form.Declare (decl 1)) 0 (Some (stmt 17))
          ∷ statement (form.Handled (handler (exception_choice.Named exception.Tasking ∷ []) (stmt 22) ∷ []) (stmt 21)) 0 None
          ∷ statement (form.Null) 0 None
          ∷ statement (form.Activate 0) 0 (Some (stmt 20))
          ∷ statement (form.Null) 0 None
          ∷ statement (form.CreateTask (decl 0) 0) 0 (Some (stmt 19))
          ∷ [];
      scopes =
          scope_text None 0 [] false (Some (stmt 0))
          ∷ scope_text (Some (scope 0)) 1 [] true (Some (stmt 23))
          ∷ scope_text (Some (scope 1)) 65536 [] false (Some (stmt 18))
          ∷ [];
      subprograms = [];
      task_units =
          task_unit_text (scope 2) None None []
          ∷ [];
      protected_units = [];
      entries = [];
      controlled_types = [];
      enumerations = [];
      policies = (policies [] queuing.Fifo None 30);
      environment = (scope 0);
      main = (main_procedure (codes "main") 15 (scope 1));
    }

abbrev pub row_room_activation_script : List (ℤ × Item)
row_room_activation_script = []

-- the lines of its run up to tick 12
unfoldable pub row_room_activation_lines : List (ℕ × Event)
row_room_activation_lines = run_of row_room_activation_program row_room_activation_script 12

unfoldable pub row_room_activation_trace : List (ℕ × Event)
row_room_activation_trace =
    (0, line.New (created.Task (task 0)) (codes "main") 15)
    ∷ (0, line.Ready (t 0) 15 Tail None)
    ∷ (0, line.Run (t 0))
    ∷ (4, line.New (created.Task (task 1)) (codes "main.t") 15)
    ∷ (6, line.Raise (t 1) (codes "storage_error"))
    ∷ (6, line.Done (task 1))
    ∷ (6, line.Raise (t 0) (codes "tasking_error"))
    ∷ (9, line.Leave (t 0) (region 1) leaves.End)
    ∷ (10, line.Left (t 0) (region 1))
    ∷ (11, line.Done (task 0))
    ∷ (11, line.End end.Completed)
    ∷ []

pub row_room_activation_runs : row_room_activation_lines ≡ row_room_activation_trace
unfolding row_room_activation_lines row_room_activation_trace digits computing
row_room_activation_runs = refl

-- whether every world of its run is well formed
unfoldable pub row_room_activation_worlds : Bool
row_room_activation_worlds = run_is_well_formed row_room_activation_program row_room_activation_script 12

pub row_room_activation_keeps : row_room_activation_worlds ≡ true
unfolding row_room_activation_worlds computing
row_room_activation_keeps = refl

-- whether each handler is released at its tick
unfoldable pub row_room_activation_handlers : Bool
row_room_activation_handlers = releases_ok row_room_activation_program row_room_activation_script 12

pub row_room_activation_releases : row_room_activation_handlers ≡ true
unfolding row_room_activation_handlers computing
row_room_activation_releases = refl
