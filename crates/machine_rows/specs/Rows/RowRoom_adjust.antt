use Rattle.std.specs.Prelude.{◌≡◌, ℕ, ℤ, pos, negsuc, List, [], ◌∷◌, Some, None, true, false, codes, refl}
use Rattle.ann_base.specs.declared.exceptions.Raised.TheVariants as exception
use Rattle.trace_text.specs.declared.events.Event.{Event}
use Rattle.trace_text.specs.declared.events.Event.TheVariants as line
use Rattle.trace_text.specs.declared.events.Created.TheVariants as created
use Rattle.trace_text.specs.declared.events.Ended.TheVariants as end
use Rattle.trace_text.specs.declared.events.Leaves.TheVariants as leaves
use Rattle.trace_text.specs.declared.events.QueueEnd.TheVariants.{Tail}
use Rattle.profile_image.specs.declared.script_items.Item.{Item}
use Rattle.profile_image.specs.declared.image.Image.{Image}
use Rattle.profile_image.specs.declared.image.Queuing.TheVariants as queuing
use Rattle.profile_image.specs.declared.values.Value.TheVariants.{Whole}
use Rattle.profile_image.specs.declared.values.Constraint.TheVariants.{Free, Whole}
use Rattle.profile_image.specs.declared.declarations.DeclarationKind.TheVariants as kind
use Rattle.profile_image.specs.declared.declarations.Initial.TheVariants as initial
use Rattle.profile_image.specs.declared.declarations.ExceptionChoice.TheVariants as exception_choice
use Rattle.profile_image.specs.declared.statements.StatementForm.TheVariants as form
use Rattle.profile_machine.specs.Notation.{decl, stmt, scope, subprogram, controlled_type, task, region, t, declaration, statement, handler, scope_text, formal, subprogram_text, controlled_text, policies, main_procedure}
use Rattle.profile_machine.specs.Run.{run_of}
use Rattle.profile_machine.specs.Computing.{computing}
use Rattle.std.specs.Fmt.{digits}
use Rattle.std.specs.Prelude.{Bool}
use Rattle.profile_machine.specs.WellFormed.{run_is_well_formed}
use Rattle.profile_machine.specs.Releases.{releases_ok}

-- Row room.adjust: its run stops before tick 25, so every greater bound gives the same trace.
abbrev pub row_room_adjust_program : Image
row_room_adjust_program =
    record {
      declarations =
          declaration (codes "n") (codes "pk.r.n") (kind.Object initial.Default) (scope 0) 0 1 (Whole (negsuc 2147483647) (pos 2147483647)) None
          ∷ declaration (codes "o") (codes "pk.o") kind.Parameter (scope 1) 0 2 Free None
          ∷ declaration (codes "a") (codes "pk.adjust.a") (kind.Object initial.Default) (scope 1) 2 4096 (Whole (negsuc 2147483647) (pos 2147483647)) (Some (Whole (pos 1) (pos 4096)))
          ∷ declaration (codes "b") (codes "pk.adjust.b") (kind.Object initial.Default) (scope 1) 4098 4096 (Whole (negsuc 2147483647) (pos 2147483647)) (Some (Whole (pos 1) (pos 4096)))
          ∷ declaration (codes "c") (codes "pk.adjust.c") (kind.Object initial.Default) (scope 1) 8194 4096 (Whole (negsuc 2147483647) (pos 2147483647)) (Some (Whole (pos 1) (pos 4096)))
          ∷ declaration (codes "d") (codes "pk.adjust.d") (kind.Object initial.Default) (scope 1) 12290 4096 (Whole (negsuc 2147483647) (pos 2147483647)) (Some (Whole (pos 1) (pos 4096)))
          ∷ declaration (codes "e") (codes "pk.adjust.e") (kind.Object initial.Default) (scope 1) 16386 4096 (Whole (negsuc 2147483647) (pos 2147483647)) (Some (Whole (pos 1) (pos 4096)))
          ∷ declaration (codes "f") (codes "pk.adjust.f") (kind.Object initial.Default) (scope 1) 20482 4096 (Whole (negsuc 2147483647) (pos 2147483647)) (Some (Whole (pos 1) (pos 4096)))
          ∷ declaration (codes "g") (codes "pk.adjust.g") (kind.Object initial.Default) (scope 1) 24578 4096 (Whole (negsuc 2147483647) (pos 2147483647)) (Some (Whole (pos 1) (pos 4096)))
          ∷ declaration (codes "h") (codes "pk.adjust.h") (kind.Object initial.Default) (scope 1) 28674 4096 (Whole (negsuc 2147483647) (pos 2147483647)) (Some (Whole (pos 1) (pos 4096)))
          ∷ declaration (codes "i") (codes "pk.adjust.i") (kind.Object initial.Default) (scope 1) 32770 4096 (Whole (negsuc 2147483647) (pos 2147483647)) (Some (Whole (pos 1) (pos 4096)))
          ∷ declaration (codes "j") (codes "pk.adjust.j") (kind.Object initial.Default) (scope 1) 36866 4096 (Whole (negsuc 2147483647) (pos 2147483647)) (Some (Whole (pos 1) (pos 4096)))
          ∷ declaration (codes "k") (codes "pk.adjust.k") (kind.Object initial.Default) (scope 1) 40962 4096 (Whole (negsuc 2147483647) (pos 2147483647)) (Some (Whole (pos 1) (pos 4096)))
          ∷ declaration (codes "l") (codes "pk.adjust.l") (kind.Object initial.Default) (scope 1) 45058 4096 (Whole (negsuc 2147483647) (pos 2147483647)) (Some (Whole (pos 1) (pos 4096)))
          ∷ declaration (codes "m") (codes "pk.adjust.m") (kind.Object initial.Default) (scope 1) 49154 4096 (Whole (negsuc 2147483647) (pos 2147483647)) (Some (Whole (pos 1) (pos 4096)))
          ∷ declaration (codes "n") (codes "pk.adjust.n") (kind.Object initial.Default) (scope 1) 53250 4096 (Whole (negsuc 2147483647) (pos 2147483647)) (Some (Whole (pos 1) (pos 4096)))
          ∷ declaration (codes "p") (codes "pk.adjust.p") (kind.Object initial.Default) (scope 1) 57346 4096 (Whole (negsuc 2147483647) (pos 2147483647)) (Some (Whole (pos 1) (pos 4096)))
          ∷ declaration (codes "q") (codes "pk.adjust.q") (kind.Object initial.Default) (scope 1) 61442 4096 (Whole (negsuc 2147483647) (pos 2147483647)) (Some (Whole (pos 1) (pos 4096)))
          ∷ declaration (codes "a") (codes "main.a") (kind.Controlled (controlled_type 0)) (scope 2) 0 2 Free None
          ∷ declaration (codes "b") (codes "main.b") (kind.Controlled (controlled_type 0)) (scope 2) 2 2 Free None
          ∷ [];
      expressions = [];
      statements =
          statement (form.CallMain) 0 None
          ∷ statement (form.Handled (handler (exception_choice.Named exception.Program ∷ []) (stmt 3) ∷ []) (stmt 2)) 0 None
          ∷ statement (form.AssignControlled (decl 18) (decl 19)) 0 None
          ∷ statement (form.Null) 0 None
          ∷ statement (form.Initialize (decl 19)) 0 (Some (stmt 1))
          ∷ statement (form.Declare (decl 19)) 0 (Some (stmt 4))
          ∷ statement (form.Initialize (decl 18)) 0 (Some (stmt 5))
          ∷ statement (form.Declare (decl 18)) 0 (Some (stmt 6))
          ∷ statement (form.Null) 0 None
          ∷ statement (form.Declare (decl 17)) 0 (Some (stmt 8))
          ∷ statement (form.Declare (decl 16)) 0 (Some (stmt 9))
          ∷ statement (form.Declare (decl 15)) 0 (Some (stmt 10))
          ∷ statement (form.Declare (decl 14)) 0 (Some (stmt 11))
          ∷ statement (form.Declare (decl 13)) 0 (Some (stmt 12))
          ∷ statement (form.Declare (decl 12)) 0 (Some (stmt 13))
          ∷ statement (form.Declare (decl 11)) 0 (Some (stmt 14))
          ∷ statement (form.Declare (decl 10)) 0 (Some (stmt 15))
          ∷ statement (form.Declare (decl 9)) 0 (Some (stmt 16))
          ∷ statement (form.Declare (decl 8)) 0 (Some (stmt 17))
          ∷ statement (form.Declare (decl 7)) 0 (Some (stmt 18))
          ∷ statement (form.Declare (decl 6)) 0 (Some (stmt 19))
          ∷ statement (form.Declare (decl 5)) 0 (Some (stmt 20))
          ∷ statement (form.Declare (decl 4)) 0 (Some (stmt 21))
          ∷ statement (form.Declare (decl 3)) 0 (Some (stmt 22))
          ∷ statement (form.Declare (decl 2)) 0 (Some (stmt 23))
          ∷ [];
      scopes =
          scope_text None 0 [] false (Some (stmt 0))
          ∷ scope_text (Some (scope 0)) 65538 [] false (Some (stmt 24))
          ∷ scope_text (Some (scope 0)) 4 [] true (Some (stmt 7))
          ∷ [];
      subprograms =
          subprogram_text (codes "adjust") (scope 1) (formal Free (Whole (pos 0)) ∷ []) None None
          ∷ [];
      task_units = [];
      protected_units = [];
      entries = [];
      controlled_types =
          controlled_text ((decl 0) ∷ []) None None (Some (subprogram 0))
          ∷ [];
      enumerations = [];
      policies = (policies [] queuing.Fifo None 30);
      environment = (scope 0);
      main = (main_procedure (codes "main") 15 (scope 2));
    }

abbrev pub row_room_adjust_script : List (ℤ × Item)
row_room_adjust_script = []

-- the lines of its run up to tick 25
unfoldable pub row_room_adjust_lines : List (ℕ × Event)
row_room_adjust_lines = run_of row_room_adjust_program row_room_adjust_script 25

unfoldable pub row_room_adjust_trace : List (ℕ × Event)
row_room_adjust_trace =
    (0, line.New (created.Task (task 0)) (codes "main") 15)
    ∷ (0, line.Ready (t 0) 15 Tail None)
    ∷ (0, line.Run (t 0))
    ∷ (5, line.Init (t 0) 1 (region 1) (codes "a"))
    ∷ (8, line.Init (t 0) 2 (region 1) (codes "b"))
    ∷ (9, line.Replace (t 0) 1)
    ∷ (15, line.Raise (t 0) (codes "program_error"))
    ∷ (18, line.Leave (t 0) (region 1) leaves.End)
    ∷ (20, line.Final (t 0) 2)
    ∷ (22, line.Final (t 0) 1)
    ∷ (23, line.Left (t 0) (region 1))
    ∷ (24, line.Done (task 0))
    ∷ (24, line.End end.Completed)
    ∷ []

pub row_room_adjust_runs : row_room_adjust_lines ≡ row_room_adjust_trace
unfolding row_room_adjust_lines row_room_adjust_trace digits computing
row_room_adjust_runs = refl

-- whether every world of its run is well formed
unfoldable pub row_room_adjust_worlds : Bool
row_room_adjust_worlds = run_is_well_formed row_room_adjust_program row_room_adjust_script 25

pub row_room_adjust_keeps : row_room_adjust_worlds ≡ true
unfolding row_room_adjust_worlds computing
row_room_adjust_keeps = refl

-- whether each handler is released at its tick
unfoldable pub row_room_adjust_handlers : Bool
row_room_adjust_handlers = releases_ok row_room_adjust_program row_room_adjust_script 25

pub row_room_adjust_releases : row_room_adjust_handlers ≡ true
unfolding row_room_adjust_handlers computing
row_room_adjust_releases = refl
