use Rattle.std.specs.Prelude.{◌≡◌, ℕ, ℤ, pos, List, [], ◌∷◌, Some, None, true, false, codes, refl}
use Rattle.trace_text.specs.declared.events.Event.{Event}
use Rattle.trace_text.specs.declared.events.Event.TheVariants as line
use Rattle.trace_text.specs.declared.events.Created.TheVariants as created
use Rattle.trace_text.specs.declared.events.Ended.TheVariants as end
use Rattle.trace_text.specs.declared.events.QueueEnd.TheVariants.{Tail}
use Rattle.profile_image.specs.declared.script_items.Item.{Item}
use Rattle.profile_image.specs.declared.script_items.Item.TheVariants as item
use Rattle.profile_image.specs.declared.image.Image.{Image}
use Rattle.profile_image.specs.declared.image.Queuing.TheVariants as queuing
use Rattle.profile_image.specs.declared.values.Value.TheVariants.{Whole}
use Rattle.profile_image.specs.declared.values.Constraint.TheVariants.{Free, Whole}
use Rattle.profile_image.specs.declared.expressions.Expression.TheVariants.{Known, Span}
use Rattle.profile_image.specs.declared.declarations.DeclarationKind.TheVariants as kind
use Rattle.profile_image.specs.declared.statements.StatementForm.TheVariants as form
use Rattle.profile_image.specs.declared.statements.Setting.TheVariants as setting
use Rattle.profile_machine.specs.Notation.{decl, expr, stmt, scope, subprogram, protected_unit, task, p, t, agent, declaration, statement, handler_name, scope_text, formal, subprogram_text, attachment, protected_unit_text, policies, main_procedure}
use Rattle.profile_machine.specs.Run.{run_of}
use Rattle.profile_machine.specs.Computing.{computing}
use Rattle.std.specs.Fmt.{digits}
use Rattle.std.specs.Prelude.{Bool}
use Rattle.profile_machine.specs.WellFormed.{run_is_well_formed}
use Rattle.profile_machine.specs.Releases.{releases_ok}

-- Row interrupts.end: its run stops before tick 10, so every greater bound gives the same trace.
abbrev pub row_interrupts_end_program : Image
row_interrupts_end_program =
    record {
      declarations =
          declaration (codes "p") (codes "pk.p") (kind.Protected (protected_unit 0)) (scope 0) 0 16 Free None
          ∷ declaration (codes "e") (codes "pk.e") kind.Event (scope 0) 16 1 Free None
          ∷ declaration (codes "e") (codes "pk.p.e") kind.Parameter (scope 2) 0 1 Free None
          ∷ [];
      expressions =
          Known (Whole (pos 2))
          ∷ Span (pos 1) (expr 0)
          ∷ [];
      statements =
          statement (form.CallMain) 0 None
          ∷ statement (form.SetEvent (decl 1) (setting.In (expr 1)) (Some (handler_name (decl 0) (subprogram 1)))) 1 None
          ∷ statement (form.Null) 0 None
          ∷ statement (form.Null) 0 None
          ∷ statement (form.Declare (decl 1)) 0 (Some (stmt 0))
          ∷ statement (form.Declare (decl 0)) 0 (Some (stmt 4))
          ∷ [];
      scopes =
          scope_text None 17 [] false (Some (stmt 5))
          ∷ scope_text (Some (scope 0)) 0 [] false (Some (stmt 2))
          ∷ scope_text (Some (scope 0)) 1 [] false (Some (stmt 3))
          ∷ scope_text (Some (scope 0)) 0 [] false (Some (stmt 1))
          ∷ [];
      subprograms =
          subprogram_text (codes "strike") (scope 1) [] None (Some (protected_unit 0))
          ∷ subprogram_text (codes "fire") (scope 2) (formal Free (Whole (pos 0)) ∷ []) None (Some (protected_unit 0))
          ∷ [];
      task_units = [];
      protected_units =
          protected_unit_text 31 [] [] (attachment 3 (subprogram 0) ∷ [])
          ∷ [];
      entries = [];
      controlled_types = [];
      enumerations = [];
      policies = (policies [] queuing.Fifo None 30);
      environment = (scope 0);
      main = (main_procedure (codes "main") 15 (scope 3));
    }

abbrev pub row_interrupts_end_script : List (ℤ × Item)
row_interrupts_end_script =
    (pos 9, item.Interrupt 3)
    ∷ []

-- the lines of its run up to tick 10
unfoldable pub row_interrupts_end_lines : List (ℕ × Event)
row_interrupts_end_lines = run_of row_interrupts_end_program row_interrupts_end_script 10

unfoldable pub row_interrupts_end_trace : List (ℕ × Event)
row_interrupts_end_trace =
    (0, line.New (created.Task (task 0)) (codes "main") 15)
    ∷ (0, line.Ready (t 0) 15 Tail None)
    ∷ (0, line.Run (t 0))
    ∷ (1, line.New (created.Object (p 1)) (codes "pk.p") 31)
    ∷ (9, line.Done (task 0))
    ∷ (9, line.Interrupt 3)
    ∷ (9, line.Release 1 (p 1) (codes "strike"))
    ∷ (9, line.Ready agent 31 Tail None)
    ∷ (9, line.Release 2 (p 1) (codes "fire"))
    ∷ (9, line.End end.Completed)
    ∷ []

pub row_interrupts_end_runs : row_interrupts_end_lines ≡ row_interrupts_end_trace
unfolding row_interrupts_end_lines row_interrupts_end_trace digits computing
row_interrupts_end_runs = refl

-- whether every world of its run is well formed
unfoldable pub row_interrupts_end_worlds : Bool
row_interrupts_end_worlds = run_is_well_formed row_interrupts_end_program row_interrupts_end_script 10

pub row_interrupts_end_keeps : row_interrupts_end_worlds ≡ true
unfolding row_interrupts_end_worlds computing
row_interrupts_end_keeps = refl

-- whether each handler is released at its tick
unfoldable pub row_interrupts_end_handlers : Bool
row_interrupts_end_handlers = releases_ok row_interrupts_end_program row_interrupts_end_script 10

pub row_interrupts_end_releases : row_interrupts_end_handlers ≡ true
unfolding row_interrupts_end_handlers computing
row_interrupts_end_releases = refl
