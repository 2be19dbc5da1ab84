use Rattle.std.specs.Prelude.{◌≡◌, ℕ, ℤ, pos, List, [], ◌∷◌, Some, None, true, false, codes, refl}
use Rattle.trace_text.specs.declared.events.Event.{Event}
use Rattle.trace_text.specs.declared.events.Event.TheVariants as line
use Rattle.trace_text.specs.declared.events.Created.TheVariants as created
use Rattle.trace_text.specs.declared.events.Ended.TheVariants as end
use Rattle.trace_text.specs.declared.events.Mode.TheVariants.{Write}
use Rattle.trace_text.specs.declared.events.QueueEnd.TheVariants.{Tail}
use Rattle.trace_text.specs.declared.events.Waits.TheVariants as waits
use Rattle.profile_image.specs.declared.script_items.Item.{Item}
use Rattle.profile_image.specs.declared.script_items.Item.TheVariants as item
use Rattle.profile_image.specs.declared.image.Image.{Image}
use Rattle.profile_image.specs.declared.image.Queuing.TheVariants as queuing
use Rattle.profile_image.specs.declared.values.Value.TheVariants.{Whole, Ticks}
use Rattle.profile_image.specs.declared.values.Constraint.TheVariants.{Free, Whole, Ticks}
use Rattle.profile_image.specs.declared.expressions.Expression.TheVariants.{Known, PortValue}
use Rattle.profile_image.specs.declared.declarations.DeclarationKind.TheVariants as kind
use Rattle.profile_image.specs.declared.statements.StatementForm.TheVariants as form
use Rattle.profile_image.specs.declared.statements.Piece.TheVariants as piece
use Rattle.profile_machine.specs.Notation.{decl, expr, stmt, scope, subprogram, protected_unit, task, p, t, agent, declaration, statement, scope_text, subprogram_text, attachment, protected_unit_text, policies, main_procedure}
use Rattle.profile_machine.specs.Run.{run_of}
use Rattle.profile_machine.specs.Computing.{computing}
use Rattle.std.specs.Fmt.{digits}
use Rattle.std.specs.Prelude.{Bool}
use Rattle.profile_machine.specs.WellFormed.{run_is_well_formed}
use Rattle.profile_machine.specs.Releases.{releases_ok}

-- Row interrupts.masked: its run stops before tick 43, so every greater bound gives the same trace.
abbrev pub row_interrupts_masked_program : Image
row_interrupts_masked_program =
    record {
      declarations =
          declaration (codes "h") (codes "pk.h") (kind.Protected (protected_unit 0)) (scope 0) 0 16 Free None
          ∷ [];
      expressions =
          Known (Whole (pos 2))
          ∷ PortValue (expr 0)
          ∷ Known (Ticks (pos 30))
          ∷ [];
      statements =
          statement (form.CallMain) 0 None
          ∷ statement (form.PutLine (piece.Whole (expr 1) ∷ [])) 1 None
          ∷ statement (form.Delay (expr 2)) 0 (Some (stmt 1))
          ∷ statement (form.Null) 0 None
          ∷ statement (form.Declare (decl 0)) 0 (Some (stmt 0))
          ∷ [];
      scopes =
          scope_text None 16 [] false (Some (stmt 4))
          ∷ scope_text (Some (scope 0)) 0 [] false (Some (stmt 3))
          ∷ scope_text (Some (scope 0)) 0 [] false (Some (stmt 2))
          ∷ [];
      subprograms =
          subprogram_text (codes "strike") (scope 1) [] None (Some (protected_unit 0))
          ∷ [];
      task_units = [];
      protected_units =
          protected_unit_text 31 [] [] (attachment 3 (subprogram 0) ∷ [])
          ∷ [];
      entries = [];
      controlled_types = [];
      enumerations = [];
      policies = (policies [] queuing.Fifo None 30);
      environment = (scope 0);
      main = (main_procedure (codes "main") 15 (scope 2));
    }

abbrev pub row_interrupts_masked_script : List (ℤ × Item)
row_interrupts_masked_script =
    (pos 8, item.Mask 3)
    ∷ (pos 9, item.Interrupt 3)
    ∷ (pos 9, item.Interrupt 3)
    ∷ (pos 12, item.Unmask 3)
    ∷ (pos 12, item.Port 2 (pos 7))
    ∷ (pos 13, item.Interrupt 3)
    ∷ (pos 14, item.Unmask 3)
    ∷ []

-- the lines of its run up to tick 43
unfoldable pub row_interrupts_masked_lines : List (ℕ × Event)
row_interrupts_masked_lines = run_of row_interrupts_masked_program row_interrupts_masked_script 43

unfoldable pub row_interrupts_masked_trace : List (ℕ × Event)
row_interrupts_masked_trace =
    (0, line.New (created.Task (task 0)) (codes "main") 15)
    ∷ (0, line.Ready (t 0) 15 Tail None)
    ∷ (0, line.Run (t 0))
    ∷ (1, line.New (created.Object (p 1)) (codes "pk.h") 31)
    ∷ (5, line.Block (t 0) waits.Delay)
    ∷ (5, line.Idle)
    ∷ (8, line.Mask 3)
    ∷ (9, line.Masked 3)
    ∷ (9, line.Masked 3)
    ∷ (12, line.Unmask 3)
    ∷ (12, line.Interrupt 3)
    ∷ (12, line.Release 1 (p 1) (codes "strike"))
    ∷ (12, line.Ready agent 31 Tail None)
    ∷ (12, line.Port 2 (pos 7))
    ∷ (12, line.Run agent)
    ∷ (12, line.Serve 1)
    ∷ (13, line.Interrupt 3)
    ∷ (13, line.Release 2 (p 1) (codes "strike"))
    ∷ (14, line.Enter agent (p 1) Write)
    ∷ (14, line.Unmask 3)
    ∷ (17, line.Exit agent (p 1))
    ∷ (17, line.Served 1)
    ∷ (17, line.Serve 2)
    ∷ (19, line.Enter agent (p 1) Write)
    ∷ (22, line.Exit agent (p 1))
    ∷ (22, line.Served 2)
    ∷ (22, line.Block agent waits.Release)
    ∷ (22, line.Idle)
    ∷ (35, line.Ready (t 0) 15 Tail None)
    ∷ (35, line.Run (t 0))
    ∷ (40, line.Put (t 0) (codes " 7"))
    ∷ (42, line.Done (task 0))
    ∷ (42, line.End end.Completed)
    ∷ []

pub row_interrupts_masked_runs : row_interrupts_masked_lines ≡ row_interrupts_masked_trace
unfolding row_interrupts_masked_lines row_interrupts_masked_trace digits computing
row_interrupts_masked_runs = refl

-- whether every world of its run is well formed
unfoldable pub row_interrupts_masked_worlds : Bool
row_interrupts_masked_worlds = run_is_well_formed row_interrupts_masked_program row_interrupts_masked_script 43

pub row_interrupts_masked_keeps : row_interrupts_masked_worlds ≡ true
unfolding row_interrupts_masked_worlds computing
row_interrupts_masked_keeps = refl

-- whether each handler is released at its tick
unfoldable pub row_interrupts_masked_handlers : Bool
row_interrupts_masked_handlers = releases_ok row_interrupts_masked_program row_interrupts_masked_script 43

pub row_interrupts_masked_releases : row_interrupts_masked_handlers ≡ true
unfolding row_interrupts_masked_handlers computing
row_interrupts_masked_releases = refl
