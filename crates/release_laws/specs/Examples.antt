-- A program with a handler of each cause, and machines that break the law on it, one each.
use Rattle.std.specs.Prelude.{ℕ, ◌+◌, ◌-◌, ℤ, pos, Bool, true, false, cond, ◌&&◌}
use Rattle.std.specs.Prelude.{List, [], ◌∷◌, map, Option, Some, None, codes}
use Rattle.trace_text.specs.declared.events.Event.{Event}
use Rattle.trace_text.specs.declared.events.Event.TheVariants as line
use Rattle.trace_text.specs.declared.events.Who.{Who}
use Rattle.profile_image.specs.declared.script_items.Item.{Item}
use Rattle.profile_image.specs.declared.script_items.Item.TheVariants as item
use Rattle.profile_image.specs.declared.image.Image.{Image}
use Rattle.profile_image.specs.declared.image.Queuing.TheVariants as queuing
use Rattle.profile_image.specs.declared.numbers.StatementNo.{StatementNo}
use Rattle.profile_image.specs.declared.values.Value.TheVariants.{Whole, Task}
use Rattle.profile_image.specs.declared.values.Constraint.TheVariants.{Free, Whole}
use Rattle.profile_image.specs.declared.expressions.Expression.TheVariants.{Known, Binary, Clock, Span, CurrentTask}
use Rattle.profile_image.specs.declared.expressions.BinaryOperator.TheVariants as binary
use Rattle.profile_image.specs.declared.declarations.DeclarationKind.TheVariants as kind
use Rattle.profile_image.specs.declared.declarations.Initial.TheVariants as initial
use Rattle.profile_image.specs.declared.statements.StatementForm.{StatementForm}
use Rattle.profile_image.specs.declared.statements.StatementForm.TheVariants as form
use Rattle.profile_image.specs.declared.statements.Setting.TheVariants as setting
use Rattle.profile_machine.specs.declared.world.World.{World}
use Rattle.profile_machine.specs.Notation.{decl, expr, stmt, scope, subprogram, protected_unit, declaration}
use Rattle.profile_machine.specs.Notation.{statement, handler_name, cell_run, scope_text, formal, subprogram_text}
use Rattle.profile_machine.specs.Notation.{attachment, protected_unit_text, policies, main_procedure}
use Rattle.profile_image.specs.Program.{form_of}
use Rattle.profile_machine.specs.Steps.{Move, watches, rests, ◌▶◌}
use Rattle.profile_machine.specs.Tasks.{task_of}
use Rattle.profile_machine.specs.Frames.{onward_of}
use Rattle.profile_machine.specs.Appointments.{is_an_event, drop_appointment}
use Rattle.profile_machine.specs.Instant.{is_over, finish_action, with_script, script_items, events_due}
use Rattle.profile_machine.specs.Instant.{moments_due, timers_due, no_budget_due, budgets_due, quantum_spent}
use Rattle.profile_machine.specs.Run.{silently, tock}
use Rattle.release_laws.specs.ReleaseLaws.{Machine, machine_of, history_by, first_account, follows_releases}

-- a timing event at tick 53, a timer of the environment task at its value 30, a budget of 5 ticks, and an interrupt
abbrev pub four_program : Image
four_program =
    record {
      declarations =
          declaration (codes "e") (codes "four.e") kind.Event (scope 0) 0 1 Free None
          ∷ declaration (codes "id") (codes "four.id") (kind.Object (initial.Scalar (expr 15))) (scope 0) 1 1 Free None
          ∷ declaration (codes "t") (codes "four.t") (kind.Timer (decl 1)) (scope 0) 2 1 Free None
          ∷ declaration (codes "b") (codes "four.b") kind.Budget (scope 0) 3 1 Free None
          ∷ declaration (codes "h") (codes "four.h") (kind.Protected (protected_unit 0)) (scope 0) 4 16 Free None
          ∷ declaration (codes "event") (codes "four.h.event") kind.Parameter (scope 1) 0 1 Free None
          ∷ declaration (codes "clock") (codes "four.h.clock") kind.Parameter (scope 2) 0 1 Free None
          ∷ declaration (codes "budget") (codes "four.h.budget") kind.Parameter (scope 3) 0 1 Free None
          ∷ declaration (codes "k") (codes "main.k") kind.Parameter (scope 5) 0 2 Free None
          ∷ [];
      expressions =
          Clock
          ∷ Known (Whole (pos 60))
          ∷ Span (pos 1) (expr 1)
          ∷ Binary binary.Plus (expr 0) (expr 2)
          ∷ Known (Whole (pos 1))
          ∷ Known (Whole (pos 8))
          ∷ Known (Whole (pos 5))
          ∷ Span (pos 1) (expr 6)
          ∷ CurrentTask
          ∷ Known (Whole (pos 30))
          ∷ Span (pos 1) (expr 9)
          ∷ Clock
          ∷ Known (Whole (pos 40))
          ∷ Span (pos 1) (expr 12)
          ∷ Binary binary.Plus (expr 11) (expr 13)
          ∷ CurrentTask
          ∷ [];
      statements =
          statement (form.CallMain) 0 None
          ∷ statement (form.DelayUntil (expr 3)) 3 None
          ∷ statement (form.For (decl 8) false (expr 4) (expr 5) (stmt 3) None) 0 (Some (stmt 1))
          ∷ statement (form.FirstTurn (decl 8) false (stmt 5)) 0 (Some (stmt 1))
          ∷ statement (form.LaterTurn (decl 8) false (stmt 5)) 0 (Some (stmt 1))
          ∷ statement (form.Null) 0 (Some (stmt 4))
          ∷ statement (form.SetBudget (decl 3) (Some (handler_name (decl 4) (subprogram 2)))) 0 (Some (stmt 2))
          ∷ statement (form.Replenish (decl 3) (expr 7)) 1 (Some (stmt 6))
          ∷ statement (form.AddTask (decl 3) (expr 8)) 1 (Some (stmt 7))
          ∷ statement (form.SetTimer (decl 2) (setting.In (expr 10)) (Some (handler_name (decl 4) (subprogram 1))))
          1 (Some (stmt 8))
          ∷ statement (form.SetEvent (decl 0) (setting.At (expr 14)) (Some (handler_name (decl 4) (subprogram 0))))
          3 (Some (stmt 9))
          ∷ statement (form.Null) 0 None
          ∷ statement (form.Null) 0 None
          ∷ statement (form.Null) 0 None
          ∷ statement (form.Null) 0 None
          ∷ statement (form.Declare (decl 4)) 0 (Some (stmt 0))
          ∷ statement (form.Declare (decl 3)) 0 (Some (stmt 15))
          ∷ statement (form.Declare (decl 2)) 0 (Some (stmt 16))
          ∷ statement (form.Declare (decl 1)) 1 (Some (stmt 17))
          ∷ statement (form.Declare (decl 0)) 0 (Some (stmt 18))
          ∷ [];
      scopes =
          scope_text None 20 (cell_run 1 1 (Task None) ∷ []) false (Some (stmt 19))
          ∷ scope_text (Some (scope 0)) 1 [] false (Some (stmt 11))
          ∷ scope_text (Some (scope 0)) 1 [] false (Some (stmt 12))
          ∷ scope_text (Some (scope 0)) 1 [] false (Some (stmt 13))
          ∷ scope_text (Some (scope 0)) 0 [] false (Some (stmt 14))
          ∷ scope_text (Some (scope 0)) 2 [] false (Some (stmt 10))
          ∷ [];
      subprograms =
          subprogram_text (codes "ring") (scope 1) (formal Free (Whole (pos 0)) ∷ []) None (Some (protected_unit 0))
          ∷ subprogram_text (codes "rise") (scope 2) (formal Free (Whole (pos 0)) ∷ []) None (Some (protected_unit 0))
          ∷ subprogram_text (codes "spent") (scope 3) (formal Free (Whole (pos 0)) ∷ []) None (Some (protected_unit 0))
          ∷ subprogram_text (codes "strike") (scope 4) [] None (Some (protected_unit 0))
          ∷ [];
      task_units = [];
      protected_units =
          protected_unit_text 31 [] [] (attachment 3 (subprogram 3) ∷ [])
          ∷ [];
      entries = [];
      controlled_types = [];
      enumerations = [];
      policies = (policies [] queuing.Fifo None 30);
      environment = (scope 0);
      main = (main_procedure (codes "main") 15 (scope 5));
    }

-- one that is masked and comes at its unmasking, and one that comes at its moment
abbrev pub four_script : List (ℤ × Item)
four_script =
    (pos 20, item.Mask 3)
    ∷ (pos 22, item.Interrupt 3)
    ∷ (pos 26, item.Unmask 3)
    ∷ (pos 70, item.Interrupt 3)
    ∷ []

abbrev pub keeps_releases_by : Machine → Bool
keeps_releases_by m =
    follows_releases four_program (first_account four_script) (history_by m four_program four_script 200)

-- ---- the profile machine

unfoldable pub rightly : Bool
rightly = keeps_releases_by (machine_of four_program)

-- ---- machines that break the law

-- the steps of an instant behind the first, with others for the items of the script, the events, the timers and the
-- budgets
abbrev pub with_steps : Move → Move → Move → Move → Machine
with_steps items events timers budgets =
    record {
      acts = finish_action four_program;
      goes_on = items ▶ events ▶ moments_due four_program ▶ timers ▶ budgets ▶ quantum_spent four_program;
      ticks = tock four_program;
    }

-- a move as it would be at another time
abbrev pub as_at : (ℕ → ℕ) → Move → Move
as_at shifted move w =
    let done = move (record w { time = shifted w.time }) in
    (record done.0 { time = w.time }, done.1)

-- no timer is ever fired
unfoldable pub without_timers : Bool
without_timers =
    keeps_releases_by (with_steps (script_items four_program) (events_due four_program) rests
    (budgets_due four_program))

-- a budget that runs out is dropped
unfoldable pub without_budgets : Bool
without_budgets =
    keeps_releases_by (with_steps (script_items four_program) (events_due four_program) (timers_due four_program)
    (silently no_budget_due))

-- an event comes at once
unfoldable pub events_at_once : Bool
events_at_once =
    keeps_releases_by (with_steps (script_items four_program) (as_at (λ n. n
    + 1000) (events_due four_program)) (timers_due four_program) (budgets_due four_program))

-- an event comes a tick late
unfoldable pub events_late : Bool
events_late =
    keeps_releases_by (with_steps (script_items four_program) (as_at (λ n. n - 1) (events_due four_program))
    (timers_due four_program) (budgets_due four_program))

-- the script is dropped
unfoldable pub without_script : Bool
without_script =
    keeps_releases_by (with_steps (silently (with_script [])) (events_due four_program) (timers_due four_program)
    (budgets_due four_program))

abbrev pub forget_events : World → World
forget_events = drop_appointment is_an_event

-- events are forgotten at a tick
unfoldable pub forgets_at_ticks : Bool
forgets_at_ticks =
    keeps_releases_by (record {
      acts = finish_action four_program;
      goes_on = (machine_of four_program).goes_on;
      ticks = tock four_program ▶ silently forget_events;
    })

abbrev pub is_null : StatementForm → Bool
is_null form.Null = true
is_null _ = false

abbrev pub comes_to_null : Option StatementNo → Bool
comes_to_null None = false
comes_to_null (Some s) = is_null (form_of four_program s)

-- whether the action that ends is a `null`
abbrev pub ends_null : World → Option Who → Bool
ends_null w None = false
ends_null w (Some name) = is_over (task_of w name).ticks_left && comes_to_null (onward_of w name)

-- events are forgotten at a `null`
unfoldable pub forgets_at_null : Bool
forgets_at_null =
    keeps_releases_by (record {
      acts = watches
          (λ w. finish_action four_program ▶ silently (λ v. cond (ends_null w w.ran) (forget_events v) v));
      goes_on = (machine_of four_program).goes_on;
      ticks = tock four_program;
    })

-- a line that names another procedure
abbrev pub of_another : Event → Event
of_another (line.Release number object handler) = line.Release number object (codes "rise")
of_another event = event

abbrev pub telling_another : Move → Move
telling_another move w = ((move w).0, map of_another (move w).1)

-- the handler of another cause is released
unfoldable pub another_handler : Bool
another_handler =
    keeps_releases_by (with_steps (script_items four_program) (telling_another (events_due four_program))
    (timers_due four_program) (budgets_due four_program))
