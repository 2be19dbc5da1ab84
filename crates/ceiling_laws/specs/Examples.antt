-- A program whose one handler runs on the agent, and in which one priority is dispatched by deadlines: where that is
-- the priority of interrupts, its run breaks the law of ceilings.
use Rattle.std.specs.Prelude.{ℕ, ℤ, pos, Bool, List, [], ◌∷◌, Some, None, true, false, codes}
use Rattle.std.specs.List.{list_any}
use Rattle.trace_text.specs.declared.events.Event.{Event}
use Rattle.trace_text.specs.declared.events.Event.TheVariants as line
use Rattle.profile_image.specs.declared.image.Image.{Image}
use Rattle.profile_image.specs.declared.image.Dispatching.TheVariants.{EdfAcrossPriorities}
use Rattle.profile_image.specs.declared.image.Queuing.TheVariants as queuing
use Rattle.profile_image.specs.declared.script_items.Item.{Item}
use Rattle.profile_image.specs.declared.script_items.Item.TheVariants.{Interrupt}
use Rattle.profile_image.specs.declared.values.Constraint.TheVariants.{Free}
use Rattle.profile_image.specs.declared.declarations.DeclarationKind.TheVariants as kind
use Rattle.profile_image.specs.declared.statements.StatementForm.TheVariants as form
use Rattle.profile_machine.specs.Notation.{decl, stmt, scope, subprogram, protected_unit, declaration}
use Rattle.profile_machine.specs.Notation.{statement, scope_text, subprogram_text, protected_unit_text}
use Rattle.profile_machine.specs.Notation.{attachment, dispatching_range, policies, main_procedure}
use Rattle.profile_machine.specs.Run.{run_of}
use Rattle.trace_text.specs.Laws.{follows_ceilings}

-- a protected object of ceiling 31 whose procedure is attached to interrupt 0, and a main procedure of one statement
abbrev pub handler_by_deadline_at : ℕ → Image
handler_by_deadline_at level =
    record {
      declarations =
          declaration (codes "h") (codes "h") (kind.Protected (protected_unit 0)) (scope 0) 0 16 Free None ∷ [];
      expressions = [];
      statements =
          statement (form.CallMain) 0 None
          ∷ statement (form.Declare (decl 0)) 0 (Some (stmt 0))
          ∷ statement (form.Null) 0 None
          ∷ [];
      scopes =
          scope_text None 16 [] false (Some (stmt 1))
          ∷ scope_text (Some (scope 0)) 0 [] false None
          ∷ scope_text (Some (scope 0)) 0 [] false (Some (stmt 2))
          ∷ [];
      subprograms = subprogram_text (codes "strike") (scope 1) [] None (Some (protected_unit 0)) ∷ [];
      task_units = [];
      protected_units = protected_unit_text 31 [] [] (attachment 0 (subprogram 0) ∷ []) ∷ [];
      entries = [];
      controlled_types = [];
      enumerations = [];
      policies = policies (dispatching_range EdfAcrossPriorities level level ∷ []) queuing.Fifo None 30;
      environment = scope 0;
      main = main_procedure (codes "main") 15 (scope 2);
    }

-- interrupt 0 comes at tick 2
abbrev pub one_interrupt : List (ℤ × Item)
one_interrupt = (pos 2, Interrupt 0) ∷ []

-- whether its run keeps the law
unfoldable pub keeps_ceilings_at : ℕ → Bool
keeps_ceilings_at level = follows_ceilings (run_of (handler_by_deadline_at level) one_interrupt 20)

abbrev pub is_enter : Event → Bool
is_enter (line.Enter who object mode) = true
is_enter _ = false

-- whether a protected action begins in its run
unfoldable pub enters_at : ℕ → Bool
enters_at level = list_any (λ x. is_enter x.1) (run_of (handler_by_deadline_at level) one_interrupt 20)
