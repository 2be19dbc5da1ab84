-- An abort of a task that waits for a call. Its image, and the text of its run.
use Rattle.std.specs.Prelude.{ℕ, List, [], ◌∷◌, Some, None, true, false, codes, ◌++◌}
use Rattle.profile_image.specs.declared.image.Image.{Image}
use Rattle.profile_image.specs.declared.image.Queuing.TheVariants as queuing
use Rattle.profile_image.specs.declared.values.Constraint.TheVariants.{Free}
use Rattle.profile_image.specs.declared.declarations.DeclarationKind.TheVariants as kind
use Rattle.profile_image.specs.declared.declarations.EntryUnit.TheVariants as unit
use Rattle.profile_image.specs.declared.statements.StatementForm.TheVariants as form
use Rattle.profile_machine.specs.Notation.{decl, stmt, scope, task_unit, entry, declaration, statement}
use Rattle.profile_machine.specs.Notation.{scope_text, task_unit_text, entry_text, policies, main_procedure}

unfoldable pub abort_source : List ℕ
abort_source =
    codes "procedure Main is\n"
    ++ codes "   task Waiter is\n"
    ++ codes "      entry Never;\n"
    ++ codes "   end Waiter;\n"
    ++ codes "   task body Waiter is\n"
    ++ codes "   begin\n"
    ++ codes "      accept Never;\n"
    ++ codes "   end Waiter;\n"
    ++ codes "begin\n"
    ++ codes "   abort Waiter;\n"
    ++ codes "end Main;\n"

unfoldable pub abort_image : Image
abort_image =
    record {
      declarations =
          declaration (codes "waiter") (codes "main.waiter") (kind.Task (task_unit 0)) (scope 1) 0 1 Free None
          ∷ [];
      expressions = [];
      statements =
          statement (form.CallMain) 0 None
          ∷ statement (form.Accept (entry 0) (scope 3)) 0 None
          ∷ statement (form.EndActivation) 0 (Some (stmt 1))
          ∷ statement (form.Abort ((decl 0) ∷ [])) 0 None
          ∷ statement (form.Activate 0) 0 (Some (stmt 3))
          ∷ statement (form.CreateTask (decl 0) 0) 0 (Some (stmt 4))
          ∷ [];
      scopes =
          scope_text None 0 [] false (Some (stmt 0))
          ∷ scope_text (Some (scope 0)) 1 [] true (Some (stmt 5))
          ∷ scope_text (Some (scope 1)) 0 [] false (Some (stmt 2))
          ∷ scope_text (Some (scope 2)) 0 [] false None
          ∷ [];
      subprograms = [];
      task_units =
          task_unit_text (scope 2) None None ((entry 0) ∷ [])
          ∷ [];
      protected_units = [];
      entries =
          entry_text (codes "never") (unit.Task (task_unit 0)) 0 [] None
          ∷ [];
      controlled_types = [];
      enumerations = [];
      policies = (policies [] queuing.Fifo None 30);
      environment = (scope 0);
      main = (main_procedure (codes "main") 15 (scope 1));
    }

unfoldable pub abort_trace : List ℕ
abort_trace =
    codes "0 t0 new main 15\n"
    ++ codes "0 t0 ready 15 tail\n"
    ++ codes "0 t0 run\n"
    ++ codes "4 t1 new main.waiter 15\n"
    ++ codes "6 t1 ready 15 tail\n"
    ++ codes "6 t0 block activation\n"
    ++ codes "6 t1 run\n"
    ++ codes "7 t0 ready 15 tail\n"
    ++ codes "9 t1 block accept\n"
    ++ codes "9 t0 run\n"
    ++ codes "11 t0 abort t1\n"
    ++ codes "11 t1 ready 15 tail\n"
    ++ codes "12 t0 leave 1 end\n"
    ++ codes "12 t0 block dependents\n"
    ++ codes "12 t1 run\n"
    ++ codes "13 t1 done\n"
    ++ codes "13 t0 ready 15 tail\n"
    ++ codes "13 t0 run\n"
    ++ codes "14 t0 left 1\n"
    ++ codes "15 t0 done\n"
    ++ codes "15 end completed\n"
