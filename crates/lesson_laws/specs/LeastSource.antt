-- A main procedure that does nothing. Its image, and the text of its run.
use Rattle.std.specs.Prelude.{◌++◌, ℕ, List, [], ◌∷◌, Some, None, false, codes}
use Rattle.profile_image.specs.declared.image.Image.{Image}
use Rattle.profile_image.specs.declared.image.Queuing.TheVariants as queuing
use Rattle.profile_image.specs.declared.statements.StatementForm.TheVariants as form
use Rattle.profile_machine.specs.Notation.{stmt, scope, statement, scope_text, policies, main_procedure}

unfoldable pub least_source : List ℕ
least_source =
    codes "procedure Main is\n"
    ++ codes "begin\n"
    ++ codes "   null;\n"
    ++ codes "end Main;\n"

unfoldable pub least_image : Image
least_image =
    record {
      declarations = [];
      expressions = [];
      statements =
          statement (form.CallMain) 0 None
          ∷ statement (form.Null) 0 None
          ∷ [];
      scopes =
          scope_text None 0 [] false (Some (stmt 0))
          ∷ scope_text (Some (scope 0)) 0 [] false (Some (stmt 1))
          ∷ [];
      subprograms = [];
      task_units = [];
      protected_units = [];
      entries = [];
      controlled_types = [];
      enumerations = [];
      policies = (policies [] queuing.Fifo None 30);
      environment = (scope 0);
      main = (main_procedure (codes "main") 15 (scope 1));
    }

unfoldable pub least_trace : List ℕ
least_trace =
    codes "0 t0 new main 15\n"
    ++ codes "0 t0 ready 15 tail\n"
    ++ codes "0 t0 run\n"
    ++ codes "5 t0 done\n"
    ++ codes "5 end completed\n"
