-- The first lesson: a line is put. Its image, and the text of its run.
use Rattle.std.specs.Prelude.{◌++◌, ℕ, List, [], ◌∷◌, Some, None, false, codes}
use Rattle.profile_image.specs.declared.image.Image.{Image}
use Rattle.profile_image.specs.declared.image.Queuing.TheVariants as queuing
use Rattle.profile_image.specs.declared.statements.StatementForm.TheVariants as form
use Rattle.profile_image.specs.declared.statements.Piece.TheVariants as piece
use Rattle.profile_machine.specs.Notation.{stmt, scope, statement, scope_text, policies, main_procedure}

unfoldable pub hello_source : List ℕ
hello_source =
    codes "with Ada.Text_IO; use Ada.Text_IO;\n"
    ++ codes "procedure Main is\n"
    ++ codes "begin\n"
    ++ codes "   null;\n"
    ++ codes "   Put_Line (\"hi\");\n"
    ++ codes "end Main;\n"

unfoldable pub hello_image : Image
hello_image =
    record {
      declarations = [];
      expressions = [];
      statements =
          statement (form.CallMain) 0 None
          ∷ statement (form.PutLine (piece.Text (codes "hi") ∷ [])) 0 None
          ∷ statement (form.Null) 0 (Some (stmt 1))
          ∷ [];
      scopes =
          scope_text None 0 [] false (Some (stmt 0))
          ∷ scope_text (Some (scope 0)) 0 [] false (Some (stmt 2))
          ∷ [];
      subprograms = [];
      task_units = [];
      protected_units = [];
      entries = [];
      controlled_types = [];
      enumerations = [];
      policies = (policies [] queuing.Fifo None 30);
      environment = (scope 0);
      main = (main_procedure (codes "main") 15 (scope 1));
    }

unfoldable pub hello_trace : List ℕ
hello_trace =
    codes "0 t0 new main 15\n"
    ++ codes "0 t0 ready 15 tail\n"
    ++ codes "0 t0 run\n"
    ++ codes "7 t0 put hi\n"
    ++ codes "9 t0 done\n"
    ++ codes "9 end completed\n"
