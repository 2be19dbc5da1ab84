-- A call of a protected procedure. Its image, and the text of its run.
use Rattle.std.specs.Prelude.{◌++◌, ℕ, List, [], ◌∷◌, Some, None, false, codes}
use Rattle.profile_image.specs.declared.image.Image.{Image}
use Rattle.profile_image.specs.declared.image.Queuing.TheVariants as queuing
use Rattle.profile_image.specs.declared.values.Constraint.TheVariants.{Free}
use Rattle.profile_image.specs.declared.declarations.DeclarationKind.TheVariants as kind
use Rattle.profile_image.specs.declared.statements.StatementForm.TheVariants as form
use Rattle.profile_image.specs.declared.statements.Callee.TheVariants as callee
use Rattle.profile_image.specs.declared.statements.Destination.TheVariants as destination
use Rattle.profile_machine.specs.Notation.{decl, stmt, scope, subprogram, protected_unit, declaration, statement}
use Rattle.profile_machine.specs.Notation.{scope_text, subprogram_text, protected_unit_text, policies, main_procedure}

unfoldable pub protected_source : List ℕ
protected_source =
    codes "procedure Main is\n"
    ++ codes "   protected Gate is\n"
    ++ codes "      procedure Open;\n"
    ++ codes "   end Gate;\n"
    ++ codes "   protected body Gate is\n"
    ++ codes "      procedure Open is\n"
    ++ codes "      begin\n"
    ++ codes "         null;\n"
    ++ codes "      end Open;\n"
    ++ codes "   end Gate;\n"
    ++ codes "begin\n"
    ++ codes "   Gate.Open;\n"
    ++ codes "end Main;\n"

unfoldable pub protected_image : Image
protected_image =
    record {
      declarations =
          declaration (codes "gate") (codes "main.gate") (kind.Protected (protected_unit 0)) (scope 1) 0 16 Free None
          ∷ [];
      expressions = [];
      statements =
          statement (form.CallMain) 0 None
          ∷ statement (form.Null) 0 None
          ∷ statement (form.Call (callee.Operation (decl 0) (subprogram 0)) [] destination.Nowhere) 0 None
          ∷ statement (form.Declare (decl 0)) 0 (Some (stmt 2))
          ∷ [];
      scopes =
          scope_text None 0 [] false (Some (stmt 0))
          ∷ scope_text (Some (scope 0)) 16 [] false (Some (stmt 3))
          ∷ scope_text (Some (scope 1)) 0 [] false (Some (stmt 1))
          ∷ [];
      subprograms =
          subprogram_text (codes "open") (scope 2) [] None (Some (protected_unit 0))
          ∷ [];
      task_units = [];
      protected_units =
          protected_unit_text 30 [] [] []
          ∷ [];
      entries = [];
      controlled_types = [];
      enumerations = [];
      policies = (policies [] queuing.Fifo None 30);
      environment = (scope 0);
      main = (main_procedure (codes "main") 15 (scope 1));
    }

unfoldable pub protected_trace : List ℕ
protected_trace =
    codes "0 t0 new main 15\n"
    ++ codes "0 t0 ready 15 tail\n"
    ++ codes "0 t0 run\n"
    ++ codes "3 p1 new main.gate 30\n"
    ++ codes "5 t0 enter p1 write\n"
    ++ codes "5 t0 ready 30 head\n"
    ++ codes "8 t0 exit p1\n"
    ++ codes "8 t0 ready 15 head\n"
    ++ codes "10 t0 done\n"
    ++ codes "10 end completed\n"
