use Rattle.std.specs.Prelude.{◌≡◌, ℕ, ℤ, pos, negsuc, List, [], ◌∷◌, Some, None, false, codes, refl}
use Rattle.ann_base.specs.declared.exceptions.Raised.TheVariants as exception
use Rattle.trace_text.specs.declared.events.Event.{Event}
use Rattle.trace_text.specs.declared.events.Event.TheVariants as line
use Rattle.trace_text.specs.declared.events.Created.TheVariants as created
use Rattle.trace_text.specs.declared.events.Ended.TheVariants as end
use Rattle.trace_text.specs.declared.events.QueueEnd.TheVariants.{Tail}
use Rattle.profile_image.specs.declared.script_items.Item.{Item}
use Rattle.profile_image.specs.declared.image.Image.{Image}
use Rattle.profile_image.specs.declared.image.Queuing.TheVariants as queuing
use Rattle.profile_image.specs.declared.values.Value.TheVariants.{Whole}
use Rattle.profile_image.specs.declared.values.Constraint.TheVariants.{Whole}
use Rattle.profile_image.specs.declared.declarations.DeclarationKind.TheVariants as kind
use Rattle.profile_image.specs.declared.declarations.Initial.TheVariants as initial
use Rattle.profile_image.specs.declared.declarations.ExceptionChoice.TheVariants as exception_choice
use Rattle.profile_image.specs.declared.statements.StatementForm.TheVariants as form
use Rattle.profile_image.specs.declared.statements.Callee.TheVariants as callee
use Rattle.profile_image.specs.declared.statements.Destination.TheVariants as destination
use Rattle.profile_machine.specs.Notation.{decl, stmt, scope, subprogram, task, t, declaration, statement, handler, scope_text, subprogram_text, policies, main_procedure}
use Rattle.profile_machine.specs.Run.{run_of}
use Rattle.profile_machine.specs.Computing.{computing}
use Rattle.std.specs.Fmt.{digits}

-- Row room.handled: its run up to tick 521.
abbrev pub row_room_handled_program : Image
row_room_handled_program =
    record {
      declarations =
          declaration (codes "x") (codes "main.p.x") (kind.Object initial.Default) (scope 4) 0 1 (Whole (negsuc 2147483647) (pos 2147483647)) None
          ∷ [];
      expressions = [];
      statements =
          statement (form.CallMain) 0 None
          ∷ statement (form.Handled (handler (exception_choice.Named exception.Program ∷ []) (stmt 187) ∷ []) (stmt 2)) 0 None
          ∷ statement (form.Block (scope 3)) 0 None
          ∷ statement (form.Handled (handler (exception_choice.Named exception.Program ∷ []) (stmt 186) ∷ []) (stmt 4)) 0 None
          ∷ statement (form.Block (scope 4)) 0 None
          ∷ statement (form.Handled (handler (exception_choice.Named exception.Program ∷ []) (stmt 184) ∷ []) (stmt 6)) 0 None
          ∷ statement (form.Block (scope 5)) 0 None
          ∷ statement (form.Handled (handler (exception_choice.Named exception.Program ∷ []) (stmt 183) ∷ []) (stmt 8)) 0 None
          ∷ statement (form.Block (scope 6)) 0 None
          ∷ statement (form.Handled (handler (exception_choice.Named exception.Program ∷ []) (stmt 182) ∷ []) (stmt 10)) 0 None
          ∷ statement (form.Block (scope 7)) 0 None
          ∷ statement (form.Handled (handler (exception_choice.Named exception.Program ∷ []) (stmt 181) ∷ []) (stmt 12)) 0 None
          ∷ statement (form.Block (scope 8)) 0 None
          ∷ statement (form.Handled (handler (exception_choice.Named exception.Program ∷ []) (stmt 180) ∷ []) (stmt 14)) 0 None
          ∷ statement (form.Block (scope 9)) 0 None
          ∷ statement (form.Handled (handler (exception_choice.Named exception.Program ∷ []) (stmt 179) ∷ []) (stmt 16)) 0 None
          ∷ statement (form.Block (scope 10)) 0 None
          ∷ statement (form.Handled (handler (exception_choice.Named exception.Program ∷ []) (stmt 178) ∷ []) (stmt 18)) 0 None
          ∷ statement (form.Block (scope 11)) 0 None
          ∷ statement (form.Handled (handler (exception_choice.Named exception.Program ∷ []) (stmt 177) ∷ []) (stmt 20)) 0 None
          ∷ statement (form.Block (scope 12)) 0 None
          ∷ statement (form.Handled (handler (exception_choice.Named exception.Program ∷ []) (stmt 176) ∷ []) (stmt 22)) 0 None
          ∷ statement (form.Block (scope 13)) 0 None
          ∷ statement (form.Handled (handler (exception_choice.Named exception.Program ∷ []) (stmt 175) ∷ []) (stmt 24)) 0 None
          ∷ statement (form.Block (scope 14)) 0 None
          ∷ statement (form.Handled (handler (exception_choice.Named exception.Program ∷ []) (stmt 174) ∷ []) (stmt 26)) 0 None
          ∷ statement (form.Block (scope 15)) 0 None
          ∷ statement (form.Handled (handler (exception_choice.Named exception.Program ∷ []) (stmt 173) ∷ []) (stmt 28)) 0 None
          ∷ statement (form.Block (scope 16)) 0 None
          ∷ statement (form.Handled (handler (exception_choice.Named exception.Program ∷ []) (stmt 172) ∷ []) (stmt 30)) 0 None
          ∷ statement (form.Block (scope 17)) 0 None
          ∷ statement (form.Handled (handler (exception_choice.Named exception.Program ∷ []) (stmt 171) ∷ []) (stmt 32)) 0 None
          ∷ statement (form.Block (scope 18)) 0 None
          ∷ statement (form.Handled (handler (exception_choice.Named exception.Program ∷ []) (stmt 170) ∷ []) (stmt 34)) 0 None
          ∷ statement (form.Block (scope 19)) 0 None
          ∷ statement (form.Handled (handler (exception_choice.Named exception.Program ∷ []) (stmt 169) ∷ []) (stmt 36)) 0 None
          ∷ statement (form.Block (scope 20)) 0 None
          ∷ statement (form.Handled (handler (exception_choice.Named exception.Program ∷ []) (stmt 168) ∷ []) (stmt 38)) 0 None
          ∷ statement (form.Block (scope 21)) 0 None
          ∷ statement (form.Handled (handler (exception_choice.Named exception.Program ∷ []) (stmt 167) ∷ []) (stmt 40)) 0 None
          ∷ statement (form.Block (scope 22)) 0 None
          ∷ statement (form.Handled (handler (exception_choice.Named exception.Program ∷ []) (stmt 166) ∷ []) (stmt 42)) 0 None
          ∷ statement (form.Block (scope 23)) 0 None
          ∷ statement (form.Handled (handler (exception_choice.Named exception.Program ∷ []) (stmt 165) ∷ []) (stmt 44)) 0 None
          ∷ statement (form.Block (scope 24)) 0 None
          ∷ statement (form.Handled (handler (exception_choice.Named exception.Program ∷ []) (stmt 164) ∷ []) (stmt 46)) 0 None
          ∷ statement (form.Block (scope 25)) 0 None
          ∷ statement (form.Handled (handler (exception_choice.Named exception.Program ∷ []) (stmt 163) ∷ []) (stmt 48)) 0 None
          ∷ statement (form.Block (scope 26)) 0 None
          ∷ statement (form.Handled (handler (exception_choice.Named exception.Program ∷ []) (stmt 162) ∷ []) (stmt 50)) 0 None
          ∷ statement (form.Block (scope 27)) 0 None
          ∷ statement (form.Handled (handler (exception_choice.Named exception.Program ∷ []) (stmt 161) ∷ []) (stmt 52)) 0 None
          ∷ statement (form.Block (scope 28)) 0 None
          ∷ statement (form.Handled (handler (exception_choice.Named exception.Program ∷ []) (stmt 160) ∷ []) (stmt 54)) 0 None
          ∷ statement (form.Block (scope 29)) 0 None
          ∷ statement (form.Handled (handler (exception_choice.Named exception.Program ∷ []) (stmt 159) ∷ []) (stmt 56)) 0 None
          ∷ statement (form.Block (scope 30)) 0 None
          ∷ statement (form.Handled (handler (exception_choice.Named exception.Program ∷ []) (stmt 158) ∷ []) (stmt 58)) 0 None
          ∷ statement (form.Block (scope 31)) 0 None
          ∷ statement (form.Handled (handler (exception_choice.Named exception.Program ∷ []) (stmt 157) ∷ []) (stmt 60)) 0 None
          ∷ statement (form.Block (scope 32)) 0 None
          ∷ statement (form.Handled (handler (exception_choice.Named exception.Program ∷ []) (stmt 156) ∷ []) (stmt 62)) 0 None
          ∷ statement (form.Block (scope 33)) 0 None
          ∷ statement (form.Handled (handler (exception_choice.Named exception.Program ∷ []) (stmt 155) ∷ []) (stmt 64)) 0 None
          ∷ statement (form.Block (scope 34)) 0 None
          ∷ statement (form.Handled (handler (exception_choice.Named exception.Program ∷ []) (stmt 154) ∷ []) (stmt 66)) 0 None
          ∷ statement (form.Block (scope 35)) 0 None
          ∷ statement (form.Handled (handler (exception_choice.Named exception.Program ∷ []) (stmt 153) ∷ []) (stmt 68)) 0 None
          ∷ statement (form.Block (scope 36)) 0 None
          ∷ statement (form.Handled (handler (exception_choice.Named exception.Program ∷ []) (stmt 152) ∷ []) (stmt 70)) 0 None
          ∷ statement (form.Block (scope 37)) 0 None
          ∷ statement (form.Handled (handler (exception_choice.Named exception.Program ∷ []) (stmt 151) ∷ []) (stmt 72)) 0 None
          ∷ statement (form.Block (scope 38)) 0 None
          ∷ statement (form.Handled (handler (exception_choice.Named exception.Program ∷ []) (stmt 150) ∷ []) (stmt 74)) 0 None
          ∷ statement (form.Block (scope 39)) 0 None
          ∷ statement (form.Handled (handler (exception_choice.Named exception.Program ∷ []) (stmt 149) ∷ []) (stmt 76)) 0 None
          ∷ statement (form.Block (scope 40)) 0 None
          ∷ statement (form.Handled (handler (exception_choice.Named exception.Program ∷ []) (stmt 148) ∷ []) (stmt 78)) 0 None
          ∷ statement (form.Block (scope 41)) 0 None
          ∷ statement (form.Handled (handler (exception_choice.Named exception.Program ∷ []) (stmt 147) ∷ []) (stmt 80)) 0 None
          ∷ statement (form.Block (scope 42)) 0 None
          ∷ statement (form.Handled (handler (exception_choice.Named exception.Program ∷ []) (stmt 146) ∷ []) (stmt 82)) 0 None
          ∷ statement (form.Block (scope 43)) 0 None
          ∷ statement (form.Handled (handler (exception_choice.Named exception.Program ∷ []) (stmt 145) ∷ []) (stmt 84)) 0 None
          ∷ statement (form.Block (scope 44)) 0 None
          ∷ statement (form.Handled (handler (exception_choice.Named exception.Program ∷ []) (stmt 144) ∷ []) (stmt 86)) 0 None
          ∷ statement (form.Block (scope 45)) 0 None
          ∷ statement (form.Handled (handler (exception_choice.Named exception.Program ∷ []) (stmt 143) ∷ []) (stmt 88)) 0 None
          ∷ statement (form.Block (scope 46)) 0 None
          ∷ statement (form.Handled (handler (exception_choice.Named exception.Program ∷ []) (stmt 142) ∷ []) (stmt 90)) 0 None
          ∷ statement (form.Block (scope 47)) 0 None
          ∷ statement (form.Handled (handler (exception_choice.Named exception.Program ∷ []) (stmt 141) ∷ []) (stmt 92)) 0 None
          ∷ statement (form.Block (scope 48)) 0 None
          ∷ statement (form.Handled (handler (exception_choice.Named exception.Program ∷ []) (stmt 140) ∷ []) (stmt 94)) 0 None
          ∷ statement (form.Block (scope 49)) 0 None
          ∷ statement (form.Handled (handler (exception_choice.Named exception.Program ∷ []) (stmt 139) ∷ []) (stmt 96)) 0 None
          ∷ statement (form.Block (scope 50)) 0 None
          ∷ statement (form.Handled (handler (exception_choice.Named exception.Program ∷ []) (stmt 138) ∷ []) (stmt 98)) 0 None
          ∷ statement (form.Block (scope 51)) 0 None
          ∷ statement (form.Handled (handler (exception_choice.Named exception.Program ∷ []) (stmt 137) ∷ []) (stmt 100)) 0 None
          ∷ statement (form.Block (scope 52)) 0 None
          ∷ statement (form.Handled (handler (exception_choice.Named exception.Program ∷ []) (stmt 136) ∷ []) (stmt 102)) 0 None
          ∷ statement (form.Block (scope 53)) 0 None
          ∷ statement (form.Handled (handler (exception_choice.Named exception.Program ∷ []) (stmt 135) ∷ []) (stmt 104)) 0 None
          ∷ statement (form.Block (scope 54)) 0 None
          ∷ statement (form.Handled (handler (exception_choice.Named exception.Program ∷ []) (stmt 134) ∷ []) (stmt 106)) 0 None
          ∷ statement (form.Block (scope 55)) 0 None
          ∷ statement (form.Handled (handler (exception_choice.Named exception.Program ∷ []) (stmt 133) ∷ []) (stmt 108)) 0 None
          ∷ statement (form.Block (scope 56)) 0 None
          ∷ statement (form.Handled (handler (exception_choice.Named exception.Program ∷ []) (stmt 132) ∷ []) (stmt 110)) 0 None
          ∷ statement (form.Block (scope 57)) 0 None
          ∷ statement (form.Handled (handler (exception_choice.Named exception.Program ∷ []) (stmt 131) ∷ []) (stmt 112)) 0 None
          ∷ statement (form.Block (scope 58)) 0 None
          ∷ statement (form.Handled (handler (exception_choice.Named exception.Program ∷ []) (stmt 130) ∷ []) (stmt 114)) 0 None
          ∷ statement (form.Block (scope 59)) 0 None
          ∷ statement (form.Handled (handler (exception_choice.Named exception.Program ∷ []) (stmt 129) ∷ []) (stmt 116)) 0 None
          ∷ statement (form.Block (scope 60)) 0 None
          ∷ statement (form.Handled (handler (exception_choice.Named exception.Program ∷ []) (stmt 128) ∷ []) (stmt 118)) 0 None
          ∷ statement (form.Block (scope 61)) 0 None
          ∷ statement (form.Handled (handler (exception_choice.Named exception.Program ∷ []) (stmt 127) ∷ []) (stmt 120)) 0 None
          ∷ statement (form.Block (scope 62)) 0 None
          ∷ statement (form.Handled (handler (exception_choice.Named exception.Program ∷ []) (stmt 126) ∷ []) (stmt 122)) 0 None
          ∷ statement (form.Block (scope 63)) 0 None
          ∷ statement (form.Handled (handler (exception_choice.Named exception.Program ∷ []) (stmt 125) ∷ []) (stmt 124)) 0 None
          ∷ statement (form.Call (callee.Subprogram (subprogram 0)) [] destination.Nowhere) 0 None
          ∷ statement (form.Null) 0 None
          ∷ statement (form.Null) 0 None
          ∷ statement (form.Null) 0 None
          ∷ statement (form.Null) 0 None
          ∷ statement (form.Null) 0 None
          ∷ statement (form.Null) 0 None
          ∷ statement (form.Null) 0 None
          ∷ statement (form.Null) 0 None
          ∷ statement (form.Null) 0 None
          ∷ statement (form.Null) 0 None
          ∷ statement (form.Null) 0 None
          ∷ statement (form.Null) 0 None
          ∷ statement (form.Null) 0 None
          ∷ statement (form.Null) 0 None
          ∷ statement (form.Null) 0 None
          ∷ statement (form.Null) 0 None
          ∷ statement (form.Null) 0 None
          ∷ statement (form.Null) 0 None
          ∷ statement (form.Null) 0 None
          ∷ statement (form.Null) 0 None
          ∷ statement (form.Null) 0 None
          ∷ statement (form.Null) 0 None
          ∷ statement (form.Null) 0 None
          ∷ statement (form.Null) 0 None
          ∷ statement (form.Null) 0 None
          ∷ statement (form.Null) 0 None
          ∷ statement (form.Null) 0 None
          ∷ statement (form.Null) 0 None
          ∷ statement (form.Null) 0 None
          ∷ statement (form.Null) 0 None
          ∷ statement (form.Null) 0 None
          ∷ statement (form.Null) 0 None
          ∷ statement (form.Null) 0 None
          ∷ statement (form.Null) 0 None
          ∷ statement (form.Null) 0 None
          ∷ statement (form.Null) 0 None
          ∷ statement (form.Null) 0 None
          ∷ statement (form.Null) 0 None
          ∷ statement (form.Null) 0 None
          ∷ statement (form.Null) 0 None
          ∷ statement (form.Null) 0 None
          ∷ statement (form.Null) 0 None
          ∷ statement (form.Null) 0 None
          ∷ statement (form.Null) 0 None
          ∷ statement (form.Null) 0 None
          ∷ statement (form.Null) 0 None
          ∷ statement (form.Null) 0 None
          ∷ statement (form.Null) 0 None
          ∷ statement (form.Null) 0 None
          ∷ statement (form.Null) 0 None
          ∷ statement (form.Null) 0 None
          ∷ statement (form.Null) 0 None
          ∷ statement (form.Null) 0 None
          ∷ statement (form.Null) 0 None
          ∷ statement (form.Null) 0 None
          ∷ statement (form.Null) 0 None
          ∷ statement (form.Null) 0 None
          ∷ statement (form.Null) 0 None
          ∷ statement (form.Null) 0 None
          ∷ statement (form.Null) 0 None
          ∷ statement (form.Declare (decl 0)) 0 (Some (stmt 5))
          ∷ statement (form.Null) 0 None
          ∷ statement (form.Null) 0 None
          ∷ statement (form.Handled (handler (exception_choice.Named exception.Program ∷ []) (stmt 190) ∷ []) (stmt 189)) 0 None
          ∷ statement (form.Call (callee.Subprogram (subprogram 0)) [] destination.Nowhere) 0 None
          ∷ statement (form.Null) 0 None
          ∷ [];
      scopes =
          scope_text None 0 [] false (Some (stmt 0))
          ∷ scope_text (Some (scope 0)) 0 [] false (Some (stmt 188))
          ∷ scope_text (Some (scope 1)) 0 [] false (Some (stmt 1))
          ∷ scope_text (Some (scope 2)) 0 [] false (Some (stmt 3))
          ∷ scope_text (Some (scope 3)) 1 [] false (Some (stmt 185))
          ∷ scope_text (Some (scope 4)) 0 [] false (Some (stmt 7))
          ∷ scope_text (Some (scope 5)) 0 [] false (Some (stmt 9))
          ∷ scope_text (Some (scope 6)) 0 [] false (Some (stmt 11))
          ∷ scope_text (Some (scope 7)) 0 [] false (Some (stmt 13))
          ∷ scope_text (Some (scope 8)) 0 [] false (Some (stmt 15))
          ∷ scope_text (Some (scope 9)) 0 [] false (Some (stmt 17))
          ∷ scope_text (Some (scope 10)) 0 [] false (Some (stmt 19))
          ∷ scope_text (Some (scope 11)) 0 [] false (Some (stmt 21))
          ∷ scope_text (Some (scope 12)) 0 [] false (Some (stmt 23))
          ∷ scope_text (Some (scope 13)) 0 [] false (Some (stmt 25))
          ∷ scope_text (Some (scope 14)) 0 [] false (Some (stmt 27))
          ∷ scope_text (Some (scope 15)) 0 [] false (Some (stmt 29))
          ∷ scope_text (Some (scope 16)) 0 [] false (Some (stmt 31))
          ∷ scope_text (Some (scope 17)) 0 [] false (Some (stmt 33))
          ∷ scope_text (Some (scope 18)) 0 [] false (Some (stmt 35))
          ∷ scope_text (Some (scope 19)) 0 [] false (Some (stmt 37))
          ∷ scope_text (Some (scope 20)) 0 [] false (Some (stmt 39))
          ∷ scope_text (Some (scope 21)) 0 [] false (Some (stmt 41))
          ∷ scope_text (Some (scope 22)) 0 [] false (Some (stmt 43))
          ∷ scope_text (Some (scope 23)) 0 [] false (Some (stmt 45))
          ∷ scope_text (Some (scope 24)) 0 [] false (Some (stmt 47))
          ∷ scope_text (Some (scope 25)) 0 [] false (Some (stmt 49))
          ∷ scope_text (Some (scope 26)) 0 [] false (Some (stmt 51))
          ∷ scope_text (Some (scope 27)) 0 [] false (Some (stmt 53))
          ∷ scope_text (Some (scope 28)) 0 [] false (Some (stmt 55))
          ∷ scope_text (Some (scope 29)) 0 [] false (Some (stmt 57))
          ∷ scope_text (Some (scope 30)) 0 [] false (Some (stmt 59))
          ∷ scope_text (Some (scope 31)) 0 [] false (Some (stmt 61))
          ∷ scope_text (Some (scope 32)) 0 [] false (Some (stmt 63))
          ∷ scope_text (Some (scope 33)) 0 [] false (Some (stmt 65))
          ∷ scope_text (Some (scope 34)) 0 [] false (Some (stmt 67))
          ∷ scope_text (Some (scope 35)) 0 [] false (Some (stmt 69))
          ∷ scope_text (Some (scope 36)) 0 [] false (Some (stmt 71))
          ∷ scope_text (Some (scope 37)) 0 [] false (Some (stmt 73))
          ∷ scope_text (Some (scope 38)) 0 [] false (Some (stmt 75))
          ∷ scope_text (Some (scope 39)) 0 [] false (Some (stmt 77))
          ∷ scope_text (Some (scope 40)) 0 [] false (Some (stmt 79))
          ∷ scope_text (Some (scope 41)) 0 [] false (Some (stmt 81))
          ∷ scope_text (Some (scope 42)) 0 [] false (Some (stmt 83))
          ∷ scope_text (Some (scope 43)) 0 [] false (Some (stmt 85))
          ∷ scope_text (Some (scope 44)) 0 [] false (Some (stmt 87))
          ∷ scope_text (Some (scope 45)) 0 [] false (Some (stmt 89))
          ∷ scope_text (Some (scope 46)) 0 [] false (Some (stmt 91))
          ∷ scope_text (Some (scope 47)) 0 [] false (Some (stmt 93))
          ∷ scope_text (Some (scope 48)) 0 [] false (Some (stmt 95))
          ∷ scope_text (Some (scope 49)) 0 [] false (Some (stmt 97))
          ∷ scope_text (Some (scope 50)) 0 [] false (Some (stmt 99))
          ∷ scope_text (Some (scope 51)) 0 [] false (Some (stmt 101))
          ∷ scope_text (Some (scope 52)) 0 [] false (Some (stmt 103))
          ∷ scope_text (Some (scope 53)) 0 [] false (Some (stmt 105))
          ∷ scope_text (Some (scope 54)) 0 [] false (Some (stmt 107))
          ∷ scope_text (Some (scope 55)) 0 [] false (Some (stmt 109))
          ∷ scope_text (Some (scope 56)) 0 [] false (Some (stmt 111))
          ∷ scope_text (Some (scope 57)) 0 [] false (Some (stmt 113))
          ∷ scope_text (Some (scope 58)) 0 [] false (Some (stmt 115))
          ∷ scope_text (Some (scope 59)) 0 [] false (Some (stmt 117))
          ∷ scope_text (Some (scope 60)) 0 [] false (Some (stmt 119))
          ∷ scope_text (Some (scope 61)) 0 [] false (Some (stmt 121))
          ∷ scope_text (Some (scope 62)) 0 [] false (Some (stmt 123))
          ∷ [];
      subprograms =
          subprogram_text (codes "p") (scope 2) [] None None
          ∷ [];
      task_units = [];
      protected_units = [];
      entries = [];
      controlled_types = [];
      enumerations = [];
      policies = (policies [] queuing.Fifo None 30);
      environment = (scope 0);
      main = (main_procedure (codes "main") 15 (scope 1));
    }

abbrev pub row_room_handled_script : List (ℤ × Item)
row_room_handled_script = []

-- the lines of its run up to tick 521
unfoldable pub row_room_handled_lines : List (ℕ × Event)
row_room_handled_lines = run_of row_room_handled_program row_room_handled_script 521

unfoldable pub row_room_handled_trace : List (ℕ × Event)
row_room_handled_trace =
    (0, line.New (created.Task (task 0)) (codes "main") 15)
    ∷ (0, line.Ready (t 0) 15 Tail None)
    ∷ (0, line.Run (t 0))
    ∷ (519, line.Raise (t 0) (codes "storage_error"))
    ∷ (521, line.End end.Bound)
    ∷ []

pub row_room_handled_runs : row_room_handled_lines ≡ row_room_handled_trace
unfolding row_room_handled_lines row_room_handled_trace digits computing
row_room_handled_runs = refl
