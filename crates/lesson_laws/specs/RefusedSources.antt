-- Sources that are refused, one by each stage of the front end.
use Rattle.std.specs.Prelude.{ℕ, List, codes, ◌++◌}
use Rattle.ann_base.specs.declared.places.Place.{Place}

abbrev pub at : ℕ → ℕ → Place
at line column = record { line = line; column = column }

unfoldable pub bad_byte_source : List ℕ
bad_byte_source =
    codes "procedure Main is\n"
    ++ codes "begin\n"
    ++ codes "   null; ?\n"
    ++ codes "end Main;\n"

unfoldable pub bad_number_source : List ℕ
bad_number_source =
    codes "procedure Main is\n"
    ++ codes "begin\n"
    ++ codes "   delay 16#FF#;\n"
    ++ codes "end Main;\n"

unfoldable pub open_text_source : List ℕ
open_text_source =
    codes "procedure Main is\n"
    ++ codes "begin\n"
    ++ codes "   Put_Line (\"hi);\n"
    ++ codes "end Main;\n"

unfoldable pub unexpected_source : List ℕ
unexpected_source =
    codes "procedure Main is\n"
    ++ codes "begin\n"
    ++ codes "   null\n"
    ++ codes "end Main;\n"

unfoldable pub too_deep_source : List ℕ
too_deep_source =
    codes "procedure Main is X : Integer := (((((((((((((((((((((((((((((((((((((((((((((((((((((((((((((((((((((((((((((((((((((((((((((((((((("

unfoldable pub unknown_source : List ℕ
unknown_source =
    codes "procedure Main is\n"
    ++ codes "begin\n"
    ++ codes "   Go;\n"
    ++ codes "end Main;\n"

unfoldable pub twice_source : List ℕ
twice_source =
    codes "procedure Main is\n"
    ++ codes "   task Worker;\n"
    ++ codes "   task Worker;\n"
    ++ codes "begin\n"
    ++ codes "   null;\n"
    ++ codes "end Main;\n"

unfoldable pub ambiguous_source : List ℕ
ambiguous_source =
    codes "package First is\n"
    ++ codes "   Failure : exception;\n"
    ++ codes "end First;\n"
    ++ codes "package Second is\n"
    ++ codes "   Failure : exception;\n"
    ++ codes "end Second;\n"
    ++ codes "with First; use First;\n"
    ++ codes "with Second; use Second;\n"
    ++ codes "procedure Main is\n"
    ++ codes "begin\n"
    ++ codes "   raise Failure;\n"
    ++ codes "end Main;\n"

unfoldable pub not_a_task_source : List ℕ
not_a_task_source =
    codes "procedure Main is\n"
    ++ codes "begin\n"
    ++ codes "   abort Main;\n"
    ++ codes "end Main;\n"
