-- Scopes begin with as many cells as their text says, edits of cells keep how many there are, and a scope that ends takes its own.
use Rattle.std.proofs.Common.{◌≡◌, ◌∙◌}
use Rattle.std.specs.Prelude.{ℕ, Bool, true, false, List, eqb, length, slice_set}
use Rattle.std.specs.List.{list_all}
use Rattle.trace_text.specs.declared.events.Who.{Who}
use Rattle.profile_image.specs.declared.image.Image.{Image}
use Rattle.profile_image.specs.declared.numbers.ScopeNo.{ScopeNo}
use Rattle.profile_image.specs.declared.values.Value.{Value}
use Rattle.profile_machine.specs.declared.world.marks.Purpose.{Purpose}
use Rattle.profile_machine.specs.declared.world.scopes.ScopeId.{ScopeId}
use Rattle.profile_machine.specs.declared.world.scopes.ScopeInUse.{ScopeInUse}
use Rattle.profile_machine.specs.declared.world.scopes.Beginning.{Beginning}
use Rattle.profile_image.specs.Program.{scope_of, initial_cells}
use Rattle.profile_machine.specs.Frames.{new_frame}
use Rattle.profile_machine.specs.Scopes.{is_id, with_cells, edit_cells, write_cell, put_cells, next_id, begin_scope}
use Rattle.profile_machine.specs.Scopes.{draw_region, region_of_next, new_scope_mark, open_scope, end_scope}
use Rattle.profile_machine.specs.Values.{value}
use Rattle.profile_machine.specs.WellFormed.{has_its_cells}
use Rattle.world_laws.proofs.Cells.CellLists.{length-initial_cells, length-put_cells, length-slice_set, edit_where-all, without-all}
use Rattle.std.proofs.lemmas.Bool.{and_from, eq-eqb, eqb-true}
use Rattle.world_laws.proofs.Cells.RightCells.{Right, Alters}
use Rattle.world_laws.proofs.Cells.Kept.Frames.{push-alters}

-- ---- cells

cells_kept : (p : Image) (f : List Value → List Value) → ((cells : List Value) → length (f cells) ≡ length cells) → (s : ScopeInUse) → has_its_cells p s ≡ true
    → has_its_cells p (with_cells f s) ≡ true
cells_kept p f same s e = eq-eqb (length (f s.cells)) (scope_of p s.scope).size (same s.cells ∙ eqb-true (length s.cells) (scope_of p s.scope).size e)

-- an edit that keeps how many there are
pub edit_cells-alters : {p : Image} (id : ScopeId) (f : List Value → List Value) → ((cells : List Value) → length (f cells) ≡ length cells)
    → Alters p (edit_cells id f)
unfolding Right
edit_cells-alters {p = p} id f same = record { at = λ w right. edit_where-all (has_its_cells p) (is_id id) (with_cells f) w.scopes (cells_kept p f same) right }

-- cells that are put from a place on
pub put_cells-alters : {p : Image} (id : ScopeId) (place : ℕ) (vs : List Value) → Alters p (edit_cells id (put_cells place vs))
put_cells-alters id place vs = edit_cells-alters id (put_cells place vs) (length-put_cells place vs)

pub write_cell-alters : {p : Image} (id : ScopeId) (place : ℕ) (value : Value) → Alters p (write_cell id place value)
write_cell-alters id place value = edit_cells-alters id (λ cells. slice_set cells place value) (λ cells. length-slice_set cells place value)

-- ---- a scope begins

begun_cells : (p : Image) (scope : ScopeNo) (values : List Value)
    → eqb (length (put_cells 0 values (initial_cells (scope_of p scope)))) (scope_of p scope).size ≡ true
begun_cells p scope values = eq-eqb _ _ (length-put_cells 0 values (initial_cells (scope_of p scope)) ∙ length-initial_cells (scope_of p scope))

pub begin_scope-alters : (p : Image) (name : Who) (scope : ScopeNo) (b : Beginning) → Alters p (begin_scope p name scope b)
unfolding Right
begin_scope-alters p name scope b = record {
  at =
      λ w right. and_from (eqb (length (put_cells 0 b.values (initial_cells (scope_of p scope)))) (scope_of p scope).size) (list_all (has_its_cells p) w.scopes)
      (begun_cells p scope b.values) right;
}

pub draw_region-alters : {p : Image} (kept : Bool) → Alters p (draw_region kept)
unfolding Right
draw_region-alters true = record { at = λ w right. right }
draw_region-alters false = record { at = λ w right. right }

pub open_scope-alters : (p : Image) (name : Who) (scope : ScopeNo) (b : Beginning) (purpose : Purpose) → Alters p (open_scope p name scope b purpose)
open_scope-alters p name scope b purpose = record {
  at = λ w right.
      let text = scope_of p scope in
      let begun = begin_scope p name scope b w in
      (push-alters name (new_frame (new_scope_mark (next_id w) (region_of_next text.kept w) purpose) text.first)).at (draw_region text.kept begun)
      ((draw_region-alters text.kept).at begun ((begin_scope-alters p name scope b).at w right));
}

-- ---- a scope ends

pub end_scope-alters : {p : Image} (id : ScopeId) → Alters p (end_scope id)
unfolding Right
end_scope-alters {p = p} id = record { at = λ w right. without-all (has_its_cells p) (is_id id) w.scopes right }
