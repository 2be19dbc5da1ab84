-- Cells that are written: each change keeps a relation that its parts keep.
use Rattle.std.specs.Prelude.{ℕ, List, Ok, slice_set}
use Rattle.profile_image.specs.declared.image.Image.{Image}
use Rattle.profile_image.specs.declared.values.Value.{Value}
use Rattle.profile_machine.specs.declared.world.scopes.ScopeId.{ScopeId}
use Rattle.profile_machine.specs.Scopes.{edit_cells, write_cell, put_cells}
use Rattle.machine_laws.proofs.Moves.{StepRelation}
use Rattle.machine_laws.proofs.FineMoves.{GoodWorld, Naming}
use Rattle.profile_machine.specs.declared.world.World.{World}
use Rattle.profile_machine.specs.declared.world.scopes.Variable.{Variable}
use Rattle.profile_image.specs.Program.{declaration_of}
use Rattle.profile_machine.specs.Operators.{checked}
use Rattle.profile_machine.specs.CallEnds.{store}
use Rattle.profile_machine.specs.Values.{value}
use Rattle.profile_machine.specs.Statements.{cells_from, copy_cells}
use Rattle.machine_laws.proofs.Kept.Combinators.{Alters, Gives, bind-gives, ok-gives}
use Rattle.machine_laws.proofs.Plain.PlainSteps.{PlainSteps}

module _ {G : GoodWorld} {Goes : Naming} {R : StepRelation} (plain : PlainSteps G Goes R) where
  pub edit_cells-alters : (id : ScopeId) (f : List Value → List Value) → Alters G R (edit_cells id f)
  unfolding Alters
  edit_cells-alters id f w good = plain.edits_cells id f w good

  pub write_cell-alters : (id : ScopeId) (place : ℕ) (value : Value) → Alters G R (write_cell id place value)
  write_cell-alters id place value = search (edit_cells-alters)

  pub store-gives : (p : Image) (v : Variable) (value : Value) (w : World) → G w → Gives R w (store p v value w)
  store-gives p v value w good =
      bind-gives plain.chains (checked (declaration_of p v.declared).constraint value) (λ x. Ok (write_cell v.within v.place x w)) w
      (λ x. ok-gives plain.chains w (write_cell v.within v.place x w) (plain.edits_cells v.within (λ cells. slice_set cells v.place x) w good))

  pub copy_cells-alters : (p : Image) (target source : Variable) → Alters G R (copy_cells p target source)
  unfolding Alters
  copy_cells-alters p target source w good =
      plain.edits_cells target.within (put_cells target.place (cells_from w source (declaration_of p source.declared).cells)) w good
