use Rattle.machine_controlled.proofs.assigning.copy_object.Goals as goal

pub returns : goal.returns
returns c = rw (c.in_ok-target.ensures, c.in_ok-source.ensures, c.cells_of_components-count.ensures) at c.copy_components_of.ensures
