-- What a number leads to that names no item.
use Rattle.machine_program.specs.declared.items.Nothing.{Nothing}
use Rattle.profile_image.specs.Program.{no_declaration, no_statement, no_scope, no_subprogram}
use Rattle.profile_image.specs.Program.{no_task_unit, no_protected_unit, no_entry, no_controlled}

abbrev pub no_items : Nothing
no_items = record {
  declaration = no_declaration;
  statement = no_statement;
  scope = no_scope;
  subprogram = no_subprogram;
  task_unit = no_task_unit;
  protected_unit = no_protected_unit;
  entry = no_entry;
  controlled = no_controlled;
}
