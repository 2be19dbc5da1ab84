-- What a function's call says.
use Rattle.ada_image.specs.ImageOfCalls.{FunctionCall}
use Rattle.image_actuals.specs.declared.calls.FunctionCall.{FunctionCall as Told}

abbrev pub call_shown : Told → FunctionCall
call_shown c = record {
  name = c.name.now;
  arguments = c.arguments.now;
  number = c.number;
  unit = c.unit;
  formals = c.formals.now;
}
