-- What an entry call names, from its parts, and the call that is to be made.
use Rattle.std.specs.Prelude.{ℕ, ℤ, false, List, Option, None}
use Rattle.ann_base.specs.declared.identities.TaskNo.{TaskNo}
use Rattle.profile_image.specs.declared.numbers.EntryNo.{EntryNo}
use Rattle.profile_image.specs.declared.numbers.StatementNo.{StatementNo}
use Rattle.profile_image.specs.declared.statements.Actual.{Actual}
use Rattle.profile_image.specs.declared.statements.EntryOwner.{EntryOwner}
use Rattle.profile_image.specs.declared.values.Value.{Value}
use Rattle.profile_machine.specs.declared.world.calls.Call.{Call}
use Rattle.profile_machine.specs.declared.world.calls.CallKind.{CallKind}
use Rattle.profile_machine.specs.declared.world.calls.EntryCallNamed.{EntryCallNamed}
use Rattle.profile_machine.specs.declared.world.calls.Owner.{Owner}
use Rattle.profile_machine.specs.declared.world.scopes.Variable.{Variable}
use Rattle.profile_machine.specs.EntryCalls.{values_in, results_in}

abbrev pub named : EntryNo → EntryOwner → List Actual → EntryCallNamed
named entry owner actuals = record { entry = entry; owner = owner; actuals = actuals }

abbrev pub new_call_of : TaskNo → CallKind → StatementNo → EntryNo → Owner → ℕ → List (Value × Option Variable)
    → Option ℤ → Call
new_call_of t kind s entry o priority parameters moment = record {
  number = record { 0 = 0 };
  caller = t;
  kind = kind;
  statement = s;
  owner = o;
  entry = entry;
  priority = priority;
  begun = false;
  firm = false;
  sent_with_abort = false;
  attempted = false;
  moment = moment;
  values = values_in parameters;
  results = results_in parameters;
  sending = None;
  outcome = None;
}
