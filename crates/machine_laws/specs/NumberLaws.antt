-- What every world that a run reaches keeps of its lists: the parts of `is_well_formed` that speak of one list alone.
use Rattle.std.specs.Prelude.{Bool, ltb, IsTrue, int_le}
use Rattle.profile_machine.specs.declared.world.World.{World}
use Rattle.profile_machine.specs.WellFormed.{all_adjacent, is_older, tasks_are_numbered}
use Rattle.profile_machine.specs.WellFormed.{registered_are_numbered, releases_are_numbered}
use Rattle.machine_laws.specs.Reached.{AllReached}

-- tasks rise in number, and each number was drawn
abbrev pub TasksAreNumbered : Type 0
TasksAreNumbered = AllReached (λ w. IsTrue (tasks_are_numbered w))

-- registered controlled objects fall in number, and each number was drawn
abbrev pub RegisteredAreNumbered : Type 0
RegisteredAreNumbered = AllReached (λ w. IsTrue (registered_are_numbered w))

-- releases that are pending are numbered one after another
abbrev pub ReleasesAreNumbered : Type 0
ReleasesAreNumbered = AllReached (λ w. IsTrue (releases_are_numbered w))

-- calls fall in number
abbrev pub calls_fall : World → Bool
calls_fall w = all_adjacent (λ a b. ltb b.number.0 a.number.0) w.calls

abbrev pub CallsAreNumbered : Type 0
CallsAreNumbered = AllReached (λ w. IsTrue (calls_fall w))

-- scopes in use stand the newest first
abbrev pub scopes_fall : World → Bool
scopes_fall w = all_adjacent (λ a b. is_older b.id a.id) w.scopes

abbrev pub ScopesAreNumbered : Type 0
ScopesAreNumbered = AllReached (λ w. IsTrue (scopes_fall w))

-- protected objects fall in number
abbrev pub objects_fall : World → Bool
objects_fall w = all_adjacent (λ a b. ltb b.number.0 a.number.0) w.objects

abbrev pub ObjectsAreNumbered : Type 0
ObjectsAreNumbered = AllReached (λ w. IsTrue (objects_fall w))

-- appointments stand by moment
abbrev pub appointments_rise : World → Bool
appointments_rise w = all_adjacent (λ a b. int_le a.moment b.moment) w.appointments

abbrev pub AppointmentsAreInOrder : Type 0
AppointmentsAreInOrder = AllReached (λ w. IsTrue (appointments_rise w))
