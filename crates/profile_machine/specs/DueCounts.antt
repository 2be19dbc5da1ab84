-- How many appointments there are of each kind.
use Rattle.std.specs.Prelude.{◌≡◌, ℕ, ◌+◌, ◌-◌, ◌<◌, ◌^◌, Bool, List, eqb, count_by}
use Rattle.profile_machine.specs.declared.world.appointments.Appointment.{Appointment}
use Rattle.profile_machine.specs.declared.world.appointments.Due.{Due}
use Rattle.profile_machine.specs.declared.world.appointments.Due.TheVariants as due_for
use Rattle.profile_machine.specs.declared.world.agenda.DueOf.{DueOf}
use Rattle.profile_machine.specs.declared.world.agenda.DueOf.TheVariants as of
use Rattle.profile_machine.specs.declared.world.agenda.DueCounts.{DueCounts}

-- the four kinds, by number
abbrev pub kind_of_due : Due → ℕ
kind_of_due (due_for.Event n handler) = 0
kind_of_due (due_for.Delay t) = 1
kind_of_due (due_for.Timeout c) = 2
kind_of_due (due_for.Trigger t depth) = 3

abbrev pub kind_of : DueOf → ℕ
kind_of (of.Event n) = 0
kind_of (of.Delay t) = 1
kind_of (of.Timeout c) = 2
kind_of (of.Trigger t depth) = 3

-- whether an appointment is of the same kind
abbrev pub is_of_kind : DueOf → Due → Bool
is_of_kind kind due = eqb (kind_of kind) (kind_of_due due)

-- how many there are of the same kind
abbrev pub count_of : DueOf → DueCounts → ℕ
count_of (of.Event n) c = c.events
count_of (of.Delay t) c = c.delays
count_of (of.Timeout x) c = c.timeouts
count_of (of.Trigger t depth) c = c.triggers

-- the counts with one more
abbrev pub with_due : Due → DueCounts → DueCounts
with_due (due_for.Event n handler) c = record c { events = c.events + 1 }
with_due (due_for.Delay t) c = record c { delays = c.delays + 1 }
with_due (due_for.Timeout x) c = record c { timeouts = c.timeouts + 1 }
with_due (due_for.Trigger t depth) c = record c { triggers = c.triggers + 1 }

-- the counts with so many less of the same kind
abbrev pub with_less : DueOf → ℕ → DueCounts → DueCounts
with_less (of.Event n) less c = record c { events = c.events - less }
with_less (of.Delay t) less c = record c { delays = c.delays - less }
with_less (of.Timeout x) less c = record c { timeouts = c.timeouts - less }
with_less (of.Trigger t depth) less c = record c { triggers = c.triggers - less }

-- one more can be counted
abbrev pub HasRoom : DueCounts → Type 0
HasRoom c = (kind : DueOf) → count_of kind c + 1 < 2 ^ 64

-- of each kind there are as many as the counts say
abbrev pub AreCountsOf : DueCounts → List Appointment → Type 0
AreCountsOf c appointments = (kind : DueOf) → count_of kind c ≡ count_by (λ a. is_of_kind kind a.due) appointments
