-- What an agenda knows of the timing events, by number.
use Rattle.std.specs.Prelude.{◌≡◌, ℕ, ℤ, true, false, List, unwrap_or, int_le}
use Rattle.std.specs.List.{All, AllPairs, position_or_len}
use Rattle.world_tables.specs.Tables as table
use Rattle.profile_machine.specs.declared.world.appointments.Appointment.{Appointment}
use Rattle.profile_machine.specs.declared.world.appointments.Due.{Due}
use Rattle.profile_machine.specs.declared.world.appointments.Due.TheVariants as due_for
use Rattle.profile_machine.specs.declared.world.agenda.DueOf.{DueOf}
use Rattle.profile_machine.specs.declared.world.agenda.DueOf.TheVariants as of
use Rattle.profile_machine.specs.declared.world.agenda.EventFact.{EventFact}
use Rattle.profile_machine.specs.declared.world.agenda.EventFact.TheVariants.{Unset, SetAt, Unknown}
use Rattle.profile_machine.specs.DueOf.{is_due_of}

-- what an appointment is for
abbrev pub key_of : Due → DueOf
key_of (due_for.Event n handler) = of.Event n
key_of (due_for.Delay t) = of.Delay t
key_of (due_for.Timeout c) = of.Timeout c
key_of (due_for.Trigger t depth) = of.Trigger t depth

-- what is known of this; only of events is anything known
abbrev pub fact_of : DueOf → List (ℕ × EventFact) → EventFact
fact_of (of.Event n) events = unwrap_or (table.item_at n events) Unset
fact_of (of.Delay t) events = Unknown
fact_of (of.Timeout c) events = Unknown
fact_of (of.Trigger t depth) events = Unknown

-- what is known where one more is set for a moment
abbrev pub next_fact : ℤ → EventFact → EventFact
next_fact moment Unset = SetAt moment
next_fact moment (SetAt before) = Unknown
next_fact moment Unknown = Unknown

-- the facts with this one
abbrev pub with_fact : DueOf → EventFact → List (ℕ × EventFact) → List (ℕ × EventFact)
with_fact (of.Event n) fact events = table.put n fact events
with_fact (of.Delay t) fact events = events
with_fact (of.Timeout c) fact events = events
with_fact (of.Trigger t depth) fact events = events

-- the facts where this is set no longer
abbrev pub with_unset : DueOf → List (ℕ × EventFact) → List (ℕ × EventFact)
with_unset (of.Event n) events = table.with_item n Unset events
with_unset (of.Delay t) events = events
with_unset (of.Timeout c) events = events
with_unset (of.Trigger t depth) events = events

-- no appointment is for this
abbrev pub IsUnset : DueOf → List Appointment → Type 0
IsUnset key appointments = All (λ a. is_due_of key a.due ≡ false) appointments

-- one appointment at most is for this, and if there is one, it is for this moment
pub record IsSetAt (key : DueOf) (moment : ℤ) (appointments : List Appointment) : Type 0 where
  pub then : All (λ a. is_due_of key a.due ≡ true → a.moment ≡ moment) appointments
  pub once : AllPairs (λ a b. is_due_of key a.due ≡ true → is_due_of key b.due ≡ false) appointments

-- a fact is true of the appointments
abbrev pub IsFact : EventFact → DueOf → List Appointment → Type 0
IsFact Unset key appointments = IsUnset key appointments
IsFact (SetAt moment) key appointments = IsSetAt key moment appointments
IsFact Unknown key appointments = Unit {0}

-- all that is known is true
abbrev pub AreFacts : List (ℕ × EventFact) → List Appointment → Type 0
AreFacts events appointments = (key : DueOf) → IsFact (fact_of key events) key appointments

-- where the first stands that is not before a moment, or the length
abbrev pub first_from : ℤ → List Appointment → ℕ
first_from moment appointments = position_or_len (λ a. int_le moment a.moment) appointments
