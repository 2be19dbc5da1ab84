-- The first of the appointments in order is the earliest.
use Rattle.std.proofs.Common.{◌≡◌, ℕ, suc, ◌<◌, length, slice_index_or, ℤ, pos, negsuc, ◌≤ℤ◌, List, [], ◌∷◌, Some, None, refl, ap, ◌∙◌, arith}
use Rattle.std.proofs.lemmas.Int.{ints}
use Rattle.world_tables.specs.Lists.{first_of}
use Rattle.profile_machine.specs.declared.world.appointments.Appointment.{Appointment}
use Rattle.profile_machine.specs.MomentOrder.{IsByMoment}
use Rattle.machine_kernel.specs.Jump.{sooner, first_appointed}

-- a moment that is not earlier makes nothing sooner
later_than_first : (a b : ℤ) (tick : ℕ) → a ≤ℤ b → sooner b (sooner a tick) ≡ sooner a tick
later_than_first (pos a) (pos b) tick l = grind (arith, ints)
later_than_first (pos a) (negsuc b) tick l = grind (arith, ints)
later_than_first (negsuc a) (pos b) tick l = grind (arith, ints)
later_than_first (negsuc a) (negsuc b) tick l = refl

-- and so does none of those behind it
behind_first : (a : ℤ) (rest : List Appointment) (tick : ℕ) → ((k : ℕ) (d : Appointment) → k < length rest → a ≤ℤ (slice_index_or rest k d).moment)
    → first_appointed rest (sooner a tick) ≡ sooner a tick
behind_first a [] tick later = refl
behind_first a (b ∷ rest) tick later =
    ap (first_appointed rest) (later_than_first a b.moment tick (later 0 b (omega arith)))
    ∙ behind_first a rest tick (λ k d l. later (suc k) d (omega (arith, l)))

pub by_first : (a : Appointment) (appointments : List Appointment) (tick : ℕ) → IsByMoment appointments → first_of appointments ≡ Some a
    → first_appointed appointments tick ≡ sooner a.moment tick
by_first a [] tick order e = cc
by_first a (b ∷ rest) tick order e =
    let same : b ≡ a = cc in
    behind_first b.moment rest tick (λ k d l. order 0 (suc k) d (omega arith) (omega (arith, l))) ∙ ap (λ x. sooner x.moment tick) same

pub none_appointed : (appointments : List Appointment) (tick : ℕ) → first_of appointments ≡ None → first_appointed appointments tick ≡ tick
none_appointed [] tick e = refl
none_appointed (b ∷ rest) tick e = cc

pub ruleset first_laws = (by_first, none_appointed)
