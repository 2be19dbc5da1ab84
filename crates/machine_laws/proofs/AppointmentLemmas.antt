-- Appointments stand by moment: one that is put takes its place, and one that is dropped leaves the others in order.
use Rattle.std.proofs.Common.{◌≡◌, ℤ, ◌≤ℤ◌, Bool, true, false, cond, not, List, [], ◌∷◌, refl, arith}
use Rattle.std.specs.Prelude.{int_le, int_lt}
use Rattle.std.proofs.lemmas.Int.{ints}
use Rattle.std.proofs.lemmas.Bool.{and_from}
use Rattle.profile_machine.specs.declared.world.appointments.Appointment.{Appointment}
use Rattle.profile_image.specs.Words.{without}
use Rattle.profile_machine.specs.Appointments.{put_appointment}
use Rattle.profile_machine.specs.WellFormed.{all_adjacent}

-- none is before a moment, and none before the one that it follows
abbrev pub Above : ℤ → List Appointment → Type 0
Above moment [] = Unit {0}
Above moment (a ∷ rest) = (moment ≤ℤ a.moment) × Above a.moment rest

abbrev pub InOrder : List Appointment → Type 0
InOrder [] = Unit {0}
InOrder (a ∷ rest) = Above a.moment rest

above-earlier : (x y : ℤ) → int_lt x y ≡ true → x ≤ℤ y
above-earlier x y h = grind (arith, ints)

above-later : (x y : ℤ) → int_lt x y ≡ false → y ≤ℤ x
above-later x y h = grind (arith, ints)

above-trans : (x y z : ℤ) → x ≤ℤ y → y ≤ℤ z → x ≤ℤ z
above-trans x y z h k = grind (arith, ints)

above-test : (x y : ℤ) → x ≤ℤ y → int_le x y ≡ true
above-test x y h = grind (arith, ints)

put_either : (P : List Appointment → Type 0) (b : Bool) (xs ys : List Appointment) → (b ≡ true → P xs) → (b ≡ false → P ys) → P (cond b xs ys)
put_either P true xs ys p q = p refl
put_either P false xs ys p q = q refl

Above-put : (moment : ℤ) (new : Appointment) (xs : List Appointment) → moment ≤ℤ new.moment → Above moment xs → Above moment (put_appointment new xs)
Above-put moment new [] a h = (a, tt)
Above-put moment new (x ∷ xs) a h =
    put_either (Above moment) (int_lt new.moment x.moment) (new ∷ x ∷ xs) (x ∷ put_appointment new xs)
    (λ t. (a, (above-earlier new.moment x.moment t, h.1)))
    (λ f. (h.0, Above-put x.moment new xs (above-later new.moment x.moment f) h.1))

pub InOrder-put : (new : Appointment) (xs : List Appointment) → InOrder xs → InOrder (put_appointment new xs)
InOrder-put new [] h = tt
InOrder-put new (x ∷ xs) h =
    put_either InOrder (int_lt new.moment x.moment) (new ∷ x ∷ xs) (x ∷ put_appointment new xs)
    (λ t. (above-earlier new.moment x.moment t, h))
    (λ f. Above-put x.moment new xs (above-later new.moment x.moment f) h)

Above-earlier : (low high : ℤ) (xs : List Appointment) → low ≤ℤ high → Above high xs → Above low xs
Above-earlier low high [] a h = tt
Above-earlier low high (x ∷ xs) a h = (above-trans low high x.moment a h.0, h.1)

Above-without : (test : Appointment → Bool) (moment : ℤ) (xs : List Appointment) → Above moment xs → Above moment (without test xs)
Above-without test moment [] h = tt
Above-without test moment (x ∷ xs) h =
    put_either (Above moment) (not (test x)) (x ∷ without test xs) (without test xs)
    (λ _. (h.0, Above-without test x.moment xs h.1))
    (λ _. Above-earlier moment x.moment (without test xs) h.0 (Above-without test x.moment xs h.1))

Above-in_order : (moment : ℤ) (xs : List Appointment) → Above moment xs → InOrder xs
Above-in_order moment [] h = tt
Above-in_order moment (x ∷ xs) h = h.1

pub InOrder-without : (test : Appointment → Bool) (xs : List Appointment) → InOrder xs → InOrder (without test xs)
InOrder-without test [] h = tt
InOrder-without test (x ∷ xs) h =
    put_either InOrder (not (test x)) (x ∷ without test xs) (without test xs)
    (λ _. Above-without test x.moment xs h)
    (λ _. Above-in_order x.moment (without test xs) (Above-without test x.moment xs h))

pub InOrder-adjacent : (xs : List Appointment) → InOrder xs → all_adjacent (λ a b. int_le a.moment b.moment) xs ≡ true
InOrder-adjacent [] h = refl
InOrder-adjacent (x ∷ []) h = refl
InOrder-adjacent (x ∷ y ∷ rest) h =
    and_from (int_le x.moment y.moment) (all_adjacent (λ a b. int_le a.moment b.moment) (y ∷ rest)) (above-test x.moment y.moment h.0)
    (InOrder-adjacent (y ∷ rest) h.1)
