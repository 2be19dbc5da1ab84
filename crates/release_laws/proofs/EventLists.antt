-- The events among appointments, and what becomes of them where appointments are set and dropped.
use Rattle.std.proofs.Common.{◌≡◌, ℕ, ℤ, Bool, true, false, cond, not, eqb, List, [], ◌∷◌, refl, sym, ap, ◌∙◌, arith}
use Rattle.std.specs.Prelude.{int_lt, int_le}
use Rattle.std.proofs.lemmas.Int.{ints}
use Rattle.std.proofs.lemmas.Bool.{false≢true}
use Rattle.profile_machine.specs.declared.world.appointments.Due.{Due}
use Rattle.profile_machine.specs.declared.world.appointments.Due.TheVariants as due_for
use Rattle.profile_machine.specs.declared.world.appointments.Appointment.{Appointment}
use Rattle.profile_image.specs.Words.{without}
use Rattle.profile_machine.specs.Values.{is_event}
use Rattle.profile_machine.specs.Appointments.{put_appointment, is_an_event}
use Rattle.release_laws.specs.ReleaseLaws.{EventSet, but_event, put_event}
use Rattle.machine_laws.proofs.FinestMoves.{SparesEvents}

-- ---- the events among appointments, in their order

abbrev pub with_event : Due → ℤ → List EventSet → List EventSet
with_event (due_for.Event n h) moment rest = record { event = n; handler = h; moment = moment } ∷ rest
with_event (due_for.Delay t) moment rest = rest
with_event (due_for.Timeout c) moment rest = rest
with_event (due_for.Trigger t depth) moment rest = rest

abbrev pub events_of : List Appointment → List EventSet
events_of [] = []
events_of (a ∷ rest) = with_event a.due a.moment (events_of rest)

-- ---- appointments stand by moment

abbrev pub NotBefore : ℤ → List Appointment → Type 0
NotBefore moment [] = Unit {0}
NotBefore moment (a ∷ rest) = (int_le moment a.moment ≡ true) × NotBefore moment rest

abbrev pub Rises : List Appointment → Type 0
Rises [] = Unit {0}
Rises (a ∷ rest) = NotBefore a.moment rest × Rises rest

le_on : (a b c : ℤ) → int_le a b ≡ true → int_le b c ≡ true → int_le a c ≡ true
le_on a b c h k = grind (arith, ints)

lt_le : (a b : ℤ) → int_lt a b ≡ true → int_le a b ≡ true
lt_le a b h = grind (arith, ints)

lt_on : (a b c : ℤ) → int_lt a b ≡ true → int_le b c ≡ true → int_lt a c ≡ true
lt_on a b c h k = grind (arith, ints)

not_lt : (a b : ℤ) → int_lt a b ≡ false → int_le b a ≡ true
not_lt a b h = grind (arith, ints)

le_self : (a : ℤ) → int_le a a ≡ true
le_self a = grind (arith, ints)

lower : (m k : ℤ) → int_le m k ≡ true → (xs : List Appointment) → NotBefore k xs → NotBefore m xs
lower m k h [] n = tt
lower m k h (a ∷ rest) n = (le_on m k a.moment h n.0, lower m k h rest n.1)

pub either : {X : Type 0} (P : X → Type 0) (b : Bool) (x y : X) → P x → P y → P (cond b x y)
either P true x y h k = h
either P false x y h k = k

put-not_before : (m : ℤ) (new : Appointment) (xs : List Appointment) → int_le m new.moment ≡ true → NotBefore m xs → NotBefore m (put_appointment new xs)
put-not_before m new [] h n = (h, tt)
put-not_before m new (x ∷ xs) h n =
    either (NotBefore m) (int_lt new.moment x.moment) (new ∷ x ∷ xs) (x ∷ put_appointment new xs) (h, n) (n.0, put-not_before m new xs h n.1)

put_where-rises : (new x : Appointment) (xs : List Appointment) (b : Bool) → int_lt new.moment x.moment ≡ b → Rises (x ∷ xs) → Rises (put_appointment new xs)
    → Rises (cond b (new ∷ x ∷ xs) (x ∷ put_appointment new xs))
put_where-rises new x xs true is r k = ((lt_le new.moment x.moment is, lower new.moment x.moment (lt_le new.moment x.moment is) xs r.0), r)
put_where-rises new x xs false is r k = (put-not_before x.moment new xs (not_lt new.moment x.moment is) r.0, k)

pub put-rises : (new : Appointment) (xs : List Appointment) → Rises xs → Rises (put_appointment new xs)
put-rises new [] r = (tt, tt)
put-rises new (x ∷ xs) r = put_where-rises new x xs (int_lt new.moment x.moment) refl r (put-rises new xs r.1)

without-not_before : (m : ℤ) (test : Appointment → Bool) (xs : List Appointment) → NotBefore m xs → NotBefore m (without test xs)
without-not_before m test [] n = tt
without-not_before m test (x ∷ xs) n =
    either (NotBefore m) (not (test x)) (x ∷ without test xs) (without test xs) (n.0, without-not_before m test xs n.1) (without-not_before m test xs n.1)

pub without-rises : (test : Appointment → Bool) (xs : List Appointment) → Rises xs → Rises (without test xs)
without-rises test [] r = tt
without-rises test (x ∷ xs) r =
    either Rises (not (test x)) (x ∷ without test xs) (without test xs) (without-not_before x.moment test xs r.0, without-rises test xs r.1)
    (without-rises test xs r.1)

-- ---- one that is no event is set

with_event-other : (due : Due) (moment : ℤ) (rest : List EventSet) → is_an_event due ≡ false → with_event due moment rest ≡ rest
with_event-other (due_for.Event n h) moment rest other = absurd (false≢true (sym other))
with_event-other (due_for.Delay t) moment rest other = refl
with_event-other (due_for.Timeout c) moment rest other = refl
with_event-other (due_for.Trigger t depth) moment rest other = refl

either_events : (es : List EventSet) (b : Bool) (xs ys : List Appointment) → events_of xs ≡ es → events_of ys ≡ es → events_of (cond b xs ys) ≡ es
either_events es b xs ys h k = either (λ zs. events_of zs ≡ es) b xs ys h k

pub put_other-events : (new : Appointment) (xs : List Appointment) → is_an_event new.due ≡ false → events_of (put_appointment new xs) ≡ events_of xs
put_other-events new [] other = with_event-other new.due new.moment [] other
put_other-events new (x ∷ xs) other =
    either_events (events_of (x ∷ xs)) (int_lt new.moment x.moment) (new ∷ x ∷ xs) (x ∷ put_appointment new xs)
    (with_event-other new.due new.moment (events_of (x ∷ xs)) other)
    (ap (with_event x.due x.moment) (put_other-events new xs other))

-- ---- an event is set: it takes its place among them by moment

abbrev FirstIsLater : ℤ → List EventSet → Type 0
FirstIsLater m [] = Unit {0}
FirstIsLater m (s ∷ rest) = int_lt m s.moment ≡ true

first_later : (m k : ℤ) → int_lt m k ≡ true → (due : Due) (moment : ℤ) (es : List EventSet) → int_le k moment ≡ true → FirstIsLater m es
    → FirstIsLater m (with_event due moment es)
first_later m k h (due_for.Event n handler) moment es g f = lt_on m k moment h g
first_later m k h (due_for.Delay t) moment es g f = f
first_later m k h (due_for.Timeout c) moment es g f = f
first_later m k h (due_for.Trigger t depth) moment es g f = f

all_later : (m k : ℤ) → int_lt m k ≡ true → (xs : List Appointment) → NotBefore k xs → FirstIsLater m (events_of xs)
all_later m k h [] n = tt
all_later m k h (x ∷ xs) n = first_later m k h x.due x.moment (events_of xs) n.0 (all_later m k h xs n.1)

put_in_front : (s : EventSet) (es : List EventSet) → FirstIsLater s.moment es → put_event s es ≡ s ∷ es
put_in_front s [] f = refl
put_in_front s (e ∷ es) f = ap (λ b. cond b (s ∷ e ∷ es) (e ∷ put_event s es)) f

put_behind : (s : EventSet) (due : Due) (moment : ℤ) (es : List EventSet) → int_lt s.moment moment ≡ false
    → put_event s (with_event due moment es) ≡ with_event due moment (put_event s es)
put_behind s (due_for.Event n h) moment es f =
    ap (λ b. cond b (s ∷ record { event = n; handler = h; moment = moment } ∷ es) (record { event = n; handler = h; moment = moment } ∷ put_event s es)) f
put_behind s (due_for.Delay t) moment es f = refl
put_behind s (due_for.Timeout c) moment es f = refl
put_behind s (due_for.Trigger t depth) moment es f = refl

module _ (s : EventSet) where
  abbrev setting : Appointment
  setting = record { due = due_for.Event s.event s.handler; moment = s.moment }

  put_where-events : (x : Appointment) (xs : List Appointment) (b : Bool) → int_lt s.moment x.moment ≡ b → Rises (x ∷ xs)
      → events_of (put_appointment setting xs) ≡ put_event s (events_of xs)
      → events_of (cond b (setting ∷ x ∷ xs) (x ∷ put_appointment setting xs)) ≡ put_event s (events_of (x ∷ xs))
  put_where-events x xs true is r k = sym (put_in_front s (events_of (x ∷ xs)) (all_later s.moment x.moment is (x ∷ xs) (le_self x.moment, r.0)))
  put_where-events x xs false is r k = ap (with_event x.due x.moment) k ∙ sym (put_behind s x.due x.moment (events_of xs) is)

  pub put-events : (xs : List Appointment) → Rises xs → events_of (put_appointment setting xs) ≡ put_event s (events_of xs)
  put-events [] r = refl
  put-events (x ∷ xs) r = put_where-events x xs (int_lt s.moment x.moment) refl r (put-events xs r.1)

-- ---- appointments are dropped: no event, or those of one number

kept_or_other : (b : Bool) (x : Appointment) (r : List Appointment) → (b ≡ true → is_an_event x.due ≡ false)
    → events_of (cond (not b) (x ∷ r) r) ≡ with_event x.due x.moment (events_of r)
kept_or_other true x r other = sym (with_event-other x.due x.moment (events_of r) (other refl))
kept_or_other false x r other = refl

dropped_other : (test : Due → Bool) → SparesEvents test → (due : Due) → test due ≡ true → is_an_event due ≡ false
dropped_other test spares (due_for.Event n h) is = absurd (false≢true (sym (spares n h) ∙ is))
dropped_other test spares (due_for.Delay t) is = refl
dropped_other test spares (due_for.Timeout c) is = refl
dropped_other test spares (due_for.Trigger t depth) is = refl

pub spared-events : (test : Due → Bool) (xs : List Appointment) → SparesEvents test → events_of (without (λ a. test a.due) xs) ≡ events_of xs
spared-events test [] spares = refl
spared-events test (x ∷ xs) spares =
    kept_or_other (test x.due) x (without (λ a. test a.due) xs) (dropped_other test spares x.due)
    ∙ ap (with_event x.due x.moment) (spared-events test xs spares)

dropped-where : (b : Bool) (s : EventSet) (x : Appointment) (r : List Appointment) → with_event x.due x.moment (events_of r) ≡ s ∷ events_of r
    → events_of (cond (not b) (x ∷ r) r) ≡ cond (not b) (s ∷ events_of r) (events_of r)
dropped-where true s x r h = refl
dropped-where false s x r h = h

dropped-one : (n : ℕ) (due : Due) (moment : ℤ) (r : List Appointment) (es : List EventSet) → events_of r ≡ but_event n es
    → events_of (cond (not (is_event n due)) (record { due = due; moment = moment } ∷ r) r) ≡ but_event n (with_event due moment es)
dropped-one n (due_for.Event k h) moment r es e =
    let s : EventSet = record { event = k; handler = h; moment = moment } in
    dropped-where (eqb n k) s (record { due = due_for.Event k h; moment = moment }) r refl ∙ ap (λ ys. cond (not (eqb n k)) (s ∷ ys) ys) e
dropped-one n (due_for.Delay t) moment r es e = e
dropped-one n (due_for.Timeout c) moment r es e = e
dropped-one n (due_for.Trigger t depth) moment r es e = e

pub dropped-events : (n : ℕ) (xs : List Appointment) → events_of (without (λ a. is_event n a.due) xs) ≡ but_event n (events_of xs)
dropped-events n [] = refl
dropped-events n (x ∷ xs) = dropped-one n x.due x.moment (without (λ a. is_event n a.due) xs) (events_of xs) (dropped-events n xs)
