-- One item, or one appointment, more.
use Rattle.std.proofs.Common.{◌≡◌, ◌<◌, ◌-◌, ℕ, suc, Bool, List, Option, Some, None, option_map, arith, refl, sym, ap, ◌∙◌}
use Rattle.profile_image.specs.declared.image.Image.{Image}
use Rattle.profile_machine.specs.declared.world.World.{World}
use Rattle.profile_machine.specs.declared.world.appointments.Appointment.{Appointment}
use Rattle.profile_machine.specs.declared.world.appointments.Due.{Due}
use Rattle.profile_machine.specs.declared.world.lines.Said.{Said}
use Rattle.profile_machine.specs.Steps.{Step, done, goes_on_with}
use Rattle.profile_machine.specs.declared.world.agenda.DueOf.{DueOf}
use Rattle.profile_machine.specs.DueOf.{is_due_of}
use Rattle.profile_machine.specs.Appointments.{first_due, drop_appointment}
use Rattle.profile_machine.specs.Instant.{all_due, take_due, come_due, is_the_same_due, items_due, take_item}

all_due-suc : (n : ℕ) (p : Image) (events : Bool) (w : World) (said : List Said)
    → all_due (suc n) p events w said ≡ take_due p (all_due n p events) (first_due events w.time w.appointments) w said
unfolding all_due
all_due-suc n p events w said = refl

pub all_due-more : (fuel : ℕ) (p : Image) (events : Bool) (w : World) (said : List Said) → 0 < fuel
    → all_due fuel p events w said ≡ take_due p (all_due (fuel - 1) p events) (first_due events w.time w.appointments) w said
all_due-more fuel p events w said l =
    let e : fuel ≡ suc (fuel - 1) = omega arith in
    ap (λ k. all_due k p events w said) e ∙ all_due-suc (fuel - 1) p events w said

-- what is due first is taken, and comes about
taken : (p : Image) (again : Step) (a : Option Appointment) (due : Due) (w wd w1 : World) (said s1 : List Said) → Some due ≡ option_map (λ x. x.due) a
    → wd ≡ drop_appointment (is_the_same_due due) w → come_due p due wd said ≡ done w1 s1 → take_due p again a w said ≡ again w1 s1
taken p again None due w wd w1 said s1 e d c = cc
taken p again (Some x) due w wd w1 said s1 e d c =
    let h : x.due ≡ due = cc in
    ap (goes_on_with again) (ap (λ y. come_due p y (drop_appointment (is_the_same_due y) w) said) h ∙ ap (λ v. come_due p due v said) (sym d) ∙ c)

pub all_due-taken : (fuel : ℕ) (p : Image) (events : Bool) (due : Due) (of : DueOf) (w wd w1 : World) (said s1 : List Said) → 0 < fuel
    → Some due ≡ option_map (λ x. x.due) (first_due events w.time w.appointments) → is_due_of of ≡ is_the_same_due due → wd ≡ drop_appointment (is_due_of of) w
    → come_due p due wd said ≡ done w1 s1 → all_due fuel p events w said ≡ all_due (fuel - 1) p events w1 s1
all_due-taken fuel p events due of w wd w1 said s1 l e f d c =
    all_due-more fuel p events w said l
    ∙ taken p (all_due (fuel - 1) p events) (first_due events w.time w.appointments) due w wd w1 said s1 e (d ∙ ap (λ g. drop_appointment g w) f) c

items_due-suc : (n : ℕ) (p : Image) (w : World) (said : List Said) → items_due (suc n) p w said ≡ take_item p w.time (items_due n p) w.script w said
unfolding items_due
items_due-suc n p w said = refl

pub items_due-more : (fuel : ℕ) (p : Image) (w : World) (said : List Said) → 0 < fuel
    → items_due fuel p w said ≡ take_item p w.time (items_due (fuel - 1) p) w.script w said
items_due-more fuel p w said l =
    let e : fuel ≡ suc (fuel - 1) = omega arith in
    ap (λ k. items_due k p w said) e ∙ items_due-suc (fuel - 1) p w said

pub ruleset due_laws = (all_due-more)

pub ruleset items_laws = (items_due-more)
