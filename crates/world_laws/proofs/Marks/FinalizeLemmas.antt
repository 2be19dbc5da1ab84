-- Where a Finalize may be opened: on the scope that is being left, whose object has been taken out of the register, and on the
-- assignment to its object.
use Rattle.std.proofs.Common.{◌≡◌, ℕ, ◌≤◌, Bool, true, false, cond, eqb, ◌&&◌, List, [], ◌∷◌, Option, Some, sym, ap, subst, ◌∙◌, eq-eqb, arith}
use Rattle.std.proofs.lemmas.Bool.{eqb-true}
use Rattle.std.specs.Prelude.{find, is_some, is_none, leb}
use Rattle.ann_base.specs.declared.identities.RegionNo.{RegionNo}
use Rattle.trace_text.specs.declared.events.Who.{Who}
use Rattle.trace_text.specs.declared.events.Who.TheVariants as who
use Rattle.profile_machine.specs.declared.world.World.{World}
use Rattle.profile_machine.specs.declared.world.marks.Frame.{Frame}
use Rattle.profile_machine.specs.declared.world.marks.ScopeMark.{ScopeMark}
use Rattle.profile_machine.specs.declared.world.marks.Mark.TheVariants.{Scope}
use Rattle.profile_machine.specs.declared.world.appointments.Registered.{Registered}
use Rattle.profile_image.specs.Words.{without}
use Rattle.profile_machine.specs.Cost.{of_region}
use Rattle.profile_machine.specs.Frames.{top_of}
use Rattle.profile_machine.specs.Controlled.{is_number, no_longer_registered, next_to_finalize}
use Rattle.world_laws.proofs.Marks.MarkFacts.{GoodMarks, AllDrawn, may_finalize}
use Rattle.world_laws.proofs.Marks.TaskFacts.{found-test, not_found-without}

pub unregistered-top : (name : Who) (n : ℕ) (f : Frame) (w : World) → top_of w name ≡ Some f → top_of (no_longer_registered n w) name ≡ Some f
unregistered-top (who.Task t) n f w e = e
unregistered-top who.Agent n f w e = e

-- what is found by its number is registered under it
pub target-registered : (n : ℕ) (x : Registered) (rs : List Registered) → find (is_number n) rs ≡ Some x
    → (eqb x.object n && is_some (find (is_number x.object) rs)) ≡ true
target-registered n x rs e =
    let same : n ≡ x.object = eqb-true n x.object (found-test (is_number n) x rs e) in
    ap (λ b. b && is_some (find (is_number x.object) rs)) (eq-eqb x.object n (sym same)) ∙ ap is_some (ap (λ k. find (is_number k) rs) (sym same) ∙ e)

drawn-step : (drawn : ℕ) (b : Bool) (r x : Registered) (rest : Option Registered) → r.object ≤ drawn → (rest ≡ Some x → x.object ≤ drawn)
    → cond b (Some r) rest ≡ Some x → x.object ≤ drawn
drawn-step drawn true r x rest low onward e = let same : r ≡ x = cc in subst (λ (y : Registered). y.object ≤ drawn) same low
drawn-step drawn false r x rest low onward e = onward e

pub found-drawn : (drawn : ℕ) (test : Registered → Bool) (x : Registered) (rs : List Registered) → AllDrawn drawn rs → find test rs ≡ Some x → x.object ≤ drawn
found-drawn drawn test x [] h e = cc
found-drawn drawn test x (r ∷ rs) h e = drawn-step drawn (test r) r x (find test rs) h.0 (λ k. found-drawn drawn test x rs h.1 k) e

all_four : (a b c d : Bool) → a ≡ true → b ≡ true → c ≡ true → d ≡ true → (a && b && c && d) ≡ true
all_four true true true d p q r s = s
all_four true true false d p q r s = r
all_four true false c d p q r s = q
all_four false b c d p q r s = p

pub leaving-may_finalize : (w : World) (f : Frame) (m : ScopeMark) (r : RegionNo) (x : Registered) → GoodMarks w → f.mark ≡ Scope m → m.region ≡ Some r
    → m.being_left ≡ true → next_to_finalize w r ≡ Some x → may_finalize (no_longer_registered x.object w) x.object f.mark ≡ true
leaving-may_finalize w f m r x good is region left next =
    let low : x.object ≤ w.drawn.controlled = found-drawn w.drawn.controlled (of_region r) x w.registered good.objects next in
    subst (λ k. may_finalize (no_longer_registered x.object w) x.object k ≡ true) (sym is)
    (all_four m.being_left (is_some m.region) (is_none (find (is_number x.object) (without (is_number x.object) w.registered)))
    (leb x.object w.drawn.controlled)
    left (ap is_some region) (ap is_none (not_found-without (is_number x.object) w.registered)) (grind (arith, low)))
