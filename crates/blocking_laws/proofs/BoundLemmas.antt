-- Where one action blocks, it does so for no more ticks than its task runs in it.
use Rattle.std.proofs.Common.{◌≡◌, ℕ, zero, suc, ◌+◌, ◌<◌, ◌≤◌, Bool, true, false, cond, ◌&&◌, List, Some, refl, arith}
use Rattle.std.proofs.lemmas.Bool.{and_from}
use Rattle.trace_text.specs.Queue.{TraceLine, last_from, seen_from, somebody_eq, up_to}
use Rattle.trace_text.proofs.LawsFollowed.{is_somebody}
use Rattle.blocking_laws.specs.Holds.{BlockingBoundOk, OneAction, OneActionOk, ceiling_at, count_ticks}
use Rattle.blocking_laws.specs.Holds.{has_hold, holding_after, nothing_held, runs_below, runs_in}
use Rattle.blocking_laws.specs.MovingLaws.{is_within}
use Rattle.blocking_laws.specs.Stretches.{past_at}

one_more : (a b : Bool) (m n : ℕ) → m ≤ n → (a ≡ true → b ≡ true) → m + cond a 1 0 ≤ n + cond b 1 0
one_more false false m n low f = omega (arith, low)
one_more false true m n low f = omega (arith, low)
one_more true true m n low f = omega (arith, low)
one_more true false m n low f = let wrong : false ≡ true = f refl in cc

-- where one test holds wherever another does
counts_under : (test other : ℕ → Bool) (begun count : ℕ) → ((tick : ℕ) → begun ≤ tick → tick < begun + count → test tick ≡ true → other tick ≡ true)
    → count_ticks begun count test ≤ count_ticks begun count other
counts_under test other begun zero f = omega arith
counts_under test other begun (suc count) f =
    one_more (test (begun + count)) (other (begun + count)) (count_ticks begun count test) (count_ticks begun count other)
    (counts_under test other begun count (λ tick low high e. f tick low (omega (arith, high)) e)) (f (begun + count) (omega arith) (omega arith))

pub blocking_bound : (lines : List TraceLine) → OneActionOk lines → BlockingBoundOk lines
blocking_bound lines law first last stretch who level begun until low order high waits count most within below bound =
    let one : OneAction level first begun until lines = law first last stretch who level begun until low order high waits in
    let under = counts_under (λ tick. runs_below level (past_at tick lines)) (runs_in level one.hold lines) begun count (λ tick from before lower.
    let upto : tick ≤ until = omega (arith, before, within) in
    let in_run : tick < last_from 0 lines = omega (arith, before, below) in
    and_from (somebody_eq (past_at tick lines).runner (Some one.hold.action.who)
    && has_hold one.hold (seen_from holding_after nothing_held (up_to tick lines)).holds)
    (is_within (Some level) (ceiling_at one.hold.action.object tick lines))
    (and_from (somebody_eq (past_at tick lines).runner (Some one.hold.action.who))
    (has_hold one.hold (seen_from holding_after nothing_held (up_to tick lines)).holds)
    (is_somebody (past_at tick lines).runner (Some one.hold.action.who) (one.runs tick from upto in_run lower))
    (one.inside tick from upto in_run lower tick from (let r : tick ≤ tick = omega arith in r)))
    (one.ceiling tick from upto in_run lower)) in
    omega (arith, under, bound one.hold)
