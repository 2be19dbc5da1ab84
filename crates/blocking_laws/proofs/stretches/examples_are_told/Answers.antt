-- Stretches are found by computing, and so is what breaks the laws in them.
use Rattle.std.proofs.Common.{◌≡◌, true, false, Option, Some, refl, ap, arith}
use Rattle.trace_text.specs.declared.events.Who.{Who}
use Rattle.trace_text.specs.Queue.{somebody_eq}
use Rattle.trace_rows.specs.First.{trace_06}
use Rattle.blocking_laws.specs.BlockingLaws.{finds_none_held, stands_at_base}
use Rattle.blocking_laws.specs.Examples.{blocked_once, blocked_outside, blocked_twice, found_held, number, task}
use Rattle.blocking_laws.specs.Stretches.{nothing_past, past_after}
use Rattle.blocking_laws.proofs.WindowLemmas.{lines_followed_behind, stretch_told, ticks_hold_from}
use Rattle.blocking_laws.proofs.stretches.examples_are_told.Goals as goal

no : false ≡ true → ⊥
no e = cc

pub returns-clause-kept : goal.returns-clause-kept
unfolding blocked_once
returns-clause-kept c = stretch_told 1 12 blocked_once refl

pub returns-clause-held : goal.returns-clause-held
unfolding found_held
returns-clause-held c = λ law. no (lines_followed_behind 1 9 finds_none_held found_held (law 1 9 (stretch_told 1 9 found_held refl)))

pub returns-clause-outside : goal.returns-clause-outside
unfolding blocked_outside
returns-clause-outside c = λ law.
    let blocked = law 1 5 (stretch_told 1 5 blocked_outside refl) (number 2) 3 4 (omega arith) (omega arith) (omega arith)
    (λ tick low high. ticks_hold_from past_after (stands_at_base (number 2)) 3 4 0 nothing_past blocked_outside refl tick (omega arith) low high) in
    no (blocked.by.inside 3 (omega arith) (omega arith) (omega arith) refl 3 (omega arith) (omega arith))

pub returns-clause-twice : goal.returns-clause-twice
unfolding blocked_twice
returns-clause-twice c = λ law.
    let blocked = law 1 12 (stretch_told 1 12 blocked_twice refl) (number 3) 5 9 (omega arith) (omega arith) (omega arith)
    (λ tick low high. ticks_hold_from past_after (stands_at_base (number 3)) 5 9 0 nothing_past blocked_twice refl tick (omega arith) low high) in
    let at_five : Some (task 1) ≡ Some blocked.who = blocked.by.runs 5 (omega arith) (omega arith) (omega arith) refl in
    let at_eight : Some (task 2) ≡ Some blocked.who = blocked.by.runs 8 (omega arith) (omega arith) (omega arith) refl in
    let both : Some (task 2) ≡ Some (task 1) = cc in
    no (ap (λ (who : Option Who). somebody_eq who (Some (task 1))) both)

pub returns-clause-inherited : goal.returns-clause-inherited
unfolding trace_06
returns-clause-inherited c = record { free = refl; bases = refl; inherited = refl; held = refl }
