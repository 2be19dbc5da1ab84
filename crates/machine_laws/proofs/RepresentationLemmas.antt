-- The run of the row `representation`: its first five ticks, the idle stretch up to the moment of the delay, and the end.
use Rattle.std.proofs.Common.{◌≡◌, ℕ, zero, suc, ◌+◌, ◌≤ℤ◌, pos, [], ◌∷◌, None, refl, sym, ap, subst, ◌∙◌, arith}
use Rattle.std.specs.Prelude.{codes}
use Rattle.std.specs.Fmt.{digits}
use Rattle.std.specs.Int.Signed.{≤ℤ_refl}
use Rattle.trace_text.specs.declared.events.Event.TheVariants as line
use Rattle.trace_text.specs.declared.events.Created.TheVariants as created
use Rattle.trace_text.specs.declared.events.Ended.TheVariants as end
use Rattle.trace_text.specs.declared.events.QueueEnd.TheVariants.{Tail}
use Rattle.trace_text.specs.declared.events.Waits.TheVariants as waits
use Rattle.profile_machine.specs.declared.world.World.{World}
use Rattle.profile_machine.specs.Notation.{task, t}
use Rattle.profile_machine.specs.Instant.{instant}
use Rattle.profile_machine.specs.Computing.{computing}
use Rattle.profile_machine.specs.Run.{opening, tock, then_runs, run_from}
use Rattle.machine_laws.specs.Rows.RowRepresentation.{row_representation_program as program, row_representation_lines, row_representation_trace}
use Rattle.machine_laws.specs.IdleLaws.{idle_at}
use Rattle.machine_laws.proofs.IdleLemmas.{idle_stretches}

abbrev first : World
first = (opening program []).0

-- so many instants and tocks on
abbrev turns : ℕ → World → World
turns zero w = w
turns (suc n) w = turns n (tock program (instant program w).0).0

abbrev idle : World
idle = turns 5 first

opening-lines : (fuel : ℕ)
    → (then_runs 0 (opening program []).1 (run_from fuel program 1000000000 first)).lines
    ≡ (0, line.New (created.Task (task 0)) (codes "main") 15) ∷ (0, line.Ready (t 0) 15 Tail None) ∷ (run_from fuel program 1000000000 first).lines
unfolding digits computing
opening-lines fuel = refl

-- up to the delay
front-lines : (fuel : ℕ)
    → (run_from (suc (suc (suc (suc (suc fuel))))) program 1000000000 first).lines
    ≡ (0, line.Run (t 0)) ∷ (4, line.Block (t 0) waits.Delay) ∷ (4, line.Idle) ∷ (run_from fuel program 1000000000 (idle_at idle 5)).lines
unfolding digits computing
front-lines fuel = refl

-- from its moment on
back-lines : (fuel : ℕ)
    → (run_from (suc (suc (suc fuel))) program 1000000000 (idle_at idle 900000004)).lines
    ≡ (900000004, line.Ready (t 0) 15 Tail None) ∷ (900000004, line.Run (t 0)) ∷ (900000006, line.Done (task 0)) ∷ (900000006, line.End end.Completed) ∷ []
unfolding digits computing
back-lines fuel = refl

-- over the idle stretch
all-lines : (fuel k left : ℕ) → k ≡ 899999999 → fuel ≡ suc (suc (suc (suc (suc (k + suc (suc (suc left)))))))
    → (then_runs 0 (opening program []).1 (run_from fuel program 1000000000 first)).lines ≡ row_representation_trace
unfolding row_representation_trace digits computing
all-lines fuel k left e f =
    let there : 5 + k ≡ 900000004 = omega arith in
    opening-lines fuel ∙ ap (λ xs. (0, line.New (created.Task (task 0)) (codes "main") 15) ∷ (0, line.Ready (t 0) 15 Tail None) ∷ xs) (
    ap (λ n. (run_from n program 1000000000 first).lines) f
    ∙ front-lines (k + suc (suc (suc left)))
    ∙ ap (λ xs. (0, line.Run (t 0)) ∷ (4, line.Block (t 0) waits.Delay) ∷ (4, line.Idle) ∷ xs) (
    ap (λ r. r.lines)
    (idle_stretches program 1000000000 idle 5 k (suc (suc (suc left))) (omega arith) refl
    (subst (λ n. pos n ≤ℤ pos 900000004) (sym there) (≤ℤ_refl (pos 900000004)), tt) tt)
    ∙ ap (λ n. (run_from (suc (suc (suc left))) program 1000000000 (idle_at idle n)).lines) there
    ∙ back-lines left))

pub row_representation_runs : row_representation_lines ≡ row_representation_trace
unfolding row_representation_lines
row_representation_runs = all-lines 1000000001 899999999 99999994 refl refl
