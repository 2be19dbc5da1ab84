-- An instant of an idle world does nothing, and its tock passes one tick.
use Rattle.std.proofs.Common.{◌≡◌, ℕ, zero, suc, ◌+◌, ◌<◌, ◌≤◌, true, false, cond, eqb, ◌&&◌, [], Some, None, refl, ap, ◌∙◌, arith}
use Rattle.trace_text.specs.declared.events.Ended.TheVariants as why
use Rattle.profile_image.specs.declared.image.Image.{Image}
use Rattle.profile_machine.specs.declared.world.World.{World}
use Rattle.ann_base.specs.Lists.{is_empty}
use Rattle.profile_machine.specs.Instant.{quantum_spent, instant, spend_quantum}
use Rattle.profile_machine.specs.Run.{stop, stop_by_bound, run_from}
use Rattle.std.specs.Option.{option_or}
use Rattle.machine_laws.specs.IdleLaws.{idle_at, NoneBefore, FirstNotBefore}
use Rattle.machine_laws.proofs.QuietLemmas.{instant-quiet, run_from-quiet}

-- nobody ran who could have spent a quantum
quantum-idle : (p : Image) (w : World) (n : ℕ) → quantum_spent p (idle_at w n) ≡ (idle_at w n, [])
unfolding spend_quantum
quantum-idle p w n = refl

instant-idle : (p : Image) (w : World) (n m : ℕ) → n < m → NoneBefore m w.appointments → FirstNotBefore m w.script → instant p (idle_at w n) ≡ (idle_at w n, [])
instant-idle p w n m a h s = instant-quiet p (idle_at w n) m refl a h s refl refl (quantum-idle p w n)

stop-idle : (p : Image) (bound : ℕ) (w : World) (n : ℕ) → n < bound → (is_empty w.appointments && is_empty w.script) ≡ false → stop p bound (idle_at w n) ≡ None
stop-idle p bound w n a h =
    let below : eqb n bound ≡ false = grind arith in
    ap (λ b. option_or (cond (true && b) (Some why.Stuck) None) (stop_by_bound bound (idle_at w n))) h ∙ ap (λ b. cond b (Some why.Bound) None) below

run_from-idle : (fuel : ℕ) (p : Image) (bound : ℕ) (w : World) (n m : ℕ) → n < m → n < bound → (is_empty w.appointments && is_empty w.script) ≡ false
    → NoneBefore m w.appointments → FirstNotBefore m w.script → run_from (suc fuel) p bound (idle_at w n) ≡ run_from fuel p bound (idle_at w (suc n))
run_from-idle fuel p bound w n m a b e h s =
    run_from-quiet fuel p bound (idle_at w n) (idle_at w (suc n)) (instant-idle p w n m a h s) (stop-idle p bound w n b e) refl

idle-stretch : (p : Image) (bound : ℕ) (w : World) (m : ℕ) (n k fuel : ℕ) → n + k ≤ bound → n + k ≤ m → (is_empty w.appointments && is_empty w.script) ≡ false
    → NoneBefore m w.appointments → FirstNotBefore m w.script → run_from (k + fuel) p bound (idle_at w n) ≡ run_from fuel p bound (idle_at w (n + k))
idle-stretch p bound w m n zero fuel a b e h s =
    let none : zero + fuel ≡ fuel = omega arith in
    let same : n ≡ n + zero = omega arith in
    ap (λ f. run_from f p bound (idle_at w n)) none ∙ ap (λ x. run_from fuel p bound (idle_at w x)) same
idle-stretch p bound w m n (suc k) fuel a b e h s =
    let more : suc k + fuel ≡ suc (k + fuel) = omega arith in
    let same : suc n + k ≡ n + suc k = omega arith in
    ap (λ f. run_from f p bound (idle_at w n)) more
    ∙ run_from-idle (k + fuel) p bound w n m (omega arith) (omega arith) e h s
    ∙ idle-stretch p bound w m (suc n) k fuel (omega arith) (omega arith) e h s
    ∙ ap (λ x. run_from fuel p bound (idle_at w x)) same

pub idle_stretches : (p : Image) (bound : ℕ) (w : World) (n k fuel : ℕ) → n + k ≤ bound → (is_empty w.appointments && is_empty w.script) ≡ false
    → NoneBefore (n + k) w.appointments → FirstNotBefore (n + k) w.script
    → run_from (k + fuel) p bound (idle_at w n) ≡ run_from fuel p bound (idle_at w (n + k))
idle_stretches p bound w n k fuel a e h s = idle-stretch p bound w (n + k) n k fuel a (omega arith) e h s
