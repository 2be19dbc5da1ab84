-- One turn more of the service of queued calls.
use Rattle.std.proofs.Common.{◌≡◌, ℕ, ◌-◌, ◌<◌, ◌≤◌, suc, Bool, true, false, List, Option, None, length, ap, arith, refl, sym, ◌∙◌}
use Rattle.ann_base.specs.declared.identities.CallNo.{CallNo}
use Rattle.trace_text.specs.declared.events.Who.{Who}
use Rattle.profile_image.specs.declared.image.Image.{Image}
use Rattle.profile_machine.specs.declared.world.World.{World}
use Rattle.profile_machine.specs.declared.world.lines.Said.{Said}
use Rattle.profile_machine.specs.declared.world.marks.ProtectedMark.{ProtectedMark}
use Rattle.profile_machine.specs.Serving.{serve_calls, serve_next, release_object}
use Rattle.profile_machine.specs.Steps.{done, when}
use Rattle.machine_frames.specs.declared.effects.Effect.{Effect}
use Rattle.machine_protected.specs.Turns.{turn, Leads}

serve_next-suc : (n : ℕ) (p : Image) (name : Who) (m : ProtectedMark) (sent : Option CallNo) (w : World) (said : List Said)
    → serve_next (suc n) p name m sent w said ≡ turn p name m sent (serve_next n p name m None) w said
unfolding serve_next
serve_next-suc n p name m sent w said = refl

serve_next-zero : (p : Image) (name : Who) (m : ProtectedMark) (w : World) (said : List Said)
    → serve_next 0 p name m None w said ≡ release_object p name m w said
unfolding serve_next
serve_next-zero p name m w said = refl

pub serve_next-more : (n : ℕ) (p : Image) (name : Who) (m : ProtectedMark) (w : World) (said : List Said) → 0 < n
    → serve_next n p name m None w said ≡ turn p name m None (serve_next (n - 1) p name m None) w said
serve_next-more n p name m w said l =
    let e : n ≡ suc (n - 1) = omega arith in
    ap (λ k. serve_next k p name m None w said) e ∙ serve_next-suc (n - 1) p name m None w said

pub serve_next-none : (n : ℕ) (p : Image) (name : Who) (m : ProtectedMark) (w : World) (said : List Said) → n ≤ 0
    → serve_next n p name m None w said ≡ release_object p name m w said
serve_next-none n p name m w said l =
    let e : n ≡ 0 = omega arith in
    ap (λ k. serve_next k p name m None w said) e ∙ serve_next-zero p name m w said

-- ---- the first turn

module _ (n : ℕ) (p : Image) (name : Who) (m : ProtectedMark) (sent : Option CallNo) where
  serve_calls-first : (w : World) (said : List Said) → n ≡ length w.calls
      → serve_calls p name m sent w said ≡ turn p name m sent (serve_next n p name m None) w said
  unfolding serve_calls
  serve_calls-first w said e =
      serve_next-suc (length w.calls) p name m sent w said ∙ ap (λ k. turn p name m sent (serve_next k p name m None) w said) (sym e)

  pub serve_calls-on : (again : Bool) (before after : Effect) → n ≡ length before.world.calls → Leads again (turn p name m sent) before after → again ≡ true
      → serve_calls p name m sent before.world before.said ≡ serve_next n p name m None after.world after.said
  serve_calls-on again before after e h t =
      serve_calls-first before.world before.said e ∙ h (serve_next n p name m None)
      ∙ ap (λ b. when b (serve_next n p name m None) after.world after.said) t

  pub serve_calls-over : (again : Bool) (before after : Effect) → n ≡ length before.world.calls → Leads again (turn p name m sent) before after → again ≡ false
      → serve_calls p name m sent before.world before.said ≡ done after.world after.said
  serve_calls-over again before after e h t =
      serve_calls-first before.world before.said e ∙ h (serve_next n p name m None)
      ∙ ap (λ b. when b (serve_next n p name m None) after.world after.said) t

pub ruleset turn_laws = (serve_next-more, serve_next-none)
