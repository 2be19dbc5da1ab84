-- An action is closed where it stands first.
use Rattle.std.proofs.Common.{◌≡◌, ℕ, suc, ◌<◌, ◌≤◌, true, false, cond, List, [], ◌∷◌, length, refl, ap, sym, arith}
use Rattle.std.specs.List.{remove}
use Rattle.trace_text.specs.declared.events.Who.{Who}
use Rattle.trace_text.specs.declared.events.Action.{Action}
use Rattle.trace_text.specs.Laws.{closed}
use Rattle.trace_laws.specs.Actions.{is_of, place_of}

closed-remove : (object : ℕ) (who : Who) (actions : List Action) → place_of object who actions < length actions
    → closed object who actions ≡ remove actions (place_of object who actions)
closed-remove object who [] h = absurd (omega (arith, h))
closed-remove object who (action ∷ actions) h =
    elim (is_of object who action) as (λ b. cond b 0 (suc (place_of object who actions)) < suc (length actions)
    → cond b actions (action ∷ closed object who actions) ≡ remove (action ∷ actions) (cond b 0 (suc (place_of object who actions)))) [
      | true ↦ λ h. refl
      | false ↦ λ h. ap (λ l. action ∷ l) (closed-remove object who actions (omega (arith, h)))
    ] h

closed-none : (object : ℕ) (who : Who) (actions : List Action) → length actions ≤ place_of object who actions → closed object who actions ≡ actions
closed-none object who [] h = refl
closed-none object who (action ∷ actions) h =
    elim (is_of object who action) as (λ b.
    suc (length actions) ≤ cond b 0 (suc (place_of object who actions)) → cond b actions (action ∷ closed object who actions) ≡ action ∷ actions) [
      | true ↦ λ h. absurd (omega (arith, h))
      | false ↦ λ h. ap (λ l. action ∷ l) (closed-none object who actions (omega (arith, h)))
    ] h

pub closed_first : (object : ℕ) (who : Who) (actions : List Action) (place : ℕ) → place ≡ place_of object who actions → place < length actions
    → remove actions place ≡ closed object who actions
closed_first object who actions place e h = rw e (sym (closed-remove object who actions (omega (arith, e, h))))

pub closed_none : (object : ℕ) (who : Who) (actions : List Action) (place : ℕ) → place ≡ place_of object who actions → length actions ≤ place
    → closed object who actions ≡ actions
closed_none object who actions place e h = closed-none object who actions (omega (arith, e, h))
