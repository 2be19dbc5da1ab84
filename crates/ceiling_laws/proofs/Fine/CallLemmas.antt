-- Who made a call stays who made it, whatever is edited, made or forgotten.
use Rattle.std.proofs.Common.{◌≡◌, ℕ, suc, ◌≤◌, cond, List, ◌∷◌, Some, refl, sym, ap, ◌∙◌, arith}
use Rattle.std.specs.Prelude.{find}
use Rattle.ann_base.specs.declared.identities.CallNo.{CallNo}
use Rattle.trace_text.specs.declared.events.Who.{Who}
use Rattle.trace_text.specs.declared.events.Who.TheVariants as who
use Rattle.profile_machine.specs.declared.world.calls.Call.{Call}
use Rattle.profile_machine.specs.Calls.{is_call}
use Rattle.profile_machine.specs.EntryCalls.{numbered}
use Rattle.profile_image.specs.Words.{edit_where, without}
use Rattle.ceiling_laws.proofs.Fine.Cores.{CallerIn}
use Rattle.line_laws.proofs.Leaving.CallLemmas.{edited-before, gone-before, not_newer}

pub edited-caller : (c : CallNo) (f : Call → Call) (calls : List Call) (drawn : ℕ) → ((x : Call) → (f x).number ≡ x.number)
    → ((x : Call) → (f x).caller ≡ x.caller) → (name : Who) (k : CallNo) → CallerIn calls drawn k name → CallerIn (edit_where (is_call c) f calls) drawn k name
edited-caller c f calls drawn a b name k h =
    (h.0, λ d e. let q = edited-before c k f d calls (find (is_call c) calls) refl a b e in ap (λ t. who.Task t) (sym q.same) ∙ h.1 q.call q.found)

pub added-caller : (c : Call) (calls : List Call) (drawn : ℕ) (name : Who) (k : CallNo) → CallerIn calls drawn k name
    → CallerIn (numbered (suc drawn) c ∷ calls) (suc drawn) k name
added-caller c calls drawn name k h =
    let low : k.0 ≤ drawn = h.0 in
    (omega arith, λ d e. h.1 d (sym (ap (λ b. cond b (Some (numbered (suc drawn) c)) (find (is_call k) calls)) (not_newer k.0 drawn low)) ∙ e))

pub gone-caller : (c : CallNo) (calls : List Call) (drawn : ℕ) (name : Who) (k : CallNo) → CallerIn calls drawn k name
    → CallerIn (without (is_call c) calls) drawn k name
gone-caller c calls drawn name k h = (h.0, λ d e. h.1 d (gone-before c k d calls e))
