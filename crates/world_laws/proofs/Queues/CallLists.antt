-- Numbers of calls, and the queues in which they stand.
use Rattle.std.proofs.Common.{◌≡◌, ℕ, zero, suc, Bool, true, false, cond, not, ◌||◌, ◌⊎◌, inl, inr, List, [], ◌∷◌, refl, sym, ap, subst, ◌∙◌}
use Rattle.std.specs.List.{list_any}
use Rattle.std.proofs.lemmas.Bool.{eqb-true, eq-eqb, or_left, or_right, true≢false}
use Rattle.ann_base.specs.declared.identities.CallNo.{CallNo}
use Rattle.profile_machine.specs.declared.world.calls.Call.{Call}
use Rattle.profile_image.specs.Words.{edit_at, has, same_call}
use Rattle.profile_machine.specs.Values.{queue_at}
use Rattle.profile_machine.specs.Calls.{take_call}

abbrev pub call_number : Call → ℕ
call_number d = d.number.0

pub same-call : (a b : CallNo) → same_call a b ≡ true → a ≡ b
same-call a b e = ap (λ (n : ℕ). record { 0 = n }) (eqb-true a.0 b.0 e)

-- a call stands in some queue
abbrev pub in_queues : List (List CallNo) → CallNo → Bool
in_queues queues c = list_any (λ queue. has same_call queue c) queues

abbrev pub AtSome : List (List CallNo) → CallNo → Type 0
AtSome queues c = (k : ℕ) × (has same_call (queue_at queues k) c ≡ true)

pub one-on : (queue : List CallNo) (queues : List (List CallNo)) (c : CallNo) → AtSome queues c → AtSome (queue ∷ queues) c
one-on queue queues c h = (suc h.0, h.1)

pub some-step : (queue : List CallNo) (queues : List (List CallNo)) (c : CallNo) (b : Bool) → has same_call queue c ≡ b → (b || in_queues queues c) ≡ true
    → (in_queues queues c ≡ true → AtSome queues c) → AtSome (queue ∷ queues) c
some-step queue queues c true is e onward = (0, is)
some-step queue queues c false is e onward = one-on queue queues c (onward e)

pub at-some : (queues : List (List CallNo)) (c : CallNo) → in_queues queues c ≡ true → AtSome queues c
at-some [] c e = absurd (true≢false (sym e))
at-some (queue ∷ queues) c e = some-step queue queues c (has same_call queue c) refl e (at-some queues c)

-- a call that is taken out stands there no more, and nobody comes
pub or-on : (a b c : Bool) → (a || b) ≡ true → (b ≡ true → c ≡ true) → (a || c) ≡ true
or-on true b c h onward = refl
or-on false b c h onward = onward h

pub has-step : (b : Bool) (x c : CallNo) (left queue : List CallNo) → has same_call (cond b (x ∷ left) left) c ≡ true
    → (has same_call left c ≡ true → has same_call queue c ≡ true) → (same_call x c || has same_call queue c) ≡ true
has-step true x c left queue h onward = or-on (same_call x c) (has same_call left c) (has same_call queue c) h onward
has-step false x c left queue h onward = or_right (same_call x c) (has same_call queue c) (onward h)

pub taken-has : (out : CallNo) (queue : List CallNo) (c : CallNo) → has same_call (take_call out queue) c ≡ true → has same_call queue c ≡ true
taken-has out [] c h = h
taken-has out (x ∷ queue) c h = has-step (not (same_call out x)) x c (take_call out queue) queue h (taken-has out queue c)

-- another stays
left-step : (b d : Bool) (out x c : CallNo) (left : List CallNo) → same_call out x ≡ b → same_call x c ≡ d
    → (d ≡ false → (has same_call left c ≡ true) ⊎ (same_call out c ≡ true))
    → (has same_call (cond (not b) (x ∷ left) left) c ≡ true) ⊎ (same_call out c ≡ true)
left-step true true out x c left is here onward = inr (subst (λ n. same_call out n ≡ true) (same-call x c here) is)
left-step true false out x c left is here onward = onward refl
left-step false true out x c left is here onward = inl (or_left (same_call x c) (has same_call left c) here)
left-step false false out x c left is here onward = later (onward refl) where
  later : (has same_call left c ≡ true) ⊎ (same_call out c ≡ true) → (has same_call (x ∷ left) c ≡ true) ⊎ (same_call out c ≡ true)
  later (inl h) = inl (or_right (same_call x c) (has same_call left c) h)
  later (inr h) = inr h

rest-has : (a b : Bool) → (a || b) ≡ true → a ≡ false → b ≡ true
rest-has true b h e = absurd (true≢false e)
rest-has false b h e = h

pub left-has : (out : CallNo) (queue : List CallNo) (c : CallNo) → has same_call queue c ≡ true
    → (has same_call (take_call out queue) c ≡ true) ⊎ (same_call out c ≡ true)
left-has out [] c h = inl h
left-has out (x ∷ queue) c h =
    left-step (same_call out x) (same_call x c) out x c (take_call out queue) refl refl
    (λ apart. left-has out queue c (rest-has (same_call x c) (has same_call queue c) h apart))

pub left-at : (queues : List (List CallNo)) (place k : ℕ) (out c : CallNo) → has same_call (queue_at queues k) c ≡ true
    → (has same_call (queue_at (edit_at place (take_call out) queues) k) c ≡ true) ⊎ (same_call out c ≡ true)
left-at [] place k out c h = inl h
left-at (queue ∷ queues) zero zero out c h = left-has out queue c h
left-at (queue ∷ queues) zero (suc k) out c h = inl h
left-at (queue ∷ queues) (suc place) zero out c h = inl h
left-at (queue ∷ queues) (suc place) (suc k) out c h = left-at queues place k out c h

pub taken-at : (queues : List (List CallNo)) (place k : ℕ) (out c : CallNo) → has same_call (queue_at (edit_at place (take_call out) queues) k) c ≡ true
    → has same_call (queue_at queues k) c ≡ true
taken-at [] place k out c h = h
taken-at (queue ∷ queues) zero zero out c h = taken-has out queue c h
taken-at (queue ∷ queues) zero (suc k) out c h = h
taken-at (queue ∷ queues) (suc place) zero out c h = h
taken-at (queue ∷ queues) (suc place) (suc k) out c h = taken-at queues place k out c h

pub gone-step : (b d : Bool) (c x : CallNo) (left : List CallNo) → same_call c x ≡ b → same_call x c ≡ d → has same_call left c ≡ false
    → has same_call (cond (not b) (x ∷ left) left) c ≡ false
gone-step true d c x left is back h = h
gone-step false true c x left is back h =
    let one : x ≡ c = same-call x c back in
    let self : same_call c x ≡ true = subst (λ y. same_call c y ≡ true) (sym one) (eq-eqb c.0 c.0 refl) in
    absurd (true≢false (sym self ∙ is))
gone-step false false c x left is back h = ap (λ t. t || has same_call left c) back ∙ h

pub gone-has : (c : CallNo) (queue : List CallNo) → has same_call (take_call c queue) c ≡ false
gone-has c [] = refl
gone-has c (x ∷ queue) = gone-step (same_call c x) (same_call x c) c x (take_call c queue) refl refl (gone-has c queue)

pub gone-at : (queues : List (List CallNo)) (place : ℕ) (c : CallNo) → has same_call (queue_at (edit_at place (take_call c) queues) place) c ≡ false
gone-at [] place c = refl
gone-at (queue ∷ queues) zero c = gone-has c queue
gone-at (queue ∷ queues) (suc place) c = gone-at queues place c
