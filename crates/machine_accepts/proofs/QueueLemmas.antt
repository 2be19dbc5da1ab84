-- The call that is accepted next, from the last accept on.
use Rattle.std.proofs.Common.{◌≡◌, ℕ, ◌-◌, ◌<◌, ◌≤◌, zero, suc, List, [], ◌∷◌, Some, None, length, drop, refl, ap, sym, ◌∙◌, arith}
use Rattle.std.proofs.lemmas.List.{drop_all}
use Rattle.std.specs.List.{slice_get}
use Rattle.ann_base.specs.declared.identities.CallNo.{CallNo}
use Rattle.trace_text.specs.declared.events.Who.{Who}
use Rattle.profile_image.specs.declared.image.Image.{Image}
use Rattle.profile_image.specs.declared.image.Queuing.{Queuing}
use Rattle.profile_image.specs.declared.image.Queuing.TheVariants as queuing
use Rattle.profile_image.specs.declared.numbers.StatementNo.{StatementNo}
use Rattle.profile_machine.specs.declared.world.World.{World}
use Rattle.profile_machine.specs.Calls.{next_by, next_call}
use Rattle.profile_image.specs.Program.{form_of}
use Rattle.profile_machine.specs.Rendezvous.{queue_of_accept, queues_of_accepts}
use Rattle.world_tables.specs.Lists.{first_of}
use Rattle.machine_barriers.specs.Heads.{next_with}

empty-by : (policy : Queuing) (w : World) → next_by policy w ([] ∷ []) ≡ None
empty-by queuing.Fifo w = refl
empty-by queuing.Priority w = refl

pub next-empty : (p : Image) (w : World) (queue : List CallNo) → [] ≡ queue → next_call p w (queue ∷ []) ≡ None
next-empty p w queue e = ap (λ q. next_call p w (q ∷ [])) (sym e) ∙ empty-by p.policies.queuing w

pub ruleset queue_laws = (next-empty)

none-by : (policy : Queuing) (w : World) → next_by policy w [] ≡ None
none-by queuing.Fifo w = refl
none-by queuing.Priority w = refl

pub next-none : (p : Image) (w : World) (name : Who) (accepts : List StatementNo) (n : ℕ) → length accepts ≤ n
    → next_call p w (queues_of_accepts p w name (drop n accepts)) ≡ None
next-none p w name accepts n l = ap (λ ss. next_call p w (queues_of_accepts p w name ss)) (drop_all n accepts l) ∙ none-by p.policies.queuing w

next-cons : (policy : Queuing) (w : World) (queue : List CallNo) (queues : List (List CallNo))
    → next_by policy w (queue ∷ queues) ≡ next_with policy w (first_of queue) (next_by policy w queues)
next-cons queuing.Fifo w [] queues = refl
next-cons queuing.Fifo w (c ∷ cs) queues = refl
next-cons queuing.Priority w [] queues = refl
next-cons queuing.Priority w (c ∷ cs) queues = refl

pub dropped : {X : Type 0} (xs : List X) (i : ℕ) (x : X) → slice_get xs i ≡ Some x → drop i xs ≡ x ∷ drop (suc i) xs
dropped [] i x e = cc
dropped (y ∷ ys) zero x e = cc
dropped (y ∷ ys) (suc i) x e = dropped ys i x e

not-dropped : {X : Type 0} (xs : List X) (i : ℕ) → slice_get xs i ≡ None → drop i xs ≡ drop (suc i) xs
not-dropped [] zero e = refl
not-dropped [] (suc i) e = refl
not-dropped (y ∷ ys) zero e = cc
not-dropped (y ∷ ys) (suc i) e = not-dropped ys i e

pub dropped-before : {X : Type 0} (xs : List X) (n : ℕ) (x : X) → 0 < n → slice_get xs (n - 1) ≡ Some x → drop (n - 1) xs ≡ x ∷ drop n xs
dropped-before xs n x h e =
    let s : suc (n - 1) ≡ n = omega arith in
    dropped xs (n - 1) x e ∙ ap (λ m. x ∷ drop m xs) s

pub not-dropped-before : {X : Type 0} (xs : List X) (n : ℕ) → 0 < n → slice_get xs (n - 1) ≡ None → drop (n - 1) xs ≡ drop n xs
not-dropped-before xs n h e =
    let s : suc (n - 1) ≡ n = omega arith in
    not-dropped xs (n - 1) e ∙ ap (λ m. drop m xs) s

-- one accept before those from a place on
pub next-before : (p : Image) (w : World) (name : Who) (accepts : List StatementNo) (n : ℕ) (s : StatementNo) → 0 < n → slice_get accepts (n - 1) ≡ Some s
    → next_call p w (queues_of_accepts p w name (drop (n - 1) accepts))
    ≡ next_with p.policies.queuing w (first_of (queue_of_accept p w name (form_of p s))) (next_call p w (queues_of_accepts p w name (drop n accepts)))
next-before p w name accepts n s h e =
    ap (λ ss. next_call p w (queues_of_accepts p w name ss)) (dropped-before accepts n s h e)
    ∙ next-cons p.policies.queuing w (queue_of_accept p w name (form_of p s)) (queues_of_accepts p w name (drop n accepts))

pub next-kept : (p : Image) (w : World) (name : Who) (accepts : List StatementNo) (n : ℕ) → 0 < n → slice_get accepts (n - 1) ≡ None
    → next_call p w (queues_of_accepts p w name (drop (n - 1) accepts)) ≡ next_call p w (queues_of_accepts p w name (drop n accepts))
next-kept p w name accepts n h e = ap (λ ss. next_call p w (queues_of_accepts p w name ss)) (not-dropped-before accepts n h e)

pub ruleset accept_queue_laws = (next-none, next-before, next-kept)
