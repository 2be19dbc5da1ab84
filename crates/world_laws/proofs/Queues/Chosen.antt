-- The call that is chosen stands in one of the queues from which it is chosen (9.5.3, D.4).
use Rattle.std.proofs.Common.{◌≡◌, Bool, true, false, cond, ◌||◌, ltb, List, [], ◌∷◌, Option, Some, None, refl, sym, subst, ap, map}
use Rattle.std.specs.List.{list_any}
use Rattle.std.proofs.lemmas.Bool.{eq-eqb, or_left, or_right, true≢false}
use Rattle.ann_base.specs.declared.identities.CallNo.{CallNo}
use Rattle.profile_image.specs.declared.image.Image.{Image}
use Rattle.profile_image.specs.declared.image.Queuing.{Queuing}
use Rattle.profile_image.specs.declared.image.Queuing.TheVariants as queuing
use Rattle.profile_machine.specs.declared.world.World.{World}
use Rattle.profile_image.specs.Words.{same_call, has}
use Rattle.profile_machine.specs.Calls.{first_head, better_of, best_head, next_by, next_call, priority_of}

abbrev pub InSome : List (List CallNo) → CallNo → Type 0
InSome queues c = list_any (λ q. has same_call q c) queues ≡ true

in-first : (x c : CallNo) (xs : List CallNo) (queues : List (List CallNo)) → x ≡ c → InSome ((x ∷ xs) ∷ queues) c
in-first x c xs queues is =
    or_left (has same_call (x ∷ xs) c) (list_any (λ q. has same_call q c) queues)
    (or_left (same_call x c) (has same_call xs c) (subst (λ y. same_call x y ≡ true) is (eq-eqb x.0 x.0 refl)))

in-rest : (q : List CallNo) (queues : List (List CallNo)) (c : CallNo) → InSome queues c → InSome (q ∷ queues) c
in-rest q queues c h = or_right (has same_call q c) (list_any (λ r. has same_call r c) queues) h

pub some-same : (a b : CallNo) → Some a ≡ Some b → a ≡ b
some-same a b e = cc

none-some : (a : CallNo) → None ≡ Some a → ⊥
none-some a e = cc

first-in : (queues : List (List CallNo)) (c : CallNo) → first_head queues ≡ Some c → InSome queues c
first-in [] c e = absurd (none-some c e)
first-in ([] ∷ queues) c e = first-in queues c e
first-in ((x ∷ xs) ∷ queues) c e = in-first x c xs queues (some-same x c e)

better-in : (w : World) (x c : CallNo) (xs : List CallNo) (queues : List (List CallNo)) (found : Option CallNo) → better_of w x found ≡ c
    → (found ≡ Some c → InSome queues c) → InSome ((x ∷ xs) ∷ queues) c
better-in w x c xs queues None e onward = in-first x c xs queues e
better-in w x c xs queues (Some d) e onward = step (ltb (priority_of w x) (priority_of w d)) e onward where
  step : (b : Bool) → cond b d x ≡ c → (Some d ≡ Some c → InSome queues c) → InSome ((x ∷ xs) ∷ queues) c
  step true k onward = in-rest (x ∷ xs) queues c (onward (ap Some k))
  step false k onward = in-first x c xs queues k

best-in : (w : World) (queues : List (List CallNo)) (c : CallNo) → best_head w queues ≡ Some c → InSome queues c
best-in w [] c e = absurd (none-some c e)
best-in w ([] ∷ queues) c e = best-in w queues c e
best-in w ((x ∷ xs) ∷ queues) c e = better-in w x c xs queues (best_head w queues) (some-same (better_of w x (best_head w queues)) c e) (best-in w queues c)

next-by_in : (queuing : Queuing) (w : World) (queues : List (List CallNo)) (c : CallNo) → next_by queuing w queues ≡ Some c → InSome queues c
next-by_in queuing.Fifo w queues c e = first-in queues c e
next-by_in queuing.Priority w queues c e = best-in w queues c e

pub next-in : (p : Image) (w : World) (queues : List (List CallNo)) (c : CallNo) → next_call p w queues ≡ Some c → InSome queues c
next-in p w queues c e = next-by_in p.policies.queuing w queues c e

-- of queues that are found for each of a list
pub in-mapped : {X : Type 0} (f : X → List CallNo) (xs : List X) (c : CallNo) → InSome (map f xs) c → (x : X) × (has same_call (f x) c ≡ true)
in-mapped f [] c h = absurd (true≢false (sym h))
in-mapped f (x ∷ xs) c h = step (has same_call (f x) c) refl h (in-mapped f xs c) where
  step : (b : Bool) → has same_call (f x) c ≡ b → (b || list_any (λ q. has same_call q c) (map f xs)) ≡ true
      → (InSome (map f xs) c → (y : _) × (has same_call (f y) c ≡ true)) → (y : _) × (has same_call (f y) c ≡ true)
  step true is k onward = (x, is)
  step false is k onward = onward k

pub in-one : (q : List CallNo) (c : CallNo) → InSome (q ∷ []) c → has same_call q c ≡ true
in-one q c h = step (has same_call q c) h where
  step : (b : Bool) → (b || false) ≡ true → b ≡ true
  step true e = refl
  step false e = e
