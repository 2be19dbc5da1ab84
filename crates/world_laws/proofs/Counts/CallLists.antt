-- Lists of calls, counted by their numbers; and the queues of an object.
use Rattle.std.proofs.Common.{◌≡◌, ℕ, zero, suc, ◌≤◌, ◌<◌, Bool, true, false, cond, not, eqb, length}
use Rattle.std.proofs.Common.{List, [], ◌∷◌, Option, Some, None, refl, sym, ap, subst, ◌∙◌, arith}
use Rattle.std.specs.Prelude.{find}
use Rattle.std.proofs.lemmas.Bool.{eqb-true, or_left, or_right, true≢false}
use Rattle.ann_base.specs.declared.identities.CallNo.{CallNo}
use Rattle.profile_machine.specs.declared.world.calls.Call.{Call}
use Rattle.profile_image.specs.Words.{edit_where, edit_found, set_where, without, has, same_call}
use Rattle.profile_machine.specs.Values.{queue_at}
use Rattle.profile_machine.specs.Calls.{is_call}
use Rattle.world_laws.proofs.Counts.NumberedLists.{by}
use Rattle.world_laws.proofs.Queues.CallLists.{call_number, in_queues}

-- ---- how many calls have numbers of a kind

abbrev pub counted : (CallNo → Bool) → List Call → ℕ
counted test [] = 0
counted test (d ∷ ds) = cond (test d.number) (suc (counted test ds)) (counted test ds)

one-more : (b : Bool) (few most : ℕ) → few ≤ most → cond b (suc few) few ≤ suc most
one-more true few most h = omega (arith, h)
one-more false few most h = omega (arith, h)

pub counted-length : (test : CallNo → Bool) (ds : List Call) → counted test ds ≤ length ds
counted-length test [] = omega arith
counted-length test (d ∷ ds) = one-more (test d.number) (counted test ds) (length ds) (counted-length test ds)

-- fewer of them, and fewer where one that is found is of them no more
both-counted : (a b : Bool) (few most : ℕ) → (a ≡ true → b ≡ true) → few ≤ most → cond a (suc few) few ≤ cond b (suc most) most
both-counted true true few most h k = omega (arith, k)
both-counted true false few most h k = absurd (true≢false (sym (h refl)))
both-counted false true few most h k = omega (arith, k)
both-counted false false few most h k = k

pub counted-fewer : (few most : CallNo → Bool) → ((c : CallNo) → few c ≡ true → most c ≡ true) → (ds : List Call) → counted few ds ≤ counted most ds
counted-fewer few most h [] = omega arith
counted-fewer few most h (d ∷ ds) = both-counted (few d.number) (most d.number) (counted few ds) (counted most ds) (h d.number) (counted-fewer few most h ds)

one-less : (a b : Bool) (few most : ℕ) → a ≡ false → b ≡ true → few ≤ most → cond a (suc few) few < cond b (suc most) most
one-less true b few most p q k = absurd (true≢false p)
one-less false true few most p q k = omega (arith, k)
one-less false false few most p q k = absurd (true≢false (sym q))

still-less : (a b : Bool) (few most : ℕ) → (a ≡ true → b ≡ true) → few < most → cond a (suc few) few < cond b (suc most) most
still-less true true few most h k = omega (arith, k)
still-less true false few most h k = absurd (true≢false (sym (h refl)))
still-less false true few most h k = omega (arith, k)
still-less false false few most h k = k

less-step : (few most : CallNo → Bool) (c : CallNo) (z : Call) (zs : List Call) (b : Bool) → eqb c.0 z.number.0 ≡ b
    → ((x : CallNo) → few x ≡ true → most x ≡ true) → few c ≡ false → most c ≡ true
    → (b ≡ false → counted few zs < counted most zs) → counted few (z ∷ zs) < counted most (z ∷ zs)
less-step few most c z zs true is h out in_before onward =
    let one : c ≡ z.number = ap (λ (n : ℕ). record { 0 = n }) (eqb-true c.0 z.number.0 is) in
    one-less (few z.number) (most z.number) (counted few zs) (counted most zs) (subst (λ x. few x ≡ false) one out) (subst (λ x. most x ≡ true) one in_before)
    (counted-fewer few most h zs)
less-step few most c z zs false is h out in_before onward =
    still-less (few z.number) (most z.number) (counted few zs) (counted most zs) (h z.number) (onward refl)

past-first : {X : Type 0} (b : Bool) (z x : X) (rest : Option X) → b ≡ false → cond b (Some z) rest ≡ Some x → rest ≡ Some x
past-first true z x rest p e = absurd (true≢false p)
past-first false z x rest p e = e

pub counted-less : (few most : CallNo → Bool) (c : CallNo) (d : Call) → ((x : CallNo) → few x ≡ true → most x ≡ true) → few c ≡ false → most c ≡ true
    → (ds : List Call) → find (is_call c) ds ≡ Some d → counted few ds < counted most ds
counted-less few most c d h out in_before [] e = absurd cc
counted-less few most c d h out in_before (z ∷ zs) e =
    less-step few most c z zs (eqb c.0 z.number.0) refl h out in_before
    (λ past. counted-less few most c d h out in_before zs (past-first (eqb c.0 z.number.0) z d (find (is_call c) zs) past e))

-- an edit that keeps numbers keeps the count, and calls that are taken out leave no more
counted-set_step : (test : CallNo → Bool) (m : ℕ) (f : Call → Call) (x z : Call) (zs others : List Call) (b : Bool) → (f x).number ≡ x.number
    → cond b (Some z) (find (by call_number m) zs) ≡ Some x
    → (find (by call_number m) zs ≡ Some x → counted test others ≡ counted test zs) → counted test (cond b (f x ∷ zs) (z ∷ others)) ≡ counted test (z ∷ zs)
counted-set_step test m f x z zs others true same e onward =
    let alike : z ≡ x = cc in ap (λ n. cond (test n) (suc (counted test zs)) (counted test zs)) (same ∙ ap (λ y. y.number) (sym alike))
counted-set_step test m f x z zs others false same e onward = ap (λ n. cond (test z.number) (suc n) n) (onward e)

counted-set : (test : CallNo → Bool) (m : ℕ) (f : Call → Call) (x : Call) (xs : List Call) → (f x).number ≡ x.number → find (by call_number m) xs ≡ Some x
    → counted test (set_where (by call_number m) (f x) xs) ≡ counted test xs
counted-set test m f x [] same e = refl
counted-set test m f x (z ∷ zs) same e =
    counted-set_step test m f x z zs (set_where (by call_number m) (f x) zs) (by call_number m z) same e (λ k. counted-set test m f x zs same k)

counted-from : (test : CallNo → Bool) (m : ℕ) (f : Call → Call) (xs : List Call) (found : Option Call) → ((d : Call) → (f d).number ≡ d.number)
    → find (by call_number m) xs ≡ found → counted test (edit_found (by call_number m) f xs found) ≡ counted test xs
counted-from test m f xs None same is = refl
counted-from test m f xs (Some x) same is = counted-set test m f x xs (same x) is

pub counted-edited : (test : CallNo → Bool) (m : ℕ) (f : Call → Call) (xs : List Call) → ((d : Call) → (f d).number ≡ d.number)
    → counted test (edit_where (by call_number m) f xs) ≡ counted test xs
counted-edited test m f xs same = counted-from test m f xs (find (by call_number m) xs) same refl

kept-or-not : (b c : Bool) (test : CallNo → Bool) (z : Call) (zs left : List Call) → test z.number ≡ c → counted test left ≤ counted test zs
    → counted test (cond b (z ∷ left) left) ≤ cond c (suc (counted test zs)) (counted test zs)
kept-or-not true true test z zs left is h =
    subst (λ t. cond t (suc (counted test left)) (counted test left) ≤ suc (counted test zs)) (sym is) (omega (arith, h))
kept-or-not true false test z zs left is h = subst (λ t. cond t (suc (counted test left)) (counted test left) ≤ counted test zs) (sym is) h
kept-or-not false true test z zs left is h = omega (arith, h)
kept-or-not false false test z zs left is h = h

pub counted-without : (test : CallNo → Bool) (out : Call → Bool) (ds : List Call) → counted test (without out ds) ≤ counted test ds
counted-without test out [] = omega arith
counted-without test out (d ∷ ds) = kept-or-not (not (out d)) (test d.number) test d ds (without out ds) refl (counted-without test out ds)

-- ---- queues

-- a call stands in some queue

pub some-at : (queues : List (List CallNo)) (k : ℕ) (c : CallNo) → has same_call (queue_at queues k) c ≡ true → in_queues queues c ≡ true
some-at [] k c h = absurd (true≢false (sym h))
some-at (queue ∷ queues) zero c h = or_left (has same_call queue c) (in_queues queues c) h
some-at (queue ∷ queues) (suc k) c h = or_right (has same_call queue c) (in_queues queues c) (some-at queues k c h)

-- a call that is taken out stands there no more, and nobody comes
