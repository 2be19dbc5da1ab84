-- The call that is served next, from the last entry on.
use Rattle.std.proofs.Common.{◌≡◌, ℕ, ◌-◌, ◌<◌, ◌≤◌, zero, suc, Bool, true, false, cond, List, []}
use Rattle.std.proofs.Common.{◌∷◌, None, length, drop, get_or, map, filter, refl, ap, ◌∙◌, arith}
use Rattle.std.proofs.Math.Seq.{drop-cons}
use Rattle.std.proofs.lemmas.List.{drop_all}
use Rattle.ann_base.specs.declared.identities.CallNo.{CallNo}
use Rattle.trace_text.specs.declared.events.Who.{Who}
use Rattle.profile_image.specs.declared.image.Image.{Image}
use Rattle.profile_image.specs.declared.image.Queuing.{Queuing}
use Rattle.profile_image.specs.declared.image.Queuing.TheVariants as queuing
use Rattle.profile_image.specs.declared.numbers.EntryNo.{EntryNo}
use Rattle.profile_machine.specs.declared.world.World.{World}
use Rattle.profile_machine.specs.declared.world.objects.Object.{Object}
use Rattle.profile_machine.specs.Calls.{next_by, next_call}
use Rattle.profile_machine.specs.Protected.{is_open_entry, open_queues}
use Rattle.world_tables.specs.Lists.{first_of}
use Rattle.world_tables.proofs.ListLemmas.{none_read}
use Rattle.machine_barriers.specs.Heads.{next_with, next_or}

next-cons : (policy : Queuing) (w : World) (queue : List CallNo) (queues : List (List CallNo))
    → next_by policy w (queue ∷ queues) ≡ next_with policy w (first_of queue) (next_by policy w queues)
next-cons queuing.Fifo w [] queues = refl
next-cons queuing.Fifo w (c ∷ cs) queues = refl
next-cons queuing.Priority w [] queues = refl
next-cons queuing.Priority w (c ∷ cs) queues = refl

next-where : {X : Type 0} (b : Bool) (f : X → List CallNo) (x : X) (xs : List X) (policy : Queuing) (w : World)
    → next_by policy w (map f (cond b (x ∷ xs) xs)) ≡ cond b (next_with policy w (first_of (f x)) (next_by policy w (map f xs))) (next_by policy w (map f xs))
next-where true f x xs policy w = next-cons policy w (f x) (map f xs)
next-where false f x xs policy w = refl

-- one entry more
pub next-entry : (p : Image) (w : World) (name : Who) (o : Object) (e : EntryNo) (entries : List EntryNo)
    → next_call p w (open_queues p w name o (e ∷ entries)) ≡ next_or p w name o e (next_call p w (open_queues p w name o entries))
next-entry p w name o e entries = next-where (is_open_entry p w name o e) _ e (filter (is_open_entry p w name o) entries) p.policies.queuing w

-- where no entry is left
none-by : (policy : Queuing) (w : World) → next_by policy w [] ≡ None
none-by queuing.Fifo w = refl
none-by queuing.Priority w = refl

pub next-none : (p : Image) (w : World) (name : Who) (o : Object) (entries : List EntryNo) (n : ℕ) → length entries ≤ n
    → next_call p w (open_queues p w name o (drop n entries)) ≡ None
next-none p w name o entries n l = ap (λ es. next_call p w (open_queues p w name o es)) (drop_all n entries l) ∙ none-by p.policies.queuing w

next-at : (p : Image) (w : World) (name : Who) (o : Object) (entries : List EntryNo) (i : ℕ) (d : EntryNo) → i < length entries
    → next_call p w (open_queues p w name o (drop i entries))
    ≡ next_or p w name o (get_or entries i d) (next_call p w (open_queues p w name o (drop (suc i) entries)))
next-at p w name o entries i d l =
    ap (λ es. next_call p w (open_queues p w name o es)) (drop-cons entries i d l)
    ∙ next-entry p w name o (get_or entries i d) (drop (suc i) entries)

-- one entry before those from a place on
pub next-before : (p : Image) (w : World) (name : Who) (o : Object) (entries : List EntryNo) (n : ℕ) (d : EntryNo) → 0 < n → n ≤ length entries
    → next_call p w (open_queues p w name o (drop (n - 1) entries))
    ≡ next_or p w name o (get_or entries (n - 1) d) (next_call p w (open_queues p w name o (drop n entries)))
next-before p w name o entries n d h l =
    let e : suc (n - 1) ≡ n = omega arith in
    next-at p w name o entries (n - 1) d (omega arith)
    ∙ ap (λ m. next_or p w name o (get_or entries (n - 1) d) (next_call p w (open_queues p w name o (drop m entries)))) e

pub ruleset head_laws = (next-none, next-before, none_read)
