-- Small words on numbers, options and lists that the definitions share.
use Rattle.std.specs.Prelude.{ℕ, zero, suc, max, cond, ℤ, Bool, true, false, not, ◌&&◌, ◌||◌, List}
use Rattle.std.specs.Prelude.{[], ◌∷◌, Option, Some, None, eqb, int_le, filter, find, slice_index_or}
use Rattle.std.specs.List.{list_any}
use Rattle.ann_base.specs.declared.identities.TaskNo.{TaskNo}
use Rattle.ann_base.specs.declared.identities.CallNo.{CallNo}
use Rattle.ann_base.specs.declared.identities.ObjectNo.{ObjectNo}
use Rattle.ann_base.specs.declared.identities.RegionNo.{RegionNo}
use Rattle.trace_text.specs.declared.events.Who.{Who}
use Rattle.trace_text.specs.declared.events.Who.TheVariants.{Task, Agent}
use Rattle.profile_image.specs.declared.numbers.StatementNo.{StatementNo}
use Rattle.profile_image.specs.declared.numbers.ScopeNo.{ScopeNo}
use Rattle.profile_image.specs.declared.numbers.EntryNo.{EntryNo}

-- ---- the same thing, by number

abbrev pub same_task : TaskNo → TaskNo → Bool
same_task a b = eqb a.0 b.0

abbrev pub same_call : CallNo → CallNo → Bool
same_call a b = eqb a.0 b.0

abbrev pub same_object : ObjectNo → ObjectNo → Bool
same_object a b = eqb a.0 b.0

abbrev pub same_region : RegionNo → RegionNo → Bool
same_region a b = eqb a.0 b.0

abbrev pub same_statement : StatementNo → StatementNo → Bool
same_statement a b = eqb a.0 b.0

abbrev pub same_scope : ScopeNo → ScopeNo → Bool
same_scope a b = eqb a.0 b.0

abbrev pub same_entry : EntryNo → EntryNo → Bool
same_entry a b = eqb a.0 b.0

abbrev pub same_who : Who → Who → Bool
same_who (Task a) (Task b) = same_task a b
same_who (Task a) Agent = false
same_who Agent (Task b) = false
same_who Agent Agent = true

abbrev pub same_bool : Bool → Bool → Bool
same_bool true b = b
same_bool false b = not b

-- both are none, or both are there and the same
abbrev pub same_option : {X : Type 0} → (X → X → Bool) → Option X → Option X → Bool
same_option same None None = true
same_option same None (Some b) = false
same_option same (Some a) None = false
same_option same (Some a) (Some b) = same a b

-- it is there and is x
abbrev pub is_the : {X : Type 0} → (X → X → Bool) → Option X → X → Bool
is_the same None x = false
is_the same (Some a) x = same a x

abbrev pub has : {X : Type 0} → (X → X → Bool) → List X → X → Bool
has same ys x = list_any (λ y. same y x) ys

-- ---- lists

-- the items for which the test does not hold
abbrev pub without : {X : Type 0} → (X → Bool) → List X → List X
without test = filter (λ x. not (test x))

-- x in the place of the first item for which the test holds
abbrev pub set_where : {X : Type 0} → (X → Bool) → X → List X → List X
set_where test x [] = []
set_where test x (y ∷ ys) = cond (test y) (x ∷ ys) (y ∷ set_where test x ys)

-- f at the item that was found
abbrev pub edit_found : {X : Type 0} → (X → Bool) → (X → X) → List X → Option X → List X
edit_found test f xs None = xs
edit_found test f xs (Some x) = set_where test (f x) xs

-- f at the first item for which the test holds
abbrev pub edit_where : {X : Type 0} → (X → Bool) → (X → X) → List X → List X
edit_where test f xs = edit_found test f xs (find test xs)

-- f at the item with this number, counted from 0
abbrev pub edit_at : {X : Type 0} → ℕ → (X → X) → List X → List X
edit_at n f [] = []
edit_at zero f (x ∷ xs) = f x ∷ xs
edit_at (suc n) f (x ∷ xs) = x ∷ edit_at n f xs

abbrev pub greatest_of : List ℕ → ℕ → ℕ
greatest_of [] least = least
greatest_of (x ∷ xs) least = max x (greatest_of xs least)

-- a flag of a list, down where the list has no such place
abbrev pub is_flag : List Bool → ℕ → Bool
is_flag flags n = slice_index_or flags n false

-- ---- whole numbers

abbrev pub same_number : ℤ → ℤ → Bool
same_number a b = int_le a b && int_le b a
