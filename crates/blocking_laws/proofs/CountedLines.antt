-- Tasks are numbered in the order in which they are made: what lines count so tells which base priorities they have told.
use Rattle.std.proofs.Common.{Bool, List, None, Option, Some, [], ap, arith, cond, eqb, false, leb, not, refl, suc, sym, true, ℕ, ◌∙◌, ◌∷◌, ◌≡◌}
use Rattle.std.proofs.lemmas.Bool.{and_from, and_parts}
use Rattle.std.specs.Prelude.{is_none, is_some}
use Rattle.trace_text.specs.Laws.{bases_after, level_of}
use Rattle.trace_text.specs.Queue.{TraceLine, follows_lines}
use Rattle.trace_text.specs.declared.events.Created.TheVariants as created
use Rattle.trace_text.specs.declared.events.Event.{Event}
use Rattle.trace_text.specs.declared.events.Event.TheVariants as written
use Rattle.trace_text.specs.declared.events.Who.{Who}
use Rattle.trace_text.specs.declared.events.Who.TheVariants as who
use Rattle.blocking_laws.specs.TaskLines.{has_base, is_task_new, places_known}

-- how many tasks were made
abbrev pub count_after : ℕ → Event → ℕ
count_after count (written.New (created.Task task) name level) = suc count
count_after count _ = count

abbrev pub is_counted : ℕ → Who → Bool
is_counted count (who.Task task) = not (leb count task.0)
is_counted count who.Agent = true

-- a task that is made has the next number, and one that is told of had one of those before
abbrev pub counts : ℕ → Event → Bool
counts count (written.New (created.Task task) name level) = eqb task.0 count
counts count (written.Ready name level end deadline) = is_counted count name
counts count (written.Base task level) = is_counted count (who.Task task)
counts count _ = true

-- the base priorities of these have been told, and of no other task
record Tells_counted (count : ℕ) (bases : List (ℕ × ℕ)) : Type 0 where
  told : (n : ℕ) → leb count n ≡ false → is_some (level_of n bases) ≡ true
  untold : (n : ℕ) → leb count n ≡ true → level_of n bases ≡ None

some_if : (b : Bool) (level : ℕ) (rest : Option ℕ) → (b ≡ false → is_some rest ≡ true) → is_some (cond b (Some level) rest) ≡ true
some_if true level rest h = refl
some_if false level rest h = h refl

older : (count n m : ℕ) → leb (suc count) n ≡ false → eqb m count ≡ true → eqb n m ≡ false → leb count n ≡ false
older count n m later is apart = grind arith

newer : (count n m : ℕ) → leb (suc count) n ≡ true → eqb m count ≡ true → eqb n m ≡ false
newer count n m later is = grind arith

newer_still : (count n : ℕ) → leb (suc count) n ≡ true → leb count n ≡ true
newer_still count n later = grind arith

apart_from : (count n m : ℕ) → leb count n ≡ true → not (leb count m) ≡ true → eqb n m ≡ false
apart_from count n m later counted = grind arith

one-more : (count m level : ℕ) (bases : List (ℕ × ℕ)) → eqb m count ≡ true → Tells_counted count bases → Tells_counted (suc count) ((m, level) ∷ bases)
one-more count m level bases is h = record {
  told = λ n later. some_if (eqb n m) level (level_of n bases) (λ apart. h.told n (older count n m later is apart));
  untold = λ n later. ap (λ b. cond b (Some level) (level_of n bases)) (newer count n m later is) ∙ h.untold n (newer_still count n later);
}

told-again : (count m level : ℕ) (bases : List (ℕ × ℕ)) → not (leb count m) ≡ true → Tells_counted count bases → Tells_counted count ((m, level) ∷ bases)
told-again count m level bases counted h = record {
  told = λ n sooner. some_if (eqb n m) level (level_of n bases) (λ apart. h.told n sooner);
  untold = λ n later. ap (λ b. cond b (Some level) (level_of n bases)) (apart_from count n m later counted) ∙ h.untold n later;
}

counted-on : (count : ℕ) (bases : List (ℕ × ℕ)) (event : Event) → Tells_counted count bases → counts count event ≡ true
    → Tells_counted (count_after count event) (bases_after bases event)
counted-on count bases (written.New (created.Task task) name level) h e = one-more count task.0 level bases e h
counted-on count bases (written.Base task level) h e = told-again count task.0 level bases e h
counted-on count bases _ h e = h

-- ---- what lines that count so keep

same-number : (count m : ℕ) → eqb m count ≡ true → leb count m ≡ true
same-number count m is = grind arith

none-is : (found : Option ℕ) → found ≡ None → is_none found ≡ true
none-is None e = refl
none-is (Some level) e = absurd cc

not-later : (count m : ℕ) → not (leb count m) ≡ true → leb count m ≡ false
not-later count m counted = grind arith

counted-new : (count : ℕ) (bases : List (ℕ × ℕ)) (event : Event) → Tells_counted count bases → counts count event ≡ true → is_task_new bases event ≡ true
counted-new count bases (written.New (created.Task task) name level) h e = none-is (level_of task.0 bases) (h.untold task.0 (same-number count task.0 e))
counted-new count bases _ h e = refl

counted-base : (count : ℕ) (bases : List (ℕ × ℕ)) (name : Who) → Tells_counted count bases → is_counted count name ≡ true → has_base bases name ≡ true
counted-base count bases (who.Task task) h e = h.told task.0 (not-later count task.0 e)
counted-base count bases who.Agent h e = refl

counted-known : (count : ℕ) (bases : List (ℕ × ℕ)) (event : Event) → Tells_counted count bases → counts count event ≡ true → places_known bases event ≡ true
counted-known count bases (written.Ready name level end deadline) h e = counted-base count bases name h e
counted-known count bases _ h e = refl

module _ (lawful : List (ℕ × ℕ) → Event → Bool)
    (right : (count : ℕ) (bases : List (ℕ × ℕ)) (event : Event) → Tells_counted count bases → counts count event ≡ true → lawful bases event ≡ true) where
  counted-follows : (count : ℕ) (bases : List (ℕ × ℕ)) (lines : List TraceLine) → Tells_counted count bases
      → follows_lines count_after counts count lines ≡ true
      → follows_lines bases_after lawful bases lines ≡ true
  counted-follows count bases [] h e = refl
  counted-follows count bases (x ∷ xs) h e =
      let parts = and_parts (counts count x.1) (follows_lines count_after counts (count_after count x.1) xs) e in
      and_from (lawful bases x.1) (follows_lines bases_after lawful (bases_after bases x.1) xs) (right count bases x.1 h parts.0)
      (counted-follows (count_after count x.1) (bases_after bases x.1) xs (counted-on count bases x.1 h parts.0) parts.1)

from_nothing : (n : ℕ) → leb 0 n ≡ true
from_nothing n = grind arith

nothing-counted : Tells_counted 0 []
nothing-counted = record { told = λ n e. absurd (let never : true ≡ false = sym (from_nothing n) ∙ e in cc); untold = λ n e. refl }

pub new-follows : (lines : List TraceLine) → follows_lines count_after counts 0 lines ≡ true → follows_lines bases_after is_task_new [] lines ≡ true
new-follows lines e = counted-follows is_task_new counted-new 0 [] lines nothing-counted e

pub known-follows : (lines : List TraceLine) → follows_lines count_after counts 0 lines ≡ true → follows_lines bases_after places_known [] lines ≡ true
known-follows lines e = counted-follows places_known counted-known 0 [] lines nothing-counted e
