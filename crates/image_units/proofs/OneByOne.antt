-- What is made one by one: those so far, one more, and those that are still to come.
use Rattle.std.proofs.Common.{◌≡◌, ℕ, ◌+◌, suc, List, [], ◌∷◌, ◌++◌, take, drop, refl, ap, sym, ◌∙◌, append_assoc, arith}
use Rattle.profile_image.specs.declared.declarations.TaskUnit.{TaskUnit}
use Rattle.profile_image.specs.declared.declarations.Entry.{Entry}
use Rattle.ada_regions.specs.declared.table.NumberedTask.{NumberedTask}
use Rattle.ada_regions.specs.declared.table.NumberedEntry.{NumberedEntry}
use Rattle.ada_image.specs.declared.making.Lists.{Lists}
use Rattle.ada_image.specs.declared.making.Within.{Within}
use Rattle.ada_image.specs.Making.{Making}
use Rattle.ada_image.specs.UnitsOfImage.{task_units_made, entries_made}
use Rattle.image_units.specs.Parts.{task_unit_made, entry_made}
use Rattle.image_units.proofs.Before.{one_more}

-- one, and then others
one_then : {X : Type 0} → Making X → Making (List X) → Making (List X)
one_then m k lists = ((k (m lists).0).0, (m lists).1 ∷ (k (m lists).0).1)

list_more : {X : Type 0} (m : Making X) (k : Making (List X)) (before after : Lists) (x : X) (xs : List X) → m before ≡ (after, x)
    → ((k after).0 ≡ (one_then m k before).0) × ((xs ++ x ∷ []) ++ (k after).1 ≡ xs ++ (one_then m k before).1)
unfolding one_then
list_more {X = X} m k before after x xs e = (
  ap (λ (r : Lists × X). (k r.0).0) (sym e),
  append_assoc xs (x ∷ []) (k after).1 ∙ ap (λ (r : Lists × X). xs ++ (r.1 ∷ (k r.0).1)) (sym e),
)

task_first : (within : Within) (number : ℕ) (t : NumberedTask) (ts : List NumberedTask) (lists : Lists)
    → one_then (task_unit_made within number t) (task_units_made within (suc number) ts) lists ≡ task_units_made within number (t ∷ ts) lists
unfolding one_then task_unit_made task_units_made
task_first within number t ts lists = refl

pub task_more : (within : Within) (number next : ℕ) (t : NumberedTask) (all ts : List NumberedTask) (before after : Lists) (unit : TaskUnit)
    (units more : List TaskUnit) (whole : Lists × List TaskUnit)
    → task_unit_made within number t before ≡ (after, unit) → next ≡ number + 1 → all ≡ t ∷ ts → more ≡ units ++ unit ∷ []
    → (task_units_made within number all before).0 ≡ whole.0 → units ++ (task_units_made within number all before).1 ≡ whole.1
    → ((task_units_made within next ts after).0 ≡ whole.0) × (more ++ (task_units_made within next ts after).1 ≡ whole.1)
task_more within number next t all ts before after unit units more whole made next-is all-is more-is lists-are units-are =
    let e : next ≡ suc number = omega arith in
    let step = list_more (task_unit_made within number t) (task_units_made within (suc number) ts) before after unit units made in
    let first : one_then (task_unit_made within number t) (task_units_made within (suc number) ts) before ≡ task_units_made within number all before =
    task_first within number t ts before ∙ ap (λ xs. task_units_made within number xs before) (sym all-is) in (
      ap (λ n. (task_units_made within n ts after).0) e ∙ step.0 ∙ ap (λ (r : Lists × List TaskUnit). r.0) first ∙ lists-are,
      ap (λ us. us ++ (task_units_made within next ts after).1) more-is ∙ ap (λ n. (units ++ unit ∷ []) ++ (task_units_made within n ts after).1) e ∙ step.1
          ∙ ap (λ (r : Lists × List TaskUnit). units ++ r.1) first ∙ units-are,
    )

entry_first : (within : Within) (before : List NumberedEntry) (e : NumberedEntry) (es : List NumberedEntry) (lists : Lists)
    → one_then (entry_made within before e) (entries_made within (before ++ e ∷ []) es) lists ≡ entries_made within before (e ∷ es) lists
unfolding one_then entry_made entries_made
entry_first within before e es lists = refl

-- the entries of a table, where those from a place on are given
pub entry_more : (within : Within) (table : List NumberedEntry) (n : ℕ) (e : NumberedEntry) (all es : List NumberedEntry) (before after : Lists) (entry : Entry)
    (entries more : List Entry) (whole : Lists × List Entry)
    → entry_made within (take n table) e before ≡ (after, entry) → drop n table ≡ e ∷ es → all ≡ e ∷ es → more ≡ entries ++ entry ∷ []
    → (entries_made within (take n table) all before).0 ≡ whole.0 → entries ++ (entries_made within (take n table) all before).1 ≡ whole.1
    → ((entries_made within (take (n + 1) table) es after).0 ≡ whole.0) × (more ++ (entries_made within (take (n + 1) table) es after).1 ≡ whole.1)
entry_more within table n e all es before after entry entries more whole made cut all-is more-is lists-are entries-are =
    let next : take (n + 1) table ≡ take n table ++ e ∷ [] = one_more table n e es cut in
    let step = list_more (entry_made within (take n table) e) (entries_made within (take n table ++ e ∷ []) es) before after entry entries made in
    let first : one_then (entry_made within (take n table) e) (entries_made within (take n table ++ e ∷ []) es) before
    ≡ entries_made within (take n table) all before =
    entry_first within (take n table) e es before ∙ ap (λ xs. entries_made within (take n table) xs before) (sym all-is) in (
      ap (λ xs. (entries_made within xs es after).0) next ∙ step.0 ∙ ap (λ (r : Lists × List Entry). r.0) first ∙ lists-are,
      ap (λ us. us ++ (entries_made within (take (n + 1) table) es after).1) more-is
          ∙ ap (λ xs. (entries ++ entry ∷ []) ++ (entries_made within xs es after).1) next ∙ step.1 ∙ ap (λ (r : Lists × List Entry). entries ++ r.1) first
          ∙ entries-are,
    )
