-- A unit has entries where one of all entries is of it.
use Rattle.std.proofs.Common.{◌≡◌, ℕ, List, [], ◌∷◌, Bool, true, false, cond, suc, refl}
use Rattle.std.specs.List.{list_any}
use Rattle.std.specs.Prelude.{not, ◌||◌}
use Rattle.profile_image.specs.declared.declarations.EntryUnit.{EntryUnit}
use Rattle.profile_image.specs.declared.numbers.EntryNo.{EntryNo}
use Rattle.ann_base.specs.Lists.{is_empty}
use Rattle.ada_regions.specs.declared.table.Names.{Names}
use Rattle.ada_regions.specs.declared.table.NumberedEntry.{NumberedEntry}
use Rattle.ada_image.specs.UnitsOfImage.{entries_from, entries_of, entry_no, same_entry_unit}

there : (b : Bool) (x : EntryNo) (rest : List EntryNo) (c : Bool) → not (is_empty rest) ≡ c → not (is_empty (cond b (x ∷ rest) rest)) ≡ (b || c)
there true x rest c e = refl
there false x rest c e = e

nothing_from : (number : ℕ) (unit : EntryUnit) → not (is_empty (entries_from number unit [])) ≡ false
unfolding entries_from
nothing_from number unit = refl

one_more : (number : ℕ) (unit : EntryUnit) (e : NumberedEntry) (es : List NumberedEntry) (c : Bool) → not (is_empty (entries_from (suc number) unit es)) ≡ c
    → not (is_empty (entries_from number unit (e ∷ es))) ≡ (same_entry_unit e.unit unit || c)
unfolding entries_from
one_more number unit e es c h = there (same_entry_unit e.unit unit) (entry_no number) (entries_from (suc number) unit es) c h

from_there : (number : ℕ) (unit : EntryUnit) (es : List NumberedEntry)
    → not (is_empty (entries_from number unit es)) ≡ list_any (λ e. same_entry_unit e.unit unit) es
from_there number unit [] = nothing_from number unit
from_there number unit (e ∷ es) = one_more number unit e es (list_any (λ x. same_entry_unit x.unit unit) es) (from_there (suc number) unit es)

pub entries_there : (n : Names) (unit : EntryUnit) → not (is_empty (entries_of n unit)) ≡ list_any (λ e. same_entry_unit e.unit unit) n.entries
unfolding entries_of
entries_there n unit = from_there 0 unit n.entries
