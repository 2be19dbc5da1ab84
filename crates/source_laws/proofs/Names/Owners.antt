-- No open region that has an owner is that of Standard.
use Rattle.std.proofs.Common.{◌≡◌, ℕ, List, [], ◌∷◌, true, refl, sym, ◌∙◌}
use Rattle.std.proofs.lemmas.Bool.{and_parts}
use Rattle.ada_regions.specs.Names.{region_here}
use Rattle.ada_regions.specs.Occurrences.{Occurrence, begins, completes}
use Rattle.source_laws.specs.Positions.{Before, around}
use Rattle.source_laws.specs.Regions.{region_of_position, bodies_complete_before, completes_if_body}
use Rattle.source_laws.specs.Tables.{table_at}
use Rattle.source_laws.proofs.Names.PositionLemmas.{false-true, stands-here, stands-start}
use Rattle.source_laws.proofs.Names.NumberLemmas.{number-start}
use Rattle.source_laws.proofs.Names.Placing.{looks, IsPlaced}
use Rattle.source_laws.proofs.Names.Texts.{IsText}
use Rattle.source_laws.proofs.Names.KeptSteps.{Kept}
use Rattle.source_laws.proofs.Names.KeptWaiting.{region-here}
use Rattle.source_laws.proofs.Names.KeptAll.{kept}
use Rattle.source_laws.proofs.Names.ClausesKept.{Unowned, RegionApart, unowned-behind}
use Rattle.source_laws.proofs.Names.Founders.{number-positive, position-positive}

-- a position in a region that began is not in that of Standard
pub position-apart : (b : Before) → IsText b → IsPlaced b → looks (around b) ≡ true → region_of_position b ≡ 0 → ⊥
position-apart b t p l = go (around b) refl l
  where
    go : (bs : List Before) → around b ≡ bs → looks bs ≡ true → region_of_position b ≡ 0 → ⊥
    go [] e q = absurd (false-true q)
    go (x ∷ xs) e q = position-positive b x xs t p e

-- by the table
here-apart : (last : ℕ) (b : Before) → Kept last b → (region_of_position b ≡ 0 → ⊥) → region_here (table_at last b) ≡ 0 → ⊥
here-apart last b k apart e = apart (k.regions.same b [] (stands-here b) (stands-start b) (sym (region-here last b) ∙ e) ∙ number-start)

region-apart : (last : ℕ) (o : Occurrence) (c : Before) → IsText (o ∷ c) → IsPlaced (o ∷ c) → bodies_complete_before (o ∷ c) ≡ true
    → RegionApart o (table_at last c)
region-apart last (begins r) c t p complete = here-apart last (begins r ∷ c) (kept last (begins r ∷ c) t complete) (number-positive r c t p.1)
region-apart last (completes i s) c t p complete =
    here-apart last c (kept last c t.2 (and_parts (completes_if_body (completes i s) c) (bodies_complete_before c) complete).1) (position-apart c t.2 p.1 p.0)
region-apart last _ c t p complete = tt

pub unowned-kept : (last : ℕ) (c : Before) → IsText c → IsPlaced c → bodies_complete_before c ≡ true → Unowned (table_at last c).frames
unowned-kept last [] t p complete = ((λ e q. cc), tt)
unowned-kept last (o ∷ c) t p complete =
    unowned-behind o (table_at last c) (region-apart last o c t p complete)
    (unowned-kept last c t.2 p.1 (and_parts (completes_if_body o c) (bodies_complete_before c) complete).1)
