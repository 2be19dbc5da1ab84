-- What use clauses make visible, from a place of a list on.
use Rattle.std.proofs.Common.{◌≡◌, ◌<◌, ◌-◌, ℕ, ◌+◌, cond, eqb, List, Some, drop, slice_get, ap, ◌∙◌, sym, arith}
use Rattle.ada_regions.specs.declared.entities.Sought.{Sought}
use Rattle.ada_regions.specs.declared.table.Names.{Names}
use Rattle.ada_regions.specs.declared.table.Frame.{Frame}
use Rattle.ada_regions.specs.declared.table.UseClause.{UseClause}
use Rattle.ada_regions.specs.Visibility.{visible_in, joined_if, used_in, used_around}
use Rattle.ada_entities.proofs.Drops.{drop_there}

one_less : (place : ℕ) → 0 < place → place - 1 + 1 ≡ place
one_less place h = omega (arith, h)

pub used_in_before : (n : Names) (name : List ℕ) (region place : ℕ) (us : List UseClause) (u : UseClause) (behind others : Sought)
    → 0 < place → slice_get us (place - 1) ≡ Some u → behind ≡ used_in n name region (drop place us) others
    → cond (eqb u.region region) (joined_if (visible_in n name u.used) behind) behind ≡ used_in n name region (drop (place - 1) us) others
used_in_before n name region place us u behind others h there e =
    ap (λ b. cond (eqb u.region region) (joined_if (visible_in n name u.used) b) b)
    (e ∙ sym (ap (λ p. used_in n name region (drop p us) others) (one_less place h)))
    ∙ sym (ap (λ zs. used_in n name region zs others) (drop_there us (place - 1) u there))

pub used_around_before : (n : Names) (name : List ℕ) (place : ℕ) (fs : List Frame) (f : Frame) (outside : Sought)
    → 0 < place → slice_get fs (place - 1) ≡ Some f → outside ≡ used_around n name (drop place fs)
    → used_in n name f.region n.uses outside ≡ used_around n name (drop (place - 1) fs)
used_around_before n name place fs f outside h there e =
    ap (λ o. used_in n name f.region n.uses o) (e ∙ sym (ap (λ p. used_around n name (drop p fs)) (one_less place h)))
    ∙ sym (ap (λ zs. used_around n name zs) (drop_there fs (place - 1) f there))
