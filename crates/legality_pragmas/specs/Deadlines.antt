-- EDF ranges, a pragma at a time.
use Rattle.ada_image.specs.PoliciesOfImage.{ranges_of_pragma}
use Rattle.ada_legality.specs.InForce.{is_by_deadline}
use Rattle.ada_legality.specs.Pragmas.{is_pragma_of_profile}
use Rattle.ada_legality.specs.declared.findings.DeadlineRange.{DeadlineRange}
use Rattle.ada_tree.specs.declared.units.Pragma.{Pragma}
use Rattle.ann_base.specs.declared.places.Place.{Place}
use Rattle.profile_image.specs.declared.image.DispatchingRange.{DispatchingRange}
use Rattle.std.specs.List.{flat_map}
use Rattle.std.specs.Prelude.{List, [], cond, ℕ, ◌∷◌}

-- a range with the place of its pragma
abbrev pub placed : Place → DispatchingRange → DeadlineRange
placed place r = record { place = place; low = r.first; high = r.last }

-- the same, where it is dispatched by deadlines
abbrev pub told : Place → DispatchingRange → List DeadlineRange
told place r = cond (is_by_deadline r.policy) (placed place r ∷ []) []

-- those of a pragma of the profile
abbrev pub deadlines_of : ℕ → Pragma → List DeadlineRange
deadlines_of last p = cond (is_pragma_of_profile last p)
    (flat_map (told p.place) (ranges_of_pragma last p)) []
