-- Rules that are broken at places, as what is found.
use Rattle.ada_legality.specs.declared.findings.Finding.{Finding}
use Rattle.ada_legality.specs.declared.rules.Rule.{Rule}
use Rattle.ann_base.specs.declared.places.Place.{Place}
use Rattle.std.specs.Prelude.{Bool, IfOk, List, Result, [], false, not, true, ◌++◌, ◌∷◌, ◌≡◌}
use Rattle.ada_legality.specs.declared.findings.Finding.TheVariants as finding

-- what is found, in the order of the way through a source
abbrev pub Found : Type 0
Found = List Finding

-- a rule is broken here
abbrev pub broken : Rule → Place → Finding
broken r place = finding.Broken (record { place = place; rule = r })

-- a rule is broken here, where something holds
abbrev pub broken_if : Rule → Bool → Place → Found
broken_if r true place = broken r place ∷ []
broken_if r false place = []

-- a rule is broken here, where what it asks is not kept
abbrev pub broken_unless : Rule → Bool → Place → Found
broken_unless r kept place = broken_if r (not kept) place

-- where a function that reads answers, it gives what is read, and what is found stands behind what was
-- found before; where memory ran out nothing is said
abbrev pub Reads : {X E : Type 0} → X × Found → Found → Found → Result X E → Type 0
Reads read before after result =
    IfOk result (λ x. (x ≡ read.0) × (after ≡ before ++ read.1))
