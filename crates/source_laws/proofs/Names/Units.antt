-- No predefined unit declares a name that one of its children has.
use Rattle.std.proofs.Common.{◌≡◌, ℕ, Bool, true, false, cond, List, Option, Some, None, is_some, bytes_eq, codes, refl, sym, ap, ◌∙◌}
use Rattle.std.proofs.lemmas.Slice.Eq.{bytes_eq-Decides}
use Rattle.ada_regions.specs.declared.predefined.PredefinedUnit.{PredefinedUnit}
use Rattle.ada_regions.specs.declared.predefined.PredefinedUnit.TheVariants as units
use Rattle.ada_regions.specs.PredefinedUnits.{child_unit, item_in, declared_in_real_time, declared_in_execution_time, declared_in_dispatching}
use Rattle.source_laws.proofs.Names.PositionLemmas.{false-true}

-- one name of a child that the unit does not declare
apart : (last : ℕ) (u : PredefinedUnit) (name child : List ℕ) (v : PredefinedUnit) (more : Option PredefinedUnit) → is_some (item_in last u name) ≡ true
    → is_some (item_in last u child) ≡ false → more ≡ None
    → (t : Bool) → bytes_eq name child ≡ t → cond t (Some v) more ≡ None
apart last u name child v more item none rest true e =
    absurd (false-true (sym none ∙ (ap (λ z. is_some (item_in last u z)) (sym ((bytes_eq-Decides name child).0 e)) ∙ item)))
apart last u name child v more item none rest false e = rest

pub child-none : (last : ℕ) (u : PredefinedUnit) (name : List ℕ) → is_some (item_in last u name) ≡ true → child_unit u name ≡ None
unfolding child_unit item_in declared_in_real_time declared_in_execution_time declared_in_dispatching
child-none last units.Ada name e = absurd (false-true e)
child-none last units.RealTime name e =
    apart last units.RealTime name (codes "timing_events") units.TimingEvents None e refl refl (bytes_eq name (codes "timing_events")) refl
child-none last units.ExecutionTime name e =
    apart last units.ExecutionTime name (codes "timers") units.Timers _ e refl
    (apart last units.ExecutionTime name (codes "group_budgets") units.GroupBudgets None e refl refl (bytes_eq name (codes "group_budgets")) refl)
    (bytes_eq name (codes "timers")) refl
child-none last units.Dispatching name e =
    apart last units.Dispatching name (codes "round_robin") units.RoundRobin _ e refl
    (apart last units.Dispatching name (codes "edf") units.Edf None e refl refl (bytes_eq name (codes "edf")) refl) (bytes_eq name (codes "round_robin")) refl
child-none last _ name e = refl
