-- Restrictions that are in force (13.12, D.7), and the ranges of priorities that are dispatched by deadlines (D.2.6).
use Rattle.ada_image.specs.PoliciesOfImage.{longest_of, ranges_of_pragma}
use Rattle.ada_legality.specs.Pragmas.{is_pragma_named, is_pragma_of_profile, number_in, word_in}
use Rattle.ada_legality.specs.declared.findings.DeadlineRange.{DeadlineRange}
use Rattle.ada_legality.specs.declared.standing.InForce.{InForce}
use Rattle.ada_regions.specs.Numbered.{last_priority_of}
use Rattle.ada_regions.specs.Words.{all_of}
use Rattle.ann_base.specs.Lists.{is_empty}
use Rattle.ada_tree.specs.declared.expressions.Argument.{Argument}
use Rattle.ada_tree.specs.declared.expressions.Expression.{Expression}
use Rattle.ada_tree.specs.declared.units.Pragma.{Pragma}
use Rattle.profile_image.specs.declared.image.Dispatching.{Dispatching}
use Rattle.std.specs.List.{flat_map, list_any}
use Rattle.std.specs.Prelude.{Bool, List, None, Option, Some, [], codes, cond, false, filter}
use Rattle.std.specs.Prelude.{int_le, is_some, map, not, option_map, true, unwrap_or, ℕ, ℤ, ◌∷◌}
use Rattle.std.specs.Str.{bytes_eq}
use Rattle.profile_image.specs.declared.image.Dispatching.TheVariants as dispatching

-- ---- restrictions

-- the arguments of pragmas Restrictions
unfoldable pub restriction_arguments : List Pragma → List (Argument Expression)
restriction_arguments pragmas =
    flat_map (λ p. all_of p.arguments) (filter (is_pragma_named (codes "restrictions")) pragmas)

-- an argument gives this restriction
unfoldable pub gives_restriction : List ℕ → Argument Expression → Bool
gives_restriction name a = unwrap_or (option_map (bytes_eq name) (word_in a)) false

-- a restriction is in force
unfoldable pub is_given : List (Argument Expression) → List ℕ → Bool
is_given arguments name = list_any (gives_restriction name) arguments

-- an argument has this name
abbrev pub is_named_as : List ℕ → Argument Expression → Bool
is_named_as name a = unwrap_or (option_map (λ i. bytes_eq i.text name) a.formal) false

-- the limit that an argument gives
unfoldable pub limit_in : List ℕ → Argument Expression → Option ℤ
limit_in name a = cond (is_named_as name a) (number_in a) None

-- the least of two limits
abbrev pub least_limit : Option ℤ → Option ℤ → Option ℤ
least_limit None b = b
least_limit (Some a) None = Some a
least_limit (Some a) (Some b) = Some (cond (int_le a b) a b)

-- the least limit that arguments give
unfoldable pub least_limit_in : List ℕ → List (Argument Expression) → Option ℤ
least_limit_in name [] = None
least_limit_in name (a ∷ rest) = least_limit (limit_in name a) (least_limit_in name rest)

-- ---- EDF ranges (D.2.6; own)

-- EDF_Across_Priorities
abbrev pub is_by_deadline : Dispatching → Bool
is_by_deadline dispatching.EdfAcrossPriorities = true
is_by_deadline dispatching.FifoWithinPriorities = false
is_by_deadline dispatching.RoundRobinWithinPriorities = false

-- the EDF ranges that a pragma gives
unfoldable pub deadline_ranges_of_pragma : ℕ → Pragma → List DeadlineRange
deadline_ranges_of_pragma last p =
    map (λ r. record { place = p.place; low = r.first; high = r.last })
    (filter (λ r. is_by_deadline r.policy) (ranges_of_pragma last p))

-- the EDF ranges of a source
unfoldable pub deadline_ranges_of : List Pragma → List DeadlineRange
deadline_ranges_of pragmas =
    flat_map (deadline_ranges_of_pragma (last_priority_of pragmas))
    (filter (is_pragma_of_profile (last_priority_of pragmas)) pragmas)

-- ---- all

-- what these arguments and ranges forbid or limit
unfoldable pub in_force_with : List (Argument Expression) → Bool → Bool → InForce
in_force_with arguments has_longest has_deadlines = record {
  no_task_hierarchy = is_given arguments (codes "no_task_hierarchy");
  no_abort_statements = is_given arguments (codes "no_abort_statements");
  no_dynamic_priorities = is_given arguments (codes "no_dynamic_priorities");
  no_relative_delay = is_given arguments (codes "no_relative_delay");
  no_select_statements = is_given arguments (codes "no_select_statements");
  no_terminate_alternatives = is_given arguments (codes "no_terminate_alternatives");
  simple_barriers = is_given arguments (codes "simple_barriers");
  max_task_entries = least_limit_in (codes "max_task_entries") arguments;
  max_protected_entries = least_limit_in (codes "max_protected_entries") arguments;
  max_select_alternatives = least_limit_in (codes "max_select_alternatives") arguments;
  has_longest_queue = has_longest;
  has_deadlines = has_deadlines;
}

-- what the pragmas of a source forbid or limit
unfoldable pub in_force_by : List Pragma → InForce
in_force_by pragmas =
    in_force_with (restriction_arguments pragmas) (is_some (longest_of pragmas))
    (not (is_empty (deadline_ranges_of pragmas)))
