-- Conformance of profiles (6.3.1), and what completes a declaration (3.11.1).
use Rattle.ada_legality.specs.CallStatements.{has_range}
use Rattle.ada_legality.specs.Choices.{ends_of}
use Rattle.ada_legality.specs.Findings.{Found, broken_unless}
use Rattle.ada_legality.specs.SimpleStatements.{same_mode}
use Rattle.ada_legality.specs.Values.{is_entity}
use Rattle.ada_legality.specs.Words.{same_named}
use Rattle.ada_legality.specs.declared.findings.BodyKind.{BodyKind}
use Rattle.ada_legality.specs.declared.parts.Span.{Span}
use Rattle.ada_legality.specs.declared.standing.Known.{Known}
use Rattle.ada_regions.specs.Names.{entity_denoted}
use Rattle.ada_regions.specs.Occurrences.{Occurrence, Occurrences, a_subprogram, an_entry, declares}
use Rattle.ada_regions.specs.Subtypes.{indicated_subtype, mode_of}
use Rattle.ada_regions.specs.Words.{all_of, and_then}
use Rattle.std.specs.Option.{option_or}
use Rattle.ada_regions.specs.declared.table.Names.{Names}
use Rattle.ada_regions.specs.declared.types.Mode.{Mode}
use Rattle.ada_tree.specs.declared.declarations.Parameter.{Parameter}
use Rattle.ada_tree.specs.declared.declarations.SubprogramSpecification.{SubprogramSpecification}
use Rattle.ada_tree.specs.declared.declarations.SubtypeIndication.{SubtypeIndication}
use Rattle.ada_tree.specs.declared.names.Identifier.{Identifier}
use Rattle.ann_base.specs.declared.places.Place.{Place}
use Rattle.std.specs.List.{flat_map}
use Rattle.std.specs.Prelude.{Bool, List, None, Option, Some, [], cond, false}
use Rattle.std.specs.Prelude.{map, not, option_map, true, unwrap_or, ℕ, ◌&&◌, ◌∷◌}
use Rattle.std.specs.Str.{bytes_eq}
use Rattle.profile_image.specs.Words.{same_number}
use Rattle.ada_legality.specs.declared.findings.BodyKind.TheVariants as completing
use Rattle.ada_legality.specs.declared.findings.Finding.TheVariants as finding
use Rattle.ada_legality.specs.declared.rules.Rule.TheVariants as rule

-- ---- profiles (6.3.1): names, modes, and marks that name the same declaration with the same range

abbrev pub same_ends : Span → Span → Bool
same_ends a b = same_number a.low b.low && same_number a.high b.high

-- two ranges are the same, or both are none
abbrev pub same_pairs : Option Span → Option Span → Bool
same_pairs None None = true
same_pairs None (Some b) = false
same_pairs (Some a) None = false
same_pairs (Some a) (Some b) = same_ends a b

-- the range of the subtype that is indicated
unfoldable pub range_of_indication : Names → SubtypeIndication → Option Span
range_of_indication n m = and_then (indicated_subtype n m) (λ s. ends_of s.range)

-- the same ranges stand behind two marks, or none
unfoldable pub same_ranges : Names → SubtypeIndication → SubtypeIndication → Bool
same_ranges n a b = cond (has_range a.constraint)
    (has_range b.constraint && same_pairs (range_of_indication n a) (range_of_indication n b))
    (not (has_range b.constraint))

-- two subtype indications name the same declaration, with the same range
unfoldable pub same_indication : Names → SubtypeIndication → SubtypeIndication → Bool
same_indication n a b = same_named n a.name b.name && same_ranges n a b

-- two results are indicated alike, or both are none
unfoldable pub same_indication_if : Names → Option SubtypeIndication → Option SubtypeIndication
    → Bool
same_indication_if n None None = true
same_indication_if n None (Some b) = false
same_indication_if n (Some a) None = false
same_indication_if n (Some a) (Some b) = same_indication n a b

-- the mode of a parameter
abbrev pub mode_of_parameter : Parameter → Mode
mode_of_parameter p = mode_of p.is_in p.is_out

-- each name of a profile, with its parameter
unfoldable pub names_with_parameters : List Parameter → List (Identifier × Parameter)
names_with_parameters ps = flat_map (λ p. map (λ i. (i, p)) (all_of p.names)) ps

-- two parameters have one name, one mode and one indication
unfoldable pub same_parameter : Names → Identifier × Parameter → Identifier × Parameter → Bool
same_parameter n a b = bytes_eq a.0.text b.0.text
    && (same_mode (mode_of_parameter a.1) (mode_of_parameter b.1)
    && same_indication n a.1.subtype b.1.subtype)

-- as many parameters, each the same
unfoldable pub all_same_parameters : Names → List (Identifier × Parameter)
    → List (Identifier × Parameter) → Bool
all_same_parameters n [] [] = true
all_same_parameters n [] (b ∷ bs) = false
all_same_parameters n (a ∷ rest) [] = false
all_same_parameters n (a ∷ rest) (b ∷ bs) = same_parameter n a b && all_same_parameters n rest bs

-- profiles conform fully
unfoldable pub conforms : Names → List Parameter → List Parameter → Bool
conforms n a b = all_same_parameters n (names_with_parameters a) (names_with_parameters b)

-- a function's result too; a procedure has none
unfoldable pub conforms_to : Names → SubprogramSpecification → SubprogramSpecification → Bool
conforms_to n a b = conforms n a.parameters b.parameters && same_indication_if n a.result b.result

-- ---- declarations, by the names of the whole source

-- an identifier denotes this entity
abbrev pub declares_entity : Names → ℕ → Identifier → Bool
declares_entity n e i = is_entity e (entity_denoted n i.place)

-- the declaration of a subprogram with this entity
abbrev pub specification_in : Names → ℕ → Occurrence → Option SubprogramSpecification
specification_in n e (declares i (a_subprogram s)) = cond (declares_entity n e i) (Some s) None
specification_in n e o = None

-- the first of them
unfoldable pub specification_of : Names → ℕ → Occurrences → Option SubprogramSpecification
specification_of n e [] = None
specification_of n e (o ∷ os) = option_or (specification_in n e o) (specification_of n e os)

-- the parameters of an entry with this entity
abbrev pub entry_in : Names → ℕ → Occurrence → Option (List Parameter)
entry_in n e (declares i (an_entry parameters)) =
    cond (declares_entity n e i) (Some parameters) None
entry_in n e o = None

-- the first of them
unfoldable pub entry_declared_as : Names → ℕ → Occurrences → Option (List Parameter)
entry_declared_as n e [] = None
entry_declared_as n e (o ∷ os) = option_or (entry_in n e o) (entry_declared_as n e os)

-- ---- completions (3.11.1): one body, in the declaration's own part, of the same profile

-- a declaration that needs a body
unfoldable pub declaration_noted : Known → BodyKind → Identifier → Place → Found
declaration_noted k kind i place =
    unwrap_or
    (option_map (λ e. finding.Declared kind e place ∷ []) (entity_denoted k.names i.place)) []

-- a body
unfoldable pub body_noted : Known → BodyKind → Identifier → Found
body_noted k kind i =
    unwrap_or (option_map (λ e. finding.Completed kind e ∷ []) (entity_denoted k.names i.place))
    []

-- a body of another profile than this
abbrev pub other_profile_if : BodyKind → ℕ → Bool → Found
other_profile_if kind e true = []
other_profile_if kind e false = finding.OtherProfile kind e ∷ []

-- a subprogram's body, beside the declaration that it completes
abbrev pub profile_judged : Known → SubprogramSpecification → ℕ → Option SubprogramSpecification
    → Found
profile_judged k body e None = []
profile_judged k body e (Some s) =
    other_profile_if completing.Subprogram e (conforms_to k.names s body)

-- a subprogram's body
unfoldable pub body_profile_judged : Known → SubprogramSpecification → Option ℕ → Found
body_profile_judged k body None = []
body_profile_judged k body (Some e) =
    profile_judged k body e (specification_of k.names e k.occurrences)

-- an entry's body, beside its declaration
abbrev pub entry_profile_judged : Known → List Parameter → ℕ → Option (List Parameter) → Found
entry_profile_judged k parameters e None = []
entry_profile_judged k parameters e (Some declared) =
    other_profile_if completing.ProtectedEntry e (conforms k.names declared parameters)

-- an entry's body
unfoldable pub entry_body_profile_judged : Known → List Parameter → Option ℕ → Found
entry_body_profile_judged k parameters None = []
entry_body_profile_judged k parameters (Some e) =
    entry_profile_judged k parameters e (entry_declared_as k.names e k.occurrences)

-- an accept statement, beside the declaration of its entry
abbrev pub accept_profile_judged : Known → Place → List Parameter → Option (List Parameter) → Found
accept_profile_judged k place parameters None = []
accept_profile_judged k place parameters (Some declared) =
    broken_unless rule.Completions (conforms k.names declared parameters) place

-- an accept statement
unfoldable pub accept_conforms : Known → Place → List Parameter → Option ℕ → Found
accept_conforms k place parameters None = []
accept_conforms k place parameters (Some e) =
    accept_profile_judged k place parameters (entry_declared_as k.names e k.occurrences)
