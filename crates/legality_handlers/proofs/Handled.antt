-- The choices of the handlers of a sequence, one at a time.
use Rattle.std.proofs.Common.{◌≡◌, ◌++◌, ◌+◌, ◌∷◌, ◌∙◌, [], List, None, ℕ, suc, ap, append_assoc, arith, refl, sym, take}
use Rattle.std.specs.List.{list_any}
use Rattle.std.specs.Prelude.{◌&&◌}
use Rattle.ada_legality.specs.Findings.{Found, broken_if}
use Rattle.ada_legality.specs.Places.{place_of}
use Rattle.ada_legality.specs.ReadExpressions.{unless_denoted}
use Rattle.ada_legality.specs.SimpleStatements.{denotes_exception}
use Rattle.ada_legality.specs.Statements.{others_before_last, others_in, repeated_names}
use Rattle.ada_legality.specs.Values.{is_denoted}
use Rattle.ada_legality.specs.Words.{same_named}
use Rattle.ada_legality.specs.declared.rules.Rule.TheVariants as rule
use Rattle.ada_legality.specs.declared.standing.Known.{Known}
use Rattle.ada_tree.specs.declared.names.Name.{Name}
use Rattle.ada_tree.specs.declared.statements.HandledExceptions.{HandledExceptions}
use Rattle.ada_tree.specs.declared.statements.HandledExceptions.TheVariants as exceptions
use Rattle.legality_handlers.specs.Handled.{others_behind, others_here, others_place, repeated_along}

-- ---- names

abbrev kind_found : Known → Name → Found
kind_found k x = unless_denoted (denotes_exception k) k x

abbrev again_found : Known → List Name → Name → Found
again_found k before x = broken_if rule.RaiseAndHandlers (is_denoted (denotes_exception k) k x && list_any (same_named k.names x) before) (place_of x)

one_more : (k : Known) (names : List Name) (at : ℕ) (x : Name) (xs : List Name)
    → repeated_names k names at (x ∷ xs) ≡ kind_found k x ++ (again_found k (take at names) x ++ repeated_names k names (at + 1) xs)
unfolding repeated_names
one_more k names at x xs =
    let one : suc at ≡ at + 1 = omega arith in
    ap (λ n. kind_found k x ++ (again_found k (take at names) x ++ repeated_names k names n xs)) one

none : (k : Known) (names : List Name) (at : ℕ) → repeated_names k names at [] ≡ []
unfolding repeated_names
none k names at = refl

pub repeated_is : (k : Known) (names : List Name) (at : ℕ) (xs : List Name) → repeated_names k names at xs ≡ repeated_along k names at xs
repeated_is k names at [] = none k names at
repeated_is k names at (x ∷ xs) =
    one_more k names at x xs
    ∙ (ap (λ more. kind_found k x ++ (again_found k (take at names) x ++ more)) (repeated_is k names (at + 1) xs)
    ∙ sym (append_assoc (kind_found k x) (again_found k (take at names) x) (repeated_along k names (at + 1) xs)))

-- ---- handlers for all others

here : (h : HandledExceptions) → others_here (others_place h) ≡ others_in h
here (exceptions.Named names) = refl
here (exceptions.Others place) = refl

last_one : (h : HandledExceptions) → [] ≡ others_before_last (h ∷ [])
unfolding others_before_last
last_one h = refl

one_before : (h : HandledExceptions) (g : HandledExceptions) (rest : List HandledExceptions)
    → others_in h ++ others_before_last (g ∷ rest) ≡ others_before_last (h ∷ g ∷ rest)
unfolding others_before_last
one_before h g rest = refl

behind : (h : HandledExceptions) (rest : List HandledExceptions) → others_behind (others_place h) rest ≡ others_before_last (h ∷ rest)
behind h [] = last_one h
behind h (g ∷ rest) =
    ap (λ ws. ws ++ others_behind (others_place g) rest) (here h)
    ∙ (ap (λ ws. others_in h ++ ws) (behind g rest) ∙ one_before h g rest)

no_handler : [] ≡ others_before_last []
unfolding others_before_last
no_handler = refl

pub others_are : (hs : List HandledExceptions) → others_before_last hs ≡ others_behind None hs
others_are [] = sym no_handler
others_are (h ∷ rest) = sym (behind h rest)
