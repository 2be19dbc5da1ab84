-- A word is reserved where the table has it.
use Rattle.std.proofs.Common.{◌≡◌, ℕ, Bool, true, false, List, [], ◌∷◌, map, get_or, Option, Some, None, refl, sym, subst, arith}
use Rattle.std.proofs.lemmas.Bool.Decides.{nat_tests}
use Rattle.std.proofs.lemmas.List.Folds.{list_any_at, list_any_none}
use Rattle.std.proofs.lemmas.List.Elements.{All-from_get_or}
use Rattle.std.proofs.lemmas.Slice.Eq.{bytes_eq-Decides}
use Rattle.std.specs.Prelude.{IfSome, IfNone, is_some}
use Rattle.std.specs.Str.{bytes_eq}
use Rattle.std.specs.Char.{to_ascii_lowercase}
use Rattle.ada_lex.specs.declared.words.Reserved.{Reserved}
use Rattle.ada_lex.specs.declared.words.Reserved.TheVariants.{Abort}
use Rattle.ada_lex.specs.declared.words.TheConstants.{ALL}
use Rattle.ada_lex.specs.ReservedLetters.{word_letters}
use Rattle.ada_lex.specs.Reserved.{is_reserved}
use Rattle.ada_lex.proofs.ReservedTable.{place_of, place_in, at_place}

none_false : (v : Bool) (P : Type 0) → (v ≡ true → P) → (P → v ≡ true) → (P → ⊥) → v ≡ false
none_false true P f g never = absurd (never (f refl))
none_false false P f g never = refl

pub is_reserved-word : (found : Option Reserved) (word : List ℕ) → IfSome found (λ entry. word_letters entry ≡ map to_ascii_lowercase word)
    → IfNone found ((entry : Reserved) → word_letters entry ≡ map to_ascii_lowercase word → ⊥) → is_some found ≡ is_reserved word
unfolding is_reserved
is_reserved-word (Some entry) word same none =
    let test = λ (e : Reserved). bytes_eq (word_letters e) (map to_ascii_lowercase word) in
    let here : bytes_eq (word_letters entry) (map to_ascii_lowercase word) ≡ true =
    (bytes_eq-Decides (word_letters entry) (map to_ascii_lowercase word)).1 same in
    let there : bytes_eq (word_letters (get_or ALL (place_of entry) Abort)) (map to_ascii_lowercase word) ≡ true =
    subst (λ (e : Reserved). bytes_eq (word_letters e) (map to_ascii_lowercase word) ≡ true) (sym (at_place entry)) here in
    sym (list_any_at test ALL (place_of entry) Abort (place_in entry) there)
is_reserved-word None word same none =
    let test = λ (e : Reserved). bytes_eq (word_letters e) (map to_ascii_lowercase word) in
    sym (list_any_none test ALL (All-from_get_or (λ e. test e ≡ false) ALL Abort (λ i lt.
    let d = bytes_eq-Decides (word_letters (get_or ALL i Abort)) (map to_ascii_lowercase word) in
    none_false _ _ d.0 d.1 (none (get_or ALL i Abort)))))

lower_twice : (b : ℕ) → to_ascii_lowercase (to_ascii_lowercase b) ≡ to_ascii_lowercase b
lower_twice b = grind (arith, nat_tests)

pub map-lower_twice : (word : List ℕ) → map to_ascii_lowercase (map to_ascii_lowercase word) ≡ map to_ascii_lowercase word
map-lower_twice [] = refl
map-lower_twice (b ∷ word) = rw (lower_twice b, map-lower_twice word) refl

pub is_reserved-lower : (word : List ℕ) → is_reserved (map to_ascii_lowercase word) ≡ is_reserved word
unfolding is_reserved
is_reserved-lower word = rw (map-lower_twice word) refl
