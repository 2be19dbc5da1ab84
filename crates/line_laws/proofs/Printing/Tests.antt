-- The test of the names of a program.
use Rattle.std.proofs.Common.{◌≡◌, ℕ, Bool, true, false, not, ◌&&◌, leb, List, [], ◌∷◌, length, refl, ap}
use Rattle.std.specs.Prelude.{◌≢◌, bytes_eq, codes}
use Rattle.std.specs.List.{list_all, AllByRecursion}
use Rattle.std.proofs.lemmas.Bool.{and_parts, leb-true, not-true}
use Rattle.std.proofs.lemmas.List.Elements.{All-from_recursion}
use Rattle.trace_text.specs.Text.{is_name_from}
use Rattle.profile_image.specs.declared.image.Image.{Image}
use Rattle.profile_image.specs.declared.declarations.Declaration.{Declaration}
use Rattle.profile_image.specs.declared.declarations.Entry.{Entry}
use Rattle.profile_image.specs.declared.declarations.Subprogram.{Subprogram}
use Rattle.machine_laws.specs.Rows.Row24_1.{row_24_1_program}
use Rattle.line_laws.specs.Names.{IsShortName, IsShortException, IsNamed, is_short_name, is_short_exception, is_named}

short_name-told : (name : List ℕ) → is_short_name name ≡ true → IsShortName name
short_name-told name e = record {
  name_is = (and_parts (is_name_from false name) (leb (length name) 1000) e).0;
  short = leb-true (length name) 1000 ((and_parts (is_name_from false name) (leb (length name) 1000) e).1);
}

other_text : (name other : List ℕ) → bytes_eq other other ≡ true → not (bytes_eq name other) ≡ true → name ≢ other
other_text name other self e same =
    let c : bytes_eq name other ≡ bytes_eq other other = ap (λ x. bytes_eq x other) same in
    let d : bytes_eq name other ≡ false = not-true (bytes_eq name other) e in
    cc

short_exception-told : (name : List ℕ) → is_short_exception name ≡ true → IsShortException name
short_exception-told name e =
    let no_ok = not (bytes_eq name (codes "ok")) in
    let no_requeue = not (bytes_eq name (codes "requeue")) in
    let rest = (and_parts no_ok (no_requeue && is_short_name name) e).1 in
    let short = short_name-told name ((and_parts no_requeue (is_short_name name) rest).1) in
    record {
      exception_is = record {
        name_is = short.name_is;
        not_ok = other_text name (codes "ok") refl ((and_parts no_ok (no_requeue && is_short_name name) e).0);
        not_requeue = other_text name (codes "requeue") refl ((and_parts no_requeue (is_short_name name) rest).0);
      };
      short = short.short;
    }

all-told : {X : Type 0} (test : X → Bool) (P : X → Type 0) → ((x : X) → test x ≡ true → P x) → (xs : List X) → list_all test xs ≡ true → AllByRecursion P xs
all-told test P f [] e = tt
all-told test P f (x ∷ xs) e = (f x ((and_parts (test x) (list_all test xs) e).0), all-told test P f xs ((and_parts (test x) (list_all test xs) e).1))

pub names_are_tested : (p : Image) → is_named p ≡ true → IsNamed p
names_are_tested p e =
    let declared : Bool = list_all {X = Declaration} (λ d. is_short_name d.name) p.declarations in
    let expanded : Bool = list_all {X = Declaration} (λ d. is_short_exception d.expanded) p.declarations in
    let subprograms : Bool = list_all {X = Subprogram} (λ s. is_short_name s.name) p.subprograms in
    let entries : Bool = list_all {X = Entry} (λ x. is_short_name x.name) p.entries in
    let a = (and_parts (is_short_name p.main.name) (declared && (expanded && (subprograms && entries))) e).1 in
    let b = (and_parts declared (expanded && (subprograms && entries)) a).1 in
    let c = (and_parts expanded (subprograms && entries) b).1 in
    record {
      main = short_name-told p.main.name ((and_parts (is_short_name p.main.name) (declared && (expanded && (subprograms && entries))) e).0);
      declarations =
          All-from_recursion {X = Declaration} (λ d. IsShortName d.name) p.declarations
          (all-told {X = Declaration} (λ d. is_short_name d.name) (λ d. IsShortName d.name) (λ d k. short_name-told d.name k) p.declarations
          ((and_parts declared (expanded && (subprograms && entries)) a).0));
      expanded =
          All-from_recursion {X = Declaration} (λ d. IsShortException d.expanded) p.declarations
          (all-told {X = Declaration} (λ d. is_short_exception d.expanded) (λ d. IsShortException d.expanded)
          (λ d k. short_exception-told d.expanded k) p.declarations ((and_parts expanded (subprograms && entries) b).0));
      subprograms =
          All-from_recursion {X = Subprogram} (λ s. IsShortName s.name) p.subprograms
          (all-told {X = Subprogram} (λ s. is_short_name s.name) (λ s. IsShortName s.name) (λ s k. short_name-told s.name k) p.subprograms
          ((and_parts subprograms entries c).0));
      entries =
          All-from_recursion {X = Entry} (λ x. IsShortName x.name) p.entries
          (all-told {X = Entry} (λ x. is_short_name x.name) (λ x. IsShortName x.name) (λ x k. short_name-told x.name k) p.entries
          ((and_parts subprograms entries c).1));
    }

pub row_is_named : is_named row_24_1_program ≡ true
row_is_named = refl
