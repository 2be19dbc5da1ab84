-- One step of the search for a name.
use Rattle.std.proofs.Common.{◌≡◌, ◌<◌, ◌+◌, ℕ, List, [], Some, true, false, cond, length, drop, get_or, refl, sym, ap, ◌∙◌, add-one, drop-cons}
use Rattle.std.proofs.lemmas.List.{get_or-map, length-map}
use Rattle.std.proofs.lemmas.Slice.Eq.{bytes_eq-Decides}
use Rattle.std.specs.Str.{bytes_eq}
use Rattle.std.specs.Global.{Vec}
use Rattle.outside_memory.specs.Files.{files_of, first_named, file_at, StandsAt}

-- a file as contracts see it
abbrev pub seen : Vec ℕ × Vec ℕ → List ℕ × List ℕ
seen file = (file.0.items, file.1.items)

pub file_at-files_of : (files : List (Vec ℕ × Vec ℕ)) (i : ℕ) (file : Vec ℕ × Vec ℕ) → i < length files → file ≡ get_or files i file
    → file_at (files_of files) i ≡ seen file
file_at-files_of files i file inside is = get_or-map seen files i file ([], []) inside ∙ ap seen (sym is)

pub length-files_of : (files : List (Vec ℕ × Vec ℕ)) → length (files_of files) ≡ length files
length-files_of files = length-map files seen

-- what the search meets at a place
pub first_named-step : (files : List (List ℕ × List ℕ)) (name : List ℕ) (i : ℕ) (file : List ℕ × List ℕ) → i < length files → file_at files i ≡ file
    → first_named (drop i files) name ≡ cond (bytes_eq file.0 name) (Some file.1) (first_named (drop (i + 1) files) name)
first_named-step files name i file inside is =
    ap (λ xs. first_named xs name) (drop-cons files i ([], []) inside)
    ∙ rw (is, add-one) refl

pub passes : (files : List (Vec ℕ × Vec ℕ)) (name slice : List ℕ) (i : ℕ) (file : Vec ℕ × Vec ℕ) → i < length files → file ≡ get_or files i file
    → slice ≡ file.0.items → bytes_eq slice name ≡ false → first_named (drop i (files_of files)) name ≡ first_named (files_of files) name
    → first_named (drop (i + 1) (files_of files)) name ≡ first_named (files_of files) name
passes files name slice i file inside is same differs so_far =
    let here : i < length (files_of files) = rw length-files_of inside in
    let other : bytes_eq file.0.items name ≡ false = ap (λ s. bytes_eq s name) (sym same) ∙ differs in
    sym (first_named-step (files_of files) name i (seen file) here (file_at-files_of files i file inside is)
    ∙ ap (λ b. cond b (Some file.1.items) (first_named (drop (i + 1) (files_of files)) name)) other)
    ∙ so_far

pub stands : (files : List (Vec ℕ × Vec ℕ)) (name slice : List ℕ) (i : ℕ) (file : Vec ℕ × Vec ℕ) → i < length files → file ≡ get_or files i file
    → slice ≡ file.0.items → bytes_eq slice name ≡ true → first_named (drop i (files_of files)) name ≡ first_named (files_of files) name
    → StandsAt (files_of files) name i
stands files name slice i file inside is same equal so_far =
    let here : i < length (files_of files) = rw length-files_of inside in
    let at : file_at (files_of files) i ≡ seen file = file_at-files_of files i file inside is in
    let tested : bytes_eq file.0.items name ≡ true = ap (λ s. bytes_eq s name) (sym same) ∙ equal in
    record {
      inside = here;
      named = ap (λ f. f.0) at ∙ (bytes_eq-Decides file.0.items name).0 tested;
      first =
          sym so_far ∙ first_named-step (files_of files) name i (seen file) here at
          ∙ ap (λ b. cond b (Some file.1.items) (first_named (drop (i + 1) (files_of files)) name)) tested ∙ ap (λ f. Some f.1) (sym at);
    }
