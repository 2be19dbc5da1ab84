-- Facts of files that a shelf tells.
use Rattle.std.proofs.Common.{◌≡◌, ℕ, ℤ, List, Ok}
use Rattle.outside_bytes.specs.Files.{ToldFile, Untold, Missing, Holds, told, WhereTold}
use Rattle.profile_image.specs.declared.script_items.Item.{Item}
use Rattle.event_script.specs.Script.{script_of}
use Rattle.commands.specs.Outside.{ShelfChange}
use Rattle.commands.specs.Performed.{OfItems}

pub told_map : (file : ToldFile) (F G : List ℕ → Type 0) → ((bytes : List ℕ) → F bytes → G bytes) → WhereTold file F → WhereTold file G
told_map Untold F G f h = tt
told_map Missing F G f h = h
told_map (Holds bytes) F G f h = f bytes h

-- the items of a script, with a fact of them
abbrev pub ItemsWith : (List (ℤ × Item) → Type 0) → List ℕ → Type 0
ItemsWith F text = (items : List (ℤ × Item)) × (script_of text ≡ Ok items) × F items

pub items_map : (shelf : ShelfChange) (script : List ℕ) (F G : List (ℤ × Item) → Type 0) → ((items : List (ℤ × Item)) → F items → G items)
    → OfItems shelf script F → OfItems shelf script G
items_map shelf script F G f h = told_map (told shelf.files script) (ItemsWith F) (ItemsWith G) (λ text known. (known.0, known.1, f known.0 known.2)) h

-- a fact of the items that were read
pub items_told : (shelf : ShelfChange) (script : List ℕ) (items : List (ℤ × Item)) (F : List (ℤ × Item) → Type 0)
    → WhereTold (told shelf.files script) (λ text. script_of text ≡ Ok items) → F items → OfItems shelf script F
items_told shelf script items F read h = told_map (told shelf.files script) (λ text. script_of text ≡ Ok items) (ItemsWith F) (λ text is. (items, is, h)) read
