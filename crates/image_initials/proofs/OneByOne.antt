-- What is made one by one: those so far, one more, and those that are still to come.
use Rattle.std.proofs.Common.{◌≡◌, ℕ, ◌+◌, List, [], ◌∷◌, ◌++◌, take, drop, refl, ap, sym, ◌∙◌, append_assoc}
use Rattle.profile_image.specs.declared.declarations.Declaration.{Declaration}
use Rattle.ada_regions.specs.declared.table.NumberedDeclaration.{NumberedDeclaration}
use Rattle.ada_image.specs.declared.making.Lists.{Lists}
use Rattle.ada_image.specs.declared.making.Within.{Within}
use Rattle.ada_image.specs.Making.{Making}
use Rattle.ada_image.specs.ImageOfUnits.{declaration_made, declarations_made}
use Rattle.image_initials.proofs.Before.{one_more}

-- one, and then others
one_then : {X : Type 0} → Making X → Making (List X) → Making (List X)
one_then m k lists = ((k (m lists).0).0, (m lists).1 ∷ (k (m lists).0).1)

list_more : {X : Type 0} (m : Making X) (k : Making (List X)) (before after : Lists) (x : X) (xs : List X) → m before ≡ (after, x)
    → ((k after).0 ≡ (one_then m k before).0) × ((xs ++ x ∷ []) ++ (k after).1 ≡ xs ++ (one_then m k before).1)
unfolding one_then
list_more {X = X} m k before after x xs e = (
  ap (λ (r : Lists × X). (k r.0).0) (sym e),
  append_assoc xs (x ∷ []) (k after).1 ∙ ap (λ (r : Lists × X). xs ++ (r.1 ∷ (k r.0).1)) (sym e),
)

declaration_first : (within : Within) (before : List NumberedDeclaration) (d : NumberedDeclaration) (ds : List NumberedDeclaration) (lists : Lists)
    → one_then (declaration_made within before d) (declarations_made within (before ++ d ∷ []) ds) lists ≡ declarations_made within before (d ∷ ds) lists
unfolding one_then declarations_made
declaration_first within before d ds lists = refl

-- the declarations of a table, where those from a place on are given
pub declaration_more : (within : Within) (table : List NumberedDeclaration) (n : ℕ) (d : NumberedDeclaration) (all ds : List NumberedDeclaration)
    (before after : Lists) (one : Declaration) (made more : List Declaration) (whole : Lists × List Declaration)
    → declaration_made within (take n table) d before ≡ (after, one) → drop n table ≡ d ∷ ds → all ≡ d ∷ ds → more ≡ made ++ one ∷ []
    → (declarations_made within (take n table) all before).0 ≡ whole.0 → made ++ (declarations_made within (take n table) all before).1 ≡ whole.1
    → ((declarations_made within (take (n + 1) table) ds after).0 ≡ whole.0) × (more ++ (declarations_made within (take (n + 1) table) ds after).1 ≡ whole.1)
declaration_more within table n d all ds before after one made more whole is-made cut all-is more-is lists-are made-are =
    let next : take (n + 1) table ≡ take n table ++ d ∷ [] = one_more table n d ds cut in
    let step = list_more (declaration_made within (take n table) d) (declarations_made within (take n table ++ d ∷ []) ds) before after one made is-made in
    let first : one_then (declaration_made within (take n table) d) (declarations_made within (take n table ++ d ∷ []) ds) before
    ≡ declarations_made within (take n table) all before =
    declaration_first within (take n table) d ds before ∙ ap (λ xs. declarations_made within (take n table) xs before) (sym all-is) in (
      ap (λ xs. (declarations_made within xs ds after).0) next ∙ step.0 ∙ ap (λ (r : Lists × List Declaration). r.0) first ∙ lists-are,
      ap (λ us. us ++ (declarations_made within (take (n + 1) table) ds after).1) more-is
          ∙ ap (λ xs. (made ++ one ∷ []) ++ (declarations_made within xs ds after).1) next ∙ step.1 ∙ ap (λ (r : Lists × List Declaration). made ++ r.1) first
          ∙ made-are,
    )
