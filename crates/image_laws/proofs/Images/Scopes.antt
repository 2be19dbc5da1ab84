-- Where no scope begins twice, each scope of the image has the first action that was made for it.
use Rattle.std.proofs.Common.{◌≡◌, ℕ, zero, suc, ◌+◌, ◌<◌, true, false, cond, eqb, ltb, length, List, [], ◌∷◌, map, Some, find, refl, ap, ◌∙◌, arith}
use Rattle.std.specs.Prelude.{slice_index_or}
use Rattle.std.specs.List.{list_any, list_all}
use Rattle.std.proofs.lemmas.Bool.{and_parts, ltb-true, not-true, or_parts}
use Rattle.profile_image.specs.declared.image.Image.{Image}
use Rattle.profile_image.specs.Program.{no_scope}
use Rattle.ada_regions.specs.Words.{and_then}
use Rattle.ada_regions.specs.declared.table.Names.{Names}
use Rattle.ada_regions.specs.declared.table.NumberedScope.{NumberedScope}
use Rattle.ada_image.specs.declared.making.FirstAction.{FirstAction}
use Rattle.ada_image.specs.Layout.{first_action, scope_made, scopes_made}
use Rattle.image_laws.specs.OwnScopes.{are_apart, are_own}
use Rattle.image_laws.proofs.Images.Steps.{FirstsStand}
use Rattle.image_laws.proofs.Images.Values.{same-number}

abbrev scopes_of : List FirstAction → List ℕ
scopes_of fs = map (λ f. f.scope) fs

-- what is found for the scope of each is itself
abbrev Found : List FirstAction → List FirstAction → Type 0
Found all [] = Unit {0}
Found all (f ∷ fs) = (find (λ g. eqb g.scope f.scope) all ≡ Some f) × Found all fs

found-behind : (g : FirstAction) (all fs : List FirstAction) → list_any (eqb g.scope) (scopes_of fs) ≡ false → Found all fs → Found (g ∷ all) fs
found-behind g all [] h k = tt
found-behind g all (f ∷ fs) h k =
    let parts = or_parts _ _ h in
    (ap (λ b. cond b (Some g) (find (λ x. eqb x.scope f.scope) all)) parts.0 ∙ k.0, found-behind g all fs parts.1 k.1)

found-own : (fs : List FirstAction) → are_apart (scopes_of fs) ≡ true → Found fs fs
found-own [] h = tt
found-own (f ∷ fs) h =
    let parts = and_parts _ _ h in
    (ap (λ b. cond b (Some f) (find (λ x. eqb x.scope f.scope) fs)) (same-number f.scope), found-behind f fs fs (not-true _ parts.0) (found-own fs parts.1))

module _ (n : Names) (firsts : List FirstAction) where
  first-made : (number : ℕ) (s : NumberedScope) → (scope_made n firsts number s).first ≡ and_then (first_action firsts number) (λ f. f.action)
  unfolding scope_made
  first-made number s = refl

  scope-at : (ss : List NumberedScope) (number i : ℕ) → i < length ss
      → (slice_index_or (scopes_made n firsts number ss) i no_scope).first ≡ and_then (first_action firsts (number + i)) (λ f. f.action)
  unfolding scopes_made
  scope-at [] number i h = absurd (omega arith)
  scope-at (s ∷ ss) number zero h = first-made number s ∙ ap (λ k. and_then (first_action firsts k) (λ f. f.action)) (omega arith)
  scope-at (s ∷ ss) number (suc i) h = scope-at ss (suc number) i (omega arith) ∙ ap (λ k. and_then (first_action firsts k) (λ f. f.action)) (omega arith)

  firsts-stand : (p : Image) → p.scopes ≡ scopes_made n firsts 0 n.scopes → (fs : List FirstAction)
      → list_all (λ s. ltb s (length n.scopes)) (scopes_of fs) ≡ true → Found firsts fs → FirstsStand p fs
  unfolding first_action
  firsts-stand p same [] h k = tt
  firsts-stand p same (f ∷ fs) h k =
      let zero-more : 0 + f.scope ≡ f.scope = omega arith in
      let parts = and_parts _ _ h in (
        ap (λ ss. (slice_index_or ss f.scope no_scope).first) same ∙ scope-at n.scopes 0 f.scope (ltb-true _ _ parts.0)
            ∙ ap (λ i. and_then (first_action firsts i) (λ g. g.action)) zero-more ∙ ap (λ x. and_then x (λ g. g.action)) k.0,
        firsts-stand p same fs parts.1 k.1,
      )

pub own-firsts-stand : (n : Names) (firsts : List FirstAction) (p : Image) → p.scopes ≡ scopes_made n firsts 0 n.scopes
    → are_own n (map (λ f. f.scope) firsts) ≡ true → FirstsStand p firsts
own-firsts-stand n firsts p same h = let parts = and_parts _ _ h in firsts-stand n firsts p same firsts parts.0 (found-own firsts parts.1)
