-- Parameters, one after the other.
use Rattle.std.proofs.Common.{◌≡◌, ℕ, suc, ◌+◌, ◌<◌, List, ◌∷◌, Ok, Some, None, drop, length, get_or, ap, sym, ◌∙◌, arith}
use Rattle.std.specs.List.{slice_get}
use Rattle.std.proofs.lemmas.List.{drop_more}
use Rattle.std.proofs.lemmas.Option.{slice_get_within}
use Rattle.profile_image.specs.declared.declarations.Formal.{Formal}
use Rattle.profile_image.specs.declared.statements.Actual.{Actual}
use Rattle.profile_machine.specs.Values.{Seen}
use Rattle.profile_machine.specs.Subprograms.{handed, hand_over, nothing_handed}
use Rattle.machine_parameters.proofs.ListLemmas.{drop-found, drop-none}

pub handed_more : (q : Seen) (place : ℕ) (formals : List Formal) (actuals : List Actual) (f : Formal) (a : Actual) → place < length formals
    → f ≡ get_or formals place f → place < length actuals → a ≡ get_or actuals place a
    → handed q place (drop place formals) (drop place actuals)
    ≡ hand_over q place f a (handed q (place + 1) (drop (place + 1) formals) (drop (place + 1) actuals))
handed_more q place formals actuals f a l is m are =
    let next : suc place ≡ place + 1 = omega arith in
    let fs : drop place formals ≡ f ∷ drop (place + 1) formals = drop_more formals place f l ∙ ap (λ x. x ∷ drop (place + 1) formals) (sym is) in
    let as' : drop place actuals ≡ a ∷ drop (place + 1) actuals = drop_more actuals place a m ∙ ap (λ x. x ∷ drop (place + 1) actuals) (sym are) in
    ap (λ xs. handed q place xs (drop place actuals)) fs ∙ ap (λ xs. handed q place (f ∷ drop (place + 1) formals) xs) as'
    ∙ ap (λ n. hand_over q place f a (handed q n (drop (place + 1) formals) (drop (place + 1) actuals))) next

pub handed_past : (q : Seen) (place : ℕ) (formals : List Formal) (actuals : List Actual) → slice_get formals place ≡ None
    → handed q place (drop place formals) (drop place actuals) ≡ Ok nothing_handed
handed_past q place formals actuals e = ap (λ fs. handed q place fs (drop place actuals)) (drop-none formals place e)

pub handed_short : (q : Seen) (place : ℕ) (formals : List Formal) (actuals : List Actual) (f : Formal) → slice_get formals place ≡ Some f
    → slice_get actuals place ≡ None → handed q place (drop place formals) (drop place actuals) ≡ Ok nothing_handed
handed_short q place formals actuals f e h =
    ap (λ fs. handed q place fs (drop place actuals)) (drop-found formals place f e)
    ∙ ap (λ as'. handed q place (f ∷ drop (suc place) formals) as') (drop-none actuals place h)

pub ruleset handed_laws = (handed_past, handed_short, slice_get_within)
