-- One parameter more.
use Rattle.std.proofs.Common.{◌≡◌, ℕ, ◌<◌, ◌≤◌, suc, List, [], ◌∷◌, ◌++◌, Option, Ok, Err, length, drop, get_or, refl, ap, ◌∙◌, append_assoc, sym}
use Rattle.std.proofs.Math.Seq.{drop-cons}
use Rattle.std.proofs.lemmas.List.{drop_all}
use Rattle.ann_base.specs.Results.{◌>>=◌}
use Rattle.ann_base.specs.declared.exceptions.Raised.{Raised}
use Rattle.profile_image.specs.declared.declarations.Formal.{Formal}
use Rattle.profile_image.specs.declared.statements.Actual.{Actual}
use Rattle.profile_image.specs.declared.values.Value.{Value}
use Rattle.profile_machine.specs.declared.world.scopes.Variable.{Variable}
use Rattle.profile_machine.specs.EntryCalls.{entry_parameter, entry_parameters}
use Rattle.profile_machine.specs.Operators.{Valued}
use Rattle.profile_machine.specs.Values.{Seen}
use Rattle.machine_accepts.specs.Parts.{with_before}
use Rattle.machine_accepts.proofs.AlternativeLemmas.{with_before-all, with_before-none}

abbrev Parameters : Type 0
Parameters = List (Value × Option Variable)

parameter-ok : (r : Valued (Value × Option Variable)) (v : Value × Option Variable) (vs : Parameters) (rest : Valued Parameters) → r ≡ Ok v
    → with_before vs (r >>= λ x. rest >>= λ xs. Ok (x ∷ xs)) ≡ with_before (vs ++ v ∷ []) rest
parameter-ok (Ok x) v vs (Ok xs) e = let h : x ≡ v = cc in ap Ok (ap (λ z. vs ++ (z ∷ xs)) h ∙ sym (append_assoc vs (v ∷ []) xs))
parameter-ok (Ok x) v vs (Err f) e = refl
parameter-ok (Err f) v vs rest e = cc

parameter-err : (r : Valued (Value × Option Variable)) (x : Raised) (vs : Parameters) (rest : Valued Parameters) → r ≡ Err x
    → with_before vs (r >>= λ x. rest >>= λ xs. Ok (x ∷ xs)) ≡ Err x
parameter-err (Ok v) x vs rest e = cc
parameter-err (Err f) x vs rest e = cc

both : (q : Seen) (formals : List Formal) (actuals : List Actual) (i : ℕ) (f : Formal) (a : Actual) (vs : Parameters) → i < length formals → i < length actuals
    → with_before vs (entry_parameters q (drop i formals) (drop i actuals))
    ≡ with_before vs
    (entry_parameter q (get_or formals i f) (get_or actuals i a) >>= λ x.
    entry_parameters q (drop (suc i) formals) (drop (suc i) actuals) >>= λ xs. Ok (x ∷ xs))
both q formals actuals i f a vs l h =
    ap (λ fs. with_before vs (entry_parameters q fs (drop i actuals))) (drop-cons formals i f l)
    ∙ ap (λ as'. with_before vs (entry_parameters q (get_or formals i f ∷ drop (suc i) formals) as')) (drop-cons actuals i a h)

pub parameters-more : (q : Seen) (formals : List Formal) (actuals : List Actual) (i : ℕ) (f : Formal) (a : Actual) (v : Value × Option Variable)
    (vs : Parameters)
    → i < length formals
    → i < length actuals
    → entry_parameter q (get_or formals i f) (get_or actuals i a) ≡ Ok v
    → with_before vs (entry_parameters q (drop i formals) (drop i actuals))
    ≡ with_before (vs ++ v ∷ []) (entry_parameters q (drop (suc i) formals) (drop (suc i) actuals))
parameters-more q formals actuals i f a v vs l h e =
    both q formals actuals i f a vs l h
    ∙ parameter-ok (entry_parameter q (get_or formals i f) (get_or actuals i a)) v vs (entry_parameters q (drop (suc i) formals) (drop (suc i) actuals)) e

pub parameters-fail : (q : Seen) (formals : List Formal) (actuals : List Actual) (i : ℕ) (f : Formal) (a : Actual) (x : Raised) (vs : Parameters)
    → i < length formals → i < length actuals → entry_parameter q (get_or formals i f) (get_or actuals i a) ≡ Err x
    → with_before vs (entry_parameters q (drop i formals) (drop i actuals)) ≡ Err x
parameters-fail q formals actuals i f a x vs l h e =
    both q formals actuals i f a vs l h
    ∙ parameter-err (entry_parameter q (get_or formals i f) (get_or actuals i a)) x vs (entry_parameters q (drop (suc i) formals) (drop (suc i) actuals)) e

no-actuals : (q : Seen) (formals : List Formal) → entry_parameters q formals [] ≡ Ok []
no-actuals q [] = refl
no-actuals q (f ∷ fs) = refl

-- no actual is left
pub parameters-cut : (q : Seen) (formals : List Formal) (actuals : List Actual) (i : ℕ) (vs : Parameters) → length actuals ≤ i
    → with_before vs (entry_parameters q (drop i formals) (drop i actuals)) ≡ Ok vs
parameters-cut q formals actuals i vs l =
    ap (λ as'. with_before vs (entry_parameters q (drop i formals) as')) (drop_all i actuals l)
    ∙ ap (with_before vs) (no-actuals q (drop i formals)) ∙ with_before-all vs

-- no formal is left
pub parameters-end : (q : Seen) (formals : List Formal) (actuals : List Actual) (i : ℕ) (vs : Parameters) → length formals ≤ i
    → with_before vs (entry_parameters q (drop i formals) (drop i actuals)) ≡ Ok vs
parameters-end q formals actuals i vs l = ap (λ fs. with_before vs (entry_parameters q fs (drop i actuals))) (drop_all i formals l) ∙ with_before-all vs

pub ruleset parameter_laws = (parameters-more, parameters-fail, parameters-cut, parameters-end, with_before-none)
