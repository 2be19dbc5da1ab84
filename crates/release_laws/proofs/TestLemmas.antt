-- The test says what the law says.
use Rattle.std.proofs.Common.{◌≡◌, ℕ, true, eqb, List, [], ◌∷◌, refl, ap, subst, ◌∙◌, eq-eqb}
use Rattle.std.specs.Prelude.{◌↔◌, IsTrue}
use Rattle.std.proofs.lemmas.Bool.{and_from, and_parts, eqb-true, false≢true}
use Rattle.profile_image.specs.declared.image.Image.{Image}
use Rattle.profile_machine.specs.Releases.{NamedHandler, same_bytes, same_handler, same_handlers, released}
use Rattle.release_laws.specs.ReleaseLaws.{Account, Passage, account_behind, owed_in_all, HistoryOk, follows_releases}

bytes-same : (xs ys : List ℕ) → same_bytes xs ys ≡ true → xs ≡ ys
bytes-same [] [] h = refl
bytes-same [] (y ∷ ys) h = absurd (false≢true h)
bytes-same (x ∷ xs) [] h = absurd (false≢true h)
bytes-same (x ∷ xs) (y ∷ ys) h =
    let first = eqb-true x y ((and_parts (eqb x y) (same_bytes xs ys) h).0) in
    let rest = bytes-same xs ys ((and_parts (eqb x y) (same_bytes xs ys) h).1) in
    ap (λ n. n ∷ xs) first ∙ ap (λ ns. y ∷ ns) rest

same-bytes : (xs : List ℕ) → same_bytes xs xs ≡ true
same-bytes [] = refl
same-bytes (x ∷ xs) = and_from (eqb x x) (same_bytes xs xs) (eq-eqb x x refl) (same-bytes xs)

handler-same : (a b : NamedHandler) → same_handler a b ≡ true → a ≡ b
handler-same a b h =
    let object = eqb-true a.object.0 b.object.0 ((and_parts (eqb a.object.0 b.object.0) (same_bytes a.procedure b.procedure) h).0) in
    let procedure = bytes-same a.procedure b.procedure ((and_parts (eqb a.object.0 b.object.0) (same_bytes a.procedure b.procedure) h).1) in
    ap (λ n. record { object = record { 0 = n }; procedure = a.procedure }) object ∙ ap (λ ns. record { object = b.object; procedure = ns }) procedure

same-handler : (a : NamedHandler) → same_handler a a ≡ true
same-handler a = and_from (eqb a.object.0 a.object.0) (same_bytes a.procedure a.procedure) (eq-eqb a.object.0 a.object.0 refl) (same-bytes a.procedure)

handlers-same : (xs ys : List NamedHandler) → same_handlers xs ys ≡ true → xs ≡ ys
handlers-same [] [] h = refl
handlers-same [] (y ∷ ys) h = absurd (false≢true h)
handlers-same (x ∷ xs) [] h = absurd (false≢true h)
handlers-same (x ∷ xs) (y ∷ ys) h =
    let first = handler-same x y ((and_parts (same_handler x y) (same_handlers xs ys) h).0) in
    let rest = handlers-same xs ys ((and_parts (same_handler x y) (same_handlers xs ys) h).1) in
    ap (λ n. n ∷ xs) first ∙ ap (λ ns. y ∷ ns) rest

same-handlers : (xs : List NamedHandler) → same_handlers xs xs ≡ true
same-handlers [] = refl
same-handlers (x ∷ xs) = and_from (same_handler x x) (same_handlers xs xs) (same-handler x) (same-handlers xs)

told : (p : Image) (a : Account) (passages : List Passage) → follows_releases p a passages ≡ true → HistoryOk p a passages
told p a [] h = tt
told p a (x ∷ xs) h = (
  handlers-same (released x.lines) (owed_in_all p a x)
      ((and_parts (same_handlers (released x.lines) (owed_in_all p a x)) (follows_releases p (account_behind p a x) xs) h).0),
  told p (account_behind p a x) xs ((and_parts (same_handlers (released x.lines) (owed_in_all p a x)) (follows_releases p (account_behind p a x) xs) h).1),
)

tested : (p : Image) (a : Account) (passages : List Passage) → HistoryOk p a passages → follows_releases p a passages ≡ true
tested p a [] h = refl
tested p a (x ∷ xs) h =
    and_from (same_handlers (released x.lines) (owed_in_all p a x)) (follows_releases p (account_behind p a x) xs)
    (subst (λ ys. same_handlers (released x.lines) ys ≡ true) h.0 (same-handlers (released x.lines)))
    (tested p (account_behind p a x) xs h.1)

pub releases_told : (p : Image) (a : Account) (passages : List Passage) → IsTrue (follows_releases p a passages) ↔ HistoryOk p a passages
releases_told p a passages = (told p a passages, tested p a passages)
