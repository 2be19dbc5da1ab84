-- Texts that are put together, one behind the other.
use Rattle.std.proofs.Common.{◌≡◌, ℕ, ◌+◌, ◌<◌, List, [], ◌∷◌, ◌++◌, Ok, Err, drop, length, get_or, refl, ap, sym, ◌∙◌, append_assoc}
use Rattle.std.proofs.lemmas.List.{drop_more}
use Rattle.ann_base.specs.Results.{◌>>=◌}
use Rattle.ann_base.specs.Answers.{Answers, AnswersAs}
use Rattle.ann_base.specs.declared.exceptions.Raised.{Raised}
use Rattle.ann_base.specs.declared.faults.OrMemory.{OrMemory}
use Rattle.ann_base.specs.declared.faults.OrMemory.TheVariants as answer
use Rattle.profile_image.specs.declared.statements.Piece.{Piece}
use Rattle.profile_machine.specs.Operators.{Valued}
use Rattle.profile_machine.specs.Values.{Seen}
use Rattle.profile_machine.specs.Statements.{piece_text, text_of_pieces}
use Rattle.machine_statements.specs.Texts.{text_behind}

pub behind-nothing : (text : Valued (List ℕ)) → text_behind [] text ≡ text
behind-nothing (Ok more) = refl
behind-nothing (Err e) = refl

behind-more : (text rest : Valued (List ℕ)) (before after : List ℕ) → text_behind before text ≡ Ok after
    → text_behind after rest ≡ text_behind before (text >>= λ more. rest >>= λ others. Ok (more ++ others))
behind-more (Ok more) (Ok others) before after e =
    let a : before ++ more ≡ after = cc in ap (λ z. Ok (z ++ others)) (sym a) ∙ ap Ok (append_assoc before more others)
behind-more (Ok more) (Err f) before after e = refl
behind-more (Err f) rest before after e = cc

behind-fails : (text rest : Valued (List ℕ)) (before : List ℕ) (e : Raised) → text_behind before text ≡ Err e
    → text_behind before (text >>= λ more. rest >>= λ others. Ok (more ++ others)) ≡ Err e
behind-fails (Ok more) rest before e h = cc
behind-fails (Err f) rest before e h = h

-- one piece more
pub piece_more : (q : Seen) (x : Piece) (xs : List Piece) (before after : List ℕ) → text_behind before (piece_text q x) ≡ Ok after
    → text_behind after (text_of_pieces q xs) ≡ text_behind before (text_of_pieces q (x ∷ xs))
piece_more q x xs before after e = behind-more (piece_text q x) (text_of_pieces q xs) before after e

-- or its exception
pub piece_fails : (q : Seen) (x : Piece) (xs : List Piece) (before : List ℕ) (e : Raised) → text_behind before (piece_text q x) ≡ Err e
    → text_behind before (text_of_pieces q (x ∷ xs)) ≡ Err e
piece_fails q x xs before e h = behind-fails (piece_text q x) (text_of_pieces q xs) before e h

pub pieces_more : (q : Seen) (pieces : List Piece) (i : ℕ) (x : Piece) (before after : List ℕ) → i < length pieces → x ≡ get_or pieces i x
    → text_behind before (piece_text q x) ≡ Ok after
    → text_behind after (text_of_pieces q (drop (i + 1) pieces)) ≡ text_behind before (text_of_pieces q (drop i pieces))
pieces_more q pieces i x before after l is h =
    let e : drop i pieces ≡ x ∷ drop (i + 1) pieces = drop_more pieces i x l ∙ ap (λ y. y ∷ drop (i + 1) pieces) (sym is) in
    piece_more q x (drop (i + 1) pieces) before after h ∙ ap (λ ps. text_behind before (text_of_pieces q ps)) (sym e)

-- what cannot be put is what the whole answers
pub pieces_fail : (q : Seen) (pieces : List Piece) (i : ℕ) (x : Piece) (before : List ℕ) (e : Raised) → i < length pieces → x ≡ get_or pieces i x
    → text_behind before (piece_text q x) ≡ Err e → text_behind before (text_of_pieces q (drop i pieces)) ≡ Err e
pieces_fail q pieces i x before e l is h =
    let s : drop i pieces ≡ x ∷ drop (i + 1) pieces = drop_more pieces i x l ∙ ap (λ y. y ∷ drop (i + 1) pieces) (sym is) in
    ap (λ ps. text_behind before (text_of_pieces q ps)) s ∙ piece_fails q x (drop (i + 1) pieces) before e h

pub pieces_refused : (put : List ℕ) (a : OrMemory Raised) (q : Seen) (pieces : List Piece) (i : ℕ) (x : Piece) (before : List ℕ) (all : Valued (List ℕ))
    → i < length pieces → x ≡ get_or pieces i x
    → AnswersAs {X = Unit {0}} (λ _. put) (Err a) (text_behind before (piece_text q x)) → text_behind before (text_of_pieces q (drop i pieces)) ≡ all
    → Answers {X = List ℕ} (Err a) all
pieces_refused put (answer.Fault e) q pieces i x before all l is h all-is = sym all-is ∙ pieces_fail q pieces i x before e l is h
pieces_refused put answer.Memory q pieces i x before all l is h all-is = tt

pub ruleset text_laws = (behind-nothing)
