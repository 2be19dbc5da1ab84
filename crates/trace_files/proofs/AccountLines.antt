-- The lines of the accounts from a place on: one more is written, or a part of it.
use Rattle.std.proofs.Common.{◌≡◌, ◌<◌, ◌+◌, ◌∙◌, ap, sym, subst, refl, ℕ, zero, suc, List, [], ◌∷◌, ◌++◌, Option}
use Rattle.std.proofs.Common.{Some, None, IfSome, Result, OnOk, OnErr, length, drop, map, add-one, append_assoc, arith}
use Rattle.std.specs.List.{slice_get}
use Rattle.std.proofs.Math.Seq.{drop-length}
use Rattle.ann_base.specs.Outside.{extended}
use Rattle.outside_bytes.specs.Pieces.{HoldsPrefix}
use Rattle.outside_bytes.proofs.PiecesWritten.{Written, one_more_line, cut_line, err-second, ok-second}
use Rattle.run_report.specs.declared.accounts.Account.{Account}
use Rattle.run_report.specs.declared.report.Kept.{Kept}
use Rattle.run_report.specs.Kept.{account_in}
use Rattle.run_report.specs.Texts.{account_text, account_texts}

next_account : (accounts : List Account) (place : ℕ) → place < length accounts
    → (account : Account) × (slice_get accounts place ≡ Some account) × (drop place accounts ≡ account ∷ drop (suc place) accounts)
next_account [] place h = absurd (omega (arith, h))
next_account (first ∷ rest) zero h = (first, refl, refl)
next_account (first ∷ rest) (suc place) h = next_account rest place (omega (arith, h))

-- the line of an account, and what is written behind it
from_here : (accounts : List Account) (place : ℕ) (totals : List ℕ) (account : Account) → drop place accounts ≡ account ∷ drop (suc place) accounts →
    account_text account ++ (account_texts (drop (place + 1) accounts) ++ totals) ≡ account_texts (drop place accounts) ++ totals
from_here accounts place totals account rest =
    ap (λ n. account_text account ++ (account_texts (drop n accounts) ++ totals)) (add-one place)
    ∙ sym (append_assoc (account_text account) (account_texts (drop (suc place) accounts)) totals)
    ∙ sym (ap (λ accounts. account_texts accounts ++ totals) rest)

line_is : (accounts : List Account) (place : ℕ) (account : Account) (line : List ℕ) → slice_get accounts place ≡ Some account
    → IfSome (slice_get accounts place) (λ one. line ≡ account_text one) → line ≡ account_text account
line_is accounts place account line there h = subst (λ found. IfSome found (λ one. line ≡ account_text one)) there h

pub one_more_account : (first before behind : Option (List ℕ)) (accounts : List Account) (place : ℕ) (totals whole line : List ℕ) → place < length accounts
    → Written first before whole (account_texts (drop place accounts) ++ totals) →
    IfSome (slice_get accounts place) (λ one. line ≡ account_text one) → behind ≡ extended before line
    → Written first behind whole (account_texts (drop (place + 1) accounts) ++ totals)
one_more_account first before behind accounts place totals whole line here so_far pushed written =
    let (account, there, rest) = next_account accounts place here in
    one_more_line first before behind (account_text account) (account_texts (drop place accounts) ++ totals)
    (account_texts (drop (place + 1) accounts) ++ totals) whole so_far (from_here accounts place totals account rest)
    (written ∙ ap (extended before) (line_is accounts place account line there pushed))

pub cut_account : {X E : Type 0} (r : Result X E) (first before behind : Option (List ℕ)) (accounts : List Account) (place : ℕ) (totals whole line : List ℕ)
    → place < length accounts → Written first before whole (account_texts (drop place accounts) ++ totals) →
    IfSome (slice_get accounts place) (λ one. line ≡ account_text one) → HoldsPrefix before behind line → OnErr r (HoldsPrefix first behind whole)
cut_account r first before behind accounts place totals whole line here so_far pushed part =
    let (account, there, rest) = next_account accounts place here in
    cut_line r first before behind (account_text account) (account_texts (drop place accounts) ++ totals)
    (account_texts (drop (place + 1) accounts) ++ totals) whole so_far (from_here accounts place totals account rest)
    (subst (HoldsPrefix before behind) (line_is accounts place account line there pushed) part)

-- only the last lines are left
pub totals_left : (first held : Option (List ℕ)) (accounts : List Account) (place : ℕ) (totals whole : List ℕ) → place ≡ length accounts
    → Written first held whole (account_texts (drop place accounts) ++ totals) → Written first held whole totals
totals_left first held accounts place totals whole end so_far =
    let none : drop place accounts ≡ [] = ap (λ n. drop n accounts) end ∙ drop-length accounts in
    (so_far.0, so_far.1 ∙ ap (λ accounts. so_far.0 ++ (account_texts accounts ++ totals)) none, so_far.2)

-- and they are written, or a part of them
pub totals_cut : {X E : Type 0} (r : Result X E) (first held behind : Option (List ℕ)) (accounts : List Account) (place : ℕ) (totals whole line : List ℕ)
    → place ≡ length accounts → Written first held whole (account_texts (drop place accounts) ++ totals) →
    line ≡ totals → OnErr r (HoldsPrefix held behind line) → OnErr r (HoldsPrefix first behind whole)
totals_cut r first held behind accounts place totals whole line end so_far is part =
    let left = totals_left first held accounts place totals whole end so_far in
    subst (λ xs. OnErr r (HoldsPrefix first behind xs)) (sym left.1)
    (err-second r first held behind left.0 totals left.2 (subst (λ xs. OnErr r (HoldsPrefix held behind xs)) is part))

pub totals_written : {X E : Type 0} (r : Result X E) (first held behind : Option (List ℕ)) (accounts : List Account) (place : ℕ) (totals whole line : List ℕ)
    → place ≡ length accounts → Written first held whole (account_texts (drop place accounts) ++ totals) →
    line ≡ totals → OnOk r (behind ≡ extended held line) → OnOk r (behind ≡ extended first whole)
totals_written r first held behind accounts place totals whole line end so_far is written =
    let left = totals_left first held accounts place totals whole end so_far in
    subst (λ xs. OnOk r (behind ≡ extended first xs)) (sym left.1)
    (ok-second r first held behind left.0 totals left.2 (subst (λ xs. OnOk r (behind ≡ extended held xs)) is written))

-- what was put into an empty buffer
pub pushed_line : (found : Option Account) (line empty buffer : List ℕ) → empty ≡ [] → line ≡ buffer → IfSome found (λ one. buffer ≡ empty ++ account_text one)
    → IfSome found (λ one. line ≡ account_text one)
pushed_line None line empty buffer none is h = tt
pushed_line (Some one) line empty buffer none is h = is ∙ h ∙ ap (λ xs. xs ++ account_text one) none

pub as_many : (kept : List Kept) → length (map account_in kept) ≡ length kept
as_many [] = refl
as_many (one ∷ kept) = ap suc (as_many kept)
