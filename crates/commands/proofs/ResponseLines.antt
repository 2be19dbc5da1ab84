-- The lines of the duties from a place on: one more is written, or a part of it.
use Rattle.std.proofs.Common.{◌≡◌, ◌<◌, ◌∙◌, ap, sym, subst, refl, ℕ, zero, suc, ◌+◌, Bool, true, false, not, ◌||◌, is_some}
use Rattle.std.proofs.Common.{List, [], ◌∷◌, ◌++◌, Option, Some, IfSome, Result, OnErr, length, drop, add-one, append-nil, arith}
use Rattle.std.specs.List.{slice_get}
use Rattle.std.proofs.Math.Seq.{drop-length}
use Rattle.ann_base.specs.Outside.{extended}
use Rattle.outside_bytes.specs.Pieces.{HoldsPrefix}
use Rattle.outside_bytes.proofs.PiecesWritten.{Written, one_more_line, cut_line}
use Rattle.sched_tests.specs.declared.duties.Duty.{Duty}
use Rattle.sched_tests.specs.Response.{response_of}
use Rattle.sched_tests.specs.Reports.{response_line, response_lines, rta_text, is_missed}

next_duty : (duties : List Duty) (place : ℕ) → place < length duties
    → (duty : Duty) × (slice_get duties place ≡ Some duty) × (drop place duties ≡ duty ∷ drop (suc place) duties)
next_duty [] place h = absurd (omega (arith, h))
next_duty (first ∷ rest) zero h = (first, refl, refl)
next_duty (first ∷ rest) (suc place) h = next_duty rest place (omega (arith, h))

-- the line of a duty, and those behind it
lines_from_here : (duties : List Duty) (place : ℕ) (time : Option ℕ) (duty : Duty) → time ≡ response_of duties place
    → drop place duties ≡ duty ∷ drop (suc place) duties →
    response_line duty.name time ++ response_lines duties (place + 1) (drop (place + 1) duties) ≡ response_lines duties place (drop place duties)
lines_from_here duties place time duty time_is rest =
    ap (λ n. response_line duty.name time ++ response_lines duties (place + 1) (drop n duties)) (add-one place)
    ∙ ap (λ t. response_line duty.name t ++ response_lines duties (place + 1) (drop (suc place) duties)) time_is
    ∙ sym (ap (response_lines duties place) rest)

pub one_more_response : (first before behind : Option (List ℕ)) (duties : List Duty) (place : ℕ) (time : Option ℕ) → place < length duties
    → time ≡ response_of duties place →
    Written first before (rta_text duties) (response_lines duties place (drop place duties)) →
    IfSome (slice_get duties place) (λ duty. behind ≡ extended before (response_line duty.name time)) →
    Written first behind (rta_text duties) (response_lines duties (place + 1) (drop (place + 1) duties))
one_more_response first before behind duties place time here time_is so_far written =
    let (duty, there, rest) = next_duty duties place here in
    let line : behind ≡ extended before (response_line duty.name time) =
    subst (λ found. IfSome found (λ d. behind ≡ extended before (response_line d.name time))) there written in
    one_more_line first before behind (response_line duty.name time) (response_lines duties place (drop place duties))
    (response_lines duties (place + 1) (drop (place + 1) duties)) (rta_text duties)
    so_far (lines_from_here duties place time duty time_is rest) line

pub cut_response : {X E : Type 0} (r : Result X E) (first before behind : Option (List ℕ)) (duties : List Duty) (place : ℕ) (time : Option ℕ)
    → place < length duties → time ≡ response_of duties place →
    Written first before (rta_text duties) (response_lines duties place (drop place duties)) →
    IfSome (slice_get duties place) (λ duty. HoldsPrefix before behind (response_line duty.name time)) →
    OnErr r (HoldsPrefix first behind (rta_text duties))
cut_response r first before behind duties place time here time_is so_far part =
    let (duty, there, rest) = next_duty duties place here in
    let line : HoldsPrefix before behind (response_line duty.name time) =
    subst (λ found. IfSome found (λ d. HoldsPrefix before behind (response_line d.name time))) there part in
    cut_line r first before behind (response_line duty.name time) (response_lines duties place (drop place duties))
    (response_lines duties (place + 1) (drop (place + 1) duties)) (rta_text duties)
    so_far (lines_from_here duties place time duty time_is rest) line

either_order : (a b c : Bool) → a || (b || c) ≡ (a || b) || c
either_order true b c = refl
either_order false b c = refl

pub one_more_missed : (duties : List Duty) (place : ℕ) (time : Option ℕ) (missed next : Bool) → place < length duties → time ≡ response_of duties place
    → next ≡ missed || not (is_some time) →
    is_missed duties 0 duties ≡ missed || is_missed duties place (drop place duties)
    → is_missed duties 0 duties ≡ next || is_missed duties (place + 1) (drop (place + 1) duties)
one_more_missed duties place time missed next here time_is next_is so_far =
    let (duty, there, rest) = next_duty duties place here in
    so_far
    ∙ ap (λ ds. missed || is_missed duties place ds) rest
    ∙ either_order missed (not (is_some (response_of duties place))) (is_missed duties (place + 1) (drop (suc place) duties))
    ∙ sym (ap (λ t. (missed || not (is_some t)) || is_missed duties (place + 1) (drop (suc place) duties)) time_is)
    ∙ sym (ap (λ b. b || is_missed duties (place + 1) (drop (suc place) duties)) next_is)
    ∙ sym (ap (λ n. next || is_missed duties (place + 1) (drop n duties)) (add-one place))

nothing_behind : (duties : List Duty) (place : ℕ) → place ≡ length duties → drop place duties ≡ []
nothing_behind duties place e = ap (λ n. drop n duties) e ∙ drop-length duties

pub all_written : (first held : Option (List ℕ)) (duties : List Duty) (place : ℕ) → place ≡ length duties
    → Written first held (rta_text duties) (response_lines duties place (drop place duties)) → held ≡ extended first (rta_text duties)
all_written first held duties place end h =
    h.2 ∙ ap (extended first) (sym (h.1 ∙ ap (λ xs. h.0 ++ response_lines duties place xs) (nothing_behind duties place end) ∙ append-nil h.0))

either_none : (a : Bool) → a || false ≡ a
either_none true = refl
either_none false = refl

pub all_missed : (duties : List Duty) (place : ℕ) (missed : Bool) → place ≡ length duties
    → is_missed duties 0 duties ≡ missed || is_missed duties place (drop place duties) → is_missed duties 0 duties ≡ missed
all_missed duties place missed end h = h ∙ ap (λ ds. missed || is_missed duties place ds) (nothing_behind duties place end) ∙ either_none missed
