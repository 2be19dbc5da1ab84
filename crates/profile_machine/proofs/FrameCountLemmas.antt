-- Counting frames one by one, and asking the counts in place of the frames.
use Rattle.std.proofs.Common.{◌≡◌, ◌^◌, ℕ, ◌+◌, ◌≤◌, ◌<◌, Bool, true, false, cond, ltb, ◌||◌, List, [], ◌∷◌, Some, length, slice_get, refl, ap, ◌∙◌, arith}
use Rattle.std.proofs.lemmas.Bool.Decides.{nat_tests}
use Rattle.profile_machine.specs.declared.world.marks.Frame.{Frame}
use Rattle.profile_machine.specs.declared.world.frame_stack.FrameCounts.{FrameCounts}
use Rattle.profile_machine.specs.Frames.{defers, is_protected, any_defers, any_protected}
use Rattle.profile_machine.specs.Unwinding.{any_struck}
use Rattle.profile_machine.specs.FrameCounts.{one_if, with_frame, counts_of, HasRoom}
use Rattle.world_tables.specs.Lists.{first_of, rest_of}

-- the counts of some frames and of the rest are those of all, and there is room for the rest
pub record AreCountedBefore (c : FrameCounts) (rest all : List Frame) : Type 0 where
  pub struck : c.struck + (counts_of rest).struck ≡ (counts_of all).struck
  pub deferring : c.deferring + (counts_of rest).deferring ≡ (counts_of all).deferring
  pub in_protected : c.in_protected + (counts_of rest).in_protected ≡ (counts_of all).in_protected
  pub struck_fits : c.struck + length rest ≤ length all
  pub deferring_fits : c.deferring + length rest ≤ length all
  pub in_protected_fits : c.in_protected + length rest ≤ length all

-- whether any is there, by how many there are
any_step : (b : Bool) (n : ℕ) (rest : Bool) → ltb 0 n ≡ rest → ltb 0 (n + cond b 1 0) ≡ (b || rest)
any_step true n rest e = grind (arith, nat_tests)
any_step false n rest e = let zero_more : n + 0 ≡ n = omega arith in rw zero_more e

struck_by_count : (fs : List Frame) → ltb 0 (counts_of fs).struck ≡ any_struck fs
struck_by_count [] = refl
struck_by_count (f ∷ fs) = any_step f.struck _ _ (struck_by_count fs)

defers_by_count : (fs : List Frame) → ltb 0 (counts_of fs).deferring ≡ any_defers fs
defers_by_count [] = refl
defers_by_count (f ∷ fs) = any_step (defers f.mark) _ _ (defers_by_count fs)

protected_by_count : (fs : List Frame) → ltb 0 (counts_of fs).in_protected ≡ any_protected fs
protected_by_count [] = refl
protected_by_count (f ∷ fs) = any_step (is_protected f.mark) _ _ (protected_by_count fs)

-- ---- the counts of the rest answer for all, if the top does not

pub any_struck_below : (fs : List Frame) (top : Frame) (c : FrameCounts) → Some top ≡ first_of fs → c ≡ counts_of (rest_of fs) → top.struck ≡ false
    → ltb 0 c.struck ≡ any_struck fs
any_struck_below [] top c first e not_top = cc
any_struck_below (f ∷ fs) top c first e not_top = let same : top ≡ f = cc in rw (e, ← same, not_top) (struck_by_count fs)

pub any_defers_below : (fs : List Frame) (top : Frame) (c : FrameCounts) → Some top ≡ first_of fs → c ≡ counts_of (rest_of fs) → defers top.mark ≡ false
    → ltb 0 c.deferring ≡ any_defers fs
any_defers_below [] top c first e not_top = cc
any_defers_below (f ∷ fs) top c first e not_top = let same : top ≡ f = cc in rw (e, ← same, not_top) (defers_by_count fs)

pub any_protected_below : (fs : List Frame) (top : Frame) (c : FrameCounts) → Some top ≡ first_of fs → c ≡ counts_of (rest_of fs)
    → is_protected top.mark ≡ false → ltb 0 c.in_protected ≡ any_protected fs
any_protected_below [] top c first e not_top = cc
any_protected_below (f ∷ fs) top c first e not_top = let same : top ≡ f = cc in rw (e, ← same, not_top) (protected_by_count fs)

-- ---- room for the frames that are to come

pub room_before : (c : FrameCounts) (f : Frame) (rest all : List Frame) → AreCountedBefore c (f ∷ rest) all → length all < 2 ^ 64 → HasRoom c
room_before c f rest all before small = record {
  struck = let h = before.struck_fits in omega arith;
  deferring = let h = before.deferring_fits in omega arith;
  in_protected = let h = before.in_protected_fits in omega arith;
}

one_if-le : (b : Bool) → one_if b ≤ 1
one_if-le true = omega arith
one_if-le false = omega arith

-- there are no more than all
counts-le : (fs : List Frame) → ((counts_of fs).struck ≤ length fs) × ((counts_of fs).deferring ≤ length fs) × ((counts_of fs).in_protected ≤ length fs)
counts-le [] = (omega arith, omega arith, omega arith)
counts-le (f ∷ fs) =
    let h = counts-le fs in
    let s = one_if-le f.struck in
    let d = one_if-le (defers f.mark) in
    let p = one_if-le (is_protected f.mark) in (omega arith, omega arith, omega arith)

pub room_below : (fs : List Frame) (second : Frame) (c : FrameCounts) → Some second ≡ slice_get fs 1 → c ≡ counts_of (rest_of (rest_of fs)) → length fs < 2 ^ 64
    → HasRoom c
room_below [] second c at e small = cc
room_below (f ∷ []) second c at e small = cc
room_below (f ∷ g ∷ fs) second c at e small =
    let h = counts-le fs in rw e (record { struck = omega arith; deferring = omega arith; in_protected = omega arith })

pub counted_one_more : (c : FrameCounts) (f : Frame) (rest all : List Frame) → AreCountedBefore c (f ∷ rest) all → AreCountedBefore (with_frame f c) rest all
counted_one_more c f rest all before =
    let s = one_if-le f.struck in
    let d = one_if-le (defers f.mark) in
    let p = one_if-le (is_protected f.mark) in
    record {
      struck = let h = before.struck in omega arith;
      deferring = let h = before.deferring in omega arith;
      in_protected = let h = before.in_protected in omega arith;
      struck_fits = let h = before.struck_fits in omega arith;
      deferring_fits = let h = before.deferring_fits in omega arith;
      in_protected_fits = let h = before.in_protected_fits in omega arith;
    }

abbrev counts_made : ℕ → ℕ → ℕ → FrameCounts
counts_made s d p = record { struck = s; deferring = d; in_protected = p }

-- counts are the same if each of the three is
same_counts : (c d : FrameCounts) → c.struck ≡ d.struck → c.deferring ≡ d.deferring → c.in_protected ≡ d.in_protected → c ≡ d
same_counts c d s e p =
    ap (λ (x : ℕ). counts_made x c.deferring c.in_protected) s
    ∙ (ap (λ (x : ℕ). counts_made d.struck x c.in_protected) e
    ∙ ap (λ (x : ℕ). counts_made d.struck d.deferring x) p)

pub counted_all : (c : FrameCounts) (all : List Frame) → AreCountedBefore c [] all → c ≡ counts_of all
counted_all c all before =
    let s : c.struck ≡ (counts_of all).struck = (let h = before.struck in omega arith) in
    let d : c.deferring ≡ (counts_of all).deferring = (let h = before.deferring in omega arith) in
    let p : c.in_protected ≡ (counts_of all).in_protected = (let h = before.in_protected in omega arith) in
    same_counts c (counts_of all) s d p
