-- Who made a call stays who made it, whatever is edited, made or forgotten.
use Rattle.std.proofs.Common.{◌≡◌, ℕ, suc, ◌≤◌, Bool, true, false, cond, not, eqb, List, [], ◌∷◌, Option, Some, None, refl, sym, ap, subst, ◌∙◌, arith}
use Rattle.std.specs.Prelude.{find}
use Rattle.std.proofs.lemmas.Bool.{eqb-true}
use Rattle.ann_base.specs.declared.identities.CallNo.{CallNo}
use Rattle.trace_text.specs.declared.events.Who.{Who}
use Rattle.trace_text.specs.declared.events.Who.TheVariants as who
use Rattle.profile_machine.specs.declared.world.calls.Call.{Call}
use Rattle.profile_image.specs.Words.{set_where, edit_found, edit_where, without}
use Rattle.profile_machine.specs.Calls.{is_call}
use Rattle.profile_machine.specs.EntryCalls.{numbered}
use Rattle.line_laws.proofs.Leaving.FreeWorlds.{CallerIn}

-- one is set in the place of the one that was found, which has the same number and caller
pub record Before (k : CallNo) (calls : List Call) (d : Call) : Type 0 where
  pub call : Call
  pub found : find (is_call k) calls ≡ Some call
  pub same : call.caller ≡ d.caller

set-before : (c k : CallNo) (t u d : Call) (xs : List Call) → find (is_call c) xs ≡ Some t → u.number ≡ t.number → u.caller ≡ t.caller
    → find (is_call k) (set_where (is_call c) u xs) ≡ Some d → Before k xs d
set-before c k t u d [] found number caller e = absurd cc
set-before c k t u d (z ∷ zs) found number caller e = step (is_call c z) (is_call k z) refl found e (λ a b. set-before c k t u d zs a number caller b) where
  step : (b h : Bool) → is_call k z ≡ h → cond b (Some z) (find (is_call c) zs) ≡ Some t
      → find (is_call k) (cond b (u ∷ zs) (z ∷ set_where (is_call c) u zs)) ≡ Some d
      → (find (is_call c) zs ≡ Some t → find (is_call k) (set_where (is_call c) u zs) ≡ Some d → Before k zs d) → Before k (z ∷ zs) d
  step true true is found e onward =
      let same : z ≡ t = cc in
      let here : is_call k u ≡ true = ap (λ n. eqb k.0 n.0) (number ∙ ap (λ (x : Call). x.number) (sym same)) ∙ is in
      let one : Some u ≡ Some d = sym (ap (λ b. cond b (Some u) (find (is_call k) zs)) here) ∙ e in
      let ud : u ≡ d = cc in
      record {
        call = z;
        found = ap (λ b. cond b (Some z) (find (is_call k) zs)) is;
        same = ap (λ (x : Call). x.caller) same ∙ sym caller ∙ ap (λ (x : Call). x.caller) ud;
      }
  step true false is found e onward =
      let same : z ≡ t = cc in
      let here : is_call k u ≡ false = ap (λ n. eqb k.0 n.0) (number ∙ ap (λ (x : Call). x.number) (sym same)) ∙ is in
      record {
        call = d;
        found = ap (λ b. cond b (Some z) (find (is_call k) zs)) is ∙ sym (ap (λ b. cond b (Some u) (find (is_call k) zs)) here) ∙ e;
        same = refl;
      }
  step false true is found e onward =
      let one : Some z ≡ Some d = sym (ap (λ b. cond b (Some z) (find (is_call k) (set_where (is_call c) u zs))) is) ∙ e in
      let zd : z ≡ d = cc in
      record { call = z; found = ap (λ b. cond b (Some z) (find (is_call k) zs)) is; same = ap (λ (x : Call). x.caller) zd }
  step false false is found e onward =
      let rest = onward found (sym (ap (λ b. cond b (Some z) (find (is_call k) (set_where (is_call c) u zs))) is) ∙ e) in
      record { call = rest.call; found = ap (λ b. cond b (Some z) (find (is_call k) zs)) is ∙ rest.found; same = rest.same }

pub edited-before : (c k : CallNo) (f : Call → Call) (d : Call) (xs : List Call) (found : Option Call) → find (is_call c) xs ≡ found
    → ((x : Call) → (f x).number ≡ x.number) → ((x : Call) → (f x).caller ≡ x.caller)
    → find (is_call k) (edit_found (is_call c) f xs found) ≡ Some d → Before k xs d
edited-before c k f d xs None is a b e = record { call = d; found = e; same = refl }
edited-before c k f d xs (Some t) is a b e = set-before c k t (f t) d xs is (a t) (b t) e

pub edited-caller : (c : CallNo) (f : Call → Call) (calls : List Call) (drawn : ℕ) → ((x : Call) → (f x).number ≡ x.number)
    → ((x : Call) → (f x).caller ≡ x.caller) → (name : Who) (k : CallNo) → CallerIn calls drawn k name → CallerIn (edit_where (is_call c) f calls) drawn k name
edited-caller c f calls drawn a b name k h =
    (h.0, λ d e. let q = edited-before c k f d calls (find (is_call c) calls) refl a b e in ap (λ t. who.Task t) (sym q.same) ∙ h.1 q.call q.found, h.2)

pub not_newer : (k n : ℕ) → k ≤ n → eqb k (suc n) ≡ false
not_newer k n h = by (eqb k (suc n)) refl where
  by : (b : Bool) → eqb k (suc n) ≡ b → b ≡ false
  by false e = refl
  by true e = absurd (let same : k ≡ suc n = eqb-true k (suc n) e in omega arith)

pub added-caller : (c : Call) (calls : List Call) (drawn : ℕ) (name : Who) (k : CallNo) → CallerIn calls drawn k name
    → CallerIn (numbered (suc drawn) c ∷ calls) (suc drawn) k name
added-caller c calls drawn name k h =
    let low : k.0 ≤ drawn = h.0 in
    (omega arith, λ d e. h.1 d (sym (ap (λ b. cond b (Some (numbered (suc drawn) c)) (find (is_call k) calls)) (not_newer k.0 drawn low)) ∙ e), h.2)

none-left : (c : CallNo) (xs : List Call) → find (is_call c) (without (is_call c) xs) ≡ None
none-left c [] = refl
none-left c (z ∷ zs) = step (is_call c z) refl (none-left c zs) where
  step : (b : Bool) → is_call c z ≡ b → find (is_call c) (without (is_call c) zs) ≡ None
      → find (is_call c) (cond (not b) (z ∷ without (is_call c) zs) (without (is_call c) zs)) ≡ None
  step true is k = k
  step false is k = ap (λ b. cond b (Some z) (find (is_call c) (without (is_call c) zs))) is ∙ k

pub gone-before : (c k : CallNo) (d : Call) (xs : List Call) → find (is_call k) (without (is_call c) xs) ≡ Some d → find (is_call k) xs ≡ Some d
gone-before c k d [] e = e
gone-before c k d (z ∷ zs) e = step (is_call c z) (is_call k z) refl refl e (λ a. gone-before c k d zs a) where
  step : (b h : Bool) → is_call c z ≡ b → is_call k z ≡ h → find (is_call k) (cond (not b) (z ∷ without (is_call c) zs) (without (is_call c) zs)) ≡ Some d
      → (find (is_call k) (without (is_call c) zs) ≡ Some d → find (is_call k) zs ≡ Some d) → cond h (Some z) (find (is_call k) zs) ≡ Some d
  step true true a is e onward =
      let one : c.0 ≡ k.0 = eqb-true c.0 z.number.0 a ∙ sym (eqb-true k.0 z.number.0 is) in
      let none : find (is_call k) (without (is_call c) zs) ≡ None =
      subst (λ (n : ℕ). find (is_call (record { 0 = n })) (without (is_call c) zs) ≡ None) one (none-left c zs) in
      absurd (let never : None ≡ Some d = sym none ∙ e in cc)
  step true false a is e onward = onward e
  step false true a is e onward = sym (ap (λ b. cond b (Some z) (find (is_call k) (without (is_call c) zs))) is) ∙ e
  step false false a is e onward = onward (sym (ap (λ b. cond b (Some z) (find (is_call k) (without (is_call c) zs))) is) ∙ e)

pub gone-caller : (c : CallNo) (calls : List Call) (drawn : ℕ) (name : Who) (k : CallNo) → CallerIn calls drawn k name
    → CallerIn (without (is_call c) calls) drawn k name
gone-caller c calls drawn name k h = (h.0, λ d e. h.1 d (gone-before c k d calls e), h.2)
