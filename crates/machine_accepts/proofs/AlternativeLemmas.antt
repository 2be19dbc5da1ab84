-- Lists that are made part by part, where each part may be an exception.
use Rattle.std.specs.Prelude.{option_to_list}
use Rattle.std.specs.Bool.{then_some}
use Rattle.std.proofs.Common.{◌≡◌, ℕ, ℤ, ◌-◌, ◌<◌, ◌≤◌, suc, Bool, true, false, List, [], ◌∷◌, ◌++◌}
use Rattle.std.proofs.Common.{Option, Some, None, Ok, Err, length, drop, get_or, refl, ap, sym, ◌∙◌}
use Rattle.std.proofs.Math.Seq.{drop-cons}
use Rattle.std.proofs.lemmas.List.{append_assoc, append-nil, drop_all}
use Rattle.std.specs.List.{slice_get}
use Rattle.ann_base.specs.Results.{◌>>=◌}
use Rattle.ann_base.specs.declared.exceptions.Raised.{Raised}
use Rattle.profile_image.specs.declared.numbers.StatementNo.{StatementNo}
use Rattle.profile_image.specs.declared.statements.SelectAlternative.{SelectAlternative}
use Rattle.profile_image.specs.declared.statements.SelectKind.{SelectKind}
use Rattle.profile_image.specs.declared.statements.SelectKind.TheVariants as select
use Rattle.profile_machine.specs.declared.world.calls.DelayMoment.{DelayMoment}
use Rattle.profile_machine.specs.Operators.{Valued}
use Rattle.profile_machine.specs.Rendezvous.{is_open, with_open, open_alternatives, open_accepts, delay_moment, open_delays, earlier, least_delay}
use Rattle.profile_machine.specs.Values.{Seen}
use Rattle.machine_accepts.specs.Parts.{with_before, open_kind, accept_in, delay_in}
use Rattle.machine_accepts.proofs.QueueLemmas.{dropped-before, not-dropped-before}

joined : {X : Type 0} (xs : List X) (x : X) (ys : List X) → xs ++ (x ∷ ys) ≡ (xs ++ x ∷ []) ++ ys
joined xs x ys = sym (append_assoc xs (x ∷ []) ys)

unjoined : {X : Type 0} (xs ys : List X) → xs ++ ys ≡ (xs ++ []) ++ ys
unjoined xs ys = ap (λ zs. zs ++ ys) (sym (append-nil xs))

pub with_before-all : {X : Type 0} (xs : List X) → with_before xs (Ok []) ≡ Ok xs
with_before-all xs = ap Ok (append-nil xs)

pub with_before-none : {X : Type 0} (rest : Valued (List X)) → with_before [] rest ≡ rest
with_before-none (Ok xs) = refl
with_before-none (Err e) = refl

-- ---- alternatives

alternative-ok : (r : Valued Bool) (kind : SelectKind) (k : Option SelectKind) (kinds : List SelectKind) (rest : Valued (List SelectKind))
    → (r >>= λ b. Ok (then_some b kind)) ≡ Ok k → with_before kinds (r >>= λ b. rest >>= with_open b kind) ≡ with_before (kinds ++ option_to_list k) rest
alternative-ok (Ok true) kind (Some x) kinds (Ok xs) e = let h : kind ≡ x = cc in ap Ok (ap (λ z. kinds ++ (z ∷ xs)) h ∙ joined kinds x xs)
alternative-ok (Ok true) kind (Some x) kinds (Err f) e = refl
alternative-ok (Ok true) kind None kinds rest e = cc
alternative-ok (Ok false) kind None kinds (Ok xs) e = ap Ok (unjoined kinds xs)
alternative-ok (Ok false) kind None kinds (Err f) e = refl
alternative-ok (Ok false) kind (Some x) kinds rest e = cc
alternative-ok (Err f) kind k kinds rest e = cc

alternative-err : (r : Valued Bool) (kind : SelectKind) (x : Raised) (kinds : List SelectKind) (rest : Valued (List SelectKind))
    → (r >>= λ b. Ok (then_some b kind)) ≡ Err x → with_before kinds (r >>= λ b. rest >>= with_open b kind) ≡ Err x
alternative-err (Ok b) kind x kinds rest e = cc
alternative-err (Err f) kind x kinds rest e = cc

pub alternatives-more : (q : Seen) (alternatives : List SelectAlternative) (i : ℕ) (d : SelectAlternative) (k : Option SelectKind) (kinds : List SelectKind)
    → i < length alternatives → open_kind q (get_or alternatives i d) ≡ Ok k
    → with_before kinds (open_alternatives q (drop i alternatives)) ≡ with_before (kinds ++ option_to_list k) (open_alternatives q (drop (suc i) alternatives))
alternatives-more q alternatives i d k kinds l e =
    ap (λ zs. with_before kinds (open_alternatives q zs)) (drop-cons alternatives i d l)
    ∙ alternative-ok (is_open q (get_or alternatives i d).guard) (get_or alternatives i d).kind k kinds (open_alternatives q (drop (suc i) alternatives)) e

pub alternatives-fail : (q : Seen) (alternatives : List SelectAlternative) (i : ℕ) (d : SelectAlternative) (x : Raised) (kinds : List SelectKind)
    → i < length alternatives → open_kind q (get_or alternatives i d) ≡ Err x → with_before kinds (open_alternatives q (drop i alternatives)) ≡ Err x
alternatives-fail q alternatives i d x kinds l e =
    ap (λ zs. with_before kinds (open_alternatives q zs)) (drop-cons alternatives i d l)
    ∙ alternative-err (is_open q (get_or alternatives i d).guard) (get_or alternatives i d).kind x kinds (open_alternatives q (drop (suc i) alternatives)) e

pub alternatives-end : (q : Seen) (alternatives : List SelectAlternative) (i : ℕ) (kinds : List SelectKind) → length alternatives ≤ i
    → with_before kinds (open_alternatives q (drop i alternatives)) ≡ Ok kinds
alternatives-end q alternatives i kinds l = ap (λ zs. with_before kinds (open_alternatives q zs)) (drop_all i alternatives l) ∙ with_before-all kinds

pub ruleset alternative_laws = (alternatives-more, alternatives-fail, alternatives-end, with_before-none)

-- ---- accepts

pub accepts-more : (k : SelectKind) (kinds : List SelectKind) (accepts : List StatementNo)
    → accepts ++ open_accepts (k ∷ kinds) ≡ (accepts ++ option_to_list (accept_in k)) ++ open_accepts kinds
accepts-more (select.Accept s) kinds accepts = joined accepts s (open_accepts kinds)
accepts-more (select.Delay s) kinds accepts = unjoined accepts (open_accepts kinds)
accepts-more select.Terminate kinds accepts = unjoined accepts (open_accepts kinds)

pub accepts-end : (accepts : List StatementNo) → accepts ++ [] ≡ accepts
accepts-end accepts = append-nil accepts

pub ruleset accept_laws = (accepts-more, accepts-end)

-- ---- delays

delay-ok : (r : Valued ℤ) (f : ℤ → DelayMoment) (d : Option DelayMoment) (delays : List DelayMoment) (rest : Valued (List DelayMoment))
    → (r >>= λ m. Ok (Some (f m))) ≡ Ok d → with_before delays (r >>= λ m. rest >>= λ xs. Ok (f m ∷ xs)) ≡ with_before (delays ++ option_to_list d) rest
delay-ok (Ok m) f (Some x) delays (Ok xs) e = let h : f m ≡ x = cc in ap Ok (ap (λ z. delays ++ (z ∷ xs)) h ∙ joined delays x xs)
delay-ok (Ok m) f (Some x) delays (Err g) e = refl
delay-ok (Ok m) f None delays rest e = cc
delay-ok (Err g) f d delays rest e = cc

delay-err : (r : Valued ℤ) (f : ℤ → DelayMoment) (x : Raised) (delays : List DelayMoment) (rest : Valued (List DelayMoment))
    → (r >>= λ m. Ok (Some (f m))) ≡ Err x → with_before delays (r >>= λ m. rest >>= λ xs. Ok (f m ∷ xs)) ≡ Err x
delay-err (Ok m) f x delays rest e = cc
delay-err (Err g) f x delays rest e = cc

before-none : {X : Type 0} (xs : List X) (rest : Valued (List X)) → with_before xs rest ≡ with_before (xs ++ []) rest
before-none xs rest = ap (λ zs. with_before zs rest) (sym (append-nil xs))

kept-before : {X : Type 0} (xs : List X) (d : Option X) (rest : Valued (List X)) → None ≡ d → with_before xs rest ≡ with_before (xs ++ option_to_list d) rest
kept-before xs None rest e = before-none xs rest
kept-before xs (Some x) rest e = cc

pub delays-more : (q : Seen) (k : SelectKind) (kinds : List SelectKind) (d : Option DelayMoment) (delays : List DelayMoment) → delay_in q k ≡ Ok d
    → with_before delays (open_delays q (k ∷ kinds)) ≡ with_before (delays ++ option_to_list d) (open_delays q kinds)
delays-more q (select.Accept s) kinds d delays e = let h : None ≡ d = cc in kept-before delays d (open_delays q kinds) h
delays-more q (select.Delay s) kinds d delays e = delay-ok (delay_moment q s) (λ m. record { delay = s; at = m }) d delays (open_delays q kinds) e
delays-more q select.Terminate kinds d delays e = let h : None ≡ d = cc in kept-before delays d (open_delays q kinds) h

pub delays-fail : (q : Seen) (k : SelectKind) (kinds : List SelectKind) (x : Raised) (delays : List DelayMoment) → delay_in q k ≡ Err x
    → with_before delays (open_delays q (k ∷ kinds)) ≡ Err x
delays-fail q (select.Accept s) kinds x delays e = cc
delays-fail q (select.Delay s) kinds x delays e = delay-err (delay_moment q s) (λ m. record { delay = s; at = m }) x delays (open_delays q kinds) e
delays-fail q select.Terminate kinds x delays e = cc

pub ruleset delay_laws = (delays-more, delays-fail, with_before-all, with_before-none)

-- ---- the least delay

pub least-none : (delays : List DelayMoment) (n : ℕ) → length delays ≤ n → least_delay (drop n delays) ≡ None
least-none delays n l = ap least_delay (drop_all n delays l)

pub least-before : (delays : List DelayMoment) (n : ℕ) (m : DelayMoment) → 0 < n → slice_get delays (n - 1) ≡ Some m
    → least_delay (drop (n - 1) delays) ≡ Some (earlier m (least_delay (drop n delays)))
least-before delays n m h e = ap least_delay (dropped-before delays n m h e)

pub least-kept : (delays : List DelayMoment) (n : ℕ) → 0 < n → slice_get delays (n - 1) ≡ None → least_delay (drop (n - 1) delays) ≡ least_delay (drop n delays)
least-kept delays n h e = ap least_delay (not-dropped-before delays n h e)

pub ruleset least_laws = (least-none, least-before, least-kept)
