-- Who made a call is known of a world, whatever is done to calls: the number of a call stands for one call.
use Rattle.std.proofs.Common.{◌≡◌, ℕ, suc, ◌≤◌, Bool, true, false, cond, not, List, [], ◌∷◌, Option, Some, None, find, eqb, refl, sym, ap, subst, ◌∙◌, arith}
use Rattle.std.proofs.lemmas.Bool.{false≢true, eqb-true}
use Rattle.ann_base.specs.declared.identities.CallNo.{CallNo}
use Rattle.trace_text.specs.declared.events.Who.{Who}
use Rattle.trace_text.specs.declared.events.Who.TheVariants as who
use Rattle.profile_machine.specs.declared.world.calls.Call.{Call}
use Rattle.profile_image.specs.Words.{same_call, set_where, edit_found, without}
use Rattle.profile_machine.specs.Calls.{is_call}
use Rattle.profile_machine.specs.EntryCalls.{numbered}
use Rattle.world_laws.proofs.Sequences.TaskEdits.{by_bool}
use Rattle.world_laws.proofs.Sequences.Points.{Calling, Callings}

-- this one made the call, if it is there
abbrev pub Known : CallNo → Who → Calling
Known c name n cs = (c.0 ≤ n) × ((d : Call) → find (is_call c) cs ≡ Some d → who.Task d.caller ≡ name)

abbrev pub Knows : Option CallNo → Who → Calling
Knows None name n cs = Unit {0}
Knows (Some c) name n cs = Known c name n cs

here-is : (b : Bool) (x d : Call) (rest : Option Call) → b ≡ true → cond b (Some x) rest ≡ Some d → x ≡ d
here-is true x d rest is e = cc
here-is false x d rest is e = absurd (false≢true is)

later-is : (b : Bool) (x d : Call) (rest : Option Call) → b ≡ false → cond b (Some x) rest ≡ Some d → rest ≡ Some d
later-is true x d rest is e = absurd (false≢true (sym is))
later-is false x d rest is e = e

found-here : (b : Bool) (x : Call) (rest : Option Call) → b ≡ true → cond b (Some x) rest ≡ Some x
found-here b x rest is = ap (λ t. cond t (Some x) rest) is

found-here-as : (b : Bool) (x d : Call) (rest : Option Call) → b ≡ true → x ≡ d → cond b (Some x) rest ≡ Some d
found-here-as b x d rest is same = ap (λ t. cond t (Some x) rest) is ∙ ap (λ q. Some q) same

found-on : (b : Bool) (x d : Call) (rest : Option Call) → b ≡ false → rest ≡ Some d → cond b (Some x) rest ≡ Some d
found-on b x d rest is e = ap (λ t. cond t (Some x) rest) is ∙ e

-- ---- a call is edited

abbrev SameCaller : CallNo → List Call → Call → Type 0
SameCaller c cs d = (e : Call) × (find (is_call c) cs ≡ Some e) × (e.caller ≡ d.caller)

set-first : (c : CallNo) (y z : Call) (ys : List Call) (d : Call) → z.number ≡ y.number → z.caller ≡ y.caller → find (is_call c) (z ∷ ys) ≡ Some d
    → SameCaller c (y ∷ ys) d
set-first c y z ys d number caller e =
    by_bool (is_call c y)
    (λ is. (
      y,
      found-here (is_call c y) y (find (is_call c) ys) is,
      sym caller ∙ ap (λ x. x.caller) (here-is (is_call c z) z d (find (is_call c) ys) (ap (same_call c) number ∙ is) e),
    ))
    (λ none. (
      d,
      found-on (is_call c y) y d (find (is_call c) ys) none (later-is (is_call c z) z d (find (is_call c) ys) (ap (same_call c) number ∙ none) e),
      refl,
    ))

set-later : (c : CallNo) (y : Call) (ys zs : List Call) (d : Call) → (find (is_call c) zs ≡ Some d → SameCaller c ys d) → find (is_call c) (y ∷ zs) ≡ Some d
    → SameCaller c (y ∷ ys) d
set-later c y ys zs d onward e =
    by_bool (is_call c y)
    (λ is. (y, found-here (is_call c y) y (find (is_call c) ys) is, ap (λ x. x.caller) (here-is (is_call c y) y d (find (is_call c) zs) is e)))
    (λ none.
    let h = onward (later-is (is_call c y) y d (find (is_call c) zs) none e) in (h.0, found-on (is_call c y) y h.0 (find (is_call c) ys) none h.1, h.2))

set-caller : (c k : CallNo) (x z : Call) (cs : List Call) (d : Call) → find (is_call k) cs ≡ Some x → z.number ≡ x.number → z.caller ≡ x.caller
    → find (is_call c) (set_where (is_call k) z cs) ≡ Some d → SameCaller c cs d
set-caller c k x z [] d found number caller e = absurd (let never : None ≡ Some d = e in cc)
set-caller c k x z (y ∷ ys) d found number caller e =
    by_bool (is_call k y)
    (λ is. let same = here-is (is_call k y) y x (find (is_call k) ys) is found in
    set-first c y z ys d (number ∙ sym (ap (λ q. q.number) same)) (caller ∙ sym (ap (λ q. q.caller) same))
    (subst (λ b. find (is_call c) (cond b (z ∷ ys) (y ∷ set_where (is_call k) z ys)) ≡ Some d) is e))
    (λ none. set-later c y ys (set_where (is_call k) z ys) d
    (λ m. set-caller c k x z ys d (later-is (is_call k y) y x (find (is_call k) ys) none found) number caller m)
    (subst (λ b. find (is_call c) (cond b (z ∷ ys) (y ∷ set_where (is_call k) z ys)) ≡ Some d) none e))

edited-caller : (c k : CallNo) (f : Call → Call) (cs : List Call) (found : Option Call) (d : Call) → find (is_call k) cs ≡ found
    → ((x : Call) → (f x).number ≡ x.number) → ((x : Call) → (f x).caller ≡ x.caller) → find (is_call c) (edit_found (is_call k) f cs found) ≡ Some d
    → SameCaller c cs d
edited-caller c k f cs None d is number caller e = (d, e, refl)
edited-caller c k f cs (Some x) d is number caller e = set-caller c k x (f x) cs d is (number x) (caller x) e

-- ---- calls that are no longer there

kept-apart : (k : CallNo) (test : Call → Bool) (cs : List Call) (d : Call) → find test (without (is_call k) cs) ≡ Some d
    → (is_call k d ≡ false) × (test d ≡ true)
kept-apart k test [] d e = absurd (let never : None ≡ Some d = e in cc)
kept-apart k test (y ∷ ys) d e =
    by_bool (is_call k y)
    (λ is. kept-apart k test ys d (subst (λ b. find test (cond (not b) (y ∷ without (is_call k) ys) (without (is_call k) ys)) ≡ Some d) is e))
    (λ none. let kept = subst (λ b. find test (cond (not b) (y ∷ without (is_call k) ys) (without (is_call k) ys)) ≡ Some d) none e in
    by_bool (test y)
    (λ is. let same = here-is (test y) y d (find test (without (is_call k) ys)) is kept in
    (subst (λ q. is_call k q ≡ false) same none, subst (λ q. test q ≡ true) same is))
    (λ no_test. kept-apart k test ys d (later-is (test y) y d (find test (without (is_call k) ys)) no_test kept)))

one-call : (c k : CallNo) (y d : Call) → is_call c y ≡ true → is_call k y ≡ true → is_call c d ≡ true → is_call k d ≡ true
one-call c k y d a b h = subst (λ n. eqb n d.number.0 ≡ true) (eqb-true c.0 y.number.0 a ∙ sym (eqb-true k.0 y.number.0 b)) h

forgotten-found : (c k : CallNo) (cs : List Call) (d : Call) → find (is_call c) (without (is_call k) cs) ≡ Some d → find (is_call c) cs ≡ Some d
forgotten-found c k [] d e = e
forgotten-found c k (y ∷ ys) d e =
    by_bool (is_call k y)
    (λ is. let rest = subst (λ b. find (is_call c) (cond (not b) (y ∷ without (is_call k) ys) (without (is_call k) ys)) ≡ Some d) is e in
    by_bool (is_call c y)
    (λ same. let h = kept-apart k (is_call c) ys d rest in absurd (false≢true (sym h.0 ∙ one-call c k y d same is h.1)))
    (λ none. found-on (is_call c y) y d (find (is_call c) ys) none (forgotten-found c k ys d rest)))
    (λ none. let kept = subst (λ b. find (is_call c) (cond (not b) (y ∷ without (is_call k) ys) (without (is_call k) ys)) ≡ Some d) none e in
    by_bool (is_call c y)
    (λ is. found-here-as (is_call c y) y d (find (is_call c) ys) is (here-is (is_call c y) y d (find (is_call c) (without (is_call k) ys)) is kept))
    (λ no_call. found-on (is_call c y) y d (find (is_call c) ys) no_call
    (forgotten-found c k ys d (later-is (is_call c y) y d (find (is_call c) (without (is_call k) ys)) no_call kept))))

-- ---- a call that is new

not-next : (a n : ℕ) → a ≤ n → eqb a (suc n) ≡ false
not-next a n h = grind arith

not-later : (a n : ℕ) → a ≤ n → a ≤ suc n
not-later a n h = grind arith

pub known_callings : (c : CallNo) (name : Who) → Callings (Known c name)
known_callings c name = record {
  edited = λ k f n cs number caller h. (
    h.0,
    (λ d e. let q = edited-caller c k f cs (find (is_call k) cs) d refl number caller e in ap (λ t. who.Task t) (sym q.2) ∙ h.1 q.0 q.1),
  );
  added = λ x n cs h. (
    not-later c.0 n h.0,
    (λ d e. h.1 d (later-is (is_call c (numbered (suc n) x)) (numbered (suc n) x) d (find (is_call c) cs) (not-next c.0 n h.0) e)),
  );
  forgotten = λ k n cs h. (h.0, (λ d e. h.1 d (forgotten-found c k cs d e)));
}

pub knows_callings : (own_call : Option CallNo) (name : Who) → Callings (Knows own_call name)
knows_callings None name = record { edited = λ k f n cs number caller h. tt; added = λ x n cs h. tt; forgotten = λ k n cs h. tt }
knows_callings (Some c) name = known_callings c name
