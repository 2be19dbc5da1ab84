-- Lines that come rightly are in turn, and keep the law of leaving.
use Rattle.std.proofs.Common.{◌≡◌, ℕ, Bool, true, false, cond, not, eqb, ◌&&◌, ◌||◌, List, [], ◌∷◌, Option, Some, None, length, refl, sym, ap, ◌∙◌, eq-eqb}
use Rattle.std.specs.List.{list_all}
use Rattle.std.proofs.lemmas.Bool.{and_from, eqb-true, not_from_false}
use Rattle.trace_text.specs.declared.events.Event.{Event}
use Rattle.trace_text.specs.declared.events.Event.TheVariants as line
use Rattle.trace_text.specs.Laws.{is_left_before, is_leaving, inits_of, regions_of, is_final_before, is_rightly_left}
use Rattle.line_laws.specs.LeavingLaws.{is_newest, is_next_in_turn, is_in_turn, RunsLeaveInTurn, RunsLeaveRightly}
use Rattle.line_laws.proofs.Leaving.RegionLines.{Told, begun, ended, added, finalized, assigned, leaving, left, inits, regions, final, others, live}
use Rattle.line_laws.proofs.Leaving.RegionLines.{live_in, Finalizes, Right, NotLeaving, Well, Known, newest-known, newest-live, live-one, known-same}
use Rattle.line_laws.proofs.Leaving.RegionLines.{known-added, known-finalized, absent-known, well-next, well_first, rightly, eqb-sym-false}
use Rattle.line_laws.proofs.Leaving.LeftLines.{told_event, tells, tells-leaving, tells-left, tells-inits}
use Rattle.line_laws.proofs.Leaving.LeftLines.{tells-regions, tells-final, all-same, rightly-same, told_rightly}
use Rattle.line_laws.proofs.Leaving.Telling.{RightEvent}
use Rattle.line_laws.proofs.Leaving.LeavingRuns.{at_each_line}
use Rattle.line_laws.proofs.Leaving.RegionTies.{test-true, test-false}
use Rattle.machine_laws.proofs.QueueLemmas.{by_test}

abbrev AnyRegion : List Told → ℕ → Type 0
AnyRegion s r = Unit {0}

-- ---- in turn

abbrev unfinalized : List Told → List ℕ → List ℕ
unfinalized s [] = []
unfinalized s (o ∷ os) = cond (final o s) (unfinalized s os) (o ∷ unfinalized s os)

-- of a region the objects that are not finalized, in their order; each has one region
record InOrder (s : List Told) : Type 0 where
  left_over : (r : ℕ) → unfinalized s (inits r s) ≡ live_in r (live s)
  known : Known s (live s)

unfinalized-same : (s t : List Told) (os : List ℕ) → ((o : ℕ) → final o t ≡ final o s) → unfinalized t os ≡ unfinalized s os
unfinalized-same s t [] k = refl
unfinalized-same s t (o ∷ os) k =
    ap (λ b. cond b (unfinalized t os) (o ∷ unfinalized t os)) (k o) ∙ ap (λ ms. cond (final o s) ms (o ∷ ms)) (unfinalized-same s t os k)

abbrev without_one : ℕ → List ℕ → List ℕ
without_one o [] = []
without_one o (n ∷ ns) = cond (eqb o n) (without_one o ns) (n ∷ without_one o ns)

-- an object more that is finalized
one-step : (o n : ℕ) (ms : List ℕ) (a b c : Bool) → a ≡ c → eqb o n ≡ c
    → cond (a || b) (without_one o ms) (n ∷ without_one o ms) ≡ without_one o (cond b ms (n ∷ ms))
one-step o n ms a true true e f = ap (λ t. cond (t || true) (without_one o ms) (n ∷ without_one o ms)) e
one-step o n ms a false true e f =
    ap (λ t. cond (t || false) (without_one o ms) (n ∷ without_one o ms)) e ∙ sym (ap (λ t. cond t (without_one o ms) (n ∷ without_one o ms)) f)
one-step o n ms a true false e f = ap (λ t. cond (t || true) (without_one o ms) (n ∷ without_one o ms)) e
one-step o n ms a false false e f =
    ap (λ t. cond (t || false) (without_one o ms) (n ∷ without_one o ms)) e ∙ sym (ap (λ t. cond t (without_one o ms) (n ∷ without_one o ms)) f)

eqb-turned : (a b : ℕ) → eqb a b ≡ eqb b a
eqb-turned a b = by_test (eqb a b) (λ t. ap (λ n. eqb n b) (eqb-true a b t) ∙ ap (λ n. eqb b n) (sym (eqb-true a b t))) (λ f. f ∙ sym (eqb-sym-false a b f))

unfinalized-one : (o : ℕ) (s : List Told) (os : List ℕ) → unfinalized (finalized o ∷ s) os ≡ without_one o (unfinalized s os)
unfinalized-one o s [] = refl
unfinalized-one o s (n ∷ os) =
    ap (λ ms. cond (eqb n o || final n s) ms (n ∷ ms)) (unfinalized-one o s os)
    ∙ one-step o n (unfinalized s os) (eqb n o) (final n s) (eqb n o) refl (eqb-turned o n)

live-one_less : (o q : ℕ) (xs : List (ℕ × ℕ)) → live_in q (others o xs) ≡ without_one o (live_in q xs)
live-one_less o q [] = refl
live-one_less o q (x ∷ xs) = less-step o q x (others o xs) (live_in q xs) (eqb o x.0) (eqb q x.1) refl refl (live-one_less o q xs) where
  less-step : (o q : ℕ) (x : ℕ × ℕ) (ys : List (ℕ × ℕ)) (ms : List ℕ) (a b : Bool) → eqb o x.0 ≡ a → eqb q x.1 ≡ b → live_in q ys ≡ without_one o ms
      → live_in q (cond a ys (x ∷ ys)) ≡ without_one o (cond b (x.0 ∷ ms) ms)
  less-step o q x ys ms true true e f h = h ∙ sym (ap (λ t. cond t (without_one o ms) (x.0 ∷ without_one o ms)) e)
  less-step o q x ys ms true false e f h = h
  less-step o q x ys ms false true e f h =
      ap (λ t. cond t (x.0 ∷ live_in q ys) (live_in q ys)) f ∙ ap (λ zs. x.0 ∷ zs) h ∙ sym (ap (λ t. cond t (without_one o ms) (x.0 ∷ without_one o ms)) e)
  less-step o q x ys ms false false e f h = ap (λ t. cond t (x.0 ∷ live_in q ys) (live_in q ys)) f ∙ h

added-left : (o r q : ℕ) (s : List Told) → final o s ≡ false → unfinalized s (inits q s) ≡ live_in q (live s) → (test : Bool)
    → unfinalized s (cond test (o ∷ inits q s) (inits q s)) ≡ cond test (o ∷ live_in q (live s)) (live_in q (live s))
added-left o r q s new e true = test-false (final o s) (unfinalized s (inits q s)) (o ∷ unfinalized s (inits q s)) new ∙ ap (λ ms. o ∷ ms) e
added-left o r q s new e false = e

in_order_first : InOrder []
in_order_first = record { left_over = λ r. refl; known = tt }

in_order-next : (s : List Told) (e : Told) → InOrder s → Right AnyRegion s e → InOrder (e ∷ s)
in_order-next s (begun r) w h = record {
  left_over = λ q. unfinalized-same s (begun r ∷ s) (inits q s) (λ o. refl) ∙ w.left_over q;
  known = known-same s (begun r ∷ s) (live s) (λ o. refl) (λ o. refl) w.known;
}
in_order-next s (ended r) w h = record {
  left_over = λ q. unfinalized-same s (ended r ∷ s) (inits q s) (λ o. refl) ∙ w.left_over q;
  known = known-same s (ended r ∷ s) (live s) (λ o. refl) (λ o. refl) w.known;
}
in_order-next s (added o r) w h = record {
  left_over =
      λ q. unfinalized-same s (added o r ∷ s) (cond (eqb q r) (o ∷ inits q s) (inits q s)) (λ n. refl) ∙ added-left o r q s h.1 (w.left_over q) (eqb q r);
  known = (
    test-true (eqb o o) (r ∷ regions o s) (regions o s) (eq-eqb o o refl) ∙ ap (λ xs. r ∷ xs) h.0,
    h.1,
    absent-known o s (live s) h.0 w.known,
    known-added o r s (live s) (absent-known o s (live s) h.0 w.known) w.known,
  );
}
in_order-next s (finalized o) w h = record {
  left_over = λ q. unfinalized-one o s (inits q s) ∙ ap (without_one o) (w.left_over q) ∙ sym (live-one_less o q (live s));
  known = known-finalized o s (live s) w.known;
}
in_order-next s (assigned o) w h = record {
  left_over = λ q. unfinalized-same s (assigned o ∷ s) (inits q s) (λ n. refl) ∙ w.left_over q;
  known = known-same s (assigned o ∷ s) (live s) (λ n. refl) (λ n. refl) w.known;
}

-- ---- what follows of the lines

all-final : (s : List Told) (os : List ℕ) → unfinalized s os ≡ [] → list_all (λ o. final o s) os ≡ true
all-final s [] e = refl
all-final s (o ∷ os) e =
    by_test (final o s)
    (λ t. and_from (final o s) (list_all (λ n. final n s) os) t (all-final s os (sym (test-true (final o s) (unfinalized s os) (o ∷ unfinalized s os) t) ∙ e)))
    (λ f. absurd (let some : o ∷ unfinalized s os ≡ [] = sym (test-false (final o s) (unfinalized s os) (o ∷ unfinalized s os) f) ∙ e in cc))

head-same : (a b : ℕ) (ms ns : List ℕ) → a ∷ ms ≡ b ∷ ns → b ≡ a
head-same a b ms ns e = cc

newest-told : (o : ℕ) (past : List Event) (os rest : List ℕ) → unfinalized (tells past) os ≡ o ∷ rest → is_newest o os past ≡ true
newest-told o past [] rest e = absurd cc
newest-told o past (n ∷ os) rest e =
    by_test (final n (tells past))
    (λ t. ap (λ b. cond b (is_newest o os past) (eqb o n)) (tells-final n past ∙ t)
    ∙ newest-told o past os rest (sym (test-true (final n (tells past)) (unfinalized (tells past) os) (n ∷ unfinalized (tells past) os) t) ∙ e))
    (λ f. ap (λ b. cond b (is_newest o os past) (eqb o n)) (tells-final n past ∙ f)
    ∙ eq-eqb o n (head-same n o (unfinalized (tells past) os) rest
    (sym (test-false (final n (tells past)) (unfinalized (tells past) os) (n ∷ unfinalized (tells past) os) f) ∙ e)))

next-in_turn : (o : ℕ) (past : List Event) → InOrder (tells past) → (f : Finalizes (tells past) o) → is_next_in_turn o past f.region ≡ true
next-in_turn o past w f =
    and_from (is_leaving f.region past && not (is_left_before f.region past)) _
    (and_from (is_leaving f.region past) _ (tells-leaving f.region past ∙ f.leaving)
    (ap not (tells-left f.region past) ∙ not_from_false (left f.region (tells past)) f.not_left))
    (ap (λ os. is_newest o os past) (tells-inits f.region past) ∙ newest-told o past (inits f.region (tells past)) f.rest (w.left_over f.region ∙ f.newest))

in_turn : (past : List Event) (x : Event) → InOrder (tells past) → RightEvent AnyRegion (tells past) (told_event x) → is_in_turn past x ≡ true
in_turn past (line.Leave name region how) w h = ap not (tells-leaving region.0 past) ∙ not_from_false (leaving region.0 (tells past)) h
in_turn past (line.Left name region) w h =
    and_from (is_leaving region.0 past && not (is_left_before region.0 past)) _
    (and_from (is_leaving region.0 past) _ (tells-leaving region.0 past ∙ h.0)
    (ap not (tells-left region.0 past) ∙ not_from_false (left region.0 (tells past)) h.1))
    (all-same (λ o. is_final_before o past) (λ o. final o (tells past)) (inits_of region.0 past) (λ o. tells-final o past)
    ∙ ap (list_all (λ o. final o (tells past))) (tells-inits region.0 past) ∙ all-final (tells past) (inits region.0 (tells past)) (w.left_over region.0 ∙ h.2))
in_turn past (line.Init name object region declared) w h =
    and_from (eqb (length (regions_of object past)) 0) _ (ap (λ rs. eqb (length rs) 0) (tells-regions object past ∙ h.0))
    (ap not (tells-final object past) ∙ not_from_false (final object (tells past)) h.1)
in_turn past (line.Final name object) w h =
    let s = tells past in
    let n = newest-known s object h.region (live s) h.rest w.known h.newest in
    let k = live-one s object (live s) w.known (newest-live h.region object (live s) h.rest h.newest) in
    and_from (eqb (length (regions_of object past)) 1 && not (is_final_before object past)) _
    (and_from (eqb (length (regions_of object past)) 1) _ (ap (λ rs. eqb (length rs) 1) (tells-regions object past ∙ n.one))
    (ap not (tells-final object past) ∙ not_from_false (final object s) k.not_final))
    (ap (list_all (is_next_in_turn object past)) (tells-regions object past ∙ n.one)
    ∙ and_from (is_next_in_turn object past h.region) true (next-in_turn object past w h) refl)
in_turn past (line.Replace name object) w h =
    let s = tells past in
    let k = live-one s object (live s) w.known h in
    and_from (eqb (length (regions_of object past)) 1) _ (ap (λ rs. eqb (length rs) 1) (tells-regions object past ∙ k.one))
    (ap not (tells-final object past) ∙ not_from_false (final object s) k.not_final)
in_turn past _ w h = refl

-- objects that are initialized early may be initialized
weaker : (s : List Told) (e : Told) → Right NotLeaving s e → Right AnyRegion s e
weaker s (begun r) h = h
weaker s (ended r) h = h
weaker s (added o r) h = (h.0, h.1, tt)
weaker s (finalized o) h = h
weaker s (assigned o) h = h

weaker-event : (s : List Told) (e : Option Told) → RightEvent NotLeaving s e → RightEvent AnyRegion s e
weaker-event s None h = tt
weaker-event s (Some e) h = weaker s e h

pub runs_leave_in_turn : RunsLeaveInTurn
runs_leave_in_turn p script bound =
    at_each_line InOrder in_order_first (λ s e w h. in_order-next s e w (weaker s e h)) is_in_turn
    (λ past x w h. in_turn past x w (weaker-event (tells past) (told_event x) h)) (λ past reason. refl) p script bound

-- ---- the law of leaving

told-rightly : (s : List Told) (e : Option Told) → Well s → RightEvent NotLeaving s e → told_rightly s e ≡ true
told-rightly s None w h = refl
told-rightly s (Some e) w h = rightly s e w h

pub runs_leave_rightly : RunsLeaveRightly
runs_leave_rightly p script bound =
    at_each_line Well well_first well-next is_rightly_left (λ past x w h. rightly-same past x ∙ told-rightly (tells past) (told_event x) w h)
    (λ past reason. refl) p script bound
