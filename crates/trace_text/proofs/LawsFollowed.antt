-- A test that follows the lines says what a law says at each tick or at each line.
use Rattle.std.proofs.Common.{◌≡◌, ℕ, ◌<◌, ◌≤◌, Bool, true, false, cond, ◌&&◌, ◌||◌, leb, List, [], ◌∷◌}
use Rattle.std.proofs.Common.{◌++◌, Option, Some, None, IsTrue, refl, eq-eqb, ap, subst, arith, inl, inr}
use Rattle.std.proofs.lemmas.Bool.{and_parts, cases_lt, eqb-true, le-leb, leb-true, lt-leb}
use Rattle.trace_text.specs.declared.lines.TheConstants.{LAST_TICK}
use Rattle.trace_text.specs.declared.events.Event.{Event}
use Rattle.trace_text.specs.declared.events.Who.{Who}
use Rattle.trace_text.specs.declared.events.Who.TheVariants as subject
use Rattle.trace_text.specs.Queue.{TraceLine, seen_from, up_to, last_from, RisesFrom, AtEachTick, AtEachLine}
use Rattle.trace_text.specs.Queue.{follows_ticks, follows_lines, see, nothing_seen, head_of, who_of, who_eq, somebody_eq}
use Rattle.trace_text.specs.Laws.{DispatchOk, HandlersOk, Formed, AreTicksBounded, follows_dispatch, follows_handlers, follows_form}
use Rattle.trace_text.specs.Laws.{follows_order, see_releases, no_releases, is_in_order, is_agent_right, see_shape, no_shape}
use Rattle.trace_text.specs.Laws.{is_formed_next, KeepsLaws, follows_laws, follows_ceilings, follows_exclusion, follows_leaving}
use Rattle.trace_text.specs.Laws.{see_levels, no_levels, is_below_ceiling, actions_after, is_exclusive, remember, is_rightly_left}

pub last_from-ge : (tick : ℕ) (lines : List TraceLine) → RisesFrom tick lines → tick ≤ last_from tick lines
last_from-ge tick [] rises = omega arith
last_from-ge tick (line ∷ lines) rises = omega (arith, rises.0, last_from-ge line.0 lines rises.1)

either : (a b : Bool) → (a || b) ≡ true → a ≡ false → b ≡ true
either true b e f = cc
either false b e f = e

pub ticks_hold : {S : Type 0} (see : S → Event → S) (right : S → Bool) (Right : S → Type 0) → ((s : S) → right s ≡ true → Right s)
    → (tick : ℕ) (s : S) (lines : List TraceLine) → follows_ticks see right tick s lines ≡ true → (n : ℕ) → tick ≤ n → n < last_from tick lines
    → Right (seen_from see s (up_to n lines))
ticks_hold see right Right tells tick s [] e n low high = absurd (omega arith)
ticks_hold see right Right tells tick s (line ∷ lines) e n low high =
    let parts = and_parts (leb line.0 tick || right s) (follows_ticks see right line.0 (see s line.1) lines) e in
    elim (cases_lt n line.0) [
      | inl below ↦ rw (lt-leb line.0 n below) (tells s (either (leb line.0 tick) (right s) parts.0 (lt-leb line.0 tick (omega arith))))
      | inr at ↦ rw (le-leb line.0 n at) (ticks_hold see right Right tells line.0 (see s line.1) lines parts.1 n at high)
    ]

pub ticks_followed : {S : Type 0} (see : S → Event → S) (right : S → Bool) (Right : S → Type 0) → ((s : S) → Right s → right s ≡ true)
    → (tick : ℕ) (s : S) (lines : List TraceLine) → RisesFrom tick lines
    → ((n : ℕ) → tick ≤ n → n < last_from tick lines → Right (seen_from see s (up_to n lines))) → follows_ticks see right tick s lines ≡ true
ticks_followed see right Right tests tick s [] rises h = refl
ticks_followed {S} see right Right tests tick s (line ∷ lines) rises h =
    let later : follows_ticks see right line.0 (see s line.1) lines ≡ true = ticks_followed see right Right tests line.0 (see s line.1) lines rises.1
    (λ n low high.
    subst (λ (t : Bool). Right (seen_from see s (cond t (line ∷ up_to n lines) []))) (le-leb line.0 n low) (h n (omega (arith, rises.0)) high)) in
    elim (cases_lt tick line.0) [
      | inl below ↦
          let now_right : Right s =
          subst (λ (t : Bool). Right (seen_from see s (cond t (line ∷ up_to tick lines) []))) (lt-leb line.0 tick below)
          (h tick (omega arith) (omega (arith, last_from-ge line.0 lines rises.1))) in
          rw (lt-leb line.0 tick below, tests s now_right) later
      | inr at ↦ rw (le-leb line.0 tick at) later
    ]

pub lines_hold : {S : Type 0} (see : S → Event → S) (lawful : S → Event → Bool) (s : S) (lines : List TraceLine) → follows_lines see lawful s lines ≡ true
    → (front : List TraceLine) (line : TraceLine) (back : List TraceLine) → lines ≡ front ++ line ∷ back → lawful (seen_from see s front) line.1 ≡ true
lines_hold see lawful s [] e [] line back same = cc
lines_hold see lawful s [] e (first ∷ front) line back same = cc
lines_hold see lawful s (one ∷ lines) e [] line back same =
    let heads : one ≡ line = cc in
    subst (λ l. lawful s l.1 ≡ true) heads (and_parts (lawful s one.1) (follows_lines see lawful (see s one.1) lines) e).0
lines_hold see lawful s (one ∷ lines) e (first ∷ front) line back same =
    let heads : one ≡ first = cc in
    let rest : lines ≡ front ++ line ∷ back = cc in
    subst (λ l. lawful (seen_from see (see s l.1) front) line.1 ≡ true) heads
    (lines_hold see lawful (see s one.1) lines (and_parts (lawful s one.1) (follows_lines see lawful (see s one.1) lines) e).1 front line back rest)

pub lines_followed : {S : Type 0} (see : S → Event → S) (lawful : S → Event → Bool) (s : S) (lines : List TraceLine)
    → ((front : List TraceLine) (line : TraceLine) (back : List TraceLine) → lines ≡ front ++ line ∷ back → lawful (seen_from see s front) line.1 ≡ true)
    → follows_lines see lawful s lines ≡ true
lines_followed see lawful s [] h = refl
lines_followed see lawful s (line ∷ lines) h =
    rw (h [] line lines refl, lines_followed see lawful (see s line.1) lines (λ front other back e. h (line ∷ front) other back (ap (λ ls. line ∷ ls) e))) refl

who_is : (a b : Who) → who_eq a b ≡ true → a ≡ b
who_is (subject.Task a) (subject.Task b) e = ap (λ (n : ℕ). subject.Task (record { 0 = n })) (eqb-true a.0 b.0 e)
who_is (subject.Task a) subject.Agent e = cc
who_is subject.Agent (subject.Task b) e = cc
who_is subject.Agent subject.Agent e = refl

who_same : (a : Who) → who_eq a a ≡ true
who_same (subject.Task a) = eq-eqb a.0 a.0 refl
who_same subject.Agent = refl

pub somebody_is : (a b : Option Who) → somebody_eq a b ≡ true → a ≡ b
somebody_is None None e = refl
somebody_is None (Some b) e = cc
somebody_is (Some a) None e = cc
somebody_is (Some a) (Some b) e = ap (λ (w : Who). Some w) (who_is a b e)

somebody_same : (a : Option Who) → somebody_eq a a ≡ true
somebody_same None = refl
somebody_same (Some a) = who_same a

pub is_somebody : (a b : Option Who) → a ≡ b → somebody_eq a b ≡ true
is_somebody a b e = subst (λ o. somebody_eq a o ≡ true) e (somebody_same a)

-- the laws at each tick, from the first tick on
pub tells_ticks : {S : Type 0} (see : S → Event → S) (right : S → Bool) (Right : S → Type 0) (s : S) → ((s : S) → right s ≡ true → Right s)
    → ((s : S) → Right s → right s ≡ true)
    → (lines : List TraceLine) → RisesFrom 0 lines
    → (follows_ticks see right 0 s lines ≡ true → AtEachTick see s Right lines) × (AtEachTick see s Right lines → follows_ticks see right 0 s lines ≡ true)
tells_ticks see right Right s tells tests lines rises = (
  λ e tick low. ticks_hold see right Right tells 0 s lines e tick (omega arith) low,
  λ h. ticks_followed see right Right tests 0 s lines rises (λ tick low high. h tick high),
)

pub tells_lines : {S : Type 0} (see : S → Event → S) (lawful : S → Event → Bool) (s : S) (lines : List TraceLine)
    → (follows_lines see lawful s lines ≡ true → AtEachLine see s (λ s event. IsTrue (lawful s event)) lines)
    × (AtEachLine see s (λ s event. IsTrue (lawful s event)) lines → follows_lines see lawful s lines ≡ true)
tells_lines see lawful s lines = (lines_hold see lawful s lines, lines_followed see lawful s lines)

pub ticks_rise : (tick : ℕ) (lines : List TraceLine) → follows_order tick lines ≡ true → RisesFrom tick lines
ticks_rise tick [] e = tt
ticks_rise tick (line ∷ lines) e =
    let parts = and_parts (leb tick line.0 && leb line.0 LAST_TICK) (follows_order line.0 lines) e in
    (leb-true tick line.0 (and_parts (leb tick line.0) (leb line.0 LAST_TICK) parts.0).0, ticks_rise line.0 lines parts.1)

pub ticks_bounded : (tick : ℕ) (lines : List TraceLine) → follows_order tick lines ≡ true → AreTicksBounded lines
ticks_bounded tick [] e = tt
ticks_bounded tick (line ∷ lines) e =
    let parts = and_parts (leb tick line.0 && leb line.0 LAST_TICK) (follows_order line.0 lines) e in
    ((and_parts (leb tick line.0) (leb line.0 LAST_TICK) parts.0).1, ticks_bounded line.0 lines parts.1)

pub order_followed : (tick : ℕ) (lines : List TraceLine) → RisesFrom tick lines → AreTicksBounded lines → follows_order tick lines ≡ true
order_followed tick [] r b = refl
order_followed tick (line ∷ lines) r b = rw (le-leb tick line.0 r.0, b.0) (order_followed line.0 lines r.1 b.1)

pub tells_form : (lines : List TraceLine) → (follows_form lines ≡ true → Formed lines) × (Formed lines → follows_form lines ≡ true)
tells_form lines =
    let tells = tells_lines see_shape is_formed_next no_shape lines in (
      λ e. let parts = and_parts (follows_order 0 lines) (follows_lines see_shape is_formed_next no_shape lines) e in
          record { rises = ticks_rise 0 lines parts.0; bounded = ticks_bounded 0 lines parts.0; lines_formed = tells.0 parts.1 },
      λ h. rw (order_followed 0 lines h.rises h.bounded) (tells.1 h.lines_formed),
    )

pub tells_dispatch : (lines : List TraceLine) → RisesFrom 0 lines
    → (follows_dispatch lines ≡ true → DispatchOk lines) × (DispatchOk lines → follows_dispatch lines ≡ true)
tells_dispatch =
    tells_ticks see (λ sight. somebody_eq sight.runner (who_of (head_of sight.queue))) (λ sight. sight.runner ≡ who_of (head_of sight.queue)) nothing_seen
    (λ sight. somebody_is sight.runner (who_of (head_of sight.queue))) (λ sight. is_somebody sight.runner (who_of (head_of sight.queue)))

pub tells_handlers : (lines : List TraceLine) → RisesFrom 0 lines
    → (follows_handlers lines ≡ true → HandlersOk lines) × (HandlersOk lines → follows_handlers lines ≡ true)
tells_handlers lines rises =
    let order = tells_lines see_releases is_in_order no_releases lines in
    let agent = tells_ticks see_releases is_agent_right (λ state. IsTrue (is_agent_right state)) no_releases (λ state e. e) (λ state e. e) lines rises in (
      λ e. let parts = and_parts (follows_lines see_releases is_in_order no_releases lines) (follows_ticks see_releases is_agent_right 0 no_releases lines) e in
          record { in_order = order.0 parts.0; agent = agent.0 parts.1 },
      λ h. rw (order.1 h.in_order) (agent.1 h.agent),
    )

pub tells_laws : (lines : List TraceLine) → RisesFrom 0 lines → follows_laws lines ≡ true → KeepsLaws lines
tells_laws lines rises e =
    let a = and_parts (follows_dispatch lines && follows_ceilings lines && follows_exclusion lines && follows_handlers lines) (follows_leaving lines) e in
    let b = and_parts (follows_dispatch lines && follows_ceilings lines && follows_exclusion lines) (follows_handlers lines) a.0 in
    let c = and_parts (follows_dispatch lines && follows_ceilings lines) (follows_exclusion lines) b.0 in
    let d = and_parts (follows_dispatch lines) (follows_ceilings lines) c.0 in
    record {
      dispatch = (tells_dispatch lines rises).0 d.0;
      ceilings = (tells_lines see_levels is_below_ceiling no_levels lines).0 d.1;
      exclusion = (tells_lines actions_after is_exclusive [] lines).0 c.1;
      handlers = (tells_handlers lines rises).0 b.1;
      leaving = (tells_lines remember is_rightly_left [] lines).0 a.1;
    }
