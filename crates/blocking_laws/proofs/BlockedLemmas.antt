-- While a task waits at its base priority at least, one task of lower base priority runs at most, and only in its actions.
use Rattle.std.proofs.Common.{◌≡◌, ℕ, zero, suc, ◌+◌, ◌<◌, ◌≤◌, ◌⊎◌, Bool, true, false, ◌&&◌, ◌||◌, ltb}
use Rattle.std.proofs.Common.{List, Option, Some, None, refl, sym, ap, subst, ◌∙◌, arith, inl, inr}
use Rattle.std.specs.List.{list_any}
use Rattle.std.proofs.lemmas.Bool.{and_from, and_parts, cases_Bool, cases_lt, le-leb, leb-true, lt-ltb, ltb-true}
use Rattle.ann_base.specs.declared.identities.TaskNo.{TaskNo}
use Rattle.trace_text.specs.declared.events.Action.{Action}
use Rattle.trace_text.specs.declared.events.Entry.{Entry}
use Rattle.trace_text.specs.declared.events.Who.{Who}
use Rattle.trace_text.specs.declared.events.Who.TheVariants as subject
use Rattle.trace_text.specs.declared.events.Mode.TheVariants as mode
use Rattle.trace_text.specs.Laws.{ceilings_after, level_of}
use Rattle.trace_text.specs.Queue.{TraceLine, up_to, entry_of, head_of, last_from, who_eq, who_of}
use Rattle.blocking_laws.specs.BlockingLaws.{BlockedOnce, BlockedOnceOk, Waits, base_of_runner, is_above, is_from, is_lower, runs_lower}
use Rattle.blocking_laws.specs.Holds.{Hold, OneAction, OneActionOk, ceiling_at, runs_below}
use Rattle.blocking_laws.specs.MovingLaws.{KeepsProtocol, Moving, moving_after, nothing_moving, holders_stand, is_within, own_level}
use Rattle.blocking_laws.specs.Stretches.{Past, Stretch, has_open, past_at}
use Rattle.blocking_laws.proofs.QueueLemmas.{Heads, cases_who, heads, is_who, not_who, under_level, who_is}
use Rattle.blocking_laws.proofs.HoldLemmas.{Member, ceilings_last, each_member, falls_at, held_next, holding_actions}
use Rattle.blocking_laws.proofs.HoldLemmas.{holding_at, member_below, member_held, outermost, stack_up, unique}
use Rattle.blocking_laws.proofs.CalmLemmas.{any_by}
use Rattle.blocking_laws.proofs.TickLemmas.{seen_part}
use Rattle.blocking_laws.proofs.SettledLemmas.{known, explained_of, Settled, difference, first_above, head_is, leads_next, moving_at}
use Rattle.blocking_laws.proofs.SettledLemmas.{past_of, plain_at, plain_level, runner_first, settled_at, sound_at, start_of}
use Rattle.blocking_laws.proofs.WithinLemmas.{Each, Kept, SoundOf, Stands, WithinOf, each_any, each_both, known_within}

above_known : (c : ℕ) (o : Option ℕ) → is_above c o ≡ true → (b : ℕ) × ((o ≡ Some b) × (c < b))
above_known c None e = cc
above_known c (Some b) e = (b, (refl, ltb-true c b e))

from_known : (o : Option ℕ) (e : Option Entry) → is_from o e ≡ true → (b : ℕ) × ((o ≡ Some b) × ((f : Entry) × ((e ≡ Some f) × (b ≤ f.level))))
from_known None e test = cc
from_known (Some b) None test = cc
from_known (Some b) (Some f) test = (b, (refl, (f, (refl, leb-true b f.level test))))

same_task : (a b : TaskNo) → subject.Task a ≡ subject.Task b → who_eq (subject.Task a) (subject.Task b) ≡ true
same_task a b same = is_who (subject.Task a) (subject.Task b) same

lower_by : (x : TaskNo) (bases : List (ℕ × ℕ)) (o level : Option ℕ) → level_of x.0 bases ≡ level → is_lower level o ≡ true
    → (y : TaskNo) × ((Some (subject.Task x) ≡ Some (subject.Task y)) × ((b : ℕ) × ((level_of y.0 bases ≡ Some b) × ((c : ℕ) × ((o ≡ Some c) × (b < c))))))
lower_by x bases o None is e = cc
lower_by x bases o (Some b) is e = let c = above_known b o e in (x, (refl, (b, (is, (c.0, (c.1.0, c.1.1))))))

lower_known : (runner : Option Who) (bases : List (ℕ × ℕ)) (o : Option ℕ) → is_lower (base_of_runner runner bases) o ≡ true
    → (x : TaskNo) × ((runner ≡ Some (subject.Task x)) × ((b : ℕ) × ((level_of x.0 bases ≡ Some b) × ((c : ℕ) × ((o ≡ Some c) × (b < c))))))
lower_known None bases o e = cc
lower_known (Some subject.Agent) bases o e = cc
lower_known (Some (subject.Task x)) bases o e = lower_by x bases o (level_of x.0 bases) refl e

within_down : (a b : ℕ) (o : Option ℕ) → a ≤ b → is_within (Some b) o ≡ true → is_within (Some a) o ≡ true
within_down a b None low e = cc
within_down a b (Some c) low e = le-leb a c (omega (arith, low, leb-true b c e))

-- some tick of these passes the test, or none
search_ticks : (test : ℕ → Bool) (from count : ℕ)
    → ((n : ℕ) → from ≤ n → n ≤ from + count → test n ≡ false) ⊎ ((n : ℕ) × ((from ≤ n) × ((n ≤ from + count) × (test n ≡ true))))
search_ticks test from zero = elim (cases_Bool (test from)) [
  | inl holds ↦ inr (from, (omega arith, (omega arith, holds)))
  | inr fails ↦ inl (λ n low high. subst (λ k. test k ≡ false) (let e : from ≡ n = omega (arith, low, high) in e) fails)
]
search_ticks test from (suc count) = elim (search_ticks test from count) [
  | inr found ↦ inr (found.0, (found.1.0, (omega (arith, found.1.1.0), found.1.1.1)))
  | inl none ↦ elim (cases_Bool (test (from + suc count))) [
    | inl holds ↦ inr (from + suc count, (omega arith, (omega arith, holds)))
    | inr fails ↦ inl (λ n low high. elim (cases_lt n (from + suc count)) [
      | inl below ↦ none n low (omega (arith, below))
      | inr at_last ↦ subst (λ k. test k ≡ false) (let e : from + suc count ≡ n = omega (arith, high, at_last) in e) fails
    ])
  ]
]

-- the first, and one that has an object open
dominates : (m : Moving) → SoundOf m → Settled m → holders_stand m ≡ true → m.past.runner ≡ who_of (head_of m.past.queue) → (r v : Who) → m.past.runner ≡ Some r
    → has_open v m.past.actions ≡ true → who_eq r v ≡ false
    → (a b : ℕ) → own_level r m.past.bases m.agent ≡ Some a → own_level v m.past.bases m.agent ≡ Some b → b < a
dominates m sound k stand runs r v is holds differs a b own_r own_v =
    let h = head_is (head_of m.past.queue) r (sym runs ∙ is) in
    let over = first_above m k stand h.0 (heads m.past.queue sound.once h.0 h.1.0) in
    let found =
    each_any (λ (x : Action). Kept m.past.bases m.agent m.ceilings x
    × (who_eq h.0.who x.who ≡ false → (c : ℕ) → level_of x.object m.ceilings ≡ Some c → is_above c (own_level h.0.who m.past.bases m.agent) ≡ true))
    (λ x. who_eq v x.who) m.past.actions
    (each_both (Kept m.past.bases m.agent m.ceilings)
    (λ x. who_eq h.0.who x.who ≡ false → (c : ℕ) → level_of x.object m.ceilings ≡ Some c
    → is_above c (own_level h.0.who m.past.bases m.agent) ≡ true) m.past.actions k.kept over) holds in
    let own_is : v ≡ found.0.who = who_is v found.0.who found.1.1 in
    let c = (known_within (own_level found.0.who m.past.bases m.agent) (level_of found.0.object m.ceilings) found.1.0.0).1 in
    let within : is_within (Some b) (Some c.0) ≡ true =
    subst (λ o. is_within o (Some c.0) ≡ true) own_v
    (subst (λ w. is_within (own_level w m.past.bases m.agent) (Some c.0) ≡ true) (sym own_is)
    (subst (λ o. is_within (own_level found.0.who m.past.bases m.agent) o ≡ true) c.1 found.1.0.0)) in
    let another : who_eq h.0.who found.0.who ≡ false = subst (λ w. who_eq h.0.who w ≡ false) own_is (subst (λ w. who_eq w v ≡ false) (sym h.1.1) differs) in
    let high : is_above c.0 (Some a) ≡ true =
    subst (λ o. is_above c.0 o ≡ true) own_r (subst (λ w. is_above c.0 (own_level w m.past.bases m.agent) ≡ true) h.1.1 (found.1.0.1 another c.0 c.1)) in
    omega (arith, leb-true b c.0 within, ltb-true c.0 a high)

module _ (first last : ℕ) (lines : List TraceLine) (h : KeepsProtocol lines) (stretch : Stretch first last lines) where
  abbrev at : ℕ → Moving
  at n = moving_at n lines

  abbrev base_at : ℕ → TaskNo → Option ℕ
  base_at n x = level_of x.0 (at n).past.bases

  abbrev holds_at : ℕ → TaskNo → Type 0
  holds_at n x = has_open (subject.Task x) (at n).past.actions ≡ true

  abbrev runs_at : ℕ → TaskNo → Type 0
  runs_at n x = (at n).past.runner ≡ Some (subject.Task x)

  -- a tick of the stretch and of the run
  record In (n : ℕ) : Type 0 where
    low : first ≤ n
    high : n ≤ last
    below : n < last_from 0 lines

  settled : (n : ℕ) → In n → Settled (at n)
  settled n i = settled_at first last n lines h stretch i.low i.high i.below

  leads : (n : ℕ) → In n → suc n ≤ last → WithinOf (start_of (at n)) (at (suc n))
  leads n i high = (leads_next first last n lines h stretch i.low high i.below (settled n i)).0

  dominates_at : (n : ℕ) → In n → (r v : TaskNo) → runs_at n r → holds_at n v → who_eq (subject.Task r) (subject.Task v) ≡ false → (a b : ℕ)
      → base_at n r ≡ Some a → base_at n v ≡ Some b → b < a
  dominates_at n i r v runs holds differs a b own_r own_v =
      dominates (at n) (sound_at n lines h) (settled n i) (h.moves.holders n i.below) (runner_first n lines h i.below) (subject.Task r)
      (subject.Task v) runs holds differs a b own_r own_v

  -- base priorities last
  base_lasts : (n count : ℕ) (x : TaskNo) (b : ℕ) → first ≤ n → In (n + count) → base_at n x ≡ Some b → base_at (n + count) x ≡ Some b
  base_lasts n zero x b low i is = subst (λ k. base_at k x ≡ Some b) (let e : n ≡ n + 0 = omega arith in e) is
  base_lasts n (suc count) x b low i is =
      let before : In (n + count) = record { low = omega (arith, low); high = omega (arith, i.high); below = omega (arith, i.below) } in
      let led = leads (n + count) before (omega (arith, i.high)) in
      subst (λ k. base_at k x ≡ Some b) (let e : suc (n + count) ≡ n + suc count = omega arith in e) (led.lasts x.0 b (base_lasts n count x b low before is))

  base_later : (n m : ℕ) (x : TaskNo) (b : ℕ) → first ≤ n → n ≤ m → In m → base_at n x ≡ Some b → base_at m x ≡ Some b
  base_later n m x b low order i is =
      let d = difference n m order in
      subst (λ k. base_at k x ≡ Some b) d.1 (base_lasts n d.0 x b low (subst In (sym d.1) i) is)

  -- the base priority of who is placed was what it is later
  base_before : (n m : ℕ) (x : TaskNo) (b : ℕ) (e : Entry) → first ≤ n → n ≤ m → In m → entry_of (subject.Task x) (at n).past.queue ≡ Some e
      → base_at m x ≡ Some b → base_at n x ≡ Some b
  base_before n m x b e low order i found is =
      let own = known (base_at n x) ((sound_at n lines h).owned x e found) in
      let both : Some own.0 ≡ Some b = sym (base_later n m x own.0 low order i own.1) ∙ is in
      own.1 ∙ both

  head_at : (n : ℕ) → In n → (x : TaskNo) → runs_at n x → (e : Entry) × (Heads e (at n).past.queue × (e.who ≡ subject.Task x))
  head_at n i x runs =
      let e = head_is (head_of (at n).past.queue) (subject.Task x) (sym (runner_first n lines h i.below) ∙ runs) in
      (e.0, (heads (at n).past.queue (sound_at n lines h).once e.0 e.1.0, e.1.1))

  head_found : (n : ℕ) → In n → (x : TaskNo) → runs_at n x → (e : Entry) × (entry_of (subject.Task x) (at n).past.queue ≡ Some e)
  head_found n i x runs = let e = head_at n i x runs in (e.0, subst (λ w. entry_of w (at n).past.queue ≡ Some e.0) e.1.1 e.1.0.there)

  found_holder : (n : ℕ) → In n → (v : TaskNo) → holds_at n v → (e : Entry) × (entry_of (subject.Task v) (at n).past.queue ≡ Some e)
  found_holder n i v holds =
      let a = each_any (Stands (at n).past.queue) (λ x. who_eq (subject.Task v) x.who) (at n).past.actions (settled n i).placed holds in
      (a.1.0.0, subst (λ w. entry_of w (at n).past.queue ≡ Some a.1.0.0) (sym (who_is (subject.Task v) a.0.who a.1.1)) a.1.0.1)

  -- nobody stands above the first
  under_head : (n : ℕ) → In n → (x : TaskNo) → runs_at n x → (u : Who) (e : Entry) → entry_of u (at n).past.queue ≡ Some e → (f : Entry)
      → entry_of (subject.Task x) (at n).past.queue ≡ Some f → e.level ≤ f.level
  under_head n i x runs u e found f there =
      let g = head_at n i x runs in
      let both : Some g.0 ≡ Some f = sym (subst (λ w. entry_of w (at n).past.queue ≡ Some g.0) g.1.1 g.1.0.there) ∙ there in
      let one : g.0 ≡ f = cc in
      let low : e.level ≤ g.0.level = elim (cases_who u g.0.who) [
        | inl same ↦
            let own : Some g.0 ≡ Some e = sym g.1.0.there ∙ subst (λ w. entry_of w (at n).past.queue ≡ Some e) same found in
            let is : g.0 ≡ e = cc in
            subst (λ (y : Entry). y.level ≤ g.0.level) is (let r : g.0.level ≤ g.0.level = omega arith in r)
        | inr differs ↦ under_level g.0 u e (at n).past.queue (g.1.0.first u e differs found)
      ] in
      subst (λ (y : Entry). e.level ≤ y.level) one low

  -- ---- while a task waits

  module _ (waiting : Who) (level : ℕ) (begun until : ℕ) (low : first ≤ begun) (high : until ≤ last)
      (stands : (n : ℕ) → begun ≤ n → n ≤ until → n < last_from 0 lines → is_from (Some level) (entry_of waiting (at n).past.queue) ≡ true) where
    record Tick (n : ℕ) : Type 0 where
      from : begun ≤ n
      upto : n ≤ until
      below : n < last_from 0 lines

    in_of : (n : ℕ) → Tick n → In n
    in_of n i = record { low = omega (arith, low, i.from); high = omega (arith, high, i.upto); below = i.below }

    -- a task of lower base priority runs
    record Blocker (n : ℕ) : Type 0 where
      task : TaskNo
      runs : runs_at n task
      base : ℕ
      base_is : base_at n task ≡ Some base
      lower : base < level

    -- who waits stands at the level, or above it, and not above the first
    waits_under : (n : ℕ) → Tick n → (x : TaskNo) → runs_at n x → (f : Entry) → entry_of (subject.Task x) (at n).past.queue ≡ Some f → level ≤ f.level
    waits_under n i x runs f found =
        let s = from_known (Some level) (entry_of waiting (at n).past.queue) (stands n i.from i.upto i.below) in
        let both : Some s.0 ≡ Some level = sym s.1.0 in
        let same : s.0 ≡ level = cc in
        let up = under_head n (in_of n i) x runs waiting s.1.1.0 s.1.1.1.0 f found in
        omega (arith, same, up, s.1.1.1.1)

    holds_by : (n : ℕ) → Tick n → (x : TaskNo) (b : ℕ) → runs_at n x → base_at n x ≡ Some b → b < level → holds_at n x
    holds_by n i x b runs base lower = elim (cases_Bool (has_open (subject.Task x) (at n).past.actions)) [
      | inl holds ↦ holds
      | inr none ↦
          let e = head_found n (in_of n i) x runs in
          let plain = plain_level (at n) x e.0 (sound_at n lines h) (plain_at first last n lines stretch (in_of n i).low (in_of n i).high) e.1 none in
          let both : Some plain.0 ≡ Some b = sym plain.1.0 ∙ base in
          let same : plain.0 ≡ b = cc in
          absurd (omega (arith, same, waits_under n i x runs e.0 e.1, plain.1.1.0, lower))
    ]

    blocker_holds : (n : ℕ) → Tick n → (k : Blocker n) → holds_at n k.task
    blocker_holds n i k = holds_by n i k.task k.base k.runs k.base_is k.lower

    -- and has had an action open since
    held_before : (n count m : ℕ) → Tick n → (k : Blocker n) → m + count ≡ n → begun ≤ m → holds_at m k.task
    held_before n zero m i k sum from = subst (λ j. holds_at j k.task) (let e : n ≡ m = omega (arith, sum) in e) (blocker_holds n i k)
    held_before n (suc count) m i k sum from =
        let after = held_before n count (suc m) i k (omega (arith, sum)) (omega (arith, from)) in
        let here : Tick m = record { from = from; upto = omega (arith, sum, i.upto); below = omega (arith, sum, i.below) } in
        let led = leads m (in_of m here) (omega (arith, sum, i.upto, high)) in
        elim (led.opens (subject.Task k.task) after) [
          | inl before ↦ before
          | inr runs ↦
              let e = head_found m (in_of m here) k.task runs in
              let base = base_before m n k.task k.base e.0 (omega (arith, low, from)) (omega (arith, sum)) (in_of n i) e.1 k.base_is in
              holds_by m here k.task k.base runs base k.lower
        ]

    held_from : (n m : ℕ) → Tick n → (k : Blocker n) → begun ≤ m → m ≤ n → holds_at m k.task
    held_from n m i k from upto = let d = difference m n upto in held_before n d.0 m i k d.1 from

    -- two of them have actions open at each of these ticks, and did not both before
    record Both (x y : TaskNo) : Type 0 where
      tick : ℕ
      from : first ≤ tick
      under : tick < begun
      then : (n : ℕ) → tick < n → n ≤ begun → holds_at n x × holds_at n y
      not_yet : (holds_at tick x × holds_at tick y) → ⊥

    both_back : (count n : ℕ) (x y : TaskNo) → first + count ≡ n → n ≤ begun → begun < last_from 0 lines → begun ≤ last
        → ((k : ℕ) → n ≤ k → k ≤ begun → holds_at k x × holds_at k y) → Both x y
    both_back zero n x y sum upto below high_begun all =
        let at_first = (all n (omega arith) upto).0 in
        let is : first ≡ n = omega (arith, sum) in
        let none : has_open (subject.Task x) (at first).past.actions ≡ false =
        ap (λ (past : Past). has_open (subject.Task x) past.actions) (past_of first lines) ∙ ap (has_open (subject.Task x)) stretch.free in
        let wrong : true ≡ false = sym (subst (λ k. holds_at k x) (sym is) at_first) ∙ none in
        cc
    both_back (suc count) n x y sum upto below high_begun all =
        let before : ℕ = first + count in
        let next : suc (first + count) ≡ n = omega (arith, sum) in
        elim (cases_Bool (has_open (subject.Task x) (at (first + count)).past.actions && has_open (subject.Task y) (at (first + count)).past.actions)) [
          | inl still ↦
              let parts =
              and_parts (has_open (subject.Task x) (at (first + count)).past.actions) (has_open (subject.Task y) (at (first + count)).past.actions) still in
              both_back count (first + count) x y refl (omega (arith, next, upto)) below high_begun
              (λ k from to. elim (cases_lt (first + count) k) [
                | inl later ↦ all k (omega (arith, next, later)) to
                | inr not_later ↦ subst (λ j. holds_at j x × holds_at j y) (let e : first + count ≡ k = omega (arith, from, not_later) in e) parts
              ])
          | inr ended ↦ record {
            tick = first + count;
            from = omega arith;
            under = omega (arith, next, upto);
            then = λ k from to. all k (omega (arith, next, from)) to;
            not_yet =
                λ both. let wrong : true ≡ false =
                sym (and_from (has_open (subject.Task x) (at (first + count)).past.actions)
                (has_open (subject.Task y) (at (first + count)).past.actions) both.0 both.1)
                ∙ ended in
                cc;
          }
        ]

    -- the first stays where it stood until it runs: below the one that waits, and behind the second
    not_runner : (n : ℕ) → Tick n → (kx : Blocker n) → (m : ℕ) → Tick m → (y : TaskNo) (by : ℕ) → base_at m y ≡ Some by → n ≤ m → by < kx.base
        → (b : Both kx.task y) → who_eq (subject.Task y) (subject.Task kx.task) ≡ false → (e : Entry) → e.level ≤ kx.base
        → (j : ℕ) → b.tick < j → j ≤ m → entry_of (subject.Task y) (at j).past.queue ≡ Some e → runs_at j y → false ≡ true
    not_runner n i kx m im y by own order less b differs e level_low j after upto found runs =
        let in_j : In j = record { low = omega (arith, b.from, after); high = omega (arith, upto, im.upto, high); below = omega (arith, upto, im.below) } in
        elim (cases_lt n j) [
          | inr not_later ↦
              let holds : holds_at j kx.task = elim (cases_lt begun j) [
                | inl in_time ↦ held_from n j i kx (omega (arith, in_time)) not_later
                | inr early ↦ (b.then j after early).0
              ] in
              let base_y = base_before j m y by e in_j.low upto (in_of m im) found own in
              let stood = found_holder j in_j kx.task holds in
              let base_x = base_before j n kx.task kx.base stood.0 in_j.low not_later (in_of n i) stood.1 kx.base_is in
              absurd (omega (arith, less, dominates_at j in_j y kx.task runs holds differs by kx.base base_y base_x))
          | inl later ↦
              let here : Tick j = record { from = omega (arith, i.from, later); upto = omega (arith, upto, im.upto); below = in_j.below } in
              absurd (omega (arith, waits_under j here y runs e found, level_low, kx.lower))
        ]

    -- the entry of the first up to a later tick
    unmoved : (n : ℕ) → Tick n → (kx : Blocker n) → (m : ℕ) → Tick m → (ky : Blocker m) → n ≤ m → ky.base < kx.base
        → (b : Both kx.task ky.task) → who_eq (subject.Task ky.task) (subject.Task kx.task) ≡ false → (e : Entry) → e.level ≤ kx.base
        → entry_of (subject.Task ky.task) (at b.tick).past.queue ≡ Some e → runs_at b.tick kx.task
        → (count j : ℕ) → b.tick + count ≡ j → j ≤ m → entry_of (subject.Task ky.task) (at j).past.queue ≡ Some e
    unmoved n i kx m im ky order less b differs e level_low there runs zero j sum upto =
        subst (λ k. entry_of (subject.Task ky.task) (at k).past.queue ≡ Some e) (let same : b.tick ≡ j = omega (arith, sum) in same) there
    unmoved n i kx m im ky order less b differs e level_low there runs (suc count) j sum upto =
        let before : entry_of (subject.Task ky.task) (at (b.tick + count)).past.queue ≡ Some e =
        unmoved n i kx m im ky order less b differs e level_low there runs count (b.tick + count) refl (omega (arith, sum, upto)) in
        let in_before : In (b.tick + count) =
        record { low = omega (arith, b.from); high = omega (arith, sum, upto, im.upto, high); below = omega (arith, sum, upto, im.below) } in
        let led = leads (b.tick + count) in_before (omega (arith, sum, upto, im.upto, high)) in
        let next : suc (b.tick + count) ≡ j = omega (arith, sum) in
        let holds : holds_at (suc (b.tick + count)) ky.task = elim (cases_lt begun (suc (b.tick + count))) [
          | inl later ↦ held_from m (suc (b.tick + count)) im ky (omega (arith, later)) (omega (arith, next, upto))
          | inr early ↦ (b.then (suc (b.tick + count)) (omega arith) early).1
        ] in
        let not_run : (at (b.tick + count)).past.runner ≡ Some (subject.Task ky.task) → ⊥ = λ run. elim (cases_lt b.tick (b.tick + count)) [
          | inl after ↦ let wrong : false ≡ true =
              not_runner n i kx m im ky.task ky.base ky.base_is order less b differs e level_low (b.tick + count) after
              (omega (arith, next, upto)) before run in cc
          | inr not_after ↦
              let same : b.tick + count ≡ b.tick = omega (arith, not_after) in
              let run_first : runs_at b.tick ky.task = subst (λ k. runs_at k ky.task) same run in
              let both : Some (subject.Task kx.task) ≡ Some (subject.Task ky.task) = sym runs ∙ run_first in
              let one : subject.Task kx.task ≡ subject.Task ky.task = cc in
              let wrong : true ≡ false = sym (same_task ky.task kx.task (sym one)) ∙ differs in
              cc
        ] in
        subst (λ k. entry_of (subject.Task ky.task) (at k).past.queue ≡ Some e) next (led.stays (subject.Task ky.task) not_run holds ∙ before)

    second : (n m : ℕ) → Tick n → Tick m → n ≤ m → (kx : Blocker n) (ky : Blocker m) → who_eq (subject.Task ky.task) (subject.Task kx.task) ≡ false
        → (b : Both kx.task ky.task) → In b.tick → holds_at b.tick kx.task → runs_at b.tick ky.task → false ≡ true
    second n m i im order kx ky differs b in_b holds_x runs_y =
        let ex = found_holder b.tick in_b kx.task holds_x in
        let ey = head_found b.tick in_b ky.task runs_y in
        let base_x = base_before b.tick n kx.task kx.base ex.0 b.from (omega (arith, b.under, i.from)) (in_of n i) ex.1 kx.base_is in
        let base_y = base_before b.tick m ky.task ky.base ey.0 b.from (omega (arith, b.under, im.from)) (in_of m im) ey.1 ky.base_is in
        let then : kx.base < ky.base = dominates_at b.tick in_b ky.task kx.task runs_y holds_x differs ky.base kx.base base_y base_x in
        let holds_y = held_from m n im ky i.from order in
        let fy = found_holder n (in_of n i) ky.task holds_y in
        let later_y = base_before n m ky.task ky.base fy.0 (in_of n i).low order (in_of m im) fy.1 ky.base_is in
        let later : ky.base < kx.base =
        dominates_at n (in_of n i) kx.task ky.task kx.runs holds_y
        (not_who (subject.Task ky.task) (subject.Task kx.task) differs) kx.base ky.base kx.base_is later_y in
        absurd (omega (arith, then, later))

    first_one : (n m : ℕ) → Tick n → Tick m → n ≤ m → (kx : Blocker n) (ky : Blocker m) → who_eq (subject.Task ky.task) (subject.Task kx.task) ≡ false
        → (b : Both kx.task ky.task) → In b.tick → runs_at b.tick kx.task → holds_at b.tick ky.task → false ≡ true
    first_one n m i im order kx ky differs b in_b runs_x holds_y = elim (cases_Bool (has_open (subject.Task kx.task) (at b.tick).past.actions)) [
      | inl holds_x ↦ absurd (b.not_yet (holds_x, holds_y))
      | inr none ↦
          let ex = head_found b.tick in_b kx.task runs_x in
          let ey = found_holder b.tick in_b ky.task holds_y in
          let base_x = base_before b.tick n kx.task kx.base ex.0 b.from (omega (arith, b.under, i.from)) (in_of n i) ex.1 kx.base_is in
          let base_y = base_before b.tick m ky.task ky.base ey.0 b.from (omega (arith, b.under, im.from)) (in_of m im) ey.1 ky.base_is in
          let less : ky.base < kx.base =
          dominates_at b.tick in_b kx.task ky.task runs_x holds_y
          (not_who (subject.Task ky.task) (subject.Task kx.task) differs) kx.base ky.base base_x base_y in
          let plain = plain_level (at b.tick) kx.task ex.0 (sound_at b.tick lines h) (plain_at first last b.tick lines stretch in_b.low in_b.high) ex.1 none in
          let both : Some plain.0 ≡ Some kx.base = sym plain.1.0 ∙ base_x in
          let same : plain.0 ≡ kx.base = cc in
          let up = under_head b.tick in_b kx.task runs_x (subject.Task ky.task) ey.0 ey.1 ex.0 ex.1 in
          let level_low : ey.0.level ≤ kx.base = omega (arith, up, plain.1.1.0, same) in
          let count = difference b.tick m (omega (arith, b.under, im.from)) in
          let found = unmoved n i kx m im ky order less b differs ey.0 level_low ey.1 runs_x count.0 m count.1 (let r : m ≤ m = omega arith in r) in
          not_runner n i kx m im ky.task ky.base ky.base_is order less b differs ey.0 level_low m (omega (arith, b.under, im.from))
          (let r : m ≤ m = omega arith in r) found ky.runs
    ]

    -- two tasks do not block one
    not_two : (n m : ℕ) → Tick n → Tick m → n ≤ m → (kx : Blocker n) (ky : Blocker m) → who_eq (subject.Task ky.task) (subject.Task kx.task) ≡ false
        → false ≡ true
    not_two n m i im order kx ky differs =
        let x = kx.task in
        let y = ky.task in
        let count = difference first begun low in
        let b : Both kx.task ky.task =
        both_back count.0 begun kx.task ky.task count.1 (let r : begun ≤ begun = omega arith in r) (omega (arith, i.from, i.below))
        (omega (arith, i.from, i.upto, high))
        (λ k from to. (held_from n k i kx from (omega (arith, to, i.from)), held_from m k im ky from (omega (arith, to, im.from)))) in
        let in_b : In b.tick = record { low = b.from; high = omega (arith, b.under, i.from, i.upto, high); below = omega (arith, b.under, i.from, i.below) } in
        let led = leads b.tick in_b (omega (arith, b.under, i.from, i.upto, high)) in
        let then = b.then (suc b.tick) (omega arith) b.under in
        elim (led.opens (subject.Task kx.task) then.0) [
          | inl holds_x ↦ elim (led.opens (subject.Task ky.task) then.1) [
            | inl holds_y ↦ absurd (b.not_yet (holds_x, holds_y))
            | inr runs_y ↦ second n m i im order kx ky differs b in_b holds_x runs_y
          ]
          | inr runs_x ↦ elim (led.opens (subject.Task ky.task) then.1) [
            | inl holds_y ↦ first_one n m i im order kx ky differs b in_b runs_x holds_y
            | inr runs_y ↦
                let both : Some (subject.Task kx.task) ≡ Some (subject.Task ky.task) = sym runs_x ∙ runs_y in
                let one : subject.Task kx.task ≡ subject.Task ky.task = cc in
                sym differs ∙ same_task ky.task kx.task (sym one)
          ]
        ]

    -- who blocks at two ticks is one
    one_blocker : (n m : ℕ) → Tick n → Tick m → (kx : Blocker n) (ky : Blocker m) → subject.Task kx.task ≡ subject.Task ky.task
    one_blocker n m i im kx ky = elim (cases_who (subject.Task kx.task) (subject.Task ky.task)) [
      | inl same ↦ same
      | inr differs ↦ elim (cases_lt n m) [
        | inl earlier ↦ let wrong : false ≡ true =
            not_two n m i im (omega (arith, earlier)) kx ky (not_who (subject.Task kx.task) (subject.Task ky.task) differs) in cc
        | inr later ↦ let wrong : false ≡ true = not_two m n im i later ky kx differs in cc
      ]
    ]

    blocker_of : (n : ℕ) → runs_below level (past_at n lines) ≡ true → Blocker n
    blocker_of n lower =
        let here : is_lower (base_of_runner (at n).past.runner (at n).past.bases) (Some level) ≡ true =
        subst (λ past. runs_below level past ≡ true) (sym (past_of n lines)) lower in
        let k = lower_known (at n).past.runner (at n).past.bases (Some level) here in
        let both : Some k.1.1.1.1.0 ≡ Some level = sym k.1.1.1.1.1.0 in
        let same : k.1.1.1.1.0 ≡ level = cc in
        record { task = k.0; runs = k.1.0; base = k.1.1.0; base_is = k.1.1.1.0; lower = omega (arith, same, k.1.1.1.1.1.1) }

    abbrev blocks : ℕ → Bool
    blocks n = ltb n (last_from 0 lines) && runs_below level (past_at n lines)

    tick_of : (n : ℕ) → begun ≤ n → n ≤ until → n < last_from 0 lines → Tick n
    tick_of n from upto below = record { from = from; upto = upto; below = below }

    abbrev Never : Type 0
    Never = (n : ℕ) → begun ≤ n → n ≤ until → n < last_from 0 lines → runs_below level (past_at n lines) ≡ false

    never : ((n : ℕ) → begun ≤ n → n ≤ until → blocks n ≡ false) → Never
    never none n from upto below = elim (cases_Bool (runs_below level (past_at n lines))) [
      | inr not_lower ↦ not_lower
      | inl lower ↦ let wrong : true ≡ false =
          sym (and_from (ltb n (last_from 0 lines)) (runs_below level (past_at n lines)) (lt-ltb n (last_from 0 lines) below) lower) ∙ none n from upto in cc
    ]

    -- somebody blocks at some tick, or nobody at any
    some_blocker : begun ≤ until → Never ⊎ ((n : ℕ) × (Tick n × Blocker n))
    some_blocker order =
        let d = difference begun until order in
        elim (search_ticks blocks begun d.0) [
          | inl none ↦ inl (never (λ n from upto. none n from (omega (arith, upto, d.1))))
          | inr found ↦
              let parts = and_parts (ltb found.0 (last_from 0 lines)) (runs_below level (past_at found.0 lines)) found.1.1.1 in
              inr (
                found.0,
                (tick_of found.0 found.1.0 (omega (arith, found.1.1.0, d.1)) (ltb-true found.0 (last_from 0 lines) parts.0), blocker_of found.0 parts.1),
              )
        ]

    -- who waits from the first tick on is never blocked
    never_at_first : begun ≡ first → Never
    never_at_first same m from upto below = elim (cases_Bool (runs_below level (past_at m lines))) [
      | inr not_lower ↦ not_lower
      | inl lower ↦
          let im = tick_of m from upto below in
          let other = blocker_of m lower in
          let holds : has_open (subject.Task other.task) (at first).past.actions ≡ true =
          subst (λ j. holds_at j other.task) same (held_from m begun im other (let r : begun ≤ begun = omega arith in r) from) in
          let none : has_open (subject.Task other.task) (at first).past.actions ≡ false =
          ap (λ (past : Past). has_open (subject.Task other.task) past.actions) (past_of first lines)
          ∙ ap (has_open (subject.Task other.task)) stretch.free in
          let wrong : true ≡ false = sym holds ∙ none in
          cc
    ]

    runs_one : (n : ℕ) → Tick n → (k : Blocker n) → (m : ℕ) → begun ≤ m → m ≤ until → m < last_from 0 lines → runs_below level (past_at m lines) ≡ true
        → (past_at m lines).runner ≡ Some (subject.Task k.task)
    runs_one n i k m from upto below lower =
        let other = blocker_of m lower in
        sym (ap (λ (past : Past). past.runner) (past_of m lines)) ∙ other.runs ∙ ap Some (one_blocker m n (tick_of m from upto below) i other k)

    inside_one : (n : ℕ) → Tick n → (k : Blocker n) → (m : ℕ) → begun ≤ m → m ≤ until → m < last_from 0 lines → runs_below level (past_at m lines) ≡ true
        → (j : ℕ) → begun ≤ j → j ≤ m → has_open (subject.Task k.task) (past_at j lines).actions ≡ true
    inside_one n i k m from upto below lower j from_j to_j =
        let im = tick_of m from upto below in
        let other = blocker_of m lower in
        subst (λ past. has_open (subject.Task k.task) past.actions ≡ true) (past_of j lines)
        (subst (λ w. has_open w (at j).past.actions ≡ true) (one_blocker m n im i other k) (held_from m j im other from_j to_j))

    -- ---- the one action

    abbrev held_at : ℕ → List Hold
    held_at n = (holding_at n lines).holds

    -- an action of somebody on an object whose ceiling is not below the level
    abbrev is_good : ℕ → Who → Action → Bool
    is_good n w a = who_eq w a.who && is_within (Some level) (level_of a.object (at n).ceilings)

    some_good : (n : ℕ) → Tick n → (k : Blocker n) → list_any (is_good n (subject.Task k.task)) (at n).past.actions ≡ true
    some_good n i k =
        let e = head_found n (in_of n i) k.task k.runs in
        let explained = explained_of (at n) (settled n (in_of n i)) (h.moves.low n i.below) k.task e.0 e.1 (blocker_holds n i k) in
        let over = waits_under n i k.task k.runs e.0 e.1 in
        elim (cases_Bool (is_within (Some e.0.level) (base_at n k.task))) [
          | inl own ↦
              let low_own : is_within (Some e.0.level) (Some k.base) ≡ true = subst (λ o. is_within (Some e.0.level) o ≡ true) k.base_is own in
              absurd (omega (arith, leb-true e.0.level k.base low_own, over, k.lower))
          | inr not_own ↦
              let by_object : list_any (λ (x : Action). who_eq (subject.Task k.task) x.who && is_within (Some e.0.level) (level_of x.object (at n).ceilings))
              (at n).past.actions
              ≡ true =
              sym (ap (λ b. b
              || list_any (λ (x : Action). who_eq (subject.Task k.task) x.who && is_within (Some e.0.level) (level_of x.object (at n).ceilings))
              (at n).past.actions) not_own)
              ∙ explained in
              any_by (λ (x : Action). who_eq (subject.Task k.task) x.who && is_within (Some e.0.level) (level_of x.object (at n).ceilings))
              (is_good n (subject.Task k.task)) (at n).past.actions by_object
              (λ x is.
              let parts = and_parts (who_eq (subject.Task k.task) x.who) (is_within (Some e.0.level) (level_of x.object (at n).ceilings)) is in
              and_from (who_eq (subject.Task k.task) x.who) (is_within (Some level) (level_of x.object (at n).ceilings)) parts.0
              (within_down level e.0.level (level_of x.object (at n).ceilings) over parts.1))
        ]

    -- the first that began of these
    record Outer (n : ℕ) (k : Blocker n) : Type 0 where
      hold : Hold
      there : Member hold (held_at n)
      good : is_good n (subject.Task k.task) hold.action ≡ true
      least : (y : Hold) → Member y (held_at n) → is_good n (subject.Task k.task) y.action ≡ true → hold.begun ≤ y.begun

    outer : (n : ℕ) → Tick n → (k : Blocker n) → Outer n k
    outer n i k =
        let z =
        outermost (is_good n (subject.Task k.task)) (holding_at n lines).count (held_at n) (falls_at n lines)
        (subst (λ xs. list_any (is_good n (subject.Task k.task)) xs ≡ true) (sym (holding_actions n lines)) (some_good n i k)) in
        record { hold = z.0; there = z.1.0; good = z.1.1.0; least = z.1.1.1 }

    good_later : (n m : ℕ) → n ≤ m → (w : Who) (a : Action) → is_good n w a ≡ true → is_good m w a ≡ true
    good_later n m order w a good =
        let parts = and_parts (who_eq w a.who) (is_within (Some level) (level_of a.object (at n).ceilings)) good in
        let c = (known_within (Some level) (level_of a.object (at n).ceilings) parts.1).1 in
        let d = difference n m order in
        let later : level_of a.object (at m).ceilings ≡ Some c.0 =
        subst (λ k. level_of a.object (at k).ceilings ≡ Some c.0) d.1 (ceilings_last n d.0 a.object c.0 lines h c.1) in
        and_from (who_eq w a.who) (is_within (Some level) (level_of a.object (at m).ceilings)) parts.0
        (ap (λ o. is_within (Some level) o) (later ∙ sym c.1) ∙ parts.1)

    good_before : (n m : ℕ) → In n → n ≤ m → (w : Who) (x : Hold) → Member x (held_at n) → is_good m w x.action ≡ true → is_good n w x.action ≡ true
    good_before n m i order w x member good =
        let parts = and_parts (who_eq w x.action.who) (is_within (Some level) (level_of x.action.object (at m).ceilings)) good in
        let kept =
        each_member (Kept (at n).past.bases (at n).agent (at n).ceilings) x (held_at n)
        (subst (Each (Kept (at n).past.bases (at n).agent (at n).ceilings)) (sym (holding_actions n lines)) (settled n i).kept) member in
        let c = (known_within (own_level x.action.who (at n).past.bases (at n).agent) (level_of x.action.object (at n).ceilings) kept).1 in
        let d = difference n m order in
        let later : level_of x.action.object (at m).ceilings ≡ Some c.0 =
        subst (λ k. level_of x.action.object (at k).ceilings ≡ Some c.0) d.1 (ceilings_last n d.0 x.action.object c.0 lines h c.1) in
        and_from (who_eq w x.action.who) (is_within (Some level) (level_of x.action.object (at n).ceilings)) parts.0
        (ap (λ o. is_within (Some level) o) (c.1 ∙ sym later) ∙ parts.1)

    good_who : (n : ℕ) (w : Who) (a : Action) → is_good n w a ≡ true → w ≡ a.who
    good_who n w a good = who_is w a.who (and_parts (who_eq w a.who) (is_within (Some level) (level_of a.object (at n).ceilings)) good).0

    -- it cannot have begun later: then another such action was open before
    began_late : (j n : ℕ) (i : Tick n) (k : Blocker n) (o : Outer n k) → begun ≤ j → j < n → ((q : ℕ) → j < q → q ≤ n → Member o.hold (held_at q))
        → (holding_at j lines).count ≤ o.hold.begun → (at j).past.runner ≡ Some o.hold.action.who → Member o.hold (held_at j)
    began_late j n i k o from before all began runs =
        let whose = good_who n (subject.Task k.task) o.hold.action o.good in
        let runs_k : runs_at j k.task = runs ∙ ap Some (sym whose) in
        let here : Tick j = record { from = from; upto = omega (arith, before, i.upto); below = omega (arith, before, i.below) } in
        let e = head_found j (in_of j here) k.task runs_k in
        let base = base_before j n k.task k.base e.0 (in_of j here).low (omega (arith, before)) (in_of n i) e.1 k.base_is in
        let l : Blocker j = record { task = k.task; runs = runs_k; base = k.base; base_is = base; lower = k.lower } in
        let p = outer j here l in
        let below = member_below p.hold (holding_at j lines).count (held_at j) (falls_at j lines) p.there in
        let same : p.hold.action.who ≡ o.hold.action.who = sym (good_who j (subject.Task k.task) p.hold.action p.good) ∙ whose in
        let next : Member p.hold (held_at (suc j)) =
        (held_next j lines h).1.stack o.hold p.hold (all (suc j) (omega arith) before) p.there same (omega (arith, below, began)) in
        let d = difference (suc j) n before in
        let at_n : Member p.hold (held_at n) =
        subst (λ q. Member p.hold (held_at q)) d.1
        (stack_up (suc j) d.0 o.hold p.hold lines h same (omega (arith, below, began)) next (λ q low_q high_q. all q low_q (omega (arith, d.1, high_q)))) in
        absurd (omega (arith, o.least p.hold at_n (good_later j n (omega (arith, before)) (subject.Task k.task) p.hold.action p.good), below, began))

    -- it has been open since the first of the ticks
    back : (steps j n : ℕ) (i : Tick n) (k : Blocker n) (o : Outer n k) → begun + steps ≡ j → j ≤ n → ((q : ℕ) → j ≤ q → q ≤ n → Member o.hold (held_at q))
        → (q : ℕ) → begun ≤ q → q ≤ n → Member o.hold (held_at q)
    back zero j n i k o sum order all q from to = all q (omega (arith, sum, from)) to
    back (suc steps) j n i k o sum order all q from to =
        let next : suc (begun + steps) ≡ j = omega (arith, sum) in
        let at_next : Member o.hold (held_at (suc (begun + steps))) = all (suc (begun + steps)) (omega (arith, next)) (omega (arith, next, order)) in
        let led = (held_next (begun + steps) lines h).1 in
        let here : Member o.hold (held_at (begun + steps)) = elim (cases_lt o.hold.begun (holding_at (begun + steps) lines).count) [
          | inl before ↦ led.old o.hold at_next before
          | inr began ↦
              began_late (begun + steps) n i k o (omega arith) (omega (arith, next, order)) (λ p low_p high_p. all p (omega (arith, next, low_p)) high_p) began
              (led.new o.hold at_next began)
        ] in
        back steps (begun + steps) n i k o refl (omega (arith, next, order)) (λ p low_p high_p. elim (cases_lt (begun + steps) p) [
          | inl later ↦ all p (omega (arith, next, later)) high_p
          | inr not_later ↦ subst (λ r. Member o.hold (held_at r)) (let e : begun + steps ≡ p = omega (arith, low_p, not_later) in e) here
        ]) q from to

    since : (n : ℕ) (i : Tick n) (k : Blocker n) (o : Outer n k) → (q : ℕ) → begun ≤ q → q ≤ n → Member o.hold (held_at q)
    since n i k o =
        let d = difference begun n i.from in
        back d.0 n n i k o d.1 (omega arith)
        (λ q low_q high_q. subst (λ r. Member o.hold (held_at r)) (let e : n ≡ q = omega (arith, low_q, high_q) in e) o.there)

    -- at all ticks it is one action
    one_hold : (n m : ℕ) → Tick n → Tick m → n ≤ m → (k : Blocker n) (l : Blocker m) (o : Outer n k) (p : Outer m l) → o.hold ≡ p.hold
    one_hold n m i im order k l o p =
        let same : subject.Task k.task ≡ subject.Task l.task = one_blocker n m i im k l in
        let at_n = since m im l p n i.from order in
        let good_n = subst (λ w. is_good n w p.hold.action ≡ true) (sym same) (good_before n m (in_of n i) order (subject.Task l.task) p.hold at_n p.good) in
        let low_p = o.least p.hold at_n good_n in
        elim (cases_lt o.hold.begun p.hold.begun) [
          | inr not_before ↦ unique o.hold p.hold (holding_at n lines).count (held_at n) (falls_at n lines) o.there at_n (omega (arith, low_p, not_before))
          | inl older ↦
              let d = difference n m order in
              let whose : o.hold.action.who ≡ p.hold.action.who =
              sym (good_who n (subject.Task k.task) o.hold.action o.good) ∙ same ∙ good_who m (subject.Task l.task) p.hold.action p.good in
              let at_m : Member o.hold (held_at m) =
              subst (λ q. Member o.hold (held_at q)) d.1
              (stack_up n d.0 p.hold o.hold lines h whose older o.there
              (λ q low_q high_q. since m im l p q (omega (arith, i.from, low_q)) (omega (arith, d.1, high_q)))) in
              let good_m = subst (λ w. is_good m w o.hold.action ≡ true) same (good_later n m order (subject.Task k.task) o.hold.action o.good) in
              absurd (omega (arith, p.least o.hold at_m good_m, older))
        ]

    any_hold : (n m : ℕ) → Tick n → Tick m → (k : Blocker n) (l : Blocker m) (o : Outer n k) (p : Outer m l) → o.hold ≡ p.hold
    any_hold n m i im k l o p = elim (cases_lt n m) [
      | inl earlier ↦ one_hold n m i im (omega (arith, earlier)) k l o p
      | inr later ↦ sym (one_hold m n im i later l k p o)
    ]

    ceilings_of : (n : ℕ) (object : ℕ) → level_of object (at n).ceilings ≡ ceiling_at object n lines
    ceilings_of n object =
        ap (level_of object) (seen_part moving_after ceilings_after (λ (m : Moving). m.ceilings) (λ m event. refl) nothing_moving (up_to n lines))

    one_action : begun ≤ until → OneAction level first begun until lines
    one_action order = elim (some_blocker order) [
      | inl none ↦ record {
        hold = record { action = record { object = 0; who = subject.Agent; mode = mode.Read }; begun = 0 };
        runs = λ n from upto below lower. let wrong : true ≡ false = sym lower ∙ none n from upto below in cc;
        ceiling = λ n from upto below lower. let wrong : true ≡ false = sym lower ∙ none n from upto below in cc;
        inside = λ n from upto below lower. let wrong : true ≡ false = sym lower ∙ none n from upto below in cc;
        at_first = λ same. none;
      }
      | inr found ↦
          let i = found.1.0 in
          let k = found.1.1 in
          let o = outer found.0 i k in
          record {
            hold = o.hold;
            runs =
                λ m from upto below lower. runs_one found.0 i k m from upto below lower ∙ ap Some (good_who found.0 (subject.Task k.task) o.hold.action o.good);
            ceiling = λ m from upto below lower.
                let im = tick_of m from upto below in
                let l = blocker_of m lower in
                let p = outer m im l in
                let good : is_good m (subject.Task l.task) o.hold.action ≡ true =
                subst (λ (z : Hold). is_good m (subject.Task l.task) z.action ≡ true) (sym (any_hold found.0 m i im k l o p)) p.good in
                subst (λ c. is_within (Some level) c ≡ true) (ceilings_of m o.hold.action.object)
                (and_parts (who_eq (subject.Task l.task) o.hold.action.who)
                (is_within (Some level) (level_of o.hold.action.object (at m).ceilings)) good).1;
            inside = λ m from upto below lower. λ j from_j to_j.
                let im = tick_of m from upto below in
                let l = blocker_of m lower in
                let p = outer m im l in
                member_held o.hold (held_at j) (subst (λ z. Member z (held_at j)) (sym (any_hold found.0 m i im k l o p)) (since m im l p j from_j to_j));
            at_first = λ same m from upto below. never_at_first same m from upto below;
          }
    ]

  -- ---- a task that waits at its base priority

  module _ (t : TaskNo) (begun until : ℕ) (low : first ≤ begun) (high : until ≤ last) (order : begun ≤ until) (waits : Waits t begun until lines) where
    stands_first : (b : ℕ)
        × ((level_of t.0 (past_at begun lines).bases ≡ Some b)
        × ((f : Entry) × ((entry_of (subject.Task t) (past_at begun lines).queue ≡ Some f) × (b ≤ f.level))))
    stands_first =
        from_known (level_of t.0 (past_at begun lines).bases) (entry_of (subject.Task t) (past_at begun lines).queue) (waits begun (omega arith) order)

    base_is_at : (n : ℕ) → begun ≤ n → n ≤ until → n < last_from 0 lines → level_of t.0 (past_at n lines).bases ≡ Some stands_first.0
    base_is_at n from upto below =
        let at_begun : base_at begun t ≡ Some stands_first.0 = ap (λ (past : Past). level_of t.0 past.bases) (past_of begun lines) ∙ stands_first.1.0 in
        sym (ap (λ (past : Past). level_of t.0 past.bases) (past_of n lines))
        ∙ base_later begun n t stands_first.0 low from (record { low = omega (arith, low, from); high = omega (arith, high, upto); below = below }) at_begun

    stands_at : (n : ℕ) → begun ≤ n → n ≤ until → n < last_from 0 lines → is_from (Some stands_first.0) (entry_of (subject.Task t) (at n).past.queue) ≡ true
    stands_at n from upto below =
        subst (λ past. is_from (Some stands_first.0) (entry_of (subject.Task t) past.queue) ≡ true) (sym (past_of n lines))
        (subst (λ o. is_from o (entry_of (subject.Task t) (past_at n lines).queue) ≡ true) (base_is_at n from upto below) (waits n from upto))

    below_of : (n : ℕ) → begun ≤ n → n ≤ until → n < last_from 0 lines → runs_lower t (past_at n lines) ≡ runs_below stands_first.0 (past_at n lines)
    below_of n from upto below = ap (λ o. is_lower (base_of_runner (past_at n lines).runner (past_at n lines).bases) o) (base_is_at n from upto below)

    blocked : BlockedOnce t first begun until lines
    blocked = elim (some_blocker (subject.Task t) stands_first.0 begun until low high stands_at order) [
      | inl none ↦ record {
        who = subject.Agent;
        by = record {
          runs = λ n from upto below lower. let wrong : true ≡ false = sym lower ∙ below_of n from upto below ∙ none n from upto below in cc;
          inside = λ n from upto below lower. let wrong : true ≡ false = sym lower ∙ below_of n from upto below ∙ none n from upto below in cc;
        };
        at_first = λ same n from upto below. below_of n from upto below ∙ none n from upto below;
      }
      | inr found ↦ record {
        who = subject.Task found.1.1.task;
        by = record {
          runs =
              λ m from upto below lower. runs_one (subject.Task t) stands_first.0 begun until low high stands_at found.0 found.1.0 found.1.1 m from upto below
              (sym (below_of m from upto below) ∙ lower);
          inside =
              λ m from upto below lower. λ j from_j to_j. inside_one
              (subject.Task t) stands_first.0 begun until low high stands_at found.0 found.1.0 found.1.1 m from upto below
              (sym (below_of m from upto below) ∙ lower) j from_j to_j;
        };
        at_first =
            λ same n from upto below.
            below_of n from upto below ∙ never_at_first (subject.Task t) stands_first.0 begun until low high stands_at same n from upto below;
      }
    ]

pub lines_one_action : (lines : List TraceLine) → KeepsProtocol lines → OneActionOk lines
lines_one_action lines h first last stretch waiting level begun until low order high waits =
    one_action first last lines h stretch waiting level begun until low high
    (λ n from upto below. subst (λ past. is_from (Some level) (entry_of waiting past.queue) ≡ true) (sym (past_of n lines)) (waits n from upto)) order

pub lines_blocked_once : (lines : List TraceLine) → KeepsProtocol lines → BlockedOnceOk lines
lines_blocked_once lines h first last stretch t begun until low order high waits = blocked first last lines h stretch t begun until low high order waits
