-- Behind each tick of a stretch whoever has an object open stands before all others whose base priorities are not above its
-- ceiling, and no call of the next tick finds its object held.
use Rattle.std.proofs.Common.{◌≡◌, ℕ, ℤ, zero, suc, ◌+◌, ◌-◌, ◌<◌, ◌≤◌, ◌⊎◌, ◌==◌, Bool, true, false, ◌&&◌, ◌||◌, ltb, leb}
use Rattle.std.proofs.Common.{List, [], ◌∷◌, ◌++◌, Option, Some, None, is_some, refl, sym, ap, subst, ◌∙◌, arith, inl, inr}
use Rattle.std.specs.List.{list_all, list_any}
use Rattle.std.proofs.lemmas.Bool.{and_from, and_parts, cases_Bool, cases_lt, eq-eqb, eqb-true, le-leb, le-ltb, leb-true, lt-leb, lt-ltb, ltb-true}
use Rattle.ann_base.specs.declared.identities.TaskNo.{TaskNo}
use Rattle.trace_text.specs.declared.events.Action.{Action}
use Rattle.trace_text.specs.declared.events.Entry.{Entry}
use Rattle.trace_text.specs.declared.events.Event.{Event}
use Rattle.trace_text.specs.declared.events.Event.TheVariants as line
use Rattle.trace_text.specs.declared.events.Who.{Who}
use Rattle.trace_text.specs.declared.events.Who.TheVariants as subject
use Rattle.trace_text.specs.Laws.{Levels, actions_after, base_of, is_below_ceiling, is_exclusive, level_of, no_levels, see_levels}
use Rattle.trace_text.specs.Queue.{TraceLine, RisesFrom, Sight, entry_of, follows_lines, head_of, last_from}
use Rattle.trace_text.specs.Queue.{nothing_seen, runner_after, see, seen_from, up_to, who_eq, who_of}
use Rattle.trace_text.proofs.LawsFollowed.{last_from-ge, lines_followed}
use Rattle.blocking_laws.specs.BlockingLaws.{NeverHeldOk, finds_none_held, is_above, is_from}
use Rattle.ceiling_laws.specs.PlaceLaws.{level_in}
use Rattle.blocking_laws.specs.MovingLaws.{KeepsProtocol, Moving, holders_stand, holders_stand_low, is_among, is_choice, is_explained, is_fresh_entry}
use Rattle.blocking_laws.specs.MovingLaws.{is_moved_rightly, is_still, is_within, moving_after, nothing_moving, own_level, touched_by}
use Rattle.blocking_laws.specs.Stretches.{Past, Stretch, has_open, is_own_level, is_plain, past_after, past_at, sets_no_base}
use Rattle.blocking_laws.proofs.QueueLemmas.{Heads, cases_date, found_at, found_behind, heads, not_who, precedes-both, under_level, who_is}
use Rattle.blocking_laws.proofs.WindowLemmas.{last_of_three, lines_followed_behind}
use Rattle.blocking_laws.proofs.CalmLemmas.{CalmOf, is_exact, is_level, step_calm}
use Rattle.blocking_laws.proofs.TickLemmas.{all_by, all_next, entering, entering_next, follows_next, follows_up_to}
use Rattle.blocking_laws.proofs.TickLemmas.{next_has, next_ticks, of_next, quiet, quiet_next, seen_next, seen_part}
use Rattle.blocking_laws.proofs.StepLemmas.{Unraised, never_held, step_raised, step_sound, step_within, still_raised, still_within}
use Rattle.blocking_laws.proofs.WithinLemmas.{Apart, Each, Kept, Leads_in, RunsAbove, SoundOf, Stands, Start}
use Rattle.blocking_laws.proofs.WithinLemmas.{WithinOf, above, each_any, each_both, each_from, fresh, strict, tied}

-- ---- the lines of a tick

abbrev pub levels : Moving → Levels
levels m = record { entries = m.past.queue; ceilings = m.ceilings; bases = m.past.bases }

pub record Tested (m : Moving) (lines : List TraceLine) : Type 0 where
  pub moved : follows_lines moving_after is_moved_rightly m lines ≡ true
  pub low : follows_lines see_levels is_below_ceiling (levels m) lines ≡ true
  pub exclusive : follows_lines actions_after is_exclusive m.past.actions lines ≡ true
  pub bases : list_all (λ line. sets_no_base line.1) lines ≡ true

pub runs_on : (r : Option Who) (event : Event) → is_choice event ≡ false → runner_after r event ≡ r
runs_on r (line.Run w) e = cc
runs_on r line.Idle e = cc
runs_on r _ e = refl

still_unheld : (event : Event) → is_still event ≡ true → finds_none_held event ≡ true
still_unheld (line.Held w o mode) e = cc
still_unheld _ e = refl

abbrev Led : Start → Moving → List TraceLine → Type 0
Led s m lines =
    WithinOf s (seen_from moving_after m lines) × (list_all (λ line. finds_none_held line.1) lines ≡ true) × Unraised (seen_from moving_after m lines)

-- behind the choice
still_lines : (s : Start) (m : Moving) (lines : List TraceLine) → quiet true lines ≡ true → Unraised m → WithinOf s m → Led s m lines
still_lines s m [] still un k = (k, refl, un)
still_lines s m (l ∷ lines) still un k =
    let quiets = and_parts (is_still l.1) (quiet true lines) still in
    let rest = still_lines s (moving_after m l.1) lines quiets.1 (still_raised m l.1 quiets.0 un) (still_within s m l.1 quiets.0 k) in
    (rest.0, and_from (finds_none_held l.1) (list_all (λ (x : TraceLine). finds_none_held x.1) lines) (still_unheld l.1 quiets.0) rest.1, rest.2)

pub tick_within : (s : Start) (touched : List Who) (m : Moving) (lines : List TraceLine) → s.ran ≡ m.past.runner → quiet false lines ≡ true
    → entering touched lines ≡ true → Tested m lines → SoundOf m → CalmOf s.ran touched m → Unraised m → WithinOf s m → Led s m lines
tick_within s touched m [] ran still enters tested sound calm un k = (k, refl, un)
tick_within s touched m (l ∷ lines) ran still enters tested sound calm un k =
    let moved = and_parts (is_moved_rightly m l.1) (follows_lines moving_after is_moved_rightly (moving_after m l.1) lines) tested.moved in
    let low = and_parts (is_below_ceiling (levels m) l.1) (follows_lines see_levels is_below_ceiling (see_levels (levels m) l.1) lines) tested.low in
    let exclusive =
    and_parts (is_exclusive m.past.actions l.1) (follows_lines actions_after is_exclusive (actions_after m.past.actions l.1) lines) tested.exclusive in
    let bases = and_parts (sets_no_base l.1) (list_all (λ (x : TraceLine). sets_no_base x.1) lines) tested.bases in
    let entry = and_parts (is_fresh_entry touched l.1) (entering (touched_by l.1 ++ touched) lines) enters in
    let unheld = never_held s m l.1 ran moved.0 exclusive.0 k in
    let next = step_within s touched m l.1 sound ran moved.0 low.0 bases.0 unheld entry.0 calm k in
    let next_raised = step_raised s touched m l.1 sound ran moved.0 entry.0 calm un in
    let rest : Led s (moving_after m l.1) lines = elim (cases_Bool (is_choice l.1)) [
      | inl choice ↦ still_lines s (moving_after m l.1) lines (subst (λ b. quiet b lines ≡ true) choice still) next_raised next
      | inr not_so ↦
          tick_within s (touched_by l.1 ++ touched) (moving_after m l.1) lines (ran ∙ sym (runs_on m.past.runner l.1 not_so))
          (subst (λ b. quiet b lines ≡ true) not_so still) entry.1 (record { moved = moved.1; low = low.1; exclusive = exclusive.1; bases = bases.1 })
          (step_sound m l.1 moved.0 sound) (step_calm s.ran touched m l.1 moved.0 bases.0 calm) next_raised next
    ] in
    (rest.0, and_from (finds_none_held l.1) (list_all (λ (x : TraceLine). finds_none_held x.1) lines) unheld rest.1, rest.2)

pub all_sound : (m : Moving) (lines : List TraceLine) → follows_lines moving_after is_moved_rightly m lines ≡ true → SoundOf m
    → SoundOf (seen_from moving_after m lines)
all_sound m [] moved k = k
all_sound m (l ∷ lines) moved k =
    let one = and_parts (is_moved_rightly m l.1) (follows_lines moving_after is_moved_rightly (moving_after m l.1) lines) moved in
    all_sound (moving_after m l.1) lines one.1 (step_sound m l.1 one.0 k)

-- ---- between two ticks

-- who has an object open stands before another, at its ceiling at least
abbrev pub Clear : Moving → Action → Type 0
Clear m a = (c : ℕ) → level_of a.object m.ceilings ≡ Some c → (u : Who) → who_eq u a.who ≡ false → (e : Entry) → entry_of u m.past.queue ≡ Some e
    → (is_above c (own_level u m.past.bases m.agent) ≡ true) ⊎ ((e.level < c) ⊎ ((e.deadline ≡ None) × ((e.level ≤ c) × Leads_in m.past.queue a.who u e)))

pub record Settled (m : Moving) : Type 0 where
  pub clear : Each (Clear m) m.past.actions
  pub placed : Each (Stands m.past.queue) m.past.actions
  pub kept : Each (Kept m.past.bases m.agent m.ceilings) m.past.actions
  pub waits : (w : Who) → list_any (λ o. who_eq w o) m.found ≡ true → has_open w m.past.actions ≡ false
  pub unraised : Unraised m

-- a test of all entries, at the entry of somebody
pub entry_tested : (test : Entry → Bool) (queue : List Entry) (u : Who) (e : Entry) → list_all test queue ≡ true → entry_of u queue ≡ Some e
    → (test e ≡ true) × (u ≡ e.who)
entry_tested test [] u e all found = cc
entry_tested test (x ∷ queue) u e all found =
    let parts = and_parts (test x) (list_all test queue) all in
    elim (cases_Bool (who_eq u x.who)) [
      | inl same ↦
          let here : Some x ≡ Some e = sym (found_at u x queue same) ∙ found in
          let is : x ≡ e = cc in
          (subst (λ y. test y ≡ true) is parts.0, subst (λ (y : Entry). u ≡ y.who) is (who_is u x.who same))
      | inr differs ↦ entry_tested test queue u e parts.1 (sym (found_behind u x queue differs) ∙ found)
    ]

pub known : (o : Option ℕ) → is_some o ≡ true → (b : ℕ) × (o ≡ Some b)
known None e = cc
known (Some b) e = (b, refl)

own_parts : (base : ℕ) (level : ℕ) (d : Option ℤ) → is_own_level (Some base) level d ≡ true → (level ≤ base) × (is_some d ≡ true → level < base)
own_parts base level None e = (leb-true level base e, λ no. cc)
own_parts base level (Some d) e = let below = ltb-true level base e in (omega (arith, below), λ dated. below)

-- a task without an action stands at most at its base priority, and below it with a deadline
pub plain_level : (m : Moving) (t : TaskNo) (e : Entry) → SoundOf m → is_plain m.past ≡ true → entry_of (subject.Task t) m.past.queue ≡ Some e
    → has_open (subject.Task t) m.past.actions ≡ false
    → (b : ℕ) × ((level_of t.0 m.past.bases ≡ Some b) × ((e.level ≤ b) × (is_some e.deadline ≡ true → e.level < b)))
plain_level m t e sound plain found none =
    let at =
    entry_tested (λ (x : Entry). has_open x.who m.past.actions || is_own_level (base_of x.who m.past.bases) x.level x.deadline) m.past.queue
    (subject.Task t) e plain found in
    let b = known (level_of t.0 m.past.bases) (sound.owned t e found) in
    let test : (has_open (subject.Task t) m.past.actions || is_own_level (level_of t.0 m.past.bases) e.level e.deadline) ≡ true =
    subst (λ w. (has_open w m.past.actions || is_own_level (base_of w m.past.bases) e.level e.deadline) ≡ true) (sym at.1) at.0 in
    let own : is_own_level (level_of t.0 m.past.bases) e.level e.deadline ≡ true =
    sym (ap (λ z. z || is_own_level (level_of t.0 m.past.bases) e.level e.deadline) none) ∙ test in
    (b.0, (b.1, own_parts b.0 e.level e.deadline (sym (ap (λ o. is_own_level o e.level e.deadline) b.1) ∙ own)))

settle_pair : (m : Moving) → SoundOf m → is_plain m.past ≡ true → (v : Who) (c : ℕ) (u : Who) (e : Entry) → entry_of u m.past.queue ≡ Some e
    → Apart m.past.queue m.past.actions m.past.bases m.agent v u c e
    → (is_above c (own_level u m.past.bases m.agent) ≡ true) ⊎ ((e.level < c) ⊎ ((e.deadline ≡ None) × ((e.level ≤ c) × Leads_in m.past.queue v u e)))
settle_pair m sound plain v c u e found (above h) = inl h
settle_pair m sound plain v c u e found (strict low) = inr (inl low)
settle_pair m sound plain v c u e found (tied none low lead) = inr (inr (none, (low, lead)))
settle_pair m sound plain v c u e found (fresh before none t is) =
    let own = plain_level m t e sound plain (subst (λ w. entry_of w m.past.queue ≡ Some e) is found) (subst (λ w. has_open w m.past.actions ≡ false) is none) in
    elim (cases_lt c own.0) [
      | inl over ↦
          inl
          (subst (λ w. is_above c (own_level w m.past.bases m.agent) ≡ true) (sym is) (subst (λ o. is_above c o ≡ true) (sym own.1.0) (lt-ltb c own.0 over)))
      | inr under ↦ inr (elim (cases_date e.deadline) [
        | inl dateless ↦ inr (dateless, (omega (arith, own.1.1.0, under), inl before))
        | inr dated ↦ inl (omega (arith, own.1.1.1 dated, under))
      ])
    ]

pub settle : (s : Start) (m : Moving) → SoundOf m → is_plain m.past ≡ true → Unraised m → WithinOf s m → Settled m
settle s m sound plain un k = record {
  clear =
      each_from (λ a from. λ c ceiling u other e found. settle_pair m sound plain a.who c u e found (from c ceiling u other e found)) m.past.actions k.apart;
  placed = k.placed;
  kept = k.kept;
  waits = k.waits;
  unraised = un;
}

-- ---- who is first

each_list : (test : Action → Bool) (actions : List Action) → list_all test actions ≡ true → Each (λ a. test a ≡ true) actions
each_list test [] e = tt
each_list test (a ∷ actions) e = let parts = and_parts (test a) (list_all test actions) e in (parts.0, each_list test actions parts.1)

pub from_levels : (o : Option ℕ) (e : Option Entry) → is_from o e ≡ true → (c : ℕ) → o ≡ Some c → (f : Entry) → e ≡ Some f → c ≤ f.level
from_levels None e test c ceiling f found = cc
from_levels (Some d) None test c ceiling f found = cc
from_levels (Some d) (Some g) test c ceiling f found =
    let same : d ≡ c = cc in
    let one : g ≡ f = cc in
    subst (λ (y : Entry). c ≤ y.level) one (omega (arith, same, leb-true d g.level test))

-- another who has an object open does not stand before the first, where the first is not above its ceiling
not_before : (m : Moving) (h : Entry) → Heads h m.past.queue → (v : Who) (c : ℕ) (f : Entry) → who_eq h.who v ≡ false → entry_of v m.past.queue ≡ Some f
    → c ≤ f.level
    → (h.level < c) ⊎ ((h.deadline ≡ None) × ((h.level ≤ c) × Leads_in m.past.queue v h.who h)) → false ≡ true
not_before m h first v c f differs there high (inl low) =
    let up = under_level h v f m.past.queue (first.first v f (not_who h.who v differs) there) in
    absurd (omega (arith, up, low, high))
not_before m h first v c f differs there high (inr (none, (low, lead))) = elim (first.first v f (not_who h.who v differs) there) [
  | inl less ↦ absurd (omega (arith, less, low, high))
  | inr at ↦ elim at.1 [
    | inl dated ↦ subst (λ d. is_some d ≡ true) none dated
    | inr both ↦ elim lead [
      | inl before ↦ precedes-both h.who v m.past.queue differs both.1 before
      | inr g ↦
          let two : Some f ≡ Some g.0 = sym there ∙ g.1.0 in
          let one : f ≡ g.0 = cc in
          subst (λ d. is_some d ≡ true) both.0 (subst (λ (y : Entry). is_some y.deadline ≡ true) (sym one) g.1.1.0)
    ]
  ]
]

-- the first is above the ceilings of all objects that others have open
pub first_above : (m : Moving) → Settled m → holders_stand m ≡ true → (h : Entry) → Heads h m.past.queue
    → Each (λ a.
    who_eq h.who a.who ≡ false → (c : ℕ) → level_of a.object m.ceilings ≡ Some c → is_above c (own_level h.who m.past.bases m.agent) ≡ true) m.past.actions
first_above m k stand h first = each_from (λ a both. λ differs c ceiling. elim (both.0.0 c ceiling h.who differs h first.there) [
  | inl over ↦ over
  | inr under ↦
      let f = both.0.1 in
      let high : c ≤ f.0.level = from_levels (level_of a.object m.ceilings) (entry_of a.who m.past.queue) both.1 c ceiling f.0 f.1 in
      let wrong : false ≡ true = not_before m h first a.who c f.0 differs f.1 high under in
      cc
]) m.past.actions
    (each_both (λ a. Clear m a × Stands m.past.queue a) (λ a. is_from (level_of a.object m.ceilings) (entry_of a.who m.past.queue) ≡ true) m.past.actions
    (each_both (Clear m) (Stands m.past.queue) m.past.actions k.clear k.placed)
    (each_list (λ (a : Action). is_from (level_of a.object m.ceilings) (entry_of a.who m.past.queue)) m.past.actions stand))

pub head_is : (o : Option Entry) (r : Who) → who_of o ≡ Some r → (h : Entry) × ((o ≡ Some h) × (h.who ≡ r))
head_is None r e = cc
head_is (Some h) r e = (h, (refl, cc))

abbrev pub start_of : Moving → Start
start_of m = record { ran = m.past.runner; queue = m.past.queue; actions = m.past.actions; bases = m.past.bases }

begin_pair : (m : Moving) (v : Who) (c : ℕ) (u : Who) (e : Entry)
    → (is_above c (own_level u m.past.bases m.agent) ≡ true) ⊎ ((e.level < c) ⊎ ((e.deadline ≡ None) × ((e.level ≤ c) × Leads_in m.past.queue v u e)))
    → Apart m.past.queue m.past.actions m.past.bases m.agent v u c e
begin_pair m v c u e (inl over) = above over
begin_pair m v c u e (inr (inl low)) = strict low
begin_pair m v c u e (inr (inr (none, (low, lead)))) = tied none low lead

begin_runs : (m : Moving) → SoundOf m → Settled m → holders_stand m ≡ true → (ran : Option Who) → m.past.runner ≡ ran
    → m.past.runner ≡ who_of (head_of m.past.queue) → Each (RunsAbove ran m.past.bases m.agent m.ceilings) m.past.actions
begin_runs m sound k stand None is runs = each_from (λ a stands. λ r some. cc) m.past.actions k.placed
begin_runs m sound k stand (Some w) is runs =
    let h = head_is (head_of m.past.queue) w (sym runs ∙ is) in
    each_from (λ a over. λ r some differs c ceiling.
    let same : h.0.who ≡ r = h.1.1 ∙ (let one : w ≡ r = cc in one) in
    subst (λ z. is_above c (own_level z m.past.bases m.agent) ≡ true) same
    (over (subst (λ z. who_eq z a.who ≡ false) (sym same) differs) c ceiling)) m.past.actions
    (first_above m k stand h.0 (heads m.past.queue sound.once h.0 h.1.0))

pub begin : (m : Moving) → SoundOf m → Settled m → holders_stand m ≡ true → m.past.runner ≡ who_of (head_of m.past.queue) → WithinOf (start_of m) m
begin m sound k stand runs = record {
  apart = each_from (λ a clear. λ c ceiling u other e found. begin_pair m a.who c u e (clear c ceiling u other e found)) m.past.actions k.clear;
  runs = begin_runs m sound k stand m.past.runner refl runs;
  placed = k.placed;
  kept = k.kept;
  waits = k.waits;
  opens = λ w holds. inl holds;
  stays = λ w not_ran holds. refl;
  lasts = λ i b is. is;
}

-- ---- who runs, before the first line

any_each : (P : Action → Type 0) (test other : Action → Bool) (actions : List Action) → Each P actions → list_any test actions ≡ true
    → ((a : Action) → P a → test a ≡ true → other a ≡ true) → list_any other actions ≡ true
any_each P test other [] each e f = cc
any_each P test other (a ∷ actions) each e f = elim (cases_Bool (other a)) [
  | inl holds ↦ ap (λ t. t || list_any other actions) holds
  | inr fails ↦ elim (cases_Bool (test a)) [
    | inl passed ↦ let wrong : true ≡ false = sym (f a each.0 passed) ∙ fails in cc
    | inr missed ↦ ap (λ t. t || list_any other actions) fails ∙ any_each P test other actions each.1 (sym (ap (λ t. t || list_any test actions) missed) ∙ e) f
  ]
]

own_within : (level own limit : Option ℕ) → is_within level own ≡ true → is_within own limit ≡ true → is_within level limit ≡ true
own_within None own limit a b = cc
own_within (Some n) None limit a b = cc
own_within (Some n) (Some k) None a b = cc
own_within (Some n) (Some k) (Some c) a b = le-leb n c (omega (arith, leb-true n k a, leb-true k c b))

exact_level : (o : Option ℕ) (h : Entry) → is_from o (Some h) ≡ true → is_within (Some h.level) o ≡ true → is_level o h.level ≡ true
exact_level None h a b = cc
exact_level (Some c) h a b = eq-eqb c h.level (omega (arith, leb-true c h.level a, leb-true h.level c b))

exact_of : (m : Moving) (t : TaskNo) (h : Entry) (x : Action) → entry_of (subject.Task t) m.past.queue ≡ Some h → who_eq (subject.Task t) x.who ≡ true
    → is_from (level_of x.object m.ceilings) (entry_of x.who m.past.queue) ≡ true → is_within (Some h.level) (level_of x.object m.ceilings) ≡ true
    → is_exact (subject.Task t) h.level m.ceilings x ≡ true
exact_of m t h x found is stands within =
    let here : entry_of x.who m.past.queue ≡ Some h = subst (λ w. entry_of w m.past.queue ≡ Some h) (who_is (subject.Task t) x.who is) found in
    and_from (who_eq (subject.Task t) x.who) (is_level (level_of x.object m.ceilings) h.level) is
    (exact_level (level_of x.object m.ceilings) h (sym (ap (is_from (level_of x.object m.ceilings)) here) ∙ stands) within)

-- where a task that has an object open stands is explained, if it was not raised
pub explained_of : (m : Moving) → Settled m → holders_stand_low m ≡ true → (t : TaskNo) (h : Entry) → entry_of (subject.Task t) m.past.queue ≡ Some h
    → has_open (subject.Task t) m.past.actions ≡ true → is_explained m (subject.Task t) (Some h.level) ≡ true
explained_of m k low t h found holds =
    let lows = each_list (λ (a : Action). is_among a.who m.raised || is_explained m a.who (level_in (entry_of a.who m.past.queue))) m.past.actions low in
    let a =
    each_any (λ a. (is_among a.who m.raised || is_explained m a.who (level_in (entry_of a.who m.past.queue))) ≡ true)
    (λ x. who_eq (subject.Task t) x.who) m.past.actions lows holds in
    let same : subject.Task t ≡ a.0.who = who_is (subject.Task t) a.0.who a.1.1 in
    let test : (is_among (subject.Task t) m.raised || is_explained m (subject.Task t) (level_in (entry_of (subject.Task t) m.past.queue))) ≡ true =
    subst (λ w. (is_among w m.raised || is_explained m w (level_in (entry_of w m.past.queue))) ≡ true) (sym same) a.1.0 in
    let not_raised : is_among (subject.Task t) m.raised ≡ false = elim (cases_Bool (is_among (subject.Task t) m.raised)) [
      | inr not_so ↦ not_so
      | inl raised ↦ let wrong : true ≡ false = sym holds ∙ k.unraised t raised in cc
    ] in
    ap (λ e. is_explained m (subject.Task t) (level_in e)) (sym found)
    ∙ (sym (ap (λ b. b || is_explained m (subject.Task t) (level_in (entry_of (subject.Task t) m.past.queue))) not_raised) ∙ test)

-- a task that has an object open stands, where it was not raised, at the ceiling of one of them
busy_exact : (m : Moving) → Settled m → holders_stand m ≡ true → holders_stand_low m ≡ true → (t : TaskNo) (h : Entry)
    → entry_of (subject.Task t) m.past.queue ≡ Some h → has_open (subject.Task t) m.past.actions ≡ true
    → list_any (is_exact (subject.Task t) h.level m.ceilings) m.past.actions ≡ true
busy_exact m k stand low t h found holds =
    let stands = each_list (λ (a : Action). is_from (level_of a.object m.ceilings) (entry_of a.who m.past.queue)) m.past.actions stand in
    let explained : is_explained m (subject.Task t) (Some h.level) ≡ true = explained_of m k low t h found holds in
    let both =
    each_both (λ a. is_from (level_of a.object m.ceilings) (entry_of a.who m.past.queue) ≡ true)
    (Kept m.past.bases m.agent m.ceilings) m.past.actions stands k.kept in
    elim (cases_Bool (is_within (Some h.level) (level_of t.0 m.past.bases))) [
      | inl own ↦
          any_each (λ a. (is_from (level_of a.object m.ceilings) (entry_of a.who m.past.queue) ≡ true) × Kept m.past.bases m.agent m.ceilings a)
          (λ a. who_eq (subject.Task t) a.who) (is_exact (subject.Task t) h.level m.ceilings) m.past.actions both holds
          (λ x each is. exact_of m t h x found is each.0
          (own_within (Some h.level) (level_of t.0 m.past.bases) (level_of x.object m.ceilings) own
          (subst (λ w. is_within (own_level w m.past.bases m.agent) (level_of x.object m.ceilings) ≡ true)
          (sym (who_is (subject.Task t) x.who is)) each.1)))
      | inr not_own ↦
          let by_object : list_any (λ (x : Action). who_eq (subject.Task t) x.who && is_within (Some h.level) (level_of x.object m.ceilings)) m.past.actions
          ≡ true =
          sym (ap (λ b.
          b || list_any (λ (x : Action). who_eq (subject.Task t) x.who && is_within (Some h.level) (level_of x.object m.ceilings)) m.past.actions) not_own)
          ∙ explained in
          any_each (λ a. is_from (level_of a.object m.ceilings) (entry_of a.who m.past.queue) ≡ true)
          (λ x. who_eq (subject.Task t) x.who && is_within (Some h.level) (level_of x.object m.ceilings))
          (is_exact (subject.Task t) h.level m.ceilings) m.past.actions stands by_object
          (λ x each is. let parts = and_parts (who_eq (subject.Task t) x.who) (is_within (Some h.level) (level_of x.object m.ceilings)) is in
          exact_of m t h x found parts.0 each parts.1)
    ]

pub calm_at : (m : Moving) → SoundOf m → Settled m → holders_stand m ≡ true → holders_stand_low m ≡ true → is_plain m.past ≡ true → CalmOf m.past.runner [] m
calm_at m sound k stand low plain = λ t is among h found. elim (cases_Bool (has_open (subject.Task t) m.past.actions)) [
  | inr none ↦ inl (none, plain_level m t h sound plain found none)
  | inl holds ↦ inr (holds, λ dated. busy_exact m k stand low t h found holds)
]

-- ---- tick by tick

pub difference : (a n : ℕ) → a ≤ n → (d : ℕ) × (a + d ≡ n)
difference a n low = (n - a, omega arith)

before_tick : (a n : ℕ) → a < n → (k : ℕ) × (n ≡ suc k)
before_tick a zero low = absurd (omega arith)
before_tick a (suc k) low = (k, refl)

all_both : (test other : TraceLine → Bool) (xs : List TraceLine) → list_all test xs ≡ true → list_all other xs ≡ true
    → list_all (λ x. test x && other x) xs ≡ true
all_both test other [] e f = refl
all_both test other (x ∷ xs) e f =
    let a = and_parts (test x) (list_all test xs) e in
    let b = and_parts (other x) (list_all other xs) f in
    and_from (test x && other x) (list_all (λ y. test y && other y) xs) (and_from (test x) (other x) a.0 b.0) (all_both test other xs a.1 b.1)

abbrev pub moving_at : ℕ → List TraceLine → Moving
moving_at n lines = seen_from moving_after nothing_moving (up_to n lines)

pub past_of : (n : ℕ) (lines : List TraceLine) → (moving_at n lines).past ≡ past_at n lines
past_of n lines = seen_part moving_after past_after (λ (m : Moving). m.past) (λ m event. refl) nothing_moving (up_to n lines)

sight_of : Past → Sight
sight_of past = record { queue = past.queue; runner = past.runner }

pub runner_first : (n : ℕ) (lines : List TraceLine) → KeepsProtocol lines → n < last_from 0 lines
    → (moving_at n lines).past.runner ≡ who_of (head_of (moving_at n lines).past.queue)
unfolding sight_of
runner_first n lines h below =
    let same : sight_of (moving_at n lines).past ≡ seen_from see nothing_seen (up_to n lines) =
    seen_part moving_after see (λ (m : Moving). sight_of m.past) (λ m event. refl) nothing_moving (up_to n lines) in
    subst (λ (s : Sight). s.runner ≡ who_of (head_of s.queue)) (sym same) (h.dispatch n below)

pub sound_at : (n : ℕ) (lines : List TraceLine) → KeepsProtocol lines → SoundOf (moving_at n lines)
sound_at n lines h = all_sound nothing_moving (up_to n lines)
    (follows_up_to moving_after is_moved_rightly nothing_moving n lines (lines_followed moving_after is_moved_rightly nothing_moving lines h.moves.moved))
    (record { once = tt; undated = λ e found. cc; owned = λ t e found. cc })

levels_at : (n : ℕ) (lines : List TraceLine) → levels (moving_at n lines) ≡ seen_from see_levels no_levels (up_to n lines)
levels_at n lines = seen_part moving_after see_levels levels (λ m event. refl) nothing_moving (up_to n lines)

actions_at : (n : ℕ) (lines : List TraceLine) → (moving_at n lines).past.actions ≡ seen_from actions_after [] (up_to n lines)
actions_at n lines = seen_part moving_after actions_after (λ (m : Moving). m.past.actions) (λ m event. refl) nothing_moving (up_to n lines)

bases_next : (first last n : ℕ) (lines : List TraceLine) → KeepsProtocol lines → Stretch first last lines → first ≤ n → suc n ≤ last
    → list_all (λ line. sets_no_base line.1) (of_next n lines) ≡ true
bases_next first last n lines h stretch low high =
    let all =
    all_next (λ (l : TraceLine). leb l.0 first || ltb last l.0 || sets_no_base l.1) n lines
    (lines_followed_behind first last sets_no_base lines stretch.bases) in
    let at = next_ticks n 0 lines h.rises in
    all_by (λ (l : TraceLine). (leb l.0 first || ltb last l.0 || sets_no_base l.1) && l.0 == suc n) (λ (l : TraceLine). sets_no_base l.1) (of_next n lines)
    (all_both (λ (l : TraceLine). leb l.0 first || ltb last l.0 || sets_no_base l.1) (λ (l : TraceLine). l.0 == suc n) (of_next n lines) all at)
    (λ l e.
    let parts = and_parts (leb l.0 first || ltb last l.0 || sets_no_base l.1) (l.0 == suc n) e in
    let is = eqb-true l.0 (suc n) parts.1 in
    last_of_three (leb l.0 first) (ltb last l.0) (sets_no_base l.1) parts.0 (lt-leb l.0 first (omega (arith, is))) (le-ltb last l.0 (omega (arith, is))))

pub tested_next : (first last n : ℕ) (lines : List TraceLine) → KeepsProtocol lines → Stretch first last lines → first ≤ n → suc n ≤ last
    → Tested (moving_at n lines) (of_next n lines)
tested_next first last n lines h stretch low high = record {
  moved = follows_next moving_after is_moved_rightly nothing_moving n lines (lines_followed moving_after is_moved_rightly nothing_moving lines h.moves.moved);
  low =
      subst (λ s. follows_lines see_levels is_below_ceiling s (of_next n lines) ≡ true) (sym (levels_at n lines))
      (follows_next see_levels is_below_ceiling no_levels n lines (lines_followed see_levels is_below_ceiling no_levels lines h.ceilings));
  exclusive =
      subst (λ s. follows_lines actions_after is_exclusive s (of_next n lines) ≡ true) (sym (actions_at n lines))
      (follows_next actions_after is_exclusive [] n lines (lines_followed actions_after is_exclusive [] lines h.exclusion));
  bases = bases_next first last n lines h stretch low high;
}

pub plain_at : (first last n : ℕ) (lines : List TraceLine) → Stretch first last lines → first ≤ n → n ≤ last → is_plain (moving_at n lines).past ≡ true
plain_at first last n lines stretch low high = subst (λ past. is_plain past ≡ true) (sym (past_of n lines)) (stretch.plain n low high)

-- what the lines of a tick keep, from behind the one before
pub leads_next : (first last n : ℕ) (lines : List TraceLine) → KeepsProtocol lines → Stretch first last lines → first ≤ n → suc n ≤ last → n < last_from 0 lines
    → Settled (moving_at n lines)
    → (WithinOf (start_of (moving_at n lines)) (moving_at (suc n) lines)) × (list_all (λ line. finds_none_held line.1) (of_next n lines) ≡ true)
    × Unraised (moving_at (suc n) lines)
leads_next first last n lines h stretch low high below k =
    let sound = sound_at n lines h in
    let at_n = begin (moving_at n lines) sound k (h.moves.holders n below) (runner_first n lines h below) in
    let calm =
    calm_at (moving_at n lines) sound k (h.moves.holders n below) (h.moves.low n below) (plain_at first last n lines stretch low (omega (arith, high))) in
    let led =
    tick_within (start_of (moving_at n lines)) [] (moving_at n lines) (of_next n lines) refl (quiet_next n 0 false lines h.rises (omega arith) h.choice)
    (entering_next n 0 [] lines h.rises (omega arith) h.moves.first) (tested_next first last n lines h stretch low high) sound calm k.unraised at_n in
    let next = sym (seen_next moving_after nothing_moving n lines) in
    (subst (λ m. WithinOf (start_of (moving_at n lines)) m) next led.0, led.1, subst Unraised next led.2)

none_settled : (m : Moving) → m.past.actions ≡ [] → Settled m
none_settled m none = record {
  clear = subst (Each (Clear m)) (sym none) tt;
  placed = subst (Each (Stands m.past.queue)) (sym none) tt;
  kept = subst (Each (Kept m.past.bases m.agent m.ceilings)) (sym none) tt;
  waits = λ w found. ap (has_open w) none;
  unraised = λ t raised. ap (has_open (subject.Task t)) none;
}

-- so many ticks behind the first one
settled_by : (first last count : ℕ) (lines : List TraceLine) → KeepsProtocol lines → Stretch first last lines → first + count ≤ last
    → first + count < last_from 0 lines → Settled (moving_at (first + count) lines)
settled_by first last zero lines h stretch high below =
    subst (λ n. Settled (moving_at n lines)) (let e : first ≡ first + 0 = omega arith in e)
    (none_settled (moving_at first lines) (ap (λ (past : Past). past.actions) (past_of first lines) ∙ stretch.free))
settled_by first last (suc count) lines h stretch high below =
    let before = settled_by first last count lines h stretch (omega arith) (omega arith) in
    let led = leads_next first last (first + count) lines h stretch (omega arith) (omega arith) (omega arith) before in
    let is : suc (first + count) ≡ first + suc count = omega arith in
    subst (λ n. Settled (moving_at n lines)) is
    (settle (start_of (moving_at (first + count) lines)) (moving_at (suc (first + count)) lines) (sound_at (suc (first + count)) lines h)
    (plain_at first last (suc (first + count)) lines stretch (omega arith) (omega arith)) led.2 led.0)

pub settled_at : (first last n : ℕ) (lines : List TraceLine) → KeepsProtocol lines → Stretch first last lines → first ≤ n → n ≤ last → n < last_from 0 lines
    → Settled (moving_at n lines)
settled_at first last n lines h stretch low high below =
    let count = difference first n low in
    subst (λ k. Settled (moving_at k lines)) count.1 (settled_by first last count.0 lines h stretch (omega (arith, count.1)) (omega (arith, count.1)))

-- ---- never held

last_at_least : (tick : ℕ) (lines front : List TraceLine) (line : TraceLine) (back : List TraceLine) → RisesFrom tick lines → lines ≡ front ++ line ∷ back
    → line.0 ≤ last_from tick lines
last_at_least tick [] [] line back rises same = cc
last_at_least tick [] (y ∷ front) line back rises same = cc
last_at_least tick (x ∷ lines) [] line back rises same =
    let heads_same : x ≡ line = cc in
    subst (λ (y : TraceLine). y.0 ≤ last_from x.0 lines) heads_same (last_from-ge x.0 lines rises.1)
last_at_least tick (x ∷ lines) (y ∷ front) line back rises same =
    let rest : lines ≡ front ++ line ∷ back = cc in
    last_at_least x.0 lines front line back rises.1 rest

pub lines_never_held : (lines : List TraceLine) → KeepsProtocol lines → NeverHeldOk lines
lines_never_held lines h first last stretch front line back same low high =
    let n = before_tick first line.0 low in
    let below : n.0 < last_from 0 lines = omega (arith, n.1, last_at_least 0 lines front line back h.rises same) in
    let led =
    leads_next first last n.0 lines h stretch (omega (arith, n.1)) (omega (arith, n.1)) below
    (settled_at first last n.0 lines h stretch (omega (arith, n.1)) (omega (arith, n.1)) below) in
    next_has (λ (l : TraceLine). finds_none_held l.1) n.0 0 lines front line back h.rises same n.1 led.1
