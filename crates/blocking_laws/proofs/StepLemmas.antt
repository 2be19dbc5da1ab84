-- Each line of a tick keeps what is so within it, and finds no object held.
use Rattle.std.proofs.Common.{◌≡◌, ℕ, ℤ, ◌≤◌, ◌⊎◌, ◌==◌, Bool, true, false, not, cond, ◌&&◌, ◌||◌, leb, List, [], ◌∷◌}
use Rattle.std.proofs.Common.{◌++◌, Option, Some, None, is_some, is_none, refl, sym, ap, subst, ◌∙◌, arith, inl, inr}
use Rattle.std.specs.List.{list_any}
use Rattle.std.proofs.lemmas.Bool.{and_parts, cases_Bool, cases_lt, eqb-true, le-leb, leb-true, lt-ltb, ltb-true, or_from}
use Rattle.ann_base.specs.declared.identities.ObjectNo.{ObjectNo}
use Rattle.ann_base.specs.declared.identities.TaskNo.{TaskNo}
use Rattle.trace_text.specs.declared.events.Created.TheVariants as created
use Rattle.trace_text.specs.declared.events.Entry.{Entry}
use Rattle.trace_text.specs.declared.events.Event.{Event}
use Rattle.trace_text.specs.declared.events.Event.TheVariants as line
use Rattle.trace_text.specs.declared.events.Mode.{Mode}
use Rattle.trace_text.specs.declared.events.QueueEnd.TheVariants.{Head, Tail}
use Rattle.trace_text.specs.declared.events.Who.{Who}
use Rattle.trace_text.specs.declared.events.Who.TheVariants as subject
use Rattle.trace_text.specs.Laws.{base_of, is_base_below, is_below_ceiling, is_entry_below, is_exclusive, is_write, level_of}
use Rattle.trace_text.specs.Queue.{entry_of, head_of, somebody_eq, who_eq, who_of, without}
use Rattle.trace_text.proofs.LawsFollowed.{somebody_is}
use Rattle.blocking_laws.specs.BlockingLaws.{finds_none_held, is_above}
use Rattle.ceiling_laws.specs.PlaceLaws.{level_in}
use Rattle.blocking_laws.specs.MovingLaws.{is_among, is_fresh_entry, raised_by, stands_plainly, Moving, comes_rightly, is_agent_level, is_known}
use Rattle.blocking_laws.specs.MovingLaws.{is_level_of, is_moved_rightly, is_still, is_within, may_be_behind, moving_after, own_level, is_dated_rightly}
use Rattle.blocking_laws.specs.Stretches.{has_open, sets_no_base}
use Rattle.blocking_laws.proofs.QueueLemmas.{Once-append, Once-without, cases_who, found_at, found_behind, found-append}
use Rattle.blocking_laws.proofs.QueueLemmas.{found-last, found-without, found-without-same, heads, who_is}
use Rattle.blocking_laws.proofs.CalmLemmas.{Busy, CalmOf, Idle, tie_apart}
use Rattle.blocking_laws.proofs.WithinLemmas.{Apart, Owned, RunsAbove, Sound, SoundOf, Start, WithinOf, above, closed-none, each_any, enter_within, exit_within}
use Rattle.blocking_laws.proofs.WithinLemmas.{filter_in, fresh, head_within, known_within, object_within, out_within, tail_within, task_within, tied}

-- ---- what is known of the queue behind any line

none_date : (d : Option ℤ) → is_none d ≡ true → d ≡ None
none_date None e = refl
none_date (Some x) e = cc

owned_in : (queue : List Entry) (bases : List (ℕ × ℕ)) → Owned queue bases → (queue' : List Entry)
    → ((t : TaskNo) (e : Entry) → entry_of (subject.Task t) queue' ≡ Some e
    → (is_some (level_of t.0 bases) ≡ true) ⊎ ((f : Entry) × (entry_of (subject.Task t) queue ≡ Some f)))
    → Owned queue' bases
owned_in queue bases owned queue' there = λ t e found. elim (there t e found) [
  | inl known ↦ known
  | inr before ↦ owned t before.0 before.1
]

known_of : (x : Who) (m : Moving) → is_known x m ≡ true → (t : TaskNo) → subject.Task t ≡ x → is_some (level_of t.0 m.past.bases) ≡ true
known_of x m known t same = subst (λ z. is_known z m ≡ true) (sym same) known

-- the agent's entry has no deadline
undated_in : (x : Entry) (queue queue' : List Entry) → is_dated_rightly x.who x.deadline ≡ true
    → ((e : Entry) → entry_of subject.Agent queue ≡ Some e → e.deadline ≡ None)
    → (who_eq subject.Agent x.who ≡ true → entry_of subject.Agent queue' ≡ Some x)
    → (who_eq subject.Agent x.who ≡ false → entry_of subject.Agent queue' ≡ entry_of subject.Agent queue) → (e : Entry)
    → entry_of subject.Agent queue' ≡ Some e → e.deadline ≡ None
undated_in x queue queue' date old here there e found = elim (cases_Bool (who_eq subject.Agent x.who)) [
  | inl same ↦
      let both : Some x ≡ Some e = sym (here same) ∙ found in
      let is : x ≡ e = cc in
      subst (λ y. y.deadline ≡ None) is (none_date x.deadline (subst (λ w. is_dated_rightly w x.deadline ≡ true) (sym (who_is subject.Agent x.who same)) date))
  | inr differs ↦ old e (sym (there differs) ∙ found)
]

head_sound : (x : Entry) (m : Moving) → is_known x.who m ≡ true → is_dated_rightly x.who x.deadline ≡ true → SoundOf m
    → Sound (x ∷ without x.who m.past.queue) m.past.bases
head_sound x m known date h = record {
  once = (found-without-same x.who m.past.queue, Once-without x.who m.past.queue h.once);
  undated = undated_in x m.past.queue (x ∷ without x.who m.past.queue) date h.undated (λ same. found_at subject.Agent x (without x.who m.past.queue) same)
      (λ differs. found_behind subject.Agent x (without x.who m.past.queue) differs ∙ found-without subject.Agent x.who m.past.queue differs);
  owned = owned_in m.past.queue m.past.bases h.owned (x ∷ without x.who m.past.queue) (λ t e found. elim (cases_who (subject.Task t) x.who) [
    | inl same ↦ inl (known_of x.who m known t same)
    | inr differs ↦
        inr (
          e,
          sym (found-without (subject.Task t) x.who m.past.queue differs) ∙ sym (found_behind (subject.Task t) x (without x.who m.past.queue) differs) ∙ found,
        )
  ]);
}

tail_sound : (x : Entry) (m : Moving) → is_known x.who m ≡ true → is_dated_rightly x.who x.deadline ≡ true → SoundOf m
    → Sound (without x.who m.past.queue ++ x ∷ []) m.past.bases
tail_sound x m known date h = record {
  once = Once-append (without x.who m.past.queue) x (Once-without x.who m.past.queue h.once) (found-without-same x.who m.past.queue);
  undated =
      undated_in x m.past.queue (without x.who m.past.queue ++ x ∷ []) date h.undated
      (λ same. found-last subject.Agent (without x.who m.past.queue) x
      (subst (λ w. entry_of w (without x.who m.past.queue) ≡ None) (sym (who_is subject.Agent x.who same)) (found-without-same x.who m.past.queue)) same)
      (λ differs. found-append subject.Agent (without x.who m.past.queue) x differs ∙ found-without subject.Agent x.who m.past.queue differs);
  owned = owned_in m.past.queue m.past.bases h.owned (without x.who m.past.queue ++ x ∷ []) (λ t e found. elim (cases_who (subject.Task t) x.who) [
    | inl same ↦ inl (known_of x.who m known t same)
    | inr differs ↦
        inr (
          e,
          sym (found-without (subject.Task t) x.who m.past.queue differs) ∙ sym (found-append (subject.Task t) (without x.who m.past.queue) x differs) ∙ found,
        )
  ]);
}

out_sound : (w : Who) (m : Moving) → SoundOf m → Sound (without w m.past.queue) m.past.bases
out_sound w m h = record {
  once = Once-without w m.past.queue h.once;
  undated = λ e found. elim (cases_who subject.Agent w) [
    | inl same ↦ let wrong : None ≡ Some e =
        sym (found-without-same w m.past.queue) ∙ subst (λ z. entry_of z (without w m.past.queue) ≡ Some e) same found in cc
    | inr differs ↦ h.undated e (sym (found-without subject.Agent w m.past.queue differs) ∙ found)
  ];
  owned = owned_in m.past.queue m.past.bases h.owned (without w m.past.queue) (λ t e found. elim (cases_who (subject.Task t) w) [
    | inl same ↦ let wrong : None ≡ Some e =
        sym (found-without-same w m.past.queue) ∙ subst (λ z. entry_of z (without w m.past.queue) ≡ Some e) same found in cc
    | inr differs ↦ inr (e, sym (found-without (subject.Task t) w m.past.queue differs) ∙ found)
  ]);
}

more_levels : (k n level : ℕ) (levels : List (ℕ × ℕ)) → is_some (level_of k levels) ≡ true → is_some (level_of k ((n, level) ∷ levels)) ≡ true
more_levels k n level levels known = elim (cases_Bool (k == n)) [
  | inl same ↦ ap (λ t. is_some (cond t (Some level) (level_of k levels))) same
  | inr other ↦ ap (λ t. is_some (cond t (Some level) (level_of k levels))) other ∙ known
]

base_sound : (n level : ℕ) (m : Moving) → SoundOf m → Sound m.past.queue ((n, level) ∷ m.past.bases)
base_sound n level m h = record {
  once = h.once;
  undated = h.undated;
  owned = λ t e found. more_levels t.0 n level m.past.bases (h.owned t e found);
}

pub step_sound : (m : Moving) (event : Event) → is_moved_rightly m event ≡ true → SoundOf m → SoundOf (moving_after m event)
step_sound m (line.Ready w level Head d) moved h =
    let parts = and_parts (is_known w m && is_dated_rightly w d) (somebody_eq m.past.runner (Some w)) moved in
    let two = and_parts (is_known w m) (is_dated_rightly w d) parts.0 in
    head_sound (record { who = w; level = level; deadline = d }) m two.0 two.1 h
step_sound m (line.Ready w level Tail d) moved h =
    let parts = and_parts (is_known w m && is_dated_rightly w d && is_agent_level w level m) (may_be_behind w m) moved in
    let three = and_parts (is_known w m && is_dated_rightly w d) (is_agent_level w level m) parts.0 in
    let two = and_parts (is_known w m) (is_dated_rightly w d) three.0 in
    tail_sound (record { who = w; level = level; deadline = d }) m two.0 two.1 h
step_sound m (line.Block w why) moved h = out_sound w m h
step_sound m (line.Done t) moved h = out_sound (subject.Task t) m h
step_sound m (line.New (created.Task t) name level) moved h = base_sound t.0 level m h
step_sound m (line.New (created.Object o) name level) moved h = h
step_sound m (line.Base t level) moved h = base_sound t.0 level m h
step_sound m _ moved h = h

-- ---- within a tick

pub not_holding : (t : Bool) → not t ≡ true → t ≡ false
not_holding true e = cc
not_holding false e = refl

-- who is placed behind all has nothing open
behind_idle : (s : Start) (w : Who) (m : Moving) → WithinOf s m → may_be_behind w m ≡ true → has_open w m.past.actions ≡ false
behind_idle s w m k may = elim (cases_Bool (has_open w m.past.actions)) [
  | inr none ↦ none
  | inl holds ↦ k.waits w (sym (ap (λ t. not t || list_any (λ other. who_eq w other) m.found) holds) ∙ may)
]

first_entry : (w : Who) (o : Option Entry) → somebody_eq (who_of o) (Some w) ≡ true → (h : Entry) × ((o ≡ Some h) × (h.who ≡ w))
first_entry w None e = cc
first_entry w (Some h) e =
    let same : Some h.who ≡ Some w = somebody_is (Some h.who) (Some w) e in
    (h, (refl, cc))

entry_low : (h : Entry) (base : Option ℕ) (o : Option ℕ) → is_entry_below (Some h) base o ≡ true → (c : ℕ) → o ≡ Some c → h.level ≤ c
entry_low h base None e c is = cc
entry_low h base (Some d) e c is =
    let same : d ≡ c = cc in
    let low : h.level ≤ d = leb-true h.level d (and_parts (leb h.level d) (is_base_below h.deadline base d) e).0 in
    omega (arith, low, same)

-- what is known of who enters
enters_calm : (s : Start) (touched : List Who) (m : Moving) (t : TaskNo) (h : Entry) → s.ran ≡ Some (subject.Task t) → is_among (subject.Task t) touched ≡ false
    → CalmOf s.ran touched m → entry_of (subject.Task t) m.past.queue ≡ Some h
    → Idle m.past.actions m.past.bases t h ⊎ Busy m.past.actions m.ceilings t h
enters_calm s touched m t h is among calm found = calm t is among h found

enter_tie : (s : Start) (touched : List Who) (m : Moving) (w : Who) (o : ObjectNo) (mode : Mode) (h : Entry) (c : ℕ) → h.who ≡ w → SoundOf m → s.ran ≡ Some w
    → is_among w touched ≡ false → CalmOf s.ran touched m → entry_of w m.past.queue ≡ Some h
    → is_within (own_level w m.past.bases m.agent) (Some c) ≡ true → WithinOf s m
    → (u : Who) (e : Entry) → who_eq u h.who ≡ false → entry_of u m.past.queue ≡ Some e → e.level ≡ h.level → is_some h.deadline ≡ true
    → is_some e.deadline ≡ true → h.level ≡ c
    → Apart m.past.queue (record { object = o.0; who = h.who; mode = mode } ∷ m.past.actions) m.past.bases m.agent h.who u c e
enter_tie s touched m (subject.Task t) o mode h c same sound is among calm found within k =
    tie_apart t o mode h m.past.queue m.past.actions m.past.bases m.agent m.ceilings c same within (enters_calm s touched m t h is among calm found) k.apart
enter_tie s touched m subject.Agent o mode h c same sound is among calm found within k = λ u e other there level dated e_dated at.
    let wrong : false ≡ true = subst (λ d. is_some d ≡ true) (sound.undated h found) dated in
    cc

enter_step : (s : Start) (touched : List Who) (m : Moving) (w : Who) (o : ObjectNo) (mode : Mode) → SoundOf m → s.ran ≡ m.past.runner
    → comes_rightly w o m ≡ true → is_entry_below (entry_of w m.past.queue) (base_of w m.past.bases) (level_of o.0 m.ceilings) ≡ true
    → is_among w touched ≡ false → CalmOf s.ran touched m → WithinOf s m → WithinOf s (moving_after m (line.Enter w o mode))
enter_step s touched m w o mode sound ran comes low among calm k =
    let parts =
    and_parts (somebody_eq m.past.runner (Some w) && somebody_eq (who_of (head_of m.past.queue)) (Some w))
    (is_within (own_level w m.past.bases m.agent) (level_of o.0 m.ceilings)) comes in
    let two = and_parts (somebody_eq m.past.runner (Some w)) (somebody_eq (who_of (head_of m.past.queue)) (Some w)) parts.0 in
    let h = first_entry w (head_of m.past.queue) two.1 in
    let first = heads m.past.queue sound.once h.0 h.1.0 in
    let c = (known_within (own_level w m.past.bases m.agent) (level_of o.0 m.ceilings) parts.1).1 in
    let is_w : s.ran ≡ Some w = ran ∙ somebody_is m.past.runner (Some w) two.0 in
    let is : s.ran ≡ Some h.0.who = is_w ∙ ap Some (sym h.1.1) in
    let there : entry_of w m.past.queue ≡ Some h.0 = subst (λ z. entry_of z m.past.queue ≡ Some h.0) h.1.1 first.there in
    let level : h.0.level ≤ c.0 =
    entry_low h.0 (base_of w m.past.bases) (level_of o.0 m.ceilings)
    (sym (ap (λ e. is_entry_below e (base_of w m.past.bases) (level_of o.0 m.ceilings)) there) ∙ low) c.0 c.1 in
    let within : is_within (own_level w m.past.bases m.agent) (Some c.0) ≡ true =
    subst (λ l. is_within (own_level w m.past.bases m.agent) l ≡ true) c.1 parts.1 in
    subst (λ z. WithinOf s (moving_after m (line.Enter z o mode))) h.1.1
    (enter_within s o mode h.0 m.past.queue m.past.actions m.past.bases m.agent m.ceilings m.found is first c.0 c.1 level
    (subst (λ z. is_within (own_level z m.past.bases m.agent) (level_of o.0 m.ceilings) ≡ true) (sym h.1.1) parts.1)
    (enter_tie s touched m w o mode h.0 c.0 h.1.1 sound is_w among calm there within k) k)

agent_rises : (agent : Option ℕ) (level : ℕ) → is_level_of agent level ≡ true → (bases : List (ℕ × ℕ)) (u : Who) (b : ℕ) → own_level u bases agent ≡ Some b
    → own_level u bases (Some level) ≡ Some b
agent_rises agent level same bases (subject.Task t) b is = is
agent_rises None level same bases subject.Agent b is = cc
agent_rises (Some other) level same bases subject.Agent b is =
    let one : other ≡ level = eqb-true other level same in
    ap Some (sym one) ∙ is

above_by : (c : ℕ) (o p : Option ℕ) → ((b : ℕ) → o ≡ Some b → p ≡ Some b) → is_above c o ≡ true → is_above c p ≡ true
above_by c None p same e = cc
above_by c (Some b) p same e = subst (λ q. is_above c q ≡ true) (sym (same b refl)) e

within_by : (o p limit : Option ℕ) → ((b : ℕ) → o ≡ Some b → p ≡ Some b) → is_within o limit ≡ true → is_within p limit ≡ true
within_by None p limit same e = cc
within_by (Some b) p limit same e = subst (λ q. is_within q limit ≡ true) (sym (same b refl)) e

pub step_within : (s : Start) (touched : List Who) (m : Moving) (event : Event) → SoundOf m → s.ran ≡ m.past.runner → is_moved_rightly m event ≡ true
    → is_below_ceiling (record { entries = m.past.queue; ceilings = m.ceilings; bases = m.past.bases }) event ≡ true → sets_no_base event ≡ true
    → finds_none_held event ≡ true
    → is_fresh_entry touched event ≡ true → CalmOf s.ran touched m → WithinOf s m → WithinOf s (moving_after m event)
step_within s touched m (line.Ready (subject.Task t) level Head d) sound ran moved low no_base unheld fresh_one calm k =
    head_within s (record { who = subject.Task t; level = level; deadline = d }) m.past.queue m.past.actions m.past.bases m.agent m.ceilings m.found
    (ran
    ∙ somebody_is m.past.runner (Some (subject.Task t))
    (and_parts (is_known (subject.Task t) m && true) (somebody_eq m.past.runner (Some (subject.Task t))) moved).1) k
step_within s touched m (line.Ready subject.Agent level Head d) sound ran moved low no_base unheld fresh_one calm k =
    head_within s (record { who = subject.Agent; level = level; deadline = d }) m.past.queue m.past.actions m.past.bases m.agent m.ceilings m.found
    (ran ∙ somebody_is m.past.runner (Some subject.Agent) (and_parts (is_none d) (somebody_eq m.past.runner (Some subject.Agent)) moved).1) k
step_within s touched m (line.Ready (subject.Task t) level Tail d) sound ran moved low no_base unheld fresh_one calm k =
    let parts = and_parts (is_known (subject.Task t) m && true && true) (may_be_behind (subject.Task t) m) moved in
    let none = behind_idle s (subject.Task t) m k parts.1 in
    tail_within s
    (record { who = subject.Task t; level = level; deadline = d }) m.past.queue m.past.actions m.past.bases m.agent m.agent m.ceilings m.found none
    (λ c u h. h) (λ a h. h) (λ v c before. fresh before none t refl) k
step_within s touched m (line.Ready subject.Agent level Tail d) sound ran moved low no_base unheld fresh_one calm k =
    let parts = and_parts (is_none d && is_level_of m.agent level) (may_be_behind subject.Agent m) moved in
    let two = and_parts (is_none d) (is_level_of m.agent level) parts.0 in
    let none = behind_idle s subject.Agent m k parts.1 in
    let rises : (u : Who) (b : ℕ) → own_level u m.past.bases m.agent ≡ Some b → own_level u m.past.bases (Some level) ≡ Some b =
    agent_rises m.agent level two.1 m.past.bases in
    tail_within s (record { who = subject.Agent; level = level; deadline = d }) m.past.queue m.past.actions m.past.bases m.agent
    (Some level) m.ceilings m.found none
    (λ c u h. above_by c (own_level u m.past.bases m.agent) (own_level u m.past.bases (Some level)) (rises u) h)
    (λ a h. within_by (own_level a.who m.past.bases m.agent) (own_level a.who m.past.bases (Some level)) (level_of a.object m.ceilings) (rises a.who) h)
    (λ v c before. elim (cases_lt c level) [ inl over ↦ above (lt-ltb c level over) | inr under ↦ tied (none_date d two.0) under (inl before) ]) k
step_within s touched m (line.Block w why) sound ran moved low no_base unheld fresh_one calm k =
    out_within s w m.past.queue m.past.actions m.past.bases m.agent m.ceilings m.found (not_holding (has_open w m.past.actions) moved) k
step_within s touched m (line.Done t) sound ran moved low no_base unheld fresh_one calm k =
    out_within s (subject.Task t) m.past.queue m.past.actions m.past.bases m.agent m.ceilings m.found
    (not_holding (has_open (subject.Task t) m.past.actions) moved) k
step_within s touched m (line.Enter w o mode) sound ran moved low no_base unheld fresh_one calm k =
    enter_step s touched m w o mode sound ran moved low (not_holding (is_among w touched) fresh_one) calm k
step_within s touched m (line.Exit w o) sound ran moved low no_base unheld fresh_one calm k =
    exit_within s o.0 w m.past.queue m.past.actions m.past.bases m.agent m.ceilings m.found k
step_within s touched m (line.Held w o mode) sound ran moved low no_base unheld fresh_one calm k = cc
step_within s touched m (line.New (created.Task t) name level) sound ran moved low no_base unheld fresh_one calm k =
    task_within s t.0 level m.past.queue m.past.actions m.past.bases m.agent m.ceilings m.found moved k
step_within s touched m (line.New (created.Object o) name level) sound ran moved low no_base unheld fresh_one calm k =
    object_within s o.0 level m.past.queue m.past.actions m.past.bases m.agent m.ceilings m.found moved k
step_within s touched m (line.Base t level) sound ran moved low no_base unheld fresh_one calm k = cc
step_within s touched m _ sound ran moved low no_base unheld fresh_one calm k = k

-- a line behind the choice changes none of it
pub still_within : (s : Start) (m : Moving) (event : Event) → is_still event ≡ true → WithinOf s m → WithinOf s (moving_after m event)
still_within s m (line.Ready w level end d) still k = cc
still_within s m (line.Block w why) still k = cc
still_within s m (line.Done t) still k = cc
still_within s m (line.Enter w o mode) still k = cc
still_within s m (line.Exit w o) still k = cc
still_within s m (line.Held w o mode) still k = cc
still_within s m (line.New what name level) still k = cc
still_within s m (line.Base t level) still k = cc
still_within s m _ still k = k

-- ---- no object is found held

not_both : (own : Option ℕ) (c : ℕ) → is_within own (Some c) ≡ true → is_above c own ≡ true → false ≡ true
not_both None c e f = e
not_both (Some n) c e f = absurd (omega (arith, leb-true n c e, ltb-true c n f))

pub never_held : (s : Start) (m : Moving) (event : Event) → s.ran ≡ m.past.runner → is_moved_rightly m event ≡ true → is_exclusive m.past.actions event ≡ true
    → WithinOf s m → finds_none_held event ≡ true
never_held s m (line.Held w o mode) ran moved exclusive k =
    let parts =
    and_parts (somebody_eq m.past.runner (Some w) && somebody_eq (who_of (head_of m.past.queue)) (Some w))
    (is_within (own_level w m.past.bases m.agent) (level_of o.0 m.ceilings)) moved in
    let two = and_parts (somebody_eq m.past.runner (Some w)) (somebody_eq (who_of (head_of m.past.queue)) (Some w)) parts.0 in
    let found =
    each_any (RunsAbove s.ran m.past.bases m.agent m.ceilings)
    (λ action. o.0 == action.object && not (who_eq w action.who) && (is_write mode || is_write action.mode)) m.past.actions k.runs exclusive in
    let a = found.0 in
    let one = and_parts (o.0 == a.object && not (who_eq w a.who)) (is_write mode || is_write a.mode) found.1.1 in
    let other = and_parts (o.0 == a.object) (not (who_eq w a.who)) one.0 in
    let c = (known_within (own_level w m.past.bases m.agent) (level_of o.0 m.ceilings) parts.1).1 in
    let ceiling : level_of a.object m.ceilings ≡ Some c.0 = subst (λ n. level_of n m.ceilings ≡ Some c.0) (eqb-true o.0 a.object other.0) c.1 in
    not_both (own_level w m.past.bases m.agent) c.0 (subst (λ l. is_within (own_level w m.past.bases m.agent) l ≡ true) c.1 parts.1)
    (found.1.0 w (ran ∙ somebody_is m.past.runner (Some w) two.0) (not_holding (who_eq w a.who) other.1) c.0 ceiling)
never_held s m _ ran moved exclusive k = refl

-- ---- who stood above its own level when it entered

abbrev pub Unraised : Moving → Type 0
Unraised m = (t : TaskNo) → is_among (subject.Task t) m.raised ≡ true → has_open (subject.Task t) m.past.actions ≡ false

plainly : (t : TaskNo) (m : Moving) (h : Entry) → entry_of (subject.Task t) m.past.queue ≡ Some h → Idle m.past.actions m.past.bases t h
    → stands_plainly (subject.Task t) m.past m.agent ≡ true
plainly t m h found idle =
    let b = idle.1 in
    ap (λ e. is_within (level_in e) (level_of t.0 m.past.bases)) found ∙ ap (λ o. is_within (Some h.level) o) b.1.0 ∙ le-leb h.level b.0 b.1.1.0

by_name : (s : Start) (touched : List Who) (m : Moving) (w : Who) (h : Entry) → s.ran ≡ Some w → entry_of w m.past.queue ≡ Some h → is_among w touched ≡ false
    → CalmOf s.ran touched m → (t : TaskNo) → has_open w m.past.actions ≡ false
    → is_among (subject.Task t) (raised_by false (stands_plainly w m.past m.agent) w m.raised) ≡ true
    → (who_eq (subject.Task t) w ≡ false) × (is_among (subject.Task t) m.raised ≡ true)
by_name s touched m (subject.Task x) h is found among calm t none raised = elim (calm x is among h found) [
  | inl idle ↦
      filter_in (subject.Task x) (subject.Task t) m.raised
      (subst (λ b. is_among (subject.Task t) (raised_by false b (subject.Task x) m.raised) ≡ true) (plainly x m h found idle) raised)
  | inr busy ↦ let wrong : false ≡ true = sym none ∙ busy.0 in cc
]
by_name s touched m subject.Agent h is found among calm t none raised = elim (cases_Bool (stands_plainly subject.Agent m.past m.agent)) [
  | inl plain ↦
      filter_in subject.Agent (subject.Task t) m.raised (subst (λ b. is_among (subject.Task t) (raised_by false b subject.Agent m.raised) ≡ true) plain raised)
  | inr high ↦ (refl, subst (λ b. is_among (subject.Task t) (raised_by false b subject.Agent m.raised) ≡ true) high raised)
]

-- who is raised behind an entry was so before, and is another
raised_before : (s : Start) (touched : List Who) (m : Moving) (w : Who) (h : Entry) → s.ran ≡ Some w → entry_of w m.past.queue ≡ Some h
    → is_among w touched ≡ false → CalmOf s.ran touched m → Unraised m
    → (t : TaskNo) → is_among (subject.Task t) (raised_by (has_open w m.past.actions) (stands_plainly w m.past m.agent) w m.raised) ≡ true
    → (who_eq (subject.Task t) w ≡ false) × (is_among (subject.Task t) m.raised ≡ true)
raised_before s touched m w h is found among calm un t raised = elim (cases_Bool (has_open w m.past.actions)) [
  | inl holds ↦
      let before : is_among (subject.Task t) m.raised ≡ true =
      subst (λ b. is_among (subject.Task t) (raised_by b (stands_plainly w m.past m.agent) w m.raised) ≡ true) holds raised in
      let idle = un t before in (
        elim (cases_who (subject.Task t) w) [
          | inl same ↦ let wrong : false ≡ true = sym idle ∙ subst (λ z. has_open z m.past.actions ≡ true) (sym same) holds in cc
          | inr differs ↦ differs
        ],
        before,
      )
  | inr none ↦
      by_name s touched m w h is found among calm t none
      (subst (λ b. is_among (subject.Task t) (raised_by b (stands_plainly w m.past m.agent) w m.raised) ≡ true) none raised)
]

pub step_raised : (s : Start) (touched : List Who) (m : Moving) (event : Event) → SoundOf m → s.ran ≡ m.past.runner → is_moved_rightly m event ≡ true
    → is_fresh_entry touched event ≡ true → CalmOf s.ran touched m → Unraised m → Unraised (moving_after m event)
step_raised s touched m (line.Enter w o mode) sound ran moved fresh_one calm un = λ t raised.
    let parts =
    and_parts (somebody_eq m.past.runner (Some w) && somebody_eq (who_of (head_of m.past.queue)) (Some w))
    (is_within (own_level w m.past.bases m.agent) (level_of o.0 m.ceilings)) moved in
    let two = and_parts (somebody_eq m.past.runner (Some w)) (somebody_eq (who_of (head_of m.past.queue)) (Some w)) parts.0 in
    let h = first_entry w (head_of m.past.queue) two.1 in
    let there : entry_of w m.past.queue ≡ Some h.0 = subst (λ z. entry_of z m.past.queue ≡ Some h.0) h.1.1 (heads m.past.queue sound.once h.0 h.1.0).there in
    let before =
    raised_before s touched m w h.0 (ran ∙ somebody_is m.past.runner (Some w) two.0) there (not_holding (is_among w touched) fresh_one) calm un t raised in
    or_from (who_eq (subject.Task t) w) (has_open (subject.Task t) m.past.actions) before.0 (un t before.1)
step_raised s touched m (line.Exit w o) sound ran moved fresh_one calm un = λ t raised. closed-none (subject.Task t) o.0 w m.past.actions (un t raised)
step_raised s touched m _ sound ran moved fresh_one calm un = un

pub still_raised : (m : Moving) (event : Event) → is_still event ≡ true → Unraised m → Unraised (moving_after m event)
still_raised m (line.Enter w o mode) still un = cc
still_raised m (line.Exit w o) still un = cc
still_raised m _ still un = un
