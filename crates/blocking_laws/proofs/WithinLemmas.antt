-- Within a tick of a stretch: whoever has an object open stands before all others whose base priorities are not above its
-- ceiling, line by line.
use Rattle.std.proofs.Common.{◌≡◌, ℕ, ◌<◌, ◌≤◌, ◌⊎◌, ◌==◌, Bool, true, false, not, cond, ◌&&◌, ◌||◌, List, [], ◌∷◌}
use Rattle.std.proofs.Common.{◌++◌, Option, Some, None, is_some, is_none, refl, sym, ap, subst, ◌∙◌, arith, inl, inr}
use Rattle.std.specs.Prelude.{filter}
use Rattle.std.specs.List.{list_any}
use Rattle.std.proofs.lemmas.Bool.{cases_Bool, cases_lt, eqb-true, or_from, or_left as or_one, or_parts, or_right as or_on}
use Rattle.ann_base.specs.declared.identities.ObjectNo.{ObjectNo}
use Rattle.ann_base.specs.declared.identities.TaskNo.{TaskNo}
use Rattle.trace_text.specs.declared.events.Action.{Action}
use Rattle.trace_text.specs.declared.events.Entry.{Entry}
use Rattle.trace_text.specs.declared.events.Mode.{Mode}
use Rattle.trace_text.specs.declared.events.Who.{Who}
use Rattle.trace_text.specs.declared.events.Who.TheVariants as subject
use Rattle.trace_text.specs.Laws.{closed, level_of}
use Rattle.trace_text.specs.Queue.{entry_of, who_eq, without}
use Rattle.blocking_laws.specs.BlockingLaws.{is_above}
use Rattle.blocking_laws.specs.MovingLaws.{without_name, Moving, is_within, own_level}
use Rattle.blocking_laws.specs.Stretches.{has_open}
use Rattle.blocking_laws.proofs.QueueLemmas.{cases_date, Heads, Once, cases_who, found_at, found_behind, found-append, found-last}
use Rattle.blocking_laws.proofs.QueueLemmas.{found-without, found-without-same, is_who, not_who, precedes, precedes_at}
use Rattle.blocking_laws.proofs.QueueLemmas.{precedes_behind, precedes-append, precedes-last, precedes-without, who_same}

-- ---- facts of each open action

abbrev pub Each : (Action → Type 0) → List Action → Type 0
Each P [] = Unit {0}
Each P (a ∷ actions) = P a × Each P actions

pub each_from : {P Q : Action → Type 0} → ((a : Action) → P a → Q a) → (actions : List Action) → Each P actions → Each Q actions
each_from f [] each = tt
each_from f (a ∷ actions) each = (f a each.0, each_from f actions each.1)

pub each_both : (P Q : Action → Type 0) (actions : List Action) → Each P actions → Each Q actions → Each (λ a. P a × Q a) actions
each_both P Q [] p q = tt
each_both P Q (a ∷ actions) p q = ((p.0, q.0), each_both P Q actions p.1 q.1)

pub each_closed : (P : Action → Type 0) (object : ℕ) (who : Who) (actions : List Action) → Each P actions → Each P (closed object who actions)
each_closed P object who [] each = tt
each_closed P object who (a ∷ actions) each = elim (cases_Bool (object == a.object && who_eq who a.who)) [
  | inl same ↦ subst (Each P) (sym (ap (λ t. cond t actions (a ∷ closed object who actions)) same)) each.1
  | inr other ↦ subst (Each P) (sym (ap (λ t. cond t actions (a ∷ closed object who actions)) other)) (each.0, each_closed P object who actions each.1)
]

-- one that passes a test has the fact
pub each_any : (P : Action → Type 0) (test : Action → Bool) (actions : List Action) → Each P actions → list_any test actions ≡ true
    → (a : Action) × (P a × (test a ≡ true))
each_any P test [] each any = cc
each_any P test (a ∷ actions) each any = elim (cases_Bool (test a)) [
  | inl holds ↦ (a, (each.0, holds))
  | inr fails ↦ each_any P test actions each.1 (sym (ap (λ t. t || list_any test actions) fails) ∙ any)
]

-- none of the actions is of somebody who has none open
pub none_of : (w : Who) (actions : List Action) → has_open w actions ≡ false → Each (λ a. who_eq w a.who ≡ false) actions
none_of w [] none = tt
none_of w (a ∷ actions) none = let parts = or_parts (who_eq w a.who) (has_open w actions) none in (parts.0, none_of w actions parts.1)

pub closed-none : (w : Who) (object : ℕ) (who : Who) (actions : List Action) → has_open w actions ≡ false → has_open w (closed object who actions) ≡ false
closed-none w object who [] none = refl
closed-none w object who (a ∷ actions) none =
    let parts = or_parts (who_eq w a.who) (has_open w actions) none in
    elim (cases_Bool (object == a.object && who_eq who a.who)) [
      | inl same ↦ ap (λ t. has_open w (cond t actions (a ∷ closed object who actions))) same ∙ parts.1
      | inr other ↦
          ap (λ t. has_open w (cond t actions (a ∷ closed object who actions))) other
          ∙ or_from (who_eq w a.who) (has_open w (closed object who actions)) parts.0 (closed-none w object who actions parts.1)
    ]

-- whoever has one open after an end had one before
pub closed-open : (w : Who) (object : ℕ) (who : Who) (actions : List Action) → has_open w (closed object who actions) ≡ true → has_open w actions ≡ true
closed-open w object who actions still = elim (cases_Bool (has_open w actions)) [
  | inl holds ↦ holds
  | inr none ↦ let wrong : false ≡ true = sym (closed-none w object who actions none) ∙ still in cc
]

-- ---- what is known of the queue behind any line

abbrev pub Owned : List Entry → List (ℕ × ℕ) → Type 0
Owned queue bases = (t : TaskNo) (e : Entry) → entry_of (subject.Task t) queue ≡ Some e → is_some (level_of t.0 bases) ≡ true

pub record Sound (queue : List Entry) (bases : List (ℕ × ℕ)) : Type 0 where
  pub once : Once queue
  pub undated : (e : Entry) → entry_of subject.Agent queue ≡ Some e → e.deadline ≡ None
  pub owned : Owned queue bases

-- ---- two of whom one has an object open

-- whom a line or its deadline puts before another without one
abbrev pub Leads_in : List Entry → Who → Who → Entry → Type 0
Leads_in queue v u e = (precedes v u queue ≡ true) ⊎ ((f : Entry) × ((entry_of v queue ≡ Some f) × ((is_some f.deadline ≡ true) × (e.level ≤ f.level))))

pub data Apart (queue : List Entry) (actions : List Action) (bases : List (ℕ × ℕ)) (agent : Option ℕ) (v u : Who) (c : ℕ) (e : Entry) : Type 0 where
  above : is_above c (own_level u bases agent) ≡ true → Apart queue actions bases agent v u c e
  strict : e.level < c → Apart queue actions bases agent v u c e
  tied : e.deadline ≡ None → e.level ≤ c → Leads_in queue v u e → Apart queue actions bases agent v u c e
  -- a task that was placed behind all, and has nothing open
  fresh : precedes v u queue ≡ true → has_open u actions ≡ false → (t : TaskNo) → u ≡ subject.Task t → Apart queue actions bases agent v u c e

abbrev pub FromOthers : List Entry → List Action → List (ℕ × ℕ) → Option ℕ → List (ℕ × ℕ) → Action → Type 0
FromOthers queue actions bases agent ceilings a =
    (c : ℕ) → level_of a.object ceilings ≡ Some c → (u : Who) → who_eq u a.who ≡ false → (e : Entry) → entry_of u queue ≡ Some e
    → Apart queue actions bases agent a.who u c e

abbrev pub RunsAbove : Option Who → List (ℕ × ℕ) → Option ℕ → List (ℕ × ℕ) → Action → Type 0
RunsAbove ran bases agent ceilings a =
    (r : Who) → ran ≡ Some r → who_eq r a.who ≡ false → (c : ℕ) → level_of a.object ceilings ≡ Some c → is_above c (own_level r bases agent) ≡ true

abbrev pub Stands : List Entry → Action → Type 0
Stands queue a = (e : Entry) × (entry_of a.who queue ≡ Some e)

abbrev pub Kept : List (ℕ × ℕ) → Option ℕ → List (ℕ × ℕ) → Action → Type 0
Kept bases agent ceilings a = is_within (own_level a.who bases agent) (level_of a.object ceilings) ≡ true

-- what lines of a tick have led to, from what was shown before them
pub record Start : Type 0 where
  pub ran : Option Who
  pub queue : List Entry
  pub actions : List Action
  pub bases : List (ℕ × ℕ)

pub record Within (s : Start) (queue : List Entry) (actions : List Action) (bases : List (ℕ × ℕ)) (agent : Option ℕ) (ceilings : List (ℕ × ℕ))
    (found : List Who) : Type 0 where
  pub apart : Each (FromOthers queue actions bases agent ceilings) actions
  pub runs : Each (RunsAbove s.ran bases agent ceilings) actions
  pub placed : Each (Stands queue) actions
  pub kept : Each (Kept bases agent ceilings) actions
  pub waits : (w : Who) → list_any (λ o. who_eq w o) found ≡ true → has_open w actions ≡ false
  -- of the tick as a whole
  pub opens : (w : Who) → has_open w actions ≡ true → (has_open w s.actions ≡ true) ⊎ (s.ran ≡ Some w)
  pub stays : (w : Who) → (s.ran ≡ Some w → ⊥) → has_open w actions ≡ true → entry_of w queue ≡ entry_of w s.queue
  pub lasts : (k b : ℕ) → level_of k s.bases ≡ Some b → level_of k bases ≡ Some b

abbrev pub WithinOf : Start → Moving → Type 0
WithinOf s m = Within s m.past.queue m.past.actions m.past.bases m.agent m.ceilings m.found

abbrev pub SoundOf : Moving → Type 0
SoundOf m = Sound m.past.queue m.past.bases

-- ---- steps on one pair

step_pair : {queue queue' : List Entry} {actions actions' : List Action} {bases bases' : List (ℕ × ℕ)} {agent agent' : Option ℕ} {v u : Who} {c : ℕ} {e : Entry}
    → (is_above c (own_level u bases agent) ≡ true → is_above c (own_level u bases' agent') ≡ true)
    → (precedes v u queue ≡ true → precedes v u queue' ≡ true)
    → (has_open u actions ≡ false → (t : TaskNo) → u ≡ subject.Task t → has_open u actions' ≡ false)
    → ((f : Entry) → entry_of v queue ≡ Some f → (entry_of v queue' ≡ Some f) ⊎ (precedes v u queue' ≡ true))
    → Apart queue actions bases agent v u c e → Apart queue' actions' bases' agent' v u c e
step_pair own before idle there (above h) = above (own h)
step_pair own before idle there (strict low) = strict low
step_pair own before idle there (tied none low (inl h)) = tied none low (inl (before h))
step_pair own before idle there (tied none low (inr f)) = elim (there f.0 f.1.0) [
  | inl still ↦ tied none low (inr (f.0, (still, f.1.1)))
  | inr precedes_now ↦ tied none low (inl precedes_now)
]
step_pair own before idle there (fresh h none t is) = fresh (before h) (idle none t is) t is

-- ---- who ran is placed before all

head_pair : (ran : Option Who) (x : Entry) (queue : List Entry) (actions : List Action) (bases : List (ℕ × ℕ)) (agent : Option ℕ) (ceilings : List (ℕ × ℕ))
    (a : Action)
    → ran ≡ Some x.who
    → FromOthers queue actions bases agent ceilings a → RunsAbove ran bases agent ceilings a
    → FromOthers (x ∷ without x.who queue) actions bases agent ceilings a
head_pair ran x queue actions bases agent ceilings a is from runs = λ c ceiling u other e there. elim (cases_who u x.who) [
  | inl same ↦
      above (subst (λ z. is_above c (own_level z bases agent) ≡ true) (sym same) (runs x.who is (subst (λ z. who_eq z a.who ≡ false) same other) c ceiling))
  | inr differs ↦ step_pair (λ h. h)
      (λ before. elim (cases_who a.who x.who) [
        | inl own ↦ precedes_at a.who u x (without x.who queue) (is_who a.who x.who own)
        | inr not_own ↦ precedes_behind a.who u x (without x.who queue) not_own differs ∙ precedes-without a.who u x.who queue not_own differs before
      ])
      (λ none t is_task. none)
      (λ f found. elim (cases_who a.who x.who) [
        | inl own ↦ inr (precedes_at a.who u x (without x.who queue) (is_who a.who x.who own))
        | inr not_own ↦ inl (found_behind a.who x (without x.who queue) not_own ∙ found-without a.who x.who queue not_own ∙ found)
      ])
      (from c ceiling u other e (sym (found-without u x.who queue differs) ∙ sym (found_behind u x (without x.who queue) differs) ∙ there))
]

head_stands : (x : Entry) (queue : List Entry) (a : Action) → Stands queue a → Stands (x ∷ without x.who queue) a
head_stands x queue a stands = elim (cases_who a.who x.who) [
  | inl own ↦ (x, found_at a.who x (without x.who queue) (is_who a.who x.who own))
  | inr not_own ↦ (stands.0, found_behind a.who x (without x.who queue) not_own ∙ found-without a.who x.who queue not_own ∙ stands.1)
]

pub head_within : (s : Start) (x : Entry) (queue : List Entry) (actions : List Action) (bases : List (ℕ × ℕ)) (agent : Option ℕ) (ceilings : List (ℕ × ℕ))
    (found : List Who)
    → s.ran ≡ Some x.who
    → Within s queue actions bases agent ceilings found → Within s (x ∷ without x.who queue) actions bases agent ceilings found
head_within s x queue actions bases agent ceilings found is h = record {
  apart = each_from (λ a both. head_pair s.ran x queue actions bases agent ceilings a is both.0 both.1) actions
      (each_both (FromOthers queue actions bases agent ceilings) (RunsAbove s.ran bases agent ceilings) actions h.apart h.runs);
  runs = h.runs;
  placed = each_from (λ a stands. head_stands x queue a stands) actions h.placed;
  kept = h.kept;
  waits = h.waits;
  opens = h.opens;
  stays = λ w not_ran holds. elim (cases_who w x.who) [
    | inl same ↦ absurd (not_ran (is ∙ ap Some (sym same)))
    | inr differs ↦ found_behind w x (without x.who queue) differs ∙ found-without w x.who queue differs ∙ h.stays w not_ran holds
  ];
  lasts = h.lasts;
}

-- ---- somebody who has nothing open is taken out

out_pair : (w : Who) (queue : List Entry) (actions : List Action) (bases : List (ℕ × ℕ)) (agent : Option ℕ) (ceilings : List (ℕ × ℕ)) (a : Action)
    → who_eq w a.who ≡ false
    → FromOthers queue actions bases agent ceilings a → FromOthers (without w queue) actions bases agent ceilings a
out_pair w queue actions bases agent ceilings a another from = λ c ceiling u other e there. elim (cases_who u w) [
  | inl same ↦ let wrong : None ≡ Some e = sym (found-without-same w queue) ∙ subst (λ z. entry_of z (without w queue) ≡ Some e) same there in cc
  | inr differs ↦ step_pair (λ h. h)
      (λ before. precedes-without a.who u w queue (not_who w a.who another) differs before)
      (λ none t is_task. none)
      (λ f found. inl (found-without a.who w queue (not_who w a.who another) ∙ found))
      (from c ceiling u other e (sym (found-without u w queue differs) ∙ there))
]

stays_out : (s : Start) (w v : Who) (queue : List Entry) (actions : List Action) → has_open w actions ≡ false → has_open v actions ≡ true → who_eq v w ≡ false
stays_out s w v queue actions none holds = elim (cases_who v w) [
  | inl same ↦ let wrong : true ≡ false = sym holds ∙ subst (λ z. has_open z actions ≡ false) (sym same) none in cc
  | inr differs ↦ differs
]

pub out_within : (s : Start) (w : Who) (queue : List Entry) (actions : List Action) (bases : List (ℕ × ℕ)) (agent : Option ℕ) (ceilings : List (ℕ × ℕ))
    (found : List Who)
    → has_open w actions ≡ false
    → Within s queue actions bases agent ceilings found → Within s (without w queue) actions bases agent ceilings found
out_within s w queue actions bases agent ceilings found none h = record {
  apart = each_from (λ a both. out_pair w queue actions bases agent ceilings a both.0 both.1) actions
      (each_both (λ a. who_eq w a.who ≡ false) (FromOthers queue actions bases agent ceilings) actions (none_of w actions none) h.apart);
  runs = h.runs;
  placed = each_from (λ a both. (both.1.0, found-without a.who w queue (not_who w a.who both.0) ∙ both.1.1)) actions
      (each_both (λ a. who_eq w a.who ≡ false) (Stands queue) actions (none_of w actions none) h.placed);
  kept = h.kept;
  waits = h.waits;
  opens = h.opens;
  stays = λ v not_ran holds. found-without v w queue (stays_out s w v queue actions none holds) ∙ h.stays v not_ran holds;
  lasts = h.lasts;
}

-- ---- somebody who has nothing open is placed behind all

abbrev Rises : List (ℕ × ℕ) → Option ℕ → Option ℕ → Type 0
Rises bases agent agent' = (c : ℕ) (u : Who) → is_above c (own_level u bases agent) ≡ true → is_above c (own_level u bases agent') ≡ true

tail_pair : (x : Entry) (queue : List Entry) (actions : List Action) (bases : List (ℕ × ℕ)) (agent agent' : Option ℕ) (ceilings : List (ℕ × ℕ)) (a : Action)
    → Rises bases agent agent'
    → ((c : ℕ) → precedes a.who x.who (without x.who queue ++ x ∷ []) ≡ true → Apart (without x.who queue ++ x ∷ []) actions bases agent' a.who x.who c x)
    → who_eq x.who a.who ≡ false → Stands queue a
    → FromOthers queue actions bases agent ceilings a → FromOthers (without x.who queue ++ x ∷ []) actions bases agent' ceilings a
tail_pair x queue actions bases agent agent' ceilings a rises ends another stands from = λ c ceiling u other e there.
    let differs_a : who_eq a.who x.who ≡ false = not_who x.who a.who another in
    elim (cases_who u x.who) [
      | inl same ↦
          let last : entry_of x.who (without x.who queue ++ x ∷ []) ≡ Some x =
          found-last x.who (without x.who queue) x (found-without-same x.who queue) (who_same x.who) in
          let both : Some x ≡ Some e = sym last ∙ subst (λ z. entry_of z (without x.who queue ++ x ∷ []) ≡ Some e) same there in
          let is : x ≡ e = cc in
          let before : precedes a.who x.who (without x.who queue ++ x ∷ []) ≡ true =
          precedes-last a.who x.who (without x.who queue) stands.0 x (found-without a.who x.who queue differs_a ∙ stands.1)
          (found-without-same x.who queue) in
          subst (λ z. Apart (without x.who queue ++ x ∷ []) actions bases agent' a.who z c e) (sym same)
          (subst (λ y. Apart (without x.who queue ++ x ∷ []) actions bases agent' a.who x.who c y) is (ends c before))
      | inr differs ↦ step_pair (rises c u)
          (λ before. precedes-append a.who u (without x.who queue) x (precedes-without a.who u x.who queue differs_a differs before))
          (λ none t is_task. none)
          (λ f found. inl (found-append a.who (without x.who queue) x differs_a ∙ found-without a.who x.who queue differs_a ∙ found))
          (from c ceiling u other e (sym (found-without u x.who queue differs) ∙ sym (found-append u (without x.who queue) x differs) ∙ there))
    ]

pub tail_within : (s : Start) (x : Entry) (queue : List Entry) (actions : List Action) (bases : List (ℕ × ℕ)) (agent agent' : Option ℕ)
    (ceilings : List (ℕ × ℕ)) (found : List Who)
    → has_open x.who actions ≡ false
    → Rises bases agent agent'
    → ((a : Action) → Kept bases agent ceilings a → Kept bases agent' ceilings a)
    → ((v : Who) (c : ℕ) → precedes v x.who (without x.who queue ++ x ∷ []) ≡ true → Apart (without x.who queue ++ x ∷ []) actions bases agent' v x.who c x)
    → Within s queue actions bases agent ceilings found → Within s (without x.who queue ++ x ∷ []) actions bases agent' ceilings found
tail_within s x queue actions bases agent agent' ceilings found none rises keeps ends h =
    let others = none_of x.who actions none in
    record {
      apart = each_from (λ a three. tail_pair x queue actions bases agent agent' ceilings a rises (ends a.who) three.0.0 three.0.1 three.1) actions
          (each_both (λ a. (who_eq x.who a.who ≡ false) × Stands queue a) (FromOthers queue actions bases agent ceilings) actions
          (each_both (λ a. who_eq x.who a.who ≡ false) (Stands queue) actions others h.placed) h.apart);
      runs = each_from (λ a runs. λ r is differs c ceiling. rises c r (runs r is differs c ceiling)) actions h.runs;
      placed =
          each_from (λ a both. (
            both.1.0,
            found-append a.who (without x.who queue) x (not_who x.who a.who both.0) ∙ found-without a.who x.who queue (not_who x.who a.who both.0) ∙ both.1.1,
          )) actions
          (each_both (λ a. who_eq x.who a.who ≡ false) (Stands queue) actions others h.placed);
      kept = each_from keeps actions h.kept;
      waits = h.waits;
      opens = h.opens;
      stays =
          λ v not_ran holds. let differs = stays_out s x.who v queue actions none holds in
          found-append v (without x.who queue) x differs ∙ found-without v x.who queue differs ∙ h.stays v not_ran holds;
      lasts = h.lasts;
    }

-- ---- who ran and is first enters an object

pub filter_in : (w x : Who) (found : List Who) → list_any (λ o. who_eq x o) (filter (λ other. not (who_eq w other)) found) ≡ true
    → (who_eq x w ≡ false) × (list_any (λ o. who_eq x o) found ≡ true)
filter_in w x [] any = cc
filter_in w x (y ∷ found) any = elim (cases_who w y) [
  | inl same ↦
      let dropped : filter (λ other. not (who_eq w other)) (y ∷ found) ≡ filter (λ other. not (who_eq w other)) found =
      ap (λ t. cond (not t) (y ∷ filter (λ other. not (who_eq w other)) found) (filter (λ other. not (who_eq w other)) found)) (is_who w y same) in
      let rest = filter_in w x found (subst (λ ys. list_any (λ o. who_eq x o) ys ≡ true) dropped any) in
      (rest.0, or_on (who_eq x y) (list_any (λ o. who_eq x o) found) rest.1)
  | inr differs ↦
      let stays_there : filter (λ other. not (who_eq w other)) (y ∷ found) ≡ y ∷ filter (λ other. not (who_eq w other)) found =
      ap (λ t. cond (not t) (y ∷ filter (λ other. not (who_eq w other)) found) (filter (λ other. not (who_eq w other)) found)) differs in
      let here : (who_eq x y || list_any (λ o. who_eq x o) (filter (λ other. not (who_eq w other)) found)) ≡ true =
      subst (λ ys. list_any (λ o. who_eq x o) ys ≡ true) stays_there any in
      elim (cases_who x y) [
        | inl same ↦ (
          subst (λ z. who_eq z w ≡ false) (sym same) (not_who w y differs),
          or_one (who_eq x y) (list_any (λ o. who_eq x o) found) (is_who x y same),
        )
        | inr other ↦
            let rest = filter_in w x found (sym (ap (λ t. t || list_any (λ o. who_eq x o) (filter (λ z. not (who_eq w z)) found)) other) ∙ here) in
            (rest.0, or_on (who_eq x y) (list_any (λ o. who_eq x o) found) rest.1)
      ]
]

pub enter_within : (s : Start) (o : ObjectNo) (mode : Mode) (h : Entry) (queue : List Entry) (actions : List Action) (bases : List (ℕ × ℕ)) (agent : Option ℕ)
    (ceilings : List (ℕ × ℕ)) (found : List Who)
    → s.ran ≡ Some h.who
    → Heads h queue
    → (c : ℕ) → level_of o.0 ceilings ≡ Some c → h.level ≤ c → is_within (own_level h.who bases agent) (level_of o.0 ceilings) ≡ true
    → ((u : Who) (e : Entry) → who_eq u h.who ≡ false → entry_of u queue ≡ Some e → e.level ≡ h.level → is_some h.deadline ≡ true → is_some e.deadline ≡ true
    → h.level ≡ c → Apart queue (record { object = o.0; who = h.who; mode = mode } ∷ actions) bases agent h.who u c e)
    → Within s queue actions bases agent ceilings found
    → Within s queue (record { object = o.0; who = h.who; mode = mode } ∷ actions) bases agent ceilings (without_name h.who found)
enter_within s o mode h queue actions bases agent ceilings found is first c ceiling low within_own tie k = record {
  apart = (
    λ d ceiling_d u other e there.
        let both : Some c ≡ Some d = sym ceiling ∙ ceiling_d in
        let same : c ≡ d = cc in
        subst (λ x. Apart queue (record { object = o.0; who = h.who; mode = mode } ∷ actions) bases agent h.who u x e) same
        (elim (first.first u e other there) [
          | inl below ↦ strict (omega (arith, below, low))
          | inr at ↦ elim (cases_lt h.level c) [
            | inl less ↦ strict (omega (arith, at.0, less))
            | inr full ↦ elim at.1 [
              | inr both_none ↦ tied both_none.0 (omega (arith, at.0, low)) (inl both_none.1)
              | inl dated ↦ elim (cases_date e.deadline) [
                | inl none ↦ tied none (omega (arith, at.0, low)) (inr (h, (first.there, (dated, omega (arith, at.0)))))
                | inr e_dated ↦ tie u e other there at.0 dated e_dated (omega (arith, low, full))
              ]
            ]
          ]
        ]),
    each_from (λ a both. λ d ceiling_d u other e there. elim (cases_who u h.who) [
      | inl same ↦
          above
          (subst (λ z. is_above d (own_level z bases agent) ≡ true) (sym same) (both.1 h.who is (subst (λ z. who_eq z a.who ≡ false) same other) d ceiling_d))
      | inr differs ↦
          step_pair (λ z. z) (λ z. z) (λ none t is_task. or_from (who_eq u h.who) (has_open u actions) differs none) (λ f there_f. inl there_f)
          (both.0 d ceiling_d u other e there)
    ]) actions (each_both (FromOthers queue actions bases agent ceilings) (RunsAbove s.ran bases agent ceilings) actions k.apart k.runs),
  );
  runs = (
    λ r is_r differs d ceiling_d.
        let both : Some h.who ≡ Some r = sym is ∙ is_r in
        let same : h.who ≡ r = cc in
        let wrong : true ≡ false = sym (is_who r h.who (sym same)) ∙ differs in
        cc,
    k.runs,
  );
  placed = ((h, first.there), k.placed);
  kept = (within_own, k.kept);
  waits = λ w in_found. let parts = filter_in h.who w found in_found in or_from (who_eq w h.who) (has_open w actions) parts.0 (k.waits w parts.1);
  opens = λ w holds. elim (cases_who w h.who) [
    | inl same ↦ inr (is ∙ ap Some (sym same))
    | inr differs ↦ k.opens w (sym (ap (λ t. t || has_open w actions) differs) ∙ holds)
  ];
  stays = λ w not_ran holds. elim (cases_who w h.who) [
    | inl same ↦ absurd (not_ran (is ∙ ap Some (sym same)))
    | inr differs ↦ k.stays w not_ran (sym (ap (λ t. t || has_open w actions) differs) ∙ holds)
  ];
  lasts = k.lasts;
}

-- ---- somebody leaves an object

pub exit_within : (s : Start) (object : ℕ) (who : Who) (queue : List Entry) (actions : List Action) (bases : List (ℕ × ℕ)) (agent : Option ℕ)
    (ceilings : List (ℕ × ℕ)) (found : List Who)
    → Within s queue actions bases agent ceilings found → Within s queue (closed object who actions) bases agent ceilings found
exit_within s object who queue actions bases agent ceilings found k = record {
  apart =
      each_from (λ a from. λ c ceiling u other e there.
      step_pair (λ z. z) (λ z. z) (λ none t is_task. closed-none u object who actions none) (λ f there_f. inl there_f) (from c ceiling u other e there))
      (closed object who actions)
      (each_closed (FromOthers queue actions bases agent ceilings) object who actions k.apart);
  runs = each_closed (RunsAbove s.ran bases agent ceilings) object who actions k.runs;
  placed = each_closed (Stands queue) object who actions k.placed;
  kept = each_closed (Kept bases agent ceilings) object who actions k.kept;
  waits = λ w in_found. closed-none w object who actions (k.waits w in_found);
  opens = λ w holds. k.opens w (closed-open w object who actions holds);
  stays = λ w not_ran holds. k.stays w not_ran (closed-open w object who actions holds);
  lasts = k.lasts;
}

-- ---- a task or an object is made, with a number of its own

pub some_level : (k n level : ℕ) (levels : List (ℕ × ℕ)) → is_none (level_of n levels) ≡ true → (b : ℕ) → level_of k levels ≡ Some b
    → level_of k ((n, level) ∷ levels) ≡ Some b
some_level k n level levels none b known = elim (cases_Bool (k == n)) [
  | inl same ↦
      let wrong : is_none (Some b) ≡ true = sym (ap is_none known) ∙ subst (λ x. is_none (level_of x levels) ≡ true) (sym (eqb-true k n same)) none in
      cc
  | inr other ↦ ap (λ t. cond t (Some level) (level_of k levels)) other ∙ known
]

known_above : (c : ℕ) (o : Option ℕ) → is_above c o ≡ true → (b : ℕ) × (o ≡ Some b)
known_above c None e = cc
known_above c (Some b) e = (b, refl)

pub known_within : (own limit : Option ℕ) → is_within own limit ≡ true → ((n : ℕ) × (own ≡ Some n)) × ((c : ℕ) × (limit ≡ Some c))
known_within None limit e = cc
known_within (Some n) None e = cc
known_within (Some n) (Some c) e = ((n, refl), (c, refl))

-- a base priority that is known stays
own_known : (n level : ℕ) (bases : List (ℕ × ℕ)) (agent : Option ℕ) → is_none (level_of n bases) ≡ true → (u : Who) (b : ℕ) → own_level u bases agent ≡ Some b
    → own_level u ((n, level) ∷ bases) agent ≡ Some b
own_known n level bases agent none (subject.Task t) b known = some_level t.0 n level bases none b known
own_known n level bases agent none subject.Agent b known = known

pub task_within : (s : Start) (n level : ℕ) (queue : List Entry) (actions : List Action) (bases : List (ℕ × ℕ)) (agent : Option ℕ) (ceilings : List (ℕ × ℕ))
    (found : List Who)
    → is_none (level_of n bases) ≡ true
    → Within s queue actions bases agent ceilings found → Within s queue actions ((n, level) ∷ bases) agent ceilings found
task_within s n level queue actions bases agent ceilings found none k =
    let rises : (c : ℕ) (u : Who) → is_above c (own_level u bases agent) ≡ true → is_above c (own_level u ((n, level) ∷ bases) agent) ≡ true = λ c u h.
    let known = known_above c (own_level u bases agent) h in
    subst (λ o. is_above c o ≡ true) (sym (own_known n level bases agent none u known.0 known.1)) (subst (λ o. is_above c o ≡ true) known.1 h) in
    record {
      apart =
          each_from (λ a from. λ c ceiling u other e there.
          step_pair (rises c u) (λ z. z) (λ idle t is_task. idle) (λ f there_f. inl there_f) (from c ceiling u other e there)) actions k.apart;
      runs = each_from (λ a runs. λ r is differs c ceiling. rises c r (runs r is differs c ceiling)) actions k.runs;
      placed = k.placed;
      kept = each_from (λ a h.
          let known = (known_within (own_level a.who bases agent) (level_of a.object ceilings) h).0 in
          subst (λ o. is_within o (level_of a.object ceilings) ≡ true) (sym (own_known n level bases agent none a.who known.0 known.1))
          (subst (λ o. is_within o (level_of a.object ceilings) ≡ true) known.1 h)) actions k.kept;
      waits = k.waits;
      opens = k.opens;
      stays = k.stays;
      lasts = λ i b known. some_level i n level bases none b (k.lasts i b known);
    }

pub object_within : (s : Start) (n level : ℕ) (queue : List Entry) (actions : List Action) (bases : List (ℕ × ℕ)) (agent : Option ℕ) (ceilings : List (ℕ × ℕ))
    (found : List Who)
    → is_none (level_of n ceilings) ≡ true
    → Within s queue actions bases agent ceilings found → Within s queue actions bases agent ((n, level) ∷ ceilings) found
object_within s n level queue actions bases agent ceilings found none k =
    let same : (a : Action) → Kept bases agent ceilings a → level_of a.object ((n, level) ∷ ceilings) ≡ level_of a.object ceilings = λ a h.
    let known = (known_within (own_level a.who bases agent) (level_of a.object ceilings) h).1 in
    some_level a.object n level ceilings none known.0 known.1 ∙ sym known.1 in
    record {
      apart = each_from (λ a both. λ c ceiling u other e there. both.1 c (sym (same a both.0) ∙ ceiling) u other e there) actions
          (each_both (Kept bases agent ceilings) (FromOthers queue actions bases agent ceilings) actions k.kept k.apart);
      runs = each_from (λ a both. λ r is differs c ceiling. both.1 r is differs c (sym (same a both.0) ∙ ceiling)) actions
          (each_both (Kept bases agent ceilings) (RunsAbove s.ran bases agent ceilings) actions k.kept k.runs);
      placed = k.placed;
      kept = each_from (λ a h. subst (λ o. is_within (own_level a.who bases agent) o ≡ true) (sym (same a h)) h) actions k.kept;
      waits = k.waits;
      opens = k.opens;
      stays = k.stays;
      lasts = k.lasts;
    }
