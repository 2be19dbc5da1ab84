-- Who runs, up to the first line of a tick that speaks of it: it has nothing open and stands plainly, or it stands, where it has
-- a deadline, at the ceiling of an object that it has open.
use Rattle.std.proofs.Common.{◌≡◌, ℕ, ◌<◌, ◌≤◌, ◌⊎◌, ◌==◌, Bool, true, false, cond, ◌&&◌, ◌||◌, List, [], ◌∷◌, ◌++◌}
use Rattle.std.proofs.Common.{Option, Some, None, is_some, is_none, refl, sym, ap, subst, ◌∙◌, arith, inl, inr}
use Rattle.std.specs.List.{list_any}
use Rattle.std.proofs.lemmas.Bool.{and_from, and_parts, cases_Bool, eq-eqb, eqb-true, leb-true, or_from, or_parts}
use Rattle.ann_base.specs.declared.identities.ObjectNo.{ObjectNo}
use Rattle.ann_base.specs.declared.identities.TaskNo.{TaskNo}
use Rattle.trace_text.specs.declared.events.Action.{Action}
use Rattle.trace_text.specs.declared.events.Created.TheVariants as created
use Rattle.trace_text.specs.declared.events.Entry.{Entry}
use Rattle.trace_text.specs.declared.events.Event.{Event}
use Rattle.trace_text.specs.declared.events.Event.TheVariants as line
use Rattle.trace_text.specs.declared.events.Mode.{Mode}
use Rattle.trace_text.specs.declared.events.QueueEnd.TheVariants.{Head, Tail}
use Rattle.trace_text.specs.declared.events.Who.{Who}
use Rattle.trace_text.specs.declared.events.Who.TheVariants as subject
use Rattle.trace_text.specs.Laws.{closed, level_of}
use Rattle.trace_text.specs.Queue.{entry_of, who_eq, without}
use Rattle.blocking_laws.specs.BlockingLaws.{is_above}
use Rattle.blocking_laws.specs.MovingLaws.{Moving, is_among, is_moved_rightly, is_within, moving_after, own_level, touched_by}
use Rattle.blocking_laws.specs.Stretches.{has_open, sets_no_base}
use Rattle.blocking_laws.proofs.QueueLemmas.{found_behind, found-append, found-without, who_is}
use Rattle.blocking_laws.proofs.WithinLemmas.{Apart, Each, FromOthers, above, closed-none, each_any, fresh, some_level, strict, tied}

abbrev pub is_level : Option ℕ → ℕ → Bool
is_level None level = false
is_level (Some other) level = other == level

-- an action of somebody, on an object of this ceiling
abbrev pub is_exact : Who → ℕ → List (ℕ × ℕ) → Action → Bool
is_exact w level ceilings a = who_eq w a.who && is_level (level_of a.object ceilings) level

abbrev pub Idle : List Action → List (ℕ × ℕ) → TaskNo → Entry → Type 0
Idle actions bases t h =
    (has_open (subject.Task t) actions ≡ false) × ((b : ℕ) × ((level_of t.0 bases ≡ Some b) × ((h.level ≤ b) × (is_some h.deadline ≡ true → h.level < b))))

abbrev pub Busy : List Action → List (ℕ × ℕ) → TaskNo → Entry → Type 0
Busy actions ceilings t h =
    (has_open (subject.Task t) actions ≡ true) × (is_some h.deadline ≡ true → list_any (is_exact (subject.Task t) h.level ceilings) actions ≡ true)

abbrev pub CalmTask : List Entry → List Action → List (ℕ × ℕ) → List (ℕ × ℕ) → TaskNo → Type 0
CalmTask queue actions bases ceilings t = (h : Entry) → entry_of (subject.Task t) queue ≡ Some h → Idle actions bases t h ⊎ Busy actions ceilings t h

abbrev pub Calm : Option Who → List Who → List Entry → List Action → List (ℕ × ℕ) → List (ℕ × ℕ) → Type 0
Calm ran touched queue actions bases ceilings =
    (t : TaskNo) → ran ≡ Some (subject.Task t) → is_among (subject.Task t) touched ≡ false → CalmTask queue actions bases ceilings t

abbrev pub CalmOf : Option Who → List Who → Moving → Type 0
CalmOf ran touched m = Calm ran touched m.past.queue m.past.actions m.past.bases m.ceilings

-- ---- actions of others

any-closed : (v : Who) (test : Action → Bool) (object : ℕ) (w : Who) (actions : List Action) → who_eq v w ≡ false
    → list_any (λ a. who_eq v a.who && test a) (closed object w actions) ≡ list_any (λ a. who_eq v a.who && test a) actions
any-closed v test object w [] other = refl
any-closed v test object w (a ∷ actions) other = elim (cases_Bool (object == a.object && who_eq w a.who)) [
  | inl same ↦
      let parts = and_parts (object == a.object) (who_eq w a.who) same in
      let differs : who_eq v a.who ≡ false = subst (λ x. who_eq v x ≡ false) (who_is w a.who parts.1) other in
      ap (λ t. list_any (λ x. who_eq v x.who && test x) (cond t actions (a ∷ closed object w actions))) same
      ∙ sym (ap (λ t. (t && test a) || list_any (λ x. who_eq v x.who && test x) actions) differs)
  | inr on ↦
      ap (λ t. list_any (λ x. who_eq v x.who && test x) (cond t actions (a ∷ closed object w actions))) on
      ∙ ap (λ t. (who_eq v a.who && test a) || t) (any-closed v test object w actions other)
]

open-closed : (v : Who) (object : ℕ) (w : Who) (actions : List Action) → who_eq v w ≡ false → has_open v (closed object w actions) ≡ has_open v actions
open-closed v object w [] other = refl
open-closed v object w (a ∷ actions) other = elim (cases_Bool (object == a.object && who_eq w a.who)) [
  | inl same ↦
      let parts = and_parts (object == a.object) (who_eq w a.who) same in
      let differs : who_eq v a.who ≡ false = subst (λ x. who_eq v x ≡ false) (who_is w a.who parts.1) other in
      ap (λ t. has_open v (cond t actions (a ∷ closed object w actions))) same ∙ sym (ap (λ t. t || has_open v actions) differs)
  | inr on ↦
      ap (λ t. has_open v (cond t actions (a ∷ closed object w actions))) on ∙ ap (λ t. who_eq v a.who || t) (open-closed v object w actions other)
]

pub any_by : (test other : Action → Bool) (actions : List Action) → list_any test actions ≡ true → ((a : Action) → test a ≡ true → other a ≡ true)
    → list_any other actions ≡ true
any_by test other [] e f = cc
any_by test other (a ∷ actions) e f = elim (cases_Bool (other a)) [
  | inl holds ↦ ap (λ t. t || list_any other actions) holds
  | inr fails ↦ elim (cases_Bool (test a)) [
    | inl passed ↦ let wrong : true ≡ false = sym (f a passed) ∙ fails in cc
    | inr missed ↦ ap (λ t. t || list_any other actions) fails ∙ any_by test other actions (sym (ap (λ t. t || list_any test actions) missed) ∙ e) f
  ]
]

level_known : (o : Option ℕ) (level : ℕ) → is_level o level ≡ true → o ≡ Some level
level_known None level e = cc
level_known (Some other) level e = ap Some (eqb-true other level e)

exact_kept : (w : Who) (level n new : ℕ) (ceilings : List (ℕ × ℕ)) (a : Action) → is_none (level_of n ceilings) ≡ true → is_exact w level ceilings a ≡ true
    → is_exact w level ((n, new) ∷ ceilings) a ≡ true
exact_kept w level n new ceilings a none e =
    let parts = and_parts (who_eq w a.who) (is_level (level_of a.object ceilings) level) e in
    let same : level_of a.object ((n, new) ∷ ceilings) ≡ Some level =
    some_level a.object n new ceilings none level (level_known (level_of a.object ceilings) level parts.1) in
    and_from (who_eq w a.who) (is_level (level_of a.object ((n, new) ∷ ceilings)) level) parts.0 (ap (λ o. is_level o level) same ∙ eq-eqb level level refl)

-- ---- each line

-- whoever the line speaks of is another
others : (t : TaskNo) (w : Who) (touched : List Who) → is_among (subject.Task t) (w ∷ touched) ≡ false
    → (who_eq (subject.Task t) w ≡ false) × (is_among (subject.Task t) touched ≡ false)
others t w touched e = or_parts (who_eq (subject.Task t) w) (is_among (subject.Task t) touched) e

placed_calm : (ran : Option Who) (touched : List Who) (w : Who) (queue queue' : List Entry) (actions : List Action) (bases ceilings : List (ℕ × ℕ))
    → ((t : TaskNo) → who_eq (subject.Task t) w ≡ false → entry_of (subject.Task t) queue' ≡ entry_of (subject.Task t) queue)
    → Calm ran touched queue actions bases ceilings → Calm ran (w ∷ touched) queue' actions bases ceilings
placed_calm ran touched w queue queue' actions bases ceilings same k = λ t is among h found.
    let other = others t w touched among in
    k t is other.1 h (sym (same t other.0) ∙ found)

pub step_calm : (ran : Option Who) (touched : List Who) (m : Moving) (event : Event) → is_moved_rightly m event ≡ true → sets_no_base event ≡ true
    → CalmOf ran touched m → CalmOf ran (touched_by event ++ touched) (moving_after m event)
step_calm ran touched m (line.Ready w level Head d) moved no_base k =
    placed_calm ran touched w m.past.queue (record { who = w; level = level; deadline = d } ∷ without w m.past.queue) m.past.actions m.past.bases m.ceilings
    (λ t other. found_behind (subject.Task t) (record { who = w; level = level; deadline = d }) (without w m.past.queue) other
    ∙ found-without (subject.Task t) w m.past.queue other) k
step_calm ran touched m (line.Ready w level Tail d) moved no_base k =
    placed_calm ran touched w m.past.queue
    (without w m.past.queue ++ record { who = w; level = level; deadline = d } ∷ []) m.past.actions m.past.bases m.ceilings
    (λ t other. found-append (subject.Task t) (without w m.past.queue) (record { who = w; level = level; deadline = d }) other
    ∙ found-without (subject.Task t) w m.past.queue other) k
step_calm ran touched m (line.Block w why) moved no_base k =
    placed_calm ran touched w m.past.queue (without w m.past.queue) m.past.actions m.past.bases m.ceilings
    (λ t other. found-without (subject.Task t) w m.past.queue other) k
step_calm ran touched m (line.Done x) moved no_base k =
    placed_calm ran touched (subject.Task x) m.past.queue (without (subject.Task x) m.past.queue) m.past.actions m.past.bases m.ceilings
    (λ t other. found-without (subject.Task t) (subject.Task x) m.past.queue other) k
step_calm ran touched m (line.Enter w o mode) moved no_base k = λ t is among h found.
    let other = others t w touched among in
    elim (k t is other.1 h found) [
      | inl idle ↦ inl (or_from (who_eq (subject.Task t) w) (has_open (subject.Task t) m.past.actions) other.0 idle.0, idle.1)
      | inr busy ↦ inr (
        ap (λ x. x || has_open (subject.Task t) m.past.actions) other.0 ∙ busy.0,
        λ dated. ap (λ x. (x && is_level (level_of o.0 m.ceilings) h.level) || list_any (is_exact (subject.Task t) h.level m.ceilings) m.past.actions) other.0
            ∙ busy.1 dated,
      )
    ]
step_calm ran touched m (line.Exit w o) moved no_base k = λ t is among h found.
    let other = others t w touched among in
    elim (k t is other.1 h found) [
      | inl idle ↦ inl (closed-none (subject.Task t) o.0 w m.past.actions idle.0, idle.1)
      | inr busy ↦ inr (
        open-closed (subject.Task t) o.0 w m.past.actions other.0 ∙ busy.0,
        λ dated. any-closed (subject.Task t) (λ a. is_level (level_of a.object m.ceilings) h.level) o.0 w m.past.actions other.0 ∙ busy.1 dated,
      )
    ]
step_calm ran touched m (line.New (created.Task x) name level) moved no_base k = λ t is among h found. elim (k t is among h found) [
  | inl idle ↦ inl (idle.0, (idle.1.0, (some_level t.0 x.0 level m.past.bases moved idle.1.0 idle.1.1.0, idle.1.1.1)))
  | inr busy ↦ inr busy
]
step_calm ran touched m (line.New (created.Object o) name level) moved no_base k = λ t is among h found. elim (k t is among h found) [
  | inl idle ↦ inl idle
  | inr busy ↦ inr (
    busy.0,
    λ dated. any_by (is_exact (subject.Task t) h.level m.ceilings) (is_exact (subject.Task t) h.level ((o.0, level) ∷ m.ceilings)) m.past.actions (busy.1 dated)
        (λ a e. exact_kept (subject.Task t) h.level o.0 level m.ceilings a moved e),
  )
]
step_calm ran touched m (line.Base t level) moved no_base k = cc
step_calm ran touched m _ moved no_base k = k

-- ---- who enters an object at whose ceiling it stands, beside others with deadlines

from_old : (o : ObjectNo) (mode : Mode) (h : Entry) (queue : List Entry) (actions : List Action) (bases : List (ℕ × ℕ)) (agent : Option ℕ) (c : ℕ) (u : Who)
    (e : Entry)
    → who_eq u h.who ≡ false
    → e.level ≡ h.level
    → is_some e.deadline ≡ true
    → h.level ≡ c
    → Apart queue actions bases agent h.who u h.level e → Apart queue (record { object = o.0; who = h.who; mode = mode } ∷ actions) bases agent h.who u c e
from_old o mode h queue actions bases agent c u e other level dated at (above x) = above (subst (λ n. is_above n (own_level u bases agent) ≡ true) at x)
from_old o mode h queue actions bases agent c u e other level dated at (strict x) = absurd (omega (arith, x, level))
from_old o mode h queue actions bases agent c u e other level dated at (tied none low lead) =
    let wrong : false ≡ true = subst (λ d. is_some d ≡ true) none dated in cc
from_old o mode h queue actions bases agent c u e other level dated at (fresh before none t is) =
    fresh before (or_from (who_eq u h.who) (has_open u actions) other none) t is

pub tie_apart : (t : TaskNo) (o : ObjectNo) (mode : Mode) (h : Entry) (queue : List Entry) (actions : List Action) (bases : List (ℕ × ℕ)) (agent : Option ℕ)
    (ceilings : List (ℕ × ℕ)) (c : ℕ)
    → h.who ≡ subject.Task t
    → is_within (level_of t.0 bases) (Some c) ≡ true → Idle actions bases t h ⊎ Busy actions ceilings t h
    → Each (FromOthers queue actions bases agent ceilings) actions
    → (u : Who) (e : Entry) → who_eq u h.who ≡ false → entry_of u queue ≡ Some e → e.level ≡ h.level → is_some h.deadline ≡ true → is_some e.deadline ≡ true
    → h.level ≡ c
    → Apart queue (record { object = o.0; who = h.who; mode = mode } ∷ actions) bases agent h.who u c e
tie_apart t o mode h queue actions bases agent ceilings c is within (inl idle) each u e other found level dated e_dated at =
    let b = idle.1 in
    let low : is_within (Some b.0) (Some c) ≡ true = subst (λ x. is_within x (Some c) ≡ true) b.1.0 within in
    absurd (omega (arith, leb-true b.0 c low, b.1.1.1 dated, at))
tie_apart t o mode h queue actions bases agent ceilings c is within (inr busy) each u e other found level dated e_dated at =
    let a = each_any (FromOthers queue actions bases agent ceilings) (is_exact (subject.Task t) h.level ceilings) actions each (busy.1 dated) in
    let parts = and_parts (who_eq (subject.Task t) a.0.who) (is_level (level_of a.0.object ceilings) h.level) a.1.1 in
    let same : h.who ≡ a.0.who = is ∙ who_is (subject.Task t) a.0.who parts.0 in
    from_old o mode h queue actions bases agent c u e other level e_dated at
    (subst (λ w. Apart queue actions bases agent w u h.level e) (sym same)
    (a.1.0 h.level (level_known (level_of a.0.object ceilings) h.level parts.1) u (subst (λ w. who_eq u w ≡ false) same other) e found))
