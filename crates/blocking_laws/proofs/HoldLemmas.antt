-- Which actions stay open through a tick: those of one subject end in the reverse order of their beginning, and only who runs
-- begins one.
use Rattle.std.proofs.Common.{◌≡◌, ℕ, zero, suc, ◌+◌, ◌<◌, ◌≤◌, ◌⊎◌, ◌==◌, Bool, true, false, cond, ◌&&◌, ◌||◌, List}
use Rattle.std.proofs.Common.{[], ◌∷◌, ◌++◌, map, Option, Some, is_none, refl, sym, ap, subst, ◌∙◌, arith, inl, inr}
use Rattle.std.specs.Prelude.{find}
use Rattle.std.specs.List.{list_any}
use Rattle.std.proofs.lemmas.Bool.{and_from, and_parts, cases_Bool, eq-eqb, or_parts, or_right as or_on}
use Rattle.trace_text.specs.declared.events.Action.{Action}
use Rattle.trace_text.specs.declared.events.Created.TheVariants as created
use Rattle.trace_text.specs.declared.events.Event.{Event}
use Rattle.trace_text.specs.declared.events.Event.TheVariants as line
use Rattle.trace_text.specs.declared.events.Who.{Who}
use Rattle.trace_text.specs.Laws.{actions_after, closed, level_of}
use Rattle.trace_text.specs.Queue.{TraceLine, follows_lines, head_of, seen_from, somebody_eq, up_to, who_eq, who_of}
use Rattle.trace_text.proofs.LawsFollowed.{lines_followed, somebody_is}
use Rattle.blocking_laws.specs.Holds.{Hold, Holding, has_hold, holding_after, nothing_held, released}
use Rattle.blocking_laws.specs.MovingLaws.{KeepsProtocol, Moving, is_among, is_choice, is_fresh_entry, is_moved_rightly}
use Rattle.blocking_laws.specs.MovingLaws.{is_on, is_still, is_within, moving_after, nothing_moving, own_level, touched_by}
use Rattle.blocking_laws.proofs.QueueLemmas.{not_who}
use Rattle.blocking_laws.proofs.WithinLemmas.{Each, some_level}
use Rattle.blocking_laws.proofs.StepLemmas.{not_holding}
use Rattle.blocking_laws.proofs.SettledLemmas.{moving_at, runs_on}
use Rattle.blocking_laws.proofs.TickLemmas.{entering, entering_next, follows_next, of_next, quiet, quiet_next, seen_next, seen_part}

-- ---- lists of actions

abbrev pub Member : Hold → List Hold → Type 0
Member x [] = ⊥
Member x (y ∷ ys) = (x ≡ y) ⊎ Member x ys

-- the later began later
abbrev pub Falls : ℕ → List Hold → Type 0
Falls n [] = Unit {0}
Falls n (y ∷ ys) = (y.begun < n) × Falls y.begun ys

abbrev pub actions_of : List Hold → List Action
actions_of = map (λ x. x.action)

member_split : (x y : Hold) (ys : List Hold) → Member x (y ∷ ys) → (x ≡ y) ⊎ Member x ys
member_split x y ys m = m

pub member_below : (x : Hold) (n : ℕ) (xs : List Hold) → Falls n xs → Member x xs → x.begun < n
member_below x n [] falls m = absurd m
member_below x n (y ∷ ys) falls (inl is) = subst (λ (z : Hold). z.begun < n) (sym is) falls.0
member_below x n (y ∷ ys) falls (inr m) = omega (arith, falls.0, member_below x y.begun ys falls.1 m)

falls_more : (n k : ℕ) (xs : List Hold) → n ≤ k → Falls n xs → Falls k xs
falls_more n k [] low falls = tt
falls_more n k (y ∷ ys) low falls = (omega (arith, low, falls.0), falls.1)

-- two that began with one line are one
pub unique : (x y : Hold) (n : ℕ) (xs : List Hold) → Falls n xs → Member x xs → Member y xs → x.begun ≡ y.begun → x ≡ y
unique x y n [] falls m k same = absurd m
unique x y n (z ∷ zs) falls (inl is) (inl other) same = is ∙ sym other
unique x y n (z ∷ zs) falls (inl is) (inr k) same =
    let below = member_below y z.begun zs falls.1 k in
    let here : x.begun ≡ z.begun = ap (λ (w : Hold). w.begun) is in
    absurd (omega (arith, below, here, same))
unique x y n (z ∷ zs) falls (inr m) (inl other) same =
    let below = member_below x z.begun zs falls.1 m in
    let here : y.begun ≡ z.begun = ap (λ (w : Hold). w.begun) other in
    absurd (omega (arith, below, here, same))
unique x y n (z ∷ zs) falls (inr m) (inr k) same = unique x y z.begun zs falls.1 m k same

pub member_held : (x : Hold) (xs : List Hold) → Member x xs → has_hold x xs ≡ true
member_held x [] m = absurd m
member_held x (y ∷ ys) (inl is) = ap (λ t. t || has_hold x ys) (eq-eqb x.begun y.begun (ap (λ (w : Hold). w.begun) is))
member_held x (y ∷ ys) (inr m) = or_on (x.begun == y.begun) (has_hold x ys) (member_held x ys m)

-- ---- an end

released_member : (x : Hold) (o : ℕ) (w : Who) (xs : List Hold) → Member x (released o w xs) → Member x xs
released_member x o w [] m = m
released_member x o w (z ∷ zs) m = elim (cases_Bool (o == z.action.object && who_eq w z.action.who)) [
  | inl same ↦ inr (subst (Member x) (ap (λ t. cond t zs (z ∷ released o w zs)) same) m)
  | inr other ↦ elim (member_split x z (released o w zs) (subst (Member x) (ap (λ t. cond t zs (z ∷ released o w zs)) other) m)) [
    | inl is ↦ inl is
    | inr rest ↦ inr (released_member x o w zs rest)
  ]
]

other_kept : (y : Hold) (o : ℕ) (w : Who) (xs : List Hold) → who_eq w y.action.who ≡ false → Member y xs → Member y (released o w xs)
other_kept y o w [] differs m = m
other_kept y o w (z ∷ zs) differs m = elim (cases_Bool (o == z.action.object && who_eq w z.action.who)) [
  | inr other ↦ subst (Member y) (sym (ap (λ t. cond t zs (z ∷ released o w zs)) other)) (elim (member_split y z zs m) [
    | inl is ↦ inl is
    | inr rest ↦ inr (other_kept y o w zs differs rest)
  ])
  | inl same ↦ subst (Member y) (sym (ap (λ t. cond t zs (z ∷ released o w zs)) same)) (elim (member_split y z zs m) [
    | inr rest ↦ rest
    | inl is ↦
        let parts = and_parts (o == z.action.object) (who_eq w z.action.who) same in
        let wrong : false ≡ true = sym differs ∙ subst (λ (x : Hold). who_eq w x.action.who ≡ true) (sym is) parts.1 in
        cc
  ])
]

released_falls : (n o : ℕ) (w : Who) (xs : List Hold) → Falls n xs → Falls n (released o w xs)
released_falls n o w [] falls = tt
released_falls n o w (z ∷ zs) falls = elim (cases_Bool (o == z.action.object && who_eq w z.action.who)) [
  | inl same ↦ subst (Falls n) (sym (ap (λ t. cond t zs (z ∷ released o w zs)) same)) (falls_more z.begun n zs (omega (arith, falls.0)) falls.1)
  | inr other ↦ subst (Falls n) (sym (ap (λ t. cond t zs (z ∷ released o w zs)) other)) (falls.0, released_falls z.begun o w zs falls.1)
]

-- where the last of somebody ends, its earlier ones stay with any that stays
released_keeps : (x y : Hold) (n o : ℕ) (w : Who) (xs : List Hold) → Falls n xs → is_on o (find (λ a. who_eq w a.who) (actions_of xs)) ≡ true
    → Member x (released o w xs) → Member y xs → y.action.who ≡ x.action.who → y.begun < x.begun
    → Member y (released o w xs)
released_keeps x y n o w [] falls last m k same older = k
released_keeps x y n o w (z ∷ zs) falls last m k same older = elim (cases_Bool (o == z.action.object && who_eq w z.action.who)) [
  | inl ends ↦
      let in_rest : Member x zs = subst (Member x) (ap (λ t. cond t zs (z ∷ released o w zs)) ends) m in
      subst (Member y) (sym (ap (λ t. cond t zs (z ∷ released o w zs)) ends)) (elim (member_split y z zs k) [
        | inr rest ↦ rest
        | inl is ↦
            let below = member_below x z.begun zs falls.1 in_rest in
            let here : y.begun ≡ z.begun = ap (λ (v : Hold). v.begun) is in
            absurd (omega (arith, below, here, older))
      ])
  | inr stays ↦
      let not_own : who_eq w z.action.who ≡ false = elim (cases_Bool (who_eq w z.action.who)) [
        | inr differs ↦ differs
        | inl own ↦
            let on : (o == z.action.object) ≡ true =
            subst (λ f. is_on o f ≡ true) (ap (λ t. cond t (Some z.action) (find (λ a. who_eq w a.who) (actions_of zs))) own) last in
            let wrong : true ≡ false = sym (and_from (o == z.action.object) (who_eq w z.action.who) on own) ∙ stays in
            cc
      ] in
      let last_rest : is_on o (find (λ a. who_eq w a.who) (actions_of zs)) ≡ true =
      subst (λ f. is_on o f ≡ true) (ap (λ t. cond t (Some z.action) (find (λ a. who_eq w a.who) (actions_of zs))) not_own) last in
      let split = member_split x z (released o w zs) (subst (Member x) (ap (λ t. cond t zs (z ∷ released o w zs)) stays) m) in
      subst (Member y) (sym (ap (λ t. cond t zs (z ∷ released o w zs)) stays)) (elim (member_split y z zs k) [
        | inl is ↦ inl is
        | inr rest ↦ elim split [
          | inr x_rest ↦ inr (released_keeps x y z.begun o w zs falls.1 last_rest x_rest rest same older)
          | inl x_is ↦ inr (other_kept y o w zs (subst (λ v. who_eq w v ≡ false) (sym (same ∙ ap (λ (v : Hold). v.action.who) x_is)) not_own) rest)
        ]
      ])
]

-- ---- the lines of a tick

pub record Passed : Type 0 where
  pub ran : Option Who
  pub count : ℕ
  pub holds : List Hold
  pub ceilings : List (ℕ × ℕ)

pub record Held (s : Passed) (touched : List Who) (count : ℕ) (holds : List Hold) (ceilings : List (ℕ × ℕ)) : Type 0 where
  pub falls : Falls count holds
  pub grows : s.count ≤ count
  pub old : (x : Hold) → Member x holds → x.begun < s.count → Member x s.holds
  pub new : (x : Hold) → Member x holds → s.count ≤ x.begun → s.ran ≡ Some x.action.who
  pub stack : (x y : Hold) → Member x holds → Member y s.holds → y.action.who ≡ x.action.who → y.begun < x.begun → Member y holds
  pub calm : (y : Hold) → Member y s.holds → is_among y.action.who touched ≡ false → Member y holds
  pub lasts : (k c : ℕ) → level_of k s.ceilings ≡ Some c → level_of k ceilings ≡ Some c

abbrev pub HeldOf : Passed → List Who → Holding → Moving → Type 0
HeldOf s touched g m = Held s touched g.count g.holds m.ceilings

one_more : (s : Passed) (touched more : List Who) (count : ℕ) (holds : List Hold) (ceilings : List (ℕ × ℕ))
    → ((w : Who) → is_among w more ≡ false → is_among w touched ≡ false) → Held s touched count holds ceilings → Held s more (suc count) holds ceilings
one_more s touched more count holds ceilings less k = record {
  falls = falls_more count (suc count) holds (omega arith) k.falls;
  grows = omega (arith, k.grows);
  old = k.old;
  new = k.new;
  stack = k.stack;
  calm = λ y m among. k.calm y m (less y.action.who among);
  lasts = k.lasts;
}

begin_held : (s : Passed) (touched : List Who) (count : ℕ) (a : Action) (holds : List Hold) (ceilings : List (ℕ × ℕ)) → s.ran ≡ Some a.who
    → is_among a.who touched ≡ false → Held s touched count holds ceilings
    → Held s (a.who ∷ touched) (suc count) (record { action = a; begun = count } ∷ holds) ceilings
begin_held s touched count a holds ceilings is among k = record {
  falls = (omega arith, k.falls);
  grows = omega (arith, k.grows);
  old = λ x m low. elim (member_split x (record { action = a; begun = count }) holds m) [
    | inl here ↦ let same : x.begun ≡ count = ap (λ (v : Hold). v.begun) here in absurd (omega (arith, same, low, k.grows))
    | inr rest ↦ k.old x rest low
  ];
  new = λ x m high. elim (member_split x (record { action = a; begun = count }) holds m) [
    | inl here ↦ is ∙ ap (λ (v : Hold). Some v.action.who) (sym here)
    | inr rest ↦ k.new x rest high
  ];
  stack = λ x y m o same older. elim (member_split x (record { action = a; begun = count }) holds m) [
    | inl here ↦ inr (k.calm y o (subst (λ w. is_among w touched ≡ false) (sym (same ∙ ap (λ (v : Hold). v.action.who) here)) among))
    | inr rest ↦ inr (k.stack x y rest o same older)
  ];
  calm = λ y m apart. inr (k.calm y m (or_parts (who_eq y.action.who a.who) (is_among y.action.who touched) apart).1);
  lasts = k.lasts;
}

end_held : (s : Passed) (touched : List Who) (count : ℕ) (o : ℕ) (w : Who) (holds : List Hold) (ceilings : List (ℕ × ℕ))
    → is_on o (find (λ a. who_eq w a.who) (actions_of holds)) ≡ true → Held s touched count holds ceilings
    → Held s (w ∷ touched) (suc count) (released o w holds) ceilings
end_held s touched count o w holds ceilings last k = record {
  falls = falls_more count (suc count) (released o w holds) (omega arith) (released_falls count o w holds k.falls);
  grows = omega (arith, k.grows);
  old = λ x m low. k.old x (released_member x o w holds m) low;
  new = λ x m high. k.new x (released_member x o w holds m) high;
  stack = λ x y m y_in same older. released_keeps x y count o w holds k.falls last m (k.stack x y (released_member x o w holds m) y_in same older) same older;
  calm =
      λ y m apart. let parts = or_parts (who_eq y.action.who w) (is_among y.action.who touched) apart in
      other_kept y o w holds (not_who y.action.who w parts.0) (k.calm y m parts.1);
  lasts = k.lasts;
}

object_held : (s : Passed) (touched : List Who) (count n level : ℕ) (holds : List Hold) (ceilings : List (ℕ × ℕ)) → is_none (level_of n ceilings) ≡ true
    → Held s touched count holds ceilings → Held s touched (suc count) holds ((n, level) ∷ ceilings)
object_held s touched count n level holds ceilings none k =
    let more = one_more s touched touched count holds ceilings (λ w e. e) k in
    record {
      falls = more.falls;
      grows = more.grows;
      old = more.old;
      new = more.new;
      stack = more.stack;
      calm = more.calm;
      lasts = λ i c is. some_level i n level ceilings none c (k.lasts i c is);
    }

fewer : (w : Who) (touched : List Who) (v : Who) → is_among v (w ∷ touched) ≡ false → is_among v touched ≡ false
fewer w touched v e = (or_parts (who_eq v w) (is_among v touched) e).1

pub step_held : (s : Passed) (touched : List Who) (g : Holding) (m : Moving) (event : Event) → actions_of g.holds ≡ m.past.actions → s.ran ≡ m.past.runner
    → is_moved_rightly m event ≡ true → is_fresh_entry touched event ≡ true
    → HeldOf s touched g m → HeldOf s (touched_by event ++ touched) (holding_after g event) (moving_after m event)
step_held s touched g m (line.Enter w o mode) same ran moved first k =
    let parts =
    and_parts (somebody_eq m.past.runner (Some w) && somebody_eq (who_of (head_of m.past.queue)) (Some w))
    (is_within (own_level w m.past.bases m.agent) (level_of o.0 m.ceilings)) moved in
    let two = and_parts (somebody_eq m.past.runner (Some w)) (somebody_eq (who_of (head_of m.past.queue)) (Some w)) parts.0 in
    begin_held s touched g.count (record { object = o.0; who = w; mode = mode }) g.holds m.ceilings (ran ∙ somebody_is m.past.runner (Some w) two.0)
    (not_holding (is_among w touched) first) k
step_held s touched g m (line.Exit w o) same ran moved first k =
    end_held s touched g.count o.0 w g.holds m.ceilings (subst (λ xs. is_on o.0 (find (λ a. who_eq w a.who) xs) ≡ true) (sym same) moved) k
step_held s touched g m (line.New (created.Object o) name level) same ran moved first k = object_held s touched g.count o.0 level g.holds m.ceilings moved k
step_held s touched g m (line.Ready w level end d) same ran moved first k = one_more s touched (w ∷ touched) g.count g.holds m.ceilings (fewer w touched) k
step_held s touched g m (line.Block w why) same ran moved first k = one_more s touched (w ∷ touched) g.count g.holds m.ceilings (fewer w touched) k
step_held s touched g m (line.Done t) same ran moved first k =
    one_more s touched (touched_by (line.Done t) ++ touched) g.count g.holds m.ceilings (λ v e. fewer _ touched v e) k
step_held s touched g m _ same ran moved first k = one_more s touched touched g.count g.holds m.ceilings (λ w e. e) k

pub still_held : (s : Passed) (touched : List Who) (g : Holding) (m : Moving) (event : Event) → is_still event ≡ true → HeldOf s touched g m
    → HeldOf s touched (holding_after g event) (moving_after m event)
still_held s touched g m (line.Enter w o mode) still k = cc
still_held s touched g m (line.Exit w o) still k = cc
still_held s touched g m (line.New what name level) still k = cc
still_held s touched g m _ still k = one_more s touched touched g.count g.holds m.ceilings (λ w e. e) k

-- ---- actions with and without the number of their line

released_actions : (o : ℕ) (w : Who) (xs : List Hold) → actions_of (released o w xs) ≡ closed o w (actions_of xs)
released_actions o w [] = refl
released_actions o w (z ∷ zs) = elim (cases_Bool (o == z.action.object && who_eq w z.action.who)) [
  | inl same ↦ ap (λ t. actions_of (cond t zs (z ∷ released o w zs))) same ∙ sym (ap (λ t. cond t (actions_of zs) (z.action ∷ closed o w (actions_of zs))) same)
  | inr other ↦
      ap (λ t. actions_of (cond t zs (z ∷ released o w zs))) other ∙ ap (λ xs. z.action ∷ xs) (released_actions o w zs)
      ∙ sym (ap (λ t. cond t (actions_of zs) (z.action ∷ closed o w (actions_of zs))) other)
]

pub after_actions : (g : Holding) (event : Event) → actions_of (holding_after g event).holds ≡ actions_after (actions_of g.holds) event
after_actions g (line.Enter w o mode) = refl
after_actions g (line.Exit w o) = released_actions o.0 w g.holds
after_actions g _ = refl

next_actions : (g : Holding) (m : Moving) (event : Event) → actions_of g.holds ≡ m.past.actions
    → actions_of (holding_after g event).holds ≡ (moving_after m event).past.actions
next_actions g m event same = after_actions g event ∙ ap (λ xs. actions_after xs event) same

-- ---- a tick

abbrev Ends_held : Passed → Holding → Moving → List TraceLine → Type 0
Ends_held s g m lines = (touched : List Who) × HeldOf s touched (seen_from holding_after g lines) (seen_from moving_after m lines)

still_tick : (s : Passed) (touched : List Who) (g : Holding) (m : Moving) (lines : List TraceLine) → quiet true lines ≡ true → HeldOf s touched g m
    → Ends_held s g m lines
still_tick s touched g m [] still k = (touched, k)
still_tick s touched g m (l ∷ lines) still k =
    let quiets = and_parts (is_still l.1) (quiet true lines) still in
    still_tick s touched (holding_after g l.1) (moving_after m l.1) lines quiets.1 (still_held s touched g m l.1 quiets.0 k)

tick_held : (s : Passed) (touched : List Who) (g : Holding) (m : Moving) (lines : List TraceLine) → actions_of g.holds ≡ m.past.actions → s.ran ≡ m.past.runner
    → quiet false lines ≡ true → entering touched lines ≡ true → follows_lines moving_after is_moved_rightly m lines ≡ true
    → HeldOf s touched g m → Ends_held s g m lines
tick_held s touched g m [] same ran still enters moved k = (touched, k)
tick_held s touched g m (l ∷ lines) same ran still enters moved k =
    let move = and_parts (is_moved_rightly m l.1) (follows_lines moving_after is_moved_rightly (moving_after m l.1) lines) moved in
    let entry = and_parts (is_fresh_entry touched l.1) (entering (touched_by l.1 ++ touched) lines) enters in
    let next = step_held s touched g m l.1 same ran move.0 entry.0 k in
    elim (cases_Bool (is_choice l.1)) [
      | inl choice ↦
          still_tick s (touched_by l.1 ++ touched) (holding_after g l.1) (moving_after m l.1) lines (subst (λ b. quiet b lines ≡ true) choice still) next
      | inr not_so ↦
          tick_held s (touched_by l.1 ++ touched) (holding_after g l.1) (moving_after m l.1) lines (next_actions g m l.1 same)
          (ran ∙ sym (runs_on m.past.runner l.1 not_so)) (subst (λ b. quiet b lines ≡ true) not_so still) entry.1 move.1 next
    ]

abbrev pub holding_at : ℕ → List TraceLine → Holding
holding_at n lines = seen_from holding_after nothing_held (up_to n lines)

pub holding_actions : (n : ℕ) (lines : List TraceLine) → actions_of (holding_at n lines).holds ≡ (moving_at n lines).past.actions
holding_actions n lines =
    seen_part holding_after actions_after (λ (g : Holding). actions_of g.holds) (λ g event. after_actions g event) nothing_held (up_to n lines)
    ∙ sym (seen_part moving_after actions_after (λ (m : Moving). m.past.actions) (λ m event. refl) nothing_moving (up_to n lines))

abbrev pub passed_at : ℕ → List TraceLine → Passed
passed_at n lines = record {
  ran = (moving_at n lines).past.runner;
  count = (holding_at n lines).count;
  holds = (holding_at n lines).holds;
  ceilings = (moving_at n lines).ceilings;
}

falls_step : (g : Holding) (event : Event) → Falls g.count g.holds → Falls (holding_after g event).count (holding_after g event).holds
falls_step g (line.Enter w o mode) k = (omega arith, k)
falls_step g (line.Exit w o) k = falls_more g.count (suc g.count) (released o.0 w g.holds) (omega arith) (released_falls g.count o.0 w g.holds k)
falls_step g _ k = falls_more g.count (suc g.count) g.holds (omega arith) k

falls_all : (g : Holding) (lines : List TraceLine) → Falls g.count g.holds
    → Falls (seen_from holding_after g lines).count (seen_from holding_after g lines).holds
falls_all g [] k = k
falls_all g (l ∷ lines) k = falls_all (holding_after g l.1) lines (falls_step g l.1 k)

pub falls_at : (n : ℕ) (lines : List TraceLine) → Falls (holding_at n lines).count (holding_at n lines).holds
falls_at n lines = falls_all nothing_held (up_to n lines) tt

-- what the lines of a tick keep, from behind the one before
pub held_next : (n : ℕ) (lines : List TraceLine) → KeepsProtocol lines
    → (touched : List Who) × HeldOf (passed_at n lines) touched (holding_at (suc n) lines) (moving_at (suc n) lines)
held_next n lines h =
    let begun : HeldOf (passed_at n lines) [] (holding_at n lines) (moving_at n lines) = record {
      falls = falls_at n lines;
      grows = omega arith;
      old = λ x m low. m;
      new =
          λ x m high.
          let below = member_below x (holding_at n lines).count (holding_at n lines).holds (falls_at n lines) m in absurd (omega (arith, below, high));
      stack = λ x y m k same older. k;
      calm = λ y m apart. m;
      lasts = λ k c is. is;
    } in
    let led =
    tick_held (passed_at n lines) [] (holding_at n lines) (moving_at n lines) (of_next n lines) (holding_actions n lines) refl
    (quiet_next n 0 false lines h.rises (omega arith) h.choice) (entering_next n 0 [] lines h.rises (omega arith) h.moves.first)
    (follows_next moving_after is_moved_rightly nothing_moving n lines
    (lines_followed moving_after is_moved_rightly nothing_moving lines h.moves.moved)) begun in (
      led.0,
      subst (λ g. HeldOf (passed_at n lines) led.0 g (moving_at (suc n) lines)) (sym (seen_next holding_after nothing_held n lines))
          (subst (λ m. HeldOf (passed_at n lines) led.0 (seen_from holding_after (holding_at n lines) (of_next n lines)) m)
          (sym (seen_next moving_after nothing_moving n lines)) led.1),
    )

-- ---- through more ticks

pub ceilings_last : (n count k c : ℕ) (lines : List TraceLine) → KeepsProtocol lines → level_of k (moving_at n lines).ceilings ≡ Some c
    → level_of k (moving_at (n + count) lines).ceilings ≡ Some c
ceilings_last n zero k c lines h is = subst (λ i. level_of k (moving_at i lines).ceilings ≡ Some c) (let e : n ≡ n + 0 = omega arith in e) is
ceilings_last n (suc count) k c lines h is =
    subst (λ i. level_of k (moving_at i lines).ceilings ≡ Some c) (let e : suc (n + count) ≡ n + suc count = omega arith in e)
    ((held_next (n + count) lines h).1.lasts k c (ceilings_last n count k c lines h is))

-- an earlier action of one subject stays as long as a later one
pub stack_up : (n count : ℕ) (x y : Hold) (lines : List TraceLine) → KeepsProtocol lines → y.action.who ≡ x.action.who → y.begun < x.begun
    → Member y (holding_at n lines).holds → ((i : ℕ) → n ≤ i → i ≤ n + count → Member x (holding_at i lines).holds)
    → Member y (holding_at (n + count) lines).holds
stack_up n zero x y lines h same older m all = subst (λ i. Member y (holding_at i lines).holds) (let e : n ≡ n + 0 = omega arith in e) m
stack_up n (suc count) x y lines h same older m all =
    let next : suc (n + count) ≡ n + suc count = omega arith in
    let before = stack_up n count x y lines h same older m (λ i from to. all i from (omega (arith, to))) in
    subst (λ i. Member y (holding_at i lines).holds) next
    ((held_next (n + count) lines h).1.stack x y (all (suc (n + count)) (omega arith) (omega (arith, next))) before same older)

either : (a b : Bool) → (a || b) ≡ true → b ≡ false → a ≡ true
either true b e f = refl
either false b e f = let wrong : true ≡ false = sym e ∙ f in cc

any_member : (test : Action → Bool) (y : Hold) (xs : List Hold) → Member y xs → test y.action ≡ true → list_any test (actions_of xs) ≡ true
any_member test y [] m e = absurd m
any_member test y (x ∷ xs) (inl is) e = ap (λ t. t || list_any test (actions_of xs)) (subst (λ (z : Hold). test z.action ≡ true) is e)
any_member test y (x ∷ xs) (inr m) e = or_on (test x.action) (list_any test (actions_of xs)) (any_member test y xs m e)

-- the first that began, of those that pass a test
pub outermost : (test : Action → Bool) (n : ℕ) (xs : List Hold) → Falls n xs → list_any test (actions_of xs) ≡ true
    → (z : Hold) × (Member z xs × ((test z.action ≡ true) × ((y : Hold) → Member y xs → test y.action ≡ true → z.begun ≤ y.begun)))
outermost test n [] falls any = cc
outermost test n (x ∷ xs) falls any = elim (cases_Bool (list_any test (actions_of xs))) [
  | inl rest ↦
      let z = outermost test x.begun xs falls.1 rest in
      let below = member_below z.0 x.begun xs falls.1 z.1.0 in (
        z.0,
        (
          inr z.1.0,
          (
            z.1.1.0,
            λ y m e. elim (member_split y x xs m) [
              | inl is ↦ let same : y.begun ≡ x.begun = ap (λ (v : Hold). v.begun) is in omega (arith, same, below)
              | inr later ↦ z.1.1.1 y later e
            ],
          ),
        ),
      )
  | inr none ↦
      let here : test x.action ≡ true = either (test x.action) (list_any test (actions_of xs)) any none in (
        x,
        (
          inl refl,
          (
            here,
            λ y m e. elim (member_split y x xs m) [
              | inl is ↦ let same : y.begun ≡ x.begun = ap (λ (v : Hold). v.begun) is in omega (arith, same)
              | inr later ↦ let wrong : true ≡ false = sym (any_member test y xs later e) ∙ none in cc
            ],
          ),
        ),
      )
]

pub each_member : (P : Action → Type 0) (x : Hold) (xs : List Hold) → Each P (actions_of xs) → Member x xs → P x.action
each_member P x [] each m = absurd m
each_member P x (y ∷ ys) each (inl is) = subst (λ (z : Hold). P z.action) (sym is) each.0
each_member P x (y ∷ ys) each (inr m) = each_member P x ys each.1 m
