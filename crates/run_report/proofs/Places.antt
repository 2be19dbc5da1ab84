-- Where a task is kept, and what a line leaves of all tasks.
use Rattle.std.proofs.Common.{◌≡◌, ◌≤◌, ◌<◌, ◌||◌, ◌==◌, ℕ, zero, suc, Bool, true, false, if◌then◌else◌, cond, List, [], ◌∷◌, ◌++◌, Option}
use Rattle.std.proofs.Common.{Some, None, is_some, map, length, slice_get, slice_set, get_or, refl, ap, sym, subst, ◌∙◌, arith, inl, inr}
use Rattle.std.specs.Option.{option_map}
use Rattle.std.proofs.lemmas.Bool.{cases_Bool, eqb-true, eq-eqb, ne_eqb, false_from_ne_true}
use Rattle.trace_text.specs.declared.events.Event.{Event}
use Rattle.trace_lines.proofs.LevelLookups.{is_at-eqb}
use Rattle.run_report.specs.declared.tallies.Tally.{Tally}
use Rattle.run_report.specs.declared.tallies.Passing.{Passing}
use Rattle.run_report.specs.declared.clocks.Clock.{Clock}
use Rattle.run_report.specs.declared.dated.Dated.{Dated}
use Rattle.run_report.specs.Clocks.{dated, next_tally, next_waited, stepped, number_in, named_by, is_number, place_in, place_at, IsEachOnce}
use Rattle.run_report.specs.Clocks.{place_if, place_of, checked_place, noted, step_of, step_at, written_at, written, is_told, followed, IsKnown}

found_if : (b : Bool) (o : Option ℕ) → is_some o ≡ true → is_some (if b then Some 0 else option_map (λ place. suc place) o) ≡ true
found_if true o known = refl
found_if false None known = cc
found_if false (Some place) known = refl

-- a number that stands at a place is found
pub found_at : (items : List Dated) (place number : ℕ) (one : Dated) → slice_get items place ≡ Some one → one.kept.task.0 ≡ number
    → is_some (place_in number items) ≡ true
found_at [] place number one e same = cc
found_at (first ∷ items) zero number one e same =
    let here : first ≡ one = cc in
    let number_here : number ≡ first.kept.task.0 = sym (ap (λ (d : Dated). d.kept.task.0) here ∙ same) in
    ap (λ b. is_some (if b then Some 0 else option_map (λ place. suc place) (place_in number items))) (eq-eqb number first.kept.task.0 number_here)
found_at (first ∷ items) (suc place) number one e same = found_if (number == first.kept.task.0) (place_in number items) (found_at items place number one e same)

suc_some : (o : Option ℕ) (place : ℕ) → option_map (λ place. suc place) o ≡ Some place → (before : ℕ) × (o ≡ Some before) × (suc before ≡ place)
suc_some None place e = cc
suc_some (Some before) place e = (before, refl, cc)

-- what is found at a place stands there
abbrev pub StandsAt : ℕ → List Dated → ℕ → Type 0
StandsAt number items place = (one : Dated) × (slice_get items place ≡ Some one) × (one.kept.task.0 ≡ number)

pub stands_at : (items : List Dated) (place number : ℕ) → place_in number items ≡ Some place → StandsAt number items place
stands_at [] place number e = cc
stands_at (first ∷ items) place number e = elim (cases_Bool (number == first.kept.task.0)) [
  | inl same ↦
      let here : Some 0 ≡ Some place = sym (ap (λ b. if b then Some 0 else option_map (λ p. suc p) (place_in number items)) same) ∙ e in
      let zero_is : 0 ≡ place = cc in
      subst (StandsAt number (first ∷ items)) zero_is (first, refl, sym (eqb-true number first.kept.task.0 same))
  | inr differs ↦
      let there = suc_some (place_in number items) place (sym (ap (λ b. if b then Some 0 else option_map (λ p. suc p) (place_in number items)) differs) ∙ e) in
      let rest = stands_at items there.0 number there.1 in
      subst (StandsAt number (first ∷ items)) there.2 (rest.0, rest.1, rest.2)
]

-- a place that is noted is looked at: it is the task's, or the task is not kept
place_here : (number place : ℕ) (items : List Dated) (o : Option Dated) (p : Option ℕ) → slice_get items place ≡ o → place_in number items ≡ p
    → ((other : ℕ) → p ≡ Some other → other ≡ place) → place_of number place o ≡ p
place_here number place items None None e found same = refl
place_here number place items None (Some other) e found same =
    let there = stands_at items other number found in
    let wrong : None ≡ Some there.0 = sym e ∙ ap (slice_get items) (sym (same other refl)) ∙ there.1 in
    cc
place_here number place items (Some one) None e found same = ap (λ b. place_if b place) (false_from_ne_true (one.kept.task.0 == number) (λ here.
    let wrong : true ≡ false = sym (found_at items place number one e (eqb-true one.kept.task.0 number here)) ∙ ap is_some found in
    cc))
place_here number place items (Some one) (Some other) e found same =
    let there = stands_at items other number found in
    let both : Some one ≡ Some there.0 = sym e ∙ ap (slice_get items) (sym (same other refl)) ∙ there.1 in
    let here : one ≡ there.0 = cc in
    ap (λ b. place_if b place) (eq-eqb one.kept.task.0 number (ap (λ (d : Dated). d.kept.task.0) here ∙ there.2)) ∙ ap Some (sym (same other refl))

some_same : (place other : ℕ) → Some place ≡ Some other → other ≡ place
some_same place other e = cc

place_by : (number : ℕ) (items : List Dated) (o p : Option ℕ) → place_in number items ≡ p → ((place : ℕ) → p ≡ Some place → o ≡ Some place)
    → checked_place items o number ≡ p
place_by number items None None found known = refl
place_by number items None (Some place) found known = let wrong = known place refl in cc
place_by number items (Some place) p found known =
    place_here number place items (slice_get items place) p refl found (λ other e. some_same place other (known other e))

pub place_found : (number : ℕ) (items : List Dated) (places : ℕ → Option ℕ) → IsKnown items places
    → checked_place items (places number) number ≡ place_in number items
place_found number items places known = place_by number items (places number) (place_in number items) refl (λ place e. known number place e)

-- ---- what a step writes

pub written_here : (place : ℕ) (tally : Tally) (waited tick : ℕ) (items : List Dated) (one : Dated) → place < length items → one ≡ get_or items place one
    → slice_set items place (dated tally waited tick one) ≡ written_at place tally waited tick items
written_here place tally waited tick [] one less e = absurd (omega (arith, less))
written_here zero tally waited tick (first ∷ items) one less e = ap (λ d. dated tally waited tick d ∷ items) e
written_here (suc place) tally waited tick (first ∷ items) one less e =
    ap (λ xs. first ∷ xs) (written_here place tally waited tick items one (omega (arith, less)) e)

pub written_past : (place : ℕ) (tally : Tally) (waited tick : ℕ) (items : List Dated) → length items ≤ place → items ≡ written_at place tally waited tick items
written_past place tally waited tick [] less = refl
written_past zero tally waited tick (first ∷ items) less = absurd (omega (arith, less))
written_past (suc place) tally waited tick (first ∷ items) less = ap (λ xs. first ∷ xs) (written_past place tally waited tick items (omega (arith, less)))

dated_over : (b : Bool) (tally : Tally) (waited tick : ℕ) (one : Dated)
    → dated tally waited tick (if b then dated tally waited tick one else one) ≡ dated tally waited tick one
dated_over true tally waited tick one = refl
dated_over false tally waited tick one = refl

absent_by : (b : Bool) (o : Option ℕ) → (if b then Some 0 else option_map (λ place. suc place) o) ≡ None → (b ≡ false) × (o ≡ None)
absent_by true o e = cc
absent_by false None e = (refl, refl)
absent_by false (Some place) e = cc

abbrev one_more : (Dated → Dated) → ℕ → (ℕ → Bool) → Dated → Dated
one_more f number was one = if (number == one.kept.task.0) || was one.kept.task.0 then f one else one

abbrev so_far : (Dated → Dated) → (ℕ → Bool) → Dated → Dated
so_far f was one = if was one.kept.task.0 then f one else one

absent_same : (f : Dated → Dated) (number : ℕ) (was : ℕ → Bool) (items : List Dated) → place_in number items ≡ None
    → map (so_far f was) items ≡ map (one_more f number was) items
absent_same f number was [] e = refl
absent_same f number was (one ∷ items) e =
    let parts = absent_by (number == one.kept.task.0) (place_in number items) e in
    ap (λ b. (if b || was one.kept.task.0 then f one else one) ∷ map (so_far f was) items) (sym parts.0)
    ∙ ap (λ xs. one_more f number was one ∷ xs) (absent_same f number was items parts.1)

next_step : (clocks : List Clock) (last : ℕ) (passing : Passing) (tick : ℕ) (event : Event) (place : ℕ) (o : Option Dated) (first : Dated) (items : List Dated)
    → written (step_of clocks last passing tick event (suc place) o) tick (first ∷ items)
    ≡ first ∷ written (step_of clocks last passing tick event place o) tick items
next_step clocks last passing tick event place None first items = refl
next_step clocks last passing tick event place (Some one) first items = refl

next_place : (clocks : List Clock) (last : ℕ) (passing : Passing) (tick : ℕ) (event : Event) (o : Option ℕ) (one first : Dated) (items rest : List Dated)
    → written (step_at clocks last passing tick event (option_map (λ place. suc place) o) (one ∷ items)) tick (first ∷ rest)
    ≡ first ∷ written (step_at clocks last passing tick event o items) tick rest
next_place clocks last passing tick event None one first items rest = refl
next_place clocks last passing tick event (Some place) one first items rest = next_step clocks last passing tick event place (slice_get items place) first rest

written_number : (clocks : List Clock) (last : ℕ) (passing : Passing) (tick : ℕ) (event : Event) (number : ℕ) (was : ℕ → Bool) (items : List Dated)
    → IsEachOnce items
    → written (step_at clocks last passing tick event (place_in number items) items) tick (map (so_far (stepped clocks last passing tick event) was) items)
    ≡ map (one_more (stepped clocks last passing tick event) number was) items
written_number clocks last passing tick event number was [] once = refl
written_number clocks last passing tick event number was (one ∷ items) once =
    let f = stepped clocks last passing tick event in
    let first = so_far f was one in
    let rest = map (so_far f was) items in
    elim (cases_Bool (number == one.kept.task.0)) [
      | inl same ↦
          let none : place_in number items ≡ None = ap (λ n. place_in n items) (eqb-true number one.kept.task.0 same) ∙ once.0 in
          ap (λ b. written
          (step_at clocks last passing tick event (if b then Some 0 else option_map (λ place. suc place) (place_in number items)) (one ∷ items)) tick
          (first ∷ rest)) same
          ∙ ap (λ x. x ∷ rest)
          (dated_over (was one.kept.task.0) (next_tally clocks last passing tick event one)
          (next_waited clocks passing (next_tally clocks last passing tick event one)) tick one)
          ∙ ap (λ xs. f one ∷ xs) (absent_same f number was items none)
          ∙ ap (λ b. (if b || was one.kept.task.0 then f one else one) ∷ map (one_more f number was) items) (sym same)
      | inr differs ↦
          ap (λ b. written
          (step_at clocks last passing tick event (if b then Some 0 else option_map (λ place. suc place) (place_in number items)) (one ∷ items)) tick
          (first ∷ rest)) differs
          ∙ next_place clocks last passing tick event (place_in number items) one first items rest
          ∙ ap (λ xs. first ∷ xs) (written_number clocks last passing tick event number was items once.1)
          ∙ ap (λ b. (if b || was one.kept.task.0 then f one else one) ∷ map (one_more f number was) items) (sym differs)
    ]

written_map : (clocks : List Clock) (last : ℕ) (passing : Passing) (tick : ℕ) (event : Event) (number : Option ℕ) (was : ℕ → Bool) (items : List Dated)
    → IsEachOnce items
    → written (step_at clocks last passing tick event (place_at number items) items) tick (map (so_far (stepped clocks last passing tick event) was) items)
    ≡ map (so_far (stepped clocks last passing tick event) (λ n. is_number number n || was n)) items
written_map clocks last passing tick event None was items once = refl
written_map clocks last passing tick event (Some number) was items once = written_number clocks last passing tick event number was items once

map_same : (items : List Dated) → map (λ one. one) items ≡ items
map_same [] = refl
map_same (one ∷ items) = ap (λ xs. one ∷ xs) (map_same items)

pub both_written : (clocks : List Clock) (last : ℕ) (passing : Passing) (tick : ℕ) (event : Event) (items : List Dated) → IsEachOnce items
    → written (step_at clocks last passing tick event (place_at (number_in passing.runner) items) items) tick
    (written (step_at clocks last passing tick event (place_at (named_by event) items) items) tick items)
    ≡ map (followed clocks last passing tick event) items
both_written clocks last passing tick event items once =
    ap (λ xs. written (step_at clocks last passing tick event (place_at (number_in passing.runner) items) items) tick
    (written (step_at clocks last passing tick event (place_at (named_by event) items) items) tick xs))
    (sym (map_same items))
    ∙ ap (λ xs. written (step_at clocks last passing tick event (place_at (number_in passing.runner) items) items) tick xs)
    (written_map clocks last passing tick event (named_by event) (λ n. false) items once)
    ∙ written_map clocks last passing tick event (number_in passing.runner) (λ n. is_number (named_by event) n || false) items once

-- ---- where tasks are kept behind a line

pub placed_mapped : (h : Dated → Dated) → ((one : Dated) → (h one).kept.task.0 ≡ one.kept.task.0) → (number : ℕ) (items : List Dated)
    → place_in number (map h items) ≡ place_in number items
placed_mapped h same number [] = refl
placed_mapped h same number (one ∷ items) =
    ap (λ n. if number == n then Some 0 else option_map (λ place. suc place) (place_in number (map h items))) (same one)
    ∙ ap (λ o. if number == one.kept.task.0 then Some 0 else option_map (λ place. suc place) o) (placed_mapped h same number items)

pub once_mapped : (h : Dated → Dated) → ((one : Dated) → (h one).kept.task.0 ≡ one.kept.task.0) → (items : List Dated) → IsEachOnce items
    → IsEachOnce (map h items)
once_mapped h same [] once = tt
once_mapped h same (one ∷ items) once = (
  ap (λ n. place_in n (map h items)) (same one) ∙ placed_mapped h same one.kept.task.0 items ∙ once.0,
  once_mapped h same items once.1,
)

task_if : (b : Bool) (clocks : List Clock) (last : ℕ) (passing : Passing) (tick : ℕ) (event : Event) (one : Dated)
    → (if b then stepped clocks last passing tick event one else one).kept.task.0 ≡ one.kept.task.0
task_if true clocks last passing tick event one = refl
task_if false clocks last passing tick event one = refl

pub task_followed : (clocks : List Clock) (last : ℕ) (passing : Passing) (tick : ℕ) (event : Event) (one : Dated)
    → (followed clocks last passing tick event one).kept.task.0 ≡ one.kept.task.0
task_followed clocks last passing tick event one = task_if (is_told passing event one.kept.task.0) clocks last passing tick event one

abbrev pub or_place : Option ℕ → Option ℕ → Option ℕ
or_place None rest = rest
or_place (Some place) rest = Some place

end_by : (b c : Bool) (o : Option ℕ) (n : ℕ)
    → (if b then Some 0 else option_map (λ place. suc place) (or_place o (if c then Some n else None)))
    ≡ or_place (if b then Some 0 else option_map (λ place. suc place) o) (if c then Some (suc n) else None)
end_by true c o n = refl
end_by false true None n = refl
end_by false false None n = refl
end_by false c (Some place) n = refl

pub placed_end : (number : ℕ) (items : List Dated) (one : Dated)
    → place_in number (items ++ one ∷ []) ≡ or_place (place_in number items) (if number == one.kept.task.0 then Some (length items) else None)
placed_end number [] one = refl
placed_end number (first ∷ items) one =
    ap (λ o. if number == first.kept.task.0 then Some 0 else option_map (λ place. suc place) o) (placed_end number items one)
    ∙ end_by (number == first.kept.task.0) (number == one.kept.task.0) (place_in number items) (length items)

eqb_apart : (a b : ℕ) → (a == b) ≡ false → (b == a) ≡ false
eqb_apart a b e = ne_eqb b a (λ same. let wrong : true ≡ false = sym (eq-eqb a b (sym same)) ∙ e in cc)

end_none : (number : ℕ) (items : List Dated) (one : Dated) → place_in number items ≡ None → (number == one.kept.task.0) ≡ false
    → place_in number (items ++ one ∷ []) ≡ None
end_none number items one none apart =
    placed_end number items one ∙ ap (λ o. or_place o (if number == one.kept.task.0 then Some (length items) else None)) none
    ∙ ap (λ b. if b then Some (length items) else None) apart

pub once_end : (items : List Dated) (one : Dated) → IsEachOnce items → place_in one.kept.task.0 items ≡ None → IsEachOnce (items ++ one ∷ [])
once_end [] one once none = (refl, tt)
once_end (first ∷ items) one once none =
    let parts = absent_by (one.kept.task.0 == first.kept.task.0) (place_in one.kept.task.0 items) none in
    (end_none first.kept.task.0 items one once.0 (eqb_apart one.kept.task.0 first.kept.task.0 parts.0), once_end items one once.1 parts.1)

-- what is found behind the line was found before, or is the one that was created
pub found_end : (number place : ℕ) (items : List Dated) (one : Dated) (o : Option ℕ) (b : Bool) → place_in number items ≡ o → (number == one.kept.task.0) ≡ b
    → place_in number (items ++ one ∷ []) ≡ Some place
    → (P : Type 0) → (place_in number items ≡ Some place → P) → (number ≡ one.kept.task.0 → length items ≡ place → P) → P
found_end number place items one (Some before) b e test found P was new =
    was (e ∙ sym (ap (λ x. or_place x (if number == one.kept.task.0 then Some (length items) else None)) e) ∙ sym (placed_end number items one) ∙ found)
found_end number place items one None true e test found P was new =
    let here : Some (length items) ≡ Some place =
    sym (placed_end number items one ∙ ap (λ x. or_place x (if number == one.kept.task.0 then Some (length items) else None)) e
    ∙ ap (λ b. if b then Some (length items) else None) test)
    ∙ found in
    new (eqb-true number one.kept.task.0 test) cc
found_end number place items one None false e test found P was new =
    let wrong : None ≡ Some place =
    sym (placed_end number items one ∙ ap (λ x. or_place x (if number == one.kept.task.0 then Some (length items) else None)) e
    ∙ ap (λ b. if b then Some (length items) else None) test)
    ∙ found in
    cc

-- ---- places that are noted

pub known_noted : (items : List Dated) (places places' : ℕ → Option ℕ) (created : Option ℕ) (place : ℕ) → IsKnown items places
    → ((number : ℕ) → created ≡ Some number → place_in number items ≡ None) → ((number : ℕ) → places' number ≡ noted created place number (places number))
    → IsKnown items places'
known_noted items places places' None place known new noted_is = λ number found e. noted_is number ∙ known number found e
known_noted items places places' (Some other) place known new noted_is = λ number found e. elim (cases_Bool (other == number)) [
  | inl same ↦
      let wrong : None ≡ Some found = sym (new other refl) ∙ ap (λ n. place_in n items) (eqb-true other number same) ∙ e in
      cc
  | inr apart ↦ noted_is number ∙ ap (λ b. cond b (Some place) (places number)) (is_at-eqb other number ∙ apart) ∙ known number found e
]

pub noted_there : (places places' : ℕ → Option ℕ) (created : Option ℕ) (place : ℕ)
    → ((number : ℕ) → places' number ≡ noted created place number (places number)) → (number : ℕ) → created ≡ Some number → places' number ≡ Some place
noted_there places places' created place noted_is number e =
    noted_is number ∙ ap (λ c. noted c place number (places number)) e
    ∙ ap (λ b. cond b (Some place) (places number)) (is_at-eqb number number ∙ eq-eqb number number refl)
