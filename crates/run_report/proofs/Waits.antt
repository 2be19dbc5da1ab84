-- What a clock tells of a task, with some ticks more, and with a line that tells of the task.
use Rattle.std.proofs.Common.{◌≡◌, ◌≤◌, ◌<◌, ◌+◌, ◌-◌, ◌&&◌, ◌==◌, ℕ, max, Bool, true, false, not, if◌then◌else◌}
use Rattle.std.proofs.Common.{List, [], ◌∷◌, Option, Some, None, is_some, map, refl, ap, sym, ◌∙◌, arith, inl, inr}
use Rattle.std.specs.Prelude.{unwrap_or}
use Rattle.std.specs.Option.{option_map}
use Rattle.std.proofs.lemmas.Bool.{cases_Bool, cases_eq, eqb-true, eq-eqb, ne_eqb}
use Rattle.ann_base.specs.declared.identities.TaskNo.{TaskNo}
use Rattle.trace_text.specs.declared.events.Who.{Who}
use Rattle.trace_text.specs.declared.events.Who.TheVariants as subject
use Rattle.trace_text.specs.declared.events.Created.TheVariants as created
use Rattle.trace_text.specs.declared.events.Event.{Event}
use Rattle.trace_text.specs.declared.events.Event.TheVariants.{New, Ready, Block, Base, Done}
use Rattle.trace_text.specs.Queue.{somebody_eq}
use Rattle.run_report.specs.declared.tallies.Tally.{Tally}
use Rattle.run_report.specs.declared.tallies.Passing.{Passing}
use Rattle.run_report.specs.declared.tallies.Move.TheVariants.{Enters, Stays}
use Rattle.run_report.specs.declared.clocks.Clock.{Clock}
use Rattle.run_report.specs.declared.dated.Dated.{Dated}
use Rattle.run_report.specs.Accounts.{is_lower, is_tick, chooses_another}
use Rattle.run_report.specs.Kept.{ticks_if, is_waiting, streak_after, move_of, leaves_if, level_if}
use Rattle.run_report.specs.Kept.{since_after, tail_at, response_at, base_after, tally_after, kept_after}
use Rattle.run_report.specs.Clocks.{clock_of, clock_at, passed, wait_level, waited_by, told_streak, tally_by_clock, tally_at, told, dated, settled}
use Rattle.run_report.specs.Clocks.{next_tally, next_waited, stepped, number_in, named_by, is_number, IsTimed, IsTimedBy, IsFit, IsQuietBy, IsQuiet}

-- ---- numbers

pub after_none : (d q : ℕ) (w : Bool) → d ≡ 0 → streak_after d w q ≡ q
after_none d q w e = ap (λ n. streak_after n w q) e

some_ticks : (d : ℕ) → (d ≡ 0 → ⊥) → 0 < d
some_ticks d some = omega (arith, some)

pub after_some : (d q : ℕ) (w : Bool) → (d ≡ 0 → ⊥) → streak_after d w q ≡ (if w then q + d else 0)
after_some d q w some = ap (λ b. if b then q else (if w then q + d else 0)) (ne_eqb d 0 some)

pub ticks_most : (w : Bool) (d : ℕ) → ticks_if w d ≤ d
ticks_most true d = omega arith
ticks_most false d = omega arith

ticks_none : (w : Bool) (d : ℕ) → d ≡ 0 → ticks_if w d ≡ 0
ticks_none true d e = e
ticks_none false d e = refl

-- n ticks are gone since a line told of the task, and g of these it waited
abbrev pub choice : ℕ → ℕ → ℕ → ℕ → ℕ
choice g n s q = if g == n then s + n else q

pub chosen : (g n s q : ℕ) → g ≡ n → choice g n s q ≡ s + n
chosen g n s q e = ap (λ b. if b then s + n else q) (eq-eqb g n e)

pub other : (g n s q : ℕ) → (g ≡ n → ⊥) → choice g n s q ≡ q
other g n s q apart = ap (λ b. if b then s + n else q) (ne_eqb g n apart)

streak_none : (g n d s q : ℕ) (w : Bool) → d ≡ 0 → choice (g + ticks_if w d) (n + d) s (streak_after d w q) ≡ streak_after d w (choice g n s q)
streak_none g n d s q w e =
    let no_more : g + ticks_if w d ≡ g = omega (arith, ticks_none w d e) in
    let same : n + d ≡ n = omega (arith, e) in
    ap (λ x. choice x (n + d) s (streak_after d w q)) no_more ∙ ap (λ x. choice g x s (streak_after d w q)) same ∙ ap (λ x. choice g n s x) (after_none d q w e)
    ∙ sym (after_none d (choice g n s q) w e)

streak_waits : (g n d s q : ℕ) → (d ≡ 0 → ⊥) → choice (g + d) (n + d) s (streak_after d true q) ≡ streak_after d true (choice g n s q)
streak_waits g n d s q some = elim (cases_eq g n) [
  | inl same ↦
      let more : s + (n + d) ≡ s + n + d = omega arith in
      chosen (g + d) (n + d) s (streak_after d true q) (ap (λ x. x + d) same) ∙ more ∙ sym (ap (λ x. x + d) (chosen g n s q same))
      ∙ sym (after_some d (choice g n s q) true some)
  | inr apart ↦
      other (g + d) (n + d) s (streak_after d true q) (λ e. apart (omega (arith, e))) ∙ after_some d q true some ∙ sym (ap (λ x. x + d) (other g n s q apart))
      ∙ sym (after_some d (choice g n s q) true some)
]

streak_ends : (g n d s q : ℕ) → (d ≡ 0 → ⊥) → g ≤ n → choice (g + 0) (n + d) s (streak_after d false q) ≡ streak_after d false (choice g n s q)
streak_ends g n d s q some fits =
    other (g + 0) (n + d) s (streak_after d false q) (λ e. some (omega (arith, e, fits))) ∙ after_some d q false some
    ∙ sym (after_some d (choice g n s q) false some)

streak_by_test : (g n d s q : ℕ) (w : Bool) → (d ≡ 0 → ⊥) → g ≤ n → choice (g + ticks_if w d) (n + d) s (streak_after d w q) ≡ streak_after d w (choice g n s q)
streak_by_test g n d s q true some fits = streak_waits g n d s q some
streak_by_test g n d s q false some fits = streak_ends g n d s q some fits

streak_more : (g n d s q : ℕ) (w : Bool) → g ≤ n → choice (g + ticks_if w d) (n + d) s (streak_after d w q) ≡ streak_after d w (choice g n s q)
streak_more g n d s q w fits = elim (cases_eq d 0) [
  | inl none ↦ streak_none g n d s q w none
  | inr some ↦ streak_by_test g n d s q w some fits
]

longest_waits : (d l s : ℕ) → (d ≡ 0 → ⊥) → max l (streak_after d true s) ≡ max (max l s) (streak_after d true s)
longest_waits d l s some = omega (arith, after_some d s true some)

longest_ends : (d l s : ℕ) → (d ≡ 0 → ⊥) → s ≤ l → max l (streak_after d false s) ≡ max (max l s) (streak_after d false s)
longest_ends d l s some less = omega (arith, after_some d s false some, less)

longest_by_test : (d l s : ℕ) (w : Bool) → (d ≡ 0 → ⊥) → (0 < d → w ≡ false → s ≤ l) → max l (streak_after d w s) ≡ max (max l s) (streak_after d w s)
longest_by_test d l s true some quiet = longest_waits d l s some
longest_by_test d l s false some quiet = longest_ends d l s some (quiet (some_ticks d some) refl)

longest_more : (d l s : ℕ) (w : Bool) → (0 < d → w ≡ false → s ≤ l) → max l (streak_after d w s) ≡ max (max l s) (streak_after d w s)
longest_more d l s w quiet = elim (cases_eq d 0) [
  | inl none ↦ omega (arith, after_none d s w none)
  | inr some ↦ longest_by_test d l s w some quiet
]

open_by_test : (g n d q : ℕ) (w : Bool) → (d ≡ 0 → ⊥) → g ≤ n → (g ≡ n → n ≤ q) → g + ticks_if w d ≡ n + d → n + d ≤ streak_after d w q
open_by_test g n d q true some fits whole e = let was = whole (omega (arith, e)) in omega (arith, after_some d q true some, was)
open_by_test g n d q false some fits whole e = absurd (some (omega (arith, e, fits)))

pub open_more : (g n d q : ℕ) (w : Bool) → g ≤ n → (g ≡ n → n ≤ q) → g + ticks_if w d ≡ n + d → n + d ≤ streak_after d w q
open_more g n d q w fits whole e = elim (cases_eq d 0) [
  | inl none ↦ let was = whole (omega (arith, e, none, ticks_none w d none)) in omega (arith, after_none d q w none, was, none)
  | inr some ↦ open_by_test g n d q w some fits whole e
]

closed_by_test : (g n d q : ℕ) (w : Bool) → (d ≡ 0 → ⊥) → ((g ≡ n → ⊥) → q ≤ n) → (g + ticks_if w d ≡ n + d → ⊥) → streak_after d w q ≤ n + d
closed_by_test g n d q true some ended apart = let was = ended (λ e. apart (ap (λ x. x + d) e)) in omega (arith, after_some d q true some, was)
closed_by_test g n d q false some ended apart = omega (arith, after_some d q false some)

pub closed_more : (g n d q : ℕ) (w : Bool) → ((g ≡ n → ⊥) → q ≤ n) → (g + ticks_if w d ≡ n + d → ⊥) → streak_after d w q ≤ n + d
closed_more g n d q w ended apart = elim (cases_eq d 0) [
  | inl none ↦ let was = ended (λ e. apart (omega (arith, e, none, ticks_none w d none))) in omega (arith, after_none d q w none, was)
  | inr some ↦ closed_by_test g n d q w some ended apart
]

-- ---- clocks

passed_if : (b : Bool) (passing : Passing) (clock : Clock) (rest : Option Clock)
    → (if b then Some (passed passing clock) else option_map (passed passing) rest) ≡ option_map (passed passing) (if b then Some clock else rest)
passed_if true passing clock rest = refl
passed_if false passing clock rest = refl

passed_of : (level : ℕ) (passing : Passing) (clocks : List Clock)
    → clock_of level (map (passed passing) clocks) ≡ option_map (passed passing) (clock_of level clocks)
passed_of level passing [] = refl
passed_of level passing (clock ∷ clocks) =
    ap (λ o. if clock.level == level then Some (passed passing clock) else o) (passed_of level passing clocks)
    ∙ passed_if (clock.level == level) passing clock (clock_of level clocks)

pub passed_at : (level : Option ℕ) (passing : Passing) (clocks : List Clock)
    → clock_at level (map (passed passing) clocks) ≡ option_map (passed passing) (clock_at level clocks)
passed_at None passing clocks = refl
passed_at (Some level) passing clocks = passed_of level passing clocks

pub some_mapped : (passing : Passing) (o : Option Clock) → is_some (option_map (passed passing) o) ≡ is_some o
some_mapped passing None = refl
some_mapped passing (Some clock) = refl

-- whether the tasks of a clock wait
abbrev pub waits_of : Option ℕ → Option Clock → Bool
waits_of base None = false
waits_of base (Some clock) = is_lower base (Some clock.level)

level_waits : (level : ℕ) (base : Option ℕ) (clocks : List Clock) → is_some (clock_of level clocks) ≡ true
    → is_lower base (Some level) ≡ waits_of base (clock_of level clocks)
level_waits level base [] clocked = cc
level_waits level base (clock ∷ clocks) clocked = elim (cases_Bool (clock.level == level)) [
  | inl same ↦
      ap (λ n. is_lower base (Some n)) (sym (eqb-true clock.level level same))
      ∙ sym (ap (λ b. waits_of base (if b then Some clock else clock_of level clocks)) same)
  | inr differs ↦
      level_waits level base clocks (sym (ap (λ b. is_some (if b then Some clock else clock_of level clocks)) differs) ∙ clocked)
      ∙ sym (ap (λ b. waits_of base (if b then Some clock else clock_of level clocks)) differs)
]

waits_by : (b : Bool) (own base : Option ℕ) (clocks : List Clock) → is_some (clock_at own clocks) ≡ true
    → (b && is_lower base own) ≡ waits_of base (clock_at (if b then own else None) clocks)
waits_by false own base clocks clocked = refl
waits_by true None base clocks clocked = cc
waits_by true (Some level) base clocks clocked = level_waits level base clocks clocked

-- ---- a tally of which the waiting goes on

abbrev pub waited_on : ℕ → Bool → Tally → Tally
waited_on elapsed waits tally = record tally {
  lower = tally.lower + ticks_if waits elapsed;
  longest = max tally.longest (streak_after elapsed waits tally.streak);
  streak = streak_after elapsed waits tally.streak;
}

pub waits_same : (tally : Tally) (lower lower' longest longest' streak streak' : ℕ) → lower ≡ lower' → longest ≡ longest' → streak ≡ streak'
    → record tally { lower = lower; longest = longest; streak = streak } ≡ record tally { lower = lower'; longest = longest'; streak = streak' }
waits_same tally lower lower' longest longest' streak streak' a b c =
    ap (λ x. record tally { lower = x; longest = longest; streak = streak }) a
    ∙ ap (λ x. record tally { lower = lower'; longest = x; streak = streak }) b
    ∙ ap (λ x. record tally { lower = lower'; longest = longest'; streak = x }) c

lower_more : (l c t w : ℕ) → w ≤ c → l + ((c + t) - w) ≡ l + (c - w) + t
lower_more l c t w less = omega (arith, less)

pub minus_more : (c t w : ℕ) → w ≤ c → (c + t) - w ≡ (c - w) + t
minus_more c t w less = omega (arith, less)

clock_streak : (clock : Clock) (passing : Passing) (tick : ℕ) (one : Dated) → one.tick ≤ tick → IsTimed clock tick one
    → told_streak (Some (passed passing clock)) (tick + passing.elapsed) one
    ≡ streak_after passing.elapsed (is_lower passing.base (Some clock.level)) (told_streak (Some clock) tick one)
clock_streak clock passing tick one at timed =
    let w = is_lower passing.base (Some clock.level) in
    let d = passing.elapsed in
    let s = one.kept.tally.streak in
    ap (λ x. choice x ((tick + d) - one.tick) s (streak_after d w clock.streak)) (minus_more clock.waited (ticks_if w d) one.waited timed.from)
    ∙ ap (λ x. choice ((clock.waited - one.waited) + ticks_if w d) x s (streak_after d w clock.streak)) (minus_more tick d one.tick at)
    ∙ streak_more (clock.waited - one.waited) (tick - one.tick) d s clock.streak w timed.grown

clock_told : (clock : Clock) (passing : Passing) (tick : ℕ) (one : Dated) → one.tick ≤ tick → IsTimed clock tick one → IsQuietBy (Some clock) passing tick one
    → tally_by_clock (Some (passed passing clock)) (tick + passing.elapsed) one
    ≡ waited_on passing.elapsed (is_lower passing.base (Some clock.level)) (tally_by_clock (Some clock) tick one)
clock_told clock passing tick one at timed quiet =
    let w = is_lower passing.base (Some clock.level) in
    let d = passing.elapsed in
    let before = told_streak (Some clock) tick one in
    let streak = clock_streak clock passing tick one at timed in
    waits_same one.kept.tally
    (one.kept.tally.lower + ((clock.waited + ticks_if w d) - one.waited)) (one.kept.tally.lower + (clock.waited - one.waited) + ticks_if w d)
    (max one.kept.tally.longest (told_streak (Some (passed passing clock)) (tick + d) one)) (max (max one.kept.tally.longest before) (streak_after d w before))
    (told_streak (Some (passed passing clock)) (tick + d) one) (streak_after d w before)
    (lower_more one.kept.tally.lower clock.waited (ticks_if w d) one.waited timed.from)
    (ap (λ x. max one.kept.tally.longest x) streak ∙ longest_more d one.kept.tally.longest before w quiet)
    streak

-- a task that is not ready
abbrev pub gone_streak : ℕ → ℕ → ℕ
gone_streak n s = if n == 0 then s else 0

pub gone_zero : (n s : ℕ) → n ≡ 0 → gone_streak n s ≡ s
gone_zero n s e = ap (λ b. if b then s else 0) (eq-eqb n 0 e)

gone_some : (n s : ℕ) → (n ≡ 0 → ⊥) → gone_streak n s ≡ 0
gone_some n s some = ap (λ b. if b then s else 0) (ne_eqb n 0 some)

pub gone_most : (n s : ℕ) → gone_streak n s ≤ s
gone_most n s = elim (cases_eq n 0) [
  | inl none ↦ omega (arith, gone_zero n s none)
  | inr some ↦ omega (arith, gone_some n s some)
]

none_streak : (n d s : ℕ) → gone_streak (n + d) s ≡ streak_after d false (gone_streak n s)
none_streak n d s = elim (cases_eq d 0) [
  | inl none ↦ let same : n + d ≡ n = omega (arith, none) in ap (λ x. gone_streak x s) same ∙ sym (after_none d (gone_streak n s) false none)
  | inr some ↦ gone_some (n + d) s (λ e. some (omega (arith, e))) ∙ sym (after_some d (gone_streak n s) false some)
]

none_told : (passing : Passing) (tick : ℕ) (one : Dated) → one.tick ≤ tick → one.kept.tally.streak ≤ one.kept.tally.longest
    → tally_by_clock None (tick + passing.elapsed) one ≡ waited_on passing.elapsed false (tally_by_clock None tick one)
none_told passing tick one at less =
    let d = passing.elapsed in
    let s = one.kept.tally.streak in
    let l = one.kept.tally.longest in
    let before = gone_streak (tick - one.tick) s in
    let streak = ap (λ x. gone_streak x s) (minus_more tick d one.tick at) ∙ none_streak (tick - one.tick) d s in
    let same : one.kept.tally.lower ≡ one.kept.tally.lower + 0 = omega arith in
    waits_same one.kept.tally
    one.kept.tally.lower (one.kept.tally.lower + 0)
    (max l (gone_streak ((tick + d) - one.tick) s)) (max (max l before) (streak_after d false before))
    (gone_streak ((tick + d) - one.tick) s) (streak_after d false before)
    same
    (ap (λ x. max l x) streak ∙ longest_more d l before false (λ _ _. omega (arith, gone_most (tick - one.tick) s, less)))
    streak

pub option_told : (o : Option Clock) (passing : Passing) (tick : ℕ) (one : Dated) → one.tick ≤ tick → one.kept.tally.streak ≤ one.kept.tally.longest
    → IsTimedBy o tick one → IsQuietBy o passing tick one
    → tally_by_clock (option_map (passed passing) o) (tick + passing.elapsed) one
    ≡ waited_on passing.elapsed (waits_of passing.base o) (tally_by_clock o tick one)
option_told None passing tick one at less timed quiet = none_told passing tick one at less
option_told (Some clock) passing tick one at less timed quiet = clock_told clock passing tick one at timed quiet

-- ---- a line that does not tell of a task

runs_by_number : (runner : Option Who) (task : TaskNo) → somebody_eq runner (Some (subject.Task task)) ≡ is_number (number_in runner) task.0
runs_by_number None task = refl
runs_by_number (Some (subject.Task other)) task = refl
runs_by_number (Some subject.Agent) task = refl

move_stays : (task : TaskNo) (event : Event) → is_number (named_by event) task.0 ≡ false → move_of task event ≡ Stays
move_stays task (Ready (subject.Task other) level end deadline) e = ap (λ b. if b then Enters end else Stays) e
move_stays task (Ready subject.Agent level end deadline) e = refl
move_stays task (Block (subject.Task other) why) e = ap leaves_if e
move_stays task (Block subject.Agent why) e = refl
move_stays task (Done other) e = ap leaves_if e
move_stays task event e = refl

eqb_back : (a b : ℕ) → (a == b) ≡ (b == a)
eqb_back a b = elim (cases_eq a b) [
  | inl same ↦ eq-eqb a b same ∙ sym (eq-eqb b a (sym same))
  | inr apart ↦ ne_eqb a b apart ∙ sym (ne_eqb b a (λ e. apart (sym e)))
]

base_stays : (task : TaskNo) (base : Option ℕ) (event : Event) → is_number (named_by event) task.0 ≡ false → base_after task base event ≡ base
base_stays task base (New (created.Task other) name level) e = ap (λ b. level_if b level base) (eqb_back task.0 other.0 ∙ e)
base_stays task base (Base other level) e = ap (λ b. level_if b level base) (eqb_back task.0 other.0 ∙ e)
base_stays task base event e = refl

plus_zero : (n : ℕ) → n + 0 ≡ n
plus_zero n = omega arith

max_zero : (n : ℕ) → max n 0 ≡ n
max_zero n = omega arith

middle_off : (a b c : Bool) → (a && false && b && c) ≡ false
middle_off true b c = refl
middle_off false b c = refl

others_same : (a : Tally) (b : Tally) → a.jobs ≡ b.jobs → a.worst ≡ b.worst → a.sum ≡ b.sum → a.run ≡ b.run → a.preempted ≡ b.preempted → a.base ≡ b.base
    → a.since ≡ b.since → a.tail ≡ b.tail
    → a ≡ record b { lower = a.lower; longest = a.longest; streak = a.streak }
others_same a b jobs worst sum run preempted base since tail =
    ap (λ x. record a { jobs = x }) jobs
    ∙ ap (λ x. record a { jobs = b.jobs; worst = x }) worst
    ∙ ap (λ x. record a { jobs = b.jobs; worst = b.worst; sum = x }) sum
    ∙ ap (λ x. record a { jobs = b.jobs; worst = b.worst; sum = b.sum; run = x }) run
    ∙ ap (λ x. record a { jobs = b.jobs; worst = b.worst; sum = b.sum; run = b.run; preempted = x }) preempted
    ∙ ap (λ x. record b { lower = a.lower; longest = a.longest; streak = a.streak; base = x; since = a.since; tail = a.tail }) base
    ∙ ap (λ x. record b { lower = a.lower; longest = a.longest; streak = a.streak; since = x; tail = a.tail }) since
    ∙ ap (λ x. record b { lower = a.lower; longest = a.longest; streak = a.streak; tail = x }) tail

after_others : (task : TaskNo) (passing : Passing) (tick : ℕ) (event : Event) (tally : Tally) → is_number (named_by event) task.0 ≡ false
    → is_number (number_in passing.runner) task.0 ≡ false
    → tally_after task passing tick event tally ≡ waited_on passing.elapsed (is_waiting passing tally) tally
after_others task passing tick event tally unnamed unrun =
    let move = move_stays task event unnamed in
    let idle = runs_by_number passing.runner task ∙ unrun in
    others_same (tally_after task passing tick event tally) tally
    (ap (λ m. tally.jobs + ticks_if (is_some (response_at m tick tally.since)) 1) move ∙ plus_zero tally.jobs)
    (ap (λ m. max tally.worst (unwrap_or (response_at m tick tally.since) 0)) move ∙ max_zero tally.worst)
    (ap (λ m. tally.sum + unwrap_or (response_at m tick tally.since) 0) move ∙ plus_zero tally.sum)
    (ap (λ b. tally.run + ticks_if b passing.elapsed) idle ∙ plus_zero tally.run)
    (ap (λ b. tally.preempted + ticks_if (chooses_another task event && b && is_some tally.since && not (is_tick tick tally.tail)) 1) idle
    ∙ ap (λ b. tally.preempted + ticks_if b 1) (middle_off (chooses_another task event) (is_some tally.since) (not (is_tick tick tally.tail)))
    ∙ plus_zero tally.preempted)
    (base_stays task tally.base event unnamed)
    (ap (λ m. since_after m tick tally.since) move)
    (ap (λ m. tail_at m tick tally.tail) move)

pub told_on : (clocks : List Clock) (passing : Passing) (last tick : ℕ) (event : Event) (one : Dated) → tick ≡ last + passing.elapsed → IsFit clocks last one
    → IsQuiet clocks passing last one
    → is_number (named_by event) one.kept.task.0 ≡ false → is_number (number_in passing.runner) one.kept.task.0 ≡ false
    → told (map (passed passing) clocks) tick one ≡ kept_after passing tick event (told clocks last one)
told_on clocks passing last tick event one gone fit quiet unnamed unrun =
    let own = clock_at (wait_level one.kept.tally) clocks in
    ap (λ t. record one.kept { tally = t })
    (ap (λ o. tally_by_clock o tick one) (passed_at (wait_level one.kept.tally) passing clocks)
    ∙ ap (λ n. tally_by_clock (option_map (passed passing) own) n one) gone
    ∙ option_told own passing last one fit.at fit.longest fit.timed quiet
    ∙ ap (λ w. waited_on passing.elapsed w (tally_at clocks last one))
    (sym (waits_by (is_some one.kept.tally.since) one.kept.tally.base passing.base clocks fit.clocked))
    ∙ sym (after_others one.kept.task passing tick event (tally_at clocks last one) unnamed unrun))

-- ---- a task that is told at a tick

pub minus_itself : (n : ℕ) → n - n ≡ 0
minus_itself n = omega arith

dated_by : (o : Option Clock) (tally : Tally) (waited tick : ℕ) (one : Dated) → waited ≡ waited_by o → tally.streak ≤ tally.longest
    → tally_by_clock o tick (dated tally waited tick one) ≡ tally
dated_by None tally waited tick one e less =
    let streak = gone_zero (tick - tick) tally.streak (minus_itself tick) in
    let same : max tally.longest tally.streak ≡ tally.longest = omega (arith, less) in
    waits_same tally tally.lower tally.lower (max tally.longest (gone_streak (tick - tick) tally.streak)) tally.longest
    (gone_streak (tick - tick) tally.streak) tally.streak
    refl (ap (λ x. max tally.longest x) streak ∙ same) streak
dated_by (Some clock) tally waited tick one e less =
    let none : clock.waited - waited ≡ tick - tick = omega (arith, e) in
    let zero_more : tally.streak + (tick - tick) ≡ tally.streak = omega arith in
    let streak = chosen (clock.waited - waited) (tick - tick) tally.streak clock.streak none ∙ zero_more in
    let same : max tally.longest tally.streak ≡ tally.longest = omega (arith, less) in
    let lower : tally.lower + (clock.waited - waited) ≡ tally.lower = omega (arith, e) in
    waits_same tally (tally.lower + (clock.waited - waited)) tally.lower
    (max tally.longest (choice (clock.waited - waited) (tick - tick) tally.streak clock.streak)) tally.longest
    (choice (clock.waited - waited) (tick - tick) tally.streak clock.streak) tally.streak
    lower (ap (λ x. max tally.longest x) streak ∙ same) streak

pub dated_told : (clocks : List Clock) (tally : Tally) (waited tick : ℕ) (one : Dated) → waited ≡ waited_by (clock_at (wait_level tally) clocks)
    → tally.streak ≤ tally.longest → told clocks tick (dated tally waited tick one) ≡ record one.kept { tally = tally }
dated_told clocks tally waited tick one e less =
    ap (λ t. record one.kept { tally = t }) (dated_by (clock_at (wait_level tally) clocks) tally waited tick one e less)

pub most_max : (a b : ℕ) → b ≤ max a b
most_max a b = omega arith

pub told_stepped : (clocks : List Clock) (passing : Passing) (last tick : ℕ) (event : Event) (one : Dated)
    → told (map (passed passing) clocks) tick (stepped clocks last passing tick event one) ≡ kept_after passing tick event (told clocks last one)
told_stepped clocks passing last tick event one =
    let next = next_tally clocks last passing tick event one in
    dated_told (map (passed passing) clocks) next (next_waited clocks passing next) tick one (ap waited_by (sym (passed_at (wait_level next) passing clocks)))
    (most_max (tally_at clocks last one).longest next.streak)

pub told_settled : (clocks : List Clock) (last : ℕ) (one : Dated) → told clocks last (settled clocks last one) ≡ told clocks last one
told_settled clocks last one =
    let tally = tally_at clocks last one in
    dated_told clocks tally (waited_by (clock_at (wait_level one.kept.tally) clocks)) last one refl (most_max one.kept.tally.longest tally.streak)
