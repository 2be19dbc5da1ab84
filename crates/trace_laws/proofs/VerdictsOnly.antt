-- What a verdict says is said of no other verdict.
use Rattle.std.proofs.Common.{◌≡◌, ◌≤◌, ◌<◌, ◌⊎◌, ◌||◌, ℕ, ◌+◌, Bool, true, false, not, ◌&&◌, cond, ltb, leb, if◌then◌else◌, List, []}
use Rattle.std.proofs.Common.{◌∷◌, ◌++◌, length, Some, None, Result, Ok, Err, refl, ap, sym, subst, ◌∙◌, append_assoc, arith, inl, inr}
use Rattle.std.proofs.lemmas.List.{append-nil}
use Rattle.std.proofs.lemmas.Bool.{lt-ltb, le-ltb}
use Rattle.trace_text.specs.declared.lines.TheConstants.{LAST_TICK}
use Rattle.trace_text.specs.declared.events.Event.{Event}
use Rattle.trace_text.specs.Queue.{TraceLine, see, nothing_seen, somebody_eq, who_of, head_of, follows_ticks, follows_lines}
use Rattle.trace_text.specs.Laws.{Formed, KeepsLaws, see_shape, is_formed_next, no_shape, see_levels, is_below_ceiling, no_levels, actions_after}
use Rattle.trace_text.specs.Laws.{is_exclusive, see_releases, is_in_order, no_releases, is_agent_right, remember, is_rightly_left, follows_order}
use Rattle.trace_text.specs.Laws.{follows_form, follows_dispatch, follows_ceilings, follows_exclusion, follows_handlers, follows_leaving}
use Rattle.trace_reading.specs.Lines.{line_in}
use Rattle.trace_laws.specs.declared.laws.LawFault.{LawFault}
use Rattle.trace_laws.specs.declared.laws.LawFault.TheVariants.{Malformed, Broken}
use Rattle.trace_laws.specs.declared.laws.Law.{Law}
use Rattle.trace_laws.specs.declared.laws.Law.TheVariants.{Dispatch, Ceiling, Exclusive, Handlers, Left}
use Rattle.trace_laws.specs.declared.verdicts.Verdict.{Verdict}
use Rattle.trace_laws.specs.declared.verdicts.Verdict.TheVariants as verdict
use Rattle.trace_laws.specs.declared.verdicts.TheConstants.{TRACE_BYTES}
use Rattle.trace_laws.specs.Watched.{fault_of, answer_of}
use Rattle.trace_laws.specs.Verdicts.{verdict_at, verdict_with, verdict_from, Reads, bytes_in, Offends, Says}

-- ---- a test that a list passes is passed by what it begins with

last_by : (a b c : Bool) → (a && b) ≡ true → (b ≡ true → c ≡ true) → (a && c) ≡ true
last_by true b c e on = on e
last_by false b c e on = cc

third_by : (a b c d : Bool) → (a && b && c) ≡ true → (c ≡ true → d ≡ true) → (a && b && d) ≡ true
third_by true true c d e on = on e
third_by true false c d e on = cc
third_by false b c d e on = cc

each_by : (a b c d : Bool) → (a && b) ≡ true → (a ≡ true → c ≡ true) → (b ≡ true → d ≡ true) → (c && d) ≡ true
each_by true b c d e first second = ap (λ x. x && d) (first refl) ∙ second e
each_by false b c d e first second = cc

front_lines : {S : Type 0} (see : S → Event → S) (lawful : S → Event → Bool) (s : S) (front back : List TraceLine)
    → follows_lines see lawful s (front ++ back) ≡ true → follows_lines see lawful s front ≡ true
front_lines see lawful s [] back e = refl
front_lines see lawful s (line ∷ front) back e =
    last_by (lawful s line.1) (follows_lines see lawful (see s line.1) (front ++ back)) (follows_lines see lawful (see s line.1) front) e
    (front_lines see lawful (see s line.1) front back)

front_ticks : {S : Type 0} (see : S → Event → S) (right : S → Bool) (tick : ℕ) (s : S) (front back : List TraceLine)
    → follows_ticks see right tick s (front ++ back) ≡ true → follows_ticks see right tick s front ≡ true
front_ticks see right tick s [] back e = refl
front_ticks see right tick s (line ∷ front) back e =
    last_by (leb line.0 tick || right s) (follows_ticks see right line.0 (see s line.1) (front ++ back)) (follows_ticks see right line.0 (see s line.1) front) e
    (front_ticks see right line.0 (see s line.1) front back)

front_order : (tick : ℕ) (front back : List TraceLine) → follows_order tick (front ++ back) ≡ true → follows_order tick front ≡ true
front_order tick [] back e = refl
front_order tick (line ∷ front) back e =
    third_by (leb tick line.0) (leb line.0 LAST_TICK) (follows_order line.0 (front ++ back)) (follows_order line.0 front) e (front_order line.0 front back)

-- the answer by its tests
abbrev answer_by : (form dispatch ceilings exclusion handlers leaving : Bool) → Result (Unit {0}) LawFault
answer_by form dispatch ceilings exclusion handlers leaving =
    if form
    then fault_of
    (if not dispatch then Some Dispatch
    else (if not ceilings then Some Ceiling
    else (if not exclusion then Some Exclusive else (if not handlers then Some Handlers else (if not leaving then Some Left else None)))))
    else Err Malformed

passes : (form dispatch ceilings exclusion handlers leaving : Bool) → form ≡ true → dispatch ≡ true → ceilings ≡ true → exclusion ≡ true → handlers ≡ true
    → leaving ≡ true → answer_by form dispatch ceilings exclusion handlers leaving ≡ Ok tt
passes form dispatch ceilings exclusion handlers leaving f d c e h l =
    ap (λ x. answer_by x dispatch ceilings exclusion handlers leaving) f ∙ ap (λ x. answer_by true x ceilings exclusion handlers leaving) d
    ∙ ap (λ x. answer_by true true x exclusion handlers leaving) c
    ∙ ap (λ x. answer_by true true true x handlers leaving) e ∙ ap (λ x. answer_by true true true true x leaving) h
    ∙ ap (λ x. answer_by true true true true true x) l

-- the six tests of a list
pub record Tested (lines : List TraceLine) : Type 0 where
  pub form : follows_form lines ≡ true
  pub dispatch : follows_dispatch lines ≡ true
  pub ceilings : follows_ceilings lines ≡ true
  pub exclusion : follows_exclusion lines ≡ true
  pub handlers : follows_handlers lines ≡ true
  pub leaving : follows_leaving lines ≡ true

pub front_formed : (front back : List TraceLine) → follows_form (front ++ back) ≡ true → follows_form front ≡ true
front_formed front back form =
    each_by (follows_order 0 (front ++ back)) (follows_lines see_shape is_formed_next no_shape (front ++ back)) (follows_order 0 front)
    (follows_lines see_shape is_formed_next no_shape front) form
    (front_order 0 front back) (front_lines see_shape is_formed_next no_shape front back)

pub front_tested : (front back : List TraceLine) → Tested (front ++ back) → answer_of front ≡ Ok tt
front_tested front back t =
    passes (follows_form front) (follows_dispatch front) (follows_ceilings front) (follows_exclusion front) (follows_handlers front) (follows_leaving front)
    (front_formed front back t.form)
    (front_ticks see (λ sight. somebody_eq sight.runner (who_of (head_of sight.queue))) 0 nothing_seen front back t.dispatch)
    (front_lines see_levels is_below_ceiling no_levels front back t.ceilings)
    (front_lines actions_after is_exclusive [] front back t.exclusion)
    (each_by (follows_lines see_releases is_in_order no_releases (front ++ back)) (follows_ticks see_releases is_agent_right 0 no_releases (front ++ back))
    (follows_lines see_releases is_in_order no_releases front) (follows_ticks see_releases is_agent_right 0 no_releases front) t.handlers
    (front_lines see_releases is_in_order no_releases front back) (front_ticks see_releases is_agent_right 0 no_releases front back))
    (front_lines remember is_rightly_left [] front back t.leaving)

-- ---- the verdict behind lines that are lawful

on_reads : (n : ℕ) (sofar : List TraceLine) (before : List (List ℕ)) (lines : List TraceLine) (texts : List (List ℕ)) → Reads before lines
    → n + bytes_in before ≤ TRACE_BYTES
    → ((front back : List TraceLine) → lines ≡ front ++ back → answer_of (sofar ++ front) ≡ Ok tt)
    → verdict_from n sofar (before ++ texts) ≡ verdict_from (n + bytes_in before) (sofar ++ lines) texts
on_reads n sofar [] [] texts reads within good =
    let same : n ≡ n + 0 = omega arith in ap (λ m. verdict_from m sofar texts) same ∙ ap (λ ls. verdict_from (n + 0) ls texts) (sym (append-nil sofar))
on_reads n sofar [] (line ∷ lines) texts reads within good = absurd reads
on_reads n sofar (text ∷ before) [] texts reads within good = absurd reads
on_reads n sofar (text ∷ before) (line ∷ lines) texts reads within good =
    let later = λ (more : List TraceLine). verdict_from (n + length text) more (before ++ texts) in
    let fits : ltb TRACE_BYTES (n + length text) ≡ false = le-ltb TRACE_BYTES (n + length text) (omega (arith, within)) in
    let sum : (n + length text) + bytes_in before ≡ n + (length text + bytes_in before) = omega arith in
    ap (λ b. cond b (verdict.Refused (length sofar + 1)) (verdict_with sofar (line_in text) later)) fits
    ∙ ap (λ read. verdict_with sofar read later) reads.0
    ∙ ap (λ answer. verdict_at (length sofar + 1) answer (sofar ++ line ∷ []) later) (good (line ∷ []) lines refl)
    ∙ on_reads (n + length text) (sofar ++ line ∷ []) before lines texts reads.1 (omega (arith, within))
    (λ front back is. ap answer_of (append_assoc sofar (line ∷ []) front) ∙ good (line ∷ front) back (ap (λ xs. line ∷ xs) is))
    ∙ ap (λ m. verdict_from m ((sofar ++ line ∷ []) ++ lines) texts) sum
    ∙ ap (λ ls. verdict_from (n + (length text + bytes_in before)) ls texts) (append_assoc sofar (line ∷ []) lines)

from_start : (before : List (List ℕ)) (lines : List TraceLine) (texts : List (List ℕ)) → Reads before lines → bytes_in before ≤ TRACE_BYTES
    → ((front back : List TraceLine) → lines ≡ front ++ back → answer_of front ≡ Ok tt)
    → verdict_from 0 [] (before ++ texts) ≡ verdict_from (bytes_in before) lines texts
from_start before lines texts reads within good =
    let same : 0 + bytes_in before ≡ bytes_in before = omega arith in
    on_reads 0 [] before lines texts reads (omega (arith, within)) good ∙ ap (λ m. verdict_from m lines texts) same

either_refused : (b : Bool) (number : ℕ) (other : Verdict) → (b ≡ false → other ≡ verdict.Refused number)
    → cond b (verdict.Refused number) other ≡ verdict.Refused number
either_refused true number other none = refl
either_refused false number other none = none refl

refused_here : (n : ℕ) (lines : List TraceLine) (text : List ℕ) (later : List TraceLine → Verdict)
    → (TRACE_BYTES < n + length text)
    ⊎ ((line_in text ≡ None) ⊎ ((line : TraceLine) × (line_in text ≡ Some line) × (answer_of (lines ++ line ∷ []) ≡ Err Malformed)))
    →
    cond (ltb TRACE_BYTES (n + length text)) (verdict.Refused (length lines + 1)) (verdict_with lines (line_in text) later) ≡ verdict.Refused (length lines + 1)
refused_here n lines text later (inl more) =
    ap (λ b. cond b (verdict.Refused (length lines + 1)) (verdict_with lines (line_in text) later)) (lt-ltb TRACE_BYTES (n + length text) more)
refused_here n lines text later (inr (inl none)) =
    either_refused (ltb TRACE_BYTES (n + length text)) (length lines + 1) (verdict_with lines (line_in text) later)
    (λ e. ap (λ read. verdict_with lines read later) none)
refused_here n lines text later (inr (inr (line, is, bad))) =
    either_refused (ltb TRACE_BYTES (n + length text)) (length lines + 1) (verdict_with lines (line_in text) later)
    (λ e. ap (λ read. verdict_with lines read later) is ∙ ap (λ answer. verdict_at (length lines + 1) answer (lines ++ line ∷ []) later) bad)

broken_here : (n : ℕ) (lines : List TraceLine) (text : List ℕ) (line : TraceLine) (law : Law) (later : List TraceLine → Verdict) → n + length text ≤ TRACE_BYTES
    → line_in text ≡ Some line → answer_of (lines ++ line ∷ []) ≡ Err (Broken law) →
    cond (ltb TRACE_BYTES (n + length text)) (verdict.Refused (length lines + 1)) (verdict_with lines (line_in text) later)
    ≡ verdict.Broken (length lines + 1) law
broken_here n lines text line law later within is breaks =
    ap (λ b. cond b (verdict.Refused (length lines + 1)) (verdict_with lines (line_in text) later)) (le-ltb TRACE_BYTES (n + length text) within)
    ∙ ap (λ read. verdict_with lines read later) is ∙ ap (λ answer. verdict_at (length lines + 1) answer (lines ++ line ∷ []) later) breaks

-- the texts before the one that offends
before_offence : ((lines : List TraceLine) → Formed lines → KeepsLaws lines → Tested lines) → (texts : List (List ℕ)) (number : ℕ) (o : Offends texts number)
    → verdict_from 0 [] texts ≡ verdict_from (bytes_in o.before) o.lines (o.text ∷ o.behind)
before_offence tests texts number o =
    ap (verdict_from 0 []) o.whole ∙ from_start o.before o.lines (o.text ∷ o.behind) o.read o.within
    (λ front back is. front_tested front back (subst Tested is (tests o.lines o.formed o.lawful)))

pub verdict_only : ((lines : List TraceLine) → Formed lines → KeepsLaws lines → Tested lines) → (texts : List (List ℕ)) (v : Verdict) → Says texts v
    → verdict_from 0 [] texts ≡ v
verdict_only tests texts (verdict.Lawful count) h =
    ap (verdict_from 0 []) (sym (append-nil texts))
    ∙ from_start texts h.lines [] h.read h.within (λ front back is. front_tested front back (subst Tested is (tests h.lines h.formed h.lawful)))
    ∙ ap verdict.Lawful h.counted
verdict_only tests texts (verdict.Broken number law) h =
    before_offence tests texts number h.offends
    ∙ broken_here (bytes_in h.offends.before) h.offends.lines h.offends.text h.line law
    (λ more. verdict_from (bytes_in h.offends.before + length h.offends.text) more h.offends.behind) h.inside h.line_is h.breaks
    ∙ ap (λ n. verdict.Broken n law) (sym h.offends.number_is)
verdict_only tests texts (verdict.Refused number) h =
    before_offence tests texts number h.offends
    ∙ refused_here (bytes_in h.offends.before) h.offends.lines h.offends.text
    (λ more. verdict_from (bytes_in h.offends.before + length h.offends.text) more h.offends.behind) h.refusable
    ∙ ap verdict.Refused (sym h.offends.number_is)
