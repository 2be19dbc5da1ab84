-- Who is let into a protected object is not above its ceiling, and the law of ceilings says so of its `enter` line.
use Rattle.std.proofs.Common.{◌≡◌, ℕ, ℤ, ◌+◌, ◌≤◌, Bool, true, false, cond, not, ◌&&◌, ◌||◌, leb, ltb}
use Rattle.std.proofs.Common.{nat_le, max, List, [], ◌∷◌, Option, Some, None, refl, sym, ap, ◌∙◌, arith}
use Rattle.std.specs.Bool.{then_some}
use Rattle.std.specs.List.{list_all}
use Rattle.std.proofs.lemmas.Bool.{and_from, and_parts, le-leb, leb-true, or_parts, or_right}
use Rattle.std.proofs.Math.Nat.{le-max_right}
use Rattle.ann_base.specs.declared.identities.ObjectNo.{ObjectNo}
use Rattle.ann_base.specs.declared.exceptions.Raised.TheVariants as exception
use Rattle.trace_text.specs.declared.events.Mode.{Mode}
use Rattle.trace_text.specs.declared.events.Mode.TheVariants.{Write}
use Rattle.trace_text.specs.declared.events.Who.{Who}
use Rattle.trace_text.specs.declared.events.Who.TheVariants as who
use Rattle.trace_text.specs.Laws.{Levels, is_at_most, base_of, level_of, is_base_below, is_entry_below}
use Rattle.profile_image.specs.declared.image.Image.{Image}
use Rattle.profile_image.specs.declared.image.DispatchingRange.{DispatchingRange}
use Rattle.profile_machine.specs.declared.world.World.{World}
use Rattle.profile_machine.specs.declared.world.tasks.Task.{Task}
use Rattle.profile_machine.specs.declared.world.lines.Part.TheVariants.{Own}
use Rattle.profile_machine.specs.declared.world.appointments.Release.{Release}
use Rattle.profile_machine.specs.declared.world.objects.Object.{Object}
use Rattle.profile_machine.specs.declared.world.objects.Entering.{Entering}
use Rattle.profile_machine.specs.declared.world.objects.Entering.TheVariants as entering_is
use Rattle.profile_image.specs.Words.{greatest_of, without}
use Rattle.profile_image.specs.Program.{is_in_range, range_of, policy_of_range, is_edf_policy, is_edf_level}
use Rattle.profile_image.specs.Program.{edf_low_of, has_edf_range, has_edf, interrupt_priority}
use Rattle.profile_machine.specs.Steps.{Step}
use Rattle.profile_machine.specs.Tasks.{task_of}
use Rattle.profile_machine.specs.Values.{object_of}
use Rattle.profile_machine.specs.Frames.{raises}
use Rattle.profile_machine.specs.Dispatching.{kept_level_or_base, own_level, levels_inherited, active, active_of}
use Rattle.profile_machine.specs.Protected.{is_action_of, has_open, excludes, is_above_ceiling, entering_option, enter_or}
use Rattle.profile_machine.specs.Serving.{end_release}
use Rattle.profile_machine.specs.Handlers.{enter_handler, call_handler}
use Rattle.ceiling_laws.specs.CeilingLaws.{IsBelow, LetsInBelow, RaisesAbove, ServesAbove, entry_in, Shows, is_below_interrupts}
use Rattle.ceiling_laws.specs.CeilingLaws.{edf_is_below_interrupts, InterruptsHaveNoDeadline, EntersKeepCeilings}

-- ---- tests

pub second_false : (a b : Bool) → (a && b) ≡ false → a ≡ true → b ≡ false
second_false true b e is = e
second_false false b e is = absurd cc

pub not_less : (a c : ℕ) → ltb c a ≡ false → a ≤ c
not_less a c e = grind arith

-- ---- who is let in

-- who is let in, or finds the object held, is not above its ceiling
abbrev pub is_not_above : Entering → Bool
is_not_above entering_is.SameObject = false
is_not_above entering_is.AboveCeiling = false
is_not_above entering_is.Held = true
is_not_above entering_is.Inside = true

pub not_above : (a b c : Bool)
    → is_not_above (cond a entering_is.SameObject (cond b entering_is.AboveCeiling (cond c entering_is.Held entering_is.Inside))) ≡ true → b ≡ false
not_above true b c e = absurd cc
not_above false true c e = absurd cc
not_above false false c e = refl

inside-below : (p : Image) (w : World) (name : Who) (o : ObjectNo) (mode : Mode) (found : Option Object) → object_of w o ≡ found
    → entering_option p w name found mode ≡ entering_is.Inside → IsBelow p w name o
inside-below p w name o mode None is e = absurd cc
inside-below p w name o mode (Some x) is e =
    let test : is_above_ceiling p w name x.ceiling ≡ false =
    not_above (has_open name x.actions) (is_above_ceiling p w name x.ceiling) (excludes mode (without (is_action_of name) x.actions)) (ap is_not_above e) in
    let parts = or_parts (ltb x.ceiling (active_of p w name)) (has_edf p && ltb x.ceiling (task_of w name).base) test in
    record {
      object = x;
      found = is;
      active = not_less (active_of p w name) x.ceiling parts.0;
      base = λ edf. not_less (task_of w name).base x.ceiling (second_false (has_edf p) (ltb x.ceiling (task_of w name).base) parts.1 edf);
    }

pub lets_in_below : LetsInBelow
lets_in_below p w name o mode e = inside-below p w name o mode (object_of w o) refl e

raise-step : (p : Image) (name : Who) (o : ObjectNo) (mode : Mode) (step : Step) (a b : Bool) (rest : Entering) → b ≡ true
    → enter_or p name o mode step (cond a entering_is.SameObject (cond b entering_is.AboveCeiling rest)) ≡ raises Own name exception.Program
raise-step p name o mode step true b rest e = refl
raise-step p name o mode step false b rest e = ap (λ t. enter_or p name o mode step (cond t entering_is.AboveCeiling rest)) e

pub raises_above : RaisesAbove
raises_above p w name o mode step object said found above =
    ap (λ x. enter_or p name o mode step (entering_option p w name x mode) w said) found
    ∙ ap (λ (s : Step). s w said)
    (raise-step p name o mode step (has_open name object.actions) (is_above_ceiling p w name object.ceiling)
    (cond (excludes mode (without (is_action_of name) object.actions)) entering_is.Held entering_is.Inside) above)

served-step : (p : Image) (r : Release) (a b : Bool) (rest : Entering) → b ≡ true
    → enter_handler p r (cond a entering_is.SameObject (cond b entering_is.AboveCeiling rest)) ≡ end_release r.number
unfolding enter_handler
served-step p r true b rest e = refl
served-step p r false b rest e = ap (λ t. enter_handler p r (cond t entering_is.AboveCeiling rest)) e

pub serves_above : ServesAbove
unfolding call_handler
serves_above p w r object said found above =
    ap (λ x. enter_handler p r (entering_option p w who.Agent x Write) w said) found
    ∙ ap (λ (s : Step). s w said)
    (served-step p r (has_open who.Agent object.actions) (is_above_ceiling p w who.Agent object.ceiling)
    (cond (excludes Write (without (is_action_of who.Agent) object.actions)) entering_is.Held entering_is.Inside) above)

-- ---- levels that are dispatched by deadlines

past_none : (edf within : Bool) → (not edf || within) ≡ true → within ≡ false → edf ≡ false
past_none true within e f = absurd cc
past_none false within e f = refl

range-step : (last level : ℕ) (b : Bool) (range : DispatchingRange) (rest : Option DispatchingRange) → is_in_range level range ≡ b
    → is_below_interrupts last range ≡ true → last + 1 ≤ level
    → is_edf_policy (policy_of_range rest) ≡ false → is_edf_policy (policy_of_range (cond b (Some range) rest)) ≡ false
range-step last level false range rest is low high onward = onward
range-step last level true range rest is low high onward =
    let inside = and_parts (leb range.first level) (leb level range.last) is in
    let most : level ≤ range.last = leb-true level range.last inside.1 in
    let past : leb range.last last ≡ false = grind arith in
    past_none (is_edf_policy range.policy) (leb range.last last) low past

no_deadline : (last level : ℕ) (ranges : List DispatchingRange) → list_all (is_below_interrupts last) ranges ≡ true → last + 1 ≤ level
    → is_edf_policy (policy_of_range (range_of ranges level)) ≡ false
no_deadline last level [] low high = refl
no_deadline last level (range ∷ ranges) low high =
    let parts = and_parts (is_below_interrupts last range) (list_all (is_below_interrupts last) ranges) low in
    range-step last level (is_in_range level range) range (range_of ranges level) refl parts.0 high (no_deadline last level ranges parts.1 high)

pub interrupts_have_no_deadline : InterruptsHaveNoDeadline
interrupts_have_no_deadline p level low high = no_deadline p.policies.last_priority level p.policies.dispatching low high

no_low : (found : Option DispatchingRange) → is_edf_policy (policy_of_range found) ≡ false → edf_low_of found ≡ None
no_low None e = refl
no_low (Some range) e = ap (λ b. cond b (Some range.first) None) e

has-step : (b : Bool) (range : DispatchingRange) (rest : Option DispatchingRange) (others : Bool)
    → is_edf_policy (policy_of_range (cond b (Some range) rest)) ≡ true → (is_edf_policy (policy_of_range rest) ≡ true → others ≡ true)
    → (is_edf_policy range.policy || others) ≡ true
has-step true range rest others e onward = ap (λ t. t || others) e
has-step false range rest others e onward = or_right (is_edf_policy range.policy) others (onward e)

pub has_range : (level : ℕ) (ranges : List DispatchingRange) → is_edf_policy (policy_of_range (range_of ranges level)) ≡ true → has_edf_range ranges ≡ true
has_range level [] e = absurd cc
has_range level (range ∷ ranges) e = has-step (is_in_range level range) range (range_of ranges level) (has_edf_range ranges) e (λ k. has_range level ranges k)

-- ---- the agent

least : (xs : List ℕ) (n : ℕ) → n ≤ greatest_of xs n
least [] n = omega arith
least (x ∷ xs) n =
    let below : n ≤ greatest_of xs n = least xs n in
    let above : greatest_of xs n ≤ max x (greatest_of xs n) = le-max_right x (greatest_of xs n) in
    omega arith

pub agent_has_no_deadline : (p : Image) (t : Task) → edf_is_below_interrupts p ≡ true → t.base ≡ interrupt_priority p → is_edf_level p (active p t) ≡ false
agent_has_no_deadline p t low is =
    let off : is_edf_level p t.base ≡ false = interrupts_have_no_deadline p t.base low (omega arith) in
    let own : own_level p t ≡ t.base = ap (λ first. kept_level_or_base first t.kept_level t.base) (no_low (range_of p.policies.dispatching t.base) off) in
    let above : own_level p t ≤ active p t = least (levels_inherited t) (own_level p t) in
    interrupts_have_no_deadline p (active p t) low (omega arith)

-- ---- the `enter` line

at_most : (level ceiling : ℕ) → level ≤ ceiling → nat_le level ceiling ≡ true
at_most level ceiling h = le-leb level ceiling h

entry-below : (b : Bool) (level ceiling : ℕ) (deadline : ℤ) (base : Option ℕ) → nat_le level ceiling ≡ true → (b ≡ true → is_at_most base ceiling ≡ true)
    → (nat_le level ceiling && is_base_below (then_some b deadline) base ceiling) ≡ true
entry-below true level ceiling deadline base h k = and_from (nat_le level ceiling) (is_at_most base ceiling) h (k refl)
entry-below false level ceiling deadline base h k = and_from (nat_le level ceiling) true h refl

base-below : (p : Image) (w : World) (name : Who) (o : ObjectNo) (sight : Levels) → edf_is_below_interrupts p ≡ true → w.agent.base ≡ interrupt_priority p
    → Shows p w name o sight → (below : IsBelow p w name o)
    → is_edf_level p (active p (task_of w name)) ≡ true → is_at_most (base_of name sight.bases) below.object.ceiling ≡ true
base-below p w (who.Task t) o sight low agent shows below e =
    ap (λ base. is_at_most base below.object.ceiling) (shows.base t refl)
    ∙ at_most (task_of w (who.Task t)).base below.object.ceiling (below.base (has_range (active p (task_of w (who.Task t))) p.policies.dispatching e))
base-below p w who.Agent o sight low agent shows below e =
    let off : is_edf_level p (active p w.agent) ≡ false = agent_has_no_deadline p w.agent low agent in
    absurd (let never : false ≡ true = sym off ∙ e in cc)

pub enters_keep_ceilings : EntersKeepCeilings
enters_keep_ceilings p w name o mode sight low agent shows e =
    let below = lets_in_below p w name o mode e in
    let t = task_of w name in
    ap (λ entry. is_entry_below entry (base_of name sight.bases) (level_of o.0 sight.ceilings)) shows.entry
    ∙ ap (λ ceiling. is_entry_below (Some (entry_in p w name)) (base_of name sight.bases) ceiling) (shows.ceiling below.object below.found)
    ∙ entry-below (is_edf_level p (active p t)) (active p t) below.object.ceiling t.deadline (base_of name sight.bases)
    (at_most (active p t) below.object.ceiling below.active) (base-below p w name o sight low agent shows below)
