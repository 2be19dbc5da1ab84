-- Which lines place a task in the queue and take it out.
use Rattle.std.proofs.Common.{◌≡◌, Bool, true, false, ◌||◌, if◌then◌else◌, List, [], ◌∷◌, ◌++◌, Some, is_some, refl, ap, sym, subst, ◌∙◌}
use Rattle.std.proofs.lemmas.Bool.{eqb-true, eq-eqb, false_from_ne_true}
use Rattle.ann_base.specs.declared.identities.TaskNo.{TaskNo}
use Rattle.trace_text.specs.declared.events.Who.{Who}
use Rattle.trace_text.specs.declared.events.Who.TheVariants as subject
use Rattle.trace_text.specs.declared.events.Entry.{Entry}
use Rattle.trace_text.specs.declared.events.QueueEnd.{QueueEnd}
use Rattle.trace_text.specs.declared.events.QueueEnd.TheVariants.{Head, Tail}
use Rattle.trace_text.specs.declared.events.Event.{Event}
use Rattle.trace_text.specs.declared.events.Event.TheVariants.{Ready, Block, Done}
use Rattle.trace_text.specs.Queue.{who_eq, without, entry_of, placed, queue_after}
use Rattle.run_report.specs.declared.tallies.Move.{Move}
use Rattle.run_report.specs.declared.tallies.Move.TheVariants.{Enters, Leaves, Stays}
use Rattle.run_report.specs.Accounts.{is_in}
use Rattle.run_report.specs.Kept.{move_of, leaves_if}

-- whether it is in the queue behind a line
abbrev pub after_move : Move → Bool → Bool
after_move (Enters end) before = true
after_move Leaves before = false
after_move Stays before = before

pub same_who : (a b : Who) → who_eq a b ≡ true → a ≡ b
same_who (subject.Task a) (subject.Task b) e = ap (λ n. subject.Task (record { 0 = n })) (eqb-true a.0 b.0 e)
same_who (subject.Task a) subject.Agent e = cc
same_who subject.Agent (subject.Task b) e = cc
same_who subject.Agent subject.Agent e = refl

pub who_refl : (a : Who) → who_eq a a ≡ true
who_refl (subject.Task a) = eq-eqb a.0 a.0 refl
who_refl subject.Agent = refl

never : (b : Bool) → b ≡ true → b ≡ false → ⊥
never b t f = cc

pub who_sym : (a b : Who) (e : Bool) → who_eq a b ≡ e → who_eq b a ≡ e
who_sym a b true e = subst (λ x. who_eq b x ≡ true) (sym (same_who a b e)) (who_refl b)
who_sym a b false e = false_from_ne_true (who_eq b a) (λ same. never (who_eq a b) (subst (λ x. who_eq a x ≡ true) (sym (same_who b a same)) (who_refl a)) e)

-- ---- one entry more, one subject less

in_by : (a : Who) (queue : List Entry) (entry : Entry) (b : Bool) → who_eq a entry.who ≡ b
    → is_some (entry_of a (entry ∷ queue)) ≡ b || is_some (entry_of a queue)
in_by a queue entry true e = ap (λ x. is_some (if x then Some entry else entry_of a queue)) e
in_by a queue entry false e = ap (λ x. is_some (if x then Some entry else entry_of a queue)) e

or_false : (b : Bool) → (b || false) ≡ b
or_false true = refl
or_false false = refl

or_or : (a b c : Bool) → (a || (b || c)) ≡ ((a || b) || c)
or_or true b c = refl
or_or false b c = refl

or_true : (b : Bool) → (b || true) ≡ true
or_true true = refl
or_true false = refl

in_end : (a : Who) (queue : List Entry) (entry : Entry) → is_some (entry_of a (queue ++ entry ∷ [])) ≡ is_some (entry_of a queue) || who_eq a entry.who
in_end a [] entry = in_by a [] entry (who_eq a entry.who) refl ∙ or_false (who_eq a entry.who)
in_end a (first ∷ queue) entry =
    in_by a (queue ++ entry ∷ []) first (who_eq a first.who) refl ∙ ap (λ b. who_eq a first.who || b) (in_end a queue entry)
    ∙ or_or (who_eq a first.who) (is_some (entry_of a queue)) (who_eq a entry.who)
    ∙ sym (ap (λ b. b || who_eq a entry.who) (in_by a queue first (who_eq a first.who) refl))

without_by : (a : Who) (queue : List Entry) (entry : Entry) (b : Bool) → who_eq a entry.who ≡ b → is_some (entry_of a (without a queue)) ≡ false
    → is_some (entry_of a (without a (entry ∷ queue))) ≡ false
without_by a queue entry true e rest = ap (λ x. is_some (entry_of a (if x then without a queue else entry ∷ without a queue))) e ∙ rest
without_by a queue entry false e rest =
    ap (λ x. is_some (entry_of a (if x then without a queue else entry ∷ without a queue))) e ∙ in_by a (without a queue) entry false e ∙ rest

in_without : (a : Who) (queue : List Entry) → is_some (entry_of a (without a queue)) ≡ false
in_without a [] = refl
in_without a (entry ∷ queue) = without_by a queue entry (who_eq a entry.who) refl (in_without a queue)

other_by : (a b : Who) (queue : List Entry) (entry : Entry) (e : Bool) → who_eq b entry.who ≡ e → who_eq b a ≡ false
    → is_some (entry_of a (without b queue)) ≡ is_some (entry_of a queue)
    → is_some (entry_of a (without b (entry ∷ queue))) ≡ is_some (entry_of a (entry ∷ queue))
other_by a b queue entry true e apart rest =
    let away : who_eq a entry.who ≡ false = who_sym entry.who a false (subst (λ x. who_eq x a ≡ false) (same_who b entry.who e) apart) in
    ap (λ x. is_some (entry_of a (if x then without b queue else entry ∷ without b queue))) e ∙ rest ∙ sym (in_by a queue entry false away)
other_by a b queue entry false e apart rest =
    ap (λ x. is_some (entry_of a (if x then without b queue else entry ∷ without b queue))) e
    ∙ in_by a (without b queue) entry (who_eq a entry.who) refl ∙ ap (λ x. who_eq a entry.who || x) rest ∙ sym (in_by a queue entry (who_eq a entry.who) refl)

-- another subject stays where it is
in_other : (a b : Who) (queue : List Entry) → who_eq b a ≡ false → is_some (entry_of a (without b queue)) ≡ is_some (entry_of a queue)
in_other a b [] apart = refl
in_other a b (entry ∷ queue) apart = other_by a b queue entry (who_eq b entry.who) refl apart (in_other a b queue apart)

-- ---- a line

placed_in : (task : TaskNo) (end : QueueEnd) (entry : Entry) (queue : List Entry) (b : Bool) → who_eq entry.who (subject.Task task) ≡ b
    → is_in task (placed end entry queue) ≡ b || is_in task queue
placed_in task Head entry queue true e = in_by (subject.Task task) (without entry.who queue) entry true (who_sym entry.who (subject.Task task) true e)
placed_in task Head entry queue false e =
    in_by (subject.Task task) (without entry.who queue) entry false (who_sym entry.who (subject.Task task) false e)
    ∙ in_other (subject.Task task) entry.who queue e
placed_in task Tail entry queue true e =
    in_end (subject.Task task) (without entry.who queue) entry
    ∙ ap (λ b. is_some (entry_of (subject.Task task) (without entry.who queue)) || b) (who_sym entry.who (subject.Task task) true e)
    ∙ or_true (is_some (entry_of (subject.Task task) (without entry.who queue)))
placed_in task Tail entry queue false e =
    in_end (subject.Task task) (without entry.who queue) entry
    ∙ ap (λ b. is_some (entry_of (subject.Task task) (without entry.who queue)) || b) (who_sym entry.who (subject.Task task) false e)
    ∙ or_false (is_some (entry_of (subject.Task task) (without entry.who queue))) ∙ in_other (subject.Task task) entry.who queue e

enters_by : (b before : Bool) (end : QueueEnd) → (b || before) ≡ after_move (if b then Enters end else Stays) before
enters_by true before end = refl
enters_by false before end = refl

leaves_by : (task : TaskNo) (who : Who) (queue : List Entry) (b : Bool) → who_eq who (subject.Task task) ≡ b
    → is_in task (without who queue) ≡ after_move (leaves_if b) (is_in task queue)
leaves_by task who queue true e =
    subst (λ x. is_some (entry_of (subject.Task task) (without x queue)) ≡ false) (sym (same_who who (subject.Task task) e))
    (in_without (subject.Task task) queue)
leaves_by task who queue false e = in_other (subject.Task task) who queue e

pub in_after : (task : TaskNo) (queue : List Entry) (event : Event) → is_in task (queue_after queue event) ≡ after_move (move_of task event) (is_in task queue)
in_after task queue (Ready who level end deadline) =
    placed_in task end (record { who = who; level = level; deadline = deadline }) queue (who_eq who (subject.Task task)) refl
    ∙ enters_by (who_eq who (subject.Task task)) (is_in task queue) end
in_after task queue (Block who why) = leaves_by task who queue (who_eq who (subject.Task task)) refl
in_after task queue (Done other) = leaves_by task (subject.Task other) queue (who_eq (subject.Task other) (subject.Task task)) refl
in_after task queue event = refl
