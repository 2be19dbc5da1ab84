-- A task in the list is the one of its name; and one that is only made has no action open.
use Rattle.std.proofs.Common.{◌≡◌, ◌⊎◌, inl, inr, ℕ, suc, ◌≤◌, Bool, true, false, cond, List, [], ◌∷◌, Some, refl, sym, ap, subst, ◌∙◌, arith}
use Rattle.std.specs.Prelude.{find, filter, unwrap_or}
use Rattle.std.proofs.lemmas.Bool.{false≢true}
use Rattle.ann_base.specs.declared.identities.TaskNo.{TaskNo}
use Rattle.trace_text.specs.declared.events.Who.{Who}
use Rattle.trace_text.specs.declared.events.Who.TheVariants as who
use Rattle.profile_machine.specs.declared.world.World.{World}
use Rattle.profile_machine.specs.declared.world.tasks.Task.{Task}
use Rattle.profile_machine.specs.declared.world.tasks.State.{State}
use Rattle.profile_machine.specs.declared.world.tasks.State.TheVariants.{Made, Runnable, Blocked}
use Rattle.profile_image.specs.Words.{same_who}
use Rattle.profile_machine.specs.Tasks.{is_who, nobody, is_made, is_made_state, is_runnable_state}
use Rattle.profile_machine.specs.WellFormed.{number_in}
use Rattle.machine_laws.proofs.ListLemmas.{Rises}
use Rattle.machine_laws.proofs.QueueLemmas.{by_test}
use Rattle.line_laws.proofs.Exits.TaskEdits.{one_of, one_of-is, same_who-path}
use Rattle.world_laws.proofs.Actions.Sound.{task_key, EachListed, Sound, Free}
use Rattle.world_laws.proofs.Actions.SoundActions.{who-self}
use Rattle.world_laws.proofs.Actions.GoodMoves.{free-asleep}

abbrev pub Member : Task → List Task → Type 0
Member t [] = ⊥
Member t (x ∷ xs) = (x ≡ t) ⊎ Member t xs

member-low : (t : Task) (low top : ℕ) (ts : List Task) → Rises task_key low top ts → Member t ts → low ≤ task_key t
member-low t low top [] h m = absurd m
member-low t low top (x ∷ xs) h (inl is) = subst (λ (u : Task). low ≤ task_key u) is h.0
member-low t low top (x ∷ xs) h (inr m) =
    let more : suc (task_key x) ≤ task_key t = member-low t (suc (task_key x)) top xs h.1 m in let first : low ≤ task_key x = h.0 in omega (arith, more, first)

found-member : (t : Task) (low top : ℕ) (ts : List Task) → Rises task_key low top ts → Member t ts → find (is_who t.who) ts ≡ Some t
found-member t low top [] h m = absurd m
found-member t low top (x ∷ xs) h (inl is) =
    ap (λ (u : Task). cond (same_who t.who u.who) (Some x) (find (is_who t.who) xs)) is ∙ ap (λ b. cond b (Some x) (find (is_who t.who) xs)) (who-self t.who)
    ∙ ap (λ u. Some u) is
found-member t low top (x ∷ xs) h (inr m) =
    let more : suc (task_key x) ≤ task_key t = member-low t (suc (task_key x)) top xs h.1 m in
    ap (λ b. cond b (Some x) (find (is_who t.who) xs))
    (by_test (same_who t.who x.who)
    (λ same. let is : task_key t ≡ task_key x = ap number_in (same_who-path t.who x.who same) in absurd (omega (arith, more, is))) (λ e. e))
    ∙ found-member t (suc (task_key x)) top xs h.1 m

listed-member : (t : Task) (ts : List Task) → EachListed ts → Member t ts → (n : TaskNo) × (t.who ≡ who.Task n)
listed-member t [] h m = absurd m
listed-member t (x ∷ xs) h (inl is) = (h.0.0, ap (λ (u : Task). u.who) (sym is) ∙ h.0.1)
listed-member t (x ∷ xs) h (inr m) = listed-member t xs h.1 m

pub member-self : (t : Task) (w : World) → Sound w → Member t w.tasks → one_of w.tasks w.agent t.who ≡ t
member-self t w h m =
    let n = listed-member t w.tasks h.2.0 m in
    ap (one_of w.tasks w.agent) n.1 ∙ ap (λ i. unwrap_or (find (is_who i) w.tasks) nobody) (sym n.1)
    ∙ ap (λ found. unwrap_or found nobody) (found-member t 0 w.drawn.tasks w.tasks h.1 m)

made-asleep : (state : State) → is_made_state state ≡ true → is_runnable_state state ≡ false
made-asleep Made e = refl
made-asleep Runnable e = absurd (false≢true e)
made-asleep (Blocked waiting) e = refl

-- of the names of those of a list that are only made
abbrev pub MadeOf : List Task → Who → Type 0
MadeOf ts name = (t : Task) × Member t ts × (is_made t ≡ true) × (t.who ≡ name)

pub made-free : (w : World) → Sound w → (name : Who) → MadeOf w.tasks name → Free name w
made-free w h name m =
    subst (λ n. Free n w) m.3
    (free-asleep m.0.who w h (ap (λ (t : Task). is_runnable_state t.state) (sym (one_of-is w m.0.who) ∙ member-self m.0 w h m.1) ∙ made-asleep m.0.state m.2))

kept-member : (t x : Task) (b : Bool) (xs left : List Task) (test : Task → Bool) → test x ≡ b → Member t (cond b (x ∷ left) left)
    → (Member t left → Member t xs × (test t ≡ true)) → ((x ≡ t) ⊎ Member t xs) × (test t ≡ true)
kept-member t x true xs left test is (inl e) k = (inl e, subst (λ u. test u ≡ true) e is)
kept-member t x true xs left test is (inr m) k = let rest = k m in (inr rest.0, rest.1)
kept-member t x false xs left test is m k = let rest = k m in (inr rest.0, rest.1)

pub filter-member : (test : Task → Bool) (t : Task) (ts : List Task) → Member t (filter test ts) → Member t ts × (test t ≡ true)
filter-member test t [] m = absurd m
filter-member test t (x ∷ xs) m = kept-member t x (test x) xs (filter test xs) test refl m (λ n. filter-member test t xs n)
