-- The law of releases said of two instants of a history, without an account: at the first an event or a timer is set,
-- or a budget gets a handler, and up to the second this is neither set again nor cancelled. And of an interrupt at its
-- moment.
use Rattle.std.specs.Prelude.{◌≡◌, ℕ, ℤ, pos, int_le, int_lt, Bool, true, not}
use Rattle.std.specs.Prelude.{◌⊎◌, List, [], ◌∷◌, ◌++◌, Some, eqb, false, map}
use Rattle.ann_base.specs.declared.identities.TaskNo.{TaskNo}
use Rattle.profile_image.specs.declared.image.Image.{Image}
use Rattle.profile_image.specs.declared.script_items.Item.{Item}
use Rattle.profile_image.specs.declared.script_items.Item.TheVariants as item
use Rattle.profile_machine.specs.declared.world.appointments.HandlerOf.{HandlerOf}
use Rattle.profile_machine.specs.Values.{budget_of}
use Rattle.profile_machine.specs.Handlers.{has_run_out, handler_attached}
use Rattle.profile_machine.specs.Releases.{named_handler, released}
use Rattle.profile_image.specs.Words.{is_flag}
use Rattle.release_laws.specs.Asked.{Request, OfEvent, OfTimer, OfBudget, asked}
use Rattle.release_laws.specs.ReleaseLaws.{Passage, history, first_account, clock_of, is_number_of, flags_behind}

abbrev pub IsAmong : {X : Type 0} → X → List X → Type 0
IsAmong x [] = ⊥
IsAmong x (y ∷ ys) = (y ≡ x) ⊎ IsAmong x ys

-- ---- events

abbrev pub leaves_event : ℕ → Request → Bool
leaves_event n (OfEvent k h moment) = not (eqb k n)
leaves_event n _ = true

-- these instants are before the moment, and name the event not
abbrev pub BeforeMoment : Image → ℕ → ℤ → List Passage → Type 0
BeforeMoment p n moment [] = Unit {0}
BeforeMoment p n moment (x ∷ xs) = (leaves_event n (asked p x.before) ≡ true)
    × (int_lt (pos x.before.time) moment ≡ true) × BeforeMoment p n moment xs

-- An event that x sets for a later moment is released at y, the instant of that moment.
pub record SetsEvent (p : Image) (n : ℕ) (h : HandlerOf) (moment : ℤ) (x : Passage) (between : List Passage)
    (y : Passage) : Type 0 where
  pub sets : asked p x.before ≡ OfEvent n (Some h) moment
  pub later : int_lt (pos x.before.time) moment ≡ true
  pub waits : BeforeMoment p n moment between
  pub stays : leaves_event n (asked p y.before) ≡ true
  pub comes : int_le moment (pos y.before.time) ≡ true

abbrev pub EventsCome : Type 0
EventsCome =
    (p : Image) (script : List (ℤ
    × Item)) (bound : ℕ) (front between back : List Passage) (x y : Passage) (n : ℕ) (h : HandlerOf) (moment : ℤ)
    → history p script bound ≡ front ++ (x ∷ (between ++ (y ∷ back))) → SetsEvent p n h moment x between y
    → IsAmong (named_handler p h) (released y.lines)

-- ---- timers

abbrev pub leaves_timer : ℕ → Request → Bool
leaves_timer n (OfTimer k t h value) = not (eqb k n)
leaves_timer n _ = true

-- at these instants the task's clock is below the value, and they name the timer not
abbrev pub BelowValue : Image → ℕ → TaskNo → ℤ → List Passage → Type 0
BelowValue p n t value [] = Unit {0}
BelowValue p n t value (x ∷ xs) = (leaves_timer n (asked p x.before) ≡ true)
    × (int_lt (pos (clock_of x.before t)) value ≡ true) × BelowValue p n t value xs

-- A timer that x sets to a value that its task's clock has not reached is released at y, where the clock reaches it.
pub record SetsTimer (p : Image) (n : ℕ) (t : TaskNo) (h : HandlerOf) (value : ℤ) (x : Passage)
    (between : List Passage) (y : Passage) : Type 0 where
  pub there : is_number_of x.before.timers n ≡ true
  pub sets : asked p x.before ≡ OfTimer n t (Some h) value
  pub later : int_lt (pos (clock_of x.before t)) value ≡ true
  pub waits : BelowValue p n t value between
  pub stays : leaves_timer n (asked p y.before) ≡ true
  pub comes : int_le value (pos (clock_of y.before t)) ≡ true

abbrev pub TimersCome : Type 0
TimersCome =
    (p : Image) (script : List (ℤ
    × Item)) (bound : ℕ) (front between back : List Passage) (x y : Passage) (n : ℕ) (t : TaskNo)
    (h : HandlerOf) (value : ℤ)
    → history p script bound ≡ front ++ (x ∷ (between ++ (y ∷ back))) → SetsTimer p n t h value x between y
    → IsAmong (named_handler p h) (released y.lines)

-- ---- budgets

abbrev pub leaves_budget : ℕ → Request → Bool
leaves_budget n (OfBudget k h) = not (eqb k n)
leaves_budget n _ = true

abbrev pub LeaveBudget : Image → ℕ → List Passage → Type 0
LeaveBudget p n [] = Unit {0}
LeaveBudget p n (x ∷ xs) = (leaves_budget n (asked p x.before) ≡ true) × LeaveBudget p n xs

-- the last instant of these
abbrev pub last_of : Passage → List Passage → Passage
last_of x [] = x
last_of x (y ∷ ys) = last_of y ys

-- A budget gets a handler at x, and is brought to zero by the tick before y.
pub record SetsBudget (p : Image) (n : ℕ) (h : HandlerOf) (x : Passage) (between : List Passage)
    (y : Passage) : Type 0 where
  pub there : is_number_of x.before.budgets n ≡ true
  pub sets : asked p x.before ≡ OfBudget n (Some h)
  pub waits : LeaveBudget p n between
  pub stays : leaves_budget n (asked p y.before) ≡ true
  pub still_there : is_number_of y.before.budgets n ≡ true
  pub runs_out : has_run_out (budget_of (last_of x between).after n) (budget_of y.before n) ≡ true

abbrev pub BudgetsCome : Type 0
BudgetsCome =
    (p : Image) (script : List (ℤ
    × Item)) (bound : ℕ) (front between back : List Passage) (x y : Passage) (n : ℕ) (h : HandlerOf)
    → history p script bound ≡ front ++ (x ∷ (between ++ (y ∷ back))) → SetsBudget p n h x between y
    → IsAmong (named_handler p h) (released y.lines)

-- ---- interrupts

abbrev pub AllBefore : ℤ → List Passage → Type 0
AllBefore moment [] = Unit {0}
AllBefore moment (x ∷ xs) = (int_lt (pos x.before.time) moment ≡ true) × AllBefore moment xs

abbrev pub NoneLater : ℤ → List (ℤ × Item) → Type 0
NoneLater moment [] = Unit {0}
NoneLater moment (x ∷ xs) = (int_le x.0 moment ≡ true) × NoneLater moment xs

abbrev pub items_of : List (ℤ × Item) → List Item
items_of = map (λ x. x.1)

-- An interrupt comes in the script at a moment, behind these items, none of which is later; y is the instant of that
-- moment, the interrupt is not masked behind these items, and the handler is attached to it there.
pub record Comes (p : Image) (script first last : List (ℤ
    × Item)) (moment : ℤ) (n : ℕ) (h : HandlerOf) (before : List Passage) (y : Passage) : Type 0 where
  pub in_script : script ≡ first ++ ((moment, item.Interrupt n) ∷ last)
  pub in_order : NoneLater moment first
  pub earlier : AllBefore moment before
  pub reached : int_le moment (pos y.before.time) ≡ true
  pub unmasked : is_flag (flags_behind (items_of first) (first_account script).flags).masked n ≡ false
  pub attached : handler_attached p n y.acted.objects ≡ Some h

abbrev pub InterruptsCome : Type 0
InterruptsCome =
    (p : Image) (script : List (ℤ
    × Item)) (bound : ℕ) (before behind : List Passage) (y : Passage) (first last : List (ℤ
    × Item)) (moment : ℤ) (n : ℕ) (h : HandlerOf)
    → history p script bound ≡ before ++ (y ∷ behind) → Comes p script first last moment n h before y
    → IsAmong (named_handler p h) (released y.lines)
