-- Tests that hold somewhere in a list, and what they leave of it.
use Rattle.std.proofs.Common.{◌≡◌, Bool, true, false, not, ◌&&◌, ◌||◌, cond, List, [], ◌∷◌, refl, sym, ap, ◌∙◌}
use Rattle.std.specs.List.{list_any, list_all, filter}
use Rattle.trace_text.specs.declared.events.Mode.{Mode}
use Rattle.trace_text.specs.declared.events.Mode.TheVariants.{Read, Write}
use Rattle.trace_text.specs.declared.events.Who.{Who}
use Rattle.profile_machine.specs.declared.world.objects.Action.{Action}
use Rattle.profile_machine.specs.Protected.{is_action_of, is_read, has_open, excludes}
use Rattle.profile_image.specs.Words.{without}
use Rattle.ann_base.specs.Lists.{is_empty}

any-step : {X : Type 0} (b : Bool) (x : X) (left : List X) (any : Bool) → any ≡ not (is_empty left) → (b || any) ≡ not (is_empty (cond b (x ∷ left) left))
any-step true x left any e = refl
any-step false x left any e = e

any-left : {X : Type 0} (test : X → Bool) (xs : List X) → list_any test xs ≡ not (is_empty (filter test xs))
any-left test [] = refl
any-left test (x ∷ xs) = any-step (test x) x (filter test xs) (list_any test xs) (any-left test xs)

and-true : (b : Bool) → (b && true) ≡ b
and-true true = refl
and-true false = refl

others-step : {X : Type 0} (of read : Bool) (test : X → Bool) (x : X) (left : List X) (any : Bool) → test x ≡ read → any ≡ not (list_all test left)
    → ((not of && not read) || any) ≡ not (list_all test (cond (not of) (x ∷ left) left))
others-step true read test x left any t e = e
others-step false true test x left any t e = rw t e
others-step false false test x left any t e = rw t refl

any-other : {X : Type 0} (of read : X → Bool) (xs : List X) → list_any (λ x. not (of x) && not (read x)) xs ≡ not (list_all read (without of xs))
any-other of read [] = refl
any-other of read (x ∷ xs) = others-step (of x) (read x) read x (without of xs) _ refl (any-other of read xs)

not-all : {X : Type 0} (test : X → Bool) (xs : List X) → not (list_all test xs) ≡ (not (is_empty xs) && not (list_all test xs))
not-all test [] = refl
not-all test (x ∷ xs) = refl

-- somebody has an action open
pub any-has_open : (name : Who) (xs : List Action) → list_any (is_action_of name) xs ≡ has_open name xs
any-has_open name xs = any-left (is_action_of name) xs

-- another has one open that writes
pub any-excludes_read : (name : Who) (mode : Mode) (xs : List Action) → mode ≡ Read
    → list_any (λ a. not (is_action_of name a) && not (is_read a.mode)) xs ≡ excludes mode (without (is_action_of name) xs)
any-excludes_read name mode xs e =
    any-other (is_action_of name) (λ a. is_read a.mode) xs ∙ not-all (λ a. is_read a.mode) (without (is_action_of name) xs)
    ∙ ap (λ m. excludes m (without (is_action_of name) xs)) (sym e)

-- another has one open
pub any-excludes_write : (name : Who) (mode : Mode) (xs : List Action) → mode ≡ Write
    → list_any (λ a. not (is_action_of name a)) xs ≡ excludes mode (without (is_action_of name) xs)
any-excludes_write name mode xs e =
    any-left (λ a. not (is_action_of name a)) xs ∙ sym (and-true (not (is_empty (without (is_action_of name) xs))))
    ∙ ap (λ m. excludes m (without (is_action_of name) xs)) (sym e)

pub ruleset action_laws = (any-has_open, any-excludes_read, any-excludes_write)
