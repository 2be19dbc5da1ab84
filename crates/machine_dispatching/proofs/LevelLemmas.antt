-- Greatest levels, and whether all are later, of lists that are joined.
use Rattle.std.proofs.Common.{◌≡◌, ℕ, ℤ, ◌<◌, ◌≤◌, Bool, true, false, ◌&&◌, cond, List, [], ◌∷◌, ◌++◌, length, max, int_lt, refl, ap, ◌∙◌, arith}
use Rattle.std.proofs.lemmas.List.Elements.{filter-append}
use Rattle.profile_machine.specs.declared.world.tasks.Rival.{Rival}
use Rattle.profile_machine.specs.declared.world.World.{World}
use Rattle.profile_machine.specs.declared.world.objects.Action.{Action}
use Rattle.profile_machine.specs.declared.world.tasks.Task.{Task}
use Rattle.profile_image.specs.Words.{greatest_of}
use Rattle.profile_machine.specs.Dispatching.{all_later, of_level, inside_object, greatest_level}

-- ---- the greatest of levels

pub greatest_of-max : (x : ℕ) (xs : List ℕ) (least : ℕ) → greatest_of xs (max least x) ≡ max x (greatest_of xs least)
greatest_of-max x [] least = omega arith
greatest_of-max x (y ∷ ys) least = let h = greatest_of-max x ys least in omega arith

pub ruleset greatest_laws = (greatest_of-max)

-- ---- who is later

and_assoc : (a b c : Bool) → (a && (b && c)) ≡ ((a && b) && c)
and_assoc true b c = refl
and_assoc false b c = refl

all_later-append : (d : ℤ) (xs ys : List Rival) → all_later d (xs ++ ys) ≡ (all_later d xs && all_later d ys)
all_later-append d [] ys = refl
all_later-append d (x ∷ xs) ys =
    ap (λ b. int_lt d x.deadline && b) (all_later-append d xs ys) ∙ and_assoc (int_lt d x.deadline) (all_later d xs) (all_later d ys)

pub all_later-joined : (d : ℤ) (level : ℕ) (xs ys : List Rival)
    → all_later d (of_level level (xs ++ ys)) ≡ (all_later d (of_level level xs) && all_later d (of_level level ys))
all_later-joined d level xs ys = ap (all_later d) (filter-append _ xs ys) ∙ all_later-append d (of_level level xs) (of_level level ys)

pub ruleset later_laws = (all_later-joined)

-- ---- the greatest level of rivals

module _ (test : ℕ → Bool) where
  pub least-le : (xs : List Rival) (least : ℕ) → least ≤ greatest_level test xs least
  least-le [] least = omega arith
  least-le (x ∷ xs) least = let h = least-le xs least in omega arith

  pub greatest_level-append : (xs ys : List Rival) (least : ℕ)
      → greatest_level test (xs ++ ys) least ≡ max (greatest_level test xs least) (greatest_level test ys least)
  greatest_level-append [] ys least = let h = least-le ys least in omega arith
  greatest_level-append (x ∷ xs) ys least = let h = greatest_level-append xs ys least in omega arith

  module _ (w : World) (ceiling : ℕ) where
    pub greatest_level-barred : (actions : List Action) (least : ℕ) → test ceiling ≡ false → greatest_level test (inside_object w ceiling actions) least ≡ least
    greatest_level-barred [] least e = refl
    greatest_level-barred (a ∷ more) least e = let h = greatest_level-barred more least e in let c = ap (λ b. cond b ceiling least) e in omega arith

    within : (actions : List Action) (least : ℕ) → test ceiling ≡ true → greatest_level test (inside_object w ceiling actions) least ≤ max ceiling least
    within [] least e = omega arith
    within (a ∷ more) least e = let h = within more least e in let c = ap (λ b. cond b ceiling least) e in omega arith

    pub greatest_level-entered : (actions : List Action) (least : ℕ) → 0 < length actions → test ceiling ≡ true
        → greatest_level test (inside_object w ceiling actions) least ≡ max ceiling least
    greatest_level-entered [] least h e = absurd (omega arith)
    greatest_level-entered (a ∷ more) least h e =
        let above = within more least e in
        let below = least-le (inside_object w ceiling more) least in
        let c = ap (λ b. cond b ceiling least) e in
        omega arith

    pub greatest_level-empty : (actions : List Action) (least : ℕ) → length actions ≡ 0 → greatest_level test (inside_object w ceiling actions) least ≡ least
    greatest_level-empty [] least h = refl
    greatest_level-empty (a ∷ more) least h = absurd (omega arith)

pub ruleset level_laws = (least-le, greatest_level-append, greatest_level-barred, greatest_level-entered, greatest_level-empty)

-- ---- quanta

-- a task with the quantum of what it is made
pub with_quantum : (b : Bool) (q : ℕ) (t : Task) → record t { quantum = (cond b (record t { quantum = q }) t).quantum } ≡ cond b (record t { quantum = q }) t
with_quantum true q t = refl
with_quantum false q t = refl
