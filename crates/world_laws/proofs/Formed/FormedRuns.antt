-- The test that computes a run and asks each of its worlds is true of every run.
use Rattle.std.proofs.Common.{◌≡◌, ℕ, zero, suc, ◌≤◌, ℤ, Bool, true, ◌&&◌, List, Option, Some, None, leb, refl, arith}
use Rattle.std.specs.Prelude.{IsTrue}
use Rattle.std.proofs.lemmas.Bool.{and_from, le-leb}
use Rattle.trace_text.specs.declared.events.Ended.{Ended}
use Rattle.profile_image.specs.declared.image.Image.{Image}
use Rattle.profile_image.specs.declared.script_items.Item.{Item}
use Rattle.profile_machine.specs.declared.world.World.{World}
use Rattle.profile_machine.specs.Instant.{instant}
use Rattle.profile_machine.specs.Run.{opening, stop, tock}
use Rattle.profile_machine.specs.WellFormed.{is_well_formed, is_right, all_well_formed}
use Rattle.machine_laws.specs.Reached.{Comes, opened, ticked, before, behind}
use Rattle.machine_laws.proofs.RunLemmas.{below_bound}
use Rattle.machine_laws.proofs.TimeLemmas.{instants_take_no_time, tocks_take_one_tick, opening_now}
use Rattle.world_laws.specs.SequenceWorlds.{sequences_fit}
use Rattle.world_laws.specs.FormedWorlds.{RunsAreWellFormed}
use Rattle.world_laws.proofs.Formed.FormedWorlds.{reached_worlds_are_well_formed}

same-below : (n m bound : ℕ) → n ≡ m → m ≤ bound → n ≤ bound
same-below n m bound e l = grind arith

-- what is asked at an instant, where the run stops and where it goes on
asked : (reason : Option Ended) (here there right right_there rest : Bool) → here ≡ true → there ≡ true → right ≡ true → right_there ≡ true
    → (reason ≡ None → rest ≡ true)
    → elim reason [ Some why ↦ here && there | None ↦ right && right_there && rest ] ≡ true
asked (Some why) here there right right_there rest h t r u f = and_from here there h t
asked None here there right right_there rest h t r u f = and_from (right && right_there) rest (and_from right right_there r u) (f refl)

module _ (p : Image) (fits : IsTrue (sequences_fit p)) (script : List (ℤ × Item)) (bound : ℕ) where
  -- from a world that comes, and is not beyond the bound
  all-formed : (fuel : ℕ) (w : World) → Comes p script bound w → w.time ≤ bound → all_well_formed fuel p bound w ≡ true
  all-formed zero w c l = refl
  all-formed (suc fuel) w c l =
      let i = (instant p w).0 in
      let here : is_well_formed p w ≡ true = reached_worlds_are_well_formed p fits script bound w (before w c) in
      let there : is_well_formed p i ≡ true = reached_worlds_are_well_formed p fits script bound i (behind w c) in
      let within : i.time ≤ bound = same-below i.time w.time bound (instants_take_no_time p w) l in
      asked (stop p bound i) (is_well_formed p w) (is_well_formed p i) (is_right p bound w) (is_right p bound i)
      (all_well_formed fuel p bound (tock p i).0) here there
      (and_from (leb w.time bound) (is_well_formed p w) (le-leb w.time bound l) here)
      (and_from (leb i.time bound) (is_well_formed p i) (le-leb i.time bound within) there)
      (λ e. all-formed fuel (tock p i).0 (ticked w c e)
      (same-below (tock p i).0.time (suc i.time) bound (tocks_take_one_tick p i) (below_bound p bound i e within)))

pub runs_are_well_formed : RunsAreWellFormed
runs_are_well_formed p fits script bound =
    all-formed p fits script bound (suc bound) (opening p script).0 opened (same-below (opening p script).0.time 0 bound (opening_now p script) (omega arith))
