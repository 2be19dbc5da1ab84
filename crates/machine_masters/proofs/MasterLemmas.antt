-- One master more is asked, where there is fuel.
use Rattle.std.proofs.Common.{◌≡◌, ◌<◌, ℕ, suc, ◌-◌, [], Option, ap, arith}
use Rattle.ann_base.specs.declared.identities.RegionNo.{RegionNo}
use Rattle.profile_machine.specs.declared.world.World.{World}
use Rattle.profile_machine.specs.Masters.{masters_from}

pub masters_more : (fuel : ℕ) (w : World) (master : Option RegionNo) → 0 < fuel → masters_from fuel w master ≡ masters_from (suc (fuel - 1)) w master
masters_more fuel w master h = let e : fuel ≡ suc (fuel - 1) = omega arith in ap (λ n. masters_from n w master) e

pub masters_end : (fuel : ℕ) (w : World) (master : Option RegionNo) → fuel ≡ 0 → masters_from fuel w master ≡ []
masters_end fuel w master e = ap (λ n. masters_from n w master) e

pub ruleset master_laws = (masters_more, masters_end)
