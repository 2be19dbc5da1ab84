-- What a cell holds that is no zero.
use Rattle.std.proofs.Common.{◌≡◌, zero, suc, ℤ, pos, negsuc, ◌≢◌, false, refl}
use Rattle.profile_image.specs.declared.values.Value.TheVariants as value
use Rattle.ada_image.specs.Layout.{is_plain_zero}

pub no_zero : (n : ℤ) → n ≢ pos 0 → is_plain_zero (value.Whole n) ≡ false
no_zero (pos zero) p = absurd (p refl)
no_zero (pos (suc n)) p = refl
no_zero (negsuc n) p = refl
