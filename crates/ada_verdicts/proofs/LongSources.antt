-- Sources of more bytes than a source may have.
use Rattle.std.proofs.Common.{◌≡◌, ◌<◌, ◌∙◌, ℕ, List, Err, length, nat_lt, Bool, true, refl, arith}
use Rattle.std.proofs.lemmas.Bool.{lt-ltb}
use Rattle.ada_lex.specs.declared.lexing.TheConstants.{MAX_SOURCE}
use Rattle.ada_lex.specs.Reading.{tokens_of}
use Rattle.profile_image.specs.declared.image.Image.{Image}
use Rattle.ada_verdicts.specs.declared.refusals.Code.TheVariants as code
use Rattle.ada_verdicts.specs.Refusals.{refused_at, first_place}
use Rattle.ada_verdicts.specs.Accepted.{Accepted, judged, LongSourcesAreRefused}

too_long : (source : List ℕ) (image : Image) → MAX_SOURCE < length source → Accepted source image → ⊥
too_long source image long accepted = omega (arith, long, accepted.lexed.0)

judged_at : (source : List ℕ) (b : Bool) → nat_lt MAX_SOURCE (length source) ≡ b → b ≡ true → judged source ≡ Err (refused_at first_place code.TooLong)
unfolding judged tokens_of
judged_at source b test long = rw (test ∙ long) refl

pub long_sources_are_refused : LongSourcesAreRefused
long_sources_are_refused source long = (
  judged_at source true (lt-ltb MAX_SOURCE (length source) long) refl,
  λ image accepted. too_long source image long accepted,
)
