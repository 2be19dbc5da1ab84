-- Sources that the lexer or the grammar refuses.
use Rattle.std.proofs.Common.{◌≡◌, Err, refl}
use Rattle.ada_verdicts.specs.declared.refusals.Code.TheVariants as code
use Rattle.ada_verdicts.specs.Accepted.{judged}
use Rattle.ada_verdicts.specs.Refusals.{refused_at}
use Rattle.lesson_laws.proofs.FrontEnd.{lexing, reading}
use Rattle.lesson_laws.specs.RefusedSources.{at}
use Rattle.lesson_laws.specs.RefusedSources.{bad_byte_source, bad_number_source, open_text_source, unexpected_source}
use Rattle.lesson_laws.specs.RefusedSources.{too_deep_source}

pub bad_byte_is_refused : judged bad_byte_source ≡ Err (refused_at (at 3 10) code.BadByte)
unfolding judged lexing bad_byte_source
bad_byte_is_refused = refl

pub bad_number_is_refused : judged bad_number_source ≡ Err (refused_at (at 3 10) code.BadNumber)
unfolding judged lexing bad_number_source
bad_number_is_refused = refl

pub open_text_is_refused : judged open_text_source ≡ Err (refused_at (at 3 14) code.OpenText)
unfolding judged lexing open_text_source
open_text_is_refused = refl

pub unexpected_is_refused : judged unexpected_source ≡ Err (refused_at (at 4 1) code.Unexpected)
unfolding judged lexing reading unexpected_source
unexpected_is_refused = refl

pub too_deep_is_refused : judged too_deep_source ≡ Err (refused_at (at 1 133) code.TooDeep)
unfolding judged lexing reading too_deep_source
too_deep_is_refused = refl
