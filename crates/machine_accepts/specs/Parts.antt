-- Lists that are made part by part.
use Rattle.std.specs.Prelude.{List, ◌++◌, Option, Some, None, Ok, Err}
use Rattle.std.specs.Bool.{then_some}
use Rattle.ann_base.specs.Results.{◌>>=◌}
use Rattle.profile_image.specs.declared.numbers.StatementNo.{StatementNo}
use Rattle.profile_image.specs.declared.statements.SelectAlternative.{SelectAlternative}
use Rattle.profile_image.specs.declared.statements.SelectKind.{SelectKind}
use Rattle.profile_image.specs.declared.statements.SelectKind.TheVariants as select
use Rattle.profile_machine.specs.declared.world.calls.DelayMoment.{DelayMoment}
use Rattle.profile_machine.specs.Operators.{Valued}
use Rattle.profile_machine.specs.Rendezvous.{delay_moment, is_open}
use Rattle.profile_machine.specs.Values.{Seen}

-- the items before those of a list, if it is one and no exception
abbrev pub with_before : {X : Type 0} → List X → Valued (List X) → Valued (List X)
with_before xs (Ok ys) = Ok (xs ++ ys)
with_before xs (Err e) = Err e

-- what an alternative is, if it is open
abbrev pub open_kind : Seen → SelectAlternative → Valued (Option SelectKind)
open_kind q a = is_open q a.guard >>= λ b. Ok (then_some b a.kind)

abbrev pub accept_in : SelectKind → Option StatementNo
accept_in (select.Accept s) = Some s
accept_in (select.Delay s) = None
accept_in select.Terminate = None

abbrev pub delay_in : Seen → SelectKind → Valued (Option DelayMoment)
delay_in q (select.Accept s) = Ok None
delay_in q (select.Delay s) = delay_moment q s >>= λ m. Ok (Some (record { delay = s; at = m }))
delay_in q select.Terminate = Ok None
