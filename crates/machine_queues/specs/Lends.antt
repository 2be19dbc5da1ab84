-- What the calls, the protected objects and a mark end as, where a `&mut` into them is returned.
use Rattle.std.specs.Prelude.{Option, List}
use Rattle.std.specs.Borrow.{LendsIf, Fml, MutBor}
use Rattle.ann_base.specs.declared.identities.CallNo.{CallNo}
use Rattle.ann_base.specs.declared.identities.ObjectNo.{ObjectNo}
use Rattle.rosters.specs.contracts.roster.Roster.{the_row as roster_row}
use Rattle.profile_machine.specs.contracts.world.calls.Call.{the_row as call_row}
use Rattle.profile_machine.specs.contracts.world.calls.CallNumbered.TheImpl.{ghosts as call_numbered}
use Rattle.profile_machine.specs.contracts.world.objects.Object.{the_row as object_row}
use Rattle.profile_machine.specs.contracts.world.objects.ObjectNumbered.TheImpl.{ghosts as object_numbered}
use Rattle.profile_machine.specs.declared.world.calls.Call.{Call}
use Rattle.profile_machine.specs.declared.world.objects.Object.{Object}
use Rattle.profile_machine.specs.Calls.{is_call}
use Rattle.profile_machine.specs.Values.{is_object}
use Rattle.profile_image.specs.Words.{set_where}

-- the calls end with the last value behind r in the place of the first with this number, and at `None` stay as they are
abbrev pub lends_call : MutBor (List Call) → CallNo → Option (MutBor Call) → Fml
lends_call s c r = LendsIf (roster_row call_row call_numbered) call_row s r (λ x. set_where (is_call c) x s.now) s.now

-- the objects end with the last value behind r in the place of the first with this number, and at `None` stay as they
-- are
abbrev pub lends_object : MutBor (List Object) → ObjectNo → Option (MutBor Object) → Fml
lends_object s number r =
    LendsIf (roster_row object_row object_numbered) object_row s r (λ x. set_where (is_object number) x s.now) s.now
