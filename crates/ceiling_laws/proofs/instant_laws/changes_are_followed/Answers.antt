-- The laws, as they are proved of the definitions.
use Rattle.ceiling_laws.proofs.Ceilings.FollowLemmas.{placing_is_followed, inheritance_is_followed, setting_is_followed}
use Rattle.ceiling_laws.proofs.instant_laws.changes_are_followed.Goals as goal

pub returns-clause-placing : goal.returns-clause-placing
returns-clause-placing c = placing_is_followed

pub returns-clause-inheritance : goal.returns-clause-inheritance
returns-clause-inheritance c = inheritance_is_followed

pub returns-clause-setting : goal.returns-clause-setting
returns-clause-setting c = setting_is_followed
