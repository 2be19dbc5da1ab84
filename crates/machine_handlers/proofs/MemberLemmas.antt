-- What is done to a member of a budget is told by what is named.
use Rattle.std.proofs.Common.{◌≡◌, List, Some, None, refl}
use Rattle.trace_text.specs.declared.events.Who.{Who}
use Rattle.profile_image.specs.declared.image.Image.{Image}
use Rattle.profile_image.specs.declared.numbers.DeclNo.{DeclNo}
use Rattle.profile_image.specs.declared.numbers.StatementNo.{StatementNo}
use Rattle.profile_image.specs.declared.numbers.ExprNo.{ExprNo}
use Rattle.profile_machine.specs.declared.world.World.{World}
use Rattle.profile_machine.specs.declared.world.lines.Part.TheVariants.{Own}
use Rattle.profile_machine.specs.declared.world.lines.Said.{Said}
use Rattle.std.specs.Prelude.{is_none}
use Rattle.profile_machine.specs.Frames.{given}
use Rattle.profile_machine.specs.Values.{seen_by, number_of_thing}
use Rattle.profile_machine.specs.Handlers.{change_member, add_member, remove_member, named_live, is_the_budget}
use Rattle.machine_handlers.specs.declared.members.Member.{Member}
use Rattle.machine_handlers.specs.Settings.{member_named}
use Rattle.machine_handlers.specs.SettingSteps.{member_changes}
use Rattle.machine_handlers.proofs.GivenLemmas.{bound}

pub add_member-is : (p : Image) (name : Who) (s : StatementNo) (d : DeclNo) (e : ExprNo) (w : World) (said : List Said)
    → add_member p name s d e w said
    ≡ given Own name (member_named (seen_by p w name) d e) (λ m. member_changes p name s m.who (is_none m.member_of) (Some m.budget)) w said
unfolding add_member change_member
add_member-is p name s d e w said =
    let q = seen_by p w name in
    let then = λ (m : Member). member_changes p name s m.who (is_none m.member_of) (Some m.budget) in
    bound name w said (number_of_thing q d) _ _ then (λ b.
    bound name w said (named_live q e) _ _ then (λ t. refl))

pub remove_member-is : (p : Image) (name : Who) (s : StatementNo) (d : DeclNo) (e : ExprNo) (w : World) (said : List Said)
    → remove_member p name s d e w said
    ≡ given Own name (member_named (seen_by p w name) d e) (λ m. member_changes p name s m.who (is_the_budget m.budget m.member_of) None) w said
unfolding remove_member change_member
remove_member-is p name s d e w said =
    let q = seen_by p w name in
    let then = λ (m : Member). member_changes p name s m.who (is_the_budget m.budget m.member_of) None in
    bound name w said (number_of_thing q d) _ _ then (λ b.
    bound name w said (named_live q e) _ _ then (λ t. refl))

pub ruleset member_laws = (add_member-is, remove_member-is)
