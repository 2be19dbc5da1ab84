use Rattle.event_script.proofs.Endings.{not_one}
use Rattle.event_script.proofs.words.one_word.Goals as goal

pub returns-in-Some : goal.returns-in-Some
returns-in-Some c = not_one c.args.text.now c.in-Some.field-0.0.now c.in-Some.field-0.1.now c.in-Some.ensures
