-- What is asked of an open action.
use Rattle.std.specs.Prelude.{ℕ, suc, Bool, not, ◌&&◌, ◌||◌, ◌==◌, if◌then◌else◌, List, [], ◌∷◌}
use Rattle.trace_text.specs.declared.events.Who.{Who}
use Rattle.trace_text.specs.declared.events.Mode.{Mode}
use Rattle.trace_text.specs.declared.events.Action.{Action}
use Rattle.trace_text.specs.Queue.{who_eq}
use Rattle.trace_text.specs.Laws.{is_write}

abbrev pub is_of : ℕ → Who → Action → Bool
is_of object who action = object == action.object && who_eq who action.who

abbrev pub is_held_against : ℕ → Who → Mode → Action → Bool
is_held_against object who m action = object == action.object && not (who_eq who action.who)
    && (is_write m || is_write action.mode)

-- the first place of a subject's actions on an object, or the length where there is none
abbrev pub place_of : ℕ → Who → List Action → ℕ
place_of object who [] = 0
place_of object who (action ∷ actions) = if is_of object who action then 0 else suc (place_of object who actions)
