-- Every text that a run puts is that of a Put_Line of the program: no other step says such a line.
use Rattle.std.proofs.Common.{◌≡◌, ℕ, ℤ, Bool, true, false, cond, List, [], ◌∷◌, ◌++◌, map, Option, Some, None, subst, sym}
use Rattle.trace_text.specs.declared.events.Event.{Event}
use Rattle.trace_text.specs.declared.events.Event.TheVariants as written
use Rattle.trace_text.specs.declared.events.Ended.{Ended}
use Rattle.trace_text.specs.Text.{IsPutText}
use Rattle.profile_image.specs.declared.image.Image.{Image}
use Rattle.profile_image.specs.declared.script_items.Item.{Item}
use Rattle.profile_machine.specs.declared.world.lines.Line.{Line}
use Rattle.profile_machine.specs.declared.world.lines.Line.TheVariants as line
use Rattle.profile_machine.specs.declared.world.lines.Said.{Said}
use Rattle.profile_machine.specs.Lines.{event_of}
use Rattle.profile_machine.specs.Steps.{is_part_before, put_in_order, in_order}
use Rattle.profile_machine.specs.Values.{seen_by}
use Rattle.profile_machine.specs.Run.{opens, blank_world, tock, stop, run_of}
use Rattle.machine_laws.specs.LineKinds.{is_of_tock, AllAre}
use Rattle.machine_laws.proofs.FineMoves.{AnyWorld}
use Rattle.machine_laws.proofs.FinestMoves.{all_of, effect-leads}
use Rattle.machine_laws.proofs.Moves.{is_told_apart, AreOthers, own, Moves, Puts}
use Rattle.machine_laws.proofs.LineLemmas.{tocks_say_ticks}
use Rattle.machine_laws.proofs.Kept.Combinators.{Leads}
use Rattle.machine_laws.proofs.Kept.Instant.{instant-leads}
use Rattle.machine_laws.proofs.Kept.Run.{opens-keeps}
use Rattle.line_laws.specs.Names.{EachEvent}
use Rattle.line_laws.specs.Texts.{PutsAreShort, IsPutOf, IsShortPutOf, OfPut}
use Rattle.line_laws.proofs.Printing.RunLines.{AllOf, AllOf-append, OfEnd, OfParts, run-each}
use Rattle.line_laws.proofs.Printing.TextLemmas.{put_values, put-short}

module _ (P : List ℕ → Type 0) where
  -- ---- what an effect says

  abbrev OfPutLine : Line → Type 0
  OfPutLine (line.Put who text) = P text
  OfPutLine _ = Unit {0}

  abbrev EachSaid : List Said → Type 0
  EachSaid [] = Unit {0}
  EachSaid (x ∷ xs) = OfPutLine x.line × EachSaid xs

  EachSaid-append : (xs ys : List Said) → EachSaid xs → EachSaid ys → EachSaid (xs ++ ys)
  EachSaid-append [] ys a b = b
  EachSaid-append (x ∷ xs) ys a b = (a.0, EachSaid-append xs ys a.1 b)

  put_before : (test : Bool) (new x : Said) (xs placed : List Said) → OfPutLine new.line → EachSaid (x ∷ xs) → EachSaid placed
      → EachSaid (cond test (x ∷ placed) (new ∷ x ∷ xs))
  put_before true new x xs placed a b c = (b.0, c)
  put_before false new x xs placed a b c = (a, b)

  EachSaid-put : (new : Said) (xs : List Said) → OfPutLine new.line → EachSaid xs → EachSaid (put_in_order new xs)
  EachSaid-put new [] a b = (a, tt)
  EachSaid-put new (x ∷ xs) a b = put_before (is_part_before x.part new.part) new x xs (put_in_order new xs) a b (EachSaid-put new xs a b.1)

  EachSaid-in_order : (xs : List Said) → EachSaid xs → EachSaid (in_order xs)
  EachSaid-in_order [] a = tt
  EachSaid-in_order (x ∷ xs) a = EachSaid-put x (in_order xs) a.0 (EachSaid-in_order xs a.1)

  event_of-put : (p : Image) (x : Line) → OfPutLine x → OfPut P (event_of p x)
  event_of-put p (line.Put who text) a = a
  event_of-put p _ a = tt

  events_of-put : (p : Image) (xs : List Said) → EachSaid xs → AllOf (OfPut P) (map (λ x. event_of p x.line) xs)
  events_of-put p [] a = tt
  events_of-put p (x ∷ xs) a = (event_of-put p x.line a.0, events_of-put p xs a.1)

  no_put-kept : (x : Line) → is_told_apart x ≡ false → OfPutLine x
  no_put-kept (line.Put who text) e = absurd cc
  no_put-kept _ e = tt

  others-kept : (xs : List Said) → AreOthers xs → EachSaid xs
  others-kept [] a = tt
  others-kept (x ∷ xs) a = (no_put-kept x.line a.0, others-kept xs a.1)

  of_puts : Moves (λ before said after. EachSaid said) (λ before lines after. AllOf (OfPut P) lines)
  of_puts = record {
    stays = λ w. tt;
    goes_on = λ a b c {xs} {ys} p q. EachSaid-append xs ys p q;
    says = λ part line w no_put. (no_put-kept line no_put, tt);
    rests = λ w. tt;
    leads_on = λ a b c {xs} {ys} p q. AllOf-append (OfPut P) xs ys p q;
    settles = λ p a b xs k. events_of-put p (in_order xs) (EachSaid-in_order xs k);
    silently = λ a b k. tt;
    edits_task = λ name f w k. tt;
    adds_task = λ t w k. tt;
    forgets_task = λ name w. tt;
    sets_quantum = λ level ticks w. tt;
    ends_environment = λ leaving w. tt;
    begins_scope = λ p name scope b w. tt;
    draws_region = λ w. tt;
    edits_cells = λ id f w. tt;
    ends_scope = λ id w. tt;
    edits_call = λ c f w k. tt;
    adds_call = λ c w. tt;
    forgets_call = λ c w. tt;
    edits_object = λ o f w k a. tt;
    adds_object = λ p l u w. tt;
    enters = λ name o mode w h. (tt, tt);
    exits = λ name o w. (tt, tt);
    visits = λ name o mode xs w v h others k. (tt, EachSaid-append xs (own (line.Exit name o) ∷ []) (others-kept xs others) (tt, tt));
    finds_held = λ name o mode w h. (tt, tt);
    appoints = λ due moment w later. tt;
    drops_appointment = λ test w. tt;
    registers = λ r l w. tt;
    unregisters = λ n w. tt;
    draws_event = λ w. tt;
    adds_timer = λ t w. tt;
    clears_timer = λ k w. tt;
    sets_timer = λ k h value w. tt;
    sets_timers_due = λ timers w. tt;
    adds_budget = λ w. tt;
    edits_budget = λ b f w. tt;
    sets_budget_due = λ budget w. tt;
    releases = λ h argument w. (tt, tt);
    has_served = λ r w is. (tt, tt);
    sets_port = λ n value w. tt;
    masks = λ n flag w. tt;
    keeps_interrupt = λ n flag w. tt;
    cuts_script = λ x rest w is due. tt;
  }

  of_tock-put : (event : Event) → is_of_tock event ≡ true → OfPut P event
  of_tock-put (written.Put who text) e = absurd cc
  of_tock-put _ e = tt

  ticks-put : (events : List Event) → AllAre is_of_tock events → AllOf (OfPut P) events
  ticks-put [] a = tt
  ticks-put (x ∷ xs) a = (of_tock-put x a.0, ticks-put xs a.1)

  end-put : (reason : Option Ended) → OfEnd (OfPut P) reason
  end-put None = tt
  end-put (Some reason) = tt

  -- where each Put_Line of the program puts such texts, so does each run
  parts-put : (p : Image) → Puts AnyWorld (λ before said after. EachSaid said) p → OfParts (OfPut P) p
  unfolding Leads
  parts-put p puts = record {
    openings = λ script. effect-leads (all_of of_puts).fine p (opens p) (opens-keeps (all_of of_puts) p) (blank_world p script) tt;
    instants = λ w. instant-leads (all_of of_puts) p puts w tt;
    tocks = λ w. ticks-put (tock p w).1 (tocks_say_ticks p w);
    stops = λ bound w. end-put (stop p bound w);
    bound = tt;
  }

-- ---- the laws

put_of : (p : Image) → Puts AnyWorld (λ before said after. EachSaid (IsPutOf p) said) p
put_of p = record {
  puts = λ name s pieces text v w good is e.
      let found = put_values (seen_by p v name) pieces text e in
      (record { statement = s; pieces = pieces; values = found.0; is_of = is; text_is = found.1 }, tt);
}

pub texts_are_of_puts : (p : Image) (script : List (ℤ × Item)) (bound : ℕ) → EachEvent (OfPut (IsPutOf p)) (run_of p script bound)
texts_are_of_puts p script bound = run-each (parts-put (IsPutOf p) p (put_of p)) script bound

short_put_of : (p : Image) → PutsAreShort p → Puts AnyWorld (λ before said after. EachSaid (IsShortPutOf p) said) p
short_put_of p shorts = record {
  puts = λ name s pieces text v w good is e.
      let found = put_values (seen_by p v name) pieces text e in (
        record {
          put = record { statement = s; pieces = pieces; values = found.0; is_of = is; text_is = found.1 };
          short = λ within. subst (λ t. IsPutText t) (sym found.1) (put-short p pieces found.0 (shorts s pieces is) within);
        },
        tt,
      );
}

pub texts_are_short : (p : Image) (script : List (ℤ × Item)) (bound : ℕ) → PutsAreShort p → EachEvent (OfPut (IsShortPutOf p)) (run_of p script bound)
texts_are_short p script bound shorts = run-each (parts-put (IsShortPutOf p) p (short_put_of p shorts)) script bound
