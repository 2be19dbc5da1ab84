-- What follows of the law for each cause by itself, and for the test.
use Rattle.std.proofs.Common.{List, [], ◌∷◌, ◌++◌, sym, ap, ◌∙◌, append_assoc, append-nil}
use Rattle.profile_image.specs.declared.image.Image.{Image}
use Rattle.profile_machine.specs.Releases.{NamedHandler}
use Rattle.release_laws.specs.Asked.{asked}
use Rattle.release_laws.specs.ReleaseLaws.{Passage, Account, first_account, account_behind, history, AtEachInstant, ReleasesAll}
use Rattle.release_laws.specs.ReleaseLaws.{ReleasesEvents, ReleasesTimers, ReleasesBudgets, ReleasesInterrupts, OfEveryRun, RunsFollow}
use Rattle.release_laws.specs.ReleaseLaws.{owed_at_once, owed_of_interrupts, owed_of_events, owed_of_timers, owed_of_budgets}
use Rattle.release_laws.proofs.RunReleases.{runs_release}
use Rattle.release_laws.proofs.TestLemmas.{releases_told}

weaker : (p : Image) (Is It : Account → Passage → Type 0) → ((a : Account) (x : Passage) → Is a x → It a x) → (a : Account) (xs : List Passage)
    → AtEachInstant p Is a xs → AtEachInstant p It a xs
weaker p Is It f a [] h = tt
weaker p Is It f a (x ∷ xs) h = (f a x h.0, weaker p Is It f (account_behind p a x) xs h.1)

module _ (p : Image) (a : Account) (x : Passage) (h : ReleasesAll p a x) where
  abbrev once : List NamedHandler
  once = owed_at_once p x.before (asked p x.before)

  pub interrupts-stand : ReleasesInterrupts p a x
  interrupts-stand = record {
    front = once;
    back = owed_of_events p a x ++ owed_of_timers p a x ++ owed_of_budgets p a x;
    parts = h ∙ append_assoc (once ++ owed_of_interrupts p a x ++ owed_of_events p a x) (owed_of_timers p a x) (owed_of_budgets p a x)
        ∙ append_assoc (once ++ owed_of_interrupts p a x) (owed_of_events p a x) (owed_of_timers p a x ++ owed_of_budgets p a x)
        ∙ ap (λ zs. once ++ owed_of_interrupts p a x ++ zs) (sym (append_assoc (owed_of_events p a x) (owed_of_timers p a x) (owed_of_budgets p a x)));
  }

  pub events-stand : ReleasesEvents p a x
  events-stand = record {
    front = once ++ owed_of_interrupts p a x;
    back = owed_of_timers p a x ++ owed_of_budgets p a x;
    parts = h ∙ append_assoc (once ++ owed_of_interrupts p a x ++ owed_of_events p a x) (owed_of_timers p a x) (owed_of_budgets p a x);
  }

  pub timers-stand : ReleasesTimers p a x
  timers-stand = record {
    front = once ++ owed_of_interrupts p a x ++ owed_of_events p a x;
    back = owed_of_budgets p a x;
    parts = h;
  }

  pub budgets-stand : ReleasesBudgets p a x
  budgets-stand = record {
    front = once ++ owed_of_interrupts p a x ++ owed_of_events p a x ++ owed_of_timers p a x;
    back = [];
    parts = h ∙ sym (append-nil (once ++ owed_of_interrupts p a x ++ owed_of_events p a x ++ owed_of_timers p a x ++ owed_of_budgets p a x));
  }

pub runs_release_interrupts : OfEveryRun ReleasesInterrupts
runs_release_interrupts p script bound =
    weaker p (ReleasesAll p) (ReleasesInterrupts p) (interrupts-stand p) (first_account script) (history p script bound) (runs_release p script bound)

pub runs_release_events : OfEveryRun ReleasesEvents
runs_release_events p script bound =
    weaker p (ReleasesAll p) (ReleasesEvents p) (events-stand p) (first_account script) (history p script bound) (runs_release p script bound)

pub runs_release_timers : OfEveryRun ReleasesTimers
runs_release_timers p script bound =
    weaker p (ReleasesAll p) (ReleasesTimers p) (timers-stand p) (first_account script) (history p script bound) (runs_release p script bound)

pub runs_release_budgets : OfEveryRun ReleasesBudgets
runs_release_budgets p script bound =
    weaker p (ReleasesAll p) (ReleasesBudgets p) (budgets-stand p) (first_account script) (history p script bound) (runs_release p script bound)

pub runs_follow : RunsFollow
runs_follow p script bound = (releases_told p (first_account script) (history p script bound)).1 (runs_release p script bound)
