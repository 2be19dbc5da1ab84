-- The text of a report: a line for each task, and three lines for the whole.
use Rattle.std.specs.Prelude.{ℕ, List, [], ◌∷◌, ◌++◌, codes, decimal, flat_map}
use Rattle.trace_text.specs.declared.events.Who.TheVariants as subject
use Rattle.trace_text.specs.Queue.{TraceLine, last_from}
use Rattle.run_report.specs.declared.accounts.Account.{Account}
use Rattle.run_report.specs.Accounts.{accounts_of, run_of, idle_of}
use Rattle.run_report.specs.Kept.{Reported, accounts_in}

-- `tN NAME jobs J worst W sum S run R preempted P lower L longest G` and a line feed
abbrev pub account_text : Account → List ℕ
account_text account =
    116 ∷ (decimal account.task.0 ++ 32 ∷ (account.name ++ (
    codes " jobs " ++ (decimal account.jobs ++ (
    codes " worst " ++ (decimal account.worst ++ (
    codes " sum " ++ (decimal account.sum ++ (
    codes " run " ++ (decimal account.run ++ (
    codes " preempted " ++ (decimal account.preempted ++ (
    codes " lower " ++ (decimal account.lower ++ (
    codes " longest " ++ (decimal account.longest ++ 10 ∷ []))))))))))))))))

abbrev pub account_texts : List Account → List ℕ
account_texts accounts = flat_map account_text accounts

-- `agent run R`, `idle I` and `ticks T`, each with a line feed
abbrev pub totals_text : ℕ → ℕ → ℕ → List ℕ
totals_text agent_run idle ticks =
    codes "agent run " ++ (decimal agent_run ++ 10
    ∷ (codes "idle " ++ (decimal idle ++ 10 ∷ (codes "ticks " ++ (decimal ticks ++ 10 ∷ [])))))

-- the report of a list of lines
abbrev pub report_text : List TraceLine → List ℕ
report_text lines = account_texts (accounts_of lines)
    ++ totals_text (run_of subject.Agent lines) (idle_of lines) (last_from 0 lines)

-- the same of what is kept
abbrev pub text_in : Reported → List ℕ
text_in reported = account_texts (accounts_in reported)
    ++ totals_text reported.agent_run reported.idle reported.seen.tick
