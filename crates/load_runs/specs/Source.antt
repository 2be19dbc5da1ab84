-- The source of a load: a procedure with so many periodic tasks of ten jobs each.
use Rattle.std.specs.Prelude.{ℕ, zero, suc, ◌+◌, ◌-◌, ◌*◌, ◌%◌, List, [], ◌++◌, codes, decimal}

-- the priorities of the tasks go round from 1 to 14
abbrev pub priority_of : ℕ → ℕ
priority_of task = 1 + (task - 1) % 14

-- in microseconds
abbrev pub period_of : ℕ → ℕ
period_of task = 1000 + 10 * task

abbrev pub declaration_text : ℕ → List ℕ
declaration_text task = codes "   task T"
    ++ (decimal task ++ (codes " with Priority => " ++ (decimal (priority_of task) ++ codes ";\n")))

-- a task waits ten times for the beginning of its next period
abbrev pub body_text : ℕ → List ℕ
body_text task =
    codes "   task body T"
    ++ (decimal task
    ++ (codes " is\n      Next : Time := Clock;\n   begin\n      for K in 1 .. 10 loop\n         Next := Next + Microseconds ("
    ++ (decimal (period_of task) ++ (codes ");\n         delay until Next;\n      end loop;\n   end T"
    ++ (decimal task ++ codes ";\n")))))

-- of so many tasks, numbered from this one on
abbrev pub declarations_from : ℕ → ℕ → List ℕ
declarations_from first zero = []
declarations_from first (suc count) = declaration_text first ++ declarations_from (first + 1) count

abbrev pub bodies_from : ℕ → ℕ → List ℕ
bodies_from first zero = []
bodies_from first (suc count) = body_text first ++ bodies_from (first + 1) count

abbrev pub load_text : ℕ → List ℕ
load_text tasks =
    codes "with Ada.Real_Time; use Ada.Real_Time;\nprocedure Load is\n"
    ++ (declarations_from 1 tasks ++ (bodies_from 1 tasks ++ codes "begin\n   null;\nend Load;\n"))
