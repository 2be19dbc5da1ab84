-- The texts of worked traces: one that is lawful, and others that break a law or are not formed.
use Rattle.std.specs.Prelude.{ℕ, List, [], ◌∷◌, ◌++◌, codes}

-- a line with its line feed, and the lines behind it
infixr 10 ◌↵◌
abbrev pub ◌↵◌ : List ℕ → List ℕ → List ℕ
line ↵ lines = line ++ 10 ∷ lines

unfoldable pub lawful_row : List ℕ
lawful_row =
    codes "0 t0 new main 15" ↵
    codes "0 t0 ready 15 tail" ↵
    codes "0 t0 run" ↵
    codes "4 t1 new main.hi 20" ↵
    codes "6 t2 new main.a 15" ↵
    codes "8 t3 new main.b 15" ↵
    codes "10 t1 ready 20 tail" ↵
    codes "10 t2 ready 15 tail" ↵
    codes "10 t3 ready 15 tail" ↵
    codes "10 t0 block activation" ↵
    codes "10 t1 run" ↵
    codes "13 t1 block delay" ↵
    codes "13 t2 run" ↵
    codes "19 t2 put a" ↵
    codes "20 t2 done" ↵
    codes "20 t3 run" ↵
    codes "21 t0 ready 15 tail" ↵
    codes "23 t1 ready 20 tail" ↵
    codes "23 t1 run" ↵
    codes "27 t1 put hi" ↵
    codes "28 t1 done" ↵
    codes "28 t3 run" ↵
    codes "30 t3 put b" ↵
    codes "31 t3 done" ↵
    codes "31 t0 run" ↵
    codes "33 t0 leave 1 end" ↵
    codes "34 t0 left 1" ↵
    codes "35 t0 done" ↵
    codes "35 end completed" ↵ []

unfoldable pub wrong_runner : List ℕ
wrong_runner =
    codes "0 t0 new main 15" ↵
    codes "0 t0 ready 15 tail" ↵
    codes "0 t0 run" ↵
    codes "4 t1 new main.hi 20" ↵
    codes "6 t2 new main.a 15" ↵
    codes "8 t3 new main.b 15" ↵
    codes "10 t1 ready 20 tail" ↵
    codes "10 t2 ready 15 tail" ↵
    codes "10 t3 ready 15 tail" ↵
    codes "10 t0 block activation" ↵
    codes "10 t1 run" ↵
    codes "13 t1 block delay" ↵
    codes "13 t3 run" ↵
    codes "19 t2 put a" ↵
    codes "20 t2 done" ↵
    codes "20 t3 run" ↵
    codes "21 t0 ready 15 tail" ↵
    codes "23 t1 ready 20 tail" ↵
    codes "23 t1 run" ↵
    codes "27 t1 put hi" ↵
    codes "28 t1 done" ↵
    codes "28 t3 run" ↵
    codes "30 t3 put b" ↵
    codes "31 t3 done" ↵
    codes "31 t0 run" ↵
    codes "33 t0 leave 1 end" ↵
    codes "34 t0 left 1" ↵
    codes "35 t0 done" ↵
    codes "35 end completed" ↵ []

unfoldable pub low_ceiling : List ℕ
low_ceiling =
    codes "0 t0 new main 15" ↵
    codes "0 t0 ready 15 tail" ↵
    codes "0 t0 run" ↵
    codes "3 p1 new main.p 9" ↵
    codes "5 t0 enter p1 write" ↵
    codes "5 t0 ready 20 head" ↵
    codes "8 t0 exit p1" ↵
    codes "8 t0 ready 15 head" ↵
    codes "10 t0 done" ↵
    codes "10 end completed" ↵ []

unfoldable pub not_finalized : List ℕ
not_finalized =
    codes "0 t0 new main 15" ↵
    codes "0 t0 ready 15 tail" ↵
    codes "0 t0 run" ↵
    codes "4 t1 new main.t 10" ↵
    codes "6 t1 ready 15 tail" ↵
    codes "6 t0 block activation" ↵
    codes "6 t1 run" ↵
    codes "9 t1 init 1 2 a" ↵
    codes "12 t1 init 2 2 b" ↵
    codes "13 t0 ready 15 tail" ↵
    codes "13 t1 ready 10 head" ↵
    codes "13 t0 run" ↵
    codes "15 t0 block delay" ↵
    codes "15 t1 run" ↵
    codes "17 t1 leave 2 end" ↵
    codes "19 t1 final 2" ↵
    codes "21 t0 ready 15 tail" ↵
    codes "21 t0 run" ↵
    codes "23 t0 abort t1" ↵
    codes "26 t0 leave 1 end" ↵
    codes "26 t0 block dependents" ↵
    codes "26 t1 run" ↵
    codes "35 t1 left 2" ↵
    codes "35 t1 done" ↵
    codes "35 t0 ready 15 tail" ↵
    codes "35 t0 run" ↵
    codes "36 t0 left 1" ↵
    codes "37 t0 done" ↵
    codes "37 end completed" ↵ []

unfoldable pub new_twice : List ℕ
new_twice =
    codes "0 t0 new main 15" ↵
    codes "0 t0 new main 15" ↵ []
