-- The texts of generated problems: a property passes along a chain of constants.
use Rattle.std.specs.Prelude.{ℕ, zero, suc, List, [], ◌++◌, codes}
use Rattle.std.specs.Fmt.{decimal}
use Rattle.ladr_output.specs.Telling.{as_line}

-- constant k
abbrev pub constant : ℕ → List ℕ
constant k = codes "a" ++ decimal k

-- step k: the function takes the constant to the next one, and what is so of the constant is so of
-- the function's value there
abbrev pub next_line : ℕ → List ℕ
next_line k =
    as_line (codes "g(" ++ constant k ++ codes ") = " ++ constant (suc k) ++ codes ".")

abbrev pub passing_line : ℕ → List ℕ
passing_line k =
    as_line (codes "-p(" ++ constant k ++ codes ") | p(g(" ++ constant k ++ codes ")).")

-- the steps before step n
abbrev pub steps_before : ℕ → List ℕ
steps_before zero = []
steps_before (suc n) = steps_before n ++ (next_line n ++ passing_line n)

-- the problem of n steps without its goal: the property is that of constant 0, and there are the
-- steps
abbrev pub assumptions_text : ℕ → List ℕ
assumptions_text n =
    as_line (codes "formulas(assumptions).") ++ as_line (codes "p(a0).") ++ steps_before n
    ++ as_line (codes "end_of_list.")

-- the goal: the property is that of constant n
abbrev pub goal_line : ℕ → List ℕ
goal_line n = as_line (codes "p(" ++ constant n ++ codes ").")

abbrev pub goals_text : ℕ → List ℕ
goals_text n =
    as_line (codes "formulas(goals).") ++ goal_line n ++ as_line (codes "end_of_list.")

-- the problem of n steps
abbrev pub made_text : ℕ → List ℕ
made_text n = assumptions_text n ++ goals_text n
