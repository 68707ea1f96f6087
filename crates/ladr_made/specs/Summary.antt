-- What is printed of a generated problem.
use Rattle.std.specs.Prelude.{ℕ, List, ◌++◌, Option, None, Some, codes}
use Rattle.std.specs.Fmt.{decimal}
use Rattle.ladr_check.specs.declared.checked.Checked.{Checked}
use Rattle.ladr_check.specs.declared.ends.CheckEnd.{CheckEnd}
use Rattle.ladr_check.specs.declared.ends.CheckEnd.TheVariants.{Accepted}
use Rattle.ladr_made.specs.declared.parts.Modelled.{Modelled}
use Rattle.ladr_made.specs.declared.parts.Proved.{Proved}
use Rattle.ladr_output.specs.Telling.{as_line}

-- a number behind what it is called
abbrev pub labelled : List ℕ → ℕ → List ℕ
labelled label number = label ++ decimal number

abbrev pub made_line : ℕ → List ℕ
made_line n = as_line (labelled (codes "% Made ") n ++ codes ".")

-- the clauses given and kept, and the lines and levels of the proof
abbrev pub counters : Proved → List ℕ
counters p =
    as_line (labelled (codes ". Given=") p.given ++ labelled (codes ". Kept=") p.kept
    ++ labelled (codes ". Length=") p.length ++ labelled (codes ". Level=") p.level ++ codes ".")

-- what became of the search for proofs
abbrev pub prover_line : Proved → List ℕ
prover_line p = labelled (codes "% Prover9 status ") p.status ++ counters p

-- what a check told of its proofs
abbrev pub end_line : CheckEnd → List ℕ
end_line (Accepted proofs) = as_line (codes "% Check accepted.")
end_line other = as_line (codes "% Check none.")

abbrev pub check_line : Option Checked → List ℕ
check_line None = as_line (codes "% Check none.")
check_line (Some checked) = end_line checked.end

-- what became of the search for a model
abbrev pub model_line : Modelled → List ℕ
model_line m =
    as_line (labelled (codes "% Mace4 status ") m.status ++ labelled (codes ". Size=") m.size
    ++ codes ".")

-- the whole output for a problem of n steps
abbrev pub summary_text : ℕ → Proved → Modelled → List ℕ
summary_text n p m =
    made_line n ++ prover_line p ++ check_line p.checked ++ model_line m
    ++ as_line (codes "% Exit made.")
