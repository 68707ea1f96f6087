-- Levels and sizes of a proof, worked out.
use Rattle.std.specs.Prelude.{ℕ, ◌≡◌, List, [], ◌∷◌, true, false, None}
use Rattle.clause_store.specs.Lines.{PlainContent, plain_formula, plain_clause, PlainLine, line_under, plain_trees}
use Rattle.derivation.specs.Later.{LaterWord, unit_deleted}
use Rattle.fol_core.specs.Fol.{verum}
use Rattle.fol_core.specs.Literals.{literal}
use Rattle.fol_core.specs.Tree.{Tree, var, app, none, more}
use Rattle.proof_words.specs.Written.{WrittenFirst, as_assumption, as_goal, by_clausify, by_deny, by_hyper, satellite, written}
use Rattle.prover_proofs.specs.Levels.{level_in, greatest_size}

abbrev line : ℕ → PlainContent → WrittenFirst → List LaterWord → PlainLine
line n content first later = line_under n content (written first later)

abbrev stated : PlainContent
stated = plain_formula verum [] None

abbrev man : Tree → Tree
man t = app 0 (more t none)

abbrev mortal : Tree → Tree
mortal t = app 1 (more t none)

abbrev socrates : Tree
socrates = app 2 none

-- each man is mortal, and Socrates is a man, so he is mortal
abbrev seven : List PlainLine
seven =
    line 1 stated as_assumption [] ∷ line 2 stated as_assumption [] ∷ line 3 stated as_goal []
    ∷ line 4 (plain_clause (literal false (man (var 0)) ∷ literal true (mortal (var 0)) ∷ []))
    (by_clausify 1) []
    ∷ line 5 (plain_clause (literal true (man socrates) ∷ [])) (by_clausify 2) []
    ∷ line 6 (plain_clause (literal false (mortal socrates) ∷ [])) (by_deny 3) []
    ∷ line 7 (plain_clause []) (by_hyper 4 (satellite 0 5 0 ∷ [])) (unit_deleted 0 6 ∷ []) ∷ []

-- the formulas have level 0, their clauses 1, and the empty clause 2; the greatest clause has four
-- symbols and variables
abbrev pub WorkedProof : Type 0
WorkedProof =
    (level_in (plain_trees seven) 3 ≡ 0) × (level_in (plain_trees seven) 6 ≡ 1)
    × (level_in (plain_trees seven) 7 ≡ 2) × (greatest_size seven ≡ 4)
