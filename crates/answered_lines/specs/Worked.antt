-- Answers of steps and lines worked out.
use Rattle.std.specs.Prelude.{ℕ, ◌≡◌, ◌↔◌, IsTrue, List, [], ◌∷◌, Option, Some, None}
use Rattle.answers.specs.AnswerTrees.{Answer, answer}
use Rattle.answered_lines.specs.Answering.{opened, IsTrueWith}
use Rattle.answered_lines.specs.Lines.{Asked, with_asks, AnsweredRow, with_terms, AnsweredLine, IsRefutationWith}
use Rattle.answered_lines.specs.Refused.{IsRefusedWith, IsAcceptedWith}
use Rattle.answered_lines.specs.Steps.{together, Brings}
use Rattle.clausify.specs.Asked.{asked_variables, all_answer_terms}
use Rattle.clausify.specs.Input.{all_rows}
use Rattle.derivation.specs.Later.{unit_deleted, rewritten}
use Rattle.derivation.specs.Lines.{assumed, wanted, clausified, denied, formula, clause, LineTree}
use Rattle.derivation.specs.Equations.{equation}
use Rattle.derivation.specs.Worked.{a, b, f, p, q, yes, no, numbered_line, copy_then}
use Rattle.derivation.specs.declared.row.Row.TheVariants.{NoFormula, NoClause, OtherClause}
use Rattle.fol_core.specs.Fol.{Fol, atom, disjunction, exists}
use Rattle.fol_core.specs.Meaning.{Meaning}
use Rattle.fol_core.specs.Tree.{Tree, Trees, var, app, none, more}
use Rattle.fol_problem.specs.Stated.{Said, said}
use Rattle.fol_problem.specs.declared.problem.Role.TheVariants.{Assumption, Goal}
use Rattle.substitutions.specs.Bindings.{by_bindings}

abbrev pub only : Tree → Trees
only t = more t none

-- clauses in order, each under its own substitution: one that is taken twice brings its answers
-- twice
abbrev pub WorkedTogether : Type 0
WorkedTogether =
    let us = answer 2 (only (var 0)) ∷ [] in
    together (λ k. by_bindings ((0, app k none) ∷ [])) (us ∷ [] ∷ us ∷ [])
    ≡ answer 2 (only (app 0 none)) ∷ answer 2 (only (app 2 none)) ∷ []

-- -p(a) | q(x4) with answer(2,x4), and p(x0) with answer(2,x0) and answer(3,x7): the unit's own
-- variable is the match's, and its other one new
abbrev pub WorkedUnit : Type 0
WorkedUnit =
    Brings (unit_deleted 0 9) (no (p a) ∷ yes (q (var 4)) ∷ []) (answer 2 (only (var 4)) ∷ [])
    ((yes (p (var 0)) ∷ []) ∷ [])
    ((answer 2 (only (var 0)) ∷ answer 3 (only (var 7)) ∷ []) ∷ [])
    (answer 2 (only (var 4)) ∷ answer 2 (only a) ∷ answer 3 (only (var 12)) ∷ [])

-- p(f(a)) with answer(2,a), rewritten by f(x0) = x0 with answer(2,x0): a is an answer already
abbrev pub WorkedRule : Type 0
WorkedRule =
    Brings (rewritten 9 0 (1 ∷ [])) (yes (p (f a)) ∷ []) (answer 2 (only a) ∷ [])
    ((yes (equation (f (var 0)) (var 0)) ∷ []) ∷ []) ((answer 2 (only (var 0)) ∷ []) ∷ [])
    (answer 2 (only a) ∷ [])

-- p(a) | p(b) is said, and what is p is asked for
abbrev pub either : Fol
either = disjunction (atom 3 (only a)) (atom 3 (only b))

abbrev pub some : Fol
some = exists 5 (atom 3 (only (var 5)))

abbrev pub stated : List Said
stated = said Assumption either ∷ said Goal some ∷ []

abbrev pub asks : List (List ℕ)
asks = [] ∷ (0 ∷ []) ∷ []

-- its clauses, and the terms of their answers
abbrev pub WorkedRows : Type 0
WorkedRows =
    (all_rows [] stated
    ≡ (1, yes (p a) ∷ yes (p b) ∷ []) ∷ (2, no (p (var 0)) ∷ []) ∷ [])
    × (all_answer_terms [] stated asks ≡ none ∷ only (var 0) ∷ [])

-- what stands in no literal of a clause is numbered behind: a goal of x5 and x6 that says p(x5)
-- and asks for x6, and then for both
abbrev pub WorkedTerms : Type 0
WorkedTerms =
    let both = said Goal (exists 5 (exists 6 (atom 3 (only (var 5))))) ∷ [] in
    (all_answer_terms [] both ((1 ∷ []) ∷ []) ≡ only (var 1) ∷ [])
    × (all_answer_terms [] both ((1 ∷ 0 ∷ []) ∷ []) ≡ more (var 1) (only (var 0)) ∷ [])
    × (all_answer_terms [] both [] ≡ none ∷ [])

-- only the quantifiers of what is asked for go
abbrev pub WorkedOpened : Type 0
WorkedOpened =
    let pair = atom 3 (more (var 5) (only (var 6))) in
    (asked_variables (exists 5 (exists 6 pair)) (1 ∷ []) ≡ 6 ∷ [])
    × (opened (6 ∷ []) (exists 5 (exists 6 pair)) ≡ exists 5 pair)
    × (opened (6 ∷ 5 ∷ []) (exists 5 (exists 6 pair)) ≡ pair)

-- an element answers what is p where it is p
abbrev pub WorkedTruth : Type 0
WorkedTruth =
    (m : Meaning) (n : ℕ) → IsTrueWith m some (0 ∷ []) (n ∷ []) ↔ IsTrue (m.relation 3 (n ∷ []))

abbrev pub asked : List Asked
asked = with_asks stated asks

abbrev pub inputs : List AnsweredRow
inputs = with_terms (all_rows [] stated) (all_answer_terms [] stated asks)

abbrev pub with_notes : LineTree → Option (List ℕ) → List Answer → AnsweredLine
with_notes line asks answers = record { line = line; asks = asks; answers = answers }

abbrev pub given : List AnsweredLine
given =
    with_notes (numbered_line 1 (formula either) assumed) None []
    ∷ with_notes (numbered_line 2 (formula some) wanted) (Some (0 ∷ [])) []
    ∷ with_notes (numbered_line 3 (clause (yes (p a) ∷ yes (p b) ∷ [])) (clausified 1)) None []
    ∷ with_notes (numbered_line 4 (clause (no (p (var 0)) ∷ [])) (denied 2)) None
    (answer 2 (only (var 0)) ∷ []) ∷ []

abbrev pub last_line : List Answer → AnsweredLine
last_line answers =
    with_notes (copy_then 5 (clause []) 3 (unit_deleted 0 4 ∷ unit_deleted 0 4 ∷ [])) None answers

abbrev pub both_answers : List Answer
both_answers = answer 2 (only a) ∷ answer 2 (only b) ∷ []

-- so a or b is p
abbrev pub WorkedRefutation : Type 0
WorkedRefutation =
    IsRefutationWith asked inputs
    (with_notes (numbered_line 1 (formula either) assumed) None []
    ∷ with_notes (numbered_line 2 (formula some) wanted) (Some (0 ∷ [])) []
    ∷ with_notes (numbered_line 3 (clause (yes (p a) ∷ yes (p b) ∷ [])) (clausified 1)) None []
    ∷ with_notes (numbered_line 4 (clause (no (p (var 0)) ∷ [])) (denied 2)) None
    (answer 2 (only (var 0)) ∷ []) ∷ last_line both_answers ∷ [])

-- with one answer less the last line isn't the conclusion; nor can a goal's line ask for something
-- else, or its clause have another answer or none
abbrev pub WorkedFaults : Type 0
WorkedFaults =
    IsRefusedWith asked inputs given (Some 4) (last_line (answer 2 (only a) ∷ [])) OtherClause
    × IsRefusedWith asked inputs [] None
    (with_notes (numbered_line 1 (formula some) wanted) (Some (1 ∷ [])) []) NoFormula
    × IsRefusedWith asked inputs given (Some 4)
    (with_notes (numbered_line 5 (clause (no (p (var 0)) ∷ [])) (denied 2)) None
    (answer 2 (only a) ∷ [])) NoClause
    × IsRefusedWith asked inputs given (Some 4)
    (with_notes (numbered_line 5 (clause (no (p (var 0)) ∷ [])) (denied 2)) None []) NoClause

-- a goal's line that asks for nothing is one, and its clauses have no answers then
abbrev pub silent : AnsweredLine
silent = with_notes (numbered_line 1 (formula some) wanted) None []

abbrev pub WorkedSilent : Type 0
WorkedSilent =
    IsAcceptedWith asked inputs [] None silent
    × IsAcceptedWith asked inputs (silent ∷ []) (Some 1)
    (with_notes (numbered_line 2 (clause (no (p (var 0)) ∷ [])) (denied 1)) None [])
    × IsRefusedWith asked inputs (silent ∷ []) (Some 1)
    (with_notes (numbered_line 2 (clause (no (p (var 0)) ∷ [])) (denied 1)) None
    (answer 1 (only (var 0)) ∷ [])) NoClause
