-- Steps worked out.
use Rattle.std.specs.Prelude.{ℕ, ◌≡◌, true, false, List, [], ◌∷◌, Some}
use Rattle.fol_core.specs.Fol.{atom}
use Rattle.fol_core.specs.Literals.{Lit, ClauseTree, literal}
use Rattle.fol_problem.specs.Stated.{Said, said}
use Rattle.fol_core.specs.Tree.{Tree, var, app, none, more}
use Rattle.fol_problem.specs.declared.problem.Role.TheVariants.{Assumption, Goal}
use Rattle.derivation.specs.Equations.{equation}
use Rattle.derivation.specs.Later.{LaterWord, flipped, merged, reflexive, unit_deleted, rewritten, later_fits, Leads}
use Rattle.derivation.specs.Lines.{FirstWord, assumed, wanted, clausified, denied, copied, resolved, ContentTree, formula, clause, LineTree, InputRow, IsRefutation}
use Rattle.derivation.specs.Refused.{IsRefusedLine, IsFault}
use Rattle.derivation.specs.declared.row.Row.TheVariants.{NoLines, NotAbove, NoParent, NoFormula, NoClause, Misplaced, Differs, OtherClause, NotEmpty}
use Rattle.derivation.specs.Words.{copy_rule, clash_rule, factor_rule, xx_rule, para_rule}

-- constants a and b, a function f, relations p and q
abbrev pub a : Tree
a = app 0 none

abbrev pub b : Tree
b = app 1 none

abbrev pub f : Tree → Tree
f t = app 2 (more t none)

abbrev pub p : Tree → Tree
p t = app 3 (more t none)

abbrev pub q : Tree → Tree
q t = app 4 (more t none)

abbrev pub yes : Tree → Lit
yes t = literal true t

abbrev pub no : Tree → Lit
no t = literal false t

-- C / C
abbrev pub WorkedCopy : Type 0
WorkedCopy =
    (copy_rule.fits ((yes (p a) ∷ []) ∷ []) ≡ true)
    × (copy_rule.rest ((yes (p a) ∷ []) ∷ []) ≡ yes (p a) ∷ [])

-- -p(x) | -q(y) | p(y), p(a), q(b): what has to be equal, and what is left of the instances
abbrev pub three_literals : ClauseTree
three_literals = no (p (var 0)) ∷ no (q (var 1)) ∷ yes (p (var 1)) ∷ []

abbrev pub WorkedClash : Type 0
WorkedClash =
    let rule = clash_rule ((0, 0) ∷ (1, 0) ∷ []) in
    (rule.fits (three_literals ∷ (yes (p a) ∷ []) ∷ (yes (q b) ∷ []) ∷ []) ≡ true)
    × (rule.pairs (three_literals ∷ (yes (p a) ∷ []) ∷ (yes (q b) ∷ []) ∷ []) ≡ (p (var 0), p a)
    ∷ (q (var 1), q b) ∷ [])
    × (rule.rest ((no (p a) ∷ no (q b) ∷ yes (p b) ∷ []) ∷ (yes (p a) ∷ []) ∷ (yes (q b) ∷ []) ∷ [])
    ≡ yes (p b) ∷ [])

-- one sign twice and one place twice don't fit, nor does no place
abbrev pub WorkedNoClash : Type 0
WorkedNoClash =
    ((clash_rule ((0, 0) ∷ (1, 0) ∷ [])).fits
    (three_literals ∷ (no (p a) ∷ []) ∷ (yes (q b) ∷ []) ∷ []) ≡ false)
    × ((clash_rule ((0, 0) ∷ (0, 0) ∷ [])).fits
    (three_literals ∷ (yes (p a) ∷ []) ∷ (yes (p b) ∷ []) ∷ []) ≡ false)
    × ((clash_rule []).fits (three_literals ∷ []) ≡ false)

-- p(x) | q(x) | p(a): the third is left out; one literal twice and two signs don't fit
abbrev pub WorkedFactor : Type 0
WorkedFactor =
    let c = yes (p (var 0)) ∷ yes (q (var 0)) ∷ yes (p a) ∷ [] in
    ((factor_rule 0 2).fits (c ∷ []) ≡ true)
    × ((factor_rule 0 2).pairs (c ∷ []) ≡ (p (var 0), p a) ∷ [])
    × ((factor_rule 0 2).rest ((yes (p a) ∷ yes (q a) ∷ yes (p a) ∷ []) ∷ []) ≡ yes (p a)
    ∷ yes (q a) ∷ [])
    × ((factor_rule 0 0).fits (c ∷ []) ≡ false)
    × ((factor_rule 0 1).fits ((yes (p a) ∷ no (p a) ∷ []) ∷ []) ≡ false)

-- x != a | p(x)
abbrev pub WorkedReflexivity : Type 0
WorkedReflexivity =
    let c = no (equation (var 0) a) ∷ yes (p (var 0)) ∷ [] in
    ((xx_rule 0).fits (c ∷ []) ≡ true)
    × ((xx_rule 0).pairs (c ∷ []) ≡ (var 0, a) ∷ [])
    × ((xx_rule 0).rest ((no (equation a a) ∷ yes (p a) ∷ []) ∷ []) ≡ yes (p a) ∷ [])
    × ((xx_rule 0).fits ((yes (equation a a) ∷ []) ∷ []) ≡ false)

-- a = b | q(a) into p(f(a)) at 1,1
abbrev pub from : ClauseTree
from = yes (equation a b) ∷ yes (q a) ∷ []

abbrev pub into : ClauseTree
into = yes (p (f a)) ∷ []

abbrev pub WorkedParamodulation : Type 0
WorkedParamodulation =
    ((para_rule 0 1 0 (1 ∷ 1 ∷ [])).fits (from ∷ into ∷ []) ≡ true)
    × ((para_rule 0 1 0 (1 ∷ 1 ∷ [])).pairs (from ∷ into ∷ []) ≡ (a, a) ∷ [])
    × ((para_rule 0 1 0 (1 ∷ 1 ∷ [])).rest (from ∷ into ∷ []) ≡ yes (p (f b)) ∷ yes (q a) ∷ [])
    × ((para_rule 0 2 0 (1 ∷ 1 ∷ [])).rest (from ∷ into ∷ []) ≡ yes (p (f a)) ∷ yes (q a) ∷ [])

-- a path that isn't there, a variable at the path, a third side and an inequation don't fit
abbrev pub WorkedNoParamodulation : Type 0
WorkedNoParamodulation =
    ((para_rule 0 1 0 (1 ∷ 2 ∷ [])).fits (from ∷ into ∷ []) ≡ false)
    × ((para_rule 0 1 0 []).fits (from ∷ into ∷ []) ≡ false)
    × ((para_rule 0 1 0 (1 ∷ [])).fits (from ∷ (yes (p (var 0)) ∷ []) ∷ []) ≡ false)
    × ((para_rule 0 3 0 (1 ∷ 1 ∷ [])).fits (from ∷ into ∷ []) ≡ false)
    × ((para_rule 0 1 0 (1 ∷ 1 ∷ [])).fits ((no (equation a b) ∷ []) ∷ into ∷ []) ≡ false)

-- the later words: a flipped inequation stays one
abbrev pub WorkedLater : Type 0
WorkedLater =
    Leads (flipped 1) (yes (q a) ∷ no (equation a b) ∷ []) [] (yes (q a) ∷ no (equation b a) ∷ [])
    × Leads (merged 2) (yes (p a) ∷ yes (q a) ∷ yes (p a) ∷ []) [] (yes (p a) ∷ yes (q a) ∷ [])
    × Leads (reflexive 0) (no (equation a a) ∷ yes (p a) ∷ []) [] (yes (p a) ∷ [])
    × Leads (unit_deleted 0 7) (yes (p a) ∷ yes (q b) ∷ []) ((no (p (var 0)) ∷ []) ∷ [])
    (yes (q b) ∷ [])
    × Leads (rewritten 7 0 (1 ∷ 1 ∷ [])) (yes (p (f (f a))) ∷ [])
    ((yes (equation (f (var 0)) (var 0)) ∷ []) ∷ []) (yes (p (f a)) ∷ [])

-- literals that aren't there, signs that a word doesn't take, and a rule with a variable on its
-- right alone
abbrev pub WorkedMisfits : Type 0
WorkedMisfits =
    (later_fits (flipped 0) (yes (p a) ∷ []) [] ≡ false)
    × (later_fits (merged 1) (yes (p a) ∷ []) [] ≡ false)
    × (later_fits (reflexive 0) (yes (equation a a) ∷ []) [] ≡ false)
    × (later_fits (unit_deleted 0 7) (yes (p a) ∷ []) ((yes (p (var 0)) ∷ []) ∷ []) ≡ false)
    × (later_fits (unit_deleted 0 7) (yes (p a) ∷ []) ((no (p a) ∷ no (q a) ∷ []) ∷ []) ≡ false)
    × (later_fits (rewritten 7 0 (1 ∷ [])) (yes (p a) ∷ []) ((yes (equation a (var 0)) ∷ []) ∷ [])
    ≡ false)

-- p(a) is assumed and wanted: five lines refute it
abbrev pub stated : List Said
stated = said Assumption (atom 3 (more a none)) ∷ said Goal (atom 3 (more a none)) ∷ []

abbrev pub inputs : List InputRow
inputs = (1, yes (p a) ∷ []) ∷ (2, no (p a) ∷ []) ∷ []

abbrev pub numbered_line : ℕ → ContentTree → FirstWord → LineTree
numbered_line n content first = record { number = n; content = content; first = first; later = [] }

-- a copy with words behind it
abbrev pub copy_then : ℕ → ContentTree → ℕ → List LaterWord → LineTree
copy_then n content m words =
    record { number = n; content = content; first = copied m; later = words }

abbrev pub clash : ℕ → ℕ → FirstWord
clash n m = resolved n (record { place = 0; clause = m; literal = 0 } ∷ [])

abbrev pub given : List LineTree
given =
    numbered_line 1 (formula (atom 3 (more a none))) assumed
    ∷ numbered_line 2 (formula (atom 3 (more a none))) wanted
    ∷ numbered_line 3 (clause (yes (p a) ∷ [])) (clausified 1)
    ∷ numbered_line 4 (clause (no (p a) ∷ [])) (denied 2) ∷ []

abbrev pub WorkedRefutation : Type 0
WorkedRefutation =
    IsRefutation stated inputs
    (numbered_line 1 (formula (atom 3 (more a none))) assumed
    ∷ numbered_line 2 (formula (atom 3 (more a none))) wanted
    ∷ numbered_line 3 (clause (yes (p a) ∷ [])) (clausified 1)
    ∷ numbered_line 4 (clause (no (p a) ∷ [])) (denied 2) ∷ numbered_line 5 (clause []) (clash 3 4)
    ∷ [])

-- a fault of each row, and of row 7 one of a rule, of a literal that stands once, and of a clause
-- that isn't an instance
abbrev pub WorkedFaults : Type 0
WorkedFaults =
    IsFault stated inputs [] 0 NoLines
    × IsRefusedLine stated inputs given (Some 4) (numbered_line 4 (clause []) (clash 3 4)) NotAbove
    × IsRefusedLine stated inputs given (Some 4)
    (numbered_line 5 (clause (yes (p a) ∷ [])) (copied 1)) NoParent
    × IsRefusedLine stated inputs given (Some 4)
    (numbered_line 5 (formula (atom 4 (more a none))) assumed) NoFormula
    × IsRefusedLine stated inputs given (Some 4)
    (numbered_line 5 (clause (yes (p a) ∷ [])) (clausified 2)) NoClause
    × IsRefusedLine stated inputs given (Some 4) (numbered_line 5 (clause []) (clash 3 3)) Misplaced
    × IsRefusedLine stated inputs
    (numbered_line 1 (clause (yes (p a) ∷ [])) (clausified 1)
    ∷ numbered_line 2 (clause (no (p b) ∷ [])) (denied 2) ∷ []) (Some 2)
    (numbered_line 3 (clause []) (clash 1 2)) Differs
    × IsRefusedLine stated inputs given (Some 4) (copy_then 5 (clause []) 3 (merged 0 ∷ [])) Differs
    × IsRefusedLine stated inputs
    (numbered_line 1 (clause (yes (p a) ∷ [])) (clausified 1)
    ∷ numbered_line 2 (clause (no (p b) ∷ [])) (denied 2) ∷ []) (Some 2)
    (copy_then 3 (clause []) 1 (unit_deleted 0 2 ∷ [])) Differs
    × IsRefusedLine stated inputs given (Some 4)
    (numbered_line 5 (clause (no (p a) ∷ [])) (copied 3)) OtherClause
    × IsFault stated inputs (numbered_line 1 (formula (atom 3 (more a none))) assumed ∷ []) 1
    NotEmpty
