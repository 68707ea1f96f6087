-- Clauses of several literals that subsume others.
use Rattle.std.specs.Prelude.{ℕ, ◌≡◌, Bool, IsTrue, not, ◌&&◌, List, Some, slice_get}
use Rattle.std.specs.List.{AllByRecursion, Contains}
use Rattle.clause_index.specs.Entries.{is_short}
use Rattle.fol_core.specs.Literals.{Lit, ClauseTree}
use Rattle.prover_steps.specs.Clashing.{Held}
use Rattle.prover_steps.specs.Subsuming.{subsumes}

-- whether a clause of two literals or more subsumes another
abbrev pub is_long_above : ClauseTree → Held → Bool
is_long_above d h = not (is_short h.clause) && subsumes h.clause d

-- whether a clause is subsumed by another
abbrev pub is_below : ClauseTree → Held → Bool
is_below c h = subsumes c h.clause

-- a clause begins with a literal
abbrev pub BeginsWith : ClauseTree → Lit → Type 0
BeginsWith c l = slice_get c 0 ≡ Some l

-- the numbers of all clauses of a list that a clause subsumes are there
abbrev pub HasAllBelow : ClauseTree → List Held → List ℕ → Type 0
HasAllBelow c hs ns = AllByRecursion (λ h. IsTrue (is_below c h) → Contains ns h.number) hs
