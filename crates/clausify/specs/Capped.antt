-- Counts of clauses that are kept up to one more than a formula may have.
use Rattle.std.specs.Prelude.{ℕ, ◌≡◌, ◌≤◌, ◌+◌, min}
use Rattle.fol_core.specs.Fol.{Fol, conjunction, disjunction}
use Rattle.clausify.specs.Forms.{clause_count}
use Rattle.clausify.specs.declared.counts.Counts.{Counts}
use Rattle.clausify.specs.declared.limit.TheConstants.{MOST_CLAUSES}

-- a count, or one more than the most where it is greater
abbrev pub count_capped : ℕ → ℕ
count_capped n = min n (MOST_CLAUSES + 1)

-- the count of a negation normal form
abbrev pub IsCountOf : ℕ → Fol → Type 0
IsCountOf a f = a ≡ count_capped (clause_count f)

-- two pairs of counts kept so are at most this each
abbrev pub AreCapped : Counts → Counts → Type 0
AreCapped f g =
    (f.plain ≤ MOST_CLAUSES + 1) × (f.denied ≤ MOST_CLAUSES + 1)
    × (g.plain ≤ MOST_CLAUSES + 1) × (g.denied ≤ MOST_CLAUSES + 1)

-- whatever forms a and b are the counts of, c is that of "and"
abbrev pub IsSum : ℕ → ℕ → ℕ → Type 0
IsSum a b c = (x y : Fol) → IsCountOf a x → IsCountOf b y → IsCountOf c (conjunction x y)

-- and of "or"
abbrev pub IsProduct : ℕ → ℕ → ℕ → Type 0
IsProduct a b c = (x y : Fol) → IsCountOf a x → IsCountOf b y → IsCountOf c (disjunction x y)

-- and of "or", "and", "or"
abbrev pub IsSumOfProducts : ℕ → ℕ → ℕ → ℕ → ℕ → Type 0
IsSumOfProducts a b c d e =
    (w x y z : Fol) → IsCountOf a w → IsCountOf b x → IsCountOf c y → IsCountOf d z →
    IsCountOf e (conjunction (disjunction w x) (disjunction y z))
