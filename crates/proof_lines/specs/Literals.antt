-- Which terms as they are read are the literals of a clause, and how deep they are.
use Rattle.std.specs.Prelude.{ℕ, Bool, false, not, ◌&&◌, ◌||◌, ◌==◌, nat_le, List, [], ◌∷◌, if◌then◌else◌, codes}
use Rattle.std.specs.List.{list_all}
use Rattle.std.specs.Str.{bytes_eq}
use Rattle.fol_core.specs.RawTree.{RawTree, named, quantified, no_raws, more_raws, depth}
use Rattle.ladr_formulas.specs.Formulas.{is_denial, arity_of}
use Rattle.ladr_reader.specs.Capped.{disjuncts, all_within}
use Rattle.proof_lines.specs.declared.literals.TheConstants.{MOST_ATOM_LEVELS, MOST_LITERAL_LEVELS}

-- whether a name with two arguments joins formulas, or a formula and its attributes, or denies an
-- equation
abbrev pub joins_formulas : List ℕ → Bool
joins_formulas s =
    bytes_eq s (codes "&") || bytes_eq s (codes "|") || bytes_eq s (codes "->")
    || bytes_eq s (codes "<-") || bytes_eq s (codes "<->") || bytes_eq s (codes "!=")
    || bytes_eq s (codes "#")

-- whether a name with so many arguments is that of a relation, or of an equation; one without may
-- be a variable's, which is misused
abbrev pub names_atom : List ℕ → ℕ → Bool
names_atom s arity =
    if arity == 0 then not (bytes_eq s (codes "$T") || bytes_eq s (codes "$F"))
    else (if arity == 1 then not (is_denial s) else not (arity == 2 && joins_formulas s))

abbrev pub reads_as_atom : RawTree → Bool
reads_as_atom (quantified q x t) = false
reads_as_atom (named s ts) = names_atom s (arity_of ts)

-- a term without the `-` in front of it
abbrev pub undenied : RawTree → RawTree
undenied (named s (more_raws t no_raws)) = if is_denial s then t else named s (more_raws t no_raws)
undenied t = t

-- `s != t`
abbrev pub is_inequation : RawTree → Bool
is_inequation (quantified q x t) = false
is_inequation (named s ts) = arity_of ts == 2 && bytes_eq s (codes "!=")

-- an atom, or one denial of it
abbrev pub reads_as_literal : RawTree → Bool
reads_as_literal t = is_inequation t || reads_as_atom (undenied t)

-- `$F`
abbrev pub is_false : RawTree → Bool
is_false (quantified q x t) = false
is_false (named s ts) = arity_of ts == 0 && bytes_eq s (codes "$F")

-- the disjuncts of a clause: literals, or `$F` alone, which is the empty clause
abbrev pub read_as_clause : List RawTree → Bool
read_as_clause (t ∷ []) = is_false t || reads_as_literal t
read_as_clause ts = list_all reads_as_literal ts

-- whether no atom of these literals has more than 1,000 levels
abbrev pub are_shallow : List RawTree → Bool
are_shallow ts = list_all (λ t. nat_le (depth (undenied t)) MOST_ATOM_LEVELS) ts

-- Whether a term may stand as a clause: its disjuncts are one, or are too deep to be looked at.
abbrev pub may_be_clause : RawTree → Bool
may_be_clause t = not (all_within MOST_LITERAL_LEVELS (disjuncts t)) || read_as_clause (disjuncts t)
