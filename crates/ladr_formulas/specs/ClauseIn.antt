-- The clause that a formula is.
use Rattle.std.specs.Prelude.{Bool, true, false, [], ◌∷◌, Option, Some, None}
use Rattle.std.specs.Option.{option_map}
use Rattle.fol_core.specs.Fol.{Fol, falsum, equal, atom, negation, disjunction}
use Rattle.fol_core.specs.Literals.{Lit, ClauseTree, literal, equality}
use Rattle.fol_core.specs.Tree.{app, none, more}

-- the literal that a relation, an equation or the denial of one is
abbrev pub atom_in : Bool → Fol → Option Lit
atom_in positive (atom r ts) = Some (literal positive (app r ts))
atom_in positive (equal s t) = Some (literal positive (app equality (more s (more t none))))
atom_in positive f = None

abbrev pub literal_in : Fol → Option Lit
literal_in (negation f) = atom_in false f
literal_in f = atom_in true f

abbrev pub prepended : Option Lit → Option ClauseTree → Option ClauseTree
prepended (Some l) (Some ls) = Some (l ∷ ls)
prepended l ls = None

-- a formula cut into literals at each `|` of its right spine
abbrev pub literals_in : Fol → Option ClauseTree
literals_in (disjunction f g) = prepended (literal_in f) (literals_in g)
literals_in f = option_map (λ l. l ∷ []) (literal_in f)

-- `$F` is the empty clause
abbrev pub clause_in : Fol → Option ClauseTree
clause_in falsum = Some []
clause_in f = literals_in f
