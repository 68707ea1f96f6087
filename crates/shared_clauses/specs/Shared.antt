-- Clauses whose atoms have numbers in a bank.
use Rattle.std.specs.Prelude.{◌≡◌, ◌<◌, List, [], ◌∷◌, length, map}
use Rattle.fol_core.specs.Literals.{ClauseTree, Lit, literal}
use Rattle.fol_core.specs.Tree.{Tree}
use Rattle.shared_clauses.specs.declared.shared.SharedLiteral.{SharedLiteral}
use Rattle.term_bank.specs.Bank.{tree_at}

-- the literal, and the clause
abbrev pub literal_in : List Tree → SharedLiteral → Lit
literal_in bank l = literal l.positive (tree_at bank l.atom.0)

abbrev pub clause_in : List Tree → List SharedLiteral → ClauseTree
clause_in bank ls = map (literal_in bank) ls

-- the atoms' numbers are the bank's
abbrev pub AreLiteralsIn : List Tree → List SharedLiteral → Type 0
AreLiteralsIn bank [] = Unit {0}
AreLiteralsIn bank (l ∷ ls) = (l.atom.0 < length bank) × AreLiteralsIn bank ls

-- they are, and the literals are a clause's
pub record AreMade (bank : List Tree) (c : ClauseTree) (ls : List SharedLiteral) : Type 0 where
  pub within : AreLiteralsIn bank ls
  pub clause : clause_in bank ls ≡ c
