-- Clauses as signs and atoms of a bank.
use Rattle.std.specs.Prelude.{◌≡◌, Bool, List, length, map}
use Rattle.fol_core.specs.Literals.{ClauseTree, literal}
use Rattle.fol_core.specs.Tree.{Tree}
use Rattle.term_bank.specs.Bank.{tree_at}
use Rattle.term_bank.specs.Cells.{AreNumbersBelow}
use Rattle.term_bank.specs.declared.id.TermId.{TermId}

-- the clause of signs and atoms
abbrev pub stored_clause : List Tree → List (Bool × TermId) → ClauseTree
stored_clause bank ls = map (λ l. literal l.0 (tree_at bank l.1.0)) ls

-- the atoms are the bank's
abbrev pub AreLiteralsIn : List Tree → List (Bool × TermId) → Type 0
AreLiteralsIn bank ls = AreNumbersBelow (length bank) (map (λ l. l.1.0) ls)

-- the atoms are the bank's, and with the signs they are the clause
pub record IsStoredAs (bank : List Tree) (ls : List (Bool × TermId)) (c : ClauseTree) : Type 0 where
  pub within : AreLiteralsIn bank ls
  pub clause : stored_clause bank ls ≡ c
