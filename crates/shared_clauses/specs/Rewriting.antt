-- What comes of putting a rule in at a path of an atom.
use Rattle.std.specs.Prelude.{ℕ, ◌≡◌, false, List, Option, Some, None}
use Rattle.derivation.specs.Equations.{below, is_there}
use Rattle.fol_core.specs.Tree.{Tree}
use Rattle.inference.specs.Followed.{exchanged}
use Rattle.shared_clauses.specs.declared.following.Rewritten.{Rewritten}
use Rattle.shared_clauses.specs.declared.following.Rewritten.TheVariants.{Missing, Differs, Atom}
use Rattle.substitutions.specs.Paths.{replaced}
use Rattle.term_bank.specs.Bank.{IsAt}

-- what is put in for a term is there
pub record IsExchangedTo (bank : List Tree) (o : Option Tree) (k : ℕ) : Type 0 where
  pub made : Tree
  pub is : o ≡ Some made
  pub held : IsAt bank k made

abbrev pub IsRewritten : List Tree → Tree → List ℕ → Tree → Tree → Rewritten → Type 0
IsRewritten bank t path left right Missing = is_there (below t path) ≡ false
IsRewritten bank t path left right Differs =
    (s : Tree) × (below t path ≡ Some s) × (exchanged left right s ≡ None)
IsRewritten bank t path left right (Atom k) =
    (s : Tree) × (u : Tree) × (below t path ≡ Some s) × (exchanged left right s ≡ Some u)
    × IsAt bank k.0 (replaced t path u)
