-- What holds of lines that are kept, and of their ancestors.
use Rattle.std.specs.Prelude.{ℕ, ◌≡◌, List, [], ◌++◌, Some}
use Rattle.fol_problem.specs.Stated.{Said}
use Rattle.fol_core.specs.Tree.{Tree}
use Rattle.derivation.specs.Lines.{InputRow, LineTree, line_at, clause_at, IsDerivation, IsRefutation}
use Rattle.derivation.specs.View.{line_tree}
use Rattle.derivation.specs.declared.line.Line.{Line}
use Rattle.term_bank.specs.Bank.{Grows}
use Rattle.clause_store.specs.Ancestors.{AreAncestors}
use Rattle.clause_store.specs.Lines.{PlainLine, plain_line, plain_tree, plain_trees, store_lines, AreStoredIn}
use Rattle.clause_store.specs.declared.lines.StoredLine.{StoredLine}

-- the lines that a line of a derivation rests on are a derivation
abbrev pub AncestorsDerive : Type 0
AncestorsDerive =
    (ss : List Said) (rows : List InputRow) (all some : List PlainLine) (n : ℕ) →
    IsDerivation ss rows (plain_trees all) → AreAncestors all n some →
    IsDerivation ss rows (plain_trees some)

-- and those of the empty clause are a refutation
abbrev pub AncestorsRefute : Type 0
AncestorsRefute =
    (ss : List Said) (rows : List InputRow) (all some : List PlainLine) (n : ℕ) →
    IsDerivation ss rows (plain_trees all) → clause_at (plain_trees all) n ≡ Some []
    → AreAncestors all n some → IsRefutation ss rows (plain_trees some)

-- a line rests on the same lines, whatever test tells them
abbrev pub AncestorsAreOne : Type 0
AncestorsAreOne =
    (all some other : List PlainLine) (n : ℕ) → AreAncestors all n some → AreAncestors all n other
    → some ≡ other

-- and where lines come behind, it rests on the same ones
abbrev pub AncestorsStay : Type 0
AncestorsStay =
    (ss : List Said) (rows : List InputRow) (all more some : List PlainLine) (n : ℕ)
    (l : LineTree)
    → IsDerivation ss rows (plain_trees (all ++ more)) → line_at (plain_trees all) n ≡ Some l
    → AreAncestors all n some → AreAncestors (all ++ more) n some

-- a line that is taken out says what it says in a derivation
abbrev pub LinesMean : Type 0
LinesMean = (l : Line) → plain_tree (plain_line l) ≡ line_tree l

-- lines that are kept stay as they are where the bank grows
abbrev pub LinesStay : Type 0
LinesStay =
    (old new : List Tree) (ls : List StoredLine) → Grows old new → AreStoredIn old ls →
    (store_lines new ls ≡ store_lines old ls) × AreStoredIn new ls
