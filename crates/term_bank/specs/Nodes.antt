-- A term by its head and the numbers of its arguments.
use Rattle.std.specs.Prelude.{ℕ, List, map}
use Rattle.fol_core.specs.Tree.{Tree, var, elem, app, trees_of}
use Rattle.term_bank.specs.Bank.{tree_at}
use Rattle.term_bank.specs.Cells.{AreNumbersBelow, numbers}
use Rattle.term_bank.specs.declared.id.Node.{Node}
use Rattle.term_bank.specs.declared.id.Node.TheVariants.{Var, Elem, App}

-- the term
abbrev pub node_tree : List Tree → Node → Tree
node_tree bank (Var x) = var x
node_tree bank (Elem k) = elem k
node_tree bank (App f ks) = app f.0 (trees_of (map (λ k. tree_at bank k.0) ks.now))

-- the arguments have numbers below this one
abbrev pub NodeIsBelow : ℕ → Node → Type 0
NodeIsBelow n (Var x) = Unit {0}
NodeIsBelow n (Elem k) = Unit {0}
NodeIsBelow n (App f ks) = AreNumbersBelow n (numbers ks.now)
