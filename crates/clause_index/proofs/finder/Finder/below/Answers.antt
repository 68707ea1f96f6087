use Rattle.std.proofs.Common.{List, ℕ, subst}
use Rattle.std.specs.List.{Contains}
use Rattle.std.specs.List.Sorted.{IsStrictlyIncreasing}
use Rattle.clause_index.specs.Filing.{LeavesOutNoSubsumed}
use Rattle.clause_index.proofs.Subsumers.{below_found, some_so}
use Rattle.discrim_tree.specs.Marks.{AreAmong, IsMarked}
use Rattle.clause_index.proofs.finder.Finder.below.Goals as goal

pub returns-clause-found : goal.returns-clause-found
returns-clause-found c =
    some_so c.in_ok-numbers.numbers _ (λ ns. LeavesOutNoSubsumed c.args.self.now c.args.clause.now ns.items)
    (λ ns found. below_found c.args.self.now c.args.clause.now c.in_ok-marks.marks.items ns.items
    (record { rise = c.in_ok-marks.ensures.rise; all = c.in_ok-marks.ensures.all; only = c.in_ok-marks.ensures.only })
    (subst (λ (marks : List ℕ). IsStrictlyIncreasing marks → (ms : List ℕ) (n : ℕ) → IsMarked c.args.self.now.long ms n → IsStrictlyIncreasing ms → AreAmong marks ms → Contains ns.items n) c.deref.ensures.value found))
    c.in_ok-numbers.ensures.found
