use Rattle.std.proofs.Common.{List, ℕ, subst}
use Rattle.std.specs.List.{Contains}
use Rattle.clause_index.proofs.Subsumers.{above_found, some_is}
use Rattle.discrim_tree.specs.Marks.{AreAmong, IsMarked}
use Rattle.clause_index.proofs.finder.Finder.above.Goals as goal

pub returns-in-Some-clause-found : goal.returns-in-Some-clause-found
returns-in-Some-clause-found c =
    let found = c.in-Some.numbers.items in
    above_found c.args.self.now c.args.clause.now c.in_ok-marks.marks.items found
    (record { rise = c.in_ok-marks.ensures.rise; all = c.in_ok-marks.ensures.all; only = c.in_ok-marks.ensures.only })
    (subst (λ (marks : List ℕ). (ms : List ℕ) (n : ℕ) → IsMarked c.args.self.now.long ms n → AreAmong ms marks → Contains found n) c.deref.ensures.value
    (some_is c.in_ok-numbers.field-0 c.in-Some.numbers _ c.in-Some.is c.in_ok-numbers.ensures.found))
