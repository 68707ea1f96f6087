use Rattle.std.proofs.Common.{◌-◌, ◌^◌, ℕ, min, ap, ◌∙◌}
use Rattle.fol_problem.specs.Stated.{stated_of}
use Rattle.ladr_cells.specs.Worlds.{ground_size}
use Rattle.ladr_mace4.proofs.AskedWorld.{ground_is}
use Rattle.ladr_mace4.proofs.asked.Asked.ground_count.Goals as goal

pub returns : goal.returns
returns c =
    let a = c.self.inside in
    let h = c.self.invariant in
    let n = c.args.size in
    c.count.ensures ∙ ap (λ (k : ℕ). min k (2 ^ 128 - 1)) (ground_is (stated_of a.problem.now) a.symbols a.clauses n h.symbols h.clauses h.witnesses h.used ∙ ap (ground_size n) c.self.view_is)
