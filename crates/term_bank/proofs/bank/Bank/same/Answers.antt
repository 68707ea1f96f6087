-- No term has two numbers.
use Rattle.std.proofs.Common.{ap, sym, subst, eq-eqb, eqb-true, ◌∙◌}
use Rattle.term_bank.specs.Bank.{tree_at, AreOnce}
use Rattle.term_bank.proofs.Building.{once_built}
use Rattle.term_bank.proofs.bank.Bank.same.Goals as goal

pub returns : goal.returns
returns c =
    let once : AreOnce c.args.self.now = subst AreOnce c.self.view_is (once_built c.self.inside.cells.entries c.self.invariant) in
    (λ h. ap (tree_at c.args.self.now) (eqb-true c.args.s.0 c.args.t.0 (sym c.eq.ensures ∙ h)), λ e. c.eq.ensures ∙ eq-eqb c.args.s.0 c.args.t.0 (once c.args.s.0 c.args.t.0 c.requires.s c.requires.t e))
