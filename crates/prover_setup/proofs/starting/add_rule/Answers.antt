use Rattle.std.proofs.Common.{◌≡◌, List, [], ◌∷◌, ◌++◌, OnOk, subst, sym, ap, ◌∙◌}
use Rattle.fol_core.specs.Literals.{ClauseTree}
use Rattle.fol_problem.specs.declared.problem.Role.{Role}
use Rattle.held_clauses.specs.Holding.{held}
use Rattle.prover_steps.proofs.Rising.{below_none, put_last}
use Rattle.prover_steps.specs.Clashing.{Held}
use Rattle.prover_steps.specs.HeldOrder.{numbers_of, IsNoneOf}
use Rattle.prover_steps.specs.Searching.{put_in}
use Rattle.prover_steps.specs.Starting.{held_rule}
use Rattle.prover_setup.proofs.starting.add_rule.Goals as goal

pub put_in-requires : goal.put_in-requires
put_in-requires c =
    subst (λ (h : Held). IsNoneOf h.number (numbers_of c.args.rules.now)) (sym c.in_ok-new-in-Demodulator.ensures) (below_none c.args.number (numbers_of c.args.rules.now) c.requires)

pub returns-in_ok-new-in-Demodulator : goal.returns-in_ok-new-in-Demodulator
returns-in_ok-new-in-Demodulator c =
    subst (λ (rs : List Held). OnOk c.put_in.result (c.put_in.new.self ≡ rs))
    (ap (λ (h : Held). put_in h c.args.rules.now) c.in_ok-new-in-Demodulator.ensures
    ∙ put_last (held c.args.number c.in_ok-copy-in-Demodulator.field-0) c.args.rules.now c.requires
    ∙ ap (λ (d : ClauseTree). c.args.rules.now ++ held c.args.number d ∷ []) c.in_ok-copy-in-Demodulator.ensures
    ∙ ap (λ (r : Role). c.args.rules.now ++ held_rule r c.args.number (0, c.args.clause.now)) (sym c.in-Demodulator.is))
    c.put_in.ensures.ok
