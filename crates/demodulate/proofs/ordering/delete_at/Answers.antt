use Rattle.std.proofs.Common.{ap, ◌∙◌, map, arith}
use Rattle.std.specs.Option.{option_map}
use Rattle.std.proofs.lemmas.Grind.{common_steps}
use Rattle.clause_index.specs.Sets.{all_in}
use Rattle.derivation.specs.Later.{unit_deleted}
use Rattle.derivation.specs.View.{later_of}
use Rattle.prover_steps.specs.Shortening.{is_denied}
use Rattle.demodulate.proofs.Passing.{past_literal, out_literal, is_denied_there}
use Rattle.demodulate.proofs.ordering.delete_at.Goals as goal

pub returns-in_ok-push-in-Some-clause-pass : goal.returns-in_ok-push-in-Some-clause-pass
returns-in_ok-push-in-Some-clause-pass c =
    out_literal c.clause.inside.literals.items c.args.clause.now c.clause.view_is c.args.place c.index.result.now c.requires c.index.ensures (is_denied (all_in c.args.held.now)) (map later_of c.args.words.now.items) (unit_deleted c.args.place c.in-Some.number) c.take_out.new.clause (map later_of c.push.new.self.items)
    (is_denied_there c.clause.inside.literals.items c.args.clause.now c.clause.view_is c.args.place c.index.result.now c.requires c.index.ensures (all_in c.args.held.now) c.in_ok-number.field-0 c.in_ok-number.ensures.first ∙ ap (option_map (unit_deleted c.args.place)) c.in-Some.is)
    c.take_out.ensures (grind (arith, common_steps, c.in_ok-push-in-Some.ensures.items))

pub returns-in-None-clause-pass : goal.returns-in-None-clause-pass
returns-in-None-clause-pass c =
    past_literal c.clause.inside.literals.items c.args.clause.now c.clause.view_is c.args.place c.index.result.now c.requires c.index.ensures (is_denied (all_in c.args.held.now)) (map later_of c.args.words.now.items)
    (is_denied_there c.clause.inside.literals.items c.args.clause.now c.clause.view_is c.args.place c.index.result.now c.requires c.index.ensures (all_in c.args.held.now) c.in_ok-number.field-0 c.in_ok-number.ensures.first ∙ ap (option_map (unit_deleted c.args.place)) c.in-None.is)
