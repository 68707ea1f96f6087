-- The rule that is found fits.
use Rattle.std.proofs.Common.{◌∙◌, ap, sym}
use Rattle.std.specs.Option.{option_map}
use Rattle.fol_core.specs.TermView.{tree_of}
use Rattle.demodulate.proofs.Redexes.{top_fits}
use Rattle.demodulate.proofs.rewriting.step_at_top.Goals as goal

pub returns-clause-fits : goal.returns-clause-fits
returns-clause-fits c = top_fits c.args.rules.now c.in-Some.rule.now (tree_of c.args.term.now) (sym c.in_ok-rule.ensures.first ∙ ap (option_map (λ r. r.now)) c.in-Some.is)
