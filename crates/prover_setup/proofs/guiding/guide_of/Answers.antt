-- The parts of the guide.
use Rattle.std.proofs.Common.{◌∙◌, ap, List, map}
use Rattle.derivation.specs.Lines.{InputRow}
use Rattle.fol_core.specs.Literals.{ClauseTree}
use Rattle.fol_core.specs.SymbolTable.{Symbol}
use Rattle.prover_setup.proofs.Guided.{guided}
use Rattle.prover_setup.proofs.guiding.guide_of.Goals as goal
use Rattle.prover_setup.specs.SearchInputs.{input_in}
use Rattle.prover_steps.specs.Conclusions.{rules_in_force}
use Rattle.term_order.specs.Listed.{symbol_rows}

pub returns : goal.returns
returns c = guided (input_in c.args.problem.now) _ _ _ _ _
    (c.rules_in_force-rules.ensures ∙ ap (λ (cs : List ClauseTree). rules_in_force c.args.problem.now.options cs)
    (c.as_slice.ensures.value ∙ c.in_ok-alone.ensures ∙ ap (λ (rs : List InputRow). map (λ (r : InputRow). r.1) rs) c.requires.clauses))
    c.in_ok-precedence.ensures.order
    (c.in_ok-precedence.ensures.rows ∙ ap (λ (t : List Symbol). symbol_rows c.args.problem.now.function_order c.args.problem.now.kbo_weights t) c.requires.symbols)
    c.in_ok-weights.ensures.patterns c.in_ok-weights.ensures.hints
