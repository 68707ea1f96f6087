-- The level of lines that say the same.
use Rattle.std.proofs.Common.{◌∙◌, ap, List}
use Rattle.derivation.specs.Lines.{LineTree}
use Rattle.derivation.specs.View.{lines_of}
use Rattle.derivation.specs.declared.line.Line.{Line}
use Rattle.prover_proofs.proofs.Taking.{trees_same}
use Rattle.prover_proofs.specs.Levels.{level_in}
use Rattle.prover_proofs.proofs.lines.SearchLines.proof.Goals as goal

pub returns-clause-level : goal.returns-clause-level
returns-clause-level c =
    c.in_ok-level.ensures ∙ ap (λ (ls : List Line). level_in (lines_of ls) c.args.n) c.as_slice.ensures.value
    ∙ ap (λ (ls : List LineTree). level_in ls c.args.n) (trees_same c.lines_say_the_same.ensures.mean c.in_ok-lines.lines.items)
