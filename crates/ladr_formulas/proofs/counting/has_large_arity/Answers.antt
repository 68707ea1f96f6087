use Rattle.std.proofs.Common.{◌∙◌, sym}
use Rattle.fol_core.specs.RawView.{raw_of}
use Rattle.ladr_formulas.proofs.WideLemmas.{large_is_wide}
use Rattle.ladr_formulas.proofs.counting.has_large_arity.Goals as goal

pub returns : goal.returns
returns c = λ st table. c.is_wide.ensures ∙ sym (large_is_wide st table (raw_of c.args.raw.now))
