use Rattle.proof_text.proofs.Gathered.{all_found}
use Rattle.proof_text.proofs.blocks.find_blocks.Goals as goal

pub returns : goal.returns
returns c = all_found c.args.bytes.now c.args.from c.loop-at.at c.loop-at.found.items c.loop-at.invariant.0 c.loop-at-test.false
