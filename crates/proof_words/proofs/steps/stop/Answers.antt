use Rattle.std.proofs.Common.{◌∙◌}
use Rattle.proof_words.proofs.Spellings.{as_complete}
use Rattle.proof_words.specs.Spelling.{complete}
use Rattle.proof_words.proofs.steps.stop.Goals as goal

pub returns-clause-ok : goal.returns-clause-ok
returns-clause-ok c = λ w. c.in_ok-pass.ensures.ok (complete w) ∙ as_complete w c.pass.new.walk
