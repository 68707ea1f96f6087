use Rattle.proof_lines.proofs.Noting.{noted_content, noted_front}
use Rattle.proof_lines.specs.declared.marks.Spot.TheVariants.{Elsewhere}
use Rattle.proof_lines.proofs.laws.marks_look_back.Goals as goal

pub returns-clause-fronts : goal.returns-clause-fronts
returns-clause-fronts _ = λ k ts. noted_front k Elsewhere ts

pub returns-clause-content : goal.returns-clause-content
returns-clause-content _ = λ ts. noted_content Elsewhere ts
