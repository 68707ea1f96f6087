use Rattle.std.proofs.Common.{Bool, List, sym, subst}
use Rattle.fol_core.specs.RawTree.{RawTree}
use Rattle.proof_lines.specs.Answered.{ReadAnswer}
use Rattle.proof_lines.specs.ContentTokens.{IsContent}
use Rattle.proof_lines.specs.Parsed.{AreTermsRead, IsContentSeen}
use Rattle.proof_lines.specs.declared.content.Terms.TheVariants.{Clause}
use Rattle.proof_lines.proofs.content.ContentRead.into_clause.Goals as goal

pub returns-else-of_formula-clause-clause : goal.returns-else-of_formula-clause-clause
returns-else-of_formula-clause-clause c = λ g ts seen.
    let s = subst (IsContentSeen g ts) c.in-Either.is seen in
    subst (λ (b : Bool). (t : RawTree) × (us : List ReadAnswer) × IsContent g b ts t us × AreTermsRead b t us (Clause c.in-Either.clause)) (sym c.if-of_formula.false) s.1
