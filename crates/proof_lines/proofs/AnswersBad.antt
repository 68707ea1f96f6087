-- A bad token among tokens with marks.
use Rattle.std.proofs.Common.{◌≡◌, ℕ, Bool, List, subst}
use Rattle.fol_core.specs.RawTree.{RawTree}
use Rattle.ladr_lex.specs.Lexeme.{Lexeme}
use Rattle.ladr_reader.specs.Faults.{IsFaultWhere}
use Rattle.ladr_reader.specs.Marks.{marked}
use Rattle.ladr_reader.specs.Table.{OperatorTable}
use Rattle.ladr_reader.specs.declared.fault.TermFault.{TermFault}
use Rattle.ladr_reader.specs.declared.fault.TermFault.TheVariants.{Bad}
use Rattle.proof_lines.specs.AnswerMarks.{answer_marks, noted}
use Rattle.proof_lines.specs.Faults.{IsNoItem}

pub noted_bad :
    (g : OperatorTable) (ts : List Lexeme) (ms : List Bool) (IsDeep : RawTree → Type 0) (f : TermFault) (k : ℕ) → ms ≡ answer_marks ts → f ≡ Bad k
    → IsFaultWhere IsDeep g (marked ms ts) f → IsNoItem g (noted ts) k
noted_bad g ts ms IsDeep f k m e h =
    subst (λ (q : TermFault). IsFaultWhere IsDeep g (noted ts) q) e (subst (λ (ns : List Bool). IsFaultWhere IsDeep g (marked ns ts) f) m h)
