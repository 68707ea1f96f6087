-- What a refutation of what is stated leaves.
use Rattle.std.proofs.Common.{List, length, subst}
use Rattle.clausify.specs.Input.{ClauseRow, skolem_numbers}
use Rattle.derivation.specs.Lines.{LineTree, IsRefutation}
use Rattle.fol_problem.proofs.Soundness.{sound_below}
use Rattle.fol_core.specs.Literals.{equality}
use Rattle.fol_core.specs.Meaning.{Meaning, IsLawful}
use Rattle.fol_problem.specs.Stated.{Stated}
use Rattle.derivation_laws.specs.Countermodels.{RefutationsLeaveNone, LeaveNone}

pub leave_none : ((m : Meaning) → IsLawful m → RefutationsLeaveNone m) → (p : Stated) (rows : List ClauseRow) (ls : List LineTree) → IsRefutation p.formulas rows ls → LeaveNone p rows ls
leave_none law p rows ls is m table lawful well_formed few same names picks =
    law m lawful (skolem_numbers table p) p.formulas ls (sound_below (length p.symbols) equality p.formulas few well_formed) (subst (λ (r : List ClauseRow). IsRefutation p.formulas r ls) same is) names picks
