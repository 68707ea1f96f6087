-- Words behind clauses that are the same but for the numbers of their variables.
use Rattle.std.proofs.Common.{inl, inr, List, Option, Some, None, sym, ◌∙◌}
use Rattle.fol_core.specs.Literals.{ClauseTree}
use Rattle.fol_core.specs.Renumbered.{renumbered}
use Rattle.substitutions.specs.Instances.{AreVariants}
use Rattle.substitutions.proofs.Variants.{numbers_stay, variants_instances}
use Rattle.derivation.specs.Later.{LaterWord}
use Rattle.derivation.specs.Lines.{ContentTree, LineTree}
use Rattle.derivation.specs.declared.row.Row.{Row}
use Rattle.proof_check.specs.Found.{AfterAs}
use Rattle.shared_clauses.proofs.Alike.{after_alike, fails_alike}

-- words behind a clause come to what they do behind its variant
pub after_variant : (ls : List LineTree) (ws : List LaterWord) (c d : ClauseTree) (content : ContentTree) (o : Option Row) → AreVariants c d → AfterAs ls ws c content o → AfterAs ls ws d content o
after_variant ls ws c d content None same after =
    after_alike _ _ ls content ws c d (variants_instances c d same) (variants_instances d c (sym same)) after
after_variant ls ws c d content (Some row) same (inl fails) =
    inl (fails_alike _ _ ls content row ws c d (variants_instances c d same) (variants_instances d c (sym same)) fails)
after_variant ls ws c d content (Some row) same (inr missing) = inr missing

pub after_numbered : (ls : List LineTree) (ws : List LaterWord) (c : ClauseTree) (content : ContentTree) (o : Option Row) → AfterAs ls ws c content o → AfterAs ls ws (renumbered c) content o
after_numbered ls ws c content o after = after_variant ls ws c (renumbered c) content o (sym (numbers_stay c)) after

pub after_conclusion : (ls : List LineTree) (ws : List LaterWord) (c d : ClauseTree) (content : ContentTree) (o : Option Row) → AreVariants c d → AfterAs ls ws c content o → AfterAs ls ws (renumbered d) content o
after_conclusion ls ws c d content o same after = after_variant ls ws c (renumbered d) content o (same ∙ sym (numbers_stay d)) after
