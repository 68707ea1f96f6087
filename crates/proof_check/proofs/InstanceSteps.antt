-- Words behind an instance.
use Rattle.std.proofs.Common.{◌≡◌, inl, inr, ℕ, true, false, List, Option, Some, None, is_some, refl, sym, ap}
use Rattle.std.specs.List.{flat_map}
use Rattle.std.proofs.lemmas.Bool.{and_left, and_right, and_from}
use Rattle.fol_core.specs.Literals.{ClauseTree}
use Rattle.derivation.specs.Later.{LaterWord, later_parents}
use Rattle.derivation.specs.Lines.{ContentTree, LineTree, clause_at, instance_of}
use Rattle.derivation.specs.Refused.{are_there}
use Rattle.derivation.specs.declared.row.Row.{Row}
use Rattle.derivation.specs.declared.row.Row.TheVariants as causes
use Rattle.proof_check.specs.Found.{AfterAs, InstanceAs}
use Rattle.substitutions.specs.Bindings.{Binding}

module _ (ls : List LineTree) (n : ℕ) (es : List Binding) (ws : List LaterWord) (content : ContentTree) where
  -- a parent that isn't there
  pub parent_missing : None ≡ clause_at ls n → InstanceAs ls n es ws content (Some causes.NoParent)
  parent_missing e = inl (refl, and_left (is_some (clause_at ls n)) (are_there ls (flat_map later_parents ws)) (ap is_some (sym e)))

  pub words_missing : are_there ls (flat_map later_parents ws) ≡ false → InstanceAs ls n es ws content (Some causes.NoParent)
  words_missing e = inl (refl, and_right (is_some (clause_at ls n)) (are_there ls (flat_map later_parents ws)) e)

  -- what the instance and the words come to
  pub instance_after : (c : ClauseTree) (o : Option Row) → Some c ≡ clause_at ls n → are_there ls (flat_map later_parents ws) ≡ true → AfterAs ls ws (instance_of es c) content o → InstanceAs ls n es ws content o
  instance_after c None is there after = (c, sym is, after)
  instance_after c (Some row) is there (inl fails) =
      inr (and_from (is_some (clause_at ls n)) (are_there ls (flat_map later_parents ws)) (ap is_some (sym is)) there, (c, sym is, fails))
  instance_after c (Some row) is there (inr missing) = inl (missing.0, and_right (is_some (clause_at ls n)) (are_there ls (flat_map later_parents ws)) missing.1)
