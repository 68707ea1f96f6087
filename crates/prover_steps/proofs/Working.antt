-- What is worked out of clauses is what their rule concludes.
use Rattle.std.proofs.Common.{◌≡◌, Bool, true, false, IsTrue, if◌then◌else◌, List, length, Option, Some, None, unwrap_or, refl, ap, subst, ◌∙◌}
use Rattle.std.specs.Option.{option_map}
use Rattle.fol_core.specs.Literals.{ClauseTree}
use Rattle.substitutions.specs.Apart.{interleaved, InterleavingIsApart}
use Rattle.substitutions.specs.Bindings.{Binding}
use Rattle.unifiers.specs.Laws.{FindsMostGeneral, FindsWhatIsThere}
use Rattle.unifiers.specs.Unifier.{solution}
use Rattle.derivation.specs.Apart.{UnifierConcludes, NoneConcludes}
use Rattle.derivation.specs.Laws.{OneConclusion}
use Rattle.derivation.specs.Lines.{FirstWord, Inference, inference_of}
use Rattle.derivation.specs.Rule.{Concludes}
use Rattle.prover_steps.specs.Concluded.{concluded, unifying, left_under}
use Rattle.prover_steps.specs.StepLaws.{WorksOut}

module _ (made : UnifierConcludes) (none : NoneConcludes) (one : OneConclusion) (apart : InterleavingIsApart) (general : FindsMostGeneral) (there : FindsWhatIsThere) where
  module _ (w : FirstWord) (i : Inference) (cs : List ClauseTree) (is : inference_of w ≡ Some i) where
    found : (bs : List Binding) → IsTrue (i.rule.fits cs) → unifying i.rule cs ≡ Some bs → Concludes i.rule cs (left_under i.rule cs bs)
    found bs fits e = made w i cs (interleaved (length cs)) (solution bs) is (apart cs) fits (general _ _ bs e)

    pub concluded_is : (c : ClauseTree) → concluded i.rule cs ≡ Some c → IsTrue (i.rule.fits cs) × Concludes i.rule cs c
    concluded_is c h = by (i.rule.fits cs) refl (unifying i.rule cs) refl h
      where
        by : (b : Bool) → i.rule.fits cs ≡ b → (o : Option (List Binding)) → unifying i.rule cs ≡ o
            → (if b then option_map (left_under i.rule cs) o else None) ≡ Some c → IsTrue (i.rule.fits cs) × Concludes i.rule cs c
        by true fits (Some bs) e same =
            (fits, subst (λ d. Concludes i.rule cs d) (ap (λ o. unwrap_or o c) same) (found bs fits e))
        by true fits None e same = cc
        by false fits o e same = cc

    pub is_concluded : (c : ClauseTree) → IsTrue (i.rule.fits cs) → Concludes i.rule cs c → concluded i.rule cs ≡ Some c
    is_concluded c fits concludes = by (unifying i.rule cs) refl
      where
        by : (o : Option (List Binding)) → unifying i.rule cs ≡ o → concluded i.rule cs ≡ Some c
        by (Some bs) e =
            ap (λ b. if b then option_map (left_under i.rule cs) (unifying i.rule cs) else None) fits ∙ ap (option_map (left_under i.rule cs)) e
            ∙ ap Some (one w i cs (left_under i.rule cs bs) c is fits (found bs fits e) concludes)
        by None e = absurd (none w i cs (interleaved (length cs)) is (apart cs) fits (λ s. there _ _ s e) concludes.0 concludes.1.unifies)

  pub works_out : WorksOut
  works_out w i cs c is = (λ h. concluded_is w i cs is c h, λ h. is_concluded w i cs is c h.0 h.1)
