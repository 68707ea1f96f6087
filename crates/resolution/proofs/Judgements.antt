-- What is judged of a rule is what it concludes.
use Rattle.std.proofs.Common.{◌≡◌, if◌then◌else◌, List, [], ◌∷◌, ◌++◌, Option, Some, None, sym, ap, ◌∙◌}
use Rattle.std.proofs.lemmas.List.{append-nil, map-append}
use Rattle.std.specs.Option.{option_map, option_map_or}
use Rattle.fol_core.specs.Literals.{ClauseTree}
use Rattle.fol_core.specs.Renumbered.{renumbered}
use Rattle.derivation.specs.Lines.{Inference, inference_of}
use Rattle.derivation.specs.declared.words.First.{First}
use Rattle.inference.specs.Judged.{JudgedAs}
use Rattle.inference.specs.declared.rules.Judged.{Judged}
use Rattle.inference.specs.declared.rules.Judged.TheVariants.{Unfit, Apart, Small, Large}
use Rattle.proof_words.specs.Written.{WrittenFirst, meant, written_first}
use Rattle.prover_steps.specs.Concluded.{Conclusion, concluded, conclusion_by, inferred, left_under, unifying}
use Rattle.resolution.specs.View.{clause_of, judged_clause, conclusion_of, all_conclusions}
use Rattle.resolution.specs.declared.conclusion.Concluded.{Concluded}
use Rattle.resolution.specs.declared.conclusion.Conclusion as declared
use Rattle.resolution.proofs.Failing.{works, none_concluded}

module _ (w : WrittenFirst) (i : Inference) (cs : List ClauseTree) (has : inference_of (meant w) ≡ Some i) where
  judged_is : (j : Judged) → JudgedAs i.rule cs j → judged_clause j ≡ concluded i.rule cs
  judged_is Unfit misfit = sym (ap (λ b. if b then option_map (left_under i.rule cs) (unifying i.rule cs) else None) misfit)
  judged_is Apart apart = sym (none_concluded (meant w) i cs has (λ fits own same. apart.1 own same))
  judged_is (Small c) made = sym ((works (meant w) i cs c has).1 made)
  judged_is (Large c) made = sym ((works (meant w) i cs (renumbered c) has).1 made)

  comes_of_word : (j : Judged) → JudgedAs i.rule cs j → conclusion_by w (judged_clause j) ≡ inferred w cs
  comes_of_word j judged = ap (conclusion_by w) (judged_is j judged) ∙ sym (ap (λ (o : Option Inference). option_map_or (λ (k : Inference). conclusion_by w (concluded k.rule cs)) o []) has)

  -- so nothing comes of its word
  pub inferred_none : (j : Judged) (old : List Conclusion) → JudgedAs i.rule cs j → None ≡ judged_clause j → old ≡ old ++ inferred w cs
  inferred_none j old judged none = sym (append-nil old) ∙ ap (λ ns. old ++ ns) (ap (conclusion_by w) none ∙ comes_of_word j judged)

-- or the clause with it
pub inferred_one : (f : First) (i : Inference) (cs : List ClauseTree) → inference_of (meant (written_first f)) ≡ Some i → (j : Judged) (c : Concluded) (old new : List declared.Conclusion) → JudgedAs i.rule cs j
    → Some (clause_of c) ≡ judged_clause j → new ≡ old ++ record { clause = c; first = f } ∷ [] → all_conclusions new ≡ all_conclusions old ++ inferred (written_first f) cs
inferred_one f i cs has j c old new judged one is =
    ap all_conclusions is ∙ map-append conclusion_of old (record { clause = c; first = f } ∷ [])
    ∙ ap (λ ns. all_conclusions old ++ ns) (ap (conclusion_by (written_first f)) one ∙ comes_of_word (written_first f) i cs has j judged)
