-- From a most general unifier of renamed parents to the conclusion.
use Rattle.std.proofs.Common.{◌≡◌, ℕ, suc, IsTrue, List, [], ◌∷◌, map, refl, sym, ap, ap₂, ◌∙◌, subst}
use Rattle.fol_core.specs.Literals.{ClauseTree}
use Rattle.fol_core.specs.Renumbered.{renumbered}
use Rattle.fol_core.specs.Substitutions.{Substitution, substitute, substitute_all}
use Rattle.fol_core.specs.Tree.{Tree, more}
use Rattle.substitutions.specs.Instances.{substitute_clause, followed}
use Rattle.substitutions.proofs.Composing.{substitute_twice_clause, substitute_alike_clause, first_same, others_same}
use Rattle.unifiers.specs.Unifier.{Unifies, IsMostGeneral}
use Rattle.substitutions.specs.Apart.{Own, instances, AreRenamedApart}
use Rattle.derivation.specs.Apart.{lefts, rights}
use Rattle.derivation.specs.Rule.{InferenceRule, AreSame, Concludes}
use Rattle.derivation.proofs.Conclusions.{pair_put, IsNatural}
use Rattle.derivation.proofs.Lawful.{IsLawfulRule}

-- what unifies the sides of pairs makes each pair the same
pub same_pairs : (s : Substitution) (ps : List (Tree × Tree)) → Unifies s (lefts ps) (rights ps) → AreSame (map (pair_put s) ps)
same_pairs s [] h = tt
same_pairs s (p ∷ ps) h = (
  first_same (substitute s p.0) (substitute s p.1) (substitute_all s (lefts ps)) (substitute_all s (rights ps)) h,
  same_pairs s ps (others_same (substitute s p.0) (substitute s p.1) (substitute_all s (lefts ps)) (substitute_all s (rights ps)) h),
)

pub pairs_same : (s : Substitution) (ps : List (Tree × Tree)) → AreSame (map (pair_put s) ps) → Unifies s (lefts ps) (rights ps)
pairs_same s [] h = refl
pairs_same s (p ∷ ps) h = ap₂ more h.0 (pairs_same s ps h.1)

-- one substitution behind renamed parents
pub behind_apart : (s : Substitution) (apart : Own) (cs : List ClauseTree) → instances (λ k. followed (apart k) s) cs ≡ map (substitute_clause s) (instances apart cs)
behind_apart s apart [] = refl
behind_apart s apart (c ∷ cs) = ap₂ (λ d ds. d ∷ ds) (sym (substitute_twice_clause (apart 0) s c)) (behind_apart s (λ k. apart (suc k)) cs)

pub all_twice : (s u : Substitution) (cs : List ClauseTree) → map (substitute_clause u) (map (substitute_clause s) cs) ≡ map (substitute_clause (followed s u)) cs
all_twice s u [] = refl
all_twice s u (c ∷ cs) = ap₂ (λ d ds. d ∷ ds) (substitute_twice_clause s u c) (all_twice s u cs)

pub all_same : (s u : Substitution) (cs : List ClauseTree) → ((x : ℕ) → s x ≡ u x) → map (substitute_clause s) cs ≡ map (substitute_clause u) cs
all_same s u [] h = refl
all_same s u (c ∷ cs) h = ap₂ (λ d ds. d ∷ ds) (substitute_alike_clause s u c (λ x i. h x)) (all_same s u cs h)

module _ (r : InferenceRule) (law : IsLawfulRule r) (natural : IsNatural r) (cs : List ClauseTree) (apart : Own) (renamed : AreRenamedApart cs apart) (fits : IsTrue (r.fits cs)) where
  unifies_apart : (other : Own) → AreSame (r.pairs (instances other cs)) → Unifies (renamed other).0 (lefts (r.pairs (instances apart cs))) (rights (r.pairs (instances apart cs)))
  unifies_apart other h =
      let back = renamed other in
      pairs_same back.0 (r.pairs (instances apart cs)) (subst AreSame (ap r.pairs back.1 ∙ natural.pairs back.0 (instances apart cs) (law.kept apart cs fits)) h)

  -- where nothing unifies the renamed parents, nothing unifies the parents
  pub none_apart : ((s : Substitution) → ¬ Unifies s (lefts (r.pairs (instances apart cs))) (rights (r.pairs (instances apart cs)))) → (own : Own) → ¬ AreSame (r.pairs (instances own cs))
  none_apart never own h = never (renamed own).0 (unifies_apart own h)

  -- what a most general unifier makes of them, numbered, is the conclusion
  pub concludes_apart : (s : Substitution) → IsMostGeneral s (lefts (r.pairs (instances apart cs))) (rights (r.pairs (instances apart cs)))
      → Concludes r cs (renumbered (substitute_clause s (r.rest (instances apart cs))))
  concludes_apart s general =
      let own : Own = λ k. followed (apart k) s in
      let is = behind_apart s apart cs in
      let kept = law.kept apart cs fits in (
        own,
        record {
          unifies = subst AreSame (sym (ap r.pairs is ∙ natural.pairs s (instances apart cs) kept)) (same_pairs s (r.pairs (instances apart cs)) general.unifies);
          general = λ other h.
              let covered = general.covers (renamed other).0 (unifies_apart other h) in (
                covered.0,
                (renamed other).1 ∙ all_same (renamed other).0 (followed s covered.0) (instances apart cs) covered.1 ∙ sym (all_twice s covered.0 (instances apart cs))
                    ∙ ap (map (substitute_clause covered.0)) (sym is),
              );
        },
        sym (ap renumbered (ap r.rest is ∙ natural.rest s (instances apart cs) kept)),
      )
