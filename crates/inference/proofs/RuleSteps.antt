-- From what unifies, and what a rule leaves, to what it comes to.
use Rattle.std.proofs.Common.{◌≡◌, ℕ, suc, IsTrue, List, [], ◌∷◌, ◌++◌, map, length, refl, sym, ap, ap₂, ◌∙◌, subst}
use Rattle.fol_core.specs.Literals.{ClauseTree}
use Rattle.fol_core.specs.Renumbered.{renumbered}
use Rattle.fol_core.specs.Substitutions.{Substitution, substitute, substitute_all}
use Rattle.fol_core.specs.Tree.{Tree}
use Rattle.substitutions.specs.Apart.{Own, interleaved, instances, apart_of}
use Rattle.substitutions.specs.Bindings.{Binding, by_bindings}
use Rattle.substitutions.specs.Instances.{substitute_clause, substitute_literal, followed}
use Rattle.substitutions.proofs.Composing.{substitute_twice_clause, first_same, others_same}
use Rattle.substitutions.proofs.Interleaving.{interleaving_is_apart}
use Rattle.unifiers.specs.Unifier.{IsMostGeneral, Unifies}
use Rattle.derivation.specs.Rule.{AreSame, InferenceRule, Concludes}
use Rattle.derivation.proofs.Conclusions.{IsNatural, pair_put}
use Rattle.derivation.proofs.Lawful.{IsLawfulRule}
use Rattle.derivation.proofs.Spread.{concludes_apart, none_apart}
use Rattle.inference.specs.Applied.{ArePremises, AppliedAs, AreWith, IsMeasuredAs}
use Rattle.inference.specs.declared.applied.Applied.{Applied}
use Rattle.inference.specs.declared.applied.Applied.TheVariants as applied
use Rattle.inference.specs.declared.applied.Premises.{Premises}
use Rattle.inference.specs.Judged.{CanUnify, Equates, IsConclusion, JudgedAs}
use Rattle.inference.specs.Left.{LeftTree, Leaves, all_left, left_clause, left_literal, all_whole}
use Rattle.inference.specs.declared.rules.Judged.{Judged}
use Rattle.inference.specs.declared.rules.Judged.TheVariants.{Unfit, Apart, Small, Large}
use Rattle.term_unifiers.specs.Renamed.{Equated, own_among, left_sides, right_sides}
use Rattle.term_unifiers.specs.Solved.{HasNoUnifier}

under_apart : (s : Substitution) (apart : Own) (cs : List ClauseTree) → instances (λ k. followed (apart k) s) cs ≡ map (substitute_clause s) (instances apart cs)
under_apart s apart [] = refl
under_apart s apart (c ∷ cs) = ap₂ (λ d (ds : List ClauseTree). d ∷ ds) (sym (substitute_twice_clause (apart 0) s c)) (under_apart s (λ k. apart (suc k)) cs)

-- nothing unifies
pub judged_apart : (r : InferenceRule) → IsLawfulRule r → IsNatural r → (cs : List ClauseTree) (e : Equated) → IsTrue (r.fits cs) → Equates r cs e → HasNoUnifier (left_sides e.pairs) (right_sides e.pairs) → AppliedAs r cs applied.Apart
judged_apart r law natural cs e fits is never = (
  fits,
  none_apart r law natural cs (interleaved (length cs)) (interleaving_is_apart cs) fits
      (λ s unifies. never s (ap (λ ps. substitute_all s (left_sides ps)) is ∙ unifies ∙ ap (λ ps. substitute_all s (right_sides ps)) (sym is))),
)

-- or a conclusion is made, of what is left
pub judged : (r : InferenceRule) → IsLawfulRule r → IsNatural r → (cs : List ClauseTree) (e : Equated) (n : ℕ) (s : Substitution) (ls : List LeftTree) → n ≡ length cs → IsTrue (r.fits cs) → Equates r cs e
    → IsMostGeneral s (left_sides e.pairs) (right_sides e.pairs) → Leaves r cs ls → (j : Judged) → IsConclusion (left_clause (own_among n s) ls) j → JudgedAs r cs j
judged r law natural cs e n s ls count fits is most leaves = by
  where
    rest : left_clause (own_among n s) ls ≡ substitute_clause s (r.rest (apart_of cs))
    rest =
        ap (λ m. left_clause (own_among m s) ls) count ∙ leaves (own_among (length cs) s) ∙ ap r.rest (under_apart s (interleaved (length cs)) cs)
        ∙ natural.rest s (apart_of cs) (law.kept (interleaved (length cs)) cs fits)

    concludes : Concludes r cs (renumbered (substitute_clause s (r.rest (apart_of cs))))
    concludes = concludes_apart r law natural cs (interleaved (length cs)) (interleaving_is_apart cs) fits s (subst (λ ps. IsMostGeneral s (left_sides ps) (right_sides ps)) is most)

    by : (j : Judged) → IsConclusion (left_clause (own_among n s) ls) j → JudgedAs r cs j
    by Unfit h = absurd h
    by Apart h = absurd h
    by (Small d) h = (fits, subst (Concludes r cs) (sym (h ∙ ap renumbered rest)) concludes)
    by (Large d) h = (fits, subst (Concludes r cs) (sym (ap renumbered (h ∙ rest))) concludes)

-- what a rule takes, by what unifies and what is left
pub are_premises : (r : InferenceRule) (cs : List ClauseTree) (e : Equated) (n : ℕ) (bs : List Binding) (ls : List LeftTree) (p : Premises) → n ≡ length cs → IsTrue (r.fits cs) → Equates r cs e
    → IsMostGeneral (by_bindings bs) (left_sides e.pairs) (right_sides e.pairs) → Leaves r cs ls → AreWith bs n ls p → ArePremises r cs p
are_premises r cs e n bs ls p count fits is most leaves with = record {
  fits = fits;
  many = with.many ∙ count;
  general = subst (λ b. IsMostGeneral (by_bindings b) (left_sides (r.pairs (apart_of cs))) (right_sides (r.pairs (apart_of cs)))) (sym with.unifier) (subst (λ ps. IsMostGeneral (by_bindings bs) (left_sides ps) (right_sides ps)) is most);
  leaves = subst (Leaves r cs) (sym with.left) leaves;
}

-- and what comes of that
pub judged_as : (r : InferenceRule) → IsLawfulRule r → IsNatural r → (cs : List ClauseTree) (a : Applied) (j : Judged) → AppliedAs r cs a → IsMeasuredAs a j → JudgedAs r cs j
judged_as r law natural cs applied.Unfit j takes is = subst (JudgedAs r cs) (sym is) takes
judged_as r law natural cs applied.Apart j takes is = subst (JudgedAs r cs) (sym is) takes
judged_as r law natural cs (applied.To p) j takes is =
    judged r law natural cs (record { many = length cs; pairs = r.pairs (apart_of cs) }) p.many (by_bindings p.unifier) (all_left p.left.items) takes.many takes.fits refl takes.general takes.leaves j is

-- what unifies the sides of pairs makes each pair the same
same_pairs : (s : Substitution) (ps : List (Tree × Tree)) → Unifies s (left_sides ps) (right_sides ps) → AreSame (map (pair_put s) ps)
same_pairs s [] h = tt
same_pairs s (p ∷ ps) h = (
  first_same (substitute s p.0) (substitute s p.1) (substitute_all s (left_sides ps)) (substitute_all s (right_sides ps)) h,
  same_pairs s ps (others_same (substitute s p.0) (substitute s p.1) (substitute_all s (left_sides ps)) (substitute_all s (right_sides ps)) h),
)

-- so the parents have instances in which they are
pub can_be : (r : InferenceRule) → IsLawfulRule r → IsNatural r → (cs : List ClauseTree) (e : Equated) (s : Substitution) → IsTrue (r.fits cs) → Equates r cs e → Unifies s (left_sides e.pairs) (right_sides e.pairs) → CanUnify r cs
can_be r law natural cs e s fits is unifies = (
  λ k. followed (interleaved (length cs) k) s,
  subst AreSame (sym (ap r.pairs (under_apart s (interleaved (length cs)) cs) ∙ natural.pairs s (apart_of cs) (law.kept (interleaved (length cs)) cs fits)))
      (same_pairs s (r.pairs (apart_of cs)) (subst (λ ps. Unifies s (left_sides ps) (right_sides ps)) is unifies)),
)

-- literals as they are, in instances
pub whole_put : (own : Own) (k : ℕ) (c : ClauseTree) → left_clause own (all_whole k c) ≡ substitute_clause (own k) c
whole_put own k [] = refl
whole_put own k (l ∷ c) = ap (λ d. substitute_literal (own k) l ∷ d) (whole_put own k c)

-- what is left beside other things
pub left_beside : (own : Own) (xs ys : List LeftTree) → left_clause own (xs ++ ys) ≡ left_clause own xs ++ left_clause own ys
left_beside own [] ys = refl
left_beside own (x ∷ xs) ys = ap (λ c. left_literal own x ∷ c) (left_beside own xs ys)
