-- Rules of inference on parents with other numbers of their symbols.
use Rattle.std.proofs.Common.{◌≡◌, ℕ, Bool, true, false, not, ◌==◌, ◌&&◌, ◌||◌, if◌then◌else◌, List, [], ◌∷◌, ◌++◌, map, Some, refl, sym, ap, ap₂, ◌∙◌, subst}
use Rattle.fol_core.specs.Free.{is_in}
use Rattle.fol_core.specs.Literals.{ClauseTree}
use Rattle.fol_core.specs.Renumbered.{renumbered}
use Rattle.fol_core.specs.Tree.{Tree}
use Rattle.substitutions.specs.Apart.{Own, instances}
use Rattle.substitutions.specs.Instances.{substitute_clause}
use Rattle.substitutions.specs.Paths.{replaced}
use Rattle.derivation.specs.Equations.{is_equation, left_of, right_of, below, is_no_variable, term_below}
use Rattle.derivation.specs.Lines.{FirstWord, assumed, wanted, clausified, denied, copied, resolved, factored, paramodulated, xx_resolved, instantiated, Inference, copy_inference, clash_inference, factor_inference, para_inference, xx_inference, inference_of}
use Rattle.derivation.specs.Places.{has_literal, atom_at, others, with_atom, are_alike}
use Rattle.derivation.specs.Rule.{InferenceRule, AreSame, UnifiesFamily, Concludes}
use Rattle.derivation.specs.Words.{only_of, is_one_clause, first_of_two, second_of_two, are_two, copy_rule, Clash, clashes_fit, clash_fits, clash_pairs, all_clash_pairs, clash_rest, satellite_rests, clash_rule, factor_rule, xx_rule, side_of, other_side_of, para_fits, para_rest, para_rule}
use Rattle.derivation_laws.specs.Moved.{Moving, moved_term, moved_clause, IsExchange}
use Rattle.derivation_laws.proofs.MovedTerms.{moved_terms_for, clauses_put, moved_own, instances_put, renumbered_moved, below_moved, no_variable_moved, term_below_moved, replaced_moved, has_moved, place_moved, atom_moved, others_moved, with_atom_moved, append_moved, alike_moved, opposites_moved, left_moved, right_moved, clauses_back, is_equation_moved}

abbrev moved_pair : Moving → Tree × Tree → Tree × Tree
moved_pair to p = (moved_term to p.0, moved_term to p.1)

-- what a rule makes of moved parents is what it makes of the parents, moved
pub record IsMovable (to : Moving) (r : InferenceRule) : Type 0 where
  pub fits : (cs : List ClauseTree) → r.fits (map (moved_clause to) cs) ≡ r.fits cs
  pub pairs : (cs : List ClauseTree) → r.pairs (map (moved_clause to) cs) ≡ map (moved_pair to) (r.pairs cs)
  pub rest : (cs : List ClauseTree) → r.rest (map (moved_clause to) cs) ≡ moved_clause to (r.rest cs)

module _ (to back : Moving) (x : IsExchange to back) where
  pub only_moved : (cs : List ClauseTree) → only_of (map (moved_clause to) cs) ≡ moved_clause to (only_of cs)
  only_moved [] = refl
  only_moved (c ∷ []) = refl
  only_moved (c ∷ d ∷ cs) = refl

  pub one_moved : (cs : List ClauseTree) → is_one_clause (map (moved_clause to) cs) ≡ is_one_clause cs
  one_moved [] = refl
  one_moved (c ∷ []) = refl
  one_moved (c ∷ d ∷ cs) = refl

  first_moved : (cs : List ClauseTree) → first_of_two (map (moved_clause to) cs) ≡ moved_clause to (first_of_two cs)
  first_moved [] = refl
  first_moved (c ∷ []) = refl
  first_moved (c ∷ d ∷ []) = refl
  first_moved (c ∷ d ∷ e ∷ cs) = refl

  second_moved : (cs : List ClauseTree) → second_of_two (map (moved_clause to) cs) ≡ moved_clause to (second_of_two cs)
  second_moved [] = refl
  second_moved (c ∷ []) = refl
  second_moved (c ∷ d ∷ []) = refl
  second_moved (c ∷ d ∷ e ∷ cs) = refl

  two_moved : (cs : List ClauseTree) → are_two (map (moved_clause to) cs) ≡ are_two cs
  two_moved [] = refl
  two_moved (c ∷ []) = refl
  two_moved (c ∷ d ∷ []) = refl
  two_moved (c ∷ d ∷ e ∷ cs) = refl

  copy_movable : IsMovable to copy_rule
  copy_movable = record { fits = one_moved; pairs = λ cs. refl; rest = only_moved }

  factor_movable : (a b : ℕ) → IsMovable to (factor_rule a b)
  factor_movable a b = record {
    fits = λ cs. ap₂ (λ p q. p && (not (a == b) && q)) (one_moved cs) (ap (λ c. are_alike c a c b) (only_moved cs) ∙ alike_moved to (only_of cs) a (only_of cs) b);
    pairs = λ cs. ap (λ c. (atom_at c a, atom_at c b) ∷ []) (only_moved cs) ∙ ap₂ (λ s t. (s, t) ∷ []) (atom_moved to (only_of cs) a) (atom_moved to (only_of cs) b);
    rest = λ cs. ap (others (λ k. k == b)) (only_moved cs) ∙ others_moved to (λ k. k == b) (only_of cs);
  }

  xx_movable : (a : ℕ) → IsMovable to (xx_rule a)
  xx_movable a = record {
    fits = λ cs. ap₂ (λ p q. p && q) (one_moved cs)
        (ap (λ c. has_literal false c a && is_equation (atom_at c a)) (only_moved cs)
        ∙ ap₂ (λ p q. p && q) (has_moved to false (only_of cs) a) (ap is_equation (atom_moved to (only_of cs) a) ∙ is_equation_moved to back x (atom_at (only_of cs) a)));
    pairs = λ cs. ap (λ c. (left_of (atom_at c a), right_of (atom_at c a)) ∷ []) (only_moved cs)
        ∙ ap (λ t. (left_of t, right_of t) ∷ []) (atom_moved to (only_of cs) a)
        ∙ ap₂ (λ s t. (s, t) ∷ []) (left_moved to (atom_at (only_of cs) a)) (right_moved to (atom_at (only_of cs) a));
    rest = λ cs. ap (others (λ k. k == a)) (only_moved cs) ∙ others_moved to (λ k. k == a) (only_of cs);
  }

  side_moved : (side : ℕ) (t : Tree) → side_of side (moved_term to t) ≡ moved_term to (side_of side t)
  side_moved side t = by (side == 1)
    where
      by : (b : Bool) → (if b then left_of (moved_term to t) else right_of (moved_term to t)) ≡ moved_term to (if b then left_of t else right_of t)
      by true = left_moved to t
      by false = right_moved to t

  other_side_moved : (side : ℕ) (t : Tree) → other_side_of side (moved_term to t) ≡ moved_term to (other_side_of side t)
  other_side_moved side t = by (side == 1)
    where
      by : (b : Bool) → (if b then right_of (moved_term to t) else left_of (moved_term to t)) ≡ moved_term to (if b then right_of t else left_of t)
      by true = right_moved to t
      by false = left_moved to t

  module _ (a side b : ℕ) (path : List ℕ) where
    para_fits_moved : (c d : ClauseTree) → para_fits a side b path (moved_clause to c) (moved_clause to d) ≡ para_fits a side b path c d
    para_fits_moved c d =
        ap₂ (λ p q. p && q) (has_moved to true c a)
        (ap₂ (λ p q. p && ((side == 1 || side == 2) && q)) (ap is_equation (atom_moved to c a) ∙ is_equation_moved to back x (atom_at c a))
        (ap₂ (λ p q. p && q) (place_moved to d b)
        (ap (λ t. is_no_variable (below t path)) (atom_moved to d b) ∙ ap is_no_variable (below_moved to (atom_at d b) path) ∙ no_variable_moved to (below (atom_at d b) path))))

    para_rest_moved : (c d : ClauseTree) → para_rest a side b path (moved_clause to c) (moved_clause to d) ≡ moved_clause to (para_rest a side b path c d)
    para_rest_moved c d =
        let other = ap (other_side_of side) (atom_moved to c a) ∙ other_side_moved side (atom_at c a) in
        let new = ap₂ (λ t u. replaced t path u) (atom_moved to d b) other ∙ replaced_moved to (atom_at d b) path (other_side_of side (atom_at c a)) in
        ap₂ (λ e f. e ++ f) (ap (with_atom (moved_clause to d) b) new ∙ with_atom_moved to d b (replaced (atom_at d b) path (other_side_of side (atom_at c a)))) (others_moved to (λ k. k == a) c)
        ∙ sym (append_moved to (with_atom d b (replaced (atom_at d b) path (other_side_of side (atom_at c a)))) (others (λ k. k == a) c))

    para_movable : IsMovable to (para_rule a side b path)
    para_movable = record {
      fits = λ cs. ap₂ (λ p q. p && q) (two_moved cs) (ap₂ (para_fits a side b path) (first_moved cs) (second_moved cs) ∙ para_fits_moved (first_of_two cs) (second_of_two cs));
      pairs = λ cs.
          let from = ap (λ c. side_of side (atom_at c a)) (first_moved cs) ∙ ap (side_of side) (atom_moved to (first_of_two cs) a) ∙ side_moved side (atom_at (first_of_two cs) a) in
          let into = ap (λ d. term_below (atom_at d b) path) (second_moved cs) ∙ ap (λ t. term_below t path) (atom_moved to (second_of_two cs) b) ∙ term_below_moved to (atom_at (second_of_two cs) b) path in
          ap₂ (λ s t. (s, t) ∷ []) from into;
      rest = λ cs. ap₂ (para_rest a side b path) (first_moved cs) (second_moved cs) ∙ para_rest_moved (first_of_two cs) (second_of_two cs);
    }

  clashes_moved : (c : ClauseTree) (ks : List Clash) (ds : List ClauseTree) → clashes_fit (moved_clause to c) ks (map (moved_clause to) ds) ≡ clashes_fit c ks ds
  clashes_moved c [] [] = refl
  clashes_moved c [] (d ∷ ds) = refl
  clashes_moved c (k ∷ ks) [] = refl
  clashes_moved c (k ∷ ks) (d ∷ ds) = ap₂ (λ p q. p && (not (is_in k.0 (map (λ n. n.0) ks)) && q)) (opposites_moved to c k.0 d k.1) (clashes_moved c ks ds)

  clash_fits_moved : (ks : List Clash) (cs : List ClauseTree) → clash_fits ks (map (moved_clause to) cs) ≡ clash_fits ks cs
  clash_fits_moved ks [] = refl
  clash_fits_moved ks (c ∷ []) = refl
  clash_fits_moved ks (c ∷ d ∷ ds) = clashes_moved c ks (d ∷ ds)

  clash_pairs_moved : (c : ClauseTree) (ks : List Clash) (ds : List ClauseTree) → clash_pairs (moved_clause to c) ks (map (moved_clause to) ds) ≡ map (moved_pair to) (clash_pairs c ks ds)
  clash_pairs_moved c [] ds = refl
  clash_pairs_moved c (k ∷ ks) [] = refl
  clash_pairs_moved c (k ∷ ks) (d ∷ ds) =
      (λ i. (atom_moved to c k.0 i, atom_moved to d k.1 i) ∷ clash_pairs_moved c ks ds i)

  all_pairs_moved : (ks : List Clash) (cs : List ClauseTree) → all_clash_pairs ks (map (moved_clause to) cs) ≡ map (moved_pair to) (all_clash_pairs ks cs)
  all_pairs_moved ks [] = refl
  all_pairs_moved ks (c ∷ ds) = clash_pairs_moved c ks ds

  rests_moved : (ks : List Clash) (ds : List ClauseTree) → satellite_rests ks (map (moved_clause to) ds) ≡ moved_clause to (satellite_rests ks ds)
  rests_moved [] ds = refl
  rests_moved (k ∷ ks) [] = refl
  rests_moved (k ∷ ks) (d ∷ ds) =
      ap₂ (λ a b. a ++ b) (others_moved to (λ n. n == k.1) d) (rests_moved ks ds) ∙ sym (append_moved to (others (λ n. n == k.1) d) (satellite_rests ks ds))

  clash_rest_moved : (ks : List Clash) (cs : List ClauseTree) → clash_rest ks (map (moved_clause to) cs) ≡ moved_clause to (clash_rest ks cs)
  clash_rest_moved ks [] = refl
  clash_rest_moved ks (c ∷ ds) =
      let left : ℕ → Bool = λ n. is_in n (map (λ k. k.0) ks) in
      ap₂ (λ a b. a ++ b) (others_moved to left c) (rests_moved ks ds) ∙ sym (append_moved to (others left c) (satellite_rests ks ds))

  clash_movable : (ks : List Clash) → IsMovable to (clash_rule ks)
  clash_movable ks = record { fits = clash_fits_moved ks; pairs = all_pairs_moved ks; rest = clash_rest_moved ks }

  pub word_movable : (w : FirstWord) (i : Inference) → inference_of w ≡ Some i → IsMovable to i.rule
  word_movable assumed i h = absurd (cc)
  word_movable wanted i h = absurd (cc)
  word_movable (clausified n) i h = absurd (cc)
  word_movable (denied n) i h = absurd (cc)
  word_movable (instantiated n es) i h = absurd (cc)
  word_movable (copied n) i h = let same : copy_inference n ≡ i = cc in subst (λ (j : Inference). IsMovable to j.rule) same copy_movable
  word_movable (resolved n ss) i h = let same : clash_inference n ss ≡ i = cc in subst (λ (j : Inference). IsMovable to j.rule) same (clash_movable (map (λ s. (s.place, s.literal)) ss))
  word_movable (factored n a b) i h = let same : factor_inference n a b ≡ i = cc in subst (λ (j : Inference). IsMovable to j.rule) same (factor_movable a b)
  word_movable (paramodulated n a side m b path) i h = let same : para_inference n a side m b path ≡ i = cc in subst (λ (j : Inference). IsMovable to j.rule) same (para_movable a side b path)
  word_movable (xx_resolved n a) i h = let same : xx_inference n a ≡ i = cc in subst (λ (j : Inference). IsMovable to j.rule) same (xx_movable a)

same_moved : (to : Moving) (ps : List (Tree × Tree)) → AreSame ps → AreSame (map (moved_pair to) ps)
same_moved to [] h = tt
same_moved to (p ∷ ps) h = (ap (moved_term to) h.0, same_moved to ps h.1)

-- the way back is an exchange too
pub backwards : (to back : Moving) → IsExchange to back → IsExchange back to
backwards to back x = record { there = x.again; again = x.there; equality_stays = ap back (sym x.equality_stays) ∙ x.there 18446744073709551615 }

-- a conclusion of moved parents is that of the parents, moved
module _ (to back : Moving) (x : IsExchange to back) (r : InferenceRule) (movable : IsMovable to r) (backward : IsMovable back r) (cs : List ClauseTree) where
  pub unifies_moved : (own : Own) → UnifiesFamily r cs own → UnifiesFamily r (map (moved_clause to) cs) (moved_own to own)
  unifies_moved own h = subst AreSame (sym (movable.pairs (instances own cs)) ∙ ap r.pairs (instances_put to own cs)) (same_moved to (r.pairs (instances own cs)) h)

  pub taken_back : (other : Own) → instances (moved_own back other) cs ≡ map (moved_clause back) (instances other (map (moved_clause to) cs))
  taken_back other =
      ap (instances (moved_own back other)) (sym (clauses_back to back x.there cs)) ∙ sym (instances_put back other (map (moved_clause to) cs))

  pub unifies_back : (other : Own) → UnifiesFamily r (map (moved_clause to) cs) other → UnifiesFamily r cs (moved_own back other)
  unifies_back other h =
      let all = instances other (map (moved_clause to) cs) in
      subst AreSame (sym (backward.pairs all) ∙ ap r.pairs (sym (taken_back other))) (same_moved back (r.pairs all) h)

  pub concludes_moved : (c : ClauseTree) → Concludes r cs c → Concludes r (map (moved_clause to) cs) (moved_clause to c)
  concludes_moved c h =
      let own = h.0 in
      let all = instances own cs in (
        moved_own to own,
        record {
          unifies = unifies_moved own h.1.unifies;
          general = λ other u.
              let g = h.1.general (moved_own back other) (unifies_back other u) in (
                moved_terms_for to g.0,
                sym (clauses_back back to x.again (instances other (map (moved_clause to) cs)))
                    ∙ ap (map (moved_clause to)) (sym (taken_back other) ∙ g.1)
                    ∙ clauses_put to g.0 all
                    ∙ ap (map (substitute_clause (moved_terms_for to g.0))) (instances_put to own cs),
              );
        },
        ap (moved_clause to) h.2 ∙ sym (renumbered_moved to (r.rest all)) ∙ ap renumbered (sym (movable.rest all)) ∙ ap (λ ds. renumbered (r.rest ds)) (instances_put to own cs),
      )
