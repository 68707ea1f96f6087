-- The rules of inference keep a signature.
use Rattle.std.proofs.Common.{◌≡◌, ℕ, suc, Bool, true, false, not, ◌==◌, ◌&&◌, if◌then◌else◌, IsTrue, List, [], ◌∷◌, map, length, Some, refl, sym, ap, ap₂, ◌∙◌, subst}
use Rattle.std.proofs.lemmas.Bool.{and_parts, false≢true}
use Rattle.std.specs.List.{AllByRecursion}
use Rattle.fol_core.specs.Free.{is_in}
use Rattle.fol_core.specs.Literals.{ClauseTree}
use Rattle.fol_core.specs.Substitutions.{Substitution, substitute}
use Rattle.fol_core.specs.Tree.{Tree}
use Rattle.substitutions.specs.Apart.{Own, instances, interleaved}
use Rattle.substitutions.specs.Instances.{substitute_clause, followed}
use Rattle.substitutions.specs.Paths.{replaced}
use Rattle.substitutions.proofs.Composing.{substitute_twice_clause}
use Rattle.substitutions.proofs.Interleaving.{interleaving_is_apart}
use Rattle.derivation.specs.Equations.{is_equation, left_of, right_of, term_below}
use Rattle.derivation.specs.Lines.{FirstWord, assumed, wanted, clausified, denied, copied, resolved, factored, paramodulated, xx_resolved, instantiated, Inference, copy_inference, clash_inference, factor_inference, para_inference, xx_inference, inference_of}
use Rattle.derivation.specs.Places.{has_literal, atom_at, others, with_atom, are_alike, are_opposite}
use Rattle.derivation.specs.Rule.{InferenceRule, AreSame, Concludes}
use Rattle.derivation.specs.Words.{only_of, is_one_clause, first_of_two, second_of_two, are_two, copy_rule, Clash, clashes_fit, clash_fits, clash_pairs, all_clash_pairs, clash_rest, satellite_rests, clash_rule, factor_rule, xx_rule, side_of, other_side_of, para_fits, para_rest, para_rule}
use Rattle.derivation.proofs.Conclusions.{pair_put, IsNatural}
use Rattle.derivation.proofs.Lawful.{IsLawfulRule, ParaFits, para_parts}
use Rattle.derivation.proofs.Naturality.{there_below, alike_places, opposite_places}
use Rattle.derivation_laws.specs.Signatures.{Signature, IsTermIn, IsAtomIn, IsClauseIn}
use Rattle.derivation_laws.proofs.Erased.{erased, erased_for, erased_atom, term_put, atom_put}
use Rattle.derivation_laws.proofs.Places.{left_in, right_in, term_below_in, replaced_in, literal_in, atom_in, others_in, with_atom_in, append_in, renumbered_in, AreClausesIn, instances_in, clauses_instance}

-- one substitution behind a family
behind : (s : Substitution) (own : Own) (cs : List ClauseTree) → instances (λ n. followed (own n) s) cs ≡ map (substitute_clause s) (instances own cs)
behind s own [] = refl
behind s own (c ∷ cs) = ap₂ (λ d ds. d ∷ ds) (sym (substitute_twice_clause (own 0) s c)) (behind s (λ n. own (suc n)) cs)

module _ (g : Signature) where
  -- terms that a substitution makes the same are still the same with the erased terms put in
  abbrev pub IsErasable : Tree × Tree → Type 0
  IsErasable p = (s : Substitution) → substitute s p.0 ≡ substitute s p.1 → substitute (erased_for g s) p.0 ≡ substitute (erased_for g s) p.1

  terms_erasable : (t u : Tree) → IsTermIn g t → IsTermIn g u → IsErasable (t, u)
  terms_erasable t u i j s h = sym (term_put g s t i) ∙ ap (erased g) h ∙ term_put g s u j

  atoms_erasable : (t u : Tree) → IsAtomIn g t → IsAtomIn g u → IsErasable (t, u)
  atoms_erasable t u i j s h = sym (atom_put g s t i) ∙ ap (erased_atom g) h ∙ atom_put g s u j

  pub same_erased : (s : Substitution) (ps : List (Tree × Tree)) → AllByRecursion IsErasable ps → AreSame (map (pair_put s) ps) → AreSame (map (pair_put (erased_for g s)) ps)
  same_erased s [] e h = tt
  same_erased s (p ∷ ps) e h = (e.0 s h.0, same_erased s ps e.1 h.1)

-- of parents of the signature a rule makes a clause of it, and takes pairs of its terms or atoms
pub record IsKeeping (g : Signature) (r : InferenceRule) : Type 0 where
  pub pairs : (cs : List ClauseTree) → IsTrue (r.fits cs) → AreClausesIn g cs → AllByRecursion (IsErasable g) (r.pairs cs)
  pub rest : (cs : List ClauseTree) → IsTrue (r.fits cs) → AreClausesIn g cs → IsClauseIn g (r.rest cs)

module _ (g : Signature) where
  pub only_in : (cs : List ClauseTree) → AreClausesIn g cs → IsClauseIn g (only_of cs)
  only_in [] i = tt
  only_in (c ∷ []) i = i.0
  only_in (c ∷ d ∷ cs) i = tt

  first_in : (cs : List ClauseTree) → AreClausesIn g cs → IsClauseIn g (first_of_two cs)
  first_in [] i = tt
  first_in (c ∷ []) i = tt
  first_in (c ∷ d ∷ []) i = i.0
  first_in (c ∷ d ∷ e ∷ cs) i = tt

  second_in : (cs : List ClauseTree) → AreClausesIn g cs → IsClauseIn g (second_of_two cs)
  second_in [] i = tt
  second_in (c ∷ []) i = tt
  second_in (c ∷ d ∷ []) i = i.1.0
  second_in (c ∷ d ∷ e ∷ cs) i = tt

  copy_keeping : IsKeeping g copy_rule
  copy_keeping = record { pairs = λ cs fits i. tt; rest = λ cs fits. only_in cs }

  factor_keeping : (a b : ℕ) → IsKeeping g (factor_rule a b)
  factor_keeping a b = record {
    pairs = λ cs fits i.
        let p = and_parts (is_one_clause cs) (not (a == b) && are_alike (only_of cs) a (only_of cs) b) fits in
        let q = and_parts (not (a == b)) (are_alike (only_of cs) a (only_of cs) b) p.1 in
        let r = alike_places (only_of cs) a (only_of cs) b q.1 in
        let is = only_in cs i in (
          atoms_erasable g (atom_at (only_of cs) a) (atom_at (only_of cs) b) (atom_in g (only_of cs) a r.0 is) (atom_in g (only_of cs) b r.1 is),
          tt,
        );
    rest = λ cs fits i. others_in g (λ n. n == b) (only_of cs) (only_in cs i);
  }

  xx_keeping : (a : ℕ) → IsKeeping g (xx_rule a)
  xx_keeping a = record {
    pairs = λ cs fits i.
        let p = and_parts (is_one_clause cs) (has_literal false (only_of cs) a && is_equation (atom_at (only_of cs) a)) fits in
        let q = and_parts (has_literal false (only_of cs) a) (is_equation (atom_at (only_of cs) a)) p.1 in
        let t = atom_at (only_of cs) a in
        let is = literal_in g false (only_of cs) a q.0 (only_in cs i) in (
          terms_erasable g (left_of t) (right_of t) (left_in g t is) (right_in g t is),
          tt,
        );
    rest = λ cs fits i. others_in g (λ n. n == a) (only_of cs) (only_in cs i);
  }

  side_in : (side : ℕ) (t : Tree) → IsAtomIn g t → IsTermIn g (side_of side t)
  side_in side t i = by (side == 1)
    where
      by : (b : Bool) → IsTermIn g (if b then left_of t else right_of t)
      by true = left_in g t i
      by false = right_in g t i

  other_side_in : (side : ℕ) (t : Tree) → IsAtomIn g t → IsTermIn g (other_side_of side t)
  other_side_in side t i = by (side == 1)
    where
      by : (b : Bool) → IsTermIn g (if b then right_of t else left_of t)
      by true = right_in g t i
      by false = left_in g t i

  module _ (a side b : ℕ) (path : List ℕ) where
    para_pair_in : (c d : ClauseTree) → ParaFits a side b path c d → IsClauseIn g c → IsClauseIn g d → IsErasable g (side_of side (atom_at c a), term_below (atom_at d b) path)
    para_pair_in c d p i j =
        terms_erasable g (side_of side (atom_at c a)) (term_below (atom_at d b) path) (side_in side (atom_at c a) (literal_in g true c a p.positive i))
        (term_below_in g (atom_at d b) path (atom_in g d b p.place j))

    para_rest_in : (c d : ClauseTree) → ParaFits a side b path c d → IsClauseIn g c → IsClauseIn g d → IsClauseIn g (para_rest a side b path c d)
    para_rest_in c d p i j =
        let new = other_side_of side (atom_at c a) in
        append_in g (with_atom d b (replaced (atom_at d b) path new)) (others (λ n. n == a) c)
        (with_atom_in g d b (replaced (atom_at d b) path new)
        (replaced_in g (atom_at d b) path (term_below (atom_at d b) path) new (there_below (atom_at d b) path p.there) (other_side_in side (atom_at c a) (literal_in g true c a p.positive i))
        (atom_in g d b p.place j)) j)
        (others_in g (λ n. n == a) c i)

    para_keeping : IsKeeping g (para_rule a side b path)
    para_keeping = record {
      pairs = λ cs fits i.
          let p = and_parts (are_two cs) (para_fits a side b path (first_of_two cs) (second_of_two cs)) fits in (
            para_pair_in (first_of_two cs) (second_of_two cs) (para_parts a side b path (first_of_two cs) (second_of_two cs) p.1) (first_in cs i) (second_in cs i),
            tt,
          );
      rest = λ cs fits i.
          let p = and_parts (are_two cs) (para_fits a side b path (first_of_two cs) (second_of_two cs)) fits in
          para_rest_in (first_of_two cs) (second_of_two cs) (para_parts a side b path (first_of_two cs) (second_of_two cs) p.1) (first_in cs i) (second_in cs i);
    }

  clash_pairs_in : (c : ClauseTree) (ks : List Clash) (ds : List ClauseTree) → IsTrue (clashes_fit c ks ds) → IsClauseIn g c → AreClausesIn g ds → AllByRecursion (IsErasable g) (clash_pairs c ks ds)
  clash_pairs_in c [] ds fits i j = tt
  clash_pairs_in c (k ∷ ks) [] fits i j = tt
  clash_pairs_in c (k ∷ ks) (d ∷ ds) fits i j =
      let p = and_parts (are_opposite c k.0 d k.1) (not (is_in k.0 (map (λ n. n.0) ks)) && clashes_fit c ks ds) fits in
      let q = and_parts (not (is_in k.0 (map (λ n. n.0) ks))) (clashes_fit c ks ds) p.1 in
      let r = opposite_places c k.0 d k.1 p.0 in (
        atoms_erasable g (atom_at c k.0) (atom_at d k.1) (atom_in g c k.0 r.0 i) (atom_in g d k.1 r.1 j.0),
        clash_pairs_in c ks ds q.1 i j.1,
      )

  all_pairs_in : (ks : List Clash) (cs : List ClauseTree) → IsTrue (clash_fits ks cs) → AreClausesIn g cs → AllByRecursion (IsErasable g) (all_clash_pairs ks cs)
  all_pairs_in ks [] fits i = tt
  all_pairs_in ks (c ∷ []) fits i = absurd (false≢true fits)
  all_pairs_in ks (c ∷ d ∷ ds) fits i = clash_pairs_in c ks (d ∷ ds) fits i.0 i.1

  rests_in : (ks : List Clash) (ds : List ClauseTree) → AreClausesIn g ds → IsClauseIn g (satellite_rests ks ds)
  rests_in [] ds i = tt
  rests_in (k ∷ ks) [] i = tt
  rests_in (k ∷ ks) (d ∷ ds) i = append_in g (others (λ n. n == k.1) d) (satellite_rests ks ds) (others_in g (λ n. n == k.1) d i.0) (rests_in ks ds i.1)

  clash_rest_in : (ks : List Clash) (cs : List ClauseTree) → AreClausesIn g cs → IsClauseIn g (clash_rest ks cs)
  clash_rest_in ks [] i = tt
  clash_rest_in ks (c ∷ ds) i =
      let left : ℕ → Bool = λ n. is_in n (map (λ k. k.0) ks) in append_in g (others left c) (satellite_rests ks ds) (others_in g left c i.0) (rests_in ks ds i.1)

  clash_keeping : (ks : List Clash) → IsKeeping g (clash_rule ks)
  clash_keeping ks = record { pairs = all_pairs_in ks; rest = λ cs fits. clash_rest_in ks cs }

  pub word_keeping : (w : FirstWord) (i : Inference) → inference_of w ≡ Some i → IsKeeping g i.rule
  word_keeping assumed i h = absurd (cc)
  word_keeping wanted i h = absurd (cc)
  word_keeping (clausified n) i h = absurd (cc)
  word_keeping (denied n) i h = absurd (cc)
  word_keeping (instantiated n es) i h = absurd (cc)
  word_keeping (copied n) i h = let same : copy_inference n ≡ i = cc in subst (λ (j : Inference). IsKeeping g j.rule) same copy_keeping
  word_keeping (resolved n ss) i h = let same : clash_inference n ss ≡ i = cc in subst (λ (j : Inference). IsKeeping g j.rule) same (clash_keeping (map (λ s. (s.place, s.literal)) ss))
  word_keeping (factored n a b) i h = let same : factor_inference n a b ≡ i = cc in subst (λ (j : Inference). IsKeeping g j.rule) same (factor_keeping a b)
  word_keeping (paramodulated n a side m b path) i h =
      let same : para_inference n a side m b path ≡ i = cc in subst (λ (j : Inference). IsKeeping g j.rule) same (para_keeping a side b path)
  word_keeping (xx_resolved n a) i h = let same : xx_inference n a ≡ i = cc in subst (λ (j : Inference). IsKeeping g j.rule) same (xx_keeping a)

  -- A conclusion of parents of the signature is in it: with the terms erased that a most general
  -- unifier puts in, the pairs are still the same, so that the parents' instances by the erased
  -- terms are instances of those that it makes, and those have nothing that was erased.
  pub conclusion_in : (r : InferenceRule) → IsLawfulRule r → IsNatural r → IsKeeping g r → (cs : List ClauseTree) (c : ClauseTree) → IsTrue (r.fits cs) → AreClausesIn g cs → Concludes r cs c
      → IsClauseIn g c
  conclusion_in r law natural keeping cs c fits are h =
      let own = h.0 in
      let apart = interleaved (length cs) in
      let ds = instances apart cs in
      let fit = law.kept apart cs fits in
      let ds_in : AreClausesIn g ds = instances_in g apart (λ n x. tt) cs are in
      let by_one = interleaving_is_apart cs own in
      let s = by_one.0 in
      let same : AreSame (map (pair_put s) (r.pairs ds)) = subst AreSame (ap r.pairs by_one.1 ∙ natural.pairs s ds fit) h.1.unifies in
      let also : AreSame (map (pair_put (erased_for g s)) (r.pairs ds)) = same_erased g s (r.pairs ds) (keeping.pairs ds fit ds_in) same in
      let other : Own = λ n. followed (apart n) (erased_for g s) in
      let made : instances other cs ≡ map (substitute_clause (erased_for g s)) ds = behind (erased_for g s) apart cs in
      let most = h.1.general other (subst AreSame (sym (ap r.pairs made ∙ natural.pairs (erased_for g s) ds fit)) also) in
      let again = sym made ∙ most.1 ∙ ap (map (substitute_clause most.0)) by_one.1 in
      let kept : AreClausesIn g (instances own cs) = subst (AreClausesIn g) (sym by_one.1) (clauses_instance g s most.0 ds ds_in again) in
      let rest : IsClauseIn g (r.rest (instances own cs)) = keeping.rest (instances own cs) (law.kept own cs fits) kept in
      subst (IsClauseIn g) (sym h.2) (renumbered_in g (r.rest (instances own cs)) rest)
