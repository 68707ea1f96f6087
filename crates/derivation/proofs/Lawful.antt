-- What each rule keeps: its fitting in instances, atoms, truth.
use Rattle.std.proofs.Common.{◌≡◌, ℕ, suc, true, false, not, ◌==◌, ◌&&◌, ◌||◌, IsTrue, List, [], ◌∷◌, map, refl, sym, ap, ap₂, ◌∙◌, subst}
use Rattle.std.proofs.lemmas.Bool.{and_parts, and_from}
use Rattle.fol_core.specs.Free.{is_in}
use Rattle.fol_core.specs.Literals.{ClauseTree}
use Rattle.fol_core.specs.Meaning.{Meaning}
use Rattle.fol_core.specs.Substitutions.{Substitution}
use Rattle.fol_core.specs.Truth.{Assignment}
use Rattle.substitutions.specs.Atoms.{AreAtoms}
use Rattle.substitutions.specs.Instances.{substitute_clause}
use Rattle.substitutions.specs.Paths.{replaced}
use Rattle.derivation.specs.Equations.{is_equation, below, is_no_variable, term_below}
use Rattle.derivation.specs.Places.{has_literal, has_place, atom_at, others, with_atom, are_alike}
use Rattle.substitutions.specs.Apart.{Own, instances}
use Rattle.derivation.specs.Rule.{InferenceRule}
use Rattle.derivation.specs.Words.{only_of, is_one_clause, first_of_two, second_of_two, are_two, copy_rule, Clash, clashes_fit, clash_fits, clash_rest, satellite_rests, clash_rule, factor_rule, xx_rule, other_side_of, para_fits, para_rule}
use Rattle.derivation.proofs.LaterSound.{equation_put, replaced_is_atom}
use Rattle.derivation.proofs.Naturality.{has_put, place_put, atom_of_put, atom_at_put, no_variable_put, there_below, alike_put, opposites_put}
use Rattle.derivation.proofs.PlaceLemmas.{others_atoms, with_atom_atoms, append_atoms, atom_placed}
use Rattle.derivation.proofs.RuleSound.{AllAtoms, IsSound, copy_sound, clash_sound, factor_sound, xx_sound, para_sound}

pub record IsLawfulRule (r : InferenceRule) : Type 0 where
  pub kept : (own : Own) (cs : List ClauseTree) → IsTrue (r.fits cs) → IsTrue (r.fits (instances own cs))
  pub atoms : (cs : List ClauseTree) → IsTrue (r.fits cs) → AllAtoms cs → AreAtoms (r.rest cs)
  pub sound : (m : Meaning) (g : ℕ → ℕ) (e : Assignment) → IsSound m g e r

one_kept : (own : Own) (cs : List ClauseTree) → is_one_clause (instances own cs) ≡ is_one_clause cs
one_kept own [] = refl
one_kept own (c ∷ []) = refl
one_kept own (c ∷ d ∷ cs) = refl

two_kept : (own : Own) (cs : List ClauseTree) → are_two (instances own cs) ≡ are_two cs
two_kept own [] = refl
two_kept own (c ∷ []) = refl
two_kept own (c ∷ d ∷ []) = refl
two_kept own (c ∷ d ∷ e ∷ cs) = refl

pub only_kept : (own : Own) (cs : List ClauseTree) → only_of (instances own cs) ≡ substitute_clause (own 0) (only_of cs)
only_kept own [] = refl
only_kept own (c ∷ []) = refl
only_kept own (c ∷ d ∷ cs) = refl

pub first_kept : (own : Own) (cs : List ClauseTree) → first_of_two (instances own cs) ≡ substitute_clause (own 0) (first_of_two cs)
first_kept own [] = refl
first_kept own (c ∷ []) = refl
first_kept own (c ∷ d ∷ []) = refl
first_kept own (c ∷ d ∷ e ∷ cs) = refl

pub second_kept : (own : Own) (cs : List ClauseTree) → second_of_two (instances own cs) ≡ substitute_clause (own 1) (second_of_two cs)
second_kept own [] = refl
second_kept own (c ∷ []) = refl
second_kept own (c ∷ d ∷ []) = refl
second_kept own (c ∷ d ∷ e ∷ cs) = refl

only_atoms : (cs : List ClauseTree) → AllAtoms cs → AreAtoms (only_of cs)
only_atoms [] h = tt
only_atoms (c ∷ []) h = h.0
only_atoms (c ∷ d ∷ cs) h = tt

first_atoms : (cs : List ClauseTree) → AllAtoms cs → AreAtoms (first_of_two cs)
first_atoms [] h = tt
first_atoms (c ∷ []) h = tt
first_atoms (c ∷ d ∷ []) h = h.0
first_atoms (c ∷ d ∷ e ∷ cs) h = tt

second_atoms : (cs : List ClauseTree) → AllAtoms cs → AreAtoms (second_of_two cs)
second_atoms [] h = tt
second_atoms (c ∷ []) h = tt
second_atoms (c ∷ d ∷ []) h = h.1.0
second_atoms (c ∷ d ∷ e ∷ cs) h = tt

pub copy_lawful : IsLawfulRule copy_rule
copy_lawful = record {
  kept = λ own cs fits. one_kept own cs ∙ fits;
  atoms = λ cs fits atoms. only_atoms cs atoms;
  sound = copy_sound;
}

pub factor_lawful : (a b : ℕ) → IsLawfulRule (factor_rule a b)
factor_lawful a b = record {
  kept = λ own cs fits.
      ap₂ (λ p c. p && (not (a == b) && are_alike c a c b)) (one_kept own cs) (only_kept own cs)
      ∙ ap (λ p. is_one_clause cs && (not (a == b) && p)) (alike_put (own 0) (own 0) (only_of cs) a (only_of cs) b) ∙ fits;
  atoms = λ cs fits atoms. others_atoms (λ k. k == b) (only_of cs) (only_atoms cs atoms);
  sound = λ m g e. factor_sound m g e a b;
}

pub xx_lawful : (a : ℕ) → IsLawfulRule (xx_rule a)
xx_lawful a = record {
  kept = λ own cs fits.
      let p = and_parts (is_one_clause cs) (has_literal false (only_of cs) a && is_equation (atom_at (only_of cs) a)) fits in
      let q = and_parts (has_literal false (only_of cs) a) (is_equation (atom_at (only_of cs) a)) p.1 in
      and_from (is_one_clause (instances own cs)) (has_literal false (only_of (instances own cs)) a && is_equation (atom_at (only_of (instances own cs)) a)) (one_kept own cs ∙ p.0)
      (subst (λ c. IsTrue (has_literal false c a && is_equation (atom_at c a))) (sym (only_kept own cs))
      (and_from (has_literal false (substitute_clause (own 0) (only_of cs)) a) (is_equation (atom_at (substitute_clause (own 0) (only_of cs)) a)) (has_put (own 0) false (only_of cs) a ∙ q.0)
      (ap is_equation (atom_of_put (own 0) false (only_of cs) a q.0) ∙ equation_put (own 0) (atom_at (only_of cs) a) q.1)));
  atoms = λ cs fits atoms. others_atoms (λ k. k == a) (only_of cs) (only_atoms cs atoms);
  sound = λ m g e. xx_sound m g e a;
}

clashes_kept : (own : Own) (s : Substitution) (c : ClauseTree) (ks : List Clash) (ds : List ClauseTree) → clashes_fit (substitute_clause s c) ks (instances own ds) ≡ clashes_fit c ks ds
clashes_kept own s c [] [] = refl
clashes_kept own s c [] (d ∷ ds) = refl
clashes_kept own s c (k ∷ ks) [] = refl
clashes_kept own s c (k ∷ ks) (d ∷ ds) = ap₂ (λ p q. p && (not (is_in k.0 (map (λ n. n.0) ks)) && q)) (opposites_put s (own 0) c k.0 d k.1) (clashes_kept (λ n. own (suc n)) s c ks ds)

clash_kept : (ks : List Clash) (own : Own) (cs : List ClauseTree) → IsTrue (clash_fits ks cs) → IsTrue (clash_fits ks (instances own cs))
clash_kept ks own [] fits = fits
clash_kept ks own (c ∷ []) fits = fits
clash_kept ks own (c ∷ d ∷ ds) fits = clashes_kept (λ k. own (suc k)) (own 0) c ks (d ∷ ds) ∙ fits

rests_atoms : (ks : List Clash) (ds : List ClauseTree) → AllAtoms ds → AreAtoms (satellite_rests ks ds)
rests_atoms [] ds h = tt
rests_atoms (k ∷ ks) [] h = tt
rests_atoms (k ∷ ks) (d ∷ ds) h = append_atoms (others (λ n. n == k.1) d) (satellite_rests ks ds) (others_atoms (λ n. n == k.1) d h.0) (rests_atoms ks ds h.1)

clash_atoms : (ks : List Clash) (cs : List ClauseTree) → AllAtoms cs → AreAtoms (clash_rest ks cs)
clash_atoms ks [] h = tt
clash_atoms ks (c ∷ ds) h =
    append_atoms (others (λ n. is_in n (map (λ k. k.0) ks)) c) (satellite_rests ks ds) (others_atoms (λ n. is_in n (map (λ k. k.0) ks)) c h.0) (rests_atoms ks ds h.1)

pub clash_lawful : (ks : List Clash) → IsLawfulRule (clash_rule ks)
clash_lawful ks = record {
  kept = clash_kept ks;
  atoms = λ cs fits atoms. clash_atoms ks cs atoms;
  sound = λ m g e. clash_sound m g e ks;
}

-- the parts of what paramodulation takes
pub record ParaFits (a n b : ℕ) (path : List ℕ) (c d : ClauseTree) : Type 0 where
  pub positive : IsTrue (has_literal true c a)
  pub equal : IsTrue (is_equation (atom_at c a))
  pub side : IsTrue (n == 1 || n == 2)
  pub place : IsTrue (has_place d b)
  pub there : IsTrue (is_no_variable (below (atom_at d b) path))

pub para_parts : (a side b : ℕ) (path : List ℕ) (c d : ClauseTree) → IsTrue (para_fits a side b path c d) → ParaFits a side b path c d
para_parts a side b path c d fits =
    let p0 = and_parts (has_literal true c a) (is_equation (atom_at c a) && ((side == 1 || side == 2) && (has_place d b && is_no_variable (below (atom_at d b) path)))) fits in
    let p1 = and_parts (is_equation (atom_at c a)) ((side == 1 || side == 2) && (has_place d b && is_no_variable (below (atom_at d b) path))) p0.1 in
    let p2 = and_parts (side == 1 || side == 2) (has_place d b && is_no_variable (below (atom_at d b) path)) p1.1 in
    let p3 = and_parts (has_place d b) (is_no_variable (below (atom_at d b) path)) p2.1 in
    record { positive = p0.0; equal = p1.0; side = p2.0; place = p3.0; there = p3.1 }

para_whole : (a n b : ℕ) (path : List ℕ) (c d : ClauseTree) → ParaFits a n b path c d → IsTrue (para_fits a n b path c d)
para_whole a n b path c d p =
    and_from (has_literal true c a) (is_equation (atom_at c a) && ((n == 1 || n == 2) && (has_place d b && is_no_variable (below (atom_at d b) path)))) p.positive
    (and_from (is_equation (atom_at c a)) ((n == 1 || n == 2) && (has_place d b && is_no_variable (below (atom_at d b) path))) p.equal
    (and_from (n == 1 || n == 2) (has_place d b && is_no_variable (below (atom_at d b) path)) p.side
    (and_from (has_place d b) (is_no_variable (below (atom_at d b) path)) p.place p.there)))

para_put : (a n b : ℕ) (path : List ℕ) (s u : Substitution) (c d : ClauseTree) → ParaFits a n b path c d → ParaFits a n b path (substitute_clause s c) (substitute_clause u d)
para_put a n b path s u c d p = record {
  positive = has_put s true c a ∙ p.positive;
  equal = ap is_equation (atom_of_put s true c a p.positive) ∙ equation_put s (atom_at c a) p.equal;
  side = p.side;
  place = place_put u d b ∙ p.place;
  there = ap (λ t. is_no_variable (below t path)) (atom_at_put u d b p.place) ∙ no_variable_put u (atom_at d b) path p.there;
}

para_kept : (a n b : ℕ) (path : List ℕ) (own : Own) (cs : List ClauseTree) → IsTrue ((para_rule a n b path).fits cs) → IsTrue ((para_rule a n b path).fits (instances own cs))
para_kept a n b path own cs fits =
    let p = and_parts (are_two cs) (para_fits a n b path (first_of_two cs) (second_of_two cs)) fits in
    and_from (are_two (instances own cs)) (para_fits a n b path (first_of_two (instances own cs)) (second_of_two (instances own cs))) (two_kept own cs ∙ p.0)
    (ap₂ (para_fits a n b path) (first_kept own cs) (second_kept own cs)
    ∙ para_whole a n b path (substitute_clause (own 0) (first_of_two cs)) (substitute_clause (own 1) (second_of_two cs))
    (para_put a n b path (own 0) (own 1) (first_of_two cs) (second_of_two cs) (para_parts a n b path (first_of_two cs) (second_of_two cs) p.1)))

para_atoms : (a n b : ℕ) (path : List ℕ) (cs : List ClauseTree) → IsTrue ((para_rule a n b path).fits cs) → AllAtoms cs → AreAtoms ((para_rule a n b path).rest cs)
para_atoms a n b path cs fits atoms =
    let p = and_parts (are_two cs) (para_fits a n b path (first_of_two cs) (second_of_two cs)) fits in
    let q = para_parts a n b path (first_of_two cs) (second_of_two cs) p.1 in
    let c = first_of_two cs in
    let d = second_of_two cs in
    append_atoms (with_atom d b (replaced (atom_at d b) path (other_side_of n (atom_at c a)))) (others (λ k. k == a) c)
    (with_atom_atoms d b (replaced (atom_at d b) path (other_side_of n (atom_at c a)))
    (replaced_is_atom (atom_at d b) path (term_below (atom_at d b) path) (other_side_of n (atom_at c a)) (there_below (atom_at d b) path q.there) (atom_placed d b q.place (second_atoms cs atoms)))
    (second_atoms cs atoms))
    (others_atoms (λ k. k == a) c (first_atoms cs atoms))

pub para_lawful : (a side b : ℕ) (path : List ℕ) → IsLawfulRule (para_rule a side b path)
para_lawful a side b path = record {
  kept = para_kept a side b path;
  atoms = para_atoms a side b path;
  sound = λ m g e. para_sound m g e a side b path;
}
