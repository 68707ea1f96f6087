-- A rule has one conclusion, and a word makes one clause.
use Rattle.std.proofs.Common.{◌≡◌, inl, inr, ℕ, Bool, true, false, not, ◌==◌, ◌&&◌, if◌then◌else◌, IsTrue, List, [], ◌∷◌, ◌++◌, map, Some, unwrap_or, refl, sym, ap, ap₂, ◌∙◌, subst}
use Rattle.std.proofs.lemmas.Bool.{or_cases, and_parts, eqb-true, false≢true}
use Rattle.std.specs.List.{list_all}
use Rattle.fol_core.specs.Free.{is_in, variables_of}
use Rattle.fol_core.specs.Literals.{ClauseTree}
use Rattle.fol_core.specs.Substitutions.{Substitution, substitute}
use Rattle.fol_core.specs.Tree.{Tree, var}
use Rattle.substitutions.specs.Instances.{substitute_clause}
use Rattle.substitutions.specs.Occurring.{has_variable}
use Rattle.substitutions.specs.Paths.{replaced}
use Rattle.substitutions.proofs.Composing.{agrees, substitute_alike, has_listed}
use Rattle.substitutions.proofs.Replacing.{replaced_substituted}
use Rattle.substitutions.proofs.Variants.{instances_same}
use Rattle.derivation.specs.Equations.{is_equation, left_of, right_of, below, is_there, term_below}
use Rattle.derivation.specs.Later.{LaterWord, flipped, merged, reflexive, unit_deleted, rewritten, later_fits, Leads, is_unit, is_rule_equation}
use Rattle.derivation.specs.Places.{has_literal, has_place, atom_at, others, with_atom, are_alike, are_opposite}
use Rattle.substitutions.specs.Apart.{instances}
use Rattle.derivation.specs.Rule.{InferenceRule, Concludes}
use Rattle.derivation.specs.Words.{only_of, is_one_clause, first_of_two, second_of_two, are_two, copy_rule, Clash, clashes_fit, clash_fits, clash_pairs, all_clash_pairs, clash_rest, satellite_rests, clash_rule, factor_rule, xx_rule, side_of, other_side_of, para_fits, para_rest, para_rule}
use Rattle.derivation.proofs.LaterSound.{left_put, right_put}
use Rattle.derivation.proofs.Lawful.{IsLawfulRule, ParaFits, para_parts, only_kept, first_kept, second_kept}
use Rattle.derivation.proofs.Naturality.{atom_of_put, atom_at_put, others_put, with_atom_put, append_put, below_put, there_below, alike_places, opposite_places}

-- a pair of terms with others put in
abbrev pub pair_put : Substitution → Tree × Tree → Tree × Tree
pair_put s p = (substitute s p.0, substitute s p.1)

-- what a rule makes of instances is the instance of what it makes
pub record IsNatural (r : InferenceRule) : Type 0 where
  pub rest : (u : Substitution) (cs : List ClauseTree) → IsTrue (r.fits cs) → r.rest (map (substitute_clause u) cs) ≡ substitute_clause u (r.rest cs)
  pub pairs : (u : Substitution) (cs : List ClauseTree) → IsTrue (r.fits cs) → r.pairs (map (substitute_clause u) cs) ≡ map (pair_put u) (r.pairs cs)

-- one substitution for all parents
pub all_alike : (u : Substitution) (cs : List ClauseTree) → map (substitute_clause u) cs ≡ instances (λ k. u) cs
all_alike u [] = refl
all_alike u (c ∷ cs) = ap (λ ds. substitute_clause u c ∷ ds) (all_alike u cs)

only_put : (u : Substitution) (cs : List ClauseTree) → only_of (map (substitute_clause u) cs) ≡ substitute_clause u (only_of cs)
only_put u cs = ap only_of (all_alike u cs) ∙ only_kept (λ k. u) cs

first_of_put : (u : Substitution) (cs : List ClauseTree) → first_of_two (map (substitute_clause u) cs) ≡ substitute_clause u (first_of_two cs)
first_of_put u cs = ap first_of_two (all_alike u cs) ∙ first_kept (λ k. u) cs

second_of_put : (u : Substitution) (cs : List ClauseTree) → second_of_two (map (substitute_clause u) cs) ≡ substitute_clause u (second_of_two cs)
second_of_put u cs = ap second_of_two (all_alike u cs) ∙ second_kept (λ k. u) cs

pub copy_natural : IsNatural copy_rule
copy_natural = record { rest = λ u cs fits. only_put u cs; pairs = λ u cs fits. refl }

pub factor_natural : (a b : ℕ) → IsNatural (factor_rule a b)
factor_natural a b = record {
  rest = λ u cs fits. ap (others (λ k. k == b)) (only_put u cs) ∙ others_put u (λ k. k == b) (only_of cs);
  pairs = λ u cs fits.
      let p = and_parts (is_one_clause cs) (not (a == b) && are_alike (only_of cs) a (only_of cs) b) fits in
      let q = and_parts (not (a == b)) (are_alike (only_of cs) a (only_of cs) b) p.1 in
      let r = alike_places (only_of cs) a (only_of cs) b q.1 in
      ap (λ c. (atom_at c a, atom_at c b) ∷ []) (only_put u cs) ∙ ap₂ (λ s t. (s, t) ∷ []) (atom_at_put u (only_of cs) a r.0) (atom_at_put u (only_of cs) b r.1);
}

pub xx_natural : (a : ℕ) → IsNatural (xx_rule a)
xx_natural a = record {
  rest = λ u cs fits. ap (others (λ k. k == a)) (only_put u cs) ∙ others_put u (λ k. k == a) (only_of cs);
  pairs = λ u cs fits.
      let p = and_parts (is_one_clause cs) (has_literal false (only_of cs) a && is_equation (atom_at (only_of cs) a)) fits in
      let q = and_parts (has_literal false (only_of cs) a) (is_equation (atom_at (only_of cs) a)) p.1 in
      ap (λ c. (left_of (atom_at c a), right_of (atom_at c a)) ∷ []) (only_put u cs)
      ∙ ap (λ t. (left_of t, right_of t) ∷ []) (atom_of_put u false (only_of cs) a q.0)
      ∙ ap₂ (λ s t. (s, t) ∷ []) (left_put u (atom_at (only_of cs) a) q.1) (right_put u (atom_at (only_of cs) a) q.1);
}

rests_put : (u : Substitution) (ks : List Clash) (ds : List ClauseTree) → satellite_rests ks (map (substitute_clause u) ds) ≡ substitute_clause u (satellite_rests ks ds)
rests_put u [] ds = refl
rests_put u (k ∷ ks) [] = refl
rests_put u (k ∷ ks) (d ∷ ds) =
    ap₂ (λ a b. a ++ b) (others_put u (λ n. n == k.1) d) (rests_put u ks ds) ∙ sym (append_put u (others (λ n. n == k.1) d) (satellite_rests ks ds))

clash_rest_put : (u : Substitution) (ks : List Clash) (cs : List ClauseTree) → clash_rest ks (map (substitute_clause u) cs) ≡ substitute_clause u (clash_rest ks cs)
clash_rest_put u ks [] = refl
clash_rest_put u ks (c ∷ ds) =
    ap₂ (λ a b. a ++ b) (others_put u (λ n. is_in n (map (λ k. k.0) ks)) c) (rests_put u ks ds)
    ∙ sym (append_put u (others (λ n. is_in n (map (λ k. k.0) ks)) c) (satellite_rests ks ds))

clash_pairs_put : (u : Substitution) (c : ClauseTree) (ks : List Clash) (ds : List ClauseTree) → IsTrue (clashes_fit c ks ds)
    → clash_pairs (substitute_clause u c) ks (map (substitute_clause u) ds) ≡ map (pair_put u) (clash_pairs c ks ds)
clash_pairs_put u c [] ds fits = refl
clash_pairs_put u c (k ∷ ks) [] fits = refl
clash_pairs_put u c (k ∷ ks) (d ∷ ds) fits =
    let p = and_parts (are_opposite c k.0 d k.1) (not (is_in k.0 (map (λ n. n.0) ks)) && clashes_fit c ks ds) fits in
    let q = and_parts (not (is_in k.0 (map (λ n. n.0) ks))) (clashes_fit c ks ds) p.1 in
    let r = opposite_places c k.0 d k.1 p.0 in
    ap₂ (λ a b. a ∷ b) (ap₂ (λ s t. (s, t)) (atom_at_put u c k.0 r.0) (atom_at_put u d k.1 r.1)) (clash_pairs_put u c ks ds q.1)

all_pairs_put : (u : Substitution) (ks : List Clash) (cs : List ClauseTree) → IsTrue (clash_fits ks cs) → all_clash_pairs ks (map (substitute_clause u) cs) ≡ map (pair_put u) (all_clash_pairs ks cs)
all_pairs_put u ks [] fits = refl
all_pairs_put u ks (c ∷ []) fits = absurd (false≢true fits)
all_pairs_put u ks (c ∷ d ∷ ds) fits = clash_pairs_put u c ks (d ∷ ds) fits

pub clash_natural : (ks : List Clash) → IsNatural (clash_rule ks)
clash_natural ks = record { rest = λ u cs fits. clash_rest_put u ks cs; pairs = λ u cs fits. all_pairs_put u ks cs fits }

side_put : (u : Substitution) (n : ℕ) (t : Tree) → IsTrue (is_equation t) → side_of n (substitute u t) ≡ substitute u (side_of n t)
side_put u n t h = by (n == 1)
  where
    by : (b : Bool) → (if b then left_of (substitute u t) else right_of (substitute u t)) ≡ substitute u (if b then left_of t else right_of t)
    by true = left_put u t h
    by false = right_put u t h

other_side_put : (u : Substitution) (n : ℕ) (t : Tree) → IsTrue (is_equation t) → other_side_of n (substitute u t) ≡ substitute u (other_side_of n t)
other_side_put u n t h = by (n == 1)
  where
    by : (b : Bool) → (if b then right_of (substitute u t) else left_of (substitute u t)) ≡ substitute u (if b then right_of t else left_of t)
    by true = right_put u t h
    by false = left_put u t h

replaced_below : (u : Substitution) (t : Tree) (path : List ℕ) (v new : Tree) → below t path ≡ Some v → replaced (substitute u t) path (substitute u new) ≡ substitute u (replaced t path new)
replaced_below u t [] v new h = cc
replaced_below u t (k ∷ path) v new h = replaced_substituted u t (k ∷ path) v new h

para_rest_put : (u : Substitution) (a n b : ℕ) (path : List ℕ) (c d : ClauseTree) → ParaFits a n b path c d
    → para_rest a n b path (substitute_clause u c) (substitute_clause u d) ≡ substitute_clause u (para_rest a n b path c d)
para_rest_put u a n b path c d p =
    let new = other_side_of n (atom_at c a) in
    ap₂ (λ x y. with_atom (substitute_clause u d) b (replaced x path y) ++ others (λ k. k == a) (substitute_clause u c))
    (atom_at_put u d b p.place) (ap (other_side_of n) (atom_of_put u true c a p.positive) ∙ other_side_put u n (atom_at c a) p.equal)
    ∙ ap (λ t. with_atom (substitute_clause u d) b t ++ others (λ k. k == a) (substitute_clause u c)) (replaced_below u (atom_at d b) path (term_below (atom_at d b) path) new (there_below (atom_at d b) path p.there))
    ∙ ap₂ (λ x y. x ++ y) (with_atom_put u d b (replaced (atom_at d b) path new)) (others_put u (λ k. k == a) c)
    ∙ sym (append_put u (with_atom d b (replaced (atom_at d b) path new)) (others (λ k. k == a) c))

para_pairs_put : (u : Substitution) (a n b : ℕ) (path : List ℕ) (c d : ClauseTree) → ParaFits a n b path c d
    → ◌≡◌ {A = List (Tree × Tree)} ((side_of n (atom_at (substitute_clause u c) a), term_below (atom_at (substitute_clause u d) b) path) ∷ [])
    ((substitute u (side_of n (atom_at c a)), substitute u (term_below (atom_at d b) path)) ∷ [])
para_pairs_put u a n b path c d p = ap₂ (λ s t. (s, t) ∷ [])
    (ap (side_of n) (atom_of_put u true c a p.positive) ∙ side_put u n (atom_at c a) p.equal)
    (ap (λ t. term_below t path) (atom_at_put u d b p.place) ∙ ap (λ o. unwrap_or o (var 0)) (below_put u (atom_at d b) path (term_below (atom_at d b) path) (there_below (atom_at d b) path p.there)))

pub para_natural : (a n b : ℕ) (path : List ℕ) → IsNatural (para_rule a n b path)
para_natural a n b path = record {
  rest = λ u cs fits.
      let p = and_parts (are_two cs) (para_fits a n b path (first_of_two cs) (second_of_two cs)) fits in
      ap₂ (para_rest a n b path) (first_of_put u cs) (second_of_put u cs)
      ∙ para_rest_put u a n b path (first_of_two cs) (second_of_two cs) (para_parts a n b path (first_of_two cs) (second_of_two cs) p.1);
  pairs = λ u cs fits.
      let p = and_parts (are_two cs) (para_fits a n b path (first_of_two cs) (second_of_two cs)) fits in
      ap₂ (λ c d. (side_of n (atom_at c a), term_below (atom_at d b) path) ∷ []) (first_of_put u cs) (second_of_put u cs)
      ∙ para_pairs_put u a n b path (first_of_two cs) (second_of_two cs) (para_parts a n b path (first_of_two cs) (second_of_two cs) p.1);
}

-- the conclusion is one
pub one_conclusion : (r : InferenceRule) → IsLawfulRule r → IsNatural r → (cs : List ClauseTree) (c d : ClauseTree) → IsTrue (r.fits cs) → Concludes r cs c → Concludes r cs d → c ≡ d
one_conclusion r law natural cs c d fits (own, general, is) (other, most, was) =
    let there = general.general other most.unifies in
    let back = most.general own general.unifies in
    is ∙ instances_same (r.rest (instances own cs)) (r.rest (instances other cs)) there.0 back.0
    (ap r.rest there.1 ∙ natural.rest there.0 (instances own cs) (law.kept own cs fits))
    (ap r.rest back.1 ∙ natural.rest back.0 (instances other cs) (law.kept other cs fits))
    ∙ sym was

pub in_all : (p : ℕ → Bool) (xs : List ℕ) (x : ℕ) → IsTrue (list_all p xs) → IsTrue (is_in x xs) → IsTrue (p x)
in_all p [] x all i = absurd (false≢true i)
in_all p (y ∷ ys) x all i =
    let parts = and_parts (p y) (list_all p ys) all in
    elim (or_cases (x == y) (is_in x ys) i) [
      | inl e ↦ subst (λ z. IsTrue (p z)) (sym (eqb-true x y e)) parts.0
      | inr j ↦ in_all p ys x parts.1 j
    ]

-- what a word makes is one
pub one_lead : (w : LaterWord) (c : ClauseTree) (ps : List ClauseTree) (d e : ClauseTree) → IsTrue (later_fits w c ps) → Leads w c ps d → Leads w c ps e → d ≡ e
one_lead (flipped a) c ps d e fits l k = l ∙ sym k
one_lead (merged a) c ps d e fits l k = l.1 ∙ sym k.1
one_lead (reflexive a) c ps d e fits l k = l.1 ∙ sym k.1
one_lead (unit_deleted a n) c ps d e fits l k = l.1 ∙ sym k.1
one_lead (rewritten n a path) c ps d e fits l k =
    let p0 = and_parts (is_one_clause ps) (is_unit (only_of ps) && (has_literal true (only_of ps) 0 && (is_rule_equation (atom_at (only_of ps) 0) && (has_place c a && is_there (below (atom_at c a) path))))) fits in
    let p1 = and_parts (is_unit (only_of ps)) (has_literal true (only_of ps) 0 && (is_rule_equation (atom_at (only_of ps) 0) && (has_place c a && is_there (below (atom_at c a) path)))) p0.1 in
    let p2 = and_parts (has_literal true (only_of ps) 0) (is_rule_equation (atom_at (only_of ps) 0) && (has_place c a && is_there (below (atom_at c a) path))) p1.1 in
    let p3 = and_parts (is_rule_equation (atom_at (only_of ps) 0)) (has_place c a && is_there (below (atom_at c a) path)) p2.1 in
    let left = left_of (atom_at (only_of ps) 0) in
    let right = right_of (atom_at (only_of ps) 0) in
    let p4 = and_parts (is_equation (atom_at (only_of ps) 0)) (list_all (λ x. has_variable x left) (variables_of right)) p3.0 in
    let same : substitute l.0 left ≡ substitute k.0 left = ap (λ o. unwrap_or o (var 0)) (sym l.1 ∙ k.1) in
    let rights : substitute l.0 right ≡ substitute k.0 right = substitute_alike l.0 k.0 right
    (λ x i. agrees l.0 k.0 left same x (in_all (λ y. has_variable y left) (variables_of right) x p4.1 (sym (has_listed x right) ∙ i))) in
    l.2 ∙ ap (λ t. with_atom c a (replaced (atom_at c a) path t)) rights ∙ sym k.2
