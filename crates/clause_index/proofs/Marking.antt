-- A clause that subsumes another has no other marks than that.
use Rattle.std.proofs.Common.{◌≡◌, ℕ, ◌+◌, zero, suc, inl, inr, Bool, true, false, ◌==◌, if◌then◌else◌, List, [], ◌∷◌, ◌++◌, Option, Some, None, slice_get, refl, subst, arith, eqb-true}
use Rattle.std.specs.List.{Contains}
use Rattle.std.specs.Option.{option_and_then}
use Rattle.std.proofs.lemmas.List.Elements.{Contains-append_left, Contains-append_right, Contains-append_cases}
use Rattle.clause_index.specs.Marks.{mixed, place_of, term_marks, terms_marks, marks_of}
use Rattle.derivation.specs.Places.{others}
use Rattle.discrim_tree.specs.Marks.{AreAmong}
use Rattle.fol_core.specs.Literals.{Lit, literal, ClauseTree}
use Rattle.fol_core.specs.Tree.{Tree, var, elem, app, Trees, none, more}
use Rattle.prover_steps.proofs.Subsumption.{atoms_in, Picks, chooses}
use Rattle.prover_steps.specs.Subsuming.{subsumes}
use Rattle.substitutions.specs.Bindings.{Binding}
use Rattle.unifiers.specs.Matching.{matched, matched_all}

nothing_within : (ns : List ℕ) → AreAmong [] ns
nothing_within ns m (k, below, is) = absurd (omega (arith, below))

both_within : (ks ms ns : List ℕ) → AreAmong ks ns → AreAmong ms ns → AreAmong (ks ++ ms) ns
both_within ks ms ns f g m h = elim (Contains-append_cases ks ms m h) [ inl k ↦ f m k | inr k ↦ g m k ]

beside_within : (ks ms ns os : List ℕ) → AreAmong ks ns → AreAmong ms os → AreAmong (ks ++ ms) (ns ++ os)
beside_within ks ms ns os f g =
    both_within ks ms (ns ++ os) (λ m h. Contains-append_left ns os m (f m h)) (λ m h. Contains-append_right ns os m (g m h))

-- what a match of two things in turn comes from
matched_in_turn : (next : List Binding → Option (List Binding)) (o : Option (List Binding)) (cs : List Binding) → option_and_then next o ≡ Some cs → (es : List Binding) × (o ≡ Some es) × (next es ≡ Some cs)
matched_in_turn next None cs e = cc
matched_in_turn next (Some es) cs e = (es, refl, e)

-- a match keeps symbols in their places
application_within : (place f g : ℕ) (ss ts : Trees) (o : Option (List Binding)) (cs : List Binding) → (o ≡ Some cs → AreAmong (terms_marks (mixed place f) 1 ss) (terms_marks (mixed place f) 1 ts)) → (if f == g then o else None) ≡ Some cs
    → AreAmong (term_marks place (app f ss)) (term_marks place (app g ts))
application_within place f g ss ts o cs each = by (f == g) refl
  where
    by : (b : Bool) → (f == g) ≡ b → (if b then o else None) ≡ Some cs → AreAmong (term_marks place (app f ss)) (term_marks place (app g ts))
    by true same e =
        subst (λ h. AreAmong (term_marks place (app f ss)) (term_marks place (app h ts))) (eqb-true f g same)
        (beside_within (mixed place f ∷ []) (terms_marks (mixed place f) 1 ss) (mixed place f ∷ []) (terms_marks (mixed place f) 1 ts) (λ m h. h) (each e))
    by false same e = cc

mutual
  term_within : (place : ℕ) (s t : Tree) (bs cs : List Binding) → matched s t bs ≡ Some cs → AreAmong (term_marks place s) (term_marks place t)
  term_within place (var x) t bs cs e = nothing_within (term_marks place t)
  term_within place (elem k) t bs cs e = nothing_within (term_marks place t)
  term_within place (app f ss) (var y) bs cs e = cc
  term_within place (app f ss) (elem n) bs cs e = cc
  term_within place (app f ss) (app g ts) bs cs e = application_within place f g ss ts (matched_all ss ts bs) cs (λ h. terms_within (mixed place f) 1 ss ts bs cs h) e

  terms_within : (mark i : ℕ) (ss ts : Trees) (bs cs : List Binding) → matched_all ss ts bs ≡ Some cs → AreAmong (terms_marks mark i ss) (terms_marks mark i ts)
  terms_within mark i none ts bs cs e = nothing_within (terms_marks mark i ts)
  terms_within mark i (more s ss) none bs cs e = cc
  terms_within mark i (more s ss) (more t ts) bs cs e =
      let (es, first, rest) = matched_in_turn (λ es. matched_all ss ts es) (matched s t bs) cs e in
      beside_within (term_marks (mixed mark i) s) (terms_marks mark (i + 1) ss) (term_marks (mixed mark i) t) (terms_marks mark (i + 1) ts) (term_within (mixed mark i) s t bs es first) (terms_within mark (i + 1) ss ts es cs rest)

-- the marks of some literals of a clause are among the clause's
literal_within : (d : ClauseTree) (a : ℕ) (k : Lit) → slice_get d a ≡ Some k → AreAmong (term_marks (place_of k.positive) k.atom) (marks_of d)
literal_within [] a k there = cc
literal_within (l ∷ d) zero k there =
    let same : l ≡ k = cc in
    subst (λ j. AreAmong (term_marks (place_of j.positive) j.atom) (marks_of (l ∷ d))) same (λ m h. Contains-append_left (term_marks (place_of l.positive) l.atom) (marks_of d) m h)
literal_within (l ∷ d) (suc a) k there = λ m h. Contains-append_right (term_marks (place_of l.positive) l.atom) (marks_of d) m (literal_within d a k there m h)

others_within : (test : ℕ → Bool) (d : ClauseTree) → AreAmong (marks_of (others test d)) (marks_of d)
others_within test [] = λ m h. h
others_within test (l ∷ d) = by (test 0) (others_within (λ k. test (suc k)) d)
  where
    by : (b : Bool) → AreAmong (marks_of (others (λ k. test (suc k)) d)) (marks_of d)
        → AreAmong (marks_of (if b then others (λ k. test (suc k)) d else l ∷ others (λ k. test (suc k)) d)) (term_marks (place_of l.positive) l.atom ++ marks_of d)
    by true rest = λ m h. Contains-append_right (term_marks (place_of l.positive) l.atom) (marks_of d) m (rest m h)
    by false rest = beside_within (term_marks (place_of l.positive) l.atom) (marks_of (others (λ k. test (suc k)) d)) (term_marks (place_of l.positive) l.atom) (marks_of d) (λ m h. h) rest

-- literals that are matched to some of a clause
picked_within : (c : ClauseTree) (ts : Trees) (d : ClauseTree) (bs cs : List Binding) → matched_all (atoms_in c) ts bs ≡ Some cs → Picks c ts d → AreAmong (marks_of c) (marks_of d)
picked_within [] ts d bs cs e picks = nothing_within (marks_of d)
picked_within (l ∷ c) none d bs cs e picks = absurd picks
picked_within (l ∷ c) (more t ts) d bs cs e (a, there, picks) =
    let (es, first, rest) = matched_in_turn (λ es. matched_all (atoms_in c) ts es) (matched l.atom t bs) cs e in
    both_within (term_marks (place_of l.positive) l.atom) (marks_of c) (marks_of d)
    (λ m h. literal_within d a (literal l.positive t) there m (term_within (place_of l.positive) l.atom t bs es first m h))
    (λ m h. others_within (λ k. k == a) d m (picked_within c ts (others (λ k. k == a) d) es cs rest picks m h))

pub subsumer_marks : (c d : ClauseTree) → subsumes c d ≡ true → (m : ℕ) → Contains (marks_of c) m → Contains (marks_of d) m
subsumer_marks c d h = let (ts, cs, e, picks) = chooses [] c d h in picked_within c ts d [] cs e picks
