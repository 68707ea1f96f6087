-- A negation normal form is true exactly where its formula, or its denial, is.
use Rattle.std.proofs.Common.{true, false}
use Rattle.fol_core.specs.Fol.{Fol, verum, falsum, equal, atom, negation, conjunction, disjunction, implication, equivalence, forall, exists}
use Rattle.fol_core.specs.Meaning.{Meaning}
use Rattle.fol_core.specs.Truth.{Assignment, with_var, Holds}
use Rattle.fol_core.proofs.TruthLemmas.{stable}
use Rattle.clausify.specs.Forms.{nnf_of}

-- "if A then B" and "not A or B"
arrow_from : {A B L R : Type 0} → (L → ¬ A) → (R → B) → (¬ ¬ B → B) → ¬ (¬ L × ¬ R) → A → B
arrow_from left right b h x = b (λ k. h (λ l. left l x, λ r. k (right r)))

arrow_to : {A B L R : Type 0} → (¬ A → L) → (B → R) → (A → B) → ¬ (¬ L × ¬ R)
arrow_to left right h k = k.0 (left (λ x. k.1 (right (h x))))

module _ (m : Meaning) where
  mutual
    pub true_from : (e : Assignment) (f : Fol) → Holds m e (nnf_of true f) → Holds m e f
    true_from e verum h = h
    true_from e falsum h = h
    true_from e (equal s t) h = h
    true_from e (atom r ts) h = h
    true_from e (negation f) h = false_from e f h
    true_from e (conjunction f g) h = (true_from e f h.0, true_from e g h.1)
    true_from e (disjunction f g) h = λ k. h (λ x. k.0 (true_from e f x), λ y. k.1 (true_from e g y))
    true_from e (implication f g) h = arrow_from (false_from e f) (true_from e g) (stable m e g) h
    true_from e (equivalence f g) h = (arrow_from (false_from e f) (true_from e g) (stable m e g) h.0, arrow_from (false_from e g) (true_from e f) (stable m e f) h.1)
    true_from e (forall x f) h = λ n w. true_from (with_var e x n) f (h n w)
    true_from e (exists x f) h = λ k. h (λ n w y. k n w (true_from (with_var e x n) f y))

    pub true_to : (e : Assignment) (f : Fol) → Holds m e f → Holds m e (nnf_of true f)
    true_to e verum h = h
    true_to e falsum h = h
    true_to e (equal s t) h = h
    true_to e (atom r ts) h = h
    true_to e (negation f) h = false_to e f h
    true_to e (conjunction f g) h = (true_to e f h.0, true_to e g h.1)
    true_to e (disjunction f g) h = λ k. h (λ x. k.0 (true_to e f x), λ y. k.1 (true_to e g y))
    true_to e (implication f g) h = arrow_to (false_to e f) (true_to e g) h
    true_to e (equivalence f g) h = (arrow_to (false_to e f) (true_to e g) h.0, arrow_to (false_to e g) (true_to e f) h.1)
    true_to e (forall x f) h = λ n w. true_to (with_var e x n) f (h n w)
    true_to e (exists x f) h = λ k. h (λ n w y. k n w (true_to (with_var e x n) f y))

    pub false_from : (e : Assignment) (f : Fol) → Holds m e (nnf_of false f) → ¬ Holds m e f
    false_from e verum h = h
    false_from e falsum h = h
    false_from e (equal s t) h = h
    false_from e (atom r ts) h = h
    false_from e (negation f) h = λ k. k (true_from e f h)
    false_from e (conjunction f g) h = λ p. h (λ x. false_from e f x p.0, λ y. false_from e g y p.1)
    false_from e (disjunction f g) h = λ k. k (false_from e f h.0, false_from e g h.1)
    false_from e (implication f g) h = λ p. false_from e g h.1 (p (true_from e f h.0))
    false_from e (equivalence f g) h = λ p. h.0 (
      λ x. let a = true_from e f x in h.1 (λ z. false_from e f z a, λ z. false_from e g z (p.0 a)),
      λ y. let b = true_from e g y in h.1 (λ z. false_from e f z (p.1 b), λ z. false_from e g z b),
    )
    false_from e (forall x f) h = λ p. h (λ n w y. false_from (with_var e x n) f y (p n w))
    false_from e (exists x f) h = λ k. k (λ n w y. false_from (with_var e x n) f (h n w) y)

    pub false_to : (e : Assignment) (f : Fol) → ¬ Holds m e f → Holds m e (nnf_of false f)
    false_to e verum h = h
    false_to e falsum h = h
    false_to e (equal s t) h = h
    false_to e (atom r ts) h = h
    false_to e (negation f) h = true_to e f (stable m e f h)
    false_to e (conjunction f g) h = λ k. h (stable m e f (λ x. k.0 (false_to e f x)), stable m e g (λ y. k.1 (false_to e g y)))
    false_to e (disjunction f g) h = (false_to e f (λ x. h (λ k. k.0 x)), false_to e g (λ y. h (λ k. k.1 y)))
    false_to e (implication f g) h = (true_to e f (stable m e f (λ k. h (λ x. absurd (k x)))), false_to e g (λ y. h (λ x. y)))
    false_to e (equivalence f g) h = (
      λ k. h (λ x. absurd (k.0 (true_to e f x)), λ y. absurd (k.1 (true_to e g y))),
      λ k.
          let a = stable m e f (λ x. k.0 (false_to e f x)) in
          let b = stable m e g (λ y. k.1 (false_to e g y)) in
          h (λ x. b, λ y. a),
    )
    false_to e (forall x f) h = λ k. h (λ n w. stable m (with_var e x n) f (λ y. k n w (false_to (with_var e x n) f y)))
    false_to e (exists x f) h = λ n w. false_to (with_var e x n) f (λ y. h (λ k. k n w y))
