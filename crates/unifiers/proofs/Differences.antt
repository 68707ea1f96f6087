-- What the first difference says of unifiers.
use Rattle.std.proofs.Common.{◌≡◌, ℕ, ◌+◌, ◌≤◌, Bool, true, false, ◌==◌, if◌then◌else◌, IsTrue, refl, sym, ap, ap₂, ◌∙◌, subst, arith, inl, inr}
use Rattle.std.proofs.lemmas.Bool.{or_left, or_right, or_cases, eq-eqb, eqb-true, eqb-false, false≢true, true≢false}
use Rattle.fol_core.specs.Substitutions.{Substitution, substitute, substitute_all}
use Rattle.fol_core.specs.Tree.{Tree, var, elem, app, Trees, none, more, nodes, nodes_of}
use Rattle.substitutions.specs.Instances.{followed}
use Rattle.substitutions.specs.Occurring.{has_variable, have_variable}
use Rattle.substitutions.proofs.Composing.{arguments_same, heads_same, first_same, others_same}
use Rattle.unifiers.specs.Unifier.{Difference, same, clash, bind, or_else, differ, differ_all, only}

-- of a difference: nothing differs; nothing makes the terms the same; or what does makes the variable and its term the same
abbrev pub Told : Substitution → Difference → Type 0 → Type 0 → Type 0
Told s same Equal Unified = Equal
Told s clash Equal Unified = ¬ Unified
Told s (bind x t) Equal Unified = Unified → s x ≡ substitute s t

told_both : (s : Substitution) (d e : Difference) (E F G U V W : Type 0) → (E → F → G) → (W → U) → (W → V) → Told s d E U → Told s e F V → Told s (or_else d e) G W
told_both s same same E F G U V W both left right h k = both h k
told_both s same clash E F G U V W both left right h k = λ w. k (right w)
told_both s same (bind x t) E F G U V W both left right h k = λ w. k (right w)
told_both s clash e E F G U V W both left right h k = λ w. h (left w)
told_both s (bind x t) e E F G U V W both left right h k = λ w. h (left w)

variables_told : (s : Substitution) (x y : ℕ) → Told s (if x == y then same else bind x (var y)) (◌≡◌ {A = Tree} (var x) (var y)) (s x ≡ s y)
variables_told s x y = by (x == y) refl
  where
    by : (b : Bool) → (x == y) ≡ b → Told s (if b then same else bind x (var y)) (◌≡◌ {A = Tree} (var x) (var y)) (s x ≡ s y)
    by true e = ap var (eqb-true x y e)
    by false e = λ h. h

elements_told : (s : Substitution) (k n : ℕ) → Told s (if k == n then same else clash) (◌≡◌ {A = Tree} (elem k) (elem n)) (◌≡◌ {A = Tree} (elem k) (elem n))
elements_told s k n = by (k == n) refl
  where
    by : (b : Bool) → (k == n) ≡ b → Told s (if b then same else clash) (◌≡◌ {A = Tree} (elem k) (elem n)) (◌≡◌ {A = Tree} (elem k) (elem n))
    by true e = ap elem (eqb-true k n e)
    by false e = λ h. let same : k ≡ n = cc in eqb-false k n e same

applications_told : (s : Substitution) (f g : ℕ) (ss ts : Trees) (d : Difference) → Told s d (ss ≡ ts) (substitute_all s ss ≡ substitute_all s ts)
    → Told s (if f == g then d else clash) (app f ss ≡ app g ts) (app f (substitute_all s ss) ≡ app g (substitute_all s ts))
applications_told s f g ss ts d h = by (f == g) refl
  where
    inside : (e : Difference) → f ≡ g → Told s e (ss ≡ ts) (substitute_all s ss ≡ substitute_all s ts) → Told s e (app f ss ≡ app g ts) (app f (substitute_all s ss) ≡ app g (substitute_all s ts))
    inside same is k = ap₂ app is k
    inside clash is k = λ w. k (arguments_same f g (substitute_all s ss) (substitute_all s ts) w)
    inside (bind x t) is k = λ w. k (arguments_same f g (substitute_all s ss) (substitute_all s ts) w)

    by : (b : Bool) → (f == g) ≡ b → Told s (if b then d else clash) (app f ss ≡ app g ts) (app f (substitute_all s ss) ≡ app g (substitute_all s ts))
    by true e = inside d (eqb-true f g e) h
    by false e = λ w. eqb-false f g e (heads_same f g (substitute_all s ss) (substitute_all s ts) w)

mutual
  pub told : (s : Substitution) (t u : Tree) → Told s (differ t u) (t ≡ u) (substitute s t ≡ substitute s u)
  told s (var x) (var y) = variables_told s x y
  told s (var x) (elem k) = λ h. h
  told s (var x) (app f ts) = λ h. h
  told s (elem k) (var y) = λ h. sym h
  told s (elem k) (elem n) = elements_told s k n
  told s (elem k) (app g ts) = λ h. cc
  told s (app f ss) (var y) = λ h. sym h
  told s (app f ss) (elem n) = λ h. cc
  told s (app f ss) (app g ts) = applications_told s f g ss ts (differ_all ss ts) (told_all s ss ts)

  pub told_all : (s : Substitution) (ts us : Trees) → Told s (differ_all ts us) (ts ≡ us) (substitute_all s ts ≡ substitute_all s us)
  told_all s none none = refl
  told_all s none (more u us) = λ h. cc
  told_all s (more t ts) none = λ h. cc
  told_all s (more t ts) (more u us) = told_both s (differ t u) (differ_all ts us) (t ≡ u) (ts ≡ us) (more t ts ≡ more u us)
      (substitute s t ≡ substitute s u) (substitute_all s ts ≡ substitute_all s us) (more (substitute s t) (substitute_all s ts) ≡ more (substitute s u) (substitute_all s us))
      (λ h k. ap₂ more h k) (first_same (substitute s t) (substitute s u) (substitute_all s ts) (substitute_all s us))
      (others_same (substitute s t) (substitute s u) (substitute_all s ts) (substitute_all s us)) (told s t u) (told_all s ts us)

abbrev pub is_variable : ℕ → Tree → Bool
is_variable x (var y) = x == y
is_variable x (elem k) = false
is_variable x (app f ts) = false

-- what a binding's variable and term are made of
abbrev pub Proper : (ℕ → Type 0) → Difference → Type 0
Proper P same = Unit {0}
Proper P clash = Unit {0}
Proper P (bind x t) = P x × ((y : ℕ) → IsTrue (has_variable y t) → P y) × (is_variable x t ≡ false)

module _ (P : ℕ → Type 0) where
  proper_both : (d e : Difference) → Proper P d → Proper P e → Proper P (or_else d e)
  proper_both same e h k = k
  proper_both clash e h k = h
  proper_both (bind x t) e h k = h

  mutual
    pub proper : (t u : Tree) → ((x : ℕ) → IsTrue (has_variable x t) → P x) → ((x : ℕ) → IsTrue (has_variable x u) → P x) → Proper P (differ t u)
    proper (var x) (var y) h k = by (x == y) refl
      where
        by : (b : Bool) → (x == y) ≡ b → Proper P (if b then same else bind x (var y))
        by true e = tt
        by false e = (h x (eq-eqb x x refl), k, e)
    proper (var x) (elem n) h k = (h x (eq-eqb x x refl), k, refl)
    proper (var x) (app f ts) h k = (h x (eq-eqb x x refl), k, refl)
    proper (elem n) (var y) h k = (k y (eq-eqb y y refl), h, refl)
    proper (elem n) (elem m) h k = by (n == m)
      where
        by : (b : Bool) → Proper P (if b then same else clash)
        by true = tt
        by false = tt
    proper (elem n) (app g ts) h k = tt
    proper (app f ss) (var y) h k = (k y (eq-eqb y y refl), h, refl)
    proper (app f ss) (elem n) h k = tt
    proper (app f ss) (app g ts) h k = by (f == g) (proper_all ss ts h k)
      where
        by : (b : Bool) → Proper P (differ_all ss ts) → Proper P (if b then differ_all ss ts else clash)
        by true rest = rest
        by false rest = tt

    pub proper_all : (ts us : Trees) → ((x : ℕ) → IsTrue (have_variable x ts) → P x) → ((x : ℕ) → IsTrue (have_variable x us) → P x) → Proper P (differ_all ts us)
    proper_all none none h k = tt
    proper_all none (more u us) h k = tt
    proper_all (more t ts) none h k = tt
    proper_all (more t ts) (more u us) h k = proper_both (differ t u) (differ_all ts us)
        (proper t u (λ x i. h x (or_left (has_variable x t) (have_variable x ts) i)) (λ x i. k x (or_left (has_variable x u) (have_variable x us) i)))
        (proper_all ts us (λ x i. h x (or_right (has_variable x t) (have_variable x ts) i)) (λ x i. k x (or_right (has_variable x u) (have_variable x us) i)))

mutual
  -- a term is no smaller than what one of its variables becomes
  nodes_term : (s : Substitution) (x : ℕ) (t : Tree) → IsTrue (has_variable x t) → nodes (s x) ≤ nodes (substitute s t)
  nodes_term s x (var y) i = subst (λ z. nodes (s x) ≤ nodes (s z)) (eqb-true x y i) (omega arith)
  nodes_term s x (elem k) i = absurd (false≢true i)
  nodes_term s x (app f ts) i = let le = nodes_terms s x ts i in omega arith

  nodes_terms : (s : Substitution) (x : ℕ) (ts : Trees) → IsTrue (have_variable x ts) → nodes (s x) ≤ nodes_of (substitute_all s ts)
  nodes_terms s x none i = absurd (false≢true i)
  nodes_terms s x (more t ts) i = elim (or_cases (has_variable x t) (have_variable x ts) i) [
    | inl j ↦ let le = nodes_term s x t j in omega arith
    | inr j ↦ let le = nodes_terms s x ts j in omega arith
  ]

-- nothing makes a variable and a term that has it the same
pub no_cycle : (s : Substitution) (x : ℕ) (t : Tree) → IsTrue (has_variable x t) → is_variable x t ≡ false → s x ≡ substitute s t → ⊥
no_cycle s x (var y) i proper h = true≢false (sym i ∙ proper)
no_cycle s x (elem k) i proper h = false≢true i
no_cycle s x (app f ts) i proper h = let le = nodes_terms s x ts i in let e : nodes (s x) ≡ nodes_of (substitute_all s ts) + 2 = ap nodes h in omega arith

-- a substitution that makes a variable and its term the same doesn't see the term put in
pub after_only : (s : Substitution) (x : ℕ) (t : Tree) → s x ≡ substitute s t → (y : ℕ) → followed (only x t) s y ≡ s y
after_only s x t h y = by (y == x) refl
  where
    by : (b : Bool) → (y == x) ≡ b → substitute s (if b then t else var y) ≡ s y
    by true e = sym h ∙ ap s (sym (eqb-true y x e))
    by false e = refl
