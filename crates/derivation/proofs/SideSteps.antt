-- The sides of equations by their places.
use Rattle.std.proofs.Common.{◌≡◌, ℕ, ◌<◌, Bool, true, false, ◌==◌, if◌then◌else◌, List, [], ◌∷◌, length, get_or, Option, Some, None, is_some, MatchOption, refl, sym, ap, ap₂, ◌∙◌, subst, arith}
use Rattle.std.proofs.lemmas.Bool.{eq-eqb, ne_eqb}
use Rattle.std.specs.Borrow.{Bor}
use Rattle.std.specs.Option.{option_map, unwrap_or}
use Rattle.fol_core.specs.Literals.{equality}
use Rattle.fol_core.specs.TermView.{tree_of, tree_list}
use Rattle.fol_core.specs.Tree.{Tree, var, elem, app, none, more, trees_of}
use Rattle.fol_core.specs.declared.term.Term.{Term}
use Rattle.derivation.specs.Equations.{is_equation, left_of, right_of}
use Rattle.derivation.specs.Sides.{sides_of, AreSides}

-- an application of other arguments than two has no sides
pub few_no_sides : (r : ℕ) (ts : List Term) → (length ts ≡ 2 → ⊥) → None ≡ sides_of (app r (trees_of (tree_list ts)))
few_no_sides r [] h = refl
few_no_sides r (s ∷ []) h = refl
few_no_sides r (s ∷ t ∷ []) h = absurd (h refl)
few_no_sides r (s ∷ t ∷ u ∷ ts) h = refl

pub few_no_equation : (r : ℕ) (ts : List Term) → (length ts ≡ 2 → ⊥) → is_equation (app r (trees_of (tree_list ts))) ≡ false
few_no_equation r [] h = refl
few_no_equation r (s ∷ []) h = refl
few_no_equation r (s ∷ t ∷ []) h = absurd (h refl)
few_no_equation r (s ∷ t ∷ u ∷ ts) h = refl

-- nor has one of another relation
pub other_no_sides : (r : ℕ) (ts : List Term) → (r ≡ equality → ⊥) → None ≡ sides_of (app r (trees_of (tree_list ts)))
other_no_sides r [] h = refl
other_no_sides r (s ∷ []) h = refl
other_no_sides r (s ∷ t ∷ []) h = sym (ap (λ b. if b then Some (tree_of s, tree_of t) else None) (ne_eqb r equality h))
other_no_sides r (s ∷ t ∷ u ∷ ts) h = refl

pub other_no_equation : (r : ℕ) (ts : List Term) → (r ≡ equality → ⊥) → is_equation (app r (trees_of (tree_list ts))) ≡ false
other_no_equation r [] h = refl
other_no_equation r (s ∷ []) h = refl
other_no_equation r (s ∷ t ∷ []) h = ne_eqb r equality h
other_no_equation r (s ∷ t ∷ u ∷ ts) h = refl

two_terms : (r : ℕ) (ts : List Term) (s t : Term) → length ts ≡ 2 → s ≡ get_or ts 0 s → t ≡ get_or ts 1 t → app r (trees_of (tree_list ts)) ≡ app r (more (tree_of s) (more (tree_of t) none))
two_terms r [] s t h is was = absurd (omega arith)
two_terms r (a ∷ []) s t h is was = absurd (omega arith)
two_terms r (a ∷ b ∷ []) s t h is was = ap₂ (λ (u v : Term). app r (more (tree_of u) (more (tree_of v) none))) (sym is) (sym was)
two_terms r (a ∷ b ∷ c ∷ ts) s t h is was = absurd (omega arith)

-- an equation has its two arguments
pub both_sides : (r : ℕ) (ts : List Term) (s t : Term) → length ts ≡ 2 → r ≡ equality → s ≡ get_or ts 0 s → t ≡ get_or ts 1 t
    → Some (tree_of s, tree_of t) ≡ sides_of (app r (trees_of (tree_list ts)))
both_sides r ts s t h e is was =
    sym (ap sides_of (two_terms r ts s t h is was) ∙ ap (λ b. if b then Some (tree_of s, tree_of t) else None) (eq-eqb r equality e))

pub are_sides : (r : ℕ) (ts : List Term) (s t : Term) → length ts ≡ 2 → r ≡ equality → s ≡ get_or ts 0 s → t ≡ get_or ts 1 t
    → AreSides (app r (trees_of (tree_list ts))) (tree_of s) (tree_of t)
are_sides r ts s t h e is was =
    let shape = two_terms r ts s t h is was in
    record {
      equal = ap is_equation shape ∙ eq-eqb r equality e;
      left_is = sym (ap left_of shape);
      right_is = sym (ap right_of shape);
    }

-- there are sides where there is an equation
pub sides_tell : (t : Tree) (o : Option (Bor Term × Bor Term)) → MatchOption o (is_equation t ≡ false) (λ (p : Bor Term × Bor Term). AreSides t (tree_of p.0.now) (tree_of p.1.now)) → is_some o ≡ is_equation t
sides_tell t None h = sym h
sides_tell t (Some p) h = sym h.equal

-- what the definition of sides tells of equations
pub equation_has_sides : (t : Tree) → is_equation t ≡ is_some (sides_of t)
equation_has_sides (var x) = refl
equation_has_sides (elem k) = refl
equation_has_sides (app r none) = refl
equation_has_sides (app r (more s none)) = refl
equation_has_sides (app r (more s (more t none))) = by (r == equality)
  where
    by : (b : Bool) → b ≡ is_some {T = Tree × Tree} (if b then Some (s, t) else None)
    by true = refl
    by false = refl
equation_has_sides (app r (more s (more t (more u ts)))) = refl

pub sides_are : (t : Tree) (p : Tree × Tree) → sides_of t ≡ Some p → AreSides t p.0 p.1
sides_are (var x) p h = absurd (cc)
sides_are (elem k) p h = absurd (cc)
sides_are (app r none) p h = absurd (cc)
sides_are (app r (more s none)) p h = absurd (cc)
sides_are (app r (more s (more t none))) p h = by (r == equality) refl h
  where
    by : (b : Bool) → (r == equality) ≡ b → (if b then Some (s, t) else None) ≡ Some p → AreSides (app r (more s (more t none))) p.0 p.1
    by true e is =
        let same : (s, t) ≡ p = cc in
        subst (λ (q : Tree × Tree). AreSides (app r (more s (more t none))) q.0 q.1) same (record { equal = e; left_is = refl; right_is = refl })
    by false e is = absurd (cc)
sides_are (app r (more s (more t (more u ts)))) p h = absurd (cc)

-- the arguments of an application
pub left_none : (f : ℕ) (ts : List Term) → length ts ≡ 0 → left_of (app f (trees_of (tree_list ts))) ≡ var 0
left_none f [] h = refl
left_none f (s ∷ ts) h = cc

pub left_first : (f : ℕ) (ts : List Term) (t : Term) → 0 < length ts → t ≡ get_or ts 0 t → left_of (app f (trees_of (tree_list ts))) ≡ tree_of t
left_first f [] t h is = absurd (omega (arith, h))
left_first f (s ∷ ts) t h is = ap tree_of (sym is)

pub right_none : (f : ℕ) (ts : List Term) → length ts < 2 → right_of (app f (trees_of (tree_list ts))) ≡ var 0
right_none f [] h = refl
right_none f (s ∷ []) h = refl
right_none f (s ∷ t ∷ ts) h = absurd (omega (arith, h))

pub right_second : (f : ℕ) (ts : List Term) (t : Term) → 1 < length ts → t ≡ get_or ts 1 t → right_of (app f (trees_of (tree_list ts))) ≡ tree_of t
right_second f [] t h is = absurd (omega (arith, h))
right_second f (s ∷ []) t h is = absurd (omega (arith, h))
right_second f (s ∷ u ∷ ts) t h is = ap tree_of (sym is)

-- the term that an option holds, or another one in its place
pub or_tree : (o : Option (Bor Term)) (d : Bor Term) → tree_of (unwrap_or o d).now ≡ unwrap_or (option_map (λ (s : Bor Term). tree_of s.now) o) (tree_of d.now)
or_tree None d = refl
or_tree (Some s) d = refl

-- or the variable
pub or_variable : (r : Bor Term) (o : Option (Bor Term)) (d : Bor Term) (t : Tree) → r ≡ unwrap_or o d → tree_of d.now ≡ var 0 → unwrap_or (option_map (λ (s : Bor Term). tree_of s.now) o) (var 0) ≡ t → tree_of r.now ≡ t
or_variable r None d t e is h = ap (λ (b : Bor Term). tree_of b.now) e ∙ is ∙ h
or_variable r (Some s) d t e is h = ap (λ (b : Bor Term). tree_of b.now) e ∙ h

pub or_below : (r : Bor Term) (o : Option (Bor Term)) (d : Bor Term) (p : Option Tree) → r ≡ unwrap_or o d → tree_of d.now ≡ var 0 → option_map (λ (t : Bor Term). tree_of t.now) o ≡ p → tree_of r.now ≡ unwrap_or p (var 0)
or_below r None d p e is h = ap (λ (b : Bor Term). tree_of b.now) e ∙ is ∙ ap (λ (q : Option Tree). unwrap_or q (var 0)) h
or_below r (Some s) d p e is h = ap (λ (b : Bor Term). tree_of b.now) e ∙ ap (λ (q : Option Tree). unwrap_or q (var 0)) h
