-- What is found as bindings.
use Rattle.std.specs.BTreeMap.{is_at}
use Rattle.std.specs.Map.{lookup}
use Rattle.std.specs.Ordering.{nat_cmp}
use Rattle.std.proofs.Common.{◌≡◌, ℕ, ◌<◌, ◌≤◌, ◌==◌, true, false, refl, sym, ap, ap₂, subst, ◌∙◌, List, [], ◌∷◌, length, map, arith, inl, inr, Option, Some, None, cond, if◌then◌else◌, eq-eqb}
use Rattle.std.proofs.lemmas.Bool.{cases_eq, ne_eqb}
use Rattle.std.proofs.lemmas.Bool.Decides.{nat_tests}
use Rattle.clause_limits.specs.Sizes.{measured}
use Rattle.clause_limits.specs.declared.measured.Measure.{Measure}
use Rattle.fol_core.specs.Sizes.{size_of, saturated}
use Rattle.fol_core.specs.Substitutions.{Substitution, substitute, substitute_all}
use Rattle.fol_core.specs.Tree.{Tree, var, elem, app, Trees, none, more}
use Rattle.substitutions.specs.Bindings.{by_bindings}
use Rattle.unifiers.specs.Unifier.{IsMostGeneral}
use Rattle.term_unifiers.specs.Arenas.{node_of}
use Rattle.term_unifiers.specs.Classes.{In, class_terms, found_terms, node_terms, term_or_variable}
use Rattle.term_unifiers.specs.Measures.{measure_at}
use Rattle.term_unifiers.specs.Merging.{nth}
use Rattle.term_unifiers.specs.Named.{named_nodes}
use Rattle.term_unifiers.specs.Solutions.{bindings_of, classes_in, IsFound, HasClass}
use Rattle.term_unifiers.specs.declared.found.Found.{Found}
use Rattle.term_unifiers.proofs.Entering.{at_other}
use Rattle.term_unifiers.proofs.Measured.{is_measured}

at_same : (x k : ℕ) → x ≡ k → is_at (nat_cmp x) k ≡ true
at_same x k h = grind (arith, nat_tests)

pub equal_test : (x k : ℕ) → x ≡ k → (x == k) ≡ true
equal_test x k h = eq-eqb x k h

pub other_test : (x k : ℕ) → (x ≡ k → ⊥) → (x == k) ≡ false
other_test x k h = ne_eqb x k h

bound : (terms : Substitution) (x : ℕ) (es : List (ℕ × ℕ)) → by_bindings (map (λ (e : ℕ × ℕ). (e.0, terms e.1)) es) x ≡ term_or_variable x terms (lookup (is_at (nat_cmp x)) es)
bound terms x [] = refl
bound terms x (e ∷ es) = elim (cases_eq x e.0) [
  | inl s ↦ ap (λ b. if b then terms e.1 else by_bindings (map (λ (e : ℕ × ℕ). (e.0, terms e.1)) es) x) (equal_test x e.0 s)
      ∙ sym (ap (λ b. term_or_variable x terms (cond b (Some e.1) (lookup (is_at (nat_cmp x)) es))) (at_same x e.0 s))
  | inr d ↦ ap (λ b. if b then terms e.1 else by_bindings (map (λ (e : ℕ × ℕ). (e.0, terms e.1)) es) x) (other_test x e.0 d)
      ∙ bound terms x es
      ∙ sym (ap (λ b. term_or_variable x terms (cond b (Some e.1) (lookup (is_at (nat_cmp x)) es))) (at_other x e.0 d))
]

-- the bindings are what is found
pub bindings_found : (f : Found) (x : ℕ) → by_bindings (bindings_of f) x ≡ found_terms f.arena (classes_in f) f.order.items x
bindings_found f x = bound (node_terms (classes_in f) f.order.items) x (named_nodes f.arena.variables)

-- a variable that has a node has the term of its class
pub class_bound : (f : Found) (x n root : ℕ) → IsFound f → node_of f.arena x ≡ Some n → root ≡ nth f.work.links.items n → HasClass f x root
class_bound f x n root is e r =
    let named = is.arena.named x n e in
    let inside : n < length f.work.links.items = let l = is.classes.linked in omega (arith, named.0, l) in
    let lower = is.classes.down n inside in
    record {
      within = omega (arith, named.0, lower, r);
      ordered = subst (λ k. In k f.order.items) (sym r) (is.ordered.whole n named.0);
      bound = bindings_found f x ∙ ap (term_or_variable x (node_terms (classes_in f) f.order.items)) e ∙ ap (class_terms (classes_in f) var f.order.items) (sym r);
    }

-- and the others stay
pub none_bound : (f : Found) (x : ℕ) → node_of f.arena x ≡ None → by_bindings (bindings_of f) x ≡ var x
none_bound f x e = bindings_found f x ∙ ap (term_or_variable x (node_terms (classes_in f) f.order.items)) e

-- no variable's term is greater than all that is measured
most_bound : (f : Found) (m x : ℕ) (o : Option ℕ) → IsFound f → 1 ≤ m → ((n : ℕ) → n < length f.measures.items → (measure_at f.measures.items n).size ≤ m) → node_of f.arena x ≡ o → saturated (size_of (by_bindings (bindings_of f) x)) ≤ m
most_bound f m x None is one all e =
    let same = ap (λ t. saturated (size_of t)) (none_bound f x e) in
    omega (arith, same, one)
most_bound f m x (Some n) is one all e =
    let root : ℕ = nth f.work.links.items n in
    let has = class_bound f x n root is e refl in
    let same = ap (λ t. saturated (size_of t)) has.bound in
    let sized = (is.measured.measured root has.ordered).sized in
    let within : root < length f.measures.items = let h = has.within in let k = is.measured.as_many in omega (arith, h, k) in
    let below = all root within in
    omega (arith, same, sized, below)

pub most_found : (f : Found) (m : ℕ) → IsFound f → 1 ≤ m → ((n : ℕ) → n < length f.measures.items → (measure_at f.measures.items n).size ≤ m) → (x : ℕ) → saturated (size_of (by_bindings (bindings_of f) x)) ≤ m
most_found f m is one all x = most_bound f m x (node_of f.arena x) is one all refl

mutual
  same_put : (s u : Substitution) → ((x : ℕ) → s x ≡ u x) → (t : Tree) → substitute s t ≡ substitute u t
  same_put s u h (var x) = h x
  same_put s u h (elem k) = refl
  same_put s u h (app f ts) = ap (app f) (same_puts s u h ts)

  same_puts : (s u : Substitution) → ((x : ℕ) → s x ≡ u x) → (ts : Trees) → substitute_all s ts ≡ substitute_all u ts
  same_puts s u h none = refl
  same_puts s u h (more t ts) = ap₂ more (same_put s u h t) (same_puts s u h ts)

-- most general is what gives variables the same terms
pub same_general : (s u : Substitution) → ((x : ℕ) → s x ≡ u x) → (ss ts : Trees) → IsMostGeneral s ss ts → IsMostGeneral u ss ts
same_general s u h ss ts is = record {
  unifies = sym (same_puts s u h ss) ∙ is.unifies ∙ same_puts s u h ts;
  covers = λ v e. let r = is.covers v e in (r.0, λ x. r.1 x ∙ ap (substitute r.0) (h x));
}

-- how large a variable's term is, by what is kept of its class
pub class_measured : (f : Found) (x root : ℕ) (m : Measure) → IsFound f → HasClass f x root → m ≡ measure_at f.measures.items root → m ≡ measured (by_bindings (bindings_of f) x)
class_measured f x root m is has at =
    at ∙ is_measured (class_terms (classes_in f) var f.order.items root) (measure_at f.measures.items root) (is.measured.measured root has.ordered) ∙ ap measured (sym has.bound)
