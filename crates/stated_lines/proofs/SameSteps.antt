-- Formulas of one kind, and arguments that are the same.
use Rattle.std.proofs.Common.{◌≡◌, ℕ, ◌+◌, ◌<◌, ◌≤◌, List, length, get_or, take, refl, sym, ap, ◌∙◌, add-one}
use Rattle.fol_core.specs.Fol.{Fol, verum, falsum, equal, atom, negation, conjunction, disjunction, implication, equivalence, forall, exists}
use Rattle.fol_core.specs.FormulaView.{fol_of}
use Rattle.fol_core.specs.TermView.{tree_of, tree_list}
use Rattle.fol_core.specs.Tree.{Tree, Trees, trees_of}
use Rattle.fol_core.specs.declared.formula.Shape.{Shape}
use Rattle.fol_core.specs.declared.formula.Shape.TheVariants.{True, False, Eq, Atom, Not, And, Or, If, Iff, All, Exists}
use Rattle.fol_core.specs.declared.symbols.Sym.{Sym}
use Rattle.fol_core.specs.declared.term.Term.{Term}
use Rattle.substitutions.proofs.Elements.{trees_back, front_more, element_same, length_same, all_same}

pub terms_length : (ls rs : List Term) → (length ls ≡ length rs → ⊥) → trees_of (tree_list ls) ≡ trees_of (tree_list rs) → ⊥
terms_length ls rs apart same = apart (length_same tree_of ls rs (trees_back (tree_list ls) (tree_list rs) same))

pub terms_apart : (ls rs : List Term) (i : ℕ) (l r : Term) → i < length ls → l ≡ get_or ls i l → r ≡ get_or rs i r → (tree_of l ≡ tree_of r → ⊥) → trees_of (tree_list ls) ≡ trees_of (tree_list rs) → ⊥
terms_apart ls rs i l r h is was apart same = apart (ap tree_of is ∙ element_same tree_of ls rs i l r h (trees_back (tree_list ls) (tree_list rs) same) ∙ sym (ap tree_of was))

pub terms_next : (ls rs : List Term) (i : ℕ) (l r : Term) → i < length ls → i < length rs → l ≡ get_or ls i l → r ≡ get_or rs i r → tree_list (take i ls) ≡ tree_list (take i rs) → tree_of l ≡ tree_of r
    → tree_list (take (i + 1) ls) ≡ tree_list (take (i + 1) rs)
terms_next ls rs i l r h k is was front same =
    ap (λ n. tree_list (take n ls)) (add-one i) ∙ front_more tree_of ls rs i l r h k front (sym (ap tree_of is) ∙ same ∙ ap tree_of was) ∙ sym (ap (λ n. tree_list (take n rs)) (add-one i))

pub terms_end : (ls rs : List Term) (i : ℕ) → length ls ≤ i → length rs ≤ i → tree_list (take i ls) ≡ tree_list (take i rs) → trees_of (tree_list ls) ≡ trees_of (tree_list rs)
terms_end ls rs i h k front = ap trees_of (all_same tree_of ls rs i h k front)

pub verum_is : (s : Shape) → (s ≡ True → ⊥) → verum ≡ fol_of s → ⊥
verum_is True apart h = apart refl
verum_is s apart h = cc

pub falsum_is : (s : Shape) → (s ≡ False → ⊥) → falsum ≡ fol_of s → ⊥
falsum_is False apart h = apart refl
falsum_is s apart h = cc

pub negation_is : (s : Shape) (f : Fol) → ((g : Fol) → s ≡ Not g → ⊥) → negation f ≡ fol_of s → ⊥
negation_is (Not g) f apart h = apart g refl
negation_is s f apart h = cc

pub conjunction_is : (s : Shape) (f g : Fol) → ((h k : Fol) → s ≡ And h k → ⊥) → conjunction f g ≡ fol_of s → ⊥
conjunction_is (And h k) f g apart e = apart h k refl
conjunction_is s f g apart e = cc

pub disjunction_is : (s : Shape) (f g : Fol) → ((h k : Fol) → s ≡ Or h k → ⊥) → disjunction f g ≡ fol_of s → ⊥
disjunction_is (Or h k) f g apart e = apart h k refl
disjunction_is s f g apart e = cc

pub implication_is : (s : Shape) (f g : Fol) → ((h k : Fol) → s ≡ If h k → ⊥) → implication f g ≡ fol_of s → ⊥
implication_is (If h k) f g apart e = apart h k refl
implication_is s f g apart e = cc

pub equivalence_is : (s : Shape) (f g : Fol) → ((h k : Fol) → s ≡ Iff h k → ⊥) → equivalence f g ≡ fol_of s → ⊥
equivalence_is (Iff h k) f g apart e = apart h k refl
equivalence_is s f g apart e = cc

pub forall_is : (s : Shape) (x : ℕ) (f : Fol) → ((y : ℕ) (g : Fol) → s ≡ All y g → ⊥) → forall x f ≡ fol_of s → ⊥
forall_is (All y g) x f apart e = apart y g refl
forall_is s x f apart e = cc

pub exists_is : (s : Shape) (x : ℕ) (f : Fol) → ((y : ℕ) (g : Fol) → s ≡ Exists y g → ⊥) → exists x f ≡ fol_of s → ⊥
exists_is (Exists y g) x f apart e = apart y g refl
exists_is s x f apart e = cc

pub equal_is : (s : Shape) (t u : Tree) → ((v : Tree × Tree) → s ≡ Eq v → ⊥) → equal t u ≡ fol_of s → ⊥
equal_is (Eq v) t u apart e = apart v refl
equal_is s t u apart e = cc

pub atom_is : (s : Shape) (r : ℕ) (ts : Trees) → ((q : Sym) (us : List Tree) → s ≡ Atom q us → ⊥) → atom r ts ≡ fol_of s → ⊥
atom_is (Atom q us) r ts apart e = apart q us refl
atom_is s r ts apart e = cc
