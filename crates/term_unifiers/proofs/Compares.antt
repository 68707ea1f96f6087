-- Two nodes compared, by what stands there.
use Rattle.std.proofs.Common.{◌≡◌, ℕ, suc, ◌<◌, ◌≤◌, refl, sym, ap, ap₂, subst, ◌∙◌, List, [], ◌∷◌, ◌++◌, length, map, arith}
use Rattle.std.proofs.lemmas.List.{append-nil}
use Rattle.fol_core.specs.Substitutions.{Substitution}
use Rattle.fol_core.specs.Tree.{Tree, app, elem, trees_of, list_of}
use Rattle.term_unifiers.specs.Comparing.{Pairs, Compared}
use Rattle.term_unifiers.specs.Merging.{IsNoVariable, arity}
use Rattle.term_unifiers.specs.Shapes.{Shape, variable, element, application, shape_at, seen, HasArgumentsBelow, AreInPostorder}
use Rattle.term_unifiers.specs.declared.work.Comparison.TheVariants.{Clash, First, Second}
use Rattle.term_unifiers.proofs.Growing.{below_more}

no_pairs : (n : ℕ) (p q : Shape) (lefts rights : List ℕ) → (IsNoVariable q → IsNoVariable p) → ((label : Substitution) → IsNoVariable q → seen label q ≡ seen label p) → Pairs n p q lefts rights lefts rights
no_pairs n p q lefts rights heads whole = record {
  ks = [];
  js = [];
  left = sym (append-nil lefts);
  right = sym (append-nil rights);
  left_below = tt;
  right_below = tt;
  even = refl;
  few = omega arith;
  heads = heads;
  arguments = λ label e. refl;
  whole = λ label e firm. whole label firm;
}

pub first_variable : (shapes : List Shape) (p q : ℕ) (lefts rights : List ℕ) (x : ℕ) → variable x ≡ shape_at shapes p → Compared shapes p q lefts rights lefts rights Second
first_variable shapes p q lefts rights x e = record { variable = λ firm. subst IsNoVariable (sym e) firm; left = refl; right = refl }

pub second_variable : (shapes : List Shape) (p q : ℕ) (lefts rights : List ℕ) (x : ℕ) → IsNoVariable (shape_at shapes p) → variable x ≡ shape_at shapes q → Compared shapes p q lefts rights lefts rights First
second_variable shapes p q lefts rights x firm e =
    no_pairs (length shapes) (shape_at shapes p) (shape_at shapes q) lefts rights (λ h. firm) (λ label h. elim (never (subst IsNoVariable (sym e) h)) [ ])
  where
    never : IsNoVariable (variable x) → ⊥
    never h = h

pub no_variable : (s : Shape) (shapes : List Shape) (p : ℕ) → s ≡ shape_at shapes p → IsNoVariable s → IsNoVariable (shape_at shapes p)
no_variable s shapes p e firm = subst IsNoVariable e firm

pub same_elements : (shapes : List Shape) (p q : ℕ) (lefts rights : List ℕ) (k n : ℕ) → element k ≡ shape_at shapes p → element n ≡ shape_at shapes q → k ≡ n → Compared shapes p q lefts rights lefts rights First
same_elements shapes p q lefts rights k n e f h =
    no_pairs (length shapes) (shape_at shapes p) (shape_at shapes q) lefts rights (λ firm. subst IsNoVariable e tt)
    (λ label firm. ap (seen label) (sym f ∙ ap element (sym h) ∙ e))

heads_apart : (shapes : List Shape) (p q : ℕ) (s t : Shape) (l r ls rs : List ℕ) → s ≡ shape_at shapes p → t ≡ shape_at shapes q → IsNoVariable s → IsNoVariable t → ((label : Substitution) → seen label s ≡ seen label t → ⊥) → Compared shapes p q l r ls rs Clash
heads_apart shapes p q s t l r ls rs e f first second apart = record {
  first = subst IsNoVariable e first;
  second = subst IsNoVariable f second;
  apart = λ label h. apart label (ap (seen label) e ∙ h ∙ sym (ap (seen label) f));
}

pub other_elements : (shapes : List Shape) (p q : ℕ) (l r ls rs : List ℕ) (k n : ℕ) → element k ≡ shape_at shapes p → element n ≡ shape_at shapes q → (k ≡ n → ⊥) → Compared shapes p q l r ls rs Clash
other_elements shapes p q l r ls rs k n e f h = heads_apart shapes p q (element k) (element n) l r ls rs e f tt tt (λ label same. h (inside k n same))
  where
    inside : (k n : ℕ) → elem k ≡ elem n → k ≡ n
    inside k n e = cc

pub element_application : (shapes : List Shape) (p q : ℕ) (l r ls rs : List ℕ) (k f : ℕ) (ks : List ℕ) → element k ≡ shape_at shapes p → application f ks ≡ shape_at shapes q → Compared shapes p q l r ls rs Clash
element_application shapes p q l r ls rs k f ks e g = heads_apart shapes p q (element k) (application f ks) l r ls rs e g tt tt (λ label same. apart k f (map label ks) same)
  where
    apart : (k f : ℕ) (ts : List Tree) → elem k ≡ app f (trees_of ts) → ⊥
    apart k f ts e = cc

pub application_element : (shapes : List Shape) (p q : ℕ) (l r ls rs : List ℕ) (k f : ℕ) (ks : List ℕ) → application f ks ≡ shape_at shapes p → element k ≡ shape_at shapes q → Compared shapes p q l r ls rs Clash
application_element shapes p q l r ls rs k f ks e g = heads_apart shapes p q (application f ks) (element k) l r ls rs e g tt tt (λ label same. apart k f (map label ks) same)
  where
    apart : (k f : ℕ) (ts : List Tree) → app f (trees_of ts) ≡ elem k → ⊥
    apart k f ts e = cc

trees_back : (ts : List Tree) → list_of (trees_of ts) ≡ ts
trees_back [] = refl
trees_back (t ∷ ts) = ap (λ us. t ∷ us) (trees_back ts)

same_arguments : (f g : ℕ) (ss ts : List Tree) → app f (trees_of ss) ≡ app g (trees_of ts) → ss ≡ ts
same_arguments f g ss ts e =
    let same : trees_of ss ≡ trees_of ts = cc in
    sym (trees_back ss) ∙ ap list_of same ∙ trees_back ts

as_many_labels : (label : Substitution) (ks js : List ℕ) → map label ks ≡ map label js → length ks ≡ length js
as_many_labels label [] [] e = refl
as_many_labels label [] (j ∷ js) e = cc
as_many_labels label (k ∷ ks) [] e = cc
as_many_labels label (k ∷ ks) (j ∷ js) e = let rest : map label ks ≡ map label js = cc in ap suc (as_many_labels label ks js rest)

pub other_symbols : (shapes : List Shape) (p q : ℕ) (l r ls rs : List ℕ) (f g : ℕ) (ks js : List ℕ) → application f ks ≡ shape_at shapes p → application g js ≡ shape_at shapes q → (f ≡ g → ⊥) → Compared shapes p q l r ls rs Clash
other_symbols shapes p q l r ls rs f g ks js e i h = heads_apart shapes p q (application f ks) (application g js) l r ls rs e i tt tt (λ label same. h (inside f g (map label ks) (map label js) same))
  where
    inside : (f g : ℕ) (ss ts : List Tree) → app f (trees_of ss) ≡ app g (trees_of ts) → f ≡ g
    inside f g ss ts e = cc

pub other_arities : (shapes : List Shape) (p q : ℕ) (l r ls rs : List ℕ) (f g : ℕ) (ks js : List ℕ) → application f ks ≡ shape_at shapes p → application g js ≡ shape_at shapes q → (length ks ≡ length js → ⊥) → Compared shapes p q l r ls rs Clash
other_arities shapes p q l r ls rs f g ks js e i h = heads_apart shapes p q (application f ks) (application g js) l r ls rs e i tt tt (λ label same. h (as_many_labels label ks js (same_arguments f g (map label ks) (map label js) same)))

-- arguments that are put behind the pairs
pub more_pairs : (shapes : List Shape) (p q : ℕ) (lefts rights ls rs : List ℕ) (f g : ℕ) (ks js : List ℕ) → AreInPostorder shapes → p < length shapes → q < length shapes → application f ks ≡ shape_at shapes p → application g js ≡ shape_at shapes q → f ≡ g → length ks ≡ length js
    → ls ≡ lefts ++ ks → rs ≡ rights ++ js → Compared shapes p q lefts rights ls rs First
more_pairs shapes p q lefts rights ls rs f g ks js post p_in q_in e i same even left right = record {
  ks = ks;
  js = js;
  left = left;
  right = right;
  left_below = below_more p (length shapes) (omega (arith, p_in)) ks (subst (HasArgumentsBelow p) (sym e) (post p p_in));
  right_below = below_more q (length shapes) (omega (arith, q_in)) js (subst (HasArgumentsBelow q) (sym i) (post q q_in));
  even = even;
  few = let short : length ks ≤ length js = omega (arith, even) in subst (λ s. length ks ≤ arity s) i short;
  heads = λ firm. subst IsNoVariable e tt;
  arguments = λ label h. same_arguments f g (map label ks) (map label js) (ap (seen label) e ∙ h (subst IsNoVariable i tt) ∙ sym (ap (seen label) i));
  whole = λ label h firm. sym (ap (seen label) i) ∙ ap₂ (λ (s : ℕ) (ts : List Tree). app s (trees_of ts)) (sym same) (sym h) ∙ ap (seen label) e;
}
