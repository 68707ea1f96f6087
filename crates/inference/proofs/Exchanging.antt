-- Parts of terms exchanged in place.
use Rattle.std.proofs.Common.{◌≡◌, ℕ, zero, suc, ◌-◌, ◌<◌, ◌≤◌, length, List, [], ◌∷◌, get_or, set, if◌then◌else◌, sym, ap, ap₂, ◌∙◌, arith}
use Rattle.std.proofs.lemmas.Bool.{ne_eqb}
use Rattle.fol_core.specs.TermView.{tree_of, tree_list}
use Rattle.fol_core.specs.Tree.{Tree, more, app, trees_of}
use Rattle.fol_core.specs.declared.term.Term.{Term}
use Rattle.substitutions.proofs.PathLemmas.{with_argument_zero, with_argument_past}
use Rattle.substitutions.specs.Paths.{with_argument, replaced}

-- an argument behind the first, by its number
pub later_argument : (change : Tree → Tree) (t : Tree) (ts : List Tree) (i : ℕ) → with_argument change (trees_of (t ∷ ts)) (suc (suc i)) ≡ more t (with_argument change (trees_of ts) (suc i))
later_argument change t ts i =
    let less : suc (suc i) - 1 ≡ suc i = omega arith in
    ap (λ b. if b then more (change t) (trees_of ts) else more t (with_argument change (trees_of ts) (suc (suc i) - 1))) (ne_eqb (suc (suc i)) 1 (omega arith))
    ∙ ap (λ n. more t (with_argument change (trees_of ts) n)) less

argument_changed : (change : Tree → Tree) (ts : List Term) (i : ℕ) (x y : Term) → i < length ts → x ≡ get_or ts i x → tree_of y ≡ change (tree_of x)
    → trees_of (tree_list (set ts i y)) ≡ with_argument change (trees_of (tree_list ts)) (suc i)
argument_changed change [] i x y h is e = absurd (omega (arith, h))
argument_changed change (t ∷ ts) zero x y h is e = ap (λ u. more u (trees_of (tree_list ts))) (e ∙ ap (λ z. change (tree_of z)) is)
argument_changed change (t ∷ ts) (suc i) x y h is e =
    ap (more (tree_of t)) (argument_changed change ts i x y (omega (arith, h)) is e) ∙ sym (later_argument change (tree_of t) (tree_list ts) i)

argument_back : (change : Tree → Tree) (ts : List Term) (i : ℕ) (x y : Term) → i < length ts → x ≡ get_or ts i x → tree_of x ≡ change (tree_of y)
    → trees_of (tree_list ts) ≡ with_argument change (trees_of (tree_list (set ts i y))) (suc i)
argument_back change [] i x y h is e = absurd (omega (arith, h))
argument_back change (t ∷ ts) zero x y h is e = ap (λ u. more u (trees_of (tree_list ts))) (ap tree_of (sym is) ∙ e)
argument_back change (t ∷ ts) (suc i) x y h is e =
    ap (more (tree_of t)) (argument_back change ts i x y (omega (arith, h)) is e) ∙ sym (later_argument change (tree_of t) (tree_list (set ts i y)) i)

-- at a path that begins with an argument's number
pub path_changed : (f : ℕ) (ts : List Term) (k : ℕ) (path rest : List ℕ) (x y : Term) (t new : Tree) → k ∷ rest ≡ path → app f (trees_of (tree_list ts)) ≡ t → 0 < k → k ≤ length ts → x ≡ get_or ts (k - 1) x
    → tree_of y ≡ replaced (tree_of x) rest new → app f (trees_of (tree_list (set ts (k - 1) y))) ≡ replaced t path new
path_changed f ts k path rest x y t new there whole h le is e =
    let number : suc (k - 1) ≡ k = omega (arith, h) in
    ap (app f) (argument_changed (λ u. replaced u rest new) ts (k - 1) x y (omega (arith, h, le)) is e ∙ ap (with_argument (λ u. replaced u rest new) (trees_of (tree_list ts))) number)
    ∙ ap₂ (λ u p. replaced u p new) whole there

pub path_back : (f : ℕ) (ts : List Term) (k : ℕ) (path rest : List ℕ) (x y : Term) (t old : Tree) → k ∷ rest ≡ path → app f (trees_of (tree_list ts)) ≡ t → 0 < k → k ≤ length ts → x ≡ get_or ts (k - 1) x
    → tree_of x ≡ replaced (tree_of y) rest old → t ≡ replaced (app f (trees_of (tree_list (set ts (k - 1) y)))) path old
path_back f ts k path rest x y t old there whole h le is e =
    let number : suc (k - 1) ≡ k = omega (arith, h) in
    sym whole
    ∙ ap (app f) (argument_back (λ u. replaced u rest old) ts (k - 1) x y (omega (arith, h, le)) is e ∙ ap (with_argument (λ u. replaced u rest old) (trees_of (tree_list (set ts (k - 1) y)))) number)
    ∙ ap (λ p. replaced (app f (trees_of (tree_list (set ts (k - 1) y)))) p old) there

-- a path that isn't there
pub path_zero : (f : ℕ) (ts : List Tree) (k : ℕ) (path rest : List ℕ) (t new : Tree) → k ∷ rest ≡ path → app f (trees_of ts) ≡ t → k ≡ 0 → app f (trees_of ts) ≡ replaced t path new
path_zero f ts k path rest t new there whole e =
    ap (app f) (sym (ap (with_argument (λ u. replaced u rest new) (trees_of ts)) e ∙ with_argument_zero (λ u. replaced u rest new) (trees_of ts))) ∙ ap₂ (λ u p. replaced u p new) whole there

pub path_past : (f : ℕ) (ts : List Tree) (k : ℕ) (path rest : List ℕ) (t new : Tree) → k ∷ rest ≡ path → app f (trees_of ts) ≡ t → length ts < k → app f (trees_of ts) ≡ replaced t path new
path_past f ts k path rest t new there whole h =
    ap (app f) (sym (with_argument_past (λ u. replaced u rest new) ts k h)) ∙ ap₂ (λ u p. replaced u p new) whole there
