-- How large a clause is with another term at a path of a literal.
use Rattle.std.proofs.Common.{◌≡◌, ℕ, zero, suc, ◌+◌, ◌-◌, ◌<◌, ◌≤◌, ◌==◌, ◌||◌, Bool, true, false, if◌then◌else◌, List, [], ◌∷◌, ◌++◌, map, length, take, slice_index_or, refl, sym, ap, ap₂, ◌∙◌, arith}
use Rattle.std.proofs.lemmas.List.{length-map, take_all}
use Rattle.std.proofs.lemmas.Bool.{le-ltb}
use Rattle.clause_limits.specs.Sizes.{clause_size, clause_depth, is_too_large, measured, measured_all, beside, under_symbol}
use Rattle.clause_limits.specs.declared.measured.Measure.{Measure}
use Rattle.derivation.specs.Places.{atom_at, with_atom}
use Rattle.fol_core.specs.ClauseView.{literal_of}
use Rattle.fol_core.specs.Literals.{literal, ClauseTree}
use Rattle.fol_core.specs.Sizes.{size_of, sizes_of, depth_of, depths_of, saturated}
use Rattle.fol_core.specs.TermView.{tree_of, tree_list}
use Rattle.fol_core.specs.Tree.{Tree, var, elem, app, Trees, none, more, trees_of}
use Rattle.fol_core.specs.declared.clause.Literal.{Literal}
use Rattle.fol_core.specs.declared.term.Term.{Term}
use Rattle.inference.specs.Followed.{with_part}
use Rattle.inference.specs.Left.{changed, changed_all}
use Rattle.inference.specs.Measured.{clause_measured}
use Rattle.inference.proofs.Changed.{changed_so_far, measured_here, measured_there, measured_changed}
use Rattle.inference.proofs.MeasureSteps.{literal_beside}
use Rattle.inference.proofs.Placing.{with_atom_length}
use Rattle.substitutions.proofs.Composing.{substitute_variables, substitute_variables_all}
use Rattle.substitutions.specs.Paths.{with_argument, replaced}

mutual
  -- a term changed as it stands
  changed_plain : (t : Tree) (path : List ℕ) (new : Tree) → changed var t path new ≡ replaced t path new
  changed_plain t [] new = refl
  changed_plain (var x) (k ∷ path) new = refl
  changed_plain (elem n) (k ∷ path) new = refl
  changed_plain (app f ts) (k ∷ path) new = ap (app f) (changed_plain_all ts k path new)

  changed_plain_all : (ts : Trees) (k : ℕ) (path : List ℕ) (new : Tree) → changed_all var ts k path new ≡ with_argument (λ u. replaced u path new) ts k
  changed_plain_all none k path new = refl
  changed_plain_all (more t ts) k path new =
      ap₂ (λ a b. if k == 1 then a else b) (ap₂ more (changed_plain t path new) (substitute_variables_all ts)) (ap₂ more (substitute_variables t) (changed_plain_all ts (k - 1) path new))

-- the first arguments, one of them changed
abbrev pub put_so_far : List ℕ → Tree → List Term → ℕ → ℕ → Measure
put_so_far path new xs i k = measured_all (trees_of (changed_so_far var path new xs i k))

pub put_here : (path : List ℕ) (new : Tree) (xs : List Term) (i k : ℕ) (x : Term) (m n all : Measure) → i < length xs → x ≡ slice_index_or xs i x → i + 1 ≡ k
    → m ≡ put_so_far path new xs i k → n ≡ measured (replaced (tree_of x) path new) → all ≡ beside m n → all ≡ put_so_far path new xs (i + 1) k
put_here path new xs i k x m n all h at e before one is = measured_here var path new xs i k x m n all h at e before (one ∙ ap measured (sym (changed_plain (tree_of x) path new))) is

pub put_there : (path : List ℕ) (new : Tree) (xs : List Term) (i k : ℕ) (x : Term) (m n all : Measure) → i < length xs → x ≡ slice_index_or xs i x → (i + 1 ≡ k → ⊥)
    → m ≡ put_so_far path new xs i k → n ≡ measured (tree_of x) → all ≡ beside m n → all ≡ put_so_far path new xs (i + 1) k
put_there path new xs i k x m n all h at d before one is = measured_there var path new xs i k x m n all h at d before (one ∙ ap measured (sym (substitute_variables (tree_of x)))) is

pub put_all : (f : ℕ) (xs ts : List Term) (us : List Tree) (i k : ℕ) (path : List ℕ) (new : Tree) (m n : Measure) → m ≡ put_so_far path new xs i k → n ≡ under_symbol m
    → length xs ≤ i → xs ≡ ts → tree_list ts ≡ us → n ≡ measured (replaced (app f (trees_of us)) (k ∷ path) new)
put_all f xs ts us i k path new m n before is h same view =
    measured_changed var f xs ts us i k path new m n before is h same view ∙ ap measured (changed_plain (app f (trees_of us)) (k ∷ path) new)

-- the literals with another atom at a place, one more of them
next_plain : (ls : List Literal) (i : ℕ) (l : Literal) → i < length ls → l ≡ slice_index_or ls i l → take (suc i) (map literal_of ls) ≡ take i (map literal_of ls) ++ literal_of l ∷ []
next_plain [] i l h at = absurd (omega (arith, h))
next_plain (k ∷ ls) zero l h at = ap (λ m. literal_of m ∷ []) (sym at)
next_plain (k ∷ ls) (suc i) l h at = ap (λ d. literal_of k ∷ d) (next_plain ls i l (omega (arith, h)) at)

next_here : (ls : List Literal) (i : ℕ) (l : Literal) (t : Tree) → i < length ls → l ≡ slice_index_or ls i l → take (suc i) (with_atom (map literal_of ls) i t) ≡ take i (with_atom (map literal_of ls) i t) ++ literal l.positive t ∷ []
next_here [] i l t h at = absurd (omega (arith, h))
next_here (k ∷ ls) zero l t h at = ap (λ m. literal m.positive t ∷ []) (sym at)
next_here (k ∷ ls) (suc i) l t h at = ap (λ d. literal_of k ∷ d) (next_here ls i l t (omega (arith, h)) at)

next_there : (ls : List Literal) (a i : ℕ) (l : Literal) (t : Tree) → i < length ls → l ≡ slice_index_or ls i l → (i ≡ a → ⊥) → take (suc i) (with_atom (map literal_of ls) a t) ≡ take i (with_atom (map literal_of ls) a t) ++ literal_of l ∷ []
next_there [] a i l t h at d = absurd (omega (arith, h))
next_there (k ∷ ls) zero zero l t h at d = absurd (d refl)
next_there (k ∷ ls) zero (suc i) l t h at d = ap (λ c. literal k.positive t ∷ c) (next_plain ls i l (omega (arith, h)) at)
next_there (k ∷ ls) (suc a) zero l t h at d = ap (λ m. literal_of m ∷ []) (sym at)
next_there (k ∷ ls) (suc a) (suc i) l t h at d = ap (λ c. literal_of k ∷ c) (next_there ls a i l t (omega (arith, h)) at (λ e. d (ap suc e)))

atom_of : (ls : List Literal) (i : ℕ) (l : Literal) → i < length ls → l ≡ slice_index_or ls i l → atom_at (map literal_of ls) i ≡ tree_of l.atom
atom_of [] i l h at = absurd (omega (arith, h))
atom_of (k ∷ ls) zero l h at = ap (λ m. tree_of m.atom) (sym at)
atom_of (k ∷ ls) (suc i) l h at = atom_of ls i l (omega (arith, h)) at

abbrev pub with_so_far : List Literal → ℕ → List ℕ → Tree → ℕ → Measure
with_so_far ls a path new i = clause_measured (take i (with_part (map literal_of ls) a path new))

one_more : (i : ℕ) → suc i ≡ i + 1
one_more i = omega arith

pub with_here : (ls : List Literal) (a : ℕ) (path : List ℕ) (new : Tree) (i : ℕ) (l : Literal) (m n all : Measure) → i < length ls → l ≡ slice_index_or ls i l → i ≡ a
    → m ≡ with_so_far ls a path new i → n ≡ measured (replaced (tree_of l.atom) path new) → all ≡ beside m n → all ≡ with_so_far ls a path new (i + 1)
with_here ls a path new i l m n all h at e before one is =
    let put = replaced (atom_at (map literal_of ls) i) path new in
    let atom : tree_of l.atom ≡ atom_at (map literal_of ls) i = sym (atom_of ls i l h at) in
    literal_beside (take i (with_atom (map literal_of ls) i put)) (literal l.positive put) m n all (before ∙ ap (λ b. with_so_far ls b path new i) (sym e)) (one ∙ ap (λ t. measured (replaced t path new)) atom) is
    ∙ ap clause_measured (sym (next_here ls i l put h at)) ∙ ap₂ (λ j b. with_so_far ls b path new j) (one_more i) e

pub with_there : (ls : List Literal) (a : ℕ) (path : List ℕ) (new : Tree) (i : ℕ) (l : Literal) (m n all : Measure) → i < length ls → l ≡ slice_index_or ls i l → (i ≡ a → ⊥)
    → m ≡ with_so_far ls a path new i → n ≡ measured (tree_of l.atom) → all ≡ beside m n → all ≡ with_so_far ls a path new (i + 1)
with_there ls a path new i l m n all h at d before one is =
    let put = replaced (atom_at (map literal_of ls) a) path new in
    literal_beside (take i (with_atom (map literal_of ls) a put)) (literal_of l) m n all before one is
    ∙ ap clause_measured (sym (next_there ls a i l put h at d)) ∙ ap (with_so_far ls a path new) (one_more i)

pub with_all : (ls : List Literal) (c : ClauseTree) (a : ℕ) (path : List ℕ) (new : Tree) (i : ℕ) (m : Measure) → length ls ≤ i → map literal_of ls ≡ c → m ≡ with_so_far ls a path new i → m ≡ clause_measured (with_part c a path new)
with_all ls c a path new i m h view is =
    let count : length (with_part (map literal_of ls) a path new) ≡ length (map literal_of ls) = with_atom_length (map literal_of ls) a (replaced (atom_at (map literal_of ls) a) path new) in
    let same : length (map literal_of ls) ≡ length ls = length-map ls literal_of in
    is ∙ ap clause_measured (take_all i (with_part (map literal_of ls) a path new) (omega (arith, count, same, h))) ∙ ap (λ d. clause_measured (with_part d a path new)) view

-- a term put in makes a clause larger by its own size at most
mutual
  put_larger : (t : Tree) (path : List ℕ) (new : Tree) → size_of (replaced t path new) ≤ size_of t + size_of new
  put_larger t [] new = omega arith
  put_larger (var x) (k ∷ path) new = omega arith
  put_larger (elem n) (k ∷ path) new = omega arith
  put_larger (app f ts) (k ∷ path) new = let part = put_larger_all ts k path new in omega (arith, part)

  put_larger_all : (ts : Trees) (k : ℕ) (path : List ℕ) (new : Tree) → sizes_of (with_argument (λ u. replaced u path new) ts k) ≤ sizes_of ts + size_of new
  put_larger_all none k path new = omega arith
  put_larger_all (more t ts) k path new = by (k == 1) (put_larger t path new) (put_larger_all ts (k - 1) path new)
    where
      by : (b : Bool) → size_of (replaced t path new) ≤ size_of t + size_of new → sizes_of (with_argument (λ u. replaced u path new) ts (k - 1)) ≤ sizes_of ts + size_of new
          → sizes_of (if b then more (replaced t path new) ts else more t (with_argument (λ u. replaced u path new) ts (k - 1))) ≤ sizes_of (more t ts) + size_of new
      by true h g = omega (arith, h)
      by false h g = omega (arith, g)

clause_larger : (c : ClauseTree) (a : ℕ) (path : List ℕ) (new : Tree) → clause_size (with_part c a path new) ≤ clause_size c + size_of new
clause_larger [] a path new = omega arith
clause_larger (l ∷ c) zero path new = let part = put_larger l.atom path new in omega (arith, part)
clause_larger (l ∷ c) (suc a) path new = let rest = clause_larger c a path new in omega (arith, rest)

mutual
  levels_few : (t : Tree) → depth_of t ≤ size_of t
  levels_few (var x) = omega arith
  levels_few (elem n) = omega arith
  levels_few (app f ts) = let rest = levels_few_all ts in omega (arith, rest)

  levels_few_all : (ts : Trees) → depths_of ts ≤ sizes_of ts
  levels_few_all none = omega arith
  levels_few_all (more t ts) = let one = levels_few t in let rest = levels_few_all ts in omega (arith, one, rest)

clause_levels : (c : ClauseTree) → clause_depth c ≤ clause_size c
clause_levels [] = omega arith
clause_levels (l ∷ c) = let one = levels_few l.atom in let rest = clause_levels c in omega (arith, one, rest)

pub stays_small : (c : ClauseTree) (u : Tree) (left n : ℕ) (a : ℕ) (path : List ℕ) → left + clause_size c ≡ 1000 → n ≡ saturated (size_of u) → n ≤ left → is_too_large (with_part c a path u) ≡ false
stays_small c u left n a path room is le =
    let larger = clause_larger c a path u in
    let levels = clause_levels (with_part c a path u) in
    ap₂ (λ x y. x || y) (le-ltb 1000 (clause_depth (with_part c a path u)) (omega (arith, larger, levels, room, is, le))) (le-ltb 1000000 (clause_size (with_part c a path u)) (omega (arith, larger, room, is, le)))
