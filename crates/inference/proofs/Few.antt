-- Few symbols stay few where no variable becomes many.
use Rattle.std.proofs.Common.{◌≡◌, ℕ, ◌+◌, ◌-◌, ◌*◌, ◌<◌, ◌≤◌, ◌==◌, Bool, true, false, if◌then◌else◌, List, [], ◌∷◌, ◌++◌, length, take, slice_index_or, Option, Some, None, sym, ap, ◌∙◌, arith}
use Rattle.std.specs.List.{sum_by}
use Rattle.std.specs.Option.{option_map_or}
use Rattle.std.proofs.lemmas.List.{map_more, take_all}
use Rattle.std.proofs.lemmas.List.Sums.{sum_by-cons, sum_by_push}
use Rattle.std.proofs.Math.Nat.{add-mul}
use Rattle.clause_limits.specs.Sizes.{clause_size, is_too_large}
use Rattle.clause_limits.proofs.Few.{few_enough}
use Rattle.fol_core.specs.Sizes.{size_of, sizes_of, saturated}
use Rattle.fol_core.specs.Substitutions.{Substitution, substitute, substitute_all}
use Rattle.fol_core.specs.Tree.{Tree, var, elem, app, Trees, none, more}
use Rattle.substitutions.specs.Apart.{Own}
use Rattle.inference.specs.Left.{ChangeTree, LeftTree, changed, changed_all, all_left, left_atom, left_clause, left_tree, symbols_lent}
use Rattle.inference.specs.declared.left.Left.{Left}
use Rattle.term_unifiers.specs.Renamed.{own_among}

-- no variable becomes more
abbrev pub AreFew : Substitution → ℕ → Type 0
AreFew s m = (x : ℕ) → size_of (s x) ≤ m

mutual
  put_few : (s : Substitution) (m : ℕ) → 1 ≤ m → AreFew s m → (t : Tree) → size_of (substitute s t) ≤ size_of t * m
  put_few s m one h (var x) = let e = h x in omega (arith, e)
  put_few s m one h (elem k) = omega (arith, one)
  put_few s m one h (app f ts) = let e = all_few s m one h ts in let d = add-mul (sizes_of ts) 1 m in omega (arith, one, e, d)

  all_few : (s : Substitution) (m : ℕ) → 1 ≤ m → AreFew s m → (ts : Trees) → sizes_of (substitute_all s ts) ≤ sizes_of ts * m
  all_few s m one h none = omega arith
  all_few s m one h (more t ts) =
      let e = put_few s m one h t in
      let f = all_few s m one h ts in
      let d = add-mul (size_of t) (sizes_of ts) m in
      omega (arith, e, f, d)

-- another term adds no more than its own
mutual
  changed_few : (s : Substitution) (m : ℕ) → 1 ≤ m → AreFew s m → (t : Tree) (path : List ℕ) (new : Tree) → size_of (changed s t path new) ≤ size_of t * m + size_of new
  changed_few s m one h t [] new = omega arith
  changed_few s m one h (var x) (k ∷ path) new = let e = h x in omega (arith, e)
  changed_few s m one h (elem n) (k ∷ path) new = omega (arith, one)
  changed_few s m one h (app f ts) (k ∷ path) new = let e = all_changed_few s m one h ts k path new in let d = add-mul (sizes_of ts) 1 m in omega (arith, one, e, d)

  all_changed_few : (s : Substitution) (m : ℕ) → 1 ≤ m → AreFew s m → (ts : Trees) (k : ℕ) (path : List ℕ) (new : Tree) → sizes_of (changed_all s ts k path new) ≤ sizes_of ts * m + size_of new
  all_changed_few s m one h none k path new = omega arith
  all_changed_few s m one h (more t ts) k path new = by (k == 1) (changed_few s m one h t path new) (all_changed_few s m one h ts (k - 1) path new)
    where
      by : (b : Bool) → size_of (changed s t path new) ≤ size_of t * m + size_of new → sizes_of (changed_all s ts (k - 1) path new) ≤ sizes_of ts * m + size_of new
          → sizes_of (if b then more (changed s t path new) (substitute_all s ts) else more (substitute s t) (changed_all s ts (k - 1) path new)) ≤ sizes_of (more t ts) * m + size_of new
      by true e g = let f = all_few s m one h ts in let d = add-mul (size_of t) (sizes_of ts) m in omega (arith, e, f, d)
      by false g f = let e = put_few s m one h t in let d = add-mul (size_of t) (sizes_of ts) m in omega (arith, e, f, d)

abbrev pub lent_of : LeftTree → ℕ
lent_of l = size_of l.literal.atom + option_map_or (λ (c : ChangeTree). size_of c.term) l.change 0

atom_few : (own : Own) (m : ℕ) → 1 ≤ m → ((k : ℕ) → AreFew (own k) m) → (l : LeftTree) (change : Option ChangeTree) → size_of (left_atom own l change) ≤ (size_of l.literal.atom + option_map_or (λ (c : ChangeTree). size_of c.term) change 0) * m
atom_few own m one h l None = let e = put_few (own l.parent) m one (h l.parent) l.literal.atom in let d = add-mul (size_of l.literal.atom) 0 m in omega (arith, e, d)
atom_few own m one h l (Some c) =
    let f = put_few (own c.parent) m one (h c.parent) c.term in
    let g = changed_few (own l.parent) m one (h l.parent) l.literal.atom c.path (substitute (own c.parent) c.term) in
    let d = add-mul (size_of l.literal.atom) (size_of c.term) m in
    omega (arith, f, g, d)

clause_few : (own : Own) (m : ℕ) → 1 ≤ m → ((k : ℕ) → AreFew (own k) m) → (ls : List LeftTree) → clause_size (left_clause own ls) ≤ sum_by lent_of ls * m
clause_few own m one h [] = omega arith
clause_few own m one h (l ∷ ls) =
    let e = atom_few own m one h l l.change in
    let f = clause_few own m one h ls in
    let d = add-mul (lent_of l) (sum_by lent_of ls) m in
    let g = sum_by-cons lent_of l ls in
    let n = ap (λ k. k * m) g in
    let whole : size_of (left_atom own l l.change) ≤ lent_of l * m = e in
    omega (arith, whole, f, d, n)

-- so the clause isn't too large
pub stay_few : (s : Substitution) (ls : List LeftTree) (few most product : ℕ) → few ≡ 1 + symbols_lent ls → product ≡ saturated (few * most) → product ≤ 1000 → 1 ≤ most → ((x : ℕ) → saturated (size_of (s x)) ≤ most)
    → (many : ℕ) → is_too_large (left_clause (own_among many s) ls) ≡ false
stay_few s ls few most product is was le one h many =
    let times : few * most ≡ 1 * most + symbols_lent ls * most = ap (λ n. n * most) is ∙ add-mul 1 (symbols_lent ls) most in
    let small : most ≤ 1000 = omega (arith, times, was, le) in
    let own : Own = own_among many s in
    let each : (k : ℕ) → AreFew (own k) most = λ k x. let e = h (x * many + k) in omega (arith, e, small) in
    let all : clause_size (left_clause own ls) ≤ symbols_lent ls * most = clause_few own most one each ls in
    let within : clause_size (left_clause own ls) ≤ 1000 = omega (arith, all, times, was, le) in
    sym (few_enough (left_clause own ls) 1000 1000000 (1000 - clause_size (left_clause own ls)) (omega (arith, within)))

-- one literal after the other
pub lent_next : (ls : List Left) (i : ℕ) (l : Left) → i < length ls → l ≡ slice_index_or ls i l → symbols_lent (all_left (take (i + 1) ls)) ≡ symbols_lent (all_left (take i ls)) + lent_of (left_tree l)
lent_next ls i l h at =
    ap symbols_lent (map_more left_tree ls i l h ∙ ap (λ k. all_left (take i ls) ++ left_tree k ∷ []) (sym at)) ∙ sum_by_push lent_of (all_left (take i ls)) (left_tree l)

pub lent_all : (ls : List Left) (i : ℕ) → length ls ≤ i → symbols_lent (all_left (take i ls)) ≡ symbols_lent (all_left ls)
lent_all ls i h = ap (λ ks. symbols_lent (all_left ks)) (take_all i ls h)
