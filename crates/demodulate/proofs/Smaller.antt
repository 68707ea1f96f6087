-- What rewriting and putting in order makes of a clause that isn't too large isn't too large.
use Rattle.std.proofs.Common.{◌≡◌, ℕ, suc, zero, ◌+◌, ◌≤◌, Bool, true, false, ◌||◌, nat_lt, max, if◌then◌else◌, List, [], ◌∷◌, ◌++◌, Option, Some, None, map, refl, sym, ap, ap₂, subst, arith}
use Rattle.std.proofs.lemmas.Bool.{and_parts, le-ltb, ltb-false}
use Rattle.std.specs.Option.{option_map_or}
use Rattle.fol_core.specs.Literals.{Lit, literal, ClauseTree}
use Rattle.fol_core.specs.Renumbered.{clause_variables, by_place, renumbered}
use Rattle.fol_core.specs.Sizes.{size_of, sizes_of, depth_of, depths_of}
use Rattle.fol_core.specs.Substitutions.{substitute, substitute_all}
use Rattle.fol_core.specs.Tree.{Tree, var, elem, app, Trees, none, more}
use Rattle.derivation.specs.Equations.{equation, is_equation, left_of, right_of}
use Rattle.derivation.specs.Later.{LaterWord, flipped}
use Rattle.prover_steps.specs.Clashing.{Held}
use Rattle.prover_steps.specs.Rewriting.{Simplified, simplified, then_word, clause_step, normal_form}
use Rattle.prover_steps.specs.Searching.{clause_size, clause_depth, is_too_large}
use Rattle.prover_steps.specs.Shortening.{is_turned, flips_from, left_out, is_merged, is_left_out, is_denied, followed_by, put_in_order}

-- so many symbols and variables, and so many levels, at most
abbrev pub IsAtMost : ℕ → ℕ → ClauseTree → Type 0
IsAtMost n m c = (clause_size c ≤ n) × (clause_depth c ≤ m)

small_at_most : (c : ClauseTree) → is_too_large c ≡ false → IsAtMost 1000000 1000 c
small_at_most c h = by (nat_lt 1000 (clause_depth c)) refl (nat_lt 1000000 (clause_size c)) refl h
  where
    by : (a : Bool) → nat_lt 1000 (clause_depth c) ≡ a → (b : Bool) → nat_lt 1000000 (clause_size c) ≡ b → (a || b) ≡ false → IsAtMost 1000000 1000 c
    by true e b f h = cc
    by false e true f h = cc
    by false e false f h = (ltb-false 1000000 (clause_size c) f, ltb-false 1000 (clause_depth c) e)

at_most_small : (c : ClauseTree) → IsAtMost 1000000 1000 c → is_too_large c ≡ false
at_most_small c h = ap₂ (λ a b. a || b) (le-ltb 1000 (clause_depth c) h.1) (le-ltb 1000000 (clause_size c) h.0)

-- rewriting tests each step
normal_small : (rules : List Held) (k : ℕ) (c : ClauseTree) → is_too_large c ≡ false → is_too_large (normal_form is_too_large rules k c).clause ≡ false
normal_small rules zero c h = h
normal_small rules (suc k) c h = by (clause_step rules 0 c) (normal_small rules k)
  where
    taken : (w : LaterWord) (b : ClauseTree) (large : Bool) → is_too_large b ≡ large → (is_too_large b ≡ false → is_too_large (normal_form is_too_large rules k b).clause ≡ false)
        → is_too_large (if large then simplified c [] else then_word w (normal_form is_too_large rules k b)).clause ≡ false
    taken w b true e rest = h
    taken w b false e rest = rest e

    by : (o : Option (LaterWord × ClauseTree)) → ((b : ClauseTree) → is_too_large b ≡ false → is_too_large (normal_form is_too_large rules k b).clause ≡ false)
        → is_too_large (option_map_or (λ s. if is_too_large s.1 then simplified c [] else then_word s.0 (normal_form is_too_large rules k s.1)) o (simplified c [])).clause ≡ false
    by None rest = h
    by (Some s) rest = taken s.0 s.1 (is_too_large s.1) refl (rest s.1)

-- sides exchanged
turned_size : (t : Tree) → is_equation t ≡ true → size_of (equation (right_of t) (left_of t)) ≡ size_of t
turned_size (var x) h = cc
turned_size (elem k) h = cc
turned_size (app f none) h = cc
turned_size (app f (more s none)) h = cc
turned_size (app f (more s (more t none))) h = omega arith
turned_size (app f (more s (more t (more u ts)))) h = cc

turned_depth : (t : Tree) → is_equation t ≡ true → depth_of (equation (right_of t) (left_of t)) ≡ depth_of t
turned_depth (var x) h = cc
turned_depth (elem k) h = cc
turned_depth (app f none) h = cc
turned_depth (app f (more s none)) h = cc
turned_depth (app f (more s (more t none))) h = omega arith
turned_depth (app f (more s (more t (more u ts)))) h = cc

flips_at_most : (greater : Tree → Tree → Bool) (a : ℕ) (c : ClauseTree) → (clause_size (flips_from greater a c).clause ≡ clause_size c) × (clause_depth (flips_from greater a c).clause ≡ clause_depth c)
flips_at_most greater a [] = (refl, refl)
flips_at_most greater a (l ∷ c) = by (is_turned greater l) refl (flips_at_most greater (suc a) c)
  where
    rest : Simplified
    rest = flips_from greater (suc a) c

    flipped_clause : Bool → ClauseTree
    flipped_clause b =
        (if b then simplified (literal l.positive (equation (right_of l.atom) (left_of l.atom)) ∷ rest.clause) (flipped a ∷ rest.words) else simplified (l ∷ rest.clause) rest.words).clause

    by : (b : Bool) → is_turned greater l ≡ b → (clause_size rest.clause ≡ clause_size c) × (clause_depth rest.clause ≡ clause_depth c)
        → (clause_size (flipped_clause b) ≡ size_of l.atom + clause_size c) × (clause_depth (flipped_clause b) ≡ max (depth_of l.atom) (clause_depth c))
    by true h (size, depth) =
        (ap₂ (λ x y. x + y) (turned_size l.atom (and_parts _ _ h).0) size, ap₂ (λ x y. max x y) (turned_depth l.atom (and_parts _ _ h).0) depth)
    by false h (size, depth) = (ap (λ x. size_of l.atom + x) size, ap (λ x. max (depth_of l.atom) x) depth)

-- literals left out
appended_size : (c d : ClauseTree) → clause_size (c ++ d) ≡ clause_size c + clause_size d
appended_size [] d = omega arith
appended_size (l ∷ c) d = let rest : clause_size (c ++ d) ≡ clause_size c + clause_size d = appended_size c d in omega (arith, rest)

appended_depth : (c d : ClauseTree) → clause_depth (c ++ d) ≡ max (clause_depth c) (clause_depth d)
appended_depth [] d = omega arith
appended_depth (l ∷ c) d = let rest : clause_depth (c ++ d) ≡ max (clause_depth c) (clause_depth d) = appended_depth c d in omega (arith, rest)

left_out_at_most : (out : ClauseTree → Lit → Option LaterWord) (n m : ℕ) (done c : ClauseTree) → clause_size done + clause_size c ≤ n → max (clause_depth done) (clause_depth c) ≤ m → IsAtMost n m (left_out out done c).clause
left_out_at_most out n m done [] size depth = (omega (arith, size), omega (arith, depth))
left_out_at_most out n m done (l ∷ c) size depth =
    let longer : clause_size (done ++ l ∷ []) ≡ clause_size done + (size_of l.atom + 0) = appended_size done (l ∷ []) in
    let deeper : clause_depth (done ++ l ∷ []) ≡ max (clause_depth done) (max (depth_of l.atom) 0) = appended_depth done (l ∷ []) in
    by (out done l) (left_out_at_most out n m done c (omega (arith, size)) (omega (arith, depth))) (left_out_at_most out n m (done ++ l ∷ []) c (omega (arith, size, longer)) (omega (arith, depth, deeper)))
  where
    by : (o : Option LaterWord) → IsAtMost n m (left_out out done c).clause → IsAtMost n m (left_out out (done ++ l ∷ []) c).clause
        → IsAtMost n m (option_map_or (λ w. then_word w (left_out out done c)) o (left_out out (done ++ l ∷ []) c)).clause
    by None gone stays = stays
    by (Some w) gone stays = gone

passed_at_most : (out : ClauseTree → Lit → Option LaterWord) (n m : ℕ) (c : ClauseTree) → IsAtMost n m c → IsAtMost n m (left_out out [] c).clause
passed_at_most out n m c h = left_out_at_most out n m [] c (let size = h.0 in omega (arith, size)) (let depth = h.1 in omega (arith, depth))

order_at_most : (greater : Tree → Tree → Bool) (units : Bool) (held : List Held) (n m : ℕ) (c : ClauseTree) → IsAtMost n m c → IsAtMost n m (put_in_order greater units held c).clause
order_at_most greater units held n m c h = by units
  where
    flips : (clause_size (flips_from greater 0 c).clause ≡ clause_size c) × (clause_depth (flips_from greater 0 c).clause ≡ clause_depth c)
    flips = flips_at_most greater 0 c

    turned : IsAtMost n m (flips_from greater 0 c).clause
    turned = (subst (λ k. k ≤ n) (sym flips.0) h.0, subst (λ k. k ≤ m) (sym flips.1) h.1)

    shortened : IsAtMost n m (left_out is_left_out [] (left_out is_merged [] (flips_from greater 0 c).clause).clause).clause
    shortened = passed_at_most is_left_out n m _ (passed_at_most is_merged n m _ turned)

    by : (b : Bool) → IsAtMost n m (put_in_order greater b held c).clause
    by true = passed_at_most (is_denied held) n m _ shortened
    by false = shortened

-- variables put in for variables
module _ (xs : List ℕ) where
  mutual
    same_size : (t : Tree) → size_of (substitute (by_place xs) t) ≡ size_of t
    same_size (var x) = refl
    same_size (elem k) = refl
    same_size (app f ts) = ap (λ n. n + 1) (same_sizes ts)

    same_sizes : (ts : Trees) → sizes_of (substitute_all (by_place xs) ts) ≡ sizes_of ts
    same_sizes none = refl
    same_sizes (more t ts) = ap₂ (λ a b. a + b) (same_size t) (same_sizes ts)

  mutual
    same_depth : (t : Tree) → depth_of (substitute (by_place xs) t) ≡ depth_of t
    same_depth (var x) = refl
    same_depth (elem k) = refl
    same_depth (app f ts) = ap (λ n. n + 1) (same_depths ts)

    same_depths : (ts : Trees) → depths_of (substitute_all (by_place xs) ts) ≡ depths_of ts
    same_depths none = refl
    same_depths (more t ts) = ap₂ (λ a b. max a b) (same_depth t) (same_depths ts)

  placed_size : (c : ClauseTree) → clause_size (map (λ l. literal l.positive (substitute (by_place xs) l.atom)) c) ≡ clause_size c
  placed_size [] = refl
  placed_size (l ∷ c) = ap₂ (λ a b. a + b) (same_size l.atom) (placed_size c)

  placed_depth : (c : ClauseTree) → clause_depth (map (λ l. literal l.positive (substitute (by_place xs) l.atom)) c) ≡ clause_depth c
  placed_depth [] = refl
  placed_depth (l ∷ c) = ap₂ (λ a b. max a b) (same_depth l.atom) (placed_depth c)

pub tidied_small : (greater : Tree → Tree → Bool) (units : Bool) (rules held : List Held) (k : ℕ) (c : ClauseTree) → is_too_large c ≡ false
    → is_too_large (renumbered (followed_by (normal_form is_too_large rules k c) (put_in_order greater units held)).clause) ≡ false
tidied_small greater units rules held k c h =
    let d : ClauseTree = (put_in_order greater units held (normal_form is_too_large rules k c).clause).clause in
    let small : IsAtMost 1000000 1000 d = order_at_most greater units held 1000000 1000 (normal_form is_too_large rules k c).clause (small_at_most (normal_form is_too_large rules k c).clause (normal_small rules k c h)) in
    at_most_small (renumbered d) (subst (λ n. n ≤ 1000000) (sym (placed_size (clause_variables d) d)) small.0, subst (λ n. n ≤ 1000) (sym (placed_depth (clause_variables d) d)) small.1)
