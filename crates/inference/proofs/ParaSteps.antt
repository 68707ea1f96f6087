-- Paramodulation: what has to be equal, and what is left.
use Rattle.std.proofs.Common.{◌≡◌, ℕ, zero, suc, ◌-◌, Bool, true, false, not, ◌==◌, ◌&&◌, ◌||◌, if◌then◌else◌, IsTrue, List, [], ◌∷◌, ◌++◌, Option, Some, None, refl, sym, ap, ap₂, ◌∙◌}
use Rattle.std.specs.Borrow.{Bor}
use Rattle.std.specs.Option.{option_and_then, option_map, unwrap_or}
use Rattle.std.proofs.lemmas.Bool.{true≢false, and_from, and_right}
use Rattle.fol_core.specs.Literals.{ClauseTree, literal}
use Rattle.fol_core.specs.Substitutions.{Substitution, substitute, substitute_all}
use Rattle.fol_core.specs.TermView.{tree_of}
use Rattle.fol_core.specs.declared.term.Term.{Term}
use Rattle.fol_core.specs.Tree.{Tree, var, elem, app, Trees, none, more}
use Rattle.substitutions.specs.Apart.{Own, interleaved, apart_of}
use Rattle.substitutions.specs.Instances.{substitute_clause, substitute_literal}
use Rattle.substitutions.specs.Paths.{argument, replaced, subterm_at, with_argument}
use Rattle.derivation.specs.Equations.{below, is_equation, is_no_variable, left_of, right_of, term_below}
use Rattle.derivation.specs.Places.{atom_at, has_literal, has_place, others, with_atom}
use Rattle.derivation.specs.Sides.{AreSides}
use Rattle.derivation.specs.Words.{other_side_of, para_rule, side_of}
use Rattle.derivation.proofs.LaterSound.{left_put, right_put}
use Rattle.derivation.proofs.Lawful.{para_parts}
use Rattle.derivation.proofs.Naturality.{atom_at_put, atom_of_put, below_put, others_put, there_below}
use Rattle.inference.specs.Left.{ChangeTree, LeftTree, Leaves, all_whole, changed, changed_all, changed_left, left_clause, with_change}
use Rattle.inference.proofs.RuleSteps.{left_beside, whole_put}

-- where the path is there, it is the instance that is changed
mutual
  pub changed_there : (s : Substitution) (t : Tree) (path : List ℕ) (new u : Tree) → subterm_at t path ≡ Some u → changed s t path new ≡ replaced (substitute s t) path new
  changed_there s t [] new u h = refl
  changed_there s (var x) (k ∷ path) new u h = cc
  changed_there s (elem n) (k ∷ path) new u h = refl
  changed_there s (app f ts) (k ∷ path) new u h = ap (app f) (all_there s ts k path new u h)

  all_there : (s : Substitution) (ts : Trees) (k : ℕ) (path : List ℕ) (new u : Tree) → option_and_then (λ v. subterm_at v path) (argument ts k) ≡ Some u
      → changed_all s ts k path new ≡ with_argument (λ v. replaced v path new) (substitute_all s ts) k
  all_there s none k path new u h = refl
  all_there s (more t ts) k path new u h = by (k == 1) h (λ e. changed_there s t path new u e) (λ e. all_there s ts (k - 1) path new u e)
    where
      by : (b : Bool) → option_and_then (λ v. subterm_at v path) (if b then Some t else argument ts (k - 1)) ≡ Some u
          → (subterm_at t path ≡ Some u → changed s t path new ≡ replaced (substitute s t) path new)
          → (option_and_then (λ v. subterm_at v path) (argument ts (k - 1)) ≡ Some u → changed_all s ts (k - 1) path new ≡ with_argument (λ v. replaced v path new) (substitute_all s ts) (k - 1))
          → (if b then more (changed s t path new) (substitute_all s ts) else more (substitute s t) (changed_all s ts (k - 1) path new))
          ≡ (if b then more (replaced (substitute s t) path new) (substitute_all s ts) else more (substitute s t) (with_argument (λ v. replaced v path new) (substitute_all s ts) (k - 1)))
      by true e here behind = ap (λ v. more v (substitute_all s ts)) (here e)
      by false e here behind = ap (more (substitute s t)) (behind e)

changed_below : (s : Substitution) (t : Tree) (path : List ℕ) (new u : Tree) → below t path ≡ Some u → changed s t path new ≡ replaced (substitute s t) path new
changed_below s t [] new u h = refl
changed_below s t (k ∷ path) new u h = changed_there s t (k ∷ path) new u h

changed_put : (own : Own) (k : ℕ) (d : ClauseTree) (b : ℕ) (c : ChangeTree) → left_clause own (changed_left k d b c) ≡ with_atom (substitute_clause (own k) d) b (with_change own k (atom_at d b) c)
changed_put own k [] b c = refl
changed_put own k (l ∷ d) zero c = ap (λ e. literal l.positive (with_change own k l.atom c) ∷ e) (whole_put own k d)
changed_put own k (l ∷ d) (suc b) c = ap (λ e. substitute_literal (own k) l ∷ e) (changed_put own k d b c)

-- sides of instances
side_put : (u : Substitution) (n : ℕ) (t : Tree) → IsTrue (is_equation t) → side_of n (substitute u t) ≡ substitute u (side_of n t)
side_put u n t h = by (n == 1)
  where
    by : (b : Bool) → (if b then left_of (substitute u t) else right_of (substitute u t)) ≡ substitute u (if b then left_of t else right_of t)
    by true = left_put u t h
    by false = right_put u t h

other_side_put : (u : Substitution) (n : ℕ) (t : Tree) → IsTrue (is_equation t) → other_side_of n (substitute u t) ≡ substitute u (other_side_of n t)
other_side_put u n t h = by (n == 1)
  where
    by : (b : Bool) → (if b then right_of (substitute u t) else left_of (substitute u t)) ≡ substitute u (if b then right_of t else left_of t)
    by true = right_put u t h
    by false = left_put u t h

-- a term at a path that a search for it finds or misses
pub none_below : (o : Option (Bor Term)) (x y : Tree) (p q : List ℕ) → option_map (λ (t : Bor Term). tree_of t.now) o ≡ below x p → o ≡ None → x ≡ y → p ≡ q → below y q ≡ None
none_below o x y p q is missed e f = sym (ap₂ below e f) ∙ sym is ∙ ap (option_map (λ (t : Bor Term). tree_of t.now)) missed

pub some_below : (o : Option (Bor Term)) (t : Bor Term) (x y : Tree) (p : List ℕ) → option_map (λ (t : Bor Term). tree_of t.now) o ≡ below x p → o ≡ Some t → x ≡ y → below y p ≡ Some (tree_of t.now)
some_below o t x y p is some e = sym (ap (λ z. below z p) e) ∙ sym is ∙ ap (option_map (λ (t : Bor Term). tree_of t.now)) some

pub para_leaves : (a n b : ℕ) (path : List ℕ) (c d : ClauseTree) (other : Tree) (old one all : List LeftTree) → IsTrue ((para_rule a n b path).fits (c ∷ d ∷ [])) → other ≡ other_side_of n (atom_at c a) → old ≡ []
    → one ≡ old ++ changed_left 1 d b (record { path = path; parent = 0; term = other }) → all ≡ one ++ all_whole 0 (others (λ k. k == a) c) → Leaves (para_rule a n b path) (c ∷ d ∷ []) all
para_leaves a n b path c d other old one all fits side empty first is = λ own.
    let p = para_parts a n b path c d fits in
    let change : ChangeTree = record { path = path; parent = 0; term = other } in
    let rest = others (λ k. k == a) c in
    let new : substitute (own 0) other ≡ other_side_of n (atom_at (substitute_clause (own 0) c) a) =
    ap (substitute (own 0)) side ∙ sym (other_side_put (own 0) n (atom_at c a) p.equal) ∙ ap (other_side_of n) (sym (atom_of_put (own 0) true c a p.positive)) in
    ap (left_clause own) (is ∙ ap (λ (ls : List LeftTree). ls ++ all_whole 0 rest) (first ∙ ap (λ (o : List LeftTree). o ++ changed_left 1 d b change) empty))
    ∙ left_beside own (changed_left 1 d b change) (all_whole 0 rest)
    ∙ ap₂ (λ (x y : ClauseTree). x ++ y)
    (changed_put own 1 d b change
    ∙ ap (with_atom (substitute_clause (own 1) d) b)
    (changed_below (own 1) (atom_at d b) path (substitute (own 0) other) (term_below (atom_at d b) path) (there_below (atom_at d b) path p.there)
    ∙ ap₂ (λ x y. replaced x path y) (sym (atom_at_put (own 1) d b p.place)) new))
    (whole_put own 0 rest ∙ sym (others_put (own 0) (λ k. k == a) c))

-- a side of the one and a term of the other
abbrev pub pair_of_two : ℕ → Tree → Tree → Tree × Tree
pair_of_two n s t = (substitute (interleaved n 0) s, substitute (interleaved n 1) t)

pub para_pairs : (a side b : ℕ) (path : List ℕ) (c d : ClauseTree) (n : ℕ) (s t : Tree) (old new : List (Tree × Tree)) → IsTrue ((para_rule a side b path).fits (c ∷ d ∷ [])) → s ≡ side_of side (atom_at c a) → below (atom_at d b) path ≡ Some t
    → n ≡ 2 → old ≡ [] → new ≡ old ++ pair_of_two n s t ∷ [] → new ≡ (para_rule a side b path).pairs (apart_of (c ∷ d ∷ []))
para_pairs a side b path c d n s t old new fits from there many empty is =
    let p = para_parts a side b path c d fits in
    let u : Substitution = interleaved 2 0 in
    let v : Substitution = interleaved 2 1 in
    is ∙ ap₂ (λ (o : List (Tree × Tree)) m. o ++ pair_of_two m s t ∷ []) empty many
    ∙ ap₂ (λ x y. (x, y) ∷ [])
    (ap (substitute u) from ∙ sym (side_put u side (atom_at c a) p.equal) ∙ ap (side_of side) (sym (atom_of_put u true c a p.positive)))
    (sym (ap (λ o. unwrap_or o (var 0)) (ap (λ x. below x path) (atom_at_put v d b p.place) ∙ below_put v (atom_at d b) path t there)))

-- the places and the side that it takes
place_there : (c : ClauseTree) (b : ℕ) (path : List ℕ) (t : Tree) → below (atom_at c b) path ≡ Some t → IsTrue (has_place c b)
place_there [] b [] t h = cc
place_there [] b (k ∷ path) t h = cc
place_there (l ∷ c) zero path t h = by l.positive
  where
    by : (sign : Bool) → IsTrue (sign || not sign)
    by true = refl
    by false = refl
place_there (l ∷ c) (suc b) path t h = place_there c b path t h

-- the side that is put in
pub other_is : (n : ℕ) (t l r u : Tree) → u ≡ (if n == 1 then r else l) → AreSides t l r → u ≡ other_side_of n t
other_is n t l r u is sides = is ∙ ap₂ (λ x y. if n == 1 then x else y) sides.right_is sides.left_is

pub side_is : (n : ℕ) (t l r u : Tree) → u ≡ (if n == 1 then l else r) → AreSides t l r → u ≡ side_of n t
side_is n t l r u is sides = is ∙ ap₂ (λ x y. if n == 1 then x else y) sides.left_is sides.right_is

abbrev pub takes : Bool → Bool → Bool → Bool → Bool → Bool
takes x y z v w = x && (y && (z && (v && w)))

takes_first : (x y z v w : Bool) → x ≡ false → takes x y z v w ≡ false
takes_first x y z v w h = ap (λ b. takes b y z v w) h

takes_second : (x y z v w : Bool) → y ≡ false → takes x y z v w ≡ false
takes_second x y z v w h = and_right x (y && (z && (v && w))) (ap (λ b. b && (z && (v && w))) h)

takes_third : (x y z v w : Bool) → z ≡ false → takes x y z v w ≡ false
takes_third x y z v w h = takes_more x y (z && (v && w)) (ap (λ b. b && (v && w)) h)
  where
    takes_more : (x y r : Bool) → r ≡ false → (x && (y && r)) ≡ false
    takes_more x y r e = and_right x (y && r) (and_right y r e)

takes_fourth : (x y z v w : Bool) → v ≡ false → takes x y z v w ≡ false
takes_fourth x y z v w h = and_right x (y && (z && (v && w))) (and_right y (z && (v && w)) (and_right z (v && w) (ap (λ b. b && w) h)))

takes_fifth : (x y z v w : Bool) → w ≡ false → takes x y z v w ≡ false
takes_fifth x y z v w h = and_right x (y && (z && (v && w))) (and_right y (z && (v && w)) (and_right z (v && w) (and_right v w h)))

left_false : (x y : Bool) → (x || y) ≡ false → x ≡ false
left_false true y h = absurd (true≢false h)
left_false false y h = refl

module _ (a n b : ℕ) (path : List ℕ) (c d : ClauseTree) where
  pub no_literal : has_literal true c a ≡ false → (para_rule a n b path).fits (c ∷ d ∷ []) ≡ false
  no_literal h = takes_first (has_literal true c a) (is_equation (atom_at c a)) (n == 1 || n == 2) (has_place d b) (is_no_variable (below (atom_at d b) path)) h

  pub no_literal_there : has_place c a ≡ false → (para_rule a n b path).fits (c ∷ d ∷ []) ≡ false
  no_literal_there h = no_literal (left_false (has_literal true c a) (has_literal false c a) h)

  pub no_equation : (t : Tree) → t ≡ atom_at c a → is_equation t ≡ false → (para_rule a n b path).fits (c ∷ d ∷ []) ≡ false
  no_equation t is h = takes_second (has_literal true c a) (is_equation (atom_at c a)) (n == 1 || n == 2) (has_place d b) (is_no_variable (below (atom_at d b) path)) (ap is_equation (sym is) ∙ h)

  pub no_side_number : (n == 1 || n == 2) ≡ false → (para_rule a n b path).fits (c ∷ d ∷ []) ≡ false
  no_side_number h = takes_third (has_literal true c a) (is_equation (atom_at c a)) (n == 1 || n == 2) (has_place d b) (is_no_variable (below (atom_at d b) path)) h

  pub no_place : has_place d b ≡ false → (para_rule a n b path).fits (c ∷ d ∷ []) ≡ false
  no_place h = takes_fourth (has_literal true c a) (is_equation (atom_at c a)) (n == 1 || n == 2) (has_place d b) (is_no_variable (below (atom_at d b) path)) h

  pub no_term : (o : Option Tree) → below (atom_at d b) path ≡ o → is_no_variable o ≡ false → (para_rule a n b path).fits (c ∷ d ∷ []) ≡ false
  no_term o is h = takes_fifth (has_literal true c a) (is_equation (atom_at c a)) (n == 1 || n == 2) (has_place d b) (is_no_variable (below (atom_at d b) path)) (ap is_no_variable is ∙ h)

  pub all_there_is : (t s l r : Tree) → IsTrue (has_literal true c a) → s ≡ atom_at c a → AreSides s l r → IsTrue (n == 1 || n == 2) → below (atom_at d b) path ≡ Some t → is_no_variable (Some t) ≡ true
      → IsTrue ((para_rule a n b path).fits (c ∷ d ∷ []))
  all_there_is t s l r literal is sides side there term =
      and_from (has_literal true c a) (is_equation (atom_at c a) && ((n == 1 || n == 2) && (has_place d b && is_no_variable (below (atom_at d b) path)))) literal
      (and_from (is_equation (atom_at c a)) ((n == 1 || n == 2) && (has_place d b && is_no_variable (below (atom_at d b) path))) (ap is_equation (sym is) ∙ sides.equal)
      (and_from (n == 1 || n == 2) (has_place d b && is_no_variable (below (atom_at d b) path)) side
      (and_from (has_place d b) (is_no_variable (below (atom_at d b) path)) (place_there d b path t there) (ap is_no_variable there ∙ term))))
