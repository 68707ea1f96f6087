-- What the later words come to.
use Rattle.std.proofs.Common.{◌≡◌, ℕ, Bool, true, false, ◌&&◌, ◌==◌, IsTrue, List, [], ◌∷◌, length, Option, Some, None, is_some, refl, sym, ap, ◌∙◌, subst, arith}
use Rattle.std.specs.Borrow.{Bor}
use Rattle.std.specs.Option.{option_map}
use Rattle.std.proofs.lemmas.Bool.{and_from, and_left, and_right, false≢true}
use Rattle.fol_core.specs.Literals.{ClauseTree}
use Rattle.fol_core.specs.Substitutions.{Substitution, substitute}
use Rattle.fol_core.specs.Tree.{Tree}
use Rattle.substitutions.specs.Bindings.{Binding, by_bindings}
use Rattle.unifiers.specs.Matching.{matched, same_tree}
use Rattle.unifiers.proofs.MatchesFound.{match_found, match_makes, same_itself, tree_same}
use Rattle.derivation.specs.Equations.{below, equation, is_equation, is_there, left_of, right_of}
use Rattle.derivation.specs.Later.{IsRepeated, Leads, flipped, is_rule_equation, is_unit, later_fits, merged, reflexive, rewritten, unit_deleted}
use Rattle.derivation.specs.Places.{are_opposite, atom_at, has_literal, has_place, others, with_atom}
use Rattle.inference.specs.Followed.{AreRuleSides, FollowsAs, PutAs, exchanged, followed_put, is_rule_clause, with_part}
use Rattle.inference.specs.Lent.{lent_clauses}
use Rattle.inference.specs.declared.followed.Followed.TheVariants.{Misplaced, Differs, Done}
use Rattle.inference.specs.declared.underway.Put.{Put}
use Rattle.inference.specs.declared.underway.Put.TheVariants as put

-- the sides exchanged
pub flips_no_place : (x : ClauseTree → Bool) (a : ℕ) (c : ClauseTree) (ps : List ClauseTree) → has_place c a ≡ false → FollowsAs x (flipped a) c ps c Misplaced
flips_no_place x a c ps h = (and_left (has_place c a) (is_equation (atom_at c a)) h, refl)

pub flips_no_equation : (x : ClauseTree → Bool) (a : ℕ) (c : ClauseTree) (ps : List ClauseTree) → is_equation (atom_at c a) ≡ false → FollowsAs x (flipped a) c ps c Misplaced
flips_no_equation x a c ps h = (and_right (has_place c a) (is_equation (atom_at c a)) h, refl)

pub flips : (x : ClauseTree → Bool) (a : ℕ) (c d : ClauseTree) (ps : List ClauseTree) → IsTrue (has_place c a) → IsTrue (is_equation (atom_at c a)) → d ≡ with_atom c a (equation (right_of (atom_at c a)) (left_of (atom_at c a))) → FollowsAs x (flipped a) c ps d Done
flips x a c d ps h k is = (and_from (has_place c a) (is_equation (atom_at c a)) h k, is)

-- a literal that is repeated
pub merges_no_place : (x : ClauseTree → Bool) (a : ℕ) (c : ClauseTree) (ps : List ClauseTree) → has_place c a ≡ false → FollowsAs x (merged a) c ps c Misplaced
merges_no_place x a c ps h = (h, refl)

pub merges_not : (x : ClauseTree → Bool) (a : ℕ) (c : ClauseTree) (ps : List ClauseTree) → IsTrue (has_place c a) → (IsRepeated c a → ⊥) → FollowsAs x (merged a) c ps c Differs
merges_not x a c ps h never = (h, (λ e leads. never leads.0), refl)

pub merges : (x : ClauseTree → Bool) (a : ℕ) (c d : ClauseTree) (ps : List ClauseTree) → IsTrue (has_place c a) → IsRepeated c a → d ≡ others (λ k. k == a) c → FollowsAs x (merged a) c ps d Done
merges x a c d ps h repeated is = (h, (repeated, is))

-- an equation that is false of the same
pub drops_no_literal : (x : ClauseTree → Bool) (a : ℕ) (c : ClauseTree) (ps : List ClauseTree) → has_literal false c a ≡ false → FollowsAs x (reflexive a) c ps c Misplaced
drops_no_literal x a c ps h = (and_left (has_literal false c a) (is_equation (atom_at c a)) h, refl)

pub drops_no_equation : (x : ClauseTree → Bool) (a : ℕ) (c : ClauseTree) (ps : List ClauseTree) → is_equation (atom_at c a) ≡ false → FollowsAs x (reflexive a) c ps c Misplaced
drops_no_equation x a c ps h = (and_right (has_literal false c a) (is_equation (atom_at c a)) h, refl)

pub drops_not : (x : ClauseTree → Bool) (a : ℕ) (c : ClauseTree) (ps : List ClauseTree) → IsTrue (has_literal false c a) → IsTrue (is_equation (atom_at c a)) → same_tree (left_of (atom_at c a)) (right_of (atom_at c a)) ≡ false → FollowsAs x (reflexive a) c ps c Differs
drops_not x a c ps h k differ = (
  and_from (has_literal false c a) (is_equation (atom_at c a)) h k,
  (λ e leads. false≢true (sym differ ∙ subst (λ t. IsTrue (same_tree (left_of (atom_at c a)) t)) leads.0 (same_itself (left_of (atom_at c a))))),
  refl,
)

pub drops : (x : ClauseTree → Bool) (a : ℕ) (c d : ClauseTree) (ps : List ClauseTree) → IsTrue (has_literal false c a) → IsTrue (is_equation (atom_at c a)) → IsTrue (same_tree (left_of (atom_at c a)) (right_of (atom_at c a))) → d ≡ others (λ k. k == a) c
    → FollowsAs x (reflexive a) c ps d Done
drops x a c d ps h k same is = (and_from (has_literal false c a) (is_equation (atom_at c a)) h k, (tree_same (left_of (atom_at c a)) (right_of (atom_at c a)) same, is))

-- matches that are found or not
some_match : (o : Option (List Binding)) → is_some o ≡ true → (bs : List Binding) × (o ≡ Some bs)
some_match None h = absurd (false≢true h)
some_match (Some bs) h = (bs, refl)

no_match : (s t : Tree) → is_some (matched s t []) ≡ false → (u : Substitution) → substitute u s ≡ t → ⊥
no_match s t h u is = let found = match_found s t u is in false≢true (sym h ∙ ap is_some found.1)

-- a unit
pub unit_is : (c : ClauseTree) → length c ≡ 1 → is_unit c ≡ true
unit_is [] h = absurd (omega (arith, h))
unit_is (l ∷ []) h = refl
unit_is (l ∷ k ∷ c) h = absurd (omega (arith, h))

pub unit_not : (c : ClauseTree) → (length c ≡ 1 → ⊥) → is_unit c ≡ false
unit_not [] h = refl
unit_not (l ∷ []) h = absurd (h refl)
unit_not (l ∷ k ∷ c) h = refl

-- a literal that an instance of a unit denies
pub deletes_no_unit : (x : ClauseTree → Bool) (a n : ℕ) (c u : ClauseTree) → (length u ≡ 1 → ⊥) → FollowsAs x (unit_deleted a n) c (u ∷ []) c Misplaced
deletes_no_unit x a n c u h = (and_left (is_unit u) (are_opposite c a u 0) (unit_not u h), refl)

pub deletes_no_literal : (x : ClauseTree → Bool) (a n : ℕ) (c u : ClauseTree) → are_opposite c a u 0 ≡ false → FollowsAs x (unit_deleted a n) c (u ∷ []) c Misplaced
deletes_no_literal x a n c u h = (and_right (is_unit u) (are_opposite c a u 0) h, refl)

pub deletes_not : (x : ClauseTree → Bool) (a n : ℕ) (c u : ClauseTree) (t : Tree) → length u ≡ 1 → IsTrue (are_opposite c a u 0) → t ≡ atom_at u 0 → is_some (matched t (atom_at c a) []) ≡ false → FollowsAs x (unit_deleted a n) c (u ∷ []) c Differs
deletes_not x a n c u t one opposite at h = (
  and_from (is_unit u) (are_opposite c a u 0) (unit_is u one) opposite,
  (λ e leads. no_match t (atom_at c a) h leads.0.0 (ap (substitute leads.0.0) at ∙ leads.0.1)),
  refl,
)

pub deletes : (x : ClauseTree → Bool) (a n : ℕ) (c d u : ClauseTree) (t : Tree) → length u ≡ 1 → IsTrue (are_opposite c a u 0) → t ≡ atom_at u 0 → is_some (matched t (atom_at c a) []) ≡ true → d ≡ others (λ k. k == a) c → FollowsAs x (unit_deleted a n) c (u ∷ []) d Done
deletes x a n c d u t one opposite at h is =
    let found = some_match (matched t (atom_at c a) []) h in (
      and_from (is_unit u) (are_opposite c a u 0) (unit_is u one) opposite,
      ((by_bindings found.0, ap (substitute (by_bindings found.0)) (sym at) ∙ match_makes t (atom_at c a) found.0 found.1), is),
    )

-- other numbers of clauses
pub no_units : (x : ClauseTree → Bool) (a n : ℕ) (c : ClauseTree) (ps : List (Bor ClauseTree)) → (length ps ≡ 1 → ⊥) → FollowsAs x (unit_deleted a n) c (lent_clauses ps) c Misplaced
no_units x a n c [] h = (refl, refl)
no_units x a n c (p ∷ []) h = absurd (h refl)
no_units x a n c (p ∷ q ∷ ps) h = (refl, refl)

pub no_rules : (x : ClauseTree → Bool) (n a : ℕ) (path : List ℕ) (c : ClauseTree) (ps : List (Bor ClauseTree)) → (length ps ≡ 1 → ⊥) → FollowsAs x (rewritten n a path) c (lent_clauses ps) c Misplaced
no_rules x n a path c [] h = (refl, refl)
no_rules x n a path c (p ∷ []) h = absurd (h refl)
no_rules x n a path c (p ∷ q ∷ ps) h = (refl, refl)

-- a rule
abbrev takes : Bool → Bool → Bool → Bool → Bool → Bool
takes u p r h t = u && (p && (r && (h && t)))

takes_rule : (u p r h t : Bool) → (u && (p && r)) ≡ false → takes u p r h t ≡ false
takes_rule true true false h t e = refl
takes_rule true true true h t e = absurd (false≢true (sym e))
takes_rule true false r h t e = refl
takes_rule false p r h t e = refl

takes_place : (u p r h t : Bool) → h ≡ false → takes u p r h t ≡ false
takes_place u p r h t e = and_right u (p && (r && (h && t))) (and_right p (r && (h && t)) (and_right r (h && t) (ap (λ b. b && t) e)))

takes_there : (u p r h t : Bool) → t ≡ false → takes u p r h t ≡ false
takes_there u p r h t e = and_right u (p && (r && (h && t))) (and_right p (r && (h && t)) (and_right r (h && t) (and_right h t e)))

pub no_rule : (x : ClauseTree → Bool) (n a : ℕ) (path : List ℕ) (c r : ClauseTree) → is_rule_clause r ≡ false → FollowsAs x (rewritten n a path) c (r ∷ []) c Misplaced
no_rule x n a path c r h = (takes_rule (is_unit r) (has_literal true r 0) (is_rule_equation (atom_at r 0)) (has_place c a) (is_there (below (atom_at c a) path)) h, refl)

pub rewrites_no_place : (x : ClauseTree → Bool) (n a : ℕ) (path : List ℕ) (c r : ClauseTree) → has_place c a ≡ false → FollowsAs x (rewritten n a path) c (r ∷ []) c Misplaced
rewrites_no_place x n a path c r h = (takes_place (is_unit r) (has_literal true r 0) (is_rule_equation (atom_at r 0)) (has_place c a) (is_there (below (atom_at c a) path)) h, refl)

there : (o : Option Tree) (t : Tree) → o ≡ Some t → IsTrue (is_there o)
there o t e = ap is_there e

module _ (n a : ℕ) (path : List ℕ) (c r : ClauseTree) (left right : Tree) (place : IsTrue (has_place c a)) (sides : AreRuleSides r left right) where
  rule_fits : (t : Tree) → below (atom_at c a) path ≡ Some t → IsTrue (later_fits (rewritten n a path) c (r ∷ []))
  rule_fits t e =
      and_from (is_unit r) (has_literal true r 0 && (is_rule_equation (atom_at r 0) && (has_place c a && is_there (below (atom_at c a) path)))) sides.unit
      (and_from (has_literal true r 0) (is_rule_equation (atom_at r 0) && (has_place c a && is_there (below (atom_at c a) path))) sides.positive
      (and_from (is_rule_equation (atom_at r 0)) (has_place c a && is_there (below (atom_at c a) path)) sides.rule
      (and_from (has_place c a) (is_there (below (atom_at c a) path)) place (there (below (atom_at c a) path) t e))))

  rule_match : (t u : Tree) (o : Option (List Binding)) → matched left t [] ≡ o → option_map (λ bs. substitute (by_bindings bs) right) o ≡ Some u → (bs : List Binding) × (matched left t [] ≡ Some bs) × (substitute (by_bindings bs) right ≡ u)
  rule_match t u None is e = absurd (cc)
  rule_match t u (Some bs) is e = let same : substitute (by_bindings bs) right ≡ u = cc in (bs, is, same)

  rule_leads : (t u : Tree) (d : ClauseTree) → below (atom_at c a) path ≡ Some t → exchanged left right t ≡ Some u → d ≡ with_part c a path u → Leads (rewritten n a path) c (r ∷ []) d
  rule_leads t u d at e is =
      let found = rule_match t u (matched left t []) refl e in
      let s : Substitution = by_bindings found.0 in (
        s,
        at ∙ ap (λ v. Some v) (sym (match_makes left t found.0 found.1) ∙ ap (substitute s) sides.left_is),
        is ∙ ap (with_part c a path) (sym found.2 ∙ ap (substitute s) sides.right_is),
      )

  rule_never : (t : Tree) → below (atom_at c a) path ≡ Some t → exchanged left right t ≡ None → (e : ClauseTree) → Leads (rewritten n a path) c (r ∷ []) e → ⊥
  rule_never t at none e leads =
      let same : t ≡ substitute leads.0 (left_of (atom_at r 0)) = some_same t (substitute leads.0 (left_of (atom_at r 0))) (sym at ∙ leads.1) in
      let found = match_found left t leads.0 (ap (substitute leads.0) sides.left_is ∙ sym same) in
      none_some (substitute (by_bindings found.0) right) (sym none ∙ ap (option_map (λ bs. substitute (by_bindings bs) right)) found.1)
    where
      some_same : (x y : Tree) → Some x ≡ Some y → x ≡ y
      some_same x y e = cc

      none_some : (x : Tree) → None ≡ Some x → ⊥
      none_some x e = absurd (cc)

  pub rewrites_by : (x : ClauseTree → Bool) (d : ClauseTree) (p : Put) → PutAs x c a path left right d p → FollowsAs x (rewritten n a path) c (r ∷ []) d (followed_put p)
  rewrites_by x d put.Missing is = (takes_there (is_unit r) (has_literal true r 0) (is_rule_equation (atom_at r 0)) (has_place c a) (is_there (below (atom_at c a) path)) is.0, is.1)
  rewrites_by x d put.Differs (t, at, e, same) = (rule_fits t at, rule_never t at e, same)
  rewrites_by x d put.TooLarge (t, u, at, e, large, same) = (rule_fits t at, (with_part c a path u, rule_leads t u (with_part c a path u) at e refl, large), same)
  rewrites_by x d put.Done (t, u, at, e, is) = (rule_fits t at, rule_leads t u d at e is)
