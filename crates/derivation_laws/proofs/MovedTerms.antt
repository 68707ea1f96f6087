-- Terms and clauses with other numbers of their symbols.
use Rattle.std.proofs.Common.{◌≡◌, ℕ, zero, suc, ◌-◌, Bool, true, false, ◌==◌, ◌&&◌, ◌||◌, if◌then◌else◌, List, [], ◌∷◌, ◌++◌, map, Option, Some, None, option_map, unwrap_or, refl, sym, ap, ap₂, ◌∙◌}
use Rattle.std.specs.Option.{option_and_then}
use Rattle.std.proofs.lemmas.Bool.Decides.{same_from_decides, Decides-eqb, Decides-like}
use Rattle.fol_core.specs.Free.{joined, variables_of, variables_of_all}
use Rattle.fol_core.specs.Literals.{Lit, ClauseTree, literal, equality}
use Rattle.fol_core.specs.Renumbered.{clause_variables, by_place, renumbered}
use Rattle.fol_core.specs.Substitutions.{Substitution, substitute, substitute_all}
use Rattle.fol_core.specs.Tree.{Tree, var, elem, app, Trees, none, more}
use Rattle.substitutions.specs.Apart.{Own, instances}
use Rattle.substitutions.specs.Instances.{substitute_clause}
use Rattle.substitutions.specs.Occurring.{has_variable, have_variable}
use Rattle.substitutions.specs.Paths.{argument, subterm_at, with_argument, replaced}
use Rattle.derivation.specs.Equations.{equation, is_equation, left_of, right_of, below, is_there, is_no_variable, term_below}
use Rattle.derivation.specs.Places.{has_literal, has_place, atom_at, others, with_atom, are_alike, are_opposite}
use Rattle.derivation_laws.specs.Moved.{Moving, moved_term, moved_terms, moved_literal, moved_clause, IsExchange}

module _ (to : Moving) where
  -- an instance is moved with the terms that are put in
  abbrev pub moved_terms_for : Substitution → Substitution
  moved_terms_for s = λ x. moved_term to (s x)

  mutual
    pub moved_put : (s : Substitution) (t : Tree) → moved_term to (substitute s t) ≡ substitute (moved_terms_for s) (moved_term to t)
    moved_put s (var x) = refl
    moved_put s (elem k) = refl
    moved_put s (app f ts) = ap (app (to f)) (moved_put_all s ts)

    pub moved_put_all : (s : Substitution) (ts : Trees) → moved_terms to (substitute_all s ts) ≡ substitute_all (moved_terms_for s) (moved_terms to ts)
    moved_put_all s none = refl
    moved_put_all s (more t ts) = ap₂ more (moved_put s t) (moved_put_all s ts)

  pub clause_put : (s : Substitution) (c : ClauseTree) → moved_clause to (substitute_clause s c) ≡ substitute_clause (moved_terms_for s) (moved_clause to c)
  clause_put s [] = refl
  clause_put s (l ∷ c) = ap₂ (λ t d. literal l.positive t ∷ d) (moved_put s l.atom) (clause_put s c)

  pub clauses_put : (s : Substitution) (cs : List ClauseTree) → map (moved_clause to) (map (substitute_clause s) cs) ≡ map (substitute_clause (moved_terms_for s)) (map (moved_clause to) cs)
  clauses_put s [] = refl
  clauses_put s (c ∷ cs) = ap₂ (λ d ds. d ∷ ds) (clause_put s c) (clauses_put s cs)

  abbrev pub moved_own : Own → Own
  moved_own own = λ k x. moved_term to (own k x)

  pub instances_put : (own : Own) (cs : List ClauseTree) → map (moved_clause to) (instances own cs) ≡ instances (moved_own own) (map (moved_clause to) cs)
  instances_put own [] = refl
  instances_put own (c ∷ cs) = ap₂ (λ d ds. d ∷ ds) (clause_put (own 0) c) (instances_put (λ k. own (suc k)) cs)

  -- variables stay
  mutual
    pub variables_stay : (t : Tree) → variables_of (moved_term to t) ≡ variables_of t
    variables_stay (var x) = refl
    variables_stay (elem k) = refl
    variables_stay (app f ts) = all_variables_stay ts

    pub all_variables_stay : (ts : Trees) → variables_of_all (moved_terms to ts) ≡ variables_of_all ts
    all_variables_stay none = refl
    all_variables_stay (more t ts) = ap₂ joined (variables_stay t) (all_variables_stay ts)

  mutual
    pub variable_stays : (x : ℕ) (t : Tree) → has_variable x (moved_term to t) ≡ has_variable x t
    variable_stays x (var y) = refl
    variable_stays x (elem k) = refl
    variable_stays x (app f ts) = variable_stays_in x ts

    variable_stays_in : (x : ℕ) (ts : Trees) → have_variable x (moved_terms to ts) ≡ have_variable x ts
    variable_stays_in x none = refl
    variable_stays_in x (more t ts) = ap₂ (λ p q. p || q) (variable_stays x t) (variable_stays_in x ts)

  pub clause_variables_stay : (c : ClauseTree) → clause_variables (moved_clause to c) ≡ clause_variables c
  clause_variables_stay [] = refl
  clause_variables_stay (l ∷ c) = ap₂ joined (variables_stay l.atom) (clause_variables_stay c)

  abbrev placed : List ℕ → ClauseTree → ClauseTree
  placed xs c = map (λ (l : Lit). literal l.positive (substitute (by_place xs) l.atom)) c

  placed_moved : (xs : List ℕ) (c : ClauseTree) → placed xs (moved_clause to c) ≡ moved_clause to (placed xs c)
  placed_moved xs [] = refl
  placed_moved xs (l ∷ c) = ap₂ (λ t d. literal l.positive t ∷ d) (sym (moved_put (by_place xs) l.atom)) (placed_moved xs c)

  pub renumbered_moved : (c : ClauseTree) → renumbered (moved_clause to c) ≡ moved_clause to (renumbered c)
  renumbered_moved c = ap (λ xs. placed xs (moved_clause to c)) (clause_variables_stay c) ∙ placed_moved (clause_variables c) c

  -- subterms by their paths
  argument_moved : (ts : Trees) (k : ℕ) → argument (moved_terms to ts) k ≡ option_map (moved_term to) (argument ts k)
  argument_moved none k = refl
  argument_moved (more t ts) k = by (k == 1) (argument_moved ts (k - 1))
    where
      by : (b : Bool) → argument (moved_terms to ts) (k - 1) ≡ option_map (moved_term to) (argument ts (k - 1))
          → (if b then Some (moved_term to t) else argument (moved_terms to ts) (k - 1)) ≡ option_map (moved_term to) (if b then Some t else argument ts (k - 1))
      by true rest = refl
      by false rest = rest

  subterm_moved : (t : Tree) (path : List ℕ) → subterm_at (moved_term to t) path ≡ option_map (moved_term to) (subterm_at t path)
  subterm_moved t [] = refl
  subterm_moved (var x) (k ∷ path) = refl
  subterm_moved (elem x) (k ∷ path) = refl
  subterm_moved (app f ts) (k ∷ path) =
      ap (option_and_then (λ v. subterm_at v path)) (argument_moved ts k) ∙ by (argument ts k) (λ v. subterm_moved v path)
    where
      by : (o : Option Tree) → ((v : Tree) → subterm_at (moved_term to v) path ≡ option_map (moved_term to) (subterm_at v path))
          → option_and_then (λ v. subterm_at v path) (option_map (moved_term to) o) ≡ option_map (moved_term to) (option_and_then (λ v. subterm_at v path) o)
      by None rest = refl
      by (Some v) rest = rest v

  pub below_moved : (t : Tree) (path : List ℕ) → below (moved_term to t) path ≡ option_map (moved_term to) (below t path)
  below_moved t [] = refl
  below_moved t (k ∷ path) = subterm_moved t (k ∷ path)

  pub there_moved : (o : Option Tree) → is_there (option_map (moved_term to) o) ≡ is_there o
  there_moved None = refl
  there_moved (Some t) = refl

  pub no_variable_moved : (o : Option Tree) → is_no_variable (option_map (moved_term to) o) ≡ is_no_variable o
  no_variable_moved None = refl
  no_variable_moved (Some (var x)) = refl
  no_variable_moved (Some (elem k)) = refl
  no_variable_moved (Some (app f ts)) = refl

  pub term_below_moved : (t : Tree) (path : List ℕ) → term_below (moved_term to t) path ≡ moved_term to (term_below t path)
  term_below_moved t path = ap (λ (o : Option Tree). unwrap_or o (var 0)) (below_moved t path) ∙ by (below t path)
    where
      by : (o : Option Tree) → unwrap_or (option_map (moved_term to) o) (var 0) ≡ moved_term to (unwrap_or o (var 0))
      by None = refl
      by (Some t) = refl

  argument_changed : (change changed : Tree → Tree) (ts : Trees) (k : ℕ) → ((v : Tree) → changed (moved_term to v) ≡ moved_term to (change v))
      → with_argument changed (moved_terms to ts) k ≡ moved_terms to (with_argument change ts k)
  argument_changed change changed none k h = refl
  argument_changed change changed (more t ts) k h = by (k == 1) (argument_changed change changed ts (k - 1) h)
    where
      by : (b : Bool) → with_argument changed (moved_terms to ts) (k - 1) ≡ moved_terms to (with_argument change ts (k - 1))
          → (if b then more (changed (moved_term to t)) (moved_terms to ts) else more (moved_term to t) (with_argument changed (moved_terms to ts) (k - 1)))
          ≡ moved_terms to (if b then more (change t) ts else more t (with_argument change ts (k - 1)))
      by true rest = ap (λ u. more u (moved_terms to ts)) (h t)
      by false rest = ap (more (moved_term to t)) rest

  pub replaced_moved : (t : Tree) (path : List ℕ) (new : Tree) → replaced (moved_term to t) path (moved_term to new) ≡ moved_term to (replaced t path new)
  replaced_moved t [] new = refl
  replaced_moved (var x) (k ∷ path) new = refl
  replaced_moved (elem x) (k ∷ path) new = refl
  replaced_moved (app f ts) (k ∷ path) new =
      ap (app (to f)) (argument_changed (λ v. replaced v path new) (λ v. replaced v path (moved_term to new)) ts k (λ v. replaced_moved v path new))

  -- literals by their places
  pub has_moved : (sign : Bool) (c : ClauseTree) (a : ℕ) → has_literal sign (moved_clause to c) a ≡ has_literal sign c a
  has_moved sign [] a = refl
  has_moved sign (l ∷ c) zero = refl
  has_moved sign (l ∷ c) (suc a) = has_moved sign c a

  pub place_moved : (c : ClauseTree) (a : ℕ) → has_place (moved_clause to c) a ≡ has_place c a
  place_moved c a = ap₂ (λ p q. p || q) (has_moved true c a) (has_moved false c a)

  pub atom_moved : (c : ClauseTree) (a : ℕ) → atom_at (moved_clause to c) a ≡ moved_term to (atom_at c a)
  atom_moved [] a = refl
  atom_moved (l ∷ c) zero = refl
  atom_moved (l ∷ c) (suc a) = atom_moved c a

  pub others_moved : (test : ℕ → Bool) (c : ClauseTree) → others test (moved_clause to c) ≡ moved_clause to (others test c)
  others_moved test [] = refl
  others_moved test (l ∷ c) = by (test 0) (others_moved (λ k. test (suc k)) c)
    where
      by : (b : Bool) → others (λ k. test (suc k)) (moved_clause to c) ≡ moved_clause to (others (λ k. test (suc k)) c)
          → (if b then others (λ k. test (suc k)) (moved_clause to c) else moved_literal to l ∷ others (λ k. test (suc k)) (moved_clause to c))
          ≡ moved_clause to (if b then others (λ k. test (suc k)) c else l ∷ others (λ k. test (suc k)) c)
      by true rest = rest
      by false rest = ap (λ d. moved_literal to l ∷ d) rest

  pub with_atom_moved : (c : ClauseTree) (a : ℕ) (t : Tree) → with_atom (moved_clause to c) a (moved_term to t) ≡ moved_clause to (with_atom c a t)
  with_atom_moved [] a t = refl
  with_atom_moved (l ∷ c) zero t = refl
  with_atom_moved (l ∷ c) (suc a) t = ap (λ d. moved_literal to l ∷ d) (with_atom_moved c a t)

  pub append_moved : (c d : ClauseTree) → moved_clause to (c ++ d) ≡ moved_clause to c ++ moved_clause to d
  append_moved [] d = refl
  append_moved (l ∷ c) d = ap (λ e. moved_literal to l ∷ e) (append_moved c d)

  pub alike_moved : (c : ClauseTree) (a : ℕ) (d : ClauseTree) (b : ℕ) → are_alike (moved_clause to c) a (moved_clause to d) b ≡ are_alike c a d b
  alike_moved c a d b = ap₂ (λ p q. p || q) (ap₂ (λ p q. p && q) (has_moved true c a) (has_moved true d b)) (ap₂ (λ p q. p && q) (has_moved false c a) (has_moved false d b))

  pub opposites_moved : (c : ClauseTree) (a : ℕ) (d : ClauseTree) (b : ℕ) → are_opposite (moved_clause to c) a (moved_clause to d) b ≡ are_opposite c a d b
  opposites_moved c a d b = ap₂ (λ p q. p || q) (ap₂ (λ p q. p && q) (has_moved true c a) (has_moved false d b)) (ap₂ (λ p q. p && q) (has_moved false c a) (has_moved true d b))

  -- the sides of equations
  pub left_moved : (t : Tree) → left_of (moved_term to t) ≡ moved_term to (left_of t)
  left_moved (var x) = refl
  left_moved (elem k) = refl
  left_moved (app r none) = refl
  left_moved (app r (more s ts)) = refl

  pub right_moved : (t : Tree) → right_of (moved_term to t) ≡ moved_term to (right_of t)
  right_moved (var x) = refl
  right_moved (elem k) = refl
  right_moved (app r none) = refl
  right_moved (app r (more s none)) = refl
  right_moved (app r (more s (more t ts))) = refl

  -- and the way back
  module _ (back : Moving) where
    module _ (there : (n : ℕ) → back (to n) ≡ n) where
      mutual
        pub term_back : (t : Tree) → moved_term back (moved_term to t) ≡ t
        term_back (var x) = refl
        term_back (elem k) = refl
        term_back (app f ts) = ap₂ app (there f) (terms_back ts)

        pub terms_back : (ts : Trees) → moved_terms back (moved_terms to ts) ≡ ts
        terms_back none = refl
        terms_back (more t ts) = ap₂ more (term_back t) (terms_back ts)

      clause_back : (c : ClauseTree) → moved_clause back (moved_clause to c) ≡ c
      clause_back [] = refl
      clause_back (l ∷ c) = ap₂ (λ t d. literal l.positive t ∷ d) (term_back l.atom) (clause_back c)

      pub clauses_back : (cs : List ClauseTree) → map (moved_clause back) (map (moved_clause to) cs) ≡ cs
      clauses_back [] = refl
      clauses_back (c ∷ cs) = ap₂ (λ d ds. d ∷ ds) (clause_back c) (clauses_back cs)

    module _ (x : IsExchange to back) where
      equality_moved : (r : ℕ) → (to r == equality) ≡ (r == equality)
      equality_moved r =
          same_from_decides (to r == equality) (r == equality)
          (Decides-like (to r == equality) (λ e. sym (x.there r) ∙ ap back (e ∙ sym x.equality_stays) ∙ x.there equality) (λ e. ap to e ∙ x.equality_stays) (Decides-eqb (to r) equality))
          (Decides-eqb r equality)

      pub is_equation_moved : (t : Tree) → is_equation (moved_term to t) ≡ is_equation t
      is_equation_moved (var y) = refl
      is_equation_moved (elem k) = refl
      is_equation_moved (app r none) = refl
      is_equation_moved (app r (more s none)) = refl
      is_equation_moved (app r (more s (more t none))) = equality_moved r
      is_equation_moved (app r (more s (more t (more u ts)))) = refl

      pub equation_moved : (s t : Tree) → equation (moved_term to s) (moved_term to t) ≡ moved_term to (equation s t)
      equation_moved s t = ap (λ r. app r (more (moved_term to s) (more (moved_term to t) none))) (sym x.equality_stays)
