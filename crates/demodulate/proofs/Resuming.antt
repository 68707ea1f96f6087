-- Behind a step, what is left of its place is in normal form.
use Rattle.std.proofs.Common.{◌≡◌, ℕ, zero, suc, ◌+◌, ◌<◌, ◌≤◌, Bool, true, nat_lt, if◌then◌else◌, length, List, [], ◌∷◌, Option, Some, None, get_or, map, refl, sym, ap, subst, ◌∙◌, arith}
use Rattle.std.proofs.lemmas.Bool.{eq-eqb, ltb-true, ne_eqb}
use Rattle.std.specs.Option.{option_map, option_map_or}
use Rattle.fol_core.specs.ClauseView.{literal_of}
use Rattle.fol_core.specs.Literals.{Lit, literal, ClauseTree}
use Rattle.fol_core.specs.TermView.{tree_of, tree_list}
use Rattle.fol_core.specs.Tree.{Tree, var, elem, Trees, none, more, app, trees_of}
use Rattle.fol_core.specs.declared.clause.Literal.{Literal}
use Rattle.fol_core.specs.declared.term.Term.{Term}
use Rattle.demodulate.specs.Resumed.{is_passed, place_within, IsNormalBefore, AreNormalBefore, AreLiteralsNormalBefore}
use Rattle.derivation.specs.Later.{LaterWord, rewritten}
use Rattle.prover_steps.specs.Clashing.{Held}
use Rattle.prover_steps.specs.Rewriting.{RewriteStep, first_of, rewritten_by, step_at_top, widened, in_argument, first_step, step_in, atom_step, clause_step}

mutual
  -- no place, and nothing is said
  pub nothing_before : (rs : List Held) (t : Tree) → IsNormalBefore rs [] t
  nothing_before rs (var x) = tt
  nothing_before rs (elem k) = tt
  nothing_before rs (app f ts) = nothing_before_each rs 1 ts

  nothing_before_each : (rs : List Held) (k : ℕ) (ts : Trees) → AreNormalBefore rs [] k ts
  nothing_before_each rs k none = tt
  nothing_before_each rs k (more t ts) = (((λ h. cc), nothing_before rs t), nothing_before_each rs (suc k) ts)

pub nothing_before_literals : (rs : List Held) (k : ℕ) (c : ClauseTree) → AreLiteralsNormalBefore rs [] k c
nothing_before_literals rs k [] = tt
nothing_before_literals rs k (l ∷ c) = (((λ h. cc), nothing_before rs l.atom), nothing_before_literals rs (suc k) c)

not_below : (k n : ℕ) → n ≤ k → nat_lt k n ≡ true → ⊥
not_below k n h e = let less : k < n = ltb-true k n e in omega (arith, h, less)

-- the rest of a place in the part that has it, and in others
within_same : (k : ℕ) (p : List ℕ) → place_within k (k ∷ p) ≡ p
within_same k p = ap (λ b. if b then p else []) (eq-eqb k k refl)

within_other : (k n : ℕ) (p : List ℕ) → (k ≡ n → ⊥) → place_within k (n ∷ p) ≡ []
within_other k n p h = ap (λ b. if b then p else []) (ne_eqb k n h)

-- arguments behind the one with the place
behind_place : (rs : List Held) (n : ℕ) (p : List ℕ) (k : ℕ) (ts : Trees) → n < k → AreNormalBefore rs (n ∷ p) k ts
behind_place rs n p k none h = tt
behind_place rs n p k (more t ts) h = (
  (
    (λ e. absurd (not_below k n (omega (arith, h)) e)),
    subst (λ q. IsNormalBefore rs q t) (sym (within_other k n p (λ e. omega (arith, h, e)))) (nothing_before rs t),
  ),
  behind_place rs n p (suc k) ts (omega (arith, h)),
)

behind_literals : (rs : List Held) (n : ℕ) (p : List ℕ) (k : ℕ) (c : ClauseTree) → n < k → AreLiteralsNormalBefore rs (n ∷ p) k c
behind_literals rs n p k [] h = tt
behind_literals rs n p k (l ∷ c) h = (
  (
    (λ e. absurd (not_below k n (omega (arith, h)) e)),
    subst (λ q. IsNormalBefore rs q l.atom) (sym (within_other k n p (λ e. omega (arith, h, e)))) (nothing_before rs l.atom),
  ),
  behind_literals rs n p (suc k) c (omega (arith, h)),
)

-- a place that leads into an argument of this number or a later one
record LeadsFrom (k : ℕ) (path : List ℕ) : Type 0 where
  number : ℕ
  rest : List ℕ
  is : path ≡ number ∷ rest
  from : k ≤ number

-- a step of a whole has no path
top_path : (rs : List Held) (t : Tree) (r : RewriteStep Tree) → step_at_top rs t ≡ Some r → r.path ≡ []
top_path [] t r e = cc
top_path (q ∷ rs) t r e = by (top_path rs t r) (rewritten_by q t) e
  where
    by : (step_at_top rs t ≡ Some r → r.path ≡ []) → (o : Option Tree) → option_map_or (λ u. Some (record { rule = q.number; path = []; result = u })) o (step_at_top rs t) ≡ Some r → r.path ≡ []
    by rest None is = rest is
    by rest (Some u) is = let same : record { rule = q.number; path = []; result = u } ≡ r = cc in sym (ap (λ s. s.path) same)

-- what is left of a place in arguments
abbrev LeadsOn : List Held → ℕ → RewriteStep Trees → Type 0
LeadsOn rs k q = LeadsFrom k q.path × AreNormalBefore rs q.path k q.result

leads_here : (rs : List Held) (k : ℕ) (ts : Trees) (r : RewriteStep Tree) → IsNormalBefore rs r.path r.result → LeadsOn rs k (in_argument k ts r)
leads_here rs k ts r before = (
  record { number = k; rest = r.path; is = refl; from = omega arith },
  (
    ((λ b. absurd (not_below k k (omega arith) b)), subst (λ p. IsNormalBefore rs p r.result) (sym (within_same k r.path)) before),
    behind_place rs k r.path (suc k) ts (omega arith),
  ),
)

leads_later : (rs : List Held) (k : ℕ) (t : Tree) (s : RewriteStep Trees) → first_step rs t ≡ None → LeadsOn rs (suc k) s → LeadsOn rs k (widened (more t) s)
leads_later rs k t s normal (leads, before) =
    let h : k < leads.number = omega (arith, leads.from) in (
      record { number = leads.number; rest = leads.rest; is = leads.is; from = omega (arith, h) },
      (((λ b. normal), subst (λ p. IsNormalBefore rs p t) (sym (ap (place_within k) leads.is ∙ within_other k leads.number leads.rest (λ e. omega (arith, h, e)))) (nothing_before rs t)), before),
    )

leads_by : (rs : List Held) (k : ℕ) (t : Tree) (ts : Trees) (q : RewriteStep Trees)
    → ((r : RewriteStep Tree) → first_step rs t ≡ Some r → IsNormalBefore rs r.path r.result) → ((s : RewriteStep Trees) → step_in rs (suc k) ts ≡ Some s → LeadsOn rs (suc k) s)
    → (o : Option (RewriteStep Tree)) → first_step rs t ≡ o → (p : Option (RewriteStep Trees)) → step_in rs (suc k) ts ≡ p
    → first_of (option_map (in_argument k ts) o) (option_map (widened (more t)) p) ≡ Some q → LeadsOn rs k q
leads_by rs k t ts q here later None is None was e = cc
leads_by rs k t ts q here later None is (Some s) was e = let same : widened (more t) s ≡ q = cc in subst (LeadsOn rs k) same (leads_later rs k t s is (later s was))
leads_by rs k t ts q here later (Some r) is p was e = let same : in_argument k ts r ≡ q = cc in subst (LeadsOn rs k) same (leads_here rs k ts r (here r is))

-- a step of an application, by that of its arguments
app_before : (rs : List Held) (f : ℕ) (ts : Trees) (r : RewriteStep Tree) → ((q : RewriteStep Trees) → step_in rs 1 ts ≡ Some q → LeadsOn rs 1 q)
    → (o : Option (RewriteStep Trees)) → step_in rs 1 ts ≡ o → first_of (option_map (widened (app f)) o) (step_at_top rs (app f ts)) ≡ Some r → IsNormalBefore rs r.path r.result
app_before rs f ts r inside None was is = subst (λ p. IsNormalBefore rs p r.result) (sym (top_path rs (app f ts) r is)) (nothing_before rs r.result)
app_before rs f ts r inside (Some q) was is =
    let same : widened (app f) q ≡ r = cc in
    subst (λ s. IsNormalBefore rs s.path s.result) same (inside q was).1

mutual
  pub step_before : (rs : List Held) (t : Tree) (r : RewriteStep Tree) → first_step rs t ≡ Some r → IsNormalBefore rs r.path r.result
  step_before rs (var x) r e = cc
  step_before rs (elem k) r e = cc
  step_before rs (app f ts) r e = app_before rs f ts r (λ q h. arguments_before rs 1 ts q h) (step_in rs 1 ts) refl e

  arguments_before : (rs : List Held) (k : ℕ) (ts : Trees) (q : RewriteStep Trees) → step_in rs k ts ≡ Some q → LeadsOn rs k q
  arguments_before rs k none q e = cc
  arguments_before rs k (more t ts) q e =
      leads_by rs k t ts q (λ r h. step_before rs t r h) (λ s h. arguments_before rs (suc k) ts s h) (first_step rs t) refl (step_in rs (suc k) ts) refl e

pub atom_before : (rs : List Held) (t : Tree) (r : RewriteStep Tree) → atom_step rs t ≡ Some r → IsNormalBefore rs r.path r.result
atom_before rs (var x) r e = cc
atom_before rs (elem k) r e = cc
atom_before rs (app f ts) r e = by (step_in rs 1 ts) refl e
  where
    by : (o : Option (RewriteStep Trees)) → step_in rs 1 ts ≡ o → option_map (widened (app f)) o ≡ Some r → IsNormalBefore rs r.path r.result
    by None was is = cc
    by (Some q) was is =
        let same : widened (app f) q ≡ r = cc in
        subst (λ s. IsNormalBefore rs s.path s.result) same (arguments_before rs 1 ts q was).1

-- what is known of one of some arguments
pub argument_before : (rs : List Held) (place : List ℕ) (ts : List Term) (i k n : ℕ) (t : Term) → i < length ts → t ≡ get_or ts i t → n ≡ i + k → AreNormalBefore rs place k (trees_of (tree_list ts))
    → (is_passed n place ≡ true → first_step rs (tree_of t) ≡ None) × IsNormalBefore rs (place_within n place) (tree_of t)
argument_before rs place [] i k n t h is e all = absurd (omega (arith, h))
argument_before rs place (u ∷ ts) zero k n t h is e all =
    let same : k ≡ n = omega (arith, e) in
    subst (λ m. (is_passed m place ≡ true → first_step rs (tree_of t) ≡ None) × IsNormalBefore rs (place_within m place) (tree_of t)) same
    (subst (λ v. (is_passed k place ≡ true → first_step rs (tree_of v) ≡ None) × IsNormalBefore rs (place_within k place) (tree_of v)) (sym is) all.0)
argument_before rs place (u ∷ ts) (suc i) k n t h is e all = argument_before rs place ts i (suc k) n t (omega (arith, h)) is (omega (arith, e)) all.1

-- of one of some literals
pub literal_before : (rs : List Held) (place : List ℕ) (ls : List Literal) (i k n : ℕ) (l : Literal) → i < length ls → l ≡ get_or ls i l → n ≡ i + k → AreLiteralsNormalBefore rs place k (map literal_of ls)
    → (is_passed n place ≡ true → atom_step rs (tree_of l.atom) ≡ None) × IsNormalBefore rs (place_within n place) (tree_of l.atom)
literal_before rs place [] i k n l h is e all = absurd (omega (arith, h))
literal_before rs place (m ∷ ls) zero k n l h is e all =
    let same : k ≡ n = omega (arith, e) in
    subst (λ j. (is_passed j place ≡ true → atom_step rs (tree_of l.atom) ≡ None) × IsNormalBefore rs (place_within j place) (tree_of l.atom)) same
    (subst (λ v. (is_passed k place ≡ true → atom_step rs (tree_of v.atom) ≡ None) × IsNormalBefore rs (place_within k place) (tree_of v.atom)) (sym is) all.0)
literal_before rs place (m ∷ ls) (suc i) k n l h is e all = literal_before rs place ls i (suc k) n l (omega (arith, h)) is (omega (arith, e)) all.1

-- behind a step of a clause, by its literal's number and its path
record IsResumed (rs : List Held) (k n : ℕ) (path : List ℕ) (d : ClauseTree) : Type 0 where
  from : k ≤ n
  before : AreLiteralsNormalBefore rs (n ∷ path) k d

resumed_here : (rs : List Held) (k n : ℕ) (path : List ℕ) (c d : ClauseTree) (b : Bool) (r : RewriteStep Tree) → k ≡ n → r.path ≡ path → literal b r.result ∷ c ≡ d → IsNormalBefore rs r.path r.result → IsResumed rs k n path d
resumed_here rs k n path c d b r number place all before = record {
  from = omega (arith, number);
  before =
      subst (AreLiteralsNormalBefore rs (n ∷ path) k) all
      (subst (λ m. AreLiteralsNormalBefore rs (m ∷ path) k (literal b r.result ∷ c)) number
      (subst (λ p. AreLiteralsNormalBefore rs (k ∷ p) k (literal b r.result ∷ c)) place (
        ((λ h. absurd (not_below k k (omega arith) h)), subst (λ p. IsNormalBefore rs p r.result) (sym (within_same k r.path)) before),
        behind_literals rs k r.path (suc k) c (omega arith),
      )));
}

resumed_later : (rs : List Held) (k n : ℕ) (path : List ℕ) (l : Lit) (c d : ClauseTree) → l ∷ c ≡ d → atom_step rs l.atom ≡ None → IsResumed rs (suc k) n path c → IsResumed rs k n path d
resumed_later rs k n path l c d all normal behind =
    let h : k < n = omega (arith, behind.from) in
    record {
      from = omega (arith, h);
      before =
          subst (AreLiteralsNormalBefore rs (n ∷ path) k) all
          (((λ b. normal), subst (λ p. IsNormalBefore rs p l.atom) (sym (within_other k n path (λ e. omega (arith, h, e)))) (nothing_before rs l.atom)), behind.before);
    }

-- the step of a clause, by that of its first literal and those of the others
abbrev step_by : ℕ → Lit → ClauseTree → Option (RewriteStep Tree) → Option (LaterWord × ClauseTree) → Option (LaterWord × ClauseTree)
step_by k l c o p = option_map_or (λ r. Some (rewritten r.rule k r.path, literal l.positive r.result ∷ c)) o (option_map (λ s. (s.0, l ∷ s.1)) p)

resumed_by : (rs : List Held) (k : ℕ) (l : Lit) (c : ClauseTree) (rule n : ℕ) (path : List ℕ) (d : ClauseTree)
    → ((b : ClauseTree) → clause_step rs (suc k) c ≡ Some (rewritten rule n path, b) → IsResumed rs (suc k) n path b)
    → (o : Option (RewriteStep Tree)) → atom_step rs l.atom ≡ o → (p : Option (LaterWord × ClauseTree)) → clause_step rs (suc k) c ≡ p
    → step_by k l c o p ≡ Some (rewritten rule n path, d)
    → IsResumed rs k n path d
resumed_by rs k l c rule n path d rest None is None was e = cc
resumed_by rs k l c rule n path d rest None is (Some (w, b)) was e =
    let both : ◌≡◌ {A = LaterWord × ClauseTree} (w, l ∷ b) (rewritten rule n path, d) = cc in
    let word : w ≡ rewritten rule n path = ap (λ s. s.0) both in
    let all : l ∷ b ≡ d = ap (λ s. s.1) both in
    resumed_later rs k n path l b d all is (rest b (was ∙ ap (λ v. Some (v, b)) word))
resumed_by rs k l c rule n path d rest (Some r) is p was e =
    let both : ◌≡◌ {A = LaterWord × ClauseTree} (rewritten r.rule k r.path, literal l.positive r.result ∷ c) (rewritten rule n path, d) = cc in
    let word : rewritten r.rule k r.path ≡ rewritten rule n path = ap (λ s. s.0) both in
    let number : k ≡ n = cc in
    let place : r.path ≡ path = cc in
    let all : literal l.positive r.result ∷ c ≡ d = ap (λ s. s.1) both in
    resumed_here rs k n path c d l.positive r number place all (atom_before rs l.atom r is)

resumed_there : (rs : List Held) (k : ℕ) (c : ClauseTree) (rule n : ℕ) (path : List ℕ) (d : ClauseTree) → clause_step rs k c ≡ Some (rewritten rule n path, d) → IsResumed rs k n path d
resumed_there rs k [] rule n path d e = cc
resumed_there rs k (l ∷ c) rule n path d e =
    resumed_by rs k l c rule n path d (λ b h. resumed_there rs (suc k) c rule n path b h) (atom_step rs l.atom) refl (clause_step rs (suc k) c) refl e

pub clause_before : (rs : List Held) (c : ClauseTree) (rule n : ℕ) (path : List ℕ) (d : ClauseTree) → clause_step rs 0 c ≡ Some (rewritten rule n path, d) → AreLiteralsNormalBefore rs (n ∷ path) 0 d
clause_before rs c rule n path d e = (resumed_there rs 0 c rule n path d e).before
