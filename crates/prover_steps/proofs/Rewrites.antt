-- Rewriting a clause goes by words of a derivation.
use Rattle.std.proofs.Common.{◌≡◌, ℕ, zero, suc, ◌<◌, ◌≤◌, ◌+◌, ◌-◌, Bool, true, false, ◌==◌, ◌&&◌, if◌then◌else◌, length, List, [], ◌∷◌, ◌++◌, Option, Some, None, unwrap_or, refl, sym, ap, subst, ◌∙◌, append_assoc, ne_eqb, arith}
use Rattle.std.proofs.Math.Nat.{ne_of_lt}
use Rattle.std.proofs.lemmas.Bool.{and_parts}
use Rattle.std.proofs.lemmas.List.{length-append}
use Rattle.std.specs.List.{AllByRecursion}
use Rattle.std.specs.Option.{option_map, option_map_or, option_and_then}
use Rattle.fol_core.specs.Literals.{Lit, literal, ClauseTree}
use Rattle.fol_core.specs.Substitutions.{substitute}
use Rattle.fol_core.specs.Tree.{Tree, var, elem, app, Trees, none, more}
use Rattle.substitutions.specs.Bindings.{Binding, by_bindings}
use Rattle.substitutions.specs.Paths.{argument, subterm_at, with_argument, replaced}
use Rattle.unifiers.specs.Laws.{MatchesMake}
use Rattle.unifiers.specs.Matching.{matched}
use Rattle.derivation.specs.Equations.{left_of, right_of, below, is_there}
use Rattle.derivation.specs.Later.{LaterWord, rewritten, is_unit, is_rule_equation}
use Rattle.derivation.specs.Lines.{LineTree, clause_at}
use Rattle.derivation.specs.Places.{has_literal, has_place, atom_at, with_atom}
use Rattle.prover_steps.specs.Clashing.{Held}
use Rattle.prover_steps.specs.Rewriting.{RewriteStep, first_of, step_at_top, widened, in_argument, first_step, step_in, atom_step, simplified, then_word, clause_step, normal_form}
use Rattle.prover_steps.specs.TidyLaws.{HaveRule}
use Rattle.prover_steps.proofs.Chains.{Word, Leading, atom_behind, place_behind, with_behind}

module _ (makes : MatchesMake) (P : Held → Type 0) where
  -- a term at a path is an instance of a rule's left side, and becomes that of the right
  record IsRewritten (rule : ℕ) (path : List ℕ) (t u : Tree) : Type 0 where
    by : Held
    has : P by
    number : rule ≡ by.number
    values : List Binding
    at : subterm_at t path ≡ Some (substitute (by_bindings values) (left_of (atom_at by.clause 0)))
    result : u ≡ replaced t path (substitute (by_bindings values) (right_of (atom_at by.clause 0)))

  -- so does one among arguments, of which the first has the number k
  record AreRewritten (k : ℕ) (rule : ℕ) (path : List ℕ) (ts us : Trees) : Type 0 where
    by : Held
    has : P by
    number : rule ≡ by.number
    values : List Binding
    first : ℕ
    rest : List ℕ
    place : ℕ
    path_is : path ≡ first ∷ rest
    counted : first + 1 ≡ place + k
    from : 1 ≤ place
    old : Tree
    there : argument ts place ≡ Some old
    at : subterm_at old rest ≡ Some (substitute (by_bindings values) (left_of (atom_at by.clause 0)))
    result : us ≡ with_argument (λ v. replaced v rest (substitute (by_bindings values) (right_of (atom_at by.clause 0)))) ts place

  top_is : (rs : List Held) (t : Tree) (r : RewriteStep Tree) → AllByRecursion P rs → step_at_top rs t ≡ Some r → IsRewritten r.rule r.path t r.result
  top_is [] t r have h = cc
  top_is (q ∷ rs) t r have h = by (matched (left_of (atom_at q.clause 0)) t []) refl h (top_is rs t r have.1)
    where
      by : (o : Option (List Binding)) → matched (left_of (atom_at q.clause 0)) t [] ≡ o
          → option_map_or (λ u. Some (record { rule = q.number; path = []; result = u })) (option_map (λ bs. substitute (by_bindings bs) (right_of (atom_at q.clause 0))) o) (step_at_top rs t) ≡ Some r
          → (step_at_top rs t ≡ Some r → IsRewritten r.rule r.path t r.result) → IsRewritten r.rule r.path t r.result
      by None e h rest = rest h
      by (Some bs) e h rest =
          subst (λ s. IsRewritten s.rule s.path t s.result) (ap (λ o. unwrap_or o r) h)
          (record { by = q; has = have.0; number = refl; values = bs; at = ap Some (sym (makes (left_of (atom_at q.clause 0)) t bs e)); result = refl })

  in_app : (f : ℕ) (ts : Trees) (r : RewriteStep Trees) → AreRewritten 1 r.rule r.path ts r.result → IsRewritten r.rule r.path (app f ts) (app f r.result)
  in_app f ts r a =
      let same : a.place ≡ a.first = omega (arith, a.counted) in
      subst (λ path. IsRewritten r.rule path (app f ts) (app f r.result)) (sym a.path_is)
      (record {
        by = a.by;
        has = a.has;
        number = a.number;
        values = a.values;
        at = subst (λ n. option_and_then (λ u. subterm_at u a.rest) (argument ts n) ≡ Some (substitute (by_bindings a.values) (left_of (atom_at a.by.clause 0)))) same
            (ap (option_and_then (λ u. subterm_at u a.rest)) a.there ∙ a.at);
        result = subst (λ n. app f r.result ≡ app f (with_argument (λ v. replaced v a.rest (substitute (by_bindings a.values) (right_of (atom_at a.by.clause 0)))) ts n)) same (ap (app f) a.result);
      })

  in_first : (k : ℕ) (t : Tree) (ts : Trees) (r : RewriteStep Tree) → IsRewritten r.rule r.path t r.result → AreRewritten k r.rule (k ∷ r.path) (more t ts) (more r.result ts)
  in_first k t ts r i = record {
    by = i.by;
    has = i.has;
    number = i.number;
    values = i.values;
    first = k;
    rest = r.path;
    place = 1;
    path_is = refl;
    counted = omega arith;
    from = omega arith;
    old = t;
    there = refl;
    at = i.at;
    result = ap (λ u. more u ts) i.result;
  }

  in_later : (k : ℕ) (t : Tree) (ts : Trees) (r : RewriteStep Trees) → AreRewritten (suc k) r.rule r.path ts r.result → AreRewritten k r.rule r.path (more t ts) (more t r.result)
  in_later k t ts r a =
      let other : (suc a.place == 1) ≡ false = ne_eqb (suc a.place) 1 (λ same. ne_of_lt (above a.from) (sym same)) in
      let before : suc a.place - 1 ≡ a.place = omega arith in
      record {
        by = a.by;
        has = a.has;
        number = a.number;
        values = a.values;
        first = a.first;
        rest = a.rest;
        place = suc a.place;
        path_is = a.path_is;
        counted = omega (arith, a.counted);
        from = omega arith;
        old = a.old;
        there = ap (λ b. if b then Some t else argument ts (suc a.place - 1)) other ∙ ap (argument ts) before ∙ a.there;
        at = a.at;
        result =
            ap (more t) a.result
            ∙ sym (ap (λ b. if b then more (replaced t a.rest (substitute (by_bindings a.values) (right_of (atom_at a.by.clause 0)))) ts else more t (with_argument (λ v. replaced v a.rest (substitute (by_bindings a.values) (right_of (atom_at a.by.clause 0)))) ts (suc a.place - 1))) other
            ∙ ap (λ n. more t (with_argument (λ v. replaced v a.rest (substitute (by_bindings a.values) (right_of (atom_at a.by.clause 0)))) ts n)) before);
      }
    where
      above : {n : ℕ} → 1 ≤ n → 1 < suc n
      above h = omega (arith, h)

  -- one of two steps
  either : {X : Type 0} (Q : X → Type 0) (o p : Option X) (x : X) → first_of o p ≡ Some x → ((y : X) → o ≡ Some y → Q y) → ((y : X) → p ≡ Some y → Q y) → Q x
  either Q None p x h left right = right x h
  either Q (Some y) p x h left right = subst Q (ap (λ o. unwrap_or o x) h) (left y refl)

  mapped : {X Y : Type 0} (f : X → Y) (Q : Y → Type 0) (o : Option X) (y : Y) → option_map f o ≡ Some y → ((x : X) → o ≡ Some x → Q (f x)) → Q y
  mapped f Q None y h each = cc
  mapped f Q (Some x) y h each = subst Q (ap (λ o. unwrap_or o y) h) (each x refl)

  module _ (rs : List Held) (have : AllByRecursion P rs) where
    mutual
      step_is : (t : Tree) (r : RewriteStep Tree) → first_step rs t ≡ Some r → IsRewritten r.rule r.path t r.result
      step_is (var x) r h = cc
      step_is (elem k) r h = cc
      step_is (app f ts) r h =
          either (λ s. IsRewritten s.rule s.path (app f ts) s.result) (option_map (widened (app f)) (step_in rs 1 ts)) (step_at_top rs (app f ts)) r h
          (λ y e. mapped (widened (app f)) (λ s. IsRewritten s.rule s.path (app f ts) s.result) (step_in rs 1 ts) y e (λ x i. in_app f ts x (steps_are 1 ts x i)))
          (λ y e. top_is rs (app f ts) y have e)

      steps_are : (k : ℕ) (ts : Trees) (r : RewriteStep Trees) → step_in rs k ts ≡ Some r → AreRewritten k r.rule r.path ts r.result
      steps_are k none r h = cc
      steps_are k (more t ts) r h =
          either (λ s. AreRewritten k s.rule s.path (more t ts) s.result) (option_map (in_argument k ts) (first_step rs t)) (option_map (widened (more t)) (step_in rs (suc k) ts)) r h
          (λ y e. mapped (in_argument k ts) (λ s. AreRewritten k s.rule s.path (more t ts) s.result) (first_step rs t) y e (λ x i. in_first k t ts x (step_is t x i)))
          (λ y e. mapped (widened (more t)) (λ s. AreRewritten k s.rule s.path (more t ts) s.result) (step_in rs (suc k) ts) y e (λ x i. in_later k t ts x (steps_are (suc k) ts x i)))

module _ (makes : MatchesMake) (ls : List LineTree) (rs : List Held) (have : AllByRecursion (HaveRule ls) rs) where
  -- below an atom a path has a number
  record IsBelow (r : RewriteStep Tree) (t : Tree) : Type 0 where
    is : IsRewritten makes (HaveRule ls) r.rule r.path t r.result
    first : ℕ
    rest : List ℕ
    path : r.path ≡ first ∷ rest

  atom_is : (t : Tree) (r : RewriteStep Tree) → atom_step rs t ≡ Some r → IsBelow r t
  atom_is (var x) r h = cc
  atom_is (elem k) r h = cc
  atom_is (app f ts) r h =
      mapped makes (HaveRule ls) (widened (app f)) (λ s. IsBelow s (app f ts)) (step_in rs 1 ts) r h
      (λ x i. each x (steps_are makes (HaveRule ls) rs have 1 ts x i))
    where
      each : (x : RewriteStep Trees) → AreRewritten makes (HaveRule ls) 1 x.rule x.path ts x.result → IsBelow (widened (app f) x) (app f ts)
      each x a = record { is = in_app makes (HaveRule ls) f ts x a; first = a.first; rest = a.rest; path = a.path_is }

  atom_word : (done : ClauseTree) (l : Lit) (c : ClauseTree) (r : RewriteStep Tree) → IsBelow r l.atom → Word ls (rewritten r.rule (length done) r.path) (done ++ l ∷ c) (done ++ literal l.positive r.result ∷ c)
  atom_word done l c r b =
      let q = b.is.by in
      let one = and_parts (is_unit q.clause) _ b.is.has.1 in
      let two = and_parts (has_literal true q.clause 0) _ one.1 in
      let left = substitute (by_bindings b.is.values) (left_of (atom_at q.clause 0)) in
      let there : below l.atom r.path ≡ Some left = subst (λ path. below l.atom path ≡ Some left) (sym b.path) (subst (λ path. subterm_at l.atom path ≡ Some left) b.path b.is.at) in
      let at : below (atom_at (done ++ l ∷ c) (length done)) r.path ≡ Some left = ap (λ t. below t r.path) (atom_behind done l c) ∙ there in (
        q.clause ∷ [],
        (subst (λ n. clause_at ls n ≡ Some q.clause) (sym b.is.number) b.is.has.0, tt),
        ap (λ b. b && (has_literal true q.clause 0 && (is_rule_equation (atom_at q.clause 0) && (has_place (done ++ l ∷ c) (length done) && is_there (below (atom_at (done ++ l ∷ c) (length done)) r.path))))) one.0
            ∙ ap (λ b. b && (is_rule_equation (atom_at q.clause 0) && (has_place (done ++ l ∷ c) (length done) && is_there (below (atom_at (done ++ l ∷ c) (length done)) r.path)))) two.0
            ∙ ap (λ b. b && (has_place (done ++ l ∷ c) (length done) && is_there (below (atom_at (done ++ l ∷ c) (length done)) r.path))) two.1
            ∙ ap (λ b. b && is_there (below (atom_at (done ++ l ∷ c) (length done)) r.path)) (place_behind done l c) ∙ ap is_there at,
        (
          by_bindings b.is.values,
          at,
          ap (λ t. done ++ literal l.positive t ∷ c) b.is.result ∙ sym (with_behind done l c (replaced l.atom r.path (substitute (by_bindings b.is.values) (right_of (atom_at q.clause 0)))))
              ∙ ap (λ t. with_atom (done ++ l ∷ c) (length done) (replaced t r.path (substitute (by_bindings b.is.values) (right_of (atom_at q.clause 0))))) (sym (atom_behind done l c)),
        ),
      )

  clause_word : (done : ClauseTree) (a : ℕ) (c : ClauseTree) (s : LaterWord × ClauseTree) → length done ≡ a → clause_step rs a c ≡ Some s → Word ls s.0 (done ++ c) (done ++ s.1)
  clause_word done a [] s e h = cc
  clause_word done a (l ∷ c) s e h = by (atom_step rs l.atom) refl h (λ k t same. clause_word (done ++ l ∷ []) (suc a) c t k same)
    where
      longer : length (done ++ l ∷ []) ≡ suc a
      longer = length-append done (l ∷ []) ∙ omega (arith, e)

      later : (o : Option (LaterWord × ClauseTree)) → clause_step rs (suc a) c ≡ o → option_map (λ t. (t.0, l ∷ t.1)) o ≡ Some s
          → ((t : LaterWord × ClauseTree) → clause_step rs (suc a) c ≡ Some t → Word ls t.0 ((done ++ l ∷ []) ++ c) ((done ++ l ∷ []) ++ t.1)) → Word ls s.0 (done ++ l ∷ c) (done ++ s.1)
      later None i h each = cc
      later (Some t) i h each =
          subst (λ s. Word ls s.0 (done ++ l ∷ c) (done ++ s.1)) (ap (λ o. unwrap_or o s) h)
          (subst (λ d. Word ls t.0 d (done ++ l ∷ t.1)) (append_assoc done (l ∷ []) c)
          (subst (λ d. Word ls t.0 ((done ++ l ∷ []) ++ c) d) (append_assoc done (l ∷ []) t.1) (each t i)))

      by : (o : Option (RewriteStep Tree)) → atom_step rs l.atom ≡ o
          → option_map_or (λ r. Some (rewritten r.rule a r.path, literal l.positive r.result ∷ c)) o (option_map (λ t. (t.0, l ∷ t.1)) (clause_step rs (suc a) c)) ≡ Some s
          → (length (done ++ l ∷ []) ≡ suc a → (t : LaterWord × ClauseTree) → clause_step rs (suc a) c ≡ Some t → Word ls t.0 ((done ++ l ∷ []) ++ c) ((done ++ l ∷ []) ++ t.1))
          → Word ls s.0 (done ++ l ∷ c) (done ++ s.1)
      by (Some r) i h rest =
          subst (λ s. Word ls s.0 (done ++ l ∷ c) (done ++ s.1)) (ap (λ o. unwrap_or o s) h)
          (subst (λ n. Word ls (rewritten r.rule n r.path) (done ++ l ∷ c) (done ++ literal l.positive r.result ∷ c)) e (atom_word done l c r (atom_is l.atom r i)))
      by None i h rest = later (clause_step rs (suc a) c) refl h (rest longer)

  pub rewriting_leads : (too_large : ClauseTree → Bool) (k : ℕ) (c : ClauseTree) → Leading ls (normal_form too_large rs k c).words c (normal_form too_large rs k c).clause
  rewriting_leads too_large zero c = refl
  rewriting_leads too_large (suc k) c = by (clause_step rs 0 c) refl (λ d. rewriting_leads too_large k d)
    where
      by : (o : Option (LaterWord × ClauseTree)) → clause_step rs 0 c ≡ o → ((d : ClauseTree) → Leading ls (normal_form too_large rs k d).words d (normal_form too_large rs k d).clause)
          → Leading ls (option_map_or (λ s. if too_large s.1 then simplified c [] else then_word s.0 (normal_form too_large rs k s.1)) o (simplified c [])).words c
          (option_map_or (λ s. if too_large s.1 then simplified c [] else then_word s.0 (normal_form too_large rs k s.1)) o (simplified c [])).clause
      by None e rest = refl
      by (Some s) e rest = test (too_large s.1)
        where
          test : (b : Bool) → Leading ls (if b then simplified c [] else then_word s.0 (normal_form too_large rs k s.1)).words c (if b then simplified c [] else then_word s.0 (normal_form too_large rs k s.1)).clause
          test true = refl
          test false = (s.1, clause_word [] 0 c s refl e, rest s.1)
