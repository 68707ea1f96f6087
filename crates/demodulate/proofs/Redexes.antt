-- The first place at which a rule fits.
use Rattle.std.proofs.Common.{◌≡◌, ℕ, zero, suc, ◌+◌, ◌<◌, ◌≤◌, Bool, true, false, if◌then◌else◌, is_some, length, unwrap_or, List, [], ◌∷◌, ◌++◌, Option, Some, None, get_or, take, map, refl, sym, ap, ap₂, subst, ◌∙◌, append-nil, append_assoc, arith}
use Rattle.std.proofs.lemmas.List.{take_all}
use Rattle.std.specs.List.{AllByRecursion, find}
use Rattle.std.specs.Option.{option_map, option_map_or}
use Rattle.fol_core.specs.ClauseView.{literal_of}
use Rattle.fol_core.specs.Literals.{literal, ClauseTree}
use Rattle.fol_core.specs.TermView.{tree_of, tree_list}
use Rattle.fol_core.specs.Tree.{Tree, Trees, more, app, trees_of}
use Rattle.fol_core.specs.declared.clause.Literal.{Literal}
use Rattle.fol_core.specs.declared.term.Term.{Term}
use Rattle.inference.proofs.Exchanging.{later_argument}
use Rattle.demodulate.specs.Passes.{words_then}
use Rattle.demodulate.specs.Steps.{put_by, step_below, whole_step, step_at}
use Rattle.derivation.specs.Later.{LaterWord, rewritten}
use Rattle.derivation.specs.Places.{with_atom}
use Rattle.prover_steps.specs.Clashing.{Held}
use Rattle.substitutions.specs.Paths.{with_argument, replaced}
use Rattle.prover_steps.specs.Rewriting.{RewriteStep, first_of, rewritten_by, step_at_top, widened, in_argument, first_step, step_in, atom_step, Simplified, simplified, then_word, clause_step, normal_form}

-- by the first rule that fits
abbrev top_of : Tree → Held → Option (RewriteStep Tree) → Option (RewriteStep Tree)
top_of t r o = option_map_or (λ u. Some (record { rule = r.number; path = []; result = u })) (rewritten_by r t) o

top_first : (rs : List Held) (t : Tree) → step_at_top rs t ≡ option_map_or (λ r. top_of t r None) (find (λ r. is_some (rewritten_by r t)) rs) None
top_first [] t = refl
top_first (r ∷ rs) t = by (rewritten_by r t) refl (top_first rs t)
  where
    by : (o : Option Tree) → rewritten_by r t ≡ o → step_at_top rs t ≡ option_map_or (λ q. top_of t q None) (find (λ q. is_some (rewritten_by q t)) rs) None
        → top_of t r (step_at_top rs t) ≡ option_map_or (λ q. top_of t q None) (if is_some (rewritten_by r t) then Some r else find (λ q. is_some (rewritten_by q t)) rs) None
    by None e rest =
        ap (λ o. option_map_or (λ u. Some (record { rule = r.number; path = []; result = u })) o (step_at_top rs t)) e ∙ rest
        ∙ sym (ap (λ o. option_map_or (λ q. top_of t q None) (if is_some o then Some r else find (λ q. is_some (rewritten_by q t)) rs) None) e)
    by (Some u) e rest =
        ap (λ o. option_map_or (λ v. Some (record { rule = r.number; path = []; result = v })) o (step_at_top rs t)) e
        ∙ sym (ap (λ o. option_map_or (λ q. top_of t q None) (if is_some o then Some r else find (λ q. is_some (rewritten_by q t)) rs) None) e
        ∙ ap (λ o. option_map_or (λ v. Some (record { rule = r.number; path = []; result = v })) o None) e)

some_fits : (rs : List Held) (r : Held) (t : Tree) → find (λ q. is_some (rewritten_by q t)) rs ≡ Some r → is_some (rewritten_by r t) ≡ true
some_fits [] r t is = absurd (cc)
some_fits (q ∷ rs) r t is = by (is_some (rewritten_by q t)) refl (some_fits rs r t) is
  where
    by : (b : Bool) → is_some (rewritten_by q t) ≡ b → (find (λ p. is_some (rewritten_by p t)) rs ≡ Some r → is_some (rewritten_by r t) ≡ true) → (if b then Some q else find (λ p. is_some (rewritten_by p t)) rs) ≡ Some r
        → is_some (rewritten_by r t) ≡ true
    by true e rest is = let same : q ≡ r = cc in ap (λ p. is_some (rewritten_by p t)) (sym same) ∙ e
    by false e rest is = rest is

pub top_fits : (rs : List Held) (r : Held) (t : Tree) → find (λ q. is_some (rewritten_by q t)) rs ≡ Some r → is_some (rewritten_by r t) ≡ true
top_fits rs r t is = some_fits rs r t is

abbrev step_to : Held → Tree → Option (RewriteStep Tree)
step_to r u = Some (record { rule = r.number; path = []; result = u })

pub top_found : (rs : List Held) (r : Held) (t : Tree) → find (λ q. is_some (rewritten_by q t)) rs ≡ Some r → step_to r (put_by r t) ≡ step_at_top rs t
top_found rs r t is = sym (top_first rs t ∙ ap (λ o. option_map_or (λ q. top_of t q None) o None) is ∙ by (rewritten_by r t) (some_fits rs r t is))
  where
    by : (o : Option Tree) → is_some o ≡ true → option_map_or (step_to r) o None ≡ step_to r (unwrap_or o t)
    by None h = absurd (cc)
    by (Some u) h = refl

pub top_none : (rs : List Held) (t : Tree) → find (λ q. is_some (rewritten_by q t)) rs ≡ None → step_at_top rs t ≡ None
top_none rs t is = top_first rs t ∙ ap (λ o. option_map_or (λ q. top_of t q None) o None) is

-- each of the first elements is so
all_more : {X : Type 0} (P : X → Type 0) (ts : List X) (i : ℕ) (t : X) → i < length ts → t ≡ get_or ts i t → AllByRecursion P (take i ts) → P t → AllByRecursion P (take (suc i) ts)
all_more P [] i t h is all p = absurd (omega (arith, h))
all_more P (u ∷ ts) zero t h is all p = (subst P is p, tt)
all_more P (u ∷ ts) (suc i) t h is all p = (all.0, all_more P ts i t (omega (arith, h)) is all.1 p)

-- no rule fits in the terms
abbrev pub AreNormal : List Held → List Term → Type 0
AreNormal rs ts = AllByRecursion (λ t. first_step rs (tree_of t) ≡ None) ts

pub normal_more : (rs : List Held) (ts : List Term) (i : ℕ) (t : Term) → i < length ts → t ≡ get_or ts i t → AreNormal rs (take i ts) → first_step rs (tree_of t) ≡ None → AreNormal rs (take (i + 1) ts)
normal_more rs ts i t h is all e =
    let next : suc i ≡ i + 1 = omega arith in
    subst (λ n. AreNormal rs (take n ts)) next (all_more (λ u. first_step rs (tree_of u) ≡ None) ts i t h is all e)

-- a step of arguments
abbrev arguments_step : ℕ → List ℕ → Trees → RewriteStep Trees
arguments_step rule path ts = record { rule = rule; path = path; result = ts }

step_there : (rs : List Held) (ts : List Term) (i k n : ℕ) (t : Term) (rule : ℕ) (path : List ℕ) (change : Tree → Tree) → i < length ts → t ≡ get_or ts i t → n ≡ i + k → AreNormal rs (take i ts)
    → first_step rs (tree_of t) ≡ Some (record { rule = rule; path = path; result = change (tree_of t) })
    → step_in rs k (trees_of (tree_list ts)) ≡ Some (arguments_step rule (n ∷ path) (with_argument change (trees_of (tree_list ts)) (suc i)))
step_there rs [] i k n t rule path change h is e all s = absurd (omega (arith, h))
step_there rs (u ∷ ts) zero k n t rule path change h is e all s =
    let same : k ≡ n = omega (arith, e) in
    ap (λ o. first_of (option_map (in_argument k (trees_of (tree_list ts))) o) (option_map (widened (more (tree_of u))) (step_in rs (suc k) (trees_of (tree_list ts))))) (ap (λ v. first_step rs (tree_of v)) (sym is) ∙ s)
    ∙ ap₂ (λ m v. Some (arguments_step rule (m ∷ path) (more (change (tree_of v)) (trees_of (tree_list ts))))) same is
step_there rs (u ∷ ts) (suc i) k n t rule path change h is e all s =
    ap (λ o. first_of (option_map (in_argument k (trees_of (tree_list ts))) o) (option_map (widened (more (tree_of u))) (step_in rs (suc k) (trees_of (tree_list ts))))) all.0
    ∙ ap (option_map (widened (more (tree_of u)))) (step_there rs ts i (suc k) n t rule path change (omega (arith, h)) is (omega (arith, e)) all.1 s)
    ∙ ap (λ us. Some (arguments_step rule (n ∷ path) us)) (sym (later_argument change (tree_of u) (tree_list ts) i))

pub argument_step : (rs : List Held) (f : ℕ) (ts : List Term) (i n : ℕ) (t : Term) (r : RewriteStep Tree) → i < length ts → t ≡ get_or ts i t → n ≡ i + 1 → AreNormal rs (take i ts)
    → Some (whole_step (tree_of t) r) ≡ first_step rs (tree_of t)
    → Some (whole_step (app f (trees_of (tree_list ts))) (step_below n r)) ≡ option_map (widened (app f)) (step_in rs 1 (trees_of (tree_list ts)))
argument_step rs f ts i n t r h is e all s =
    let same : n ≡ suc i = omega (arith, e) in
    ap (λ m. Some (record { rule = r.rule; path = n ∷ r.path; result = app f (with_argument (λ u. replaced u r.path r.result) (trees_of (tree_list ts)) m) })) same
    ∙ sym (ap (option_map (widened (app f))) (step_there rs ts i 1 n t r.rule r.path (λ u. replaced u r.path r.result) h is e all (sym s)))

none_in : (rs : List Held) (ts : List Term) (k : ℕ) → AreNormal rs ts → step_in rs k (trees_of (tree_list ts)) ≡ None
none_in rs [] k all = refl
none_in rs (t ∷ ts) k all =
    ap (λ o. first_of (option_map (in_argument k (trees_of (tree_list ts))) o) (option_map (widened (more (tree_of t))) (step_in rs (suc k) (trees_of (tree_list ts))))) all.0
    ∙ ap (option_map (widened (more (tree_of t)))) (none_in rs ts (suc k) all.1)

pub no_argument_step : (rs : List Held) (f : ℕ) (ts : List Term) (i : ℕ) → length ts ≤ i → AreNormal rs (take i ts) → None ≡ option_map (widened (app f)) (step_in rs 1 (trees_of (tree_list ts)))
no_argument_step rs f ts i h all = sym (ap (option_map (widened (app f))) (none_in rs ts 1 (subst (AreNormal rs) (take_all i ts h) all)))

-- a term whose arguments have a step, or have none
pub step_inside : (rs : List Held) (f : ℕ) (ts : Trees) (r : RewriteStep Tree) → Some r ≡ option_map (widened (app f)) (step_in rs 1 ts) → Some r ≡ first_step rs (app f ts)
step_inside rs f ts r e = sym (ap (λ o. first_of o (step_at_top rs (app f ts))) (sym e))

pub step_outside : (rs : List Held) (f : ℕ) (ts : Trees) → None ≡ option_map (widened (app f)) (step_in rs 1 ts) → step_at_top rs (app f ts) ≡ first_step rs (app f ts)
step_outside rs f ts e = sym (ap (λ o. first_of o (step_at_top rs (app f ts))) (sym e))

-- no rule fits in the literals
abbrev pub AreNormalLiterals : List Held → List Literal → Type 0
AreNormalLiterals rs ls = AllByRecursion (λ l. atom_step rs (tree_of l.atom) ≡ None) ls

pub normal_literals_more : (rs : List Held) (ls : List Literal) (i : ℕ) (l : Literal) → i < length ls → l ≡ get_or ls i l → AreNormalLiterals rs (take i ls) → atom_step rs (tree_of l.atom) ≡ None → AreNormalLiterals rs (take (i + 1) ls)
normal_literals_more rs ls i l h is all e =
    let next : suc i ≡ i + 1 = omega arith in
    subst (λ n. AreNormalLiterals rs (take n ls)) next (all_more (λ k. atom_step rs (tree_of k.atom) ≡ None) ls i l h is all e)

clause_step_there : (rs : List Held) (ls : List Literal) (i a n : ℕ) (l : Literal) (r : RewriteStep Tree) → i < length ls → l ≡ get_or ls i l → n ≡ i + a → AreNormalLiterals rs (take i ls) → atom_step rs (tree_of l.atom) ≡ Some r
    → clause_step rs a (map literal_of ls) ≡ Some (rewritten r.rule n r.path, with_atom (map literal_of ls) i r.result)
clause_step_there rs [] i a n l r h is e all s = absurd (omega (arith, h))
clause_step_there rs (k ∷ ls) zero a n l r h is e all s =
    let same : a ≡ n = omega (arith, e) in
    ap (λ o. option_map_or (λ q. Some (rewritten q.rule a q.path, literal k.positive q.result ∷ map literal_of ls)) o (option_map (λ q. (q.0, literal_of k ∷ q.1)) (clause_step rs (suc a) (map literal_of ls)))) (ap (λ m. atom_step rs (tree_of m.atom)) (sym is) ∙ s)
    ∙ ap (λ m. Some (rewritten r.rule m r.path, literal k.positive r.result ∷ map literal_of ls)) same
clause_step_there rs (k ∷ ls) (suc i) a n l r h is e all s =
    ap (λ o. option_map_or (λ q. Some (rewritten q.rule a q.path, literal k.positive q.result ∷ map literal_of ls)) o (option_map (λ q. (q.0, literal_of k ∷ q.1)) (clause_step rs (suc a) (map literal_of ls)))) all.0
    ∙ ap (option_map (λ q. (q.0, literal_of k ∷ q.1))) (clause_step_there rs ls i (suc a) n l r (omega (arith, h)) is (omega (arith, e)) all.1 s)

pub literal_step : (rs : List Held) (ls : List Literal) (i : ℕ) (l : Literal) (r : RewriteStep Tree) → i < length ls → l ≡ get_or ls i l → AreNormalLiterals rs (take i ls) → atom_step rs (tree_of l.atom) ≡ Some r
    → Some (step_at (map literal_of ls) i r) ≡ clause_step rs 0 (map literal_of ls)
literal_step rs ls i l r h is all s = sym (clause_step_there rs ls i 0 i l r h is (omega arith) all s)

none_in_clause : (rs : List Held) (ls : List Literal) (a : ℕ) → AreNormalLiterals rs ls → clause_step rs a (map literal_of ls) ≡ None
none_in_clause rs [] a all = refl
none_in_clause rs (k ∷ ls) a all =
    ap (λ o. option_map_or (λ q. Some (rewritten q.rule a q.path, literal k.positive q.result ∷ map literal_of ls)) o (option_map (λ q. (q.0, literal_of k ∷ q.1)) (clause_step rs (suc a) (map literal_of ls)))) all.0
    ∙ ap (option_map (λ q. (q.0, literal_of k ∷ q.1))) (none_in_clause rs ls (suc a) all.1)

pub no_literal_step : (rs : List Held) (ls : List Literal) (i : ℕ) → length ls ≤ i → AreNormalLiterals rs (take i ls) → None ≡ clause_step rs 0 (map literal_of ls)
no_literal_step rs ls i h all = sym (none_in_clause rs ls 0 (subst (AreNormalLiterals rs) (take_all i ls h) all))

-- what is left of the steps
module _ (too_large : ClauseTree → Bool) (rs : List Held) where
  abbrev pub steps_left : ℕ → ClauseTree → List LaterWord → Simplified
  steps_left k c ws = words_then ws (normal_form too_large rs k c)

  abbrev one_step : ℕ → ClauseTree → Option (LaterWord × ClauseTree) → Simplified
  one_step k c o = option_map_or (λ s. if too_large s.1 then simplified c [] else then_word s.0 (normal_form too_large rs k s.1)) o (simplified c [])

  pub steps_end : (k : ℕ) (c : ClauseTree) (ws : List LaterWord) → k ≡ 0 → steps_left k c ws ≡ simplified c ws
  steps_end zero c ws e = ap (simplified c) (append-nil ws)
  steps_end (suc k) c ws e = cc

  pub steps_stop : (k : ℕ) (c : ClauseTree) (ws : List LaterWord) → ((s : LaterWord × ClauseTree) → clause_step rs 0 c ≡ Some s → too_large s.1 ≡ true) → steps_left k c ws ≡ simplified c ws
  steps_stop zero c ws stop = ap (simplified c) (append-nil ws)
  steps_stop (suc k) c ws stop = by (clause_step rs 0 c) refl ∙ ap (simplified c) (append-nil ws)
    where
      by : (o : Option (LaterWord × ClauseTree)) → clause_step rs 0 c ≡ o → words_then ws (one_step k c (clause_step rs 0 c)) ≡ words_then ws (simplified c [])
      by None e = ap (λ o. words_then ws (one_step k c o)) e
      by (Some s) e =
          ap (λ o. words_then ws (one_step k c o)) e ∙ ap (λ b. words_then ws (if b then simplified c [] else then_word s.0 (normal_form too_large rs k s.1))) (stop s e)

  pub steps_on : (m k : ℕ) (c : ClauseTree) (ws : List LaterWord) (w : LaterWord) (d : ClauseTree) (vs : List LaterWord) → Some (w, d) ≡ clause_step rs 0 c → too_large d ≡ false → m ≡ suc k → vs ≡ ws ++ w ∷ []
      → steps_left m c ws ≡ steps_left k d vs
  steps_on m k c ws w d vs e small next words =
      ap (λ n. steps_left n c ws) next ∙ ap (λ o. words_then ws (one_step k c o)) (sym e) ∙ ap (λ b. words_then ws (if b then simplified c [] else then_word w (normal_form too_large rs k d))) small
      ∙ ap (simplified (normal_form too_large rs k d).clause) (sym (append_assoc ws (w ∷ []) (normal_form too_large rs k d).words)) ∙ ap (λ us. steps_left k d us) (sym words)
