-- Terms of a bank that are put in for variables.
use Rattle.std.proofs.Common.{◌≡◌, ℕ, Bool, true, false, if◌then◌else◌, ◌==◌, ◌+◌, ◌<◌, ◌≤◌, List, [], ◌∷◌, ◌++◌, length, map, take, slice_index_or, Some, None, Result, IfOk, refl, sym, ap, ◌∙◌, subst}
use Rattle.std.proofs.lemmas.List.{map-append, take_more}
use Rattle.fol_core.specs.Substitutions.{Substitution, substitute, substitute_all}
use Rattle.fol_core.specs.TermView.{tree_of, tree_list}
use Rattle.fol_core.specs.Tree.{Tree, var, app, trees_of}
use Rattle.fol_core.specs.declared.term.Term.{Term}
use Rattle.fol_core.proofs.Putting.{put_made}
use Rattle.shared_clauses.specs.Bound.{AreBoundBelow, bound_in}
use Rattle.substitutions.specs.Bindings.{Binding, by_bindings}
use Rattle.term_bank.specs.Bank.{Grows, IsAt, tree_at}
use Rattle.term_bank.specs.Cells.{AreNumbersBelow, numbers}
use Rattle.term_bank.specs.declared.id.TermId.{TermId}
use Rattle.term_bank.proofs.Building.{grows_on, grows_refl, more_arguments}
use Rattle.unifiers.specs.Matching.{bound_term}
use Rattle.shared_clauses.proofs.BoundSteps.{bound_on}

-- what is bound to a variable is what stands for it
pub bound_by : (t : Tree) (bs : List Binding) (x : ℕ) → Some t ≡ bound_term bs x → by_bindings bs x ≡ t
bound_by t [] x e = absurd (cc)
bound_by t (b ∷ bs) x e = test (x == b.0) e (λ f. bound_by t bs x f)
  where
    test : (c : Bool) → Some t ≡ (if c then Some b.1 else bound_term bs x) → (Some t ≡ bound_term bs x → by_bindings bs x ≡ t) → (if c then b.1 else by_bindings bs x) ≡ t
    test true e rest = cc
    test false e rest = rest e

pub unbound_by : (bs : List Binding) (x : ℕ) → None ≡ bound_term bs x → by_bindings bs x ≡ var x
unbound_by [] x e = refl
unbound_by (b ∷ bs) x e = test (x == b.0) e (λ f. unbound_by bs x f)
  where
    test : (c : Bool) → None ≡ (if c then Some b.1 else bound_term bs x) → (None ≡ bound_term bs x → by_bindings bs x ≡ var x) → (if c then b.1 else by_bindings bs x) ≡ var x
    test true e rest = absurd (cc)
    test false e rest = rest e

pub value_there : (bank : List Tree) (bs : List (ℕ × TermId)) (x : ℕ) (id : TermId) → Some (tree_at bank id.0) ≡ bound_term (bound_in bank bs) x → id.0 < length bank → IsAt bank id.0 (by_bindings (bound_in bank bs) x)
value_there bank bs x id e h = record { within = h; tree = sym (bound_by (tree_at bank id.0) (bound_in bank bs) x e) }

pub value_put : {E : Type 0} (r : Result TermId E) (b : List Tree) (es : List Binding) (x : ℕ) → None ≡ bound_term es x → IfOk r (λ id. IsAt b id.0 (var x)) → IfOk r (λ id. IsAt b id.0 (by_bindings es x))
value_put r b es x e is = subst (λ (t : Tree). IfOk r (λ id. IsAt b id.0 t)) (sym (unbound_by es x e)) is

-- the first terms are put in
pub record AreArguments (s : Substitution) (a b : List Tree) (ts : List Term) (ks : List TermId) : Type 0 where
  pub grows : Grows a b
  pub below : AreNumbersBelow (length b) (numbers ks)
  pub trees : map (λ (k : TermId). tree_at b k.0) ks ≡ map (λ t. substitute s (tree_of t)) ts

pub no_arguments : (s : Substitution) (a : List Tree) → AreArguments s a a [] []
no_arguments s a = record { grows = grows_refl a; below = tt; trees = refl }

pub arguments_next : (f : List Binding → Substitution) (bs : List (ℕ × TermId)) (a b c : List Tree) (ts : List Term) (i : ℕ) (t : Term) (ks made : List TermId) (k : TermId) → i < length ts → t ≡ slice_index_or ts i t → AreBoundBelow (length a) bs
    → AreArguments (f (bound_in a bs)) a b (take i ts) ks → Grows b c → IsAt c k.0 (substitute (f (bound_in b bs)) (tree_of t)) → made ≡ ks ++ k ∷ []
    → AreArguments (f (bound_in a bs)) a c (take (i + 1) ts) made
arguments_next f bs a b c ts i t ks made k h at bound are grows is pushed =
    let s : Substitution = f (bound_in a bs) in
    let same : substitute (f (bound_in b bs)) (tree_of t) ≡ substitute s (tree_of t) = ap (λ es. substitute (f es) (tree_of t)) (bound_on a b bs are.grows bound) in
    let more = more_arguments b c ks made (map (λ t. substitute s (tree_of t)) (take i ts)) k (substitute s (tree_of t)) grows are.below are.trees (subst (IsAt c k.0) same is) pushed in
    record {
      grows = grows_on a b c are.grows grows;
      below = more.0;
      trees = more.1 ∙ sym (ap (map (λ (u : Term). substitute s (tree_of u))) (take_more ts i t h ∙ ap (λ u. take i ts ++ u ∷ []) (sym at)) ∙ map-append (λ (u : Term). substitute s (tree_of u)) (take i ts) (t ∷ []));
    }

pub argument_next : (bs : List (ℕ × TermId)) (a b c : List Tree) (ts : List Term) (i : ℕ) (t : Term) (ks made : List TermId) (k : TermId) → i < length ts → t ≡ slice_index_or ts i t → AreBoundBelow (length a) bs
    → AreArguments (by_bindings (bound_in a bs)) a b (take i ts) ks → Grows b c → IsAt c k.0 (substitute (by_bindings (bound_in b bs)) (tree_of t)) → made ≡ ks ++ k ∷ []
    → AreArguments (by_bindings (bound_in a bs)) a c (take (i + 1) ts) made
argument_next = arguments_next by_bindings

-- all under their symbol
pub all_put : {E : Type 0} (r : Result TermId E) (s : Substitution) (f : ℕ) (a b c : List Tree) (xs ts : List Term) (us : List Tree) (ids made : List TermId) (i : ℕ) → ids ≡ made → AreArguments s a b (take i xs) made
    → IfOk r (λ k. IsAt c k.0 (app f (trees_of (map (λ (k : TermId). tree_at b k.0) ids)))) → length xs ≤ i → xs ≡ ts → tree_list ts ≡ us → IfOk r (λ k. IsAt c k.0 (substitute s (app f (trees_of us))))
all_put r s f a b c xs ts us ids made i e are is h same view =
    subst (λ (u : Tree). IfOk r (λ k. IsAt c k.0 u))
    (ap (λ l. app f (trees_of (map (λ (k : TermId). tree_at b k.0) l))) e ∙ ap (app f) (put_made s xs i (map (λ (k : TermId). tree_at b k.0) made) h are.trees)
    ∙ ap (λ l. app f (substitute_all s (trees_of (tree_list l)))) same ∙ ap (λ l. app f (substitute_all s (trees_of l))) view) is
