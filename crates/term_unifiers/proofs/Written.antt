-- Terms whose variables are numbered as they are built.
use Rattle.std.proofs.Common.{◌≡◌, ℕ, ◌<◌, ◌≤◌, ◌+◌, Bool, true, false, if◌then◌else◌, refl, sym, ap, ap₂, subst, ◌∙◌, List, [], ◌∷◌, ◌++◌, length, map, take, Result, Ok, Err, IfOk, OnOk, slice_index_or}
use Rattle.std.proofs.lemmas.List.{append-nil, append_assoc, map-append, map_more}
use Rattle.fol_core.proofs.Putting.{put_made}
use Rattle.fol_core.proofs.Variables.{joined_joined, once}
use Rattle.fol_core.specs.Free.{is_in, joined, noted, variables_of, variables_of_all}
use Rattle.fol_core.specs.Renumbered.{by_place, place_in}
use Rattle.fol_core.specs.Substitutions.{Substitution, substitute, substitute_all}
use Rattle.fol_core.specs.TermView.{tree_of, tree_list}
use Rattle.fol_core.specs.Tree.{Tree, var, elem, app, more, trees_of}
use Rattle.fol_core.specs.declared.term.Term.{Term}
use Rattle.term_unifiers.specs.Merging.{nth}
use Rattle.term_unifiers.specs.Written.{IsWritten, AreWritten}
use Rattle.term_unifiers.proofs.Entering.{made_next}

-- a list of variables grows at its end
noted_grows : (xs : List ℕ) (y : ℕ) → (zs : List ℕ) × (noted xs y ≡ xs ++ zs)
noted_grows xs y = by (is_in y xs)
  where
    by : (b : Bool) → (zs : List ℕ) × ((if b then xs else xs ++ y ∷ []) ≡ xs ++ zs)
    by true = ([], sym (append-nil xs))
    by false = (y ∷ [], refl)

pub joined_grows : (xs ys : List ℕ) → (zs : List ℕ) × (joined xs ys ≡ xs ++ zs)
joined_grows xs [] = ([], sym (append-nil xs))
joined_grows xs (y ∷ ys) =
    let one = noted_grows xs y in
    let rest = joined_grows (noted xs y) ys in
    (one.0 ++ rest.0, rest.1 ∙ ap (λ l. l ++ rest.0) one.1 ∙ append_assoc xs one.0 rest.0)

-- the variables of terms with one more
pub variables_push : (us : List Tree) (u : Tree) → variables_of_all (trees_of (us ++ u ∷ [])) ≡ joined (variables_of_all (trees_of us)) (variables_of u)
variables_push [] u = sym (once u)
variables_push (t ∷ us) u = ap (joined (variables_of t)) (variables_push us u) ∙ joined_joined (variables_of t) (variables_of_all (trees_of us)) (variables_of u)

pub put_trees : (s : Substitution) (us : List Tree) → trees_of (map (substitute s) us) ≡ substitute_all s (trees_of us)
put_trees s [] = refl
put_trees s (u ∷ us) = ap (more (substitute s u)) (put_trees s us)

-- a variable
pub variable_written : (old new : List ℕ) (x n : ℕ) → new ≡ noted old x → ((behind : List ℕ) → n ≡ place_in (new ++ behind) x) → IsWritten old new (var x) (var n)
variable_written old new x n e at = record { numbers = e; term = λ behind. ap var (at behind) }

-- an element
pub element_written : (old : List ℕ) (k : ℕ) → IsWritten old old (elem k) (elem k)
element_written old k = record { numbers = refl; term = λ behind. refl }

-- no terms
pub none_written : (old : List ℕ) → AreWritten old old [] []
none_written old = record { numbers = refl; terms = λ behind. refl }

-- one more
pub next_written : (old mid new : List ℕ) (us ts : List Tree) (u t : Tree) → AreWritten old mid us ts → IsWritten mid new u t → AreWritten old new (us ++ u ∷ []) (ts ++ t ∷ [])
next_written old mid new us ts u t before one = record {
  numbers =
      one.numbers ∙ ap (λ l. joined l (variables_of u)) before.numbers ∙ sym (joined_joined old (variables_of_all (trees_of us)) (variables_of u))
      ∙ ap (joined old) (sym (variables_push us u));
  terms = λ behind.
      let grown = joined_grows mid (variables_of u) in
      let same : mid ++ (grown.0 ++ behind) ≡ new ++ behind = sym (append_assoc mid grown.0 behind) ∙ ap (λ l. l ++ behind) (sym (one.numbers ∙ grown.1)) in
      ap₂ (λ (x y : List Tree). x ++ y) (before.terms (grown.0 ++ behind) ∙ ap (λ l. map (substitute (by_place l)) us) same) (ap (λ v. v ∷ []) (one.term behind))
      ∙ sym (map-append (substitute (by_place (new ++ behind))) us (u ∷ []));
}

-- and all under a symbol
pub application_written : (old new : List ℕ) (f : ℕ) (us ts : List Tree) → AreWritten old new us ts → IsWritten old new (app f (trees_of us)) (app f (trees_of ts))
application_written old new f us ts is = record {
  numbers = is.numbers;
  term = λ behind. ap (λ l. app f (trees_of l)) (is.terms behind) ∙ ap (app f) (put_trees (by_place (new ++ behind)) us);
}

-- the arguments of a term with terms put in
pub made_written : (s : Substitution) (f : ℕ) (old new : List ℕ) (xs ts : List Term) (us made : List Tree) (i : ℕ) → AreWritten old new (map (λ t. substitute s (tree_of t)) (take i xs)) made → length xs ≤ i → xs ≡ ts → tree_list ts ≡ us
    → IsWritten old new (substitute s (app f (trees_of us))) (app f (trees_of made))
made_written s f old new xs ts us made i is h same view =
    subst (λ u. IsWritten old new u (app f (trees_of made)))
    (ap (app f) (put_made s xs i (map (λ t. substitute s (tree_of t)) (take i xs)) h refl)
    ∙ ap (λ l. app f (substitute_all s (trees_of (tree_list l)))) same ∙ ap (λ l. app f (substitute_all s (trees_of l))) view)
    (application_written old new f (map (λ t. substitute s (tree_of t)) (take i xs)) made is)

-- the same of equal terms
pub written_as : {E : Type 0} (r : Result Term E) (old new : List ℕ) (u v : Tree) → u ≡ v → IfOk r (λ t. IsWritten old new u (tree_of t)) → IfOk r (λ t. IsWritten old new v (tree_of t))
written_as r old new u v e is = subst (λ (x : Tree). IfOk r (λ t. IsWritten old new x (tree_of t))) e is

-- what is written, told in two parts
pub written_numbers : {E : Type 0} (r : Result Term E) (old new : List ℕ) (u : Tree) → IfOk r (λ t. IsWritten old new u (tree_of t)) → OnOk r (new ≡ joined old (variables_of u))
written_numbers (Ok t) old new u is = is.numbers
written_numbers (Err e) old new u is = tt

pub written_term : {E : Type 0} (r : Result Term E) (old new : List ℕ) (u : Tree) → IfOk r (λ t. IsWritten old new u (tree_of t)) → IfOk r (λ t. (behind : List ℕ) → tree_of t ≡ substitute (by_place (new ++ behind)) u)
written_term (Ok t) old new u is = is.term
written_term (Err e) old new u is = tt

-- one argument of a class more
pub class_next : (g : ℕ → Tree) (ks : List ℕ) (i : ℕ) (old mid new : List ℕ) (ts made : List Tree) (t : Tree) → i < length ks → made ≡ ts ++ t ∷ [] → AreWritten old mid (map g (take i ks)) ts → IsWritten mid new (g (nth ks i)) t → AreWritten old new (map g (take (i + 1) ks)) made
class_next g ks i old mid new ts made t h pushed before one =
    subst (λ (l : List Tree). AreWritten old new (map g (take (i + 1) ks)) l) (sym pushed)
    (subst (λ (us : List Tree). AreWritten old new us (ts ++ t ∷ [])) (sym (map_more g ks i 0 h)) (next_written old mid new (map g (take i ks)) ts (g (nth ks i)) t before one))

-- and one of a term
pub term_next : (s : Substitution) (xs : List Term) (i : ℕ) (x : Term) (old mid new : List ℕ) (ts made : List Tree) (t : Tree) → i < length xs → x ≡ slice_index_or xs i x → made ≡ ts ++ t ∷ [] → AreWritten old mid (map (λ y. substitute s (tree_of y)) (take i xs)) ts
    → IsWritten mid new (substitute s (tree_of x)) t → AreWritten old new (map (λ y. substitute s (tree_of y)) (take (i + 1) xs)) made
term_next s xs i x old mid new ts made t h at pushed before one =
    subst (λ (l : List Tree). AreWritten old new (map (λ y. substitute s (tree_of y)) (take (i + 1) xs)) l) (sym pushed)
    (subst (λ (us : List Tree). AreWritten old new us (ts ++ t ∷ [])) (made_next (substitute s) xs i x h at) (next_written old mid new (map (λ y. substitute s (tree_of y)) (take i xs)) ts (substitute s (tree_of x)) t before one))
