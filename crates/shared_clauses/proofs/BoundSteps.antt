-- Terms of a bank that are bound, and matches.
use Rattle.std.proofs.Common.{◌≡◌, ◌↔◌, ℕ, zero, suc, ◌+◌, ◌<◌, ◌≤◌, Bool, true, false, IsTrue, if◌then◌else◌, List, [], ◌∷◌, ◌++◌, length, map, drop, slice_index_or, Option, Some, None, refl, sym, ap, ap₂, ◌∙◌, subst, arith}
use Rattle.std.specs.Option.{option_and_then}
use Rattle.std.proofs.lemmas.Bool.{eq-eqb, ne_eqb, false≢true}
use Rattle.std.proofs.lemmas.List.{drop_all, drop_more, map-append}
use Rattle.fol_core.specs.TermView.{tree_of, tree_list}
use Rattle.fol_core.specs.Tree.{Tree, Trees, nodes, nodes_of, var, elem, app, trees_of}
use Rattle.fol_core.specs.declared.term.Term.{Term}
use Rattle.shared_clauses.specs.Bound.{AreBoundBelow, IsMatched, binding_in, bound_in}
use Rattle.shared_clauses.specs.Nodes.{IsNoApplication}
use Rattle.substitutions.specs.Bindings.{Binding}
use Rattle.term_bank.specs.Bank.{Grows, tree_at}
use Rattle.term_bank.specs.Cells.{AreNumbersBelow, numbers}
use Rattle.term_bank.specs.declared.id.TermId.{TermId}
use Rattle.term_bank.proofs.Building.{below_more, grows_at, grows_length}
use Rattle.term_matches.proofs.MatchSteps.{bound_same, bound_other}
use Rattle.unifiers.specs.Matching.{bound_term, bound_to, matched, matched_all}

abbrev Bound : Type 0
Bound = ℕ × TermId

-- the binding of a variable
pub given_here : (bank : List Tree) (bs : List Bound) (i x : ℕ) (d : Bound) → i < length bs → x ≡ (slice_index_or bs i d).0 → bound_term (bound_in bank (drop i bs)) x ≡ Some (tree_at bank (slice_index_or bs i d).1.0)
given_here bank [] i x d h is = absurd (omega (arith, h))
given_here bank (b ∷ bs) zero x d h is = ap (λ t. if t then Some (tree_at bank b.1.0) else bound_term (bound_in bank bs) x) (eq-eqb x b.0 is)
given_here bank (b ∷ bs) (suc i) x d h is = given_here bank bs i x d (omega (arith, h)) is

pub given_on : (bank : List Tree) (bs : List Bound) (i x : ℕ) (d : Bound) → i < length bs → (x ≡ (slice_index_or bs i d).0 → ⊥) → bound_term (bound_in bank (drop (i + 1) bs)) x ≡ bound_term (bound_in bank (drop i bs)) x
given_on bank bs i x d h other =
    sym (ap (λ l. bound_term (bound_in bank l) x) (drop_more bs i d h) ∙ ap (λ t. if t then Some (tree_at bank (slice_index_or bs i d).1.0) else bound_term (bound_in bank (drop (i + 1) bs)) x) (ne_eqb x (slice_index_or bs i d).0 other))

pub given_end : (bank : List Tree) (bs : List Bound) (i x : ℕ) → length bs ≤ i → bound_term (bound_in bank (drop i bs)) x ≡ None
given_end bank bs i x h = ap (λ l. bound_term (bound_in bank l) x) (drop_all i bs h)

pub bound_below : (n : ℕ) (bs : List Bound) (i : ℕ) (d : Bound) → i < length bs → AreBoundBelow n bs → (slice_index_or bs i d).1.0 < n
bound_below n [] i d h below = absurd (omega (arith, h))
bound_below n (b ∷ bs) zero d h below = below.0
bound_below n (b ∷ bs) (suc i) d h below = bound_below n bs i d (omega (arith, h)) below.1

below_push : (n : ℕ) (bs : List Bound) (b : Bound) → AreBoundBelow n bs → b.1.0 < n → AreBoundBelow n (bs ++ b ∷ [])
below_push n [] b below h = (h, tt)
below_push n (c ∷ bs) b below h = (below.0, below_push n bs b below.1 h)

-- a variable that is bound, or is from now on
pub bound_old : (bank : List Tree) (bs : List Bound) (x : ℕ) (t u : Tree) (b : Bool) → Some u ≡ bound_term (bound_in bank bs) x → IsTrue b ↔ (u ≡ t) → AreBoundBelow (length bank) bs → IsMatched (bound_to (bound_term (bound_in bank bs) x) x t (bound_in bank bs)) bank bs b
bound_old bank bs x t u true is same below = (bound_same (bound_in bank bs) x t u (sym is) (same.0 refl), below)
bound_old bank bs x t u false is same below = bound_other (bound_in bank bs) x t u (sym is) (λ e. false≢true (same.1 e))

pub bound_new : (bank : List Tree) (bs new : List Bound) (x : ℕ) (id : TermId) → None ≡ bound_term (bound_in bank bs) x → new ≡ bs ++ (x, id) ∷ [] → AreBoundBelow (length bank) bs → id.0 < length bank
    → IsMatched (bound_to (bound_term (bound_in bank bs) x) x (tree_at bank id.0) (bound_in bank bs)) bank new true
bound_new bank bs new x id is pushed below h = (
  ap (λ o. bound_to o x (tree_at bank id.0) (bound_in bank bs)) (sym is) ∙ ap (λ l. Some l) (sym (ap (bound_in bank) pushed ∙ map-append (binding_in bank) bs ((x, id) ∷ []))),
  subst (λ (l : List Bound). AreBoundBelow (length bank) l) (sym pushed) (below_push (length bank) bs (x, id) below h),
)

-- what is no application isn't matched by one
pub no_application : (f : ℕ) (ss : Trees) (t : Tree) (bs : List Binding) → IsNoApplication f t → matched (app f ss) t bs ≡ None
no_application f ss (var x) bs h = refl
no_application f ss (elem k) bs h = refl
no_application f ss (app g ts) bs h = ap (λ b. if b then matched_all ss ts bs else None) (ne_eqb f g (λ e. h ts (ap (λ n. app n ts) e)))

-- arguments from one place on
abbrev pub match_rest : List Tree → List Term → List TermId → ℕ → List Binding → Option (List Binding)
match_rest bank ls ks i bs = matched_all (trees_of (tree_list (drop i ls))) (trees_of (map (λ (k : TermId). tree_at bank k.0) (drop i ks))) bs

pub match_whole : (bank : List Tree) (f : ℕ) (ls ts : List Term) (us : List Tree) (ks : List TermId) (t : Tree) (bs : List Binding) → app f (trees_of (map (λ (k : TermId). tree_at bank k.0) ks)) ≡ t → ls ≡ ts → tree_list ts ≡ us
    → matched (app f (trees_of us)) t bs ≡ match_rest bank ls ks 0 bs
match_whole bank f ls ts us ks t bs is same view =
    sym (ap (λ u. matched (app f (trees_of us)) u bs) is)
    ∙ ap (λ b. if b then matched_all (trees_of us) (trees_of (map (λ (k : TermId). tree_at bank k.0) ks)) bs else None) (eq-eqb f f refl)
    ∙ ap (λ vs. matched_all (trees_of vs) (trees_of (map (λ (k : TermId). tree_at bank k.0) ks)) bs) (sym (ap tree_list same ∙ view))

pub match_uneven : (bank : List Tree) (ls : List Term) (ks : List TermId) (bs : List Binding) → (length ls ≡ length ks → ⊥) → match_rest bank ls ks 0 bs ≡ None
match_uneven bank [] [] bs h = absurd (h refl)
match_uneven bank [] (k ∷ ks) bs h = refl
match_uneven bank (l ∷ ls) [] bs h = refl
match_uneven bank (l ∷ ls) (k ∷ ks) bs h = by (matched (tree_of l) (tree_at bank k.0) bs) (λ cs. match_uneven bank ls ks cs (λ e. h (ap suc e)))
  where
    by : (o : Option (List Binding)) → ((cs : List Binding) → match_rest bank ls ks 0 cs ≡ None) → option_and_then (λ cs. match_rest bank ls ks 0 cs) o ≡ None
    by None rest = refl
    by (Some cs) rest = rest cs

step : (bank : List Tree) (ls : List Term) (ks : List TermId) (i : ℕ) (l : Term) (d : TermId) (bs : List Binding) → i < length ls → l ≡ slice_index_or ls i l → length ls ≡ length ks
    → match_rest bank ls ks i bs ≡ option_and_then (λ cs. match_rest bank ls ks (i + 1) cs) (matched (tree_of l) (tree_at bank (slice_index_or ks i d).0) bs)
step bank ls ks i l d bs h at even =
    ap₂ (λ a b. matched_all (trees_of (tree_list a)) (trees_of (map (λ (k : TermId). tree_at bank k.0) b)) bs) (drop_more ls i l h ∙ ap (λ m. m ∷ drop (i + 1) ls) (sym at)) (drop_more ks i d (omega (arith, h, even)))

pub match_next : (bank : List Tree) (ls : List Term) (ks : List TermId) (i : ℕ) (l : Term) (d : TermId) (bs cs : List Binding) → i < length ls → l ≡ slice_index_or ls i l → length ls ≡ length ks → matched (tree_of l) (tree_at bank (slice_index_or ks i d).0) bs ≡ Some cs
    → match_rest bank ls ks (i + 1) cs ≡ match_rest bank ls ks i bs
match_next bank ls ks i l d bs cs h at even e = sym (step bank ls ks i l d bs h at even ∙ ap (option_and_then (λ cs. match_rest bank ls ks (i + 1) cs)) e)

pub match_fails : (bank : List Tree) (ls : List Term) (ks : List TermId) (i : ℕ) (l : Term) (d : TermId) (bs : List Binding) → i < length ls → l ≡ slice_index_or ls i l → length ls ≡ length ks → matched (tree_of l) (tree_at bank (slice_index_or ks i d).0) bs ≡ None
    → match_rest bank ls ks i bs ≡ None
match_fails bank ls ks i l d bs h at even e = step bank ls ks i l d bs h at even ∙ ap (option_and_then (λ cs. match_rest bank ls ks (i + 1) cs)) e

pub match_end : (bank : List Tree) (ls : List Term) (ks : List TermId) (i : ℕ) (bs : List Binding) → length ls ≤ i → length ls ≡ length ks → match_rest bank ls ks i bs ≡ Some bs
match_end bank ls ks i bs h even = ap₂ (λ a b. matched_all (trees_of (tree_list a)) (trees_of (map (λ (k : TermId). tree_at bank k.0) b)) bs) (drop_all i ls h) (drop_all i ks (omega (arith, h, even)))

pub argument_below : (n : ℕ) (ks : List TermId) (i : ℕ) (d : TermId) → i < length ks → AreNumbersBelow n (numbers ks) → (slice_index_or ks i d).0 < n
argument_below n [] i d h below = absurd (omega (arith, h))
argument_below n (k ∷ ks) zero d h below = below.0
argument_below n (k ∷ ks) (suc i) d h below = argument_below n ks i d (omega (arith, h)) below.1

-- what is bound stays where the bank grows
pub bound_on : (a b : List Tree) (bs : List Bound) → Grows a b → AreBoundBelow (length a) bs → bound_in b bs ≡ bound_in a bs
bound_on a b [] grows below = refl
bound_on a b (c ∷ bs) grows below = ap₂ (λ (t : Tree) (es : List Binding). (c.0, t) ∷ es) (grows_at a b grows c.1.0 below.0) (bound_on a b bs grows below.1)

pub bound_more : (a b : List Tree) (bs : List Bound) → Grows a b → AreBoundBelow (length a) bs → AreBoundBelow (length b) bs
bound_more a b bs grows below = below_more (length a) (length b) (grows_length a b grows) (map (λ c. c.1.0) bs) below

-- an argument is smaller
pub item_nodes : (ts : List Term) (i : ℕ) (t : Term) → i < length ts → t ≡ slice_index_or ts i t → nodes (tree_of t) ≤ nodes_of (trees_of (tree_list ts))
item_nodes [] i t h is = absurd (omega (arith, h))
item_nodes (u ∷ ts) zero t h is = let e : nodes (tree_of t) ≡ nodes (tree_of u) = ap (λ v. nodes (tree_of v)) is in omega (arith, e)
item_nodes (u ∷ ts) (suc i) t h is = let rest = item_nodes ts i t (omega (arith, h)) is in omega (arith, rest)
