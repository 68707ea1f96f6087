-- The ends of texts, and the lists of arguments.
use Rattle.std.proofs.Common.{◌≡◌, ℕ, zero, suc, ◌-◌, ◌<◌, ◌≤◌, get_or, map, take, true, false, List, [], ◌∷◌, length, refl, sym, ap, ◌∙◌, arith}
use Rattle.std.specs.Prelude.{slice_get, ◌==◌, codes}
use Rattle.std.specs.Str.{bytes_eq}
use Rattle.std.proofs.lemmas.List.{take_all}
use Rattle.ladr_print.specs.FormulaText.{denial}
use Rattle.fol_core.specs.RawTree.{named, no_raws, more_raws, RawTree, raws_of, raw_nodes, raw_nodes_of}
use Rattle.fol_core.specs.RawView.{raw_of, raw_list}
use Rattle.fol_core.specs.declared.raw.Raw.{Raw}
use Rattle.ladr_print.specs.Precedences.{raws_count}
use Rattle.fol_core.specs.SymbolTable.{Symbol}
use Rattle.fol_core.specs.Tree.{trees_of}
use Rattle.fol_core.specs.TermView.{tree_of, tree_list}
use Rattle.fol_core.specs.declared.term.Term.{Term}
use Rattle.ladr_print.specs.TermText.{term_raw, terms_raw}
use Rattle.ladr_print.specs.Spacing.{first_byte, last_of, both_join, runs_into}

first_get : (xs : List ℕ) → first_byte xs ≡ slice_get xs 0
first_get [] = refl
first_get (x ∷ xs) = refl

last_get : (xs : List ℕ) → last_of xs ≡ slice_get xs (length xs - 1)
last_get [] = refl
last_get (x ∷ []) = refl
last_get (x ∷ y ∷ ys) =
    let e : suc (suc (length ys)) - 1 ≡ suc (length ys) = omega arith in
    let f : suc (length ys) - 1 ≡ length ys = omega arith in
    last_get (y ∷ ys) ∙ ap (slice_get (y ∷ ys)) f ∙ sym (ap (slice_get (x ∷ y ∷ ys)) e)

pub runs_get : (left right : List ℕ) → runs_into left right ≡ both_join (slice_get left (length left - 1)) (slice_get right 0)
runs_get left right = λ i. both_join (last_get left i) (first_get right i)

pub count_raws : (ts : List RawTree) → raws_count (raws_of ts) ≡ length ts
count_raws [] = refl
count_raws (t ∷ ts) = ap suc (count_raws ts)

-- an argument is no greater than all of them
pub nodes_item : (ts : List Raw) (i : ℕ) (d : Raw) → i < length ts → raw_nodes (raw_of (get_or ts i d)) ≤ raw_nodes_of (raws_of (raw_list ts))
nodes_item [] i d h = absurd (omega arith)
nodes_item (t ∷ ts) zero d h = omega arith
nodes_item (t ∷ ts) (suc i) d h = omega (arith, nodes_item ts i d (omega arith))

-- the terms as read of terms, once all are made
raws_all : (table : List Symbol) (v : ℕ → List ℕ) (ts : List Term) → raws_of (map (λ t. term_raw table v (tree_of t)) ts) ≡ terms_raw table v (trees_of (tree_list ts))
raws_all table v [] = refl
raws_all table v (t ∷ ts) = ap (more_raws (term_raw table v (tree_of t))) (raws_all table v ts)

pub raws_made :
    (table : List Symbol) (v : ℕ → List ℕ) (ts : List Term) (i : ℕ) (args : List RawTree) → length ts ≤ i → args ≡ map (λ t. term_raw table v (tree_of t)) (take i ts) →
    raws_of args ≡ terms_raw table v (trees_of (tree_list ts))
raws_made table v ts i args h e = ap raws_of (e ∙ ap (map (λ t. term_raw table v (tree_of t))) (take_all i ts h)) ∙ raws_all table v ts

-- a denial, by its name and arguments
pub denial_short : (n : List ℕ) (ts : List RawTree) → (length ts == 2) ≡ false → denial (named n (raws_of ts)) ≡ named (codes "-") (more_raws (named n (raws_of ts)) no_raws)
denial_short n [] h = refl
denial_short n (t ∷ []) h = refl
denial_short n (t ∷ u ∷ []) h = absurd (cc)
denial_short n (t ∷ u ∷ w ∷ ts) h = refl

pub denial_other : (n : List ℕ) (ts : List RawTree) → bytes_eq n (codes "=") ≡ false → denial (named n (raws_of ts)) ≡ named (codes "-") (more_raws (named n (raws_of ts)) no_raws)
denial_other n [] h = refl
denial_other n (t ∷ []) h = refl
denial_other n (t ∷ u ∷ []) h = rw h refl
denial_other n (t ∷ u ∷ w ∷ ts) h = refl

pub denial_equation : (n : List ℕ) (ts : List RawTree) → length ts ≡ 2 → bytes_eq n (codes "=") ≡ true → denial (named n (raws_of ts)) ≡ named (codes "!=") (raws_of ts)
denial_equation n [] h e = absurd (cc)
denial_equation n (t ∷ []) h e = absurd (omega arith)
denial_equation n (t ∷ u ∷ []) h e = rw e refl
denial_equation n (t ∷ u ∷ w ∷ ts) h e = absurd (omega arith)
