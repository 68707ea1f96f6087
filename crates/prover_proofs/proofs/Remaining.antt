-- What is left of lists: levels and sizes, from a place on.
use Rattle.std.proofs.Common.{◌≡◌, ℕ, suc, ◌+◌, ◌<◌, ◌≤◌, max, length, List, ◌∷◌, [], ◌++◌, get_or, drop, refl, sym, ap, add-one, drop-cons, map}
use Rattle.std.proofs.lemmas.List.{drop_all}
use Rattle.clause_store.specs.Ancestors.{line_parents}
use Rattle.clause_store.specs.Lines.{plain_content, plain_line}
use Rattle.derivation.specs.View.{line_tree}
use Rattle.derivation.specs.declared.line.Line.{Line}
use Rattle.fol_core.specs.ClauseView.{literal_of}
use Rattle.fol_core.specs.Sizes.{size_of, sizes_of}
use Rattle.fol_core.specs.TermView.{tree_of, tree_list}
use Rattle.fol_core.specs.Tree.{trees_of}
use Rattle.fol_core.specs.declared.clause.Literal.{Literal}
use Rattle.fol_core.specs.declared.term.Term.{Term}
use Rattle.prover_proofs.specs.Levels.{level_among, level_above, with_levels, content_size, greatest_size}
use Rattle.prover_steps.specs.Searching.{clause_size}

left_next : {X : Type 0} (xs : List X) (i : ℕ) (x : X) → i < length xs → x ≡ get_or xs i x → drop i xs ≡ x ∷ drop (i + 1) xs
left_next xs i x h is = rw (add-one, drop-cons xs i x) (ap (λ u. u ∷ drop (suc i) xs) (sym is))

left_here : {X : Type 0} (xs : List X) (i : ℕ) (d : X) → i < length xs → drop i xs ≡ get_or xs i d ∷ drop (i + 1) xs
left_here xs i d h = rw (add-one, drop-cons xs i d) refl

-- the level of a line with the parents from a place on
abbrev pub above_from : List (ℕ × ℕ) → List ℕ → ℕ → ℕ
above_from ks ns i = level_above ks (drop i ns)

pub above_next : (ks : List (ℕ × ℕ)) (ns : List ℕ) (i d : ℕ) → i < length ns → above_from ks ns i ≡ max (suc (level_among ks (get_or ns i d))) (above_from ks ns (i + 1))
above_next ks ns i d h = ap (level_above ks) (left_here ns i d h)

pub above_end : (ks : List (ℕ × ℕ)) (ns : List ℕ) (i : ℕ) → length ns ≤ i → above_from ks ns i ≡ 0
above_end ks ns i h = ap (level_above ks) (drop_all i ns h)

-- lines with their levels, behind those before a place
abbrev pub levels_from : List (ℕ × ℕ) → List Line → ℕ → List (ℕ × ℕ)
levels_from ks ls i = with_levels ks (map line_tree (drop i ls))

pub levels_next : (ks : List (ℕ × ℕ)) (ls : List Line) (i : ℕ) (l : Line) → i < length ls → l ≡ get_or ls i l
    → levels_from ks ls i ≡ levels_from (ks ++ (l.number, level_above ks (line_parents (line_tree l))) ∷ []) ls (i + 1)
levels_next ks ls i l h is = ap (λ js. with_levels ks (map line_tree js)) (left_next ls i l h is)

pub levels_end : (ks : List (ℕ × ℕ)) (ls : List Line) (i : ℕ) → length ls ≤ i → levels_from ks ls i ≡ ks
levels_end ks ls i h = ap (λ js. with_levels ks (map line_tree js)) (drop_all i ls h)

-- how many symbols and variables the terms from a place on have
abbrev pub terms_from : List Term → ℕ → ℕ
terms_from ts i = sizes_of (trees_of (tree_list (drop i ts)))

pub terms_next : (ts : List Term) (i : ℕ) (t : Term) → i < length ts → t ≡ get_or ts i t → terms_from ts i ≡ size_of (tree_of t) + terms_from ts (i + 1)
terms_next ts i t h is = ap (λ us. sizes_of (trees_of (tree_list us))) (left_next ts i t h is)

pub terms_end : (ts : List Term) (i : ℕ) → length ts ≤ i → terms_from ts i ≡ 0
terms_end ts i h = ap (λ us. sizes_of (trees_of (tree_list us))) (drop_all i ts h)

-- and the literals
abbrev pub literals_from : List Literal → ℕ → ℕ
literals_from ls i = clause_size (map literal_of (drop i ls))

pub literals_next : (ls : List Literal) (i : ℕ) (l : Literal) → i < length ls → l ≡ get_or ls i l → literals_from ls i ≡ size_of (tree_of l.atom) + literals_from ls (i + 1)
literals_next ls i l h is = ap (λ ks. clause_size (map literal_of ks)) (left_next ls i l h is)

pub literals_end : (ls : List Literal) (i : ℕ) → length ls ≤ i → literals_from ls i ≡ 0
literals_end ls i h = ap (λ ks. clause_size (map literal_of ks)) (drop_all i ls h)

-- the greatest of the lines from a place on
abbrev pub greatest_from : List Line → ℕ → ℕ
greatest_from ls i = greatest_size (map plain_line (drop i ls))

pub greatest_next : (ls : List Line) (i : ℕ) (l : Line) → i < length ls → l ≡ get_or ls i l → greatest_from ls i ≡ max (content_size (plain_content l.content)) (greatest_from ls (i + 1))
greatest_next ls i l h is = ap (λ ks. greatest_size (map plain_line ks)) (left_next ls i l h is)

pub greatest_end : (ls : List Line) (i : ℕ) → length ls ≤ i → greatest_from ls i ≡ 0
greatest_end ls i h = ap (λ ks. greatest_size (map plain_line ks)) (drop_all i ls h)
