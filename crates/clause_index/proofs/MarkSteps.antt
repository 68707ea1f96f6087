-- Marks, as they are gathered.
use Rattle.std.proofs.Common.{◌≡◌, ℕ, ◌+◌, ◌≤◌, List, ◌++◌, length, drop, map, sym, ap, ◌∙◌, append-nil}
use Rattle.std.proofs.lemmas.List.{drop_all}
use Rattle.clause_index.specs.Marks.{terms_marks, marks_of}
use Rattle.fol_core.specs.ClauseView.{literal_of}
use Rattle.fol_core.specs.Tree.{trees_of}
use Rattle.fol_core.specs.TermView.{tree_list}
use Rattle.fol_core.specs.declared.clause.Literal.{Literal}
use Rattle.fol_core.specs.declared.term.Term.{Term}

-- those of the terms from a place on
abbrev pub terms_from : ℕ → List Term → ℕ → List ℕ
terms_from mark ts i = terms_marks mark (i + 1) (trees_of (tree_list (drop i ts)))

-- those of the literals from a place on
abbrev pub literals_from : List Literal → ℕ → List ℕ
literals_from ls i = marks_of (map literal_of (drop i ls))

-- no literal is left
pub all_gathered : (ms all : List ℕ) (ls : List Literal) (i : ℕ) → ms ++ literals_from ls i ≡ all → length ls ≤ i → ms ≡ all
all_gathered ms all ls i so past = sym (append-nil ms) ∙ ap (λ ks. ms ++ marks_of (map literal_of ks)) (sym (drop_all i ls past)) ∙ so
