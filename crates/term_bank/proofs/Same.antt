-- Cells are equal exactly where their terms are.
use Rattle.std.proofs.Common.{◌≡◌, ◌==◌, ◌&&◌, Bool, true, false, refl, sym, ap, ap₂, ◌∙◌, List, [], ◌∷◌, length, map, eq-eqb, eqb-true}
use Rattle.std.specs.Cmp.Lexicographic.{pointwise}
use Rattle.fol_core.specs.Tree.{Tree, var, elem, app, trees_of, list_of}
use Rattle.term_bank.specs.Bank.{tree_at, AreOnce}
use Rattle.term_bank.specs.Cells.{AreNumbersBelow, numbers, ArgumentsAreIn, tree_in}
use Rattle.term_bank.specs.declared.cell.TermCell.{TermCell}
use Rattle.term_bank.specs.declared.cell.TermCell.TheVariants.{Variable, Element, Application}
use Rattle.term_bank.specs.declared.id.TermId.{TermId}
use Rattle.term_bank.specs.contracts.cell.TermCellPartialEq.TheImpl.{eq-value}

abbrev pub equal_cells : TermCell → TermCell → Bool
equal_cells = eq-value.it

-- whether two lists have the same numbers
abbrev equal_ids : List TermId → List TermId → Bool
equal_ids ks js = pointwise (λ k j. k.0 == j.0) ks js

split_and : (a b : Bool) → (a && b) ≡ true → (a ≡ true) × (b ≡ true)
split_and true b h = (refl, h)
split_and false b h = cc

both_true : (a b : Bool) → a ≡ true → b ≡ true → (a && b) ≡ true
both_true true b h k = k
both_true false b h k = cc

abbrev arguments_in : Tree → List Tree
arguments_in (var x) = []
arguments_in (elem k) = []
arguments_in (app f ts) = list_of ts

back : (ts : List Tree) → list_of (trees_of ts) ≡ ts
back [] = refl
back (t ∷ ts) = ap (λ us. t ∷ us) (back ts)

module _ (bank : List Tree) where
  abbrev trees : List TermId → List Tree
  trees ks = map (λ k. tree_at bank k.0) ks

  same_arguments : (ks js : List TermId) → equal_ids ks js ≡ true → trees ks ≡ trees js
  same_arguments [] [] h = refl
  same_arguments [] (j ∷ js) h = cc
  same_arguments (k ∷ ks) [] h = cc
  same_arguments (k ∷ ks) (j ∷ js) h =
      let parts = split_and (k.0 == j.0) (equal_ids ks js) h in
      ap₂ (λ (t : Tree) (ts : List Tree). t ∷ ts) (ap (tree_at bank) (eqb-true k.0 j.0 parts.0)) (same_arguments ks js parts.1)

  equal_arguments : AreOnce bank → (ks js : List TermId) → AreNumbersBelow (length bank) (numbers ks) → AreNumbersBelow (length bank) (numbers js)
      → trees ks ≡ trees js → equal_ids ks js ≡ true
  equal_arguments once [] [] b c h = refl
  equal_arguments once [] (j ∷ js) b c h = cc
  equal_arguments once (k ∷ ks) [] b c h = cc
  equal_arguments once (k ∷ ks) (j ∷ js) b c h =
      both_true (k.0 == j.0) (equal_ids ks js)
      (eq-eqb k.0 j.0 (once k.0 j.0 b.0 c.0 (cc)))
      (equal_arguments once ks js b.1 c.1 (cc))

  -- equal cells have the same term
  pub same_tree : (c d : TermCell) → equal_cells c d ≡ true → tree_in bank c ≡ tree_in bank d
  same_tree (Variable x) (Variable y) h = ap var (eqb-true x y h)
  same_tree (Variable x) (Element y) h = cc
  same_tree (Variable x) (Application g js) h = cc
  same_tree (Element x) (Variable y) h = cc
  same_tree (Element x) (Element y) h = ap elem (eqb-true x y h)
  same_tree (Element x) (Application g js) h = cc
  same_tree (Application f ks) (Variable y) h = cc
  same_tree (Application f ks) (Element y) h = cc
  same_tree (Application f ks) (Application g js) h =
      let parts = split_and (f == g) (equal_ids ks.items js.items) h in
      ap₂ (λ n ts. app n (trees_of ts)) (eqb-true f g parts.0) (same_arguments ks.items js.items parts.1)

  -- cells of one term are equal
  pub equal_cell : AreOnce bank → (c d : TermCell) → ArgumentsAreIn (length bank) c → ArgumentsAreIn (length bank) d
      → tree_in bank c ≡ tree_in bank d → equal_cells c d ≡ true
  equal_cell once (Variable x) (Variable y) b e h = eq-eqb x y (cc)
  equal_cell once (Variable x) (Element y) b e h = cc
  equal_cell once (Variable x) (Application g js) b e h = cc
  equal_cell once (Element x) (Variable y) b e h = cc
  equal_cell once (Element x) (Element y) b e h = eq-eqb x y (cc)
  equal_cell once (Element x) (Application g js) b e h = cc
  equal_cell once (Application f ks) (Variable y) b e h = cc
  equal_cell once (Application f ks) (Element y) b e h = cc
  equal_cell once (Application f ks) (Application g js) b e h =
      both_true (f == g) (equal_ids ks.items js.items) (eq-eqb f g (cc))
      (equal_arguments once ks.items js.items b e (sym (back (trees ks.items)) ∙ ap arguments_in h ∙ back (trees js.items)))
