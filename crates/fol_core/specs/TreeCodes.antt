-- How the logic stores trees.
use Rattle.std.specs.Prelude.{ℕ, ◌==◌, if◌then◌else◌, List, refl, ◌≡◌}
use Rattle.std.proofs.Common.{ap, ap₂}
use Rattle.std.specs.Coded.{Coded, code_by, coded_list}
use base.Stored.{Gv, gnil, gnum, gcons}
use denote.Struct.Codes.{itself}
use Rattle.fol_core.specs.Tree.{Tree, var, elem, app, Trees, none, more}

abbrev mutual
  pub tree_code : Tree → Gv
  tree_code (var x) = gcons (gnum 0) (gnum x)
  tree_code (elem k) = gcons (gnum 1) (gnum k)
  tree_code (app s ts) = gcons (gnum 2) (gcons (gnum s) (trees_code ts))

  pub trees_code : Trees → Gv
  trees_code none = gnil
  trees_code (more t ts) = gcons (tree_code t) (trees_code ts)

abbrev pub stored_number : Gv → ℕ
stored_number (gnum n) = n
stored_number gnil = 0
stored_number (gcons a b) = 0

abbrev mutual
  pub tree_from : Gv → Tree
  tree_from gnil = var 0
  tree_from (gnum n) = var n
  tree_from (gcons k (gcons s ts)) = app (stored_number s) (trees_from ts)
  tree_from (gcons k gnil) = var 0
  tree_from (gcons k (gnum n)) = if stored_number k == 0 then var n else elem n

  pub trees_from : Gv → Trees
  trees_from gnil = none
  trees_from (gnum n) = none
  trees_from (gcons t ts) = more (tree_from t) (trees_from ts)

mutual
  pub tree_back : (t : Tree) → tree_from (tree_code t) ≡ t
  tree_back (var x) = refl
  tree_back (elem k) = refl
  tree_back (app s ts) = ap (app s) (trees_back ts)

  pub trees_back : (ts : Trees) → trees_from (trees_code ts) ≡ ts
  trees_back none = refl
  trees_back (more t ts) = ap₂ more (tree_back t) (trees_back ts)

abbrev pub coded_tree : Coded Tree
coded_tree = code_by Gv itself tree_code tree_from tree_back

abbrev pub coded_trees : Coded (List Tree)
coded_trees = coded_list coded_tree
