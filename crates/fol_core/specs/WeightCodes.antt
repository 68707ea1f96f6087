-- How the logic stores weights.
use Rattle.std.specs.Prelude.{ℕ, ◌==◌, if◌then◌else◌, refl, ◌≡◌}
use Rattle.std.proofs.Common.{ap₂}
use Rattle.std.specs.Coded.{Coded, code_by}
use base.Stored.{Gv, gnil, gnum, gcons}
use denote.Struct.Codes.{itself}
use Rattle.fol_core.specs.TreeCodes as trees
use Rattle.fol_core.specs.Weights.{WeightTree, number, of_variable, plus, times}

abbrev pub weight_code : WeightTree → Gv
weight_code (number n) = gcons (gnum 0) (gcons (gnum n) gnil)
weight_code (of_variable x) = gcons (gnum 1) (gcons (gnum x) gnil)
weight_code (plus v w) = gcons (gnum 2) (gcons (weight_code v) (weight_code w))
weight_code (times v w) = gcons (gnum 3) (gcons (weight_code v) (weight_code w))

abbrev tagged : ℕ → ℕ → WeightTree → WeightTree → WeightTree
tagged k n v w =
    if k == 0 then number n
    else (if k == 1 then of_variable n else (if k == 2 then plus v w else times v w))

abbrev pub weight_from : Gv → WeightTree
weight_from gnil = number 0
weight_from (gnum n) = number 0
weight_from (gcons k gnil) = number 0
weight_from (gcons k (gnum n)) = number 0
weight_from (gcons k (gcons a b)) =
    tagged (trees.stored_number k) (trees.stored_number a) (weight_from a) (weight_from b)

pub weight_back : (w : WeightTree) → weight_from (weight_code w) ≡ w
weight_back (number n) = refl
weight_back (of_variable x) = refl
weight_back (plus v w) = ap₂ plus (weight_back v) (weight_back w)
weight_back (times v w) = ap₂ times (weight_back v) (weight_back w)

abbrev pub coded_weight : Coded WeightTree
coded_weight = code_by Gv itself weight_code weight_from weight_back
