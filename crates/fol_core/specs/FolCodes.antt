-- How the logic stores formulas.
use Rattle.std.specs.Prelude.{ℕ, ◌==◌, if◌then◌else◌, refl, ◌≡◌}
use Rattle.std.proofs.Common.{ap, ap₂}
use Rattle.std.specs.Coded.{Coded, code_by}
use base.Stored.{Gv, gnil, gnum, gcons}
use denote.Struct.Codes.{itself}
use Rattle.fol_core.specs.Fol.{Fol, verum, falsum, equal, atom, negation, conjunction, disjunction, implication, equivalence, forall, exists}
use Rattle.fol_core.specs.TreeCodes.{tree_code, trees_code, tree_from, trees_from, tree_back, trees_back, stored_number}

abbrev pub fol_code : Fol → Gv
fol_code verum = gcons (gnum 0) (gcons gnil gnil)
fol_code falsum = gcons (gnum 1) (gcons gnil gnil)
fol_code (equal s t) = gcons (gnum 2) (gcons (tree_code s) (tree_code t))
fol_code (atom r ts) = gcons (gnum 3) (gcons (gnum r) (trees_code ts))
fol_code (negation f) = gcons (gnum 4) (gcons (fol_code f) gnil)
fol_code (conjunction f g) = gcons (gnum 5) (gcons (fol_code f) (fol_code g))
fol_code (disjunction f g) = gcons (gnum 6) (gcons (fol_code f) (fol_code g))
fol_code (implication f g) = gcons (gnum 7) (gcons (fol_code f) (fol_code g))
fol_code (equivalence f g) = gcons (gnum 8) (gcons (fol_code f) (fol_code g))
fol_code (forall x f) = gcons (gnum 9) (gcons (gnum x) (fol_code f))
fol_code (exists x f) = gcons (gnum 10) (gcons (gnum x) (fol_code f))

abbrev fol_tagged : ℕ → Gv → Gv → Fol → Fol → Fol
fol_tagged k a b f g =
    if k == 0 then verum
    else (if k == 1 then falsum
    else (if k == 2 then equal (tree_from a) (tree_from b)
    else (if k == 3 then atom (stored_number a) (trees_from b)
    else (if k == 4 then negation f
    else (if k == 5 then conjunction f g
    else (if k == 6 then disjunction f g
    else (if k == 7 then implication f g else (if k == 8 then equivalence f g
    else (if k == 9 then forall (stored_number a) g else exists (stored_number a) g)))))))))

abbrev pub fol_from : Gv → Fol
fol_from gnil = verum
fol_from (gnum n) = verum
fol_from (gcons k gnil) = verum
fol_from (gcons k (gnum n)) = verum
fol_from (gcons k (gcons a b)) = fol_tagged (stored_number k) a b (fol_from a) (fol_from b)

pub fol_back : (f : Fol) → fol_from (fol_code f) ≡ f
fol_back verum = refl
fol_back falsum = refl
fol_back (equal s t) = ap₂ equal (tree_back s) (tree_back t)
fol_back (atom r ts) = ap (atom r) (trees_back ts)
fol_back (negation f) = ap negation (fol_back f)
fol_back (conjunction f g) = ap₂ conjunction (fol_back f) (fol_back g)
fol_back (disjunction f g) = ap₂ disjunction (fol_back f) (fol_back g)
fol_back (implication f g) = ap₂ implication (fol_back f) (fol_back g)
fol_back (equivalence f g) = ap₂ equivalence (fol_back f) (fol_back g)
fol_back (forall x f) = ap (forall x) (fol_back f)
fol_back (exists x f) = ap (exists x) (fol_back f)

abbrev pub coded_fol : Coded Fol
coded_fol = code_by Gv itself fol_code fol_from fol_back
