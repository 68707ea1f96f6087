-- How the logic stores terms as they are read.
use Rattle.std.specs.Prelude.{ℕ, ◌==◌, if◌then◌else◌, List, [], ◌∷◌, refl, ◌≡◌}
use Rattle.std.proofs.Common.{ap, ap₂}
use Rattle.std.specs.Coded.{Coded, code_by, coded_list}
use base.Stored.{Gv, gnil, gnum, gcons}
use denote.Struct.Codes.{itself}
use Rattle.fol_core.specs.RawTree.{RawTree, named, quantified, RawTrees, no_raws, more_raws}
use Rattle.fol_core.specs.TreeCodes.{stored_number}
use Rattle.fol_core.specs.declared.raw.Quantifier.{Quantifier}
use Rattle.fol_core.specs.declared.raw.Quantifier.TheVariants.{All, Exists}

abbrev name_code : List ℕ → Gv
name_code [] = gnil
name_code (b ∷ bs) = gcons (gnum b) (name_code bs)

abbrev name_from : Gv → List ℕ
name_from gnil = []
name_from (gnum n) = []
name_from (gcons b bs) = stored_number b ∷ name_from bs

name_back : (bs : List ℕ) → name_from (name_code bs) ≡ bs
name_back [] = refl
name_back (b ∷ bs) = ap (λ (cs : List ℕ). b ∷ cs) (name_back bs)

abbrev word_code : Quantifier → ℕ
word_code All = 1
word_code Exists = 2

abbrev mutual
  pub raw_code : RawTree → Gv
  raw_code (named s ts) = gcons (gnum 0) (gcons (name_code s) (raws_code ts))
  raw_code (quantified q x t) = gcons (gnum (word_code q)) (gcons (name_code x) (raw_code t))

  pub raws_code : RawTrees → Gv
  raws_code no_raws = gnil
  raws_code (more_raws t ts) = gcons (raw_code t) (raws_code ts)

abbrev mutual
  pub raw_from : Gv → RawTree
  raw_from gnil = named [] no_raws
  raw_from (gnum n) = named [] no_raws
  raw_from (gcons k gnil) = named [] no_raws
  raw_from (gcons k (gnum n)) = named [] no_raws
  raw_from (gcons k (gcons a b)) =
      if stored_number k == 0 then named (name_from a) (raws_from b)
      else (if stored_number k == 1 then quantified All (name_from a) (raw_from b)
      else quantified Exists (name_from a) (raw_from b))

  pub raws_from : Gv → RawTrees
  raws_from gnil = no_raws
  raws_from (gnum n) = no_raws
  raws_from (gcons t ts) = more_raws (raw_from t) (raws_from ts)

mutual
  pub raw_back : (t : RawTree) → raw_from (raw_code t) ≡ t
  raw_back (named s ts) = ap₂ named (name_back s) (raws_back ts)
  raw_back (quantified All x t) = ap₂ (quantified All) (name_back x) (raw_back t)
  raw_back (quantified Exists x t) = ap₂ (quantified Exists) (name_back x) (raw_back t)

  pub raws_back : (ts : RawTrees) → raws_from (raws_code ts) ≡ ts
  raws_back no_raws = refl
  raws_back (more_raws t ts) = ap₂ more_raws (raw_back t) (raws_back ts)

abbrev pub coded_raw : Coded RawTree
coded_raw = code_by Gv itself raw_code raw_from raw_back

abbrev pub coded_raws : Coded (List RawTree)
coded_raws = coded_list coded_raw
