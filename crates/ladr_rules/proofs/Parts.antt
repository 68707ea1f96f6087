-- Terms as they are read, behind one another.
use Rattle.std.proofs.Common.{◌≡◌, ℕ, ◌+◌, ◌<◌, ◌≤◌, ◌==◌, Bool, if◌then◌else◌, List, [], ◌∷◌, length, drop, get_or, refl, sym, ap, ◌∙◌}
use Rattle.std.proofs.lemmas.List.{drop_more, drop_all}
use Rattle.fol_core.specs.RawTree.{RawTree, RawTrees, named, no_raws, more_raws, raws_of}
use Rattle.fol_core.specs.RawView.{raw_of, raw_list}
use Rattle.fol_core.specs.declared.raw.Raw.{Raw}
use Rattle.ladr_formulas.specs.declared.styles.Style.{Style}
use Rattle.ladr_rules.specs.Rules.{variable_names, all_names, is_bare}
use Rattle.ladr_rules.proofs.Arities.{no_none}

-- the terms from a place on
abbrev pub raws_from : List Raw → ℕ → RawTrees
raws_from raws i = raws_of (raw_list (drop i raws))

-- they are the term there and those from the next place on
pub raws_next : (raws : List Raw) (i : ℕ) (raw : Raw) → i < length raws → raw ≡ get_or raws i raw → raws_from raws i ≡ more_raws (raw_of raw) (raws_from raws (i + 1))
raws_next raws i raw l e = ap (λ (rs : List Raw). raws_of (raw_list rs)) (drop_more raws i raw l ∙ ap (λ (r : Raw). r ∷ drop (i + 1) raws) (sym e))

-- past the end there are none
pub raws_end : (raws : List Raw) (i : ℕ) → length raws ≤ i → raws_from raws i ≡ no_raws
raws_end raws i past = ap (λ (rs : List Raw). raws_of (raw_list rs)) (drop_all i raws past)

pub names_by_length : (st : Style) (s : List ℕ) (ts : List RawTree) → variable_names st (named s (raws_of ts)) ≡ (if length ts == 0 then variable_names st (named s no_raws) else all_names st (raws_of ts))
names_by_length st s [] = refl
names_by_length st s (t ∷ ts) = ap (λ (b : Bool). if b then variable_names st (named s no_raws) else all_names st (raws_of (t ∷ ts))) (sym (no_none (length ts)))

pub bare_by_length : (ts : List RawTree) → is_bare (raws_of ts) ≡ (length ts == 0)
bare_by_length [] = refl
bare_by_length (t ∷ ts) = sym (no_none (length ts))
