-- Names that a set takes, and what values ask of them.
use Rattle.std.proofs.Common.{◌≡◌, ℕ, ◌+◌, ◌<◌, ◌≤◌, Bool, true, false, ◌&&◌, ◌||◌, if◌then◌else◌, List, [], ◌∷◌, ◌++◌, length, get_or, refl, sym, ap, ap₂, ◌∙◌}
use Rattle.std.proofs.Math.Bool.{or-true, or-false, or_assoc}
use Rattle.std.proofs.lemmas.List.Folds.{list_any-append}
use Rattle.std.proofs.lemmas.Slice.Eq.{bytes_eq-Decides}
use Rattle.std.specs.Prelude.{codes}
use Rattle.std.specs.Str.{bytes_eq}
use Rattle.fol_core.specs.NamesOnce.{is_in, with_name}
use Rattle.fol_core.specs.RawTree.{RawTree, RawTrees, named, quantified, no_raws, more_raws}
use Rattle.fol_core.specs.RawView.{raw_of}
use Rattle.fol_core.specs.declared.raw.Raw.{Raw}
use Rattle.ladr_formulas.specs.declared.styles.Style.{Style}
use Rattle.ladr_rules.specs.Rules.{variable_names, all_names, is_value}
use Rattle.ladr_rules.specs.Seen.{with_names}
use Rattle.ladr_rules.proofs.Parts.{raws_from, raws_next, raws_end}

-- those of two lists come in turn
with_both : (found xs ys : List (List ℕ)) → with_names found (xs ++ ys) ≡ with_names (with_names found xs) ys
with_both found [] ys = refl
with_both found (x ∷ xs) ys = with_both (with_name x found) xs ys

-- those of a term, then those of the terms behind it
pub names_next : (found : List (List ℕ)) (st : Style) (raws : List Raw) (i : ℕ) (raw : Raw) → i < length raws → raw ≡ get_or raws i raw
    → with_names (with_names found (variable_names st (raw_of raw))) (all_names st (raws_from raws (i + 1))) ≡ with_names found (all_names st (raws_from raws i))
names_next found st raws i raw l e =
    sym (ap (λ (rs : RawTrees). with_names found (all_names st rs)) (raws_next raws i raw l e) ∙ with_both found (variable_names st (raw_of raw)) (all_names st (raws_from raws (i + 1))))

-- past the end there are none
pub names_end : (found : List (List ℕ)) (st : Style) (raws : List Raw) (i : ℕ) → length raws ≤ i → with_names found (all_names st (raws_from raws i)) ≡ found
names_end found st raws i past = ap (λ (rs : RawTrees). with_names found (all_names st rs)) (raws_end raws i past)

-- a name is among those with one more where it is one of them or that one
in_more : (x name : List ℕ) (names : List (List ℕ)) → is_in x (with_name name names) ≡ (is_in x names || bytes_eq x name)
in_more x name names = by (is_in name names) refl
  where
    same : (c : Bool) → bytes_eq x name ≡ c → is_in name names ≡ true → is_in x names ≡ (is_in x names || c)
    same true e h = ap (λ (n : List ℕ). is_in n names) ((bytes_eq-Decides x name).0 e) ∙ h ∙ sym (or-true (is_in x names))
    same false e h = sym (or-false (is_in x names))

    by : (b : Bool) → is_in name names ≡ b → is_in x (if b then names else names ++ name ∷ []) ≡ (is_in x names || bytes_eq x name)
    by true h = same (bytes_eq x name) refl h
    by false h = list_any-append (λ (n : List ℕ). bytes_eq x n) names (name ∷ []) ∙ ap (λ (b : Bool). is_in x names || b) (or-false (bytes_eq x name))

-- and among those of both lists where it is in one of them
in_with : (x : List ℕ) (names more : List (List ℕ)) → is_in x (with_names names more) ≡ (is_in x names || is_in x more)
in_with x names [] = sym (or-false (is_in x names))
in_with x names (n ∷ ns) = in_with x (with_name n names) ns ∙ ap (λ (b : Bool). b || is_in x ns) (in_more x n names) ∙ or_assoc (is_in x names) (bytes_eq x n) (is_in x ns)

-- whether a term is a value rests on which names there are alone
same_value : (ms ns : List (List ℕ)) → ((x : List ℕ) → is_in x ms ≡ is_in x ns) → (t : RawTree) → is_value ms t ≡ is_value ns t
same_value ms ns same (quantified q x t) = refl
same_value ms ns same (named s no_raws) = refl
same_value ms ns same (named s (more_raws (quantified q x t) no_raws)) = refl
same_value ms ns same (named s (more_raws (named x no_raws) no_raws)) = ap (λ (b : Bool). bytes_eq s (codes "weight") && b) (same x)
same_value ms ns same (named s (more_raws (named x (more_raws t ts)) no_raws)) = refl
same_value ms ns same (named s (more_raws t (more_raws u no_raws))) =
    ap₂ (λ (b c : Bool). (bytes_eq s (codes "+") || bytes_eq s (codes "*")) && b && c) (same_value ms ns same t) (same_value ms ns same u)
same_value ms ns same (named s (more_raws t (more_raws u (more_raws v ts)))) = refl

-- so a set of them will do
pub value_with : (empty keys names : List (List ℕ)) (t : RawTree) → empty ≡ [] → keys ≡ with_names empty names → is_value keys t ≡ is_value names t
value_with empty keys names t none is =
    same_value keys names (λ x. ap (is_in x) (is ∙ ap (λ (e : List (List ℕ)). with_names e names) none) ∙ in_with x [] names) t
