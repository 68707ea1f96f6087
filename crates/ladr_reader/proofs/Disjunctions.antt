-- Disjuncts that are kept with the last of them first.
use Rattle.std.proofs.Common.{◌≡◌, ℕ, suc, ◌+◌, min, max, true, List, [], ◌∷◌, ◌++◌, Option, Some, None, reverse, refl, sym, ap, ◌∙◌, arith}
use Rattle.std.proofs.lemmas.List.{reverse-append}
use Rattle.indexmap.proofs.ReorderLemmas.{map-reverse}
use Rattle.fol_core.specs.RawTree.{RawTree, named, depth, depth_of, raws_of}
use Rattle.fol_core.specs.RawView.{raw_of, raw_list}
use Rattle.fol_core.specs.declared.raw.Raw.{Raw}
use Rattle.ladr_reader.specs.Capped.{with_disjunct, disjunction_tree, is_one_argument}
use Rattle.ladr_reader.specs.DisjunctView.{in_order, depth_if, levels_of}

-- one more in front
pub in_order_more : (before : List RawTree) (u t : RawTree) → in_order (before ++ u ∷ []) t ≡ u ∷ in_order before t
in_order_more before u t = ap (λ (ts : List RawTree). ts ++ t ∷ []) (reverse-append before (u ∷ []))

some_disjunction : (ts : List RawTree) (t : RawTree) → (w : RawTree) × (disjunction_tree (ts ++ t ∷ []) ≡ Some w)
some_disjunction [] t = (t, refl)
some_disjunction (u ∷ ts) t = (with_disjunct u (disjunction_tree (ts ++ t ∷ [])), refl)

deeper : (u : RawTree) (o : Option RawTree) (w : RawTree) → o ≡ Some w → depth (with_disjunct u o) ≡ suc (max (depth u) (depth_if o))
deeper u None w h = absurd (cc)
deeper u (Some v) w h = omega arith

pub levels_behind : (before : List RawTree) (u t : RawTree) (levels first : ℕ) → levels ≡ levels_of (in_order before t) → first ≡ depth u
    → min 4294967295 (max levels first + 1) ≡ levels_of (in_order (before ++ u ∷ []) t)
levels_behind before u t levels first h f =
    let some = some_disjunction (reverse before) t in
    let d = deeper u (disjunction_tree (in_order before t)) some.0 some.1 in
    let e : depth_if (disjunction_tree (in_order (before ++ u ∷ []) t)) ≡ suc (max (depth u) (depth_if (disjunction_tree (in_order before t)))) =
    ap (λ (ts : List RawTree). depth_if (disjunction_tree ts)) (in_order_more before u t) ∙ d in
    omega arith

-- the only argument
only_one : (ts : List RawTree) (us : List RawTree) (t : RawTree) → is_one_argument (Some ts) ≡ true → ts ≡ us ++ t ∷ [] → ts ≡ t ∷ []
only_one ts [] t h e = e
only_one ts (u ∷ []) t h e = absurd (let f : is_one_argument (Some (u ∷ t ∷ [])) ≡ true = ap (λ (l : List RawTree). is_one_argument (Some l)) (sym e) ∙ h in cc)
only_one ts (u ∷ v ∷ us) t h e = absurd (let f : is_one_argument (Some (u ∷ v ∷ (us ++ t ∷ []))) ≡ true = ap (λ (l : List RawTree). is_one_argument (Some l)) (sym e) ∙ h in cc)

only_depth : (ts : List RawTree) (t : RawTree) → ts ≡ t ∷ [] → depth_of (raws_of ts) ≡ depth t
only_depth ts t e = omega (arith, ap (λ (l : List RawTree). depth_of (raws_of l)) e)

pub raws_append : (rs ss : List Raw) → raw_list (rs ++ ss) ≡ raw_list rs ++ raw_list ss
raws_append [] ss = refl
raws_append (r ∷ rs) ss = ap (λ (ts : List RawTree). raw_of r ∷ ts) (raws_append rs ss)

-- the levels behind the only argument of code
pub popped_levels : (before : List RawTree) (t : RawTree) (levels first : ℕ) (trees : List RawTree) (items rest : List Raw) (r : Raw) → levels ≡ levels_of (in_order before t)
    → is_one_argument (Some trees) ≡ true → depth_of (raws_of trees) ≡ first → raw_list items ≡ trees → items ≡ rest ++ r ∷ [] → min (max levels first + 1) 4294967295 ≡ levels_of (in_order (before ++ raw_of r ∷ []) t)
popped_levels before t levels first trees items rest r h one d e p =
    let parts : trees ≡ raw_list rest ++ raw_of r ∷ [] = sym e ∙ ap raw_list p ∙ raws_append rest (r ∷ []) in
    let only = only_one trees (raw_list rest) (raw_of r) one parts in
    omega (arith, levels_behind before (raw_of r) t levels first h (sym d ∙ only_depth trees (raw_of r) only))

pub raws-reverse : (rs : List Raw) → raw_list (reverse rs) ≡ reverse (raw_list rs)
raws-reverse rs = map-reverse raw_of rs

-- one more is passed
pub nested_more : (passed : List Raw) (r : Raw) (last t u : RawTree) → disjunction_tree (in_order (raw_list passed) last) ≡ Some t → u ≡ named (124 ∷ []) (raws_of (raw_of r ∷ t ∷ []))
    → disjunction_tree (in_order (raw_list (passed ++ r ∷ [])) last) ≡ Some u
nested_more passed r last t u h e =
    ap (λ (ts : List RawTree). disjunction_tree (in_order ts last)) (raws_append passed (r ∷ []))
    ∙ ap disjunction_tree (in_order_more (raw_list passed) (raw_of r) last)
    ∙ ap (λ (o : Option RawTree). Some (with_disjunct (raw_of r) o)) h ∙ ap (λ (w : RawTree). Some w) (sym e)
