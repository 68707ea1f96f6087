-- Branches by rising step: where a step's stands, where it comes in, and what is left without it.
use Rattle.std.proofs.Common.{◌≡◌, ℕ, zero, suc, ◌+◌, ◌<◌, ◌≤◌, cond, refl, sym, ap, ap₂, subst, ◌∙◌, List, [], ◌∷◌, Some, None, Result, Ok, Err, IfOk, IfErr, length, drop, get_or, slice_get, arith}
use Rattle.std.specs.Cmp.{IsEquivalence}
use Rattle.std.specs.List.{AllByRecursion, insert, remove}
use Rattle.std.specs.List.Sorted.{IsBinarySearchResult, IsNonDecreasingBy, IsPartitionPoint, IsSearchInRange, IsSortedBy, IsStrictlySortedBy}
use Rattle.std.specs.Map.{keys_of, remove_entry}
use Rattle.std.specs.Ordering.{eq_by_cmp, is_eq, is_lt, ordering_index, ordering_reverse}
use Rattle.std.specs.declared.cmp.Ordering.TheVariants.{Less, Equal, Greater}
use Rattle.std.proofs.lemmas.Bool.{cond-true, cond-false}
use Rattle.std.proofs.lemmas.Cmp.{eq_by_cmp_equiv}
use Rattle.std.proofs.lemmas.List.{get_or-map}
use Rattle.std.proofs.lemmas.List.Sorted.{searchable_from_sorted}
use Rattle.std.proofs.lemmas.Map.{lookup-insert, lookup-remove_entry, none_passes_from_lookup}
use Rattle.std.proofs.lemmas.Map.Entries.{length-keys_of, lookup_at_gap, lookup_from_place}
use Rattle.std.proofs.lemmas.Map.Keys.{IsDistinct-from_sorted, Less-from_sorted}
use Rattle.std.proofs.lemmas.Option.{slice_get-get_or, slice_get_within, get_or_from_slice_get}
use Rattle.discrim_tree.specs.Contents.{edge_cmp, target, IsAt, IsGapFor, StepsRise}
use Rattle.discrim_tree.specs.contracts.edge.EdgeOrd.TheImpl.Laws.{total-law}
use Rattle.discrim_tree.specs.declared.edge.Edge.{Edge}
use Rattle.discrim_tree.proofs.NodeSteps.{same_step, same_as_itself, is_other, none_some}

equal_laws : IsEquivalence (eq_by_cmp edge_cmp)
equal_laws = eq_by_cmp_equiv total-law

greater_back : (x y : Edge) → edge_cmp x y ≡ Less → edge_cmp y x ≡ Greater
greater_back x y l = total-law.antisymm y x ∙ ap ordering_reverse l

less_back : (x y : Edge) → edge_cmp x y ≡ Greater → edge_cmp y x ≡ Less
less_back x y g = total-law.antisymm y x ∙ ap ordering_reverse g

pub none_rise : StepsRise []
unfolding IsStrictlySortedBy
none_rise = tt

abbrev step : Edge × ℕ → Edge
step b = b.0

key_at : (bs : List (Edge × ℕ)) (i : ℕ) (d : Edge × ℕ) → i < length bs → get_or (keys_of bs) i d.0 ≡ (get_or bs i d).0
key_at bs i d lt = get_or-map step bs i d d.0 lt

module _ (branches : List (Edge × ℕ)) (rise : StepsRise branches) where
  -- of two branches the first has the lesser step
  rises : (i j : ℕ) (d : Edge × ℕ) → i < j → j < length branches → edge_cmp (get_or branches i d).0 (get_or branches j d).0 ≡ Less
  rises i j d lt within =
      let before : i < length branches = omega arith in
      sym (ap₂ edge_cmp (key_at branches i d before) (key_at branches j d within))
      ∙ Less-from_sorted edge_cmp (keys_of branches) i j d.0 rise lt (omega (arith, length-keys_of branches))

  in_order : IsSortedBy (λ (a b : Edge × ℕ). is_lt (edge_cmp a.0 b.0)) branches
  in_order k d low high = ap is_lt (greater_back (get_or branches k d).0 (get_or branches (k + 1) d).0 (rises k (k + 1) d (omega arith) high))

  module _ (edge : Edge) where
    compared : IsNonDecreasingBy (λ (b : Edge × ℕ). ordering_index (edge_cmp b.0 edge)) branches
    compared = searchable_from_sorted total-law step branches edge in_order

    found_at : (at : ℕ) → at < length branches → ((d : Edge × ℕ) → edge_cmp (get_or branches at d).0 edge ≡ Equal) → IsAt branches edge at
    found_at at lt equal =
        let b = get_or branches at (edge, 0) in
        (b.1, slice_get-get_or branches at (edge, 0) lt ∙ ap (λ (s : Edge). Some (s, b.1)) (same_step b.0 edge (equal (edge, 0))))

    gap_at : (at : ℕ) → at ≤ length branches → IsPartitionPoint (λ (b : Edge × ℕ). edge_cmp b.0 edge ≡ Less) (λ (b : Edge × ℕ). edge_cmp b.0 edge ≡ Greater) branches at → IsGapFor branches edge at
    gap_at at le parts = record {
      within = le;
      lesser = λ i b lt is. subst (λ (x : Edge × ℕ). edge_cmp x.0 edge ≡ Less) (get_or_from_slice_get branches i b b is) (parts.0 i b (omega arith) lt);
      greater = λ i b from is.
          less_back b.0 edge
          (subst (λ (x : Edge × ℕ). edge_cmp x.0 edge ≡ Greater) (get_or_from_slice_get branches i b b is) (parts.1 i b from (slice_get_within branches i b is)));
    }

    -- a search by halves ends at the step's branch, or at the gap for it
    pub searched : (r : Result ℕ ℕ) → IsSearchInRange r (length branches) → IsBinarySearchResult (λ (b : Edge × ℕ). edge_cmp b.0 edge) branches r → IfOk r (IsAt branches edge) × IfErr r (IsGapFor branches edge)
    searched (Ok at) within equal = (found_at at within equal, tt)
    searched (Err at) within parts = (tt, gap_at at within (parts compared))

    pub target_at : (at node : ℕ) → slice_get branches at ≡ Some (edge, node) → target branches edge ≡ Some node
    target_at at node is = lookup_from_place equal_laws branches at edge node (IsDistinct-from_sorted edge_cmp (keys_of branches) rise) is

    pub target_in_gap : (at : ℕ) → IsGapFor branches edge at → target branches edge ≡ None
    target_in_gap at gap = lookup_at_gap total-law edge branches at rise (λ j b lt is. greater_back b.0 edge (gap.lesser j b lt is)) (λ b is. gap.greater at b (omega arith) is)

-- ---- steps below a branch's

above_first : (b : Edge × ℕ) (bs : List (Edge × ℕ)) (edge : Edge) → StepsRise (b ∷ bs) → edge_cmp edge b.0 ≡ Less → (j : ℕ) (c : Edge × ℕ) → slice_get (b ∷ bs) j ≡ Some c → edge_cmp edge c.0 ≡ Less
above_first b bs edge rise l zero c is = let same : b ≡ c = cc in subst (λ (x : Edge × ℕ). edge_cmp edge x.0 ≡ Less) same l
above_first b bs edge rise l (suc j) c is =
    total-law.trans edge b.0 c.0 l
    (subst (λ (x : Edge × ℕ). edge_cmp b.0 x.0 ≡ Less) (get_or_from_slice_get (b ∷ bs) (suc j) c c is)
    (rises (b ∷ bs) rise 0 (suc j) c (omega arith) (slice_get_within (b ∷ bs) (suc j) c is)))

-- where a branch has a greater step, neither it nor one behind it has the step
pub none_behind : (bs : List (Edge × ℕ)) (edge : Edge) (i : ℕ) (d : Edge × ℕ) → StepsRise bs → i < length bs → edge_cmp edge (get_or bs i d).0 ≡ Less → target (drop i bs) edge ≡ None
unfolding IsStrictlySortedBy
none_behind [] edge i d rise lt l = absurd (omega (arith, lt))
none_behind (b ∷ bs) edge zero d rise lt l = target_in_gap (b ∷ bs) rise edge 0 (record {
  within = omega arith;
  lesser = λ i c low is. absurd (omega (arith, low));
  greater = λ i c le is. above_first b bs edge rise l i c is;
})
none_behind (b ∷ bs) edge (suc i) d rise lt l = none_behind bs edge i d rise.1 (omega (arith, lt)) l

-- ---- a branch more

module _ (branches : List (Edge × ℕ)) (edge : Edge) (node at : ℕ) (none : target branches edge ≡ None) where
  after_put : (e : Edge) → target (insert branches at (edge, node)) e ≡ cond (is_eq (edge_cmp edge e)) (Some node) (target branches e)
  after_put e = lookup-insert equal_laws edge node e branches at (none_passes_from_lookup (eq_by_cmp edge_cmp edge) branches none)

  pub put_there : target (insert branches at (edge, node)) edge ≡ Some node
  put_there = after_put edge ∙ cond-true (is_eq (edge_cmp edge edge)) (Some node) (target branches edge) (ap is_eq (same_as_itself edge))

  pub put_others : (e : Edge) → (e ≡ edge → ⊥) → target (insert branches at (edge, node)) e ≡ target branches e
  put_others e apart = after_put e ∙ cond-false (is_eq (edge_cmp edge e)) (Some node) (target branches e) (is_other edge e apart)

each_put : (P : Edge → Type 0) (bs : List (Edge × ℕ)) (at : ℕ) (b : Edge × ℕ) → P b.0 → AllByRecursion P (keys_of bs) → AllByRecursion P (keys_of (insert bs at b))
each_put P bs zero b p all = (p, all)
each_put P [] (suc at) b p all = (p, tt)
each_put P (c ∷ bs) (suc at) b p all = (all.0, each_put P bs at b p all.1)

each_above : (e d : Edge) (ks : List Edge) → edge_cmp e d ≡ Less → AllByRecursion (λ k. edge_cmp d k ≡ Less) ks → AllByRecursion (λ k. edge_cmp e k ≡ Less) ks
each_above e d [] l all = tt
each_above e d (k ∷ ks) l all = (total-law.trans e d k l all.0, each_above e d ks l all.1)

gap_behind : (b : Edge × ℕ) (bs : List (Edge × ℕ)) (edge : Edge) (at : ℕ) → IsGapFor (b ∷ bs) edge (suc at) → IsGapFor bs edge at
gap_behind b bs edge at gap = record {
  within = omega (arith, gap.within);
  lesser = λ i c lt is. gap.lesser (suc i) c (omega arith) is;
  greater = λ i c le is. gap.greater (suc i) c (omega arith) is;
}

pub put_rise : (bs : List (Edge × ℕ)) (edge : Edge) (node at : ℕ) → StepsRise bs → IsGapFor bs edge at → StepsRise (insert bs at (edge, node))
unfolding IsStrictlySortedBy
put_rise [] edge node zero rise gap = (tt, tt)
put_rise [] edge node (suc at) rise gap = absurd (omega (arith, gap.within))
put_rise (b ∷ bs) edge node zero rise gap =
    let first : edge_cmp edge b.0 ≡ Less = gap.greater 0 b (omega arith) refl in
    ((first, each_above edge b.0 (keys_of bs) first rise.0), rise)
put_rise (b ∷ bs) edge node (suc at) rise gap = (
  each_put (λ k. edge_cmp b.0 k ≡ Less) bs at (edge, node) (gap.lesser 0 b (omega arith) refl) rise.0,
  put_rise bs edge node at rise.1 (gap_behind b bs edge at gap),
)

-- ---- a branch less

each_cut : (P : Edge → Type 0) (bs : List (Edge × ℕ)) (at : ℕ) → AllByRecursion P (keys_of bs) → AllByRecursion P (keys_of (remove bs at))
each_cut P [] zero all = tt
each_cut P [] (suc at) all = tt
each_cut P (b ∷ bs) zero all = all.1
each_cut P (b ∷ bs) (suc at) all = (all.0, each_cut P bs at all.1)

pub cut_rise : (bs : List (Edge × ℕ)) (at : ℕ) → StepsRise bs → StepsRise (remove bs at)
unfolding IsStrictlySortedBy
cut_rise [] zero rise = tt
cut_rise [] (suc at) rise = tt
cut_rise (b ∷ bs) zero rise = rise.1
cut_rise (b ∷ bs) (suc at) rise = (each_cut (λ k. edge_cmp b.0 k ≡ Less) bs at rise.0, cut_rise bs at rise.1)

tail_rise : (b : Edge × ℕ) (bs : List (Edge × ℕ)) → StepsRise (b ∷ bs) → StepsRise bs
unfolding IsStrictlySortedBy
tail_rise b bs rise = rise.1

-- the branch at a step's place is the one that has the step
cut_is : (bs : List (Edge × ℕ)) (edge : Edge) (node at : ℕ) → StepsRise bs → slice_get bs at ≡ Some (edge, node) → remove bs at ≡ remove_entry (eq_by_cmp edge_cmp edge) bs
cut_is [] edge node at rise is = absurd (none_some (edge, node) is)
cut_is (b ∷ bs) edge node zero rise is =
    let same : b ≡ (edge, node) = cc in
    sym (cond-true (is_eq (edge_cmp edge b.0)) bs (b ∷ remove_entry (eq_by_cmp edge_cmp edge) bs) (ap (λ (x : Edge × ℕ). is_eq (edge_cmp edge x.0)) same ∙ ap is_eq (same_as_itself edge)))
cut_is (b ∷ bs) edge node (suc at) rise is =
    let lt = slice_get_within bs at (edge, node) is in
    let above : edge_cmp b.0 edge ≡ Less =
    sym (ap (λ (x : Edge × ℕ). edge_cmp b.0 x.0) (get_or_from_slice_get bs at (edge, node) (edge, node) is)) ∙ rises (b ∷ bs) rise 0 (suc at) (edge, node) (omega arith) (omega arith) in
    ap (λ xs. b ∷ xs) (cut_is bs edge node at (tail_rise b bs rise) is)
    ∙ sym (cond-false (is_eq (edge_cmp edge b.0)) bs (b ∷ remove_entry (eq_by_cmp edge_cmp edge) bs) (ap is_eq (greater_back b.0 edge above)))

module _ (branches : List (Edge × ℕ)) (edge : Edge) (node at : ℕ) (rise : StepsRise branches) (is : slice_get branches at ≡ Some (edge, node)) where
  after_cut : (e : Edge) → target (remove branches at) e ≡ cond (is_eq (edge_cmp edge e)) None (target branches e)
  after_cut e =
      ap (λ bs. target bs e) (cut_is branches edge node at rise is)
      ∙ lookup-remove_entry equal_laws (eq_by_cmp edge_cmp edge) (λ x y same. equal_laws.congr edge x y same) e branches (IsDistinct-from_sorted edge_cmp (keys_of branches) rise)

  pub cut_gone : target (remove branches at) edge ≡ None
  cut_gone = after_cut edge ∙ cond-true (is_eq (edge_cmp edge edge)) None (target branches edge) (ap is_eq (same_as_itself edge))

  pub cut_others : (e : Edge) → (e ≡ edge → ⊥) → target (remove branches at) e ≡ target branches e
  cut_others e apart = after_cut e ∙ cond-false (is_eq (edge_cmp edge e)) None (target branches e) (is_other edge e apart)
