-- The marks that variables get, term by term.
use Rattle.std.proofs.Common.{◌≡◌, ℕ, suc, ◌+◌, ◌-◌, ◌<◌, ◌≤◌, ◌==◌, Bool, true, false, if◌then◌else◌, List, [], ◌∷◌, ◌++◌, append_assoc, length, map, drop, get_or, refl, sym, ap, ◌∙◌, arith}
use Rattle.std.proofs.Math.Seq.{drop-cons}
use Rattle.std.proofs.lemmas.List.{append-nil, drop_all, length-drop}
use Rattle.fol_core.specs.Tree.{trees_of}
use Rattle.fol_core.specs.TermView.{tree_of}
use Rattle.fol_core.specs.declared.term.Term.{Term}
use Rattle.fol_core.specs.declared.term.Term.TheVariants.{Var, Elem, App}
use denote.Enum.Declared.{tag_of}
use Rattle.cell_search.specs.contracts.walks.Mark.{the_type}
use Rattle.cell_search.specs.Marks.{nested_in, all_nested_in, direct_one, direct_in, is_mark, marked_from, step_of, with_step, directs}
use Rattle.cell_search.specs.Searchable.{count_of}
use Rattle.cell_search.specs.declared.walks.Mark.{Mark}
use Rattle.cell_search.specs.declared.walks.Mark.TheVariants.{Other, Nested, Direct}

pub term_parts : (items : List Term) (i : ℕ) (item : Term) → i < length items → item ≡ get_or items i item → drop i items ≡ item ∷ drop (i + 1) items
term_parts items i item inside is =
    let same : suc i ≡ i + 1 = omega arith in
    drop-cons items i item inside ∙ ap (λ (x : Term). x ∷ drop (suc i) items) (sym is) ∙ ap (λ (n : ℕ). item ∷ drop n items) same

pub nested_next : (items : List Term) (i : ℕ) (item : Term) (marks new : List Mark) (all : List Mark) → i < length items → item ≡ get_or items i item → new ≡ nested_in (tree_of item) marks
    → all_nested_in (trees_of (map tree_of (drop i items))) marks ≡ all → all_nested_in (trees_of (map tree_of (drop (i + 1) items))) new ≡ all
nested_next items i item marks new all inside is did before =
    ap (all_nested_in (trees_of (map tree_of (drop (i + 1) items)))) did
    ∙ sym (ap (λ (xs : List Term). all_nested_in (trees_of (map tree_of xs)) marks) (term_parts items i item inside is)) ∙ before

pub nested_end : (items : List Term) (i : ℕ) (marks all : List Mark) → length items ≤ i → all_nested_in (trees_of (map tree_of (drop i items))) marks ≡ all → marks ≡ all
nested_end items i marks all past before =
    sym (ap (λ (xs : List Term). all_nested_in (trees_of (map tree_of xs)) marks) (drop_all i items past)) ∙ before

-- arguments that are variables
pub direct_next : (items : List Term) (i : ℕ) (item : Term) (marks new : List Mark) (all : List Mark) → i < length items → item ≡ get_or items i item → new ≡ direct_one (tree_of item) marks
    → direct_in (trees_of (map tree_of (drop i items))) marks ≡ all → direct_in (trees_of (map tree_of (drop (i + 1) items))) new ≡ all
direct_next items i item marks new all inside is did before =
    ap (direct_in (trees_of (map tree_of (drop (i + 1) items)))) did
    ∙ sym (ap (λ (xs : List Term). direct_in (trees_of (map tree_of xs)) marks) (term_parts items i item inside is)) ∙ before

pub direct_end : (items : List Term) (i : ℕ) (marks all : List Mark) → length items ≤ i → direct_in (trees_of (map tree_of (drop i items))) marks ≡ all → marks ≡ all
direct_end items i marks all past before =
    sym (ap (λ (xs : List Term). direct_in (trees_of (map tree_of xs)) marks) (drop_all i items past)) ∙ before

count_items : (items : List Term) → count_of (trees_of (map tree_of items)) ≡ length items
count_items [] = refl
count_items (t ∷ ts) = ap suc (count_items ts)

module _ (n : ℕ) (items : List Term) (i : ℕ) (item : Term) (old : List (ℕ × ℕ)) (all : List (ℕ × ℕ)) (inside : i < length items) (is : item ≡ get_or items i item)
    (before : old ++ directs n (trees_of (map tree_of (drop i items))) ≡ all) (behind : ℕ) (many : behind + (i + 1) ≡ length items) where
  abbrev rest : List (ℕ × ℕ)
  rest = directs n (trees_of (map tree_of (drop (i + 1) items)))

  counted : count_of (trees_of (map tree_of (drop (i + 1) items))) ≡ behind
  counted = let left = length-drop (i + 1) items in count_items (drop (i + 1) items) ∙ left ∙ omega (arith, many)

  whole : old ++ with_step (tree_of item) (step_of n behind) rest ≡ all
  whole =
      sym (ap (λ (k : ℕ). old ++ with_step (tree_of item) (step_of n k) rest) counted)
      ∙ sym (ap (λ (xs : List Term). old ++ directs n (trees_of (map tree_of xs))) (term_parts items i item inside is)) ∙ before

  pub steps_more : (x : ℕ) → item ≡ Var x → (old ++ (x, step_of n behind) ∷ []) ++ rest ≡ all
  steps_more x var_is =
      append_assoc old ((x, step_of n behind) ∷ []) rest
      ∙ sym (ap (λ (t : Term). old ++ with_step (tree_of t) (step_of n behind) rest) var_is) ∙ whole

  pub steps_same : ((x : ℕ) → item ≡ Var x → ⊥) → old ++ rest ≡ all
  steps_same other = by item other whole
    where
      by : (t : Term) → ((x : ℕ) → t ≡ Var x → ⊥) → old ++ with_step (tree_of t) (step_of n behind) rest ≡ all → old ++ rest ≡ all
      by (Var x) apart h = absurd (apart x refl)
      by (Elem k) apart h = h
      by (App s ts) apart h = h

pub no_direct : (t : Term) (marks : List Mark) → ((x : ℕ) → t ≡ Var x → ⊥) → marks ≡ direct_one (tree_of t) marks
no_direct (Var x) marks apart = absurd (apart x refl)
no_direct (Elem k) marks apart = refl
no_direct (App s ts) marks apart = refl

pub steps_end : (n : ℕ) (items : List Term) (i : ℕ) (old all : List (ℕ × ℕ)) → length items ≤ i → old ++ directs n (trees_of (map tree_of (drop i items))) ≡ all → old ≡ all
steps_end n items i old all past before =
    sym (append-nil old) ∙ sym (ap (λ (xs : List Term). old ++ directs n (trees_of (map tree_of xs))) (drop_all i items past)) ∙ before

pub mark_test : (a b : Mark) → (tag_of the_type a == tag_of the_type b) ≡ is_mark a b
mark_test Other Other = refl
mark_test Other Nested = refl
mark_test Other Direct = refl
mark_test Nested Other = refl
mark_test Nested Nested = refl
mark_test Nested Direct = refl
mark_test Direct Other = refl
mark_test Direct Nested = refl
mark_test Direct Direct = refl

-- one more variable is looked at
module _ (marks : List Mark) (i : ℕ) (mark : Mark) (all old : List ℕ) (inside : i < length marks) (before : old ++ marked_from i mark (drop i marks) ≡ all) where
  parts : marked_from i mark (drop i marks)
      ≡ (if is_mark (get_or marks i Other) mark then i ∷ marked_from (i + 1) mark (drop (i + 1) marks) else marked_from (i + 1) mark (drop (i + 1) marks))
  parts =
      let same : suc i ≡ i + 1 = omega arith in
      ap (marked_from i mark) (drop-cons marks i Other inside)
      ∙ ap (λ (n : ℕ). if is_mark (get_or marks i Other) mark then i ∷ marked_from n mark (drop n marks) else marked_from n mark (drop n marks)) same

  pub marked_more : is_mark (get_or marks i Other) mark ≡ true → (old ++ i ∷ []) ++ marked_from (i + 1) mark (drop (i + 1) marks) ≡ all
  marked_more is =
      append_assoc old (i ∷ []) (marked_from (i + 1) mark (drop (i + 1) marks))
      ∙ ap (λ (b : Bool). old ++ (if b then i ∷ marked_from (i + 1) mark (drop (i + 1) marks) else marked_from (i + 1) mark (drop (i + 1) marks))) (sym is)
      ∙ ap (λ (xs : List ℕ). old ++ xs) (sym parts) ∙ before

  pub marked_less : is_mark (get_or marks i Other) mark ≡ false → old ++ marked_from (i + 1) mark (drop (i + 1) marks) ≡ all
  marked_less is =
      ap (λ (b : Bool). old ++ (if b then i ∷ marked_from (i + 1) mark (drop (i + 1) marks) else marked_from (i + 1) mark (drop (i + 1) marks))) (sym is)
      ∙ ap (λ (xs : List ℕ). old ++ xs) (sym parts) ∙ before
