-- The marked lines are those that one rests on.
use Rattle.std.proofs.Common.{◌≡◌, ℕ, zero, suc, ◌+◌, ◌<◌, ◌≤◌, Bool, true, false, if◌then◌else◌, refl, sym, ap, ap₂, ◌∙◌, List, [], ◌∷◌, ◌++◌, length, map, take, Option, Some, None, arith, add-one}
use Rattle.std.specs.Prelude.{slice_get}
use Rattle.std.specs.List.{filter}
use Rattle.std.specs.Option.{option_map}
use Rattle.std.proofs.Math.Seq.{take-suc}
use Rattle.std.proofs.lemmas.List.{map-append, append-nil, take_all}
use Rattle.std.proofs.lemmas.List.Elements.{filter-append}
use Rattle.std.proofs.lemmas.Option.{slice_get_within, get_or_from_slice_get}
use Rattle.clause_store.proofs.Kept.{way_same}
use Rattle.clause_store.specs.Ancestors.{IsAncestry, AreAncestors, parents_in}
use Rattle.clause_store.specs.Laws.{LinesMean}
use Rattle.clause_store.specs.Lines.{PlainLine, plain_line, plain_tree, plain_trees}
use Rattle.clause_store.specs.Marks.{line_under_number, parents_at, has_mark, IsNumberOf, MarkAncestors}
use Rattle.derivation.specs.Lines.{LineTree, line_at}
use Rattle.derivation.specs.View.{lines_of}
use Rattle.derivation.specs.declared.line.Line.{Line}
use Rattle.prover_proofs.proofs.Placed.{AreCounted, counted_at, tree_under, same_parents}

-- marks tell the ancestors
marks_tell : (ls : List PlainLine) (n : ℕ) (marks : List Bool) → AreCounted 1 ls → MarkAncestors (length ls) (parents_at ls) n marks → IsAncestry (plain_trees ls) n (has_mark marks)
marks_tell ls n marks counted h = record {
  rests = λ m i. let r = h.rests m i in (r.0, way_same (parents_at ls) (parents_in (plain_trees ls)) (λ k. same_parents ls k counted) n m r.0 r.1);
  all = λ m l e r. h.all m (number m l e) (r.0, way_same (parents_in (plain_trees ls)) (parents_at ls) (λ k. sym (same_parents ls k counted)) n m r.0 r.1);
}
  where
    within : (m : ℕ) (l : LineTree) (o : Option PlainLine) → line_under_number ls m ≡ o → option_map plain_tree o ≡ Some l → IsNumberOf (length ls) m
    within m l None d f = cc
    within zero l (Some x) d f = cc
    within (suc k) l (Some x) d f = (omega arith, omega (arith, slice_get_within ls k x d))

    number : (m : ℕ) (l : LineTree) → line_at (plain_trees ls) m ≡ Some l → IsNumberOf (length ls) m
    number m l e = within m l (line_under_number ls m) refl (sym (tree_under ls m counted) ∙ e)

-- the marked ones of some lines
abbrev pub marked_lines : List Bool → List PlainLine → List PlainLine
marked_lines marks ls = filter (λ l. has_mark marks l.number) ls

take_next : (ls : List PlainLine) (i : ℕ) (l : PlainLine) → slice_get ls i ≡ Some l → take (i + 1) ls ≡ take i ls ++ l ∷ []
take_next ls i l e = let within = slice_get_within ls i l e in rw (add-one, take-suc ls i l within) (ap (λ (k : PlainLine). take i ls ++ k ∷ []) (get_or_from_slice_get ls i l l e))

marked_next : (marks : List Bool) (ls : List PlainLine) (i : ℕ) (l : PlainLine) (b : Bool) → AreCounted 1 ls → slice_get ls i ≡ Some l → has_mark marks (suc i) ≡ b
    → marked_lines marks (take (i + 1) ls) ≡ marked_lines marks (take i ls) ++ (if b then l ∷ [] else [])
marked_next marks ls i l b counted e d =
    ap (marked_lines marks) (take_next ls i l e)
    ∙ filter-append (λ (k : PlainLine). has_mark marks k.number) (take i ls) (l ∷ [])
    ∙ ap (λ (c : Bool). marked_lines marks (take i ls) ++ (if c then l ∷ [] else [])) (ap (has_mark marks) number ∙ d)
  where
    number : l.number ≡ suc i
    number = let n = counted_at 1 i ls l counted e in omega (arith, n)

there : (ls : List PlainLine) (i : ℕ) → i < length ls → (l : PlainLine) × (slice_get ls i ≡ Some l)
there [] i lt = absurd (omega arith)
there (l ∷ ls) zero lt = (l, refl)
there (l ∷ ls) (suc i) lt = there ls i (omega arith)

module _ (all : List PlainLine) (counted : AreCounted 1 all) (marks : List Bool) (i : ℕ) (lines more : List Line) (many : length marks ≡ length all) (lt : i < length marks)
    (old : map plain_line lines ≡ marked_lines marks (take i all)) where
  pub line_taken : (p : Line) (n : ℕ) → has_mark marks (suc i) ≡ true → n ≡ suc i → line_under_number all n ≡ Some (plain_line p) → more ≡ lines ++ p ∷ [] → map plain_line more ≡ marked_lines marks (take (i + 1) all)
  line_taken p n tells number says grown =
      ap (map plain_line) grown ∙ map-append plain_line lines (p ∷ [])
      ∙ ap (λ (ls : List PlainLine). ls ++ plain_line p ∷ []) old
      ∙ sym (marked_next marks all i (plain_line p) true counted (ap (line_under_number all) (sym number) ∙ says) tells)

  pub line_left : has_mark marks (suc i) ≡ false → more ≡ lines → map plain_line more ≡ marked_lines marks (take (i + 1) all)
  line_left tells same =
      let at = there all i (omega (arith, lt, many)) in
      ap (map plain_line) same ∙ old
      ∙ sym (marked_next marks all i at.0 false counted at.1 tells ∙ append-nil (marked_lines marks (take i all)))

pub lines_found : (all : List PlainLine) (n : ℕ) (marks : List Bool) (i : ℕ) (lines : List Line) → AreCounted 1 all → MarkAncestors (length all) (parents_at all) n marks → length all ≤ i
    → map plain_line lines ≡ marked_lines marks (take i all) → AreAncestors all n (map plain_line lines)
lines_found all n marks i lines counted marked past found = record {
  among = has_mark marks;
  ancestry = marks_tell all n marks counted marked;
  lines = found ∙ ap (marked_lines marks) (take_all i all past);
}

-- lines of the code say what they say in a derivation
pub trees_same : LinesMean → (ls : List Line) → lines_of ls ≡ plain_trees (map plain_line ls)
trees_same mean [] = refl
trees_same mean (l ∷ ls) = ap₂ (λ (x : LineTree) (xs : List LineTree). x ∷ xs) (sym (mean l)) (trees_same mean ls)
