use Rattle.std.proofs.Common.{◌≡◌, ℕ, ◌+◌, List, [], ◌∷◌, ◌++◌, drop, length, map, Vec, Global, sym, ap, ◌∙◌, arith}
use Rattle.fol_core.specs.Tree.{trees_of}
use Rattle.fol_core.specs.TermView.{tree_of}
use Rattle.fol_core.specs.declared.term.Term.{Term}
use Rattle.cell_search.proofs.Marking.{direct_next, no_direct, steps_more, steps_same}
use Rattle.cell_search.specs.Marks.{direct_one, directs}
use Rattle.cell_search.proofs.walks.direct_arguments.Goals.{in-Var+in_ok-push, in_default}
use Rattle.cell_search.proofs.walks.direct_arguments.Goals as goal

pub loop-term-preserved : goal.loop-term-preserved
loop-term-preserved c =
    let items = c.as_slice-term-items.result.now in
    let i = c.loop-term.term-index in
    let item = c.term-item.result in
    let rest = directs c.args.size (trees_of (map tree_of (drop (i + 1) items))) in
    let behind : c.saturating_sub-behind.result + (i + 1) ≡ length items = omega arith in record {
      behind = behind;
      marks = elim c.match-term.branch [
        | in-Var+in_ok-push w ↦
            direct_next items i item c.loop-term.marks c.match-term.marks _ c.loop-term-test.true c.term-item.is
            (w.marks-is ∙ w.set_mark.ensures ∙ sym (ap (λ (t : Term). direct_one (tree_of t) c.loop-term.marks) w.in-Var.is)) c.loop-term.invariant.marks
        | in_default w ↦
            direct_next items i item c.loop-term.marks c.match-term.marks _ c.loop-term-test.true c.term-item.is (w.marks-is ∙ no_direct item c.loop-term.marks w.in_default.not-Var) c.loop-term.invariant.marks
      ];
      direct = elim c.match-term.branch [
        | in-Var+in_ok-push w ↦
            ap (λ (v : Vec (ℕ × ℕ) Global). v.items ++ rest) w.direct-is ∙ ap (λ (ds : List (ℕ × ℕ)). ds ++ rest) w.in_ok-push.ensures.items
            ∙ ap (λ (k : ℕ). (c.loop-term.direct.items ++ (w.in-Var.variable, k) ∷ []) ++ rest) w.step.ensures
            ∙ steps_more c.args.size items i item c.loop-term.direct.items _ c.loop-term-test.true c.term-item.is c.loop-term.invariant.direct c.saturating_sub-behind.result behind w.in-Var.variable w.in-Var.is
        | in_default w ↦
            ap (λ (v : Vec (ℕ × ℕ) Global). v.items ++ rest) w.direct-is
            ∙ steps_same c.args.size items i item c.loop-term.direct.items _ c.loop-term-test.true c.term-item.is c.loop-term.invariant.direct c.saturating_sub-behind.result behind w.in_default.not-Var
      ];
    }
