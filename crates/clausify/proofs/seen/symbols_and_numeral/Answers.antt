use Rattle.std.proofs.Common.{◌≡◌, ◌∙◌, ℕ, false, length, replicate, ap}
use Rattle.fol_problem.specs.Stated.{all_said}
use Rattle.clausify.proofs.Marks.{marks_are_uses, front}
use Rattle.clausify.proofs.seen.symbols_and_numeral.Goals as goal

pub returns-clause-symbols : goal.returns-clause-symbols
returns-clause-symbols c =
    let p = c.args.problem.now in
    let none : c.in_ok-marks.marks.items ≡ replicate (length p.symbols) false = c.in_ok-marks.ensures.items_if_clones_equal (λ y e. e) ∙ ap (λ (n : ℕ). replicate n false) c.len.ensures.len in
    let start : c.deref_mut.result.now ≡ replicate (length p.symbols) false = c.deref_mut.ensures.value ∙ none in
    c.in_ok-symbols.ensures ∙ rw (c.deref-2.ensures.value, front c.in_ok-marks.marks.len c.mark_all.new.marks c.in_ok-marks.marks.items (c.mark_all.auto.marks ∙ c.deref_mut.ensures.len))
    (marks_are_uses p.symbols c.deref_mut.result.now c.mark_all.new.marks (all_said p.inputs.items) start c.mark_all.auto.marks (rw c.deref.ensures.value at c.mark_all.ensures))
