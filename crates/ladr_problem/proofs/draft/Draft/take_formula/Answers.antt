use Rattle.std.proofs.Common.{◌≡◌, ℕ, ap, subst, sym, ◌∙◌}
use Rattle.std.specs.Prelude.{OnOk, IfErr}
use Rattle.std.specs.declared.result.Result.{Result}
use Rattle.std.specs.declared.result.Result.TheVariants.{Ok}
use Rattle.fol_core.specs.RawView.{raw_of}
use Rattle.ladr_problem.specs.Adding.{after_formula, style_in}
use Rattle.ladr_problem.specs.Draft.{sofar_of}
use Rattle.ladr_problem.specs.Reading.{IsNo, after_formula_read}
use Rattle.ladr_problem.specs.Sofar.{Sofar}
use Rattle.ladr_problem.specs.declared.refusal.Refusal.{Refusal}
use Rattle.ladr_problem.proofs.Takings.{same_formula, large_formula}
use Rattle.ladr_problem.proofs.draft.Draft.take_formula.Goals as goal

same : (c : goal.After-settle) →
    after_formula_read c.args.program c.args.list c.args.byte c.len-before.result (record (sofar_of c.args.self.now) { symbols = c.read_formula.new.symbols }) c.of-stated.result.notes c.in_ok-answer.answer.items c.in_ok-read.read
    ≡ after_formula c.args.program c.args.list c.args.byte (sofar_of c.args.self.now) (raw_of c.args.raw)
same c =
    ap (λ (n : ℕ). after_formula_read c.args.program c.args.list c.args.byte n (record (sofar_of c.args.self.now) { symbols = c.read_formula.new.symbols }) c.of-stated.result.notes c.in_ok-answer.answer.items c.in_ok-read.read) c.len-before.ensures.len
    ∙ same_formula c.args.program c.args.byte (sofar_of c.args.self.now) c.args.list (raw_of c.args.raw) c.of-stated.result.formula c.of-stated.result.notes c.in_ok-answer.answer.items c.in_ok-read.read c.read_formula.new.symbols
    c.of-stated.ensures.formula c.of-stated.ensures.label c.of-stated.ensures.misused c.of-stated.ensures.hint_weight (λ l e g. c.in_ok-answer.ensures l e g) c.in_ok-read.ensures.read c.read_formula.ensures.kept

pub returns-clause-ok : goal.returns-clause-ok
returns-clause-ok c = subst (λ (r : Result Sofar Refusal). OnOk c.settle.result (r ≡ Ok (sofar_of c.settle.new.self))) (same c) c.settle.ensures.ok

pub returns-clause-refused : goal.returns-clause-refused
returns-clause-refused c = subst (λ (r : Result Sofar Refusal). IfErr c.settle.result (IsNo r)) (same c) c.settle.ensures.refused

pub returns-then-has_large_arity-clause-refused : goal.returns-then-has_large_arity-clause-refused
returns-then-has_large_arity-clause-refused c =
    let s = sofar_of c.args.self.now in
    large_formula c.args.program c.args.byte s c.args.list (raw_of c.args.raw) (raw_of c.of-stated.result.formula) c.refusal_of_large.result c.of-stated.ensures.formula
    (sym (c.has_large_arity.ensures (style_in c.args.program s) s.symbols) ∙ c.if-has_large_arity.true) c.refusal_of_large.ensures
