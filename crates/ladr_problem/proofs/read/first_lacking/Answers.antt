use Rattle.std.proofs.Common.{◌≡◌, ℕ, zero, suc, ◌+◌, ◌<◌, Bool, true, false, if◌then◌else◌, List, [], ◌∷◌, length, map, drop, get_or, Some, sym, ap, ◌∙◌, subst, arith}
use Rattle.std.specs.List.{list_all}
use Rattle.std.proofs.lemmas.Grind.{common_steps}
use Rattle.fol_core.specs.FormulaView.{fol_of}
use Rattle.fol_problem.specs.declared.problem.Input.{Input}
use Rattle.ladr_interpretations.specs.Covers.{covers}
use Rattle.ladr_problem.specs.File.{first_lacking}
use Rattle.ladr_problem.specs.Sofar.{input_of}
use Rattle.model_tables.specs.Tables.{Finite}
use Rattle.ladr_problem.proofs.read.first_lacking.Goals as goal

-- the tables at a formula
abbrev all_cover : List Finite → Input → Bool
all_cover ts x = list_all (λ t. covers t (fol_of x.formula.shape)) ts

at_place : (ts : List Finite) (xs : List Input) (i : ℕ) (x : Input) (b : Bool) → i < length xs → x ≡ get_or xs i x → all_cover ts x ≡ b →
    first_lacking ts (map input_of (drop i xs)) ≡ (if b then first_lacking ts (map input_of (drop (i + 1) xs)) else Some x.byte)
at_place ts [] i x b below is h = absurd (omega arith)
at_place ts (y ∷ ys) zero x b below is h =
    subst (λ (z : Input). first_lacking ts (map input_of (z ∷ ys)) ≡ (if b then first_lacking ts (map input_of ys) else Some x.byte)) is
    (ap (λ (c : Bool). if c then first_lacking ts (map input_of ys) else Some x.byte) h)
at_place ts (y ∷ ys) (suc i) x b below is h =
    let k : suc i + 1 ≡ suc (i + 1) = omega arith in let less : i < length ys = omega arith in rw k (at_place ts ys i x b less is h)

pub returns-then-not-are_covered : goal.returns-then-not-are_covered
returns-then-not-are_covered c =
    let h : all_cover c.args.tables.now c.input-item.result ≡ false = grind (arith, common_steps, c.are_covered.ensures) in
    sym (at_place c.args.tables.now c.args.inputs.now c.loop-input.input-index c.input-item.result false c.loop-input-test.true c.input-item.is h) ∙ c.loop-input.invariant

pub loop-input-preserved : goal.loop-input-preserved
loop-input-preserved c =
    let h : all_cover c.args.tables.now c.input-item.result ≡ true = grind (arith, common_steps, c.are_covered.ensures) in
    sym (at_place c.args.tables.now c.args.inputs.now c.loop-input.input-index c.input-item.result true c.loop-input-test.true c.input-item.is h) ∙ c.loop-input.invariant
