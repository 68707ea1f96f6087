use Rattle.std.proofs.Common.{◌≡◌, ◌+◌, ◌<◌, ℕ, Option, None, IfSome, length, sym, subst, arith}
use Rattle.std.proofs.lemmas.Grind.{common_steps}
use Rattle.mace_ground.specs.Instances.{assigned_by}
use Rattle.cell_search.proofs.Joining.{IsToldFrom, is_there, past_false, past_open, true_told, open_told}
use Rattle.cell_search.proofs.Looking.{IsLeft, IsUnseen, passed_false, passed_open, quiet_known, quiet_unseen}
use Rattle.cell_search.proofs.look.look.Goals.{in-Some-false, in-None+else-is_some}
use Rattle.cell_search.proofs.look.look.Goals as goal

pub loop-at-preserved : goal.loop-at-preserved
loop-at-preserved c =
    let w = c.args.setup.now in
    let es = c.args.trail.now.entries in
    let e = assigned_by c.args.env.now in
    let ls = c.args.literals.now in
    let i = c.loop-at.at in
    let l = c.index-literals-at.result in
    let left = c.loop-at.invariant.left in
    let test : i < length ls = c.loop-at-test.true in
    elim c.match-truth.branch [
      | in-Some-false v ↦ record {
        left = subst (λ (o : Option ℕ). IsLeft w es e ls (i + 1) o) (sym v.unknown-is) (passed_false w es e ls i l c.loop-at.unknown test c.index-literals-at.is (rw v.in-Some-false.field-0-test at v.in-Some-false.ensures) left);
        within = subst (λ (o : Option ℕ). IfSome o (λ (j : ℕ). j < length ls)) (sym v.unknown-is) c.loop-at.invariant.within;
        unseen = subst (λ (o : Option ℕ). IfSome o (IsUnseen w es e ls)) (sym v.unknown-is) c.loop-at.invariant.unseen;
        told = subst (IsToldFrom w es e ls (i + 1)) (sym v.unknown-is) (past_false w es e ls i l c.loop-at.unknown test c.index-literals-at.is (rw v.in-Some-false.field-0-test at v.in-Some-false.ensures) c.loop-at.invariant.told);
      }
      | in-None+else-is_some v ↦
          let nothing : ◌≡◌ {A = Option ℕ} c.loop-at.unknown None = grind (arith, common_steps, v.if-is_some, v.is_some) in
          record {
            left = subst (λ (o : Option ℕ). IsLeft w es e ls (i + 1) o) (sym v.unknown-is) (passed_open w es e ls i l test c.index-literals-at.is (subst (λ (o : Option ℕ). IsLeft w es e ls i o) nothing left));
            within = subst (λ (o : Option ℕ). IfSome o (λ (j : ℕ). j < length ls)) (sym v.unknown-is) test;
            unseen = subst (λ (o : Option ℕ). IfSome o (IsUnseen w es e ls)) (sym v.unknown-is) (l, (c.index-literals-at.is, v.in-None.ensures));
            told = subst (IsToldFrom w es e ls (i + 1)) (sym v.unknown-is) (past_open w es e ls i l test c.index-literals-at.is v.in-None.ensures (subst (IsToldFrom w es e ls i) nothing c.loop-at.invariant.told));
          }
    ]

pub returns-in-Some-true-clause-tells : goal.returns-in-Some-true-clause-tells
returns-in-Some-true-clause-tells c =
    quiet_known c.args.setup.now c.args.trail.now.entries (assigned_by c.args.env.now) c.args.literals.now c.loop-at.at c.index-literals-at.result c.loop-at-test.true c.index-literals-at.is (rw c.in-Some-true.field-0-test at c.in-Some-true.ensures)

pub returns-then-is_some-clause-tells : goal.returns-then-is_some-clause-tells
returns-then-is_some-clause-tells c =
    quiet_unseen c.args.setup.now c.args.trail.now.entries (assigned_by c.args.env.now) c.args.literals.now c.loop-at.at c.loop-at-test.true (c.index-literals-at.result, (c.index-literals-at.is, c.in-None.ensures))

pub returns-in-None-asked-clause-tells : goal.returns-in-None-asked-clause-tells
returns-in-None-asked-clause-tells c =
    let w = c.args.setup.now in
    let es = c.args.trail.now.entries in
    let e = assigned_by c.args.env.now in
    let ls = c.args.literals.now in
    quiet_unseen w es e ls c.in-Some.at
    (subst (λ (o : Option ℕ). IfSome o (λ (j : ℕ). j < length ls)) c.in-Some.is c.loop-at.invariant.within)
    (subst (λ (o : Option ℕ). IfSome o (IsUnseen w es e ls)) c.in-Some.is c.loop-at.invariant.unseen)

pub returns-in-Some-true-clause-seen : goal.returns-in-Some-true-clause-seen
returns-in-Some-true-clause-seen c =
    true_told c.args.setup.now c.args.trail.now.entries (assigned_by c.args.env.now) c.args.literals.now c.loop-at.at c.index-literals-at.result c.loop-at.unknown c.loop-at-test.true c.index-literals-at.is
    (rw c.in-Some-true.field-0-test at c.in-Some-true.ensures) c.loop-at.invariant.told

pub returns-then-is_some-clause-seen : goal.returns-then-is_some-clause-seen
returns-then-is_some-clause-seen c =
    open_told c.args.setup.now c.args.trail.now.entries (assigned_by c.args.env.now) c.args.literals.now c.loop-at.at c.index-literals-at.result c.loop-at.unknown c.loop-at-test.true c.index-literals-at.is
    c.in-None.ensures (is_there c.loop-at.unknown c.if-is_some.ensures) c.loop-at.invariant.told
