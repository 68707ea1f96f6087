-- One number less.
use Rattle.std.proofs.Common.{◌≡◌, ◌+◌, ◌-◌, ◌<◌, ℕ, length, take, slice_index_or, refl, sym, ap, ◌∙◌, arith}
use Rattle.shared_clauses.specs.Ways.{first_tree, id_at}
use Rattle.substitutions.specs.Paths.{replaced}
use Rattle.term_bank.specs.Bank.{tree_at}
use Rattle.term_bank.proofs.Building.{grows_on}
use Rattle.std.proofs.lemmas.List.{get_or_default}
use Rattle.shared_clauses.proofs.WaySteps.{up_next}
use Rattle.shared_clauses.proofs.paths.put_along.Goals as goal

pub up-preserved : goal.up-preserved
up-preserved c =
    let i : ℕ = c.up.left - 1 in
    let inside : i < length c.args.path.now = omega (arith, c.up-test.true, c.up.invariant.left) in
    let back : i + 1 ≡ c.up.left = omega (arith, c.up-test.true) in
    record {
      grows = grows_on c.args.bank.now c.up.bank c.with_part.new.bank c.up.invariant.grows c.with_part.ensures.grows;
      here = c.in_ok-here.ensures.term.within;
      left = omega (arith, c.up.invariant.left);
      same = up_next c.args.bank.now c.up.bank c.with_part.new.bank (first_tree c.args.bank.now c.args.way.now) c.args.way.now c.args.path.now i (slice_index_or c.args.path.now i 0) (id_at c.args.way.now i) c.up.here c.in_ok-here.here (replaced (first_tree c.args.bank.now c.args.way.now) c.args.path.now (tree_at c.args.bank.now c.args.new.0))
          c.requires.way c.up.invariant.grows inside (get_or_default c.args.path.now i 0 _ inside) refl
          (c.up.invariant.same ∙ ap (λ n. replaced (first_tree c.args.bank.now c.args.way.now) (take n c.args.path.now) (tree_at c.up.bank c.up.here.0)) (sym back)) c.in_ok-here.ensures.term;
    }
