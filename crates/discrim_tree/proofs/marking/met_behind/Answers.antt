use Rattle.std.proofs.Common.{◌≡◌, ◌<◌, ℕ, length, get_or, subst, arith}
use Rattle.std.specs.Ordering.{MatchOrdering}
use Rattle.std.specs.declared.cmp.Ordering.{Ordering}
use Rattle.std.proofs.lemmas.Cmp.{ranked}
use Rattle.discrim_tree.proofs.Marked.{met_here, met_later, met_never}
use Rattle.discrim_tree.proofs.marking.met_behind.Goals as goal

-- what a comparison of numbers says
abbrev Ranks : ℕ → ℕ → Ordering → Type 0
Ranks a b o = MatchOrdering o (a < b) (a ≡ b) (b < a)

pub returns-in-Less : goal.returns-in-Less
returns-in-Less c =
    let within : c.args.met < length c.args.marks.now = omega (arith, c.if-met-marks.false) in
    let next = get_or c.args.marks.now c.args.met 0 in
    let less = subst (Ranks c.args.mark next) c.in-Less.is (ranked c.args.mark next c.cmp.result c.cmp.ensures) in
    λ rise. met_later c.args.marks.now c.args.met c.args.mark rise within less

pub returns-in-Equal : goal.returns-in-Equal
returns-in-Equal c =
    let within : c.args.met < length c.args.marks.now = omega (arith, c.if-met-marks.false) in
    let next = get_or c.args.marks.now c.args.met 0 in
    let same = subst (Ranks c.args.mark next) c.in-Equal.is (ranked c.args.mark next c.cmp.result c.cmp.ensures) in
    λ rise. met_here c.args.marks.now c.args.met c.args.mark rise within same

pub returns-in-Greater : goal.returns-in-Greater
returns-in-Greater c =
    let within : c.args.met < length c.args.marks.now = omega (arith, c.if-met-marks.false) in
    let next = get_or c.args.marks.now c.args.met 0 in
    let more = subst (Ranks c.args.mark next) c.in-Greater.is (ranked c.args.mark next c.cmp.result c.cmp.ensures) in
    λ rise. met_never c.args.marks.now c.args.met c.args.mark rise within more
