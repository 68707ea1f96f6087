use Rattle.std.proofs.Common.{◌≡◌, ◌+◌, ◌≤◌, ◌^◌, suc, false, length, sym, ◌∙◌, subst, arith}
use Rattle.clausify.specs.Names.{letter_numbered, is_named, next_free}
use Rattle.clausify.proofs.FreeNames.{next_is_free}
use Rattle.clausify.proofs.NameLemmas.{ends}
use Rattle.clausify.proofs.names.next_free.Goals as goal

pub returns-clause-free : goal.returns-clause-free
returns-clause-free c =
    let table = c.args.symbols.now in
    let reached : c.loop-passed.number ≡ next_free table c.args.letter c.args.last =
    sym (ends table c.args.letter c.loop-passed.number c.loop-passed.passed (omega (arith, c.loop-passed-test.false, c.len-passed-end.ensures.len))) ∙ c.loop-passed.invariant in
    let few : c.args.last + 1 + suc (length table) ≤ 10 ^ 64 = omega (arith, c.ranges.last.fits, c.len-passed-end.ensures.len, c.len-passed-end.type_inv) in
    subst (λ n. is_named table (letter_numbered c.args.letter n) ≡ false) (sym reached) (next_is_free table c.args.letter c.args.last few)
