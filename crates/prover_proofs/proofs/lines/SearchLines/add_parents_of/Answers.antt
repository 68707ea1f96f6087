-- The parents of a formula, of a clause, or of a line that was made.
use Rattle.std.proofs.Common.{◌-◌, ◌∙◌, [], length, refl, sym, ap, arith}
use Rattle.std.proofs.lemmas.Bool.{ltb-true, ltb-false}
use Rattle.std.proofs.lemmas.List.{append-nil}
use Rattle.std.proofs.lemmas.Option.{slice_get-get_or, slice_get_read}
use Rattle.clause_store.specs.Marks.{parents_at}
use Rattle.clause_store.specs.Parents.{just_parents}
use Rattle.prover_proofs.proofs.Parents.{formula_parents, clause_parents, made_parents, same_put, are_put}
use Rattle.prover_proofs.proofs.Placed.{all_count}
use Rattle.prover_proofs.proofs.lines.SearchLines.add_parents_of.Goals as goal
use Rattle.prover_proofs.specs.SearchLines.{lines_in}

pub returns-then-place-self : goal.returns-then-place-self
returns-then-place-self c =
    let s = c.args.self.now in
    let old = c.args.numbers.now.items in
    same_put old old [] (parents_at (lines_in s) c.args.number)
    (formula_parents s.inputs.now s.clauses.now s.made.now c.args.number (c.args.number - 1) (omega arith) c.if-place-self.true)
    (sym (append-nil old))

pub returns-then-behind-self : goal.returns-then-behind-self
returns-then-behind-self c =
    let s = c.args.self.now in
    let j = c.args.number - 1 - length s.inputs.now in
    same_put c.args.numbers.now.items c.push.new.self.items _ (parents_at (lines_in s) c.args.number)
    (clause_parents s.inputs.now s.clauses.now s.made.now c.args.number (c.args.number - 1) j _ (omega arith) (omega arith) (slice_get-get_or s.clauses.now j _ c.if-behind-self.true))
    c.in_ok-push.ensures.items

pub unreachable-requires : goal.unreachable-requires
unreachable-requires c =
    let s = c.args.self.now in
    let many = all_count s.inputs.now s.clauses.now s.made.now in
    let past = ltb-false (c.args.number - 1 - length s.inputs.now - length s.clauses.now) (length s.made.now) (sym c.in-None.ensures.lookup.0) in
    omega (arith, many, past)

pub returns : goal.returns
returns c =
    let s = c.args.self.now in
    let j = c.args.number - 1 - length s.inputs.now - length s.clauses.now in
    let within = ltb-true j (length s.made.now) (sym c.in-Some.ensures.lookup.0) in
    are_put c.args.numbers.now.items c.add_parents.new.numbers.items _ (parents_at (lines_in s) c.args.number) c.add_parents.result
    (made_parents s.inputs.now s.clauses.now s.made.now c.args.number (c.args.number - 1) j c.in-Some.line.now (omega arith) (omega arith) (slice_get_read s.made.now (length s.made.now) j c.in-Some.line.now refl within c.in-Some.ensures.lookup.1) ∙ sym (ap just_parents c.deref.ensures))
    c.add_parents.ensures
