-- A step finds one proof at most.
use Rattle.std.proofs.Common.{◌≡◌, ◌<◌, refl, arith, length}
use Rattle.std.proofs.lemmas.List.{length-map}
use Rattle.given_clause.specs.Guides.{setting_of}
use Rattle.given_clause.specs.States.{found_of, state_of}
use Rattle.prover.proofs.Finding.{none_found, one_found}
use Rattle.prover.proofs.processing.advance.Goals as goal

pub returns-then-len-before-clause-found : goal.returns-then-len-before-clause-found
returns-then-len-before-clause-found c =
    none_found (setting_of c.args.guide.now) (state_of c.args.search.now) (state_of c.step.new.search) c.in_ok-step.ensures.state c.requires.going c.requires.queued
    (omega (
      arith,
      c.if-len-before.true,
      c.len.ensures,
      c.len-before.ensures,
      c.step.new.search.proofs.ok.0,
      c.args.search.now.proofs.ok.0,
      length-map c.step.new.search.proofs.items found_of,
      length-map c.args.search.now.proofs.items found_of,
    ))

pub returns-clause-found : goal.returns-clause-found
returns-clause-found c =
    let s = state_of c.args.search.now in
    let count : c.len-before.result ≡ length s.proofs = omega (arith, c.len-before.ensures, c.args.search.now.proofs.ok.0, length-map c.args.search.now.proofs.items found_of) in
    let longer : c.len-before.result < length c.step.new.search.proofs.items = omega (arith, c.if-len-before.false, c.len.ensures, c.step.new.search.proofs.ok.0) in
    one_found (setting_of c.args.guide.now) s (state_of c.step.new.search) c.step.new.search.proofs.items c.len-before.result c.index.result.now c.in_ok-step.ensures.state c.requires.going c.requires.queued refl count longer c.index.ensures
