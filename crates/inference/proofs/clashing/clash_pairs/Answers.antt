-- A nucleus and a satellite have their literals; a pair more, and all of them.
use Rattle.std.proofs.Common.{◌≡◌, ◌∙◌, ◌+◌, ◌++◌, sym, ap, subst, arith}
use Rattle.derivation.specs.Places.{atom_at}
use Rattle.inference.proofs.ClashSteps.{are_there, all_pairs, first_is, nucleus_there, pairs_behind, first_of, one_more, one_pair}
use Rattle.inference.proofs.FitSteps.{satellite_at, satellite_is}
use Rattle.inference.proofs.clashing.clash_pairs.Goals as goal

pub atom-left-requires : goal.atom-left-requires
atom-left-requires c =
    let ss = c.args.satellites.now in
    let ps = c.args.parents.now in
    let i = c.loop-i.i in
    nucleus_there ss ps i (satellite_at ss i) c.index-parents-0.result c.requires c.loop-i-test.true (satellite_is ss i c.loop-i-test.true) c.index-parents-0.is

pub bounds-parents-i : goal.bounds-parents-i
bounds-parents-i c = let many = one_more c.args.satellites.now c.args.parents.now c.requires in omega (arith, many, c.loop-i-test.true)

pub atom-right-requires : goal.atom-right-requires
atom-right-requires c =
    let ss = c.args.satellites.now in
    let ps = c.args.parents.now in
    let i = c.loop-i.i in
    (are_there ss ps i (satellite_at ss i) c.index-parents-0.result c.index-parents-i.result c.requires c.loop-i-test.true (satellite_is ss i c.loop-i-test.true) c.index-parents-0.is c.index-parents-i.is).satellite

pub loop-i-preserved : goal.loop-i-preserved
loop-i-preserved c =
    let ss = c.args.satellites.now in
    let ps = c.args.parents.now in
    let i = c.loop-i.i in
    let many = one_more ss ps c.requires in
    let nucleus : first_of ps ≡ c.index-parents-0.result.now = first_is ps c.index-parents-0.result (omega (arith, many)) c.index-parents-0.is in
    let same : c.push.new.self.many ≡ c.loop-i.pairs.many = c.in_ok-push.ensures.many in (
      same ∙ c.loop-i.invariant.0,
      subst (λ k. c.push.new.self.pairs ++ pairs_behind k (first_of ps) ss ps (i + 1) ≡ c.in_ok-pairs.pairs.pairs ++ pairs_behind k (first_of ps) ss ps 0) (sym same)
          (one_pair c.loop-i.pairs.many (first_of ps) ss ps i (satellite_at ss i) c.index-parents-i.result c.loop-i.pairs.pairs c.push.new.self.pairs _ _ _ c.loop-i-test.true many (satellite_is ss i c.loop-i-test.true) c.index-parents-i.is
          (c.atom-left.ensures ∙ ap (λ d. atom_at d (satellite_at ss i).place) (sym nucleus)) c.atom-right.ensures c.in_ok-push.ensures.pairs c.loop-i.invariant.1),
    )

pub returns : goal.returns
returns c =
    all_pairs c.args.satellites.now c.args.parents.now c.loop-i.pairs.many c.loop-i.i c.in_ok-pairs.pairs.pairs c.loop-i.pairs.pairs c.requires (c.loop-i.invariant.0 ∙ c.in_ok-pairs.ensures.many) c.loop-i-test.false
    c.in_ok-pairs.ensures.pairs c.loop-i.invariant.1
