-- The nodes of both sides.
use Rattle.std.proofs.Common.{List, ap, map}
use Rattle.fol_core.specs.Tree.{Tree}
use Rattle.term_unifiers.specs.Renamed.{Equated}
use Rattle.term_unifiers.proofs.Pairing.{left_seen, right_seen}
use Rattle.term_unifiers.proofs.Unified.{AreReady, entered_left, entered_right}
use Rattle.term_unifiers.proofs.pairs.entered.Goals as goal

pub returns-clause-left : goal.returns-clause-left
returns-clause-left c =
    let seen = ap (λ (e : Equated). e.pairs) c.pairs.view_is in
    let lefts : List Tree = map (λ (p : Tree × Tree). p.0) c.args.pairs.pairs in
    let rights : List Tree = map (λ (p : Tree × Tree). p.1) c.args.pairs.pairs in
    let ready : AreReady c.pairs.inside.nodes.arena c.pairs.inside.nodes.lefts.items c.pairs.inside.nodes.rights.items (map (λ (p : Tree × Tree). p.0) c.args.pairs.pairs) (map (λ (p : Tree × Tree). p.1) c.args.pairs.pairs) = record {
      arena = c.pairs.invariant.paired.arena;
      lefts = c.pairs.invariant.paired.lefts;
      rights = c.pairs.invariant.paired.rights;
      left = left_seen c.pairs.inside.nodes c.args.pairs.pairs c.pairs.invariant seen;
      right = right_seen c.pairs.inside.nodes c.args.pairs.pairs c.pairs.invariant seen;
    } in
    entered_left c.enter.result _ _ _ lefts rights ready c.enter.ensures.arena c.enter.ensures.lefts c.enter.ensures.rights

pub returns-clause-right : goal.returns-clause-right
returns-clause-right c =
    let seen = ap (λ (e : Equated). e.pairs) c.pairs.view_is in
    let lefts : List Tree = map (λ (p : Tree × Tree). p.0) c.args.pairs.pairs in
    let rights : List Tree = map (λ (p : Tree × Tree). p.1) c.args.pairs.pairs in
    let ready : AreReady c.pairs.inside.nodes.arena c.pairs.inside.nodes.lefts.items c.pairs.inside.nodes.rights.items (map (λ (p : Tree × Tree). p.0) c.args.pairs.pairs) (map (λ (p : Tree × Tree). p.1) c.args.pairs.pairs) = record {
      arena = c.pairs.invariant.paired.arena;
      lefts = c.pairs.invariant.paired.lefts;
      rights = c.pairs.invariant.paired.rights;
      left = left_seen c.pairs.inside.nodes c.args.pairs.pairs c.pairs.invariant seen;
      right = right_seen c.pairs.inside.nodes c.args.pairs.pairs c.pairs.invariant seen;
    } in
    entered_right c.enter.result _ _ _ lefts rights ready c.enter.ensures.arena c.enter.ensures.lefts c.enter.ensures.rights
