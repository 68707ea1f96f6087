-- Both terms have nodes.
use Rattle.fol_core.specs.Substitutions.{substitute}
use Rattle.fol_core.specs.TermView.{tree_of}
use Rattle.substitutions.specs.Apart.{interleaved}
use Rattle.term_unifiers.specs.declared.paired.Paired.{Paired}
use Rattle.term_unifiers.proofs.Pairing.{pair_more}
use Rattle.term_unifiers.proofs.pairs.put_pair.Goals as goal

pub returns : goal.returns
returns c =
    let new : Paired = record { arena = c.put_apart-2.new.arena; lefts = c.put_apart.new.numbers; rights = c.put_apart-2.new.numbers } in
    pair_more c.args.nodes.now new c.put_apart.new.arena (substitute (interleaved c.args.many c.args.i) (tree_of c.args.s.now)) (substitute (interleaved c.args.many c.args.j) (tree_of c.args.t.now)) c.requires
    c.in_ok-put_apart.ensures c.in_ok-put_apart-2.ensures
