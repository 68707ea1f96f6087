-- Both lists of terms are there.
use Rattle.std.proofs.Common.{refl}
use Rattle.term_unifiers.specs.Solutions.{bindings_of}
use Rattle.term_unifiers.proofs.Held.{all_shared}
use Rattle.term_unifiers.proofs.sharing.share_among.Goals as goal

pub returns : goal.returns
returns c =
    all_shared c.args.many (bindings_of c.args.found.now) c.args.terms.now c.args.others.now c.put_classes.new.bank c.put_all_among.new.bank c.put_all_among-2.new.bank c.put_classes.new.numbers c.put_all_among.new.numbers c.put_all_among-2.new.numbers
    c.in_ok-terms.terms.items c.in_ok-others.others.items (record { bank = c.put_all_among-2.new.bank; terms = c.in_ok-terms.terms; others = c.in_ok-others.others }) c.in_ok-terms.ensures c.in_ok-others.ensures refl refl refl
