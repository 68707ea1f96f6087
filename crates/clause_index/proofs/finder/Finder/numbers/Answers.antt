use Rattle.std.proofs.Common.{sym, subst}
use Rattle.discrim_tree.specs.Seeking.{passes}
use Rattle.discrim_tree.specs.Sieves.{IsUnder}
use Rattle.discrim_tree.specs.declared.sieve.Sieve.{Sieve}
use Rattle.fol_core.specs.TermView.{tree_of}
use Rattle.clause_index.proofs.Filing.{filed_at}
use Rattle.clause_index.proofs.finder.Finder.numbers.Goals as goal

pub returns-clause-found : goal.returns-clause-found
returns-clause-found c = λ h filed kind passed.
    let there = filed_at c.args.self.now h filed c.args.part.now c.requires kind (passes c.args.sought.now (tree_of c.args.t.now)) passed in
    c.in_ok-numbers.ensures.found there.0 h.number (subst (λ (s : Sieve). IsUnder s there.0 h.number) (sym c.sieve.ensures) there.2) there.1
