-- The arguments so far are the same, up to what the links say of smaller terms.
use Rattle.std.proofs.Common.{◌≡◌, ℕ, true, take}
use Rattle.fol_core.specs.Substitutions.{Substitution, substitute}
use Rattle.unify.specs.Bindings.{Meets}
use Rattle.unify.specs.Spots.{spot_tree}
use Rattle.unify.specs.Steps.{AlikeLinks, WorkStands, TermsStay, WorkGoesOn, Fulfils}
use Rattle.unify.proofs.Classes.{AlikeEach}
use Rattle.unify.proofs.uniting.open_each.Given as goal

abbrev pub invariant-loop-k : goal.invariant-loop-k
invariant-loop-k l = record {
  works : WorkStands l.bank l.work;
  goes : WorkGoesOn l.fn.work l.work;
  stays : TermsStay l.bank l.fn.work l.work l.link.from l.link.to true;
  every : (u : Substitution) → Fulfils u l.bank l.fn.work → substitute u (spot_tree l.bank l.link.from) ≡ substitute u (spot_tree l.bank l.link.to) → Fulfils u l.bank l.work;
  alike : (n : ℕ) (u : Substitution) → Meets u l.bank l.work.bound.items → AlikeLinks n u l.bank l.work.links.items
      → AlikeEach n u l.bank l.link.from.context (take l.k l.left) l.link.to.context (take l.k l.right);
}
