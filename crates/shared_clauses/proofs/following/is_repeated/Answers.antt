-- One literal more.
use Rattle.std.proofs.Common.{false, refl, sym, ◌∙◌, arith}
use Rattle.std.proofs.lemmas.Bool.{false≢true}
use Rattle.shared_clauses.specs.Shared.{clause_in}
use Rattle.shared_clauses.proofs.FollowSteps.{atom_within, differs, none_before, repeats}
use Rattle.shared_clauses.proofs.following.is_repeated.Goals as goal

pub is_same-requires-clause-l : goal.is_same-requires-clause-l
is_same-requires-clause-l c = atom_within c.args.bank.now c.args.literals.now c.loop-earlier.earlier (record { positive = false; atom = record { 0 = 0 } }) (omega (arith, c.loop-earlier-test.true, c.requires.place)) c.requires.literals

pub is_same-requires-clause-m : goal.is_same-requires-clause-m
is_same-requires-clause-m c = atom_within c.args.bank.now c.args.literals.now c.args.place (record { positive = false; atom = record { 0 = 0 } }) c.requires.place c.requires.literals

pub returns-then-is_same : goal.returns-then-is_same
returns-then-is_same c = (λ h. repeats c.args.bank.now c.args.literals.now c.args.place c.loop-earlier.earlier (record { positive = false; atom = record { 0 = 0 } }) c.loop-earlier-test.true c.requires.place (c.is_same.ensures.0 c.if-is_same.true), λ h. refl)

pub loop-earlier-preserved : goal.loop-earlier-preserved
loop-earlier-preserved c =
    none_before (clause_in c.args.bank.now c.args.literals.now) c.args.place c.loop-earlier.earlier c.loop-earlier.invariant
    (differs c.args.bank.now c.args.literals.now c.args.place c.loop-earlier.earlier (record { positive = false; atom = record { 0 = 0 } }) c.loop-earlier-test.true c.requires.place (λ e. false≢true (sym c.if-is_same.false ∙ c.is_same.ensures.1 e)))
