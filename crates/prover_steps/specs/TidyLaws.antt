-- What becomes of a clause is what its words make of it.
use Rattle.std.specs.Prelude.{ℕ, ◌≡◌, Bool, true, List}
use Rattle.std.specs.List.{AllByRecursion}
use Rattle.fol_core.specs.Literals.{ClauseTree}
use Rattle.fol_core.specs.Renumbered.{renumbered}
use Rattle.fol_core.specs.Tree.{Tree}
use Rattle.derivation.specs.Lines.{LineTree, clause, After}
use Rattle.prover_steps.specs.Clashing.{Held}
use Rattle.prover_steps.specs.Rewriting.{is_rule_clause, normal_form}
use Rattle.prover_steps.specs.Shortening.{put_in_order}
use Rattle.prover_steps.specs.StepLaws.{HaveClause}

-- by lines that have what is held
abbrev pub OrderLeads : Type 0
OrderLeads =
    (ls : List LineTree) (greater : Tree → Tree → Bool) (units : Bool) (held : List Held)
    (c : ClauseTree)
    → AllByRecursion (HaveClause ls) held
    → After ls (put_in_order greater units held c).words c
    (clause (renumbered (put_in_order greater units held c).clause))

-- and by lines that have the rules
abbrev pub HaveRule : List LineTree → Held → Type 0
HaveRule ls r = HaveClause ls r × (is_rule_clause r.clause ≡ true)

abbrev pub RewritingLeads : Type 0
RewritingLeads =
    (ls : List LineTree) (too_large : ClauseTree → Bool) (rules : List Held) (k : ℕ)
    (c : ClauseTree)
    → AllByRecursion (HaveRule ls) rules
    → After ls (normal_form too_large rules k c).words c
    (clause (renumbered (normal_form too_large rules k c).clause))
