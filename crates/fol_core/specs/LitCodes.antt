-- How the logic stores clauses.
use Rattle.std.specs.Prelude.{Bool, List, refl}
use Rattle.std.specs.Coded.{Coded, code_by, coded×, coded_bool, coded_list}
use Rattle.fol_core.specs.Tree.{Tree}
use Rattle.fol_core.specs.TreeCodes.{coded_tree}
use Rattle.fol_core.specs.Literals.{Lit, literal}

abbrev pub coded_literal : Coded Lit
coded_literal =
    code_by (Bool × Tree) (coded× coded_bool coded_tree) (λ l. (l.positive, l.atom))
    (λ p. literal p.0 p.1) (λ _. refl)

abbrev pub coded_clause : Coded (List Lit)
coded_clause = coded_list coded_literal
