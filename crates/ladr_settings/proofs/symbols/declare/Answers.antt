use Rattle.std.proofs.Common.{◌∙◌, sym}
use Rattle.ladr_settings.proofs.Rows.{second_holds, neither_holds, none_holds, where_ok}
use Rattle.ladr_settings.proofs.symbols.declare.Goals as goal

pub returns-clause-no_operator : goal.returns-clause-no_operator
returns-clause-no_operator c = where_ok c.declare.result (λ x is. none_holds _ (λ h. let e = sym is ∙ c.declare.ensures.operator.1 h in cc))

pub returns-clause-no_symbol : goal.returns-clause-no_symbol
returns-clause-no_symbol c = where_ok c.declare.result (λ x is. neither_holds _ _ (λ h. let e = sym is ∙ c.declare.ensures.operator.1 h in cc) (λ h. let e = sym is ∙ c.declare.ensures.symbol.1 h in cc))

pub returns-clause-symbol : goal.returns-clause-symbol
returns-clause-symbol c = λ e. second_holds _ _ (c.declare.ensures.symbol.0 e)
