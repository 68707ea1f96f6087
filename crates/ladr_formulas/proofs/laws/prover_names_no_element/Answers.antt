use Rattle.std.proofs.Common.{[], refl}
use Rattle.ladr_formulas.proofs.ClauseElements.{clause_names_none}
use Rattle.ladr_formulas.specs.Formulas.{unread, style_of, formula_reading}
use Rattle.ladr_formulas.specs.declared.styles.Mode.TheVariants.{Prover}
use Rattle.ladr_formulas.proofs.NoElements.{formula_none, terms_none}
use Rattle.ladr_formulas.proofs.laws.prover_names_no_element.Goals as goal

pub returns : goal.returns
returns c = record {
  formulas = λ prolog table t k. formula_none k (style_of Prover prolog) refl [] (unread table) t;
  terms = λ prolog table ts k. terms_none k (style_of Prover prolog) refl [] (unread table) ts;
  clauses = λ prolog table t c is k. clause_names_none k (formula_reading (style_of Prover prolog) table t).tree c
      (formula_none k (style_of Prover prolog) refl [] (unread table) t) is;
}
