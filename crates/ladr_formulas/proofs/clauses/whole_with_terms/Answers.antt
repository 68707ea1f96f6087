use Rattle.std.proofs.Common.{◌≡◌, List, [], ap, sym, ◌∙◌}
use Rattle.fol_core.specs.Fol.{Fol}
use Rattle.fol_core.specs.RawTree.{raws_of}
use Rattle.fol_core.specs.RawView.{raw_list}
use Rattle.fol_core.specs.Tree.{Trees, trees_of}
use Rattle.ladr_reader.specs.Capped.{disjuncts}
use Rattle.ladr_formulas.specs.Formulas.{Reading, Made, formula_in, terms_of, names_of_variables}
use Rattle.ladr_formulas.specs.Literals.{formulas_in, clause_from}
use Rattle.ladr_formulas.proofs.ClauseLemmas.{reads}
use Rattle.ladr_formulas.proofs.clauses.whole_with_terms.Goals as goal

pub returns-clause-read : goal.returns-clause-read
returns-clause-read c = λ t parts none.
    let st = c.args.style in
    let s = c.args.reader.now.reading in
    let is = reads st s t in
    let all : formulas_in st c.args.reader.now.scope s (raw_list c.args.literals.items) ≡ formulas_in st [] s (disjuncts t) = λ i. formulas_in st (none i) s (parts i) in
    let reading : c.clause.new.reader.reading ≡ (formula_in st [] s t).reading = c.in_ok-clause.ensures.reading ∙ ap (λ (m : Made (List Fol)). m.reading) all ∙ is.reading in
    let scope : c.clause.new.reader.scope ≡ [] = c.in_ok-clause.ensures.scope ∙ none in
    let made : terms_of st [] (formula_in st [] s t).reading (raws_of c.args.behind.now) ≡ record { tree = trees_of c.in_ok-read.read; reading = c.terms.new.reader.reading } =
    (λ i. terms_of st (sym scope i) (sym reading i) (raws_of c.args.behind.now)) ∙ c.in_ok-read.ensures.read in
    let after : c.terms.new.reader.reading ≡ (terms_of st [] (formula_in st [] s t).reading (raws_of c.args.behind.now)).reading = ap (λ (m : Made Trees). m.reading) (sym made) in
    record {
      clause = c.in_ok-clause.ensures.clause ∙ ap (λ (m : Made (List Fol)). clause_from m.tree) all ∙ is.clause;
      terms = ap (λ (m : Made Trees). m.tree) (sym made);
      named = c.in_ok-names.ensures.names ∙ ap (λ (r : Reading). names_of_variables r.variables) after;
      least = c.least-least.ensures ∙ ap (λ (r : Reading). r.least) after;
      large = c.is_large-large.ensures ∙ ap (λ (r : Reading). r.large) after;
      symbols = c.take_names.ensures.symbols ∙ ap (λ (r : Reading). r.symbols) after;
    }
