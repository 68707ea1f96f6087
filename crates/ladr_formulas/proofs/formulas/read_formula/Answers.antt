use Rattle.std.proofs.Common.{◌≡◌, ◌∙◌, List, [], sym, ap, subst}
use Rattle.std.specs.Prelude.{IfOk}
use Rattle.fol_core.specs.Fol.{Fol}
use Rattle.fol_core.specs.RawView.{raw_of}
use Rattle.fol_core.specs.SymbolTable.{Symbol, KeepsNumbers}
use Rattle.ladr_formulas.specs.Formulas.{Made, unread, style_of, formula_in, formula_reading}
use Rattle.ladr_formulas.specs.ReaderView.{Progress}
use Rattle.ladr_formulas.specs.Whole.{IsWhole}
use Rattle.ladr_formulas.proofs.Breaking.{whole_least}
use Rattle.ladr_formulas.proofs.MeaningLemmas.{whole_means}
use Rattle.ladr_formulas.proofs.OrderLemmas.{whole_in_order, whole_large}
use Rattle.ladr_formulas.proofs.OwnFormulas.{whole_once, whole_below}
use Rattle.ladr_formulas.proofs.Unbroken.{whole_unmet}
use Rattle.ladr_formulas.proofs.VariableOrder.{whole_numbered}
use Rattle.ladr_formulas.proofs.formulas.read_formula.Goals as goal

-- the reader begins with the table
start : (c : goal.After-drop-symbols-3) → c.new-reader.result ≡ record { reading = unread c.args.symbols.now; scope = [] }
start c = c.new-reader.ensures ∙ ap (λ (table : List Symbol). record { reading = unread table; scope = [] }) c.replace-table.ensures.value

whole : (c : goal.After-drop-symbols-3) →
    formula_in c.style_of.result c.new-reader.result.scope c.new-reader.result.reading (raw_of c.args.raw) ≡ formula_reading (style_of c.args.mode c.args.prolog) c.args.symbols.now (raw_of c.args.raw)
whole c = λ i. formula_in (c.style_of.ensures i) (start c i).scope (start c i).reading (raw_of c.args.raw)

pub returns-clause-read : goal.returns-clause-read
returns-clause-read c =
    subst (λ (table : List Symbol). IfOk c.whole_formula-answer.result (λ r. IsWhole (formula_reading (style_of c.args.mode c.args.prolog) c.args.symbols.now (raw_of c.args.raw)) r table)) (sym c.into_symbols.ensures)
    (subst (λ (m : Made Fol). IfOk c.whole_formula-answer.result (λ r. IsWhole m r c.whole_formula-answer.new.reader.reading.symbols)) (whole c) c.whole_formula-answer.ensures.read)

pub returns-clause-kept : goal.returns-clause-kept
returns-clause-kept c =
    subst (λ (table : List Symbol). KeepsNumbers c.args.symbols.now table) (sym c.into_symbols.ensures)
    (subst (λ (p : Progress). KeepsNumbers p.reading.symbols c.whole_formula-answer.new.reader.reading.symbols) (start c) c.whole_formula-answer.ensures.kept)

pub returns-clause-once : goal.returns-clause-once
returns-clause-once c = whole_once c.whole_formula-answer.result (style_of c.args.mode c.args.prolog) c.args.symbols.now (raw_of c.args.raw) _ (returns-clause-read c)

pub returns-clause-symbols : goal.returns-clause-symbols
returns-clause-symbols c = whole_below c.whole_formula-answer.result (style_of c.args.mode c.args.prolog) c.args.symbols.now (raw_of c.args.raw) _ (returns-clause-read c)

pub returns-clause-ordered : goal.returns-clause-ordered
returns-clause-ordered c = whole_in_order c.whole_formula-answer.result (style_of c.args.mode c.args.prolog) c.args.symbols.now (raw_of c.args.raw) _ (returns-clause-read c)

pub returns-clause-numbered : goal.returns-clause-numbered
returns-clause-numbered c = whole_numbered c.whole_formula-answer.result (style_of c.args.mode c.args.prolog) c.args.symbols.now (raw_of c.args.raw) _ (returns-clause-read c)

pub returns-clause-means : goal.returns-clause-means
returns-clause-means c = whole_means c.whole_formula-answer.result (style_of c.args.mode c.args.prolog) c.args.symbols.now (raw_of c.args.raw) _ (returns-clause-read c)

pub returns-clause-least : goal.returns-clause-least
returns-clause-least c = whole_least c.whole_formula-answer.result (style_of c.args.mode c.args.prolog) c.args.symbols.now (raw_of c.args.raw) _ (returns-clause-read c)

pub returns-clause-unmet : goal.returns-clause-unmet
returns-clause-unmet c = whole_unmet c.whole_formula-answer.result (style_of c.args.mode c.args.prolog) c.args.symbols.now (raw_of c.args.raw) _ (returns-clause-read c)

pub returns-clause-arity : goal.returns-clause-arity
returns-clause-arity c = whole_large c.whole_formula-answer.result (style_of c.args.mode c.args.prolog) c.args.symbols.now (raw_of c.args.raw) _ (returns-clause-read c)
