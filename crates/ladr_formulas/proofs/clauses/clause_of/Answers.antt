use Rattle.std.proofs.Common.{◌≡◌, ◌∙◌, List, [], None, sym, ap, subst}
use Rattle.std.specs.Prelude.{IfOk}
use Rattle.std.proofs.lemmas.Result.{IfOk-weaker}
use Rattle.fol_core.specs.Fol.{Fol}
use Rattle.fol_core.specs.RawTree.{RawTree}
use Rattle.fol_core.specs.RawView.{raw_list}
use Rattle.fol_core.specs.SymbolTable.{Symbol, KeepsNumbers}
use Rattle.ladr_reader.specs.Capped.{disjuncts}
use Rattle.ladr_formulas.specs.Broken.{broken, least_of}
use Rattle.ladr_formulas.specs.Formulas.{Style, Made, unread, style_of, formula_in, formula_reading, names_of_variables}
use Rattle.ladr_formulas.specs.ClauseIn.{clause_in}
use Rattle.ladr_formulas.specs.Literals.{IsClauseRead}
use Rattle.ladr_formulas.specs.Means.{IsMeaning}
use Rattle.ladr_formulas.specs.ReaderView.{Progress}
use Rattle.ladr_formulas.specs.declared.clauses.ClauseRead.{ClauseRead}
use Rattle.ladr_formulas.proofs.Breaking.{reading_least}
use Rattle.ladr_formulas.proofs.MeaningLemmas.{reading_means}
use Rattle.ladr_formulas.proofs.OrderLemmas.{read_in_order, read_large}
use Rattle.ladr_formulas.proofs.Unbroken.{reading_unmet}
use Rattle.ladr_formulas.proofs.VariableOrder.{variables_read}
use Rattle.ladr_formulas.proofs.clauses.clause_of.Goals as goal

-- the reader begins with the table
start : (c : goal.After-drop-symbols-3) → c.new-reader.result ≡ record { reading = unread c.args.symbols.now; scope = [] }
start c = c.new-reader.ensures ∙ ap (λ (table : List Symbol). record { reading = unread table; scope = [] }) c.replace-table.ensures.value

pub returns-clause-read : goal.returns-clause-read
returns-clause-read c =
    subst (λ (table : List Symbol). IfOk c.whole_clause-answer.result (λ r. (t : RawTree) → raw_list c.args.literals.items ≡ disjuncts t → IsClauseRead (formula_reading (style_of c.args.mode c.args.prolog) c.args.symbols.now t) r table)) (sym c.into_symbols.ensures)
    (IfOk-weaker c.whole_clause-answer.result _ (λ (r : ClauseRead). (t : RawTree) → raw_list c.args.literals.items ≡ disjuncts t → IsClauseRead (formula_reading (style_of c.args.mode c.args.prolog) c.args.symbols.now t) r c.whole_clause-answer.new.reader.reading.symbols)
    (λ r h t e. subst (λ (m : Made Fol). IsClauseRead m r c.whole_clause-answer.new.reader.reading.symbols) (λ i. formula_in (c.style_of.ensures i) [] (start c i).reading t) (h t e (ap (λ (p : Progress). p.scope) (start c))))
    c.whole_clause-answer.ensures.read)

pub returns-clause-kept : goal.returns-clause-kept
returns-clause-kept c =
    subst (λ (table : List Symbol). KeepsNumbers c.args.symbols.now table) (sym c.into_symbols.ensures)
    (subst (λ (p : Progress). KeepsNumbers p.reading.symbols c.whole_clause-answer.new.reader.reading.symbols) (start c) c.whole_clause-answer.ensures.kept)

-- the clause is that of the formula that the term means
clause_means : (st : Style) (old : List Symbol) (t : RawTree) (r : ClauseRead) (table : List Symbol) → IsClauseRead (formula_reading st old t) r table → r.least ≡ None → (f : Fol) × IsMeaning st table t f × (r.clause ≡ clause_in f)
clause_means st old t r table h unmet =
    let m = formula_reading st old t in
    (m.tree, subst (λ (u : List Symbol). IsMeaning st u t m.tree) (sym h.symbols) (reading_means st old t (sym h.least ∙ unmet)), h.clause)

pub returns-clause-ordered : goal.returns-clause-ordered
returns-clause-ordered c =
    IfOk-weaker c.whole_clause-answer.result _ _ (λ r h t e. (h t e).symbols ∙ read_in_order (style_of c.args.mode c.args.prolog) c.args.symbols.now t) (returns-clause-read c)

pub returns-clause-numbered : goal.returns-clause-numbered
returns-clause-numbered c =
    IfOk-weaker c.whole_clause-answer.result _ _ (λ r h t e. (h t e).named ∙ ap names_of_variables (variables_read (style_of c.args.mode c.args.prolog) c.args.symbols.now t)) (returns-clause-read c)

pub returns-clause-means : goal.returns-clause-means
returns-clause-means c =
    IfOk-weaker c.whole_clause-answer.result _ _ (λ r h t e. clause_means (style_of c.args.mode c.args.prolog) c.args.symbols.now t r _ (h t e)) (returns-clause-read c)

-- where the term means a formula no row was met
clause_unmet : (st : Style) (old : List Symbol) (t : RawTree) (r : ClauseRead) (table : List Symbol) → IsClauseRead (formula_reading st old t) r table → (f : Fol) → IsMeaning st table t f → r.least ≡ None
clause_unmet st old t r table h f m = h.least ∙ reading_unmet st old t f (subst (λ (u : List Symbol). IsMeaning st u t f) h.symbols m)

pub returns-clause-unmet : goal.returns-clause-unmet
returns-clause-unmet c =
    IfOk-weaker c.whole_clause-answer.result _ _ (λ r h t e. clause_unmet (style_of c.args.mode c.args.prolog) c.args.symbols.now t r _ (h t e)) (returns-clause-read c)

-- the row is the least that the term breaks
clause_least : (st : Style) (old : List Symbol) (t : RawTree) (r : ClauseRead) (table : List Symbol) → IsClauseRead (formula_reading st old t) r table → r.least ≡ least_of (broken st table t)
clause_least st old t r table h = h.least ∙ reading_least st old t ∙ ap (λ (u : List Symbol). least_of (broken st u t)) (sym h.symbols)

pub returns-clause-least : goal.returns-clause-least
returns-clause-least c =
    IfOk-weaker c.whole_clause-answer.result _ _ (λ r h t e. clause_least (style_of c.args.mode c.args.prolog) c.args.symbols.now t r _ (h t e)) (returns-clause-read c)

pub returns-clause-arity : goal.returns-clause-arity
returns-clause-arity c =
    IfOk-weaker c.whole_clause-answer.result _ _ (λ r h t e. (h t e).large ∙ read_large (style_of c.args.mode c.args.prolog) c.args.symbols.now t) (returns-clause-read c)
