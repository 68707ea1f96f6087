use Rattle.std.proofs.Common.{◌≡◌, ◌∙◌, List, [], sym, ap, subst}
use Rattle.std.specs.Prelude.{IfOk}
use Rattle.std.proofs.lemmas.Result.{IfOk-weaker}
use Rattle.fol_core.specs.Fol.{Fol}
use Rattle.fol_core.specs.RawTree.{RawTree, raws_of}
use Rattle.fol_core.specs.RawView.{raw_list}
use Rattle.fol_core.specs.SymbolTable.{Symbol, KeepsNumbers}
use Rattle.fol_core.specs.Tree.{trees_of}
use Rattle.ladr_reader.specs.Capped.{disjuncts}
use Rattle.ladr_formulas.specs.Formulas.{Made, unread, style_of, formula_in, formula_reading}
use Rattle.ladr_formulas.specs.Literals.{IsReadWithTerms}
use Rattle.ladr_formulas.specs.ReaderView.{Progress}
use Rattle.ladr_formulas.proofs.clauses.clause_with_terms.Goals as goal

-- the reader begins with the table
start : (c : goal.After-drop-symbols-3) → c.new-reader.result ≡ record { reading = unread c.args.symbols.now; scope = [] }
start c = c.new-reader.ensures ∙ ap (λ (table : List Symbol). record { reading = unread table; scope = [] }) c.replace-table.ensures.value

pub returns-clause-read : goal.returns-clause-read
returns-clause-read c =
    let st = style_of c.args.mode c.args.prolog in
    subst (λ (table : List Symbol). IfOk c.whole_with_terms-answer.result (λ r. (t : RawTree) → raw_list c.args.literals.items ≡ disjuncts t → IsReadWithTerms st (formula_reading st c.args.symbols.now t) (raws_of c.args.behind.now) r.0 (trees_of r.1) table)) (sym c.into_symbols.ensures)
    (IfOk-weaker c.whole_with_terms-answer.result _ (λ r. (t : RawTree) → raw_list c.args.literals.items ≡ disjuncts t → IsReadWithTerms st (formula_reading st c.args.symbols.now t) (raws_of c.args.behind.now) r.0 (trees_of r.1) c.whole_with_terms-answer.new.reader.reading.symbols)
    (λ r h t e. subst (λ (m : Made Fol). IsReadWithTerms st m (raws_of c.args.behind.now) r.0 (trees_of r.1) c.whole_with_terms-answer.new.reader.reading.symbols) (λ i. formula_in (c.style_of.ensures i) [] (start c i).reading t)
    (subst (λ s. IsReadWithTerms s (formula_in c.style_of.result [] c.new-reader.result.reading t) (raws_of c.args.behind.now) r.0 (trees_of r.1) c.whole_with_terms-answer.new.reader.reading.symbols) c.style_of.ensures (h t e (ap (λ (p : Progress). p.scope) (start c)))))
    c.whole_with_terms-answer.ensures.read)

pub returns-clause-kept : goal.returns-clause-kept
returns-clause-kept c =
    subst (λ (table : List Symbol). KeepsNumbers c.args.symbols.now table) (sym c.into_symbols.ensures)
    (subst (λ (p : Progress). KeepsNumbers p.reading.symbols c.whole_with_terms-answer.new.reader.reading.symbols) (start c) c.whole_with_terms-answer.ensures.kept)
