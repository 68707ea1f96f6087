use Rattle.std.proofs.Common.{◌≡◌, Bool, List, ℕ, ap, sym, subst, ◌∙◌}
use Rattle.fol_core.specs.TermView.{tree_of}
use Rattle.ladr_lex.specs.ClauseNames.{FreesVariables}
use Rattle.ladr_print.specs.RawText.{text_of}
use Rattle.ladr_print.specs.ReadsAgain.{ReadsTerm}
use Rattle.ladr_print.specs.TermText.{clause_variable, term_raw}
use Rattle.ladr_reader.specs.Table.{table_of}
use Rattle.ladr_print.proofs.Clausal.{term_both}
use Rattle.ladr_print.proofs.terms.term_text.Goals as goal

pub returns-clause-again : goal.returns-clause-again
returns-clause-again c =
    λ st before after other n k e frees s kept few size.
    let rows = c.args.ops.now in
    let T = c.args.symbols.now in
    let t = tree_of c.args.term.now in
    let same : c.in_ok-text.text.items ≡ text_of (table_of rows) (term_raw T (clause_variable st.prolog) t) =
    c.in_ok-text.ensures.text ∙ ap (text_of (table_of rows)) c.in_ok-raw.ensures ∙ ap (λ (b : Bool). text_of (table_of rows) (term_raw T (clause_variable b) t)) (sym e)
    in
    subst (λ (l : List ℕ). ReadsTerm (table_of rows) st before l t after n × ReadsTerm (table_of rows) st T l t T n) (sym same)
    (term_both rows st before other t after n T c.rows_are_lawful.ensures k (subst (λ (b : Bool). FreesVariables b rows) (sym e) frees) s kept few size)
