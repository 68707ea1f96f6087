use Rattle.std.proofs.Common.{◌≡◌, Bool, List, ℕ, ap, sym, subst, ◌∙◌}
use Rattle.fol_core.specs.Renumbered.{renumbered}
use Rattle.ladr_print.specs.ClauseText.{clause_raw, clause_bytes}
use Rattle.ladr_print.specs.Precedences.{precedence}
use Rattle.ladr_print.specs.RawText.{text_of}
use Rattle.ladr_print.specs.ReadsAs.{ReadsAs}
use Rattle.ladr_print.specs.TermText.{clause_variable}
use Rattle.ladr_reader.specs.Table.{table_of}
use Rattle.ladr_print.specs.ReadsAgain.{ReadsClause}
use Rattle.ladr_print.specs.StatesClause.{StatesClause, FreesVariables}
use Rattle.ladr_print.proofs.Clausal.{clause_back, clause_both}
use Rattle.ladr_print.proofs.Disjunctions.{clause_is}
use Rattle.ladr_print.proofs.Printing.{reads_back}
use Rattle.ladr_print.proofs.clauses.clause_text.Goals as goal

pub returns-clause-back : goal.returns-clause-back
returns-clause-back c =
    λ other p k r.
    let rows = c.args.ops.now in
    let table = c.args.symbols.now in
    let v = clause_variable c.args.prolog in
    let d = renumbered c.args.clause.now in
    let t = clause_raw table v d in
    let same : c.in_ok-text.text.items ≡ text_of (table_of rows) t = c.in_ok-text.ensures ∙ ap (clause_bytes (table_of rows) table v) (c.as_slice.ensures.literals ∙ c.in_ok-clause.ensures) ∙ clause_is rows k table v d in
    subst (λ (l : List ℕ). ReadsAs (table_of rows) l t (precedence (table_of rows) t)) (sym same) (reads_back rows other t p c.rows_are_lawful.ensures r)

pub returns-clause-states : goal.returns-clause-states
returns-clause-states c =
    λ st before other k e frees s few.
    let rows = c.args.ops.now in
    let after = c.args.symbols.now in
    let d = c.args.clause.now in
    let same : c.in_ok-text.text.items ≡ clause_bytes (table_of rows) after (clause_variable st.prolog) (renumbered d) =
    c.in_ok-text.ensures ∙ ap (clause_bytes (table_of rows) after (clause_variable c.args.prolog)) (c.as_slice.ensures.literals ∙ c.in_ok-clause.ensures)
    ∙ ap (λ (b : Bool). clause_bytes (table_of rows) after (clause_variable b) (renumbered d)) (sym e)
    in
    subst (λ (l : List ℕ). StatesClause (table_of rows) st before l d after) (sym same)
    (clause_back rows st before other d after c.rows_are_lawful.ensures k (subst (λ (b : Bool). FreesVariables b rows) (sym e) frees) s few)

pub returns-clause-again : goal.returns-clause-again
returns-clause-again c =
    λ st before after other n k e frees s kept few size.
    let rows = c.args.ops.now in
    let T = c.args.symbols.now in
    let d = c.args.clause.now in
    let same : c.in_ok-text.text.items ≡ clause_bytes (table_of rows) T (clause_variable st.prolog) (renumbered d) =
    c.in_ok-text.ensures ∙ ap (clause_bytes (table_of rows) T (clause_variable c.args.prolog)) (c.as_slice.ensures.literals ∙ c.in_ok-clause.ensures)
    ∙ ap (λ (b : Bool). clause_bytes (table_of rows) T (clause_variable b) (renumbered d)) (sym e)
    in
    subst (λ (l : List ℕ). ReadsClause (table_of rows) st before l d after n × ReadsClause (table_of rows) st T l d T n) (sym same)
    (clause_both rows st before other d after n T c.rows_are_lawful.ensures k (subst (λ (b : Bool). FreesVariables b rows) (sym e) frees) s kept few size)
