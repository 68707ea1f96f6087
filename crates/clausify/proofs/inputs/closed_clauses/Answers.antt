use Rattle.std.proofs.Common.{◌∙◌, ◌+◌, ◌++◌, ap, sym, map, length}
use Rattle.fol_core.specs.EntryView.{skolem_axiom_of}
use Rattle.fol_core.specs.FormulaView.{fol_of}
use Rattle.fol_core.specs.Free.{closed_over}
use Rattle.clausify.specs.Clausal.{clauses_in}
use Rattle.clausify.specs.Skolem.{skolem_axioms}
use Rattle.clausify.specs.View.{substitution_kept}
use Rattle.clausify.proofs.Closures.{closed_clauses_in, closed_witnesses, closed_somes}
use Rattle.clausify.proofs.inputs.closed_clauses.Goals as goal

pub returns-clause-clauses : goal.returns-clause-clauses
returns-clause-clauses c =
    let symbols = c.args.symbols.now in
    let work = c.args.work.now in
    let xs = c.args.variables.now in
    let f = fol_of c.args.shape.now in
    c.in_ok-found.ensures.clauses
    ∙ ap (λ s. clauses_in symbols (length work.entries.items) s (substitution_kept work.terms.items) f) c.in_ok-scope.ensures.items
    ∙ sym (closed_clauses_in symbols (length work.entries.items) (substitution_kept work.terms.items) xs f)
    ∙ ap (λ s. clauses_in symbols (length work.entries.items) s (substitution_kept work.terms.items) (closed_over xs f)) (sym c.requires)

pub returns-clause-notes : goal.returns-clause-notes
returns-clause-notes c =
    let symbols = c.args.symbols.now in
    let work = c.args.work.now in
    let xs = c.args.variables.now in
    let f = fol_of c.args.shape.now in (
      c.in_ok-found.ensures.works.0
          ∙ ap (λ ws. map skolem_axiom_of work.entries.items ++ ws) (
          ap (λ s. skolem_axioms symbols (length work.entries.items) s (substitution_kept work.terms.items) f) c.in_ok-scope.ensures.items
          ∙ sym (closed_witnesses symbols (length work.entries.items) (substitution_kept work.terms.items) xs f)
          ∙ ap (λ s. skolem_axioms symbols (length work.entries.items) s (substitution_kept work.terms.items) (closed_over xs f)) (sym c.requires)
          ),
      c.in_ok-found.ensures.works.1 ∙ ap (λ n. length work.entries.items + n) (sym (closed_somes xs f)),
    )
