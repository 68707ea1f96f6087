use Rattle.std.proofs.Common.{◌+◌, ◌++◌, ap, ◌∙◌, length, map, drop}
use Rattle.fol_core.specs.EntryView.{skolem_axiom_of}
use Rattle.fol_core.specs.Tree.{trees_of}
use Rattle.clausify.specs.AskedForms.{terms_in}
use Rattle.clausify.proofs.Asks.{terms_next}
use Rattle.clausify.specs.Fronts.{normal_of}
use Rattle.clausify.specs.Input.{rows_in, axioms_in}
use Rattle.clausify.proofs.Rows.{rows_next, axioms_next}
use Rattle.clausify.proofs.inputs.all_clauses.Goals as goal

pub loop-place-preserved : goal.loop-place-preserved
loop-place-preserved c =
    let symbols = c.args.symbols.now in
    let normals = c.args.normals.now in
    let place = c.loop-place.place in
    let before = length c.loop-place.entries.items in
    let after = length c.in_ok-entries.entries.items in
    record {
      rows = ap (λ rs. rs ++ rows_in symbols ((place + 1) + 1) after (map normal_of (drop (place + 1) normals))) c.in_ok-entries.ensures.rows
          ∙ rows_next symbols c.loop-place.rows.items normals place before after c.index-normals-place.result c.loop-place-test.true c.index-normals-place.is c.in_ok-entries.ensures.count
          ∙ c.loop-place.invariant.rows;
      answers = ap (λ ts. ts ++ terms_in symbols after (drop (place + 1) normals)) c.in_ok-entries.ensures.answers
          ∙ terms_next symbols (map trees_of c.loop-place.answers.items) normals place before after c.index-normals-place.result c.loop-place-test.true c.index-normals-place.is c.in_ok-entries.ensures.count
          ∙ c.loop-place.invariant.answers;
      witnesses = ap (λ ws. ws ++ axioms_in symbols after (map normal_of (drop (place + 1) normals))) c.in_ok-entries.ensures.entries
          ∙ axioms_next symbols (map skolem_axiom_of c.loop-place.entries.items) normals place before after c.index-normals-place.result c.loop-place-test.true c.index-normals-place.is c.in_ok-entries.ensures.count
          ∙ c.loop-place.invariant.witnesses;
    }
