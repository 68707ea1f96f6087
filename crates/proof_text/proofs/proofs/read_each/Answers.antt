use Rattle.std.proofs.Common.{◌≡◌, ◌+◌, ◌++◌, ◌∷◌, List, [], inl, take, refl, sym, subst}
use Rattle.std.proofs.lemmas.Result.{err_from_is_err_and}
use Rattle.derivation.specs.declared.line.Derivation.{Derivation}
use Rattle.proof_text.specs.Going.{reader_in, lines_of_all}
use Rattle.proof_text.specs.Proofs.{HasProofs, no_block}
use Rattle.proof_text.proofs.LinesRead.{HasBlockAt, block_under, next_proof, refused_under, all_proofs, keeps_on}
use Rattle.proof_text.proofs.proofs.read_each.Goals as goal

pub loop-block-init : goal.loop-block-init
loop-block-init c =
    let g = reader_in c.args.operators.now c.args.problem.now in
    record {
      read = λ bs h. subst (λ (ds : List Derivation). HasProofs g c.args.symbols.now [] (lines_of_all ds) c.args.symbols.now) (sym c.new-proofs.ensures.items) no_block;
      kept = λ n s h. h;
    }

pub read_block-requires-clause-block : goal.read_block-requires-clause-block
read_block-requires-clause-block c =
    let at : HasBlockAt c.requires.blocks.0 c.loop-block.block-index c.block-item.result =
    block_under c.requires.blocks.0 c.args.blocks.now c.loop-block.block-index c.block-item.result c.requires.blocks.1 c.loop-block-test.true c.block-item.is in
    (at.here, at.is)

pub returns-in_err-proof-clause-refused : goal.returns-in_err-proof-clause-refused
returns-in_err-proof-clause-refused c = λ bs h.
    let at : HasBlockAt bs c.loop-block.block-index c.block-item.result =
    block_under bs c.args.blocks.now c.loop-block.block-index c.block-item.result h c.loop-block-test.true c.block-item.is in
    let p = err_from_is_err_and c.from_residual.result c.from_residual.ensures.1 in
    rw (p.1, p.2) (refused_under (reader_in c.args.operators.now c.args.problem.now) c.args.symbols.now c.loop-block.symbols c.args.bytes.now bs c.loop-block.block-index c.block-item.result
    (lines_of_all c.loop-block.proofs.items) c.in_err-proof.field-0.0 at (c.loop-block.invariant.read bs h) (c.in_err-proof.ensures.refused at.here at.is))

pub returns-in_err-push-clause-refused : goal.returns-in_err-push-clause-refused
returns-in_err-push-clause-refused c = λ bs h. let p = err_from_is_err_and c.from_residual-in_err-push.result c.from_residual-in_err-push.ensures.1 in rw (p.1, p.2) (inl refl)

pub loop-block-preserved : goal.loop-block-preserved
loop-block-preserved c =
    let g = reader_in c.args.operators.now c.args.problem.now in
    let items : c.push.new.self.items ≡ c.loop-block.proofs.items ++ c.in_ok-proof.proof ∷ [] = c.in_ok-push.ensures.items in
    record {
      read = λ bs h.
          let at : HasBlockAt bs c.loop-block.block-index c.block-item.result =
          block_under bs c.args.blocks.now c.loop-block.block-index c.block-item.result h c.loop-block-test.true c.block-item.is in
          subst (λ (ds : List Derivation). HasProofs g c.args.symbols.now (take (c.loop-block.block-index + 1) bs) (lines_of_all ds) c.read_block.new.symbols) (sym items)
          (next_proof g c.args.symbols.now c.loop-block.symbols c.read_block.new.symbols bs c.loop-block.block-index c.block-item.result c.loop-block.proofs.items c.in_ok-proof.proof at
          (c.loop-block.invariant.read bs h) (c.in_ok-proof.ensures.read at.here at.is));
      kept = keeps_on c.args.symbols.now c.loop-block.symbols c.read_block.new.symbols c.loop-block.invariant.kept c.read_block.ensures.kept;
    }

pub returns-clause-read : goal.returns-clause-read
returns-clause-read c = λ bs h.
    all_proofs (reader_in c.args.operators.now c.args.problem.now) c.args.symbols.now c.loop-block.symbols bs c.args.blocks.now c.loop-block.block-index (lines_of_all c.loop-block.proofs.items)
    h c.loop-block-test.false (c.loop-block.invariant.read bs h)
