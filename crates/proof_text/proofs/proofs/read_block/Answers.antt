use Rattle.std.proofs.Common.{◌≡◌, ◌+◌, ◌-◌, ◌<◌, ◌≤◌, List, inl, length, take, drop, refl, ap, subst, arith}
use Rattle.std.proofs.lemmas.Result.{err_from_is_err_and}
use Rattle.ladr_lex.specs.Cuts.{Cuts, pieces_of}
use Rattle.ladr_lex.specs.declared.token.Token.{Token}
use Rattle.proof_text.specs.Going.{reader_in, IsLinesStop, OrMemory}
use Rattle.proof_text.specs.Refused.{IsLineRefused}
use Rattle.proof_text.proofs.LinesRead.{block_end, block_refused, stop_within}
use Rattle.proof_text.proofs.proofs.read_block.Goals as goal

pub invariant_of-text : goal.invariant_of-text
invariant_of-text c =
    let placed : c.args.block.now.start + length c.args.block.now.bytes.items ≡ c.args.block.now.end = block_end c.requires.block.0 c.args.block.now c.requires.block.1 in
    let long : length c.deref.result.now ≡ length c.args.block.now.bytes.items = ap length c.deref.ensures.value in
    record { placed = omega (arith, placed, long) }

pub offset_bounds-deref-at : goal.offset_bounds-deref-at
offset_bounds-deref-at c =
    let within : c.in-Err.field-0.at < length c.deref-2.result.now =
    stop_within (reader_in c.args.operators.now c.args.problem.now) c.args.symbols.now c.deref-2.result.now c.in-Err.field-0 c.in-Err.ensures.stop in
    let long : length c.deref-2.result.now ≡ length c.in_ok-tokens.tokens.items = ap length c.deref-2.ensures.value in
    let again : length c.deref-in-Err.result.now ≡ length c.in_ok-tokens.tokens.items = ap length c.deref-in-Err.ensures.value in
    omega (arith, within, long, again)

pub slice_bounds-refuse_line-count : goal.slice_bounds-refuse_line-count
slice_bounds-refuse_line-count c =
    let within : c.in-Err.field-0.at < length c.deref-2.result.now =
    stop_within (reader_in c.args.operators.now c.args.problem.now) c.args.symbols.now c.deref-2.result.now c.in-Err.field-0 c.in-Err.ensures.stop in
    let long : length c.deref-2.result.now ≡ length c.in_ok-tokens.tokens.items = ap length c.deref-2.ensures.value in
    let again : length c.deref-in-Err.result.now ≡ length c.in_ok-tokens.tokens.items = ap length c.deref-in-Err.ensures.value in
    omega (arith, within, long, again)

pub slice_bounds-refuse_line-start : goal.slice_bounds-refuse_line-start
slice_bounds-refuse_line-start c =
    let within : c.in-Err.field-0.at < length c.deref-2.result.now =
    stop_within (reader_in c.args.operators.now c.args.problem.now) c.args.symbols.now c.deref-2.result.now c.in-Err.field-0 c.in-Err.ensures.stop in
    let long : length c.deref-2.result.now ≡ length c.in_ok-tokens.tokens.items = ap length c.deref-2.ensures.value in
    let again : length c.deref-in-Err.result.now ≡ length c.in_ok-tokens.tokens.items = ap length c.deref-in-Err.ensures.value in
    let low : c.in-Err.field-0.at ≤ length c.deref-in-Err.result.now = omega (arith, within, long, again) in
    omega (arith, low)

pub returns-in_err-tokens-clause-refused : goal.returns-in_err-tokens-clause-refused
returns-in_err-tokens-clause-refused c = λ b is. let p = err_from_is_err_and c.from_residual.result c.from_residual.ensures.1 in rw (p.1, p.2) (inl refl)

pub returns-clause-refused : goal.returns-clause-refused
returns-clause-refused c = λ b is.
    let g = reader_in c.args.operators.now c.args.problem.now in
    let ts : List Token = c.in_ok-tokens.tokens.items in
    let at = c.in-Err.field-0.at in
    let fault = c.in-Err.field-0.fault in
    let cut = subst (λ us. Cuts c.args.block.now.start us (pieces_of ts)) c.deref.ensures.value c.in_ok-tokens.ensures in
    let stop = subst (λ (us : List Token). IsLinesStop g c.args.symbols.now (pieces_of us) c.in-Err.field-0) c.deref-2.ensures.value c.in-Err.ensures.stop in
    let told = subst (λ (us : List Token). OrMemory (IsLineRefused c.args.bytes.now c.args.block.now.end c.args.block.now.closed (pieces_of (take (length us - at) (drop at us))) fault) c.refuse_line.result)
    c.deref-in-Err.ensures.value c.refuse_line.ensures in
    block_refused g c.args.symbols.now c.args.bytes.now b c.args.block.now ts at fault c.refuse_line.result is cut stop told
