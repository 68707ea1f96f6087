use Rattle.std.proofs.Common.{◌≡◌, ◌∙◌, true, false, refl, sym}
use Rattle.std.proofs.lemmas.Result.{err_from_is_err_and}
use Rattle.std.specs.List.{list_all}
use Rattle.proof_text.specs.declared.blocks.BlockRead.{BlockRead}
use Rattle.proof_text.proofs.Begun.{all_read, line_refused, block_open}
use Rattle.proof_text.proofs.text.read_all.Goals as goal

pub read_blocks-requires : goal.read_blocks-requires
read_blocks-requires c = c.requires

pub returns-in_err-read-clause-refused : goal.returns-in_err-read-clause-refused
returns-in_err-read-clause-refused c = λ f bs begun has blocks.
    let p = err_from_is_err_and c.from_residual.result c.from_residual.ensures.1 in
    rw (p.1, p.2) (line_refused c.args.bytes.now f bs c.args.read.now c.in_err-read.field-0.0 begun has (c.in_err-read.ensures.refused bs blocks))

pub returns-then-not-are_closed-clause-refused : goal.returns-then-not-are_closed-clause-refused
returns-then-not-are_closed-clause-refused c = λ f bs begun has blocks.
    let shut : list_all (λ (b : BlockRead). b.closed) c.args.blocks.now ≡ false = sym c.are_closed.ensures ∙ c.if-not-are_closed.true in
    block_open c.args.bytes.now f bs c.args.blocks.now c.args.read.now c.read_blocks.new.symbols c.in_ok-read.field-0.items c.refuse_byte.result begun has blocks shut (c.in_ok-read.ensures.read bs blocks) c.refuse_byte.ensures

pub returns-clause-read : goal.returns-clause-read
returns-clause-read c = λ f bs begun has blocks.
    let closed : list_all (λ (b : BlockRead). b.closed) c.args.blocks.now ≡ true = sym c.are_closed.ensures ∙ c.if-not-are_closed.false in
    all_read c.args.bytes.now f bs c.args.blocks.now c.args.read.now _ begun has blocks refl refl closed (c.in_ok-read.ensures.read bs blocks)
