use Rattle.std.proofs.Common.{◌≡◌, ◌∙◌, ℕ, ◌-◌, List, length, take, drop, refl, ap, arith}
use Rattle.std.proofs.lemmas.List.{length-drop, take_all}
use Rattle.std.specs.List.{prefix_len}
use Rattle.ladr_lex.specs.Comments.{is_in_line}
use Rattle.proof_text.proofs.LineLemmas.{line_at, last_line_at}
use Rattle.proof_text.proofs.blocks.line_end.Goals as goal

-- the rest as a slice has the first line of the rest
line_of_rest : (bytes : List ℕ) (at len : ℕ) → len ≡ prefix_len is_in_line (take (length bytes - at) (drop at bytes)) → len ≡ prefix_len is_in_line (drop at bytes)
line_of_rest bytes at len e =
    let long : length (drop at bytes) ≡ length bytes - at = length-drop at bytes in
    e ∙ ap (λ us. prefix_len is_in_line us) (take_all (length bytes - at) (drop at bytes) (omega (arith, long)))

pub returns-then-len-rest-clause-line : goal.returns-then-len-rest-clause-line
returns-then-len-rest-clause-line c =
    let long : length (drop c.args.at c.args.bytes.now) ≡ length c.args.bytes.now - c.args.at = length-drop c.args.at c.args.bytes.now in
    line_at c.args.bytes.now c.args.at c.first_line_len-len.result _
    (line_of_rest c.args.bytes.now c.args.at c.first_line_len-len.result c.first_line_len-len.ensures.len) (omega (arith, long, c.if-len-rest.true)) refl

pub returns-else-len-rest-clause-line : goal.returns-else-len-rest-clause-line
returns-else-len-rest-clause-line c =
    let long : length (drop c.args.at c.args.bytes.now) ≡ length c.args.bytes.now - c.args.at = length-drop c.args.at c.args.bytes.now in
    last_line_at c.args.bytes.now c.args.at c.first_line_len-len.result _ c.requires
    (line_of_rest c.args.bytes.now c.args.at c.first_line_len-len.result c.first_line_len-len.ensures.len) (omega (arith, long, c.if-len-rest.false)) refl
