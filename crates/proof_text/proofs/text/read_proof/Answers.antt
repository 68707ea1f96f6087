use Rattle.std.proofs.Common.{◌≡◌, inl, inr, ℕ, ◌+◌, ◌-◌, ◌<◌, List, length, drop, sym, subst, arith}
use Rattle.std.proofs.lemmas.List.{length-drop}
use Rattle.std.proofs.lemmas.Result.{err_from_is_err_and}
use Rattle.std.specs.Prelude.{slice_range}
use Rattle.ladr_formulas.specs.declared.styles.Mode.TheVariants.{Prover}
use Rattle.ladr_problem.specs.File.{Says}
use Rattle.ladr_problem.specs.File as outcome
use Rattle.ladr_problem.specs.Sofar.{Sofar}
use Rattle.ladr_problem.specs.Whole.{IsOf}
use Rattle.ladr_problem.specs.declared.read.FileRead.{FileRead}
use Rattle.ladr_problem.specs.declared.refusal.ReadError.{ReadError}
use Rattle.proof_text.specs.Blocks.{TextBlock, HasBlocks, lines_in}
use Rattle.proof_text.specs.Found.{AreBlocksRead}
use Rattle.proof_text.specs.Frame.{IsFramed, IsUnframed}
use Rattle.proof_text.specs.Going.{OrMemory}
use Rattle.proof_text.specs.Refused.{HasProblem, IsUnreadableAt, IsProofError, frame, problem, memory}
use Rattle.proof_text.specs.declared.blocks.BlockRead.{BlockRead}
use Rattle.proof_text.proofs.text.read_proof.Goals as goal

not_framed : (bytes : List ℕ) (byte : ℕ) (e : ReadError) → IsUnframed bytes byte → OrMemory (IsUnreadableAt bytes byte) e → IsProofError bytes e
not_framed bytes byte e off (inl lacking) = subst (IsProofError bytes) (sym lacking) memory
not_framed bytes byte e off (inr there) = frame byte off there

-- a framed problem, and the blocks behind it
with_blocks : (bytes : List ℕ) (start end : ℕ) (f : FileRead) (bs : List TextBlock) → end < length bytes → IsFramed bytes (slice_range bytes start end) (drop (end + 1) bytes)
    → (s : Sofar) × Says Prover (slice_range bytes start end) (outcome.problem s) × IsOf s f → HasBlocks (end + 1) (lines_in (drop (end + 1) bytes)) bs → HasProblem bytes f bs
with_blocks bytes start end f bs h framed says blocks =
    let long : length (drop (end + 1) bytes) ≡ length bytes - (end + 1) = length-drop (end + 1) bytes in
    let place : end + 1 ≡ length bytes - length (drop (end + 1) bytes) = omega (arith, long, h) in
    record {
      input = slice_range bytes start end;
      rest = drop (end + 1) bytes;
      framed = framed;
      sofar = says.0;
      says = says.1;
      is_of = says.2;
      blocks = subst (λ (i : ℕ). HasBlocks i (lines_in (drop (end + 1) bytes)) bs) place blocks;
    }

pub returns-in-Err-clause-refused : goal.returns-in-Err-clause-refused
returns-in-Err-clause-refused c = not_framed c.args.bytes.now c.in-Err.byte c.refuse_byte.result c.in-Err.ensures.unframed c.refuse_byte.ensures

pub returns-in_err-blocks-clause-refused : goal.returns-in_err-blocks-clause-refused
returns-in_err-blocks-clause-refused c = let p = err_from_is_err_and c.from_residual.result c.from_residual.ensures.1 in rw (p.1, p.2) memory

pub returns-in_err-file-clause-refused : goal.returns-in_err-file-clause-refused
returns-in_err-file-clause-refused c =
    let p = err_from_is_err_and c.from_residual-in_err-file.result c.from_residual-in_err-file.ensures.1 in
    rw (p.1, p.2) (problem c.in-Ok.ensures.framed c.in_err-file.ensures.refused)

pub returns-in_err-read-clause-refused : goal.returns-in_err-read-clause-refused
returns-in_err-read-clause-refused c = let p = err_from_is_err_and c.from_residual-in_err-read.result c.from_residual-in_err-read.ensures.1 in rw (p.1, p.2) memory

pub read_all-requires : goal.read_all-requires
read_all-requires c =
    let found = c.in_ok-blocks.ensures in
    (found.0, subst (λ (rs : List BlockRead). AreBlocksRead found.0 rs) (sym c.deref.ensures.value) found.2)

pub returns-in_err-read_all-clause-refused : goal.returns-in_err-read_all-clause-refused
returns-in_err-read_all-clause-refused c =
    let at = c.in-Ok.frame in
    let found = c.in_ok-blocks.ensures in
    let f = c.in_ok-file.file in
    let p = err_from_is_err_and c.from_residual-in_err-read_all.result c.from_residual-in_err-read_all.ensures.1 in
    rw (p.1, p.2) (c.in_err-read_all.ensures.refused f found.0 c.in_ok-read.ensures
    (with_blocks c.args.bytes.now at.start at.end f found.0 c.in-Ok.ensures.within.1 c.in-Ok.ensures.framed c.in_ok-file.ensures.read found.1)
    (subst (λ (rs : List BlockRead). AreBlocksRead found.0 rs) (sym c.deref.ensures.value) found.2))

pub returns-clause-read : goal.returns-clause-read
returns-clause-read c =
    let at = c.in-Ok.frame in
    let found = c.in_ok-blocks.ensures in
    let f = c.in_ok-file.file in
    c.in_ok-read_all.ensures.read f found.0 c.in_ok-read.ensures
    (with_blocks c.args.bytes.now at.start at.end f found.0 c.in-Ok.ensures.within.1 c.in-Ok.ensures.framed c.in_ok-file.ensures.read found.1)
    (subst (λ (rs : List BlockRead). AreBlocksRead found.0 rs) (sym c.deref.ensures.value) found.2)
