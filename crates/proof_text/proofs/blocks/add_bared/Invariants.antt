-- white space for the bytes so far
use Rattle.std.proofs.Common.{◌≡◌, ◌++◌, map, take}
use Rattle.proof_text.specs.Blocks.{blank}
use Rattle.proof_text.proofs.blocks.add_bared.Given as goal

abbrev pub invariant-loop-byte : goal.invariant-loop-byte
invariant-loop-byte l = l.bytes.items ≡ l.fn.bytes.items ++ map blank (take l.byte-index l.line)
