-- the lines so far are read, and the tokens from the place on are left
use Rattle.std.proofs.Common.{◌≤◌, ◌-◌, length, drop}
use Rattle.ladr_lex.specs.Cuts.{pieces_of}
use Rattle.proof_text.specs.Going.{reader_in}
use Rattle.proof_text.specs.Proofs.{HasLines}
use Rattle.fol_core.specs.SymbolTable.{KeepsNumbers}
use Rattle.proof_text.proofs.proofs.read_lines.Given as goal

abbrev pub invariant-loop-at : goal.invariant-loop-at
invariant-loop-at l =
    HasLines (reader_in l.operators l.problem) l.fn.symbols (pieces_of l.tokens) l.lines.items l.symbols (drop l.at (pieces_of l.tokens))
    × (l.at ≤ length l.tokens) × KeepsNumbers l.fn.symbols l.symbols

abbrev pub decreases-loop-at : goal.decreases-loop-at
decreases-loop-at l = length l.tokens - l.at
