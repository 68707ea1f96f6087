-- the blocks so far have the proofs so far
use Rattle.std.proofs.Common.{List, take}
use Rattle.fol_core.specs.SymbolTable.{KeepsNumbers}
use Rattle.proof_text.specs.Blocks.{TextBlock}
use Rattle.proof_text.specs.Found.{AreBlocksRead}
use Rattle.proof_text.specs.Going.{reader_in, lines_of_all}
use Rattle.proof_text.specs.Proofs.{HasProofs}
use Rattle.proof_text.proofs.proofs.read_each.Given as goal

abbrev pub invariant-loop-block : goal.invariant-loop-block
invariant-loop-block l = record {
  read : (bs : List TextBlock) → AreBlocksRead bs l.blocks → HasProofs (reader_in l.operators l.problem) l.fn.symbols (take l.block-index bs) (lines_of_all l.proofs.items) l.symbols;
  kept : KeepsNumbers l.fn.symbols l.symbols;
}
