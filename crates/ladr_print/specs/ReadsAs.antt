-- What a text reads as.
use Rattle.std.specs.Prelude.{ℕ, List}
use Rattle.fol_core.specs.RawTree.{RawTree}
use Rattle.ladr_lex.specs.Cuts.{Piece, Cuts}
use Rattle.ladr_reader.specs.Reads.{Reads, Item}
use Rattle.ladr_reader.specs.Table.{OperatorTable}
use Rattle.ladr_reader.specs.Worked.{lexemes_in}

-- the tokens that cut the text are this term, and this is its precedence
pub record ReadsAs (g : OperatorTable) (text : List ℕ) (tree : RawTree) (precedence : ℕ) : Type 0
  where
    pub pieces : List Piece
    pub cuts : Cuts 0 text pieces
    pub reads : Reads g (lexemes_in pieces) tree precedence

-- the tokens that cut the text are this term and a full stop
pub record ItemAs (g : OperatorTable) (text : List ℕ) (tree : RawTree) : Type 0 where
  pub pieces : List Piece
  pub cuts : Cuts 0 text pieces
  pub item : Item g (lexemes_in pieces) tree
