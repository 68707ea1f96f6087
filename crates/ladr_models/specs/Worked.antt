-- The text of an interpretation and its tokens, worked out.
use Rattle.std.specs.Prelude.{ℕ, List, [], ◌∷◌, codes}
use Rattle.fol_core.specs.SymbolTable.{Symbol, symbol}
use Rattle.fol_core.specs.declared.symbols.Kind.TheVariants.{Function, Relation}
use Rattle.ladr_commands.specs.ByName.{NamedTable, table}
use Rattle.ladr_lex.specs.Cuts.{Piece}
use Rattle.ladr_lex.specs.Worked.{at}
use Rattle.ladr_lex.specs.declared.token.TokenKind.TheVariants.{Open, Close, LeftSquare, RightSquare, Comma, Stop, Ordinary, Quoted, Special}
use Rattle.model_tables.specs.Tables.{Finite, listing}

-- `"a b"` and `-` with one argument, the relation `p`, and `h`, which has no entry
abbrev pub pair : List Symbol
pair =
    symbol (codes "\"a b\"") 0 Function ∷ symbol (codes "h") 2 Function
    ∷ symbol (codes "-") 1 Function ∷ symbol (codes "p") 0 Relation ∷ []

abbrev pub pair_tables : Finite
pair_tables =
    record {
      top = 1;
      rows = listing Function (1 ∷ []) ∷ listing Function [] ∷ listing Function (1 ∷ 0 ∷ [])
          ∷ listing Relation (1 ∷ []) ∷ [];
    }

abbrev pub pair_text : List ℕ
pair_text =
    codes "interpretation(2, [number = 1,seconds = 0], [\n    function(\"a b\", [1]),\n    function(-(_), [1,0]),\n    relation(p, [1])\n]).\n"

abbrev pub pair_tokens : List Piece
pair_tokens =
    at 0 Ordinary (codes "interpretation") ∷ at 14 Open (codes "(") ∷ at 15 Ordinary (codes "2")
    ∷ at 16 Comma (codes ",") ∷ at 18 LeftSquare (codes "[") ∷
    at 19 Ordinary (codes "number") ∷ at 26 Special (codes "=") ∷ at 28 Ordinary (codes "1")
    ∷ at 29 Comma (codes ",") ∷
    at 30 Ordinary (codes "seconds") ∷ at 38 Special (codes "=") ∷ at 40 Ordinary (codes "0")
    ∷ at 41 RightSquare (codes "]") ∷
    at 42 Comma (codes ",") ∷ at 44 LeftSquare (codes "[") ∷
    at 50 Ordinary (codes "function") ∷ at 58 Open (codes "(") ∷ at 59 Quoted (codes "\"a b\"")
    ∷ at 64 Comma (codes ",") ∷
    at 66 LeftSquare (codes "[") ∷ at 67 Ordinary (codes "1") ∷ at 68 RightSquare (codes "]")
    ∷ at 69 Close (codes ")") ∷ at 70 Comma (codes ",") ∷
    at 76 Ordinary (codes "function") ∷ at 84 Open (codes "(") ∷ at 85 Special (codes "-")
    ∷ at 86 Open (codes "(") ∷ at 87 Ordinary (codes "_") ∷
    at 88 Close (codes ")") ∷ at 89 Comma (codes ",") ∷ at 91 LeftSquare (codes "[")
    ∷ at 92 Ordinary (codes "1") ∷ at 93 Comma (codes ",") ∷ at 94 Ordinary (codes "0") ∷
    at 95 RightSquare (codes "]") ∷ at 96 Close (codes ")") ∷ at 97 Comma (codes ",") ∷
    at 103 Ordinary (codes "relation") ∷ at 111 Open (codes "(") ∷ at 112 Ordinary (codes "p")
    ∷ at 113 Comma (codes ",") ∷
    at 115 LeftSquare (codes "[") ∷ at 116 Ordinary (codes "1") ∷ at 117 RightSquare (codes "]")
    ∷ at 118 Close (codes ")") ∷
    at 120 RightSquare (codes "]") ∷ at 121 Close (codes ")") ∷ at 122 Stop (codes ".") ∷ []

-- the entries of the symbols that have values
abbrev pub pair_entries : List NamedTable
pair_entries =
    table Function (codes "\"a b\"") 0 (1 ∷ []) ∷ table Function (codes "-") 1 (1 ∷ 0 ∷ [])
    ∷ table Relation (codes "p") 0 (1 ∷ []) ∷ []
