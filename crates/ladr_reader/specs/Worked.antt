-- Words for examples.
use Rattle.std.specs.Prelude.{ℕ, List, [], ◌∷◌, Some, codes}
use Prim.Native.String.{String}
use Rattle.fol_core.specs.RawTree.{RawTree, named, quantified, raws_of}
use Rattle.fol_core.specs.declared.raw.Quantifier.{Quantifier}
use Rattle.ladr_lex.specs.Cuts.{Piece}
use Rattle.ladr_lex.specs.Lexed.{lexed}
use Rattle.ladr_lex.specs.Lexeme.{Lexeme, lexeme}
use Rattle.ladr_lex.specs.Operators.{OperatorRow, standard_rows, declared}
use Rattle.ladr_reader.specs.Faults.{IsTermFault}
use Rattle.ladr_reader.specs.Table.{OperatorTable, table_of}
use Rattle.ladr_reader.specs.declared.fault.TermFault.TheVariants.{Bad}
use Rattle.ladr_reader.specs.declared.sides.Side.TheVariants.{UpTo}
use Rattle.ladr_reader.specs.declared.stack.Frame.{Frame}
use Rattle.ladr_reader.specs.declared.stack.Frame.TheVariants.{Waiting}
use Rattle.ladr_reader.specs.declared.stack.Part.TheVariants.{Prefix, Infix}

-- pieces without their places
abbrev pub lexemes_in : List Piece → List Lexeme
lexemes_in [] = []
lexemes_in (p ∷ ps) = lexeme p.kind p.text ∷ lexemes_in ps

-- the tokens of a text
abbrev pub lexemes_of_text : String → List Lexeme
lexemes_of_text text = lexemes_in (lexed (codes text))

-- a name with arguments, with none, with one, with two; a quantifier with its variable and body
abbrev pub term : String → List RawTree → RawTree
term name ts = named (codes name) (raws_of ts)

abbrev pub constant : String → RawTree
constant name = term name []

abbrev pub unary : String → RawTree → RawTree
unary name t = term name (t ∷ [])

abbrev pub binary : String → RawTree → RawTree → RawTree
binary name t u = term name (t ∷ u ∷ [])

abbrev pub binder : Quantifier → String → RawTree → RawTree
binder word x body = quantified word (codes x) body

-- these are no item, and this token is the first bad one
abbrev pub IsBadAt : OperatorTable → String → ℕ → Type 0
IsBadAt g text k = IsTermFault g (lexemes_of_text text) (Bad k)

-- the operators at the start
abbrev pub standard : OperatorTable
standard = table_of standard_rows

-- the same, with operators declared
abbrev pub declared_rows : List OperatorRow
declared_rows =
    declared 350 (codes "postfix") (codes "!")
    (declared 400 (codes "prefix_paren") (codes "~")
    (declared 750 (codes "infix_left") (codes "\"@@\"") standard_rows))

abbrev pub with_declared : OperatorTable
with_declared = table_of declared_rows

-- what waits for a right disjunct, and for a literal that is denied
abbrev pub bar : Frame
bar = Waiting (Infix (codes "|") (Some (constant "p"))) UpTo 790

abbrev pub denial : Frame
denial = Waiting (Prefix (codes "-")) UpTo 350
