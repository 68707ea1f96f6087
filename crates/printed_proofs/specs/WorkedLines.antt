-- A printed refutation worked out.
use Rattle.std.specs.Prelude.{◌≡◌, ℕ, true, false, List, [], ◌∷◌, ◌++◌, None, codes}
use Rattle.std.specs.Global.{Vec}
use Rattle.clausify.specs.Input.{clauses_in_table}
use Rattle.derivation.specs.Lines.{IsRefutation}
use Rattle.derivation.specs.View.{lines_of}
use Rattle.derivation.specs.declared.line.Content.{Content}
use Rattle.derivation.specs.declared.line.Content.TheVariants as content
use Rattle.derivation.specs.declared.line.Line.{Line}
use Rattle.derivation.specs.declared.line.LineNotes.{LineNotes}
use Rattle.derivation.specs.declared.words.First.{First}
use Rattle.derivation.specs.declared.words.First.TheVariants as words
use Rattle.derivation.specs.declared.words.Later.{Later}
use Rattle.fol_core.specs.Fol.{atom}
use Rattle.fol_core.specs.Literals.{literal}
use Rattle.fol_problem.specs.Stated.{Stated, said, stated}
use Rattle.fol_core.specs.SymbolTable.{Symbol, symbol}
use Rattle.fol_core.specs.Tree.{Tree, app, none, more}
use Rattle.fol_core.specs.declared.formula.Shape.TheVariants.{Atom}
use Rattle.fol_problem.specs.declared.problem.Role.TheVariants.{Assumption, Goal}
use Rattle.fol_core.specs.declared.symbols.Kind.TheVariants.{Function, Relation}
use Rattle.ladr_lex.specs.Operators.{standard_rows}
use Rattle.proof_lines.specs.WorkedLines.{worked_tables}
use Rattle.proof_print.specs.LineTexts.{lines_text}
use Rattle.proof_print.specs.Reread.{row_tables, ReadsLines}

-- a constant and a relation
abbrev pub two_symbols : List Symbol
two_symbols = symbol (codes "a") 0 Function ∷ symbol (codes "p") 1 Relation ∷ []

-- p(a)
abbrev pub the_atom : Tree
the_atom = app 1 (more (app 0 none) none)

-- it is assumed and wanted
abbrev pub assumed_and_wanted : Stated
assumed_and_wanted =
    stated two_symbols (said Assumption (atom 1 (more (app 0 none) none))
    ∷ said Goal (atom 1 (more (app 0 none) none)) ∷ [])

abbrev pub the_formula : Content
the_formula =
    content.Formula (record { shape = Atom (record { 0 = 1 }) (app 0 none ∷ []); names = [] }) None

-- a line of the code with these later words and these notes
abbrev pub line_by : Vec Later → LineNotes → ℕ → Content → First → Line
line_by later notes number content first =
    record {
      number = number;
      content = content;
      just = record { first = first; steps = later };
      notes = notes;
    }

-- five lines without later words
abbrev pub five_lines : Vec Later → LineNotes → List Line
five_lines later notes =
    line_by later notes 1 the_formula words.Assumption ∷ line_by later notes 2 the_formula words.Goal
    ∷ line_by later notes 3 (content.Clause (literal true the_atom ∷ [])) (words.Clausify 1)
    ∷ line_by later notes 4 (content.Clause (literal false the_atom ∷ [])) (words.Deny 2)
    ∷ line_by later notes 5 (content.Clause [])
    (words.Resolve 3 (record { place = 0; clause = 4; literal = 0 })) ∷ []

abbrev pub five_texts : List ℕ
five_texts =
    codes "1 p(a).  [assumption].\n2 p(a).  [goal].\n3 p(a).  [clausify(1)].\n"
    ++ codes "4 -p(a).  [deny(2)].\n5 $F.  [resolve(3,a,4,a)].\n"

-- they refute what is stated, this is their text, and it is read as these lines
pub record WorkedRefutation (later : Vec Later) (notes : LineNotes) : Type 0 where
  pub refute : IsRefutation assumed_and_wanted.formulas
      (clauses_in_table two_symbols assumed_and_wanted) (lines_of (five_lines later notes))
  pub text : lines_text worked_tables two_symbols false (five_lines later notes) ≡ five_texts
  pub read : ReadsLines (row_tables standard_rows standard_rows) false two_symbols two_symbols
      (five_lines later notes)
