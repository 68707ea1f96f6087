-- Lines behind which nothing stands.
use Rattle.std.proofs.Common.{◌≡◌, ◌∙◌, ℕ, Bool, true, false, List, [], ◌∷◌, Option, Some, None, map, refl, ap, sym}
use Rattle.std.specs.Global.{Vec}
use Rattle.std.specs.Prelude.{option_map}
use Rattle.answers.specs.AnswerView.{answers_of}
use Rattle.clause_store.specs.Lines.{IsUnnoted, AreUnnoted}
use Rattle.derivation.specs.declared.line.Line.{Line}
use Rattle.derivation.specs.declared.line.LineNotes.{LineNotes}
use Rattle.fol_core.specs.RawTree.{RawTree}
use Rattle.fol_core.specs.SymbolTable.{Symbol}
use Rattle.ladr_formulas.specs.Formulas.{Reading, terms_of}
use Rattle.ladr_formulas.specs.declared.styles.Style.{Style}
use Rattle.ladr_rules.specs.Asked.{line_asks}
use Rattle.proof_lines.specs.Answered.{ReadAnswer}
use Rattle.proof_lines.specs.Noted.{asks_in, asks_if, goal_asks, places_kept}
use Rattle.proof_lines.specs.Stated.{answers_made, line_made}
use Rattle.proof_print.specs.Reread.{ArePrintable}
use Rattle.printed_proofs.specs.Printed.{PrintedProof, ArePrintableProofs}
use Rattle.printed_proofs.specs.Refutations.{lines_printed}
use Rattle.proof_lines.specs.ContentTokens.{LineTables}

-- nor behind those of some proofs
abbrev pub AllAreUnnoted : List (List Line) → Type 0
AllAreUnnoted [] = Unit {0}
AllAreUnnoted (ls ∷ ps) = AreUnnoted ls × AllAreUnnoted ps

-- nothing is asked for where nothing is had
none_asked : {A B : Type 0} (f : A → B) (o : Option A) → option_map f o ≡ None → o ≡ None
none_asked {A} {B} f None e = refl
none_asked {A} {B} f (Some a) e = absurd cc

pub unasked : (notes : LineNotes) → notes.asks ≡ None → asks_in notes ≡ None
unasked notes e = ap (option_map (λ (v : Vec ℕ). v.items)) e

-- nothing stands behind lines that are printed
pub lines_unnoted : (g : LineTables) (prolog : Bool) (known table : List Symbol) (ls : List Line) → ArePrintable g prolog known table ls → AreUnnoted ls
lines_unnoted g prolog known table [] h = tt
lines_unnoted g prolog known table (l ∷ ls) h = ((none_asked (λ (v : Vec ℕ). v.items) l.notes.asks h.0.asks, h.0.answers), lines_unnoted g prolog known table ls h.1)

pub proofs_unnoted : (g : LineTables) (prolog : Bool) (known table : List Symbol) (ps : List PrintedProof) → ArePrintableProofs g prolog known table ps → AllAreUnnoted (lines_printed ps)
proofs_unnoted g prolog known table [] h = tt
proofs_unnoted g prolog known table (p ∷ ps) h = (lines_unnoted g prolog known table p.lines h.1, proofs_unnoted g prolog known table ps h.2)

-- no answers were read where none are made
pub none_made : (st : Style) (s : Reading) (us : List ReadAnswer) → (answers_made st s us).tree ≡ [] → us ≡ []
none_made st s [] e = refl
none_made st s (a ∷ us) e = absurd cc

-- a formula that asks for nothing does so behind any symbols
pub asks_nothing : (st : Style) (table other : List Symbol) (goal : Bool) (t : RawTree) → asks_if goal st table t ≡ None → asks_if goal st other t ≡ None
asks_nothing st table other false t e = refl
asks_nothing st table other true t e =
    ap (option_map (places_kept (line_made st other true t).tree)) (none_asked (places_kept (line_made st table true t).tree) (line_asks t) e)
