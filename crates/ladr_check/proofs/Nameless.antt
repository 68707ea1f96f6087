-- The lines of proofs name no element.
use Rattle.std.proofs.Common.{◌≡◌, ℕ, zero, suc, Bool, true, false, List, [], ◌∷◌, map, Some, refl, sym, subst}
use Rattle.std.specs.Prelude.{slice_get}
use Rattle.std.specs.List.{list_any}
use Rattle.std.proofs.lemmas.Bool.{or_parts}
use Rattle.answers.specs.AnswerTrees.{Answer}
use Rattle.answered_lines.specs.Lines.{AnsweredLine, plain_lines}
use Rattle.answered_lines.specs.Shows.{AnswersNameWithin, BothNameWithin, LinesNameWithin}
use Rattle.answered_lines.specs.View.{answered_lines_of}
use Rattle.derivation.specs.Laws.{ContentNamesWithin, NamesNone, ContentNamesNone, LinesNameNone, NoneIsWithin}
use Rattle.derivation.specs.Lines.{ContentTree, formula, clause, LineTree}
use Rattle.derivation.specs.View.{content_of}
use Rattle.derivation.specs.declared.line.Content.{Content}
use Rattle.derivation.specs.declared.line.Content.TheVariants.{Formula, Clause}
use Rattle.derivation.specs.declared.line.Line.{Line}
use Rattle.fol_core.specs.Literals.{ClauseTree, literal}
use Rattle.fol_core.specs.Meaning.{Meaning}
use Rattle.fol_core.specs.Occurs.{names_in, names_in_any}
use Rattle.fol_core.specs.RawTree.{RawTree}
use Rattle.fol_core.specs.SymbolTable.{Symbol}
use Rattle.fol_core.specs.Tree.{app}
use Rattle.ladr_formulas.proofs.NoElements.{terms_none}
use Rattle.ladr_formulas.specs.ClauseIn.{clause_in}
use Rattle.ladr_formulas.specs.Formulas.{Reading, formula_reading, style_of, terms_of}
use Rattle.ladr_formulas.specs.declared.styles.Mode.TheVariants.{Prover}
use Rattle.ladr_lex.specs.Cuts.{Piece}
use Rattle.proof_lines.specs.Answered.{ReadAnswer}
use Rattle.proof_lines.specs.ContentTokens.{LineTables}
use Rattle.proof_lines.specs.Stated.{answers_made, line_made, IsContentOf}
use Rattle.proof_text.specs.Blocks.{TextBlock}
use Rattle.proof_text.specs.Proofs.{Reader, HasLines, HasProofs}
use Rattle.proof_text.specs.Proofs as proofs
use Rattle.proof_words.specs.Written.{states_formula}

-- what is read for the prover as a clause names no element
abbrev pub ClausesNameNone : Type 0
ClausesNameNone =
    (prolog : Bool) (table : List Symbol) (t : RawTree) (c : ClauseTree) → clause_in (formula_reading (style_of Prover prolog) table t).tree ≡ Some c
    → (k : ℕ) → list_any (λ l. names_in k l.atom) c ≡ false

none_named : (c : ClauseTree) → ((k : ℕ) → list_any (λ l. names_in k l.atom) c ≡ false) → NamesNone c
none_named [] h = tt
none_named (l ∷ c) h = (λ k. (or_parts (names_in k l.atom) (list_any (λ l. names_in k l.atom) c) (h k)).0, none_named c (λ k. (or_parts (names_in k l.atom) (list_any (λ l. names_in k l.atom) c) (h k)).1))

-- the terms of answers name none
abbrev pub AnswersNameNone : List Answer → Type 0
AnswersNameNone [] = Unit {0}
AnswersNameNone (a ∷ us) = ((k : ℕ) → names_in_any k a.terms ≡ false) × AnswersNameNone us

-- nor do lines, with their answers
abbrev pub AllNameNone : List AnsweredLine → Type 0
AllNameNone [] = Unit {0}
AllNameNone (l ∷ ls) = ContentNamesNone l.line.content × AnswersNameNone l.answers × AllNameNone ls

-- no proof's lines name one
abbrev pub ProofsNameNone : List (List AnsweredLine) → Type 0
ProofsNameNone [] = Unit {0}
ProofsNameNone (p ∷ ps) = AllNameNone p × ProofsNameNone ps

pub named_at : (ps : List (List AnsweredLine)) (k : ℕ) (p : List AnsweredLine) → ProofsNameNone ps → slice_get ps k ≡ Some p → AllNameNone p
named_at [] k p h e = absurd cc
named_at (q ∷ qs) zero p h e = let same : q ≡ p = cc in subst AllNameNone same h.0
named_at (q ∷ qs) (suc k) p h e = named_at qs k p h.1 e

pub plainly_none : (ls : List AnsweredLine) → AllNameNone ls → LinesNameNone (plain_lines ls)
plainly_none [] h = tt
plainly_none (l ∷ ls) h = (h.0, plainly_none ls h.2)

-- what names none names what each interpretation has
module _ (law : NoneIsWithin) (m : Meaning) where
  content_within : (l : LineTree) (content : ContentTree) → ContentNamesNone content → ContentNamesWithin m content
  content_within l content h = (law m (record { number = l.number; content = content; first = l.first; later = l.later } ∷ []) (h, tt)).0

  answers_within : (l : LineTree) (us : List Answer) → AnswersNameNone us → AnswersNameWithin m us
  answers_within l [] h = tt
  answers_within l (a ∷ us) h = ((content_within l (clause (literal true (app 0 a.terms) ∷ [])) (h.0, tt)).0, answers_within l us h.1)

  both_within : (l : LineTree) (content : ContentTree) (us : List Answer) → ContentNamesNone content → AnswersNameNone us → BothNameWithin m content us
  both_within l (formula f) us h k = tt
  both_within l (clause c) us h k = (content_within l (clause c) h, answers_within l us k)

  pub lines_within : (ls : List AnsweredLine) → AllNameNone ls → LinesNameWithin m ls
  lines_within [] h = tt
  lines_within (l ∷ ls) h = (both_within l.line l.line.content l.answers h.0 h.1, lines_within ls h.2)

module _ (law : ClausesNameNone) (prolog : Bool) where
  content_none : (table : List Symbol) (by_formula : Bool) (t : RawTree) (c : Content) → IsContentOf by_formula t (line_made (style_of Prover prolog) table by_formula t) c → ContentNamesNone (content_of c)
  content_none table true t (Formula f label) h = tt
  content_none table true t (Clause c) h = absurd h
  content_none table false t (Formula f label) h = absurd h
  content_none table false t (Clause c) h = none_named c (law prolog table t c h)

  answers_none : (s : Reading) (us : List ReadAnswer) → AnswersNameNone (answers_made (style_of Prover prolog) s us).tree
  answers_none s [] = tt
  answers_none s (a ∷ us) = (λ k. terms_none k (style_of Prover prolog) refl [] s a.terms, answers_none (terms_of (style_of Prover prolog) [] s a.terms).reading us)

  abbrev reader : LineTables → List Symbol → Reader
  reader tables problem = record { tables = tables; style = style_of Prover prolog; problem = problem }

  lines_none : (tables : LineTables) (problem table last : List Symbol) (ts us : List Piece) (ls : List Line) → HasLines (reader tables problem) table ts ls last us → AllNameNone (answered_lines_of ls)
  lines_none tables problem table last ts us ls proofs.no_line = tt
  lines_none tables problem table last ts us ls (proofs.further_line r first h) =
      let by_formula = states_formula first.parts.words.first in (
        content_none table by_formula first.parts.content r.line.content first.line.content,
        subst AnswersNameNone (sym first.line.answers) (answers_none (line_made (style_of Prover prolog) table by_formula first.parts.content).reading first.parts.answers),
        lines_none tables problem _ last _ us _ h,
      )

  pub proofs_none : (tables : LineTables) (problem table last : List Symbol) (bs : List TextBlock) (ps : List (List Line)) → HasProofs (reader tables problem) table bs ps last → ProofsNameNone (map answered_lines_of ps)
  proofs_none tables problem table last bs ps proofs.no_block = tt
  proofs_none tables problem table last bs ps (proofs.further_block h k) = (lines_none tables problem table _ h.0 [] _ h.2, proofs_none tables problem _ last _ _ k)
