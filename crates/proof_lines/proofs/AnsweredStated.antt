-- What a clause with answers states.
use Rattle.std.proofs.Common.{◌≡◌, ◌∙◌, Bool, false, List, [], map, length, Option, None, ap, sym}
use Rattle.std.specs.List.{flat_map}
use Rattle.fol_core.specs.RawTree.{RawTree, raws_of}
use Rattle.fol_core.specs.SymbolTable.{Symbol}
use Rattle.fol_core.specs.Tree.{Tree, trees_of, list_of}
use Rattle.ladr_formulas.specs.Formulas.{Reading, meets, terms_of, formula_reading}
use Rattle.ladr_formulas.specs.declared.styles.Style.{Style}
use Rattle.ladr_formulas.proofs.Growing.{grows_terms}
use Rattle.ladr_lex.specs.declared.misuse.Misuse.{Misuse}
use Rattle.ladr_lex.specs.declared.misuse.Misuse.TheVariants.{TwoKinds}
use Rattle.proof_lines.specs.Answered.{answer_views}
use Rattle.proof_lines.specs.Counted.{counted_of, cut}
use Rattle.proof_lines.specs.Stated.{answers_read_behind, line_misuse}
use Rattle.proof_lines.specs.Strays.{brings_stray}
use Rattle.proof_lines.specs.declared.answered.RawAnswer.{RawAnswer}
use Rattle.proof_lines.proofs.Counting.{cut_made, trees_back}

-- a reading with another least row
abbrev pub least_only : Option Misuse → Reading → Reading
least_only least s = record s { least = least }

module _ (st : Style) (problem table : List Symbol) (t : RawTree) (bs : List RawAnswer) (behind : List RawTree) (is : behind ≡ flat_map (λ (a : RawAnswer). a.terms) bs) where
  abbrev pub read_all : Reading
  read_all = (terms_of st [] (formula_reading st table t).reading (raws_of behind)).reading

  pub reading_is : read_all ≡ (answers_read_behind st table false t (answer_views bs)).reading
  reading_is = ap (λ ts. (terms_of st [] (formula_reading st table t).reading (raws_of ts)).reading) is ∙ (cut_made st (formula_reading st table t).reading bs).1

  -- a row that is met
  pub misuse_told : (symbols : List Symbol) (strays : Bool) (least told : Option Misuse) → symbols ≡ read_all.symbols → strays ≡ brings_stray problem (length table) symbols → least ≡ read_all.least
      → ((s : Reading) → s.least ≡ least → told ≡ (meets strays TwoKinds s).least) → told ≡ line_misuse st problem table false t (answer_views bs)
  misuse_told symbols strays least told e f l meet =
      meet read_all (sym l)
      ∙ ap (λ b. (meets b TwoKinds read_all).least) (f ∙ ap (brings_stray problem (length table)) e)
      ∙ ap (λ (s : Reading). (meets (brings_stray problem (length table) s.symbols) TwoKinds s).least) reading_is

  -- where none is, none was met by the clause
  pub least_before : read_all.least ≡ None → (formula_reading st table t).reading.least ≡ None
  least_before e = (grows_terms st [] (formula_reading st table t).reading (raws_of behind)).sound e

  -- the terms that are read, cut apart
  pub answers_cut : (made : List Tree) → trees_of made ≡ (terms_of st [] (formula_reading st table t).reading (raws_of behind)).tree → cut (map counted_of bs) made ≡ (answers_read_behind st table false t (answer_views bs)).tree
  answers_cut made e =
      let lists : made ≡ list_of (terms_of st [] (formula_reading st table t).reading (raws_of (flat_map (λ (a : RawAnswer). a.terms) bs))).tree =
      sym (trees_back made) ∙ ap list_of (e ∙ ap (λ ts. (terms_of st [] (formula_reading st table t).reading (raws_of ts)).tree) is) in
      ap (cut (map counted_of bs)) lists ∙ (cut_made st (formula_reading st table t).reading bs).0
