use Rattle.std.proofs.Common.{◌≡◌, ◌∙◌, List, [], ◌++◌, None, length, sym, ap, subst}
use Rattle.fol_core.specs.Bound.{HaveSymbolsBelow}
use Rattle.fol_core.specs.RawTree.{RawTrees, raws_of}
use Rattle.fol_core.specs.SymbolTable.{Symbol, KeepsNumbers}
use Rattle.fol_core.specs.Tree.{Trees, trees_of}
use Rattle.ladr_formulas.specs.Broken.{broken_outside, least_of}
use Rattle.ladr_formulas.specs.Formulas.{Style, Bound, Reading, Made, unread, terms_of}
use Rattle.ladr_formulas.specs.Means.{MeanTerms}
use Rattle.ladr_formulas.specs.Occurring.{symbols_of_terms, new_symbols, has_many_arguments}
use Rattle.ladr_formulas.specs.ReaderView.{Progress}
use Rattle.ladr_formulas.specs.VariablesMet.{variables_of_terms, numbered}
use Rattle.ladr_formulas.proofs.Breaking.{terms_least}
use Rattle.ladr_formulas.proofs.MeaningLemmas.{terms_reading_mean}
use Rattle.ladr_formulas.proofs.OrderLemmas.{terms_in_order, terms_large}
use Rattle.ladr_formulas.proofs.Unbroken.{terms_reading_unmet}
use Rattle.ladr_formulas.proofs.VariableOrder.{terms_variables}
use Rattle.ladr_formulas.proofs.OwnTerms.{terms_good}
use Rattle.ladr_formulas.proofs.arguments.terms_of.Goals as goal

abbrev begun : List Symbol → Progress
begun table = record { reading = unread table; scope = [] }

-- what was kept from the first reader to the last was kept from the table on
kept_on : (old table : List Symbol) (first : Progress) (last read : Reading) → first ≡ begun table → table ≡ old → last ≡ read → KeepsNumbers first.reading.symbols last.symbols → KeepsNumbers old read.symbols
kept_on old table first last read e f g h =
    subst (λ (r : Reading). KeepsNumbers old r.symbols) g (subst (λ (p : Progress). KeepsNumbers p.reading.symbols last.symbols) (e ∙ ap begun f) h)

-- terms that were read have symbols of the table
below_read : (st : Style) (scope : List Bound) (s last read : Reading) (raws : RawTrees) (ts : Trees) → terms_of st scope s raws ≡ record { tree = ts; reading = last } → last ≡ read
    → HaveSymbolsBelow (length read.symbols) ts
below_read st scope s last read raws ts e g =
    subst (λ (r : Reading). HaveSymbolsBelow (length r.symbols) ts) g
    (subst (λ (m : Made Trees). HaveSymbolsBelow (length m.reading.symbols) m.tree) e (terms_good st scope s raws).below)

pub returns-in_err-terms-clause-kept : goal.returns-in_err-terms-clause-kept
returns-in_err-terms-clause-kept c =
    kept_on c.args.symbols.now c.replace-table.result c.new-reader.result c.terms-answer.new.reader.reading _ c.new-reader.ensures c.replace-table.ensures.value c.into_read-table.ensures c.terms-answer.ensures.kept

pub returns-clause-kept : goal.returns-clause-kept
returns-clause-kept c =
    kept_on c.args.symbols.now c.replace-table.result c.new-reader.result c.terms-answer.new.reader.reading _ c.new-reader.ensures c.replace-table.ensures.value c.into_read-table.ensures c.terms-answer.ensures.kept

pub returns-clause-symbols : goal.returns-clause-symbols
returns-clause-symbols c =
    below_read c.args.style c.new-reader.result.scope c.new-reader.result.reading c.terms-answer.new.reader.reading _ (raws_of c.args.raws.now) (trees_of c.in_ok-terms.terms) c.in_ok-terms.ensures.read c.into_read-table.ensures

-- what the code has read is what is read behind the table
module _ (st : Style) (old table : List Symbol) (first : Progress) (last read : Reading) (raws : RawTrees) (ts : Trees) (e : first ≡ begun table) (f : table ≡ old)
    (made : terms_of st first.scope first.reading raws ≡ record { tree = ts; reading = last }) (g : last ≡ read) where
  whole : terms_of st [] (unread old) raws ≡ record { tree = ts; reading = read }
  whole = (λ i. terms_of st (sym (e ∙ ap begun f) i).scope (sym (e ∙ ap begun f) i).reading raws) ∙ made ∙ ap (λ (r : Reading). record { tree = ts; reading = r }) g

  ordered_read : read.symbols ≡ old ++ new_symbols old (symbols_of_terms st [] raws)
  ordered_read = ap (λ (m : Made Trees). m.reading.symbols) (sym whole) ∙ terms_in_order st old raws

  large_read : read.large ≡ has_many_arguments (symbols_of_terms st [] raws)
  large_read = ap (λ (m : Made Trees). m.reading.large) (sym whole) ∙ terms_large st old raws

  numbered_read : read.variables ≡ numbered (variables_of_terms st [] raws)
  numbered_read = ap (λ (m : Made Trees). m.reading.variables) (sym whole) ∙ terms_variables st old raws

  means_read : read.least ≡ None → MeanTerms st read.symbols (numbered (variables_of_terms st [] raws)) [] raws ts
  means_read unmet =
      subst (λ (m : Made Trees). MeanTerms st m.reading.symbols (numbered (variables_of_terms st [] raws)) [] raws m.tree) whole
      (terms_reading_mean st old raws (ap (λ (m : Made Trees). m.reading.least) whole ∙ unmet))

  least_read : read.least ≡ least_of (broken_outside st read.symbols raws)
  least_read =
      ap (λ (m : Made Trees). m.reading.least) (sym whole) ∙ terms_least st old raws
      ∙ ap (λ (m : Made Trees). least_of (broken_outside st m.reading.symbols raws)) whole

  unmet_read : (us : Trees) → MeanTerms st read.symbols (numbered (variables_of_terms st [] raws)) [] raws us → read.least ≡ None
  unmet_read us h =
      ap (λ (m : Made Trees). m.reading.least) (sym whole)
      ∙ terms_reading_unmet st old raws us (subst (λ (m : Made Trees). MeanTerms st m.reading.symbols (numbered (variables_of_terms st [] raws)) [] raws us) (sym whole) h)

pub returns-clause-ordered : goal.returns-clause-ordered
returns-clause-ordered c =
    ordered_read c.args.style c.args.symbols.now c.replace-table.result c.new-reader.result c.terms-answer.new.reader.reading _ (raws_of c.args.raws.now) (trees_of c.in_ok-terms.terms) c.new-reader.ensures c.replace-table.ensures.value c.in_ok-terms.ensures.read c.into_read-table.ensures

pub returns-clause-numbered : goal.returns-clause-numbered
returns-clause-numbered c =
    numbered_read c.args.style c.args.symbols.now c.replace-table.result c.new-reader.result c.terms-answer.new.reader.reading _ (raws_of c.args.raws.now) (trees_of c.in_ok-terms.terms) c.new-reader.ensures c.replace-table.ensures.value c.in_ok-terms.ensures.read c.into_read-table.ensures

pub returns-clause-means : goal.returns-clause-means
returns-clause-means c =
    means_read c.args.style c.args.symbols.now c.replace-table.result c.new-reader.result c.terms-answer.new.reader.reading _ (raws_of c.args.raws.now) (trees_of c.in_ok-terms.terms) c.new-reader.ensures c.replace-table.ensures.value c.in_ok-terms.ensures.read c.into_read-table.ensures

pub returns-clause-least : goal.returns-clause-least
returns-clause-least c =
    least_read c.args.style c.args.symbols.now c.replace-table.result c.new-reader.result c.terms-answer.new.reader.reading _ (raws_of c.args.raws.now) (trees_of c.in_ok-terms.terms) c.new-reader.ensures c.replace-table.ensures.value c.in_ok-terms.ensures.read c.into_read-table.ensures

pub returns-clause-unmet : goal.returns-clause-unmet
returns-clause-unmet c =
    unmet_read c.args.style c.args.symbols.now c.replace-table.result c.new-reader.result c.terms-answer.new.reader.reading _ (raws_of c.args.raws.now) (trees_of c.in_ok-terms.terms) c.new-reader.ensures c.replace-table.ensures.value c.in_ok-terms.ensures.read c.into_read-table.ensures

pub returns-clause-arity : goal.returns-clause-arity
returns-clause-arity c =
    large_read c.args.style c.args.symbols.now c.replace-table.result c.new-reader.result c.terms-answer.new.reader.reading _ (raws_of c.args.raws.now) (trees_of c.in_ok-terms.terms) c.new-reader.ensures c.replace-table.ensures.value c.in_ok-terms.ensures.read c.into_read-table.ensures
