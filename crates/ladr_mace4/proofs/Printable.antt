-- A model with the values of the Skolem symbols reads back from its text.
use Rattle.std.proofs.Common.{◌≡◌, ◌⊎◌, inl, inr, ℕ, suc, ◌^◌, ◌<◌, true, List, [], ◌∷◌, refl, sym, ap, ◌∙◌, subst, arith}
use Rattle.std.specs.Char.{is_ascii_digit}
use Rattle.std.specs.Fmt.{decimal}
use Rattle.std.specs.List.{AllByRecursion, list_all}
use Rattle.std.proofs.lemmas.Bool.{and_from, or_left}
use Rattle.std.proofs.lemmas.Bool.Decides.{nat_tests}
use Rattle.std.proofs.lemmas.Fmt.{decimal_is_IsNumeral_wide}
use Rattle.std.proofs.lemmas.List.Folds.{list_all-append}
use Rattle.clausify.specs.Behind.{HasOwnName, StandBehind}
use Rattle.clausify.specs.Input.{skolems}
use Rattle.clausify.specs.Names.{letter_numbered}
use Rattle.fol_core.specs.Fol.{Fol}
use Rattle.fol_core.specs.Occurs.{occurs_in}
use Rattle.fol_problem.specs.Stated.{Stated}
use Rattle.fol_core.specs.SymbolTable.{Symbol}
use Rattle.ladr_lex.proofs.Numerals.{own}
use Rattle.ladr_lex.specs.Bytes.{is_ordinary}
use Rattle.ladr_lex.specs.Cuts.{is_run, is_plain_symbol, is_quoted}
use Rattle.ladr_mace4.specs.Skolems.{all_symbols}
use Rattle.ladr_models.specs.ReadsBack.{AreRows}
use Rattle.ladr_problem.specs.Names.{is_name, are_named, AreTellable}
use Rattle.model_tables.specs.Size.{AreListings}
use Rattle.model_tables.specs.Tables.{Listing}

-- rows of an interpretation
pub listings_rows : (n : ℕ) (fs : List Fol) (k : ℕ) (ss : List Symbol) (ls : List Listing) → AreListings n fs k ss ls → AreRows n ss ls
listings_rows n fs k [] [] h = tt
listings_rows n fs k [] (l ∷ ls) h = absurd h
listings_rows n fs k (s ∷ ss) [] h = absurd h
listings_rows n fs k (s ∷ ss) (l ∷ ls) h = ((occurs_in k fs, h.0), listings_rows n fs (suc k) ss ls h.1)

-- the names of Skolem symbols are ordinary symbols
digits_ordinary : (ds : List ℕ) → list_all is_ascii_digit ds ≡ true → list_all is_ordinary ds ≡ true
unfolding is_ordinary
digits_ordinary [] h = refl
digits_ordinary (d ∷ ds) h = grind (arith, nat_tests, digits_ordinary ds)

letter_ordinary : (letter : ℕ) → (letter ≡ 99) ⊎ (letter ≡ 102) → is_ordinary letter ≡ true
unfolding is_ordinary
letter_ordinary letter (inl e) = rw e refl
letter_ordinary letter (inr e) = rw e refl

numbered_name : (letter n : ℕ) → (letter ≡ 99) ⊎ (letter ≡ 102) → n < 10 ^ 64 → is_name (letter_numbered letter n) ≡ true
numbered_name letter n h l =
    let digits = own.from (decimal n) (decimal_is_IsNumeral_wide n l).0.1 in
    let ordinary : is_run is_ordinary (letter_numbered letter n) ≡ true = and_from (is_ordinary letter) (list_all is_ordinary (decimal n)) (letter_ordinary letter h) (digits_ordinary (decimal n) digits) in
    or_left (is_plain_symbol (letter_numbered letter n)) (is_quoted (letter_numbered letter n)) (or_left (is_run is_ordinary (letter_numbered letter n)) _ ordinary)

own_named : (table ss : List Symbol) → AllByRecursion (HasOwnName table) ss → are_named ss ≡ true
own_named table [] h = refl
own_named table (s ∷ ss) h =
    and_from (is_name s.name) (are_named ss)
    (subst (λ (name : List ℕ). is_name name ≡ true) (sym h.0.1.4) (numbered_name h.0.1.0 h.0.1.1 h.0.1.2 h.0.1.3)) (own_named table ss h.1)

-- all symbols can be told apart
pub all_tellable : (p : Stated) → StandBehind p → AreTellable p.symbols → AreTellable (all_symbols p)
all_tellable p behind told = record {
  different = behind.different told.different;
  named = ap are_named behind.table ∙ list_all-append (λ (s : Symbol). is_name s.name) p.symbols (skolems p.symbols p.formulas) ∙ and_from _ _ told.named (own_named p.symbols (skolems p.symbols p.formulas) behind.names);
}
