-- Symbols of names that are entered one behind the other.
use Rattle.std.proofs.Common.{◌≡◌, ℕ, ◌+◌, ◌<◌, true, List, ◌∷◌, length, drop, get_or, sym, ap, ◌∙◌, arith}
use Rattle.std.specs.Prelude.{nat_lt}
use Rattle.std.proofs.lemmas.Bool.{lt-ltb}
use Rattle.std.proofs.lemmas.List.{drop_more}
use Rattle.fol_core.specs.SymbolTable.{Symbol}
use Rattle.ladr_distinct.specs.Symbols.{symbols_of_name, symbols_of_names}
use Rattle.ladr_formulas.specs.Counting.{all_entered}
use Rattle.ladr_formulas.specs.declared.styles.Style.{Style}
use Rattle.ladr_formulas.proofs.CountingLemmas.{entered_on, longer}

-- those of a name, and of those behind it
pub entered_here : (st : Style) (t : List Symbol) (names : List (List ℕ)) (i : ℕ) (name : List ℕ) → i < length names → name ≡ get_or names i name
    → all_entered t (symbols_of_names st (drop i names)) ≡ all_entered (all_entered t (symbols_of_name st name)) (symbols_of_names st (drop (i + 1) names))
entered_here st t names i name h e =
    ap (λ ns. all_entered t (symbols_of_names st ns)) (drop_more names i name h ∙ ap (λ n. n ∷ drop (i + 1) names) (sym e))
    ∙ entered_on t (symbols_of_name st name) (symbols_of_names st (drop (i + 1) names))

-- too many are too many whatever is behind them
pub too_many : (most : ℕ) (t ss all : List Symbol) → most < length t → all_entered t ss ≡ all → true ≡ nat_lt most (length all)
too_many most t ss all h e =
    let n : length (all_entered t ss) ≡ length all = ap (λ (us : List Symbol). length us) e in
    sym (lt-ltb most (length all) (omega (arith, h, longer t ss, n)))
