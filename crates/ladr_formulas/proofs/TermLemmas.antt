-- Terms read one behind the other.
use Rattle.std.proofs.Common.{◌≡◌, ℕ, suc, ◌+◌, ◌<◌, ◌≤◌, get_or, arith, List, [], ◌∷◌, ◌++◌, length, drop, refl, sym, ap, ◌∙◌}
use Rattle.fol_core.specs.RawTree.{RawTree, named, raws_of, raw_nodes, raw_nodes_of_list}
use Rattle.fol_core.specs.RawView.{raw_of, raw_list}
use Rattle.fol_core.specs.SymbolTable.{Symbol, KeepsNumbers}
use Rattle.fol_core.specs.Tree.{Tree, app, Trees, none, more, trees_of}
use Rattle.fol_core.specs.declared.symbols.Kind.TheVariants.{Function}
use Rattle.std.proofs.lemmas.List.{drop_more, drop_all}
use Rattle.fol_core.specs.declared.raw.Raw.{Raw}
use Rattle.ladr_lex.specs.declared.misuse.Misuse.TheVariants.{UnfitNumeral}
use Rattle.ladr_formulas.specs.Formulas.{Style, Bound, Reading, Made, arity_of, meets, is_too_great, with_symbol, symbol_number, term_of, terms_of}

-- trees in front of those that are read
abbrev pub onto : List Tree → Trees → Trees
onto [] us = us
onto (t ∷ ts) us = more t (onto ts us)

abbrev pub read_onto : List Tree → Made Trees → Made Trees
read_onto ts m = record { tree = onto ts m.tree; reading = m.reading }

onto_last : (ts : List Tree) (t : Tree) (us : Trees) → onto (ts ++ t ∷ []) us ≡ onto ts (more t us)
onto_last [] t us = refl
onto_last (s ∷ ts) t us = ap (more s) (onto_last ts t us)

pub onto_none : (ts : List Tree) → onto ts none ≡ trees_of ts
onto_none [] = refl
onto_none (t ∷ ts) = ap (more t) (onto_none ts)

pub kept_both : (a b c : List Symbol) → KeepsNumbers a b → KeepsNumbers b c → KeepsNumbers a c
kept_both a b c h k = λ n s e. k n s (h n s e)

-- one argument more is read
pub terms_more : (st : Style) (scope around : List Bound) (s t : Reading) (ts more_ts : List Tree) (tree : Tree) (arg : Raw) (args : List Raw) (i : ℕ) → i < length args → arg ≡ get_or args i arg →
    around ≡ scope → term_of st around s (raw_of arg) ≡ record { tree = tree; reading = t } → more_ts ≡ ts ++ tree ∷ [] →
    read_onto more_ts (terms_of st scope t (raws_of (raw_list (drop (i + 1) args)))) ≡ read_onto ts (terms_of st scope s (raws_of (raw_list (drop i args))))
terms_more st scope around s t ts more_ts tree arg args i h e same read pushed =
    let rest = drop (i + 1) args in
    let others = terms_of st scope t (raws_of (raw_list rest)) in
    let here : drop i args ≡ arg ∷ rest = drop_more args i arg h ∙ ap (λ (a : Raw). a ∷ rest) (sym e) in
    let first : term_of st scope s (raw_of arg) ≡ record { tree = tree; reading = t } = ap (λ (c : List Bound). term_of st c s (raw_of arg)) (sym same) ∙ read in
    let made : terms_of st scope s (raws_of (raw_list (drop i args))) ≡ record { tree = more tree others.tree; reading = others.reading } =
    ap (λ (l : List Raw). terms_of st scope s (raws_of (raw_list l))) here ∙
    ap (λ (m : Made Tree). let o = terms_of st scope m.reading (raws_of (raw_list rest)) in record { tree = more m.tree o.tree; reading = o.reading }) first in
    ap (λ (l : List Tree). read_onto l others) pushed ∙ ap (λ (us : Trees). record { tree = us; reading = others.reading }) (onto_last ts tree others.tree) ∙ ap (read_onto ts) (sym made)

-- where no argument is left the terms so far are all
pub terms_end : (st : Style) (scope : List Bound) (last after : Reading) (terms : List Tree) (items : List Raw) (args : List RawTree) (i : ℕ) → length items ≤ i → raw_list items ≡ args →
    read_onto terms (terms_of st scope last (raws_of (raw_list (drop i items)))) ≡ terms_of st scope after (raws_of (raw_list items)) →
    read_onto terms (record { tree = none; reading = last }) ≡ terms_of st scope after (raws_of args)
terms_end st scope last after terms items args i h e r =
    ap (λ (l : List Raw). read_onto terms (terms_of st scope last (raws_of (raw_list l)))) (sym (drop_all i items h)) ∙ r ∙ ap (λ (l : List RawTree). terms_of st scope after (raws_of l)) e

-- the next of the arguments that wait is read
pub terms_next : (st : Style) (scope around : List Bound) (s t : Reading) (ts more_ts : List Tree) (tree : Tree) (arg : RawTree) (waiting rest : List RawTree) → waiting ≡ arg ∷ rest →
    around ≡ scope → term_of st around s arg ≡ record { tree = tree; reading = t } → more_ts ≡ ts ++ tree ∷ [] →
    read_onto more_ts (terms_of st scope t (raws_of rest)) ≡ read_onto ts (terms_of st scope s (raws_of waiting))
terms_next st scope around s t ts more_ts tree arg waiting rest e same read pushed =
    let others = terms_of st scope t (raws_of rest) in
    let first : term_of st scope s arg ≡ record { tree = tree; reading = t } = ap (λ (c : List Bound). term_of st c s arg) (sym same) ∙ read in
    let made : terms_of st scope s (raws_of waiting) ≡ record { tree = more tree others.tree; reading = others.reading } =
    ap (λ (l : List RawTree). terms_of st scope s (raws_of l)) e ∙
    ap (λ (m : Made Tree). let o = terms_of st scope m.reading (raws_of rest) in record { tree = more m.tree o.tree; reading = o.reading }) first in
    ap (λ (l : List Tree). read_onto l others) pushed ∙ ap (λ (us : Trees). record { tree = us; reading = others.reading }) (onto_last ts tree others.tree) ∙ ap (read_onto ts) (sym made)

-- where none waits the terms so far are all
pub terms_over : (st : Style) (scope : List Bound) (last after : Reading) (terms : List Tree) (waiting all args : List RawTree) → waiting ≡ [] → all ≡ args →
    read_onto terms (terms_of st scope last (raws_of waiting)) ≡ terms_of st scope after (raws_of all) →
    read_onto terms (record { tree = none; reading = last }) ≡ terms_of st scope after (raws_of args)
terms_over st scope last after terms waiting all args h e r =
    ap (λ (l : List RawTree). read_onto terms (terms_of st scope last (raws_of l))) (sym h) ∙ r ∙ ap (λ (l : List RawTree). terms_of st scope after (raws_of l)) e

-- each of the arguments that wait is smaller than the term
pub next_smaller : (arg : RawTree) (waiting rest all : List RawTree) (name : List ℕ) (t : RawTree) → waiting ≡ arg ∷ rest → raw_nodes_of_list waiting ≤ raw_nodes_of_list all → t ≡ named name (raws_of all) → raw_nodes arg < raw_nodes t
next_smaller arg waiting rest all name t e h f =
    omega (arith, h, ap raw_nodes f, ap raw_nodes_of_list e)

pub rest_smaller : (arg : RawTree) (waiting rest all : List RawTree) → waiting ≡ arg ∷ rest → raw_nodes_of_list waiting ≤ raw_nodes_of_list all → raw_nodes_of_list rest ≤ raw_nodes_of_list all
rest_smaller arg waiting rest all e h = omega (arith, h, ap raw_nodes_of_list e)

pub arity_is_length : (args : List RawTree) → arity_of (raws_of args) ≡ length args
arity_is_length [] = refl
arity_is_length (a ∷ others) = ap suc (arity_is_length others)

-- an application is its symbol and the terms that are read from all arguments
pub term_applied : (st : Style) (scope : List Bound) (s after last : Reading) (name : List ℕ) (args : List RawTree) (n : ℕ) (terms : List Tree) → 0 < length args →
    after ≡ with_symbol name (arity_of (raws_of args)) Function (meets (is_too_great st name) UnfitNumeral s) → n ≡ symbol_number name (arity_of (raws_of args)) after →
    read_onto terms (record { tree = none; reading = last }) ≡ terms_of st scope after (raws_of args) →
    term_of st scope s (named name (raws_of args)) ≡ record { tree = app n (trees_of terms); reading = last }
term_applied st scope s after last name [] n terms h f g r = absurd (omega arith)
term_applied st scope s after last name (a ∷ others) n terms h f g r =
    let arity = arity_of (raws_of (a ∷ others)) in
    let all : Reading → Made Trees = λ r. terms_of st scope r (raws_of (a ∷ others)) in
    ap (λ (r : Reading). record { tree = app (symbol_number name arity r) (all r).tree; reading = (all r).reading }) (sym f) ∙
    ap (λ (m : Made Trees). record { tree = app (symbol_number name arity after) m.tree; reading = m.reading }) (sym r) ∙
    (λ i. record { tree = app (sym g i) (onto_none terms i); reading = last })

-- lists of one and of two terms
pub one_raw : (items : List Raw) (x : Raw) → length items ≡ 1 → x ≡ get_or items 0 x → raw_list items ≡ raw_of x ∷ []
one_raw [] x h e = absurd (omega arith)
one_raw (a ∷ []) x h e = ap (λ (b : Raw). raw_of b ∷ []) (sym e)
one_raw (a ∷ b ∷ others) x h e = absurd (omega arith)

pub two_raws : (items : List Raw) (x y : Raw) → length items ≡ 2 → x ≡ get_or items 0 x → y ≡ get_or items 1 y → raw_list items ≡ raw_of x ∷ raw_of y ∷ []
two_raws [] x y h e f = absurd (omega arith)
two_raws (a ∷ []) x y h e f = absurd (omega arith)
two_raws (a ∷ b ∷ []) x y h e f = (λ i. raw_of (sym e i) ∷ raw_of (sym f i) ∷ [])
two_raws (a ∷ b ∷ c ∷ others) x y h e f = absurd (omega arith)

pub length_raw_list : (items : List Raw) → length (raw_list items) ≡ length items
length_raw_list [] = refl
length_raw_list (x ∷ items) = ap suc (length_raw_list items)
