-- A name and arity among the symbols of a table.
use Rattle.std.proofs.Common.{◌≡◌, zero, ◌+◌, take, drop, get_or, inl, inr, subst, ℕ, suc, ◌<◌, ◌==◌, List, [], ◌∷◌, ◌++◌, length, Option, Some, None, unwrap_or, slice_get, refl, sym, ap, ap₂, ◌∙◌, arith}
use Rattle.std.specs.Bool.{Decides}
use Rattle.std.specs.Option.{option_map_or}
use Rattle.std.specs.Str.{bytes_eq}
use Rattle.std.proofs.lemmas.Bool.Decides.{Decides-eqb, Decides-and}
use Rattle.std.proofs.lemmas.Slice.Eq.{bytes_eq-Decides}
use Rattle.std.proofs.lemmas.List.{take-append-drop, length-take}
use Rattle.std.proofs.lemmas.Option.{slice_get-get_or, slice_get_within}
use Rattle.fol_core.specs.SymbolTable.{Symbol, symbol, is_called, name_at, arity_at, kind_at, number_of, FindsEach}
use Rattle.fol_core.specs.declared.symbols.Kind.{Kind}
use Rattle.fol_core.specs.declared.symbols.Kind.TheVariants.{Function}
use Rattle.fol_core.proofs.Places.{first_place-found, first_place-append, first_place-push, slice_get-push_cases}

abbrev pub IsCalled : (name : List ℕ) (arity : ℕ) (s : Symbol) → Decides (is_called name arity s) ((name ≡ s.name) × (arity ≡ s.arity))
IsCalled name arity s = Decides-and (bytes_eq name s.name) (arity == s.arity) (bytes_eq-Decides name s.name) (Decides-eqb arity s.arity)

-- a name and arity that are found are the symbol's
pub symbol_there : (table : List Symbol) (name : List ℕ) (arity n : ℕ) → number_of table name arity ≡ Some n → slice_get table n ≡ Some (symbol name arity (kind_at table n))
symbol_there table name arity n h =
    let there = first_place-found (is_called name arity) table n h in
    let parts = (IsCalled name arity there.0).0 there.2 in
    let kinds : there.0.kind ≡ kind_at table n = sym (ap (λ o. option_map_or (λ s. s.kind) o Function) there.1) in
    there.1 ∙ (λ i. Some (symbol (sym parts.0 i) (sym parts.1 i) (kinds i)))

-- a symbol at the end is found there
pub number_of_push : (table : List Symbol) (name : List ℕ) (arity : ℕ) (kind : Kind) → number_of table name arity ≡ None
    → number_of (table ++ symbol name arity kind ∷ []) name arity ≡ Some (length table)
number_of_push table name arity kind none =
    first_place-push (is_called name arity) table (symbol name arity kind) none ((IsCalled name arity (symbol name arity kind)).1 (refl, refl))

-- and each symbol is still found
pub FindsEach-push : (table : List Symbol) (name : List ℕ) (arity : ℕ) (kind : Kind) → FindsEach table → number_of table name arity ≡ None
    → FindsEach (table ++ symbol name arity kind ∷ [])
FindsEach-push table name arity kind once none n s h =
    elim (slice_get-push_cases table (symbol name arity kind) s n h) [
      | inl e ↦ first_place-append (is_called s.name s.arity) table (symbol name arity kind ∷ []) n (once n s e)
      | inr e ↦ subst (λ (t : Symbol). number_of (table ++ symbol name arity kind ∷ []) t.name t.arity ≡ Some n) e.1 (number_of_push table name arity kind none ∙ ap Some e.0)
    ]

-- each symbol is found under its own number
pub found_own : (table : List Symbol) (n : ℕ) → FindsEach table → n < length table → number_of table (name_at table n) (arity_at table n) ≡ Some n
found_own table n once within =
    let s = get_or table n (symbol [] 0 Function) in
    let at : slice_get table n ≡ Some s = slice_get-get_or table n (symbol [] 0 Function) within in
    let name : name_at table n ≡ s.name = ap (λ o. option_map_or (λ t. t.name) o []) at in
    let arity : arity_at table n ≡ s.arity = ap (λ o. option_map_or (λ t. t.arity) o 0) at in
    ap₂ (number_of table) name arity ∙ once n s at

-- and not before
pub absent_before : (table : List Symbol) (n : ℕ) → FindsEach table → n < length table → number_of (take n table) (name_at table n) (arity_at table n) ≡ None
absent_before table n once within = by (number_of (take n table) (name_at table n) (arity_at table n)) refl
  where
    by : (o : Option ℕ) → number_of (take n table) (name_at table n) (arity_at table n) ≡ o → o ≡ None
    by None h = refl
    by (Some m) h =
        let found = first_place-found (is_called (name_at table n) (arity_at table n)) (take n table) m h in
        let before : m < length (take n table) = slice_get_within (take n table) m found.0 found.1 in
        let whole = first_place-append (is_called (name_at table n) (arity_at table n)) (take n table) (drop n table) m h in
        let here : Some m ≡ Some n = sym whole ∙ ap (λ t. number_of t (name_at table n) (arity_at table n)) (take-append-drop n table) ∙ found_own table n once within in
        absurd (omega (arith, ap (λ o. unwrap_or o 0) here, length-take n table))

-- the symbols up to one more number
pub symbols_more : (table : List Symbol) (n : ℕ) → n < length table
    → take (n + 1) table ≡ take n table ++ symbol (name_at table n) (arity_at table n) (kind_at table n) ∷ []
symbols_more [] n within = absurd (omega arith)
symbols_more (s ∷ ss) zero within = refl
symbols_more (s ∷ ss) (suc n) within =
    let next : suc n + 1 ≡ suc (n + 1) = omega arith in
    ap (λ k. take k (s ∷ ss)) next ∙ ap (λ t. s ∷ t) (symbols_more ss n (omega arith))
