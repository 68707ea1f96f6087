-- Skolem symbols in a table.
use Rattle.std.proofs.Common.{◌≡◌, ◌<◌, ℕ, zero, suc, ◌+◌, Bool, true, false, not, ◌==◌, if◌then◌else◌, length, drop, get_or, List, [], ◌∷◌, ◌++◌, Option, Some, None, is_some, unwrap_or, refl, sym, ap, ap₂, ◌∙◌, add-one, drop-cons, append_assoc}
use Rattle.std.specs.Option.{option_map_or}
use Rattle.std.specs.Str.{bytes_eq}
use Rattle.std.proofs.lemmas.Bool.{and_parts, true≢false}
use Rattle.std.proofs.lemmas.Slice.Eq.{bytes_eq-Decides}
use Rattle.fol_core.specs.SymbolTable.{Symbol, symbol, is_called, number_of, name_at, kind_at, entered, is_same_kind, is_clash, KeepsNumbers}
use Rattle.fol_core.specs.declared.symbols.Kind.{Kind}
use Rattle.fol_core.specs.declared.symbols.Kind.TheVariants.{Function, Relation}
use Rattle.fol_core.proofs.Places.{first_place-found}
use Rattle.clausify.specs.Names.{is_named, HasNoSkolemRelation, IsNewName, skolem_symbols, next_name, next_constant, next_function, all_entered, entered_numbers}

-- a new name clashes with no symbol
pub no_clash : (input table : List Symbol) (name : List ℕ) (arity : ℕ) → HasNoSkolemRelation input table → IsNewName input name → is_clash table (symbol name arity Function) ≡ false
no_clash input table name arity none new = by (number_of table name arity) refl
  where
    same : (n : ℕ) → number_of table name arity ≡ Some n → name_at table n ≡ name
    same n e =
        let found = first_place-found (is_called name arity) table n e in
        ap (λ o. option_map_or (λ (s : Symbol). s.name) o []) found.1 ∙ sym ((bytes_eq-Decides name found.0.name).0 (and_parts (bytes_eq name found.0.name) (arity == found.0.arity) found.2).0)

    kinds : (n : ℕ) (k : Kind) → kind_at table n ≡ k → number_of table name arity ≡ Some n → not (is_same_kind k Function) ≡ false
    kinds n Function k e = refl
    kinds n Relation k e = absurd (true≢false (sym (none n new.letter new.number new.few k new.skolem (same n e ∙ new.is)) ∙ ap (is_named input) (sym new.is) ∙ new.free))

    by : (o : Option ℕ) → number_of table name arity ≡ o → option_map_or (λ n. not (is_same_kind (kind_at table n) Function)) o false ≡ false
    by None e = refl
    by (Some n) e = kinds n (kind_at table n) refl e

-- a function more changes nothing
pub still_none : (input table : List Symbol) (name : List ℕ) (arity : ℕ) → HasNoSkolemRelation input table → HasNoSkolemRelation input (entered table (symbol name arity Function))
still_none input table name arity none = by (is_some (number_of table name arity))
  where
    kind_before : (table : List Symbol) (r : ℕ) → kind_at (table ++ symbol name arity Function ∷ []) r ≡ Relation → (kind_at table r ≡ Relation) × (name_at (table ++ symbol name arity Function ∷ []) r ≡ name_at table r)
    kind_before [] zero h = cc
    kind_before [] (suc r) h = cc
    kind_before (s ∷ ss) zero h = (h, refl)
    kind_before (s ∷ ss) (suc r) h = kind_before ss r h

    by : (b : Bool) → HasNoSkolemRelation input (if b then table else table ++ symbol name arity Function ∷ [])
    by true = none
    by false = λ r letter n few k l e. let before = kind_before table r k in none r letter n few before.0 l (sym before.1 ∙ e)

pub kept_through : (a b c : List Symbol) → KeepsNumbers a b → KeepsNumbers b c → KeepsNumbers a c
kept_through a b c h k n s e = k n s (h n s e)

rest_next : (input : List Symbol) (arities : List ℕ) (i c f a : ℕ) → i < length arities → a ≡ get_or arities i 0
    → skolem_symbols input c f (drop i arities)
    ≡ symbol (next_name input c f a) a Function ∷ skolem_symbols input (next_constant input c a) (next_function input f a) (drop (i + 1) arities)
rest_next input arities i c f a lt is =
    let parts : drop i arities ≡ a ∷ drop (i + 1) arities = rw (add-one, drop-cons arities i 0) (ap (λ b. b ∷ drop (suc i) arities) (sym is)) in
    ap (skolem_symbols input c f) parts

-- one more symbol is entered
pub table_next : (input table after : List Symbol) (arities : List ℕ) (i c f d g a : ℕ) → i < length arities → a ≡ get_or arities i 0
    → after ≡ entered table (symbol (next_name input c f a) a Function) → d ≡ next_constant input c a → g ≡ next_function input f a
    → all_entered after (skolem_symbols input d g (drop (i + 1) arities)) ≡ all_entered table (skolem_symbols input c f (drop i arities))
table_next input table after arities i c f d g a lt is entering d_is g_is =
    rw (entering, d_is, g_is) (ap (all_entered table) (sym (rest_next input arities i c f a lt is)))

-- and its number told
pub numbers_next : (input table after : List Symbol) (arities made : List ℕ) (i c f d g a n : ℕ) → i < length arities → a ≡ get_or arities i 0
    → after ≡ entered table (symbol (next_name input c f a) a Function) → number_of after (next_name input c f a) a ≡ Some n → d ≡ next_constant input c a → g ≡ next_function input f a
    → (made ++ n ∷ []) ++ entered_numbers after (skolem_symbols input d g (drop (i + 1) arities)) ≡ made ++ entered_numbers table (skolem_symbols input c f (drop i arities))
numbers_next input table after arities made i c f d g a n lt is entering number d_is g_is =
    append_assoc made (n ∷ []) (entered_numbers after (skolem_symbols input d g (drop (i + 1) arities)))
    ∙ ap (λ ns. made ++ ns) (
    ap₂ (λ k ns. k ∷ ns) (ap (λ o. unwrap_or o 0) (sym number) ∙ ap (λ t. unwrap_or (number_of t (next_name input c f a) a) 0) entering)
    (rw (entering, d_is, g_is) refl)
    ∙ ap (entered_numbers table) (sym (rest_next input arities i c f a lt is))
    )
