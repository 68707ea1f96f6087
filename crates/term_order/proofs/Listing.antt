-- The rows of a table's symbols, and how they compare.
use Rattle.std.proofs.Common.{◌≡◌, ℕ, zero, suc, ◌+◌, ◌<◌, ◌≤◌, ◌≢◌, ◌⊎◌, Bool, true, false, IsTrue, IsSome, inl, inr, refl, sym, ap, ◌∙◌, List, [], ◌∷◌, ◌++◌, length, map, take, Option, Some, None, arith, add-one}
use Rattle.std.specs.Prelude.{slice_get}
use Rattle.std.specs.Option.{option_map, option_map_or}
use Rattle.std.proofs.lemmas.Bool.{cases_lt}
use Rattle.std.proofs.Math.Nat.{eq-or-lt_of_le}
use Rattle.std.proofs.lemmas.List.Quantifiers.{position-Some}
use Rattle.std.proofs.lemmas.List.{take_all}
use Rattle.std.proofs.lemmas.Option.{slice_get-map, get_or_from_slice_get}
use Rattle.std.specs.Str.{bytes_eq}
use Rattle.fol_core.specs.NamesOnce.{place_in}
use Rattle.fol_core.specs.SymbolTable.{Symbol}
use Rattle.term_order.specs.Listed.{listed_place, symbol_row, symbol_rows, IsOrderedAsListed, TableIsOrdered}
use Rattle.term_order.specs.Precedences.{stands_above, row_at}
use Rattle.term_order.specs.declared.precedence.SymbolRow.{SymbolRow}
use Rattle.term_order.proofs.Heads.{Comes, by_list, by_arity, by_number, because_comes}

-- a name's place is below the number of names
pub place_below : (name : List ℕ) (listed : List (List ℕ)) (n : ℕ) → place_in name listed ≡ Some n → n < length listed
place_below name listed n e = (position-Some (λ m. bytes_eq name m) listed n name e).0

-- of two symbols one comes behind the other
one_comes : (rows : List SymbolRow) (a b x y f g : ℕ) → f ≢ g → Comes rows a b x y f g ⊎ Comes rows b a y x g f
one_comes rows a b x y f g apart = elim (cases_lt b a) [
  | inl h ↦ inl (by_list h)
  | inr h ↦ elim (eq-or-lt_of_le h) [
    | inr i ↦ inr (by_list i)
    | inl e ↦ elim (cases_lt y x) [
      | inl i ↦ inl (by_arity e i)
      | inr i ↦ elim (eq-or-lt_of_le i) [
        | inr j ↦ inr (by_arity (sym e) j)
        | inl d ↦ elim (cases_lt g f) [
          | inl j ↦ inl (by_number e d j)
          | inr j ↦ elim (eq-or-lt_of_le j) [ inr k ↦ inr (by_number (sym e) (sym d) k) | inl k ↦ elim (apart k) [ ] ]
        ]
      ]
    ]
  ]
]

module _ (listed : List (List ℕ)) (weights : List (List ℕ × ℕ)) (table : List Symbol) where
  abbrev rows : List SymbolRow
  rows = symbol_rows listed weights table

  -- the row of a symbol of the table
  row_there : (f : ℕ) (s : Symbol) → slice_get table f ≡ Some s → row_at rows f ≡ symbol_row listed weights s
  row_there f s e =
      get_or_from_slice_get rows f (symbol_row listed weights s) _
      (slice_get-map (symbol_row listed weights) table f ∙ ap (option_map (symbol_row listed weights)) e)

  place_there : (f : ℕ) (s : Symbol) → slice_get table f ≡ Some s → (row_at rows f).listed ≡ listed_place s.name listed
  place_there f s e = ap (λ r. r.listed) (row_there f s e)

  arity_there : (f : ℕ) (s : Symbol) → slice_get table f ≡ Some s → (row_at rows f).arity ≡ s.arity
  arity_there f s e = ap (λ r. r.arity) (row_there f s e)

  place_some : (name : List ℕ) (n : ℕ) → place_in name listed ≡ Some n → listed_place name listed ≡ suc n
  place_some name n e = ap (λ o. option_map_or suc o 0) e

  place_none : (name : List ℕ) → place_in name listed ≡ None → listed_place name listed ≡ 0
  place_none name e = ap (λ o. option_map_or suc o 0) e

  place_one : (name : List ℕ) → IsSome (place_in name listed) → 0 < listed_place name listed
  place_one name = by (place_in name listed)
    where
      by : (o : Option ℕ) → IsSome o → 0 < option_map_or suc o 0
      by (Some n) h = omega arith
      by None h = cc

  pub table_is_ordered : TableIsOrdered listed weights table
  table_is_ordered f g s t e d = record {
    listed_first = λ is none. comes (by_list (let h = place_one s.name is in let k = place_none t.name none in let i = place_there f s e in let j = place_there g t d in omega arith));
    in_order = λ m n p q h. comes (by_list (let a = place_some s.name m p in let b = place_some t.name n q in let i = place_there f s e in let j = place_there g t d in omega arith));
    arities = λ same h. comes (by_arity (place_there f s e ∙ ap (λ n. listed_place n listed) same ∙ sym (place_there g t d)) (less h));
    others = λ p q h. comes (by_arity (neither p q) (less h));
    later = λ p q same h. comes (by_number (neither p q) (arity_there f s e ∙ same ∙ sym (arity_there g t d)) h);
    total = λ apart. elim (one_comes rows (row_at rows f).listed (row_at rows g).listed (row_at rows f).arity (row_at rows g).arity f g apart) [
      | inl h ↦ inl (comes h)
      | inr h ↦ inr (because_comes rows g f h)
    ];
  }
    where
      comes : Comes rows (row_at rows f).listed (row_at rows g).listed (row_at rows f).arity (row_at rows g).arity f g → stands_above rows f g ≡ true
      comes h = because_comes rows f g h

      less : t.arity < s.arity → (row_at rows g).arity < (row_at rows f).arity
      less h = let i = arity_there f s e in let j = arity_there g t d in omega arith

      neither : place_in s.name listed ≡ None → place_in t.name listed ≡ None → (row_at rows f).listed ≡ (row_at rows g).listed
      neither p q = place_there f s e ∙ place_none s.name p ∙ sym (place_none t.name q) ∙ sym (place_there g t d)

-- one more row
row_next : (listed : List (List ℕ)) (weights : List (List ℕ × ℕ)) (table : List Symbol) (i : ℕ) (r : SymbolRow) → option_map (symbol_row listed weights) (slice_get table i) ≡ Some r
    → symbol_rows listed weights (take (suc i) table) ≡ symbol_rows listed weights (take i table) ++ r ∷ []
row_next listed weights [] i r e = absurd (none e)
  where
    none : None ≡ Some r → ⊥
    none d = cc
row_next listed weights (s ∷ table) zero r e = let f : symbol_row listed weights s ≡ r = cc in ap (λ x. x ∷ []) f
row_next listed weights (s ∷ table) (suc i) r e = ap (λ x. symbol_row listed weights s ∷ x) (row_next listed weights table i r e)

pub rows_next : (listed : List (List ℕ)) (weights : List (List ℕ × ℕ)) (table : List Symbol) (i : ℕ) (r : SymbolRow) → option_map (symbol_row listed weights) (slice_get table i) ≡ Some r
    → symbol_rows listed weights (take (i + 1) table) ≡ symbol_rows listed weights (take i table) ++ r ∷ []
rows_next listed weights table i r e = ap (λ n. symbol_rows listed weights (take n table)) (add-one i) ∙ row_next listed weights table i r e

pub rows_all : (listed : List (List ℕ)) (weights : List (List ℕ × ℕ)) (table : List Symbol) (i : ℕ) → length table ≤ i → symbol_rows listed weights (take i table) ≡ symbol_rows listed weights table
rows_all listed weights table i h = ap (symbol_rows listed weights) (take_all i table h)
