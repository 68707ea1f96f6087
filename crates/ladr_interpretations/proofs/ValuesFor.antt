-- The values of the entry that is found by its number.
use Rattle.std.proofs.Common.{◌≡◌, ℕ, zero, suc, ◌+◌, ◌<◌, Bool, true, false, cond, List, [], ◌∷◌, ◌++◌, length, map, take, get_or, Option, Some, None, refl, ap, arith}
use Rattle.std.specs.Option.{option_map}
use Rattle.fol_core.specs.SymbolTable.{Symbol, symbol, number_of, is_called, is_same_kind, name_at, arity_at, kind_at}
use Rattle.fol_core.specs.declared.symbols.Kind.{Kind}
use Rattle.ladr_interpretations.specs.Good.{heads_of, values_for}
use Rattle.ladr_commands.specs.ByName.{NamedTable}

suc_none : (o : Option ℕ) → option_map suc o ≡ None → o ≡ None
suc_none None e = refl
suc_none (Some n) e = absurd cc

suc_some : (o : Option ℕ) (k : ℕ) → option_map suc o ≡ Some k → (j : ℕ) × (o ≡ Some j) × (k ≡ suc j)
suc_some None k e = absurd cc
suc_some (Some n) k e = (n, refl, cc)

none_there : (b : Bool) (o : Option ℕ) (vs ws : List ℕ) → cond b (Some 0) (option_map suc o) ≡ None → (o ≡ None → ws ≡ []) → cond b vs ws ≡ []
none_there true o vs ws e k = absurd cc
none_there false o vs ws e k = k (suc_none o e)

-- a name and arity that no entry has
pub values_none : (ts : List NamedTable) (name : List ℕ) (arity : ℕ) (kind : Kind) → number_of (heads_of ts) name arity ≡ None → values_for ts (symbol name arity kind) ≡ []
values_none [] name arity kind e = refl
values_none (t ∷ ts) name arity kind e = none_there (is_called name arity t.head) (number_of (heads_of ts) name arity) _ _ e (values_none ts name arity kind)

-- the values at a place
abbrev pub values_at : List NamedTable → ℕ → List ℕ
values_at ts k = get_or (map (λ t. t.values) ts) k []

abbrev found : List NamedTable → ℕ → Kind → List ℕ
found ts k kind = cond (is_same_kind (kind_at (heads_of ts) k) kind) (values_at ts k) []

some_step : (b : Bool) (o : Option ℕ) (t : NamedTable) (ts : List NamedTable) (k : ℕ) (kind : Kind) (ws : List ℕ) → cond b (Some 0) (option_map suc o) ≡ Some k
    → ((j : ℕ) → o ≡ Some j → ws ≡ found ts j kind) → cond b (cond (is_same_kind t.head.kind kind) t.values []) ws ≡ found (t ∷ ts) k kind
some_step true o t ts zero kind ws e h = refl
some_step true o t ts (suc k) kind ws e h = absurd cc
some_step false o t ts zero kind ws e h = let s = suc_some o zero e in absurd (omega (arith, s.2))
some_step false o t ts (suc k) kind ws e h = let s = suc_some o (suc k) e in let p : k ≡ s.0 = omega (arith, s.2) in rw p (h s.0 s.1)

-- the entry of a name and arity that is there
pub values_some : (ts : List NamedTable) (name : List ℕ) (arity k : ℕ) (kind : Kind) → number_of (heads_of ts) name arity ≡ Some k → values_for ts (symbol name arity kind) ≡ cond (is_same_kind (kind_at (heads_of ts) k) kind) (values_at ts k) []
values_some [] name arity k kind e = absurd cc
values_some (t ∷ ts) name arity k kind e =
    some_step (is_called name arity t.head) (number_of (heads_of ts) name arity) t ts k kind _ e (λ j f. values_some ts name arity j kind f)

-- a function of the symbols so far and of one more
pub map_one_more : {A : Type 0} (f : Symbol → A) (table : List Symbol) (n : ℕ) → n < length table → map f (take (n + 1) table) ≡ map f (take n table) ++ f (symbol (name_at table n) (arity_at table n) (kind_at table n)) ∷ []
map_one_more f [] n h = absurd (omega arith)
map_one_more f (s ∷ ss) zero h = refl
map_one_more f (s ∷ ss) (suc n) h = let k : n < length ss = omega arith in let e : suc n + 1 ≡ suc (n + 1) = omega arith in rw e (ap (λ r. f s ∷ r) (map_one_more f ss n k))

-- the values of an entry are those at its place
pub values_of_entry : (ts : List NamedTable) (k : ℕ) (t : NamedTable) → k < length ts → t ≡ get_or ts k t → t.values ≡ values_at ts k
values_of_entry [] k t h f = absurd (omega arith)
values_of_entry (d ∷ ts) zero t h f = ap (λ (x : NamedTable). x.values) f
values_of_entry (d ∷ ts) (suc k) t h f = let l : k < length ts = omega arith in values_of_entry ts k t l f
