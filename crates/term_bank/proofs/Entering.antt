-- Entries of a map with new keys.
use Rattle.std.proofs.Common.{◌≡◌, ℕ, suc, Bool, true, false, List, [], ◌∷◌, ◌++◌, Option, Some, None, if◌then◌else◌, refl, ap}
use Rattle.std.specs.Map.{keys_of}
use Rattle.std.specs.Option.{option_map}
use Rattle.indexmap.specs.IndexMap.{insert_entry}
use Rattle.fol_core.specs.SymbolTable.{first_place}

-- a key that is not among the entries goes last
pub insert_entry-apart : {K V : Type 0} (eq : K → K → Bool) (k : K) (v : V) (es : List (K × V)) → first_place (eq k) (keys_of es) ≡ None
    → insert_entry eq es k v ≡ es ++ (k, v) ∷ []
insert_entry-apart eq k v [] none = refl
insert_entry-apart eq k v (e ∷ es) none = by (eq k e.0) (first_place (eq k) (keys_of es)) (insert_entry-apart eq k v es) none
  where
    by : (b : Bool) (o : Option ℕ) → (o ≡ None → insert_entry eq es k v ≡ es ++ (k, v) ∷ []) → (if b then Some 0 else option_map suc o) ≡ None
        → (if b then (e.0, v) ∷ es else e ∷ insert_entry eq es k v) ≡ e ∷ (es ++ (k, v) ∷ [])
    by true o rest h = cc
    by false None rest h = ap (λ l. e ∷ l) (rest refl)
    by false (Some n) rest h = cc
