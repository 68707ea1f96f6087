-- Names in a table, and the next free one.
use Rattle.std.proofs.Common.{◌≡◌, ◌<◌, ◌≤◌, ℕ, zero, suc, ◌+◌, ◌-◌, Bool, true, false, ◌||◌, if◌then◌else◌, length, take, List, [], ◌∷◌, ◌++◌, refl, sym, ap, ap₂, ◌∙◌, subst, arith, add-one}
use Rattle.std.specs.Global.{Vec}
use Rattle.std.specs.List.{list_any}
use Rattle.std.proofs.Math.Bool.{or-false, or_assoc}
use Rattle.std.proofs.lemmas.List.Folds.{list_any-append}
use Rattle.indexmap.specs.IndexSet.{insert_key}
use Rattle.std.specs.Str.{bytes_eq}
use Rattle.std.proofs.lemmas.Bool.{or_left, or_right, true≢false}
use Rattle.std.proofs.lemmas.Slice.Eq.{bytes_eq-Decides}
use Rattle.std.proofs.lemmas.List.{take_all}
use Rattle.fol_core.specs.SymbolTable.{Symbol, name_at, kind_at, is_same_kind}
use Rattle.fol_core.specs.declared.symbols.Kind.TheVariants.{Function, Relation}
use Rattle.clausify.specs.Names.{letter_numbered, is_named, free_from, HasNames}

-- the names up to a further symbol
named_more : (table : List Symbol) (n : ℕ) (name : List ℕ) → n < length table → is_named (take (suc n) table) name ≡ (is_named (take n table) name || bytes_eq name (name_at table n))
named_more [] n name lt = absurd (omega arith)
named_more (s ∷ ss) zero name lt = or-false (bytes_eq name s.name)
named_more (s ∷ ss) (suc n) name lt =
    ap (λ b. bytes_eq name s.name || b) (named_more ss n name (omega arith)) ∙ sym (or_assoc (bytes_eq name s.name) (is_named (take n ss) name) (bytes_eq name (name_at ss n)))

-- one more name
pub names_more : (table : List Symbol) (i : ℕ) (names new : List (Vec ℕ)) (copy : Vec ℕ) → i < length table → HasNames (take i table) names → copy.items ≡ name_at table i
    → new ≡ insert_key (λ v w. bytes_eq v.items w.items) names copy → HasNames (take (i + 1) table) new
names_more table i names new copy lt has same is name = rw (add-one, is) (by (list_any (λ w. bytes_eq copy.items w.items) names) refl ∙ sym (named_more table i name lt))
  where
    by : (b : Bool) → list_any (λ w. bytes_eq copy.items w.items) names ≡ b
        → list_any (λ v. bytes_eq name v.items) (if b then names else names ++ copy ∷ []) ≡ (is_named (take i table) name || bytes_eq name (name_at table i))
    by true h = has name ∙ sym (there (bytes_eq name (name_at table i)) refl)
      where
        there : (c : Bool) → bytes_eq name (name_at table i) ≡ c → (is_named (take i table) name || c) ≡ is_named (take i table) name
        there true e =
            let own : is_named (take i table) name ≡ true = sym (has name) ∙ ap (λ n. list_any (λ (w : Vec ℕ). bytes_eq n w.items) names) ((bytes_eq-Decides name (name_at table i)).0 e ∙ sym same) ∙ h in
            ap (λ b. b || true) own ∙ sym own
        there false e = or-false (is_named (take i table) name)
    by false h = list_any-append (λ (v : Vec ℕ). bytes_eq name v.items) names (copy ∷ []) ∙ ap₂ (λ b c. b || c) (has name) (or-false (bytes_eq name copy.items) ∙ ap (bytes_eq name) same)

-- those of all symbols
pub names_whole : (table : List Symbol) (i : ℕ) (names : List (Vec ℕ)) → length table ≤ i → HasNames (take i table) names → HasNames table names
names_whole table i names end has = subst (λ t. HasNames t names) (take_all i table end) has

-- a taken number is passed
pub passes : (table : List Symbol) (letter n i : ℕ) → i < length table → is_named table (letter_numbered letter n) ≡ true
    → free_from table letter (length table - i) n ≡ free_from table letter (length table - (i + 1)) (n + 1)
passes table letter n i lt taken =
    let more : length table - i ≡ suc (length table - (i + 1)) = omega arith in
    ap (λ m. free_from table letter m n) more ∙ ap (λ b. if b then free_from table letter (length table - (i + 1)) (n + 1) else n) taken

-- and a free one is taken
pub stops : (table : List Symbol) (letter most n : ℕ) → is_named table (letter_numbered letter n) ≡ false → free_from table letter most n ≡ n
stops table letter zero n free = refl
stops table letter (suc most) n free = ap (λ b. if b then free_from table letter most (n + 1) else n) free

-- where as many were passed as there are symbols, the next one is
pub ends : (table : List Symbol) (letter n i : ℕ) → length table ≤ i → free_from table letter (length table - i) n ≡ n
ends table letter n i end = let none : length table - i ≡ 0 = omega arith in ap (λ m. free_from table letter m n) none

-- a relation of a table has a name of the table
pub relation_named : (table : List Symbol) (r : ℕ) (name : List ℕ) → kind_at table r ≡ Relation → name_at table r ≡ name → is_named table name ≡ true
relation_named [] r name kind is = absurd (other kind)
  where
    other : Function ≡ Relation → ⊥
    other e = true≢false (ap (λ k. is_same_kind k Function) e)
relation_named (s ∷ ss) zero name kind is = or_left (bytes_eq name s.name) (is_named ss name) ((bytes_eq-Decides name s.name).1 (sym is))
relation_named (s ∷ ss) (suc r) name kind is = or_right (bytes_eq name s.name) (is_named ss name) (relation_named ss r name kind is)
