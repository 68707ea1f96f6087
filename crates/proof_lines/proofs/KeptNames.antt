-- The names of a table's symbols, one after the other.
use Rattle.std.proofs.Common.{◌≡◌, ℕ, zero, suc, ◌+◌, ◌<◌, ◌≤◌, Bool, true, false, ◌||◌, if◌then◌else◌, List, [], ◌∷◌, ◌++◌, length, take, refl, sym, ap, ap₂, ◌∙◌, subst, arith, add-one}
use Rattle.std.specs.Global.{Vec}
use Rattle.std.specs.List.{list_any}
use Rattle.std.specs.Str.{bytes_eq}
use Rattle.std.proofs.Math.Bool.{or-false, or_assoc}
use Rattle.std.proofs.lemmas.List.{take_all}
use Rattle.std.proofs.lemmas.List.Folds.{list_any-append}
use Rattle.std.proofs.lemmas.Slice.Eq.{bytes_eq-Decides}
use Rattle.indexmap.specs.IndexSet.{insert_key}
use Rattle.fol_core.specs.SymbolTable.{Symbol, name_at}
use Rattle.proof_lines.specs.Strays.{has_name, AreNamesOf}
use Rattle.proof_lines.specs.declared.strays.ProblemNames.{ProblemNames}

-- these keys are the names of the table
abbrev pub AreKeysOf : List Symbol → List (Vec ℕ) → Type 0
AreKeysOf table keys = (name : List ℕ) → list_any (λ (v : Vec ℕ). bytes_eq name v.items) keys ≡ has_name table name

-- with one symbol more
has_more : (table : List Symbol) (n : ℕ) (name : List ℕ) → n < length table → has_name (take (suc n) table) name ≡ (has_name (take n table) name || bytes_eq name (name_at table n))
has_more [] n name h = absurd (omega arith)
has_more (s ∷ table) zero name h = or-false (bytes_eq name s.name)
has_more (s ∷ table) (suc n) name h =
    ap (λ (b : Bool). bytes_eq name s.name || b) (has_more table n name (omega arith)) ∙ sym (or_assoc (bytes_eq name s.name) (has_name (take n table) name) (bytes_eq name (name_at table n)))

-- a name that is there needn't come again
known : (table : List Symbol) (keys : List (Vec ℕ)) (new name : List ℕ) → AreKeysOf table keys → list_any (λ (v : Vec ℕ). bytes_eq new v.items) keys ≡ true → (has_name table name || bytes_eq name new) ≡ has_name table name
known table keys new name are there = by (bytes_eq name new) refl
  where
    by : (b : Bool) → bytes_eq name new ≡ b → (has_name table name || b) ≡ has_name table name
    by true e =
        let own : has_name table name ≡ true = sym (are name) ∙ ap (λ (n : List ℕ). list_any (λ (v : Vec ℕ). bytes_eq n v.items) keys) ((bytes_eq-Decides name new).0 e) ∙ there in
        ap (λ (b : Bool). b || true) own ∙ sym own
    by false e = or-false (has_name table name)

with_key : (table : List Symbol) (keys : List (Vec ℕ)) (copy : Vec ℕ) (name : List ℕ) → AreKeysOf table keys → (b : Bool) → list_any (λ (v : Vec ℕ). bytes_eq copy.items v.items) keys ≡ b
    → list_any (λ (v : Vec ℕ). bytes_eq name v.items) (if b then keys else keys ++ copy ∷ []) ≡ (has_name table name || bytes_eq name copy.items)
with_key table keys copy name are true e = are name ∙ sym (known table keys copy.items name are e)
with_key table keys copy name are false e = list_any-append (λ (v : Vec ℕ). bytes_eq name v.items) keys (copy ∷ []) ∙ ap₂ (λ a b. a || b) (are name) (or-false (bytes_eq name copy.items))

pub names_more : (table : List Symbol) (n : ℕ) (keys new : List (Vec ℕ)) (copy : Vec ℕ) → n < length table → AreKeysOf (take n table) keys → copy.items ≡ name_at table n
    → new ≡ insert_key (λ v w. bytes_eq v.items w.items) keys copy → AreKeysOf (take (n + 1) table) new
names_more table n keys new copy h are same is name =
    rw (add-one, is) (with_key (take n table) keys copy name are (list_any (λ (v : Vec ℕ). bytes_eq copy.items v.items) keys) refl
    ∙ ap (λ (x : List ℕ). has_name (take n table) name || bytes_eq name x) same ∙ sym (has_more table n name h))

-- those of all symbols
pub names_whole : (table : List Symbol) (n : ℕ) (names : ProblemNames) → length table ≤ n → AreNamesOf (take n table) names → AreNamesOf table names
names_whole table n names h are = subst (λ (t : List Symbol). AreNamesOf t names) (take_all n table h) are
