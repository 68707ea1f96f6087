-- What constants have is what the list of their names has.
use Rattle.std.proofs.Common.{◌≡◌, ℕ, suc, Bool, true, false, ◌||◌, ◌&&◌, ◌==◌, not, if◌then◌else◌, List, [], ◌∷◌, ◌++◌, Option, Some, None, is_some, refl, sym, ap, ap₂, ◌∙◌}
use Rattle.std.specs.Option.{option_map}
use Rattle.std.specs.Str.{bytes_eq}
use Rattle.std.proofs.lemmas.Bool.{and_parts}
use Rattle.std.proofs.lemmas.List.{map-append}
use Rattle.std.proofs.lemmas.Slice.Eq.{bytes_eq-Decides}
use Rattle.fol_core.specs.NamesOnce.{constant_names, AreConstants, is_in, are_apart, with_name, place_in}
use Rattle.fol_core.specs.SymbolTable.{Symbol, symbol, is_called, first_place, number_of}
use Rattle.fol_core.specs.declared.symbols.Kind.{Kind}
use Rattle.fol_core.specs.declared.symbols.Sym.{Sym}
use Rattle.fol_core.proofs.Places.{first_place_is_position, first_place-any, all_push}

-- a name is found among constants where it stands among their names
test_same : (name : List ℕ) (s : Symbol) → s.arity ≡ 0 → is_called name 0 s ≡ bytes_eq name s.name
test_same name s h = ap (λ n. bytes_eq name s.name && 0 == n) h ∙ by (bytes_eq name s.name)
  where
    by : (b : Bool) → (b && true) ≡ b
    by true = refl
    by false = refl

same_first : (name : List ℕ) (ss : List Symbol) → AreConstants ss → number_of ss name 0 ≡ first_place (λ n. bytes_eq name n) (constant_names ss)
same_first name [] h = refl
same_first name (s ∷ ss) h = ap₂ (λ (b : Bool) (o : Option ℕ). if b then Some 0 else option_map suc o) (test_same name s h.0) (same_first name ss h.1)

pub same_place : (name : List ℕ) (ss : List Symbol) → AreConstants ss → number_of ss name 0 ≡ place_in name (constant_names ss)
same_place name ss h = same_first name ss h ∙ first_place_is_position (λ n. bytes_eq name n) (constant_names ss)

pub is_among : (name : List ℕ) (ss : List Symbol) → AreConstants ss → is_some (number_of ss name 0) ≡ is_in name (constant_names ss)
is_among name ss h = ap is_some (same_first name ss h) ∙ first_place-any (λ n. bytes_eq name n) (constant_names ss)

pub found_among : (name : List ℕ) (ss : List Symbol) (found : Option Sym) → AreConstants ss → option_map (λ s. s.0) found ≡ number_of ss name 0 → is_some found ≡ is_in name (constant_names ss)
found_among name ss found h is = by found ∙ ap is_some is ∙ is_among name ss h
  where
    by : (o : Option Sym) → is_some o ≡ is_some (option_map (λ (s : Sym). s.0) o)
    by (Some s) = refl
    by None = refl

-- one more constant is one more name
pub names_more : (ss : List Symbol) (name : List ℕ) (kind : Kind) → is_in name (constant_names ss) ≡ false → constant_names (ss ++ symbol name 0 kind ∷ []) ≡ with_name name (constant_names ss)
names_more ss name kind new = map-append (λ (s : Symbol). s.name) ss (symbol name 0 kind ∷ []) ∙ sym (ap (λ b. if b then constant_names ss else constant_names ss ++ name ∷ []) new)

pub constants_more : (ss : List Symbol) (name : List ℕ) (kind : Kind) → AreConstants ss → AreConstants (ss ++ symbol name 0 kind ∷ [])
constants_more ss name kind h = all_push (λ (s : Symbol). s.arity ≡ 0) ss (symbol name 0 kind) h refl

pub there_stays : (name : List ℕ) (names : List (List ℕ)) → is_in name names ≡ true → names ≡ with_name name names
there_stays name names there = sym (ap (λ b. if b then names else names ++ name ∷ []) there)

-- a list in which a name comes twice is not apart
pub twice : (done rest : List (List ℕ)) (name : List ℕ) → is_in name done ≡ true → are_apart (done ++ name ∷ rest) ≡ false
twice [] rest name there = cc
twice (n ∷ done) rest name there = by (bytes_eq name n) refl (twice done rest name) there
  where
    later : is_in n (done ++ name ∷ rest) ≡ true → are_apart (n ∷ (done ++ name ∷ rest)) ≡ false
    later h = ap (λ b. not b && are_apart (done ++ name ∷ rest)) h

    either : (b : Bool) {d : Bool} → d ≡ true → (b || d) ≡ true
    either true e = refl
    either false e = e

    among : (xs : List (List ℕ)) → bytes_eq n name ≡ true → is_in n (xs ++ name ∷ rest) ≡ true
    among [] e = ap (λ b. b || is_in n rest) e
    among (x ∷ xs) e = either (bytes_eq n x) (among xs e)

    by : (b : Bool) → bytes_eq name n ≡ b → (is_in name done ≡ true → are_apart (done ++ name ∷ rest) ≡ false) → (b || is_in name done) ≡ true → are_apart (n ∷ (done ++ name ∷ rest)) ≡ false
    by true e further h = later (among done ((bytes_eq-Decides n name).1 (sym ((bytes_eq-Decides name n).0 e))))
    by false e further h = ap (λ b. not (is_in n (done ++ name ∷ rest)) && b) (further h) ∙ both (is_in n (done ++ name ∷ rest))
      where
        both : (b : Bool) → (not b && false) ≡ false
        both true = refl
        both false = refl

-- a new name at the end keeps a list apart
pub apart_more : (names : List (List ℕ)) (name : List ℕ) → are_apart names ≡ true → is_in name names ≡ false → are_apart (names ++ name ∷ []) ≡ true
apart_more [] name apart new = refl
apart_more (n ∷ names) name apart new =
    let apart = and_parts _ _ apart in
    let new = neither (bytes_eq name n) new in
    both (ap not (other names (flipped new.0)) ∙ apart.0) (apart_more names name apart.1 new.1)
  where
    neither : (b : Bool) {d : Bool} → (b || d) ≡ false → (b ≡ false) × (d ≡ false)
    neither true h = cc
    neither false h = (refl, h)

    flipped : bytes_eq name n ≡ false → bytes_eq n name ≡ false
    flipped e = by (bytes_eq n name) refl
      where
        by : (b : Bool) → bytes_eq n name ≡ b → b ≡ false
        by true h = sym ((bytes_eq-Decides name n).1 (sym ((bytes_eq-Decides n name).0 h))) ∙ e
        by false h = refl

    other : (xs : List (List ℕ)) → bytes_eq n name ≡ false → is_in n (xs ++ name ∷ []) ≡ is_in n xs
    other [] e = ap (λ b. b || false) e
    other (x ∷ xs) e = ap (λ b. bytes_eq n x || b) (other xs e)

    both : {a b : Bool} → a ≡ true → b ≡ true → (a && b) ≡ true
    both e f = cc
