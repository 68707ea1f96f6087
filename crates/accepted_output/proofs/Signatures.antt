-- The symbols that clauses of a problem may have, as a signature.
use Rattle.std.proofs.Common.{◌≡◌, ◌⊎◌, inl, inr, ℕ, suc, ◌<◌, ◌≤◌, ◌^◌, ◌==◌, Bool, true, false, ◌&&◌, ◌||◌, if◌then◌else◌, List, [], ◌∷◌, length, map, Option, Some, None, refl, sym, ap, ◌∙◌, subst, arith}
use Rattle.std.specs.Prelude.{nat_lt, unwrap_or}
use Rattle.std.specs.Option.{option_map}
use Rattle.std.proofs.lemmas.Bool.{and_from, and_parts, or_left, or_right, or_cases, eq-eqb, eqb-true, lt-ltb, ltb-true, le-ltb, false≢true}
use Rattle.fol_core.specs.Bound.{has_symbol, have_symbol}
use Rattle.fol_core.specs.Literals.{ClauseTree, literal, equality}
use Rattle.fol_core.specs.Renumbered.{clause_variables, place_in, by_place, renumbered}
use Rattle.fol_core.specs.Substitutions.{substitute, substitute_all}
use Rattle.fol_core.specs.SymbolTable.{Symbol, first_place, arity_at, kind_at, is_same_kind}
use Rattle.fol_core.specs.Tree.{Tree, var, elem, app, Trees, none, more}
use Rattle.fol_core.specs.declared.symbols.Kind.{Kind}
use Rattle.fol_core.specs.declared.symbols.Kind.TheVariants.{Function, Relation}
use Rattle.ladr_print.specs.HasText.{many, IsSymbolOf, IsTermOver, AreOver, IsAtomOver, IsClauseOver}
use Rattle.derivation_laws.specs.Signatures.{Signature, argument_count, IsTermIn, AreTermsIn, IsAtomIn, IsClauseIn}
use Rattle.proof_print.specs.Rereadable.{clause_uses, HasFunctions, HaveFunctions, IsAtomOfKinds, IsClauseOfKinds}

many_is : (ts : Trees) → many ts ≡ argument_count ts
many_is none = refl
many_is (more t ts) = ap suc (many_is ts)

same_kind : (a b : Kind) → a ≡ b → is_same_kind a b ≡ true
same_kind Function b e = ap (is_same_kind Function) (sym e)
same_kind Relation b e = ap (is_same_kind Relation) (sym e)

kind_same : (a b : Kind) → is_same_kind a b ≡ true → a ≡ b
kind_same Function Function e = refl
kind_same Function Relation e = absurd (false≢true e)
kind_same Relation Function e = absurd (false≢true e)
kind_same Relation Relation e = refl

-- the variables of terms are numbers of the machine
abbrev mutual
  HasShort : Tree → Type 0
  HasShort (var x) = x < 2 ^ 64
  HasShort (elem k) = Unit {0}
  HasShort (app s ts) = HaveShort ts

  HaveShort : Trees → Type 0
  HaveShort none = Unit {0}
  HaveShort (more t ts) = HasShort t × HaveShort ts

abbrev pub HasShortVariables : ClauseTree → Type 0
HasShortVariables [] = Unit {0}
HasShortVariables (l ∷ c) = HasShort l.atom × HasShortVariables c

-- the place of a number is one of the list's, or the first
place_short : (xs : List ℕ) (x : ℕ) → length xs ≤ 2 ^ 64 → place_in xs x < 2 ^ 64
place_short xs x few = by (first_place (λ y. x == y) xs) (found xs)
  where
    found : (zs : List ℕ) (m : ℕ) → first_place (λ z. x == z) zs ≡ Some m → m < length zs
    found [] m e = absurd (cc)
    found (z ∷ zs) m e = step (x == z) (first_place (λ w. x == w) zs) (found zs) e
      where
        step : (b : Bool) (o : Option ℕ) → ((k : ℕ) → o ≡ Some k → k < length zs) → (if b then Some 0 else option_map suc o) ≡ Some m → m < suc (length zs)
        step true o rest e = omega (arith, ap (λ p. unwrap_or p 0) e)
        step false None rest e = absurd (cc)
        step false (Some k) rest e = omega (arith, ap (λ p. unwrap_or p 0) e, rest k refl)

    by : (o : Option ℕ) → ((m : ℕ) → o ≡ Some m → m < length xs) → unwrap_or o 0 < 2 ^ 64
    by None h = omega arith
    by (Some m) h = omega (arith, h m refl, few)

module _ (xs : List ℕ) (few : length xs ≤ 2 ^ 64) where
  mutual
    put_short : (t : Tree) → HasShort (substitute (by_place xs) t)
    put_short (var x) = place_short xs x few
    put_short (elem k) = tt
    put_short (app s ts) = all_put_short ts

    all_put_short : (ts : Trees) → HaveShort (substitute_all (by_place xs) ts)
    all_put_short none = tt
    all_put_short (more t ts) = (put_short t, all_put_short ts)

  clause_put_short : (c : ClauseTree) → HasShortVariables (map (λ l. literal l.positive (substitute (by_place xs) l.atom)) c)
  clause_put_short [] = tt
  clause_put_short (l ∷ c) = (put_short l.atom, clause_put_short c)

-- a numbered clause with few variables has numbers of the machine
pub numbered_short : (c : ClauseTree) → renumbered c ≡ c → length (clause_variables c) ≤ 2 ^ 64 → HasShortVariables c
numbered_short c numbered few = subst HasShortVariables numbered (clause_put_short (clause_variables c) few c)

module _ (T : List Symbol) (used : ℕ → Bool) where
  -- a symbol of the table of this kind, with so many arguments, that is used
  abbrev stands : Kind → ℕ → ℕ → Bool
  stands kind s n = nat_lt s (length T) && (arity_at T s == n && (is_same_kind (kind_at T s) kind && used s))

  -- no elements; the functions of the table; its relations, and equality with two arguments
  abbrev pub signature_of : Signature
  signature_of = record {
    elements = λ k. false;
    functions = λ s n. stands Function s n;
    relations = λ s n. (s == equality && n == 2) || stands Relation s n;
  }

  record Stands (kind : Kind) (s n : ℕ) : Type 0 where
    within : s < length T
    arity : arity_at T s ≡ n
    kind_is : kind_at T s ≡ kind
    is_used : used s ≡ true

  stands_from : (kind : Kind) (s n : ℕ) → s < length T → arity_at T s ≡ n → kind_at T s ≡ kind → used s ≡ true → stands kind s n ≡ true
  stands_from kind s n within arity kind_is is_used =
      and_from (nat_lt s (length T)) _ (lt-ltb s (length T) within)
      (and_from (arity_at T s == n) _ (eq-eqb (arity_at T s) n arity) (and_from (is_same_kind (kind_at T s) kind) (used s) (same_kind (kind_at T s) kind kind_is) is_used))

  stands_to : (kind : Kind) (s n : ℕ) → stands kind s n ≡ true → Stands kind s n
  stands_to kind s n h =
      let a = and_parts (nat_lt s (length T)) (arity_at T s == n && (is_same_kind (kind_at T s) kind && used s)) h in
      let b = and_parts (arity_at T s == n) (is_same_kind (kind_at T s) kind && used s) a.1 in
      let c = and_parts (is_same_kind (kind_at T s) kind) (used s) b.1 in
      record { within = ltb-true s (length T) a.0; arity = eqb-true (arity_at T s) n b.0; kind_is = kind_same (kind_at T s) kind c.0; is_used = c.1 }

  -- each symbol of the table that a term has is used
  abbrev UsesOwn : (ℕ → Bool) → Type 0
  UsesOwn has = (s : ℕ) → has s ≡ true → s < length T → used s ≡ true

  mutual
    term_in : (t : Tree) → IsTermOver T t → HasFunctions T t → UsesOwn (λ s. has_symbol s t) → IsTermIn signature_of t
    term_in (var x) over kinds uses = tt
    term_in (elem k) over kinds uses = absurd over
    term_in (app f ts) over kinds uses = (
      stands_from Function f (argument_count ts) over.0.0 (over.0.1 ∙ many_is ts) kinds.0 (uses f (or_left (f == f) (have_symbol f ts) (eq-eqb f f refl)) over.0.0),
      terms_in ts over.1 kinds.1 (λ s e. uses s (or_right (s == f) (have_symbol s ts) e)),
    )

    terms_in : (ts : Trees) → AreOver T ts → HaveFunctions T ts → UsesOwn (λ s. have_symbol s ts) → AreTermsIn signature_of ts
    terms_in none over kinds uses = tt
    terms_in (more t ts) over kinds uses = (
      term_in t over.0 kinds.0 (λ s e. uses s (or_left (has_symbol s t) (have_symbol s ts) e)),
      terms_in ts over.1 kinds.1 (λ s e. uses s (or_right (has_symbol s t) (have_symbol s ts) e)),
    )

  mutual
    term_over : (t : Tree) → HasShort t → IsTermIn signature_of t → IsTermOver T t
    term_over (var x) short h = short
    term_over (elem k) short h = absurd (false≢true h)
    term_over (app f ts) short h = (let a = stands_to Function f (argument_count ts) h.0 in ((a.within, a.arity ∙ sym (many_is ts)), terms_over ts short h.1))

    terms_over : (ts : Trees) → HaveShort ts → AreTermsIn signature_of ts → AreOver T ts
    terms_over none short h = tt
    terms_over (more t ts) short h = (term_over t short.0 h.0, terms_over ts short.1 h.1)

  mutual
    term_kinds : (t : Tree) → IsTermIn signature_of t → HasFunctions T t
    term_kinds (var x) h = tt
    term_kinds (elem k) h = tt
    term_kinds (app f ts) h = ((stands_to Function f (argument_count ts) h.0).kind_is, terms_kinds ts h.1)

    terms_kinds : (ts : Trees) → AreTermsIn signature_of ts → HaveFunctions T ts
    terms_kinds none h = tt
    terms_kinds (more t ts) h = (term_kinds t h.0, terms_kinds ts h.1)

  mutual
    term_uses : (s : ℕ) (t : Tree) → IsTermIn signature_of t → has_symbol s t ≡ true → used s ≡ true
    term_uses s (var x) h e = absurd (false≢true e)
    term_uses s (elem k) h e = absurd (false≢true e)
    term_uses s (app f ts) h e = elim (or_cases (s == f) (have_symbol s ts) e) [
      | inl i ↦ ap used (eqb-true s f i) ∙ (stands_to Function f (argument_count ts) h.0).is_used
      | inr j ↦ terms_use s ts h.1 j
    ]

    terms_use : (s : ℕ) (ts : Trees) → AreTermsIn signature_of ts → have_symbol s ts ≡ true → used s ≡ true
    terms_use s none h e = absurd (false≢true e)
    terms_use s (more t ts) h e = elim (or_cases (has_symbol s t) (have_symbol s ts) e) [ inl i ↦ term_uses s t h.0 i | inr j ↦ terms_use s ts h.1 j ]

  module _ (few : length T ≤ equality) where
    -- atoms
    relation_in : (r : ℕ) (ts : Trees) → IsSymbolOf T r (many ts) ⊎ ((r ≡ equality) × (many ts ≡ 2)) → (r ≡ equality) ⊎ (kind_at T r ≡ Relation) → (r < length T → used r ≡ true)
        → ((r == equality && argument_count ts == 2) || stands Relation r (argument_count ts)) ≡ true
    relation_in r ts (inl own) (inl equal) uses = absurd (omega (arith, own.0, equal, few))
    relation_in r ts (inl own) (inr kind) uses = or_right (r == equality && argument_count ts == 2) _ (stands_from Relation r (argument_count ts) own.0 (own.1 ∙ many_is ts) kind (uses own.0))
    relation_in r ts (inr equal) kind uses = or_left (r == equality && argument_count ts == 2) _ (and_from (r == equality) (argument_count ts == 2) (eq-eqb r equality equal.0) (eq-eqb (argument_count ts) 2 (sym (many_is ts) ∙ equal.1)))

    atom_in : (t : Tree) → IsAtomOver T t → IsAtomOfKinds T t → UsesOwn (λ s. has_symbol s t) → IsAtomIn signature_of t
    atom_in (var x) over kinds uses = absurd over
    atom_in (elem k) over kinds uses = absurd over
    atom_in (app r ts) over kinds uses = (
      relation_in r ts over.0 kinds.0 (uses r (or_left (r == r) (have_symbol r ts) (eq-eqb r r refl))),
      terms_in ts over.1 kinds.1 (λ s e. uses s (or_right (s == r) (have_symbol s ts) e)),
    )

    pub clause_in : (c : ClauseTree) → IsClauseOver T c → IsClauseOfKinds T c → UsesOwn (clause_uses c) → IsClauseIn signature_of c
    clause_in [] over kinds uses = tt
    clause_in (l ∷ c) over kinds uses = (
      atom_in l.atom over.0 kinds.0 (λ s e. uses s (or_left (has_symbol s l.atom) (clause_uses c s) e)),
      clause_in c over.1 kinds.1 (λ s e. uses s (or_right (has_symbol s l.atom) (clause_uses c s) e)),
    )

    -- no relation and function are alike: equality is a relation alone
    no_variable : ((f n : ℕ) → signature_of.functions f n ≡ signature_of.relations f n) → ⊥
    no_variable same =
        let none : stands Function equality 2 ≡ false = ap (λ (b : Bool). b && (arity_at T equality == 2 && (is_same_kind (kind_at T equality) Function && used equality))) (le-ltb equality (length T) few) in
        let some : ((equality == equality && 2 == 2) || stands Relation equality 2) ≡ true = or_left (equality == equality && 2 == 2) (stands Relation equality 2) (and_from (equality == equality) (2 == 2) (eq-eqb equality equality refl) (eq-eqb 2 2 refl)) in
        false≢true (sym none ∙ same equality 2 ∙ some)

    -- a relation of the signature
    abbrev IsRelation : ℕ → ℕ → Type 0
    IsRelation r n = ((r ≡ equality) × (n ≡ 2)) ⊎ Stands Relation r n

    relation_is : (r n : ℕ) → ((r == equality && n == 2) || stands Relation r n) ≡ true → IsRelation r n
    relation_is r n h = elim (or_cases (r == equality && n == 2) (stands Relation r n) h) [
      | inl e ↦ (let parts = and_parts (r == equality) (n == 2) e in inl (eqb-true r equality parts.0, eqb-true n 2 parts.1))
      | inr s ↦ inr (stands_to Relation r n s)
    ]

    relation_over : (r : ℕ) (ts : Trees) → IsRelation r (argument_count ts) → IsSymbolOf T r (many ts) ⊎ ((r ≡ equality) × (many ts ≡ 2))
    relation_over r ts (inl e) = inr (e.0, many_is ts ∙ e.1)
    relation_over r ts (inr s) = inl (s.within, s.arity ∙ sym (many_is ts))

    relation_kind : (r n : ℕ) → IsRelation r n → (r ≡ equality) ⊎ (kind_at T r ≡ Relation)
    relation_kind r n (inl e) = inl e.0
    relation_kind r n (inr s) = inr s.kind_is

    relation_used : (r n : ℕ) → IsRelation r n → r < length T → used r ≡ true
    relation_used r n (inl e) within = absurd (omega (arith, e.0, within, few))
    relation_used r n (inr s) within = s.is_used

    atom_over : (t : Tree) → HasShort t → IsAtomIn signature_of t → IsAtomOver T t
    atom_over (var x) short h = no_variable h
    atom_over (elem k) short h = absurd (false≢true h)
    atom_over (app r ts) short h = (relation_over r ts (relation_is r (argument_count ts) h.0), terms_over ts short h.1)

    atom_kinds : (t : Tree) → IsAtomIn signature_of t → IsAtomOfKinds T t
    atom_kinds (var x) h = tt
    atom_kinds (elem k) h = tt
    atom_kinds (app r ts) h = (relation_kind r (argument_count ts) (relation_is r (argument_count ts) h.0), terms_kinds ts h.1)

    atom_uses : (s : ℕ) (t : Tree) → IsAtomIn signature_of t → has_symbol s t ≡ true → s < length T → used s ≡ true
    atom_uses s (var x) h e within = absurd (false≢true e)
    atom_uses s (elem k) h e within = absurd (false≢true e)
    atom_uses s (app r ts) h e within = elim (or_cases (s == r) (have_symbol s ts) e) [
      | inl i ↦ (let same = eqb-true s r i in ap used same ∙ relation_used r (argument_count ts) (relation_is r (argument_count ts) h.0) (subst (λ (n : ℕ). n < length T) same within))
      | inr j ↦ terms_use s ts h.1 j
    ]

    pub clause_over : (c : ClauseTree) → HasShortVariables c → IsClauseIn signature_of c → IsClauseOver T c
    clause_over [] short h = tt
    clause_over (l ∷ c) short h = (atom_over l.atom short.0 h.0, clause_over c short.1 h.1)

    pub clause_kinds : (c : ClauseTree) → IsClauseIn signature_of c → IsClauseOfKinds T c
    clause_kinds [] h = tt
    clause_kinds (l ∷ c) h = (atom_kinds l.atom h.0, clause_kinds c h.1)

    pub clause_own : (c : ClauseTree) → IsClauseIn signature_of c → UsesOwn (clause_uses c)
    clause_own [] h s e within = absurd (false≢true e)
    clause_own (l ∷ c) h s e within = elim (or_cases (has_symbol s l.atom) (clause_uses c s) e) [ inl i ↦ atom_uses s l.atom h.0 i within | inr j ↦ clause_own c h.1 s j within ]
