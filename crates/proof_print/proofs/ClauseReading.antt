-- A clause's term as read is read as the clause, behind the table of its symbols.
use Rattle.std.proofs.Common.{◌≡◌, ℕ, zero, suc, ◌+◌, ◌^◌, ◌<◌, ◌≤◌, ◌⊎◌, Bool, true, false, List, [], ◌∷◌, ◌++◌, length, take, Option, Some, None, inl, inr, refl, sym, ap, ◌∙◌, subst, append_assoc, arith}
use Rattle.std.specs.Prelude.{◌==◌, ◌&&◌, ◌||◌, not, nat_lt, slice_get, get_or, is_some, unwrap_or, if◌then◌else◌, codes}
use Rattle.std.specs.Option.{option_map_or, option_map}
use Rattle.std.specs.Str.{bytes_eq}
use Rattle.std.proofs.lemmas.Bool.{cases_lt, and_parts, cond-true, cond-false, or_left, or_right, eq-eqb}
use Rattle.std.proofs.lemmas.Bool.Decides.{nat_tests}
use Rattle.std.proofs.lemmas.List.{length-append, take-append-le, take_all, append-nil}
use Rattle.std.proofs.lemmas.Option.{slice_get-get_or}
use Rattle.std.proofs.Math.Seq.{take-append_seam}
use Rattle.fol_core.specs.Bound.{has_symbol, have_symbol}
use Rattle.fol_core.specs.Fol.{Fol, verum, falsum, equal, atom, negation, conjunction, disjunction, implication, equivalence, forall, exists}
use Rattle.fol_core.specs.Free.{is_in, noted, joined, variables_of, variables_of_all}
use Rattle.fol_core.specs.Literals.{Lit, ClauseTree, literal, equality}
use Rattle.fol_core.specs.RawTree.{named, RawTrees, no_raws, more_raws}
use Rattle.fol_core.specs.Renumbered.{clause_variables}
use Rattle.fol_core.specs.SymbolTable.{Symbol, number_of, kind_at, entered, is_clash, is_same_kind, FindsEach}
use Rattle.fol_core.specs.Tree.{Tree, var, elem, app, Trees, none, more}
use Rattle.fol_core.specs.declared.symbols.Kind.{Kind}
use Rattle.fol_core.specs.declared.symbols.Kind.TheVariants.{Function, Relation}
use Rattle.fol_core.proofs.Variables.{joined_joined, once, once_joined}
use Rattle.ladr_formulas.specs.ClauseIn.{atom_in, literal_in, prepended, literals_in, clause_in}
use Rattle.ladr_formulas.specs.Formulas.{Reading, Made, meets, free_number, is_variable, is_free_name, with_variable, variable_number, reading_with_name, named_variable, with_symbol, symbol_number, arity_of, is_element, is_too_great, constant_as, term_of, terms_of, relation_of, sentence_as, under, is_denial, connective_of, by_connective, comparison, formula_in, formula_reading}
use Rattle.ladr_formulas.specs.declared.connectives.Connective.{Connective}
use Rattle.ladr_formulas.specs.declared.styles.Style.{Style}
use Rattle.ladr_lex.specs.declared.limits.TheConstants.{MOST_ARGUMENTS, MOST_ELEMENT}
use Rattle.ladr_lex.specs.Numeral.{is_numeral, limited_number_of}
use Rattle.ladr_lex.specs.declared.misuse.Misuse.TheVariants.{TwoKinds, UnfitAttribute, UnfitNumeral}
use Rattle.ladr_print.specs.ClauseText.{literal_raw, clause_raw}
use Rattle.ladr_print.specs.HasText.{many, IsSymbolOf, IsTermOver, AreOver, IsAtomOver, IsClauseOver}
use Rattle.ladr_print.specs.TermText.{Naming, clause_variable, symbol_name, term_raw, terms_raw}
use Rattle.ladr_print.proofs.Clausal.{below}
use Rattle.ladr_print.proofs.Letters.{name_free, first_variables, first_length, not_yet, found_there}
use Rattle.ladr_print.proofs.Rereading.{denial_read}
use Rattle.ladr_print.proofs.Upto.{upto, upto_length, not_in, noted_old}
use Rattle.proof_lines.specs.Literals.{joins_formulas}
use Rattle.proof_print.specs.Rereadable.{names_relation, ReadsAsItself, clause_uses, HasFunctions, HaveFunctions, IsAtomOfKinds, IsClauseOfKinds}

-- each variable of a clause is listed once
pub clause_once : (c : ClauseTree) → joined [] (clause_variables c) ≡ clause_variables c
clause_once [] = refl
clause_once (l ∷ c) = once_joined (variables_of l.atom) (clause_variables c) (once l.atom)

-- what is noted stands behind what was there
noted_more : (xs : List ℕ) (y : ℕ) → (zs : List ℕ) × (noted xs y ≡ xs ++ zs)
noted_more xs y = by (is_in y xs)
  where
    by : (b : Bool) → (zs : List ℕ) × ((if b then xs else xs ++ y ∷ []) ≡ xs ++ zs)
    by true = ([], sym (append-nil xs))
    by false = (y ∷ [], refl)

joined_more : (xs ys : List ℕ) → (zs : List ℕ) × (joined xs ys ≡ xs ++ zs)
joined_more xs [] = ([], sym (append-nil xs))
joined_more xs (y ∷ ys) =
    let a = noted_more xs y in
    let b = joined_more (noted xs y) ys in
    (a.0 ++ b.0, b.1 ∙ ap (λ (l : List ℕ). l ++ b.0) a.1 ∙ simp append_assoc)

-- the front of the first numbers are the first numbers
upto_front : (n k : ℕ) → k ≤ n → take k (upto n) ≡ upto k
upto_front zero zero h = refl
upto_front zero (suc k) h = absurd (omega arith)
upto_front (suc n) k h =
    elim (cases_lt n k) [
      | inl y ↦ (let e : k ≡ suc n = omega arith in
          ap (λ (j : ℕ). take j (upto (suc n))) e ∙ take_all (suc n) (upto (suc n)) (omega (arith, upto_length (suc n))) ∙ ap upto (sym e))
      | inr m ↦ (let i : k ≤ length (upto n) = omega (arith, upto_length n) in take-append-le k (upto n) (n ∷ []) i ∙ upto_front n k m)
    ]

pub upto_prefix : (xs zs : List ℕ) (n : ℕ) → xs ++ zs ≡ upto n → (xs ≡ upto (length xs)) × (length xs ≤ n)
upto_prefix xs zs n e =
    let size : length xs + length zs ≡ n = sym (length-append xs zs) ∙ ap length e ∙ upto_length n in
    let within : length xs ≤ n = omega arith in
    (sym (take-append_seam xs zs) ∙ ap (take (length xs)) e ∙ upto_front n (length xs) within, within)

pub same_numbers : (n m : ℕ) → upto n ≡ upto m → n ≡ m
same_numbers n m e = sym (upto_length n) ∙ ap length e ∙ upto_length m

-- a variable is old or the next one
data Comes (n x m : ℕ) : Type 0 where
  old : x < n → n ≡ m → Comes n x m
  next : x ≡ n → m ≡ suc n → Comes n x m

in_end : (xs : List ℕ) (x : ℕ) → is_in x (xs ++ x ∷ []) ≡ true
in_end [] x = grind (arith, nat_tests)
in_end (y ∷ ys) x = or_more (x == y) (is_in x (ys ++ x ∷ [])) (in_end ys x)
  where
    or_more : (a b : Bool) → b ≡ true → (a || b) ≡ true
    or_more true b h = refl
    or_more false b h = h

comes : (n x m : ℕ) → noted (upto n) x ≡ upto m → Comes n x m
comes n x m e =
    elim (cases_lt x n) [
      | inl y ↦ old y (same_numbers n m (sym (noted_old n x y) ∙ e))
      | inr k ↦ (let new : upto n ++ x ∷ [] ≡ upto m = sym (cond-false (is_in x (upto n)) _ _ (not_in n x k)) ∙ e in
          let size : suc n ≡ m = omega (arith, ap length new, length-append (upto n) (x ∷ []), upto_length n, upto_length m) in
          let there : x < m = below m x (sym (ap (is_in x) new) ∙ in_end (upto n) x) in
          next (omega arith) (sym size))
    ]

pub or_false : (a b : Bool) → (a || b) ≡ false → (a ≡ false) × (b ≡ false)
or_false true b h = absurd (cc)
or_false false b h = (refl, h)

pub not_true : (b : Bool) → not b ≡ true → b ≡ false
not_true true h = absurd (cc)
not_true false h = refl

module _ (st : Style) (plain : st.elements ≡ false) (T : List Symbol) (few : length T ≤ equality) (finds : FindsEach T) where
  abbrev v : Naming
  v = clause_variable st.prolog

  -- what is read behind the table, with the first n variables
  abbrev pub state : ℕ → Bool → Reading
  state n large = record { symbols = T; variables = first_variables st.prolog n; least = None; large = large }

  -- a symbol of the table is read as itself; so is each that passes a test
  abbrev pub IsOwn : ℕ → Type 0
  IsOwn s = (x : Symbol) → slice_get T s ≡ Some x → ReadsAsItself st x

  abbrev pub AreOwn : (ℕ → Bool) → Type 0
  AreOwn is_used = (s : ℕ) → s < length T → is_used s ≡ true → IsOwn s

  pub head_own : (s : ℕ) (ts : Trees) → s < length T → AreOwn (λ j. has_symbol j (app s ts)) → IsOwn s
  head_own s ts h u = u s h (or_left (s == s) (have_symbol s ts) (eq-eqb s s refl))

  pub rest_own : (s : ℕ) (ts : Trees) → AreOwn (λ j. has_symbol j (app s ts)) → AreOwn (λ j. have_symbol j ts)
  rest_own s ts u j h e = u j h (or_right (j == s) (have_symbol j ts) e)

  left_own : (p q : ℕ → Bool) → AreOwn (λ j. p j || q j) → AreOwn p
  left_own p q u j h e = u j h (or_left (p j) (q j) e)

  right_own : (p q : ℕ → Bool) → AreOwn (λ j. p j || q j) → AreOwn q
  right_own p q u j h e = u j h (or_right (p j) (q j) e)

  pub first_own : (l : Lit) (ls : List Lit) → AreOwn (clause_uses (l ∷ ls)) → AreOwn (λ j. has_symbol j l.atom)
  first_own l ls u = left_own (λ j. has_symbol j l.atom) (clause_uses ls) u

  pub others_own : (l : Lit) (ls : List Lit) → AreOwn (clause_uses (l ∷ ls)) → AreOwn (clause_uses ls)
  others_own l ls u = right_own (λ j. has_symbol j l.atom) (clause_uses ls) u

  -- a symbol of the table
  pub record Known (s n : ℕ) (kind : Kind) : Type 0 where
    pub found : Symbol
    pub at : slice_get T s ≡ Some found
    pub name : symbol_name T s ≡ found.name
    pub arity : found.arity ≡ n
    pub kind_is : found.kind ≡ kind
    pub itself : ReadsAsItself st found

  pub known : (s n : ℕ) (kind : Kind) → IsSymbolOf T s n → kind_at T s ≡ kind → IsOwn s → Known s n kind
  known s n kind h k o =
      let x : Symbol = get_or T s (record { name = []; arity = 0; kind = Function }) in
      let there : slice_get T s ≡ Some x = slice_get-get_or T s (record { name = []; arity = 0; kind = Function }) h.0 in
      let other : (s == equality) ≡ false = grind (arith, nat_tests, few, h.0) in
      record {
        found = x;
        at = there;
        name = cond-false (s == equality) _ _ other ∙ ap (λ (o : Option Symbol). option_map_or (λ y. y.name) o []) there;
        arity = sym (ap (λ (o : Option Symbol). option_map_or (λ y. y.arity) o 0) there) ∙ h.1;
        kind_is = sym (ap (λ (o : Option Symbol). option_map_or (λ y. y.kind) o Function) there) ∙ k;
        itself = o x there;
      }

  same_kind : (k : Kind) → not (is_same_kind k k) ≡ false
  same_kind Function = refl
  same_kind Relation = refl

  -- a symbol that is there changes nothing
  symbol_read : (s : ℕ) (x : Symbol) → slice_get T s ≡ Some x → ReadsAsItself st x → (n : ℕ) (large : Bool) →
      with_symbol x.name x.arity x.kind (state n large) ≡ state n (large || nat_lt MOST_ARGUMENTS x.arity)
  symbol_read s x there itself n large =
      let number : number_of T x.name x.arity ≡ Some s = finds s x there in
      let kind : kind_at T s ≡ x.kind = ap (λ (o : Option Symbol). option_map_or (λ y. y.kind) o Function) there in
      let clash : is_clash T x ≡ false =
      ap (λ (o : Option ℕ). option_map_or (λ i. not (is_same_kind (kind_at T i) x.kind)) o false) number
      ∙ ap (λ (k : Kind). not (is_same_kind k x.kind)) kind ∙ same_kind x.kind
      in
      let stays : entered T x ≡ T = ap (λ (o : Option ℕ). if is_some o then T else T ++ x ∷ []) number in
      let own = itself.no_attribute in
      (λ i. record (meets (own i) UnfitAttribute (meets (clash i) TwoKinds (state n large))) { symbols = stays i; large = large || nat_lt MOST_ARGUMENTS x.arity })

  known_read : (s m : ℕ) (kind : Kind) (k : Known s m kind) (n : ℕ) (large : Bool) →
      with_symbol (symbol_name T s) m kind (state n large) ≡ state n (large || nat_lt MOST_ARGUMENTS m)
  known_read s m kind k n large =
      (λ i. with_symbol (k.name i) (sym k.arity i) (sym k.kind_is i) (state n large)) ∙ symbol_read s k.found k.at k.itself n large
      ∙ ap (λ (j : ℕ). state n (large || nat_lt MOST_ARGUMENTS j)) k.arity

  known_number : (s m : ℕ) (kind : Kind) (k : Known s m kind) → unwrap_or (number_of T (symbol_name T s) m) 0 ≡ s
  known_number s m kind k =
      (λ i. unwrap_or (number_of T (k.name i) (sym k.arity i)) 0) ∙ ap (λ (o : Option ℕ). unwrap_or o 0) (finds s k.found k.at)

  no_element : (name : List ℕ) → is_element st name ≡ false
  no_element name = ap (λ (b : Bool). b && is_numeral name) plain

  pub arity_count : (ts : Trees) → arity_of (terms_raw T v ts) ≡ many ts
  arity_count none = refl
  arity_count (more t ts) = ap suc (arity_count ts)

  yes_variable : (name : List ℕ) (s : Reading) → is_variable st [] name ≡ true → named_variable st [] name s ≡ record { tree = Some (variable_number [] name s); reading = reading_with_name [] name s }
  unfolding named_variable
  yes_variable name s y = cond-true (is_variable st [] name) _ _ y

  no_variable : (name : List ℕ) (s : Reading) → is_variable st [] name ≡ false → named_variable st [] name s ≡ record { tree = None; reading = s }
  unfolding named_variable
  no_variable name s k = cond-false (is_variable st [] name) _ _ k

  abbrev TermRead : Tree → ℕ → ℕ → Bool → Type 0
  TermRead t n m large = (after : Bool) × (term_of st [] (state n large) (term_raw T v t) ≡ record { tree = t; reading = state m after })

  abbrev pub TermsRead : Trees → ℕ → ℕ → Bool → Type 0
  TermsRead ts n m large = (after : Bool) × (terms_of st [] (state n large) (terms_raw T v ts) ≡ record { tree = ts; reading = state m after })

  -- a variable
  variable_is : (x n : ℕ) (large : Bool) → term_of st [] (state n large) (term_raw T v (var x)) ≡ record { tree = var (variable_number [] (v x) (state n large)); reading = reading_with_name [] (v x) (state n large) }
  variable_is x n large = ap (λ (m : Made (Option ℕ)). constant_as st (v x) m.tree m.reading) (yes_variable (v x) (state n large) (name_free st x))

  numbered_as : (x n : ℕ) (large : Bool) (o : Option ℕ) → free_number 0 (first_variables st.prolog n) (v x) ≡ o →
      term_of st [] (state n large) (term_raw T v (var x))
      ≡ record { tree = var (unwrap_or o (length (first_variables st.prolog n))); reading = if is_some o then state n large else with_variable (v x) true (state n large) }
  numbered_as x n large o e =
      variable_is x n large
      ∙ ap (λ (p : Option ℕ). record { tree = var (unwrap_or p (length (first_variables st.prolog n))); reading = if is_some p then state n large else with_variable (v x) true (state n large) }) e

  old_read : (x n m : ℕ) (large : Bool) → n ≤ 2 ^ 64 → x < n → n ≡ m → TermRead (var x) n m large
  old_read x n m large size h e =
      (large, numbered_as x n large (Some x) (found_there st.prolog n x h size) ∙ ap (λ (k : ℕ). record { tree = var x; reading = state k large }) e)

  next_read : (x n m : ℕ) (large : Bool) → x < 2 ^ 64 → x ≡ n → m ≡ suc n → TermRead (var x) n m large
  next_read x n m large size h e = (
    large,
    numbered_as x n large None (not_yet st.prolog n x (omega arith) size)
        ∙ (λ i. record { tree = var (length_is i); reading = with_variable (v (h i)) true (state n large) })
        ∙ ap (λ (k : ℕ). record { tree = var x; reading = state k large }) (sym e),
  )
    where
      length_is : length (first_variables st.prolog n) ≡ x
      length_is = first_length st.prolog n ∙ sym h

  variable_read : (x n m : ℕ) (large : Bool) → m ≤ 2 ^ 64 → noted (upto n) x ≡ upto m → TermRead (var x) n m large
  variable_read x n m large size e =
      elim (comes n x m e) [
        | old h i ↦ old_read x n m large (omega (arith, size, i)) h i
        | next h i ↦ next_read x n m large (omega (arith, size, h, i)) h i
      ]

  -- a constant
  no_name : (s n : ℕ) (kind : Kind) (k : Known s n kind) → n ≡ 0 → is_variable st [] (symbol_name T s) ≡ false
  no_name s n kind k e = ap (is_free_name st) k.name ∙ k.itself.no_variable (k.arity ∙ e)

  constant_read : (s n : ℕ) (large : Bool) → IsSymbolOf T s 0 → kind_at T s ≡ Function → IsOwn s → TermRead (app s none) n n large
  constant_read s n large h f o =
      let k = known s 0 Function h f o in
      let name = symbol_name T s in
      let after = large || nat_lt MOST_ARGUMENTS 0 in (
        after,
        ap (λ (m : Made (Option ℕ)). constant_as st name m.tree m.reading) (no_variable name (state n large) (no_name s 0 Function k refl))
            ∙ cond-false (is_element st name) _ _ (no_element name)
            ∙ ap (λ (r : Reading). record { tree = app (symbol_number name 0 r) none; reading = r }) (known_read s 0 Function k n large)
            ∙ ap (λ (j : ℕ). record { tree = app j none; reading = state n after }) (known_number s 0 Function k),
      )

  not_great : (name : List ℕ) → is_too_great st name ≡ false
  not_great name = ap (λ (b : Bool). (b && is_numeral name) && nat_lt MOST_ELEMENT (limited_number_of name)) plain

  -- the first numbers between two lists of variables
  pub record Between (n : ℕ) (xs ys : List ℕ) (m : ℕ) : Type 0 where
    pub middle : ℕ
    pub front : joined (upto n) xs ≡ upto middle
    pub back : joined (upto middle) ys ≡ upto m
    pub within : middle ≤ m

  pub between : (n : ℕ) (xs ys : List ℕ) (m : ℕ) → joined (upto n) (joined xs ys) ≡ upto m → Between n xs ys m
  between n xs ys m e =
      let whole : joined (joined (upto n) xs) ys ≡ upto m = sym (joined_joined (upto n) xs ys) ∙ e in
      let behind = joined_more (joined (upto n) xs) ys in
      let prefix = upto_prefix (joined (upto n) xs) behind.0 m (sym behind.1 ∙ whole) in
      record {
        middle = length (joined (upto n) xs);
        front = prefix.0;
        back = ap (λ (zs : List ℕ). joined zs ys) (sym prefix.0) ∙ whole;
        within = prefix.1;
      }

  mutual
    term_read : (t : Tree) → IsTermOver T t → HasFunctions T t → AreOwn (λ j. has_symbol j t) → (n m : ℕ) (large : Bool) → m ≤ 2 ^ 64 → joined (upto n) (variables_of t) ≡ upto m → TermRead t n m large
    term_read (var x) h f u n m large size e = variable_read x n m large size e
    term_read (elem k) h f u n m large size e = absurd h
    term_read (app s none) h f u n m large size e =
        let r = constant_read s n large h.0 f.0 (head_own s none h.0.0 u) in (r.0, r.1 ∙ ap (λ (k : ℕ). record { tree = app s none; reading = state k r.0 }) (same_numbers n m e))
    term_read (app s (more t ts)) h f u n m large size e =
        let k = known s (suc (many ts)) Function h.0 f.0 (head_own s (more t ts) h.0.0 u) in
        let name = symbol_name T s in
        let xs = terms_raw T v (more t ts) in
        let count : arity_of xs ≡ suc (many ts) = arity_count (more t ts) in
        let after = large || nat_lt MOST_ARGUMENTS (suc (many ts)) in
        let begun : with_symbol name (arity_of xs) Function (meets (is_too_great st name) UnfitNumeral (state n large)) ≡ state n after =
        (λ i. with_symbol name (count i) Function (meets (not_great name i) UnfitNumeral (state n large))) ∙ known_read s (suc (many ts)) Function k n large
        in
        let rest = terms_read (more t ts) h.1 f.1 (rest_own s (more t ts) u) n m after size e in
        let F : Reading → Made Tree = λ z. let al = terms_of st [] z xs in record { tree = app (symbol_number name (arity_of xs) z) al.tree; reading = al.reading } in (
          rest.0,
          ap F begun
              ∙ ap (λ (al : Made Trees). record { tree = app (symbol_number name (arity_of xs) (state n after)) al.tree; reading = al.reading }) rest.1
              ∙ ap (λ (j : ℕ). record { tree = app j (more t ts); reading = state m rest.0 }) (ap (λ (j : ℕ). unwrap_or (number_of T name j) 0) count ∙ known_number s (suc (many ts)) Function k),
        )

    pub terms_read : (ts : Trees) → AreOver T ts → HaveFunctions T ts → AreOwn (λ j. have_symbol j ts) → (n m : ℕ) (large : Bool) → m ≤ 2 ^ 64 → joined (upto n) (variables_of_all ts) ≡ upto m → TermsRead ts n m large
    terms_read none h f u n m large size e = (large, ap (λ (k : ℕ). record { tree = none; reading = state k large }) (same_numbers n m e))
    terms_read (more t ts) h f u n m large size e =
        let b = between n (variables_of t) (variables_of_all ts) m e in
        let first = term_read t h.0 f.0 (left_own (λ j. has_symbol j t) (λ j. have_symbol j ts) u) n b.middle large (omega (arith, size, b.within)) b.front in
        let others = terms_read ts h.1 f.1 (right_own (λ j. has_symbol j t) (λ j. have_symbol j ts) u) b.middle m first.0 size b.back in
        let xs = terms_raw T v ts in (
          others.0,
          ap (λ (r : Made Tree). let o = terms_of st [] r.reading xs in record { tree = more r.tree o.tree; reading = o.reading }) first.1
              ∙ ap (λ (o : Made Trees). record { tree = more t o.tree; reading = o.reading }) others.1,
        )

  relation_read : (r : ℕ) (ts : Trees) → IsSymbolOf T r (many ts) → kind_at T r ≡ Relation → AreOver T ts → HaveFunctions T ts → AreOwn (λ j. has_symbol j (app r ts)) → (n m : ℕ) (large : Bool) → m ≤ 2 ^ 64 →
      joined (upto n) (variables_of_all ts) ≡ upto m →
      (after : Bool) × (relation_of st [] (symbol_name T r) (terms_raw T v ts) (state n large) ≡ record { tree = atom r ts; reading = state m after })
  relation_read r ts h kind over f u n m large size e =
      let k = known r (many ts) Relation h kind (head_own r ts h.0 u) in
      let name = symbol_name T r in
      let xs = terms_raw T v ts in
      let count : arity_of xs ≡ many ts = arity_count ts in
      let after = large || nat_lt MOST_ARGUMENTS (many ts) in
      let begun : with_symbol name (arity_of xs) Relation (meets (is_element st name) UnfitNumeral (state n large)) ≡ state n after =
      (λ i. with_symbol name (count i) Relation (meets (no_element name i) UnfitNumeral (state n large))) ∙ known_read r (many ts) Relation k n large
      in
      let rest = terms_read ts over f (rest_own r ts u) n m after size e in
      let F : Reading → Made Fol = λ z. let al = terms_of st [] z xs in record { tree = atom (symbol_number name (arity_of xs) z) al.tree; reading = al.reading } in (
        rest.0,
        ap F begun
            ∙ ap (λ (al : Made Trees). record { tree = atom (symbol_number name (arity_of xs) (state n after)) al.tree; reading = al.reading }) rest.1
            ∙ ap (λ (j : ℕ). record { tree = atom j ts; reading = state m rest.0 }) (ap (λ (j : ℕ). unwrap_or (number_of T name j) 0) count ∙ known_number r (many ts) Relation k),
      )

  -- a relation's name is read as one
  no_connective : (name : List ℕ) → joins_formulas name ≡ false → (connective_of name ≡ None) × (bytes_eq name (codes "!=") ≡ false)
  no_connective name h =
      let a = or_false _ _ h in
      let b = or_false _ _ a.0 in
      let c = or_false _ _ b.0 in
      let d = or_false _ _ c.0 in
      let e = or_false _ _ d.0 in
      let f = or_false _ _ e.0 in (
        cond-false (bytes_eq name (codes "&")) _ _ f.0 ∙ cond-false (bytes_eq name (codes "|")) _ _ f.1 ∙ cond-false (bytes_eq name (codes "->")) _ _ e.1
            ∙ cond-false (bytes_eq name (codes "<-")) _ _ d.1 ∙ cond-false (bytes_eq name (codes "<->")) _ _ c.1,
        b.1,
      )

  as_relation : (name : List ℕ) (xs : RawTrees) (z : Reading) → names_relation name (arity_of xs) ≡ true → (arity_of xs ≡ 0 → is_variable st [] name ≡ false) →
      formula_in st [] z (named name xs) ≡ relation_of st [] name xs z
  as_relation name no_raws z h free =
      let p = or_false (bytes_eq name (codes "$T")) (bytes_eq name (codes "$F")) (not_true _ (and_parts _ _ h).0) in
      ap (λ (m : Made (Option ℕ)). sentence_as st [] name m.tree m.reading) (no_variable name z (free refl))
      ∙ cond-false (bytes_eq name (codes "$T")) _ _ p.0 ∙ cond-false (bytes_eq name (codes "$F")) _ _ p.1
  as_relation name (more_raws t no_raws) z h free = cond-false (is_denial name) _ _ (not_true _ (and_parts _ _ h).0)
  as_relation name (more_raws t (more_raws u no_raws)) z h free =
      let parts = and_parts _ _ h in
      let p = no_connective name (not_true _ parts.0) in
      ap (λ (o : Option Connective). by_connective o (λ r. formula_in st [] r t) (λ r. formula_in st [] r u) (comparison st [] name t u) z) p.0
      ∙ cond-false (bytes_eq name (codes "=")) _ _ (not_true _ parts.1) ∙ cond-false (bytes_eq name (codes "!=")) _ _ p.1
  as_relation name (more_raws t (more_raws u (more_raws w ts))) z h free = refl

  -- an atom, a literal, a clause
  record AtomRead (a : Tree) (n m : ℕ) (large : Bool) : Type 0 where
    formula : Fol
    after : Bool
    read : formula_in st [] (state n large) (term_raw T v a) ≡ record { tree = formula; reading = state m after }
    positive : literal_in formula ≡ Some (literal true a)
    negative : atom_in false formula ≡ Some (literal false a)
    alone : literals_in formula ≡ Some (literal true a ∷ [])

  relation_atom : (r : ℕ) (ts : Trees) → IsSymbolOf T r (many ts) → kind_at T r ≡ Relation → AreOver T ts → HaveFunctions T ts → AreOwn (λ j. has_symbol j (app r ts)) → (n m : ℕ) (large : Bool) → m ≤ 2 ^ 64 →
      joined (upto n) (variables_of_all ts) ≡ upto m → AtomRead (app r ts) n m large
  relation_atom r ts h kind over f u n m large size e =
      let k = known r (many ts) Relation h kind (head_own r ts h.0 u) in
      let xs = terms_raw T v ts in
      let may : names_relation (symbol_name T r) (arity_of xs) ≡ true =
      (λ i. names_relation (k.name i) (arity_count ts i)) ∙ (λ i. names_relation k.found.name (sym k.arity i)) ∙ k.itself.relation k.kind_is
      in
      let one = relation_read r ts h kind over f u n m large size e in
      record {
        formula = atom r ts;
        after = one.0;
        read = as_relation (symbol_name T r) xs (state n large) may (λ e. no_name r (many ts) Relation k (sym (arity_count ts) ∙ e)) ∙ one.1;
        positive = refl;
        negative = refl;
        alone = refl;
      }

  equation_atom : (a b : Tree) → AreOver T (more a (more b none)) → HaveFunctions T (more a (more b none)) → AreOwn (λ j. have_symbol j (more a (more b none))) → (n m : ℕ) (large : Bool) → m ≤ 2 ^ 64 →
      joined (upto n) (variables_of_all (more a (more b none))) ≡ upto m → AtomRead (app equality (more a (more b none))) n m large
  equation_atom a b over f u n m large size e =
      let i = between n (variables_of a) (variables_of b) m e in
      let left = term_read a over.0 f.0 (left_own (λ j. has_symbol j a) (λ j. have_symbol j (more b none)) u) n i.middle large (omega (arith, size, i.within)) i.front in
      let later : AreOwn (λ j. have_symbol j (more b none)) = right_own (λ j. has_symbol j a) (λ j. have_symbol j (more b none)) u in
      let right = term_read b over.1.0 f.1.0 (left_own (λ j. has_symbol j b) (λ j. have_symbol j none) later) i.middle m left.0 size i.back in
      record {
        formula = equal a b;
        after = right.0;
        read =
            ap (λ (r : Made Tree). let o = term_of st [] r.reading (term_raw T v b) in record { tree = equal r.tree o.tree; reading = o.reading }) left.1
            ∙ ap (λ (o : Made Tree). record { tree = equal a o.tree; reading = o.reading }) right.1;
        positive = refl;
        negative = refl;
        alone = refl;
      }

  two_only : (ts : Trees) → many ts ≡ 2 → AreOver T ts → HaveFunctions T ts → AreOwn (λ j. have_symbol j ts) → (n m : ℕ) (large : Bool) → m ≤ 2 ^ 64 → joined (upto n) (variables_of_all ts) ≡ upto m → AtomRead (app equality ts) n m large
  two_only none h over f u n m large size e = absurd (omega arith)
  two_only (more a none) h over f u n m large size e = absurd (omega arith)
  two_only (more a (more b none)) h over f u n m large size e = equation_atom a b over f u n m large size e
  two_only (more a (more b (more c ts))) h over f u n m large size e = absurd (omega arith)

  pub no_equality : (n : ℕ) → n < length T → n ≡ equality → ⊥
  no_equality n h e = omega (arith, few, h, e)

  atom_read : (a : Tree) → IsAtomOver T a → IsAtomOfKinds T a → AreOwn (λ j. has_symbol j a) → (n m : ℕ) (large : Bool) → m ≤ 2 ^ 64 → joined (upto n) (variables_of a) ≡ upto m → AtomRead a n m large
  atom_read (var x) h k u n m large size e = absurd h
  atom_read (elem j) h k u n m large size e = absurd h
  atom_read (app r ts) h k u n m large size e = by h.0 k.0
    where
      by : (IsSymbolOf T r (many ts) ⊎ ((r ≡ equality) × (many ts ≡ 2))) → ((r ≡ equality) ⊎ (kind_at T r ≡ Relation)) → AtomRead (app r ts) n m large
      by (inl i) (inr kind) = relation_atom r ts i kind h.1 k.1 u n m large size e
      by (inl i) (inl is) = absurd (no_equality r i.0 is)
      by (inr i) kinds = subst (λ (s : ℕ). AtomRead (app s ts) n m large) (sym i.0) (two_only ts i.1 h.1 k.1 (rest_own r ts u) n m large size e)

  record LiteralRead (l : Lit) (n m : ℕ) (large : Bool) : Type 0 where
    formula : Fol
    after : Bool
    read : formula_in st [] (state n large) (literal_raw T v l) ≡ record { tree = formula; reading = state m after }
    one : literal_in formula ≡ Some l
    alone : literals_in formula ≡ Some (l ∷ [])

  literal_read : (positive : Bool) (a : Tree) → IsAtomOver T a → IsAtomOfKinds T a → AreOwn (λ j. has_symbol j a) → (n m : ℕ) (large : Bool) → m ≤ 2 ^ 64 → joined (upto n) (variables_of a) ≡ upto m → LiteralRead (literal positive a) n m large
  literal_read true a h k u n m large size e =
      let r = atom_read a h k u n m large size e in
      record { formula = r.formula; after = r.after; read = r.read; one = r.positive; alone = r.alone }
  literal_read false a h k u n m large size e =
      let r = atom_read a h k u n m large size e in
      record {
        formula = negation r.formula;
        after = r.after;
        read = denial_read st [] (state n large) (term_raw T v a) ∙ ap (under negation) r.read;
        one = r.negative;
        alone = ap (option_map (λ l. l ∷ [])) r.negative;
      }

  record LiteralsRead (c : ClauseTree) (n m : ℕ) (large : Bool) : Type 0 where
    formula : Fol
    after : Bool
    read : formula_in st [] (state n large) (clause_raw T v c) ≡ record { tree = formula; reading = state m after }
    are : literals_in formula ≡ Some c

  literals_read : (l : Lit) (ls : List Lit) → IsClauseOver T (l ∷ ls) → IsClauseOfKinds T (l ∷ ls) → AreOwn (clause_uses (l ∷ ls)) → (n m : ℕ) (large : Bool) → m ≤ 2 ^ 64 → joined (upto n) (clause_variables (l ∷ ls)) ≡ upto m → LiteralsRead (l ∷ ls) n m large
  literals_read l [] h k u n m large size e =
      let r = literal_read l.positive l.atom h.0 k.0 (first_own l [] u) n m large size e in
      record { formula = r.formula; after = r.after; read = r.read; are = r.alone }
  literals_read l (j ∷ ls) h k u n m large size e =
      let b = between n (variables_of l.atom) (clause_variables (j ∷ ls)) m e in
      let first = literal_read l.positive l.atom h.0 k.0 (first_own l (j ∷ ls) u) n b.middle large (omega (arith, size, b.within)) b.front in
      let others = literals_read j ls h.1 k.1 (others_own l (j ∷ ls) u) b.middle m first.after size b.back in
      record {
        formula = disjunction first.formula others.formula;
        after = others.after;
        read =
            ap (λ (r : Made Fol). under (disjunction r.tree) (formula_in st [] r.reading (clause_raw T v (j ∷ ls)))) first.read
            ∙ ap (under (disjunction first.formula)) others.read;
        are = (λ i. prepended (first.one i) (others.are i));
      }

  -- literals are a clause
  as_clause : (f : Fol) (c : ClauseTree) → literals_in f ≡ Some c → clause_in f ≡ Some c
  as_clause verum c h = h
  as_clause falsum c h = absurd (cc)
  as_clause (equal a b) c h = h
  as_clause (atom r ts) c h = h
  as_clause (negation f) c h = h
  as_clause (conjunction f g) c h = h
  as_clause (disjunction f g) c h = h
  as_clause (implication f g) c h = h
  as_clause (equivalence f g) c h = h
  as_clause (forall x f) c h = h
  as_clause (exists x f) c h = h

  false_free : (prolog : Bool) → is_free_name (record { elements = st.elements; prolog = prolog }) (codes "$F") ≡ false
  false_free true = refl
  false_free false = refl

  pub record ClauseRead (c : ClauseTree) (m : ℕ) : Type 0 where
    pub formula : Fol
    pub after : Bool
    pub read : formula_reading st T (clause_raw T v c) ≡ record { tree = formula; reading = state m after }
    pub is : clause_in formula ≡ Some c

  pub clause_read : (c : ClauseTree) (m : ℕ) → IsClauseOver T c → IsClauseOfKinds T c → AreOwn (clause_uses c) → m ≤ 2 ^ 64 → clause_variables c ≡ upto m → ClauseRead c m
  clause_read [] m h k u size e =
      record {
        formula = falsum;
        after = false;
        read = ap (λ (r : Made (Option ℕ)). sentence_as st [] (codes "$F") r.tree r.reading) (no_variable (codes "$F") (state 0 false) (false_free st.prolog))
            ∙ ap (λ (n : ℕ). record { tree = falsum; reading = state n false }) (same_numbers 0 m e);
        is = refl;
      }
  clause_read (l ∷ ls) m h k u size e =
      let r = literals_read l ls h k u 0 m false size (clause_once (l ∷ ls) ∙ e) in
      record { formula = r.formula; after = r.after; read = r.read; is = as_clause r.formula (l ∷ ls) r.are }
