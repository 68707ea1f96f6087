-- What a term is read as behind a table it is read as behind one in which all that it enters stands.
use Rattle.std.proofs.Common.{◌≡◌, ℕ, suc, Bool, true, false, List, [], ◌∷◌, ◌++◌, length, drop, Option, Some, None, inl, inr, refl, sym, ap, ◌∙◌, subst}
use Rattle.std.specs.Prelude.{◌||◌, is_some, unwrap_or, nat_lt, if◌then◌else◌, not, codes}
use Rattle.std.specs.Option.{option_map_or}
use Rattle.std.specs.Str.{bytes_eq}
use Rattle.std.proofs.lemmas.Bool.{cases_Bool}
use Rattle.fol_core.specs.Fol.{Fol, verum, falsum, equal, atom, negation}
use Rattle.fol_core.specs.RawTree.{RawTree, named, quantified, RawTrees, no_raws, more_raws}
use Rattle.fol_core.specs.SymbolTable.{Symbol, symbol, number_of, kind_at, is_called, is_same_kind, entered, is_clash, KeepsNumbers}
use Rattle.fol_core.specs.Tree.{Tree, elem, app, none, more}
use Rattle.fol_core.specs.declared.symbols.Kind.{Kind}
use Rattle.fol_core.specs.declared.symbols.Kind.TheVariants.{Function, Relation}
use Rattle.fol_core.proofs.Places.{first_place-append, slice_get_last}
use Rattle.fol_core.proofs.SymbolLemmas.{symbol_there, number_of_push}
use Rattle.ladr_lex.specs.declared.limits.TheConstants.{MOST_ARGUMENTS}
use Rattle.ladr_lex.specs.Numeral.{limited_number_of}
use Rattle.ladr_lex.specs.declared.misuse.Misuse.{Misuse}
use Rattle.ladr_lex.specs.declared.misuse.Misuse.TheVariants.{TwoKinds, QuantifierInTerm, UnfitAttribute, UnfitNumeral}
use Rattle.ladr_formulas.specs.Formulas.{Reading, Made, Bound, meets, bound_number, free_number, is_variable, with_variable, variable_number, reading_with_name, named_variable, with_symbol, symbol_number, arity_of, is_too_great, is_element, constant_as, constant, term_of, terms_of, relation_of, sentence_as, sentence, equation_read, under, bound_by, is_denial, connective_of, connective_read, joined_by, by_connective, comparison, formula_in, unread, formula_reading}
use Rattle.ladr_formulas.specs.declared.connectives.Connective.{Connective}
use Rattle.ladr_formulas.specs.declared.connectives.Connective.TheVariants.{And, Or, IfThen, ThenIf, IfAndOnlyIf}
use Rattle.ladr_formulas.specs.declared.styles.Style.{Style}
use Rattle.ladr_formulas.proofs.Growing.{Grows, grows_term, grows_terms, grows_formula}

-- a table that keeps the numbers of another begins with it
begins : (a T : List Symbol) → KeepsNumbers a T → T ≡ a ++ drop (length a) T
begins [] T k = refl
begins (x ∷ a) [] k = absurd (let e = k 0 x refl in cc)
begins (x ∷ a) (y ∷ T) k =
    let e : Some y ≡ Some x = k 0 x refl in
    let f : y ≡ x = cc in
    (λ i. f i ∷ begins a T (λ n s h. k (suc n) s h) i)

-- what is found in a table is found in one that keeps its numbers
pub found : (a T : List Symbol) (name : List ℕ) (arity n : ℕ) → KeepsNumbers a T → number_of a name arity ≡ Some n → number_of T name arity ≡ Some n
found a T name arity n k h = ap (λ (t : List Symbol). number_of t name arity) (begins a T k) ∙ first_place-append (is_called name arity) a (drop (length a) T) n h

kind_found : (a T : List Symbol) (name : List ℕ) (arity n : ℕ) → KeepsNumbers a T → number_of a name arity ≡ Some n → kind_at T n ≡ kind_at a n
kind_found a T name arity n k h = ap (λ (o : Option Symbol). option_map_or (λ s. s.kind) o Function) (k n _ (symbol_there a name arity n h))

clash_of : (a : List Symbol) (x : Symbol) (n : ℕ) → number_of a x.name x.arity ≡ Some n → is_clash a x ≡ not (is_same_kind (kind_at a n) x.kind)
clash_of a x n h = ap (λ (o : Option ℕ). option_map_or (λ n. not (is_same_kind (kind_at a n) x.kind)) o false) h

same_kind : (k : Kind) → is_same_kind k k ≡ true
same_kind Function = refl
same_kind Relation = refl

-- a symbol that stands in the table is not entered anew, and clashes where it did
pub record Stands (a T : List Symbol) (x : Symbol) : Type 0 where
  pub clash : is_clash T x ≡ is_clash a x
  pub table : entered T x ≡ T
  pub number : number_of T x.name x.arity ≡ number_of (entered a x) x.name x.arity

stands_at : (T : List Symbol) (x : Symbol) (n : ℕ) → number_of T x.name x.arity ≡ Some n → entered T x ≡ T
stands_at T x n h = ap (λ (o : Option ℕ). if is_some o then T else T ++ x ∷ []) h

pub stands : (a T : List Symbol) (x : Symbol) → KeepsNumbers (entered a x) T → Stands a T x
stands a T x k = by (number_of a x.name x.arity) refl
  where
    by : (o : Option ℕ) → number_of a x.name x.arity ≡ o → Stands a T x
    by (Some n) h =
        let old : entered a x ≡ a = stands_at a x n h in
        let keeps : KeepsNumbers a T = subst (λ (t : List Symbol). KeepsNumbers t T) old k in
        let there = found a T x.name x.arity n keeps h in
        record {
          clash = clash_of T x n there ∙ ap (λ (kind : Kind). not (is_same_kind kind x.kind)) (kind_found a T x.name x.arity n keeps h) ∙ sym (clash_of a x n h);
          table = stands_at T x n there;
          number = there ∙ sym (ap (λ (t : List Symbol). number_of t x.name x.arity) old ∙ h);
        }
    by None h =
        let new : entered a x ≡ a ++ x ∷ [] = ap (λ (o : Option ℕ). if is_some o then a else a ++ x ∷ []) h in
        let keeps : KeepsNumbers (a ++ x ∷ []) T = subst (λ (t : List Symbol). KeepsNumbers t T) new k in
        let last : number_of (a ++ x ∷ []) x.name x.arity ≡ Some (length a) = number_of_push a x.name x.arity x.kind h in
        let there = found (a ++ x ∷ []) T x.name x.arity (length a) keeps last in
        let kind : kind_at T (length a) ≡ x.kind = ap (λ (o : Option Symbol). option_map_or (λ s. s.kind) o Function) (keeps (length a) x (slice_get_last a x)) in
        record {
          clash = clash_of T x (length a) there ∙ ap (λ (k : Kind). not (is_same_kind k x.kind)) kind ∙ ap not (same_kind x.kind)
              ∙ sym (ap (λ (o : Option ℕ). option_map_or (λ n. not (is_same_kind (kind_at a n) x.kind)) o false) h);
          table = stands_at T x (length a) there;
          number = there ∙ sym (ap (λ (t : List Symbol). number_of t x.name x.arity) new ∙ last);
        }

module _ (T : List Symbol) where
  -- the same reading behind the table
  abbrev pub into : Reading → Reading
  into s = record s { symbols = T }

  abbrev pub again : {A : Type 0} → Made A → Made A
  again m = record { tree = m.tree; reading = into m.reading }

  abbrev pub Keeps : Reading → Type 0
  Keeps s = KeepsNumbers s.symbols T

  abbrev pub Alike : {A : Type 0} → (Reading → Made A) → Type 0
  Alike f = (s : Reading) → Keeps (f s).reading → f (into s) ≡ again (f s)

  kept_before : (a b : Reading) → Grows a b → Keeps b → Keeps a
  kept_before a b g k n s h = k n s (g.symbols n s h)

  meets_into : (b : Bool) (row : Misuse) (s : Reading) → meets b row (into s) ≡ into (meets b row s)
  meets_into true row s = refl
  meets_into false row s = refl

  met_into : (a b : Bool) (table : List Symbol) (large : Bool) (s : Reading) →
      record (meets b UnfitAttribute (meets a TwoKinds (into s))) { symbols = T; large = large } ≡ into (record (meets b UnfitAttribute (meets a TwoKinds s)) { symbols = table; large = large })
  met_into true true table large s = refl
  met_into true false table large s = refl
  met_into false true table large s = refl
  met_into false false table large s = refl

  symbol_into : (name : List ℕ) (arity : ℕ) (kind : Kind) (s : Reading) → Keeps (with_symbol name arity kind s) → with_symbol name arity kind (into s) ≡ into (with_symbol name arity kind s)
  symbol_into name arity kind s k =
      let x : Symbol = symbol name arity kind in
      let is = stands s.symbols T x k in
      (λ i. record (meets (bytes_eq name (codes "#")) UnfitAttribute (meets (is.clash i) TwoKinds (into s))) { symbols = is.table i; large = s.large || nat_lt MOST_ARGUMENTS arity })
      ∙ met_into (is_clash s.symbols x) (bytes_eq name (codes "#")) (entered s.symbols x) (s.large || nat_lt MOST_ARGUMENTS arity) s

  number_into : (name : List ℕ) (arity : ℕ) (kind : Kind) (s : Reading) → Keeps (with_symbol name arity kind s) → symbol_number name arity (into (with_symbol name arity kind s)) ≡ symbol_number name arity (with_symbol name arity kind s)
  number_into name arity kind s k = ap (λ (o : Option ℕ). unwrap_or o 0) (stands s.symbols T (symbol name arity kind) k).number

  name_into : (scope : List Bound) (name : List ℕ) (s : Reading) → reading_with_name scope name (into s) ≡ into (reading_with_name scope name s)
  name_into scope name s =
      elim (cases_Bool (is_some (bound_number scope name) || is_some (free_number 0 s.variables name))) [
        | inl y ↦ rw y refl
        | inr n ↦ rw n refl
      ]

  named_into : (st : Style) (scope : List Bound) (name : List ℕ) (s : Reading) → named_variable st scope name (into s) ≡ again (named_variable st scope name s)
  unfolding named_variable
  named_into st scope name s =
      elim (cases_Bool (is_variable st scope name)) [
        | inl y ↦ rw y (λ i. record { tree = Some (variable_number scope name s); reading = name_into scope name s i })
        | inr n ↦ rw n refl
      ]

  either_into : {A : Type 0} (b : Bool) (f g : Reading → Made A) → Alike f → Alike g → Alike (λ s. if b then f s else g s)
  either_into true f g a c s k = a s k
  either_into false f g a c s k = c s k

  constant_as_into : (st : Style) (name : List ℕ) (o : Option ℕ) → Alike (constant_as st name o)
  constant_as_into st name (Some n) s k = refl
  constant_as_into st name None s k =
      either_into (is_element st name) (λ (r : Reading). record { tree = elem (limited_number_of name); reading = meets (is_too_great st name) UnfitNumeral r })
      (λ (r : Reading). record { tree = app (symbol_number name 0 (with_symbol name 0 Function r)) none; reading = with_symbol name 0 Function r })
      (λ r h i. record { tree = elem (limited_number_of name); reading = meets_into (is_too_great st name) UnfitNumeral r i })
      (λ r h. let w = symbol_into name 0 Function r h in
      let n = ap (symbol_number name 0) w ∙ number_into name 0 Function r h in
      λ i. record { tree = app (n i) none; reading = w i })
      s k

  constant_into : (st : Style) (scope : List Bound) (name : List ℕ) → Alike (constant st scope name)
  constant_into st scope name s k =
      let v = named_variable st scope name s in
      ap (λ (m : Made (Option ℕ)). constant_as st name m.tree m.reading) (named_into st scope name s) ∙ constant_as_into st name v.tree v.reading k

  mutual
    pub term_into : (st : Style) (scope : List Bound) (t : RawTree) → Alike (λ s. term_of st scope s t)
    term_into st scope (quantified q x t) s k = term_into st (record { name = x; number = length s.variables } ∷ scope) t (with_variable x false (meets true QuantifierInTerm s)) k
    term_into st scope (named name no_raws) s k = constant_into st scope name s k
    term_into st scope (named name (more_raws t ts)) s k =
        let arity = suc (arity_of ts) in
        let met = meets (is_too_great st name) UnfitNumeral s in
        let after = with_symbol name arity Function met in
        let keeps = kept_before after _ (grows_terms st scope after (more_raws t ts)) k in
        let w = ap (with_symbol name arity Function) (meets_into (is_too_great st name) UnfitNumeral s) ∙ symbol_into name arity Function met keeps in
        let n = ap (symbol_number name arity) w ∙ number_into name arity Function met keeps in
        let all = ap (λ (r : Reading). terms_of st scope r (more_raws t ts)) w ∙ terms_into st scope (more_raws t ts) after k in
        (λ i. record { tree = app (n i) (all i).tree; reading = (all i).reading })

    terms_into : (st : Style) (scope : List Bound) (ts : RawTrees) → Alike (λ s. terms_of st scope s ts)
    terms_into st scope no_raws s k = refl
    terms_into st scope (more_raws t ts) s k =
        let first = term_of st scope s t in
        let one = term_into st scope t s (kept_before first.reading _ (grows_terms st scope first.reading ts) k) in
        let rest = ap (λ (m : Made Tree). terms_of st scope m.reading ts) one ∙ terms_into st scope ts first.reading k in
        (λ i. record { tree = more (one i).tree (rest i).tree; reading = (rest i).reading })

  relation_into : (st : Style) (scope : List Bound) (name : List ℕ) (ts : RawTrees) → Alike (relation_of st scope name ts)
  relation_into st scope name ts s k =
      let arity = arity_of ts in
      let met = meets (is_element st name) UnfitNumeral s in
      let after = with_symbol name arity Relation met in
      let keeps = kept_before after _ (grows_terms st scope after ts) k in
      let w = ap (with_symbol name arity Relation) (meets_into (is_element st name) UnfitNumeral s) ∙ symbol_into name arity Relation met keeps in
      let n = ap (symbol_number name arity) w ∙ number_into name arity Relation met keeps in
      let all = ap (λ (r : Reading). terms_of st scope r ts) w ∙ terms_into st scope ts after k in
      (λ i. record { tree = atom (n i) (all i).tree; reading = (all i).reading })

  sentence_as_into : (st : Style) (scope : List Bound) (name : List ℕ) (o : Option ℕ) → Alike (sentence_as st scope name o)
  sentence_as_into st scope name (Some n) s k = refl
  sentence_as_into st scope name None s k =
      either_into (bytes_eq name (codes "$T")) (λ (r : Reading). record { tree = verum; reading = r })
      (λ (r : Reading). if bytes_eq name (codes "$F") then record { tree = falsum; reading = r } else relation_of st scope name no_raws r)
      (λ r h. refl)
      (either_into (bytes_eq name (codes "$F")) (λ (r : Reading). record { tree = falsum; reading = r }) (relation_of st scope name no_raws) (λ r h. refl) (relation_into st scope name no_raws))
      s k

  sentence_into : (st : Style) (scope : List Bound) (name : List ℕ) → Alike (sentence st scope name)
  sentence_into st scope name s k =
      let v = named_variable st scope name s in
      ap (λ (m : Made (Option ℕ)). sentence_as st scope name m.tree m.reading) (named_into st scope name s) ∙ sentence_as_into st scope name v.tree v.reading k

  equation_into : (st : Style) (scope : List Bound) (t u : RawTree) → Alike (equation_read st scope t u)
  equation_into st scope t u s k =
      let left = term_of st scope s t in
      let one = term_into st scope t s (kept_before left.reading _ (grows_term st scope left.reading u) k) in
      let rest = ap (λ (m : Made Tree). term_of st scope m.reading u) one ∙ term_into st scope u left.reading k in
      (λ i. record { tree = equal (one i).tree (rest i).tree; reading = (rest i).reading })

  comparison_into : (st : Style) (scope : List Bound) (name : List ℕ) (t u : RawTree) → Alike (comparison st scope name t u)
  comparison_into st scope name t u s k =
      let other = relation_of st scope name (more_raws t (more_raws u no_raws)) in
      either_into (bytes_eq name (codes "=")) (equation_read st scope t u) (λ (r : Reading). if bytes_eq name (codes "!=") then under negation (equation_read st scope t u r) else other r)
      (equation_into st scope t u)
      (either_into (bytes_eq name (codes "!=")) (λ (r : Reading). under negation (equation_read st scope t u r)) other
      (λ r h. ap (under negation) (equation_into st scope t u r h)) (relation_into st scope name (more_raws t (more_raws u no_raws))))
      s k

  joined_into : (join : Fol → Fol → Fol) (f g : Reading → Made Fol) → Alike f → Alike g → ((r : Reading) → Grows r (g r).reading) → Alike (connective_read join f g)
  joined_into join f g a b grows s k =
      let one = a s (kept_before (f s).reading _ (grows (f s).reading) k) in
      ap (λ (m : Made Fol). under (join m.tree) (g m.reading)) one ∙ ap (under (join (f s).tree)) (b (f s).reading k)

  connective_into : (o : Option Connective) (f g c : Reading → Made Fol) → Alike f → Alike g → Alike c → ((r : Reading) → Grows r (f r).reading) → ((r : Reading) → Grows r (g r).reading)
      → Alike (by_connective o f g c)
  connective_into None f g c a b d h l s k = d s k
  connective_into (Some And) f g c a b d h l s k = joined_into (joined_by And) f g a b l s k
  connective_into (Some Or) f g c a b d h l s k = joined_into (joined_by Or) f g a b l s k
  connective_into (Some IfThen) f g c a b d h l s k = joined_into (joined_by IfThen) f g a b l s k
  connective_into (Some ThenIf) f g c a b d h l s k = joined_into (joined_by ThenIf) g f b a h s k
  connective_into (Some IfAndOnlyIf) f g c a b d h l s k = joined_into (joined_by IfAndOnlyIf) f g a b l s k

  formula_into : (st : Style) (scope : List Bound) (t : RawTree) → Alike (λ s. formula_in st scope s t)
  formula_into st scope (quantified q x t) s k =
      ap (under (bound_by q (length s.variables))) (formula_into st (record { name = x; number = length s.variables } ∷ scope) t (with_variable x false s) k)
  formula_into st scope (named name no_raws) s k = sentence_into st scope name s k
  formula_into st scope (named name (more_raws t no_raws)) s k =
      either_into (is_denial name) (λ (r : Reading). under negation (formula_in st scope r t)) (relation_of st scope name (more_raws t no_raws))
      (λ r h. ap (under negation) (formula_into st scope t r h)) (relation_into st scope name (more_raws t no_raws)) s k
  formula_into st scope (named name (more_raws t (more_raws u no_raws))) s k =
      connective_into (connective_of name) (λ r. formula_in st scope r t) (λ r. formula_in st scope r u) (comparison st scope name t u)
      (formula_into st scope t) (formula_into st scope u) (comparison_into st scope name t u) (grows_formula st scope t) (grows_formula st scope u) s k
  formula_into st scope (named name (more_raws t (more_raws u (more_raws w ts)))) s k = relation_into st scope name (more_raws t (more_raws u (more_raws w ts))) s k

  pub read_behind : (st : Style) (table : List Symbol) (t : RawTree) → KeepsNumbers (formula_reading st table t).reading.symbols T →
      formula_reading st T t ≡ record { tree = (formula_reading st table t).tree; reading = record (formula_reading st table t).reading { symbols = T } }
  read_behind st table t k = formula_into st [] t (unread table) k
