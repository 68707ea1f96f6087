-- A term is read alike behind the table of its symbols and behind a part of it.
use Rattle.std.proofs.Common.{◌≡◌, ℕ, suc, Bool, true, false, List, [], ◌∷◌, ◌++◌, length, drop, Option, Some, None, inl, inr, slice_get, refl, sym, ap, ap₂, ◌∙◌, subst, arith}
use Rattle.std.specs.Prelude.{◌||◌, is_some, unwrap_or, nat_lt, if◌then◌else◌, not, codes}
use Rattle.std.specs.Option.{option_map_or}
use Rattle.std.specs.Str.{bytes_eq}
use Rattle.std.proofs.lemmas.Bool.{cases_Bool}
use Rattle.std.proofs.lemmas.List.{append-nil, length-append}
use Rattle.fol_core.specs.Fol.{Fol, verum, falsum, equal, atom, negation}
use Rattle.fol_core.specs.RawTree.{RawTree, named, quantified, RawTrees, no_raws, more_raws}
use Rattle.fol_core.specs.SymbolTable.{Symbol, symbol, number_of, kind_at, is_same_kind, entered, is_clash, FindsEach, KeepsNumbers}
use Rattle.fol_core.specs.Tree.{var, elem, app, none, more}
use Rattle.fol_core.specs.declared.raw.Quantifier.{Quantifier}
use Rattle.fol_core.specs.declared.raw.Quantifier.TheVariants.{All, Exists}
use Rattle.fol_core.specs.declared.symbols.Kind.{Kind}
use Rattle.fol_core.specs.declared.symbols.Kind.TheVariants.{Function, Relation}
use Rattle.fol_core.proofs.SymbolLemmas.{symbol_there}
use Rattle.ladr_lex.specs.declared.limits.TheConstants.{MOST_ARGUMENTS}
use Rattle.ladr_lex.specs.Numeral.{limited_number_of}
use Rattle.ladr_lex.specs.declared.misuse.Misuse.{Misuse}
use Rattle.ladr_lex.specs.declared.misuse.Misuse.TheVariants.{TwoKinds, VariableAsFormula, QuantifierInTerm, UnfitAttribute, UnfitNumeral}
use Rattle.ladr_formulas.specs.Formulas.{Reading, Made, Bound, meets, bound_number, free_number, is_variable, with_variable, variable_number, reading_with_name, named_variable, with_symbol, symbol_number, arity_of, is_too_great, is_element, constant_as, constant, term_of, terms_of, relation_of, sentence_as, sentence, equation_read, under, bound_by, is_denial, connective_of, connective_read, joined_by, by_connective, comparison, formula_in, unread}
use Rattle.ladr_formulas.specs.declared.connectives.Connective.{Connective}
use Rattle.ladr_formulas.specs.declared.connectives.Connective.TheVariants.{And, Or, IfThen, ThenIf, IfAndOnlyIf}
use Rattle.ladr_formulas.specs.declared.styles.Style.{Style}
use Rattle.ladr_formulas.proofs.Growing.{Grows, beyond, grows_meets, grows_symbol, grows_named, grows_constant_as, grows_term, grows_terms, grows_sentence_as, grows_formula}
use Rattle.derivation_laws.specs.Moved.{Moving, moved_term, moved_terms, moved_formula}
use Rattle.derivation_laws.specs.Tables.{StandsIn, IsWithinTable, LeadsTo}
use Rattle.derivation_laws.proofs.MovedTables.{Entered, enters}
use Rattle.printed_proofs.specs.ReadBehind.{behind, IsReadBehind, TermsAreReadBehind}

-- tables that keep each other's numbers are one
begins : (a T : List Symbol) → KeepsNumbers a T → T ≡ a ++ drop (length a) T
begins [] T k = refl
begins (x ∷ a) [] k = absurd (let e = k 0 x refl in cc)
begins (x ∷ a) (y ∷ T) k =
    let e : Some y ≡ Some x = k 0 x refl in
    let f : y ≡ x = cc in
    (λ i. f i ∷ begins a T (λ n s h. k (suc n) s h) i)

pub between : (a b T : List Symbol) → KeepsNumbers T a → KeepsNumbers a b → b ≡ T → a ≡ T
between a b T h k e =
    let keeps : KeepsNumbers a T = subst (λ (t : List Symbol). KeepsNumbers a t) e k in
    let one : a ≡ T ++ drop (length T) a = begins T a h in
    let two : T ≡ a ++ drop (length a) T = begins a T keeps in
    let lengths : length (drop (length T) a) ≡ 0 = omega (arith, ap length one, ap length two, length-append T (drop (length T) a), length-append a (drop (length a) T)) in
    one ∙ nothing (drop (length T) a) lengths
  where
    nothing : (ds : List Symbol) → length ds ≡ 0 → T ++ ds ≡ T
    nothing [] e = append-nil T
    nothing (d ∷ ds) e = absurd (omega (arith, e))

-- a clash is told
unclashing : (a b : Bool) (s : Reading) → (meets b UnfitAttribute (meets a TwoKinds s)).least ≡ None → a ≡ false
unclashing true true s h = absurd (cc)
unclashing true false s h = absurd (cc)
unclashing false b s h = refl

one_kind : (k l : Kind) → not (is_same_kind k l) ≡ false → k ≡ l
one_kind Function Function h = refl
one_kind Function Relation h = absurd (cc)
one_kind Relation Function h = absurd (cc)
one_kind Relation Relation h = refl

module _ (T : List Symbol) (once : FindsEach T) where
  -- a symbol that a table takes in without change stands in it
  stands : (x : Symbol) → entered T x ≡ T → is_clash T x ≡ false → StandsIn T x
  stands x stays clash = by (number_of T x.name x.arity) refl
    where
      by : (o : Option ℕ) → number_of T x.name x.arity ≡ o → StandsIn T x
      by None h =
          let new : T ++ x ∷ [] ≡ T = sym (ap (λ (o : Option ℕ). if is_some o then T else T ++ x ∷ []) h) ∙ stays in
          absurd (omega (arith, ap length new, length-append T (x ∷ [])))
      by (Some n) h =
          let kind : kind_at T n ≡ x.kind = one_kind (kind_at T n) x.kind
          (sym (ap (λ (o : Option ℕ). option_map_or (λ n. not (is_same_kind (kind_at T n) x.kind)) o false) h) ∙ clash) in
          (n, symbol_there T x.name x.arity n h ∙ ap (λ (k : Kind). Some (symbol x.name x.arity k)) kind)

  -- where a reading stands, and where it ends
  record Stays (s e : Reading) : Type 0 where
    begin : s.symbols ≡ T
    end : e.symbols ≡ T
    sound : e.least ≡ None

  stays_front : (s a e : Reading) → Grows s a → Grows a e → Stays s e → Stays s a
  stays_front s a e g h k = record {
    begin = k.begin;
    end = between a.symbols e.symbols T (λ n x i. g.symbols n x (subst (λ (t : List Symbol). slice_get t n ≡ Some x) (sym k.begin) i)) h.symbols k.end;
    sound = h.sound k.sound;
  }

  stays_back : (s a e : Reading) → Grows s a → Grows a e → Stays s e → Stays a e
  stays_back s a e g h k = record { begin = (stays_front s a e g h k).end; end = k.end; sound = k.sound }

  abbrev Passes : {A : Type 0} → (Moving → A → A) → (Reading → Made A) → Type 0
  Passes move f = (s : Reading) (C : List Symbol) → Stays s (f s).reading → FindsEach C → IsWithinTable C T → IsReadBehind T move (f s) (f (behind C s))

  meets_behind : (C : List Symbol) (b : Bool) (row : Misuse) (s : Reading) → meets b row (behind C s) ≡ behind C (meets b row s)
  meets_behind C true row s = refl
  meets_behind C false row s = refl

  met_behind : (C D table : List Symbol) (a b : Bool) (large : Bool) (s : Reading) →
      record (meets b UnfitAttribute (meets a TwoKinds (behind C s))) { symbols = D; large = large } ≡ behind D (record (meets b UnfitAttribute (meets a TwoKinds s)) { symbols = table; large = large })
  met_behind C D table true true large s = refl
  met_behind C D table true false large s = refl
  met_behind C D table false true large s = refl
  met_behind C D table false false large s = refl

  -- a symbol
  module _ (name : List ℕ) (arity : ℕ) (kind : Kind) (s : Reading) (C : List Symbol) where
    record SymbolRead : Type 0 where
      same : with_symbol name arity kind (behind C s) ≡ behind (entered C (symbol name arity kind)) (with_symbol name arity kind s)
      finds : FindsEach (entered C (symbol name arity kind))
      within : IsWithinTable (entered C (symbol name arity kind)) T
      number : (last : List Symbol) (to back : Moving) → LeadsTo T last to back → KeepsNumbers (entered C (symbol name arity kind)) last
          → symbol_number name arity (behind (entered C (symbol name arity kind)) (with_symbol name arity kind s)) ≡ to (symbol_number name arity (with_symbol name arity kind s))

    symbol_read : Stays s (with_symbol name arity kind s) → FindsEach C → IsWithinTable C T → SymbolRead
    symbol_read k finds within =
        let x = symbol name arity kind in
        let clash : is_clash s.symbols x ≡ false = unclashing (is_clash s.symbols x) (bytes_eq name (codes "#")) s k.sound in
        let stand = stands x (ap (λ (t : List Symbol). entered t x) (sym k.begin) ∙ k.end) (ap (λ (t : List Symbol). is_clash t x) (sym k.begin) ∙ clash) in
        let in_C : Entered T once C x = enters T once C finds within x stand in
        record {
          same = ap (λ (b : Bool). record (meets (bytes_eq name (codes "#")) UnfitAttribute (meets b TwoKinds (behind C s))) { symbols = entered C x; large = s.large || nat_lt MOST_ARGUMENTS arity }) (in_C.unclashing ∙ sym clash)
              ∙ met_behind C (entered C x) (entered s.symbols x) (is_clash s.symbols x) (bytes_eq name (codes "#")) (s.large || nat_lt MOST_ARGUMENTS arity) s;
          finds = in_C.finds;
          within = in_C.within;
          number = λ last to back leads keeps.
              let here : unwrap_or (number_of (entered s.symbols x) name arity) 0 ≡ stand.0 =
              ap (λ (t : List Symbol). unwrap_or (number_of t name arity) 0) k.end ∙ ap (λ (o : Option ℕ). unwrap_or o 0) (once stand.0 x stand.1) in
              ap (λ (o : Option ℕ). unwrap_or o 0) in_C.at ∙ sym (leads.same stand.0 in_C.number x stand.1 (keeps in_C.number x in_C.there)) ∙ ap to (sym here);
        }

  name_behind : (C : List Symbol) (scope : List Bound) (name : List ℕ) (s : Reading) → reading_with_name scope name (behind C s) ≡ behind C (reading_with_name scope name s)
  name_behind C scope name s =
      elim (cases_Bool (is_some (bound_number scope name) || is_some (free_number 0 s.variables name))) [
        | inl y ↦ rw y refl
        | inr n ↦ rw n refl
      ]

  named_behind : (C : List Symbol) (st : Style) (scope : List Bound) (name : List ℕ) (s : Reading)
      → named_variable st scope name (behind C s) ≡ record { tree = (named_variable st scope name s).tree; reading = behind C (named_variable st scope name s).reading }
  unfolding named_variable
  named_behind C st scope name s =
      elim (cases_Bool (is_variable st scope name)) [
        | inl y ↦ rw y (λ i. record { tree = Some (variable_number scope name s); reading = name_behind C scope name s i })
        | inr n ↦ rw n refl
      ]

  -- nothing of the table is looked at
  unmoved : {A : Type 0} (move : Moving → A → A) (m : Made A) (C : List Symbol) → FindsEach C → IsWithinTable C T → ((to : Moving) → m.tree ≡ move to m.tree)
      → IsReadBehind T move m (record { tree = m.tree; reading = behind C m.reading })
  unmoved move m C finds within h = record { same = refl; finds = finds; within = within; tree = λ last to back leads keeps. h to }

  either_passes : {A : Type 0} (move : Moving → A → A) (b : Bool) (f g : Reading → Made A) → Passes move f → Passes move g → Passes move (λ s. if b then f s else g s)
  either_passes move true f g h k s C stays finds within = h s C stays finds within
  either_passes move false f g h k s C stays finds within = k s C stays finds within

  symbol_passes : (name : List ℕ) → Passes moved_term (λ s. record { tree = app (symbol_number name 0 (with_symbol name 0 Function s)) none; reading = with_symbol name 0 Function s })
  symbol_passes name s C stays finds within =
      let r = symbol_read name 0 Function s C stays finds within in
      subst (λ (w : Reading). IsReadBehind T moved_term (record { tree = app (symbol_number name 0 (with_symbol name 0 Function s)) none; reading = with_symbol name 0 Function s })
      (record { tree = app (symbol_number name 0 w) none; reading = w })) (sym r.same)
      (record { same = refl; finds = r.finds; within = r.within; tree = λ last to back leads keeps. ap (λ n. app n none) (r.number last to back leads keeps) })

  constant_as_passes : (st : Style) (name : List ℕ) (o : Option ℕ) → Passes moved_term (constant_as st name o)
  constant_as_passes st name (Some n) s C stays finds within = unmoved moved_term (record { tree = var n; reading = s }) C finds within (λ to. refl)
  constant_as_passes st name None s C stays finds within =
      either_passes moved_term (is_element st name)
      (λ (r : Reading). record { tree = elem (limited_number_of name); reading = meets (is_too_great st name) UnfitNumeral r })
      (λ (r : Reading). record { tree = app (symbol_number name 0 (with_symbol name 0 Function r)) none; reading = with_symbol name 0 Function r })
      (λ r D st_ fi wi. subst (λ (w : Reading). IsReadBehind T moved_term (record { tree = elem (limited_number_of name); reading = meets (is_too_great st name) UnfitNumeral r }) (record { tree = elem (limited_number_of name); reading = w }))
      (sym (meets_behind D (is_too_great st name) UnfitNumeral r))
      (unmoved moved_term (record { tree = elem (limited_number_of name); reading = meets (is_too_great st name) UnfitNumeral r }) D fi wi (λ to. refl)))
      (symbol_passes name)
      s C stays finds within

  constant_passes : (st : Style) (scope : List Bound) (name : List ℕ) → Passes moved_term (constant st scope name)
  constant_passes st scope name s C stays finds within =
      let v = named_variable st scope name s in
      let back = stays_back s v.reading (constant_as st name v.tree v.reading).reading (grows_named st scope name s) (grows_constant_as st name v.tree v.reading) stays in
      subst (λ (m : Made (Option ℕ)). IsReadBehind T moved_term (constant st scope name s) (constant_as st name m.tree m.reading)) (sym (named_behind C st scope name s))
      (constant_as_passes st name v.tree v.reading C back finds within)

  -- the numbers of a part are kept by what is read behind it
  keeps_on : (a b : Reading) (last : List Symbol) → Grows a b → KeepsNumbers b.symbols last → KeepsNumbers a.symbols last
  keeps_on a b last g k n x h = k n x (g.symbols n x h)

  mutual
    term_passes : (st : Style) (scope : List Bound) (t : RawTree) → Passes moved_term (λ s. term_of st scope s t)
    term_passes st scope (quantified q x t) s C stays finds within =
        let inner = with_variable x false (meets true QuantifierInTerm s) in
        let all = term_of st (record { name = x; number = length s.variables } ∷ scope) inner t in
        term_passes st (record { name = x; number = length s.variables } ∷ scope) t inner C (record { begin = stays.begin; end = stays.end; sound = stays.sound }) finds within
    term_passes st scope (named name no_raws) s C stays finds within = constant_passes st scope name s C stays finds within
    term_passes st scope (named name (more_raws t ts)) s C stays finds within =
        let arity = suc (arity_of ts) in
        let met = meets (is_too_great st name) UnfitNumeral s in
        let after = with_symbol name arity Function met in
        let all = terms_of st scope after (more_raws t ts) in
        let g = grows_meets (is_too_great st name) UnfitNumeral s in
        let h = grows_symbol name arity Function met in
        let k = grows_terms st scope after (more_raws t ts) in
        let from_met = stays_back s met all.reading g (beyond met after all.reading h k) stays in
        let to_after = stays_front met after all.reading h k from_met in
        let from_after = stays_back met after all.reading h k from_met in
        let r = symbol_read name arity Function met C to_after finds within in
        let D = entered C (symbol name arity Function) in
        let w = ap (with_symbol name arity Function) (meets_behind C (is_too_great st name) UnfitNumeral s) ∙ r.same in
        let rest = terms_passes st scope (more_raws t ts) after D from_after r.finds r.within in
        let grown = grows_terms st scope (behind D after) (more_raws t ts) in
        subst (λ (v : Reading). IsReadBehind T moved_term (record { tree = app (symbol_number name arity after) all.tree; reading = all.reading })
        (record { tree = app (symbol_number name arity v) (terms_of st scope v (more_raws t ts)).tree; reading = (terms_of st scope v (more_raws t ts)).reading })) (sym w)
        (record {
          same = rest.same;
          finds = rest.finds;
          within = rest.within;
          tree = λ last to back leads keeps. ap₂ app
              (r.number last to back leads (keeps_on (behind D after) (terms_of st scope (behind D after) (more_raws t ts)).reading last grown keeps))
              (rest.tree last to back leads keeps);
        })

    terms_passes : (st : Style) (scope : List Bound) (ts : RawTrees) → Passes moved_terms (λ s. terms_of st scope s ts)
    terms_passes st scope no_raws s C stays finds within = unmoved moved_terms (record { tree = none; reading = s }) C finds within (λ to. refl)
    terms_passes st scope (more_raws t ts) s C stays finds within =
        let first = term_of st scope s t in
        let others = terms_of st scope first.reading ts in
        let g = grows_term st scope s t in
        let h = grows_terms st scope first.reading ts in
        let one = term_passes st scope t s C (stays_front s first.reading others.reading g h stays) finds within in
        let other = term_of st scope (behind C s) t in
        let D = other.reading.symbols in
        let rest = terms_passes st scope ts first.reading D (stays_back s first.reading others.reading g h stays) one.finds one.within in
        let grown = grows_terms st scope (behind D first.reading) ts in
        subst (λ (v : Reading). IsReadBehind T moved_terms (record { tree = more first.tree others.tree; reading = others.reading })
        (record { tree = more other.tree (terms_of st scope v ts).tree; reading = (terms_of st scope v ts).reading })) (sym one.same)
        (record {
          same = rest.same;
          finds = rest.finds;
          within = rest.within;
          tree = λ last to back leads keeps. ap₂ more
              (one.tree last to back leads (keeps_on (behind D first.reading) (terms_of st scope (behind D first.reading) ts).reading last grown keeps))
              (rest.tree last to back leads keeps);
        })

  relation_passes : (st : Style) (scope : List Bound) (name : List ℕ) (ts : RawTrees) → Passes moved_formula (relation_of st scope name ts)
  relation_passes st scope name ts s C stays finds within =
      let arity = arity_of ts in
      let met = meets (is_element st name) UnfitNumeral s in
      let after = with_symbol name arity Relation met in
      let all = terms_of st scope after ts in
      let g = grows_meets (is_element st name) UnfitNumeral s in
      let h = grows_symbol name arity Relation met in
      let k = grows_terms st scope after ts in
      let from_met = stays_back s met all.reading g (beyond met after all.reading h k) stays in
      let to_after = stays_front met after all.reading h k from_met in
      let from_after = stays_back met after all.reading h k from_met in
      let r = symbol_read name arity Relation met C to_after finds within in
      let D = entered C (symbol name arity Relation) in
      let w = ap (with_symbol name arity Relation) (meets_behind C (is_element st name) UnfitNumeral s) ∙ r.same in
      let rest = terms_passes st scope ts after D from_after r.finds r.within in
      let grown = grows_terms st scope (behind D after) ts in
      subst (λ (v : Reading). IsReadBehind T moved_formula (record { tree = atom (symbol_number name arity after) all.tree; reading = all.reading })
      (record { tree = atom (symbol_number name arity v) (terms_of st scope v ts).tree; reading = (terms_of st scope v ts).reading })) (sym w)
      (record {
        same = rest.same;
        finds = rest.finds;
        within = rest.within;
        tree = λ last to back leads keeps. ap₂ atom
            (r.number last to back leads (keeps_on (behind D after) (terms_of st scope (behind D after) ts).reading last grown keeps))
            (rest.tree last to back leads keeps);
      })

  sentence_as_passes : (st : Style) (scope : List Bound) (name : List ℕ) (o : Option ℕ) → Passes moved_formula (sentence_as st scope name o)
  sentence_as_passes st scope name (Some n) s C stays finds within = unmoved moved_formula (record { tree = verum; reading = meets true VariableAsFormula s }) C finds within (λ to. refl)
  sentence_as_passes st scope name None s C stays finds within =
      either_passes moved_formula (bytes_eq name (codes "$T")) (λ (r : Reading). record { tree = verum; reading = r })
      (λ (r : Reading). if bytes_eq name (codes "$F") then record { tree = falsum; reading = r } else relation_of st scope name no_raws r)
      (λ r D st_ fi wi. unmoved moved_formula (record { tree = verum; reading = r }) D fi wi (λ to. refl))
      (either_passes moved_formula (bytes_eq name (codes "$F")) (λ (r : Reading). record { tree = falsum; reading = r }) (relation_of st scope name no_raws)
      (λ r D st_ fi wi. unmoved moved_formula (record { tree = falsum; reading = r }) D fi wi (λ to. refl)) (relation_passes st scope name no_raws))
      s C stays finds within

  sentence_passes : (st : Style) (scope : List Bound) (name : List ℕ) → Passes moved_formula (sentence st scope name)
  sentence_passes st scope name s C stays finds within =
      let v = named_variable st scope name s in
      let back = stays_back s v.reading (sentence_as st scope name v.tree v.reading).reading (grows_named st scope name s) (grows_sentence_as st scope name v.tree v.reading) stays in
      subst (λ (m : Made (Option ℕ)). IsReadBehind T moved_formula (sentence st scope name s) (sentence_as st scope name m.tree m.reading)) (sym (named_behind C st scope name s))
      (sentence_as_passes st scope name v.tree v.reading C back finds within)

  equation_passes : (st : Style) (scope : List Bound) (t u : RawTree) → Passes moved_formula (equation_read st scope t u)
  equation_passes st scope t u s C stays finds within =
      let left = term_of st scope s t in
      let right = term_of st scope left.reading u in
      let g = grows_term st scope s t in
      let h = grows_term st scope left.reading u in
      let one = term_passes st scope t s C (stays_front s left.reading right.reading g h stays) finds within in
      let other = term_of st scope (behind C s) t in
      let D = other.reading.symbols in
      let rest = term_passes st scope u left.reading D (stays_back s left.reading right.reading g h stays) one.finds one.within in
      let grown = grows_term st scope (behind D left.reading) u in
      subst (λ (v : Reading). IsReadBehind T moved_formula (record { tree = equal left.tree right.tree; reading = right.reading })
      (record { tree = equal other.tree (term_of st scope v u).tree; reading = (term_of st scope v u).reading })) (sym one.same)
      (record {
        same = rest.same;
        finds = rest.finds;
        within = rest.within;
        tree = λ last to back leads keeps. ap₂ equal
            (one.tree last to back leads (keeps_on (behind D left.reading) (term_of st scope (behind D left.reading) u).reading last grown keeps))
            (rest.tree last to back leads keeps);
      })

  under_passes : (f : Fol → Fol) → ((to : Moving) (g : Fol) → f (moved_formula to g) ≡ moved_formula to (f g)) → (m other : Made Fol) → IsReadBehind T moved_formula m other
      → IsReadBehind T moved_formula (under f m) (under f other)
  under_passes f commutes m other r = record {
    same = r.same;
    finds = r.finds;
    within = r.within;
    tree = λ last to back leads keeps. ap f (r.tree last to back leads keeps) ∙ commutes to m.tree;
  }

  comparison_passes : (st : Style) (scope : List Bound) (name : List ℕ) (t u : RawTree) → Passes moved_formula (comparison st scope name t u)
  comparison_passes st scope name t u s C stays finds within =
      let other = relation_of st scope name (more_raws t (more_raws u no_raws)) in
      either_passes moved_formula (bytes_eq name (codes "=")) (equation_read st scope t u) (λ (r : Reading). if bytes_eq name (codes "!=") then under negation (equation_read st scope t u r) else other r)
      (equation_passes st scope t u)
      (either_passes moved_formula (bytes_eq name (codes "!=")) (λ (r : Reading). under negation (equation_read st scope t u r)) other
      (λ r D st_ fi wi. under_passes negation (λ to g. refl) (equation_read st scope t u r) (equation_read st scope t u (behind D r)) (equation_passes st scope t u r D (record { begin = st_.begin; end = st_.end; sound = st_.sound }) fi wi))
      (relation_passes st scope name (more_raws t (more_raws u no_raws))))
      s C stays finds within

  joined_passes : (join : Fol → Fol → Fol) → ((to : Moving) (g h : Fol) → join (moved_formula to g) (moved_formula to h) ≡ moved_formula to (join g h)) → (f g : Reading → Made Fol)
      → Passes moved_formula f → Passes moved_formula g → ((r : Reading) → Grows r (f r).reading) → ((r : Reading) → Grows r (g r).reading) → Passes moved_formula (connective_read join f g)
  joined_passes join commutes f g a b grows_f grows_g s C stays finds within =
      let left = f s in
      let right = g left.reading in
      let h = grows_f s in
      let k = grows_g left.reading in
      let whole : Stays s right.reading = record { begin = stays.begin; end = stays.end; sound = stays.sound } in
      let one = a s C (stays_front s left.reading right.reading h k whole) finds within in
      let other = f (behind C s) in
      let D = other.reading.symbols in
      let rest = b left.reading D (stays_back s left.reading right.reading h k whole) one.finds one.within in
      let grown = grows_g (behind D left.reading) in
      subst (λ (v : Reading). IsReadBehind T moved_formula (under (join left.tree) right) (under (join other.tree) (g v))) (sym one.same)
      (record {
        same = rest.same;
        finds = rest.finds;
        within = rest.within;
        tree = λ last to back leads keeps.
            ap₂ join (one.tree last to back leads (keeps_on (behind D left.reading) (g (behind D left.reading)).reading last grown keeps)) (rest.tree last to back leads keeps)
            ∙ commutes to left.tree right.tree;
      })

  connective_passes : (o : Option Connective) (f g c : Reading → Made Fol) → Passes moved_formula f → Passes moved_formula g → Passes moved_formula c
      → ((r : Reading) → Grows r (f r).reading) → ((r : Reading) → Grows r (g r).reading) → Passes moved_formula (by_connective o f g c)
  connective_passes None f g c a b d h l s C stays finds within = d s C stays finds within
  connective_passes (Some And) f g c a b d h l s C stays finds within = joined_passes (joined_by And) (λ to p q. refl) f g a b h l s C stays finds within
  connective_passes (Some Or) f g c a b d h l s C stays finds within = joined_passes (joined_by Or) (λ to p q. refl) f g a b h l s C stays finds within
  connective_passes (Some IfThen) f g c a b d h l s C stays finds within = joined_passes (joined_by IfThen) (λ to p q. refl) f g a b h l s C stays finds within
  connective_passes (Some ThenIf) f g c a b d h l s C stays finds within = joined_passes (joined_by ThenIf) (λ to p q. refl) g f b a l h s C stays finds within
  connective_passes (Some IfAndOnlyIf) f g c a b d h l s C stays finds within = joined_passes (joined_by IfAndOnlyIf) (λ to p q. refl) f g a b h l s C stays finds within

  bound_moved : (q : Quantifier) (n : ℕ) (to : Moving) (g : Fol) → bound_by q n (moved_formula to g) ≡ moved_formula to (bound_by q n g)
  bound_moved All n to g = refl
  bound_moved Exists n to g = refl

  formula_passes : (st : Style) (scope : List Bound) (t : RawTree) → Passes moved_formula (λ s. formula_in st scope s t)
  formula_passes st scope (quantified q x t) s C stays finds within =
      let deeper : List Bound = record { name = x; number = length s.variables } ∷ scope in
      under_passes (bound_by q (length s.variables)) (bound_moved q (length s.variables)) (formula_in st deeper (with_variable x false s) t) (formula_in st deeper (with_variable x false (behind C s)) t)
      (formula_passes st deeper t (with_variable x false s) C (record { begin = stays.begin; end = stays.end; sound = stays.sound }) finds within)
  formula_passes st scope (named name no_raws) s C stays finds within = sentence_passes st scope name s C stays finds within
  formula_passes st scope (named name (more_raws t no_raws)) s C stays finds within =
      either_passes moved_formula (is_denial name) (λ (r : Reading). under negation (formula_in st scope r t)) (relation_of st scope name (more_raws t no_raws))
      (λ r D st_ fi wi. under_passes negation (λ to g. refl) (formula_in st scope r t) (formula_in st scope (behind D r) t) (formula_passes st scope t r D (record { begin = st_.begin; end = st_.end; sound = st_.sound }) fi wi))
      (relation_passes st scope name (more_raws t no_raws)) s C stays finds within
  formula_passes st scope (named name (more_raws t (more_raws u no_raws))) s C stays finds within =
      connective_passes (connective_of name) (λ r. formula_in st scope r t) (λ r. formula_in st scope r u) (comparison st scope name t u)
      (formula_passes st scope t) (formula_passes st scope u) (comparison_passes st scope name t u) (grows_formula st scope t) (grows_formula st scope u) s C stays finds within
  formula_passes st scope (named name (more_raws t (more_raws u (more_raws w ts)))) s C stays finds within = relation_passes st scope name (more_raws t (more_raws u (more_raws w ts))) s C stays finds within

pub read_behind : TermsAreReadBehind
read_behind st all table t once finds within stays sound =
    formula_passes all once st [] t (unread all) table (record { begin = refl; end = stays; sound = sound }) finds within
