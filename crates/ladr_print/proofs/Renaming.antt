-- A clause that was read is read again under the names of clauses.
use Rattle.std.proofs.Common.{◌≡◌, ℕ, zero, suc, ◌<◌, ◌≤◌, ◌^◌, Bool, true, false, List, [], ◌∷◌, ◌++◌, length, Option, Some, None, inl, inr, refl, sym, ap, ◌∙◌, subst, arith}
use Rattle.std.specs.Prelude.{◌||◌, slice_get, get_or, nat_lt, codes}
use Rattle.std.specs.Option.{option_map}
use Rattle.std.specs.Str.{bytes_eq}
use Rattle.std.specs.Fmt.{decimal}
use Rattle.std.proofs.lemmas.Bool.{cases_Bool, cond-true, cond-false, cond_both}
use Rattle.std.proofs.lemmas.List.{length-append}
use Rattle.std.proofs.lemmas.Option.{slice_get_within, slice_get-get_or}
use Rattle.fol_core.specs.Fol.{Fol, verum, falsum, equal, atom, negation, conjunction, disjunction, implication, equivalence, forall, exists}
use Rattle.fol_core.specs.Literals.{Lit, ClauseTree, literal, equality}
use Rattle.fol_core.specs.RawTree.{RawTree, named, quantified, RawTrees, no_raws, more_raws}
use Rattle.fol_core.specs.SymbolTable.{Symbol, entered, is_clash}
use Rattle.fol_core.specs.Tree.{Tree, var, elem, app, Trees, none, more}
use Rattle.fol_core.specs.declared.raw.Quantifier.TheVariants.{All, Exists}
use Rattle.fol_core.specs.declared.symbols.Kind.{Kind}
use Rattle.fol_core.specs.declared.symbols.Kind.TheVariants.{Function, Relation}
use Rattle.ladr_lex.specs.declared.limits.TheConstants.{MOST_ARGUMENTS}
use Rattle.ladr_lex.specs.Numeral.{limited_number_of}
use Rattle.ladr_lex.specs.declared.misuse.Misuse.{Misuse}
use Rattle.ladr_lex.specs.declared.misuse.Misuse.TheVariants.{TwoKinds, QuantifierInTerm, UnfitAttribute, UnfitNumeral}
use Rattle.ladr_formulas.specs.Formulas.{Variable, Reading, Made, meets, free_number, is_variable, with_variable, variable_number, reading_with_name, named_variable, with_symbol, symbol_number, arity_of, is_too_great, is_element, constant_as, constant, term_of, terms_of, relation_of, sentence_as, sentence, equation_read, under, is_denial, connective_of, connective_read, by_connective, comparison, formula_in}
use Rattle.ladr_formulas.specs.declared.connectives.Connective.{Connective}
use Rattle.ladr_formulas.specs.declared.connectives.Connective.TheVariants.{And, Or, IfThen, ThenIf, IfAndOnlyIf}
use Rattle.ladr_formulas.specs.declared.styles.Style.{Style}
use Rattle.ladr_print.specs.ClauseText.{clause_raw}
use Rattle.ladr_print.specs.FormulaText.{two}
use Rattle.ladr_print.specs.StatesClause.{atom_in, literal_in, prepended, literals_in}
use Rattle.ladr_print.specs.TermText.{Naming, clause_variable, symbol_name, term_raw, terms_raw}
use Rattle.ladr_print.proofs.Letters.{name_free, first_variables, first_length, not_yet, found_there}
use Rattle.ladr_formulas.proofs.Growing.{Grows, beyond, grows_variable, grows_term, grows_terms, grows_formula}
use Rattle.ladr_print.proofs.Naming.{Reaches, before, unmet, clear, free_found, symbol_back, element_back}
use Rattle.ladr_print.proofs.Rereading.{denial_read}
use Rattle.ladr_print.proofs.Upto.{upto, noted_old, noted_new}
use Rattle.fol_core.specs.Free.{noted, variables_of, variables_of_all}
use Rattle.fol_core.specs.Free as free
use Rattle.fol_core.specs.Renumbered.{clause_variables}
use Rattle.fol_core.proofs.Variables.{joined_joined}

-- no fewer variables
grows_length : (a b : Reading) → Grows a b → length a.variables ≤ length b.variables
grows_length a b g = by (length a.variables) refl
  where
    by : (n : ℕ) → length a.variables ≡ n → length a.variables ≤ length b.variables
    by zero e = omega (arith, e)
    by (suc n) e =
        let x : Variable = get_or a.variables n (record { name = []; free = true }) in
        let at : slice_get a.variables n ≡ Some x = slice_get-get_or a.variables n (record { name = []; free = true }) (omega (arith, e)) in
        omega (arith, e, slice_get_within b.variables n x (g.variables n x at))

module _ (st : Style) where
  abbrev canon : Naming
  canon = clause_variable st.prolog

  -- the same reading with the first names of clauses
  abbrev ren : Reading → Reading
  ren s = record s { variables = first_variables st.prolog (length s.variables) }

  ren_meets : (b : Bool) (row : Misuse) (s : Reading) → meets b row (ren s) ≡ ren (meets b row s)
  ren_meets true row s = refl
  ren_meets false row s = refl

  ren_met : (a b : Bool) (table : List Symbol) (large : Bool) (s : Reading) →
      record (meets b UnfitAttribute (meets a TwoKinds (ren s))) { symbols = table; large = large } ≡ ren (record (meets b UnfitAttribute (meets a TwoKinds s)) { symbols = table; large = large })
  ren_met true true table large s = refl
  ren_met true false table large s = refl
  ren_met false true table large s = refl
  ren_met false false table large s = refl

  ren_symbol : (name : List ℕ) (arity : ℕ) (kind : Kind) (s : Reading) → with_symbol name arity kind (ren s) ≡ ren (with_symbol name arity kind s)
  ren_symbol name arity kind s =
      let x : Symbol = record { name = name; arity = arity; kind = kind } in
      ren_met (is_clash s.symbols x) (bytes_eq name (codes "#")) (entered s.symbols x) (s.large || nat_lt MOST_ARGUMENTS arity) s

  -- a variable
  ren_number : (name : List ℕ) (s : Reading) → length (reading_with_name [] name s).variables ≤ 2 ^ 64 →
      (variable_number [] (canon (variable_number [] name s)) (ren s) ≡ variable_number [] name s) × (reading_with_name [] (canon (variable_number [] name s)) (ren s) ≡ ren (reading_with_name [] name s))
  ren_number name s h = by (free_number 0 s.variables name) refl
    where
      by : (o : Option ℕ) → free_number 0 s.variables name ≡ o →
          (variable_number [] (canon (variable_number [] name s)) (ren s) ≡ variable_number [] name s) × (reading_with_name [] (canon (variable_number [] name s)) (ren s) ≡ ren (reading_with_name [] name s))
      by (Some k) e =
          let f = free_found [] canon 0 s.variables name k e in
          let known : reading_with_name [] name s ≡ s = rw e refl in
          let few : length s.variables ≤ 2 ^ 64 = subst (λ (z : Reading). length z.variables ≤ 2 ^ 64) known h in
          let within : k < length s.variables = omega (arith, f.2, slice_get_within s.variables f.0 f.1 f.3) in
          let there = found_there st.prolog (length s.variables) k within few in
          (rw (e, there) refl, rw (e, there) refl)
      by None e =
          let n = length s.variables in
          let new : reading_with_name [] name s ≡ with_variable name true s = rw e refl in
          let few : length (s.variables ++ record { name = name; free = true } ∷ []) ≤ 2 ^ 64 = subst (λ (z : Reading). length z.variables ≤ 2 ^ 64) new h in
          let fewer : n < 2 ^ 64 = omega (arith, few, length-append s.variables (record { name = name; free = true } ∷ [])) in
          let there = not_yet st.prolog n n (omega arith) fewer in
          let more : suc n ≡ length (s.variables ++ record { name = name; free = true } ∷ []) = omega (arith, length-append s.variables (record { name = name; free = true } ∷ [])) in
          (rw (e, there) (first_length st.prolog n), rw (e, there) (ap (λ (k : ℕ). record s { variables = first_variables st.prolog k }) more))

  -- a name without arguments
  abbrev Free : List ℕ → Type 0
  Free name = is_variable st [] name ≡ true

  named_yes : (name : List ℕ) (s : Reading) → is_variable st [] name ≡ true → named_variable st [] name s ≡ record { tree = Some (variable_number [] name s); reading = reading_with_name [] name s }
  unfolding named_variable
  named_yes name s y = cond-true (is_variable st [] name) _ _ y

  named_none : (name : List ℕ) (s : Reading) → is_variable st [] name ≡ false → named_variable st [] name s ≡ record { tree = None; reading = s }
  unfolding named_variable
  named_none name s k = cond-false (is_variable st [] name) _ _ k

  module _ (T : List Symbol) (v : Naming) (fewer : length T < 2 ^ 64) where
    abbrev Keeps : Reading → Type 0
    Keeps s = Reaches T v s × (length s.variables ≤ 2 ^ 64)

    keeps_before : (a b : Reading) → Grows a b → Keeps b → Keeps a
    keeps_before a b g k = (before T v a b g k.0, omega (arith, grows_length a b g, k.1))

    abbrev again : Made Tree → Made Tree
    again m = record { tree = m.tree; reading = ren m.reading }

    constant_ren : (name : List ℕ) (s : Reading) → Keeps (constant st [] name s).reading → term_of st [] (ren s) (term_raw T canon (constant st [] name s).tree) ≡ again (constant st [] name s)
    constant_ren name s k =
        elim (cases_Bool (is_variable st [] name)) [
          | inl y ↦ variable_case y
          | inr n ↦ other_case n
        ]
      where
        variable_case : is_variable st [] name ≡ true → term_of st [] (ren s) (term_raw T canon (constant st [] name s).tree) ≡ again (constant st [] name s)
        variable_case y =
            let e = named_yes name s y in
            let made : constant st [] name s ≡ record { tree = var (variable_number [] name s); reading = reading_with_name [] name s } = ap (λ (m : Made (Option ℕ)). constant_as st name m.tree m.reading) e in
            let few : length (reading_with_name [] name s).variables ≤ 2 ^ 64 = subst (λ (m : Made Tree). length m.reading.variables ≤ 2 ^ 64) made k.1 in
            let n = variable_number [] name s in
            let num = ren_number name s few in
            let yes = named_yes (canon n) (ren s) (name_free st n) in
            ap (λ (m : Made Tree). term_of st [] (ren s) (term_raw T canon m.tree)) made
            ∙ ap (λ (m : Made (Option ℕ)). constant_as st (canon n) m.tree m.reading) yes
            ∙ (λ i. record { tree = var (num.0 i); reading = num.1 i })
            ∙ sym (ap again made)

        other_case : is_variable st [] name ≡ false → term_of st [] (ren s) (term_raw T canon (constant st [] name s).tree) ≡ again (constant st [] name s)
        other_case n =
            let e = named_none name s n in
            let made : constant st [] name s ≡ constant_as st name None s = ap (λ (m : Made (Option ℕ)). constant_as st name m.tree m.reading) e in
            let gone = named_none name (ren s) n in
            let whole : constant st [] name (ren s) ≡ constant_as st name None (ren s) = ap (λ (m : Made (Option ℕ)). constant_as st name m.tree m.reading) gone in
            elim (cases_Bool (is_element st name)) [
              | inl y ↦ (let f : (z : Reading) → constant_as st name None z ≡ record { tree = elem (limited_number_of name); reading = meets (is_too_great st name) UnfitNumeral z } = λ z. cond-true (is_element st name) _ _ y in
                  let all = made ∙ f s in
                  let met : Reaches T v (meets (is_too_great st name) UnfitNumeral s) = subst (λ (m : Made Tree). Reaches T v m.reading) all k.0 in
                  let name_is : decimal (limited_number_of name) ≡ name = element_back T v fewer st name y (clear T v (is_too_great st name) UnfitNumeral s met) in
                  ap (λ (m : Made Tree). term_of st [] (ren s) (term_raw T canon m.tree)) all
                  ∙ ap (λ (l : List ℕ). constant st [] l (ren s)) name_is ∙ whole ∙ f (ren s)
                  ∙ ap (λ (z : Reading). record { tree = elem (limited_number_of name); reading = z }) (ren_meets (is_too_great st name) UnfitNumeral s)
                  ∙ sym (ap again all))
              | inr j ↦ (let f : (z : Reading) → constant_as st name None z ≡ record { tree = app (symbol_number name 0 (with_symbol name 0 Function z)) none; reading = with_symbol name 0 Function z } = λ z. cond-false (is_element st name) _ _ j in
                  let all = made ∙ f s in
                  let met : Reaches T v (with_symbol name 0 Function s) = subst (λ (m : Made Tree). Reaches T v m.reading) all k.0 in
                  let name_is = symbol_back T v fewer name 0 Function s met in
                  ap (λ (m : Made Tree). term_of st [] (ren s) (term_raw T canon m.tree)) all
                  ∙ ap (λ (l : List ℕ). constant st [] l (ren s)) name_is ∙ whole ∙ f (ren s)
                  ∙ ap (λ (z : Reading). record { tree = app (symbol_number name 0 z) none; reading = z }) (ren_symbol name 0 Function s)
                  ∙ sym (ap again all))
            ]

    arity_same : (ts : RawTrees) (s : Reading) → arity_of (terms_raw T canon (terms_of st [] s ts).tree) ≡ arity_of ts
    arity_same no_raws s = refl
    arity_same (more_raws t ts) s = ap suc (arity_same ts (term_of st [] s t).reading)

    abbrev all_again : Made Trees → Made Trees
    all_again m = record { tree = m.tree; reading = ren m.reading }

    mutual
      pub term_ren : (t : RawTree) (s : Reading) → Keeps (term_of st [] s t).reading → term_of st [] (ren s) (term_raw T canon (term_of st [] s t).tree) ≡ again (term_of st [] s t)
      term_ren (quantified q x t) s k =
          let met = meets true QuantifierInTerm s in
          let inner = with_variable x false met in
          absurd (unmet T v QuantifierInTerm s (before T v met _ (beyond met inner _ (grows_variable x false met) (grows_term st (record { name = x; number = length s.variables } ∷ []) inner t)) k.0))
      term_ren (named name no_raws) s k = constant_ren name s k
      term_ren (named name (more_raws t ts)) s k =
          let met = meets (is_too_great st name) UnfitNumeral s in
          let ar = suc (arity_of ts) in
          let after = with_symbol name ar Function met in
          let args = terms_of st [] after (more_raws t ts) in
          let here = keeps_before after args.reading (grows_terms st [] after (more_raws t ts)) k in
          let name_is = symbol_back T v fewer name ar Function met here.0 in
          let xs = terms_raw T canon args.tree in
          let count : arity_of xs ≡ ar = arity_same (more_raws t ts) after in
          let F : ℕ → Reading → Made Tree = λ n z. let al = terms_of st [] z xs in record { tree = app (symbol_number name n z) al.tree; reading = al.reading } in
          let begun : with_symbol name (arity_of xs) Function (meets (is_too_great st name) UnfitNumeral (ren s)) ≡ ren after =
          ap (λ (n : ℕ). with_symbol name n Function (meets (is_too_great st name) UnfitNumeral (ren s))) count ∙ ap (with_symbol name ar Function) (ren_meets (is_too_great st name) UnfitNumeral s) ∙ ren_symbol name ar Function met
          in
          ap (λ (l : List ℕ). term_of st [] (ren s) (named l xs)) name_is
          ∙ (λ i. F (count i) (begun i))
          ∙ ap (λ (m : Made Trees). record { tree = app (symbol_number name ar after) m.tree; reading = m.reading }) (terms_ren (more_raws t ts) after k)

      terms_ren : (ts : RawTrees) (s : Reading) → Keeps (terms_of st [] s ts).reading → terms_of st [] (ren s) (terms_raw T canon (terms_of st [] s ts).tree) ≡ all_again (terms_of st [] s ts)
      terms_ren no_raws s k = refl
      terms_ren (more_raws t ts) s k =
          let first = term_of st [] s t in
          let others = terms_of st [] first.reading ts in
          let xs = terms_raw T canon others.tree in
          ap (λ (m : Made Tree). let o = terms_of st [] m.reading xs in record { tree = more m.tree o.tree; reading = o.reading }) (term_ren t s (keeps_before first.reading others.reading (grows_terms st [] first.reading ts) k))
          ∙ ap (λ (m : Made Trees). record { tree = more first.tree m.tree; reading = m.reading }) (terms_ren ts first.reading k)

    -- relations and equations
    abbrev made_again : Made Fol → Made Fol
    made_again m = record { tree = m.tree; reading = ren m.reading }

    relation_ren : (name : List ℕ) (ts : RawTrees) (s : Reading) → Keeps (relation_of st [] name ts s).reading →
        relation_of st [] (symbol_name T (symbol_number name (arity_of ts) (with_symbol name (arity_of ts) Relation (meets (is_element st name) UnfitNumeral s))))
        (terms_raw T canon (terms_of st [] (with_symbol name (arity_of ts) Relation (meets (is_element st name) UnfitNumeral s)) ts).tree) (ren s) ≡ made_again (relation_of st [] name ts s)
    relation_ren name ts s k =
        let met = meets (is_element st name) UnfitNumeral s in
        let ar = arity_of ts in
        let after = with_symbol name ar Relation met in
        let args = terms_of st [] after ts in
        let here = keeps_before after args.reading (grows_terms st [] after ts) k in
        let name_is = symbol_back T v fewer name ar Relation met here.0 in
        let xs = terms_raw T canon args.tree in
        let count : arity_of xs ≡ ar = arity_same ts after in
        let F : ℕ → Reading → Made Fol = λ n z. let al = terms_of st [] z xs in record { tree = atom (symbol_number name n z) al.tree; reading = al.reading } in
        let begun : with_symbol name (arity_of xs) Relation (meets (is_element st name) UnfitNumeral (ren s)) ≡ ren after =
        ap (λ (n : ℕ). with_symbol name n Relation (meets (is_element st name) UnfitNumeral (ren s))) count ∙ ap (with_symbol name ar Relation) (ren_meets (is_element st name) UnfitNumeral s) ∙ ren_symbol name ar Relation met
        in
        ap (λ (l : List ℕ). relation_of st [] l xs (ren s)) name_is
        ∙ (λ i. F (count i) (begun i))
        ∙ ap (λ (m : Made Trees). record { tree = atom (symbol_number name ar after) m.tree; reading = m.reading }) (terms_ren ts after k)

    relation_name : (name : List ℕ) (ts : RawTrees) (s : Reading) → Keeps (relation_of st [] name ts s).reading →
        symbol_name T (symbol_number name (arity_of ts) (with_symbol name (arity_of ts) Relation (meets (is_element st name) UnfitNumeral s))) ≡ name
    relation_name name ts s k =
        let met = meets (is_element st name) UnfitNumeral s in
        let after = with_symbol name (arity_of ts) Relation met in
        symbol_back T v fewer name (arity_of ts) Relation met (keeps_before after _ (grows_terms st [] after ts) k).0

    equation_ren : (t u : RawTree) (s : Reading) → Keeps (equation_read st [] t u s).reading →
        equation_read st [] (term_raw T canon (term_of st [] s t).tree) (term_raw T canon (term_of st [] (term_of st [] s t).reading u).tree) (ren s) ≡ made_again (equation_read st [] t u s)
    equation_ren t u s k =
        let left = term_of st [] s t in
        let right = term_of st [] left.reading u in
        let a = term_raw T canon right.tree in
        ap (λ (m : Made Tree). let r = term_of st [] m.reading a in record { tree = equal m.tree r.tree; reading = r.reading }) (term_ren t s (keeps_before left.reading right.reading (grows_term st [] left.reading u) k))
        ∙ ap (λ (m : Made Tree). record { tree = equal left.tree m.tree; reading = m.reading }) (term_ren u left.reading k)

    -- and its variables are those met first
    meets_variables : (b : Bool) (row : Misuse) (s : Reading) → (meets b row s).variables ≡ s.variables
    meets_variables true row s = refl
    meets_variables false row s = refl

    symbol_variables : (name : List ℕ) (arity : ℕ) (kind : Kind) (s : Reading) → (with_symbol name arity kind s).variables ≡ s.variables
    symbol_variables name arity kind s =
        let x : Symbol = record { name = name; arity = arity; kind = kind } in
        meets_variables (bytes_eq name (codes "#")) UnfitAttribute (meets (is_clash s.symbols x) TwoKinds s) ∙ meets_variables (is_clash s.symbols x) TwoKinds s

    abbrev so_far : Reading → List ℕ
    so_far s = upto (length s.variables)

    number_noted : (name : List ℕ) (s : Reading) → noted (so_far s) (variable_number [] name s) ≡ so_far (reading_with_name [] name s)
    number_noted name s = by (free_number 0 s.variables name) refl
      where
        by : (o : Option ℕ) → free_number 0 s.variables name ≡ o → noted (so_far s) (variable_number [] name s) ≡ so_far (reading_with_name [] name s)
        by (Some k) e =
            let f = free_found T v 0 s.variables name k e in
            rw e (noted_old (length s.variables) k (omega (arith, f.2, slice_get_within s.variables f.0 f.1 f.3)))
        by None e =
            let more_one : suc (length s.variables) ≡ length (s.variables ++ record { name = name; free = true } ∷ []) = omega (arith, length-append s.variables (record { name = name; free = true } ∷ [])) in
            rw e (noted_new (length s.variables) ∙ ap upto more_one)

    constant_noted : (name : List ℕ) (s : Reading) → free.joined (so_far s) (variables_of (constant st [] name s).tree) ≡ so_far (constant st [] name s).reading
    constant_noted name s =
        elim (cases_Bool (is_variable st [] name)) [
          | inl y ↦ subst (λ (m : Made Tree). free.joined (so_far s) (variables_of m.tree) ≡ so_far m.reading)
              (sym (ap (λ (m : Made (Option ℕ)). constant_as st name m.tree m.reading) (named_yes name s y))) (number_noted name s)
          | inr n ↦ subst (λ (m : Made Tree). free.joined (so_far s) (variables_of m.tree) ≡ so_far m.reading)
              (sym (ap (λ (m : Made (Option ℕ)). constant_as st name m.tree m.reading) (named_none name s n))) (none_noted name s)
        ]
      where
        none_noted : (name : List ℕ) (s : Reading) → free.joined (so_far s) (variables_of (constant_as st name None s).tree) ≡ so_far (constant_as st name None s).reading
        none_noted name s =
            cond_both (is_element st name) _ _ (λ (m : Made Tree). free.joined (so_far s) (variables_of m.tree) ≡ so_far m.reading)
            (λ e. ap (λ (vs : List Variable). upto (length vs)) (sym (meets_variables (is_too_great st name) UnfitNumeral s)))
            (λ e. ap (λ (vs : List Variable). upto (length vs)) (sym (symbol_variables name 0 Function s)))

    mutual
      pub term_noted : (t : RawTree) (s : Reading) → Keeps (term_of st [] s t).reading → free.joined (so_far s) (variables_of (term_of st [] s t).tree) ≡ so_far (term_of st [] s t).reading
      term_noted (quantified q x t) s k =
          let met = meets true QuantifierInTerm s in
          let inner = with_variable x false met in
          absurd (unmet T v QuantifierInTerm s (before T v met _ (beyond met inner _ (grows_variable x false met) (grows_term st (record { name = x; number = length s.variables } ∷ []) inner t)) k.0))
      term_noted (named name no_raws) s k = constant_noted name s
      term_noted (named name (more_raws t ts)) s k =
          let met = meets (is_too_great st name) UnfitNumeral s in
          let after = with_symbol name (suc (arity_of ts)) Function met in
          ap (λ (vs : List Variable). free.joined (upto (length vs)) (variables_of_all (terms_of st [] after (more_raws t ts)).tree))
          (sym (symbol_variables name (suc (arity_of ts)) Function met ∙ meets_variables (is_too_great st name) UnfitNumeral s))
          ∙ terms_noted (more_raws t ts) after k

      terms_noted : (ts : RawTrees) (s : Reading) → Keeps (terms_of st [] s ts).reading → free.joined (so_far s) (variables_of_all (terms_of st [] s ts).tree) ≡ so_far (terms_of st [] s ts).reading
      terms_noted no_raws s k = refl
      terms_noted (more_raws t ts) s k =
          let first = term_of st [] s t in
          let others = terms_of st [] first.reading ts in
          joined_joined (so_far s) (variables_of first.tree) (variables_of_all others.tree)
          ∙ ap (λ (xs : List ℕ). free.joined xs (variables_of_all others.tree)) (term_noted t s (keeps_before first.reading others.reading (grows_terms st [] first.reading ts) k))
          ∙ terms_noted ts first.reading k

    relation_noted : (name : List ℕ) (ts : RawTrees) (s : Reading) → Keeps (relation_of st [] name ts s).reading →
        free.joined (so_far s) (variables_of_all (terms_of st [] (with_symbol name (arity_of ts) Relation (meets (is_element st name) UnfitNumeral s)) ts).tree) ≡ so_far (relation_of st [] name ts s).reading
    relation_noted name ts s k =
        let met = meets (is_element st name) UnfitNumeral s in
        let after = with_symbol name (arity_of ts) Relation met in
        ap (λ (vs : List Variable). free.joined (upto (length vs)) (variables_of_all (terms_of st [] after ts).tree))
        (sym (symbol_variables name (arity_of ts) Relation met ∙ meets_variables (is_element st name) UnfitNumeral s))
        ∙ terms_noted ts after k

    equation_noted : (t u : RawTree) (s : Reading) → Keeps (equation_read st [] t u s).reading →
        free.joined (so_far s) (free.joined (variables_of (term_of st [] s t).tree) (free.joined (variables_of (term_of st [] (term_of st [] s t).reading u).tree) [])) ≡ so_far (equation_read st [] t u s).reading
    equation_noted t u s k =
        let left = term_of st [] s t in
        let right = term_of st [] left.reading u in
        joined_joined (so_far s) (variables_of left.tree) (variables_of right.tree)
        ∙ ap (λ (xs : List ℕ). free.joined xs (variables_of right.tree)) (term_noted t s (keeps_before left.reading right.reading (grows_term st [] left.reading u) k))
        ∙ term_noted u left.reading k

    -- a formula that is literals
    abbrev Again : ClauseTree → RawTree → Reading → Type 0
    Again c t s = (formula_in st [] (ren s) (clause_raw T canon c) ≡ made_again (formula_in st [] s t)) × (free.joined (so_far s) (clause_variables c) ≡ so_far (formula_in st [] s t).reading)

    by_relation : (name : List ℕ) (ts : RawTrees) (s : Reading) (c : ClauseTree) → formula_in st [] s (named name ts) ≡ relation_of st [] name ts s →
        ((us : RawTrees) → us ≡ terms_raw T canon (terms_of st [] (with_symbol name (arity_of ts) Relation (meets (is_element st name) UnfitNumeral s)) ts).tree → formula_in st [] (ren s) (named name us) ≡ relation_of st [] name us (ren s)) →
        literals_in (formula_in st [] s (named name ts)).tree ≡ Some c → Keeps (formula_in st [] s (named name ts)).reading → Again c (named name ts) s
    by_relation name ts s c r r' h k =
        let after = with_symbol name (arity_of ts) Relation (meets (is_element st name) UnfitNumeral s) in
        let args = terms_of st [] after ts in
        let n = symbol_number name (arity_of ts) after in
        let xs = terms_raw T canon args.tree in
        let kept : Keeps (relation_of st [] name ts s).reading = subst (λ (m : Made Fol). Keeps m.reading) r k in
        let known : Some (literal true (app n args.tree) ∷ []) ≡ Some c = ap (λ (m : Made Fol). literals_in m.tree) (sym r) ∙ h in
        let e : literal true (app n args.tree) ∷ [] ≡ c = cc in
        let name_is = relation_name name ts s kept in
        subst (λ (d : ClauseTree). Again d (named name ts) s) e (
          ap (λ (l : List ℕ). formula_in st [] (ren s) (named l xs)) name_is ∙ r' xs refl ∙ ap (λ (l : List ℕ). relation_of st [] l xs (ren s)) (sym name_is) ∙ relation_ren name ts s kept ∙ sym (ap made_again r),
          relation_noted name ts s kept ∙ ap (λ (m : Made Fol). so_far m.reading) (sym r),
        )

    -- what the literals of formulas are
    record DeniedParts (f : Fol) (c : ClauseTree) : Type 0 where
      atom_is : Tree
      whole : literal false atom_is ∷ [] ≡ c
      positive : literals_in f ≡ Some (literal true atom_is ∷ [])

    denied_parts : (f : Fol) (c : ClauseTree) → literals_in (negation f) ≡ Some c → DeniedParts f c
    denied_parts verum c h = absurd (cc)
    denied_parts falsum c h = absurd (cc)
    denied_parts (equal a b) c h = record { atom_is = app equality (more a (more b none)); whole = cc; positive = refl }
    denied_parts (atom r ts) c h = record { atom_is = app r ts; whole = cc; positive = refl }
    denied_parts (negation f) c h = absurd (cc)
    denied_parts (conjunction f g) c h = absurd (cc)
    denied_parts (disjunction f g) c h = absurd (cc)
    denied_parts (implication f g) c h = absurd (cc)
    denied_parts (equivalence f g) c h = absurd (cc)
    denied_parts (forall x f) c h = absurd (cc)
    denied_parts (exists x f) c h = absurd (cc)

    pub record OrParts (f g : Fol) (c : ClauseTree) : Type 0 where
      pub first : Lit
      pub second : Lit
      pub others : List Lit
      pub whole : first ∷ second ∷ others ≡ c
      pub front : literals_in f ≡ Some (first ∷ [])
      pub back : literals_in g ≡ Some (second ∷ others)

    single : (f : Fol) (l : Lit) → literal_in f ≡ Some l → literals_in f ≡ Some (l ∷ [])
    single verum l h = absurd (cc)
    single falsum l h = absurd (cc)
    single (equal a b) l h = ap (option_map (λ (m : Lit). m ∷ [])) h
    single (atom r ts) l h = ap (option_map (λ (m : Lit). m ∷ [])) h
    single (negation f) l h = ap (option_map (λ (m : Lit). m ∷ [])) h
    single (conjunction f g) l h = absurd (cc)
    single (disjunction f g) l h = absurd (cc)
    single (implication f g) l h = absurd (cc)
    single (equivalence f g) l h = absurd (cc)
    single (forall x f) l h = absurd (cc)
    single (exists x f) l h = absurd (cc)

    one_more : (o : Option Lit) → option_map (λ (m : Lit). m ∷ []) o ≡ Some [] → ⊥
    one_more None h = cc
    one_more (Some l) h = cc

    first_more : (o : Option Lit) (p : Option ClauseTree) → prepended o p ≡ Some [] → ⊥
    first_more None None h = cc
    first_more None (Some ls) h = cc
    first_more (Some l) None h = cc
    first_more (Some l) (Some ls) h = cc

    some_literal : (f : Fol) → literals_in f ≡ Some [] → ⊥
    some_literal verum h = cc
    some_literal falsum h = cc
    some_literal (equal a b) h = cc
    some_literal (atom r ts) h = cc
    some_literal (negation f) h = one_more (atom_in false f) h
    some_literal (conjunction f g) h = cc
    some_literal (disjunction f g) h = first_more (literal_in f) (literals_in g) h
    some_literal (implication f g) h = cc
    some_literal (equivalence f g) h = cc
    some_literal (forall x f) h = cc
    some_literal (exists x f) h = cc

    pub or_parts : (f g : Fol) (c : ClauseTree) → prepended (literal_in f) (literals_in g) ≡ Some c → OrParts f g c
    or_parts f g c h = by (literal_in f) (literals_in g) refl refl h
      where
        by : (o : Option Lit) (p : Option ClauseTree) → literal_in f ≡ o → literals_in g ≡ p → prepended o p ≡ Some c → OrParts f g c
        by None None d e h = absurd (cc)
        by None (Some ls) d e h = absurd (cc)
        by (Some l) None d e h = absurd (cc)
        by (Some l) (Some []) d e h = absurd (some_literal g e)
        by (Some l) (Some (m ∷ ls)) d e h = record { first = l; second = m; others = ls; whole = cc; front = single f l d; back = e }

    sentence_ren : (name : List ℕ) (s : Reading) (c : ClauseTree) → literals_in (formula_in st [] s (named name no_raws)).tree ≡ Some c → Keeps (formula_in st [] s (named name no_raws)).reading → Again c (named name no_raws) s
    sentence_ren name s c h k =
        elim (cases_Bool (is_variable st [] name)) [
          | inl y ↦ absurd (let e = ap (λ (m : Made (Option ℕ)). literals_in (sentence_as st [] name m.tree m.reading).tree) (named_yes name s y) in let f : None ≡ Some c = sym e ∙ h in cc)
          | inr n ↦ elim (cases_Bool (bytes_eq name (codes "$T"))) [
            | inl y ↦ absurd (let e = ap (λ (m : Made Fol). literals_in m.tree) (gone n s ∙ cond-true (bytes_eq name (codes "$T")) _ _ y) in let f : None ≡ Some c = sym e ∙ h in cc)
            | inr a ↦ elim (cases_Bool (bytes_eq name (codes "$F"))) [
              | inl y ↦ absurd (let e = ap (λ (m : Made Fol). literals_in m.tree) (gone n s ∙ cond-false (bytes_eq name (codes "$T")) _ _ a ∙ cond-true (bytes_eq name (codes "$F")) _ _ y) in let f : None ≡ Some c = sym e ∙ h in cc)
              | inr b ↦ by_relation name no_raws s c (plain n a b s) (λ us e. subst (λ (xs : RawTrees). formula_in st [] (ren s) (named name xs) ≡ relation_of st [] name xs (ren s)) (sym e) (plain n a b (ren s))) h k
            ]
          ]
        ]
      where
        gone : is_variable st [] name ≡ false → (z : Reading) → sentence st [] name z ≡ sentence_as st [] name None z
        gone n z = ap (λ (m : Made (Option ℕ)). sentence_as st [] name m.tree m.reading) (named_none name z n)

        plain : is_variable st [] name ≡ false → bytes_eq name (codes "$T") ≡ false → bytes_eq name (codes "$F") ≡ false → (z : Reading) → sentence st [] name z ≡ relation_of st [] name no_raws z
        plain n a b z = gone n z ∙ cond-false (bytes_eq name (codes "$T")) _ _ a ∙ cond-false (bytes_eq name (codes "$F")) _ _ b

    one_ren : (b : Bool) (name : List ℕ) (t : RawTree) (s : Reading) (c : ClauseTree) → is_denial name ≡ b →
        ((d : ClauseTree) → literals_in (formula_in st [] s t).tree ≡ Some d → Keeps (formula_in st [] s t).reading → Again d t s) →
        literals_in (formula_in st [] s (named name (more_raws t no_raws))).tree ≡ Some c → Keeps (formula_in st [] s (named name (more_raws t no_raws))).reading → Again c (named name (more_raws t no_raws)) s
    one_ren true name t s c e ih h k =
        let d : formula_in st [] s (named name (more_raws t no_raws)) ≡ under negation (formula_in st [] s t) = cond-true (is_denial name) _ _ e in
        let p = denied_parts (formula_in st [] s t).tree c (ap (λ (m : Made Fol). literals_in m.tree) (sym d) ∙ h) in
        let kept : Keeps (formula_in st [] s t).reading = subst (λ (m : Made Fol). Keeps m.reading) d k in
        subst (λ (x : ClauseTree). Again x (named name (more_raws t no_raws)) s) p.whole
        (let one = ih (literal true p.atom_is ∷ []) p.positive kept in
        (denial_read st [] (ren s) (term_raw T canon p.atom_is) ∙ ap (under negation) one.0 ∙ sym (ap made_again d), one.1 ∙ ap (λ (m : Made Fol). so_far m.reading) (sym d)))
    one_ren false name t s c e ih h k =
        let d : (z : Reading) (x : RawTree) → formula_in st [] z (named name (more_raws x no_raws)) ≡ relation_of st [] name (more_raws x no_raws) z = λ z x. cond-false (is_denial name) _ _ e in
        by_relation name (more_raws t no_raws) s c (d s t) (λ us f. subst (λ (xs : RawTrees). formula_in st [] (ren s) (named name xs) ≡ relation_of st [] name xs (ren s)) (sym f) (d (ren s) (term_raw T canon (term_of st [] (with_symbol name (arity_of (more_raws t no_raws)) Relation (meets (is_element st name) UnfitNumeral s)) t).tree))) h k

    comparison_ren : (name : List ℕ) (t u : RawTree) (s : Reading) (c : ClauseTree) → connective_of name ≡ None →
        literals_in (formula_in st [] s (two name t u)).tree ≡ Some c → Keeps (formula_in st [] s (two name t u)).reading → Again c (two name t u) s
    comparison_ren name t u s c o h k =
        elim (cases_Bool (bytes_eq name (codes "="))) [
          | inl y ↦ (let d = whole s t u ∙ cond-true (bytes_eq name (codes "=")) _ _ y in
              let left = term_of st [] s t in
              let right = term_of st [] left.reading u in
              let a : Tree = app equality (more left.tree (more right.tree none)) in
              let f : Some (literal true a ∷ []) ≡ Some c = ap (λ (m : Made Fol). literals_in m.tree) (sym d) ∙ h in
              let e : literal true a ∷ [] ≡ c = cc in
              let kept = subst (λ (m : Made Fol). Keeps m.reading) d k in
              subst (λ (x : ClauseTree). Again x (two name t u) s) e (equation_ren t u s kept ∙ sym (ap made_again d), equation_noted t u s kept ∙ ap (λ (m : Made Fol). so_far m.reading) (sym d)))
          | inr n ↦ elim (cases_Bool (bytes_eq name (codes "!="))) [
            | inl y ↦ (let d = whole s t u ∙ cond-false (bytes_eq name (codes "=")) _ _ n ∙ cond-true (bytes_eq name (codes "!=")) _ _ y in
                let left = term_of st [] s t in
                let right = term_of st [] left.reading u in
                let a : Tree = app equality (more left.tree (more right.tree none)) in
                let f : Some (literal false a ∷ []) ≡ Some c = ap (λ (m : Made Fol). literals_in m.tree) (sym d) ∙ h in
                let e : literal false a ∷ [] ≡ c = cc in
                let kept = subst (λ (m : Made Fol). Keeps m.reading) d k in
                subst (λ (x : ClauseTree). Again x (two name t u) s) e (ap (under negation) (equation_ren t u s kept) ∙ sym (ap made_again d), equation_noted t u s kept ∙ ap (λ (m : Made Fol). so_far m.reading) (sym d)))
            | inr m ↦ by_relation name (more_raws t (more_raws u no_raws)) s c (plain n m s t u) (λ us f. subst (λ (xs : RawTrees). formula_in st [] (ren s) (named name xs) ≡ relation_of st [] name xs (ren s)) (sym f) (plain n m (ren s) (term_raw T canon (term_of st [] (with_symbol name (arity_of (more_raws t (more_raws u no_raws))) Relation (meets (is_element st name) UnfitNumeral s)) t).tree) (term_raw T canon (term_of st [] (term_of st [] (with_symbol name (arity_of (more_raws t (more_raws u no_raws))) Relation (meets (is_element st name) UnfitNumeral s)) t).reading u).tree))) h k
          ]
        ]
      where
        whole : (z : Reading) (x y : RawTree) → formula_in st [] z (two name x y) ≡ comparison st [] name x y z
        whole z x y = ap (λ (p : Option Connective). by_connective p (λ r. formula_in st [] r x) (λ r. formula_in st [] r y) (comparison st [] name x y) z) o

        plain : bytes_eq name (codes "=") ≡ false → bytes_eq name (codes "!=") ≡ false → (z : Reading) (x y : RawTree) → formula_in st [] z (two name x y) ≡ relation_of st [] name (more_raws x (more_raws y no_raws)) z
        plain n m z x y = whole z x y ∙ cond-false (bytes_eq name (codes "=")) _ _ n ∙ cond-false (bytes_eq name (codes "!=")) _ _ m

    two_ren : (o : Option Connective) (name : List ℕ) (t u : RawTree) (s : Reading) (c : ClauseTree) → connective_of name ≡ o →
        ((z : Reading) (d : ClauseTree) → literals_in (formula_in st [] z t).tree ≡ Some d → Keeps (formula_in st [] z t).reading → Again d t z) →
        ((z : Reading) (d : ClauseTree) → literals_in (formula_in st [] z u).tree ≡ Some d → Keeps (formula_in st [] z u).reading → Again d u z) →
        literals_in (formula_in st [] s (two name t u)).tree ≡ Some c → Keeps (formula_in st [] s (two name t u)).reading → Again c (two name t u) s
    two_ren None name t u s c o f g h k = comparison_ren name t u s c o h k
    two_ren (Some Or) name t u s c o f g h k =
        let left = formula_in st [] s t in
        let right = formula_in st [] left.reading u in
        let d = whole s in
        let p = or_parts left.tree right.tree c (ap (λ (m : Made Fol). literals_in m.tree) (sym d) ∙ h) in
        let kept : Keeps right.reading = subst (λ (m : Made Fol). Keeps m.reading) d k in
        let a = clause_raw T canon (p.first ∷ []) in
        let b = clause_raw T canon (p.second ∷ p.others) in
        let one = f s (p.first ∷ []) p.front (keeps_before left.reading right.reading (grows_formula st [] u left.reading) kept) in
        let other = g left.reading (p.second ∷ p.others) p.back kept in
        subst (λ (x : ClauseTree). Again x (two name t u) s) p.whole (
          ap (λ (m : Made Fol). under (disjunction m.tree) (formula_in st [] m.reading b)) one.0 ∙ ap (under (disjunction left.tree)) other.0 ∙ sym (ap made_again d),
          joined_joined (so_far s) (variables_of p.first.atom) (clause_variables (p.second ∷ p.others))
              ∙ ap (λ (xs : List ℕ). free.joined xs (clause_variables (p.second ∷ p.others))) one.1 ∙ other.1 ∙ ap (λ (m : Made Fol). so_far m.reading) (sym d),
        )
      where
        whole : (z : Reading) → formula_in st [] z (two name t u) ≡ connective_read disjunction (λ r. formula_in st [] r t) (λ r. formula_in st [] r u) z
        whole z = ap (λ (p : Option Connective). by_connective p (λ r. formula_in st [] r t) (λ r. formula_in st [] r u) (comparison st [] name t u) z) o
    two_ren (Some And) name t u s c o f g h k = absurd (let e = ap (λ (p : Option Connective). literals_in (by_connective p (λ r. formula_in st [] r t) (λ r. formula_in st [] r u) (comparison st [] name t u) s).tree) o in let n : None ≡ Some c = sym e ∙ h in cc)
    two_ren (Some IfThen) name t u s c o f g h k = absurd (let e = ap (λ (p : Option Connective). literals_in (by_connective p (λ r. formula_in st [] r t) (λ r. formula_in st [] r u) (comparison st [] name t u) s).tree) o in let n : None ≡ Some c = sym e ∙ h in cc)
    two_ren (Some ThenIf) name t u s c o f g h k = absurd (let e = ap (λ (p : Option Connective). literals_in (by_connective p (λ r. formula_in st [] r t) (λ r. formula_in st [] r u) (comparison st [] name t u) s).tree) o in let n : None ≡ Some c = sym e ∙ h in cc)
    two_ren (Some IfAndOnlyIf) name t u s c o f g h k = absurd (let e = ap (λ (p : Option Connective). literals_in (by_connective p (λ r. formula_in st [] r t) (λ r. formula_in st [] r u) (comparison st [] name t u) s).tree) o in let n : None ≡ Some c = sym e ∙ h in cc)

    pub formula_ren : (t : RawTree) (s : Reading) (c : ClauseTree) → literals_in (formula_in st [] s t).tree ≡ Some c → Keeps (formula_in st [] s t).reading → Again c t s
    formula_ren (quantified All x t) s c h k = absurd (cc)
    formula_ren (quantified Exists x t) s c h k = absurd (cc)
    formula_ren (named name no_raws) s c h k = sentence_ren name s c h k
    formula_ren (named name (more_raws t no_raws)) s c h k = one_ren (is_denial name) name t s c refl (λ d. formula_ren t s d) h k
    formula_ren (named name (more_raws t (more_raws u no_raws))) s c h k =
        two_ren (connective_of name) name t u s c refl (λ z d. formula_ren t z d) (λ z d. formula_ren u z d) h k
    formula_ren (named name (more_raws t (more_raws u (more_raws w ts)))) s c h k = by_relation name (more_raws t (more_raws u (more_raws w ts))) s c refl (λ us e. subst (λ (xs : RawTrees). formula_in st [] (ren s) (named name xs) ≡ relation_of st [] name xs (ren s)) (sym e) refl) h k
