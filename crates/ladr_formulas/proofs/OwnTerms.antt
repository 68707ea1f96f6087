-- The variables of a term that is read are known, and its symbols are of the table.
use Rattle.std.proofs.Common.{◌≡◌, inl, inr, ℕ, suc, ◌<◌, ◌==◌, Bool, true, false, ◌||◌, if◌then◌else◌, IsTrue, List, ◌∷◌, length, Option, Some, None, refl, sym, ◌∙◌, subst, arith}
use Rattle.std.proofs.lemmas.Bool.{or_cases, eqb-true, false≢true}
use Rattle.fol_core.specs.Bound.{has_symbol, have_symbol}
use Rattle.fol_core.specs.Free.{is_in, variables_of, variables_of_all}
use Rattle.fol_core.specs.RawTree.{RawTree, named, quantified, RawTrees, no_raws, more_raws}
use Rattle.fol_core.specs.Tree.{Tree, elem, app, Trees, none, more}
use Rattle.fol_core.specs.declared.symbols.Kind.{Kind}
use Rattle.fol_core.specs.declared.symbols.Kind.TheVariants.{Function}
use Rattle.fol_core.proofs.Variables.{is_in_joined}
use Rattle.ladr_lex.specs.Numeral.{limited_number_of}
use Rattle.ladr_lex.specs.declared.misuse.Misuse.TheVariants.{QuantifierInTerm, UnfitNumeral}
use Rattle.ladr_formulas.specs.Formulas.{Reading, Bound, Style, Made, meets, with_variable, with_symbol, symbol_number, is_too_great, is_element, named_variable, constant_as, constant, arity_of, term_of, terms_of}
use Rattle.ladr_formulas.proofs.OwnVariables.{Grows, grows_not, grows_on, grows_met, met, grows_variable, grows_symbol, number_below, IsKnown, known_still, variable_good}

-- what is read goes on from what was read; unless something was misused, its variables are known; its symbols are of the table
pub record TermGood (scope : List Bound) (s : Reading) (m : Made Tree) : Type 0 where
  pub grows : Grows s m.reading
  pub known : m.reading.least ≡ None → (x : ℕ) → IsTrue (is_in x (variables_of m.tree)) → IsKnown m.reading scope x
  pub below : (n : ℕ) → IsTrue (has_symbol n m.tree) → n < length m.reading.symbols

pub record TermsGood (scope : List Bound) (s : Reading) (m : Made Trees) : Type 0 where
  pub grows : Grows s m.reading
  pub known : m.reading.least ≡ None → (x : ℕ) → IsTrue (is_in x (variables_of_all m.tree)) → IsKnown m.reading scope x
  pub below : (n : ℕ) → IsTrue (have_symbol n m.tree) → n < length m.reading.symbols

-- a symbol that is entered, with terms behind it
pub applied_below : (name : List ℕ) (arity : ℕ) (kind : Kind) (s u : Reading) (ts : Trees) → Grows (with_symbol name arity kind s) u
    → ((n : ℕ) → IsTrue (have_symbol n ts) → n < length u.symbols) → (n : ℕ) → IsTrue (n == symbol_number name arity (with_symbol name arity kind s) || have_symbol n ts) → n < length u.symbols
applied_below name arity kind s u ts g below n h = elim (or_cases (n == symbol_number name arity (with_symbol name arity kind s)) (have_symbol n ts) h) [
  | inl e ↦ omega (arith, eqb-true n (symbol_number name arity (with_symbol name arity kind s)) e, number_below name arity kind s, g.table)
  | inr i ↦ below n i
]

constant_of : (st : Style) (scope : List Bound) (name : List ℕ) (s : Reading) (o : Option ℕ) (r : Reading) → Grows s r → ((n : ℕ) → o ≡ Some n → IsKnown r scope n)
    → TermGood scope s (constant_as st name o r)
constant_of st scope name s (Some n) r g known = record {
  grows = g;
  known = λ least x i. elim (or_cases (x == n) false i) [ inl e ↦ subst (IsKnown r scope) (sym (eqb-true x n e)) (known n refl) | inr e ↦ absurd (false≢true e) ];
  below = λ n i. absurd (false≢true i);
}
constant_of st scope name s None r g known = by (is_element st name)
  where
    after : Reading
    after = with_symbol name 0 Function r

    by : (b : Bool) → TermGood scope s (if b then record { tree = elem (limited_number_of name); reading = meets (is_too_great st name) UnfitNumeral r } else record { tree = app (symbol_number name 0 after) none; reading = after })
    by true = record {
      grows = grows_on s r (meets (is_too_great st name) UnfitNumeral r) g (grows_met (is_too_great st name) UnfitNumeral r);
      known = λ least x i. absurd (false≢true i);
      below = λ n i. absurd (false≢true i);
    }
    by false = record {
      grows = grows_on s r after g (grows_symbol name 0 Function r);
      known = λ least x i. absurd (false≢true i);
      below = applied_below name 0 Function r after none (grows_not after) (λ n i. absurd (false≢true i));
    }

constant_good : (st : Style) (scope : List Bound) (name : List ℕ) (s : Reading) → TermGood scope s (constant st scope name s)
constant_good st scope name s =
    let v = variable_good st scope name s in
    constant_of st scope name s (named_variable st scope name s).tree (named_variable st scope name s).reading v.grows v.known

-- a term and those behind it
more_good : (scope : List Bound) (s : Reading) (first : Made Tree) (others : Made Trees) → TermGood scope s first → TermsGood scope first.reading others
    → TermsGood scope s (record { tree = more first.tree others.tree; reading = others.reading })
more_good scope s first others f o = record {
  grows = grows_on s first.reading others.reading f.grows o.grows;
  known = λ least x i. elim (or_cases (is_in x (variables_of first.tree)) (is_in x (variables_of_all others.tree)) (sym (is_in_joined x (variables_of first.tree) (variables_of_all others.tree)) ∙ i)) [
    | inl j ↦ known_still first.reading others.reading scope x o.grows (f.known (o.grows.least least) x j)
    | inr j ↦ o.known least x j
  ];
  below = λ n i. elim (or_cases (has_symbol n first.tree) (have_symbol n others.tree) i) [ inl j ↦ omega (arith, f.below n j, o.grows.table) | inr j ↦ o.below n j ];
}

mutual
  pub term_good : (st : Style) (scope : List Bound) (s : Reading) (t : RawTree) → TermGood scope s (term_of st scope s t)
  term_good st scope s (quantified q x t) =
      let bad = meets true QuantifierInTerm s in
      let after = with_variable x false bad in
      let body = term_good st (record { name = x; number = length s.variables } ∷ scope) after t in
      let grown = grows_on s bad after (grows_met true QuantifierInTerm s) (grows_variable x false bad) in
      record {
        grows = grows_on s after (term_of st (record { name = x; number = length s.variables } ∷ scope) after t).reading grown body.grows;
        known = λ least y i. absurd (met QuantifierInTerm s (body.grows.least least));
        below = body.below;
      }
  term_good st scope s (named name no_raws) = constant_good st scope name s
  term_good st scope s (named name (more_raws t ts)) =
      let arity = suc (arity_of ts) in
      let great = meets (is_too_great st name) UnfitNumeral s in
      let after = with_symbol name arity Function great in
      let first = term_of st scope after t in
      let others = terms_of st scope first.reading ts in
      let all = more_good scope after first others (term_good st scope after t) (terms_good st scope first.reading ts) in
      record {
        grows = grows_on s after others.reading (grows_on s great after (grows_met (is_too_great st name) UnfitNumeral s) (grows_symbol name arity Function great)) all.grows;
        known = all.known;
        below = applied_below name arity Function great others.reading (more first.tree others.tree) all.grows all.below;
      }

  pub terms_good : (st : Style) (scope : List Bound) (s : Reading) (ts : RawTrees) → TermsGood scope s (terms_of st scope s ts)
  terms_good st scope s no_raws = record { grows = grows_not s; known = λ least x i. absurd (false≢true i); below = λ n i. absurd (false≢true i) }
  terms_good st scope s (more_raws t ts) =
      let first = term_of st scope s t in
      more_good scope s first (terms_of st scope first.reading ts) (term_good st scope s t) (terms_good st scope first.reading ts)
