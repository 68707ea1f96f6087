-- Elements that no input clause names, by the signature that has all but one.
use Rattle.std.proofs.Common.{◌≡◌, ℕ, true, false, not, ◌==◌, ◌||◌, List, [], ◌∷◌, refl, ap, ap₂}
use Rattle.std.proofs.lemmas.Bool.{or_parts, not-true}
use Rattle.fol_core.specs.Literals.{ClauseTree}
use Rattle.fol_core.specs.Occurs.{names_in, names_in_any}
use Rattle.fol_core.specs.Tree.{Tree, var, elem, app, Trees, none, more}
use Rattle.derivation.specs.Laws.{NamesNone, ContentNamesNone, LinesNameNone}
use Rattle.derivation.specs.Lines.{FirstWord, assumed, wanted, clausified, denied, copied, resolved, factored, paramodulated, xx_resolved, instantiated, ContentTree, formula, clause, LineTree, InputRow}
use Rattle.substitutions.specs.Bindings.{Binding}
use Rattle.std.specs.List.{AllByRecursion}
use Rattle.derivation_laws.specs.Elements.{NamesNot, ContentNamesNot, LinesNameNot, RowsNameNot, BindingsNameNot, FirstNamesNot, FirstsNameNot, ElementIsNowhere, LinesNameNoElements}
use Rattle.derivation_laws.specs.Signatures.{Signature, IsTermIn, AreTermsIn, IsAtomIn, IsClauseIn, RowsAreIn, ContentIsIn, LinesAreIn, PutsIn, LinesPutIn}
use Rattle.derivation_laws.proofs.Lines.{stay_in}

module _ (k : ℕ) where
  abbrev but_one : Signature
  but_one = record { elements = λ n. not (k == n); functions = λ f n. true; relations = λ r n. true }

  mutual
    term_in : (t : Tree) → names_in k t ≡ false → IsTermIn but_one t
    term_in (var x) h = tt
    term_in (elem n) h = ap not h
    term_in (app f ts) h = (refl, terms_in ts h)

    terms_in : (ts : Trees) → names_in_any k ts ≡ false → AreTermsIn but_one ts
    terms_in none h = tt
    terms_in (more t ts) h = let p = or_parts (names_in k t) (names_in_any k ts) h in (term_in t p.0, terms_in ts p.1)

  mutual
    in_term : (t : Tree) → IsTermIn but_one t → names_in k t ≡ false
    in_term (var x) i = refl
    in_term (elem n) i = not-true (k == n) i
    in_term (app f ts) i = in_terms ts i.1

    in_terms : (ts : Trees) → AreTermsIn but_one ts → names_in_any k ts ≡ false
    in_terms none i = refl
    in_terms (more t ts) i = ap₂ (λ a b. a || b) (in_term t i.0) (in_terms ts i.1)

  atom_in : (t : Tree) → names_in k t ≡ false → IsAtomIn but_one t
  atom_in (var x) h = λ f n. refl
  atom_in (elem n) h = ap not h
  atom_in (app r ts) h = (refl, terms_in ts h)

  in_atom : (t : Tree) → IsAtomIn but_one t → names_in k t ≡ false
  in_atom (var x) i = refl
  in_atom (elem n) i = not-true (k == n) i
  in_atom (app r ts) i = in_terms ts i.1

  clause_in : (c : ClauseTree) → NamesNot k c → IsClauseIn but_one c
  clause_in [] h = tt
  clause_in (l ∷ c) h = (atom_in l.atom h.0, clause_in c h.1)

  in_clause : (c : ClauseTree) → IsClauseIn but_one c → NamesNot k c
  in_clause [] i = tt
  in_clause (l ∷ c) i = (in_atom l.atom i.0, in_clause c i.1)

  rows_in : (rows : List InputRow) → RowsNameNot k rows → RowsAreIn but_one rows
  rows_in [] h = tt
  rows_in (r ∷ rows) h = (clause_in r.1 h.0, rows_in rows h.1)

  bindings_in : (es : List Binding) → BindingsNameNot k es → AllByRecursion (λ e. IsTermIn but_one e.1) es
  bindings_in [] h = tt
  bindings_in (e ∷ es) h = (term_in e.1 h.0, bindings_in es h.1)

  first_in : (w : FirstWord) → FirstNamesNot k w → PutsIn but_one w
  first_in assumed h = tt
  first_in wanted h = tt
  first_in (clausified n) h = tt
  first_in (denied n) h = tt
  first_in (copied n) h = tt
  first_in (resolved n ss) h = tt
  first_in (factored n a b) h = tt
  first_in (paramodulated n a side m b path) h = tt
  first_in (xx_resolved n a) h = tt
  first_in (instantiated n es) h = bindings_in es h

  firsts_in : (ls : List LineTree) → FirstsNameNot k ls → LinesPutIn but_one ls
  firsts_in [] h = tt
  firsts_in (l ∷ ls) h = (first_in l.first h.0, firsts_in ls h.1)

  in_content : (content : ContentTree) → ContentIsIn but_one content → ContentNamesNot k content
  in_content (formula f) i = tt
  in_content (clause c) i = in_clause c i

  in_lines : (ls : List LineTree) → LinesAreIn but_one ls → LinesNameNot k ls
  in_lines [] i = tt
  in_lines (l ∷ ls) i = (in_content l.content i.0, in_lines ls i.1)

pub element_nowhere : ElementIsNowhere
element_nowhere k ss rows ls inputs firsts h = in_lines k ls (stay_in (but_one k) ss rows ls (rows_in k rows inputs) (firsts_in k ls firsts) h)

-- none of the elements is named
clause_names_none : (c : ClauseTree) → ((k : ℕ) → NamesNot k c) → NamesNone c
clause_names_none [] h = tt
clause_names_none (l ∷ c) h = (λ k. (h k).0, clause_names_none c (λ k. (h k).1))

content_names_none : (content : ContentTree) → ((k : ℕ) → ContentNamesNot k content) → ContentNamesNone content
content_names_none (formula f) h = tt
content_names_none (clause c) h = clause_names_none c h

lines_name_none : (ls : List LineTree) → ((k : ℕ) → LinesNameNot k ls) → LinesNameNone ls
lines_name_none [] h = tt
lines_name_none (l ∷ ls) h = (content_names_none l.content (λ k. (h k).0), lines_name_none ls (λ k. (h k).1))

pub no_elements : LinesNameNoElements
no_elements ss rows ls inputs firsts h = lines_name_none ls (λ k. element_nowhere k ss rows ls (inputs k) (firsts k) h)
