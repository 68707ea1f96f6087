-- Literals that break no row are those of a clause.
use Rattle.std.proofs.Common.{◌≡◌, ◌∙◌, ℕ, suc, ◌==◌, Bool, true, false, not, ◌||◌, ◌&&◌, List, [], ◌∷◌, Option, Some, None, refl, ap, sym, subst, arith}
use Rattle.std.specs.Prelude.{codes}
use Rattle.std.specs.List.{list_all}
use Rattle.std.specs.Str.{bytes_eq}
use Rattle.std.proofs.lemmas.Bool.{false≢true}
use Rattle.std.proofs.lemmas.Bool.Decides.{nat_tests}
use Rattle.std.proofs.lemmas.Slice.Eq.{bytes_eq-Decides}
use Rattle.fol_core.specs.Fol.{Fol, verum, falsum, equal, atom, negation, conjunction, disjunction, implication, equivalence, forall, exists}
use Rattle.fol_core.specs.Literals.{Lit, ClauseTree}
use Rattle.fol_core.specs.RawTree.{RawTree, named, quantified, no_raws, more_raws}
use Rattle.fol_core.specs.SymbolTable.{Symbol}
use Rattle.ladr_formulas.specs.ClauseIn.{atom_in, literal_in, prepended, clause_in}
use Rattle.ladr_formulas.specs.Formulas.{Bound, Reading, meets, named_variable, sentence_as, arity_of, is_denial, connective_of, by_connective, comparison, formula_in, formula_reading, unread}
use Rattle.ladr_formulas.specs.Literals.{formulas_in, all_literals, clause_from, is_falsum}
use Rattle.ladr_formulas.specs.declared.connectives.Connective.{Connective}
use Rattle.ladr_formulas.specs.declared.styles.Style.{Style}
use Rattle.ladr_formulas.proofs.ClauseLemmas.{reads}
use Rattle.ladr_formulas.proofs.Growing.{Grows, same, beyond, grows_formula}
use Rattle.ladr_lex.specs.declared.misuse.Misuse.{Misuse}
use Rattle.ladr_reader.specs.Capped.{disjuncts}
use Rattle.ladr_rules.specs.Shapes.{is_atom}
use Rattle.proof_lines.specs.Literals.{joins_formulas, reads_as_atom, reads_as_literal, is_false, read_as_clause}

-- there is a value
abbrev pub HasSome : {A : Type 0} → Option A → Type 0
HasSome {A} o = (x : A) × (o ≡ Some x)

none_of : (n : ℕ) → (suc (suc n) == 0) ≡ false
none_of n = grind (arith, nat_tests)

and_left : (a b : Bool) → (a && b) ≡ true → a ≡ true
and_left true b e = refl
and_left false b e = absurd (false≢true e)

or_parts : (a b : Bool) → (a || b) ≡ false → (a ≡ false) × (b ≡ false)
or_parts true b e = absurd (false≢true (sym e))
or_parts false b e = (refl, e)

or_else : (a b : Bool) → (a || b) ≡ true → a ≡ false → b ≡ true
or_else true b e i = absurd (false≢true (sym i))
or_else false b e i = e

neither : (a b : Bool) → not (a || b) ≡ true → (a ≡ false) × (b ≡ false)
neither true b e = absurd (false≢true e)
neither false true e = absurd (false≢true e)
neither false false e = (refl, refl)

not_it : (a : Bool) → not a ≡ true → a ≡ false
not_it true e = absurd (false≢true e)
not_it false e = refl

atom_some : (b : Bool) (f : Fol) → is_atom f ≡ true → HasSome (atom_in b f)
atom_some b (equal s t) h = (_, refl)
atom_some b (atom r ts) h = (_, refl)
atom_some b verum h = absurd (false≢true h)
atom_some b falsum h = absurd (false≢true h)
atom_some b (negation f) h = absurd (false≢true h)
atom_some b (conjunction f g) h = absurd (false≢true h)
atom_some b (disjunction f g) h = absurd (false≢true h)
atom_some b (implication f g) h = absurd (false≢true h)
atom_some b (equivalence f g) h = absurd (false≢true h)
atom_some b (forall x f) h = absurd (false≢true h)
atom_some b (exists x f) h = absurd (false≢true h)

literal_some : (f : Fol) → is_atom f ≡ true → HasSome (literal_in f)
literal_some (equal s t) h = (_, refl)
literal_some (atom r ts) h = (_, refl)
literal_some verum h = absurd (false≢true h)
literal_some falsum h = absurd (false≢true h)
literal_some (negation f) h = absurd (false≢true h)
literal_some (conjunction f g) h = absurd (false≢true h)
literal_some (disjunction f g) h = absurd (false≢true h)
literal_some (implication f g) h = absurd (false≢true h)
literal_some (equivalence f g) h = absurd (false≢true h)
literal_some (forall x f) h = absurd (false≢true h)
literal_some (exists x f) h = absurd (false≢true h)

sentence_atom : (st : Style) (scope : List Bound) (name : List ℕ) (o : Option ℕ) (r : Reading) → bytes_eq name (codes "$T") ≡ false → bytes_eq name (codes "$F") ≡ false
    → (sentence_as st scope name o r).reading.least ≡ None → is_atom (sentence_as st scope name o r).tree ≡ true
sentence_atom st scope name (Some n) r a b e = absurd cc
sentence_atom st scope name None r a b e = rw (a, b) refl

-- of names that join nothing
joins_none : (name : List ℕ) → joins_formulas name ≡ false → (connective_of name ≡ None) × (bytes_eq name (codes "!=") ≡ false)
joins_none name h =
    let g = or_parts _ (bytes_eq name (codes "#")) h in
    let f = or_parts _ (bytes_eq name (codes "!=")) g.0 in
    let e = or_parts _ (bytes_eq name (codes "<->")) f.0 in
    let d = or_parts _ (bytes_eq name (codes "<-")) e.0 in
    let c = or_parts _ (bytes_eq name (codes "->")) d.0 in
    let b = or_parts (bytes_eq name (codes "&")) (bytes_eq name (codes "|")) c.0 in
    (rw (b.0, b.1, c.1, d.1, e.1) refl, f.1)

comparison_atom : (st : Style) (scope : List Bound) (name : List ℕ) (t u : RawTree) (s : Reading) → bytes_eq name (codes "!=") ≡ false → is_atom (comparison st scope name t u s).tree ≡ true
comparison_atom st scope name t u s n = by (bytes_eq name (codes "=")) refl
  where
    by : (b : Bool) → bytes_eq name (codes "=") ≡ b → is_atom (comparison st scope name t u s).tree ≡ true
    by true e = rw e refl
    by false e = rw (e, n) refl

two_atom : (st : Style) (scope : List Bound) (name : List ℕ) (t u : RawTree) (s : Reading) → joins_formulas name ≡ false
    → is_atom (formula_in st scope s (named name (more_raws t (more_raws u no_raws)))).tree ≡ true
two_atom st scope name t u s h =
    let none = joins_none name h in
    ap (λ (o : Option Connective). is_atom (by_connective o (λ r. formula_in st scope r t) (λ r. formula_in st scope r u) (comparison st scope name t u) s).tree) none.0
    ∙ comparison_atom st scope name t u s none.1

-- an atom that breaks no row is a relation or an equation
atom_read : (st : Style) (scope : List Bound) (s : Reading) (t : RawTree) → reads_as_atom t ≡ true → (formula_in st scope s t).reading.least ≡ None → is_atom (formula_in st scope s t).tree ≡ true
atom_read st scope s (quantified q x t) h e = absurd (false≢true h)
atom_read st scope s (named name no_raws) h e =
    let n = neither (bytes_eq name (codes "$T")) (bytes_eq name (codes "$F")) h in
    let v = named_variable st scope name s in
    sentence_atom st scope name v.tree v.reading n.0 n.1 e
atom_read st scope s (named name (more_raws t no_raws)) h e = (let n : is_denial name ≡ false = not_it (is_denial name) h in rw n refl)
atom_read st scope s (named name (more_raws t (more_raws u no_raws))) h e = two_atom st scope name t u s (not_it (joins_formulas name) h)
atom_read st scope s (named name (more_raws t (more_raws u (more_raws v ts)))) h e = refl

denied_some : (f : Fol) → is_atom f ≡ true → HasSome (literal_in (negation f))
denied_some f h = atom_some false f h

-- a literal that breaks no row is one of a clause
literal_read : (st : Style) (scope : List Bound) (s : Reading) (t : RawTree) → reads_as_literal t ≡ true → (formula_in st scope s t).reading.least ≡ None → HasSome (literal_in (formula_in st scope s t).tree)
literal_read st scope s (quantified q x t) h e = absurd (false≢true h)
literal_read st scope s (named name no_raws) h e = literal_some (formula_in st scope s (named name no_raws)).tree (atom_read st scope s (named name no_raws) h e)
literal_read st scope s (named name (more_raws t no_raws)) h e = by (is_denial name) refl
  where
    by : (b : Bool) → is_denial name ≡ b → HasSome (literal_in (formula_in st scope s (named name (more_raws t no_raws))).tree)
    by true i = rw i (denied_some (formula_in st scope s t).tree (atom_read st scope s t (rw i at h) (rw i at e)))
    by false i = rw i (_, refl)
literal_read st scope s (named name (more_raws t (more_raws u no_raws))) h e = by (bytes_eq name (codes "!=")) refl
  where
    by : (b : Bool) → bytes_eq name (codes "!=") ≡ b → HasSome (literal_in (formula_in st scope s (named name (more_raws t (more_raws u no_raws)))).tree)
    by true i = (let is : name ≡ codes "!=" = (bytes_eq-Decides name (codes "!=")).0 i in subst (λ n. HasSome (literal_in (formula_in st scope s (named n (more_raws t (more_raws u no_raws)))).tree)) (sym is) (_, refl))
    by false i = literal_some (formula_in st scope s (named name (more_raws t (more_raws u no_raws)))).tree (two_atom st scope name t u s (not_it (joins_formulas name) (or_else (bytes_eq name (codes "!=")) (not (joins_formulas name)) h i)))
literal_read st scope s (named name (more_raws t (more_raws u (more_raws v ts)))) h e = (_, refl)

prepended_some : (o : Option Lit) (c : Option ClauseTree) → HasSome o → HasSome c → HasSome (prepended o c)
prepended_some o c h k = (h.0 ∷ k.0, ap (λ l. prepended l c) h.1 ∙ ap (prepended (Some h.0)) k.1)

grows_all : (st : Style) (s : Reading) (ts : List RawTree) → Grows s (formulas_in st [] s ts).reading
grows_all st s [] = same s
grows_all st s (t ∷ ts) =
    let first = formula_in st [] s t in
    beyond s first.reading _ (grows_formula st [] t s) (grows_all st first.reading ts)

and_both : (a b : Bool) → (a && b) ≡ true → (a ≡ true) × (b ≡ true)
and_both true b e = (refl, e)
and_both false b e = absurd (false≢true e)

all_read : (st : Style) (s : Reading) (ts : List RawTree) → list_all reads_as_literal ts ≡ true → (formulas_in st [] s ts).reading.least ≡ None → HasSome (all_literals (formulas_in st [] s ts).tree)
all_read st s [] h e = ([], refl)
all_read st s (t ∷ ts) h e =
    let parts = and_both (reads_as_literal t) (list_all reads_as_literal ts) h in
    let first = formula_in st [] s t in
    prepended_some (literal_in first.tree) (all_literals (formulas_in st [] first.reading ts).tree)
    (literal_read st [] s t parts.0 ((grows_all st first.reading ts).sound e))
    (all_read st first.reading ts parts.1 e)

one_clause : (f : Fol) → HasSome (all_literals (f ∷ [])) → HasSome (clause_from (f ∷ []))
one_clause f h = by (is_falsum f) refl
  where
    by : (b : Bool) → is_falsum f ≡ b → HasSome (clause_from (f ∷ []))
    by true e = rw e ([], refl)
    by false e = rw e h

-- `$F` is no variable
false_read : (st : Style) (s : Reading) → (formula_in st [] s (named (codes "$F") no_raws)).tree ≡ falsum
unfolding named_variable
false_read st s = by st.prolog refl
  where
    by : (b : Bool) → st.prolog ≡ b → (formula_in st [] s (named (codes "$F") no_raws)).tree ≡ falsum
    by true e = rw e refl
    by false e = rw e refl

lone_false : (st : Style) (s : Reading) (t : RawTree) → is_false t ≡ true → (formula_in st [] s t).tree ≡ falsum
lone_false st s (quantified q x t) h = absurd (false≢true h)
lone_false st s (named name no_raws) h = (let is : name ≡ codes "$F" = (bytes_eq-Decides name (codes "$F")).0 h in subst (λ n. (formula_in st [] s (named n no_raws)).tree ≡ falsum) (sym is) (false_read st s))
lone_false st s (named name (more_raws t no_raws)) h = absurd (false≢true h)
lone_false st s (named name (more_raws t (more_raws u ts))) h = absurd (false≢true (sym (none_of (arity_of ts)) ∙ and_left (suc (suc (arity_of ts)) == 0) _ h))

clause_read : (st : Style) (s : Reading) (ts : List RawTree) → read_as_clause ts ≡ true → (formulas_in st [] s ts).reading.least ≡ None → HasSome (clause_from (formulas_in st [] s ts).tree)
clause_read st s [] h e = ([], refl)
clause_read st s (t ∷ u ∷ ts) h e = all_read st s (t ∷ u ∷ ts) h e
clause_read st s (t ∷ []) h e = by (is_false t) refl
  where
    by : (b : Bool) → is_false t ≡ b → HasSome (clause_from (formulas_in st [] s (t ∷ [])).tree)
    by true i = ([], ap (λ f. clause_from (f ∷ [])) (lone_false st s t i))
    by false i = (let l : reads_as_literal t ≡ true = or_else (is_false t) (reads_as_literal t) h i in one_clause (formula_in st [] s t).tree (all_read st s (t ∷ []) (rw l refl) e))

-- disjuncts of a clause that break no row are one
pub clause_stated : (st : Style) (table : List Symbol) (t : RawTree) → read_as_clause (disjuncts t) ≡ true → (formula_reading st table t).reading.least ≡ None → HasSome (clause_in (formula_reading st table t).tree)
clause_stated st table t h e =
    let r = reads st (unread table) t in
    let c = clause_read st (unread table) (disjuncts t) h (ap (λ (m : Reading). m.least) r.reading ∙ e) in
    (c.0, sym r.clause ∙ c.1)

pub meets_none : (b : Bool) (m : Misuse) (s : Reading) → (meets b m s).least ≡ None → s.least ≡ None
meets_none true m s e = absurd cc
meets_none false m s e = e
