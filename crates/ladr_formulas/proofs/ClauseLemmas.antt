-- Literals read one behind the other.
use Rattle.std.proofs.Common.{◌≡◌, ℕ, suc, Bool, true, false, List, [], ◌∷◌, length, Option, Some, None, ◌⊎◌, inl, inr, refl, sym, ap, ◌∙◌, append_assoc, append-nil}
use Rattle.std.specs.Prelude.{if◌then◌else◌, codes}
use Rattle.std.specs.Option.{option_map}
use Rattle.std.specs.Str.{bytes_eq}
use Rattle.std.proofs.lemmas.Bool.{cases_Bool}
use Rattle.std.proofs.lemmas.Slice.Eq.{bytes_eq-Decides}
use Rattle.fol_core.specs.Fol.{Fol, verum, falsum, equal, atom, negation, conjunction, disjunction, implication, equivalence, forall, exists}
use Rattle.fol_core.specs.Literals.{Lit, ClauseTree}
use Rattle.fol_core.specs.RawTree.{RawTree, named, quantified, no_raws, more_raws}
use Rattle.fol_core.specs.RawView.{raw_list}
use Rattle.fol_core.specs.declared.raw.Quantifier.{Quantifier}
use Rattle.fol_core.specs.declared.raw.Quantifier.TheVariants.{All, Exists}
use Rattle.fol_core.specs.declared.raw.Raw.{Raw}
use Rattle.ladr_reader.specs.Capped.{is_bar, disjuncts}
use Rattle.ladr_formulas.specs.ClauseIn.{literal_in, prepended, literals_in, clause_in}
use Rattle.ladr_formulas.specs.Formulas.{Style, Bound, Reading, Made, named_variable, with_variable, relation_of, sentence_as, under, bound_by, is_denial, connective_of, connective_read, joined_by, by_connective, comparison, formula_in}
use Rattle.ladr_formulas.specs.Literals.{formulas_in, all_literals, clause_from, with_literal, continued}
use Rattle.ladr_formulas.specs.declared.connectives.Connective.{Connective}
use Rattle.ladr_formulas.specs.declared.connectives.Connective.TheVariants.{And, Or, IfThen, ThenIf, IfAndOnlyIf}

-- what the clause so far and the literals to come make
abbrev pub onto_clause : Option ClauseTree → Made (List Fol) → Made (Option ClauseTree)
onto_clause c m = record { tree = continued c (all_literals m.tree); reading = m.reading }

continued_more : (c : Option ClauseTree) (o : Option Lit) (d : Option ClauseTree) → continued (with_literal c o) d ≡ continued c (prepended o d)
continued_more None o d = refl
continued_more (Some c) None d = refl
continued_more (Some c) (Some l) None = refl
continued_more (Some c) (Some l) (Some d) = ap (λ (e : ClauseTree). Some e) (append_assoc c (l ∷ []) d)

continued_none : (c : Option ClauseTree) → continued c (Some []) ≡ c
continued_none None = refl
continued_none (Some c) = ap (λ (d : ClauseTree). Some d) (append-nil c)

continued_first : (d : Option ClauseTree) → continued (Some []) d ≡ d
continued_first None = refl
continued_first (Some d) = refl

-- the next of the literals that wait is read
pub literals_next : (st : Style) (scope around : List Bound) (s t : Reading) (c d : Option ClauseTree) (f : Fol) (r : RawTree) (waiting rest : List RawTree) → waiting ≡ r ∷ rest
    → around ≡ scope → formula_in st around s r ≡ record { tree = f; reading = t } → d ≡ with_literal c (literal_in f)
    → onto_clause d (formulas_in st scope t rest) ≡ onto_clause c (formulas_in st scope s waiting)
literals_next st scope around s t c d f r waiting rest e same read made =
    let others = formulas_in st scope t rest in
    let first : formula_in st scope s r ≡ record { tree = f; reading = t } = ap (λ (b : List Bound). formula_in st b s r) (sym same) ∙ read in
    let all : formulas_in st scope s waiting ≡ record { tree = f ∷ others.tree; reading = others.reading } =
    ap (formulas_in st scope s) e
    ∙ ap (λ (m : Made Fol). let o = formulas_in st scope m.reading rest in record { tree = m.tree ∷ o.tree; reading = o.reading }) first in
    ap (λ (b : Option ClauseTree). onto_clause b others) made
    ∙ ap (λ (b : Option ClauseTree). record { tree = b; reading = others.reading }) (continued_more c (literal_in f) (all_literals others.tree))
    ∙ ap (onto_clause c) (sym all)

-- where none waits the clause so far is all
pub literals_over : (st : Style) (scope : List Bound) (last first : Reading) (c : Option ClauseTree) (waiting all rs : List RawTree) → waiting ≡ [] → all ≡ rs
    → onto_clause c (formulas_in st scope last waiting) ≡ onto_clause (Some []) (formulas_in st scope first all)
    → (c ≡ all_literals (formulas_in st scope first rs).tree) × (last ≡ (formulas_in st scope first rs).reading)
literals_over st scope last first c waiting all rs h e so =
    let none : onto_clause c (formulas_in st scope last []) ≡ onto_clause (Some []) (formulas_in st scope first rs) =
    ap (λ (l : List RawTree). onto_clause c (formulas_in st scope last l)) (sym h) ∙ so ∙ ap (λ (l : List RawTree). onto_clause (Some []) (formulas_in st scope first l)) e in (
      sym (continued_none c) ∙ ap (λ (m : Made (Option ClauseTree)). m.tree) none ∙ continued_first (all_literals (formulas_in st scope first rs).tree),
      ap (λ (m : Made (Option ClauseTree)). m.reading) none,
    )

-- the reading of a disjunction is that of its disjuncts
abbrev is_or : Fol → Bool
is_or (disjunction f g) = true
is_or f = false

choice : {A : Type 0} (P : A → Type 0) (b : Bool) (x y : A) → P x → P y → P (if b then x else y)
choice P true x y h k = h
choice P false x y h k = k

abbrev NoOr : Made Fol → Type 0
NoOr m = is_or m.tree ≡ false

sentence_no : (st : Style) (scope : List Bound) (name : List ℕ) (o : Option ℕ) (s : Reading) → NoOr (sentence_as st scope name o s)
sentence_no st scope name (Some n) s = refl
sentence_no st scope name None s = choice NoOr (bytes_eq name (codes "$T")) _ _ refl (choice NoOr (bytes_eq name (codes "$F")) _ _ refl refl)

comparison_no : (st : Style) (scope : List Bound) (name : List ℕ) (t u : RawTree) (s : Reading) → NoOr (comparison st scope name t u s)
comparison_no st scope name t u s = choice NoOr (bytes_eq name (codes "=")) _ _ refl (choice NoOr (bytes_eq name (codes "!=")) _ _ refl refl)

bound_no : (q : Quantifier) (n : ℕ) (f : Fol) → is_or (bound_by q n f) ≡ false
bound_no All n f = refl
bound_no Exists n f = refl

no_or : (c : Option Connective) (f g o : Reading → Made Fol) (s : Reading) → (c ≡ Some Or → ⊥) → NoOr (o s) → NoOr (by_connective c f g o s)
no_or None f g o s h k = k
no_or (Some And) f g o s h k = refl
no_or (Some Or) f g o s h k = absurd (h refl)
no_or (Some IfThen) f g o s h k = refl
no_or (Some ThenIf) f g o s h k = refl
no_or (Some IfAndOnlyIf) f g o s h k = refl

not_or_of : (name : List ℕ) → is_bar name ≡ false → connective_of name ≡ Some Or → ⊥
not_or_of name b e = by (bytes_eq name (codes "&")) refl (bytes_eq name (codes "->")) refl (bytes_eq name (codes "<-")) refl (bytes_eq name (codes "<->")) refl
  where
    by : (a : Bool) → bytes_eq name (codes "&") ≡ a → (c : Bool) → bytes_eq name (codes "->") ≡ c → (d : Bool) → bytes_eq name (codes "<-") ≡ d → (f : Bool) → bytes_eq name (codes "<->") ≡ f → ⊥
    by true w c x d y f z = let g : connective_of name ≡ Some And = rw w refl in cc
    by false w true x d y f z = let g : connective_of name ≡ Some IfThen = rw (w, b, x) refl in cc
    by false w false x true y f z = let g : connective_of name ≡ Some ThenIf = rw (w, b, x, y) refl in cc
    by false w false x false y true z = let g : connective_of name ≡ Some IfAndOnlyIf = rw (w, b, x, y, z) refl in cc
    by false w false x false y false z = let g : connective_of name ≡ None = rw (w, b, x, y, z) refl in cc

bar_or : (name : List ℕ) → is_bar name ≡ true → connective_of name ≡ Some Or
bar_or name b =
    let e : name ≡ codes "|" = (bytes_eq-Decides name (codes "|")).0 b in
    ap connective_of e

one_literal : (o : Option Lit) → option_map (λ l. l ∷ []) o ≡ prepended o (Some [])
one_literal None = refl
one_literal (Some l) = refl

lone : (f : Fol) → is_or f ≡ false → literals_in f ≡ all_literals (f ∷ [])
lone verum h = refl
lone falsum h = refl
lone (equal s t) h = refl
lone (atom r ts) h = refl
lone (negation f) h = one_literal (literal_in (negation f))
lone (conjunction f g) h = refl
lone (disjunction f g) h = absurd (cc)
lone (implication f g) h = refl
lone (equivalence f g) h = refl
lone (forall x f) h = refl
lone (exists x f) h = refl

lone_clause : (f : Fol) → is_or f ≡ false → clause_from (f ∷ []) ≡ clause_in f
lone_clause verum h = refl
lone_clause falsum h = refl
lone_clause (equal s t) h = refl
lone_clause (atom r ts) h = refl
lone_clause (negation f) h = sym (one_literal (literal_in (negation f)))
lone_clause (conjunction f g) h = refl
lone_clause (disjunction f g) h = absurd (cc)
lone_clause (implication f g) h = refl
lone_clause (equivalence f g) h = refl
lone_clause (forall x f) h = refl
lone_clause (exists x f) h = refl

-- the disjuncts of a term are read as the formula that it is
pub record Reads (st : Style) (s : Reading) (t : RawTree) : Type 0 where
  pub reading : (formulas_in st [] s (disjuncts t)).reading ≡ (formula_in st [] s t).reading
  pub literals : all_literals (formulas_in st [] s (disjuncts t)).tree ≡ literals_in (formula_in st [] s t).tree
  pub clause : clause_from (formulas_in st [] s (disjuncts t)).tree ≡ clause_in (formula_in st [] s t).tree

alone : (st : Style) (s : Reading) (t : RawTree) → disjuncts t ≡ t ∷ [] → NoOr (formula_in st [] s t) → Reads st s t
alone st s t e n =
    let all = ap (formulas_in st [] s) e in
    record {
      reading = ap (λ (m : Made (List Fol)). m.reading) all;
      literals = ap (λ (m : Made (List Fol)). all_literals m.tree) all ∙ sym (lone (formula_in st [] s t).tree n);
      clause = ap (λ (m : Made (List Fol)). clause_from m.tree) all ∙ lone_clause (formula_in st [] s t).tree n;
    }

-- there is always a first disjunct
first_disjunct : (t : RawTree) → (u : RawTree) × (us : List RawTree) × (disjuncts t ≡ u ∷ us)
first_disjunct (quantified q x t) = (quantified q x t, [], refl)
first_disjunct (named s no_raws) = (named s no_raws, [], refl)
first_disjunct (named s (more_raws t no_raws)) = (named s (more_raws t no_raws), [], refl)
first_disjunct (named s (more_raws t (more_raws u (more_raws v ts)))) = (named s (more_raws t (more_raws u (more_raws v ts))), [], refl)
first_disjunct (named s (more_raws t (more_raws u no_raws))) =
    elim (cases_Bool (is_bar s)) [
      | inl y ↦ (t, disjuncts u, rw y refl)
      | inr n ↦ (named s (more_raws t (more_raws u no_raws)), [], rw n refl)
    ]

several : (st : Style) (r : Reading) (f : Fol) (u : RawTree) → clause_from (f ∷ (formulas_in st [] r (disjuncts u)).tree) ≡ all_literals (f ∷ (formulas_in st [] r (disjuncts u)).tree)
several st r f u =
    let first = first_disjunct u in
    let e = ap (λ (ts : List RawTree). (formulas_in st [] r ts).tree) first.2 in
    ap (λ (fs : List Fol). clause_from (f ∷ fs)) e ∙ sym (ap (λ (fs : List Fol). all_literals (f ∷ fs)) e)

pub reads : (st : Style) (s : Reading) (t : RawTree) → Reads st s t
reads st s (quantified q x t) = alone st s (quantified q x t) refl (bound_no q (length s.variables) (formula_in st (record { name = x; number = length s.variables } ∷ []) (with_variable x false s) t).tree)
reads st s (named name no_raws) = alone st s (named name no_raws) refl (let v = named_variable st [] name s in sentence_no st [] name v.tree v.reading)
reads st s (named name (more_raws t no_raws)) =
    alone st s (named name (more_raws t no_raws)) refl
    (choice NoOr (is_denial name) (under negation (formula_in st [] s t)) (relation_of st [] name (more_raws t no_raws) s) refl refl)
reads st s (named name (more_raws t (more_raws u (more_raws v ts)))) = alone st s (named name (more_raws t (more_raws u (more_raws v ts)))) refl refl
reads st s (named name (more_raws t (more_raws u no_raws))) = by (cases_Bool (is_bar name)) (λ r. reads st r u)
  where
    by : (is_bar name ≡ true) ⊎ (is_bar name ≡ false) → ((r : Reading) → Reads st r u) → Reads st s (named name (more_raws t (more_raws u no_raws)))
    by (inr n) others =
        alone st s (named name (more_raws t (more_raws u no_raws))) (rw n refl)
        (no_or (connective_of name) (λ r. formula_in st [] r t) (λ r. formula_in st [] r u) (comparison st [] name t u) s (not_or_of name n) (comparison_no st [] name t u s))
    by (inl y) others =
        let first = formula_in st [] s t in
        let rest = others first.reading in
        let parts : disjuncts (named name (more_raws t (more_raws u no_raws))) ≡ t ∷ disjuncts u = rw y refl in
        let all = ap (formulas_in st [] s) parts in
        let made : formula_in st [] s (named name (more_raws t (more_raws u no_raws))) ≡ connective_read (joined_by Or) (λ r. formula_in st [] r t) (λ r. formula_in st [] r u) s =
        ap (λ (o : Option Connective). by_connective o (λ r. formula_in st [] r t) (λ r. formula_in st [] r u) (comparison st [] name t u) s) (bar_or name y) in
        let literals = ap (prepended (literal_in first.tree)) rest.literals in
        record {
          reading = ap (λ (m : Made (List Fol)). m.reading) all ∙ rest.reading ∙ sym (ap (λ (m : Made Fol). m.reading) made);
          literals = ap (λ (m : Made (List Fol)). all_literals m.tree) all ∙ literals ∙ sym (ap (λ (m : Made Fol). literals_in m.tree) made);
          clause = ap (λ (m : Made (List Fol)). clause_from m.tree) all ∙ several st first.reading first.tree u ∙ literals ∙ sym (ap (λ (m : Made Fol). clause_in m.tree) made);
        }

-- other than one
pub not_one : (st : Style) (scope : List Bound) (r : Reading) (ts : List RawTree) → (length ts ≡ 1 → ⊥) → all_literals (formulas_in st scope r ts).tree ≡ clause_from (formulas_in st scope r ts).tree
not_one st scope r [] h = refl
not_one st scope r (t ∷ []) h = absurd (h refl)
not_one st scope r (t ∷ u ∷ ts) h = refl

pub raws_length : (rs : List Raw) → length (raw_list rs) ≡ length rs
raws_length [] = refl
raws_length (r ∷ rs) = ap suc (raws_length rs)

-- one literal
pub only_one : (st : Style) (scope : List Bound) (s t : Reading) (f : Fol) (r : RawTree) (rs : List RawTree) → rs ≡ r ∷ [] → formula_in st scope s r ≡ record { tree = f; reading = t }
    → formulas_in st scope s rs ≡ record { tree = f ∷ []; reading = t }
only_one st scope s t f r rs e h =
    ap (formulas_in st scope s) e ∙ ap (λ (m : Made Fol). record { tree = m.tree ∷ []; reading = m.reading }) h
