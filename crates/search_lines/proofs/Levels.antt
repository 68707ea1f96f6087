-- The levels of what clauses and formulas are printed as, and of their atoms.
use Rattle.std.proofs.Common.{◌≡◌, ℕ, ◌≤◌, true, false, not, List, [], ◌∷◌, refl, ap, ◌∙◌, arith}
use Rattle.std.specs.Prelude.{Option, Some, None, codes}
use Rattle.std.specs.Str.{bytes_eq}
use Rattle.std.proofs.lemmas.Bool.{cond_both}
use Rattle.std.proofs.lemmas.Bool.Decides.{nat_tests}
use Rattle.fol_core.specs.Fol.{Fol, verum, falsum, equal, atom, negation, conjunction, disjunction, implication, equivalence, forall, exists}
use Rattle.fol_core.specs.Literals.{Lit, ClauseTree}
use Rattle.fol_core.specs.RawTree.{RawTree, named, quantified, no_raws, more_raws, depth, depth_of as raws_depth}
use Rattle.fol_core.specs.Sizes.{depth_of, depths_of}
use Rattle.fol_core.specs.SymbolTable.{Symbol}
use Rattle.fol_core.specs.Tree.{Tree, var, elem, app, Trees, none, more}
use Rattle.ladr_formulas.specs.Formulas.{is_denial}
use Rattle.ladr_print.specs.ClauseText.{literal_raw, clause_raw}
use Rattle.ladr_print.specs.FormulaText.{two, denial, formula_raw, with_attribute}
use Rattle.ladr_print.specs.TermText.{Naming, term_raw, terms_raw}
use Rattle.ladr_reader.specs.Capped.{is_bar, disjuncts}
use Rattle.proof_lines.specs.Literals.{undenied, are_shallow}
use Rattle.proof_lines.specs.Stated.{is_too_deep}
use Rattle.prover_steps.specs.Searching.{clause_depth}
use Rattle.search_lines.proofs.Atoms.{Atoms, AllAtoms}

undenied_less : (t : RawTree) → depth (undenied t) ≤ depth t
undenied_less (quantified q x t) = omega arith
undenied_less (named s no_raws) = omega arith
undenied_less (named s (more_raws t no_raws)) = cond_both (is_denial s) _ _ (λ (r : RawTree). depth r ≤ depth (named s (more_raws t no_raws))) (λ e. omega arith) (λ e. omega arith)
undenied_less (named s (more_raws t (more_raws u ts))) = omega arith

-- a term of at most 1,000 levels, without a denial in front, is shallow
one_shallow : (t : RawTree) → depth (undenied t) ≤ 1000 → are_shallow (t ∷ []) ≡ true
one_shallow t h = grind (arith, nat_tests)

front_shallow : (t : RawTree) (ts : List RawTree) → depth (undenied t) ≤ 1000 → are_shallow ts ≡ true → are_shallow (t ∷ ts) ≡ true
front_shallow t ts h k = grind (arith, nat_tests)

term_shallow : (t : RawTree) → depth t ≤ 1000 → are_shallow (disjuncts t) ≡ true
term_shallow (quantified q x t) h = one_shallow (quantified q x t) h
term_shallow (named s no_raws) h = one_shallow (named s no_raws) h
term_shallow (named s (more_raws t no_raws)) h = one_shallow (named s (more_raws t no_raws)) (omega (arith, h, undenied_less (named s (more_raws t no_raws))))
term_shallow (named s (more_raws t (more_raws u no_raws))) h =
    cond_both (is_bar s) _ _ (λ (ts : List RawTree). are_shallow ts ≡ true)
    (λ e. front_shallow t (disjuncts u) (omega (arith, h, undenied_less t)) (term_shallow u (omega (arith, h)))) (λ e. one_shallow (two s t u) h)
term_shallow (named s (more_raws t (more_raws u (more_raws w ts)))) h = one_shallow (named s (more_raws t (more_raws u (more_raws w ts)))) h

-- a denial may have one level more
denied_levels : (t : RawTree) → depth t ≤ 1000 → depth (undenied (denial t)) ≤ 1000
denied_levels (quantified q x t) h = h
denied_levels (named n no_raws) h = h
denied_levels (named n (more_raws t no_raws)) h = h
denied_levels (named n (more_raws t (more_raws u no_raws))) h = cond_both (bytes_eq n (codes "=")) _ _ (λ (r : RawTree). depth (undenied r) ≤ 1000) (λ e. omega (arith, h)) (λ e. h)
denied_levels (named n (more_raws t (more_raws u (more_raws w ts)))) h = h

denied_one : (t : RawTree) → disjuncts (denial t) ≡ denial t ∷ []
denied_one (quantified q x t) = refl
denied_one (named n no_raws) = refl
denied_one (named n (more_raws t no_raws)) = refl
denied_one (named n (more_raws t (more_raws u no_raws))) = cond_both (bytes_eq n (codes "=")) _ _ (λ (r : RawTree). disjuncts r ≡ r ∷ []) (λ e. refl) (λ e. refl)
denied_one (named n (more_raws t (more_raws u (more_raws w ts)))) = refl

denied_shallow : (t : RawTree) → depth t ≤ 1000 → are_shallow (disjuncts (denial t)) ≡ true
denied_shallow t h = ap are_shallow (denied_one t) ∙ one_shallow (denial t) (denied_levels t h)

module _ (T : List Symbol) (v : Naming) where
  mutual
    pub term_levels : (t : Tree) → depth (term_raw T v t) ≡ depth_of t
    term_levels (var x) = refl
    term_levels (elem k) = refl
    term_levels (app s ts) = omega (arith, terms_levels ts)

    terms_levels : (ts : Trees) → raws_depth (terms_raw T v ts) ≡ depths_of ts
    terms_levels none = refl
    terms_levels (more t ts) = omega (arith, term_levels t, terms_levels ts)

  literal_levels : (l : Lit) → depth_of l.atom ≤ 1000 → depth (undenied (literal_raw T v l)) ≤ 1000
  literal_levels l h =
      let few : depth (term_raw T v l.atom) ≤ 1000 = omega (arith, h, term_levels l.atom) in
      cond_both l.positive _ _ (λ (r : RawTree). depth (undenied r) ≤ 1000) (λ e. omega (arith, few, undenied_less (term_raw T v l.atom))) (λ e. denied_levels (term_raw T v l.atom) few)

  literal_shallow : (l : Lit) → depth_of l.atom ≤ 1000 → are_shallow (disjuncts (literal_raw T v l)) ≡ true
  literal_shallow l h =
      let few : depth (term_raw T v l.atom) ≤ 1000 = omega (arith, h, term_levels l.atom) in
      cond_both l.positive _ _ (λ (r : RawTree). are_shallow (disjuncts r) ≡ true) (λ e. term_shallow (term_raw T v l.atom) few) (λ e. denied_shallow (term_raw T v l.atom) few)

  clause_shallow : (c : ClauseTree) → clause_depth c ≤ 1000 → are_shallow (disjuncts (clause_raw T v c)) ≡ true
  clause_shallow [] h = one_shallow (named (codes "$F") no_raws) (omega arith)
  clause_shallow (l ∷ []) h = literal_shallow l (omega (arith, h))
  clause_shallow (l ∷ m ∷ c) h =
      front_shallow (literal_raw T v l) (disjuncts (clause_raw T v (m ∷ c))) (literal_levels l (omega (arith, h))) (clause_shallow (m ∷ c) (omega (arith, h)))

  pub not_too_deep : (c : ClauseTree) → clause_depth c ≤ 1000 → is_too_deep false (clause_raw T v c) ≡ false
  not_too_deep c h = ap not (clause_shallow c h)

  -- a formula's atoms have no more levels than what it is printed as
  denial_more : (t : RawTree) → depth t ≤ depth (denial t)
  denial_more (quantified q x t) = omega arith
  denial_more (named n no_raws) = omega arith
  denial_more (named n (more_raws t no_raws)) = omega arith
  denial_more (named n (more_raws t (more_raws u no_raws))) =
      cond_both (bytes_eq n (codes "=")) _ _ (λ (r : RawTree). depth (two n t u) ≤ depth r) (λ e. omega arith) (λ e. omega arith)
  denial_more (named n (more_raws t (more_raws u (more_raws w ts)))) = omega arith

  abbrev AreLow : ℕ → Fol → Type 0
  AreLow n f = Atoms (λ x. Unit {0}) (λ (t : Tree). depth_of t ≤ n) f

  pub atoms_levels : (n : ℕ) (f : Fol) → depth (formula_raw T v f) ≤ n → AreLow n f
  atoms_levels n verum h = tt
  atoms_levels n falsum h = tt
  atoms_levels n (equal s t) h = omega (arith, h, term_levels s, term_levels t)
  atoms_levels n (atom r ts) h = omega (arith, h, terms_levels ts)
  atoms_levels n (negation f) h = atoms_levels n f (omega (arith, h, denial_more (formula_raw T v f)))
  atoms_levels n (conjunction f g) h = (atoms_levels n f (omega (arith, h)), atoms_levels n g (omega (arith, h)))
  atoms_levels n (disjunction f g) h = (atoms_levels n f (omega (arith, h)), atoms_levels n g (omega (arith, h)))
  atoms_levels n (implication f g) h = (atoms_levels n f (omega (arith, h)), atoms_levels n g (omega (arith, h)))
  atoms_levels n (equivalence f g) h = (atoms_levels n f (omega (arith, h)), atoms_levels n g (omega (arith, h)))
  atoms_levels n (forall x f) h = (tt, atoms_levels n f (omega (arith, h)))
  atoms_levels n (exists x f) h = (tt, atoms_levels n f (omega (arith, h)))

  -- so where they have a label
  pub attributed_levels : (n : ℕ) (label : Option RawTree) (f : Fol) → depth (with_attribute label (formula_raw T v f)) ≤ n → AreLow n f
  attributed_levels n None f h = atoms_levels n f h
  attributed_levels n (Some l) f h = atoms_levels n f (omega (arith, h))

-- a clause whose atoms have few levels has few
pub depth_of_atoms : (n : ℕ) (c : ClauseTree) → AllAtoms (λ (t : Tree). depth_of t ≤ n) c → clause_depth c ≤ n
depth_of_atoms n [] h = omega arith
depth_of_atoms n (l ∷ c) h = omega (arith, h.0, depth_of_atoms n c h.1)
