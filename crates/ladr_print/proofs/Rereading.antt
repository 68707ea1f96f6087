-- The term as which a formula is printed is read like the one that it came from.
use Rattle.std.proofs.Common.{◌≡◌, ℕ, Bool, true, false, List, ◌∷◌, length, Option, Some, None, inl, inr, refl, sym, ap, ◌∙◌, subst}
use Rattle.std.specs.Prelude.{codes}
use Rattle.std.specs.Str.{bytes_eq}
use Rattle.std.proofs.lemmas.Bool.{cases_Bool}
use Rattle.std.proofs.lemmas.Slice.Eq.{bytes_eq-Decides}
use Rattle.fol_core.specs.Fol.{Fol, negation, conjunction, disjunction, implication, equivalence}
use Rattle.fol_core.specs.RawTree.{RawTree, named, quantified, no_raws, more_raws}
use Rattle.ladr_formulas.specs.Formulas.{Bound, Reading, Made, is_denial, connective_of, connective_read, under, bound_by, with_variable, by_connective, comparison, formula_in}
use Rattle.ladr_formulas.specs.declared.connectives.Connective.{Connective}
use Rattle.ladr_formulas.specs.declared.connectives.Connective.TheVariants.{And, Or, IfThen, ThenIf, IfAndOnlyIf}
use Rattle.ladr_formulas.specs.declared.styles.Style.{Style}
use Rattle.ladr_print.specs.FormulaText.{two, denial}

-- with `->` in place of `<-`, and denied equations with `!=`
abbrev pub by_two : Option Connective → RawTree → RawTree → RawTree → RawTree
by_two None t u other = other
by_two (Some And) t u other = two (codes "&") t u
by_two (Some Or) t u other = two (codes "|") t u
by_two (Some IfThen) t u other = two (codes "->") t u
by_two (Some ThenIf) t u other = two (codes "->") u t
by_two (Some IfAndOnlyIf) t u other = two (codes "<->") t u

-- a name with one argument
abbrev pub by_one : Bool → List ℕ → RawTree → RawTree → RawTree
by_one true s t u = denial u
by_one false s t u = named s (more_raws t no_raws)

abbrev pub turned : RawTree → RawTree
turned (quantified q x t) = quantified q x (turned t)
turned (named s no_raws) = named s no_raws
turned (named s (more_raws t no_raws)) = by_one (is_denial s) s t (turned t)
turned (named s (more_raws t (more_raws u no_raws))) = by_two (connective_of s) (turned t) (turned u) (two s t u)
turned (named s (more_raws t (more_raws u (more_raws w ts)))) = named s (more_raws t (more_raws u (more_raws w ts)))

module _ (st : Style) where
  pub denial_read : (scope : List Bound) (s : Reading) (t : RawTree) → formula_in st scope s (denial t) ≡ under negation (formula_in st scope s t)
  denial_read scope s (quantified q x t) = refl
  denial_read scope s (named n no_raws) = refl
  denial_read scope s (named n (more_raws t no_raws)) = refl
  denial_read scope s (named n (more_raws t (more_raws u no_raws))) =
      elim (cases_Bool (bytes_eq n (codes "="))) [
        | inl y ↦ subst (λ (m : List ℕ). formula_in st scope s (denial (two m t u)) ≡ under negation (formula_in st scope s (two m t u))) (sym ((bytes_eq-Decides n (codes "=")).0 y)) refl
        | inr y ↦ ap (formula_in st scope s) (plain y)
      ]
    where
      plain : bytes_eq n (codes "=") ≡ false → denial (two n t u) ≡ named (codes "-") (more_raws (two n t u) no_raws)
      plain y = rw y refl
  denial_read scope s (named n (more_raws t (more_raws u (more_raws w ts)))) = refl

  Alike : RawTree → RawTree → Type 0
  Alike t u = (scope : List Bound) (s : Reading) → formula_in st scope s t ≡ formula_in st scope s u

  both_read :
      (join : Fol → Fol → Fol) (scope : List Bound) (s : Reading) (t u t' u' : RawTree) → ((c : List Bound) (r : Reading) → formula_in st c r t' ≡ formula_in st c r t) →
      ((c : List Bound) (r : Reading) → formula_in st c r u' ≡ formula_in st c r u) →
      connective_read join (λ r. formula_in st scope r t') (λ r. formula_in st scope r u') s ≡ connective_read join (λ r. formula_in st scope r t) (λ r. formula_in st scope r u) s
  both_read join scope s t u t' u' h k =
      ap (λ (m : Made Fol). under (join m.tree) (formula_in st scope m.reading u')) (h scope s)
      ∙ ap (under (join (formula_in st scope s t).tree)) (k scope (formula_in st scope s t).reading)

  two_read :
      (o : Option Connective) (n : List ℕ) → connective_of n ≡ o → (scope : List Bound) (s : Reading) (t u t' u' : RawTree) →
      ((c : List Bound) (r : Reading) → formula_in st c r t' ≡ formula_in st c r t) → ((c : List Bound) (r : Reading) → formula_in st c r u' ≡ formula_in st c r u) →
      formula_in st scope s (by_two o t' u' (two n t u)) ≡ by_connective o (λ r. formula_in st scope r t) (λ r. formula_in st scope r u) (comparison st scope n t u) s
  two_read None n e scope s t u t' u' h k = ap (λ (o : Option Connective). by_connective o (λ r. formula_in st scope r t) (λ r. formula_in st scope r u) (comparison st scope n t u) s) e
  two_read (Some And) n e scope s t u t' u' h k = both_read conjunction scope s t u t' u' h k
  two_read (Some Or) n e scope s t u t' u' h k = both_read disjunction scope s t u t' u' h k
  two_read (Some IfThen) n e scope s t u t' u' h k = both_read implication scope s t u t' u' h k
  two_read (Some ThenIf) n e scope s t u t' u' h k = both_read implication scope s u t u' t' k h
  two_read (Some IfAndOnlyIf) n e scope s t u t' u' h k = both_read equivalence scope s t u t' u' h k

  one_read :
      (b : Bool) (n : List ℕ) → is_denial n ≡ b → (scope : List Bound) (s : Reading) (t t' : RawTree) → formula_in st scope s t' ≡ formula_in st scope s t →
      formula_in st scope s (by_one b n t t') ≡ formula_in st scope s (named n (more_raws t no_raws))
  one_read true n e scope s t t' h = denial_read scope s t' ∙ ap (under negation) h ∙ rw e refl
  one_read false n e scope s t t' h = refl

  pub reread : (t : RawTree) (scope : List Bound) (s : Reading) → formula_in st scope s (turned t) ≡ formula_in st scope s t
  reread (quantified q x t) scope s = ap (under (bound_by q (length s.variables))) (reread t (record { name = x; number = length s.variables } ∷ scope) (with_variable x false s))
  reread (named n no_raws) scope s = refl
  reread (named n (more_raws t no_raws)) scope s = one_read (is_denial n) n refl scope s t (turned t) (reread t scope s)
  reread (named n (more_raws t (more_raws u no_raws))) scope s = two_read (connective_of n) n refl scope s t u (turned t) (turned u) (reread t) (reread u)
  reread (named n (more_raws t (more_raws u (more_raws w ts)))) scope s = refl
