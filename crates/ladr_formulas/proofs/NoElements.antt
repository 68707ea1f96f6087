-- Where numerals name no elements nothing that is read names one.
use Rattle.std.proofs.Common.{◌≡◌, ℕ, suc, Bool, true, false, List, ◌∷◌, length, Option, Some, None, refl}
use Rattle.std.specs.Prelude.{◌||◌, if◌then◌else◌, codes}
use Rattle.std.specs.Str.{bytes_eq}
use Rattle.fol_core.specs.Fol.{Fol, negation}
use Rattle.fol_core.specs.Occurs.{names_in, names_in_any, names}
use Rattle.fol_core.specs.RawTree.{RawTree, named, quantified, RawTrees, no_raws, more_raws}
use Rattle.fol_core.specs.Tree.{Tree}
use Rattle.fol_core.specs.declared.raw.Quantifier.{Quantifier}
use Rattle.fol_core.specs.declared.raw.Quantifier.TheVariants.{All, Exists}
use Rattle.fol_core.specs.declared.symbols.Kind.TheVariants.{Function, Relation}
use Rattle.ladr_lex.specs.declared.misuse.Misuse.TheVariants.{QuantifierInTerm, UnfitNumeral}
use Rattle.ladr_formulas.specs.Formulas.{Reading, Made, Bound, meets, with_variable, named_variable, with_symbol, arity_of, is_too_great, is_element, constant_as, term_of, terms_of, relation_of, sentence_as, equation_read, under, bound_by, is_denial, connective_of, connective_read, joined_by, by_connective, comparison, formula_in}
use Rattle.ladr_formulas.specs.declared.connectives.Connective.{Connective}
use Rattle.ladr_formulas.specs.declared.connectives.Connective.TheVariants.{And, Or, IfThen, ThenIf, IfAndOnlyIf}
use Rattle.ladr_formulas.specs.declared.styles.Style.{Style}

neither : (a b : Bool) → a ≡ false → b ≡ false → (a || b) ≡ false
neither true b h k = absurd (cc)
neither false b h k = k

choice : {A : Type 0} (P : A → Type 0) (b : Bool) (x y : A) → P x → P y → P (if b then x else y)
choice P true x y h k = h
choice P false x y h k = k

module _ (k : ℕ) (st : Style) (e : st.elements ≡ false) where
  abbrev NoTerm : Made Tree → Type 0
  NoTerm m = names_in k m.tree ≡ false

  abbrev NoFormula : Made Fol → Type 0
  NoFormula m = names k m.tree ≡ false

  constant_as_none : (name : List ℕ) (o : Option ℕ) (s : Reading) → NoTerm (constant_as st name o s)
  constant_as_none name (Some n) s = refl
  constant_as_none name None s = rw e refl

  mutual
    pub term_none : (scope : List Bound) (s : Reading) (t : RawTree) → names_in k (term_of st scope s t).tree ≡ false
    term_none scope s (quantified q x t) = term_none (record { name = x; number = length s.variables } ∷ scope) (with_variable x false (meets true QuantifierInTerm s)) t
    term_none scope s (named name no_raws) = let v = named_variable st scope name s in constant_as_none name v.tree v.reading
    term_none scope s (named name (more_raws t ts)) =
        let arity = suc (arity_of ts) in
        terms_none scope (with_symbol name arity Function (meets (is_too_great st name) UnfitNumeral s)) (more_raws t ts)

    pub terms_none : (scope : List Bound) (s : Reading) (ts : RawTrees) → names_in_any k (terms_of st scope s ts).tree ≡ false
    terms_none scope s no_raws = refl
    terms_none scope s (more_raws t ts) = neither _ _ (term_none scope s t) (terms_none scope (term_of st scope s t).reading ts)

  relation_none : (scope : List Bound) (name : List ℕ) (ts : RawTrees) (s : Reading) → NoFormula (relation_of st scope name ts s)
  relation_none scope name ts s = terms_none scope (with_symbol name (arity_of ts) Relation (meets (is_element st name) UnfitNumeral s)) ts

  sentence_as_none : (scope : List Bound) (name : List ℕ) (o : Option ℕ) (s : Reading) → NoFormula (sentence_as st scope name o s)
  sentence_as_none scope name (Some n) s = refl
  sentence_as_none scope name None s =
      choice NoFormula (bytes_eq name (codes "$T")) _ _ refl
      (choice NoFormula (bytes_eq name (codes "$F")) _ _ refl (relation_none scope name no_raws s))

  equation_none : (scope : List Bound) (t u : RawTree) (s : Reading) → NoFormula (equation_read st scope t u s)
  equation_none scope t u s = neither _ _ (term_none scope s t) (term_none scope (term_of st scope s t).reading u)

  comparison_none : (scope : List Bound) (name : List ℕ) (t u : RawTree) (s : Reading) → NoFormula (comparison st scope name t u s)
  comparison_none scope name t u s =
      choice NoFormula (bytes_eq name (codes "=")) _ _ (equation_none scope t u s)
      (choice NoFormula (bytes_eq name (codes "!=")) _ _ (equation_none scope t u s) (relation_none scope name (more_raws t (more_raws u no_raws)) s))

  joined_none : (c : Connective) (f g : Reading → Made Fol) → ((s : Reading) → NoFormula (f s)) → ((s : Reading) → NoFormula (g s)) → (s : Reading) → NoFormula (connective_read (joined_by c) f g s)
  joined_none And f g h l s = neither _ _ (h s) (l (f s).reading)
  joined_none Or f g h l s = neither _ _ (h s) (l (f s).reading)
  joined_none IfThen f g h l s = neither _ _ (h s) (l (f s).reading)
  joined_none ThenIf f g h l s = neither _ _ (h s) (l (f s).reading)
  joined_none IfAndOnlyIf f g h l s = neither _ _ (h s) (l (f s).reading)

  connective_none : (o : Option Connective) (f g c : Reading → Made Fol) → ((s : Reading) → NoFormula (f s)) → ((s : Reading) → NoFormula (g s)) → ((s : Reading) → NoFormula (c s))
      → (s : Reading) → NoFormula (by_connective o f g c s)
  connective_none None f g c h l d s = d s
  connective_none (Some And) f g c h l d s = joined_none And f g h l s
  connective_none (Some Or) f g c h l d s = joined_none Or f g h l s
  connective_none (Some IfThen) f g c h l d s = joined_none IfThen f g h l s
  connective_none (Some ThenIf) f g c h l d s = joined_none ThenIf g f l h s
  connective_none (Some IfAndOnlyIf) f g c h l d s = joined_none IfAndOnlyIf f g h l s

  bound_none : (q : Quantifier) (n : ℕ) (f : Fol) → names k f ≡ false → names k (bound_by q n f) ≡ false
  bound_none All n f h = h
  bound_none Exists n f h = h

  pub formula_none : (scope : List Bound) (s : Reading) (t : RawTree) → names k (formula_in st scope s t).tree ≡ false
  formula_none scope s (quantified q x t) = bound_none q (length s.variables) _ (formula_none (record { name = x; number = length s.variables } ∷ scope) (with_variable x false s) t)
  formula_none scope s (named name no_raws) = let v = named_variable st scope name s in sentence_as_none scope name v.tree v.reading
  formula_none scope s (named name (more_raws t no_raws)) =
      choice NoFormula (is_denial name) (under negation (formula_in st scope s t)) (relation_of st scope name (more_raws t no_raws) s) (formula_none scope s t) (relation_none scope name (more_raws t no_raws) s)
  formula_none scope s (named name (more_raws t (more_raws u no_raws))) =
      connective_none (connective_of name) (λ r. formula_in st scope r t) (λ r. formula_in st scope r u) (comparison st scope name t u)
      (λ r. formula_none scope r t) (λ r. formula_none scope r u) (comparison_none scope name t u) s
  formula_none scope s (named name (more_raws t (more_raws u (more_raws w ts)))) = relation_none scope name (more_raws t (more_raws u (more_raws w ts))) s
