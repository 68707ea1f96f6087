-- The clause that a formula is names no element that the formula doesn't name.
use Rattle.std.proofs.Common.{◌≡◌, ℕ, Bool, true, false, [], ◌∷◌, Option, Some, None, refl, subst}
use Rattle.std.specs.Prelude.{◌||◌}
use Rattle.std.specs.List.{list_any}
use Rattle.std.specs.Option.{option_map}
use Rattle.fol_core.specs.Fol.{Fol, verum, falsum, equal, atom, negation, conjunction, disjunction, implication, equivalence, forall, exists}
use Rattle.fol_core.specs.Literals.{Lit, ClauseTree}
use Rattle.fol_core.specs.Occurs.{names_in, names}
use Rattle.ladr_formulas.specs.ClauseIn.{atom_in, literal_in, prepended, literals_in, clause_in}

left_none : (a b : Bool) → (a || b) ≡ false → a ≡ false
left_none true b h = absurd (cc)
left_none false b h = refl

right_none : (a b : Bool) → (a || b) ≡ false → b ≡ false
right_none true b h = absurd (cc)
right_none false b h = h

both_none : (a b : Bool) → (a || b) ≡ false → (a || (b || false)) ≡ false
both_none true b h = h
both_none false true h = h
both_none false false h = refl

module _ (k : ℕ) where
  abbrev NoneOf : ClauseTree → Type 0
  NoneOf c = list_any (λ l. names_in k l.atom) c ≡ false

  abbrev NoLiteral : Option Lit → Type 0
  NoLiteral None = Unit {0}
  NoLiteral (Some l) = names_in k l.atom ≡ false

  abbrev NoClause : Option ClauseTree → Type 0
  NoClause None = Unit {0}
  NoClause (Some c) = NoneOf c

  atom_none : (positive : Bool) (f : Fol) → names k f ≡ false → NoLiteral (atom_in positive f)
  atom_none positive verum h = tt
  atom_none positive falsum h = tt
  atom_none positive (equal s t) h = both_none (names_in k s) (names_in k t) h
  atom_none positive (atom r ts) h = h
  atom_none positive (negation f) h = tt
  atom_none positive (conjunction f g) h = tt
  atom_none positive (disjunction f g) h = tt
  atom_none positive (implication f g) h = tt
  atom_none positive (equivalence f g) h = tt
  atom_none positive (forall x f) h = tt
  atom_none positive (exists x f) h = tt

  literal_none : (f : Fol) → names k f ≡ false → NoLiteral (literal_in f)
  literal_none verum h = tt
  literal_none falsum h = tt
  literal_none (equal s t) h = both_none (names_in k s) (names_in k t) h
  literal_none (atom r ts) h = h
  literal_none (negation f) h = atom_none false f h
  literal_none (conjunction f g) h = tt
  literal_none (disjunction f g) h = tt
  literal_none (implication f g) h = tt
  literal_none (equivalence f g) h = tt
  literal_none (forall x f) h = tt
  literal_none (exists x f) h = tt

  prepended_none : (l : Option Lit) (c : Option ClauseTree) → NoLiteral l → NoClause c → NoClause (prepended l c)
  prepended_none None c h g = tt
  prepended_none (Some l) None h g = tt
  prepended_none (Some l) (Some c) h g = cc

  lone_none : (l : Option Lit) → NoLiteral l → NoClause (option_map (λ l. l ∷ []) l)
  lone_none None h = tt
  lone_none (Some l) h = cc

  literals_none : (f : Fol) → names k f ≡ false → NoClause (literals_in f)
  literals_none verum h = tt
  literals_none falsum h = tt
  literals_none (equal s t) h = lone_none (literal_in (equal s t)) (literal_none (equal s t) h)
  literals_none (atom r ts) h = lone_none (literal_in (atom r ts)) (literal_none (atom r ts) h)
  literals_none (negation f) h = lone_none (atom_in false f) (atom_none false f h)
  literals_none (conjunction f g) h = tt
  literals_none (disjunction f g) h = prepended_none (literal_in f) (literals_in g)
      (literal_none f (left_none (names k f) (names k g) h)) (literals_none g (right_none (names k f) (names k g) h))
  literals_none (implication f g) h = tt
  literals_none (equivalence f g) h = tt
  literals_none (forall x f) h = tt
  literals_none (exists x f) h = tt

  clause_none : (f : Fol) → names k f ≡ false → NoClause (clause_in f)
  clause_none verum h = tt
  clause_none falsum h = refl
  clause_none (equal s t) h = literals_none (equal s t) h
  clause_none (atom r ts) h = literals_none (atom r ts) h
  clause_none (negation f) h = literals_none (negation f) h
  clause_none (conjunction f g) h = tt
  clause_none (disjunction f g) h = literals_none (disjunction f g) h
  clause_none (implication f g) h = tt
  clause_none (equivalence f g) h = tt
  clause_none (forall x f) h = tt
  clause_none (exists x f) h = tt

  pub clause_names_none : (f : Fol) (c : ClauseTree) → names k f ≡ false → clause_in f ≡ Some c → NoneOf c
  clause_names_none f c h is = subst NoClause is (clause_none f h)
