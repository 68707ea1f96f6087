-- A clause whose symbols stand in a table with their kinds and arguments, and are used, is over the table.
use Rattle.std.proofs.Common.{◌≡◌, ℕ, ◌≤◌, ◌<◌, ◌==◌, Bool, true, List, [], ◌∷◌, length, Option, inl, inr, ap, ◌∙◌, arith}
use Rattle.std.specs.Option.{option_map_or}
use Rattle.std.proofs.lemmas.Bool.{or_cases, eqb-true, false≢true}
use Rattle.std.proofs.lemmas.Option.{slice_get_within}
use Rattle.fol_core.specs.Bound.{has_symbol, have_symbol}
use Rattle.fol_core.specs.Literals.{ClauseTree, equality}
use Rattle.fol_core.specs.SymbolTable.{Symbol, kind_at}
use Rattle.fol_core.specs.Tree.{Tree, var, elem, app, Trees, none, more}
use Rattle.fol_core.specs.declared.symbols.Kind.{Kind}
use Rattle.fol_core.specs.declared.symbols.Kind.TheVariants.{Function, Relation}
use Rattle.ladr_print.specs.HasText.{many, IsSymbolOf, IsTermOver, AreOver, IsAtomOver, IsClauseOver}
use Rattle.proof_print.specs.Rereadable.{clause_uses, HasFunctions, HaveFunctions, IsAtomOfKinds, IsClauseOfKinds}
use Rattle.search_lines.proofs.Atoms.{AllAtoms}
use Rattle.search_lines.proofs.Read.{Stands}
use Rattle.search_lines.proofs.Shapes.{IsTermOf, AreTermsOf, IsAtomOf}

module _ (T : List Symbol) (used : ℕ → Bool) where
  -- a symbol of the table that is used
  abbrev pub IsUsed : Kind → ℕ → ℕ → Type 0
  IsUsed kind s n = Stands T kind s n × (used s ≡ true)

  abbrev IsTerm : Tree → Type 0
  IsTerm t = IsTermOf (IsUsed Function) t

  abbrev AreTerms : Trees → Type 0
  AreTerms ts = AreTermsOf (IsUsed Function) ts

  abbrev pub IsAtom : Tree → Type 0
  IsAtom t = IsAtomOf (IsUsed Function) (IsUsed Relation) t

  symbol_of : (kind : Kind) (s n : ℕ) → Stands T kind s n → IsSymbolOf T s n
  symbol_of kind s n h = (slice_get_within T s _ h.there, ap (λ (o : Option Symbol). option_map_or (λ (x : Symbol). x.arity) o 0) h.there)

  kind_of : (kind : Kind) (s n : ℕ) → Stands T kind s n → kind_at T s ≡ kind
  kind_of kind s n h = ap (λ (o : Option Symbol). option_map_or (λ (x : Symbol). x.kind) o Function) h.there

  -- it is over the table
  mutual
    term_over : (t : Tree) → IsTerm t → IsTermOver T t
    term_over (var x) h = h
    term_over (elem k) h = h
    term_over (app s ts) h = (symbol_of Function s (many ts) h.0.0, terms_over ts h.1)

    terms_over : (ts : Trees) → AreTerms ts → AreOver T ts
    terms_over none h = tt
    terms_over (more t ts) h = (term_over t h.0, terms_over ts h.1)

  atom_over : (t : Tree) → IsAtom t → IsAtomOver T t
  atom_over (var x) h = h
  atom_over (elem k) h = h
  atom_over (app r ts) h = (elim h.0 [ inl i ↦ inl (symbol_of Relation r (many ts) i.0) | inr e ↦ inr e ], terms_over ts h.1)

  pub over : (c : ClauseTree) → AllAtoms IsAtom c → IsClauseOver T c
  over [] h = tt
  over (l ∷ c) h = (atom_over l.atom h.0, over c h.1)

  mutual
    term_kinds : (t : Tree) → IsTerm t → HasFunctions T t
    term_kinds (var x) h = tt
    term_kinds (elem k) h = tt
    term_kinds (app s ts) h = (kind_of Function s (many ts) h.0.0, terms_kinds ts h.1)

    terms_kinds : (ts : Trees) → AreTerms ts → HaveFunctions T ts
    terms_kinds none h = tt
    terms_kinds (more t ts) h = (term_kinds t h.0, terms_kinds ts h.1)

  atom_kinds : (t : Tree) → IsAtom t → IsAtomOfKinds T t
  atom_kinds (var x) h = tt
  atom_kinds (elem k) h = tt
  atom_kinds (app r ts) h = (elim h.0 [ inl i ↦ inr (kind_of Relation r (many ts) i.0) | inr e ↦ inl e.0 ], terms_kinds ts h.1)

  pub kinds : (c : ClauseTree) → AllAtoms IsAtom c → IsClauseOfKinds T c
  kinds [] h = tt
  kinds (l ∷ c) h = (atom_kinds l.atom h.0, kinds c h.1)

  -- each symbol of the table that it has is used; an equation's is none of the table
  module _ (few : length T ≤ equality) (s : ℕ) (within : s < length T) where
    this : (r : ℕ) → used r ≡ true → (s == r) ≡ true → used s ≡ true
    this r h e = ap used (eqb-true s r e) ∙ h

    mutual
      term_uses : (t : Tree) → IsTerm t → has_symbol s t ≡ true → used s ≡ true
      term_uses (var x) h e = absurd (false≢true e)
      term_uses (elem k) h e = absurd (false≢true e)
      term_uses (app r ts) h e = elim (or_cases (s == r) (have_symbol s ts) e) [ inl i ↦ this r h.0.1 i | inr j ↦ terms_use ts h.1 j ]

      terms_use : (ts : Trees) → AreTerms ts → have_symbol s ts ≡ true → used s ≡ true
      terms_use none h e = absurd (false≢true e)
      terms_use (more t ts) h e = elim (or_cases (has_symbol s t) (have_symbol s ts) e) [ inl i ↦ term_uses t h.0 i | inr j ↦ terms_use ts h.1 j ]

    atom_uses : (t : Tree) → IsAtom t → has_symbol s t ≡ true → used s ≡ true
    atom_uses (var x) h e = absurd h
    atom_uses (elem k) h e = absurd h
    atom_uses (app r ts) h e = elim (or_cases (s == r) (have_symbol s ts) e) [
      | inl i ↦ elim h.0 [ inl u ↦ this r u.1 i | inr q ↦ absurd (omega (arith, eqb-true s r i, q.0, within, few)) ]
      | inr j ↦ terms_use ts h.1 j
    ]

    pub uses : (c : ClauseTree) → AllAtoms IsAtom c → clause_uses c s ≡ true → used s ≡ true
    uses [] h e = absurd (false≢true e)
    uses (l ∷ c) h e = elim (or_cases (has_symbol s l.atom) (clause_uses c s) e) [ inl i ↦ atom_uses l.atom h.0 i | inr j ↦ uses c h.1 j ]
