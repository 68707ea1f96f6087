-- Literals changed in place.
use Rattle.std.proofs.Common.{◌≡◌, ℕ, zero, suc, ◌<◌, Bool, true, length, List, [], ◌∷◌, ◌++◌, get_or, set, take, drop, map, refl, sym, ap, ap₂, ◌∙◌, arith}
use Rattle.std.proofs.lemmas.List.{length-map}
use Rattle.fol_core.specs.ClauseView.{literal_of}
use Rattle.fol_core.specs.Literals.{literal, ClauseTree}
use Rattle.fol_core.specs.TermView.{tree_of, tree_list}
use Rattle.fol_core.specs.Tree.{Tree, app, trees_of}
use Rattle.fol_core.specs.declared.clause.Literal.{Literal}
use Rattle.fol_core.specs.declared.term.Term.{Term}
use Rattle.inference.specs.Followed.{with_part}
use Rattle.derivation.specs.Equations.{is_equation}
use Rattle.derivation.specs.Places.{atom_at, with_atom}
use Rattle.substitutions.specs.Paths.{replaced}

pub put_there : (ls : List Literal) (i : ℕ) (l : Literal) (b : Bool) (t : Term) → i < length ls → l ≡ get_or ls i l → b ≡ l.positive
    → map literal_of (set ls i (record { positive = b; atom = t })) ≡ with_atom (map literal_of ls) i (tree_of t)
put_there [] i l b t h is same = absurd (omega (arith, h))
put_there (k ∷ ls) zero l b t h is same = ap (λ x. literal x (tree_of t) ∷ map literal_of ls) (same ∙ ap (λ m. m.positive) is)
put_there (k ∷ ls) (suc i) l b t h is same = ap (λ d. literal_of k ∷ d) (put_there ls i l b t (omega (arith, h)) is same)

pub atom_there : (ls : List Literal) (i : ℕ) (l : Literal) → i < length ls → l ≡ get_or ls i l → atom_at (map literal_of ls) i ≡ tree_of l.atom
atom_there [] i l h is = absurd (omega (arith, h))
atom_there (k ∷ ls) zero l h is = ap (λ m. tree_of m.atom) (sym is)
atom_there (k ∷ ls) (suc i) l h is = atom_there ls i l (omega (arith, h)) is

pub with_atom_back : (c : ClauseTree) (i : ℕ) (t : Tree) → with_atom (with_atom c i t) i (atom_at c i) ≡ c
with_atom_back [] i t = refl
with_atom_back (l ∷ c) zero t = refl
with_atom_back (l ∷ c) (suc i) t = ap (λ d. l ∷ d) (with_atom_back c i t)

atom_put : (c : ClauseTree) (i : ℕ) (t : Tree) → i < length c → atom_at (with_atom c i t) i ≡ t
atom_put [] i t h = absurd (omega (arith, h))
atom_put (l ∷ c) zero t h = refl
atom_put (l ∷ c) (suc i) t h = atom_put c i t (omega (arith, h))

pub with_atom_length : (c : ClauseTree) (i : ℕ) (t : Tree) → length (with_atom c i t) ≡ length c
with_atom_length [] i t = refl
with_atom_length (l ∷ c) zero t = refl
with_atom_length (l ∷ c) (suc i) t = ap suc (with_atom_length c i t)

pub equation_sides : (f : ℕ) (ts : List Term) → is_equation (app f (trees_of (tree_list ts))) ≡ true → length ts ≡ 2
equation_sides f [] h = cc
equation_sides f (s ∷ []) h = cc
equation_sides f (s ∷ t ∷ []) h = refl
equation_sides f (s ∷ t ∷ u ∷ ts) h = cc

pub taken_out : (ls : List Literal) (i : ℕ) → map literal_of (take i ls ++ drop (suc i) ls) ≡ take i (map literal_of ls) ++ drop (suc i) (map literal_of ls)
taken_out [] zero = refl
taken_out [] (suc i) = refl
taken_out (l ∷ ls) zero = refl
taken_out (l ∷ ls) (suc i) = ap (λ d. literal_of l ∷ d) (taken_out ls i)

-- by the view of a clause
module _ (ls : List Literal) (c : ClauseTree) (view : map literal_of ls ≡ c) (i : ℕ) (l : Literal) (h : i < length c) (is : l ≡ get_or ls i l) where
  within : i < length ls
  within = let as_many : length (map literal_of ls) ≡ length ls = length-map ls literal_of in let same : length (map literal_of ls) ≡ length c = ap (λ d. length d) view in omega (arith, as_many, same, h)

  pub put_at : (t : Term) (u : Tree) → tree_of t ≡ u → map literal_of (set ls i (record { positive = l.positive; atom = t })) ≡ with_atom c i u
  put_at t u e = put_there ls i l l.positive t within is refl ∙ ap₂ (λ d v. with_atom d i v) view e

  pub atom_is_at : atom_at c i ≡ tree_of l.atom
  atom_is_at = ap (λ d. atom_at d i) (sym view) ∙ atom_there ls i l within is

  -- what is put there for the clause as it was
  pub put_back : (t : Term) (path : List ℕ) (old : Tree) → tree_of l.atom ≡ replaced (tree_of t) path old
      → c ≡ with_part (map literal_of (set ls i (record { positive = l.positive; atom = t }))) i path old
  put_back t path old e =
      let put : map literal_of (set ls i (record { positive = l.positive; atom = t })) ≡ with_atom c i (tree_of t) = put_at t (tree_of t) refl in
      sym (ap (λ d. with_part d i path old) put ∙ ap (λ u. with_atom (with_atom c i (tree_of t)) i (replaced u path old)) (atom_put c i (tree_of t) h)
      ∙ ap (with_atom (with_atom c i (tree_of t)) i) (sym e ∙ sym atom_is_at) ∙ with_atom_back c i (tree_of t))
