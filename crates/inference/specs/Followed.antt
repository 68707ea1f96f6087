-- What a later word comes to on a clause.
use Rattle.std.specs.Prelude.{ℕ, ◌≡◌, ◌<◌, ◌&&◌, Bool, IsTrue, true, false, List, [], Some, None, Option}
use Rattle.std.specs.Option.{option_map}
use Rattle.clause_limits.specs.Sizes.{is_too_large}
use Rattle.derivation.specs.Equations.{below, is_there, left_of, right_of}
use Rattle.derivation.specs.Later.{LaterWord, is_rule_equation, is_unit, later_fits, Leads}
use Rattle.derivation.specs.Places.{atom_at, has_literal, with_atom}
use Rattle.fol_core.specs.Literals.{ClauseTree}
use Rattle.fol_core.specs.Sizes.{size_of}
use Rattle.fol_core.specs.Substitutions.{substitute}
use Rattle.fol_core.specs.TermView.{tree_of}
use Rattle.fol_core.specs.Tree.{Tree}
use Rattle.fol_core.specs.declared.term.Term.{Term}
use Rattle.inference.specs.declared.followed.Followed.{Followed}
use Rattle.inference.specs.declared.followed.Followed.TheVariants.{Misplaced, Differs, TooLarge, Done}
use Rattle.inference.specs.declared.putting.Exchanged.{Exchanged}
use Rattle.inference.specs.declared.putting.Exchanged.TheVariants as made
use Rattle.inference.specs.declared.underway.Put.{Put}
use Rattle.inference.specs.declared.underway.Put.TheVariants as put
use Rattle.substitutions.specs.Bindings.{by_bindings}
use Rattle.substitutions.specs.Paths.{replaced}
use Rattle.unifiers.specs.Matching.{matched}

-- a word, from one clause to the next: only where it is done the clause is another one; a form of
-- clauses may be too small for some of them, which a test tells
abbrev pub FollowsAs : (ClauseTree → Bool) → LaterWord → ClauseTree → List ClauseTree → ClauseTree → Followed → Type 0
FollowsAs exceeds w c ps d Misplaced = (later_fits w c ps ≡ false) × (d ≡ c)
FollowsAs exceeds w c ps d Differs =
    IsTrue (later_fits w c ps) × ((e : ClauseTree) → ¬ Leads w c ps e) × (d ≡ c)
FollowsAs exceeds w c ps d TooLarge =
    IsTrue (later_fits w c ps)
    × ((e : ClauseTree) × Leads w c ps e × (exceeds e ≡ true)) × (d ≡ c)
FollowsAs exceeds w c ps d Done = IsTrue (later_fits w c ps) × Leads w c ps d

-- what is put in for a term: the right side under what makes the left side it
abbrev pub exchanged : Tree → Tree → Tree → Option Tree
exchanged left right t = option_map (λ bs. substitute (by_bindings bs) right) (matched left t [])

-- it is no instance of the left side, or what is put in; that has too many symbols and variables, or
-- is built
abbrev pub IsExchanged : Tree → Tree → Tree → Exchanged → Type 0
IsExchanged left right t made.Differs = exchanged left right t ≡ None
IsExchanged left right t made.TooLarge =
    (u : Tree) × (exchanged left right t ≡ Some u) × (16777216 < size_of u)
IsExchanged left right t (made.By v) = exchanged left right t ≡ Some (tree_of v)

-- a clause that is a rule, and its sides
abbrev pub is_rule_clause : ClauseTree → Bool
is_rule_clause r = is_unit r && (has_literal true r 0 && is_rule_equation (atom_at r 0))

pub record AreRuleSides (r : ClauseTree) (left right : Tree) : Type 0 where
  pub unit : IsTrue (is_unit r)
  pub positive : IsTrue (has_literal true r 0)
  pub rule : IsTrue (is_rule_equation (atom_at r 0))
  pub left_is : left ≡ left_of (atom_at r 0)
  pub right_is : right ≡ right_of (atom_at r 0)

-- a clause with that at a path of the literal at a place
abbrev pub with_part : ClauseTree → ℕ → List ℕ → Tree → ClauseTree
with_part c a path new = with_atom c a (replaced (atom_at c a) path new)

-- what is put in, unless the clause would be too large
abbrev pub IsPutIn : ClauseTree → ℕ → List ℕ → Tree → Option Term → Type 0
IsPutIn c a path u None = is_too_large (with_part c a path u) ≡ true
IsPutIn c a path u (Some t) = (tree_of t ≡ u) × (is_too_large (with_part c a path u) ≡ false)

-- a rule put in at a path: there is no term, or no instance of the left side; the clause would be
-- too large; or it is done
abbrev pub PutAs : (ClauseTree → Bool) → ClauseTree → ℕ → List ℕ → Tree → Tree → ClauseTree → Put → Type 0
PutAs exceeds c a path left right d put.Missing = (is_there (below (atom_at c a) path) ≡ false) × (d ≡ c)
PutAs exceeds c a path left right d put.Differs =
    (t : Tree) × (below (atom_at c a) path ≡ Some t) × (exchanged left right t ≡ None) × (d ≡ c)
PutAs exceeds c a path left right d put.TooLarge =
    (t : Tree) × (u : Tree) × (below (atom_at c a) path ≡ Some t)
    × (exchanged left right t ≡ Some u) × (exceeds (with_part c a path u) ≡ true) × (d ≡ c)
PutAs exceeds c a path left right d put.Done =
    (t : Tree) × (u : Tree) × (below (atom_at c a) path ≡ Some t)
    × (exchanged left right t ≡ Some u) × (d ≡ with_part c a path u)

-- what comes of a word that puts a rule in
abbrev pub followed_put : Put → Followed
followed_put put.Missing = Misplaced
followed_put put.Differs = Differs
followed_put put.TooLarge = TooLarge
followed_put put.Done = Done
