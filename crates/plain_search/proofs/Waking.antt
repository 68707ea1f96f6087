-- What is told depends on the values of the cells that occurrences are.
use Rattle.std.proofs.Common.{◌≡◌, ℕ, ◌==◌, Bool, true, false, if◌then◌else◌, MatchBool, List, [], ◌∷◌, Option, None, Some, refl, sym, ap, ◌∙◌}
use Rattle.std.specs.Option.{option_and_then}
use Rattle.fol_core.specs.Literals.{ClauseTree, equality}
use Rattle.fol_core.specs.Tree.{Tree, var, elem, app, Trees, none, more}
use Rattle.fol_core.specs.Truth.{Assignment}
use Rattle.fol_core.specs.declared.symbols.Kind.{Kind}
use Rattle.fol_core.specs.declared.symbols.Kind.TheVariants.{Function, Relation}
use Rattle.mace_ground.specs.Cells.{Cell}
use Rattle.plain_search.proofs.Recalling.{recalled}
use Rattle.plain_search.proofs.Sounding.{same_cell}
use Rattle.plain_search.specs.Closing.{asked_by, joins, told}
use Rattle.plain_search.specs.Known.{cell_for, value_left, known, all_known, joined, Side, side, cell_side, term_side, equation_sides, sides, truth_known}
use Rattle.plain_search.specs.Lefts.{ValuesLeft, only_value, is_same_cell, with_left}
use Rattle.plain_search.specs.Waking.{cell_met, MeetsOnly, MeetOnly, AtomMeetsOnly, ClauseMeetsOnly, StaysTold, ToldByValues, LookSuffices}

-- with a weaker demand on cells
module _ (P Q : Cell → Type 0) (weaker : (c : Cell) → P c → Q c) (n : ℕ) (q : ValuesLeft) (e : Assignment) where
  mutual
    term_weaker : (t : Tree) → MeetsOnly P n q e t → MeetsOnly Q n q e t
    term_weaker (var x) h = tt
    term_weaker (elem k) h = tt
    term_weaker (app s ts) h = ((λ c i. weaker c (h.0 c i)), terms_weaker ts h.1)

    terms_weaker : (ts : Trees) → MeetOnly P n q e ts → MeetOnly Q n q e ts
    terms_weaker none h = tt
    terms_weaker (more t ts) h = (term_weaker t h.0, terms_weaker ts h.1)

  atom_weaker : (t : Tree) → AtomMeetsOnly P n q e t → AtomMeetsOnly Q n q e t
  atom_weaker (var x) h = tt
  atom_weaker (elem k) h = tt
  atom_weaker (app r ts) h = by (r == equality) h
    where
      by : (b : Bool) → MatchBool b (MeetOnly P n q e ts) (((c : Cell) → cell_met n q e Relation r ts ≡ Some c → P c) × MeetOnly P n q e ts)
          → MatchBool b (MeetOnly Q n q e ts) (((c : Cell) → cell_met n q e Relation r ts ≡ Some c → Q c) × MeetOnly Q n q e ts)
      by true g = terms_weaker ts g
      by false g = ((λ c i. weaker c (g.0 c i)), terms_weaker ts g.1)

  clause_weaker : (ls : ClauseTree) → ClauseMeetsOnly P n q e ls → ClauseMeetsOnly Q n q e ls
  clause_weaker [] h = tt
  clause_weaker (l ∷ ls) h = (atom_weaker l.atom h.0, clause_weaker ls h.1)

-- any cells are cells
module _ (n : ℕ) (q : ValuesLeft) (e : Assignment) where
  abbrev Any : Cell → Type 0
  Any c = Unit {0}

  mutual
    term_any : (t : Tree) → MeetsOnly Any n q e t
    term_any (var x) = tt
    term_any (elem k) = tt
    term_any (app s ts) = ((λ c i. tt), terms_any ts)

    terms_any : (ts : Trees) → MeetOnly Any n q e ts
    terms_any none = tt
    terms_any (more t ts) = (term_any t, terms_any ts)

  atom_any : (t : Tree) → AtomMeetsOnly Any n q e t
  atom_any (var x) = tt
  atom_any (elem k) = tt
  atom_any (app r ts) = by (r == equality)
    where
      by : (b : Bool) → MatchBool b (MeetOnly Any n q e ts) (((c : Cell) → cell_met n q e Relation r ts ≡ Some c → Unit {0}) × MeetOnly Any n q e ts)
      by true = terms_any ts
      by false = ((λ c i. tt), terms_any ts)

  clause_any : (ls : ClauseTree) → ClauseMeetsOnly Any n q e ls
  clause_any [] = tt
  clause_any (l ∷ ls) = (atom_any l.atom, clause_any ls)

-- two tables that have the same values in all cells that are met tell the same
module _ (n : ℕ) (p q : ValuesLeft) (e : Assignment) where
  abbrev Agrees : Cell → Type 0
  Agrees c = only_value (p c) ≡ only_value (q c)

  value_same : (o : Option Cell) → ((c : Cell) → o ≡ Some c → Agrees c) → value_left p o ≡ value_left q o
  value_same None agrees = refl
  value_same (Some c) agrees = agrees c refl

  cell_same : (kind : Kind) (s : ℕ) (o k : Option (List ℕ)) → o ≡ k → ((c : Cell) → option_and_then (cell_for n kind s) k ≡ Some c → Agrees c)
      → value_left p (option_and_then (cell_for n kind s) o) ≡ value_left q (option_and_then (cell_for n kind s) k)
  cell_same kind s o k same agrees =
      ap (λ (x : Option (List ℕ)). value_left p (option_and_then (cell_for n kind s) x)) same ∙ value_same (option_and_then (cell_for n kind s) k) agrees

  mutual
    term_same : (t : Tree) → MeetsOnly Agrees n q e t → known n p e t ≡ known n q e t
    term_same (var x) h = refl
    term_same (elem k) h = refl
    term_same (app s ts) h = cell_same Function s (all_known n p e ts) (all_known n q e ts) (terms_same ts h.1) h.0

    terms_same : (ts : Trees) → MeetOnly Agrees n q e ts → all_known n p e ts ≡ all_known n q e ts
    terms_same none h = refl
    terms_same (more t ts) h =
        ap (λ (o : Option ℕ). joined o (all_known n p e ts)) (term_same t h.0) ∙ ap (joined (known n q e t)) (terms_same ts h.1)

  side_same : (kind : Kind) (s : ℕ) (ts : Trees) → ((c : Cell) → cell_met n q e kind s ts ≡ Some c → Agrees c) → MeetOnly Agrees n q e ts → cell_side n p e kind s ts ≡ cell_side n q e kind s ts
  side_same kind s ts agrees h =
      let known_same = terms_same ts h in
      ap (λ (o : Option (List ℕ)). side (option_and_then (cell_for n kind s) o) (value_left p (option_and_then (cell_for n kind s) o))) known_same
      ∙ ap (side (cell_met n q e kind s ts)) (value_same (cell_met n q e kind s ts) agrees)

  term_side_same : (t : Tree) → MeetsOnly Agrees n q e t → term_side n p e t ≡ term_side n q e t
  term_side_same (var x) h = refl
  term_side_same (elem k) h = refl
  term_side_same (app s ts) h = side_same Function s ts h.0 h.1

  equation_same : (ts : Trees) → MeetOnly Agrees n q e ts → equation_sides n p e ts ≡ equation_sides n q e ts
  equation_same none h = refl
  equation_same (more s none) h = refl
  equation_same (more s (more t none)) h =
      ap (λ (a : Side). (a, term_side n p e t)) (term_side_same s h.0) ∙ ap (λ (b : Side). (term_side n q e s, b)) (term_side_same t h.1.0)
  equation_same (more s (more t (more u us))) h = refl

  atom_same : (t : Tree) → AtomMeetsOnly Agrees n q e t → sides n p e t ≡ sides n q e t
  atom_same (var x) h = refl
  atom_same (elem k) h = refl
  atom_same (app r ts) h = by (r == equality) h
    where
      by : (b : Bool) → MatchBool b (MeetOnly Agrees n q e ts) (((c : Cell) → cell_met n q e Relation r ts ≡ Some c → Agrees c) × MeetOnly Agrees n q e ts)
          → (if b then equation_sides n p e ts else (cell_side n p e Relation r ts, side None (Some 1))) ≡ (if b then equation_sides n q e ts else (cell_side n q e Relation r ts, side None (Some 1)))
      by true g = equation_same ts g
      by false g = ap (λ (a : Side). (a, side None (Some 1))) (side_same Relation r ts g.0 g.1)

  clause_same : (ls : ClauseTree) → ClauseMeetsOnly Agrees n q e ls → told n p e ls ≡ told n q e ls
  clause_same [] h = refl
  clause_same (l ∷ ls) h =
      ap (λ (a : Side × Side). joins (truth_known l.positive a) (asked_by l.positive a) (told n p e ls)) (atom_same l.atom h.0)
      ∙ ap (joins (truth_known l.positive (sides n q e l.atom)) (asked_by l.positive (sides n q e l.atom))) (clause_same ls h.1)

pub told_by_values : ToldByValues
told_by_values n p q e ls same =
    clause_same n p q e ls (clause_weaker (Any n q e) (Agrees n p q e) (λ c h. same c) n q e ls (clause_any n q e ls))

elsewhere : (p : ValuesLeft) (c : Cell) (v : ℕ) (d : Cell) → (d ≡ c → ⊥) → only_value (p d) ≡ only_value (with_left p c (v ∷ []) d)
elsewhere p c v d other = by (is_same_cell c d) refl
  where
    by : (b : Bool) → is_same_cell c d ≡ b → only_value (p d) ≡ only_value (if b then v ∷ [] else p d)
    by true e = absurd (other (sym (same_cell c d e)))
    by false e = refl

pub stays_told : StaysTold
stays_told n p c v e ls h =
    let q : ValuesLeft = with_left p c (v ∷ []) in
    clause_same n p q e ls (clause_weaker (λ d. d ≡ c → ⊥) (Agrees n p q e) (elsewhere p c v) n q e ls h)

pub look_suffices : LookSuffices
look_suffices n p q r e ls table narrower within obeys = (recalled n p q table narrower e r within ls).obeyed obeys
