-- What is known is so in each interpretation that the table leaves.
use Rattle.std.proofs.Common.{◌≡◌, ℕ, ◌+◌, ◌<◌, ◌==◌, ◌&&◌, nat_lt, Bool, true, false, not, if◌then◌else◌, List, [], ◌∷◌, length, Option, None, Some, refl, sym, ap, ◌∙◌, subst}
use Rattle.std.specs.List.{list_all}
use Rattle.std.specs.Option.{option_map, option_and_then}
use Rattle.std.proofs.lemmas.Bool.{eqb-true, ltb-true}
use Rattle.std.proofs.lemmas.Option.{none-some, same_Some, option_and_then_some}
use Rattle.fol_core.specs.Literals.{Lit, are_equal, equality, is_true_atom, is_true_literal}
use Rattle.fol_core.specs.Meaning.{Meaning}
use Rattle.fol_core.specs.SymbolTable.{is_same_kind}
use Rattle.fol_core.specs.Tree.{Tree, var, elem, app, Trees, none, more}
use Rattle.fol_core.specs.Truth.{Assignment, value_of, values_of}
use Rattle.fol_core.specs.declared.symbols.Kind.{Kind}
use Rattle.fol_core.specs.declared.symbols.Kind.TheVariants.{Function, Relation}
use Rattle.mace_cells.specs.Trails.{value_in}
use Rattle.mace_cells.specs.World.{World, cell_of, many_cells}
use Rattle.mace_cells.specs.declared.trail.TrailEntry.{TrailEntry}
use Rattle.mace_ground.specs.Cells.{Block, cell, cells_in, cell_at, found, value_at, value_of_kind}
use Rattle.mace_ground.proofs.Numbering.{by_number}
use Rattle.model_tables.specs.Size.{AllBelow}
use Rattle.model_tables.specs.Tables.{place_from}
use Rattle.cell_search.specs.Known.{place_within, number_of_cell, cell_number, seen, all_seen, cell_seen, compared, equation_seen, atom_seen, literal_seen}
use Rattle.cell_search.specs.Losses.{Extends}
use Rattle.cell_search.proofs.Seeing.{joined_some, both_true}

kinds_same : (a b : Kind) → is_same_kind a b ≡ true → a ≡ b
kinds_same Function Function h = refl
kinds_same Function Relation h = absurd cc
kinds_same Relation Function h = absurd cc
kinds_same Relation Relation h = refl

pub all_below : (n : ℕ) (xs : List ℕ) → list_all (λ x. nat_lt x n) xs ≡ true → AllBelow n xs
all_below n [] h = tt
all_below n (x ∷ xs) h = let b = both_true (nat_lt x n) _ h in (ltb-true x n b.0, all_below n xs b.1)

-- the cell that a number names
module _ (n : ℕ) (blocks : List Block) (kind : Kind) (s : ℕ) (xs : List ℕ) (k : ℕ) where
  placed : (q : ℕ × Block) → found n blocks s ≡ Some q → (b : Bool) → (list_all (λ x. nat_lt x n) xs) ≡ b → q.1.kind ≡ kind → length xs ≡ q.1.arity
      → option_map (λ p. q.0 + p) (if b then Some (place_from n 0 xs) else None) ≡ Some k → (k < cells_in n blocks) × (cell_at n blocks k ≡ cell kind s xs)
  placed q f false below kinds many h = absurd (none-some _ h)
  placed q f true below kinds many h =
      let p = by_number n blocks s q.0 q.1 xs f many (all_below n xs below) in
      let same : q.0 + place_from n 0 xs ≡ k = same_Some _ _ h in
      subst (λ (j : ℕ). (j < cells_in n blocks) × (cell_at n blocks j ≡ cell kind s xs)) same (p.0, p.1 ∙ ap (λ (c : Kind). cell c s xs) kinds)

  numbered : (f : Option (ℕ × Block)) → found n blocks s ≡ f → number_of_cell n kind xs f ≡ Some k → (k < cells_in n blocks) × (cell_at n blocks k ≡ cell kind s xs)
  numbered None e h = absurd (none-some _ h)
  numbered (Some q) e h = by (is_same_kind q.1.kind kind && length xs == q.1.arity) refl h
    where
      by : (b : Bool) → (is_same_kind q.1.kind kind && length xs == q.1.arity) ≡ b → (if b then option_map (λ p. q.0 + p) (place_within n 0 xs) else None) ≡ Some k
          → (k < cells_in n blocks) × (cell_at n blocks k ≡ cell kind s xs)
      by false t g = absurd (none-some _ g)
      by true t g = let both = both_true _ _ t in placed q e (list_all (λ x. nat_lt x n) xs) refl (kinds_same _ _ both.0) (eqb-true _ _ both.1) g

pub cell_named : (w : World) (kind : Kind) (s : ℕ) (xs : List ℕ) (k : ℕ) → cell_number w kind s xs ≡ Some k → (k < many_cells w) × (cell_of w k ≡ cell kind s xs)
cell_named w kind s xs k h = numbered w.size w.blocks kind s xs k (found w.size w.blocks s) refl h

module _ (w : World) (m : Meaning) (es : List TrailEntry) (e : Assignment) (extends : Extends w m es) where
  given : (kind : Kind) (s : ℕ) (xs : List ℕ) (k v : ℕ) → cell_number w kind s xs ≡ Some k → value_in es k ≡ Some v → value_of_kind m kind s xs ≡ v
  given kind s xs k v h g =
      let named = cell_named w kind s xs k h in
      sym (ap (value_at m) named.1) ∙ extends k v named.0 g

  known_app : (kind : Kind) (s : ℕ) (ts : Trees) (v : ℕ) → ((xs : List ℕ) → all_seen w es e ts ≡ Some xs → values_of m e ts ≡ xs)
      → option_and_then (value_in es) (cell_seen w es e kind s ts) ≡ Some v → value_of_kind m kind s (values_of m e ts) ≡ v
  known_app kind s ts v rest h =
      option_and_then_some (value_in es) (cell_seen w es e kind s ts) v h (λ k a b.
      option_and_then_some (cell_number w kind s) (all_seen w es e ts) k a (λ xs c d. ap (value_of_kind m kind s) (rest xs c) ∙ given kind s xs k v d b))

  mutual
    pub seen_so : (t : Tree) (v : ℕ) → seen w es e t ≡ Some v → value_of m e t ≡ v
    seen_so (var x) v h = same_Some _ _ h
    seen_so (elem k) v h = same_Some _ _ h
    seen_so (app s ts) v h = known_app Function s ts v (λ xs g. all_seen_so ts xs g) h

    pub all_seen_so : (ts : Trees) (xs : List ℕ) → all_seen w es e ts ≡ Some xs → values_of m e ts ≡ xs
    all_seen_so none xs h = same_Some _ _ h
    all_seen_so (more t ts) xs h =
        let j = joined_some (seen w es e t) (all_seen w es e ts) xs h in
        let first : value_of m e t ≡ j.0 = seen_so t j.0 j.1.1.0 in
        let others : values_of m e ts ≡ j.1.0 = all_seen_so ts j.1.0 j.1.1.1 in
        ap (λ (x : ℕ). x ∷ values_of m e ts) first ∙ ap (λ (ys : List ℕ). j.0 ∷ ys) others ∙ sym j.1.1.2

  pub cell_so : (kind : Kind) (s : ℕ) (ts : Trees) (k : ℕ) → cell_seen w es e kind s ts ≡ Some k → value_at m (cell_of w k) ≡ value_of_kind m kind s (values_of m e ts)
  cell_so kind s ts k h =
      option_and_then_some (cell_number w kind s) (all_seen w es e ts) k h (λ xs c d. ap (value_at m) (cell_named w kind s xs k d).1 ∙ ap (value_of_kind m kind s) (sym (all_seen_so ts xs c)))

  compared_some : (o p : Option ℕ) (b : Bool) → compared o p ≡ Some b → (x : ℕ) × ((y : ℕ) × ((o ≡ Some x) × (p ≡ Some y) × ((x == y) ≡ b)))
  compared_some None p b h = absurd (none-some _ h)
  compared_some (Some x) None b h = absurd (none-some _ h)
  compared_some (Some x) (Some y) b h = (x, (y, (refl, refl, same_Some _ _ h)))

  equation_so : (ts : Trees) (b : Bool) → equation_seen w es e ts ≡ Some b → are_equal (values_of m e ts) ≡ b
  equation_so none b h = absurd (none-some _ h)
  equation_so (more s none) b h = absurd (none-some _ h)
  equation_so (more s (more t none)) b h =
      let c = compared_some (seen w es e s) (seen w es e t) b h in
      let left : value_of m e s ≡ c.0 = seen_so s c.0 c.1.1.0 in
      let right : value_of m e t ≡ c.1.0 = seen_so t c.1.0 c.1.1.1 in
      ap (λ (x : ℕ). x == value_of m e t) left ∙ ap (λ (y : ℕ). c.0 == y) right ∙ c.1.1.2
  equation_so (more s (more t (more u us))) b h = absurd (none-some _ h)

  holds_as : (x : Bool) (v : ℕ) (b : Bool) → (if x then 1 else 0) ≡ v → (v == 1) ≡ b → x ≡ b
  holds_as true v b h g = ap (λ (u : ℕ). u == 1) h ∙ g
  holds_as false v b h g = ap (λ (u : ℕ). u == 1) h ∙ g

  map_some : (o : Option ℕ) (b : Bool) → option_map (λ v. v == 1) o ≡ Some b → (v : ℕ) × ((o ≡ Some v) × ((v == 1) ≡ b))
  map_some None b h = absurd (none-some _ h)
  map_some (Some v) b h = (v, (refl, same_Some _ _ h))

  pub atom_so : (t : Tree) (b : Bool) → atom_seen w es e t ≡ Some b → is_true_atom m e t ≡ b
  atom_so (var x) b h = absurd (none-some _ h)
  atom_so (elem k) b h = absurd (none-some _ h)
  atom_so (app r ts) b h = by (r == equality) h
    where
      by : (q : Bool) → (if q then equation_seen w es e ts else option_map (λ v. v == 1) (option_and_then (value_in es) (cell_seen w es e Relation r ts))) ≡ Some b
          → (if q then are_equal (values_of m e ts) else m.relation r (values_of m e ts)) ≡ b
      by true g = equation_so ts b g
      by false g =
          let v = map_some (option_and_then (value_in es) (cell_seen w es e Relation r ts)) b g in
          holds_as (m.relation r (values_of m e ts)) v.0 b (known_app Relation r ts v.0 (λ xs i. all_seen_so ts xs i) v.1.0) v.1.1

  pub literal_so : (l : Lit) (b : Bool) → literal_seen w es e l ≡ Some b → is_true_literal m e l ≡ b
  literal_so l b h = by (atom_seen w es e l.atom) refl h
    where
      by : (o : Option Bool) → atom_seen w es e l.atom ≡ o → option_map (λ a. if l.positive then a else not a) o ≡ Some b → is_true_literal m e l ≡ b
      by None i g = absurd (none-some _ g)
      by (Some a) i g = ap (λ (x : Bool). if l.positive then x else not x) (atom_so l.atom a i) ∙ same_Some _ _ g
