-- One node further: what it leads to.
use Rattle.std.proofs.Common.{◌≡◌, inl, inr, ℕ, ◌+◌, ◌<◌, ◌≤◌, IsTrue, List, [], ◌∷◌, ◌++◌, map, take, length, get_or, sym, ap, ◌∙◌, subst, arith}
use Rattle.std.proofs.lemmas.Bool.{or_left, or_right}
use Rattle.fol_core.specs.Substitutions.{substitute, substitute_all}
use Rattle.fol_core.specs.Tree.{Tree, var, elem, app, trees_of}
use Rattle.substitutions.specs.Occurring.{has_variable, have_variable}
use Rattle.term_bank.specs.Bank.{tree_at}
use Rattle.term_bank.specs.Cells.{AreNumbersBelow, numbers}
use Rattle.term_bank.specs.declared.id.TermId.{TermId}
use Rattle.unify.specs.Bindings.{resolved}
use Rattle.unify.specs.Reaches.{becomes, IsClosed, Reaching, Longer, Adds, CanSpread, AreReached, Spreads, CanExpand, Expands}
use Rattle.unify.specs.Spots.{raised, spot, In}
use Rattle.unify.specs.Steps.{walked, CanReach}
use Rattle.unify.specs.declared.spot.Bound.{Bound}
use Rattle.unify.specs.declared.spot.Spot.{Spot}
use Rattle.unify.proofs.Classes.{argument_in, placed_at, take_all}
use Rattle.unify.proofs.Closing.{placed, closed_variable, closed_element, closed_application, in_taken_more, reached_more, reaching_start, Done, done_next, closed_more}
use Rattle.unify.proofs.Lists.{nothing_more}

have_member : (bank : List Tree) (bs : List Bound) (i x : ℕ) (ks : List TermId) (k : TermId) → In k ks → IsTrue (has_variable x (becomes bank bs (spot k i))) → IsTrue (have_variable x (substitute_all (resolved bank bs) (placed bank i ks)))
have_member bank bs i x [] k m h = absurd m
have_member bank bs i x (j ∷ ks) k (inl e) h =
    or_left (has_variable x (becomes bank bs (spot j i))) (have_variable x (substitute_all (resolved bank bs) (placed bank i ks))) (subst (λ (l : TermId). IsTrue (has_variable x (becomes bank bs (spot l i)))) e h)
have_member bank bs i x (j ∷ ks) k (inr m) h =
    or_right (has_variable x (becomes bank bs (spot j i))) (have_variable x (substitute_all (resolved bank bs) (placed bank i ks))) (have_member bank bs i x ks k m h)

pub can_spread : (bank : List Tree) (bs : List Bound) (ps : List Spot) (room : ℕ) (p : Spot) (f : ℕ) (ks : List TermId) → CanExpand bank bs ps room p
    → app f (trees_of (map (λ j. tree_at bank j.0) ks)) ≡ tree_at bank p.term.0 → AreNumbersBelow p.term.0 (numbers ks) → CanSpread bank bs ps room ks p.context
can_spread bank bs ps room p f ks c e below = record {
  reaching = c.reaching;
  parent = p;
  there = c.there;
  inside = λ qs ys parts i k m. argument_in bank bs qs ys p f ks k parts i (sym e) (all_below ks (parts.spots p i).within below) m;
  within = λ k m x h. subst (λ t. IsTrue (has_variable x t)) (sym (ap (substitute (resolved bank bs)) (placed_at bank p f ks (sym e)))) (have_member bank bs p.context x ks k m h);
}
  where
    all_below : (js : List TermId) → p.term.0 < length bank → AreNumbersBelow p.term.0 (numbers js) → AreNumbersBelow (length bank) (numbers js)
    all_below [] lt b = tt
    all_below (j ∷ js) lt b = (omega (arith, lt, b.0), all_below js lt b.1)

pub spread_next : (bank : List Tree) (bs : List Bound) (old ps qs : List Spot) (i n : ℕ) (ks : List TermId) (d : TermId) (room : ℕ) → n < length ks → AreReached bank bs ps i (take n ks)
    → Adds bank bs ps qs room (spot (get_or ks n d) i) → AreReached bank bs qs i (take (n + 1) ks)
spread_next bank bs old ps qs i n ks d room lt so a k m = elim (in_taken_more k ks n d lt m) [
  | inl j ↦ reached_more bank bs ps qs i (take n ks) a.longer so k j
  | inr e ↦ subst (λ (l : TermId). In (walked bank bs (spot l i)) qs) (sym e) a.added
]

pub spread_all : (bank : List Tree) (bs : List Bound) (ps : List Spot) (i n : ℕ) (ks : List TermId) → length ks ≤ n → AreReached bank bs ps i (take n ks) → AreReached bank bs ps i ks
spread_all bank bs ps i n ks le h = subst (AreReached bank bs ps i) (take_all n ks le) h

same_list : (ps : List Spot) → Longer ps ps
same_list ps = ([], sym (nothing_more ps))

pub expands_variable : (bank : List Tree) (bs : List Bound) (ps : List Spot) (room : ℕ) (p : Spot) (x : ℕ) → CanExpand bank bs ps room p → var x ≡ tree_at bank p.term.0 → Expands bank bs ps ps room p
expands_variable bank bs ps room p x c e = record {
  reaching = c.reaching;
  longer = same_list ps;
  closed = closed_variable bank bs ps p (x + p.context) c.reaching.bindings (c.reaching.free p c.there) (ap (substitute (raised p.context)) (sym e));
}

pub expands_element : (bank : List Tree) (bs : List Bound) (ps : List Spot) (room : ℕ) (p : Spot) (k : ℕ) → CanExpand bank bs ps room p → elem k ≡ tree_at bank p.term.0 → Expands bank bs ps ps room p
expands_element bank bs ps room p k c e = record { reaching = c.reaching; longer = same_list ps; closed = closed_element bank bs ps p k (ap (substitute (raised p.context)) (sym e)) }

pub expands_application : (bank : List Tree) (bs : List Bound) (ps qs : List Spot) (room : ℕ) (p : Spot) (f : ℕ) (ks : List TermId) → app f (trees_of (map (λ j. tree_at bank j.0) ks)) ≡ tree_at bank p.term.0
    → Spreads bank bs ps qs room ks p.context → Expands bank bs ps qs room p
expands_application bank bs ps qs room p f ks e s = record { reaching = s.reaching; longer = s.longer; closed = closed_application bank bs qs p f ks s.reaching.bindings (sym e) s.added }

-- the first node alone
pub starts : (bank : List Tree) (bs : List Bound) (q : Spot) (room n : ℕ) (qs ps : List Spot) → CanReach bank bs q room → n ≡ room → qs ≡ [] → ps ≡ qs ++ q ∷ [] → Reaching bank bs ps n
starts bank bs q room n qs ps c e none is = subst (Reaching bank bs ps) (sym e) (subst (λ (l : List Spot). Reaching bank bs l room) (sym (is ∙ ap (λ l. l ++ q ∷ []) none)) (reaching_start bank bs q room c))

pub starts_with : (q : Spot) (qs ps : List Spot) → qs ≡ [] → ps ≡ qs ++ q ∷ [] → (rest : List Spot) × (ps ≡ q ∷ rest)
starts_with q qs ps none is = ([], is ∙ ap (λ l. l ++ q ∷ []) none)

pub reach_next : (bank : List Tree) (bs : List Bound) (ps qs : List Spot) (n room : ℕ) (p : Spot) → Done (IsClosed bank bs ps) ps n → n < length ps → p ≡ get_or ps n p → Expands bank bs ps qs room p
    → Done (IsClosed bank bs qs) qs (n + 1)
reach_next bank bs ps qs n room p d lt at e =
    done_next (IsClosed bank bs ps) (IsClosed bank bs qs) ps qs e.longer.0 n p d lt at e.longer.1 (λ r c. subst (λ (l : List Spot). IsClosed bank bs l r) (sym e.longer.1) (closed_more bank bs ps e.longer.0 r c)) e.closed

pub still_starts : (q : Spot) (ps qs : List Spot) → Longer ps qs → ((rest : List Spot) × (ps ≡ q ∷ rest)) → (rest : List Spot) × (qs ≡ q ∷ rest)
still_starts q ps qs l s = (s.0 ++ l.0, l.1 ∙ ap (λ k. k ++ l.0) s.1)

pub longer_length : (ps qs : List Spot) → Longer ps qs → length ps ≤ length qs
longer_length ps qs l = subst (λ (k : List Spot). length ps ≤ length k) (sym l.1) (by ps)
  where
    by : (ps : List Spot) → length ps ≤ length (ps ++ l.0)
    by [] = omega arith
    by (p ∷ ps) = omega (arith, by ps)
