-- Steps of merging.
use Rattle.std.proofs.Common.{◌≡◌, ℕ, zero, suc, ◌+◌, ◌*◌, ◌<◌, ◌≤◌, refl, sym, ap, ap₂, subst, ◌∙◌, List, [], ◌∷◌, ◌++◌, length, map, set, arith, inl, inr, slice_index_or, Bool, true, false}
use Rattle.std.proofs.Math.Nat.{mul-le-mul_right}
use Rattle.std.proofs.lemmas.Bool.{cases_eq}
use Rattle.std.proofs.lemmas.List.{length-set, length_push, length-append, map-append, get_or_read}
use Rattle.std.proofs.lemmas.List.Sums.{sum_by-set, get_or-le-sum_by}
use Rattle.fol_core.specs.Substitutions.{Substitution}
use Rattle.fol_core.specs.Tree.{Tree}
use Rattle.term_unifiers.specs.Comparing.{AreApart, Pairs, IsPassed, Compared}
use Rattle.term_unifiers.specs.Merging.{nth, LeadDown, FitsLinks, CarriesOn, Carries, Shortened, IsLeast, IsFlat, CountsUp, IsNoVariable, HasSchemas, Merging, with_pair, Fits, IsMerging, GoesOn, Clashes, sum_of, arity, arities, left_of, CanUnite, Steps, Lessens, IsMerged}
use Rattle.term_unifiers.specs.Shapes.{Shape, variable, shape_at, AreBelow}
use Rattle.term_unifiers.specs.Solved.{IsBegun}
use Rattle.term_unifiers.proofs.Growing.{below_at, below_append, below_front, below_behind}
use Rattle.term_unifiers.specs.declared.work.Comparison.{Comparison}
use Rattle.term_unifiers.specs.declared.work.Comparison.TheVariants.{Clash, First, Second}
use Rattle.term_unifiers.proofs.Links.{set_here, set_there, each_set, shortened_on}

-- two lists whose fronts have one length
fronts : {X : Type 0} (hs bs cs ds : List X) → length hs ≡ length bs → hs ++ cs ≡ bs ++ ds → (hs ≡ bs) × (cs ≡ ds)
fronts [] [] cs ds h e = (refl, e)
fronts [] (b ∷ bs) cs ds h e = let no_place : ⊥ = omega (arith, h) in elim no_place [ ]
fronts (a ∷ hs) [] cs ds h e = let no_place : ⊥ = omega (arith, h) in elim no_place [ ]
fronts {X = X} (a ∷ hs) (b ∷ bs) cs ds h e =
    let first : a ≡ b = cc in
    let shorter : length hs ≡ length bs = omega (arith, h) in
    let behind : hs ++ cs ≡ bs ++ ds = cc in
    let r = fronts hs bs cs ds shorter behind in
    (ap₂ (λ (x : X) (xs : List X). x ∷ xs) first r.0, r.1)

labels_front : (label : Substitution) (hs bs cs ds : List ℕ) → length hs ≡ length bs → map label (hs ++ cs) ≡ map label (bs ++ ds) → (map label hs ≡ map label bs) × (map label cs ≡ map label ds)
labels_front label hs bs cs ds h e =
    fronts (map label hs) (map label bs) (map label cs) (map label ds) (same hs bs h) (sym (map-append label hs cs) ∙ e ∙ map-append label bs ds)
  where
    same : (hs bs : List ℕ) → length hs ≡ length bs → length (map label hs) ≡ length (map label bs)
    same [] [] h = refl
    same [] (b ∷ bs) h = let no_place : ⊥ = omega (arith, h) in elim no_place [ ]
    same (a ∷ hs) [] h = let no_place : ⊥ = omega (arith, h) in elim no_place [ ]
    same (a ∷ hs) (b ∷ bs) h = let shorter : length hs ≡ length bs = omega (arith, h) in ap suc (same hs bs shorter)

labels_both : (label : Substitution) (hs bs cs ds : List ℕ) → map label hs ≡ map label bs → map label cs ≡ map label ds → map label (hs ++ cs) ≡ map label (bs ++ ds)
labels_both label hs bs cs ds e f = map-append label hs cs ∙ ap₂ (λ (us vs : List Tree). us ++ vs) e f ∙ sym (map-append label bs ds)

-- the pair that is looked at
pair_same : (label : Substitution) (m : Merging) (a b : ℕ) → length m.lefts ≡ length m.rights → Fits label (with_pair a b m) → (map label m.lefts ≡ map label m.rights) × (label a ≡ label b)
pair_same label m a b even fits =
    let r = labels_front label m.lefts m.rights (a ∷ []) (b ∷ []) even fits.pairs in
    (r.0, first (label a) (label b) r.1)
  where
    first : (s t : Tree) → s ∷ [] ≡ t ∷ [] → s ≡ t
    first s t e = cc

pair_made : (label : Substitution) (m : Merging) (a b : ℕ) → FitsLinks label m.links → map label m.lefts ≡ map label m.rights → label a ≡ label b → Fits label (with_pair a b m)
pair_made label m a b links pairs same = record { links = links; pairs = labels_both label m.lefts m.rights (a ∷ []) (b ∷ []) pairs (ap (λ t. t ∷ []) same) }

pub even_before : (shapes : List Shape) (m : Merging) (a b : ℕ) → IsMerging shapes (with_pair a b m) → length m.lefts ≡ length m.rights
even_before shapes m a b is =
    let e = is.even in
    let l = length_push m.lefts a in
    let r = length_push m.rights b in
    omega (arith, e, l, r)

pub goes_refl : (shapes : List Shape) (m : Merging) → IsMerging shapes m → GoesOn shapes m m
goes_refl shapes m is = record { merging = is; back = λ label f. f; on = λ label r f. f }

pub goes_on : (shapes : List Shape) (a b c : Merging) → GoesOn shapes a b → GoesOn shapes b c → GoesOn shapes a c
goes_on shapes a b c p q = record {
  merging = q.merging;
  back = λ label f. p.back label (q.back label f);
  on = λ label r f. q.on label r (p.on label r f);
}

pub clashes_on : (shapes : List Shape) (a b : Merging) → GoesOn shapes a b → Clashes shapes b → Clashes shapes a
clashes_on shapes a b p q label r f = q label r (p.on label r f)

-- links are shortened, and nothing else is done
pub shortened_goes : (shapes : List Shape) (m n : Merging) → IsMerging shapes m → Shortened m.links n.links → n.schemas ≡ m.schemas → n.lefts ≡ m.lefts → n.rights ≡ m.rights → GoesOn shapes m n
shortened_goes shapes m n is short schemas lefts rights =
    let back : (label : Substitution) → Fits label n → Fits label m = λ label f. record { links = short.back label f.links; pairs = ap (map label) (sym lefts) ∙ f.pairs ∙ ap (map label) rights } in record {
      merging = record {
        linked = short.as_many ∙ is.linked;
        schemed = ap length schemas ∙ is.schemed;
        down = short.down;
        inside = subst (AreBelow (length shapes)) (sym schemas) is.inside;
        lefts = subst (AreBelow (length shapes)) (sym lefts) is.lefts;
        rights = subst (AreBelow (length shapes)) (sym rights) is.rights;
        even = ap length lefts ∙ is.even ∙ sym (ap length rights);
        schemas = λ label f. let s = is.schemas label (back label f) in subst (λ l. HasSchemas label shapes l n.links) (sym schemas)
            (record { same = s.same; own = s.own; onward = short.carries label shapes m.schemas s.onward });
      };
      back = back;
      on = λ label r f. record { links = short.on label f.links; pairs = ap (map label) lefts ∙ f.pairs ∙ ap (map label) (sym rights) };
    }

-- another pair in place of one, where the labels that fit make the same of both
pub pair_for : (shapes : List Shape) (m : Merging) (a b low high : ℕ) → IsMerging shapes (with_pair a b m) → low < length shapes → high < length shapes
    → ((label : Substitution) → FitsLinks label m.links → label a ≡ label b → label low ≡ label high) → ((label : Substitution) → FitsLinks label m.links → label low ≡ label high → label a ≡ label b)
    → GoesOn shapes (with_pair a b m) (with_pair low high m)
pair_for shapes m a b low high is l h to from =
    let even : length m.lefts ≡ length m.rights = even_before shapes m a b is in
    let back : (label : Substitution) → Fits label (with_pair low high m) → Fits label (with_pair a b m) = λ label f.
    let p = pair_same label m low high even f in pair_made label m a b f.links p.0 (from label f.links p.1) in record {
      merging = record {
        linked = is.linked;
        schemed = is.schemed;
        down = is.down;
        inside = is.inside;
        lefts = below_append (length shapes) m.lefts (low ∷ []) (below_front (length shapes) m.lefts (a ∷ []) is.lefts) (l, tt);
        rights = below_append (length shapes) m.rights (high ∷ []) (below_front (length shapes) m.rights (b ∷ []) is.rights) (h, tt);
        even = let x = length_push m.lefts low in let y = length_push m.rights high in omega (arith, x, y, even);
        schemas = λ label f. is.schemas label (back label f);
      };
      back = back;
      on = λ label r f. let p = pair_same label m a b even f in pair_made label m low high f.links p.0 (to label f.links p.1);
    }

-- a pair of one node
pub pair_dropped : (shapes : List Shape) (m : Merging) (a b : ℕ) → IsMerging shapes (with_pair a b m) → a ≡ b → GoesOn shapes (with_pair a b m) m
pair_dropped shapes m a b is same =
    let even : length m.lefts ≡ length m.rights = even_before shapes m a b is in
    let back : (label : Substitution) → Fits label m → Fits label (with_pair a b m) = λ label f. pair_made label m a b f.links f.pairs (ap label same) in record {
      merging = record {
        linked = is.linked;
        schemed = is.schemed;
        down = is.down;
        inside = is.inside;
        lefts = below_front (length shapes) m.lefts (a ∷ []) is.lefts;
        rights = below_front (length shapes) m.rights (b ∷ []) is.rights;
        even = even;
        schemas = λ label f. is.schemas label (back label f);
      };
      back = back;
      on = λ label r f. record { links = f.links; pairs = (pair_same label m a b even f).0 };
    }

-- what both nodes of a pair are below
pub pair_inside : (shapes : List Shape) (m : Merging) (a b : ℕ) → IsMerging shapes (with_pair a b m) → (a < length shapes) × (b < length shapes)
pair_inside shapes m a b is = ((below_behind (length shapes) m.lefts (a ∷ []) is.lefts).0, (below_behind (length shapes) m.rights (b ∷ []) is.rights).0)

pub schema_inside : (shapes : List Shape) (m : Merging) → IsMerging shapes m → (n : ℕ) → n < length shapes → nth m.schemas n < length shapes
schema_inside shapes m is n h = let inside : n < length m.schemas = omega (arith, h, is.schemed) in below_at (length shapes) m.schemas is.inside n 0 inside

high_inside : (shapes : List Shape) (m : Merging) (low high : ℕ) → CanUnite shapes m low high → (low < length shapes) × (high < length shapes)
high_inside shapes m low high can = pair_inside shapes m low high can.merging

-- nothing makes the same of the two
pub unite_clash : (shapes : List Shape) (m : Merging) (low high : ℕ) → CanUnite shapes m low high → AreApart (shape_at shapes (nth m.schemas low)) (shape_at shapes (nth m.schemas high)) → Clashes shapes (with_pair low high m)
unite_clash shapes m low high can are label r f =
    let i = high_inside shapes m low high can in
    let s = can.merging.schemas label f in
    let p = pair_same label m low high (even_before shapes m low high can.merging) f in
    are.apart label
    (sym (r (nth m.schemas low) (schema_inside shapes (with_pair low high m) can.merging low i.0) are.first) ∙ sym (s.same low i.0) ∙ p.1 ∙ s.same high i.1
    ∙ r (nth m.schemas high) (schema_inside shapes (with_pair low high m) can.merging high i.1) are.second)

-- links with one more
linked_back : (label : Substitution) (links : List ℕ) (low high : ℕ) → high < length links → nth links high ≡ high → FitsLinks label (set links high low) → FitsLinks label links × (label low ≡ label high)
linked_back label links low high h least fits = (
  λ k g. each_set (λ k. k < length links → label k ≡ label (nth links k)) high (λ i. ap label (sym least))
      (λ k d i. fits k (longer k i) ∙ ap label (set_there links high low k d)) k g,
  sym (fits high (longer high h) ∙ ap label (set_here links high low h)),
)
  where
    longer : (k : ℕ) → k < length links → k < length (set links high low)
    longer k i = subst (λ l. k < l) (sym (length-set links high low)) i

linked_on : (label : Substitution) (links : List ℕ) (low high : ℕ) → high < length links → FitsLinks label links → label low ≡ label high → FitsLinks label (set links high low)
linked_on label links low high h fits same k g =
    each_set (λ k. k < length links → label k ≡ label (nth (set links high low) k)) high (λ i. sym same ∙ ap label (sym (set_here links high low h)))
    (λ k d i. fits k i ∙ ap label (sym (set_there links high low k d))) k (subst (λ l. k < l) (length-set links high low) g)

linked_down : (links : List ℕ) (low high : ℕ) → high < length links → low < high → LeadDown links → LeadDown (set links high low)
linked_down links low high h less down k g =
    each_set (λ k. k < length links → nth (set links high low) k ≤ k) high (λ i. let s = set_here links high low h in omega (arith, s, less))
    (λ k d i. let s = set_there links high low k d in let lower = down k i in omega (arith, s, lower)) k (subst (λ l. k < l) (length-set links high low) g)

-- each link that is greater makes room for the arguments of a node
pub linked_less : (shapes : List Shape) (links : List ℕ) (low high few : ℕ) (lefts pairs : List ℕ) → high < length links → low < high → nth links high ≡ high → length pairs ≡ length lefts + few → few ≤ arities shapes
    → sum_of (set links high low) * (arities shapes + 1) + length pairs ≤ sum_of links * (arities shapes + 1) + length lefts
linked_less shapes links low high few lefts pairs h less least longer some =
    let total = sum_by-set (λ m. m) links high low 0 h in
    let fewer : sum_of (set links high low) + 1 ≤ sum_of links = omega (arith, total, less, least) in
    let product : (sum_of (set links high low) + 1) * (arities shapes + 1) ≤ sum_of links * (arities shapes + 1) = mul-le-mul_right (arities shapes + 1) fewer in
    let spread : (sum_of (set links high low) + 1) * (arities shapes + 1) ≡ sum_of (set links high low) * (arities shapes + 1) + (arities shapes + 1) = omega arith in
    omega (arith, product, spread, longer, some)

-- the lesser one's schema stays, and its arguments are to be the same as the other's
pub unite_first : (shapes : List Shape) (m n : Merging) (low high : ℕ) → CanUnite shapes m low high
    → Pairs (length shapes) (shape_at shapes (nth m.schemas low)) (shape_at shapes (nth m.schemas high)) m.lefts m.rights n.lefts n.rights
    → n.links ≡ set m.links high low → n.schemas ≡ m.schemas → GoesOn shapes (with_pair low high m) n
unite_first shapes m n low high can pairs links schemas = record {
  merging = record {
    linked = ap length links ∙ length-set m.links high low ∙ can.merging.linked;
    schemed = ap length schemas ∙ can.merging.schemed;
    down = subst LeadDown (sym links) (linked_down m.links low high inside can.lower can.merging.down);
    inside = subst (AreBelow (length shapes)) (sym schemas) can.merging.inside;
    lefts = subst (AreBelow (length shapes)) (sym pairs.left) (below_append (length shapes) m.lefts pairs.ks (below_front (length shapes) m.lefts (low ∷ []) can.merging.lefts) pairs.left_below);
    rights = subst (AreBelow (length shapes)) (sym pairs.right) (below_append (length shapes) m.rights pairs.js (below_front (length shapes) m.rights (high ∷ []) can.merging.rights) pairs.right_below);
    even = ap length pairs.left ∙ length-append m.lefts pairs.ks ∙ ap₂ (λ (a b : ℕ). a + b) even pairs.even ∙ sym (ap length pairs.right ∙ length-append m.rights pairs.js);
    schemas = λ label f.
        let s = can.merging.schemas label (back label f) in
        let p = halves label f in
        subst (λ l. HasSchemas label shapes l n.links) (sym schemas) (record {
          same = s.same;
          own = s.own;
          onward = subst (CarriesOn label shapes m.schemas) (sym links) (λ k g.
              let C : ℕ → ℕ → Type 0 = λ i j. Carries label (shape_at shapes (nth m.schemas i)) (shape_at shapes (nth m.schemas j)) in
              each_set (λ k. k < length m.links → C k (nth (set m.links high low) k)) high
              (λ i. subst (C high) (sym (set_here m.links high low inside)) (λ firm. (pairs.heads firm, pairs.whole label p.1 firm)))
              (λ k d i. subst (C k) (sym (set_there m.links high low k d)) (s.onward k i)) k (subst (λ l. k < l) (length-set m.links high low) g));
        });
  };
  back = back;
  on = λ label r f.
      let i = high_inside shapes m low high can in
      let s = can.merging.schemas label f in
      let p = pair_same label m low high even f in record {
        links = subst (FitsLinks label) (sym links) (linked_on label m.links low high inside f.links p.1);
        pairs = ap (map label) pairs.left
            ∙ labels_both label m.lefts m.rights pairs.ks pairs.js p.0
            (pairs.arguments label (λ firm.
            sym (r (nth m.schemas low) (schema_inside shapes (with_pair low high m) can.merging low i.0) (pairs.heads firm)) ∙ sym (s.same low i.0) ∙ p.1 ∙ s.same high i.1
            ∙ r (nth m.schemas high) (schema_inside shapes (with_pair low high m) can.merging high i.1) firm))
            ∙ ap (map label) (sym pairs.right);
      };
}
  where
    even : length m.lefts ≡ length m.rights
    even = even_before shapes m low high can.merging

    inside : high < length m.links
    inside = let i = high_inside shapes m low high can in omega (arith, i.1, can.merging.linked)

    halves : (label : Substitution) → Fits label n → (map label m.lefts ≡ map label m.rights) × (map label pairs.ks ≡ map label pairs.js)
    halves label f = labels_front label m.lefts m.rights pairs.ks pairs.js even (ap (map label) (sym pairs.left) ∙ f.pairs ∙ ap (map label) pairs.right)

    back : (label : Substitution) → Fits label n → Fits label (with_pair low high m)
    back label f =
        let l = linked_back label m.links low high inside can.high_least (subst (FitsLinks label) links f.links) in
        pair_made label m low high l.0 (halves label f).0 l.1

-- the greater one's schema is taken, since the lesser one has none but a variable
pub unite_second : (shapes : List Shape) (m n : Merging) (low high : ℕ) → CanUnite shapes m low high → IsPassed (shape_at shapes (nth m.schemas low)) m.lefts m.rights n.lefts n.rights
    → n.links ≡ set m.links high low → n.schemas ≡ set m.schemas low (nth m.schemas high) → GoesOn shapes (with_pair low high m) n
unite_second shapes m n low high can passed links schemas = record {
  merging = record {
    linked = ap length links ∙ length-set m.links high low ∙ can.merging.linked;
    schemed = ap length schemas ∙ length-set m.schemas low (nth m.schemas high) ∙ can.merging.schemed;
    down = subst LeadDown (sym links) (linked_down m.links low high inside can.lower can.merging.down);
    inside = subst (AreBelow (length shapes)) (sym schemas) (below_set (length shapes) m.schemas low (nth m.schemas high) can.merging.inside (schema_inside shapes (with_pair low high m) can.merging high within.1));
    lefts = subst (AreBelow (length shapes)) (sym passed.left) (below_front (length shapes) m.lefts (low ∷ []) can.merging.lefts);
    rights = subst (AreBelow (length shapes)) (sym passed.right) (below_front (length shapes) m.rights (high ∷ []) can.merging.rights);
    even = ap length passed.left ∙ even ∙ sym (ap length passed.right);
    schemas = λ label f. subst (λ l. HasSchemas label shapes l n.links) (sym schemas) (new_schemas label (back label f));
  };
  back = back;
  on = λ label r f.
      let p = pair_same label m low high even f in record {
        links = subst (FitsLinks label) (sym links) (linked_on label m.links low high inside f.links p.1);
        pairs = ap (map label) passed.left ∙ p.0 ∙ ap (map label) (sym passed.right);
      };
}
  where
    other : ℕ
    other = nth m.schemas high

    even : length m.lefts ≡ length m.rights
    even = even_before shapes m low high can.merging

    within : (low < length shapes) × (high < length shapes)
    within = high_inside shapes m low high can

    inside : high < length m.links
    inside = omega (arith, within.1, can.merging.linked)

    schema_low : low < length m.schemas
    schema_low = omega (arith, within.0, can.merging.schemed)

    below_set : (b : ℕ) (ks : List ℕ) (i k : ℕ) → AreBelow b ks → k < b → AreBelow b (set ks i k)
    below_set b [] i k are h = tt
    below_set b (j ∷ ks) zero k are h = (h, are.1)
    below_set b (j ∷ ks) (suc i) k are h = (are.0, below_set b ks i k are.1 h)

    back : (label : Substitution) → Fits label n → Fits label (with_pair low high m)
    back label f =
        let l = linked_back label m.links low high inside can.high_least (subst (FitsLinks label) links f.links) in
        pair_made label m low high l.0 (ap (map label) (sym passed.left) ∙ f.pairs ∙ ap (map label) passed.right) l.1

    new_schemas : (label : Substitution) → Fits label (with_pair low high m) → HasSchemas label shapes (set m.schemas low (nth m.schemas high)) n.links
    new_schemas label f =
        let s = can.merging.schemas label f in
        let p = pair_same label m low high even f in
        let now : List ℕ = set m.schemas low (nth m.schemas high) in
        let here : nth now low ≡ nth m.schemas high = set_here m.schemas low (nth m.schemas high) schema_low in
        let there : (k : ℕ) → (k ≡ low → ⊥) → nth now k ≡ nth m.schemas k = λ k d. set_there m.schemas low (nth m.schemas high) k d in
        let C : ℕ → ℕ → Type 0 = λ i j. Carries label (shape_at shapes (nth now i)) (shape_at shapes (nth now j)) in
        let apart : high ≡ low → ⊥ = λ e. omega (arith, e, can.lower) in record {
          same = λ k g. each_set (λ k. k < length shapes → label k ≡ label (nth now k)) low
              (λ i. p.1 ∙ s.same high within.1 ∙ ap label (sym here))
              (λ k d i. s.same k i ∙ ap label (sym (there k d))) k g;
          own = λ k g. each_set (λ k. k < length shapes → Carries label (shape_at shapes k) (shape_at shapes (nth now k))) low
              (λ i firm. elim (passed.variable (s.own low i firm).0) [ ])
              (λ k d i. subst (λ j. Carries label (shape_at shapes k) (shape_at shapes j)) (sym (there k d)) (s.own k i)) k g;
          onward = subst (CarriesOn label shapes now) (sym links) (λ k g.
              each_set (λ k. k < length m.links → C k (nth (set m.links high low) k)) high
              (λ i. subst (C high) (sym (set_here m.links high low inside))
              (subst (λ a. Carries label (shape_at shapes a) (shape_at shapes (nth now low))) (sym (there high apart))
              (subst (λ a. Carries label (shape_at shapes (nth m.schemas high)) (shape_at shapes a)) (sym here) (λ firm. (firm, refl)))))
              (λ k d i. subst (C k) (sym (set_there m.links high low k d)) (on_link label s k i)) k (subst (λ l. k < l) (length-set m.links high low) g));
        }
      where
        -- a node that isn't linked anew
        on_link : (label : Substitution) → HasSchemas label shapes m.schemas m.links → (k : ℕ) → k < length m.links
            → Carries label (shape_at shapes (nth (set m.schemas low (nth m.schemas high)) k)) (shape_at shapes (nth (set m.schemas low (nth m.schemas high)) (nth m.links k)))
        on_link label s k i =
            let now : List ℕ = set m.schemas low (nth m.schemas high) in
            let there : (k : ℕ) → (k ≡ low → ⊥) → nth now k ≡ nth m.schemas k = λ k d. set_there m.schemas low (nth m.schemas high) k d in
            let C : ℕ → ℕ → Type 0 = λ i j. Carries label (shape_at shapes (nth now i)) (shape_at shapes (nth now j)) in
            each_set (λ k. k < length m.links → C k (nth m.links k)) low
            (λ i. subst (C low) (sym can.low_least) (λ firm. (firm, refl)))
            (λ k d i. elim (cases_eq (nth m.links k) low) [
              | inl e ↦ λ firm. elim (passed.variable (subst (λ a. IsNoVariable (shape_at shapes (nth m.schemas a))) e (s.onward k i (subst (λ a. IsNoVariable (shape_at shapes a)) (there k d) firm)).0)) [ ]
              | inr f ↦ subst (λ a. Carries label (shape_at shapes a) (shape_at shapes (nth now (nth m.links k)))) (sym (there k d))
                  (subst (λ a. Carries label (shape_at shapes (nth m.schemas k)) (shape_at shapes a)) (sym (there (nth m.links k) f)) (s.onward k i))
            ]) k i

-- nodes before any are merged
pub begin_merging : (shapes : List Shape) (m : Merging) → CountsUp m.links (length shapes) → CountsUp m.schemas (length shapes) → AreBelow (length shapes) m.lefts → AreBelow (length shapes) m.rights → length m.lefts ≡ length m.rights → IsMerging shapes m
begin_merging shapes m links schemas lefts rights even = record {
  linked = links.as_many;
  schemed = schemas.as_many;
  down = λ n h. let e = links.own n (linked n h) in omega (arith, e);
  inside = all_below m.schemas (length shapes) (λ i h. let inner : i < length shapes = omega (arith, h, schemas.as_many) in let e = schemas.own i inner in omega (arith, e, inner));
  lefts = lefts;
  rights = rights;
  even = even;
  schemas = λ label f. record {
    same = λ n h. ap label (sym (schemas.own n h));
    own = λ n h. subst (λ k. Carries label (shape_at shapes n) (shape_at shapes k)) (sym (schemas.own n h)) (λ firm. (firm, refl));
    onward = λ n h. subst (λ k. Carries label (shape_at shapes (nth m.schemas n)) (shape_at shapes (nth m.schemas k))) (sym (links.own n (linked n h))) (λ firm. (firm, refl));
  };
}
  where
    linked : (n : ℕ) → n < length m.links → n < length shapes
    linked n h = omega (arith, h, links.as_many)

    all_below : (ks : List ℕ) (b : ℕ) → ((i : ℕ) → i < length ks → nth ks i < b) → AreBelow b ks
    all_below [] b h = tt
    all_below (k ∷ ks) b h = (h 0 (omega arith), all_below ks b (λ i g. let inner : suc i < length (k ∷ ks) = omega (arith, g) in h (suc i) inner))

-- a schema that was read
pub schema_read : (shapes : List Shape) (m : Merging) (low high n k : ℕ) → CanUnite shapes m low high → n < length shapes → k ≡ slice_index_or m.schemas n k → (k ≡ nth m.schemas n) × (k < length shapes)
schema_read shapes m low high n k can h e =
    let inside : n < length m.schemas = omega (arith, h, can.merging.schemed) in
    let read : k ≡ nth m.schemas n = get_or_read m.schemas n k inside e 0 in
    (read, subst (λ i. i < length shapes) (sym read) (schema_inside shapes (with_pair low high m) can.merging n h))

pub united_clash : (shapes : List Shape) (m : Merging) (low high kept other : ℕ) (l r ls rs : List ℕ) (d : Comparison) → CanUnite shapes m low high → kept ≡ nth m.schemas low → other ≡ nth m.schemas high → d ≡ Clash → Compared shapes kept other l r ls rs d → Clashes shapes (with_pair low high m)
united_clash shapes m low high kept other l r ls rs d can k o e is =
    unite_clash shapes m low high can (subst (λ i. AreApart (shape_at shapes i) (shape_at shapes (nth m.schemas high))) k (subst (λ i. AreApart (shape_at shapes kept) (shape_at shapes i)) o (subst (Compared shapes kept other l r ls rs) e is)))

pub paired : (shapes : List Shape) (m : Merging) (low high kept other : ℕ) (ls rs : List ℕ) (d : Comparison) → kept ≡ nth m.schemas low → other ≡ nth m.schemas high → d ≡ First → Compared shapes kept other m.lefts m.rights ls rs d
    → Pairs (length shapes) (shape_at shapes (nth m.schemas low)) (shape_at shapes (nth m.schemas high)) m.lefts m.rights ls rs
paired shapes m low high kept other ls rs d k o e is =
    subst (λ i. Pairs (length shapes) (shape_at shapes i) (shape_at shapes (nth m.schemas high)) m.lefts m.rights ls rs) k
    (subst (λ i. Pairs (length shapes) (shape_at shapes kept) (shape_at shapes i) m.lefts m.rights ls rs) o (subst (Compared shapes kept other m.lefts m.rights ls rs) e is))

pub united_first : (shapes : List Shape) (m n : Merging) (low high kept other : ℕ) (d : Comparison) → CanUnite shapes m low high → kept ≡ nth m.schemas low → other ≡ nth m.schemas high → d ≡ First → Compared shapes kept other m.lefts m.rights n.lefts n.rights d
    → n.links ≡ set m.links high low → n.schemas ≡ m.schemas → GoesOn shapes (with_pair low high m) n
united_first shapes m n low high kept other d can k o e is links schemas =
    unite_first shapes m n low high can (paired shapes m low high kept other n.lefts n.rights d k o e is) links schemas

pub united_second : (shapes : List Shape) (m n : Merging) (low high kept other : ℕ) (d : Comparison) → CanUnite shapes m low high → kept ≡ nth m.schemas low → other ≡ nth m.schemas high → d ≡ Second → Compared shapes kept other m.lefts m.rights n.lefts n.rights d
    → n.links ≡ set m.links high low → n.schemas ≡ set m.schemas low other → GoesOn shapes (with_pair low high m) n
united_second shapes m n low high kept other d can k o e is links schemas =
    unite_second shapes m n low high can (subst (λ i. IsPassed (shape_at shapes i) m.lefts m.rights n.lefts n.rights) k (subst (Compared shapes kept other m.lefts m.rights n.lefts n.rights) e is)) links
    (schemas ∙ ap (set m.schemas low) o)

pub united_less : (shapes : List Shape) (m n : Merging) (low high kept other : ℕ) (d : Comparison) → CanUnite shapes m low high → kept ≡ nth m.schemas low → other ≡ nth m.schemas high → d ≡ First → Compared shapes kept other m.lefts m.rights n.lefts n.rights d
    → n.links ≡ set m.links high low → left_of shapes n ≤ left_of shapes m
united_less shapes m n low high kept other d can k o e is links =
    let pairs = paired shapes m low high kept other n.lefts n.rights d k o e is in
    let i = high_inside shapes m low high can in
    let inside : high < length m.links = omega (arith, i.1, can.merging.linked) in
    let longer : length n.lefts ≡ length m.lefts + length pairs.ks = ap length pairs.left ∙ length-append m.lefts pairs.ks in
    let arguments = get_or-le-sum_by arity shapes (nth m.schemas high) (variable 0) (schema_inside shapes (with_pair low high m) can.merging high i.1) in
    subst (λ l. sum_of l * (arities shapes + 1) + length n.lefts ≤ left_of shapes m) (sym links)
    (linked_less shapes m.links low high (length pairs.ks) m.lefts n.lefts inside can.lower can.high_least longer (omega (arith, pairs.few, arguments)))

pub passed_less : (shapes : List Shape) (m n : Merging) (low high kept other : ℕ) (d : Comparison) → CanUnite shapes m low high → d ≡ Second → Compared shapes kept other m.lefts m.rights n.lefts n.rights d → n.links ≡ set m.links high low
    → left_of shapes n ≤ left_of shapes m
passed_less shapes m n low high kept other d can e is links =
    let passed : IsPassed (shape_at shapes kept) m.lefts m.rights n.lefts n.rights = subst (Compared shapes kept other m.lefts m.rights n.lefts n.rights) e is in
    let i = high_inside shapes m low high can in
    let inside : high < length m.links = omega (arith, i.1, can.merging.linked) in
    let same : length n.lefts ≡ length m.lefts + 0 = let l = ap length passed.left in omega (arith, l) in
    subst (λ l. sum_of l * (arities shapes + 1) + length n.lefts ≤ left_of shapes m) (sym links)
    (linked_less shapes m.links low high 0 m.lefts n.lefts inside can.lower can.high_least same (omega arith))

-- a node's class is found for each of a pair
pub pair_found : (shapes : List Shape) (m n : Merging) (left right a b : ℕ) (middle : List ℕ) → IsMerging shapes (with_pair left right m) → Shortened m.links middle → IsLeast middle left a → Shortened middle n.links → IsLeast n.links right b
    → n.schemas ≡ m.schemas → n.lefts ≡ m.lefts → n.rights ≡ m.rights → GoesOn shapes (with_pair left right m) (with_pair a b n)
pair_found shapes m n left right a b middle is first found second last schemas lefts rights =
    let short = shortened_on m.links middle n.links first second in
    let goes = shortened_goes shapes (with_pair left right m) (with_pair left right n) is short schemas (ap (λ l. l ++ left ∷ []) lefts) (ap (λ l. l ++ right ∷ []) rights) in
    let i = pair_inside shapes m left right is in
    let a_in : a < length shapes = omega (arith, found.within, i.0) in
    let b_in : b < length shapes = omega (arith, last.within, i.1) in
    goes_on shapes (with_pair left right m) (with_pair left right n) (with_pair a b n) goes
    (pair_for shapes n left right a b goes.merging a_in b_in
    (λ label f e. sym (found.same label (second.back label f)) ∙ e ∙ last.same label f)
    (λ label f e. found.same label (second.back label f) ∙ e ∙ sym (last.same label f)))

-- and the pair turned round
pub pair_turned : (shapes : List Shape) (m : Merging) (a b : ℕ) → IsMerging shapes (with_pair a b m) → GoesOn shapes (with_pair a b m) (with_pair b a m)
pair_turned shapes m a b is =
    let i = pair_inside shapes m a b is in
    pair_for shapes m a b b a is i.1 i.0 (λ label f e. sym e) (λ label f e. sym e)

pub steps_on : (shapes : List Shape) (a b c : Merging) (d : Bool) → GoesOn shapes a b → Steps shapes b c d → Steps shapes a c d
steps_on shapes a b c true g s = goes_on shapes a b c g s
steps_on shapes a b c false g s = clashes_on shapes a b g s

-- less is left where links are shorter
pub found_less : (shapes : List Shape) (m n : Merging) → Shortened m.links n.links → n.lefts ≡ m.lefts → left_of shapes n ≤ left_of shapes m
found_less shapes m n short lefts =
    let product : sum_of n.links * (arities shapes + 1) ≤ sum_of m.links * (arities shapes + 1) = mul-le-mul_right (arities shapes + 1) short.sum in
    let same : length n.lefts ≡ length m.lefts = ap length lefts in
    omega (arith, product, same)

pub lessens_on : (shapes : List Shape) (a b c : Merging) (d : Bool) → left_of shapes b ≤ left_of shapes a → Lessens shapes b c d → Lessens shapes a c d
lessens_on shapes a b c true h l = let less : left_of shapes c ≤ left_of shapes a = omega (arith, h, l) in less
lessens_on shapes a b c false h l = tt

-- a pair taken from the ends of the lists
pub popped_pair : (links schemas ls rs ks js : List ℕ) (a b : ℕ) → ls ≡ ks ++ a ∷ [] → rs ≡ js ++ b ∷ [] → (P : Merging → Type 0) → P (record { links = links; schemas = schemas; lefts = ls; rights = rs }) → P (with_pair a b (record { links = links; schemas = schemas; lefts = ks; rights = js }))
popped_pair links schemas ls rs ks js a b e f P p =
    subst (λ (l : List ℕ). P (record { links = links; schemas = schemas; lefts = l; rights = js ++ b ∷ [] })) e (subst (λ (r : List ℕ). P (record { links = links; schemas = schemas; lefts = ls; rights = r })) f p)

-- a longer list of one side is none
pub never_uneven : (shapes : List Shape) (m : Merging) (ks : List ℕ) (a : ℕ) → IsMerging shapes m → m.lefts ≡ ks ++ a ∷ [] → length m.rights ≡ 0 → ⊥
never_uneven shapes m ks a is e h =
    let l : length m.lefts ≡ length ks + 1 = ap length e ∙ length_push ks a in
    let even = is.even in
    omega (arith, l, h, even)

pub can_unite : (shapes : List Shape) (m : Merging) (low high : ℕ) → IsMerging shapes (with_pair low high m) → low < high → nth m.links low ≡ low → nth m.links high ≡ high → CanUnite shapes m low high
can_unite shapes m low high is less l h = record { merging = is; lower = less; low_least = l; high_least = h }

pub popped_less : (shapes : List Shape) (links schemas ls rs ks js : List ℕ) (a : ℕ) (new : Merging) → ls ≡ ks ++ a ∷ [] → left_of shapes new ≤ left_of shapes (record { links = links; schemas = schemas; lefts = ks; rights = js })
    → left_of shapes new < left_of shapes (record { links = links; schemas = schemas; lefts = ls; rights = rs })
popped_less shapes links schemas ls rs ks js a new e less =
    let l : length ls ≡ length ks + 1 = ap length e ∙ length_push ks a in
    omega (arith, l, less)

-- nothing is left, and links are flat
pub ends_merged : (shapes : List Shape) (old m new : Merging) → GoesOn shapes old m → Shortened m.links new.links → IsFlat new.links → new.schemas ≡ m.schemas → new.lefts ≡ m.lefts → new.rights ≡ m.rights → new.lefts ≡ [] → IsMerged shapes old new
ends_merged shapes old m new goes short flat schemas lefts rights done = record {
  goes = goes_on shapes old m new goes (shortened_goes shapes m new goes.merging short schemas lefts rights);
  flat = flat;
  done = done;
}

-- nodes before any are merged have the labels that they have
pub begun : (shapes : List Shape) (m : Merging) → CountsUp m.links (length shapes) → CountsUp m.schemas (length shapes) → AreBelow (length shapes) m.lefts → AreBelow (length shapes) m.rights → length m.lefts ≡ length m.rights → IsBegun shapes m.lefts m.rights m
begun shapes m links schemas lefts rights even = record {
  merging = begin_merging shapes m links schemas lefts rights even;
  lefts = refl;
  rights = refl;
  apart = λ label n h. let inside : n < length shapes = omega (arith, h, links.as_many) in ap label (sym (links.own n inside));
}
