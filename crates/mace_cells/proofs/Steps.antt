-- Each step of a search leaves a renaming of every solution open, and opens nothing anew.
use Rattle.std.proofs.Common.{◌≡◌, ℕ, suc, ◌<◌, ◌≤◌, ◌⊎◌, inl, inr, Bool, true, false, IsTrue, List, [], ◌∷◌, map, refl, ap, ◌∙◌, arith}
use Rattle.std.proofs.lemmas.Bool.{cases_lt}
use Rattle.fol_core.specs.Meaning.{Meaning}
use Rattle.mace_cells.specs.Choices.{Choice, AgreesWith, IsAhead, IsOpen, decisions}
use Rattle.mace_cells.specs.Leaves.{LeavesOpen, FindsModel, IsOver}
use Rattle.mace_cells.specs.Solutions.{AreIsomorphic, CoversIsomorphic}
use Rattle.mace_cells.specs.World.{World, Solves, AreAlike, IsSettled, IsRefuted, AreRefuted, IsBound}
use Rattle.mace_ground.specs.Cells.{Cell, value_at}

map_back : (f g : ℕ → ℕ) → ((x : ℕ) → f (g x) ≡ x) → (xs : List ℕ) → map f (map g xs) ≡ xs
map_back f g h [] = refl
map_back f g h (x ∷ xs) = rw (h x, map_back f g h xs) refl

pub carried_itself : (k : ℕ) (m : Meaning) → AreIsomorphic k m m
carried_itself k m = (
  λ x. x,
  (
    λ x. x,
    record {
      fixes = λ x h. refl;
      there = λ x. refl;
      again = λ x. refl;
      within = λ x. refl;
      functions = λ f xs. ap (m.function f) (map_itself xs);
      relations = λ s xs. ap (m.relation s) (map_itself xs);
    },
  ),
)
  where
    map_itself : (xs : List ℕ) → map (λ x. x) xs ≡ xs
    map_itself [] = refl
    map_itself (x ∷ xs) = ap (λ (ys : List ℕ). x ∷ ys) (map_itself xs)

map_both : (f g : ℕ → ℕ) (xs : List ℕ) → map (λ x. f (g x)) xs ≡ map f (map g xs)
map_both f g [] = refl
map_both f g (x ∷ xs) = ap (λ (ys : List ℕ). f (g x) ∷ ys) (map_both f g xs)

pub carried_both : (k : ℕ) (m u v : Meaning) → AreIsomorphic k m u → AreIsomorphic k u v → AreIsomorphic k m v
carried_both k m u v (r, (back, c)) (s, (forth, d)) = (
  λ x. s (r x),
  (
    λ x. back (forth x),
    record {
      fixes = λ x h. ap s (c.fixes x h) ∙ d.fixes x h;
      there = λ x. ap s (c.there (forth x)) ∙ d.there x;
      again = λ x. ap back (d.again (r x)) ∙ c.again x;
      within = λ x. d.within (r x) ∙ c.within x;
      functions = λ f xs. ap (v.function f) (map_both s r xs) ∙ d.functions f (map r xs) ∙ ap s (c.functions f xs);
      relations = λ t xs. ap (v.relation t) (map_both s r xs) ∙ d.relations t (map r xs) ∙ c.relations t xs;
    },
  ),
)

module _ (w : World) where
  pub itself : (live : Bool) (cs : List Choice) → LeavesOpen w live cs live cs
  itself live cs = record { covers = λ m s h. (m, (s, h, carried_itself w.fixed m)); behind = λ m h. h }

  pub then : (l1 l2 l3 : Bool) (c1 c2 c3 : List Choice) → LeavesOpen w l1 c1 l2 c2 → LeavesOpen w l2 c2 l3 c3 → LeavesOpen w l1 c1 l3 c3
  then l1 l2 l3 c1 c2 c3 a b = record {
    covers = λ m s h.
        let u = a.covers m s h in
        let v = b.covers u.0 u.1.0 u.1.1 in
        (v.0, (v.1.0, v.1.1, carried_both w.fixed m u.0 v.0 u.1.2 v.1.2));
    behind = λ m h. a.behind m (b.behind m h);
  }

  -- the decisions are contradicted
  pub refuted : (cs : List Choice) → IsRefuted w (decisions cs) → LeavesOpen w true cs false cs
  refuted cs none = record {
    covers = λ m s h. (m, (s, elim h [ inl now ↦ absurd (none m s now.1) | inr ahead ↦ inr ahead ], carried_itself w.fixed m));
    behind = λ m h. elim h [ inl now ↦ absurd (true_false now.0) | inr ahead ↦ inr ahead ];
  }
    where
      true_false : IsTrue false → ⊥
      true_false e = cc

  -- a cell is chosen, and the values before the first that is tried are refuted
  pub chosen : (cs : List Choice) (c : Cell) (value most : ℕ) → IsBound w (decisions cs) c most → AreRefuted w (decisions cs) c 0 value
      → LeavesOpen w true cs true (record { cell = c; value = value; most = most } ∷ cs)
  chosen cs c value most bound none = record {
    covers = λ m s h. elim h [
      | inl now ↦
          let u = bound m s now.1 in
          (u.0, (u.1.0, later u.0 u.1.0 u.1.1.0 u.1.1.1, u.1.2))
      | inr ahead ↦ (m, (s, inr (inr ahead), carried_itself w.fixed m))
    ];
    behind = λ m h. elim h [ inl now ↦ inl (refl, now.1.1) | inr ahead ↦ elim ahead [ inl here ↦ inl (refl, here.0) | inr rest ↦ inr rest ] ];
  }
    where
      later : (u : Meaning) → Solves w u → AgreesWith u (decisions cs) → value_at u c ≤ most → IsOpen true (record { cell = c; value = value; most = most } ∷ cs) u
      later u s agrees within = elim (cases_lt value (value_at u c)) [
        | inl more ↦ inr (inl (agrees, more, within))
        | inr less ↦ elim (cases_lt (value_at u c) value) [
          | inl before ↦ absurd (none u s agrees (omega arith) before)
          | inr after ↦ inl (refl, (omega (arith, less, after), agrees))
        ]
      ]

  -- a cell is chosen of which no value is left
  pub none_left : (cs : List Choice) (c : Cell) (most : ℕ) → IsBound w (decisions cs) c most → AreRefuted w (decisions cs) c 0 (suc most) → LeavesOpen w true cs false cs
  none_left cs c most bound none = refuted cs (λ m s agrees. let u = bound m s agrees in none u.0 u.1.0 u.1.1.0 (omega arith) (omega (arith, u.1.1.1)))

  -- the latest choice is given its next value
  pub next : (cs : List Choice) (c : Choice) (value : ℕ) → c.value < value → value ≤ c.most → AreRefuted w (decisions cs) c.cell (suc c.value) value
      → LeavesOpen w false (c ∷ cs) true (record { cell = c.cell; value = value; most = c.most } ∷ cs)
  next cs c value more within none = record {
    covers = λ m s h. (m, (s, open_now m s h, carried_itself w.fixed m));
    behind = λ m h. elim h [
      | inl now ↦ inr (inl (now.1.1, omega (arith, more, now.1.0), omega (arith, within, now.1.0)))
      | inr ahead ↦ elim ahead [ inl here ↦ inr (inl (here.0, omega (arith, more, here.1), here.2)) | inr rest ↦ inr (inr rest) ]
    ];
  }
    where
      later : (m : Meaning) → Solves w m → AgreesWith m (decisions cs) → c.value < value_at m c.cell → value_at m c.cell ≤ c.most → IsOpen true (record { cell = c.cell; value = value; most = c.most } ∷ cs) m
      later m s agrees above below = elim (cases_lt value (value_at m c.cell)) [
        | inl over ↦ inr (inl (agrees, over, below))
        | inr less ↦ elim (cases_lt (value_at m c.cell) value) [
          | inl before ↦ absurd (none m s agrees (omega (arith, above)) before)
          | inr after ↦ inl (refl, (omega (arith, less, after), agrees))
        ]
      ]

      open_now : (m : Meaning) → Solves w m → IsOpen false (c ∷ cs) m → IsOpen true (record { cell = c.cell; value = value; most = c.most } ∷ cs) m
      open_now m s (inl now) = absurd (let e : false ≡ true = now.0 in cc)
      open_now m s (inr (inl here)) = later m s here.0 here.1 here.2
      open_now m s (inr (inr rest)) = inr (inr rest)

  -- the latest choice has no value left, and is taken back
  pub over : (cs : List Choice) (c : Choice) → AreRefuted w (decisions cs) c.cell (suc c.value) (suc c.most) → LeavesOpen w false (c ∷ cs) false cs
  over cs c none = record {
    covers = λ m s h. (m, (s, open_now m s h, carried_itself w.fixed m));
    behind = λ m h. elim h [ inl now ↦ absurd (let e : false ≡ true = now.0 in cc) | inr ahead ↦ inr (inr ahead) ];
  }
    where
      open_now : (m : Meaning) → Solves w m → IsOpen false (c ∷ cs) m → IsOpen false cs m
      open_now m s (inl now) = absurd (let e : false ≡ true = now.0 in cc)
      open_now m s (inr (inl here)) = absurd (none m s here.0 (omega (arith, here.1)) (omega (arith, here.2)))
      open_now m s (inr (inr rest)) = inr rest

  -- what agrees with all decisions isn't ahead
  pub not_ahead : (m : Meaning) (cs : List Choice) → AgreesWith m (decisions cs) → IsAhead m cs → ⊥
  not_ahead m [] agrees ahead = ahead
  not_ahead m (c ∷ cs) agrees (inl here) = omega (arith, agrees.0, here.1)
  not_ahead m (c ∷ cs) agrees (inr rest) = not_ahead m cs agrees.1 rest

  pub found : (live : Bool) (cs cs' : List Choice) (t : Meaning) → LeavesOpen w live cs true cs' → IsSettled w (decisions cs') t → FindsModel w live cs t cs'
  found live cs cs' t leaves settled = record {
    settles = settled;
    open_before = leaves.behind t (inl (refl, settled.1));
    no_more = not_ahead t cs' settled.1;
    covers = covers;
    behind = λ m h. leaves.behind m (inr h);
  }
    where
      covers : CoversIsomorphic w.size w.clauses w.fixed (IsOpen live cs) (λ u. AreAlike w u t ⊎ IsAhead u cs')
      covers m s h =
          let u = leaves.covers m s h in
          (u.0, (u.1.0, elim u.1.1 [ inl now ↦ inl (settled.2 u.0 u.1.0 now.1) | inr ahead ↦ inr ahead ], u.1.2))

  pub ended : (live : Bool) (cs : List Choice) → LeavesOpen w live cs false [] → IsOver w live cs
  ended live cs leaves = λ m s h.
      let u = leaves.covers m s h in
      elim u.1.1 [ inl now ↦ let e : false ≡ true = now.0 in cc | inr ahead ↦ ahead ]
