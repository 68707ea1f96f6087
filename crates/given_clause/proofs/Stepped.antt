-- Steps of a search, case by case.
use Rattle.std.proofs.Common.{◌≡◌, ℕ, suc, ◌+◌, Bool, true, false, not, ◌==◌, ◌||◌, List, [], ◌∷◌, filter, map, length, refl, sym, subst, eqb-true, arith}
use Rattle.std.specs.List.{list_any}
use Rattle.prover_steps.specs.Clashing.{Held, is_same_held}
use Rattle.prover_steps.specs.Concluded.{Conclusion}
use Rattle.prover_steps.specs.Conclusions.{conclusions_of}
use Rattle.prover_steps.specs.HeldOrder.{numbers_of, IsNoneOf, ShareNone, IsInOrder}
use Rattle.prover_steps.specs.Searching.{Setting, SearchState, Queued, put_in, counted_on, queued_for, gives}

-- a clause is given
pub gives_by : (st : Setting) (s : SearchState) (g : Held) (waiting usable : List Held) (queue : List Queued) (given generated : ℕ) (new : List Conclusion)
    → usable ≡ put_in g s.usable → waiting ≡ filter (λ h. not (h.number == g.number)) s.waiting → new ≡ conclusions_of st.rules st.greater usable g → queue ≡ map queued_for new → given ≡ s.given + 1
    → generated ≡ counted_on s.generated (length new)
    → record s { waiting = waiting; usable = usable; queue = queue; given = given; generated = generated } ≡ gives st s g
gives_by st s g waiting usable queue given generated new e f h i j k = let next : given ≡ suc s.given = omega (arith, j) in rw (k, next, i, h, f, e) (refl {a = gives st s g})

-- one that waits isn't in use
among : (g : Held) (ws : List Held) (ns : List ℕ) → ShareNone (numbers_of ws) ns → list_any (is_same_held g) ws ≡ true → IsNoneOf g.number ns
among g [] ns none e = cc
among g (w ∷ ws) ns none e = by (is_same_held g w) refl e (among g ws ns none.1)
  where
    by : (b : Bool) → is_same_held g w ≡ b → (b || list_any (is_same_held g) ws) ≡ true → (list_any (is_same_held g) ws ≡ true → IsNoneOf g.number ns) → IsNoneOf g.number ns
    by true f h rest = subst (λ n. IsNoneOf n ns) (sym (eqb-true g.number w.number f)) none.0
    by false f h rest = rest h

pub not_in_use : (s : SearchState) (g h : Held) → IsInOrder s → list_any (is_same_held h) s.waiting ≡ true → g ≡ h → IsNoneOf g.number (numbers_of s.usable)
not_in_use s g h order waits same = subst (λ (k : Held). IsNoneOf k.number (numbers_of s.usable)) (sym same) (among h s.waiting (numbers_of s.usable) order.held_once waits)
