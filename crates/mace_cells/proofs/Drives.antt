-- The steps of a search, on the choices as the code keeps them.
use Rattle.std.proofs.Common.{◌≡◌, ℕ, suc, ◌+◌, ◌*◌, ◌-◌, ◌^◌, ◌<◌, ◌≤◌, Bool, true, false, List, [], ◌∷◌, None, Some, MatchBool, length, refl, sym, ap, ◌∙◌, subst, arith}
use Rattle.std.proofs.Math.Nat.{one-le-pow, pow-suc, mul-le-mul_right}
use Rattle.fol_core.specs.Meaning.{Meaning}
use Rattle.mace_cells.specs.Choices.{Decision, IsUndecided, IsLatest}
use Rattle.mace_cells.specs.Leaves.{LeavesOpen, choice_of, choices_of, decisions_of}
use Rattle.mace_cells.specs.Searches.{HasFound}
use Rattle.mace_cells.specs.Stacked.{Stacked, rest_of}
use Rattle.mace_cells.specs.Standing.{AreFrames, IsStanding, place, beyond}
use Rattle.mace_cells.specs.World.{World, cell_of, many_cells, IsRefuted, AreRefuted, IsBound, IsNextValue}
use Rattle.mace_cells.specs.declared.frame.Frame.{Frame}
use Rattle.mace_search.specs.declared.answer.SearchAnswer.{SearchAnswer}
use Rattle.mace_search.specs.declared.answer.SearchAnswer.TheVariants.{Model, Exhausted, MaxSeconds}
use Rattle.mace_cells.proofs.Steps.{refuted, chosen, none_left, next, over, then}

pub many_decided : (w : World) (fs : List Frame) → length (decisions_of w fs) ≡ length fs
many_decided w [] = refl
many_decided w (f ∷ fs) = ap suc (many_decided w fs)

pub few_decided : (w : World) (ds : List Decision) (fs : List Frame) (many : ℕ) → ds ≡ decisions_of w fs → length fs < many → length ds < many
few_decided w ds fs many same few = let e : length ds ≡ length fs = ap (λ (xs : List Decision). length xs) same ∙ many_decided w fs in omega (arith, e, few)

abbrev frame : ℕ → ℕ → ℕ → Frame
frame cell value most = record { cell = cell; value = value; most = most }

module _ (w : World) (ds : List Decision) (fs : List Frame) (same : ds ≡ decisions_of w fs) where
  pub first_value : (cell value most : ℕ) (new : List Frame) → new ≡ frame cell value most ∷ fs → IsBound w ds (cell_of w cell) most → IsNextValue w ds (cell_of w cell) 0 most (Some value)
      → LeavesOpen w true (choices_of w fs) true (choices_of w new)
  first_value cell value most new is bound least =
      rw is (chosen w (choices_of w fs) (cell_of w cell) value most
      (subst (λ (es : List Decision). IsBound w es (cell_of w cell) most) same bound)
      (subst (λ (es : List Decision). AreRefuted w es (cell_of w cell) 0 value) same least.2))

  pub no_value : (cell most : ℕ) → IsBound w ds (cell_of w cell) most → IsNextValue w ds (cell_of w cell) 0 most None → LeavesOpen w true (choices_of w fs) false (choices_of w fs)
  no_value cell most bound least =
      none_left w (choices_of w fs) (cell_of w cell) most
      (subst (λ (es : List Decision). IsBound w es (cell_of w cell) most) same bound)
      (subst (λ (es : List Decision). AreRefuted w es (cell_of w cell) 0 (suc most)) same least)

  pub refuted_at : IsRefuted w ds → LeavesOpen w true (choices_of w fs) false (choices_of w fs)
  refuted_at none = refuted w (choices_of w fs) (subst (λ (es : List Decision). IsRefuted w es) same none)

-- the decisions once the latest is taken back
pub rest_decided : (w w' : World) (ds ds' : List Decision) (old : List Frame) (f : Frame) → w' ≡ w → ds ≡ decisions_of w old → old ≡ f ∷ rest_of old → ds' ≡ rest_of ds
    → ds' ≡ decisions_of w' (rest_of old)
rest_decided w w' ds ds' old f worlds same latest undone =
    undone ∙ ap (λ (es : List Decision). rest_of es) same ∙ ap (λ (gs : List Frame). rest_of (decisions_of w gs)) latest ∙ ap (λ (v : World). decisions_of v (rest_of old)) (sym worlds)

pub further_value : (w w' : World) (ds' : List Decision) (old new : List Frame) (f : Frame) (value from : ℕ) → from ≡ f.value → w' ≡ w → ds' ≡ decisions_of w' (rest_of old) → old ≡ f ∷ rest_of old
    → IsNextValue w' ds' (cell_of w' f.cell) (from + 1) f.most (Some value) → new ≡ frame f.cell value f.most ∷ rest_of old → LeavesOpen w false (choices_of w old) true (choices_of w new)
further_value w w' ds' old new f value from begins worlds same latest least is =
    let after : suc f.value ≡ from + 1 = omega (arith, begins) in
    let none = subst (λ (v : World). AreRefuted v (decisions_of v (rest_of old)) (cell_of v f.cell) (from + 1) value) worlds
    (subst (λ (es : List Decision). AreRefuted w' es (cell_of w' f.cell) (from + 1) value) same least.2) in
    let step = next w (choices_of w (rest_of old)) (choice_of w f) value (omega (arith, least.0, begins)) least.1 (rw after none) in
    rw is (subst (λ (gs : List Frame). LeavesOpen w false (choices_of w gs) true (choices_of w (frame f.cell value f.most ∷ rest_of old))) (sym latest) step)

pub no_further : (w w' : World) (ds' : List Decision) (old new : List Frame) (f : Frame) (from : ℕ) → from ≡ f.value → w' ≡ w → ds' ≡ decisions_of w' (rest_of old) → old ≡ f ∷ rest_of old
    → IsNextValue w' ds' (cell_of w' f.cell) (from + 1) f.most None → new ≡ rest_of old → LeavesOpen w false (choices_of w old) false (choices_of w new)
no_further w w' ds' old new f from begins worlds same latest least is =
    let after : suc f.value ≡ from + 1 = omega (arith, begins) in
    let none = subst (λ (v : World). AreRefuted v (decisions_of v (rest_of old)) (cell_of v f.cell) (from + 1) (suc f.most)) worlds
    (subst (λ (es : List Decision). AreRefuted w' es (cell_of w' f.cell) (from + 1) (suc f.most)) same least) in
    let step = over w (choices_of w (rest_of old)) (choice_of w f) (rw after none) in
    rw is (subst (λ (gs : List Frame). LeavesOpen w false (choices_of w gs) false (choices_of w (rest_of old))) (sym latest) step)

-- steps one after the other, though the second is told of another name of the world
pub both : (w w' : World) (l1 l2 l3 : Bool) (f1 f2 f3 : List Frame) → w' ≡ w → LeavesOpen w l1 (choices_of w f1) l2 (choices_of w f2) → LeavesOpen w' l2 (choices_of w' f2) l3 (choices_of w' f3)
    → LeavesOpen w l1 (choices_of w f1) l3 (choices_of w f3)
both w w' l1 l2 l3 f1 f2 f3 worlds a b =
    then w l1 l2 l3 _ _ _ a (subst (λ (v : World). LeavesOpen v l2 (choices_of v f2) l3 (choices_of v f3)) worlds b)

pub in_front : (many : ℕ) (fs : List Frame) → place many fs < beyond many fs
in_front many fs = let some : 1 ≤ 257 ^ (many - length fs) = one-le-pow (many - length fs) 257 (omega arith) in omega (arith, some)

pub comes_on : (many : ℕ) (fs new : List Frame) (f : Frame) → new ≡ f ∷ fs → place many fs < place many new
comes_on many fs new f is =
    let some : 1 ≤ 257 ^ (many - suc (length fs)) = one-le-pow (many - suc (length fs)) 257 (omega arith) in
    rw is (grind (arith, some))

pub latest_of : (fs rest : List Frame) (f : Frame) → fs ≡ f ∷ rest → fs ≡ f ∷ rest_of fs
latest_of fs rest f is = is ∙ ap (λ (gs : List Frame). f ∷ rest_of gs) (sym is)

-- behind all that follows a choice there is still something that follows those before it
beyond_step : (many : ℕ) (f : Frame) (fs : List Frame) → f.value ≤ 255 → suc (length fs) ≤ many → beyond many (f ∷ fs) ≤ beyond many fs
beyond_step many f fs byte few =
    let more : many - length fs ≡ suc (many - suc (length fs)) = omega (arith, few) in
    let power : 257 ^ (many - length fs) ≡ 257 ^ (many - suc (length fs)) * 257 = rw more (pow-suc 257 (many - suc (length fs))) in
    let rows : (f.value + 1) * 257 ^ (many - suc (length fs)) ≤ 256 * 257 ^ (many - suc (length fs)) = mul-le-mul_right {m = f.value + 1} {n = 256} (257 ^ (many - suc (length fs))) (omega (arith, byte)) in
    omega (arith, power, rows)

pub beyond_rest : (w : World) (fs : List Frame) (f : Frame) → AreFrames w fs → length fs ≤ many_cells w → fs ≡ f ∷ rest_of fs → beyond (many_cells w) fs ≤ beyond (many_cells w) (rest_of fs)
beyond_rest w [] f within few is = omega arith
beyond_rest w (g ∷ fs) f within few is = beyond_step (many_cells w) g fs within.1 few

pub beyond_all : (w : World) (fs : List Frame) → AreFrames w fs → length fs ≤ many_cells w → beyond (many_cells w) fs ≤ 257 ^ many_cells w
beyond_all w [] within few = let same : many_cells w - length {A = Frame} [] ≡ many_cells w = omega arith in rw same (omega arith)
beyond_all w (f ∷ fs) within few = omega (arith, beyond_step (many_cells w) f fs within.1 few, beyond_all w fs within.2 (omega (arith, few)))

pub smaller : (w w' : World) (ds : List Decision) (frames : Stacked Frame) (new : List Frame) → w' ≡ w → IsStanding w' ds frames → place (many_cells w') frames.list < place (many_cells w') new
    → 257 ^ many_cells w - place (many_cells w) new < 257 ^ many_cells w - place (many_cells w) frames.list
smaller w w' ds frames new worlds standing rises =
    subst (λ (v : World). 257 ^ many_cells v - place (many_cells v) new < 257 ^ many_cells v - place (many_cells v) frames.list) worlds
    (omega (arith, rises, in_front (many_cells w') frames.list, beyond_all w' frames.list standing.within standing.few))

-- steps that come to the end
pub at_end : (w w' : World) (l1 l2 : Bool) (f1 f2 f3 : List Frame) → w' ≡ w → LeavesOpen w l1 (choices_of w f1) l2 (choices_of w f2) → LeavesOpen w' l2 (choices_of w' f2) false (choices_of w' f3) → f3 ≡ []
    → LeavesOpen w l1 (choices_of w f1) false [] × (choices_of w f3 ≡ [])
at_end w w' l1 l2 f1 f2 f3 worlds a b none = (subst (λ (fs : List Frame). LeavesOpen w l1 (choices_of w f1) false (choices_of w fs)) none (both w w' l1 l2 false f1 f2 f3 worlds a b), ap (choices_of w) none)

pub gone_back : (b : Bool) (many : ℕ) (old new end : List Frame) → MatchBool b (beyond many old ≤ place many new) (new ≡ end) → MatchBool b (place many old < place many new) (new ≡ end)
gone_back true many old new end h = omega (arith, h, in_front many old)
gone_back false many old new end h = h

pub gone_back_at : (w w' : World) (b : Bool) (old mid new : List Frame) → w' ≡ w → mid ≡ old → MatchBool b (beyond (many_cells w') mid ≤ place (many_cells w') new) (new ≡ [])
    → MatchBool b (place (many_cells w) old < place (many_cells w) new) (new ≡ [])
gone_back_at w w' b old mid new worlds same h =
    gone_back b (many_cells w) old new []
    (subst (λ (fs : List Frame). MatchBool b (beyond (many_cells w) fs ≤ place (many_cells w) new) (new ≡ [])) same
    (subst (λ (v : World). MatchBool b (beyond (many_cells v) mid ≤ place (many_cells v) new) (new ≡ [])) worlds h))

-- fewer choices than cells, where the board says so of its decisions
pub few_choices : (w : World) (ds : List Decision) (fs : List Frame) → ds ≡ decisions_of w fs → length ds < many_cells w → length fs < many_cells w
few_choices w ds fs same few = let e : length ds ≡ length fs = ap (λ (xs : List Decision). length xs) same ∙ many_decided w fs in omega (arith, e, few)

pub found_after : (w w' : World) (live : Bool) (m : Meaning) (answer : SearchAnswer) (f1 f2 f3 : List Frame) → w' ≡ w → LeavesOpen w live (choices_of w f1) true (choices_of w f2)
    → HasFound w' true (choices_of w' f2) m answer (choices_of w' f3) → HasFound w live (choices_of w f1) m answer (choices_of w f3)
found_after w w' live m answer f1 f2 f3 worlds a h = by answer (subst (λ (v : World). HasFound v true (choices_of v f2) m answer (choices_of v f3)) worlds h)
  where
    by : (x : SearchAnswer) → HasFound w true (choices_of w f2) m x (choices_of w f3) → HasFound w live (choices_of w f1) m x (choices_of w f3)
    by Model k = (then w live true true _ _ _ a k.0, k.1)
    by Exhausted k = (then w live true false _ _ _ a k.0, k.1)
    by (MaxSeconds last) k = then w live true true _ _ _ a k

-- a board that tells how far it has come stands where it stood
pub still : (w w' : World) (ds ds' : List Decision) (frames : Stacked Frame) → w' ≡ w → ds' ≡ ds → IsStanding w ds frames → IsStanding w' ds' frames
still w w' ds ds' frames worlds same standing =
    subst (λ (es : List Decision). IsStanding w' es frames) (sym same) (subst (λ (v : World). IsStanding v ds frames) (sym worlds) standing)

pub refuted_still : (w w' : World) (ds ds' : List Decision) → w' ≡ w → ds' ≡ ds → IsRefuted w ds → IsRefuted w' ds'
refuted_still w w' ds ds' worlds same none = subst (λ (es : List Decision). IsRefuted w' es) (sym same) (subst (λ (v : World). IsRefuted v ds) (sym worlds) none)

pub few_still : (w w' : World) (ds ds' : List Decision) → w' ≡ w → ds' ≡ ds → length ds < many_cells w → length ds' < many_cells w'
few_still w w' ds ds' worlds same few = subst (λ (es : List Decision). length es < many_cells w') (sym same) (subst (λ (v : World). length ds < many_cells v) (sym worlds) few)

pub undecided_still : (w w' : World) (ds ds' : List Decision) (cell : ℕ) → w' ≡ w → ds' ≡ ds → IsUndecided ds (cell_of w cell) → IsUndecided ds' (cell_of w' cell)
undecided_still w w' ds ds' cell worlds same none =
    subst (λ (es : List Decision). IsUndecided es (cell_of w' cell)) (sym same) (subst (λ (v : World). IsUndecided ds (cell_of v cell)) (sym worlds) none)

-- the latest choice is that of the latest decision
pub latest_decided : (w : World) (ds : List Decision) (fs rest : List Frame) (f : Frame) → ds ≡ decisions_of w fs → fs ≡ f ∷ rest → IsLatest ds (cell_of w f.cell)
latest_decided w ds fs rest f same latest =
    let one : IsLatest (decisions_of w (f ∷ rest)) (cell_of w f.cell) = refl in
    subst (λ (es : List Decision). IsLatest es (cell_of w f.cell)) (sym same) (subst (λ (gs : List Frame). IsLatest (decisions_of w gs) (cell_of w f.cell)) (sym latest) one)

pub latest_within : (w : World) (fs rest : List Frame) (f : Frame) → AreFrames w fs → fs ≡ f ∷ rest → f.cell < many_cells w
latest_within w fs rest f within latest = (subst (λ (gs : List Frame). AreFrames w gs) latest within).0
