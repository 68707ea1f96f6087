-- Steps of a search are those of the plain search.
use Rattle.std.proofs.Common.{◌≡◌, ℕ, zero, suc, ◌+◌, Bool, true, false, List, [], ◌∷◌, ◌++◌, replicate, Option, None, Some, refl, sym, ap, ◌∙◌, subst, arith}
use Rattle.std.proofs.lemmas.List.{append-nil}
use Rattle.ladr_io.specs.Times.{Times}
use Rattle.std.specs.List.{flat_map}
use Rattle.mace_cells.proofs.Reading.{reads_both, reads_none}
use Rattle.mace_cells.specs.Choices.{Choice, Decision, decisions}
use Rattle.mace_cells.specs.Leaves.{choices_of, decisions_of}
use Rattle.mace_cells.specs.Numbers.{greatest_tried}
use Rattle.mace_cells.specs.Readings.{ReadsOn}
use Rattle.mace_cells.specs.Stacked.{rest_of}
use Rattle.mace_cells.specs.World.{World, cell_of, many_cells}
use Rattle.mace_cells.specs.declared.frame.Frame.{Frame}
use Rattle.mace_search.specs.declared.answer.SearchAnswer.{SearchAnswer}
use Rattle.mace_search.specs.declared.answer.SearchAnswer.TheVariants.{Model, Exhausted, MaxSeconds}
use Rattle.plain_search.proofs.Coming.{search_goes_on}
use Rattle.plain_search.specs.Coming.{Event, choice, ahead, closed_behind, done_behind, done_below, events_within, to_come, tries, IsFirst, Stands}
use Rattle.mace_ground.specs.Cells.{Cell}
use Rattle.plain_search.specs.Lefts.{ValuesLeft, with_left}
use Rattle.plain_search.specs.Trying.{chosen, decide, tried}
use Rattle.cell_driver.specs.Boards.{HasNext, StandsAs}
use Rattle.cell_driver.specs.Comings.{ComesInTime}
use Rattle.cell_driver.specs.declared.board.Status.{Status}
use Rattle.cell_driver.specs.declared.board.Status.TheVariants.{Choose, Settled}

-- a board stands where it stood
pub stands_still : (w w' : World) (ds ds' : List Decision) (s : Status) → w' ≡ w → ds' ≡ ds → StandsAs w ds s → StandsAs w' ds' s
stands_still w w' ds ds' s same same_ds h = subst (λ (u : World). StandsAs u ds' s) (sym same) (subst (λ (es : List Decision). StandsAs w es s) (sym same_ds) h)

-- the latest choice gets its next value, or has none
module _ (w w' : World) (ds : List Decision) (fs fs' : List Frame) (f : Frame) (from : ℕ) (begins : from ≡ f.value) (same : w' ≡ w) (decided : ds ≡ decisions_of w' (rest_of fs)) (latest : fs ≡ f ∷ rest_of fs) where
  abbrev before : List Choice
  before = choices_of w (rest_of fs)

  moved : (o : Option ℕ) → HasNext w' ds (cell_of w' f.cell) (from + 1) f.most o → (p : ValuesLeft) × (Stands w before p × IsFirst (p (cell_of w f.cell)) (suc f.value) f.most o)
  moved o next =
      let h = subst (λ (u : World). HasNext u ds (cell_of u f.cell) (from + 1) f.most o) same next in
      let ds_is : ds ≡ decisions_of w (rest_of fs) = decided ∙ ap (λ (u : World). decisions_of u (rest_of fs)) same in
      let start : from + 1 ≡ suc f.value = omega (arith, begins) in
      (h.0, ((ap (closed_behind w) (sym ds_is) ∙ h.1.0.0, h.1.0.1), subst (λ (n : ℕ). IsFirst (h.0 (cell_of w f.cell)) n f.most o) start h.1.1))

  pub further : (v : ℕ) → HasNext w' ds (cell_of w' f.cell) (from + 1) f.most (Some v) → fs' ≡ record { cell = f.cell; value = v; most = f.most } ∷ rest_of fs → to_come w false (choices_of w fs) ≡ to_come w true (choices_of w fs')
  further v next now =
      let h = moved (Some v) next in
      ap (λ (gs : List Frame). to_come w false (choices_of w gs)) latest ∙ (search_goes_on w before).tried_next h.0 (cell_of w f.cell) f.value v f.most h.1.0 h.1.1
      ∙ ap (λ (gs : List Frame). to_come w true (choices_of w gs)) (sym now)

  pub no_further : HasNext w' ds (cell_of w' f.cell) (from + 1) f.most None → fs' ≡ rest_of fs → to_come w false (choices_of w fs) ≡ to_come w false (choices_of w fs')
  no_further next now =
      let h = moved None next in
      ap (λ (gs : List Frame). to_come w false (choices_of w gs)) latest ∙ (search_goes_on w before).took_back h.0 (cell_of w f.cell) f.value f.most h.1.0 h.1.1
      ∙ ap (λ (gs : List Frame). to_come w false (choices_of w gs)) (sym now)

-- steps one after the other
pub came_on : (w w' : World) (l1 l2 l3 : Bool) (f1 f2 f3 : List Frame) → w' ≡ w → to_come w l1 (choices_of w f1) ≡ to_come w l2 (choices_of w f2) → to_come w' l2 (choices_of w' f2) ≡ to_come w' l3 (choices_of w' f3) → to_come w l1 (choices_of w f1) ≡ to_come w l3 (choices_of w f3)
came_on w w' l1 l2 l3 f1 f2 f3 same first second = first ∙ subst (λ (u : World). to_come u l2 (choices_of u f2) ≡ to_come u l3 (choices_of u f3)) same second

pub came_chosen : (w w' : World) (l1 l2 l3 : Bool) (f1 f2 f3 : List Frame) → w' ≡ w → to_come w l1 (choices_of w f1) ≡ choice ∷ to_come w l2 (choices_of w f2) → to_come w' l2 (choices_of w' f2) ≡ to_come w' l3 (choices_of w' f3) → to_come w l1 (choices_of w f1) ≡ choice ∷ to_come w l3 (choices_of w f3)
came_chosen w w' l1 l2 l3 f1 f2 f3 same first second = first ∙ ap (λ (es : List Event). choice ∷ es) (subst (λ (u : World). to_come u l2 (choices_of u f2) ≡ to_come u l3 (choices_of u f3)) same second)

-- one table stands behind decisions
same_behind : (w : World) (ds : List Decision) (p q : ValuesLeft) → closed_behind w ds ≡ Some p → closed_behind w ds ≡ Some q → p ≡ q
same_behind w ds p q a b = let e : ◌≡◌ {A = Option ValuesLeft} (Some p) (Some q) = sym a ∙ b in cc

-- a cell is chosen, and gets its first value
pub chose_value : (w : World) (ds : List Decision) (fs fs' : List Frame) (k v most : ℕ) → ds ≡ decisions_of w fs → StandsAs w ds (Choose k) → most ≡ greatest_tried w ds (cell_of w k) → HasNext w ds (cell_of w k) 0 most (Some v)
    → fs' ≡ record { cell = k; value = v; most = most } ∷ fs → to_come w true (choices_of w fs) ≡ choice ∷ to_come w true (choices_of w fs')
chose_value w ds fs fs' k v most decided stands greatest next now =
    let cs = choices_of w fs in
    let c = cell_of w k in
    let here : Stands w cs stands.0 = (ap (closed_behind w) (sym decided) ∙ stands.1.0.0, stands.1.0.1) in
    let picked : chosen w (decisions cs) stands.0 ≡ Some c = ap (λ (es : List Decision). chosen w es stands.0) (sym decided) ∙ stands.1.1 in
    let same : next.0 ≡ stands.0 = same_behind w ds next.0 stands.0 next.1.0.0 stands.1.0.0 in
    let most_is : most ≡ greatest_tried w (decisions cs) c = greatest ∙ ap (λ (es : List Decision). greatest_tried w es c) decided in
    let first : IsFirst (stands.0 c) 0 most (Some v) = subst (λ (p : ValuesLeft). IsFirst (p c) 0 most (Some v)) same next.1.1 in
    let goes = (search_goes_on w cs).chose stands.0 c v here picked (subst (λ (m : ℕ). IsFirst (stands.0 c) 0 m (Some v)) most_is first) in
    goes ∙ ap (λ (m : ℕ). choice ∷ to_come w true (tries c v m ∷ cs)) (sym most_is) ∙ ap (λ (gs : List Frame). choice ∷ to_come w true (choices_of w gs)) (sym now)

-- or has none to try
pub chose_none : (w : World) (ds : List Decision) (fs : List Frame) (k most : ℕ) → ds ≡ decisions_of w fs → StandsAs w ds (Choose k) → most ≡ greatest_tried w ds (cell_of w k) → HasNext w ds (cell_of w k) 0 most None
    → to_come w true (choices_of w fs) ≡ choice ∷ to_come w false (choices_of w fs)
chose_none w ds fs k most decided stands greatest next =
    let cs = choices_of w fs in
    let c = cell_of w k in
    let here : Stands w cs stands.0 = (ap (closed_behind w) (sym decided) ∙ stands.1.0.0, stands.1.0.1) in
    let picked : chosen w (decisions cs) stands.0 ≡ Some c = ap (λ (es : List Decision). chosen w es stands.0) (sym decided) ∙ stands.1.1 in
    let same : next.0 ≡ stands.0 = same_behind w ds next.0 stands.0 next.1.0.0 stands.1.0.0 in
    let most_is : most ≡ greatest_tried w (decisions cs) c = greatest ∙ ap (λ (es : List Decision). greatest_tried w es c) decided in
    let first : IsFirst (stands.0 c) 0 most None = subst (λ (p : ValuesLeft). IsFirst (p c) 0 most None) same next.1.1 in
    (search_goes_on w cs).chose_none stands.0 c here picked (subst (λ (m : ℕ). IsFirst (stands.0 c) 0 m None) most_is first)

pub was_refuted : (w : World) (ds : List Decision) (fs : List Frame) → ds ≡ decisions_of w fs → closed_behind w ds ≡ None → to_come w true (choices_of w fs) ≡ to_come w false (choices_of w fs)
was_refuted w ds fs decided none = (search_goes_on w (choices_of w fs)).refuted (ap (closed_behind w) (sym decided) ∙ none)

-- one more choice
one_more : (n : ℕ) (es : List Event) → replicate n choice ++ choice ∷ es ≡ replicate (n + 1) choice ++ es
one_more zero es = refl
one_more (suc n) es =
    let same : suc (n + 1) ≡ suc n + 1 = omega arith in
    ap (λ (fs : List Event). choice ∷ fs) (one_more n es) ∙ ap (λ (m : ℕ). replicate m choice ++ es) same

-- a search has passed over so many choices
abbrev pub HasCome : World → Option ℕ → Bool → List Choice → Bool → List Choice → Times → Times → Type 0
HasCome w stop live cs live' cs' t t' = (n : ℕ) × ((to_come w live cs ≡ replicate n choice ++ to_come w live' cs') × ReadsOn stop n t t')

module _ (w : World) (stop : Option ℕ) (live : Bool) (cs : List Choice) (t : Times) where
  pub come_nowhere : HasCome w stop live cs live cs t t
  come_nowhere = (0, (refl, reads_none stop t))

  pub come_on : (live' live'' : Bool) (cs' cs'' : List Choice) (u : Times) → HasCome w stop live cs live' cs' t u → to_come w live' cs' ≡ to_come w live'' cs'' → HasCome w stop live cs live'' cs'' t u
  come_on live' live'' cs' cs'' u before same = (before.0, (before.1.0 ∙ ap (λ (es : List Event). replicate before.0 choice ++ es) same, before.1.1))

  pub come_chosen : (live' live'' : Bool) (cs' cs'' : List Choice) (u v : Times) → HasCome w stop live cs live' cs' t u → to_come w live' cs' ≡ choice ∷ to_come w live'' cs'' → ReadsOn stop 1 u v → HasCome w stop live cs live'' cs'' t v
  come_chosen live' live'' cs' cs'' u v before same reads = (
    before.0 + 1,
    (before.1.0 ∙ ap (λ (es : List Event). replicate before.0 choice ++ es) same ∙ one_more before.0 (to_come w live'' cs''), reads_both stop before.0 1 (before.0 + 1) t u v refl before.1.1 reads),
  )

  -- to the end
  pub come_to_end : (cs' : List Choice) (u : Times) → cs' ≡ [] → HasCome w stop live cs false cs' t u → ComesInTime w stop live cs Exhausted cs' t u
  come_to_end cs' u end before = (
    before.0,
    (before.1.0 ∙ ap (λ (ds : List Choice). replicate before.0 choice ++ to_come w false ds) end ∙ append-nil (replicate before.0 choice), before.1.1),
  )

  -- to a leaf
  pub come_to_leaf : (ds : List Decision) (cs' : List Choice) (u : Times) → ds ≡ decisions cs' → StandsAs w ds Settled → HasCome w stop live cs true cs' t u → ComesInTime w stop live cs Model cs' t u
  come_to_leaf ds cs' u decided stands before =
      let p = stands.0 in
      let behind : closed_behind w (decisions cs') ≡ Some p = ap (closed_behind w) (sym decided) ∙ stands.1.0.0 in
      let none : chosen w (decisions cs') p ≡ None = ap (λ (es : List Decision). chosen w es p) (sym decided) ∙ stands.1.1 in
      let found = (search_goes_on w cs').found p (behind, stands.1.0.1) none in
      (before.0, ((p, (behind, before.1.0 ∙ ap (λ (es : List Event). replicate before.0 choice ++ es) found)), before.1.1))

  -- or to a choice for which there is no time
  pub come_too_late : (ds : List Decision) (cs' : List Choice) (k last : ℕ) (u v : Times) → ds ≡ decisions cs' → StandsAs w ds (Choose k) → HasCome w stop live cs true cs' t u → ReadsOn stop 1 u v → ComesInTime w stop live cs (MaxSeconds last) cs' t v
  come_too_late ds cs' k last u v decided stands before reads =
      let p = stands.0 in
      let behind : closed_behind w (decisions cs') ≡ Some p = ap (closed_behind w) (sym decided) ∙ stands.1.0.0 in
      let picked : chosen w (decisions cs') p ≡ Some (cell_of w k) = ap (λ (es : List Decision). chosen w es p) (sym decided) ∙ stands.1.1 in
      let next = chooses cs' p (cell_of w k) behind picked in
      (before.0, ((next.0, (next.1, before.1.0 ∙ ap (λ (es : List Event). replicate before.0 choice ++ es) next.1)), reads_both stop before.0 1 (suc before.0) t u v (omega arith) before.1.1 reads))
    where
      chooses : (cs' : List Choice) (p : ValuesLeft) (c : Cell) → closed_behind w (decisions cs') ≡ Some p → chosen w (decisions cs') p ≡ Some c → (es : List Event) × (to_come w true cs' ≡ choice ∷ es)
      chooses cs' p c behind picked = (
        flat_map (λ v. events_within (many_cells w) w (decide c v ∷ decisions cs') (with_left p c (v ∷ []))) (tried w (decisions cs') p c) ++ ahead w cs',
        ap (λ (o : Option ValuesLeft). done_behind (events_within (many_cells w) w) w (decisions cs') o ++ ahead w cs') behind
            ∙ ap (λ (o : Option Cell). done_below (events_within (many_cells w) w) w (decisions cs') p o ++ ahead w cs') picked,
      )

-- what comes behind a way back
pub come_behind : (w : World) (stop : Option ℕ) (live live' : Bool) (cs cs' cs'' : List Choice) (answer : SearchAnswer) (t u : Times) → to_come w live cs ≡ to_come w live' cs' → ComesInTime w stop live' cs' answer cs'' t u → ComesInTime w stop live cs answer cs'' t u
come_behind w stop live live' cs cs' cs'' Model t u same h = (h.0, ((h.1.0.0, (h.1.0.1.0, same ∙ h.1.0.1.1)), h.1.1))
come_behind w stop live live' cs cs' cs'' Exhausted t u same h = (h.0, (same ∙ h.1.0, h.1.1))
come_behind w stop live live' cs cs' cs'' (MaxSeconds last) t u same h = (h.0, ((h.1.0.0, (h.1.0.1.0, same ∙ h.1.0.1.1)), h.1.1))

-- the same for choices as the search keeps them, of a board whose world is the first one's
module _ (w w' : World) (same : w' ≡ w) (stop : Option ℕ) (live : Bool) (fs gs : List Frame) (t u : Times) where
  pub goes_on_by : (live' live'' : Bool) (hs : List Frame) → HasCome w stop live (choices_of w fs) live' (choices_of w gs) t u → to_come w' live' (choices_of w' gs) ≡ to_come w' live'' (choices_of w' hs) → HasCome w stop live (choices_of w fs) live'' (choices_of w hs) t u
  goes_on_by live' live'' hs before step =
      come_on w stop live (choices_of w fs) t live' live'' (choices_of w gs) (choices_of w hs) u before (subst (λ (x : World). to_come x live' (choices_of x gs) ≡ to_come x live'' (choices_of x hs)) same step)

  pub goes_on_chosen : (live' live'' : Bool) (hs : List Frame) (v : Times) → HasCome w stop live (choices_of w fs) live' (choices_of w gs) t u → to_come w' live' (choices_of w' gs) ≡ choice ∷ to_come w' live'' (choices_of w' hs) → ReadsOn stop 1 u v
      → HasCome w stop live (choices_of w fs) live'' (choices_of w hs) t v
  goes_on_chosen live' live'' hs v before step reads =
      come_chosen w stop live (choices_of w fs) t live' live'' (choices_of w gs) (choices_of w hs) u v before (subst (λ (x : World). to_come x live' (choices_of x gs) ≡ choice ∷ to_come x live'' (choices_of x hs)) same step) reads

  pub goes_to_end : (hs : List Frame) (v : Times) → hs ≡ [] → HasCome w stop live (choices_of w fs) false (choices_of w hs) t v → ComesInTime w stop live (choices_of w fs) Exhausted (choices_of w hs) t v
  goes_to_end hs v end before = come_to_end w stop live (choices_of w fs) t (choices_of w hs) v (ap (choices_of w) end) before

  pub goes_to_leaf : (ds : List Decision) → ds ≡ decisions_of w' gs → StandsAs w' ds Settled → HasCome w stop live (choices_of w fs) true (choices_of w gs) t u → ComesInTime w stop live (choices_of w fs) Model (choices_of w gs) t u
  goes_to_leaf ds decided stands before =
      come_to_leaf w stop live (choices_of w fs) t ds (choices_of w gs) u (decided ∙ ap (λ (x : World). decisions_of x gs) same) (subst (λ (x : World). StandsAs x ds Settled) same stands) before

  pub goes_too_late : (ds : List Decision) (k last : ℕ) (v : Times) → ds ≡ decisions_of w' gs → StandsAs w' ds (Choose k) → HasCome w stop live (choices_of w fs) true (choices_of w gs) t u → ReadsOn stop 1 u v → ComesInTime w stop live (choices_of w fs) (MaxSeconds last) (choices_of w gs) t v
  goes_too_late ds k last v decided stands before reads =
      come_too_late w stop live (choices_of w fs) t ds (choices_of w gs) k last u v (decided ∙ ap (λ (x : World). decisions_of x gs) same) (subst (λ (x : World). StandsAs x ds (Choose k)) same stands) before reads

pub goes_behind : (w w' : World) (stop : Option ℕ) (live live' : Bool) (fs gs hs : List Frame) (answer : SearchAnswer) (t u : Times) → w' ≡ w → to_come w live (choices_of w fs) ≡ to_come w live' (choices_of w gs) → ComesInTime w' stop live' (choices_of w' gs) answer (choices_of w' hs) t u
    → ComesInTime w stop live (choices_of w fs) answer (choices_of w hs) t u
goes_behind w w' stop live live' fs gs hs answer t u same first second =
    come_behind w stop live live' (choices_of w fs) (choices_of w gs) (choices_of w hs) answer t u first (subst (λ (x : World). ComesInTime x stop live' (choices_of x gs) answer (choices_of x hs) t u) same second)
