-- Partners that stand for others.
use Rattle.std.proofs.Common.{◌≡◌, ℕ, ◌+◌, ◌<◌, ◌≤◌, Bool, true, false, not, ◌||◌, if◌then◌else◌, List, [], ◌∷◌, ◌++◌, length, get_or, map, flat_map, take, refl, sym, ap, ◌∙◌, subst, arith, append_assoc}
use Rattle.std.specs.Borrow.{Bor}
use Rattle.std.specs.List.{list_any}
use Rattle.std.proofs.lemmas.List.{take_all, take_more, append-nil, map-append, flat_map_more}
use Rattle.std.proofs.lemmas.Grind.{flat_map-append}
use Rattle.fol_core.specs.ClauseView.{literal_of}
use Rattle.fol_core.specs.Literals.{ClauseTree}
use Rattle.fol_core.specs.declared.clause.Literal.{Literal}
use Rattle.held_clauses.specs.Holding.{lent}
use Rattle.prover_steps.specs.Clashing.{Held, Partner, has_negative, places_of}
use Rattle.resolution.specs.Meeting.{NeverClash}
use Rattle.resolution.specs.Trying.{is_satellite, partners_in, partners_by}
use Rattle.resolution.specs.Ways.{StandFor}
use Rattle.resolution.specs.declared.partners.ClashKind.{ClashKind}
use Rattle.resolution.proofs.Going.{flat_kept, length_places, place_at}

pub negative_seen : (ls : List Literal) → list_any (λ (l : Literal). not l.positive) ls ≡ has_negative (map literal_of ls)
negative_seen [] = refl
negative_seen (l ∷ ls) = ap (λ b. not l.positive || b) (negative_seen ls)

module _ (c : ClauseTree) (k : ℕ) where
  -- what stands for the first ones, and then for those behind
  pub stand_then : (all mid new more : List Partner) → StandFor c k mid all → StandFor c k new (mid ++ more) → StandFor c k new (all ++ more)
  stand_then all mid new more front behind = λ f out.
      behind f out ∙ flat_map-append f mid more ∙ ap (λ ys. ys ++ flat_map f more) (front f out) ∙ sym (flat_map-append f all more)

  -- one that never clashes is left out
  pub stand_out : (old : List Partner) (p : Partner) → NeverClash c k p.0.clause p.1 → StandFor c k old (old ++ p ∷ [])
  stand_out old p never = λ f out.
      sym (append-nil (flat_map f old)) ∙ ap (λ ys. flat_map f old ++ ys) (sym (append-nil (f p) ∙ out p never)) ∙ sym (flat_map-append f old (p ∷ []))

  pub stand_none : (old : List Partner) (test : Bool) (more : List Partner) → test ≡ false → StandFor c k old (old ++ (if test then more else []))
  stand_none old test more e = λ f out. ap (flat_map f) (sym (append-nil old) ∙ ap (λ b. old ++ (if b then more else [])) (sym e))

  pub stand_some : (old new : List Partner) (test : Bool) (more : List Partner) → test ≡ true → StandFor c k new (old ++ more) → StandFor c k new (old ++ (if test then more else []))
  stand_some old new test more e stand = subst (λ b. StandFor c k new (old ++ (if b then more else []))) (sym e) stand

  -- one more literal
  pub stand_literal : (h : Held) (i : ℕ) (old mid new : List Partner) → i < length h.clause → StandFor c k mid (old ++ map (λ a. (h, a)) (take i (places_of h.clause)))
      → StandFor c k new (mid ++ (h, i) ∷ []) → StandFor c k new (old ++ map (λ a. (h, a)) (take (i + 1) (places_of h.clause)))
  stand_literal h i old mid new lt front behind =
      let at : 0 + i ≡ i = omega arith in
      let places = take i (places_of h.clause) in
      let all : (old ++ map (λ a. (h, a)) places) ++ (h, i) ∷ [] ≡ old ++ map (λ a. (h, a)) (take (i + 1) (places_of h.clause)) =
      append_assoc old (map (λ a. (h, a)) places) ((h, i) ∷ [])
      ∙ ap (λ ps. old ++ ps)
      (sym (map-append (λ a. (h, a)) places (i ∷ []))
      ∙ ap (map (λ a. (h, a))) (ap (λ n. places ++ n ∷ []) (sym (place_at 0 h.clause i i lt ∙ at)) ∙ sym (take_more (places_of h.clause) i i (omega (arith, length_places 0 h.clause))))) in
      subst (StandFor c k new) all (stand_then (old ++ map (λ a. (h, a)) places) mid new ((h, i) ∷ []) front behind)

  pub stand_literals : (h : Held) (i : ℕ) (old new : List Partner) → length h.clause ≤ i → StandFor c k new (old ++ map (λ a. (h, a)) (take i (places_of h.clause))) → StandFor c k new (old ++ partners_in h)
  stand_literals h i old new end stand = subst (λ ks. StandFor c k new (old ++ map (λ a. (h, a)) ks)) (take_all i (places_of h.clause) (omega (arith, length_places 0 h.clause))) stand

  abbrev of_one : ClashKind → Held → List Partner
  of_one kind h = if is_satellite kind h.clause then partners_in h else []

  partners_kept : (kind : ClashKind) (held : List Held) → partners_by kind held ≡ flat_map (of_one kind) held
  partners_kept kind held = flat_kept (λ (h : Held). is_satellite kind h.clause) partners_in held

  -- one more clause
  pub stand_lent : (kind : ClashKind) (held : List (Bor Held)) (i : ℕ) (h : Bor Held) (mid new : List Partner) → i < length held → h ≡ get_or held i h
      → StandFor c k mid (partners_by kind (lent (take i held))) → StandFor c k new (mid ++ (if is_satellite kind h.now.clause then partners_in h.now else []))
      → StandFor c k new (partners_by kind (lent (take (i + 1) held)))
  stand_lent kind held i h mid new lt is front behind =
      let one : lent (take (i + 1) held) ≡ lent (take i held) ++ h.now ∷ [] =
      ap lent (take_more held i h lt ∙ ap (λ x. take i held ++ x ∷ []) (sym is)) ∙ map-append (λ (b : Bor Held). b.now) (take i held) (h ∷ []) in
      let all : partners_by kind (lent (take i held)) ++ of_one kind h.now ≡ partners_by kind (lent (take (i + 1) held)) =
      ap (λ ps. ps ++ of_one kind h.now) (partners_kept kind (lent (take i held))) ∙ flat_map_more (of_one kind) [] (lent (take i held)) h.now
      ∙ ap (flat_map (of_one kind)) (sym one) ∙ sym (partners_kept kind (lent (take (i + 1) held))) in
      subst (StandFor c k new) all (stand_then (partners_by kind (lent (take i held))) mid new (of_one kind h.now) front behind)
