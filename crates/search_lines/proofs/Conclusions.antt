-- Each conclusion of a given clause comes by a word that is fit.
use Rattle.std.proofs.Common.{◌≡◌, ℕ, suc, ◌+◌, ◌<◌, Bool, true, false, not, ◌==◌, ◌||◌, nat_lt, if◌then◌else◌, length, List, [], ◌∷◌, map, filter, Option, Some, None, refl, sym, ap, ◌∙◌, eqb-true, ltb-true, arith}
use Rattle.std.proofs.lemmas.Bool.{false≢true}
use Rattle.std.specs.List.{AllByRecursion}
use Rattle.std.specs.Option.{option_map, option_map_or}
use Rattle.derivation.specs.Equations.{left_of}
use Rattle.derivation.specs.Later.{is_unit}
use Rattle.derivation.specs.Lines.{Inference, inference_of}
use Rattle.derivation.specs.Places.{same_sign, has_literal, atom_at}
use Rattle.derivation.specs.Rule.{InferenceRule}
use Rattle.derivation.specs.Words.{clash_rule}
use Rattle.derivation.specs.declared.words.Satellite.{Satellite}
use Rattle.fol_core.specs.Literals.{ClauseTree}
use Rattle.fol_core.specs.Tree.{Tree, var, elem, app, Trees, none, more}
use Rattle.search_lines.proofs.Several.{kept_pass, all_mapped_each}
use Rattle.search_lines.specs.Shapes.{IsFitSource}
use Rattle.proof_words.specs.Written.{WrittenFirst, meant, satellite, by_resolve, by_hyper, by_ur, by_factor, by_para, by_xx_res}
use Rattle.prover_steps.proofs.Lists.{all_append, all_kept, all_flat, all_flat_each}
use Rattle.prover_steps.specs.Clashing.{Held, Partner, Clashing, is_same_held, places_from, places_of, places_with, has_negative, clashings, satellites_in, clauses_of, takes_part, clashes_of, positive_partners, unit_clashings, resolvents_with, resolvents_of, hyperresolvents_of, unit_resolvents_of, factors_of}
use Rattle.prover_steps.specs.Concluded.{Conclusion, unifying, left_under, concluded, conclusion_by, inferred}
use Rattle.prover_steps.specs.Conclusions.{RulesInForce, where_set, conclusions_of}
use Rattle.prover_steps.specs.Equalities.{paths_of, paths_from, paths_below, is_oriented, into_paths, paramodulants_into, paramodulants_with, paramodulants_of, reflexive_resolvents_of}
use Rattle.substitutions.specs.Bindings.{Binding}

-- what two units make is the empty clause
pub conflict_empty : (n m : ℕ) (c d : ClauseTree) → is_unit c ≡ true → is_unit d ≡ true → AllByRecursion (λ k. k.clause ≡ []) (inferred (by_resolve n (satellite 0 m 0)) (c ∷ d ∷ []))
conflict_empty n m [] d one other = cc
conflict_empty n m (k ∷ l ∷ c) d one other = cc
conflict_empty n m (l ∷ []) [] one other = cc
conflict_empty n m (l ∷ []) (k ∷ j ∷ d) one other = cc
conflict_empty n m (l ∷ []) (k ∷ []) one other = by (rule.fits cs) (unifying rule cs)
  where
    rule : InferenceRule
    rule = clash_rule ((0, 0) ∷ [])

    cs : List ClauseTree
    cs = (l ∷ []) ∷ (k ∷ []) ∷ []

    by : (b : Bool) (o : Option (List Binding)) → AllByRecursion (λ k. k.clause ≡ []) (conclusion_by (by_resolve n (satellite 0 m 0)) (if b then option_map (left_under rule cs) o else None))
    by true (Some bs) = (refl, tt)
    by true None = tt
    by false o = tt

abbrev pub IsFit : Conclusion → Type 0
IsFit n = IsFitSource n.first

abbrev pub AreFit : List Conclusion → Type 0
AreFit ns = AllByRecursion IsFit ns

-- the word of a step is that of each of its conclusions
pub inferred_fit : (w : WrittenFirst) (cs : List ClauseTree) → IsFitSource w → AreFit (inferred w cs)
inferred_fit w cs fit = by (inference_of (meant w))
  where
    one : (o : Option ClauseTree) → AreFit (conclusion_by w o)
    one None = tt
    one (Some c) = (fit, tt)

    by : (o : Option Inference) → AreFit (option_map_or (λ i. conclusion_by w (concluded i.rule cs)) o [])
    by None = tt
    by (Some i) = one (concluded i.rule cs)

-- resolution and factoring
resolvents_fit : (held : List Held) (g : Held) → AreFit (resolvents_of held g)
resolvents_fit held g =
    all_flat_each IsFit (resolvents_with g)
    (λ d. all_flat_each IsFit _
    (λ i. all_flat_each IsFit _
    (λ j. inferred_fit (by_resolve g.number (satellite i d.number j)) (g.clause ∷ d.clause ∷ []) (record { takes = refl; first = tt })) (places_of d.clause))
    (if is_same_held g d then places_with true g.clause else places_of g.clause))
    held

factors_fit : (g : Held) → AreFit (factors_of g)
factors_fit g =
    all_flat_each IsFit _
    (λ a. all_flat_each IsFit _ (λ b. inferred_fit (by_factor g.number a b) (g.clause ∷ []) (record { takes = refl; first = tt })) (filter (nat_lt a) (places_of g.clause)))
    (places_of g.clause)

-- a nucleus whose places to be met are some has satellites
abbrev HasSatellite : Clashing → Type 0
HasSatellite ms = 0 < length (satellites_in ms)

clashings_have : (ks : List ℕ) (ps : List Partner) → 0 < length ks → AllByRecursion HasSatellite (clashings ks ps)
clashings_have [] ps some = absurd (omega (arith, some))
clashings_have (k ∷ ks) ps some =
    all_flat_each HasSatellite _ (λ p. all_mapped_each HasSatellite (λ rest. (k, p) ∷ rest) (λ rest. omega arith) (clashings ks ps)) ps

clashes_fit : (word : ℕ → List Satellite → WrittenFirst) → ((n : ℕ) (ss : List Satellite) → 0 < length ss → IsFitSource (word n ss)) → (g n : Held) (ways : List Clashing) → AllByRecursion HasSatellite ways
    → AreFit (clashes_of word g n ways)
clashes_fit word fits g n ways have =
    all_flat HasSatellite IsFit _ (λ ms some. inferred_fit (word n.number (satellites_in ms)) (clauses_of n ms) (fits n.number (satellites_in ms) some))
    (filter (takes_part g n) ways) (all_kept HasSatellite (takes_part g n) ways have)

-- a clause with a negative literal has a place of one
negative_from : (test : ℕ → Bool) (n : ℕ) (c : ClauseTree) → ((a : ℕ) → test (n + a) ≡ has_literal false c a) → has_negative c ≡ true → 0 < length (filter test (places_from n c))
negative_from test n [] same h = absurd (false≢true h)
negative_from test n (l ∷ c) same h = by l.positive refl h (test n) refl (negative_from test (suc n) c further)
  where
    further : (a : ℕ) → test (suc n + a) ≡ has_literal false c a
    further a = let e : suc n + a ≡ n + suc a = omega arith in ap test e ∙ same (suc a)

    here : test n ≡ same_sign false l.positive
    here = let e : n ≡ n + 0 = omega arith in ap test e ∙ same 0

    by : (p : Bool) → l.positive ≡ p → (not p || has_negative c) ≡ true → (b : Bool) → test n ≡ b → (has_negative c ≡ true → 0 < length (filter test (places_from (suc n) c)))
        → 0 < length (if b then n ∷ filter test (places_from (suc n) c) else filter test (places_from (suc n) c))
    by p e h true f rest = omega arith
    by true e h false f rest = rest h
    by false e h false f rest = absurd (false≢true (sym f ∙ here ∙ ap (same_sign false) e))

negative_places : (c : ClauseTree) → has_negative c ≡ true → 0 < length (places_with false c)
negative_places c h = negative_from (has_literal false c) 0 c (λ a. let e : 0 + a ≡ a = omega arith in ap (has_literal false c) e) h

hyperresolvents_fit : (held : List Held) (g : Held) → AreFit (hyperresolvents_of held g)
hyperresolvents_fit held g =
    all_flat (λ n. has_negative n.clause ≡ true) IsFit _
    (λ n negative. clashes_fit by_hyper (λ m ss some. record { takes = refl; first = some }) g n _ (clashings_have (places_with false n.clause) (positive_partners held) (negative_places n.clause negative)))
    (filter (λ n. has_negative n.clause) held) (kept_pass (λ n. has_negative n.clause) held)

-- of two places or more one is left over, and there is another one
other_places : (c : ClauseTree) (left : ℕ) → 1 < length c → 0 < length (filter (λ k. not (k == left)) (places_of c))
other_places [] left h = absurd (omega (arith, h))
other_places (l ∷ []) left h = absurd (omega (arith, h))
other_places (l ∷ k ∷ c) left h = by (0 == left) refl (1 == left) refl
  where
    rest : List ℕ
    rest = filter (λ k. not (k == left)) (places_from 2 c)

    by : (a : Bool) → (0 == left) ≡ a → (b : Bool) → (1 == left) ≡ b → 0 < length (if not a then 0 ∷ (if not b then 1 ∷ rest else rest) else (if not b then 1 ∷ rest else rest))
    by false e b f = omega arith
    by true e false f = omega arith
    by true e true f = let x : 0 ≡ left = eqb-true 0 left e in let y : 1 ≡ left = eqb-true 1 left f in absurd (omega (arith, x, y))

unit_resolvents_fit : (held : List Held) (g : Held) → AreFit (unit_resolvents_of held g)
unit_resolvents_fit held g =
    all_flat (λ n. nat_lt 1 (length n.clause) ≡ true) IsFit _
    (λ n two. all_flat_each IsFit _
    (λ left. clashes_fit by_ur (λ m ss some. record { takes = refl; first = some }) g n (unit_clashings held n.clause left)
    (clashings_have (filter (λ k. not (k == left)) (places_of n.clause)) _ (other_places n.clause left (ltb-true 1 (length n.clause) two))))
    (places_of n.clause))
    (filter (λ n. nat_lt 1 (length n.clause)) held) (kept_pass (λ n. nat_lt 1 (length n.clause)) held)

-- paths below an atom
abbrev IsSome : List ℕ → Type 0
IsSome path = 0 < length path

paths_some : (k : ℕ) (ts : Trees) → AllByRecursion IsSome (paths_from k ts)
paths_some k none = tt
paths_some k (more t ts) = all_append IsSome _ _ (all_mapped_each IsSome (λ path. k ∷ path) (λ path. omega arith) (paths_of t)) (paths_some (suc k) ts)

below_some : (t : Tree) → AllByRecursion IsSome (paths_below t)
below_some (var x) = tt
below_some (elem k) = tt
below_some (app f ts) = paths_some 1 ts

module _ (greater : Tree → Tree → Bool) where
  into_some : (atom : Tree) → AllByRecursion IsSome (into_paths greater atom)
  into_some atom = by (is_oriented greater atom)
    where
      by : (b : Bool) → AllByRecursion IsSome (if b then map (λ path. 1 ∷ path) (paths_of (left_of atom)) else paths_below atom)
      by true = all_mapped_each IsSome (λ path. 1 ∷ path) (λ path. omega arith) _
      by false = below_some atom

  into_fit : (c d : Held) → AreFit (paramodulants_into greater c d)
  into_fit c d =
      all_flat_each IsFit _
      (λ a. all_flat_each IsFit _
      (λ side. all_flat_each IsFit _
      (λ b. all_flat IsSome IsFit _
      (λ path some. inferred_fit (by_para c.number a side d.number b path) (c.clause ∷ d.clause ∷ []) (record { takes = refl; first = some }))
      _ (into_some (atom_at d.clause b))) (places_of d.clause)) _) (places_of c.clause)

  paramodulants_fit : (held : List Held) (g : Held) → AreFit (paramodulants_of greater held g)
  paramodulants_fit held g = all_flat_each IsFit (paramodulants_with greater g) (λ d. all_append IsFit _ _ (into_fit g d) (by d (is_same_held g d))) held
    where
      by : (d : Held) (same : Bool) → AreFit (if same then [] else paramodulants_into greater d g)
      by d true = tt
      by d false = into_fit d g

reflexive_fit : (g : Held) → AreFit (reflexive_resolvents_of g)
reflexive_fit g = all_flat_each IsFit _ (λ a. inferred_fit (by_xx_res g.number a) (g.clause ∷ []) (record { takes = refl; first = tt })) (places_of g.clause)

set_fit : (rule : Bool) (ns : List Conclusion) → AreFit ns → AreFit (where_set rule ns)
set_fit true ns fit = fit
set_fit false ns fit = tt

pub conclusions_fit : (rules : RulesInForce) (greater : Tree → Tree → Bool) (held : List Held) (g : Held) → AreFit (conclusions_of rules greater held g)
conclusions_fit rules greater held g =
    all_append IsFit _ _ (set_fit rules.binary _ (resolvents_fit held g))
    (all_append IsFit _ _ (set_fit rules.hyper _ (hyperresolvents_fit held g))
    (all_append IsFit _ _ (set_fit rules.units _ (unit_resolvents_fit held g))
    (all_append IsFit _ _ (set_fit rules.factors _ (factors_fit g))
    (all_append IsFit _ _ (set_fit rules.equalities _ (paramodulants_fit greater held g))
    (set_fit rules.equalities _ (reflexive_fit g))))))
