-- Each conclusion of a given clause is a step from the lines that have its parents.
use Rattle.std.proofs.Common.{◌≡◌, ℕ, Bool, true, false, IsTrue, not, ◌==◌, nat_lt, if◌then◌else◌, List, [], ◌∷◌, length, map, filter, Option, Some, None, refl, sym, ap, subst}
use Rattle.std.specs.List.{AllByRecursion}
use Rattle.std.specs.Option.{option_map_or}
use Rattle.fol_core.specs.Literals.{ClauseTree}
use Rattle.fol_problem.specs.Stated.{Said}
use Rattle.fol_core.specs.Tree.{Tree}
use Rattle.derivation.specs.Later.{LaterWord, is_unit}
use Rattle.derivation.specs.Lines.{FirstWord, assumed, wanted, clausified, denied, copied, resolved, factored, paramodulated, xx_resolved, instantiated, Inference, InputRow, LineTree, ContentTree, inference_of, AreClauses, IsInferred, IsLine}
use Rattle.derivation.specs.Rule.{Concludes}
use Rattle.derivation.specs.declared.words.Satellite.{Satellite}
use Rattle.proof_words.specs.Written.{WrittenFirst, meant, satellite, by_resolve, by_hyper, by_ur, by_factor, by_para, by_xx_res}
use Rattle.prover_steps.specs.Clashing.{Held, Partner, Clashing, is_same_held, places_of, places_with, has_negative, clashings, satellites_in, clauses_of, takes_part, clashes_of, positive_partners, unit_partners, resolvents_with, hyperresolvents_of, unit_resolvents_of, factors_of}
use Rattle.prover_steps.specs.Concluded.{Conclusion, concluded, conclusion_by, inferred}
use Rattle.prover_steps.specs.Conclusions.{RulesInForce, where_set, conclusions_of}
use Rattle.prover_steps.specs.Equalities.{paramodulants_into, paramodulants_with, reflexive_resolvents_of}
use Rattle.prover_steps.specs.StepLaws.{WorksOut, HaveClause}
use Rattle.prover_steps.proofs.Lists.{all_append, all_kept, all_flat, all_mapped, all_flat_each}

-- a line that is inferred by the rule of its word
pub is_line : (ss : List Said) (rows : List InputRow) (ls : List LineTree) (w : FirstWord) (i : Inference) (ws : List LaterWord) (content : ContentTree) → inference_of w ≡ Some i → IsInferred ls i ws content → IsLine ss rows ls w ws content
is_line ss rows ls assumed i ws content is from = cc
is_line ss rows ls wanted i ws content is from = cc
is_line ss rows ls (clausified n) i ws content is from = cc
is_line ss rows ls (denied n) i ws content is from = cc
is_line ss rows ls (instantiated n es) i ws content is from = cc
is_line ss rows ls (copied n) i ws content is from = subst (λ i. IsInferred ls i ws content) (ap (λ o. option_map_or (λ i. i) o i) (sym is)) from
is_line ss rows ls (resolved n s) i ws content is from = subst (λ i. IsInferred ls i ws content) (ap (λ o. option_map_or (λ i. i) o i) (sym is)) from
is_line ss rows ls (factored n a b) i ws content is from = subst (λ i. IsInferred ls i ws content) (ap (λ o. option_map_or (λ i. i) o i) (sym is)) from
is_line ss rows ls (paramodulated n a side m b path) i ws content is from = subst (λ i. IsInferred ls i ws content) (ap (λ o. option_map_or (λ i. i) o i) (sym is)) from
is_line ss rows ls (xx_resolved n a) i ws content is from = subst (λ i. IsInferred ls i ws content) (ap (λ o. option_map_or (λ i. i) o i) (sym is)) from

-- what the rule of a word concludes of clauses that lines have
pub record IsDerived (ls : List LineTree) (w : WrittenFirst) (c : ClauseTree) : Type 0 where
  pub by : Inference
  pub clauses : List ClauseTree
  pub is : inference_of (meant w) ≡ Some by
  pub are : AreClauses ls by.parents clauses
  pub fits : IsTrue (by.rule.fits clauses)
  pub concludes : Concludes by.rule clauses c

module _ (works : WorksOut) (ls : List LineTree) (Q : Conclusion → Type 0) (each : (n : Conclusion) → IsDerived ls n.first n.clause → Q n) where
  abbrev AreSteps : List Conclusion → Type 0
  AreSteps ns = AllByRecursion Q ns

  abbrev Are : List Held → Type 0
  Are held = AllByRecursion (HaveClause ls) held

  -- what a word makes of clauses that lines have is a step behind them
  pub inferred_is : (w : WrittenFirst) (i : Inference) (cs : List ClauseTree) → inference_of (meant w) ≡ Some i → AreClauses ls i.parents cs → AreSteps (inferred w cs)
  inferred_is w i cs is are = subst AreSteps (sym (ap (λ o. option_map_or (λ i. conclusion_by w (concluded i.rule cs)) o []) is)) (by (concluded i.rule cs) refl)
    where
      by : (o : Option ClauseTree) → concluded i.rule cs ≡ o → AreSteps (conclusion_by w o)
      by None e = tt
      by (Some c) e =
          let from = (works (meant w) i cs c is).0 e in
          (each (record { clause = c; first = w }) (record { by = i; clauses = cs; is = is; are = are; fits = from.0; concludes = from.1 }), tt)

  -- resolution
  resolvents_are : (g d : Held) → HaveClause ls g → HaveClause ls d → AreSteps (resolvents_with g d)
  resolvents_are g d has other =
      all_flat_each Q _
      (λ i. all_flat_each Q _ (λ j. inferred_is (by_resolve g.number (satellite i d.number j)) _ (g.clause ∷ d.clause ∷ []) refl (has, (other, tt))) (places_of d.clause))
      (if is_same_held g d then places_with true g.clause else places_of g.clause)

  factors_are : (g : Held) → HaveClause ls g → AreSteps (factors_of g)
  factors_are g has =
      all_flat_each Q _
      (λ a. all_flat_each Q _ (λ b. inferred_is (by_factor g.number a b) _ (g.clause ∷ []) refl (has, tt)) (filter (nat_lt a) (places_of g.clause)))
      (places_of g.clause)

  -- partners are clauses that lines have
  abbrev HasPartner : Partner → Type 0
  HasPartner p = HaveClause ls p.0

  abbrev HasMember : ℕ × Partner → Type 0
  HasMember m = HaveClause ls m.1.0

  abbrev AreMembers : Clashing → Type 0
  AreMembers ms = AllByRecursion HasMember ms

  clashings_have : (ks : List ℕ) (ps : List Partner) → AllByRecursion HasPartner ps → AllByRecursion AreMembers (clashings ks ps)
  clashings_have [] ps have = (tt, tt)
  clashings_have (k ∷ ks) ps have =
      let behind = clashings_have ks ps have in
      all_flat HasPartner AreMembers _ (λ p has. all_mapped AreMembers AreMembers (λ rest. (k, p) ∷ rest) (λ rest are. (has, are)) (clashings ks ps) behind) ps have

  clauses_are : (ms : Clashing) → AreMembers ms → AreClauses ls (map (λ s. s.clause) (satellites_in ms)) (map (λ m. m.1.0.clause) ms)
  clauses_are [] are = tt
  clauses_are (m ∷ ms) are = (are.0, clauses_are ms are.1)

  clashes_are : (word : ℕ → List Satellite → WrittenFirst) → ((n : ℕ) (k : List Satellite) → meant (word n k) ≡ resolved n k) → (g n : Held) → HaveClause ls n
      → (ways : List Clashing) → AllByRecursion AreMembers ways → AreSteps (clashes_of word g n ways)
  clashes_are word means g n has ways are =
      all_flat AreMembers Q _
      (λ ms have. inferred_is (word n.number (satellites_in ms)) _ (clauses_of n ms) (ap inference_of (means n.number (satellites_in ms))) (has, clauses_are ms have))
      (filter (takes_part g n) ways) (all_kept AreMembers (takes_part g n) ways are)

  positive_have : (held : List Held) → Are held → AllByRecursion HasPartner (positive_partners held)
  positive_have held are =
      all_flat (HaveClause ls) HasPartner _ (λ h has. all_each h has (places_of h.clause)) _ (all_kept (HaveClause ls) (λ h. not (has_negative h.clause)) held are)
    where
      all_each : (h : Held) → HaveClause ls h → (ks : List ℕ) → AllByRecursion HasPartner (map (λ a. (h, a)) ks)
      all_each h has [] = tt
      all_each h has (a ∷ ks) = (has, all_each h has ks)

  units_have : (held : List Held) → Are held → AllByRecursion HasPartner (unit_partners held)
  units_have held are = all_mapped (HaveClause ls) HasPartner (λ h. (h, 0)) (λ h has. has) _ (all_kept (HaveClause ls) (λ h. is_unit h.clause) held are)

  hyperresolvents_are : (held : List Held) (g : Held) → Are held → AreSteps (hyperresolvents_of held g)
  hyperresolvents_are held g are =
      all_flat (HaveClause ls) Q _
      (λ n has. clashes_are by_hyper (λ m k. refl) g n has _ (clashings_have (places_with false n.clause) _ (positive_have held are)))
      _ (all_kept (HaveClause ls) (λ n. has_negative n.clause) held are)

  unit_resolvents_are : (held : List Held) (g : Held) → Are held → AreSteps (unit_resolvents_of held g)
  unit_resolvents_are held g are =
      all_flat (HaveClause ls) Q _
      (λ n has. all_flat_each Q _ (λ left. clashes_are by_ur (λ m k. refl) g n has _ (clashings_have (filter (λ k. not (k == left)) (places_of n.clause)) _ (units_have held are))) (places_of n.clause))
      _ (all_kept (HaveClause ls) (λ n. nat_lt 1 (length n.clause)) held are)

  -- paramodulation
  module _ (greater : Tree → Tree → Bool) where
    into_are : (c d : Held) → HaveClause ls c → HaveClause ls d → AreSteps (paramodulants_into greater c d)
    into_are c d has other =
        all_flat_each Q _
        (λ a. all_flat_each Q _
        (λ side. all_flat_each Q _
        (λ b. all_flat_each Q _
        (λ path. inferred_is (by_para c.number a side d.number b path) _ (c.clause ∷ d.clause ∷ []) refl (has, (other, tt))) _) (places_of d.clause)) _) (places_of c.clause)

    with_are : (g d : Held) → HaveClause ls g → HaveClause ls d → AreSteps (paramodulants_with greater g d)
    with_are g d has other = all_append Q _ _ (into_are g d has other) (by (is_same_held g d))
      where
        by : (same : Bool) → AreSteps (if same then [] else paramodulants_into greater d g)
        by true = tt
        by false = into_are d g other has

  reflexive_are : (g : Held) → HaveClause ls g → AreSteps (reflexive_resolvents_of g)
  reflexive_are g has = all_flat_each Q _ (λ a. inferred_is (by_xx_res g.number a) _ (g.clause ∷ []) refl (has, tt)) (places_of g.clause)

  set_are : (rule : Bool) (ns : List Conclusion) → AreSteps ns → AreSteps (where_set rule ns)
  set_are true ns are = are
  set_are false ns are = tt

  pub conclusions_are : (rules : RulesInForce) (greater : Tree → Tree → Bool) (held : List Held) (g : Held) → Are held → HaveClause ls g → AreSteps (conclusions_of rules greater held g)
  conclusions_are rules greater held g are has =
      all_append Q _ _ (set_are rules.binary _ (all_flat (HaveClause ls) Q _ (λ d other. resolvents_are g d has other) held are))
      (all_append Q _ _ (set_are rules.hyper _ (hyperresolvents_are held g are))
      (all_append Q _ _ (set_are rules.units _ (unit_resolvents_are held g are))
      (all_append Q _ _ (set_are rules.factors _ (factors_are g has))
      (all_append Q _ _ (set_are rules.equalities _ (all_flat (HaveClause ls) Q _ (λ d other. with_are greater g d has other) held are))
      (set_are rules.equalities _ (reflexive_are g has))))))
