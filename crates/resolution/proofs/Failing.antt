-- Why nothing is concluded: literals that never clash, and satellites that nothing unifies so far.
use Rattle.std.proofs.Common.{◌≡◌, ◌<◌, ℕ, suc, Bool, true, false, not, ◌==◌, ◌&&◌, ◌||◌, if◌then◌else◌, IsTrue, List, [], ◌∷◌, ◌++◌, length, map, Option, Some, None, refl, sym, ap, ◌∙◌, subst, arith}
use Rattle.std.specs.Option.{option_map, option_map_or}
use Rattle.std.proofs.lemmas.List.{length-map, map-append}
use Rattle.std.proofs.lemmas.Bool.{and_parts, and_from, false≢true}
use Rattle.fol_core.specs.Free.{is_in}
use Rattle.fol_core.specs.Literals.{ClauseTree}
use Rattle.fol_core.specs.Substitutions.{Substitution}
use Rattle.substitutions.specs.Apart.{Own, instances, interleaved}
use Rattle.substitutions.specs.Bindings.{Binding}
use Rattle.substitutions.specs.Instances.{substitute_clause}
use Rattle.substitutions.proofs.Interleaving.{interleaving_is_apart}
use Rattle.unifiers.proofs.Found.{most_general, none_there}
use Rattle.derivation.specs.Lines.{FirstWord, Inference, inference_of, factored, resolved, clash_inference, factor_inference}
use Rattle.derivation.specs.Places.{atom_at, are_opposite, are_alike}
use Rattle.derivation.specs.Rule.{AreSame}
use Rattle.derivation.specs.Words.{Clash, clashes_fit, clash_fits, clash_pairs, clash_rule}
use Rattle.derivation.specs.declared.words.Satellite.{Satellite}
use Rattle.derivation.proofs.Conclusions.{one_conclusion}
use Rattle.derivation.proofs.Naturality.{atom_at_put, opposite_places, alike_places}
use Rattle.derivation.proofs.Rows.{word_lawful}
use Rattle.derivation.proofs.Spread.{concludes_apart, none_apart}
use Rattle.proof_words.specs.Written.{WrittenFirst, meant, satellite, by_resolve, by_factor}
use Rattle.prover_steps.specs.Concluded.{concluded, conclusion_by, inferred, left_under, unifying}
use Rattle.prover_steps.specs.StepLaws.{WorksOut}
use Rattle.prover_steps.proofs.Working.{works_out}
use Rattle.inference.specs.Judged.{clash_of}
use Rattle.resolution.specs.Meeting.{NeverClash, NeverMerge}

-- what is worked out is what is concluded
pub works : WorksOut
works =
    works_out (λ w i cs apart s is renamed fits. concludes_apart i.rule (word_lawful w i is).0 (word_lawful w i is).1 cs apart renamed fits s)
    (λ w i cs apart is renamed fits. none_apart i.rule (word_lawful w i is).0 (word_lawful w i is).1 cs apart renamed fits)
    (λ w i ps d e is fits concludes again. one_conclusion i.rule (word_lawful w i is).0 (word_lawful w i is).1 ps d e fits concludes again)
    interleaving_is_apart most_general none_there

module _ (w : FirstWord) (i : Inference) (cs : List ClauseTree) (is : inference_of w ≡ Some i) where
  -- nothing is concluded where nothing unifies
  pub none_concluded : (IsTrue (i.rule.fits cs) → (own : Own) → AreSame (i.rule.pairs (instances own cs)) → ⊥) → concluded i.rule cs ≡ None
  none_concluded none = by (concluded i.rule cs) refl
    where
      by : (o : Option ClauseTree) → concluded i.rule cs ≡ o → o ≡ None
      by None e = refl
      by (Some c) e = let from = (works w i cs c is).0 e in absurd (none from.0 from.1.0 from.1.1.unifies)

  -- and something where something does
  pub some_concluded : IsTrue (i.rule.fits cs) → (own : Own) → AreSame (i.rule.pairs (instances own cs)) → concluded i.rule cs ≡ None → ⊥
  some_concluded fits own same none = by (unifying i.rule cs) refl
    where
      by : (o : Option (List Binding)) → unifying i.rule cs ≡ o → ⊥
      by (Some bs) e =
          let there : concluded i.rule cs ≡ Some (left_under i.rule cs bs) =
          ap (λ b. if b then option_map (left_under i.rule cs) (unifying i.rule cs) else None) fits ∙ ap (option_map (left_under i.rule cs)) e in
          cc
      by None e =
          none_apart i.rule (word_lawful w i is).0 (word_lawful w i is).1 cs (interleaved (length cs)) (interleaving_is_apart cs) fits (λ s. none_there _ _ s e) own same

-- so nothing comes of the word
pub none_inferred : (w : WrittenFirst) (i : Inference) (cs : List ClauseTree) → inference_of (meant w) ≡ Some i → concluded i.rule cs ≡ None → inferred w cs ≡ []
none_inferred w i cs is none = ap (λ o. option_map_or (λ i. conclusion_by w (concluded i.rule cs)) o []) is ∙ ap (conclusion_by w) none

-- a clash among others
pair_same : (s : Substitution) (own : Own) (c : ClauseTree) (ks : List Clash) (k : Clash) (ls : List Clash) (ds : List ClauseTree) (d : ClauseTree) (es : List ClauseTree) → length ks ≡ length ds
    → AreSame (clash_pairs (substitute_clause s c) (ks ++ k ∷ ls) (instances own (ds ++ d ∷ es))) → (u : Substitution) × (atom_at (substitute_clause s c) k.0 ≡ atom_at (substitute_clause u d) k.1)
pair_same s own c [] k ls [] d es h same = (own 0, same.0)
pair_same s own c [] k ls (e ∷ ds) d es h same = absurd (omega arith)
pair_same s own c (j ∷ ks) k ls [] d es h same = absurd (omega arith)
pair_same s own c (j ∷ ks) k ls (e ∷ ds) d es h same = pair_same s (λ n. own (suc n)) c ks k ls ds d es (omega arith) same.1

pair_fits : (c : ClauseTree) (ks : List Clash) (k : Clash) (ls : List Clash) (ds : List ClauseTree) (d : ClauseTree) (es : List ClauseTree) → length ks ≡ length ds
    → IsTrue (clashes_fit c (ks ++ k ∷ ls) (ds ++ d ∷ es)) → IsTrue (are_opposite c k.0 d k.1)
pair_fits c [] k ls [] d es h fits = (and_parts (are_opposite c k.0 d k.1) (not (is_in k.0 (map (λ n. n.0) ls)) && clashes_fit c ls es) fits).0
pair_fits c [] k ls (e ∷ ds) d es h fits = absurd (omega arith)
pair_fits c (j ∷ ks) k ls [] d es h fits = absurd (omega arith)
pair_fits c (j ∷ ks) k ls (e ∷ ds) d es h fits =
    let rest = clashes_fit c (ks ++ k ∷ ls) (ds ++ d ∷ es) in
    let other = not (is_in j.0 (map (λ n. n.0) (ks ++ k ∷ ls))) in
    pair_fits c ks k ls ds d es (omega arith) (and_parts other rest (and_parts (are_opposite c j.0 e j.1) (other && rest) fits).1).1

-- satellites fit one by one
satellites_fit : (ks : List Clash) (c : ClauseTree) (ds : List ClauseTree) → IsTrue (clash_fits ks (c ∷ ds)) → IsTrue (clashes_fit c ks ds)
satellites_fit ks c [] fits = absurd (false≢true fits)
satellites_fit ks c (d ∷ ds) fits = fits

-- a clash whose literals never clash leaves no conclusion
pub never_concluded : (n : ℕ) (ss : List Satellite) (c : ClauseTree) (ks : List Clash) (k : Clash) (ls : List Clash) (ds : List ClauseTree) (d : ClauseTree) (es : List ClauseTree) → length ks ≡ length ds
    → map clash_of ss ≡ ks ++ k ∷ ls → NeverClash c k.0 d k.1 → concluded (clash_rule (map clash_of ss)) (c ∷ (ds ++ d ∷ es)) ≡ None
never_concluded n ss c ks k ls ds d es h are never =
    none_concluded (resolved n ss) (clash_inference n ss) (c ∷ (ds ++ d ∷ es)) refl
    (λ fits own same.
    let all = satellites_fit (ks ++ k ∷ ls) c (ds ++ d ∷ es) (ap (λ js. clash_fits js (c ∷ (ds ++ d ∷ es))) (sym are) ∙ fits) in
    let opposite = pair_fits c ks k ls ds d es h all in
    let places = opposite_places c k.0 d k.1 opposite in
    let one = pair_same (own 0) (λ n. own (suc n)) c ks k ls ds d es h
    (subst (λ js. AreSame (clash_pairs (substitute_clause (own 0) c) js (instances (λ n. own (suc n)) (ds ++ d ∷ es)))) are same) in
    never opposite (own 0) one.0 (sym (atom_at_put (own 0) c k.0 places.0) ∙ one.1 ∙ atom_at_put one.0 d k.1 places.1))

pub no_resolvent : (n : ℕ) (c : ClauseTree) (i m : ℕ) (d : ClauseTree) (j : ℕ) → NeverClash c i d j → inferred (by_resolve n (satellite i m j)) (c ∷ d ∷ []) ≡ []
no_resolvent n c i m d j never =
    none_inferred (by_resolve n (satellite i m j)) (clash_inference n (satellite i m j ∷ [])) (c ∷ d ∷ []) refl
    (never_concluded n (satellite i m j ∷ []) c [] (i, j) [] [] d [] refl refl never)

-- so literals that are never merged
pub no_factor : (n : ℕ) (c : ClauseTree) (a b : ℕ) → NeverMerge c a b → inferred (by_factor n a b) (c ∷ []) ≡ []
no_factor n c a b never =
    none_inferred (by_factor n a b) (factor_inference n a b) (c ∷ []) refl
    (none_concluded (factored n a b) (factor_inference n a b) (c ∷ []) refl
    (λ fits own same.
    let alike = (and_parts (not (a == b)) (are_alike c a c b) fits).1 in
    let places = alike_places c a c b alike in
    never alike (own 0) (own 0) (sym (atom_at_put (own 0) c a places.0) ∙ same.0 ∙ atom_at_put (own 0) c b places.1)))

-- a front of satellites that fit
in_front : (x : ℕ) (ks ls : List Clash) → IsTrue (not (is_in x (map (λ n. n.0) (ks ++ ls)))) → IsTrue (not (is_in x (map (λ n. n.0) ks)))
in_front x [] ls h = refl
in_front x (k ∷ ks) ls h = by (x == k.0) h (in_front x ks ls)
  where
    by : (b : Bool) → IsTrue (not (b || is_in x (map (λ n. n.0) (ks ++ ls)))) → (IsTrue (not (is_in x (map (λ n. n.0) (ks ++ ls)))) → IsTrue (not (is_in x (map (λ n. n.0) ks))))
        → IsTrue (not (b || is_in x (map (λ n. n.0) ks)))
    by true h rest = h
    by false h rest = rest h

front_fits : (c : ClauseTree) (ks ls : List Clash) (ds es : List ClauseTree) → length ks ≡ length ds → IsTrue (clashes_fit c (ks ++ ls) (ds ++ es)) → IsTrue (clashes_fit c ks ds)
front_fits c [] ls [] es h fits = refl
front_fits c [] ls (d ∷ ds) es h fits = absurd (omega arith)
front_fits c (k ∷ ks) ls [] es h fits = absurd (omega arith)
front_fits c (k ∷ ks) ls (d ∷ ds) es h fits =
    let rest = clashes_fit c (ks ++ ls) (ds ++ es) in
    let other = not (is_in k.0 (map (λ n. n.0) (ks ++ ls))) in
    let p = and_parts (are_opposite c k.0 d k.1) (other && rest) fits in
    let q = and_parts other rest p.1 in
    and_from (are_opposite c k.0 d k.1) (not (is_in k.0 (map (λ n. n.0) ks)) && clashes_fit c ks ds) p.0
    (and_from (not (is_in k.0 (map (λ n. n.0) ks))) (clashes_fit c ks ds) (in_front k.0 ks ls q.0) (front_fits c ks ls ds es (omega arith) q.1))

front_same : (s : Substitution) (own : Own) (c : ClauseTree) (ks ls : List Clash) (ds es : List ClauseTree) → length ks ≡ length ds
    → AreSame (clash_pairs (substitute_clause s c) (ks ++ ls) (instances own (ds ++ es))) → AreSame (clash_pairs (substitute_clause s c) ks (instances own ds))
front_same s own c [] ls ds es h same = tt
front_same s own c (k ∷ ks) ls [] es h same = absurd (omega arith)
front_same s own c (k ∷ ks) ls (d ∷ ds) es h same = (same.0, front_same s (λ n. own (suc n)) c ks ls ds es (omega arith) same.1)

-- where nothing comes of the first satellites, nothing comes of all
pub front_concluded : (n : ℕ) (ss ts : List Satellite) (c : ClauseTree) (ds es : List ClauseTree) → 0 < length ss → length ss ≡ length ds
    → concluded (clash_rule (map clash_of ss)) (c ∷ ds) ≡ None → concluded (clash_rule (map clash_of (ss ++ ts))) (c ∷ (ds ++ es)) ≡ None
front_concluded n ss ts c [] es some h none = absurd (omega arith)
front_concluded n ss ts c (d ∷ ds) es some h none =
    let lengths : length (map clash_of ss) ≡ length (d ∷ ds) = length-map ss clash_of ∙ h in
    let parts : map clash_of (ss ++ ts) ≡ map clash_of ss ++ map clash_of ts = map-append clash_of ss ts in
    none_concluded (resolved n (ss ++ ts)) (clash_inference n (ss ++ ts)) (c ∷ (d ∷ ds ++ es)) refl
    (λ fits own same.
    some_concluded (resolved n ss) (clash_inference n ss) (c ∷ d ∷ ds) refl
    (front_fits c (map clash_of ss) (map clash_of ts) (d ∷ ds) es lengths (subst (λ ks. IsTrue (clashes_fit c ks (d ∷ ds ++ es))) parts fits))
    own
    (front_same (own 0) (λ k. own (suc k)) c (map clash_of ss) (map clash_of ts) (d ∷ ds) es lengths
    (subst (λ ks. AreSame (clash_pairs (substitute_clause (own 0) c) ks (instances (λ k. own (suc k)) (d ∷ ds ++ es)))) parts same))
    none)
