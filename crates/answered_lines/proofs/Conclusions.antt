-- What rules conclude of clauses with answers: one thing, by whatever most general unifier and from whatever names of variables.
use Rattle.std.proofs.Common.{◌≡◌, suc, IsTrue, List, [], ◌∷◌, ◌++◌, map, length, refl, sym, ap, ap₂, ◌∙◌, subst}
use Rattle.answers.specs.AnswerTrees.{Answer, substitute_answers, each_once, riders, whole, numbering, numbered_clause, numbered_answers, IsSame}
use Rattle.answers.proofs.Prefix.{numbered_is}
use Rattle.answered_lines.specs.Laws.{AreApartWith, wholes, AreAsMany, WholesApart, InterleavedAreApart, instances_of_answers}
use Rattle.answered_lines.specs.Steps.{together, IsMostGeneralWith, ConcludesWith}
use Rattle.answered_lines.proofs.AnswerInstances.{answers_twice, answers_alike, answers_both, whole_put, numbered_whole, same_riders, same_behind}
use Rattle.derivation.specs.Apart.{lefts, rights}
use Rattle.derivation.specs.Rule.{InferenceRule, AreSame, IsMostGeneralFamily, Concludes}
use Rattle.derivation.proofs.Conclusions.{IsNatural}
use Rattle.derivation.proofs.Lawful.{IsLawfulRule}
use Rattle.derivation.proofs.Spread.{same_pairs, pairs_same, behind_apart, all_twice, all_same}
use Rattle.fol_core.specs.Literals.{Lit, ClauseTree}
use Rattle.fol_core.specs.Renumbered.{renumbered}
use Rattle.fol_core.specs.Substitutions.{Substitution}
use Rattle.substitutions.specs.Apart.{Own, instances, interleaved, AreRenamedApart}
use Rattle.substitutions.specs.Instances.{substitute_literal, substitute_clause, followed}
use Rattle.substitutions.proofs.Composing.{substitute_twice_clause, other_literals}
use Rattle.substitutions.proofs.Interleaving.{interleaving_is_apart}
use Rattle.substitutions.proofs.Variants.{instances_same}
use Rattle.unifiers.specs.Unifier.{IsMostGeneral}

plain_family : (r : InferenceRule) (cs : List ClauseTree) (answers : List (List Answer)) (own : Own) → IsMostGeneralWith r cs answers own → IsMostGeneralFamily r cs own
plain_family r cs answers own most = record { unifies = most.unifies; general = λ other h. let g = most.general other h in (g.0, g.1) }

-- without its answers it is a plain conclusion
pub concludes_plain : (r : InferenceRule) (cs : List ClauseTree) (answers : List (List Answer)) (c : ClauseTree) (us : List Answer) → ConcludesWith r cs answers c us → Concludes r cs c
concludes_plain r cs answers c us (own, most, is, are) = (own, plain_family r cs answers own most, is ∙ numbered_is (r.rest (instances own cs)) (together own answers))

-- clauses with answers that are instances of each other are numbered alike
pub numbered_alike : (c d : ClauseTree) (us bs : List Answer) (s u : Substitution) → d ≡ substitute_clause s c → bs ≡ substitute_answers s us → c ≡ substitute_clause u d → us ≡ substitute_answers u bs
    → IsSame c us d bs
numbered_alike c d us bs s u onward and back too =
    let clauses : numbered_clause c us ≡ numbered_clause d bs = numbered_is c us ∙ instances_same c d s u onward back ∙ sym (numbered_is d bs) in
    let wholes : renumbered (whole c us) ≡ renumbered (whole d bs) = instances_same (whole c us) (whole d bs) s u (ap₂ whole onward and ∙ whole_put s c us) (ap₂ whole back too ∙ whole_put u d bs) in
    let behind : riders (numbered_answers c us) ≡ riders (numbered_answers d bs) =
    same_behind (numbered_clause c us) (numbered_clause d bs) (riders (numbered_answers c us)) (riders (numbered_answers d bs)) clauses (sym (numbered_whole c us) ∙ wholes ∙ numbered_whole d bs) in
    let led : numbered_answers d bs ≡ substitute_answers (followed s (numbering d bs)) us = ap (substitute_answers (numbering d bs)) and ∙ answers_twice s (numbering d bs) us in
    (clauses, same_riders (numbering c us) (followed s (numbering d bs)) us (behind ∙ ap riders led) ∙ sym led)

-- the conclusion is one
pub one_conclusion_with : (r : InferenceRule) → IsLawfulRule r → IsNatural r → (cs : List ClauseTree) (answers : List (List Answer)) (c d : ClauseTree) (us bs : List Answer) → IsTrue (r.fits cs)
    → ConcludesWith r cs answers c us → ConcludesWith r cs answers d bs → (c ≡ d) × (us ≡ bs)
one_conclusion_with r law natural cs answers c d us bs fits (own, general, is, are) (other, most, was, were) =
    let there = general.general other most.unifies in
    let back = most.general own general.unifies in
    let same = numbered_alike (r.rest (instances own cs)) (r.rest (instances other cs)) (together own answers) (together other answers) there.0 back.0
    (ap r.rest there.1 ∙ natural.rest there.0 (instances own cs) (law.kept own cs fits)) there.2
    (ap r.rest back.1 ∙ natural.rest back.0 (instances other cs) (law.kept other cs fits)) back.2 in
    (is ∙ same.0 ∙ sym was, are ∙ ap each_once same.1 ∙ sym were)

instances_twice : (to other : Own) (cs : List ClauseTree) → instances other (instances to cs) ≡ instances (λ k. followed (to k) (other k)) cs
instances_twice to other [] = refl
instances_twice to other (c ∷ cs) = ap₂ (λ d ds. d ∷ ds) (substitute_twice_clause (to 0) (other 0) c) (instances_twice (λ k. to (suc k)) (λ k. other (suc k)) cs)

together_twice : (to other : Own) (answers : List (List Answer)) → together other (instances_of_answers to answers) ≡ together (λ k. followed (to k) (other k)) answers
together_twice to other [] = refl
together_twice to other (us ∷ answers) = ap₂ (λ x y. x ++ y) (answers_twice (to 0) (other 0) us) (together_twice (λ k. to (suc k)) (λ k. other (suc k)) answers)

-- the same is concluded of the instances
pub instances_conclude : (r : InferenceRule) (cs : List ClauseTree) (answers : List (List Answer)) (own to back : Own) → IsMostGeneralWith r cs answers own
    → instances back (instances to cs) ≡ instances own cs → together back (instances_of_answers to answers) ≡ together own answers
    → ConcludesWith r (instances to cs) (instances_of_answers to answers) (numbered_clause (r.rest (instances own cs)) (together own answers))
    (each_once (numbered_answers (r.rest (instances own cs)) (together own answers)))
instances_conclude r cs answers own to back most clauses behind = (
  back,
  record {
    unifies = subst (λ ds. AreSame (r.pairs ds)) (sym clauses) most.unifies;
    general = λ other h.
        let g = most.general (λ k. followed (to k) (other k)) (subst (λ ds. AreSame (r.pairs ds)) (instances_twice to other cs) h) in (
          g.0,
          instances_twice to other cs ∙ g.1 ∙ ap (map (substitute_clause g.0)) (sym clauses),
          together_twice to other answers ∙ g.2 ∙ ap (substitute_answers g.0) (sym behind),
        );
  },
  ap₂ (λ ds bs. numbered_clause (r.rest ds) bs) (sym clauses) (sym behind),
  ap₂ (λ ds bs. each_once (numbered_answers (r.rest ds) bs)) (sym clauses) (sym behind),
)

pub together_behind : (s : Substitution) (apart : Own) (answers : List (List Answer)) → together (λ k. followed (apart k) s) answers ≡ substitute_answers s (together apart answers)
together_behind s apart [] = refl
together_behind s apart (us ∷ answers) = ap₂ (λ x y. x ++ y) (sym (answers_twice (apart 0) s us)) (together_behind s (λ k. apart (suc k)) answers)
    ∙ sym (answers_both s (substitute_answers (apart 0) us) (together (λ k. apart (suc k)) answers))

-- a most general unifier of clauses that are renamed apart, with their answers, is a most general family behind their names
pub family_apart_with : (r : InferenceRule) → IsLawfulRule r → IsNatural r → (cs : List ClauseTree) (answers : List (List Answer)) (apart : Own) (s : Substitution) → AreApartWith cs answers apart → IsTrue (r.fits cs)
    → IsMostGeneral s (lefts (r.pairs (instances apart cs))) (rights (r.pairs (instances apart cs))) → IsMostGeneralWith r cs answers (λ k. followed (apart k) s)
family_apart_with r law natural cs answers apart s renamed fits general =
    let is = behind_apart s apart cs in
    let are = together_behind s apart answers in
    let kept = law.kept apart cs fits in
    record {
      unifies = subst AreSame (sym (ap r.pairs is ∙ natural.pairs s (instances apart cs) kept)) (same_pairs s (r.pairs (instances apart cs)) general.unifies);
      general = λ other h.
          let one = renamed other in
          let covered = general.covers one.0 (pairs_same one.0 (r.pairs (instances apart cs)) (subst AreSame (ap r.pairs one.1 ∙ natural.pairs one.0 (instances apart cs) kept) h)) in (
            covered.0,
            one.1 ∙ all_same one.0 (followed s covered.0) (instances apart cs) covered.1 ∙ sym (all_twice s covered.0 (instances apart cs)) ∙ ap (map (substitute_clause covered.0)) (sym is),
            one.2 ∙ answers_alike one.0 (followed s covered.0) (together apart answers) (λ x i. covered.1 x) ∙ sym (answers_twice s covered.0 (together apart answers))
                ∙ ap (substitute_answers covered.0) (sym are),
          );
    }

-- so it makes the conclusion
pub concludes_apart_with : (r : InferenceRule) → IsLawfulRule r → IsNatural r → (cs : List ClauseTree) (answers : List (List Answer)) (apart : Own) (s : Substitution) → AreApartWith cs answers apart → IsTrue (r.fits cs)
    → IsMostGeneral s (lefts (r.pairs (instances apart cs))) (rights (r.pairs (instances apart cs)))
    → ConcludesWith r cs answers (numbered_clause (substitute_clause s (r.rest (instances apart cs))) (substitute_answers s (together apart answers)))
    (each_once (numbered_answers (substitute_clause s (r.rest (instances apart cs))) (substitute_answers s (together apart answers))))
concludes_apart_with r law natural cs answers apart s renamed fits general =
    let are = together_behind s apart answers in
    let rest : r.rest (instances (λ k. followed (apart k) s) cs) ≡ substitute_clause s (r.rest (instances apart cs)) =
    ap r.rest (behind_apart s apart cs) ∙ natural.rest s (instances apart cs) (law.kept apart cs fits) in (
      λ k. followed (apart k) s,
      family_apart_with r law natural cs answers apart s renamed fits general,
      ap₂ numbered_clause (sym rest) (sym are),
      ap₂ (λ d bs. each_once (numbered_answers d bs)) (sym rest) (sym are),
    )

first_of : (c d : ClauseTree) (cs ds : List ClauseTree) → c ∷ cs ≡ d ∷ ds → c ≡ d
first_of c d cs ds h = cc

rest_of : (c d : ClauseTree) (cs ds : List ClauseTree) → c ∷ cs ≡ d ∷ ds → cs ≡ ds
rest_of c d cs ds h = cc

-- equal instances of a whole clause are equal ones of the clause and of its answers
parts_same : (s u : Substitution) (c : ClauseTree) (us : List Answer) → whole (substitute_clause s c) (substitute_answers s us) ≡ whole (substitute_clause u c) (substitute_answers u us)
    → (substitute_clause s c ≡ substitute_clause u c) × (substitute_answers s us ≡ substitute_answers u us)
parts_same s u [] us h = (refl, same_riders s u us h)
parts_same s u (l ∷ c) us h =
    let first = first_literal (substitute_literal s l) (substitute_literal u l) (whole (substitute_clause s c) (substitute_answers s us)) (whole (substitute_clause u c) (substitute_answers u us)) h in
    let rest = parts_same s u c us (other_literals (substitute_literal s l) (substitute_literal u l) (whole (substitute_clause s c) (substitute_answers s us)) (whole (substitute_clause u c) (substitute_answers u us)) h) in
    (ap₂ (λ k d. k ∷ d) first rest.0, rest.1)
  where
    first_literal : (l k : Lit) (c d : ClauseTree) → l ∷ c ≡ k ∷ d → l ≡ k
    first_literal l k c d h = cc

-- so of several, where the second are those of one substitution behind a family
all_parts_same : (other apart : Own) (s : Substitution) (cs : List ClauseTree) (answers : List (List Answer)) → AreAsMany cs answers
    → instances other (wholes cs answers) ≡ map (substitute_clause s) (instances apart (wholes cs answers))
    → (instances other cs ≡ map (substitute_clause s) (instances apart cs)) × (together other answers ≡ substitute_answers s (together apart answers))
all_parts_same other apart s [] [] many h = (refl, refl)
all_parts_same other apart s [] (us ∷ answers) many h = absurd many
all_parts_same other apart s (c ∷ cs) [] many h = absurd many
all_parts_same other apart s (c ∷ cs) (us ∷ answers) many h =
    let behind : Own = λ k. other (suc k) in
    let after : Own = λ k. apart (suc k) in
    let w = substitute_clause (other 0) (whole c us) in
    let v = substitute_clause s (substitute_clause (apart 0) (whole c us)) in
    let ws = instances behind (wholes cs answers) in
    let vs = map (substitute_clause s) (instances after (wholes cs answers)) in
    let both = followed (apart 0) s in
    let parts = parts_same (other 0) both c us (whole_put (other 0) c us ∙ first_of w v ws vs h ∙ substitute_twice_clause (apart 0) s (whole c us) ∙ sym (whole_put both c us)) in
    let rest = all_parts_same behind after s cs answers many (rest_of w v ws vs h) in (
      ap₂ (λ d ds. d ∷ ds) (parts.0 ∙ sym (substitute_twice_clause (apart 0) s c)) rest.0,
      ap₂ (λ x y. x ++ y) (parts.1 ∙ sym (answers_twice (apart 0) s us)) rest.1 ∙ sym (answers_both s (substitute_answers (apart 0) us) (together after answers)),
    )

pub wholes_apart : WholesApart
wholes_apart cs answers apart many renamed other =
    let one = renamed other in
    let parts = all_parts_same other apart one.0 cs answers many one.1 in
    (one.0, parts.0, parts.1)

as_many : (cs : List ClauseTree) (answers : List (List Answer)) → AreAsMany cs answers → length (wholes cs answers) ≡ length cs
as_many [] [] many = refl
as_many [] (us ∷ answers) many = absurd many
as_many (c ∷ cs) [] many = absurd many
as_many (c ∷ cs) (us ∷ answers) many = ap suc (as_many cs answers many)

pub interleaved_apart : InterleavedAreApart
interleaved_apart cs answers many =
    wholes_apart cs answers (interleaved (length cs)) many (subst (λ n. AreRenamedApart (wholes cs answers) (interleaved n)) (as_many cs answers many) (interleaving_is_apart (wholes cs answers)))
