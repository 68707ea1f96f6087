-- Clauses with answers as literals behind that are the same, but for the numbers of variables.
use Rattle.std.proofs.Common.{◌≡◌, ◌↔◌, ℕ, ◌+◌, ◌==◌, Bool, true, false, ◌&&◌, IsTrue, IfOk, Result, Ok, Err, List, [], ◌∷◌, ◌++◌, length, refl, sym, ap, ap₂, ◌∙◌, subst, arith, length-append}
use Rattle.std.proofs.lemmas.Bool.{and_from, eq-eqb, false≢true}
use Rattle.std.proofs.lemmas.List.{length-map, map-append}
use Rattle.answers.specs.AnswerTrees.{Answer, IsSame, each_once, numbered_answers, numbered_clause, numbering, substitute_answer, substitute_answers}
use Rattle.answers.specs.Packed.{packed}
use Rattle.answers.proofs.Packing.{whole_variables}
use Rattle.answered_lines.proofs.AnswerInstances.{answers_led, answers_twice, clause_led, leading, unnumbered}
use Rattle.answered_lines.proofs.Conclusions.{numbered_alike}
use Rattle.carried_answers.specs.Whole.{EndsWithAnswers, carried_in}
use Rattle.carried_answers.proofs.Once.{once_put}
use Rattle.carried_answers.proofs.WholeSteps.{many_packed, packed_put, same_packed}
use Rattle.clause_limits.specs.Sizes.{clause_depth, clause_size}
use Rattle.clause_limits.specs.declared.measured.Measure.{Measure}
use Rattle.clause_limits.proofs.Numbered.{numbered_depth, numbered_size}
use Rattle.fol_core.specs.Literals.{ClauseTree, Lit}
use Rattle.fol_core.specs.Renumbered.{by_place, renumbered}
use Rattle.fol_core.specs.Sizes.{saturated}
use Rattle.inference.specs.Measured.{clause_measured}
use Rattle.substitutions.specs.Instances.{substitute_clause, substitute_literal}
use Rattle.substitutions.proofs.Composing.{substitute_twice_clause}

-- clauses that are the same are as large
pub measured_alike : (c d : ClauseTree) → renumbered c ≡ renumbered d → clause_measured c ≡ clause_measured d
measured_alike c d same =
    ap₂ (λ (m n : ℕ). record { size = saturated m; depth = saturated n })
    (sym (numbered_size c) ∙ ap clause_size same ∙ numbered_size d)
    (sym (numbered_depth c) ∙ ap clause_depth same ∙ numbered_depth d)

pub as_large : (c d : ClauseTree) (m n : Measure) → m ≡ clause_measured c → n ≡ clause_measured d → renumbered c ≡ renumbered d → m ≡ n
as_large c d m n is that same = is ∙ measured_alike c d same ∙ sym that

-- a clause and its answers numbered as one
pub numbered_both : (c : ClauseTree) (us : List Answer) → renumbered (c ++ packed us) ≡ numbered_clause c us ++ packed (numbered_answers c us)
numbered_both c us =
    ap (λ xs. substitute_clause (by_place xs) (c ++ packed us)) (whole_variables c us)
    ∙ map-append (substitute_literal (numbering c us)) c (packed us)
    ∙ ap (λ d. numbered_clause c us ++ d) (packed_put (numbering c us) us)

split : (x y u v : ClauseTree) → length x ≡ length y → x ++ u ≡ y ++ v → (x ≡ y) × (u ≡ v)
split [] [] u v long h = (refl, h)
split [] (m ∷ y) u v long h = absurd (omega (arith, long))
split (l ∷ x) [] u v long h = absurd (omega (arith, long))
split (l ∷ x) (m ∷ y) u v long h =
    let first : l ≡ m = cc in
    let rest : x ++ u ≡ y ++ v = cc in
    let parts = split x y u v (omega (arith, long)) rest in
    (ap₂ (λ k z. k ∷ z) first parts.0, parts.1)

pub split_behind : (x y u v : ClauseTree) → length u ≡ length v → x ++ u ≡ y ++ v → (x ≡ y) × (u ≡ v)
split_behind x y u v long h =
    split x y u v (let e = sym (length-append x u) ∙ ap length h ∙ length-append y v in omega (arith, long, e)) h

many_numbered : (c : ClauseTree) (us : List Answer) → length (numbered_answers c us) ≡ length us
many_numbered c us = length-map us (substitute_answer (numbering c us))

pub same_wholes : (c d : ClauseTree) (us bs : List Answer) → length us ≡ length bs → renumbered (c ++ packed us) ≡ renumbered (d ++ packed bs) → IsSame c us d bs
same_wholes c d us bs many same =
    let parts = split_behind (numbered_clause c us) (numbered_clause d bs) (packed (numbered_answers c us)) (packed (numbered_answers d bs))
    (many_packed (numbered_answers c us) ∙ many_numbered c us ∙ many ∙ sym (many_numbered d bs) ∙ sym (many_packed (numbered_answers d bs)))
    (sym (numbered_both c us) ∙ same ∙ numbered_both d bs) in
    (parts.0, same_packed (numbered_answers c us) (numbered_answers d bs) parts.1)

pub wholes_same : (c d : ClauseTree) (us bs : List Answer) → IsSame c us d bs → renumbered (c ++ packed us) ≡ renumbered (d ++ packed bs)
wholes_same c d us bs same = numbered_both c us ∙ ap₂ (λ x y. x ++ packed y) same.0 same.1 ∙ sym (numbered_both d bs)

pub as_many : (c d : ClauseTree) (us bs : List Answer) → IsSame c us d bs → length us ≡ length bs
as_many c d us bs same = sym (many_numbered c us) ∙ ap length same.1 ∙ many_numbered d bs

-- with the last so many literals of one as answers
pub is_same : (c whole given : ClauseTree) (us : List Answer) (n : ℕ) (b : Bool) → EndsWithAnswers whole n → length us ≡ n → given ≡ c ++ packed us → IsTrue b ↔ (renumbered given ≡ renumbered whole)
    → IsTrue b ↔ IsSame c us (carried_in whole n).clause (carried_in whole n).answers
is_same c whole given us n b ends many is same =
    let d : ClauseTree = (carried_in whole n).clause in
    let bs : List Answer = (carried_in whole n).answers in (
      λ t. same_wholes c d us bs (many ∙ ends.many) (ap renumbered (sym is) ∙ same.0 t ∙ ap renumbered ends.parts),
      λ e. same.1 (ap renumbered is ∙ wholes_same c d us bs e ∙ ap renumbered (sym ends.parts)),
    )

pub is_other : (c whole : ClauseTree) (us : List Answer) (n : ℕ) → EndsWithAnswers whole n → (length us ≡ n → ⊥) → IsTrue false ↔ IsSame c us (carried_in whole n).clause (carried_in whole n).answers
is_other c whole us n ends other = (λ t. absurd (false≢true t), λ e. absurd (other (as_many c (carried_in whole n).clause us (carried_in whole n).answers e ∙ sym ends.many)))

-- each once, they stay the same
pub same_once : (c d : ClauseTree) (us bs : List Answer) → IsSame c us d bs → IsSame c (each_once us) d (each_once bs)
same_once c d us bs same =
    let back : IsSame d bs c us = (sym same.0, sym same.1) in
    let s = leading c us d bs in
    let u = leading d bs c us in
    let there : bs ≡ substitute_answers s us = answers_led d bs c us back in
    let here : us ≡ substitute_answers u bs = answers_led c us d bs same in
    numbered_alike c d (each_once us) (each_once bs) s u (clause_led d bs c us back)
    (ap each_once there ∙ once_put s u us (ap (substitute_answers u) (sym there) ∙ sym here))
    (clause_led c us d bs same)
    (ap each_once here ∙ once_put u s bs (ap (substitute_answers s) (sym here) ∙ sym there))

pub numbered_self : (c : ClauseTree) (us : List Answer) → IsSame c us (numbered_clause c us) (numbered_answers c us)
numbered_self c us =
    numbered_alike c (numbered_clause c us) us (numbered_answers c us) (numbering c us) (unnumbered c us) refl refl
    (clause_led c us c us (refl, refl) ∙ sym (substitute_twice_clause (numbering c us) (unnumbered c us) c))
    (answers_led c us c us (refl, refl) ∙ sym (answers_twice (numbering c us) (unnumbered c us) us))

pub same_size : (c d : ClauseTree) (m n : Measure) → m ≡ clause_measured c → n ≡ clause_measured d → renumbered c ≡ renumbered d → IsTrue (m.size == n.size)
same_size c d m n is that same = eq-eqb m.size n.size (ap (λ (x : Measure). x.size) (as_large c d m n is that same))

pub same_depth : (c d : ClauseTree) (m n : Measure) → m ≡ clause_measured c → n ≡ clause_measured d → renumbered c ≡ renumbered d → IsTrue (m.depth == n.depth)
same_depth c d m n is that same = eq-eqb m.depth n.depth (ap (λ (x : Measure). x.depth) (as_large c d m n is that same))

pub result_same : {E : Type 0} (r : Result Bool E) (c whole given : ClauseTree) (us : List Answer) (n : ℕ) → EndsWithAnswers whole n → length us ≡ n → given ≡ c ++ packed us → IfOk r (λ b. IsTrue b ↔ (renumbered given ≡ renumbered whole))
    → IfOk r (λ b. IsTrue b ↔ IsSame c us (carried_in whole n).clause (carried_in whole n).answers)
result_same (Ok b) c whole given us n ends many is same = is_same c whole given us n b ends many is same
result_same (Err x) c whole given us n ends many is same = tt
