-- A clause with answers as literals behind.
use Rattle.std.proofs.Common.{◌≡◌, ℕ, zero, suc, ◌+◌, ◌-◌, ◌<◌, ◌≤◌, true, List, [], ◌∷◌, ◌++◌, length, map, take, drop, slice_index_or, refl, sym, ap, ap₂, ◌∙◌, subst, arith, append_assoc, length-append}
use Rattle.std.specs.Borrow.{Bor}
use Rattle.std.proofs.lemmas.List.{length-map, map-append, drop_at, take_all, take_at, take_more}
use Rattle.answers.specs.AnswerTrees.{Answer, substitute_answer, substitute_answers}
use Rattle.answers.specs.AnswerView.{answer_of, answers_of}
use Rattle.answers.specs.Packed.{packed, unpacked}
use Rattle.answers.specs.declared.answer.Answer as code
use Rattle.carried_answers.specs.Carried.{carried, lent_answers}
use Rattle.carried_answers.specs.Whole.{EndsWithAnswers, carried_in}
use Rattle.fol_core.specs.Literals.{ClauseTree, Lit, literal}
use Rattle.fol_core.specs.Substitutions.{Substitution}
use Rattle.fol_core.specs.Tree.{Tree, app, trees_of}
use Rattle.substitutions.specs.Instances.{substitute_clause}

-- an answer as a literal
abbrev pub packed_one : Answer → Lit
packed_one a = literal true (app a.goal a.terms)

pub many_packed : (us : List Answer) → length (packed us) ≡ length us
many_packed us = length-map us packed_one

pub packed_both : (us vs : List Answer) → packed (us ++ vs) ≡ packed us ++ packed vs
packed_both us vs = map-append packed_one us vs

pub unpacked_packed : (us : List Answer) → unpacked (packed us) ≡ us
unpacked_packed [] = refl
unpacked_packed (a ∷ us) = ap (λ vs. a ∷ vs) (unpacked_packed us)

pub same_packed : (us vs : List Answer) → packed us ≡ packed vs → us ≡ vs
same_packed us vs h = sym (unpacked_packed us) ∙ ap unpacked h ∙ unpacked_packed vs

pub packed_put : (s : Substitution) (us : List Answer) → substitute_clause s (packed us) ≡ packed (substitute_answers s us)
packed_put s [] = refl
packed_put s (a ∷ us) = ap (λ c. packed_one (substitute_answer s a) ∷ c) (packed_put s us)

-- what a whole with so many answers holds
pub carried_is : (whole c : ClauseTree) (us : List Answer) (n : ℕ) → whole ≡ c ++ packed us → n ≡ length us → carried_in whole n ≡ carried c us
carried_is whole c us n is many =
    let long : length whole - n ≡ length c = let e = ap length is ∙ length-append c (packed us) in let k = many_packed us in omega (arith, e, k, many) in
    ap₂ carried
    (ap₂ take long is ∙ take_at c (packed us) (length c) refl)
    (ap unpacked (ap₂ drop long is ∙ drop_at c (packed us) (length c) refl) ∙ unpacked_packed us)

pub ends_with : (whole c : ClauseTree) (us : List Answer) (n : ℕ) → whole ≡ c ++ packed us → n ≡ length us → EndsWithAnswers whole n
ends_with whole c us n is many =
    let same = carried_is whole c us n is many in record {
      parts = is ∙ sym (ap (λ a. a.clause ++ packed a.answers) same);
      many = many ∙ sym (ap (λ a. length a.answers) same);
    }

pub nothing_behind : (whole : ClauseTree) → EndsWithAnswers whole 0
nothing_behind whole = ends_with whole whole [] 0 (sym (nil whole)) refl
  where
    nil : (c : ClauseTree) → c ++ [] ≡ c
    nil [] = refl
    nil (l ∷ c) = ap (λ d. l ∷ d) (nil c)

-- answers of the code, one more
pub pack_next : (us : List code.Answer) (i : ℕ) (u : code.Answer) (ts : List Tree) (old c new : ClauseTree) → i < length us → u ≡ slice_index_or us i u → c ≡ old ++ packed (answers_of (take i us)) → ts ≡ u.terms → new ≡ c ++ literal true (app u.goal (trees_of ts)) ∷ []
    → new ≡ old ++ packed (answers_of (take (i + 1) us))
pack_next us i u ts old c new h at before copied is =
    is ∙ ap₂ (λ d vs. d ++ literal true (app u.goal (trees_of vs)) ∷ []) before copied ∙ append_assoc old (packed (answers_of (take i us))) (packed_one (answer_of u) ∷ [])
    ∙ ap (λ d. old ++ d) (sym (packed_both (answers_of (take i us)) (answer_of u ∷ [])) ∙ ap packed (sym (map-append answer_of (take i us) (u ∷ [])) ∙ ap answers_of (sym (take_more us i u h ∙ ap (λ v. take i us ++ v ∷ []) (sym at)))))

pub pack_end : (us : List code.Answer) (i : ℕ) (old c : ClauseTree) → length us ≤ i → c ≡ old ++ packed (answers_of (take i us)) → c ≡ old ++ packed (answers_of us)
pack_end us i old c h is = is ∙ ap (λ vs. old ++ packed (answers_of vs)) (take_all i us h)

pub lists_next : (lists : List (Bor (List code.Answer))) (i : ℕ) (us : Bor (List code.Answer)) (cs new : List ClauseTree) (c : ClauseTree) → i < length lists → us ≡ slice_index_or lists i us → cs ≡ map packed (lent_answers (take i lists)) → c ≡ packed (answers_of us.now) → new ≡ cs ++ c ∷ []
    → new ≡ map packed (lent_answers (take (i + 1) lists))
lists_next lists i us cs new c h at before one is =
    is ∙ ap₂ (λ ds d. ds ++ d ∷ []) before one ∙ sym (map-append packed (lent_answers (take i lists)) (answers_of us.now ∷ []))
    ∙ ap (map packed) (sym (map-append (λ (b : Bor (List code.Answer)). answers_of b.now) (take i lists) (us ∷ [])) ∙ ap lent_answers (sym (take_more lists i us h ∙ ap (λ v. take i lists ++ v ∷ []) (sym at))))

pub lists_end : (lists : List (Bor (List code.Answer))) (i : ℕ) (cs : List ClauseTree) → length lists ≤ i → cs ≡ map packed (lent_answers (take i lists)) → cs ≡ map packed (lent_answers lists)
lists_end lists i cs h is = is ∙ ap (λ ls. map packed (lent_answers ls)) (take_all i lists h)
