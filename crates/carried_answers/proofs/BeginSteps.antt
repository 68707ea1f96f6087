-- What a rule makes of its parents and their answers.
use Rattle.std.proofs.Common.{◌≡◌, inl, inr, ℕ, zero, suc, ◌+◌, ◌-◌, ◌<◌, ◌≤◌, Bool, true, false, IsTrue, List, [], ◌∷◌, ◌++◌, length, map, take, drop, slice_index_or, Option, Some, None, refl, sym, ap, ap₂, ◌∙◌, subst, arith, append_assoc, length-append}
use Rattle.std.proofs.lemmas.Bool.{false≢true}
use Rattle.std.proofs.lemmas.List.{length-map, map-append, take_all, take_more}
use Rattle.answered_lines.specs.Laws.{AreAsMany}
use Rattle.answered_lines.specs.Steps.{ConcludesWith, IsMostGeneralWith, together}
use Rattle.answered_lines.proofs.Conclusions.{family_apart_with, interleaved_apart}
use Rattle.answers.specs.AnswerTrees.{Answer, IsSame, each_once, numbered_answers, numbered_clause, substitute_answers}
use Rattle.answers.specs.Packed.{answer_in, packed, unpacked}
use Rattle.carried_answers.specs.Begun.{IsBegun, each_whole}
use Rattle.carried_answers.specs.Carried.{FirstAs, carried}
use Rattle.carried_answers.specs.Whole.{EndsWithAnswers, carried_in}
use Rattle.carried_answers.proofs.CompareSteps.{numbered_self, same_once, same_wholes, split_behind}
use Rattle.carried_answers.proofs.WholeSteps.{carried_is, ends_with, many_packed, packed_both, packed_one, packed_put}
use Rattle.derivation.specs.Lines.{FirstWord}
use Rattle.fol_core.specs.Literals.{ClauseTree, Lit, literal}
use Rattle.fol_core.specs.Renumbered.{by_place, clause_variables, place_in, renumbered}
use Rattle.fol_core.specs.Substitutions.{Substitution, substitute}
use Rattle.fol_core.specs.Tree.{Tree, app, elem, var}
use Rattle.inference.specs.Applied.{ArePremises}
use Rattle.inference.specs.Judged.{rule_by}
use Rattle.inference.specs.Left.{LeftTree, all_left, all_whole, left_clause, left_literal}
use Rattle.inference.proofs.JudgeSteps.{lawful_by}
use Rattle.inference.specs.declared.applied.Premises.{Premises}
use Rattle.substitutions.specs.Apart.{Own, instances, interleaved}
use Rattle.substitutions.specs.Bindings.{by_bindings}
use Rattle.substitutions.specs.Instances.{AreVariants, substitute_clause, substitute_literal}
use Rattle.term_unifiers.specs.Renamed.{own_among}

-- the literals of a clause that are left
pub left_both : (own : Own) (xs ys : List LeftTree) → left_clause own (xs ++ ys) ≡ left_clause own xs ++ left_clause own ys
left_both own xs ys = map-append (left_literal own) xs ys

left_packed : (own : Own) (k : ℕ) (us : List Answer) → left_clause own (all_whole k (packed us)) ≡ packed (substitute_answers (own k) us)
left_packed own k [] = refl
left_packed own k (a ∷ us) = ap (λ c. literal true (substitute (own k) (app a.goal a.terms)) ∷ c) (left_packed own k us)

left_each : (own other : Own) (k : ℕ) (lists : List (List Answer)) → ((j : ℕ) → own (k + j) ≡ other j) → left_clause own (each_whole k (map packed lists)) ≡ packed (together other lists)
left_each own other k [] same = refl
left_each own other k (us ∷ lists) same =
    left_both own (all_whole k (packed us)) (each_whole (suc k) (map packed lists))
    ∙ ap₂ (λ x y. x ++ y)
    (left_packed own k us ∙ ap (λ s. packed (substitute_answers s us)) (ap own (let e : k ≡ k + 0 = omega arith in e) ∙ same 0))
    (left_each own (λ j. other (suc j)) (suc k) lists (λ j. ap own (let e : suc k + j ≡ k + suc j = omega arith in e) ∙ same (suc j)))
    ∙ sym (packed_both (substitute_answers (other 0) us) (together (λ j. other (suc j)) lists))

pub left_all : (own : Own) (ls all : List LeftTree) (lists : List (List Answer)) → all ≡ ls ++ each_whole 0 (map packed lists) → left_clause own all ≡ left_clause own ls ++ packed (together own lists)
left_all own ls all lists is =
    ap (left_clause own) is ∙ left_both own ls (each_whole 0 (map packed lists))
    ∙ ap (λ c. left_clause own ls ++ c) (left_each own own 0 lists (λ j. ap own (let e : 0 + j ≡ j = omega arith in e)))

-- literals that are answers under other names are answers
one_packed : (name : ℕ → ℕ) (l : Lit) (a : Answer) → literal l.positive (substitute (λ x. var (name x)) l.atom) ≡ packed_one a → l ∷ [] ≡ packed (unpacked (l ∷ []))
one_packed name l a h = by l.positive l.atom h
  where
    by : (p : Bool) (t : Tree) → literal p (substitute (λ x. var (name x)) t) ≡ packed_one a → literal p t ∷ [] ≡ packed (unpacked (literal p t ∷ []))
    by p (var x) e = let f : var (name x) ≡ app a.goal a.terms = ap (λ (k : Lit). k.atom) e in absurd (cc)
    by p (elem k) e = let f : elem k ≡ app a.goal a.terms = ap (λ (m : Lit). m.atom) e in absurd (cc)
    by true (app g ts) e = refl
    by false (app g ts) e = let f : false ≡ true = ap (λ (k : Lit). k.positive) e in absurd (false≢true f)

pub were_packed : (name : ℕ → ℕ) (d : ClauseTree) (us : List Answer) → substitute_clause (λ x. var (name x)) d ≡ packed us → d ≡ packed (unpacked d)
were_packed name [] us h = refl
were_packed name (l ∷ d) [] h = absurd (cc)
were_packed name (l ∷ d) (a ∷ us) h =
    let first : literal l.positive (substitute (λ x. var (name x)) l.atom) ≡ packed_one a = cc in
    let rest : substitute_clause (λ x. var (name x)) d ≡ packed us = cc in
    ap₂ (λ x y. x ++ y) (one_packed name l a first) (were_packed name d us rest)
    ∙ sym (packed_both (unpacked (l ∷ [])) (unpacked d))
    ∙ ap packed (nil_front l d)
  where
    nil_front : (l : Lit) (d : ClauseTree) → unpacked (l ∷ []) ++ unpacked d ≡ unpacked (l ∷ d)
    nil_front l d = ap (λ us. us ++ unpacked d) (nil_behind (answer_in l.atom))
      where
        nil_behind : (us : List Answer) → us ++ [] ≡ us
        nil_behind [] = refl
        nil_behind (a ∷ us) = ap (λ vs. a ∷ vs) (nil_behind us)

-- a variant of a clause with answers behind is one
pub record Parts (whole x : ClauseTree) (us : List Answer) : Type 0 where
  pub clause : ClauseTree
  pub answers : List Answer
  pub whole_is : whole ≡ clause ++ packed answers
  pub as_long : length clause ≡ length x
  pub as_many : length answers ≡ length us

cut : (c : ClauseTree) (n : ℕ) → c ≡ take n c ++ drop n c
cut [] zero = refl
cut [] (suc n) = refl
cut (l ∷ c) zero = refl
cut (l ∷ c) (suc n) = ap (λ d. l ∷ d) (cut c n)

long_cut : (c : ClauseTree) (n : ℕ) → n ≤ length c → length (take n c) ≡ n
long_cut [] zero h = refl
long_cut [] (suc n) h = absurd (omega (arith, h))
long_cut (l ∷ c) zero h = refl
long_cut (l ∷ c) (suc n) h = ap suc (long_cut c n (omega (arith, h)))

pub variant_parts : (whole x : ClauseTree) (us : List Answer) → AreVariants whole (x ++ packed us) → Parts whole x us
variant_parts whole x us same =
    let s : Substitution = by_place (clause_variables whole) in
    let t : Substitution = by_place (clause_variables (x ++ packed us)) in
    let n : ℕ = length x in
    let long : length whole ≡ length x + length us =
    sym (length-map whole (substitute_literal s)) ∙ ap length same ∙ length-map (x ++ packed us) (substitute_literal t) ∙ length-append x (packed us) ∙ ap (λ m. length x + m) (many_packed us) in
    let front : length (take n whole) ≡ length x = long_cut whole n (omega (arith, long)) in
    let back : length (drop n whole) ≡ length us =
    let e = ap length (cut whole n) ∙ length-append (take n whole) (drop n whole) in omega (arith, e, long, front) in
    let halves =
    split_behind (substitute_clause s (take n whole)) (substitute_clause t x) (substitute_clause s (drop n whole)) (substitute_clause t (packed us))
    (length-map (drop n whole) (substitute_literal s) ∙ back ∙ sym (many_packed us) ∙ sym (length-map (packed us) (substitute_literal t)))
    (sym (map-append (substitute_literal s) (take n whole) (drop n whole)) ∙ ap (substitute_clause s) (sym (cut whole n)) ∙ same ∙ map-append (substitute_literal t) x (packed us)) in
    let packs : drop n whole ≡ packed (unpacked (drop n whole)) = were_packed (place_in (clause_variables whole)) (drop n whole) (substitute_answers t us) (halves.1 ∙ packed_put t us) in
    record {
      clause = take n whole;
      answers = unpacked (drop n whole);
      whole_is = cut whole n ∙ ap (λ d. take n whole ++ d) packs;
      as_long = front;
      as_many = sym (many_packed (unpacked (drop n whole))) ∙ sym (ap length packs) ∙ back;
    }

-- what is begun, when the answers behind stand each once
pub begun : (own : Own) (ls all : List LeftTree) (lists : List (List Answer)) (first n : ℕ) (whole kept : ClauseTree) → all ≡ ls ++ each_whole 0 (map packed lists) → AreVariants whole (left_clause own all) → first ≡ length ls
    → ((c : ClauseTree) (us : List Answer) → whole ≡ c ++ packed us → first ≡ length c → kept ≡ c ++ packed (each_once us))
    → n ≡ length kept - first → IsBegun own ls lists kept n
begun own ls all lists first n whole kept is same at once many =
    let x : ClauseTree = left_clause own ls in
    let us : List Answer = together own lists in
    let variant : AreVariants whole (x ++ packed us) = same ∙ ap renumbered (left_all own ls all lists is) in
    let p = variant_parts whole x us variant in
    let long : length p.clause ≡ length ls = p.as_long ∙ length-map ls (left_literal own) in
    let end : kept ≡ p.clause ++ packed (each_once p.answers) = once p.clause p.answers p.whole_is (at ∙ sym long) in
    record {
      clause = p.clause;
      all = p.answers;
      variant = ap renumbered (sym p.whole_is) ∙ variant;
      as_many = long;
      whole_is = end;
      behind_is =
          let e = ap length end ∙ length-append p.clause (packed (each_once p.answers)) in
          let f = many_packed (each_once p.answers) in
          omega (arith, e, f, many, at, long);
    }

-- the last so many literals are answers
pub begun_ends : (own : Own) (ls : List LeftTree) (lists : List (List Answer)) (whole : ClauseTree) (n : ℕ) → IsBegun own ls lists whole n → EndsWithAnswers whole n
begun_ends own ls lists whole n b = ends_with whole b.clause (each_once b.all) n b.whole_is b.behind_is

begun_same : (own : Own) (ls : List LeftTree) (lists : List (List Answer)) (whole : ClauseTree) (n : ℕ) (b : IsBegun own ls lists whole n) → IsSame b.clause b.all (left_clause own ls) (together own lists)
begun_same own ls lists whole n b =
    let x : ClauseTree = left_clause own ls in
    let us : List Answer = together own lists in
    same_wholes b.clause x b.all us (many b.clause x b.all us b.variant (b.as_many ∙ sym (length-map ls (left_literal own)))) b.variant
  where
    many : (c x : ClauseTree) (us vs : List Answer) → AreVariants (c ++ packed us) (x ++ packed vs) → length c ≡ length x → length us ≡ length vs
    many c x us vs same long =
        let e = sym (length-map (c ++ packed us) (substitute_literal (by_place (clause_variables (c ++ packed us))))) ∙ ap length same ∙ length-map (x ++ packed vs) (substitute_literal (by_place (clause_variables (x ++ packed vs)))) in
        let f = length-append c (packed us) in
        let g = length-append x (packed vs) in
        let h = many_packed us in
        let k = many_packed vs in
        omega (arith, e, f, g, h, k, long)

all_many : (cs : List ClauseTree) (lists : List (List Answer)) → length lists ≡ length cs → AreAsMany cs lists
all_many [] [] h = tt
all_many [] (us ∷ lists) h = absurd (omega (arith, h))
all_many (c ∷ cs) [] h = absurd (omega (arith, h))
all_many (c ∷ cs) (us ∷ lists) h = all_many cs lists (omega (arith, h))

-- what is begun is what the rule makes
module _ (w : FirstWord) (cs : List ClauseTree) (lists : List (List Answer)) (long : length lists ≡ length cs) where
  made_with : (p : Premises) (own : Own) (whole : ClauseTree) (n : ℕ) → ArePremises (rule_by w) cs p → own ≡ own_among (length cs) (by_bindings p.unifier) → IsBegun own (all_left p.left.items) lists whole n
      → FirstAs (rule_by w) cs lists (Some (carried_in whole n))
  made_with p own whole n are is b =
      let r = rule_by w in
      let lawful = lawful_by w in
      let s : Substitution = by_bindings p.unifier in
      let family = family_apart_with r lawful.0 lawful.1 cs lists (interleaved (length cs)) s (interleaved_apart cs lists (all_many cs lists long)) are.fits are.general in
      let x : ClauseTree = left_clause own (all_left p.left.items) in
      let us : List Answer = together own lists in
      let rest : x ≡ r.rest (instances own cs) = are.leaves own in
      let numbered = numbered_self x us in
      let same = begun_same own (all_left p.left.items) lists whole n b in
      let once = same_once b.clause (numbered_clause x us) b.all (numbered_answers x us) (same.0 ∙ numbered.0, same.1 ∙ numbered.1) in
      let is_carried = carried_is whole b.clause (each_once b.all) n b.whole_is b.behind_is in (
        are.fits,
        (
          numbered_clause x us,
          each_once (numbered_answers x us),
          (own, subst (λ (o : Own). IsMostGeneralWith r cs lists o) (sym is) family, ap (λ c. numbered_clause c us) rest, ap (λ c. each_once (numbered_answers c us)) rest),
          subst (λ a. IsSame a.clause a.answers (numbered_clause x us) (each_once (numbered_answers x us))) (sym is_carried) once,
        ),
      )

  pub first_made : (p : Premises) (whole : ClauseTree) (n : ℕ) → ArePremises (rule_by w) cs p → IsBegun (own_among p.many (by_bindings p.unifier)) (all_left p.left.items) lists whole n
      → FirstAs (rule_by w) cs lists (Some (carried_in whole n))
  first_made p whole n are b = made_with p (own_among p.many (by_bindings p.unifier)) whole n are (ap (λ m. own_among m (by_bindings p.unifier)) are.many) b

-- those of each clause, one more
each_push : (k : ℕ) (cs : List ClauseTree) (c : ClauseTree) → each_whole k (cs ++ c ∷ []) ≡ each_whole k cs ++ all_whole (k + length cs) c
each_push k [] c = nil (all_whole k c) ∙ ap (λ n. all_whole n c) (let e : k ≡ k + 0 = omega arith in e)
  where
    nil : (ls : List LeftTree) → ls ++ [] ≡ ls
    nil [] = refl
    nil (l ∷ ls) = ap (λ ms. l ∷ ms) (nil ls)
each_push k (d ∷ cs) c =
    ap (λ ls. all_whole k d ++ ls) (each_push (suc k) cs c ∙ ap (λ n. each_whole (suc k) cs ++ all_whole n c) (let e : suc k + length cs ≡ k + suc (length cs) = omega arith in e))
    ∙ sym (append_assoc (all_whole k d) (each_whole (suc k) cs) (all_whole (k + suc (length cs)) c))

pub each_next : (cs : List ClauseTree) (i : ℕ) (c : ClauseTree) (front left new : List LeftTree) → i < length cs → c ≡ slice_index_or cs i c → left ≡ front ++ each_whole 0 (take i cs) → new ≡ left ++ all_whole i c → new ≡ front ++ each_whole 0 (take (i + 1) cs)
each_next cs i c front left new h at before is =
    let long : length (take i cs) ≡ i = long_cut_of cs i (omega (arith, h)) in
    is ∙ ap (λ ls. ls ++ all_whole i c) before ∙ append_assoc front (each_whole 0 (take i cs)) (all_whole i c)
    ∙ ap (λ ls. front ++ ls)
    (ap (λ n. each_whole 0 (take i cs) ++ all_whole n c) (let e : i ≡ 0 + length (take i cs) = omega (arith, long) in e)
    ∙ sym (each_push 0 (take i cs) c) ∙ ap (each_whole 0) (sym (take_more cs i c h ∙ ap (λ d. take i cs ++ d ∷ []) (sym at))))
  where
    long_cut_of : (cs : List ClauseTree) (i : ℕ) → i ≤ length cs → length (take i cs) ≡ i
    long_cut_of [] zero h = refl
    long_cut_of [] (suc i) h = absurd (omega (arith, h))
    long_cut_of (c ∷ cs) zero h = refl
    long_cut_of (c ∷ cs) (suc i) h = ap suc (long_cut_of cs i (omega (arith, h)))

pub each_end : (cs : List ClauseTree) (i : ℕ) (front left : List LeftTree) → length cs ≤ i → left ≡ front ++ each_whole 0 (take i cs) → left ≡ front ++ each_whole 0 cs
each_end cs i front left h is = is ∙ ap (λ ds. front ++ each_whole 0 ds) (take_all i cs h)
