-- The terms of several answers, read one behind the other, are cut into those of each.
use Rattle.std.proofs.Common.{◌≡◌, ◌∙◌, ℕ, zero, suc, ◌+◌, ◌<◌, ◌≤◌, min, List, [], ◌∷◌, ◌++◌, length, map, get_or, take, drop, refl, ap, sym, append_assoc, append-nil, arith}
use Rattle.std.proofs.lemmas.List.{drop_more, drop_all, map_push, take_min}
use Rattle.std.proofs.Math.Seq.{take-append_seam, drop-append_seam}
use Rattle.std.specs.List.{flat_map}
use Rattle.answers.specs.AnswerTrees as trees
use Rattle.answers.specs.AnswerView.{answer_of, answers_of}
use Rattle.answers.specs.declared.answer.Answer.{Answer}
use Rattle.fol_core.specs.RawTree.{RawTree, raws_of}
use Rattle.fol_core.specs.TermView.{tree_of, tree_list}
use Rattle.fol_core.specs.Tree.{Tree, Trees, none, more, trees_of, list_of}
use Rattle.fol_core.specs.declared.term.Term.{Term}
use Rattle.ladr_formulas.specs.Formulas.{Made, Reading, term_of, terms_of}
use Rattle.ladr_formulas.specs.declared.styles.Style.{Style}
use Rattle.proof_lines.specs.Answered.{answer_views}
use Rattle.proof_lines.specs.Counted.{counted_of, cut}
use Rattle.proof_lines.specs.Stated.{answers_made}
use Rattle.proof_lines.specs.declared.answered.RawAnswer.{RawAnswer}
use Rattle.proof_lines.specs.declared.counted.Counted.{Counted}

pub trees_back : (ts : List Tree) → list_of (trees_of ts) ≡ ts
trees_back [] = refl
trees_back (t ∷ ts) = ap (λ us. t ∷ us) (trees_back ts)

lists_back : (ts : Trees) → trees_of (list_of ts) ≡ ts
lists_back none = refl
lists_back (more t ts) = ap (λ us. more t us) (lists_back ts)

pub gathered_more : (bs : List RawAnswer) (a : RawAnswer) → flat_map (λ (b : RawAnswer). b.terms) (bs ++ a ∷ []) ≡ flat_map (λ (b : RawAnswer). b.terms) bs ++ a.terms
gathered_more [] a = append-nil a.terms
gathered_more (b ∷ bs) a = ap (λ us. b.terms ++ us) (gathered_more bs a) ∙ sym (append_assoc b.terms (flat_map (λ (d : RawAnswer). d.terms) bs) a.terms)

-- one answer more
drop_min : (n : ℕ) (xs : List Tree) → drop (min n (length xs)) xs ≡ drop n xs
drop_min zero xs = (let on : min zero (length xs) ≡ zero = omega arith in ap (λ (k : ℕ). drop k xs) on)
drop_min (suc n) [] = drop_all (min (suc n) 0) [] (omega arith)
drop_min (suc n) (x ∷ xs) = (let on : min (suc n) (length (x ∷ xs)) ≡ suc (min n (length xs)) = omega arith in ap (λ (k : ℕ). drop k (x ∷ xs)) on ∙ drop_min n xs)

trees_taken : (n : ℕ) (ts : List Term) → tree_list (take n ts) ≡ take n (tree_list ts)
trees_taken zero ts = refl
trees_taken (suc n) [] = refl
trees_taken (suc n) (t ∷ ts) = ap (λ us. tree_of t ∷ us) (trees_taken n ts)

trees_left : (n : ℕ) (ts : List Term) → tree_list (drop n ts) ≡ drop n (tree_list ts)
trees_left zero ts = refl
trees_left (suc n) [] = refl
trees_left (suc n) (t ∷ ts) = trees_left n ts

trees_long : (ts : List Term) → length (tree_list ts) ≡ length ts
trees_long [] = refl
trees_long (t ∷ ts) = ap suc (trees_long ts)

-- as many as there are
pub all_taken : (n : ℕ) (ts : List Term) → tree_list (take (min n (length ts)) ts) ≡ take n (tree_list ts)
all_taken n ts = trees_taken (min n (length ts)) ts ∙ ap (λ (k : ℕ). take (min n k) (tree_list ts)) (sym (trees_long ts)) ∙ take_min n (tree_list ts)

pub all_left : (n : ℕ) (ts : List Term) → tree_list (drop (min n (length ts)) ts) ≡ drop n (tree_list ts)
all_left n ts = trees_left (min n (length ts)) ts ∙ ap (λ (k : ℕ). drop (min n k) (tree_list ts)) (sym (trees_long ts)) ∙ drop_min n (tree_list ts)

pub cut_more : (us : List Answer) (u : Answer) (cs : List Counted) (i : ℕ) (d : Counted) (ts : List Tree) (all : List trees.Answer) → i < length cs
    → u.goal ≡ (get_or cs i d).goal → u.terms ≡ take (get_or cs i d).count ts → answers_of us ++ cut (drop i cs) ts ≡ all
    → answers_of (us ++ u ∷ []) ++ cut (drop (i + 1) cs) (drop (get_or cs i d).count ts) ≡ all
cut_more us u cs i d ts all h g e made =
    let c : Counted = get_or cs i d in
    let here : answer_of u ≡ trees.answer c.goal (trees_of (take c.count ts)) = (λ j. trees.answer (g j) (trees_of (e j))) in
    let behind : cut (drop i cs) ts ≡ trees.answer c.goal (trees_of (take c.count ts)) ∷ cut (drop (i + 1) cs) (drop c.count ts) = ap (λ ds. cut ds ts) (drop_more cs i d h) in
    ap (λ vs. vs ++ cut (drop (i + 1) cs) (drop c.count ts)) (map_push answer_of us u)
    ∙ append_assoc (answers_of us) (answer_of u ∷ []) (cut (drop (i + 1) cs) (drop c.count ts))
    ∙ ap (λ v. answers_of us ++ v ∷ cut (drop (i + 1) cs) (drop c.count ts)) here
    ∙ ap (λ vs. answers_of us ++ vs) (sym behind) ∙ made

pub cut_end : (us : List Answer) (cs : List Counted) (i : ℕ) (ts : List Tree) (all : List trees.Answer) → length cs ≤ i
    → answers_of us ++ cut (drop i cs) ts ≡ all → answers_of us ≡ all
cut_end us cs i ts all past made = sym (append-nil (answers_of us)) ∙ ap (λ ds. answers_of us ++ cut ds ts) (sym (drop_all i cs past)) ∙ made

-- what stands behind a clause where the terms of its answers are read in one list
pub terms_from : (all some others : List RawTree) → all ≡ some ++ others → some ≡ [] → all ≡ others
terms_from all some others e is = e ∙ ap (λ us. us ++ others) is

-- terms behind others
module _ (st : Style) where
  made_long : (s : Reading) (ts : List RawTree) → length (list_of (terms_of st [] s (raws_of ts)).tree) ≡ length ts
  made_long s [] = refl
  made_long s (t ∷ ts) = ap suc (made_long (term_of st [] s t).reading ts)

  made_both : (s : Reading) (ts us : List RawTree) →
      (list_of (terms_of st [] s (raws_of (ts ++ us))).tree ≡ list_of (terms_of st [] s (raws_of ts)).tree ++ list_of (terms_of st [] (terms_of st [] s (raws_of ts)).reading (raws_of us)).tree)
      × ((terms_of st [] s (raws_of (ts ++ us))).reading ≡ (terms_of st [] (terms_of st [] s (raws_of ts)).reading (raws_of us)).reading)
  made_both s [] us = (refl, refl)
  made_both s (t ∷ ts) us = (let rest = made_both (term_of st [] s t).reading ts us in (ap (λ vs. (term_of st [] s t).tree ∷ vs) rest.0, rest.1))

  abbrev all_of : List RawAnswer → List RawTree
  all_of bs = flat_map (λ (a : RawAnswer). a.terms) bs

  pub cut_made : (s : Reading) (bs : List RawAnswer) →
      (cut (map counted_of bs) (list_of (terms_of st [] s (raws_of (all_of bs))).tree) ≡ (answers_made st s (answer_views bs)).tree)
      × ((terms_of st [] s (raws_of (all_of bs))).reading ≡ (answers_made st s (answer_views bs)).reading)
  cut_made s [] = (refl, refl)
  cut_made s (a ∷ bs) =
      let first : Made Trees = terms_of st [] s (raws_of a.terms) in
      let both = made_both s a.terms (all_of bs) in
      let rest = cut_made first.reading bs in
      let others : List Tree = list_of (terms_of st [] first.reading (raws_of (all_of bs))).tree in
      let long = made_long s a.terms in
      let whole : List Tree = list_of (terms_of st [] s (raws_of (a.terms ++ all_of bs))).tree in
      let front : trees_of (take (length a.terms) whole) ≡ first.tree =
      ap (λ (vs : List Tree). trees_of (take (length a.terms) vs)) both.0
      ∙ ap (λ (n : ℕ). trees_of (take n (list_of first.tree ++ others))) (sym long)
      ∙ ap trees_of (take-append_seam (list_of first.tree) others) ∙ lists_back first.tree in
      let back : drop (length a.terms) whole ≡ others =
      ap (drop (length a.terms)) both.0 ∙ ap (λ (n : ℕ). drop n (list_of first.tree ++ others)) (sym long) ∙ drop-append_seam (list_of first.tree) others in (
        (λ i. trees.answer a.goal (front i) ∷ cut (map counted_of bs) (back i)) ∙ ap (λ us. trees.answer a.goal first.tree ∷ us) rest.0,
        both.1 ∙ rest.1,
      )
