-- What forms ask for, and the answers of their clauses.
use Rattle.std.proofs.Common.{◌≡◌, ◌<◌, ◌≤◌, ℕ, suc, ◌+◌, List, [], ◌∷◌, ◌++◌, length, drop, take, get_or, map, refl, sym, ap, ap₂, ◌∙◌, add-one, drop-cons, append_assoc}
use Rattle.std.proofs.lemmas.List.{append-nil, drop_all, map-append, take_all, take_more}
use Rattle.answers.specs.AnswerTrees as trees
use Rattle.answers.specs.AnswerView.{answer_of, answers_of}
use Rattle.answers.specs.declared.answer.Answer.{Answer}
use Rattle.clausify.specs.Asked.{answer_terms_from}
use Rattle.clausify.specs.AskedForms.{asked_in, asked_by, terms_behind, terms_in}
use Rattle.clausify.specs.Clausal.{clauses_in}
use Rattle.clausify.specs.Fronts.{normal_of}
use Rattle.clausify.specs.Input.{form, forms}
use Rattle.clausify.specs.Skolem.{somes}
use Rattle.clausify.specs.declared.normal.Normal.{Normal}
use Rattle.fol_core.specs.Fol.{Fol}
use Rattle.fol_core.specs.Tree.{Trees, var, trees_of}
use Rattle.fol_problem.specs.Stated.{said_of, all_said}
use Rattle.fol_problem.specs.declared.problem.Input.{Input}

pub asked_next : (ns : List Normal) (n : Normal) (inputs : List Input) (i : ℕ) (x : Input) → i < length inputs → x ≡ get_or inputs i x → asked_by n ≡ asked_in x
    → map asked_by ns ≡ map asked_in (take i inputs) → map asked_by (ns ++ n ∷ []) ≡ map asked_in (take (i + 1) inputs)
asked_next ns n inputs i x lt is made before =
    let last : take (i + 1) inputs ≡ take i inputs ++ x ∷ [] = take_more inputs i x lt ∙ ap (λ (y : Input). take i inputs ++ y ∷ []) (sym is) in
    map-append asked_by ns (n ∷ [])
    ∙ ap (λ xs. xs ++ asked_by n ∷ []) before
    ∙ ap (λ xs. map asked_in (take i inputs) ++ xs ∷ []) made
    ∙ sym (map-append asked_in (take i inputs) (x ∷ []))
    ∙ ap (λ (ys : List Input). map asked_in ys) (sym last)

pub asked_end : (ns : List Normal) (inputs : List Input) (i : ℕ) → length inputs ≤ i → map asked_by ns ≡ map asked_in (take i inputs) → map asked_by ns ≡ map asked_in inputs
asked_end ns inputs i end before = before ∙ ap (λ (ys : List Input). map asked_in ys) (take_all i inputs end)

-- a single answer is the last
pub only_last : (us rest : List Answer) (a : Answer) (u : trees.Answer) → us ≡ rest ++ a ∷ [] → answers_of us ≡ u ∷ [] → trees_of a.terms ≡ u.terms
only_last us [] a u ends told =
    let all : answer_of a ∷ [] ≡ u ∷ [] = sym (ap answers_of ends) ∙ told in
    let one : answer_of a ≡ u = cc in
    ap (λ (v : trees.Answer). v.terms) one
only_last us (b ∷ []) a u ends told =
    let all : answer_of b ∷ answer_of a ∷ [] ≡ u ∷ [] = sym (ap answers_of ends) ∙ told in
    cc
only_last us (b ∷ d ∷ rest) a u ends told =
    let all : answer_of b ∷ answer_of d ∷ answers_of (rest ++ a ∷ []) ≡ u ∷ [] = sym (ap answers_of ends) ∙ told in
    cc

front : (ns : List Normal) (i : ℕ) (n : Normal) → i < length ns → n ≡ get_or ns i n → drop i ns ≡ n ∷ drop (i + 1) ns
front ns i n lt is = rw (add-one, drop-cons ns i n) (ap (λ s. s ∷ drop (suc i) ns) (sym is))

-- one more form, whose Skolem symbols begin at place k
pub terms_next : (symbols : List ℕ) (made : List Trees) (ns : List Normal) (i k j : ℕ) (n : Normal) → i < length ns → n ≡ get_or ns i n → j ≡ k + somes (normal_of n)
    → (made ++ map (terms_behind (asked_by n)) (clauses_in symbols k [] var (normal_of n))) ++ terms_in symbols j (drop (i + 1) ns) ≡ made ++ terms_in symbols k (drop i ns)
terms_next symbols made ns i k j n lt is next =
    append_assoc made (map (terms_behind (asked_by n)) (clauses_in symbols k [] var (normal_of n))) (terms_in symbols j (drop (i + 1) ns))
    ∙ ap (λ m. made ++ (map (terms_behind (asked_by n)) (clauses_in symbols k [] var (normal_of n)) ++ terms_in symbols m (drop (i + 1) ns))) next
    ∙ ap (λ (rest : List Normal). made ++ terms_in symbols k rest) (sym (front ns i n lt is))

pub terms_end : (symbols : List ℕ) (made : List Trees) (ns : List Normal) (i k : ℕ) → length ns ≤ i → made ++ terms_in symbols k (drop i ns) ≡ made
terms_end symbols made ns i k end = ap (λ (rest : List Normal). made ++ terms_in symbols k rest) (drop_all i ns end) ∙ append-nil made

-- these are the terms of what is said with what it asks for
pub terms_of_inputs : (symbols : List ℕ) (k : ℕ) (ns : List Normal) (inputs : List Input) → map normal_of ns ≡ forms (all_said inputs) → map asked_by ns ≡ map asked_in inputs
    → terms_in symbols k ns ≡ answer_terms_from symbols k (all_said inputs) (map (λ i. i.answer.items) inputs)
terms_of_inputs symbols k [] [] fs xs = refl
terms_of_inputs symbols k [] (i ∷ inputs) fs xs = cc
terms_of_inputs symbols k (n ∷ ns) [] fs xs = cc
terms_of_inputs symbols k (n ∷ ns) (i ∷ inputs) fs xs =
    let first : normal_of n ≡ form (said_of i) = cc in
    let rest : map normal_of ns ≡ forms (all_said inputs) = cc in
    let asks : asked_by n ≡ asked_in i = cc in
    let others : map asked_by ns ≡ map asked_in inputs = cc in
    ap₂ (λ (f : Fol) (ys : List ℕ). map (terms_behind ys) (clauses_in symbols k [] var f) ++ terms_in symbols (k + somes f) ns) first asks
    ∙ ap (λ ts. map (terms_behind (asked_in i)) (clauses_in symbols k [] var (form (said_of i))) ++ ts) (terms_of_inputs symbols (k + somes (form (said_of i))) ns inputs rest others)
