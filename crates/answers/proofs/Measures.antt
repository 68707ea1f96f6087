-- How large answers are, and a clause with them.
use Rattle.std.proofs.Common.{◌≡◌, ℕ, ◌+◌, ◌<◌, ◌≤◌, ◌∙◌, Bool, true, false, not, Option, Some, None, is_some, MatchOption, nat_lt, nat_le, ◌||◌, max, length, List, get_or, drop, [], ◌∷◌, ◌++◌, refl, sym, ap, ap₂, arith}
use Rattle.std.proofs.lemmas.Bool.{le-ltb, le-leb, leb-true}
use Rattle.std.proofs.lemmas.Bool.Decides.{nat_tests}
use Rattle.std.proofs.lemmas.List.{drop_all}
use Rattle.clause_limits.specs.Sizes.{clause_size, clause_depth, is_too_large}
use Rattle.clause_limits.proofs.Few.{clause_within}
use Rattle.clause_limits.proofs.Maxima.{lt_max}
use Rattle.clause_limits.proofs.Measures.{next_item}
use Rattle.fol_core.specs.Literals.{ClauseTree}
use Rattle.fol_core.specs.Sizes.{size_of, sizes_of, depth_of, depths_of}
use Rattle.fol_core.specs.Tree.{Trees, none, more, trees_of}
use Rattle.answers.specs.AnswerTrees.{literals_of, riders}
use Rattle.answers.specs.AnswerView.{answers_of}
use Rattle.answers.specs.declared.answer.Answer.{Answer}

-- terms are as large as literals that have them for atoms
terms_deep : (ts : Trees) → clause_depth (literals_of ts) ≡ depths_of ts
terms_deep none = refl
terms_deep (more t ts) = ap (max (depth_of t)) (terms_deep ts)

terms_size : (ts : Trees) → clause_size (literals_of ts) ≡ sizes_of ts
terms_size none = refl
terms_size (more t ts) = ap (λ n. size_of t + n) (terms_size ts)

pub both_deep : (c d : ClauseTree) → clause_depth (c ++ d) ≡ max (clause_depth c) (clause_depth d)
both_deep [] d = omega arith
both_deep (l ∷ c) d = let h = both_deep c d in omega (arith, h)

pub both_size : (c d : ClauseTree) → clause_size (c ++ d) ≡ clause_size c + clause_size d
both_size [] d = omega arith
both_size (l ∷ c) d = let h = both_size c d in omega (arith, h)

not_within : (m n : ℕ) → n < m → nat_le m n ≡ false
not_within m n h = grind (arith, nat_tests)

-- how large the answers from a place on are
abbrev pub answers_deeper_from : ℕ → List Answer → ℕ → Bool
answers_deeper_from n us i = nat_lt n (clause_depth (riders (answers_of (drop i us))))

answers_deeper_step : (n : ℕ) (us : List Answer) (i : ℕ) (u : Answer) → i < length us → u ≡ get_or us i u
    → answers_deeper_from n us i ≡ (nat_lt n (depths_of (trees_of u.terms)) || answers_deeper_from n us (i + 1))
answers_deeper_step n us i u h is =
    ap (λ vs. nat_lt n (clause_depth (riders (answers_of vs)))) (next_item us i u h is)
    ∙ ap (nat_lt n) (both_deep (literals_of (trees_of u.terms)) (riders (answers_of (drop (i + 1) us)))
    ∙ ap (λ m. max m (clause_depth (riders (answers_of (drop (i + 1) us))))) (terms_deep (trees_of u.terms)))
    ∙ lt_max n (depths_of (trees_of u.terms)) (clause_depth (riders (answers_of (drop (i + 1) us))))

pub answers_deeper_here : (n : ℕ) (us : List Answer) (i : ℕ) (u : Answer) → i < length us → u ≡ get_or us i u → nat_lt n (depths_of (trees_of u.terms)) ≡ true → answers_deeper_from n us i ≡ true
answers_deeper_here n us i u h is e = answers_deeper_step n us i u h is ∙ ap (λ b. b || answers_deeper_from n us (i + 1)) e

pub answers_deeper_behind : (n : ℕ) (us : List Answer) (i : ℕ) (u : Answer) → i < length us → u ≡ get_or us i u → nat_lt n (depths_of (trees_of u.terms)) ≡ false
    → answers_deeper_from n us i ≡ answers_deeper_from n us (i + 1)
answers_deeper_behind n us i u h is e = answers_deeper_step n us i u h is ∙ ap (λ b. b || answers_deeper_from n us (i + 1)) e

pub answers_deeper_end : (n : ℕ) (us : List Answer) (i : ℕ) → length us ≤ i → answers_deeper_from n us i ≡ false
answers_deeper_end n us i h = ap (λ vs. nat_lt n (clause_depth (riders (answers_of vs)))) (drop_all i us h) ∙ le-ltb n 0 (omega arith)

abbrev pub answers_sizes_from : List Answer → ℕ → ℕ
answers_sizes_from us i = clause_size (riders (answers_of (drop i us)))

pub answers_sizes_next : (us : List Answer) (i : ℕ) (u : Answer) → i < length us → u ≡ get_or us i u → answers_sizes_from us i ≡ sizes_of (trees_of u.terms) + answers_sizes_from us (i + 1)
answers_sizes_next us i u h is =
    ap (λ vs. clause_size (riders (answers_of vs))) (next_item us i u h is)
    ∙ both_size (literals_of (trees_of u.terms)) (riders (answers_of (drop (i + 1) us)))
    ∙ ap (λ n. n + answers_sizes_from us (i + 1)) (terms_size (trees_of u.terms))

pub answers_sizes_end : (us : List Answer) (i : ℕ) → length us ≤ i → answers_sizes_from us i ≡ 0
answers_sizes_end us i h = ap (λ vs. clause_size (riders (answers_of vs))) (drop_all i us h)

-- what is left behind both tells whether there was room
pub within_both : (c d : ClauseTree) (room left : ℕ) (o : Option ℕ) → left + clause_size c ≡ room → MatchOption o (left < clause_size d) (λ rest. rest + clause_size d ≡ left)
    → is_some o ≡ nat_le (clause_size (c ++ d)) room
within_both c d room left None e h = let k = both_size c d in sym (not_within (clause_size (c ++ d)) room (omega (arith, e, h, k)))
within_both c d room left (Some rest) e h = let k = both_size c d in sym (le-leb (clause_size (c ++ d)) room (omega (arith, e, h, k)))

pub over_first : (c d : ClauseTree) (room : ℕ) → room < clause_size c → false ≡ nat_le (clause_size (c ++ d)) room
over_first c d room h = let k = both_size c d in sym (not_within (clause_size (c ++ d)) room (omega (arith, h, k)))

-- a clause with few symbols and variables isn't too large
pub few_whole : (c : ClauseTree) → nat_le (clause_size c) 1000 ≡ true → is_too_large c ≡ false
few_whole c e =
    let h = clause_within c in
    let k : clause_size c ≤ 1000 = leb-true (clause_size c) 1000 e in
    ap₂ (λ a b. a || b) (le-ltb 1000 (clause_depth c) (omega (arith, h, k))) (le-ltb 1000000 (clause_size c) (omega (arith, k)))

-- and one with more is, by its levels or by what it has
pub large_whole : (c d : ClauseTree) → is_too_large (c ++ d) ≡ (nat_lt 1000 (clause_depth c) || (nat_lt 1000 (clause_depth d) || not (nat_le (clause_size (c ++ d)) 1000000)))
large_whole c d = by (nat_lt 1000 (clause_depth c)) (nat_lt 1000 (clause_depth d)) (ap (nat_lt 1000) (both_deep c d) ∙ lt_max 1000 (clause_depth c) (clause_depth d))
  where
    over : nat_lt 1000000 (clause_size (c ++ d)) ≡ not (nat_le (clause_size (c ++ d)) 1000000)
    over = grind (arith, nat_tests)

    by : (a b : Bool) → nat_lt 1000 (clause_depth (c ++ d)) ≡ (a || b) → is_too_large (c ++ d) ≡ (a || (b || not (nat_le (clause_size (c ++ d)) 1000000)))
    by true b e = ap (λ x. x || nat_lt 1000000 (clause_size (c ++ d))) e
    by false true e = ap (λ x. x || nat_lt 1000000 (clause_size (c ++ d))) e
    by false false e = ap (λ x. x || nat_lt 1000000 (clause_size (c ++ d))) e ∙ over
