-- How often variables stand in the first literals of a clause.
use Rattle.std.proofs.Common.{◌≡◌, ℕ, zero, suc, ◌+◌, ◌<◌, ◌≤◌, List, [], ◌∷◌, ◌++◌, length, get_or, take, map, sym, ap, ◌∙◌, arith}
use Rattle.std.proofs.lemmas.List.{take_more, take_all}
use Rattle.fol_core.specs.ClauseView.{literal_of}
use Rattle.fol_core.specs.TermView.{tree_of}
use Rattle.fol_core.specs.declared.clause.Literal.{Literal}
use Rattle.term_matches.specs.Occurrences.{occurrences}
use Rattle.subsume.specs.Variables.{standing}

abbrev pub stands_first : List Literal → ℕ → ℕ
stands_first ls i = standing (map literal_of (take i ls))

standing_more : (ls : List Literal) (l : Literal) → standing (map literal_of (ls ++ l ∷ [])) ≡ standing (map literal_of ls) + occurrences (tree_of l.atom)
standing_more [] l = omega arith
standing_more (k ∷ ls) l = let rest = standing_more ls l in omega (arith, rest)

pub standing_next : (ls : List Literal) (i : ℕ) (l : Literal) → i < length ls → l ≡ get_or ls i l → stands_first ls (i + 1) ≡ stands_first ls i + occurrences (tree_of l.atom)
standing_next ls i l h is = ap (λ ks. standing (map literal_of ks)) (take_more ls i l h ∙ ap (λ k. take i ls ++ k ∷ []) (sym is)) ∙ standing_more (take i ls) l

pub standing_all : (ls : List Literal) (i : ℕ) → length ls ≤ i → stands_first ls i ≡ standing (map literal_of ls)
standing_all ls i h = ap (λ ks. standing (map literal_of ks)) (take_all i ls h)

-- each literal has no more of them than all together
pub standing_within : (ls : List Literal) (i : ℕ) (l : Literal) → i < length ls → l ≡ get_or ls i l → occurrences (tree_of l.atom) ≤ standing (map literal_of ls)
standing_within [] i l h is = absurd (omega (arith, h))
standing_within (k ∷ ls) zero l h is = let same : occurrences (tree_of l.atom) ≡ occurrences (tree_of k.atom) = ap (λ j. occurrences (tree_of j.atom)) is in omega (arith, same)
standing_within (k ∷ ls) (suc i) l h is = let rest = standing_within ls i l (omega (arith, h)) is in omega (arith, rest)
