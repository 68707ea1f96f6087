-- Clauses crossed one by one.
use Rattle.std.proofs.Common.{◌≡◌, ◌<◌, ◌≤◌, ℕ, suc, ◌+◌, List, [], ◌∷◌, ◌++◌, length, drop, get_or, sym, ap, ◌∙◌, add-one, drop-cons, append_assoc}
use Rattle.std.proofs.lemmas.List.{append-nil, drop_all}
use Rattle.fol_core.specs.Literals.{ClauseTree}
use Rattle.clausify.specs.Clausal.{with_each, distributed}

front : (cs : List ClauseTree) (i : ℕ) (c : ClauseTree) → i < length cs → c ≡ get_or cs i c → drop i cs ≡ c ∷ drop (i + 1) cs
front cs i c lt is = rw (add-one, drop-cons cs i c) (ap (λ b. b ∷ drop (suc i) cs) (sym is))

-- one more of the others
pub each_next : (found : List ClauseTree) (c d : ClauseTree) (ds : List ClauseTree) (i : ℕ) → i < length ds → d ≡ get_or ds i d
    → (found ++ (c ++ d) ∷ []) ++ with_each c (drop (i + 1) ds) ≡ found ++ with_each c (drop i ds)
each_next found c d ds i lt is = append_assoc found ((c ++ d) ∷ []) (with_each c (drop (i + 1) ds)) ∙ ap (λ t. found ++ with_each c t) (sym (front ds i d lt is))

pub each_end : (found : List ClauseTree) (c : ClauseTree) (ds : List ClauseTree) (i : ℕ) → length ds ≤ i → found ++ with_each c (drop i ds) ≡ found
each_end found c ds i end = ap (λ t. found ++ with_each c t) (drop_all i ds end) ∙ append-nil found

-- one more of the first list
pub crossed_next : (found : List ClauseTree) (c : ClauseTree) (cs ds : List ClauseTree) (i : ℕ) → i < length cs → c ≡ get_or cs i c
    → (found ++ with_each c ds) ++ distributed (drop (i + 1) cs) ds ≡ found ++ distributed (drop i cs) ds
crossed_next found c cs ds i lt is = append_assoc found (with_each c ds) (distributed (drop (i + 1) cs) ds) ∙ ap (λ t. found ++ distributed t ds) (sym (front cs i c lt is))

pub crossed_end : (found cs ds : List ClauseTree) (i : ℕ) → length cs ≤ i → found ++ distributed (drop i cs) ds ≡ found
crossed_end found cs ds i end = ap (λ t. found ++ distributed t ds) (drop_all i cs end) ∙ append-nil found
