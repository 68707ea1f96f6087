-- Lists of what is left, as they are made.
use Rattle.std.proofs.Common.{◌≡◌, ℕ, zero, suc, ◌+◌, ◌-◌, ◌<◌, ◌≤◌, ◌==◌, Bool, true, false, if◌then◌else◌, List, [], ◌∷◌, ◌++◌, map, length, get_or, take, drop, append_assoc, Some, None, inl, inr, refl, sym, ap, ap₂, ◌∙◌, arith, add-one, drop-cons}
use Rattle.std.proofs.lemmas.Bool.{cases_eq, eq-eqb, ne_eqb}
use Rattle.std.proofs.lemmas.List.{take_all, drop_all, length-drop, append-nil}
use Rattle.fol_core.specs.ClauseView.{literal_of}
use Rattle.fol_core.specs.Free.{is_in}
use Rattle.fol_core.specs.Literals.{ClauseTree}
use Rattle.fol_core.specs.declared.clause.Literal.{Literal}
use Rattle.derivation.specs.Places.{others}
use Rattle.derivation.specs.declared.words.Satellite.{Satellite}
use Rattle.inference.specs.Judged.{clash_of}
use Rattle.inference.specs.Left.{ChangeTree, LeftTree, all_whole, changed_left, all_left, left_tree}
use Rattle.inference.specs.declared.left.Left.{Left}

-- the items behind a place, as a range of a slice
pub behind_place : {X : Type 0} (xs : List X) (k : ℕ) → take (length xs - (k + 1)) (drop (k + 1) xs) ≡ drop (k + 1) xs
behind_place xs k = take_all (length xs - (k + 1)) (drop (k + 1) xs) (omega (arith, length-drop (k + 1) xs))

-- one more is left
pub left_more : (ls new : List Left) (l : Left) → new ≡ ls ++ l ∷ [] → all_left new ≡ all_left ls ++ left_tree l ∷ []
left_more ls new l is = ap all_left is ∙ each ls
  where
    each : (ks : List Left) → all_left (ks ++ l ∷ []) ≡ all_left ks ++ left_tree l ∷ []
    each [] = refl
    each (k ∷ ks) = ap (λ ts. left_tree k ∷ ts) (each ks)

-- literals of a parent beside others of it
whole_beside : (k : ℕ) (c d : ClauseTree) → all_whole k (c ++ d) ≡ all_whole k c ++ all_whole k d
whole_beside k [] d = refl
whole_beside k (l ∷ c) d = ap (λ ts. record { parent = k; literal = l; change = None } ∷ ts) (whole_beside k c d)

-- the literals but for one
pub suc_test : (k a : ℕ) → (suc k == suc a) ≡ (k == a)
suc_test k a = elim (cases_eq k a) [
  | inl e ↦ eq-eqb (suc k) (suc a) (ap suc e) ∙ sym (eq-eqb k a e)
  | inr d ↦ ne_eqb (suc k) (suc a) (λ e. d (omega (arith, e))) ∙ sym (ne_eqb k a d)
]

pub zero_test : (k : ℕ) → (suc k == 0) ≡ false
zero_test k = ne_eqb (suc k) 0 (λ e. absurd (omega (arith, e)))

pub others_same : (p q : ℕ → Bool) (c : ClauseTree) → ((k : ℕ) → p k ≡ q k) → others p c ≡ others q c
others_same p q [] h = refl
others_same p q (l ∷ c) h = ap₂ (λ b d. if b then d else l ∷ d) (h 0) (others_same (λ k. p (suc k)) (λ k. q (suc k)) c (λ k. h (suc k)))

pub none_out : (c : ClauseTree) → others (λ _. false) c ≡ c
none_out [] = refl
none_out (l ∷ c) = ap (λ d. l ∷ d) (none_out c)

others_at : (ls : List Literal) (a : ℕ) → a < length ls → map literal_of (take a ls) ++ map literal_of (drop (suc a) ls) ≡ others (λ k. k == a) (map literal_of ls)
others_at [] a h = absurd (omega (arith, h))
others_at (l ∷ ls) zero h =
    let c = map literal_of ls in
    sym (ap (λ b. if b then others (λ k. suc k == 0) c else literal_of l ∷ others (λ k. suc k == 0) c) (eq-eqb 0 0 refl)
    ∙ others_same (λ k. suc k == 0) (λ _. false) c zero_test ∙ none_out c)
others_at (l ∷ ls) (suc a) h =
    let c = map literal_of ls in
    let same : others (λ k. k == a) c ≡ others (λ k. suc k == suc a) c = others_same (λ k. k == a) (λ k. suc k == suc a) c (λ k. sym (suc_test k a)) in
    ap₂ (λ b d. if b then d else literal_of l ∷ d) (sym (ne_eqb 0 (suc a) (λ e. absurd (omega (arith, e))))) (others_at ls a (omega (arith, h)) ∙ same)

pub others_left : (k : ℕ) (c : ClauseTree) (ls : List Literal) (a : ℕ) (front one all : List LeftTree) → map literal_of ls ≡ c → a < length ls
    → one ≡ front ++ all_whole k (map literal_of (take a ls)) → all ≡ one ++ all_whole k (map literal_of (take (length ls - (a + 1)) (drop (a + 1) ls)))
    → all ≡ front ++ all_whole k (others (λ n. n == a) c)
others_left k c ls a front one all view h e is =
    is ∙ ap₂ (λ ts ms. ts ++ all_whole k (map literal_of ms)) e (behind_place ls a ∙ ap (λ n. drop n ls) (add-one a))
    ∙ append_assoc front (all_whole k (map literal_of (take a ls))) (all_whole k (map literal_of (drop (suc a) ls)))
    ∙ ap (λ ts. front ++ ts) (sym (whole_beside k (map literal_of (take a ls)) (map literal_of (drop (suc a) ls))) ∙ ap (all_whole k) (others_at ls a h ∙ ap (others (λ n. n == a)) view))

-- all of them, with another term in the one at a place
changed_at : (k : ℕ) (ls : List Literal) (a : ℕ) (d : Literal) (change : ChangeTree) → a < length ls
    → changed_left k (map literal_of ls) a change
    ≡ all_whole k (map literal_of (take a ls)) ++ record { parent = k; literal = literal_of (get_or ls a d); change = Some change } ∷ all_whole k (map literal_of (drop (suc a) ls))
changed_at k [] a d change h = absurd (omega (arith, h))
changed_at k (l ∷ ls) zero d change h = refl
changed_at k (l ∷ ls) (suc a) d change h = ap (λ ts. record { parent = k; literal = literal_of l; change = None } ∷ ts) (changed_at k ls a d change (omega (arith, h)))

pub changed_left_is : (k : ℕ) (c : ClauseTree) (ls : List Literal) (a : ℕ) (l : Literal) (change : ChangeTree) (front one two all : List LeftTree) → map literal_of ls ≡ c → a < length ls → l ≡ get_or ls a l
    → one ≡ front ++ all_whole k (map literal_of (take a ls)) → two ≡ one ++ record { parent = k; literal = literal_of l; change = Some change } ∷ []
    → all ≡ two ++ all_whole k (map literal_of (take (length ls - (a + 1)) (drop (a + 1) ls))) → all ≡ front ++ changed_left k c a change
changed_left_is k c ls a l change front one two all view h at e f is =
    let new : Literal → LeftTree = λ m. record { parent = k; literal = literal_of m; change = Some change } in
    let before = all_whole k (map literal_of (take a ls)) in
    let behind = all_whole k (map literal_of (drop (suc a) ls)) in
    is ∙ ap₂ (λ ts ms. ts ++ all_whole k (map literal_of ms)) (f ∙ ap (λ ts. ts ++ new l ∷ []) e) (behind_place ls a ∙ ap (λ n. drop n ls) (add-one a))
    ∙ append_assoc (front ++ before) (new l ∷ []) behind ∙ append_assoc front before (new l ∷ behind)
    ∙ ap (λ ts. front ++ ts) (ap (λ (m : Literal). before ++ new m ∷ behind) at ∙ sym (changed_at k ls a l change h) ∙ ap (λ d. changed_left k d a change) view)

-- what the nucleus leaves, from one literal on
abbrev pub untaken_from : List Satellite → List Literal → ℕ → List LeftTree
untaken_from ss ls i = all_whole 0 (others (λ n. is_in (n + i) (map (λ k. k.0) (map clash_of ss))) (map literal_of (drop i ls)))

pub drop_next : {X : Type 0} (xs : List X) (i : ℕ) (x : X) → i < length xs → x ≡ get_or xs i x → drop i xs ≡ x ∷ drop (i + 1) xs
drop_next xs i x h is = rw (add-one, drop-cons xs i x) (ap (λ t. t ∷ drop (suc i) xs) (sym is))

pub zero_on : (i : ℕ) → 0 + i ≡ i
zero_on i = omega arith

pub next_on : (k i : ℕ) → suc k + i ≡ k + (i + 1)
next_on k i = omega arith

untaken_step : (ss : List Satellite) (ls : List Literal) (i : ℕ) (l : Literal) → i < length ls → l ≡ get_or ls i l
    → untaken_from ss ls i ≡ (if is_in i (map (λ k. k.0) (map clash_of ss)) then untaken_from ss ls (i + 1) else record { parent = 0; literal = literal_of l; change = None } ∷ untaken_from ss ls (i + 1))
untaken_step ss ls i l h at =
    let places = map (λ k. k.0) (map clash_of ss) in
    let c = map literal_of (drop (i + 1) ls) in
    ap (λ ms. all_whole 0 (others (λ n. is_in (n + i) places) (map literal_of ms))) (drop_next ls i l h at)
    ∙ ap₂ (λ n d. all_whole 0 (if is_in n places then d else literal_of l ∷ d)) (zero_on i) (others_same (λ n. is_in (suc n + i) places) (λ n. is_in (n + (i + 1)) places) c (λ n. ap (λ m. is_in m places) (next_on n i)))
    ∙ by (is_in i places) (others (λ n. is_in (n + (i + 1)) places) c)
  where
    by : (b : Bool) (d : ClauseTree) → all_whole 0 (if b then d else literal_of l ∷ d) ≡ (if b then all_whole 0 d else record { parent = 0; literal = literal_of l; change = None } ∷ all_whole 0 d)
    by true d = refl
    by false d = refl

pub untaken_out : (ss : List Satellite) (ls : List Literal) (i : ℕ) (l : Literal) (made all : List LeftTree) → i < length ls → l ≡ get_or ls i l → is_in i (map (λ k. k.0) (map clash_of ss)) ≡ true
    → made ++ untaken_from ss ls i ≡ all → made ++ untaken_from ss ls (i + 1) ≡ all
untaken_out ss ls i l made all h at e so =
    ap (λ ts. made ++ ts) (sym (untaken_step ss ls i l h at ∙ ap (λ b. if b then untaken_from ss ls (i + 1) else record { parent = 0; literal = literal_of l; change = None } ∷ untaken_from ss ls (i + 1)) e)) ∙ so

pub untaken_in : (ss : List Satellite) (ls : List Literal) (i : ℕ) (l : Literal) (made new all : List LeftTree) → i < length ls → l ≡ get_or ls i l → is_in i (map (λ k. k.0) (map clash_of ss)) ≡ false
    → new ≡ made ++ record { parent = 0; literal = literal_of l; change = None } ∷ [] → made ++ untaken_from ss ls i ≡ all → new ++ untaken_from ss ls (i + 1) ≡ all
untaken_in ss ls i l made new all h at e was so =
    ap (λ ts. ts ++ untaken_from ss ls (i + 1)) was ∙ append_assoc made (record { parent = 0; literal = literal_of l; change = None } ∷ []) (untaken_from ss ls (i + 1))
    ∙ ap (λ ts. made ++ ts) (sym (untaken_step ss ls i l h at ∙ ap (λ b. if b then untaken_from ss ls (i + 1) else record { parent = 0; literal = literal_of l; change = None } ∷ untaken_from ss ls (i + 1)) e)) ∙ so

on_zero : (k : ℕ) → k + 0 ≡ k
on_zero k = omega arith

pub untaken_end : (c : ClauseTree) (ss : List Satellite) (ls : List Literal) (i : ℕ) (made old : List LeftTree) → map literal_of ls ≡ c → length ls ≤ i → made ++ untaken_from ss ls i ≡ old ++ untaken_from ss ls 0
    → made ≡ old ++ all_whole 0 (others (λ n. is_in n (map (λ k. k.0) (map clash_of ss))) c)
untaken_end c ss ls i made old view h so =
    let places = map (λ k. k.0) (map clash_of ss) in
    sym (append-nil made) ∙ ap (λ (ms : List Literal). made ++ all_whole 0 (others (λ n. is_in (n + i) places) (map literal_of ms))) (sym (drop_all i ls h)) ∙ so
    ∙ ap (λ d. old ++ all_whole 0 d) (others_same (λ n. is_in (n + 0) places) (λ n. is_in n places) (map literal_of ls) (λ n. ap (λ m. is_in m places) (on_zero n)) ∙ ap (others (λ n. is_in n places)) view)
