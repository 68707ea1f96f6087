-- Levels that are known by the numbers of their lines.
use Rattle.std.proofs.Common.{◌≡◌, ℕ, ◌==◌, Bool, true, false, cond, if◌then◌else◌, List, [], ◌∷◌, ◌++◌, Option, Some, None, is_some, unwrap_or, refl, sym, ap, ◌∙◌, subst, eq-eqb, eqb-true}
use Rattle.std.specs.BTreeMap as tree
use Rattle.std.specs.BTreeMap.{BTreeMap}
use Rattle.std.specs.Cmp.{nat_cmp_is}
use Rattle.std.specs.Ordering.{nat_cmp, is_eq}
use Rattle.std.proofs.lemmas.Bool.{false≢true}
use Rattle.std.specs.declared.cmp.Ordering.{Ordering}
use Rattle.std.specs.declared.cmp.Ordering.TheVariants.{Less, Equal, Greater}
use Rattle.std.proofs.lemmas.Map.Lookups.{exact_unsigned}
use Rattle.prover_proofs.specs.KnownLevels.{known_level, AreLevels}
use Rattle.prover_proofs.specs.Levels.{level_among}

-- the level among lines is the known one, or 0
pub level_known : (ks : List (ℕ × ℕ)) (n : ℕ) → level_among ks n ≡ unwrap_or (known_level ks n) 0
level_known [] n = refl
level_known (k ∷ ks) n = by (k.0 == n) (level_known ks n)
  where
    by : (b : Bool) → level_among ks n ≡ unwrap_or (known_level ks n) 0
        → (if b then k.1 else level_among ks n) ≡ unwrap_or (if b then Some k.1 else known_level ks n) 0
    by true rest = refl
    by false rest = rest

pub level_there : (levels : BTreeMap ℕ ℕ) (n x : ℕ) (ks : List (ℕ × ℕ)) → Some x ≡ tree.get nat_cmp levels n → AreLevels levels ks → x ≡ level_among ks n
level_there levels n x ks there h = sym (level_known ks n ∙ ap (λ o. unwrap_or o 0) (sym (h n) ∙ sym there))

pub level_missing : (levels : BTreeMap ℕ ℕ) (n : ℕ) (ks : List (ℕ × ℕ)) → None ≡ tree.get nat_cmp levels n → AreLevels levels ks → 0 ≡ level_among ks n
level_missing levels n ks none h = sym (level_known ks n ∙ ap (λ o. unwrap_or o 0) (sym (h n) ∙ sym none))

-- one more line behind others
known_apart : (ks : List (ℕ × ℕ)) (m v n : ℕ) → (m == n) ≡ false → known_level (ks ++ (m, v) ∷ []) n ≡ known_level ks n
known_apart [] m v n e = ap (λ b. if b then Some v else None) e
known_apart (k ∷ ks) m v n e = ap (λ o. if k.0 == n then Some k.1 else o) (known_apart ks m v n e)

known_last : (ks : List (ℕ × ℕ)) (m v : ℕ) → known_level ks m ≡ None → known_level (ks ++ (m, v) ∷ []) m ≡ Some v
known_last [] m v e = ap (λ b. if b then Some v else None) (eq-eqb m m refl)
known_last (k ∷ ks) m v e = by (k.0 == m) e (known_last ks m v)
  where
    by : (b : Bool) → (if b then Some k.1 else known_level ks m) ≡ None
        → (known_level ks m ≡ None → known_level (ks ++ (m, v) ∷ []) m ≡ Some v)
        → (if b then Some k.1 else known_level (ks ++ (m, v) ∷ []) m) ≡ Some v
    by true h rest = cc
    by false h rest = rest h

known_stays : (ks more : List (ℕ × ℕ)) (n x : ℕ) → known_level ks n ≡ Some x → known_level (ks ++ more) n ≡ Some x
known_stays [] more n x e = cc
known_stays (k ∷ ks) more n x e = by (k.0 == n) e (known_stays ks more n x)
  where
    by : (b : Bool) → (if b then Some k.1 else known_level ks n) ≡ Some x
        → (known_level ks n ≡ Some x → known_level (ks ++ more) n ≡ Some x)
        → (if b then Some k.1 else known_level (ks ++ more) n) ≡ Some x
    by true h rest = h
    by false h rest = rest h

known_again : (ks : List (ℕ × ℕ)) (m v n x : ℕ) → known_level ks m ≡ Some x → known_level (ks ++ (m, v) ∷ []) n ≡ known_level ks n
known_again ks m v n x e = by (m == n) refl
  where
    by : (b : Bool) → (m == n) ≡ b → known_level (ks ++ (m, v) ∷ []) n ≡ known_level ks n
    by true h = subst (λ k. known_level (ks ++ (m, v) ∷ []) k ≡ known_level ks k) (eqb-true m n h) (known_stays ks ((m, v) ∷ []) m x e ∙ sym e)
    by false h = known_apart ks m v n h

-- a number that is known stays as it is
pub known_before : (levels : BTreeMap ℕ ℕ) (m v : ℕ) (ks : List (ℕ × ℕ)) → is_some (tree.get nat_cmp levels m) ≡ true → AreLevels levels ks → AreLevels levels (ks ++ (m, v) ∷ [])
known_before levels m v ks some h n = h n ∙ sym (by (known_level ks m) refl)
  where
    by : (o : Option ℕ) → known_level ks m ≡ o → known_level (ks ++ (m, v) ∷ []) n ≡ known_level ks n
    by None e = let bad : false ≡ true = ap is_some (sym (h m ∙ e)) ∙ some in absurd (false≢true bad)
    by (Some x) e = known_again ks m v n x e

same_number : (m n : ℕ) → is_eq (nat_cmp m n) ≡ true → m ≡ n
same_number m n h = by (nat_cmp m n) refl
  where
    by : (o : Ordering) → nat_cmp m n ≡ o → m ≡ n
    by Less e = let bad : is_eq Less ≡ true = ap is_eq (sym e) ∙ h in cc
    by Equal e = exact_unsigned m n e
    by Greater e = let bad : is_eq Greater ≡ true = ap is_eq (sym e) ∙ h in cc

other_number : (m n : ℕ) → is_eq (nat_cmp m n) ≡ false → (m == n) ≡ false
other_number m n h = by (m == n) refl
  where
    by : (b : Bool) → (m == n) ≡ b → b ≡ false
    by true e =
        let bad : is_eq (nat_cmp n n) ≡ false = subst (λ k. is_eq (nat_cmp k n) ≡ false) (eqb-true m n e) h in
        let own = nat_cmp_is n n Equal refl in cc
    by false e = refl

missing : (o : Option ℕ) → is_some o ≡ false → o ≡ None
missing None h = refl
missing (Some x) h = cc

-- another one is entered
pub entered :
    (old new : BTreeMap ℕ ℕ) (m v : ℕ) (ks : List (ℕ × ℕ)) → is_some (tree.get nat_cmp old m) ≡ false
    → ((n : ℕ) → tree.get nat_cmp new n ≡ cond (is_eq (nat_cmp m n)) (Some v) (tree.get nat_cmp old n))
    → AreLevels old ks → AreLevels new (ks ++ (m, v) ∷ [])
entered old new m v ks none more h n = more n ∙ by (is_eq (nat_cmp m n)) refl
  where
    by : (b : Bool) → is_eq (nat_cmp m n) ≡ b → cond b (Some v) (tree.get nat_cmp old n) ≡ known_level (ks ++ (m, v) ∷ []) n
    by true e = subst (λ k. Some v ≡ known_level (ks ++ (m, v) ∷ []) k) (same_number m n e) (sym (known_last ks m v (sym (h m) ∙ missing (tree.get nat_cmp old m) none)))
    by false e = h n ∙ sym (known_apart ks m v n (other_number m n e))
