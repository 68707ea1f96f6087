-- Arguments of a term one after the other, with another term in the one of a number.
use Rattle.std.proofs.Common.{◌≡◌, ℕ, suc, ◌+◌, ◌-◌, ◌<◌, ◌≤◌, ◌==◌, Bool, true, false, if◌then◌else◌, List, [], ◌∷◌, ◌++◌, map, length, take, slice_index_or, inl, inr, refl, sym, ap, ap₂, ◌∙◌, subst, arith}
use Rattle.std.proofs.lemmas.Bool.{cases_eq, eq-eqb, ne_eqb}
use Rattle.std.proofs.lemmas.List.{take_all, take_more, map-append, length-take-le}
use Rattle.clause_limits.specs.Sizes.{measured, measured_all, beside, under_symbol}
use Rattle.clause_limits.specs.declared.measured.Measure.{Measure}
use Rattle.clause_limits.proofs.Beside.{measured_push, measured_under}
use Rattle.fol_core.specs.Substitutions.{Substitution, substitute, substitute_all}
use Rattle.fol_core.specs.TermView.{tree_of, tree_list}
use Rattle.fol_core.specs.Tree.{Tree, app, more, trees_of}
use Rattle.fol_core.specs.declared.term.Term.{Term}
use Rattle.fol_core.proofs.Putting.{put_each}
use Rattle.inference.specs.Left.{changed, changed_all}
use Rattle.term_unifiers.specs.Written.{IsWritten, AreWritten}
use Rattle.term_unifiers.proofs.Written.{next_written, application_written}

-- what one makes of items, and another of the one of a number
abbrev pub list_two : (Term → Tree) → (Term → Tree) → List Term → ℕ → List Tree
list_two here else_where [] k = []
list_two here else_where (t ∷ ts) k = if k == 1 then here t ∷ map else_where ts else else_where t ∷ list_two here else_where ts (k - 1)

number_less : (k n : ℕ) → (k ≡ 1 → ⊥) → (k - 1 == n + 1) ≡ (k == suc n + 1)
number_less k n d = elim (cases_eq k (suc n + 1)) [
  | inl e ↦ eq-eqb (k - 1) (n + 1) (omega (arith, e)) ∙ sym (eq-eqb k (suc n + 1) e)
  | inr f ↦ ne_eqb (k - 1) (n + 1) (λ e. f (omega (arith, e, d))) ∙ sym (ne_eqb k (suc n + 1) f)
]

-- one more behind them
list_push : (f g : Term → Tree) (us : List Term) (u : Term) (k : ℕ) → list_two f g (us ++ u ∷ []) k ≡ list_two f g us k ++ (if k == length us + 1 then f u else g u) ∷ []
list_push f g [] u k = by (k == 1)
  where
    by : (b : Bool) → (if b then f u ∷ [] else g u ∷ []) ≡ (if b then f u else g u) ∷ []
    by true = refl
    by false = refl
list_push f g (t ∷ us) u k = elim (cases_eq k 1) [
  | inl e ↦
      ap (λ b. if b then f t ∷ map g (us ++ u ∷ []) else g t ∷ list_two f g (us ++ u ∷ []) (k - 1)) (eq-eqb k 1 e) ∙ ap (λ vs. f t ∷ vs) (map-append g us (u ∷ []))
      ∙ sym (ap₂ (λ b d. (if b then f t ∷ map g us else g t ∷ list_two f g us (k - 1)) ++ (if d then f u else g u) ∷ []) (eq-eqb k 1 e) (ne_eqb k (suc (length us) + 1) (λ h. absurd (omega (arith, e, h)))))
  | inr d ↦
      ap (λ b. if b then f t ∷ map g (us ++ u ∷ []) else g t ∷ list_two f g (us ++ u ∷ []) (k - 1)) (ne_eqb k 1 d)
      ∙ ap (λ vs. g t ∷ vs) (list_push f g us u (k - 1) ∙ ap (λ b. list_two f g us (k - 1) ++ (if b then f u else g u) ∷ []) (number_less k (length us) d))
      ∙ sym (ap (λ b. (if b then f t ∷ map g us else g t ∷ list_two f g us (k - 1)) ++ (if k == suc (length us) + 1 then f u else g u) ∷ []) (ne_eqb k 1 d))
]

-- the first arguments of a term in an instance, one of them with another term at a path
abbrev pub put_in : Substitution → Term → Tree
put_in s t = substitute s (tree_of t)

abbrev pub put_changed : Substitution → List ℕ → Tree → Term → Tree
put_changed s path new t = changed s (tree_of t) path new

abbrev pub changed_so_far : Substitution → List ℕ → Tree → List Term → ℕ → ℕ → List Tree
changed_so_far s path new xs i k = list_two (put_changed s path new) (put_in s) (take i xs) k

far_next : (s : Substitution) (path : List ℕ) (new : Tree) (xs : List Term) (i k : ℕ) (x : Term) → i < length xs → x ≡ slice_index_or xs i x
    → changed_so_far s path new xs (i + 1) k ≡ changed_so_far s path new xs i k ++ (if k == i + 1 then put_changed s path new x else put_in s x) ∷ []
far_next s path new xs i k x h at =
    let count : length (take i xs) ≡ i = length-take-le i xs (omega (arith, h)) in
    ap (λ us. list_two (put_changed s path new) (put_in s) us k) (take_more xs i x h ∙ ap (λ y. take i xs ++ y ∷ []) (sym at))
    ∙ list_push (put_changed s path new) (put_in s) (take i xs) x k
    ∙ ap (λ n. changed_so_far s path new xs i k ++ (if k == n + 1 then put_changed s path new x else put_in s x) ∷ []) count

listed : (s : Substitution) (path : List ℕ) (new : Tree) (xs : List Term) (k : ℕ) → trees_of (list_two (put_changed s path new) (put_in s) xs k) ≡ changed_all s (trees_of (tree_list xs)) k path new
listed s path new [] k = refl
listed s path new (x ∷ xs) k =
    by (k == 1) ∙ ap (λ us. if k == 1 then more (put_changed s path new x) (substitute_all s (trees_of (tree_list xs))) else more (put_in s x) us) (listed s path new xs (k - 1))
  where
    by : (b : Bool) → trees_of (if b then put_changed s path new x ∷ map (put_in s) xs else put_in s x ∷ list_two (put_changed s path new) (put_in s) xs (k - 1))
        ≡ (if b then more (put_changed s path new x) (substitute_all s (trees_of (tree_list xs))) else more (put_in s x) (trees_of (list_two (put_changed s path new) (put_in s) xs (k - 1))))
    by true = ap (more (put_changed s path new x)) (put_each s xs)
    by false = refl

far_all : (s : Substitution) (f : ℕ) (xs ts : List Term) (us : List Tree) (i k : ℕ) (path : List ℕ) (new : Tree) → length xs ≤ i → xs ≡ ts → tree_list ts ≡ us
    → app f (trees_of (changed_so_far s path new xs i k)) ≡ changed s (app f (trees_of us)) (k ∷ path) new
far_all s f xs ts us i k path new h same view =
    ap (app f) (ap (λ l. trees_of (list_two (put_changed s path new) (put_in s) l k)) (take_all i xs h ∙ same) ∙ listed s path new ts k ∙ ap (λ l. changed_all s (trees_of l) k path new) view)

here : {X : Type 0} (k i : ℕ) (x y : X) → i + 1 ≡ k → x ≡ (if k == i + 1 then x else y)
here k i x y e = sym (ap (λ b. if b then x else y) (eq-eqb k (i + 1) (sym e)))

not_here : {X : Type 0} (k i : ℕ) (x y : X) → (i + 1 ≡ k → ⊥) → y ≡ (if k == i + 1 then x else y)
not_here k i x y d = sym (ap (λ b. if b then x else y) (ne_eqb k (i + 1) (λ e. d (sym e))))

-- how large they are: the one that is changed, another one, and all of them under their symbol
measured_far : (s : Substitution) (path : List ℕ) (new : Tree) (xs : List Term) (i k : ℕ) (x : Term) (u : Tree) (m n all : Measure) → i < length xs → x ≡ slice_index_or xs i x
    → u ≡ (if k == i + 1 then put_changed s path new x else put_in s x) → m ≡ measured_all (trees_of (changed_so_far s path new xs i k)) → n ≡ measured u → all ≡ beside m n
    → all ≡ measured_all (trees_of (changed_so_far s path new xs (i + 1) k))
measured_far s path new xs i k x u m n all h at which before one is =
    is ∙ ap₂ beside before one ∙ measured_push (changed_so_far s path new xs i k) u
    ∙ ap (λ us. measured_all (trees_of us)) (ap (λ v. changed_so_far s path new xs i k ++ v ∷ []) which ∙ sym (far_next s path new xs i k x h at))

pub measured_here : (s : Substitution) (path : List ℕ) (new : Tree) (xs : List Term) (i k : ℕ) (x : Term) (m n all : Measure) → i < length xs → x ≡ slice_index_or xs i x → i + 1 ≡ k
    → m ≡ measured_all (trees_of (changed_so_far s path new xs i k)) → n ≡ measured (put_changed s path new x) → all ≡ beside m n → all ≡ measured_all (trees_of (changed_so_far s path new xs (i + 1) k))
measured_here s path new xs i k x m n all h at e before one is = measured_far s path new xs i k x (put_changed s path new x) m n all h at (here k i (put_changed s path new x) (put_in s x) e) before one is

pub measured_there : (s : Substitution) (path : List ℕ) (new : Tree) (xs : List Term) (i k : ℕ) (x : Term) (m n all : Measure) → i < length xs → x ≡ slice_index_or xs i x → (i + 1 ≡ k → ⊥)
    → m ≡ measured_all (trees_of (changed_so_far s path new xs i k)) → n ≡ measured (put_in s x) → all ≡ beside m n → all ≡ measured_all (trees_of (changed_so_far s path new xs (i + 1) k))
measured_there s path new xs i k x m n all h at d before one is = measured_far s path new xs i k x (put_in s x) m n all h at (not_here k i (put_changed s path new x) (put_in s x) d) before one is

pub measured_changed : (s : Substitution) (f : ℕ) (xs ts : List Term) (us : List Tree) (i k : ℕ) (path : List ℕ) (new : Tree) (m n : Measure) → m ≡ measured_all (trees_of (changed_so_far s path new xs i k)) → n ≡ under_symbol m
    → length xs ≤ i → xs ≡ ts → tree_list ts ≡ us → n ≡ measured (changed s (app f (trees_of us)) (k ∷ path) new)
measured_changed s f xs ts us i k path new m n before is h same view =
    is ∙ ap under_symbol before ∙ measured_under f (trees_of (changed_so_far s path new xs i k)) ∙ ap measured (far_all s f xs ts us i k path new h same view)

-- and how they are written
written_far : (s : Substitution) (path : List ℕ) (new : Tree) (xs : List Term) (i k : ℕ) (x : Term) (u : Tree) (old mid end : List ℕ) (ts made : List Tree) (t : Tree) → i < length xs → x ≡ slice_index_or xs i x
    → u ≡ (if k == i + 1 then put_changed s path new x else put_in s x) → made ≡ ts ++ t ∷ [] → AreWritten old mid (changed_so_far s path new xs i k) ts → IsWritten mid end u t
    → AreWritten old end (changed_so_far s path new xs (i + 1) k) made
written_far s path new xs i k x u old mid end ts made t h at which pushed before one =
    subst (λ l. AreWritten old end l made) (ap (λ v. changed_so_far s path new xs i k ++ v ∷ []) which ∙ sym (far_next s path new xs i k x h at))
    (subst (λ l. AreWritten old end (changed_so_far s path new xs i k ++ u ∷ []) l) (sym pushed) (next_written old mid end (changed_so_far s path new xs i k) ts u t before one))

pub written_here : (s : Substitution) (path : List ℕ) (new : Tree) (xs : List Term) (i k : ℕ) (x : Term) (old mid end : List ℕ) (ts made : List Tree) (t : Tree) → i < length xs → x ≡ slice_index_or xs i x → i + 1 ≡ k
    → made ≡ ts ++ t ∷ [] → AreWritten old mid (changed_so_far s path new xs i k) ts → IsWritten mid end (put_changed s path new x) t → AreWritten old end (changed_so_far s path new xs (i + 1) k) made
written_here s path new xs i k x old mid end ts made t h at e pushed before one =
    written_far s path new xs i k x (put_changed s path new x) old mid end ts made t h at (here k i (put_changed s path new x) (put_in s x) e) pushed before one

pub written_there : (s : Substitution) (path : List ℕ) (new : Tree) (xs : List Term) (i k : ℕ) (x : Term) (old mid end : List ℕ) (ts made : List Tree) (t : Tree) → i < length xs → x ≡ slice_index_or xs i x → (i + 1 ≡ k → ⊥)
    → made ≡ ts ++ t ∷ [] → AreWritten old mid (changed_so_far s path new xs i k) ts → IsWritten mid end (put_in s x) t → AreWritten old end (changed_so_far s path new xs (i + 1) k) made
written_there s path new xs i k x old mid end ts made t h at d pushed before one =
    written_far s path new xs i k x (put_in s x) old mid end ts made t h at (not_here k i (put_changed s path new x) (put_in s x) d) pushed before one

pub written_changed : (s : Substitution) (f : ℕ) (old end : List ℕ) (xs ts : List Term) (us made : List Tree) (i k : ℕ) (path : List ℕ) (new : Tree) → AreWritten old end (changed_so_far s path new xs i k) made
    → length xs ≤ i → xs ≡ ts → tree_list ts ≡ us → IsWritten old end (changed s (app f (trees_of us)) (k ∷ path) new) (app f (trees_of made))
written_changed s f old end xs ts us made i k path new is h same view =
    subst (λ u. IsWritten old end u (app f (trees_of made))) (far_all s f xs ts us i k path new h same view) (application_written old end f (changed_so_far s path new xs i k) made is)
