-- A form behind existential quantifiers: a Skolem constant for each of their variables.
use Rattle.std.proofs.Common.{◌≡◌, ◌<◌, ◌≤◌, ℕ, ◌+◌, List, [], ◌∷◌, ◌++◌, length, drop, get_or, map, refl, sym, ap, ◌∙◌, arith, add-one, drop-cons, append_assoc, slice_index, subst}
use Rattle.std.proofs.lemmas.List.{drop_all}
use Rattle.fol_core.specs.EntryView.{skolem_axiom_of, some_over}
use Rattle.fol_core.specs.Fol.{Fol, exists}
use Rattle.fol_core.specs.Substitutions.{Substitution, with_term}
use Rattle.clausify.specs.Clausal.{clauses_in}
use Rattle.clausify.specs.Made.{axioms_at, BeginsWork, LeadsWork}
use Rattle.clausify.specs.Skolem.{substitute_in, skolem_axioms, skolem_term}
use Rattle.clausify.specs.View.{substitution_kept}
use Rattle.clausify.specs.declared.clausal.Work.{Work}

front : (xs : List ℕ) (i : ℕ) → i < length xs → drop i xs ≡ get_or xs i 0 ∷ drop (i + 1) xs
front xs i lt = rw (add-one, drop-cons xs i 0) refl

-- terms are put in behind existential quantifiers
pub put_behind : (values : Substitution) (xs : List ℕ) (f : Fol) → some_over xs (substitute_in values f) ≡ substitute_in values (some_over xs f)
put_behind values [] f = refl
put_behind values (x ∷ xs) f = ap (exists x) (put_behind values xs f)

abbrev put_at : List ℕ → Work → ℕ → Substitution
put_at symbols a x = with_term (substitution_kept a.terms.items) x (skolem_term (slice_index symbols (length a.entries.items)) a.scope.items)

-- where the work stands behind a variable that it began
moved : {R : Type 0} (P : ℕ → List ℕ → Substitution → R) (symbols : List ℕ) (a b : Work) (x : ℕ) (body : Fol) → BeginsWork symbols a b x body
    → P (length a.entries.items + 1) a.scope.items (put_at symbols a x) ≡ P (length b.entries.items) b.scope.items (substitution_kept b.terms.items)
moved P symbols a b x body begun =
    ap (λ k. P k a.scope.items (put_at symbols a x)) (sym begun.1)
    ∙ ap (λ s. P (length b.entries.items) s (put_at symbols a x)) (sym begun.2)
    ∙ ap (λ ts. P (length b.entries.items) b.scope.items ts) (sym begun.5)

-- to begin with a variable is to stand in front of its body
leads_some : (symbols : List ℕ) (a b : Work) (x : ℕ) (g : Fol) → BeginsWork symbols a b x (substitute_in (substitution_kept a.terms.items) g) → LeadsWork symbols a b (exists x g) g
leads_some symbols a b x g begun =
    let body = substitute_in (substitution_kept a.terms.items) g in (
      moved (λ k s ts. clauses_in symbols k s ts g) symbols a b x body begun,
      sym (
          ap (λ ws. ws ++ axioms_at symbols b g) begun.0
          ∙ append_assoc (map skolem_axiom_of a.entries.items) (record { symbol = slice_index symbols (length a.entries.items); variables = a.scope.items; variable = x; body = body } ∷ []) (axioms_at symbols b g)
          ∙ ap (λ ws. map skolem_axiom_of a.entries.items ++ record { symbol = slice_index symbols (length a.entries.items); variables = a.scope.items; variable = x; body = body } ∷ ws)
          (sym (moved (λ k s ts. skolem_axioms symbols k s ts g) symbols a b x body begun))
          ),
      omega (arith, begun.1),
    )

leads_through : (symbols : List ℕ) (a b c : Work) (f g h : Fol) → LeadsWork symbols a b f g → LeadsWork symbols b c g h → LeadsWork symbols a c f h
leads_through symbols a b c f g h p q = (p.0 ∙ q.0, p.1 ∙ q.1, p.2 ∙ q.2)

-- one more variable
pub leads_next : (symbols : List ℕ) (start a b : Work) (xs : List ℕ) (f g : Fol) (i : ℕ) → i < length xs
    → LeadsWork symbols start a g (some_over (drop i xs) f)
    → BeginsWork symbols a b (get_or xs i 0) (substitute_in (substitution_kept a.terms.items) (some_over (drop (i + 1) xs) f))
    → LeadsWork symbols start b g (some_over (drop (i + 1) xs) f)
leads_next symbols start a b xs f g i lt before begun =
    let rest = some_over (drop (i + 1) xs) f in
    let there : LeadsWork symbols start a g (exists (get_or xs i 0) rest) = subst (λ ys. LeadsWork symbols start a g (some_over ys f)) (front xs i lt) before in
    leads_through symbols start a b g (exists (get_or xs i 0) rest) rest there (leads_some symbols a b (get_or xs i 0) rest begun)

-- and none
pub leads_end : (symbols : List ℕ) (start a : Work) (xs : List ℕ) (f g : Fol) (i : ℕ) → length xs ≤ i
    → LeadsWork symbols start a g (some_over (drop i xs) f) → LeadsWork symbols start a g f
leads_end symbols start a xs f g i end before = subst (λ ys. LeadsWork symbols start a g (some_over ys f)) (drop_all i xs end) before
