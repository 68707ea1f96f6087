-- Terms with a variable in place of each part that a signature has not: those of the signature stay.
use Rattle.std.proofs.Common.{◌≡◌, ℕ, suc, Bool, true, false, if◌then◌else◌, IsTrue, refl, sym, ap, ap₂, ◌∙◌}
use Rattle.fol_core.specs.Substitutions.{Substitution, substitute, substitute_all}
use Rattle.fol_core.specs.Tree.{Tree, var, elem, app, Trees, none, more}
use Rattle.substitutions.proofs.Composing.{arguments_same, first_same, others_same}
use Rattle.derivation_laws.specs.Signatures.{Signature, argument_count, IsTermIn, AreTermsIn, IsAtomIn}

count_put : (s : Substitution) (ts : Trees) → argument_count (substitute_all s ts) ≡ argument_count ts
count_put s none = refl
count_put s (more t ts) = ap suc (count_put s ts)

module _ (g : Signature) where
  abbrev mutual
    pub erased : Tree → Tree
    erased (var x) = var x
    erased (elem k) = if g.elements k then elem k else var 0
    erased (app f ts) = if g.functions f (argument_count ts) then app f (all_erased ts) else var 0

    pub all_erased : Trees → Trees
    all_erased none = none
    all_erased (more t ts) = more (erased t) (all_erased ts)

  abbrev pub erased_for : Substitution → Substitution
  erased_for s = λ x. erased (s x)

  count_erased : (ts : Trees) → argument_count (all_erased ts) ≡ argument_count ts
  count_erased none = refl
  count_erased (more t ts) = ap suc (count_erased ts)

  mutual
    -- what is left is in the signature
    pub erased_in : (t : Tree) → IsTermIn g (erased t)
    erased_in (var x) = tt
    erased_in (elem k) = by (g.elements k) refl
      where
        by : (b : Bool) → g.elements k ≡ b → IsTermIn g (if b then elem k else var 0)
        by true e = e
        by false e = tt
    erased_in (app f ts) = by (g.functions f (argument_count ts)) refl (all_erased_in ts)
      where
        by : (b : Bool) → g.functions f (argument_count ts) ≡ b → AreTermsIn g (all_erased ts) → IsTermIn g (if b then app f (all_erased ts) else var 0)
        by true e rest = (ap (g.functions f) (count_erased ts) ∙ e, rest)
        by false e rest = tt

    all_erased_in : (ts : Trees) → AreTermsIn g (all_erased ts)
    all_erased_in none = tt
    all_erased_in (more t ts) = (erased_in t, all_erased_in ts)

  mutual
    -- an instance of a term of the signature is in it where the terms that are put in are
    pub term_put_in : (s : Substitution) → ((x : ℕ) → IsTermIn g (s x)) → (t : Tree) → IsTermIn g t → IsTermIn g (substitute s t)
    term_put_in s h (var x) i = h x
    term_put_in s h (elem k) i = i
    term_put_in s h (app f ts) i = (ap (g.functions f) (count_put s ts) ∙ i.0, terms_put_in s h ts i.1)

    pub terms_put_in : (s : Substitution) → ((x : ℕ) → IsTermIn g (s x)) → (ts : Trees) → AreTermsIn g ts → AreTermsIn g (substitute_all s ts)
    terms_put_in s h none i = tt
    terms_put_in s h (more t ts) i = (term_put_in s h t i.0, terms_put_in s h ts i.1)

  -- where terms and atoms have the same symbols, a term is an atom
  as_atom : ((f n : ℕ) → g.functions f n ≡ g.relations f n) → (t : Tree) → IsTermIn g t → IsAtomIn g t
  as_atom one (var x) i = one
  as_atom one (elem k) i = i
  as_atom one (app r ts) i = (sym (one r (argument_count ts)) ∙ i.0, i.1)

  pub atom_put_in : (s : Substitution) → ((x : ℕ) → IsTermIn g (s x)) → (t : Tree) → IsAtomIn g t → IsAtomIn g (substitute s t)
  atom_put_in s h (var x) i = as_atom i (s x) (h x)
  atom_put_in s h (elem k) i = i
  atom_put_in s h (app r ts) i = (ap (g.relations r) (count_put s ts) ∙ i.0, terms_put_in s h ts i.1)

  mutual
    -- a term of the signature stays
    pub term_stays : (t : Tree) → IsTermIn g t → erased t ≡ t
    term_stays (var x) i = refl
    term_stays (elem k) i = ap (λ (b : Bool). if b then elem k else var 0) i
    term_stays (app f ts) i = ap₂ (λ (b : Bool) us. if b then app f us else var 0) i.0 (terms_stay ts i.1)

    terms_stay : (ts : Trees) → AreTermsIn g ts → all_erased ts ≡ ts
    terms_stay none i = refl
    terms_stay (more t ts) i = ap₂ more (term_stays t i.0) (terms_stay ts i.1)

  mutual
    -- an instance of one is erased with the terms that are put in
    pub term_put : (s : Substitution) (t : Tree) → IsTermIn g t → erased (substitute s t) ≡ substitute (erased_for s) t
    term_put s (var x) i = refl
    term_put s (elem k) i = ap (λ (b : Bool). if b then elem k else var 0) i
    term_put s (app f ts) i = ap₂ (λ (b : Bool) us. if b then app f us else var 0) (ap (g.functions f) (count_put s ts) ∙ i.0) (terms_put s ts i.1)

    pub terms_put : (s : Substitution) (ts : Trees) → AreTermsIn g ts → all_erased (substitute_all s ts) ≡ substitute_all (erased_for s) ts
    terms_put s none i = refl
    terms_put s (more t ts) i = ap₂ more (term_put s t i.0) (terms_put s ts i.1)

  mutual
    -- a term of which putting in terms makes the erased one is in the signature
    whole : (u : Substitution) (t : Tree) → erased t ≡ substitute u t → IsTermIn g t
    whole u (var x) h = tt
    whole u (elem k) h = by (g.elements k) h
      where
        by : (b : Bool) → (if b then elem k else var 0) ≡ elem k → IsTrue b
        by true e = refl
        by false e = absurd (cc)
    whole u (app f ts) h = by (g.functions f (argument_count ts)) h (all_whole u ts)
      where
        by : (b : Bool) → (if b then app f (all_erased ts) else var 0) ≡ app f (substitute_all u ts) → (all_erased ts ≡ substitute_all u ts → AreTermsIn g ts) → IsTrue b × AreTermsIn g ts
        by true e rest = (refl, rest (arguments_same f f (all_erased ts) (substitute_all u ts) e))
        by false e rest = absurd (cc)

    pub all_whole : (u : Substitution) (ts : Trees) → all_erased ts ≡ substitute_all u ts → AreTermsIn g ts
    all_whole u none h = tt
    all_whole u (more t ts) h = (
      whole u t (first_same (erased t) (substitute u t) (all_erased ts) (substitute_all u ts) h),
      all_whole u ts (others_same (erased t) (substitute u t) (all_erased ts) (substitute_all u ts) h),
    )

  -- the same for atoms
  abbrev pub erased_atom : Tree → Tree
  erased_atom (var x) = var x
  erased_atom (elem k) = if g.elements k then elem k else var 0
  erased_atom (app r ts) = if g.relations r (argument_count ts) then app r (all_erased ts) else var 0

  erased_as_atom : ((f n : ℕ) → g.functions f n ≡ g.relations f n) → (t : Tree) → erased_atom t ≡ erased t
  erased_as_atom one (var x) = refl
  erased_as_atom one (elem k) = refl
  erased_as_atom one (app r ts) = ap (λ (b : Bool). if b then app r (all_erased ts) else var 0) (sym (one r (argument_count ts)))

  pub atom_put : (s : Substitution) (t : Tree) → IsAtomIn g t → erased_atom (substitute s t) ≡ substitute (erased_for s) t
  atom_put s (var x) i = erased_as_atom i (s x)
  atom_put s (elem k) i = ap (λ (b : Bool). if b then elem k else var 0) i
  atom_put s (app r ts) i = ap₂ (λ (b : Bool) us. if b then app r us else var 0) (ap (g.relations r) (count_put s ts) ∙ i.0) (terms_put s ts i.1)

  -- an instance of an atom of the signature is in it where the erased terms make an instance of it
  pub atom_instance : (s u : Substitution) (t : Tree) → IsAtomIn g t → substitute (erased_for s) t ≡ substitute u (substitute s t) → IsAtomIn g (substitute s t)
  atom_instance s u (var x) i h = as_atom i (s x) (whole u (s x) h)
  atom_instance s u (elem k) i h = i
  atom_instance s u (app r ts) i h = (
    ap (g.relations r) (count_put s ts) ∙ i.0,
    all_whole u (substitute_all s ts)
        (terms_put s ts i.1 ∙ arguments_same r r (substitute_all (erased_for s) ts) (substitute_all u (substitute_all s ts)) h),
  )
