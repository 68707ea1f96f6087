-- What a substitution makes the same of small terms.
use Rattle.std.proofs.Common.{◌≡◌, inl, inr, ℕ, zero, suc, ◌<◌, List, [], ◌∷◌, ◌++◌, sym, ◌∙◌, subst, arith}
use Rattle.fol_core.specs.Substitutions.{Substitution, substitute}
use Rattle.fol_core.specs.Tree.{Tree, nodes}
use Rattle.unify.specs.Steps.{Alike, AlikeLinks, AreJoined}
use Rattle.unify.specs.declared.spot.Link.{Link}

pub alike_same : (n : ℕ) (u : Substitution) (s t : Tree) → substitute u s ≡ substitute u t → Alike n u s t
alike_same n u s t e = λ h. e

pub alike_back : (n : ℕ) (u : Substitution) (s t : Tree) → Alike n u s t → Alike n u t s
alike_back n u s t a (inl h) = sym (a (inr h))
alike_back n u s t a (inr h) = sym (a (inl h))

pub alike_on : (n : ℕ) (u : Substitution) (s t r : Tree) → Alike n u s t → Alike n u t r → Alike n u s r
alike_on n u s t r a b (inl h) = let e = a (inl h) in e ∙ b (inl (subst (λ w. nodes w < n) e h))
alike_on n u s t r a b (inr h) = let e = b (inr h) in a (inr (subst (λ w. nodes w < n) (sym e) h)) ∙ e

-- what is alike whatever the height is the same
pub alike_high : (u : Substitution) (s t : Tree) → ((n : ℕ) → Alike n u s t) → substitute u s ≡ substitute u t
alike_high u s t a = a (suc (nodes (substitute u s))) (inl (omega arith))

pub joined_alike : (n : ℕ) (u : Substitution) (bank : List Tree) (ks : List Link) → AreJoined u bank ks → AlikeLinks n u bank ks
joined_alike n u bank [] j = tt
joined_alike n u bank (k ∷ ks) j = ((λ h. j.0), joined_alike n u bank ks j.1)

pub alike_front : (n : ℕ) (u : Substitution) (bank : List Tree) (ks js : List Link) → AlikeLinks n u bank (ks ++ js) → AlikeLinks n u bank ks
alike_front n u bank [] js a = tt
alike_front n u bank (k ∷ ks) js a = (a.0, alike_front n u bank ks js a.1)

pub alike_behind : (n : ℕ) (u : Substitution) (bank : List Tree) (ks js : List Link) → AlikeLinks n u bank (ks ++ js) → AlikeLinks n u bank js
alike_behind n u bank [] js a = a
alike_behind n u bank (k ∷ ks) js a = alike_behind n u bank ks js a.1

pub joined_front : (u : Substitution) (bank : List Tree) (ks js : List Link) → AreJoined u bank (ks ++ js) → AreJoined u bank ks
joined_front u bank [] js a = tt
joined_front u bank (k ∷ ks) js a = (a.0, joined_front u bank ks js a.1)

pub joined_both : (u : Substitution) (bank : List Tree) (ks js : List Link) → AreJoined u bank ks → AreJoined u bank js → AreJoined u bank (ks ++ js)
joined_both u bank [] js a b = b
joined_both u bank (k ∷ ks) js a b = (a.0, joined_both u bank ks js a.1 b)

-- links that are kept where smaller ones are, are kept whatever the height
pub all_alike : (u : Substitution) (bank : List Tree) (ks : List Link) → ((n : ℕ) → AlikeLinks n u bank ks → AlikeLinks (suc n) u bank ks) → (n : ℕ) → AlikeLinks n u bank ks
all_alike u bank ks up zero = none_small ks
  where
    none_small : (js : List Link) → AlikeLinks 0 u bank js
    none_small [] = tt
    none_small (j ∷ js) = ((λ h. elim h [ inl k ↦ absurd (omega arith) | inr k ↦ absurd (omega arith) ]), none_small js)
all_alike u bank ks up (suc n) = up n (all_alike u bank ks up n)
