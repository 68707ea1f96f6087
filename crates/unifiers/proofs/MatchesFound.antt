-- A match makes the second term, and is found where there is one.
use Rattle.std.proofs.Common.{◌≡◌, ℕ, Bool, true, false, ◌==◌, if◌then◌else◌, IsTrue, List, [], ◌∷◌, ◌++◌, Option, Some, None, unwrap_or, refl, sym, ap, ap₂, ◌∙◌, subst}
use Rattle.std.specs.Option.{option_and_then}
use Rattle.std.proofs.lemmas.Bool.{and_parts, and_from, eq-eqb, eqb-true, false≢true}
use Rattle.fol_core.specs.Substitutions.{Substitution, substitute, substitute_all}
use Rattle.fol_core.specs.Tree.{Tree, var, elem, app, Trees, none, more}
use Rattle.substitutions.specs.Bindings.{Binding, by_bindings}
use Rattle.substitutions.proofs.Composing.{first_same, others_same, arguments_same, heads_same}
use Rattle.unifiers.specs.Matching.{same_tree, same_trees, bound_term, bound_to, matched, matched_all, Agrees}

mutual
  pub tree_same : (s t : Tree) → IsTrue (same_tree s t) → s ≡ t
  tree_same (var x) (var y) h = ap var (eqb-true x y h)
  tree_same (var x) (elem n) h = absurd (false≢true h)
  tree_same (var x) (app g ts) h = absurd (false≢true h)
  tree_same (elem k) (var y) h = absurd (false≢true h)
  tree_same (elem k) (elem n) h = ap elem (eqb-true k n h)
  tree_same (elem k) (app g ts) h = absurd (false≢true h)
  tree_same (app f ss) (var y) h = absurd (false≢true h)
  tree_same (app f ss) (elem n) h = absurd (false≢true h)
  tree_same (app f ss) (app g ts) h = let p = and_parts (f == g) (same_trees ss ts) h in ap₂ app (eqb-true f g p.0) (trees_same ss ts p.1)

  pub trees_same : (ss ts : Trees) → IsTrue (same_trees ss ts) → ss ≡ ts
  trees_same none none h = refl
  trees_same none (more t ts) h = absurd (false≢true h)
  trees_same (more s ss) none h = absurd (false≢true h)
  trees_same (more s ss) (more t ts) h = let p = and_parts (same_tree s t) (same_trees ss ts) h in ap₂ more (tree_same s t p.0) (trees_same ss ts p.1)

mutual
  pub same_itself : (t : Tree) → IsTrue (same_tree t t)
  same_itself (var x) = eq-eqb x x refl
  same_itself (elem k) = eq-eqb k k refl
  same_itself (app f ts) = and_from (f == f) (same_trees ts ts) (eq-eqb f f refl) (same_themselves ts)

  pub same_themselves : (ts : Trees) → IsTrue (same_trees ts ts)
  same_themselves none = refl
  same_themselves (more t ts) = and_from (same_tree t t) (same_trees ts ts) (same_itself t) (same_themselves ts)

-- what is given stays given
abbrev pub Keeps : List Binding → List Binding → Type 0
Keeps bs cs = (x : ℕ) (u : Tree) → bound_term bs x ≡ Some u → bound_term cs x ≡ Some u

given : (cs : List Binding) (x : ℕ) (u : Tree) → bound_term cs x ≡ Some u → by_bindings cs x ≡ u
given [] x u h = cc
given (c ∷ cs) x u h = by (x == c.0) (given cs x u) h
  where
    by : (b : Bool) → (bound_term cs x ≡ Some u → by_bindings cs x ≡ u) → (if b then Some c.1 else bound_term cs x) ≡ Some u → (if b then c.1 else by_bindings cs x) ≡ u
    by true rest h = ap (λ o. unwrap_or o u) h
    by false rest h = rest h

keeps_push : (bs : List Binding) (b : Binding) → Keeps bs (bs ++ b ∷ [])
keeps_push [] b x u h = cc
keeps_push (c ∷ cs) b x u h = by (x == c.0) (keeps_push cs b x u) h
  where
    by : (d : Bool) → (bound_term cs x ≡ Some u → bound_term (cs ++ b ∷ []) x ≡ Some u) → (if d then Some c.1 else bound_term cs x) ≡ Some u → (if d then Some c.1 else bound_term (cs ++ b ∷ []) x) ≡ Some u
    by true rest h = h
    by false rest h = rest h

pushed : (bs : List Binding) (x : ℕ) (t : Tree) → bound_term bs x ≡ None → bound_term (bs ++ (x, t) ∷ []) x ≡ Some t
pushed [] x t h = ap (λ b. if b then Some t else None) (eq-eqb x x refl)
pushed (c ∷ cs) x t h = by (x == c.0) (pushed cs x t) h
  where
    by : (b : Bool) → (bound_term cs x ≡ None → bound_term (cs ++ (x, t) ∷ []) x ≡ Some t) → (if b then Some c.1 else bound_term cs x) ≡ None → (if b then Some c.1 else bound_term (cs ++ (x, t) ∷ []) x) ≡ Some t
    by true rest h = cc
    by false rest h = rest h

-- what a match gives: what was given, and the second term, also when more is given
abbrev Makes : List Binding → List Binding → Tree → Tree → Type 0
Makes bs cs s t = Keeps bs cs × ((ds : List Binding) → Keeps cs ds → substitute (by_bindings ds) s ≡ t)

abbrev MakesAll : List Binding → List Binding → Trees → Trees → Type 0
MakesAll bs cs ss ts = Keeps bs cs × ((ds : List Binding) → Keeps cs ds → substitute_all (by_bindings ds) ss ≡ ts)

bound_makes : (x : ℕ) (t : Tree) (bs cs : List Binding) → bound_to (bound_term bs x) x t bs ≡ Some cs → Makes bs cs (var x) t
bound_makes x t bs cs h = by (bound_term bs x) refl h
  where
    by : (o : Option Tree) → bound_term bs x ≡ o → bound_to o x t bs ≡ Some cs → Makes bs cs (var x) t
    by None is h =
        let e : bs ++ (x, t) ∷ [] ≡ cs = cc in
        subst (λ cs. Makes bs cs (var x) t) e (keeps_push bs (x, t), λ ds keeps. given ds x t (keeps x t (pushed bs x t is)))
    by (Some u) is h = inside (same_tree u t) refl h
      where
        inside : (b : Bool) → same_tree u t ≡ b → (if b then Some bs else None) ≡ Some cs → Makes bs cs (var x) t
        inside true e h =
            let same : bs ≡ cs = cc in
            subst (λ cs. Makes bs cs (var x) t) same ((λ y v k. k), λ ds keeps. given ds x u (keeps x u is) ∙ tree_same u t e)
        inside false e h = cc

mutual
  makes : (s t : Tree) (bs cs : List Binding) → matched s t bs ≡ Some cs → Makes bs cs s t
  makes (var x) t bs cs h = bound_makes x t bs cs h
  makes (elem k) (var y) bs cs h = cc
  makes (elem k) (elem n) bs cs h = by (k == n) refl h
    where
      by : (b : Bool) → (k == n) ≡ b → (if b then Some bs else None) ≡ Some cs → Makes bs cs (elem k) (elem n)
      by true e h = let same : bs ≡ cs = cc in subst (λ cs. Makes bs cs (elem k) (elem n)) same ((λ y v i. i), λ ds keeps. ap elem (eqb-true k n e))
      by false e h = cc
  makes (elem k) (app g ts) bs cs h = cc
  makes (app f ss) (var y) bs cs h = cc
  makes (app f ss) (elem n) bs cs h = cc
  makes (app f ss) (app g ts) bs cs h = by (f == g) refl h (λ k. makes_all ss ts bs cs k)
    where
      by : (b : Bool) → (f == g) ≡ b → (if b then matched_all ss ts bs else None) ≡ Some cs → (matched_all ss ts bs ≡ Some cs → MakesAll bs cs ss ts) → Makes bs cs (app f ss) (app g ts)
      by true e h rest = ((rest h).0, λ ds keeps. ap₂ app (eqb-true f g e) ((rest h).1 ds keeps))
      by false e h rest = cc

  makes_all : (ss ts : Trees) (bs cs : List Binding) → matched_all ss ts bs ≡ Some cs → MakesAll bs cs ss ts
  makes_all none none bs cs h = let same : bs ≡ cs = cc in subst (λ cs. MakesAll bs cs none none) same ((λ y v i. i), λ ds keeps. refl)
  makes_all none (more t ts) bs cs h = cc
  makes_all (more s ss) none bs cs h = cc
  makes_all (more s ss) (more t ts) bs cs h = by (matched s t bs) refl h (λ ds k. makes s t bs ds k) (λ ds k. makes_all ss ts ds cs k)
    where
      by : (o : Option (List Binding)) → matched s t bs ≡ o → option_and_then (λ ds. matched_all ss ts ds) o ≡ Some cs
          → ((ds : List Binding) → matched s t bs ≡ Some ds → Makes bs ds s t) → ((ds : List Binding) → matched_all ss ts ds ≡ Some cs → MakesAll ds cs ss ts) → MakesAll bs cs (more s ss) (more t ts)
      by None is h first rest = cc
      by (Some ds) is h first rest =
          let a = first ds is in
          let b = rest ds h in
          ((λ x u k. b.0 x u (a.0 x u k)), λ es keeps. ap₂ more (a.1 es (λ x u k. keeps x u (b.0 x u k))) (b.1 es keeps))

pub match_makes : (s t : Tree) (bs : List Binding) → matched s t [] ≡ Some bs → substitute (by_bindings bs) s ≡ t
match_makes s t bs h = (makes s t [] bs h).1 bs (λ x u k. k)

-- what is given is what the substitution gives
agrees_given : (u : Substitution) (bs : List Binding) (x : ℕ) (t : Tree) → Agrees u bs → bound_term bs x ≡ Some t → u x ≡ t
agrees_given u [] x t agrees h = cc
agrees_given u (b ∷ bs) x t agrees h = by (x == b.0) refl h (agrees_given u bs x t agrees.1)
  where
    by : (c : Bool) → (x == b.0) ≡ c → (if c then Some b.1 else bound_term bs x) ≡ Some t → (bound_term bs x ≡ Some t → u x ≡ t) → u x ≡ t
    by true e h rest = ap u (eqb-true x b.0 e) ∙ agrees.0 ∙ ap (λ o. unwrap_or o t) h
    by false e h rest = rest h

agrees_push : (u : Substitution) (bs : List Binding) (x : ℕ) (t : Tree) → Agrees u bs → u x ≡ t → Agrees u (bs ++ (x, t) ∷ [])
agrees_push u [] x t agrees h = (h, tt)
agrees_push u (b ∷ bs) x t agrees h = (agrees.0, agrees_push u bs x t agrees.1 h)

abbrev pub Finds : Substitution → Option (List Binding) → Type 0
Finds u o = (cs : List Binding) × (o ≡ Some cs) × Agrees u cs

bound_found : (u : Substitution) (x : ℕ) (t : Tree) (bs : List Binding) → u x ≡ t → Agrees u bs → Finds u (bound_to (bound_term bs x) x t bs)
bound_found u x t bs h agrees = by (bound_term bs x) refl
  where
    by : (o : Option Tree) → bound_term bs x ≡ o → Finds u (bound_to o x t bs)
    by None is = (bs ++ (x, t) ∷ [], refl, agrees_push u bs x t agrees h)
    by (Some v) is =
        let same : v ≡ t = sym (agrees_given u bs x v agrees is) ∙ h in
        (bs, ap (λ b. if b then Some bs else None) (subst (λ w. IsTrue (same_tree v w)) same (same_itself v)), agrees)

mutual
  finds : (u : Substitution) (s t : Tree) (bs : List Binding) → substitute u s ≡ t → Agrees u bs → Finds u (matched s t bs)
  finds u (var x) t bs h agrees = bound_found u x t bs h agrees
  finds u (elem k) (var y) bs h agrees = cc
  finds u (elem k) (elem n) bs h agrees = let same : k ≡ n = cc in (bs, ap (λ b. if b then Some bs else None) (eq-eqb k n same), agrees)
  finds u (elem k) (app g ts) bs h agrees = cc
  finds u (app f ss) (var y) bs h agrees = cc
  finds u (app f ss) (elem n) bs h agrees = cc
  finds u (app f ss) (app g ts) bs h agrees =
      let rest = finds_all u ss ts bs (arguments_same f g (substitute_all u ss) ts h) agrees in
      (rest.0, ap (λ b. if b then matched_all ss ts bs else None) (eq-eqb f g (heads_same f g (substitute_all u ss) ts h)) ∙ rest.1, rest.2)

  finds_all : (u : Substitution) (ss ts : Trees) (bs : List Binding) → substitute_all u ss ≡ ts → Agrees u bs → Finds u (matched_all ss ts bs)
  finds_all u none none bs h agrees = (bs, refl, agrees)
  finds_all u none (more t ts) bs h agrees = cc
  finds_all u (more s ss) none bs h agrees = cc
  finds_all u (more s ss) (more t ts) bs h agrees =
      let first = finds u s t bs (first_same (substitute u s) t (substitute_all u ss) ts h) agrees in
      let rest = finds_all u ss ts first.0 (others_same (substitute u s) t (substitute_all u ss) ts h) first.2 in
      (rest.0, ap (option_and_then (λ ds. matched_all ss ts ds)) first.1 ∙ rest.1, rest.2)

pub match_found : (s t : Tree) (u : Substitution) → substitute u s ≡ t → Finds u (matched s t [])
match_found s t u h = finds u s t [] h tt
