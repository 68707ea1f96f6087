-- Why nothing comes of a place: the literal is no positive equation, the term is a variable, or nothing makes it the side.
use Rattle.std.proofs.Common.{◌≡◌, ℕ, ◌<◌, ◌≤◌, length, get_or, map, Bool, true, false, not, ◌==◌, ◌&&◌, if◌then◌else◌, IsTrue, List, [], ◌∷◌, Option, Some, None, unwrap_or, refl, sym, ap, ◌∙◌, subst}
use Rattle.std.proofs.lemmas.Bool.{and_parts, false≢true}
use Rattle.fol_core.specs.ClauseView.{literal_of}
use Rattle.fol_core.specs.Literals.{ClauseTree}
use Rattle.fol_core.specs.TermView.{tree_of}
use Rattle.fol_core.specs.declared.clause.Literal.{Literal}
use Rattle.fol_core.specs.Substitutions.{Substitution, substitute}
use Rattle.substitutions.specs.Apart.{Own, instances}
use Rattle.fol_core.specs.Tree.{Tree, var, elem, app, none, more}
use Rattle.derivation.specs.Equations.{is_equation, left_of, right_of, below, is_no_variable, term_below}
use Rattle.derivation.specs.Lines.{paramodulated, para_inference, xx_resolved, xx_inference}
use Rattle.derivation.specs.Places.{atom_at, has_literal}
use Rattle.derivation.specs.Rule.{AreSame}
use Rattle.derivation.specs.Words.{side_of, para_rule}
use Rattle.derivation.proofs.Lawful.{ParaFits, para_parts}
use Rattle.derivation.proofs.Naturality.{atom_of_put, atom_at_put, below_put}
use Rattle.proof_words.specs.Written.{by_para, by_xx_res}
use Rattle.prover_steps.specs.Clashing.{Held, places_of}
use Rattle.prover_steps.specs.Concluded.{inferred}
use Rattle.prover_steps.specs.Equalities.{from_sides, into_paths}
use Rattle.discrim_tree.specs.Meeting.{NeverMeet}
use Rattle.resolution.proofs.Failing.{none_concluded, none_inferred}
use Rattle.resolution.proofs.AllWays.{negative_there}
use Rattle.resolution.proofs.Going.{flat_none}
use Rattle.resolution.proofs.Meetings.{literal_past, atom_there, positive_there}
use Rattle.paramod.specs.Sites.{SiteTree, site, replacing_side, atom_into, paramodulant_at, paramodulants_in, paramodulants_by, literal_tried, NeverReplaced, NeverReflects}

left_put : (s : Substitution) (t : Tree) → IsTrue (is_equation t) → left_of (substitute s t) ≡ substitute s (left_of t)
left_put s (app r (more u (more v none))) h = refl
left_put s (app r none) h = absurd (false≢true h)
left_put s (app r (more u none)) h = absurd (false≢true h)
left_put s (app r (more u (more v (more w ts)))) h = absurd (false≢true h)
left_put s (var x) h = absurd (false≢true h)
left_put s (elem k) h = absurd (false≢true h)

right_put : (s : Substitution) (t : Tree) → IsTrue (is_equation t) → right_of (substitute s t) ≡ substitute s (right_of t)
right_put s (app r (more u (more v none))) h = refl
right_put s (app r none) h = absurd (false≢true h)
right_put s (app r (more u none)) h = absurd (false≢true h)
right_put s (app r (more u (more v (more w ts)))) h = absurd (false≢true h)
right_put s (var x) h = absurd (false≢true h)
right_put s (elem k) h = absurd (false≢true h)

side_put : (s : Substitution) (n : ℕ) (t : Tree) → IsTrue (is_equation t) → side_of n (substitute s t) ≡ substitute s (side_of n t)
side_put s n t h = by (n == 1)
  where
    by : (b : Bool) → (if b then left_of (substitute s t) else right_of (substitute s t)) ≡ substitute s (if b then left_of t else right_of t)
    by true = left_put s t h
    by false = right_put s t h

-- a literal that is no positive equation, a path that isn't there, or a term that is never replaced
pub none_beside : (s : SiteTree) (path : List ℕ)
    → (IsTrue (has_literal true s.from.clause s.equation) → IsTrue (is_equation (atom_at s.from.clause s.equation)) → (t : Tree) → below (atom_into s) path ≡ Some t → NeverReplaced (replacing_side s) t)
    → paramodulant_at s path ≡ []
none_beside s path never =
    let c = s.from.clause in
    let d = s.into.clause in
    let a = s.equation in
    let b = s.literal in
    none_inferred (by_para s.from.number a s.side s.into.number b path) (para_inference s.from.number a s.side s.into.number b path) (c ∷ d ∷ []) refl
    (none_concluded (paramodulated s.from.number a s.side s.into.number b path) (para_inference s.from.number a s.side s.into.number b path) (c ∷ d ∷ []) refl
    (λ fits own same. clashes own same (para_parts a s.side b path c d fits)))
  where
    clashes : (own : Own) → AreSame ((para_rule s.equation s.side s.literal path).pairs (instances own (s.from.clause ∷ s.into.clause ∷ []))) → ParaFits s.equation s.side s.literal path s.from.clause s.into.clause → ⊥
    clashes own same p = by (below (atom_into s) path) refl p.there
      where
        by : (o : Option Tree) → below (atom_into s) path ≡ o → IsTrue (is_no_variable o) → ⊥
        by None there is = absurd (false≢true is)
        by (Some t) there is =
            never p.positive p.equal t there is (own 0) (own 1)
            (sym (ap (side_of s.side) (atom_of_put (own 0) true s.from.clause s.equation p.positive) ∙ side_put (own 0) s.side (atom_at s.from.clause s.equation) p.equal) ∙ same.0
            ∙ ap (λ u. term_below u path) (atom_at_put (own 1) s.into.clause s.literal p.place) ∙ ap (λ o. unwrap_or o (var 0)) (below_put (own 1) (atom_at s.into.clause s.literal) path t there))

pub none_replaced : (s : SiteTree) (path : List ℕ) (t : Tree) → below (atom_into s) path ≡ Some t → NeverReplaced (replacing_side s) t → paramodulant_at s path ≡ []
none_replaced s path t there never = none_beside s path (λ positive equal u is. subst (NeverReplaced (replacing_side s)) (same u is) never)
  where
    same : (u : Tree) → below (atom_into s) path ≡ Some u → t ≡ u
    same u is = let both : Some t ≡ Some u = sym there ∙ is in cc

-- a literal that is no positive equation
pub none_from : (s : SiteTree) (path : List ℕ) → has_literal true s.from.clause s.equation && is_equation (atom_at s.from.clause s.equation) ≡ false → paramodulant_at s path ≡ []
none_from s path misfit =
    let c = s.from.clause in
    let d = s.into.clause in
    let a = s.equation in
    let b = s.literal in
    none_inferred (by_para s.from.number a s.side s.into.number b path) (para_inference s.from.number a s.side s.into.number b path) (c ∷ d ∷ []) refl
    (none_concluded (paramodulated s.from.number a s.side s.into.number b path) (para_inference s.from.number a s.side s.into.number b path) (c ∷ d ∷ []) refl
    (λ fits own same. let p = para_parts a s.side b path c d fits in false≢true (sym misfit ∙ ap (λ x. x && is_equation (atom_at c a)) p.positive ∙ p.equal)))

pub none_tried : (greater : Tree → Tree → Bool) (c d : Held) (a : ℕ) → has_literal true c.clause a && is_equation (atom_at c.clause a) ≡ false → literal_tried greater c d a ≡ []
none_tried greater c d a misfit =
    flat_none (paramodulants_by greater c d a) (from_sides greater (atom_at c.clause a))
    (λ side. flat_none (λ b. paramodulants_in greater (site c a side d b)) (places_of d.clause)
    (λ b. flat_none (paramodulant_at (site c a side d b)) (into_paths greater (atom_at d.clause b)) (λ path. none_from (site c a side d b) path misfit)))

-- an inequation whose sides never meet
pub none_reflexive : (n : ℕ) (c : ClauseTree) (a : ℕ) → NeverReflects c a → inferred (by_xx_res n a) (c ∷ []) ≡ []
none_reflexive n c a never =
    none_inferred (by_xx_res n a) (xx_inference n a) (c ∷ []) refl
    (none_concluded (xx_resolved n a) (xx_inference n a) (c ∷ []) refl
    (λ fits own same.
    let p = and_parts (has_literal false c a) (is_equation (atom_at c a)) fits in
    never fits (own 0) (own 0)
    (sym (ap left_of (atom_of_put (own 0) false c a p.0) ∙ left_put (own 0) (atom_at c a) p.1) ∙ same.0 ∙ ap right_of (atom_of_put (own 0) false c a p.0) ∙ right_put (own 0) (atom_at c a) p.1)))

-- literals of the code
module _ (ls : List Literal) (c : ClauseTree) (a : ℕ) (is : map literal_of ls ≡ c) where
  pub reflects_past : length ls ≤ a → NeverReflects c a
  reflects_past h fits =
      absurd (false≢true (sym (ap (λ d. has_literal false d a) (sym is) ∙ literal_past ls a false h) ∙ (and_parts (has_literal false c a) (is_equation (atom_at c a)) fits).0))

  module _ (l : Literal) (lt : a < length ls) (at : l ≡ get_or ls a l) where
    pub atom_is : atom_at c a ≡ tree_of l.atom
    atom_is = ap (λ d. atom_at d a) (sym is) ∙ atom_there ls a l lt ∙ ap (λ (k : Literal). tree_of k.atom) (sym at)

    pub positive_is : has_literal true c a ≡ l.positive
    positive_is = ap (λ d. has_literal true d a) (sym is) ∙ positive_there ls a l lt ∙ ap (λ (k : Literal). k.positive) (sym at)

    negative_is : has_literal false c a ≡ not l.positive
    negative_is = ap (λ d. has_literal false d a) (sym is) ∙ negative_there ls a l lt ∙ ap (λ (k : Literal). not k.positive) (sym at)

    pub reflects_sign : l.positive ≡ true → NeverReflects c a
    reflects_sign e fits = absurd (false≢true (sym (negative_is ∙ ap not e) ∙ (and_parts (has_literal false c a) (is_equation (atom_at c a)) fits).0))

    pub reflects_not : is_equation (tree_of l.atom) ≡ false → NeverReflects c a
    reflects_not e fits = absurd (false≢true (sym (ap is_equation atom_is ∙ e) ∙ (and_parts (has_literal false c a) (is_equation (atom_at c a)) fits).1))

    pub reflects_apart : NeverMeet (left_of (tree_of l.atom)) (right_of (tree_of l.atom)) → NeverReflects c a
    reflects_apart never fits = subst (λ t. NeverMeet (left_of t) (right_of t)) (sym atom_is) never
