-- Words behind clauses that are the same but for the numbers of their variables.
use Rattle.std.proofs.Common.{◌≡◌, inl, inr, ℕ, Bool, true, false, ◌&&◌, ◌||◌, ◌==◌, IsTrue, List, [], ◌∷◌, Some, refl, sym, ap, ap₂, ◌∙◌, subst}
use Rattle.std.specs.Option.{option_map}
use Rattle.std.proofs.lemmas.Bool.{and_from, and_parts, false≢true}
use Rattle.std.proofs.lemmas.Option.{slice_get-map}
use Rattle.fol_core.specs.Literals.{ClauseTree}
use Rattle.fol_core.specs.Substitutions.{Substitution, substitute}
use Rattle.fol_core.specs.Tree.{Tree}
use Rattle.substitutions.specs.Instances.{followed, substitute_clause, substitute_literal}
use Rattle.substitutions.specs.Paths.{replaced}
use Rattle.substitutions.proofs.Composing.{substitute_twice}
use Rattle.substitutions.proofs.Replacing.{replaced_substituted}
use Rattle.substitutions.proofs.Variants.{instances_same}
use Rattle.derivation.specs.Equations.{below, equation, is_equation, is_there, left_of, right_of}
use Rattle.derivation.specs.Later.{LaterWord, flipped, merged, reflexive, unit_deleted, rewritten, IsRepeated, Leads, is_rule_equation, is_unit, later_fits}
use Rattle.derivation.specs.Lines.{After, ContentTree, IsClause, LineTree, formula, clause}
use Rattle.derivation.specs.Places.{are_opposite, atom_at, has_literal, has_place, with_atom}
use Rattle.derivation.specs.Refused.{Fails}
use Rattle.derivation.specs.Words.{is_one_clause, only_of}
use Rattle.derivation.specs.declared.row.Row.{Row}
use Rattle.derivation.proofs.Conclusions.{one_lead}
use Rattle.derivation.proofs.LaterSound.{equation_put, left_put, right_put, there_is}
use Rattle.derivation.proofs.Naturality.{atom_at_put, atom_of_put, below_put, has_put, opposite_places, others_put, place_put, with_atom_put}

-- whether a word's places are there is the same in an instance
module _ (s : Substitution) where
  fits_put : (w : LaterWord) (c : ClauseTree) (ps : List ClauseTree) → IsTrue (later_fits w c ps) → IsTrue (later_fits w (substitute_clause s c) ps)
  fits_put (flipped a) c ps h =
      let p = and_parts (has_place c a) (is_equation (atom_at c a)) h in
      and_from (has_place (substitute_clause s c) a) (is_equation (atom_at (substitute_clause s c) a)) (place_put s c a ∙ p.0) (ap is_equation (atom_at_put s c a p.0) ∙ equation_put s (atom_at c a) p.1)
  fits_put (merged a) c ps h = place_put s c a ∙ h
  fits_put (reflexive a) c ps h =
      let p = and_parts (has_literal false c a) (is_equation (atom_at c a)) h in
      and_from (has_literal false (substitute_clause s c) a) (is_equation (atom_at (substitute_clause s c) a)) (has_put s false c a ∙ p.0) (ap is_equation (atom_of_put s false c a p.0) ∙ equation_put s (atom_at c a) p.1)
  fits_put (unit_deleted a n) c ps h =
      ap₂ (λ p q. is_one_clause ps && (is_unit (only_of ps) && ((p && has_literal false (only_of ps) 0) || (q && has_literal true (only_of ps) 0)))) (has_put s true c a) (has_put s false c a) ∙ h
  fits_put (rewritten n a path) c ps h =
      let r = only_of ps in
      let d : ClauseTree = substitute_clause s c in
      let p0 = and_parts (is_one_clause ps) (is_unit r && (has_literal true r 0 && (is_rule_equation (atom_at r 0) && (has_place c a && is_there (below (atom_at c a) path))))) h in
      let p1 = and_parts (is_unit r) (has_literal true r 0 && (is_rule_equation (atom_at r 0) && (has_place c a && is_there (below (atom_at c a) path)))) p0.1 in
      let p2 = and_parts (has_literal true r 0) (is_rule_equation (atom_at r 0) && (has_place c a && is_there (below (atom_at c a) path))) p1.1 in
      let p3 = and_parts (is_rule_equation (atom_at r 0)) (has_place c a && is_there (below (atom_at c a) path)) p2.1 in
      let p4 = and_parts (has_place c a) (is_there (below (atom_at c a) path)) p3.1 in
      let u = there_is (below (atom_at c a) path) p4.1 in
      let there : below (atom_at d a) path ≡ Some (substitute s u.0) = ap (λ t. below t path) (atom_at_put s c a p4.0) ∙ below_put s (atom_at c a) path u.0 u.1 in
      and_from (is_one_clause ps) (is_unit r && (has_literal true r 0 && (is_rule_equation (atom_at r 0) && (has_place d a && is_there (below (atom_at d a) path))))) p0.0
      (and_from (is_unit r) (has_literal true r 0 && (is_rule_equation (atom_at r 0) && (has_place d a && is_there (below (atom_at d a) path)))) p1.0
      (and_from (has_literal true r 0) (is_rule_equation (atom_at r 0) && (has_place d a && is_there (below (atom_at d a) path))) p2.0
      (and_from (is_rule_equation (atom_at r 0)) (has_place d a && is_there (below (atom_at d a) path)) p3.0
      (and_from (has_place d a) (is_there (below (atom_at d a) path)) (place_put s c a ∙ p4.0) (ap is_there there)))))

  repeated_put : (c : ClauseTree) (a : ℕ) → IsRepeated c a → IsRepeated (substitute_clause s c) a
  repeated_put c a (b, lt, same) = (b, lt, slice_get-map (substitute_literal s) c b ∙ ap (option_map (substitute_literal s)) same ∙ sym (slice_get-map (substitute_literal s) c a))

  replaced_below : (t : Tree) (path : List ℕ) (v new : Tree) → below t path ≡ Some v → replaced (substitute s t) path (substitute s new) ≡ substitute s (replaced t path new)
  replaced_below t [] v new h = cc
  replaced_below t (k ∷ path) v new h = replaced_substituted s t (k ∷ path) v new h

  -- and what a word makes of it is the instance of what it makes
  leads_put : (w : LaterWord) (c : ClauseTree) (ps : List ClauseTree) (b : ClauseTree) → IsTrue (later_fits w c ps) → Leads w c ps b → Leads w (substitute_clause s c) ps (substitute_clause s b)
  leads_put (flipped a) c ps b h leads =
      let p = and_parts (has_place c a) (is_equation (atom_at c a)) h in
      ap (substitute_clause s) leads ∙ sym (with_atom_put s c a (equation (right_of (atom_at c a)) (left_of (atom_at c a))))
      ∙ ap (with_atom (substitute_clause s c) a)
      (ap₂ equation (sym (ap right_of (atom_at_put s c a p.0) ∙ right_put s (atom_at c a) p.1)) (sym (ap left_of (atom_at_put s c a p.0) ∙ left_put s (atom_at c a) p.1)))
  leads_put (merged a) c ps b h leads = (repeated_put c a leads.0, ap (substitute_clause s) leads.1 ∙ sym (others_put s (λ k. k == a) c))
  leads_put (reflexive a) c ps b h leads =
      let p = and_parts (has_literal false c a) (is_equation (atom_at c a)) h in
      let atom = atom_of_put s false c a p.0 in (
        ap left_of atom ∙ left_put s (atom_at c a) p.1 ∙ ap (substitute s) leads.0 ∙ sym (ap right_of atom ∙ right_put s (atom_at c a) p.1),
        ap (substitute_clause s) leads.1 ∙ sym (others_put s (λ k. k == a) c),
      )
  leads_put (unit_deleted a n) c ps b h leads =
      let p0 = and_parts (is_one_clause ps) (is_unit (only_of ps) && are_opposite c a (only_of ps) 0) h in
      let p1 = and_parts (is_unit (only_of ps)) (are_opposite c a (only_of ps) 0) p0.1 in
      let place = (opposite_places c a (only_of ps) 0 p1.1).0 in (
        (followed leads.0.0 s, sym (substitute_twice leads.0.0 s (atom_at (only_of ps) 0)) ∙ ap (substitute s) leads.0.1 ∙ sym (atom_at_put s c a place)),
        ap (substitute_clause s) leads.1 ∙ sym (others_put s (λ k. k == a) c),
      )
  leads_put (rewritten n a path) c ps b h leads =
      let r = only_of ps in
      let p0 = and_parts (is_one_clause ps) (is_unit r && (has_literal true r 0 && (is_rule_equation (atom_at r 0) && (has_place c a && is_there (below (atom_at c a) path))))) h in
      let p1 = and_parts (is_unit r) (has_literal true r 0 && (is_rule_equation (atom_at r 0) && (has_place c a && is_there (below (atom_at c a) path)))) p0.1 in
      let p2 = and_parts (has_literal true r 0) (is_rule_equation (atom_at r 0) && (has_place c a && is_there (below (atom_at c a) path))) p1.1 in
      let p3 = and_parts (is_rule_equation (atom_at r 0)) (has_place c a && is_there (below (atom_at c a) path)) p2.1 in
      let p4 = and_parts (has_place c a) (is_there (below (atom_at c a) path)) p3.1 in
      let atom = atom_at_put s c a p4.0 in
      let left = left_of (atom_at r 0) in
      let right = right_of (atom_at r 0) in (
        followed leads.0 s,
        ap (λ t. below t path) atom ∙ below_put s (atom_at c a) path (substitute leads.0 left) leads.1 ∙ ap (λ t. Some t) (substitute_twice leads.0 s left),
        ap (substitute_clause s) leads.2 ∙ sym (with_atom_put s c a (replaced (atom_at c a) path (substitute leads.0 right)))
            ∙ ap (with_atom (substitute_clause s c) a)
            (sym (replaced_below (atom_at c a) path (substitute leads.0 left) (substitute leads.0 right) leads.1) ∙ ap₂ (λ t v. replaced t path v) (sym atom) (substitute_twice leads.0 s right)),
      )

-- clauses that are instances of each other
module _ (s u : Substitution) where
  same_clause : (content : ContentTree) (c d : ClauseTree) → d ≡ substitute_clause s c → c ≡ substitute_clause u d → IsClause content c → IsClause content d
  same_clause (formula f) c d there back is = absurd is
  same_clause (clause e) c d there back is = is ∙ instances_same c d s u there back

  pub fits_alike : (w : LaterWord) (c d : ClauseTree) (ps : List ClauseTree) → d ≡ substitute_clause s c → IsTrue (later_fits w c ps) → IsTrue (later_fits w d ps)
  fits_alike w c d ps there fits = subst (λ (e : ClauseTree). IsTrue (later_fits w e ps)) (sym there) (fits_put s w c ps fits)

  pub leads_alike : (w : LaterWord) (c d : ClauseTree) (ps : List ClauseTree) (b : ClauseTree) → d ≡ substitute_clause s c → IsTrue (later_fits w c ps) → Leads w c ps b → Leads w d ps (substitute_clause s b)
  leads_alike w c d ps b there fits leads = subst (λ (e : ClauseTree). Leads w e ps (substitute_clause s b)) (sym there) (leads_put s w c ps b fits leads)

pub made_back : (s u : Substitution) (w : LaterWord) (c d : ClauseTree) (ps : List ClauseTree) (b : ClauseTree) → d ≡ substitute_clause s c → c ≡ substitute_clause u d → IsTrue (later_fits w c ps) → Leads w c ps b → b ≡ substitute_clause u (substitute_clause s b)
made_back s u w c d ps b there back fits leads =
    one_lead w c ps b (substitute_clause u (substitute_clause s b)) fits leads
    (leads_alike u s w d c ps (substitute_clause s b) back (fits_alike s u w c d ps there fits) (leads_alike s u w c d ps b there fits leads))

pub after_alike : (s u : Substitution) (ls : List LineTree) (content : ContentTree) (ws : List LaterWord) (c d : ClauseTree) → d ≡ substitute_clause s c → c ≡ substitute_clause u d → After ls ws c content → After ls ws d content
after_alike s u ls content [] c d there back is = same_clause s u content c d there back is
after_alike s u ls content (w ∷ ws) c d there back (ps, b, are, fits, leads, after) = (
  ps,
  substitute_clause s b,
  are,
  fits_alike s u w c d ps there fits,
  leads_alike s u w c d ps b there fits leads,
  after_alike s u ls content ws b (substitute_clause s b) refl (made_back s u w c d ps b there back fits leads) after,
)

misfits_alike : (s u : Substitution) (w : LaterWord) (c d : ClauseTree) (ps : List ClauseTree) → c ≡ substitute_clause u d → later_fits w c ps ≡ false → later_fits w d ps ≡ false
misfits_alike s u w c d ps back misfit = by (later_fits w d ps) refl
  where
    by : (b : Bool) → later_fits w d ps ≡ b → later_fits w d ps ≡ false
    by false e = e
    by true e = absurd (false≢true (sym misfit ∙ fits_alike u s w d c ps back e))

pub fails_alike : (s u : Substitution) (ls : List LineTree) (content : ContentTree) (row : Row) (ws : List LaterWord) (c d : ClauseTree) → d ≡ substitute_clause s c → c ≡ substitute_clause u d → Fails ls ws c content row → Fails ls ws d content row
fails_alike s u ls content row [] c d there back (is, apart) = (is, λ same. apart (same_clause u s content d c back there same))
fails_alike s u ls content row (w ∷ ws) c d there back (ps, are, inl (is, misfit)) = (ps, are, inl (is, misfits_alike s u w c d ps back misfit))
fails_alike s u ls content row (w ∷ ws) c d there back (ps, are, inr (inl (is, fits, never))) =
    let fits_there = fits_alike s u w c d ps there fits in
    (ps, are, inr (inl (is, fits_there, λ b leads. never (substitute_clause u b) (leads_alike u s w d c ps b back fits_there leads))))
fails_alike s u ls content row (w ∷ ws) c d there back (ps, are, inr (inr (fits, (b, leads, fails)))) = (
  ps,
  are,
  inr (inr (
    fits_alike s u w c d ps there fits,
    (
      substitute_clause s b,
      leads_alike s u w c d ps b there fits leads,
      fails_alike s u ls content row ws b (substitute_clause s b) refl (made_back s u w c d ps b there back fits leads) fails,
    ),
  )),
)
