-- Lines of a proof with other numbers of their symbols.
use Rattle.std.proofs.Common.{◌≡◌, inl, inr, ℕ, ◌-◌, Bool, true, false, ◌==◌, ◌&&◌, if◌then◌else◌, IsTrue, List, [], ◌∷◌, ◌++◌, map, Option, Some, None, option_map, refl, sym, ap, ap₂, ◌∙◌, subst}
use Rattle.std.specs.List.{list_all}
use Rattle.std.specs.Option.{option_and_then}
use Rattle.std.proofs.lemmas.List.{map-append}
use Rattle.std.proofs.lemmas.Option.{slice_get-map}
use Rattle.fol_core.specs.Fol.{Fol}
use Rattle.fol_core.specs.Free.{variables_of}
use Rattle.fol_core.specs.Literals.{ClauseTree}
use Rattle.fol_problem.specs.Stated.{Said, said}
use Rattle.fol_core.specs.Renumbered.{renumbered}
use Rattle.fol_core.specs.Substitutions.{Substitution, substitute}
use Rattle.fol_core.specs.Tree.{Tree}
use Rattle.substitutions.specs.Bindings.{Binding, by_bindings}
use Rattle.substitutions.specs.Instances.{substitute_clause}
use Rattle.substitutions.specs.Occurring.{has_variable}
use Rattle.substitutions.specs.Paths.{replaced}
use Rattle.derivation.specs.Equations.{equation, is_equation, left_of, right_of, below, is_there}
use Rattle.derivation.specs.Later.{LaterWord, flipped, merged, reflexive, unit_deleted, rewritten, later_parents, later_fits, Leads, is_unit, is_rule_equation}
use Rattle.derivation.specs.Lines.{FirstWord, assumed, wanted, clausified, denied, copied, resolved, factored, paramodulated, xx_resolved, instantiated, Inference, copy_inference, clash_inference, factor_inference, para_inference, xx_inference, inference_of, ContentTree, formula, clause, LineTree, line_at, content_clause, clause_at, is_empty_clause, AreClauses, IsClause, After, IsInferred, IsInstance, instance_of, IsAmongSaid, IsStated, InputRow, said_at, IsRowOf, IsInput, IsFormulaAt, IsInputOf, IsLine, AreLines, ends_empty}
use Rattle.derivation.specs.Places.{has_literal, atom_at, with_atom, are_opposite}
use Rattle.derivation.specs.Words.{only_of}
use Rattle.derivation_laws.specs.Moved.{Moving, moved_term, moved_literal, moved_clause, moved_formula, moved_content, moved_bindings, moved_first, moved_line, moved_lines, moved_said, moved_rows, IsExchange, RefutationIsMoved}
use Rattle.derivation_laws.proofs.MovedTerms.{moved_terms_for, moved_put, clause_put, variables_stay, variable_stays, renumbered_moved, below_moved, there_moved, replaced_moved, has_moved, place_moved, atom_moved, others_moved, with_atom_moved, opposites_moved, left_moved, right_moved, is_equation_moved, equation_moved}
use Rattle.derivation_laws.proofs.MovedRules.{only_moved, one_moved, word_movable, backwards, concludes_moved}

module _ (to back : Moving) (x : IsExchange to back) where
  -- lines by their numbers
  pub line_moved : (ls : List LineTree) (n : ℕ) → line_at (moved_lines to ls) n ≡ option_map (moved_line to) (line_at ls n)
  line_moved [] n = refl
  line_moved (l ∷ ls) n = by (l.number == n) (line_moved ls n)
    where
      by : (b : Bool) → line_at (moved_lines to ls) n ≡ option_map (moved_line to) (line_at ls n)
          → (if b then Some (moved_line to l) else line_at (moved_lines to ls) n) ≡ option_map (moved_line to) (if b then Some l else line_at ls n)
      by true rest = refl
      by false rest = rest

  content_moved : (c : ContentTree) → content_clause (moved_content to c) ≡ option_map (moved_clause to) (content_clause c)
  content_moved (formula f) = refl
  content_moved (clause c) = refl

  pub clause_at_moved : (ls : List LineTree) (n : ℕ) → clause_at (moved_lines to ls) n ≡ option_map (moved_clause to) (clause_at ls n)
  clause_at_moved ls n = ap (option_and_then (λ (l : LineTree). content_clause l.content)) (line_moved ls n) ∙ by (line_at ls n)
    where
      by : (o : Option LineTree) → option_and_then (λ (l : LineTree). content_clause l.content) (option_map (moved_line to) o) ≡ option_map (moved_clause to) (option_and_then (λ (l : LineTree). content_clause l.content) o)
      by None = refl
      by (Some l) = content_moved l.content

  pub clauses_moved : (ls : List LineTree) (ns : List ℕ) (cs : List ClauseTree) → AreClauses ls ns cs → AreClauses (moved_lines to ls) ns (map (moved_clause to) cs)
  clauses_moved ls [] [] h = tt
  clauses_moved ls [] (c ∷ cs) h = absurd h
  clauses_moved ls (n ∷ ns) [] h = absurd h
  clauses_moved ls (n ∷ ns) (c ∷ cs) h = (clause_at_moved ls n ∙ ap (option_map (moved_clause to)) h.0, clauses_moved ls ns cs h.1)

  is_clause_moved : (content : ContentTree) (d : ClauseTree) → IsClause content d → IsClause (moved_content to content) (moved_clause to d)
  is_clause_moved (formula f) d h = h
  is_clause_moved (clause c) d h = renumbered_moved to c ∙ ap (moved_clause to) h ∙ sym (renumbered_moved to d)

  -- words behind the first one
  unit_moved : (c : ClauseTree) → is_unit (moved_clause to c) ≡ is_unit c
  unit_moved [] = refl
  unit_moved (l ∷ []) = refl
  unit_moved (l ∷ k ∷ c) = refl

  rule_equation_moved : (t : Tree) → is_rule_equation (moved_term to t) ≡ is_rule_equation t
  rule_equation_moved t =
      let has : (y : ℕ) → has_variable y (left_of (moved_term to t)) ≡ has_variable y (left_of t) = λ y. ap (has_variable y) (left_moved to t) ∙ variable_stays to y (left_of t) in
      ap₂ (λ p q. p && q) (is_equation_moved to back x t)
      (λ i. list_all (λ y. has y i) ((ap variables_of (right_moved to t) ∙ variables_stay to (right_of t)) i))

  pub atom_only : (ps : List ClauseTree) → atom_at (only_of (map (moved_clause to) ps)) 0 ≡ moved_term to (atom_at (only_of ps) 0)
  atom_only ps = ap (λ c. atom_at c 0) (only_moved to back x ps) ∙ atom_moved to (only_of ps) 0

  pub fits_moved : (w : LaterWord) (c : ClauseTree) (ps : List ClauseTree) → later_fits w (moved_clause to c) (map (moved_clause to) ps) ≡ later_fits w c ps
  fits_moved (flipped a) c ps = ap₂ (λ p q. p && q) (place_moved to c a) (ap is_equation (atom_moved to c a) ∙ is_equation_moved to back x (atom_at c a))
  fits_moved (merged a) c ps = place_moved to c a
  fits_moved (reflexive a) c ps = ap₂ (λ p q. p && q) (has_moved to false c a) (ap is_equation (atom_moved to c a) ∙ is_equation_moved to back x (atom_at c a))
  fits_moved (unit_deleted a n) c ps =
      ap₂ (λ p q. p && q) (one_moved to back x ps)
      (ap₂ (λ p q. p && q) (ap is_unit (only_moved to back x ps) ∙ unit_moved (only_of ps))
      (ap (λ d. are_opposite (moved_clause to c) a d 0) (only_moved to back x ps) ∙ opposites_moved to c a (only_of ps) 0))
  fits_moved (rewritten n a path) c ps =
      ap₂ (λ p q. p && q) (one_moved to back x ps)
      (ap₂ (λ p q. p && q) (ap is_unit (only_moved to back x ps) ∙ unit_moved (only_of ps))
      (ap₂ (λ p q. p && q) (ap (λ d. has_literal true d 0) (only_moved to back x ps) ∙ has_moved to true (only_of ps) 0)
      (ap₂ (λ p q. p && q) (ap is_rule_equation (atom_only ps) ∙ rule_equation_moved (atom_at (only_of ps) 0))
      (ap₂ (λ p q. p && q) (place_moved to c a)
      (ap (λ t. is_there (below t path)) (atom_moved to c a) ∙ ap is_there (below_moved to (atom_at c a) path) ∙ there_moved to (below (atom_at c a) path))))))

  pub leads_moved : (w : LaterWord) (c : ClauseTree) (ps : List ClauseTree) (d : ClauseTree) → Leads w c ps d → Leads w (moved_clause to c) (map (moved_clause to) ps) (moved_clause to d)
  leads_moved (flipped a) c ps d h =
      let atom = atom_at c a in
      let flipped_atom = sym (equation_moved to back x (right_of atom) (left_of atom)) ∙ ap₂ equation (sym (right_moved to atom) ∙ ap right_of (sym (atom_moved to c a))) (sym (left_moved to atom) ∙ ap left_of (sym (atom_moved to c a))) in
      ap (moved_clause to) h ∙ sym (with_atom_moved to c a (equation (right_of atom) (left_of atom))) ∙ ap (with_atom (moved_clause to c) a) flipped_atom
  leads_moved (merged a) c ps d h = (
    (h.0.0, h.0.1, slice_get-map (moved_literal to) c h.0.0 ∙ ap (option_map (moved_literal to)) h.0.2 ∙ sym (slice_get-map (moved_literal to) c a)),
    ap (moved_clause to) h.1 ∙ sym (others_moved to (λ k. k == a) c),
  )
  leads_moved (reflexive a) c ps d h = (
    ap left_of (atom_moved to c a) ∙ left_moved to (atom_at c a) ∙ ap (moved_term to) h.0 ∙ sym (right_moved to (atom_at c a)) ∙ ap right_of (sym (atom_moved to c a)),
    ap (moved_clause to) h.1 ∙ sym (others_moved to (λ k. k == a) c),
  )
  leads_moved (unit_deleted a n) c ps d h = (
    (
      moved_terms_for to h.0.0,
      ap (substitute (moved_terms_for to h.0.0)) (atom_only ps) ∙ sym (moved_put to h.0.0 (atom_at (only_of ps) 0)) ∙ ap (moved_term to) h.0.1 ∙ sym (atom_moved to c a),
    ),
    ap (moved_clause to) h.1 ∙ sym (others_moved to (λ k. k == a) c),
  )
  leads_moved (rewritten n a path) c ps d h =
      let rule = atom_at (only_of ps) 0 in
      let left = moved_put to h.0 (left_of rule) ∙ ap (substitute (moved_terms_for to h.0)) (sym (left_moved to rule) ∙ ap left_of (sym (atom_only ps))) in
      let right = moved_put to h.0 (right_of rule) ∙ ap (substitute (moved_terms_for to h.0)) (sym (right_moved to rule) ∙ ap right_of (sym (atom_only ps))) in
      let new = replaced (atom_at c a) path (substitute h.0 (right_of rule)) in (
        moved_terms_for to h.0,
        ap (λ t. below t path) (atom_moved to c a) ∙ below_moved to (atom_at c a) path ∙ ap (option_map (moved_term to)) h.1 ∙ ap Some left,
        ap (moved_clause to) h.2 ∙ sym (with_atom_moved to c a new)
            ∙ ap (with_atom (moved_clause to c) a) (sym (replaced_moved to (atom_at c a) path (substitute h.0 (right_of rule))) ∙ ap₂ (λ t u. replaced t path u) (sym (atom_moved to c a)) right),
      )

  after_moved : (ls : List LineTree) (ws : List LaterWord) (d : ClauseTree) (content : ContentTree) → After ls ws d content → After (moved_lines to ls) ws (moved_clause to d) (moved_content to content)
  after_moved ls [] d content h = is_clause_moved content d h
  after_moved ls (w ∷ ws) d content h = (
    map (moved_clause to) h.0,
    moved_clause to h.1,
    clauses_moved ls (later_parents w) h.0 h.2,
    subst IsTrue (sym (fits_moved w d h.0)) h.3,
    leads_moved w d h.0 h.1 h.4,
    after_moved ls ws h.1 content h.5,
  )

  inferred_moved : (ls : List LineTree) (w : FirstWord) (i : Inference) → inference_of w ≡ Some i → (ws : List LaterWord) (content : ContentTree)
      → IsInferred ls i ws content → IsInferred (moved_lines to ls) i ws (moved_content to content)
  inferred_moved ls w i is ws content h =
      let movable = word_movable to back x w i is in
      let backward = word_movable back to (backwards to back x) w i is in (
        map (moved_clause to) h.0,
        moved_clause to h.1,
        clauses_moved ls i.parents h.0 h.2,
        subst IsTrue (sym (movable.fits h.0)) h.3,
        concludes_moved to back x i.rule movable backward h.0 h.1 h.4,
        after_moved ls ws h.1 content h.5,
      )

  -- an instance by moved terms
  pub bindings_moved : (es : List Binding) (x : ℕ) → by_bindings (moved_bindings to es) x ≡ moved_term to (by_bindings es x)
  bindings_moved [] x = refl
  bindings_moved (e ∷ es) x = by (x == e.0) (bindings_moved es x)
    where
      by : (b : Bool) → by_bindings (moved_bindings to es) x ≡ moved_term to (by_bindings es x)
          → (if b then moved_term to e.1 else by_bindings (moved_bindings to es) x) ≡ moved_term to (if b then e.1 else by_bindings es x)
      by true rest = refl
      by false rest = rest

  instance_is_moved : (es : List Binding) (c : ClauseTree) → moved_clause to (instance_of es c) ≡ instance_of (moved_bindings to es) (moved_clause to c)
  instance_is_moved es c =
      let same : moved_terms_for to (by_bindings es) ≡ by_bindings (moved_bindings to es) = (λ i x. sym (bindings_moved es x) i) in
      sym (renumbered_moved to (substitute_clause (by_bindings es) c)) ∙ ap renumbered (clause_put to (by_bindings es) c ∙ ap (λ (s : Substitution). substitute_clause s (moved_clause to c)) same)

  instance_moved : (ls : List LineTree) (n : ℕ) (es : List Binding) (ws : List LaterWord) (content : ContentTree) → IsInstance ls n es ws content
      → IsInstance (moved_lines to ls) n (moved_bindings to es) ws (moved_content to content)
  instance_moved ls n es ws content h = (
    moved_clause to h.0,
    clause_at_moved ls n ∙ ap (option_map (moved_clause to)) h.1,
    subst (λ (d : ClauseTree). After (moved_lines to ls) ws d (moved_content to content)) (instance_is_moved es h.0) (after_moved ls ws (instance_of es h.0) content h.2),
  )

  -- what is said, and its clauses
  among_moved : (goal : Bool) (f : Fol) (ss : List Said) → IsAmongSaid goal f ss → IsAmongSaid goal (moved_formula to f) (moved_said to ss)
  among_moved goal f [] h = h
  among_moved goal f (s ∷ ss) (inl h) = inl (h.0, ap (moved_formula to) h.1)
  among_moved goal f (s ∷ ss) (inr h) = inr (among_moved goal f ss h)

  stated_moved : (goal : Bool) (content : ContentTree) (ss : List Said) → IsStated goal content ss → IsStated goal (moved_content to content) (moved_said to ss)
  stated_moved goal (formula f) ss h = among_moved goal f ss h
  stated_moved goal (clause c) ss h = h

  abbrev one_said : Said → Said
  one_said s = said s.role (moved_formula to s.formula)

  said_moved : (ss : List Said) (n : ℕ) → said_at (moved_said to ss) n ≡ option_map one_said (said_at ss n)
  said_moved [] n = refl
  said_moved (s ∷ ss) n = by (n == 1) (said_moved ss (n - 1))
    where
      by : (b : Bool) → said_at (moved_said to ss) (n - 1) ≡ option_map one_said (said_at ss (n - 1))
          → (if b then Some (one_said s) else said_at (moved_said to ss) (n - 1)) ≡ option_map one_said (if b then Some s else said_at ss (n - 1))
      by true rest = refl
      by false rest = rest

  row_moved : (goal : Bool) (f : Fol) (ss : List Said) (content : ContentTree) (r : InputRow) → IsRowOf goal f ss content r
      → IsRowOf goal (moved_formula to f) (moved_said to ss) (moved_content to content) (r.0, moved_clause to r.1)
  row_moved goal f ss content r h = (
    one_said h.0,
    said_moved ss r.0 ∙ ap (option_map one_said) h.1,
    (h.2.0, ap (moved_formula to) h.2.1),
    is_clause_moved content r.1 h.3,
  )

  input_moved : (goal : Bool) (f : Fol) (ss : List Said) (content : ContentTree) (rows : List InputRow) → IsInput goal f ss content rows
      → IsInput goal (moved_formula to f) (moved_said to ss) (moved_content to content) (moved_rows to rows)
  input_moved goal f ss content [] h = h
  input_moved goal f ss content (r ∷ rows) (inl h) = inl (row_moved goal f ss content r h)
  input_moved goal f ss content (r ∷ rows) (inr h) = inr (input_moved goal f ss content rows h)

  formula_moved : (ls : List LineTree) (n : ℕ) (goal : Bool) (f : Fol) → IsFormulaAt ls n goal f → IsFormulaAt (moved_lines to ls) n goal (moved_formula to f)
  formula_moved ls n goal f h = (moved_line to h.0, line_moved ls n ∙ ap (option_map (moved_line to)) h.1, ap (moved_content to) h.2, ap (moved_first to) h.3 ∙ by goal)
    where
      by : (b : Bool) → moved_first to (if b then wanted else assumed) ≡ (if b then wanted else assumed)
      by true = refl
      by false = refl

  module _ (ss : List Said) (rows : List InputRow) where
    input_of_moved : (ls : List LineTree) (goal : Bool) (n : ℕ) (content : ContentTree) → IsInputOf ss rows ls goal n content
        → IsInputOf (moved_said to ss) (moved_rows to rows) (moved_lines to ls) goal n (moved_content to content)
    input_of_moved ls goal n content h = (moved_formula to h.0, formula_moved ls n goal h.0 h.1, input_moved goal h.0 ss content rows h.2)

    is_line_moved : (ls : List LineTree) (w : FirstWord) (ws : List LaterWord) (content : ContentTree) → IsLine ss rows ls w ws content
        → IsLine (moved_said to ss) (moved_rows to rows) (moved_lines to ls) (moved_first to w) ws (moved_content to content)
    is_line_moved ls assumed ws content h = (stated_moved false content ss h.0, h.1)
    is_line_moved ls wanted ws content h = (stated_moved true content ss h.0, h.1)
    is_line_moved ls (clausified n) ws content h = (input_of_moved ls false n content h.0, h.1)
    is_line_moved ls (denied n) ws content h = (input_of_moved ls true n content h.0, h.1)
    is_line_moved ls (copied n) ws content h = inferred_moved ls (copied n) (copy_inference n) refl ws content h
    is_line_moved ls (resolved n k) ws content h = inferred_moved ls (resolved n k) (clash_inference n k) refl ws content h
    is_line_moved ls (factored n a b) ws content h = inferred_moved ls (factored n a b) (factor_inference n a b) refl ws content h
    is_line_moved ls (paramodulated n a side m b path) ws content h = inferred_moved ls (paramodulated n a side m b path) (para_inference n a side m b path) refl ws content h
    is_line_moved ls (xx_resolved n a) ws content h = inferred_moved ls (xx_resolved n a) (xx_inference n a) refl ws content h
    is_line_moved ls (instantiated n es) ws content h = instance_moved ls n es ws content h

    are_lines_moved : (earlier : List LineTree) (last : Option ℕ) (ls : List LineTree) → AreLines ss rows earlier last ls
        → AreLines (moved_said to ss) (moved_rows to rows) (moved_lines to earlier) last (moved_lines to ls)
    are_lines_moved earlier last [] h = tt
    are_lines_moved earlier last (l ∷ ls) h = (
      h.0,
      is_line_moved earlier l.first l.later l.content h.1,
      subst (λ (ks : List LineTree). AreLines (moved_said to ss) (moved_rows to rows) ks (Some l.number) (moved_lines to ls))
          (map-append (moved_line to) earlier (l ∷ []))
          (are_lines_moved (earlier ++ l ∷ []) (Some l.number) ls h.2),
    )

  empty_moved : (c : ContentTree) → is_empty_clause (moved_content to c) ≡ is_empty_clause c
  empty_moved (formula f) = refl
  empty_moved (clause []) = refl
  empty_moved (clause (l ∷ c)) = refl

  pub ends_moved : (ls : List LineTree) → ends_empty (moved_lines to ls) ≡ ends_empty ls
  ends_moved [] = refl
  ends_moved (l ∷ []) = empty_moved l.content
  ends_moved (l ∷ k ∷ ls) = ends_moved (k ∷ ls)

pub refutation_moved : RefutationIsMoved
refutation_moved to back ss rows ls x h =
    (are_lines_moved to back x ss rows [] None ls h.0, subst IsTrue (sym (ends_moved to back x ls)) h.1)
