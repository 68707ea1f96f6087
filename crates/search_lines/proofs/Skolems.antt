-- The Skolem symbols of a problem stand behind its own, each with an argument for each variable of its witness.
use Rattle.std.proofs.Common.{◌≡◌, ℕ, suc, ◌≤◌, List, [], ◌∷◌, ◌++◌, length, Some, slice_get, sym, ap, ◌∙◌, subst, append_assoc, arith}
use Rattle.std.specs.List.{AllByRecursion}
use Rattle.std.proofs.lemmas.List.{length-append}
use Rattle.clausify.specs.Behind.{AreFor}
use Rattle.fol_core.specs.SkolemAxioms.{SkolemAxiom}
use Rattle.fol_core.specs.SymbolTable.{Symbol, symbol}
use Rattle.fol_core.specs.declared.symbols.Kind.TheVariants.{Function}
use Rattle.fol_core.proofs.Places.{slice_get_more, slice_get_last}
use Rattle.search_lines.proofs.Read.{Stands}

-- U holds of each number behind the problem's symbols
module _ (U : ℕ → Type 0) where
  abbrev pub IsSkolem : List Symbol → SkolemAxiom → Type 0
  IsSkolem T w = Stands T Function w.symbol (length w.variables) × U w.symbol

  pub skolems_stand : (front ss : List Symbol) (ws : List SkolemAxiom) → AreFor (length front) ss ws → ((n : ℕ) → length front ≤ n → U n) → AllByRecursion (IsSkolem (front ++ ss)) ws
  skolems_stand front [] [] h u = tt
  skolems_stand front [] (w ∷ ws) h u = absurd h
  skolems_stand front (s ∷ ss) [] h u = absurd h
  skolems_stand front (s ∷ ss) (w ∷ ws) h u =
      let same : (front ++ s ∷ []) ++ ss ≡ front ++ s ∷ ss = append_assoc front (s ∷ []) ss in
      let longer : length (front ++ s ∷ []) ≡ suc (length front) = omega (arith, length-append front (s ∷ [])) in
      let here : slice_get (front ++ s ∷ ss) (length front) ≡ Some s =
      subst (λ (t : List Symbol). slice_get t (length front) ≡ Some s) same (slice_get_more (front ++ s ∷ []) ss (length front) s (slice_get_last front s))
      in
      let is : s ≡ symbol s.name (length w.variables) Function = (λ i. symbol s.name (sym h.2 i) (h.1 i)) in
      let there : slice_get (front ++ s ∷ ss) w.symbol ≡ Some (symbol s.name (length w.variables) Function) =
      ap (slice_get (front ++ s ∷ ss)) h.0 ∙ here ∙ ap Some is
      in
      let rest = skolems_stand (front ++ s ∷ []) ss ws (subst (λ (n : ℕ). AreFor n ss ws) (sym longer) h.3) (λ n l. u n (omega (arith, longer, l))) in (
        (record { name = s.name; there = there }, u w.symbol (omega (arith, h.0))),
        subst (λ (t : List Symbol). AllByRecursion (IsSkolem t) ws) same rest,
      )
