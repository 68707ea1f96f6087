-- Clauses that name no element.
use Rattle.std.proofs.Common.{◌≡◌, ℕ, Bool, true, false, ◌||◌, List, [], ◌∷◌, refl, sym, ◌∙◌}
use Rattle.std.proofs.lemmas.Bool.{true≢false, eq-eqb}
use Rattle.fol_core.specs.Laws.{NamesElements, AllNameElements}
use Rattle.fol_core.specs.Literals.{ClauseTree}
use Rattle.fol_core.specs.Meaning.{Meaning}
use Rattle.fol_core.specs.Occurs.{names_in, names_in_any}
use Rattle.fol_core.specs.Tree.{Tree, var, elem, app, Trees, none, more}
use Rattle.derivation.specs.Laws.{NamesWithin, ContentNamesWithin, LinesNameWithin, NamesNone, ContentNamesNone, LinesNameNone}
use Rattle.derivation.specs.Lines.{ContentTree, formula, clause, LineTree}

neither_left : (a b : Bool) → (a || b) ≡ false → a ≡ false
neither_left true b h = h
neither_left false b h = refl

neither_right : (a b : Bool) → (a || b) ≡ false → b ≡ false
neither_right true b h = absurd (true≢false h)
neither_right false b h = h

mutual
  none_tree : (m : Meaning) (t : Tree) → ((k : ℕ) → names_in k t ≡ false) → NamesElements m t
  none_tree m (var x) h = tt
  none_tree m (elem n) h = absurd (true≢false (sym (eq-eqb n n refl) ∙ h n))
  none_tree m (app f ts) h = none_trees m ts h

  none_trees : (m : Meaning) (ts : Trees) → ((k : ℕ) → names_in_any k ts ≡ false) → AllNameElements m ts
  none_trees m none h = tt
  none_trees m (more t ts) h = (
    none_tree m t (λ k. neither_left (names_in k t) (names_in_any k ts) (h k)),
    none_trees m ts (λ k. neither_right (names_in k t) (names_in_any k ts) (h k)),
  )

none_clause : (m : Meaning) (c : ClauseTree) → NamesNone c → NamesWithin m c
none_clause m [] h = tt
none_clause m (l ∷ c) h = (none_tree m l.atom h.0, none_clause m c h.1)

none_content : (m : Meaning) (content : ContentTree) → ContentNamesNone content → ContentNamesWithin m content
none_content m (formula f) h = tt
none_content m (clause c) h = none_clause m c h

pub none_within : (m : Meaning) (ls : List LineTree) → LinesNameNone ls → LinesNameWithin m ls
none_within m [] h = tt
none_within m (l ∷ ls) h = (none_content m l.content h.0, none_within m ls h.1)
