-- Words behind a clause, one after the other.
use Rattle.std.proofs.Common.{◌≡◌, ◌↔◌, inl, inr, ℕ, suc, ◌+◌, ◌<◌, ◌≤◌, Bool, true, false, ◌&&◌, IsTrue, List, [], ◌∷◌, ◌++◌, map, length, get_or, drop, take, Option, Some, None, is_some, refl, sym, ap, ◌∙◌, subst, add-one, drop-cons}
use Rattle.std.specs.List.{flat_map}
use Rattle.std.proofs.lemmas.Bool.{and_left, and_right, and_from, false≢true}
use Rattle.std.proofs.lemmas.List.{drop_all, take_all, take_more}
use Rattle.std.proofs.lemmas.List.Folds.{list_all-append}
use Rattle.fol_core.specs.Literals.{ClauseTree}
use Rattle.fol_core.specs.Renumbered.{renumbered}
use Rattle.derivation.specs.Later.{LaterWord, Leads, later_fits, later_parents}
use Rattle.derivation.specs.Lines.{FirstWord, ContentTree, LineTree, clause_at, AreClauses, IsClause, After}
use Rattle.derivation.specs.Refused.{Fails, are_there, all_parents}
use Rattle.derivation.specs.Rule.{Concludes}
use Rattle.derivation.specs.View.{later_of}
use Rattle.derivation.specs.declared.row.Row.{Row}
use Rattle.derivation.specs.declared.row.Row.TheVariants as causes
use Rattle.derivation.specs.declared.words.Later.{Later}
use Rattle.derivation.specs.declared.words.Satellite.{Satellite}
use Rattle.inference.specs.Judged.{inference_by, JudgedAs, rule_by, parents_by}
use Rattle.inference.specs.declared.rules.Judged.TheVariants.{Unfit, Apart, Small, Large}
use Rattle.proof_check.specs.Found.{AfterAs, InferredAs, words_from}

drop_next : (ws : List Later) (i : ℕ) (w : Later) → i < length ws → w ≡ get_or ws i w → drop i ws ≡ w ∷ drop (i + 1) ws
drop_next ws i w h is = rw (add-one, drop-cons ws i w) (ap (λ t. t ∷ drop (suc i) ws) (sym is))

pub words_next : (ws : List Later) (i : ℕ) (w : Later) → i < length ws → w ≡ get_or ws i w → words_from ws i ≡ later_of w ∷ words_from ws (i + 1)
words_next ws i w h is = ap (map later_of) (drop_next ws i w h is)

-- whether the clauses are there that the words from one on take
abbrev pub there_from : List LineTree → List Later → ℕ → Bool
there_from ls ws i = are_there ls (flat_map later_parents (words_from ws i))

there_next : (ls : List LineTree) (ws : List Later) (i : ℕ) (w : Later) → i < length ws → w ≡ get_or ws i w → there_from ls ws i ≡ (are_there ls (later_parents (later_of w)) && there_from ls ws (i + 1))
there_next ls ws i w h is =
    ap (λ us. are_there ls (flat_map later_parents us)) (words_next ws i w h is)
    ∙ list_all-append (λ n. is_some (clause_at ls n)) (later_parents (later_of w)) (flat_map later_parents (words_from ws (i + 1)))

pub later_missing : (ls : List LineTree) (ws : List Later) (i : ℕ) (w : Later) → i < length ws → w ≡ get_or ws i w → are_there ls (later_parents (later_of w)) ≡ false → there_from ls ws i ≡ false
later_missing ls ws i w h is e = there_next ls ws i w h is ∙ ap (λ b. b && there_from ls ws (i + 1)) e

pub later_on : (ls : List LineTree) (ws : List Later) (i : ℕ) (w : Later) → i < length ws → w ≡ get_or ws i w → are_there ls (later_parents (later_of w)) ≡ true → there_from ls ws i ≡ there_from ls ws (i + 1)
later_on ls ws i w h is e = there_next ls ws i w h is ∙ ap (λ b. b && there_from ls ws (i + 1)) e

-- what the words from one on come to is what all come to
pub record Following (ls : List LineTree) (ws : List Later) (d0 : ClauseTree) (content : ContentTree) (i : ℕ) (d : ClauseTree) : Type 0 where
  pub onward : After ls (words_from ws i) d content → After ls (words_from ws 0) d0 content
  pub fails : (row : Row) → Fails ls (words_from ws i) d content row → Fails ls (words_from ws 0) d0 content row
  pub missing : there_from ls ws i ≡ false → there_from ls ws 0 ≡ false

pub following_start : (ls : List LineTree) (ws : List Later) (d : ClauseTree) (content : ContentTree) → Following ls ws d content 0 d
following_start ls ws d content = record { onward = λ a. a; fails = λ row f. f; missing = λ e. e }

module _ (ls : List LineTree) (ws : List Later) (d0 : ClauseTree) (content : ContentTree) (i : ℕ) (d : ClauseTree) (w : Later) where
  pub following_made : Following ls ws d0 content i d → i < length ws → w ≡ get_or ws i w → (ps : List ClauseTree) (b : ClauseTree) → AreClauses ls (later_parents (later_of w)) ps
      → IsTrue (later_fits (later_of w) d ps) × Leads (later_of w) d ps b → Following ls ws d0 content (i + 1) b
  following_made going h is ps b are leads = record {
    onward = λ after. going.onward (subst (λ us. After ls us d content) (sym (words_next ws i w h is)) (ps, b, are, leads.0, leads.1, after));
    fails = λ row fails. going.fails row (subst (λ us. Fails ls us d content row) (sym (words_next ws i w h is)) (ps, are, inr (inr (leads.0, (b, leads.1, fails)))));
    missing = λ e. going.missing (there_next ls ws i w h is ∙ and_right (are_there ls (later_parents (later_of w))) (there_from ls ws (i + 1)) e);
  }

  pub following_misplaced : Following ls ws d0 content i d → i < length ws → w ≡ get_or ws i w → (ps : List ClauseTree) → AreClauses ls (later_parents (later_of w)) ps
      → (b : ClauseTree) → (later_fits (later_of w) d ps ≡ false) × (b ≡ d) → Fails ls (words_from ws 0) d0 content causes.Misplaced
  following_misplaced going h is ps are b leads = going.fails causes.Misplaced (subst (λ us. Fails ls us d content causes.Misplaced) (sym (words_next ws i w h is)) (ps, are, inl (refl, leads.0)))

  pub following_differs : Following ls ws d0 content i d → i < length ws → w ≡ get_or ws i w → (ps : List ClauseTree) → AreClauses ls (later_parents (later_of w)) ps
      → (b : ClauseTree) → IsTrue (later_fits (later_of w) d ps) × ((e : ClauseTree) → Leads (later_of w) d ps e → ⊥) × (b ≡ d) → Fails ls (words_from ws 0) d0 content causes.Differs
  following_differs going h is ps are b leads = going.fails causes.Differs (subst (λ us. Fails ls us d content causes.Differs) (sym (words_next ws i w h is)) (ps, are, inr (inl (refl, leads.0, leads.1))))

  pub following_missing : Following ls ws d0 content i d → i < length ws → w ≡ get_or ws i w → are_there ls (later_parents (later_of w)) ≡ false → there_from ls ws 0 ≡ false
  following_missing going h is e = going.missing (later_missing ls ws i w h is e)

-- no clause is too large where none may be
pub following_never : (ls : List LineTree) (ws : List Later) (d0 : ClauseTree) (content : ContentTree) (w : LaterWord) (c d : ClauseTree) (ps : List ClauseTree) → IsTrue (later_fits w c ps) × ((e : ClauseTree) × Leads w c ps e × (false ≡ true)) × (d ≡ c) → Fails ls (words_from ws 0) d0 content causes.Differs
following_never ls ws d0 content w c d ps is = absurd (false≢true is.1.2)

-- the words from one on, on another form of the clause
pub following_shared : (ls : List LineTree) (ws : List Later) (d0 : ClauseTree) (content : ContentTree) (i : ℕ) (d : ClauseTree) (o : Option Row) → Following ls ws d0 content i d → AfterAs ls (words_from ws i) d content o → AfterAs ls (words_from ws 0) d0 content o
following_shared ls ws d0 content i d None going after = going.onward after
following_shared ls ws d0 content i d (Some row) going (inl fails) = inl (going.fails row fails)
following_shared ls ws d0 content i d (Some row) going (inr missing) = inr (missing.0, going.missing missing.1)

module _ (ls : List LineTree) (ws : List Later) (d0 : ClauseTree) (content : ContentTree) (i : ℕ) (d : ClauseTree) where
  pub following_ends : Following ls ws d0 content i d → length ws ≤ i → IsClause content d → After ls (words_from ws 0) d0 content
  following_ends going h same = going.onward (subst (λ us. After ls us d content) (sym (ap (map later_of) (drop_all i ws h))) same)

  pub following_other : Following ls ws d0 content i d → length ws ≤ i → (IsClause content d → ⊥) → Fails ls (words_from ws 0) d0 content causes.OtherClause
  following_other going h apart = going.fails causes.OtherClause (subst (λ us. Fails ls us d content causes.OtherClause) (sym (ap (map later_of) (drop_all i ws h))) (refl, apart))

-- a content that isn't as large isn't the clause
pub other_clause : (content : ContentTree) (d : ClauseTree) → (IsClause content d → false ≡ true) → IsTrue false ↔ IsClause content d
other_clause content d apart = (λ h. absurd (false≢true h), λ is. absurd (false≢true (apart is)))

-- no word follows, and the content isn't it
pub other_size : (ls : List LineTree) (ws : List Later) (d : ClauseTree) (content : ContentTree) → ws ≡ [] → (IsClause content d → false ≡ true) → AfterAs ls (map later_of ws) d content (Some causes.OtherClause)
other_size ls ws d content none apart = subst (λ us. AfterAs ls (map later_of us) d content (Some causes.OtherClause)) (sym none) (inl (refl, λ is. false≢true (apart is)))

pub numbers_next : (n : ℕ) (ss : List Satellite) (i : ℕ) (s : Satellite) → i < length ss → s ≡ get_or ss i s
    → n ∷ map (λ s. s.clause) (take (i + 1) ss) ≡ (n ∷ map (λ s. s.clause) (take i ss)) ++ s.clause ∷ []
numbers_next n ss i s h is =
    ap (λ ts. n ∷ map (λ (s : Satellite). s.clause) ts) (take_more ss i s h ∙ ap (λ t. take i ss ++ t ∷ []) (sym is)) ∙ ap (λ l. n ∷ l) (mapped (take i ss))
  where
    mapped : (ts : List Satellite) → map (λ (s : Satellite). s.clause) (ts ++ s ∷ []) ≡ map (λ (s : Satellite). s.clause) ts ++ s.clause ∷ []
    mapped [] = refl
    mapped (t ∷ ts) = ap (λ l. t.clause ∷ l) (mapped ts)

pub numbers_end : (n : ℕ) (ss : List Satellite) (i : ℕ) → length ss ≤ i → n ∷ map (λ (s : Satellite). s.clause) (take i ss) ≡ n ∷ map (λ (s : Satellite). s.clause) ss
numbers_end n ss i h = ap (λ ts. n ∷ map (λ (s : Satellite). s.clause) ts) (take_all i ss h)

-- clauses of lines are there
pub there_of : (ls : List LineTree) (ns : List ℕ) (cs : List ClauseTree) → AreClauses ls ns cs → IsTrue (are_there ls ns)
there_of ls [] [] are = refl
there_of ls [] (c ∷ cs) are = absurd are
there_of ls (n ∷ ns) [] are = absurd are
there_of ls (n ∷ ns) (c ∷ cs) are = and_from (is_some (clause_at ls n)) (are_there ls ns) (ap is_some are.0) (there_of ls ns cs are.1)

module _ (ls : List LineTree) (w : FirstWord) (ws : List LaterWord) (content : ContentTree) where
  split : are_there ls (all_parents (inference_by w) ws) ≡ (are_there ls (parents_by w) && are_there ls (flat_map later_parents ws))
  split = list_all-append (λ n. is_some (clause_at ls n)) (parents_by w) (flat_map later_parents ws)

  -- parents that aren't there
  pub parents_missing : are_there ls (parents_by w) ≡ false → InferredAs ls w ws content (Some causes.NoParent)
  parents_missing e = inl (refl, split ∙ and_left (are_there ls (parents_by w)) (are_there ls (flat_map later_parents ws)) e)

  pub words_missing : are_there ls (flat_map later_parents ws) ≡ false → InferredAs ls w ws content (Some causes.NoParent)
  words_missing e = inl (refl, split ∙ and_right (are_there ls (parents_by w)) (are_there ls (flat_map later_parents ws)) e)

  pub all_there : (cs : List ClauseTree) → AreClauses ls (parents_by w) cs → are_there ls (flat_map later_parents ws) ≡ true → IsTrue (are_there ls (all_parents (inference_by w) ws))
  all_there cs are e = split ∙ and_from (are_there ls (parents_by w)) (are_there ls (flat_map later_parents ws)) (there_of ls (parents_by w) cs are) e

  -- what the rule and the words come to
  pub rule_misplaced : (cs : List ClauseTree) → AreClauses ls (parents_by w) cs → IsTrue (are_there ls (all_parents (inference_by w) ws)) → JudgedAs (rule_by w) cs Unfit → InferredAs ls w ws content (Some causes.Misplaced)
  rule_misplaced cs are there judged = inr (there, (cs, are, inl (refl, judged)))

  pub rule_differs : (cs : List ClauseTree) → AreClauses ls (parents_by w) cs → IsTrue (are_there ls (all_parents (inference_by w) ws)) → JudgedAs (rule_by w) cs Apart → InferredAs ls w ws content (Some causes.Differs)
  rule_differs cs are there judged = inr (there, (cs, are, inr (inl (refl, judged.0, judged.1))))

  pub rule_after : (cs : List ClauseTree) (c : ClauseTree) (o : Option Row) → AreClauses ls (parents_by w) cs → IsTrue (are_there ls (all_parents (inference_by w) ws)) → JudgedAs (rule_by w) cs (Small c)
      → AfterAs ls ws c content o → InferredAs ls w ws content o
  rule_after cs c None are there judged after = (cs, c, are, judged.0, judged.1, after)
  rule_after cs c (Some row) are there judged (inl fails) = inr (there, (cs, are, inr (inr (judged.0, (c, judged.1, fails)))))
  rule_after cs c (Some row) are there judged (inr missing) = inl (missing.0, split ∙ and_right (are_there ls (parents_by w)) (are_there ls (flat_map later_parents ws)) missing.1)

  pub rule_after_large : (cs : List ClauseTree) (c d : ClauseTree) (o : Option Row) → AreClauses ls (parents_by w) cs → IsTrue (are_there ls (all_parents (inference_by w) ws)) → JudgedAs (rule_by w) cs (Large c)
      → d ≡ renumbered c → AfterAs ls ws d content o → InferredAs ls w ws content o
  rule_after_large cs c d o are there judged is after = rule_after cs d o are there (judged.0, subst (Concludes (rule_by w) cs) (sym is) judged.1) after
