-- Earlier lines, one after the other.
use Rattle.std.proofs.Common.{◌≡◌, inl, inr, ℕ, zero, suc, ◌+◌, ◌<◌, ◌≤◌, ◌==◌, Bool, true, false, ◌&&◌, if◌then◌else◌, List, [], ◌∷◌, ◌++◌, length, get_or, drop, Option, Some, None, is_some, Result, Ok, Err, MatchResult, refl, arith, sym, ap, ◌∙◌, subst, add-one, drop-cons, append_assoc}
use Rattle.std.specs.Option.{option_map, option_map_or, option_and_then}
use Rattle.std.proofs.lemmas.Bool.{eq-eqb, ne_eqb, cases_lt}
use Rattle.std.proofs.lemmas.Bool.Decides.{nat_tests}
use Rattle.std.proofs.lemmas.Cmp.{ranked}
use Rattle.std.proofs.lemmas.List.{drop_all, append-nil, map-append}
use Rattle.std.specs.List.Sorted.{IsSearchInRange, IsBinarySearchResult, IsNonDecreasingBy}
use Rattle.std.specs.Borrow.{Bor}
use Rattle.std.specs.Ordering.{nat_cmp, ordering_index}
use Rattle.fol_core.specs.Fol.{Fol}
use Rattle.fol_core.specs.Literals.{ClauseTree}
use Rattle.answered_lines.specs.Laws.{AnswerNothing}
use Rattle.answered_lines.specs.Lines.{AnsweredLine, plain_lines, answered_at, answers_of_line}
use Rattle.answered_lines.specs.View.{answered_line, answered_lines_of}
use Rattle.answers.specs.AnswerView.{answers_of}
use Rattle.derivation.specs.Lines.{LineTree, ContentTree, formula, clause, is_formula, is_formula_at, content_clause, line_at, clause_at, AreClauses}
use Rattle.derivation.specs.Refused.{are_there}
use Rattle.derivation.specs.View.{content_of, line_tree, lines_of}
use Rattle.derivation.specs.declared.line.Line.{Line}
use Rattle.inference.specs.Lent.{lent_clauses}
use Rattle.proof_check.specs.Reached.{AreAbove, AreRising}

drop_next : {X : Type 0} (xs : List X) (i : ℕ) (x : X) → i < length xs → x ≡ get_or xs i x → drop i xs ≡ x ∷ drop (i + 1) xs
drop_next xs i x h is = rw (add-one, drop-cons xs i x) (ap (λ t. t ∷ drop (suc i) xs) (sym is))

above_at : (n : ℕ) (ls : List Line) (i : ℕ) (d : Line) → AreAbove n (lines_of ls) → i < length ls → n < (get_or ls i d).number
above_at n [] i d above h = absurd (omega arith)
above_at n (l ∷ ls) zero d above h = above.0
above_at n (l ∷ ls) (suc i) d above h = above_at n ls i d above.1 (omega arith)

-- numbers of lines that rise
rises : (ls : List Line) (i j : ℕ) (d : Line) → AreRising (lines_of ls) → i ≤ j → j < length ls → (get_or ls i d).number ≤ (get_or ls j d).number
rises [] i j d rising le h = absurd (omega arith)
rises (l ∷ ls) zero zero d rising le h = omega arith
rises (l ∷ ls) zero (suc j) d rising le h = let lt = above_at l.number ls j d rising.0 (omega arith) in omega arith
rises (l ∷ ls) (suc i) zero d rising le h = absurd (omega arith)
rises (l ∷ ls) (suc i) (suc j) d rising le h = rises ls i j d rising.1 (omega arith) (omega arith)

-- the line of a number is at its place
line_there : (ls : List Line) (n i : ℕ) (l : Line) → AreRising (lines_of ls) → i < length ls → l ≡ get_or ls i l → l.number ≡ n → answered_at (answered_lines_of ls) n ≡ Some (answered_line l)
line_there [] n i l rising h is same = absurd (omega arith)
line_there (k ∷ ls) n zero l rising h is same =
    ap (λ b. if b then Some (answered_line k) else answered_at (answered_lines_of ls) n) (eq-eqb k.number n (ap (λ (m : Line). m.number) (sym is) ∙ same)) ∙ ap (λ (m : Line). Some (answered_line m)) (sym is)
line_there (k ∷ ls) n (suc i) l rising h is same =
    let lt : k.number < (get_or ls i l).number = above_at k.number ls i l rising.0 (omega arith) in
    let at : (get_or ls i l).number ≡ n = ap (λ (m : Line). m.number) (sym is) ∙ same in
    ap (λ b. if b then Some (answered_line k) else answered_at (answered_lines_of ls) n) (ne_eqb k.number n (λ e. absurd (omega arith))) ∙ line_there ls n i l rising.1 (omega arith) is same

-- or it is nowhere
line_nowhere : (ls : List Line) (n : ℕ) → ((i : ℕ) (d : Line) → i < length ls → (get_or ls i d).number ≡ n → ⊥) → answered_at (answered_lines_of ls) n ≡ None
line_nowhere [] n apart = refl
line_nowhere (l ∷ ls) n apart =
    ap (λ b. if b then Some (answered_line l) else answered_at (answered_lines_of ls) n) (ne_eqb l.number n (apart 0 l (omega arith))) ∙ line_nowhere ls n (λ i d h. apart (suc i) d (omega arith))

-- what a search by number answers
abbrev pub Searched : List Line → ℕ → Result ℕ ℕ → Type 0
Searched ls n r = MatchResult r (λ i. (l : Line) → l ≡ get_or ls i l → answered_at (answered_lines_of ls) n ≡ Some (answered_line l)) (λ i. answered_at (answered_lines_of ls) n ≡ None)

pub searched : (ls : List Line) (n : ℕ) (r : Result ℕ ℕ) → AreRising (lines_of ls) → IsSearchInRange r (length ls) → IsBinarySearchResult (λ (l : Line). nat_cmp l.number n) ls r → Searched ls n r
searched ls n (Ok i) rising range found = λ l is. line_there ls n i l rising range is (ap (λ (m : Line). m.number) is ∙ ranked _ n _ (sym (found l)))
searched ls n (Err i) rising range parted = line_nowhere ls n apart
  where
    rise : IsNonDecreasingBy (λ (l : Line). ordering_index (nat_cmp l.number n)) ls
    rise i j d le h = let up = rises ls i j d rising le h in grind (arith, nat_tests)

    apart : (k : ℕ) (d : Line) → k < length ls → (get_or ls k d).number ≡ n → ⊥
    apart k d h same = elim (cases_lt k i) [
      | inl lt ↦ let below : (get_or ls k d).number < n = ranked _ n _ (sym ((parted rise).0 k d (omega arith) lt)) in omega arith
      | inr le ↦ let above : n < (get_or ls k d).number = ranked _ n _ (sym ((parted rise).1 k d le h)) in omega arith
    ]

-- the lines of the code, without their notes
pub plainly : (ls : List Line) → plain_lines (answered_lines_of ls) ≡ lines_of ls
plainly [] = refl
plainly (l ∷ ls) = ap (λ ks. line_tree l ∷ ks) (plainly ls)

-- the line of a number, without its notes
pub plain_at : (ls : List Line) (n : ℕ) → option_map (λ (l : AnsweredLine). l.line) (answered_at (answered_lines_of ls) n) ≡ line_at (lines_of ls) n
plain_at [] n = refl
plain_at (l ∷ ls) n = by (l.number == n) (plain_at ls n)
  where
    by : (b : Bool) → option_map (λ (k : AnsweredLine). k.line) (answered_at (answered_lines_of ls) n) ≡ line_at (lines_of ls) n
        → option_map (λ (k : AnsweredLine). k.line) (if b then Some (answered_line l) else answered_at (answered_lines_of ls) n) ≡ (if b then Some (line_tree l) else line_at (lines_of ls) n)
    by true rest = refl
    by false rest = rest

module _ (ls : List Line) (n : ℕ) (l : Line) where
  is_at : Some (answered_line l) ≡ answered_at (answered_lines_of ls) n → Some (line_tree l) ≡ line_at (lines_of ls) n
  is_at there = ap (option_map (λ (k : AnsweredLine). k.line)) there ∙ plain_at ls n

  pub formula_there : (f : Fol) → Some (answered_line l) ≡ answered_at (answered_lines_of ls) n → content_of l.content ≡ formula f
      → (is_formula_at (lines_of ls) n ≡ true) × (answered_at (answered_lines_of ls) n ≡ Some (answered_line l))
  formula_there f there is = (ap (λ o. option_map_or (λ (k : LineTree). is_formula k.content) o false) (sym (is_at there)) ∙ ap is_formula is, sym there)

  pub other_there : (c : ClauseTree) → Some (answered_line l) ≡ answered_at (answered_lines_of ls) n → content_of l.content ≡ clause c → is_formula_at (lines_of ls) n ≡ false
  other_there c there is = ap (λ o. option_map_or (λ (k : LineTree). is_formula k.content) o false) (sym (is_at there)) ∙ ap is_formula is

  pub no_clause : (f : Fol) → Some (answered_line l) ≡ answered_at (answered_lines_of ls) n → content_of l.content ≡ formula f → None ≡ clause_at (lines_of ls) n
  no_clause f there is = sym (ap (option_and_then (λ (k : LineTree). content_clause k.content)) (sym (is_at there)) ∙ ap content_clause is)

  pub clause_there : (c : ClauseTree) → Some (answered_line l) ≡ answered_at (answered_lines_of ls) n → content_of l.content ≡ clause c → Some c ≡ clause_at (lines_of ls) n
  clause_there c there is = sym (ap (option_and_then (λ (k : LineTree). content_clause k.content)) (sym (is_at there)) ∙ ap content_clause is)

pub clause_nowhere : (ls : List Line) (n : ℕ) → None ≡ answered_at (answered_lines_of ls) n → None ≡ clause_at (lines_of ls) n
clause_nowhere ls n none = sym (ap (option_and_then (λ (k : LineTree). content_clause k.content)) (sym (plain_at ls n) ∙ ap (option_map (λ (k : AnsweredLine). k.line)) (sym none)))

pub no_formula : (ls : List Line) (n : ℕ) → None ≡ answered_at (answered_lines_of ls) n → is_formula_at (lines_of ls) n ≡ false
no_formula ls n none = ap (λ o. option_map_or (λ (k : LineTree). is_formula k.content) o false) (sym (plain_at ls n) ∙ ap (option_map (λ (k : AnsweredLine). k.line)) (sym none))

-- the answers of the line of a number
pub none_there : (ls : List Line) (n : ℕ) → None ≡ answered_at (answered_lines_of ls) n → answers_of_line (answered_lines_of ls) n ≡ []
none_there ls n e = ap (λ o. option_map_or (λ (k : AnsweredLine). k.answers) o []) (sym e)

pub none_here : (ls : List Line) (n : ℕ) (l : Line) → Some (answered_line l) ≡ answered_at (answered_lines_of ls) n → l.notes.answers.items ≡ [] → answers_of_line (answered_lines_of ls) n ≡ []
none_here ls n l e none = ap (λ o. option_map_or (λ (k : AnsweredLine). k.answers) o []) (sym e) ∙ ap answers_of none

-- where the lines from one on have none, all have none
pub record Quiet (ls : List AnsweredLine) (ns : List ℕ) (i : ℕ) : Type 0 where
  pub all : AnswerNothing ls (drop i ns) → AnswerNothing ls ns

pub quiet_start : (ls : List AnsweredLine) (ns : List ℕ) → Quiet ls ns 0
quiet_start ls ns = record { all = λ h. h }

pub quiet_next : (ls : List AnsweredLine) (ns : List ℕ) (i n : ℕ) → Quiet ls ns i → i < length ns → n ≡ get_or ns i n → answers_of_line ls n ≡ [] → Quiet ls ns (i + 1)
quiet_next ls ns i n quiet h is none = record { all = λ rest. quiet.all (subst (AnswerNothing ls) (sym (drop_next ns i n h is)) (none, rest)) }

pub quiet_end : (ls : List AnsweredLine) (ns : List ℕ) (i : ℕ) → Quiet ls ns i → length ns ≤ i → AnswerNothing ls ns
quiet_end ls ns i quiet h = quiet.all (subst (AnswerNothing ls) (sym (drop_all i ns h)) tt)

-- what is found, and what is to be found
pub record Finding (ls : List LineTree) (ns : List ℕ) (i : ℕ) (cs : List ClauseTree) : Type 0 where
  pub front : (ds : List ClauseTree) → AreClauses ls (drop i ns) ds → AreClauses ls ns (cs ++ ds)
  pub missing : are_there ls (drop i ns) ≡ false → are_there ls ns ≡ false

pub finding_start : (ls : List LineTree) (ns : List ℕ) → Finding ls ns 0 []
finding_start ls ns = record { front = λ ds are. are; missing = λ h. h }

lent_push : (cs : List (Bor ClauseTree)) (c : Bor ClauseTree) → lent_clauses (cs ++ c ∷ []) ≡ lent_clauses cs ++ c.now ∷ []
lent_push cs c = map-append (λ (b : Bor ClauseTree). b.now) cs (c ∷ [])

pub clauses_next : (ls : List LineTree) (ns : List ℕ) (i n : ℕ) (cs : List (Bor ClauseTree)) (c : Bor ClauseTree) → Finding ls ns i (lent_clauses cs) → i < length ns → n ≡ get_or ns i n → Some c.now ≡ clause_at ls n
    → Finding ls ns (i + 1) (lent_clauses (cs ++ c ∷ []))
clauses_next ls ns i n cs c found h is there = subst (Finding ls ns (i + 1)) (sym (lent_push cs c)) record {
  front = λ ds are. subst (AreClauses ls ns) (sym (append_assoc (lent_clauses cs) (c.now ∷ []) ds))
      (found.front (c.now ∷ ds) (subst (λ ms. AreClauses ls ms (c.now ∷ ds)) (sym (drop_next ns i n h is)) (sym there, are)));
  missing = λ e. found.missing (ap (are_there ls) (drop_next ns i n h is) ∙ ap (λ b. b && are_there ls (drop (i + 1) ns)) (sym (ap is_some there)) ∙ e);
}

pub clauses_missing : (ls : List LineTree) (ns : List ℕ) (i n : ℕ) (cs : List ClauseTree) → Finding ls ns i cs → i < length ns → n ≡ get_or ns i n → None ≡ clause_at ls n → are_there ls ns ≡ false
clauses_missing ls ns i n cs found h is none = found.missing (ap (are_there ls) (drop_next ns i n h is) ∙ ap (λ o. is_some o && are_there ls (drop (i + 1) ns)) (sym none))

pub clauses_all : (ls : List LineTree) (ns : List ℕ) (i : ℕ) (cs : List ClauseTree) → Finding ls ns i cs → length ns ≤ i → AreClauses ls ns cs
clauses_all ls ns i cs found h = subst (AreClauses ls ns) (append-nil cs) (found.front [] (subst (λ ms. AreClauses ls ms []) (sym (drop_all i ns h)) tt))
