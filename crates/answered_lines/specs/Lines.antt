-- Derivations whose clauses carry answers.
use Rattle.std.specs.Prelude.{ℕ, ◌≡◌, Bool, true, false, ◌==◌, ◌-◌, if◌then◌else◌, IsTrue, ◌⊎◌, List, [], ◌∷◌, ◌++◌, map, Option, Some, None}
use Rattle.std.specs.Option.{option_map_or}
use Rattle.answers.specs.AnswerTrees.{Answer, answer, substitute_answers, each_once, numbered_clause, numbered_answers, IsSame}
use Rattle.answered_lines.specs.Steps.{ConcludesWith, Brings}
use Rattle.clausify.specs.Asked.{first_ask, other_asks}
use Rattle.derivation.specs.Later.{LaterWord, later_parents, later_fits, Leads}
use Rattle.derivation.specs.Lines.{FirstWord, assumed, wanted, clausified, denied, copied, resolved, factored, paramodulated, xx_resolved, instantiated, Inference, copy_inference, clash_inference, factor_inference, para_inference, xx_inference, clause_at, AreClauses, ContentTree, formula, clause, LineTree, InputRow, IsSaid, IsAbove, ends_empty}
use Rattle.fol_core.specs.Fol.{Fol}
use Rattle.fol_core.specs.Literals.{ClauseTree}
use Rattle.fol_core.specs.Tree.{Trees, none}
use Rattle.fol_problem.specs.Stated.{Said}
use Rattle.substitutions.specs.Bindings.{Binding, by_bindings}
use Rattle.substitutions.specs.Instances.{substitute_clause}

-- what is said, and what is asked for: places in the prefix of its formula, none where nothing is
pub record Asked : Type 0 where
  pub said : Said
  pub places : List ℕ

abbrev pub asked : Said → List ℕ → Asked
asked said places = record { said = said; places = places }

-- each of what is said with what it asks for
abbrev pub with_asks : List Said → List (List ℕ) → List Asked
with_asks [] asks = []
with_asks (s ∷ ss) asks = asked s (first_ask asks) ∷ with_asks ss (other_asks asks)

abbrev pub all_said_in : List Asked → List Said
all_said_in ss = map (λ s. s.said) ss

-- an input clause by its formula's number, and the terms of its answer
pub record AnsweredRow : Type 0 where
  pub row : InputRow
  pub terms : Trees

abbrev pub answered_row : InputRow → Trees → AnsweredRow
answered_row row terms = record { row = row; terms = terms }

-- each input clause with the terms of its answer
abbrev pub with_terms : List InputRow → List Trees → List AnsweredRow
with_terms [] lists = []
with_terms (r ∷ rows) [] = answered_row r none ∷ with_terms rows []
with_terms (r ∷ rows) (ts ∷ lists) = answered_row r ts ∷ with_terms rows lists

abbrev pub plain_rows : List AnsweredRow → List InputRow
plain_rows rows = map (λ r. r.row) rows

-- a line with the attribute of its formula, if it has one, and with the answers of its clause
pub record AnsweredLine : Type 0 where
  pub line : LineTree
  pub asks : Option (List ℕ)
  pub answers : List Answer

abbrev pub plain_lines : List AnsweredLine → List LineTree
plain_lines ls = map (λ l. l.line) ls

-- the line of a number
abbrev pub answered_at : List AnsweredLine → ℕ → Option AnsweredLine
answered_at [] n = None
answered_at (l ∷ ls) n = if l.line.number == n then Some l else answered_at ls n

-- the answers of the line of a number, and of the lines of some numbers
abbrev pub answers_of_line : List AnsweredLine → ℕ → List Answer
answers_of_line ls n = option_map_or (λ l. l.answers) (answered_at ls n) []

abbrev pub answers_at : List AnsweredLine → List ℕ → List (List Answer)
answers_at ls ns = map (answers_of_line ls) ns

-- a line's content is a clause and its answers, but for the numbers of their variables
abbrev pub IsClauseWith : ContentTree → List Answer → ClauseTree → List Answer → Type 0
IsClauseWith (formula f) us d bs = ⊥
IsClauseWith (clause c) us d bs = IsSame c us d bs

-- from a clause with answers the words, in turn, lead to a line's content and answers
abbrev pub AfterWith : List AnsweredLine → List LaterWord → ClauseTree → List Answer →
    ContentTree → List Answer → Type 0
AfterWith ls [] d bs content us = IsClauseWith content us d bs
AfterWith ls (w ∷ ws) d bs content us =
    (ps : List ClauseTree) × (e : ClauseTree) × (made : List Answer)
    × AreClauses (plain_lines ls) (later_parents w) ps × IsTrue (later_fits w d ps)
    × Leads w d ps e × Brings w d bs ps (answers_at ls (later_parents w)) made
    × AfterWith ls ws e made content us

-- so does a rule with the words behind it
abbrev pub IsInferredWith : List AnsweredLine → Inference → List LaterWord → ContentTree →
    List Answer → Type 0
IsInferredWith ls i ws content us =
    (ps : List ClauseTree) × (d : ClauseTree) × (bs : List Answer)
    × AreClauses (plain_lines ls) i.parents ps × IsTrue (i.rule.fits ps)
    × ConcludesWith i.rule ps (answers_at ls i.parents) d bs × AfterWith ls ws d bs content us

-- an instance of a clause with answers
abbrev pub clause_put_in : List Binding → ClauseTree → List Answer → ClauseTree
clause_put_in es c us =
    numbered_clause (substitute_clause (by_bindings es) c) (substitute_answers (by_bindings es) us)

abbrev pub answers_put_in : List Binding → ClauseTree → List Answer → List Answer
answers_put_in es c us =
    each_once (numbered_answers (substitute_clause (by_bindings es) c)
    (substitute_answers (by_bindings es) us))

abbrev pub IsInstanceWith : List AnsweredLine → ℕ → List Binding → List LaterWord → ContentTree →
    List Answer → Type 0
IsInstanceWith ls n es ws content us =
    (c : ClauseTree) × (clause_at (plain_lines ls) n ≡ Some c)
    × AfterWith ls ws (clause_put_in es c (answers_of_line ls n))
    (answers_put_in es c (answers_of_line ls n)) content us

-- some item of a list has a property
abbrev pub IsSome : {A : Type 0} → (A → Type 0) → List A → Type 0
IsSome P [] = ⊥
IsSome P (x ∷ xs) = P x ⊎ IsSome P xs

abbrev pub HasItems : List ℕ → Type 0
HasItems [] = ⊥
HasItems (n ∷ ns) = Unit {0}

-- What is said is this formula, as a goal or as another one. Where a line has the attribute, it
-- asks for the same, and for something.
abbrev pub IsSaidWith : Bool → Fol → Option (List ℕ) → Asked → Type 0
IsSaidWith goal f None s = IsSaid goal f s.said
IsSaidWith goal f (Some places) s =
    IsSaid goal f s.said × (s.places ≡ places) × HasItems places

-- the attribute counts on lines of goals alone
abbrev pub counted : Bool → Option (List ℕ) → Option (List ℕ)
counted goal asks = if goal then asks else None

abbrev pub IsStatedWith : Bool → ContentTree → Option (List ℕ) → List Asked → Type 0
IsStatedWith goal (formula f) asks ss = IsSome (IsSaidWith goal f (counted goal asks)) ss
IsStatedWith goal (clause c) asks ss = ⊥

-- what is said by its number, counted from 1
abbrev pub asked_at : List Asked → ℕ → Option Asked
asked_at [] n = None
asked_at (s ∷ ss) n = if n == 1 then Some s else asked_at ss (n - 1)

-- the answers that an input clause has where its formula is that of line n: none, or one for that
-- line
abbrev pub row_answers : Option (List ℕ) → ℕ → Trees → List Answer
row_answers None n ts = []
row_answers (Some places) n ts = answer n ts ∷ []

-- the row is one of such a formula, and has the clause with these answers
abbrev pub IsRowWith : Bool → Fol → Option (List ℕ) → List Asked → ℕ → ContentTree → List Answer →
    AnsweredRow → Type 0
IsRowWith goal f asks ss n content us r =
    (s : Asked) × (asked_at ss r.row.0 ≡ Some s) × IsSaidWith goal f asks s
    × IsClauseWith content us r.row.1 (row_answers asks n r.terms)

-- the line of a number has the formula, as a goal that asks for this or as another one
abbrev pub IsFormulaWith : List AnsweredLine → ℕ → Bool → Fol → Option (List ℕ) → Type 0
IsFormulaWith ls n goal f asks =
    (l : AnsweredLine) × (answered_at ls n ≡ Some l) × (l.line.content ≡ formula f)
    × (l.line.first ≡ (if goal then wanted else assumed)) × (counted goal l.asks ≡ asks)

-- the content and its answers are an input clause of the formula of a line
abbrev pub IsInputWith : List Asked → List AnsweredRow → List AnsweredLine → Bool → ℕ →
    ContentTree → List Answer → Type 0
IsInputWith ss rows ls goal n content us =
    (f : Fol) × (asks : Option (List ℕ)) × IsFormulaWith ls n goal f asks
    × IsSome (IsRowWith goal f asks ss n content us) rows

-- a line behind earlier ones, with the attribute of its formula or the answers of its clause
abbrev pub IsLineWith : List Asked → List AnsweredRow → List AnsweredLine → FirstWord →
    List LaterWord → ContentTree → Option (List ℕ) → List Answer → Type 0
IsLineWith ss rows ls assumed ws content asks us = IsStatedWith false content asks ss × (ws ≡ [])
IsLineWith ss rows ls wanted ws content asks us = IsStatedWith true content asks ss × (ws ≡ [])
IsLineWith ss rows ls (clausified n) ws content asks us =
    IsInputWith ss rows ls false n content us × (ws ≡ [])
IsLineWith ss rows ls (denied n) ws content asks us =
    IsInputWith ss rows ls true n content us × (ws ≡ [])
IsLineWith ss rows ls (copied n) ws content asks us =
    IsInferredWith ls (copy_inference n) ws content us
IsLineWith ss rows ls (resolved n k) ws content asks us =
    IsInferredWith ls (clash_inference n k) ws content us
IsLineWith ss rows ls (factored n a b) ws content asks us =
    IsInferredWith ls (factor_inference n a b) ws content us
IsLineWith ss rows ls (paramodulated n a side m b path) ws content asks us =
    IsInferredWith ls (para_inference n a side m b path) ws content us
IsLineWith ss rows ls (xx_resolved n a) ws content asks us =
    IsInferredWith ls (xx_inference n a) ws content us
IsLineWith ss rows ls (instantiated n es) ws content asks us =
    IsInstanceWith ls n es ws content us

-- lines behind earlier ones, of which the last has this number
abbrev pub AreLinesWith : List Asked → List AnsweredRow → List AnsweredLine → Option ℕ →
    List AnsweredLine → Type 0
AreLinesWith ss rows earlier last [] = Unit {0}
AreLinesWith ss rows earlier last (l ∷ ls) =
    IsAbove last l.line.number
    × IsLineWith ss rows earlier l.line.first l.line.later l.line.content l.asks l.answers
    × AreLinesWith ss rows (earlier ++ l ∷ []) (Some l.line.number) ls

-- the answers of the last line
abbrev pub last_answers : List AnsweredLine → List Answer
last_answers [] = []
last_answers (l ∷ []) = l.answers
last_answers (l ∷ k ∷ ls) = last_answers (k ∷ ls)

-- a derivation of the empty clause, whose answers are those of its last line
abbrev pub IsRefutationWith : List Asked → List AnsweredRow → List AnsweredLine → Type 0
IsRefutationWith ss rows ls =
    AreLinesWith ss rows [] None ls × IsTrue (ends_empty (plain_lines ls))
