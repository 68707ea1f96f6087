-- No line of a search puts terms in for variables.
use Rattle.std.proofs.Common.{ℕ, suc, Bool, true, false, if◌then◌else◌, length, List, [], ◌∷◌, map, sym, subst}
use Rattle.std.specs.List.{AllByRecursion}
use Rattle.clause_store.specs.Ancestors.{AreAncestors}
use Rattle.clause_store.specs.Lines.{PlainLine, plain_trees}
use Rattle.derivation.specs.Lines.{InputRow, is_goal}
use Rattle.derivation_laws.specs.Elements.{FirstNamesNot, FirstsNameNot}
use Rattle.fol_problem.specs.Stated.{Said}
use Rattle.fol_problem.specs.declared.problem.Role.{Role}
use Rattle.ladr_problem.specs.Sofar.{Listed}
use Rattle.ladr_prover9.specs.Quests.{Quest, asks, listed_lines, quest_lines}
use Rattle.proof_words.specs.Written.{WrittenFirst, as_assumption, as_goal, by_clausify, by_deny, by_copy, by_back_rewrite, by_back_unit_del, by_resolve, by_hyper, by_ur, by_factor, by_para, by_xx_res, by_instantiate, meant}
use Rattle.prover_proofs.specs.SearchLines.{role_at, clausal_lines, stated_lines, made_plain}
use Rattle.prover_setup.specs.SearchInputs.{rows_in}
use Rattle.prover_steps.proofs.Lists.{all_append, all_kept}
use Rattle.prover_steps.specs.Searching.{MadeLine, SearchState}
use Rattle.search_lines.specs.Shapes.{IsFitFirst, IsFitLine}

-- the terms that a first word puts in name no element
abbrev PutsNone : WrittenFirst → Type 0
PutsNone w = (k : ℕ) → FirstNamesNot k (meant w)

fit_none : (w : WrittenFirst) → IsFitFirst w → PutsNone w
fit_none as_assumption fit = λ k. tt
fit_none as_goal fit = λ k. tt
fit_none (by_clausify n) fit = λ k. tt
fit_none (by_deny n) fit = λ k. tt
fit_none (by_copy n) fit = λ k. tt
fit_none (by_back_rewrite n) fit = λ k. tt
fit_none (by_back_unit_del n) fit = λ k. tt
fit_none (by_resolve n s) fit = λ k. tt
fit_none (by_hyper n ss) fit = λ k. tt
fit_none (by_ur n ss) fit = λ k. tt
fit_none (by_factor n a b) fit = λ k. tt
fit_none (by_para n a side m b path) fit = λ k. tt
fit_none (by_xx_res n a) fit = λ k. tt
fit_none (by_instantiate n es) fit = absurd fit

abbrev LinePutsNone : PlainLine → Type 0
LinePutsNone l = PutsNone l.words.first

abbrev pub PutNone : List PlainLine → Type 0
PutNone ls = AllByRecursion LinePutsNone ls

pub firsts_none : (ls : List PlainLine) → PutNone ls → (k : ℕ) → FirstsNameNot k (plain_trees ls)
firsts_none [] h k = tt
firsts_none (l ∷ ls) h k = (h.0 k, firsts_none ls h.1 k)

-- the lines of formulas
stating_none : (b : Bool) → PutsNone (if b then as_goal else as_assumption)
stating_none true = λ k. tt
stating_none false = λ k. tt

listed_none : (n : ℕ) (fs : List (Role × Listed)) → PutNone (listed_lines n fs)
listed_none n [] = tt
listed_none n (f ∷ fs) = (stating_none (is_goal f.0), listed_none (suc n) fs)

-- those of their clauses
clausal_none : (n : ℕ) (b : Bool) → PutsNone (if b then by_deny n else by_clausify n)
clausal_none n true = λ k. tt
clausal_none n false = λ k. tt

clauses_none : (ss : List Said) (n : ℕ) (rows : List InputRow) → PutNone (clausal_lines ss n rows)
clauses_none ss n [] = tt
clauses_none ss n (r ∷ rows) = (clausal_none r.0 (is_goal (role_at ss r.0)), clauses_none ss (suc n) rows)

-- and those that are made
made_none : (ls : List MadeLine) → AllByRecursion IsFitLine ls → PutNone (map made_plain ls)
made_none [] fit = tt
made_none (l ∷ ls) fit = (fit_none l.first fit.0.words.first, made_none ls fit.1)

-- so it is of the lines that a line of what the bytes ask for rests on
pub quest_none : (bytes : List ℕ) (q : Quest) → asks bytes q → (t : SearchState) → AllByRecursion IsFitLine t.lines → (n : ℕ) (lines : List PlainLine) → AreAncestors (quest_lines q t) n lines → PutNone lines
quest_none bytes q asked t fit n lines ancestors =
    let ss = q.search.stated.formulas in
    let rows = rows_in q.search in
    let formulas : PutNone q.formulas = subst (λ (r : Quest). PutNone r.formulas) asked.2 (listed_none 1 asked.0.formulas) in
    let clauses = clausal_lines ss (suc (length q.formulas)) rows in
    let base = all_append LinePutsNone q.formulas clauses formulas (clauses_none ss (suc (length q.formulas)) rows) in
    let all : PutNone (quest_lines q t) = all_append LinePutsNone (stated_lines q.formulas ss rows) (map made_plain t.lines) base (made_none t.lines fit) in
    subst PutNone (sym ancestors.lines) (all_kept LinePutsNone (λ l. ancestors.among l.number) (quest_lines q t) all)
