-- Lines with answers are lines without; and lines of which none asks for something or has answers are lines with answers.
use Rattle.std.proofs.Common.{◌≡◌, inl, inr, ℕ, suc, Bool, true, false, ◌==◌, ◌-◌, if◌then◌else◌, List, [], ◌∷◌, ◌++◌, Option, Some, None, option_map, unwrap_or, refl, sym, ap, ap₂, ◌∙◌, subst}
use Rattle.std.specs.List.{flat_map}
use Rattle.std.specs.Option.{option_map_or}
use Rattle.answers.specs.AnswerTrees.{Answer, substitute_answers, each_once, numbered_answers, fresh_for}
use Rattle.answers.proofs.Prefix.{numbered_is}
use Rattle.answered_lines.specs.Laws.{AnswerNothing, HaveNone}
use Rattle.answered_lines.specs.Lines.{Asked, all_said_in, AnsweredRow, plain_rows, AnsweredLine, plain_lines, answered_at, answers_of_line, answers_at, IsClauseWith, AfterWith, IsInferredWith, clause_put_in, answers_put_in, IsInstanceWith, IsSome, IsSaidWith, counted, IsStatedWith, asked_at, row_answers, IsRowWith, IsInputWith, IsLineWith, AreLinesWith}
use Rattle.answered_lines.specs.Steps.{together, ConcludesWith, used_by, only_answers, Brings}
use Rattle.answered_lines.proofs.Conclusions.{concludes_plain}
use Rattle.derivation.specs.Equations.{left_of}
use Rattle.derivation.specs.Later.{LaterWord, flipped, merged, reflexive, unit_deleted, rewritten, later_parents, Leads}
use Rattle.derivation.specs.Lines.{FirstWord, assumed, wanted, clausified, denied, copied, resolved, factored, paramodulated, xx_resolved, instantiated, Inference, copy_inference, clash_inference, factor_inference, para_inference, xx_inference, ContentTree, formula, clause, LineTree, line_at, IsClause, After, IsInferred, instance_of, IsInstance, IsSaid, IsStated, IsAmongSaid, said_at, IsInput, IsInputOf, IsLine, AreLines}
use Rattle.derivation.specs.Places.{atom_at}
use Rattle.derivation.specs.Refused.{all_parents}
use Rattle.derivation.specs.Rule.{InferenceRule, Concludes}
use Rattle.derivation.specs.Words.{only_of}
use Rattle.fol_core.specs.Fol.{Fol}
use Rattle.fol_core.specs.Literals.{ClauseTree}
use Rattle.fol_core.specs.Tree.{var}
use Rattle.fol_problem.specs.Stated.{Said}
use Rattle.substitutions.specs.Apart.{Own, instances}
use Rattle.substitutions.specs.Bindings.{Binding, by_bindings}
use Rattle.substitutions.specs.Instances.{substitute_clause}

clause_plain : (content : ContentTree) (us : List Answer) (d : ClauseTree) (bs : List Answer) → IsClauseWith content us d bs → IsClause content d
clause_plain (formula f) us d bs is = is
clause_plain (clause c) us d bs is = sym (numbered_is c us) ∙ is.0 ∙ numbered_is d bs

after_plain : (ls : List AnsweredLine) (ws : List LaterWord) (d : ClauseTree) (bs : List Answer) (content : ContentTree) (us : List Answer) → AfterWith ls ws d bs content us → After (plain_lines ls) ws d content
after_plain ls [] d bs content us after = clause_plain content us d bs after
after_plain ls (w ∷ ws) d bs content us (ps, e, made, are, fits, leads, brings, after) = (ps, e, are, fits, leads, after_plain ls ws e made content us after)

pub inferred_plain : (ls : List AnsweredLine) (i : Inference) (ws : List LaterWord) (content : ContentTree) (us : List Answer) → IsInferredWith ls i ws content us → IsInferred (plain_lines ls) i ws content
inferred_plain ls i ws content us (ps, d, bs, are, fits, concludes, after) =
    (ps, d, are, fits, concludes_plain i.rule ps (answers_at ls i.parents) d bs concludes, after_plain ls ws d bs content us after)

pub instance_plain : (ls : List AnsweredLine) (n : ℕ) (es : List Binding) (ws : List LaterWord) (content : ContentTree) (us : List Answer) → IsInstanceWith ls n es ws content us → IsInstance (plain_lines ls) n es ws content
instance_plain ls n es ws content us (c, at, after) =
    let bs = answers_of_line ls n in (
      c,
      at,
      subst (λ d. After (plain_lines ls) ws d content) (numbered_is (substitute_clause (by_bindings es) c) (substitute_answers (by_bindings es) bs))
          (after_plain ls ws (clause_put_in es c bs) (answers_put_in es c bs) content us after),
    )

pub said_plain : (goal : Bool) (f : Fol) (asks : Option (List ℕ)) (s : Asked) → IsSaidWith goal f asks s → IsSaid goal f s.said
said_plain goal f None s is = is
said_plain goal f (Some places) s is = is.0

among_plain : (goal : Bool) (f : Fol) (asks : Option (List ℕ)) (ss : List Asked) → IsSome (IsSaidWith goal f asks) ss → IsAmongSaid goal f (all_said_in ss)
among_plain goal f asks [] is = is
among_plain goal f asks (s ∷ ss) (inl here) = inl (said_plain goal f asks s here)
among_plain goal f asks (s ∷ ss) (inr there) = inr (among_plain goal f asks ss there)

pub stated_plain : (goal : Bool) (content : ContentTree) (asks : Option (List ℕ)) (ss : List Asked) → IsStatedWith goal content asks ss → IsStated goal content (all_said_in ss)
stated_plain goal (formula f) asks ss is = among_plain goal f (counted goal asks) ss is
stated_plain goal (clause c) asks ss is = is

-- what is said, and the line, of a number
said_there : (ss : List Asked) (n : ℕ) → said_at (all_said_in ss) n ≡ option_map (λ s. s.said) (asked_at ss n)
said_there [] n = refl
said_there (s ∷ ss) n = by (n == 1) (said_there ss (n - 1))
  where
    by : (b : Bool) → said_at (all_said_in ss) (n - 1) ≡ option_map (λ s. s.said) (asked_at ss (n - 1))
        → (if b then Some s.said else said_at (all_said_in ss) (n - 1)) ≡ option_map (λ s. s.said) (if b then Some s else asked_at ss (n - 1))
    by true h = refl
    by false h = h

pub line_there : (ls : List AnsweredLine) (n : ℕ) → line_at (plain_lines ls) n ≡ option_map (λ l. l.line) (answered_at ls n)
line_there [] n = refl
line_there (l ∷ ls) n = by (l.line.number == n) (line_there ls n)
  where
    by : (b : Bool) → line_at (plain_lines ls) n ≡ option_map (λ l. l.line) (answered_at ls n)
        → (if b then Some l.line else line_at (plain_lines ls) n) ≡ option_map (λ l. l.line) (if b then Some l else answered_at ls n)
    by true h = refl
    by false h = h

rows_plain : (goal : Bool) (f : Fol) (asks : Option (List ℕ)) (ss : List Asked) (n : ℕ) (content : ContentTree) (us : List Answer) (rows : List AnsweredRow)
    → IsSome (IsRowWith goal f asks ss n content us) rows → IsInput goal f (all_said_in ss) content (plain_rows rows)
rows_plain goal f asks ss n content us [] is = is
rows_plain goal f asks ss n content us (r ∷ rows) (inl (s, at, said, is)) =
    inl (s.said, said_there ss r.row.0 ∙ ap (option_map (λ s. s.said)) at, said_plain goal f asks s said, clause_plain content us r.row.1 (row_answers asks n r.terms) is)
rows_plain goal f asks ss n content us (r ∷ rows) (inr there) = inr (rows_plain goal f asks ss n content us rows there)

pub input_plain : (ss : List Asked) (rows : List AnsweredRow) (ls : List AnsweredLine) (goal : Bool) (n : ℕ) (content : ContentTree) (us : List Answer)
    → IsInputWith ss rows ls goal n content us → IsInputOf (all_said_in ss) (plain_rows rows) (plain_lines ls) goal n content
input_plain ss rows ls goal n content us (f, asks, (l, at, is, first, own), some) =
    (f, (l.line, line_there ls n ∙ ap (option_map (λ l. l.line)) at, is, first), rows_plain goal f asks ss n content us rows some)

-- a line with answers is one without
pub line_plain : (ss : List Asked) (rows : List AnsweredRow) (ls : List AnsweredLine) (first : FirstWord) (ws : List LaterWord) (content : ContentTree) (asks : Option (List ℕ)) (us : List Answer)
    → IsLineWith ss rows ls first ws content asks us → IsLine (all_said_in ss) (plain_rows rows) (plain_lines ls) first ws content
line_plain ss rows ls assumed ws content asks us is = (stated_plain false content asks ss is.0, is.1)
line_plain ss rows ls wanted ws content asks us is = (stated_plain true content asks ss is.0, is.1)
line_plain ss rows ls (clausified n) ws content asks us is = (input_plain ss rows ls false n content us is.0, is.1)
line_plain ss rows ls (denied n) ws content asks us is = (input_plain ss rows ls true n content us is.0, is.1)
line_plain ss rows ls (copied n) ws content asks us is = inferred_plain ls (copy_inference n) ws content us is
line_plain ss rows ls (resolved n k) ws content asks us is = inferred_plain ls (clash_inference n k) ws content us is
line_plain ss rows ls (factored n a b) ws content asks us is = inferred_plain ls (factor_inference n a b) ws content us is
line_plain ss rows ls (paramodulated n a side m b path) ws content asks us is = inferred_plain ls (para_inference n a side m b path) ws content us is
line_plain ss rows ls (xx_resolved n a) ws content asks us is = inferred_plain ls (xx_inference n a) ws content us is
line_plain ss rows ls (instantiated n es) ws content asks us is = instance_plain ls n es ws content us is

pub plain_both : (ls ks : List AnsweredLine) → plain_lines (ls ++ ks) ≡ plain_lines ls ++ plain_lines ks
plain_both [] ks = refl
plain_both (l ∷ ls) ks = ap (λ r. l.line ∷ r) (plain_both ls ks)

pub lines_plain : (ss : List Asked) (rows : List AnsweredRow) (earlier : List AnsweredLine) (last : Option ℕ) (ls : List AnsweredLine)
    → AreLinesWith ss rows earlier last ls → AreLines (all_said_in ss) (plain_rows rows) (plain_lines earlier) last (plain_lines ls)
lines_plain ss rows earlier last [] are = tt
lines_plain ss rows earlier last (l ∷ ls) are = (
  are.0,
  line_plain ss rows earlier l.line.first l.line.later l.line.content l.asks l.answers are.1,
  subst (λ es. AreLines (all_said_in ss) (plain_rows rows) es (Some l.line.number) (plain_lines ls)) (plain_both earlier (l ∷ []))
      (lines_plain ss rows (earlier ++ l ∷ []) (Some l.line.number) ls are.2),
)

-- no answers, in any number of lists
abbrev AreEmpty : List (List Answer) → Type 0
AreEmpty [] = Unit {0}
AreEmpty (us ∷ answers) = (us ≡ []) × AreEmpty answers

together_empty : (own : Own) (answers : List (List Answer)) → AreEmpty answers → together own answers ≡ []
together_empty own [] h = refl
together_empty own (us ∷ answers) h = ap₂ (λ x y. substitute_answers (own 0) x ++ y) h.0 (together_empty (λ k. own (suc k)) answers h.1)

only_empty : (answers : List (List Answer)) → AreEmpty answers → only_answers answers ≡ []
only_empty [] h = refl
only_empty (us ∷ []) h = h.0
only_empty (us ∷ vs ∷ answers) h = refl

-- a plain conclusion of clauses without answers is one with none
concludes_none : (r : InferenceRule) (cs : List ClauseTree) (answers : List (List Answer)) (c : ClauseTree) → AreEmpty answers → Concludes r cs c → ConcludesWith r cs answers c []
concludes_none r cs answers c none (own, most, is) = (
  own,
  record {
    unifies = most.unifies;
    general = λ other h. let g = most.general other h in (g.0, g.1, together_empty other answers none ∙ sym (ap (substitute_answers g.0) (together_empty own answers none)));
  },
  is ∙ sym (numbered_is (r.rest (instances own cs)) (together own answers)),
  sym (ap (λ vs. each_once (numbered_answers (r.rest (instances own cs)) vs)) (together_empty own answers none)),
)

brings_none : (w : LaterWord) (c d : ClauseTree) (ps : List ClauseTree) (answers : List (List Answer)) → AreEmpty answers → Leads w c ps d → Brings w c [] ps answers []
brings_none (flipped a) c d ps answers none leads = refl
brings_none (merged a) c d ps answers none leads = refl
brings_none (reflexive a) c d ps answers none leads = refl
brings_none (unit_deleted a n) c d ps answers none leads =
    (leads.0.0, leads.0.1, sym (ap (λ vs. each_once ([] ++ substitute_answers (used_by (atom_at (only_of ps) 0) leads.0.0 (fresh_for c [])) vs)) (only_empty answers none)))
brings_none (rewritten n a path) c d ps answers none leads = (
  leads.0,
  sym (ap (λ o. unwrap_or o (var 0)) leads.1),
  sym (ap (λ vs. each_once ([] ++ substitute_answers (used_by (left_of (atom_at (only_of ps) 0)) leads.0 (fresh_for c [])) vs)) (only_empty answers none)),
)

clause_none : (content : ContentTree) (d : ClauseTree) → IsClause content d → IsClauseWith content [] d []
clause_none (formula f) d is = is
clause_none (clause c) d is = (numbered_is c [] ∙ is ∙ sym (numbered_is d []), refl)

some_same : {A : Type 0} (x y : A) → Some x ≡ Some y → x ≡ y
some_same x y h = ap (λ o. unwrap_or o x) h

not_counted : (goal : Bool) (asks : Option (List ℕ)) → asks ≡ None → counted goal asks ≡ None
not_counted true asks nothing = nothing
not_counted false asks nothing = refl

nothing_both : (ls : List AnsweredLine) (ns ms : List ℕ) → AnswerNothing ls (ns ++ ms) → AnswerNothing ls ns × AnswerNothing ls ms
nothing_both ls [] ms h = (tt, h)
nothing_both ls (n ∷ ns) ms h = let rest = nothing_both ls ns ms h.1 in ((h.0, rest.0), rest.1)

module _ (ls : List AnsweredLine) where
  all_empty : (ns : List ℕ) → AnswerNothing ls ns → AreEmpty (answers_at ls ns)
  all_empty [] none = tt
  all_empty (n ∷ ns) none = (none.0, all_empty ns none.1)

  after_none : (ws : List LaterWord) (d : ClauseTree) (content : ContentTree) → AnswerNothing ls (flat_map later_parents ws) → After (plain_lines ls) ws d content → AfterWith ls ws d [] content []
  after_none [] d content none after = clause_none content d after
  after_none (w ∷ ws) d content none (ps, b, are, fits, leads, after) =
      let parts = nothing_both ls (later_parents w) (flat_map later_parents ws) none in
      (ps, b, [], are, fits, leads, brings_none w d b ps (answers_at ls (later_parents w)) (all_empty (later_parents w) parts.0) leads, after_none ws b content parts.1 after)

  -- a line whose parents have no answers
  pub inferred_none : (i : Inference) (ws : List LaterWord) (content : ContentTree) → AnswerNothing ls (all_parents i ws) → IsInferred (plain_lines ls) i ws content → IsInferredWith ls i ws content []
  inferred_none i ws content none (ps, d, are, fits, concludes, after) =
      let parts = nothing_both ls i.parents (flat_map later_parents ws) none in
      (ps, d, [], are, fits, concludes_none i.rule ps (answers_at ls i.parents) d (all_empty i.parents parts.0) concludes, after_none ws d content parts.1 after)

  pub instance_none : (n : ℕ) (es : List Binding) (ws : List LaterWord) (content : ContentTree) → AnswerNothing ls (n ∷ flat_map later_parents ws) → IsInstance (plain_lines ls) n es ws content
      → IsInstanceWith ls n es ws content []
  instance_none n es ws content none (c, at, after) =
      let put = substitute_clause (by_bindings es) c in (
        c,
        at,
        subst (λ bs. AfterWith ls ws (clause_put_in es c bs) (answers_put_in es c bs) content []) (sym none.0)
            (subst (λ d. AfterWith ls ws d [] content []) (sym (numbered_is put [])) (after_none ws (instance_of es c) content none.1 after)),
      )

module _ (ls : List AnsweredLine) (none : HaveNone ls) where
  answered_none : (n : ℕ) → answers_of_line ls n ≡ []
  answered_none n = within ls none
    where
      within : (ls : List AnsweredLine) → HaveNone ls → answers_of_line ls n ≡ []
      within [] h = refl
      within (l ∷ ls) h = by (l.line.number == n) (within ls h.2)
        where
          by : (b : Bool) → answers_of_line ls n ≡ [] → option_map_or (λ l. l.answers) (if b then Some l else answered_at ls n) [] ≡ []
          by true k = h.1
          by false k = k

  all_none : (ns : List ℕ) → AnswerNothing ls ns
  all_none [] = tt
  all_none (n ∷ ns) = (answered_none n, all_none ns)

  -- the line of a number asks for nothing
  asks_nothing : (n : ℕ) (l : AnsweredLine) → answered_at ls n ≡ Some l → l.asks ≡ None
  asks_nothing n l at = within ls none at
    where
      within : (ls : List AnsweredLine) → HaveNone ls → answered_at ls n ≡ Some l → l.asks ≡ None
      within [] h k = cc
      within (j ∷ ls) h k = by (j.line.number == n) k (within ls h.2)
        where
          by : (b : Bool) → (if b then Some j else answered_at ls n) ≡ Some l → (answered_at ls n ≡ Some l → l.asks ≡ None) → l.asks ≡ None
          by true k rest = let same : j ≡ l = cc in subst (λ x. x.asks ≡ None) same h.0
          by false k rest = rest k

  module _ (ss : List Asked) (rows : List AnsweredRow) where
    among_none : (goal : Bool) (f : Fol) (ts : List Asked) → IsAmongSaid goal f (all_said_in ts) → IsSome (IsSaidWith goal f None) ts
    among_none goal f [] is = is
    among_none goal f (s ∷ ts) (inl here) = inl here
    among_none goal f (s ∷ ts) (inr there) = inr (among_none goal f ts there)

    -- a line that doesn't ask
    pub stated_none : (goal : Bool) (content : ContentTree) (asks : Option (List ℕ)) → asks ≡ None → IsStated goal content (all_said_in ss) → IsStatedWith goal content asks ss
    stated_none goal (formula f) asks nothing is = subst (λ o. IsSome (IsSaidWith goal f o) ss) (sym (not_counted goal asks nothing)) (among_none goal f ss is)
    stated_none goal (clause c) asks nothing is = is

    said_back : (n : ℕ) (s : Said) → said_at (all_said_in ss) n ≡ Some s → (a : Asked) × (asked_at ss n ≡ Some a) × (a.said ≡ s)
    said_back n s at = by (asked_at ss n) refl (sym (said_there ss n) ∙ at)
      where
        by : (o : Option Asked) → asked_at ss n ≡ o → option_map (λ s. s.said) o ≡ Some s → (a : Asked) × (asked_at ss n ≡ Some a) × (a.said ≡ s)
        by None e h = cc
        by (Some a) e h = (a, e, some_same a.said s h)

    line_back : (n : ℕ) (l : LineTree) → line_at (plain_lines ls) n ≡ Some l → (k : AnsweredLine) × (answered_at ls n ≡ Some k) × (k.line ≡ l)
    line_back n l at = by (answered_at ls n) refl (sym (line_there ls n) ∙ at)
      where
        by : (o : Option AnsweredLine) → answered_at ls n ≡ o → option_map (λ l. l.line) o ≡ Some l → (k : AnsweredLine) × (answered_at ls n ≡ Some k) × (k.line ≡ l)
        by None e h = cc
        by (Some k) e h = (k, e, some_same k.line l h)

    rows_none : (goal : Bool) (f : Fol) (n : ℕ) (content : ContentTree) (rs : List AnsweredRow) → IsInput goal f (all_said_in ss) content (plain_rows rs) → IsSome (IsRowWith goal f None ss n content []) rs
    rows_none goal f n content [] is = is
    rows_none goal f n content (r ∷ rs) (inl (s, at, said, is)) =
        let back = said_back r.row.0 s at in
        inl (back.0, back.1, subst (IsSaid goal f) (sym back.2) said, clause_none content r.row.1 is)
    rows_none goal f n content (r ∷ rs) (inr there) = inr (rows_none goal f n content rs there)

    pub input_none : (goal : Bool) (n : ℕ) (content : ContentTree) → IsInputOf (all_said_in ss) (plain_rows rows) (plain_lines ls) goal n content → IsInputWith ss rows ls goal n content []
    input_none goal n content (f, (l, at, is, first), some) =
        let back = line_back n l at in
        (f, None, (back.0, back.1, ap (λ l. l.content) back.2 ∙ is, ap (λ l. l.first) back.2 ∙ first, not_counted goal back.0.asks (asks_nothing n back.0 back.1)), rows_none goal f n content rows some)

    -- a plain line that neither asks nor has answers
    pub line_none : (first : FirstWord) (ws : List LaterWord) (content : ContentTree) (asks : Option (List ℕ)) → asks ≡ None
        → IsLine (all_said_in ss) (plain_rows rows) (plain_lines ls) first ws content → IsLineWith ss rows ls first ws content asks []
    line_none assumed ws content asks nothing is = (stated_none false content asks nothing is.0, is.1)
    line_none wanted ws content asks nothing is = (stated_none true content asks nothing is.0, is.1)
    line_none (clausified n) ws content asks nothing is = (input_none false n content is.0, is.1)
    line_none (denied n) ws content asks nothing is = (input_none true n content is.0, is.1)
    line_none (copied n) ws content asks nothing is = inferred_none ls (copy_inference n) ws content (all_none (all_parents (copy_inference n) ws)) is
    line_none (resolved n k) ws content asks nothing is = inferred_none ls (clash_inference n k) ws content (all_none (all_parents (clash_inference n k) ws)) is
    line_none (factored n a b) ws content asks nothing is = inferred_none ls (factor_inference n a b) ws content (all_none (all_parents (factor_inference n a b) ws)) is
    line_none (paramodulated n a side m b path) ws content asks nothing is = inferred_none ls (para_inference n a side m b path) ws content (all_none (all_parents (para_inference n a side m b path) ws)) is
    line_none (xx_resolved n a) ws content asks nothing is = inferred_none ls (xx_inference n a) ws content (all_none (all_parents (xx_inference n a) ws)) is
    line_none (instantiated n es) ws content asks nothing is = instance_none ls n es ws content (all_none (n ∷ flat_map later_parents ws)) is

pub none_pushed : (ls : List AnsweredLine) (l : AnsweredLine) → HaveNone ls → l.asks ≡ None → l.answers ≡ [] → HaveNone (ls ++ l ∷ [])
none_pushed [] l none nothing empty = (nothing, empty, tt)
none_pushed (k ∷ ls) l none nothing empty = (none.0, none.1, none_pushed ls l none.2 nothing empty)

-- plain lines that neither ask nor have answers
pub lines_none : (ss : List Asked) (rows : List AnsweredRow) (earlier : List AnsweredLine) (last : Option ℕ) (ls : List AnsweredLine) → HaveNone earlier → HaveNone ls
    → AreLines (all_said_in ss) (plain_rows rows) (plain_lines earlier) last (plain_lines ls) → AreLinesWith ss rows earlier last ls
lines_none ss rows earlier last [] before none are = tt
lines_none ss rows earlier last (l ∷ ls) before none are = (
  are.0,
  subst (IsLineWith ss rows earlier l.line.first l.line.later l.line.content l.asks) (sym none.1)
      (line_none earlier before ss rows l.line.first l.line.later l.line.content l.asks none.0 are.1),
  lines_none ss rows (earlier ++ l ∷ []) (Some l.line.number) ls (none_pushed earlier l before none.0 none.1) none.2
      (subst (λ es. AreLines (all_said_in ss) (plain_rows rows) es (Some l.line.number) (plain_lines ls)) (sym (plain_both earlier (l ∷ []))) are.2),
)
