-- Going along the words of a line with a clause and its answers.
use Rattle.std.proofs.Common.{◌≡◌, inl, inr, IsTrue, List, [], ◌∷◌, Option, sym, ◌∙◌, subst}
use Rattle.std.proofs.lemmas.Bool.{false≢true}
use Rattle.answers.specs.AnswerTrees.{Answer, IsSame}
use Rattle.answered_lines.specs.Lines.{plain_lines, answers_at, AfterWith}
use Rattle.answered_lines.specs.Steps.{ConcludesWith, Brings}
use Rattle.answered_lines.proofs.Conclusions.{one_conclusion_with}
use Rattle.answered_lines.proofs.Contents.{brings_one}
use Rattle.carried_answers.specs.Leading.{FirstLeads, FirstStops, WordLeads, WordStops}
use Rattle.carried_answers.proofs.Alike.{after_alike}
use Rattle.derivation.specs.Later.{later_fits, later_parents, Leads}
use Rattle.derivation.specs.Rule.{UnifiesFamily}
use Rattle.derivation.proofs.Conclusions.{one_lead}
use Rattle.derivation.proofs.Rows.{clauses_once, word_lawful}
use Rattle.fol_core.specs.Literals.{ClauseTree}

same_back : (c d : ClauseTree) (us bs : List Answer) → IsSame c us d bs → IsSame d bs c us
same_back c d us bs h = (sym h.0, sym h.1)

pub first_leads : FirstLeads
first_leads ls w i ws content us ps a is are (fits, (c, vs, concludes, same)) = (
  λ (qs, d, bs, were, fitted, concluded, after).
      let one = clauses_once (plain_lines ls) i.parents qs ps were are in
      let law = word_lawful w i is in
      let both = one_conclusion_with i.rule law.0 law.1 ps (answers_at ls i.parents) d c bs vs fits (subst (λ (rs : List ClauseTree). ConcludesWith i.rule rs (answers_at ls i.parents) d bs) one concluded) concludes in
      after_alike ls ws c a.clause vs a.answers content us (same_back a.clause c a.answers vs same)
      (subst (λ bs. AfterWith ls ws c bs content us) both.1 (subst (λ d. AfterWith ls ws d bs content us) both.0 after)),
  λ after. (ps, c, vs, are, fits, concludes, after_alike ls ws a.clause c a.answers vs content us same after),
)

pub first_stops : FirstStops
first_stops ls i ws content us ps are (inl misfit) (qs, d, bs, were, fitted, concluded, after) =
    let one = clauses_once (plain_lines ls) i.parents qs ps were are in
    false≢true (sym misfit ∙ subst (λ (rs : List ClauseTree). IsTrue (i.rule.fits rs)) one fitted)
first_stops ls i ws content us ps are (inr never) (qs, d, bs, were, fitted, (own, most, is, was), after) =
    let one = clauses_once (plain_lines ls) i.parents qs ps were are in
    never own (subst (λ (rs : List ClauseTree). UnifiesFamily i.rule rs own) one most.unifies)

pub word_leads : WordLeads
word_leads ls w ws content us ps a b are (fits, leads, brings) = (
  λ (qs, e, made, were, fitted, led, brought, after).
      let one = clauses_once (plain_lines ls) (later_parents w) qs ps were are in
      let clauses : e ≡ b.clause = one_lead w a.clause ps e b.clause fits (subst (λ (rs : List ClauseTree). Leads w a.clause rs e) one led) leads in
      let answers : made ≡ b.answers = brings_one w a.clause a.answers ps (answers_at ls (later_parents w)) made b.answers (subst (λ (rs : List ClauseTree). Brings w a.clause a.answers rs (answers_at ls (later_parents w)) made) one brought) brings in
      subst (λ bs. AfterWith ls ws b.clause bs content us) answers (subst (λ d. AfterWith ls ws d made content us) clauses after),
  λ after. (ps, b.clause, b.answers, are, fits, leads, brings, after),
)

pub word_stops : WordStops
word_stops ls w ws content us ps a b are (never, is) (qs, e, made, were, fitted, led, brought, after) =
    let one = clauses_once (plain_lines ls) (later_parents w) qs ps were are in
    never (subst (λ (rs : List ClauseTree). IsTrue (later_fits w a.clause rs)) one fitted) e (subst (λ (rs : List ClauseTree). Leads w a.clause rs e) one led)
