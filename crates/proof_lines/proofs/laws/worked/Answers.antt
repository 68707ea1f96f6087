use Rattle.std.proofs.Common.{refl, inl, inr, lit≤, []}
use Rattle.ladr_lex.specs.declared.limits.TheConstants.{MOST_LEVELS}
use Rattle.ladr_lex.specs.Bytes.{is_blank, is_ordinary, is_special}
use Rattle.ladr_lex.specs.Starts.{start_of}
use Rattle.ladr_lex.specs.Operators.{standard_rows}
use Rattle.ladr_reader.specs.Worked.{constant, binary, standard}
use Rattle.ladr_reader.proofs.Lawful.{standard_lawful}
use Rattle.ladr_reader.proofs.Live.{HasNames, table_names}
use Rattle.ladr_reader.proofs.Runs.{run_item, bad_at}
use Rattle.proof_lines.specs.ContentTokens.{HasKind}
use Rattle.proof_lines.specs.Faults.{IsNoClause}
use Rattle.proof_lines.specs.WorkedLines.{worked_tables}
use Rattle.proof_words.specs.Spelling.{line_words}
use Rattle.proof_words.specs.Worked.{tokens_of}
use Rattle.proof_words.specs.declared.names.ContentKind.TheVariants.{Formula}
use Rattle.proof_words.proofs.Spellings.{first_bad}
use Rattle.proof_lines.proofs.AnsweredClauses.{no_clause_none, unbegun}
use Rattle.proof_lines.proofs.laws.worked.Goals as goal

names : HasNames standard
names = table_names standard_rows

pub returns-clause-clause : goal.returns-clause-clause
unfolding start_of is_blank is_ordinary is_special
returns-clause-clause _ = record {
  number = _;
  item = tokens_of "p(x) | -q.";
  words = tokens_of "[copy(5)].";
  split = refl;
  is_number = refl;
  number_is = refl;
  content = (inl (run_item standard standard_lawful _ _ 790 refl, refl, refl), unbegun standard (tokens_of "p(x) | -q.") refl);
  says = refl;
}

pub returns-clause-formula : goal.returns-clause-formula
unfolding start_of is_blank is_ordinary is_special
returns-clause-formula _ = record {
  number = _;
  item = tokens_of "p & q # label(a).";
  words = tokens_of "[goal].";
  split = refl;
  is_number = refl;
  number_is = refl;
  content = (run_item standard standard_lawful _ _ 810 refl, refl);
  says = refl;
}

pub returns-clause-empty : goal.returns-clause-empty
unfolding start_of is_blank is_ordinary is_special
returns-clause-empty _ = record {
  number = _;
  item = tokens_of "$F.";
  words = tokens_of "[xx_res(8,a)].";
  split = refl;
  is_number = refl;
  number_is = refl;
  content = (inl (run_item standard standard_lawful _ _ 0 refl, refl, refl), unbegun standard (tokens_of "$F.") refl);
  says = refl;
}

pub returns-clause-no_number : goal.returns-clause-no_number
unfolding start_of is_blank is_ordinary is_special
returns-clause-no_number _ = inl (refl, refl)

pub returns-clause-zeros : goal.returns-clause-zeros
unfolding start_of is_blank is_ordinary is_special
returns-clause-zeros _ = inl (refl, refl)

pub returns-clause-content : goal.returns-clause-content
unfolding start_of is_blank is_ordinary is_special
returns-clause-content _ =
    let none = bad_at MOST_LEVELS standard standard_lawful names (tokens_of "p q.") 1 _ _ (lit≤ tt) refl refl in
    let no_clause : IsNoClause standard (tokens_of "p q.") 1 = record { plain = 1; answered = 1; no_plain = inl none; no_answered = inl (refl, inl none); later = refl } in
    inr (refl, (1, refl, inl (record { formula = 1; clause = 1; no_formula = none; no_clause = no_clause; later = refl })))

both_read : HasKind worked_tables (tokens_of "p & q.") Formula
unfolding start_of is_blank is_ordinary is_special
both_read =
    let item = run_item standard standard_lawful (tokens_of "p & q.") (binary "&" (constant "p") (constant "q")) 780 refl in (
      (binary "&" (constant "p") (constant "q"), [], (item, refl)),
      λ is. no_clause_none standard (tokens_of "p & q.") 3 none is.0 is.1 is.2,
    )
  where
    none : IsNoClause standard (tokens_of "p & q.") 3
    none =
        let item = run_item standard standard_lawful (tokens_of "p & q.") (binary "&" (constant "p") (constant "q")) 780 refl in
        record {
          plain = 3;
          answered = 3;
          no_plain = inr (refl, (binary "&" (constant "p") (constant "q"), item, refl));
          no_answered = inl (refl, inr (refl, (binary "&" (constant "p") (constant "q"), item, refl)));
          later = refl;
        }

pub returns-clause-no_clause : goal.returns-clause-no_clause
unfolding start_of is_blank is_ordinary is_special
returns-clause-no_clause _ =
    let bad = first_bad (line_words Formula) (tokens_of "[copy(5)].") _ refl in
    inr (refl, (5, refl, inr (record { kind = Formula; token = 1; content = both_read; bad = bad; behind = refl })))
