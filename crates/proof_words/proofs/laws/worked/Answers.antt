use Rattle.std.proofs.Common.{refl}
use Rattle.ladr_lex.specs.Bytes.{is_blank, is_ordinary, is_special}
use Rattle.ladr_lex.specs.Starts.{start_of}
use Rattle.proof_words.specs.Spelling.{line_words}
use Rattle.proof_words.specs.Worked.{tokens_of}
use Rattle.proof_words.specs.declared.names.ContentKind.TheVariants.{Formula, Clause, Either}
use Rattle.proof_words.proofs.Spellings.{first_bad}
use Rattle.proof_words.proofs.laws.worked.Goals as goal

pub returns-clause-goal : goal.returns-clause-goal
unfolding start_of is_blank is_ordinary is_special
returns-clause-goal _ = refl

pub returns-clause-input : goal.returns-clause-input
unfolding start_of is_blank is_ordinary is_special
returns-clause-input _ = refl

pub returns-clause-hyper : goal.returns-clause-hyper
unfolding start_of is_blank is_ordinary is_special
returns-clause-hyper _ = refl

pub returns-clause-para : goal.returns-clause-para
unfolding start_of is_blank is_ordinary is_special
returns-clause-para _ = refl

pub returns-clause-rewrite : goal.returns-clause-rewrite
unfolding start_of is_blank is_ordinary is_special
returns-clause-rewrite _ = refl

pub returns-clause-stated : goal.returns-clause-stated
unfolding start_of is_blank is_ordinary is_special
returns-clause-stated _ = refl

pub returns-clause-denial : goal.returns-clause-denial
unfolding start_of is_blank is_ordinary is_special
returns-clause-denial _ = refl

pub returns-clause-copy : goal.returns-clause-copy
unfolding start_of is_blank is_ordinary is_special
returns-clause-copy _ = refl

pub returns-clause-deleted : goal.returns-clause-deleted
unfolding start_of is_blank is_ordinary is_special
returns-clause-deleted _ = refl

pub returns-clause-ur : goal.returns-clause-ur
unfolding start_of is_blank is_ordinary is_special
returns-clause-ur _ = refl

pub returns-clause-factor : goal.returns-clause-factor
unfolding start_of is_blank is_ordinary is_special
returns-clause-factor _ = refl

pub returns-clause-reflexivity : goal.returns-clause-reflexivity
unfolding start_of is_blank is_ordinary is_special
returns-clause-reflexivity _ = refl

pub returns-clause-far : goal.returns-clause-far
unfolding start_of is_blank is_ordinary is_special
returns-clause-far _ = refl

pub returns-clause-clause : goal.returns-clause-clause
unfolding start_of is_blank is_ordinary is_special
returns-clause-clause _ = refl

pub returns-clause-no_formula : goal.returns-clause-no_formula
unfolding start_of is_blank is_ordinary is_special
returns-clause-no_formula _ = let bad = first_bad (line_words Clause) (tokens_of "[goal].") _ refl in bad

pub returns-clause-formula : goal.returns-clause-formula
unfolding start_of is_blank is_ordinary is_special
returns-clause-formula _ = let bad = first_bad (line_words Formula) (tokens_of "[copy(5)].") _ refl in bad

pub returns-clause-no_group : goal.returns-clause-no_group
unfolding start_of is_blank is_ordinary is_special
returns-clause-no_group _ = let bad = first_bad (line_words Either) (tokens_of "[hyper(4)].") _ refl in bad

pub returns-clause-no_rewriting : goal.returns-clause-no_rewriting
unfolding start_of is_blank is_ordinary is_special
returns-clause-no_rewriting _ = let bad = first_bad (line_words Either) (tokens_of "[copy(1),rewrite([])].") _ refl in bad

pub returns-clause-zeros : goal.returns-clause-zeros
unfolding start_of is_blank is_ordinary is_special
returns-clause-zeros _ = let bad = first_bad (line_words Either) (tokens_of "[copy(07)].") _ refl in bad

pub returns-clause-none_behind : goal.returns-clause-none_behind
unfolding start_of is_blank is_ordinary is_special
returns-clause-none_behind _ = let bad = first_bad (line_words Either) (tokens_of "[deny(2),flip(a)].") _ refl in bad

pub returns-clause-cut_off : goal.returns-clause-cut_off
unfolding start_of is_blank is_ordinary is_special
returns-clause-cut_off _ = let bad = first_bad (line_words Either) (tokens_of "[xx_res(2,a") _ refl in bad
