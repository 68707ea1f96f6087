use Rattle.std.proofs.Common.{◌≡◌, ℕ, zero, suc, true, false, Option, Some, None, refl, sym, ap, lit≤}
use Rattle.std.specs.Fmt.{digits}
use Rattle.fol_core.specs.SymbolTable.{Symbol, number_of, FindsEach}
use Rattle.ladr_lex.specs.Bytes.{is_blank, is_ordinary, is_special}
use Rattle.ladr_lex.specs.Starts.{start_of}
use Rattle.ladr_lex.proofs.Lexing.{cuts_text}
use Rattle.ladr_problem.specs.Names.{are_named}
use Rattle.ladr_models.specs.Worked.{pair, pair_text}
use Rattle.model_tables.specs.ModelText.{model_text}
use Rattle.ladr_models.proofs.laws.worked.Goals as goal

pub returns-clause-text : goal.returns-clause-text
unfolding model_text digits
returns-clause-text c = refl

pub returns-clause-tokens : goal.returns-clause-tokens
unfolding start_of is_blank is_ordinary is_special
returns-clause-tokens c = cuts_text pair_text

abbrev number_in : Option Symbol → Option ℕ
number_in None = None
number_in (Some s) = number_of pair s.name s.arity

-- each of the symbols is found under its number
found : FindsEach pair
found zero s e = ap (λ (o : Option Symbol). number_in o) (sym e)
found (suc zero) s e = ap (λ (o : Option Symbol). number_in o) (sym e)
found (suc (suc zero)) s e = ap (λ (o : Option Symbol). number_in o) (sym e)
found (suc (suc (suc zero))) s e = ap (λ (o : Option Symbol). number_in o) (sym e)
found (suc (suc (suc (suc n)))) s e = absurd (cc)

names : are_named pair ≡ true
unfolding is_ordinary is_special
names = refl

pub returns-clause-printable : goal.returns-clause-printable
returns-clause-printable c =
    record {
      most = lit≤ tt;
      number = lit≤ tt;
      tellable = record { different = found; named = names };
      size = refl;
      rows = ((true, (refl, refl, (lit≤ tt, tt))), ((false, (refl, refl, tt)), ((true, (refl, refl, (lit≤ tt, (lit≤ tt, tt)))), ((true, (refl, refl, (lit≤ tt, tt))), tt))));
    }
