-- A run of the machine shows each.
use Rattle.std.proofs.Common.{refl}
use Rattle.ladr_lex.specs.Bytes.{is_blank, is_ordinary, is_special}
use Rattle.ladr_lex.specs.Starts.{start_of}
use Rattle.ladr_reader.specs.Worked.{standard}
use Rattle.ladr_reader.proofs.Lawful.{standard_lawful}
use Rattle.ladr_reader.proofs.Runs.{run_item}
use Rattle.ladr_reader.proofs.laws.worked_terms.Goals as goal

pub returns : goal.returns
unfolding start_of is_blank is_ordinary is_special
returns c =
    record {
      quantified = run_item standard standard_lawful _ _ 750 refl;
      in_parentheses = run_item standard standard_lawful _ _ 0 refl;
      head = run_item standard standard_lawful _ _ 0 refl;
      argument = run_item standard standard_lawful _ _ 0 refl;
      body = run_item standard standard_lawful _ _ 790 refl;
      denied = run_item standard standard_lawful _ _ 350 refl;
      twice = run_item standard standard_lawful _ _ 350 refl;
      dashes = run_item standard standard_lawful _ _ 790 refl;
      arrows = run_item standard standard_lawful _ _ 800 refl;
      apostrophes = run_item standard standard_lawful _ _ 350 refl;
      to_the_right = run_item standard standard_lawful _ _ 790 refl;
    }
