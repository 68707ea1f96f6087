-- The program's command for clap: what its words are is clap's own meaning of this command.
use Rattle.std.specs.Prelude.{ℕ, List, [], Some, true, codes, ⊤}
use Rattle.clap.specs.Simple.{App, new_app, new_rule, with_rule, with_subcommand}
use Rattle.clap.specs.Walk.{Rule}
use Rattle.clap.specs.declared.builder.action.ArgAction.TheVariants.{Set, SetTrue}
use Rattle.clap.specs.declared.builder.value_parser.ValueParser.TheVariants.{Unsigned}

-- an option of a letter, with a number from least to most
unfoldable pub number_option : List ℕ → ℕ → ℕ → ℕ → Rule
number_option name letter least most = record (new_rule name) {
  short = Some letter;
  action = Some Set;
  parser = Some (Unsigned least most);
}

-- an argument that has to be given, by its place alone: a number from least to most
unfoldable pub needed_number : List ℕ → ℕ → ℕ → Rule
needed_number name least most = record (new_rule name) {
  action = Some Set;
  parser = Some (Unsigned least most);
  required = true;
}

-- a flag: a word of two dashes and its name
unfoldable pub flag : List ℕ → Rule
flag name = record (new_rule name) { long = Some name; action = Some SetTrue }

-- the command with one more argument
unfoldable pub taking : App → Rule → App
taking command argument = with_rule command argument

-- the command with one more subcommand
unfoldable pub having : App → App → App
having command part = with_subcommand command part.top

-- check
unfoldable pub check_app : App
check_app = new_app (codes "check")

-- clausetester [--filter]
unfoldable pub clausetester_app : App
clausetester_app = taking (new_app (codes "clausetester")) (flag (codes "filter"))

-- mace4 [-n N] [-N N] [-m M] [-t S]
unfoldable pub mace4_app : App
mace4_app =
    taking (taking (taking (taking (new_app (codes "mace4"))
    (number_option (codes "start_size") 110 1 200))
    (number_option (codes "end_size") 78 1 200))
    (number_option (codes "max_models") 109 1 2147483647))
    (number_option (codes "max_seconds") 116 0 2147483647)

-- made N
unfoldable pub made_app : App
made_app = taking (new_app (codes "made")) (needed_number (codes "size") 1 1000)

-- prover9 [-t S]
unfoldable pub prover9_app : App
prover9_app = taking (new_app (codes "prover9")) (number_option (codes "max_seconds") 116 0 2147483647)

-- the program without its commands: the words come without its name, help and version are no words
-- of it, and one of its commands has to be named
unfoldable pub bare_app : App
bare_app = record {
  top = record (new_app (codes "ladr")).top {
    no_binary_name = true;
    disable_help_flag = true;
    disable_help_subcommand = true;
    disable_version_flag = true;
    subcommand_required = true;
  };
  subs = [];
}

-- the program
unfoldable pub ladr_app : App
ladr_app =
    having
    (having (having (having (having bare_app check_app) clausetester_app) mace4_app) made_app)
    prover9_app

-- what a proof opens to compute with the program's command
unfoldable pub ladr_on_literals : ⊤
unfolding number_option needed_number flag taking having check_app clausetester_app mace4_app made_app prover9_app bare_app ladr_app
ladr_on_literals = tt
