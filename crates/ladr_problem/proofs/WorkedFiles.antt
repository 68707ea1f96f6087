-- What files say, worked out item by item.
use Rattle.std.proofs.Common.{◌≡◌, ℕ, List, [], length, Some, true, leb}
use Rattle.std.proofs.lemmas.Bool.{leb-true}
use Rattle.fol_core.specs.RawTree.{RawTree}
use Rattle.ladr_problem.specs.Items.{items_of}
use Rattle.ladr_problem.specs.ListItem.{term, closing_tokens, IsListItem}
use Rattle.ladr_lex.proofs.Lexing.{cuts_text}
use Rattle.ladr_lex.specs.Lexed.{lexed}
use Rattle.ladr_lex.specs.Lexeme.{Lexeme}
use Rattle.ladr_lex.specs.declared.limits.TheConstants.{MOST_BYTES, MOST_LEVELS}
use Rattle.ladr_problem.specs.File.{Outcome, File, Says, items, at_file_end}
use Rattle.ladr_problem.specs.Sofar.{nothing_read}
use Rattle.ladr_reader.proofs.Lawful.{standard_lawful}
use Rattle.ladr_reader.proofs.Moves.{operand}
use Rattle.ladr_reader.proofs.Runs.{run_item}
use Rattle.ladr_reader.specs.Capped.{disjuncts}
use Rattle.ladr_reader.specs.Machine.{go, standing}
use Rattle.ladr_reader.specs.Worked.{standard}
use Rattle.ladr_reader.specs.Machine.{Done}
use Rattle.ladr_formulas.specs.declared.styles.Mode.{Mode}
use Rattle.ladr_settings.specs.declared.lists.OpenList.{OpenList}
use Rattle.ladr_settings.specs.declared.lists.OpenList.TheVariants.{Distinct}

-- what the items say is what the bytes say
pub says : (m : Mode) (bytes : List ℕ) (o : Outcome) → leb (length bytes) MOST_BYTES ≡ true → File m (length bytes) nothing_read (items_of (lexed bytes)) o → Says m bytes (at_file_end m (length bytes) o)
says m bytes o few file = items (lexed bytes) (leb-true _ _ few) (cuts_text bytes) file

-- a run of the machine of terms reads a term of a list
pub read : (list : OpenList) {ts : List Lexeme} {t : RawTree} → (¬ list ≡ Distinct) → (q : ℕ) → (¬ ts ≡ closing_tokens) → go MOST_LEVELS standard (operand []) ts ≡ standing (Some (Done (Some (disjuncts t)) q)) [] → IsListItem list standard ts (term t)
read list of_terms q other run = (of_terms, other, run_item standard standard_lawful _ _ q run)
