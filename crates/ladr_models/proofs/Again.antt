-- The text of an interpretation by names reads back as it.
use Rattle.std.proofs.Common.{◌≡◌, ℕ, ◌^◌, ◌==◌, ◌<◌, ◌≤◌, true, List, [], ◌∷◌, length, map, refl, sym, ap, ◌∙◌, subst, arith}
use Rattle.std.specs.Prelude.{◌&&◌, nat_le, nat_lt}
use Rattle.std.specs.List.{list_all}
use Rattle.std.proofs.Math.Nat.{one-le-pow}
use Rattle.std.proofs.lemmas.Bool.{and_parts, eqb-true, leb-true}
use Rattle.std.proofs.lemmas.Bool.Decides.{nat_tests}
use Rattle.ladr_commands.specs.ByName.{NamedTable, ByName}
use Rattle.ladr_commands.specs.Commands.{tester_commands, interpretation_item}
use Rattle.ladr_commands.specs.Form.{form_outcome, SaysCommand}
use Rattle.ladr_commands.specs.declared.command.Command.TheVariants.{Interpretation}
use Rattle.ladr_commands.proofs.Forms.{read_of}
use Rattle.ladr_interpretations.specs.Good.{is_filled, is_good, are_new, heads_of}
use Rattle.ladr_interpretations.specs.NamedText.{table_text, named_text}
use Rattle.ladr_lex.proofs.Unique.{cut_once}
use Rattle.ladr_models.proofs.Entries.{ArePlain}
use Rattle.ladr_models.proofs.Parsing.{all_said, tester_said}
use Rattle.ladr_models.proofs.Tabling.{small_bound, all_small}
use Rattle.ladr_models.proofs.Writing.{all_tokens, whole_text, whole_written}
use Rattle.ladr_models.specs.ReadsBack.{ReadsAs}
use Rattle.ladr_print.proofs.Writes.{Has}
use Rattle.ladr_problem.specs.Names.{is_name, are_named}
use Rattle.model_tables.specs.ModelText.{entry_lines}
use Rattle.model_tables.specs.Size.{AllBelow, bound_of}

-- an interpretation that is one, with names that are symbols of the language
pub record IsRead (it : ByName) : Type 0 where
  pub good : is_good it ≡ true
  pub named : are_named (heads_of it.entries) ≡ true

text_is : (it : ByName) (k : ℕ) → named_text it k ≡ whole_text it.size k (entry_lines (map table_text it.entries))
unfolding named_text
text_is it k = refl

-- its entries can be printed
below : (b : ℕ) (xs : List ℕ) → list_all (λ v. nat_lt v b) xs ≡ true → AllBelow b xs
below b [] h = tt
below b (x ∷ xs) h =
    let parts = and_parts (nat_lt x b) (list_all (λ v. nat_lt v b) xs) h in
    (let l = parts.0 in grind (arith, nat_tests), below b xs parts.1)

entries_plain : (n : ℕ) (ts : List NamedTable) → 1 ≤ n → n ≤ 200 → list_all (is_filled n) ts ≡ true → are_named (heads_of ts) ≡ true → ArePlain ts
entries_plain n [] low high filled named = tt
entries_plain n (t ∷ ts) low high filled named =
    let fs = and_parts (is_filled n t) (list_all (is_filled n) ts) filled in
    let ns = and_parts (is_name t.head.name) (are_named (heads_of ts)) named in
    let own = and_parts (length t.values == n ^ t.head.arity) (list_all (λ v. nat_lt v (bound_of n t.head.kind)) t.values) fs.0 in
    let many : length t.values ≡ n ^ t.head.arity = eqb-true (length t.values) (n ^ t.head.arity) own.0 in
    let some : 1 ≤ n ^ t.head.arity = one-le-pow t.head.arity n low in (
      record {
        name = ns.0;
        some = omega (arith, many, some);
        small = all_small (bound_of n t.head.kind) t.values (small_bound n t.head.kind high) (below (bound_of n t.head.kind) t.values own.1);
      },
      entries_plain n ts low high fs.1 ns.1,
    )

record HasSize (it : ByName) : Type 0 where
  low : 1 ≤ it.size
  high : it.size ≤ 200
  plain : ArePlain it.entries

size_of : (it : ByName) → IsRead it → HasSize it
size_of it h =
    let all = and_parts (nat_le 1 it.size && nat_le it.size 200 && list_all (is_filled it.size) it.entries) (are_new [] (heads_of it.entries)) h.good in
    let filled = and_parts (nat_le 1 it.size && nat_le it.size 200) (list_all (is_filled it.size) it.entries) all.0 in
    let size = and_parts (nat_le 1 it.size) (nat_le it.size 200) filled.0 in
    let low = leb-true 1 it.size size.0 in
    let high = leb-true it.size 200 size.1 in
    record { low = low; high = high; plain = entries_plain it.size it.entries low high filled.1 h.named }

pub reads_as : (it : ByName) (k : ℕ) → IsRead it → k < 2 ^ 64 → ReadsAs (named_text it k) it
reads_as it k h small =
    let s = size_of it h in
    let written = whole_written it.size k it.entries (omega (arith, s.high)) small s.plain in
    let has = subst (λ (text : List ℕ). Has text (all_tokens it.size k it.entries)) (sym (text_is it k)) written 0 in
    let said : SaysCommand interpretation_item (all_tokens it.size k it.entries) (Interpretation it) = all_said it.size k it.entries (omega (arith, s.high)) small s.plain in
    let says = ap (form_outcome interpretation_item) has.are ∙ said in
    record {
      pieces = has.pieces;
      cuts = has.cuts;
      only = λ others c. cut_once 0 (named_text it k) others has.pieces c has.cuts;
      say = record {
        says = says;
        only = λ c d. ap (read_of c) (sym d ∙ says);
        command = ap (form_outcome tester_commands) has.are ∙ tester_said it.size k it.entries ∙ said;
        good = h.good;
      };
    }
