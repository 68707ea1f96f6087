-- Where the machine goes on, some readable item does.
use Rattle.std.proofs.Common.{◌≡◌, ℕ, ◌+◌, ◌≤◌, ◌<◌, true, false, List, [], ◌∷◌, ◌++◌, Option, None, length, refl, ap, append_assoc, append-nil, arith, replicate, codes}
use Rattle.std.proofs.lemmas.List.{length-replicate}
use Rattle.std.proofs.lemmas.Bool.Decides.{nat_tests}
use Rattle.std.specs.Str.{bytes_eq}
use Rattle.fol_core.specs.RawTree.{RawTree, named, no_raws}
use Rattle.ladr_lex.specs.Lexeme.{ordinary, Lexeme, close_paren, full_stop, symbol}
use Rattle.ladr_lex.specs.Operators.{OperatorRow, operator_of, if_prefix}
use Rattle.ladr_reader.specs.Capped.{disjuncts_within, finished}
use Rattle.ladr_reader.specs.Machine.{whole, Standing, Operand, Named, Word, Term, Done}
use Rattle.ladr_reader.specs.Reads.{BeginsItem}
use Rattle.ladr_reader.specs.Table.{OperatorTable, table_of, quantifier_of}
use Rattle.ladr_reader.specs.declared.sides.Side.TheVariants.{UpTo}
use Rattle.ladr_reader.specs.declared.stack.Frame.{Frame}
use Rattle.ladr_reader.specs.declared.stack.Frame.TheVariants.{Group, Applied, Waiting}
use Rattle.ladr_reader.specs.declared.stack.Part.TheVariants.{Quantified}
use Rattle.ladr_reader.proofs.Lawful.{Lawful}
use Rattle.ladr_reader.proofs.Sound.{Becomes, IsName, Spells, IsAt, as_atom, closed, ended, stopped, variable_binds}
use Rattle.ladr_reader.proofs.Splits.{Split, pushed}

-- a name for atoms, and one for variables
pub record HasNames (g : OperatorTable) : Type 0 where
  pub atom : List ℕ
  pub no_word : g.word atom ≡ None
  pub no_prefix : if_prefix (g.op atom) ≡ None
  pub variable : List ℕ
  pub bound : g.variable ordinary variable ≡ true

-- fewer tokens of an item
pub begins_less : (g : OperatorTable) (vs xs : List Lexeme) → BeginsItem g (vs ++ xs) → BeginsItem g vs
begins_less g vs xs b =
    record { more = xs ++ b.more; tree = b.tree; item = rw (← append_assoc vs xs b.more) b.item }

module _ (n : ℕ) (g : OperatorTable) (lawful : Lawful g) where
  -- all that waits is ended
  term_begins :
      (fs : List Frame) (vs : List Lexeme) (t : Option (List RawTree)) (q : ℕ) → Split (Spells n g fs) (Becomes n g fs t q) vs →
      BeginsItem g vs
  term_begins [] vs t q h =
      let i = stopped n g lawful [] vs t q h in record { more = full_stop ∷ []; tree = i.tree; item = i.item }
  term_begins (Group ∷ fs) vs t q h =
      begins_less g vs (close_paren ∷ []) (term_begins fs (vs ++ close_paren ∷ []) t 0 (closed n g lawful (Group ∷ fs) vs t q h))
  term_begins (Applied s us ∷ fs) vs t q h =
      begins_less g vs (close_paren ∷ [])
      (term_begins fs (vs ++ close_paren ∷ []) (finished n s us t) 0 (closed n g lawful (Applied s us ∷ fs) vs t q h))
  term_begins (Waiting part side p ∷ fs) vs t q h =
      term_begins fs vs (whole n part t) p (ended n g lawful part side p fs vs t q h)

  name_begins : (s : List ℕ) (fs : List Frame) (vs : List Lexeme) → Split (Spells n g fs) (IsName g s) vs → BeginsItem g vs
  name_begins s fs vs h = term_begins fs vs (disjuncts_within n (named s no_raws)) 0 (as_atom n g lawful s fs vs h)

  operand_begins : HasNames g → (fs : List Frame) (vs : List Lexeme) → Spells n g fs vs → BeginsItem g vs
  operand_begins names fs vs h =
      let a : List Lexeme = symbol ordinary names.atom ∷ [] in
      begins_less g vs a
      (name_begins names.atom fs (vs ++ a)
      (pushed (Spells n g fs) (IsName g names.atom) vs a h
      (record { sort = ordinary; no_word = names.no_word; no_prefix = names.no_prefix; is = refl })))

  pub begins : HasNames g → (place : Standing) (fs : List Frame) (vs : List Lexeme) → IsAt n g place fs vs → BeginsItem g vs
  begins names Operand fs vs h = operand_begins names fs vs h
  begins names (Named s) fs vs h = name_begins s fs vs h
  begins names (Word w) fs vs h =
      begins_less g vs (symbol ordinary names.variable ∷ [])
      (operand_begins names (Waiting (Quantified w names.variable) UpTo 750 ∷ fs) (vs ++ symbol ordinary names.variable ∷ [])
      (variable_binds n g lawful ordinary names.variable w fs vs h true names.bound))
  begins names (Term t q) fs vs h = term_begins fs vs t q h
  begins names (Done t q) fs vs h = record { more = []; tree = h.tree; item = rw (append-nil vs) h.item }

-- a name that is longer than another is another one
longer : (xs ys : List ℕ) → length xs < length ys → bytes_eq ys xs ≡ false
longer [] [] h = absurd (omega arith)
longer [] (y ∷ ys) h = refl
longer (x ∷ xs) [] h = absurd (omega arith)
longer (x ∷ xs) (y ∷ ys) h =
    let rest : bytes_eq ys xs ≡ false = longer xs ys (omega arith) in grind (arith, nat_tests)

apart : (xs ys : List ℕ) → length xs < length ys → bytes_eq xs ys ≡ false
apart [] [] h = absurd (omega arith)
apart [] (y ∷ ys) h = refl
apart (x ∷ xs) [] h = refl
apart (x ∷ xs) (y ∷ ys) h =
    let rest : bytes_eq xs ys ≡ false = apart xs ys (omega arith) in grind (arith, nat_tests)

-- a length that no name of the rows has
abbrev lengths : List OperatorRow → ℕ
lengths [] = 7
lengths (r ∷ rs) = length r.name + lengths rs

lengths_up : (rows : List OperatorRow) → 7 ≤ lengths rows
lengths_up [] = omega arith
lengths_up (r ∷ rs) = omega (arith, lengths_up rs)

long_is_none : (rows : List OperatorRow) (s : List ℕ) → lengths rows ≤ length s → operator_of rows s ≡ None
long_is_none [] s h = refl
long_is_none (r ∷ rs) s h =
    let other : bytes_eq s r.name ≡ false = longer r.name s (omega (arith, lengths_up rs)) in
    rw other (long_is_none rs s (omega arith))

long_is_no_word : (s : List ℕ) → 7 ≤ length s → quantifier_of s ≡ None
long_is_no_word s h =
    let a : bytes_eq (codes "all") s ≡ false = apart (codes "all") s (omega arith) in
    let b : bytes_eq (codes "exists") s ≡ false = apart (codes "exists") s (omega arith) in
    rw (a, b)

-- each table of operators leaves names
pub table_names : (rows : List OperatorRow) → HasNames (table_of rows)
table_names rows =
    let s : List ℕ = replicate (lengths rows) 97 in
    let l : length s ≡ lengths rows = length-replicate (lengths rows) 97 in
    record {
      atom = s;
      no_word = long_is_no_word s (omega (arith, lengths_up rows));
      no_prefix = ap if_prefix (long_is_none rows s (omega arith));
      variable = codes "x";
      bound = refl;
    }
