-- A file says one thing at most.
use Rattle.std.proofs.Common.{◌≡◌, ℕ, zero, suc, ◌+◌, ◌≤◌, ◌<◌, List, [], ◌∷◌, ◌++◌, length, Option, Some, None, IsTrue, take, drop, refl, ap, ◌∙◌, sym, subst, append_assoc, arith}
use Rattle.std.proofs.lemmas.Bool.{false≢true}
use Rattle.std.proofs.lemmas.List.{take-append-drop}
use Rattle.std.specs.Prelude.{is_some, MatchOption}
use Rattle.std.specs.declared.result.Result.{Result}
use Rattle.std.specs.declared.result.Result.TheVariants.{Ok, Err}
use Rattle.ladr_commands.proofs.Forms.{read_of}
use Rattle.ladr_commands.specs.Commands.{commands_of}
use Rattle.ladr_commands.specs.Faults as commands
use Rattle.ladr_commands.specs.Faults.{IsCommandFault}
use Rattle.ladr_commands.specs.Form.{Form}
use Rattle.ladr_commands.specs.declared.fault.CommandFault.TheVariants as command_fault
use Rattle.ladr_problem.proofs.EndLemmas as listed
use Rattle.ladr_problem.specs.Items.{items_of, lexemes}
use Rattle.ladr_problem.specs.ListItem as lists
use Rattle.ladr_problem.specs.ListItem.{ListItem, IsListItem, IsItemFault}
use Rattle.ladr_lex.proofs.Unique.{cut_once}
use Rattle.ladr_lex.specs.Cuts.{Piece}
use Rattle.ladr_lex.specs.Lexeme.{Lexeme}
use Rattle.ladr_problem.specs.Adding.{FileItem, command, within, IsItemRead, IsUnreadable, after_item, is_tester}
use Rattle.ladr_problem.specs.File as file
use Rattle.ladr_problem.specs.File.{Outcome, unreadable, File, ends, open_list, open_block, bad, breaks, goes_on, start_at, refused_at, at_file_end}
use Rattle.ladr_problem.specs.Sofar.{Sofar, nothing_read}
use Rattle.ladr_problem.specs.declared.refusal.Refusal.{Refusal}
use Rattle.ladr_problem.specs.declared.refusal.Refusal.TheVariants.{Memory}
use Rattle.ladr_reader.specs.Table.{OperatorTable, table_of}
use Rattle.ladr_reader.specs.declared.fault.TermFault.TheVariants as term_fault
use Rattle.ladr_formulas.specs.declared.styles.Mode.{Mode}
use Rattle.ladr_settings.specs.declared.lists.OpenList.{OpenList}

none_is_some : {A : Type 0} (o : Option A) → o ≡ None → IsTrue (is_some o) → ⊥
none_is_some o e h = false≢true (rw e at h)

same_open : (k l : OpenList) → Some k ≡ Some l → k ≡ l
same_open k l e = cc

-- an item is read as one thing
read_once : (m : Mode) (s : Sofar) (ts : List Lexeme) (i j : FileItem) → IsItemRead m s ts i → IsItemRead m s ts j → i ≡ j
read_once m s ts (command c) (command d) h k = ap (λ x. command (read_of c x)) (sym h.1 ∙ k.1)
read_once m s ts (command c) (within j) h k = absurd (none_is_some s.settings.list h.0 (ap is_some k.1))
read_once m s ts (within i) (command d) h k = absurd (none_is_some s.settings.list k.0 (ap is_some h.1))
read_once m s ts (within i) (within j) h k =
    ap within (listed.one h.0 (table_of s.settings.operators) ts i j h.2 (subst (λ (l : OpenList). IsListItem l (table_of s.settings.operators) ts j) (same_open k.0 h.0 (sym k.1 ∙ h.1)) k.2))

take_within : (n m : ℕ) (xs : List Lexeme) → n ≤ m → take n (take m xs) ≡ take n xs
take_within zero m xs h = refl
take_within (suc n) zero xs h = absurd (omega (arith, h))
take_within (suc n) (suc m) [] h = refl
take_within (suc n) (suc m) (x ∷ xs) h = ap (λ ys. x ∷ ys) (take_within n m xs (omega (arith, h)))

same_number : (k l : ℕ) → (k < l → ⊥) → (l < k → ⊥) → k ≡ l
same_number zero zero h i = refl
same_number zero (suc l) h i = absurd (h (omega arith))
same_number (suc k) zero h i = absurd (i (omega arith))
same_number (suc k) (suc l) h i = ap suc (same_number k l (λ j. h (omega (arith, j))) (λ j. i (omega (arith, j))))

-- what begins with more tokens begins with fewer
module _ (Begins : List Lexeme → Type 0) (fewer : (xs ys : List Lexeme) → Begins (xs ++ ys) → Begins xs) (ts : List Lexeme) where
  no_earlier : (k l : ℕ) → (k < length ts → ¬ Begins (take (k + 1) ts)) → l ≤ length ts → Begins (take l ts) → k < l → ⊥
  no_earlier k l here inside before h =
      let e : take (k + 1) ts ++ drop (k + 1) (take l ts) ≡ take l ts =
      ap (λ zs. zs ++ drop (k + 1) (take l ts)) (sym (take_within (k + 1) l ts (omega (arith, h)))) ∙ take-append-drop (k + 1) (take l ts) in
      here (omega (arith, h, inside)) (fewer (take (k + 1) ts) (drop (k + 1) (take l ts)) (subst Begins (sym e) before))

command_once : (f : Form) (ts : List Lexeme) (k l : ℕ) → commands.IsBadCommandToken f ts k → commands.IsBadCommandToken f ts l → k ≡ l
command_once f ts k l x y = same_number k l (no_earlier (commands.BeginsCommand f) fewer ts k l x.here y.within y.before) (no_earlier (commands.BeginsCommand f) fewer ts l k y.here x.within x.before)
  where
    fewer : (xs ys : List Lexeme) → commands.BeginsCommand f (xs ++ ys) → commands.BeginsCommand f xs
    fewer xs ys h = record { more = ys ++ h.more; command = h.command; says = rw (← append_assoc xs ys h.more) h.says }

item_once : (list : OpenList) (g : OperatorTable) (ts : List Lexeme) (k l : ℕ) → lists.IsBadListToken list g ts k → lists.IsBadListToken list g ts l → k ≡ l
item_once list g ts k l x y = same_number k l (no_earlier (lists.BeginsListItem list g) fewer ts k l x.here y.within y.before) (no_earlier (lists.BeginsListItem list g) fewer ts l k y.here x.within x.before)
  where
    fewer : (xs ys : List Lexeme) → lists.BeginsListItem list g (xs ++ ys) → lists.BeginsListItem list g xs
    fewer xs ys h = record { more = ys ++ h.more; item = h.item; read = rw (← append_assoc xs ys h.more) h.read }

module _ (m : Mode) (s : Sofar) (ts : List Lexeme) where
  bad_once : (o : Option OpenList) → s.settings.list ≡ o → (k l : ℕ) → IsUnreadable m s ts k → IsUnreadable m s ts l → k ≡ l
  bad_once None e k l x y =
      let a : IsCommandFault (commands_of (is_tester m)) ts (command_fault.Bad k) = subst (λ (o : Option OpenList). MatchOption o (IsCommandFault (commands_of (is_tester m)) ts (command_fault.Bad k)) (λ opened. IsItemFault opened (table_of s.settings.operators) ts (term_fault.Bad k))) e x in
      let b : IsCommandFault (commands_of (is_tester m)) ts (command_fault.Bad l) = subst (λ (o : Option OpenList). MatchOption o (IsCommandFault (commands_of (is_tester m)) ts (command_fault.Bad l)) (λ opened. IsItemFault opened (table_of s.settings.operators) ts (term_fault.Bad l))) e y in
      command_once (commands_of (is_tester m)) ts k l a.0 b.0
  bad_once (Some list) e k l x y =
      let a : IsItemFault list (table_of s.settings.operators) ts (term_fault.Bad k) = subst (λ (o : Option OpenList). MatchOption o (IsCommandFault (commands_of (is_tester m)) ts (command_fault.Bad k)) (λ opened. IsItemFault opened (table_of s.settings.operators) ts (term_fault.Bad k))) e x in
      let b : IsItemFault list (table_of s.settings.operators) ts (term_fault.Bad l) = subst (λ (o : Option OpenList). MatchOption o (IsCommandFault (commands_of (is_tester m)) ts (command_fault.Bad l)) (λ opened. IsItemFault opened (table_of s.settings.operators) ts (term_fault.Bad l))) e y in
      item_once list (table_of s.settings.operators) ts k l a.0 b.0

  -- what can't be read isn't read
  not_read : (o : Option OpenList) → s.settings.list ≡ o → (k : ℕ) (i : FileItem) → IsUnreadable m s ts k → IsItemRead m s ts i → ⊥
  not_read None e k (command c) x r =
      let a : IsCommandFault (commands_of (is_tester m)) ts (command_fault.Bad k) = subst (λ (o : Option OpenList). MatchOption o (IsCommandFault (commands_of (is_tester m)) ts (command_fault.Bad k)) (λ opened. IsItemFault opened (table_of s.settings.operators) ts (term_fault.Bad k))) e x in
      a.1 c r.1
  not_read None e k (within j) x r = none_is_some s.settings.list e (ap is_some r.1)
  not_read (Some list) e k (command c) x r = none_is_some s.settings.list r.0 (ap is_some e)
  not_read (Some list) e k (within j) x r =
      let a : IsItemFault list (table_of s.settings.operators) ts (term_fault.Bad k) = subst (λ (o : Option OpenList). MatchOption o (IsCommandFault (commands_of (is_tester m)) ts (command_fault.Bad k)) (λ opened. IsItemFault opened (table_of s.settings.operators) ts (term_fault.Bad k))) e x in
      a.1 j (subst (λ (l : OpenList). IsListItem l (table_of s.settings.operators) ts j) (same_open r.0 list (sym r.1 ∙ e)) r.2)

abbrev why_of : Result Sofar Refusal → Refusal
why_of (Ok s) = Memory
why_of (Err why) = why

abbrev sofar_in : Sofar → Result Sofar Refusal → Sofar
sofar_in s (Ok t) = t
sofar_in s (Err why) = s

abbrev IsOk : Result Sofar Refusal → Type 0
IsOk (Ok s) = Unit {0}
IsOk (Err why) = ⊥

no_err : (s : Sofar) (why : Refusal) → Ok s ≡ Err why → ⊥
no_err s why e = subst IsOk e tt

module _ (m : Mode) (end : ℕ) where
  same_after : (s : Sofar) (ts : List Piece) (i j : FileItem) → IsItemRead m s (lexemes ts) i → IsItemRead m s (lexemes ts) j
      → after_item m (start_at end ts 0) s (lexemes ts) i ≡ after_item m (start_at end ts 0) s (lexemes ts) j
  same_after s ts i j h k = ap (after_item m (start_at end ts 0) s (lexemes ts)) (read_once m s (lexemes ts) i j h k)

  pub file_once : (s : Sofar) (items : List (List Piece)) (o p : Outcome) → File m end s items o → File m end s items p → o ≡ p
  file_once s [] _ _ (ends a b) (ends c d) = refl
  file_once s [] _ _ (ends a b) (open_list h) = absurd (none_is_some s.settings.list a h)
  file_once s [] _ _ (ends a b) (open_block h) = absurd (none_is_some s.settings.block b h)
  file_once s [] _ _ (open_list h) (ends a b) = absurd (none_is_some s.settings.list a h)
  file_once s [] _ _ (open_list h) (open_list k) = refl
  file_once s [] _ _ (open_list h) (open_block k) = refl
  file_once s [] _ _ (open_block h) (ends a b) = absurd (none_is_some s.settings.block b h)
  file_once s [] _ _ (open_block h) (open_list k) = refl
  file_once s [] _ _ (open_block h) (open_block k) = refl
  file_once s (ts ∷ items) _ _ (bad k x) (bad l y) = ap (λ n. unreadable (start_at end ts n)) (bad_once m s (lexemes ts) s.settings.list refl k l x y)
  file_once s (ts ∷ items) _ _ (bad k x) (breaks i why r e) = absurd (not_read m s (lexemes ts) s.settings.list refl k i x r)
  file_once s (ts ∷ items) _ _ (bad k x) (goes_on i t r e f) = absurd (not_read m s (lexemes ts) s.settings.list refl k i x r)
  file_once s (ts ∷ items) _ _ (breaks i why r e) (bad k x) = absurd (not_read m s (lexemes ts) s.settings.list refl k i x r)
  file_once s (ts ∷ items) _ _ (breaks i why r e) (breaks j w q d) = ap (λ x. refused_at (start_at end ts 0) (why_of x)) (sym e ∙ same_after s ts i j r q ∙ d)
  file_once s (ts ∷ items) _ _ (breaks i why r e) (goes_on j t q d f) = absurd (no_err t why (sym (sym e ∙ same_after s ts i j r q ∙ d)))
  file_once s (ts ∷ items) _ _ (goes_on i t r e f) (bad k x) = absurd (not_read m s (lexemes ts) s.settings.list refl k i x r)
  file_once s (ts ∷ items) _ _ (goes_on i t r e f) (breaks j why q d) = absurd (no_err t why (sym e ∙ same_after s ts i j r q ∙ d))
  file_once s (ts ∷ items) o p (goes_on i t r e f) (goes_on j u q d g) =
      let k : t ≡ u = ap (sofar_in s) (sym e ∙ same_after s ts i j r q ∙ d) in
      file_once t items o p f (subst (λ (x : Sofar). File m end x items p) (sym k) g)

pub says_once : (m : Mode) (bytes : List ℕ) (o p : Outcome) → file.Says m bytes o → file.Says m bytes p → o ≡ p
says_once m bytes _ _ (file.too_long h) (file.too_long k) = refl
says_once m bytes _ _ (file.too_long h) (file.items us inside cut f) = absurd (omega (arith, h, inside))
says_once m bytes _ _ (file.items ts inside cut f) (file.too_long h) = absurd (omega (arith, h, inside))
says_once m bytes _ _ (file.items {o} ts inside cut f) (file.items {o = p} us i c g) =
    let same : ts ≡ us = cut_once 0 bytes ts us cut c in
    ap (at_file_end m (length bytes)) (file_once m (length bytes) nothing_read (items_of ts) o p f (subst (λ (xs : List Piece). File m (length bytes) nothing_read (items_of xs) p) (sym same) g))
