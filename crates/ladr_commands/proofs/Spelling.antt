-- Forms go through the tokens that spell their commands.
use Rattle.std.proofs.Common.{◌≡◌, ℕ, ◌+◌, suc, Bool, true, false, IsTrue, List, [], ◌∷◌, ◌++◌, length, refl, sym, ap, subst, ◌∙◌, append_assoc, arith, codes, bytes_eq}
use Rattle.std.proofs.lemmas.Bool.{false≢true}
use Rattle.std.proofs.lemmas.Slice.Eq.{bytes_eq-Decides}
use Rattle.fol_core.specs.declared.symbols.Kind.{Kind}
use Rattle.fol_core.specs.declared.symbols.Kind.TheVariants.{Function, Relation}
use Rattle.ladr_lex.specs.Lexeme.{Sort, Lexeme, ordinary, open_paren, close_paren, open_square, close_square, comma, full_stop, symbol}
use Rattle.ladr_lex.specs.Numeral.{is_numeral, limited_number_of}
use Rattle.ladr_commands.specs.ByName.{NamedTable, ByName, table, by_name}
use Rattle.ladr_commands.specs.Commands.{commands_of, interpretation, interpretation_item, assign_form, declaration, names_form, behind_comments, entry_list, comment_list, behind_type, whole_in}
use Rattle.ladr_commands.specs.Form.{Form, token, members, values, places, comments, entries, entry, entry_values, behind_entry, behind_number, number_said, closed, opened, form_outcome, SaysCommand}
use Rattle.ladr_commands.specs.Spelled.{Spells, sets, clears, assigns, declares, orders_functions, orders_predicates, opens_formulas, opens_list, begins_block, ends_block, interprets, SpellsInterpretation}
use Rattle.ladr_commands.specs.Spelled as spelled
use Rattle.ladr_commands.specs.SpelledParts.{Separated, one, more, Listed, none, some, SpellsName, named, SpellsNumber, numbered, SpellsValue, word, numeral, negative, SpellsOperators, single, several, SpellsComment, says, SpellsPlace, place, SpellsHead, bare, applied, SpellsEntry, in_parens, in_square, kind_word}
use Rattle.ladr_commands.specs.SpelledParts as parts
use Rattle.ladr_commands.specs.Wanted.{symbol_text}
use Rattle.ladr_commands.specs.declared.command.Command.{Command}
use Rattle.ladr_commands.specs.declared.command.Command.TheVariants as command
use Rattle.ladr_commands.specs.declared.command.Value.{Value}
use Rattle.ladr_commands.specs.declared.command.Value.TheVariants as value
use Rattle.ladr_commands.specs.declared.wanted.Wanted.TheVariants.{Symbol, Numeral, SymbolOrOpenSquare, Close, Comma, CommaOrCloseSquare}
use Rattle.ladr_commands.specs.declared.word.Word.TheVariants as word_named
use Rattle.ladr_commands.proofs.Gives.{parts_of}
use Rattle.ladr_commands.proofs.Words.{step, said_behind}

-- names with commas between, and `]`
through_names :
    {us : List Lexeme} {names : List (List ℕ)} → Separated SpellsName us names → (read : List (List ℕ)) (onward : List (List ℕ) → Form) (rest : List Lexeme)
    → form_outcome (members Symbol read onward) ((us ++ close_square ∷ []) ++ rest) ≡ form_outcome (onward (read ++ names)) rest
through_names (one (named k s)) read onward rest = refl
through_names (more {xs = names} (named k s) others) read onward rest =
    through_names others (read ++ s ∷ []) onward rest ∙ ap (λ xs. form_outcome (onward xs) rest) (append_assoc read (s ∷ []) names)

-- numbers so
through_numbers :
    {us : List Lexeme} {ns : List ℕ} → Separated SpellsNumber us ns → (read : List ℕ) (onward : List ℕ → Form) (rest : List Lexeme)
    → form_outcome (values read onward) ((us ++ close_square ∷ []) ++ rest) ≡ form_outcome (onward (read ++ ns)) rest
through_numbers (one (numbered s i)) read onward rest = step Numeral (λ t. token CommaOrCloseSquare (behind_number (read ++ number_said t ∷ []) onward)) (symbol ordinary s) (close_square ∷ rest) i
through_numbers (more {us = us} {xs = ns} (numbered s i) others) read onward rest =
    step Numeral (λ t. token CommaOrCloseSquare (behind_number (read ++ number_said t ∷ []) onward)) (symbol ordinary s) (comma ∷ ((us ++ close_square ∷ []) ++ rest)) i
    ∙ through_numbers others (read ++ limited_number_of s ∷ []) onward rest
    ∙ ap (λ xs. form_outcome (onward xs) rest) (append_assoc read (limited_number_of s ∷ []) ns)

-- places for arguments, and `)`
through_places :
    {us : List Lexeme} {ps : List (Unit {0})} → Separated SpellsPlace us ps → (n : ℕ) (onward : ℕ → Form) (rest : List Lexeme)
    → form_outcome (places n onward) ((us ++ close_paren ∷ []) ++ rest) ≡ form_outcome (onward (n + length ps)) rest
through_places (one place) n onward rest = refl
through_places (more {xs = ps} place others) n onward rest =
    let m : n + 1 + length ps ≡ n + suc (length ps) = omega arith in
    through_places others (n + 1) onward rest ∙ ap (λ k. form_outcome (onward k) rest) m

-- comments, and `]`
through_comments :
    {us : List Lexeme} {cs : List (List ℕ × ℕ)} → Separated SpellsComment us cs → (f : Form) (rest : List Lexeme)
    → form_outcome (comments f) ((us ++ close_square ∷ []) ++ rest) ≡ form_outcome f rest
through_comments (one (says (named k s) (numbered d i))) f rest = rw i refl
through_comments (more (says (named k s) (numbered d i)) others) f rest = rw i (through_comments others f rest)

-- the head of an entry, and a comma
through_head :
    {us : List Lexeme} {name : List ℕ} {arity : ℕ} → SpellsHead us name arity → (n : ℕ) (es : List NamedTable) (kind : Kind) (rest : List Lexeme)
    → form_outcome (entry n es kind) (open_paren ∷ (us ++ comma ∷ rest)) ≡ form_outcome (entry_values n es kind name arity) rest
through_head (bare (named k s)) n es kind rest = refl
through_head (applied {us = us} {places = ps} (named k s) filled) n es kind rest =
    let m : 0 + length ps ≡ length ps = omega arith in
    through_places filled 0 (λ arity. token Comma (λ _. entry_values n es kind s arity)) (comma ∷ rest)
    ∙ ap (λ arity. form_outcome (entry_values n es kind s arity) rest) m

-- what stands behind the word of an entry
through_entry :
    {us vs : List Lexeme} {name : List ℕ} {arity : ℕ} {ns : List ℕ} (kind : Kind) → SpellsHead us name arity → Separated SpellsNumber vs ns → (n : ℕ) (es : List NamedTable) (rest : List Lexeme)
    → form_outcome (entry n es kind) (in_parens (us ++ comma ∷ in_square vs) ++ rest) ≡ form_outcome (token CommaOrCloseSquare (behind_entry n (es ++ table kind name arity ns ∷ []))) rest
through_entry {us = us} {vs = vs} {name = name} {arity = arity} {ns = ns} kind head ns_spelled n es rest =
    ap (λ ts. form_outcome (entry n es kind) (open_paren ∷ ts)) (parts_of us (comma ∷ in_square vs) (close_paren ∷ []) rest)
    ∙ through_head head n es kind (in_square vs ++ close_paren ∷ rest)
    ∙ through_numbers ns_spelled [] (λ xs. token Close (λ _. token CommaOrCloseSquare (behind_entry n (es ++ table kind name arity xs ∷ [])))) (close_paren ∷ rest)

-- the word of a kind leads to its entry
through_kind : (kind : Kind) (n : ℕ) (es : List NamedTable) (rest : List Lexeme) → form_outcome (entries n es) (kind_word kind ∷ rest) ≡ form_outcome (entry n es kind) rest
through_kind Function n es rest = refl
through_kind Relation n es rest = refl

-- entries, and `]`
through_entries :
    {us : List Lexeme} {ts : List NamedTable} → Separated SpellsEntry us ts → (n : ℕ) (es : List NamedTable) (rest : List Lexeme)
    → form_outcome (entries n es) ((us ++ close_square ∷ []) ++ rest) ≡ form_outcome (closed (command.Interpretation (by_name n (es ++ ts)))) rest
through_entries (one (parts.entry {ts = us} {us = vs} kind head ns)) n es rest =
    ap (λ ts. form_outcome (entries n es) (kind_word kind ∷ ts)) (append_assoc (in_parens (us ++ comma ∷ in_square vs)) (close_square ∷ []) rest)
    ∙ through_kind kind n es (in_parens (us ++ comma ∷ in_square vs) ++ close_square ∷ rest)
    ∙ through_entry kind head ns n es (close_square ∷ rest)
through_entries (more {us = us'} {xs = ts} (parts.entry {ts = us} {us = vs} {name = name} {arity = arity} {values = vals} kind head ns) others) n es rest =
    ap (λ ts. form_outcome (entries n es) (kind_word kind ∷ ts)) (parts_of (in_parens (us ++ comma ∷ in_square vs)) (comma ∷ us') (close_square ∷ []) rest)
    ∙ through_kind kind n es (in_parens (us ++ comma ∷ in_square vs) ++ comma ∷ (us' ++ close_square ∷ rest))
    ∙ through_entry kind head ns n es (comma ∷ (us' ++ close_square ∷ rest))
    ∙ ap (λ ts. form_outcome (entries n (es ++ table kind name arity vals ∷ [])) ts) (sym (append_assoc us' (close_square ∷ []) rest))
    ∙ through_entries others n (es ++ table kind name arity vals ∷ []) rest
    ∙ ap (λ xs. form_outcome (closed (command.Interpretation (by_name n xs))) rest) (append_assoc es (table kind name arity vals ∷ []) ts)

-- the comments of an interpretation, in square brackets
through_comment_list :
    {us : List Lexeme} {cs : List (List ℕ × ℕ)} → Listed SpellsComment us cs → (n : ℕ) (rest : List Lexeme)
    → form_outcome (comment_list n) (us ++ rest) ≡ form_outcome (behind_comments n) rest
through_comment_list none n rest = refl
through_comment_list (some (one (says (named k s) (numbered d i)))) n rest = rw i refl
through_comment_list (some (more (says (named k s) (numbered d i)) others)) n rest = rw i (through_comments others (behind_comments n) rest)

-- and its entries: as behind a comma
through_entry_list :
    {us : List Lexeme} {ts : List NamedTable} → Listed SpellsEntry us ts → (n : ℕ) (rest : List Lexeme)
    → form_outcome (entry_list n) (us ++ rest) ≡ form_outcome (closed (command.Interpretation (by_name n ts))) rest
through_entry_list none n rest = refl
through_entry_list (some filled) n rest = first_entry filled n rest ∙ through_entries filled n [] rest
  where
    first_kind : (kind : Kind) (n : ℕ) (rest : List Lexeme) → form_outcome (entry_list n) (open_square ∷ kind_word kind ∷ rest) ≡ form_outcome (entries n []) (kind_word kind ∷ rest)
    first_kind Function n rest = refl
    first_kind Relation n rest = refl

    first_entry :
        {us : List Lexeme} {ts : List NamedTable} → Separated SpellsEntry us ts → (n : ℕ) (rest : List Lexeme)
        → form_outcome (entry_list n) (in_square us ++ rest) ≡ form_outcome (entries n []) ((us ++ close_square ∷ []) ++ rest)
    first_entry (one (parts.entry {ts = ts} {us = us} kind head ns)) n rest = first_kind kind n ((in_parens (ts ++ comma ∷ in_square us) ++ close_square ∷ []) ++ rest)
    first_entry (more {us = vs} (parts.entry {ts = ts} {us = us} kind head ns) others) n rest = first_kind kind n (((in_parens (ts ++ comma ∷ in_square us) ++ comma ∷ vs) ++ close_square ∷ []) ++ rest)

through_interpretation : {ts : List Lexeme} {it : ByName} → SpellsInterpretation ts it → (f : Form) → ((us : List Lexeme) → form_outcome f (symbol ordinary (codes "interpretation") ∷ us) ≡ form_outcome interpretation us) → SaysCommand f ts (command.Interpretation it)
through_interpretation (spelled.interpretation {us = us} {vs = vs} {entries = es} (numbered d i) cs ts) f begins =
    begins (open_paren ∷ symbol ordinary d ∷ comma ∷ ((us ++ comma ∷ vs) ++ close_paren ∷ full_stop ∷ []))
    ∙ step Numeral (λ n. token Comma (λ _. comment_list (number_said n))) (symbol ordinary d) (comma ∷ ((us ++ comma ∷ vs) ++ close_paren ∷ full_stop ∷ [])) i
    ∙ ap (λ xs. form_outcome (comment_list (limited_number_of d)) xs) (append_assoc us (comma ∷ vs) (close_paren ∷ full_stop ∷ []))
    ∙ through_comment_list cs (limited_number_of d) (comma ∷ (vs ++ close_paren ∷ full_stop ∷ []))
    ∙ through_entry_list ts (limited_number_of d) (close_paren ∷ full_stop ∷ [])

pub interpretation_said : (ts : List Lexeme) (it : ByName) → SpellsInterpretation ts it → SaysCommand interpretation_item ts (command.Interpretation it)
interpretation_said ts it h = through_interpretation h interpretation_item (λ us. refl)

-- `[name, .., name]).`
through_order : {us : List Lexeme} {names : List (List ℕ)} → Separated SpellsName us names → (said : List (List ℕ) → Command) → SaysCommand (opened (names_form said)) (open_paren ∷ (in_square us ++ close_paren ∷ full_stop ∷ [])) (said names)
through_order names said = through_names names [] (λ xs. closed (said xs)) (close_paren ∷ full_stop ∷ [])

-- a symbol that is a value is read as one
abbrev IsReadValue : Sort → List ℕ → Sort → List ℕ → Type 0
IsReadValue k name j t = SaysCommand (opened assign_form) (open_paren ∷ symbol k name ∷ comma ∷ symbol j t ∷ close_paren ∷ full_stop ∷ []) (command.Assign name (value.Symbol t))

-- a value of a parameter
through_value : {us : List Lexeme} {v : Value} → SpellsValue us v → (k : Sort) (name : List ℕ) → SaysCommand (opened assign_form) (open_paren ∷ symbol k name ∷ comma ∷ (us ++ close_paren ∷ full_stop ∷ [])) (command.Assign name v)
through_value (word j s i) k name = by (bytes_eq s (codes "-")) refl
  where
    by : (b : Bool) → bytes_eq s (codes "-") ≡ b → IsReadValue k name j s
    by true e = subst (IsReadValue k name j) (sym ((bytes_eq-Decides s (codes "-")).0 e)) refl
    by false e = rw (e, i) refl
through_value (numeral d i) k name = by (bytes_eq d (codes "-")) refl
  where
    by : (b : Bool) → bytes_eq d (codes "-") ≡ b → SaysCommand (opened assign_form) (open_paren ∷ symbol k name ∷ comma ∷ symbol ordinary d ∷ close_paren ∷ full_stop ∷ []) (command.Assign name (value.Number false (whole_in (symbol ordinary d))))
    by true e = absurd (false≢true (subst (λ t. is_numeral t ≡ true) ((bytes_eq-Decides d (codes "-")).0 e) i))
    by false e = rw (e, i) refl
through_value (negative j d i) k name = rw i refl

through_operators : {us : List Lexeme} {names : List (List ℕ)} → SpellsOperators us names → (k : Sort) (d type : List ℕ) → IsTrue (is_numeral d) → SaysCommand (opened declaration) (open_paren ∷ symbol ordinary d ∷ comma ∷ symbol k type ∷ comma ∷ (us ++ close_paren ∷ full_stop ∷ [])) (command.Op (limited_number_of d) type names)
through_operators {us = us} {names = names} spelled_names k d type i =
    step Numeral (λ p. token Comma (λ _. token Symbol (λ t. token Comma (λ _. token SymbolOrOpenSquare (behind_type (number_said p) (symbol_text t))))))
    (symbol ordinary d) (comma ∷ symbol k type ∷ comma ∷ (us ++ close_paren ∷ full_stop ∷ [])) i
    ∙ by spelled_names (limited_number_of d)
  where
    by : {vs : List Lexeme} {all : List (List ℕ)} → SpellsOperators vs all → (n : ℕ) → SaysCommand (token SymbolOrOpenSquare (behind_type n type)) (vs ++ close_paren ∷ full_stop ∷ []) (command.Op n type all)
    by (single (named j s)) n = refl
    by (several filled) n = through_names filled [] (λ xs. closed (command.Op n type xs)) (close_paren ∷ full_stop ∷ [])

-- a command is what its tokens spell
pub command_said : (tester : Bool) (ts : List Lexeme) (c : Command) → Spells tester ts c → SaysCommand (commands_of tester) ts c
command_said b ts c (sets k (named j s)) = said_behind b k word_named.Set (open_paren ∷ symbol j s ∷ close_paren ∷ full_stop ∷ []) _ refl
command_said b ts c (clears k (named j s)) = said_behind b k word_named.Clear (open_paren ∷ symbol j s ∷ close_paren ∷ full_stop ∷ []) _ refl
command_said b ts c (assigns {us = us} k (named j s) v) = said_behind b k word_named.Assign (open_paren ∷ symbol j s ∷ comma ∷ (us ++ close_paren ∷ full_stop ∷ [])) _ (through_value v j s)
command_said b ts c (declares {vs = vs} k (numbered d i) (named j s) names) = said_behind b k word_named.Op (open_paren ∷ symbol ordinary d ∷ comma ∷ symbol j s ∷ comma ∷ (vs ++ close_paren ∷ full_stop ∷ [])) _ (through_operators names j d s i)
command_said b ts c (orders_functions {ts = us} k names) = said_behind b k word_named.FunctionOrder (open_paren ∷ (in_square us ++ close_paren ∷ full_stop ∷ [])) _ (through_order names command.FunctionOrder)
command_said b ts c (orders_predicates {ts = us} k names) = said_behind b k word_named.PredicateOrder (open_paren ∷ (in_square us ++ close_paren ∷ full_stop ∷ [])) _ (through_order names command.PredicateOrder)
command_said b ts c (opens_formulas k (named j s)) = said_behind b k word_named.Formulas (open_paren ∷ symbol j s ∷ close_paren ∷ full_stop ∷ []) _ refl
command_said b ts c (opens_list k (named j s)) = said_behind b k word_named.List (open_paren ∷ symbol j s ∷ close_paren ∷ full_stop ∷ []) _ refl
command_said b ts c (begins_block k (named j s)) = said_behind b k word_named.If (open_paren ∷ symbol j s ∷ close_paren ∷ full_stop ∷ []) _ refl
command_said b ts c (ends_block k) = said_behind b k word_named.EndIf (full_stop ∷ []) _ refl
command_said b ts c (interprets {it = it} e h) = subst (λ a. SaysCommand (commands_of a) ts (command.Interpretation it)) (sym e) (through_interpretation h (commands_of true) (λ us. refl))
