-- What a form goes through is what spells its command.
use Rattle.std.proofs.Common.{◌≡◌, ℕ, zero, suc, ◌+◌, ◌≤◌, Bool, true, false, if◌then◌else◌, List, [], ◌∷◌, ◌++◌, length, refl, sym, ap, subst, ◌∙◌, append_assoc, arith, codes, bytes_eq}
use Rattle.std.proofs.lemmas.List.{length-append}
use Rattle.std.proofs.lemmas.Bool.{false≢true}
use Rattle.std.proofs.lemmas.Slice.Eq.{bytes_eq-Decides}
use Rattle.fol_core.specs.declared.symbols.Kind.{Kind}
use Rattle.ladr_lex.specs.Lexeme.{Sort, Lexeme, ordinary, special, open_paren, close_paren, open_square, close_square, comma, full_stop, symbol}
use Rattle.ladr_lex.specs.Numeral.{is_numeral, limited_number_of}
use Rattle.ladr_commands.specs.ByName.{NamedTable, ByName, table, by_name}
use Rattle.ladr_commands.specs.Commands.{commands_of, interpretation, interpretation_item, assign_form, declaration, name_form, names_form, behind_value, behind_dash, value_named, behind_comments, entry_list, entries_or, comment_list, comments_or, behind_word, behind_type, whole_in}
use Rattle.ladr_commands.specs.Form.{Form, token, members, values, places, comments, comment, entries, entry, entry_values, behind_entry, behind_entry_name, behind_member, behind_number, behind_place, behind_comment, number_said, closed, opened, SaysCommand}
use Rattle.ladr_commands.specs.Spelled.{Spells, sets, clears, assigns, declares, orders_functions, orders_predicates, opens_formulas, opens_list, begins_block, ends_block, interprets, SpellsInterpretation}
use Rattle.ladr_commands.specs.Spelled as spelled
use Rattle.ladr_commands.specs.SpelledParts.{Separated, one, more, Listed, none, some, SpellsName, named, SpellsNumber, numbered, SpellsValue, word, numeral, negative, SpellsOperators, single, several, SpellsComment, says, SpellsPlace, place, SpellsHead, bare, applied, SpellsEntry, in_parens, in_square, kind_word}
use Rattle.ladr_commands.specs.SpelledParts as parts
use Rattle.ladr_commands.specs.Wanted.{fits, is_number, is_word, is_kind_word, kind_said, symbol_text}
use Rattle.ladr_commands.specs.declared.command.Command.{Command}
use Rattle.ladr_commands.specs.declared.command.Command.TheVariants as command
use Rattle.ladr_commands.specs.declared.command.Value.{Value}
use Rattle.ladr_commands.specs.declared.command.Value.TheVariants as value
use Rattle.ladr_commands.specs.declared.wanted.Wanted.TheVariants.{Symbol, Numeral, SymbolOrOpenSquare, NumeralOrClose, Close, Comma, CommaOrCloseSquare, CommaOrOpen, CommaOrClose, KindWord, Equality, Place, SymbolOrCloseSquare, KindWordOrCloseSquare, InterpretationWord}
use Rattle.ladr_commands.specs.declared.word.Word.{Word}
use Rattle.ladr_commands.specs.declared.word.Word.TheVariants as word_named
use Rattle.ladr_commands.proofs.Forms.{as_token, as_number, as_place, as_comment, as_entry}
use Rattle.ladr_commands.proofs.Words.{text_of, word_is, equality_is, kind_is}
use Rattle.ladr_commands.proofs.Gives.{Gives, behind, within, none_read, on_token, on_this, on_open, on_close, on_open_square, on_comma, on_symbol, on_number, on_comma_or_close_square, on_comma_or_close, on_comma_or_open, parts_of, three_joined, on_stopped, on_closed, on_command_word, on_tester_word}

-- names with commas between, and `]`, of so many tokens at most
names_within :
    (n : ℕ) (read : List (List ℕ)) (onward : List (List ℕ) → Form) (G : List Lexeme → Command → Type 0)
    → ((us : List Lexeme) (names : List (List ℕ)) → Separated SpellsName us names → Gives (onward (read ++ names)) (behind (us ++ close_square ∷ []) G))
    → Gives (members Symbol read onward) (within n G)
names_within n read onward G h [] c e l = absurd (none_read [] c e)
names_within zero read onward G h (t ∷ ts) c e l = absurd (omega arith)
names_within (suc n) read onward G h (t ∷ ts) c e l =
    on_symbol (λ u. token CommaOrCloseSquare (behind_member Symbol (read ++ symbol_text u ∷ []) onward)) (within (suc n) G)
    (λ k s. on_comma_or_close_square (members Symbol (read ++ s ∷ []) onward) (onward (read ++ s ∷ [])) (behind (symbol k s ∷ []) (within (suc n) G))
    (λ us d i m. names_within n (read ++ s ∷ []) onward (behind (symbol k s ∷ comma ∷ []) G)
    (λ vs names all. subst (λ xs. Gives (onward xs) (behind (vs ++ close_square ∷ []) (behind (symbol k s ∷ comma ∷ []) G))) (sym (append_assoc read (s ∷ []) names))
    (h (symbol k s ∷ comma ∷ vs) (s ∷ names) (more (named k s) all)))
    us d i (omega arith))
    (λ us d i m. h (symbol k s ∷ []) (s ∷ []) (one (named k s)) us d i))
    (t ∷ ts) c (sym (as_token Symbol read onward (t ∷ ts)) ∙ e) l

-- numbers so
numbers_within :
    (n : ℕ) (read : List ℕ) (onward : List ℕ → Form) (G : List Lexeme → Command → Type 0)
    → ((us : List Lexeme) (ns : List ℕ) → Separated SpellsNumber us ns → Gives (onward (read ++ ns)) (behind (us ++ close_square ∷ []) G))
    → Gives (values read onward) (within n G)
numbers_within n read onward G h [] c e l = absurd (none_read [] c e)
numbers_within zero read onward G h (t ∷ ts) c e l = absurd (omega arith)
numbers_within (suc n) read onward G h (t ∷ ts) c e l =
    on_number (λ u. token CommaOrCloseSquare (behind_number (read ++ number_said u ∷ []) onward)) (within (suc n) G)
    (λ s j. on_comma_or_close_square (values (read ++ limited_number_of s ∷ []) onward) (onward (read ++ limited_number_of s ∷ [])) (behind (symbol ordinary s ∷ []) (within (suc n) G))
    (λ us d i m. numbers_within n (read ++ limited_number_of s ∷ []) onward (behind (symbol ordinary s ∷ comma ∷ []) G)
    (λ vs ns all. subst (λ xs. Gives (onward xs) (behind (vs ++ close_square ∷ []) (behind (symbol ordinary s ∷ comma ∷ []) G))) (sym (append_assoc read (limited_number_of s ∷ []) ns))
    (h (symbol ordinary s ∷ comma ∷ vs) (limited_number_of s ∷ ns) (more (numbered s j) all)))
    us d i (omega arith))
    (λ us d i m. h (symbol ordinary s ∷ []) (limited_number_of s ∷ []) (one (numbered s j)) us d i))
    (t ∷ ts) c (sym (as_number read onward (t ∷ ts)) ∙ e) l

-- places for arguments, and `)`
place_is : (t : Lexeme) → is_word (codes "_") t ≡ true → symbol ordinary (codes "_") ≡ t
place_is t i = sym (word_is (codes "_") t i)

places_within :
    (n : ℕ) (sofar : ℕ) (onward : ℕ → Form) (G : List Lexeme → Command → Type 0)
    → ((us : List Lexeme) (ps : List (Unit {0})) → Separated SpellsPlace us ps → Gives (onward (sofar + length ps)) (behind (us ++ close_paren ∷ []) G))
    → Gives (places sofar onward) (within n G)
places_within n sofar onward G h [] c e l = absurd (none_read [] c e)
places_within zero sofar onward G h (t ∷ ts) c e l = absurd (omega arith)
places_within (suc n) sofar onward G h (t ∷ ts) c e l =
    on_this Place (symbol ordinary (codes "_")) (token CommaOrClose (behind_place (sofar + 1) onward)) (within (suc n) G) place_is
    (on_comma_or_close (places (sofar + 1) onward) (onward (sofar + 1)) (behind (symbol ordinary (codes "_") ∷ []) (within (suc n) G))
    (λ us d i m. places_within n (sofar + 1) onward (behind (symbol ordinary (codes "_") ∷ comma ∷ []) G)
    (λ vs ps all. subst (λ k. Gives (onward k) (behind (vs ++ close_paren ∷ []) (behind (symbol ordinary (codes "_") ∷ comma ∷ []) G))) (counted (length ps))
    (h (symbol ordinary (codes "_") ∷ comma ∷ vs) (tt ∷ ps) (more place all)))
    us d i (omega arith))
    (λ us d i m. h (symbol ordinary (codes "_") ∷ []) (tt ∷ []) (one place) us d i))
    (t ∷ ts) c (sym (as_place sofar onward (t ∷ ts)) ∙ e) l
  where
    counted : (k : ℕ) → sofar + suc k ≡ sofar + 1 + k
    counted k = omega arith

-- what follows is no longer than all of it
shorter : (us : List Lexeme) (u : Lexeme) (vs : List Lexeme) (k : ℕ) → length (us ++ u ∷ vs) ≤ k → length vs ≤ k
shorter us u vs k m = omega (arith, length-append us (u ∷ vs))

-- a comment behind its name, and then a comma and more, or `]`
on_comment :
    (k : Sort) (s : List ℕ) (f : Form) (G : List Lexeme → Command → Type 0)
    → ((us : List Lexeme) (x : List ℕ × ℕ) → SpellsComment (symbol k s ∷ us) x → Gives (token CommaOrCloseSquare (behind_comment f)) (behind us G))
    → Gives (comment f) G
on_comment k s f G h =
    on_this Equality (symbol special (codes "=")) (token Numeral (λ _. token CommaOrCloseSquare (behind_comment f))) G (λ t i. sym (equality_is t i))
    (on_number (λ _. token CommaOrCloseSquare (behind_comment f)) (behind (symbol special (codes "=") ∷ []) G)
    (λ d i. h (symbol special (codes "=") ∷ symbol ordinary d ∷ []) (s, limited_number_of d) (says (named k s) (numbered d i))))

-- comments, the name of the first being read, and `]`
comments_within :
    (n : ℕ) (k : Sort) (s : List ℕ) (f : Form) (G : List Lexeme → Command → Type 0)
    → ((us : List Lexeme) (cs : List (List ℕ × ℕ)) → Separated SpellsComment us cs → Gives f (behind (us ++ close_square ∷ []) G))
    → Gives (comment f) (within n (behind (symbol k s ∷ []) G))
comments_within n k s f G h [] c e l = absurd (none_read [] c e)
comments_within zero k s f G h (t ∷ ts) c e l = absurd (omega arith)
comments_within (suc n) k s f G h (t ∷ ts) c e l =
    on_comment k s f (within (suc n) (behind (symbol k s ∷ []) G))
    (λ us x said. on_comma_or_close_square (comments f) f (behind us (within (suc n) (behind (symbol k s ∷ []) G)))
    (λ vs d i m. on_symbol (λ _. comment f) (within (suc n) (λ ts c. G (symbol k s ∷ (us ++ comma ∷ ts)) c))
    (λ j r ws b a o. comments_within n j r f (λ ts c. G (symbol k s ∷ (us ++ comma ∷ ts)) c)
    (λ ys cs all zs q p. subst (λ xs. G (symbol k s ∷ xs) q) (parts_of us (comma ∷ ys) (close_square ∷ []) zs ∙ ap (λ xs. us ++ comma ∷ xs) (sym (append_assoc ys (close_square ∷ []) zs)))
    (h (symbol k s ∷ (us ++ comma ∷ ys)) (x ∷ cs) (more said all) zs q p))
    ws b a (omega arith))
    vs d (sym (as_comment f vs) ∙ i) (shorter us comma vs (suc n) m))
    (λ vs d i m. subst (λ xs. G (symbol k s ∷ xs) d) (append_assoc us (close_square ∷ []) vs) (h (symbol k s ∷ us) (x ∷ []) (one said) vs d i)))
    (t ∷ ts) c e l

on_comment_list :
    (n : ℕ) (G : List Lexeme → Command → Type 0) → ((us : List Lexeme) (cs : List (List ℕ × ℕ)) → Listed SpellsComment us cs → Gives (behind_comments n) (behind us G))
    → Gives (comment_list n) G
on_comment_list n G h = on_open_square (token SymbolOrCloseSquare (comments_or (behind_comments n))) G (on_token SymbolOrCloseSquare (comments_or (behind_comments n)) (behind (open_square ∷ []) G) by)
  where
    by : (t : Lexeme) → fits SymbolOrCloseSquare t ≡ true → Gives (comments_or (behind_comments n) t) (behind (t ∷ []) (behind (open_square ∷ []) G))
    by close_square i = h (in_square []) [] none
    by (symbol k s) i = λ ts c e. comments_within (length ts) k s (behind_comments n) (behind (open_square ∷ []) G) (λ us cs all. h (in_square us) cs (some all)) ts c e (omega arith)
    by t i = absurd (false≢true i)

-- what stands between the word of an entry and its values
on_head :
    (n : ℕ) (es : List NamedTable) (kind : Kind) (G : List Lexeme → Command → Type 0)
    → ((hs : List Lexeme) (name : List ℕ) (arity : ℕ) → SpellsHead hs name arity → Gives (entry_values n es kind name arity) (behind (comma ∷ []) (behind hs G)))
    → Gives (token Symbol (λ name. token CommaOrOpen (behind_entry_name n es kind (symbol_text name)))) G
on_head n es kind G h =
    on_symbol (λ name. token CommaOrOpen (behind_entry_name n es kind (symbol_text name))) G
    (λ k s. on_comma_or_open (entry_values n es kind s 0) (places 0 (λ arity. token Comma (λ _. entry_values n es kind s arity))) (behind (symbol k s ∷ []) G)
    (h (symbol k s ∷ []) s 0 (bare (named k s)))
    (λ ts c e. places_within (length ts) 0 (λ arity. token Comma (λ _. entry_values n es kind s arity)) (behind (symbol k s ∷ open_paren ∷ []) G)
    (λ us ps all. on_comma (entry_values n es kind s (0 + length ps)) (behind (us ++ close_paren ∷ []) (behind (symbol k s ∷ open_paren ∷ []) G))
    (subst (λ a. Gives (entry_values n es kind s a) (behind (comma ∷ []) (behind (symbol k s ∷ in_parens us) G))) (counted (length ps))
    (h (symbol k s ∷ in_parens us) s (length ps) (applied (named k s) all))))
    ts c e (omega arith)))
  where
    counted : (k : ℕ) → k ≡ 0 + k
    counted k = omega arith

on_entry_values :
    (n : ℕ) (es : List NamedTable) (kind : Kind) (name : List ℕ) (arity : ℕ) (G : List Lexeme → Command → Type 0)
    → ((us : List Lexeme) (ns : List ℕ) → Separated SpellsNumber us ns → Gives (token CommaOrCloseSquare (behind_entry n (es ++ table kind name arity ns ∷ []))) (behind (close_paren ∷ []) (behind (in_square us) G)))
    → Gives (entry_values n es kind name arity) G
on_entry_values n es kind name arity G h =
    on_open_square (values [] (λ ns. token Close (λ _. token CommaOrCloseSquare (behind_entry n (es ++ table kind name arity ns ∷ []))))) G
    (λ ts c e. numbers_within (length ts) [] (λ ns. token Close (λ _. token CommaOrCloseSquare (behind_entry n (es ++ table kind name arity ns ∷ [])))) (behind (open_square ∷ []) G)
    (λ us ns all. on_close (token CommaOrCloseSquare (behind_entry n (es ++ table kind name arity ns ∷ []))) (behind (us ++ close_square ∷ []) (behind (open_square ∷ []) G)) (h us ns all))
    ts c e (omega arith))

-- an entry behind its word
on_entry :
    (n : ℕ) (es : List NamedTable) (kind : Kind) (G : List Lexeme → Command → Type 0)
    → ((us : List Lexeme) (t : NamedTable) → SpellsEntry (kind_word kind ∷ us) t → Gives (token CommaOrCloseSquare (behind_entry n (es ++ t ∷ []))) (behind us G))
    → Gives (entry n es kind) G
on_entry n es kind G h =
    on_open (token Symbol (λ name. token CommaOrOpen (behind_entry_name n es kind (symbol_text name)))) G
    (on_head n es kind (behind (open_paren ∷ []) G)
    (λ hs name arity head. on_entry_values n es kind name arity (behind (comma ∷ []) (behind hs (behind (open_paren ∷ []) G)))
    (λ vs ns all. three_joined hs (comma ∷ in_square vs) (close_paren ∷ []) (behind (open_paren ∷ []) G) (token CommaOrCloseSquare (behind_entry n (es ++ table kind name arity ns ∷ [])))
    (h (in_parens (hs ++ comma ∷ in_square vs)) (table kind name arity ns) (parts.entry kind head all)))))

-- entries, the word of the first being read, and `]`
entries_within :
    (m n : ℕ) (es : List NamedTable) (kind : Kind) (G : List Lexeme → Command → Type 0)
    → ((us : List Lexeme) (ts : List NamedTable) → Separated SpellsEntry us ts → Gives (closed (command.Interpretation (by_name n (es ++ ts)))) (behind (us ++ close_square ∷ []) G))
    → Gives (entry n es kind) (within m (behind (kind_word kind ∷ []) G))
entries_within m n es kind G h [] c e l = absurd (none_read [] c e)
entries_within zero n es kind G h (t ∷ ts) c e l = absurd (omega arith)
entries_within (suc m) n es kind G h (t ∷ ts) c e l =
    on_entry n es kind (within (suc m) (behind (kind_word kind ∷ []) G))
    (λ us x said. on_comma_or_close_square (entries n (es ++ x ∷ [])) (closed (command.Interpretation (by_name n (es ++ x ∷ [])))) (behind us (within (suc m) (behind (kind_word kind ∷ []) G)))
    (λ vs d i o. on_token KindWord (λ u. entry n (es ++ x ∷ []) (kind_said u)) (within (suc m) (λ ts c. G (kind_word kind ∷ (us ++ comma ∷ ts)) c))
    (λ u fit. subst (λ w. Gives (entry n (es ++ x ∷ []) (kind_said u)) (behind (w ∷ []) (within (suc m) (λ ts c. G (kind_word kind ∷ (us ++ comma ∷ ts)) c)))) (sym (kind_is u fit))
    (λ ws b a o'. entries_within m n (es ++ x ∷ []) (kind_said u) (λ ts c. G (kind_word kind ∷ (us ++ comma ∷ ts)) c)
    (λ ys xs all. subst (λ all_of. Gives (closed (command.Interpretation (by_name n all_of))) (behind (ys ++ close_square ∷ []) (λ ts c. G (kind_word kind ∷ (us ++ comma ∷ ts)) c))) (sym (append_assoc es (x ∷ []) xs))
    (λ zs q p. subst (λ rest. G (kind_word kind ∷ rest) q) (parts_of us (comma ∷ ys) (close_square ∷ []) zs ∙ ap (λ rest. us ++ comma ∷ rest) (sym (append_assoc ys (close_square ∷ []) zs)))
    (h (kind_word kind ∷ (us ++ comma ∷ ys)) (x ∷ xs) (more said all) zs q p)))
    ws b a (omega arith)))
    vs d (sym (as_entry n (es ++ x ∷ []) vs) ∙ i) (shorter us comma vs (suc m) o))
    (λ vs d i o. subst (λ rest. G (kind_word kind ∷ rest) d) (append_assoc us (close_square ∷ []) vs) (h (kind_word kind ∷ us) (x ∷ []) (one said) vs d i)))
    (t ∷ ts) c e l

on_entry_list :
    (n : ℕ) (G : List Lexeme → Command → Type 0) → ((us : List Lexeme) (ts : List NamedTable) → Listed SpellsEntry us ts → Gives (closed (command.Interpretation (by_name n ts))) (behind us G))
    → Gives (entry_list n) G
on_entry_list n G h = on_open_square (token KindWordOrCloseSquare (entries_or n)) G (on_token KindWordOrCloseSquare (entries_or n) (behind (open_square ∷ []) G) by)
  where
    behind_word_of : (t : Lexeme) → is_kind_word t ≡ true → Gives (entry n [] (kind_said t)) (behind (t ∷ []) (behind (open_square ∷ []) G))
    behind_word_of t i =
        subst (λ u. Gives (entry n [] (kind_said t)) (behind (u ∷ []) (behind (open_square ∷ []) G))) (sym (kind_is t i))
        (λ ts c e. entries_within (length ts) n [] (kind_said t) (behind (open_square ∷ []) G) (λ us es all. h (in_square us) es (some all)) ts c e (omega arith))

    told : (k : Sort) (s : List ℕ) (b : Bool) → is_kind_word (symbol k s) ≡ b → fits KindWordOrCloseSquare (symbol k s) ≡ true → Gives (entry n [] (kind_said (symbol k s))) (behind (symbol k s ∷ []) (behind (open_square ∷ []) G))
    told k s true e i = behind_word_of (symbol k s) e
    told k s false e i = absurd (false≢true (rw e at i))

    by : (t : Lexeme) → fits KindWordOrCloseSquare t ≡ true → Gives (entries_or n t) (behind (t ∷ []) (behind (open_square ∷ []) G))
    by close_square i = h (in_square []) [] none
    by (symbol k s) i = told k s (is_kind_word (symbol k s)) refl i
    by t i = absurd (false≢true i)

-- an interpretation behind its word
on_interpretation :
    (G : List Lexeme → Command → Type 0) → ((ts : List Lexeme) (it : ByName) → SpellsInterpretation ts it → G ts (command.Interpretation it))
    → Gives interpretation (behind (symbol ordinary (codes "interpretation") ∷ []) G)
on_interpretation G h =
    on_open (token Numeral (λ n. token Comma (λ _. comment_list (number_said n)))) (behind (symbol ordinary (codes "interpretation") ∷ []) G)
    (on_number (λ n. token Comma (λ _. comment_list (number_said n))) (behind (symbol ordinary (codes "interpretation") ∷ open_paren ∷ []) G)
    (λ d i. on_comma (comment_list (limited_number_of d)) (behind (symbol ordinary (codes "interpretation") ∷ open_paren ∷ symbol ordinary d ∷ []) G)
    (on_comment_list (limited_number_of d) (behind (symbol ordinary (codes "interpretation") ∷ open_paren ∷ symbol ordinary d ∷ comma ∷ []) G)
    (λ us cs all. on_comma (entry_list (limited_number_of d)) (behind us (behind (symbol ordinary (codes "interpretation") ∷ open_paren ∷ symbol ordinary d ∷ comma ∷ []) G))
    (on_entry_list (limited_number_of d) (behind (comma ∷ []) (behind us (behind (symbol ordinary (codes "interpretation") ∷ open_paren ∷ symbol ordinary d ∷ comma ∷ []) G)))
    (λ vs es every. on_closed (command.Interpretation (by_name (limited_number_of d) es))
    (behind vs (behind (comma ∷ []) (behind us (behind (symbol ordinary (codes "interpretation") ∷ open_paren ∷ symbol ordinary d ∷ comma ∷ []) G))))
    (subst (λ rest. G (symbol ordinary (codes "interpretation") ∷ open_paren ∷ symbol ordinary d ∷ comma ∷ rest) (command.Interpretation (by_name (limited_number_of d) es)))
    (append_assoc us (comma ∷ vs) (close_paren ∷ full_stop ∷ []))
    (h (spelled.sentence ordinary "interpretation" (symbol ordinary d ∷ comma ∷ (us ++ comma ∷ vs))) (by_name (limited_number_of d) es) (spelled.interpretation (numbered d i) all every)))))))))

-- `(name).`
on_name :
    (said : List ℕ → Command) (G : List Lexeme → Command → Type 0)
    → ((us : List Lexeme) (name : List ℕ) → SpellsName us name → G (open_paren ∷ (us ++ close_paren ∷ full_stop ∷ [])) (said name)) → Gives (opened (name_form said)) G
on_name said G h =
    on_open (name_form said) G
    (on_symbol (λ name. closed (said (symbol_text name))) (behind (open_paren ∷ []) G)
    (λ k s. on_closed (said s) (behind (open_paren ∷ symbol k s ∷ []) G) (h (symbol k s ∷ []) s (named k s))))

-- `([name, .., name]).`
on_names :
    (said : List (List ℕ) → Command) (G : List Lexeme → Command → Type 0)
    → ((us : List Lexeme) (names : List (List ℕ)) → Separated SpellsName us names → G (open_paren ∷ (in_square us ++ close_paren ∷ full_stop ∷ [])) (said names)) → Gives (opened (names_form said)) G
on_names said G h =
    on_open (names_form said) G
    (on_open_square (members Symbol [] (λ names. closed (said names))) (behind (open_paren ∷ []) G)
    (λ ts c e. names_within (length ts) [] (λ names. closed (said names)) (behind (open_paren ∷ open_square ∷ []) G)
    (λ us names all. on_closed (said names) (behind (us ++ close_square ∷ []) (behind (open_paren ∷ open_square ∷ []) G)) (h us names all))
    ts c e (omega arith)))

-- a value, with its first token read
on_value :
    (name : List ℕ) (G : List Lexeme → Command → Type 0) → ((us : List Lexeme) (v : Value) → SpellsValue us v → G (us ++ close_paren ∷ full_stop ∷ []) (command.Assign name v))
    → (k : Sort) (s : List ℕ) → Gives (behind_value name (symbol k s)) (behind (symbol k s ∷ []) G)
on_value name G h k s = by (bytes_eq s (codes "-")) refl
  where
    no_number : (j : Sort) → is_number (symbol j (codes "-")) ≡ false
    no_number ordinary = refl
    no_number j = refl

    behind_sign : (j : Sort) (t : Lexeme) → fits NumeralOrClose t ≡ true → Gives (behind_dash name t) (behind (t ∷ []) (behind (symbol j (codes "-") ∷ []) G))
    behind_sign j close_paren i = on_stopped (command.Assign name (value.Symbol (codes "-"))) (behind (symbol j (codes "-") ∷ close_paren ∷ []) G) (h (symbol j (codes "-") ∷ []) (value.Symbol (codes "-")) (word j (codes "-") (no_number j)))
    behind_sign j (symbol ordinary d) i = digits (is_numeral d) refl
      where
        digits : (b : Bool) → is_numeral d ≡ b → Gives (behind_dash name (symbol ordinary d)) (behind (symbol ordinary d ∷ []) (behind (symbol j (codes "-") ∷ []) G))
        digits true e =
            on_closed (command.Assign name (value.Number true (whole_in (symbol ordinary d)))) (behind (symbol j (codes "-") ∷ symbol ordinary d ∷ []) G)
            (h (symbol j (codes "-") ∷ symbol ordinary d ∷ []) (value.Number true (whole_in (symbol ordinary d))) (negative j d e))
        digits false e = absurd (false≢true (rw e at i))
    behind_sign j t i = absurd (false≢true i)

    sign : (j : Sort) → Gives (token NumeralOrClose (behind_dash name)) (behind (symbol j (codes "-") ∷ []) G)
    sign j = on_token NumeralOrClose (behind_dash name) (behind (symbol j (codes "-") ∷ []) G) (behind_sign j)

    plain : (j : Sort) (b : Bool) → is_number (symbol j s) ≡ b → Gives (closed (command.Assign name (value_named (symbol j s)))) (behind (symbol j s ∷ []) G)
    plain j false e = rw e (on_closed (command.Assign name (value.Symbol s)) (behind (symbol j s ∷ []) G) (h (symbol j s ∷ []) (value.Symbol s) (word j s e)))
    plain ordinary true e =
        let here : value_named (symbol ordinary s) ≡ value.Number false (whole_in (symbol ordinary s)) = named_number (whole_in (symbol ordinary s)) e in
        subst (λ v. Gives (closed (command.Assign name v)) (behind (symbol ordinary s ∷ []) G)) (sym here)
        (on_closed (command.Assign name (value.Number false (whole_in (symbol ordinary s)))) (behind (symbol ordinary s ∷ []) G) (h (symbol ordinary s ∷ []) (value.Number false (whole_in (symbol ordinary s))) (numeral s e)))
      where
        named_number : (n : ℕ) → is_numeral s ≡ true → (if is_numeral s then value.Number false n else value.Symbol s) ≡ value.Number false n
        named_number n i = rw i refl
    plain j true e = absurd (false≢true e)

    by : (b : Bool) → bytes_eq s (codes "-") ≡ b → Gives (behind_value name (symbol k s)) (behind (symbol k s ∷ []) G)
    by true e = subst (λ t. Gives (behind_value name (symbol k t)) (behind (symbol k t ∷ []) G)) (sym ((bytes_eq-Decides s (codes "-")).0 e)) (sign k)
    by false e = rw e (plain k (is_number (symbol k s)) refl)

-- `(name, value).`
on_assignment :
    (G : List Lexeme → Command → Type 0)
    → ((us vs : List Lexeme) (name : List ℕ) (v : Value) → SpellsName us name → SpellsValue vs v → G (open_paren ∷ ((us ++ comma ∷ vs) ++ close_paren ∷ full_stop ∷ [])) (command.Assign name v))
    → Gives (opened assign_form) G
on_assignment G h =
    on_open assign_form G
    (on_symbol (λ name. token Comma (λ _. token Symbol (behind_value (symbol_text name)))) (behind (open_paren ∷ []) G)
    (λ k s. on_comma (token Symbol (behind_value s)) (behind (open_paren ∷ symbol k s ∷ []) G)
    (on_symbol (behind_value s) (behind (open_paren ∷ symbol k s ∷ comma ∷ []) G)
    (on_value s (behind (open_paren ∷ symbol k s ∷ comma ∷ []) G) (λ us v told. h (symbol k s ∷ []) us s v (named k s) told)))))

-- the symbols of operators
on_operators :
    (p : ℕ) (type : List ℕ) (G : List Lexeme → Command → Type 0)
    → ((us : List Lexeme) (names : List (List ℕ)) → SpellsOperators us names → G (us ++ close_paren ∷ full_stop ∷ []) (command.Op p type names))
    → Gives (token SymbolOrOpenSquare (behind_type p type)) G
on_operators p type G h = on_token SymbolOrOpenSquare (behind_type p type) G by
  where
    by : (t : Lexeme) → fits SymbolOrOpenSquare t ≡ true → Gives (behind_type p type t) (behind (t ∷ []) G)
    by (symbol k s) i = on_closed (command.Op p type (s ∷ [])) (behind (symbol k s ∷ []) G) (h (symbol k s ∷ []) (s ∷ []) (single (named k s)))
    by open_square i = λ ts c e. names_within (length ts) [] (λ names. closed (command.Op p type names)) (behind (open_square ∷ []) G)
        (λ us names all. on_closed (command.Op p type names) (behind (us ++ close_square ∷ []) (behind (open_square ∷ []) G)) (h (in_square us) names (several all)))
        ts c e (omega arith)
    by t i = absurd (false≢true i)

-- `(precedence, type, symbols).`
on_declaration :
    (G : List Lexeme → Command → Type 0)
    → ((us vs ws : List Lexeme) (p : ℕ) (type : List ℕ) (names : List (List ℕ)) → SpellsNumber us p → SpellsName vs type → SpellsOperators ws names
    → G (open_paren ∷ ((us ++ comma ∷ (vs ++ comma ∷ ws)) ++ close_paren ∷ full_stop ∷ [])) (command.Op p type names))
    → Gives (opened declaration) G
on_declaration G h =
    on_open declaration G
    (on_number (λ p. token Comma (λ _. token Symbol (λ type. token Comma (λ _. token SymbolOrOpenSquare (behind_type (number_said p) (symbol_text type)))))) (behind (open_paren ∷ []) G)
    (λ d i. on_comma (token Symbol (λ type. token Comma (λ _. token SymbolOrOpenSquare (behind_type (limited_number_of d) (symbol_text type))))) (behind (open_paren ∷ symbol ordinary d ∷ []) G)
    (on_symbol (λ type. token Comma (λ _. token SymbolOrOpenSquare (behind_type (limited_number_of d) (symbol_text type)))) (behind (open_paren ∷ symbol ordinary d ∷ comma ∷ []) G)
    (λ k s. on_comma (token SymbolOrOpenSquare (behind_type (limited_number_of d) s)) (behind (open_paren ∷ symbol ordinary d ∷ comma ∷ symbol k s ∷ []) G)
    (on_operators (limited_number_of d) s (behind (open_paren ∷ symbol ordinary d ∷ comma ∷ symbol k s ∷ comma ∷ []) G)
    (λ us names told. h (symbol ordinary d ∷ []) (symbol k s ∷ []) us (limited_number_of d) s names (numbered d i) (named k s) told))))))

-- what stands behind the word of a command spells it
worded : (b : Bool) (k : Sort) (w : Word) → Gives (behind_word w) (behind (symbol k (text_of w) ∷ []) (Spells b))
worded b k word_named.Set = on_name (command.Flag true) (behind (symbol k (codes "set") ∷ []) (Spells b)) (λ us name told. sets k told)
worded b k word_named.Clear = on_name (command.Flag false) (behind (symbol k (codes "clear") ∷ []) (Spells b)) (λ us name told. clears k told)
worded b k word_named.Assign = on_assignment (behind (symbol k (codes "assign") ∷ []) (Spells b)) (λ us vs name v told valued. assigns k told valued)
worded b k word_named.Op = on_declaration (behind (symbol k (codes "op") ∷ []) (Spells b)) (λ us vs ws p type names counted told all. declares k counted told all)
worded b k word_named.FunctionOrder = on_names command.FunctionOrder (behind (symbol k (codes "function_order") ∷ []) (Spells b)) (λ us names all. orders_functions k all)
worded b k word_named.PredicateOrder = on_names command.PredicateOrder (behind (symbol k (codes "predicate_order") ∷ []) (Spells b)) (λ us names all. orders_predicates k all)
worded b k word_named.Formulas = on_name command.Formulas (behind (symbol k (codes "formulas") ∷ []) (Spells b)) (λ us name told. opens_formulas k told)
worded b k word_named.List = on_name command.List (behind (symbol k (codes "list") ∷ []) (Spells b)) (λ us name told. opens_list k told)
worded b k word_named.If = on_name command.If (behind (symbol k (codes "if") ∷ []) (Spells b)) (λ us name told. begins_block k told)
worded b k word_named.EndIf = on_stopped command.EndIf (behind (symbol k (codes "end_if") ∷ []) (Spells b)) (ends_block k)

-- what the forms of commands read, its tokens spell
pub command_spelled : (tester : Bool) (ts : List Lexeme) (c : Command) → SaysCommand (commands_of tester) ts c → Spells tester ts c
command_spelled false ts c e = on_command_word (Spells false) (worded false) ts c e
command_spelled true ts c e = on_tester_word (Spells true) (worded true) (on_interpretation (Spells true) (λ us it told. interprets refl told)) ts c e

abbrev interpretation_of : ByName → Command → ByName
interpretation_of it (command.Interpretation other) = other
interpretation_of it c = it

abbrev SpellsIt : List Lexeme → Command → Type 0
SpellsIt ts c = (it : ByName) → c ≡ command.Interpretation it → SpellsInterpretation ts it

pub interpretation_spelled : (ts : List Lexeme) (it : ByName) → SaysCommand interpretation_item ts (command.Interpretation it) → SpellsInterpretation ts it
interpretation_spelled ts it e =
    on_this InterpretationWord (symbol ordinary (codes "interpretation")) interpretation SpellsIt (λ t i. sym (word_is (codes "interpretation") t i))
    (on_interpretation SpellsIt (λ us other told me i. subst (SpellsInterpretation us) (ap (interpretation_of other) i) told))
    ts (command.Interpretation it) e it refl
