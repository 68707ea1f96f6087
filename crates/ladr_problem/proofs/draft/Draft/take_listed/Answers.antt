use Rattle.std.proofs.Common.{List, subst, refl}
use Rattle.std.proofs.lemmas.Result.{err_from_is_err_and, on_ok_weaker, IfErr-weaker}
use Rattle.fol_core.specs.RawView.{raw_of}
use Rattle.ladr_problem.specs.ItemView.{item_of}
use Rattle.ladr_problem.specs.ListItem.{closing, term, names, IsListItem, IsItemFault, IsShallow}
use Rattle.ladr_problem.specs.declared.item.ListItem as code
use Rattle.ladr_reader.specs.Table.{table_of}
use Rattle.ladr_lex.specs.Lexeme.{lexemes_of}
use Rattle.ladr_lex.specs.declared.token.Token.{Token}
use Rattle.ladr_problem.specs.Adding.{within}
use Rattle.ladr_problem.specs.Draft.{sofar_of}
use Rattle.ladr_problem.proofs.Takings.{term_taken, term_refused, names_taken, names_refused, item_refused}
use Rattle.ladr_problem.proofs.draft.Draft.take_listed.Goals as goal

pub returns-in-End-clause-ok : goal.returns-in-End-clause-ok
returns-in-End-clause-ok c =
    let read = subst (λ (i : code.ListItem). IsListItem c.args.list (table_of c.args.self.now.settings.operators) (lexemes_of c.deref.result.now) (item_of i)) c.in-End.is c.in_ok-read_list_item.ensures.read in
    (within closing, (c.args.list, c.requires, subst (λ (ts : List Token). IsListItem c.args.list (table_of c.args.self.now.settings.operators) (lexemes_of ts) closing) c.deref.ensures.value read), refl)

-- the item is the term
read : (c : goal.After-take_term) → IsListItem c.args.list (table_of c.args.self.now.settings.operators) (lexemes_of c.args.tokens.now.items) (term (raw_of c.in-Term.raw))
read c =
    subst (λ (ts : List Token). IsListItem c.args.list (table_of c.args.self.now.settings.operators) (lexemes_of ts) (term (raw_of c.in-Term.raw))) c.deref.ensures.value
    (subst (λ (i : code.ListItem). IsListItem c.args.list (table_of c.args.self.now.settings.operators) (lexemes_of c.deref.result.now) (item_of i)) c.in-Term.is c.in_ok-read_list_item.ensures.read)

shallow : (c : goal.After-take_term) → IsShallow (lexemes_of c.args.tokens.now.items) (term (raw_of c.in-Term.raw))
shallow c =
    subst (λ (ts : List Token). IsShallow (lexemes_of ts) (term (raw_of c.in-Term.raw))) c.deref.ensures.value
    (subst (λ (i : code.ListItem). IsShallow (lexemes_of c.deref.result.now) (item_of i)) c.in-Term.is c.in_ok-read_list_item.ensures.shallow)

pub returns-in-Term-clause-ok : goal.returns-in-Term-clause-ok
returns-in-Term-clause-ok c =
    on_ok_weaker c.take_term.result
    (term_taken c.args.program c.args.byte (sofar_of c.args.self.now) c.args.list c.requires (lexemes_of c.args.tokens.now.items) (raw_of c.in-Term.raw) _ (read c) (shallow c))
    c.take_term.ensures.ok

pub returns-in-Term-clause-refused : goal.returns-in-Term-clause-refused
returns-in-Term-clause-refused c =
    IfErr-weaker c.take_term.result _ _
    (term_refused c.args.program c.args.byte (sofar_of c.args.self.now) c.args.list c.requires (lexemes_of c.args.tokens.now.items) (raw_of c.in-Term.raw) (read c) (shallow c))
    c.take_term.ensures.refused

pub returns-in-Names-clause-ok : goal.returns-in-Names-clause-ok
returns-in-Names-clause-ok c =
    let read_names =
    subst (λ (ts : List Token). IsListItem c.args.list (table_of c.args.self.now.settings.operators) (lexemes_of ts) (names c.in-Names.names)) c.deref.ensures.value
    (subst (λ (i : code.ListItem). IsListItem c.args.list (table_of c.args.self.now.settings.operators) (lexemes_of c.deref.result.now) (item_of i)) c.in-Names.is c.in_ok-read_list_item.ensures.read) in
    on_ok_weaker c.take_names.result
    (names_taken c.args.program c.args.byte (sofar_of c.args.self.now) c.args.list c.requires (lexemes_of c.args.tokens.now.items) c.in-Names.names _ read_names)
    c.take_names.ensures.ok

pub returns-in-Names-clause-refused : goal.returns-in-Names-clause-refused
returns-in-Names-clause-refused c =
    let read_names =
    subst (λ (ts : List Token). IsListItem c.args.list (table_of c.args.self.now.settings.operators) (lexemes_of ts) (names c.in-Names.names)) c.deref.ensures.value
    (subst (λ (i : code.ListItem). IsListItem c.args.list (table_of c.args.self.now.settings.operators) (lexemes_of c.deref.result.now) (item_of i)) c.in-Names.is c.in_ok-read_list_item.ensures.read) in
    IfErr-weaker c.take_names.result _ _
    (names_refused c.args.program c.args.byte (sofar_of c.args.self.now) c.args.list c.requires (lexemes_of c.args.tokens.now.items) c.in-Names.names read_names)
    c.take_names.ensures.refused

pub returns-in_err-read_list_item-clause-refused : goal.returns-in_err-read_list_item-clause-refused
returns-in_err-read_list_item-clause-refused c =
    let p = err_from_is_err_and c.from_residual.result c.from_residual.ensures.1 in
    let fault = subst (λ (ts : List Token). IsItemFault c.args.list (table_of c.args.self.now.settings.operators) (lexemes_of ts) c.in_err-read_list_item.field-0.0) c.deref.ensures.value c.in_err-read_list_item.ensures.fault in
    rw (p.1, p.2) (item_refused c.args.program c.args.byte (sofar_of c.args.self.now) c.args.list c.requires (lexemes_of c.args.tokens.now.items) c.in_err-read_list_item.field-0.0 fault)
