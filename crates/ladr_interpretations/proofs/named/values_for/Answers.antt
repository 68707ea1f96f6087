use Rattle.std.proofs.Common.{◌≡◌, Bool, true, false, cond, [], Some, None, ap, sym, ◌∙◌}
use Rattle.std.proofs.lemmas.Bool.{ltb-true}
use Rattle.fol_core.specs.SymbolTable.{number_of, kind_at, is_same_kind}
use Rattle.ladr_interpretations.specs.Good.{heads_of}
use Rattle.ladr_interpretations.proofs.ValuesFor.{values_none, values_some, values_at, values_of_entry}
use Rattle.ladr_interpretations.proofs.named.values_for.Goals as goal

pub returns-in_default : goal.returns-in_default
returns-in_default c =
    let ts = c.args.entries.now in
    let n : number_of (heads_of ts) c.args.name.now c.args.arity ≡ None = rw (← c.requires) (sym c.in_default.ensures.number) in
    sym (values_none ts c.args.name.now c.args.arity c.args.kind n)

pub returns-then-not-is_same_kind : goal.returns-then-not-is_same_kind
returns-then-not-is_same_kind c =
    let ts = c.args.entries.now in
    let k = c.in-Some.head.0 in
    let n : number_of (heads_of ts) c.args.name.now c.args.arity ≡ Some k = rw (← c.requires) (sym c.in-Some.ensures.number) in
    let other : is_same_kind (kind_at (heads_of ts) k) c.args.kind ≡ false = rw (← c.requires, ← c.kind.ensures) (sym c.if-not-is_same_kind.ensures) in
    sym (values_some ts c.args.name.now c.args.arity k c.args.kind n ∙ ap (λ (b : Bool). cond b (values_at ts k) []) other)

pub returns-in-Some-get : goal.returns-in-Some-get
returns-in-Some-get c =
    let ts = c.args.entries.now in
    let k = c.in-Some.head.0 in
    let n : number_of (heads_of ts) c.args.name.now c.args.arity ≡ Some k = rw (← c.requires) (sym c.in-Some.ensures.number) in
    let same : is_same_kind (kind_at (heads_of ts) k) c.args.kind ≡ true = rw (← c.requires, ← c.kind.ensures) (sym c.if-not-is_same_kind.ensures) in
    let found : c.in-Some-get.entry.now.values ≡ values_at ts k =
    values_of_entry ts k c.in-Some-get.entry.now (ltb-true _ _ (sym c.in-Some-get.ensures.lookup.0)) c.in-Some-get.ensures.lookup.1 in
    c.values.ensures ∙ found ∙ sym (values_some ts c.args.name.now c.args.arity k c.args.kind n ∙ ap (λ (b : Bool). cond b (values_at ts k) []) same)
