use Rattle.std.proofs.Common.{◌≡◌, ◌<◌, ℕ, List, length, sym, subst}
use Rattle.ladr_problem.specs.Adding.{IsItemRefused}
use Rattle.ladr_problem.specs.Draft.{sofar_of}
use Rattle.ladr_problem.specs.File.{File, start_at}
use Rattle.ladr_problem.specs.Items.{in_front}
use Rattle.ladr_problem.specs.Reading.{IsTaken, IsKept}
use Rattle.ladr_problem.specs.Stops.{IsStop, by_refusal}
use Rattle.ladr_problem.specs.declared.stop.RefusalAt.{RefusalAt}
use Rattle.ladr_lex.specs.Cuts.{Piece, pieces_of}
use Rattle.ladr_lex.specs.Lexeme.{lexemes_of}
use Rattle.ladr_lex.specs.declared.token.Token.{Token}
use Rattle.ladr_problem.proofs.CutLemmas.{front_some}
use Rattle.ladr_problem.proofs.Files.{taken_goes, refused_stops}
use Rattle.ladr_problem.proofs.file.take_item.Goals as goal

-- where the item begins, and that it has tokens
begun : (end byte : ℕ) (ts us : List Token) → us ≡ ts → byte ≡ start_at end (pieces_of us) 0 → byte ≡ start_at end (pieces_of ts) 0
begun end byte ts us e h = subst (λ (vs : List Token). byte ≡ start_at end (pieces_of vs) 0) e h

some : (ts us : List Token) → us ≡ ts → 0 < length us → 0 < length ts
some ts us e h = subst (λ (vs : List Token). 0 < length vs) e h

pub returns-in-Ok-clause-ok : goal.returns-in-Ok-clause-ok
returns-in-Ok-clause-ok c = λ items o f.
    let ts = c.args.tokens.now.items in
    let byte = begun c.args.end c.in-Some.byte ts c.deref.result.now c.deref.ensures.value (c.in-Some.ensures.1 c.args.end) in
    let taken = subst (λ (at : ℕ). IsTaken c.args.program at (sofar_of c.args.draft.now) (lexemes_of ts) (sofar_of c.take.new.self)) byte c.in-Ok.ensures.ok in
    subst (λ (xs : List (List Piece)). File c.args.program c.args.end (sofar_of c.args.draft.now) xs o) (sym (front_some ts items (some ts c.deref.result.now c.deref.ensures.value c.in-Some.ensures.0)))
    (taken_goes c.args.program c.args.end (sofar_of c.args.draft.now) ts items (sofar_of c.take.new.self) o taken f)

pub returns-in-Err-clause-stop : goal.returns-in-Err-clause-stop
returns-in-Err-clause-stop c = λ items.
    let ts = c.args.tokens.now.items in
    let byte = begun c.args.end c.in-Some.byte ts c.deref.result.now c.deref.ensures.value (c.in-Some.ensures.1 c.args.end) in
    let refused = subst (λ (at : ℕ). IsItemRefused c.args.program at (sofar_of c.args.draft.now) (lexemes_of ts) c.in-Err.why) byte c.in-Err.ensures.refused in
    let stops = refused_stops c.args.program c.args.end (sofar_of c.args.draft.now) ts items c.in-Err.why refused in
    let here = subst (λ (xs : List (List Piece)). IsStop (File c.args.program c.args.end (sofar_of c.args.draft.now) xs) (by_refusal c.args.end (pieces_of ts) c.in-Err.why)) (sym (front_some ts items (some ts c.deref.result.now c.deref.ensures.value c.in-Some.ensures.0))) stops in
    let kept = subst (λ (us : List Token). IsKept ts us c.in-Err.why) (sym c.deref-in-Err.ensures.value) c.in-Err.ensures.bad in
    subst (λ (why : RefusalAt). IsStop (File c.args.program c.args.end (sofar_of c.args.draft.now) (in_front (pieces_of ts) items)) why) (sym (c.by_refusal.ensures ts byte kept)) here
