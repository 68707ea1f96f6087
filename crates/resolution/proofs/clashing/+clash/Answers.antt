use Rattle.std.specs.Borrow.{Bor}
use Rattle.std.proofs.lemmas.List.{length-map}
use Rattle.std.proofs.Common.{◌≡◌, ◌++◌, ◌∷◌, [], ◌||◌, ◌==◌, Bool, List, map, flat_map, ap, ap₂, sym, ◌∙◌, arith}
use Rattle.fol_core.specs.Literals.{ClauseTree}
use Rattle.derivation.specs.declared.words.Satellite.{Satellite}
use Rattle.inference.specs.Lent.{lent_clauses}
use Rattle.proof_words.specs.Written.{satellite}
use Rattle.prover_steps.specs.Concluded.{Conclusion}
use Rattle.resolution.specs.Trying.{clashing_word, partner_of, tried_at, all_tried}
use Rattle.resolution.specs.View.{all_conclusions}
use Rattle.resolution.specs.Ways.{ways_of, is_tried, comes_of}
use Rattle.resolution.specs.declared.partners.Candidate.{Candidate}
use Rattle.resolution.proofs.Clashes.{ways_with, ways_first, stuck_comes, more_ways, unused, lent_more}
use Rattle.resolution.proofs.Going.{flat_added, flat_all, flat_mapped, flat_none, nothing_added}
use Rattle.resolution.proofs.clashing.+clash.Goals as goal

pub clash_on-returns-then-not-branch-clause-made : goal.clash_on-returns-then-not-branch-clause-made
clash_on-returns-then-not-branch-clause-made t c =
    let ss = c.args.taken.now.satellites.items in
    let cs = lent_clauses c.args.taken.now.clauses.items in
    let n = c.args.nucleus in
    nothing_added (all_conclusions c.args.made.now.items) _
    (flat_none (comes_of (clashing_word n.kind n.number) n.given c.args.used ss cs) (ways_of (all_tried c.args.places.now))
    (λ ms. stuck_comes n.kind n.number n.given c.args.used ss cs ms (length-map c.args.taken.now.clauses.items (λ (b : Bor ClauseTree). b.now) ∙ c.requires) (c.in_ok-may_go_on.ensures c.if-not-branch.true)))

pub clash_on-loop-candidate-preserved : goal.clash_on-loop-candidate-preserved
clash_on-loop-candidate-preserved t c =
    let ss = c.args.taken.now.satellites.items in
    let cs = lent_clauses c.args.taken.now.clauses.items in
    let n = c.args.nucleus in
    let k = c.in-Some.place.now.place in
    let ts = all_tried c.in-Some.rest.now in
    let each : Candidate → List Conclusion = λ d. ways_with n.kind n.number n.given c.args.used ss cs k ts (partner_of d) in
    let more : all_conclusions c.take_on.new.made.items ≡ all_conclusions c.loop-candidate.made.items ++ each c.candidate-item.result =
    c.in_ok-take_on.ensures.made
    ∙ ap₂ (λ (x : List Satellite) (y : List ClauseTree). all_conclusions c.loop-candidate.made.items ++ ways_with n.kind n.number n.given c.args.used x y k ts (partner_of c.candidate-item.result))
    c.loop-candidate.invariant.satellites (ap lent_clauses c.loop-candidate.invariant.clauses) in
    record {
      satellites = c.in_ok-take_on.ensures.satellites ∙ c.loop-candidate.invariant.satellites;
      clauses = c.in_ok-take_on.ensures.clauses ∙ c.loop-candidate.invariant.clauses;
      made = flat_added each c.deref-candidate-items.result.now c.loop-candidate.candidate-index c.candidate-item.result (all_conclusions c.args.made.now.items) (all_conclusions c.loop-candidate.made.items)
          (all_conclusions c.take_on.new.made.items) (omega arith) c.candidate-item.is c.loop-candidate.invariant.made more;
    }

pub clash_on-returns-clause-made : goal.clash_on-returns-clause-made
clash_on-returns-clause-made t c =
    let ss = c.args.taken.now.satellites.items in
    let cs = lent_clauses c.args.taken.now.clauses.items in
    let n = c.args.nucleus in
    let k = c.in-Some.place.now.place in
    let ts = all_tried c.in-Some.rest.now in
    let old = all_conclusions c.args.made.now.items in
    let items = c.deref-candidate-items.result.now in
    let each = ways_with n.kind n.number n.given c.args.used ss cs k ts in
    let comes = comes_of (clashing_word n.kind n.number) n.given c.args.used ss cs in
    flat_all (λ (d : Candidate). each (partner_of d)) items c.loop-candidate.candidate-index old (all_conclusions c.loop-candidate.made.items) (omega arith) c.loop-candidate.invariant.made
    ∙ ap (λ ns. old ++ ns)
    (sym (flat_mapped each partner_of items) ∙ ap (λ (ds : List Candidate). flat_map each (map partner_of ds)) c.deref-candidate-items.ensures.value
    ∙ sym (ways_first comes (tried_at c.in-Some.place.now) ts) ∙ ap (λ ms. flat_map comes (ways_of (all_tried ms))) (sym c.in-Some.ensures.cases.0))

pub take_on-returns-then-not-may_be_used-clause-made : goal.take_on-returns-then-not-may_be_used-clause-made
take_on-returns-then-not-may_be_used-clause-made t c =
    let n = c.args.nucleus in
    let p = partner_of c.args.candidate.now in
    let ts = all_tried c.args.rest.now in
    nothing_added (all_conclusions c.args.made.now.items) _
    (unused n.kind n.number n.given c.args.used c.args.taken.now.satellites.items (lent_clauses c.args.taken.now.clauses.items) c.args.place p ts
    (ap (λ m. (c.args.used || n.given == m) || is_tried n.given ts) (sym c.number-number.ensures) ∙ ap (λ b. b || is_tried n.given ts) (sym c.is_used-uses.ensures) ∙ sym c.may_be_used.ensures
    ∙ c.if-not-may_be_used.true))

pub take_on-returns-clause-made : goal.take_on-returns-clause-made
take_on-returns-clause-made t c =
    let n = c.args.nucleus in
    let p = partner_of c.args.candidate.now in
    let ts = all_tried c.args.rest.now in
    let ss = c.args.taken.now.satellites.items in
    let cs = lent_clauses c.args.taken.now.clauses.items in
    let sats : c.push.new.self.items ≡ ss ++ satellite c.args.place p.0.number p.1 ∷ [] = c.in_ok-push.ensures.items ∙ ap (λ m. ss ++ satellite c.args.place m p.1 ∷ []) c.number-number.ensures in
    let clauses : lent_clauses c.push-2.new.self.items ≡ cs ++ p.0.clause ∷ [] = lent_more c.args.taken.now.clauses.items c.push-2.new.self.items c.clause.result p.0.clause c.in_ok-push-2.ensures.items c.clause.ensures in
    let uses : c.is_used-uses.result ≡ (c.args.used || n.given == p.0.number) = c.is_used-uses.ensures ∙ ap (λ m. c.args.used || n.given == m) c.number-number.ensures in
    c.in_ok-clash_on.ensures.made
    ∙ ap (λ ns. all_conclusions c.args.made.now.items ++ ns)
    (ap (λ (b : Bool). flat_map (comes_of (clashing_word n.kind n.number) n.given b c.push.new.self.items (lent_clauses c.push-2.new.self.items)) (ways_of ts)) uses
    ∙ ap₂ (λ (x : List Satellite) (y : List ClauseTree). flat_map (comes_of (clashing_word n.kind n.number) n.given (c.args.used || n.given == p.0.number) x y) (ways_of ts)) sats clauses
    ∙ more_ways n.kind n.number n.given c.args.used ss cs c.args.place p ts)
