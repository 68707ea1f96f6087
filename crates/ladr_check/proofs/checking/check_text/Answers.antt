use Rattle.std.proofs.Common.{◌≡◌, ◌∙◌, ℕ, List, [], Ok, Err, refl, subst}
use Rattle.ladr_check.proofs.Offering.{read_well_formed, read_table, read_relations, refused_by}
use Rattle.ladr_check.specs.Checking.{IsChecked}
use Rattle.ladr_check.specs.Offered.{offers, offered_by, refuses_proofs}
use Rattle.ladr_intake.proofs.Commands.{in_every_language, none_runs, none_taken, own_runs}
use Rattle.proof_text.specs.Refused.{IsProofError}
use Rattle.ladr_check.proofs.checking.check_text.Goals as goal

pub returns-in_err-bytes : goal.returns-in_err-bytes
returns-in_err-bytes g c = none_runs offers refuses_proofs (Unit {0}) (λ x text. text ≡ []) IsChecked _ _ _ _ c.in_err-bytes.field-0.0 c.from_residual.result tt (in_every_language refuses_proofs _ _ _ _ _ c.in_err-bytes.ensures.none) c.from_residual.ensures.1

pub returns-in_err-read : goal.returns-in_err-read
returns-in_err-read g c =
    let bytes = c.in_ok-bytes.bytes.items in
    none_runs offers refuses_proofs (Unit {0}) (λ x text. text ≡ []) IsChecked _ _ _ _ c.in_err-read.field-0.0 c.from_residual-in_err-read.result tt
    (none_taken refuses_proofs _ _ bytes _ _ _ c.read_proof.result _ (IsProofError c.deref.result.now) (λ e h. refused_by _ _ bytes e c.in_ok-bytes.ensures.read (subst (λ (bs : List ℕ). IsProofError bs e) c.deref.ensures.value h)) c.read_proof.ensures.refused c.in_ok-bytes.ensures.kept c.in_err-read.ensures.refused) c.from_residual-in_err-read.ensures.1

pub tell-requires-clause-well_formed : goal.tell-requires-clause-well_formed
tell-requires-clause-well_formed g c =
    let read = c.read_proof.ensures.read in
    read_well_formed (λ m bytes s h. c.problems_are_proper.ensures m s (c.problems_grow.ensures m bytes s h)) _ c.in_ok-read.read (rw c.in_ok-read.ensures.read at read)

pub tell-requires-clause-table : goal.tell-requires-clause-table
tell-requires-clause-table g c =
    let read = c.read_proof.ensures.read in
    read_table (λ m bytes s h. c.problems_are_proper.ensures m s (c.problems_grow.ensures m bytes s h)) _ c.in_ok-read.read (rw c.in_ok-read.ensures.read at read)

pub tell-requires-clause-no_relation : goal.tell-requires-clause-no_relation
tell-requires-clause-no_relation g c =
    let read = c.read_proof.ensures.read in
    read_relations (λ m bytes s h. c.problems_are_proper.ensures m s (c.problems_grow.ensures m bytes s h)) _ c.in_ok-read.read (rw c.in_ok-read.ensures.read at read) c.own_table.ensures

pub returns-in_err-tell : goal.returns-in_err-tell
returns-in_err-tell g c =
    let read = c.read_proof.ensures.read in
    let offered = offered_by c.in_ok-read.read in
    own_runs offers refuses_proofs (Unit {0}) (λ x text. text ≡ []) IsChecked _ _ c.in_ok-bytes.bytes.items offered _ _ _ (Err c.in_err-tell.field-0.0) c.from_residual-in_err-tell.result (c.in_ok-read.ensures.kept ∙ c.in_ok-bytes.ensures.kept) c.in_ok-bytes.ensures.read
    (subst (λ (bs : List ℕ). offers bs offered) c.deref.ensures.value (c.in_ok-read.read, (rw c.in_ok-read.ensures.read at read), refl)) c.from_residual-in_err-tell.ensures.1 c.in_err-tell.ensures

pub returns : goal.returns
returns g c =
    let read = c.read_proof.ensures.read in
    let offered = offered_by c.in_ok-read.read in
    own_runs offers refuses_proofs (Unit {0}) (λ x text. text ≡ []) IsChecked _ _ c.in_ok-bytes.bytes.items offered _ _ _ (Ok c.in_ok-tell.field-0) _ (c.in_ok-read.ensures.kept ∙ c.in_ok-bytes.ensures.kept) c.in_ok-bytes.ensures.read
    (subst (λ (bs : List ℕ). offers bs offered) c.deref.ensures.value (c.in_ok-read.read, (rw c.in_ok-read.ensures.read at read), refl)) refl c.in_ok-tell.ensures
