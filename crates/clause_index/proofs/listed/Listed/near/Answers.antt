use Rattle.std.proofs.Common.{◌≡◌, ℕ, suc, Bool, true, false, IsTrue, ◌&&◌, if◌then◌else◌, List, [], ◌∷◌, filter, refl, sym, ap, subst, ◌∙◌, arith}
use Rattle.std.specs.List.{AllByRecursion, Contains}
use Rattle.clause_index.specs.Entries.{is_short_of, first_atom, short_atoms}
use Rattle.clause_index.specs.Filing.{HasAllShort}
use Rattle.discrim_tree.specs.Entries.{Indexed, numbers_found}
use Rattle.discrim_tree.specs.Seeking.{passes}
use Rattle.fol_core.specs.Tree.{Tree}
use Rattle.fol_core.specs.TermView.{tree_of}
use Rattle.prover_steps.specs.Clashing.{Held}
use Rattle.prover_steps.specs.HeldOrder.{numbers_of}
use Rattle.clause_index.proofs.Entries.{numbers_are}
use Rattle.clause_index.proofs.listed.Listed.near.Goals as goal

-- the numbers of those that pass are there
each_on : (test : Held → Bool) (n : ℕ) (ns : List ℕ) (hs : List Held) → AllByRecursion (λ h. IsTrue (test h) → Contains ns h.number) hs → AllByRecursion (λ h. IsTrue (test h) → Contains (n ∷ ns) h.number) hs
each_on test n ns [] all = tt
each_on test n ns (h ∷ hs) all = ((λ pass. let w = all.0 pass in let within = w.1 in (suc w.0, omega (arith, within), w.2)), each_on test n ns hs all.1)

each_there : (test : Held → Bool) (hs : List Held) → AllByRecursion (λ h. IsTrue (test h) → Contains (numbers_of (filter test hs)) h.number) hs
each_there test [] = tt
each_there test (h ∷ hs) = by (test h) refl (each_there test hs)
  where
    passing : List Held
    passing = filter test hs

    here : (b : Bool) → b ≡ true → Contains (numbers_of (if b then h ∷ passing else passing)) h.number
    here true e = (0, omega arith, refl)
    here false e = let same : false ≡ true = e in cc

    by : (b : Bool) → test h ≡ b → AllByRecursion (λ k. IsTrue (test k) → Contains (numbers_of passing) k.number) hs
        → AllByRecursion (λ k. IsTrue (test k) → Contains (numbers_of (if b then h ∷ passing else passing)) k.number) (h ∷ hs)
    by true e rest = ((λ pass. here true refl), each_on test h.number (numbers_of passing) hs rest)
    by false e rest = ((λ pass. let same : false ≡ true = sym e ∙ pass in cc), rest)

each_so : (test : Held → Bool) (ns ms : List ℕ) (hs : List Held) → ((n : ℕ) → Contains ns n → Contains ms n) → AllByRecursion (λ h. IsTrue (test h) → Contains ns h.number) hs → AllByRecursion (λ h. IsTrue (test h) → Contains ms h.number) hs
each_so test ns ms [] on all = tt
each_so test ns ms (h ∷ hs) on all = ((λ pass. on h.number (all.0 pass)), each_so test ns ms hs on all.1)

short_near : (sign : Bool) (test : Tree → Bool) (hs : List Held) (es : List Indexed) (ms : List ℕ) → es ≡ short_atoms sign hs → ((n : ℕ) → Contains (numbers_found test es) n → Contains ms n) → HasAllShort sign test hs ms
short_near sign test hs es ms tied on =
    each_so (λ h. is_short_of sign h && test (first_atom h)) (numbers_of (filter (λ h. is_short_of sign h && test (first_atom h)) hs)) ms hs
    (λ n there. on n (subst (λ (ns : List ℕ). Contains ns n) (sym (ap (numbers_found test) tied ∙ numbers_are (is_short_of sign) first_atom test hs)) there))
    (each_there (λ h. is_short_of sign h && test (first_atom h)) hs)

pub returns-clause-found : goal.returns-clause-found
returns-clause-found c =
    short_near c.args.sign (λ s. passes c.args.sought.now (tree_of c.args.atom.now) s) c.args.self.now c.index.result.now c.in_ok-numbers.numbers.items c.index.ensures c.in_ok-numbers.ensures.whole
