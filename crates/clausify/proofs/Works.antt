-- Two parts worked on in turn.
use Rattle.std.proofs.Common.{ℕ, ◌+◌, length, List, ◌++◌, map, Result, Ok, Err, OnOk, ap, ap₂, ◌∙◌, append_assoc, arith}
use Rattle.fol_core.specs.EntryView.{skolem_axiom_of}
use Rattle.fol_core.specs.Fol.{Fol, conjunction}
use Rattle.fol_core.specs.SkolemAxioms.{SkolemAxiom}
use Rattle.clausify.specs.Made.{Works}
use Rattle.clausify.specs.Skolem.{somes, skolem_axioms}
use Rattle.clausify.specs.View.{substitution_kept}
use Rattle.clausify.specs.declared.clausal.Work.{Work}

pub works_both : (symbols : List ℕ) (a b c : Work) (f g : Fol) → Works symbols a b f → Works symbols b c g → Works symbols a c (conjunction f g)
works_both symbols a b c f g h k = (
  k.0 ∙ ap₂ (λ (vs : List SkolemAxiom) ws. vs ++ ws) h.0 (
      ap (λ n. skolem_axioms symbols n b.scope.items (substitution_kept b.terms.items) g) h.1
      ∙ ap (λ s. skolem_axioms symbols (length a.entries.items + somes f) s (substitution_kept b.terms.items) g) h.2
      ∙ ap (λ ts. skolem_axioms symbols (length a.entries.items + somes f) a.scope.items (substitution_kept ts) g) h.3
      )
      ∙ append_assoc (map skolem_axiom_of a.entries.items) (skolem_axioms symbols (length a.entries.items) a.scope.items (substitution_kept a.terms.items) f) (skolem_axioms symbols (length a.entries.items + somes f) a.scope.items (substitution_kept a.terms.items) g),
  omega (arith, h.1, k.1),
  k.2 ∙ h.2,
  k.3 ∙ h.3,
)

pub on_ok : {T E : Type 0} (P : Type 0) (r : Result T E) → P → OnOk r P
on_ok P (Ok x) p = p
on_ok P (Err e) p = tt
