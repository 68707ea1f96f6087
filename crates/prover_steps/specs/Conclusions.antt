-- Which rules a search has, and all conclusions of a given clause.
use Rattle.std.specs.Prelude.{Bool, true, not, nat_le, ◌&&◌, ◌||◌, if◌then◌else◌, List, [], ◌++◌, length}
use Rattle.std.specs.List.{list_all, list_any}
use Rattle.fol_core.specs.Literals.{ClauseTree}
use Rattle.fol_core.specs.Tree.{Tree}
use Rattle.derivation.specs.Equations.{is_equation}
use Rattle.ladr_options.specs.declared.options.Options.{Options}
use Rattle.prover_steps.specs.Clashing.{Held, places_with, resolvents_of, hyperresolvents_of, unit_resolvents_of, factors_of}
use Rattle.prover_steps.specs.Concluded.{Conclusion}
use Rattle.prover_steps.specs.Equalities.{paramodulants_of, reflexive_resolvents_of}

-- the rules in force
pub record RulesInForce : Type 0 where
  pub binary : Bool
  pub hyper : Bool
  pub units : Bool
  pub factors : Bool
  pub equalities : Bool

abbrev pub has_equation : ClauseTree → Bool
has_equation c = list_any (λ l. is_equation l.atom) c

abbrev pub has_relation : ClauseTree → Bool
has_relation c = list_any (λ l. not (is_equation l.atom)) c

-- a clause with at most one positive literal
abbrev pub is_horn : ClauseTree → Bool
is_horn c = nat_le (length (places_with true c)) 1

-- paramodulation is in force where it is set, or, by `auto`, where a clause has an equation
abbrev pub takes_equations : Options → List ClauseTree → Bool
takes_equations o cs = o.paramodulation || (o.auto && list_any has_equation cs)

-- By `auto` there is resolution where a literal is no equation, or there is no paramodulation.
abbrev pub needs_resolution : Options → List ClauseTree → Bool
needs_resolution o cs =
    o.auto && (list_any has_relation cs || not (takes_equations o cs))

-- The rules that are set; with those that `auto` chooses by the input clauses: hyperresolution for
-- clauses with at most one positive literal each, else binary resolution and factoring.
abbrev pub rules_in_force : Options → List ClauseTree → RulesInForce
rules_in_force o cs = record {
  binary = o.binary_resolution || (needs_resolution o cs && not (list_all is_horn cs));
  hyper = o.hyper_resolution || (needs_resolution o cs && list_all is_horn cs);
  units = o.ur_resolution;
  factors = o.factor || (needs_resolution o cs && not (list_all is_horn cs));
  equalities = takes_equations o cs;
}

abbrev pub where_set : Bool → List Conclusion → List Conclusion
where_set rule cs = if rule then cs else []

-- All conclusions of a given clause with the clauses that are held, itself among them by its
-- number, under an order of terms.
abbrev pub conclusions_of : RulesInForce → (Tree → Tree → Bool) → List Held → Held →
    List Conclusion
conclusions_of rules greater held g =
    where_set rules.binary (resolvents_of held g)
    ++ (where_set rules.hyper (hyperresolvents_of held g)
    ++ (where_set rules.units (unit_resolvents_of held g)
    ++ (where_set rules.factors (factors_of g)
    ++ (where_set rules.equalities (paramodulants_of greater held g)
    ++ where_set rules.equalities (reflexive_resolvents_of g)))))
