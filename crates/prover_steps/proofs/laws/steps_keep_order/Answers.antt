use Rattle.prover_steps.proofs.Ordered.{queue_gives, line_gives, keeps_order, retires_order, puts_order, meets_order, subsumes_order, deletes_order, rewrites_order, rule_order, rules_order, works_order, kept_order, settled_order, processed_order, giving_order, picked_waits}
use Rattle.prover_steps.proofs.laws.steps_keep_order.Goals as goal

pub returns : goal.returns
returns c = record {
  queue = queue_gives;
  line = line_gives;
  keeping = keeps_order;
  retiring = retires_order;
  putting_back = puts_order;
  meeting = meets_order;
  subsuming = subsumes_order;
  deleting = deletes_order;
  rewriting = rewrites_order;
  rule = rule_order;
  rules = rules_order;
  working = works_order;
  after_kept = kept_order;
  settling = settled_order;
  processing = processed_order;
  giving = giving_order;
  picking = picked_waits;
}
