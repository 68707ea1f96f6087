use Rattle.prover_steps.proofs.Rising.{put_rises, put_between, put_last, without_rises, leaves_one, put_all_rises, merges}
use Rattle.prover_steps.proofs.laws.clauses_stay_in_order.Goals as goal

pub returns : goal.returns
returns c = record {
  putting = put_rises;
  between = put_between;
  last = put_last;
  leaving = without_rises;
  one_left = leaves_one;
  merged = λ s o. merges s.waiting s.usable o.waiting_rise.rising o.usable_rise.rising;
  rising = λ s o. put_all_rises s.waiting s.usable o.waiting_rise.rising o.usable_rise.rising o.held_once;
}
