-- Each call of itself is for a smaller number.
use Rattle.metric.proofs.decimal.+push_decimal.Given as goal

abbrev pub decreases-push_decimal : goal.decreases-push_decimal
decreases-push_decimal l = l.number
