-- Each call of itself is for a smaller number.
use Rattle.lines.proofs.text.Text.+put_long.Given as goal

abbrev pub decreases-put_long : goal.decreases-put_long
decreases-put_long l = l.number
