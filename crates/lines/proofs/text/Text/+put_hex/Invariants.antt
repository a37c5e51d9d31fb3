-- Each call of itself is for one digit fewer.
use Rattle.lines.proofs.text.Text.+put_hex.Given as goal

abbrev pub decreases-put_hex : goal.decreases-put_hex
decreases-put_hex l = l.count
