-- The answer line of an event: this project's own rule. Numbers are plain decimal, except the word
-- of a tile's row, which is 16 hexadecimal digits.
use Rattle.std.specs.Prelude.{ℕ, List, ◌∷◌, ◌++◌, codes, Result, Ok, Err}
use Rattle.std.specs.Fmt.{decimal}
use Rattle.metric.specs.Refusal.{refusal_text}
use Rattle.events.specs.declared.event.NotEnabled.{NotEnabled}
use Rattle.events.specs.declared.event.StepReply.{StepReply}
use Rattle.events.specs.declared.event.StepReply.TheVariants as says
use Rattle.lines.specs.Hex.{hex_digits}
use Rattle.lines.specs.Replies.{numbers_of, numbers_text}

-- the text of an event's answer, or of that it isn't enabled, without the LF
abbrev pub step_text : Result StepReply NotEnabled → List ℕ
step_text (Ok (says.Announced version)) = codes "PIN " ++ decimal version
step_text (Ok (says.Now place version)) = codes "NOW " ++ (decimal place ++ (32 ∷ decimal version))
step_text (Ok (says.Block block)) = codes "BLOCK " ++ decimal block
step_text (Ok (says.Word word)) = codes "WORD " ++ hex_digits 16 word
step_text (Ok says.Left) = codes "LEFT"
step_text (Ok (says.Confirmed version)) = codes "EXACT " ++ decimal version
step_text (Ok (says.Ordered steps)) = codes "ORDERED " ++ decimal steps
step_text (Ok (says.Refused refusal)) = refusal_text refusal
step_text (Ok says.Written) = codes "WRITE"
step_text (Ok (says.Scanned reader word)) = codes "SCAN " ++ (decimal reader ++ (32 ∷ decimal word))
step_text (Ok (says.Committed reply)) = codes "OK" ++ numbers_text (numbers_of reply)
step_text (Err not_enabled) = codes "NOT ENABLED"
