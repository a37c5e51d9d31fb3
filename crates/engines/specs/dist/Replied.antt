-- A reply in memory to a line on a map: this project's own rule.
use Rattle.std.specs.Prelude.{◌≡◌, ℕ, List}
use Rattle.metric.specs.declared.edge.Edge.{Edge}
use Rattle.bits.specs.Cells.{Cells}
use Rattle.lines.specs.Replies.{reply_line}
use Rattle.lines.specs.declared.answer.Answer.{Answer}
use Rattle.engines.specs.dist.Query.{IsReplyTo, asked_in, status_of}
use Rattle.engines.specs.declared.dist.reply.QueryReply.{QueryReply}

-- this is the reply to the line on the map
pub record IsReplyOf (edge : Edge) (line : List ℕ) (cells : Cells) (reply : QueryReply) :
    Type 0 where
  pub answer : Answer
  pub replies : IsReplyTo cells edge (asked_in line) answer
  pub text_is : reply.text ≡ reply_line answer
  pub status_is : reply.status ≡ status_of answer
