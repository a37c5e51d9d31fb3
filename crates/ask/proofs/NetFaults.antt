-- Why a run of `ask` says that the network is at fault.
use Rattle.std.proofs.Common.{◌≡◌, ◌+◌, ℕ, List, Option, inl, inr, refl}
use Rattle.std.specs.Prelude.{◌⊎◌, ◌^◌}
use Rattle.metric.specs.Stream.{Appends, Takes}
use Rattle.ask.specs.Asking.{IsRequest}
use Rattle.ask.specs.Passing.{EndsWithin}
use Rattle.ask.specs.Talking.{GoesUnanswered, HasAllRounds, IsNetFault, LacksReply, Rounds, Talk}
use Rattle.ask.specs.Talking.{counted_for, talk_at}

-- after a request was sent, a read failed, or the stream ended within its reply
pub within_reply : {R W S E : Type 0} → S → R ⊎ E → (R ⊎ W) ⊎ (S × E)
within_reply sent (inl failed) = inl (inl failed)
within_reply sent (inr ended) = inr (sent, ended)

-- where no call failed, a request that was read and sent goes unanswered
pub unanswered : {F : Type 0} (before after : Talk) (request : List ℕ) → IsRequest request
    → Takes before.unread request after.unread
    → F ⊎ (Appends before.sent request after.sent
    × EndsWithin (counted_for request) before.unheard after.unheard)
    → F ⊎ GoesUnanswered before after
unanswered before after request is read (inl failed) = inl failed
unanswered before after request is read (inr (sent, ended)) = inr record {
  request = request;
  request_is = is;
  read = read;
  sent = sent;
  heard = ended;
}

-- exchanges, and then a failure or a request that goes unanswered, are the network's fault
pub IsNetFault-behind : {F : Type 0} (count : ℕ) (before between after : Talk)
    → Rounds count before between → F ⊎ GoesUnanswered between after → IsNetFault F before after
IsNetFault-behind count before between after rounds (inl failed) = inl failed
IsNetFault-behind count before between after rounds (inr last) =
    inr (inl record { between = between; exchanges = rounds.all; unanswered = last })

-- where no more exchanges are had, the network is at fault
pub IsNetFault-all : {F : Type 0} (count : ℕ) (before after : Talk) → Rounds count before after
    → count + 1 ≡ 2 ^ 64 → IsNetFault F before after
IsNetFault-all count before after rounds most = inr (inr record {
  between = after;
  count = count;
  rounds = rounds;
  most = most;
  read = refl;
  sent = refl;
  heard = refl;
})

-- what is printed later changes nothing of it
pub IsNetFault-printed : {F : Type 0} (before : Talk) (unread sent unheard one other : Option
    (List ℕ)) → IsNetFault F before (talk_at unread sent unheard one)
    → IsNetFault F before (talk_at unread sent unheard other)
IsNetFault-printed before unread sent unheard one other (inl failed) = inl failed
IsNetFault-printed before unread sent unheard one other (inr (inl lacks)) = inr (inl record {
  between = lacks.between;
  exchanges = lacks.exchanges;
  unanswered = record {
    request = lacks.unanswered.request;
    request_is = lacks.unanswered.request_is;
    read = lacks.unanswered.read;
    sent = lacks.unanswered.sent;
    heard = lacks.unanswered.heard;
  };
})
IsNetFault-printed before unread sent unheard one other (inr (inr all)) = inr (inr record {
  between = all.between;
  count = all.count;
  rounds = all.rounds;
  most = all.most;
  read = all.read;
  sent = all.sent;
  heard = all.heard;
})
