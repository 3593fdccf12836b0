-- A turn of the iterator over messages, said of the log and the position that it is known to have. Assumes nothing.
use Rattle.std.proofs.Common.{◌≡◌, length, subst}
use Rattle.store_log.specs.Log.{NextMessage}
use Rattle.store_log.specs.declared.FoundMessage.{FoundMessage}
use Rattle.store_log.specs.declared.LogPosition.{LogPosition}
use Rattle.store_log.specs.declared.log.Log.{Log}

-- what is found at a position of a log
abbrev pub Next : Log → LogPosition → FoundMessage → Type 0
Next log p found =
    NextMessage (length log.bytes.now) log.max log.next log.words.now log.bytes.now p.left p.dist found.number found.span.start found.span.first found.span.rest found.next.left found.next.dist

pub next_at : (log' log : Log) (p' p : LogPosition) (found : FoundMessage) → log' ≡ log → p' ≡ p → Next log' p' found → Next log p found
next_at log' log p' p found e k n = subst (λ (x : LogPosition). Next log x found) k (subst (λ (x : Log). Next x p' found) e n)
