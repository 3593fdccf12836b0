-- What a turn of the iterator over messages gives: nothing where none is left, else the next message. Assumes nothing.
use Rattle.std.specs.Prelude.{◌≡◌, Option, MatchOption, length}
use Rattle.store_log.specs.Log.{NextMessage}
use Rattle.store_log.specs.declared.FoundMessage.{FoundMessage}
use Rattle.store_log.specs.declared.log.Messages.{Messages}

abbrev pub StepsMessages : Messages → Option FoundMessage → Messages → Type 0
StepsMessages s r t = (t.log ≡ s.log) × MatchOption r ((s.position.left ≡ 0) × (t.position ≡ s.position))
    (λ found. (t.position ≡ found.next) × NextMessage (length s.log.bytes.now) s.log.max s.log.next s.log.words.now s.log.bytes.now s.position.left s.position.dist found.number found.span.start found.span.first found.span.rest found.next.left found.next.dist)
