use Rattle.store_resend.proofs.Passes.{room_all}
use Rattle.store_resend.proofs.has_room.Goals as goal

pub returns-then-rest-room : goal.returns-then-rest-room
returns-then-rest-room c = room_all _ _ _ _ _ _ _ c.if-rest-room.true
