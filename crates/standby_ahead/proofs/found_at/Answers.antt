use Rattle.store_place.specs.Keys.{lent_key}
use Rattle.standby_ahead.proofs.Prints.{other_print}
use Rattle.standby_ahead.proofs.found_at.Goals as goal

pub returns-else-may_be : goal.returns-else-may_be
returns-else-may_be c =
    let a = c.args in
    let m = a.mine.now in
    other_print m.view.shape m.view.words.now m.view.bytes.now m.prints (lent_key a.key.now) a.n a.place a.print m.right c.requires.place_bound c.requires.print_value c.may_be.ensures c.if-may_be.false
