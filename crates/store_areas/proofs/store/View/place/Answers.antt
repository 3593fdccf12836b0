use Rattle.store_areas.proofs.Lifting.{spot_place, spot_words_part, spot_bytes_part}
use Rattle.store_areas.proofs.store.View.place.Goals as goal

pub returns-clause-is : goal.returns-clause-is
returns-clause-is c =
    let v = c.args.self.now in
    let at = c.spot-spot in
    spot_place v.shape c.args.place at.result.words_start at.result.words_end at.result.bytes_start at.result.bytes_end at.ensures.at v.words.now v.bytes.now v.rules c.requires

pub returns-clause-words : goal.returns-clause-words
returns-clause-words c =
    let v = c.args.self.now in
    let at = c.spot-spot in
    spot_words_part v.shape c.args.place at.result.words_start at.result.words_end at.result.bytes_start at.result.bytes_end at.ensures.at v.words.now v.bytes.now v.rules c.requires

pub returns-clause-bytes : goal.returns-clause-bytes
returns-clause-bytes c =
    let v = c.args.self.now in
    let at = c.spot-spot in
    spot_bytes_part v.shape c.args.place at.result.words_start at.result.words_end at.result.bytes_start at.result.bytes_end at.ensures.at v.words.now v.bytes.now v.rules c.requires
