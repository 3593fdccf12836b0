use Rattle.std.proofs.Common.{refl}
use Rattle.c_changes.proofs.Laws.{recorded_lowest, not_recorded}
use Rattle.c_changes.proofs.store_record.Goals as goal

pub returns-then-refusal-ne0 : goal.returns-then-refusal-ne0
returns-then-refusal-ne0 c = not_recorded c.args.shape c.args.place c.args.text.now _ _ _ _ c.record-refusal.ensures c.if-refusal-ne0.true

pub returns : goal.returns
returns c = recorded_lowest c.args.shape c.args.place c.args.text.now _ _ _ _ c.lowest.result c.record-refusal.ensures c.if-refusal-ne0.false c.lowest.ensures c.unwrap_or.ensures refl
