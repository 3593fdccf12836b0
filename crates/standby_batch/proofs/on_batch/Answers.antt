use Rattle.model_text.specs.Version.{latest}
use borrow.Author.Rules.{rules}
use Rattle.std.proofs.Common.{refl, sym, ◌∙◌}
use Rattle.model_frame.specs.Reading.{read_change, read_app_record}
use Rattle.frame_op.specs.Answers.{run_of}
use Rattle.standby_segments.specs.Segments.{hold_areas}
use Rattle.frame_fields.specs.Answers.{part_of}
use Rattle.standby_batch.proofs.Laws.{with_records, stale, handled_given, kept_of, sound_of}
use Rattle.standby_batch.specs.Batches.{found_for}
use Rattle.standby_batch.proofs.on_batch.Goals as goal

pub returns-then-not-no_records : goal.returns-then-not-no_records
returns-then-not-no_records c = with_records c.args.standing.settings c.args.standing.counters c.args.standing.lookup c.args.batch.handle c.args.batch.epoch c.args.batch.commit_no (part_of c.args.batch.part) (run_of (read_change latest) c.args.frame.now c.args.batch.ops) (run_of read_app_record c.args.frame.now c.args.batch.app_records) c.args.words.now c.args.bytes.now (hold_areas c.args.area.now c.args.ends.now) c.requires.rules (sym c.no_records.ensures ∙ c.if-not-no_records.true) c.refuse.ensures

pub returns-then-is_stale : goal.returns-then-is_stale
returns-then-is_stale c = stale c.args.standing.settings c.args.standing.counters c.args.standing.lookup c.args.batch.handle c.args.batch.epoch c.args.batch.commit_no (part_of c.args.batch.part) (run_of (read_change latest) c.args.frame.now c.args.batch.ops) (run_of read_app_record c.args.frame.now c.args.batch.app_records) c.args.words.now c.args.bytes.now (hold_areas c.args.area.now c.args.ends.now) c.requires.rules (sym c.no_records.ensures ∙ c.if-not-no_records.false) (sym c.is_stale.ensures ∙ c.if-is_stale.true) c.unchanged.ensures c.nack-answer.ensures

pub on_handle-part_result-requires-clause-sound : goal.on_handle-part_result-requires-clause-sound
on_handle-part_result-requires-clause-sound c = sound_of c.args.standing.lookup c.args.batch.handle c.args.words.now (hold_areas c.args.area.now c.args.ends.now) c.requires.record_rules c.bound_for.ensures

pub returns : goal.returns
returns c =
    let a = c.args in
    let s = a.standing in
    let x = a.batch in
    let r = c.run_of-changes.ensures in
    handled_given s.settings s.counters s.lookup x.handle x.epoch x.commit_no (part_of x.part) (run_of (read_change latest) a.frame.now x.ops) (run_of read_app_record a.frame.now x.app_records) a.words.now a.bytes.now (hold_areas a.area.now a.ends.now) c.requires.rules (sym c.no_records.ensures ∙ c.if-not-no_records.false) (sym c.is_stale.ensures ∙ c.if-is_stale.false) {found = found_for s.lookup x.handle} refl
    (rw (r.protocol, r.part.changes, c.latest.ensures, c.bound_for.ensures) at c.on_handle-part_result.ensures.is) (rw (r.protocol, c.latest.ensures, c.bound_for.ensures) at c.on_handle-part_result.ensures.area) (rw c.latest.ensures at r.part.bytes) (kept_of s.lookup x.handle a.words.now (hold_areas a.area.now a.ends.now) c.requires.record_rules) refl c.part_outcome.ensures (search rules) (search rules)
