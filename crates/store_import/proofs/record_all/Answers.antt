use Rattle.std.proofs.Common.{◌+◌, subst, arith}
use Rattle.model_session.specs.Whole.{send_msg}
use Rattle.model_standby.specs.Store.{changed}
use Rattle.store_areas.specs.declared.Shape.{Shape}
use Rattle.store_areas.specs.Areas.{Changed}
use Rattle.store_areas.proofs.Sameness.{same_self, same_then}
use Rattle.fix_field.specs.Reading.{part}
use Rattle.store_import.specs.Importing.{message}
use Rattle.store_import.proofs.Recording.{begins, ends, rises, below_top, goes_on, good_at, is_read}
use Rattle.store_import.proofs.record_all.Goals as goal

pub loop-at-init : goal.loop-at-init
loop-at-init c = (begins _ _ _ _ _ c.requires.place_bound c.requires.place_value c.requires.file_value, same_self _)

pub returns-in_default-clause-is : goal.returns-in_default-clause-is
returns-in_default-clause-is c =
    let g = good_at c.loop-at.invariant.0 c.loop-at-test.true in
    absurd (c.in_default.ensures g.number g.is)

pub slice_bounds-record_message-count : goal.slice_bounds-record_message-count
slice_bounds-record_message-count c =
    let k = is_read c.loop-at.invariant.0 c.loop-at-test.true _ c.in-Ok.ensures in
    omega (arith, k.further, k.within)

pub slice_bounds-record_message-start : goal.slice_bounds-record_message-start
slice_bounds-record_message-start c =
    let k = is_read c.loop-at.invariant.0 c.loop-at-test.true _ c.in-Ok.ensures in
    omega (arith, k.further, k.within)

pub slice_bounds-record_message-end : goal.slice_bounds-record_message-end
slice_bounds-record_message-end c =
    let k = is_read c.loop-at.invariant.0 c.loop-at-test.true _ c.in-Ok.ensures in
    omega (arith, k.further, k.within)

pub record_message-requires-clause-next_le_seq : goal.record_message-requires-clause-next_le_seq
record_message-requires-clause-next_le_seq c =
    let k = is_read c.loop-at.invariant.0 c.loop-at-test.true _ c.in-Ok.ensures in
    omega (arith, rises c.loop-at.invariant.0 _ k)

pub record_message-requires-clause-seq_bound : goal.record_message-requires-clause-seq_bound
record_message-requires-clause-seq_bound c = below_top c.loop-at.invariant.0 _ (is_read c.loop-at.invariant.0 c.loop-at-test.true _ c.in-Ok.ensures)

pub loop-at-smaller : goal.loop-at-smaller
loop-at-smaller c =
    let k = is_read c.loop-at.invariant.0 c.loop-at-test.true _ c.in-Ok.ensures in
    omega (arith, k.further, k.within)

pub loop-at-preserved : goal.loop-at-preserved
loop-at-preserved c =
    let a = c.args in
    let l = c.loop-at in
    let m = c.in-Ok.m in
    let n = c.record_message.new.store in
    let sent = send_msg (l.last + 1) (message m.number (part a.file.now l.at m.end)) in
    let done : Changed a.store.now.shape a.place (changed a.store.now.shape.bytes a.store.now.shape.messages sent) l.store.words.now n.words.now l.store.bytes.now n.bytes.now =
    subst (λ (s : Shape). Changed s a.place (changed s.bytes s.messages sent) l.store.words.now n.words.now l.store.bytes.now n.bytes.now) l.invariant.1.shape c.record_message.ensures.is in
    (goes_on l.invariant.0 _ (is_read l.invariant.0 c.loop-at-test.true _ c.in-Ok.ensures) n.words.now n.bytes.now done, same_then _ _ _ l.invariant.1 c.record_message.ensures.same)

pub returns-clause-is : goal.returns-clause-is
returns-clause-is c = ends c.loop-at.invariant.0 (omega arith)
